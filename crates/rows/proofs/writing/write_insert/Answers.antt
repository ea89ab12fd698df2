-- The head fills the first twelve bytes, and the data those behind it.
use Rattle.std.proofs.Common.{◌≡◌, ◌+◌, ◌-◌, ◌++◌, length, drop, arith, ap, ◌∙◌}
use Rattle.rows.proofs.Spelling.{both_written}
use Rattle.rows.proofs.writing.write_insert.Goals as goal
use Rattle.std.proofs.lemmas.List.{length-take}

pub copy_from_slice-requires : goal.copy_from_slice-requires
copy_from_slice-requires c =
    omega (arith, length-take 12 c.args.buffer.now, ap length c.insert_head.ensures)

pub returns-clause-written : goal.returns-clause-written
returns-clause-written c =
    let buffer = c.args.buffer.now in
    let bytes = c.args.bytes.now in
    let head = c.insert_head.result in
    let same : 12 + length bytes - 12 ≡ length bytes = omega arith in
    rw (c.copy_from_slice.ensures.after, c.copy_from_slice-2.ensures.after)
    (both_written buffer head bytes 12 (length bytes) (12 + length bytes - 12) (ap length c.insert_head.ensures) same
    ∙ ap (λ front. front ++ (bytes ++ drop (12 + length bytes) buffer)) c.insert_head.ensures)
