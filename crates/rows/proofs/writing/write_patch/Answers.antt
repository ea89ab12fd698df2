-- The head fills the first fourteen bytes, and the data those behind it.
use Rattle.std.proofs.Common.{◌≡◌, ◌+◌, ◌-◌, ◌++◌, length, drop, arith, ap, ◌∙◌}
use Rattle.rows.proofs.Spelling.{both_written}
use Rattle.rows.proofs.writing.write_patch.Goals as goal
use Rattle.std.proofs.lemmas.List.{length-take}

pub copy_from_slice-requires : goal.copy_from_slice-requires
copy_from_slice-requires c =
    omega (arith, length-take 14 c.args.buffer.now, ap length c.patch_head.ensures)

pub returns-clause-written : goal.returns-clause-written
returns-clause-written c =
    let buffer = c.args.buffer.now in
    let bytes = c.args.bytes.now in
    let head = c.patch_head.result in
    let same : 14 + length bytes - 14 ≡ length bytes = omega arith in
    rw (c.copy_from_slice.ensures.after, c.copy_from_slice-2.ensures.after)
    (both_written buffer head bytes 14 (length bytes) (14 + length bytes - 14) (ap length c.patch_head.ensures) same
    ∙ ap (λ front. front ++ (bytes ++ drop (14 + length bytes) buffer)) c.patch_head.ensures)
