-- The last identifier of the last block is above all others.
use Rattle.std.proofs.Common.{◌≡◌, ◌+◌, ◌-◌, ◌==◌, false, suc, length, get_or, sym, ap, subst, ◌∙◌, arith}
use Rattle.std.specs.Map.{keys_of}
use Rattle.std.proofs.lemmas.Bool.Decides.{nat_tests}
use Rattle.std.proofs.lemmas.Map.Entries.{length-keys_of}
use Rattle.rows.specs.Tables.{Table}
use Rattle.apply.specs.Orders.{AllUnder}
use Rattle.apply.specs.Inner.Joins.{joined}
use Rattle.apply.proofs.Counted.{joined-last}
use Rattle.apply.proofs.sequence.greatest.Goals as goal

pub returns : goal.returns
returns c =
    let blocks = c.args.blocks.now in
    let m = length blocks - 1 in
    let d = c.index-blocks-blocks.result in
    let ids = c.ids-ids.result.now in
    let n = length ids - 1 in
    let rows = (get_or blocks m d).rows in
    let are : ids ≡ keys_of rows = c.ids-ids.ensures.value ∙ ap (λ (block : Table). keys_of block.rows) c.index-blocks-blocks.is in
    let full : (length blocks == 0) ≡ false = sym c.is_empty.ensures ∙ c.if-is_empty.false in
    let last : suc m ≡ length blocks = grind (arith, nat_tests, full) in
    let some = c.requires.rows m d (omega (arith, last)) in
    let many : length rows ≡ suc n = omega (arith, ap length are, length-keys_of rows, some) in
    let bound = joined-last blocks m n d 0 last c.requires.rise many in
    subst (λ ids. AllUnder (get_or ids n 0 + 1) (joined blocks)) (sym are) bound
