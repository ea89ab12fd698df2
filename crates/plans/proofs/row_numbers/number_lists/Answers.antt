-- One row more has its number.
use Rattle.std.proofs.Common.{◌≡◌, ◌+◌, Some, slice_get, sym, subst}
use Rattle.plans.specs.Inner.Cells.{key_at, AreKeyed}
use Rattle.plans.proofs.RowKeys.{extends-more, keyed-more}
use Rattle.plans.proofs.row_numbers.number_lists.Goals as goal

pub loop-row-preserved : goal.loop-row-preserved
loop-row-preserved c =
    let keys = c.loop-row.numbering.keys.items in
    let after = c.number_of.new.self.keys.items in
    let key = key_at c.args.columns.now c.args.places.now in
    let is : slice_get after c.in_ok-number.number ≡ Some (key c.loop-row.row) =
    cc (c.in_ok-number.ensures.number, c.in_ok-fill_key.ensures) in
    record {
      numbering = c.in_ok-number.ensures.numbering;
      extends = extends-more c.args.numbering.now.keys.items keys after c.loop-row.invariant.extends c.in_ok-number.ensures.extends;
      keyed =
          subst (AreKeyed after key (c.loop-row.row + 1)) (sym c.in_ok-push.ensures.items)
          (keyed-more keys after key c.loop-row.row c.loop-row.numbers.items c.in_ok-number.number c.loop-row.invariant.keyed
          c.in_ok-number.ensures.extends is);
    }
