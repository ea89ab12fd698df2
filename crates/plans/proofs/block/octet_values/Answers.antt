-- A value more is made of the bytes; and at the end none is left.
use Rattle.std.proofs.Common.{ℕ, ◌+◌, ◌-◌, List, [], ◌∷◌, ◌++◌, length, nat_lt, ap, ◌∙◌, arith}
use Rattle.rows.specs.declared.value.Value.{Value}
use Rattle.rows.specs.declared.value.Value.TheVariants.{Octets}
use Rattle.rows.specs.Limits.{octets_max}
use Rattle.store.specs.Lent.{octets_in}
use Rattle.plans.proofs.Blocks.{octets-read, octets-more, octets-all}
use Rattle.plans.proofs.block.octet_values.Goals as goal

pub loop-row-preserved : goal.loop-row-preserved
loop-row-preserved c =
    let before = c.loop-row.values.items in
    let octets = c.in-Some.octets in
    let left = c.args.count - (c.loop-row.row + 1) in
    let front = octets-read (nat_lt octets_max (length c.split_at.result.0.now)) octets c.split_at.result.0.now c.in-Some.ensures in
    ap (λ (values : List Value). values ++ octets_in left c.args.width c.split_at.result.1.now) c.in_ok-push.ensures.items
    ∙ ap (λ (bytes : List ℕ). (before ++ Octets octets ∷ []) ++ octets_in left c.args.width bytes) c.split_at.ensures.back
    ∙ octets-more before (octets_in c.args.count c.args.width c.args.bytes.now) c.args.count c.loop-row.row c.args.width c.loop-row.rest.now
    octets c.loop-row-test.true (front ∙ c.split_at.ensures.front) c.loop-row.invariant

pub returns : goal.returns
returns c =
    octets-all c.loop-row.values.items (octets_in c.args.count c.args.width c.args.bytes.now) c.args.count c.loop-row.row c.args.width
    c.loop-row.rest.now (omega (arith, c.loop-row-test.false)) c.loop-row.invariant
