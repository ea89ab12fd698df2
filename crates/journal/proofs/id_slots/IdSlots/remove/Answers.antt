-- The identifier is in no other bucket than its own, and that is cleared.
use Rattle.std.proofs.Common.{◌≡◌, ◌<◌, ◌*◌, ℕ, length, refl, arith, subst}
use Rattle.journal.specs.Inner.Slots.{bucket_in}
use Rattle.journal.proofs.Slots.{id-removed, few-removed, zero-removed}
use Rattle.journal.proofs.id_slots.IdSlots.remove.Goals as goal

pub returns-then-id-eq0 : goal.returns-then-id-eq0
returns-then-id-eq0 c = zero-removed c.args.self.now c.args.id c.if-id-eq0.true

pub returns-then-len-lt-BUCKET : goal.returns-then-len-lt-BUCKET
returns-then-len-lt-BUCKET c =
    let some : 0 < c.args.id = omega (arith, c.if-id-eq0.false) in
    let few : length c.self.inside.slots.items < 16 = omega arith in
    λ r. rw (← c.self.view_is) (few-removed c.self.inside.slots.items c.args.id some c.self.invariant few r)

pub returns : goal.returns
returns c =
    let some : 0 < c.args.id = omega (arith, c.if-id-eq0.false) in
    let len : c.len-2.result ≡ length c.self.inside.slots.items = omega arith in
    let first : c.first_of-first.result ≡ 16 * bucket_in (length c.self.inside.slots.items) c.args.id =
    subst (λ (n : ℕ). c.first_of-first.result ≡ 16 * bucket_in n c.args.id) len c.first_of-first.ensures.value in
    λ r. rw (← c.self.view_is) (id-removed c.self.inside.slots.items c.clear.new.slots.items c.args.id c.first_of-first.result _
    c.clear.ensures some c.self.invariant first refl r)
