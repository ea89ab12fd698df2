-- A replica is asked first whether it would renew, and a refusal leaves it as it was.
use Rattle.std.proofs.Common.{◌≡◌, length, refl, sym, ◌∙◌, arith}
use Rattle.std.specs.Vec.{vec_len}
use Rattle.std.proofs.lemmas.Option.{slice_get_read}
use Rattle.world.proofs.Moving.{renew_told, renew_lacks, renew_sent}
use Rattle.world.proofs.cores.Cores.renew.Goals as goal

pub returns-then-not-may_renew : goal.returns-then-not-may_renew
returns-then-not-may_renew c =
    let there = rw (← c.self.view_is) at c.requires.there in
    let at = slice_get_read c.self.inside.replicas.items _ c.args.number c.index_mut.result.now refl there c.index_mut.ensures.value in
    rw c.ask_output.ensures
    (renew_told _ _ c.self.view_is c.args.number c.index_mut.result.now c.renew.new.self at c.in-Err.fault c.in-Err.ensures.refused)

pub returns-in_default : goal.returns-in_default
returns-in_default c =
    let there = rw (← c.self.view_is) at c.requires.there in
    let at = slice_get_read c.self.inside.replicas.items _ c.args.number c.index.result.now refl there c.index.ensures in
    renew_lacks _ _ c.self.view_is c.args.number c.index.result.now c.index.result.now at
    (sym c.may_renew.ensures ∙ c.if-not-may_renew.false) _ refl

pub returns-then-is_err : goal.returns-then-is_err
returns-then-is_err c =
    let there = rw (← c.self.view_is) at c.requires.there in
    let at = slice_get_read c.self.inside.replicas.items _ c.args.number c.index.result.now refl there c.index.ensures in
    renew_lacks _ _ c.self.view_is c.args.number c.index.result.now c.index.result.now at
    (sym c.may_renew.ensures ∙ c.if-not-may_renew.false) _ (rw c.reserve.ensures.items c.self.view_is)

pub returns-in_default-with_capacity : goal.returns-in_default-with_capacity
returns-in_default-with_capacity c =
    let there = rw (← c.self.view_is) at c.requires.there in
    let at = slice_get_read c.self.inside.replicas.items _ c.args.number c.index.result.now refl there c.index.ensures in
    renew_lacks _ _ c.self.view_is c.args.number c.index.result.now c.index.result.now at
    (sym c.may_renew.ensures ∙ c.if-not-may_renew.false) _ (rw c.reserve.ensures.items c.self.view_is)

pub returns-in-Ok-renew : goal.returns-in-Ok-renew
returns-in-Ok-renew c =
    let there = rw (← c.self.view_is) at c.requires.there in
    let at =
    slice_get_read c.self.inside.replicas.items _ c.args.number c.index_mut-replica.result.now refl there
    c.index_mut-replica.ensures.value in
    let size : vec_len c.reserve.new.self ≡ length c.self.inside.sent.items =
    omega (arith, c.reserve.ensures.len, c.self.inside.sent.ok) in
    let index = c.len.ensures ∙ size in
    renew_sent _ _ c.self.view_is c.args.number c.index_mut-replica.result.now c.renew-2.new.self at c.in-Ok-renew.out c.from_vec.result _
    c.in-Ok-renew.ensures.ok
    (rw (c.from_vec.ensures, c.push_reserved.ensures.items, c.in-Ok-with_capacity.ensures.items, index, c.bytes.ensures.bytes) refl)
    (rw (c.push_reserved-in-Ok-renew.ensures.items, c.reserve.ensures.items, c.copied.ensures, c.bytes-in-Ok-renew.ensures.bytes) refl)
