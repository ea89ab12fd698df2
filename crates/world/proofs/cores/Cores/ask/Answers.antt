-- A replica is asked first whether it would ask, and a refusal leaves it as it was.
use Rattle.std.proofs.Common.{refl}
use Rattle.std.proofs.lemmas.Option.{slice_get_read}
use Rattle.world.proofs.Moving.{ask_told, ask_lacks}
use Rattle.world.proofs.cores.Cores.ask.Goals as goal

pub returns-in-Err : goal.returns-in-Err
returns-in-Err c =
    let there = rw (← c.self.view_is) at c.requires.there in
    let at = slice_get_read c.self.inside.replicas.items _ c.args.number c.index.result.now refl there c.index.ensures in
    rw c.ask_output.ensures
    (ask_told _ _ c.self.view_is c.args.number _ c.index.result.now at c.in-Err.fault c.in-Err.ensures.refused)

pub returns-in_default-with_capacity : goal.returns-in_default-with_capacity
returns-in_default-with_capacity c =
    let there = rw (← c.self.view_is) at c.requires.there in
    let at = slice_get_read c.self.inside.replicas.items _ c.args.number c.index.result.now refl there c.index.ensures in
    ask_lacks _ _ c.self.view_is c.args.number c.index.result.now c.index.result.now at c.in_default.ensures.ok _ refl

pub returns-then-is_err : goal.returns-then-is_err
returns-then-is_err c =
    let there = rw (← c.self.view_is) at c.requires.there in
    let at = slice_get_read c.self.inside.replicas.items _ c.args.number c.index.result.now refl there c.index.ensures in
    ask_lacks _ _ c.self.view_is c.args.number c.index.result.now c.index.result.now at c.in_default.ensures.ok _
    (rw c.reserve.ensures.items c.self.view_is)

pub returns-in_default-with_capacity-2 : goal.returns-in_default-with_capacity-2
returns-in_default-with_capacity-2 c =
    let there = rw (← c.self.view_is) at c.requires.there in
    let at = slice_get_read c.self.inside.replicas.items _ c.args.number c.index.result.now refl there c.index.ensures in
    ask_lacks _ _ c.self.view_is c.args.number c.index.result.now c.index.result.now at c.in_default.ensures.ok _
    (rw c.reserve.ensures.items c.self.view_is)
