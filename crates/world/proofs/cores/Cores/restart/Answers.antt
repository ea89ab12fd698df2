-- A boot that it never had is noted, and a new replica stands in the place of the old one.
use Rattle.std.proofs.Common.{◌<◌, length, refl, sym, ap, ◌∙◌, arith}
use Rattle.std.proofs.lemmas.Option.{same_Some, slice_get_read}
use Rattle.world.specs.Steps.{had_boot}
use Rattle.world.proofs.Restarts.{restart_refused, restart_done, on-err, on-ok}
use Rattle.world.proofs.cores.Cores.restart.Goals as goal

pub returns-then-is_err : goal.returns-then-is_err
returns-then-is_err c =
    let boots = c.self.inside.boots.items in
    let there = rw (← c.self.view_is) at c.requires.there in
    let as_many = rw (← c.self.view_is) at c.requires.ready.boots_there in
    let within : c.args.number < length boots = omega (arith, as_many, there) in
    let at = slice_get_read boots _ c.args.number c.index_mut-boots.result.now refl within c.index_mut-boots.ensures.value in
    let looked = slice_get_read boots _ c.args.number c.index.result.now refl within c.index.ensures in
    let same = same_Some c.index.result.now c.index_mut-boots.result.now (sym looked ∙ at) in
    let none = sym (ap (λ boots. had_boot boots c.args.boot) same) ∙ sym c.has.ensures ∙ c.if-has.false in
    let stays = on-err c.begin_boot.result _ c.begin_boot.ensures.err (sym c.is_err.ensures.value ∙ c.if-is_err.true) in
    rw stays.0 (restart_refused _ _ c.self.view_is c.args.number c.args.boot (omega arith) c.index_mut-boots.result.now at
    c.begin_boot.new.boots there none stays.1)

pub returns : goal.returns
returns c =
    let inside = c.self.inside in
    let boots = inside.boots.items in
    let there = rw (← c.self.view_is) at c.requires.there in
    let as_many = rw (← c.self.view_is) at c.requires.ready.boots_there in
    let setup_is = rw (← c.self.view_is) at c.requires.ready.setup_is in
    let within : c.args.number < length boots = omega (arith, as_many, there) in
    let at = slice_get_read boots _ c.args.number c.index_mut-boots.result.now refl within c.index_mut-boots.ensures.value in
    let looked = slice_get_read boots _ c.args.number c.index.result.now refl within c.index.ensures in
    let same = same_Some c.index.result.now c.index_mut-boots.result.now (sym looked ∙ at) in
    let none = sym (ap (λ boots. had_boot boots c.args.boot) same) ∙ sym c.has.ensures ∙ c.if-has.false in
    let begun = on-ok c.begin_boot.result _ c.begin_boot.ensures.ok (sym c.is_err.ensures.value ∙ c.if-is_err.false) in
    rw begun.0 (restart_done _ _ c.self.view_is c.args.number c.args.boot (omega arith) c.index_mut-boots.result.now at c.in-Ok.replica
    c.begin_boot.new.boots there none begun.1 (rw (← setup_is.0, ← setup_is.1) c.in-Ok.ensures))
