-- Bytes that are not forged do to the replica what they do in the world.
use Rattle.std.proofs.Common.{refl, sym, ◌∙◌}
use Rattle.std.proofs.lemmas.Option.{slice_get_read}
use Rattle.world.proofs.Delivering.{raw_came}
use Rattle.world.proofs.cores.Cores.raw_to_replica.Goals as goal

pub returns : goal.returns
returns c =
    let number = c.args.number in
    let there = rw (← c.self.view_is) at c.requires in
    let at =
    slice_get_read c.self.inside.replicas.items _ number c.index_mut-replica.result.now refl there c.index_mut-replica.ensures.value in
    let sent = rw c.as_slice.ensures.value at (sym c.is_forged.ensures ∙ c.if-is_forged.false) in
    rw (c.got_output.ensures)
    (raw_came _ _ c.self.view_is c.args.bytes.now number c.index_mut-replica.result.now c.on_bytes.new.self c.on_bytes.result sent at
    c.on_bytes.ensures)
