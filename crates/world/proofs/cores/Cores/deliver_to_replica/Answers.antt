-- The call of the replica is what the event is.
use Rattle.std.proofs.Common.{refl, sym}
use Rattle.std.proofs.lemmas.Bool.{ltb-true}
use Rattle.std.proofs.lemmas.Option.{slice_get_read}
use Rattle.world.proofs.Delivering.{came_to}
use Rattle.world.proofs.cores.Cores.deliver_to_replica.Goals as goal

pub returns : goal.returns
returns c =
    let at = rw c.deref.ensures.value at (slice_get_read c.deref.result.now _ c.args.index c.in-Some.bytes.now refl
    (ltb-true _ _ (sym c.in-Some.ensures.lookup.0)) c.in-Some.ensures.lookup.1) in
    let number = c.args.number in
    let there = rw (← c.self.view_is) at c.requires in
    let replica_at =
    slice_get_read c.self.inside.replicas.items _ number c.index_mut-replica.result.now refl there c.index_mut-replica.ensures.value in
    let came = rw c.as_slice.ensures at c.on_bytes.ensures in
    rw (c.got_output.ensures)
    (came_to _ _ c.self.view_is c.args.index c.in-Some.bytes.now at number c.index_mut-replica.result.now c.on_bytes.new.self
    c.on_bytes.result replica_at came)
