-- What is kept of the bytes that stand is what is durable then.
use Rattle.std.proofs.Common.{◌≡◌, length, ap, ◌∙◌, arith}
use Rattle.std.proofs.lemmas.List.{with_items_is}
use Rattle.world.specs.declared.primary_node.PrimaryNode.TheVariants.{Running}
use Rattle.world.proofs.Nodes.{node_seen, closed_length, left_recovered, left_kept, stop_done}
use Rattle.world.proofs.cores.Cores.stop.Goals as goal

pub commits_kept-requires : goal.commits_kept-requires
commits_kept-requires c =
    let inside = c.self.inside in
    let seen =
    node_seen inside.setup inside.primary (Running c.in-Running.primary) inside.transactions.items inside.sent.items inside.replicas.items
    inside.boots.items inside.asked_at.items c.args.self.now c.in-Running.is c.self.view_is in
    let core = c.in-Running.primary in
    let set = rw (← seen) at c.requires.setup_is in
    let whole = rw (← seen) at c.requires.whole in
    let text = c.keeps_legal.ensures.written whole in
    rw c.as_slice.ensures.value (left_recovered c.stops_are_recovered.ensures.stops c.stops_are_recovered.ensures.once
    c.stops_are_recovered.ensures.form c.texts_grow.ensures.grows c.texts_grow.ensures.goes_on inside.setup core.primary c.args.bytes
    core.journal.bytes c.in-Ok.content.items core.form set c.keeps_legal.ensures.all c.keeps_legal.ensures.form text c.in-Ok.ensures)

pub returns : goal.returns
returns c =
    let inside = c.self.inside in
    let seen =
    node_seen inside.setup inside.primary (Running c.in-Running.primary) inside.transactions.items inside.sent.items inside.replicas.items
    inside.boots.items inside.asked_at.items c.args.self.now c.in-Running.is c.self.view_is in
    let core = c.in-Running.primary in
    let set = rw (← seen) at c.requires.setup_is in
    let whole = rw (← seen) at c.requires.whole in
    let text = c.keeps_legal.ensures.written whole in
    let found = rw c.as_slice.ensures.value at c.in-Ok-commits_kept.ensures in
    let content = c.in-Ok.content.items in
    let kept = c.in-Ok-commits_kept.kept in
    let same =
    left_kept c.stops_are_recovered.ensures.stops c.stops_are_recovered.ensures.once c.stops_are_recovered.ensures.form
    c.texts_grow.ensures.grows c.texts_grow.ensures.goes_on inside.setup core.primary c.args.bytes core.journal.bytes content core.form set
    c.keeps_legal.ensures.all c.keeps_legal.ensures.form text c.in-Ok.ensures kept.form kept.commits.items found.0 found.1 in
    let over = rw c.as_mut_slice.ensures.value at c.close_all.ensures in
    let size : length c.close_all.new.transactions ≡ inside.transactions.len =
    omega (arith, ap length over, closed_length inside.transactions.items, inside.transactions.ok.0) in
    let slots = with_items_is inside.transactions c.close_all.new.transactions size ∙ over in
    rw c.put.ensures (stop_done inside.setup core.primary core.journal.bytes core.form inside.transactions.items inside.sent.items
    inside.replicas.items inside.boots.items inside.asked_at.items c.args.self.now c.args.bytes found.0 content
    kept.form kept.commits.items _ _ seen set same
    found.1 c.of.ensures c.in-Ok.ensures slots)
