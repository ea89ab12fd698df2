-- One more entry was made.
use Rattle.std.proofs.Common.{[], ◌∷◌, ◌++◌, take, sym, ◌∙◌, ap}
use Rattle.std.proofs.lemmas.List.{take_more}
use Rattle.store.proofs.Runs.{apply_entries-push}
use Rattle.store.proofs.running.run.Goals as goal

pub loop-i-preserved : goal.loop-i-preserved
loop-i-preserved g c =
    let so_far = c.loop-i.invariant in
    let old = g.S.Store.tables c.args.store.now in
    let entry = c.index-entries-i.result in
    let entries =
    take_more c.args.entries.now c.loop-i.i entry c.loop-i-test.true
    ∙ ap (λ e. take c.loop-i.i c.args.entries.now ++ e ∷ []) (sym c.index-entries-i.is) in
    record {
      before = rw entries (apply_entries-push old _ _ (take c.loop-i.i c.args.entries.now) entry so_far.before c.in-Ok.ensures.ok);
      first = λ broken. let whole = so_far.whole ∙ broken in let was = c.in-Ok.ensures.only_whole in cc;
      whole = c.in-Ok.ensures.whole ∙ so_far.whole;
      base = c.in-Ok.ensures.base ∙ so_far.base;
    }
