-- What is applied are the pieces that wait, as what they come to.
use Rattle.std.proofs.Common.{◌≡◌, List, Ok, sym, subst}
use Rattle.std.specs.Prelude.{OnOk, IfErr, IsErr}
use Rattle.rows.specs.declared.commit.Commit.{Commit}
use Rattle.rows.specs.Commits.{apply_commits}
use Rattle.store.specs.declared.faults.ApplyFault.TheVariants as applying
use Rattle.dispatcher.proofs.Waiting.{commits-seen}
use Rattle.dispatcher.proofs.pieces.Pieces.apply_to.Goals as goal

pub returns-clause-ok : goal.returns-clause-ok
returns-clause-ok g c =
    rw (← c.self.view_is)
    (subst
    (λ (commits : List Commit). OnOk c.apply_each-applied.result
    (apply_commits (g.S.Store.tables c.args.store.now) commits ≡ Ok (g.S.Store.tables c.apply_each-applied.new.store)))
    (sym (commits-seen c.self.inside.intake c.args.pieces)) c.apply_each-applied.ensures.ok)

pub returns-clause-err : goal.returns-clause-err
returns-clause-err g c =
    rw (← c.self.view_is)
    (subst
    (λ (commits : List Commit). IfErr c.apply_each-applied.result
    (λ fault. fault ≡ applying.Inconsistent → IsErr (apply_commits (g.S.Store.tables c.args.store.now) commits)))
    (sym (commits-seen c.self.inside.intake c.args.pieces)) c.apply_each-applied.ensures.err)
