-- Nothing has come, and tables without rows have the columns of the schema.
use Rattle.std.proofs.Common.{◌≡◌, ℕ, List, [], length, ap, sym, subst, ◌∙◌, rules}
use Rattle.std.proofs.lemmas.List.{length-replicate, length-map}
use Rattle.rows.specs.Shape.{Shape, shape_of}
use Rattle.rows.specs.declared.kind.Kind.{Kind}
use Rattle.rows.specs.Tables.{Tables}
use Rattle.intake.specs.Kept.{AreKeptFrom}
use Rattle.intake.specs.State.{Arrivals, nothing}
use Rattle.dispatcher.proofs.Beginning.{none-lost}
use Rattle.dispatcher.proofs.replica_core.ReplicaCore.start.Goals as goal

pub invariant_of-result : goal.invariant_of-result
invariant_of-result g c =
    let schema = c.args.schema.now in
    let cloned : c.in_ok-clone.field-0 ≡ schema = search rules in
    record {
      few_workers = search rules;
      number_below = search rules;
      arrivals_by_worker = ap (λ (all : List Arrivals). length all) c.in_ok-new.ensures ∙ length-replicate c.args.workers nothing;
      applied_by_worker = ap (λ (counts : List ℕ). length counts) c.zeros.ensures ∙ length-replicate c.args.workers 0;
      others_kept =
          subst (λ (all : List Arrivals). AreKeptFrom all c.zeros.result) (sym c.in_ok-new.ensures)
          (none-lost c.args.workers c.zeros.result);
      store_whole = search rules;
      fetched = tt;
      many = λ whole.
          ap (λ (tables : Tables). length tables) c.requires.tables
          ∙ length-map (shape_of schema) (λ (kinds : List Kind). record { kinds = kinds; rows = [] })
          ∙ length-map schema (λ (table : List ℕ × List Kind). table.1)
          ∙ sym (ap (λ (schema : List (List ℕ × List Kind)). length schema) cloned);
      begun =
          ap (λ (shape : Shape). length shape) c.requires.base
          ∙ length-map schema (λ (table : List ℕ × List Kind). table.1)
          ∙ sym (ap (λ (schema : List (List ℕ × List Kind)). length schema) cloned);
    }
