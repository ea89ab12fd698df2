-- A flush that has ended.
use Rattle.std.proofs.Common.{◌≡◌, refl, ap, sym, ◌∙◌, arith, ℕ, Bool, true, false, if◌then◌else◌}
use Rattle.std.proofs.Common.{length, take, drop, length-append, Option, None, Some, Result, Ok, Err}
use Rattle.std.specs.Prelude.{is_some}
use Rattle.std.proofs.lemmas.List.{take-append-drop}
use Rattle.primary.specs.State.{Primary, Core}
use Rattle.primary.specs.Steps.{flushed, failed_primary}
use Rattle.primary.specs.Lending.{Returned, ended}
use Rattle.primary.specs.declared.faults.FlushFault.{FlushFault}
use Rattle.primary.specs.declared.faults.FlushFault.TheVariants.{NotLent}
use Rattle.desk.specs.State.{OnDesk}
use Rattle.desk.specs.Keeping.{IsKept}
use Rattle.desk.proofs.Beginnings.{prefix_append}

-- a flush that is answered has been begun
pub was_lent : {J A B : Type 0} (journal : Option J) (result : Result A FlushFault) (durable : A)
    → (is_some journal ≡ true → (result ≡ Err NotLent) × B) → result ≡ Ok durable → journal ≡ None
was_lent None result durable not_lent is = refl
was_lent (Some journal) result durable not_lent is = absurd (cc (is, (not_lent refl).0))

-- a desk stays one as a flush ends
pub kept_ended : {J : Type 0} (first : Primary) (seats : ℕ) (desk : OnDesk J) (done : Returned J) (core : Core J)
    → IsKept first seats desk → core ≡ ended desk.core done → IsKept first seats (record desk { core = core })
kept_ended {J = J} first seats desk done core kept is = rw is (by done.taken)
  where
    p : Primary
    p = desk.core.primary

    after : Bool → Core J
    after taken = record {
      primary = (if taken then flushed p done.count else failed_primary p);
      journal = Some done.journal;
      form = desk.core.form;
    }

    by : (taken : Bool) → IsKept first seats (record desk { core = after taken })
    by true =
        let halves =
        sym (length-append (take done.count p.pending) (drop done.count p.pending))
        ∙ ap length (take-append-drop done.count p.pending) in
        let more = length-append p.durable (take done.count p.pending) in
        let all = kept.carried in
        record {
          of_schema = kept.of_schema;
          of_workers = kept.of_workers;
          shown = kept.shown;
          told = prefix_append desk.told p.durable (take done.count p.pending) kept.told;
          carried = omega (arith, halves, more, all);
          counted = kept.counted;
          manned = kept.manned;
          lasts = kept.lasts;
          free = kept.free;
        }
    by false =
        record {
          of_schema = kept.of_schema;
          of_workers = kept.of_workers;
          shown = kept.shown;
          told = kept.told;
          carried = kept.carried;
          counted = kept.counted;
          manned = kept.manned;
          lasts = kept.lasts;
          free = kept.free;
        }
