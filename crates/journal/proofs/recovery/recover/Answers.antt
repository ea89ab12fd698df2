-- Bytes that end within a header, and bytes that do not begin like a journal.
use Rattle.std.proofs.Common.{◌≡◌, ℕ, List, subst, refl, sym, ap, inl, ◌∙◌}
use Rattle.rows.specs.Shape.{shape_of}
use Rattle.journal.specs.declared.form.Form.TheVariants.{New, Old}
use Rattle.journal.specs.Recovery.{IsBeginning}
use Rattle.journal.proofs.Headers.{ends-within, no-header, ends-in_none}
use Rattle.journal.proofs.recovery.recover.Goals as goal

pub returns-then-begins-3 : goal.returns-then-begins-3
returns-then-begins-3 c =
    let bytes = c.args.bytes.now in
    let is = c.as_slice-new.ensures.value ∙ c.header_of-new_header.ensures in
    inl (
      ends-within New c.args.workers (shape_of c.args.schema.now) bytes
          (subst (λ (head : List ℕ). IsBeginning bytes head) is c.if-begins-3.ensures)
          (subst (λ (head : List ℕ). ¬ IsBeginning head bytes) is c.if-begins.ensures),
      c.nothing_kept.ensures.1,
      c.nothing_kept.ensures.0,
      c.nothing_kept.ensures.2,
    )

pub returns-then-begins-4 : goal.returns-then-begins-4
returns-then-begins-4 c =
    let bytes = c.args.bytes.now in
    let is = c.as_slice-old.ensures.value ∙ c.header_of-old_header.ensures in
    inl (
      ends-within Old c.args.workers (shape_of c.args.schema.now) bytes
          (subst (λ (head : List ℕ). IsBeginning bytes head) is c.if-begins-4.ensures)
          (subst (λ (head : List ℕ). ¬ IsBeginning head bytes) is c.if-begins-2.ensures),
      c.nothing_kept-then-begins-4.ensures.1,
      c.nothing_kept-then-begins-4.ensures.0,
      c.nothing_kept-then-begins-4.ensures.2,
    )

pub returns : goal.returns
returns c =
    let bytes = c.args.bytes.now in
    let new = c.as_slice-new.ensures.value ∙ c.header_of-new_header.ensures in
    let old = c.as_slice-old.ensures.value ∙ c.header_of-old_header.ensures in
    let shape = shape_of c.args.schema.now in (
      no-header c.args.workers shape bytes (subst (λ (head : List ℕ). ¬ IsBeginning head bytes) new c.if-begins.ensures)
          (subst (λ (head : List ℕ). ¬ IsBeginning head bytes) old c.if-begins-2.ensures),
      ends-in_none c.args.workers shape bytes (subst (λ (head : List ℕ). ¬ IsBeginning bytes head) new c.if-begins-3.ensures)
          (subst (λ (head : List ℕ). ¬ IsBeginning bytes head) old c.if-begins-4.ensures),
    )
