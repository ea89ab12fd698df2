-- Bytes that begin with a header of either version, that end within one, or that do neither.
use Rattle.std.proofs.Common.{◌≡◌, ℕ, ◌+◌, ◌<◌, ◌≤◌, inl, inr, List, [], ◌∷◌, ◌++◌, length, sym, ◌∙◌, ap, length-append, arith}
use Rattle.std.proofs.lemmas.Bool.{cases_lt}
use Rattle.std.proofs.lemmas.List.{append-nil}
use Rattle.rows.specs.Shape.{Shape}
use Rattle.journal.specs.declared.form.Form.{Form}
use Rattle.journal.specs.declared.form.Form.TheVariants.{New, Old, Marked}
use Rattle.journal.specs.Recovery.{IsBeginning, HasHeader, EndsInHeader}
use Rattle.journal.specs.Text.{header}

-- bytes that begin a header, and do not begin with it
pub ends-within : (form : Form) (workers : ℕ) (shape : Shape) (bytes : List ℕ) → IsBeginning bytes (header form workers shape)
    → ¬ IsBeginning (header form workers shape) bytes → EndsInHeader workers shape bytes
ends-within form workers shape bytes front not_whole = (form, front, by front.0 front.1)
  where
    by : (more : List ℕ) → header form workers shape ≡ bytes ++ more → length bytes < length (header form workers shape)
    by [] e = absurd (not_whole ([], sym (append-nil bytes) ∙ sym e ∙ sym (append-nil (header form workers shape))))
    by (byte ∷ more) e = omega (arith, ap length e, length-append bytes (byte ∷ more))

pub no-header : (workers : ℕ) (shape : Shape) (bytes : List ℕ) → ¬ IsBeginning (header New workers shape) bytes
    → ¬ IsBeginning (header Old workers shape) bytes → ¬ HasHeader workers shape bytes
no-header workers shape bytes not_new not_old (New, front) = not_new front
no-header workers shape bytes not_new not_old (Old, front) = not_old front
no-header workers shape bytes not_new not_old (Marked count, front) = not_old front

pub ends-in_none : (workers : ℕ) (shape : Shape) (bytes : List ℕ) → ¬ IsBeginning bytes (header New workers shape)
    → ¬ IsBeginning bytes (header Old workers shape) → ¬ EndsInHeader workers shape bytes
ends-in_none workers shape bytes not_new not_old (New, front, short) = not_new front
ends-in_none workers shape bytes not_new not_old (Old, front, short) = not_old front
ends-in_none workers shape bytes not_new not_old (Marked count, front, short) = not_old front
