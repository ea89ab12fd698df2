-- Bytes that are written one behind the other.
use Rattle.std.proofs.Common.{◌≡◌, ℕ, ◌-◌, List, [], ◌++◌, Option, Result, Ok, Err, OnOk, OnErr, sym, ap, ◌∙◌, subst}
use Rattle.std.proofs.Common.{length, take, drop, append_assoc, append-nil, take-append-drop}
use Rattle.std.proofs.lemmas.List.{take_rest}
use Rattle.std.specs.Io.KnownBytes.{Appends, Keeps}
use Rattle.std.proofs.KnownBytes.{Appends-trans, Appends-kept}
use Rattle.script.specs.Writing.{IsWrittenBut, IsPartlyWritten}

pub whole_written : (old new : Option (List ℕ)) (bytes : List ℕ) → Appends old new bytes → IsWrittenBut old new bytes []
whole_written old new bytes appended = (bytes, sym (append-nil bytes), appended)

pub all_written : (old new : Option (List ℕ)) (bytes : List ℕ) → IsWrittenBut old new bytes [] → Appends old new bytes
all_written old new bytes (written, whole, appended) = subst (Appends old new) (sym (whole ∙ append-nil written)) appended

pub still_written : (old mid new : Option (List ℕ)) (bytes left : List ℕ) → IsWrittenBut old mid bytes left → Keeps mid new
    → IsWrittenBut old new bytes left
still_written old mid new bytes left (written, whole, appended) kept = (written, whole, Appends-kept old mid new written appended kept)

-- what was left is written up to what is left then
pub then_written : (old mid new : Option (List ℕ)) (bytes left more : List ℕ) → IsWrittenBut old mid bytes left
    → IsWrittenBut mid new left more → IsWrittenBut old new bytes more
then_written old mid new bytes left more (first, whole, before) (second, rest, after) = (
  first ++ second,
  whole ∙ ap (λ (l : List ℕ). first ++ l) rest ∙ sym (append_assoc first second more),
  Appends-trans old mid new first second before after,
)

-- the front of the bytes is written
pub front_written : (old new : Option (List ℕ)) (bytes : List ℕ) (count : ℕ) → Appends old new (take count bytes)
    → IsWrittenBut old new bytes (take (length bytes - count) (drop count bytes))
front_written old new bytes count appended = (
  take count bytes,
  sym (take-append-drop count bytes) ∙ ap (λ (l : List ℕ). take count bytes ++ l) (sym (take_rest bytes count)),
  appended,
)

-- with more bytes behind them
pub written_before : (old new : Option (List ℕ)) (bytes left behind : List ℕ) → IsWrittenBut old new bytes left
    → IsWrittenBut old new (bytes ++ behind) (left ++ behind)
written_before old new bytes left behind (written, whole, appended) =
    (written, ap (λ (l : List ℕ). l ++ behind) whole ∙ append_assoc written left behind, appended)

-- ---- a text that is gathered, of which pieces are written

module _ (old mid new : Option (List ℕ)) (whole gathered : List ℕ) where
  -- a line more is gathered, and then written up to what is left of the text
  pub line_written : (line rest text left : List ℕ) → IsWrittenBut old mid whole (gathered ++ (line ++ rest))
      → text ≡ gathered ++ line → IsWrittenBut mid new text left → IsWrittenBut old new whole (left ++ rest)
  line_written line rest text left before is after =
      then_written old mid new whole (gathered ++ (line ++ rest)) (left ++ rest) before
      (subst (λ (l : List ℕ). IsWrittenBut mid new l (left ++ rest))
      (ap (λ (l : List ℕ). l ++ rest) is ∙ append_assoc gathered line rest)
      (written_before mid new text left rest after))

  -- a line more is gathered, and a beginning of the text is written
  pub line_cut : (line rest text : List ℕ) → IsWrittenBut old mid whole (gathered ++ (line ++ rest))
      → text ≡ gathered ++ line → IsPartlyWritten mid new text → IsPartlyWritten old new whole
  line_cut line rest text before is (left, after) = (left ++ rest, line_written line rest text left before is after)

  -- nothing comes behind the text
  pub end_written : IsWrittenBut old mid whole (gathered ++ []) → Appends mid new gathered → Appends old new whole
  end_written before after =
      all_written old new whole (then_written old mid new whole gathered []
      (subst (IsWrittenBut old mid whole) (append-nil gathered) before) (whole_written mid new gathered after))

  pub end_cut : IsWrittenBut old mid whole (gathered ++ []) → IsPartlyWritten mid new gathered → IsPartlyWritten old new whole
  end_cut before (left, after) = (
    left,
    then_written old mid new whole gathered left
        (subst (IsWrittenBut old mid whole) (append-nil gathered) before) after,
  )

-- ---- what holds of a result

pub when_err : {T E : Type 0} (result : Result T E) {Fact : Type 0} → Fact → OnErr result Fact
when_err (Ok value) fact = tt
when_err (Err fault) fact = fact

pub then_ok : {T E : Type 0} (result : Result T E) {Fact Next : Type 0} → (Fact → Next) → OnOk result Fact → OnOk result Next
then_ok (Ok value) next fact = next fact
then_ok (Err fault) next fact = tt

pub then_err : {T E : Type 0} (result : Result T E) {Fact Next : Type 0} → (Fact → Next) → OnErr result Fact → OnErr result Next
then_err (Ok value) next fact = tt
then_err (Err fault) next fact = next fact
