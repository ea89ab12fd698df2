-- What is sent is on some base.
use Rattle.std.proofs.Common.{Result, Ok, Err, IfOk}

-- what two clauses say of an answer, as one
pub both : {A E : Type 0} (P Q S : A → Type 0) (r : Result A E) → ((x : A) → P x → Q x → S x) → IfOk r P → IfOk r Q → IfOk r S
both P Q S (Ok x) how one two = how x one two
both P Q S (Err e) how one two = tt

-- what three say
pub all_three : {A E : Type 0} (P Q T S : A → Type 0) (r : Result A E) → ((x : A) → P x → Q x → T x → S x) → IfOk r P → IfOk r Q
    → IfOk r T → IfOk r S
all_three P Q T S (Ok x) how one two three = how x one two three
all_three P Q T S (Err e) how one two three = tt
