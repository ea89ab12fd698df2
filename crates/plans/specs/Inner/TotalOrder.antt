-- The order of values is total, and so is that of groups.
use Rattle.std.specs.Prelude.{◌≡◌, refl}
use Rattle.std.proofs.Common.{ap}
use Rattle.std.proofs.lemmas.Bool.{false≢true}
use Rattle.std.specs.Cmp.{IsTotalOrder, int_cmp_total}
use Rattle.std.specs.Cmp.Lexicographic.{lists_total, nat_list_cmp_total}
use Rattle.std.specs.Ordering.{ordering_reverse, is_lt, is_eq}
use Rattle.std.specs.declared.cmp.Ordering.TheVariants.{Less, Equal, Greater}
use Rattle.rows.specs.declared.value.Value.{Value}
use Rattle.rows.specs.declared.value.Value.TheVariants.{Int, Octets}
use Rattle.queries.specs.Order.{value_cmp, group_cmp}

not_less : Greater ≡ Less → ⊥
not_less e = false≢true (ap is_lt e)

less_not_equal : Less ≡ Equal → ⊥
less_not_equal e = false≢true (ap is_eq e)

greater_not_equal : Greater ≡ Equal → ⊥
greater_not_equal e = false≢true (ap is_eq e)

antisymm : (x y : Value) → value_cmp x y ≡ ordering_reverse (value_cmp y x)
antisymm (Int a) (Int b) = int_cmp_total.antisymm a b
antisymm (Int a) (Octets b) = refl
antisymm (Octets a) (Int b) = refl
antisymm (Octets a) (Octets b) = nat_list_cmp_total.antisymm a b

trans : (x y z : Value) → value_cmp x y ≡ Less → value_cmp y z ≡ Less → value_cmp x z ≡ Less
trans (Int a) (Int b) (Int c) p q = int_cmp_total.trans a b c p q
trans (Int a) (Int b) (Octets c) p q = refl
trans (Int a) (Octets b) (Int c) p q = absurd (not_less q)
trans (Int a) (Octets b) (Octets c) p q = refl
trans (Octets a) (Int b) z p q = absurd (not_less p)
trans (Octets a) (Octets b) (Int c) p q = absurd (not_less q)
trans (Octets a) (Octets b) (Octets c) p q = nat_list_cmp_total.trans a b c p q

congr : (x y z : Value) → value_cmp x y ≡ Equal → value_cmp x z ≡ value_cmp y z
congr (Int a) (Int b) (Int c) p = int_cmp_total.congr a b c p
congr (Int a) (Int b) (Octets c) p = refl
congr (Int a) (Octets b) z p = absurd (less_not_equal p)
congr (Octets a) (Int b) z p = absurd (greater_not_equal p)
congr (Octets a) (Octets b) (Int c) p = refl
congr (Octets a) (Octets b) (Octets c) p = nat_list_cmp_total.congr a b c p

pub value_cmp_total : IsTotalOrder value_cmp
value_cmp_total = record { antisymm = antisymm; trans = trans; congr = congr }

pub group_cmp_total : IsTotalOrder group_cmp
group_cmp_total = lists_total value_cmp_total
