-- What a scan has of each plan, while the plans take a block one after the other.
use Rattle.std.proofs.Common.{◌≡◌, ◌≢◌, ℕ, zero, suc, ◌+◌, ◌<◌, ◌≤◌, List, [], ◌∷◌, ◌++◌, length, get_or, set, Option, None, Some, IfSome}
use Rattle.std.proofs.Common.{slice_get, sym, ap, subst, ◌∙◌, ⊎_elim, arith}
use Rattle.std.specs.List.{filter_map}
use Rattle.std.specs.Option.{option_map}
use Rattle.std.proofs.lemmas.Bool.{cases_eq}
use Rattle.std.proofs.lemmas.List.{get_or-set_same, get_or-set_other, length-set, append_assoc, append-nil}
use Rattle.std.proofs.lemmas.Option.{same_Some}
use Rattle.rows.specs.declared.value.Value.{Value}
use Rattle.rows.specs.Tables.{Rows, Tables}
use Rattle.plans.specs.declared.block.Block.{Block}
use Rattle.queries.specs.declared.column.Column.{Column}
use Rattle.plans.specs.declared.numbering.Numbering.{Numbering}
use Rattle.queries.specs.declared.plan.Join.{Join}
use Rattle.queries.specs.declared.plan.Plan.{Plan}
use Rattle.plans.specs.declared.shared_rows.SharedRows.{SharedRows}
use Rattle.plans.specs.declared.tallies.Tallies.{Tallies}
use Rattle.queries.specs.Answers.{joined_with}
use Rattle.plans.specs.Inner.BlockRows.{rows_of_block}
use Rattle.plans.specs.Inner.Blocks.{IsNumbering, Extends, StaysIfKnown}
use Rattle.plans.specs.Inner.Numbered.{AreNumbers}
use Rattle.plans.specs.Inner.Partnered.{joined_rows}
use Rattle.plans.specs.Inner.Scans.{AreAlike, AreClasses, AreNumberings, AreScanned, AreAdded, IsScanned}
use Rattle.plans.specs.Inner.Shared.{IsShared}

-- ---- keys

abbrev pub keys_at : List Numbering → ℕ → Numbering → List (List Value)
keys_at numberings r d = (get_or numberings r d).keys.items

-- one key, if it is there and there are no more
pub one-key : (keys : List (List Value)) (n : ℕ) (key : List Value) → length keys ≤ 1 → slice_get keys n ≡ Some key → keys ≡ key ∷ []
one-key [] n key few is = absurd (cc)
one-key (other ∷ []) zero key few is = ap (λ k. k ∷ []) (same_Some other key is)
one-key (other ∷ []) (suc n) key few is = absurd (cc)
one-key (other ∷ next ∷ keys) n key few is = absurd (omega (arith, few))

-- the only key is known, so it stays the only one
pub stays-one : (before after : List (List Value)) → StaysIfKnown [] before after → before ≡ [] ∷ [] → after ≡ [] ∷ []
stays-one before after stays one = stays 0 (ap (λ keys. slice_get keys 0) one) ∙ one

-- ---- plans that are alike

pub shared-alike : {P : Type 0} (tables : Tables) (values : ℕ → P → Option (List Value)) (block : Block) (plan other : Plan)
    (keys : List (List Value)) (shared : SharedRows P) → AreAlike plan other → IsShared tables values block plan keys shared
    → IsShared tables values block other keys shared
shared-alike tables values block plan other keys shared alike is = record {
  table = is.table ∙ ap (option_map (λ (join : Join). join.table)) alike.join;
  sound = is.sound;
  rows = is.rows ∙ ap (λ (join : Option Join). filter_map (λ row. joined_with tables join row.1) (rows_of_block tables block)) alike.join;
  filled = is.filled;
  numbers =
      subst (λ (groups : List Column). AreNumbers keys groups (joined_rows tables values block shared.partners) shared.numbers.items)
      alike.groups is.numbers;
}

pub alike-other : (plan other : Plan) → AreAlike plan other → AreAlike other plan
alike-other plan other alike = record { table = sym alike.table; join = sym alike.join; groups = sym alike.groups }

-- ---- keys behind those that were there

pub scanned-extends : (tables : Tables) (plan : Plan) (keys after : List (List Value)) (rows : Rows) (count : ℕ) (tallies : Tallies)
    → Extends keys after → IsScanned tables plan keys rows count tallies → IsScanned tables plan after rows count tallies
scanned-extends tables plan keys after rows count tallies extends is = record {
  before = is.before;
  more = is.more ++ extends.0;
  split = extends.1 ∙ ap (λ front. front ++ extends.0) is.split ∙ append_assoc is.before is.more extends.0;
  shaped = is.shaped;
  tallied = is.tallied;
}

-- ---- one numbering is extended

module _ (numberings : List Numbering) (class : ℕ) (new : Numbering) (there : class < length numberings) where
  at-class : (r : ℕ) (d : Numbering) → r ≡ class → get_or (set numberings class new) r d ≡ new
  at-class r d e = ap (λ n. get_or (set numberings class new) n d) e ∙ get_or-set_same numberings class new d there

  pub keys-extend : ((d : Numbering) → Extends (keys_at numberings class d) new.keys.items) → (r : ℕ) (d : Numbering)
      → Extends (keys_at numberings r d) (keys_at (set numberings class new) r d)
  keys-extend extends r d =
      ⊎_elim
      (λ e. subst (Extends (keys_at numberings r d)) (ap (λ (n : Numbering). n.keys.items) (sym (at-class r d e)))
      (subst (λ n. Extends (keys_at numberings n d) new.keys.items) (sym e) (extends d)))
      (λ other. (
        [],
        ap (λ (n : Numbering). n.keys.items) (get_or-set_other numberings class r new d other)
            ∙ sym (append-nil (keys_at numberings r d)),
      ))
      (cases_eq r class)

  pub numberings-set : (plans : List Plan) → AreNumberings plans numberings → IsNumbering new
      → ((d : Numbering) (e : Plan) → (get_or plans class e).groups ≡ [] → StaysIfKnown [] (keys_at numberings class d) new.keys.items)
      → AreNumberings plans (set numberings class new)
  numberings-set plans are is stays = record {
    sizes = length-set numberings class new ∙ are.sizes;
    each = λ r d lt.
        ⊎_elim (λ e. subst IsNumbering (sym (at-class r d e)) is)
        (λ other. subst IsNumbering (sym (get_or-set_other numberings class r new d other)) (are.each r d lt)) (cases_eq r class);
    one = λ r d e lt none.
        ⊎_elim
        (λ same. ap (λ (n : Numbering). n.keys.items) (at-class r d same)
        ∙ stays-one (keys_at numberings class d) new.keys.items
        (stays d e (subst (λ n. (get_or plans n e).groups ≡ []) same none))
        (are.one class d e (subst (λ n. n < length plans) same lt) (subst (λ n. (get_or plans n e).groups ≡ []) same none)))
        (λ other. ap (λ (n : Numbering). n.keys.items) (get_or-set_other numberings class r new d other) ∙ are.one r d e lt none)
        (cases_eq r class);
  }

-- ---- one plan more has the block's rows

module _ (tables : Tables) (plans : List Plan) (classes : List ℕ) (block : Block) (rows : Rows) (count i : ℕ)
    (numberings : List Numbering) (tallies : List Tallies) (added : AreAdded tables plans classes block rows count i numberings tallies)
  where
    abbrev after : Rows
    after = rows ++ rows_of_block tables block

    abbrev total : ℕ
    total = count + length block.ids.now

    -- one that is on the block's
    module _ (class : ℕ) (numbering : Numbering) (new : Tallies) (is : (n : ℕ) → class ≡ get_or classes i n)
        (class_there : class < length numberings) (there : i < length tallies)
        (extends : (d : Numbering) → Extends (keys_at numberings class d) numbering.keys.items)
        (takes : (e : Plan) → IsScanned tables (get_or plans i e) numbering.keys.items after total new) where
      keys-after : (n : ℕ) (d : Numbering) → keys_at (set numberings class numbering) (get_or classes i n) d ≡ numbering.keys.items
      keys-after n d = ap (λ (n : Numbering). n.keys.items) (at-class numberings class numbering class_there (get_or classes i n) d
          (sym (is n)))

      -- the plan itself
      here : (n : ℕ) (d : Numbering) (e : Plan) (t : Tallies)
          → IsScanned tables (get_or plans i e) (keys_at (set numberings class numbering) (get_or classes i n) d) after total
          (get_or (set tallies i new) i t)
      here n d e t =
          subst (IsScanned tables (get_or plans i e) (keys_at (set numberings class numbering) (get_or classes i n) d) after total)
          (sym (get_or-set_same tallies i new t there))
          (subst (λ (keys : List (List Value)). IsScanned tables (get_or plans i e) keys after total new) (sym (keys-after n d)) (takes e))

      -- the others, whose keys may be more
      elsewhere : (p n : ℕ) (d : Numbering) (e : Plan) (t : Tallies) (scanned : Rows) (size : ℕ) → p ≢ i
          → IsScanned tables (get_or plans p e) (keys_at numberings (get_or classes p n) d) scanned size (get_or tallies p t)
          → IsScanned tables (get_or plans p e) (keys_at (set numberings class numbering) (get_or classes p n) d) scanned size
          (get_or (set tallies i new) p t)
      elsewhere p n d e t scanned size other held =
          subst (IsScanned tables (get_or plans p e) (keys_at (set numberings class numbering) (get_or classes p n) d) scanned size)
          (sym (get_or-set_other tallies i p new t other))
          (scanned-extends tables (get_or plans p e) (keys_at numberings (get_or classes p n) d)
          (keys_at (set numberings class numbering) (get_or classes p n) d) scanned size (get_or tallies p t)
          (keys-extend numberings class numbering class_there extends (get_or classes p n) d) held)

      pub added-more : AreAdded tables plans classes block rows count (i + 1) (set numberings class numbering) (set tallies i new)
      added-more p n d e t lt table =
          let held = added p n d e t lt table in (
            λ before. ⊎_elim
                (λ same. subst (λ q. IsScanned tables (get_or plans q e) (keys_at (set numberings class numbering) (get_or classes q n) d)
                after total
                (get_or (set tallies i new) q t)) (sym same) (here n d e t))
                (λ other. elsewhere p n d e t after total other (held.0 (omega (arith, before, other)))) (cases_eq p i),
            λ left. elsewhere p n d e t rows count (λ same. absurd (omega (arith, left, same))) (held.1 (omega (arith, left))),
          )

-- at first no plan has them, and at the end all have
pub added-none : (tables : Tables) (plans : List Plan) (classes : List ℕ) (block : Block) (rows : Rows) (count : ℕ)
    (numberings : List Numbering) (tallies : List Tallies) → AreScanned tables plans classes block.table rows count numberings tallies
    → AreAdded tables plans classes block rows count 0 numberings tallies
added-none tables plans classes block rows count numberings tallies are p n d e t lt table =
    (λ before. absurd (omega (arith, before)), λ left. are p n d e t lt table)

pub added-all : (tables : Tables) (plans : List Plan) (classes : List ℕ) (block : Block) (rows : Rows) (count i : ℕ)
    (numberings : List Numbering) (tallies : List Tallies) → length plans ≤ i
    → AreAdded tables plans classes block rows count i numberings tallies
    → AreScanned tables plans classes block.table (rows ++ rows_of_block tables block) (count + length block.ids.now) numberings tallies
added-all tables plans classes block rows count i numberings tallies end added p n d e t lt table =
    (added p n d e t lt table).0 (omega (arith, lt, end))

-- ---- what is shared

-- what is shared is of each class's first plan
abbrev pub AreShared : {P : Type 0} → Tables → (ℕ → P → Option (List Value)) → Block → List Plan → List Numbering
    → List (Option (SharedRows P)) → Type 0
AreShared {P} tables values block plans numberings shared =
    (r : ℕ) (e : Plan) (d : Numbering) (o : Option (SharedRows P)) → r < length plans
    → IfSome (get_or shared r o) (IsShared tables values block (get_or plans r e) (keys_at numberings r d))

if-alike : {P : Type 0} (tables : Tables) (values : ℕ → P → Option (List Value)) (block : Block) (plan other : Plan)
    (keys : List (List Value)) (shared : Option (SharedRows P)) → AreAlike plan other
    → IfSome shared (IsShared tables values block plan keys) → IfSome shared (IsShared tables values block other keys)
if-alike tables values block plan other keys None alike is = tt
if-alike tables values block plan other keys (Some shared) alike is = shared-alike tables values block plan other keys shared alike is

-- it is also of a plan of the class
pub shared-of : {P : Type 0} (tables : Tables) (values : ℕ → P → Option (List Value)) (block : Block) (plans : List Plan) (classes : List ℕ)
    (numberings : List Numbering) (shared : List (Option (SharedRows P))) → AreClasses plans classes
    → AreShared tables values block plans numberings shared
    → (p : ℕ) (n : ℕ) (d : Numbering) (e : Plan) (o : Option (SharedRows P)) → p < length plans
    → IfSome (get_or shared (get_or classes p n) o)
    (IsShared tables values block (get_or plans p e) (keys_at numberings (get_or classes p n) d))
shared-of tables values block plans classes numberings shared are have p n d e o lt =
    if-alike tables values block (get_or plans (get_or classes p n) e) (get_or plans p e) (keys_at numberings (get_or classes p n) d)
    (get_or shared (get_or classes p n) o) (are.alike p n e lt) (have (get_or classes p n) e d o (are.within p n lt))

pub shared-set : {P : Type 0} (tables : Tables) (values : ℕ → P → Option (List Value)) (block : Block) (plans : List Plan)
    (classes : List ℕ)
    (numberings : List Numbering) (shared : List (Option (SharedRows P))) → AreClasses plans classes
    → AreShared tables values block plans numberings shared
    → (p class : ℕ) (numbering : Numbering) (new : Option (SharedRows P)) → p < length plans → ((n : ℕ) → class ≡ get_or classes p n)
    → class < length numberings → class < length shared
    → ((e : Plan) → IfSome new (IsShared tables values block (get_or plans p e) numbering.keys.items))
    → AreShared tables values block plans (set numberings class numbering) (set shared class new)
shared-set {P} tables values block plans classes numberings shared are have p class numbering new lt is there room takes r e d o within =
    ⊎_elim
    (λ same.
    subst (λ (held : Option (SharedRows P)). IfSome held (IsShared tables values block (get_or plans r e)
    (keys_at (set numberings class numbering) r d)))
    (sym (ap (λ n. get_or (set shared class new) n o) same ∙ get_or-set_same shared class new o room))
    (subst (λ (keys : List (List Value)). IfSome new (IsShared tables values block (get_or plans r e) keys))
    (sym (ap (λ (n : Numbering). n.keys.items) (at-class numberings class numbering there r d same)))
    (if-alike tables values block (get_or plans p e) (get_or plans r e) numbering.keys.items new
    (subst (λ n. AreAlike (get_or plans p e) (get_or plans n e)) (sym (same ∙ is 0))
    (alike-other (get_or plans (get_or classes p 0) e) (get_or plans p e) (are.alike p 0 e lt))) (takes e))))
    (λ other.
    subst (λ (held : Option (SharedRows P)). IfSome held (IsShared tables values block (get_or plans r e)
    (keys_at (set numberings class numbering) r d)))
    (sym (get_or-set_other shared class r new o other))
    (subst (λ (keys : List (List Value)). IfSome (get_or shared r o) (IsShared tables values block (get_or plans r e) keys))
    (ap (λ (n : Numbering). n.keys.items) (sym (get_or-set_other numberings class r numbering d other))) (have r e d o within)))
    (cases_eq r class)
