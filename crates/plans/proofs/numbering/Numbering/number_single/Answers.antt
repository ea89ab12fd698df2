-- A group that is known has its number; another one gets the place behind the keys.
use mir.Syntax.{w64}
use Rattle.std.proofs.Common.{◌≡◌, None, Some, List, [], ◌∷◌, ◌++◌, length, to_z, of_z, sym, ap, ◌∙◌, rules}
use Rattle.std.specs.BTreeMap.{is_at}
use Rattle.std.specs.Map.{lookup}
use Rattle.std.specs.Ordering.{int_cmp}
use Rattle.rows.specs.declared.value.Value.{Value}
use Rattle.rows.specs.declared.value.Value.TheVariants.{Int}
use Rattle.plans.specs.Inner.Blocks.{number_kept}
use Rattle.plans.proofs.Numbers.{held, get-last, known-next, there-next, none-some, single-others}
use Rattle.plans.proofs.numbering.Numbering.number_single.Goals as goal

pub returns-in-Some-clause-number : goal.returns-in-Some-clause-number
returns-in-Some-clause-number c =
    let same = held c.args.number c.ranges.number in
    c.requires.numbering.there c.in-Some.place.now (Int c.args.number ∷ [])
    (sym (ap (λ z. lookup (is_at (int_cmp z)) c.args.self.now.singles.entries) same) ∙ sym c.in-Some.ensures.value)

pub returns-clause-numbering : goal.returns-clause-numbering
returns-clause-numbering c =
    let keys = c.args.self.now.keys.items in
    let key = Int c.args.number ∷ [] in
    let before = number_kept c.args.self.now.singles.entries c.args.self.now.others.entries in
    let after = number_kept c.insert.new.self.entries c.args.self.now.others.entries in
    let items : c.push-2.new.self.items ≡ keys ++ key ∷ [] = search rules in
    let is : c.in_ok-place.place ≡ length keys = search rules in
    let none : lookup (is_at (int_cmp c.args.number)) c.args.self.now.singles.entries ≡ None = search rules in
    let bits = to_z w64 (of_z w64 c.args.number) in
    let same : bits ≡ c.args.number = held c.args.number c.ranges.number in
    let new : after key ≡ Some (length keys) =
    sym (ap (λ z. lookup (is_at (int_cmp z)) c.insert.new.self.entries) same) ∙ c.in_ok-insert.ensures.updates.1 ∙ ap Some is in
    let others =
    λ (other : List Value) (apart : other ≡ key → ⊥).
    single-others c.args.self.now.singles.entries c.insert.new.self.entries c.args.self.now.others.entries bits c.in_ok-place.place
    c.in_ok-insert.ensures.updates.0 other (λ e. apart (e ∙ ap (λ z. Int z ∷ []) same)) in
    record {
      known = rw (items) (known-next keys key before after none new others c.requires.numbering.known);
      there = rw (items) (there-next keys key before after none new others c.requires.numbering.there);
    }

pub returns-clause-number : goal.returns-clause-number
returns-clause-number c =
    let keys = c.args.self.now.keys.items in
    let key = Int c.args.number ∷ [] in
    let items : c.push-2.new.self.items ≡ keys ++ key ∷ [] = search rules in
    let is : c.in_ok-place.place ≡ length keys = search rules in
    rw (items, is) (get-last keys key)

pub returns-clause-stays : goal.returns-clause-stays
returns-clause-stays c = λ n e.
    let none : lookup (is_at (int_cmp c.args.number)) c.args.self.now.singles.entries ≡ None = search rules in
    absurd (none-some n (sym none ∙ c.requires.numbering.known n (Int c.args.number ∷ []) e))
