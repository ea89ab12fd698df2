-- A group that is known has its number; another one gets the place behind the keys.
use Rattle.std.proofs.Common.{◌≡◌, None, Some, [], ◌∷◌, ◌++◌, length, sym, ap, ◌∙◌, rules}
use Rattle.std.specs.BTreeMap.{is_at}
use Rattle.std.specs.Map.{lookup}
use Rattle.queries.specs.Order.{group_cmp}
use Rattle.plans.specs.Inner.Blocks.{number_kept}
use Rattle.plans.proofs.Numbers.{get-last, known-next, there-next, none-some, other-others}
use Rattle.plans.proofs.numbering.Numbering.number_other.Goals as goal

pub returns-in-Some-clause-number : goal.returns-in-Some-clause-number
returns-in-Some-clause-number c =
    c.requires.numbering.there c.in-Some.place.now c.args.key
    (c.requires.other c.args.self.now.singles.entries c.args.self.now.others.entries ∙ sym c.in-Some.ensures.value)

pub returns-clause-numbering : goal.returns-clause-numbering
returns-clause-numbering c =
    let keys = c.args.self.now.keys.items in
    let key = c.args.key in
    let singles = c.args.self.now.singles.entries in
    let before = number_kept singles c.args.self.now.others.entries in
    let after = number_kept singles c.insert.new.self.entries in
    let items : c.push.new.self.items ≡ keys ++ key ∷ [] = search rules in
    let is : c.in_ok-place.place ≡ length keys = search rules in
    let absent : lookup (is_at (group_cmp c.args.key)) c.args.self.now.others.entries ≡ None = search rules in
    let none : before key ≡ None = c.requires.other singles c.args.self.now.others.entries ∙ absent in
    let new : after key ≡ Some (length keys) =
    c.requires.other singles c.insert.new.self.entries ∙ c.in_ok-insert.ensures.updates.1 ∙ ap Some is in
    let others =
    other-others singles c.args.self.now.others.entries c.insert.new.self.entries key c.in_ok-place.place
    c.in_ok-insert.ensures.updates.0 in
    record {
      known = rw (items) (known-next keys key before after none new others c.requires.numbering.known);
      there = rw (items) (there-next keys key before after none new others c.requires.numbering.there);
    }

pub returns-clause-number : goal.returns-clause-number
returns-clause-number c =
    let keys = c.args.self.now.keys.items in
    let key = c.args.key in
    let items : c.push.new.self.items ≡ keys ++ key ∷ [] = search rules in
    let is : c.in_ok-place.place ≡ length keys = search rules in
    rw (items, is) (get-last keys key)

pub returns-clause-stays : goal.returns-clause-stays
returns-clause-stays c = λ n e.
    let absent : lookup (is_at (group_cmp c.args.key)) c.args.self.now.others.entries ≡ None = search rules in
    absurd (none-some n (sym absent ∙ sym (c.requires.other c.args.self.now.singles.entries c.args.self.now.others.entries)
    ∙ c.requires.numbering.known n c.args.key e))
