-- Each chain of the table from the row on adds its insert, if it has a row at the version; at most so many are gone over.
use Rattle.std.proofs.Common.{◌≡◌, ◌<◌, ◌++◌, [], ◌∷◌, List, length, ℕ, Bor, None, Some, sym, ap, subst, ◌∙◌, arith, append-nil}
use Rattle.std.specs.List.{AllByRecursion}
use Rattle.std.specs.List.Sorted.{IsStrictlySortedBy}
use Rattle.std.specs.Map.{keys_of}
use Rattle.std.specs.Option.{option_map}
use Rattle.std.proofs.lemmas.List.{length-append}
use Rattle.rows.specs.Spelling.{AreBytes}
use Rattle.mvcc.specs.Inner.Chains.{Chains}
use Rattle.mvcc.specs.Inner.Images.{found_at, chains_within, inserts_of}
use Rattle.mvcc.specs.Inner.Keys.{key_cmp}
use Rattle.mvcc.proofs.Images.{Falls, between, within-sorted, walk-more, inserts-more, bytes-more, upto-head, later-head}
use Rattle.mvcc.proofs.chains.Chains.push_rows.Goals as goal
use Rattle.mvcc.proofs.chains.Chains.push_rows.Goals.{In-Some}

pub loop-key-init : goal.loop-key-init
loop-key-init c =
    let chains = c.args.self.now in
    let table = c.args.place.table in
    let from = c.args.place.row in
    let walked : c.into_iter-key-iterator.result ≡ chains_within table from None chains =
    c.into_iter-key-iterator.ensures.into_iter_gives ∙ c.range-key-items.ensures.between tt
    ∙ between table from c.self.inside.chains.entries
    ∙ ap (chains_within table from None) c.self.view_is in
    let sorted : IsStrictlySortedBy key_cmp (keys_of chains) =
    subst (λ (all : Chains). IsStrictlySortedBy key_cmp (keys_of all)) c.self.view_is c.range-key-items.ensures.ordered in
    record {
      done = [];
      whole = walked;
      count = omega arith;
      items = sym (append-nil c.args.image.now.items);
      bytes = tt;
      sorted = subst Falls (sym walked) (within-sorted table from None chains sorted c.requires.sorted);
    }

sorted-keys : (c : In-Some) → IsStrictlySortedBy key_cmp (keys_of c.args.self.now)
sorted-keys c = subst (λ (all : Chains). IsStrictlySortedBy key_cmp (keys_of all)) c.self.view_is c.range-key-items.ensures.ordered

-- those so far, and the next one behind them
split : (c : In-Some) → c.loop-key.invariant.done ++ (c.in-Some.key.now, c.in-Some.chain.now) ∷ c.next.new.self
    ≡ chains_within c.args.place.table c.args.place.row None c.args.self.now
split c =
    ap (λ (left : Chains). c.loop-key.invariant.done ++ left) (sym c.in-Some.ensures.steps) ∙ c.loop-key.invariant.whole

-- they are all that are before the next one
upto : (c : In-Some)
    → chains_within c.args.place.table c.args.place.row (Some c.in-Some.key.now.1) c.args.self.now ≡ c.loop-key.invariant.done
upto c =
    upto-head c.args.place.table c.args.place.row c.args.self.now c.loop-key.invariant.done c.next.new.self c.in-Some.key.now
    c.in-Some.chain.now (sorted-keys c) (split c)

pub returns-then-left-eq0-clause-inserts : goal.returns-then-left-eq0-clause-inserts
returns-then-left-eq0-clause-inserts c =
    c.loop-key.invariant.items
    ∙ ap (λ (chains : Chains). c.args.image.now.items ++ inserts_of c.args.place.table (found_at c.args.version c.args.blank.now chains))
    (sym (upto (goal.at.returns-then-left-eq0-clause-inserts c).In-Some))

pub returns-then-left-eq0-clause-bytes : goal.returns-then-left-eq0-clause-bytes
returns-then-left-eq0-clause-bytes c =
    subst (λ (chains : Chains). AllByRecursion (λ row. AreBytes row.1) (found_at c.args.version c.args.blank.now chains))
    (sym (upto (goal.at.returns-then-left-eq0-clause-bytes c).In-Some)) c.loop-key.invariant.bytes

pub returns-then-left-eq0-clause-later : goal.returns-then-left-eq0-clause-later
returns-then-left-eq0-clause-later c =
    let here = (goal.at.returns-then-left-eq0-clause-later c).In-Some in
    let some : 0 < length c.loop-key.invariant.done =
    omega (arith, c.loop-key.invariant.count, c.requires.some, c.if-left-eq0.true) in
    later-head c.args.place.table c.args.place.row c.args.self.now c.loop-key.invariant.done c.next.new.self c.in-Some.key.now
    c.in-Some.chain.now (sorted-keys here) (split here) some

pub loop-key-preserved : goal.loop-key-preserved
loop-key-preserved c =
    let version = c.args.version in
    let blank = c.args.blank.now in
    let key = c.in-Some.key.now in
    let links = c.in-Some.chain.now in
    let bytes = option_map (λ (b : Bor (List ℕ)). b.now) c.bytes_at-bytes.result in
    let before = c.loop-key.invariant in
    record {
      done = before.done ++ (key, links) ∷ [];
      whole =
          walk-more before.done key links c.next.new.self c.loop-key.key-iterator
          (chains_within c.args.place.table c.args.place.row None c.args.self.now) c.in-Some.ensures.steps before.whole;
      count = omega (arith, before.count, c.if-left-eq0.false, length-append before.done ((key, links) ∷ []));
      items =
          inserts-more version c.args.place.table blank c.args.image.now.items c.loop-key.image.items c.push_row.new.image.items before.done
          key links bytes c.bytes_at-bytes.ensures before.items c.in_ok-push_row.ensures.insert;
      bytes = bytes-more version blank before.done key links bytes c.bytes_at-bytes.ensures before.bytes c.push_row.ensures.bytes;
      sorted = (subst Falls c.in-Some.ensures.steps before.sorted).1;
    }
