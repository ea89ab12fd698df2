-- Values and kinds that are as many are compared in pairs.
use Rattle.std.proofs.Common.{◌≡◌, ◌≢◌, ◌&&◌, false, List, [], ◌∷◌, length, refl, sym, ap, ◌∙◌, rules, tests, arith}
use Rattle.std.specs.List.{list_all, zip}
use Rattle.std.proofs.lemmas.Bool.{ne_eqb, and_right}
use Rattle.std.proofs.lemmas.Iterator.{YieldsList-from_slice, YieldsList-from_zip}
use Rattle.std.proofs.lemmas.Iterator.Consumers.{YieldsList-at}
use Rattle.std.proofs.lemmas.Iterator.Search.{all_from_yields_List}
use Rattle.rows.specs.declared.value.Value.{Value}
use Rattle.rows.specs.declared.kind.Kind.{Kind}
use Rattle.rows.specs.Values.{is_of_kind, are_of_kinds}
use Rattle.mvcc.proofs.values.are_values_of.Goals as goal

in_pairs : (values : List Value) (kinds : List Kind) → length values ≡ length kinds
    → are_of_kinds values kinds ≡ list_all (λ pair. is_of_kind pair.0 pair.1) (zip values kinds)
in_pairs [] [] h = refl
in_pairs [] (kind ∷ kinds) h = absurd (omega arith)
in_pairs (value ∷ values) [] h = absurd (omega arith)
in_pairs (value ∷ values) (kind ∷ kinds) h = ap (λ b. is_of_kind value kind && b) (in_pairs values kinds (omega arith))

uneven : (values : List Value) (kinds : List Kind) → length values ≢ length kinds → are_of_kinds values kinds ≡ false
uneven [] [] h = absurd (h refl)
uneven [] (kind ∷ kinds) h = refl
uneven (value ∷ values) [] h = refl
uneven (value ∷ values) (kind ∷ kinds) h = and_right _ _ (uneven values kinds (λ e. h (omega arith)))

pub returns-then-values-kinds : goal.returns-then-values-kinds
returns-then-values-kinds c =
    let values = c.args.values.now in
    let kinds = c.args.kinds.now in
    let left = YieldsList-at c.zip.ensures.first (YieldsList-from_slice {s = c.iter.result} values c.iter.ensures.rest) in
    let right = YieldsList-from_slice {s = c.zip.result.b} kinds c.zip.ensures.second.0 in
    let pairs =
    all_from_yields_List (λ pair. is_of_kind pair.0 pair.1) c.all.new.self _ c.all.result c.all.ensures.ran
    (YieldsList-from_zip left right) (λ x b q k. search (rules, tests)) in
    pairs ∙ sym (in_pairs values kinds c.if-values-kinds.true)

pub returns-else-values-kinds : goal.returns-else-values-kinds
returns-else-values-kinds c = ne_eqb _ _ c.if-values-kinds.false ∙ sym (uneven c.args.values.now c.args.kinds.now c.if-values-kinds.false)
