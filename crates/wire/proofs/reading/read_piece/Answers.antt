-- A body that passes the tests reads as a Piece of its parts; one that does not, as none.
use Rattle.std.proofs.Common.{◌≡◌, ℕ, List, Option, Some, None, eqb, get_or, drop, arith, sym, ap, ◌∙◌}
use Rattle.std.proofs.lemmas.List.{take_rest}
use Rattle.byteorder.specs.Endian.{big_number}
use Rattle.rows.specs.declared.entry.Entry.{Entry}
use Rattle.rows.specs.Reading.{entries_filling}
use Rattle.wire.specs.declared.datagram.Datagram.TheVariants.{Piece}
use Rattle.wire.specs.Reading.{may_count}
use Rattle.wire.proofs.Bodies.{IsPieceAt, piece_at-is, piece_at-refused, piece_at-unfilled, counts-piece}
use Rattle.wire.proofs.Bodies.{refuses-base, refuses-flag, refuses-count}
use Rattle.wire.proofs.reading.read_piece.Goals as goal
use Rattle.wire.proofs.reading.read_piece.Goals.{
  then-base-eq0-via-then-base-eq0,
  then-base-eq0-via-else-base-eq0+then-flag-gt1,
  then-base-eq0-via-else-base-eq0+else-flag-gt1+then-not-may_count,
}

-- the number and the count that are tested are those of the body
may-be : (body : List ℕ) (number flag count : ℕ) → number ≡ big_number 8 (drop 8 body) → count ≡ big_number 2 (drop 17 body)
    → may_count number flag count ≡ may_count (big_number 8 (drop 8 body)) flag (big_number 2 (drop 17 body))
may-be body number flag count a b = λ i. may_count (a i) flag (b i)

-- what the entries fill is the rest of the body
fills : (body : List ℕ) (count : ℕ) (rest : List ℕ) (filled : Option (List Entry)) → count ≡ big_number 2 (drop 17 body)
    → rest ≡ drop 19 body → filled ≡ entries_filling count rest → entries_filling (big_number 2 (drop 17 body)) (drop 19 body) ≡ filled
fills body count rest filled a b e =
    let count_is = sym a in
    let rest_is = sym b in
    let same : entries_filling (big_number 2 (drop 17 body)) (drop 19 body) ≡ entries_filling count rest =
    λ i. entries_filling (count_is i) (rest_is i) in
    same ∙ sym e

pub returns-then-base-eq0 : goal.returns-then-base-eq0
returns-then-base-eq0 c =
    let body = c.args.body.now in
    let base = big_number 8 body in
    let number = big_number 8 (drop 8 body) in
    let flag = get_or body 16 0 in
    let count = big_number 2 (drop 17 body) in
    let number_is : c.read_u64-number.result ≡ number = c.read_u64-number.ensures ∙ ap (big_number 8) (take_rest body 8) in
    let count_is : c.read_u16-count.result ≡ count = c.read_u16-count.ensures ∙ ap (big_number 2) (take_rest body 17) in
    piece_at-refused body (elim c.then-base-eq0.branch [
      | then-base-eq0-via-then-base-eq0 w ↦ refuses-base base number flag count (sym c.read_u64-base.ensures ∙ w.if-base-eq0.true)
      | then-base-eq0-via-else-base-eq0+then-flag-gt1 w ↦ refuses-flag base number flag count w.if-flag-gt1.true
      | then-base-eq0-via-else-base-eq0+else-flag-gt1+then-not-may_count w ↦
          refuses-count base number flag count
          (sym (may-be body c.read_u64-number.result flag c.read_u16-count.result number_is count_is)
          ∙ sym w.may_count.ensures ∙ w.if-not-may_count.true)
    ])

pub returns-in_err-entries : goal.returns-in_err-entries
returns-in_err-entries c =
    let body = c.args.body.now in
    let count_is : c.read_u16-count.result ≡ big_number 2 (drop 17 body) =
    c.read_u16-count.ensures ∙ ap (big_number 2) (take_rest body 17) in
    let none : entries_filling (big_number 2 (drop 17 body)) (drop 19 body) ≡ None =
    fills body c.read_u16-count.result c.split_at.result.1.now c.filling.result count_is c.split_at.ensures.back c.filling.ensures
    ∙ c.in_err-entries.was in
    c.from_residual.ensures ∙ piece_at-unfilled body none

pub returns : goal.returns
returns c =
    let body = c.args.body.now in
    let flag = get_or body 16 0 in
    let base_is : c.read_u64-base.result ≡ big_number 8 body = c.read_u64-base.ensures in
    let number_is : c.read_u64-number.result ≡ big_number 8 (drop 8 body) =
    c.read_u64-number.ensures ∙ ap (big_number 8) (take_rest body 8) in
    let count_is : c.read_u16-count.result ≡ big_number 2 (drop 17 body) =
    c.read_u16-count.ensures ∙ ap (big_number 2) (take_rest body 17) in
    let may = sym (may-be body c.read_u64-number.result flag c.read_u16-count.result number_is count_is)
    ∙ sym c.may_count.ensures ∙ c.if-not-may_count.false in
    let filled : entries_filling (big_number 2 (drop 17 body)) (drop 19 body) ≡ Some c.in_ok-entries.entries =
    fills body c.read_u16-count.result c.split_at.result.1.now c.filling.result count_is c.split_at.ensures.back c.filling.ensures
    ∙ c.in_ok-entries.was in
    let at : IsPieceAt body =
    record {
      long = omega arith;
      based = omega (arith, base_is);
      flag = omega arith;
      empty = counts-piece (big_number 8 (drop 8 body)) flag (big_number 2 (drop 17 body)) may;
    } in
    ap (λ (n : ℕ). Some (Piece n c.read_u64-number.result (eqb flag 1) c.in_ok-entries.entries)) base_is
    ∙ ap (λ (n : ℕ). Some (Piece (big_number 8 body) n (eqb flag 1) c.in_ok-entries.entries)) number_is
    ∙ sym (piece_at-is body c.in_ok-entries.entries at filled)
