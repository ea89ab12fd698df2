-- The first six bytes passed each test, so the bytes read as their body does.
use Rattle.std.proofs.Common.{◌≡◌, ℕ, List, Option, length, get_or, drop, sym, ap, ◌∙◌, arith}
use Rattle.std.specs.Option.{ok_or}
use Rattle.std.proofs.lemmas.List.{get_or-take, take_rest}
use Rattle.byteorder.specs.Endian.{big_number}
use Rattle.wire.specs.declared.datagram.Datagram.{Datagram}
use Rattle.wire.specs.declared.faults.WireFault.TheVariants.{Body}
use Rattle.wire.specs.Reading.{body_at}
use Rattle.wire.proofs.FirstSix.{first_number, third_number, reading-of}
use Rattle.wire.proofs.reading.read_datagram.Goals as goal

pub returns : goal.returns
returns c =
    let bytes = c.args.bytes.now in
    let head = c.split_at.result.0.now in
    let kind = get_or head 3 0 in
    let front = c.split_at.ensures.front in
    let magic : big_number 2 bytes ≡ 0x4244 =
    sym (first_number bytes) ∙ ap (big_number 2) (sym front) ∙ sym c.read_u16.ensures ∙ c.if-read_u16-ne-DATAGRAM_MAGIC.false in
    let version : get_or bytes 2 0 ≡ 3 =
    sym (get_or-take 6 bytes 2 0 (omega arith)) ∙ ap (λ (l : List ℕ). get_or l 2 0) (sym front) ∙ c.if-head-ne-DATAGRAM_VERSION.false in
    let kind_is : get_or bytes 3 0 ≡ kind =
    sym (get_or-take 6 bytes 3 0 (omega arith)) ∙ ap (λ (l : List ℕ). get_or l 3 0) (sym front) in
    let total : big_number 2 (drop 4 bytes) ≡ length bytes =
    sym (third_number bytes) ∙ ap (λ (l : List ℕ). big_number 2 (drop 4 l)) (sym front) ∙ sym (ap (big_number 2) (take_rest head 4))
    ∙ sym c.read_u16-total.ensures ∙ c.if-total-bytes.false in
    c.ok_or.ensures.value
    ∙ ap (λ (found : Option Datagram). ok_or found Body) (c.read_body.ensures ∙ ap (body_at kind) c.split_at.ensures.back)
    ∙ sym (reading-of bytes kind c.if-bytes-lt6.false magic version kind_is (sym c.is_unknown.ensures ∙ c.if-is_unknown.false) total
    (omega (arith, total, c.if-total-bytes.false, c.if-total-gt-DATAGRAM_MAX.false)))
