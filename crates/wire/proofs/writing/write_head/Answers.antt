-- The front and the counts join to the spelling of the Head.
use Rattle.std.proofs.Common.{◌≡◌, ◌+◌, ◌*◌, ◌++◌, length, ap, ◌∙◌, List, ℕ}
use Rattle.std.specs.List.{flat_map}
use Rattle.byteorder.specs.Endian.{big_bytes}
use Rattle.wire.specs.declared.datagram.Datagram.TheVariants.{Head}
use Rattle.wire.specs.declared.head.Head as heads
use Rattle.wire.specs.Spelling.{spelling, in_turn, HasDatagramSpelling, datagram_front, head_head, counts_spelling}
use Rattle.wire.proofs.Lists.{pointwise-length}
use Rattle.wire.proofs.Sizes.{head_parts, joined_ok, joined_small}
use Rattle.wire.proofs.writing.write_head.Goals as goal

-- the parts are those of the Head
joins : (head : heads.Head) → HasDatagramSpelling (Head head) → (front bytes lows counts numbers : List ℕ)
    → front ≡ datagram_front 3 (48 + 16 * length head.counts) ++ head_head head → lows ≡ head.lows → counts ≡ head.counts
    → numbers ≡ in_turn lows counts → bytes ≡ flat_map (big_bytes 8) numbers → front ++ bytes ≡ spelling (Head head)
joins head fits front bytes lows counts numbers is_front are_lows are_counts is_numbers is_bytes =
    let rest : bytes ≡ counts_spelling head =
    is_bytes ∙ ap (flat_map (big_bytes 8))
    (is_numbers ∙ ap (λ (l : List ℕ). in_turn l counts) are_lows ∙ ap (in_turn head.lows) are_counts) in
    ap (λ (t : List ℕ). t ++ bytes) is_front
    ∙ ap (λ (t : List ℕ). (datagram_front 3 (48 + 16 * length head.counts) ++ head_head head) ++ t) rest
    ∙ head_parts head (pointwise-length head.lows head.counts fits.1.lows_within)

pub returns-clause-ok : goal.returns-clause-ok
returns-clause-ok c =
    let head = c.args.head.now in
    let parts : c.head_front-front.result ++ c.write_u64_into.new.dst ≡ spelling (Head head) =
    joins head c.requires c.head_front-front.result c.write_u64_into.new.dst c.as_slice.result.now c.as_slice-2.result.now
    c.as_slice-numbers.result.now c.head_front-front.ensures c.as_slice.ensures.counts c.as_slice-2.ensures.counts
    (c.as_slice-numbers.ensures.value ∙ c.in_turn-numbers.ensures) c.write_u64_into.ensures in
    joined_ok c.put_two.result c.head_front-front.result c.write_u64_into.new.dst c.args.buffer.now c.put_two.new.buffer
    (spelling (Head head)) parts c.put_two.ensures.ok

pub returns-clause-small : goal.returns-clause-small
returns-clause-small c =
    let head = c.args.head.now in
    let parts : c.head_front-front.result ++ c.write_u64_into.new.dst ≡ spelling (Head head) =
    joins head c.requires c.head_front-front.result c.write_u64_into.new.dst c.as_slice.result.now c.as_slice-2.result.now
    c.as_slice-numbers.result.now c.head_front-front.ensures c.as_slice.ensures.counts c.as_slice-2.ensures.counts
    (c.as_slice-numbers.ensures.value ∙ c.in_turn-numbers.ensures) c.write_u64_into.ensures in
    joined_small c.put_two.result c.head_front-front.result c.write_u64_into.new.dst c.args.buffer.now (spelling (Head head)) parts
    c.put_two.ensures.small
