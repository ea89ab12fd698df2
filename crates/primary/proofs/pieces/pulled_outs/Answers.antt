-- All that were wanted and there.
use Rattle.std.proofs.Common.{◌≡◌, length, map, take, drop, min, ap, ◌∙◌, arith}
use Rattle.std.proofs.lemmas.List.{take_min, drop_min, take_all}
use Rattle.primary.specs.Inner.Tail.{packet_to}
use Rattle.primary.proofs.pieces.pulled_outs.Goals as goal

pub returns-clause-ok : goal.returns-clause-ok
returns-clause-ok c =
    let pieces = c.args.pieces.now in
    let from = c.args.from in
    let behind = c.split_at.result.1.now in
    let wanted = c.split_at-2.result.0.now in
    let first : c.min-start.result ≡ min from (length pieces) = c.min-start.ensures in
    let start : behind ≡ drop from pieces =
    c.split_at.ensures.back ∙ ap (λ n. drop n pieces) first ∙ drop_min from pieces in
    let few : c.min-few.result ≡ min 16 (length behind) = omega (arith, c.min-few.ensures) in
    let all : wanted ≡ take 16 (drop from pieces) =
    c.split_at-2.ensures.front ∙ ap (λ n. take n behind) few ∙ take_min 16 behind ∙ ap (take 16) start in
    c.loop-packet.invariant
    ∙ ap (map (packet_to c.args.replica)) (take_all c.loop-packet.packet-index wanted (omega (arith, c.loop-packet-test.false)) ∙ all)
