-- Each answer takes what it hands out, after what was skipped.
use Rattle.std.proofs.Common.{Err, ap}
use Rattle.std.specs.Io.KnownBytes.{prepend_known}
use Rattle.requests.specs.Lines.{input_left, is_cut, has_ended}
use Rattle.requests.proofs.Handing.{hands-after, skips-after, takes-fault, ends-now}
use Rattle.requests.proofs.lines.Lines.next.Goals as goal

pub returns-in-Some-clause-hands : goal.returns-in-Some-clause-hands
returns-in-Some-clause-hands g c =
    let remaining = g.R.Read.remaining c.loop.reader in
    hands-after (has_ended c.hand_out.new.self) (is_cut c.args.self.now) (is_cut c.loop.self) (is_cut c.skip_cut.new.self)
    (is_cut c.len_of_first.new.self) (is_cut c.hand_out.new.self) (input_left c.args.self.now (g.R.Read.remaining c.args.reader.now))
    (input_left c.loop.self remaining) (input_left c.skip_cut.new.self remaining) (input_left c.len_of_first.new.self remaining)
    (input_left c.hand_out.new.self remaining) c.hand_out.result c.loop.invariant.0 (c.skip_cut.ensures.skips remaining)
    c.len_of_first.ensures.cut (ap (λ bytes. prepend_known bytes remaining) c.len_of_first.ensures.rest)
    (c.hand_out.ensures.takes remaining)

pub returns-then-self-clause-hands : goal.returns-then-self-clause-hands
returns-then-self-clause-hands g c =
    let remaining = g.R.Read.remaining c.loop.reader in
    hands-after (has_ended c.last.new.self) (is_cut c.args.self.now) (is_cut c.loop.self) (is_cut c.skip_cut.new.self)
    (is_cut c.len_of_first.new.self) (is_cut c.last.new.self) (input_left c.args.self.now (g.R.Read.remaining c.args.reader.now))
    (input_left c.loop.self remaining) (input_left c.skip_cut.new.self remaining) (input_left c.len_of_first.new.self remaining)
    (input_left c.last.new.self remaining) c.last.result c.loop.invariant.0 (c.skip_cut.ensures.skips remaining)
    c.len_of_first.ensures.cut (ap (λ bytes. prepend_known bytes remaining) c.len_of_first.ensures.rest)
    (c.last.ensures.takes remaining)

pub returns-in-Ok-false-clause-hands : goal.returns-in-Ok-false-clause-hands
returns-in-Ok-false-clause-hands g c =
    let remaining = g.R.Read.remaining c.loop.reader in
    hands-after (has_ended c.fill.new.self) (is_cut c.args.self.now) (is_cut c.loop.self) (is_cut c.skip_cut.new.self)
    (is_cut c.len_of_first.new.self) (is_cut c.fill.new.self) (input_left c.args.self.now (g.R.Read.remaining c.args.reader.now))
    (input_left c.loop.self remaining) (input_left c.skip_cut.new.self remaining) (input_left c.len_of_first.new.self remaining)
    (input_left c.fill.new.self (g.R.Read.remaining c.fill.new.reader)) _ c.loop.invariant.0 (c.skip_cut.ensures.skips remaining)
    c.len_of_first.ensures.cut (ap (λ bytes. prepend_known bytes remaining) c.len_of_first.ensures.rest)
    (c.fill.ensures.cut, c.fill.ensures.left)

pub returns-in-Err-clause-hands : goal.returns-in-Err-clause-hands
returns-in-Err-clause-hands g c =
    let remaining = g.R.Read.remaining c.loop.reader in
    hands-after (has_ended c.fill.new.self) (is_cut c.args.self.now) (is_cut c.loop.self) (is_cut c.skip_cut.new.self)
    (is_cut c.len_of_first.new.self) (is_cut c.fill.new.self) (input_left c.args.self.now (g.R.Read.remaining c.args.reader.now))
    (input_left c.loop.self remaining) (input_left c.skip_cut.new.self remaining) (input_left c.len_of_first.new.self remaining)
    (input_left c.fill.new.self (g.R.Read.remaining c.fill.new.reader)) (Err c.in-Err.fault) c.loop.invariant.0
    (c.skip_cut.ensures.skips remaining) c.len_of_first.ensures.cut
    (ap (λ bytes. prepend_known bytes remaining) c.len_of_first.ensures.rest)
    (takes-fault (has_ended c.fill.new.self) _ _ _ _ c.in-Err.fault c.in-Err.ensures.fault c.fill.ensures.cut c.fill.ensures.left)

pub loop-preserved : goal.loop-preserved
loop-preserved g c =
    let remaining = g.R.Read.remaining c.loop.reader in (
      skips-after (is_cut c.args.self.now) (is_cut c.loop.self) (is_cut c.skip_cut.new.self) (is_cut c.len_of_first.new.self)
          (is_cut c.fill.new.self) (input_left c.args.self.now (g.R.Read.remaining c.args.reader.now)) (input_left c.loop.self remaining)
          (input_left c.skip_cut.new.self remaining) (input_left c.len_of_first.new.self remaining)
          (input_left c.fill.new.self (g.R.Read.remaining c.fill.new.reader)) c.loop.invariant.0 (c.skip_cut.ensures.skips remaining)
          c.len_of_first.ensures.cut (ap (λ bytes. prepend_known bytes remaining) c.len_of_first.ensures.rest) c.fill.ensures.cut
          c.fill.ensures.left,
      ends-now (has_ended c.args.self.now) (has_ended c.len_of_first.new.self) (has_ended c.fill.new.self)
          (g.R.Read.remaining c.fill.new.reader) c.if-self.false c.fill.ensures.ended,
    )
