-- The line and its end are taken, and what comes after them is left.
use Rattle.std.proofs.Common.{take, drop, ap, ◌∙◌, arith}
use Rattle.requests.proofs.Taking.{takes-line}
use Rattle.requests.proofs.lines.Lines.hand_out.Goals as goal

pub returns-clause-takes : goal.returns-clause-takes
returns-clause-takes c = λ remaining. (
  c.requires.cut,
  c.requires.cut,
  (
    take c.args.end_len (drop c.args.len c.args.self.now.rest.items),
    c.requires.end (omega (arith, c.if-len-gt-LINE_LEN_MAX.false)),
    takes-line c.args.self.now.rest.items c.in-Ok.line c.advance.new.self.items c.args.len c.args.end_len remaining c.in-Ok.ensures.front
        (c.advance.ensures.items ∙ ap (drop c.args.end_len) c.in-Ok.ensures.rest.0),
  ),
)
