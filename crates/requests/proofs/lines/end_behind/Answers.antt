-- The first end of a line among the other bytes is the first of all.
use Rattle.std.proofs.Common.{◌∙◌, sym, ap, drop, position}
use Rattle.requests.proofs.Bytes.{end-behind, inside-all, inside-rest, ends_line}
use Rattle.requests.proofs.lines.end_behind.Goals as goal

pub returns-in-Some : goal.returns-in-Some
returns-in-Some c =
    end-behind c.args.bytes.now c.args.looked_at c.in-Some.more c.requires.within c.requires.inside
    (sym c.in-Some.is ∙ c.end_of.ensures ∙ ap (position ends_line) c.split_at.ensures.back)

pub returns-in-None : goal.returns-in-None
returns-in-None c =
    inside-rest c.args.bytes.now c.args.looked_at c.requires.inside
    (inside-all (drop c.args.looked_at c.args.bytes.now)
    (sym c.in-None.is ∙ c.end_of.ensures ∙ ap (position ends_line) c.split_at.ensures.back))
