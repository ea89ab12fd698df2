-- `any` over the tables given is the test over what they give.
use Rattle.std.proofs.Common.{rules, sym, ◌∙◌}
use Rattle.std.specs.Str.{bytes_eq}
use Rattle.std.proofs.lemmas.Iterator.{YieldsList-from_slice}
use Rattle.std.proofs.lemmas.Iterator.Search.{any_from_yields_List}
use borrow.Author.Tests.{tests}
use Rattle.rows.specs.Shape.{given}
use Rattle.rows.proofs.Schemas.{list_any-map}
use Rattle.rows.proofs.schema.is_named.Goals as goal

pub returns : goal.returns
returns c =
    any_from_yields_List (λ table. bytes_eq table.0.now c.args.name.now) _ _ _ c.any.ensures.ran
    (YieldsList-from_slice c.args.tables.now cc) (λ x b q k. search (rules, tests))
    ∙ sym (list_any-map (λ other. bytes_eq other.0 c.args.name.now) given c.args.tables.now)
