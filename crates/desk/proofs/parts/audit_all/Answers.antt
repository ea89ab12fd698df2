-- All shares together are the whole ledger.
use Rattle.std.proofs.Common.{arith}
use Rattle.desk.proofs.Shares.{none_shared}
use Rattle.desk.proofs.parts.audit_all.Goals as goal

pub audit-requires : goal.audit-requires
audit-requires g c =
    let r = c.requires in
    let free = c.merged.ensures in
    let all = c.merged-all.ensures in
    omega (arith, free.parts, all.parts, all.within, r.rest.0, r.all, r.parts)

pub returns-clause-all : goal.returns-clause-all
returns-clause-all g c =
    let r = c.requires in
    let free = c.merged.ensures in
    let all = c.merged-all.ensures in
    omega (arith, free.parts, all.parts, all.within, r.rest.0, r.all, r.parts)

pub returns-clause-counted : goal.returns-clause-counted
returns-clause-counted g c =
    let none = none_shared g.L.Origin.first c.args.free.items c.requires.free in
    omega (arith, none, c.requires.rest.1, c.merged.ensures.amount, c.merged-all.ensures.amount, c.audit.ensures.all)
