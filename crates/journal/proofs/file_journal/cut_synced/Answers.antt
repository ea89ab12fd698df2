-- A truncation whose sync failed leaves what was asked for.
use Rattle.std.proofs.Common.{rules, ◌≡◌, take}
use Rattle.journal.proofs.Settling.{cut-is_partly, on-err}
use Rattle.journal.proofs.file_journal.cut_synced.Goals as goal

pub returns-clause-err : goal.returns-clause-err
returns-clause-err g c honest =
    let old = g.D.Disk.content c.args.disk.now in
    let now = g.D.Disk.content c.sync.new.self in
    let is : now ≡ take c.args.len old = search rules in
    on-err c.sync.result (cut-is_partly c.args.len old now (c.requires honest) is)
