-- What the frames are says which parts they hold.
use Rattle.std.proofs.Common.{◌≡◌, map, ap, ◌∙◌, Vec, Global}
use Rattle.update_log.specs.declared.frame.Frame.{Frame}
use Rattle.update_log.specs.Parts.{AreParts, parts_of}
use Rattle.update_log.specs.Frames.{frames_from}
use Rattle.update_log.proofs.Elements.{ok-then}
use Rattle.update_log.proofs.Framing.{held-are_parts}
use Rattle.update_log.proofs.cutting.cut.Goals as goal

pub returns-clause-parts : goal.returns-clause-parts
returns-clause-parts c =
    let commit = c.args.commit.now in
    let number = c.args.number in
    let first = c.args.first_seq in
    ok-then
    (λ (frames : Vec Frame Global). frames.items ≡ frames_from commit.worker number first (parts_of c.as_slice-entries.result.now))
    (λ (frames : Vec Frame Global). AreParts commit.entries (map (λ frame. frame.entries) frames.items)) c.cut_entries.result
    (λ (frames : Vec Frame Global) is.
    held-are_parts commit number first frames.items c.requires.spelled
    (is ∙ ap (λ entries. frames_from commit.worker number first (parts_of entries)) c.as_slice-entries.ensures))
    c.cut_entries.ensures.frames
