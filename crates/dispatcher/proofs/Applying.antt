-- What applying the commits that came comes to.
use Rattle.std.proofs.Common.{◌≡◌, ◌≤◌, ℕ, Bool, true, false, cond, List, [], ◌++◌, Result, Ok, Err, IsOkAnd, refl, sym, ap}
use Rattle.std.proofs.Common.{subst}
use Rattle.std.proofs.Common.{◌∙◌, arith}
use Rattle.std.specs.Prelude.{IsErr}
use Rattle.rows.specs.declared.commit.Commit.{Commit}
use Rattle.rows.specs.Commits.{apply_commits}
use Rattle.rows.specs.Tables.{Tables, Refusal, opening, and_then}
use Rattle.store.specs.declared.faults.ApplyFault.{ApplyFault}
use Rattle.store.specs.declared.faults.ApplyFault.TheVariants as applying
use Rattle.intake.specs.Kept.{frames_between}
use Rattle.update_log.specs.declared.frame.Frame.{Frame}
use Rattle.ordering.specs.Laws.{MergeIsUnique, PartBeginsMerge, MergeBeginsWithPart}
use Rattle.ordering.specs.Merging.{AreMarked, IsMerge, frames_in}
use Rattle.dispatcher.specs.declared.faults.CatchUpFault.{CatchUpFault}
use Rattle.dispatcher.specs.declared.faults.CatchUpFault.TheVariants.{Inconsistent, Memory, Broken}
use Rattle.dispatcher.specs.Images.{image_commits}
use Rattle.dispatcher.specs.State.{Replica, Fetched, Pieces, no_pieces}
use Rattle.dispatcher.specs.Protocol.{by_image}
use Rattle.dispatcher.specs.Steps.{broken_of, HoldNext, first_tables, to_apply, at_fetched, BatchFits, CaughtUp, CannotCatchUp}
use Rattle.dispatcher.specs.Inner.Merging.{Merging, IsBegun, GoesOnFrom, MergeApplies}
use Rattle.dispatcher.specs.Inner.Parts.{CatchesUp, AreMade, AreNotMade, Applies, Reaches, AppliesImage, fault_of}
use Rattle.dispatcher.proofs.Merging.{begun-merge, merge-begun}
use Rattle.dispatcher.proofs.Standing.{is-by-image}
use Rattle.dispatcher.proofs.Versions.{apply_commits-append}

made-parts : (r : Replica) (fetched : Fetched) (made : Result Tables Refusal) (new : Replica) → AreMade r fetched made new
    → IsOkAnd made (λ tables. new ≡ at_fetched r fetched tables) × BatchFits new.tables r.batch
made-parts r fetched (Ok tables) new h =
    (h.0, subst (λ (after : Replica). BatchFits after.tables r.batch) (sym h.0) h.1)
made-parts r fetched (Err refusal) new h = absurd h

-- what came holds these commits, which were applied
pub caught-up : (r : Replica) (fetched : Fetched) (commits : List Commit) (new : Replica) → HoldNext r fetched commits
    → AreMade r fetched (apply_commits (first_tables r fetched) (to_apply r fetched commits)) new → CaughtUp r fetched new
caught-up r fetched commits new held made =
    let parts = made-parts r fetched (apply_commits (first_tables r fetched) (to_apply r fetched commits)) new made in
    record { commits = commits; held = held; applied = parts.0; fits = parts.1 }

none-made : (r : Replica) (fetched : Fetched) (made : Result Tables Refusal) (new : Replica) → AreNotMade r made
    → IsOkAnd made (λ tables. new ≡ at_fetched r fetched tables) → BatchFits new.tables r.batch → ⊥
none-made r fetched (Ok tables) new not is fits = not (subst (λ (after : Replica). BatchFits after.tables r.batch) is fits)
none-made r fetched (Err refusal) new not is fits = absurd is

-- ---- the store made the changes

-- a merge goes on with one list of commits at the most
goes-once : MergeIsUnique → (merging : Merging) (to : ℕ) (commits others : List Commit) → GoesOnFrom merging to commits
    → GoesOnFrom merging to others → commits ≡ others
goes-once only merging to commits others goes other =
    goes.1
    ∙ ap (λ (l : List Commit). merging.part ++ l) (only merging.left merging.version to goes.0 other.0 goes.2 other.2)
    ∙ sym other.1

refused-not-made : (r : Replica) (made : Result Tables Refusal) → IsErr made → AreNotMade r made
refused-not-made r (Ok tables) h = absurd (cc)
refused-not-made r (Err refusal) h = λ fits. fits

-- those of a merge, after which the batch's queries fit or not
pub reached-applies : MergeIsUnique → (r : Replica) (fetched : Fetched) (before tables : Tables) (merging : Merging)
    (result : Result (Unit {0}) CatchUpFault) (new : Replica) → MergeApplies merging fetched.version before (Ok tt) tables
    → Reaches (record r { tables = tables }) fetched result new → Applies r fetched before merging result new
reached-applies only r fetched before tables merging (Ok done) new made reached =
    (made.0, made.1, subst (λ (made : Result Tables Refusal). AreMade r fetched made new) (sym made.2) reached)
reached-applies only r fetched before tables merging (Err Inconsistent) new made reached = (
  λ commits goes.
      subst (λ (made : Result Tables Refusal). AreNotMade r made)
      (sym (ap (apply_commits before) (goes-once only merging fetched.version commits made.0 goes made.1) ∙ made.2)) reached.0,
  reached.1,
)
reached-applies only r fetched before tables merging (Err Memory) new made reached = absurd reached
reached-applies only r fetched before tables merging (Err Broken) new made reached = absurd reached

-- the tables that it catches up from and all that is applied to them, by whether it goes by image
by-frames-made : (r : Replica) (fetched : Fetched) (commits : List Commit) → by_image r.version fetched ≡ false
    → apply_commits (first_tables r fetched) (to_apply r fetched commits) ≡ apply_commits r.tables commits
by-frames-made r fetched commits e =
    ap (λ (image : Bool). apply_commits (cond image (opening r.shape) r.tables)
    (image_commits (cond image (frames_between r.pieces.arrivals 0 0 fetched.pieces) []) ++ commits)) e

by-image-made : (r : Replica) (fetched : Fetched) (commits : List Commit) (tables : Tables) → by_image r.version fetched ≡ true
    → apply_commits (opening r.shape) (image_commits (frames_between r.pieces.arrivals 0 0 fetched.pieces)) ≡ Ok tables
    → apply_commits (first_tables r fetched) (to_apply r fetched commits) ≡ apply_commits tables commits
by-image-made r fetched commits tables e made =
    ap (λ (image : Bool). apply_commits (cond image (opening r.shape) r.tables)
    (image_commits (cond image (frames_between r.pieces.arrivals 0 0 fetched.pieces) []) ++ commits)) e
    ∙ apply_commits-append (opening r.shape) (image_commits (frames_between r.pieces.arrivals 0 0 fetched.pieces)) commits
    ∙ ap (and_then (λ after. apply_commits after commits)) made

-- an image that is refused is so whatever comes behind it
by-image-refused : (r : Replica) (fetched : Fetched) (commits : List Commit) → by_image r.version fetched ≡ true
    → IsErr (apply_commits (opening r.shape) (image_commits (frames_between r.pieces.arrivals 0 0 fetched.pieces)))
    → IsErr (apply_commits (first_tables r fetched) (to_apply r fetched commits))
by-image-refused r fetched commits e refused =
    subst (λ (made : Result Tables Refusal). IsErr made)
    (sym (ap (λ (image : Bool). apply_commits (cond image (opening r.shape) r.tables)
    (image_commits (cond image (frames_between r.pieces.arrivals 0 0 fetched.pieces) []) ++ commits)) e
    ∙ apply_commits-append (opening r.shape) (image_commits (frames_between r.pieces.arrivals 0 0 fetched.pieces)) commits))
    (by (apply_commits (opening r.shape) (image_commits (frames_between r.pieces.arrivals 0 0 fetched.pieces))) refused)
  where
    by : (first : Result Tables Refusal) → IsErr first → IsErr (and_then (λ after. apply_commits after commits) first)
    by (Ok after) h = absurd (cc)
    by (Err refusal) h = refl

-- ---- the image, and then the commits behind it

module _ (r : Replica) (fetched : Fetched) (merging : Merging) (image : by_image r.version fetched ≡ true) where
  -- the image was made, and then the commits were applied to a replica that has its tables and no piece
  pub image-applies : (tables : Tables) (pieces : Pieces) (result : Result (Unit {0}) CatchUpFault) (new : Replica)
      → apply_commits (opening r.shape) (image_commits (frames_between r.pieces.arrivals 0 0 fetched.pieces)) ≡ Ok tables
      → pieces.base ≡ r.pieces.base
      → Applies (record r { tables = tables; pieces = pieces }) fetched tables merging result new
      → AppliesImage r fetched merging result new
  image-applies tables pieces (Ok done) new made base applies = (
    applies.0,
    applies.1,
    subst (λ (made : Result Tables Refusal). AreMade r fetched made new)
        (sym (by-image-made r fetched applies.0 tables image made)) applies.2,
  )
  image-applies tables pieces (Err Inconsistent) new made base applies = (
    λ commits goes.
        subst (λ (made : Result Tables Refusal). AreNotMade r made) (sym (by-image-made r fetched commits tables image made))
        (applies.0 commits goes),
    applies.1 ∙ ap (λ (base : ℕ). record r { tables = []; pieces = no_pieces base; broken = true }) base,
  )
  image-applies tables pieces (Err Memory) new made base applies = absurd applies
  image-applies tables pieces (Err Broken) new made base applies =
      applies.0 ∙ ap (λ (base : ℕ). record r { tables = []; pieces = no_pieces base; broken = true }) base

  -- or it could not be
  pub image-fails : (fault : ApplyFault) (new : Replica) → new ≡ broken_of r
      → (fault ≡ applying.Inconsistent
      → IsErr (apply_commits (opening r.shape) (image_commits (frames_between r.pieces.arrivals 0 0 fetched.pieces))))
      → AppliesImage r fetched merging (Err (fault_of fault)) new
  image-fails applying.Inconsistent new broken fails = (
    λ commits goes.
        refused-not-made r (apply_commits (first_tables r fetched) (to_apply r fetched commits))
        (by-image-refused r fetched commits image (fails refl)),
    broken,
  )
  image-fails applying.Memory new broken fails = broken
  image-fails applying.Broken new broken fails = broken

-- ---- what catching up comes to

module _ (joins : PartBeginsMerge) (splits : MergeBeginsWithPart) (r : Replica) (fetched : Fetched) (merging : Merging)
    (up : merging.version ≤ fetched.version) where
  pub frames-catch-up : (result : Result (Unit {0}) CatchUpFault) (new : Replica) → by_image r.version fetched ≡ false
      → IsBegun (frames_in r.arrivals r.applied fetched.counts) r.version merging
      → Applies r fetched r.tables merging result new → CatchesUp r fetched result new
  frames-catch-up result new e begun applies = by result applies
    where
      frames : ℕ → List Frame
      frames = frames_in r.arrivals r.applied fetched.counts

      held : (commits : List Commit) → IsMerge frames r.version fetched.version commits → HoldNext r fetched commits
      held commits merged = record {
        marked = subst (λ (image : Bool). AreMarked (cond image (frames_between r.pieces.arrivals 0 0 fetched.pieces) [])) (sym e) tt;
        merged =
            subst (λ (image : Bool). IsMerge (frames_in r.arrivals (cond image fetched.lows r.applied) fetched.counts)
            (cond image fetched.base r.version) fetched.version commits) (sym e) merged;
      }

      by : (result : Result (Unit {0}) CatchUpFault) → Applies r fetched r.tables merging result new → CatchesUp r fetched result new
      by (Ok done) applies =
          caught-up r fetched applies.0 new
          (held applies.0 (begun-merge joins frames r.version fetched.version merging applies.0 begun applies.1))
          (subst (λ (made : Result Tables Refusal). AreMade r fetched made new) (sym (by-frames-made r fetched applies.0 e)) applies.2)
      by (Err Inconsistent) applies = (
        λ other caught.
            let merged =
            subst (λ (image : Bool). IsMerge (frames_in r.arrivals (cond image fetched.lows r.applied) fetched.counts)
            (cond image fetched.base r.version) fetched.version caught.commits) e caught.held.merged in
            none-made r fetched (apply_commits (first_tables r fetched) (to_apply r fetched caught.commits)) other
            (subst (λ (made : Result Tables Refusal). AreNotMade r made) (sym (by-frames-made r fetched caught.commits e))
            (applies.0 caught.commits
            (merge-begun splits frames r.version fetched.version merging caught.commits begun up merged)))
            caught.applied caught.fits,
        applies.1,
      )
      by (Err Memory) applies = absurd applies
      by (Err Broken) applies = (applies.0, omega (arith, applies.1, begun.counted))

  pub image-catches-up : (result : Result (Unit {0}) CatchUpFault) (new : Replica) → by_image r.version fetched ≡ true
      → AreMarked (frames_between r.pieces.arrivals 0 0 fetched.pieces)
      → IsBegun (frames_in r.arrivals fetched.lows fetched.counts) fetched.base merging
      → AppliesImage r fetched merging result new → CatchesUp r fetched result new
  image-catches-up result new e marked begun applies = by result applies
    where
      frames : ℕ → List Frame
      frames = frames_in r.arrivals fetched.lows fetched.counts

      held : (commits : List Commit) → IsMerge frames fetched.base fetched.version commits → HoldNext r fetched commits
      held commits merged = record {
        marked = subst (λ (image : Bool). AreMarked (cond image (frames_between r.pieces.arrivals 0 0 fetched.pieces) [])) (sym e) marked;
        merged =
            subst (λ (image : Bool). IsMerge (frames_in r.arrivals (cond image fetched.lows r.applied) fetched.counts)
            (cond image fetched.base r.version) fetched.version commits) (sym e) merged;
      }

      by : (result : Result (Unit {0}) CatchUpFault) → AppliesImage r fetched merging result new → CatchesUp r fetched result new
      by (Ok done) applies =
          caught-up r fetched applies.0 new
          (held applies.0 (begun-merge joins frames fetched.base fetched.version merging applies.0 begun applies.1)) applies.2
      by (Err Inconsistent) applies = (
        λ other caught.
            let merged =
            subst (λ (image : Bool). IsMerge (frames_in r.arrivals (cond image fetched.lows r.applied) fetched.counts)
            (cond image fetched.base r.version) fetched.version caught.commits) e caught.held.merged in
            none-made r fetched (apply_commits (first_tables r fetched) (to_apply r fetched caught.commits)) other
            (applies.0 caught.commits
            (merge-begun splits frames fetched.base fetched.version merging caught.commits begun up merged))
            caught.applied caught.fits,
        applies.1,
      )
      by (Err Memory) applies = applies
      by (Err Broken) applies = (applies, omega (arith, is-by-image r.version fetched e, begun.counted, up))

-- what came is not marked as it should be, or holds no commits
pub not-marked-stays : (r : Replica) (fetched : Fetched) → by_image r.version fetched ≡ true
    → (AreMarked (frames_between r.pieces.arrivals 0 0 fetched.pieces) → ⊥) → CannotCatchUp r fetched
not-marked-stays r fetched e not new caught =
    not (subst (λ (image : Bool). AreMarked (cond image (frames_between r.pieces.arrivals 0 0 fetched.pieces) [])) e caught.held.marked)

pub not-merged-stays : (r : Replica) (fetched : Fetched) → by_image r.version fetched ≡ true
    → ((commits : List Commit) → IsMerge (frames_in r.arrivals fetched.lows fetched.counts) fetched.base fetched.version commits → ⊥)
    → CannotCatchUp r fetched
not-merged-stays r fetched e not new caught =
    not caught.commits
    (subst (λ (image : Bool). IsMerge (frames_in r.arrivals (cond image fetched.lows r.applied) fetched.counts)
    (cond image fetched.base r.version) fetched.version caught.commits) e caught.held.merged)
