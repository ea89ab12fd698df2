-- A replica that is fed from a list and lacks nothing catches up with the version that was fetched for its batch.
use Rattle.std.proofs.Common.{◌≡◌, ℕ, ◌+◌, ◌-◌, ◌<◌, ◌≤◌, Bool, true, false, cond, List, [], ◌∷◌, ◌++◌, length, Result, Ok, Err, IsOkAnd}
use Rattle.std.proofs.Common.{None, slice_index, take, refl, sym, ap, subst, ◌∙◌, arith}
use Rattle.std.proofs.Math.Seq.{take-add}
use Rattle.std.proofs.lemmas.List.{take_all}
use Rattle.rows.specs.declared.commit.Commit.{Commit}
use Rattle.rows.specs.ImageLaws.{ImagesReplace}
use Rattle.rows.specs.Laws.{VersionsTellKinds}
use Rattle.rows.specs.Shape.{Shape}
use Rattle.rows.specs.Tables.{Tables, Refusal, opening, shape_in}
use Rattle.rows.specs.Commits.{IsLegal, apply_commits, tables_after, shape_after_commits}
use Rattle.update_log.specs.declared.frame.Frame.{Frame}
use Rattle.intake.specs.Known.{is_known}
use Rattle.intake.specs.State.{known_of}
use Rattle.intake.specs.Steps.{lacking}
use Rattle.intake.specs.Kept.{AreKept, frames_between}
use Rattle.intake.specs.Laws.{NoneLackingIsComplete, KeptAreOf}
use Rattle.ordering.specs.Cutting.{commits_between}
use Rattle.ordering.specs.Merging.{AreMarked, IsMerge, frames_in}
use Rattle.ordering.specs.Laws.{MergeIsUnique, KeptFramesMerge}
use Rattle.queries.specs.declared.plan.Plan.{Plan}
use Rattle.queries.specs.Laws.{PlanStillFits}
use Rattle.dispatcher.specs.Feeding.{IsFetchedFrom, IsFedFrom, FitAt}
use Rattle.dispatcher.specs.Images.{frames_of_base, image_commits}
use Rattle.dispatcher.specs.State.{Replica, Batch, Fetched}
use Rattle.dispatcher.specs.Protocol.{by_image, bases_at, first_version, first_counts}
use Rattle.dispatcher.specs.Steps.{HoldNext, first_tables, to_apply, at_fetched, BatchFits, CaughtUp, CannotCatchUp}
use Rattle.dispatcher.proofs.Imaging.{base-marked, base-many, image-made}
use Rattle.dispatcher.proofs.Ready.{CanAnswer, no-piece-lacks, no-frame-lacks, can-fetched}
use Rattle.dispatcher.proofs.Standing.{all-known, all-kept, bases-first, is-by-image}
use Rattle.dispatcher.proofs.Streams.{count-grows}
use Rattle.dispatcher.proofs.Versions.{between-applied}
use Rattle.dispatcher.proofs.Widened.{AreChecked, still-checked, shape-behind}

-- what the commits make, where it is known
made-ok : (made : Result Tables Refusal) (tables : Tables) (P : Tables → Type 0) → made ≡ Ok tables → IsOkAnd made P → P tables
made-ok (Ok other) tables P e h = (let same : other ≡ tables = cc in subst P same h)
made-ok (Err refusal) tables P e h = absurd h

ok-made : (made : Result Tables Refusal) (tables : Tables) (P : Tables → Type 0) → made ≡ Ok tables → P tables → IsOkAnd made P
ok-made made tables P e h = subst (λ (made : Result Tables Refusal). IsOkAnd made P) (sym e) h

-- what the laws say of what came
pub record Merges : Type 0 where
  pub complete : NoneLackingIsComplete
  pub only : MergeIsUnique
  pub kept : KeptFramesMerge
  pub kept_of : KeptAreOf
  pub replace : ImagesReplace
  pub versions : VersionsTellKinds
  pub still_fit : PlanStillFits

-- queries that fit at a version fit at each later one
pub fit-later : Merges → (shape : Shape) (commits : List Commit) (workers from to : ℕ) (plans : List Plan) → IsLegal shape workers commits
    → from ≤ to → FitAt shape commits from plans → FitAt shape commits to plans
fit-later laws shape commits workers from to plans legal up fit =
    let end : from + (to - from) ≡ to = omega arith in
    let grown : shape_in (tables_after shape commits to)
    ≡ shape_after_commits (shape_in (tables_after shape commits from)) (commits_between commits from to) =
    laws.versions shape commits to legal.defined
    ∙ ap (λ (n : ℕ). shape_after_commits shape (take n commits)) (sym end)
    ∙ ap (shape_after_commits shape) (take-add from (to - from) commits)
    ∙ shape-behind shape (take from commits) (commits_between commits from to)
    ∙ ap (λ (kinds : Shape). shape_after_commits kinds (commits_between commits from to))
    (sym (laws.versions shape commits from legal.defined)) in
    subst (λ (kinds : Shape). AreChecked kinds plans) (sym grown)
    (still-checked laws.still_fit (shape_in (tables_after shape commits from)) (commits_between commits from to) plans fit)

module _ (laws : Merges) (shape : Shape) (commits : List Commit) (r : Replica) (batch : Batch) (fetched : Fetched)
    (fed : IsFedFrom shape commits r) (can : CanAnswer r batch fetched) where
  pub is-fetched : IsFetchedFrom shape commits r.version r.workers r.pieces.base fetched
  is-fetched = fed.fetched_is fetched (can-fetched r batch fetched can)

  many : length fetched.counts ≡ length r.arrivals
  many = is-fetched.counted ∙ sym fed.workers_are

  -- each frame from the bases to before the counts is known
  pub each-known : (worker seq : ℕ) → slice_index (bases_at r.version fetched) worker ≤ seq → seq < slice_index fetched.counts worker
      → is_known (known_of r.arrivals worker) seq ≡ true
  each-known = all-known laws.complete r.arrivals (bases_at r.version fetched) fetched.counts many (no-frame-lacks r batch fetched can)

  -- by image: no frame that is applied is behind the base
  applied-on : by_image r.version fetched ≡ true → (worker : ℕ) → slice_index r.applied worker ≤ slice_index fetched.lows worker
  applied-on image worker =
      let below = is-by-image r.version fetched image in
      omega (
        arith,
        fed.applied_are worker,
        is-fetched.lows_are worker,
        count-grows commits worker r.version fetched.base (omega (arith, below)),
      )

  -- all pieces are there, and they are those of the base
  pub pieces-are : by_image r.version fetched ≡ true
      → frames_between r.pieces.arrivals 0 0 fetched.pieces ≡ frames_of_base shape commits fetched.base
  pieces-are image =
      let base : r.pieces.base ≡ fetched.base = is-fetched.of_base image in
      let none : lacking r.pieces.arrivals [] (fetched.pieces ∷ []) ≡ None =
      subst (λ (image : Bool). cond image (lacking r.pieces.arrivals [] (fetched.pieces ∷ [])) None ≡ None) image
      (no-piece-lacks r batch fetched can) in
      let kept : AreKept r.pieces.arrivals 0 0 fetched.pieces =
      all-kept laws.complete r.pieces.arrivals [] (fetched.pieces ∷ []) (sym fed.pieces_are.one) none [] [] fed.pieces_are.kept
      (λ worker. omega arith) (λ worker. omega arith) 0 in
      let count : fetched.pieces ≡ length (frames_of_base shape commits r.pieces.base) =
      is-fetched.pieces_are ∙ sym (base-many shape commits fetched.base)
      ∙ ap (λ (base : ℕ). length (frames_of_base shape commits base)) (sym base) in
      laws.kept_of (frames_of_base shape commits r.pieces.base) r.pieces.arrivals 0 0 fetched.pieces fed.pieces_are.are kept
      ∙ take_all (fetched.pieces - 0) (frames_of_base shape commits r.pieces.base) (omega (arith, count))
      ∙ ap (frames_of_base shape commits) base

  bases-within : (lows : List ℕ) → ((worker : ℕ) → slice_index (first_counts r.version r.applied fetched) worker ≤ slice_index lows worker)
      → (worker : ℕ) → slice_index (bases_at r.version fetched) worker ≤ slice_index lows worker
  bases-within lows up worker = omega (arith, up worker, bases-first r.version r.applied fetched worker)

  -- by image the commits behind the base are held
  image-held : by_image r.version fetched ≡ true
      → IsMerge (frames_in r.arrivals fetched.lows fetched.counts) fetched.base fetched.version
      (commits_between commits fetched.base fetched.version)
  image-held image =
      let same : first_counts r.version r.applied fetched ≡ fetched.lows =
      ap (λ (image : Bool). cond image fetched.lows r.applied) image in
      laws.kept r.workers r.arrivals commits fetched.base fetched.version fetched.lows fetched.counts fed.legal.each is-fetched.base_within
      is-fetched.below fed.frames_are
      (all-kept laws.complete r.arrivals (bases_at r.version fetched) fetched.counts many (no-frame-lacks r batch fetched can) r.applied
      fetched.lows fed.others_kept (applied-on image)
      (bases-within fetched.lows (λ worker. omega (arith, ap (λ (lows : List ℕ). slice_index lows worker) same))))
      is-fetched.lows_are is-fetched.counts_are

  -- by frames those between the versions are
  frames-held : by_image r.version fetched ≡ false
      → IsMerge (frames_in r.arrivals r.applied fetched.counts) r.version fetched.version
      (commits_between commits r.version fetched.version)
  frames-held image =
      let same : first_counts r.version r.applied fetched ≡ r.applied =
      ap (λ (image : Bool). cond image fetched.lows r.applied) image in
      laws.kept r.workers r.arrivals commits r.version fetched.version r.applied fetched.counts fed.legal.each is-fetched.above
      is-fetched.below fed.frames_are
      (all-kept laws.complete r.arrivals (bases_at r.version fetched) fetched.counts many (no-frame-lacks r batch fetched can) r.applied
      r.applied fed.others_kept (λ worker. omega arith)
      (bases-within r.applied (λ worker. omega (arith, ap (λ (lows : List ℕ). slice_index lows worker) same))))
      fed.applied_are is-fetched.counts_are

  -- the commits that it lacks
  abbrev next : List Commit
  next = commits_between commits (first_version r.version fetched) fetched.version

  -- are those that came
  pub hold-next : HoldNext r fetched next
  hold-next = (let parts = by (by_image r.version fetched) refl in record { marked = parts.0; merged = parts.1 })
    where
      by : (image : Bool) → by_image r.version fetched ≡ image
          → AreMarked (cond image (frames_between r.pieces.arrivals 0 0 fetched.pieces) [])
          × IsMerge (frames_in r.arrivals (cond image fetched.lows r.applied) fetched.counts) (cond image fetched.base r.version)
          fetched.version (commits_between commits (cond image fetched.base r.version) fetched.version)
      by true e = (
        subst (λ (pieces : List Frame). AreMarked pieces) (sym (pieces-are e)) (base-marked shape commits fetched.base),
        image-held e,
      )
      by false e = (tt, frames-held e)

  -- and make the tables at the version
  next-made : apply_commits (first_tables r fetched) (to_apply r fetched next) ≡ Ok (tables_after shape commits fetched.version)
  next-made = by (by_image r.version fetched) refl
    where
      by : (image : Bool) → by_image r.version fetched ≡ image
          → apply_commits (cond image (opening r.shape) r.tables)
          (image_commits (cond image (frames_between r.pieces.arrivals 0 0 fetched.pieces) [])
          ++ commits_between commits (cond image fetched.base r.version) fetched.version)
          ≡ Ok (tables_after shape commits fetched.version)
      by true e =
          let above = is-by-image r.version fetched e in
          ap (λ (begun : Shape). apply_commits (opening begun) (image_commits (frames_between r.pieces.arrivals 0 0 fetched.pieces)
          ++ commits_between commits fetched.base fetched.version)) fed.shape_is
          ∙ ap (λ (pieces : List Frame). apply_commits (opening shape) (image_commits pieces
          ++ commits_between commits fetched.base fetched.version)) (pieces-are e)
          ∙ image-made laws.replace shape commits fetched.base fetched.version fed.spelled fed.legal.defined (omega (arith, above))
          is-fetched.base_within
      by false e =
          ap (λ (tables : Tables). apply_commits tables (commits_between commits r.version fetched.version)) (fed.tables_are can.whole)
          ∙ between-applied shape commits r.version fetched.version fed.legal.defined is-fetched.above

  -- which the batch's queries fit
  pub next-fits : BatchFits (tables_after shape commits fetched.version) r.batch
  next-fits =
      subst (BatchFits (tables_after shape commits fetched.version)) (sym can.there)
      (fit-later laws shape commits r.workers r.version fetched.version batch.plans fed.legal is-fetched.above
      (fed.batch_fit batch can.there))

  -- it catches up
  pub can-catch-up : CannotCatchUp r fetched → ⊥
  can-catch-up cannot = cannot (at_fetched r fetched (tables_after shape commits fetched.version)) (record {
    commits = next;
    held = hold-next;
    applied =
        ok-made (apply_commits (first_tables r fetched) (to_apply r fetched next)) (tables_after shape commits fetched.version)
        (λ tables. at_fetched r fetched (tables_after shape commits fetched.version) ≡ at_fetched r fetched tables) next-made refl;
    fits = next-fits;
  })

  -- with the tables at the version
  pub caught-is : (new : Replica) → CaughtUp r fetched new → new ≡ at_fetched r fetched (tables_after shape commits fetched.version)
  caught-is new caught =
      let only : caught.commits ≡ next =
      laws.only (frames_in r.arrivals (first_counts r.version r.applied fetched) fetched.counts) (first_version r.version fetched)
      fetched.version caught.commits next caught.held.merged hold-next.merged in
      made-ok (apply_commits (first_tables r fetched) (to_apply r fetched next)) (tables_after shape commits fetched.version)
      (λ tables. new ≡ at_fetched r fetched tables) next-made
      (subst (λ (held : List Commit). IsOkAnd (apply_commits (first_tables r fetched) (to_apply r fetched held))
      (λ tables. new ≡ at_fetched r fetched tables)) only caught.applied)
