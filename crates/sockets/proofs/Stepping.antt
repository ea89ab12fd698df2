-- What the steps of a replica's turn do, one after the other.
use Rattle.std.proofs.Common.{◌≡◌, ◌<◌, ◌≤◌, ◌+◌, inl, inr, ℕ, List, [], ◌∷◌, ◌++◌, Bool, true, refl, sym, ap, subst, ◌∙◌}
use Rattle.std.proofs.Common.{Some}
use Rattle.std.proofs.Common.{append_assoc, map, take, min, get_or, All}
use Rattle.std.proofs.Common.{Result, Ok, Err, Option, None, IfOk, OnErr, is_err, length, arith}
use Rattle.std.proofs.lemmas.Bool.{true≢false}
use Rattle.std.proofs.lemmas.List.{append-nil, map-append, length-take, get_or-take, get_or_default}
use Rattle.std.proofs.lemmas.Grind.{flat_map-append}
use Rattle.std.specs.List.{sum_by, Contains}
use Rattle.std.proofs.lemmas.List.Sums.{sum_by-cons}
use Rattle.journal.specs.Storing.{faults_max}
use Rattle.wire.specs.declared.out.Out.{Out}
use Rattle.queries.specs.declared.plan.Plan.{Plan}
use Rattle.rows.specs.Faults.{IsFaultOf}
use Rattle.update_log.specs.Limits.{want_frames_max}
use Rattle.dispatcher.specs.State.{Replica}
use Rattle.dispatcher.specs.Protocol.{want_for, pull_for}
use Rattle.dispatcher.specs.Gaps.{gaps_of, piece_gaps_of, image_base_of}
use Rattle.dispatcher.specs.declared.gaps.Gap.{Gap}
use Rattle.dispatcher.specs.Steps.{opened, asked, renewed, received, MayTake, MayRun}
use Rattle.dispatcher.specs.declared.outcome.Got.{Got}
use Rattle.dispatcher.specs.declared.outcome.Run.{Run}
use Rattle.dispatcher.specs.declared.faults.OpenFault.{OpenFault}
use Rattle.queue.specs.declared.moves.Moves.{Moves}
use Rattle.queue.specs.declared.moves.Queued.{Queued}
use Rattle.queue.specs.Rule.{plan_in}
use Rattle.sockets.specs.Carrying.{Sending, Carried}
use Rattle.sockets.specs.Serving.{Act, DoesAll, Serves, heard_in, sendings_in}
use Rattle.sockets.specs.State.{ReplicaState}
use Rattle.sockets.specs.Traffic.{with_more, with_heard, stored_as, ignored_as}
use Rattle.sockets.specs.declared.traffic.Traffic.{Traffic}
use Rattle.sockets.specs.Replicas.{Call, Offers, Asks, Hears, Runs, Wants, Pulls, Renews, after_offer, Makes, hears, says, reported}
use Rattle.sockets.specs.Replicas.{reports, reports_in}
use Rattle.sockets.specs.Replicas.{offers, offers_in, stored, ignored, counted_as, traffic_after, expected_of, expected_by}
use Rattle.sockets.specs.Replicas.{expected_after, runs}
use Rattle.sockets.specs.Replicas.{handed, failures, Takes, DoesReplica, OffersOf, ServesReplica}
use Rattle.sockets.specs.Inner.Sending.{SendsAll}
use Rattle.sockets.specs.Inner.Steps.{Opens, OpensOf, OffersTaken, offer_acts}
use Rattle.sockets.specs.declared.faults.ServeFault.{ServeFault}
use Rattle.sockets.specs.declared.faults.ServeFault.TheVariants.{Memory}
use Rattle.sockets.proofs.Carried.{carried_nothing, counted-one}
use Rattle.sockets.proofs.Counting.{with_more-same, with_more-then, heard-append, sendings-append, sums-append}
use Rattle.sockets.proofs.Served.{does_all_then, serves_nothing, serves_then}

pub reports-append : (xs ys : List (Act Call)) → reports_in (xs ++ ys) ≡ reports_in xs ++ reports_in ys
reports-append xs ys = flat_map-append (λ (act : Act Call). reports act.call) xs ys

pub offers-append : (xs ys : List (Act Call)) → offers_in (xs ++ ys) ≡ offers_in xs ++ offers_in ys
offers-append xs ys = flat_map-append (λ (act : Act Call). offers act.call) xs ys

-- two lists joined, each being another
pub joined_are : {A : Type 0} (xs ys vs ws : List A) → xs ≡ vs → ys ≡ ws → xs ++ ys ≡ vs ++ ws
joined_are xs ys vs ws one two = ap (λ l. l ++ ys) one ∙ ap (λ l. vs ++ l) two

-- a list without elements
pub none_left : {A : Type 0} (xs : List A) → length xs ≡ 0 → xs ≡ []
none_left [] none = refl
none_left (x ∷ xs) none = absurd (omega (arith, none))

-- one element more is behind, and one less left
pub left_behind : {A : Type 0} (done : List A) (x : A) (left rest all : List A) → rest ≡ x ∷ left → done ++ rest ≡ all
    → (done ++ x ∷ []) ++ left ≡ all
left_behind done x left rest all is whole = append_assoc done (x ∷ []) left ∙ ap (λ l. done ++ l) (sym is) ∙ whole

-- what is taken of a list is in it
pub taken-named : {A : Type 0} (n : ℕ) (xs ys : List A) → ys ≡ take n xs → All (Contains xs) ys
taken-named n xs ys is k d lt =
    let front : k < length (take n xs) = omega (arith, lt, ap length is) in
    let few : k < min n (length xs) = omega (arith, front, length-take n xs) in (
      k,
      omega (arith, few),
      ap (λ zs. get_or xs k (get_or zs k d)) is
          ∙ (get_or_default xs k (get_or (take n xs) k d) d (omega (arith, few))
          ∙ (sym (get_or-take n xs k d (omega (arith, few))) ∙ ap (λ zs. get_or zs k d) (sym is))),
    )

-- ---- what acts count for

abbrev stored_in : List (Act Call) → ℕ
stored_in acts = sum_by (λ (act : Act Call). stored act.call) acts

abbrev ignored_in : List (Act Call) → ℕ
ignored_in acts = sum_by (λ (act : Act Call). ignored act.call) acts

pub traffic-then : (t : Traffic) (xs ys : List (Act Call)) → traffic_after (traffic_after t xs) ys ≡ traffic_after t (xs ++ ys)
traffic-then t xs ys =
    with_more-then t (length (heard_in hears xs)) (stored_in xs) (ignored_in xs) (length (heard_in hears ys)) (stored_in ys) (ignored_in ys)
    (sendings_in xs) (sendings_in ys)
    ∙ with_more-same t (length (heard_in hears xs) + length (heard_in hears ys)) (stored_in xs + stored_in ys)
    (ignored_in xs + ignored_in ys) (length (heard_in hears (xs ++ ys))) (stored_in (xs ++ ys)) (ignored_in (xs ++ ys))
    (sendings_in xs ++ sendings_in ys) (sendings_in (xs ++ ys)) (heard-append hears xs ys) (sums-append stored xs ys)
    (sums-append ignored xs ys) (sendings-append xs ys)

pub expected-then : (expected : Option ℕ) (xs ys : List (Act Call))
    → expected_after (expected_after expected xs) ys ≡ expected_after expected (xs ++ ys)
expected-then expected [] ys = refl
expected-then expected (act ∷ acts) ys = expected-then (expected_by expected act.call) acts ys

-- ---- queries that are offered

abbrev offer_act : Plan → Act Call
offer_act plan = record { call = Offers plan; sendings = [] }

pub offer_acts-append : (xs ys : List Plan) → offer_acts (xs ++ ys) ≡ offer_acts xs ++ offer_acts ys
offer_acts-append [] ys = refl
offer_acts-append (plan ∷ plans) ys =
    ap (λ (acts : List (Act Call)). record { call = Offers plan; sendings = [] } ∷ acts) (offer_acts-append plans ys)

offers-none-heard : (plans : List Plan) → heard_in hears (offer_acts plans) ≡ []
offers-none-heard [] = refl
offers-none-heard (plan ∷ plans) = offers-none-heard plans

offers-none-sent : (plans : List Plan) → sendings_in (offer_acts plans) ≡ []
offers-none-sent [] = refl
offers-none-sent (plan ∷ plans) = offers-none-sent plans

offers-none-given : (plans : List Plan) → reports_in (offer_acts plans) ≡ []
offers-none-given [] = refl
offers-none-given (plan ∷ plans) = offers-none-given plans

offers-all : (plans : List Plan) → offers_in (offer_acts plans) ≡ plans
offers-all [] = refl
offers-all (plan ∷ plans) = ap (λ (l : List Plan). plan ∷ l) (offers-all plans)

offers-none-stored : (plans : List Plan) → sum_by (λ (act : Act Call). stored act.call) (offer_acts plans) ≡ 0
offers-none-stored [] = refl
offers-none-stored (plan ∷ plans) =
    omega (arith, sum_by-cons (λ (act : Act Call). stored act.call) (offer_act plan) (offer_acts plans), offers-none-stored plans)

offers-none-ignored : (plans : List Plan) → sum_by (λ (act : Act Call). ignored act.call) (offer_acts plans) ≡ 0
offers-none-ignored [] = refl
offers-none-ignored (plan ∷ plans) =
    omega (arith, sum_by-cons (λ (act : Act Call). ignored act.call) (offer_act plan) (offer_acts plans), offers-none-ignored plans)

offers-same-expected : (expected : Option ℕ) (plans : List Plan) → expected_after expected (offer_acts plans) ≡ expected
offers-same-expected expected [] = refl
offers-same-expected expected (plan ∷ plans) = offers-same-expected expected plans

pub opens_nothing : (r s : Replica) → s ≡ r → Opens r s []
opens_nothing r s same = record { done = same }

pub opens_then : (r s t : Replica) (xs ys : List Plan) → Opens r s xs → Opens s t ys → Opens r t (xs ++ ys)
opens_then r s t xs ys x y = record {
  done =
      subst (λ (acts : List (Act Call)). DoesAll Makes says r acts t) (sym (offer_acts-append xs ys))
      (does_all_then Makes says (offer_acts xs) (offer_acts ys) r s t x.done y.done);
}

pub opens_as : (r s t : Replica) (xs : List Plan) → t ≡ s → Opens r s xs → Opens r t xs
opens_as r s t xs same x = subst (λ (u : Replica). Opens r u xs) (sym same) x

-- a query that was opened, or that did not fit
pub offer_opens : (r s : Replica) (plan : Plan) → s ≡ after_offer r (opened r plan) → Opens r s (plan ∷ [])
offer_opens r s plan is = record { done = (s, is, refl, refl) }

pub opened_is_offer : (r s : Replica) (plan : Plan) (count : ℕ) → opened r plan ≡ Ok (count, s) → s ≡ after_offer r (opened r plan)
opened_is_offer r s plan count is = sym (ap (after_offer r) is)

-- a fault that is not being out of memory is the answer's own
pub own_fault : {A F : Type 0} (answer : Result A F) (memory fault : F) → (fault ≡ memory → ⊥) → IsFaultOf answer memory fault
    → answer ≡ Err fault
own_fault answer memory fault other (inl lacks) = absurd (other lacks.0)
own_fault answer memory fault other (inr is) = is

pub dropped_is_offer : (r s : Replica) (plan : Plan) (fault : OpenFault) → s ≡ r → opened r plan ≡ Err fault
    → s ≡ after_offer r (opened r plan)
dropped_is_offer r s plan fault same is = same ∙ sym (ap (after_offer r) is)

-- what holds anyway
pub if_ok : {A F : Type 0} (result : Result A F) {Q : Type 0} → Q → IfOk result (λ _. Q)
if_ok (Ok done) q = q
if_ok (Err fault) q = tt

-- nothing was taken from the queue
pub taken_nothing : {A : Type 0} (moves : Moves) (result : Result A ServeFault) → Takes moves moves [] result
taken_nothing moves result = record {
  added = [];
  more = sym (append-nil moves.taken);
  same = refl;
  in_order = ([], refl);
  all = if_ok result refl;
}

-- a batch that was refused
pub refused_nothing : {A F : Type 0} (B Q : Type 0) (old new : Moves) (result : Result A F) (is_err_too : Bool)
    → OnErr result ((new ≡ old) × Q) → is_err_too ≡ is_err result → is_err_too ≡ true
    → Takes {A = B} old new [] (Err Memory)
refused_nothing B Q old new (Ok done) is_err_too refused is yes_err = absurd (true≢false (sym yes_err ∙ is))
refused_nothing B Q old new (Err fault) is_err_too refused is yes_err = record {
  added = [];
  more = ap (λ (m : Moves). m.taken) refused.0 ∙ sym (append-nil old.taken);
  same = ap (λ (m : Moves). m.put) refused.0;
  in_order = ([], refl);
  all = tt;
}

-- what was taken, and all of it offered, whatever the call answers at last
pub taken_as : {A B : Type 0} (old new : Moves) (offered : List Plan) (done : A) (result : Result B ServeFault)
    → Takes old new offered (Ok done) → Takes old new offered result
taken_as old new offered done result x = record {
  added = x.added;
  more = x.more;
  same = x.same;
  in_order = ([], append-nil offered ∙ x.all);
  all = if_ok result x.all;
}

-- what was taken before the call failed
pub taken_failed : {A B : Type 0} (old new : Moves) (offered : List Plan) (fault : ServeFault)
    → Takes {A = A} old new offered (Err fault) → Takes {A = B} old new offered (Err fault)
taken_failed old new offered fault x = record { added = x.added; more = x.more; same = x.same; in_order = x.in_order; all = tt }

-- ---- what a node does

module _ {P : Type 0} (honest : Bool) (came : P → List (List ℕ)) (sent : P → List Out) (faults : P → ℕ) where
  pub does_nothing : (a b : ReplicaState P) → b ≡ a → DoesReplica honest came sent faults a b 0 [] [] 0
  does_nothing a b same =
      subst (λ (c : ReplicaState P). DoesReplica honest came sent faults a c 0 [] [] 0) (sym same) (record {
        acts = [];
        serves = serves_nothing Makes says hears honest came sent faults a.port a.core a.core refl;
        gives = refl;
        queries = refl;
        counts = refl;
        expects = refl;
        has_run = omega arith;
      })

  pub does_then : (a b c : ReplicaState P) (failed : ℕ) (given more : List (List ℕ)) (xs ys : List Plan) (m n : ℕ)
      → DoesReplica honest came sent faults a b 0 given xs m → DoesReplica honest came sent faults b c failed more ys n
      → DoesReplica honest came sent faults a c failed (given ++ more) (xs ++ ys) (m + n)
  does_then a b c failed given more xs ys m n x y = record {
    acts = x.acts ++ y.acts;
    serves =
        serves_then Makes says hears honest came sent faults a.port b.port c.port a.core b.core c.core x.acts y.acts failed x.serves
        y.serves;
    gives = reports-append x.acts y.acts ∙ joined_are _ _ given more x.gives y.gives;
    queries = offers-append x.acts y.acts ∙ joined_are _ _ xs ys x.queries y.queries;
    counts =
        y.counts ∙ ap (λ (t : Traffic). traffic_after t y.acts) x.counts ∙ traffic-then a.traffic x.acts y.acts;
    expects =
        y.expects ∙ ap (λ (e : Option ℕ). expected_after e y.acts) x.expects ∙ expected-then a.expected x.acts y.acts;
    has_run = omega (arith, x.has_run, y.has_run, sums-append runs x.acts y.acts);
  }

  -- the same, of which less is said
  pub does_as : (a b : ReplicaState P) (failed other_failed : ℕ) (given other : List (List ℕ)) (xs ys : List Plan) (m n : ℕ)
      → failed ≡ other_failed → given ≡ other → xs ≡ ys → n ≤ m → DoesReplica honest came sent faults a b failed given xs m
      → DoesReplica honest came sent faults a b other_failed other ys n
  does_as a b failed other_failed given other xs ys m n e f q less x = record {
    acts = x.acts;
    serves = subst (λ (k : ℕ). Serves' k x.acts) e x.serves;
    gives = x.gives ∙ f;
    queries = x.queries ∙ q;
    counts = x.counts;
    expects = x.expects;
    has_run = omega (arith, x.has_run, less);
  }
    where
      Serves' : ℕ → List (Act Call) → Type 0
      Serves' k acts = Serves Makes hears says honest came sent faults a.port b.port a.core b.core acts k

  -- a step in which the batch was not run, and then more
  pub does_on : (a b c : ReplicaState P) (failed : ℕ) (given more : List (List ℕ)) (xs ys : List Plan) (n : ℕ)
      → DoesReplica honest came sent faults a b 0 given xs 0 → DoesReplica honest came sent faults b c failed more ys n
      → DoesReplica honest came sent faults a c failed (given ++ more) (xs ++ ys) n
  does_on a b c failed given more xs ys n x y =
      does_as a c failed failed (given ++ more) (given ++ more) (xs ++ ys) (xs ++ ys) (0 + n) n refl refl refl (omega arith)
      (does_then a b c failed given more xs ys 0 n x y)

  -- turns, and then as many as are said
  pub does_up_to : (a b c : ReplicaState P) (failed : ℕ) (given more : List (List ℕ)) (xs ys : List Plan) (m n all : ℕ) → all ≤ m + n
      → DoesReplica honest came sent faults a b 0 given xs m → DoesReplica honest came sent faults b c failed more ys n
      → DoesReplica honest came sent faults a c failed (given ++ more) (xs ++ ys) all
  does_up_to a b c failed given more xs ys m n all less x y =
      does_as a c failed failed (given ++ more) (given ++ more) (xs ++ ys) (xs ++ ys) (m + n) all refl refl refl less
      (does_then a b c failed given more xs ys m n x y)

  -- what was sent, and no more received
  sent_alone : (a b : ReplicaState P) (outs : List Out) (x : SendsAll honest came sent faults a.port b.port a.traffic b.traffic outs)
      → Carried honest came sent faults a.port b.port [] (x.sendings ++ []) 0
  sent_alone a b outs x =
      subst (λ (l : List Sending). Carried honest came sent faults a.port b.port [] l 0) (sym (append-nil x.sendings)) x.carried

  sent_counts : (a b : ReplicaState P) (outs : List Out) (x : SendsAll honest came sent faults a.port b.port a.traffic b.traffic outs)
      → b.traffic ≡ with_more a.traffic 0 0 0 (x.sendings ++ [])
  sent_counts a b outs x = x.counts ∙ ap (λ (l : List Sending). with_more a.traffic 0 0 0 l) (sym (append-nil x.sendings))

  -- the Ask is sent
  pub does_ask : (a b : ReplicaState P) (out : Out) → asked a.core ≡ Ok (out, b.core)
      → SendsAll honest came sent faults a.port b.port a.traffic b.traffic (out ∷ []) → b.expected ≡ a.expected
      → DoesReplica honest came sent faults a b 0 [] [] 0
  does_ask a b out is x same = record {
    acts = record { call = Asks out; sendings = x.sendings } ∷ [];
    serves = record { done = (b.core, is, x.all, refl); carried = sent_alone a b (out ∷ []) x };
    gives = refl;
    queries = refl;
    counts = sent_counts a b (out ∷ []) x;
    expects = same;
    has_run = omega arith;
  }

  -- the Want of a gap is sent
  pub does_want : (a b : ReplicaState P) (gap : Gap) (out : Out) → b.core ≡ a.core → Contains (gaps_of want_frames_max a.core) gap
      → out ≡ want_for a.core.number gap.worker gap.seq
      → SendsAll honest came sent faults a.port b.port a.traffic b.traffic (out ∷ []) → b.expected ≡ a.expected
      → DoesReplica honest came sent faults a b 0 [] [] 0
  does_want a b gap out kept named is x same = record {
    acts = record { call = Wants gap out; sendings = x.sendings } ∷ [];
    serves = record { done = (b.core, (kept, named, is), x.all, refl); carried = sent_alone a b (out ∷ []) x };
    gives = refl;
    queries = refl;
    counts = sent_counts a b (out ∷ []) x;
    expects = same;
    has_run = omega arith;
  }

  -- the Pull of a gap in the pieces is sent
  pub does_pull : (a b : ReplicaState P) (base : ℕ) (gap : Gap) (out : Out) → b.core ≡ a.core → image_base_of a.core ≡ Some base
      → Contains (piece_gaps_of want_frames_max a.core) gap → out ≡ pull_for a.core.number base gap.seq
      → SendsAll honest came sent faults a.port b.port a.traffic b.traffic (out ∷ []) → b.expected ≡ a.expected
      → DoesReplica honest came sent faults a b 0 [] [] 0
  does_pull a b base gap out kept image named is x same = record {
    acts = record { call = Pulls base gap out; sendings = x.sendings } ∷ [];
    serves = record { done = (b.core, (kept, image, named, is), x.all, refl); carried = sent_alone a b (out ∷ []) x };
    gives = refl;
    queries = refl;
    counts = sent_counts a b (out ∷ []) x;
    expects = same;
    has_run = omega arith;
  }

  -- the Ask of the next request is sent
  pub does_renew : (a b : ReplicaState P) (out : Out) → renewed a.core ≡ Ok (out, b.core)
      → SendsAll honest came sent faults a.port b.port a.traffic b.traffic (out ∷ []) → b.expected ≡ a.expected
      → DoesReplica honest came sent faults a b 0 [] [] 0
  does_renew a b out is x same = record {
    acts = record { call = Renews out; sendings = x.sendings } ∷ [];
    serves = record { done = (b.core, is, x.all, refl); carried = sent_alone a b (out ∷ []) x };
    gives = refl;
    queries = refl;
    counts = sent_counts a b (out ∷ []) x;
    expects = same;
    has_run = omega arith;
  }

  -- a run
  pub does_run : (a b : ReplicaState P) (run : Run) (given : List (List ℕ)) → MayRun a.core run b.core → reported run ≡ given
      → b ≡ record a { core = b.core } → DoesReplica honest came sent faults a b 0 given [] 1
  does_run a b run given is gives same = record {
    acts = record { call = Runs run; sendings = [] } ∷ [];
    serves = record {
      done = (b.core, is, refl, refl);
      carried =
          subst (λ (p : P). Carried honest came sent faults a.port p [] [] 0) (sym (ap (λ (n : ReplicaState P). n.port) same))
          (carried_nothing honest came sent faults a.port);
    };
    gives = append-nil (reported run) ∙ gives;
    queries = refl;
    counts = ap (λ (n : ReplicaState P). n.traffic) same;
    expects = ap (λ (n : ReplicaState P). n.expected) same;
    has_run = omega arith;
  }

  -- a receive to which nothing came
  pub does_wait : (a b : ReplicaState P) → (honest ≡ true → came b.port ≡ came a.port ++ [])
      → (honest ≡ true → sent b.port ≡ sent a.port) → faults b.port ≡ faults a.port → b ≡ record a { port = b.port }
      → DoesReplica honest came sent faults a b 0 [] [] 0
  does_wait a b same sends counts is = record {
    acts = [];
    serves = record {
      done = ap (λ (n : ReplicaState P). n.core) is;
      carried = record { takes = same; sends = λ h. sends h ∙ sym (append-nil (sent a.port)); counts = counts };
    };
    gives = refl;
    queries = refl;
    counts = ap (λ (n : ReplicaState P). n.traffic) is;
    expects = ap (λ (n : ReplicaState P). n.expected) is;
    has_run = omega arith;
  }

  -- a receive that failed
  pub does_fail : (a b : ReplicaState P) → faults a.port < faults_max → (honest ≡ true → came b.port ≡ came a.port)
      → (honest ≡ true → sent b.port ≡ sent a.port) → faults b.port ≡ faults a.port + 1 → b ≡ record a { port = b.port }
      → DoesReplica honest came sent faults a b 1 [] [] 0
  does_fail a b below same sends counts is = record {
    acts = [];
    serves = record {
      done = ap (λ (n : ReplicaState P). n.core) is;
      carried = record {
        takes = λ h. same h ∙ sym (append-nil (came a.port));
        sends = λ h. sends h ∙ sym (append-nil (sent a.port));
        counts = counts ∙ sym (counted-one (faults a.port) below);
      };
    };
    gives = refl;
    queries = refl;
    counts = ap (λ (n : ReplicaState P). n.traffic) is;
    expects = ap (λ (n : ReplicaState P). n.expected) is;
    has_run = omega arith;
  }

  -- a datagram that was heard
  pub does_hear : (a b : ReplicaState P) (bytes : List ℕ) (got : Got) → MayTake a.core (received a.core bytes) got b.core
      → (honest ≡ true → came b.port ≡ came a.port ++ bytes ∷ []) → (honest ≡ true → sent b.port ≡ sent a.port)
      → faults b.port ≡ faults a.port → b.traffic ≡ with_heard a.traffic (counted_as got)
      → b.expected ≡ expected_of a.expected bytes got → DoesReplica honest came sent faults a b 0 [] [] 0
  does_hear a b bytes got takes comes sends counts traffic expected = record {
    acts = record { call = Hears bytes got; sendings = [] } ∷ [];
    serves = record {
      done = (b.core, takes, refl, refl);
      carried = record { takes = comes; sends = λ h. sends h ∙ sym (append-nil (sent a.port)); counts = counts };
    };
    gives = refl;
    queries = refl;
    counts =
        let one : stored_as (counted_as got) ≡ 0 + stored_as (counted_as got) = omega arith in
        let other : ignored_as (counted_as got) ≡ 0 + ignored_as (counted_as got) = omega arith in
        traffic
        ∙ with_more-same a.traffic 1 (stored_as (counted_as got)) (ignored_as (counted_as got)) 1 (0 + stored_as (counted_as got))
        (0 + ignored_as (counted_as got)) [] [] refl one other refl;
    expects = expected;
    has_run = omega arith;
  }

  -- queries that were offered
  pub does_offer : (a b : ReplicaState P) (plans : List Plan) → Opens a.core b.core plans → b ≡ record a { core = b.core }
      → DoesReplica honest came sent faults a b 0 [] plans 0
  does_offer a b plans x is =
      subst (λ (c : ReplicaState P). DoesReplica honest came sent faults a c 0 [] plans 0) (sym is) (record {
        acts = offer_acts plans;
        serves = record {
          done = x.done;
          carried =
              subst (λ (l : List (List ℕ)). Carried honest came sent faults a.port a.port l (sendings_in (offer_acts plans)) 0)
              (sym (offers-none-heard plans))
              (subst (λ (l : List Sending). Carried honest came sent faults a.port a.port [] l 0) (sym (offers-none-sent plans))
              (carried_nothing honest came sent faults a.port));
        };
        gives = offers-none-given plans;
        queries = offers-all plans;
        counts =
            with_more-same a.traffic 0 0 0 (length (heard_in hears (offer_acts plans))) (stored_in (offer_acts plans))
            (ignored_in (offer_acts plans)) [] (sendings_in (offer_acts plans)) (sym (ap length (offers-none-heard plans)))
            (sym (offers-none-stored plans))
            (sym (offers-none-ignored plans)) (sym (offers-none-sent plans));
        expects = sym (offers-same-expected a.expected plans);
        has_run = omega arith;
      })

  pub offers_of : (a b : ReplicaState P) (plans : List Plan) (result : Result (Unit {0}) ServeFault)
      → OpensOf a.core b.core plans result → b ≡ record a { core = b.core } → OffersOf honest came sent faults a b plans result
  offers_of a b plans result x is = record {
    offered = x.offered;
    does = does_offer a b x.offered x.opens is;
    in_order = x.in_order;
    all = x.all;
    alone = is;
    no_failure = x.no_failure;
  }

  -- ---- turns with a queue

  pub serves_none : (a : ReplicaState P) (m : Moves) → ServesReplica honest came sent faults a a m m 0 (Ok None)
  serves_none a m = record { offered = []; does = does_nothing a a refl; takes = taken_nothing m (Ok None) }

  pub serves_as : (a b : ReplicaState P) (m n : Moves) (turned other : ℕ) {result : Result (Option (List ℕ)) ServeFault} → turned ≡ other
      → ServesReplica honest came sent faults a b m n turned result → ServesReplica honest came sent faults a b m n other result
  serves_as a b m n turned other {result} same x =
      subst (λ (k : ℕ). ServesReplica honest came sent faults a b m n k result) same x

  -- nothing was offered
  pub turn_goes : (a b : ReplicaState P) (m : Moves) (turned : ℕ) (result : Result (Option (List ℕ)) ServeFault)
      → DoesReplica honest came sent faults a b (failures result) (handed result) [] turned
      → ServesReplica honest came sent faults a b m m turned result
  turn_goes a b m turned result x = record { offered = []; does = x; takes = taken_nothing m result }

  -- queries were offered, and then comes the turn
  pub turn_serves : (a b c : ReplicaState P) (m n : Moves) (turned : ℕ) (result : Result (Option (List ℕ)) ServeFault)
      → OffersTaken honest came sent faults a b m n (Ok tt)
      → DoesReplica honest came sent faults b c (failures result) (handed result) [] turned
      → ServesReplica honest came sent faults a c m n turned result
  turn_serves a b c m n turned result o y = record {
    offered = o.offered;
    does =
        does_as a c (failures result) (failures result) (handed result) (handed result) (o.offered ++ []) o.offered (0 + turned) turned
        refl refl (append-nil o.offered) (omega arith)
        (does_then a b c (failures result) [] (handed result) o.offered [] 0 turned o.does y);
    takes = taken_as m n o.offered tt result o.takes;
  }

  -- the queries could not be taken or opened
  pub turn_fails : (a b : ReplicaState P) (m n : Moves) (fault : ServeFault) → OffersTaken honest came sent faults a b m n (Err fault)
      → ServesReplica honest came sent faults a b m n 0 (Err fault)
  turn_fails a b m n fault o = record {
    offered = o.offered;
    does =
        does_as a b 0 (failures {A = Option (List ℕ)} (Err fault)) [] [] o.offered o.offered 0 0 (sym o.no_failure) refl refl
        (omega arith) o.does;
    takes = taken_failed m n o.offered fault o.takes;
  }

  -- turns without a report, and then a turn
  pub turns_then : (a b c : ReplicaState P) (l m n : Moves) (turned more all : ℕ) (result : Result (Option (List ℕ)) ServeFault)
      → all ≤ turned + more → ServesReplica honest came sent faults a b l m turned (Ok None)
      → ServesReplica honest came sent faults b c m n more result → ServesReplica honest came sent faults a c l n all result
  turns_then a b c l m n turned more all result less x y =
      let joined = map-append plan_in x.takes.added y.takes.added in
      let offered : x.offered ++ y.offered ≡ map plan_in x.takes.added ++ y.offered =
      ap (λ (plans : List Plan). plans ++ y.offered) x.takes.all in
      record {
        offered = x.offered ++ y.offered;
        does =
            does_as a c (failures result) (failures result) (handed result) (handed result) (x.offered ++ y.offered)
            (x.offered ++ y.offered) (turned + more) all refl refl refl less
            (does_then a b c (failures result) [] (handed result) x.offered y.offered turned more x.does y.does);
        takes = record {
          added = x.takes.added ++ y.takes.added;
          more =
              y.takes.more ∙ ap (λ (q : List Queued). q ++ y.takes.added) x.takes.more ∙ append_assoc l.taken x.takes.added y.takes.added;
          same = y.takes.same ∙ x.takes.same;
          in_order = (
            y.takes.in_order.0,
            ap (λ (plans : List Plan). plans ++ y.takes.in_order.0) offered
                ∙ append_assoc (map plan_in x.takes.added) y.offered y.takes.in_order.0
                ∙ ap (λ (plans : List Plan). map plan_in x.takes.added ++ plans) y.takes.in_order.1 ∙ sym joined,
          );
          all = all_offered result y.takes.all offered joined;
        };
      }
    where
      all_offered : (result : Result (Option (List ℕ)) ServeFault) → IfOk result (λ _. y.offered ≡ map plan_in y.takes.added)
          → x.offered ++ y.offered ≡ map plan_in x.takes.added ++ y.offered
          → map plan_in (x.takes.added ++ y.takes.added) ≡ map plan_in x.takes.added ++ map plan_in y.takes.added
          → IfOk result (λ _. x.offered ++ y.offered ≡ map plan_in (x.takes.added ++ y.takes.added))
      all_offered (Ok report) all offered joined =
          offered ∙ ap (λ (plans : List Plan). map plan_in x.takes.added ++ plans) all ∙ sym joined
      all_offered (Err fault) all offered joined = tt
