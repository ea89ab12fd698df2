-- What the steps of a primary's turn do, one after the other.
use Rattle.std.proofs.Common.{◌≡◌, ◌==◌, ◌<◌, ◌≤◌, ◌+◌, ◌-◌, ◌*◌, ℕ, zero, suc, List, [], ◌∷◌, ◌++◌}
use Rattle.std.proofs.Common.{length, Bool, true, false, cond, ◌&&◌, is_err, refl, sym, ap, subst, ◌∙◌, map}
use Rattle.std.proofs.Common.{Result, Ok, Err, Some, None, IfOk, OnOk, OnErr, arith, slice_index, slice_set, nat_lt, ◌⊎◌, inl, inr, ◌≢◌}
use Rattle.std.proofs.lemmas.List.{append-nil, map-append, get_or-set_same, get_or-set_other, length-set}
use Rattle.std.proofs.lemmas.Grind.{flat_map-append}
use Rattle.std.proofs.lemmas.Bool.{eq-eqb, ne_eqb, eqb-true, eqb-false, ltb-true, ltb-false}
use Rattle.std.proofs.lemmas.Bool.Decides.{nat_tests}
use Rattle.std.specs.List.{range_with_len, sum_by, slice_get}
use Rattle.std.specs.Result.{result_unwrap_or}
use Rattle.std.proofs.lemmas.List.Sums.{sum_by-cons}
use mathlib.Core.List.{IsPrefix}
use Rattle.journal.specs.Storing.{CountsFault, faults_max}
use Rattle.rows.specs.declared.commit.Commit.{Commit}
use Rattle.rows.specs.declared.kind.Kind.{Kind}
use Rattle.rows.specs.Shape.{shape_of}
use Rattle.update_log.specs.Streams.{frame_count}
use Rattle.desk.specs.Answers.{packet_at, kept_from, row_of, IsBaseOf}
use Rattle.desk.specs.State.{SeatState}
use Rattle.wire.specs.declared.out.Out.{Out}
use Rattle.sockets.specs.Carrying.{Sending, Lost, out_of, Carried}
use Rattle.sockets.specs.Serving.{Act, DoesAll, heard_in, sendings_in}
use Rattle.sockets.specs.State.{PrimaryState}
use Rattle.sockets.specs.Traffic.{with_more, with_heard, with_sent, stored_as, ignored_as}
use Rattle.sockets.specs.Asking.{noted}
use Rattle.sockets.specs.declared.traffic.Traffic.{Traffic}
use Rattle.sockets.specs.declared.asked.Asked.{Asked}
use Rattle.sockets.specs.Primaries.{Call, Looks, Lacks, Skips, Pushes, Answers, Loses, Tells, Makes, hears, says, seqs_of, seqs_in, GoesOn}
use Rattle.sockets.specs.Primaries.{looks_of, counted_as, ignored, traffic_after, asked_by, asked_after, DoesPrimary}
use Rattle.sockets.specs.Inner.Sending.{SendsAll, to_replicas}
use Rattle.sockets.specs.Inner.Deeds.{looked_if, looked_by, looked_before}
use Rattle.sockets.proofs.Beginnings.{prefix_self}
use Rattle.sockets.proofs.Carried.{carried_nothing, carried_then, carried_one, carried_lost, sending_of, counted-one}
use Rattle.sockets.proofs.Counting.{with_more-same, with_more-then, heard-append, sendings-append, sums-append}
use Rattle.sockets.proofs.Served.{serves_nothing, serves_then}
use Rattle.sockets.proofs.Stepping.{joined_are}

pub pushes-append : (worker : ℕ) (xs ys : List (Act Call)) → seqs_in worker (xs ++ ys) ≡ seqs_in worker xs ++ seqs_in worker ys
pushes-append worker xs ys = flat_map-append (λ (act : Act Call). seqs_of worker act.call) xs ys

-- that one worker's pushes go on
abbrev GoesOnOf : List ℕ → List ℕ → List (Act Call) → ℕ → Type 0
GoesOnOf old new acts worker =
    (count : ℕ) × (slice_index new worker ≡ slice_index old worker + count)
    × (seqs_in worker acts ≡ range_with_len (slice_index old worker) count)

-- numbers are equal or not
same_or_other : (m n : ℕ) → (m ≡ n) ⊎ (m ≢ n)
same_or_other m n = by (m == n) refl
  where
    by : (test : Bool) → (m == n) ≡ test → (m ≡ n) ⊎ (m ≢ n)
    by true is = inl (eqb-true m n is)
    by false is = inr (eqb-false m n is)

-- a range that goes on
pub range-append : (from count more : ℕ)
    → range_with_len from (count + more) ≡ range_with_len from count ++ range_with_len (from + count) more
range-append from zero more =
    let none : zero + more ≡ more = omega arith in
    let same : from ≡ from + zero = omega arith in
    ap (range_with_len from) none ∙ ap (λ (n : ℕ). range_with_len n more) same
range-append from (suc count) more =
    let next : suc count + more ≡ suc (count + more) = omega arith in
    let there : (from + 1) + count ≡ from + suc count = omega arith in
    ap (range_with_len from) next
    ∙ ap (λ (l : List ℕ). from ∷ l)
    (range-append (from + 1) count more ∙ ap (λ (n : ℕ). range_with_len (from + 1) count ++ range_with_len n more) there)

-- a seat of which the list alone has changed, twice
pub seat_then : (a b c : SeatState) → b ≡ record a { list = b.list } → c ≡ record b { list = c.list } → c ≡ record a { list = c.list }
seat_then a b c one two = two ∙ ap (λ (s : SeatState). record s { list = c.list }) one

pub goes_on_then : (old mid new : List ℕ) (xs ys : List (Act Call)) → length mid ≡ length old → GoesOn old mid xs → GoesOn mid new ys
    → GoesOn old new (xs ++ ys)
goes_on_then old mid new xs ys same x y worker within =
    let first = x worker within in
    let second = y worker (omega (arith, same, within)) in (
      first.0 + second.0,
      omega (arith, first.1, second.1),
      pushes-append worker xs ys
          ∙ ap (λ (l : List ℕ). l ++ seqs_in worker ys) first.2
          ∙ ap (λ (l : List ℕ). range_with_len (slice_index old worker) first.0 ++ l)
          (second.2 ∙ ap (λ (n : ℕ). range_with_len n second.0) first.1)
          ∙ sym (range-append (slice_index old worker) first.0 second.0),
    )

-- acts without pushes, after which the counters are the same
pub goes_on_same : (old new : List ℕ) (acts : List (Act Call)) → new ≡ old → ((worker : ℕ) → seqs_in worker acts ≡ [])
    → GoesOn old new acts
goes_on_same old new acts same none worker within =
    let stays : slice_index old worker ≡ slice_index old worker + 0 = omega arith in
    (0, ap (λ (l : List ℕ). slice_index l worker) same ∙ stays, none worker)

-- ---- what acts count for

abbrev ignored_in : List (Act Call) → ℕ
ignored_in acts = sum_by (λ (act : Act Call). ignored act.call) acts

abbrev looks_in : ℕ → List (Act Call) → ℕ
looks_in worker acts = sum_by (λ (act : Act Call). looks_of worker act.call) acts

pub traffic-then : (t : Traffic) (xs ys : List (Act Call)) → traffic_after (traffic_after t xs) ys ≡ traffic_after t (xs ++ ys)
traffic-then t xs ys =
    with_more-then t (length (heard_in hears xs)) 0 (ignored_in xs) (length (heard_in hears ys)) 0 (ignored_in ys) (sendings_in xs)
    (sendings_in ys)
    ∙ with_more-same t (length (heard_in hears xs) + length (heard_in hears ys)) 0 (ignored_in xs + ignored_in ys)
    (length (heard_in hears (xs ++ ys))) 0 (ignored_in (xs ++ ys)) (sendings_in xs ++ sendings_in ys) (sendings_in (xs ++ ys))
    (heard-append hears xs ys) refl (sums-append ignored xs ys) (sendings-append xs ys)

pub asked-then : (asked : List Asked) (xs ys : List (Act Call)) → asked_after (asked_after asked xs) ys ≡ asked_after asked (xs ++ ys)
asked-then asked [] ys = refl
asked-then asked (act ∷ acts) ys = asked-then (asked_by asked act.call) acts ys

-- ---- datagrams that are sent in a row

module _ {P : Type 0} (honest : Bool) (came : P → List (List ℕ)) (sent : P → List Out) (faults : P → ℕ) where
  pub sends_nothing : (a : P) (t : Traffic) → SendsAll honest came sent faults a a t t []
  sends_nothing a t = record { sendings = []; all = refl; carried = carried_nothing honest came sent faults a; counts = refl }

  pub sends_as : (a b : P) (t u : Traffic) (outs others : List Out) → outs ≡ others → SendsAll honest came sent faults a b t u outs
      → SendsAll honest came sent faults a b t u others
  sends_as a b t u outs others same x = record { sendings = x.sendings; all = x.all ∙ same; carried = x.carried; counts = x.counts }

  pub sends_then : (a b c : P) (t u v : Traffic) (outs others : List Out) → SendsAll honest came sent faults a b t u outs
      → SendsAll honest came sent faults b c u v others → SendsAll honest came sent faults a c t v (outs ++ others)
  sends_then a b c t u v outs others x y = record {
    sendings = x.sendings ++ y.sendings;
    all = map-append out_of x.sendings y.sendings ∙ joined_are _ _ outs others x.all y.all;
    carried = carried_then honest came sent faults a b c [] [] x.sendings y.sendings 0 x.carried y.carried;
    counts =
        y.counts ∙ ap (λ (w : Traffic). with_more w 0 0 0 y.sendings) x.counts
        ∙ with_more-then t 0 0 0 0 0 0 x.sendings y.sendings;
  }

  -- one that was handed to the port
  pub sends_one : {A F : Type 0} (a b : P) (t u : Traffic) (out : Out) (result : Result A F) (is_lost : Bool) → faults a < faults_max
      → (honest ≡ true → OnOk result (sent b ≡ sent a ++ out ∷ [])) → (honest ≡ true → OnErr result (sent b ≡ sent a))
      → (honest ≡ true → came b ≡ came a) → CountsFault result (faults a) (faults b) → is_lost ≡ is_err result → u ≡ with_sent t is_lost
      → SendsAll honest came sent faults a b t u (out ∷ [])
  sends_one {A} {F} a b t u out result is_lost below ok err same counts lost traffic = record {
    sendings = sending_of result out ∷ [];
    all = refl;
    carried = carried_one honest came sent faults a b out result below ok err same counts;
    counts = traffic ∙ ap (with_sent t) lost ∙ by result;
  }
    where
      by : (result : Result A F) → with_sent t (is_err result) ≡ with_more t 0 0 0 (sending_of result out ∷ [])
      by (Ok done) = refl
      by (Err fault) = refl

  -- one that was not, since the port can count no more faults
  pub sends_lost : (a : P) (t u : Traffic) (out : Out) → faults a ≡ faults_max → u ≡ with_sent t true
      → SendsAll honest came sent faults a a t u (out ∷ [])
  sends_lost a t u out full traffic = record {
    sendings = record { out = out; fate = Lost } ∷ [];
    all = refl;
    carried = carried_lost honest came sent faults a (out ∷ []) full;
    counts = traffic;
  }

-- ---- the acts of a row

abbrev push_act : ℕ → ℕ → List ℕ → Sending → Act Call
push_act worker seq packet sending = record { call = Pushes worker seq packet; sendings = sending ∷ [] }

-- each packet is pushed, with what became of it
abbrev row_acts : ℕ → ℕ → List (List ℕ) → List Sending → List (Act Call)
row_acts worker seq [] sendings = []
row_acts worker seq (packet ∷ row) [] = []
row_acts worker seq (packet ∷ row) (sending ∷ sendings) =
    record { call = Pushes worker seq packet; sendings = sending ∷ [] } ∷ row_acts worker (seq + 1) row sendings

abbrev Spell : List Sending → List (List ℕ) → Type 0
Spell sendings row = map out_of sendings ≡ map to_replicas row

heads : {A : Type 0} (x y : A) (xs ys : List A) → x ∷ xs ≡ y ∷ ys → x ≡ y
heads x y xs ys same = cc same

tails : {A : Type 0} (x y : A) (xs ys : List A) → x ∷ xs ≡ y ∷ ys → xs ≡ ys
tails x y xs ys same = cc same

row-heard : (worker seq : ℕ) (row : List (List ℕ)) (sendings : List Sending) → heard_in hears (row_acts worker seq row sendings) ≡ []
row-heard worker seq [] sendings = refl
row-heard worker seq (packet ∷ row) [] = refl
row-heard worker seq (packet ∷ row) (sending ∷ sendings) = row-heard worker (seq + 1) row sendings

row-sent : (worker seq : ℕ) (row : List (List ℕ)) (sendings : List Sending) → Spell sendings row
    → sendings_in (row_acts worker seq row sendings) ≡ sendings
row-sent worker seq [] [] all = refl
row-sent worker seq [] (sending ∷ sendings) all = absurd (cc all)
row-sent worker seq (packet ∷ row) [] all = absurd (cc all)
row-sent worker seq (packet ∷ row) (sending ∷ sendings) all =
    ap (λ (l : List Sending). sending ∷ l) (row-sent worker (seq + 1) row sendings (tails _ _ _ _ all))

row-ignored : (worker seq : ℕ) (row : List (List ℕ)) (sendings : List Sending)
    → ignored_in (row_acts worker seq row sendings) ≡ 0
row-ignored worker seq [] sendings = refl
row-ignored worker seq (packet ∷ row) [] = refl
row-ignored worker seq (packet ∷ row) (sending ∷ sendings) =
    omega (
      arith,
      sum_by-cons (λ (act : Act Call). ignored act.call) (push_act worker seq packet sending) (row_acts worker (seq + 1) row sendings),
      row-ignored worker (seq + 1) row sendings,
    )

row-asked : (asked : List Asked) (worker seq : ℕ) (row : List (List ℕ)) (sendings : List Sending)
    → asked_after asked (row_acts worker seq row sendings) ≡ asked
row-asked asked worker seq [] sendings = refl
row-asked asked worker seq (packet ∷ row) [] = refl
row-asked asked worker seq (packet ∷ row) (sending ∷ sendings) = row-asked asked worker (seq + 1) row sendings

row-pushes : (pusher worker seq : ℕ) (row : List (List ℕ)) (sendings : List Sending) → Spell sendings row
    → seqs_in worker (row_acts pusher seq row sendings) ≡ cond (pusher == worker) (range_with_len seq (length row)) []
row-pushes pusher worker seq [] sendings all = none (pusher == worker)
  where
    none : (own : Bool) → [] ≡ cond {A = List ℕ} own [] []
    none true = refl
    none false = refl
row-pushes pusher worker seq (packet ∷ row) [] all = absurd (cc all)
row-pushes pusher worker seq (packet ∷ row) (sending ∷ sendings) all =
    ap (λ (l : List ℕ). cond (pusher == worker) (seq ∷ []) [] ++ l)
    (row-pushes pusher worker (seq + 1) row sendings (tails _ _ _ _ all)) ∙ one_more (pusher == worker)
  where
    one_more : (own : Bool) → cond own (seq ∷ []) [] ++ cond own (range_with_len (seq + 1) (length row)) []
        ≡ cond own (seq ∷ range_with_len (seq + 1) (length row)) []
    one_more true = refl
    one_more false = refl

row-looks : (pusher worker seq : ℕ) (row : List (List ℕ)) (sendings : List Sending) → Spell sendings row
    → looks_in worker (row_acts pusher seq row sendings) ≡ cond (pusher == worker) (length row) 0
row-looks pusher worker seq [] sendings all = none (pusher == worker)
  where
    none : (own : Bool) → 0 ≡ cond {A = ℕ} own 0 0
    none true = refl
    none false = refl
row-looks pusher worker seq (packet ∷ row) [] all = absurd (cc all)
row-looks pusher worker seq (packet ∷ row) (sending ∷ sendings) all =
    sum_by-cons (λ (act : Act Call). looks_of worker act.call) (push_act pusher seq packet sending)
    (row_acts pusher (seq + 1) row sendings)
    ∙ ap (λ (n : ℕ). cond (pusher == worker) 1 0 + n)
    (row-looks pusher worker (seq + 1) row sendings (tails _ _ _ _ all)) ∙ one_more (pusher == worker)
  where
    one_more : (own : Bool) → cond own 1 0 + cond own (length row) 0 ≡ cond own (length (packet ∷ row)) 0
    one_more true = omega arith
    one_more false = refl

-- how a row ends: it is full; the stream has no more; or there was no memory for it
pub data Ending : Type 0 where
  Full : Ending
  Ends : Ending
  Short : Ending

abbrev end_acts : ℕ → ℕ → Ending → List (Act Call)
end_acts worker seq Full = []
end_acts worker seq Ends = record { call = Looks worker seq; sendings = [] } ∷ []
end_acts worker seq Short = record { call = Lacks worker; sendings = [] } ∷ []

end-heard : (worker seq : ℕ) (ending : Ending) → heard_in hears (end_acts worker seq ending) ≡ []
end-heard worker seq Full = refl
end-heard worker seq Ends = refl
end-heard worker seq Short = refl

end-sent : (worker seq : ℕ) (ending : Ending) → sendings_in (end_acts worker seq ending) ≡ []
end-sent worker seq Full = refl
end-sent worker seq Ends = refl
end-sent worker seq Short = refl

end-ignored : (worker seq : ℕ) (ending : Ending) → sum_by (λ (act : Act Call). ignored act.call) (end_acts worker seq ending) ≡ 0
end-ignored worker seq Full = refl
end-ignored worker seq Ends = refl
end-ignored worker seq Short = refl

end-asked : (asked : List Asked) (worker seq : ℕ) (ending : Ending) → asked_after asked (end_acts worker seq ending) ≡ asked
end-asked asked worker seq Full = refl
end-asked asked worker seq Ends = refl
end-asked asked worker seq Short = refl

end-pushes : (pusher worker seq : ℕ) (ending : Ending) → seqs_in worker (end_acts pusher seq ending) ≡ []
end-pushes pusher worker seq Full = refl
end-pushes pusher worker seq Ends = refl
end-pushes pusher worker seq Short = refl

-- that a row ends so
abbrev EndsAs : List (List ℕ × List Kind) → ℕ → List Commit → ℕ → ℕ → ℕ → ℕ → Ending → Type 0
EndsAs schema workers list worker seq count most Full = count ≡ most
EndsAs schema workers list worker seq count most Ends = packet_at list worker seq ≡ None
EndsAs schema workers list worker seq count most Short = count ≡ 0

-- a worker is looked at, if a frame of it may be pushed
end-looks : (schema : List (List ℕ × List Kind)) (workers : ℕ) (list : List Commit) (pusher worker seq count most : ℕ) (ending : Ending)
    → EndsAs schema workers list pusher seq count most ending
    → looked_by pusher most worker
    ≤ cond (pusher == worker) count 0 + sum_by (λ (act : Act Call). looks_of worker act.call) (end_acts pusher seq ending)
end-looks schema workers list pusher worker seq count most ending is = by (pusher == worker) refl ending is
  where
    at_most_own : (has own : Bool) → cond (has && own) 1 0 ≤ cond own 1 0
    at_most_own true own = omega arith
    at_most_own false true = omega arith
    at_most_own false false = omega arith

    full : (own : Bool) (n m : ℕ) → m ≡ n → cond (nat_lt 0 n && own) 1 0 ≤ cond own m 0 + 0
    full true zero m same = omega arith
    full true (suc n) m same = omega (arith, same, at_most_own (nat_lt 0 (suc n)) true)
    full false n m same = omega (arith, at_most_own (nat_lt 0 n) false)

    looked : (own : Bool) (n m : ℕ) → cond (nat_lt 0 n && own) 1 0 ≤ cond own m 0 + (0 + cond own 1 0)
    looked own n m = omega (arith, at_most_own (nat_lt 0 n) own)

    by : (own : Bool) → (pusher == worker) ≡ own → (ending : Ending) → EndsAs schema workers list pusher seq count most ending
        → cond (nat_lt 0 most && own) 1 0
        ≤ cond own count 0 + sum_by (λ (act : Act Call). looks_of worker act.call) (end_acts pusher seq ending)
    by own same Full is = full own most count is
    by own same Ends is =
        subst (λ (test : Bool). cond (nat_lt 0 most && own) 1 0 ≤ cond own count 0 + (0 + cond test 1 0)) (sym same)
        (looked own most count)
    by own same Short is =
        subst (λ (test : Bool). cond (nat_lt 0 most && own) 1 0 ≤ cond own count 0 + (0 + cond test 1 0)) (sym same)
        (looked own most count)

module _ (schema : List (List ℕ × List Kind)) (workers : ℕ) (list : List Commit) where
  -- each of these packets is that of its seq
  abbrev Tell : ℕ → ℕ → List (List ℕ) → Type 0
  Tell worker seq row = (i : ℕ) → i < length row → slice_get row i ≡ packet_at list worker (seq + i)

  tell-first : (worker seq : ℕ) (packet : List ℕ) (row : List (List ℕ)) → Tell worker seq (packet ∷ row)
      → packet_at list worker seq ≡ Some packet
  tell-first worker seq packet row each =
      let here : seq ≡ seq + 0 = omega arith in
      ap (packet_at list worker) here ∙ sym (each 0 (omega arith))

  tell-rest : (worker seq : ℕ) (packet : List ℕ) (row : List (List ℕ)) → Tell worker seq (packet ∷ row) → Tell worker (seq + 1) row
  tell-rest worker seq packet row each i below =
      let there : seq + suc i ≡ (seq + 1) + i = omega arith in
      each (suc i) (omega (arith, below)) ∙ ap (packet_at list worker) there

  says-first : (packet : List ℕ) (row : List (List ℕ)) (sending : Sending) (sendings : List Sending)
      → Spell (sending ∷ sendings) (packet ∷ row) → map out_of (sending ∷ []) ≡ to_replicas packet ∷ []
  says-first packet row sending sendings all = ap (λ (out : Out). out ∷ []) (heads _ _ _ _ all)

  -- a row of frames of the list, and what comes behind it
  row-does : (worker seq : ℕ) (row : List (List ℕ)) (sendings : List Sending) (more : List (Act Call)) → Spell sendings row
      → Tell worker seq row → DoesAll (Makes schema workers) says list more list
      → DoesAll (Makes schema workers) says list (row_acts worker seq row sendings ++ more) list
  row-does worker seq [] sendings more all each rest = rest
  row-does worker seq (packet ∷ row) [] more all each rest = absurd (cc all)
  row-does worker seq (packet ∷ row) (sending ∷ sendings) more all each rest = (
    list,
    (prefix_self list, tell-first worker seq packet row each),
    says-first packet row sending sendings all,
    row-does worker (seq + 1) row sendings more (tails _ _ _ _ all) (tell-rest worker seq packet row each) rest,
  )

  -- the same from a list that was seen before
  row-from : (old : List Commit) → IsPrefix old list → (worker seq : ℕ) (row : List (List ℕ)) (sendings : List Sending)
      → (more : List (Act Call)) → Spell sendings row → Tell worker seq row
      → (row ≡ [] → DoesAll (Makes schema workers) says old more list) → DoesAll (Makes schema workers) says list more list
      → DoesAll (Makes schema workers) says old (row_acts worker seq row sendings ++ more) list
  row-from old begins worker seq [] sendings more all each empty rest = empty refl
  row-from old begins worker seq (packet ∷ row) [] more all each empty rest = absurd (cc all)
  row-from old begins worker seq (packet ∷ row) (sending ∷ sendings) more all each empty rest = (
    list,
    (begins, tell-first worker seq packet row each),
    says-first packet row sending sendings all,
    row-does worker (seq + 1) row sendings more (tails _ _ _ _ all) (tell-rest worker seq packet row each) rest,
  )

  end-does : (old : List Commit) → IsPrefix old list → (worker seq count most : ℕ) (ending : Ending)
      → EndsAs schema workers list worker seq count most ending → (ending ≡ Full → old ≡ list)
      → DoesAll (Makes schema workers) says old (end_acts worker seq ending) list
  end-does old begins worker seq count most Full is same = sym (same refl)
  end-does old begins worker seq count most Ends is same = (list, (begins, is), refl, refl)
  end-does old begins worker seq count most Short is same = (list, (begins, tt), refl, refl)

-- behind its end a list has nothing
get-end : {A : Type 0} (xs : List A) → slice_get xs (length xs) ≡ None
get-end [] = refl
get-end (x ∷ xs) = get-end xs

-- a number that is set twice is the last one
set-again : (xs : List ℕ) (i x y : ℕ) → slice_set (slice_set xs i x) i y ≡ slice_set xs i y
set-again [] i x y = refl
set-again (z ∷ xs) zero x y = refl
set-again (z ∷ xs) (suc i) x y = ap (λ (l : List ℕ). z ∷ l) (set-again xs i x y)

-- ---- what a node does

module _ {P : Type 0} (honest : Bool) (came : P → List (List ℕ)) (sent : P → List Out) (faults : P → ℕ)
    (schema : List (List ℕ × List Kind)) (workers : ℕ) where
  abbrev Does : (a b : PrimaryState P) → ℕ → (ℕ → ℕ) → Type 0
  Does a b failed looked = DoesPrimary schema workers honest came sent faults a b failed looked

  pub does_nothing : (a b : PrimaryState P) → b ≡ a → DoesPrimary schema workers honest came sent faults a b 0 (λ _. 0)
  does_nothing a b same =
      subst (λ (c : PrimaryState P). Does a c 0 (λ _. 0)) (sym same) (record {
        acts = [];
        serves = serves_nothing (Makes schema workers) says hears honest came sent faults a.port a.seat.list a.seat.list refl;
        goes_on = goes_on_same a.counters a.counters [] refl (λ worker. refl);
        looks = λ worker within. omega arith;
        counts = refl;
        asks = refl;
        seat = refl;
        as_many = refl;
      })

  pub does_then : (a b c : PrimaryState P) (failed : ℕ) (first second looked : ℕ → ℕ)
      → ((worker : ℕ) → worker < length a.counters → looked worker ≤ first worker + second worker)
      → DoesPrimary schema workers honest came sent faults a b 0 first
      → DoesPrimary schema workers honest came sent faults b c failed second
      → DoesPrimary schema workers honest came sent faults a c failed looked
  does_then a b c failed first second looked less x y = record {
    acts = x.acts ++ y.acts;
    serves =
        serves_then (Makes schema workers) says hears honest came sent faults a.port b.port c.port a.seat.list b.seat.list c.seat.list
        x.acts y.acts failed x.serves y.serves;
    goes_on = goes_on_then a.counters b.counters c.counters x.acts y.acts x.as_many x.goes_on y.goes_on;
    looks = λ worker within.
        omega (
          arith,
          less worker within,
          x.looks worker within,
          y.looks worker (omega (arith, x.as_many, within)),
          sums-append (looks_of worker) x.acts y.acts,
        );
    counts = y.counts ∙ ap (λ (t : Traffic). traffic_after t y.acts) x.counts ∙ traffic-then a.traffic x.acts y.acts;
    asks = y.asks ∙ ap (λ (l : List Asked). asked_after l y.acts) x.asks ∙ asked-then a.asked x.acts y.acts;
    seat = seat_then a.seat b.seat c.seat x.seat y.seat;
    as_many = y.as_many ∙ x.as_many;
  }

  -- the same, of which less is said
  pub does_less : (a b : PrimaryState P) (failed : ℕ) (looked less : ℕ → ℕ)
      → ((worker : ℕ) → worker < length a.counters → less worker ≤ looked worker)
      → DoesPrimary schema workers honest came sent faults a b failed looked
      → DoesPrimary schema workers honest came sent faults a b failed less
  does_less a b failed looked less below x = record {
    acts = x.acts;
    serves = x.serves;
    goes_on = x.goes_on;
    looks = λ worker within. omega (arith, below worker within, x.looks worker within);
    counts = x.counts;
    asks = x.asks;
    seat = x.seat;
    as_many = x.as_many;
  }

  -- a receive to which nothing came
  pub does_wait : (a b : PrimaryState P) → (honest ≡ true → came b.port ≡ came a.port ++ [])
      → (honest ≡ true → sent b.port ≡ sent a.port) → faults b.port ≡ faults a.port → b ≡ record a { port = b.port }
      → DoesPrimary schema workers honest came sent faults a b 0 (λ _. 0)
  does_wait a b same sends counts is = record {
    acts = [];
    serves = record {
      done = ap (λ (n : PrimaryState P). n.seat.list) is;
      carried = record { takes = same; sends = λ h. sends h ∙ sym (append-nil (sent a.port)); counts = counts };
    };
    goes_on = goes_on_same a.counters b.counters [] (ap (λ (n : PrimaryState P). n.counters) is) (λ worker. refl);
    looks = λ worker within. omega arith;
    counts = ap (λ (n : PrimaryState P). n.traffic) is;
    asks = ap (λ (n : PrimaryState P). n.asked) is;
    seat = seat_as a b is;
    as_many = ap (λ (n : PrimaryState P). length n.counters) is;
  }
    where
      seat_as : (a b : PrimaryState P) → b ≡ record a { port = b.port } → b.seat ≡ record a.seat { list = b.seat.list }
      seat_as a b is =
          ap (λ (n : PrimaryState P). n.seat) is
          ∙ ap (λ (l : List Commit). record a.seat { list = l }) (sym (ap (λ (n : PrimaryState P). n.seat.list) is))

  -- a receive that failed
  pub does_fail : (a b : PrimaryState P) → faults a.port < faults_max → (honest ≡ true → came b.port ≡ came a.port)
      → (honest ≡ true → sent b.port ≡ sent a.port) → faults b.port ≡ faults a.port + 1 → b ≡ record a { port = b.port }
      → DoesPrimary schema workers honest came sent faults a b 1 (λ _. 0)
  does_fail a b below same sends counts is =
      subst (λ (c : PrimaryState P). Does a c 1 (λ _. 0)) (sym is) (record {
        acts = [];
        serves = record {
          done = refl;
          carried = record {
            takes = λ h. same h ∙ sym (append-nil (came a.port));
            sends = λ h. sends h ∙ sym (append-nil (sent a.port));
            counts = counts ∙ sym (counted-one (faults a.port) below);
          };
        };
        goes_on = goes_on_same a.counters a.counters [] refl (λ worker. refl);
        looks = λ worker within. omega arith;
        counts = refl;
        asks = refl;
        seat = refl;
        as_many = refl;
      })

  -- bytes that came, and were answered
  pub does_answer : (a b : PrimaryState P) (between : P) (bytes : List ℕ) (outs : List Out) → IsPrefix a.seat.list b.seat.list
      → Tells schema workers b.seat.list (Answers bytes outs)
      → (honest ≡ true → came between ≡ came a.port ++ bytes ∷ []) → (honest ≡ true → sent between ≡ sent a.port)
      → faults between ≡ faults a.port
      → SendsAll honest came sent faults between b.port (with_heard a.traffic (counted_as outs)) b.traffic outs
      → b.asked ≡ noted a.asked bytes outs → b.counters ≡ a.counters → b.seat ≡ record a.seat { list = b.seat.list }
      → DoesPrimary schema workers honest came sent faults a b 0 (λ _. 0)
  does_answer a b between bytes outs begins is comes sends counts x asked same seat = record {
    acts = record { call = Answers bytes outs; sendings = x.sendings } ∷ [];
    serves = record {
      done = (b.seat.list, (begins, is), x.all, refl);
      carried =
          subst (λ (l : List Sending). Carried honest came sent faults a.port b.port (bytes ∷ []) l 0) (sym (append-nil x.sendings))
          (carried_then honest came sent faults a.port between b.port (bytes ∷ []) [] [] x.sendings 0
          (record { takes = comes; sends = λ h. sends h ∙ sym (append-nil (sent a.port)); counts = counts }) x.carried);
    };
    goes_on =
        goes_on_same a.counters b.counters (record { call = Answers bytes outs; sendings = x.sendings } ∷ []) same (λ worker. refl);
    looks = λ worker within. omega arith;
    counts =
        x.counts
        ∙ with_more-then a.traffic 1 (stored_as (counted_as outs)) (ignored_as (counted_as outs)) 0 0 0 [] x.sendings
        ∙ with_more-same a.traffic 1 (stored_as (counted_as outs) + 0) (ignored_as (counted_as outs) + 0) 1 0
        (0 + ignored_as (counted_as outs)) x.sendings (x.sendings ++ []) refl (none_stored outs) (omega arith)
        (sym (append-nil x.sendings));
    asks = asked;
    seat = seat;
    as_many = ap length same;
  }
    where
      none_stored : (outs : List Out) → stored_as (counted_as outs) + 0 ≡ 0
      none_stored [] = refl
      none_stored (out ∷ outs) = refl

  -- bytes that came, for which there was no memory
  pub does_lose : (a b : PrimaryState P) (bytes : List ℕ) → IsPrefix a.seat.list b.seat.list
      → (honest ≡ true → came b.port ≡ came a.port ++ bytes ∷ []) → (honest ≡ true → sent b.port ≡ sent a.port)
      → faults b.port ≡ faults a.port → b.traffic ≡ with_more a.traffic 1 0 0 [] → b.asked ≡ a.asked → b.counters ≡ a.counters
      → b.seat ≡ record a.seat { list = b.seat.list } → DoesPrimary schema workers honest came sent faults a b 0 (λ _. 0)
  does_lose a b bytes begins comes sends counts traffic asked same seat = record {
    acts = record { call = Loses bytes; sendings = [] } ∷ [];
    serves = record {
      done = (b.seat.list, (begins, tt), refl, refl);
      carried = record { takes = comes; sends = λ h. sends h ∙ sym (append-nil (sent a.port)); counts = counts };
    };
    goes_on = goes_on_same a.counters b.counters (record { call = Loses bytes; sendings = [] } ∷ []) same (λ worker. refl);
    looks = λ worker within. omega arith;
    counts = traffic;
    asks = asked;
    seat = seat;
    as_many = ap length same;
  }

  -- a row of frames, and how it ended
  pub does_row : (a b : PrimaryState P) (worker from most : ℕ) (row : List (List ℕ)) (ending : Ending) → worker < length a.counters
      → from ≡ slice_index a.counters worker → 0 < most → IsPrefix a.seat.list b.seat.list → Tell schema workers b.seat.list worker from row
      → EndsAs schema workers b.seat.list worker (from + length row) (length row) most ending
      → SendsAll honest came sent faults a.port b.port a.traffic b.traffic (map to_replicas row)
      → b.asked ≡ a.asked → b.counters ≡ slice_set a.counters worker (from + length row) → b.seat ≡ record a.seat { list = b.seat.list }
      → DoesPrimary schema workers honest came sent faults a b 0 (looked_by worker most)
  does_row a b worker from most row ending there is some begins each ends x asked set seat = record {
    acts = acts;
    serves = record {
      done =
          row-from schema workers list a.seat.list begins worker from row x.sendings more x.all each
          (λ empty. end-does schema workers list a.seat.list begins worker next (length row) most ending ends
          (λ full. absurd (not_full empty full)))
          (end-does schema workers list list (prefix_self list) worker next (length row) most ending ends (λ full. refl));
      carried =
          subst (λ (l : List (List ℕ)). Carried honest came sent faults a.port b.port l (sendings_in acts) 0) (sym none_heard)
          (subst (λ (l : List Sending). Carried honest came sent faults a.port b.port [] l 0) (sym all_sent) x.carried);
    };
    goes_on = λ v within. by_worker v (same_or_other v worker);
    looks = λ v within.
        omega (
          arith,
          end-looks schema workers list worker v next (length row) most ending ends,
          row-looks worker v from row x.sendings x.all,
          sums-append (looks_of v) (row_acts worker from row x.sendings) more,
        );
    counts =
        x.counts
        ∙ with_more-same a.traffic 0 0 0 (length (heard_in hears acts)) 0 (ignored_in acts) x.sendings (sendings_in acts)
        (sym (ap length none_heard)) refl (sym none_ignored) (sym all_sent);
    asks =
        asked ∙ sym (end-asked a.asked worker next ending)
        ∙ ap (λ (l : List Asked). asked_after l more) (sym (row-asked a.asked worker from row x.sendings))
        ∙ asked-then a.asked (row_acts worker from row x.sendings) more;
    seat = seat;
    as_many = ap length set ∙ length-set a.counters worker next;
  }
    where
      list : List Commit
      list = b.seat.list

      next : ℕ
      next = from + length row

      more : List (Act Call)
      more = end_acts worker next ending

      acts : List (Act Call)
      acts = row_acts worker from row x.sendings ++ more

      not_full : row ≡ [] → ending ≡ Full → ⊥
      not_full empty full =
          let is_most : length row ≡ most =
          subst (EndsAs schema workers list worker next (length row) most) full ends in
          absurd (omega (arith, some, is_most, ap length empty))

      none_heard : heard_in hears acts ≡ []
      none_heard =
          flat_map-append (λ (act : Act Call). hears act.call) (row_acts worker from row x.sendings) more
          ∙ joined_are _ _ [] [] (row-heard worker from row x.sendings) (end-heard worker next ending)

      all_sent : sendings_in acts ≡ x.sendings
      all_sent =
          flat_map-append (λ (act : Act Call). act.sendings) (row_acts worker from row x.sendings) more
          ∙ joined_are _ _ x.sendings [] (row-sent worker from row x.sendings x.all) (end-sent worker next ending)
          ∙ append-nil x.sendings

      none_ignored : sum_by (λ (act : Act Call). ignored act.call) acts ≡ 0
      none_ignored =
          omega (
            arith,
            sums-append ignored (row_acts worker from row x.sendings) more,
            row-ignored worker from row x.sendings,
            end-ignored worker next ending,
          )

      pushes : (v : ℕ) → seqs_in v acts ≡ cond (worker == v) (range_with_len from (length row)) []
      pushes v =
          pushes-append v (row_acts worker from row x.sendings) more
          ∙ joined_are _ _ (cond (worker == v) (range_with_len from (length row)) []) [] (row-pushes worker v from row x.sendings x.all)
          (end-pushes worker v next ending)
          ∙ append-nil _

      own : GoesOnOf a.counters b.counters acts worker
      own = (
        length row,
        ap (λ (l : List ℕ). slice_index l worker) set ∙ get_or-set_same a.counters worker next 0 there
            ∙ ap (λ (n : ℕ). n + length row) is,
        pushes worker
            ∙ ap (λ (test : Bool). cond test (range_with_len from (length row)) []) (eq-eqb worker worker refl)
            ∙ ap (λ (n : ℕ). range_with_len n (length row)) is,
      )

      by_worker : (v : ℕ) → (v ≡ worker) ⊎ (v ≢ worker) → GoesOnOf a.counters b.counters acts v
      by_worker v (inl same) = subst (GoesOnOf a.counters b.counters acts) (sym same) own
      by_worker v (inr other) =
          let none : slice_index a.counters v ≡ slice_index a.counters v + 0 = omega arith in (
            0,
            ap (λ (l : List ℕ). slice_index l v) set ∙ get_or-set_other a.counters worker v next 0 other ∙ none,
            pushes v
                ∙ ap (λ (test : Bool). cond test (range_with_len from (length row)) []) (ne_eqb worker v (λ e. other (sym e))),
          )

  -- frames that were dropped are skipped
  does_skip : (a : PrimaryState P) (seat : SeatState) (worker from to : ℕ) → worker < length a.counters
      → from ≡ slice_index a.counters worker → IsPrefix a.seat.list seat.list → Tells schema workers seat.list (Skips worker from to)
      → seat ≡ record a.seat { list = seat.list }
      → DoesPrimary schema workers honest came sent faults a (record a { seat = seat; counters = slice_set a.counters worker to }) 0
      (λ _. 0)
  does_skip a seat worker from to there is begins tells same = record {
    acts = acts;
    serves = record {
      done = (seat.list, (begins, tells), refl, refl);
      carried = carried_nothing honest came sent faults a.port;
    };
    goes_on = λ v within. by_worker v (same_or_other v worker);
    looks = λ v within. omega arith;
    counts = refl;
    asks = refl;
    seat = same;
    as_many = length-set a.counters worker to;
  }
    where
      acts : List (Act Call)
      acts = record { call = Skips worker from to; sendings = [] } ∷ []

      set : List ℕ
      set = slice_set a.counters worker to

      seqs : (v : ℕ) → seqs_in v acts ≡ cond (worker == v) (range_with_len from (to - from)) []
      seqs v = append-nil (cond (worker == v) (range_with_len from (to - from)) [])

      own : GoesOnOf a.counters set acts worker
      own =
          let ahead = tells.3 in (
            to - from,
            get_or-set_same a.counters worker to 0 there ∙ omega (arith, is, ahead),
            seqs worker
                ∙ ap (λ (test : Bool). cond test (range_with_len from (to - from)) []) (eq-eqb worker worker refl)
                ∙ ap (λ (n : ℕ). range_with_len n (to - from)) is,
          )

      by_worker : (v : ℕ) → (v ≡ worker) ⊎ (v ≢ worker) → GoesOnOf a.counters set acts v
      by_worker v (inl same) = subst (GoesOnOf a.counters set acts) (sym same) own
      by_worker v (inr other) =
          let none : slice_index a.counters v ≡ slice_index a.counters v + 0 = omega arith in (
            0,
            get_or-set_other a.counters worker v to 0 other ∙ none,
            seqs v
                ∙ ap (λ (test : Bool). cond test (range_with_len from (to - from)) []) (ne_eqb worker v (λ e. other (sym e))),
          )

  -- a row of frames that begins where they are kept, behind those that are skipped
  does_skip_row : (a b : PrimaryState P) (worker from start most : ℕ) (row : List (List ℕ)) (ending : Ending)
      → worker < length a.counters → from ≡ slice_index a.counters worker → 0 < most → IsPrefix a.seat.list b.seat.list
      → (base : ℕ) × IsBaseOf (shape_of schema) b.seat.list base × (start ≡ kept_from b.seat.list base worker from)
      → Tell schema workers b.seat.list worker start row
      → EndsAs schema workers b.seat.list worker (start + length row) (length row) most ending
      → SendsAll honest came sent faults a.port b.port a.traffic b.traffic (map to_replicas row)
      → b.asked ≡ a.asked → b.counters ≡ slice_set a.counters worker (start + length row) → b.seat ≡ record a.seat { list = b.seat.list }
      → DoesPrimary schema workers honest came sent faults a b 0 (looked_by worker most)
  does_skip_row a b worker from start most row ending there is some begins kept each ends x asked set seat = by (nat_lt from start) refl
    where
      low : ℕ
      low = frame_count b.seat.list worker kept.0

      passed : PrimaryState P
      passed = record a { seat = b.seat; counters = slice_set a.counters worker start }

      by : (test : Bool) → nat_lt from start ≡ test
          → DoesPrimary schema workers honest came sent faults a b 0 (looked_by worker most)
      by true ahead =
          let above = ltb-true from start ahead in
          let lowest : start ≡ low = omega (arith, above, kept.2) in
          does_then a passed b 0 (λ _. 0) (looked_by worker most) (looked_by worker most) (λ v within. omega arith)
          (does_skip a b.seat worker from start there is begins (kept.0, kept.1, lowest, above) seat)
          (does_row passed b worker start most row ending (omega (arith, there, length-set a.counters worker start))
          (sym (get_or-set_same a.counters worker start 0 there)) some (prefix_self b.seat.list) each ends x asked
          (set ∙ sym (set-again a.counters worker start (start + length row))) refl)
      by false here =
          let same : start ≡ from = omega (arith, ltb-false from start here, kept.2) in
          does_row a b worker start most row ending there (same ∙ is) some begins each ends x asked set seat

  -- the same, by how it was taken
  pub does_row_as : {F : Type 0} (a b : PrimaryState P) (worker from start most : ℕ) (row : List (List ℕ)) (result : Result ℕ F)
      → worker < length a.counters → from ≡ slice_index a.counters worker → 0 < most → IsPrefix a.seat.list b.seat.list
      → start ≡ result_unwrap_or result from
      → IfOk result (λ at. (base : ℕ) × IsBaseOf (shape_of schema) b.seat.list base × (at ≡ kept_from b.seat.list base worker from)
      × (row ≡ row_of b.seat.list worker at most))
      → IfOk result (λ at. (i : ℕ) → i < most → slice_get row i ≡ packet_at b.seat.list worker (at + i))
      → OnErr result (row ≡ []) → length row ≤ most
      → SendsAll honest came sent faults a.port b.port a.traffic b.traffic (map to_replicas row)
      → b.asked ≡ a.asked → b.counters ≡ slice_set a.counters worker (start + length row) → b.seat ≡ record a.seat { list = b.seat.list }
      → DoesPrimary schema workers honest came sent faults a b 0 (looked_by worker most)
  does_row_as a b worker from start most row (Err fault) there is some begins at kept each empty few x asked set seat =
      does_row a b worker start most row Short there (at ∙ is) some begins (λ i below. absurd (omega (arith, below, ap length empty)))
      (ap length empty) x asked set seat
  does_row_as a b worker from start most row (Ok first) there is some begins at kept each empty few x asked set seat =
      by (nat_lt (length row) most) refl
    where
      tells : Tell schema workers b.seat.list worker start row
      tells i below =
          each i (omega (arith, below, few)) ∙ ap (λ (n : ℕ). packet_at b.seat.list worker (n + i)) (sym at)

      is_kept : (base : ℕ) × IsBaseOf (shape_of schema) b.seat.list base × (start ≡ kept_from b.seat.list base worker from)
      is_kept = (kept.0, kept.1, at ∙ kept.2)

      by : (test : Bool) → nat_lt (length row) most ≡ test
          → DoesPrimary schema workers honest came sent faults a b 0 (looked_by worker most)
      by true fewer =
          does_skip_row a b worker from start most row Ends there is some begins is_kept tells
          (ap (λ (n : ℕ). packet_at b.seat.list worker (n + length row)) at
          ∙ sym (each (length row) (ltb-true (length row) most fewer)) ∙ get-end row) x asked set seat
      by false full =
          does_skip_row a b worker from start most row Full there is some begins is_kept tells
          (omega (arith, few, ltb-false (length row) most full)) x asked set seat

-- ---- how much of each worker

-- with at most 16 workers some frames of each are pushed
pub some_of_each : (each workers : ℕ) → workers ≤ 16 → (each ≡ 256) ⊎ (1024 < (each + 1) * workers) → 0 < each
some_of_each each workers few (inl all) = omega (arith, all)
some_of_each zero workers few (inr most) = absurd (omega (arith, few, most))
some_of_each (suc each) workers few (inr most) = omega arith

-- after one worker more
next_number : (next worker most here : ℕ) → (next ≡ worker → 0 < here → 0 < most)
    → cond (nat_lt worker (next + 1)) (cond (nat_lt 0 here) 1 0) 0
    ≤ cond (nat_lt worker next) (cond (nat_lt 0 here) 1 0) 0 + cond (nat_lt 0 most && (next == worker)) 1 0
next_number next worker most here some = grind (arith, nat_tests, some)

pub before_next : (left : List ℕ) (next most worker : ℕ) → (0 < slice_index left next → 0 < most)
    → looked_before left (next + 1) worker ≤ looked_before left next worker + looked_by next most worker
before_next left next most worker some =
    next_number next worker most (slice_index left worker)
    (λ same here. some (subst (λ (w : ℕ). 0 < slice_index left w) (sym same) here))

-- before the first one
pub before_none : (left : List ℕ) (worker : ℕ) → looked_before left 0 worker ≤ 0
before_none left worker = grind (arith, nat_tests)

-- after the last one
pub before_all : (left : List ℕ) (count worker : ℕ) → worker < count → looked_if left worker ≤ looked_before left count worker
before_all left count worker within = grind (arith, nat_tests)

-- in the first round, or in one before, each worker was looked at
pub rounds_more : (rounds left : ℕ) → (rounds ≡ 0 → 0 < left) → 1 ≤ cond (nat_lt 0 rounds) 1 0 + cond (nat_lt 0 left) 1 0
rounds_more rounds left first = grind (arith, nat_tests, first)
