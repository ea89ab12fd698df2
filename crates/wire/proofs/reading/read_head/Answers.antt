-- A body that passes the tests reads as a Head of its parts; one that does not, as none.
use Rattle.std.proofs.Common.{◌≡◌, List, ℕ, Some, length, get_or, drop, arith, sym, ap, ◌∙◌}
use Rattle.std.proofs.lemmas.List.{take_rest, drop-drop}
use Rattle.byteorder.specs.Endian.{big_number}
use Rattle.wire.specs.declared.datagram.Datagram.TheVariants.{Head}
use Rattle.wire.specs.declared.head.Head as heads
use Rattle.wire.specs.Reading.{counts_at, head_in, has_base}
use Rattle.wire.proofs.Bodies.{IsHeadAt, head_at-is, head_at-refused, head_at-unbased, refuses-replica, refuses-none, refuses-many}
use Rattle.wire.proofs.Bodies.{refuses-size}
use Rattle.wire.proofs.reading.read_head.Goals as goal
use Rattle.wire.proofs.reading.read_head.Goals.{
  then-body-ge-REPLICAS_MAX-via-then-body-ge-REPLICAS_MAX,
  then-body-ge-REPLICAS_MAX-via-else-body-ge-REPLICAS_MAX+then-workers-eq0,
  then-body-ge-REPLICAS_MAX-via-else-body-ge-REPLICAS_MAX+else-workers-eq0+then-workers-gt-WORKERS_MAX,
  then-body-ge-REPLICAS_MAX-via-else-body-ge-REPLICAS_MAX+else-workers-eq0+else-workers-gt-WORKERS_MAX+then-rest-workers,
}

pub returns-then-body-ge-REPLICAS_MAX : goal.returns-then-body-ge-REPLICAS_MAX
returns-then-body-ge-REPLICAS_MAX c =
    let body = c.args.body.now in
    let replica = get_or body 0 0 in
    let workers = get_or body 41 0 in
    let size = length body in
    head_at-refused body (elim c.then-body-ge-REPLICAS_MAX.branch [
      | then-body-ge-REPLICAS_MAX-via-then-body-ge-REPLICAS_MAX w ↦ refuses-replica replica workers size w.if-body-ge-REPLICAS_MAX.true
      | then-body-ge-REPLICAS_MAX-via-else-body-ge-REPLICAS_MAX+then-workers-eq0 w ↦
          refuses-none replica workers size w.if-workers-eq0.true
      | then-body-ge-REPLICAS_MAX-via-else-body-ge-REPLICAS_MAX+else-workers-eq0+then-workers-gt-WORKERS_MAX w ↦
          refuses-many replica workers size w.if-workers-gt-WORKERS_MAX.true
      | then-body-ge-REPLICAS_MAX-via-else-body-ge-REPLICAS_MAX+else-workers-eq0+else-workers-gt-WORKERS_MAX+then-rest-workers w ↦
          refuses-size replica workers size (λ same. w.if-rest-workers.true (omega (arith, same, c.split_at.ensures.back_len)))
    ])

-- the numbers that are read make the Head of the body
is-head : (body : List ℕ) (boot request version base pieces : ℕ) (lows counts rest : List ℕ) → boot ≡ big_number 8 (drop 1 body)
    → request ≡ big_number 8 (drop 9 body) → version ≡ big_number 8 (drop 17 body) → base ≡ big_number 8 (drop 25 body)
    → pieces ≡ big_number 8 (drop 33 body) → rest ≡ drop 42 body → lows ≡ counts_at (get_or body 41 0) rest
    → counts ≡ counts_at (get_or body 41 0) (drop 8 rest)
    → ◌≡◌ {A = heads.Head} (record {
      replica = get_or body 0 0;
      boot = boot;
      request = request;
      version = version;
      base = base;
      pieces = pieces;
      lows = lows;
      counts = counts;
    }) (head_in body)
is-head body boot request version base pieces lows counts rest a b c d e is f g =
    let behind : counts ≡ counts_at (get_or body 41 0) (drop 50 body) =
    g ∙ ap (λ (l : List ℕ). counts_at (get_or body 41 0) (drop 8 l)) is
    ∙ ap (counts_at (get_or body 41 0)) (drop-drop 8 42 body) in
    let front : lows ≡ counts_at (get_or body 41 0) (drop 42 body) = f ∙ ap (counts_at (get_or body 41 0)) is in
    λ i. record {
      replica = get_or body 0 0;
      boot = a i;
      request = b i;
      version = c i;
      base = d i;
      pieces = e i;
      lows = front i;
      counts = behind i;
    }

pub returns-then-not-may_have_base : goal.returns-then-not-may_have_base
returns-then-not-may_have_base c =
    let body = c.args.body.now in
    let is = is-head body c.read_u64.result c.read_u64-2.result c.read_u64-3.result c.read_u64-4.result c.read_u64-5.result
    c.read_counts-lows.result.0 c.read_counts-lows.result.1 c.split_at.result.1.now
    (c.read_u64.ensures ∙ ap (big_number 8) (take_rest body 1)) (c.read_u64-2.ensures ∙ ap (big_number 8) (take_rest body 9))
    (c.read_u64-3.ensures ∙ ap (big_number 8) (take_rest body 17)) (c.read_u64-4.ensures ∙ ap (big_number 8) (take_rest body 25))
    (c.read_u64-5.ensures ∙ ap (big_number 8) (take_rest body 33)) c.split_at.ensures.back c.read_counts-lows.ensures.lows
    c.read_counts-lows.ensures.counts in
    head_at-unbased body (sym (ap has_base is) ∙ sym c.may_have_base.ensures ∙ c.if-not-may_have_base.true)

pub returns : goal.returns
returns c =
    let body = c.args.body.now in
    let is = is-head body c.read_u64.result c.read_u64-2.result c.read_u64-3.result c.read_u64-4.result c.read_u64-5.result
    c.read_counts-lows.result.0 c.read_counts-lows.result.1 c.split_at.result.1.now
    (c.read_u64.ensures ∙ ap (big_number 8) (take_rest body 1)) (c.read_u64-2.ensures ∙ ap (big_number 8) (take_rest body 9))
    (c.read_u64-3.ensures ∙ ap (big_number 8) (take_rest body 17)) (c.read_u64-4.ensures ∙ ap (big_number 8) (take_rest body 25))
    (c.read_u64-5.ensures ∙ ap (big_number 8) (take_rest body 33)) c.split_at.ensures.back c.read_counts-lows.ensures.lows
    c.read_counts-lows.ensures.counts in
    let at : IsHeadAt body =
    record {
      long = omega arith;
      replica = omega arith;
      some = omega arith;
      few = omega arith;
      whole = omega (arith, c.split_at.ensures.back_len);
      based = sym (ap has_base is) ∙ sym c.may_have_base.ensures ∙ c.if-not-may_have_base.false;
    } in
    ap (λ (head : heads.Head). Some (Head head)) is ∙ sym (head_at-is body at)
