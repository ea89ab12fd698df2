-- What the halving finds.
use Rattle.std.proofs.Common.{ℕ, rules, sym}
use Rattle.std.proofs.Common.{arith}
use Rattle.std.specs.Prelude.{nat_le}
use Rattle.std.proofs.lemmas.List.Sums.{prefix_len_is}
use Rattle.std.proofs.lemmas.List.Sorted.{IsPartitionPoint-from_clause, IsPartitionedBy-leb}
use Rattle.mvcc.proofs.columns.added_upto.Goals as goal

pub returns-clause-value : goal.returns-clause-value
returns-clause-value c =
    let numbers = c.args.numbers.now in
    let point =
    IsPartitionPoint-from_clause (λ (n : ℕ). nat_le n c.args.version) numbers c.partition_point.result
    c.partition_point.ensures.partitioned
    (IsPartitionedBy-leb (λ (n : ℕ). n) numbers c.args.version c.requires) (λ a r f' q. search rules) in
    sym (prefix_len_is (λ n. nat_le n c.args.version) numbers c.partition_point.result 0 c.partition_point.ensures.bound
    (λ k lt. point.0 k 0 (omega arith) lt) (λ lt. point.1 c.partition_point.result 0 (omega arith) lt))
