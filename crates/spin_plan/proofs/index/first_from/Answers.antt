use Rattle.std.proofs.Common.{◌∙◌, sym, rules, nat_lt, arith}
use Rattle.std.proofs.lemmas.List.Sorted.{IsPartitionPoint-from_clause}
use Rattle.spin_plan.proofs.Positions.{found, is_partitioned, looked_up}
use Rattle.spin_plan.proofs.index.first_from.Goals as goal

pub returns : goal.returns
returns c =
    let parted = is_partitioned c.args.positions.now c.args.from c.requires in
    let point = IsPartitionPoint-from_clause (λ n. nat_lt n c.args.from) _ _ c.partition_point-passed.ensures.partitioned parted (λ a r q k. search rules) in
    let is = found c.args.positions.now c.args.from c.partition_point-passed.result (λ k d below within. point.0 k d (omega arith) below) (λ k d above within. point.1 k d above within) in
    c.copied.ensures ∙ looked_up c.args.positions.now c.partition_point-passed.result c.get.result c.get.ensures.lookup.0 c.get.ensures.lookup.1 ∙ sym is
