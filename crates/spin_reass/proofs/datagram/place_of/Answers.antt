use Rattle.std.proofs.Common.{rules, of_calls, nat_lt, sym, arith}
use Rattle.std.proofs.lemmas.Fn.{always_returns_same}
use Rattle.spin_reass.proofs.PartOrder.{partitioned, prefix_is}
use Rattle.spin_reass.proofs.datagram.place_of.Goals as goal

pub returns-clause-place : goal.returns-clause-place
returns-clause-place c =
    let point = c.partition_point.ensures.partitioned (λ p. nat_lt p.start c.args.start) (always_returns_same _ _ _ (λ a r f k. search (rules, of_calls)))
    (λ i j d l m up. partitioned 0 c.args.start c.args.parts.now i j d c.requires l m up) in
    sym (prefix_is c.args.start c.args.parts.now c.partition_point.result c.partition_point.ensures.bound
    (λ k d l. point.0 k d (omega arith) l) (λ d l. point.1 c.partition_point.result d (omega arith) l))
