use Rattle.std.proofs.Common.{◌≡◌, ◌-◌, List, nat_lt, nat_le, length, take, drop, sym, subst, rules, arith}
use Rattle.std.specs.List.Sorted.{IsNonDecreasingBy}
use Rattle.std.proofs.lemmas.Bool.{ltb-true, ltb-false, leb-true, leb-false}
use Rattle.std.proofs.lemmas.List.{take_all, length-drop}
use Rattle.std.proofs.lemmas.List.Sorted.{IsPartitionPoint-from_clause, IsPartitionedBy-ltb, IsPartitionedBy-leb}
use Rattle.spin_place.specs.declared.links.Link.{Link}
use Rattle.spin_place.proofs.LinkCounts.{links_within, rising_drop}
use Rattle.spin_place.proofs.links.links_from.Goals as goal

pub returns : goal.returns
returns c =
    let links = c.args.links.now in
    let number = c.args.number in
    let start = c.partition_point-start.result in
    let rest : List Link = take (length links - start) (drop start links) in
    let is : rest ≡ drop start links = take_all (length links - start) (drop start links) (omega (arith, length-drop start links)) in
    let rising : IsNonDecreasingBy (λ (l : Link). l.earlier) rest = subst (λ (ls : List Link). IsNonDecreasingBy (λ (l : Link). l.earlier) ls) (sym is) (rising_drop links start c.requires) in
    let point = IsPartitionPoint-from_clause (λ (l : Link). nat_lt l.earlier number) _ _ c.partition_point-start.ensures.partitioned
    (IsPartitionedBy-ltb (λ (l : Link). l.earlier) links number c.requires) (λ a r q k. search rules) in
    let point' = IsPartitionPoint-from_clause (λ (l : Link). nat_le l.earlier number) _ _ c.partition_point-size.ensures.partitioned
    (IsPartitionedBy-leb (λ (l : Link). l.earlier) rest number rising) (λ a r q k. search rules) in
    λ n. links_within links rest number start c.partition_point-size.result n is c.partition_point-start.ensures.bound c.partition_point-size.ensures.bound
    (λ k d low. ltb-true _ number (point.0 k d (omega arith) low)) (λ k d high within. ltb-false _ number (point.1 k d high within))
    (λ k d low. leb-true _ number (point'.0 k d (omega arith) low)) (λ k d high within. leb-false _ number (point'.1 k d high within))
