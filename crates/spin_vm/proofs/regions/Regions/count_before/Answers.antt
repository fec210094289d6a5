use Rattle.std.proofs.Common.{of_calls, rules, nat_lt, ◌∙◌, ap, subst, sym}
use Rattle.std.proofs.lemmas.Fn.{always_returns_same}
use Rattle.spin_vm.specs.declared.line.Region.{Region}
use Rattle.spin_vm.specs.Inner.Apart.{AreApart, count_before}
use Rattle.spin_vm.proofs.RegionOrder.{count_is, partitioned}
use Rattle.spin_vm.proofs.regions.Regions.count_before.Goals as goal

pub returns-clause-count : goal.returns-clause-count
returns-clause-count c =
    let xs = c.as_slice.result.now in
    let same = c.as_slice.ensures.value in
    let apart = subst AreApart (sym same) c.self.invariant in
    let point =
    c.partition_point.ensures.partitioned (λ (r : Region). nat_lt r.start c.args.page) (always_returns_same _ _ _ (λ a r f k. search (rules, of_calls))) (partitioned c.args.page 0 xs apart) in
    count_is c.args.page xs c.partition_point.result c.partition_point.ensures.bound point.0 point.1 ∙ ap (count_before c.args.page) (same ∙ c.self.view_is)

pub returns-clause-apart : goal.returns-clause-apart
returns-clause-apart c = subst AreApart c.self.view_is c.self.invariant
