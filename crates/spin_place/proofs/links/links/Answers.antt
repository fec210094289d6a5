use Rattle.std.proofs.Common.{ℕ, ◌+◌, ◌∙◌, sum_by, take, sym, ap, rules, arith}
use Rattle.std.proofs.lemmas.List.{take_all}
use Rattle.std.proofs.lemmas.List.Sums.{sum_by_more}
use Rattle.std.proofs.lemmas.List.Sorted.{IsNonDecreasingBy-from_sort_by_key}
use Rattle.spin_place.specs.declared.binding.Binding.{Binding}
use Rattle.spin_place.specs.declared.links.Link.{Link}
use Rattle.spin_place.specs.Inner.Links.{said}
use Rattle.spin_place.proofs.LinkCounts.{times_linked-permutation}
use Rattle.spin_place.proofs.links.links.Goals as goal

pub loop-binding-preserved : goal.loop-binding-preserved
loop-binding-preserved c =
    λ m n. c.in_ok-add_links.ensures m n ∙ ap (λ (t : ℕ). t + said m n c.binding-item.result) (c.loop-binding.invariant m n)
    ∙ ap (λ (b : Binding). sum_by (said m n) (take c.loop-binding.binding-index c.args.bindings.now) + said m n b) c.binding-item.is
    ∙ sym (sum_by_more (said m n) c.args.bindings.now c.loop-binding.binding-index c.binding-item.result (omega arith))

pub returns-clause-linked : goal.returns-clause-linked
returns-clause-linked c =
    λ m n. times_linked-permutation c.loop-binding.links.items c.sort_unstable_by_key.new.self.items m n c.sort_unstable_by_key.ensures.permutation ∙ c.loop-binding.invariant m n
    ∙ ap (λ bs. sum_by (said m n) bs) (take_all c.loop-binding.binding-index c.args.bindings.now (omega arith))

pub returns-clause-sorted : goal.returns-clause-sorted
returns-clause-sorted c =
    IsNonDecreasingBy-from_sort_by_key (λ (l : Link). l.earlier) c.sort_unstable_by_key.new.self.items c.sort_unstable_by_key.ensures.sorted (λ a r f k. search rules)
