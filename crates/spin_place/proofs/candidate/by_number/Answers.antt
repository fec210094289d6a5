use Rattle.std.proofs.Common.{◌≡◌, List, subst, ◌∙◌, rules, arith}
use Rattle.std.specs.List.Sorted.{IsPermutation, IsNonDecreasingBy}
use Rattle.std.proofs.lemmas.List.{take_all}
use Rattle.std.proofs.lemmas.List.Sorted.{All-permutation, IsPermutation-map, IsNonDecreasingBy-from_sort_by_key}
use Rattle.spin_place.specs.declared.binding.Binding.{Binding}
use Rattle.spin_place.specs.declared.candidate.Candidate.{Candidate}
use Rattle.spin_place.specs.Inner.Candidates.{bindings_of}
use Rattle.spin_place.specs.Precedence.{numbers_of}
use Rattle.spin_place.proofs.CandidateLists.{rising_from}
use Rattle.spin_place.proofs.Rings.{AreDistinct-permutation}
use Rattle.spin_place.proofs.candidate.by_number.Goals as goal

pub returns-clause-bindings : goal.returns-clause-bindings
returns-clause-bindings c =
    let all : bindings_of c.loop-binding.rest.items ≡ c.args.bindings.now = c.loop-binding.invariant.bindings ∙ take_all c.loop-binding.binding-index c.args.bindings.now (omega arith) in
    subst (λ (bs : List Binding). IsPermutation bs (bindings_of c.sort_unstable_by_key.new.self.items)) all
    (IsPermutation-map (λ (x : Candidate). x.binding.now) c.loop-binding.rest.items c.sort_unstable_by_key.new.self.items c.sort_unstable_by_key.ensures.permutation)

pub returns-clause-rising : goal.returns-clause-rising
returns-clause-rising c =
    let new = c.sort_unstable_by_key.new.self.items in
    let all : bindings_of c.loop-binding.rest.items ≡ c.args.bindings.now = c.loop-binding.invariant.bindings ∙ take_all c.loop-binding.binding-index c.args.bindings.now (omega arith) in
    let same : IsPermutation c.args.bindings.now (bindings_of new) = subst (λ (bs : List Binding). IsPermutation bs (bindings_of new)) all
    (IsPermutation-map (λ (x : Candidate). x.binding.now) c.loop-binding.rest.items new c.sort_unstable_by_key.ensures.permutation) in
    let sorted : IsNonDecreasingBy (λ (x : Candidate). x.binding.now.number) new =
    IsNonDecreasingBy-from_sort_by_key (λ (x : Candidate). x.binding.now.number) new c.sort_unstable_by_key.ensures.sorted (λ a r f k. search rules) in
    rising_from new sorted
    (AreDistinct-permutation (numbers_of c.args.bindings.now) (numbers_of (bindings_of new)) (IsPermutation-map (λ (b : Binding). b.number) c.args.bindings.now (bindings_of new) same) c.requires)

pub returns-clause-free : goal.returns-clause-free
returns-clause-free c =
    All-permutation (λ (x : Candidate). x.waits ≡ 0) c.loop-binding.rest.items c.sort_unstable_by_key.new.self.items c.sort_unstable_by_key.ensures.permutation c.loop-binding.invariant.free
