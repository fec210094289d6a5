use Rattle.std.proofs.Common.{◌≡◌, ℕ, ◌++◌, List, length, take, drop, map, refl, ap, sym, subst, ◌∙◌, arith}
use Rattle.std.specs.List.Sorted.{IsPermutation}
use Rattle.std.proofs.lemmas.List.{take_at, length-map}
use Rattle.spin_place.specs.declared.binding.Binding.{Binding}
use Rattle.spin_place.specs.declared.candidate.Candidate.{Candidate}
use Rattle.spin_place.specs.declared.links.Link.{Link}
use Rattle.spin_place.specs.Inner.Candidates.{bindings_of, numbers_left, held}
use Rattle.spin_place.proofs.CandidateLists.{bindings-kept, rising-kept, counted_held}
use Rattle.spin_place.proofs.candidate.candidates.Goals as goal

-- what stands in the list after it was lent
written : (rest lent new : List Candidate) (links : List Link) (size : ℕ) → length rest ≡ size → lent ≡ rest → new ≡ map (held (numbers_left lent) links) lent
    → take size (new ++ drop (length new) rest) ≡ map (held (numbers_left rest) links) rest
written rest lent new links size e is held_all =
    let all : new ≡ map (held (numbers_left rest) links) rest = held_all ∙ ap (λ (cs : List Candidate). map (held (numbers_left cs) links) cs) is in
    take_at new (drop (length new) rest) size (ap length all ∙ length-map rest (held (numbers_left rest) links) ∙ e) ∙ all

pub returns-clause-bindings : goal.returns-clause-bindings
returns-clause-bindings c =
    let rest = c.in_ok-rest.rest.items in
    let is = written rest c.deref_mut.result.now c.hold.new.rest c.args.links.now c.in_ok-rest.rest.len (omega arith) c.deref_mut.ensures.value c.hold.ensures in
    subst (λ (cs : List Candidate). IsPermutation c.args.bindings.now (bindings_of cs)) (sym is)
    (subst (λ (bs : List Binding). IsPermutation c.args.bindings.now bs) (sym (bindings-kept (held (numbers_left rest) c.args.links.now) (λ x. refl) rest)) c.in_ok-rest.ensures.bindings)

pub returns-clause-rising : goal.returns-clause-rising
returns-clause-rising c =
    let rest = c.in_ok-rest.rest.items in
    let is = written rest c.deref_mut.result.now c.hold.new.rest c.args.links.now c.in_ok-rest.rest.len (omega arith) c.deref_mut.ensures.value c.hold.ensures in
    rising-kept (held (numbers_left rest) c.args.links.now) (λ x. refl) rest _ is c.in_ok-rest.ensures.rising

pub returns-clause-counted : goal.returns-clause-counted
returns-clause-counted c =
    let rest = c.in_ok-rest.rest.items in
    let is = written rest c.deref_mut.result.now c.hold.new.rest c.args.links.now c.in_ok-rest.rest.len (omega arith) c.deref_mut.ensures.value c.hold.ensures in
    counted_held c.args.links.now rest _ is
