use Rattle.std.proofs.Common.{rules}
use Rattle.std.proofs.lemmas.List.Sorted.{answers_always}
use Rattle.spin_place.proofs.CandidateSearch.{searched}
use Rattle.spin_place.specs.declared.candidate.Candidate.{Candidate}
use Rattle.spin_place.proofs.candidate.position_of.Goals as goal

pub returns : goal.returns
returns c =
    let facts = c.binary_search_by_key.ensures in
    let by_key = facts.position (λ (x : Candidate). x.binding.now.number) (answers_always _ _ _ (λ f a r g called. search rules)) in
    searched c.args.rest.now c.requires c.args.number c.binary_search_by_key.result c.ok.result c.ok.ensures.value facts.bound by_key
