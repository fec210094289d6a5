use Rattle.std.proofs.Common.{◌≡◌, map, take}
use Rattle.spin_place.specs.Inner.Candidates.{released}
use Rattle.spin_place.proofs.candidate.release.Given as goal

-- each is released from the links so far
abbrev pub invariant-loop-link : goal.invariant-loop-link
invariant-loop-link l = l.rest ≡ map (released (take l.link-index l.links)) l.initial.rest
