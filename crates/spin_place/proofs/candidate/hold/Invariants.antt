use Rattle.std.proofs.Common.{◌≡◌, map, take}
use Rattle.spin_place.specs.Inner.Candidates.{numbers_left, held}
use Rattle.spin_place.proofs.candidate.hold.Given as goal

-- each is held by the links so far
abbrev pub invariant-loop-link : goal.invariant-loop-link
invariant-loop-link l =
    l.rest ≡ map (held (numbers_left l.initial.rest) (take l.link-index l.links)) l.initial.rest
