use Rattle.std.proofs.Common.{◌≡◌, ◌-◌, ◌^◌, length, take}
use Rattle.std.specs.Prelude.{min, sum_by}
use Rattle.spin_run.proofs.telling.text_bytes.Given as goal

-- the sum so far, or the most that a count tells
abbrev pub invariant-loop-trail : goal.invariant-loop-trail
invariant-loop-trail l = l.bytes ≡ min (sum_by (λ trail. length trail.text) (take l.trail-index l.trails)) (2 ^ 64 - 1)
