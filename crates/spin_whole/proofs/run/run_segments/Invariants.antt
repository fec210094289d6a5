use Rattle.std.proofs.Common.{List}
use Rattle.spin_endpoint.specs.Named.{NamedEnd}
use Rattle.spin_script.specs.Scripts.{script_seen}
use Rattle.spin_check.specs.Inner.Standings.{AreFlags}
use Rattle.spin_whole.proofs.SegmentSteps.{HasRun, IsOnWay}
use Rattle.spin_whole.proofs.run.run_segments.Given as goal

abbrev pub invariant-loop-number : goal.invariant-loop-number
invariant-loop-number g l =
    let script = script_seen l.script in
    IsOnWay script.setup script.segments l.fn.standing l.number l.standing
    × ((ends : List NamedEnd) → AreFlags script.endpoints ends l.fn.standing.flags.items → HasRun script ends l.fn.standing l.number l.standing)
