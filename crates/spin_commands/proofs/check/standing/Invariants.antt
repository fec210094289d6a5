use Rattle.std.proofs.Common.{◌≡◌, map, take}
use Rattle.std.specs.List.{filter}
use Rattle.spin_endpoint.specs.Named.{stands}
use Rattle.spin_endpoint.specs.Inner.View.{view_of}
use Rattle.spin_commands.proofs.check.standing.Given as goal

abbrev pub invariant-loop-name : goal.invariant-loop-name
invariant-loop-name g l =
    let all = map (view_of (λ e. (goal.Endpoint-dyn g (e.object.vtable, e.object.value)).seen e.object.value)) l.ends.ends.items in
    l.names ≡ filter (λ name. stands name all) (take l.name-index l.endpoints)
