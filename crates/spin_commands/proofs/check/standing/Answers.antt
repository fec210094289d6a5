use Rattle.std.proofs.Common.{map, sym, subst, ap, ◌∙◌, ◌≤◌, length}
use Rattle.std.specs.List.{filter}
use Rattle.std.proofs.lemmas.List.{take_all}
use Rattle.spin_endpoint.specs.Named.{stands}
use Rattle.spin_endpoint.specs.Inner.View.{view_of}
use Rattle.spin_check.specs.RunTexts.{StandAs}
use Rattle.spin_commands.proofs.StandingNames.{stand_as}
use Rattle.spin_commands.proofs.check.standing.Goals as goal

pub returns : goal.returns
returns g c =
    let all = map (view_of (λ e. (goal.Endpoint-dyn g (e.object.vtable, e.object.value)).seen e.object.value)) c.args.ends.now.ends.items in
    let whole = take_all c.loop-name.name-index c.args.endpoints.now (subst (λ names. length names ≤ c.loop-name.name-index) c.as_slice-name-items.ensures c.loop-name-test.false) in
    subst (λ names. StandAs c.args.endpoints.now names all) (sym (c.loop-name.invariant ∙ ap (λ names. filter (λ name. stands name all) names) whole)) (stand_as c.args.endpoints.now all)
