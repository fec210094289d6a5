use Rattle.std.proofs.Common.{map, subst, IfOk, Decides}
use Rattle.std.specs.Prelude.{option_map}
use Rattle.spin_endpoint.specs.Inner.View.{view_of}
use Rattle.spin_script.specs.Scripts.{script_seen}
use Rattle.spin_check.specs.RunTexts.{IsRunText, capture_of}
use Rattle.spin_commands.proofs.check.is_of_history.Goals as goal

pub returns : goal.returns
returns g c =
    let all = map (view_of (λ e. (goal.Endpoint-dyn g (e.object.vtable, e.object.value)).seen e.object.value)) c.args.ends.now.ends.items in
    subst (λ capture. IfOk c.check_report.result (λ whether. Decides whether (IsRunText (script_seen c.args.script.now) (option_map capture_of capture) all c.args.report.now))) c.as_ref.ensures.value
    (c.check_report.ensures all c.in_ok-names.ensures)
