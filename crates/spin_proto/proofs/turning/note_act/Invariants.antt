use Rattle.std.proofs.Common.{drop}
use Rattle.spin_proto.proofs.NotedActs.{Doing}
use Rattle.spin_proto.proofs.turning.note_act.Given as goal

abbrev pub invariant-loop-step : goal.invariant-loop-step
invariant-loop-step l =
    Doing l.event l.number l.act.steps (drop l.step-index l.act.steps) l.initial.args l.args l.ups l.last l.fn.walk l.walk
