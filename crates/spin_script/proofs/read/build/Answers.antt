use Rattle.std.proofs.Common.{ℕ, List, ap, ◌∙◌}
use Rattle.spin_table.specs.declared.event.EventDef.{EventDef}
use Rattle.spin_table.specs.Catalogues.{data_from}
use Rattle.spin_script.specs.States.{natives_seen}
use Rattle.spin_script.specs.Inner.Drafts.{so_far}
use Rattle.spin_script.proofs.LineSoundness.{never_err}
use Rattle.spin_script.proofs.read.build.Goals as goal

pub unreachable-requires : goal.unreachable-requires
unreachable-requires g c =
    let n = natives_seen c.args.catalogue.natives in
    let s = so_far c.args.draft c.args.catalogue in
    let made = λ (live : ℕ) (events : List EventDef). data_from c.args.draft.modules live events c.args.catalogue in
    let events = c.from_vec-events.result in
    let live = c.most_live-live.result in
    let same = ap (made live) c.from_vec-events.ensures ∙ ap (λ (k : ℕ). made k c.args.draft.events.items) c.most_live-live.ensures in
    never_err n s (made live events) c.build.result c.in-Err.field-0 same c.requires.sound c.build.ensures.fault c.in-Err.is
