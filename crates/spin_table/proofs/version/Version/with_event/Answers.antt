use Rattle.std.proofs.Common.{◌≡◌, ◌+◌, ◌∙◌, List, ap}
use Rattle.std.specs.Prelude.{slice_set}
use Rattle.std.specs.Arc.{arc_value}
use Rattle.spin_table.specs.States.{VersionValue, EventState}
use Rattle.spin_table.specs.Inner.Slots.{states_of}
use Rattle.spin_table.proofs.Slots.{states_set}
use Rattle.spin_table.proofs.version.Version.with_event.Goals as goal

pub returns : goal.returns
returns c =
    let v = c.args.self.now in
    let place : c.self.inside.place + 1 ≡ v.state.place + 1 = ap (λ (x : VersionValue). x.state.place + 1) c.self.view_is in
    let shared : c.in_ok-events.events ≡ c.self.inside.events = c.in_ok-events.ensures ∙ c.as_slice.ensures in
    let events : states_of c.replace.new.self ≡ slice_set v.state.events c.args.event c.args.slot.state =
    ap states_of c.replace.ensures ∙ states_set c.in_ok-events.events c.args.event c.args.slot
    ∙ ap (λ (es : List EventState). slice_set es c.args.event c.args.slot.state) (ap states_of shared ∙ ap (λ (x : VersionValue). x.state.events) c.self.view_is) in
    let tests : arc_value c.in_ok-share_tests.field-0 ≡ v.tests = c.in_ok-share_tests.ensures ∙ ap (λ (x : VersionValue). x.tests) c.self.view_is in
    λ i. record { state = record { place = place i; events = events i }; tests = tests i }
