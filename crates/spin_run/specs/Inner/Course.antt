-- What contracts see of what doesn't change in a run.
use Rattle.std.specs.Prelude.{ℕ, List}
use Rattle.spin_table.specs.SetupOf.{data_of}
use Rattle.spin_run.specs.declared.course.Course.{Course}
use Rattle.spin_run.specs.declared.lane.Lane.{Lane}
use Rattle.spin_run.specs.Segments.{AreReady}
use Rattle.spin_run.specs.Inner.Steps.{Setting, setting}

-- Below, A and B, C and D, E and F are the kinds of the boxed handlers, guards and authorisers.

-- the lanes are ready for its hub
abbrev pub AreReadyIn : {R G A C E : Type 0} {B : A → Type 0} {D : C → Type 0} {F : E → Type 0}
    → Course R G A C E B D F → List Lane → Type 0
AreReadyIn course lanes =
    AreReady (data_of course.hub.now.setup) course.hub.now.log.id course.hub.now.log.lanes lanes

-- the setting of its segments, with so many lanes
abbrev pub setting_in : {R G A C E : Type 0} {B : A → Type 0} {D : C → Type 0} {F : E → Type 0}
    → Course R G A C E B D F → ℕ → Setting
setting_in course lanes = setting (data_of course.hub.now.setup) lanes course.names.now
