-- A whole pass of a filter: the commands of a script, and then the records of captures.
use Rattle.std.specs.Prelude.{◌≡◌, ◌⊎◌, ℕ, List, Option, IfSome, count_by, sum_by}
use Rattle.spin_outside.specs.Files.{File}
use Rattle.spin_outside.specs.Seen.{ShelfSeen}
use Rattle.spin_table.specs.States.{State, start_of}
use Rattle.spin_table.specs.declared.refusal.Verdicted.{Verdicted}
use Rattle.spin_script.specs.Soundness.{lines_in}
use Rattle.spin_script.specs.States.{ScriptData}
use Rattle.spin_filter.specs.declared.filter.Filtered.{Filtered}
use Rattle.spin_filter.specs.declared.stop.Stop.{Stop}
use Rattle.spin_filter.specs.Commands.{commands_of, AreGiven, is_refusal}
use Rattle.spin_filter.specs.Counting.{capped, AreCounts}
use Rattle.spin_filter.specs.Histories.{PassedCapture, AreFound, AllPassed, records_of, happened_in}
use Rattle.spin_filter.specs.Listing.{bindings_at}
use Rattle.spin_filter.specs.Rounds.{round_of, IsForFilter}
use Rattle.spin_filter.specs.Sending.{OutletsAt, AreSent, with_lost_of}
use Rattle.spin_filter.specs.Stops.{IsSentBy, StopsPass}
use Rattle.spin_filter.specs.Unsuited.{IsUnsuited}

-- What a filter of the captures of these names came to, where the files are these, and a capture is written for what is
-- sent to the endpoint of that number. There is one history: the commands of the script are answered in order; then each
-- record of each capture is raised, and its jobs are done, at the state that the commands left. Each endpoint has gained
-- the sends of this history, the capture has gained the records that were sent to it, and the counts are its counts.
pub record IsFiltered (script : ScriptData) (capture : Option ℕ) (files : Option (List File)) (names : List (List ℕ))
    (before after : OutletsAt) (filtered : Filtered) : Type 0 where
  pub verdicts : List Verdicted
  pub state : State
  pub captures : List PassedCapture
  pub suited : IsForFilter script
  pub commands : AreGiven script.setup (start_of script.setup) (commands_of (lines_in script.segments)) verdicts state
  -- the captures are these files, each whole
  pub found : IfSome files (λ fs. AreFound fs names captures)
  pub passed : AllPassed script.setup state (round_of (lines_in script.segments)) captures
  pub sent : AreSent script.endpoints capture (happened_in (records_of captures)).sends before.ends after.ends
      before.sink.told after.sink.told
  -- no write to the capture failed
  pub still : after.sink.faults ≡ before.sink.faults
  pub counts : AreCounts (bindings_at state)
      (with_lost_of script.endpoints capture before.ends (happened_in (records_of captures))) after.counts
  pub accepted : filtered.accepted ≡ state.place
  pub refused : filtered.refused ≡ capped (count_by is_refusal verdicts)
  pub cut : filtered.cut ≡ capped (sum_by (λ c. c.cut) captures)

-- Why a filter stops: the script is none for it, and nothing was done; or a pass over the captures stops.
abbrev pub StopsFilter : ScriptData → Option ℕ → List (List ℕ) → ShelfSeen → ShelfSeen → OutletsAt → OutletsAt
    → Stop → Type 0
StopsFilter script capture names shelf shelf' before after why =
    ((shelf' ≡ shelf) × (after ≡ before) × IsUnsuited script why)
    ⊎ (IsForFilter script
    × StopsPass script.endpoints capture (IsSentBy script shelf.files names) names shelf shelf' before after why)
