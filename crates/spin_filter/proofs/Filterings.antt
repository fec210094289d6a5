-- A whole pass of a filter, and why it stops.
use Rattle.std.proofs.Common.{◌≡◌, ◌<◌, ℕ, List, [], length, Option, refl, ap, subst, ◌∙◌, arith}
use Rattle.spin_outside.specs.Files.{File}
use Rattle.spin_table.specs.States.{State}
use Rattle.spin_script.specs.declared.script.Line.{Line}
use Rattle.spin_script.specs.Soundness.{lines_in}
use Rattle.spin_script.specs.States.{ScriptData}
use Rattle.spin_filter.specs.declared.commands.Commanded.{Commanded}
use Rattle.spin_filter.specs.declared.counts.Counts.{Counts}
use Rattle.spin_filter.specs.declared.stop.Stop.{Stop}
use Rattle.spin_filter.specs.declared.stop.Stop.TheVariants as stop
use Rattle.spin_filter.specs.Commands.{commands_of}
use Rattle.spin_filter.specs.Counting.{Happened, AreCounts, nothing}
use Rattle.spin_filter.specs.Filters.{IsFiltered}
use Rattle.spin_filter.specs.Histories.{records_of, happened_in}
use Rattle.spin_filter.specs.Inner.Giving.{IsCommanded}
use Rattle.spin_filter.specs.Listing.{bindings_at}
use Rattle.spin_filter.specs.Rounds.{round_of, lane_of, AreSuited, HasOneSegment, IsForFilter}
use Rattle.spin_filter.specs.Sending.{OutletsAt, with_lost_of}
use Rattle.spin_filter.specs.Stops.{IsSentFrom, StandsIn, IsSentBy}
use Rattle.spin_filter.specs.Unsuited.{StopsScript, IsUnsuited}
use Rattle.spin_filter.proofs.Doings.{PassedBy, Within, joined-none}
use Rattle.spin_filter.proofs.CapturesFound.{FindsCaptures}
use Rattle.spin_filter.proofs.RoundsMade.{never}

-- a script whose one segment has lines that may not stand there
pub unsuited-lines : (script : ScriptData) (why : Stop) → HasOneSegment script.segments → StopsScript (lines_in script.segments) why → IsUnsuited script why
unsuited-lines script stop.NoMemory one s = tt
unsuited-lines script stop.Retires one s = absurd (never (lines_in script.segments) s.place s.there s.stops)
unsuited-lines script stop.Segments one s = absurd (never (lines_in script.segments) s.place s.there s.stops)
unsuited-lines script stop.NoRecords one s = (one, s)
unsuited-lines script (stop.Lane number) one s = (one, s)
unsuited-lines script (stop.InTheWay number) one s = (one, s)
unsuited-lines script (stop.Capture number wrong) one s = (one, s)
unsuited-lines script (stop.Endpoint number) one s = (one, s)
unsuited-lines script (stop.NoFrame number) one s = (one, s)
unsuited-lines script stop.WriteFault one s = (one, s)
unsuited-lines script stop.Unread one s = (one, s)
unsuited-lines script stop.Absent one s = (one, s)

-- The script is one for a filter: these are its lines, and their round.
pub record SuitsFilter (script : ScriptData) (lines : List Line) (round : List ℕ) : Type 0 where
  pub lines_are : lines ≡ lines_in script.segments
  pub round_is : round ≡ round_of lines
  pub one : HasOneSegment script.segments
  pub suited : AreSuited (lane_of lines) [] lines
  pub some : 0 < length round

pub for-filter : (script : ScriptData) (lines : List Line) (round : List ℕ) → SuitsFilter script lines round → IsForFilter script
for-filter script lines round s = record {
  segments = s.one;
  suited = subst (λ (ls : List Line). AreSuited (lane_of ls) [] ls) s.lines_are s.suited;
  some = λ none. let e = ap length (s.round_is ∙ ap round_of s.lines_are ∙ none) in let some = s.some in absurd (omega (arith, e));
}

-- what the records of a script are passed by, at that state, where a round has these events
abbrev pub scripted : ScriptData → State → Option ℕ → List (List ℕ) → List ℕ → PassedBy
scripted script state capture names round = record { setup = script.setup; state = state; round = round; names = names; capture = capture }

-- The commands of a script were given, and nothing is counted yet.
pub record HasBegun (script : ScriptData) (commanded : Commanded) (counts : Counts) : Type 0 where
  pub given : IsCommanded script.setup (commands_of (lines_in script.segments)) commanded
  pub zero : AreCounts (bindings_at commanded.version.state) nothing counts

pub filtered : (script : ScriptData) (capture : Option ℕ) (files : Option (List File)) (captures : List (List ℕ)) (before after : OutletsAt) (commanded : Commanded) (counts : Counts) (cut : ℕ)
    → IsForFilter script → HasBegun script commanded counts
    → FindsCaptures (scripted script commanded.version.state capture script.endpoints (round_of (lines_in script.segments))) files captures cut (record before { counts = counts }) after
    → IsFiltered script capture files captures before after (record { accepted = commanded.version.state.place; refused = commanded.refused; cut = cut })
filtered script capture files captures before after commanded counts cut suited begun (seen, passed, found, cut_is, done) = record {
  verdicts = begun.given.verdicts;
  state = commanded.version.state;
  captures = seen;
  suited = suited;
  commands = begun.given.given;
  found = found;
  passed = passed;
  sent = done.sent;
  still = done.still;
  counts = subst (λ (h : Happened). AreCounts (bindings_at commanded.version.state) h after.counts) (joined-none (with_lost_of script.endpoints capture before.ends (happened_in (records_of seen))))
      (done.counted (bindings_at commanded.version.state) nothing begun.zero);
  accepted = refl;
  refused = begun.given.refused;
  cut = cut_is;
}

-- a send at a record of one of the captures, at the state that the commands left
pub sent-by : (script : ScriptData) (files : Option (List File)) (names : List (List ℕ)) (commanded : Commanded) (lines : List Line) (round : List ℕ) → lines ≡ lines_in script.segments → round ≡ round_of lines
    → IsCommanded script.setup (commands_of lines) commanded → Within (IsSentFrom script.setup commanded.version.state round (StandsIn files names)) (IsSentBy script files names)
sent-by script files names commanded lines round same made given send is =
    let own = subst (λ (ls : List Line). IsCommanded script.setup (commands_of ls) commanded) same given in
    record {
      verdicts = own.verdicts;
      state = commanded.version.state;
      commands = own.given;
      sent = subst (λ (r : List ℕ). IsSentFrom script.setup commanded.version.state r (StandsIn files names) send) (made ∙ ap round_of same) is;
    }
