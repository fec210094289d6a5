-- What a run without threads hands out.
use Rattle.std.specs.Prelude.{◌≡◌, ◌++◌, ◌&&◌, ℕ, Bool, List, [], ◌∷◌, filter, length, nat_lt, Option}
use Rattle.spin_endpoint.specs.Named.{NamedEnd, stands}
use Rattle.spin_endpoint.specs.Sends.{SentSeen, name_of, all_received, all_retired}
use Rattle.spin_script.specs.declared.script.Segment.{Segment}
use Rattle.spin_script.specs.States.{ScriptData}
use Rattle.spin_report.specs.Histories.{SegmentSeen, HistorySeen, report_text}
use Rattle.spin_report.specs.Runs.{RunPoint, CaptureSeen, IsRun, segment_sends}
use Rattle.spin_whole.specs.declared.ran.Ran.{Ran}

-- the send is received: the script has an endpoint of its number, and one stands under its name
abbrev pub is_received : List (List ℕ) → List NamedEnd → SentSeen → Bool
is_received names ends sent = nat_lt sent.endpoint (length names) && stands (name_of names sent.endpoint) ends

-- The sends of these segments that are received, in the order of the history: those of a segment by the endpoints that
-- stand once its own are retired.
abbrev pub sends_received : List (List ℕ) → List Segment → List NamedEnd → List SegmentSeen → List SentSeen
sends_received names (segment ∷ segments) ends (seen ∷ others) =
    filter (is_received names (all_retired names segment.retires ends)) (segment_sends seen)
    ++ sends_received names segments (all_received names (segment_sends seen) (all_retired names segment.retires ends))
    others
sends_received names segments ends seen = []

-- The report is that of a history of the script with that capture and those endpoints, and the sends are just those that
-- its endpoints receive in it.
abbrev pub IsRanAs : ScriptData → Option CaptureSeen → List NamedEnd → Ran → Type 0
IsRanAs script capture ends ran =
    (history : HistorySeen) × (last : RunPoint) × IsRun script capture ends history last
    × (ran.report ≡ report_text history)
    × (ran.sends ≡ sends_received script.endpoints script.segments ends history.segments)
