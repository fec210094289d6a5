-- The pass over the captures, with the capture that is written.
use Rattle.std.proofs.Common.{◌≡◌, ◌<◌, ◌≤◌, inl, inr, ℕ, List, [], ◌++◌, Option, Some, None, refl, sym, ap, subst, ◌∙◌, arith}
use Rattle.std.specs.Io.KnownBytes.{Appends, append_known}
use Rattle.std.proofs.KnownBytes.{Appends-trans}
use Rattle.std.proofs.lemmas.List.{append-nil}
use Rattle.spin_outside.specs.Counts.{Rose}
use Rattle.spin_outside.specs.Files.{File}
use Rattle.spin_outside.specs.Seen.{ShelfSeen, SinkSeen}
use Rattle.spin_endpoint.specs.Named.{NamedEnd}
use Rattle.spin_frames.specs.Written.{with_waiting}
use Rattle.spin_script.specs.Soundness.{lines_in}
use Rattle.spin_script.specs.States.{ScriptData}
use Rattle.spin_filter.specs.declared.counts.Counts.{Counts}
use Rattle.spin_filter.specs.declared.filter.Filtered.{Filtered}
use Rattle.spin_filter.specs.declared.stop.Stop.{Stop}
use Rattle.spin_filter.specs.declared.stop.Stop.TheVariants as stop
use Rattle.spin_filter.specs.Filters.{IsFiltered, StopsFilter}
use Rattle.spin_filter.specs.Counting.{AreCounts}
use Rattle.spin_filter.specs.Histories.{records_of, happened_in}
use Rattle.spin_filter.specs.Listing.{bindings_at}
use Rattle.spin_filter.specs.Sending.{OutletsAt, outlets_at, with_lost_of}
use Rattle.spin_filter.proofs.RoundsMade.{never}
use Rattle.spinfilter.specs.declared.words.Asked.{Asked}
use Rattle.spinfilter.specs.Calls.{writer_of, IsHeaded, IsPassed, StopsPassing}

-- what was appended for a sink, and is then handed to it
flushed-told : (first told told' : Option (List ℕ)) (bytes waiting waiting' : List ℕ) → Appends first (append_known told waiting) bytes → Appends told told' waiting → waiting' ≡ []
    → Appends first (append_known told' waiting') bytes
flushed-told None told told' bytes waiting waiting' is flushed none = tt
flushed-told (Some xs) None told' bytes waiting waiting' is flushed none = absurd is
flushed-told (Some xs) (Some ys) None bytes waiting waiting' is flushed none = absurd flushed
flushed-told (Some xs) (Some ys) (Some zs) bytes waiting waiting' is flushed none = ap (λ w. zs ++ w) none ∙ append-nil zs ∙ flushed ∙ is

-- What waited was handed to the sink, and nothing else changed.
pub record Flushes (x y : OutletsAt) : Type 0 where
  pub ends : y.ends ≡ x.ends
  pub counts : y.counts ≡ x.counts
  pub told : (first : Option (List ℕ)) (bytes : List ℕ) → Appends first x.sink.told bytes → Appends first y.sink.told bytes
  pub still : y.sink.faults ≡ x.sink.faults

pub flushes : (ends : List NamedEnd) (counts : Counts) (sink sink' : SinkSeen) (waiting waiting' : List ℕ) → Appends sink.told sink'.told waiting → waiting' ≡ [] → sink'.faults ≡ sink.faults
    → Flushes (outlets_at ends (with_waiting sink waiting) counts) (outlets_at ends (with_waiting sink' waiting') counts)
flushes ends counts sink sink' waiting waiting' flushed none same = record {
  ends = refl;
  counts = refl;
  told = λ first bytes is. flushed-told first sink.told sink'.told bytes waiting waiting' is flushed none;
  still = same;
}

flushed-filter : (script : ScriptData) (capture : Option ℕ) (files : Option (List File)) (names : List (List ℕ)) (before x y : OutletsAt) (filtered : Filtered) → Flushes x y
    → IsFiltered script capture files names before x filtered → IsFiltered script capture files names before y filtered
flushed-filter script capture files names before x y filtered f is = record {
  verdicts = is.verdicts;
  state = is.state;
  captures = is.captures;
  suited = is.suited;
  commands = is.commands;
  found = is.found;
  passed = is.passed;
  sent = record {
    ends_are = f.ends ∙ is.sent.ends_are;
    written = f.told before.sink.told _ is.sent.written;
    frames = is.sent.frames;
  };
  still = f.still ∙ is.still;
  counts = subst (λ (c : Counts). AreCounts (bindings_at is.state) (with_lost_of script.endpoints capture before.ends (happened_in (records_of is.captures))) c) (sym f.counts) is.counts;
  accepted = is.accepted;
  refused = is.refused;
  cut = is.cut;
}

-- what holds for the capture that is written and the captures that are read holds for those that are asked for
pub as-asked : (P : Option ℕ → List (List ℕ) → Type 0) (asked : Asked) (endpoints names : List (List ℕ)) (capture : Option ℕ) (captures : List (List ℕ)) → names ≡ endpoints
    → capture ≡ writer_of asked.file names → captures ≡ asked.captures.items → P capture captures → P (writer_of asked.file endpoints) asked.captures.items
as-asked P asked endpoints names capture captures same-names writer same-captures is =
    subst (λ (number : Option ℕ). P number asked.captures.items) (writer ∙ ap (λ ns. writer_of asked.file ns) same-names) (subst (λ (cs : List (List ℕ)). P capture cs) same-captures is)

-- The header of the capture that is written, if one is, was written.
pub record HasHeader (asked : Asked) (before headed : OutletsAt) : Type 0 where
  pub ends : headed.ends ≡ before.ends
  pub header : IsHeaded asked.file before.sink headed.sink

-- the records were passed, and nothing waits any longer
pub passed-whole : (script : ScriptData) (asked : Asked) (files : Option (List File)) (before headed x y : OutletsAt) (filtered : Filtered) → HasHeader asked before headed → Flushes x y
    → IsFiltered script (writer_of asked.file script.endpoints) files asked.captures.items headed x filtered → IsPassed script asked files before y filtered
passed-whole script asked files before headed x y filtered h f is = record {
  headed = headed;
  ends = h.ends;
  header = h.header;
  passed = flushed-filter script (writer_of asked.file script.endpoints) files asked.captures.items headed x y filtered f is;
}

-- The outlets are left as they stopped, and the sink failed no less often by now.
pub record Leaves (stopped after : OutletsAt) : Type 0 where
  pub ends : after.ends ≡ stopped.ends
  pub faults : stopped.sink.faults ≤ after.sink.faults

-- the filter stopped
pub stops-after : (script : ScriptData) (asked : Asked) (shelf shelf' : ShelfSeen) (before headed stopped after : OutletsAt) (why : Stop) → HasHeader asked before headed → Leaves stopped after
    → StopsFilter script (writer_of asked.file script.endpoints) asked.captures.items shelf shelf' headed stopped why → StopsPassing script asked shelf shelf' before after why
stops-after script asked shelf shelf' before headed stopped after stop.Unread h l is = (headed, stopped, h.ends, l.ends, h.header, is)
stops-after script asked shelf shelf' before headed stopped after (stop.Capture number wrong) h l is = (headed, stopped, h.ends, l.ends, h.header, is)
stops-after script asked shelf shelf' before headed stopped after stop.Absent h l is = (headed, stopped, h.ends, l.ends, h.header, is)
stops-after script asked shelf shelf' before headed stopped after (stop.Endpoint number) h l is = (headed, stopped, h.ends, l.ends, h.header, is)
stops-after script asked shelf shelf' before headed stopped after (stop.NoFrame number) h l is = (headed, stopped, h.ends, l.ends, h.header, is)
stops-after script asked shelf shelf' before headed stopped after stop.WriteFault h l (inl (same, still, (one, lines))) = absurd (never (lines_in script.segments) lines.place lines.there lines.stops)
stops-after script asked shelf shelf' before headed stopped after stop.WriteFault h l (inr (suited, rose)) =
    let le = l.faults in let still = h.header.still in omega (arith, rose, le, still)
stops-after script asked shelf shelf' before headed stopped after stop.NoMemory h l is = (headed, stopped, h.ends, l.ends, h.header, is)
stops-after script asked shelf shelf' before headed stopped after stop.Retires h l is = (headed, stopped, h.ends, l.ends, h.header, is)
stops-after script asked shelf shelf' before headed stopped after stop.Segments h l is = (headed, stopped, h.ends, l.ends, h.header, is)
stops-after script asked shelf shelf' before headed stopped after (stop.Lane number) h l is = (headed, stopped, h.ends, l.ends, h.header, is)
stops-after script asked shelf shelf' before headed stopped after (stop.InTheWay number) h l is = (headed, stopped, h.ends, l.ends, h.header, is)
stops-after script asked shelf shelf' before headed stopped after stop.NoRecords h l is = (headed, stopped, h.ends, l.ends, h.header, is)
