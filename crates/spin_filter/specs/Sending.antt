-- Where sends go: to an endpoint, to the capture that is written, or nowhere.
use Rattle.std.specs.Prelude.{◌≡◌, ◌⊎◌, ◌==◌, ℕ, Bool, true, false, not, if◌then◌else◌, List, []}
use Rattle.std.specs.Prelude.{map, filter, All, Option, Some, None, ⊤}
use Rattle.std.specs.List.{flat_map}
use Rattle.std.specs.Io.KnownBytes.{Appends}
use Rattle.spin_outside.specs.Counts.{Rose}
use Rattle.spin_outside.specs.Seen.{SinkSeen}
use Rattle.spin_endpoint.specs.Named.{NamedEnd, FailsAt, stands}
use Rattle.spin_endpoint.specs.Sends.{SentSeen, name_of, all_received, is_lost}
use Rattle.spin_frames.specs.Written.{written_record}
use Rattle.spin_filter.specs.declared.counts.Counts.{Counts}
use Rattle.spin_filter.specs.declared.stop.Stop.{Stop}
use Rattle.spin_filter.specs.declared.stop.Stop.TheVariants as stop
use Rattle.spin_filter.specs.Counting.{BindingAt, Sending, Happened, AreCounts, joined}

-- it is the number of the endpoint that writes a capture
abbrev pub is_writer : Option ℕ → ℕ → Bool
is_writer None endpoint = false
is_writer (Some number) endpoint = endpoint == number

-- the sends that go to other endpoints
abbrev pub handed : Option ℕ → List Sending → List SentSeen
handed capture sends = filter (λ s. not (is_writer capture s.endpoint)) (map (λ s. s.sent) sends)

-- the numbers of the sends that are lost, since no endpoint stands under their names
abbrev pub lost_of : List (List ℕ) → Option ℕ → List NamedEnd → List Sending → List ℕ
lost_of names capture ends sends = map (λ s. s.endpoint) (filter (is_lost names ends) (handed capture sends))

-- of each send that goes to the capture its record
abbrev pub written_by : Option ℕ → List Sending → List ℕ
written_by capture sends = flat_map
    (λ s. if is_writer capture s.sent.endpoint then written_record s.taken.head s.taken.packet else []) sends

-- A send to the capture is its record's whole frame, or no bytes, which stand for it.
abbrev pub IsFrame : Option ℕ → Sending → Type 0
IsFrame capture s =
    is_writer capture s.sent.endpoint ≡ true → (s.sent.bytes ≡ s.taken.packet.frame) ⊎ (s.sent.bytes ≡ [])

-- These sends are made in order: each endpoint that stands has gained those to its name, the capture has gained the
-- record of each that goes to it, and each of these is its record's frame.
pub record AreSent (names : List (List ℕ)) (capture : Option ℕ) (sends : List Sending) (ends ends' : List NamedEnd)
    (told told' : Option (List ℕ)) : Type 0 where
  pub ends_are : ends' ≡ all_received names (handed capture sends) ends
  pub written : Appends told told' (written_by capture sends)
  pub frames : All (IsFrame capture) sends

-- where sends go, and what counts them: the endpoints, the sink of the capture that is written, and the counts
pub record OutletsAt : Type 0 where
  pub ends : List NamedEnd
  pub sink : SinkSeen
  pub counts : Counts

abbrev pub outlets_at : List NamedEnd → SinkSeen → Counts → OutletsAt
outlets_at ends sink counts = record { ends = ends; sink = sink; counts = counts }

-- what happened, with those of its sends that are lost
abbrev pub with_lost_of : List (List ℕ) → Option ℕ → List NamedEnd → Happened → Happened
with_lost_of names capture ends more = record more { lost = lost_of names capture ends more.sends }

-- This happened: its sends were made, and it was counted.
pub record IsDone (names : List (List ℕ)) (capture : Option ℕ) (more : Happened) (before after : OutletsAt)
    : Type 0 where
  pub sent : AreSent names capture more.sends before.ends after.ends before.sink.told after.sink.told
  pub still : after.sink.faults ≡ before.sink.faults
  pub counted : (listed : List BindingAt) (h : Happened) → AreCounts listed h before.counts
      → AreCounts listed (joined h (with_lost_of names capture before.ends more)) after.counts

-- The endpoint under the name of the number failed, behind some sends: its count of faults rose.
pub record EndFails (names : List (List ℕ)) (number : ℕ) (before after : List NamedEnd) : Type 0 where
  pub sends : List SentSeen
  pub standing : stands (name_of names number) before ≡ true
  pub fails : FailsAt (name_of names number) (all_received names sends before) after

-- A send of this kind to the endpoint of the number is refused, behind some sends that were made: that endpoint writes the
-- capture, and the send is neither its record's whole frame nor no bytes.
pub record IsNoFrame (names : List (List ℕ)) (capture : Option ℕ) (Kind : Sending → Type 0) (number : ℕ)
    (before after : OutletsAt) : Type 0 where
  pub sends : List Sending
  pub sent : AreSent names capture sends before.ends after.ends before.sink.told after.sink.told
  pub still : after.sink.faults ≡ before.sink.faults
  pub refused : Sending
  pub kind : Kind refused
  pub endpoint : refused.sent.endpoint ≡ number
  pub no_frame : IsFrame capture refused → ⊥

-- Why a send of this kind isn't made. Want of memory comes from what the send is a part of.
abbrev pub StopsSending : List (List ℕ) → Option ℕ → (Sending → Type 0) → OutletsAt → OutletsAt → Stop → Type 0
StopsSending names capture Kind before after (stop.Endpoint number) = EndFails names number before.ends after.ends
StopsSending names capture Kind before after (stop.NoFrame number) = IsNoFrame names capture Kind number before after
StopsSending names capture Kind before after stop.WriteFault = Rose before.sink.faults after.sink.faults
StopsSending names capture Kind before after stop.NoMemory = ⊤
StopsSending names capture Kind before after other = ⊥
