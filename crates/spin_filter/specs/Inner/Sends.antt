-- One send: to the capture that is written, or to an endpoint.
use Rattle.std.specs.Prelude.{◌≡◌, ◌⊎◌, ℕ, true, List, [], ◌∷◌, map, filter, Option}
use Rattle.std.specs.Io.KnownBytes.{Appends}
use Rattle.spin_outside.specs.Counts.{Rose}
use Rattle.spin_outside.specs.Seen.{SinkSeen}
use Rattle.spin_endpoint.specs.Named.{NamedEnd, FailsAt, stands}
use Rattle.spin_endpoint.specs.Sends.{SentSeen, name_of, all_received, is_lost}
use Rattle.spin_frames.specs.Written.{written_record}
use Rattle.spin_filter.specs.declared.counts.Counts.{Counts}
use Rattle.spin_filter.specs.declared.stop.Stop.{Stop}
use Rattle.spin_filter.specs.declared.stop.Stop.TheVariants as stop
use Rattle.spin_filter.specs.Counting.{BindingAt, Sending, Happened, AreCounts, with_losts}
use Rattle.spin_filter.specs.Passing.{TakenSeen}
use Rattle.spin_filter.specs.Sending.{OutletsAt, AreSent, lost_of}

-- the record is written for a send of these bytes, which are its frame, or none
pub record IsPut (taken : TakenSeen) (bytes : List ℕ) (sink sink' : SinkSeen) : Type 0 where
  pub frame : (bytes ≡ taken.packet.frame) ⊎ (bytes ≡ [])
  pub written : Appends sink.told sink'.told (written_record taken.head taken.packet)
  pub still : sink'.faults ≡ sink.faults

-- the send is refused: nothing was written, and its bytes are neither the frame nor none
pub record IsRefused (s : Sending) (number : ℕ) (sink sink' : SinkSeen) : Type 0 where
  pub endpoint : s.sent.endpoint ≡ number
  pub still : sink' ≡ sink
  pub other : (s.sent.bytes ≡ s.taken.packet.frame) ⊎ (s.sent.bytes ≡ []) → ⊥

-- why it isn't written
abbrev pub StopsPut : Sending → SinkSeen → SinkSeen → Stop → Type 0
StopsPut s sink sink' (stop.NoFrame number) = IsRefused s number sink sink'
StopsPut s sink sink' stop.WriteFault = Rose sink.faults sink'.faults
StopsPut s sink sink' other = ⊥

-- the send is of this kind, at the record
abbrev pub IsOf : TakenSeen → (Sending → Type 0) → Sending → Type 0
IsOf taken Kind send = (send.taken ≡ taken) × Kind send

-- the send is handed to the endpoint under its name, or counted as lost
pub record IsHanded (names : List (List ℕ)) (sent : SentSeen) (ends ends' : List NamedEnd) (counts counts' : Counts)
    : Type 0 where
  pub ends_are : ends' ≡ all_received names (sent ∷ []) ends
  pub counted : (listed : List BindingAt) (h : Happened) → AreCounts listed h counts
      → AreCounts listed (with_losts (map (λ s. s.endpoint) (filter (is_lost names ends) (sent ∷ []))) h) counts'

-- why it isn't handed
abbrev pub StopsHanding : List (List ℕ) → ℕ → List NamedEnd → List NamedEnd → Stop → Type 0
StopsHanding names endpoint ends ends' (stop.Endpoint number) =
    (number ≡ endpoint) × (stands (name_of names endpoint) ends ≡ true) × FailsAt (name_of names endpoint) ends ends'
StopsHanding names endpoint ends ends' other = ⊥

-- a send was made, and counted where it is lost
pub record IsMade (names : List (List ℕ)) (capture : Option ℕ) (s : Sending) (before after : OutletsAt) : Type 0 where
  pub sent : AreSent names capture (s ∷ []) before.ends after.ends before.sink.told after.sink.told
  pub still : after.sink.faults ≡ before.sink.faults
  pub counted : (listed : List BindingAt) (h : Happened) → AreCounts listed h before.counts
      → AreCounts listed (with_losts (lost_of names capture before.ends (s ∷ [])) h) after.counts
