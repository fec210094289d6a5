-- The sends of a segment, and what making them comes to.
use Rattle.std.specs.Prelude.{◌≡◌, ◌<◌, ℕ, List, ◌++◌, Result, Ok, Err, slice_index_or}
use Rattle.std.specs.List.{flat_map}
use Rattle.spin_proto.specs.declared.reply.Reply.{Reply}
use Rattle.spin_endpoint.specs.declared.ends.TheConstants.{MAX_ENDPOINTS}
use Rattle.spin_endpoint.specs.Named.{NamedEnd}
use Rattle.spin_endpoint.specs.Sends.{SentSeen, StopsAt, all_received, lost_to, name_of}
use Rattle.spin_report.specs.declared.entry.Entry.{Entry}
use Rattle.spin_report.specs.Runs.{sends_of_reply, sends_of}
use Rattle.spin_run.specs.declared.end.RunEnd.{RunEnd}
use Rattle.spin_run.specs.declared.end.RunEnd.TheVariants as end
use Rattle.spin_run.specs.Ends.{faults_of, EndRose}

-- those of the entries in their order, and then those of the replies to the jobs in theirs
abbrev pub sends_made : List Entry → List Reply → List SentSeen
sends_made entries replies =
    flat_map (λ entry. sends_of entry.what) entries ++ flat_map sends_of_reply replies

-- All were delivered or lost, and the lost ones are counted by number; or one failed; or there was no memory to make
-- any.
abbrev pub SendsAll : List (List ℕ) → List SentSeen → Result (List ℕ) RunEnd
    → List NamedEnd → List NamedEnd → Type 0
SendsAll names sends (Ok lost) before after =
    (after ≡ all_received names sends before)
    × ((number : ℕ) → number < MAX_ENDPOINTS
    → slice_index_or lost number 0 ≡ lost_to names before sends number)
SendsAll names sends (Err end.NoMemory) before after = after ≡ before
SendsAll names sends (Err (end.Endpoint number)) before after =
    StopsAt names sends number before after
SendsAll names sends (Err other) before after = ⊥

-- The endpoint of the number failed, and its count rose; or no endpoint's did.
abbrev pub SendsByCount : {T : Type 0} → List (List ℕ) → List NamedEnd → List NamedEnd
    → Result T RunEnd → Type 0
SendsByCount names before after (Ok sent) = faults_of after ≡ faults_of before
SendsByCount names before after (Err (end.Endpoint number)) =
    EndRose (name_of names number) before after
SendsByCount names before after (Err other) = faults_of after ≡ faults_of before
