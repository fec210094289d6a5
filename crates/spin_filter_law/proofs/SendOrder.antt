-- What a filter sends, and where that goes, record after record.
use Rattle.std.proofs.Common.{◌≡◌, ℕ, Bool, true, false, cond, not, List, [], ◌∷◌, ◌++◌, map, filter, Option, Some, None, refl, sym, ap, ◌∙◌}
use Rattle.std.specs.Prelude.{◌||◌, bytes_eq, IfSome}
use Rattle.std.specs.List.{flat_map, filter_map, cons_option}
use Rattle.std.proofs.lemmas.Bool.{eqb-true}
use Rattle.std.proofs.lemmas.List.{map-append}
use Rattle.std.proofs.lemmas.List.Elements.{filter_map-append}
use Rattle.spin_proto.specs.declared.reply.Step.{Step}
use Rattle.spin_proto.specs.declared.reply.Step.TheVariants as step
use Rattle.spin_proto.specs.declared.reply.Reply.{Reply}
use Rattle.spin_proto.specs.declared.reply.Reply.TheVariants as reply
use Rattle.spin_proto.specs.Parts.{trace_in}
use Rattle.spin_endpoint.specs.Endpoints.{EndpointSeen, gained}
use Rattle.spin_endpoint.specs.Named.{NamedEnd, stands_as, stands}
use Rattle.spin_endpoint.specs.Sends.{SentSeen, name_of, pieces_for, received, all_received}
use Rattle.spin_report.specs.Runs as runs
use Rattle.spin_filter.specs.Counting.{Marked, Sending, sent_by, sends_in, later_steps, job_steps, steps_of_jobs, happened_at}
use Rattle.spin_filter.specs.Histories.{happened_in}
use Rattle.spin_filter.specs.Passing.{TakenSeen, Passed}
use Rattle.spin_filter.specs.Sending.{is_writer, AreSent}

-- ---- a capture that is written under a name that doesn't stand

abbrev end_with : List ℕ → Bool → EndpointSeen → NamedEnd
end_with name up object = record { name = name; stands = up; object = object }

abbrev goes : Option ℕ → SentSeen → Bool
goes capture s = not (is_writer capture s.endpoint)

abbrev is_for : List (List ℕ) → List ℕ → SentSeen → Bool
is_for names name s = bytes_eq name (name_of names s.endpoint)

pieces_kept : (names : List (List ℕ)) (capture : Option ℕ) (sends : List SentSeen) (name : List ℕ)
    → ((s : SentSeen) → is_writer capture s.endpoint ≡ true → is_for names name s ≡ false)
    → pieces_for names (filter (goes capture) sends) name ≡ pieces_for names sends name
pieces_kept names capture [] name other = refl
pieces_kept names capture (s ∷ sends) name other = go (is_writer capture s.endpoint) refl (pieces_kept names capture sends name other) where
  pieces : Bool → List SentSeen → List (List ℕ)
  pieces t xs = map (λ (x : SentSeen). x.bytes) (cond t (s ∷ filter (is_for names name) xs) (filter (is_for names name) xs))

  front : (t : Bool) → pieces_for names (filter (goes capture) sends) name ≡ pieces_for names sends name → pieces t (filter (goes capture) sends) ≡ pieces t sends
  front true same = ap (λ rest. s.bytes ∷ rest) same
  front false same = same

  go : (b : Bool) → is_writer capture s.endpoint ≡ b → pieces_for names (filter (goes capture) sends) name ≡ pieces_for names sends name
      → pieces_for names (cond (not b) (s ∷ filter (goes capture) sends) (filter (goes capture) sends)) name ≡ pieces_for names (s ∷ sends) name
  go true writes same = same ∙ sym (ap (λ t. pieces t sends) (other s writes))
  go false writes same = front (is_for names name s) same

received_kept : (names : List (List ℕ)) (capture : Option ℕ) (sends : List SentSeen) (name : List ℕ) (up : Bool) (object : EndpointSeen)
    → ((s : SentSeen) → is_writer capture s.endpoint ≡ true → stands_as (name_of names s.endpoint) (end_with name up object) ≡ false)
    → received names (filter (goes capture) sends) (end_with name up object) ≡ received names sends (end_with name up object)
received_kept names capture sends name true object other = ap (λ pieces. end_with name true (gained pieces object)) (pieces_kept names capture sends name other)
received_kept names capture sends name false object other = refl

neither : (a b : Bool) → (a || b) ≡ false → (a ≡ false) × (b ≡ false)
neither true b e = absurd (cc (e))
neither false b e = (refl, e)

all_kept : (names : List (List ℕ)) (capture : Option ℕ) (sends : List SentSeen) (ends : List NamedEnd)
    → ((s : SentSeen) → is_writer capture s.endpoint ≡ true → stands (name_of names s.endpoint) ends ≡ false)
    → all_received names (filter (goes capture) sends) ends ≡ all_received names sends ends
all_kept names capture sends [] none = refl
all_kept names capture sends (end ∷ ends) none =
    let parts : (s : SentSeen) → is_writer capture s.endpoint ≡ true → (stands_as (name_of names s.endpoint) end ≡ false) × (stands (name_of names s.endpoint) ends ≡ false) =
    λ s writes. neither (stands_as (name_of names s.endpoint) end) (stands (name_of names s.endpoint) ends) (none s writes) in
    let first = received_kept names capture sends end.name end.stands end.object (λ s writes. (parts s writes).0) in
    let rest = all_kept names capture sends ends (λ s writes. (parts s writes).1) in
    λ i. first i ∷ rest i

none_stands : (names : List (List ℕ)) (capture : Option ℕ) (ends : List NamedEnd) → IfSome capture (λ number. stands (name_of names number) ends ≡ false)
    → (s : SentSeen) → is_writer capture s.endpoint ≡ true → stands (name_of names s.endpoint) ends ≡ false
none_stands names None ends none s writes = absurd (cc (writes))
none_stands names (Some number) ends none s writes = ap (λ n. stands (name_of names n) ends) (eqb-true s.endpoint number writes) ∙ none

-- ---- what a record sends

same_sent : (s : Step) → sent_by s ≡ runs.sent_by s
same_sent (step.Run event number) = refl
same_sent (step.Result value) = refl
same_sent (step.Send endpoint bytes) = refl
same_sent (step.Up event) = refl
same_sent (step.Back answer) = refl
same_sent (step.Dropped fault) = refl
same_sent (step.Job event number) = refl

steps_sent : (steps : List Step) → sends_in (later_steps steps) ≡ filter_map runs.sent_by steps
steps_sent [] = refl
steps_sent (s ∷ steps) =
    let one = same_sent s in
    let rest = steps_sent steps in
    λ i. cons_option (one i) (rest i)

job_sent : (steps : List Step) → sends_in (job_steps steps) ≡ filter_map runs.sent_by steps
job_sent [] = refl
job_sent (s ∷ steps) =
    let one = same_sent s in
    let rest = steps_sent steps in
    λ i. cons_option (one i) (rest i)

reply_sent : (r : Reply) → filter_map runs.sent_by (trace_in r) ≡ runs.sends_of_reply r
reply_sent (reply.Ran answer trace jobs) = refl
reply_sent (reply.Queued call) = refl
reply_sent reply.UnknownEvent = refl
reply_sent reply.WrongArgs = refl
reply_sent reply.Spent = refl

jobs_sent : (replies : List Reply) → sends_in (steps_of_jobs replies) ≡ flat_map runs.sends_of_reply replies
jobs_sent [] = refl
jobs_sent (r ∷ replies) =
    let one = job_sent (trace_in r) ∙ reply_sent r in
    let rest = jobs_sent replies in
    filter_map-append (λ (m : Marked). sent_by m.taken) (job_steps (trace_in r)) (steps_of_jobs replies) ∙ (λ i. one i ++ rest i)

-- the sends of a record: of its raise, and then of its jobs
abbrev pub record_sends : Passed → List SentSeen
record_sends p = runs.sends_of_reply p.reply ++ flat_map runs.sends_of_reply p.jobs

untagged : (taken : TakenSeen) (sends : List SentSeen) → map (λ (s : Sending). s.sent) (map (λ (s : SentSeen). record { taken = taken; sent = s }) sends) ≡ sends
untagged taken [] = refl
untagged taken (s ∷ sends) = ap (λ rest. s ∷ rest) (untagged taken sends)

passed_sent : (p : Passed) → map (λ (s : Sending). s.sent) (happened_at p).sends ≡ record_sends p
passed_sent p =
    let one = steps_sent (trace_in p.reply) ∙ reply_sent p.reply in
    let rest = jobs_sent p.jobs in
    untagged p.taken (sends_in (later_steps (trace_in p.reply) ++ steps_of_jobs p.jobs))
    ∙ filter_map-append (λ (m : Marked). sent_by m.taken) (later_steps (trace_in p.reply)) (steps_of_jobs p.jobs)
    ∙ (λ i. one i ++ rest i)

all_sent : (passed : List Passed) → map (λ (s : Sending). s.sent) (happened_in passed).sends ≡ flat_map record_sends passed
all_sent [] = refl
all_sent (p ∷ passed) =
    let one = passed_sent p in
    let rest = all_sent passed in
    map-append (λ (s : Sending). s.sent) (happened_at p).sends (happened_in passed).sends ∙ (λ i. one i ++ rest i)

-- the endpoints gain the sends of all records
pub ends_after : (names : List (List ℕ)) (capture : Option ℕ) (passed : List Passed) (ends ends' : List NamedEnd) (told told' : Option (List ℕ))
    → IfSome capture (λ number. stands (name_of names number) ends ≡ false) → AreSent names capture (happened_in passed).sends ends ends' told told'
    → ends' ≡ all_received names (flat_map record_sends passed) ends
ends_after names capture passed ends ends' told told' none sent =
    sent.ends_are ∙ all_kept names capture (map (λ (s : Sending). s.sent) (happened_in passed).sends) ends (none_stands names capture ends none)
    ∙ ap (λ sends. all_received names sends ends) (all_sent passed)
