-- What is counted of records.
use Rattle.std.specs.Prelude.{◌≡◌, ◌<◌, ◌==◌, ◌&&◌, ◌||◌, ◌+◌, ◌-◌, ◌^◌, ℕ, Bool, true, false, not, min, List, [], ◌∷◌, ◌++◌}
use Rattle.std.specs.Prelude.{map, length, All, count_by, slice_index_or, Option, Some, None}
use Rattle.std.specs.List.{flat_map, filter_map}
use Rattle.spin_headers.specs.Headers.{number_of_fault}
use Rattle.spin_raise.specs.declared.answer.Answer.{Answer}
use Rattle.spin_raise.specs.declared.answer.Answer.TheVariants as answer
use Rattle.spin_proto.specs.declared.reply.Step.{Step}
use Rattle.spin_proto.specs.declared.reply.Step.TheVariants as step
use Rattle.spin_proto.specs.declared.reply.Reply.{Reply}
use Rattle.spin_proto.specs.declared.reply.Reply.TheVariants as reply
use Rattle.spin_proto.specs.Parts.{trace_in}
use Rattle.spin_filter.specs.declared.hits.Hit.{Hit}
use Rattle.spin_filter.specs.declared.counts.Counts.{Counts}
use Rattle.spin_endpoint.specs.Sends.{SentSeen}
use Rattle.spin_filter.specs.Passing.{TakenSeen, Passed}

-- a count stands still at the greatest number of 64 bits
abbrev pub capped : ℕ → ℕ
capped n = min n (2 ^ 64 - 1)

-- Each number that is counted has come up so often.
abbrev pub Tells : List ℕ → List ℕ → Type 0
Tells numbers tally =
    (i : ℕ) → i < length tally → slice_index_or tally i 0 ≡ capped (count_by (λ n. n == i) numbers)

-- ---- steps

-- a step, and whether it is the first of a job: that one runs the handler whose guards were asked before
pub record Marked : Type 0 where
  pub first : Bool
  pub taken : Step

-- the steps of a raise, and those of a job
abbrev pub later_steps : List Step → List Marked
later_steps steps = map (λ s. record { first = false; taken = s }) steps

abbrev pub job_steps : List Step → List Marked
job_steps [] = []
job_steps (s ∷ steps) = record { first = true; taken = s } ∷ later_steps steps

-- the handler of that binding runs, 0 being the event's default
abbrev pub is_run_of : ℕ → ℕ → Step → Bool
is_run_of event number (step.Run e n) = (e == event) && (n == number)
is_run_of event number other = false

-- the binding is left to a job
abbrev pub is_left_of : ℕ → ℕ → Step → Bool
is_left_of event number (step.Job e n) = (e == event) && (n == number)
is_left_of event number other = false

-- a handler runs
abbrev pub is_run : Step → Bool
is_run (step.Run event number) = true
is_run other = false

-- the number of the fault for which a packet is dropped, if one is
abbrev pub dropped_by : Step → Option ℕ
dropped_by (step.Dropped fault) = Some (number_of_fault fault)
dropped_by other = None

-- the number of the endpoint to which it sends, if it does
abbrev pub sent_to : Step → Option ℕ
sent_to (step.Send endpoint bytes) = Some endpoint
sent_to other = None

-- how often the binding's handler ran in these steps, and how often its guards let it run, now or as a job
abbrev pub runs_in : ℕ → ℕ → List Marked → ℕ
runs_in event number steps = count_by (λ m. is_run_of event number m.taken) steps

abbrev pub lets_in : ℕ → ℕ → List Marked → ℕ
lets_in event number steps =
    count_by (λ m. (not m.first && is_run_of event number m.taken) || is_left_of event number m.taken) steps

-- a binding: its event, and its number, 0 being the event's default
pub record BindingAt : Type 0 where
  pub event : ℕ
  pub number : ℕ

-- the binding of which a hit tells
abbrev pub binding_of : Hit → BindingAt
binding_of hit = record { event = hit.event; number = hit.number }

-- The hit tells these of its binding.
pub record IsHit (steps : List Marked) (hit : Hit) : Type 0 where
  pub runs : hit.runs ≡ capped (runs_in hit.event hit.number steps)
  pub lets : hit.lets ≡ capped (lets_in hit.event hit.number steps)

-- ---- records

-- the number of an outcome of a raise
abbrev pub answered : Answer → ℕ
answered (answer.Value n) = 0
answered answer.Done = 1
answered (answer.Default n) = 2
answered answer.NoHandler = 3

abbrev pub outcome_of : Reply → ℕ
outcome_of (reply.Ran a trace jobs) = answered a
outcome_of (reply.Queued call) = 7
outcome_of reply.UnknownEvent = 4
outcome_of reply.WrongArgs = 5
outcome_of reply.Spent = 6

-- what a step sent, and at which record of which capture
pub record Sending : Type 0 where
  pub taken : TakenSeen
  pub sent : SentSeen

-- what a step sends, if it sends something
abbrev pub sent_by : Step → Option SentSeen
sent_by (step.Send endpoint bytes) = Some (record { endpoint = endpoint; bytes = bytes })
sent_by other = None

-- what the steps send, in order
abbrev pub sends_in : List Marked → List SentSeen
sends_in steps = filter_map (λ m. sent_by m.taken) steps

-- the same as the sends of a record
abbrev pub sendings : TakenSeen → List Marked → List Sending
sendings taken steps = map (λ s. record { taken = taken; sent = s }) (sends_in steps)

-- what happened: the outcomes of raises, the steps of these and of jobs, how many jobs were done, the sends of the steps,
-- and the numbers of the endpoints to which sends were lost
pub record Happened : Type 0 where
  pub outcomes : List ℕ
  pub steps : List Marked
  pub jobs : ℕ
  pub sends : List Sending
  pub lost : List ℕ

-- nothing yet
abbrev pub nothing : Happened
nothing = record { outcomes = []; steps = []; jobs = 0; sends = []; lost = [] }

-- one thing more
abbrev pub with_outcome : ℕ → Happened → Happened
with_outcome outcome h = record h { outcomes = h.outcomes ++ outcome ∷ [] }

abbrev pub with_step : Marked → Happened → Happened
with_step m h = record h { steps = h.steps ++ m ∷ [] }

abbrev pub with_job : Happened → Happened
with_job h = record h { jobs = h.jobs + 1 }

abbrev pub with_losts : List ℕ → Happened → Happened
with_losts endpoints h = record h { lost = h.lost ++ endpoints }

-- just these
abbrev pub just_outcome : ℕ → Happened
just_outcome outcome = record { outcomes = outcome ∷ []; steps = []; jobs = 0; sends = []; lost = [] }

abbrev pub just_steps : TakenSeen → List Marked → Happened
just_steps taken steps =
    record { outcomes = []; steps = steps; jobs = 0; sends = sendings taken steps; lost = [] }

abbrev pub just_job : Happened
just_job = record { outcomes = []; steps = []; jobs = 1; sends = []; lost = [] }

-- one behind the other
abbrev pub joined : Happened → Happened → Happened
joined a b = record {
  outcomes = a.outcomes ++ b.outcomes;
  steps = a.steps ++ b.steps;
  jobs = a.jobs + b.jobs;
  sends = a.sends ++ b.sends;
  lost = a.lost ++ b.lost;
}

-- The counts are those of what happened, and of each binding that is listed.
pub record AreCounts (listed : List BindingAt) (h : Happened) (c : Counts) : Type 0 where
  pub records : c.records ≡ capped (length h.outcomes)
  pub outcomes : Tells h.outcomes c.outcomes
  pub jobs : c.jobs ≡ capped h.jobs
  pub runs : c.runs ≡ capped (count_by (λ m. is_run m.taken) h.steps)
  pub drops : Tells (filter_map (λ m. dropped_by m.taken) h.steps) c.drops
  pub sends : Tells (filter_map (λ m. sent_to m.taken) h.steps) c.sends
  pub lost : Tells h.lost c.lost
  pub hits : All (IsHit h.steps) c.hits.items
  pub listed_are : map binding_of c.hits.items ≡ listed

-- the steps of jobs with these replies
abbrev pub steps_of_jobs : List Reply → List Marked
steps_of_jobs replies = flat_map (λ r. job_steps (trace_in r)) replies

-- what happened as jobs with these replies were done
abbrev pub happened_in_jobs : TakenSeen → List Reply → Happened
happened_in_jobs taken replies = record {
  outcomes = [];
  steps = steps_of_jobs replies;
  jobs = length replies;
  sends = sendings taken (steps_of_jobs replies);
  lost = [];
}

-- what happened as a record was passed
abbrev pub happened_at : Passed → Happened
happened_at passed = record {
  outcomes = outcome_of passed.reply ∷ [];
  steps = later_steps (trace_in passed.reply) ++ steps_of_jobs passed.jobs;
  jobs = length passed.jobs;
  sends = sendings passed.taken (later_steps (trace_in passed.reply) ++ steps_of_jobs passed.jobs);
  lost = [];
}
