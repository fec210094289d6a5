-- Legal entries and their jobs are so for the setup without where its boxes lie, too.
use Rattle.std.proofs.Common.{◌≡◌, ◌∙◌, ◌+◌, ℕ, Bool, true, false, not, ◌&&◌, ◌||◌, List, [], ◌∷◌, map, refl, sym, ap, subst}
use Rattle.std.specs.Prelude.{◌==◌, if◌then◌else◌, nat_lt, nat_le, slice_get, Option, Some, None, MatchOption}
use Rattle.std.specs.Option.{option_map, option_map_or}
use Rattle.std.proofs.lemmas.Option.{slice_get-map}
use Rattle.std.proofs.lemmas.List.{length-map}
use Rattle.spin_values.specs.First.{first_of, numbered}
use Rattle.spin_objects.proofs.NumberedItems.{numbered-map}
use Rattle.spin_values.specs.declared.types.EventType.{EventType}
use Rattle.spin_code.specs.declared.act.Act.{Act}
use Rattle.spin_code.specs.declared.act.ActStep.{ActStep}
use Rattle.spin_code.specs.declared.act.ActStep.TheVariants as step
use Rattle.spin_word.specs.Commands.{guard_is_used, handler_is_used}
use Rattle.spin_word.specs.declared.command.Mode.{Mode}
use Rattle.spin_word.specs.declared.command.Command.{Command}
use Rattle.spin_word.specs.declared.work.Deed.{Deed}
use Rattle.spin_word.specs.declared.work.Deed.TheVariants as deed
use Rattle.spin_policy.specs.Verdicts.{is_install}
use Rattle.spin_policy.specs.Imposed.{forces_apart}
use Rattle.spin_place.specs.declared.binding.Binding.{Binding}
use Rattle.spin_objects.specs.Units.{HandlerUnit, GuardUnit}
use Rattle.spin_table.specs.declared.event.EventDef.{EventDef}
use Rattle.spin_table.specs.declared.refusal.Refusal.{Refusal}
use Rattle.spin_table.specs.declared.refusal.Refusal.TheVariants as refusal
use Rattle.spin_table.specs.declared.refusal.Verdicted.{Verdicted}
use Rattle.spin_table.specs.declared.refusal.Verdicted.TheVariants as verdicted
use Rattle.spin_table.specs.Setups.{SetupData, rules_of, tests_in}
use Rattle.spin_table.specs.States.{State, EventState, binding_of, first_state, start_of}
use Rattle.spin_table.specs.Verdicts.{answer_to, named_rule}
use Rattle.spin_table.specs.Units.{same_signature, same_parameter_kinds, step_raises_down, raises_down, is_set, sets_argument, is_filter, has_wrong_mode}
use Rattle.spin_table.specs.Refusals.{refusal_of, refusal_on, refusals_at, lacks_binding, is_denied_by, is_full, of_handler, of_guard, mode_of}
use Rattle.spin_table.specs.Steps.{state_after, events_after, bindings_at, IsOrderly, IsConflict, ChangesTo, IsStep}
use Rattle.spin_raise.specs.declared.bound.Runner.TheVariants as runner
use Rattle.spin_raise.specs.Firing.{Units, Bound}
use Rattle.spin_proto.specs.declared.deed.JobCall.{JobCall}
use Rattle.spin_proto.specs.declared.deed.JobCall.TheVariants as call
use Rattle.spin_proto.specs.Whole.{Raised, raised, raised_after, reply_of, job_of}
use Rattle.spin_proto.specs.Replies.{reply_if_fit, deed_reply, job_reply, handler_at, types_in, units_in, AreBounds, IsDeedReply, IsJobReply}
use Rattle.spin_proto.specs.declared.reply.Reply.{Reply}
use Rattle.spin_proto.specs.declared.reply.TheConstants.{MAX_RUNS}
use Rattle.spin_grammar.specs.Bare.{bare_test, bare_step}
use Rattle.spin_grammar.proofs.BareValues.{any_alike}
use Rattle.spin_script.specs.Laws.{bare_event, bare_handler, bare_guard, bare_setup}
use Rattle.spin_script.proofs.BareScripts.{some_same}
use Rattle.spin_report.specs.declared.entry.What.{What}
use Rattle.spin_report.specs.declared.entry.What.TheVariants as what
use Rattle.spin_report.specs.declared.entry.Entry.{Entry}
use Rattle.spin_report.specs.Lines.{JobSeen}
use Rattle.spin_report.specs.Legal.{Answers, IsLegal}
use Rattle.spin_report.specs.Jobs.{answer_calls, AreJobsFrom, AreJobs}
use Rattle.spin_report.proofs.BareRaises.{bare_units, bare_bound, raised_same, raised_after_same, job_of_same}

mapped : {A B C : Type 0} (f : A → B) (g : A → A) (h : A → C) (k : C → B) → ((x : A) → f (g x) ≡ k (h x)) → (xs : List A) → map f (map g xs) ≡ map k (map h xs)
mapped f g h k same [] = refl
mapped f g h k same (x ∷ xs) = λ i. same x i ∷ mapped f g h k same xs i

mapped_same : {A B : Type 0} (f : A → B) (g : A → A) → ((x : A) → f (g x) ≡ f x) → (xs : List A) → map f (map g xs) ≡ map f xs
mapped_same f g same [] = refl
mapped_same f g same (x ∷ xs) = λ i. same x i ∷ mapped_same f g same xs i

tests_same : (d : SetupData) → tests_in (bare_setup d) ≡ map bare_test (tests_in d)
tests_same d = mapped (λ (g : GuardUnit). g.test) bare_guard (λ (g : GuardUnit). g.test) bare_test (λ g. refl) d.guards

-- the state at the start doesn't say where boxes lie
pub bare_start : (d : SetupData) → start_of d ≡ start_of (bare_setup d)
bare_start d = ap (λ (ts : List EventState). record { place = 0; events = ts }) (sym (mapped_same first_state bare_event (λ e. refl) d.events))

-- ---- replies

units_same : (d : SetupData) → units_in (bare_setup d) ≡ bare_units (units_in d)
units_same d =
    let acts = mapped (λ (h : HandlerUnit). h.act) bare_handler (λ (h : HandlerUnit). h.act) (λ (a : Act). record { steps = map bare_step a.steps }) (λ h. refl) d.handlers in
    let tests = tests_same d in
    λ i. record { acts = acts i; tests = tests i }

types_same : (d : SetupData) → types_in (bare_setup d) ≡ types_in d
types_same d = mapped_same (λ (e : EventDef). e.sig) bare_event (λ e. refl) d.events

reply_same : (u : Units) (bounds : List Bound) (types : List EventType) (asked : Deed) → deed_reply (bare_units u) (map bare_bound bounds) types asked ≡ deed_reply u bounds types asked
reply_same u bounds types (deed.Raise event args) =
    ap (λ (r : Raised). reply_if_fit types event args (reply_of MAX_RUNS r)) (raised_same runner.Raiser u bounds 0 event args)
reply_same u bounds types (deed.Later event args) = refl

bounds_same : (es : List EventDef) (ts : List EventState) (bs : List Bound) → AreBounds es ts bs → AreBounds (map bare_event es) ts (map bare_bound bs)
bounds_same [] [] [] h = h
bounds_same [] [] (b ∷ bs) h = absurd h
bounds_same [] (t ∷ ts) bs h = absurd h
bounds_same (e ∷ es) [] bs h = absurd h
bounds_same (e ∷ es) (t ∷ ts) [] h = absurd h
bounds_same (e ∷ es) (t ∷ ts) (b ∷ bs) h = ((h.0.0, h.0.1, ap bare_bound h.0.2), bounds_same es ts bs h.1)

bare_reply : (d : SetupData) (s : State) (asked : Deed) (r : Reply) → IsDeedReply d s asked r → IsDeedReply (bare_setup d) s asked r
bare_reply d s asked r (bounds, are, is) = (
  map bare_bound bounds,
  bounds_same d.events s.events bounds are,
  is
      ∙ sym (reply_same (units_in d) bounds (types_in d) asked)
      ∙ (λ i. deed_reply (sym (units_same d) i) (map bare_bound bounds) (sym (types_same d) i) asked),
)

handler_at_same : (bounds : List Bound) (event number : ℕ) → handler_at (map bare_bound bounds) event number ≡ handler_at bounds event number
handler_at_same bounds event number =
    let its = λ (b : Bound). option_map_or (λ (x : Binding). x.handler) (binding_of b.bindings number) 0 in
    ap (λ (o : Option Bound). option_map_or its o 0) (slice_get-map bare_bound bounds event) ∙ some_same bare_bound its its (λ b. refl) (slice_get bounds event) 0

job_same : (u : Units) (bounds : List Bound) (asked : JobCall) → job_reply (bare_units u) (map bare_bound bounds) asked ≡ job_reply u bounds asked
job_same u bounds (call.Whole event args) = ap (reply_of MAX_RUNS) (raised_same runner.Job u bounds 0 event args)
job_same u bounds (call.Binding event number args) =
    ap (λ (handler : ℕ). reply_of MAX_RUNS (job_of (bare_units u) event number handler (raised_after runner.Job (bare_units u) (map bare_bound bounds) event) args))
    (handler_at_same bounds event number)
    ∙ ap (reply_of MAX_RUNS)
    (job_of_same u event number (handler_at bounds event number) (raised_after runner.Job u bounds event) (raised_after runner.Job (bare_units u) (map bare_bound bounds) event) args
    (raised_after_same runner.Job u bounds event))

bare_job : (d : SetupData) (s : State) (asked : JobCall) (r : Reply) → IsJobReply d s asked r → IsJobReply (bare_setup d) s asked r
bare_job d s asked r (bounds, are, is) = (
  map bare_bound bounds,
  bounds_same d.events s.events bounds are,
  is ∙ sym (job_same (units_in d) bounds asked) ∙ (λ i. job_reply (sym (units_same d) i) (map bare_bound bounds) asked),
)

-- ---- refusals

handler_test_same : (handlers : List HandlerUnit) (c : Command) (p q : HandlerUnit → Bool)
    → ((h : HandlerUnit) → p (bare_handler h) ≡ q h) → of_handler (map bare_handler handlers) c p ≡ of_handler handlers c q
handler_test_same handlers c p q same = go (handler_is_used c.op)
  where
    go : (b : Bool) → option_map_or p (if b then numbered (map bare_handler handlers) c.handler else None) false ≡ option_map_or q (if b then numbered handlers c.handler else None) false
    go true = ap (λ (o : Option HandlerUnit). option_map_or p o false) (numbered-map bare_handler handlers c.handler) ∙ some_same bare_handler p q same (numbered handlers c.handler) false
    go false = refl

guard_test_same : (guards : List GuardUnit) (c : Command) (p q : GuardUnit → Bool) → ((g : GuardUnit) → p (bare_guard g) ≡ q g) → of_guard (map bare_guard guards) c p ≡ of_guard guards c q
guard_test_same guards c p q same =
    let test = ap (λ (o : Option GuardUnit). option_map_or p o false) (numbered-map bare_guard guards c.guard) ∙ some_same bare_guard p q same (numbered guards c.guard) false in
    λ i. guard_is_used c.op && test i

down_step : (event : ℕ) (s : ActStep) → step_raises_down event (bare_step s) ≡ step_raises_down event s
down_step event (step.Set arg e) = refl
down_step event (step.Send endpoint arg from) = refl
down_step event (step.Result e) = refl
down_step event (step.Up raised parts) = refl
down_step event (step.Layer kind raised) = refl

set_step : (s : ActStep) → is_set (bare_step s) ≡ is_set s
set_step (step.Set arg e) = refl
set_step (step.Send endpoint arg from) = refl
set_step (step.Result e) = refl
set_step (step.Up raised parts) = refl
set_step (step.Layer kind raised) = refl

sets_same : (h : HandlerUnit) → sets_argument (bare_handler h).act ≡ sets_argument h.act
sets_same h = any_alike is_set bare_step set_step h.act.steps

wrong_same : (m : Mode) (h : HandlerUnit) → has_wrong_mode m (bare_handler h).act ≡ has_wrong_mode m h.act
wrong_same m h = ap (λ (b : Bool). b && not (is_filter m)) (sets_same h)

first_same : (d : SetupData) (c : Command) (e : EventDef) (bs : List Binding) → first_of (refusals_at (bare_setup d) (bare_event e) bs c) ≡ first_of (refusals_at d e bs c)
first_same d c e bs =
    let handlers = ap (λ (n : ℕ). handler_is_used c.op && ((c.handler == 0) || nat_lt n c.handler)) (length-map d.handlers bare_handler) in
    let guards = ap (λ (n : ℕ). guard_is_used c.op && nat_lt n c.guard) (length-map d.guards bare_guard) in
    let signature = handler_test_same d.handlers c (λ h. not (same_signature h.sig e.sig)) (λ h. not (same_signature h.sig e.sig)) (λ h. refl) in
    let kinds = guard_test_same d.guards c (λ g. not (same_parameter_kinds g.sig e.sig)) (λ g. not (same_parameter_kinds g.sig e.sig)) (λ g. refl) in
    let down = handler_test_same d.handlers c (λ h. raises_down c.event h.act) (λ h. raises_down c.event h.act) (λ h. any_alike (step_raises_down c.event) bare_step (down_step c.event) h.act.steps) in
    let mode = handler_test_same d.handlers c (λ h. has_wrong_mode (mode_of bs c c.op) h.act) (λ h. has_wrong_mode (mode_of bs c c.op) h.act) (wrong_same (mode_of bs c c.op)) in
    let sets = handler_test_same d.handlers c (λ h. sets_argument h.act) (λ h. sets_argument h.act) sets_same in
    λ i. first_of (
    (nat_le d.modules c.requester, refusal.UnknownModule)
    ∷ (handlers i, refusal.UnknownHandler)
    ∷ (guards i, refusal.UnknownGuard)
    ∷ (lacks_binding bs c, refusal.UnknownBinding)
    ∷ (signature i || kinds i, refusal.WrongType)
    ∷ (down i, refusal.Downward)
    ∷ (mode i, refusal.WrongMode)
    ∷ (is_denied_by d.policies e bs c, refusal.Denied (named_rule (answer_to d.policies e bs c)))
    ∷ (is_install c.op && forces_apart (rules_of d.policies e.authority) (answer_to d.policies e bs c) && sets i, refusal.ForcedMode (named_rule (answer_to d.policies e bs c)))
    ∷ (is_full d.live bs c, refusal.TooMany)
    ∷ [])

on_same : (d : SetupData) (c : Command) (e : Option EventDef) (t : Option EventState) → refusal_on (bare_setup d) c (option_map bare_event e) t ≡ refusal_on d c e t
on_same d c None t = refl
on_same d c (Some e) None = refl
on_same d c (Some e) (Some t) = first_same d c e t.bindings

refusal_same : (d : SetupData) (s : State) (c : Command) → refusal_of (bare_setup d) s c ≡ refusal_of d s c
refusal_same d s c =
    (λ i. refusal_on (bare_setup d) c (slice_get-map bare_event d.events c.event i) (slice_get s.events c.event))
    ∙ on_same d c (slice_get d.events c.event) (slice_get s.events c.event)

-- ---- steps

events_same : (d : SetupData) (place : ℕ) (c : Command) (e : Option EventDef) (t : Option EventState) (ts : List EventState)
    → events_after d.policies place c e t ts ≡ events_after d.policies place c (option_map bare_event e) t ts
events_same d place c None t ts = refl
events_same d place c (Some e) None ts = refl
events_same d place c (Some e) (Some t) ts = refl

after_same : (d : SetupData) (c : Command) (s : State) → state_after d c s ≡ state_after (bare_setup d) c s
after_same d c s =
    let events = events_same d (s.place + 1) c (slice_get d.events c.event) (slice_get s.events c.event) s.events
    ∙ (λ i. events_after d.policies (s.place + 1) c (sym (slice_get-map bare_event d.events c.event) i) (slice_get s.events c.event) s.events) in
    ap (λ (ts : List EventState). record { place = s.place + 1; events = ts }) events

behind_same : (d : SetupData) (c : Command) (s : State) → bindings_at (state_after d c s) c.event ≡ bindings_at (state_after (bare_setup d) c s) c.event
behind_same d c s = ap (λ (x : State). bindings_at x c.event) (after_same d c s)

bare_changes : (d : SetupData) (s : State) (c : Command) (v : Verdicted) (next : State) → ChangesTo d s c v next → ChangesTo (bare_setup d) s c v next
bare_changes d s c verdicted.Accepted next h =
    (h.0 ∙ after_same d c s, subst (λ (bs : List Binding). IsOrderly c.op bs) (behind_same d c s) h.1)
bare_changes d s c (verdicted.Refused r) next h =
    (h.0, subst (λ (bs : List Binding). IsConflict c.op bs r) (behind_same d c s) h.1)

bare_step_of : (d : SetupData) (s : State) (c : Command) (v : Verdicted) (next : State) → IsStep d s c v next → IsStep (bare_setup d) s c v next
bare_step_of d s c v next h =
    let P = ChangesTo (bare_setup d) s c v next in
    let Q = λ (r : Refusal). (v ≡ verdicted.Refused r) × (next ≡ s) in
    subst (λ (o : Option Refusal). MatchOption o P Q) (sym (refusal_same d s c)) (go (refusal_of d s c) h)
  where
    go : (o : Option Refusal) → MatchOption o (ChangesTo d s c v next) (λ r. (v ≡ verdicted.Refused r) × (next ≡ s))
        → MatchOption o (ChangesTo (bare_setup d) s c v next) (λ r. (v ≡ verdicted.Refused r) × (next ≡ s))
    go None got = bare_changes d s c v next got
    go (Some r) got = got

bare_answers : (d : SetupData) (s : State) (w : What) (next : State) → Answers d s w next → Answers (bare_setup d) s w next
bare_answers d s (what.Command c v) next h = bare_step_of d s c v next h
bare_answers d s (what.Deed asked reply) next h = (bare_reply d s asked reply h.0, h.1)

-- entries that are legal for a setup are so without where its boxes lie
pub bare_legal : (d : SetupData) (entries : List Entry) (s last : State) → IsLegal d s entries last → IsLegal (bare_setup d) s entries last
bare_legal d [] s last h = h
bare_legal d (entry ∷ entries) s last (next, (answers, place), rest) =
    (next, (bare_answers d s entry.what next answers, place), bare_legal d entries next last rest)

-- ---- jobs

bare_jobs_from : (d : SetupData) (state : State) (entry : Entry) (index : ℕ) (calls : List JobCall) (jobs : List JobSeen)
    → AreJobsFrom d state entry index calls jobs → AreJobsFrom (bare_setup d) state entry index calls jobs
bare_jobs_from d state entry index [] jobs h = h
bare_jobs_from d state entry index (asked ∷ calls) jobs (reply, others, is, are, rest) =
    (reply, others, bare_job d state asked reply is, are, bare_jobs_from d state entry (index + 1) calls others rest)

-- and so are their jobs
pub bare_jobs : (d : SetupData) (entries : List Entry) (state : State) (jobs : List JobSeen) → AreJobs d state entries jobs → AreJobs (bare_setup d) state entries jobs
bare_jobs d [] state jobs h = h
bare_jobs d (entry ∷ entries) state jobs (next, own, others, (answers, place), from, rest, are) = (
  next,
  own,
  others,
  (bare_answers d state entry.what next answers, place),
  bare_jobs_from d next entry 0 (answer_calls entry.what) own from,
  bare_jobs d entries next others rest,
  are,
)
