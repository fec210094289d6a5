-- What is sent goes to endpoints that the handlers name.
use Rattle.std.proofs.Common.{◌≡◌, ◌<◌, ℕ, zero, suc, Bool, true, false, cond, if◌then◌else◌, List, [], ◌∷◌, ◌++◌, ◌+◌}
use Rattle.std.proofs.Common.{◌-◌, map, Result, Ok, Err, append_assoc, Option, Some, None, refl, sym, ap, subst, ◌∙◌}
use Rattle.std.specs.Prelude.{All, ◌&&◌, ◌==◌, nat_lt, not, drop, slice_get, ⊤}
use Rattle.std.specs.List.{AllByRecursion, flat_map, filter_map}
use Rattle.std.specs.Option.{option_map_or}
use Rattle.std.proofs.lemmas.List.Elements.{recursion_from_All, All-from_recursion}
use Rattle.spin_values.specs.declared.values.Value.{Value}
use Rattle.spin_values.specs.declared.types.EventType.{EventType}
use Rattle.spin_code.specs.declared.act.ActStep.{ActStep}
use Rattle.spin_code.specs.declared.act.ActStep.TheVariants as act
use Rattle.spin_headers.specs.declared.fault.HeaderFault.{HeaderFault}
use Rattle.spin_objects.specs.declared.item.Item.{Item}
use Rattle.spin_objects.specs.declared.item.Item.TheVariants as item
use Rattle.spin_objects.specs.Doing.{step_args, step_items, items_of, args_after, up_or_dropped}
use Rattle.spin_objects.specs.Layers.{layer_args}
use Rattle.spin_objects.specs.Units.{HandlerUnit, act_if}
use Rattle.spin_place.specs.declared.binding.Binding.{Binding}
use Rattle.spin_plan.specs.Next.{guards_hold}
use Rattle.spin_raise.specs.declared.bound.Runner.{Runner}
use Rattle.spin_raise.specs.declared.bound.Runner.TheVariants as runner
use Rattle.spin_raise.specs.Firing.{Units, Bound, Firing, Did, Apart, ByDefault, steps_at, firing_of, left_by, firings, or_default, fired, items_by, is_async, leaves_jobs}
use Rattle.spin_table.specs.Setups.{SetupData}
use Rattle.spin_table.specs.States.{State}
use Rattle.spin_word.specs.declared.work.Deed.{Deed}
use Rattle.spin_word.specs.declared.work.Deed.TheVariants as deed
use Rattle.spin_proto.specs.declared.deed.JobCall.{JobCall}
use Rattle.spin_proto.specs.declared.deed.JobCall.TheVariants as call
use Rattle.spin_proto.specs.declared.reply.Step.TheVariants as step
use Rattle.spin_proto.specs.declared.reply.Reply.{Reply}
use Rattle.spin_proto.specs.declared.reply.Reply.TheVariants as reply
use Rattle.spin_proto.specs.Whole as whole
use Rattle.spin_proto.specs.Whole.{Mark, Plain, Queued, step_of, Raised, marks_at, ups_of, marks_up, marks_of, raised_with, raised, raised_after, reply_of, job_of, starts}
use Rattle.spin_proto.specs.Replies.{reply_if_fit, deed_reply, job_reply, handler_at, units_in, types_in, are_fit, IsDeedReply, IsJobReply}
use Rattle.spin_endpoint.specs.Sends.{SentSeen}
use Rattle.spin_script.specs.Segments.{IsSentBelow, SendsBelow}
use Rattle.spin_report.specs.declared.entry.What.{What}
use Rattle.spin_report.specs.declared.entry.What.TheVariants as what
use Rattle.spin_report.specs.declared.entry.Entry.{Entry}
use Rattle.spin_report.specs.Lines.{JobSeen}
use Rattle.spin_report.specs.Legal.{Answers, IsLegal}
use Rattle.spin_report.specs.Jobs.{AreJobs, AreJobsFrom, answer_calls}
use Rattle.spin_report.specs.Runs.{sent_by, sends_of_reply, sends_of}
use Rattle.spin_report.proofs.PlainWords.{each_append, each_flat_map}

-- ---- items

abbrev ItemBelow : ℕ → Item → Type 0
ItemBelow n (item.Send endpoint bytes) = endpoint < n
ItemBelow n other = ⊤

abbrev MarkBelow : ℕ → Mark → Type 0
MarkBelow n (Plain (step.Send endpoint bytes)) = endpoint < n
MarkBelow n other = ⊤

abbrev ItemsBelow : ℕ → List Item → Type 0
ItemsBelow n items = AllByRecursion (ItemBelow n) items

abbrev MarksBelow : ℕ → List Mark → Type 0
MarksBelow n marks = AllByRecursion (MarkBelow n) marks

abbrev StepsBelow : ℕ → List ActStep → Type 0
StepsBelow n steps = AllByRecursion (IsSentBelow n) steps

up_below : (n event : ℕ) (args : Result (List Value) HeaderFault) → ItemBelow n (up_or_dropped event args)
up_below n event (Ok args) = tt
up_below n event (Err fault) = tt

step_below : (n : ℕ) (s : ActStep) (args : List Value) → IsSentBelow n s → ItemsBelow n (step_items s args)
step_below n (act.Set arg e) args h = tt
step_below n (act.Send endpoint arg from) args h = (h, tt)
step_below n (act.Result e) args h = (tt, tt)
step_below n (act.Up event parts) args h = (tt, tt)
step_below n (act.Layer kind event) args h = (up_below n event (layer_args kind args), tt)

items_below : (n : ℕ) (steps : List ActStep) (args : List Value) → StepsBelow n steps → ItemsBelow n (items_of steps args)
items_below n [] args h = tt
items_below n (s ∷ steps) args h =
    each_append (ItemBelow n) (step_items s args) (items_of steps (step_args s args)) (step_below n s args h.0) (items_below n steps (step_args s args) h.1)

-- ---- firings

-- each handler sends below
abbrev UnitsBelow : ℕ → Units → Type 0
UnitsBelow n u = (handler : ℕ) → StepsBelow n (steps_at u handler)

firing_below : (n : ℕ) (by : Runner) (u : Units) (b : Binding) (args : List Value) → UnitsBelow n u → ItemsBelow n (items_by (firing_of by u b args))
firing_below n by u b args h = go (is_async b.mode && leaves_jobs by) where
  go : (c : Bool) → ItemsBelow n (items_by (cond c (Apart b.number args) (Did b.number (not (is_async b.mode)) (items_of (steps_at u b.handler) args) (args_after (steps_at u b.handler) args))))
  go true = (tt, tt)
  go false = (tt, items_below n (steps_at u b.handler) args (h b.handler))

abbrev FiringBelow : ℕ → Firing → Type 0
FiringBelow n f = ItemsBelow n (items_by f)

firings_below : (n : ℕ) (by : Runner) (u : Units) (bs : List Binding) (args : List Value) → UnitsBelow n u → AllByRecursion (FiringBelow n) (firings by u bs args)
firings_below n by u [] args h = tt
firings_below n by u (b ∷ bs) args h =
    go (guards_hold u.tests args b) (firings_below n by u bs (left_by (firing_of by u b args)) h) (firings_below n by u bs args h)
  where
    go : (c : Bool) → AllByRecursion (FiringBelow n) (firings by u bs (left_by (firing_of by u b args))) → AllByRecursion (FiringBelow n) (firings by u bs args)
        → AllByRecursion (FiringBelow n) (cond c (firing_of by u b args ∷ firings by u bs (left_by (firing_of by u b args))) (firings by u bs args))
    go true more same = (firing_below n by u b args h, more)
    go false more same = same

default_below : (n : ℕ) (u : Units) (default : ℕ) (args : List Value) (fs : List Firing) → UnitsBelow n u
    → AllByRecursion (FiringBelow n) fs → AllByRecursion (FiringBelow n) (or_default u default args fs)
default_below n u default args [] h k = go (default == 0) where
  go : (c : Bool) → AllByRecursion (FiringBelow n) (cond c [] (ByDefault (items_of (steps_at u default) args) (args_after (steps_at u default) args) ∷ []))
  go true = tt
  go false = ((tt, items_below n (steps_at u default) args (h default)), tt)
default_below n u default args (f ∷ fs) h k = k

-- ---- marks

mark_below : (n event : ℕ) (i : Item) → ItemBelow n i → MarksBelow n (marks_at event i)
mark_below n event (item.Ran number) h = (tt, tt)
mark_below n event (item.Result r) h = (tt, tt)
mark_below n event (item.Send endpoint bytes) h = (h, tt)
mark_below n event (item.Up to args) h = tt
mark_below n event (item.Dropped fault) h = (tt, tt)
mark_below n event (item.Job number args) h = (tt, tt)

flat_below : {A : Type 0} (n : ℕ) (P : A → Type 0) (f : A → List Mark) → ((a : A) → P a → MarksBelow n (f a)) → (xs : List A) → AllByRecursion P xs → MarksBelow n (flat_map f xs)
flat_below n P f so [] h = tt
flat_below n P f so (a ∷ xs) h = each_append (MarkBelow n) (f a) (flat_map f xs) (so a h.0) (flat_below n P f so xs h.1)

abbrev RaiseBelow : ℕ → (ℕ → List Value → Raised) → Type 0
RaiseBelow n raise = (event : ℕ) (args : List Value) → MarksBelow n (raise event args).marks

marks_below : (n event : ℕ) (raise : ℕ → List Value → Raised) (given : List Item) → RaiseBelow n raise → ItemsBelow n given → MarksBelow n (marks_of event raise given)
marks_below n event raise given h k =
    each_append (MarkBelow n) (flat_map (marks_at event) given) (flat_map (marks_up raise) (ups_of given))
    (flat_below n (ItemBelow n) (marks_at event) (mark_below n event) given k)
    (each_flat_map (MarkBelow n) (marks_up raise)
    (λ up. (tt, each_append (MarkBelow n) (raise up.event up.args).marks (Plain (step.Back (raise up.event up.args).answer) ∷ []) (h up.event up.args) (tt, tt))) (ups_of given))

raised_below : (n : ℕ) (by : Runner) (u : Units) (bounds : List Bound) (from : ℕ) → UnitsBelow n u → RaiseBelow n (raised by u bounds from)
raised_below n by u [] from h event args = tt
raised_below n by u (b ∷ later) from h event args = go (from == event) (raised_below n by u later (suc from) h) where
  go : (c : Bool) → RaiseBelow n (raised by u later (suc from)) → MarksBelow n (cond c (raised_with by u event b (raised by u later (suc from)) args) (raised by u later (suc from) event args)).marks
  go true later_below =
      flat_below n (FiringBelow n) (λ f. marks_of event (raised by u later (suc from)) (items_by f))
      (λ f k. marks_below n event (raised by u later (suc from)) (items_by f) later_below k) (fired by u b args)
      (default_below n u b.default args (firings by u b.bindings args) h (firings_below n by u b.bindings args h))
  go false later_below = later_below event args

-- ---- replies

abbrev SentTo : ℕ → SentSeen → Type 0
SentTo n sent = sent.endpoint < n

sent_marks : (n : ℕ) (marks : List Mark) → MarksBelow n marks → AllByRecursion (SentTo n) (filter_map sent_by (map step_of marks))
sent_marks n [] h = tt
sent_marks n (Plain (step.Send endpoint bytes) ∷ marks) h = (h.0, sent_marks n marks h.1)
sent_marks n (Plain (step.Run event number) ∷ marks) h = sent_marks n marks h.1
sent_marks n (Plain (step.Result r) ∷ marks) h = sent_marks n marks h.1
sent_marks n (Plain (step.Up event) ∷ marks) h = sent_marks n marks h.1
sent_marks n (Plain (step.Back a) ∷ marks) h = sent_marks n marks h.1
sent_marks n (Plain (step.Dropped f) ∷ marks) h = sent_marks n marks h.1
sent_marks n (Plain (step.Job event number) ∷ marks) h = sent_marks n marks h.1
sent_marks n (Queued event number args ∷ marks) h = sent_marks n marks h.1

abbrev ReplyBelow : ℕ → Reply → Type 0
ReplyBelow n r = AllByRecursion (SentTo n) (sends_of_reply r)

reply_below : (n limit : ℕ) (r : Raised) → MarksBelow n r.marks → ReplyBelow n (reply_of limit r)
reply_below n limit r h = go (nat_lt limit (starts r.marks)) where
  go : (c : Bool) → ReplyBelow n (cond c reply.Spent (reply.Ran r.answer (map step_of r.marks) (flat_map whole.calls_of r.marks)))
  go true = tt
  go false = sent_marks n r.marks h

fit_below : (n : ℕ) (types : List EventType) (event : ℕ) (args : List Value) (answer : Reply) → ReplyBelow n answer → ReplyBelow n (reply_if_fit types event args answer)
fit_below n types event args answer h = go (slice_get types event) where
  by : (c : Bool) → ReplyBelow n (cond c answer reply.WrongArgs)
  by true = h
  by false = tt

  go : (o : Option EventType) → ReplyBelow n (option_map_or (λ sig. cond (are_fit sig args) answer reply.WrongArgs) o reply.UnknownEvent)
  go None = tt
  go (Some sig) = by (are_fit sig args)

deed_below : (n : ℕ) (u : Units) (bounds : List Bound) (types : List EventType) (asked : Deed) → UnitsBelow n u → ReplyBelow n (deed_reply u bounds types asked)
deed_below n u bounds types (deed.Raise event args) h =
    fit_below n types event args _ (reply_below n _ (raised runner.Raiser u bounds 0 event args) (raised_below n runner.Raiser u bounds 0 h event args))
deed_below n u bounds types (deed.Later event args) h = fit_below n types event args (reply.Queued (call.Whole event args)) tt

job_below : (n : ℕ) (u : Units) (bounds : List Bound) (asked : JobCall) → UnitsBelow n u → ReplyBelow n (job_reply u bounds asked)
job_below n u bounds (call.Whole event args) h = reply_below n _ (raised runner.Job u bounds 0 event args) (raised_below n runner.Job u bounds 0 h event args)
job_below n u bounds (call.Binding event number args) h =
    let handler = handler_at bounds event number in
    let raise = raised_after runner.Job u bounds event in
    reply_below n _ (job_of u event number handler raise args)
    (marks_below n event raise (item.Ran number ∷ items_of (steps_at u handler) args)
    (raised_below n runner.Job u (drop (suc event) bounds) (suc event) h) (tt, items_below n (steps_at u handler) args (h handler)))

-- ---- a setup's handlers

act_below : (n : ℕ) (handlers : List HandlerUnit) → All (SendsBelow n) handlers → (k : ℕ) → StepsBelow n (act_if (slice_get (map (λ (h : HandlerUnit). h.act) handlers) k)).steps
act_below n handlers h k = by_list handlers (recursion_from_All (SendsBelow n) handlers h) k where
  by_list : (hs : List HandlerUnit) → AllByRecursion (SendsBelow n) hs → (k : ℕ) → StepsBelow n (act_if (slice_get (map (λ (x : HandlerUnit). x.act) hs) k)).steps
  by_list [] all k = tt
  by_list (x ∷ hs) all zero = recursion_from_All (IsSentBelow n) x.act.steps all.0
  by_list (x ∷ hs) all (suc k) = by_list hs all.1 k

units_below : (n : ℕ) (d : SetupData) → All (SendsBelow n) d.handlers → UnitsBelow n (units_in d)
units_below n d h handler = by_number (handler == 0) where
  by_number : (none : Bool) → StepsBelow n (act_if (if none then None else slice_get (map (λ (x : HandlerUnit). x.act) d.handlers) (handler - 1))).steps
  by_number true = tt
  by_number false = act_below n d.handlers h (handler - 1)

deed_sent : (n : ℕ) (d : SetupData) (s : State) (asked : Deed) (r : Reply) → All (SendsBelow n) d.handlers → IsDeedReply d s asked r → ReplyBelow n r
deed_sent n d s asked r h k = subst (ReplyBelow n) (sym k.2) (deed_below n (units_in d) k.0 (types_in d) asked (units_below n d h))

job_sent : (n : ℕ) (d : SetupData) (s : State) (asked : JobCall) (r : Reply) → All (SendsBelow n) d.handlers → IsJobReply d s asked r → ReplyBelow n r
job_sent n d s asked r h k = subst (ReplyBelow n) (sym k.2) (job_below n (units_in d) k.0 asked (units_below n d h))

what_sent : (n : ℕ) (d : SetupData) (s next : State) (w : What) → All (SendsBelow n) d.handlers → Answers d s w next → AllByRecursion (SentTo n) (sends_of w)
what_sent n d s next (what.Command c v) h k = tt
what_sent n d s next (what.Deed asked r) h k = deed_sent n d s asked r h k.0

entries_sent : (n : ℕ) (d : SetupData) (s last : State) (entries : List Entry) → All (SendsBelow n) d.handlers
    → IsLegal d s entries last → AllByRecursion (SentTo n) (flat_map (λ e. sends_of e.what) entries)
entries_sent n d s last [] h k = tt
entries_sent n d s last (e ∷ entries) h k =
    each_append (SentTo n) (sends_of e.what) (flat_map (λ x. sends_of x.what) entries) (what_sent n d s k.0 e.what h k.1.0) (entries_sent n d k.0 last entries h k.2)

abbrev sends_of_jobs : List JobSeen → List SentSeen
sends_of_jobs jobs = flat_map (λ job. sends_of_reply job.reply) jobs

own_sent : (n : ℕ) (d : SetupData) (s : State) (e : Entry) (index : ℕ) (calls : List JobCall) (jobs : List JobSeen)
    → All (SendsBelow n) d.handlers → AreJobsFrom d s e index calls jobs → AllByRecursion (SentTo n) (sends_of_jobs jobs)
own_sent n d s e index [] jobs h k = subst (λ (x : List JobSeen). AllByRecursion (SentTo n) (sends_of_jobs x)) (sym k) tt
own_sent n d s e index (c ∷ calls) jobs h k =
    subst (λ (x : List JobSeen). AllByRecursion (SentTo n) (sends_of_jobs x)) (sym k.3)
    (each_append (SentTo n) (sends_of_reply k.0) (sends_of_jobs k.1) (job_sent n d s c k.0 h k.2) (own_sent n d s e (index + 1) calls k.1 h k.4))

flat_jobs : (a b : List JobSeen) → sends_of_jobs (a ++ b) ≡ sends_of_jobs a ++ sends_of_jobs b
flat_jobs [] b = refl
flat_jobs (j ∷ a) b = ap (λ x. sends_of_reply j.reply ++ x) (flat_jobs a b) ∙ sym (append_assoc (sends_of_reply j.reply) (sends_of_jobs a) (sends_of_jobs b))

jobs_sent : (n : ℕ) (d : SetupData) (s : State) (entries : List Entry) (jobs : List JobSeen) → All (SendsBelow n) d.handlers → AreJobs d s entries jobs → AllByRecursion (SentTo n) (sends_of_jobs jobs)
jobs_sent n d s [] jobs h k = subst (λ (x : List JobSeen). AllByRecursion (SentTo n) (sends_of_jobs x)) (sym k) tt
jobs_sent n d s (e ∷ entries) jobs h k =
    subst (λ (x : List JobSeen). AllByRecursion (SentTo n) (sends_of_jobs x)) (sym (k.6 ∙ refl))
    (subst (λ (x : List SentSeen). AllByRecursion (SentTo n) x) (sym (flat_jobs k.1 k.2))
    (each_append (SentTo n) (sends_of_jobs k.1) (sends_of_jobs k.2) (own_sent n d k.0 e 0 (answer_calls e.what) k.1 h k.4) (jobs_sent n d k.0 entries k.2 h k.5)))

-- all sends of a segment are to endpoints that the handlers name
pub all_sent : (n : ℕ) (d : SetupData) (s last : State) (entries : List Entry) (jobs : List JobSeen) → All (SendsBelow n) d.handlers → IsLegal d s entries last
    → AreJobs d s entries jobs → All (λ (sent : SentSeen). sent.endpoint < n) (flat_map (λ e. sends_of e.what) entries ++ sends_of_jobs jobs)
all_sent n d s last entries jobs h legal are =
    All-from_recursion
    (SentTo n) _ (each_append (SentTo n) (flat_map (λ e. sends_of e.what) entries) (sends_of_jobs jobs) (entries_sent n d s last entries h legal) (jobs_sent n d s entries jobs h are))
