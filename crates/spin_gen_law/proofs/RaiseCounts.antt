-- A raise of an event whose bindings' acts are one result each: how much of it is counted.
use Rattle.std.proofs.Common.{◌≡◌, ◌∙◌, ℕ, ◌+◌, Bool, true, false, not, ◌&&◌, cond, List, [], ◌∷◌, map, refl, sym, ap, subst, arith}
use Rattle.std.specs.Prelude.{nat_lt, if◌then◌else◌, All, count_by}
use Rattle.std.specs.List.{list_all, flat_map, AllByRecursion}
use Rattle.std.proofs.lemmas.List.Elements.{recursion_from_All}
use Rattle.std.proofs.lemmas.List.Sums.{sum_by-cons}
use Rattle.spin_values.specs.declared.values.Value.{Value}
use Rattle.spin_code.specs.declared.expr.Expr.{Expr}
use Rattle.spin_code.specs.declared.act.ActStep.{ActStep}
use Rattle.spin_code.specs.declared.act.ActStep.TheVariants as step
use Rattle.spin_code.specs.declared.merge.Merge.{Merge}
use Rattle.spin_code.specs.Value.{value_of}
use Rattle.spin_word.specs.declared.command.Mode.{Mode}
use Rattle.spin_word.specs.declared.command.Mode.TheVariants as mode
use Rattle.spin_objects.specs.declared.item.Item.TheVariants as item
use Rattle.spin_objects.specs.Doing.{args_after, items_of}
use Rattle.spin_place.specs.declared.binding.Binding.{Binding}
use Rattle.spin_plan.specs.Next.{guard_holds}
use Rattle.spin_raise.specs.declared.bound.Runner.TheVariants as runner
use Rattle.spin_raise.specs.Firing.{Units, Firing, Did, Apart, bound_of, steps_at, is_async, leaves_jobs, left_by, firings, or_default, items_by}
use Rattle.spin_proto.specs.Parts.{trace_in}
use Rattle.spin_proto.specs.Whole.{Mark, Plain, Raised, step_of, calls_of, starts, is_start, marks_of, raised_with, reply_of}
use Rattle.spin_proto.specs.declared.reply.Step.{Step}
use Rattle.spin_proto.specs.declared.reply.Step.TheVariants as done
use Rattle.spin_proto.specs.declared.reply.Reply.TheVariants as reply
use Rattle.spin_proto.specs.declared.reply.TheConstants.{MAX_RUNS}
use Rattle.spin_run.specs.Summaries.{is_run, is_send}

-- The binding's act is one result, and it is plain, with no guard that is imposed.
pub record GivesResult (u : Units) (b : Binding) : Type 0 where
  pub result : Expr
  pub steps : steps_at u b.handler ≡ step.Result result ∷ []
  pub imposed : b.imposed ≡ []
  pub mode : b.mode ≡ mode.Plain

-- of so many starts of handlers, how many are run
abbrev pub runs_of : ℕ → ℕ
runs_of starts = cond (nat_lt MAX_RUNS starts) 0 starts

module _ (u : Units) (event : ℕ) (raise : ℕ → List Value → Raised) (args : List Value) where
  -- what the binding's own guard says
  abbrev pub admits : Binding → Bool
  admits b = guard_holds u.tests args b.own_guard

  fires : (b : Binding) (bs : List Binding) (h : GivesResult u b)
      → firings runner.Raiser u (b ∷ bs) args
      ≡ cond (admits b && true) (Did b.number true (item.Result (value_of h.result args) ∷ []) args ∷ firings runner.Raiser u bs args) (firings runner.Raiser u bs args)
  fires b bs h =
      let fired = λ (m : Mode) (steps : List ActStep). cond (is_async m && leaves_jobs runner.Raiser) (Apart b.number args)
      (Did b.number (not (is_async m)) (items_of steps args) (args_after steps args)) in
      λ i. cond (list_all (guard_holds u.tests args) (b.own_guard ∷ h.imposed i))
      (fired (h.mode i) (h.steps i) ∷ firings runner.Raiser u bs (left_by (fired (h.mode i) (h.steps i)))) (firings runner.Raiser u bs args)

  abbrev marks_by : List Firing → List Mark
  marks_by fs = flat_map (λ f. marks_of event raise (items_by f)) fs

  -- so many handlers are started and run, and nothing is sent
  record AreCounted (count : ℕ) (marks : List Mark) : Type 0 where
    pub starts : starts marks ≡ count
    pub runs : count_by is_run (map step_of marks) ≡ count
    pub sends : count_by is_send (map step_of marks) ≡ 0

  counted_more : (number result : ℕ) (left : List Value) (fs : List Firing) (count : ℕ) (t : Bool) → AreCounted count (marks_by fs)
      → AreCounted (cond t 1 0 + count) (marks_by (cond (t && true) (Did number true (item.Result result ∷ []) left ∷ fs) fs))
  counted_more number result left fs count false h = record { starts = h.starts ∙ omega arith; runs = h.runs ∙ omega arith; sends = h.sends }
  counted_more number result left fs count true h =
      let ms = marks_by fs in
      let one = sum_by-cons (λ (m : Mark). cond (is_start m) 1 0) (Plain (done.Run event number)) (Plain (done.Result result) ∷ ms) in
      let two = sum_by-cons (λ (m : Mark). cond (is_start m) 1 0) (Plain (done.Result result)) ms in
      let run = sum_by-cons (λ (s : Step). cond (is_run s) 1 0) (done.Run event number) (done.Result result ∷ map step_of ms) in
      let run' = sum_by-cons (λ (s : Step). cond (is_run s) 1 0) (done.Result result) (map step_of ms) in
      let send = sum_by-cons (λ (s : Step). cond (is_send s) 1 0) (done.Run event number) (done.Result result ∷ map step_of ms) in
      let send' = sum_by-cons (λ (s : Step). cond (is_send s) 1 0) (done.Result result) (map step_of ms) in
      record {
        starts = omega (arith, one, two, h.starts);
        runs = omega (arith, run, run', h.runs);
        sends = omega (arith, send, send', h.sends);
      }

  counted_all : (bs : List Binding) → AllByRecursion (GivesResult u) bs → AreCounted (count_by admits bs) (marks_by (firings runner.Raiser u bs args))
  counted_all [] all = record { starts = refl; runs = refl; sends = refl }
  counted_all (b ∷ bs) all =
      let rest = counted_all bs all.1 in
      let more = counted_more b.number (value_of all.0.result args) args (firings runner.Raiser u bs args) (count_by admits bs) (admits b) rest in
      let joined = subst (λ (fs : List Firing). AreCounted (cond (admits b) 1 0 + count_by admits bs) (marks_by fs)) (sym (fires b bs all.0)) more in
      let sum = sum_by-cons (λ (x : Binding). cond (admits x) 1 0) b bs in
      subst (λ (n : ℕ). AreCounted n (marks_by (firings runner.Raiser u (b ∷ bs) args))) (sym sum) joined

  no_default : (fs : List Firing) → or_default u 0 args fs ≡ fs
  no_default [] = refl
  no_default (f ∷ fs) = refl

  abbrev raised_of : List Binding → Merge → Raised
  raised_of bs m = raised_with runner.Raiser u event (bound_of bs m 0) raise args

  counted_raise : (bs : List Binding) (m : Merge) → All (GivesResult u) bs → AreCounted (count_by admits bs) (raised_of bs m).marks
  counted_raise bs m all =
      let counted = counted_all bs (recursion_from_All (GivesResult u) bs all) in
      subst (λ (fs : List Firing). AreCounted (count_by admits bs) (marks_by fs)) (sym (no_default (firings runner.Raiser u bs args))) counted

  runs_counted : (r : Raised) (count : ℕ) → AreCounted count r.marks → count_by is_run (trace_in (reply_of MAX_RUNS r)) ≡ runs_of count
  runs_counted r count h = go (nat_lt MAX_RUNS (starts r.marks)) ∙ ap (λ (n : ℕ). cond (nat_lt MAX_RUNS n) 0 count) h.starts
    where
      go : (t : Bool) → count_by is_run (trace_in (if t then reply.Spent else reply.Ran r.answer (map step_of r.marks) (flat_map calls_of r.marks))) ≡ cond t 0 count
      go true = refl
      go false = h.runs

  sends_counted : (r : Raised) (count : ℕ) → AreCounted count r.marks → count_by is_send (trace_in (reply_of MAX_RUNS r)) ≡ 0
  sends_counted r count h = go (nat_lt MAX_RUNS (starts r.marks))
    where
      go : (t : Bool) → count_by is_send (trace_in (if t then reply.Spent else reply.Ran r.answer (map step_of r.marks) (flat_map calls_of r.marks))) ≡ 0
      go true = refl
      go false = h.sends

  -- of the reply to such a raise as many runs are counted as guards hold, and no sends
  pub reply_runs : (bs : List Binding) (m : Merge) → All (GivesResult u) bs
      → (count_by is_run (trace_in (reply_of MAX_RUNS (raised_of bs m))) ≡ runs_of (count_by admits bs))
      × (count_by is_send (trace_in (reply_of MAX_RUNS (raised_of bs m))) ≡ 0)
  reply_runs bs m all =
      let counted = counted_raise bs m all in
      (runs_counted (raised_of bs m) (count_by admits bs) counted, sends_counted (raised_of bs m) (count_by admits bs) counted)
