-- Deeds are replied to alike where bindings have other numbers.
use Rattle.std.proofs.Common.{◌≡◌, ℕ, suc, ◌+◌, Bool, true, false, cond, List, [], ◌∷◌, length, map, refl, sym, ap, subst, ◌∙◌, arith}
use Rattle.std.specs.Prelude.{Option, None, Some, if◌then◌else◌, nat_lt, slice_get}
use Rattle.std.specs.List.{flat_map, cons_option}
use Rattle.std.specs.Option.{option_map_or}
use Rattle.std.proofs.lemmas.List.Sums.{sum_by-cons}
use Rattle.spin_values.specs.declared.types.EventType.{EventType}
use Rattle.spin_values.specs.declared.values.Value.{Value}
use Rattle.spin_place.specs.declared.binding.Binding.{Binding}
use Rattle.spin_raise.specs.declared.bound.Runner.TheVariants as runner
use Rattle.spin_raise.specs.Firing.{Units, Bound, bound_of}
use Rattle.spin_word.specs.declared.work.Deed.{Deed}
use Rattle.spin_word.specs.declared.work.Deed.TheVariants as deed
use Rattle.spin_table.specs.declared.event.EventDef.{EventDef}
use Rattle.spin_table.specs.States.{EventState, binding_of}
use Rattle.spin_table.specs.Orders.{arranged}
use Rattle.spin_table.specs.Renamings.{Rises, AreRenamed, IsRenamedEvent}
use Rattle.spin_table.proofs.RenamedBindings.{AreBoth, found_both}
use Rattle.spin_table.proofs.RenamedOrders.{the_order_to}
use Rattle.spin_proto.specs.declared.deed.JobCall.TheVariants as call
use Rattle.spin_proto.specs.declared.reply.TheConstants.{MAX_RUNS}
use Rattle.spin_proto.specs.declared.reply.Step.TheVariants as step
use Rattle.spin_proto.specs.declared.reply.Reply.{Reply}
use Rattle.spin_proto.specs.declared.reply.Reply.TheVariants as reply
use Rattle.spin_proto.specs.Whole.{Mark, Plain, Queued, step_of, calls_of, is_start, starts, Raised, raised, reply_of}
use Rattle.spin_proto.specs.Replies.{are_fit, reply_if_fit, deed_reply, units_in, types_in, IsBound, AreBounds}
use Rattle.spin_proto.specs.Renamings.{renamed_step, renamed_call, renamed_reply, RepliesAreRenamed}
use Rattle.spin_proto.proofs.RenamedRaises.{renamed_mark, renamed_raised, IsSameBound, AreSameBounds, raised_both}

start_both : (to : ℕ → ℕ) (m : Mark) → is_start (renamed_mark to m) ≡ is_start m
start_both to (Plain (step.Run event number)) = refl
start_both to (Plain (step.Result n)) = refl
start_both to (Plain (step.Send endpoint bytes)) = refl
start_both to (Plain (step.Up event)) = refl
start_both to (Plain (step.Back answer)) = refl
start_both to (Plain (step.Dropped fault)) = refl
start_both to (Plain (step.Job event number)) = refl
start_both to (Queued event number args) = refl

starts_both : (to : ℕ → ℕ) (ms : List Mark) → starts (map (renamed_mark to) ms) ≡ starts ms
starts_both to [] = refl
starts_both to (m ∷ ms) =
    sum_by-cons (λ x. cond (is_start x) 1 0) (renamed_mark to m) (map (renamed_mark to) ms)
    ∙ ap (λ b. cond b 1 0 + starts (map (renamed_mark to) ms)) (start_both to m) ∙ ap (λ n. cond (is_start m) 1 0 + n) (starts_both to ms)
    ∙ sym (sum_by-cons (λ x. cond (is_start x) 1 0) m ms)

step_both : (to : ℕ → ℕ) (m : Mark) → step_of (renamed_mark to m) ≡ renamed_step to (step_of m)
step_both to (Plain s) = refl
step_both to (Queued event number args) = refl

steps_both : (to : ℕ → ℕ) (ms : List Mark) → map step_of (map (renamed_mark to) ms) ≡ map (renamed_step to) (map step_of ms)
steps_both to [] = refl
steps_both to (m ∷ ms) = ap (λ s. s ∷ map step_of (map (renamed_mark to) ms)) (step_both to m) ∙ ap (λ ss. renamed_step to (step_of m) ∷ ss) (steps_both to ms)

calls_both : (to : ℕ → ℕ) (m : Mark) → calls_of (renamed_mark to m) ≡ map (renamed_call to) (calls_of m)
calls_both to (Plain s) = refl
calls_both to (Queued event number args) = refl

all_calls : (to : ℕ → ℕ) (ms : List Mark) → flat_map calls_of (map (renamed_mark to) ms) ≡ map (renamed_call to) (flat_map calls_of ms)
all_calls to [] = refl
all_calls to (Plain s ∷ ms) = all_calls to ms
all_calls to (Queued event number args ∷ ms) = ap (λ cs. call.Binding event (to number) args ∷ cs) (all_calls to ms)

spent_or : (to : ℕ → ℕ) (q : Bool) (r : Reply) → (if q then reply.Spent else renamed_reply to r) ≡ renamed_reply to (if q then reply.Spent else r)
spent_or to true r = refl
spent_or to false r = refl

reply_both : (to : ℕ → ℕ) (limit : ℕ) (r : Raised) → reply_of limit (renamed_raised to r) ≡ renamed_reply to (reply_of limit r)
reply_both to limit r =
    let marks = map (renamed_mark to) r.marks in
    ap (λ n. if nat_lt limit n then reply.Spent else reply.Ran r.answer (map step_of marks) (flat_map calls_of marks)) (starts_both to r.marks)
    ∙ ap (λ ss. if nat_lt limit (starts r.marks) then reply.Spent else reply.Ran r.answer ss (flat_map calls_of marks)) (steps_both to r.marks)
    ∙ ap (λ cs. if nat_lt limit (starts r.marks) then reply.Spent else reply.Ran r.answer (map (renamed_step to) (map step_of r.marks)) cs) (all_calls to r.marks)
    ∙ spent_or to (nat_lt limit (starts r.marks)) (reply.Ran r.answer (map step_of r.marks) (flat_map calls_of r.marks))

fit_or : (to : ℕ → ℕ) (q : Bool) (r : Reply) → (if q then renamed_reply to r else reply.WrongArgs) ≡ renamed_reply to (if q then r else reply.WrongArgs)
fit_or to true r = refl
fit_or to false r = refl

fit_both : (to : ℕ → ℕ) (o : Option EventType) (args : List Value) (r : Reply)
    → option_map_or (λ sig. if are_fit sig args then renamed_reply to r else reply.WrongArgs) o reply.UnknownEvent
    ≡ renamed_reply to (option_map_or (λ sig. if are_fit sig args then r else reply.WrongArgs) o reply.UnknownEvent)
fit_both to None args r = refl
fit_both to (Some sig) args r = fit_or to (are_fit sig args) r

deed_both : (to : ℕ → ℕ) → to 0 ≡ 0 → (u : Units) (bs cs : List Bound) (types : List EventType) (asked : Deed) → AreSameBounds to bs cs
    → deed_reply u cs types asked ≡ renamed_reply to (deed_reply u bs types asked)
deed_both to zero_stays u bs cs types (deed.Raise event args) h =
    ap (λ r. reply_if_fit types event args (reply_of MAX_RUNS r)) (raised_both to zero_stays runner.Raiser u bs cs 0 event args h)
    ∙ ap (reply_if_fit types event args) (reply_both to MAX_RUNS (raised runner.Raiser u bs 0 event args))
    ∙ fit_both to (slice_get types event) args (reply_of MAX_RUNS (raised runner.Raiser u bs 0 event args))
deed_both to zero_stays u bs cs types (deed.Later event args) h = fit_both to (slice_get types event) args (reply.Queued (call.Whole event args))

cons_both : (to : ℕ → ℕ) (x y : Option Binding) (bs cs : List Binding) → AreBoth to x y → AreRenamed to bs cs → AreRenamed to (cons_option x bs) (cons_option y cs)
cons_both to None None bs cs one h = h
cons_both to None (Some c) bs cs one h = absurd one
cons_both to (Some b) None bs cs one h = absurd one
cons_both to (Some b) (Some c) bs cs one h = (one, h)

module _ (to : ℕ → ℕ) (rises : Rises to) where
  arranged_both : (bs cs : List Binding) (ns : List ℕ) → AreRenamed to bs cs → AreRenamed to (arranged bs ns) (arranged cs (map to ns))
  arranged_both bs cs [] h = tt
  arranged_both bs cs (n ∷ ns) h = cons_both to (binding_of bs n) (binding_of cs (to n)) (arranged bs ns) (arranged cs (map to ns)) (found_both to rises bs cs n h) (arranged_both bs cs ns h)

  bound_both : (def : EventDef) (e f : EventState) (b : Bound) → IsRenamedEvent to e f → IsBound def e b → (c : Bound) × IsBound def f c × IsSameBound to b c
  bound_both def e f b h (ns, order, is) = (
    bound_of (arranged f.bindings (map to ns)) def.merge f.default,
    (map to ns, the_order_to to rises e.bindings f.bindings h.bindings ns order, refl),
    from_bound (sym is),
  )
    where
      from_bound : bound_of (arranged e.bindings ns) def.merge e.default ≡ b → IsSameBound to b (bound_of (arranged f.bindings (map to ns)) def.merge f.default)
      from_bound same =
          subst (λ (x : Bound). IsSameBound to x (bound_of (arranged f.bindings (map to ns)) def.merge f.default)) same
          (record { bindings = arranged_both e.bindings f.bindings ns h.bindings; merge = refl; default = h.default })

  bounds_both : (defs : List EventDef) (es fs : List EventState) (bs : List Bound) → length fs ≡ length es
      → ((k : ℕ) (e f : EventState) → slice_get es k ≡ Some e → slice_get fs k ≡ Some f → IsRenamedEvent to e f)
      → AreBounds defs es bs → (cs : List Bound) × AreBounds defs fs cs × AreSameBounds to bs cs
  bounds_both [] [] [] [] size each are = ([], tt, tt)
  bounds_both (def ∷ defs) (e ∷ es) (f ∷ fs) (b ∷ bs) size each are =
      let one = bound_both def e f b (each 0 e f refl refl) are.0 in
      let rest = bounds_both defs es fs bs (omega arith) (λ k x y p q. each (suc k) x y p q) are.1 in
      (one.0 ∷ rest.0, (one.1, rest.1), (one.2, rest.2))
  bounds_both [] [] (f ∷ fs) [] size each are = absurd (omega arith)
  bounds_both [] [] fs (b ∷ bs) size each are = absurd are
  bounds_both [] (e ∷ es) fs bs size each are = absurd are
  bounds_both (def ∷ defs) [] fs bs size each are = absurd are
  bounds_both (def ∷ defs) (e ∷ es) [] bs size each are = absurd (omega arith)
  bounds_both (def ∷ defs) (e ∷ es) (f ∷ fs) [] size each are = absurd are

pub replies_both : RepliesAreRenamed
replies_both d to s t asked answer rises zero_stays same (bounds, are, is) =
    let other = bounds_both to rises d.events s.events t.events bounds same.events same.each are in
    (other.0, other.1, ap (renamed_reply to) is ∙ sym (deed_both to zero_stays (units_in d) bounds other.0 (types_in d) asked other.2))
