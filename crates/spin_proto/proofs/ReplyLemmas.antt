-- Replies on the events of a sound state.
use Rattle.std.proofs.Common.{◌≡◌, ℕ, suc, List, [], drop, sym, ap, subst, ◌∙◌}
use Rattle.std.specs.Prelude.{Result, Ok, Err, IfOk, OnOk}
use Rattle.std.specs.List.{All}
use Rattle.spin_values.specs.declared.values.Value.{Value}
use Rattle.spin_raise.specs.declared.bound.Runner.TheVariants as runner
use Rattle.spin_raise.specs.Firing.{Bound}
use Rattle.spin_table.specs.Setups.{SetupData}
use Rattle.spin_table.specs.States.{State}
use Rattle.spin_table.specs.Soundness.{IsSound}
use Rattle.spin_word.specs.declared.work.Deed.{Deed}
use Rattle.spin_word.specs.declared.work.Deed.TheVariants as deed
use Rattle.spin_proto.specs.declared.deed.JobCall.{JobCall}
use Rattle.spin_proto.specs.declared.deed.JobCall.TheVariants as call
use Rattle.spin_proto.specs.declared.reply.TheConstants.{MAX_RUNS}
use Rattle.spin_proto.specs.declared.reply.Reply.{Reply}
use Rattle.spin_proto.specs.declared.reply.Reply.TheVariants as reply
use Rattle.spin_proto.specs.Whole.{raised, raised_after, reply_of, job_of}
use Rattle.spin_proto.specs.Inner.Walks.{OnBounds}
use Rattle.spin_proto.specs.Replies.{units_in, types_in, reply_if_fit, deed_reply, job_reply, handler_at, IsDeedReply, IsJobReply, BelongsTo, calls_left}
use Rattle.spin_proto.proofs.BoundEvents.{bounds_there}
use Rattle.spin_proto.proofs.JobCalls.{raised_calls, job_calls, bounds_may, jobs_may, calls_belong, no_calls_left, IsLiveAt}

pub ok_map : {A E : Type 0} (r : Result A E) (P Q : A → Type 0) → ((x : A) → P x → Q x) → IfOk r P → IfOk r Q
ok_map (Ok x) P Q f h = f x h
ok_map (Err e) P Q f h = tt

pub on_ok_map : {A E : Type 0} (r : Result A E) (P Q : Type 0) → (P → Q) → OnOk r P → OnOk r Q
on_ok_map (Ok x) P Q f h = f h
on_ok_map (Err e) P Q f h = tt

module _ (d : SetupData) (s : State) (sound : IsSound d s) where
  -- a deed that isn't done
  pub deed_refused : (asked asked' : Deed) (event : ℕ) (args : List Value) (refused : Reply) → asked ≡ asked'
      → ((bounds : List Bound) → deed_reply (units_in d) bounds (types_in d) asked' ≡ refused) → IsDeedReply d s asked refused
  deed_refused asked asked' event args refused is said =
      let b = bounds_there d s sound in
      (b.0, b.1, sym (ap (deed_reply (units_in d) b.0 (types_in d)) is ∙ said b.0))

  abbrev pub IsOfRaise : ℕ → List Value → Reply → Type 0
  IsOfRaise event args answer = OnBounds d s (λ bounds. answer ≡ reply_of MAX_RUNS (raised runner.Raiser (units_in d) bounds 0 event args))

  -- a deed that is done
  pub deed_done : (asked : Deed) (event : ℕ) (args copy : List Value) → asked ≡ deed.Raise event args → copy ≡ args
      → ((answer : Reply) → reply_if_fit (types_in d) event args answer ≡ answer) → (answer : Reply) → IsOfRaise event copy answer → IsDeedReply d s asked answer
  deed_done asked event args copy is same fit answer said =
      let b = bounds_there d s sound in
      let whole = reply_of MAX_RUNS (raised runner.Raiser (units_in d) b.0 0 event args) in
      (b.0, b.1, said b.0 b.1 ∙ ap (λ xs. reply_of MAX_RUNS (raised runner.Raiser (units_in d) b.0 0 event xs)) same ∙ sym (ap (deed_reply (units_in d) b.0 (types_in d)) is ∙ fit whole))

  pub deed_calls : (event : ℕ) (args : List Value) (answer : Reply) → IsOfRaise event args answer → All (BelongsTo s) (calls_left answer)
  deed_calls event args answer said =
      let b = bounds_there d s sound in
      let calls =
      calls_belong s MAX_RUNS (raised runner.Raiser (units_in d) b.0 0 event args) (raised_calls (IsLiveAt s) runner.Raiser (units_in d) b.0 0 (bounds_may s d.events b.0 b.1) event args) in
      subst (λ (r : Reply). All (BelongsTo s) (calls_left r)) (sym (said b.0 b.1)) calls

  -- a deed that is left to a job
  pub deed_left : (asked : Deed) (event : ℕ) (args copy : List Value) → asked ≡ deed.Later event args → copy ≡ args
      → ((answer : Reply) → reply_if_fit (types_in d) event args answer ≡ answer) → IsDeedReply d s asked (reply.Queued (call.Whole event copy))
  deed_left asked event args copy is same fit =
      let b = bounds_there d s sound in
      (b.0, b.1, ap (λ xs. reply.Queued (call.Whole event xs)) same ∙ sym (ap (deed_reply (units_in d) b.0 (types_in d)) is ∙ fit (reply.Queued (call.Whole event args))))

  -- the call of a job
  pub job_done : (asked : JobCall) (made : JobCall) → asked ≡ made → (answer : Reply) → OnBounds d s (λ bounds. answer ≡ job_reply (units_in d) bounds made) → IsJobReply d s asked answer
  job_done asked made is answer said =
      let b = bounds_there d s sound in
      (b.0, b.1, said b.0 b.1 ∙ sym (ap (job_reply (units_in d) b.0) is))

  pub no_calls_of : (made : JobCall) (answer : Reply) → OnBounds d s (λ bounds. answer ≡ job_reply (units_in d) bounds made) → calls_left answer ≡ []
  no_calls_of (call.Whole event args) answer said =
      let b = bounds_there d s sound in
      ap calls_left (said b.0 b.1)
      ∙ no_calls_left MAX_RUNS (raised runner.Job (units_in d) b.0 0 event args) (raised_calls (λ event number. ⊥) runner.Job (units_in d) b.0 0 (jobs_may (λ event number. ⊥) 0 b.0) event args)
  no_calls_of (call.Binding event number args) answer said =
      let b = bounds_there d s sound in
      let raise = raised_after runner.Job (units_in d) b.0 event in
      ap calls_left (said b.0 b.1)
      ∙ no_calls_left MAX_RUNS (job_of (units_in d) event number (handler_at b.0 event number) raise args)
      (job_calls (λ event number. ⊥) (units_in d) event number (handler_at b.0 event number) raise args
      (raised_calls (λ event number. ⊥) runner.Job (units_in d) (drop (suc event) b.0) (suc event) (jobs_may (λ event number. ⊥) (suc event) (drop (suc event) b.0))))
