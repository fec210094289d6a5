-- How many jobs a deed leaves at most.
use Rattle.std.proofs.Common.{◌≡◌, ℕ, ◌≤◌, Bool, true, false, cond, ltb, List, [], ◌∷◌, map, length, flat_map, slice_get, refl, sym, subst, arith, length-append, ltb-false}
use Rattle.std.specs.Prelude.{Option, None, Some}
use Rattle.std.specs.Option.{option_map_or}
use Rattle.std.proofs.lemmas.List.Sums.{sum_by-cons}
use Rattle.spin_values.specs.declared.types.EventType.{EventType}
use Rattle.spin_values.specs.declared.values.Value.{Value}
use Rattle.spin_word.specs.declared.work.Deed.{Deed}
use Rattle.spin_word.specs.declared.work.Deed.TheVariants as deed
use Rattle.spin_table.specs.Setups.{SetupData}
use Rattle.spin_table.specs.States.{State}
use Rattle.spin_raise.specs.declared.bound.Runner.TheVariants as runner
use Rattle.spin_raise.specs.Firing.{Bound}
use Rattle.spin_proto.specs.declared.deed.JobCall.TheVariants as call
use Rattle.spin_proto.specs.declared.reply.TheConstants.{MAX_RUNS}
use Rattle.spin_proto.specs.declared.reply.Reply.{Reply}
use Rattle.spin_proto.specs.declared.reply.Reply.TheVariants as reply
use Rattle.spin_proto.specs.Whole.{Mark, Plain, Queued, step_of, calls_of, is_start, starts, Raised, raised, reply_of}
use Rattle.spin_proto.specs.Replies.{are_fit, units_in, types_in, deed_reply, IsDeedReply, calls_left}

one_few : (m : Mark) → length (calls_of m) ≤ cond {A = ℕ} (is_start m) 1 0
one_few (Plain s) = omega arith
one_few (Queued event number args) = omega arith

marks_few : (marks : List Mark) → length (flat_map calls_of marks) ≤ starts marks
marks_few [] = omega arith
marks_few (m ∷ marks) =
    let one = one_few m in
    let more = marks_few marks in
    omega (arith, one, more, length-append (calls_of m) (flat_map calls_of marks), sum_by-cons (λ (x : Mark). cond {A = ℕ} (is_start x) 1 0) m marks)

raised_few : (limit : ℕ) (r : Raised) → length (calls_left (reply_of limit r)) ≤ limit
raised_few limit r = go (ltb limit (starts r.marks)) refl
  where
    go : (b : Bool) → ltb limit (starts r.marks) ≡ b → length (calls_left (cond b reply.Spent (reply.Ran r.answer (map step_of r.marks) (flat_map calls_of r.marks)))) ≤ limit
    go true e = omega arith
    go false e = let few = marks_few r.marks in let room = ltb-false limit (starts r.marks) e in omega (arith, few, room)

fit_few : (o : Option EventType) (args : List Value) (answer : Reply) (n : ℕ) → length (calls_left answer) ≤ n
    → length (calls_left (option_map_or (λ sig. cond (are_fit sig args) answer reply.WrongArgs) o reply.UnknownEvent)) ≤ n
fit_few None args answer n few = omega arith
fit_few (Some sig) args answer n few = go (are_fit sig args)
  where
    go : (b : Bool) → length (calls_left (cond b answer reply.WrongArgs)) ≤ n
    go true = few
    go false = omega arith

deed_few : (d : SetupData) (bounds : List Bound) (asked : Deed) → length (calls_left (deed_reply (units_in d) bounds (types_in d) asked)) ≤ MAX_RUNS
deed_few d bounds (deed.Raise event args) =
    let all = raised runner.Raiser (units_in d) bounds 0 event args in
    fit_few (slice_get (types_in d) event) args (reply_of MAX_RUNS all) MAX_RUNS (raised_few MAX_RUNS all)
deed_few d bounds (deed.Later event args) =
    fit_few (slice_get (types_in d) event) args (reply.Queued (call.Whole event args)) MAX_RUNS (omega arith)

-- a deed leaves no more jobs than the handlers that it may start
pub calls_few : (d : SetupData) (s : State) (asked : Deed) (answer : Reply) → IsDeedReply d s asked answer → length (calls_left answer) ≤ MAX_RUNS
calls_few d s asked answer is = subst (λ (r : Reply). length (calls_left r) ≤ MAX_RUNS) (sym is.2) (deed_few d is.0 asked)
