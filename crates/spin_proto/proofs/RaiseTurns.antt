-- Turns of the loops of a raise, by what is done and what is to come.
use Rattle.std.proofs.Common.{◌≡◌, ℕ, zero, suc, ◌+◌, ◌<◌, ◌≤◌, ◌==◌, Bool, true, false, cond, List, [], ◌∷◌, ◌++◌, drop, length}
use Rattle.std.proofs.Common.{fold, sym, ap, subst, ◌∙◌, append_assoc, arith, Option, Some, None, unwrap_or}
use Rattle.std.specs.Prelude.{slice_get}
use Rattle.std.specs.List.{flat_map}
use Rattle.std.proofs.lemmas.Bool.Decides.{nat_tests}
use Rattle.std.proofs.Math.Seq.{drop-nil}
use Rattle.std.proofs.lemmas.List.{append-nil}
use Rattle.spin_values.specs.declared.values.Value.{Value}
use Rattle.spin_code.specs.declared.merge.Merge.{Merge}
use Rattle.spin_objects.specs.declared.item.Item.{Item}
use Rattle.spin_raise.specs.declared.answer.Answer.{Answer}
use Rattle.spin_raise.specs.declared.answer.Answer.TheVariants as answer
use Rattle.spin_raise.specs.declared.stepping.Stepped.TheVariants as stepped
use Rattle.spin_raise.specs.declared.stepping.Progress.{Progress}
use Rattle.spin_raise.specs.declared.bound.Runner.{Runner}
use Rattle.spin_raise.specs.Firing.{Units, Bound, Firing, fired, items_by, answer_of}
use Rattle.spin_raise.specs.Progress.{answer_after, IsStep, to_come}
use Rattle.spin_raise.proofs.HandlerWalk.{fold_fired}
use Rattle.spin_raise.proofs.RaiseProgress.{starts as begins_all}
use Rattle.spin_proto.specs.declared.walk.Walk.{Walk}
use Rattle.spin_proto.specs.declared.walk.Upward.{Upward}
use Rattle.spin_proto.specs.declared.reply.Step.TheVariants as step
use Rattle.spin_proto.specs.Whole.{Mark, Raised, Plain, marks_at, marks_up, marks_of, raised, raised_with, raised_after, starts, ups_of}
use Rattle.spin_proto.specs.Inner.Walks.{Gained, Comes, Notes, UpsRise}
use Rattle.spin_proto.specs.Inner.Turns.{IsShort}
use Rattle.spin_proto.proofs.WalkLemmas.{Owes, owes_all, owes_on, owes_spent, owes_none, starts-append}
use Rattle.spin_proto.proofs.RisingRaises.{Serves, FiringsRise, fired_rises}

-- a raise among later events ---------------------------------------------------

test_later : (from event : ℕ) → from < event → (from == event) ≡ false
test_later from event lt = grind (arith, nat_tests)

test_here : (from event : ℕ) → from ≡ event → (from == event) ≡ true
test_here from event e = grind (arith, nat_tests)

at_later : (t : Bool) → t ≡ false → (a b : Raised) → cond t a b ≡ b
at_later t e a b = ap (λ t. cond t a b) e

at_here : (t : Bool) → t ≡ true → (a b : Raised) → cond t a b ≡ a
at_here t e a b = ap (λ t. cond t a b) e

raised_from : (by : Runner) (u : Units) (bs : List Bound) (m n event : ℕ) (args : List Value) → m ≡ n → raised by u bs m event args ≡ raised by u bs n event args
raised_from by u bs m n event args e = ap (λ n. raised by u bs n event args) e

-- the events before its own don't matter
pub raised_later : (by : Runner) (u : Units) (bs : List Bound) (from k event : ℕ) (args : List Value)
    → from + k ≤ event → raised by u (drop k bs) (from + k) event args ≡ raised by u bs from event args
raised_later by u bs from zero event args le = raised_from by u bs (from + 0) from event args (omega arith)
raised_later by u [] from (suc k) event args le = ap (λ xs. raised by u xs (from + suc k) event args) (drop-nil (suc k))
raised_later by u (b ∷ bs) from (suc k) event args le =
    raised_from by u (drop k bs) (from + suc k) (suc from + k) event args (omega arith)
    ∙ raised_later by u bs (suc from) k event args (omega (arith, le))
    ∙ sym (at_later (from == event) (test_later from event (omega (arith, le))) (raised_with by u event b (raised by u bs (suc from)) args) (raised by u bs (suc from) event args))

raised_on : (by : Runner) (u : Units) (b : Bound) (bs : List Bound) (from event : ℕ) (args : List Value) → from ≡ event
    → raised_with by u event b (raised by u bs (suc from)) args ≡ raised_with by u event b (raised by u bs (suc event)) args
raised_on by u b bs from event args e = ap (λ n. raised_with by u event b (raised by u bs (suc n)) args) e

-- a raise at its own event
raised_here : (by : Runner) (u : Units) (bs : List Bound) (b : Bound) (from k event : ℕ) (args : List Value) → from + k ≡ event
    → slice_get bs k ≡ Some b → raised by u bs from event args ≡ raised_with by u event b (raised by u (drop (suc k) bs) (suc event)) args
raised_here by u [] b from k event args at there = cc
raised_here by u (c ∷ bs) b from zero event args at there =
    at_here (from == event) (test_here from event (omega (arith, at))) (raised_with by u event c (raised by u bs (suc from)) args) (raised by u bs (suc from) event args)
    ∙ ap (λ x. raised_with by u event x (raised by u bs (suc from)) args) (ap (λ o. unwrap_or o c) there)
    ∙ raised_on by u b bs from event args (omega (arith, at))
raised_here by u (c ∷ bs) b from (suc k) event args at there =
    at_later (from == event) (test_later from event (omega (arith, at))) (raised_with by u event c (raised by u bs (suc from)) args) (raised by u bs (suc from) event args)
    ∙ raised_here by u bs b (suc from) k event args (omega (arith, at)) there

pub raised_at : (by : Runner) (u : Units) (bs : List Bound) (b : Bound) (event : ℕ) (args : List Value)
    → slice_get bs event ≡ Some b → raised by u bs 0 event args ≡ raised_with by u event b (raised_after by u bs event) args
raised_at by u bs b event args there = raised_here by u bs b 0 event event args (omega arith) there

pub raised_up : (by : Runner) (u : Units) (bs : List Bound) (event to : ℕ) (args : List Value) → event < to → raised by u bs 0 to args ≡ raised by u (drop (suc event) bs) (suc event) to args
raised_up by u bs event to args lt = sym (raised_from by u (drop (suc event) bs) (suc event) (0 + suc event) to args (omega arith) ∙ raised_later by u bs 0 (suc event) to args (omega (arith, lt)))

-- turns of the two loops ---------------------------------------------------------

pub up_on : (all rest : List Mark) (to : ℕ) (r : Raised) (a : Answer) (w_0 w w_1 w_2 w_3 : Walk) → Owes all ((Plain (step.Up to) ∷ r.marks ++ Plain (step.Back r.answer) ∷ []) ++ rest) w_0 w
    → Gained (Plain (step.Up to) ∷ []) w w_1 → Comes (Some a) r w_1 w_2 → Gained (Plain (step.Back a) ∷ []) w_2 w_3 → Owes all rest w_0 w_3
up_on all rest to r a w_0 w w_1 w_2 w_3 o up comes back =
    let P : List Mark → Type 0 = λ ms. Owes all ms w_0 w_1 in
    let Q : Answer → Type 0 = λ a. Gained (Plain (step.Back a) ∷ []) w_2 w_3 in
    let after_up = owes_on all (Plain (step.Up to) ∷ []) ((r.marks ++ Plain (step.Back r.answer) ∷ []) ++ rest) w_0 w w_1 o up in
    let after_all = owes_on all r.marks (Plain (step.Back r.answer) ∷ rest) w_0 w_1 w_2 (subst P (append_assoc r.marks (Plain (step.Back r.answer) ∷ []) rest) after_up) comes.1 in
    owes_on all (Plain (step.Back r.answer) ∷ []) rest w_0 w_2 w_3 after_all (subst Q comes.0 back)

pub up_spent : (all rest : List Mark) (to : ℕ) (r : Raised) (w_0 w w_1 w_2 : Walk) → Owes all ((Plain (step.Up to) ∷ r.marks ++ Plain (step.Back r.answer) ∷ []) ++ rest) w_0 w
    → Gained (Plain (step.Up to) ∷ []) w w_1 → Comes None r w_1 w_2 → w_0.left < starts all
up_spent all rest to r w_0 w w_1 w_2 o up comes =
    let P : List Mark → Type 0 = λ ms. Owes all ms w_0 w_1 in
    let after_up = owes_on all (Plain (step.Up to) ∷ []) ((r.marks ++ Plain (step.Back r.answer) ∷ []) ++ rest) w_0 w w_1 o up in
    owes_spent all r.marks (Plain (step.Back r.answer) ∷ rest) w_0 w_1 (subst P (append_assoc r.marks (Plain (step.Back r.answer) ∷ []) rest) after_up) comes

pub follow_on : (by : Runner) (u : Units) (bs : List Bound) (count event : ℕ) (all : List Mark) (up : Upward) (items rest : List Upward) (a : Answer) (w_0 w w_1 w_2 w_3 : Walk)
    → items ≡ up ∷ rest → UpsRise count event items → Owes all (flat_map (marks_up (raised_after by u bs event)) items) w_0 w → Gained (Plain (step.Up up.event) ∷ []) w w_1
    → Comes (Some a) (raised by u bs 0 up.event up.args) w_1 w_2 → Gained (Plain (step.Back a) ∷ []) w_2 w_3 → Owes all (flat_map (marks_up (raised_after by u bs event)) rest) w_0 w_3
follow_on by u bs count event all up items rest a w_0 w w_1 w_2 w_3 e rise o went comes back =
    let later = raised_after by u bs event in
    let P : List Upward → Type 0 = λ ups. Owes all (flat_map (marks_up later) ups) w_0 w in
    let Q : List Upward → Type 0 = λ ups. UpsRise count event ups in
    let R : Raised → Type 0 = λ r. Comes (Some a) r w_1 w_2 in
    let rises = subst Q e rise in
    up_on all (flat_map (marks_up later) rest) up.event (later up.event up.args) a w_0 w w_1 w_2 w_3 (subst P e o) went (subst R (raised_up by u bs event up.event up.args rises.0) comes) back

-- a raise upwards of equal arguments
pub came_up : (by : Runner) (u : Units) (bs : List Bound) (event : ℕ) (args args' : List Value) (o : Option Answer) (w w' : Walk)
    → args' ≡ args → Comes o (raised by u bs 0 event args') w w' → Comes o (raised by u bs 0 event args) w w'
came_up by u bs event args args' o w w' same h = let P : List Value → Type 0 = λ xs. Comes o (raised by u bs 0 event xs) w w' in subst P same h

pub rest_rises : (count event : ℕ) (up : Upward) (items rest : List Upward) → items ≡ up ∷ rest → UpsRise count event items → UpsRise count event rest
rest_rises count event up items rest e rise = let Q : List Upward → Type 0 = λ ups. UpsRise count event ups in (subst Q e rise).2

pub follow_spent : (by : Runner) (u : Units) (bs : List Bound) (count event : ℕ) (all : List Mark) (up : Upward) (items rest : List Upward) (w_0 w w_1 w_2 : Walk)
    → items ≡ up ∷ rest → UpsRise count event items → Owes all (flat_map (marks_up (raised_after by u bs event)) items) w_0 w
    → Gained (Plain (step.Up up.event) ∷ []) w w_1 → Comes None (raised by u bs 0 up.event up.args) w_1 w_2 → w_0.left < starts all
follow_spent by u bs count event all up items rest w_0 w w_1 w_2 e rise o went comes =
    let later = raised_after by u bs event in
    let P : List Upward → Type 0 = λ ups. Owes all (flat_map (marks_up later) ups) w_0 w in
    let Q : List Upward → Type 0 = λ ups. UpsRise count event ups in
    let R : Raised → Type 0 = λ r. Comes None r w_1 w_2 in
    let rises = subst Q e rise in
    up_spent all (flat_map (marks_up later) rest) up.event (later up.event up.args) w_0 w w_1 w_2 (subst P e o) went (subst R (raised_up by u bs event up.event up.args rises.0) comes)

-- what a firing gave was noted, and then its raises upwards were done
noted : (event : ℕ) (raise : ℕ → List Value → Raised) (given : List Item) (ups : List Upward) (w_0 w : Walk)
    → Notes true ups event given w_0 w → Owes (marks_of event raise given) (flat_map (marks_up raise) ups ++ []) w_0 w
noted event raise given ups w_0 w (e, g) =
    let all = marks_of event raise given in
    let P : List Upward → Type 0 = λ us. Owes all (flat_map (marks_up raise) us) w_0 w in
    let Q : List Mark → Type 0 = λ ms. Owes all ms w_0 w in
    subst Q (sym (append-nil (flat_map (marks_up raise) ups)))
    (subst P (sym e) (owes_on all (flat_map (marks_at event) given) (flat_map (marks_up raise) (ups_of given)) w_0 w_0 w (owes_all all w_0) g))

pub follow_waits : (event : ℕ) (raise : ℕ → List Value → Raised) (given : List Item) (items ups : List Upward) (w_0 w : Walk)
    → items ≡ ups → Notes true ups event given w_0 w → Owes (marks_of event raise given) (flat_map (marks_up raise) items) w_0 w
follow_waits event raise given items ups w_0 w e n =
    let all = marks_of event raise given in
    let P : List Upward → Type 0 = λ us. Owes all (flat_map (marks_up raise) us) w_0 w in
    let Q : List Mark → Type 0 = λ ms. Owes all ms w_0 w in
    subst P (sym e) (subst Q (append-nil (flat_map (marks_up raise) ups)) (noted event raise given ups w_0 w n))

pub follow_rises : (count event : ℕ) (given : List Item) (items ups : List Upward) → items ≡ ups → ups ≡ ups_of given → UpsRise count event (ups_of given) → UpsRise count event items
follow_rises count event given items ups e e' rise = let P : List Upward → Type 0 = λ us. UpsRise count event us in subst P (sym (e ∙ e')) rise

pub follow_done : (event : ℕ) (raise : ℕ → List Value → Raised) (given : List Item) (ups : List Upward) (w_0 w w' : Walk)
    → Notes true ups event given w_0 w → Owes (flat_map (marks_up raise) ups) [] w w' → Gained (marks_of event raise given) w_0 w'
follow_done event raise given ups w_0 w w' n o =
    let all = marks_of event raise given in
    owes_none all w_0 w' (owes_on all (flat_map (marks_up raise) ups) [] w_0 w w' (noted event raise given ups w_0 w n) (owes_none (flat_map (marks_up raise) ups) w w' o))

pub follow_short : (event : ℕ) (raise : ℕ → List Value → Raised) (given : List Item) (ups : List Upward) (w_0 w : Walk)
    → Notes true ups event given w_0 w → w.left < starts (flat_map (marks_up raise) ups) → w_0.left < starts (marks_of event raise given)
follow_short event raise given ups w_0 w n h = owes_spent (marks_of event raise given) (flat_map (marks_up raise) ups) [] w_0 w (noted event raise given ups w_0 w n) h

pub notes_short : (event : ℕ) (raise : ℕ → List Value → Raised) (given : List Item) (left : ℕ) → left < starts (flat_map (marks_at event) given) → left < starts (marks_of event raise given)
notes_short event raise given left h = omega (arith, h, starts-append (flat_map (marks_at event) given) (flat_map (marks_up raise) (ups_of given)))

-- one firing
pub turn_on : (N : List Item → List Mark) (m : Merge) (room : Bool) (all : List Mark) (rest rest' : List Firing) (p p' : Progress) (out : List Item) (w_0 w w' : Walk)
    → IsStep m room stepped.Ran rest rest' p p' [] out → Owes all (flat_map (λ f. N (items_by f)) rest) w_0 w → Gained (N out) w w' → Owes all (flat_map (λ f. N (items_by f)) rest') w_0 w'
turn_on N m room all [] rest' p p' out w_0 w w' s o g = absurd s
turn_on N m room all (f ∷ fs) rest' p p' out w_0 w w' (r, e, i) o g =
    let P : List Item → Type 0 = λ out. Gained (N out) w w' in
    let Q : List Firing → Type 0 = λ fs. Owes all (flat_map (λ f. N (items_by f)) fs) w_0 w' in
    subst Q (sym e) (owes_on all (N (items_by f)) (flat_map (λ f. N (items_by f)) fs) w_0 w w' o (subst P i.items g))

pub turn_spent : (N : List Item → List Mark) (m : Merge) (room : Bool) (all : List Mark) (rest rest' : List Firing) (p p' : Progress) (out : List Item) (w_0 w : Walk)
    → IsStep m room stepped.Ran rest rest' p p' [] out → Owes all (flat_map (λ f. N (items_by f)) rest) w_0 w → w.left < starts (N out) → w_0.left < starts all
turn_spent N m room all [] rest' p p' out w_0 w s o h = absurd s
turn_spent N m room all (f ∷ fs) rest' p p' out w_0 w (r, e, i) o h =
    let P : List Item → Type 0 = λ out. w.left < starts (N out) in
    owes_spent all (N (items_by f)) (flat_map (λ f. N (items_by f)) fs) w_0 w o (subst P i.items h)

pub turn_answer : (m : Merge) (room : Bool) (x : Answer) (rest rest' : List Firing) (p p' : Progress) (out out' : List Item)
    → IsStep m room stepped.Ran rest rest' p p' out out' → fold (answer_after m) p.answer rest ≡ x → fold (answer_after m) p'.answer rest' ≡ x
turn_answer m room x [] rest' p p' out out' s h = absurd s
turn_answer m room x (f ∷ fs) rest' p p' out out' (r, e, i) h = ap (λ xs. fold (answer_after m) p'.answer xs) e ∙ ap (λ y. fold (answer_after m) y fs) i.so_far ∙ h

pub turn_rises : (count event : ℕ) (m : Merge) (room : Bool) (rest rest' : List Firing) (p p' : Progress) (out out' : List Item)
    → IsStep m room stepped.Ran rest rest' p p' out out' → FiringsRise count event rest → FiringsRise count event rest'
turn_rises count event m room [] rest' p p' out out' s h = absurd s
turn_rises count event m room (f ∷ fs) rest' p p' out out' (r, e, i) h = let P : List Firing → Type 0 = λ fs. FiringsRise count event fs in subst P (sym e) h.1

pub turn_ups : (count event : ℕ) (m : Merge) (room : Bool) (rest rest' : List Firing) (p p' : Progress) (out : List Item)
    → IsStep m room stepped.Ran rest rest' p p' [] out → FiringsRise count event rest → UpsRise count event (ups_of out)
turn_ups count event m room [] rest' p p' out s h = absurd s
turn_ups count event m room (f ∷ fs) rest' p p' out (r, e, i) h = let P : List Item → Type 0 = λ out. UpsRise count event (ups_of out) in subst P (sym i.items) h.0

pub turn_shorter : (m : Merge) (room : Bool) (rest rest' : List Firing) (p p' : Progress) (out out' : List Item) → IsStep m room stepped.Ran rest rest' p p' out out' → length rest' < length rest
turn_shorter m room [] rest' p p' out out' s = absurd s
turn_shorter m room (f ∷ fs) rest' p p' out out' (r, e, i) = omega (arith, ap length e)

-- the raises upwards of a firing wait in a queue
pub turn_waits : (count event : ℕ) (m : Merge) (room : Bool) (rest rest' : List Firing) (p p' : Progress) (out : List Item) (items ups : List Upward)
    → IsStep m room stepped.Ran rest rest' p p' [] out → FiringsRise count event rest → items ≡ ups → ups ≡ ups_of out → UpsRise count event items
turn_waits count event m room rest rest' p p' out items ups s h e e' =
    let P : List Upward → Type 0 = λ us. UpsRise count event us in
    subst P (sym (e ∙ e')) (turn_ups count event m room rest rest' p p' out s h)

-- one firing, whose raises upwards have
pub turn_short : (event : ℕ) (raise : ℕ → List Value → Raised) (m : Merge) (room : Bool) (all : List Mark) (rest rest' : List Firing) (p p' : Progress) (out : List Item)
    (items ups : List Upward) (w_0 w w_1 : Walk) → IsStep m room stepped.Ran rest rest' p p' [] out → Owes all (flat_map (λ f. marks_of event raise (items_by f)) rest) w_0 w
    → items ≡ ups → Notes true ups event out w w_1 → w_1.left < starts (flat_map (marks_up raise) items) → w_0.left < starts all
turn_short event raise m room all rest rest' p p' out items ups w_0 w w_1 s o e n h =
    turn_spent (marks_of event raise) m room all rest rest' p p' out w_0 w s o (follow_short event raise out items w w_1 (e ∙ n.0, n.1) h)

-- one firing, whose raises upwards were done
pub turn_over : (event : ℕ) (raise : ℕ → List Value → Raised) (m : Merge) (room : Bool) (all : List Mark) (rest rest' : List Firing) (p p' : Progress) (out : List Item) (items ups left : List Upward)
    (w_0 w w_1 w_2 : Walk) → IsStep m room stepped.Ran rest rest' p p' [] out → Owes all (flat_map (λ f. marks_of event raise (items_by f)) rest) w_0 w → items ≡ ups → Notes true ups event out w w_1
    → left ≡ [] → Owes (flat_map (marks_up raise) items) (flat_map (marks_up raise) left) w_1 w_2 → Owes all (flat_map (λ f. marks_of event raise (items_by f)) rest') w_0 w_2
turn_over event raise m room all rest rest' p p' out items ups left w_0 w w_1 w_2 s o e n none done =
    let P : List Upward → Type 0 = λ us. Owes (flat_map (marks_up raise) items) (flat_map (marks_up raise) us) w_1 w_2 in
    turn_on (marks_of event raise) m room all rest rest' p p' out w_0 w w_2 s o (follow_done event raise out items w w_1 w_2 (e ∙ n.0, n.1) (subst P none done))

-- one firing, which starts more than was left
pub turn_too_many : (event : ℕ) (raise : ℕ → List Value → Raised) (all : List Mark) (rest : List Firing) (w_0 w : Walk)
    → IsShort event rest w → Owes all (flat_map (λ f. marks_of event raise (items_by f)) rest) w_0 w → w_0.left < starts all
turn_too_many event raise all [] w_0 w s o = absurd s
turn_too_many event raise all (f ∷ fs) w_0 w s o =
    owes_spent all (marks_of event raise (items_by f)) (flat_map (λ f. marks_of event raise (items_by f)) fs) w_0 w o (notes_short event raise (items_by f) w.left s)

-- nothing is to come
pub turn_end : (m : Merge) (all : List Mark) (x : Answer) (N : List Item → List Mark) (rest : List Firing) (p p' : Progress) (w_0 w w' : Walk) → rest ≡ [] → p' ≡ p → w' ≡ w
    → Owes all (flat_map (λ f. N (items_by f)) rest) w_0 w → fold (answer_after m) p.answer rest ≡ x → (p'.answer ≡ x) × Gained all w_0 w'
turn_end m all x N rest p p' w_0 w w' none same idle o h =
    let P : List Firing → Type 0 = λ fs. Owes all (flat_map (λ f. N (items_by f)) fs) w_0 w in
    let Q : Walk → Type 0 = λ v. Gained all w_0 v in
    (ap (λ (x : Progress). x.answer) same ∙ ap (λ fs. fold (answer_after m) p.answer fs) (sym none) ∙ h, subst Q (sym idle) (owes_none all w_0 w (subst P none o)))

-- nothing has fired yet
pub begins_owing : (N : List Item → List Mark) (by : Runner) (u : Units) (b : Bound) (p : Progress) (args : List Value) (w : Walk) → p.from ≡ 0
    → p.answer ≡ answer.NoHandler → p.args ≡ args → Owes (flat_map (λ f. N (items_by f)) (fired by u b args)) (flat_map (λ f. N (items_by f)) (to_come by u b p)) w w
begins_owing N by u b p args w from so_far same =
    let P : List Firing → Type 0 = λ fs. Owes (flat_map (λ f. N (items_by f)) (fired by u b args)) (flat_map (λ f. N (items_by f)) fs) w w in
    subst P (sym (begins_all by u b p args from so_far same)) (owes_all (flat_map (λ f. N (items_by f)) (fired by u b args)) w)

pub begins : (count event : ℕ) (by : Runner) (u : Units) (b : Bound) (p : Progress) (args : List Value) → Serves u count event b → p.from ≡ 0 → p.answer ≡ answer.NoHandler
    → p.args ≡ args → (fold (answer_after b.merge) p.answer (to_come by u b p) ≡ answer_of b.merge (fired by u b args)) × FiringsRise count event (to_come by u b p)
begins count event by u b p args serving from so_far same =
    let e = begins_all by u b p args from so_far same in
    let Q : List Firing → Type 0 = λ fs. FiringsRise count event fs in (
      ap (λ fs. fold (answer_after b.merge) p.answer fs) e ∙ ap (λ a. fold (answer_after b.merge) a (fired by u b args)) so_far ∙ fold_fired by u b args,
      subst Q (sym e) (fired_rises count event by u b args serving),
    )

pub comes_at : (by : Runner) (u : Units) (bs : List Bound) (b : Bound) (event : ℕ) (args : List Value) (o : Option Answer) (w_0 w : Walk)
    → slice_get bs event ≡ Some b → Comes o (raised_with by u event b (raised_after by u bs event) args) w_0 w → Comes o (raised by u bs 0 event args) w_0 w
comes_at by u bs b event args o w_0 w there h = let P : Raised → Type 0 = λ r. Comes o r w_0 w in subst P (sym (raised_at by u bs b event args there)) h
