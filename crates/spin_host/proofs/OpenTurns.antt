-- What comes next in an open raise, and what its answers leave.
use Rattle.std.proofs.Common.{◌≡◌, ℕ, ◌<◌, ◌≤◌, ◌+◌, Bool, true, false, cond, List, [], ◌∷◌, length, Option, Some, None, Result, Ok, Err, refl, sym, ap, subst, ◌∙◌, arith, inl, inr, nat_lt}
use Rattle.std.specs.Prelude.{is_some, nat_le, IsSome, IsSomeAnd, IfErr, MatchOption, ◌⊎◌}
use Rattle.std.specs.List.{All}
use Rattle.std.specs.Arc.{arc_value}
use Rattle.std.proofs.lemmas.Bool.Decides.{nat_tests}
use Rattle.std.proofs.lemmas.List.Elements.{All-nil, All-head, All-tail}
use Rattle.spin_values.specs.declared.values.Value.{Value}
use Rattle.spin_objects.specs.declared.item.Item.{Item}
use Rattle.spin_raise.specs.declared.answer.Answer.{Answer}
use Rattle.spin_raise.specs.Firing.{Bound, Units}
use Rattle.spin_table.specs.Setups.{SetupData}
use Rattle.spin_proto.specs.declared.reply.TheConstants.{MAX_RUNS}
use Rattle.spin_proto.specs.Replies.{units_in}
use Rattle.spin_host.specs.declared.fault.RaiseFault.TheVariants as fault
use Rattle.spin_host.specs.declared.firing.AnswerFault.{AnswerFault}
use Rattle.spin_host.specs.declared.firing.AnswerFault.TheVariants as answer
use Rattle.spin_host.specs.declared.firing.Firing.{Firing}
use Rattle.spin_host.specs.declared.frame.Frame.{Frame}
use Rattle.spin_host.specs.declared.open.Level.{Level}
use Rattle.spin_host.specs.declared.open.OpenRaise.{OpenRaise}
use Rattle.spin_host.specs.declared.turn.Turn.{Turn}
use Rattle.spin_host.specs.declared.turn.Turn.TheVariants as turn
use Rattle.spin_host.specs.declared.upward.Upward.{Upward}
use Rattle.spin_host.specs.OpenRaises.{front, after_all}
use Rattle.spin_host.specs.Frames.{due_in, firing_at, Stays, Ends}
use Rattle.spin_host.specs.Opening.{begin_fault, within_fault, or_downward}
use Rattle.spin_host.specs.Levels.{OnTop, IsUpward, IsLevel, IsOpen, IsAtTop, IsBack, IsEnd, IsUpOpened, ComesNext, told_or_spent, after_telling, started_after}
use Rattle.spin_host.proofs.FoundEvents.{on_found}
use Rattle.spin_host.proofs.NextFirings.{keeps_same}
use Rattle.spin_host.proofs.NestedLevels.{goes_on, puts_on, takes_off}

pub level_same : (count : ℕ) (l l' : Level) → l'.frame.event ≡ l.frame.event → l'.ups ≡ l.ups → IsLevel count l → IsLevel count l'
level_same count l l' event ups h =
    let P : ℕ → Type 0 = λ n. (n < count) × All (IsUpward n count) l.ups in
    let Q : List Upward → Type 0 = λ xs. (l'.frame.event < count) × All (IsUpward l'.frame.event count) xs in
    subst Q (sym ups) (subst P (sym event) h)

pub level_fresh : (count : ℕ) (l : Level) (event : ℕ) → l.frame.event ≡ event → l.ups ≡ [] → event < count → IsLevel count l
level_fresh count l event is ups low =
    let Q : List Upward → Type 0 = λ xs. (l.frame.event < count) × All (IsUpward l.frame.event count) xs in
    subst Q (sym ups) (omega (arith, low, is), All-nil (IsUpward l.frame.event count))

pub level_kept : (count event n : ℕ) (l : Level) → l.frame.event ≡ event → n ≡ count → event < count → All (IsUpward event n) l.ups → IsLevel count l
level_kept count event n l is same low rise =
    let P : ℕ → Type 0 = λ k. All (IsUpward event k) l.ups in
    let Q : ℕ → Type 0 = λ k. (k < count) × All (IsUpward k count) l.ups in
    subst Q (sym is) (low, subst P same rise)

-- the innermost raise was answered, and its raises upwards stay
pub frame_goes_on : (d : SetupData) (o : OpenRaise) (f : Frame) (given : List Item) (started : ℕ) → IsOpen d o → f.event ≡ o.top.frame.event → started ≤ MAX_RUNS
    → IsOpen d record o { top = record o.top { frame = f }; given = given; started = started }
frame_goes_on d o f given started h event few =
    let o' : OpenRaise = record o { top = record o.top { frame = f }; given = given; started = started } in
    goes_on d o o' h refl refl event (level_same (length d.events) o.top o'.top event refl h.top) few

pub same_raise : (o : OpenRaise) (f : Frame) (given : List Item) → f ≡ o.top.frame → given ≡ o.given → record o { top = record o.top { frame = f }; given = given } ≡ o
same_raise o f given e g =
    ap (λ x. record o { top = record o.top { frame = x }; given = given }) e ∙ ap (λ xs. record o { given = xs }) g

-- a gift is refused, and nothing is changed
pub gave_fault : {R G : Type 0} (why : Option AnswerFault) (r : R) (err : AnswerFault → R) (N : Type 0) (o : OpenRaise) (f : Frame) (out : List Item) (gift gift' : G)
    → MatchOption why N (λ w. (r ≡ err w) × (f ≡ o.top.frame) × (out ≡ o.given) × (gift' ≡ gift))
    → MatchOption why N (λ w. (r ≡ err w) × (record o { top = record o.top { frame = f }; given = out } ≡ o) × (gift' ≡ gift))
gave_fault {R} {G} None r err N o f out gift gift' h = h
gave_fault {R} {G} (Some w) r err N o f out gift gift' h = (h.0, same_raise o f out h.1 h.2, h.3)

-- an answer isn't taken, and nothing is changed, unless there was no memory
pub gave_kept : {R G : Type 0} (why : Option AnswerFault) (r : Result R AnswerFault) (o : OpenRaise) (f : Frame) (out : List Item) (gift gift' : G)
    → MatchOption why (IfErr r (λ w. w ≡ answer.NoMemory)) (λ w. (r ≡ Err w) × (f ≡ o.top.frame) × (out ≡ o.given) × (gift' ≡ gift))
    → IfErr r (λ w. (w ≡ answer.NoMemory) ⊎ (record o { top = record o.top { frame = f }; given = out } ≡ o))
gave_kept {R} {G} why (Ok x) o f out gift gift' h = tt
gave_kept {R} {G} None (Err w) o f out gift gift' h = inl h
gave_kept {R} {G} (Some v) (Err w) o f out gift gift' h = inr (same_raise o f out h.1 h.2)

-- a raise upwards is opened
pub next_up : (d : SetupData) (o o' : OpenRaise) (up : Upward) (rest : List Upward) (given : List Item) → IsOpen d o → o.top.ups ≡ up ∷ rest
    → IsUpOpened up record o { top = record o.top { ups = rest }; given = given } o' → IsOpen d o'
next_up d o o' up rest given h is opened =
    let all = subst (λ (xs : List Upward). All (IsUpward o.top.frame.event (length d.events)) xs) is h.top.1 in
    let first = All-head (IsUpward o.top.frame.event (length d.events)) up rest all in
    puts_on d o o' record o.top { ups = rest } h opened.2 refl
    (h.top.0, All-tail (IsUpward o.top.frame.event (length d.events)) up rest all) opened.1
    (omega (arith, first.0, opened.0.0)) (level_fresh (length d.events) o'.top up.event opened.0.0 opened.0.2 first.1) opened.3

-- opening from within --------------------------------------------------------------

pub within_is : (d : SetupData) (raised event : ℕ) (t : Bool) (args : List Value) → t ≡ true → begin_fault d event args ≡ None → raised < event
    → within_fault d raised t event args ≡ None
within_is d raised event t args is fit up =
    ap (λ b. within_fault d raised b event args) is ∙ ap (or_downward raised event) fit ∙ ap (λ b. cond b None (Some fault.Downward)) (low raised event up)
  where
    low : (a b : ℕ) → a < b → nat_lt a b ≡ true
    low a b up = grind (arith, nat_tests)

pub no_fault : {A : Type 0} (o : Option A) (N : Type 0) (S : A → Type 0) → o ≡ None → N → MatchOption o N S
no_fault {A} o N S is h = subst (λ x. MatchOption x N S) (sym is) h

-- telling --------------------------------------------------------------------------

some_due : {A : Type 0} (o : Option A) → is_some o ≡ true → (x : A) × (o ≡ Some x)
some_due {A} None e = cc
some_due {A} (Some x) e = (x, refl)

none_due : {A : Type 0} (o : Option A) → is_some o ≡ false → o ≡ None
none_due {A} None e = refl
none_due {A} (Some x) e = cc

is_due : {A : Type 0} (o : Option A) (P : A → Type 0) → IsSomeAnd o P → IsSome o
is_due {A} None P h = absurd h
is_due {A} (Some x) P h = refl

below : (a b : ℕ) → nat_le a b ≡ false → b + 1 ≤ a
below a b is = grind (arith, nat_tests)

at_least : (a b : ℕ) → nat_le a b ≡ true → a ≤ b
at_least a b is = grind (arith, nat_tests)

-- what is due is let go of
forgets : (u : Units) (e : Bound) (f f' : Frame) → Stays u e f f' → Stays u e f record f' { due = None }
forgets u e f f' stays = λ sig args told h.
    let now = stays sig args told h in
    (now.0, keeps_same u e (after_all u e (front args) told) f' now.1 record f' { due = None } refl refl tt)

module _ (d : SetupData) (o : OpenRaise) (b : Bound) (f : Frame) (firing : Firing) (found : OnTop d o (λ sig e. e ≡ b))
    (stays : Stays (units_in d) b o.top.frame f) (is : IsSomeAnd (due_in b f) (λ n. firing ≡ firing_at f.event n)) (event : f.event ≡ o.top.frame.event) where
  at_event : IsSomeAnd (due_in b f) (λ n. firing ≡ firing_at o.top.frame.event n)
  at_event = let P : ℕ → Type 0 = λ k. IsSomeAnd (due_in b f) (λ n. firing ≡ firing_at k n) in subst P event is

  pub tells : (was : Bool) (o' : OpenRaise) (t : Turn) → was ≡ is_some (due_in b o.top.frame) → t ≡ told_or_spent was (nat_le MAX_RUNS o.started) firing
      → o' ≡ after_telling was (nat_le MAX_RUNS o.started) record o { top = record o.top { frame = f } } → ComesNext d o t o'
  tells was o' t due told then = choose was (nat_le MAX_RUNS o.started) refl due told then
    where
      choose : (was full : Bool) → nat_le MAX_RUNS o.started ≡ full → was ≡ is_some (due_in b o.top.frame) → t ≡ told_or_spent was full firing
          → o' ≡ after_telling was full record o { top = record o.top { frame = f } } → ComesNext d o t o'
      choose true full has due told then =
          let n = some_due (due_in b o.top.frame) (sym due) in
          let here : OnTop d o (λ sig e. Stays (units_in d) e o.top.frame f × IsSomeAnd (due_in e f) (λ n. firing ≡ firing_at o.top.frame.event n)
          × (o.started ≡ started_after (due_in e o.top.frame) o.started)) =
          on_found d (arc_value o.version).state o.top.frame.event b
          (λ sig e. Stays (units_in d) e o.top.frame f × IsSomeAnd (due_in e f) (λ n. firing ≡ firing_at o.top.frame.event n)
          × (o.started ≡ started_after (due_in e o.top.frame) o.started)) found
          (λ sig typed. (stays, at_event, ap (λ x. started_after x o.started) (sym n.1))) in
          let P : Turn → OpenRaise → Type 0 = λ x y. ComesNext d o x y in
          subst (λ x. P x o') (sym told) (subst (P (turn.Due firing)) (sym then) ((refl, refl, event, refl), refl, here))
      choose false true has due told then =
          let over : MAX_RUNS ≤ o.started = at_least MAX_RUNS o.started has in
          let g : Frame = record f { due = None } in
          let here : OnTop d o (λ sig e. (due_in e o.top.frame ≡ None) × Stays (units_in d) e o.top.frame g
          × ((x : Frame) × Stays (units_in d) e o.top.frame x × IsSome (due_in e x))) =
          on_found d (arc_value o.version).state o.top.frame.event b
          (λ sig e. (due_in e o.top.frame ≡ None) × Stays (units_in d) e o.top.frame g
          × ((x : Frame) × Stays (units_in d) e o.top.frame x × IsSome (due_in e x))) found
          (λ sig typed. (
            none_due (due_in b o.top.frame) (sym due),
            forgets (units_in d) b o.top.frame f stays,
            (f, stays, is_due (due_in b f) (λ n. firing ≡ firing_at f.event n) is),
          )) in
          let P : Turn → OpenRaise → Type 0 = λ x y. ComesNext d o x y in
          subst (λ x. P x o') (sym told) (subst (P turn.Spent) (sym then) ((refl, refl, event, refl), refl, refl, over, here))
      choose false false has due told then =
          let here : OnTop d o (λ sig e. Stays (units_in d) e o.top.frame f × IsSomeAnd (due_in e f) (λ n. firing ≡ firing_at o.top.frame.event n)
          × (o.started + 1 ≡ started_after (due_in e o.top.frame) o.started)) =
          on_found d (arc_value o.version).state o.top.frame.event b
          (λ sig e. Stays (units_in d) e o.top.frame f × IsSomeAnd (due_in e f) (λ n. firing ≡ firing_at o.top.frame.event n)
          × (o.started + 1 ≡ started_after (due_in e o.top.frame) o.started)) found
          (λ sig typed. (stays, at_event, ap (λ x. started_after x o.started) (sym (none_due (due_in b o.top.frame) (sym due))))) in
          let P : Turn → OpenRaise → Type 0 = λ x y. ComesNext d o x y in
          subst (λ x. P x o') (sym told) (subst (P (turn.Due firing)) (sym then) ((refl, refl, event, refl), refl, here))

  pub tells_well : (was : Bool) (o' : OpenRaise) → IsOpen d o → o' ≡ after_telling was (nat_le MAX_RUNS o.started) record o { top = record o.top { frame = f } } → IsOpen d o'
  tells_well was o' h then = choose was (nat_le MAX_RUNS o.started) refl then
    where
      choose : (was full : Bool) → nat_le MAX_RUNS o.started ≡ full → o' ≡ after_telling was full record o { top = record o.top { frame = f } } → IsOpen d o'
      choose true full has then = subst (λ x. IsOpen d x) (sym then) (frame_goes_on d o f o.given o.started h event h.few)
      choose false true has then = subst (λ x. IsOpen d x) (sym then) (frame_goes_on d o record f { due = None } o.given o.started h event h.few)
      choose false false has then =
          subst (λ x. IsOpen d x) (sym then) (frame_goes_on d o f o.given (o.started + 1) h event (below MAX_RUNS o.started has))

-- ending ---------------------------------------------------------------------------

module _ (d : SetupData) (o : OpenRaise) (b : Bound) (f : Frame) (found : OnTop d o (λ sig e. e ≡ b)) (stays : Stays (units_in d) b o.top.frame f)
    (ends : Ends (units_in d) b o.top.frame f.progress.answer) (event : f.event ≡ o.top.frame.event) where
  end_here : (a : Answer) → a ≡ f.progress.answer → OnTop d o (λ sig e. Ends (units_in d) e o.top.frame a)
  end_here a is =
      on_found d (arc_value o.version).state o.top.frame.event b (λ sig e. Ends (units_in d) e o.top.frame a) found
      (λ sig typed. subst (λ (x : Answer). Ends (units_in d) b o.top.frame x) (sym is) ends)

  pub ended : (t : Turn) (o' : OpenRaise) → IsEnd record o { top = record o.top { frame = f } } t o' → ComesNext d o t o'
  ended (turn.Back a) o' h = (h.2, h.4, h.1, end_here a h.0)
  ended (turn.Ended a) o' h = (h.1, h.3, end_here a h.0, choose h.4)
    where
      choose : IsBack record o { top = record o.top { frame = f } } o' false ⊎ ((o.below ≡ []) × (o' ≡ record o { top = record o.top { frame = f } }))
          → IsBack o o' false
          ⊎ ((o.below ≡ []) × IsAtTop o o' × (o'.top.ups ≡ o.top.ups) × OnTop d o (λ sig e. Stays (units_in d) e o.top.frame o'.top.frame))
      choose (inl back) = inl back
      choose (inr (none, same)) =
          let P : OpenRaise → Type 0 = λ x. IsAtTop o x × (x.top.ups ≡ o.top.ups) × OnTop d o (λ sig e. Stays (units_in d) e o.top.frame x.top.frame) in
          let here = subst P (sym same) (
            (refl, refl, event, refl),
            refl,
            on_found d (arc_value o.version).state o.top.frame.event b (λ sig e. Stays (units_in d) e o.top.frame f) found (λ sig typed. stays),
          ) in
          inr (none, here.0, here.1, here.2)
  ended (turn.Due firing) o' h = absurd h
  ended turn.Spent o' h = absurd h
  ended (turn.Up to) o' h = absurd h

  pub ended_well : (t : Turn) (o' : OpenRaise) → IsOpen d o → IsEnd record o { top = record o.top { frame = f } } t o' → IsOpen d o'
  ended_well (turn.Back a) o' h end = takes_off d o o' h end.2 end.1.1 end.4
  ended_well (turn.Ended a) o' h end = choose end.4
    where
      choose : IsBack record o { top = record o.top { frame = f } } o' false ⊎ ((o.below ≡ []) × (o' ≡ record o { top = record o.top { frame = f } })) → IsOpen d o'
      choose (inl back) = takes_off d o o' h end.1 back.1 end.3
      choose (inr (none, same)) = subst (λ x. IsOpen d x) (sym same) (frame_goes_on d o f o.given o.started h event h.few)
  ended_well (turn.Due firing) o' h end = absurd end
  ended_well turn.Spent o' h end = absurd end
  ended_well (turn.Up to) o' h end = absurd end
