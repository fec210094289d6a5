-- What becomes of an open raise by an answer that is taken, and by one that isn't.
use Rattle.std.proofs.Common.{◌≡◌, ◌++◌, List, length, Option, Some, None, Result, Ok, Err, refl, sym, ap, subst, ◌∙◌, inl, inr}
use Rattle.std.specs.Prelude.{IfErr, MatchOption, ◌⊎◌}
use Rattle.std.proofs.lemmas.List.{append-nil}
use Rattle.std.specs.Option.{option_map}
use Rattle.spin_values.specs.declared.types.EventType.{EventType}
use Rattle.spin_proto.specs.Replies.{units_in}
use Rattle.spin_host.specs.declared.firing.AnswerFault.{AnswerFault}
use Rattle.spin_host.specs.declared.firing.AnswerFault.TheVariants as fault
use Rattle.spin_host.specs.declared.gift.Given.{Given}
use Rattle.spin_host.specs.declared.gift.GiftFault.{GiftFault}
use Rattle.spin_host.specs.declared.open.OpenRaise.{OpenRaise}
use Rattle.spin_host.specs.Frames.{Tells, answer_fault, due_in}
use Rattle.spin_host.specs.Gifts.{gift_fault}
use Rattle.spin_host.specs.Levels.{IsAtTop, OnTop, ups_in}
use Rattle.spin_host.specs.OpenRaises.{Next, Done, Gave, mode_of}
use Rattle.spin_c.specs.declared.moves.Move.{Move}
use Rattle.spin_c.specs.declared.moves.Move.TheVariants as move
use Rattle.spin_c.specs.declared.moves.Upshot.TheVariants as upshot
use Rattle.spin_c.specs.declared.raising.Opened.{Opened}
use Rattle.spin_c.specs.declared.raising.Raising.{Raising}
use Rattle.spin_c.specs.declared.raising.Raising.TheVariants as raising
use Rattle.spin_c.specs.Moves.{DoesAct, IsLeftBy, IsStaying, TakesGift}
use Rattle.spin_c.specs.Raisings.{IfOpen, IsIdle, setup_of}
use Rattle.spin_c.specs.Uttered.{fault_told}

-- what is so of each case
pub match_map : {X : Type 0} (o : Option X) {P P' : Type 0} {Q Q' : X → Type 0} → MatchOption o P Q → (P → P') → ((x : X) → Q x → Q' x) → MatchOption o P' Q'
match_map None m p q = p m
match_map (Some x) m p q = q x m

module _ {T E : Type 0} where
  abbrev err_or : E → Result T E → E
  err_or other (Ok t) = other
  err_or other (Err e) = e

  pub same_err : (x y : E) → ◌≡◌ {A = Result T E} (Err x) (Err y) → x ≡ y
  same_err x y same = ap (err_or x) same

module _ {T : Type 0} where
  -- an answer is taken, or not
  abbrev pub took : T → Result T AnswerFault
  took x = Ok x

  abbrev pub refused : AnswerFault → Result T AnswerFault
  refused why = Err why

-- what is asked leaves a raise open
pub stays : (asked : Move) → (asked ≡ move.Next → ⊥) → (asked ≡ move.Do → ⊥) → ((gift : List Given) (spare : Unit {0}) → asked ≡ move.Gave gift spare → ⊥) → (asked ≡ move.Abandon → ⊥)
    → (asked ≡ move.Forget → ⊥) → IsStaying asked
stays move.Lend next do' gave abandon forget = tt
stays move.LendIdle next do' gave abandon forget = tt
stays (move.Keep spare) next do' gave abandon forget = tt
stays (move.Miss spare) next do' gave abandon forget = tt
stays (move.Within event args spare) next do' gave abandon forget = tt
stays move.Next next do' gave abandon forget = absurd (next refl)
stays (move.Argument index) next do' gave abandon forget = tt
stays move.Do next do' gave abandon forget = absurd (do' refl)
stays (move.Given index) next do' gave abandon forget = tt
stays (move.GivenBytes index) next do' gave abandon forget = tt
stays (move.Gave gift spare) next do' gave abandon forget = absurd (gave gift spare refl)
stays move.Decline next do' gave abandon forget = tt
stays move.Abandon next do' gave abandon forget = absurd (abandon refl)
stays move.Forget next do' gave abandon forget = absurd (forget refl)

-- what is so of each case of why what a handler gave isn't taken, which is never want of memory
match_refused : (o : Option GiftFault) {P P' : Type 0} {Q Q' : AnswerFault → Type 0} → MatchOption (option_map fault.Refused o) P Q → (P → P')
    → ((why : AnswerFault) → (why ≡ fault.NoMemory → ⊥) → Q why → Q' why) → MatchOption (option_map fault.Refused o) P' Q'
match_refused None m p q = p m
match_refused (Some given) m p q = q (fault.Refused given) (λ bad. absurd (cc bad)) m

pub match_fault : (sig : EventType) (due : Option Next) (gift : List Given) {P P' : Type 0} {Q Q' : AnswerFault → Type 0} → MatchOption (answer_fault sig due gift) P Q → (P → P')
    → ((why : AnswerFault) → (why ≡ fault.NoMemory → ⊥) → Q why → Q' why) → MatchOption (answer_fault sig due gift) P' Q'
match_fault sig None gift m p q = q fault.NotDue (λ bad. absurd (cc bad)) m
match_fault sig (Some n) gift m p q = match_refused (gift_fault sig (mode_of n) gift) m p q

module _ {A C E : Type 0} {B : A → Type 0} {D : C → Type 0} {F : E → Type 0} where
  -- where none is open, whatever is so of one that is
  pub idle_so : (P : Opened A C E B D F → Type 0) (r : Raising A C E B D F) → IsIdle r → IfOpen r P
  idle_so P (raising.Open o) idle = absurd idle
  idle_so P (raising.Idle room) idle = tt

  as_it_was : (o : Opened A C E B D F) (r : OpenRaise) (after : Raising A C E B D F) → r ≡ o.raise → after ≡ raising.Open (record o { raise = r }) → after ≡ raising.Open o
  as_it_was o r after same left = subst (λ (x : OpenRaise). after ≡ raising.Open (record o { raise = x })) same left

  left_so : (P : Opened A C E B D F → Type 0) (o : Opened A C E B D F) (r : OpenRaise) (after : Raising A C E B D F) → P o → r ≡ o.raise
      → after ≡ raising.Open (record o { raise = r }) → IfOpen after P
  left_so P o r after so same left = subst (λ (x : Raising A C E B D F). IfOpen x P) (sym (as_it_was o r after same left)) so

  -- what is so of a raise is so of what is left where an answer isn't taken
  pub kept_so : (P : Opened A C E B D F → Type 0) (why : AnswerFault) (o : Opened A C E B D F) (r : OpenRaise) (after : Raising A C E B D F) → P o
      → (why ≡ fault.NoMemory) ⊎ (r ≡ o.raise) → IsLeftBy why (raising.Open (record o { raise = r })) after → IfOpen after P
  kept_so P fault.NoMemory o r after so kept left = idle_so P after left
  kept_so P fault.NotDue o r after so (inl bad) left = absurd (cc bad)
  kept_so P fault.NotDue o r after so (inr same) left = left_so P o r after so same left
  kept_so P (fault.Refused given) o r after so (inl bad) left = absurd (cc bad)
  kept_so P (fault.Refused given) o r after so (inr same) left = left_so P o r after so same left

  -- it isn't taken, and there was memory
  not_taken : (why : AnswerFault) (o : Opened A C E B D F) (r : OpenRaise) (after : Raising A C E B D F) → (why ≡ fault.NoMemory → ⊥) → r ≡ o.raise
      → IsLeftBy why (raising.Open (record o { raise = r })) after → after ≡ raising.Open o
  not_taken fault.NoMemory o r after some same left = absurd (some refl)
  not_taken fault.NotDue o r after some same left = as_it_was o r after same left
  not_taken (fault.Refused given) o r after some same left = as_it_was o r after same left

  -- there was none
  lost : (why : AnswerFault) (o : Opened A C E B D F) (r : OpenRaise) (after : Raising A C E B D F) → why ≡ fault.NoMemory
      → IsLeftBy why (raising.Open (record o { raise = r })) after → IsIdle after × (fault_told why ≡ upshot.NoMemory)
  lost fault.NoMemory o r after is left = (left, refl)
  lost fault.NotDue o r after is left = absurd (cc is)
  lost (fault.Refused given) o r after is left = absurd (cc is)

  -- ---- the declared act

  pub act_done : {T : Type 0} (x : T) (o : Opened A C E B D F) (r : OpenRaise)
      → OnTop (setup_of o) o.raise (λ sig e. MatchOption (due_in e o.raise.top.frame) ((took x ≡ refused fault.NotDue) × (r ≡ o.raise)) (λ _. IfErr (took x) (λ why. why ≡ fault.NoMemory)))
      → OnTop (setup_of o) o.raise (λ sig e. Tells (units_in (setup_of o)) sig e Done o.raise.top.frame r.top.frame o.raise.given r.given)
      → r.top.ups ≡ o.raise.top.ups ++ ups_in o.raise.top.frame.event (length (setup_of o).events) r.given → IsAtTop o.raise r × (r.started ≡ o.raise.started)
      → DoesAct o (raising.Open (record o { raise = r })) (upshot.Gave (length r.given))
  act_done x o r fits tells ups same = λ bounds sig e are typed read.
      match_map (due_in e o.raise.top.frame) (fits bounds sig e are typed read) (λ bad. absurd (cc (bad.0)))
      (λ n _. inl record { raise = r; left = refl; tells = tells bounds sig e are typed read; ups_are = ups; same = same; told_is = refl })

  pub act_not_done : (T : Type 0) (why : AnswerFault) (o : Opened A C E B D F) (r : OpenRaise) (after : Raising A C E B D F)
      → OnTop (setup_of o) o.raise (λ sig e. MatchOption (due_in e o.raise.top.frame) ((refused {T = T} why ≡ refused fault.NotDue) × (r ≡ o.raise)) (λ _. why ≡ fault.NoMemory))
      → IsLeftBy why (raising.Open (record o { raise = r })) after → DoesAct o after (fault_told why)
  act_not_done T why o r after fits left = λ bounds sig e are typed read.
      match_map (due_in e o.raise.top.frame) (fits bounds sig e are typed read)
      (λ none. let is : why ≡ fault.NotDue = same_err why fault.NotDue none.0 in
      (not_taken why o r after (λ bad. absurd (cc (is, bad))) none.1 left, ap fault_told is))
      (λ n is. inr (lost why o r after is left))

  -- ---- what a handler gave

  pub gift_taken : {T : Type 0} (x : T) (o : Opened A C E B D F) (r : OpenRaise) (gift after : List Given)
      → OnTop (setup_of o) o.raise (λ sig e. MatchOption (answer_fault sig (due_in e o.raise.top.frame) gift) (IfErr (took x) (λ why. why ≡ fault.NoMemory))
      (λ why. (took x ≡ refused why) × (r ≡ o.raise) × (after ≡ gift)))
      → OnTop (setup_of o) o.raise (λ sig e. Tells (units_in (setup_of o)) sig e (Gave gift) o.raise.top.frame r.top.frame o.raise.given r.given)
      → IsAtTop o.raise r × (r.started ≡ o.raise.started) × (r.top.ups ≡ o.raise.top.ups)
      → TakesGift o gift (raising.Open (record o { raise = r })) (upshot.Gave (length r.given))
  gift_taken x o r gift after fits tells same = λ bounds sig e are typed read.
      match_map (answer_fault sig (due_in e o.raise.top.frame) gift) (fits bounds sig e are typed read)
      (λ _. inl record {
        raise = r;
        left = refl;
        tells = tells bounds sig e are typed read;
        ups_are = same.2 ∙ sym (append-nil o.raise.top.ups);
        same = (same.0, same.1);
        told_is = refl;
      })
      (λ why bad. absurd (cc (bad.0)))

  pub gift_not_taken : (T : Type 0) (why : AnswerFault) (o : Opened A C E B D F) (r : OpenRaise) (gift left' : List Given) (after : Raising A C E B D F)
      → OnTop (setup_of o) o.raise (λ sig e. MatchOption (answer_fault sig (due_in e o.raise.top.frame) gift) (why ≡ fault.NoMemory)
      (λ other. (refused {T = T} why ≡ refused other) × (r ≡ o.raise) × (left' ≡ gift)))
      → IsLeftBy why (raising.Open (record o { raise = r })) after → TakesGift o gift after (fault_told why)
  gift_not_taken T why o r gift left' after fits left = λ bounds sig e are typed read.
      match_fault sig (due_in e o.raise.top.frame) gift (fits bounds sig e are typed read) (λ is. inr (lost why o r after is left))
      (λ other some bad. let is : why ≡ other = same_err why other bad.0 in
      (not_taken why o r after (λ no. some (sym is ∙ no)) bad.1 left, ap fault_told is))
