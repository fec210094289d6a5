-- What is asked of the handle of an open raise: how room is lent and taken back, and what is handed in.
use Rattle.std.proofs.Common.{◌≡◌, ℕ, List, Option, Some, None, refl, sym, ap, subst, ◌∙◌, inl, inr}
use Rattle.std.specs.Prelude.{◌⊎◌, Bool, true, false, is_some}
use Rattle.spin_c.specs.declared.moves.Move.{Move}
use Rattle.spin_c.specs.declared.moves.Move.TheVariants as move
use Rattle.spin_c.specs.declared.moves.Upshot.{Upshot}
use Rattle.spin_c.specs.declared.moves.Upshot.TheVariants as upshot
use Rattle.spin_c.specs.declared.raising.Raising.{Raising}
use Rattle.spin_c.specs.declared.raising.Raising.TheVariants as raising
use Rattle.spin_host.specs.Frames.{due_in}
use Rattle.spin_host.specs.Levels.{OnTop}
use Rattle.spin_c.specs.declared.raising.Opened.{Opened}
use Rattle.spin_c.specs.Moves.{IsMissed, Moves, MovesHeld, MovesIn, missed_if}
use Rattle.spin_c.specs.Inner.Refusals.{IsToldFor, IsUnfit}
use Rattle.spin_c.specs.OpenTellings.{AreHandedBy, IsNoneDue, IsOneDue, MovesWith, number_of}
use Rattle.spin_c.specs.Raisings.{IsRaising, IsRaisingAnd, IsShut, setup_of}

none_due : {X : Type 0} (x : Option X) → false ≡ is_some x → x ≡ None
none_due None is = refl
none_due (Some x) is = absurd (cc is)

module _ {A C E : Type 0} {B : A → Type 0} {D : C → Type 0} {F : E → Type 0} where
  -- room is lent by a raise that is open, or none is
  pub lends : (kept after : Option (Raising A C E B D F)) (told : Upshot) → Moves kept move.Lend after told
      → (after ≡ kept) × ((IsRaising kept × (told ≡ upshot.Lent tt)) ⊎ (IsShut kept × (told ≡ upshot.Closed)))
  lends None after told m = (m.0, inr (tt, m.1))
  lends (Some r) None told m = absurd m
  lends (Some (raising.Idle room)) (Some after) told m = (ap Some m.0, inr (tt, m.1))
  lends (Some (raising.Open o)) (Some after) told m = (ap Some m.0, inl (tt, m.1))

  -- room is lent where none is open
  pub lends_idle : (kept after : Option (Raising A C E B D F)) (told : Upshot) → Moves kept move.LendIdle after told
      → (after ≡ kept) × ((IsShut kept × (told ≡ upshot.Lent tt)) ⊎ (IsRaising kept × (told ≡ upshot.Open)))
  lends_idle None after told m = (m.0, inl (tt, m.1))
  lends_idle (Some r) None told m = absurd m
  lends_idle (Some (raising.Idle room)) (Some after) told m = (ap Some m.0, inl (tt, m.1))
  lends_idle (Some (raising.Open o)) (Some after) told m = (ap Some m.0, inr (tt, m.1))

  -- nothing is changed where it is taken back
  pub keeps : (kept after : Option (Raising A C E B D F)) (told : Upshot) → Moves kept (move.Keep tt) after told → after ≡ kept
  keeps None after told m = m.0
  keeps (Some r) None told m = absurd m
  keeps (Some (raising.Idle room)) (Some after) told m = ap Some m.0
  keeps (Some (raising.Open o)) (Some after) told m = ap Some m.0

  -- why the room was lent, or not
  pub lent_open : (kept after : Option (Raising A C E B D F)) (told : Upshot) (room : Unit {0}) → Moves kept move.Lend after told → told ≡ upshot.Lent room → IsRaising kept
  lent_open kept after told room m is = go (lends kept after told m).1
    where
      go : (IsRaising kept × (told ≡ upshot.Lent tt)) ⊎ (IsShut kept × (told ≡ upshot.Closed)) → IsRaising kept
      go (inl lent) = lent.0
      go (inr shuts) = absurd (cc (sym shuts.1 ∙ is))

  pub lent_idle : (kept after : Option (Raising A C E B D F)) (told : Upshot) (room : Unit {0}) → Moves kept move.LendIdle after told → told ≡ upshot.Lent room → IsShut kept
  lent_idle kept after told room m is = go (lends_idle kept after told m).1
    where
      go : (IsShut kept × (told ≡ upshot.Lent tt)) ⊎ (IsRaising kept × (told ≡ upshot.Open)) → IsShut kept
      go (inl lent) = lent.0
      go (inr shuts) = absurd (cc (sym shuts.1 ∙ is))

  -- what is asked isn't to close the handle
  pub moved : (r after : Raising A C E B D F) (asked : Move) (told : Upshot) → (asked ≡ move.Forget → ⊥) → MovesIn r asked after told → MovesHeld r asked (Some after) told
  moved r after move.Lend told open' m = m
  moved r after move.LendIdle told open' m = m
  moved r after (move.Keep spare) told open' m = m
  moved r after (move.Miss spare) told open' m = m
  moved r after (move.Within event args spare) told open' m = m
  moved r after move.Next told open' m = m
  moved r after (move.Argument index) told open' m = m
  moved r after move.Do told open' m = m
  moved r after (move.Given index) told open' m = m
  moved r after (move.GivenBytes index) told open' m = m
  moved r after (move.Gave gift spare) told open' m = m
  moved r after move.Decline told open' m = m
  moved r after move.Abandon told open' m = m
  moved r after move.Forget told open' m = absurd (open' refl)

  -- ---- what is handed in

  pub unlent : (fits some : Type 0) (kept after : Option (Raising A C E B D F)) (asked : Move) (told : Upshot) → Moves kept move.Lend after told
      → ((room : Unit {0}) → told ≡ upshot.Lent room → ⊥) → MovesWith fits some kept asked after told
  unlent fits some kept after asked told m never = go (lends kept after told m)
    where
      go : (after ≡ kept) × ((IsRaising kept × (told ≡ upshot.Lent tt)) ⊎ (IsShut kept × (told ≡ upshot.Closed))) → MovesWith fits some kept asked after told
      go (same, inl lent) = absurd (never tt lent.1)
      go (same, inr shuts) = subst (λ (t : Upshot). MovesWith fits some kept asked after t) (sym shuts.1) (inl (same, shuts.0))

  missed : (fits some : Type 0) (kept : Option (Raising A C E B D F)) (o : Opened A C E B D F) (asked : Move) (told : Upshot) → fits → some → kept ≡ Some (raising.Open o)
      → IsMissed o told → MovesWith fits some kept asked kept told
  missed fits some kept o asked told fit is same m = go m.due m.due_is m.told_is
    where
      go : (due : Bool) → OnTop (setup_of o) o.raise (λ sig e. due ≡ is_some (due_in e o.raise.top.frame)) → told ≡ missed_if due → MovesWith fits some kept asked kept told
      go true so tells = subst (λ (t : Upshot). MovesWith fits some kept asked kept t) (sym tells)
          (inl (refl, (fit, is, subst (λ (k : Option (Raising A C E B D F)). IsRaisingAnd k (λ x. IsOneDue x)) (sym same) (λ bounds sig e are typed read. sym (so bounds sig e are typed read)))))
      go false so tells = subst (λ (t : Upshot). MovesWith fits some kept asked kept t) (sym tells)
          (inl (
            refl,
            (
              fit,
              subst (λ (k : Option (Raising A C E B D F)). IsRaisingAnd k (λ x. IsNoneDue x)) (sym same)
                  (λ bounds sig e are typed read. none_due (due_in e o.raise.top.frame) (so bounds sig e are typed read)),
            ),
          ))

  lacking : (fits some : Type 0) (kept after : Option (Raising A C E B D F)) (asked : Move) (told : Upshot) → fits → some → IsRaising kept → Moves kept (move.Miss tt) after told
      → MovesWith fits some kept asked after told
  lacking fits some None after asked told fit is raises m = absurd raises
  lacking fits some (Some (raising.Idle room)) after asked told fit is raises m = absurd raises
  lacking fits some (Some (raising.Open o)) None asked told fit is raises m = absurd m
  lacking fits some (Some (raising.Open o)) (Some after) asked told fit is raises m =
      subst (λ (x : Raising A C E B D F). MovesWith fits some (Some (raising.Open o)) asked (Some x) told) (sym m.0)
      (missed fits some (Some (raising.Open o)) o asked told fit is refl m.1)

  pub unfit : (fits some : Type 0) (kept lent after : Option (Raising A C E B D F)) (asked : Move) (why told : Upshot) → IsUnfit fits some why → IsRaising kept → lent ≡ kept
      → IsToldFor lent why after told → MovesWith fits some kept asked after told
  unfit fits some kept lent after asked upshot.NoArgument told is raises same m =
      subst (λ (t : Upshot). MovesWith fits some kept asked after t) (sym m.1) (inl (m.0 ∙ same, (raises, is)))
  unfit fits some kept lent after asked upshot.NoMemory told is raises same m =
      lacking fits some kept after asked told is.0 is.1 raises (subst (λ (k : Option (Raising A C E B D F)). Moves k (move.Miss tt) after told) same m)
  unfit fits some kept lent after asked other told is raises same m = absurd is

  pub fitting : (fits some : Type 0) (kept lent after : Option (Raising A C E B D F)) (asked : Move) (told : Upshot) → fits → IsRaising kept → lent ≡ kept
      → Moves lent asked after told → MovesWith fits some kept asked after told
  fitting fits some kept lent after asked told fit raises same m =
      inr (raises, fit, subst (λ (k : Option (Raising A C E B D F)). Moves k asked after told) same m)

-- no bytes are handed out
pub unhanded : (told : Upshot) (before : List ℕ) (number : ℕ) → ((bytes : List ℕ) → told ≡ upshot.Bytes bytes → ⊥) → number ≡ number_of told → AreHandedBy told before number before
unhanded upshot.Done before number none is = (is, refl)
unhanded upshot.Closed before number none is = (is, refl)
unhanded upshot.Open before number none is = (is, refl)
unhanded upshot.NoMemory before number none is = (is, refl)
unhanded upshot.NoArgument before number none is = (is, refl)
unhanded upshot.NoStep before number none is = (is, refl)
unhanded upshot.Ended before number none is = (is, refl)
unhanded (upshot.NotRaised place kind) before number none is = (is, refl)
unhanded upshot.NotDue before number none is = (is, refl)
unhanded upshot.Downward before number none is = (is, refl)
unhanded (upshot.Refused why) before number none is = (is, refl)
unhanded (upshot.Begun place) before number none is = (is, refl)
unhanded (upshot.Told step) before number none is = (is, refl)
unhanded (upshot.Word word) before number none is = (is, refl)
unhanded (upshot.Bytes bytes) before number none is = absurd (none bytes refl)
unhanded (upshot.Gave count) before number none is = (is, refl)
unhanded (upshot.Lent room) before number none is = (is, refl)
