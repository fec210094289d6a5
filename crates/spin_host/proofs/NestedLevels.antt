-- Raises within one another: one is put on the others, or the last ends.
use Rattle.std.proofs.Common.{◌≡◌, ℕ, ◌<◌, ◌≤◌, ◌+◌, List, [], ◌∷◌, ◌++◌, length, Some, refl, sym, subst, arith}
use Rattle.std.specs.List.{All}
use Rattle.std.specs.Arc.{arc_value}
use Rattle.std.proofs.lemmas.List.Elements.{All-nil, All-push, All-pop}
use Rattle.spin_table.specs.Setups.{SetupData}
use Rattle.spin_table.specs.Soundness.{IsSoundVersion}
use Rattle.spin_host.specs.declared.open.Level.{Level}
use Rattle.spin_host.specs.declared.open.OpenRaise.{OpenRaise}
use Rattle.spin_proto.specs.declared.reply.TheConstants.{MAX_RUNS}
use Rattle.spin_host.specs.Levels.{IsLevel, AreNested, IsOpen, NestingEnds}

pub nested_split : (k : ℕ) (ls : List Level) (l : Level) → AreNested k (ls ++ l ∷ []) → AreNested k ls × (k + length ls ≤ l.frame.event)
nested_split k [] l h = (tt, omega (arith, h.0))
nested_split k (x ∷ xs) l h =
    let rest = nested_split (k + 1) xs l h.1 in
    let deep : k + 1 + length xs ≤ l.frame.event = rest.1 in
    ((h.0, rest.0), omega (arith, deep))

pub nested_join : (k : ℕ) (ls : List Level) (l : Level) → AreNested k ls → k + length ls ≤ l.frame.event → AreNested k (ls ++ l ∷ [])
nested_join k [] l h deep = (omega (arith, deep), tt)
nested_join k (x ∷ xs) l h deep = (h.0, nested_join (k + 1) xs l h.1 (omega (arith, deep)))

-- the last has another raise of the same event
nested_same : (ls : List Level) (l l' : Level) → l'.frame.event ≡ l.frame.event → AreNested 0 (ls ++ l ∷ []) → AreNested 0 (ls ++ l' ∷ [])
nested_same ls l l' same h =
    let both = nested_split 0 ls l h in
    let deep : 0 + length ls ≤ l.frame.event = both.1 in
    nested_join 0 ls l' both.0 (omega (arith, deep, same))

nested_push : (ls : List Level) (l next : Level) → l.frame.event < next.frame.event → AreNested 0 (ls ++ l ∷ []) → AreNested 0 ((ls ++ l ∷ []) ++ next ∷ [])
nested_push ls l next up h =
    let deep : 0 + length ls ≤ l.frame.event = (nested_split 0 ls l h).1 in
    nested_join 0 (ls ++ l ∷ []) next h (within deep)
  where
    within : 0 + length ls ≤ l.frame.event → 0 + length (ls ++ l ∷ []) ≤ next.frame.event
    within deep = omega (arith, deep, up, longer ls)
      where
        longer : (xs : List Level) → length (xs ++ l ∷ []) ≡ length xs + 1
        longer [] = refl
        longer (x ∷ xs) = omega (arith, longer xs)

-- a raise is opened, and none is around it
pub stands_alone : (d : SetupData) (o : OpenRaise) → IsSoundVersion d (arc_value o.version) → IsLevel (length d.events) o.top → o.below ≡ [] → o.started ≡ 0 → IsOpen d o
stands_alone d o sound top none started = record {
  sound = sound;
  top = top;
  below = subst (λ (ls : List Level). All (IsLevel (length d.events)) ls) (sym none) (All-nil (IsLevel (length d.events)));
  nested = subst (λ (ls : List Level). AreNested 0 (ls ++ o.top ∷ [])) (sym none) (omega arith, tt);
  few = omega (arith, started);
}

-- the innermost raise goes on
pub goes_on : (d : SetupData) (o o' : OpenRaise) → IsOpen d o → o'.version ≡ o.version → o'.below ≡ o.below → o'.top.frame.event ≡ o.top.frame.event
    → IsLevel (length d.events) o'.top → o'.started ≤ MAX_RUNS → IsOpen d o'
goes_on d o o' h version below event level few = record {
  sound = subst (λ v. IsSoundVersion d (arc_value v)) (sym version) h.sound;
  top = level;
  below = subst (λ (ls : List Level). All (IsLevel (length d.events)) ls) (sym below) h.below;
  nested = subst (λ (ls : List Level). AreNested 0 (ls ++ o'.top ∷ [])) (sym below) (nested_same o.below o.top o'.top event h.nested);
  few = few;
}

-- another is put on it, of a greater event
pub puts_on : (d : SetupData) (o o' : OpenRaise) (around : Level) → IsOpen d o → o'.version ≡ o.version → around.frame.event ≡ o.top.frame.event
    → IsLevel (length d.events) around → o'.below ≡ o.below ++ around ∷ [] → o.top.frame.event < o'.top.frame.event
    → IsLevel (length d.events) o'.top → o'.started ≡ o.started → IsOpen d o'
puts_on d o o' around h version event level below up on started =
    let up' : around.frame.event < o'.top.frame.event = omega (arith, up, event) in
    record {
      sound = subst (λ v. IsSoundVersion d (arc_value v)) (sym version) h.sound;
      top = on;
      below = subst (λ (ls : List Level). All (IsLevel (length d.events)) ls) (sym below) (All-push (IsLevel (length d.events)) o.below around h.below level);
      nested =
          subst (λ (ls : List Level). AreNested 0 (ls ++ o'.top ∷ [])) (sym below)
          (nested_push o.below around o'.top up' (nested_same o.below o.top around event h.nested));
      few = omega (arith, h.few, started);
    }

-- it ends, and the one around it goes on
pub takes_off : (d : SetupData) (o o' : OpenRaise) → IsOpen d o → o'.version ≡ o.version → o.below ≡ o'.below ++ o'.top ∷ [] → o'.started ≡ o.started → IsOpen d o'
takes_off d o o' h version below started =
    let all = All-pop (IsLevel (length d.events)) o.below o'.below (Some o'.top) below h.below in
    record {
      sound = subst (λ v. IsSoundVersion d (arc_value v)) (sym version) h.sound;
      top = all.1;
      below = all.0;
      nested = subst (λ (ls : List Level). AreNested 0 ls) below (nested_split 0 o.below o.top h.nested).0;
      few = omega (arith, h.few, started);
    }

pub nesting_ends : NestingEnds
nesting_ends d o h =
    let deep : 0 + length o.below ≤ o.top.frame.event = (nested_split 0 o.below o.top h.nested).1 in
    (omega (arith, deep, h.top.0), h.few)
