-- Spaces by number, and their regions.
use Rattle.std.proofs.Common.{rules, ◌≡◌, ◌<◌, ℕ, zero, suc, true, false, cond, Bool, List, [], ◌∷◌, length, Option, Some, None, Result, Ok, Err, IfOk, subst, refl, sym, ap, ◌∙◌, arith, nat_le}
use Rattle.std.specs.Prelude.{slice_set, slice_index_or}
use Rattle.std.proofs.lemmas.List.{map-set, length-map}
use Rattle.spin_values.specs.declared.no_memory.NoMemory.{NoMemory}
use Rattle.spin_word.specs.declared.work.Deed.{Deed}
use Rattle.spin_proto.specs.declared.reply.Reply.{Reply}
use Rattle.spin_vm.specs.declared.came.Came.{Came}
use Rattle.spin_vm.specs.declared.line.Statement.{Statement}
use Rattle.spin_values.specs.First.{first_of}
use Rattle.spin_vm.specs.declared.cause.TraceCause.TheVariants as cause
use Rattle.spin_vm.specs.declared.line.Region.{Region}
use Rattle.spin_vm.specs.declared.line.Request.{Request}
use Rattle.spin_vm.specs.declared.line.Statement.TheVariants as said
use Rattle.spin_vm.specs.Traces.{regions_at, regions_with, regions_after, trace_checks, region_checks}
use Rattle.spin_vm.specs.Spaces.{Space, space_at, space_after, came_of, said_came, spaces_after}
use Rattle.spin_vm.specs.Inner.Lines.{regions_of}

-- a space that keeps its regions
pub keeps : (spaces : List (List Region)) (k : ℕ) → slice_set spaces k (regions_at spaces k) ≡ spaces
keeps [] k = refl
keeps (x ∷ spaces) zero = refl
keeps (x ∷ spaces) (suc k) = ap (λ xs. x ∷ xs) (keeps spaces k)

-- a space that is there, by its number
pub space_is : (spaces : List Space) (k : ℕ) (s : Space) → k < length spaces → s ≡ slice_index_or spaces k s → space_at spaces k ≡ s
space_is [] k s lt is = absurd (omega (arith, lt))
space_is (x ∷ spaces) zero s lt is = sym is
space_is (x ∷ spaces) (suc k) s lt is = space_is spaces k s (omega (arith, lt)) is

-- its regions
pub regions_is : (spaces : List Space) (k : ℕ) → regions_at (regions_of spaces) k ≡ (space_at spaces k).regions
regions_is [] k = refl
regions_is (x ∷ spaces) zero = refl
regions_is (x ∷ spaces) (suc k) = regions_is spaces k

-- a line about a space can stand only where the space is there
pub within : (spaces : List (List Region)) (k : ℕ) (asked : Request) → first_of (trace_checks spaces (said.At k asked)) ≡ None → k < length spaces
within spaces k asked e = by_test (nat_le (length spaces) k) refl e where
  by_test : (b : Bool) → nat_le (length spaces) k ≡ b → cond b (Some cause.Undeclared) (first_of (region_checks (regions_at spaces k) asked)) ≡ None → k < length spaces
  by_test true is e = absurd (search (rules, e))
  by_test false is e = grind (arith, is)

-- and then what is asked of it can stand there
pub asked_good : (spaces : List (List Region)) (k : ℕ) (asked : Request) → first_of (trace_checks spaces (said.At k asked)) ≡ None → first_of (region_checks (regions_at spaces k) asked) ≡ None
asked_good spaces k asked e = by_test (nat_le (length spaces) k) e where
  by_test : (b : Bool) → cond b (Some cause.Undeclared) (first_of (region_checks (regions_at spaces k) asked)) ≡ None → first_of (region_checks (regions_at spaces k) asked) ≡ None
  by_test true e = absurd (search (rules, e))
  by_test false e = e

-- the regions of the spaces after one of them was changed
pub regions_set : (spaces now : List Space) (k : ℕ) (s : Space) (asked : Request) → now ≡ slice_set spaces k s → s.regions ≡ regions_with (space_at spaces k).regions asked
    → regions_of now ≡ slice_set (regions_of spaces) k (regions_with (regions_at (regions_of spaces) k) asked)
regions_set spaces now k s asked is regions =
    ap regions_of is ∙ map-set (λ (x : Space). x.regions) spaces k s
    ∙ ap (slice_set (regions_of spaces) k) (regions ∙ ap (λ rs. regions_with rs asked) (sym (regions_is spaces k)))

-- ---- as the answer of a call

module _ (reply : Deed → Reply) (spaces : List Space) (w : Statement) (k : ℕ) (asked : Request) (s : Space) (is : w ≡ said.At k asked) (at : space_at spaces k ≡ s) where
  pub came_there : (r : Result (Option Came) NoMemory) → IfOk r (λ c. c ≡ came_of reply k s asked) → IfOk r (λ c. c ≡ said_came reply spaces w)
  came_there (Ok c) h = h ∙ ap (λ (x : Space). came_of reply k x asked) (sym at) ∙ ap (said_came reply spaces) (sym is)
  came_there (Err e) h = tt

  pub spaces_there : (r : Result (Option Came) NoMemory) (t : Space) → IfOk r (λ _. t ≡ space_after reply k s asked) → IfOk r (λ _. slice_set spaces k t ≡ spaces_after reply spaces w)
  spaces_there (Ok c) t h = ap (slice_set spaces k) (h ∙ ap (λ (x : Space). space_after reply k x asked) (sym at)) ∙ ap (spaces_after reply spaces) (sym is)
  spaces_there (Err e) t h = tt

pub regions_there : (spaces : List Space) (w : Statement) (k : ℕ) (asked : Request) (s : Space) → w ≡ said.At k asked
    → space_at spaces k ≡ s → (r : Result (Option Came) NoMemory) (t : Space) → IfOk r (λ _. t.regions ≡ regions_with s.regions asked)
    → IfOk r (λ _. regions_of (slice_set spaces k t) ≡ regions_after (regions_of spaces) w)
regions_there spaces w k asked s is at (Ok c) t h =
    regions_set spaces (slice_set spaces k t) k t asked refl (h ∙ ap (λ (x : Space). regions_with x.regions asked) (sym at)) ∙ ap (regions_after (regions_of spaces)) (sym is)
regions_there spaces w k asked s is at (Err e) t h = tt

-- the space of a line that can stand
pub there : (spaces : List Space) (w : Statement) (k : ℕ) (asked : Request) (s : Space) → w ≡ said.At k asked
    → first_of (trace_checks (regions_of spaces) w) ≡ None → s ≡ slice_index_or spaces k s → space_at spaces k ≡ s
there spaces w k asked s is good at =
    let lt = within (regions_of spaces) k asked (subst (λ (x : Statement). first_of (trace_checks (regions_of spaces) x) ≡ None) is good) in
    space_is spaces k s (omega (arith, lt, length-map spaces (λ (x : Space). x.regions))) at
