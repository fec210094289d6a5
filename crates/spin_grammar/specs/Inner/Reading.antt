-- What reading a part of a line says of the whole line, whatever is wanted behind that part.
use Rattle.std.specs.Prelude.{◌≡◌, ◌<◌, ◌⊎◌, ℕ, suc, max, Bool, true, false, List, [], ◌∷◌}
use Rattle.std.specs.Prelude.{◌++◌, length, replicate, codes, Option, None, Some, Result, Ok, Err}
use Rattle.std.specs.List.{flat_map, list_any}
use Rattle.spin_code.specs.declared.test.Test.{Test}
use Rattle.spin_code.specs.declared.act.Part.{Part}
use Rattle.spin_code.specs.declared.act.ActStep.{ActStep}
use Rattle.spin_code.specs.Size.{test_depth, is_part_deep, is_step_deep}
use Rattle.spin_grammar.specs.declared.cause.Cause.{Cause}
use Rattle.spin_grammar.specs.declared.cause.Cause.TheVariants as cause
use Rattle.spin_grammar.specs.declared.fault.Fault.{Fault}
use Rattle.spin_grammar.specs.declared.fault.Fault.TheVariants as fault
use Rattle.spin_grammar.specs.declared.keywords.StepWord.{StepWord}
use Rattle.spin_grammar.specs.Spelling.{number, within}
use Rattle.spin_grammar.specs.Grammar as grammar
use Rattle.spin_grammar.specs.Grammar.{Atom, Fixed, Want, reads, then_read}
use Rattle.spin_grammar.specs.Inner.Keywords.{Next, step_next}
use Rattle.spin_grammar.specs.Lines.{IsKept}
use Rattle.spin_grammar.specs.Forms.{test_form, part_form, step_form}

-- The front of old is what is wanted and says the atoms; new is left, where other things are
-- wanted.
pub record Leads (wants : List Want) (atoms : List Atom) (others : List Want)
    (old new : List (List ℕ)) : Type 0 where
  pub whole : (more : List Want) → reads (wants ++ more) old
      ≡ then_read atoms (reads (others ++ more) new)

-- The front of old is what is wanted and says the atoms; new is left.
abbrev pub Takes : List Want → List Atom → List (List ℕ) → List (List ℕ) → Type 0
Takes wants atoms old new = Leads wants atoms [] old new

-- Where the fault is a cause, a word of old can't stand in what is wanted, or old ends too early,
-- and this is why.
pub record Fails (wants : List Want) (f : Fault) (old : List (List ℕ)) : Type 0 where
  pub whole : (c : Cause) → f ≡ fault.Bad c → (more : List Want) → reads (wants ++ more) old ≡ Err c

-- what was read is what was wanted, spelled so
abbrev pub Gives : {A : Type 0} → (A → List Atom) → List Want → Result A Fault → List (List ℕ)
    → List (List ℕ) → Type 0
Gives spell wants (Ok a) old new = Takes wants (spell a) old new
Gives spell wants (Err f) old new = Fails wants f old

-- the first word of what was wanted was read, and others are wanted then
abbrev pub Opens : {A : Type 0} → (A → Next) → Want → Result A Fault → List (List ℕ)
    → List (List ℕ) → Type 0
Opens next want (Ok a) old new = Leads (want ∷ []) ((next a).0 ∷ []) (next a).1 old new
Opens next want (Err f) old new = Fails (want ∷ []) f old

-- something was read for which what was read stands
abbrev pub GivesSome : {A B : Type 0} → (A → B → Type 0) → (B → List Atom) → List Want
    → Result A Fault → List (List ℕ) → List (List ℕ) → Type 0
GivesSome stands spell wants (Ok a) old new = (b : _) × Takes wants (spell b) old new × stands a b
GivesSome stands spell wants (Err f) old new = Fails wants f old

-- nothing was kept of what was read
abbrev pub IsThere : {A : Type 0} → Unit {0} → A → Type 0
IsThere u a = Unit {0}

-- Where so many things are wanted in new and stand there, so many others stood in old, where they
-- were wanted; and where those fail in new, these fail in old.
pub record Regrows {A : Type 0} (form : A → List Atom) (want : Want) (before after : ℕ)
    (old new : List (List ℕ)) : Type 0 where
  pub whole : (behind : List A) (last : List (List ℕ)) → length behind ≡ after
      → Takes (replicate after want) (flat_map form behind) new last
      → (front : List A) × (length front ≡ before) × Takes (replicate before want)
      (flat_map form front) old last
  pub fails : (f : Fault) → Fails (replicate after want) f new → Fails (replicate before want) f old

-- of so many things that are wanted, the front of old leaves so many others wanted in new
abbrev pub Skips : {A : Type 0} → (A → List Atom) → Want → ℕ → Result ℕ Fault → List (List ℕ)
    → List (List ℕ) → Type 0
Skips form want before (Ok after) old new = Regrows form want before after old new
Skips form want before (Err f) old new = Fails (replicate before want) f old

-- two things, where both are there, joined by a word
abbrev pub Joins : {A B : Type 0} → (A → List Atom) → (A → ℕ) → (B → List Atom) → (B → ℕ) → List ℕ
    → Option A → Option A → Option B → Type 0
Joins form depth form' depth' w (Some x) (Some y) (Some b) =
    (form' b ≡ Fixed w ∷ (form x ++ form y)) × (depth' b ≡ suc (max (depth x) (depth y)))
Joins form depth form' depth' w (Some x) (Some y) None = ⊥
Joins form depth form' depth' w (Some x) None o = o ≡ None
Joins form depth form' depth' w None y o = o ≡ None

-- a test, where it is there, turned round
abbrev pub Negates : Option Test → Option Test → Type 0
Negates (Some x) (Some t) =
    (test_form t ≡ Fixed (codes "not") ∷ test_form x) × (test_depth t ≡ suc (test_depth x))
Negates (Some x) None = ⊥
Negates None o = o ≡ None

-- a number from low to high was read, or why not
abbrev pub ReadsNumber : ℕ → ℕ → Result ℕ Fault → List (List ℕ) → List (List ℕ) → Type 0
ReadsNumber low high (Ok n) old new =
    (w : List ℕ) × (old ≡ w ∷ new) × (within low high (number w) ≡ Some n)
ReadsNumber low high (Err f) old new =
    (f ≡ fault.Bad cause.End) × (old ≡ []) ⊎ (f ≡ fault.Bad cause.Number) × (w : List ℕ)
    × (old ≡ w ∷ new) × (within low high (number w) ≡ None)

-- n things that were read one by one, and kept as long as nothing was too deep
pub record SoFar {A : Type 0} (form : A → List Atom) (is_deep : A → Bool)
    (wants others : List Want) (deep : Bool) (kept : List A) (n : ℕ) (old new : List (List ℕ)) :
    Type 0 where
  pub done : List A
  pub read : Leads wants (flat_map form done) others old new
  pub count : length done ≡ n
  pub all : deep ≡ false → (kept ≡ done) × (list_any is_deep done ≡ false)
  pub one : deep ≡ true → list_any is_deep done ≡ true

-- so many parts
abbrev pub GivesParts : ℕ → Result (Option (List Part)) Fault → List (List ℕ) → List (List ℕ)
    → Type 0
GivesParts count (Ok o) old new =
    (ps : List Part) × (length ps ≡ count) × Takes (replicate count grammar.Part)
    (flat_map part_form ps) old new × IsKept (list_any is_part_deep) o ps
GivesParts count (Err f) old new = Fails (replicate count grammar.Part) f old

-- the first word of the next step, or the line's end
abbrev pub GivesHead : Result (Option StepWord) Fault → List (List ℕ) → List (List ℕ) → Type 0
GivesHead (Ok None) old new = (old ≡ []) × (new ≡ [])
GivesHead (Ok (Some w)) old new =
    Leads (grammar.Steps ∷ []) ((step_next w).0 ∷ []) (step_next w).1 old new
    × (length new < length old)
GivesHead (Err f) old new = Fails (grammar.Steps ∷ []) f old

-- the rest of a step that begins with this word
abbrev pub GivesStep : StepWord → Result (Option ActStep) Fault → List (List ℕ) → List (List ℕ)
    → Type 0
GivesStep w (Ok o) old new =
    (s : ActStep) × (atoms : List Atom) × (step_form s ≡ (step_next w).0 ∷ atoms)
    × Leads (step_next w).1 atoms (grammar.Steps ∷ []) old new × IsKept is_step_deep o s
GivesStep w (Err f) old new = Fails (step_next w).1 f old

-- behind a first word something was read for which what was read stands
abbrev pub GivesBehind : {A B : Type 0} → (A → B → Type 0) → (B → List Atom) → Next
    → Result A Fault → List (List ℕ) → List (List ℕ) → Type 0
GivesBehind stands form next (Ok a) old new =
    (b : _) × (atoms : List Atom) × (form b ≡ next.0 ∷ atoms) × Takes next.1 atoms old new
    × stands a b
GivesBehind stands form next (Err f) old new = Fails next.1 f old
