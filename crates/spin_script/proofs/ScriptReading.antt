-- A line behind the script so far.
use Rattle.std.proofs.Common.{◌≡◌, ◌<◌, ◌≤◌, ◌+◌, ℕ, true, false, List, [], ◌∷◌, length, Result, Ok, Err, refl, sym, ap, subst, ◌∙◌, inl, inr, arith}
use Rattle.std.specs.Prelude.{nat_lt, ◌==◌}
use Rattle.std.specs.Str.Lines.{lines}
use Rattle.std.proofs.lemmas.Bool.Decides.{nat_tests}
use Rattle.spin_grammar.specs.declared.kind.Kind.{Kind}
use Rattle.spin_grammar.specs.declared.cause.Cause.{Cause}
use Rattle.spin_grammar.specs.declared.fault.Fault.{Fault}
use Rattle.spin_grammar.specs.declared.line.Statement.{Statement}
use Rattle.spin_grammar.specs.Lines.{GivesLine}
use Rattle.spin_grammar.specs.declared.cause.Cause.TheVariants as cause
use Rattle.spin_script.specs.declared.script.Script.{Script}
use Rattle.spin_script.specs.declared.script.ScriptFault.{ScriptFault}
use Rattle.spin_script.specs.declared.script.ScriptFault.TheVariants as refusal
use Rattle.spin_script.specs.States.{NativeData, ScriptState, ScriptData, start, script_in}
use Rattle.spin_script.specs.Language.{Says, Outcome, head, Passes, IsLineRefused, outcome_at_end, ComesTo, IsScript}
use Rattle.spin_script.specs.Inner.Reader.{TakesSaid, GivesSaid, GivesState}
use Rattle.spin_script.specs.Scripts.{cause_number, script_seen, IsBad}

-- a line that was read, and was added or not
pub said_gives : {A : Type 0} (n : NativeData) (s : ScriptState) (number : ℕ) (k : Kind) (ws : List (List ℕ)) (said : Statement) (r : Result A Fault) (t : ScriptState)
    → GivesLine s.version k ws (Ok said) → TakesSaid n s number said r t → GivesSaid n s number k ws r t
said_gives n s number k ws said (Ok a) t g adds = let added = adds g.0 g.2 in (g.0, g.1, added.0, added.1)
said_gives n s number k ws said (Err f) t g adds = λ c is. inr (g.0, g.1, adds g.0 g.2 c is)

pub line_gives : {A : Type 0} (n : NativeData) (s : ScriptState) (number : ℕ) (k : Kind) (ws : List (List ℕ)) (line : List ℕ) (r : Result A Fault) (t : ScriptState)
    → head s line ≡ Ok (Says k ws) → GivesSaid n s number k ws r t → GivesState n s number line r t
line_gives n s number k ws line (Ok a) t h g = rw h g
line_gives n s number k ws line (Err f) t h g = λ c is. rw h (g c is)

-- ---- lines in order

-- a line that passes
pub comes_on : (n : NativeData) (s t : ScriptState) (number : ℕ) (line : List ℕ) (all more : List (List ℕ)) (o : Outcome)
    → all ≡ line ∷ more → Passes n s number (head s line) t → ComesTo n t (number + 1) more o → ComesTo n s number all o
comes_on n s t number line all more o e p behind = rw e (inl (t, p, behind))

-- a line that doesn't
pub comes_bad : (n : NativeData) (s : ScriptState) (number : ℕ) (line : List ℕ) (all more : List (List ℕ)) (c : Cause)
    → all ≡ line ∷ more → IsLineRefused n s (head s line) c → ComesTo n s number all (Err (number, c))
comes_bad n s number line all more c e r = rw e (inr (c, r, refl))

-- no line
pub comes_end : (n : NativeData) (s : ScriptState) (number : ℕ) (all : List (List ℕ)) (o : Outcome) → all ≡ [] → o ≡ outcome_at_end n s → ComesTo n s number all o
comes_end n s number all o e is = rw e is

-- a text that isn't too large
pub is_script : (n : NativeData) (text : List ℕ) (o : Outcome) → length text ≤ 1048576 → ComesTo n start 1 (lines text) o → IsScript n text o
is_script n text o small comes = let t : nat_lt 1048576 (length text) ≡ false = grind (arith, nat_tests) in rw t comes

pub too_large : (n : NativeData) (text : List ℕ) → 1048576 < length text → IsScript n text (Err (0, cause.TooLarge))
too_large n text large = let t : nat_lt 1048576 (length text) ≡ true = grind (arith, nat_tests) in rw t refl

-- ---- answers

-- a refusal that names a bad line
pub bad_at : (n : NativeData) (text : List ℕ) (line : ℕ) (c : Cause) (f : ScriptFault) → f ≡ refusal.Bad line (cause_number c) → IsScript n text (Err (line, c)) → IsBad n text f
bad_at n text line c f is bad = subst (λ (z : ScriptFault). IsBad n text z) (sym is) (c, bad, refl)

-- the next of the lines that are left is refused
pub bad_next : (n m : NativeData) (text : List ℕ) (s : ScriptState) (number : ℕ) (line : List ℕ) (all more : List (List ℕ)) (c : Cause)
    → m ≡ n → length text ≤ 1048576 → all ≡ line ∷ more → IsLineRefused m s (head s line) c
    → ((o : Outcome) → ComesTo n s number all o → ComesTo n start 1 (lines text) o) → IsScript n text (Err (number, c))
bad_next n m text s number line all more c same small is refused rest =
    is_script n text (Err (number, c)) small (rest (Err (number, c)) (comes_bad n s number line all more c is (subst (λ (k : NativeData). IsLineRefused k s (head s line) c) same refused)))

abbrev Ends : NativeData → List ℕ → ScriptState → Type 0
Ends n text s = (o : Outcome) → o ≡ outcome_at_end n s → ComesTo n start 1 (lines text) o

unversioned : (n : NativeData) (s : ScriptState) → s.version ≡ 0 → Err (1, cause.Version) ≡ outcome_at_end n s
unversioned n s none = let t : (s.version == 0) ≡ true = grind (arith, nat_tests, none) in rw t refl

versioned : (n : NativeData) (s : ScriptState) → (s.version ≡ 0 → ⊥) → Ok (script_in n s) ≡ outcome_at_end n s
versioned n s some = let t : (s.version == 0) ≡ false = grind (arith, nat_tests, some) in rw t refl

-- no version is named
pub bad_version : (n m : NativeData) (text : List ℕ) (s : ScriptState) → m ≡ n → length text ≤ 1048576 → s.version ≡ 0 → Ends m text s → IsScript n text (Err (1, cause.Version))
bad_version n m text s same small none ends =
    let o : Outcome = Err (1, cause.Version) in
    subst (λ (k : NativeData). IsScript k text o) same (is_script m text o small (ends o (unversioned m s none)))

pub gives_script : {A C E : Type 0} {B : A → Type 0} {D : C → Type 0} {F : E → Type 0} (n m k : NativeData) (text : List ℕ) (s : ScriptState) (script : Script A C E B D F)
    → m ≡ n → k ≡ m → length text ≤ 1048576 → (s.version ≡ 0 → ⊥) → Ends m text s → script_seen script ≡ script_in k s → IsScript n text (Ok (script_seen script))
gives_script n m k text s script same known small some ends made =
    let o : Outcome = Ok (script_seen script) in
    let is : o ≡ outcome_at_end m s = ap (λ (d : ScriptData). Ok d) made ∙ ap (λ (j : NativeData). Ok (script_in j s)) known ∙ versioned m s some in
    subst (λ (j : NativeData). IsScript j text o) same (is_script m text o small (ends o is))
