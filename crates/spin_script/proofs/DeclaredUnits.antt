-- The bodies and checks of the script so far are those of its lines.
use Rattle.std.proofs.Common.{◌≡◌, ◌≤◌, ℕ, suc, Bool, true, false, eqb, List, [], Result, Ok, Err, IfOk, refl, sym, ap, subst, ◌∙◌, arith}
use Rattle.std.proofs.lemmas.Bool.Decides.{nat_tests}
use Rattle.spin_objects.specs.declared.unit.Body.{Body}
use Rattle.spin_objects.specs.declared.unit.Check.{Check}
use Rattle.spin_objects.specs.declared.catalogue.Catalogue.{Catalogue}
use Rattle.spin_grammar.specs.declared.fault.Fault.{Fault}
use Rattle.spin_grammar.specs.declared.kind.Kind.{Kind}
use Rattle.spin_grammar.specs.declared.line.Statement.{Statement}
use Rattle.spin_grammar.specs.Lines.{LineMeaning, Stands, GivesLine}
use Rattle.spin_script.specs.Sections.{is_out_of_order}
use Rattle.spin_script.specs.declared.script.Script.{Script}
use Rattle.spin_script.specs.States.{NativeData, ScriptState, ScriptData, natives_seen, start, script_in}
use Rattle.spin_script.specs.Language.{Begins, Says, head}
use Rattle.spin_script.specs.Inner.Reader.{TakesSaid}
use Rattle.spin_script.specs.Scripts.{script_seen}
use Rattle.spin_script.specs.Canonical.{canonical_of, canonical}
use Rattle.spin_script.specs.RoundTrip.{Fits, is_version, ComesBack}
use Rattle.spin_script.specs.Inner.Declaring.{Grows, HasCome, IsDeclared}
use Rattle.spin_script.proofs.LinePlaces.{stands, opens}
use Rattle.spin_script.proofs.WritableScripts.{fits}
use Rattle.spin_script.proofs.WrittenLines.{same_version}
use Rattle.spin_script.proofs.CanonicalRoundTrip.{canon_of, is_back}

-- ---- the script so far

-- before the first line
pub start_declared : (n : NativeData) (s : ScriptState) (hs : List Body) (gs : List Check) → s ≡ start → hs ≡ [] → gs ≡ [] → IsDeclared n s hs gs
start_declared n s hs gs is bodies checks =
    let version : s.version ≡ 0 = ap (λ (z : ScriptState). z.version) is in
    record {
      version = omega (arith, version);
      count = 0;
      come = (is ∙ ap (λ (v : ℕ). record start { version = v }) (sym version), bodies, checks);
      fresh = λ none. refl;
    }

first_come : (n : NativeData) (s : ScriptState) (hs : List Body) (gs : List Check) → IsDeclared n s hs gs → s.version ≡ 0 → HasCome n 0 s hs gs
first_come n s hs gs x none = subst (λ (k : ℕ). HasCome n k s hs gs) (x.fresh none) x.come

is_start : (n : NativeData) (s : ScriptState) (hs : List Body) (gs : List Check) → IsDeclared n s hs gs → s.version ≡ 0 → s ≡ start
is_start n s hs gs x none = (first_come n s hs gs x none).0 ∙ ap (λ (v : ℕ). record start { version = v }) none

by_zero : (v : ℕ) (b : Bool) → eqb v 0 ≡ b → (b ≡ false → ⊥) → v ≡ 0
by_zero v true e h = grind (arith, nat_tests, e)
by_zero v false e h = absurd (h refl)

at_most_three : (v : ℕ) → is_version v ≡ true → v ≤ 3
at_most_three v h = grind (arith, nat_tests, h)

-- the first line names a version
pub begun_declared : (n : NativeData) (s : ScriptState) (hs : List Body) (gs : List Check) (line : List ℕ) (version : ℕ)
    → head s line ≡ Ok (Begins version) → IsDeclared n s hs gs → IsDeclared n (record s { version = version }) hs gs
begun_declared n s hs gs line version e x =
    let none : s.version ≡ 0 = by_zero s.version (eqb s.version 0) refl (λ v. stands s line (Begins version) v e) in
    let is : s ≡ start = is_start n s hs gs x none in
    let come = first_come n s hs gs x none in
    record {
      version = at_most_three version (opens line (Begins version) (ap (λ (z : ScriptState). head z line) (sym is) ∙ e));
      count = 0;
      come = (ap (λ (z : ScriptState). record z { version = version }) is, come.1, come.2);
      fresh = λ v. refl;
    }

some_zero : (v : ℕ) (b : Bool) → eqb v 0 ≡ b → (v ≡ 0 → ⊥) → eqb v 0 ≡ false
some_zero v true e h = absurd (h (grind (arith, nat_tests, e)))
some_zero v false e h = e

-- a line that says something isn't the first
pub says_begun : (n : NativeData) (s : ScriptState) (hs : List Body) (gs : List Check) (line : List ℕ) (k : Kind) (ws : List (List ℕ))
    → head s line ≡ Ok (Says k ws) → IsDeclared n s hs gs → eqb s.version 0 ≡ false
says_begun n s hs gs line k ws e x =
    some_zero s.version (eqb s.version 0) refl (λ none. opens line (Says k ws) (ap (λ (z : ScriptState). head z line) (sym (is_start n s hs gs x none)) ∙ e))

-- a line was read and added
pub said_declared : {A : Type 0} (n : NativeData) (s t : ScriptState) (hs ks : List Body) (gs cs : List Check) (number : ℕ) (k : Kind) (ws : List (List ℕ)) (what : Statement) (r : Result A Fault)
    → GivesLine s.version k ws (Ok what) → TakesSaid n s number what r t → ((l : LineMeaning) → Stands what l → Grows n hs gs l r ks cs)
    → is_out_of_order k s.section s.begins ≡ false → eqb s.version 0 ≡ false
    → IsDeclared n s hs gs → IfOk r (λ _. IsDeclared n t ks cs)
said_declared n s t hs ks gs cs number k ws what (Ok a) gives adds grows order v x =
    let l : LineMeaning = gives.0 in
    let added = adds l gives.2 in
    let grown = grows l gives.2 in
    let f : Fits n s l = fits n s s k ws l refl gives.1 order added.0 in
    let version : t.version ≡ s.version = ap (λ (z : ScriptState). z.version) added.1 ∙ same_version n s number l in
    let is : eqb t.version 0 ≡ false = ap (λ (y : ℕ). eqb y 0) version ∙ v in
    record {
      version = subst (λ (y : ℕ). y ≤ 3) (sym version) x.version;
      count = suc x.count;
      come = (s, hs, gs, number, l, x.come, f, added.1, grown.0, grown.1);
      fresh = λ none. absurd (let bad : eqb 0 0 ≡ false = ap (λ (y : ℕ). eqb y 0) (sym none) ∙ is in cc);
    }
said_declared n s t hs ks gs cs number k ws what (Err f) gives adds grows order v x = tt

-- ---- whole scripts

is_some : (v : ℕ) → v ≤ 3 → (v ≡ 0 → ⊥) → is_version v ≡ true
is_some v few some = by_test (eqb v 0) refl
  where
    by_test : (b : Bool) → eqb v 0 ≡ b → is_version v ≡ true
    by_test true e = absurd (some (grind (arith, nat_tests, e)))
    by_test false e = grind (arith, nat_tests, e, few)

-- the canonical text of a script whose handlers and guards are of its lines is read as it
pub came_back : (n p : NativeData) (s : ScriptState) (hs ks : List Body) (gs cs : List Check) (d : ScriptData)
    → p ≡ n → ks ≡ hs → cs ≡ gs → d ≡ script_in n s → (s.version ≡ 0 → ⊥) → IsDeclared n s hs gs
    → ComesBack n (canonical_of p ks cs d) d
came_back n p s hs ks gs cs d natives bodies checks is some x =
    let back = is_back n hs gs s (is_some s.version x.version some) (canon_of n x.count s hs gs x.come) in
    subst (λ (q : NativeData). ComesBack n (canonical_of q ks cs d) d) (sym natives)
    (subst (λ (bs : List Body). ComesBack n (canonical_of n bs cs d) d) (sym bodies)
    (subst (λ (bs : List Check). ComesBack n (canonical_of n hs bs d) d) (sym checks)
    (subst (λ (e : ScriptData). ComesBack n (canonical_of n hs gs e) e) (sym is) back)))

pub script_back : {A C E : Type 0} {B : A → Type 0} {D : C → Type 0} {F : E → Type 0} (n : NativeData) (s : ScriptState) (c : Catalogue A C E B D F) (script : Script A C E B D F)
    → natives_seen c.natives ≡ n → script.setup.catalogue ≡ c → script_seen script ≡ script_in (natives_seen c.natives) s
    → (s.version ≡ 0 → ⊥) → IsDeclared n s c.bodies c.checks → ComesBack n (canonical script) (script_seen script)
script_back {A} {C} {E} {B} {D} {F} n s c script known same made some x =
    let kept : Catalogue A C E B D F = script.setup.catalogue in
    came_back n (natives_seen kept.natives) s c.bodies kept.bodies c.checks kept.checks (script_seen script) (ap (λ (k : Catalogue A C E B D F). natives_seen k.natives) same ∙ known)
    (ap (λ (k : Catalogue A C E B D F). k.bodies) same) (ap (λ (k : Catalogue A C E B D F). k.checks) same) (made ∙ ap (λ (m : NativeData). script_in m s) known) some x
