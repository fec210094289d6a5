-- The bodies and checks of the script so far are those that the lines of the text declare.
use Rattle.std.proofs.Common.{◌≡◌, ℕ, ◌+◌, List, [], ◌∷◌, ◌++◌, Option, Some, None, Result, Ok, Err, IfOk, refl, sym, ap, subst, ◌∙◌}
use Rattle.std.specs.Str.Lines.{lines}
use Rattle.std.proofs.lemmas.List.{append-nil, append_assoc}
use Rattle.std.proofs.lemmas.Grind.{flat_map-append}
use Rattle.spin_objects.specs.declared.unit.Body.{Body}
use Rattle.spin_objects.specs.declared.unit.Check.{Check}
use Rattle.spin_grammar.specs.declared.fault.Fault.{Fault}
use Rattle.spin_grammar.specs.declared.kind.Kind.{Kind}
use Rattle.spin_grammar.specs.declared.line.Statement.{Statement}
use Rattle.spin_grammar.specs.Lines as line
use Rattle.spin_grammar.specs.Lines.{LineMeaning, Stands, GivesLine}
use Rattle.spin_script.specs.States.{NativeData, ScriptState, native_at, start}
use Rattle.spin_script.specs.Language.{Skipped, Begins, Says, head, Passes}
use Rattle.spin_script.specs.Declarations.{AreSaid, body_of, check_of, bodies_of, checks_of, Declares}
use Rattle.spin_script.specs.Inner.Declaring.{bodies_after, checks_after, Grows, DeclaresMore}

-- ---- one line

body_more : (n : NativeData) (hs : List Body) (l : LineMeaning) → bodies_after n hs l ≡ hs ++ bodies_of n (l ∷ [])
body_more n hs (line.Handler h sig steps) = refl
body_more n hs (line.NativeHandler h name) = by_native (native_at name n.handlers) refl
  where
    by_native : (o : Option ℕ) → native_at name n.handlers ≡ o → bodies_after n hs (line.NativeHandler h name) ≡ hs ++ bodies_of n (line.NativeHandler h name ∷ [])
    by_native None e = rw e (sym (append-nil hs))
    by_native (Some native) e = rw e refl
body_more n hs (line.Modules count) = sym (append-nil hs)
body_more n hs (line.Event e owner sig m) = sym (append-nil hs)
body_more n hs (line.Endpoint p name) = sym (append-nil hs)
body_more n hs (line.Guard g sig t) = sym (append-nil hs)
body_more n hs (line.NativeGuard g name) = sym (append-nil hs)
body_more n hs (line.Rules e r) = sym (append-nil hs)
body_more n hs (line.Authoriser e name) = sym (append-nil hs)
body_more n hs (line.Default e h) = sym (append-nil hs)
body_more n hs (line.Lane lane t) = sym (append-nil hs)
body_more n hs line.Barrier = sym (append-nil hs)
body_more n hs (line.Retire p) = sym (append-nil hs)

check_more : (n : NativeData) (gs : List Check) (l : LineMeaning) → checks_after n gs l ≡ gs ++ checks_of n (l ∷ [])
check_more n gs (line.Guard g sig t) = refl
check_more n gs (line.NativeGuard g name) = by_native (native_at name n.guards) refl
  where
    by_native : (o : Option ℕ) → native_at name n.guards ≡ o → checks_after n gs (line.NativeGuard g name) ≡ gs ++ checks_of n (line.NativeGuard g name ∷ [])
    by_native None e = rw e (sym (append-nil gs))
    by_native (Some native) e = rw e refl
check_more n gs (line.Modules count) = sym (append-nil gs)
check_more n gs (line.Event e owner sig m) = sym (append-nil gs)
check_more n gs (line.Endpoint p name) = sym (append-nil gs)
check_more n gs (line.Handler h sig steps) = sym (append-nil gs)
check_more n gs (line.NativeHandler h name) = sym (append-nil gs)
check_more n gs (line.Rules e r) = sym (append-nil gs)
check_more n gs (line.Authoriser e name) = sym (append-nil gs)
check_more n gs (line.Default e h) = sym (append-nil gs)
check_more n gs (line.Lane lane t) = sym (append-nil gs)
check_more n gs line.Barrier = sym (append-nil gs)
check_more n gs (line.Retire p) = sym (append-nil gs)

-- a line was read and added
pub said_more : {A : Type 0} (n : NativeData) (s : ScriptState) (hs ks : List Body) (gs cs : List Check) (k : Kind) (ws : List (List ℕ)) (what : Statement) (r : Result A Fault)
    → GivesLine s.version k ws (Ok what) → ((l : LineMeaning) → Stands what l → Grows n hs gs l r ks cs)
    → IfOk r (λ _. DeclaresMore n s (Ok (Says k ws)) hs gs ks cs)
said_more n s hs ks gs cs k ws what (Ok a) gives grows =
    let l : LineMeaning = gives.0 in
    let grown = grows l gives.2 in
    (l ∷ [], (l, gives.1, refl), grown.0 ∙ body_more n hs l, grown.1 ∙ check_more n gs l)
said_more n s hs ks gs cs k ws what (Err f) gives grows = tt

-- a line that says nothing
pub skipped_more : (n : NativeData) (s : ScriptState) (hs : List Body) (gs : List Check) (line : List ℕ) → head s line ≡ Ok Skipped → DeclaresMore n s (head s line) hs gs hs gs
skipped_more n s hs gs line e = rw e ([], refl, sym (append-nil hs), sym (append-nil gs))

pub begins_more : (n : NativeData) (s : ScriptState) (hs : List Body) (gs : List Check) (line : List ℕ) (version : ℕ) → head s line ≡ Ok (Begins version) → DeclaresMore n s (head s line) hs gs hs gs
begins_more n s hs gs line version e = rw e ([], refl, sym (append-nil hs), sym (append-nil gs))

pub says_more : {A : Type 0} (n : NativeData) (s : ScriptState) (hs ks : List Body) (gs cs : List Check) (line : List ℕ) (k : Kind) (ws : List (List ℕ)) (r : Result A Fault)
    → head s line ≡ Ok (Says k ws) → IfOk r (λ _. DeclaresMore n s (Ok (Says k ws)) hs gs ks cs) → IfOk r (λ _. DeclaresMore n s (head s line) hs gs ks cs)
says_more n s hs ks gs cs line k ws (Ok a) e more = rw e more
says_more n s hs ks gs cs line k ws (Err f) e more = tt

-- ---- lines in order

-- What the lines that are left say, behind the bodies hs and the checks gs, makes up what all lines declare.
abbrev pub DeclaresWith : NativeData → List (List ℕ) → List Body → List Check → ScriptState → ℕ → List (List ℕ) → Type 0
DeclaresWith n all hs gs s number left =
    (more : List LineMeaning) → AreSaid n s number left more
    → (said : List LineMeaning) × AreSaid n start 1 all said × (hs ++ bodies_of n more ≡ bodies_of n said) × (gs ++ checks_of n more ≡ checks_of n said)

-- before the first line
pub declares_start : (n : NativeData) (all left : List (List ℕ)) (hs : List Body) (gs : List Check) (s : ScriptState) → s ≡ start → hs ≡ [] → gs ≡ [] → left ≡ all → DeclaresWith n all hs gs s 1 left
declares_start n all left hs gs s is bodies checks same = rw (is, bodies, checks, same) (λ more said. (more, said, refl, refl))

-- behind one line more
pub declares_on : (n m : NativeData) (all left behind : List (List ℕ)) (line : List ℕ) (hs ks : List Body) (gs cs : List Check) (s t : ScriptState) (number : ℕ)
    → m ≡ n → left ≡ line ∷ behind → Passes m s number (head s line) t → DeclaresMore m s (head s line) hs gs ks cs → DeclaresWith n all hs gs s number left
    → DeclaresWith n all ks cs t (number + 1) behind
declares_on n m all left behind line hs ks gs cs s t number same is passes here with more said =
    let passed : Passes n s number (head s line) t = subst (λ (k : NativeData). Passes k s number (head s line) t) same passes in
    let grown : DeclaresMore n s (head s line) hs gs ks cs = subst (λ (k : NativeData). DeclaresMore k s (head s line) hs gs ks cs) same here in
    let now : AreSaid n s number (line ∷ behind) (grown.0 ++ more) = (t, grown.0, more, passed, grown.1, said, refl) in
    let made = with (grown.0 ++ more) (subst (λ (ls : List (List ℕ)). AreSaid n s number ls (grown.0 ++ more)) (sym is) now) in (
      made.0,
      made.1,
      ap (λ (xs : List Body). xs ++ bodies_of n more) grown.2 ∙ append_assoc hs (bodies_of n grown.0) (bodies_of n more)
          ∙ ap (λ (xs : List Body). hs ++ xs) (sym (flat_map-append (body_of n) grown.0 more)) ∙ made.2,
      ap (λ (xs : List Check). xs ++ checks_of n more) grown.3 ∙ append_assoc gs (checks_of n grown.0) (checks_of n more)
          ∙ ap (λ (xs : List Check). gs ++ xs) (sym (flat_map-append (check_of n) grown.0 more)) ∙ made.3,
    )

-- behind all lines
pub declares_all : (n : NativeData) (text : List ℕ) (left : List (List ℕ)) (hs : List Body) (gs : List Check) (s : ScriptState) (number : ℕ) → left ≡ [] → DeclaresWith n (lines text) hs gs s number left
    → Declares n text hs gs
declares_all n text left hs gs s number none with =
    let made = with [] (rw none refl) in
    (made.0, made.1, sym (append-nil hs) ∙ made.2, sym (append-nil gs) ∙ made.3)

-- ---- the script

pub script_declares : (n m : NativeData) (text : List ℕ) (hs ks : List Body) (gs cs : List Check) → m ≡ n → ks ≡ hs → cs ≡ gs → Declares m text hs gs → Declares n text ks cs
script_declares n m text hs ks gs cs same bodies checks d =
    let known : Declares n text hs gs = subst (λ (k : NativeData). Declares k text hs gs) same d in
    (known.0, known.1, bodies ∙ known.2, checks ∙ known.3)
