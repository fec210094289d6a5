-- What is written of a script, part by part.
use Rattle.std.proofs.Common.{◌≡◌, ◌+◌, ◌-◌, ℕ, zero, suc, inl, inr, Bool, true, false, cond, eqb, ltb, List, [], ◌∷◌, ◌++◌, length}
use Rattle.std.proofs.Common.{take, map, decimal, Option, None, Some, refl, sym, ap, subst, ◌∙◌, append_assoc, codes, arith}
use Rattle.std.specs.Prelude.{slice_get, not, position, IsSomeAnd}
use Rattle.std.specs.List.{flat_map, enumerate_from, position_or_len}
use Rattle.std.specs.Option.{option_map, option_map_or}
use Rattle.std.proofs.lemmas.Bool.Decides.{nat_tests}
use Rattle.std.proofs.lemmas.List.{append-nil, map-append, take_all}
use Rattle.std.proofs.lemmas.Grind.{flat_map-append}
use Rattle.std.proofs.lemmas.Option.{slice_get-map}
use Rattle.std.proofs.Math.Numerals.{add-one}
use Rattle.spin_values.specs.declared.types.Param.{Param}
use Rattle.spin_values.specs.declared.types.EventType.{EventType}
use Rattle.spin_code.specs.declared.act.Act.{Act}
use Rattle.spin_code.specs.declared.test.Test.{Test}
use Rattle.spin_word.specs.Commands.{no_number}
use Rattle.spin_policy.specs.declared.rule.Rule.{Rule}
use Rattle.spin_objects.specs.declared.unit.Body.{Body}
use Rattle.spin_objects.specs.declared.unit.Body.TheVariants as body
use Rattle.spin_objects.specs.declared.unit.Check.{Check}
use Rattle.spin_objects.specs.declared.unit.Check.TheVariants as check
use Rattle.spin_objects.specs.Units.{HandlerUnit, GuardUnit, Named, unit_of_body, unit_of_check, native_of_body, native_of_check}
use Rattle.spin_values.specs.First.{numbered}
use Rattle.spin_objects.proofs.NumberedItems.{numbered-reads, numbered_and-reads}
use Rattle.spin_table.specs.declared.event.Authority.{Authority}
use Rattle.spin_table.specs.declared.event.Authority.TheVariants as authority
use Rattle.spin_grammar.specs.Grammar.{Numeral, Typed}
use Rattle.spin_text.specs.Words.{spaced}
use Rattle.spin_grammar.specs.Forms.{counted_form}
use Rattle.spin_grammar.specs.Canonical.{params_word, signature_word}
use Rattle.spin_grammar.specs.Lines as line
use Rattle.spin_grammar.specs.Lines.{LineMeaning}
use Rattle.spin_grammar.proofs.Signatures.{one_of}
use Rattle.spin_script.specs.States.{NativeData}
use Rattle.spin_script.specs.Canonical.{spoken, line_text, text_of_lines, marked, by_value, name_at, handler_line, guard_line, authority_lines, named}

-- numbers as words
numbers_spoken : (ns : List ℕ) → spaced (map decimal ns) ≡ spoken (map Numeral ns)
numbers_spoken [] = refl
numbers_spoken (n ∷ ns) = ap (λ (t : List ℕ). 32 ∷ (decimal n ++ t)) (numbers_spoken ns)

-- numbers behind their count
pub counted_spoken : (out one new ns : List ℕ) → one ≡ out ++ spaced (decimal (length ns) ∷ []) → new ≡ one ++ spaced (map decimal ns) → new ≡ out ++ spoken (counted_form ns)
counted_spoken out one new ns first more =
    let count : List ℕ = decimal (length ns) in
    more
    ∙ ap (λ (t : List ℕ). t ++ spaced (map decimal ns)) first
    ∙ append_assoc out (spaced (count ∷ [])) (spaced (map decimal ns))
    ∙ ap (λ (t : List ℕ). out ++ (32 ∷ (t ++ spaced (map decimal ns)))) (append-nil count)
    ∙ ap (λ (t : List ℕ). out ++ (32 ∷ (count ++ t))) (numbers_spoken ns)

-- ---- numbered things, one by one

pub enumerate_more : {X : Type 0} (n k : ℕ) (xs : List X) (x : X) → slice_get xs k ≡ Some x → enumerate_from n (take (suc k) xs) ≡ enumerate_from n (take k xs) ++ (n + k, x) ∷ []
enumerate_more n k [] x e = absurd cc
enumerate_more {X} n zero (y ∷ ys) x e =
    let same : y ≡ x = cc in
    let at : n + 0 ≡ n = omega arith in
    rw (at, same) refl
enumerate_more {X} n (suc k) (y ∷ ys) x e =
    let at : n + 1 + k ≡ n + suc k = omega arith in
    ap (λ (ps : List (ℕ × X)). (n, y) ∷ ps) (enumerate_more (n + 1) k ys x e ∙ ap (λ (m : ℕ). enumerate_from (n + 1) (take k ys) ++ (m, x) ∷ []) at)

-- one line for each
pub lines_more : {X : Type 0} (f : ℕ × X → LineMeaning) (n k m : ℕ) (xs : List X) (x : X) → slice_get xs k ≡ Some x → n + k ≡ m
    → text_of_lines (map f (enumerate_from n (take (k + 1) xs))) ≡ text_of_lines (map f (enumerate_from n (take k xs))) ++ line_text (f (m, x))
lines_more {X} f n k m xs x e at =
    ap (λ (ps : List (ℕ × X)). text_of_lines (map f ps)) (ap (λ (i : ℕ). enumerate_from n (take i xs)) (add-one k) ∙ enumerate_more n k xs x e)
    ∙ ap text_of_lines (map-append f (enumerate_from n (take k xs)) ((n + k, x) ∷ []))
    ∙ flat_map-append line_text (map f (enumerate_from n (take k xs))) (f (n + k, x) ∷ [])
    ∙ ap (λ (t : List ℕ). text_of_lines (map f (enumerate_from n (take k xs))) ++ t) (append-nil (line_text (f (n + k, x))))
    ∙ ap (λ (i : ℕ). text_of_lines (map f (enumerate_from n (take k xs))) ++ line_text (f (i, x))) at

-- some lines for each
pub texts_more : {X : Type 0} (g : ℕ × X → List LineMeaning) (n k m : ℕ) (xs : List X) (x : X) → slice_get xs k ≡ Some x → n + k ≡ m
    → text_of_lines (flat_map g (enumerate_from n (take (k + 1) xs))) ≡ text_of_lines (flat_map g (enumerate_from n (take k xs))) ++ text_of_lines (g (m, x))
texts_more {X} g n k m xs x e at =
    ap (λ (ps : List (ℕ × X)). text_of_lines (flat_map g ps)) (ap (λ (i : ℕ). enumerate_from n (take i xs)) (add-one k) ∙ enumerate_more n k xs x e)
    ∙ ap text_of_lines
    (flat_map-append g (enumerate_from n (take k xs)) ((n + k, x) ∷ []) ∙ ap (λ (ls : List LineMeaning). flat_map g (enumerate_from n (take k xs)) ++ ls) (append-nil (g (n + k, x))))
    ∙ flat_map-append line_text (flat_map g (enumerate_from n (take k xs))) (g (n + k, x))
    ∙ ap (λ (i : ℕ). text_of_lines (flat_map g (enumerate_from n (take k xs))) ++ text_of_lines (g (i, x))) at

-- one piece more was written behind what was there
pub more_written : (old was piece : List ℕ) {all out new : List ℕ} → all ≡ was ++ piece → out ≡ old ++ was → new ≡ out ++ piece → new ≡ old ++ all
more_written old was piece split before this =
    this ∙ ap (λ (o : List ℕ). o ++ piece) before ∙ append_assoc old was piece ∙ ap (λ (t : List ℕ). old ++ t) (sym split)

-- the version and the first line, written to what was empty
pub first_part : (v : List ℕ) (l : LineMeaning) {new out : List ℕ} → new ≡ [] → out ≡ new ++ v ++ line_text l → out ≡ v ++ text_of_lines (l ∷ [])
first_part v l none this = this ∙ ap (λ (o : List ℕ). o ++ v ++ line_text l) none ∙ ap (λ (t : List ℕ). v ++ t) (sym (append-nil (line_text l)))

-- the lines of one part more
pub next_part : (v : List ℕ) (before part : List LineMeaning) {out new : List ℕ} → out ≡ v ++ text_of_lines before → new ≡ out ++ text_of_lines part
    → new ≡ v ++ text_of_lines (before ++ part)
next_part v before part is this = more_written v (text_of_lines before) (text_of_lines part) (flat_map-append line_text before part) is this

-- ---- signatures

pub marked_all : (ps : List Param) → marked true ps ≡ ps
marked_all [] = refl
marked_all (p ∷ ps) = ap (λ (qs : List Param). p ∷ qs) (marked_all ps)

-- a signature, where the event gives a result and where it doesn't
pub typed_result : (sig : EventType) (old out new : List ℕ) → sig.gives ≡ true → out ≡ old ++ 32 ∷ params_word (marked true sig.params) → new ≡ out ++ codes ":w"
    → new ≡ old ++ spoken (Typed sig ∷ [])
typed_result sig old out new t before this =
    let same : params_word (marked true sig.params) ++ codes ":w" ≡ signature_word sig ++ [] = rw (t, append-nil, marked_all sig.params) refl in
    this ∙ ap (λ (o : List ℕ). o ++ codes ":w") before ∙ append_assoc old (32 ∷ params_word (marked true sig.params)) (codes ":w") ∙ ap (λ (w : List ℕ). old ++ 32 ∷ w) same

pub typed_plain : (sig : EventType) (old new : List ℕ) → sig.gives ≡ false → new ≡ old ++ 32 ∷ params_word (marked true sig.params) → new ≡ old ++ spoken (Typed sig ∷ [])
typed_plain sig old new t this =
    let same : params_word (marked true sig.params) ≡ signature_word sig ++ [] = rw (t, append-nil, marked_all sig.params) refl in
    this ∙ ap (λ (w : List ℕ). old ++ 32 ∷ w) same

-- ---- handlers, guards and authorisers

-- the native of that index has that name
name_in : {X : Type 0} (o : Option (Named X)) (name : List ℕ) → option_map (λ (n : Named X). n.name) o ≡ Some name → option_map_or (λ (n : Named X). n.name) o [] ≡ name
name_in None name e = absurd cc
name_in (Some n) name e = cc

pub name_is : {X : Type 0} (ns : List (Named X)) (native : ℕ) (name : List ℕ) → slice_get (map (λ (n : Named X). n.name) ns) native ≡ Some name → name_at ns native ≡ name
name_is {X} ns native name e = name_in (slice_get ns native) name (sym (slice_get-map (λ (n : Named X). n.name) ns native) ∙ e)

-- the line of a native authoriser
pub authorised : (n : NativeData) (event native : ℕ) (name : List ℕ) (a : Authority) → a ≡ authority.Native native
    → slice_get (map (λ (m : Named (List Rule)). m.name) n.authorisers) native ≡ Some name → line_text (line.Authoriser event name) ≡ text_of_lines (authority_lines n event a)
authorised n event native name a is named = rw (is, name_is n.authorisers native name named) (sym (append-nil (line_text (line.Authoriser event name))))

-- what stands at a place among what is made of all
made_at : {X Y : Type 0} (f : X → Y) (xs : List X) (k : ℕ) (x : X) (y : Y) → slice_get xs k ≡ Some x → slice_get (map f xs) k ≡ Some y → f x ≡ y
made_at f xs k x y at made =
    let both : option_map f (Some x) ≡ Some y = ap (option_map f) (sym at) ∙ sym (slice_get-map f xs k) ∙ made in
    cc

-- a handler that isn't native is coded
coded_body : (n : NativeData) (number : ℕ) (b : Body) (sig : EventType) (act : Act) → native_of_body b ≡ None → sig ≡ (unit_of_body n.handlers b).sig → (unit_of_body n.handlers b).act ≡ act
    → handler_line n number b ≡ line.Handler number sig act.steps
coded_body n number (body.Coded s a) sig act none same is = rw (same, ← is) refl
coded_body n number (body.Native k) sig act none same is = absurd cc

native_body : (n : NativeData) (number : ℕ) (b : Body) (native : ℕ) (name : List ℕ) → native_of_body b ≡ Some native → name_at n.handlers native ≡ name
    → handler_line n number b ≡ line.NativeHandler number name
native_body n number (body.Coded s a) native name some is = absurd cc
native_body n number (body.Native k) native name some is =
    let same : k ≡ native = cc in
    rw (same, is) refl

sig_at : {X : Type 0} (sig_of : X → EventType) (us : List X) (k : ℕ) (u : X) (sig : EventType) → slice_get us k ≡ Some u → IsSomeAnd (slice_get us k) (λ v. sig ≡ sig_of v) → sig ≡ sig_of u
sig_at {X} sig_of us k u sig at is = subst (λ (o : Option X). IsSomeAnd o (λ v. sig ≡ sig_of v)) at is

-- the line of the handler of that number
pub handler_coded : (n : NativeData) (bodies : List Body) (number : ℕ) (b : Body) (sig : EventType) (act : Act) → slice_get bodies (number - 1) ≡ Some b
    → numbered (map native_of_body bodies) number ≡ Some None
    → IsSomeAnd (numbered (map (unit_of_body n.handlers) bodies) number) (λ u. sig ≡ u.sig)
    → numbered (map (λ (u : HandlerUnit). u.act) (map (unit_of_body n.handlers) bodies)) number ≡ Some act
    → handler_line n number b ≡ line.Handler number sig act.steps
handler_coded n bodies number b sig act at none typed acts =
    let u = unit_of_body n.handlers b in
    let there : slice_get (map (unit_of_body n.handlers) bodies) (number - 1) ≡ Some u = slice_get-map (unit_of_body n.handlers) bodies (number - 1) ∙ ap (option_map (unit_of_body n.handlers)) at in
    let same = sig_at (λ (v : HandlerUnit). v.sig) (map (unit_of_body n.handlers) bodies) (number - 1) u sig there
    (numbered_and-reads (λ (v : HandlerUnit). sig ≡ v.sig) (map (unit_of_body n.handlers) bodies) number typed) in
    let does = made_at (λ (v : HandlerUnit). v.act) (map (unit_of_body n.handlers) bodies) (number - 1) u act there
    (numbered-reads (map (λ (v : HandlerUnit). v.act) (map (unit_of_body n.handlers) bodies)) number act acts) in
    coded_body n number b sig act (made_at native_of_body bodies (number - 1) b None at (numbered-reads (map native_of_body bodies) number None none)) same does

pub handler_native : (n : NativeData) (bodies : List Body) (number : ℕ) (b : Body) (native : ℕ) (name : List ℕ) → slice_get bodies (number - 1) ≡ Some b
    → numbered (map native_of_body bodies) number ≡ Some (Some native)
    → slice_get (map (λ (m : Named HandlerUnit). m.name) n.handlers) native ≡ Some name
    → handler_line n number b ≡ line.NativeHandler number name
handler_native n bodies number b native name at some named =
    native_body n number b native name (made_at native_of_body bodies (number - 1) b (Some native) at (numbered-reads (map native_of_body bodies) number (Some native) some))
    (name_is n.handlers native name named)

coded_check : (n : NativeData) (number : ℕ) (c : Check) (sig : EventType) (test : Test) → native_of_check c ≡ None → sig ≡ (unit_of_check n.guards c).sig → (unit_of_check n.guards c).test ≡ test
    → guard_line n number c ≡ line.Guard number (by_value sig) test
coded_check n number (check.Coded s t) sig test none same is = rw (same, ← is) refl
coded_check n number (check.Native k) sig test none same is = absurd cc

native_check : (n : NativeData) (number : ℕ) (c : Check) (native : ℕ) (name : List ℕ) → native_of_check c ≡ Some native → name_at n.guards native ≡ name
    → guard_line n number c ≡ line.NativeGuard number name
native_check n number (check.Coded s t) native name some is = absurd cc
native_check n number (check.Native k) native name some is =
    let same : k ≡ native = cc in
    rw (same, is) refl

-- the line of the guard of that number
pub guard_coded : (n : NativeData) (checks : List Check) (number : ℕ) (c : Check) (sig : EventType) (test : Test) → slice_get checks (number - 1) ≡ Some c
    → numbered (map native_of_check checks) number ≡ Some None
    → IsSomeAnd (numbered (map (unit_of_check n.guards) checks) number) (λ u. sig ≡ u.sig)
    → slice_get (map (λ (u : GuardUnit). u.test) (map (unit_of_check n.guards) checks)) (number - 1) ≡ Some test
    → guard_line n number c ≡ line.Guard number (by_value sig) test
guard_coded n checks number c sig test at none typed tests =
    let u = unit_of_check n.guards c in
    let there : slice_get (map (unit_of_check n.guards) checks) (number - 1) ≡ Some u = slice_get-map (unit_of_check n.guards) checks (number - 1) ∙ ap (option_map (unit_of_check n.guards)) at in
    let same = sig_at (λ (v : GuardUnit). v.sig) (map (unit_of_check n.guards) checks) (number - 1) u sig there
    (numbered_and-reads (λ (v : GuardUnit). sig ≡ v.sig) (map (unit_of_check n.guards) checks) number typed) in
    let asks = made_at (λ (v : GuardUnit). v.test) (map (unit_of_check n.guards) checks) (number - 1) u test there tests in
    coded_check n number c sig test (made_at native_of_check checks (number - 1) c None at (numbered-reads (map native_of_check checks) number None none)) same asks

pub guard_native : (n : NativeData) (checks : List Check) (number : ℕ) (c : Check) (native : ℕ) (name : List ℕ) → slice_get checks (number - 1) ≡ Some c
    → numbered (map native_of_check checks) number ≡ Some (Some native)
    → slice_get (map (λ (m : Named GuardUnit). m.name) n.guards) native ≡ Some name
    → guard_line n number c ≡ line.NativeGuard number name
guard_native n checks number c native name at some named =
    native_check n number c native name (made_at native_of_check checks (number - 1) c (Some native) at (numbered-reads (map native_of_check checks) number (Some native) some))
    (name_is n.guards native name named)

-- ---- bindings that are named

-- they stand before the first that is none
pub named_front : (ns : List ℕ) → named ns ≡ take (position_or_len (λ b. eqb b no_number) ns) ns
named_front [] = refl
named_front (n ∷ ns) = go (eqb n no_number) (named_front ns) where
  go : (b : Bool) → named ns ≡ take (position_or_len (λ b. eqb b no_number) ns) ns
      → cond b [] (n ∷ named ns) ≡ take (cond (not b) (1 + position_or_len (λ b. eqb b no_number) ns) 0) (n ∷ ns)
  go true e = refl
  go false e =
      let more : 1 + position_or_len (λ b. eqb b no_number) ns ≡ suc (position_or_len (λ b. eqb b no_number) ns) = omega arith in
      rw more (ap (λ (ms : List ℕ). n ∷ ms) e)

abbrev is_none : ℕ → Bool
is_none b = eqb b no_number

pub named_all : (ns : List ℕ) → position is_none ns ≡ None → ns ≡ named ns
named_all ns e =
    elim (one_of (ltb (position_or_len is_none ns) (length ns)) (Some (position_or_len is_none ns)) None None e) [
      | inl h ↦ absurd (let bad : Some (position_or_len is_none ns) ≡ None = h.1 in cc)
      | inr h ↦ sym (named_front ns ∙ take_all (position_or_len is_none ns) ns (grind (arith, nat_tests, h.0)))
    ]

pub named_some : (ns : List ℕ) (k : ℕ) → position is_none ns ≡ Some k → take k ns ≡ named ns
named_some ns k e =
    elim (one_of (ltb (position_or_len is_none ns) (length ns)) (Some (position_or_len is_none ns)) None (Some k) e) [
      | inl h ↦ let same : position_or_len is_none ns ≡ k = (let is : Some (position_or_len is_none ns) ≡ Some k = h.1 in cc) in sym (named_front ns ∙ ap (λ (i : ℕ). take i ns) same)
      | inr h ↦ absurd (let bad : None ≡ Some k = h.1 in cc)
    ]
