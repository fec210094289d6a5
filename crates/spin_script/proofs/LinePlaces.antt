-- Where lines stand that pass.
use Rattle.std.proofs.Common.{◌≡◌, ℕ, inl, inr, true, false, cond, eqb, List, [], ◌∷◌, Option, Some, None, Result, Ok, Err, codes, bytes_eq, refl, subst}
use Rattle.std.specs.Prelude.{slice_index}
use Rattle.std.specs.List.{list_all}
use Rattle.spin_grammar.specs.declared.cause.Cause.{Cause}
use Rattle.spin_grammar.specs.declared.cause.Cause.TheVariants as cause
use Rattle.spin_grammar.specs.declared.kind.Kind.{Kind}
use Rattle.spin_grammar.specs.Words.{words}
use Rattle.spin_grammar.proofs.Signatures.{one_of}
use Rattle.spin_script.specs.Sections.{first_words, is_out_of_order}
use Rattle.spin_grammar.specs.Lookup.{look_up}
use Rattle.spin_script.specs.States.{ScriptState, start}
use Rattle.spin_script.specs.Language.{Head, Skipped, Begins, Says, is_allowed, version_word, version_of, first_head, kind_head, words_head, head}
use Rattle.spin_script.specs.RoundTrip.{is_version}

-- ---- behind a line that names the version

-- a line isn't the first, and stands in its section
abbrev pub StandsSo : ScriptState → Head → Type 0
StandsSo s Skipped = Unit {0}
StandsSo s (Begins version) = ⊥
StandsSo s (Says k ws) = is_out_of_order k s.section s.begins ≡ false

is_head : (g h : Head) → ◌≡◌ {A = Result Head Cause} (Ok g) (Ok h) → g ≡ h
is_head g h e = cc

by_kind : (s : ScriptState) (o : Option Kind) (ws : List (List ℕ)) (h : Head) → kind_head s o ws ≡ Ok h → StandsSo s h
by_kind s None ws h e = absurd cc
by_kind s (Some k) ws h e =
    elim (one_of (is_out_of_order k s.section s.begins) (Err cause.Order) (Ok (Says k ws)) (Ok h) e) [
      | inl x ↦ absurd (let bad : Err cause.Order ≡ Ok h = x.1 in cc)
      | inr x ↦ subst (λ (g : Head). StandsSo s g) (is_head (Says k ws) h x.1) x.0
    ]

by_words : (s : ScriptState) (ws : List (List ℕ)) (h : Head) → eqb s.version 0 ≡ false → words_head s ws ≡ Ok h → StandsSo s h
by_words s [] h v e = subst (λ (g : Head). StandsSo s g) (is_head Skipped h e) tt
by_words s (w ∷ ws) h v e =
    elim (one_of (eqb (slice_index w 0) 35) (Ok Skipped) (cond (eqb s.version 0) (first_head (version_of (w ∷ ws))) (kind_head s (look_up w first_words) ws)) (Ok h) e) [
      | inl x ↦ subst (λ (g : Head). StandsSo s g) (is_head Skipped h x.1) tt
      | inr x ↦ by_kind s (look_up w first_words) ws h (rw v at x.1)
    ]

pub stands : (s : ScriptState) (line : List ℕ) (h : Head) → eqb s.version 0 ≡ false → head s line ≡ Ok h → StandsSo s h
unfolding head
stands s line h v e =
    elim (one_of (list_all is_allowed line) (words_head s (words line)) (Err cause.NotAscii) (Ok h) e) [
      | inl x ↦ by_words s (words line) h v x.1
      | inr x ↦ absurd (let bad : Err cause.NotAscii ≡ Ok h = x.1 in cc)
    ]

-- ---- before it

abbrev pub OpensSo : Head → Type 0
OpensSo Skipped = Unit {0}
OpensSo (Begins version) = is_version version ≡ true
OpensSo (Says k ws) = ⊥

is_number : (m n : ℕ) → Some m ≡ Some n → m ≡ n
is_number m n e = cc

known : (m n : ℕ) → is_version m ≡ true → Some m ≡ Some n → is_version n ≡ true
known m n h e = subst (λ (k : ℕ). is_version k ≡ true) (is_number m n e) h

by_word : (w : List ℕ) (version : ℕ) → version_word w ≡ Some version → is_version version ≡ true
by_word w version e =
    elim (one_of (bytes_eq w (codes "1")) (Some 1) (cond (bytes_eq w (codes "2")) (Some 2) (cond (bytes_eq w (codes "3")) (Some 3) None)) (Some version) e) [
      | inl x ↦ known 1 version refl x.1
      | inr x ↦ elim (one_of (bytes_eq w (codes "2")) (Some 2) (cond (bytes_eq w (codes "3")) (Some 3) None) (Some version) x.1) [
        | inl y ↦ known 2 version refl y.1
        | inr y ↦ elim (one_of (bytes_eq w (codes "3")) (Some 3) None (Some version) y.1) [
          | inl z ↦ known 3 version refl z.1
          | inr z ↦ absurd (let bad : None ≡ Some version = z.1 in cc)
        ]
      ]
    ]

by_version : (ws : List (List ℕ)) (version : ℕ) → version_of ws ≡ Some version → is_version version ≡ true
by_version [] version e = absurd cc
by_version (a ∷ []) version e = absurd cc
by_version (a ∷ (b ∷ [])) version e =
    elim (one_of (bytes_eq a (codes "spin")) (version_word b) None (Some version) e) [
      | inl x ↦ by_word b version x.1
      | inr x ↦ absurd (let bad : None ≡ Some version = x.1 in cc)
    ]
by_version (a ∷ (b ∷ (c ∷ ws))) version e = absurd cc

by_first : (o : Option ℕ) (h : Head) → ((version : ℕ) → o ≡ Some version → is_version version ≡ true) → first_head o ≡ Ok h → OpensSo h
by_first None h f e = absurd cc
by_first (Some version) h f e = subst (λ (g : Head). OpensSo g) (is_head (Begins version) h e) (f version refl)

opening_words : (ws : List (List ℕ)) (h : Head) → words_head start ws ≡ Ok h → OpensSo h
opening_words [] h e = subst (λ (g : Head). OpensSo g) (is_head Skipped h e) tt
opening_words (w ∷ ws) h e =
    elim (one_of (eqb (slice_index w 0) 35) (Ok Skipped) (first_head (version_of (w ∷ ws))) (Ok h) e) [
      | inl x ↦ subst (λ (g : Head). OpensSo g) (is_head Skipped h x.1) tt
      | inr x ↦ by_first (version_of (w ∷ ws)) h (by_version (w ∷ ws)) x.1
    ]

pub opens : (line : List ℕ) (h : Head) → head start line ≡ Ok h → OpensSo h
unfolding head
opens line h e =
    elim (one_of (list_all is_allowed line) (words_head start (words line)) (Err cause.NotAscii) (Ok h) e) [
      | inl x ↦ opening_words (words line) h x.1
      | inr x ↦ absurd (let bad : Err cause.NotAscii ≡ Ok h = x.1 in cc)
    ]
