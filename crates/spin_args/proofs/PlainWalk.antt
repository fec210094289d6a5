-- What a parse of a command makes of words none of which is taken for an option: each goes to the next argument.
use Rattle.std.proofs.Common.{◌≡◌, ◌≢◌, ◌==◌, ◌||◌, ℕ, Bool, true, false, List, [], ◌∷◌, Option, Some, None, if◌then◌else◌}
use Rattle.std.proofs.Common.{refl, ap, ap₂, ◌∙◌, arith}
use Rattle.std.specs.Prelude.{fold}
use Rattle.std.specs.List.{All}
use Rattle.std.specs.Str.{bytes_eq}
use Rattle.std.proofs.lemmas.List.Elements.{All-head, All-tail}
use Rattle.spin_args.specs.Words.{IsPlain}
use Rattle.clap.specs.Lexer.{long_of, short_of}
use Rattle.clap.specs.Kinds.{Kinds, or_else}
use Rattle.clap.specs.Walk.{Held, Rule, Text, Walk, after_step, arg_by_index, finished, idle, is_multiple, next_position}
use Rattle.clap.specs.Walk.{nothing_held, positional, positional_held, settled, to_positional, value, walked, word_met}
use Rattle.clap.specs.Simple.{Shape}
use Rattle.clap.specs.Faults.{check_fault, defaults_fault, level_fault, settle_fault, step_fault, turn_fault, walk_fault, word_fault}

-- a walk that waits for no value of an option
abbrev pub at : Bool → Held → ℕ → Bool → Walk
at several held position is_trailing = record {
  held = held;
  waiting = if several then positional else idle;
  position = position;
  is_trailing = is_trailing;
  stopped = None;
}

abbrev pub start : Walk
start = at false nothing_held 1 false

-- the word goes to the argument that is next
abbrev pub gives : List Rule → Walk → Text → Walk
gives c w word = to_positional c (arg_by_index c w.position) word w w.held

unfoldable pub plain_walk : List Rule → Walk → List Text → Walk
plain_walk c w [] = w
plain_walk c w (word ∷ words) = plain_walk c (gives c w word) words

unfoldable pub plain_fault : Shape → Walk → List Text → Kinds
plain_fault s w [] = []
plain_fault s w (word ∷ words) = or_else (step_fault s w.position w.held value) (plain_fault s (gives s.rules w word) words)

pub no_dash : (x : ℕ) → x ≢ 45 → (x == 45) ≡ false
no_dash x other = grind arith

pub not_long : (x : ℕ) (xs : List ℕ) → (x == 45) ≡ false → long_of (x ∷ xs) ≡ None
not_long x xs other = rw other refl

pub not_short : (x : ℕ) (xs : List ℕ) → (x == 45) ≡ false → short_of (x ∷ xs) ≡ None
not_short x xs other = rw other refl

pub not_dashes : (x : ℕ) (xs : List ℕ) → (x == 45) ≡ false → bytes_eq (x ∷ xs) (45 ∷ 45 ∷ []) ≡ false
not_dashes x xs other = rw other refl

met : (c : List Rule) (several : Bool) (h : Held) (p : ℕ) (t : Bool) (x : ℕ) (xs : List ℕ) → (x == 45) ≡ false
    → word_met c [] t (at several h p t).waiting p (x ∷ xs) h ≡ (h, value)
met c several h p true x xs other = refl
met c true h p false x xs other = rw (not_dashes x xs other, not_long x xs other, not_short x xs other) refl
met c false h p false x xs other = rw (not_dashes x xs other, not_long x xs other, not_short x xs other) refl

no_fault : (s : Shape) (several : Bool) (h : Held) (p : ℕ) (t : Bool) (x : ℕ) (xs : List ℕ) → (x == 45) ≡ false
    → word_fault s [] t (at several h p t).waiting (x ∷ xs) h ≡ []
no_fault s several h p true x xs other = refl
no_fault s true h p false x xs other = rw (not_dashes x xs other, not_long x xs other, not_short x xs other) refl
no_fault s false h p false x xs other = rw (not_dashes x xs other, not_long x xs other, not_short x xs other) refl

one_walked : (c : List Rule) (several : Bool) (h : Held) (p : ℕ) (t : Bool) (x : ℕ) (xs : List ℕ) → (x == 45) ≡ false
    → walked c [] (at several h p t) (x ∷ xs) ≡ gives c (at several h p t) (x ∷ xs)
unfolding walked
one_walked c several h p t x xs other = ap (λ m. after_step c (x ∷ xs) (at several h p t) m.0 m.1) (met c several h p t x xs other)

one_fault : (s : Shape) (several : Bool) (h : Held) (p : ℕ) (t : Bool) (x : ℕ) (xs : List ℕ) → (x == 45) ≡ false
    → turn_fault s [] (at several h p t) (x ∷ xs) ≡ step_fault s p h value
one_fault s several h p t x xs other =
    ap₂ (λ f m. or_else f (step_fault s p m.0 m.1)) (no_fault s several h p t x xs other) (met s.rules several h p t x xs other)

WalksOn : List Rule → List Text → Walk → Type 0
WalksOn c words w = fold (walked c []) w words ≡ plain_walk c w words

walk_on : (c : List Rule) (several : Bool) (h : Held) (p : ℕ) (t : Bool) (word : Text) (words : List Text) (o : Option Rule)
    → ((several : Bool) (h : Held) (p : ℕ) (t : Bool) → WalksOn c words (at several h p t)) → WalksOn c words (to_positional c o word (at several h p t) h)
walk_on c several h p t word words None rest = rest several h p t
walk_on c several h p t word words (Some a) rest = rest (is_multiple a) (positional_held c a word h) (next_position a p) (t || a.trailing_var_arg)

pub walk_is : (c : List Rule) (words : List Text) → All IsPlain words → (several : Bool) (h : Held) (p : ℕ) (t : Bool) → fold (walked c []) (at several h p t) words ≡ plain_walk c (at several h p t) words
unfolding plain_walk WalksOn
walk_is c [] plain several h p t = refl
walk_is c ([] ∷ words) plain several h p t = absurd (omega (arith, (All-head IsPlain [] words plain).some))
walk_is c ((x ∷ xs) ∷ words) plain several h p t =
    ap (λ w. fold (walked c []) w words) (one_walked c several h p t x xs (no_dash x (All-head IsPlain (x ∷ xs) words plain).plain))
    ∙ walk_on c several h p t (x ∷ xs) words (arg_by_index c p) (walk_is c words (All-tail IsPlain (x ∷ xs) words plain))

FaultsOn : Shape → List Text → Walk → Type 0
FaultsOn s words w = walk_fault s [] w words ≡ plain_fault s w words

fault_on : (s : Shape) (several : Bool) (h : Held) (p : ℕ) (t : Bool) (word : Text) (words : List Text) (o : Option Rule)
    → ((several : Bool) (h : Held) (p : ℕ) (t : Bool) → FaultsOn s words (at several h p t)) → FaultsOn s words (to_positional s.rules o word (at several h p t) h)
fault_on s several h p t word words None rest = rest several h p t
fault_on s several h p t word words (Some a) rest = rest (is_multiple a) (positional_held s.rules a word h) (next_position a p) (t || a.trailing_var_arg)

pub fault_is : (s : Shape) (words : List Text) → All IsPlain words → (several : Bool) (h : Held) (p : ℕ) (t : Bool) → walk_fault s [] (at several h p t) words ≡ plain_fault s (at several h p t) words
unfolding plain_fault walk_fault FaultsOn
fault_is s [] plain several h p t = refl
fault_is s ([] ∷ words) plain several h p t = absurd (omega (arith, (All-head IsPlain [] words plain).some))
fault_is s ((x ∷ xs) ∷ words) plain several h p t =
    let other = no_dash x (All-head IsPlain (x ∷ xs) words plain).plain in
    ap₂ (λ f w. or_else f (walk_fault s [] w words)) (one_fault s several h p t x xs other) (one_walked s.rules several h p t x xs other)
    ∙ ap (or_else (step_fault s p h value)) (fault_on s several h p t (x ∷ xs) words (arg_by_index s.rules p) (fault_is s words (All-tail IsPlain (x ∷ xs) words plain)))

-- the faults of a command without subcommands, from those of its words and where they end
abbrev pub ends : Shape → Kinds → Walk → Kinds
ends s faults w =
    or_else faults (or_else [] (or_else (settle_fault s.rules s.args_override_self w.held)
    (or_else (defaults_fault (settled s.rules w.held).rows s.rules) (check_fault s (finished s.rules w.held) false))))

pub level_is : (s : Shape) (words : List Text) → All IsPlain words
    → level_fault s [] nothing_held words false [] ≡ ends s (plain_fault s start words) (plain_walk s.rules start words)
level_is s words plain = ap₂ (ends s) (fault_is s words plain false nothing_held 1 false) (walk_is s.rules words plain false nothing_held 1 false)
