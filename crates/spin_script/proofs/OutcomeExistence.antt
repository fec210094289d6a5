-- Each text comes to something.
use Rattle.std.proofs.Common.{◌≡◌, ℕ, ◌+◌, ◌⊎◌, inl, inr, Bool, true, false, List, [], ◌∷◌, length, Option, Some, None, Result, Ok, Err, refl, ap, ◌∙◌}
use Rattle.std.specs.Prelude.{nat_lt}
use Rattle.std.specs.Bool.{MatchBool}
use Rattle.std.specs.Str.Lines.{lines}
use Rattle.spin_grammar.specs.declared.cause.Cause.{Cause}
use Rattle.spin_grammar.specs.declared.cause.Cause.TheVariants as cause
use Rattle.spin_grammar.specs.declared.kind.Kind.{Kind}
use Rattle.spin_grammar.specs.Grammar.{Atom, Reading, reads}
use Rattle.spin_grammar.specs.Lines.{LineMeaning, wanted, Spells}
use Rattle.spin_script.specs.States.{ScriptState, NativeData, start, after}
use Rattle.spin_values.specs.First.{first_of}
use Rattle.spin_script.specs.Checks.{checks}
use Rattle.spin_script.specs.Language.{Head, Skipped, Begins, Says, head, Passes, IsLineRefused, Outcome, outcome_at_end, ComesTo, most_bytes}
use Rattle.spin_script.specs.Laws.{SomeOutcome}
use Rattle.spin_script.proofs.SayableLines.{says_line}

-- a line passes, or is refused for a cause
abbrev Goes : NativeData → ScriptState → ℕ → Result Head Cause → Type 0
Goes n s number h = ((t : ScriptState) × Passes n s number h t) ⊎ ((c : Cause) × IsLineRefused n s h c)

judged : (n : NativeData) (s : ScriptState) (number : ℕ) (k : Kind) (ws : List (List ℕ)) (l : LineMeaning) (o : Option Cause)
    → Spells s.version k ws l → first_of (checks n s l) ≡ o → Goes n s number (Ok (Says k ws))
judged n s number k ws l None said e = inl (after n s number l, (l, said, e, refl))
judged n s number k ws l (Some c) said e = inr (c, inr (l, said, e))

said : (n : NativeData) (s : ScriptState) (number : ℕ) (k : Kind) (ws : List (List ℕ)) (r : Reading) → reads (wanted s.version k) ws ≡ r → Goes n s number (Ok (Says k ws))
said n s number k ws (Err c) e = inr (c, inl e)
said n s number k ws (Ok atoms) e =
    let l = says_line s.version k ws atoms e in
    let spells : Spells s.version k ws l.0 = record { kind = l.1; words = e ∙ ap (λ (x : List Atom). Ok x) l.2 } in
    judged n s number k ws l.0 (first_of (checks n s l.0)) spells refl

goes : (n : NativeData) (s : ScriptState) (number : ℕ) (h : Result Head Cause) → Goes n s number h
goes n s number (Err c) = inr (c, refl)
goes n s number (Ok Skipped) = inl (s, refl)
goes n s number (Ok (Begins version)) = inl (record s { version = version }, refl)
goes n s number (Ok (Says k ws)) = said n s number k ws (reads (wanted s.version k) ws) refl

comes : (n : NativeData) (s : ScriptState) (number : ℕ) (texts : List (List ℕ)) → (o : Outcome) × ComesTo n s number texts o
comes n s number [] = (outcome_at_end n s, refl)
comes n s number (text ∷ more) =
    elim (goes n s number (head s text)) [
      | inl t ↦ let r = comes n t.0 (number + 1) more in (r.0, inl (t.0, t.1, r.1))
      | inr c ↦ (Err (number, c.0), inr (c.0, c.1, refl))
    ]

by_size : (n : NativeData) (text : List ℕ) (large : Bool) → (o : Outcome) × MatchBool large (o ≡ Err (0, cause.TooLarge)) (ComesTo n start 1 (lines text) o)
by_size n text true = (Err (0, cause.TooLarge), refl)
by_size n text false = comes n start 1 (lines text)

pub some_outcome : SomeOutcome
some_outcome n text = by_size n text (nat_lt most_bytes (length text))
