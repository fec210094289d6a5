-- How the readings of parts make up the reading of a whole.
use Rattle.std.proofs.Common.{◌≡◌, ℕ, true, false, List, [], ◌∷◌, ◌++◌, Result, Ok, Err, MatchResult, refl, sym, ap, ◌∙◌, append_assoc}
use Rattle.spin_grammar.specs.declared.cause.Cause.{Cause}
use Rattle.spin_grammar.specs.declared.cause.Cause.TheVariants as cause
use Rattle.spin_grammar.specs.declared.fault.Fault.{Fault}
use Rattle.spin_grammar.specs.declared.fault.Fault.TheVariants.{Bad, NoMemory}
use Rattle.spin_grammar.specs.Grammar.{Atom, Want, Reading, accepts, reads, then_read, may_end}
use Rattle.spin_grammar.specs.Inner.Keywords.{Next}
use Rattle.spin_grammar.specs.Inner.Reading.{Leads, Takes, Fails, GivesSome, GivesBehind}

pub then_read-nest : (a b : List Atom) (r : Reading) → then_read a (then_read b r) ≡ then_read (a ++ b) r
then_read-nest a b (Ok c) = ap (λ (x : List Atom). Ok x) (sym (append_assoc a b c))
then_read-nest a b (Err c) = refl

pub leads_none : (wants : List Want) (ws : List (List ℕ)) → Leads wants [] wants ws ws
leads_none wants ws = record { whole = λ more. same (reads (wants ++ more) ws) }
  where
    same : (r : Reading) → r ≡ then_read [] r
    same (Ok x) = refl
    same (Err c) = refl

-- the line's end, where it may be
pub leads_over : (want : Want) → may_end want ≡ true → Leads (want ∷ []) [] [] [] []
unfolding reads
leads_over want e = record { whole = λ more. over more ∙ (leads_none [] []).whole more }
  where
    over : (more : List Want) → reads (want ∷ more) [] ≡ reads more []
    over [] = rw e refl
    over (m ∷ more) = rw e refl

-- one part after another
pub leads_then : (w1 w2 w3 : List Want) (a1 a2 : List Atom) (old mid new : List (List ℕ)) → Leads w1 a1 w2 old mid → Leads w2 a2 w3 mid new → Leads w1 (a1 ++ a2) w3 old new
leads_then w1 w2 w3 a1 a2 old mid new t u = record {
  whole = λ more. t.whole more ∙ ap (λ (r : Reading). then_read a1 r) (u.whole more) ∙ then_read-nest a1 a2 (reads (w3 ++ more) new);
}

-- one part after another, with nothing left of either
pub takes_then : (w1 w2 : List Want) (a1 a2 : List Atom) (old mid new : List (List ℕ)) → Leads w1 a1 [] old mid → Leads w2 a2 [] mid new → Leads (w1 ++ w2) (a1 ++ a2) [] old new
takes_then w1 w2 a1 a2 old mid new t u = record {
  whole = λ more. rw (append_assoc w1 w2 more) (t.whole (w2 ++ more) ∙ ap (λ (r : Reading). then_read a1 r) (u.whole more) ∙ then_read-nest a1 a2 (reads more new));
}

-- whatever else is wanted behind
pub leads_with : (w1 w2 w3 : List Want) (a : List Atom) (old new : List (List ℕ)) → Leads w1 a w2 old new → Leads (w1 ++ w3) a (w2 ++ w3) old new
leads_with w1 w2 w3 a old new t = record { whole = λ more. rw (append_assoc w1 w3 more, append_assoc w2 w3 more) (t.whole (w3 ++ more)) }

pub leads_word : (want : Want) (w : List ℕ) (a : Atom) (wants : List Want) (old new : List (List ℕ)) → old ≡ w ∷ new → Ok (a, wants) ≡ accepts want w → Leads (want ∷ []) (a ∷ []) wants old new
unfolding reads
leads_word want w a wants old new first e = record { whole = λ more. rw (first, ← e, reads) refl }

pub fails_word : (want : Want) (w : List ℕ) (c : Cause) (old new : List (List ℕ)) → Err c ≡ accepts want w → old ≡ w ∷ new → Fails (want ∷ []) (Bad c) old
unfolding reads
fails_word want w c old new e first = record { whole = λ d is more. rw (first, ← e, reads) (let same : c ≡ d = cc in ap (λ (x : Cause). Err x) same) }

pub fails_end : (want : Want) (old : List (List ℕ)) → old ≡ [] → may_end want ≡ false → Fails (want ∷ []) (Bad cause.End) old
unfolding reads
fails_end want old first e = record { whole = λ d is more. rw (first, e) (let same : cause.End ≡ d = cc in ap (λ (x : Cause). Err x) same) }

-- without memory nothing is said of the words
pub fails_bare : (wants : List Want) (f : Fault) (old : List (List ℕ)) → f ≡ NoMemory → Fails wants f old
fails_bare wants f old e = record { whole = λ c is more. absurd cc }

pub fails_then : (w1 w2 : List Want) (a : List Atom) (f : Fault) (old mid : List (List ℕ)) → Leads w1 a w2 old mid → Fails w2 f mid → Fails w1 f old
fails_then w1 w2 a f old mid t h = record { whole = λ c is more. t.whole more ∙ ap (λ (r : Reading). then_read a r) (h.whole c is more) }

pub fails_with : (w1 w2 : List Want) (f : Fault) (old : List (List ℕ)) → Fails w1 f old → Fails (w1 ++ w2) f old
fails_with w1 w2 f old h = record { whole = λ c is more. rw append_assoc (h.whole c is (w2 ++ more)) }

pub ruleset word_steps = (leads_word, fails_word, fails_end)

-- the first of several things fails, or one behind it does
pub fails_head : (want : Want) (wants : List Want) (f : Fault) (old : List (List ℕ)) → Fails (want ∷ []) f old → Fails (want ∷ wants) f old
fails_head want wants f old h = fails_with (want ∷ []) wants f old h

pub fails_next : (want : Want) (wants : List Want) (a : List Atom) (f : Fault) (old mid : List (List ℕ)) → Leads (want ∷ []) a [] old mid → Fails wants f mid → Fails (want ∷ wants) f old
fails_next want wants a f old mid t h = fails_then (want ∷ wants) wants a f old mid (leads_with (want ∷ []) [] wants a old mid t) h

-- a first word, and what was read behind it
pub gives_behind : {A B : Type 0} (stands : A → B → Type 0) (form : B → List Atom) (want : Want) (next : Next) (r : Result A Fault) (old mid new : List (List ℕ))
    → Leads (want ∷ []) (next.0 ∷ []) next.1 old mid → GivesBehind stands form next r mid new
    → GivesSome stands form (want ∷ []) r old new
gives_behind stands form want next (Ok a) old mid new head g = (g.0, rw g.2 (leads_then (want ∷ []) next.1 [] (next.0 ∷ []) g.1 old mid new head g.3), g.4)
gives_behind stands form want next (Err f) old mid new head g = fails_then (want ∷ []) next.1 (next.0 ∷ []) f old mid head g

-- what was made of what was read, unless there was no memory
pub gives_made : {A B : Type 0} (is_made : A → Type 0) (stands : A → B → Type 0) (form : B → List Atom) (wants : List Want) (r : Result A Fault) (old new : List (List ℕ))
    → MatchResult r is_made (λ f. f ≡ NoMemory)
    → ((a : A) → is_made a → (b : B) × Takes wants (form b) old new × stands a b) → GivesSome stands form wants r old new
gives_made is_made stands form wants (Ok a) old new h made = made a h
gives_made is_made stands form wants (Err f) old new h made = fails_bare wants f old h

pub ruleset failing = (fails_head, fails_next, fails_then)
