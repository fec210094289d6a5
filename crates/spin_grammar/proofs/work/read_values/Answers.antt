use Rattle.std.proofs.Common.{◌≡◌, ℕ, zero, suc, ◌+◌, ◌-◌, List, [], ◌∷◌, ◌++◌, Ok, Err, map, refl, arith}
use Rattle.std.proofs.lemmas.List.{append-nil, map_push}
use Rattle.std.proofs.lemmas.Result.{err_from_is_err_and}
use Rattle.spin_values.specs.declared.values.Value.{Value}
use Rattle.spin_grammar.specs.declared.cause.Cause.TheVariants as cause
use Rattle.spin_grammar.specs.declared.fault.Fault.{Fault}
use Rattle.spin_grammar.specs.declared.fault.Fault.TheVariants.{Bad}
use Rattle.spin_grammar.specs.Grammar.{Atom, Values, accepts}
use Rattle.spin_grammar.specs.Forms.{value_atom}
use Rattle.spin_grammar.specs.Inner.Reading.{Leads, Takes, Fails}
use Rattle.spin_grammar.specs.Inner.Spots.{GivesValue}
use Rattle.spin_grammar.proofs.ReadingParts.{leads_then, leads_word, leads_over, fails_then, fails_word}
use Rattle.spin_grammar.proofs.work.read_values.Goals as goal

ended : (k : ℕ) (atoms : List Atom) (old cur new : List (List ℕ)) → cur ≡ [] → new ≡ [] → Leads (Values 8 ∷ []) atoms (Values k ∷ []) old cur → Takes (Values 8 ∷ []) atoms old new
ended k atoms old cur new e f t = rw (f, ← append-nil atoms) (leads_then (Values 8 ∷ []) (Values k ∷ []) [] atoms [] old [] [] (rw e at t) (leads_over (Values k) refl))

more_read : (k j : ℕ) (vs : List Value) (v : Value) (w : List ℕ) (old cur new : List (List ℕ)) → k ≡ suc j
    → cur ≡ w ∷ new → GivesValue w (Ok v) → Leads (Values 8 ∷ []) (map value_atom vs) (Values k ∷ []) old cur
    → Leads (Values 8 ∷ []) (map value_atom (vs ++ v ∷ [])) (Values j ∷ []) old new
more_read k j vs v w old cur new e first g t =
    rw (map_push value_atom vs v) (leads_then (Values 8 ∷ []) (Values (suc j) ∷ []) (Values j ∷ []) (map value_atom vs)
    (value_atom v ∷ []) old cur new (rw e at t) (leads_word (Values (suc j)) w (value_atom v) (Values j ∷ []) cur new first (g j)))

wrong : (j : ℕ) (w : List ℕ) (f : Fault) (cur new : List (List ℕ)) → cur ≡ w ∷ new → GivesValue w (Err f) → Fails (Values (suc j) ∷ []) f cur
wrong j w f cur new first g = record { whole = λ c is more. (fails_word (Values (suc j)) w c cur new (g c is j) first).whole c refl more }

failed : (k j : ℕ) (atoms : List Atom) (w : List ℕ) (f : Fault) (old cur new : List (List ℕ)) → k ≡ suc j → cur ≡ w ∷ new
    → GivesValue w (Err f) → Leads (Values 8 ∷ []) atoms (Values k ∷ []) old cur → Fails (Values 8 ∷ []) f old
failed k j atoms w f old cur new e first g t = fails_then (Values 8 ∷ []) (Values (suc j) ∷ []) atoms f old cur (rw e at t) (wrong j w f cur new first g)

no_more : (w : List ℕ) → Err cause.End ≡ accepts (Values zero) w
unfolding accepts
no_more w = refl

over : (k : ℕ) (atoms : List Atom) (w : List ℕ) (old cur new : List (List ℕ)) → k ≡ 0 → cur ≡ w ∷ new → Leads (Values 8 ∷ []) atoms (Values k ∷ []) old cur → Fails (Values 8 ∷ []) (Bad cause.End) old
over k atoms w old cur new e first t = fails_then (Values 8 ∷ []) (Values 0 ∷ []) atoms (Bad cause.End) old cur (rw e at t) (fails_word (Values 0) w cause.End cur new (no_more w) first)

pub returns-in_default : goal.returns-in_default
returns-in_default c = rw c.shrink_to_fit.ensures (ended (8 - c.loop.counter) _ _ _ _ c.in_default.ensures.0 c.in_default.ensures.1 c.loop.invariant)

pub returns-in_err-value : goal.returns-in_err-value
returns-in_err-value c =
    let p = err_from_is_err_and c.from_residual-in_err-value.result c.from_residual-in_err-value.ensures.1 in
    rw (p.1, p.2) (failed (8 - c.loop.counter) (8 - (c.loop.counter + 1)) _ _ _ _ _ _ (omega arith) c.in-Some.ensures c.in_err-value.ensures c.loop.invariant)

pub loop-preserved : goal.loop-preserved
loop-preserved c = rw c.in_ok-push.ensures.ok (more_read (8 - c.loop.counter) (8 - (c.loop.counter + 1)) _ _ _ _ _ _ (omega arith) c.in-Some.ensures c.in_ok-value.ensures c.loop.invariant)

pub returns-in-None : goal.returns-in-None
returns-in-None c = ended (8 - c.loop.counter) _ _ _ _ c.in-None.ensures.0 c.in-None.ensures.1 c.loop.invariant

pub returns-in-Some-next : goal.returns-in-Some-next
returns-in-Some-next c = over (8 - c.loop.counter) _ _ _ _ _ (omega arith) c.in-Some-next.ensures c.loop.invariant
