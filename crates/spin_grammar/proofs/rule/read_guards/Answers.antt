use Rattle.std.proofs.Common.{◌≡◌, ℕ, suc, ◌+◌, ◌-◌, List, [], ◌∷◌, ◌++◌, length, map, replicate, length-append, refl, arith}
use Rattle.std.proofs.lemmas.List.{map_push}
use Rattle.std.proofs.lemmas.Result.{err_from_is_err_and}
use Rattle.spin_grammar.specs.declared.fault.Fault.{Fault}
use Rattle.spin_grammar.specs.Grammar.{Number, Numeral, Counted}
use Rattle.spin_grammar.specs.Inner.Reading.{Leads, Takes, Fails}
use Rattle.spin_grammar.proofs.ReadingParts.{leads_then, leads_with, fails_then, fails_head}
use Rattle.spin_grammar.proofs.rule.read_guards.Goals as goal

abbrev SoFar : ℕ → ℕ → List ℕ → ℕ → List (List ℕ) → List (List ℕ) → Type 0
SoFar low count guards left old cur = Leads (Counted low 4 (Number 1 1023) ∷ []) (Numeral count ∷ map Numeral guards) (replicate left (Number 1 1023)) old cur

more_read : (low count left more n : ℕ) (guards : List ℕ) (old cur new : List (List ℕ)) → left ≡ suc more → SoFar low count guards left old cur
    → Takes (Number 1 1023 ∷ []) (Numeral n ∷ []) cur new → SoFar low count (guards ++ n ∷ []) more old new
more_read low count left more n guards old cur new e s t =
    rw (map_push Numeral guards n) (leads_then (Counted low 4 (Number 1 1023) ∷ []) (Number 1 1023 ∷ replicate more (Number 1 1023)) (replicate more (Number 1 1023))
    (Numeral count ∷ map Numeral guards) (Numeral n ∷ []) old cur new (rw e at s) (leads_with (Number 1 1023 ∷ []) [] (replicate more (Number 1 1023)) (Numeral n ∷ []) cur new t))

failed : (low count left more : ℕ) (guards : List ℕ) (f : Fault) (old cur : List (List ℕ)) → left ≡ suc more
    → SoFar low count guards left old cur → Fails (Number 1 1023 ∷ []) f cur → Fails (Counted low 4 (Number 1 1023) ∷ []) f old
failed low count left more guards f old cur e s h =
    fails_then _ (Number 1 1023 ∷ replicate more (Number 1 1023)) _ f old cur (rw e at s) (fails_head (Number 1 1023) (replicate more (Number 1 1023)) f cur h)

pub returns-in_err-count-clause-gives : goal.returns-in_err-count-clause-gives
returns-in_err-count-clause-gives c =
    let p = err_from_is_err_and c.from_residual.result c.from_residual.ensures.1 in
    rw (p.1, p.2) (c.in_err-count.ensures.opens (Number 1 1023))

pub loop-init : goal.loop-init
loop-init c =
    let whole : c.in_ok-count.count - 0 ≡ c.in_ok-count.count = omega arith in
    rw (whole, c.new-guards.ensures) (record { count = refl; so_far = c.in_ok-count.ensures.opens (Number 1 1023) })

pub returns-in_err-number_from-clause-gives : goal.returns-in_err-number_from-clause-gives
returns-in_err-number_from-clause-gives c =
    let p = err_from_is_err_and c.from_residual-in_err-number_from.result c.from_residual-in_err-number_from.ensures.1 in
    rw (p.1, p.2) (failed c.args.low c.in_ok-count.count (c.in_ok-count.count - c.loop.counter)
    (c.in_ok-count.count - (c.loop.counter + 1)) c.loop.guards _ _ _ (omega arith) c.loop.invariant.so_far c.in_err-number_from.ensures.gives)

pub loop-preserved : goal.loop-preserved
loop-preserved c =
    rw c.in_ok-push.ensures.ok (record {
      count = omega (arith, length-append c.loop.guards (c.in_ok-number_from.field-0 ∷ []), c.loop.invariant.count);
      so_far = more_read c.args.low c.in_ok-count.count (c.in_ok-count.count - c.loop.counter)
          (c.in_ok-count.count - (c.loop.counter + 1)) c.in_ok-number_from.field-0 c.loop.guards _ _ _ (omega arith) c.loop.invariant.so_far c.in_ok-number_from.ensures.gives;
    })

pub returns-clause-gives : goal.returns-clause-gives
returns-clause-gives c =
    let none : c.in_ok-count.count - c.loop.counter ≡ 0 = omega arith in
    let all : c.in_ok-count.count ≡ length c.loop.guards = omega (arith, c.loop.invariant.count) in
    rw (none, all) at c.loop.invariant.so_far
