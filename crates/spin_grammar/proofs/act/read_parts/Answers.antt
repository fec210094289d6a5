use Rattle.std.proofs.Common.{◌≡◌, ℕ, suc, ◌+◌, ◌-◌, Bool, true, List, [], ◌∷◌, ◌++◌, Some, replicate, arith}
use Rattle.std.proofs.lemmas.Result.{err_from_is_err_and}
use Rattle.spin_code.specs.declared.act.Part.{Part}
use Rattle.spin_code.specs.Size.{is_part_deep}
use Rattle.spin_grammar.specs.declared.fault.Fault.{Fault}
use Rattle.spin_grammar.specs.Grammar as grammar
use Rattle.spin_grammar.specs.Forms.{part_form}
use Rattle.spin_grammar.specs.Inner.Reading.{Takes, Fails, SoFar}
use Rattle.spin_grammar.specs.Lines.{IsKept}
use Rattle.spin_grammar.proofs.ReadingParts.{leads_with, fails_head}
use Rattle.spin_grammar.proofs.DepthLemmas.{so_far_none, so_far_kept, so_far_deep, so_far_fails}
use Rattle.spin_grammar.proofs.act.read_parts.Goals as goal
use Rattle.spin_grammar.proofs.act.read_parts.Goals.{in-Some+in_ok-push-in-Some, in-None}

kept : (total left more n : ℕ) (deep : Bool) (parts : List Part) (x a : Part) (old cur new : List (List ℕ)) → left ≡ suc more
    → SoFar part_form is_part_deep (replicate total grammar.Part) (replicate left grammar.Part) deep parts n old cur
    → Takes (grammar.Part ∷ []) (part_form a) cur new → IsKept is_part_deep (Some x) a
    → SoFar part_form is_part_deep (replicate total grammar.Part) (replicate more grammar.Part) deep (parts ++ x ∷ []) (n + 1) old new
kept total left more n deep parts x a old cur new e s t k =
    so_far_kept part_form is_part_deep (replicate total grammar.Part) (grammar.Part ∷ replicate more grammar.Part)
    (replicate more grammar.Part) deep parts n x a old cur new (rw e at s) (leads_with (grammar.Part ∷ []) [] (replicate more grammar.Part) (part_form a) cur new t) k

dropped : (total left more n : ℕ) (deep : Bool) (parts : List Part) (a : Part) (old cur new : List (List ℕ)) → left ≡ suc more
    → SoFar part_form is_part_deep (replicate total grammar.Part) (replicate left grammar.Part) deep parts n old cur
    → Takes (grammar.Part ∷ []) (part_form a) cur new → is_part_deep a ≡ true → SoFar part_form is_part_deep (replicate total grammar.Part) (replicate more grammar.Part) true parts (n + 1) old new
dropped total left more n deep parts a old cur new e s t k =
    so_far_deep part_form is_part_deep (replicate total grammar.Part) (grammar.Part ∷ replicate more grammar.Part)
    (replicate more grammar.Part) deep parts n a old cur new (rw e at s) (leads_with (grammar.Part ∷ []) [] (replicate more grammar.Part) (part_form a) cur new t) k

failed : (total left more n : ℕ) (deep : Bool) (parts : List Part) (f : Fault) (old cur : List (List ℕ)) → left ≡ suc more
    → SoFar part_form is_part_deep (replicate total grammar.Part) (replicate left grammar.Part) deep parts n old cur
    → Fails (grammar.Part ∷ []) f cur → Fails (replicate total grammar.Part) f old
failed total left more n deep parts f old cur e s h =
    so_far_fails part_form is_part_deep (replicate total grammar.Part) (grammar.Part ∷ replicate more grammar.Part) deep parts n f old cur
    (rw e at s) (fails_head grammar.Part (replicate more grammar.Part) f cur h)

pub loop-init : goal.loop-init
loop-init c =
    let whole : c.args.count - 0 ≡ c.args.count = omega arith in
    record { falls = omega arith; so_far = rw (whole, c.new-parts.ensures) (so_far_none part_form is_part_deep (replicate c.args.count grammar.Part) _) }

pub returns-in_err-part-clause-gives : goal.returns-in_err-part-clause-gives
returns-in_err-part-clause-gives c =
    let p = err_from_is_err_and c.from_residual.result c.from_residual.ensures.1 in
    rw (p.1, p.2) (failed c.args.count (c.args.count - c.loop.counter) (c.args.count - (c.loop.counter + 1)) _ _ _ _ _ _ (omega arith) c.loop.invariant.so_far c.in_err-part.ensures.gives)

pub loop-preserved : goal.loop-preserved
loop-preserved c =
    let g = c.in_ok-part.ensures.gives in
    elim c.match-branch-2.branch [
      | in-Some+in_ok-push-in-Some w ↦
          let k = rw w.in-Some.is at g.2 in
          record {
            falls = omega (arith, c.in_ok-part.ensures.falls);
            so_far = rw (w.parts-is, w.deep-is, w.in_ok-push-in-Some.ensures.ok)
                (kept c.args.count (c.args.count - c.loop.counter) (c.args.count - (c.loop.counter + 1)) _ _ _ _ g.0 _ _ _ (omega arith) c.loop.invariant.so_far g.1 k);
          }
      | in-None w ↦
          let k = rw w.in-None.is at g.2 in
          record {
            falls = omega (arith, c.in_ok-part.ensures.falls);
            so_far =
                rw (w.parts-is, w.deep-is) (dropped c.args.count (c.args.count - c.loop.counter) (c.args.count - (c.loop.counter + 1)) _ _ _ g.0 _ _ _ (omega arith) c.loop.invariant.so_far g.1 k);
          }
    ]

pub returns-then-deep-clause-gives : goal.returns-then-deep-clause-gives
returns-then-deep-clause-gives c =
    let none : c.args.count - c.loop.counter ≡ 0 = omega arith in
    let s = rw none at c.loop.invariant.so_far in
    (s.done, omega (arith, s.count), s.read, s.one c.if-deep.true)

pub returns-clause-gives : goal.returns-clause-gives
returns-clause-gives c =
    let none : c.args.count - c.loop.counter ≡ 0 = omega arith in
    let s = rw none at c.loop.invariant.so_far in
    (s.done, omega (arith, s.count), s.read, s.all c.if-deep.false)
