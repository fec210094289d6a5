use Rattle.std.proofs.Common.{◌≡◌, ℕ, suc, ◌+◌, ◌-◌, ◌<◌, List, [], ◌∷◌, ◌++◌, length, map, length-append, refl, arith}
use Rattle.std.specs.Prelude.{slice_set}
use Rattle.std.proofs.lemmas.List.{map_push}
use Rattle.std.proofs.lemmas.Result.{err_from_is_err_and}
use Rattle.spin_grammar.specs.declared.fault.Fault.{Fault}
use Rattle.spin_grammar.specs.Grammar.{Atom, Numeral, Bindings, Rising, rising}
use Rattle.spin_grammar.specs.Forms.{padded}
use Rattle.spin_grammar.specs.Inner.Reading.{Leads, Fails}
use Rattle.spin_grammar.proofs.ReadingParts.{leads_then, fails_then}
use Rattle.spin_grammar.proofs.BindingNumbers.{rising_more, rising_bindings}
use Rattle.spin_grammar.proofs.work.read_bindings.Goals as goal

padded_more : (ns : List ℕ) (n at : ℕ) → length ns ≡ at → at < 4 → slice_set (padded ns) at n ≡ padded (ns ++ n ∷ [])
padded_more [] n at e h = rw (← e) refl
padded_more (a ∷ []) n at e h = rw (← e) refl
padded_more (a ∷ (b ∷ [])) n at e h = rw (← e) refl
padded_more (a ∷ (b ∷ (d ∷ []))) n at e h = rw (← e) refl
padded_more (a ∷ (b ∷ (d ∷ (f ∷ more)))) n at e h = absurd (omega (arith, e, h))

more_read : (count low left more n : ℕ) (ns : List ℕ) (old cur new : List (List ℕ)) → left ≡ suc more → Leads (Bindings ∷ []) (Numeral count ∷ map Numeral ns) (rising low left) old cur
    → Leads (Rising low more ∷ []) (Numeral n ∷ []) (rising (n + 1) more) cur new → Leads (Bindings ∷ []) (Numeral count ∷ map Numeral (ns ++ n ∷ [])) (rising (n + 1) more) old new
more_read count low left more n ns old cur new e s t =
    rw (map_push Numeral ns n) (leads_then (Bindings ∷ []) (Rising low more ∷ []) (rising (n + 1) more) (Numeral count ∷ map Numeral ns) (Numeral n ∷ []) old cur new (rw e at s) t)

failed : (atoms : List Atom) (low left more : ℕ) (f : Fault) (old cur : List (List ℕ)) → left ≡ suc more
    → Leads (Bindings ∷ []) atoms (rising low left) old cur → Fails (Rising low more ∷ []) f cur → Fails (Bindings ∷ []) f old
failed atoms low left more f old cur e s h = fails_then (Bindings ∷ []) (Rising low more ∷ []) atoms f old cur (rw e at s) h

pub loop-at-init : goal.loop-at-init
loop-at-init c =
    let whole : c.in_ok-count.count - 0 ≡ c.in_ok-count.count = omega arith in
    record { few = omega (arith, c.in_ok-count.ensures.range); small = omega arith; so_far = ([], refl, refl, rw whole c.in_ok-count.ensures.opens, tt) }

pub returns-in_err-number-clause-gives : goal.returns-in_err-number-clause-gives
returns-in_err-number-clause-gives c =
    let p = err_from_is_err_and c.from_residual-in_err-number.result c.from_residual-in_err-number.ensures.1 in
    rw (p.1, p.2) (failed _ c.loop-at.low (c.in_ok-count.count - c.loop-at.at) (c.in_ok-count.count - (c.loop-at.at + 1)) _ _ _ (omega arith) c.loop-at.invariant.so_far.3
    (c.in_err-number.ensures.opens (c.in_ok-count.count - (c.loop-at.at + 1))))

pub loop-at-preserved : goal.loop-at-preserved
loop-at-preserved c =
    let s = c.loop-at.invariant.so_far in
    let n = c.in_ok-number.number in
    let at_four : c.loop-at.at < 4 = omega (arith, c.loop-at.invariant.few) in
    record {
      few = c.loop-at.invariant.few;
      small = omega (arith, c.in_ok-number.ensures.range.1);
      so_far = (
        s.0 ++ n ∷ [],
        omega (arith, length-append s.0 (n ∷ []), s.1),
        rw s.2 (padded_more s.0 n c.loop-at.at s.1 at_four),
        more_read c.in_ok-count.count c.loop-at.low (c.in_ok-count.count - c.loop-at.at)
            (c.in_ok-count.count - (c.loop-at.at + 1)) n s.0 _ _ _ (omega arith) s.3 (c.in_ok-number.ensures.opens (c.in_ok-count.count - (c.loop-at.at + 1))),
        rising_more s.0 c.loop-at.low n s.4 c.in_ok-number.ensures.range.0,
      );
    }

ended : (count left low : ℕ) (ns : List ℕ) (old cur : List (List ℕ)) → left ≡ 0 → count ≡ length ns
    → Leads (Bindings ∷ []) (Numeral count ∷ map Numeral ns) (rising low left) old cur → Leads (Bindings ∷ []) (Numeral (length ns) ∷ map Numeral ns) [] old cur
ended count left low ns old cur e f s = rw (e, f) at s

pub returns-clause-gives : goal.returns-clause-gives
returns-clause-gives c =
    let s = c.loop-at.invariant.so_far in
    (s.0, ended c.in_ok-count.count (c.in_ok-count.count - c.loop-at.at) c.loop-at.low s.0 _ _ (omega arith) (omega (arith, s.1)) s.3, s.2)

pub returns-clause-valid : goal.returns-clause-valid
returns-clause-valid c =
    let s = c.loop-at.invariant.so_far in
    rw s.2 (rising_bindings s.0 c.loop-at.low s.4 c.loop-at.invariant.small (omega (arith, s.1, c.loop-at.invariant.few)))
