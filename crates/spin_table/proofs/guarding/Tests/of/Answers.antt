use Rattle.std.proofs.Common.{◌≡◌, ◌∙◌, ℕ, ◌+◌, ◌-◌, ◌++◌, List, [], ◌∷◌, suc, take, map, slice_get, Some, sym, ap, subst, arith}
use Rattle.std.proofs.lemmas.Option.{slice_get_within, get_or_from_slice_get}
use Rattle.std.proofs.lemmas.List.{map-append}
use Rattle.std.proofs.Math.Seq.{take-suc}
use Rattle.std.specs.declared.snapshot.Snapshot.{Snapshot}
use Rattle.spin_code.specs.declared.test.Test.{Test}
use Rattle.spin_objects.specs.Units.{tests_of}
use Rattle.spin_table.proofs.guarding.Tests.of.Goals as goal

-- with the test at the place that comes next there is one more
seen_more : (seen more : List (Snapshot Test)) (tests : List Test) (i : ℕ) (s : Snapshot Test) (t : Test) → map (λ (x : Snapshot Test). x.value) seen ≡ take i tests → more ≡ seen ++ s ∷ []
    → s.value ≡ t → slice_get tests i ≡ Some t → map (λ (x : Snapshot Test). x.value) more ≡ take (i + 1) tests
seen_more seen more tests i s t so pushed value there =
    ap (map (λ (x : Snapshot Test). x.value)) pushed
    ∙ map-append (λ (x : Snapshot Test). x.value) seen (s ∷ [])
    ∙ ap (λ (ts : List Test). ts ++ s.value ∷ []) so
    ∙ ap (λ u. take i tests ++ u ∷ []) (value ∙ sym (get_or_from_slice_get tests i t t there))
    ∙ sym (take-suc tests i t (slice_get_within tests i t there))
    ∙ ap (λ n. take n tests) one_more
  where
    one_more : suc i ≡ i + 1
    one_more = omega arith

pub loop-before-preserved : goal.loop-before-preserved
loop-before-preserved g c =
    let tests = tests_of c.args.catalogue.now in
    let i = c.loop-before.before in
    let same : i + 1 - 1 ≡ i = omega arith in
    let there : slice_get tests i ≡ Some c.test_of.result.now = subst (λ n. slice_get tests n ≡ Some c.test_of.result.now) same c.test_of.ensures in
    seen_more c.loop-before.seen c.push.new.self tests i c.of.result c.test_of.result.now c.loop-before.invariant c.in_ok-push.ensures.ok c.of.ensures there
