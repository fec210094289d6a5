use Rattle.std.proofs.Common.{◌≡◌, ◌≤◌, ◌++◌, ℕ, List, length, take, sym, ap, ◌∙◌, subst, arith, rules}
use Rattle.std.proofs.lemmas.List.{length-append, length-take}
use Rattle.spin_pcap.proofs.SourceBytes.{passes-more, passes-copy}
use Rattle.spin_pcap.specs.Passing.{Passes}
use Rattle.spin_pcap.proofs.reader.copy_body.Goals as goal

pub returns-in_err-need-clause-passed : goal.returns-in_err-need-clause-passed
returns-in_err-need-clause-passed g c = passes-more _ _ _ _ _ _ _ c.loop-rest.invariant.passed c.need.ensures.passed

pub returns-in_err-extend_from_slice-clause-passed : goal.returns-in_err-extend_from_slice-clause-passed
returns-in_err-extend_from_slice-clause-passed g c =
    let same : c.extend_from_slice.new.self ≡ c.loop-rest.frame = c.in_err-extend_from_slice.ensures.err in
    subst (λ (ys : List ℕ). Passes ys c.args.window.now (g.S.Source.seen c.args.source.now) c.need.new.self (g.S.Source.seen c.need.new.source)) (sym same)
    (passes-more _ _ _ _ _ _ _ c.loop-rest.invariant.passed c.need.ensures.passed)

pub loop-rest-preserved : goal.loop-rest-preserved
loop-rest-preserved g c =
    let held : c.held-held.result.now ≡ c.need.new.self = c.held-held.ensures.same in
    let grown : c.extend_from_slice.new.self ≡ c.loop-rest.frame ++ take c.min-piece.result c.held-held.result.now = search rules in
    let within : c.min-piece.result ≤ length c.need.new.self = omega (arith, c.min-piece.ensures, ap length held) in
    let frame : c.extend_from_slice.new.self ≡ c.loop-rest.frame ++ take c.min-piece.result c.need.new.self = grown ∙ ap (λ ys. c.loop-rest.frame ++ take c.min-piece.result ys) held in
    record {
      passed = passes-copy c.loop-rest.frame _ _ _ c.need.new.self _ _ _ _ c.min-piece.result c.loop-rest.invariant.passed c.need.ensures.passed within frame c.skip.ensures.skipped;
      count = omega (
        arith,
        ap length frame,
        length-append c.loop-rest.frame (take c.min-piece.result c.need.new.self),
        length-take c.min-piece.result c.need.new.self,
        c.loop-rest.invariant.count,
        c.min-piece.ensures,
        within,
      );
      bound = λ _. c.skip.ensures.bound;
      stood = search rules;
    }
