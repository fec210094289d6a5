use Rattle.std.proofs.Common.{◌≡◌, ◌<◌, ℕ, List, length, Some, sym, ap, ◌∙◌, arith}
use Rattle.std.specs.Prelude.{slice_get}
use Rattle.std.proofs.lemmas.Option.{slice_get-get_or}
use Rattle.spin_script.specs.Canonical.{endpoint_line}
use Rattle.spin_script.proofs.WrittenParts.{lines_more, more_written}
use Rattle.spin_script.proofs.write.declared.put_endpoints.Goals as goal

pub loop-endpoint-preserved : goal.loop-endpoint-preserved
loop-endpoint-preserved c =
    let all : List (List ℕ) = c.args.endpoints.now in
    let this : List ℕ = c.index-endpoints-endpoint.result in
    let inside : c.loop-endpoint.endpoint < length all = omega (arith, c.loop-endpoint-test.true) in
    let there : slice_get all c.loop-endpoint.endpoint ≡ Some this =
    slice_get-get_or all c.loop-endpoint.endpoint this inside ∙ ap (λ (name : List ℕ). Some name) (sym c.index-endpoints-endpoint.is) in
    more_written c.args.out.now _ _
    (lines_more endpoint_line 0 c.loop-endpoint.endpoint c.loop-endpoint.endpoint all this there (omega arith))
    c.loop-endpoint.invariant c.in_ok-put_endpoint.ensures
