use Rattle.std.proofs.Common.{◌≡◌, ◌+◌, ◌∷◌, ◌++◌, [], ap, length, arith}
use Rattle.std.proofs.lemmas.List.{length_push}
use Rattle.std.proofs.lemmas.List.Elements.{All-push, All-same}
use Rattle.spin_table.specs.SetupOf.{data_of}
use Rattle.spin_later.specs.Batches.{CanDo}
use Rattle.spin_tests.proofs.executor.batch_of.Goals as goal

pub loop-preserved : goal.loop-preserved
loop-preserved g c =
    let P = CanDo (data_of c.args.setup.now) in
    let call = c.in_ok-call_of.field-0 in
    let is = c.in_ok-push.ensures.ok in
    let can = All-same P c.push.new.self (c.loop.batch ++ call ∷ []) is (All-push P c.loop.batch call c.loop.invariant.0 c.in_ok-call_of.ensures) in
    let len : length c.push.new.self ≡ c.loop.counter + 1 = omega (arith, ap length is, length_push c.loop.batch call) in
    (can, len)
