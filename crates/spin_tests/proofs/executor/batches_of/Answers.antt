use Rattle.std.proofs.Common.{◌≡◌, ◌<◌, ◌+◌, ◌^◌, ◌∷◌, ◌++◌, [], List, ap, length, arith}
use Rattle.std.proofs.lemmas.List.{length_push}
use Rattle.std.proofs.lemmas.List.Elements.{All-push, All-same}
use Rattle.std.specs.List.{All}
use Rattle.spin_table.specs.SetupOf.{data_of}
use Rattle.spin_later.specs.Batches.{CanDo}
use Rattle.spin_later.specs.declared.batch.Call.{Call}
use Rattle.spin_tests.proofs.executor.batches_of.Goals as goal

pub loop-preserved : goal.loop-preserved
loop-preserved g c =
    let P = All (CanDo (data_of c.args.setup.now)) in
    let Q = λ (batch : List Call). length batch < 2 ^ 32 in
    let batch = c.in_ok-batch_of.field-0 in
    let is = c.in_ok-push.ensures.ok in
    let all = c.loop.batches ++ batch ∷ [] in
    let can = All-same P c.push.new.self all is (All-push P c.loop.batches batch c.loop.invariant.0 c.in_ok-batch_of.ensures.can) in
    let few = All-same Q c.push.new.self all is (All-push Q c.loop.batches batch c.loop.invariant.1 c.in_ok-batch_of.ensures.few) in
    let len : length c.push.new.self ≡ c.loop.counter + 1 = omega (arith, ap length is, length_push c.loop.batches batch) in
    (can, few, len)
