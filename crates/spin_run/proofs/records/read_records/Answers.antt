use Rattle.std.proofs.Common.{◌≡◌, ◌<◌, ◌++◌, ◌∷◌, [], List, ℕ, Ok, Err, length, sym, subst, ap, arith, rules, ◌∙◌, length-append}
use Rattle.spin_pcap.specs.declared.next.Next.{Next}
use Rattle.spin_run.specs.declared.end.RunEnd.TheVariants as end
use Rattle.spin_run.specs.Inner.Reading.{Reads, GivesNext, HasTaken}
use Rattle.spin_run.proofs.ReaderCalls.{HasReadTo, ReadsFrames, reads_one, stops_keeping, stops_reading}
use Rattle.spin_run.proofs.CaptureBytes.{took_then}
use Rattle.spin_run.proofs.records.read_records.Goals as goal

pub returns-in-Err-clause-answer : goal.returns-in-Err-clause-answer
returns-in-Err-clause-answer g c =
    let few : length c.loop.frames < c.args.wanted = omega (arith, c.loop.invariant.count, c.loop-test.true) in
    stops_reading _ _ c.next_record.new.capture _ _ _ c.loop.frames c.next_record.new.frame c.args.wanted c.in-Err.end few c.loop.invariant.read c.loop.invariant.took c.in-Err.ensures.answer

pub returns-in_err-push-clause-answer : goal.returns-in_err-push-clause-answer
returns-in_err-push-clause-answer g c =
    let seen = g.S.Source.seen in
    let at = seen c.loop.source in
    let now = seen c.next_record.new.source in
    let is : c.from_residual.result ≡ Err end.NoMemory = search rules in
    let given = subst (λ (x : Next). Reads {T = Next} c.loop.capture at c.next_record.new.capture now (Ok x) (GivesNext c.loop.capture at c.next_record.new.capture now c.next_record.new.frame (Ok x)))
    c.in-Ok-Packet.field-0-is c.in-Ok-Packet.ensures.answer in
    subst (λ r. ReadsFrames c.args.wanted c.args.capture.now (seen c.args.source.now) c.next_record.new.capture now r) (sym is)
    (stops_keeping _ _ _ _ (c.loop.frames ++ c.next_record.new.frame ∷ []) c.args.wanted
    (omega (arith, c.loop.invariant.count, c.loop-test.true, length-append c.loop.frames (c.next_record.new.frame ∷ [])))
    (reads_one _ _ _ _ _ _ c.loop.frames _ c.loop.invariant.read given) (took_then _ _ _ _ _ _ c.loop.frames _ c.loop.invariant.took (c.in-Ok-Packet.ensures.took (ap Ok c.in-Ok-Packet.field-0-is))))

pub loop-preserved : goal.loop-preserved
loop-preserved g c =
    let seen = g.S.Source.seen in
    let at = seen c.loop.source in
    let now = seen c.next_record.new.source in
    let grown : c.push.new.self ≡ c.loop.frames ++ c.next_record.new.frame ∷ [] = search rules in
    let given = subst (λ (x : Next). Reads {T = Next} c.loop.capture at c.next_record.new.capture now (Ok x) (GivesNext c.loop.capture at c.next_record.new.capture now c.next_record.new.frame (Ok x)))
    c.in-Ok-Packet.field-0-is c.in-Ok-Packet.ensures.answer in
    record {
      read = subst (λ (xs : List (List ℕ)). HasReadTo c.args.capture.now (seen c.args.source.now) c.next_record.new.capture now xs)
          (sym grown) (reads_one _ _ _ _ _ _ c.loop.frames _ c.loop.invariant.read given);
      took = subst (λ (xs : List (List ℕ)). HasTaken c.args.capture.now c.next_record.new.capture (seen c.args.source.now) now xs) (sym grown)
          (took_then _ _ _ _ _ _ c.loop.frames _ c.loop.invariant.took (c.in-Ok-Packet.ensures.took (ap Ok c.in-Ok-Packet.field-0-is)));
      count = omega (arith, ap length grown, length-append c.loop.frames (c.next_record.new.frame ∷ []), c.loop.invariant.count);
      keep = c.next_record.ensures.keep ∙ c.loop.invariant.keep;
      stood = c.in-Ok-Packet.ensures.cause ∙ c.loop.invariant.stood;
    }
