use Rattle.spin_vm.proofs.WrittenTexts.{front_of}
use Rattle.spin_vm.proofs.writing.write_text.Goals as goal

pub returns-in-Err-clause-written : goal.returns-in-Err-clause-written
returns-in-Err-clause-written g c =
    let taken = c.in-Err.ensures.taken in
    (front_of (g.K.Sink.seen c.args.out.now) (g.K.Sink.seen c.write_all.new.out) c.args.text.now taken.0 taken.1 taken.2, c.in-Err.ensures.cause)
