use Rattle.std.proofs.Common.{ℕ, List, subst}
use Rattle.std.proofs.KnownBytes.{Appends-trans}
use Rattle.std.specs.Io.KnownBytes.{Appends, append_known}
use Rattle.spin_frames.specs.Written.{record_header}
use Rattle.spin_frames.proofs.frames.put_record.Goals as goal

pub returns-clause-taken : goal.returns-clause-taken
returns-clause-taken g c =
    let first : Appends (append_known (g.W.Sink.seen c.args.file.now.sink).told c.args.file.now.waiting) (append_known (g.W.Sink.seen c.put.new.self.sink).told c.put.new.self.waiting)
    (record_header c.args.head c.args.header.now) =
    subst
    (λ (bs : List ℕ). Appends (append_known (g.W.Sink.seen c.args.file.now.sink).told c.args.file.now.waiting) (append_known (g.W.Sink.seen c.put.new.self.sink).told c.put.new.self.waiting) bs)
    c.record_header.ensures c.in_ok-put.ensures.taken in
    Appends-trans _ _ _ (record_header c.args.head c.args.header.now) c.args.frame.now first c.in_ok-put-2.ensures.taken
