use Rattle.std.proofs.Common.{◌≡◌, ◌++◌, rules, drop, Ok, Err}
use Rattle.std.proofs.lemmas.Result.{err_from_is_err_and}
use Rattle.spin_pcap.specs.Passing.{left_for, IsStart}
use Rattle.spin_reass.specs.Inner.Reading.{JoinsBody}
use Rattle.spin_reass.specs.JoinedCaptures.{file_header, rest_of}
use Rattle.spin_reass.proofs.GivenRecords.{some_capture}
use Rattle.spin_pcap.proofs.CaptureRecords.{at_told}
use Rattle.spin_reass.proofs.JoinedRecords.{told_each, capture_stopped}
use Rattle.spin_reass.proofs.join.join_capture.Goals as goal

pub returns-in_err-rest-clause-joined : goal.returns-in_err-rest-clause-joined
returns-in_err-rest-clause-joined g c =
    let p = err_from_is_err_and c.from_residual-in_err-rest.result c.from_residual-in_err-rest.ensures.1 in
    let seen = g.S.Source.seen in
    let reader = c.in-Ok.reader in
    let left = (seen c.args.source.now).left in
    let left' = (seen c.start.new.source).left in
    rw (p.1, p.2) (told_each _ left (λ file told.
    let s = at_told (λ bytes. IsStart bytes (Ok reader) left') left file told c.in-Ok.ensures.answer in
    let b = at_told (λ bytes. JoinsBody reader.order bytes c.put_file_header.new.out.items c.join_records.new.out.items (Err c.in_err-rest.field-0.0))
    (left_for reader.held left') (drop 24 file) s.1 c.in_err-rest.ensures.joined in
    capture_stopped file reader.order c.put_file_header.new.out.items c.join_records.new.out.items c.in_err-rest.field-0.0 s.0 b))

pub returns-clause-capture : goal.returns-clause-capture
returns-clause-capture g c =
    let header : c.put_file_header.new.out.items ≡ file_header = search rules in
    let bytes : c.from_vec.result ≡ c.join_records.new.out.items ++ rest_of c.in_ok-rest.rest = search rules in
    some_capture c.in_ok-rest.rest c.put_file_header.new.out.items c.join_records.new.out.items c.from_vec.result header c.in_ok-rest.ensures.some bytes
