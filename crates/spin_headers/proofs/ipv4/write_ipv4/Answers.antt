use Rattle.std.proofs.Common.{arith, rules}
use Rattle.spin_headers.proofs.WrittenHeaders.{ipv4_valid}
use Rattle.spin_headers.proofs.ipv4.write_ipv4.Goals as goal

pub returns-clause-valid : goal.returns-clause-valid
returns-clause-valid c = λ payload len.
    ipv4_valid c.args.ident c.args.ttl c.args.protocol c.args.source c.args.destination c.args.payload_len c.copy_from_slice.new.self payload
    (omega arith) (omega arith) (omega arith) (omega arith) (omega arith) (omega arith) (search rules) len
