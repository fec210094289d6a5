use Rattle.std.proofs.Common.{arith}
use Rattle.std.proofs.lemmas.Grind.{common_steps}
use Rattle.spin_headers.proofs.WrittenHeaders.{udp_valid}
use Rattle.spin_headers.proofs.udp.write_udp.Goals as goal

pub returns-clause-valid : goal.returns-clause-valid
returns-clause-valid c =
    udp_valid c.args.source c.args.destination c.args.source_port c.args.destination_port c.args.payload.now _ (omega arith) (omega arith) (omega arith) (grind (arith, common_steps))
