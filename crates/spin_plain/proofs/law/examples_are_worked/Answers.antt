use Rattle.std.proofs.Common.{refl}
use Rattle.std.specs.Fmt.{digits}
use Rattle.spin_headers.specs.Headers.{ether_of, fragment_of, ipv4_of, udp_of}
use Rattle.spin_plain.proofs.law.examples_are_worked.Goals as goal

pub returns : goal.returns
unfolding digits ether_of fragment_of ipv4_of udp_of
returns c = record { first_report = refl; order_report = refl; jobs_report = refl; jobs_ends = refl; packets_report = refl }
