use Rattle.std.proofs.Common.{arith, refl}
use Rattle.spin_headers.specs.Headers.{pseudo_header}
use Rattle.spin_headers.proofs.SumLemmas.{sum_joined}
use Rattle.spin_headers.proofs.udp.sum_with_addresses.Goals as goal

pub returns : goal.returns
returns c =
    sum_joined (pseudo_header c.args.source c.args.destination c.args.length) c.args.datagram.now c.add_words.result c.add_words-2.result refl
    (grind (arith, c.pseudo_header-header.ensures)) c.add_words-2.ensures
