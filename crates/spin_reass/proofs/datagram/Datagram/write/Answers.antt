use Rattle.std.proofs.Common.{◌≡◌, ◌+◌, ◌++◌, length, take, rules, ap, ◌∙◌, arith}
use Rattle.std.proofs.lemmas.List.{length-append, length-take}
use Rattle.spin_reass.specs.Joining.{whole_frame, payload}
use Rattle.spin_reass.proofs.PartOrder.{small_size, payload_size, frame_is}
use Rattle.spin_reass.proofs.datagram.Datagram.write.Goals as goal

pub overflow_cast-self-inside : goal.overflow_cast-self-inside
overflow_cast-self-inside c =
    let size = small_size 0 c.self.inside.parts.items (omega arith) c.self.invariant.0 in
    omega (arith, c.self.invariant.1)

pub write_ipv4-requires-clause-payload : goal.write_ipv4-requires-clause-payload
write_ipv4-requires-clause-payload c =
    let size = small_size 0 c.self.inside.parts.items (omega arith) c.self.invariant.0 in
    omega (arith, c.self.invariant.1)

pub returns-clause-frame : goal.returns-clause-frame
returns-clause-frame c =
    let parts = c.self.inside.parts.items in
    let frame = c.args.frame.now in
    let written : c.replace_packet.new.frame ≡ take 14 frame ++ c.write_ipv4.new.out ++ payload parts = search rules in
    let first = c.first_ttl.ensures in
    written
    ∙ frame_is c.self.inside.key parts frame c.write_ipv4.new.out c.first_ttl.result c.self.inside.filled c.write_ipv4.ensures.header (search rules) c.self.invariant.1
    ∙ ap (λ d. whole_frame d frame) c.self.view_is

pub returns-clause-bound : goal.returns-clause-bound
returns-clause-bound c =
    let parts = c.self.inside.parts.items in
    let frame = c.args.frame.now in
    let header = c.write_ipv4.new.out in
    let written : c.replace_packet.new.frame ≡ take 14 frame ++ header ++ payload parts = search rules in
    let twenty : length header ≡ 20 = ap length c.write_ipv4.ensures.header in
    let small = small_size 0 parts (omega arith) c.self.invariant.0 in
    let size = payload_size parts in
    omega (arith, ap length written, length-append (take 14 frame ++ header) (payload parts), length-append (take 14 frame) header, length-take 14 frame)
