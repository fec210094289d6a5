use Rattle.std.proofs.Common.{rules, sym, ◌∙◌}
use Rattle.spin_reass.proofs.Frames.{ether_long}
use Rattle.spin_reass.proofs.piece.read_piece.Goals as goal

pub slice_bounds-packet-count : goal.slice_bounds-packet-count
slice_bounds-packet-count c = ether_long c.args.frame.now c.in-Ok.ether (sym c.read_ether.ensures ∙ c.in-Ok.is)

pub slice_bounds-packet-start : goal.slice_bounds-packet-start
slice_bounds-packet-start c = let long = ether_long c.args.frame.now c.in-Ok.ether (sym c.read_ether.ensures ∙ c.in-Ok.is) in search rules
