use Rattle.std.specs.Prelude.{[]}
use Rattle.spin_c.proofs.Opening.{called_alike}
use Rattle.spin_c.proofs.asking.open_none.Goals as goal

pub returns : goal.returns
returns c =
    called_alike c.args._text.now [] c.args.lanes c.requires c.args.lane.now.kept c.ask_of.new.lane.kept c.ask_of.result c.ask_of.new.answer
    (rw c.new-text.ensures at c.ask_of.ensures)
