use Rattle.std.proofs.Common.{sym}
use Rattle.spin_word.specs.Rows.{StandsFor}
use Rattle.spin_word.proofs.RowFields.{lane_field, is_of_command}
use Rattle.spin_word.proofs.row.pack.Goals as goal

pub returns-clause-stands : goal.returns-clause-stands
returns-clause-stands c =
    let stands : StandsFor c.lay_out.result c.args.command.now = (c.requires, sym c.lay_out.ensures) in
    (is_of_command c.args.command.now c.lay_out.result stands, lane_field c.args.command.now c.lay_out.result stands)
