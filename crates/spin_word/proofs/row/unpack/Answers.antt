use Rattle.std.proofs.Common.{◌≡◌, sym, ap, ◌∙◌, subst}
use Rattle.std.specs.Prelude.{IsTrue}
use Rattle.spin_word.specs.declared.command.Command.{Command}
use Rattle.spin_word.specs.Commands.{is_command}
use Rattle.spin_word.specs.Rows.{row_of}
use Rattle.spin_word.proofs.RowFields.{absurd_row, absurd_valid, fields, same_op, same_place, same_mode}
use Rattle.spin_word.proofs.row.unpack.Goals.{else-is_valid-via-then-is_valid+else-eq, else-is_valid-via-else-is_valid}
use Rattle.spin_word.proofs.row.unpack.Goals as goal

pub returns-else-is_valid-clause-command : goal.returns-else-is_valid-clause-command
returns-else-is_valid-clause-command c = λ command valid is.
    let f = fields command c.args.row.now valid is in
    let op = same_op command.op c.in_ok-op.op (sym f.1 ∙ sym c.in_ok-op.ensures) in
    let place = same_place command.place c.in_ok-place.place (sym f.6 ∙ sym c.in_ok-place.ensures) in
    let mode = same_mode command.mode c.in_ok-mode.mode (sym f.7 ∙ sym c.in_ok-mode.ensures) in
    let same : c.command_of-command.result ≡ command = c.command_of-command.ensures command valid is op place mode in
    let right : IsTrue (is_command c.command_of-command.result) = subst (λ (x : Command). IsTrue (is_command x)) (sym same) valid in
    let row : row_of c.command_of-command.result ≡ c.args.row.now = ap row_of same ∙ is in
    elim c.else-is_valid.branch [
      | else-is_valid-via-then-is_valid+else-eq w ↦
          let e : w.pack.result ≡ c.args.row.now = w.pack.ensures.row ∙ row in
          absurd_row w.pack.result c.args.row.now e (sym w.if-eq.false ∙ w.eq.ensures)
      | else-is_valid-via-else-is_valid w ↦ absurd_valid (is_command c.command_of-command.result) right w.if-is_valid.ensures
    ]
