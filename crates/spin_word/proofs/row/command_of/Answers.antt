use Rattle.std.proofs.Common.{sym, ap}
use Rattle.spin_word.specs.declared.row.Row.{Row}
use Rattle.spin_word.proofs.RowFields.{fields, is_wide, four_numbers}
use Rattle.spin_word.proofs.row.command_of.Goals as goal

pub returns : goal.returns
returns c = λ command valid is op place mode.
    let f = fields command c.args.row.now valid is in
    let w = is_wide command valid in
    let before = four_numbers command.before w.1 in
    let after = four_numbers command.after w.2 in
    let befores = c.split_quarters.ensures command.before before.0 before.1 (ap (λ (r : Row). r.c) is) in
    let afters = c.split_quarters-2.ensures command.after after.0 after.1 (ap (λ (r : Row). r.d) is) in
    λ i. record {
      op = sym op i;
      event = f.3 i;
      lane = f.2 i;
      requester = f.4 i;
      handler = f.5 i;
      guard = f.0 i;
      place = sym place i;
      before = befores i;
      after = afters i;
      target = f.8 i;
      mode = sym mode i;
    }
