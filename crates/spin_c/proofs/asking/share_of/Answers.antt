use Rattle.std.proofs.Common.{rules}
use Rattle.spin_c.proofs.asking.share_of.Goals as goal

pub returns : goal.returns
returns c = record {
  told = c.hand_out-after.result.2;
  shares = search (rules, c.hand_out-after.ensures, c.replace-first.ensures.value, c.replace-second.ensures.value);
  number_is = c.code_of.ensures;
}
