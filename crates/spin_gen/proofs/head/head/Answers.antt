use Rattle.std.proofs.Common.{refl}
use Rattle.std.specs.Fmt.{digits}
use Rattle.spin_gen.specs.Drafts.{head_lines}
use Rattle.spin_gen.specs.Inner.Writing.{head_text}
use Rattle.spin_gen.proofs.head.head.Goals as goal

pub returns : goal.returns
unfolding head_text head_lines digits
returns c = refl
