use Rattle.std.proofs.Common.{rules, arith}
use Rattle.spin_log.proofs.SharedViews.{splits_note}
use Rattle.spin_log.proofs.log.Log.note.Goals as goal

pub split_seat-seat-requires : goal.split_seat-seat-requires
split_seat-seat-requires c = (search rules, omega arith, splits_note _ _ _)
