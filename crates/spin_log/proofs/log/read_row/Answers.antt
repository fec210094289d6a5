use Rattle.spin_log.proofs.PenNotes.{four_words}
use Rattle.spin_log.proofs.log.read_row.Goals as goal

pub returns : goal.returns
returns c = four_words _ _ _ _ _ _ _ c.place-first.ensures c.word.ensures c.word-2.ensures c.word-3.ensures c.word-4.ensures
