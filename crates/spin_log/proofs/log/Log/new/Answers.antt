use Rattle.std.proofs.Common.{List, ℕ, ◌≡◌, ◌+◌, ◌*◌, subst, sym, arith}
use Rattle.spin_log.specs.Rows.{part_size, rows_start, size_of}
use Rattle.spin_log.specs.Inner.Blank.{IsBlank}
use Rattle.spin_log.proofs.NewLog.{opens}
use Rattle.spin_log.proofs.log.Log.new.Goals as goal

pub of_words-requires : goal.of_words-requires
of_words-requires c =
    let size : rows_start + part_size * c.from.result ≡ size_of c.from-count.result = omega arith in
    let blank = subst (λ (n : ℕ). IsBlank c.from-count.result n c.in_ok-words.words.items) size c.in_ok-words.ensures in
    opens _ _ (subst (λ (words : List ℕ). IsBlank c.from-count.result (size_of c.from-count.result) words) (sym c.as_slice.ensures.value) blank)
