use Rattle.std.proofs.Common.{◌≡◌, ◌+◌, ◌%◌, ◌<◌, ◌≤◌, ◌∙◌, ap, subst, arith}
use Rattle.std.proofs.lemmas.Slice.{between_to_end}
use Rattle.byteorder.specs.Endian.{big_number}
use Rattle.spin_headers.specs.Sums.{folded, word_total}
use Rattle.spin_headers.proofs.SumLemmas.{pair_step, folded_again}
use Rattle.spin_headers.proofs.sum.add_words.Goals as goal

pub loop-rest-preserved : goal.loop-rest-preserved
loop-rest-preserved c =
    let total = c.loop-rest.total in
    let bytes = c.loop-rest.rest.now in
    let next = c.add_pair-total.result in
    let pair : c.read_u32.result ≡ big_number 4 bytes = c.read_u32.ensures in
    let same : next % 65535 ≡ (total + big_number 4 bytes) % 65535 = c.add_pair-total.ensures.same ∙ ap (λ n. (total + n) % 65535) pair in
    let some : 0 < total + big_number 4 bytes → 0 < next = subst (λ n. 0 < total + n → 0 < next) pair c.add_pair-total.ensures.some in
    let few : next ≤ total + big_number 4 bytes = subst (λ n. next ≤ total + n) pair c.add_pair-total.ensures.few in
    record {
      small = c.add_pair-total.ensures.small;
      same = pair_step total next _ bytes _ c.loop-rest-test.true same some few c.loop-rest.invariant.same
          (between_to_end bytes 4 _ (omega arith));
    }

pub returns : goal.returns
returns c =
    c.add_single_words.ensures
    ∙ ap (λ n. folded (n + word_total c.loop-rest.rest.now)) c.fold.ensures
    ∙ folded_again c.loop-rest.total (word_total c.loop-rest.rest.now)
    ∙ c.loop-rest.invariant.same
