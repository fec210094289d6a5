use Rattle.std.proofs.Common.{◌≡◌, [], ◌∷◌, ◌++◌, length, decimal}
use Rattle.std.proofs.lemmas.Result.{on_ok_weaker}
use Rattle.spin_text.specs.Words.{spaced}
use Rattle.spin_script.proofs.WrittenParts.{counted_spoken}
use Rattle.spin_script.proofs.write.rules.put_counted.Goals as goal

pub returns : goal.returns
returns c =
    let first : c.put_number.new.out ≡ c.args.out.now ++ spaced (decimal (length c.args.numbers.now) ∷ []) = cc (c.in_ok-put_number.ensures.ok) in
    on_ok_weaker c.put_numbers.result (counted_spoken c.args.out.now c.put_number.new.out c.put_numbers.new.out c.args.numbers.now first) c.put_numbers.ensures.ok
