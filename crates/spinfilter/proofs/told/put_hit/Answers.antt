use Rattle.std.proofs.Common.{[], ◌∷◌, ◌++◌, refl, ap, ◌∙◌, append_assoc}
use Rattle.std.specs.Prelude.{codes, decimal}
use Rattle.std.proofs.lemmas.Result.{on_ok_weaker}
use Rattle.spin_text.specs.Words.{spaced}
use Rattle.spinfilter.proofs.Lines.{word-more}
use Rattle.spinfilter.proofs.told.put_hit.Goals as goal

pub returns : goal.returns
returns c =
    let hit = c.args.hit.now in
    let out = c.args.out.now in
    let event = decimal hit.event in
    let number = decimal hit.number in
    let runs = decimal hit.runs in
    let lets = decimal hit.lets in
    let one = word-more out c.extend_from_slice.new.self c.put_number.new.out (codes "hit") [] event (decimal c.from.result) (c.in_ok-extend_from_slice.ensures.ok (λ x y same. same)) c.in_ok-put_number.ensures.ok (ap (λ n. decimal n) c.from.ensures) in
    let two = word-more out c.put_number.new.out c.put_number-2.new.out (codes "hit") (event ∷ []) number (decimal c.from-2.result) one c.in_ok-put_number-2.ensures.ok (ap (λ n. decimal n) c.from-2.ensures) in
    let three = word-more out c.put_number-2.new.out c.put_number-3.new.out (codes "hit") (event ∷ number ∷ []) runs runs two c.in_ok-put_number-3.ensures.ok refl in
    let four = word-more out c.put_number-3.new.out c.put_word.new.out (codes "hit") (event ∷ number ∷ runs ∷ []) (codes "let") (codes "let") three c.in_ok-put_word.ensures.ok refl in
    let five = word-more out c.put_word.new.out c.put_number-4.new.out (codes "hit") (event ∷ number ∷ runs ∷ codes "let" ∷ []) lets lets four c.in_ok-put_number-4.ensures.ok refl in
    on_ok_weaker c.end_line.result
    (λ added. added ∙ ap (λ xs. xs ++ 10 ∷ []) five ∙ append_assoc out (codes "hit" ++ spaced (event ∷ number ∷ runs ∷ codes "let" ∷ lets ∷ [])) (10 ∷ []))
    c.end_line.ensures.ok
