use Rattle.std.proofs.Common.{◌≡◌, ◌≤◌, ◌+◌, ◌-◌, ℕ, List, length, take, drop, sym, ap, ◌∙◌, arith}
use Rattle.std.proofs.lemmas.List.{drop-drop, drop-take, length-take}
use Rattle.spin_pcap.proofs.window.Window.skip.Goals as goal

skipped : (bytes : List ℕ) (start end n : ℕ) → start + n ≤ end → take (end - (start + n)) (drop (start + n) bytes) ≡ drop n (take (end - start) (drop start bytes))
skipped bytes start end n le =
    let size : end - start ≡ n + (end - (start + n)) = omega arith in
    ap (λ ys. take (end - (start + n)) ys) (sym (drop-drop n start bytes)) ∙ sym (drop-take n (end - (start + n)) (drop start bytes)) ∙ ap (λ m. drop n (take m (drop start bytes))) (sym size)

pub returns-clause-skipped : goal.returns-clause-skipped
returns-clause-skipped g c =
    let within : c.self.inside.start + c.args.count ≤ c.self.inside.end =
    omega (arith, c.requires, ap length c.self.view_is, length-take (c.self.inside.end - c.self.inside.start) (drop c.self.inside.start c.self.inside.bytes.items)) in
    skipped c.self.inside.bytes.items c.self.inside.start c.self.inside.end c.args.count within ∙ ap (λ ys. drop c.args.count ys) c.self.view_is
