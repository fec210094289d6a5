use Rattle.std.proofs.Common.{◌≡◌, ◌∙◌, ℕ, zero, suc, List, [], ◌∷◌, ◌++◌, refl, ap, sym, subst, arith}
use Rattle.spin_later.specs.Parties.{PartyValue, AreAll}
use Rattle.spin_tests.proofs.executor.close.Goals as goal

both : (n : ℕ) (p q : PartyValue) → n ≡ 2 → p.number ≡ 0 → q.number ≡ 1 → AreAll n (p ∷ q ∷ [])
both n p q two a b zero lt = (0, p, omega arith, refl, a)
both n p q two a b (suc zero) lt = (1, q, omega arith, refl, b)
both n p q two a b (suc (suc k)) lt = absurd (omega arith)

pub close-requires-clause-all : goal.close-requires-clause-all
close-requires-clause-all g c κs within =
    let one = c.in_ok-push.ensures.ok ∙ ap (λ (l : List PartyValue). l ++ c.args.first ∷ []) c.new-parties.ensures in
    let is = c.in_ok-push-2.ensures.ok ∙ ap (λ (l : List PartyValue). l ++ c.args.second ∷ []) one in
    subst (AreAll c.args.queue.parties) (sym is) (both c.args.queue.parties c.args.first c.args.second c.requires.two c.requires.first.1 c.requires.second.1)
