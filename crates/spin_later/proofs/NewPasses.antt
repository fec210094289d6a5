-- A queue's passes as they are made, and as they are gathered again.
use Rattle.std.proofs.Common.{◌≡◌, ◌≤◌, ℕ, zero, suc, ◌+◌, ◌-◌, ◌<◌, List, [], ◌∷◌, ◌++◌, length, map, refl, sym, ap, subst, ◌∙◌, arith, append-nil, append_assoc}
use Rattle.std.specs.Prelude.{Any}
use Rattle.std.proofs.lemmas.List.{map-append}
use Rattle.atomic_table.specs.Seated.{TableId}
use Rattle.crossbeam_queue.specs.Fifo.{Held, Forks, Merges}
use Rattle.crossbeam_queue.specs.Passes.{Pass, view}
use Rattle.spin_later.specs.declared.task.Task.{Task}
use Rattle.spin_later.specs.declared.known.Hand.{Hand}
use Rattle.spin_later.specs.declared.known.Known.{Known}
use Rattle.spin_later.specs.Inner.Passes.{only_hand, IsPartyPass}
use Rattle.spin_later.specs.History.{Happened}
use Rattle.spin_later.specs.Parties.{PartyValue, party_value, hand_of, first_parties, AreAll}
use Rattle.spin_later.specs.Rule.{hand, known, new_hands, Kept, Learned, HasAll, with_one_more, without_first, first_alone, spent, together}
use Rattle.spin_later.proofs.QueueSteps.{grows, parts, gathers}
use Rattle.spin_later.proofs.PassSteps.{IsAlone, party_of, later_numbers, new_hands-next, new_hands-all}

-- a party more

length_new : (k n : ℕ) → length (new_hands k n) ≡ n
length_new k zero = refl
length_new k (suc n) = ap suc (length_new (suc k) n)

pub grows_at : (Agreed : Task → Type 0) (pass n : ℕ) (v : Known) → v ≡ known n (new_hands 0 n) [] → 1 ≤ n → Forks (Kept Agreed) pass v (with_one_more v) spent
grows_at Agreed pass n v is low =
    let all : HasAll (known n (new_hands 0 n) []) = λ m lt. new_hands-all 0 n m (omega arith) (omega arith) in
    let long = ap (λ (u : Known). length u.hands) is ∙ length_new 0 n in
    grows Agreed pass v (subst HasAll (sym is) all) (omega arith)

pub grown : (n : ℕ) (v : Known) → v ≡ known n (new_hands 0 n) [] → with_one_more v ≡ known (n + 1) (new_hands 0 (n + 1)) []
grown n v is = ap with_one_more is ∙ ap (λ (l : List Hand). known (n + 1) l []) (new_hands-next n)

-- a pass for each party

pub parts_at : (Agreed : Task → Type 0) (pass P k m : ℕ) (v : Known) → v ≡ known P (new_hands k m) [] → 0 < m → Forks (Kept Agreed) pass v (without_first v) (first_alone v)
parts_at Agreed pass P k zero v is low = absurd (omega arith)
parts_at Agreed pass P k (suc m) v is low =
    let F : Known → Type 0 = λ u. Forks (Kept Agreed) pass u (without_first u) (first_alone u) in
    subst F (sym is) (parts Agreed pass P (hand k [] []) (new_hands (suc k) m) [] (λ j d lt e. let less = later_numbers (suc k) m k (omega arith) j d lt in absurd (omega arith)))

pub parted : (P k m n : ℕ) (v w : Known) → v ≡ known P (new_hands k m) [] → 0 < m → n ≡ m - 1 → w ≡ without_first v → w ≡ known P (new_hands (k + 1) n) []
parted P k zero n v w is low e after = absurd (omega arith)
parted P k (suc m) n v w is low e after =
    let next : suc k ≡ k + 1 = omega arith in
    let less : m ≡ n = omega arith in
    after ∙ ap without_first is ∙ (λ i. known P (new_hands (next i) (less i)) [])

pub first_of : (P k m : ℕ) (v w : Known) → v ≡ known P (new_hands k m) [] → 0 < m → w ≡ first_alone v → w ≡ known P (hand k [] [] ∷ []) []
first_of P k zero v w is low after = absurd (omega arith)
first_of P k (suc m) v w is low after = after ∙ ap first_alone is

pub new_pass : (pass : Pass Task Known) (P k : ℕ) → view pass ≡ known P (hand k [] [] ∷ []) [] → pass.me.1 ≡ [] → IsPartyPass pass k 0
new_pass pass P k is slots = record {
  alone = is ∙ (λ i. known ((sym is i).parties) (only_hand (sym is i).hands ∷ []) []);
  slots = slots;
  number_is = ap (λ (u : Known). (only_hand u.hands).number) is;
  sent_is = ap (λ (u : Known). length (only_hand u.hands).sent) is;
}

pub one_more : (id id' : TableId) (P k : ℕ) (v : Known) (before after : List PartyValue) → id' ≡ id
    → v ≡ known P (hand k [] [] ∷ []) [] → before ≡ first_parties id P k → after ≡ before ++ party_of id' v ∷ []
    → after ≡ first_parties id P (k + 1)
one_more id id' P k v before after same is so e =
    e ∙ (λ i. so i ++ party_of (same i) (is i) ∷ []) ∙ sym (map-append (party_value id P) (new_hands 0 k) (hand k [] [] ∷ [])) ∙ ap (map (party_value id P)) (new_hands-next k)

-- gathered again

pub gathers_at : (Agreed : Task → Type 0) (pass : ℕ) (v : Known) (other : ℕ) (w : Known) (P : ℕ)
    → v ≡ known P v.hands [] → IsAlone w → w.parties ≡ P → Merges (Kept Agreed) pass v other w (together v w) spent
gathers_at Agreed pass v other w P is alone same =
    let w_is : w ≡ known P (only_hand w.hands ∷ []) [] = alone ∙ ap (λ m. known m (only_hand w.hands ∷ []) []) same in
    subst (λ (x : Known × Known). Merges (Kept Agreed) pass x.0 other x.1 (together x.0 x.1) spent) (λ i. (sym is i, sym w_is i)) (gathers Agreed pass P v.hands other (only_hand w.hands))

pub gathered : (id : TableId) (P : ℕ) (v w u : Known) (p : PartyValue) (before after : List PartyValue) (hands : List Hand)
    → v ≡ known P v.hands [] → IsAlone w → party_of id w ≡ p → before ≡ after ++ p ∷ []
    → u ≡ together v w → map hand_of before ++ v.hands ≡ hands → (u ≡ known P u.hands []) × (map hand_of after ++ u.hands ≡ hands)
gathered id P v w u p before after hands is alone from items after_is all =
    let hands_is : u.hands ≡ hand_of p ∷ v.hands = ap (λ (x : Known). x.hands) after_is ∙ ap (λ (x : Known). x.hands ++ v.hands) alone ∙ ap (λ (q : PartyValue). hand_of q ∷ v.hands) from in (
      after_is ∙ ap (λ (x : Known). together x w) is ∙ ap (λ l. known P l []) (sym (ap (λ (x : Known). x.hands) after_is)),
      ap (λ l. map hand_of after ++ l) hands_is ∙ sym (append_assoc (map hand_of after) (hand_of p ∷ []) v.hands)
          ∙ ap (λ l. l ++ v.hands) (sym (map-append hand_of after (p ∷ [])) ∙ ap (map hand_of) (sym items)) ∙ all,
    )

-- all parties

pub some_of_all : (n : ℕ) (ps : List PartyValue) → AreAll n ps → 1 ≤ n → 0 < length ps
some_of_all n ps all low = let a = all 0 low in let lt = a.2 in omega arith

any_map : (m : ℕ) (ps : List PartyValue) → Any (λ p. p.number ≡ m) ps → Any (λ (h : Hand). h.number ≡ m) (map hand_of ps)
any_map m [] a = let lt = a.2 in absurd (omega arith)
any_map m (p ∷ ps) (zero, x, lt, at, is) = (0, hand_of p, omega arith, refl, ap (λ (q : PartyValue). q.number) at ∙ is)
any_map m (p ∷ ps) (suc k, x, lt, at, is) = let r = any_map m ps (k, x, omega arith, at, is) in (suc r.0, r.1, (let less = r.2 in omega arith), r.3, r.4)

pub has_all : (P : ℕ) (ps : List PartyValue) (v : Known) → v ≡ known P (map hand_of ps) [] → AreAll P ps → HasAll v
has_all P ps v is all =
    let h : HasAll (known P (map hand_of ps) []) = λ m lt. any_map m ps (all m lt) in
    subst HasAll (sym is) h

-- cleared

pub still_all : (v w : Known) (left : List Task) → w ≡ known v.parties v.hands left → HasAll v → HasAll w
still_all v w left is all = let h : HasAll (known v.parties v.hands left) = all in subst HasAll (sym is) h

pub still_some : (v w : Known) (left : List Task) → w ≡ known v.parties v.hands left → 0 < length v.hands → 0 < length w.hands
still_some v w left is has = subst (λ (u : Known). 0 < length u.hands) (sym is) has

pub cleared : (v w : Known) (left : List Task) → w ≡ known v.parties v.hands left → Held 0 (Learned w) → Happened v.parties v.hands left
cleared v w left is held =
    let none : held.0 ≡ [] = nothing held.0 held.1 in
    subst (λ (l : List Task). Happened v.parties v.hands l) (ap (λ l. left ++ l) none ∙ append-nil left) (subst (λ (u : Known). Happened u.parties u.hands (u.left ++ held.0)) is held.2)
  where
    nothing : (xs : List Task) → length xs ≡ 0 → xs ≡ []
    nothing [] e = refl
    nothing (x ∷ xs) e = absurd (omega arith)
