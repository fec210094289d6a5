-- The steps of passes that stand for one party.
use Rattle.std.proofs.Common.{◌≡◌, ◌≢◌, ◌≤◌, ℕ, suc, zero, ◌+◌, ◌<◌, List, [], ◌∷◌, ◌++◌, length, sym, ap, subst, ◌∙◌, arith, refl}
use Rattle.std.specs.Prelude.{All, Any, Option, Some, None, MatchOption, IfSome}
use mathlib.Core.Logic.{dite}
use native.Mathlib.Decide.{ℕ_discrete}
use Rattle.atomic_table.specs.Seated.{TableId}
use Rattle.std.proofs.lemmas.List.Elements.{All-nil, All-cons, All-head}
use Rattle.crossbeam_queue.specs.Fifo.{Pushes, Pops, Learns, Held}
use Rattle.spin_later.specs.declared.task.Task.{Task}
use Rattle.spin_later.specs.declared.known.Hand.{Hand}
use Rattle.spin_later.specs.declared.known.Known.{Known}
use Rattle.spin_later.specs.Inner.Passes.{only_hand}
use Rattle.spin_later.specs.History.{Happened}
use Rattle.spin_later.specs.Parties.{PartyValue, party_value, took, IsNext, WasAt}
use Rattle.spin_later.specs.Rule.{hand, known, new_hands, Kept, put_by, taken_into, Comes, Learned}
use Rattle.spin_later.proofs.QueueSteps.{puts, takes, learns}

abbrev pub IsAlone : Known → Type 0
IsAlone v = v ≡ known v.parties (only_hand v.hands ∷ []) []

pub some_hand : (v : Known) → IsAlone v → 0 < length v.hands
some_hand v is = let e = ap (λ (u : Known). length u.hands) is in omega arith

pub puts_alone : (Agreed : Task → Type 0) (n pass : ℕ) (v : Known) (x : Task) → IsAlone v → x.sender ≡ (only_hand v.hands).number → x.number ≡ length (only_hand v.hands).sent → Agreed x
    → Pushes (Kept Agreed) n pass v x (λ w. w ≡ put_by v x)
puts_alone Agreed n pass v x is from next good = subst (λ u. Pushes (Kept Agreed) n pass u x (λ w. w ≡ put_by u x)) (sym is) (puts Agreed n pass v.parties (only_hand v.hands) x from next good)

pub takes_alone : (Agreed : Task → Type 0) (pass : ℕ) (v : Known) → IsAlone v → Pops (Kept Agreed) pass v (λ x w. (w ≡ taken_into v x) × Comes v x × Agreed x)
takes_alone Agreed pass v is = subst (λ u. Pops (Kept Agreed) pass u (λ x w. (w ≡ taken_into u x) × Comes u x × Agreed x)) (sym is) (takes Agreed pass v.parties (only_hand v.hands))

pub learns_alone : (Agreed : Task → Type 0) (pass : ℕ) (v : Known) → IsAlone v → Learns (Kept Agreed) pass v (Learned v)
learns_alone Agreed pass v is = learns Agreed pass v (some_hand v is)

-- the party of a pass
abbrev pub party_of : TableId → Known → PartyValue
party_of id v = party_value id v.parties (only_hand v.hands)

pub was_at : (id : TableId) (v : Known) (n : ℕ) → IsAlone v → Held n (Learned v) → WasAt (party_of id v) n
was_at id v n is held = (held.0, held.1, subst (λ (u : Known). Happened u.parties u.hands (u.left ++ held.0)) is held.2)

pub full_at : (id : TableId) (v : Known) (p : PartyValue) (n m : ℕ) → party_of id v ≡ p → n ≡ m → IsAlone v → Held n (Learned v) → WasAt p m
full_at id v p n m view same is held = subst (λ (x : PartyValue × ℕ). WasAt x.0 x.1) (λ i. (view i, same i)) (was_at id v n is held)

took_alone : (id : TableId) (P : ℕ) (h : Hand) (x : Task) (w : Known) → w ≡ taken_into (known P (h ∷ []) []) x → Comes (known P (h ∷ []) []) x
    → (party_of id w ≡ took (party_value id P h) x) × (x.sender < P) × IsNext h.taken x
took_alone id P h x w e comes = (ap (party_of id) e, comes.below, All-head (λ (g : Hand). All (λ (t : Task). t.sender ≡ x.sender → t.number < x.number) g.taken) h [] comes.rising)

abbrev Took : TableId → Known → Task → Known → Type 0
Took id v x w = (party_of id w ≡ took (party_of id v) x) × (x.sender < v.parties) × IsNext (only_hand v.hands).taken x

-- what a take answers
pub takes_or_none : (Agreed : Task → Type 0) (r : Option Task) (id id' : TableId) (v w : Known) (p : PartyValue) → id' ≡ id → party_of id v ≡ p → IsAlone v
    → MatchOption r ((w ≡ v) × Held 0 (Learned v)) (λ x. (w ≡ taken_into v x) × Comes v x × Agreed x)
    → MatchOption r ((party_of id' w ≡ p) × WasAt p 0) (λ x. (party_of id' w ≡ took p x) × (x.sender < p.parties) × IsNext p.taken x)
takes_or_none Agreed None id id' v w p same view is h = ((λ i. party_of (same i) (h.0 i)) ∙ view, subst (λ q. WasAt q 0) view (was_at id v 0 is h.1))
takes_or_none Agreed (Some x) id id' v w p same view is h =
    let go : (w ≡ taken_into v x) × Comes v x → Took id v x w =
    subst (λ (u : Known). (w ≡ taken_into u x) × Comes u x → Took id u x w) (sym is) (λ k. took_alone id v.parties (only_hand v.hands) x w k.0 k.1) in
    let t = go (h.0, h.1) in
    subst (λ (q : PartyValue). (party_of id' w ≡ took q x) × (x.sender < q.parties) × IsNext q.taken x) view ((λ i. party_of (same i) w) ∙ t.0, t.1, t.2)

pub takes_agreed : (Agreed : Task → Type 0) (r : Option Task) (v w : Known) → MatchOption r ((w ≡ v) × Held 0 (Learned v)) (λ x. (w ≡ taken_into v x) × Comes v x × Agreed x) → IfSome r Agreed
takes_agreed Agreed None v w h = tt
takes_agreed Agreed (Some x) v w h = h.2

-- each party of a list of new ones
pub later_numbers : (k n m : ℕ) → m < k → All (λ (g : Hand). m < g.number) (new_hands k n)
later_numbers k zero m lt = All-nil (λ (g : Hand). m < g.number)
later_numbers k (suc n) m lt = All-cons (λ (g : Hand). m < g.number) (hand k [] []) (new_hands (suc k) n) lt (later_numbers (suc k) n m (omega arith))

pub new_hands-push : (k n : ℕ) → new_hands k n ++ hand (k + n) [] [] ∷ [] ≡ new_hands k (n + 1)
new_hands-push k zero = let e : k + 0 ≡ k = omega arith in ap (λ m. hand m [] [] ∷ []) e
new_hands-push k (suc n) =
    let e : k + suc n ≡ suc k + n = omega arith in
    let long : suc (n + 1) ≡ suc n + 1 = omega arith in
    subst (λ (m : ℕ). new_hands k (suc n) ++ hand (k + suc n) [] [] ∷ [] ≡ new_hands k m) long
    (ap (λ (l : List Hand). hand k [] [] ∷ l) (ap (λ (m : ℕ). new_hands (suc k) n ++ hand m [] [] ∷ []) e ∙ new_hands-push (suc k) n))

pub new_hands-next : (n : ℕ) → new_hands 0 n ++ hand n [] [] ∷ [] ≡ new_hands 0 (n + 1)
new_hands-next n = let e : n ≡ 0 + n = omega arith in ap (λ (m : ℕ). new_hands 0 n ++ hand m [] [] ∷ []) e ∙ new_hands-push 0 n

pub new_hands-all : (k n m : ℕ) → k ≤ m → m < k + n → Any (λ (h : Hand). h.number ≡ m) (new_hands k n)
new_hands-all k zero m le lt = absurd (omega arith)
new_hands-all k (suc n) m le lt = dite (ℕ_discrete k m) (λ (same : k ≡ m). (0, hand k [] [], omega arith, refl, same))
    (λ (other : k ≢ m). let a = new_hands-all (suc k) n m (omega arith) (omega arith) in (suc a.0, a.1, omega arith, a.3, a.4))
