-- The workers of a run, before and after it.
use Rattle.std.proofs.Common.{◌≡◌, ℕ, zero, suc, ◌+◌, ◌<◌, ◌≤◌, List, [], ◌∷◌, ◌++◌, length, map, take, drop, slice_index_or, append-nil, refl, sym, ap, subst, ◌∙◌, arith}
use Rattle.std.specs.Prelude.{All, Any}
use Rattle.std.specs.List.{flat_map}
use Rattle.std.proofs.lemmas.List.{take_all, drop_all}
use Rattle.std.proofs.lemmas.List.Elements.{All-nil, All-cons, All-map, All-append}
use Rattle.spin_table.specs.Setups.{SetupData}
use Rattle.spin_later.specs.declared.known.Hand.{Hand}
use Rattle.spin_later.specs.declared.batch.Call.{Call}
use Rattle.spin_later.specs.declared.worker.Worker.{Worker}
use Rattle.spin_later.specs.Rule.{new_hands}
use Rattle.spin_later.specs.Parties.{PartyValue, QueueValue, party_value, new_parties, IsPartyOf, AreAll}
use Rattle.spin_later.specs.Inner.Work.{IsRight, IsIdle, IsFresh, HasEnded, parties_of, numbers_of, done_by}
use Rattle.spin_later.proofs.PassSteps.{new_hands-all}

module _ {X Y : Type 0} (f : X → Y) where
  at_map : (xs : List X) (k : ℕ) (d : X) → slice_index_or (map f xs) k (f d) ≡ f (slice_index_or xs k d)
  at_map [] k d = refl
  at_map (x ∷ xs) zero d = refl
  at_map (x ∷ xs) (suc k) d = at_map xs k d

  long_map : (xs : List X) → length (map f xs) ≡ length xs
  long_map [] = refl
  long_map (x ∷ xs) = ap suc (long_map xs)

  -- what is so of each image
  all_from_map : (P : Y → Type 0) (xs : List X) → All P (map f xs) → All (λ x. P (f x)) xs
  all_from_map P xs h = λ k d lt. let long = long_map xs in subst P (at_map xs k d) (h k (f d) (omega arith))

  any_to_map : (P : Y → Type 0) (xs : List X) → Any (λ x. P (f x)) xs → Any P (map f xs)
  any_to_map P [] a = let lt = a.2 in absurd (omega arith)
  any_to_map P (x ∷ xs) (zero, z, lt, at, p) = (0, f z, omega arith, ap f at, p)
  any_to_map P (x ∷ xs) (suc k, z, lt, at, p) = let r = any_to_map P xs (k, z, omega arith, at, p) in (suc r.0, r.1, (let less = r.2 in omega arith), r.3, r.4)

  any_from_map : (P : Y → Type 0) (xs : List X) → Any P (map f xs) → Any (λ x. P (f x)) xs
  any_from_map P [] a = let lt = a.2 in absurd (omega arith)
  any_from_map P (x ∷ xs) (zero, z, lt, at, p) = (0, x, omega arith, refl, subst P (sym at) p)
  any_from_map P (x ∷ xs) (suc k, z, lt, at, p) = let r = any_from_map P xs (k, z, omega arith, at, p) in (suc r.0, r.1, (let less = r.2 in omega arith), r.3, r.4)

  -- lists that agree place by place have one image
  same_map : (xs ys : List X) → length ys ≡ length xs → ((k : ℕ) (d : X) → k < length xs → f (slice_index_or ys k d) ≡ f (slice_index_or xs k d)) → map f ys ≡ map f xs
  same_map [] [] long h = refl
  same_map [] (y ∷ ys) long h = absurd (omega arith)
  same_map (x ∷ xs) [] long h = absurd (omega arith)
  same_map (x ∷ xs) (y ∷ ys) long h = λ i. h 0 x (omega arith) i ∷ same_map xs ys (omega arith) (λ k d lt. h (suc k) d (omega arith)) i

all_flat : {X Y : Type 0} (P : Y → Type 0) (f : X → List Y) (xs : List X) → All (λ x. All P (f x)) xs → All P (flat_map f xs)
all_flat P f [] h = All-nil P
all_flat P f (x ∷ xs) h = All-append P (f x) (flat_map f xs) (h 0 x (omega arith)) (all_flat P f xs (λ k d lt. h (suc k) d (omega arith)))

-- before it: each worker has a party that has done nothing

new_hands-idle : (top k n : ℕ) → k + n ≤ top → All (λ (h : Hand). (h.number < top) × (h.sent ≡ [])) (new_hands k n)
new_hands-idle top k zero le = All-nil (λ (h : Hand). (h.number < top) × (h.sent ≡ []))
new_hands-idle top k (suc n) le = All-cons (λ (h : Hand). (h.number < top) × (h.sent ≡ [])) _ (new_hands (suc k) n) (omega arith, refl) (new_hands-idle top (suc k) n (omega arith))

abbrev IsNew : QueueValue → ℕ → PartyValue → Type 0
IsNew q n p = IsPartyOf q p × (p.number < n) × (p.sent ≡ [])

pub all_fresh : (q : QueueValue) (n : ℕ) (team : List Worker) → parties_of team ≡ new_parties q.id q.parties → q.parties ≡ n → All IsIdle team → All (IsFresh q n) team
all_fresh q n team is many idle =
    let hands = new_hands-idle q.parties 0 q.parties (omega arith) in
    let new : All (IsNew q n) (new_parties q.id q.parties) = All-map (IsNew q n) (party_value q.id q.parties) (new_hands 0 q.parties)
    (λ k d lt. let h = hands k d lt in ((refl, refl), (let less = h.0 in omega arith), h.1)) in
    let each = all_from_map (λ (w : Worker). w.party) (IsNew q n) team (subst (All (IsNew q n)) (sym is) new) in
    λ k d lt. let p = each k d lt in (p.0, p.1, p.2, idle k d lt)

-- after it: all parties are there

pub all_there : (q : QueueValue) (old new : List Worker) → parties_of old ≡ new_parties q.id q.parties → numbers_of new ≡ numbers_of old → AreAll q.parties (parties_of new)
all_there q old new is same = λ m lt.
    let At : ℕ → Type 0 = λ n. n ≡ m in
    let hand : Any (λ (h : Hand). h.number ≡ m) (new_hands 0 q.parties) = new_hands-all 0 q.parties m (omega arith) (omega arith) in
    let party : Any (λ (p : PartyValue). p.number ≡ m) (parties_of old) =
    subst (Any (λ (p : PartyValue). p.number ≡ m)) (sym is) (any_to_map (party_value q.id q.parties) (λ p. p.number ≡ m) (new_hands 0 q.parties) hand) in
    let before : Any (λ (w : Worker). w.party.number ≡ m) old = any_from_map (λ (w : Worker). w.party) (λ p. p.number ≡ m) old party in
    let number : Any At (numbers_of new) = subst (Any At) (sym same) (any_to_map (λ (w : Worker). w.party.number) At old before) in
    any_to_map (λ (w : Worker). w.party) (λ p. p.number ≡ m) new (any_from_map (λ (w : Worker). w.party.number) At new number)

-- what a slice of all workers leaves where it is written back
pub same_numbers : (old new : List Worker) (len : ℕ) → len ≡ length old → length new ≡ length old
    → ((k : ℕ) (d : Worker) → k < length old → (slice_index_or new k d).party.number ≡ (slice_index_or old k d).party.number)
    → numbers_of (take len (new ++ drop (length new) old)) ≡ numbers_of old
same_numbers old new len whole long each =
    let none : drop (length new) old ≡ [] = drop_all (length new) old (omega arith) in
    let back : take len (new ++ drop (length new) old) ≡ new = ap (λ (l : List Worker). take len (new ++ l)) none ∙ ap (take len) (append-nil new) ∙ take_all len new (omega arith) in
    ap numbers_of back ∙ same_map (λ (w : Worker). w.party.number) old new long each

pub all_parties : (q : QueueValue) (d : SetupData) (batches : List (List Call)) (team : List Worker) → All (HasEnded q d batches) team → All (IsPartyOf q) (parties_of team)
all_parties q d batches team h = All-map (IsPartyOf q) (λ (w : Worker). w.party) team (λ k e lt. (h k e lt).0)

pub all_right : (q : QueueValue) (d : SetupData) (batches : List (List Call)) (team : List Worker) → All (HasEnded q d batches) team → All (IsRight d batches) (done_by team)
all_right q d batches team h = all_flat (IsRight d batches) (λ (w : Worker). w.done.items) team (λ k e lt. (h k e lt).1)
