-- Lists of rows: beginnings, the rows of a lane, and sums over views.
use Rattle.std.proofs.Common.{◌≡◌, ◌≢◌, ℕ, zero, suc, ◌+◌, ◌<◌, ◌≤◌, Bool, true, false, cond, eqb, List, [], ◌∷◌, ◌++◌, length, get_or}
use Rattle.std.proofs.Common.{set, map, take, drop, refl, sym, ap, subst, ◌∙◌, arith, length-append, eq-eqb, ne_eqb, inl, inr, ⊎_elim}
use Rattle.std.specs.Prelude.{All, ◌⊎◌}
use mathlib.Core.Logic.{dite}
use native.Mathlib.Decide.{ℕ_discrete}
use Rattle.core.specs.List.Sorted.{IsNonDecreasing}
use Rattle.std.proofs.Math.Seq.{get_or-append_seam}
use mathlib.Core.Option.{some, some-ne-none, some-injective}
use lib.ListN.{get_elem?}
use Rattle.std.proofs.lemmas.List.{get_or_append_left, append_assoc, append-nil}
use Rattle.std.proofs.lemmas.List.Elements.{filter-append, All-nil}
use Rattle.spin_log.specs.Rows.{rows_of, IsPrefix}
use Rattle.spin_word.specs.Rows.{lane_of}
use Rattle.spin_word.specs.declared.row.Row.{Row}
use Rattle.spin_log.specs.Rule.{total}
use Rattle.spin_log.specs.History.{LogAction, pin, pins_from, publish, rows_in, lane_at, places_from}

module _ {X : Type 0} where
  pub all_one : (P : X → Type 0) (x : X) → P x → All P (x ∷ [])
  all_one P x p zero d h = p
  all_one P x p (suc k) d h = absurd (omega arith)

  pub all_head : (P : X → Type 0) (x : X) (xs : List X) → All P (x ∷ xs) → P x
  all_head P x xs all = all 0 x (omega arith)

  pub all_tail : (P : X → Type 0) (x : X) (xs : List X) → All P (x ∷ xs) → All P xs
  all_tail P x xs all k d h = all (suc k) d (omega arith)

  pub all_cons : (P : X → Type 0) (x : X) (xs : List X) → P x → All P xs → All P (x ∷ xs)
  all_cons P x xs p all zero d h = p
  all_cons P x xs p all (suc k) d h = all k d (omega arith)

  pub all_drop : (P : X → Type 0) (n : ℕ) (xs : List X) → All P xs → All P (drop n xs)
  all_drop P zero xs all = all
  all_drop P (suc n) [] all = all
  all_drop P (suc n) (x ∷ xs) all = all_drop P n xs (all_tail P x xs all)

  pub all_take : (P : X → Type 0) (n : ℕ) (xs : List X) → All P xs → All P (take n xs)
  all_take P zero xs all = All-nil P
  all_take P (suc n) [] all = all
  all_take P (suc n) (x ∷ xs) all = all_cons P x (take n xs) (all_head P x xs all) (all_take P n xs (all_tail P x xs all))

  -- the total where one member changes
  pub total_set : (f : X → ℕ) (xs : List X) (i : ℕ) (v w : X) → get_elem? xs i ≡ some v → total f (set xs i w) + f v ≡ total f xs + f w
  total_set f [] i v w e = absurd (some-ne-none v (sym e))
  total_set f (x ∷ xs) zero v w e = let is : f x ≡ f v = ap f (some-injective x v e) in omega arith
  total_set f (x ∷ xs) (suc i) v w e = let r = total_set f xs i v w e in omega arith

  pub total-append : (f : X → ℕ) (xs ys : List X) → total f (xs ++ ys) ≡ total f xs + total f ys
  total-append f [] ys = omega arith
  total-append f (x ∷ xs) ys = let r = total-append f xs ys in omega arith

  pub total_member : (f : X → ℕ) (xs : List X) (i : ℕ) (v : X) → get_elem? xs i ≡ some v → f v ≤ total f xs
  total_member f [] i v e = absurd (some-ne-none v (sym e))
  total_member f (x ∷ xs) zero v e = let is : f x ≡ f v = ap f (some-injective x v e) in omega arith
  total_member f (x ∷ xs) (suc i) v e = let r = total_member f xs i v e in omega arith

  -- two members count both
  pub total_two : (f : X → ℕ) (xs : List X) (i j : ℕ) (v w : X) → i ≢ j → get_elem? xs i ≡ some v → get_elem? xs j ≡ some w → f v + f w ≤ total f xs
  total_two f [] i j v w apart e e' = absurd (some-ne-none v (sym e))
  total_two f (x ∷ xs) zero zero v w apart e e' = absurd (apart refl)
  total_two f (x ∷ xs) zero (suc j) v w apart e e' = let is : f x ≡ f v = ap f (some-injective x v e) in let r = total_member f xs j w e' in omega arith
  total_two f (x ∷ xs) (suc i) zero v w apart e e' = let is : f x ≡ f w = ap f (some-injective x w e') in let r = total_member f xs i v e in omega arith
  total_two f (x ∷ xs) (suc i) (suc j) v w apart e e' = let r = total_two f xs i j v w (λ s. apart (ap suc s)) e e' in omega arith

  pub total_at : (f : X → ℕ) (xs : List X) (k : ℕ) (d : X) → k < length xs → f (get_or xs k d) ≤ total f xs
  total_at f [] k d h = absurd (omega arith)
  total_at f (x ∷ xs) zero d h = omega arith
  total_at f (x ∷ xs) (suc k) d h = let r = total_at f xs k d (omega arith) in omega arith

  pub total_same : (f g : X → ℕ) (xs : List X) → ((x : X) → f x ≡ g x) → total f xs ≡ total g xs
  total_same f g [] e = refl
  total_same f g (x ∷ xs) e = let r = total_same f g xs e in let h = e x in omega arith

  pub total-take-drop : (f : X → ℕ) (n : ℕ) (xs : List X) → total f (take n xs) + total f (drop n xs) ≡ total f xs
  total-take-drop f zero xs = omega arith
  total-take-drop f (suc n) [] = refl
  total-take-drop f (suc n) (x ∷ xs) = let r = total-take-drop f n xs in omega arith

pub all_map : {X Y : Type 0} (P : Y → Type 0) (f : X → Y) (xs : List X) → All (λ x. P (f x)) xs → All P (map f xs)
all_map P f [] all = All-nil P
all_map P f (x ∷ xs) all = all_cons P (f x) (map f xs) (all_head (λ y. P (f y)) x xs all) (all_map P f xs (all_tail (λ y. P (f y)) x xs all))

pub prefix_append : (front log more : List Row) → IsPrefix front log → IsPrefix front (log ++ more)
prefix_append front log more p = (p.0 ++ more, ap (λ l. l ++ more) p.1 ∙ append_assoc front p.0 more)

pub prefix_trans : (f g log : List Row) → IsPrefix f g → IsPrefix g log → IsPrefix f log
prefix_trans f g log p q = (p.0 ++ q.0, q.1 ∙ ap (λ l. l ++ q.0) p.1 ∙ append_assoc f p.0 q.0)

pub all_prefix : (P : Row → Type 0) (front log : List Row) → IsPrefix front log → All P log → All P front
all_prefix P front log p all k d h =
    let inside : k < length log = omega (arith, ap length p.1, length-append front p.0) in
    subst P (ap (λ l. get_or l k d) p.1 ∙ get_or_append_left front p.0 d k h) (all k d inside)

pub prefix_length : (front log : List Row) → IsPrefix front log → length front ≤ length log
prefix_length front log p = omega (arith, ap length p.1, length-append front p.0)

-- a beginning of the log that is as long as the log is the log
pub prefix_whole : (front log : List Row) → IsPrefix front log → length log ≤ length front → front ≡ log
prefix_whole front log p le = whole p.0 p.1
  where
    whole : (rest : List Row) → log ≡ front ++ rest → front ≡ log
    whole [] e = sym (append-nil front) ∙ sym e
    whole (x ∷ xs) e = let l : length log ≡ length front + suc (length xs) = ap length e ∙ length-append front (x ∷ xs) in absurd (omega arith)

-- of two beginnings of one list the shorter begins the other
pub prefix_both : (f g log : List Row) → IsPrefix f log → IsPrefix g log → length f ≤ length g → IsPrefix f g
prefix_both [] g log p q le = (g, refl)
prefix_both (x ∷ f) [] log p q le = absurd (omega arith)
prefix_both (x ∷ f) (y ∷ g) [] p q le = absurd (cc (p.1))
prefix_both (x ∷ f) (y ∷ g) (z ∷ log) p q le =
    let r = prefix_both f g log (p.0, cc (p.1)) (q.0, cc (q.1)) (omega arith) in
    let same : y ≡ x = cc (p.1, q.1) in
    (r.0, λ i. same i ∷ r.1 i)

pub rows_of_one : (lane : ℕ) (row : Row) → lane_of row ≡ lane → rows_of lane (row ∷ []) ≡ row ∷ []
rows_of_one lane row e = rw (eq-eqb (lane_of row) lane e) refl

pub rows_of_other : (lane : ℕ) (row : Row) → lane_of row ≢ lane → rows_of lane (row ∷ []) ≡ []
rows_of_other lane row e = rw (ne_eqb (lane_of row) lane e) refl

pub rows_of-append : (lane : ℕ) (xs ys : List Row) → rows_of lane (xs ++ ys) ≡ rows_of lane xs ++ rows_of lane ys
rows_of-append lane xs ys = filter-append (λ row. eqb (lane_of row) lane) xs ys

-- between two beginnings of the log, of which the shorter has all rows of the lane, there are none
pub rows_of_between : (lane : ℕ) (f g log : List Row) → IsPrefix f g → IsPrefix g log → rows_of lane f ≡ rows_of lane log → rows_of lane g ≡ rows_of lane f
rows_of_between lane f g log p q e =
    let a : rows_of lane g ≡ rows_of lane f ++ rows_of lane p.0 = ap (rows_of lane) p.1 ∙ rows_of-append lane f p.0 in
    let b : rows_of lane log ≡ rows_of lane g ++ rows_of lane q.0 = ap (rows_of lane) q.1 ∙ rows_of-append lane g q.0 in
    let n : length (rows_of lane p.0) ≡ 0 =
    omega (arith, ap length a, ap length b, ap length e, length-append (rows_of lane f) (rows_of lane p.0), length-append (rows_of lane g) (rows_of lane q.0)) in
    a ∙ (ap (λ l. rows_of lane f ++ l) (none_left (rows_of lane p.0) n) ∙ append-nil (rows_of lane f))
  where
    none_left : (l : List Row) → length l ≡ 0 → l ≡ []
    none_left [] e = refl
    none_left (x ∷ xs) e = absurd (omega arith)

pub rows_in-append : (xs ys : List LogAction) → rows_in (xs ++ ys) ≡ rows_in xs ++ rows_in ys
rows_in-append [] ys = refl
rows_in-append (publish row ∷ xs) ys = ap (λ l. row ∷ l) (rows_in-append xs ys)
rows_in-append (pin lane ∷ xs) ys = rows_in-append xs ys

-- a row that is published adds no pin
pub pins-publish : (lane n : ℕ) (row : Row) (xs : List LogAction) → pins_from lane n (xs ++ publish row ∷ []) ≡ pins_from lane n xs
pins-publish lane n row [] = refl
pins-publish lane n row (publish w ∷ xs) = pins-publish lane (n + 1) row xs
pins-publish lane n row (pin by ∷ xs) = let r = pins-publish lane n row xs in ap (λ l. cond (eqb by lane) (n ∷ l) l) r

-- a pin of another lane adds none
pub pins-other : (lane n by : ℕ) (xs : List LogAction) → by ≢ lane → pins_from lane n (xs ++ pin by ∷ []) ≡ pins_from lane n xs
pins-other lane n by [] other = rw (ne_eqb by lane other) refl
pins-other lane n by (publish w ∷ xs) other = pins-other lane (n + 1) by xs other
pins-other lane n by (pin l ∷ xs) other = let r = pins-other lane n by xs other in ap (λ z. cond (eqb l lane) (n ∷ z) z) r

-- a pin of the lane is the number of rows so far
pub pins-own : (lane n : ℕ) (xs : List LogAction) → pins_from lane n (xs ++ pin lane ∷ []) ≡ pins_from lane n xs ++ (n + length (rows_in xs)) ∷ []
pins-own lane n [] = let z : n ≡ n + 0 = omega arith in rw (eq-eqb lane lane refl) (ap (λ (k : ℕ). k ∷ []) z)
pins-own lane n (publish w ∷ xs) = let e : (n + 1) + length (rows_in xs) ≡ n + suc (length (rows_in xs)) = omega arith in
    pins-own lane (n + 1) xs ∙ ap (λ (k : ℕ). pins_from lane (n + 1) xs ++ k ∷ []) e
pins-own lane n (pin l ∷ xs) = let r = pins-own lane n xs in go (eqb l lane) r
  where
    go : (b : Bool) → pins_from lane n (xs ++ pin lane ∷ []) ≡ pins_from lane n xs ++ (n + length (rows_in xs)) ∷ []
        → cond b (n ∷ pins_from lane n (xs ++ pin lane ∷ [])) (pins_from lane n (xs ++ pin lane ∷ [])) ≡ cond b (n ∷ pins_from lane n xs) (pins_from lane n xs) ++ (n + length (rows_in xs)) ∷ []
    go true e = ap (λ z. n ∷ z) e
    go false e = e

-- a moment of another lane
pub places-other : (lane n : ℕ) (moment : LogAction) (xs : List LogAction) → lane_at moment ≢ lane → places_from lane n (xs ++ moment ∷ []) ≡ places_from lane n xs
places-other lane n moment [] other = rw (ne_eqb (lane_at moment) lane other) refl
places-other lane n moment (x ∷ xs) other = let r = places-other lane (n + 1) moment xs other in ap (λ z. cond (eqb (lane_at x) lane) (n ∷ z) z) r

-- a moment of the lane comes after all
pub places-own : (lane n : ℕ) (moment : LogAction) (xs : List LogAction) → lane_at moment ≡ lane → places_from lane n (xs ++ moment ∷ []) ≡ places_from lane n xs ++ (n + length xs) ∷ []
places-own lane n moment [] own = let z : n ≡ n + 0 = omega arith in rw (eq-eqb (lane_at moment) lane own) (ap (λ (k : ℕ). k ∷ []) z)
places-own lane n moment (x ∷ xs) own =
    let e : (n + 1) + length xs ≡ n + suc (length xs) = omega arith in
    go (eqb (lane_at x) lane) (places-own lane (n + 1) moment xs own ∙ ap (λ (k : ℕ). places_from lane (n + 1) xs ++ k ∷ []) e)
  where
    go : (b : Bool) → places_from lane (n + 1) (xs ++ moment ∷ []) ≡ places_from lane (n + 1) xs ++ (n + suc (length xs)) ∷ []
        → cond b (n ∷ places_from lane (n + 1) (xs ++ moment ∷ [])) (places_from lane (n + 1) (xs ++ moment ∷ []))
        ≡ cond b (n ∷ places_from lane (n + 1) xs) (places_from lane (n + 1) xs) ++ (n + suc (length xs)) ∷ []
    go true e = ap (λ z. n ∷ z) e
    go false e = e

-- the last of a list that grew: it is the new one, or it was there
module _ {X : Type 0} where
  pub snoc_split : (log front : List X) (x y : X) (rest : List X) → log ++ x ∷ [] ≡ front ++ y ∷ rest → ((front ≡ log) × (y ≡ x)) ⊎ ((more : List X) × (log ≡ front ++ y ∷ more))
  snoc_split [] [] x y rest e = inl (refl, cc (e))
  snoc_split [] (z ∷ front) x y rest e = absurd (omega (arith, ap length e, length-append front (y ∷ rest)))
  snoc_split (w ∷ log) [] x y rest e = let same : w ≡ y = cc (e) in inr (log, λ i. same i ∷ log)
  snoc_split (w ∷ log) (z ∷ front) x y rest e =
      let same : w ≡ z = cc (e) in
      ⊎_elim (λ (a : (front ≡ log) × (y ≡ x)). inl ((λ i. sym same i ∷ a.0 i), a.1))
      (λ (b : (more : List X) × (log ≡ front ++ y ∷ more)). inr (b.0, λ i. same i ∷ b.1 i)) (snoc_split log front x y rest (cc (e)))

pub rows_of_length : (lane : ℕ) (rows : List Row) → length (rows_of lane rows) ≤ length rows
rows_of_length lane [] = omega arith
rows_of_length lane (row ∷ rows) = let r = rows_of_length lane rows in go (eqb (lane_of row) lane) r
  where
    go : (b : Bool) → length (rows_of lane rows) ≤ length rows → length (cond b (row ∷ rows_of lane rows) (rows_of lane rows)) ≤ suc (length rows)
    go true le = omega arith
    go false le = omega arith

-- an entry takes a turn of its lane that is below the number of the lane's rows
pub turn_below : (front : List Row) (row : Row) (rest log : List Row) → log ≡ front ++ row ∷ rest → length (rows_of (lane_of row) front) < length (rows_of (lane_of row) log)
turn_below front row rest log e =
    let lane = lane_of row in
    let a : rows_of lane log ≡ rows_of lane front ++ (rows_of lane (row ∷ []) ++ rows_of lane rest) =
    ap (rows_of lane) e ∙ rows_of-append lane front (row ∷ rest) ∙ ap (λ l. rows_of lane front ++ l) (rows_of-append lane (row ∷ []) rest) in
    let b : length (rows_of lane (row ∷ [])) ≡ 1 = ap length (rows_of_one lane row refl) in
    omega (arith, ap length a, length-append (rows_of lane front) (rows_of lane (row ∷ []) ++ rows_of lane rest), length-append (rows_of lane (row ∷ [])) (rows_of lane rest))

-- and so below the place of the entry
pub turn_length : (front : List Row) (row : Row) (rest log : List Row) → log ≡ front ++ row ∷ rest → length (rows_of (lane_of row) front) < length log
turn_length front row rest log e = let a = rows_of_length (lane_of row) front in omega (arith, ap length e, length-append front (row ∷ rest))

-- a number that isn't less than any of these goes after them
pub rising_on : (ns : List ℕ) (n : ℕ) → IsNonDecreasing ns → All (λ m. m ≤ n) ns → IsNonDecreasing (ns ++ n ∷ [])
rising_on ns n rising below i j d le h =
    let more = length-append ns (n ∷ []) in
    dite (ℕ_discrete j (length ns))
    (λ (last : j ≡ length ns).
    let new : get_or (ns ++ n ∷ []) j d ≡ n = ap (λ (k : ℕ). get_or (ns ++ n ∷ []) k d) last ∙ get_or-append_seam ns n [] d in
    dite (ℕ_discrete i (length ns))
    (λ (same : i ≡ length ns). let new' : get_or (ns ++ n ∷ []) i d ≡ n = ap (λ (k : ℕ). get_or (ns ++ n ∷ []) k d) same ∙ get_or-append_seam ns n [] d in omega arith)
    (λ (not : i ≢ length ns).
    let old = get_or_append_left ns (n ∷ []) d i (omega arith) in
    let least = below i d (omega arith) in
    omega arith))
    (λ (not : j ≢ length ns).
    let old = get_or_append_left ns (n ∷ []) d i (omega arith) in
    let old' = get_or_append_left ns (n ∷ []) d j (omega arith) in
    let least = rising i j d le (omega arith) in
    omega arith)
