-- Entries woven as their marks are.
use Rattle.std.proofs.Common.{◌≡◌, ◌==◌, ℕ, Bool, true, false, cond, eqb, List, [], ◌∷◌, refl, sym, ap, ◌∙◌, subst}
use Rattle.std.specs.Prelude.{filter}
use Rattle.std.specs.List.{AllZip}
use Rattle.std.proofs.lemmas.Bool.{eqb-true, eqb-false, eq-eqb, ne_eqb}

module _ {X Y : Type 0} (lane : X → ℕ) (lane' : Y → ℕ) (R : ℕ → X → Y → Type 0) (same : (k : ℕ) (x : X) (y : Y) → R k x y → lane' y ≡ lane x) where
  -- one list of all, which has each lane's in its own order, and whose items stand beside those of the other list
  pub record Lifted (own : ℕ → List Y) (xs : List X) : Type 0 where
    pub all : List Y
    pub each : (k : ℕ) → filter (λ y. lane' y == k) all ≡ own k
    pub pairs : AllZip (λ x y. R (lane x) x y) xs all

  -- the first item of a lane's list, and what is left of it
  first_of : (k : ℕ) (x : X) (xs : List X) (ys : List Y) → AllZip (R k) (x ∷ xs) ys → (y : Y) × (rest : List Y) × (ys ≡ y ∷ rest) × R k x y × AllZip (R k) xs rest
  first_of k x xs [] h = absurd h
  first_of k x xs (y ∷ rest) h = (y, rest, refl, h.0, h.1)

  -- the lists of all lanes, without the first item of that one
  abbrev without : ℕ → List Y → (ℕ → List Y) → ℕ → List Y
  without k rest own j = cond (eqb j k) rest (own j)

  none : (own : ℕ → List Y) → ((k : ℕ) → AllZip (R k) [] (own k)) → Lifted own []
  none own h = record { all = []; each = λ k. empty k (own k) (h k); pairs = tt }
    where
      empty : (k : ℕ) (ys : List Y) → AllZip (R k) [] ys → [] ≡ ys
      empty k [] h = refl
      empty k (y ∷ ys) h = absurd h

  pub lift : (xs : List X) (own : ℕ → List Y) → ((k : ℕ) → AllZip (R k) (filter (λ x. lane x == k) xs) (own k)) → Lifted own xs
  lift [] own h = none own h
  lift (x ∷ xs) own h =
      let k = lane x in
      let here : AllZip (R k) (x ∷ filter (λ z. lane z == k) xs) (own k) =
      subst (λ b. AllZip (R k) (cond b (x ∷ filter (λ z. lane z == k) xs) (filter (λ z. lane z == k) xs)) (own k)) (eq-eqb k k refl) (h k) in
      let first = first_of k x (filter (λ z. lane z == k) xs) (own k) here in
      let left : (j : ℕ) → AllZip (R j) (filter (λ z. lane z == j) xs) (without k first.1 own j) = λ j. others k refl first.1 own j (eqb j k) refl first.4 (h j) in
      let more = lift xs (without k first.1 own) left in
      record {
        all = first.0 ∷ more.all;
        each = λ j. each k first.0 first.1 own more.all j (eqb j k) refl (same k x first.0 first.3) first.2 (more.each j);
        pairs = (first.3, more.pairs);
      }
    where
      others : (k : ℕ) → lane x ≡ k → (rest : List Y) (own : ℕ → List Y) (j : ℕ) (b : Bool) → eqb j k ≡ b → AllZip (R k) (filter (λ z. lane z == k) xs) rest
          → AllZip (R j) (cond (lane x == j) (x ∷ filter (λ z. lane z == j) xs) (filter (λ z. lane z == j) xs)) (own j)
          → AllZip (R j) (filter (λ z. lane z == j) xs) (cond (eqb j k) rest (own j))
      others k at rest own j true e rest_is here =
          subst (λ (c : Bool). AllZip (R j) (filter (λ z. lane z == j) xs) (cond c rest (own j))) (sym e)
          (subst (λ (n : ℕ). AllZip (R n) (filter (λ z. lane z == n) xs) rest) (sym (eqb-true j k e)) rest_is)
      others k at rest own j false e rest_is here =
          subst (λ (c : Bool). AllZip (R j) (filter (λ z. lane z == j) xs) (cond c rest (own j))) (sym e)
          (subst (λ (c : Bool). AllZip (R j) (cond c (x ∷ filter (λ z. lane z == j) xs) (filter (λ z. lane z == j) xs)) (own j))
          (ne_eqb (lane x) j (λ is. eqb-false j k e (sym is ∙ at))) here)

      each : (k : ℕ) (y : Y) (rest : List Y) (own : ℕ → List Y) (all : List Y) (j : ℕ) (b : Bool) → eqb j k ≡ b → lane' y ≡ k → own k ≡ y ∷ rest
          → filter (λ z. lane' z == j) all ≡ cond (eqb j k) rest (own j) → cond (lane' y == j) (y ∷ filter (λ z. lane' z == j) all) (filter (λ z. lane' z == j) all) ≡ own j
      each k y rest own all j true e is first more =
          let at : j ≡ k = eqb-true j k e in
          ap (λ c. cond c (y ∷ filter (λ z. lane' z == j) all) (filter (λ z. lane' z == j) all)) (eq-eqb (lane' y) j (is ∙ sym at))
          ∙ ap (λ l. y ∷ l) (more ∙ ap (λ c. cond c rest (own j)) e)
          ∙ sym first ∙ ap own (sym at)
      each k y rest own all j false e is first more =
          ap (λ c. cond c (y ∷ filter (λ z. lane' z == j) all) (filter (λ z. lane' z == j) all)) (ne_eqb (lane' y) j (λ here. eqb-false j k e (sym here ∙ is)))
          ∙ more ∙ ap (λ c. cond c rest (own j)) e
