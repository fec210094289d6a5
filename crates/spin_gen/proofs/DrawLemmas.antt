-- Draws one after another, and what they make so far.
use Rattle.std.proofs.Common.{◌≡◌, ◌∙◌, ℕ, zero, suc, ◌+◌, List, [], ◌∷◌, ◌++◌, refl, sym, ap, arith, add-one}
use Rattle.std.specs.List.{flat_map, range_with_len}
use Rattle.std.proofs.lemmas.List.{append-nil}
use Rattle.std.proofs.lemmas.List.Concat.{flat_map-append}
use Rattle.spin_gen.specs.Numbers.{next_state, answer, state_after, drawn}
use Rattle.spin_gen.specs.Records.{record_bytes, records}

next_suc : (n x : ℕ) → state_after (suc n) x ≡ next_state (state_after n x)
unfolding state_after
next_suc zero x = refl
next_suc (suc n) x = next_suc n (next_state x)

-- one draw more
pub one_more : (n x : ℕ) → state_after 1 (state_after n x) ≡ state_after (n + 1) x
unfolding state_after
one_more n x = rw add-one (sym (next_suc n x))

-- what is drawn then
pub drawn_more : (range n x : ℕ) → drawn range 0 (state_after n x) ≡ drawn range n x
drawn_more range n x = ap (answer range) (one_more n x)

-- no draw
pub none_after : (x : ℕ) → state_after 0 x ≡ x
unfolding state_after
none_after x = refl

-- three draws, one after another
pub after_three : (x : ℕ) → state_after 1 (state_after 1 (state_after 1 x)) ≡ state_after 3 x
unfolding state_after
after_three x = refl

pub drawn_second : (range x : ℕ) → drawn range 0 (state_after 1 x) ≡ drawn range 1 x
unfolding state_after
drawn_second range x = refl

pub drawn_third : (range x : ℕ) → drawn range 0 (state_after 1 (state_after 1 x)) ≡ drawn range 2 x
unfolding state_after
drawn_third range x = refl

range_suc : (n a : ℕ) → range_with_len a (suc n) ≡ range_with_len a n ++ (a + n) ∷ []
range_suc zero a = ap (λ (m : ℕ). m ∷ []) (omega arith)
range_suc (suc n) a =
    ap (λ (l : List ℕ). a ∷ l)
    (range_suc n (a + 1) ∙ ap (λ (m : ℕ). range_with_len (a + 1) n ++ m ∷ []) (omega arith))

-- one number more, of those from 0 on
pub range_more : (n : ℕ) → range_with_len 0 (n + 1) ≡ range_with_len 0 n ++ n ∷ []
range_more n = rw add-one (range_suc n 0 ∙ ap (λ (m : ℕ). range_with_len 0 n ++ m ∷ []) (omega arith))

-- no record
pub records_none : (x : ℕ) → records 0 x ≡ []
unfolding records
records_none x = refl

-- one record more
pub records_more : (n x : ℕ) →
    records (n + 1) x ≡ records n x ++ record_bytes n (drawn 1024 n x)
unfolding records
records_more n x =
    ap (flat_map (λ (i : ℕ). record_bytes i (drawn 1024 i x))) (range_more n)
    ∙ (flat_map-append (λ (i : ℕ). record_bytes i (drawn 1024 i x)) (range_with_len 0 n) (n ∷ [])
    ∙ ap (λ (l : List ℕ). flat_map (λ (i : ℕ). record_bytes i (drawn 1024 i x)) (range_with_len 0 n) ++ l)
    (append-nil (record_bytes n (drawn 1024 n x))))
