-- The lines of a segment, made one after another.
use Rattle.std.proofs.Common.{◌≡◌, ◌<◌, ◌≤◌, ◌+◌, ℕ, zero, suc, Bool, false, List, [], ◌∷◌, ◌++◌, length, take, map, get_or, refl, sym, ap, subst, ◌∙◌, arith, append_assoc}
use Rattle.std.specs.Prelude.{zip, filter, not, ◌==◌, slice_index_or}
use Rattle.std.specs.List.{enumerate_from, range_with_len}
use Rattle.std.proofs.Math.Seq.{take-append_seam}
use Rattle.std.proofs.lemmas.List.{append-nil, map-append, take_more, take_all, length-map, get_or-map}
use Rattle.std.proofs.lemmas.Slice.Zip.{length-zip, get_or-zip}
use Rattle.std.proofs.lemmas.List.Elements.{filter-append}
use Rattle.std.proofs.lemmas.List.FromFn.{length-range_with_len}
use Rattle.spin_endpoint.specs.Named.{NamedEnd}
use Rattle.spin_endpoint.specs.Sends.{stands_in_turn}
use Rattle.spin_text.specs.Words.{ended, text_of}
use Rattle.spin_report.specs.Histories.{lost_line, losses, lost_lines}
use Rattle.spin_report.specs.Runs.{retirements}
use Rattle.spin_report.proofs.Retirements.{retirements_are}
use Rattle.spin_run.specs.Inner.Lining.{retired_as, if_lost, counts_to}

pub lines_more : {X : Type 0} (f : X → List ℕ) (old : List (List ℕ)) (xs : List X) (k : ℕ) (x : X) → k < length xs
    → get_or xs k x ≡ x → (old ++ map ended (map f (take k xs))) ++ ended (f x) ∷ [] ≡ old ++ map ended (map f (take (k + 1) xs))
lines_more f old xs k x lt is =
    append_assoc old (map ended (map f (take k xs))) (ended (f x) ∷ [])
    ∙ ap (λ y. old ++ y)
    (sym (ap (λ y. map ended (map f y)) (take_more xs k x lt ∙ ap (λ y. take k xs ++ y ∷ []) is)
    ∙ ap (map ended) (map-append f (take k xs) (x ∷ []))
    ∙ map-append ended (map f (take k xs)) (f x ∷ [])))

pub added : {X : Type 0} (f : X → List ℕ) (old lines lines' : List (List ℕ)) (line : List ℕ) (xs : List X) (k : ℕ) (x : X) → k < length xs → get_or xs k x ≡ x
    → lines ≡ old ++ map ended (map f (take k xs)) → line ≡ ended (f x) → lines' ≡ lines ++ line ∷ [] → lines' ≡ old ++ map ended (map f (take (k + 1) xs))
added f old lines lines' line xs k x lt is before one now =
    now ∙ (λ i. before i ++ one i ∷ []) ∙ lines_more f old xs k x lt is

-- the texts of lines, one after another
pub text_of-append : (xs ys : List (List ℕ)) → text_of (xs ++ ys) ≡ text_of xs ++ text_of ys
text_of-append [] ys = refl
text_of-append (x ∷ xs) ys = ap (λ t. ended x ++ t) (text_of-append xs ys) ∙ sym (append_assoc (ended x) (text_of xs) (text_of ys))

-- one line more
pub text_added : {X : Type 0} (f : X → List ℕ) (old text text' : List ℕ) (xs : List X) (k : ℕ) (x : X) → k < length xs → get_or xs k x ≡ x
    → text ≡ old ++ text_of (map f (take k xs)) → text' ≡ text ++ ended (f x) → text' ≡ old ++ text_of (map f (take (k + 1) xs))
text_added f old text text' xs k x lt is before now =
    let front = text_of (map f (take k xs)) in
    now ∙ ap (λ t. t ++ ended (f x)) before ∙ append_assoc old front (ended (f x))
    ∙ ap (λ t. old ++ t)
    (sym (ap (λ y. text_of (map f y)) (take_more xs k x lt ∙ ap (λ y. take k xs ++ y ∷ []) is)
    ∙ ap text_of (map-append f (take k xs) (x ∷ []))
    ∙ text_of-append (map f (take k xs)) (f x ∷ [])
    ∙ ap (λ t. front ++ t) (append-nil (ended (f x)))))

-- ---- two lists side by side

length_side : {A B X : Type 0} (f : A × B → X) (xs : List A) (ys : List B) → length ys ≡ length xs → length (map f (zip xs ys)) ≡ length xs
length_side f xs ys long = omega (arith, length-map (zip xs ys) f, length-zip xs ys, long)

pub side_at : {A B X : Type 0} (f : A × B → X) (xs : List A) (ys : List B) (k : ℕ) (a : A) (b : B) → length ys ≡ length xs → k < length xs
    → (k < length (map f (zip xs ys))) × (get_or (map f (zip xs ys)) k (f (get_or xs k a, get_or ys k b)) ≡ f (get_or xs k a, get_or ys k b))
side_at f xs ys k a b long lt = (
  omega (arith, length_side f xs ys long, lt),
  get_or-map f (zip xs ys) k (a, b) _ (omega (arith, length-zip xs ys, long, lt)) ∙ ap f (get_or-zip xs ys k (a, b) lt (omega (arith, long, lt))),
)

pub text_added_side : {A B X : Type 0} (f : A × B → X) (g : X → List ℕ) (old text text' : List ℕ) (xs : List A) (ys : List B) (k : ℕ) (a : A) (b : B)
    → length ys ≡ length xs → k < length xs → get_or xs k a ≡ a → get_or ys k b ≡ b
    → text ≡ old ++ text_of (map g (take k (map f (zip xs ys)))) → text' ≡ text ++ ended (g (f (a, b))) → text' ≡ old ++ text_of (map g (take (k + 1) (map f (zip xs ys))))
text_added_side {X = X} f g old text text' xs ys k a b long lt at_a at_b before now =
    let side = side_at f xs ys k a b long lt in
    let pair : f (get_or xs k a, get_or ys k b) ≡ f (a, b) = λ i. f (at_a i, at_b i) in
    text_added g old text text' (map f (zip xs ys)) k (f (a, b)) side.0 (subst (λ (x : X). get_or (map f (zip xs ys)) k x ≡ x) pair side.1) before now

pub side_all : {A B X : Type 0} (f : A × B → X) (xs : List A) (ys : List B) (k : ℕ) → length ys ≡ length xs → length xs ≤ k → take k (map f (zip xs ys)) ≡ map f (zip xs ys)
side_all f xs ys k long le = take_all k (map f (zip xs ys)) (omega (arith, length_side f xs ys long, le))

-- ---- losses

range_more : (a n : ℕ) → range_with_len a (suc n) ≡ range_with_len a n ++ (a + n) ∷ []
range_more a zero = ap (λ (k : ℕ). k ∷ []) (let e : a ≡ a + 0 = omega arith in e)
range_more a (suc n) = ap (λ (x : List ℕ). a ∷ x) (range_more (a + 1) n ∙ ap (λ (k : ℕ). range_with_len (a + 1) n ++ k ∷ []) (let e : a + 1 + n ≡ a + suc n = omega arith in e))

enumerate_more : {X : Type 0} (n : ℕ) (xs : List X) (x : X) → enumerate_from n (xs ++ x ∷ []) ≡ enumerate_from n xs ++ (n + length xs, x) ∷ []
enumerate_more n [] x = ap (λ (k : ℕ). (k, x) ∷ []) (let e : n ≡ n + 0 = omega arith in e)
enumerate_more n (y ∷ xs) x =
    ap (λ z. (n, y) ∷ z) (enumerate_more (n + 1) xs x ∙ ap (λ (k : ℕ). enumerate_from (n + 1) xs ++ (k, x) ∷ []) (let e : n + 1 + length xs ≡ n + length (y ∷ xs) = omega arith in e))

abbrev count_at : List ℕ → ℕ → ℕ
count_at counts number = slice_index_or counts number 0

counts_more : (counts : List ℕ) (k : ℕ) → counts_to counts (k + 1) ≡ counts_to counts k ++ count_at counts k ∷ []
counts_more counts k =
    let next : k + 1 ≡ suc k = omega arith in
    let last : 0 + k ≡ k = omega arith in
    ap (counts_to counts) next ∙ ap (map (count_at counts)) (range_more 0 k ∙ ap (λ (n : ℕ). range_with_len 0 k ++ n ∷ []) last) ∙ map-append (count_at counts) (range_with_len 0 k) (k ∷ [])

length_counts : (counts : List ℕ) (k : ℕ) → length (counts_to counts k) ≡ k
length_counts counts k = length-map (range_with_len 0 k) (count_at counts) ∙ length-range_with_len 0 k

losses_more : (counts : List ℕ) (k : ℕ) → losses (counts_to counts (k + 1)) ≡ losses (counts_to counts k) ++ if_lost k (count_at counts k)
losses_more counts k =
    let long : 0 + length (counts_to counts k) ≡ k = omega (arith, length_counts counts k) in
    ap losses (counts_more counts k)
    ∙ ap (filter (λ (l : ℕ × ℕ). not (l.1 == 0)))
    (enumerate_more 0 (counts_to counts k) (count_at counts k) ∙ ap (λ (n : ℕ). enumerate_from 0 (counts_to counts k) ++ (n, count_at counts k) ∷ []) long)
    ∙ filter-append (λ (l : ℕ × ℕ). not (l.1 == 0)) (enumerate_from 0 (counts_to counts k)) ((k, count_at counts k) ∷ [])

pub lost_more : (old text text' : List ℕ) (counts : List ℕ) (k : ℕ) → text ≡ old ++ text_of (lost_lines (counts_to counts k)) → text' ≡ text ++ text_of (map lost_line (if_lost k (count_at counts k)))
    → text' ≡ old ++ text_of (lost_lines (counts_to counts (k + 1)))
lost_more old text text' counts k before now =
    let more = losses_more counts k in
    let last = if_lost k (count_at counts k) in
    let front = text_of (lost_lines (counts_to counts k)) in
    now ∙ ap (λ t. t ++ text_of (map lost_line last)) before
    ∙ append_assoc old front (text_of (map lost_line last))
    ∙ ap (λ t. old ++ t)
    (sym (ap (λ (x : List (ℕ × ℕ)). text_of (map lost_line x)) more
    ∙ ap text_of (map-append lost_line (losses (counts_to counts k)) last)
    ∙ text_of-append (map lost_line (losses (counts_to counts k))) (map lost_line last)))

-- ---- retirements

pub retired_same : (n : ℕ) (numbers : List ℕ) (stood : List Bool) (f : ℕ → Bool) → length stood ≡ length numbers → ((k : ℕ) → k < length numbers → slice_index_or stood k false ≡ f (n + k))
    → retired_as numbers stood ≡ map (λ (turn : ℕ × ℕ). record { endpoint = turn.1; stood = f turn.0 }) (enumerate_from n numbers)
retired_same n [] [] f long h = refl
retired_same n [] (b ∷ stood) f long h = absurd (omega (arith, long))
retired_same n (k ∷ numbers) [] f long h = absurd (omega (arith, long))
retired_same n (k ∷ numbers) (b ∷ stood) f long h =
    let first : b ≡ f n = h 0 (omega arith) ∙ ap f (let e : n + 0 ≡ n = omega arith in e) in
    let others = retired_same (n + 1) numbers stood f (omega (arith, long)) (λ j lt. h (suc j) (omega (arith, lt)) ∙ ap f (let e : n + suc j ≡ n + 1 + j = omega arith in e)) in
    λ i. record { endpoint = k; stood = first i } ∷ others i

pub retired_told : (names : List (List ℕ)) (numbers bytes : List ℕ) (ends : List NamedEnd) (stood : List Bool) → bytes ≡ numbers → length stood ≡ length numbers
    → ((turn : ℕ) → turn < length bytes → slice_index_or stood turn false ≡ stands_in_turn names bytes ends turn) → retired_as numbers stood ≡ retirements names numbers ends
retired_told names numbers bytes ends stood same long h =
    retired_same 0 numbers stood (stands_in_turn names numbers ends) long
    (λ k lt. h k (omega (arith, ap length same, lt)) ∙ ap (λ (x : List ℕ). stands_in_turn names x ends k) same ∙ ap (stands_in_turn names numbers ends) (let e : k ≡ 0 + k = omega arith in e))
    ∙ sym (retirements_are names numbers ends)

-- what a slice wrote is what its list has
pub written_back : (n : ℕ) (xs ys : List Bool) → n ≡ length xs → take n (xs ++ ys) ≡ xs
written_back n xs ys long = ap (λ k. take k (xs ++ ys)) long ∙ take-append_seam xs ys
