-- How many bytes are taken of a capture.
use Rattle.std.proofs.Common.{◌≡◌, ◌<◌, ◌≤◌, ◌+◌, ◌-◌, ℕ, List, [], ◌∷◌, ◌++◌, length, take, drop, Option, Result, Ok, Err, refl, sym, ap, subst, ◌∙◌, arith, append_assoc}
use Rattle.std.proofs.Math.Seq.{take-append-add}
use Rattle.std.proofs.lemmas.List.{append-nil, length-append, length-take-le, take-append-drop}
use Rattle.std.proofs.lemmas.List.Sums.{sum_by-append}
use Rattle.spin_outside.specs.Sources.{SourceSeen, taken_more}
use Rattle.spin_pcap.specs.Passing.{ReaderState}
use Rattle.spin_pcap.proofs.SourceBytes.{more_none, more_twice}
use Rattle.spin_run.specs.declared.end.RunEnd.{RunEnd}
use Rattle.spin_run.specs.Records.{bytes_in, room_of, IsTakenPast}
use Rattle.spin_run.specs.Inner.Reading.{HasTaken, TakesFirst, TakesFrames}

abbrev size : List ℕ → ℕ
size frame = 16 + length frame

bytes_more : (xs ys : List (List ℕ)) → bytes_in (xs ++ ys) ≡ bytes_in xs + bytes_in ys
bytes_more xs ys = sum_by-append size xs ys

-- ---- what is taken one after another

pub took_none : (a : Option ReaderState) (s : SourceSeen) → HasTaken a a s s []
took_none a s = record { count = 0; taken = more_none s.taken; balance = refl }

pub past_none : (past : ℕ) (s : SourceSeen) (frames : List (List ℕ)) → IsTakenPast past s s frames
past_none past s frames = record { count = 0; few = omega arith; taken = more_none s.taken }

took_more : (a b c : Option ReaderState) (s s' s'' : SourceSeen) (xs ys : List (List ℕ)) → HasTaken a b s s' xs → HasTaken b c s' s'' ys → HasTaken a c s s'' (xs ++ ys)
took_more a b c s s' s'' xs ys p q = record {
  count = p.count + q.count;
  taken = q.taken ∙ ap (λ t. taken_more t q.count) p.taken ∙ more_twice s.taken p.count q.count;
  balance = omega (arith, p.balance, q.balance, bytes_more xs ys);
}

past_more : (a b : Option ReaderState) (s s' s'' : SourceSeen) (xs ys : List (List ℕ)) → HasTaken a b s s' xs → IsTakenPast (room_of b) s' s'' ys → IsTakenPast (room_of a) s s'' (xs ++ ys)
past_more a b s s' s'' xs ys p q = record {
  count = p.count + q.count;
  few = omega (arith, p.balance, q.few, bytes_more xs ys);
  taken = q.taken ∙ ap (λ t. taken_more t q.count) p.taken ∙ more_twice s.taken p.count q.count;
}

past_all : (a b : Option ReaderState) (s s' : SourceSeen) (xs : List (List ℕ)) → HasTaken a b s s' xs → IsTakenPast (room_of a) s s' xs
past_all a b s s' xs p = record { count = p.count; few = omega (arith, p.balance); taken = p.taken }

past_front : (past : ℕ) (s s' : SourceSeen) (xs ys : List (List ℕ)) → bytes_in xs ≤ bytes_in ys → IsTakenPast past s s' xs → IsTakenPast past s s' ys
past_front past s s' xs ys le p = record { count = p.count; few = omega (arith, le, p.few); taken = p.taken }

-- the records at the front have no more bytes than more of them
front_bytes : (xs ys : List (List ℕ)) (n : ℕ) → length xs ≤ n → bytes_in xs ≤ bytes_in (take n (xs ++ ys))
front_bytes xs ys n le =
    let more = n - length xs in
    let is : n ≡ length xs + more = omega (arith, le) in
    let front : take n (xs ++ ys) ≡ xs ++ take more ys = ap (λ k. take k (xs ++ ys)) is ∙ take-append-add xs ys more in
    omega (arith, ap bytes_in front, bytes_more xs (take more ys))

pub take_split : (a b : ℕ) (xs : List (List ℕ)) → a ≤ length xs → take (a + b) xs ≡ take a xs ++ take b (drop a xs)
take_split a b xs le =
    let long : length (take a xs) ≡ a = length-take-le a xs le in
    (λ i. take (sym long i + b) (sym (take-append-drop a xs) i)) ∙ take-append-add (take a xs) (drop a xs) b

-- ---- records that are read one after another

-- these were read, and no more
pub took_so_far : (before at : Option ReaderState) (s s' : SourceSeen) (xs frames left : List (List ℕ)) (wanted : ℕ) → length xs ≤ wanted
    → frames ≡ xs ++ left → HasTaken before at s s' xs → wanted ≤ length frames → IsTakenPast (room_of before) s s' (take wanted frames)
took_so_far before at s s' xs frames left wanted few split t le =
    past_front (room_of before) s s' xs (take wanted frames)
    (subst (λ (ys : List (List ℕ)). bytes_in xs ≤ bytes_in (take wanted ys)) (sym split) (front_bytes xs left wanted few))
    (past_all before at s s' xs t)

-- the next one wasn't given
pub took_stopped : (before at : Option ReaderState) (s s' s'' : SourceSeen) (xs frames left : List (List ℕ)) (wanted : ℕ) → length xs < wanted → frames ≡ xs ++ left
    → HasTaken before at s s' xs → TakesFirst (room_of at) s' s'' left → wanted ≤ length frames → IsTakenPast (room_of before) s s'' (take wanted frames)
took_stopped before at s s' s'' xs frames [] wanted few split t n le =
    absurd (omega (arith, few, le, ap length (split ∙ append-nil xs)))
took_stopped before at s s' s'' xs frames (first ∷ others) wanted few split t n le =
    let split' : frames ≡ (xs ++ first ∷ []) ++ others = split ∙ sym (append_assoc xs (first ∷ []) others) in
    past_front (room_of before) s s'' (xs ++ first ∷ []) (take wanted frames)
    (subst (λ (ys : List (List ℕ)). bytes_in (xs ++ first ∷ []) ≤ bytes_in (take wanted ys)) (sym split')
    (front_bytes (xs ++ first ∷ []) others wanted (omega (arith, few, length-append xs (first ∷ [])))))
    (past_more before at s s' s'' xs (first ∷ []) t n)

pub took_then : (before at after : Option ReaderState) (s s' s'' : SourceSeen) (xs : List (List ℕ)) (frame : List ℕ)
    → HasTaken before at s s' xs → HasTaken at after s' s'' (frame ∷ []) → HasTaken before after s s'' (xs ++ frame ∷ [])
took_then before at after s s' s'' xs frame t n = took_more before at after s s' s'' xs (frame ∷ []) t n

-- ---- a segment

-- what was taken for its records is all that it takes
takes_same : (before after : Option ReaderState) (s s' : SourceSeen) (left : List (List ℕ)) (wanted wanted' : ℕ) → wanted ≡ wanted'
    → (wanted ≤ length left → HasTaken before after s s' (take wanted left)) → wanted' ≤ length left → HasTaken before after s s' (take wanted' left)
takes_same before after s s' left wanted wanted' is t le =
    subst (λ (n : ℕ). HasTaken before after s s' (take n left)) is (t (omega (arith, le, is)))

pub takes_before : (before after : Option ReaderState) (s s' : SourceSeen) (left : List (List ℕ)) (wanted wanted' : ℕ) → wanted ≡ wanted'
    → (wanted ≤ length left → HasTaken before after s s' (take wanted left)) → wanted' ≤ length left → IsTakenPast (room_of before) s s' (take wanted' left)
takes_before before after s s' left wanted wanted' is t le =
    past_all before after s s' (take wanted' left) (takes_same before after s s' left wanted wanted' is t le)

-- however it is told then
pub takes_told : {T : Type 0} (before after : Option ReaderState) (s s' : SourceSeen) (left : List (List ℕ)) (wanted wanted' : ℕ) (result : Result T RunEnd)
    → wanted ≡ wanted' → (wanted ≤ length left → HasTaken before after s s' (take wanted left)) → TakesFrames wanted' before after s s' result left
takes_told before after s s' left wanted wanted' (Ok done) is t le = takes_same before after s s' left wanted wanted' is t le
takes_told before after s s' left wanted wanted' (Err stop) is t le = takes_before before after s s' left wanted wanted' is t le

pub takes_reading : (before : Option ReaderState) (s s' : SourceSeen) (left : List (List ℕ)) (wanted wanted' : ℕ) → wanted ≡ wanted'
    → (wanted ≤ length left → IsTakenPast (room_of before) s s' (take wanted left)) → wanted' ≤ length left → IsTakenPast (room_of before) s s' (take wanted' left)
takes_reading before s s' left wanted wanted' is t le =
    subst (λ (n : ℕ). IsTakenPast (room_of before) s s' (take n left)) is (t (omega (arith, le, is)))

-- ---- segments one after another

pub took_segments : (first at after : Option ReaderState) (s s' s'' : SourceSeen) (frames left : List (List ℕ)) (wanted more : ℕ) → left ≡ drop wanted frames
    → wanted + more ≤ length frames → HasTaken first at s s' (take wanted frames) → HasTaken at after s' s'' (take more left) → HasTaken first after s s'' (take (wanted + more) frames)
took_segments first at after s s' s'' frames left wanted more is le t n =
    subst (λ (ys : List (List ℕ)). HasTaken first after s s'' ys) (sym (take_split wanted more frames (omega (arith, le)) ∙ ap (λ (ys : List (List ℕ)). take wanted frames ++ take more ys) (sym is)))
    (took_more first at after s s' s'' (take wanted frames) (take more left) t n)

pub past_segments : (first at : Option ReaderState) (s s' s'' : SourceSeen) (frames left : List (List ℕ)) (wanted more : ℕ) → left ≡ drop wanted frames → wanted + more ≤ length frames
    → HasTaken first at s s' (take wanted frames) → IsTakenPast (room_of at) s' s'' (take more left) → IsTakenPast (room_of first) s s'' (take (wanted + more) frames)
past_segments first at s s' s'' frames left wanted more is le t n =
    subst (λ (ys : List (List ℕ)). IsTakenPast (room_of first) s s'' ys)
    (sym (take_split wanted more frames (omega (arith, le)) ∙ ap (λ (ys : List (List ℕ)). take wanted frames ++ take more ys) (sym is)))
    (past_more first at s s' s'' (take wanted frames) (take more left) t n)
