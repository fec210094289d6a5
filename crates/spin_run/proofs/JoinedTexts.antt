-- Texts that are written one after another.
use Rattle.std.proofs.Common.{◌≡◌, ◌<◌, ◌+◌, ℕ, Option, Some, None, List, [], ◌∷◌, ◌++◌, length, take, drop, get_or, map, refl, sym, ap, subst, ◌∙◌, arith, append_assoc}
use Rattle.std.proofs.lemmas.List.{append-nil, take_more, length-append, take-append-drop, take-append-le}
use Rattle.std.proofs.Math.Seq.{take-append-add}
use Rattle.std.specs.Io.KnownBytes.{Appends}
use Rattle.spin_text.specs.Words.{ended, text_of}
use Rattle.spin_run.specs.Inner.Writing.{joined}
use Rattle.spin_run.proofs.TextLines.{text_of-append}

pub Appends-none : (a : Option (List ℕ)) → Appends a a []
Appends-none None = tt
Appends-none (Some a) = sym (append-nil a)

pub Appends-append : (a b c : Option (List ℕ)) (xs ys : List ℕ) → Appends a b xs → Appends b c ys → Appends a c (xs ++ ys)
Appends-append None b c xs ys h k = tt
Appends-append (Some a) None c xs ys h k = absurd h
Appends-append (Some a) (Some b) None xs ys h k = absurd k
Appends-append (Some a) (Some b) (Some c) xs ys h k = k ∙ ap (λ zs. zs ++ ys) h ∙ append_assoc a xs ys

pub joined-append : (a b : List (List ℕ)) → joined (a ++ b) ≡ joined a ++ joined b
joined-append [] b = refl
joined-append (x ∷ a) b = ap (λ ys. x ++ ys) (joined-append a b) ∙ sym (append_assoc x (joined a) (joined b))

-- lines that are ended, one after another
pub joined_ended : (lines : List (List ℕ)) → joined (map ended lines) ≡ text_of lines
joined_ended [] = refl
joined_ended (line ∷ lines) = ap (λ xs. ended line ++ xs) (joined_ended lines)

-- Pieces that are those of the retired endpoints, the line that begins a segment, and all that stands behind it, are
-- the text of the segment's part.
pub pieces_are : (retired first pieces : List (List ℕ)) (head : List ℕ) (entries jobs lost : List (List ℕ)) (text text' text'' : List ℕ)
    → first ≡ retired ++ ended head ∷ [] → text ≡ text_of entries → text' ≡ text ++ text_of jobs → text'' ≡ text' ++ text_of lost → pieces ≡ first ++ text'' ∷ []
    → joined pieces ≡ joined (retired ++ map ended (head ∷ entries ++ jobs ++ lost))
pieces_are retired first pieces head entries jobs lost text text' text'' begun a b c pushed =
    let rest = entries ++ jobs ++ lost in
    let all : text'' ≡ text_of rest =
    c ∙ ap (λ t. t ++ text_of lost) (b ∙ ap (λ t. t ++ text_of jobs) a ∙ sym (text_of-append entries jobs))
    ∙ sym (text_of-append (entries ++ jobs) lost) in
    let front : joined first ≡ joined retired ++ ended head =
    ap joined begun ∙ joined-append retired (ended head ∷ []) ∙ ap (λ t. joined retired ++ t) (append-nil (ended head)) in
    let made : joined pieces ≡ (joined retired ++ ended head) ++ text_of rest =
    ap joined pushed ∙ joined-append first (text'' ∷ []) ∙ ap (λ t. joined first ++ t) (append-nil text'' ∙ all) ∙ ap (λ t. t ++ text_of rest) front in
    let wanted : joined (retired ++ map ended (head ∷ rest)) ≡ joined retired ++ (ended head ++ text_of rest) =
    joined-append retired (map ended (head ∷ rest)) ∙ ap (λ t. joined retired ++ (ended head ++ t)) (joined_ended rest) in
    made ∙ append_assoc (joined retired) (ended head) (text_of rest) ∙ sym wanted

-- the texts up to a place, and the text there
pub joined-more : (texts : List (List ℕ)) (i : ℕ) → i < length texts → joined (take (i + 1) texts) ≡ joined (take i texts) ++ get_or texts i []
joined-more texts i lt = ap joined (take_more texts i [] lt) ∙ joined-append (take i texts) (get_or texts i [] ∷ []) ∙ ap (λ ys. joined (take i texts) ++ ys) (append-nil (get_or texts i []))

-- those, and what comes after
pub joined-split : (texts : List (List ℕ)) (i : ℕ) → i < length texts → joined texts ≡ (joined (take i texts) ++ get_or texts i []) ++ joined (drop (i + 1) texts)
joined-split texts i lt =
    ap joined (sym (take-append-drop (i + 1) texts)) ∙ joined-append (take (i + 1) texts) (drop (i + 1) texts) ∙ ap (λ ys. ys ++ joined (drop (i + 1) texts)) (joined-more texts i lt)

-- a front of a text, after all of another
pub take-front : (xs ys zs : List ℕ) (n : ℕ) → n < length ys → (length xs + n < length ((xs ++ ys) ++ zs)) × (take (length xs + n) ((xs ++ ys) ++ zs) ≡ xs ++ take n ys)
take-front xs ys zs n lt =
    (omega (arith, length-append (xs ++ ys) zs, length-append xs ys), take-append-le (length xs + n) (xs ++ ys) zs (omega (arith, length-append xs ys)) ∙ take-append-add xs ys n)

-- the sink failed at the text at a place
pub cut_at : (a b c : Option (List ℕ)) (texts : List (List ℕ)) (i n : ℕ) → i < length texts → Appends a b (joined (take i texts))
    → n < length (get_or texts i []) → Appends b c (take n (get_or texts i [])) → (m : ℕ) × (m < length (joined texts)) × Appends a c (take m (joined texts))
cut_at a b c texts i n lt before short now =
    let front = joined (take i texts) in
    let text = get_or texts i [] in
    let rest = joined (drop (i + 1) texts) in
    let whole = joined-split texts i lt in
    let cut = take-front front text rest n short in
    (length front + n, rw whole cut.0, rw (whole, cut.1) (Appends-append a b c front (take n text) before now))

pub cut_by : (a b c : Option (List ℕ)) (texts : List (List ℕ)) (i n : ℕ) (text : List ℕ) → i < length texts → text ≡ get_or texts i []
    → Appends a b (joined (take i texts)) → n < length text → Appends b c (take n text) → (m : ℕ) × (m < length (joined texts)) × Appends a c (take m (joined texts))
cut_by a b c texts i n text lt same before short now =
    cut_at a b c texts i n lt before (subst (λ (t : List ℕ). n < length t) same short) (subst (λ (t : List ℕ). Appends b c (take n t)) same now)
