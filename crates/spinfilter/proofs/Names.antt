-- Words that are names, and those behind them.
use Rattle.std.proofs.Common.{◌≡◌, ◌<◌, ◌≤◌, ◌+◌, ◌-◌, ℕ, zero, suc, Bool, true, false, List, [], ◌∷◌, ◌++◌, length, take, drop, get_or, All, Option, Some, None, refl, sym, ap, subst, ◌∙◌, arith, take-append-drop, length-take, length-drop}
use Rattle.std.specs.Prelude.{codes}
use Rattle.std.proofs.Math.Seq.{drop-append_seam}
use Rattle.std.proofs.lemmas.List.{take_all}
use Rattle.std.proofs.lemmas.List.Elements.{All-head, All-tail, All-more}
use Rattle.spinfilter.specs.declared.words.Asked.{Asked}
use Rattle.spinfilter.specs.Words.{IsName, option_words, IsOption, IsAsked}

-- one name more
pub names-more : (words : List (List ℕ)) (i : ℕ) (word : List ℕ) → i < length words → word ≡ get_or words i word → All IsName (take i words) → IsName word → All IsName (take (i + 1) words)
names-more words i word lt is all own = All-more IsName words i word lt all (subst (λ (w : List ℕ). IsName w) is own)

-- the word at that place is no name
pub no-more : (words : List (List ℕ)) (i : ℕ) (word : List ℕ) → i < length words → word ≡ get_or words i word → (IsName word → ⊥) → IsName (get_or words i []) → ⊥
no-more [] i word lt is other name = absurd (omega (arith, lt))
no-more (x ∷ words) zero word lt is other name = other (subst (λ (w : List ℕ). IsName w) (sym is) name)
no-more (x ∷ words) (suc i) word lt is other name = no-more words i word (omega (arith, lt)) is other name

-- behind the last word there is none
pub past-words : (words : List (List ℕ)) (i : ℕ) → length words ≤ i → IsName (get_or words i []) → ⊥
past-words [] i le name = name
past-words (x ∷ words) zero le name = absurd (omega (arith, le))
past-words (x ∷ words) (suc i) le name = past-words words i (omega (arith, le)) name

-- ---- lists of one word, of two and of three

pub no-word : (words : List (List ℕ)) → length words ≡ 0 → words ≡ []
no-word [] size = refl
no-word (x ∷ words) size = absurd (omega (arith, size))

pub one-word : (words : List (List ℕ)) (a d : List ℕ) → length words ≡ 1 → a ≡ get_or words 0 d → words ≡ a ∷ []
one-word [] a d size is = absurd (omega (arith, size))
one-word (x ∷ []) a d size is = ap (λ w. w ∷ []) (sym is)
one-word (x ∷ y ∷ zs) a d size is = absurd (omega (arith, size))

pub two-words : (words : List (List ℕ)) (a b d e : List ℕ) → length words ≡ 2 → a ≡ get_or words 0 d → b ≡ get_or words 1 e → words ≡ a ∷ b ∷ []
two-words [] a b d e size is js = absurd (omega (arith, size))
two-words (x ∷ []) a b d e size is js = absurd (omega (arith, size))
two-words (x ∷ y ∷ []) a b d e size is js = ap (λ w. w ∷ y ∷ []) (sym is) ∙ ap (λ w. a ∷ w ∷ []) (sym js)
two-words (x ∷ y ∷ z ∷ zs) a b d e size is js = absurd (omega (arith, size))

pub three-words : (words : List (List ℕ)) (a b c d e f : List ℕ) → length words ≡ 3 → a ≡ get_or words 0 d → b ≡ get_or words 1 e → c ≡ get_or words 2 f → words ≡ a ∷ b ∷ c ∷ []
three-words [] a b c d e f size is js ks = absurd (omega (arith, size))
three-words (x ∷ []) a b c d e f size is js ks = absurd (omega (arith, size))
three-words (x ∷ y ∷ []) a b c d e f size is js ks = absurd (omega (arith, size))
three-words (x ∷ y ∷ z ∷ []) a b c d e f size is js ks = ap (λ w. w ∷ y ∷ z ∷ []) (sym is) ∙ ap (λ w. a ∷ w ∷ z ∷ []) (sym js) ∙ ap (λ w. a ∷ b ∷ w ∷ []) (sym ks)
three-words (x ∷ y ∷ z ∷ u ∷ zs) a b c d e f size is js ks = absurd (omega (arith, size))

-- ---- words that are no options

-- one word asks for counts, or for nothing
pub none-of-one : (word : List ℕ) (file : Option (List ℕ)) (counts : Bool) → (word ≡ codes "--counts" → ⊥) → IsOption (word ∷ []) file counts → ⊥
none-of-one word None true other is = other (ap (λ ws. get_or ws 0 []) is.0)
none-of-one word None false other is = let e = ap (λ ws. length ws) is.0 in absurd (omega (arith, e))
none-of-one word (Some name) true other is = let e = ap (λ ws. length ws) is.0 in absurd (omega (arith, e))
none-of-one word (Some name) false other is = let e = ap (λ ws. length ws) is.0 in absurd (omega (arith, e))

-- two words name the capture that is written, or ask for nothing
pub none-of-two : (option word : List ℕ) (file : Option (List ℕ)) (counts : Bool) → (option ≡ codes "-w" → IsName word → ⊥) → IsOption (option ∷ word ∷ []) file counts → ⊥
none-of-two option word None true other is = let e = ap (λ ws. length ws) is.0 in absurd (omega (arith, e))
none-of-two option word None false other is = let e = ap (λ ws. length ws) is.0 in absurd (omega (arith, e))
none-of-two option word (Some name) true other is = let e = ap (λ ws. length ws) is.0 in absurd (omega (arith, e))
none-of-two option word (Some name) false other is =
    other (ap (λ ws. get_or ws 0 []) is.0) (subst (λ (w : List ℕ). IsName w) (sym (ap (λ ws. get_or ws 1 []) is.0)) is.1)

-- three words name it and ask for counts, or ask for nothing
pub none-of-three : (option word last : List ℕ) (file : Option (List ℕ)) (counts : Bool) → (option ≡ codes "-w" → IsName word → last ≡ codes "--counts" → ⊥) → IsOption (option ∷ word ∷ last ∷ []) file counts → ⊥
none-of-three option word last None true other is = let e = ap (λ ws. length ws) is.0 in absurd (omega (arith, e))
none-of-three option word last None false other is = let e = ap (λ ws. length ws) is.0 in absurd (omega (arith, e))
none-of-three option word last (Some name) false other is = let e = ap (λ ws. length ws) is.0 in absurd (omega (arith, e))
none-of-three option word last (Some name) true other is =
    other (ap (λ ws. get_or ws 0 []) is.0) (subst (λ (w : List ℕ). IsName w) (sym (ap (λ ws. get_or ws 1 []) is.0)) is.1) (ap (λ ws. get_or ws 2 []) is.0)

-- more words ask for nothing
pub none-of-more : (words : List (List ℕ)) (file : Option (List ℕ)) (counts : Bool) → 4 ≤ length words → IsOption words file counts → ⊥
none-of-more words None true more is = let e = ap (λ ws. length ws) is.0 in absurd (omega (arith, e, more))
none-of-more words None false more is = let e = ap (λ ws. length ws) is.0 in absurd (omega (arith, e, more))
none-of-more words (Some name) true more is = let e = ap (λ ws. length ws) is.0 in absurd (omega (arith, e, more))
none-of-more words (Some name) false more is = let e = ap (λ ws. length ws) is.0 in absurd (omega (arith, e, more))

-- ---- names, and then options

-- Where names stand before what is none, their number is that of the first words that are names.
count-of : (front behind : List (List ℕ)) (count : ℕ) → All IsName front → (IsName (get_or behind 0 []) → ⊥) → count ≤ length (front ++ behind) → All IsName (take count (front ++ behind))
    → (IsName (get_or (front ++ behind) count []) → ⊥) → count ≡ length front
count-of [] behind zero names end within all next = refl
count-of [] [] (suc count) names end within all next = absurd (omega (arith, within))
count-of [] (x ∷ xs) (suc count) names end within all next = absurd (end (All-head IsName x (take count xs) all))
count-of (f ∷ front) behind zero names end within all next = absurd (next (All-head IsName f front names))
count-of (f ∷ front) behind (suc count) names end within all next =
    ap (λ n. suc n) (count-of front behind count (All-tail IsName f front names) end (omega (arith, within)) (All-tail IsName f (take count (front ++ behind)) all) next)

-- options don't begin with a name
no-name : (file : Option (List ℕ)) (counts : Bool) → IsName (get_or (option_words file counts) 0 []) → ⊥
no-name None true name = name refl
no-name None false name = name
no-name (Some w) counts name = name refl

asked-count : (words : List (List ℕ)) (count : ℕ) (asked : Asked) → count ≤ length words → All IsName (take count words) → (IsName (get_or words count []) → ⊥) → IsAsked words asked
    → count ≡ length (asked.script ∷ asked.captures.items)
asked-count words count asked within all next is =
    let spelled = is.spelled in
    count-of (asked.script ∷ asked.captures.items) (option_words asked.file asked.counts) count is.names (no-name asked.file asked.counts) (subst (λ (ws : List (List ℕ)). count ≤ length ws) spelled within)
    (subst (λ (ws : List (List ℕ)). All IsName (take count ws)) spelled all) (λ name. next (subst (λ (ws : List (List ℕ)). IsName (get_or ws count [])) (sym spelled) name))

-- there are too few names
pub none-of-few : (words : List (List ℕ)) (count : ℕ) → count ≤ length words → All IsName (take count words) → (IsName (get_or words count []) → ⊥) → count < 2 → (asked : Asked) → IsAsked words asked → ⊥
none-of-few words count within all next few asked is =
    let size = asked-count words count asked within all next is in
    absurd (omega (arith, size, few, is.some))

-- what stands behind the names is no option
pub none-behind : (words rest : List (List ℕ)) (count : ℕ) → rest ≡ drop count words → count ≤ length words → All IsName (take count words) → (IsName (get_or words count []) → ⊥)
    → ((file : Option (List ℕ)) (counts : Bool) → IsOption rest file counts → ⊥) → (asked : Asked) → IsAsked words asked → ⊥
none-behind words rest count same within all next none asked is =
    let front = asked.script ∷ asked.captures.items in
    let size = asked-count words count asked within all next is in
    none asked.file asked.counts
    (same ∙ ap (λ n. drop n words) size ∙ ap (λ ws. drop (length front) ws) is.spelled ∙ drop-append_seam front (option_words asked.file asked.counts), is.file)

-- what stands behind the first words
pub rest-of : (words : List (List ℕ)) (count : ℕ) → take (length words - count) (drop count words) ≡ drop count words
rest-of words count = take_all (length words - count) (drop count words) (omega (arith, length-drop count words))

-- a front of two words or more, by its first
first-names : (words : List (List ℕ)) (count : ℕ) (a d : List ℕ) → 2 ≤ count → count ≤ length words → a ≡ get_or words 0 d → take count words ≡ a ∷ take (count - 1) (drop 1 words)
first-names [] count a d some within is = absurd (omega (arith, some, within))
first-names (x ∷ xs) zero a d some within is = absurd (omega (arith, some))
first-names (x ∷ xs) (suc count) a d some within is = ap (λ w. w ∷ take count xs) (sym is) ∙ ap (λ n. a ∷ take n xs) less where
  less : count ≡ suc count - 1
  less = omega arith

-- the words ask for this
pub asked-for : (words rest : List (List ℕ)) (count : ℕ) (first d : List ℕ) (asked : Asked) → 2 ≤ count → count ≤ length words → All IsName (take count words) → first ≡ get_or words 0 d → rest ≡ drop count words
    → asked.script ≡ first → asked.captures.items ≡ take (count - 1) (drop 1 words) → IsOption rest asked.file asked.counts → IsAsked words asked
asked-for words rest count first d asked some within all is same script captures option =
    let names : take count words ≡ asked.script ∷ asked.captures.items =
    first-names words count first d some within is ∙ ap (λ w. w ∷ take (count - 1) (drop 1 words)) (sym script) ∙ ap (λ ws. asked.script ∷ ws) (sym captures) in
    let size : length (take count words) ≡ length (asked.script ∷ asked.captures.items) = ap (λ ws. length ws) names in
    record {
      spelled = sym (take-append-drop count words) ∙ ap (λ ws. ws ++ drop count words) names ∙ ap (λ ws. (asked.script ∷ asked.captures.items) ++ ws) (sym same ∙ option.0);
      names = subst (λ (ws : List (List ℕ)). All IsName ws) names all;
      some = omega (arith, size, length-take count words, some, within);
      file = option.1;
    }
