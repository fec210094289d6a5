-- The words of a line are found again.
use Rattle.std.proofs.Common.{◌≡◌, ℕ, zero, suc, ◌+◌, ◌<◌, ◌≤◌, ◌^◌, Bool, true, false, List, [], ◌∷◌, ◌++◌, map, length, take, drop, get_or, refl, sym, ap, subst, ◌∙◌, append_assoc, arith}
use Rattle.std.specs.Prelude.{◌&&◌, All, decimal, codes}
use Rattle.std.specs.List.{list_all}
use Rattle.std.proofs.Math.Seq.{take-append_seam, drop-append_seam}
use Rattle.std.proofs.lemmas.Fmt.{decimal_digit}
use Rattle.std.proofs.lemmas.List.{drop_more}
use Rattle.std.proofs.lemmas.List.Elements.{All-head, All-tail, All-from_recursion}
use Rattle.spin_word.specs.declared.command.Command.{Command}
use Rattle.spin_word.specs.declared.command.Op.{Op}
use Rattle.spin_word.specs.declared.command.Op.TheVariants as op
use Rattle.spin_report.specs.declared.entry.Entry.{Entry}
use Rattle.spin_grammar.specs.Forms.{op_word}
use Rattle.spin_report.specs.Lines.{line_word, what_words, entry_line}
use Rattle.spin_report.proofs.PlainWords.{decimal_word}
use Rattle.spin_report.proofs.ReportLines.{entry_are_words}
use Rattle.spin_text.specs.Words.{Word, spaced}
use Rattle.spin_check.specs.Inner.Told.{is_plain, IsWord, Begins, TellsVerdict, conflict}

both : (x y : Bool) → (x && y) ≡ true → (x ≡ true) × (y ≡ true)
both true y h = (refl, h)
both false y h = absurd (cc (h))

-- where the first byte that isn't plain stands
pub word_ends : (word : Word) (byte : ℕ) (more : List ℕ) (n : ℕ) → IsWord word → is_plain byte ≡ false
    → n ≤ length (word ++ byte ∷ more) → ((k : ℕ) → k < n → is_plain (get_or (word ++ byte ∷ more) k 0) ≡ true)
    → (n < length (word ++ byte ∷ more) → is_plain (get_or (word ++ byte ∷ more) n 0) ≡ false) → n ≡ length word
word_ends [] byte more zero plain ends within before found = refl
word_ends [] byte more (suc n) plain ends within before found =
    absurd (let first : is_plain byte ≡ true = before 0 (omega arith) in cc (first, ends))
word_ends (w ∷ ws) byte more zero plain ends within before found =
    absurd (let first : is_plain w ≡ false = found (omega arith) in let p = both (is_plain w) (list_all is_plain ws) plain in cc (first, p.0))
word_ends (w ∷ ws) byte more (suc n) plain ends within before found =
    let p = both (is_plain w) (list_all is_plain ws) plain in
    ap suc (word_ends ws byte more n p.1 ends (omega (arith, within)) (λ k lt. before (suc k) (omega (arith, lt))) (λ lt. found (omega (arith, lt))))

pub word_split : (report word : List ℕ) (byte : ℕ) (more : List ℕ) (n : ℕ) → IsWord word → is_plain byte ≡ false → report ≡ word ++ byte ∷ more
    → n ≤ length report → ((k : ℕ) → k < n → is_plain (get_or report k 0) ≡ true) → (n < length report → is_plain (get_or report n 0) ≡ false)
    → (take n report ≡ word) × (drop n report ≡ byte ∷ more)
word_split report word byte more n plain ends is within before found =
    let at : n ≡ length word = word_ends word byte more n plain ends (subst (λ r. n ≤ length r) is within) (λ k lt. subst (λ r. is_plain (get_or r k 0) ≡ true) is (before k lt))
    (λ lt. subst (λ r. is_plain (get_or r n 0) ≡ false) is (found (subst (λ r. n < length r) (sym is) lt))) in
    ((λ i. take (at i) (is i)) ∙ take-append_seam word (byte ∷ more), (λ i. drop (at i) (is i)) ∙ drop-append_seam word (byte ∷ more))

-- an entry's line begins with its place and its lane
pub lane_stands : (report : List ℕ) (entry : Entry) → entry.lane < 10 → Begins report entry
    → (more : List ℕ) × (report ≡ decimal entry.place ++ 32 ∷ ((48 + entry.lane) ∷ more))
lane_stands report entry few begins =
    let behind = spaced (line_word entry.line entry.part ∷ what_words entry.part entry.what) in
    let lane : decimal entry.lane ≡ (48 + entry.lane) ∷ [] = decimal_digit entry.lane few in
    let tail = (behind ++ 10 ∷ []) ++ begins.0 in (
      tail,
      begins.1
          ∙ ap (λ x. (x ++ 10 ∷ []) ++ begins.0) (ap (λ l. decimal entry.place ++ 32 ∷ (l ++ behind)) lane)
          ∙ ap (λ x. x ++ begins.0) (append_assoc (decimal entry.place) (32 ∷ ((48 + entry.lane) ∷ behind)) (10 ∷ []))
          ∙ append_assoc (decimal entry.place) (32 ∷ ((48 + entry.lane) ∷ (behind ++ 10 ∷ []))) begins.0,
    )

spaced-append : (ws vs : List Word) → spaced (ws ++ vs) ≡ spaced ws ++ spaced vs
spaced-append [] vs = refl
spaced-append (w ∷ ws) vs = ap (λ x. (32 ∷ w) ++ x) (spaced-append ws vs) ∙ sym (append_assoc (32 ∷ w) (spaced ws) (spaced vs))

op_plain : (o : Op) → IsWord (op_word o)
op_plain op.Install = refl
op_plain op.Remove = refl
op_plain op.Replace = refl
op_plain op.Default = refl
op_plain op.NoDefault = refl

-- the words between the place and the cycle
abbrev pub before_cycle : Entry → Command → List Word
before_cycle entry command =
    decimal entry.lane ∷ line_word entry.line entry.part ∷ op_word command.op ∷ codes "refused" ∷ decimal 11 ∷ codes "conflict" ∷ []

-- the line of an entry with a conflict: six words stand between the place and the cycle
pub cycle_stands : (report : List ℕ) (cycle : List ℕ) → TellsVerdict report (conflict cycle)
    → (entry : Entry) × (words : List Word) × (more : List ℕ) × All IsWord words × (length words ≡ 6)
    × (report ≡ decimal entry.place ++ spaced words ++ (spaced (map decimal cycle) ++ 10 ∷ more))
cycle_stands report cycle tells =
    let entry = tells.0 in
    let command = tells.1 in
    let begins = tells.3 in
    let words = before_cycle entry command in
    let are : what_words entry.part entry.what ≡ op_word command.op ∷ codes "refused" ∷ decimal 11 ∷ codes "conflict" ∷ map decimal cycle = ap (what_words entry.part) tells.2 in
    let line : entry_line entry ≡ decimal entry.place ++ spaced (words ++ map decimal cycle) =
    ap (λ ws. decimal entry.place ++ spaced (decimal entry.lane ∷ line_word entry.line entry.part ∷ ws)) are in
    let cut : entry_line entry ≡ (decimal entry.place ++ spaced words) ++ spaced (map decimal cycle) =
    line ∙ ap (λ x. decimal entry.place ++ x) (spaced-append words (map decimal cycle)) ∙ sym (append_assoc (decimal entry.place) (spaced words) (spaced (map decimal cycle))) in
    let plain = entry_are_words entry in (
      entry,
      words,
      begins.0,
      All-from_recursion IsWord words (decimal_word entry.lane, (plain.1.1.0, (op_plain command.op, (refl, (decimal_word 11, (refl, tt)))))),
      refl,
      begins.1 ∙ ap (λ x. (x ++ 10 ∷ []) ++ begins.0) cut
          ∙ ap (λ x. x ++ begins.0) (append_assoc (decimal entry.place ++ spaced words) (spaced (map decimal cycle)) (10 ∷ []))
          ∙ append_assoc (decimal entry.place ++ spaced words) (spaced (map decimal cycle) ++ 10 ∷ []) begins.0
          ∙ ap (λ x. (decimal entry.place ++ spaced words) ++ x) (append_assoc (spaced (map decimal cycle)) (10 ∷ []) begins.0),
    )

-- ---- the numbers of a cycle

-- behind a space stands a number, and then what follows it
pub number_stands : (left more rest : List ℕ) (first : ℕ) (after : List ℕ) → rest ≡ first ∷ after → first ≡ 32 → rest ≡ spaced (map decimal left) ++ 10 ∷ more
    → (n : ℕ) × (others : List ℕ) × (byte : ℕ) × (tail : List ℕ) × (left ≡ n ∷ others) × (after ≡ decimal n ++ byte ∷ tail)
    × (is_plain byte ≡ false) × (byte ∷ tail ≡ spaced (map decimal others) ++ 10 ∷ more)
number_stands [] more rest first after split space is =
    absurd (let same : first ∷ after ≡ 10 ∷ more = sym split ∙ is in let head : first ≡ 10 = cc (same) in omega (arith, head, space))
number_stands (n ∷ []) more rest first after split space is =
    let whole : first ∷ after ≡ 32 ∷ ((decimal n ++ []) ++ 10 ∷ more) = sym split ∙ is in
    let tail : after ≡ (decimal n ++ []) ++ 10 ∷ more = cc (whole) in
    (n, [], 10, more, refl, tail ∙ append_assoc (decimal n) [] (10 ∷ more), refl, refl)
number_stands (n ∷ (m ∷ ns)) more rest first after split space is =
    let whole : first ∷ after ≡ 32 ∷ ((decimal n ++ spaced (map decimal (m ∷ ns))) ++ 10 ∷ more) = sym split ∙ is in
    let tail : after ≡ (decimal n ++ spaced (map decimal (m ∷ ns))) ++ 10 ∷ more = cc (whole) in
    (n, m ∷ ns, 32, (decimal m ++ spaced (map decimal ns)) ++ 10 ∷ more, refl, tail ∙ append_assoc (decimal n) (spaced (map decimal (m ∷ ns))) (10 ∷ more), refl, refl)

-- where no space stands, the numbers end
pub numbers_end : (left more rest : List ℕ) → (get_or rest 0 0 ≡ 32 → ⊥) → rest ≡ spaced (map decimal left) ++ 10 ∷ more → left ≡ []
numbers_end [] more rest other is = refl
numbers_end (n ∷ ns) more rest other is = absurd (other (ap (λ r. get_or r 0 0) is))

pub cycle_begins : (cycle more : List ℕ) → (byte : ℕ) × (tail : List ℕ) × (is_plain byte ≡ false) × (spaced (map decimal cycle) ++ 10 ∷ more ≡ byte ∷ tail)
cycle_begins [] more = (10, more, refl, refl)
cycle_begins (n ∷ ns) more = (32, (decimal n ++ spaced (map decimal ns)) ++ 10 ∷ more, refl, refl)

all_behind : {X : Type 0} (P : X → Type 0) (xs ys : List X) → All P (xs ++ ys) → All P ys
all_behind P [] ys h = h
all_behind P (x ∷ xs) ys h = all_behind P xs ys (All-tail P x (xs ++ ys) h)

pub low_here : (numbers left ns : List ℕ) (n : ℕ) (others : List ℕ) → ns ≡ numbers ++ left → left ≡ n ∷ others → All (λ m. m < 2 ^ 16) ns → n < 2 ^ 16
low_here numbers left ns n others is split low =
    All-head (λ m. m < 2 ^ 16) n others (all_behind (λ m. m < 2 ^ 16) numbers (n ∷ others) (subst (All (λ m. m < 2 ^ 16)) (is ∙ ap (λ l. numbers ++ l) split) low))

-- what follows words begins with a space, or is what stands behind them
pub spaced_begins : (words : List Word) (byte : ℕ) (more : List ℕ) → is_plain byte ≡ false → (b : ℕ) × (tail : List ℕ) × (is_plain b ≡ false) × (spaced words ++ byte ∷ more ≡ b ∷ tail)
spaced_begins [] byte more ends = (byte, more, ends, refl)
spaced_begins (w ∷ ws) byte more ends = (32, (w ++ spaced ws) ++ byte ∷ more, refl, refl)

-- one word more is passed
pub word_passed : (rest after result : List ℕ) (first : ℕ) (words : List Word) (p byte : ℕ) (more : List ℕ) → p < length words → All IsWord words → is_plain byte ≡ false
    → rest ≡ spaced (drop p words) ++ byte ∷ more → rest ≡ first ∷ after
    → ((word : Word) (b : ℕ) (tail : List ℕ) → IsWord word → is_plain b ≡ false → after ≡ word ++ b ∷ tail → result ≡ b ∷ tail) → result ≡ spaced (drop (p + 1) words) ++ byte ∷ more
word_passed rest after result first words p byte more lt plain ends is split passes =
    let word = get_or words p [] in
    let others = drop (p + 1) words in
    let next : drop p words ≡ word ∷ others = drop_more words p [] lt in
    let begins = spaced_begins others byte more ends in
    let whole : first ∷ after ≡ 32 ∷ ((word ++ spaced others) ++ byte ∷ more) = sym split ∙ is ∙ ap (λ ws. spaced ws ++ byte ∷ more) next in
    let tail : after ≡ (word ++ spaced others) ++ byte ∷ more = cc (whole) in
    passes word begins.0 begins.1 (plain p [] lt) begins.2 (tail ∙ append_assoc word (spaced others) (byte ∷ more) ∙ ap (λ t. word ++ t) begins.3) ∙ sym begins.3

-- a word that is left begins with a space
pub word_there : (rest : List ℕ) (words : List Word) (p byte : ℕ) (more : List ℕ) → p < length words → rest ≡ spaced (drop p words) ++ byte ∷ more → length rest ≡ 0 → ⊥
word_there rest words p byte more lt is none =
    let word = get_or words p [] in
    let next : drop p words ≡ word ∷ drop (p + 1) words = drop_more words p [] lt in
    let whole : length rest ≡ length (32 ∷ ((word ++ spaced (drop (p + 1) words)) ++ byte ∷ more)) = ap length (is ∙ ap (λ ws. spaced ws ++ byte ∷ more) next) in
    omega (arith, whole, none)
