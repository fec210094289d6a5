-- What the words of an entry's line tell: its place, lane, line and part, and the cycle of a command's verdict.
use Rattle.std.proofs.Common.{◌≡◌, ◌<◌, ◌^◌, ℕ, zero, suc, true, false, eqb, cond, List, [], ◌∷◌, map, refl, sym, ap, ◌∙◌, arith}
use Rattle.std.specs.Prelude.{All, decimal}
use Rattle.std.specs.List.{slice_split}
use Rattle.std.specs.Str.{all_ascii_digits}
use Rattle.std.specs.Str.Parse.{digits_value}
use Rattle.std.proofs.lemmas.Bool.Decides.{nat_tests}
use Rattle.std.proofs.lemmas.List.Splits.{slice_split_at, slice_split_none}
use Rattle.std.proofs.lemmas.List.Elements.{All-head, All-tail, All-from_recursion}
use Rattle.std.proofs.lemmas.Fmt.{decimal_injective, digits_value-decimal}
use Rattle.std.proofs.lemmas.Str.Parse.{IsNumeralModel, numerals_by_value, tells_all_ascii_digits}
use Rattle.spin_table.specs.declared.refusal.Refusal.{Refusal}
use Rattle.spin_table.specs.declared.refusal.Refusal.TheVariants as refusal
use Rattle.spin_table.specs.declared.refusal.Verdicted.{Verdicted}
use Rattle.spin_table.specs.declared.refusal.Verdicted.TheVariants as verdicted
use Rattle.spin_table.specs.Laws.{cause_of, without_cycle}
use Rattle.spin_report.specs.declared.entry.Entry.{Entry}
use Rattle.spin_text.specs.Words.{Word}
use Rattle.spin_report.specs.Verdicts.{refusal_numbers, verdict_words}
use Rattle.spin_report.specs.Lines.{what_words, line_word, entry_line}
use Rattle.spin_report.specs.Laws.{cycle_of, cycle_in, HasNumbers}
use Rattle.spin_report.proofs.PlainWords.{IsDigit, each_so, decimal_digits, same_words}
use Rattle.spin_report.proofs.ReportLines.{entry_words, entry_are_words}

-- ---- line and part

not_dot : (b : ℕ) → IsDigit b → eqb b 46 ≡ false
not_dot b h = grind (arith, nat_tests, h.0, h.1)

no_dot : (n : ℕ) → All (λ b. eqb b 46 ≡ false) (decimal n)
no_dot n = All-from_recursion _ (decimal n) (each_so IsDigit (λ b. eqb b 46 ≡ false) not_dot (decimal n) (decimal_digits n))

not_zero : (p : ℕ) → eqb (suc p) 0 ≡ false
not_zero p = grind (arith, nat_tests)

dotted : (l p : ℕ) → slice_split (λ b. eqb b 46) (line_word l p) ≡ cond (eqb p 0) (decimal l ∷ []) (decimal l ∷ decimal p ∷ [])
dotted l zero = slice_split_none (λ b. eqb b 46) (decimal l) (no_dot l)
dotted l (suc p) =
    rw (not_zero p) (slice_split_at (λ b. eqb b 46) (decimal l) 46 (decimal (suc p)) (no_dot l) refl
    ∙ ap (λ (x : List Word). decimal l ∷ x) (slice_split_none (λ b. eqb b 46) (decimal (suc p)) (no_dot (suc p))))

numbered : (l p m q : ℕ) → l < 2 ^ 64 → p < 2 ^ 64 → m < 2 ^ 64 → q < 2 ^ 64
    → cond (eqb p 0) (decimal l ∷ []) (decimal l ∷ decimal p ∷ []) ≡ cond (eqb q 0) (decimal m ∷ []) (decimal m ∷ decimal q ∷ []) → (l ≡ m) × (p ≡ q)
numbered l zero m zero a b c d e = (decimal_injective l m a c (cc), refl)
numbered l zero m (suc q) a b c d e = absurd (cc (not_zero q))
numbered l (suc p) m zero a b c d e = absurd (cc (not_zero p))
numbered l (suc p) m (suc q) a b c d e =
    let same : decimal l ∷ decimal (suc p) ∷ [] ≡ decimal m ∷ decimal (suc q) ∷ [] = rw (not_zero p, not_zero q) at e in
    (decimal_injective l m a c (cc), decimal_injective (suc p) (suc q) b d (cc))

-- ---- the first words of a line

abbrev first : List Word → Word
first [] = []
first (w ∷ ws) = w

abbrev rest : List Word → List Word
rest [] = []
rest (w ∷ ws) = ws

-- what two entries with one line have in common
pub record SameHead (e f : Entry) : Type 0 where
  pub place : e.place ≡ f.place
  pub lane : e.lane ≡ f.lane
  pub line : e.line ≡ f.line
  pub part : e.part ≡ f.part
  pub words : what_words e.part e.what ≡ what_words f.part f.what

pub same_head : (e f : Entry) → HasNumbers e → HasNumbers f → entry_line e ≡ entry_line f → SameHead e f
same_head e f h k same =
    let b : entry_words e ≡ entry_words f = same_words (decimal e.place) (decimal f.place) (rest (entry_words e)) (rest (entry_words f)) (entry_are_words e) (entry_are_words f) same in
    let line : line_word e.line e.part ≡ line_word f.line f.part = ap (λ (x : List Word). first (rest (rest x))) b in
    let n = numbered e.line e.part f.line f.part h.line h.part k.line k.part (sym (dotted e.line e.part) ∙ ap (slice_split (λ b. eqb b 46)) line ∙ dotted f.line f.part) in
    record {
      place = decimal_injective e.place f.place h.place k.place (ap first b);
      lane = decimal_injective e.lane f.lane h.lane k.lane (ap (λ (x : List Word). first (rest x)) b);
      line = n.0;
      part = n.1;
      words = ap (λ (x : List Word). rest (rest (rest x))) b;
    }

-- ---- the cycle of a verdict, read back from its words

own : IsNumeralModel (λ ds. all_ascii_digits ds ≡ true) (digits_value 10)
own = numerals_by_value _ tells_all_ascii_digits

numbers_back : (ns : List ℕ) → All (λ n. n < 2 ^ 64) ns → map (digits_value 10) (map decimal ns) ≡ ns
numbers_back [] h = refl
numbers_back (n ∷ ns) h =
    let one = digits_value-decimal own n (All-head (λ n. n < 2 ^ 64) n ns h) in
    let more = numbers_back ns (All-tail (λ n. n < 2 ^ 64) n ns h) in
    λ i. one i ∷ more i

-- the refusal of that cause, its cycle read from these words
abbrev refusal_from : Refusal → List Word → Refusal
refusal_from (refusal.Conflict cycle) ws = refusal.Conflict (map (digits_value 10) ws)
refusal_from other ws = other

refusal_back : (r : Refusal) → All (λ n. n < 2 ^ 64) (cycle_of r) → refusal_from (cause_of r) (map decimal (refusal_numbers r)) ≡ r
refusal_back refusal.UnknownEvent h = refl
refusal_back refusal.UnknownModule h = refl
refusal_back refusal.UnknownHandler h = refl
refusal_back refusal.UnknownGuard h = refl
refusal_back refusal.UnknownBinding h = refl
refusal_back refusal.WrongType h = refl
refusal_back refusal.Downward h = refl
refusal_back refusal.WrongMode h = refl
refusal_back (refusal.Denied rule) h = refl
refusal_back refusal.TooMany h = refl
refusal_back (refusal.Conflict cycle) h = ap (λ (ns : List ℕ). refusal.Conflict ns) (numbers_back cycle h)
refusal_back (refusal.ForcedMode rule) h = refl

-- what is known of a verdict but for its cycle, and its words, tell the verdict
pub same_verdict : (v w : Verdicted) → without_cycle v ≡ without_cycle w → All (λ n. n < 2 ^ 64) (cycle_in v) → All (λ n. n < 2 ^ 64) (cycle_in w) → verdict_words v ≡ verdict_words w → v ≡ w
same_verdict verdicted.Accepted verdicted.Accepted cause h k words = refl
same_verdict verdicted.Accepted (verdicted.Refused q) cause h k words = absurd (cc (cause))
same_verdict (verdicted.Refused r) verdicted.Accepted cause h k words = absurd (cc (cause))
same_verdict (verdicted.Refused r) (verdicted.Refused q) cause h k words =
    let why : cause_of r ≡ cause_of q = cc (cause) in
    let told : map decimal (refusal_numbers r) ≡ map decimal (refusal_numbers q) = ap (λ (x : List Word). rest (rest (rest x))) words in
    let same : r ≡ q = sym (refusal_back r h) ∙ (λ i. refusal_from (why i) (told i)) ∙ refusal_back q k in
    ap (λ (x : Refusal). verdicted.Refused x) same
