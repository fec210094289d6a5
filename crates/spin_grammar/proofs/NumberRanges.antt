-- A number in its range, and what it leads to.
use Rattle.std.proofs.Common.{◌≡◌, ℕ, ◌<◌, ◌≤◌, ◌+◌, ◌⊎◌, inl, inr, false, Option, Some, None, Result, List, [], Ok, Err, refl, arith}
use Rattle.std.specs.Prelude.{replicate}
use Rattle.std.proofs.lemmas.Bool.Decides.{nat_tests}
use Rattle.spin_grammar.specs.declared.cause.Cause.TheVariants as cause
use Rattle.spin_grammar.specs.declared.fault.Fault.{Fault}
use Rattle.spin_grammar.specs.Spelling.{number, within, greatest}
use Rattle.spin_grammar.specs.Grammar.{Want, Numeral, Number, Counted, Bindings, Rising, rising, accepts, may_end}
use Rattle.spin_grammar.specs.Inner.Reading.{Opens, ReadsNumber}
use Rattle.spin_grammar.proofs.ReadingParts.{leads_word, fails_word, fails_end}

pub narrower : (low high n : ℕ) → high ≤ greatest → (o : Option ℕ) → Some n ≡ within 0 greatest o → low ≤ n → n ≤ high → within low high o ≡ Some n
narrower low high n h None e l u = absurd cc
narrower low high n h (Some m) e l u = grind (arith, nat_tests, e)

pub out_of_range : (low high : ℕ) → high ≤ greatest → (o : Option ℕ) → None ≡ within 0 greatest o → within low high o ≡ None
out_of_range low high h None e = refl
out_of_range low high h (Some m) e = grind (arith, nat_tests, e)

pub outside : (low high n : ℕ) → (o : Option ℕ) → Some n ≡ within 0 greatest o → (n < low) ⊎ (high < n) → within low high o ≡ None
outside low high n None e l = absurd cc
outside low high n (Some m) e (inl l) = grind (arith, nat_tests, e)
outside low high n (Some m) e (inr u) = grind (arith, nat_tests, e)

-- what is wanted takes the numbers in this range, and others are wanted behind each
record IsNumbered (want : Want) (low high : ℕ) (next : ℕ → List Want) : Type 0 where
  ends : may_end want ≡ false
  takes : (w : List ℕ) (n : ℕ) → within low high (number w) ≡ Some n → Ok (Numeral n, next n) ≡ accepts want w
  stops : (w : List ℕ) → within low high (number w) ≡ None → Err cause.Number ≡ accepts want w

numbered : (want : Want) (low high : ℕ) (next : ℕ → List Want) → IsNumbered want low high next
    → (r : Result ℕ Fault) (old new : List (List ℕ)) → ReadsNumber low high r old new → Opens (λ n. (Numeral n, next n)) want r old new
numbered want low high next i (Ok n) old new h = leads_word want h.0 (Numeral n) (next n) old new h.1 (i.takes h.0 n h.2)
numbered want low high next i (Err f) old new (inl h) = rw h.0 (fails_end want old h.1 i.ends)
numbered want low high next i (Err f) old new (inr h) = rw h.0 (fails_word want h.1 cause.Number old new (i.stops h.1 h.3) h.2)

number_next : (low high : ℕ) → IsNumbered (Number low high) low high (λ n. [])
unfolding accepts
number_next low high = record { ends = refl; takes = λ w n e. rw e refl; stops = λ w e. rw e refl }

count_next : (low high : ℕ) (want : Want) → IsNumbered (Counted low high want) low high (λ n. replicate n want)
unfolding accepts
count_next low high want = record { ends = refl; takes = λ w n e. rw e refl; stops = λ w e. rw e refl }

bindings_next : IsNumbered Bindings 0 4 (λ n. rising 0 n)
unfolding accepts
bindings_next = record { ends = refl; takes = λ w n e. rw e refl; stops = λ w e. rw e refl }

binding_next : (low more : ℕ) → IsNumbered (Rising low more) low 4096 (λ n. rising (n + 1) more)
unfolding accepts
binding_next low more = record { ends = refl; takes = λ w n e. rw e refl; stops = λ w e. rw e refl }

pub reads_number : (low high : ℕ) (r : Result ℕ Fault) (old new : List (List ℕ)) → ReadsNumber low high r old new → Opens (λ n. (Numeral n, [])) (Number low high) r old new
reads_number low high = numbered (Number low high) low high (λ n. []) (number_next low high)

pub reads_count : (low high : ℕ) (want : Want) (r : Result ℕ Fault) (old new : List (List ℕ))
    → ReadsNumber low high r old new → Opens (λ n. (Numeral n, replicate n want)) (Counted low high want) r old new
reads_count low high want = numbered (Counted low high want) low high (λ n. replicate n want) (count_next low high want)

pub reads_bindings : (r : Result ℕ Fault) (old new : List (List ℕ)) → ReadsNumber 0 4 r old new → Opens (λ n. (Numeral n, rising 0 n)) Bindings r old new
reads_bindings = numbered Bindings 0 4 (λ n. rising 0 n) bindings_next

pub reads_binding : (low more : ℕ) (r : Result ℕ Fault) (old new : List (List ℕ)) → ReadsNumber low 4096 r old new → Opens (λ n. (Numeral n, rising (n + 1) more)) (Rising low more) r old new
reads_binding low more = numbered (Rising low more) low 4096 (λ n. rising (n + 1) more) (binding_next low more)
