-- No text is both a script and a capture: the bytes of a script are at most 126, and a magic has a greater one.
use Rattle.std.proofs.Common.{◌≡◌, ◌≤◌, ◌<◌, ◌+◌, ◌-◌, ℕ, zero, suc, Bool, true, false, cond, ◌&&◌, eqb, nat_le, nat_lt, List, [], ◌∷◌, length, take, None, refl, ap, subst, ◌∙◌, arith, inl, inr}
use Rattle.std.specs.Prelude.{Result, Ok, Err, slice_index}
use Rattle.std.specs.Bool.{MatchBool}
use Rattle.std.specs.List.{list_all, slice_split, onto_first, AllByRecursion}
use Rattle.std.specs.Str.Lines.{lines, lines_of_parts, strip_carriage_return}
use Rattle.std.proofs.lemmas.Bool.{cases_Bool, cond-true, cond-false}
use Rattle.std.proofs.lemmas.Bool.Decides.{nat_tests}
use Rattle.std.proofs.lemmas.List.Splits.{length-slice_split}
use Rattle.spin_pcap.specs.declared.fault.PcapFault.{PcapFault}
use Rattle.spin_pcap.specs.declared.fault.PcapFault.TheVariants as fault
use Rattle.spin_pcap.specs.declared.order.Order.{Order}
use Rattle.spin_pcap.specs.declared.order.Order.TheVariants as order
use Rattle.spin_pcap.specs.Captures.{is_magic, ordered_number, order_of, fields_of, header_of}
use Rattle.spin_grammar.specs.declared.cause.Cause.TheVariants as cause
use Rattle.spin_grammar.specs.Words.{words}
use Rattle.spin_script.specs.Language.{is_allowed, words_head, head, Passes, ComesTo, IsScript, most_bytes}
use Rattle.spin_script.specs.States.{NativeData, ScriptData, ScriptState, start}

-- ---- the bytes of a script

abbrev small : ℕ → Bool
small b = nat_le b 126

abbrev is_lf : ℕ → Bool
is_lf b = eqb b 10

abbrev AreSmall : List ℕ → Type 0
AreSmall bs = list_all small bs ≡ true

abbrev AreAllowed : List ℕ → Type 0
AreAllowed bs = list_all is_allowed bs ≡ true

first_of_two : (a b : Bool) → (a && b) ≡ true → a ≡ true
first_of_two true b h = refl
first_of_two false b h = h

second_of_two : (a b : Bool) → (a && b) ≡ true → b ≡ true
second_of_two true b h = h
second_of_two false b h = absurd (let bad : false ≡ true = h in cc)

two : (a b : Bool) → a ≡ true → b ≡ true → (a && b) ≡ true
two a b x y = rw (x, y) refl

small_byte : (b : ℕ) → is_allowed b ≡ true → small b ≡ true
small_byte b h = grind (arith, nat_tests, h)

allowed_small : (bs : List ℕ) → AreAllowed bs → AreSmall bs
allowed_small [] h = refl
allowed_small (b ∷ bs) h =
    two (small b) (list_all small bs) (small_byte b (first_of_two (is_allowed b) (list_all is_allowed bs) h)) (allowed_small bs (second_of_two (is_allowed b) (list_all is_allowed bs) h))

return_small : (b : ℕ) → eqb b 13 ≡ true → small b ≡ true
return_small b h = grind (arith, nat_tests, h)

feed_small : (b : ℕ) → is_lf b ≡ true → small b ≡ true
feed_small b h = grind (arith, nat_tests, h)

last_small : (l : List ℕ) (n : ℕ) → length l ≡ n + 1 → eqb (slice_index l n) 13 ≡ true → AreAllowed (take n l) → AreSmall l
last_small [] n e last h = refl
last_small (b ∷ []) zero e last h = two (small b) true (return_small b last) refl
last_small (b ∷ c ∷ bs) zero e last h = absurd (omega (arith, e))
last_small (b ∷ bs) (suc n) e last h =
    two (small b) (list_all small bs) (small_byte b (first_of_two (is_allowed b) (list_all is_allowed (take n bs)) h))
    (last_small bs n (omega (arith, e)) last (second_of_two (is_allowed b) (list_all is_allowed (take n bs)) h))

stripped_small : (l : List ℕ) → AreAllowed (strip_carriage_return l) → AreSmall l
stripped_small [] h = refl
stripped_small (b ∷ bs) h =
    elim (cases_Bool (eqb (slice_index (b ∷ bs) (length (b ∷ bs) - 1)) 13)) [
      | inl is ↦ last_small (b ∷ bs) (length (b ∷ bs) - 1) (omega arith) is
          (subst AreAllowed (cond-true (eqb (slice_index (b ∷ bs) (length (b ∷ bs) - 1)) 13) (take (length (b ∷ bs) - 1) (b ∷ bs)) (b ∷ bs) is) h)
      | inr other ↦ allowed_small (b ∷ bs) (subst AreAllowed (cond-false (eqb (slice_index (b ∷ bs) (length (b ∷ bs) - 1)) 13) (take (length (b ∷ bs) - 1) (b ∷ bs)) (b ∷ bs) other) h)
    ]

not_zero : (n : ℕ) → 0 < n → eqb n 0 ≡ false
not_zero n h = grind (arith, nat_tests, h)

-- the last part, which is a line where it isn't empty
one_small : (x : List ℕ) → AllByRecursion AreAllowed (lines_of_parts (x ∷ [])) → AreSmall x
one_small [] h = refl
one_small (b ∷ bs) h =
    allowed_small (b ∷ bs) (subst (λ (ls : List (List ℕ)). AllByRecursion AreAllowed ls) (cond-false (eqb (length (b ∷ bs)) 0) [] ((b ∷ bs) ∷ []) (not_zero (length (b ∷ bs)) (omega arith))) h).0

parts_small : (ps : List (List ℕ)) → AllByRecursion AreAllowed (lines_of_parts ps) → AllByRecursion AreSmall ps
parts_small [] h = tt
parts_small (x ∷ []) h = (one_small x h, tt)
parts_small (x ∷ y ∷ more) h = (stripped_small x h.0, parts_small (y ∷ more) h.1)

onto_small : (b : ℕ) (ps : List (List ℕ)) → AllByRecursion AreSmall (cond (is_lf b) ([] ∷ ps) (onto_first b ps)) → 0 < length ps → (small b ≡ true) × AllByRecursion AreSmall ps
onto_small b [] h some = absurd (omega (arith, some))
onto_small b (p ∷ ps) h some =
    elim (cases_Bool (is_lf b)) [
      | inl is ↦ (feed_small b is, (subst (λ (ls : List (List ℕ)). AllByRecursion AreSmall ls) (cond-true (is_lf b) ([] ∷ p ∷ ps) ((b ∷ p) ∷ ps) is) h).1)
      | inr other ↦ (let all = subst (λ (ls : List (List ℕ)). AllByRecursion AreSmall ls) (cond-false (is_lf b) ([] ∷ p ∷ ps) ((b ∷ p) ∷ ps) other) h in
          (first_of_two (small b) (list_all small p) all.0, (second_of_two (small b) (list_all small p) all.0, all.1)))
    ]

text_small : (bs : List ℕ) → AllByRecursion AreSmall (slice_split is_lf bs) → AreSmall bs
text_small [] h = refl
text_small (b ∷ bs) h =
    let parts = onto_small b (slice_split is_lf bs) h (omega (arith, length-slice_split is_lf bs)) in
    two (small b) (list_all small bs) parts.0 (text_small bs parts.1)

head_allowed : (natives : NativeData) (s t : ScriptState) (at : ℕ) (line : List ℕ) → Passes natives s at (head s line) t → AreAllowed line
unfolding head
head_allowed natives s t at line passes =
    elim (cases_Bool (list_all is_allowed line)) [
      | inl is ↦ is
      | inr other ↦ absurd (subst (λ h. Passes natives s at h t) (cond-false (list_all is_allowed line) (words_head s (words line)) (Err cause.NotAscii) other) passes)
    ]

lines_allowed : (natives : NativeData) (s : ScriptState) (at : ℕ) (ls : List (List ℕ)) (script : ScriptData) → ComesTo natives s at ls (Ok script) → AllByRecursion AreAllowed ls
lines_allowed natives s at [] script comes = tt
lines_allowed natives s at (line ∷ more) script (inl passes) =
    (head_allowed natives s passes.0 at line passes.1, lines_allowed natives passes.0 (at + 1) more script passes.2)
lines_allowed natives s at (line ∷ more) script (inr refused) = absurd (let bad : Ok script ≡ Err (at, refused.0) = refused.2 in cc)

small_enough : (b : Bool) (X Y : Type 0) → (X → ⊥) → MatchBool b X Y → Y
small_enough true X Y never h = absurd (never h)
small_enough false X Y never h = h

script_small : (natives : NativeData) (text : List ℕ) (script : ScriptData) → IsScript natives text (Ok script) → AreSmall text
script_small natives text script is =
    let comes : ComesTo natives start 1 (lines text) (Ok script) =
    small_enough (nat_lt most_bytes (length text)) (Ok script ≡ Err (0, cause.TooLarge)) (ComesTo natives start 1 (lines text) (Ok script)) (λ e. cc) is in
    text_small text (parts_small (slice_split is_lf text) (lines_allowed natives start 1 (lines text) script comes))

-- ---- the magic of a capture

at_most : (bs : List ℕ) (k : ℕ) → AreSmall bs → slice_index bs k ≤ 126
at_most [] zero h = omega arith
at_most [] (suc k) h = omega arith
at_most (b ∷ bs) zero h = let this : small b ≡ true = first_of_two (small b) (list_all small bs) h in grind (arith, nat_tests, this)
at_most (b ∷ bs) (suc k) h = at_most bs k (second_of_two (small b) (list_all small bs) h)

not_magic : (n : ℕ) → n ≤ 2122219134 → is_magic n ≡ false
not_magic n h = grind (arith, nat_tests, h)

big_small : (bs : List ℕ) → AreSmall bs → ordered_number order.Big 4 bs ≤ 2122219134
big_small bs h = omega (arith, at_most bs 0 h, at_most bs 1 h, at_most bs 2 h, at_most bs 3 h)

little_small : (bs : List ℕ) → AreSmall bs → ordered_number order.Little 4 bs ≤ 2122219134
little_small bs h = omega (arith, at_most bs 0 h, at_most bs 1 h, at_most bs 2 h, at_most bs 3 h)

no_order : (bs : List ℕ) → AreSmall bs → order_of bs ≡ None
no_order bs h = rw (not_magic (ordered_number order.Big 4 bs) (big_small bs h), not_magic (ordered_number order.Little 4 bs) (little_small bs h)) refl

err_not_ok : (wrong : PcapFault) (way : Order) (r : Result Order PcapFault) → r ≡ Err wrong → r ≡ Ok way → ⊥
err_not_ok wrong way r a b = cc

no_header : (bs : List ℕ) (way : Order) → AreSmall bs → header_of bs ≡ Ok way → ⊥
no_header bs way h is =
    elim (cases_Bool (nat_lt (length bs) 24)) [
      | inl short ↦ err_not_ok fault.Short way (header_of bs) (cond-true (nat_lt (length bs) 24) (Err fault.Short) (fields_of (order_of bs) bs) short) is
      | inr long ↦ err_not_ok fault.BadMagic way (header_of bs) (cond-false (nat_lt (length bs) 24) (Err fault.Short) (fields_of (order_of bs) bs) long ∙ ap (λ o. fields_of o bs) (no_order bs h)) is
    ]

-- no script has the header of a capture
pub script_no_capture : (natives : NativeData) (text : List ℕ) (script : ScriptData) (way : Order) → IsScript natives text (Ok script) → header_of text ≡ Ok way → ⊥
script_no_capture natives text script way is header = no_header text way (script_small natives text script is) header
