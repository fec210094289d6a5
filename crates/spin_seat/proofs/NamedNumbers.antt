-- What valid commands name is named under the numbers before a renewal.
use Rattle.std.proofs.Common.{◌≡◌, ℕ, zero, suc, ◌+◌, ◌<◌, ◌≤◌, ◌⊎◌, List, [], ◌∷◌, length, inl, inr, arith}
use Rattle.std.specs.Prelude.{IsTrue}
use Rattle.std.specs.List.{list_all}
use Rattle.std.proofs.lemmas.Bool.{cases_eq, cases_lt}
use Rattle.spin_word.specs.declared.command.TheConstants.{MAX_PLACE}
use Rattle.spin_word.specs.Commands.{binding_or_none, bindings_or_none, no_number}
use Rattle.spin_word.proofs.RowFields.{is_wide}
use Rattle.spin_table.specs.Renamings.{StayNamed}
use Rattle.spin_table.specs.Renewals.{is_live_in, live_numbers, old_number}
use Rattle.spin_table.proofs.RenewedNumbers.{AreNumbers, are_numbers, high_number, old_rises}
use Rattle.spin_seat.specs.Answers.{Exchange, command, deed}
use Rattle.spin_seat.specs.Renewals.{IsValid, NamesStay, ValidCommandsStayNamed}

-- a number was at most so far past the place
old_low : (place : ℕ) (live : List ℕ) → AreNumbers place live → (n : ℕ) → old_number live place n ≤ place + n
old_low place live are n =
    elim (cases_lt (length live) n) [
      | inl high ↦ let is = high_number place live are n high in omega arith
      | inr low ↦
          let up = old_rises place live are n (length live + 1) (omega arith) in
          let top = high_number place live are (length live + 1) (omega arith) in
          omega arith
    ]

one_named : (to : ℕ → ℕ) (place n : ℕ) → ((m : ℕ) → to m ≤ place + m) → place + MAX_PLACE < no_number → IsTrue (binding_or_none n)
    → (n ≡ no_number) ⊎ (to n < no_number)
one_named to place n low room valid =
    elim (cases_eq n no_number) [
      | inl none ↦ inl none
      | inr some ↦ let few = binding_few n valid some in let up = low n in inr (omega arith)
    ]
  where
    binding_few : (n : ℕ) → IsTrue (binding_or_none n) → (n ≡ no_number → ⊥) → n ≤ MAX_PLACE
    binding_few n valid some = grind arith

all_named : (to : ℕ → ℕ) (place : ℕ) (ns : List ℕ) → ((m : ℕ) → to m ≤ place + m) → place + MAX_PLACE < no_number → IsTrue (list_all binding_or_none ns)
    → StayNamed to ns
all_named to place [] low room valid k d h = absurd (omega arith)
all_named to place (n ∷ ns) low room valid zero d h = one_named to place n low room (grind arith)
all_named to place (n ∷ ns) low room valid (suc k) d h = all_named to place ns low room (grind arith) k d (omega arith)

are_bindings : (ns : List ℕ) → IsTrue (bindings_or_none ns) → IsTrue (list_all binding_or_none ns)
are_bindings ns valid = grind arith

said_named : (to : ℕ → ℕ) (place : ℕ) → ((m : ℕ) → to m ≤ place + m) → place + MAX_PLACE < no_number → (said : Exchange) → IsValid said → NamesStay to said
said_named to place low room (command c verdict) valid =
    let wide = is_wide c valid in
    (all_named to place c.before low room (are_bindings c.before wide.1), all_named to place c.after low room (are_bindings c.after wide.2))
said_named to place low room (deed asked reply) valid = tt

pub valid_commands_stay_named : ValidCommandsStayNamed
valid_commands_stay_named s answers room valid k answer inside =
    let old : ℕ → ℕ = old_number (live_numbers s) s.place in
    said_named old s.place (old_low s.place (live_numbers s) (are_numbers s.place (is_live_in s))) room _ (valid k answer inside)
