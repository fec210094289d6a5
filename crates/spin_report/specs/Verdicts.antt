-- The words of a command and of what became of it.
use Rattle.std.specs.Prelude.{ℕ, List, [], ◌∷◌, map, decimal, codes}
use Rattle.spin_table.specs.declared.refusal.Refusal.{Refusal}
use Rattle.spin_table.specs.declared.refusal.Refusal.TheVariants as refusal
use Rattle.spin_table.specs.declared.refusal.Verdicted.{Verdicted}
use Rattle.spin_table.specs.declared.refusal.Verdicted.TheVariants as verdicted
use Rattle.spin_text.specs.Words.{Word}

-- the number by which a report tells a refusal, from 1 to 12, and its name
abbrev pub refusal_told : Refusal → ℕ × Word
refusal_told refusal.UnknownEvent = (1, codes "unknown_event")
refusal_told refusal.UnknownModule = (2, codes "unknown_module")
refusal_told refusal.UnknownHandler = (3, codes "unknown_handler")
refusal_told refusal.UnknownGuard = (4, codes "unknown_guard")
refusal_told refusal.UnknownBinding = (5, codes "unknown_binding")
refusal_told refusal.WrongType = (6, codes "wrong_type")
refusal_told refusal.Downward = (7, codes "downward")
refusal_told refusal.WrongMode = (8, codes "wrong_mode")
refusal_told (refusal.Denied rule) = (9, codes "denied")
refusal_told refusal.TooMany = (10, codes "too_many")
refusal_told (refusal.Conflict cycle) = (11, codes "conflict")
refusal_told (refusal.ForcedMode rule) = (12, codes "forced_mode")

-- the rule that a refusal names, or the numbers of its cycle
abbrev pub refusal_numbers : Refusal → List ℕ
refusal_numbers (refusal.Denied rule) = rule ∷ []
refusal_numbers (refusal.Conflict cycle) = cycle
refusal_numbers (refusal.ForcedMode rule) = rule ∷ []
refusal_numbers r = []

-- a refusal's number and name, and then the numbers that it names
abbrev pub refusal_words : Refusal → List Word
refusal_words r = decimal (refusal_told r).0 ∷ (refusal_told r).1 ∷ map decimal (refusal_numbers r)

-- the words of a verdict: `ok`, or `refused` and which refusal it is
abbrev pub verdict_words : Verdicted → List Word
verdict_words verdicted.Accepted = codes "ok" ∷ []
verdict_words (verdicted.Refused r) = codes "refused" ∷ refusal_words r
