-- What words ask for is one thing.
use Rattle.std.proofs.Common.{◌≡◌, ℕ, Option, Some, None, List, [], ◌∷◌, sym, ap, ◌∙◌, codes}
use Rattle.std.specs.Prelude.{bytes_eq, if◌then◌else◌}
use Rattle.spin_args.specs.declared.words.Asked.{Asked}
use Rattle.spin_args.specs.declared.words.Asked.TheVariants.{Run, Gen, Check, Join, Vm}
use Rattle.spin_args.specs.Inner.Parsing.{gen_by, number_by}
use Rattle.spin_args.specs.Words.{IsSpelled}

-- what the words behind `run` ask for
abbrev run_of : List (List ℕ) → Option Asked
run_of (script ∷ []) = Some (Run script None)
run_of (script ∷ packets ∷ []) = Some (Run script (Some packets))
run_of other = None

-- what the words behind `gen` ask for
abbrev gen_of : List (List ℕ) → Option Asked
gen_of (word ∷ []) = number_by (Some word)
gen_of other = None

-- what the words behind `check` ask for
abbrev check_of : List (List ℕ) → Option Asked
check_of (script ∷ report ∷ []) = Some (Check script report None)
check_of (script ∷ report ∷ packets ∷ []) = Some (Check script report (Some packets))
check_of other = None

-- what the words behind `join` ask for
abbrev join_of : List (List ℕ) → Option Asked
join_of (script ∷ packets ∷ []) = Some (Join script packets)
join_of other = None

-- what the words behind `vm` ask for
abbrev vm_of : List (List ℕ) → Option Asked
vm_of (script ∷ trace ∷ []) = Some (Vm script trace)
vm_of other = None

-- what the words ask for, by the first
unfoldable pub asked_of : List (List ℕ) → Option Asked
asked_of [] = None
asked_of (word ∷ names) =
    if bytes_eq (codes "run") word then run_of names
    else if bytes_eq (codes "gen") word then gen_of names
    else if bytes_eq (codes "check") word then check_of names
    else if bytes_eq (codes "join") word then join_of names
    else if bytes_eq (codes "vm") word then vm_of names
    else None

-- words of each form are read as what they say
pub read_back : (words : List (List ℕ)) (asked : Asked) → IsSpelled words asked → asked_of words ≡ Some asked
unfolding asked_of
read_back words (Run script None) is = ap asked_of is
read_back words (Run script (Some packets)) is = ap asked_of is
read_back words (Gen number) is = ap asked_of is.1 ∙ ap gen_by is.2
read_back words (Check script report None) is = ap asked_of is
read_back words (Check script report (Some packets)) is = ap asked_of is
read_back words (Join script packets) is = ap asked_of is
read_back words (Vm script trace) is = ap asked_of is

pub some_is : {X : Type 0} (x y : X) → Some x ≡ Some y → x ≡ y
some_is x y same = cc

pub one_asked : (words : List (List ℕ)) (a b : Asked) → IsSpelled words a → IsSpelled words b → a ≡ b
one_asked words a b is is' = some_is a b (sym (read_back words a is) ∙ read_back words b is')
