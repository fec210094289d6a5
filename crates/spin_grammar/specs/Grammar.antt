-- What may stand at each place of a line: the tables of the script's format.
use Rattle.std.specs.Prelude.{ℕ, zero, suc, ◌+◌, ◌-◌, Bool, true, false, ◌&&◌, List, [], ◌∷◌, ◌++◌}
use Rattle.std.specs.Prelude.{length, replicate, Option, Some, None, Result, Ok, Err, nat_le, ◌==◌}
use Rattle.std.specs.Prelude.{if◌then◌else◌, slice_index, codes, drop}
use Rattle.std.specs.List.{list_all}
use Rattle.std.specs.Str.{bytes_eq}
use Rattle.spin_values.specs.declared.types.EventType.{EventType}
use Rattle.spin_values.specs.declared.types.TheConstants.{MAX_PARAMS}
use Rattle.spin_grammar.specs.declared.limits.TheConstants.{LAST_ARGUMENT, MAX_OFFSET, MAX_WIDTH}
use Rattle.spin_grammar.specs.declared.limits.TheConstants.{LAST_ENDPOINT, LAST_EVENT, MAX_PARTS}
use Rattle.spin_grammar.specs.declared.limits.TheConstants.{MAX_QUOTA, MAX_IMPOSED, LAST_GUARD}
use Rattle.spin_grammar.specs.declared.limits.TheConstants.{LAST_TARGET, LAST_PLACE, LAST_MODULE}
use Rattle.spin_grammar.specs.declared.limits.TheConstants.{LAST_HANDLER, MAX_PACKETS, MAX_NAMED}
use Rattle.spin_grammar.specs.declared.cause.Cause.{Cause}
use Rattle.spin_grammar.specs.declared.cause.Cause.TheVariants as cause
use Rattle.spin_text.specs.Digits.{begins_with_digit}
use Rattle.spin_grammar.specs.Spelling.{number, within, greatest, is_name, signature}
use Rattle.spin_grammar.specs.Spelling.{guard_signature, hex_bytes}

-- What a word says.
pub data Atom : Type 0 where
  -- one of the format's own words
  Fixed : List ℕ → Atom
  Numeral : ℕ → Atom
  -- one of a0 to a7
  Argument : ℕ → Atom
  Called : List ℕ → Atom
  Typed : EventType → Atom
  Blob : List ℕ → Atom

-- What is wanted at a place.
pub data Want : Type 0 where
  -- a number from low to high
  Number : (low high : ℕ) → Want
  Name : Want
  Signature : Want
  -- `native` and a name, or a signature and then steps or a test
  HandlerBody : Want
  GuardBody : Want
  Expression : Want
  Test : Want
  Part : Want
  -- any number of steps, and then the line's end
  Steps : Want
  LayerKind : Want
  -- last, or fold with an expression
  Merge : Want
  Op : Want
  -- a handler's number, or `any`
  HandlerOrAny : Want
  Own : Want
  -- what a rule decides, in a script of this version
  Effect : (version : ℕ) → Want
  ForcedPlace : Want
  ForcedMode : Want
  -- the deed of a lane, in a script of this version
  Deed : (version : ℕ) → Want
  -- the place of a binding, which may be before or after another
  Spot : Want
  -- free, first or last
  Place : Want
  Mode : Want
  -- up to so many numbers or bytes, and then the line's end
  Values : ℕ → Want
  -- a number from low to high, and then so many of what is wanted
  Counted : (low high : ℕ) → Want → Want
  -- up to four numbers of bindings, each greater than the one before it, behind their count
  Bindings : Want
  -- the number of a binding from low on, and so many behind it
  Rising : (low more : ℕ) → Want
  -- just this word
  Exactly : List ℕ → Want

-- ---- what each word is followed by

-- the fixed words that may stand at a place, each with what is wanted behind it
abbrev pub Choices : Type 0
Choices = List (List ℕ × List Want)

-- an expression that begins with a fixed word: a field is three numbers, and `+`, `&` and `|` have two sides
abbrev pub expressions : Choices
expressions =
    (codes "f", Number 0 LAST_ARGUMENT ∷ Number 0 MAX_OFFSET ∷ Number 0 MAX_WIDTH ∷ [])
    ∷ (codes "+", Expression ∷ Expression ∷ [])
    ∷ (codes "&", Expression ∷ Expression ∷ [])
    ∷ (codes "|", Expression ∷ Expression ∷ [])
    ∷ []

-- a test: `true` has nothing behind it, a comparison has two sides, `has` two numbers, the others one or two tests
abbrev pub tests : Choices
tests =
    (codes "true", [])
    ∷ (codes "==", Expression ∷ Expression ∷ [])
    ∷ (codes "!=", Expression ∷ Expression ∷ [])
    ∷ (codes "<", Expression ∷ Expression ∷ [])
    ∷ (codes "<=", Expression ∷ Expression ∷ [])
    ∷ (codes "has", Number 0 LAST_ARGUMENT ∷ Number 0 MAX_OFFSET ∷ [])
    ∷ (codes "not", Test ∷ [])
    ∷ (codes "all", Test ∷ Test ∷ [])
    ∷ (codes "any", Test ∷ Test ∷ [])
    ∷ []

-- a part of a raise upwards: a word, or the bytes of an argument from some byte on
abbrev pub parts : Choices
parts = (codes "w", Expression ∷ []) ∷ (codes "b", Number 0 LAST_ARGUMENT ∷ Number 0 MAX_OFFSET ∷ []) ∷ []

-- behind a step more steps may follow
abbrev pub steps : Choices
steps =
    (codes "set", Number 0 LAST_ARGUMENT ∷ Expression ∷ Steps ∷ [])
    ∷ (codes "send", Number 0 LAST_ENDPOINT ∷ Number 0 LAST_ARGUMENT ∷ Number 0 MAX_OFFSET ∷ Steps ∷ [])
    ∷ (codes "result", Expression ∷ Steps ∷ [])
    ∷ (codes "up", Number 0 LAST_EVENT ∷ Counted 0 MAX_PARTS Part ∷ Steps ∷ [])
    ∷ (codes "layer", LayerKind ∷ Number 0 LAST_EVENT ∷ Steps ∷ [])
    ∷ []

-- the layers whose headers a step can read
abbrev pub layers : Choices
layers = (codes "ipv4", []) ∷ (codes "udp", []) ∷ []

-- how results are merged: by the last one, or by a fold with an expression
abbrev pub merges : Choices
merges = (codes "last", []) ∷ (codes "fold", Expression ∷ []) ∷ []

-- what a rule can be of: one of the ops, or any
abbrev pub ops : Choices
ops =
    (codes "install", []) ∷ (codes "remove", []) ∷ (codes "replace", []) ∷ (codes "default", [])
    ∷ (codes "nodefault", []) ∷ (codes "any", []) ∷ []

-- whether a rule is of own bindings only, or of all
abbrev pub owns : Choices
owns = (codes "own", []) ∷ (codes "all", []) ∷ []

-- what a rule may force came with version 2
abbrev pub effects : ℕ → Choices
effects version =
    (codes "allow", [])
    ∷ (codes "deny", [])
    ∷ (codes "quota", Number 0 MAX_QUOTA ∷ [])
    ∷ (codes "impose", Counted 1 MAX_IMPOSED (Number 1 LAST_GUARD) ∷ [])
    ∷ (if nat_le 2 version then (
      codes "force",
      Counted 0 MAX_IMPOSED (Number 1 LAST_GUARD) ∷ ForcedPlace ∷ ForcedMode ∷ [],
    ) ∷ [] else [])

-- the place that a rule may force; `keep` forces none
abbrev pub forced_places : Choices
forced_places = (codes "keep", []) ∷ (codes "first", []) ∷ (codes "last", []) ∷ []

-- the mode that a rule may force; `keep` forces none
abbrev pub forced_modes : Choices
forced_modes = (codes "keep", []) ∷ (codes "async", []) ∷ []

-- the place of a binding in versions 1 and 2, or one other binding before or after which it goes
abbrev pub spots : Choices
spots =
    (codes "free", []) ∷ (codes "first", []) ∷ (codes "last", [])
    ∷ (codes "before", Number 0 LAST_TARGET ∷ []) ∷ (codes "after", Number 0 LAST_TARGET ∷ [])
    ∷ []

-- the place of a binding, apart from the bindings that it names
abbrev pub places : Choices
places = (codes "free", []) ∷ (codes "first", []) ∷ (codes "last", []) ∷ []

-- how a binding's handler runs
abbrev pub modes : Choices
modes = (codes "plain", []) ∷ (codes "filter", []) ∷ (codes "async", []) ∷ []

-- where a new binding goes: version 3 names up to four bindings before which and up to four after
-- which it goes
abbrev pub spot_wants : ℕ → List Want
spot_wants version =
    if version == 3 then Place ∷ Exactly (codes "before") ∷ Bindings ∷ Exactly (codes "after")
    ∷ Bindings ∷ [] else Spot ∷ []

-- the greatest binding that may be named as a target
abbrev pub last_target : ℕ → ℕ
last_target version = if version == 3 then LAST_PLACE else LAST_TARGET

-- what a lane may be told, in a script of this version, and what is wanted behind the word of each
abbrev pub deeds : ℕ → Choices
deeds version =
    (codes "raise", Number 0 LAST_EVENT ∷ Values MAX_PARAMS ∷ [])
    ∷ (
      codes "install",
      Number 0 LAST_EVENT ∷ Number 0 LAST_MODULE ∷ Number 0 LAST_HANDLER
          ∷ Number 0 LAST_GUARD ∷ (spot_wants version ++ Mode ∷ []),
    )
    ∷ (codes "remove", Number 0 LAST_EVENT ∷ Number 0 LAST_MODULE ∷ Number 0 (last_target version) ∷ [])
    ∷ (
      codes "replace",
      Number 0 LAST_EVENT ∷ Number 0 LAST_MODULE ∷ Number 0 (last_target version)
          ∷ Number 0 LAST_HANDLER ∷ Number 0 LAST_GUARD ∷ [],
    )
    ∷ (codes "default", Number 0 LAST_EVENT ∷ Number 0 LAST_MODULE ∷ Number 0 LAST_HANDLER ∷ [])
    ∷ (codes "nodefault", Number 0 LAST_EVENT ∷ Number 0 LAST_MODULE ∷ [])
    ∷ (codes "later", Number 0 LAST_EVENT ∷ Values MAX_PARAMS ∷ [])
    ∷ (codes "packet", Number 0 LAST_EVENT ∷ Number 1 MAX_PACKETS ∷ [])
    ∷ []

-- ---- one word at its place

-- what a word comes to at its place: what it says with what is wanted behind it, or why it can't stand there
abbrev pub WordStep : Type 0
WordStep = Result (Atom × List Want) Cause

-- the number that the word is, with this wanted behind it; else a number is missing
abbrev pub as_number : Option ℕ → List Want → WordStep
as_number None more = Err cause.Number
as_number (Some n) more = Ok (Numeral n, more)

-- one of the fixed words, and what it is followed by
abbrev pub chosen : List ℕ → Choices → WordStep
chosen w [] = Err cause.Word
chosen w (c ∷ cs) = if bytes_eq w c.0 then Ok (Fixed w, c.1) else chosen w cs

-- an a and a digit from 0 to 7
abbrev pub is_argument : List ℕ → Bool
is_argument w = length w == 2 && (slice_index w 0 == 97 && (nat_le 48 (slice_index w 1) && nat_le (slice_index w 1) 55))

-- the signature that the word is, with this wanted behind it; else a signature is missing
abbrev pub as_signature : Option EventType → List Want → WordStep
as_signature None more = Err cause.Signature
as_signature (Some sig) more = Ok (Typed sig, more)

-- the bytes that the word is, with this wanted behind it; else bytes are missing
abbrev pub as_blob : Option (List ℕ) → List Want → WordStep
as_blob None more = Err cause.Bytes
as_blob (Some bytes) more = Ok (Blob bytes, more)

-- the count that the word is, with so many of the same wanted behind it; else a number is missing
abbrev pub as_count : Option ℕ → Want → WordStep
as_count None want = Err cause.Number
as_count (Some n) want = Ok (Numeral n, replicate n want)

-- so many numbers of bindings, from low on
abbrev pub rising : ℕ → ℕ → List Want
rising low zero = []
rising low (suc more) = Rising low more ∷ []

-- the count that the word is, with so many rising numbers wanted behind it; else a number is missing
abbrev pub as_rising : Option ℕ → WordStep
as_rising None = Err cause.Number
as_rising (Some n) = Ok (Numeral n, rising 0 n)

-- the number that the word is, with so many greater ones wanted behind it; else a number is missing
abbrev pub as_rise : Option ℕ → ℕ → WordStep
as_rise None more = Err cause.Number
as_rise (Some n) more = Ok (Numeral n, rising (n + 1) more)

-- what a word comes to where this is wanted
unfoldable pub accepts : Want → List ℕ → WordStep
accepts (Number low high) w = as_number (within low high (number w)) []
accepts Name w = if is_name w then Ok (Called w, []) else Err cause.Name
accepts Signature w = as_signature (signature w) []
accepts HandlerBody w =
    if bytes_eq w (codes "native") then Ok (Fixed w, Name ∷ []) else as_signature (signature w) (Steps ∷ [])
accepts GuardBody w =
    if bytes_eq w (codes "native") then Ok (Fixed w, Name ∷ []) else as_signature (guard_signature w) (Test ∷ [])
accepts Expression w =
    if begins_with_digit w then as_number (within 0 greatest (number w)) []
    else (if is_argument w then Ok (Argument (slice_index w 1 - 48), []) else chosen w expressions)
accepts Test w = chosen w tests
accepts Part w = chosen w parts
accepts Steps w = chosen w steps
accepts LayerKind w = chosen w layers
accepts Merge w = chosen w merges
accepts Op w = chosen w ops
accepts HandlerOrAny w =
    if begins_with_digit w then as_number (within 1 LAST_HANDLER (number w)) [] else chosen w ((codes "any", []) ∷ [])
accepts Own w = chosen w owns
accepts (Effect version) w = chosen w (effects version)
accepts ForcedPlace w = chosen w forced_places
accepts ForcedMode w = chosen w forced_modes
accepts (Deed version) w = chosen w (deeds version)
accepts Spot w = chosen w spots
accepts Place w = chosen w places
accepts Mode w = chosen w modes
accepts (Values zero) w = Err cause.End
accepts (Values (suc k)) w =
    if slice_index w 0 == 120 then as_blob (hex_bytes (drop 1 w)) (Values k ∷ []) else as_number
    (within 0 greatest (number w)) (Values k ∷ [])
accepts (Counted low high want) w = as_count (within low high (number w)) want
accepts Bindings w = as_rising (within 0 MAX_NAMED (number w))
accepts (Rising low more) w = as_rise (within low LAST_PLACE (number w)) more
accepts (Exactly word) w = chosen w ((word, []) ∷ [])

-- ---- a whole line

-- the line may end where this is wanted
abbrev pub may_end : Want → Bool
may_end Steps = true
may_end (Values k) = true
may_end _ = false

-- what words say, in order, or why they can't stand so
abbrev pub Reading : Type 0
Reading = Result (List Atom) Cause

-- this, and then what the words behind it say; the cause where those can't stand so
abbrev pub then_read : List Atom → Reading → Reading
then_read front (Ok back) = Ok (front ++ back)
then_read front (Err c) = Err c

-- The words are read from left to right, each at the place of the first thing that is still wanted.
unfoldable pub reads : List Want → List (List ℕ) → Reading
reads wants [] = if list_all may_end wants then Ok [] else Err cause.End
reads [] (w ∷ ws) = Err cause.End
reads (want ∷ wants) (w ∷ ws) =
    elim (accepts want w) [ Err c ↦ Err c | Ok p ↦ then_read (p.0 ∷ []) (reads (p.1 ++ wants) ws) ]
