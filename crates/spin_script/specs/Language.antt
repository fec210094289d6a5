-- The script language: a text is a script, or has a first bad line and its cause.
use Rattle.std.specs.Prelude.{◌≡◌, ℕ, ◌+◌, Bool, ◌&&◌, ◌||◌, ◌⊎◌, ◌==◌, nat_lt, nat_le, if◌then◌else◌, List, []}
use Rattle.std.specs.Prelude.{◌∷◌, length, Option, Some, None, Result, Ok, Err, slice_index, codes, bytes_eq}
use Rattle.std.specs.Bool.{MatchBool}
use Rattle.std.specs.List.{list_all}
use Rattle.std.specs.Str.Lines.{lines}
use Rattle.spin_grammar.specs.declared.cause.Cause.{Cause}
use Rattle.spin_grammar.specs.declared.cause.Cause.TheVariants as cause
use Rattle.spin_grammar.specs.Words.{words}
use Rattle.spin_grammar.specs.Grammar.{reads}
use Rattle.spin_grammar.specs.declared.kind.Kind.{Kind}
use Rattle.spin_grammar.specs.Lines.{LineMeaning, Spells, wanted}
use Rattle.spin_grammar.specs.declared.limits.TheConstants.{MAX_TEXT}
use Rattle.spin_script.specs.Sections.{first_words, is_out_of_order}
use Rattle.spin_grammar.specs.Lookup.{look_up}
use Rattle.spin_script.specs.States.{ScriptState, NativeData, ScriptData, start, after, script_in}
use Rattle.spin_values.specs.First.{first_of}
use Rattle.spin_script.specs.Checks.{checks}

-- ---- a line as a whole

-- what a line is as a whole: skipped, the first, or one that says something
pub data Head : Type 0 where
  Skipped : Head
  -- the first line, which names the version
  Begins : (version : ℕ) → Head
  -- its kind, and the words behind the first
  Says : Kind → List (List ℕ) → Head

-- tab, or printable
abbrev pub is_allowed : ℕ → Bool
is_allowed b = (b == 9) || nat_le 32 b && nat_le b 126

-- the version that a word names: it is 1, 2 or 3, written just so
abbrev pub version_word : List ℕ → Option ℕ
version_word w =
    if bytes_eq w (codes "1") then Some 1
    else (if bytes_eq w (codes "2") then Some 2 else (if bytes_eq w (codes "3") then Some 3 else None))

-- the version that the words of the first line name
abbrev pub version_of : List (List ℕ) → Option ℕ
version_of (first ∷ second ∷ []) = if bytes_eq first (codes "spin") then version_word second else None
version_of ws = None

-- the first line that isn't skipped begins the script, where it names a version; else cause 3
abbrev pub first_head : Option ℕ → Result Head Cause
first_head None = Err cause.Version
first_head (Some version) = Ok (Begins version)

-- a line of this kind, where one may stand here: cause 4 where the first word begins none, 5 where it is out of order
abbrev pub kind_head : ScriptState → Option Kind → List (List ℕ) → Result Head Cause
kind_head s None ws = Err cause.Keyword
kind_head s (Some k) ws = if is_out_of_order k s.section s.begins then Err cause.Order else Ok (Says k ws)

-- where a first word begins with a number sign, the line is skipped
abbrev pub words_head : ScriptState → List (List ℕ) → Result Head Cause
words_head s [] = Ok Skipped
words_head s (w ∷ ws) =
    if slice_index w 0 == 35 then Ok Skipped
    else (if s.version == 0 then first_head (version_of (w ∷ ws)) else kind_head s (look_up w first_words) ws)

-- causes 2 to 5
unfoldable pub head : ScriptState → List ℕ → Result Head Cause
head s line = if list_all is_allowed line then words_head s (words line) else Err cause.NotAscii

-- ---- one line

-- the words say something that can stand behind s, and t is the script with it
abbrev pub SaysWell : NativeData → ScriptState → ℕ → Kind → List (List ℕ) → ScriptState → Type 0
SaysWell n s number k ws t =
    (l : LineMeaning) × Spells s.version k ws l × (first_of (checks n s l) ≡ None) × (t ≡ after n s number l)

-- a word can't stand where it does, or the words say something that can't stand behind s
abbrev pub SaysIll : NativeData → ScriptState → Kind → List (List ℕ) → Cause → Type 0
SaysIll n s k ws c = (reads (wanted s.version k) ws ≡ Err c)
    ⊎ ((l : LineMeaning) × Spells s.version k ws l × (first_of (checks n s l) ≡ Some c))

-- the line that is this as a whole can stand behind s, and t is the script with it
abbrev pub Passes : NativeData → ScriptState → ℕ → Result Head Cause → ScriptState → Type 0
Passes n s number (Err c) t = ⊥
Passes n s number (Ok Skipped) t = t ≡ s
Passes n s number (Ok (Begins version)) t = t ≡ record s { version = version }
Passes n s number (Ok (Says k ws)) t = SaysWell n s number k ws t

-- the line that is this as a whole can't stand behind s, by that cause
abbrev pub IsLineRefused : NativeData → ScriptState → Result Head Cause → Cause → Type 0
IsLineRefused n s (Err why) c = c ≡ why
IsLineRefused n s (Ok Skipped) c = ⊥
IsLineRefused n s (Ok (Begins version)) c = ⊥
IsLineRefused n s (Ok (Says k ws)) c = SaysIll n s k ws c

-- ---- all lines

-- a script, or a bad line's number and the cause
abbrev pub Outcome : Type 0
Outcome = Result ScriptData (ℕ × Cause)

-- a text that names no version is bad at its first line
abbrev pub outcome_at_end : NativeData → ScriptState → Outcome
outcome_at_end n s = if s.version == 0 then Err (1, cause.Version) else Ok (script_in n s)

-- The lines from that number on, behind s, come to this: the first that doesn't pass decides.
abbrev pub ComesTo : NativeData → ScriptState → ℕ → List (List ℕ) → Outcome → Type 0
ComesTo n s number [] o = o ≡ outcome_at_end n s
ComesTo n s number (line ∷ more) o =
    ((t : ScriptState) × Passes n s number (head s line) t × ComesTo n t (number + 1) more o)
    ⊎ ((c : Cause) × IsLineRefused n s (head s line) c × (o ≡ Err (number, c)))

-- the greatest length of a text
abbrev pub most_bytes : ℕ
most_bytes = MAX_TEXT

-- What a text comes to, where these natives may be named.
abbrev pub IsScript : NativeData → List ℕ → Outcome → Type 0
IsScript n text o =
    MatchBool (nat_lt most_bytes (length text)) (o ≡ Err (0, cause.TooLarge)) (ComesTo n start 1 (lines text) o)
