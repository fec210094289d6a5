-- What the reading of a line says of its words, and of the script so far.
use Rattle.std.specs.Prelude.{◌≡◌, ◌≤◌, ℕ, List, length, Option, Some, None, Result, Ok, Err}
use Rattle.spin_grammar.specs.declared.cause.Cause.{Cause}
use Rattle.spin_grammar.specs.declared.fault.Fault.{Fault}
use Rattle.spin_grammar.specs.declared.fault.Fault.TheVariants as fault
use Rattle.spin_grammar.specs.declared.kind.Kind.{Kind}
use Rattle.spin_grammar.specs.declared.line.Statement.{Statement}
use Rattle.spin_script.specs.declared.head.Found.{Found}
use Rattle.spin_script.specs.declared.head.Found.TheVariants as found
use Rattle.spin_grammar.specs.Lines.{LineMeaning, Stands}
use Rattle.spin_script.specs.States.{ScriptState, NativeData, start, after}
use Rattle.spin_values.specs.First.{first_of}
use Rattle.spin_script.specs.Checks.{checks}
use Rattle.std.specs.Str.Lines.{lines}
use Rattle.spin_script.specs.declared.script.ScriptFault.{ScriptFault}
use Rattle.spin_script.specs.Language.{Head, Skipped, Begins, Says, SaysWell, SaysIll, head}
use Rattle.spin_script.specs.Language.{Passes, IsLineRefused, Outcome, ComesTo, outcome_at_end}
use Rattle.spin_script.specs.Scripts.{IsBad}

-- a line as a whole, as it was found
abbrev pub head_seen : Result Found Cause → Result Head Cause
head_seen (Err c) = Err c
head_seen (Ok found.Skipped) = Ok Skipped
head_seen (Ok (found.Begins version)) = Ok (Begins version)
head_seen (Ok (found.Says k ws)) = Ok (Says k ws)

-- there are at most so many words behind the first
abbrev pub HasRoom : Result Found Cause → ℕ → Type 0
HasRoom (Ok (found.Says k ws)) n = length ws ≤ n
HasRoom other n = Unit {0}

-- a line was added to the script s, which is t then, but for the section, which is as it was; or it can't stand there
abbrev pub Adds : {A : Type 0} → NativeData → ScriptState → ℕ → LineMeaning → Result A Fault → ScriptState → Type 0
Adds n s number l (Ok a) t = (first_of (checks n s l) ≡ None) × (t ≡ record (after n s number l) { section = s.section })
Adds n s number l (Err f) t = (c : Cause) → f ≡ fault.Bad c → first_of (checks n s l) ≡ Some c

-- whatever the line is that was read so, it was added
abbrev pub AddsSaid : {A : Type 0} → NativeData → ScriptState → ℕ → Statement → Result A Fault → ScriptState → Type 0
AddsSaid n s number said r t = (l : LineMeaning) → Stands said l → Adds n s number l r t

-- a line was added to the script s, which is t then; or it can't stand there
abbrev pub Takes : {A : Type 0} → NativeData → ScriptState → ℕ → LineMeaning → Result A Fault → ScriptState → Type 0
Takes n s number l (Ok a) t = (first_of (checks n s l) ≡ None) × (t ≡ after n s number l)
Takes n s number l (Err f) t = (c : Cause) → f ≡ fault.Bad c → first_of (checks n s l) ≡ Some c

-- whatever the line is that was read so, the script s is t with it; or it can't stand there
abbrev pub TakesSaid : {A : Type 0} → NativeData → ScriptState → ℕ → Statement → Result A Fault → ScriptState → Type 0
TakesSaid n s number said r t = (l : LineMeaning) → Stands said l → Takes n s number l r t

-- the words of a line were read, and it was added
abbrev pub GivesSaid : {A : Type 0} → NativeData → ScriptState → ℕ → Kind → List (List ℕ) → Result A Fault
    → ScriptState → Type 0
GivesSaid n s number k ws (Ok a) t = SaysWell n s number k ws t
GivesSaid n s number k ws (Err f) t = (c : Cause) → f ≡ fault.Bad c → SaysIll n s k ws c

-- any line was read
abbrev pub GivesState : {A : Type 0} → NativeData → ScriptState → ℕ → List ℕ → Result A Fault → ScriptState
    → Type 0
GivesState n s number line (Ok a) t = Passes n s number (head s line) t
GivesState n s number line (Err f) t = (c : Cause) → f ≡ fault.Bad c → IsLineRefused n s (head s line) c

-- what was asked for is given and is good, where there is no cause; or there is one, and this is the first
abbrev pub Judges : {A : Type 0} → (A → Type 0) → Option Cause → Result A Cause → Type 0
Judges good first (Ok a) = (first ≡ None) × good a
Judges good first (Err c) = first ≡ Some c

-- all lines were read, and what the text comes to is what s comes to; or the text is bad
abbrev pub GivesDraft : {A : Type 0} → NativeData → List ℕ → Result A ScriptFault → ScriptState → Type 0
GivesDraft n text (Ok a) s = (o : Outcome) → o ≡ outcome_at_end n s → ComesTo n start 1 (lines text) o
GivesDraft n text (Err f) s = IsBad n text f
