-- Commands that are given one after another.
use Rattle.std.proofs.Common.{◌≡◌, ◌<◌, ◌≤◌, ◌+◌, ℕ, cond, List, [], ◌∷◌, ◌++◌, length, take, drop, get_or, Option, Some, None, MatchOption, count_by, refl, sym, ap, subst, ◌∙◌, arith, append_assoc}
use Rattle.std.specs.List.{cons_option, filter_map}
use Rattle.std.proofs.lemmas.List.{append-nil, take_all, take-append-drop}
use Rattle.std.proofs.lemmas.List.Elements.{filter_map-append}
use Rattle.std.proofs.lemmas.List.Sums.{sum_by-append, sum_by-cons}
use Rattle.std.proofs.lemmas.Grind.{take_at_read}
use Rattle.spin_word.specs.declared.command.Command.{Command}
use Rattle.spin_word.specs.declared.work.Work.{Work}
use Rattle.spin_word.specs.declared.work.Work.TheVariants as work
use Rattle.spin_table.specs.declared.refusal.Refusal.{Refusal}
use Rattle.spin_table.specs.declared.refusal.Verdicted.{Verdicted}
use Rattle.spin_table.specs.declared.refusal.Verdicted.TheVariants as verdicted
use Rattle.spin_table.specs.Setups.{SetupData}
use Rattle.spin_table.specs.States.{State, start_of}
use Rattle.spin_table.specs.Refusals.{refusal_of}
use Rattle.spin_table.specs.Steps.{ChangesTo, IsStep}
use Rattle.spin_script.specs.declared.script.Line.{Line}
use Rattle.spin_script.specs.Soundness.{is_command_work, commands_in}
use Rattle.spin_filter.specs.declared.commands.Commanded.{Commanded}
use Rattle.spin_filter.specs.Commands.{command_of, commands_of, AreGiven, is_refusal}
use Rattle.spin_filter.specs.Inner.Giving.{IsGiven, IsCommanded}
use Rattle.spin_filter.specs.Counting.{capped}
use Rattle.spin_filter.proofs.Tallies.{count-more}

-- ---- places

changes-place : (d : SetupData) (s : State) (c : Command) (v : Verdicted) (next : State) → ChangesTo d s c v next → next.place ≤ s.place + 1
changes-place d s c verdicted.Accepted next h = let e = ap (λ (t : State). t.place) h.0 in omega (arith, e)
changes-place d s c (verdicted.Refused r) next h = let e = ap (λ (t : State). t.place) h.0 in omega (arith, e)

place-by : (d : SetupData) (s : State) (c : Command) (v : Verdicted) (next : State) (o : Option Refusal)
    → MatchOption o (ChangesTo d s c v next) (λ r. (v ≡ verdicted.Refused r) × (next ≡ s)) → next.place ≤ s.place + 1
place-by d s c v next None h = changes-place d s c v next h
place-by d s c v next (Some r) h = let e = ap (λ (t : State). t.place) h.1 in omega (arith, e)

step-place : (d : SetupData) (s : State) (c : Command) (v : Verdicted) (next : State) → IsStep d s c v next → next.place ≤ s.place + 1
step-place d s c v next is = place-by d s c v next (refusal_of d s c) is

-- commands raise the place by one each at most
given-place : (d : SetupData) (s : State) (commands : List Command) (verdicts : List Verdicted) (last : State) → AreGiven d s commands verdicts last → last.place ≤ s.place + length commands
given-place d s [] verdicts last (none, same) = let e = ap (λ (t : State). t.place) same in omega (arith, e)
given-place d s (c ∷ commands) verdicts last (v, others, next, step, are, rest) =
    let one = step-place d s c v next step in
    let more = given-place d next commands others last rest in
    omega (arith, one, more)

-- the commands are as many as the lines that give one
commands-count : (lines : List Line) → length (commands_of lines) ≡ commands_in lines
commands-count [] = refl
commands-count (line ∷ lines) = by line.work (commands-count lines) ∙ sym (sum_by-cons (λ (l : Line). cond (is_command_work l.work) 1 0) line lines) where
  by : (w : Work) → length (commands_of lines) ≡ commands_in lines
      → length (cons_option (command_of w) (commands_of lines)) ≡ cond (is_command_work w) 1 0 + commands_in lines
  by (work.Command c) rest = omega (arith, rest)
  by (work.Deed d) rest = omega (arith, rest)
  by (work.Packet event count) rest = omega (arith, rest)

pub lines-place : (d : SetupData) (lines : List Line) (before now : Commanded) → IsGiven d (commands_of lines) before now → now.version.state.place ≤ before.version.state.place + commands_in lines
lines-place d lines before now g = omega (arith, given-place d before.version.state (commands_of lines) g.verdicts now.version.state g.given, commands-count lines)

-- ---- one list of commands behind the other

are-then : (d : SetupData) (s : State) (a b : List Command) (vs ws : List Verdicted) (between last : State) → AreGiven d s a vs between → AreGiven d between b ws last → AreGiven d s (a ++ b) (vs ++ ws) last
are-then d s [] b vs ws between last (none, same) are =
    subst (λ (t : State). AreGiven d t b (vs ++ ws) last) same (subst (λ (us : List Verdicted). AreGiven d between b (us ++ ws) last) (sym none) are)
are-then d s (c ∷ a) b vs ws between last (v, others, next, step, is, rest) are =
    (v, others ++ ws, next, step, ap (λ us. us ++ ws) is, are-then d next a b others ws between last rest are)

pub given-then : (d : SetupData) (a b : List Command) (x y z : Commanded) → IsGiven d a x y → IsGiven d b y z → IsGiven d (a ++ b) x z
given-then d a b x y z p q = record {
  verdicts = p.verdicts ++ q.verdicts;
  given = are-then d x.version.state a b p.verdicts q.verdicts y.version.state z.version.state p.given q.given;
  counted = λ earlier is. q.counted (earlier ++ p.verdicts) (p.counted earlier is) ∙ ap (λ vs. capped (count_by is_refusal vs)) (append_assoc earlier p.verdicts q.verdicts);
}

pub given-none : (d : SetupData) (x : Commanded) → IsGiven d [] x x
given-none d x = record {
  verdicts = [];
  given = (refl, refl);
  counted = λ earlier is. is ∙ ap (λ vs. capped (count_by is_refusal vs)) (sym (append-nil earlier));
}

-- one command
pub given-one : (d : SetupData) (command : Command) (verdict : Verdicted) (x y : Commanded) → IsStep d x.version.state command verdict y.version.state
    → ((n : ℕ) → x.refused ≡ capped n → y.refused ≡ capped (n + cond (is_refusal verdict) 1 0)) → IsGiven d (command ∷ []) x y
given-one d command verdict x y step counts = record {
  verdicts = verdict ∷ [];
  given = (verdict, [], y.version.state, step, refl, (refl, refl));
  counted = λ earlier is. counts (count_by is_refusal earlier) is
      ∙ ap (λ n. capped n) (sym (count-more is_refusal earlier verdict));
}

-- ---- lines

pub line-command : (d : SetupData) (line : Line) (command : Command) (x y : Commanded) → line.work ≡ work.Command command → IsGiven d (command ∷ []) x y → IsGiven d (commands_of (line ∷ [])) x y
line-command d line command x y is g =
    subst (λ (cs : List Command). IsGiven d cs x y) (sym (ap (λ (w : Work). filter_map (λ (o : Option Command). o) (command_of w ∷ [])) is)) g

pub line-other : (d : SetupData) (line : Line) (x : Commanded) → ((command : Command) → line.work ≡ work.Command command → ⊥) → IsGiven d (commands_of (line ∷ [])) x x
line-other d line x never = by line.work never where
  by : (w : Work) → ((command : Command) → w ≡ work.Command command → ⊥) → IsGiven d (filter_map (λ (o : Option Command). o) (command_of w ∷ [])) x x
  by (work.Command c) never = absurd (never c refl)
  by (work.Deed deed) never = given-none d x
  by (work.Packet event count) never = given-none d x

lines-more : (lines : List Line) (i : ℕ) (line : Line) → i < length lines → line ≡ get_or lines i line → take (i + 1) lines ≡ take i lines ++ line ∷ []
lines-more lines i line lt is = (take_at_read lines i line lt).1 ∙ ap (λ l. take i lines ++ l ∷ []) (sym is)

-- one more line
pub given-line : (d : SetupData) (lines : List Line) (i : ℕ) (line : Line) (x y z : Commanded) → i < length lines → line ≡ get_or lines i line → IsGiven d (commands_of (take i lines)) x y
    → IsGiven d (commands_of (line ∷ [])) y z → IsGiven d (commands_of (take (i + 1) lines)) x z
given-line d lines i line x y z lt is p q =
    subst (λ (cs : List Command). IsGiven d cs x z)
    (sym (filter_map-append (λ (l : Line). command_of l.work) (take i lines) (line ∷ [])) ∙ ap (λ ls. commands_of ls) (sym (lines-more lines i line lt is)))
    (given-then d (commands_of (take i lines)) (commands_of (line ∷ [])) x y z p q)

pub given-all : (d : SetupData) (lines : List Line) (i : ℕ) (x y : Commanded) → length lines ≤ i → IsGiven d (commands_of (take i lines)) x y → IsGiven d (commands_of lines) x y
given-all d lines i x y le g = subst (λ (ls : List Line). IsGiven d (commands_of ls) x y) (take_all i lines le) g

pub count-then : (a b : List Line) → commands_in (a ++ b) ≡ commands_in a + commands_in b
count-then a b = sum_by-append (λ (l : Line). cond (is_command_work l.work) 1 0) a b

-- there is room for the command of the next line
pub line-room : (lines : List Line) (i : ℕ) (line : Line) → i < length lines → line ≡ get_or lines i line → commands_in (take i lines) + commands_in (line ∷ []) ≤ commands_in lines
line-room lines i line lt is =
    let next = ap (λ ls. commands_in ls) (lines-more lines i line lt is) ∙ count-then (take i lines) (line ∷ []) in
    let whole = sym (count-then (take (i + 1) lines) (drop (i + 1) lines)) ∙ ap (λ ls. commands_in ls) (take-append-drop (i + 1) lines) in
    omega (arith, next, whole)

-- commands that are given from the start on
pub commanded : (d : SetupData) (commands : List Command) (start now : Commanded) → start.version.state ≡ start_of d → start.refused ≡ 0 → IsGiven d commands start now → IsCommanded d commands now
commanded d commands start now from none g = record {
  verdicts = g.verdicts;
  given = subst (λ (s : State). AreGiven d s commands g.verdicts now.version.state) from g.given;
  refused = g.counted [] (none ∙ refl);
}
