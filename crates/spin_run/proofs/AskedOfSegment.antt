-- What a lane is asked by the lines of a segment: in which order, and how many commands.
use Rattle.std.proofs.Common.{◌≡◌, ◌==◌, ℕ, ◌+◌, ◌<◌, false, cond, List, [], ◌∷◌, map, take, drop, refl, arith}
use Rattle.std.specs.Prelude.{All}
use Rattle.std.specs.List.{AllPairs, count_by, enumerate_from}
use Rattle.std.proofs.lemmas.List.Sums.{sum_by-append}
use Rattle.std.proofs.lemmas.List.Kept.{AllPairs-filter}
use Rattle.std.proofs.lemmas.List.Elements.{All-cons, All-nil}
use Rattle.spin_word.specs.declared.work.Work.{Work}
use Rattle.spin_word.specs.declared.work.Work.TheVariants as work
use Rattle.spin_script.specs.declared.script.Line.{Line}
use Rattle.spin_script.specs.Soundness.{is_command_work, commands_in}
use Rattle.spin_report.specs.Asked.{Numbered}
use Rattle.spin_report.specs.Segments.{records_wanted, parts_of, asked_in, asked_of_lane}
use Rattle.spin_report.proofs.Asking.{numbered, raise_part, IsLater, asked_rises}
use Rattle.spin_seat.proofs.LaneCounts.{count-cons, count_none}

-- what one lane is asked stands in the order of the text, where the lines' numbers rise
pub lane_rises : (lane : ℕ) (lines : List Line) (records : List (List ℕ)) → AllPairs (λ line later. line.number < later.number) lines → AllPairs IsLater (asked_of_lane lane (asked_in lines records))
lane_rises lane lines records up = AllPairs-filter IsLater (λ (n : Numbered). n.lane == lane) (asked_in lines records) (asked_rises lines records up)

-- ---- commands

-- how many of these are commands
abbrev pub commands_of : List Numbered → ℕ
commands_of asked = count_by (λ n. is_command_work n.asked) asked

no_command : (line : Line) (event p : ℕ) (records : List (List ℕ)) → All (λ (n : Numbered). is_command_work n.asked ≡ false) (map (numbered line) (map (raise_part event) (enumerate_from p records)))
no_command line event p [] = All-nil (λ (n : Numbered). is_command_work n.asked ≡ false)
no_command line event p (r ∷ rs) = All-cons (λ (n : Numbered). is_command_work n.asked ≡ false) (numbered line (raise_part event (p, r)))
    (map (numbered line) (map (raise_part event) (enumerate_from (p + 1) rs))) refl (no_command line event (p + 1) rs)

line_commands : (line : Line) (w : Work) (records : List (List ℕ)) → commands_of (map (numbered line) (parts_of w records)) ≡ cond (is_command_work w) 1 0
line_commands line (work.Packet event count) records =
    count_none (λ (n : Numbered). is_command_work n.asked) (map (numbered line) (map (raise_part event) (enumerate_from 1 records))) (no_command line event 1 records)
line_commands line (work.Command c) records = refl
line_commands line (work.Deed d) records = refl

-- the commands asked are those of the lines
pub commands_asked : (lines : List Line) (records : List (List ℕ)) → commands_of (asked_in lines records) ≡ commands_in lines
commands_asked [] records = refl
commands_asked (line ∷ lines) records =
    let parts = parts_of line.work (take (records_wanted line.work) records) in
    let rest = asked_in lines (drop (records_wanted line.work) records) in
    let both = sum_by-append (λ (n : Numbered). cond (is_command_work n.asked) 1 0) (map (numbered line) parts) rest in
    let here = line_commands line line.work (take (records_wanted line.work) records) in
    let more = commands_asked lines (drop (records_wanted line.work) records) in
    let first = count-cons (λ (l : Line). is_command_work l.work) line lines in
    omega (arith, both, here, more, first)
