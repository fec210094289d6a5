-- The fields of a row.
use Rattle.std.proofs.Common.{◌≡◌, ℕ, zero, suc, ◌+◌, ◌*◌, ◌/◌, ◌%◌, ◌^◌, ◌<◌, ◌≤◌, Bool, true, false, List, [], ◌∷◌, length, refl, sym, ap, ◌∙◌, arith}
use Rattle.std.specs.Prelude.{IsTrue, All, nat_eq, ◌&&◌}
use Rattle.std.specs.List.{list_all}
use Rattle.spin_word.specs.declared.command.Op.{Op}
use Rattle.spin_word.specs.declared.command.Op.TheVariants.{Install, Remove, Replace, Default, NoDefault}
use Rattle.spin_word.specs.declared.command.Place.{Place}
use Rattle.spin_word.specs.declared.command.Place.TheVariants.{Free, First, Last}
use Rattle.spin_word.specs.declared.command.Mode.{Mode}
use Rattle.spin_word.specs.declared.command.Mode.TheVariants.{Plain, Filter, Async}
use Rattle.spin_word.specs.declared.command.Command.{Command}
use Rattle.spin_word.specs.declared.row.Row.{Row}
use Rattle.spin_word.specs.Commands.{number_of_op, number_of_place, number_of_mode, binding_or_none, bindings_or_none, has_widths, is_command}
use Rattle.spin_word.specs.Rows.{row_of, quarters, StandsFor, StandsForNone, IsCommand, lane_of}

digits : (mode place guard handler requester event lane op a : ℕ) → mode < 4 → place < 8 → guard < 1024 → handler < 1024 → requester < 256 → event < 64 → lane < 16
    → a ≡ mode + 2 ^ 2 * place + 2 ^ 15 * guard + 2 ^ 25 * handler + 2 ^ 35 * requester + 2 ^ 43 * event + 2 ^ 49 * lane + 2 ^ 53 * op
    → (a / 2 ^ 15 % 1024 ≡ guard) × (a / 2 ^ 53 ≡ op) × (a / 2 ^ 49 % 16 ≡ lane) × (a / 2 ^ 43 % 64 ≡ event)
    × (a / 2 ^ 35 % 256 ≡ requester) × (a / 2 ^ 25 % 1024 ≡ handler) × (a / 2 ^ 2 % 8 ≡ place) × (a % 4 ≡ mode)
digits mode place guard handler requester event lane op a m p g h r e l is = (omega arith, omega arith, omega arith, omega arith, omega arith, omega arith, omega arith, omega arith)

small_place : (p : Place) → number_of_place p < 8
small_place Free = omega arith
small_place First = omega arith
small_place Last = omega arith

small_mode : (m : Mode) → number_of_mode m < 4
small_mode Plain = omega arith
small_mode Filter = omega arith
small_mode Async = omega arith

abbrev op_from : ℕ → Op
op_from (suc zero) = Install
op_from (suc (suc zero)) = Remove
op_from (suc (suc (suc zero))) = Replace
op_from (suc (suc (suc (suc zero)))) = Default
op_from n = NoDefault

op_back : (o : Op) → op_from (number_of_op o) ≡ o
op_back Install = refl
op_back Remove = refl
op_back Replace = refl
op_back Default = refl
op_back NoDefault = refl

pub same_op : (o p : Op) → number_of_op o ≡ number_of_op p → o ≡ p
same_op o p e = sym (op_back o) ∙ ap op_from e ∙ op_back p

abbrev place_from : ℕ → Place
place_from zero = Free
place_from (suc zero) = First
place_from n = Last

place_back : (p : Place) → place_from (number_of_place p) ≡ p
place_back Free = refl
place_back First = refl
place_back Last = refl

pub same_place : (o p : Place) → number_of_place o ≡ number_of_place p → o ≡ p
same_place o p e = sym (place_back o) ∙ ap place_from e ∙ place_back p

abbrev mode_from : ℕ → Mode
mode_from zero = Plain
mode_from (suc zero) = Filter
mode_from n = Async

mode_back : (p : Mode) → mode_from (number_of_mode p) ≡ p
mode_back Plain = refl
mode_back Filter = refl
mode_back Async = refl

pub same_mode : (o p : Mode) → number_of_mode o ≡ number_of_mode p → o ≡ p
same_mode o p e = sym (mode_back o) ∙ ap mode_from e ∙ mode_back p

widths : (c : Command) → IsTrue (has_widths c) → (c.event < 64) × (c.lane < 16) × (c.requester < 256) × (c.handler < 1024) × (c.guard < 1024) × (c.target ≤ 4096)
widths c w = (grind arith, grind arith, grind arith, grind arith, grind arith, grind arith)

pub is_wide : (c : Command) → IsTrue (is_command c) → IsTrue (has_widths c) × IsTrue (bindings_or_none c.before) × IsTrue (bindings_or_none c.after)
is_wide c v = (grind arith, grind arith, grind arith)

small_number : (n : ℕ) → IsTrue (binding_or_none n) → n < 65536
small_number n e = grind arith

bounded : (ns : List ℕ) → IsTrue (list_all binding_or_none ns) → All (λ n. n < 2 ^ 16) ns
bounded [] e k d h = absurd (omega arith)
bounded (n ∷ ns) e zero d h = small_number n (grind arith)
bounded (n ∷ ns) e (suc k) d h = bounded ns (grind arith) k d (omega arith)

pub four_numbers : (ns : List ℕ) → IsTrue (bindings_or_none ns) → (length ns ≡ 4) × All (λ n. n < 2 ^ 16) ns
four_numbers ns e = (grind arith, bounded ns (grind arith))

pub fields : (c : Command) (row : Row) → IsTrue (is_command c) → row_of c ≡ row
    → (row.a / 2 ^ 15 % 1024 ≡ c.guard) × (row.a / 2 ^ 53 ≡ number_of_op c.op) × (row.a / 2 ^ 49 % 16 ≡ c.lane) × (row.a / 2 ^ 43 % 64 ≡ c.event) × (row.a / 2 ^ 35 % 256 ≡ c.requester)
    × (row.a / 2 ^ 25 % 1024 ≡ c.handler) × (row.a / 2 ^ 2 % 8 ≡ number_of_place c.place) × (row.a % 4 ≡ number_of_mode c.mode) × (row.b % 65536 ≡ c.target)
fields c row v is =
    let w = widths c (is_wide c v).0 in
    let d = digits (number_of_mode c.mode) (number_of_place c.place) c.guard c.handler c.requester c.event c.lane
    (number_of_op c.op) row.a (small_mode c.mode) (small_place c.place) w.4 w.3 w.2 w.0 w.1 (sym (ap (λ (r : Row). r.a) is)) in
    let b : c.target ≡ row.b = ap (λ (r : Row). r.b) is in
    let t = w.5 in
    (d.0, d.1, d.2, d.3, d.4, d.5, d.6, d.7, omega arith)

pub absurd_row : (x y : Row) → x ≡ y → false ≡ (nat_eq x.a y.a && (nat_eq x.b y.b && (nat_eq x.c y.c && nat_eq x.d y.d))) → ⊥
absurd_row x y e not = let a : x.a ≡ y.a = ap (λ (r : Row). r.a) e in let b : x.b ≡ y.b = ap (λ (r : Row). r.b) e in
    let c : x.c ≡ y.c = ap (λ (r : Row). r.c) e in let d : x.d ≡ y.d = ap (λ (r : Row). r.d) e in grind arith

pub absurd_valid : (b : Bool) → IsTrue b → false ≡ b → ⊥
absurd_valid true valid not = cc (not)
absurd_valid false valid not = grind arith

pub lane_field : (c : Command) (row : Row) → StandsFor row c → lane_of row ≡ c.lane
unfolding lane_of
lane_field c row stands = (fields c row stands.0 stands.1).2

pub is_of_command : (c : Command) (row : Row) → StandsFor row c → IsCommand row
unfolding IsCommand
is_of_command c row stands = (c, stands)

-- the command that a row stands for, and the two sides of the row's way back
pub command_of_row : (row : Row) → IsCommand row → (c : Command) × StandsFor row c
unfolding IsCommand
command_of_row row is = is

pub absurd_command : (row : Row) → IsCommand row → StandsForNone row → ⊥
absurd_command row is none = let found = command_of_row row is in none found.0 found.1.0 found.1.1

same_numbers : (ns ms : List ℕ) → length ns ≡ length ms → All (λ n. n < 2 ^ 16) ns → All (λ n. n < 2 ^ 16) ms → quarters ns ≡ quarters ms → ns ≡ ms
same_numbers [] [] len small small' e = refl
same_numbers [] (m ∷ ms) len small small' e = absurd (omega arith)
same_numbers (n ∷ ns) [] len small small' e = absurd (omega arith)
same_numbers (n ∷ ns) (m ∷ ms) len small small' e =
    let first : n < 2 ^ 16 = small 0 0 (omega arith) in
    let second : m < 2 ^ 16 = small' 0 0 (omega arith) in
    let head : n ≡ m = omega arith in
    let rest = same_numbers ns ms (omega arith) (λ k d h. small (suc k) d (omega arith)) (λ k d h. small' (suc k) d (omega arith)) (omega arith) in
    λ i. head i ∷ rest i

-- a row stands for at most one command
pub one_command : (row : Row) (c d : Command) → StandsFor row c → StandsFor row d → c ≡ d
one_command row c d first second =
    let f = fields c row first.0 first.1 in
    let g = fields d row second.0 second.1 in
    let w = is_wide c first.0 in
    let v = is_wide d second.0 in
    let before = four_numbers c.before w.1 in
    let before' = four_numbers d.before v.1 in
    let after = four_numbers c.after w.2 in
    let after' = four_numbers d.after v.2 in
    let rows = first.1 ∙ sym second.1 in
    let befores = same_numbers c.before d.before (before.0 ∙ sym before'.0) before.1 before'.1 (ap (λ (r : Row). r.c) rows) in
    let afters = same_numbers c.after d.after (after.0 ∙ sym after'.0) after.1 after'.1 (ap (λ (r : Row). r.d) rows) in
    let op = same_op c.op d.op (sym f.1 ∙ g.1) in
    let place = same_place c.place d.place (sym f.6 ∙ g.6) in
    let mode = same_mode c.mode d.mode (sym f.7 ∙ g.7) in
    λ i. record {
      op = op i;
      event = (sym f.3 ∙ g.3) i;
      lane = (sym f.2 ∙ g.2) i;
      requester = (sym f.4 ∙ g.4) i;
      handler = (sym f.5 ∙ g.5) i;
      guard = (sym f.0 ∙ g.0) i;
      place = place i;
      before = befores i;
      after = afters i;
      target = (sym f.8 ∙ g.8) i;
      mode = mode i;
    }
