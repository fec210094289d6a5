-- Lanes that ended for want of memory, when their segment ends.
use Rattle.std.proofs.Common.{◌≡◌, ℕ, ◌<◌, List, [], ◌++◌, map, length, get_or, set, sym, ap, ◌∙◌, arith}
use Rattle.std.specs.Prelude.{All, Option, None, Result, Ok, Err, OnErr}
use Rattle.std.proofs.Math.Seq.{map-set_same}
use Rattle.std.proofs.lemmas.List.{get_or-map, length-map, map-append}
use Rattle.spin_table.specs.Setups.{SetupData}
use Rattle.spin_seat.specs.declared.answer.SeatFault.{SeatFault}
use Rattle.spin_report.specs.declared.entry.Entry.{Entry}
use Rattle.spin_report.specs.Asked.{Numbered}
use Rattle.spin_run.specs.declared.lane.Lane.{Lane}
use Rattle.spin_run.specs.Lanes.{HadMemory}
use Rattle.spin_run.specs.Segments.{HaveRun, HaveRunShort}

-- as all lanes run
pub run_short : (d : SetupData) (asked : List Numbered) (before after : List Lane) (given : List (List Entry)) → HaveRun d asked before after given → HaveRunShort d asked before after
run_short d asked before after given run = λ k lane lt short. (get_or given k [], (run.each k lane lt).short short)

-- the stop of a lane is as before where all stops are
stop_at : (now before : List Lane) (k : ℕ) (lane : Lane) → map (λ (l : Lane). l.stop) now ≡ map (λ (l : Lane). l.stop) before → k < length before → k < length now
    → (get_or now k lane).stop ≡ (get_or before k lane).stop
stop_at now before k lane same lt lt' =
    let none : Option SeatFault = None in
    sym (get_or-map (λ (l : Lane). l.stop) now k lane none lt') ∙ ap (λ (stops : List (Option SeatFault)). get_or stops k none) same ∙ get_or-map (λ (l : Lane). l.stop) before k lane none lt

-- and where none ended so, none has
pub none_short : (d : SetupData) (asked : List Numbered) (before ran now : List Lane) → length ran ≡ length before → map (λ (l : Lane). l.stop) now ≡ map (λ (l : Lane). l.stop) ran
    → All (λ (l : Lane). HadMemory l.stop) ran → HaveRunShort d asked before now
none_short d asked before ran now count same had = λ k lane lt short.
    let lt' : k < length ran = omega (arith, lt, count) in
    absurd (had k lane lt' (sym (stop_at now ran k lane same lt' (omega (arith, lt', count_same))) ∙ short))
  where
    count_same : length now ≡ length ran
    count_same = sym (length-map now (λ (l : Lane). l.stop)) ∙ ap length same ∙ length-map ran (λ (l : Lane). l.stop)

-- a lane of the others is another
pub stops_set : (lanes : List Lane) (k : ℕ) (old new : Lane) → new.stop ≡ (get_or lanes k old).stop → map (λ (l : Lane). l.stop) (set lanes k new) ≡ map (λ (l : Lane). l.stop) lanes
stops_set lanes k old new same = map-set_same (λ (l : Lane). l.stop) lanes k new old same

pub stops_joined : (lanes left right : List Lane) (x y a b : Lane) → lanes ≡ left ++ right → a.stop ≡ (get_or left 0 x).stop → b.stop ≡ (get_or right 0 y).stop
    → map (λ (l : Lane). l.stop) (set left 0 a ++ set right 0 b) ≡ map (λ (l : Lane). l.stop) lanes
stops_joined lanes left right x y a b parts same_a same_b =
    let f : Lane → Option SeatFault = λ l. l.stop in
    map-append f (set left 0 a) (set right 0 b) ∙ (λ i. stops_set left 0 x a same_a i ++ stops_set right 0 y b same_b i) ∙ sym (map-append f left right) ∙ ap (map f) (sym parts)

pub on_err : {T E P : Type 0} (r : Result T E) → P → OnErr r P
on_err (Ok done) h = tt
on_err (Err e) h = h
