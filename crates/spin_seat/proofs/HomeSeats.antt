-- What a key tells of a seat at home.
use Rattle.std.proofs.Common.{◌≡◌, ℕ, ◌<◌, List, [], ◌∷◌, ◌++◌, refl, sym, ap, ◌∙◌, subst, arith, length}
use Rattle.std.specs.Prelude.{All, Some, slice_get}
use Rattle.std.proofs.lemmas.List.{append_assoc}
use Rattle.std.proofs.lemmas.List.Elements.{All-head}
use Rattle.std.proofs.lemmas.Option.{get_or_from_slice_get, slice_get_within}
use base.Stored.{Gv, gnil, gnum, gcons}
use Rattle.atomic_table.specs.Seated.{TableId, table_id_coded}
use Rattle.spin_table.specs.Setups.{SetupData}
use Rattle.spin_table.specs.States.{State}
use Rattle.spin_seat.specs.Seats.{SeatValue, IsSeat, IsSeatFrom, AreFrom}
use Rattle.spin_seat.specs.declared.home.HomeKey.{HomeKey}
use Rattle.spin_seat.specs.Codes.{flat, setup_code, state_code, log_numbers, setup_numbers, state_numbers}
use Rattle.spin_seat.specs.Homes.{IsKeyOf, IsSeatAt, IsHomeSeat}

abbrev first_number : List ℕ → ℕ
first_number [] = 0
first_number (n ∷ ns) = n

abbrev other_numbers : List ℕ → List ℕ
other_numbers [] = []
other_numbers (n ∷ ns) = ns

-- no two trees begin one list
apart : (a b : Gv) (r s : List ℕ) → flat a ++ r ≡ flat b ++ s → (a ≡ b) × (r ≡ s)
unfolding flat
apart gnil gnil r s e = (refl, ap other_numbers e)
apart gnil (gnum n) r s e = let h : ◌≡◌ {A = ℕ} 0 1 = ap first_number e in absurd (omega arith)
apart gnil (gcons c d) r s e = let h : ◌≡◌ {A = ℕ} 0 2 = ap first_number e in absurd (omega arith)
apart (gnum m) gnil r s e = let h : ◌≡◌ {A = ℕ} 1 0 = ap first_number e in absurd (omega arith)
apart (gnum m) (gnum n) r s e = (ap (λ l. gnum (first_number (other_numbers l))) e, ap (λ l. other_numbers (other_numbers l)) e)
apart (gnum m) (gcons c d) r s e = let h : ◌≡◌ {A = ℕ} 1 2 = ap first_number e in absurd (omega arith)
apart (gcons a b) gnil r s e = let h : ◌≡◌ {A = ℕ} 2 0 = ap first_number e in absurd (omega arith)
apart (gcons a b) (gnum n) r s e = let h : ◌≡◌ {A = ℕ} 2 1 = ap first_number e in absurd (omega arith)
apart (gcons a b) (gcons c d) r s e =
    let same : flat a ++ (flat b ++ r) ≡ flat c ++ (flat d ++ s) = sym (append_assoc (flat a) (flat b) r) ∙ ap other_numbers e ∙ append_assoc (flat c) (flat d) s in
    let first = apart a c (flat b ++ r) (flat d ++ s) same in
    let second = apart b d r s first.1 in
    ((λ i. gcons (first.0 i) (second.0 i)), second.1)

one_tree : (a b : Gv) → flat a ≡ flat b → a ≡ b
one_tree a b e = (apart a b [] [] (ap (λ l. l ++ []) e)).0

one_log : (log other : TableId) → log_numbers log ≡ log_numbers other → log ≡ other
unfolding log_numbers
one_log log other same = table_id_coded.inj log other (one_tree _ _ same)

one_setup : (d e : SetupData) → setup_numbers d ≡ setup_numbers e → d ≡ e
unfolding setup_numbers
one_setup d e same = setup_code.inj d e (one_tree _ _ same)

one_state : (s t : State) → state_numbers s ≡ state_numbers t → s ≡ t
unfolding state_numbers
one_state s t same = state_code.inj s t (one_tree _ _ same)

-- a seat at home is the one of its lane
pub known : (key : HomeKey) (log : TableId) (d : SetupData) (first : State) (lane : ℕ) (seat : SeatValue)
    → IsKeyOf key log d first → IsHomeSeat key lane seat → IsSeatAt log d first lane seat
known key log d first lane seat k h = record {
  own = one_log seat.pen.log log (sym h.key_is.log_is ∙ k.log_is);
  lane_is = h.lane_is;
  is_seat = (
    subst (λ e. IsSeat e seat) (one_setup h.d d (sym h.key_is.setup_is ∙ k.setup_is)) h.is_seat,
    one_state seat.base first (sym h.key_is.first_is ∙ k.first_is),
  );
}

-- and that one may be at home
pub at_home : (key : HomeKey) (log : TableId) (d : SetupData) (first : State) (lane : ℕ) (seat : SeatValue)
    → IsKeyOf key log d first → IsSeatAt log d first lane seat → IsHomeSeat key lane seat
at_home key log d first lane seat k s = record {
  d = d;
  key_is = record {
    log_is = k.log_is ∙ ap log_numbers (sym s.own);
    setup_is = k.setup_is;
    first_is = k.first_is ∙ ap state_numbers (sym s.is_seat.1);
  };
  lane_is = s.lane_is;
  is_seat = s.is_seat.0;
}

pub key_from : (key : HomeKey) (log : TableId) (d : SetupData) (s first : State) → IsKeyOf key log d s → s ≡ first → IsKeyOf key log d first
key_from key log d s first k e = subst (λ (t : State). IsKeyOf key log d t) e k

-- the first of seats tells the first state of all
pub first_of : (d : SetupData) (s : State) (seats : List SeatValue) (seat : SeatValue) → All (IsSeatFrom d s) seats → slice_get seats 0 ≡ Some seat → seat.base ≡ s
first_of d s seats seat all at =
    ap (λ (t : SeatValue). t.base) (sym (get_or_from_slice_get seats 0 seat seat at)) ∙ (all 0 seat (slice_get_within seats 0 seat at)).1

pub one_first : (d : SetupData) (s first : State) (seats : List SeatValue) → 0 < length seats → All (IsSeatFrom d s) seats → AreFrom first seats → s ≡ first
one_first d s first [] some all from = absurd (omega (arith, some))
one_first d s first (x ∷ xs) some all from =
    sym (All-head (IsSeatFrom d s) x xs all).1 ∙ All-head (λ (t : SeatValue). t.base ≡ first) x xs from
