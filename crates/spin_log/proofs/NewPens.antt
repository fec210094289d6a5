-- The pens of a new log.
use Rattle.std.proofs.Common.{◌≡◌, ℕ, zero, suc, ◌+◌, ◌-◌, ◌<◌, ◌≤◌, List, [], ◌∷◌, ◌++◌, map, refl, sym, ap, ◌∙◌, subst, arith}
use Rattle.std.proofs.lemmas.List.{map-append}
use Rattle.std.proofs.lemmas.List.Elements.{All-nil}
use Rattle.atomic_table.specs.Seated.{TableId}
use Rattle.spin_log.specs.declared.view.Hand.{Hand}
use Rattle.spin_word.specs.declared.command.TheConstants.{MAX_LANES}
use Rattle.spin_log.specs.Rows.{IsCommandBelow, size_of}
use Rattle.spin_log.specs.Rule.{holding, new_hand, new_hands}
use Rattle.spin_log.specs.Steps.{Mine, without_first, first_alone}
use Rattle.spin_log.specs.Pens.{pen_value, only_hand, first_pens}
use Rattle.spin_log.specs.Inner.Seats.{IsPenSeat}

next_hand : (lane lanes : ℕ) → lane < lanes → new_hands lanes lane (lanes - lane) ≡ new_hand lanes lane ∷ new_hands lanes (lane + 1) (lanes - (lane + 1))
next_hand lane lanes less = let n : lanes - lane ≡ suc (lanes - (lane + 1)) = omega arith in ap (λ (n : ℕ). new_hands lanes lane n) n

pub first_of : (lane lanes : ℕ) (me : Mine) → lane < lanes → me ≡ (holding (new_hands lanes lane (lanes - lane)), []) → first_alone me.0 ≡ holding (new_hand lanes lane ∷ [])
first_of lane lanes me less is = ap (λ (m : Mine). first_alone m.0) is ∙ ap (λ (hands : List Hand). first_alone (holding hands)) (next_hand lane lanes less)

pub rest_of : (lane lanes : ℕ) (me : Mine) → lane < lanes → me ≡ (holding (new_hands lanes lane (lanes - lane)), [])
    → ◌≡◌ {A = Mine} (without_first me.0, me.1) (holding (new_hands lanes (lane + 1) (lanes - (lane + 1))), [])
rest_of lane lanes me less is =
    let f : Mine → Mine = λ m. (without_first m.0, m.1) in
    ap f is ∙ ap (λ (hands : List Hand). f (holding hands, [])) (next_hand lane lanes less)

pub new_seat : (id : TableId) (me : Mine) (lanes lane : ℕ) → id.words ≡ size_of lanes → lanes ≤ MAX_LANES → lane < lanes → me ≡ (holding (new_hand lanes lane ∷ []), []) → IsPenSeat id me lane 0 0
new_seat id me lanes lane size few below is = subst (λ (m : Mine). IsPenSeat id m lane 0 0) (sym is) record {
  alone = refl;
  table = size;
  lane_is = refl;
  front = refl;
  rows = refl;
  pen = record {
    few = few;
    below = below;
    room = omega arith;
    commands = All-nil (IsCommandBelow lanes);
    own = refl;
    rising = λ i j d le h. absurd (omega arith);
    reached = All-nil (λ (pin : ℕ). pin ≤ 0);
  };
}

hands-push : (lanes from n : ℕ) → new_hands lanes from (suc n) ≡ new_hands lanes from n ++ new_hand lanes (from + n) ∷ []
hands-push lanes from zero = let e : from ≡ from + 0 = omega arith in ap (λ (lane : ℕ). new_hand lanes lane ∷ []) e
hands-push lanes from (suc n) = let e : (from + 1) + n ≡ from + suc n = omega arith in
    ap (λ (hands : List Hand). new_hand lanes from ∷ hands) (hands-push lanes (from + 1) n ∙ ap (λ (lane : ℕ). new_hands lanes (from + 1) n ++ new_hand lanes lane ∷ []) e)

pub pens-push : (id : TableId) (lanes lane : ℕ) → first_pens id lanes (lane + 1) ≡ first_pens id lanes lane ++ pen_value id (new_hand lanes lane) ∷ []
pens-push id lanes lane =
    let n : lane + 1 ≡ suc lane = omega arith in
    let z : 0 + lane ≡ lane = omega arith in
    ap (λ (n : ℕ). first_pens id lanes n) n ∙ ap (map (pen_value id)) (hands-push lanes 0 lane ∙ ap (λ (k : ℕ). new_hands lanes 0 lane ++ new_hand lanes k ∷ []) z)
    ∙ map-append (pen_value id) (new_hands lanes 0 lane) (new_hand lanes lane ∷ [])

pub pen_value_of : (id : TableId) (me : Mine) (lanes lane : ℕ) → me ≡ (holding (new_hand lanes lane ∷ []), []) → pen_value id (only_hand me.0.hands) ≡ pen_value id (new_hand lanes lane)
pen_value_of id me lanes lane is = ap (λ (m : Mine). pen_value id (only_hand m.0.hands)) is
