-- Items that are noted one after another, each taken from the end of the list that was turned round.
use Rattle.std.proofs.Common.{◌≡◌, ℕ, ◌<◌, List, [], ◌∷◌, ◌++◌, reverse, fold, Option, None, true, sym, ap, subst, ◌∙◌, append_assoc}
use Rattle.std.specs.List.{flat_map}
use Rattle.std.proofs.lemmas.List.{append-nil}
use Rattle.spin_objects.specs.declared.item.Item.{Item}
use Rattle.spin_objects.specs.Doing.{result_after, last_result}
use Rattle.spin_proto.specs.declared.walk.Upward.{Upward}
use Rattle.spin_proto.specs.declared.walk.Walk.{Walk}
use Rattle.spin_proto.specs.Whole.{marks_at, up_of, ups_of, starts}
use Rattle.spin_proto.specs.Inner.Walks.{Gained, Notes}
use Rattle.spin_proto.proofs.TurnedLists.{taken, turned_back}
use Rattle.spin_proto.proofs.WalkLemmas.{Owes, owes_all, owes_on, owes_spent, owes_none}

-- so many items are noted, and these are left
pub record Noting (event : ℕ) (given rest : List Item) (ups : List Upward) (last : Option ℕ) (w_0 w : Walk) : Type 0 where
  pub noted : Owes (flat_map (marks_at event) given) (flat_map (marks_at event) rest) w_0 w
  pub kept : ups ++ ups_of rest ≡ ups_of given
  pub told : fold result_after last rest ≡ last_result given

pub noting_starts : (event : ℕ) (given items : List Item) (ups : List Upward) (w : Walk)
    → items ≡ reverse given → ups ≡ [] → Noting event given (reverse items) ups None w w
noting_starts event given items ups w is none =
    let P : List Item → Type 0 = λ xs. Owes (flat_map (marks_at event) given) (flat_map (marks_at event) xs) w w in
    let back : reverse items ≡ given = turned_back given items is in
    record {
      noted = subst P (sym back) (owes_all (flat_map (marks_at event) given) w);
      kept = ap (λ (us : List Upward). us ++ ups_of (reverse items)) none ∙ ap (λ (xs : List Item). ups_of xs) back;
      told = ap last_result back;
    }

pub noting_on : (event : ℕ) (given items rest : List Item) (item : Item) (ups ups' : List Upward) (last last' : Option ℕ) (w_0 w w' : Walk)
    → Noting event given (reverse items) ups last w_0 w → items ≡ rest ++ item ∷ [] → Gained (marks_at event item) w w' → ups' ≡ ups ++ up_of item
    → last' ≡ result_after last item → Noting event given (reverse rest) ups' last' w_0 w'
noting_on event given items rest item ups ups' last last' w_0 w w' n is gained more next =
    let P : List Item → Type 0 = λ xs. Noting event given xs ups last w_0 w in
    let here = subst P (taken items rest item is) n in
    record {
      noted = owes_on (flat_map (marks_at event) given) (marks_at event item) (flat_map (marks_at event) (reverse rest)) w_0 w w' here.noted gained;
      kept = ap (λ (us : List Upward). us ++ ups_of (reverse rest)) more ∙ append_assoc ups (up_of item) (ups_of (reverse rest)) ∙ here.kept;
      told = ap (λ o. fold result_after o (reverse rest)) next ∙ here.told;
    }

pub noting_short : (event : ℕ) (given items rest : List Item) (item : Item) (ups : List Upward) (last : Option ℕ) (w_0 w : Walk) → Noting event given (reverse items) ups last w_0 w
    → items ≡ rest ++ item ∷ [] → w.left < starts (marks_at event item) → w_0.left < starts (flat_map (marks_at event) given)
noting_short event given items rest item ups last w_0 w n is short =
    let P : List Item → Type 0 = λ xs. Noting event given xs ups last w_0 w in
    let here = subst P (taken items rest item is) n in
    owes_spent (flat_map (marks_at event) given) (marks_at event item) (flat_map (marks_at event) (reverse rest)) w_0 w here.noted short

pub noting_ends : (event : ℕ) (given items : List Item) (ups : List Upward) (last : Option ℕ) (w_0 w : Walk)
    → Noting event given (reverse items) ups last w_0 w → items ≡ [] → Notes true ups event given w_0 w × (last ≡ last_result given)
noting_ends event given items ups last w_0 w n none =
    let P : List Item → Type 0 = λ xs. Noting event given (reverse xs) ups last w_0 w in
    let here = subst P none n in
    ((sym (append-nil ups) ∙ here.kept, owes_none (flat_map (marks_at event) given) w_0 w here.noted), here.told)
