-- What was given is taken over one thing after another, each from the end of the list that was turned round.
use Rattle.std.proofs.Common.{◌≡◌, List, [], ◌∷◌, ◌++◌, reverse, sym, ap, subst, ◌∙◌, append_assoc}
use Rattle.std.proofs.lemmas.List.{append-nil, reverse-append, reverse-reverse}
use Rattle.spin_values.specs.declared.values.Value.{Value}
use Rattle.spin_objects.specs.declared.item.Item.{Item}
use Rattle.spin_host.specs.declared.gift.Given.{Given}
use Rattle.spin_host.specs.Gifts.{item_of, items_given, changed, args_given}

-- so much is taken over, and this is left
pub record Taking (gift rest : List Given) (args_0 args : List Value) (out_0 out : List Item) : Type 0 where
  pub left : args_given args rest ≡ args_given args_0 gift
  pub items : out ++ items_given rest ≡ out_0 ++ items_given gift

pub taking_starts : (gift turned : List Given) (args : List Value) (out : List Item) → turned ≡ reverse gift → Taking gift (reverse turned) args args out out
taking_starts gift turned args out is =
    let back : reverse turned ≡ gift = ap (λ (xs : List Given). reverse xs) is ∙ reverse-reverse gift in
    record { left = ap (args_given args) back; items = ap (λ xs. out ++ items_given xs) back }

pub taking_on : (gift items rest : List Given) (g : Given) (args_0 args args' : List Value) (out_0 out out' : List Item) → Taking gift (reverse items) args_0 args out_0 out
    → items ≡ rest ++ g ∷ [] → args' ≡ changed args g → out' ≡ out ++ item_of g → Taking gift (reverse rest) args_0 args' out_0 out'
taking_on gift items rest g args_0 args args' out_0 out out' t is left more =
    let P : List Given → Type 0 = λ xs. Taking gift xs args_0 args out_0 out in
    let here = subst P (ap (λ (xs : List Given). reverse xs) is ∙ reverse-append rest (g ∷ [])) t in
    record {
      left = ap (λ xs. args_given xs (reverse rest)) left ∙ here.left;
      items = ap (λ xs. xs ++ items_given (reverse rest)) more ∙ append_assoc out (item_of g) (items_given (reverse rest)) ∙ here.items;
    }

pub taken_args : (gift items : List Given) (args_0 args : List Value) (out_0 out : List Item) → Taking gift (reverse items) args_0 args out_0 out → items ≡ [] → args ≡ args_given args_0 gift
taken_args gift items args_0 args out_0 out t none =
    let P : List Given → Type 0 = λ xs. Taking gift (reverse xs) args_0 args out_0 out in
    (subst P none t).left

pub taken_items : (gift items : List Given) (args_0 args : List Value) (out_0 out : List Item) → Taking gift (reverse items) args_0 args out_0 out → items ≡ [] → out ≡ out_0 ++ items_given gift
taken_items gift items args_0 args out_0 out t none =
    let P : List Given → Type 0 = λ xs. Taking gift (reverse xs) args_0 args out_0 out in
    sym (append-nil out) ∙ (subst P none t).items
