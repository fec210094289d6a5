use Rattle.std.proofs.Common.{◌≡◌, Bool, false, [], ◌∷◌, Option, sym, ap, ◌∙◌, not}
use Rattle.spin_values.specs.First.{first_of}
use Rattle.spin_host.specs.declared.gift.GiftFault.{GiftFault}
use Rattle.spin_host.specs.declared.gift.GiftFault.TheVariants as fault
use Rattle.spin_host.specs.Gifts as specs
use Rattle.std.specs.List.{list_all}
use Rattle.spin_host.proofs.gift.gift_fault.Goals as goal

abbrev chain : Bool → Bool → Bool → Bool → Bool → Bool → Option GiftFault
chain a b c d e f = first_of ((a, fault.RunsApart) ∷ (b, fault.NoResult) ∷ (c, fault.NoFilter) ∷ (d, fault.NoArgument) ∷ (e, fault.WrongKind) ∷ (f, fault.Fixed) ∷ [])

at_last : (a b c d e f : Bool) {t : Bool} → a ≡ false → b ≡ false → c ≡ false → d ≡ false → e ≡ false → f ≡ t → chain a b c d e f ≡ chain false false false false false t
at_last a b c d e f ea eb ec ed ee ef =
    ap (λ t. chain t b c d e f) ea ∙ ap (λ t. chain false t c d e f) eb ∙ ap (λ t. chain false false t d e f) ec ∙ ap (λ t. chain false false false t e f) ed
    ∙ ap (λ t. chain false false false false t f) ee ∙ ap (λ t. chain false false false false false t) ef

pub returns-then-not-set_only_vars : goal.returns-then-not-set_only_vars
returns-then-not-set_only_vars c =
    let gift = c.args.gift.now in
    let same = sym c.as_slice-params.ensures in
    sym (
    at_last _ _ _ _ _ _
    (sym c.gives_apart.ensures ∙ c.if-gives_apart.false)
    (sym c.gives_too_much.ensures ∙ c.if-gives_too_much.false)
    (sym c.changes_amiss.ensures ∙ c.if-changes_amiss.false)
    (ap not (ap (λ ps. list_all (specs.is_known ps) gift) same ∙ sym c.are_known.ensures ∙ c.if-not-are_known.false))
    (ap not (ap (λ ps. list_all (specs.is_right ps) gift) same ∙ sym c.are_right.ensures ∙ c.if-not-are_right.false))
    (ap not (ap (λ ps. list_all (specs.sets_var ps) gift) same ∙ sym c.set_only_vars.ensures ∙ c.if-not-set_only_vars.true)))

pub returns : goal.returns
returns c =
    let gift = c.args.gift.now in
    let same = sym c.as_slice-params.ensures in
    sym (
    at_last _ _ _ _ _ _
    (sym c.gives_apart.ensures ∙ c.if-gives_apart.false)
    (sym c.gives_too_much.ensures ∙ c.if-gives_too_much.false)
    (sym c.changes_amiss.ensures ∙ c.if-changes_amiss.false)
    (ap not (ap (λ ps. list_all (specs.is_known ps) gift) same ∙ sym c.are_known.ensures ∙ c.if-not-are_known.false))
    (ap not (ap (λ ps. list_all (specs.is_right ps) gift) same ∙ sym c.are_right.ensures ∙ c.if-not-are_right.false))
    (ap not (ap (λ ps. list_all (specs.sets_var ps) gift) same ∙ sym c.set_only_vars.ensures ∙ c.if-not-set_only_vars.false)))
