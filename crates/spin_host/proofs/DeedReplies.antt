-- An open raise in which each act was done and nothing is raised upwards has the steps of the reply to the deed.
use Rattle.std.proofs.Common.{◌≡◌, ℕ, ◌≤◌, false, cond, List, [], ◌∷◌, ◌++◌, map, refl, sym, ap, ◌∙◌, arith, nat_lt}
use Rattle.std.specs.Prelude.{flat_map}
use Rattle.std.specs.Option.{option_map_or}
use Rattle.std.proofs.lemmas.Bool.Decides.{nat_tests}
use Rattle.std.proofs.lemmas.List.{append-nil}
use Rattle.std.proofs.lemmas.Grind.{flat_map-append}
use Rattle.spin_values.specs.declared.types.EventType.{EventType}
use Rattle.spin_values.specs.declared.values.Value.{Value}
use Rattle.spin_objects.specs.declared.item.Item.{Item}
use Rattle.spin_raise.specs.declared.answer.Answer.{Answer}
use Rattle.spin_raise.specs.declared.bound.Runner.TheVariants as runner
use Rattle.spin_raise.specs.Firing.{Units, Firing, fired, items_by}
use Rattle.spin_word.specs.declared.work.Deed.TheVariants as deed
use Rattle.spin_proto.specs.declared.reply.Reply.{Reply}
use Rattle.spin_proto.specs.declared.reply.Reply.TheVariants as reply
use Rattle.spin_proto.specs.declared.reply.TheConstants.{MAX_RUNS}
use Rattle.spin_proto.specs.Replies.{are_fit, types_in, units_in, reply_if_fit, deed_reply}
use Rattle.spin_proto.specs.Whole.{Mark, Raised, calls_of, marks_at, marks_of, marks_up, raised, raised_after, reply_of, starts, step_of, up_of, ups_of}
use Rattle.spin_proto.proofs.RaiseTurns.{raised_at}
use Rattle.spin_host.specs.OpenRaises.{items_told}
use Rattle.spin_host.specs.Laws.{DoneIsDeedReply}
use Rattle.spin_host.proofs.PlainRaises.{done_is_plain}

none_first : {X : Type 0} (xs ys : List X) → xs ++ ys ≡ [] → xs ≡ []
none_first [] ys e = refl
none_first (x ∷ xs) ys e = cc

none_rest : {X : Type 0} (xs ys : List X) → xs ++ ys ≡ [] → ys ≡ []
none_rest [] ys e = e
none_rest (x ∷ xs) ys e = cc

-- the steps of firings that raise nothing upwards
level_marks : (event : ℕ) (raise : ℕ → List Value → Raised) (fs : List Firing) → ups_of (flat_map items_by fs) ≡ []
    → flat_map (λ f. marks_of event raise (items_by f)) fs ≡ flat_map (marks_at event) (flat_map items_by fs)
level_marks event raise [] none = refl
level_marks event raise (f ∷ fs) none =
    let both : ups_of (items_by f) ++ ups_of (flat_map items_by fs) ≡ [] = sym (flat_map-append up_of (items_by f) (flat_map items_by fs)) ∙ none in
    let first : marks_of event raise (items_by f) ≡ flat_map (marks_at event) (items_by f) =
    ap (λ us. flat_map (marks_at event) (items_by f) ++ flat_map (marks_up raise) us) (none_first (ups_of (items_by f)) (ups_of (flat_map items_by fs)) both)
    ∙ append-nil (flat_map (marks_at event) (items_by f)) in
    ap (λ ms. ms ++ flat_map (λ f. marks_of event raise (items_by f)) fs) first
    ∙ ap (λ ms. flat_map (marks_at event) (items_by f) ++ ms) (level_marks event raise fs (none_rest (ups_of (items_by f)) (ups_of (flat_map items_by fs)) both))
    ∙ sym (flat_map-append (marks_at event) (items_by f) (flat_map items_by fs))

ran_within : (limit : ℕ) (a : Answer) (marks : List Mark) → starts marks ≤ limit → reply_of limit record { answer = a; marks = marks } ≡ reply.Ran a (map step_of marks) (flat_map calls_of marks)
ran_within limit a marks few =
    let within : nat_lt limit (starts marks) ≡ false = not_over limit (starts marks) few in
    ap (λ t. cond t reply.Spent (reply.Ran a (map step_of marks) (flat_map calls_of marks))) within
  where
    not_over : (limit n : ℕ) → n ≤ limit → nat_lt limit n ≡ false
    not_over limit n few = grind (arith, nat_tests)

pub done_is_deed_reply : DoneIsDeedReply
done_is_deed_reply d s bounds event sig e args told a are here typed fit r done none few =
    let u : Units = units_in d in
    let items : List Item = items_told u e args told in
    let marks : List Mark = flat_map (marks_at event) items in
    let plain = done_is_plain u sig e args told a r done in
    let all : List Firing = fired runner.Raiser u e args in
    let raise : ℕ → List Value → Raised = raised_after runner.Raiser u bounds event in
    let level : flat_map (λ f. marks_of event raise (items_by f)) all ≡ marks =
    level_marks event raise all (ap ups_of (sym plain.1) ∙ none) ∙ ap (λ xs. flat_map (marks_at event) xs) (sym plain.1) in
    let same : raised runner.Raiser u bounds 0 event args ≡ record { answer = a; marks = marks } =
    raised_at runner.Raiser u bounds e event args here
    ∙ ap (λ (x : Answer). the_raised x (flat_map (λ f. marks_of event raise (items_by f)) all)) (sym plain.0)
    ∙ ap (λ ms. the_raised a ms) level in
    let is : deed_reply u bounds (types_in d) (deed.Raise event args) ≡ reply.Ran a (map step_of marks) (flat_map calls_of marks) =
    ap (λ (x : Raised). reply_if_fit (types_in d) event args (reply_of MAX_RUNS x)) same
    ∙ ap (λ (x : Reply). reply_if_fit (types_in d) event args x) (ran_within MAX_RUNS a marks few)
    ∙ ap (λ o. option_map_or (λ (g : EventType). cond (are_fit g args) (reply.Ran a (map step_of marks) (flat_map calls_of marks)) reply.WrongArgs) o reply.UnknownEvent) typed
    ∙ ap (λ t. cond t (reply.Ran a (map step_of marks) (flat_map calls_of marks)) reply.WrongArgs) fit in
    (bounds, are, sym is)
  where
    the_raised : Answer → List Mark → Raised
    the_raised x ms = record { answer = x; marks = ms }
