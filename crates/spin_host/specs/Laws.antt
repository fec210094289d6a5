-- What holds of whole open raises.
use Rattle.std.specs.Prelude.{ℕ, ◌≡◌, ◌≤◌, true, List, [], ◌∷◌, map, flat_map, slice_get, Some, if◌then◌else◌}
use Rattle.std.specs.List.{All}
use Rattle.spin_values.specs.declared.types.EventType.{EventType}
use Rattle.spin_values.specs.declared.values.Value.{Value}
use Rattle.spin_objects.specs.declared.item.Item.{Item}
use Rattle.spin_place.specs.declared.binding.Binding.{Binding}
use Rattle.spin_plan.specs.Next.{guards_hold}
use Rattle.spin_raise.specs.declared.answer.Answer.{Answer}
use Rattle.spin_raise.specs.declared.bound.Runner.TheVariants as runner
use Rattle.spin_raise.specs.Firing.{Units, Bound, fired, items_by, answer_of, args_left}
use Rattle.spin_table.specs.Setups.{SetupData}
use Rattle.spin_table.specs.States.{State}
use Rattle.spin_word.specs.declared.work.Deed.TheVariants as deed
use Rattle.spin_proto.specs.declared.reply.Reply.TheVariants as reply
use Rattle.spin_proto.specs.declared.reply.TheConstants.{MAX_RUNS}
use Rattle.spin_proto.specs.Replies.{AreBounds, IsDeedReply, are_fit, types_in, units_in}
use Rattle.spin_proto.specs.Whole.{calls_of, marks_at, starts, step_of, ups_of}
use Rattle.spin_host.specs.OpenRaises.{Next, Reached, Unreached, Fate, Done, Declined, Told, Standing, front, fires, after, after_all}
use Rattle.spin_host.specs.OpenRaises.{IsOpenRaise, items_told}

-- where each act was done, the open raise is the plain dispatcher's raise of the event
abbrev pub DoneIsPlain : Type 0
DoneIsPlain =
    (u : Units) (sig : EventType) (e : Bound) (args : List Value) (told : List Told) (a : Answer)
    → IsOpenRaise u sig e args told a → All (λ (t : Told). t.fate ≡ Done) told
    → (a ≡ answer_of e.merge (fired runner.Raiser u e args))
    × (items_told u e args told ≡ flat_map items_by (fired runner.Raiser u e args))
    × ((after_all u e (front args) told).args ≡ args_left args (fired runner.Raiser u e args))

-- and where nothing is raised upwards besides, and no more handlers start than may, its answer and its steps are those
-- of the reply to the deed
abbrev pub DoneIsDeedReply : Type 0
DoneIsDeedReply =
    (d : SetupData) (s : State) (bounds : List Bound) (event : ℕ) (sig : EventType) (e : Bound) (args : List Value)
    (told : List Told) (a : Answer)
    → AreBounds d.events s.events bounds → slice_get bounds event ≡ Some e → slice_get (types_in d) event ≡ Some sig
    → are_fit sig args ≡ true → IsOpenRaise (units_in d) sig e args told a → All (λ (t : Told). t.fate ≡ Done) told
    → let items : List Item = items_told (units_in d) e args told in
    let marks = flat_map (marks_at event) items in
    ups_of items ≡ [] → starts marks ≤ MAX_RUNS
    → IsDeedReply d s (deed.Raise event args) (reply.Ran a (map step_of marks) (flat_map calls_of marks))

-- what the host's guard declined changes neither what fired, of which the answer is made, nor the arguments
abbrev pub DeclinedIsNothing : Type 0
DeclinedIsNothing =
    (u : Units) (e : Bound) (s : Standing) (t : Told) → t.fate ≡ Declined
    → ((after u e s t).fired ≡ s.fired) × ((after u e s t).args ≡ s.args)

-- the bindings among what was told
abbrev pub binding_in : Next → List Binding
binding_in (Reached at b) = b ∷ []
binding_in (Unreached default) = []

abbrev pub first_fate : List Fate → Fate
first_fate [] = Declined
first_fate (fate ∷ fates) = fate

abbrev pub other_fates : List Fate → List Fate
other_fates [] = []
other_fates (fate ∷ fates) = fates

-- along the bindings: those are reached whose guards hold on the arguments as they stand, and have these fates in order
abbrev pub reached : Units → List Binding → List Value → List Fate → List Binding
reached u [] args fates = []
reached u (b ∷ bs) args fates =
    if guards_hold u.tests args b
    then b ∷ reached u bs (args_left args (fires u args (Reached 0 b) (first_fate fates))) (other_fates fates)
    else reached u bs args fates

-- the bindings that were told are, in order, just those that were reached
abbrev pub FiringsAreReached : Type 0
FiringsAreReached =
    (u : Units) (sig : EventType) (e : Bound) (args : List Value) (told : List Told) (a : Answer)
    → IsOpenRaise u sig e args told a
    → flat_map (λ (t : Told). binding_in t.next) told ≡ reached u e.bindings args (map (λ (t : Told). t.fate) told)

-- the answer hangs on nothing but what was told
abbrev pub EndIsOne : Type 0
EndIsOne =
    (u : Units) (sig : EventType) (e : Bound) (args : List Value) (told : List Told) (a b : Answer)
    → IsOpenRaise u sig e args told a → IsOpenRaise u sig e args told b → a ≡ b
