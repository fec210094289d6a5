-- What the parties of a run do.
use Rattle.std.specs.Prelude.{◌≡◌, ℕ, ◌<◌, List, [], Option, None, map, All, IfSome, IsSomeAnd, slice_get}
use Rattle.std.specs.List.{AllZip, flat_map}
use Rattle.spin_table.specs.Setups.{SetupData}
use Rattle.spin_proto.specs.declared.reply.Reply.{Reply}
use Rattle.spin_later.specs.declared.batch.Call.{Call}
use Rattle.spin_later.specs.declared.doing.Done.{Done}
use Rattle.spin_later.specs.declared.worker.Worker.{Worker}
use Rattle.spin_later.specs.Batches.{IsReplyTo}
use Rattle.spin_later.specs.Parties.{PartyValue, QueueValue, IsPartyOf}

-- the batches have a call under this sender and number, and this is the reply to it
abbrev pub IsRight : SetupData → List (List Call) → Done → Type 0
IsRight d batches done =
    IsSomeAnd (slice_get batches done.sender) (λ batch.
    IsSomeAnd (slice_get batch done.number) (λ call. IsReplyTo d call done.reply))

-- a worker that has done nothing
abbrev pub IsIdle : Worker → Type 0
IsIdle w = w.done.items ≡ []

-- a worker of this queue that has not begun, and has one of so many batches
abbrev pub IsFresh : QueueValue → ℕ → Worker → Type 0
IsFresh q batches w =
    IsPartyOf q w.party × (w.party.number < batches) × (w.party.sent ≡ []) × IsIdle w

-- a worker of this queue that has ended: its replies are right
abbrev pub HasEnded : QueueValue → SetupData → List (List Call) → Worker → Type 0
HasEnded q d batches w = IsPartyOf q w.party × All (IsRight d batches) w.done.items

-- the parties of workers, their numbers, and all that they did, in order
abbrev pub parties_of : List Worker → List PartyValue
parties_of team = map (λ w. w.party) team

abbrev pub numbers_of : List Worker → List ℕ
numbers_of team = map (λ w. w.party.number) team

abbrev pub done_by : List Worker → List Done
done_by team = flat_map (λ w. w.done.items) team

-- a place for the reply to a call: it is empty, or has that reply
abbrev pub IsPlaceOf : SetupData → Call → Option Reply → Type 0
IsPlaceOf d call place = IfSome place (IsReplyTo d call)

-- an empty place for the reply to each call of a batch
abbrev pub AreEmpty : List Call → List (Option Reply) → Type 0
AreEmpty batch places = AllZip (λ _ place. place ≡ None) batch places

-- a place for the reply to each call of a batch
abbrev pub ArePlaces : SetupData → List Call → List (Option Reply) → Type 0
ArePlaces d batch places = AllZip (IsPlaceOf d) batch places
