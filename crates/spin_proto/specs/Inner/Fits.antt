-- Whether a deed is done.
use Rattle.std.specs.Prelude.{ℕ, ◌≡◌, ◌<◌, IsTrue, List, [], length}
use Rattle.spin_values.specs.declared.values.Value.{Value}
use Rattle.spin_table.specs.Setups.{SetupData}
use Rattle.spin_proto.specs.declared.reply.Reply.{Reply}
use Rattle.spin_proto.specs.Replies.{is_fit, reply_if_fit, types_in, calls_left}

-- the event is there and the arguments fit it, so its reply to them is whatever is answered
abbrev pub IsFit : SetupData → ℕ → List Value → Type 0
IsFit d event args =
    (event < length d.events)
    × ((answer : Reply) → reply_if_fit (types_in d) event args answer ≡ answer)
    × IsTrue (is_fit (types_in d) event args)

-- the reply is this refusal, whatever is answered, and no job is left
abbrev pub IsUnfit : SetupData → ℕ → List Value → Reply → Type 0
IsUnfit d event args refused =
    ((answer : Reply) → reply_if_fit (types_in d) event args answer ≡ refused)
    × (calls_left refused ≡ [])
