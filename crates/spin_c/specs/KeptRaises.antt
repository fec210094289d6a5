-- What a raise leaves in a handle.
use Rattle.std.specs.Prelude.{◌≡◌, ℕ, Option, None, Some}
use Rattle.spin_word.specs.declared.work.Deed.{Deed}
use Rattle.spin_table.specs.Setups.{SetupData}
use Rattle.spin_proto.specs.declared.reply.Reply.{Reply}
use Rattle.spin_proto.specs.Replies.{calls_left}
use Rattle.spin_seat.specs.Calls.{GivesFrom, reply_answer}
use Rattle.spin_seat.specs.Replay.{IsReplayFrom}
use Rattle.spin_seat.specs.Seats.{SeatValue, version_of}
use Rattle.spin_c.specs.Kept.{Left, pinned_for, replied}
use Rattle.spin_c.specs.Trails.{told_of}
use Rattle.spin_c.specs.declared.ask.Told.{Told}

-- the deed was done on the seat; its reply is kept, with the version on which its jobs are done, and is told with its place
abbrev pub IsKeptRaise : SetupData → SeatValue → SeatValue → Deed → ℕ × Told → Option Left → Type 0
IsKeptRaise d before after did told left =
    (reply : Reply)
    × (left ≡ Some (replied record {
      reply = reply;
      pinned = pinned_for (calls_left reply) (version_of after);
      job = None;
    }))
    × (told.1 ≡ told_of reply)
    × IsReplayFrom d before.base after.pen.front after.state
    × GivesFrom d before.base before.pen (reply_answer before.pen.lane did told.0 reply) after.pen
