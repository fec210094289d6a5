use Rattle.spin_c.proofs.RoomLeft as room
use Rattle.spin_c.proofs.law.commands_leave_room.Goals as goal

pub returns : goal.returns
returns c = room.commands_leave_room
