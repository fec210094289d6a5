-- What the answers of `look` and `publish` say of the pen.
use Rattle.std.specs.Prelude.{◌≡◌, ◌<◌, length}
use Rattle.spin_word.specs.declared.command.TheConstants.{MAX_PLACE}
use Rattle.spin_word.specs.declared.row.Row.{Row}
use Rattle.spin_log.specs.declared.log.Look.{Look}
use Rattle.spin_log.specs.declared.log.Look.TheVariants.{Entry, Pinned}
use Rattle.spin_log.specs.declared.log.Publish.{Publish}
use Rattle.spin_log.specs.declared.log.Publish.TheVariants.{Done, Lost, Full}
use Rattle.spin_log.specs.Rows.{IsRowOfOther}
use Rattle.spin_log.specs.Pens.{PenValue, read, pinned_at_front, written}

-- the next row was this one, of another lane, and the pen has read it
abbrev pub Reads : PenValue → Row → PenValue → Type 0
Reads old row new =
    (new ≡ read old row)
    × IsRowOfOther old.lanes old.lane row
    × (length old.front < MAX_PLACE)

-- the pen has read the next row; or there was none, and a pin is added
abbrev pub Looks : PenValue → Look → PenValue → Type 0
Looks old (Entry row) new = Reads old row new
Looks old Pinned new = new ≡ pinned_at_front old

-- the row was added after the front; or the next row was another, and the pen has read it; or the
-- log has no room
abbrev pub Publishes : PenValue → Row → Publish → PenValue → Type 0
Publishes old row Done new = (new ≡ written old row) × (length old.front < MAX_PLACE)
Publishes old row (Lost other) new = Reads old other new
Publishes old row Full new = (new ≡ old) × (length old.front ≡ MAX_PLACE)
