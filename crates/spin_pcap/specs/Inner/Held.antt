-- A record that is held.
use Rattle.std.specs.Prelude.{◌≡◌, ◌+◌, ◌<◌, ◌≤◌, length, drop}
use Rattle.spin_pcap.specs.declared.limits.TheConstants.{MAX_CAPTURED, MAX_RECORDS}
use Rattle.spin_pcap.specs.declared.state.State.TheVariants as state
use Rattle.spin_pcap.specs.Captures.{captured_length}
use Rattle.spin_pcap.specs.Passing.{ReaderState}

-- A reader that reads held the whole record that comes next, which was allowed, and went past it.
pub record HasPassed (before after : ReaderState) : Type 0 where
  pub reading : before.state ≡ state.Reading
  pub few : before.given < MAX_RECORDS
  pub small : captured_length before.order before.held ≤ MAX_CAPTURED
  pub whole : 16 + captured_length before.order before.held ≤ length before.held
  pub reader : after ≡ record before {
    held = drop (16 + captured_length before.order before.held) before.held;
    given = before.given + 1;
  }
