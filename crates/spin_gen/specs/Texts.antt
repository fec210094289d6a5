-- The script and the capture of a number.
use Rattle.std.specs.Prelude.{ℕ, List, ◌++◌}
use Rattle.spin_script.specs.Canonical.{version_text, text_of_lines}
use Rattle.spin_gen.specs.Drafts.{drafts, lines_of, state_behind}
use Rattle.spin_gen.specs.Records.{capture_of}

-- the script in its canonical text: all draws follow from the number
abbrev pub script_of : ℕ → List ℕ
script_of number = version_text 1 ++ text_of_lines (lines_of number drafts)

-- the capture, for which is drawn behind the script
abbrev pub packets_of : ℕ → List ℕ
packets_of number = capture_of (state_behind number drafts)
