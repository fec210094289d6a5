-- The text so far, and the state of what is drawn.
use Rattle.std.specs.Prelude.{◌≡◌, ℕ, List, ◌++◌}
use Rattle.spin_script.specs.Canonical.{version_text, text_of_lines}
use Rattle.spin_gen.specs.Drafts.{Draft, head_lines, packet_lines, lines_of, state_behind}

-- the text of the lines, where x is the state before the first draw
unfoldable pub text_behind : ℕ → List Draft → List ℕ
text_behind x ds = text_of_lines (lines_of x ds)

-- The text of these lines was appended, and their numbers were drawn.
pub record Writes (out : List ℕ) (x : ℕ) (ds : List Draft) (out' : List ℕ) (x' : ℕ) : Type 0 where
  pub text : out' ≡ out ++ text_behind x ds
  pub state : x' ≡ state_behind x ds

-- the text before the first barrier
unfoldable pub head_text : List ℕ
head_text = version_text 1 ++ text_of_lines head_lines

-- the text of the lines by which the first lanes take records
unfoldable pub packets_text : ℕ → List ℕ
packets_text lanes = text_of_lines (packet_lines lanes)
