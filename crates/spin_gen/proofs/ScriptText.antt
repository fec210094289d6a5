-- The text of lines for which is drawn, one after another.
use Rattle.std.proofs.Common.{◌≡◌, ◌∙◌, ℕ, ◌+◌, List, [], ◌∷◌, ◌++◌, map, refl, sym, ap, add-one}
use Rattle.std.specs.List.{flat_map, range_with_len}
use Rattle.std.proofs.lemmas.List.{append-nil, append_assoc, map-append}
use Rattle.std.proofs.lemmas.List.Concat.{flat_map-append}
use Rattle.spin_grammar.specs.Lines.{LineMeaning, Barrier}
use Rattle.spin_script.specs.Canonical.{line_text, text_of_lines, version_text}
use Rattle.spin_gen.specs.Numbers.{state_after}
use Rattle.spin_gen.specs.Drafts.{Draft, Stated, draws_of, line_of, lines_of, state_behind, lane_draft, lane_drafts, segment_drafts, segments_drafts, packet_line, packet_lines, head_lines, drafts}
use Rattle.spin_gen.specs.Texts.{script_of}
use Rattle.spin_gen.specs.Inner.Writing.{text_behind, Writes, head_text, packets_text}
use Rattle.spin_gen.proofs.DrawLemmas.{none_after, range_more}

-- ---- joining

state_joined : (x : ℕ) (a b : List Draft) → state_behind x (a ++ b) ≡ state_behind (state_behind x a) b
unfolding state_behind
state_joined x [] b = refl
state_joined x (d ∷ a) b = state_joined (state_after (draws_of d) x) a b

pub lines_joined : (x : ℕ) (a b : List Draft) → lines_of x (a ++ b) ≡ lines_of x a ++ lines_of (state_behind x a) b
unfolding lines_of state_behind
lines_joined x [] b = refl
lines_joined x (d ∷ a) b = ap (λ (ls : List LineMeaning). line_of x d ∷ ls) (lines_joined (state_after (draws_of d) x) a b)

text_joined : (x : ℕ) (a b : List Draft) → text_behind x (a ++ b) ≡ text_behind x a ++ text_behind (state_behind x a) b
unfolding text_behind
text_joined x a b =
    ap text_of_lines (lines_joined x a b) ∙ flat_map-append line_text (lines_of x a) (lines_of (state_behind x a) b)

-- nothing was written
pub writes_none : (out : List ℕ) (x : ℕ) → Writes out x [] out x
unfolding text_behind lines_of state_behind
writes_none out x = record { text = sym (append-nil out); state = refl }

-- one line was written
pub writes_line : (out : List ℕ) (x : ℕ) (d : Draft) (out' : List ℕ) (x' : ℕ) →
    out' ≡ out ++ line_text (line_of x d) → x' ≡ state_after (draws_of d) x →
    Writes out x (d ∷ []) out' x'
unfolding text_behind lines_of state_behind
writes_line out x d out' x' text state = record {
  text = text ∙ ap (λ (t : List ℕ). out ++ t) (sym (append-nil (line_text (line_of x d))));
  state = state;
}

-- some lines were written, and then some more
pub writes_more : (out : List ℕ) (x : ℕ) (a b : List Draft) (out' : List ℕ) (x' : ℕ) (out'' : List ℕ) (x'' : ℕ) →
    Writes out x a out' x' → Writes out' x' b out'' x'' → Writes out x (a ++ b) out'' x''
writes_more out x a b out' x' out'' x'' first second = record {
  text =
      second.text ∙ (λ i. first.text i ++ text_behind (first.state i) b)
      ∙ append_assoc out (text_behind x a) (text_behind (state_behind x a) b)
      ∙ ap (λ (t : List ℕ). out ++ t) (sym (text_joined x a b));
  state = second.state ∙ ap (λ (s : ℕ). state_behind s b) first.state ∙ sym (state_joined x a b);
}

-- ---- the lines of lanes and segments

-- no line of a lane
pub lane_none : (lane : ℕ) → lane_drafts 0 lane ≡ []
unfolding lane_drafts
lane_none lane = refl

-- one line more of a lane
pub lane_more : (n lane : ℕ) → lane_drafts (n + 1) lane ≡ lane_drafts n lane ++ lane_draft lane n ∷ []
unfolding lane_drafts
lane_more n lane =
    ap (map (lane_draft lane)) (range_more n) ∙ map-append (lane_draft lane) (range_with_len 0 n) (n ∷ [])

-- the lines of no lane
pub segment_none : segment_drafts 0 ≡ []
unfolding segment_drafts
segment_none = refl

-- the lines of one lane more
pub segment_more : (n : ℕ) → segment_drafts (n + 1) ≡ segment_drafts n ++ lane_drafts 500 n
unfolding segment_drafts
segment_more n =
    ap (flat_map (lane_drafts 500)) (range_more n)
    ∙ flat_map-append (lane_drafts 500) (range_with_len 0 n) (n ∷ [])
    ∙ ap (λ (ds : List Draft). flat_map (lane_drafts 500) (range_with_len 0 n) ++ ds) (append-nil (lane_drafts 500 n))

-- no segment
pub segments_none : segments_drafts 0 ≡ []
unfolding segments_drafts
segments_none = refl

-- one segment more
pub segments_more : (n : ℕ) → segments_drafts (n + 1) ≡ segments_drafts n ++ Stated Barrier ∷ segment_drafts 8
unfolding segments_drafts
segments_more n = rw add-one refl

-- no lane takes records
pub packets_none : packets_text 0 ≡ []
unfolding packets_text packet_lines
packets_none = refl

-- one lane more takes records
pub packets_more : (n : ℕ) → packets_text (n + 1) ≡ packets_text n ++ line_text (packet_line n)
unfolding packets_text packet_lines
packets_more n =
    ap (λ (ns : List ℕ). text_of_lines (map packet_line ns)) (range_more n)
    ∙ ap text_of_lines (map-append packet_line (range_with_len 0 n) (n ∷ []))
    ∙ flat_map-append line_text (map packet_line (range_with_len 0 n)) (packet_line n ∷ [])
    ∙ ap (λ (t : List ℕ). text_of_lines (map packet_line (range_with_len 0 n)) ++ t) (append-nil (line_text (packet_line n)))

-- ---- the whole

pub stated_state : (x : ℕ) (ls : List LineMeaning) → state_behind x (map Stated ls) ≡ x
unfolding state_behind
stated_state x [] = refl
stated_state x (l ∷ ls) = ap (λ (s : ℕ). state_behind s (map Stated ls)) (none_after x) ∙ stated_state x ls

pub stated_lines : (x : ℕ) (ls : List LineMeaning) → lines_of x (map Stated ls) ≡ ls
unfolding lines_of
stated_lines x [] = refl
stated_lines x (l ∷ ls) =
    ap (λ (ms : List LineMeaning). l ∷ ms) (ap (λ (s : ℕ). lines_of s (map Stated ls)) (none_after x) ∙ stated_lines x ls)

-- what is said before and behind the lines for which is drawn
framed_state : (x : ℕ) (before after : List LineMeaning) (ds : List Draft) →
    state_behind x (map Stated before ++ (ds ++ map Stated after)) ≡ state_behind x ds
framed_state x before after ds =
    state_joined x (map Stated before) (ds ++ map Stated after)
    ∙ ap (λ (s : ℕ). state_behind s (ds ++ map Stated after)) (stated_state x before)
    ∙ state_joined x ds (map Stated after)
    ∙ stated_state (state_behind x ds) after

framed_lines : (x : ℕ) (before after : List LineMeaning) (ds : List Draft) →
    lines_of x (map Stated before ++ (ds ++ map Stated after)) ≡ before ++ (lines_of x ds ++ after)
framed_lines x before after ds =
    lines_joined x (map Stated before) (ds ++ map Stated after)
    ∙ (λ i. stated_lines x before i ++ lines_of (stated_state x before i) (ds ++ map Stated after))
    ∙ ap (λ (ls : List LineMeaning). before ++ ls) (lines_joined x ds (map Stated after)
    ∙ ap (λ (ls : List LineMeaning). lines_of x ds ++ ls) (stated_lines (state_behind x ds) after))

framed_text : (x : ℕ) (before after : List LineMeaning) (ds : List Draft) →
    text_of_lines (lines_of x (map Stated before ++ (ds ++ map Stated after)))
    ≡ text_of_lines before ++ (text_behind x ds ++ text_of_lines after)
unfolding text_behind
framed_text x before after ds =
    ap text_of_lines (framed_lines x before after ds)
    ∙ flat_map-append line_text before (lines_of x ds ++ after)
    ∙ ap (λ (t : List ℕ). text_of_lines before ++ t) (flat_map-append line_text (lines_of x ds) after)

-- the state behind the script is that behind its segments for which is drawn
pub whole_state : (x : ℕ) → state_behind x drafts ≡ state_behind x (segments_drafts 4)
unfolding drafts
whole_state x = framed_state x head_lines (Barrier ∷ packet_lines 8) (segments_drafts 4)

-- the script is made of its head, those segments, and the last one
pub whole_text : (x : ℕ) →
    script_of x ≡ head_text ++ text_behind x (segments_drafts 4) ++ line_text Barrier ++ packets_text 8
unfolding drafts head_text packets_text
whole_text x =
    let head = version_text 1 ++ text_of_lines head_lines in
    let last = line_text Barrier ++ text_of_lines (packet_lines 8) in
    ap (λ (t : List ℕ). version_text 1 ++ t) (framed_text x head_lines (Barrier ∷ packet_lines 8) (segments_drafts 4))
    ∙ sym (append_assoc (version_text 1) (text_of_lines head_lines) (text_behind x (segments_drafts 4) ++ last))
    ∙ sym (append_assoc head (text_behind x (segments_drafts 4)) last)
    ∙ sym (append_assoc (head ++ text_behind x (segments_drafts 4)) (line_text Barrier) (text_of_lines (packet_lines 8)))

-- what is written one after another is the script
pub script_made : (x : ℕ) (first second third : List ℕ) (x' : ℕ) →
    first ≡ head_text → Writes first x (segments_drafts 4) second x' →
    third ≡ second ++ line_text Barrier ++ packets_text 8 → third ≡ script_of x
script_made x first second third x' head segments last =
    last
    ∙ ap (λ (t : List ℕ). t ++ line_text Barrier ++ packets_text 8)
    (segments.text ∙ ap (λ (t : List ℕ). t ++ text_behind x (segments_drafts 4)) head)
    ∙ sym (whole_text x)
