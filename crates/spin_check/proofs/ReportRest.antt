-- A report is that of the segments so far, and of those that are left.
use Rattle.std.proofs.Common.{◌≡◌, ◌≢◌, ℕ, ◌+◌, List, [], ◌∷◌, ◌++◌, refl, sym, ap, subst, ◌∙◌, append_assoc}
use Rattle.std.specs.Prelude.{Option, None}
use Rattle.std.specs.Option.{option_map}
use Rattle.std.specs.List.{enumerate_from, flat_map}
use Rattle.std.proofs.lemmas.List.{append-nil, append_cancel_left}
use Rattle.spin_endpoint.specs.Named.{NamedEnd}
use Rattle.spin_text.specs.Words.{ended, text_of}
use Rattle.spin_script.specs.declared.script.Segment.{Segment}
use Rattle.spin_script.specs.States.{ScriptData}
use Rattle.spin_report.specs.Histories.{first_line, segment_lines, end_line, front_lines}
use Rattle.spin_report.specs.Runs.{RunPoint, CaptureSeen, AreRun, frames_of, start_with, counts_of}
use Rattle.spin_check.specs.RunTexts.{IsRunText}
use Rattle.spin_check.specs.Inner.Segments.{Mark, standing, IsPart, Passes, Goes}
use Rattle.spin_check.specs.Inner.Remains.{lines_at, end_text, Remains}
use Rattle.spin_check.proofs.ReplayLemmas.{text_of-append}

-- the whole report is that of all segments behind its first line
pub remains_whole : (script : ScriptData) (capture : Option CaptureSeen) (ends : List NamedEnd) (report rest : List ℕ) → report ≡ ended first_line ++ rest
    → Remains script capture script.segments 0 (start_with script (frames_of capture) ends) rest → IsRunText script capture ends report
remains_whole script capture ends report rest begins r = (
  record { segments = r.seen; end = r.last.state.place; capture = option_map (counts_of r.last.left) capture },
  r.last,
  record { segments = r.run; end = refl; capture_is = refl },
  begins ∙ ap (λ t. ended first_line ++ t) r.is
      ∙ sym (
      text_of-append (front_lines r.seen) (end_line r.last.state.place (option_map (counts_of r.last.left) capture) ∷ [])
      ∙ ap (λ t. text_of (front_lines r.seen) ++ t) (append-nil (end_text capture r.last))
      ∙ append_assoc (ended first_line) (text_of (flat_map lines_at (enumerate_from 0 r.seen))) (end_text capture r.last)),
)

pub whole_remains : (script : ScriptData) (capture : Option CaptureSeen) (ends : List NamedEnd) (report rest : List ℕ) → report ≡ ended first_line ++ rest
    → IsRunText script capture ends report → Remains script capture script.segments 0 (start_with script (frames_of capture) ends) rest
whole_remains script capture ends report rest begins h =
    let history = h.0 in
    let last = h.1 in
    let run = h.2 in
    let line : end_line history.end history.capture ≡ end_line last.state.place (option_map (counts_of last.left) capture) = λ i. end_line (run.end i) (run.capture_is i) in
    let text : report ≡ ended first_line ++ (text_of (flat_map lines_at (enumerate_from 0 history.segments)) ++ end_text capture last) =
    h.3 ∙ text_of-append (front_lines history.segments) (end_line history.end history.capture ∷ [])
    ∙ ap (λ t. text_of (front_lines history.segments) ++ t) (append-nil (ended (end_line history.end history.capture)) ∙ ap ended line)
    ∙ append_assoc (ended first_line) (text_of (flat_map lines_at (enumerate_from 0 history.segments))) (end_text capture last) in
    record {
      seen = history.segments;
      last = last;
      run = run.segments;
      is = append_cancel_left (ended first_line) rest (text_of (flat_map lines_at (enumerate_from 0 history.segments)) ++ end_text capture last) (sym begins ∙ text);
    }

pub no_front : (script : ScriptData) (capture : Option CaptureSeen) (ends : List NamedEnd) (report : List ℕ)
    → ((rest : List ℕ) → report ≢ ended first_line ++ rest) → IsRunText script capture ends report → ⊥
no_front script capture ends report none h =
    let history = h.0 in
    none (text_of (flat_map lines_at (enumerate_from 0 history.segments)) ++ ended (end_line history.end history.capture))
    (h.3 ∙ text_of-append (front_lines history.segments) (end_line history.end history.capture ∷ [])
    ∙ ap (λ t. text_of (front_lines history.segments) ++ t) (append-nil (ended (end_line history.end history.capture)))
    ∙ append_assoc (ended first_line) (text_of (flat_map lines_at (enumerate_from 0 history.segments))) (ended (end_line history.end history.capture)))

-- ---- one segment more

module _ (script : ScriptData) (capture : Option CaptureSeen) (segment : Segment) (others : List Segment) (number : ℕ) (mark next : Mark) (ends : List NamedEnd) where
  part_of_next : (r : Remains script capture (segment ∷ others) number (standing mark ends) mark.rest)
      → IsPart script.setup script.lanes script.endpoints number segment (standing mark ends) mark.rest r.run.0 r.run.2
      (text_of (flat_map lines_at (enumerate_from (number + 1) r.run.1)) ++ end_text capture r.last)
  part_of_next r = record {
    run = r.run.4;
    text =
        r.is ∙ ap (λ l. text_of (flat_map lines_at (enumerate_from number l)) ++ end_text capture r.last) r.run.3
        ∙ ap (λ t. t ++ end_text capture r.last) (text_of-append (segment_lines number r.run.0) (flat_map lines_at (enumerate_from (number + 1) r.run.1)))
        ∙ append_assoc (text_of (segment_lines number r.run.0)) (text_of (flat_map lines_at (enumerate_from (number + 1) r.run.1))) (end_text capture r.last);
  }

  pub remains_on : (p : Passes script.setup script.lanes script.endpoints number segment mark ends next) → Remains script capture (segment ∷ others) number (standing mark ends) mark.rest
      → Remains script capture others (number + 1) (standing next p.ends_after) next.rest
  remains_on p r =
      let one = p.only r.run.0 r.run.2 (text_of (flat_map lines_at (enumerate_from (number + 1) r.run.1)) ++ end_text capture r.last) (part_of_next r) in
      record {
        seen = r.run.1;
        last = r.last;
        run = subst (λ s. AreRun script others s r.run.1 r.last) one.0 r.run.5;
        is = sym one.2;
      }

  pub remains_back : (p : Passes script.setup script.lanes script.endpoints number segment mark ends next) → Remains script capture others (number + 1) (standing next p.ends_after) next.rest
      → Remains script capture (segment ∷ others) number (standing mark ends) mark.rest
  remains_back p r = record {
    seen = p.seen ∷ r.seen;
    last = r.last;
    run = (p.seen, r.seen, standing next p.ends_after, refl, p.part.run, r.run);
    is =
        p.part.text ∙ ap (λ t. text_of (segment_lines number p.seen) ++ t) r.is
        ∙ sym (
        ap (λ t. t ++ end_text capture r.last) (text_of-append (segment_lines number p.seen) (flat_map lines_at (enumerate_from (number + 1) r.seen)))
        ∙ append_assoc (text_of (segment_lines number p.seen)) (text_of (flat_map lines_at (enumerate_from (number + 1) r.seen))) (end_text capture r.last));
  }

  pub no_segment : Goes script.setup script.lanes script.endpoints number segment mark ends None → Remains script capture (segment ∷ others) number (standing mark ends) mark.rest → ⊥
  no_segment none r = none r.run.0 r.run.2 (text_of (flat_map lines_at (enumerate_from (number + 1) r.run.1)) ++ end_text capture r.last) (part_of_next r)

-- ---- no segment more

pub remains_end : (script : ScriptData) (capture : Option CaptureSeen) (number : ℕ) (at : RunPoint) (text : List ℕ) → text ≡ end_text capture at → Remains script capture [] number at text
remains_end script capture number at text is = record { seen = []; last = at; run = (refl, refl); is = is }

pub end_remains : (script : ScriptData) (capture : Option CaptureSeen) (number : ℕ) (at : RunPoint) (text : List ℕ) → Remains script capture [] number at text → text ≡ end_text capture at
end_remains script capture number at text r =
    r.is ∙ (λ i. text_of (flat_map lines_at (enumerate_from number (r.run.0 i))) ++ end_text capture (r.run.1 i))
