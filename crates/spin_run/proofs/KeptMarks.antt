-- Marks, and what they keep of their entries.
use Rattle.std.proofs.Common.{◌≡◌, ◌<◌, ◌≤◌, ◌+◌, ◌-◌, ℕ, Bool, cond, not, List, [], ◌∷◌, ◌++◌, map, length, take, drop, refl, sym, ap, ◌∙◌, subst, arith, length-append}
use Rattle.std.specs.Prelude.{All, count_by}
use Rattle.std.specs.List.{AllZip, flat_map, filter_map}
use Rattle.std.proofs.lemmas.List.{append-nil, map-append, length-take, length-drop, take-append-le, drop-append-le, drop_at, take_all}
use Rattle.std.proofs.lemmas.List.Concat.{flat_map-append}
use Rattle.std.proofs.lemmas.List.Sums.{sum_by-cons}
use Rattle.std.proofs.lemmas.List.Elements.{All-nil, All-cons, All-head, All-tail}
use Rattle.spin_proto.specs.declared.reply.Step.{Step}
use Rattle.spin_proto.specs.declared.reply.Step.TheVariants as step
use Rattle.spin_proto.specs.declared.reply.Reply.{Reply}
use Rattle.spin_proto.specs.declared.reply.Reply.TheVariants as reply
use Rattle.spin_proto.specs.Parts.{trace_in}
use Rattle.spin_endpoint.specs.Sends.{SentSeen}
use Rattle.spin_table.specs.declared.refusal.Verdicted.TheVariants as verdicted
use Rattle.spin_text.specs.Words.{ended, text_of}
use Rattle.spin_seat.proofs.LaneCounts.{count-cons}
use Rattle.spin_report.specs.declared.entry.What.{What}
use Rattle.spin_report.specs.declared.entry.What.TheVariants as what
use Rattle.spin_report.specs.declared.entry.Entry.{Entry}
use Rattle.spin_report.specs.Lines.{entry_line}
use Rattle.spin_report.specs.Views.{answer_steps}
use Rattle.spin_report.specs.Runs.{sent_by, sends_of_reply, sends_of}
use Rattle.spin_report.specs.Segments.{is_accepted, moment}
use Rattle.spin_run.specs.declared.trail.Span.{Span}
use Rattle.spin_run.specs.declared.trail.EntryIndex.{EntryIndex}
use Rattle.spin_run.specs.declared.trail.Trail.{Trail}
use Rattle.spin_run.specs.Summaries.{Counts, counts_in, is_run, is_send, is_refused}
use Rattle.spin_run.specs.Trails.{items_in, LiesIn, kind_of, is_accepted_kind, mark_moment, IsMarkOf, none_left, IsTrailOf, AddsTo, trail_of, AreMarksOf}
use Rattle.spin_run.specs.Inner.Marks.{IsInTrails, line_in, sends_in, is_refused_kind, counts_by}
use Rattle.spin_run.proofs.PartCounts.{same_counts}
use Rattle.spin_run.proofs.TextLines.{text_of-append}

-- ---- stretches

-- a stretch stays where the list grows
stretch_stays : {X : Type 0} (s : Span) (xs ys : List X) → LiesIn s (length xs) → items_in s (xs ++ ys) ≡ items_in s xs
stretch_stays s xs ys lies =
    let before : s.from ≤ length xs = omega (arith, lies.rises, lies.ends) in
    ap (take (s.to - s.from)) (drop-append-le s.from xs ys before)
    ∙ take-append-le (s.to - s.from) (drop s.from xs) ys (omega (arith, lies.rises, lies.ends, length-drop s.from xs))

lies_on : {X : Type 0} (s : Span) (xs ys : List X) → LiesIn s (length xs) → LiesIn s (length (xs ++ ys))
lies_on s xs ys lies = record { rises = lies.rises; ends = omega (arith, lies.ends, length-append xs ys) }

-- what was added is a stretch
pub stretch_added : {X : Type 0} (s : Span) (xs ys : List X) → s.from ≡ length xs → s.to ≡ length (xs ++ ys) → items_in s (xs ++ ys) ≡ ys
stretch_added s xs ys from to =
    let long : length ys ≡ s.to - s.from = omega (arith, from, to, length-append xs ys) in
    ap (take (s.to - s.from)) (drop_at xs ys s.from (sym from))
    ∙ ap (λ n. take n ys) (sym long) ∙ take_all (length ys) ys (omega arith)

lies_added : {X : Type 0} (s : Span) (xs ys : List X) → s.from ≡ length xs → s.to ≡ length (xs ++ ys) → LiesIn s (length (xs ++ ys))
lies_added s xs ys from to = record { rises = omega (arith, from, to, length-append xs ys); ends = omega (arith, to) }

-- how many items a stretch has
length-items_in : {X : Type 0} (s : Span) (xs : List X) → LiesIn s (length xs) → length (items_in s xs) ≡ s.to - s.from
length-items_in s xs lies = omega (arith, lies.rises, lies.ends, length-take (s.to - s.from) (drop s.from xs), length-drop s.from xs)

-- ---- one entry more

-- a mark of a trail is one of each trail that goes on from it
mark_stays : (old new : Trail) (text : List ℕ) (sends : List SentSeen) → new.text ≡ old.text ++ text → new.sends ≡ old.sends ++ sends
    → (m : EntryIndex) (e : Entry) → IsMarkOf old m e → IsMarkOf new m e
mark_stays old new text sends texts sent m e is = record {
  place = is.place;
  kind = is.kind;
  lane = is.lane;
  line = is.line;
  part = is.part;
  runs = is.runs;
  text = ap (items_in m.text) texts ∙ stretch_stays m.text old.text text is.text_lies ∙ is.text;
  text_lies = subst (λ (l : List ℕ). LiesIn m.text (length l)) (sym texts) (lies_on m.text old.text text is.text_lies);
  sends = ap (items_in m.sends) sent ∙ stretch_stays m.sends old.sends sends is.sends_lie ∙ is.sends;
  sends_lie = subst (λ (l : List SentSeen). LiesIn m.sends (length l)) (sym sent) (lies_on m.sends old.sends sends is.sends_lie);
}

-- and one of each trail with the same text and the same sends
pub mark_in : (old new : Trail) → new.text ≡ old.text → new.sends ≡ old.sends → (m : EntryIndex) (e : Entry) → IsMarkOf old m e → IsMarkOf new m e
mark_in old new texts sent = mark_stays old new [] [] (texts ∙ sym (append-nil old.text)) (sent ∙ sym (append-nil old.sends))

pub AllZip-weaker : {X Y : Type 0} (R S : X → Y → Type 0) → ((x : X) (y : Y) → R x y → S x y) → (xs : List X) (ys : List Y) → AllZip R xs ys → AllZip S xs ys
AllZip-weaker R S f [] [] h = tt
AllZip-weaker R S f [] (y ∷ ys) h = absurd h
AllZip-weaker R S f (x ∷ xs) [] h = absurd h
AllZip-weaker R S f (x ∷ xs) (y ∷ ys) h = (f x y h.0, AllZip-weaker R S f xs ys h.1)

marks_more : (old new : Trail) (m : EntryIndex) (e : Entry) → ((m : EntryIndex) (e : Entry) → IsMarkOf old m e → IsMarkOf new m e) → IsMarkOf new m e
    → (marks : List EntryIndex) (entries : List Entry) → AllZip (IsMarkOf old) marks entries → AllZip (IsMarkOf new) (marks ++ m ∷ []) (entries ++ e ∷ [])
marks_more old new m e stays last [] [] h = (last, tt)
marks_more old new m e stays last [] (x ∷ entries) h = absurd h
marks_more old new m e stays last (n ∷ marks) [] h = absurd h
marks_more old new m e stays last (n ∷ marks) (x ∷ entries) h = (stays n x h.0, marks_more old new m e stays last marks entries h.1)

-- the line of one entry more, and what it sends
line_more : (entries : List Entry) (e : Entry) → text_of (map entry_line (entries ++ e ∷ [])) ≡ text_of (map entry_line entries) ++ ended (entry_line e)
line_more entries e =
    ap text_of (map-append entry_line entries (e ∷ [])) ∙ text_of-append (map entry_line entries) (entry_line e ∷ [])
    ∙ ap (λ l. text_of (map entry_line entries) ++ l) (append-nil (ended (entry_line e)))

sends_more : (entries : List Entry) (e : Entry) → flat_map (λ (x : Entry). sends_of x.what) (entries ++ e ∷ []) ≡ flat_map (λ (x : Entry). sends_of x.what) entries ++ sends_of e.what
sends_more entries e =
    flat_map-append (λ (x : Entry). sends_of x.what) entries (e ∷ [])
    ∙ ap (λ l. flat_map (λ (x : Entry). sends_of x.what) entries ++ l) (append-nil (sends_of e.what))

-- the mark that is made of an entry
pub record IsMade (old new : Trail) (e : Entry) (m : EntryIndex) : Type 0 where
  pub place : m.place ≡ e.place
  pub kind : m.kind ≡ kind_of e.what
  pub lane : m.lane ≡ e.lane
  pub line : m.line ≡ e.line
  pub part : m.part ≡ e.part
  pub runs : m.runs ≡ count_by is_run (answer_steps e.what)
  pub text_from : m.text.from ≡ length old.text
  pub text_to : m.text.to ≡ length new.text
  pub sends_from : m.sends.from ≡ length old.sends
  pub sends_to : m.sends.to ≡ length new.sends

pub adds_entry : (old new : Trail) (e : Entry) (m : EntryIndex) → new.text ≡ old.text ++ ended (entry_line e) → new.sends ≡ old.sends ++ sends_of e.what
    → new.marks ≡ old.marks ++ m ∷ [] → IsMade old new e m → AddsTo old e new
adds_entry old new e m texts sent marks made =
    let text_to : m.text.to ≡ length (old.text ++ ended (entry_line e)) = made.text_to ∙ ap length texts in
    let sends_to : m.sends.to ≡ length (old.sends ++ sends_of e.what) = made.sends_to ∙ ap length sent in
    let last : IsMarkOf new m e = record {
      place = made.place;
      kind = made.kind;
      lane = made.lane;
      line = made.line;
      part = made.part;
      runs = made.runs;
      text = ap (items_in m.text) texts ∙ stretch_added m.text old.text (ended (entry_line e)) made.text_from text_to;
      text_lies = subst (λ (l : List ℕ). LiesIn m.text (length l)) (sym texts) (lies_added m.text old.text (ended (entry_line e)) made.text_from text_to);
      sends = ap (items_in m.sends) sent ∙ stretch_added m.sends old.sends (sends_of e.what) made.sends_from sends_to;
      sends_lie = subst (λ (l : List SentSeen). LiesIn m.sends (length l)) (sym sent) (lies_added m.sends old.sends (sends_of e.what) made.sends_from sends_to);
    } in
    record {
      count = ap length marks ∙ length-append old.marks (m ∷ []);
      goes_on = λ entries h. record {
        text = texts ∙ (λ i. h.text i ++ ended (entry_line e)) ∙ sym (line_more entries e);
        sends = sent ∙ (λ i. h.sends i ++ sends_of e.what) ∙ sym (sends_more entries e);
        marks =
            subst (λ (l : List EntryIndex). AllZip (IsMarkOf new) l (entries ++ e ∷ [])) (sym marks)
            (marks_more old new m e (mark_stays old new (ended (entry_line e)) (sends_of e.what) texts sent) last old.marks entries h.marks);
      };
    }

-- a trail of no entry
pub new_trail : (trail : Trail) → trail ≡ none_left → IsTrailOf [] trail
new_trail trail is = subst (IsTrailOf []) (sym is) (record { text = refl; sends = refl; marks = tt })

-- ---- what marks tell

kind_accepted : (w : What) → is_accepted_kind (kind_of w) ≡ is_accepted w
kind_accepted (what.Command c verdicted.Accepted) = refl
kind_accepted (what.Command c (verdicted.Refused r)) = refl
kind_accepted (what.Deed d r) = refl

kind_refused : (w : What) → is_refused_kind (kind_of w) ≡ is_refused w
kind_refused (what.Command c verdicted.Accepted) = refl
kind_refused (what.Command c (verdicted.Refused r)) = refl
kind_refused (what.Deed d r) = refl

pub moment_is : (trail : Trail) (m : EntryIndex) (e : Entry) → IsMarkOf trail m e → mark_moment m ≡ moment e
moment_is trail m e is = λ i. (is.place i, not ((ap is_accepted_kind is.kind ∙ kind_accepted e.what) i), is.lane i, is.line i, is.part i)

-- each mark lies in the trail of its lane
pub marks_lie : (trails : List Trail) (marks : List EntryIndex) (entries : List Entry) → All (λ (m : EntryIndex). m.lane < length trails) marks → AreMarksOf trails marks entries
    → All (IsInTrails trails) marks
marks_lie trails [] entries under h = All-nil (IsInTrails trails)
marks_lie trails (m ∷ marks) [] under h = absurd h
marks_lie trails (m ∷ marks) (e ∷ entries) under h =
    All-cons (IsInTrails trails) m marks
    (record { there = All-head (λ (n : EntryIndex). n.lane < length trails) m marks under; text = h.0.text_lies; sends = h.0.sends_lie })
    (marks_lie trails marks entries (All-tail (λ (n : EntryIndex). n.lane < length trails) m marks under) h.1)

pub lines_are : (trails : List Trail) (marks : List EntryIndex) (entries : List Entry) → AreMarksOf trails marks entries → flat_map (line_in trails) marks ≡ text_of (map entry_line entries)
lines_are trails [] [] h = refl
lines_are trails [] (e ∷ entries) h = absurd h
lines_are trails (m ∷ marks) [] h = absurd h
lines_are trails (m ∷ marks) (e ∷ entries) h = λ i. h.0.text i ++ lines_are trails marks entries h.1 i

pub sends_told : (trails : List Trail) (marks : List EntryIndex) (entries : List Entry) → AreMarksOf trails marks entries
    → flat_map (sends_in trails) marks ≡ flat_map (λ (e : Entry). sends_of e.what) entries
sends_told trails [] [] h = refl
sends_told trails [] (e ∷ entries) h = absurd h
sends_told trails (m ∷ marks) [] h = absurd h
sends_told trails (m ∷ marks) (e ∷ entries) h = λ i. h.0.sends i ++ sends_told trails marks entries h.1 i

-- ---- the steps of an answer

pub steps_sent : (w : What) (steps : List Step) → steps ≡ answer_steps w → filter_map sent_by steps ≡ sends_of w
steps_sent w steps is = ap (filter_map sent_by) is ∙ go w
  where
    go : (w : What) → filter_map sent_by (answer_steps w) ≡ sends_of w
    go (what.Command c v) = refl
    go (what.Deed d (reply.Ran answer trace jobs)) = refl
    go (what.Deed d (reply.Queued call)) = refl
    go (what.Deed d reply.UnknownEvent) = refl
    go (what.Deed d reply.WrongArgs) = refl
    go (what.Deed d reply.Spent) = refl

-- ---- what marks count

one_sent : (s : Step) (steps : List Step) → length (filter_map sent_by (s ∷ steps)) ≡ cond {A = ℕ} (is_send s) 1 0 + length (filter_map sent_by steps)
one_sent (step.Send endpoint bytes) steps = omega arith
one_sent (step.Run event number) steps = omega arith
one_sent (step.Result value) steps = omega arith
one_sent (step.Up event) steps = omega arith
one_sent (step.Back answer) steps = omega arith
one_sent (step.Dropped fault) steps = omega arith
one_sent (step.Job event number) steps = omega arith

sent_count : (steps : List Step) → length (filter_map sent_by steps) ≡ count_by is_send steps
sent_count [] = refl
sent_count (s ∷ steps) = one_sent s steps ∙ ap (λ n. cond {A = ℕ} (is_send s) 1 0 + n) (sent_count steps) ∙ sym (count-cons is_send s steps)

reply_count : (r : Reply) → length (sends_of_reply r) ≡ count_by is_send (trace_in r)
reply_count (reply.Ran answer trace jobs) = sent_count trace
reply_count (reply.Queued call) = refl
reply_count reply.UnknownEvent = refl
reply_count reply.WrongArgs = refl
reply_count reply.Spent = refl

sends_count : (w : What) → length (sends_of w) ≡ count_by is_send (answer_steps w)
sends_count (what.Command c v) = refl
sends_count (what.Deed d r) = reply_count r

-- one entry's counts
abbrev one : Bool → ℕ
one b = cond b 1 0

pub counts_are : (trails : List Trail) (marks : List EntryIndex) (entries : List Entry) → AreMarksOf trails marks entries → counts_by marks ≡ counts_in entries
counts_are trails [] [] h = refl
counts_are trails [] (e ∷ entries) h = absurd h
counts_are trails (m ∷ marks) [] h = absurd h
counts_are trails (m ∷ marks) (e ∷ entries) h =
    let rest = counts_are trails marks entries h.1 in
    let is = h.0 in
    same_counts (counts_by (m ∷ marks)) (counts_in (e ∷ entries))
    (omega (arith, ap (λ (c : Counts). c.entries) rest))
    (count-cons (λ (x : EntryIndex). is_accepted_kind x.kind) m marks
    ∙ (λ i. one ((ap is_accepted_kind is.kind ∙ kind_accepted e.what) i) + (ap (λ (c : Counts). c.accepted) rest) i)
    ∙ sym (count-cons (λ (x : Entry). is_accepted x.what) e entries))
    (count-cons (λ (x : EntryIndex). is_refused_kind x.kind) m marks
    ∙ (λ i. one ((ap is_refused_kind is.kind ∙ kind_refused e.what) i) + (ap (λ (c : Counts). c.refused) rest) i)
    ∙ sym (count-cons (λ (x : Entry). is_refused x.what) e entries))
    (sum_by-cons (λ (x : EntryIndex). x.runs) m marks
    ∙ (λ i. is.runs i + (ap (λ (c : Counts). c.runs) rest) i)
    ∙ sym (sum_by-cons (λ (x : Entry). count_by is_run (answer_steps x.what)) e entries))
    (sum_by-cons (λ (x : EntryIndex). x.sends.to - x.sends.from) m marks
    ∙ (λ i. (sym (length-items_in m.sends (trail_of trails m.lane).sends is.sends_lie) ∙ ap length is.sends ∙ sends_count e.what) i + (ap (λ (c : Counts). c.sends) rest) i)
    ∙ sym (sum_by-cons (λ (x : Entry). count_by is_send (answer_steps x.what)) e entries))
