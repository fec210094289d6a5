-- What lines of lanes and barriers add to the script so far.
use Rattle.std.proofs.Common.{◌≡◌, ◌∙◌, ◌<◌, ◌≤◌, ◌+◌, ◌%◌, ℕ, zero, suc, Bool, true, false, eqb, List, [], ◌∷◌, ◌++◌, map, refl, sym, ap, subst, inl, inr, arith}
use Rattle.std.specs.Prelude.{if◌then◌else◌}
use Rattle.std.specs.List.{flat_map, range_with_len, AllByRecursion}
use Rattle.std.proofs.lemmas.List.{append-nil, append_assoc}
use Rattle.spin_word.specs.declared.work.Work.{Work}
use Rattle.spin_word.specs.declared.work.Work.TheVariants as work
use Rattle.spin_grammar.specs.Forms.{Task}
use Rattle.spin_grammar.specs.Tasks.{work_of}
use Rattle.spin_grammar.specs.Lines.{LineMeaning, Lane, Barrier}
use Rattle.spin_script.specs.declared.script.Line as script
use Rattle.spin_script.specs.declared.script.Segment.{Segment}
use Rattle.spin_script.specs.States.{ScriptState, NativeData, after}
use Rattle.spin_script.specs.RoundTrip.{LeadTo}
use Rattle.spin_gen.specs.Numbers.{answer, state_after, drawn}
use Rattle.spin_gen.specs.Drafts.{Draft, Stated, Install, Raise, draws_of, drawn_place, line_of, lines_of, state_behind}
use Rattle.spin_gen.specs.Drafts.{packet_line, lane_draft, lane_drafts, segment_drafts, segments_drafts, packet_lines}
use Rattle.spin_gen.proofs.ScriptText.{lines_joined}
use Rattle.spin_gen_law.proofs.EntryCounts.{IsOwn}

-- ---- lines behind lines

-- where the first of two lists of lines ends
pub record Between (n : NativeData) (s : ScriptState) (k : ℕ) (a b : List LineMeaning) (t : ScriptState) : Type 0 where
  pub state : ScriptState
  pub number : ℕ
  pub first : LeadTo n s k a state
  pub second : LeadTo n state number b t

pub between : (n : NativeData) (s : ScriptState) (k : ℕ) (a b : List LineMeaning) (t : ScriptState) → LeadTo n s k (a ++ b) t → Between n s k a b t
between n s k [] b t h = record { state = s; number = k; first = refl; second = h }
between n s k (l ∷ a) b t h =
    let rest = between n (after n s k l) (k + 1) a b t h.1 in
    record { state = rest.state; number = rest.number; first = (h.0, rest.first); second = rest.second }

-- what is declared is as it was
pub record Keeps (s t : ScriptState) : Type 0 where
  pub modules : t.modules ≡ s.modules
  pub events : t.events ≡ s.events
  pub handlers : t.handlers ≡ s.handlers
  pub guards : t.guards ≡ s.guards

pub keeps_same : (s t : ScriptState) → t ≡ s → Keeps s t
keeps_same s t same = record {
  modules = ap (λ (x : ScriptState). x.modules) same;
  events = ap (λ (x : ScriptState). x.events) same;
  handlers = ap (λ (x : ScriptState). x.handlers) same;
  guards = ap (λ (x : ScriptState). x.guards) same;
}

pub keeps_on : (s t u : ScriptState) → Keeps s t → Keeps t u → Keeps s u
keeps_on s t u h g = record {
  modules = g.modules ∙ h.modules;
  events = g.events ∙ h.events;
  handlers = g.handlers ∙ h.handlers;
  guards = g.guards ∙ h.guards;
}

-- the segments, with the one that goes on
abbrev pub segments_in : ScriptState → List Segment
segments_in s = s.ended ++ s.segment ∷ []

-- ---- lines of lanes

-- each line of a segment is of a lane and a work of which P holds
abbrev pub OnLanes : (ℕ → Work → Type 0) → Segment → Type 0
OnLanes P segment = AllByRecursion (λ (line : script.Line). P line.lane line.work) segment.lines

-- a line of a lane, of whose work P holds
pub record IsLaneLine (P : ℕ → Work → Type 0) (l : LineMeaning) : Type 0 where
  pub lane : ℕ
  pub task : Task
  pub is : l ≡ Lane lane task
  pub holds : P lane (work_of lane task)

module _ (P : ℕ → Work → Type 0) where
  lines_push : (lines : List script.Line) (line : script.Line) → AllByRecursion (λ (x : script.Line). P x.lane x.work) lines
      → P line.lane line.work → AllByRecursion (λ (x : script.Line). P x.lane x.work) (lines ++ line ∷ [])
  lines_push [] line all here = (here, tt)
  lines_push (x ∷ lines) line all here = (all.0, lines_push lines line all.1 here)

  -- so lines of lanes leave the script
  record Added (s t : ScriptState) : Type 0 where
    pub keeps : Keeps s t
    pub ended : t.ended ≡ s.ended
    pub lines : OnLanes P s.segment → OnLanes P t.segment

  added_none : (s t : ScriptState) → t ≡ s → Added s t
  added_none s t same = record {
    keeps = keeps_same s t same;
    ended = ap (λ (x : ScriptState). x.ended) same;
    lines = λ all. subst (λ (x : ScriptState). OnLanes P x.segment) (sym same) all;
  }

  added_one : (n : NativeData) (s : ScriptState) (k : ℕ) (l : LineMeaning) → IsLaneLine P l → Added s (after n s k l)
  added_one n s k l h =
      subst (λ (x : LineMeaning). Added s (after n s k x)) (sym h.is) (record {
        keeps = record { modules = refl; events = refl; handlers = refl; guards = refl };
        ended = refl;
        lines = λ all. lines_push s.segment.lines (record { number = k; lane = h.lane; work = work_of h.lane h.task }) all h.holds;
      })

  added_all : (n : NativeData) (ls : List LineMeaning) (s : ScriptState) (k : ℕ) (t : ScriptState) → AllByRecursion (IsLaneLine P) ls → LeadTo n s k ls t → Added s t
  added_all n [] s k t all h = added_none s t h
  added_all n (l ∷ ls) s k t all h =
      let one = added_one n s k l all.0 in
      let rest = added_all n ls (after n s k l) (k + 1) t all.1 h.1 in
      record {
        keeps = keeps_on s (after n s k l) t one.keeps rest.keeps;
        ended = rest.ended ∙ one.ended;
        lines = λ lines. rest.lines (one.lines lines);
      }

  -- one segment more, whose lines are these
  pub record AddsSegment (s t : ScriptState) : Type 0 where
    pub keeps : Keeps s t
    pub segment : Segment
    pub lines : OnLanes P segment
    pub segments : segments_in t ≡ segments_in s ++ segment ∷ []

  -- a barrier, and lines of lanes behind it
  pub adds_segment : (n : NativeData) (ls : List LineMeaning) (s : ScriptState) (k : ℕ) (t : ScriptState) → AllByRecursion (IsLaneLine P) ls → LeadTo n s k (Barrier ∷ ls) t → AddsSegment s t
  adds_segment n ls s k t all h =
      let rest = added_all n ls (after n s k Barrier) (k + 1) t all h.1 in
      record {
        keeps = keeps_on s (after n s k Barrier) t (record { modules = refl; events = refl; handlers = refl; guards = refl }) rest.keeps;
        segment = t.segment;
        lines = rest.lines tt;
        segments = ap (λ (segments : List Segment). segments ++ t.segment ∷ []) rest.ended;
      }

-- ---- lines that are drawn

abbrev IsLaneDraft : Draft → Type 0
IsLaneDraft (Stated l) = ⊥
IsLaneDraft (Install lane) = lane < 8
IsLaneDraft (Raise lane) = lane < 8

drafts_joined : (a b : List Draft) → AllByRecursion IsLaneDraft a → AllByRecursion IsLaneDraft b → AllByRecursion IsLaneDraft (a ++ b)
drafts_joined [] b h g = g
drafts_joined (d ∷ a) b h g = (h.0, drafts_joined a b h.1 g)

lane_drawn : (lane : ℕ) (js : List ℕ) → lane < 8 → AllByRecursion IsLaneDraft (map (lane_draft lane) js)
lane_drawn lane [] among = tt
lane_drawn lane (j ∷ js) among = (go (eqb (j % 20) 0), lane_drawn lane js among)
  where
    go : (b : Bool) → IsLaneDraft (if b then Install lane else Raise lane)
    go true = among
    go false = among

lane_all : (count lane : ℕ) → lane < 8 → AllByRecursion IsLaneDraft (lane_drafts count lane)
unfolding lane_drafts
lane_all count lane among = lane_drawn lane (range_with_len 0 count) among

lanes_all : (a m : ℕ) → a + m ≤ 8 → AllByRecursion IsLaneDraft (flat_map (lane_drafts 500) (range_with_len a m))
lanes_all a zero le = tt
lanes_all a (suc m) le =
    drafts_joined (lane_drafts 500 a) (flat_map (lane_drafts 500) (range_with_len (a + 1) m)) (lane_all 500 a (omega (arith, le))) (lanes_all (a + 1) m (omega (arith, le)))

segment_all : AllByRecursion IsLaneDraft (segment_drafts 8)
unfolding segment_drafts
segment_all = lanes_all 0 8 (omega arith)

below : (range y : ℕ) → 0 < range → answer range y < range
unfolding answer
below range y some = omega arith

-- a line that is drawn for a lane asks of the event of the lane's number
own_line : (x : ℕ) (d : Draft) → IsLaneDraft d → IsLaneLine IsOwn (line_of x d)
own_line x (Stated l) h = absurd h
own_line x (Install lane) h =
    let handler = below 4 (state_after (1 + 1) x) (omega arith) in
    let guard = below 5 (state_after (2 + 1) x) (omega arith) in
    record {
      lane = lane;
      task = _;
      is = refl;
      holds = (
        h,
        inl (record {
          handler = 1 + drawn 4 1 x;
          guard = drawn 5 2 x;
          where_to = drawn_place (drawn 3 0 x);
          first = omega arith;
          last = omega (arith, handler);
          greatest = omega (arith, guard);
          is = refl;
        }),
      );
    }
own_line x (Raise lane) h = record {
  lane = lane;
  task = _;
  is = refl;
  holds = (h, inr (record { value = drawn 65536 0 x; is = refl }));
}

own_lines : (x : ℕ) (ds : List Draft) → AllByRecursion IsLaneDraft ds → AllByRecursion (IsLaneLine IsOwn) (lines_of x ds)
unfolding lines_of
own_lines x [] all = tt
own_lines x (d ∷ ds) all = (own_line x d all.0, own_lines (state_after (draws_of d) x) ds all.1)

-- some segments more, in which each lane asks of its own event
pub record AddsSegments (s t : ScriptState) : Type 0 where
  pub keeps : Keeps s t
  pub segments : List Segment
  pub lines : AllByRecursion (OnLanes IsOwn) segments
  pub are : segments_in t ≡ segments_in s ++ segments

segments_push : (segments : List Segment) (segment : Segment) → AllByRecursion (OnLanes IsOwn) segments → OnLanes IsOwn segment → AllByRecursion (OnLanes IsOwn) (segments ++ segment ∷ [])
segments_push [] segment all here = (here, tt)
segments_push (x ∷ segments) segment all here = (all.0, segments_push segments segment all.1 here)

pub adds_segments : (n : NativeData) (m x : ℕ) (s : ScriptState) (k : ℕ) (t : ScriptState) → LeadTo n s k (lines_of x (segments_drafts m)) t → AddsSegments s t
unfolding segments_drafts lines_of
adds_segments n zero x s k t h = record {
  keeps = keeps_same s t h;
  segments = [];
  lines = tt;
  are = ap segments_in h ∙ sym (append-nil (segments_in s));
}
adds_segments n (suc m) x s k t h =
    let before = lines_of x (segments_drafts m) in
    let y = state_behind x (segments_drafts m) in
    let behind = lines_of (state_after 0 y) (segment_drafts 8) in
    let joined = lines_joined x (segments_drafts m) (Stated Barrier ∷ segment_drafts 8) in
    let at = between n s k before (Barrier ∷ behind) t (subst (λ (ls : List LineMeaning). LeadTo n s k ls t) joined h) in
    let rest = adds_segments n m x s k at.state at.first in
    let last = adds_segment IsOwn n behind at.state at.number t (own_lines (state_after 0 y) (segment_drafts 8) segment_all) at.second in
    record {
      keeps = keeps_on s at.state t rest.keeps last.keeps;
      segments = rest.segments ++ last.segment ∷ [];
      lines = segments_push rest.segments last.segment rest.lines last.lines;
      are = last.segments ∙ ap (λ (xs : List Segment). xs ++ last.segment ∷ []) rest.are ∙ append_assoc (segments_in s) rest.segments (last.segment ∷ []);
    }

-- ---- lines of packets

abbrev pub IsPacket : ℕ → Work → Type 0
IsPacket lane w = w ≡ work.Packet 8 125

some_packets : (ns : List ℕ) → AllByRecursion (IsLaneLine IsPacket) (map packet_line ns)
some_packets [] = tt
some_packets (n ∷ ns) = (record { lane = n; task = _; is = refl; holds = refl }, some_packets ns)

pub packets_all : AllByRecursion (IsLaneLine IsPacket) (packet_lines 8)
unfolding packet_lines
packets_all = some_packets (range_with_len 0 8)
