-- What the generated script is read as: its setup has events of words, and its segments ask of them lane by lane.
use Rattle.std.proofs.Common.{◌≡◌, ◌∙◌, ◌<◌, ◌≤◌, ◌+◌, ◌-◌, ℕ, zero, suc, List, [], ◌∷◌, ◌++◌, map, refl, sym, ap, subst, arith}
use Rattle.std.specs.Prelude.{slice_get, Option, Some, None, Ok}
use Rattle.std.specs.Option.{option_map}
use Rattle.std.specs.List.{AllByRecursion}
use Rattle.std.proofs.lemmas.Option.{slice_get-map}
use Rattle.spin_code.specs.declared.expr.Expr.{Expr}
use Rattle.spin_code.specs.declared.expr.Expr.TheVariants as expr
use Rattle.spin_code.specs.declared.act.ActStep.{ActStep}
use Rattle.spin_code.specs.declared.act.ActStep.TheVariants as step
use Rattle.spin_code.specs.declared.test.Test.TheVariants.{Compare}
use Rattle.spin_code.specs.declared.test.Cmp.TheVariants as cmp
use Rattle.spin_code.specs.declared.merge.Merge.TheVariants as merge
use Rattle.spin_word.specs.declared.command.Command.{Command}
use Rattle.spin_word.specs.declared.work.Work.{Work}
use Rattle.spin_word.specs.declared.work.Work.TheVariants as work
use Rattle.spin_objects.specs.Units.{HandlerUnit, GuardUnit}
use Rattle.spin_objects.proofs.NumberedItems.{numbered-at}
use Rattle.spin_table.specs.declared.event.EventDef.{EventDef}
use Rattle.spin_table.specs.Setups.{SetupData}
use Rattle.spin_grammar.specs.Bare.{bare_step}
use Rattle.spin_grammar.specs.Lines.{LineMeaning, Barrier}
use Rattle.spin_script.specs.declared.script.Segment.{Segment}
use Rattle.spin_script.specs.States.{ScriptState, NativeData, ScriptData, start, after, new_event, setup_in, script_in}
use Rattle.spin_script.specs.Language.{IsScript, outcome_at_end}
use Rattle.spin_script.specs.Laws.{bare_event, bare_handler, bare_guard, bare_setup, bare_script}
use Rattle.spin_script.specs.RoundTrip.{LeadTo}
use Rattle.spin_script.specs.Canonical.{text_of_lines, version_text}
use Rattle.spin_script.proofs.OutcomeUniqueness.{one_outcome}
use Rattle.spin_script.proofs.WrittenLines.{lines_read}
use Rattle.spin_gen.specs.Declarations.{word_to_word, of_word, plus, and}
use Rattle.spin_gen.specs.Drafts.{Stated, lines_of, state_behind, segments_drafts, packet_lines, head_lines, drafts}
use Rattle.spin_gen.specs.Texts.{script_of}
use Rattle.spin_gen.proofs.ScriptLines.{lines_from, lines_are, all_go, all_width}
use Rattle.spin_gen.proofs.ScriptText.{lines_joined, stated_lines, stated_state}
use Rattle.spin_gen_law.proofs.WordSetups.{IsWordEvent, IsWordHandler, IsWordGuard, HasWords}
use Rattle.spin_gen_law.proofs.EntryCounts.{IsOwn}
use Rattle.spin_gen_law.proofs.LaneLines.{between, Keeps, keeps_same, keeps_on, segments_in, OnLanes, IsPacket, packets_all, adds_segment, adds_segments}

-- ---- the head

-- the script of version 1, of which nothing was read yet
abbrev begun : ScriptState
begun = record start { version = 1 }

final : NativeData → ScriptState → ℕ → List LineMeaning → ScriptState
final n s k [] = s
final n s k (l ∷ ls) = final n (after n s k l) (k + 1) ls

final_is : (n : NativeData) (s : ScriptState) (k : ℕ) (ls : List LineMeaning) (t : ScriptState) → LeadTo n s k ls t → t ≡ final n s k ls
unfolding final
final_is n s k [] t h = h
final_is n s k (l ∷ ls) t h = final_is n (after n s k l) (k + 1) ls t h.1

-- the script behind its declarations and its first segment
head_state : NativeData → ScriptState
head_state n = final n begun 2 head_lines

-- an event's sum of words
abbrev sum_of : EventDef
sum_of = new_event 0 word_to_word (merge.Fold (plus (expr.Arg 0) (expr.Arg 1)))

head_events : (n : NativeData) (event : ℕ) → event < 8 → slice_get (map bare_event (head_state n).events) event ≡ Some sum_of
unfolding head_state final head_lines
head_events n zero among = refl
head_events n (suc zero) among = refl
head_events n (suc (suc zero)) among = refl
head_events n (suc (suc (suc zero))) among = refl
head_events n (suc (suc (suc (suc zero)))) among = refl
head_events n (suc (suc (suc (suc (suc zero))))) among = refl
head_events n (suc (suc (suc (suc (suc (suc zero)))))) among = refl
head_events n (suc (suc (suc (suc (suc (suc (suc zero))))))) among = refl
head_events n (suc (suc (suc (suc (suc (suc (suc (suc k)))))))) among = absurd (omega (arith, among))

-- adds a number to a word
abbrev adds : ℕ → HandlerUnit
adds number = record { sig = word_to_word; act = record { steps = step.Result (plus (expr.Arg 0) (expr.Const number)) ∷ [] } }

head_handlers : (n : NativeData) (handler : ℕ) → 0 < handler → handler ≤ 4 → slice_get (map bare_handler (head_state n).handlers) (handler - 1) ≡ Some (adds handler)
unfolding head_state final head_lines
head_handlers n zero first last = absurd (omega (arith, first))
head_handlers n (suc zero) first last = refl
head_handlers n (suc (suc zero)) first last = refl
head_handlers n (suc (suc (suc zero))) first last = refl
head_handlers n (suc (suc (suc (suc zero)))) first last = refl
head_handlers n (suc (suc (suc (suc (suc k))))) first last = absurd (omega (arith, last))

-- asks for the two low bits of a word
abbrev admits : ℕ → GuardUnit
admits number = record { sig = of_word; test = Compare cmp.Eq (and (expr.Arg 0) (expr.Const 3)) (expr.Const (number - 1)) }

head_guards : (n : NativeData) (guard : ℕ) → 0 < guard → guard ≤ 4 → slice_get (map bare_guard (head_state n).guards) (guard - 1) ≡ Some (admits guard)
unfolding head_state final head_lines
head_guards n zero first last = absurd (omega (arith, first))
head_guards n (suc zero) first last = refl
head_guards n (suc (suc zero)) first last = refl
head_guards n (suc (suc (suc zero))) first last = refl
head_guards n (suc (suc (suc (suc zero)))) first last = refl
head_guards n (suc (suc (suc (suc (suc k))))) first last = absurd (omega (arith, last))

head_modules : (n : NativeData) → (head_state n).modules ≡ 1
unfolding head_state final head_lines
head_modules n = refl

-- a command of lane 0 on one of the events from 8 on
pub record IsFirstWork (lane : ℕ) (w : Work) : Type 0 where
  pub lane_is : lane ≡ 0
  pub command : Command
  pub late : 8 ≤ command.event
  pub is : w ≡ work.Command command

head_segment : (n : NativeData) → OnLanes IsFirstWork (head_state n).segment
unfolding head_state final head_lines
head_segment n = (
  record { lane_is = refl; command = _; late = omega arith; is = refl },
  (
    record { lane_is = refl; command = _; late = omega arith; is = refl },
    (record { lane_is = refl; command = _; late = omega arith; is = refl }, tt),
  ),
)

head_ended : (n : NativeData) → (head_state n).ended ≡ []
unfolding head_state final head_lines
head_ended n = refl

-- ---- setups that differ in where boxes lie alone

from_mapped : {A B : Type 0} (f : A → B) (o : Option A) (b : B) → option_map f o ≡ Some b → (a : A) × (o ≡ Some a) × (f a ≡ b)
from_mapped f None b e = absurd (cc)
from_mapped f (Some a) b e = (a, refl, cc)

mapped_at : {A B : Type 0} (f : A → B) (xs ys : List A) (k : ℕ) (b : B) → map f xs ≡ map f ys → slice_get (map f ys) k ≡ Some b → (a : A) × (slice_get xs k ≡ Some a) × (f a ≡ b)
mapped_at f xs ys k b same there =
    from_mapped f (slice_get xs k) b (sym (slice_get-map f xs k) ∙ ap (λ zs. slice_get zs k) same ∙ there)

one_result : (s : ActStep) (x : Expr) → bare_step s ≡ step.Result x → (y : Expr) × (s ≡ step.Result y)
one_result (step.Set a e) x is = absurd (cc)
one_result (step.Send endpoint a from) x is = absurd (cc)
one_result (step.Result e) x is = (e, refl)
one_result (step.Up event parts) x is = absurd (cc)
one_result (step.Layer k event) x is = absurd (cc)

result_steps : (steps : List ActStep) (x : Expr) → map bare_step steps ≡ step.Result x ∷ [] → (y : Expr) × (steps ≡ step.Result y ∷ [])
result_steps [] x is = absurd (cc)
result_steps (s ∷ []) x is =
    let one = one_result s x cc in
    (one.0, ap (λ (z : ActStep). z ∷ []) one.1)
result_steps (s ∷ (z ∷ steps)) x is = absurd (let rest : bare_step z ∷ map bare_step steps ≡ [] = cc in cc)

module _ (n : NativeData) (d : SetupData) (t : ScriptState) (same : bare_setup d ≡ bare_setup (setup_in n t)) (keeps : Keeps (head_state n) t) where
  has_event : (event : ℕ) → event < 8 → IsWordEvent d event
  has_event event among =
      let events : map bare_event d.events ≡ map bare_event (head_state n).events = ap (λ (x : SetupData). x.events) same ∙ ap (map bare_event) keeps.events in
      let e = mapped_at bare_event d.events (head_state n).events event sum_of events (head_events n event among) in
      record {
        def = e.0;
        there = e.1;
        owner = ap (λ (x : EventDef). x.owner) e.2;
        sig = ap (λ (x : EventDef). x.sig) e.2;
        default = ap (λ (x : EventDef). x.first_default) e.2;
      }

  has_handler : (handler : ℕ) → 0 < handler → handler ≤ 4 → IsWordHandler d handler
  has_handler handler first last =
      let handlers : map bare_handler d.handlers ≡ map bare_handler (head_state n).handlers = ap (λ (x : SetupData). x.handlers) same ∙ ap (map bare_handler) keeps.handlers in
      let h = mapped_at bare_handler d.handlers (head_state n).handlers (handler - 1) (adds handler) handlers (head_handlers n handler first last) in
      let steps = result_steps h.0.act.steps (plus (expr.Arg 0) (expr.Const handler)) (ap (λ (x : HandlerUnit). x.act.steps) h.2) in
      record { unit = h.0; there = numbered-at d.handlers handler (λ none. omega (arith, none, first)) ∙ h.1; sig = ap (λ (x : HandlerUnit). x.sig) h.2; result = steps.0; steps = steps.1 }

  has_guard : (guard : ℕ) → 0 < guard → guard ≤ 4 → IsWordGuard d guard
  has_guard guard first last =
      let guards : map bare_guard d.guards ≡ map bare_guard (head_state n).guards = ap (λ (x : SetupData). x.guards) same ∙ ap (map bare_guard) keeps.guards in
      let g = mapped_at bare_guard d.guards (head_state n).guards (guard - 1) (admits guard) guards (head_guards n guard first last) in
      record { unit = g.0; there = g.1; sig = ap (λ (x : GuardUnit). x.sig) g.2 }

  has_words : HasWords d
  has_words = record {
    modules = ap (λ (x : SetupData). x.modules) same ∙ keeps.modules ∙ head_modules n;
    events = has_event;
    handlers = has_handler;
    guards = has_guard;
  }

-- ---- the whole

-- The script has events of words; in its first segment lane 0 installs on later events, in the next ones each lane asks
-- of its own event, and in the last one records are taken for event 8.
pub record IsGenerated (script : ScriptData) : Type 0 where
  pub fit : HasWords script.setup
  pub first : Segment
  pub middle : List Segment
  pub last : Segment
  pub segments : script.segments ≡ first ∷ (middle ++ last ∷ [])
  pub first_lines : OnLanes IsFirstWork first
  pub middle_lines : AllByRecursion (OnLanes IsOwn) middle
  pub last_lines : OnLanes IsPacket last

lines_split : (number : ℕ) → lines_of number drafts ≡ head_lines ++ (lines_of number (segments_drafts 4) ++ (Barrier ∷ packet_lines 8))
unfolding drafts
lines_split number =
    lines_joined number (map Stated head_lines) (segments_drafts 4 ++ map Stated (Barrier ∷ packet_lines 8))
    ∙ (λ i. stated_lines number head_lines i ++ lines_of (stated_state number head_lines i) (segments_drafts 4 ++ map Stated (Barrier ∷ packet_lines 8)))
    ∙ ap (λ (ls : List LineMeaning). head_lines ++ ls)
    (lines_joined number (segments_drafts 4) (map Stated (Barrier ∷ packet_lines 8))
    ∙ ap (λ (ls : List LineMeaning). lines_of number (segments_drafts 4) ++ ls) (stated_lines (state_behind number (segments_drafts 4)) (Barrier ∷ packet_lines 8)))

well_ended : (n : NativeData) (t : ScriptState) → t.version ≡ 1 → outcome_at_end n t ≡ Ok (script_in n t)
well_ended n t version = rw version refl

-- the script as it is read, but for where boxes lie
read_as : (n : NativeData) (number : ℕ) (script : ScriptData) → IsScript n (script_of number) (Ok script)
    → (t : ScriptState) × LeadTo n begun 2 (lines_of number drafts) t × (bare_script script ≡ bare_script (script_in n t))
read_as n number script read =
    let go = all_go n number in
    let width = all_width number in
    let also : IsScript n (version_text 1 ++ text_of_lines (lines_from number)) (Ok (script_in n go.0)) =
    lines_read n 1 (lines_from number) go.0 (Ok (script_in n go.0)) refl go.1 (sym (well_ended n go.0 go.2)) (omega (arith, width)) in
    let again : IsScript n (script_of number) (Ok (script_in n go.0)) =
    subst (λ (ls : List LineMeaning). IsScript n (version_text 1 ++ text_of_lines ls) (Ok (script_in n go.0))) (sym (lines_are number)) also in (
      go.0,
      subst (λ (ls : List LineMeaning). LeadTo n begun 2 ls go.0) (sym (lines_are number)) go.1,
      one_outcome n (script_of number) (Ok script) (Ok (script_in n go.0)) read again,
    )

head_is : (n : NativeData) (t : ScriptState) → LeadTo n begun 2 head_lines t → t ≡ head_state n
unfolding head_state
head_is n t h = final_is n begun 2 head_lines t h

-- the first segment, some more, and the last
all_segments : (head front rest t : ScriptState) (more : List Segment) (last : Segment) → front ≡ head → head.ended ≡ []
    → segments_in rest ≡ segments_in front ++ more → segments_in t ≡ segments_in rest ++ last ∷ [] → segments_in t ≡ head.segment ∷ (more ++ last ∷ [])
all_segments head front rest t more last is none middle end =
    let behind : segments_in rest ≡ segments_in head ++ more = middle ∙ ap (λ (x : ScriptState). segments_in x ++ more) is in
    let begins : segments_in head ≡ head.segment ∷ [] = ap (λ (xs : List Segment). xs ++ head.segment ∷ []) none in
    end ∙ ap (λ (xs : List Segment). xs ++ last ∷ []) (behind ∙ ap (λ (xs : List Segment). xs ++ more) begins)

read_segments : (n : NativeData) (script : ScriptData) (t : ScriptState) (segments : List Segment)
    → bare_script script ≡ bare_script (script_in n t) → segments_in t ≡ segments → script.segments ≡ segments
read_segments n script t segments same are = ap (λ (x : ScriptData). x.segments) same ∙ are

pub generated : (n : NativeData) (number : ℕ) (script : ScriptData) → IsScript n (script_of number) (Ok script) → IsGenerated script
generated n number script read =
    let got = read_as n number script read in
    let t = got.0 in
    let lines = lines_of number (segments_drafts 4) in
    let front = between n begun 2 head_lines (lines ++ (Barrier ∷ packet_lines 8)) t (subst (λ (ls : List LineMeaning). LeadTo n begun 2 ls t) (lines_split number) got.1) in
    let head = head_is n front.state front.first in
    let rest = between n front.state front.number lines (Barrier ∷ packet_lines 8) t front.second in
    let more = adds_segments n 4 number front.state front.number rest.state rest.first in
    let last = adds_segment IsPacket n (packet_lines 8) rest.state rest.number t packets_all rest.second in
    let keeps = keeps_on (head_state n) front.state t (keeps_same (head_state n) front.state head) (keeps_on front.state rest.state t more.keeps last.keeps) in
    record {
      fit = has_words n script.setup t (ap (λ (x : ScriptData). x.setup) got.2) keeps;
      first = (head_state n).segment;
      middle = more.segments;
      last = last.segment;
      segments = read_segments n script t ((head_state n).segment ∷ (more.segments ++ last.segment ∷ [])) got.2
          (all_segments (head_state n) front.state rest.state t more.segments last.segment head (head_ended n) more.are last.segments);
      first_lines = head_segment n;
      middle_lines = more.lines;
      last_lines = last.lines;
    }
