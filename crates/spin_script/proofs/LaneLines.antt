-- What holds of the lane lines and the endpoints of each script, line by line.
use Rattle.std.proofs.Common.{◌≡◌, ◌<◌, ◌≤◌, ◌+◌, inl, inr, ℕ, suc, Bool, true, false, not, ◌||◌, eqb, List, [], ◌∷◌}
use Rattle.std.proofs.Common.{◌++◌, length, get_or, Option, Some, None, Result, Ok, Err, refl, sym, ap, subst, ◌∙◌, arith}
use Rattle.std.specs.Bool.{MatchBool}
use Rattle.std.specs.Prelude.{◌≢◌, slice_get, nat_lt, nat_le, max, sum_by, All, AllPairs, bytes_eq, if◌then◌else◌}
use Rattle.std.specs.List.{flat_map, list_any}
use Rattle.std.specs.Str.Lines.{lines}
use Rattle.std.proofs.lemmas.Bool.Decides.{nat_tests}
use Rattle.std.proofs.lemmas.List.{append-nil, append_assoc, flat_map_more, length-append}
use Rattle.std.proofs.lemmas.List.Elements.{All-nil, All-push, All-same}
use Rattle.std.proofs.lemmas.List.Quantifiers.{all_pairs_push}
use Rattle.std.proofs.lemmas.List.Sums.{sum_by-append}
use Rattle.std.proofs.lemmas.List.Folds.{list_any_at}
use Rattle.std.proofs.lemmas.Slice.Eq.{bytes_eq-Decides}
use Rattle.spin_code.specs.declared.act.ActStep.{ActStep}
use Rattle.spin_code.specs.declared.act.ActStep.TheVariants as step
use Rattle.spin_code.specs.declared.check.ActFault.{ActFault}
use Rattle.spin_code.specs.Check.{act_check}
use Rattle.spin_objects.specs.Units.{HandlerUnit, handler_if}
use Rattle.spin_table.specs.declared.event.EventDef.{EventDef}
use Rattle.spin_grammar.specs.declared.cause.Cause.{Cause}
use Rattle.spin_grammar.specs.declared.cause.Cause.TheVariants as cause
use Rattle.spin_grammar.specs.declared.kind.Kind.{Kind}
use Rattle.spin_grammar.specs.declared.kind.Kind.TheVariants as kind
use Rattle.spin_grammar.specs.Forms as forms
use Rattle.spin_grammar.specs.Grammar as grammar
use Rattle.spin_grammar.specs.Grammar.{Numeral, Called, reads}
use Rattle.spin_grammar.specs.Lines as line
use Rattle.spin_grammar.specs.Lines.{form, wanted, Spells}
use Rattle.spin_grammar.proofs.LineEnds.{lines_count}
use Rattle.spin_script.specs.declared.script.Line.{Line}
use Rattle.spin_script.specs.declared.script.Segment.{Segment}
use Rattle.spin_word.specs.declared.work.Work.{Work}
use Rattle.spin_grammar.specs.Tasks.{work_of}
use Rattle.spin_script.specs.States.{NativeData, ScriptState, ScriptData, empty_segment, start, after, with_handler}
use Rattle.spin_script.specs.States.{with_guard, with_authority, with_work, native_at, command_count, deed_count, script_in}
use Rattle.spin_values.specs.First.{first_of}
use Rattle.spin_script.specs.Checks.{checks, checked, step_checks, native_checks, step_names_unknown, is_work_full, most_commands, most_deeds}
use Rattle.spin_script.specs.Language.{Head, Skipped, Begins, Says, head, Passes, Outcome, outcome_at_end, ComesTo, most_bytes, IsScript}
use Rattle.spin_script.specs.Soundness.{lines_in}
use Rattle.spin_script.specs.Segments.{IsOfLane, IsOnLane, retired_in, IsSentBelow, SendsBelow, HasEndpoints, IsOrderly}
use Rattle.spin_script.proofs.WrittenDeeds.{number_first}
use Rattle.spin_script.proofs.WritableScripts.{makes, small_enough}

-- ---- lists

all_on : {X : Type 0} (P Q : X → Type 0) (xs : List X) → ((x : X) → P x → Q x) → All P xs → All Q xs
all_on P Q xs on all = λ j d lt. on (get_or xs j d) (all j d lt)

-- the segments of the script so far
abbrev parts : ScriptState → List Segment
parts s = s.ended ++ s.segment ∷ []

last_of : {X : Type 0} (f : Segment → List X) (ended : List Segment) (s : Segment) → flat_map f (ended ++ s ∷ []) ≡ flat_map f ended ++ f s
last_of f ended s = sym (flat_map_more f [] ended s)

-- where the last segment is another with the same of that
last_same : {X : Type 0} (f : Segment → List X) (ended : List Segment) (s t : Segment) → f t ≡ f s → flat_map f (ended ++ t ∷ []) ≡ flat_map f (ended ++ s ∷ [])
last_same {X} f ended s t same = last_of f ended t ∙ ap (λ (xs : List X). flat_map f ended ++ xs) same ∙ sym (last_of f ended s)

-- one more of that in the last segment
last_more : {X : Type 0} (f : Segment → List X) (ended : List Segment) (s t : Segment) (x : X) → f t ≡ f s ++ x ∷ [] → flat_map f (ended ++ t ∷ []) ≡ flat_map f (ended ++ s ∷ []) ++ x ∷ []
last_more {X} f ended s t x more =
    last_of f ended t ∙ ap (λ (xs : List X). flat_map f ended ++ xs) more ∙ sym (append_assoc (flat_map f ended) (f s) (x ∷ []))
    ∙ ap (λ (xs : List X). xs ++ x ∷ []) (sym (last_of f ended s))

-- an empty segment more
none_more : {X : Type 0} (f : Segment → List X) (segments : List Segment) → f empty_segment ≡ [] → flat_map f (segments ++ empty_segment ∷ []) ≡ flat_map f segments
none_more {X} f segments none = last_of f segments empty_segment ∙ ap (λ (xs : List X). flat_map f segments ++ xs) none ∙ append-nil (flat_map f segments)

-- ---- lane lines

-- these lane lines are those of so many deeds and lanes, before the line of that number
record IsLined (number lanes deeds : ℕ) (ls : List Line) : Type 0 where
  rise : AllPairs (λ line later. line.number < later.number) ls
  before : All (λ line. line.number < number) ls
  some : 1 ≤ lanes
  few : lanes ≤ 8
  each : All (IsOnLane lanes) ls
  counted : sum_by (λ line. deed_count line.work) ls ≡ deeds
  limit : deeds ≤ 65536

lined_none : (number : ℕ) → IsLined number 1 0 []
lined_none number = record {
  rise = λ i j d lt inside. absurd (omega arith);
  before = All-nil (λ (line : Line). line.number < number);
  some = omega arith;
  few = omega arith;
  each = All-nil (IsOnLane 1);
  counted = refl;
  limit = omega arith;
}

lined_next : (number lanes deeds : ℕ) (ls ms : List Line) → ms ≡ ls → IsLined number lanes deeds ls → IsLined (number + 1) lanes deeds ms
lined_next number lanes deeds ls ms same x = subst (IsLined (number + 1) lanes deeds) (sym same) (record {
  rise = x.rise;
  before = all_on (λ (line : Line). line.number < number) (λ (line : Line). line.number < number + 1) ls (λ line lt. omega arith) x.before;
  some = x.some;
  few = x.few;
  each = x.each;
  counted = x.counted;
  limit = x.limit;
})

at_most_max : (a b : ℕ) → (a ≤ max a b) × (b ≤ max a b)
at_most_max a b = (omega arith, omega arith)

wider : (lanes more : ℕ) (line : Line) → IsOnLane lanes line → lanes ≤ more → IsOnLane more line
wider lanes more line x le = record { below = let b = x.below in omega arith; own = x.own }

lined_more : (number lanes deeds : ℕ) (ls ms : List Line) (line : Line) → ms ≡ ls ++ line ∷ []
    → line.number ≡ number → line.lane ≤ 7 → IsOfLane line.lane line.work → deeds + deed_count line.work ≤ 65536
    → IsLined number lanes deeds ls → IsLined (number + 1) (max lanes (line.lane + 1)) (deeds + deed_count line.work) ms
lined_more number lanes deeds ls ms line same at few own limit x =
    let wide = at_most_max lanes (line.lane + 1) in
    subst (IsLined (number + 1) (max lanes (line.lane + 1)) (deeds + deed_count line.work)) (sym same) (record {
      rise = all_pairs_push (λ (one : Line) (later : Line). one.number < later.number) ls line x.rise (λ k d lt. subst (λ (n : ℕ). (get_or ls k d).number < n) (sym at) (x.before k d lt));
      before = All-push (λ (one : Line). one.number < number + 1) ls line
          (all_on (λ (one : Line). one.number < number) (λ (one : Line). one.number < number + 1) ls (λ one lt. omega arith) x.before) (omega (arith, at));
      some = let s = x.some in let w = wide.0 in omega arith;
      few = let f = x.few in omega arith;
      each = All-push (IsOnLane (max lanes (line.lane + 1))) ls line
          (all_on (IsOnLane lanes) (IsOnLane (max lanes (line.lane + 1))) ls (λ one on. wider lanes (max lanes (line.lane + 1)) one on wide.0) x.each)
          (record { below = let w = wide.1 in omega arith; own = own });
      counted = sum_by-append (λ (one : Line). deed_count one.work) ls (line ∷ []) ∙ ap (λ (k : ℕ). k + sum_by (λ (one : Line). deed_count one.work) (line ∷ [])) x.counted ∙ omega arith;
      limit = limit;
    })

-- ---- endpoints

same_endpoints : (names : List (List ℕ)) (hs : List HandlerUnit) (a b : List Segment) → retired_in b ≡ retired_in a → HasEndpoints names hs a → HasEndpoints names hs b
same_endpoints names hs a b same x = record {
  few = x.few;
  differ = x.differ;
  retired = All-same (λ (endpoint : ℕ). endpoint < length names) (retired_in b) (retired_in a) same x.retired;
  sent = x.sent;
}

sent_further : (few more : ℕ) → few ≤ more → (s : ActStep) → IsSentBelow few s → IsSentBelow more s
sent_further few more le (step.Set arg e) h = tt
sent_further few more le (step.Send endpoint arg from) h = omega arith
sent_further few more le (step.Result e) h = tt
sent_further few more le (step.Up event parts) h = tt
sent_further few more le (step.Layer k event) h = tt

differs : (name : List ℕ) (known : List ℕ) → bytes_eq known name ≡ false → known ≢ name
differs name known other = λ same. absurd (let found = (bytes_eq-Decides known name).1 same in let bad : true ≡ false = sym found ∙ other in cc)

other_names : (names : List (List ℕ)) (name : List ℕ) → list_any (λ known. bytes_eq known name) names ≡ false → (k : ℕ) (d : List ℕ) → k < length names → get_or names k d ≢ name
other_names names name none k d lt = by_test (bytes_eq (get_or names k d) name) refl
  where
    by_test : (b : Bool) → bytes_eq (get_or names k d) name ≡ b → get_or names k d ≢ name
    by_test true e = absurd (let found = list_any_at (λ (known : List ℕ). bytes_eq known name) names k d lt e in cc)
    by_test false e = differs name (get_or names k d) e

named_more : (names : List (List ℕ)) (hs : List HandlerUnit) (segments : List Segment) (name : List ℕ) → list_any (λ known. bytes_eq known name) names ≡ false → length names ≤ 63
    → HasEndpoints names hs segments → HasEndpoints (names ++ name ∷ []) hs segments
named_more names hs segments name none room x =
    let longer : length names ≤ length (names ++ name ∷ []) = omega (arith, length-append names (name ∷ [])) in
    record {
      few = omega (arith, length-append names (name ∷ []));
      differ = all_pairs_push (λ (one : List ℕ) (later : List ℕ). one ≢ later) names name x.differ (other_names names name none);
      retired = all_on (λ (endpoint : ℕ). endpoint < length names) (λ (endpoint : ℕ). endpoint < length (names ++ name ∷ [])) (retired_in segments) (λ endpoint lt. omega arith) x.retired;
      sent = all_on (SendsBelow (length names)) (SendsBelow (length (names ++ name ∷ []))) hs
          (λ h all. all_on (IsSentBelow (length names)) (IsSentBelow (length (names ++ name ∷ []))) h.act.steps (sent_further (length names) (length (names ++ name ∷ [])) longer) all) x.sent;
    }

retired_more : (names : List (List ℕ)) (hs : List HandlerUnit) (a b : List Segment) (endpoint : ℕ)
    → retired_in b ≡ retired_in a ++ endpoint ∷ [] → endpoint < length names → HasEndpoints names hs a → HasEndpoints names hs b
retired_more names hs a b endpoint more there x = record {
  few = x.few;
  differ = x.differ;
  retired = All-same (λ (e : ℕ). e < length names) (retired_in b) (retired_in a ++ endpoint ∷ []) more (All-push (λ (e : ℕ). e < length names) (retired_in a) endpoint x.retired there);
  sent = x.sent;
}

handler_more : (names : List (List ℕ)) (hs : List HandlerUnit) (segments : List Segment) (h : HandlerUnit)
    → SendsBelow (length names) h → HasEndpoints names hs segments → HasEndpoints names (hs ++ h ∷ []) segments
handler_more names hs segments h sends x = record { few = x.few; differ = x.differ; retired = x.retired; sent = All-push (SendsBelow (length names)) hs h x.sent sends }

known_step : (endpoints events : ℕ) (s : ActStep) → step_names_unknown endpoints events s ≡ false → IsSentBelow endpoints s
known_step endpoints events (step.Set arg e) known = tt
known_step endpoints events (step.Send endpoint arg from) known = grind (arith, nat_tests, known)
known_step endpoints events (step.Result e) known = tt
known_step endpoints events (step.Up event ps) known = tt
known_step endpoints events (step.Layer k event) known = tt

not_both : (b : Bool) → b ≡ true → b ≡ false → ⊥
not_both b t f = absurd (cc)

known_steps : (endpoints events : ℕ) (ss : List ActStep) → list_any (step_names_unknown endpoints events) ss ≡ false → All (IsSentBelow endpoints) ss
known_steps endpoints events ss none = λ k d lt. by_test k d lt (step_names_unknown endpoints events (get_or ss k d)) refl
  where
    by_test : (k : ℕ) (d : ActStep) → k < length ss → (b : Bool) → step_names_unknown endpoints events (get_or ss k d) ≡ b → IsSentBelow endpoints (get_or ss k d)
    by_test k d lt true e = absurd (not_both (list_any (step_names_unknown endpoints events) ss) (list_any_at (step_names_unknown endpoints events) ss k d lt e) none)
    by_test k d lt false e = known_step endpoints events (get_or ss k d) e

-- ---- what no cause says

none_of : (b : Bool) (c : Cause) (rest : Option Cause) → (if b then Some c else rest) ≡ None → (b ≡ false) × (rest ≡ None)
none_of true c rest none = cc
none_of false c rest none = (refl, none)

sends : (names : List (List ℕ)) (events : List EventDef) (h : HandlerUnit) → first_of (step_checks (length names) events h.act.steps) ≡ None → SendsBelow (length names) h
sends names events h none = known_steps (length names) (length events) h.act.steps (none_of (list_any (step_names_unknown (length names) (length events)) h.act.steps) cause.Undeclared _ none).0

-- ---- what an endpoint's line says

-- its number is at most 63
endpoint_number : (version : ℕ) (k : Kind) (ws : List (List ℕ)) (p : ℕ) (name : List ℕ) → Spells version k ws (line.Endpoint p name) → p ≤ 63
endpoint_number version k ws p name spells =
    let said : reads (wanted version kind.Endpoint) ws ≡ Ok (Numeral p ∷ Called name ∷ []) =
    subst (λ (j : Kind). reads (wanted version j) ws ≡ Ok (form (line.Endpoint p name))) (sym spells.kind) spells.words in
    (number_first 0 63 p (grammar.Name ∷ []) ws (Called name ∷ []) said).1

next_number : (p count : ℕ) → not (eqb p count) ≡ false → p ≤ 63 → count ≤ 63
next_number p count next few = grind (arith, nat_tests, next, few)

-- ---- the script so far

-- all this holds of the script so far, before the line of that number
record IsSoFar (number : ℕ) (s : ScriptState) : Type 0 where
  lined : IsLined number s.lanes s.deeds (lines_in (parts s))
  endpoints : HasEndpoints s.endpoints s.handlers (parts s)

-- where neither lane lines nor endpoints come to be
plain : (number : ℕ) (s t : ScriptState) → t.lanes ≡ s.lanes → t.deeds ≡ s.deeds → lines_in (parts t) ≡ lines_in (parts s)
    → retired_in (parts t) ≡ retired_in (parts s) → t.endpoints ≡ s.endpoints → t.handlers ≡ s.handlers
    → IsSoFar number s → IsSoFar (number + 1) t
plain number s t lanes deeds lined retired names handlers x = record {
  lined = subst (λ (k : ℕ). IsLined (number + 1) k t.deeds (lines_in (parts t))) (sym lanes)
      (subst (λ (k : ℕ). IsLined (number + 1) s.lanes k (lines_in (parts t))) (sym deeds) (lined_next number s.lanes s.deeds (lines_in (parts s)) (lines_in (parts t)) lined x.lined));
  endpoints = subst (λ (ns : List (List ℕ)). HasEndpoints ns t.handlers (parts t)) (sym names)
      (subst (λ (hs : List HandlerUnit). HasEndpoints s.endpoints hs (parts t)) (sym handlers) (same_endpoints s.endpoints s.handlers (parts s) (parts t) retired x.endpoints));
}

-- where an endpoint or a handler comes to be
declared : (number : ℕ) (s t : ScriptState) → t.lanes ≡ s.lanes → t.deeds ≡ s.deeds → parts t ≡ parts s → HasEndpoints t.endpoints t.handlers (parts s) → IsSoFar number s → IsSoFar (number + 1) t
declared number s t lanes deeds same endpoints x = record {
  lined = subst (λ (k : ℕ). IsLined (number + 1) k t.deeds (lines_in (parts t))) (sym lanes)
      (subst (λ (k : ℕ). IsLined (number + 1) s.lanes k (lines_in (parts t))) (sym deeds) (lined_next number s.lanes s.deeds (lines_in (parts s)) (lines_in (parts t)) (ap lines_in same) x.lined));
  endpoints = subst (λ (ps : List Segment). HasEndpoints t.endpoints t.handlers ps) (sym same) endpoints;
}

native_handler : (n : NativeData) (number : ℕ) (s : ScriptState) (o : Option ℕ) → first_of (native_checks n s o) ≡ None → IsSoFar number s → IsSoFar (number + 1) (with_handler n s o)
native_handler n number s None none x = absurd cc
native_handler n number s (Some native) none x =
    let h : HandlerUnit = handler_if (slice_get n.handlers native) in
    declared number s (with_handler n s (Some native)) refl refl refl (handler_more s.endpoints s.handlers (parts s) h (sends s.endpoints s.events h none) x.endpoints) x

native_guard : (n : NativeData) (number : ℕ) (s : ScriptState) (o : Option ℕ) → IsSoFar number s → IsSoFar (number + 1) (with_guard n s o)
native_guard n number s None x = plain number s s refl refl refl refl refl refl x
native_guard n number s (Some native) x = plain number s (with_guard n s (Some native)) refl refl refl refl refl refl x

authority : (number : ℕ) (s : ScriptState) (e : ℕ) (o : Option ℕ) → IsSoFar number s → IsSoFar (number + 1) (with_authority s e o)
authority number s e None x = plain number s s refl refl refl refl refl refl x
authority number s e (Some native) x = plain number s (with_authority s e (Some native)) refl refl refl refl refl refl x

of_lane : (lane : ℕ) (t : forms.Task) → IsOfLane lane (work_of lane t)
of_lane lane (forms.Install e m h g spot mode) = refl
of_lane lane (forms.Remove e m n) = refl
of_lane lane (forms.Replace e m n h g) = refl
of_lane lane (forms.Default e m h) = refl
of_lane lane (forms.NoDefault e m) = refl
of_lane lane (forms.Raise e vs) = tt
of_lane lane (forms.Later e vs) = tt
of_lane lane (forms.Packet e n) = tt

neither : (a b : Bool) → (a || b) ≡ false → (a ≡ false) × (b ≡ false)
neither true b e = cc
neither false b e = (refl, e)

few_deeds : (version commands deeds : ℕ) (w : Work) → is_work_full version commands deeds w ≡ false → deeds + deed_count w ≤ 65536
few_deeds version commands deeds w room =
    let r = (neither (nat_lt (most_commands version) (commands + command_count w)) (nat_lt most_deeds (deeds + deed_count w)) room).1 in
    grind (arith, nat_tests, r)

work_more : (number : ℕ) (s : ScriptState) (lane : ℕ) (t : forms.Task) → is_work_full s.version s.commands s.deeds (work_of lane t) ≡ false
    → lane ≤ 7 → IsSoFar number s → IsSoFar (number + 1) (with_work s number lane (work_of lane t))
work_more number s lane t room few x =
    let more : Line = record { number = number; lane = lane; work = work_of lane t } in
    let segment : Segment = record { retires = s.segment.retires; lines = s.segment.lines ++ more ∷ [] } in
    record {
      lined = lined_more number s.lanes s.deeds (lines_in (parts s)) (lines_in (s.ended ++ segment ∷ [])) more
          (last_more (λ (g : Segment). g.lines) s.ended s.segment segment more refl) refl few (of_lane lane t)
          (few_deeds s.version s.commands s.deeds (work_of lane t) room) x.lined;
      endpoints = same_endpoints s.endpoints s.handlers (parts s) (s.ended ++ segment ∷ []) (last_same (λ (g : Segment). g.retires) s.ended s.segment segment refl) x.endpoints;
    }

barrier : (n : NativeData) (number : ℕ) (s : ScriptState) → IsSoFar number s → IsSoFar (number + 1) (after n s number line.Barrier)
barrier n number s x =
    plain number s (after n s number line.Barrier) refl refl (none_more (λ (g : Segment). g.lines) (parts s) refl) (none_more (λ (g : Segment). g.retires) (parts s) refl) refl refl x

retire : (n : NativeData) (number : ℕ) (s : ScriptState) (p : ℕ) → p < length s.endpoints → IsSoFar number s → IsSoFar (number + 1) (after n s number (line.Retire p))
retire n number s p there x =
    let segment : Segment = record { retires = s.segment.retires ++ p ∷ []; lines = s.segment.lines } in
    record {
      lined = lined_next number s.lanes s.deeds (lines_in (parts s)) (lines_in (s.ended ++ segment ∷ [])) (last_same (λ (g : Segment). g.lines) s.ended s.segment segment refl) x.lined;
      endpoints = retired_more s.endpoints s.handlers (parts s) (s.ended ++ segment ∷ []) p (last_more (λ (g : Segment). g.retires) s.ended s.segment segment p refl) there x.endpoints;
    }

no_fault : (r : Result (Unit {0}) ActFault) (others : List (Bool × Cause)) → first_of (checked r others) ≡ None → first_of others ≡ None
no_fault (Ok done) others none = none
no_fault (Err f) others none = cc

lined_after : (n : NativeData) (number : ℕ) (s : ScriptState) (l : line.LineMeaning) → first_of (checks n s l) ≡ None → ((p : ℕ) (name : List ℕ) → l ≡ line.Endpoint p name → p ≤ 63)
    → IsSoFar number s → IsSoFar (number + 1) (after n s number l)
lined_after n number s (line.Modules k) none few x = plain number s (after n s number (line.Modules k)) refl refl refl refl refl refl x
lined_after n number s (line.Event e owner sig m) none few x = plain number s (after n s number (line.Event e owner sig m)) refl refl refl refl refl refl x
lined_after n number s (line.Endpoint p name) none few x =
    let next = none_of (not (eqb p (length s.endpoints))) cause.Next _ none in
    let new = none_of (list_any (λ known. bytes_eq known name) s.endpoints) cause.Repeated None next.1 in
    declared number s (after n s number (line.Endpoint p name)) refl refl refl
    (named_more s.endpoints s.handlers (parts s) name new.0 (next_number p (length s.endpoints) next.0 (few p name refl)) x.endpoints) x
lined_after n number s (line.Handler h sig steps) none few x =
    let unit : HandlerUnit = record { sig = sig; act = record { steps = steps } } in
    let next = none_of (not (eqb h (length s.handlers + 1))) cause.Next _ none in
    let right = no_fault (act_check (record { steps = steps }) sig) (step_checks (length s.endpoints) s.events steps) next.1 in
    declared number s (after n s number (line.Handler h sig steps)) refl refl refl (handler_more s.endpoints s.handlers (parts s) unit (sends s.endpoints s.events unit right) x.endpoints) x
lined_after n number s (line.NativeHandler h name) none few x =
    native_handler n number s (native_at name n.handlers) (none_of (not (eqb h (length s.handlers + 1))) cause.Next _ none).1 x
lined_after n number s (line.Guard g sig t) none few x = plain number s (after n s number (line.Guard g sig t)) refl refl refl refl refl refl x
lined_after n number s (line.NativeGuard g name) none few x = native_guard n number s (native_at name n.guards) x
lined_after n number s (line.Rules e r) none few x = plain number s (after n s number (line.Rules e r)) refl refl refl refl refl refl x
lined_after n number s (line.Authoriser e name) none few x = authority number s e (native_at name n.authorisers) x
lined_after n number s (line.Default e h) none few x = plain number s (after n s number (line.Default e h)) refl refl refl refl refl refl x
lined_after n number s (line.Lane lane t) none few x =
    let full = none_of (is_work_full s.version s.commands s.deeds (work_of lane t)) cause.Limit _ none in
    let wide = none_of (nat_le 8 lane) cause.Lane None full.1 in
    work_more number s lane t full.0 (let w = wide.0 in grind (arith, nat_tests, w)) x
lined_after n number s line.Barrier none few x = barrier n number s x
lined_after n number s (line.Retire p) none few x =
    let there = none_of (nat_le (length s.endpoints) p) cause.Undeclared None none in
    retire n number s p (let t = there.0 in grind (arith, nat_tests, t)) x

-- ---- all lines

lined_on : (n : NativeData) (number : ℕ) (s t : ScriptState) (h : Result Head Cause) → Passes n s number h t → IsSoFar number s → IsSoFar (number + 1) t
lined_on n number s t (Err c) p x = absurd p
lined_on n number s t (Ok Skipped) p x = subst (IsSoFar (number + 1)) (sym p) (plain number s s refl refl refl refl refl refl x)
lined_on n number s t (Ok (Begins version)) p x = subst (IsSoFar (number + 1)) (sym p) (plain number s (record s { version = version }) refl refl refl refl refl refl x)
lined_on n number s t (Ok (Says k ws)) p x =
    subst (IsSoFar (number + 1)) (sym p.3) (lined_after n number s p.0 p.2 (λ endpoint name is. endpoint_number s.version k ws endpoint name (subst (Spells s.version k ws) is p.1)) x)

-- what so many lines from that number on come to is what a script so far comes to, of which all this holds
record Ended (n : NativeData) (from count : ℕ) (d : ScriptData) : Type 0 where
  last : ScriptState
  number : ℕ
  behind : number ≡ from + count
  orderly : IsSoFar number last
  is : d ≡ script_in n last

same_data : (d e : ScriptData) → ◌≡◌ {A = Outcome} (Ok d) (Ok e) → d ≡ e
same_data d e h = cc

end_of : (n : NativeData) (number : ℕ) (s : ScriptState) (d : ScriptData) (b : Bool)
    → ◌≡◌ {A = Outcome} (Ok d) (if b then Err (1, cause.Version) else Ok (script_in n s)) → IsSoFar number s → Ended n number 0 d
end_of n number s d true e x = absurd cc
end_of n number s d false e x = record { last = s; number = number; behind = omega arith; orderly = x; is = same_data d (script_in n s) e }

one_more : (n : NativeData) (from count : ℕ) (d : ScriptData) → Ended n (from + 1) count d → Ended n from (suc count) d
one_more n from count d e = record { last = e.last; number = e.number; behind = let b = e.behind in omega arith; orderly = e.orderly; is = e.is }

comes_orderly : (n : NativeData) (number : ℕ) (s : ScriptState) (texts : List (List ℕ)) (d : ScriptData) → ComesTo n s number texts (Ok d) → IsSoFar number s → Ended n number (length texts) d
comes_orderly n number s [] d h x = end_of n number s d (eqb s.version 0) h x
comes_orderly n number s (text ∷ more) d (inl h) x = one_more n number (length more) d (comes_orderly n (number + 1) h.0 more d h.2 (lined_on n number s h.0 (head s text) h.1 x))
comes_orderly n number s (text ∷ more) d (inr h) x = absurd (let bad : Ok d ≡ Err (number, h.0) = h.2 in cc)

start_orderly : IsSoFar 1 start
start_orderly = record {
  lined = lined_none 1;
  endpoints = record { few = omega arith; differ = λ i j d lt inside. absurd (omega arith); retired = All-nil (λ (endpoint : ℕ). endpoint < 0); sent = All-nil (SendsBelow 0) };
}

orderly_end : (n : NativeData) (number : ℕ) (s : ScriptState) → IsSoFar number s → IsOrderly (script_in n s)
orderly_end n number s x = record {
  numbers = x.lined.rise;
  lanes = record { some = x.lined.some; few = x.lined.few; each = x.lined.each };
  deeds = let c = x.lined.counted in let l = x.lined.limit in omega (arith, c);
  endpoints = x.endpoints;
}

not_zero : (v : ℕ) (b : Bool) → eqb v 0 ≡ b → (v ≡ 0 → ⊥) → eqb v 0 ≡ false
not_zero v true e some = absurd (some (grind (arith, nat_tests, e)))
not_zero v false e some = e

-- the script that lines come to is orderly
lines_orderly : (n : NativeData) (texts : List (List ℕ)) (d : ScriptData) → ComesTo n start 1 texts (Ok d) → IsOrderly d
lines_orderly n texts d comes =
    let e = comes_orderly n 1 start texts d comes start_orderly in
    subst IsOrderly (sym e.is) (orderly_end n e.number e.last e.orderly)

pub orderly_read : (n m : NativeData) (s : ScriptState) (texts : List (List ℕ)) (d : ScriptData) → m ≡ n → (s.version ≡ 0 → ⊥)
    → ((o : Outcome) → o ≡ outcome_at_end n s → ComesTo n start 1 texts o) → d ≡ script_in m s → IsOrderly d
orderly_read n m s texts d natives some gives is =
    let comes : ComesTo n start 1 texts (Ok (script_in n s)) = gives (Ok (script_in n s)) (makes n s (not_zero s.version (eqb s.version 0) refl some)) in
    let same : d ≡ script_in n s = is ∙ ap (λ (k : NativeData). script_in k s) natives in
    subst IsOrderly (sym same) (lines_orderly n texts (script_in n s) comes)

-- ---- a text that is a script

comes_to : (n : NativeData) (text : List ℕ) (d : ScriptData) → IsScript n text (Ok d) → ComesTo n start 1 (lines text) (Ok d)
comes_to n text d is = small_enough n text d (nat_lt most_bytes (length text)) is

pub script_orderly : (n : NativeData) (text : List ℕ) (d : ScriptData) → IsScript n text (Ok d) → IsOrderly d
script_orderly n text d is = lines_orderly n (lines text) d (comes_to n text d is)

not_large : (n : NativeData) (text : List ℕ) (d : ScriptData) (b : Bool) → nat_lt 1048576 (length text) ≡ b
    → MatchBool b (◌≡◌ {A = Outcome} (Ok d) (Err (0, cause.TooLarge))) (ComesTo n start 1 (lines text) (Ok d)) → length text ≤ 1048576
not_large n text d true large h = absurd cc
not_large n text d false large h = grind (arith, nat_tests, large)

-- its lane lines are numbered by lines of the text, of which there are no more than it may have bytes, and one
pub script_numbers : (n : NativeData) (text : List ℕ) (d : ScriptData) → IsScript n text (Ok d) → All (λ line. line.number ≤ 1048577) (lines_in d.segments)
script_numbers n text d is =
    let e = comes_orderly n 1 start (lines text) d (comes_to n text d is) start_orderly in
    let count = lines_count text in
    let small = not_large n text d (nat_lt 1048576 (length text)) refl is in
    let behind = e.behind in
    subst (λ (x : ScriptData). All (λ line. line.number ≤ 1048577) (lines_in x.segments)) (sym e.is)
    (all_on (λ (line : Line). line.number < e.number) (λ (line : Line). line.number ≤ 1048577) (lines_in (parts e.last)) (λ line below. omega arith) e.orderly.lined.before)
