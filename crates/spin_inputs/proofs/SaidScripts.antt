-- The script that lines make, from the script so far.
use Rattle.std.proofs.Common.{◌≡◌, ℕ, ◌+◌, ◌<◌, ◌≤◌, inl, inr, Bool, true, false, not, cond, ltb, List, [], ◌∷◌, ◌++◌, length, map}
use Rattle.std.proofs.Common.{Option, Some, None, bytes_eq, refl, sym, ap, ◌∙◌, append_assoc, append-nil, arith}
use Rattle.std.specs.Prelude.{slice_get}
use Rattle.std.specs.List.{cons_option, filter_map, fold, position, position_or_len}
use Rattle.std.specs.Option.{option_map, option_map_or}
use Rattle.std.proofs.lemmas.Bool.Decides.{nat_tests}
use Rattle.std.proofs.lemmas.List.{length-map}
use Rattle.std.proofs.lemmas.List.Folds.{find_at}
use Rattle.std.proofs.lemmas.Option.{slice_get_cases, slice_get_past}
use Rattle.spin_objects.specs.Units.{HandlerUnit, GuardUnit, Named, handler_if, guard_if}
use Rattle.spin_grammar.specs.Lines as line
use Rattle.spin_grammar.specs.Lines.{LineMeaning}
use Rattle.spin_script.specs.declared.script.Segment.{Segment}
use Rattle.spin_script.specs.States.{NativeData, ScriptData, ScriptState, native_at, after, script_in, most_live}
use Rattle.spin_script.specs.States.{with_handler, with_guard, with_authority, with_event, with_authoriser, empty_segment}
use Rattle.spin_inputs.specs.Texts.{events_with, native_of, handler_said, guard_said, endpoint_said, modules_with, lanes_with, segments_with}

abbrev meanings : List (ℕ × LineMeaning) → List LineMeaning
meanings said = map (λ (numbered : ℕ × LineMeaning). numbered.1) said

-- the script that lines make behind the script so far
abbrev pub script_from : NativeData → ScriptState → List (ℕ × LineMeaning) → ScriptData
script_from n s said = record {
  setup = record {
    modules = fold modules_with s.modules (meanings said);
    live = most_live s.version;
    events = fold (events_with n) s.events (meanings said);
    handlers = s.handlers ++ filter_map (handler_said n) (meanings said);
    guards = s.guards ++ filter_map (guard_said n) (meanings said);
    policies = map (λ a. a.unit) n.authorisers;
  };
  version = s.version;
  endpoints = s.endpoints ++ filter_map endpoint_said (meanings said);
  lanes = fold lanes_with s.lanes (meanings said);
  segments = s.ended ++ segments_with s.segment said;
}

abbrev with_handlers : ScriptData → List HandlerUnit → ScriptData
with_handlers d handlers = record d { setup = record d.setup { handlers = handlers } }

abbrev with_guards : ScriptData → List GuardUnit → ScriptData
with_guards d guards = record d { setup = record d.setup { guards = guards } }

pub none_more : (n : NativeData) (s : ScriptState) → script_in n s ≡ script_from n s []
none_more n s =
    ap (λ (x : List HandlerUnit). with_handlers (script_in n s) x) (sym (append-nil s.handlers))
    ∙ ap (λ (x : List GuardUnit). with_guards (with_handlers (script_in n s) (s.handlers ++ [])) x) (sym (append-nil s.guards))
    ∙ ap (λ (x : List (List ℕ)). record (with_guards (with_handlers (script_in n s) (s.handlers ++ [])) (s.guards ++ [])) { endpoints = x }) (sym (append-nil s.endpoints))

-- ---- a native by its name

names_place : {X : Type 0} (name : List ℕ) (natives : List (Named X))
    → position_or_len (λ n. bytes_eq n name) (map (λ (n : Named X). n.name) natives) ≡ position_or_len (λ (n : Named X). bytes_eq n.name name) natives
names_place name [] = refl
names_place name (native ∷ natives) = ap (λ (at : ℕ). cond (not (bytes_eq native.name name)) (1 + at) 0) (names_place name natives)

place_of : {X : Type 0} (name : List ℕ) (natives : List (Named X)) → native_at name natives ≡ position (λ (n : Named X). bytes_eq n.name name) natives
place_of {X} name natives = rw (length-map natives (λ (n : Named X). n.name), names_place name natives) refl

-- what the native at a place was handed in with, where that is one
unit_at : {X : Type 0} (f : Option (Named X) → X) → ((n : Named X) → f (Some n) ≡ n.unit) → (natives : List (Named X)) (at : ℕ) (within : Bool)
    → ltb at (length natives) ≡ within
    → option_map (λ (k : ℕ). f (slice_get natives k)) (cond within (Some at) None) ≡ option_map (λ (n : Named X). n.unit) (slice_get natives at)
unit_at f same natives at true e =
    let inside : at < length natives = grind (arith, nat_tests, e) in
    elim (slice_get_cases natives at).1 [
      | inl found ↦ rw found.2 (ap (λ u. Some u) (same found.0))
      | inr past ↦ absurd (omega (arith, inside, past.0))
    ]
unit_at f same natives at false e =
    let past : length natives ≤ at = grind (arith, nat_tests, e) in
    rw (slice_get_past natives at past) refl

unit_of : {X : Type 0} (f : Option (Named X) → X) → ((n : Named X) → f (Some n) ≡ n.unit) → (name : List ℕ) (natives : List (Named X))
    → option_map (λ (k : ℕ). f (slice_get natives k)) (native_at name natives) ≡ native_of name natives
unit_of {X} f same name natives =
    let named : Named X → Bool = λ n. bytes_eq n.name name in
    rw (place_of name natives, find_at named natives) (unit_at f same natives (position_or_len named natives) (ltb (position_or_len named natives) (length natives)) refl)

-- ---- a line more

-- a native handler more, if there is one of that name
handler_more : (n : NativeData) (s : ScriptState) (said : List (ℕ × LineMeaning)) (o : Option ℕ)
    → script_from n (with_handler n s o) said ≡ with_handlers (script_from n s said)
    (s.handlers ++ cons_option (option_map (λ native. handler_if (slice_get n.handlers native)) o) (filter_map (handler_said n) (meanings said)))
handler_more n s said None = refl
handler_more n s said (Some native) =
    ap (λ (x : List HandlerUnit). with_handlers (script_from n s said) x) (append_assoc s.handlers (handler_if (slice_get n.handlers native) ∷ []) (filter_map (handler_said n) (meanings said)))

-- a native guard more, if there is one of that name
guard_more : (n : NativeData) (s : ScriptState) (said : List (ℕ × LineMeaning)) (o : Option ℕ)
    → script_from n (with_guard n s o) said ≡ with_guards (script_from n s said)
    (s.guards ++ cons_option (option_map (λ native. guard_if (slice_get n.guards native)) o) (filter_map (guard_said n) (meanings said)))
guard_more n s said None = refl
guard_more n s said (Some native) =
    ap (λ (x : List GuardUnit). with_guards (script_from n s said) x) (append_assoc s.guards (guard_if (slice_get n.guards native) ∷ []) (filter_map (guard_said n) (meanings said)))

-- a native authoriser, if there is one of that name
authority_more : (n : NativeData) (s : ScriptState) (said : List (ℕ × LineMeaning)) (event : ℕ) (o : Option ℕ)
    → script_from n (with_authority s event o) said
    ≡ script_from n (record s { events = option_map_or (λ native. with_event (with_authoriser native) event s.events) o s.events }) said
authority_more n s said event None = refl
authority_more n s said event (Some native) = refl

-- a line more makes what the script so far with it makes
pub one_more : (n : NativeData) (s : ScriptState) (number : ℕ) (l : LineMeaning) (said : List (ℕ × LineMeaning)) → script_from n (after n s number l) said ≡ script_from n s ((number, l) ∷ said)
one_more n s number (line.Modules count) said = refl
one_more n s number (line.Event e owner sig m) said = refl
one_more n s number (line.Endpoint p name) said =
    ap (λ (x : List (List ℕ)). record (script_from n s said) { endpoints = x }) (append_assoc s.endpoints (name ∷ []) (filter_map endpoint_said (meanings said)))
one_more n s number (line.Handler h sig steps) said =
    ap (λ (x : List HandlerUnit). with_handlers (script_from n s said) x)
    (append_assoc s.handlers (record { sig = sig; act = record { steps = steps } } ∷ []) (filter_map (handler_said n) (meanings said)))
one_more n s number (line.NativeHandler h name) said =
    handler_more n s said (native_at name n.handlers)
    ∙ ap (λ (o : Option HandlerUnit). with_handlers (script_from n s said) (s.handlers ++ cons_option o (filter_map (handler_said n) (meanings said))))
    (unit_of handler_if (λ native. refl) name n.handlers)
one_more n s number (line.Guard g sig t) said =
    ap (λ (x : List GuardUnit). with_guards (script_from n s said) x) (append_assoc s.guards (record { sig = sig; test = t } ∷ []) (filter_map (guard_said n) (meanings said)))
one_more n s number (line.NativeGuard g name) said =
    guard_more n s said (native_at name n.guards)
    ∙ ap (λ (o : Option GuardUnit). with_guards (script_from n s said) (s.guards ++ cons_option o (filter_map (guard_said n) (meanings said))))
    (unit_of guard_if (λ native. refl) name n.guards)
one_more n s number (line.Rules e r) said = refl
one_more n s number (line.Authoriser e name) said =
    authority_more n s said e (native_at name n.authorisers)
    ∙ ap (λ (o : Option ℕ). script_from n (record s { events = option_map_or (λ native. with_event (with_authoriser native) e s.events) o s.events }) said)
    (place_of name n.authorisers)
one_more n s number (line.Default e h) said = refl
one_more n s number (line.Lane lane t) said = refl
one_more n s number line.Barrier said =
    ap (λ (x : List Segment). record (script_from n s said) { segments = x }) (append_assoc s.ended (s.segment ∷ []) (segments_with empty_segment said))
one_more n s number (line.Retire p) said = refl

-- a line leaves the version

handler_version : (n : NativeData) (s : ScriptState) (o : Option ℕ) → (with_handler n s o).version ≡ s.version
handler_version n s None = refl
handler_version n s (Some native) = refl

guard_version : (n : NativeData) (s : ScriptState) (o : Option ℕ) → (with_guard n s o).version ≡ s.version
guard_version n s None = refl
guard_version n s (Some native) = refl

authority_version : (s : ScriptState) (event : ℕ) (o : Option ℕ) → (with_authority s event o).version ≡ s.version
authority_version s event None = refl
authority_version s event (Some native) = refl

pub after_version : (n : NativeData) (s : ScriptState) (number : ℕ) (l : LineMeaning) → (after n s number l).version ≡ s.version
after_version n s number (line.Modules count) = refl
after_version n s number (line.Event e owner sig m) = refl
after_version n s number (line.Endpoint p name) = refl
after_version n s number (line.Handler h sig steps) = refl
after_version n s number (line.NativeHandler h name) = handler_version n s (native_at name n.handlers)
after_version n s number (line.Guard g sig t) = refl
after_version n s number (line.NativeGuard g name) = guard_version n s (native_at name n.guards)
after_version n s number (line.Rules e r) = refl
after_version n s number (line.Authoriser e name) = authority_version s e (native_at name n.authorisers)
after_version n s number (line.Default e h) = refl
after_version n s number (line.Lane lane t) = refl
after_version n s number line.Barrier = refl
after_version n s number (line.Retire p) = refl
