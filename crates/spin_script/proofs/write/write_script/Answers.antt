use Rattle.std.proofs.Common.{◌≡◌, ◌++◌, ◌∷◌, [], ℕ, List, map, subst}
use Rattle.std.specs.List.{flat_map, enumerate_from}
use Rattle.spin_objects.specs.declared.unit.Body.{Body}
use Rattle.spin_objects.specs.declared.unit.Check.{Check}
use Rattle.spin_table.specs.declared.event.EventDef.{EventDef}
use Rattle.spin_table.specs.SetupOf.{data_of}
use Rattle.spin_grammar.specs.Lines.{Modules}
use Rattle.spin_script.specs.declared.script.Segment.{Segment}
use Rattle.spin_script.specs.States.{natives_seen}
use Rattle.spin_script.specs.Canonical.{line_text, text_of_lines, version_text, event_line, endpoint_line, handler_line, guard_line, authority_lines, default_lines, segments_lines}
use Rattle.spin_script.proofs.WrittenParts.{first_part, next_part}
use Rattle.spin_script.proofs.write.write_script.Goals as goal

pub returns : goal.returns
returns g c =
    let setup = c.args.script.now.setup in
    let events : List (ℕ × EventDef) = enumerate_from 0 (data_of setup).events in
    let natives = natives_seen setup.catalogue.natives in
    let head =
    subst (λ (m : ℕ). c.put_head.new.out ≡ c.new-out.result ++ version_text c.args.script.now.version ++ line_text (Modules m)) c.modules.ensures c.in_ok-put_head.ensures in
    let endpoints =
    subst (λ (ps : List (List ℕ)). c.put_endpoints.new.out ≡ c.put_events.new.out ++ text_of_lines (map endpoint_line (enumerate_from 0 ps))) c.as_slice.ensures c.in_ok-put_endpoints.ensures in
    let handlers =
    subst (λ cat. c.put_handlers.new.out ≡ c.put_endpoints.new.out ++ text_of_lines (map (λ (p : ℕ × Body). handler_line (natives_seen cat.natives) p.0 p.1) (enumerate_from 1 cat.bodies)))
    c.catalogue-catalogue.ensures c.in_ok-put_handlers.ensures in
    let guards =
    subst (λ cat. c.put_guards.new.out ≡ c.put_handlers.new.out ++ text_of_lines (map (λ (p : ℕ × Check). guard_line (natives_seen cat.natives) p.0 p.1) (enumerate_from 1 cat.checks)))
    c.catalogue-catalogue.ensures c.in_ok-put_guards.ensures in
    let segments =
    subst (λ (ss : List Segment). c.put_segments.new.out ≡ c.put_defaults.new.out ++ text_of_lines (segments_lines c.args.script.now.version ss)) c.as_slice-2.ensures c.in_ok-put_segments.ensures in
    let version = version_text c.args.script.now.version in
    let opening = Modules setup.modules ∷ [] in
    let event_part = map event_line events in
    let endpoint_part = map endpoint_line (enumerate_from 0 c.args.script.now.endpoints) in
    let handler_part = map (λ (p : ℕ × Body). handler_line natives p.0 p.1) (enumerate_from 1 setup.catalogue.bodies) in
    let guard_part = map (λ (p : ℕ × Check). guard_line natives p.0 p.1) (enumerate_from 1 setup.catalogue.checks) in
    let authority_part = flat_map (λ (p : ℕ × EventDef). authority_lines natives p.0 p.1.authority) events in
    let default_part = flat_map (λ (p : ℕ × EventDef). default_lines p.0 p.1.first_default) events in
    let segment_part = segments_lines c.args.script.now.version c.args.script.now.segments in
    let to_events = next_part version opening event_part (first_part version (Modules setup.modules) c.new-out.ensures head) c.in_ok-put_events.ensures in
    let to_endpoints = next_part version (opening ++ event_part) endpoint_part to_events endpoints in
    let to_handlers = next_part version (opening ++ event_part ++ endpoint_part) handler_part to_endpoints handlers in
    let to_guards = next_part version (opening ++ event_part ++ endpoint_part ++ handler_part) guard_part to_handlers guards in
    let to_authorities = next_part version (opening ++ event_part ++ endpoint_part ++ handler_part ++ guard_part) authority_part to_guards c.in_ok-put_authorities.ensures in
    let to_defaults = next_part version (opening ++ event_part ++ endpoint_part ++ handler_part ++ guard_part ++ authority_part) default_part to_authorities c.in_ok-put_defaults.ensures in
    next_part version (opening ++ event_part ++ endpoint_part ++ handler_part ++ guard_part ++ authority_part ++ default_part) segment_part to_defaults segments
