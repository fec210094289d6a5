use Rattle.std.proofs.Common.{List, ◌∙◌}
use Rattle.std.specs.Prelude.{bytes_eq}
use Rattle.spin_policy.specs.declared.rule.Rule.{Rule}
use Rattle.spin_objects.specs.Units.{Named, HandlerUnit, GuardUnit, known_handler, known_guard, known_authoriser}
use Rattle.spin_objects.proofs.MappedLists.{found_mapped}
use Rattle.spin_objects.proofs.natives.Natives.find.Goals as goal

pub returns-in-Handler : goal.returns-in-Handler
returns-in-Handler g c =
    rw c.in-Handler.is
    (c.as_index.ensures ∙ c.place_of.ensures.at
    ∙ found_mapped (λ n. bytes_eq n c.args.name.now) known_handler (λ (n : Named HandlerUnit). n.name) c.args.self.now.handlers c.as_slice.result.now c.as_slice.ensures)

pub returns-in-Guard : goal.returns-in-Guard
returns-in-Guard g c =
    rw c.in-Guard.is
    (c.as_index-in-Guard.ensures ∙ c.place_of-in-Guard.ensures.at
    ∙ found_mapped (λ n. bytes_eq n c.args.name.now) known_guard (λ (n : Named GuardUnit). n.name) c.args.self.now.guards c.as_slice-in-Guard.result.now c.as_slice-in-Guard.ensures)

pub returns-in-Authoriser : goal.returns-in-Authoriser
returns-in-Authoriser g c =
    rw c.in-Authoriser.is
    (c.as_index-in-Authoriser.ensures ∙ c.place_of-in-Authoriser.ensures.at
    ∙ found_mapped (λ n. bytes_eq n c.args.name.now) known_authoriser
    (λ (n : Named (List Rule)). n.name) c.args.self.now.authorisers c.as_slice-in-Authoriser.result.now c.as_slice-in-Authoriser.ensures)
