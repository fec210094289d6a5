use Rattle.std.proofs.Common.{◌≡◌, ℕ, Option, Some, refl, sym, ap, subst, ◌∙◌}
use Rattle.spin_objects.specs.Units.{native_authorisers}
use Rattle.spin_grammar.specs.Lines as said
use Rattle.spin_script.specs.States.{native_at, natives_seen}
use Rattle.spin_values.specs.First.{first_of}
use Rattle.spin_script.specs.Checks.{authoriser_checks, policy_at}
use Rattle.spin_script.specs.Inner.Drafts.{so_far}
use Rattle.spin_script.proofs.LineCauses.{refused}
use Rattle.spin_script.proofs.rules.add_authoriser.Goals as goal

pub returns-in_err-native : goal.returns-in_err-native
returns-in_err-native g c = λ number.
    let n = natives_seen c.args.catalogue.now.natives in
    let s = so_far c.args.draft.now c.args.catalogue.now in
    let found : c.find-native.result ≡ native_at c.args.name n.authorisers =
    subst (λ ns. c.find-native.result ≡ native_at c.args.name (native_authorisers ns)) c.natives.ensures c.find-native.ensures in
    let first = sym (ap (λ (o : Option ℕ). first_of (authoriser_checks s (policy_at n o) (Some c.in-Some.def.now))) found) ∙ c.in_err-native.ensures c.args.draft.now in
    refused n s number (said.Authoriser c.args.event c.args.name) c.from_residual.result _ c.in_err-native.field-0.0 (rw c.in-Some.ensures first) c.from_residual.ensures.1

pub returns : goal.returns
returns g c = λ number.
    let n = natives_seen c.args.catalogue.now.natives in
    let s = so_far c.args.draft.now c.args.catalogue.now in
    let found : c.find-native.result ≡ native_at c.args.name n.authorisers =
    subst (λ ns. c.find-native.result ≡ native_at c.args.name (native_authorisers ns)) c.natives.ensures c.find-native.ensures in
    let first = sym (ap (λ (o : Option ℕ). first_of (authoriser_checks s (policy_at n o) (Some c.in-Some.def.now))) found) ∙ (c.in_ok-native.ensures c.args.draft.now).0 in
    let named : native_at c.args.name n.authorisers ≡ Some c.in_ok-native.native = sym found ∙ (c.in_ok-native.ensures c.args.draft.now).1 in
    (rw c.in-Some.ensures first, rw (named, c.set_authoriser.ensures) refl)
