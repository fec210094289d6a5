use Rattle.std.proofs.Common.{sym}
use Rattle.spin_objects.specs.Units.{handlers_of, guards_of}
use Rattle.spin_script.specs.States.{natives_seen}
use Rattle.spin_script.specs.Inner.Drafts.{so_far}
use Rattle.spin_script.proofs.ReadLineSoundness.{head_in_order}
use Rattle.spin_script.proofs.DeclaredUnits.{begun_declared, says_begun}
use Rattle.spin_script.proofs.TextDeclarations.{skipped_more, begins_more, says_more}
use Rattle.spin_script.proofs.read.take_line.Goals as goal

pub say-requires-clause-order : goal.say-requires-clause-order
say-requires-clause-order g c =
    let seen = c.in_ok-found.ensures.head (handlers_of c.args.catalogue.now) (guards_of c.args.catalogue.now) in
    let says = rw c.in-Says.is at seen in
    head_in_order (so_far c.args.draft.now c.args.catalogue.now) c.args.line.now c.in-Says.kind _ (sym says)

pub say-requires-clause-begun : goal.say-requires-clause-begun
say-requires-clause-begun g c =
    let old = c.args.catalogue.now in
    let seen = c.in_ok-found.ensures.head (handlers_of old) (guards_of old) in
    let says = rw c.in-Says.is at seen in
    says_begun (natives_seen old.natives) (so_far c.args.draft.now old) old.bodies old.checks c.args.line.now c.in-Says.kind _ (sym says) c.requires.declared

pub returns-in-Begins-clause-declared : goal.returns-in-Begins-clause-declared
returns-in-Begins-clause-declared g c =
    let old = c.args.catalogue.now in
    let seen = c.in_ok-found.ensures.head (handlers_of old) (guards_of old) in
    let begins = rw c.in-Begins.is at seen in
    begun_declared (natives_seen old.natives) (so_far c.args.draft.now old) old.bodies old.checks c.args.line.now c.in-Begins.version (sym begins) c.requires.declared

pub returns-in-Skipped-clause-grows : goal.returns-in-Skipped-clause-grows
returns-in-Skipped-clause-grows g c =
    let old = c.args.catalogue.now in
    let seen = c.in_ok-found.ensures.head (handlers_of old) (guards_of old) in
    let skipped = rw c.in-Skipped.is at seen in
    skipped_more (natives_seen old.natives) (so_far c.args.draft.now old) old.bodies old.checks c.args.line.now (sym skipped)

pub returns-in-Begins-clause-grows : goal.returns-in-Begins-clause-grows
returns-in-Begins-clause-grows g c =
    let old = c.args.catalogue.now in
    let seen = c.in_ok-found.ensures.head (handlers_of old) (guards_of old) in
    let begins = rw c.in-Begins.is at seen in
    begins_more (natives_seen old.natives) (so_far c.args.draft.now old) old.bodies old.checks c.args.line.now c.in-Begins.version (sym begins)

pub returns-in-Says-clause-grows : goal.returns-in-Says-clause-grows
returns-in-Says-clause-grows g c =
    let old = c.args.catalogue.now in
    let new = c.say.new.catalogue in
    let seen = c.in_ok-found.ensures.head (handlers_of old) (guards_of old) in
    let says = rw c.in-Says.is at seen in
    says_more (natives_seen old.natives) (so_far c.args.draft.now old) old.bodies new.bodies old.checks new.checks c.args.line.now c.in-Says.kind _ c.say.result (sym says) c.say.ensures.grows
