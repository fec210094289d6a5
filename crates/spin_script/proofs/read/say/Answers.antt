use Rattle.spin_script.specs.States.{natives_seen}
use Rattle.spin_script.specs.Inner.Drafts.{so_far}
use Rattle.spin_script.proofs.LineSections.{section_set}
use Rattle.spin_script.proofs.ReadLineSoundness.{said_sound}
use Rattle.spin_script.proofs.DeclaredUnits.{said_declared}
use Rattle.spin_script.proofs.ScriptReading.{said_gives}
use Rattle.spin_script.proofs.TextDeclarations.{said_more}
use Rattle.spin_script.proofs.read.say.Goals as goal

pub returns-clause-sound : goal.returns-clause-sound
returns-clause-sound g c =
    let n = natives_seen c.args.catalogue.now.natives in
    let s = so_far c.args.draft.now c.args.catalogue.now in
    let t = so_far c.add.new.draft c.add.new.catalogue in
    let takes = section_set n s c.section-draft.result c.args.number c.args.kind c.args.words.now c.in_ok-said.said c.add.result t c.in_ok-said.ensures.gives c.section-draft.ensures c.add.ensures.adds in
    said_sound n s c.args.number c.args.kind c.args.words.now c.in_ok-said.said c.add.result t
    c.in_ok-said.ensures.gives c.in_ok-said.ensures.ranges takes c.requires.order c.requires.sound

pub returns-clause-declared : goal.returns-clause-declared
returns-clause-declared g c =
    let old = c.args.catalogue.now in
    let new = c.add.new.catalogue in
    let n = natives_seen old.natives in
    let s = so_far c.args.draft.now old in
    let t = so_far c.add.new.draft new in
    let takes = section_set n s c.section-draft.result c.args.number c.args.kind c.args.words.now c.in_ok-said.said c.add.result t c.in_ok-said.ensures.gives c.section-draft.ensures c.add.ensures.adds in
    said_declared n s t old.bodies new.bodies old.checks new.checks c.args.number c.args.kind c.args.words.now c.in_ok-said.said
    c.add.result c.in_ok-said.ensures.gives takes c.add.ensures.grows c.requires.order c.requires.begun c.requires.declared

pub returns-clause-grows : goal.returns-clause-grows
returns-clause-grows g c =
    let old = c.args.catalogue.now in
    let new = c.add.new.catalogue in
    said_more (natives_seen old.natives) (so_far c.args.draft.now old) old.bodies new.bodies old.checks new.checks c.args.kind c.args.words.now
    c.in_ok-said.said c.add.result c.in_ok-said.ensures.gives c.add.ensures.grows

pub returns-clause-gives : goal.returns-clause-gives
returns-clause-gives g c =
    let n = natives_seen c.args.catalogue.now.natives in
    let s = so_far c.args.draft.now c.args.catalogue.now in
    let t = so_far c.add.new.draft c.add.new.catalogue in
    said_gives n s c.args.number c.args.kind c.args.words.now c.in_ok-said.said c.add.result t c.in_ok-said.ensures.gives
    (section_set n s c.section-draft.result c.args.number c.args.kind c.args.words.now c.in_ok-said.said c.add.result t c.in_ok-said.ensures.gives c.section-draft.ensures c.add.ensures.adds)
