use Rattle.std.proofs.Common.{◌≡◌, true, false, rules, ap, ◌∙◌, ℕ, List}
use Rattle.spin_reass.specs.Fragments.{is_sound}
use Rattle.spin_reass.specs.Joining.{OpenDatagram, opened, gathered}
use Rattle.spin_reass.proofs.AddedParts.{takes_unsound, takes_sound}
use Rattle.spin_reass.proofs.joiner.Joiner.take.Goals as goal

pub returns-then-not-is_sound-clause-datagrams : goal.returns-then-not-is_sound-clause-datagrams
returns-then-not-is_sound-clause-datagrams c =
    let e : is_sound c.args.piece.part ≡ false = search rules in
    ap (λ (x : List OpenDatagram × List ℕ). x.0) (takes_unsound c.args.piece c.args.self.now c.args.frame.now e)

pub returns-then-not-is_sound-clause-frame : goal.returns-then-not-is_sound-clause-frame
returns-then-not-is_sound-clause-frame c =
    let e : is_sound c.args.piece.part ≡ false = search rules in
    ap (λ (x : List OpenDatagram × List ℕ). x.1) (takes_unsound c.args.piece c.args.self.now c.args.frame.now e)

pub returns-clause-datagrams : goal.returns-clause-datagrams
returns-clause-datagrams c =
    let e : is_sound c.args.piece.part ≡ true = search rules in
    let o : c.find_or_open.new.self ≡ opened c.args.piece.key c.args.self.now = search rules in
    let g : c.gather.new.self ≡ (gathered c.args.piece c.find_or_open.new.self c.args.frame.now).0 = search rules in
    g ∙ ap (λ (x : List OpenDatagram × List ℕ). x.0) (takes_sound c.args.piece c.args.self.now c.find_or_open.new.self c.args.frame.now e o)

pub returns-clause-frame : goal.returns-clause-frame
returns-clause-frame c =
    let e : is_sound c.args.piece.part ≡ true = search rules in
    let o : c.find_or_open.new.self ≡ opened c.args.piece.key c.args.self.now = search rules in
    let g : c.gather.new.frame ≡ (gathered c.args.piece c.find_or_open.new.self c.args.frame.now).1 = search rules in
    g ∙ ap (λ (x : List OpenDatagram × List ℕ). x.1) (takes_sound c.args.piece c.args.self.now c.find_or_open.new.self c.args.frame.now e o)
