use Rattle.std.proofs.Common.{◌≡◌, None, Some, rules, ap, ◌∙◌, ℕ, List}
use Rattle.spin_reass.specs.Fragments.{piece_of}
use Rattle.spin_reass.specs.Joining.{OpenDatagram, joined_by}
use Rattle.spin_reass.proofs.AddedParts.{joins_piece}
use Rattle.spin_reass.proofs.joiner.Joiner.join.Goals as goal

pub returns-in-None-clause-datagrams : goal.returns-in-None-clause-datagrams
returns-in-None-clause-datagrams c =
    let e : None ≡ piece_of c.args.frame.now = search rules in
    ap (λ (x : List OpenDatagram × List ℕ). x.0) (joins_piece None c.args.self.now c.args.frame.now e)

pub returns-in-None-clause-frame : goal.returns-in-None-clause-frame
returns-in-None-clause-frame c =
    let e : None ≡ piece_of c.args.frame.now = search rules in
    ap (λ (x : List OpenDatagram × List ℕ). x.1) (joins_piece None c.args.self.now c.args.frame.now e)

pub returns-in_ok-take-in-Some-clause-datagrams : goal.returns-in_ok-take-in-Some-clause-datagrams
returns-in_ok-take-in-Some-clause-datagrams c =
    let e : Some c.in-Some.piece ≡ piece_of c.args.frame.now = search rules in
    let g : c.take.new.self ≡ (joined_by (Some c.in-Some.piece) c.args.self.now c.args.frame.now).0 = search rules in
    g ∙ ap (λ (x : List OpenDatagram × List ℕ). x.0) (joins_piece (Some c.in-Some.piece) c.args.self.now c.args.frame.now e)

pub returns-in_ok-take-in-Some-clause-frame : goal.returns-in_ok-take-in-Some-clause-frame
returns-in_ok-take-in-Some-clause-frame c =
    let e : Some c.in-Some.piece ≡ piece_of c.args.frame.now = search rules in
    let g : c.take.new.frame ≡ (joined_by (Some c.in-Some.piece) c.args.self.now c.args.frame.now).1 = search rules in
    g ∙ ap (λ (x : List OpenDatagram × List ℕ). x.1) (joins_piece (Some c.in-Some.piece) c.args.self.now c.args.frame.now e)
