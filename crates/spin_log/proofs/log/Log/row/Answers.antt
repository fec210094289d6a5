use Rattle.std.proofs.Common.{rules, arith, ap}
use Rattle.spin_log.specs.Pens.{LogValue}
use Rattle.spin_log.proofs.LogReads.{rereads}
use Rattle.spin_log.proofs.PenSeats.{rereads_on, row_loaded}
use Rattle.spin_log.proofs.log.Log.row.Goals as goal

pub load-a-requires : goal.load-a-requires
load-a-requires c = let size = ap (λ (l : LogValue). l.id.words) c.self.view_is in (search rules, omega arith, rereads _ _ _ _ _)

pub load-b-requires : goal.load-b-requires
load-b-requires c = let size = ap (λ (l : LogValue). l.id.words) c.self.view_is in (search rules, omega arith, rereads _ _ _ _ _)

pub load-c-requires : goal.load-c-requires
load-c-requires c = let size = ap (λ (l : LogValue). l.id.words) c.self.view_is in (search rules, omega arith, rereads _ _ _ _ _)

pub load-d-requires : goal.load-d-requires
load-d-requires c = let size = ap (λ (l : LogValue). l.id.words) c.self.view_is in (search rules, omega arith, rereads _ _ _ _ _)

pub returns-clause-row : goal.returns-clause-row
returns-clause-row c =
    let a = c.load-a.ensures.2 in
    let b = rereads_on _ _ _ _ _ a.0 c.load-b.ensures.2 in
    let c' = rereads_on _ _ _ _ _ b.0 c.load-c.ensures.2 in
    let d = rereads_on _ _ _ _ _ c'.0 c.load-d.ensures.2 in
    row_loaded c.args.seat.now.me.0.hands c.place-first.result c.args.name c.load-a.result c.load-b.result c.load-c.result c.load-d.result c.requires.name.0 c.place-first.ensures a.1 b.1 c'.1 d.1
