use Rattle.std.proofs.Common.{rules, arith, ap, [], ◌∷◌}
use Rattle.spin_log.specs.declared.view.Hand.{Hand}
use Rattle.spin_log.specs.Pens.{LogValue, only_hand}
use Rattle.spin_log.proofs.DraftedWords.{drafts}
use Rattle.spin_log.proofs.PenSeats.{drafts_on}
use Rattle.spin_log.proofs.log.Log.draft.Goals as goal

pub store-requires : goal.store-requires
store-requires c = let size = ap (λ (l : LogValue). l.id.words) c.self.view_is in (search rules, omega arith, drafts _ _ _ _ _ _ _ c.requires.alone (omega arith) (omega arith) c.requires.room)

pub store-requires-2 : goal.store-requires-2
store-requires-2 c =
    let size = ap (λ (l : LogValue). l.id.words) c.self.view_is in
    let pen : Hand = only_hand c.args.seat.now.me.0.hands in
    let one = drafts_on pen [] c.args.row.a c.args.seat.now.me c.store.new.seat.me c.requires.alone c.store.ensures.2 in
    (search rules, omega arith, drafts _ _ _ _ _ _ _ one (omega arith) (omega arith) c.requires.room)

pub store-requires-3 : goal.store-requires-3
store-requires-3 c =
    let size = ap (λ (l : LogValue). l.id.words) c.self.view_is in
    let pen : Hand = only_hand c.args.seat.now.me.0.hands in
    let one = drafts_on pen [] c.args.row.a c.args.seat.now.me c.store.new.seat.me c.requires.alone c.store.ensures.2 in
    let two = drafts_on pen (c.args.row.a ∷ []) c.args.row.b c.store.new.seat.me c.store-2.new.seat.me one c.store-2.ensures.2 in
    (search rules, omega arith, drafts _ _ _ _ _ _ _ two (omega arith) (omega arith) c.requires.room)

pub store-requires-4 : goal.store-requires-4
store-requires-4 c =
    let size = ap (λ (l : LogValue). l.id.words) c.self.view_is in
    let pen : Hand = only_hand c.args.seat.now.me.0.hands in
    let one = drafts_on pen [] c.args.row.a c.args.seat.now.me c.store.new.seat.me c.requires.alone c.store.ensures.2 in
    let two = drafts_on pen (c.args.row.a ∷ []) c.args.row.b c.store.new.seat.me c.store-2.new.seat.me one c.store-2.ensures.2 in
    let three = drafts_on pen (c.args.row.a ∷ c.args.row.b ∷ []) c.args.row.c c.store-2.new.seat.me c.store-3.new.seat.me two c.store-3.ensures.2 in
    (search rules, omega arith, drafts _ _ _ _ _ _ _ three (omega arith) (omega arith) c.requires.room)
