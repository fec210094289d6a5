use Rattle.std.proofs.Common.{arith, ap, sym, subst, length-append, ◌++◌, ◌∷◌, [], length, ◌+◌, ◌≡◌}
use Rattle.spin_log.specs.Rows.{IsPrefix}
use Rattle.spin_log.proofs.RowLists.{prefix_whole}
use Rattle.spin_log.proofs.PenNotes.{reads_end, name_inside, reads_row}
use Rattle.spin_log.proofs.log.read_rows.Goals as goal

pub loop-at-init : goal.loop-at-init
loop-at-init c = (ap (λ l. length l + 1) c.requires.empty, c.requires.room, λ lanes entries st. (entries, ap (λ l. l ++ entries) (sym c.requires.empty)))

-- the next log word is 0
pub returns-then-name-eq0 : goal.returns-then-name-eq0
returns-then-name-eq0 c = λ lanes entries st. reads_end lanes c.loop-at.rows.items entries _ c.loop-at.at c.word-name.result st
    (c.loop-at.invariant.2 lanes entries st) c.loop-at.invariant.0 c.word-name.ensures c.if-name-eq0.true

pub read_row-requires-clause-name : goal.read_row-requires-clause-name
read_row-requires-clause-name c =
    let s = c.requires.stands in
    let size = s.2 in
    let inside = name_inside s.0 c.loop-at.rows.items s.1 _ c.loop-at.at c.word-name.result s.4 (c.loop-at.invariant.2 s.0 s.1 s.4) c.loop-at.invariant.0 c.word-name.ensures c.if-name-eq0.false s.3 in
    (inside.0, inside.1, omega (arith, inside.2))

pub loop-at-preserved : goal.loop-at-preserved
loop-at-preserved c =
    let items = c.push_reserved.ensures.items in
    let capacity = c.push_reserved.ensures.capacity in
    let more = length-append c.loop-at.rows.items (c.read_row.result ∷ []) in
    let len : length c.push_reserved.new.self.items ≡ length (c.loop-at.rows.items ++ c.read_row.result ∷ []) = ap length items in
    let n = c.loop-at.invariant.0 in
    let room = c.loop-at.invariant.1 in (
      omega arith,
      omega arith,
      λ lanes entries st. subst (λ l. IsPrefix l entries) (sym items)
          (reads_row lanes c.loop-at.rows.items entries _ c.loop-at.at c.word-name.result st
          (c.loop-at.invariant.2 lanes entries st) n c.word-name.ensures c.if-name-eq0.false c.read_row.result c.read_row.ensures),
    )

pub returns : goal.returns
returns c = λ lanes entries st. let room = st.room in let n = c.loop-at.invariant.0 in prefix_whole c.loop-at.rows.items entries (c.loop-at.invariant.2 lanes entries st) (omega arith)
