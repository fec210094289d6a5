use Rattle.std.proofs.Common.{arith, ◌<◌, [], length, ◌∙◌}
use Rattle.std.proofs.lemmas.List.{get_or_read}
use Rattle.std.proofs.lemmas.Result.{err_from_is_err_and}
use Rattle.spin_run.proofs.JoinedTexts.{cut_by}
use Rattle.spin_run.proofs.writing.write_pieces.Goals as goal

pub returns-in_err-write_all-clause-taken : goal.returns-in_err-write_all-clause-taken
returns-in_err-write_all-clause-taken g c =
    let p = err_from_is_err_and c.from_residual.result c.from_residual.ensures.1 in
    let lt : c.loop-piece.piece-index < length c.args.pieces.now = omega arith in
    let cut = c.in_err-write_all.ensures.taken in
    rw p.1
    (cut_by _ _ _ c.args.pieces.now c.loop-piece.piece-index cut.0 c.as_slice.result.now lt (c.as_slice.ensures ∙ get_or_read _ _ _ lt c.piece-item.is []) c.loop-piece.invariant.written cut.1 cut.2)
