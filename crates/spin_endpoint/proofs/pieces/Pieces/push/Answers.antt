use Rattle.std.proofs.Common.{◌≡◌, ◌≤◌, ◌+◌, ◌-◌, ◌++◌, ◌∷◌, [], true, length, ap, sym, ◌∙◌, rules}
use Rattle.std.specs.Prelude.{if◌then◌else◌, vec_capacity}
use Rattle.std.proofs.lemmas.List.{length-append}
use Rattle.spin_endpoint.specs.Inner.Cutting.{total, cut}
use Rattle.spin_endpoint.specs.Keeping.{PiecesState, fits, with_kept}
use Rattle.spin_endpoint.proofs.PieceCuts.{total_more, cut_more}
use Rattle.spin_endpoint.proofs.pieces.Pieces.push.Goals as goal

pub invariant_of-self-2 : goal.invariant_of-self-2
invariant_of-self-2 c =
    let lens = c.in-Ok.ensures.items in
    let bytes = c.in-Ok-extend_from_slice.ensures.items in
    let whole : total c.push.new.self.items ≡ length c.extend_from_slice.new.self.items =
    ap total lens ∙ total_more c.self.inside.lens.items (length c.args.piece.now) ∙ ap (λ n. n + length c.args.piece.now) c.self.invariant.0
    ∙ sym (length-append c.self.inside.bytes.items c.args.piece.now) ∙ sym (ap length bytes) in
    let pieces : length c.push.new.self.items + (c.self.inside.pieces_left - 1) ≤ vec_capacity c.push.new.self = search rules in
    let room : length c.extend_from_slice.new.self.items + (c.self.inside.bytes_left - length c.args.piece.now) ≤ vec_capacity c.extend_from_slice.new.self = search rules in
    (whole, pieces, room)

pub returns-clause-kept : goal.returns-clause-kept
returns-clause-kept c =
    let lens = c.in-Ok.ensures.items in
    let bytes = c.in-Ok-extend_from_slice.ensures.items in
    let pieces = ap (λ ls. cut ls c.extend_from_slice.new.self.items) lens ∙ ap (λ bs. cut (c.self.inside.lens.items ++ length c.args.piece.now ∷ []) bs) bytes
    ∙ cut_more c.self.inside.lens.items c.self.inside.bytes.items c.args.piece.now c.self.invariant.0 in
    let room : fits (record { pieces = []; pieces_left = c.self.inside.pieces_left; bytes_left = c.self.inside.bytes_left }) c.args.piece.now ≡ true = search rules in
    let yes : fits c.args.self.now c.args.piece.now ≡ true = ap (λ (s : PiecesState). fits s c.args.piece.now) (sym c.self.view_is) ∙ room in
    ap (λ ps. record { pieces = ps; pieces_left = c.self.inside.pieces_left - 1; bytes_left = c.self.inside.bytes_left - length c.args.piece.now }) pieces
    ∙ ap (λ (s : PiecesState). with_kept s c.args.piece.now) c.self.view_is
    ∙ sym (ap (λ b. if b then with_kept c.args.self.now c.args.piece.now else c.args.self.now) yes)
