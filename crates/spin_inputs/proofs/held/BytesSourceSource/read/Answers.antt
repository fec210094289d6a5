use Rattle.std.proofs.Common.{◌≡◌, ◌<◌, ◌+◌, ◌-◌, ◌++◌, ℕ, min, List, [], arith, length, take, drop, sym, ap, ◌∙◌}
use Rattle.std.proofs.lemmas.List.{length-take, length-drop, take-append-drop, drop-drop, drop_all, take_at, take_rest}
use Rattle.spin_inputs.proofs.held.BytesSourceSource.read.Goals as goal

-- what is left, with a piece moved
moved : (bytes piece buf : List ℕ) (from count : ℕ) → length piece ≡ count → piece ≡ take count (take (length bytes - from) (drop from bytes))
    → drop from bytes ≡ take count (piece ++ drop count buf) ++ drop (from + count) bytes
moved bytes piece buf from count len is =
    let front : take count (piece ++ drop count buf) ≡ take count (drop from bytes) = take_at piece (drop count buf) count len ∙ is ∙ ap (λ ys. take count ys) (take_rest bytes from) in
    sym (take-append-drop count (drop from bytes)) ∙ ap (λ ys. take count (drop from bytes) ++ ys) (drop-drop count from bytes) ∙ ap (λ ys. ys ++ drop (from + count) bytes) (sym front)

-- nothing is moved at the end alone
ended : (bytes : List ℕ) (from count room : ℕ) → 0 < room → count ≡ min (length (take (length bytes - from) (drop from bytes))) room → count ≡ 0 → drop (from + count) bytes ≡ []
ended bytes from count room some is none =
    drop_all (from + count) bytes (omega (arith, length-take (length bytes - from) (drop from bytes), length-drop from bytes))

pub returns-clause-taken : goal.returns-clause-taken
returns-clause-taken c =
    let len : length c.copy_from_slice.new.self ≡ c.min-count.result = omega (arith, c.copy_from_slice.ensures.len, length-take c.min-count.result c.args.buf.now, c.min-count.ensures) in
    let left : c.args.self.now ≡ drop c.self.inside.position c.self.inside.bytes = sym c.self.view_is in
    let same : c.as_slice.result.now ≡ c.self.inside.bytes = c.as_slice.ensures in (
      left
          ∙ ap (λ ys. drop c.self.inside.position ys) (sym same)
          ∙ moved c.as_slice.result.now c.copy_from_slice.new.self c.args.buf.now c.self.inside.position c.min-count.result len c.copy_from_slice.ensures.after
          ∙ ap (λ ys. take c.min-count.result (c.copy_from_slice.new.self ++ drop c.min-count.result c.args.buf.now) ++ drop (c.self.inside.position + c.min-count.result) ys) same,
      λ none _. ap (λ ys. drop (c.self.inside.position + c.min-count.result) ys) (sym same)
          ∙ ended c.as_slice.result.now c.self.inside.position c.min-count.result (length c.args.buf.now) c.requires c.min-count.ensures none,
    )
