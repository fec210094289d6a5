use Rattle.std.proofs.Common.{zero, suc, [], ◌∷◌, refl, append_assoc, ◌≡◌, ◌≤◌, ◌+◌, ◌-◌, ◌++◌, ℕ, List, length, take, drop, sym, ap, ◌∙◌, arith, rules}
use Rattle.std.proofs.lemmas.List.{length-take, length-drop, take-append-le, take_at}
use Rattle.std.proofs.Math.Seq.{take-append-add}
use Rattle.spin_outside.specs.Sources.{taken_more}
use Rattle.spin_pcap.proofs.SourceBytes.{passes-fill}
use Rattle.spin_pcap.proofs.window.Window.fill.Goals as goal

-- what is held, with a piece behind it
grown : (front held buf more : List ℕ) (len count size : ℕ) → front ≡ held → length held ≡ len → size ≡ len + count → count ≤ length buf → take size (front ++ (buf ++ more)) ≡ held ++ take count buf
grown front held buf more len count size same is all le =
    ap (λ n. take n (front ++ (buf ++ more))) (all ∙ ap (λ n. n + count) (sym is)) ∙ ap (λ ys. take (length held + count) (ys ++ (buf ++ more))) same
    ∙ take-append-add held (buf ++ more) count ∙ ap (λ ys. held ++ ys) (take-append-le count buf more le)

take-take : (n m : ℕ) (xs : List ℕ) → n ≤ m → take n (take m xs) ≡ take n xs
take-take zero m xs le = refl
take-take (suc n) zero xs le = absurd (omega arith)
take-take (suc n) (suc m) [] le = refl
take-take (suc n) (suc m) (x ∷ xs) le = ap (λ ys. x ∷ ys) (take-take n m xs (omega arith))

-- the same, at the front of a buffer of that size
in_buffer : (front held buf more rest : List ℕ) (len count size room : ℕ) → front ≡ held → length held ≡ len → size ≡ len + count
    → count ≤ length buf → len + length buf ≤ room → take size (take room ((front ++ (buf ++ more)) ++ rest)) ≡ held ++ take count buf
in_buffer front held buf more rest len count size room same is all le within =
    take-take size room ((front ++ (buf ++ more)) ++ rest) (omega arith)
    ∙ ap (λ ys. take size ys) (append_assoc front (buf ++ more) rest ∙ ap (λ ys. front ++ ys) (append_assoc buf more rest))
    ∙ grown front held buf (more ++ rest) len count size same is all le

pub returns-clause-grown : goal.returns-clause-grown
returns-clause-grown g c =
    let from : c.deref_mut.result.now ≡ c.self.inside.bytes.items = c.deref_mut.ensures.value in
    let whole : length c.move_to_front-len.new.bytes ≡ c.self.inside.bytes.len = search rules in
    let onto : c.deref_mut-2.result.now ≡ c.move_to_front-len.new.bytes = c.deref_mut-2.ensures.value ∙ take_at c.move_to_front-len.new.bytes _ _ whole in
    let room : c.move_to_front-len.result + length c.read.new.buf ≤ c.self.inside.bytes.len = omega (
      arith,
      whole,
      ap length onto,
      c.read.auto.buf,
      length-take
          (length c.deref_mut-2.result.now - c.move_to_front-len.result) (drop c.move_to_front-len.result c.deref_mut-2.result.now),
      length-drop c.move_to_front-len.result c.deref_mut-2.result.now,
      c.self.invariant.0,
      c.self.invariant.1,
      c.self.invariant.2,
      c.move_to_front-len.ensures.len,
      c.deref_mut.ensures.len,
      c.deref_mut-2.ensures.len,
    ) in
    let front : take c.move_to_front-len.result c.deref_mut-2.result.now ≡ c.args.self.now =
    ap (λ ys. take c.move_to_front-len.result ys) onto ∙ c.move_to_front-len.ensures.moved
    ∙ ap (λ ys. take (c.self.inside.end - c.self.inside.start) (drop c.self.inside.start ys)) from ∙ c.self.view_is in
    let len : length c.args.self.now ≡ c.move_to_front-len.result =
    omega (
      arith,
      ap length c.self.view_is,
      length-take (c.self.inside.end - c.self.inside.start) (drop c.self.inside.start c.self.inside.bytes.items),
      length-drop c.self.inside.start c.self.inside.bytes.items,
      c.self.invariant.0,
      c.self.invariant.1,
      c.self.invariant.2,
      c.move_to_front-len.ensures.len,
    ) in (
      take c.in_ok-count.count c.read.new.buf,
      in_buffer _ c.args.self.now c.read.new.buf _ _ c.move_to_front-len.result c.in_ok-count.count _ _ front len (omega arith) c.in_ok-count.ensures.some.0 room,
    )

pub returns-clause-passed : goal.returns-clause-passed
returns-clause-passed g c =
    let from : c.deref_mut.result.now ≡ c.self.inside.bytes.items = c.deref_mut.ensures.value in
    let whole : length c.move_to_front-len.new.bytes ≡ c.self.inside.bytes.len = search rules in
    let onto : c.deref_mut-2.result.now ≡ c.move_to_front-len.new.bytes = c.deref_mut-2.ensures.value ∙ take_at c.move_to_front-len.new.bytes _ _ whole in
    let room : c.move_to_front-len.result + length c.read.new.buf ≤ c.self.inside.bytes.len = omega (
      arith,
      whole,
      ap length onto,
      c.read.auto.buf,
      length-take
          (length c.deref_mut-2.result.now - c.move_to_front-len.result) (drop c.move_to_front-len.result c.deref_mut-2.result.now),
      length-drop c.move_to_front-len.result c.deref_mut-2.result.now,
      c.self.invariant.0,
      c.self.invariant.1,
      c.self.invariant.2,
      c.move_to_front-len.ensures.len,
      c.deref_mut.ensures.len,
      c.deref_mut-2.ensures.len,
    ) in
    let front : take c.move_to_front-len.result c.deref_mut-2.result.now ≡ c.args.self.now =
    ap (λ ys. take c.move_to_front-len.result ys) onto ∙ c.move_to_front-len.ensures.moved
    ∙ ap (λ ys. take (c.self.inside.end - c.self.inside.start) (drop c.self.inside.start ys)) from ∙ c.self.view_is in
    let len : length c.args.self.now ≡ c.move_to_front-len.result =
    omega (
      arith,
      ap length c.self.view_is,
      length-take (c.self.inside.end - c.self.inside.start) (drop c.self.inside.start c.self.inside.bytes.items),
      length-drop c.self.inside.start c.self.inside.bytes.items,
      c.self.invariant.0,
      c.self.invariant.1,
      c.self.invariant.2,
      c.move_to_front-len.ensures.len,
    ) in
    let taken : (g.S.Source.seen c.read.new.self).taken ≡ taken_more (g.S.Source.seen c.args.source.now).taken (length (take c.in_ok-count.count c.read.new.buf)) =
    c.in_ok-count.ensures.count ∙ ap (λ n. taken_more (g.S.Source.seen c.args.source.now).taken n) c.in_ok-count.ensures.some.1 in
    passes-fill c.args.self.now _ (take c.in_ok-count.count c.read.new.buf) (g.S.Source.seen c.args.source.now) (g.S.Source.seen c.read.new.self)
    (in_buffer _ c.args.self.now c.read.new.buf _ _ c.move_to_front-len.result c.in_ok-count.count _ _ front len (omega arith) c.in_ok-count.ensures.some.0 room)
    c.in_ok-count.ensures.taken.0 taken c.in_ok-count.ensures.keep
