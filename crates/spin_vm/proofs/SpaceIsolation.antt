-- What one space's lines come to doesn't depend on the lines of other spaces.
use Rattle.std.proofs.Common.{rules, ◌≡◌, ℕ, zero, suc, true, false, cond, Bool, List, [], ◌∷◌, ◌++◌, length, map, filter, Option, Some, None, refl, sym, ap, ◌∙◌, arith, subst}
use Rattle.std.specs.Prelude.{slice_get, slice_set, ◌==◌}
use Rattle.spin_word.specs.declared.work.Deed.{Deed}
use Rattle.spin_proto.specs.declared.reply.Reply.{Reply}
use Rattle.spin_vm.specs.declared.line.Request.{Request}
use Rattle.spin_vm.specs.declared.line.Statement.{Statement}
use Rattle.spin_vm.specs.declared.line.Statement.TheVariants as said
use Rattle.spin_vm.specs.declared.line.TraceLine.{TraceLine}
use Rattle.spin_vm.specs.declared.came.Came.{Came}
use Rattle.spin_vm.specs.Spaces.{Space, empty_space, space_if, space_at, space_after, came_of, said_came, spaces_after, space_of, Answered, answered_if, answers}
use Rattle.spin_vm.specs.Laws.{is_kept, without_others, came_in, SpacesAreIsolated}

-- two lists of spaces of one length, with the same space of that number
abbrev AreLike : ℕ → List Space → List Space → Type 0
AreLike k ss ts = (length ss ≡ length ts) × (slice_get ss k ≡ slice_get ts k)

length_set : (ss : List Space) (k : ℕ) (s : Space) → length (slice_set ss k s) ≡ length ss
length_set [] k s = refl
length_set (x ∷ ss) zero s = refl
length_set (x ∷ ss) (suc k) s = ap suc (length_set ss k s)

get_other : (ss : List Space) (j k : ℕ) (s : Space) → (j == k) ≡ false → slice_get (slice_set ss j s) k ≡ slice_get ss k
get_other [] j k s apart = refl
get_other (x ∷ ss) zero zero s apart = absurd (search (rules, apart))
get_other (x ∷ ss) zero (suc k) s apart = refl
get_other (x ∷ ss) (suc j) zero s apart = refl
get_other (x ∷ ss) (suc j) (suc k) s apart = get_other ss j k s (grind (arith, apart))

get_same : (ss ts : List Space) (k : ℕ) (s : Space) → length ss ≡ length ts → slice_get (slice_set ss k s) k ≡ slice_get (slice_set ts k s) k
get_same [] [] k s e = refl
get_same [] (y ∷ ts) k s e = absurd (omega (arith, e))
get_same (x ∷ ss) [] k s e = absurd (omega (arith, e))
get_same (x ∷ ss) (y ∷ ts) zero s e = refl
get_same (x ∷ ss) (y ∷ ts) (suc k) s e = get_same ss ts k s (omega (arith, e))

get_push : (ss ts : List Space) (k : ℕ) (s : Space) → length ss ≡ length ts → slice_get ss k ≡ slice_get ts k → slice_get (ss ++ s ∷ []) k ≡ slice_get (ts ++ s ∷ []) k
get_push [] [] k s e g = refl
get_push [] (y ∷ ts) k s e g = absurd (omega (arith, e))
get_push (x ∷ ss) [] k s e g = absurd (omega (arith, e))
get_push (x ∷ ss) (y ∷ ts) zero s e g = g
get_push (x ∷ ss) (y ∷ ts) (suc k) s e g = get_push ss ts k s (omega (arith, e)) g

length_push : (ss : List Space) (s : Space) → length (ss ++ s ∷ []) ≡ suc (length ss)
length_push [] s = refl
length_push (x ∷ ss) s = ap suc (length_push ss s)

came_append : (k : ℕ) (xs ys : List Answered) → came_in k (xs ++ ys) ≡ came_in k xs ++ came_in k ys
came_append k [] ys = refl
came_append k (x ∷ xs) ys = by_space (x.space == k) (came_append k xs ys) where
  by_space : (b : Bool) → came_in k (xs ++ ys) ≡ came_in k xs ++ came_in k ys
      → map (λ (a : Answered). a.came) (cond b (x ∷ filter (λ (a : Answered). a.space == k) (xs ++ ys)) (filter (λ (a : Answered). a.space == k) (xs ++ ys)))
      ≡ map (λ (a : Answered). a.came) (cond b (x ∷ filter (λ (a : Answered). a.space == k) xs) (filter (λ (a : Answered). a.space == k) xs)) ++ came_in k ys
  by_space true rest = ap (λ cs. x.came ∷ cs) rest
  by_space false rest = rest

-- a line of another space comes to nothing in this one
other_came : (k : ℕ) (line : TraceLine) (o : Option Came) → (space_of line.said == k) ≡ false → came_in k (answered_if line o) ≡ []
other_came k line None apart = refl
other_came k line (Some c) apart = rw apart refl

-- what a line comes to doesn't depend on its number
came_alike : (k : ℕ) (a b : TraceLine) (o : Option Came) → a.said ≡ b.said → came_in k (answered_if a o) ≡ came_in k (answered_if b o)
came_alike k a b None e = refl
came_alike k a b (Some c) e = told c (space_of a.said == k) (space_of b.said == k) (ap (λ (w : Statement). space_of w == k) e) where
  told : (c : Came) (p q : Bool) → p ≡ q → map (λ (x : Answered). x.came) (cond p (record { number = a.number; space = space_of a.said; came = c } ∷ []) [])
      ≡ map (λ (x : Answered). x.came) (cond q (record { number = b.number; space = space_of b.said; came = c } ∷ []) [])
  told c true true e = refl
  told c false false e = refl
  told c true false e = absurd (search (rules, e))
  told c false true e = absurd (search (rules, e))

abbrev said_of : List TraceLine → List Statement
said_of lines = map (λ (line : TraceLine). line.said) lines

abbrev head_or : Statement → List Statement → Statement
head_or d [] = d
head_or d (w ∷ ws) = w

abbrev tail_of : List Statement → List Statement
tail_of [] = []
tail_of (w ∷ ws) = ws

same_at : (j k : ℕ) → (j == k) ≡ true → j ≡ k
same_at j k e = grind (arith, e)

module _ (reply : Deed → Reply) (k : ℕ) where
  -- two lists of spaces that are alike are so after one line
  like_push : (n : ℕ) (ss ts : List Space) → AreLike k ss ts → AreLike k (spaces_after reply ss (said.Space n)) (spaces_after reply ts (said.Space n))
  like_push n ss ts like = (length_push ss empty_space ∙ ap suc like.0 ∙ sym (length_push ts empty_space), get_push ss ts k empty_space like.0 like.1)

  same_space : (j : ℕ) (ss ts : List Space) → j ≡ k → AreLike k ss ts → space_at ss j ≡ space_at ts j
  same_space j ss ts p like = ap space_if (subst (λ (i : ℕ). slice_get ss i ≡ slice_get ts i) (sym p) like.1)

  like_set : (j : ℕ) (asked : Request) (ss ts : List Space) → j ≡ k → AreLike k ss ts → AreLike k (spaces_after reply ss (said.At j asked)) (spaces_after reply ts (said.At j asked))
  like_set j asked ss ts p like =
      let s = space_after reply j (space_at ss j) asked in
      let t = space_after reply j (space_at ts j) asked in
      let e : t ≡ s = ap (λ (x : Space). space_after reply j x asked) (sym (same_space j ss ts p like)) in (
        length_set ss j s ∙ like.0 ∙ sym (length_set ts j t),
        subst (λ (i : ℕ). slice_get (slice_set ss j s) i ≡ slice_get (slice_set ts j t) i) p (get_same ss ts j s like.0 ∙ ap (λ (x : Space). slice_get (slice_set ts j x) j) (sym e)),
      )

  like_other : (j : ℕ) (asked : Request) (ss ts : List Space) → (j == k) ≡ false → AreLike k ss ts → AreLike k (spaces_after reply ss (said.At j asked)) ts
  like_other j asked ss ts apart like =
      let s = space_after reply j (space_at ss j) asked in
      (length_set ss j s ∙ like.0, get_other ss j k s apart ∙ like.1)

  -- what the lines of a trace come to, and those of a trace that says the same without other spaces
  abbrev Isolated : List TraceLine → Type 0
  Isolated trace = (alone : List TraceLine) (ss ts : List Space) → AreLike k ss ts → said_of alone ≡ without_others k trace
      → came_in k (answers reply ss trace) ≡ came_in k (answers reply ts alone)

  -- a line that is kept stands first in the other trace
  kept : (line : TraceLine) (w : Statement) (trace alone : List TraceLine) (ss ts : List Space) → Isolated trace → said_of alone ≡ w ∷ without_others k trace
      → ((b : TraceLine) → b.said ≡ w → came_in k (answered_if line (said_came reply ss w)) ≡ came_in k (answered_if b (said_came reply ts w)))
      → AreLike k (spaces_after reply ss w) (spaces_after reply ts w)
      → came_in k (answered_if line (said_came reply ss w) ++ answers reply (spaces_after reply ss w) trace) ≡ came_in k (answers reply ts alone)
  kept line w trace [] ss ts rest e heads like = absurd (search (rules, e))
  kept line w trace (b ∷ alone) ss ts rest e heads like =
      let is : b.said ≡ w = ap (head_or w) e in
      let others : said_of alone ≡ without_others k trace = ap tail_of e in
      let first = answered_if line (said_came reply ss w) in
      let second = answered_if b (said_came reply ts w) in
      let more = answers reply (spaces_after reply ss w) trace in
      let less = answers reply (spaces_after reply ts w) alone in
      came_append k first more
      ∙ ap (λ cs. cs ++ came_in k more) (heads b is)
      ∙ ap (λ cs. came_in k second ++ cs) (rest alone (spaces_after reply ss w) (spaces_after reply ts w) like others)
      ∙ sym (came_append k second less)
      ∙ ap (λ (x : Statement). came_in k (answered_if b (said_came reply ts x) ++ answers reply (spaces_after reply ts x) alone)) (sym is)

  step : (line : TraceLine) (trace alone : List TraceLine) (ss ts : List Space) → Isolated trace → AreLike k ss ts → (w : Statement) → line.said ≡ w
      → said_of alone ≡ filter (is_kept k) (w ∷ said_of trace)
      → came_in k (answered_if line (said_came reply ss w) ++ answers reply (spaces_after reply ss w) trace) ≡ came_in k (answers reply ts alone)
  step line trace alone ss ts rest like (said.Space n) is e = kept line (said.Space n) trace alone ss ts rest e (λ b same. refl) (like_push n ss ts like)
  step line trace alone ss ts rest like (said.At j asked) is e = by_space (j == k) refl e where
    by_space : (b : Bool) → (j == k) ≡ b → said_of alone ≡ cond b (said.At j asked ∷ without_others k trace) (without_others k trace)
        → came_in k (answered_if line (said_came reply ss (said.At j asked)) ++ answers reply (spaces_after reply ss (said.At j asked)) trace) ≡ came_in k (answers reply ts alone)
    by_space true at e =
        let p = same_at j k at in
        kept line (said.At j asked) trace alone ss ts rest e
        (λ b same. ap (λ (x : Space). came_in k (answered_if line (came_of reply j x asked))) (same_space j ss ts p like) ∙ came_alike k line b (came_of reply j (space_at ts j) asked) (is ∙ sym same))
        (like_set j asked ss ts p like)
    by_space false at e =
        let first = answered_if line (said_came reply ss (said.At j asked)) in
        let more = answers reply (spaces_after reply ss (said.At j asked)) trace in
        came_append k first more
        ∙ ap (λ cs. cs ++ came_in k more) (other_came k line (said_came reply ss (said.At j asked)) (ap (λ (x : Statement). space_of x == k) is ∙ at))
        ∙ rest alone (spaces_after reply ss (said.At j asked)) ts (like_other j asked ss ts at like) e

  isolated : (trace : List TraceLine) → Isolated trace
  isolated [] [] ss ts like e = refl
  isolated [] (b ∷ alone) ss ts like e = absurd (search (rules, e))
  isolated (line ∷ trace) alone ss ts like e = step line trace alone ss ts (isolated trace) like line.said refl e

pub spaces_are_isolated : SpacesAreIsolated
spaces_are_isolated reply k trace alone e = isolated reply k trace alone [] [] (refl, refl) e
