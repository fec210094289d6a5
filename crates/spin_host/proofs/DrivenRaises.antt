-- A raise that is driven by acts alone.
use Rattle.std.proofs.Common.{◌≡◌, ℕ, ◌<◌, ◌≤◌, ◌+◌, ◌-◌, Bool, true, false, List, [], ◌∷◌, ◌++◌, length, Option, Some, None, refl, sym, ap, ◌∙◌, append_assoc, arith}
use Rattle.std.specs.Prelude.{flat_map, IsSomeAnd}
use Rattle.std.specs.List.{All}
use Rattle.std.proofs.lemmas.Grind.{flat_map-append, fold-append}
use Rattle.std.proofs.lemmas.List.{append-nil}
use Rattle.std.proofs.lemmas.List.Elements.{All-push, All-nil}
use Rattle.std.proofs.lemmas.Option.{slice_get_within}
use Rattle.spin_values.specs.declared.types.EventType.{EventType}
use Rattle.spin_values.specs.declared.values.Value.{Value}
use Rattle.spin_objects.specs.declared.item.Item.{Item}
use Rattle.spin_raise.specs.declared.answer.Answer.{Answer}
use Rattle.spin_raise.specs.declared.bound.Runner.TheVariants as runner
use Rattle.spin_raise.specs.Firing.{Units, Bound, fired, items_by, answer_of}
use Rattle.spin_host.specs.declared.frame.Frame.{Frame}
use Rattle.spin_host.specs.OpenRaises.{Next, Reached, Unreached, Done, Told, Standing, front, IsDue, fires, after, after_all, items_told}
use Rattle.spin_host.specs.Frames.{due_in, Stands, Begins, Stays, Tells, Ends}
use Rattle.spin_host.proofs.FiredAnswers.{not_asked}
use Rattle.spin_host.proofs.PlainRaises.{done_is_plain}
use Rattle.spin_host.proofs.ToldFirings.{due_so}

-- no parameters, and no result: acts don't hang on it
abbrev pub any_type : EventType
any_type = record { params = []; gives = false }

-- only acts were done, and gave what was appended
pub record Driven (u : Units) (e : Bound) (args : List Value) (out_0 : List Item) (f : Frame) (out : List Item) : Type 0 where
  pub told : List Told
  pub stands : Stands u any_type e args told f
  pub done : All (λ (t : Told). t.fate ≡ Done) told
  pub items : out ≡ out_0 ++ items_told u e args told

pub driven_first : (u : Units) (e : Bound) (args : List Value) (f : Frame) (out : List Item) → Begins args f → Driven u e args out f out
driven_first u e args f out h = record {
  told = [];
  stands = h u any_type e;
  done = All-nil (λ (t : Told). t.fate ≡ Done);
  items = sym (append-nil out);
}

some_next : (o : Option Next) (P : Next → Type 0) → IsSomeAnd o P → (n : Next) × (o ≡ Some n) × P n
some_next None P h = absurd h
some_next (Some n) P h = (n, refl, h)

pub driven_on : (u : Units) (e : Bound) (args : List Value) (out_0 : List Item) (f f1 f' : Frame) (out out' : List Item) → Stays u e f f1
    → Tells u any_type e Done f1 f' out out' → Driven u e args out_0 f out → Driven u e args out_0 f' out'
driven_on u e args out_0 f f1 f' out out' stays tells h =
    let s : Standing = after_all u e (front args) h.told in
    let here = stays any_type args h.told h.stands in
    let n = some_next (due_in e f1) _ tells in
    let t : Told = record { next = n.0; saw = f1.progress.args; fate = Done } in
    let gives : flat_map items_by (after_all u e (front args) (h.told ++ t ∷ [])).fired ≡ items_told u e args h.told ++ flat_map items_by (fires u s.args n.0 Done) =
    ap (λ (x : Standing). flat_map items_by x.fired) (fold-append (after u e) (front args) h.told (t ∷ []))
    ∙ flat_map-append items_by s.fired (fires u s.args n.0 Done) in
    record {
      told = h.told ++ t ∷ [];
      stands = n.2.1 args h.told here;
      done = All-push (λ (t : Told). t.fate ≡ Done) h.told t h.done refl;
      items =
          n.2.0 ∙ ap (λ xs. xs ++ flat_map items_by (fires u f1.progress.args n.0 Done)) h.items
          ∙ append_assoc out_0 (items_told u e args h.told) (flat_map items_by (fires u f1.progress.args n.0 Done))
          ∙ ap (λ xs. out_0 ++ (items_told u e args h.told ++ flat_map items_by (fires u xs n.0 Done))) here.1.same
          ∙ ap (λ xs. out_0 ++ xs) (sym gives);
    }

abbrev pub default_left : Bool → ℕ
default_left true = 0
default_left false = 1

-- bindings that are still to be tried, and the default where it wasn't told
abbrev pub still : Bound → Frame → ℕ
still e f = (length e.bindings - f.progress.from) + default_left f.asked

pub falls : (u : Units) (e : Bound) (args : List Value) (out_0 : List Item) (f f1 f' : Frame) (out out' : List Item) → Stays u e f f1 → f1.progress ≡ f.progress → f1.asked ≡ f.asked
    → Tells u any_type e Done f1 f' out out' → Driven u e args out_0 f out → still e f' < still e f
falls u e args out_0 f f1 f' out out' stays progress asked tells h =
    let s : Standing = after_all u e (front args) h.told in
    let here = stays any_type args h.told h.stands in
    let n = some_next (due_in e f1) _ tells in
    let t : Told = record { next = n.0; saw = f1.progress.args; fate = Done } in
    let later = n.2.1 args h.told here in
    let all : after_all u e (front args) (h.told ++ t ∷ []) ≡ after u e s t = fold-append (after u e) (front args) h.told (t ∷ []) in
    let from' : f'.progress.from ≡ (after u e s t).from = later.1.from ∙ ap (λ (x : Standing). x.from) all in
    let asked' : f'.asked ≡ (after u e s t).asked = later.1.asked ∙ ap (λ (x : Standing). x.asked) all in
    smaller n.0 (due_so u e s f1 n.0 here.1 n.1) from' asked' (sym (ap (λ p. p.from) progress) ∙ here.1.from) (sym asked ∙ here.1.asked)
  where
    s : Standing
    s = after_all u e (front args) h.told

    smaller : (n : Next) → IsDue u e s (Some n) → f'.progress.from ≡ (after u e s record { next = n; saw = f1.progress.args; fate = Done }).from
        → f'.asked ≡ (after u e s record { next = n; saw = f1.progress.args; fate = Done }).asked → f.progress.from ≡ s.from → f.asked ≡ s.asked → still e f' < still e f
    smaller (Reached at b) due from' asked' from asked =
        let low : s.from ≤ at = due.0.0 in
        let within : at < length e.bindings = slice_get_within e.bindings at b due.1 in
        let same : default_left f'.asked ≡ default_left f.asked = ap default_left (asked' ∙ sym asked) in
        omega (arith, low, within, from', from, same)
    smaller (Unreached default) due from' asked' from asked =
        let is = not_asked default e.default s.asked s.fired due.1 in
        let now : default_left f'.asked ≡ default_left true = ap default_left asked' in
        let before : default_left f.asked ≡ default_left false = ap default_left (asked ∙ is.0) in
        omega (arith, from', now, before)

pub driven_answer : (u : Units) (e : Bound) (args : List Value) (out_0 : List Item) (f : Frame) (out : List Item) (a : Answer) → Ends u e f a → Driven u e args out_0 f out
    → a ≡ answer_of e.merge (fired runner.Raiser u e args)
driven_answer u e args out_0 f out a ends h = (done_is_plain u any_type e args h.told a (ends any_type args h.told h.stands) h.done).0

pub driven_items : (u : Units) (e : Bound) (args : List Value) (out_0 : List Item) (f : Frame) (out : List Item) (a : Answer) → Ends u e f a → Driven u e args out_0 f out
    → out ≡ out_0 ++ flat_map items_by (fired runner.Raiser u e args)
driven_items u e args out_0 f out a ends h =
    h.items ∙ ap (λ xs. out_0 ++ xs) (done_is_plain u any_type e args h.told a (ends any_type args h.told h.stands) h.done).1
