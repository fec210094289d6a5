-- Hits that tell nothing yet, one more listed.
use Rattle.std.proofs.Common.{◌≡◌, ◌<◌, ◌+◌, ◌==◌, ℕ, zero, suc, Bool, false, cond, List, [], ◌∷◌, ◌++◌, length, take, map, get_or, Option, Some, None, refl, sym, ap, subst, ◌∙◌, arith, append_assoc}
use Rattle.std.proofs.lemmas.List.{append-nil, map-append}
use Rattle.std.proofs.lemmas.List.Elements.{All-append}
use Rattle.std.proofs.lemmas.Grind.{take_at_read}
use Rattle.std.proofs.lemmas.Option.{get_or_from_slice_get}
use Rattle.std.specs.Prelude.{IsSomeAnd, slice_get}
use Rattle.spin_place.specs.declared.binding.Binding.{Binding}
use Rattle.spin_table.specs.States.{EventState}
use Rattle.spin_filter.specs.declared.hits.Hit.{Hit}
use Rattle.spin_filter.specs.Counting.{BindingAt, IsHit, binding_of}
use Rattle.spin_filter.specs.Inner.Fresh.{AreFresh}
use Rattle.spin_filter.specs.Listing.{binding_at, default_of, bindings_of, bindings_from}
use Rattle.spin_filter.proofs.Doings.{one-all}

pub fresh-none : AreFresh [] []
fresh-none = record { listed_are = refl; none = λ k d lt. absurd (omega (arith, lt)) }

-- one more
pub fresh-more : (listed : List BindingAt) (hits hits' : List Hit) (hit : Hit) (event number : ℕ) → AreFresh listed hits → IsHit [] hit → hit.event ≡ event → hit.number ≡ number
    → hits' ≡ hits ++ hit ∷ [] → AreFresh (listed ++ binding_at event number ∷ []) hits'
fresh-more listed hits hits' hit event number are fresh is-event is-number added =
    subst (AreFresh (listed ++ binding_at event number ∷ [])) (sym added) (record {
      listed_are = map-append binding_of hits (hit ∷ []) ∙ ap (λ xs. xs ++ binding_of hit ∷ []) are.listed_are
          ∙ ap (λ e. listed ++ binding_at e hit.number ∷ []) is-event ∙ ap (λ n. listed ++ binding_at event n ∷ []) is-number;
      none = All-append (IsHit []) hits (hit ∷ []) are.none (one-all (IsHit []) hit fresh);
    })

abbrev pub of_bindings : ℕ → List Binding → List BindingAt
of_bindings event bindings = map (λ b. binding_at event b.number) bindings

-- the bindings of an event, one more
pub bindings-more : (event : ℕ) (listed : List BindingAt) (bindings : List Binding) (i : ℕ) (binding : Binding) → i < length bindings → binding ≡ get_or bindings i binding
    → (listed ++ of_bindings event (take i bindings)) ++ binding_at event binding.number ∷ [] ≡ listed ++ of_bindings event (take (i + 1) bindings)
bindings-more event listed bindings i binding lt is =
    append_assoc listed (of_bindings event (take i bindings)) (binding_at event binding.number ∷ [])
    ∙ ap (λ xs. listed ++ xs) (sym (map-append (λ (b : Binding). binding_at event b.number) (take i bindings) (binding ∷ [])))
    ∙ ap (λ bs. listed ++ of_bindings event bs) (ap (λ b. take i bindings ++ b ∷ []) is ∙ sym ((take_at_read bindings i binding lt).1))

-- no default, or one
pub default-none : (event number : ℕ) (listed : List BindingAt) (hits : List Hit) → number ≡ 0 → AreFresh listed hits → AreFresh (listed ++ default_of event number) hits
default-none event number listed hits none are =
    subst (λ (ls : List BindingAt). AreFresh ls hits) (sym (ap (λ n. listed ++ default_of event n) none ∙ append-nil listed)) are

pub default-some : (event number : ℕ) (b : Bool) → (number == 0) ≡ false → default_of event number ≡ binding_at event 0 ∷ []
default-some event number b some = ap (λ c. cond c [] (binding_at event 0 ∷ [])) some

-- the events, one more
pub events-more : (first : ℕ) (events : List EventState) (i : ℕ) (e : EventState) → i < length events → e ≡ get_or events i e
    → bindings_from first (take i events) ++ bindings_of (first + i) e ≡ bindings_from first (take (i + 1) events)
events-more first [] i e lt is = absurd (omega (arith, lt))
events-more first (x ∷ events) zero e lt is =
    let same : bindings_of (first + 0) e ≡ bindings_of first x = ap (λ n. bindings_of n e) (omega arith) ∙ ap (λ y. bindings_of first y) is in
    same ∙ sym (append-nil (bindings_of first x))
events-more first (x ∷ events) (suc i) e lt is =
    append_assoc (bindings_of first x) (bindings_from (suc first) (take i events)) (bindings_of (first + suc i) e)
    ∙ ap (λ n. bindings_of first x ++ (bindings_from (suc first) (take i events) ++ bindings_of n e)) next
    ∙ ap (λ xs. bindings_of first x ++ xs) (events-more (suc first) events i e (omega (arith, lt)) is)
    ∙ ap (λ n. bindings_from first (take n (x ∷ events))) later where
      next : first + suc i ≡ suc first + i
      next = omega arith

      later : suc (i + 1) ≡ suc i + 1
      later = omega arith

-- the default and the bindings of an event that is there
pub event-fresh : (o : Option EventState) (event default : ℕ) (bindings : List Binding) (listed : List BindingAt) (hits : List Hit) → IsSomeAnd o (λ e. default ≡ e.default) → IsSomeAnd o (λ e. bindings ≡ e.bindings)
    → AreFresh ((listed ++ default_of event default) ++ of_bindings event bindings) hits → IsSomeAnd o (λ e. AreFresh (listed ++ bindings_of event e) hits)
event-fresh None event default bindings listed hits d b are = absurd d
event-fresh (Some e) event default bindings listed hits d b are =
    subst (λ (ls : List BindingAt). AreFresh ls hits)
    (append_assoc listed (default_of event default) (of_bindings event bindings)
    ∙ ap (λ n. listed ++ (default_of event n ++ of_bindings event bindings)) d
    ∙ ap (λ bs. listed ++ (default_of event e.default ++ of_bindings event bs)) b) are

-- one event more
pub events-fresh : (events : List EventState) (i : ℕ) (hits : List Hit) → i < length events
    → IsSomeAnd (slice_get events i) (λ e. AreFresh (bindings_from 0 (take i events) ++ bindings_of i e) hits) → AreFresh (bindings_from 0 (take (i + 1) events)) hits
events-fresh events i hits lt are = by (slice_get events i) refl are where
  by : (o : Option EventState) → slice_get events i ≡ o → IsSomeAnd o (λ e. AreFresh (bindings_from 0 (take i events) ++ bindings_of i e) hits) → AreFresh (bindings_from 0 (take (i + 1) events)) hits
  by None is are = absurd are
  by (Some e) is are =
      let first : 0 + i ≡ i = omega arith in
      subst (λ (ls : List BindingAt). AreFresh ls hits)
      (ap (λ n. bindings_from 0 (take i events) ++ bindings_of n e) (sym first) ∙ events-more 0 events i e lt (sym (get_or_from_slice_get events i e e is))) are
