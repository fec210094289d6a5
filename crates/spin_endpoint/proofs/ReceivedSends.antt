-- A list of sends, and one more.
use Rattle.std.proofs.Common.{◌≡◌, ◌<◌, ◌≤◌, ◌+◌, ℕ, Bool, true, false, cond, Option, Some, None, List, [], ◌∷◌, ◌++◌, length}
use Rattle.std.proofs.Common.{map, filter, take, get_or, set, replicate, refl, sym, ap, ◌∙◌, arith, append_assoc, ⊎_elim, subst}
use Rattle.std.specs.Prelude.{bytes_eq, ◌&&◌, ◌||◌, ◌==◌, not}
use Rattle.std.specs.Option.{option_map}
use Rattle.std.proofs.lemmas.Bool.Decides.{eqb_tells}
use Rattle.std.proofs.lemmas.List.{get_or_default, append-nil, map-append, get_or-set_other, get_or-replicate, length-take}
use Rattle.std.proofs.lemmas.List.Elements.{filter_more}
use Rattle.std.proofs.lemmas.List.Filters.{length-filter_more, length-filter_both}
use Rattle.std.proofs.lemmas.Grind.{get_or-set_at}
use Rattle.spin_endpoint.specs.Endpoints.{EndpointSeen, gained}
use Rattle.spin_endpoint.specs.Named.{NamedEnd, FailsAt, stands_as, stands, changed_as, with_piece}
use Rattle.spin_endpoint.specs.Sends.{StopsAt, SentSeen, name_of, pieces_for, received, all_received, is_lost, lost_to}

gained_none : (end : EndpointSeen) → gained [] end ≡ end
gained_none end = ap (λ pieces. record end { pieces = pieces }) (none end.pieces) where
  none : (pieces : Option (List (List ℕ))) → option_map (λ told. told ++ []) pieces ≡ pieces
  none None = refl
  none (Some told) = ap Some (append-nil told)

gained_twice : (xs ys : List (List ℕ)) (end : EndpointSeen) → gained ys (gained xs end) ≡ gained (xs ++ ys) end
gained_twice xs ys end = ap (λ pieces. record end { pieces = pieces }) (twice end.pieces) where
  twice : (pieces : Option (List (List ℕ))) → option_map (λ told. told ++ ys) (option_map (λ told. told ++ xs) pieces) ≡ option_map (λ told. told ++ (xs ++ ys)) pieces
  twice None = refl
  twice (Some told) = ap Some (append_assoc told xs ys)

-- nothing was sent
received_none : (names : List (List ℕ)) (name : List ℕ) (b : Bool) (object : EndpointSeen)
    → received names [] (record { name = name; stands = b; object = object }) ≡ record { name = name; stands = b; object = object }
received_none names name true object = ap (λ o. record { name = name; stands = true; object = o }) (gained_none object)
received_none names name false object = refl

pub all_received_none : (names : List (List ℕ)) (ends : List NamedEnd) → all_received names [] ends ≡ ends
all_received_none names [] = refl
all_received_none names (end ∷ ends) = ap (λ e. e ∷ all_received names [] ends) (received_none names end.name end.stands end.object) ∙ ap (λ es. end ∷ es) (all_received_none names ends)

-- the pieces for a name, with one send more
pieces_more : (names : List (List ℕ)) (sends : List SentSeen) (i : ℕ) (d : SentSeen) (name : List ℕ) → i < length sends
    → pieces_for names (take (i + 1) sends) name ≡ pieces_for names (take i sends) name ++ cond (bytes_eq name (name_of names (get_or sends i d).endpoint)) ((get_or sends i d).bytes ∷ []) []
pieces_more names sends i d name lt =
    ap (λ xs. map (λ s. s.bytes) xs) (filter_more (λ s. bytes_eq name (name_of names s.endpoint)) sends i d lt)
    ∙ map-append (λ s. s.bytes) (filter (λ s. bytes_eq name (name_of names s.endpoint)) (take i sends)) (cond (bytes_eq name (name_of names (get_or sends i d).endpoint)) (get_or sends i d ∷ []) [])
    ∙ ap (λ ys. pieces_for names (take i sends) name ++ ys) (one (bytes_eq name (name_of names (get_or sends i d).endpoint))) where
      one : (b : Bool) → map (λ (s : SentSeen). s.bytes) (cond b (get_or sends i d ∷ []) []) ≡ cond b ((get_or sends i d).bytes ∷ []) []
      one true = refl
      one false = refl

-- an endpoint that stands
abbrev standing : List ℕ → EndpointSeen → NamedEnd
standing name object = record { name = name; stands = true; object = object }

-- the endpoint with a piece more or not
gains_or_not : (name : List ℕ) (object : EndpointSeen) (told : List (List ℕ)) (piece : List ℕ) (q : Bool)
    → standing name (gained (told ++ cond q (piece ∷ []) []) object) ≡ cond q (standing name (gained (piece ∷ []) (gained told object))) (standing name (gained told object))
gains_or_not name object told piece true = ap (λ o. standing name o) (sym (gained_twice told (piece ∷ []) object))
gains_or_not name object told piece false = ap (λ ps. standing name (gained ps object)) (append-nil told)

received_more : (names : List (List ℕ)) (sends : List SentSeen) (i : ℕ) (d : SentSeen) (name : List ℕ) (b : Bool) (object : EndpointSeen) → i < length sends
    → received names (take (i + 1) sends) (record { name = name; stands = b; object = object })
    ≡ cond (stands_as (name_of names (get_or sends i d).endpoint) (received names (take i sends) (record { name = name; stands = b; object = object })))
    (with_piece (get_or sends i d).bytes (received names (take i sends) (record { name = name; stands = b; object = object })))
    (received names (take i sends) (record { name = name; stands = b; object = object }))
received_more names sends i d name true object lt =
    ap (λ ps. standing name (gained ps object)) (pieces_more names sends i d name lt)
    ∙ gains_or_not name object (pieces_for names (take i sends) name) (get_or sends i d).bytes (bytes_eq name (name_of names (get_or sends i d).endpoint))
received_more names sends i d name false object lt = refl

-- one more send is one more delivery
pub all_received_more : (names : List (List ℕ)) (sends : List SentSeen) (i : ℕ) (d : SentSeen) (ends : List NamedEnd) → i < length sends
    → all_received names (take (i + 1) sends) ends ≡ changed_as (name_of names (get_or sends i d).endpoint) (with_piece (get_or sends i d).bytes) (all_received names (take i sends) ends)
all_received_more names sends i d [] lt = refl
all_received_more names sends i d (end ∷ ends) lt =
    ap (λ e. e ∷ all_received names (take (i + 1) sends) ends) (received_more names sends i d end.name end.stands end.object lt)
    ∙ ap (λ es. cond (stands_as (name_of names (get_or sends i d).endpoint) (received names (take i sends) end))
    (with_piece (get_or sends i d).bytes (received names (take i sends) end)) (received names (take i sends) end) ∷ es) (all_received_more names sends i d ends lt)

-- sends change nothing of what stands
stands_kept : (names : List (List ℕ)) (sends : List SentSeen) (q name : List ℕ) (b : Bool) (object : EndpointSeen)
    → stands_as q (received names sends (record { name = name; stands = b; object = object })) ≡ stands_as q (record { name = name; stands = b; object = object })
stands_kept names sends q name true object = refl
stands_kept names sends q name false object = refl

pub stands_still : (names : List (List ℕ)) (sends : List SentSeen) (q : List ℕ) (ends : List NamedEnd) → stands q (all_received names sends ends) ≡ stands q ends
stands_still names sends q [] = refl
stands_still names sends q (end ∷ ends) =
    ap (λ b. b || stands q (all_received names sends ends)) (stands_kept names sends q end.name end.stands end.object) ∙ ap (λ b. stands_as q end || b) (stands_still names sends q ends)

neither : (a b : Bool) → (a || b) ≡ false → (a ≡ false) × (b ≡ false)
neither true b e = cc
neither false b e = (refl, e)

-- where none stands under the name, none is changed
pub none_stands : (name : List ℕ) (f : NamedEnd → NamedEnd) (ends : List NamedEnd) → stands name ends ≡ false → changed_as name f ends ≡ ends
none_stands name f [] none = refl
none_stands name f (end ∷ ends) none =
    let parts = neither (stands_as name end) (stands name ends) none in
    ap (λ b. cond b (f end) end ∷ changed_as name f ends) parts.0 ∙ ap (λ es. end ∷ es) (none_stands name f ends parts.1)

and_false : (a : Bool) → (a && false) ≡ false
and_false true = refl
and_false false = refl

and_true : (a : Bool) → (a && true) ≡ a
and_true true = refl
and_true false = refl

lost_more : (names : List (List ℕ)) (ends : List NamedEnd) (sends : List SentSeen) (i : ℕ) (d : SentSeen) (number : ℕ) → i < length sends
    → lost_to names ends (take (i + 1) sends) number ≡ lost_to names ends (take i sends) number + cond (((get_or sends i d).endpoint == number) && is_lost names ends (get_or sends i d)) 1 0
lost_more names ends sends i d number lt = length-filter_more (λ sent. (sent.endpoint == number) && is_lost names ends sent) sends i d lt

-- a send to a name under which one stands isn't lost
pub none_lost_more : (names : List (List ℕ)) (ends : List NamedEnd) (sends : List SentSeen) (i : ℕ) (d : SentSeen) (number : ℕ) → i < length sends
    → stands (name_of names (get_or sends i d).endpoint) ends ≡ true → lost_to names ends (take (i + 1) sends) number ≡ lost_to names ends (take i sends) number
none_lost_more names ends sends i d number lt known =
    let none : (((get_or sends i d).endpoint == number) && is_lost names ends (get_or sends i d)) ≡ false =
    ap (λ b. ((get_or sends i d).endpoint == number) && not b) known ∙ and_false ((get_or sends i d).endpoint == number) in
    lost_more names ends sends i d number lt ∙ ap (λ b. lost_to names ends (take i sends) number + cond b 1 0) none ∙ omega arith

-- one that is lost is counted to its number
pub one_lost_more : (names : List (List ℕ)) (ends : List NamedEnd) (sends : List SentSeen) (i : ℕ) (d : SentSeen) (counts : List ℕ)
    → i < length sends → length counts ≡ 64 → (get_or sends i d).endpoint < 64 → stands (name_of names (get_or sends i d).endpoint) ends ≡ false
    → ((number : ℕ) → number < 64 → get_or counts number 0 ≡ lost_to names ends (take i sends) number)
    → (number : ℕ) → number < 64 → get_or (set counts (get_or sends i d).endpoint (get_or counts (get_or sends i d).endpoint 0 + 1)) number 0 ≡ lost_to names ends (take (i + 1) sends) number
one_lost_more names ends sends i d counts lt len there unknown so_far number below =
    let sent : SentSeen = get_or sends i d in
    let lost : lost_to names ends (take (i + 1) sends) number ≡ lost_to names ends (take i sends) number + cond (sent.endpoint == number) 1 0 =
    lost_more names ends sends i d number lt
    ∙ ap (λ b. lost_to names ends (take i sends) number + cond b 1 0) (ap (λ b. (sent.endpoint == number) && not b) unknown ∙ and_true (sent.endpoint == number)) in
    ⊎_elim
    (λ same. get_or-set_at counts sent.endpoint number (get_or counts sent.endpoint 0 + 1) 0 (sym same.1) (omega (arith, len, there))
    ∙ ap (λ n. get_or counts n 0 + 1) same.1 ∙ ap (λ n. n + 1) (so_far number below) ∙ sym (lost ∙ ap (λ b. lost_to names ends (take i sends) number + cond b 1 0) same.0))
    (λ other. get_or-set_other counts sent.endpoint number (get_or counts sent.endpoint 0 + 1) 0 (λ e. other.1 (sym e))
    ∙ so_far number below ∙ sym (lost ∙ ap (λ b. lost_to names ends (take i sends) number + cond b 1 0) other.0 ∙ omega arith))
    (eqb_tells sent.endpoint number)

filter_le : {X : Type 0} (p : X → Bool) (xs : List X) → length (filter p xs) ≤ length xs
filter_le p xs = omega (arith, length-filter_both p (λ x. not (p x)) (λ x. refl) xs)

-- no more are lost than were sent
lost_bound : (names : List (List ℕ)) (ends : List NamedEnd) (sends : List SentSeen) (i number : ℕ) → lost_to names ends (take i sends) number ≤ i
lost_bound names ends sends i number =
    omega (arith, filter_le (λ sent. (sent.endpoint == number) && is_lost names ends sent) (take i sends), length-take i sends)

pub lost_within : (names : List (List ℕ)) (ends : List NamedEnd) (sends : List SentSeen) (i number count : ℕ) → count ≡ lost_to names ends (take i sends) number → count ≤ i
lost_within names ends sends i number count is = omega (arith, is, lost_bound names ends sends i number)

pub none_lost : (names : List (List ℕ)) (ends : List NamedEnd) (number : ℕ) → number < 64 → get_or (replicate 64 0) number 0 ≡ lost_to names ends [] number
none_lost names ends number below = get_or-replicate 64 number 0 0 below

-- what the sends so far left to each endpoint, after a delivery
pub step_delivered : (names : List (List ℕ)) (sends : List SentSeen) (i : ℕ) (d : SentSeen) (before cur after : List NamedEnd) (name piece : List ℕ)
    → i < length sends → d ≡ get_or sends i d → name ≡ name_of names d.endpoint → piece ≡ d.bytes → cur ≡ all_received names (take i sends) before
    → after ≡ changed_as name (with_piece piece) cur → after ≡ all_received names (take (i + 1) sends) before
step_delivered names sends i d before cur after name piece lt is named holds so_far done =
    done ∙ ap (λ n. changed_as n (with_piece piece) cur) (named ∙ ap (λ s. name_of names s.endpoint) is)
    ∙ ap (λ p. changed_as (name_of names (get_or sends i d).endpoint) (with_piece p) cur) (holds ∙ ap (λ s. s.bytes) is)
    ∙ ap (λ ends. changed_as (name_of names (get_or sends i d).endpoint) (with_piece (get_or sends i d).bytes) ends) so_far ∙ sym (all_received_more names sends i d before lt)

-- after one that is lost
pub step_lost : (names : List (List ℕ)) (sends : List SentSeen) (i : ℕ) (d : SentSeen) (before cur after : List NamedEnd) (name piece : List ℕ)
    → i < length sends → d ≡ get_or sends i d → name ≡ name_of names d.endpoint → piece ≡ d.bytes → cur ≡ all_received names (take i sends) before
    → stands name cur ≡ false → after ≡ cur → after ≡ all_received names (take (i + 1) sends) before
step_lost names sends i d before cur after name piece lt is named holds so_far none same =
    step_delivered names sends i d before cur after name piece lt is named holds so_far (same ∙ sym (none_stands name (with_piece piece) cur none))

-- what stood before the sends
pub stood : (names : List (List ℕ)) (sends : List SentSeen) (i : ℕ) (d : SentSeen) (before cur : List NamedEnd) (name : List ℕ) (b : Bool) → d ≡ get_or sends i d
    → name ≡ name_of names d.endpoint → cur ≡ all_received names (take i sends) before → stands name cur ≡ b → stands (name_of names (get_or sends i d).endpoint) before ≡ b
stood names sends i d before cur name b is named so_far stands_now =
    sym (stands_still names (take i sends) (name_of names (get_or sends i d).endpoint) before) ∙ ap (λ ends. stands (name_of names (get_or sends i d).endpoint) ends) (sym so_far)
    ∙ ap (λ n. stands n cur) (sym (named ∙ ap (λ s. name_of names s.endpoint) is)) ∙ stands_now

-- It stops at a send whose endpoint stands, and failed.
pub stops : (names : List (List ℕ)) (sends : List SentSeen) (i : ℕ) (d : SentSeen) (before cur after : List NamedEnd) (name : List ℕ) (number : ℕ) → i < length sends → d ≡ get_or sends i d
    → number ≡ d.endpoint → name ≡ name_of names d.endpoint → cur ≡ all_received names (take i sends) before → stands name cur ≡ true → FailsAt name cur after → StopsAt names sends number before after
stops names sends i d before cur after name number lt is numbered named so_far stands_now failed = record {
  done = i;
  there = lt;
  number_is = λ e. ap (λ s. s.endpoint) (get_or_default sends i e d lt ∙ sym is) ∙ sym numbered;
  standing = ap (λ n. stands (name_of names n) before) (numbered ∙ ap (λ s. s.endpoint) is) ∙ stood names sends i d before cur name true is named so_far stands_now;
  fails = subst (λ ends. FailsAt (name_of names number) ends after) so_far
      (subst (λ n. FailsAt n cur after) (named ∙ ap (λ n. name_of names n) (sym numbered)) failed);
}
