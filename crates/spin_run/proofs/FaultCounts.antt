-- Counts of faults of endpoints.
use Rattle.std.proofs.Common.{◌≡◌, ℕ, Bool, true, false, suc, List, [], ◌∷◌, length, take, Ok, Err, Result, refl, sym, ap, ap₂, subst, ◌∙◌, arith, if◌then◌else◌, ◌⊎◌, inl, inr}
use Rattle.std.specs.Prelude.{◌||◌, All}
use Rattle.std.specs.List.{slice_index_or}
use Rattle.std.proofs.lemmas.List.{length-map}
use Rattle.spin_outside.specs.Counts.{Rose}
use Rattle.spin_endpoint.specs.Endpoints.{gained}
use Rattle.spin_endpoint.specs.Named.{NamedEnd, changed_as, retired, stands, stands_as, with_faults}
use Rattle.spin_endpoint.specs.Sends.{SentSeen, StopsAt, all_received, all_retired, name_of, pieces_for, received}
use Rattle.spin_run.specs.declared.end.RunEnd.{RunEnd}
use Rattle.spin_run.specs.declared.end.RunEnd.TheVariants as end
use Rattle.spin_run.specs.Ends.{RunSeen, faults_of, faults_at, EndRose, CountsBy}
use Rattle.spin_run.specs.Inner.Reading.{EndByCount}
use Rattle.spin_run.specs.Inner.Sending.{SendsAll, SendsByCount}
use Rattle.spin_run.specs.Inner.Steps.{ResultCounts}
use Rattle.spin_run.specs.Inner.Tallies.{Tells, TellsByCount}

-- ---- what is received, and what is retired, changes no count

received_keeps : (names : List (List ℕ)) (sends : List SentSeen) (e : NamedEnd) → (received names sends e).object.faults ≡ e.object.faults
received_keeps names sends e = go e.stands
  where
    go : (b : Bool) → (if b then record e { object = gained (pieces_for names sends e.name) e.object } else e).object.faults ≡ e.object.faults
    go true = refl
    go false = refl

received_stands : (names : List (List ℕ)) (sends : List SentSeen) (name : List ℕ) (e : NamedEnd) → stands_as name (received names sends e) ≡ stands_as name e
received_stands names sends name e = go e.stands
  where
    go : (b : Bool) → stands_as name (if b then record e { object = gained (pieces_for names sends e.name) e.object } else e) ≡ stands_as name e
    go true = refl
    go false = refl

all_received_keep : (names : List (List ℕ)) (sends : List SentSeen) (ends : List NamedEnd) → faults_of (all_received names sends ends) ≡ faults_of ends
all_received_keep names sends [] = refl
all_received_keep names sends (e ∷ ends) = ap₂ (λ x xs. x ∷ xs) (received_keeps names sends e) (all_received_keep names sends ends)

retired_keep : (name : List ℕ) (ends : List NamedEnd) → faults_of (changed_as name retired ends) ≡ faults_of ends
retired_keep name [] = refl
retired_keep name (e ∷ ends) = ap₂ (λ x xs. x ∷ xs) (go (stands_as name e)) (retired_keep name ends)
  where
    go : (b : Bool) → (if b then retired e else e).object.faults ≡ e.object.faults
    go true = refl
    go false = refl

all_retired_keep : (names : List (List ℕ)) (numbers : List ℕ) (ends : List NamedEnd) → faults_of (all_retired names numbers ends) ≡ faults_of ends
all_retired_keep names [] ends = refl
all_retired_keep names (n ∷ numbers) ends =
    all_retired_keep names numbers (changed_as (name_of names n) retired ends) ∙ retired_keep (name_of names n) ends

all_received_stand : (names : List (List ℕ)) (sends : List SentSeen) (name : List ℕ) (ends : List NamedEnd) → stands name (all_received names sends ends) ≡ stands name ends
all_received_stand names sends name [] = refl
all_received_stand names sends name (e ∷ ends) =
    ap₂ (λ (a b : Bool). a || b) (received_stands names sends name e) (all_received_stand names sends name ends)

pub retired_faults : (names : List (List ℕ)) (numbers : List ℕ) (before after : List NamedEnd) → after ≡ all_retired names numbers before → faults_of after ≡ faults_of before
retired_faults names numbers before after is = ap faults_of is ∙ all_retired_keep names numbers before

pub retired_or_not : (names : List (List ℕ)) (numbers : List ℕ) (before after : List NamedEnd) → (after ≡ before) ⊎ (after ≡ all_retired names numbers before) → faults_of after ≡ faults_of before
retired_or_not names numbers before after (inl is) = ap faults_of is
retired_or_not names numbers before after (inr is) = retired_faults names numbers before after is

-- ---- one failed

still_stands : (name : List ℕ) (faults : ℕ) (e : NamedEnd) (b : Bool) → stands_as name e ≡ true → stands_as name (if b then with_faults faults e else e) ≡ true
still_stands name faults e true here = here
still_stands name faults e false here = here

-- of endpoints one of which stands under the name, one has a count that rose
rose_at : (name : List ℕ) (faults : ℕ) (e : NamedEnd) (ends : List NamedEnd) (b : Bool) → stands_as name e ≡ b
    → (b || stands name ends) ≡ true → All (λ end. stands_as name end ≡ true → Rose end.object.faults faults) (e ∷ ends)
    → (stands name ends ≡ true → EndRose name ends (changed_as name (with_faults faults) ends)) → EndRose name (e ∷ ends) (changed_as name (with_faults faults) (e ∷ ends))
rose_at name faults e ends true here standing rose others = record {
  place = 0;
  there = omega arith;
  stands = λ d. still_stands name faults e (stands_as name e) here;
  rose = rw here (rose 0 e (omega arith) here);
}
rose_at name faults e ends false here standing rose others =
    let later = others standing in record {
      place = suc later.place;
      there = omega (arith, later.there);
      stands = λ d. later.stands d;
      rose = later.rose;
    }

some_rose : (name : List ℕ) (faults : ℕ) (ends : List NamedEnd) → stands name ends ≡ true
    → All (λ end. stands_as name end ≡ true → Rose end.object.faults faults) ends → EndRose name ends (changed_as name (with_faults faults) ends)
some_rose name faults [] standing rose = absurd (let no : false ≡ true = standing in let bad : ⊥ = cc in bad)
some_rose name faults (e ∷ ends) standing rose =
    rose_at name faults e ends (stands_as name e) refl standing rose (λ later. some_rose name faults ends later (λ k d lt. rose (suc k) d (omega (arith, lt))))

-- the same from endpoints with the same counts on
pub rose_from : (name : List ℕ) (a b c : List NamedEnd) → faults_of b ≡ faults_of a → EndRose name b c → EndRose name a c
rose_from name a b c same r =
    let size : length b ≡ length a = sym (length-map b (λ (end : NamedEnd). end.object.faults)) ∙ ap length same ∙ length-map a (λ (end : NamedEnd). end.object.faults) in record {
      place = r.place;
      there = omega (arith, size, r.there);
      stands = r.stands;
      rose = subst (λ (fs : List ℕ). Rose (slice_index_or fs r.place 0) (faults_at c r.place)) same r.rose;
    }

stopped_rose : (names : List (List ℕ)) (sends : List SentSeen) (number : ℕ) (before after : List NamedEnd) → StopsAt names sends number before after → EndRose (name_of names number) before after
stopped_rose names sends number before after stops =
    let name = name_of names number in
    let done = take stops.done sends in
    let standing : stands name (all_received names done before) ≡ true = all_received_stand names done name before ∙ stops.standing in
    let found = some_rose name stops.fails.faults (all_received names done before) standing stops.fails.rose in
    rose_from name before (all_received names done before) after (all_received_keep names done before)
    (subst (λ (ends : List NamedEnd). EndRose name (all_received names done before) ends) (sym stops.fails.others) found)

pub sends_counted : (names : List (List ℕ)) (sends : List SentSeen) (before after : List NamedEnd) (result : Result (List ℕ) RunEnd)
    → SendsAll names sends result before after → SendsByCount names before after result
sends_counted names sends before after (Ok lost) h = ap faults_of h.0 ∙ all_received_keep names sends before
sends_counted names sends before after (Err end.NoMemory) h = ap faults_of h
sends_counted names sends before after (Err (end.Endpoint number)) h = stopped_rose names sends number before after h
sends_counted names sends before after (Err end.Whole) h = absurd h
sends_counted names sends before after (Err end.ReadFault) h = absurd h
sends_counted names sends before after (Err end.WriteFault) h = absurd h
sends_counted names sends before after (Err (end.Capture n reason)) h = absurd h

-- ---- counts of a run

-- reading stopped it
pub counts_reading : (names : List (List ℕ)) (stop : RunEnd) (before after : RunSeen) → EndByCount stop before.source.faults after.source.faults
    → after.sink.faults ≡ before.sink.faults → faults_of after.ends ≡ faults_of before.ends → CountsBy names before after stop
counts_reading names end.Whole before after h same ends = (h, same, ends)
counts_reading names (end.Capture n reason) before after h same ends = (h, same, ends)
counts_reading names end.ReadFault before after h same ends = (h, same, ends)
counts_reading names end.WriteFault before after h same ends = absurd h
counts_reading names end.NoMemory before after h same ends = (h, same, ends)
counts_reading names (end.Endpoint p) before after h same ends = absurd h

-- sending did
pub counts_sending : (names : List (List ℕ)) (sends : List SentSeen) (stop : RunEnd) (before after : RunSeen) (ends : List NamedEnd) → after.source.faults ≡ before.source.faults
    → after.sink.faults ≡ before.sink.faults → faults_of ends ≡ faults_of before.ends → SendsAll names sends (Err stop) ends after.ends → CountsBy names before after stop
counts_sending names sends end.NoMemory before after ends source sink same h = (source, sink, ap faults_of h ∙ same)
counts_sending names sends (end.Endpoint number) before after ends source sink same h =
    (source, sink, rose_from (name_of names number) before.ends ends after.ends same (stopped_rose names sends number ends after.ends h))
counts_sending names sends end.Whole before after ends source sink same h = absurd h
counts_sending names sends end.ReadFault before after ends source sink same h = absurd h
counts_sending names sends end.WriteFault before after ends source sink same h = absurd h
counts_sending names sends (end.Capture n reason) before after ends source sink same h = absurd h

-- telling did
counts_telling : (names : List (List ℕ)) (text : List ℕ) (stop : RunEnd) (before after : RunSeen) → after.source.faults ≡ before.source.faults → faults_of after.ends ≡ faults_of before.ends
    → Tells before.sink after.sink text (Err stop) → TellsByCount before.sink.faults after.sink.faults (Err stop) → CountsBy names before after stop
counts_telling names text end.WriteFault before after source ends t h = (source, h, ends)
counts_telling names text end.NoMemory before after source ends t h = (source, h, ends)
counts_telling names text end.Whole before after source ends t h = absurd t
counts_telling names text end.ReadFault before after source ends t h = absurd t
counts_telling names text (end.Endpoint p) before after source ends t h = absurd t
counts_telling names text (end.Capture n reason) before after source ends t h = absurd t

-- the same of an answer
pub results_telling : (names : List (List ℕ)) (text : List ℕ) (result : Result (Unit {0}) RunEnd) (before after : RunSeen) → after.source.faults ≡ before.source.faults
    → faults_of after.ends ≡ faults_of before.ends → Tells before.sink after.sink text result → TellsByCount before.sink.faults after.sink.faults result → ResultCounts names before after result
results_telling names text (Ok done) before after source ends t h = (source, h, ends)
results_telling names text (Err stop) before after source ends t h = counts_telling names text stop before after source ends t h

-- from a moment on, before which no count rose
pub counts_later : (names : List (List ℕ)) (stop : RunEnd) (a b c : RunSeen) → b.source.faults ≡ a.source.faults
    → b.sink.faults ≡ a.sink.faults → faults_of b.ends ≡ faults_of a.ends → CountsBy names b c stop → CountsBy names a c stop
counts_later names end.ReadFault a b c source sink ends h = (subst (λ (n : ℕ). Rose n c.source.faults) source h.0, h.1 ∙ sink, h.2 ∙ ends)
counts_later names end.WriteFault a b c source sink ends h = (h.0 ∙ source, subst (λ (n : ℕ). Rose n c.sink.faults) sink h.1, h.2 ∙ ends)
counts_later names end.Whole a b c source sink ends h = (h.0 ∙ source, h.1 ∙ sink, h.2 ∙ ends)
counts_later names end.NoMemory a b c source sink ends h = (h.0 ∙ source, h.1 ∙ sink, h.2 ∙ ends)
counts_later names (end.Capture n reason) a b c source sink ends h = (h.0 ∙ source, h.1 ∙ sink, h.2 ∙ ends)
counts_later names (end.Endpoint p) a b c source sink ends h = (h.0 ∙ source, h.1 ∙ sink, rose_from (name_of names p) a.ends b.ends c.ends ends h.2)

-- the same of an answer
pub results_later : {T : Type 0} (names : List (List ℕ)) (result : Result T RunEnd) (a b c : RunSeen) → b.source.faults ≡ a.source.faults
    → b.sink.faults ≡ a.sink.faults → faults_of b.ends ≡ faults_of a.ends → ResultCounts names b c result → ResultCounts names a c result
results_later names (Ok done) a b c source sink ends h = counts_later names end.Whole a b c source sink ends h
results_later names (Err stop) a b c source sink ends h = counts_later names stop a b c source sink ends h

-- by calls that have no endpoints
pub counts_beside : (names : List (List ℕ)) (stop : RunEnd) (a b c : RunSeen) → b.source.faults ≡ a.source.faults → b.sink.faults ≡ a.sink.faults
    → faults_of c.ends ≡ faults_of a.ends → CountsBy [] (record b { ends = [] }) (record c { ends = [] }) stop → CountsBy names a c stop
counts_beside names end.ReadFault a b c source sink ends h = (subst (λ (n : ℕ). Rose n c.source.faults) source h.0, h.1 ∙ sink, ends)
counts_beside names end.WriteFault a b c source sink ends h = (h.0 ∙ source, subst (λ (n : ℕ). Rose n c.sink.faults) sink h.1, ends)
counts_beside names end.Whole a b c source sink ends h = (h.0 ∙ source, h.1 ∙ sink, ends)
counts_beside names end.NoMemory a b c source sink ends h = (h.0 ∙ source, h.1 ∙ sink, ends)
counts_beside names (end.Capture n reason) a b c source sink ends h = (h.0 ∙ source, h.1 ∙ sink, ends)
counts_beside names (end.Endpoint p) a b c source sink ends h = absurd (omega (arith, h.2.there))
