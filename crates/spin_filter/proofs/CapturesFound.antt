-- Captures that are passed one after another.
use Rattle.std.proofs.Common.{◌≡◌, ◌<◌, ◌≤◌, ◌+◌, ℕ, List, [], ◌∷◌, ◌++◌, length, take, drop, get_or, Option, Some, None, IfSome, refl, sym, ap, subst, ◌∙◌, arith}
use Rattle.std.specs.List.{sum_by}
use Rattle.std.proofs.lemmas.List.{append-nil, take_all}
use Rattle.std.proofs.lemmas.List.Elements.{All-append}
use Rattle.std.proofs.lemmas.List.Sums.{sum_by-append}
use Rattle.std.proofs.lemmas.Grind.{flat_map-append, take_at_read}
use Rattle.spin_outside.specs.Files.{File, IsWholeFile}
use Rattle.spin_pcap.proofs.CaptureRecords.{at_told, told_more}
use Rattle.spin_frames.specs.declared.head.Head.{Head}
use Rattle.spin_frames.specs.Heads.{IsHead}
use Rattle.spin_filter.specs.Counting.{capped}
use Rattle.spin_filter.specs.Histories.{PassedCapture, IsCaptureOf, IsFound, AreFound, AreRecords, AllPassed, ArePassed, records_of, happened_in}
use Rattle.spin_filter.specs.Passing.{Passed}
use Rattle.spin_filter.specs.Sending.{OutletsAt, IsDone}
use Rattle.spin_filter.proofs.Doings.{PassedBy, done-nothing, done-then, one-all}
use Rattle.spin_filter.proofs.Passings.{happened-then, PassesAll}

pub both_told : {X : Type 0} (P Q R : X → Type 0) (o : Option X) → IfSome o P → IfSome o Q → ((x : X) → P x → Q x → R x) → IfSome o R
both_told P Q R None p q f = tt
both_told P Q R (Some x) p q f = f x p q

found-more : (files : List File) (names : List (List ℕ)) (seen : List PassedCapture) (name : List ℕ) (c : PassedCapture) → AreFound files names seen → IsFound files name c
    → AreFound files (names ++ name ∷ []) (seen ++ c ∷ [])
found-more files [] seen name c none own = (c, [], own, ap (λ cs. cs ++ c ∷ []) none, refl)
found-more files (n ∷ names) seen name c (first, others, is, are, rest) own = (first, others ++ c ∷ [], is, ap (λ cs. cs ++ c ∷ []) are, found-more files names others name c rest own)

-- The capture of that name is passed, behind whose records so many bytes are left.
abbrev pub FindsCapture : PassedBy → Option (List File) → List ℕ → ℕ → OutletsAt → OutletsAt → Type 0
FindsCapture by files name cut x y =
    (seen : PassedCapture) × (seen.cut ≡ cut) × ArePassed by.setup by.state by.round seen.head seen.passed × IfSome files (λ fs. IsFound fs name seen)
    × IsDone by.names by.capture (happened_in seen.passed) x y

-- The captures of these names are passed, behind whose records so many bytes are left in all.
abbrev pub FindsCaptures : PassedBy → Option (List File) → List (List ℕ) → ℕ → OutletsAt → OutletsAt → Type 0
FindsCaptures by files captures cut x y =
    (seen : List PassedCapture) × AllPassed by.setup by.state by.round seen × IfSome files (λ fs. AreFound fs captures seen) × (cut ≡ capped (sum_by (λ c. c.cut) seen))
    × IsDone by.names by.capture (happened_in (records_of seen)) x y

whatever : {X : Type 0} {P : X → Type 0} (o : Option X) → ((x : X) → P x) → IfSome o P
whatever None h = tt
whatever (Some x) h = h x

pub captures-none : (by : PassedBy) (files : Option (List File)) (x : OutletsAt) → FindsCaptures by files [] 0 x x
captures-none by files x = ([], λ k c lt. absurd (omega (arith, lt)), whatever files (λ fs. refl), refl, done-nothing by.names by.capture x)

-- one capture more
pub captures-more : (by : PassedBy) (files : Option (List File)) (captures : List (List ℕ)) (name : List ℕ) (cut more cut' : ℕ) (x y z : OutletsAt) → FindsCaptures by files captures cut x y
    → ((n : ℕ) → cut ≡ capped n → cut' ≡ capped (n + more)) → FindsCapture by files name more y z → FindsCaptures by files (captures ++ name ∷ []) cut' x z
captures-more by files captures name cut more cut' x y z (old, are, named, cut_is, did) next (c, own, passed, found, done) =
    let seen : List PassedCapture = old ++ c ∷ [] in
    let Passes = λ (k : PassedCapture). ArePassed by.setup by.state by.round k.head k.passed in
    let sums : sum_by (λ (k : PassedCapture). k.cut) seen ≡ sum_by (λ (k : PassedCapture). k.cut) old + more = sum_by-append (λ (k : PassedCapture). k.cut) old (c ∷ []) ∙ omega (arith, own) in
    let records : records_of old ++ c.passed ≡ records_of seen =
    sym (flat_map-append (λ (k : PassedCapture). k.passed) old (c ∷ []) ∙ ap (λ ps. records_of old ++ ps) (append-nil c.passed)) in (
      seen,
      All-append Passes old (c ∷ []) are (one-all Passes c passed),
      both_told (λ fs. AreFound fs captures old) (λ fs. IsFound fs name c) (λ fs. AreFound fs (captures ++ name ∷ []) seen) files named found
          (λ fs these this. found-more fs captures old name c these this),
      next (sum_by (λ (k : PassedCapture). k.cut) old) cut_is ∙ ap (λ n. capped n) (sym sums),
      subst (λ (ps : List Passed). IsDone by.names by.capture (happened_in ps) x z) records
          (subst (λ h. IsDone by.names by.capture h x z) (happened-then (records_of old) c.passed)
          (done-then by.names by.capture (happened_in (records_of old)) (happened_in c.passed) x y z did done)),
    )

-- the names so far, with one more
pub names-more : (names : List (List ℕ)) (i : ℕ) (name : List ℕ) → i < length names → name ≡ get_or names i name → take i names ++ name ∷ [] ≡ take (i + 1) names
names-more names i name lt is = ap (λ n. take i names ++ n ∷ []) is ∙ sym ((take_at_read names i name lt).1)

-- ---- one capture

-- What passing a capture gives, behind whose records so many bytes are left.
abbrev pub PassesCapture : PassedBy → Option (List ℕ) → ℕ → OutletsAt → OutletsAt → Type 0
PassesCapture by whole cut x y =
    (seen : PassedCapture) × (seen.cut ≡ cut) × ArePassed by.setup by.state by.round seen.head seen.passed × IfSome whole (λ file. IsCaptureOf file seen)
    × IsDone by.names by.capture (happened_in seen.passed) x y

pub capture-whole : (by : PassedBy) (whole left : Option (List ℕ)) (head : Head) (cut : ℕ) (x y : OutletsAt) → IfSome whole (λ file. IsHead file head × (left ≡ Some (drop 24 file)))
    → PassesAll by head left cut x y → PassesCapture by whole cut x y
capture-whole by whole left head cut x y header (passed, are, records, done) = (
  record { head = head; passed = passed; cut = cut },
  refl,
  are,
  told_more (λ file. IsHead file head × (left ≡ Some (drop 24 file))) (λ file. IsCaptureOf file (record { head = head; passed = passed; cut = cut })) whole header
      (λ file h.
      let r = at_told (λ bytes. AreRecords head.order bytes passed cut) left (drop 24 file) h.1 records in
      (r.0, record { header = h.0; body = r.1 }, r.2)),
  done,
)

-- a capture by its name
named : (files : Option (List File)) (name : List ℕ) (left : Option (List ℕ)) (c : PassedCapture) → IsWholeFile files name left → IfSome left (λ file. IsCaptureOf file c) → IfSome files (λ fs. IsFound fs name c)
named None name left c whole is = tt
named (Some files) name left c (bytes, found, told) is = (bytes, found, at_told (λ file. IsCaptureOf file c) left bytes told is)

pub named-whole : (by : PassedBy) (files : Option (List File)) (name : List ℕ) (left : Option (List ℕ)) (cut : ℕ) (x y : OutletsAt) → IsWholeFile files name left → PassesCapture by left cut x y
    → FindsCapture by files name cut x y
named-whole by files name left cut x y whole (seen, own, are, found, done) = (seen, own, are, named files name left seen whole found, done)

-- all captures
pub captures-all : (by : PassedBy) (files : Option (List File)) (captures : List (List ℕ)) (i cut : ℕ) (x y : OutletsAt) → length captures ≤ i → FindsCaptures by files (take i captures) cut x y
    → FindsCaptures by files captures cut x y
captures-all by files captures i cut x y le = subst (λ (ns : List (List ℕ)). FindsCaptures by files ns cut x y) (take_all i captures le)
