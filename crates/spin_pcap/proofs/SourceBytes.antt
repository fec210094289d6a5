-- Bytes on their way from a source.
use Rattle.std.proofs.Common.{◌≡◌, ◌≤◌, ◌<◌, ◌+◌, ℕ, List, [], ◌++◌, length, take, drop, Option, Some, None, refl, sym, ap, subst, ◌∙◌, arith, append_assoc, IfSome, Bool, true, false, Ok, Err}
use Rattle.std.proofs.KnownBytes.{Consumes-nil, Consumes-trans}
use Rattle.std.proofs.lemmas.List.{append-nil, length-append, length-take, length-drop, take-append-drop}
use Rattle.std.specs.Io.KnownBytes.{Consumes, IsAtEnd}
use Rattle.spin_pcap.specs.declared.fault.PcapFault.{PcapFault}
use Rattle.spin_pcap.specs.declared.fault.PcapFault.TheVariants as fault
use Rattle.spin_pcap.specs.declared.limits.TheConstants.{MAX_RECORDS}
use Rattle.spin_outside.specs.Counts.{raised_by}
use Rattle.spin_outside.specs.Sources.{SourceSeen, taken_more}
use Rattle.spin_pcap.specs.Passing.{Passes, left_for, UnlessFailed, IsRefusal}
use Rattle.spin_pcap.specs.Inner.Filling.{Copies}

raised_twice : (x n m : ℕ) → raised_by (raised_by x n) m ≡ raised_by x (n + m)
raised_twice x n m = omega arith

-- what is taken twice is taken at once
pub more_twice : (taken : Option ℕ) (n m : ℕ) → taken_more (taken_more taken n) m ≡ taken_more taken (n + m)
more_twice None n m = refl
more_twice (Some x) n m = ap Some (raised_twice x n m)

pub more_none : (taken : Option ℕ) → taken ≡ taken_more taken 0
more_none None = refl
more_none (Some x) = ap Some (omega arith)

pub passes-none : (held : List ℕ) (source : SourceSeen) → Passes [] held source held source
passes-none held source = record {
  left = Consumes-nil (left_for held source.left);
  takes = record { count = 0; taken = more_none source.taken; balance = refl };
  keep = refl;
}

pub passes-then : (gone gone' held held' held'' : List ℕ) (source source' source'' : SourceSeen) → Passes gone held source held' source'
    → Passes gone' held' source' held'' source'' → Passes (gone ++ gone') held source held'' source''
passes-then gone gone' held held' held'' source source' source'' p q = record {
  left = Consumes-trans (left_for held source.left) (left_for held' source'.left) (left_for held'' source''.left) gone gone' p.left q.left;
  takes = record {
    count = p.takes.count + q.takes.count;
    taken = q.takes.taken ∙ ap (λ taken. taken_more taken q.takes.count) p.takes.taken ∙ more_twice source.taken p.takes.count q.takes.count;
    balance = omega (arith, p.takes.balance, q.takes.balance, length-append gone gone');
  };
  keep = q.keep ∙ p.keep;
}

-- a read that takes nothing away
pub passes-more : (gone held held' held'' : List ℕ) (source source' source'' : SourceSeen)
    → Passes gone held source held' source' → Passes [] held' source' held'' source'' → Passes gone held source held'' source''
passes-more gone held held' held'' source source' source'' p q =
    subst (λ (ys : List ℕ). Passes ys held source held'' source'') (append-nil gone) (passes-then gone [] held held' held'' source source' source'' p q)

skipped : (held : List ℕ) (left : Option (List ℕ)) (n : ℕ) → Consumes (left_for held left) (left_for (drop n held) left) (take n held)
skipped held None n = tt
skipped held (Some left) n = ap (λ ys. ys ++ left) (sym (take-append-drop n held)) ∙ append_assoc (take n held) (drop n held) left

pub passes-skip : (held : List ℕ) (source : SourceSeen) (n : ℕ) → n ≤ length held → Passes (take n held) held source (drop n held) source
passes-skip held source n le = record {
  left = skipped held source.left n;
  takes = record { count = 0; taken = more_none source.taken; balance = omega (arith, length-take n held, length-drop n held) };
  keep = refl;
}

filled : (held got : List ℕ) (a b : Option (List ℕ)) → Consumes a b got → Consumes (left_for held a) (left_for (held ++ got) b) []
filled held got None b h = tt
filled held got (Some a) None h = absurd h
filled held got (Some a) (Some b) h = ap (λ ys. held ++ ys) h ∙ sym (append_assoc held got b)

pub passes-fill : (held held' got : List ℕ) (source source' : SourceSeen) → held' ≡ held ++ got → Consumes source.left source'.left got
    → source'.taken ≡ taken_more source.taken (length got) → source'.keep ≡ source.keep → Passes [] held source held' source'
passes-fill held held' got source source' is left taken keep = record {
  left = subst (λ (ys : List ℕ). Consumes (left_for held source.left) (left_for ys source'.left) []) (sym is) (filled held got source.left source'.left left);
  takes = record { count = length got; taken = taken; balance = omega (arith, ap length is, length-append held got) };
  keep = keep;
}

with_rest : (P : List ℕ → Type 0) (gone held held' : List ℕ) (a b : Option (List ℕ)) → Consumes (left_for held a) (left_for held' b) gone
    → ((rest : List ℕ) → left_for held' b ≡ Some (held' ++ rest) → P (gone ++ (held' ++ rest))) → IfSome (left_for held a) P
with_rest P gone held held' None b h f = tt
with_rest P gone held held' (Some a) None h f = absurd h
with_rest P gone held held' (Some a) (Some b) h f = subst P (sym h) (f b refl)

-- what was left, where more may follow
pub before-rest : (P : List ℕ → Type 0) (gone held held' : List ℕ) (source source' : SourceSeen) → Passes gone held source held' source'
    → ((rest : List ℕ) → left_for held' source'.left ≡ Some (held' ++ rest) → P (gone ++ (held' ++ rest))) → IfSome (left_for held source.left) P
before-rest P gone held held' source source' p f = with_rest P gone held held' source.left source'.left p.left f

with_none : (P : List ℕ → Type 0) (gone held held' : List ℕ) (a b : Option (List ℕ)) → Consumes (left_for held a) (left_for held' b) gone → IsAtEnd b → P (gone ++ held') → IfSome (left_for held a) P
with_none P gone held held' None b h end f = tt
with_none P gone held held' (Some a) None h end f = absurd h
with_none P gone held held' (Some a) (Some b) h end f =
    subst P (ap (λ ys. gone ++ ys) (sym (append-nil held') ∙ ap (λ ys. held' ++ ys) (sym end)) ∙ sym h) f

-- what was left, where nothing follows
pub before-end : (P : List ℕ → Type 0) (gone held held' : List ℕ) (source source' : SourceSeen)
    → Passes gone held source held' source' → IsAtEnd source'.left → P (gone ++ held') → IfSome (left_for held source.left) P
before-end P gone held held' source source' p end f = with_none P gone held held' source.left source'.left p.left end f

-- a piece of what is held that is copied
pub passes-copy : (frame frame' held held' held'' left : List ℕ) (source source' source'' : SourceSeen) (piece : ℕ) → Passes frame held source held' source'
    → Passes [] held' source' held'' source'' → piece ≤ length held'' → frame' ≡ frame ++ take piece held'' → left ≡ drop piece held'' → Passes frame' held source left source''
passes-copy frame frame' held held' held'' left source source' source'' piece p q le is skipped =
    subst (λ (ys : List ℕ). Passes frame' held source ys source'') (sym skipped)
    (subst (λ (ys : List ℕ). Passes ys held source (drop piece held'') source'') (sym is)
    (passes-then frame (take piece held'') held held'' (drop piece held'') source source'' source''
    (passes-more frame held held' held'' source source' source'' p q) (passes-skip held'' source'' piece le)))

pub copies-whole : (E : Type 0) (whole : Bool) (wanted : ℕ) (copied held : List ℕ) (left : Option (List ℕ)) → whole ≡ true → Copies {E = E} (Ok whole) wanted copied held left → length copied ≡ wanted
copies-whole E true wanted copied held left is h = h
copies-whole E false wanted copied held left is h = cc

pub copies-part : (E : Type 0) (whole : Bool) (wanted : ℕ) (copied held : List ℕ) (left : Option (List ℕ)) → whole ≡ false
    → Copies {E = E} (Ok whole) wanted copied held left → (length copied < wanted) × (held ≡ []) × IsAtEnd left
copies-part E false wanted copied held left is h = h
copies-part E true wanted copied held left is h = cc

pub holds : (wrong : PcapFault) (P : Type 0) → P → UnlessFailed wrong P
holds fault.ReadFault P h = tt
holds fault.BadMagic P h = h
holds fault.BadVersion P h = h
holds fault.BadLink P h = h
holds fault.Short P h = h
holds fault.TooLong P h = h
holds fault.TooManyRecords P h = h
holds (fault.Spoilt first) P h = h
holds fault.NoMemory P h = tt

-- a read failed, or memory ran out
pub failed : (wrong : PcapFault) (P : Type 0) → UnlessFailed wrong ⊥ → UnlessFailed wrong P
failed fault.ReadFault P h = tt
failed fault.BadMagic P h = absurd h
failed fault.BadVersion P h = absurd h
failed fault.BadLink P h = absurd h
failed fault.Short P h = absurd h
failed fault.TooLong P h = absurd h
failed fault.TooManyRecords P h = absurd h
failed (fault.Spoilt first) P h = absurd h
failed fault.NoMemory P h = tt

-- which refuses nothing
pub no_refusal : (given : ℕ) (wrong : PcapFault) → given < MAX_RECORDS → UnlessFailed wrong ⊥ → IsRefusal given (Err wrong)
no_refusal given fault.ReadFault few h = tt
no_refusal given fault.BadMagic few h = absurd h
no_refusal given fault.BadVersion few h = absurd h
no_refusal given fault.BadLink few h = absurd h
no_refusal given fault.Short few h = absurd h
no_refusal given fault.TooLong few h = absurd h
no_refusal given fault.TooManyRecords few h = absurd h
no_refusal given (fault.Spoilt first) few h = absurd h
no_refusal given fault.NoMemory few h = few

pub whatever : {A : Type 0} (P : A → Type 0) (o : Option A) → ((x : A) → P x) → IfSome o P
whatever P None h = tt
whatever P (Some x) h = h x
