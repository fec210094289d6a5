-- Counts of one part of a history after another.
use Rattle.std.proofs.Common.{◌≡◌, ◌∙◌, List, [], ◌∷◌, ◌++◌, Option, Some, None, sym, ap, subst, arith}
use Rattle.std.specs.List.{flat_map}
use Rattle.std.proofs.lemmas.List.{append-nil, length-append}
use Rattle.std.proofs.lemmas.List.Concat.{flat_map-append}
use Rattle.std.proofs.lemmas.List.Sums.{sum_by-append}
use Rattle.spin_report.specs.declared.entry.Entry.{Entry}
use Rattle.spin_report.specs.Histories.{SegmentSeen}
use Rattle.spin_run.specs.Summaries.{Counts, counts_in}
use Rattle.spin_run.specs.Inner.Tallies.{plus, TalliesOn}

pub same_counts : (a b : Counts) → a.entries ≡ b.entries → a.accepted ≡ b.accepted → a.refused ≡ b.refused → a.runs ≡ b.runs → a.sends ≡ b.sends → a ≡ b
same_counts a b entries accepted refused runs sends = λ i. record {
  entries = entries i;
  accepted = accepted i;
  refused = refused i;
  runs = runs i;
  sends = sends i;
}

-- of no entries nothing is counted
pub plus_none : (c : Counts) → c ≡ plus c (counts_in [])
plus_none c = same_counts c (plus c (counts_in [])) (omega arith) (omega arith) (omega arith) (omega arith) (omega arith)

-- nothing was counted before
pub none_plus : (c : Counts) → plus (counts_in []) c ≡ c
none_plus c = same_counts (plus (counts_in []) c) c (omega arith) (omega arith) (omega arith) (omega arith) (omega arith)

pub plus_assoc : (a b c : Counts) → plus (plus a b) c ≡ plus a (plus b c)
plus_assoc a b c =
    same_counts (plus (plus a b) c) (plus a (plus b c)) (omega arith) (omega arith) (omega arith) (omega arith) (omega arith)

counts_joined : (xs ys : List Entry) → counts_in (xs ++ ys) ≡ plus (counts_in xs) (counts_in ys)
counts_joined xs ys =
    same_counts (counts_in (xs ++ ys)) (plus (counts_in xs) (counts_in ys))
    (length-append xs ys)
    (sum_by-append _ xs ys)
    (sum_by-append _ xs ys)
    (sum_by-append _ xs ys)
    (sum_by-append _ xs ys)

-- so many entries more are counted
pub plus_joined : (c : Counts) (xs ys : List Entry) → plus (plus c (counts_in xs)) (counts_in ys) ≡ plus c (counts_in (xs ++ ys))
plus_joined c xs ys = plus_assoc c (counts_in xs) (counts_in ys) ∙ ap (plus c) (sym (counts_joined xs ys))

-- ---- what is counted, if it is

pub tallies_none : (a b : Option Counts) → b ≡ a → TalliesOn a b (counts_in [])
tallies_none None b same = tt
tallies_none (Some c) b same = same ∙ ap Some (plus_none c)

tallies_from : (c : Counts) (a b : Option Counts) (xs ys : List Entry) → a ≡ Some (plus c (counts_in xs)) → TalliesOn a b (counts_in ys) → b ≡ Some (plus c (counts_in (xs ++ ys)))
tallies_from c a b xs ys first second =
    subst (λ (t : Option Counts). TalliesOn t b (counts_in ys)) first second ∙ ap Some (plus_joined c xs ys)

pub tallies_more : (a b c : Option Counts) (xs ys : List Entry) → TalliesOn a b (counts_in xs) → TalliesOn b c (counts_in ys) → TalliesOn a c (counts_in (xs ++ ys))
tallies_more None b c xs ys first second = tt
tallies_more (Some n) b c xs ys first second = tallies_from n b c xs ys first second

pub tallies_same : (a b c : Option Counts) (m : Counts) → TalliesOn a b m → c ≡ b → TalliesOn a c m
tallies_same a b c m h same = subst (λ (t : Option Counts). TalliesOn a t m) (sym same) h

-- the entries of one part more
pub entries_more : (parts : List SegmentSeen) (part : SegmentSeen) → flat_map (λ (p : SegmentSeen). p.entries) parts ++ part.entries ≡ flat_map (λ (p : SegmentSeen). p.entries) (parts ++ part ∷ [])
entries_more parts part =
    sym (flat_map-append (λ (p : SegmentSeen). p.entries) parts (part ∷ [])
    ∙ ap (λ (es : List Entry). flat_map (λ (p : SegmentSeen). p.entries) parts ++ es) (append-nil part.entries))
