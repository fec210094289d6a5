-- Rounds, line after line.
use Rattle.std.proofs.Common.{◌≡◌, ◌<◌, ◌≤◌, ◌+◌, ℕ, suc, zero, List, [], ◌∷◌, ◌++◌, length, take, get_or, replicate, refl, sym, ap, subst, ◌∙◌, arith, append_assoc}
use Rattle.std.proofs.lemmas.List.{append-nil, take_all, get_or_default}
use Rattle.std.specs.List.{HoldsAt}
use Rattle.std.proofs.lemmas.Grind.{flat_map-append, take_at_read}
use Rattle.spin_script.specs.declared.script.Line.{Line}
use Rattle.spin_filter.specs.declared.stop.Stop.{Stop}
use Rattle.spin_filter.specs.declared.stop.Stop.TheVariants as stop
use Rattle.spin_filter.specs.Rounds.{turns_of, round_of, lane_of, IsSuitedAt, AreSuited}
use Rattle.spin_filter.specs.Unsuited.{StopsLine, StopsLines, StopsScript}

-- one more of the same
pub replicate-more : (n event : ℕ) → replicate (n + 1) event ≡ replicate n event ++ event ∷ []
replicate-more n event = ap (λ m. replicate m event) next ∙ more n where
  next : n + 1 ≡ suc n
  next = omega arith

  more : (n : ℕ) → replicate (suc n) event ≡ replicate n event ++ event ∷ []
  more zero = refl
  more (suc n) = ap (λ xs. event ∷ xs) (more n)

pub turns-more : (old now : List ℕ) (n event : ℕ) → now ≡ old ++ replicate n event → now ++ event ∷ [] ≡ old ++ replicate (n + 1) event
turns-more old now n event is = ap (λ xs. xs ++ event ∷ []) is ∙ append_assoc old (replicate n event) (event ∷ []) ∙ ap (λ xs. old ++ xs) (sym (replicate-more n event))

round-then : (a b : List Line) → round_of (a ++ b) ≡ round_of a ++ round_of b
round-then a b = flat_map-append (λ (l : Line). turns_of l.work) a b

pub suited-then : (lane : ℕ) (round : List ℕ) (a b : List Line) → AreSuited lane round a → AreSuited lane (round ++ round_of a) b → AreSuited lane round (a ++ b)
suited-then lane round [] b p q = subst (λ (r : List ℕ). AreSuited lane r b) (append-nil round) q
suited-then lane round (line ∷ a) b (own, p) q =
    (own, suited-then lane (round ++ turns_of line.work) a b p (subst (λ (r : List ℕ). AreSuited lane r b) (sym (append_assoc round (turns_of line.work) (round_of a))) q))

-- What a round is behind some lines.
pub record HasRound (lane : ℕ) (lines : List Line) (old now : List ℕ) : Type 0 where
  pub added : now ≡ old ++ round_of lines
  pub suited : AreSuited lane old lines

pub round-none : (lane : ℕ) (round : List ℕ) → HasRound lane [] round round
round-none lane round = record { added = sym (append-nil round); suited = tt }

pub round-both : (lane : ℕ) (a b : List Line) (x y z : List ℕ) → HasRound lane a x y → HasRound lane b y z → HasRound lane (a ++ b) x z
round-both lane a b x y z p q = record {
  added = q.added ∙ ap (λ r. r ++ round_of b) p.added ∙ append_assoc x (round_of a) (round_of b) ∙ ap (λ r. x ++ r) (sym (round-then a b));
  suited = suited-then lane x a b p.suited (subst (λ (r : List ℕ). AreSuited lane r b) p.added q.suited);
}

round-one : (lane : ℕ) (line : Line) (x y : List ℕ) → y ≡ x ++ turns_of line.work → IsSuitedAt lane x line → HasRound lane (line ∷ []) x y
round-one lane line x y added suited = record { added = added ∙ ap (λ r. x ++ r) (sym (append-nil (turns_of line.work))); suited = (suited, tt) }

pub round-line : (lane : ℕ) (lines : List Line) (i : ℕ) (line : Line) (x y z : List ℕ) → i < length lines → line ≡ get_or lines i line → HasRound lane (take i lines) x y → z ≡ y ++ turns_of line.work
    → IsSuitedAt lane y line → HasRound lane (take (i + 1) lines) x z
round-line lane lines i line x y z lt is p added suited =
    subst (λ (ls : List Line). HasRound lane ls x z) (sym ((take_at_read lines i line lt).1 ∙ ap (λ l. take i lines ++ l ∷ []) (sym is)))
    (round-both lane (take i lines) (line ∷ []) x y z p (round-one lane line y z added suited))

pub round-all : (lane : ℕ) (lines : List Line) (i : ℕ) (x y : List ℕ) → length lines ≤ i → HasRound lane (take i lines) x y → HasRound lane lines x y
round-all lane lines i x y le h = subst (λ (ls : List Line). HasRound lane ls x y) (take_all i lines le) h

-- ---- lines that may not stand there

-- the first of them
pub stops-lines : (lane : ℕ) (old : List ℕ) (lines : List Line) (i : ℕ) (line : Line) (now : List ℕ) (why : Stop) → i < length lines → line ≡ get_or lines i line → HasRound lane (take i lines) old now
    → StopsLine lane now line why → StopsLines lane old lines why
stops-lines lane old lines i line now why lt is h stops = record {
  place = i;
  there = lt;
  before = h.suited;
  stops = λ d. subst (λ (l : Line). StopsLine lane (old ++ round_of (take i lines)) l why) (is ∙ get_or_default lines i line d lt)
      (subst (λ (r : List ℕ). StopsLine lane r line why) h.added stops);
}

-- some line is there
pub never : (lines : List Line) (place : ℕ) → place < length lines → HoldsAt (λ (line : Line). ⊥) lines place → ⊥
never [] place lt at = absurd (omega (arith, lt))
never (line ∷ lines) place lt at = at line

of-lines : (lines : List Line) (why : Stop) → StopsLines (lane_of lines) [] lines why → StopsScript lines why
of-lines lines stop.NoRecords s = absurd (never lines s.place s.there s.stops)
of-lines lines (stop.Lane number) s = s
of-lines lines (stop.InTheWay number) s = s
of-lines lines stop.NoMemory s = s
of-lines lines (stop.Capture number wrong) s = s
of-lines lines (stop.Endpoint number) s = s
of-lines lines (stop.NoFrame number) s = s
of-lines lines stop.WriteFault s = s
of-lines lines stop.Unread s = s
of-lines lines stop.Absent s = s
of-lines lines stop.Retires s = s
of-lines lines stop.Segments s = s

pub stops-script : (lines : List Line) (lane : ℕ) (round : List ℕ) (why : Stop) → lane ≡ lane_of lines → round ≡ [] → StopsLines lane round lines why → StopsScript lines why
stops-script lines lane round why is none s =
    of-lines lines why (subst (λ (n : ℕ). StopsLines n [] lines why) is (subst (λ (r : List ℕ). StopsLines lane r lines why) none s))
