-- Lines that change different events may change places.
use Rattle.std.proofs.Common.{◌≡◌, ℕ, zero, suc, ◌+◌, ◌<◌, Bool, false, List, [], ◌∷◌, ◌++◌, Option, Some, None, refl, sym, ap, subst, ◌∙◌, append_assoc, arith}
use Rattle.std.specs.Prelude.{slice_get, slice_set}
use Rattle.std.specs.List.{flat_map, enumerate_from, AllByRecursion}
use Rattle.std.specs.Option.{option_map_or}
use Rattle.spin_table.specs.declared.event.EventDef.{EventDef}
use Rattle.spin_grammar.specs.Lines.{LineMeaning, line_kind}
use Rattle.spin_script.specs.Sections.{section, is_out_of_order}
use Rattle.spin_script.specs.States.{ScriptState, NativeData, with_event, after}
use Rattle.spin_values.specs.First.{first_of}
use Rattle.spin_script.specs.Checks.{checks}
use Rattle.spin_script.specs.RoundTrip.{Fits}
use Rattle.spin_script.proofs.LineRuns.{Runs}

abbrev pub Change : Type 0
Change = EventDef → EventDef

pub cons_event : (c : Change) (x : EventDef) (xs : List EventDef) (e : ℕ) → with_event c (suc e) (x ∷ xs) ≡ x ∷ with_event c e xs
cons_event c x xs e = by_event (slice_get xs e)
  where
    by_event : (o : Option EventDef) → option_map_or (λ ev. slice_set (x ∷ xs) (suc e) (c ev)) o (x ∷ xs) ≡ x ∷ option_map_or (λ ev. slice_set xs e (c ev)) o xs
    by_event None = refl
    by_event (Some ev) = refl

pub other_event : (c : Change) (es : List EventDef) (e f : ℕ) → (e ≡ f → ⊥) → slice_get (with_event c f es) e ≡ slice_get es e
other_event c [] e f ne = refl
other_event c (x ∷ xs) zero zero ne = absurd (ne refl)
other_event c (x ∷ xs) zero (suc f) ne = ap (λ (ys : List EventDef). slice_get ys 0) (cons_event c x xs f)
other_event c (x ∷ xs) (suc e) zero ne = refl
other_event c (x ∷ xs) (suc e) (suc f) ne = ap (λ (ys : List EventDef). slice_get ys (suc e)) (cons_event c x xs f) ∙ other_event c xs e f (λ same. ne (ap suc same))

commute : (c d : Change) (es : List EventDef) (e f : ℕ) → (e ≡ f → ⊥) → with_event c e (with_event d f es) ≡ with_event d f (with_event c e es)
commute c d [] e f ne = refl
commute c d (x ∷ xs) zero zero ne = absurd (ne refl)
commute c d (x ∷ xs) zero (suc f) ne = ap (with_event c 0) (cons_event d x xs f) ∙ sym (cons_event d (c x) xs f)
commute c d (x ∷ xs) (suc e) zero ne = cons_event c (d x) xs e ∙ sym (ap (with_event d 0) (cons_event c x xs e))
commute c d (x ∷ xs) (suc e) (suc f) ne =
    ap (with_event c (suc e)) (cons_event d x xs f) ∙ cons_event c x (with_event d f xs) e
    ∙ ap (λ (ys : List EventDef). x ∷ ys) (commute c d xs e f (λ same. ne (ap suc same)))
    ∙ sym (cons_event d x (with_event c e xs) f) ∙ sym (ap (with_event d (suc f)) (cons_event c x xs e))

-- ---- lines that change one event

-- the line changes just this event so
pub record Changes (n : NativeData) (l : LineMeaning) (event : ℕ) (change : Change) : Type 0 where
  pub does : (s : ScriptState) → after n s 0 l ≡ record s { section = section (line_kind l); events = with_event change event s.events }
  pub asks : (s u : ScriptState) → s.version ≡ u.version → s.handlers ≡ u.handlers → s.guards ≡ u.guards → slice_get s.events event ≡ slice_get u.events event → checks n s l ≡ checks n u l
  pub plain : (before : ℕ) (begins : Bool) → is_out_of_order (line_kind l) before begins ≡ false → is_out_of_order (line_kind l) (section (line_kind l)) begins ≡ false

-- where another event was changed before, in the same section
moved_fits : (n : NativeData) (s : ScriptState) (l : LineMeaning) (e f k : ℕ) (c d : Change) → Changes n l e c → (e ≡ f → ⊥)
    → is_out_of_order (line_kind l) s.section s.begins ≡ false → Fits n (record s { section = k; events = with_event d f s.events }) l → Fits n s l
moved_fits n s l e f k c d ch ne order fit =
    let u : ScriptState = record s { section = k; events = with_event d f s.events } in
    record { said = fit.said; order = order; good = ap first_of (ch.asks s u refl refl refl (sym (other_event d s.events e f ne))) ∙ fit.good }

later_fits : (n : NativeData) (s : ScriptState) (l : LineMeaning) (e f : ℕ) (c d : Change) → Changes n l e c
    → (e ≡ f → ⊥) → Fits n s l → Fits n (record s { section = section (line_kind l); events = with_event d f s.events }) l
later_fits n s l e f c d ch ne fit =
    let u : ScriptState = record s { section = section (line_kind l); events = with_event d f s.events } in
    record { said = fit.said; order = ch.plain s.section s.begins fit.order; good = ap first_of (ch.asks u s refl refl refl (other_event d s.events e f ne)) ∙ fit.good }

record Swapped (n : NativeData) (s : ScriptState) (y l : LineMeaning) : Type 0 where
  first : Fits n s l
  second : Fits n (after n s 0 l) y
  same : after n (after n s 0 l) 0 y ≡ after n (after n s 0 y) 0 l

swap : (n : NativeData) (s : ScriptState) (y l : LineMeaning) (f e : ℕ) (d c : Change) → Changes n y f d → Changes n l e c
    → (e ≡ f → ⊥) → section (line_kind y) ≡ section (line_kind l) → is_out_of_order (line_kind l) s.section s.begins ≡ false
    → Fits n s y → Fits n (after n s 0 y) l → Swapped n s y l
swap n s y l f e d c of_y of_l ne sections order fit_y fit_l =
    let k : ℕ = section (line_kind l) in
    let with_y : ScriptState = record s { section = section (line_kind y); events = with_event d f s.events } in
    let with_l : ScriptState = record s { section = k; events = with_event c e s.events } in
    let ne' : (f ≡ e → ⊥) = λ same. ne (sym same) in
    let one : Fits n s l = moved_fits n s l e f (section (line_kind y)) c d of_l ne order (subst (λ (t : ScriptState). Fits n t l) (of_y.does s) fit_l) in
    let two : Fits n with_l y = subst (λ (j : ℕ). Fits n (record s { section = j; events = with_event c e s.events }) y) sections (later_fits n s y f e d c of_y ne' fit_y) in
    record {
      first = one;
      second = subst (λ (t : ScriptState). Fits n t y) (sym (of_l.does s)) two;
      same =
          ap (λ (t : ScriptState). after n t 0 y) (of_l.does s) ∙ of_y.does with_l
          ∙ ap (λ (es : List EventDef). record s { section = section (line_kind y); events = es }) (commute d c s.events f e ne')
          ∙ ap (λ (j : ℕ). record s { section = j; events = with_event c e (with_event d f s.events) }) sections
          ∙ sym (of_l.does with_y) ∙ sym (ap (λ (t : ScriptState). after n t 0 l) (of_y.does s));
    }

-- the line, where it fits, changes another event in this section
pub record IsApart (n : NativeData) (event k : ℕ) (y : LineMeaning) : Type 0 where
  pub other : ℕ
  pub changes : (s : ScriptState) → Fits n s y → (change : Change) × Changes n y other change
  pub apart : event ≡ other → ⊥
  pub here : section (line_kind y) ≡ k

-- a line moves to the front over lines of other events
pub move : (n : NativeData) (s t : ScriptState) (ys : List LineMeaning) (l : LineMeaning) (e : ℕ) (c : Change) → Changes n l e c → AllByRecursion (IsApart n e (section (line_kind l))) ys
    → is_out_of_order (line_kind l) s.section s.begins ≡ false → Runs n s (ys ++ l ∷ []) t → Runs n s (l ∷ ys) t
move n s t [] l e c of_l all order run = run
move n s t (y ∷ ys) l e c of_l all order run =
    let a = all.0 in
    let ch = a.changes s run.0 in
    let next : is_out_of_order (line_kind l) (after n s 0 y).section (after n s 0 y).begins ≡ false =
    subst (λ (u : ScriptState). is_out_of_order (line_kind l) u.section u.begins ≡ false) (sym (ch.1.does s))
    (subst (λ (j : ℕ). is_out_of_order (line_kind l) j s.begins ≡ false) (sym a.here) (of_l.plain s.section s.begins order)) in
    let rest = move n (after n s 0 y) t ys l e c of_l all.1 next run.1 in
    let w = swap n s y l a.other e ch.0 c ch.1 of_l a.apart a.here order run.0 rest.0 in
    (w.first, (w.second, subst (λ (u : ScriptState). Runs n u ys t) (sym w.same) rest.1))

-- ---- one line more among the lines of all events

abbrev pub all_lines : (ℕ × EventDef → List LineMeaning) → ℕ → List EventDef → List LineMeaning
all_lines g base es = flat_map g (enumerate_from base es)

pub record Inserted (n : NativeData) (g : ℕ × EventDef → List LineMeaning) (base : ℕ) (es : List EventDef) (e k : ℕ) (c : Change) (l : LineMeaning) : Type 0 where
  pub front : List LineMeaning
  pub back : List LineMeaning
  pub was : all_lines g base es ≡ front ++ back
  pub is : all_lines g base (with_event c e es) ≡ front ++ l ∷ back
  pub apart : AllByRecursion (IsApart n (base + e) k) back

-- the lines of each event from there on change it alone
abbrev pub AreOwn : NativeData → (ℕ × EventDef → List LineMeaning) → ℕ → Type 0
AreOwn n g k = (event least : ℕ) (ev : EventDef) → least < event → AllByRecursion (IsApart n least k) (g (event, ev))

pub all_both : {X : Type 0} (P : X → Type 0) (xs ys : List X) → AllByRecursion P xs → AllByRecursion P ys → AllByRecursion P (xs ++ ys)
all_both P [] ys a b = b
all_both P (x ∷ xs) ys a b = (a.0, all_both P xs ys a.1 b)

all_apart : (n : NativeData) (g : ℕ × EventDef → List LineMeaning) (k least base : ℕ) (es : List EventDef) → AreOwn n g k → least < base → AllByRecursion (IsApart n least k) (all_lines g base es)
all_apart n g k least base [] own h = tt
all_apart n g k least base (ev ∷ es) own h = all_both (IsApart n least k) (g (base, ev)) (all_lines g (base + 1) es) (own base least ev h) (all_apart n g k least (base + 1) es own (omega (arith, h)))

pub inserted : (n : NativeData) (g : ℕ × EventDef → List LineMeaning) (base : ℕ) (es : List EventDef) (e k : ℕ) (c : Change) (l : LineMeaning) (ev : EventDef) → AreOwn n g k → slice_get es e ≡ Some ev
    → g (base + e, c ev) ≡ g (base + e, ev) ++ l ∷ [] → Inserted n g base es e k c l
inserted n g base [] e k c l ev own at grown = absurd cc
inserted n g base (x ∷ xs) zero k c l ev own at grown =
    let here : base + 0 ≡ base = omega arith in
    let same : x ≡ ev = cc in
    let front : List LineMeaning = g (base, x) in
    let back : List LineMeaning = all_lines g (base + 1) xs in
    let more : g (base, c x) ≡ front ++ l ∷ [] = subst (λ (y : EventDef). g (base, c y) ≡ g (base, y) ++ l ∷ []) (sym same) (subst (λ (b : ℕ). g (b, c ev) ≡ g (b, ev) ++ l ∷ []) here grown) in
    record {
      front = front;
      back = back;
      was = refl;
      is = ap (λ (ls : List LineMeaning). ls ++ back) more ∙ append_assoc front (l ∷ []) back;
      apart = subst (λ (b : ℕ). AllByRecursion (IsApart n b k) back) (sym here) (all_apart n g k base (base + 1) xs own (omega arith));
    }
inserted n g base (x ∷ xs) (suc e) k c l ev own at grown =
    let here : base + 1 + e ≡ base + suc e = omega arith in
    let i = inserted n g (base + 1) xs e k c l ev own at (subst (λ (b : ℕ). g (b, c ev) ≡ g (b, ev) ++ l ∷ []) (sym here) grown) in
    record {
      front = g (base, x) ++ i.front;
      back = i.back;
      was = ap (λ (ls : List LineMeaning). g (base, x) ++ ls) i.was ∙ sym (append_assoc (g (base, x)) i.front i.back);
      is = ap (all_lines g base) (cons_event c x xs e) ∙ ap (λ (ls : List LineMeaning). g (base, x) ++ ls) i.is ∙ sym (append_assoc (g (base, x)) i.front (l ∷ i.back));
      apart = subst (λ (b : ℕ). AllByRecursion (IsApart n b k) i.back) here i.apart;
    }
