-- What is written of the deed of a lane is that deed.
use Rattle.std.proofs.Common.{◌≡◌, ℕ, ◌+◌, ◌≤◌, ◌&&◌, Bool, true, false, cond, eqb, leb, List, [], ◌∷◌, ◌++◌, length}
use Rattle.std.proofs.Common.{map, Option, Some, None, Ok, codes, refl, sym, ap, subst, ◌∙◌, append_assoc, arith}
use Rattle.std.specs.Prelude.{slice_index}
use Rattle.std.specs.List.{list_all, AllByRecursion}
use Rattle.std.proofs.lemmas.Bool.Decides.{nat_tests}
use Rattle.std.proofs.lemmas.List.{append-nil}
use Rattle.spin_word.specs.declared.command.Place.{Place}
use Rattle.spin_word.specs.declared.command.Place.TheVariants as place
use Rattle.spin_word.specs.declared.command.Mode.{Mode}
use Rattle.spin_word.specs.declared.command.Mode.TheVariants as mode
use Rattle.spin_word.specs.Commands.{no_number}
use Rattle.spin_grammar.specs.Spelling.{number, within}
use Rattle.spin_grammar.specs.Grammar as grammar
use Rattle.spin_grammar.specs.Grammar.{Atom, Fixed, Numeral, Want, Number, Choices, chosen, rising, spots, places, modes, deeds, spot_wants, may_end, accepts, reads}
use Rattle.spin_grammar.specs.Forms as forms
use Rattle.spin_grammar.specs.Forms.{Spot, Task, padded, place_word, mode_word, counted_form, spot_form, task_form}
use Rattle.spin_grammar.proofs.CanonicalSpelling.{ok_same, by_number, by_rising, by_rise, chosen_word, went, over}
use Rattle.spin_grammar.specs.Tasks.{work_of}
use Rattle.spin_script.specs.States.{}
use Rattle.spin_script.specs.Canonical.{named, narrow_spot, task_of}
use Rattle.spin_script.specs.RoundTrip.{DeedsAreBack}

-- ---- the first word of several

pub record First (want : Want) (wants : List Want) (a : Atom) (atoms : List Atom) : Type 0 where
  pub word : List ℕ
  pub next : List Want
  pub rest : List (List ℕ)
  pub is : accepts want word ≡ Ok (a, next)
  pub reads : reads (next ++ wants) rest ≡ Ok atoms

pub first : (want : Want) (wants : List Want) (ws : List (List ℕ)) (a : Atom) (atoms : List Atom) → reads (want ∷ wants) ws ≡ Ok (a ∷ atoms) → First want wants a atoms
unfolding reads
first want wants [] a atoms e = absurd (let none : [] ≡ a ∷ atoms = over (list_all may_end (want ∷ wants)) (a ∷ atoms) e in cc)
first want wants (w ∷ ws) a atoms e =
    let s = went (accepts want w) wants ws (a ∷ atoms) e in
    let head : s.0.0 ≡ a = cc in
    let tail : s.2 ≡ atoms = cc in
    record {
      word = w;
      next = s.0.1;
      rest = ws;
      is = s.1 ∙ ap (λ (b : Atom). Ok (b, s.0.1)) head;
      reads = s.3 ∙ ap (λ (more : List Atom). Ok more) tail;
    }

-- what is left of what is wanted, and of the words
pub record Left (wants : List Want) (atoms : List Atom) : Type 0 where
  pub rest : List (List ℕ)
  pub reads : reads wants rest ≡ Ok atoms

same_numeral : (m n : ℕ) → Numeral m ≡ Numeral n → m ≡ n
same_numeral m n e = cc

numeral_is : (m n : ℕ) (next others : List Want) → ◌≡◌ {A = Atom × List Want} (Numeral m, next) (Numeral n, others) → (m ≡ n) × (next ≡ others)
numeral_is m n next others e = (same_numeral m n (ap (λ (p : Atom × List Want). p.0) e), ap (λ (p : Atom × List Want). p.1) e)

below : (b : Bool) (m n high : ℕ) → cond b (Some m) None ≡ Some n → (b ≡ true → m ≤ high) → n ≤ high
below true m n high e h = let same : m ≡ n = cc in subst (λ (k : ℕ). k ≤ high) same (h refl)
below false m n high e h = absurd cc

in_range : (low high n : ℕ) (o : Option ℕ) → within low high o ≡ Some n → n ≤ high
in_range low high n None e = absurd cc
in_range low high n (Some m) e = below (leb low m && leb m high) m n high e (λ t. grind (arith, nat_tests, t))

number_next : (low high n : ℕ) (w : List ℕ) (next : List Want) → accepts (Number low high) w ≡ Ok (Numeral n, next) → ([] ≡ next) × (n ≤ high)
unfolding accepts
number_next low high n w next e =
    let k = by_number (within low high (number w)) [] (Numeral n, next) e in
    let same = numeral_is k.0 n [] next k.2 in
    (same.1, in_range low high n (number w) (k.1 ∙ ap (λ (m : ℕ). Some m) same.0))

pub number_first : (low high n : ℕ) (wants : List Want) (ws : List (List ℕ)) (atoms : List Atom) → reads (Number low high ∷ wants) ws ≡ Ok (Numeral n ∷ atoms) → Left wants atoms × (n ≤ high)
number_first low high n wants ws atoms e =
    let f = first (Number low high) wants ws (Numeral n) atoms e in
    let k = number_next low high n f.word f.next f.is in
    (record { rest = f.rest; reads = subst (λ (next : List Want). reads (next ++ wants) f.rest ≡ Ok atoms) (sym k.0) f.reads }, k.1)

word_is : (v w : List ℕ) → Fixed v ≡ Fixed w → w ≡ v
word_is v w e = cc

-- one of several fixed words, and what is wanted behind it
record Chose (cs : Choices) (v : List ℕ) (wants : List Want) (atoms : List Atom) : Type 0 where
  next : List Want
  is : chosen v cs ≡ Ok (Fixed v, next)
  left : Left (next ++ wants) atoms

word_first : (want : Want) (cs : Choices) (v : List ℕ) (wants : List Want) (ws : List (List ℕ)) (atoms : List Atom)
    → ((w : List ℕ) → accepts want w ≡ chosen w cs) → reads (want ∷ wants) ws ≡ Ok (Fixed v ∷ atoms) → Chose cs v wants atoms
word_first want cs v wants ws atoms same e =
    let f = first want wants ws (Fixed v) atoms e in
    let chose : chosen f.word cs ≡ Ok (Fixed v, f.next) = sym (same f.word) ∙ f.is in
    let is : f.word ≡ v = word_is v f.word (chosen_word f.word cs (Fixed v, f.next) chose) in
    record { next = f.next; is = subst (λ (w : List ℕ). chosen w cs ≡ Ok (Fixed v, f.next)) is chose; left = record { rest = f.rest; reads = f.reads } }

-- what is wanted behind a word is known
follows : (cs : Choices) (v : List ℕ) (wants next : List Want) (atoms : List Atom) → chosen v cs ≡ Ok (Fixed v, next) → (c : Chose cs v wants atoms) → Left (next ++ wants) atoms
follows cs v wants next atoms known c =
    let same : c.next ≡ next = sym (ap (λ (p : Atom × List Want). p.1) (ok_same (Fixed v, next) (Fixed v, c.next) (sym known ∙ c.is))) in
    record { rest = c.left.rest; reads = subst (λ (others : List Want). reads (others ++ wants) c.left.rest ≡ Ok atoms) same c.left.reads }

deed_words : (v : ℕ) (w : List ℕ) → accepts (grammar.Deed v) w ≡ chosen w (deeds v)
unfolding accepts
deed_words v w = refl

spot_words : (w : List ℕ) → accepts grammar.Spot w ≡ chosen w spots
unfolding accepts
spot_words w = refl

place_words : (w : List ℕ) → accepts grammar.Place w ≡ chosen w places
unfolding accepts
place_words w = refl

mode_words : (w : List ℕ) → accepts grammar.Mode w ≡ chosen w modes
unfolding accepts
mode_words w = refl

exact_words : (v w : List ℕ) → accepts (grammar.Exactly v) w ≡ chosen w ((v, []) ∷ [])
unfolding accepts
exact_words v w = refl

-- ---- numbers of bindings

rising_next : (low more n : ℕ) (w : List ℕ) (next : List Want) → accepts (grammar.Rising low more) w ≡ Ok (Numeral n, next) → (rising (n + 1) more ≡ next) × (n ≤ 4096)
unfolding accepts
rising_next low more n w next e =
    let k = by_rise (within low 4096 (number w)) more (Numeral n, next) e in
    let same = numeral_is k.0 n (rising (k.0 + 1) more) next k.2 in
    (sym (ap (λ (m : ℕ). rising (m + 1) more) same.0) ∙ same.1, in_range low 4096 n (number w) (k.1 ∙ ap (λ (m : ℕ). Some m) same.0))

abbrev AreBindings : List ℕ → Type 0
AreBindings ns = AllByRecursion (λ (n : ℕ). n ≤ 4096) ns

risen : (ns : List ℕ) (low : ℕ) (wants : List Want) (ws : List (List ℕ)) (atoms : List Atom)
    → reads (rising low (length ns) ++ wants) ws ≡ Ok (map Numeral ns ++ atoms) → Left wants atoms × AreBindings ns
risen [] low wants ws atoms e = (record { rest = ws; reads = e }, tt)
risen (n ∷ ns) low wants ws atoms e =
    let f = first (grammar.Rising low (length ns)) wants ws (Numeral n) (map Numeral ns ++ atoms) e in
    let k = rising_next low (length ns) n f.word f.next f.is in
    let others = risen ns (n + 1) wants f.rest atoms (subst (λ (next : List Want). reads (next ++ wants) f.rest ≡ Ok (map Numeral ns ++ atoms)) (sym k.0) f.reads) in
    (others.0, (k.1, others.1))

count_next : (n : ℕ) (w : List ℕ) (next : List Want) → accepts grammar.Bindings w ≡ Ok (Numeral n, next) → (rising 0 n ≡ next) × (n ≤ 4)
unfolding accepts
count_next n w next e =
    let k = by_rising (within 0 4 (number w)) (Numeral n, next) e in
    let same = numeral_is k.0 n (rising 0 k.0) next k.2 in
    (sym (ap (rising 0) same.0) ∙ same.1, in_range 0 4 n (number w) (k.1 ∙ ap (λ (m : ℕ). Some m) same.0))

-- there are at most four
abbrev AreFew : List ℕ → Type 0
AreFew ns = (length ns ≤ 4) × AreBindings ns

bindings_first : (ns : List ℕ) (wants : List Want) (ws : List (List ℕ)) (atoms : List Atom) → reads (grammar.Bindings ∷ wants) ws ≡ Ok (counted_form ns ++ atoms) → Left wants atoms × AreFew ns
bindings_first ns wants ws atoms e =
    let f = first grammar.Bindings wants ws (Numeral (length ns)) (map Numeral ns ++ atoms) e in
    let k = count_next (length ns) f.word f.next f.is in
    let others = risen ns 0 wants f.rest atoms (subst (λ (next : List Want). reads (next ++ wants) f.rest ≡ Ok (map Numeral ns ++ atoms)) (sym k.0) f.reads) in
    (others.0, (k.1, others.1))

no_none : (n : ℕ) → n ≤ 4096 → eqb n no_number ≡ false
no_none n h = grind (arith, nat_tests, h)

few_back : (ns : List ℕ) → AreFew ns → named (padded ns) ≡ ns
few_back [] h = refl
few_back (a ∷ []) h = rw (no_none a h.1.0) refl
few_back (a ∷ (b ∷ [])) h = rw (no_none a h.1.0, no_none b h.1.1.0) refl
few_back (a ∷ (b ∷ (c ∷ []))) h = rw (no_none a h.1.0, no_none b h.1.1.0, no_none c h.1.1.1.0) refl
few_back (a ∷ (b ∷ (c ∷ (d ∷ [])))) h = rw (no_none a h.1.0, no_none b h.1.1.0, no_none c h.1.1.1.0, no_none d h.1.1.1.1.0) refl
few_back (a ∷ (b ∷ (c ∷ (d ∷ (e ∷ more))))) h = absurd (omega (arith, h.0))

-- ---- places

abbrev IsNarrow : Spot → Type 0
IsNarrow (forms.At p) = Unit {0}
IsNarrow (forms.Before n) = n ≤ 1023
IsNarrow (forms.After n) = n ≤ 1023
IsNarrow (forms.Among p before after) = ⊥

abbrev IsWide : Spot → Type 0
IsWide (forms.Among p before after) = AreFew before × AreFew after
IsWide s = ⊥

known_spot : (p : Place) → chosen (place_word p) spots ≡ Ok (Fixed (place_word p), [])
known_spot place.Free = refl
known_spot place.First = refl
known_spot place.Last = refl

known_place : (p : Place) → chosen (place_word p) places ≡ Ok (Fixed (place_word p), [])
known_place place.Free = refl
known_place place.First = refl
known_place place.Last = refl

no_exact : (m : Mode) (next : List Want) → chosen (mode_word m) ((codes "before", []) ∷ []) ≡ Ok (Fixed (mode_word m), next) → ⊥
no_exact mode.Plain next e = absurd cc
no_exact mode.Filter next e = absurd cc
no_exact mode.Async next e = absurd cc

narrow : (s : Spot) (m : Mode) (ws : List (List ℕ)) → reads (grammar.Spot ∷ grammar.Mode ∷ []) ws ≡ Ok (spot_form s ++ Fixed (mode_word m) ∷ []) → IsNarrow s
narrow (forms.At p) m ws e = tt
narrow (forms.Before n) m ws e =
    let c = word_first grammar.Spot spots (codes "before") (grammar.Mode ∷ []) ws (Numeral n ∷ Fixed (mode_word m) ∷ []) spot_words e in
    let left = follows spots (codes "before") (grammar.Mode ∷ []) (Number 0 1023 ∷ []) (Numeral n ∷ Fixed (mode_word m) ∷ []) refl c in
    (number_first 0 1023 n (grammar.Mode ∷ []) left.rest (Fixed (mode_word m) ∷ []) left.reads).1
narrow (forms.After n) m ws e =
    let c = word_first grammar.Spot spots (codes "after") (grammar.Mode ∷ []) ws (Numeral n ∷ Fixed (mode_word m) ∷ []) spot_words e in
    let left = follows spots (codes "after") (grammar.Mode ∷ []) (Number 0 1023 ∷ []) (Numeral n ∷ Fixed (mode_word m) ∷ []) refl c in
    (number_first 0 1023 n (grammar.Mode ∷ []) left.rest (Fixed (mode_word m) ∷ []) left.reads).1
narrow (forms.Among p before after) m ws e =
    let tail : List Atom = (counted_form before ++ Fixed (codes "after") ∷ counted_form after) ++ Fixed (mode_word m) ∷ [] in
    let c = word_first grammar.Spot spots (place_word p) (grammar.Mode ∷ []) ws (Fixed (codes "before") ∷ tail) spot_words e in
    let left = follows spots (place_word p) (grammar.Mode ∷ []) [] (Fixed (codes "before") ∷ tail) (known_spot p) c in
    let bad = word_first grammar.Mode modes (codes "before") [] left.rest tail mode_words left.reads in
    absurd (let no = bad.is in cc)

wide : (s : Spot) (m : Mode) (ws : List (List ℕ))
    → reads (grammar.Place ∷ grammar.Exactly (codes "before") ∷ grammar.Bindings ∷ grammar.Exactly (codes "after") ∷ grammar.Bindings ∷ grammar.Mode ∷ []) ws
    ≡ Ok (spot_form s ++ Fixed (mode_word m) ∷ []) → IsWide s
wide (forms.At p) m ws e =
    let others : List Want = grammar.Bindings ∷ grammar.Exactly (codes "after") ∷ grammar.Bindings ∷ grammar.Mode ∷ [] in
    let c = word_first grammar.Place places (place_word p) (grammar.Exactly (codes "before") ∷ others) ws (Fixed (mode_word m) ∷ []) place_words e in
    let left = follows places (place_word p) (grammar.Exactly (codes "before") ∷ others) [] (Fixed (mode_word m) ∷ []) (known_place p) c in
    let bad = word_first (grammar.Exactly (codes "before")) ((codes "before", []) ∷ []) (mode_word m) others left.rest [] (exact_words (codes "before")) left.reads in
    no_exact m bad.next bad.is
wide (forms.Before n) m ws e =
    let others : List Want = grammar.Exactly (codes "before") ∷ grammar.Bindings ∷ grammar.Exactly (codes "after") ∷ grammar.Bindings ∷ grammar.Mode ∷ [] in
    let bad = word_first grammar.Place places (codes "before") others ws (Numeral n ∷ Fixed (mode_word m) ∷ []) place_words e in
    absurd (let no = bad.is in cc)
wide (forms.After n) m ws e =
    let others : List Want = grammar.Exactly (codes "before") ∷ grammar.Bindings ∷ grammar.Exactly (codes "after") ∷ grammar.Bindings ∷ grammar.Mode ∷ [] in
    let bad = word_first grammar.Place places (codes "after") others ws (Numeral n ∷ Fixed (mode_word m) ∷ []) place_words e in
    absurd (let no = bad.is in cc)
wide (forms.Among p before after) m ws e =
    let last : List Atom = Fixed (mode_word m) ∷ [] in
    let tail : List Atom = (counted_form before ++ Fixed (codes "after") ∷ counted_form after) ++ last in
    let more : List Want = grammar.Exactly (codes "after") ∷ grammar.Bindings ∷ grammar.Mode ∷ [] in
    let others : List Want = grammar.Bindings ∷ more in
    let c = word_first grammar.Place places (place_word p) (grammar.Exactly (codes "before") ∷ others) ws (Fixed (codes "before") ∷ tail) place_words e in
    let left = follows places (place_word p) (grammar.Exactly (codes "before") ∷ others) [] (Fixed (codes "before") ∷ tail) (known_place p) c in
    let d = word_first (grammar.Exactly (codes "before")) ((codes "before", []) ∷ []) (codes "before") others left.rest tail (exact_words (codes "before")) left.reads in
    let one = follows ((codes "before", []) ∷ []) (codes "before") others [] tail refl d in
    let split : tail ≡ counted_form before ++ (Fixed (codes "after") ∷ (counted_form after ++ last)) = append_assoc (counted_form before) (Fixed (codes "after") ∷ counted_form after) last in
    let firsts = bindings_first before more one.rest (Fixed (codes "after") ∷ (counted_form after ++ last)) (one.reads ∙ ap (λ (atoms : List Atom). Ok atoms) split) in
    let f = word_first (grammar.Exactly (codes "after")) ((codes "after", []) ∷ []) (codes "after")
    (grammar.Bindings ∷ grammar.Mode ∷ []) firsts.0.rest (counted_form after ++ last) (exact_words (codes "after")) firsts.0.reads in
    let two = follows ((codes "after", []) ∷ []) (codes "after") (grammar.Bindings ∷ grammar.Mode ∷ []) [] (counted_form after ++ last) refl f in
    let seconds = bindings_first after (grammar.Mode ∷ []) two.rest last two.reads in
    (firsts.1, seconds.1)

-- ---- installs

abbrev spot_again : ℕ → Spot → Spot
spot_again version s =
    cond (eqb version 3) (forms.Among (forms.spot_place s) (named (forms.spot_before s)) (named (forms.spot_after s)))
    (narrow_spot (forms.spot_place s) (slice_index (forms.spot_before s) 0) (slice_index (forms.spot_after s) 0))

narrow_back : (s : Spot) (version : ℕ) → eqb version 3 ≡ false → IsNarrow s → spot_again version s ≡ s
narrow_back (forms.At p) version v h = rw v refl
narrow_back (forms.Before n) version v h = let some : eqb n no_number ≡ false = no_none n (omega (arith, h)) in rw (v, some) refl
narrow_back (forms.After n) version v h = let some : eqb n no_number ≡ false = no_none n (omega (arith, h)) in rw (v, some) refl
narrow_back (forms.Among p before after) version v h = absurd h

wide_back : (s : Spot) (version : ℕ) → eqb version 3 ≡ true → IsWide s → spot_again version s ≡ s
wide_back (forms.At p) version v h = absurd h
wide_back (forms.Before n) version v h = absurd h
wide_back (forms.After n) version v h = absurd h
wide_back (forms.Among p before after) version v h = rw (v, few_back before h.0, few_back after h.1) refl

spot_back : (s : Spot) (m : Mode) (version : ℕ) (ws : List (List ℕ)) → reads (spot_wants version ++ grammar.Mode ∷ []) ws ≡ Ok (spot_form s ++ Fixed (mode_word m) ∷ []) → spot_again version s ≡ s
spot_back s m version ws e = go (eqb version 3) refl
  where
    go : (b : Bool) → eqb version 3 ≡ b → spot_again version s ≡ s
    go true v = wide_back s version v (wide s m ws (rw v at e))
    go false v = narrow_back s version v (narrow s m ws (rw v at e))

installed : (version lane e m h g : ℕ) (s : Spot) (md : Mode) (ws : List (List ℕ))
    → reads (Number 0 255 ∷ grammar.Deed version ∷ []) ws ≡ Ok (Numeral lane ∷ task_form (forms.Install e m h g s md)) → spot_again version s ≡ s
installed version lane e m h g s md ws is =
    let tail : List Atom = spot_form s ++ Fixed (mode_word md) ∷ [] in
    let wants : List Want = spot_wants version ++ grammar.Mode ∷ [] in
    let all : List Want = Number 0 63 ∷ Number 0 255 ∷ Number 0 1023 ∷ Number 0 1023 ∷ wants in
    let a = (number_first 0 255 lane (grammar.Deed version ∷ []) ws (Fixed (codes "install") ∷ Numeral e ∷ Numeral m ∷ Numeral h ∷ Numeral g ∷ tail) is).0 in
    let c = word_first (grammar.Deed version) (deeds version) (codes "install") [] a.rest (Numeral e ∷ Numeral m ∷ Numeral h ∷ Numeral g ∷ tail) (deed_words version) a.reads in
    let d = follows (deeds version) (codes "install") [] all (Numeral e ∷ Numeral m ∷ Numeral h ∷ Numeral g ∷ tail) refl c in
    let i = (number_first 0 63 e (Number 0 255 ∷ Number 0 1023 ∷ Number 0 1023 ∷ (wants ++ [])) d.rest (Numeral m ∷ Numeral h ∷ Numeral g ∷ tail) d.reads).0 in
    let j = (number_first 0 255 m (Number 0 1023 ∷ Number 0 1023 ∷ (wants ++ [])) i.rest (Numeral h ∷ Numeral g ∷ tail) i.reads).0 in
    let k = (number_first 0 1023 h (Number 0 1023 ∷ (wants ++ [])) j.rest (Numeral g ∷ tail) j.reads).0 in
    let l = (number_first 0 1023 g (wants ++ []) k.rest tail k.reads).0 in
    spot_back s md version l.rest (subst (λ (ws' : List Want). reads ws' l.rest ≡ Ok tail) (append-nil wants) l.reads)

deed_back : (version lane : ℕ) (t : Task) (ws : List (List ℕ)) → reads (Number 0 255 ∷ grammar.Deed version ∷ []) ws ≡ Ok (Numeral lane ∷ task_form t) → task_of version (work_of lane t) ≡ t
deed_back version lane (forms.Install e m h g s md) ws is = ap (λ (again : Spot). forms.Install e m h g again md) (installed version lane e m h g s md ws is)
deed_back version lane (forms.Remove e m n) ws is = refl
deed_back version lane (forms.Replace e m n h g) ws is = refl
deed_back version lane (forms.Default e m h) ws is = refl
deed_back version lane (forms.NoDefault e m) ws is = refl
deed_back version lane (forms.Raise e vs) ws is = refl
deed_back version lane (forms.Later e vs) ws is = refl
deed_back version lane (forms.Packet e n) ws is = refl

pub deeds_back : DeedsAreBack
deeds_back version lane t said = deed_back version lane t said.0 said.1.words
