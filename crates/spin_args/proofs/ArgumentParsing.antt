-- What a parse makes of words none of which is taken for an option: what they ask for.
use Rattle.std.proofs.Common.{◌≡◌, ◌<◌, ◌==◌, ◌+◌, ℕ, Bool, true, false, List, [], ◌∷◌, ◌++◌, Option, Some, None, inl, inr}
use Rattle.std.proofs.Common.{length, refl, sym, ap, ap₂, ◌∙◌, arith, codes, is_some, map, subst, take, get_or}
use Rattle.std.specs.Prelude.{◌⊎◌, Box, IfNone, IfSome, fold, find, option_map, unwrap_or}
use Rattle.std.specs.Option.{option_map_or}
use Rattle.std.specs.Str.{bytes_eq}
use Rattle.std.specs.List.{All}
use Rattle.std.specs.Borrow.{Bor}
use Rattle.std.specs.Box.{box_value}
use Rattle.std.proofs.lemmas.List.{append-nil, append_assoc, map_push, take_more}
use Rattle.std.proofs.lemmas.List.Elements.{All-head, All-push, All-tail}
use Rattle.std.proofs.lemmas.Slice.Eq.{bytes_eq-Decides}
use Rattle.spin_grammar.specs.Spelling as grammar
use Rattle.spin_grammar.specs.Spelling.{within, greatest}
use Rattle.spin_args.specs.declared.words.Asked.{Asked}
use Rattle.spin_args.specs.declared.words.Asked.TheVariants.{Run, Gen, Check, Join, Vm}
use Rattle.spin_args.specs.Words.{IsAsked, IsPlain, IsSpelled}
use Rattle.spin_args.specs.Inner.Parsing.{HasRequired, app, asked_by, gen_by}
use Rattle.spin_args.proofs.CommandForms.{asked_of, read_back, some_is}
use Rattle.spin_args.proofs.PlainWalk.{ends, level_is, no_dash, not_dashes, not_long, not_short, plain_fault, plain_walk, start, walk_is}
use Rattle.clap.specs.Kinds.{Kinds, or_else}
use Rattle.clap.specs.Walk.{Names, Row, Text, Walk, answers_to, finished, idle, is_empty, nothing_held, settled, subcommand_met, subcommand_or_other, walk, walk_from, walked}
use Rattle.clap.specs.Simple.{Shape, built, entered, label_of, names_of, rows_at, subcommand_of}
use Rattle.clap.specs.Faults.{check_fault, defaults_fault, entered_fault, fault_of, level_fault, other_fault, settle_fault, step_fault, stray_fault, turn_fault, walk_fault}
use Rattle.clap.specs.Words.{subcommand_name_of, subcommand_rows, subcommand_rows_of}
use Rattle.clap.specs.declared.parser.matches.ArgMatches.{ArgMatches}
use Rattle.clap.specs.declared.parser.matches.ArgMatches.TheViews.{out-ArgMatches, out-SubCommand}
use Rattle.clap.specs.declared.parser.matches.SubCommand.{SubCommand}
use Rattle.clap.proofs.FaultLemmas.{stopped_fault}
use Rattle.clap.proofs.OnLiterals.{clap_on_literals}

abbrev top : Shape
top = (built app).top

abbrev names : Names
names = names_of (built app)

abbrev sub : Text → Option Shape
sub name = find (λ s. answers_to name (label_of s)) (built app).subs

-- ---- the first word

-- the walk has met a subcommand, with these words behind it
abbrev stopped_at : Text → List Text → Walk
stopped_at name words = record (walk_from nothing_held) { stopped = Some (name, words) }

gathered : (name : Text) (front words : List Text) → fold (walked [] names) (stopped_at name front) words ≡ stopped_at name (front ++ words)
unfolding walked
gathered name front [] = ap (stopped_at name) (sym (append-nil front))
gathered name front (word ∷ words) = gathered name (front ++ word ∷ []) words ∙ ap (stopped_at name) (append_assoc front (word ∷ []) words)

nothing_more : (kinds : Kinds) → or_else kinds [] ≡ kinds
nothing_more [] = refl
nothing_more (k ∷ ks) = refl

-- all faults, from those of the walk and where it ends
abbrev all_faults : Kinds → Walk → Kinds
all_faults faults w =
    or_else faults (or_else (entered_fault (built app) w.stopped) (or_else (settle_fault top.rules top.args_override_self w.held)
    (or_else (defaults_fault (settled top.rules w.held).rows top.rules) (check_fault top (finished top.rules w.held) (is_some (entered (built app) w.stopped))))))

-- and where it stops at a subcommand
abbrev sub_faults : List Text → Option Shape → Kinds
sub_faults words found =
    or_else (option_map_or (λ s. level_fault s [] nothing_held words false []) found [])
    (check_fault top [] (is_some (option_map (λ s. rows_at s words) found)))

stops : (name : Text) (words : List Text) → walked [] names (walk_from nothing_held) name ≡ stopped_at name [] → walk [] names nothing_held (name ∷ words) ≡ stopped_at name words
stops name words is = ap (λ w. fold (walked [] names) w words) is ∙ gathered name [] words

faults_below : (name : Text) (words : List Text) (s : Shape) → walked [] names (walk_from nothing_held) name ≡ stopped_at name [] → turn_fault top names (walk_from nothing_held) name ≡ []
    → sub name ≡ Some s → fault_of app (name ∷ words) ≡ level_fault s [] nothing_held words false []
unfolding walk_fault defaults_fault
faults_below name words s is none found =
    ap₂ all_faults (ap₂ (λ f w. or_else f (walk_fault top names w words)) none is ∙ stopped_fault top names (walk_from nothing_held) (name, []) words) (stops name words is)
    ∙ ap (sub_faults words) found ∙ nothing_more (level_fault s [] nothing_held words false [])

enters_sub : (name : Text) (words : List Text) (s : Shape) → walked [] names (walk_from nothing_held) name ≡ stopped_at name [] → sub name ≡ Some s
    → subcommand_of app (name ∷ words) ≡ Some (rows_at s words)
enters_sub name words s is found = ap (λ w. entered (built app) w.stopped) (stops name words is) ∙ ap (option_map (λ s. rows_at s words)) found

-- what a parse makes of the first word, where it names a subcommand
record IsSub (name : Text) (s : Shape) : Type 0 where
  walks : walked [] names (walk_from nothing_held) name ≡ stopped_at name []
  faults : turn_fault top names (walk_from nothing_held) name ≡ []
  found : sub name ≡ Some s

abbrev leaf : Text → Shape
leaf name = unwrap_or (sub name) top

is_run : IsSub (codes "run") (leaf (codes "run"))
unfolding clap_on_literals
is_run = record { walks = refl; faults = refl; found = refl }

is_gen : IsSub (codes "gen") (leaf (codes "gen"))
unfolding clap_on_literals
is_gen = record { walks = refl; faults = refl; found = refl }

is_check : IsSub (codes "check") (leaf (codes "check"))
unfolding clap_on_literals
is_check = record { walks = refl; faults = refl; found = refl }

is_join : IsSub (codes "join") (leaf (codes "join"))
unfolding clap_on_literals
is_join = record { walks = refl; faults = refl; found = refl }

is_vm : IsSub (codes "vm") (leaf (codes "vm"))
unfolding clap_on_literals
is_vm = record { walks = refl; faults = refl; found = refl }

-- ---- the words behind it

-- a parse takes the words, and the subcommand's values ask for what the words do
pub record Taken (words : List Text) : Type 0 where
  pub name : Text
  pub rows : List Row
  pub enters : subcommand_of app words ≡ Some (name, rows)
  pub required : HasRequired name rows
  pub asks : asked_by name rows ≡ asked_of words
  pub fits : fault_of app words ≡ []
  pub spelled : (asked : Asked) → asked_of words ≡ Some asked → IsSpelled words asked

-- it refuses them, and they ask for nothing
abbrev Refused : List Text → Type 0
Refused words = (asked_of words ≡ None) × (fault_of app words ≡ [] → ⊥)

abbrev Outcome : List Text → Type 0
Outcome words = Refused words ⊎ Taken words

abbrev end : Shape → List Text → Walk
end s words = plain_walk s.rules start words

abbrev faults : Shape → List Text → Kinds
faults s words = ends s (plain_fault s start words) (end s words)

abbrev rows_in : Shape → List Text → List Row
rows_in s words = finished s.rules (end s words).held

takes : (name : Text) (words : List Text) (s : Shape) → All IsPlain words → IsSub name s → HasRequired s.name (rows_in s words) → asked_by s.name (rows_in s words) ≡ asked_of (name ∷ words)
    → faults s words ≡ [] → ((asked : Asked) → asked_of (name ∷ words) ≡ Some asked → IsSpelled (name ∷ words) asked) → Outcome (name ∷ words)
takes name words s plain is required asks none spelled = inr (record {
  name = s.name;
  rows = rows_in s words;
  enters = enters_sub name words s is.walks is.found ∙ ap (λ (w : Walk). Some (s.name, finished s.rules w.held)) (walk_is s.rules words plain false nothing_held 1 false);
  required = required;
  asks = asks;
  fits = faults_below name words s is.walks is.faults is.found ∙ level_is s words plain ∙ none;
  spelled = spelled;
})

some_kind : (kinds : Kinds) → is_empty kinds ≡ false → kinds ≡ [] → ⊥
some_kind kinds some none = let bad : true ≡ false = sym (ap is_empty none) ∙ some in cc

refuses : (name : Text) (words : List Text) (s : Shape) → All IsPlain words → IsSub name s → asked_of (name ∷ words) ≡ None → is_empty (faults s words) ≡ false → Outcome (name ∷ words)
refuses name words s plain is asks some =
    inl (asks, λ none. some_kind _ some (sym (faults_below name words s is.walks is.faults is.found ∙ level_is s words plain) ∙ none))

spells : (words : List Text) (a asked : Asked) → IsSpelled words a → Some a ≡ Some asked → IsSpelled words asked
spells words a asked is same = subst (IsSpelled words) (some_is a asked same) is

other : {P : Type 0} (a b : Text) → bytes_eq a b ≡ false → a ≡ b → P
other a b differ same = let bad : true ≡ false = sym ((bytes_eq-Decides a b).1 same) ∙ differ in cc

run_outcome : (words : List Text) → All IsPlain words → Outcome (codes "run" ∷ words)
unfolding asked_of plain_walk plain_fault clap_on_literals
run_outcome [] plain = refuses (codes "run") [] (leaf (codes "run")) plain is_run refl refl
run_outcome (a ∷ []) plain = takes (codes "run") (a ∷ []) (leaf (codes "run")) plain is_run
    (λ _. refl, other _ _ refl, other _ _ refl, other _ _ refl, other _ _ refl) refl refl (λ asked. spells _ (Run a None) asked refl)
run_outcome (a ∷ b ∷ []) plain = takes (codes "run") (a ∷ b ∷ []) (leaf (codes "run")) plain is_run
    (λ _. refl, other _ _ refl, other _ _ refl, other _ _ refl, other _ _ refl) refl refl (λ asked. spells _ (Run a (Some b)) asked refl)
run_outcome (a ∷ b ∷ c ∷ words) plain = refuses (codes "run") (a ∷ b ∷ c ∷ words) (leaf (codes "run")) plain is_run refl refl

gen_spelled : (word : Text) (number : Option ℕ) → within 0 greatest (grammar.number word) ≡ number → (asked : Asked) → gen_by number ≡ Some asked → IsSpelled (codes "gen" ∷ word ∷ []) asked
gen_spelled word None is asked same = cc
gen_spelled word (Some number) is asked same = spells (codes "gen" ∷ word ∷ []) (Gen number) asked (word, refl, is) same

gen_outcome : (words : List Text) → All IsPlain words → Outcome (codes "gen" ∷ words)
unfolding asked_of plain_walk plain_fault clap_on_literals
gen_outcome [] plain = refuses (codes "gen") [] (leaf (codes "gen")) plain is_gen refl refl
gen_outcome (a ∷ []) plain = takes (codes "gen") (a ∷ []) (leaf (codes "gen")) plain is_gen
    (other _ _ refl, λ _. refl, other _ _ refl, other _ _ refl, other _ _ refl) refl refl (gen_spelled a (within 0 greatest (grammar.number a)) refl)
gen_outcome (a ∷ b ∷ words) plain = refuses (codes "gen") (a ∷ b ∷ words) (leaf (codes "gen")) plain is_gen refl refl

check_outcome : (words : List Text) → All IsPlain words → Outcome (codes "check" ∷ words)
unfolding asked_of plain_walk plain_fault clap_on_literals
check_outcome [] plain = refuses (codes "check") [] (leaf (codes "check")) plain is_check refl refl
check_outcome (a ∷ []) plain = refuses (codes "check") (a ∷ []) (leaf (codes "check")) plain is_check refl refl
check_outcome (a ∷ b ∷ []) plain = takes (codes "check") (a ∷ b ∷ []) (leaf (codes "check")) plain is_check
    (other _ _ refl, other _ _ refl, λ _. (refl, refl), other _ _ refl, other _ _ refl) refl refl (λ asked. spells _ (Check a b None) asked refl)
check_outcome (a ∷ b ∷ c ∷ []) plain = takes (codes "check") (a ∷ b ∷ c ∷ []) (leaf (codes "check")) plain is_check
    (other _ _ refl, other _ _ refl, λ _. (refl, refl), other _ _ refl, other _ _ refl) refl refl (λ asked. spells _ (Check a b (Some c)) asked refl)
check_outcome (a ∷ b ∷ c ∷ d ∷ words) plain = refuses (codes "check") (a ∷ b ∷ c ∷ d ∷ words) (leaf (codes "check")) plain is_check refl refl

join_outcome : (words : List Text) → All IsPlain words → Outcome (codes "join" ∷ words)
unfolding asked_of plain_walk plain_fault clap_on_literals
join_outcome [] plain = refuses (codes "join") [] (leaf (codes "join")) plain is_join refl refl
join_outcome (a ∷ []) plain = refuses (codes "join") (a ∷ []) (leaf (codes "join")) plain is_join refl refl
join_outcome (a ∷ b ∷ []) plain = takes (codes "join") (a ∷ b ∷ []) (leaf (codes "join")) plain is_join
    (other _ _ refl, other _ _ refl, other _ _ refl, λ _. (refl, refl), other _ _ refl) refl refl (λ asked. spells _ (Join a b) asked refl)
join_outcome (a ∷ b ∷ c ∷ words) plain = refuses (codes "join") (a ∷ b ∷ c ∷ words) (leaf (codes "join")) plain is_join refl refl

vm_outcome : (words : List Text) → All IsPlain words → Outcome (codes "vm" ∷ words)
unfolding asked_of plain_walk plain_fault clap_on_literals
vm_outcome [] plain = refuses (codes "vm") [] (leaf (codes "vm")) plain is_vm refl refl
vm_outcome (a ∷ []) plain = refuses (codes "vm") (a ∷ []) (leaf (codes "vm")) plain is_vm refl refl
vm_outcome (a ∷ b ∷ []) plain = takes (codes "vm") (a ∷ b ∷ []) (leaf (codes "vm")) plain is_vm
    (other _ _ refl, other _ _ refl, other _ _ refl, other _ _ refl, λ _. (refl, refl)) refl refl (λ asked. spells _ (Vm a b) asked refl)
vm_outcome (a ∷ b ∷ c ∷ words) plain = refuses (codes "vm") (a ∷ b ∷ c ∷ words) (leaf (codes "vm")) plain is_vm refl refl

-- ---- all words

-- the word names no subcommand
abbrev NamesNone : Text → Type 0
NamesNone word =
    (bytes_eq (codes "run") word ≡ false) × (bytes_eq (codes "gen") word ≡ false) × (bytes_eq (codes "check") word ≡ false)
    × (bytes_eq (codes "join") word ≡ false) × (bytes_eq (codes "vm") word ≡ false)

none_met : (word : Text) → NamesNone word → subcommand_met names idle word ≡ None
none_met word apart = rw (apart.0, apart.1, apart.2, apart.3, apart.4) refl

none_asked : (word : Text) (words : List Text) → NamesNone word → asked_of (word ∷ words) ≡ None
unfolding asked_of
none_asked word words apart = rw (apart.0, apart.1, apart.2, apart.3, apart.4) refl

-- the fault of a first word that names this subcommand or none
abbrev first_fault : Text → Option Text → Kinds
first_fault word found =
    let met = subcommand_or_other [] found idle 1 word nothing_held in
    or_else (other_fault top found word nothing_held) (step_fault top 1 met.0 met.1)

stray : (x : ℕ) (xs : List ℕ) → (x == 45) ≡ false → first_fault (x ∷ xs) None ≡ stray_fault top
stray x xs dash = rw (not_dashes x xs dash, not_long x xs dash, not_short x xs dash) refl

none_outcome : (x : ℕ) (xs : List ℕ) (words : List Text) → (x == 45) ≡ false → NamesNone (x ∷ xs) → Outcome ((x ∷ xs) ∷ words)
unfolding walk_fault
none_outcome x xs words dash apart =
    let first : turn_fault top names (walk_from nothing_held) (x ∷ xs) ≡ stray_fault top =
    ap (first_fault (x ∷ xs)) (none_met (x ∷ xs) apart) ∙ stray x xs dash in
    let all : fault_of app ((x ∷ xs) ∷ words) ≡ stray_fault top =
    ap (λ f. all_faults (or_else f (walk_fault top names (walked [] names (walk_from nothing_held) (x ∷ xs)) words)) (walk [] names nothing_held ((x ∷ xs) ∷ words))) first in
    inl (none_asked (x ∷ xs) words apart, λ none. some_kind (stray_fault top) refl (sym all ∙ none))

by_name : (name word : Text) (words : List Text) → Outcome (name ∷ words) → (bytes_eq name word ≡ false → Outcome (word ∷ words)) → Outcome (word ∷ words)
by_name name word words here none = go (bytes_eq name word) refl
  where
    go : (b : Bool) → bytes_eq name word ≡ b → Outcome (word ∷ words)
    go true is = subst (λ w. Outcome (w ∷ words)) ((bytes_eq-Decides name word).0 is) here
    go false is = none is

nothing_outcome : Outcome []
unfolding asked_of clap_on_literals
nothing_outcome = inl (refl, some_kind (fault_of app []) refl)

outcome : (words : List Text) → All IsPlain words → Outcome words
outcome [] plain = nothing_outcome
outcome ([] ∷ words) plain = absurd (omega (arith, (All-head IsPlain [] words plain).some))
outcome ((x ∷ xs) ∷ words) plain =
    let rest = All-tail IsPlain (x ∷ xs) words plain in
    by_name (codes "run") (x ∷ xs) words (run_outcome words rest)
    (λ r. by_name (codes "gen") (x ∷ xs) words (gen_outcome words rest)
    (λ g. by_name (codes "check") (x ∷ xs) words (check_outcome words rest)
    (λ c. by_name (codes "join") (x ∷ xs) words (join_outcome words rest)
    (λ j. by_name (codes "vm") (x ∷ xs) words (vm_outcome words rest)
    (λ v. none_outcome x xs words (no_dash x (All-head IsPlain (x ∷ xs) words plain).plain) (r, g, c, j, v))))))

-- words that a parse refuses ask for nothing
pub none_asked_for : (words given : List Text) → All IsPlain words → given ≡ words → (fault_of app given ≡ [] → ⊥) → (asked : Asked) → IsAsked words asked → ⊥
none_asked_for words given plain same fails asked is = elim (outcome words plain) [
  | inl none ↦ let bad : None ≡ Some asked = sym none.0 ∙ read_back words asked is.words_are in cc
  | inr got ↦ fails (ap (fault_of app) same ∙ got.fits)
]

taken : (words : List Text) → All IsPlain words → fault_of app words ≡ [] → Taken words
taken words plain fits = elim (outcome words plain) [
  | inl none ↦ absurd (none.1 fits)
  | inr got ↦ got
]

module _ {Z : Type 0} where
  names_are : (o : Option (Box SubCommand Z)) → option_map (λ p. p.0) (subcommand_rows o) ≡ option_map (λ b. (out-SubCommand (box_value b)).name.now) o
  names_are None = refl
  names_are (Some b) = refl

name_is : (m : ArgMatches) (name : Text) (rows : List Row) → subcommand_rows_of m ≡ Some (name, rows) → subcommand_name_of m ≡ Some name
name_is m name rows is = sym (names_are (out-ArgMatches m).subcommand) ∙ ap (option_map (λ p. p.0)) is

-- what the words ask for is what the subcommand of this name with these rows does
pub record Asks (words : List Text) (name : Text) (rows : List Row) : Type 0 where
  pub required : HasRequired name rows
  pub asks : asked_by name rows ≡ asked_of words
  pub spelled : (asked : Asked) → asked_of words ≡ Some asked → IsSpelled words asked

asks_as : (words : List Text) (n name : Text) (r rows : List Row) → n ≡ name → r ≡ rows → Asks words n r → Asks words name rows
asks_as words n name r rows same_name same_rows is = subst (λ x. Asks words x rows) same_name (subst (Asks words n) same_rows is)

-- of words that a parse takes, the subcommand that it enters
pub asks : (words given : List Text) (m : ArgMatches) (name : Text) (rows : List Row) → All IsPlain words → given ≡ words
    → (fault_of app given ≡ []) × (subcommand_rows_of m ≡ subcommand_of app given)
    → Some name ≡ subcommand_name_of m → Some rows ≡ option_map (λ p. p.1) (subcommand_rows_of m) → Asks words name rows
asks words given m name rows plain same parsed same_name same_rows =
    let got = taken words plain (ap (fault_of app) (sym same) ∙ parsed.0) in
    let entered = parsed.1 ∙ ap (subcommand_of app) same ∙ got.enters in
    asks_as words got.name name got.rows rows (sym (some_is name got.name (same_name ∙ name_is m got.name got.rows entered)))
    (sym (some_is rows got.rows (same_rows ∙ ap (option_map (λ p. p.1)) entered)))
    (record { required = got.required; asks = got.asks; spelled = got.spelled })

pub enters : (words given : List Text) (m : ArgMatches) → All IsPlain words → given ≡ words
    → (fault_of app given ≡ []) × (subcommand_rows_of m ≡ subcommand_of app given) → None ≡ subcommand_name_of m → ⊥
enters words given m plain same parsed none =
    let got = taken words plain (ap (fault_of app) (sym same) ∙ parsed.0) in
    let bad : None ≡ Some got.name = none ∙ name_is m got.name got.rows (parsed.1 ∙ ap (subcommand_of app) same ∙ got.enters) in cc

pub found_is : (words : List Text) (name : Text) (rows : List Row) → All IsPlain words → Asks words name rows → (form : Option Asked) → form ≡ asked_by name rows → IfSome form (IsAsked words)
found_is words name rows plain is None same = tt
found_is words name rows plain is (Some asked) same = record { words_are = is.spelled asked (sym (same ∙ is.asks)); plain = plain }

pub none_is : (words : List Text) (name : Text) (rows : List Row) → Asks words name rows → (form : Option Asked) → form ≡ asked_by name rows
    → IfNone form ((asked : Asked) → IsAsked words asked → ⊥)
none_is words name rows is None same = λ asked asked_is.
    let bad : None ≡ Some asked = same ∙ is.asks ∙ read_back words asked asked_is.words_are in cc
none_is words name rows is (Some asked) same = tt

-- one more word, which is plain
pub more_words : (items items' : List (Bor (List ℕ))) (text : Bor (List ℕ)) (words : List (List ℕ)) (i : ℕ) (d : List ℕ) → i < length words → map (λ t. t.now) items ≡ take i words
    → All IsPlain (take i words) → items' ≡ items ++ text ∷ [] → text.now ≡ get_or words i d → IsPlain text.now → (map (λ t. t.now) items' ≡ take (i + 1) words) × All IsPlain (take (i + 1) words)
more_words items items' text words i d lt same plain pushed is word =
    let more = take_more words i d lt in (
      ap (map (λ t. t.now)) pushed ∙ map_push (λ t. t.now) items text ∙ ap₂ (λ xs y. xs ++ y ∷ []) same is ∙ sym more,
      subst (All IsPlain) (sym more) (All-push IsPlain (take i words) (get_or words i d) plain (subst IsPlain is word)),
    )
