-- A line that was read keeps the script so far sound.
use Rattle.std.proofs.Common.{◌≡◌, ◌≤◌, ℕ, Bool, true, false, List, [], ◌∷◌, Option, Some, None, Result, Ok, Err, IfOk, refl, sym, ap, subst, ◌∙◌, arith}
use Rattle.std.specs.Prelude.{◌==◌, if◌then◌else◌, slice_index}
use Rattle.std.specs.List.{list_all}
use Rattle.spin_word.specs.declared.work.Work.{Work}
use Rattle.spin_word.specs.declared.work.Work.TheVariants as work
use Rattle.spin_grammar.specs.declared.cause.Cause.TheVariants as cause
use Rattle.spin_grammar.specs.declared.fault.Fault.{Fault}
use Rattle.spin_grammar.specs.declared.kind.Kind.{Kind}
use Rattle.spin_grammar.specs.declared.line.Statement.{Statement}
use Rattle.spin_grammar.specs.declared.line.Statement.TheVariants as said
use Rattle.spin_grammar.specs.Tasks.{IsValidOn}
use Rattle.spin_grammar.specs.Lines.{LineMeaning, Stands, GivesLine, IsInRange, line_kind}
use Rattle.spin_grammar.specs.Words.{words}
use Rattle.spin_script.specs.Sections.{first_words, is_out_of_order}
use Rattle.spin_grammar.specs.Lookup.{look_up}
use Rattle.spin_script.specs.States.{NativeData, ScriptState}
use Rattle.spin_script.specs.Language.{Skipped, Says, is_allowed, version_of, first_head, kind_head, words_head, head}
use Rattle.spin_script.specs.Inner.Reader.{TakesSaid}
use Rattle.spin_script.specs.Soundness.{IsValidWork}
use Rattle.spin_script.specs.Inner.Sound.{IsSound}
use Rattle.spin_script.proofs.LineSoundness.{IsLineInRange, sound_after}

-- ---- ranges

valid_work : (lane : ℕ) (w : Work) → IsValidOn lane w → lane ≤ 7 → IsValidWork w
valid_work lane (work.Command c) valid there = valid (omega arith)
valid_work lane (work.Deed d) valid there = tt
valid_work lane (work.Packet e k) valid there = tt

line_in_range : (r : Statement) (l : LineMeaning) → IsInRange r → Stands r l → IsLineInRange l
line_in_range (said.Modules n) l range is = subst IsLineInRange (sym is) range
line_in_range (said.Event e owner sig o) l range is = subst IsLineInRange (sym is.1) range
line_in_range (said.Endpoint p name) l range is = subst IsLineInRange (sym is) tt
line_in_range (said.Handler h sig o) l range is = subst IsLineInRange (sym is.1) tt
line_in_range (said.NativeHandler h name) l range is = subst IsLineInRange (sym is) tt
line_in_range (said.Guard g sig o) l range is = subst IsLineInRange (sym is.1) tt
line_in_range (said.NativeGuard g name) l range is = subst IsLineInRange (sym is) tt
line_in_range (said.Rule e r) l range is = subst IsLineInRange (sym is) tt
line_in_range (said.Authoriser e name) l range is = subst IsLineInRange (sym is) tt
line_in_range (said.Default e h) l range is = subst IsLineInRange (sym is) tt
line_in_range (said.Lane lane w) l range is = subst IsLineInRange (sym is.1) (λ (there : lane ≤ 7). subst IsValidWork is.2 (valid_work lane w range there))
line_in_range said.Barrier l range is = subst IsLineInRange (sym is) tt
line_in_range (said.Retire p) l range is = subst IsLineInRange (sym is) tt

pub said_sound : {A : Type 0} (n : NativeData) (s : ScriptState) (number : ℕ) (k : Kind) (ws : List (List ℕ)) (what : Statement) (r : Result A Fault) (t : ScriptState)
    → GivesLine s.version k ws (Ok what) → IsInRange what → TakesSaid n s number what r t → is_out_of_order k s.section s.begins ≡ false
    → IsSound n s → IfOk r (λ _. IsSound n t)
said_sound n s number k ws what (Ok a) t gives range adds order x =
    let added = adds gives.0 gives.2 in
    let rises : is_out_of_order (line_kind gives.0) s.section s.begins ≡ false = ap (λ (j : Kind). is_out_of_order j s.section s.begins) gives.1.kind ∙ order in
    subst (λ (u : ScriptState). IsSound n u) (sym added.1) (sound_after n s number gives.0 (line_in_range what gives.0 range gives.2) rises added.0 x)
said_sound n s number k ws what (Err f) t gives range adds order x = tt

-- the first line names a version
pub begun_sound : (n : NativeData) (s : ScriptState) (version : ℕ) → IsSound n s → IsSound n (record s { version = version })
begun_sound n s version x = record { declared = x.declared; ordered = x.ordered; asked = x.asked }

-- ---- order

ordered_says : (j k : Kind) (b : Bool) (ws vs : List (List ℕ)) → (if b then Err cause.Order else Ok (Says j ws)) ≡ Ok (Says k vs) → (b ≡ false) × (j ≡ k)
ordered_says j k true ws vs e = cc
ordered_says j k false ws vs e = (refl, cc)

known_says : (s : ScriptState) (o : Option Kind) (k : Kind) (ws vs : List (List ℕ)) → kind_head s o ws ≡ Ok (Says k vs) → is_out_of_order k s.section s.begins ≡ false
known_says s None k ws vs e = cc
known_says s (Some j) k ws vs e =
    let says = ordered_says j k (is_out_of_order j s.section s.begins) ws vs e in
    ap (λ (i : Kind). is_out_of_order i s.section s.begins) (sym says.1) ∙ says.0

first_says : (o : Option ℕ) (k : Kind) (vs : List (List ℕ)) → first_head o ≡ Ok (Says k vs) → ⊥
first_says None k vs e = cc
first_says (Some version) k vs e = cc

words_say : (s : ScriptState) (skips begins : Bool) (o : Option ℕ) (j : Option Kind) (k : Kind) (ws vs : List (List ℕ))
    → (if skips then Ok Skipped else (if begins then first_head o else kind_head s j ws)) ≡ Ok (Says k vs) → is_out_of_order k s.section s.begins ≡ false
words_say s true begins o j k ws vs e = cc
words_say s false true o j k ws vs e = absurd (first_says o k vs e)
words_say s false false o j k ws vs e = known_says s j k ws vs e

line_says : (s : ScriptState) (allowed : Bool) (ws : List (List ℕ)) (k : Kind) (vs : List (List ℕ))
    → (if allowed then words_head s ws else Err cause.NotAscii) ≡ Ok (Says k vs) → is_out_of_order k s.section s.begins ≡ false
line_says s false ws k vs e = cc
line_says s true [] k vs e = cc
line_says s true (w ∷ ws) k vs e = words_say s (slice_index w 0 == 35) (s.version == 0) (version_of (w ∷ ws)) (look_up w first_words) k ws vs e

-- a line that says something stands in its section
pub head_in_order : (s : ScriptState) (line : List ℕ) (k : Kind) (ws : List (List ℕ)) → head s line ≡ Ok (Says k ws) → is_out_of_order k s.section s.begins ≡ false
unfolding head
head_in_order s line k ws e = line_says s (list_all is_allowed line) (words line) k ws e
