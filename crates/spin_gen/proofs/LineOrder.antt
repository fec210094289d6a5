-- Lines of the script that can stand behind one another.
use Rattle.std.proofs.Common.{◌≡◌, ◌<◌, ◌≤◌, ◌+◌, ℕ, suc, false, leb, List, [], ◌∷◌, ◌++◌, map, Ok, decimal, codes, refl, sym, ap, subst, arith}
use Rattle.std.proofs.lemmas.Bool.{le-leb, le-ltb}
use Rattle.std.proofs.lemmas.Bool.Decides.{nat_tests}
use Rattle.spin_values.specs.declared.values.Value.TheVariants.{Word}
use Rattle.spin_word.specs.declared.command.Place.{Place}
use Rattle.spin_word.specs.declared.command.Place.TheVariants as place
use Rattle.spin_word.specs.declared.command.Mode.TheVariants as mode
use Rattle.spin_word.specs.declared.work.Work.{Work}
use Rattle.spin_grammar.specs.declared.kind.Kind.TheVariants as kind
use Rattle.spin_grammar.specs.Spelling.{greatest}
use Rattle.spin_grammar.specs.Grammar as want
use Rattle.spin_grammar.specs.Grammar.{Atom, Fixed, Numeral, Want, Reading, accepts, reads, then_read}
use Rattle.spin_grammar.specs.Canonical.{spell}
use Rattle.spin_grammar.specs.Forms as task
use Rattle.spin_grammar.specs.Forms.{Task, place_word}
use Rattle.spin_grammar.specs.Tasks.{work_of}
use Rattle.spin_grammar.specs.Lines.{LineMeaning, Lane, Barrier, form}
use Rattle.spin_grammar.proofs.CanonicalSpelling.{number_back, no_bytes}
use Rattle.spin_script.specs.States.{ScriptState, NativeData, after, command_count, deed_count}
use Rattle.spin_script.specs.Checks.{is_work_full}
use Rattle.spin_script.specs.RoundTrip.{CanBeSaid, Fits}
use Rattle.spin_gen.specs.Drafts.{install_line, raise_line, packet_line}

-- ---- words that are read

-- one word is accepted, and the others are read behind it
reads_step : (w : Want) (word : List ℕ) (a : Atom) (next wants : List Want) (ws : List (List ℕ)) (atoms : List Atom)
    → accepts w word ≡ Ok (a, next) → reads (next ++ wants) ws ≡ Ok atoms → reads (w ∷ wants) (word ∷ ws) ≡ Ok (a ∷ atoms)
unfolding reads
reads_step w word a next wants ws atoms e f = rw (e, reads) (ap (λ (r : Reading). then_read (a ∷ []) r) f)

accepts_number : (low high n : ℕ) → n ≤ greatest → low ≤ n → n ≤ high → accepts (want.Number low high) (decimal n) ≡ Ok (Numeral n, [])
unfolding accepts
accepts_number low high n small above below = rw (number_back n small) (rw (le-leb low n above, le-leb n high below) refl)

reads_number : (low high n : ℕ) (wants : List Want) (ws : List (List ℕ)) (atoms : List Atom) → high ≤ greatest → low ≤ n
    → n ≤ high → reads wants ws ≡ Ok atoms → reads (want.Number low high ∷ wants) (decimal n ∷ ws) ≡ Ok (Numeral n ∷ atoms)
reads_number low high n wants ws atoms small above below rest =
    reads_step (want.Number low high) (decimal n) (Numeral n) [] wants ws atoms (accepts_number low high n (omega (arith, small, below)) above below) rest

reads_nothing : reads [] [] ≡ Ok []
unfolding reads
reads_nothing = refl

accepts_install : accepts (want.Deed 1) (codes "install") ≡ Ok (Fixed (codes "install"), want.Number 0 63 ∷ want.Number 0 255 ∷ want.Number 0 1023 ∷ want.Number 0 1023 ∷ want.Spot ∷ want.Mode ∷ [])
unfolding accepts
accepts_install = refl

accepts_raise : accepts (want.Deed 1) (codes "raise") ≡ Ok (Fixed (codes "raise"), want.Number 0 63 ∷ want.Values 8 ∷ [])
unfolding accepts
accepts_raise = refl

accepts_packet : accepts (want.Deed 1) (codes "packet") ≡ Ok (Fixed (codes "packet"), want.Number 0 63 ∷ want.Number 1 65536 ∷ [])
unfolding accepts
accepts_packet = refl

accepts_spot : (p : Place) → accepts want.Spot (place_word p) ≡ Ok (Fixed (place_word p), [])
unfolding accepts
accepts_spot place.Free = refl
accepts_spot place.First = refl
accepts_spot place.Last = refl

accepts_plain : accepts want.Mode (codes "plain") ≡ Ok (Fixed (codes "plain"), [])
unfolding accepts
accepts_plain = refl

accepts_value : (k n : ℕ) → n ≤ greatest → accepts (want.Values (suc k)) (decimal n) ≡ Ok (Numeral n, want.Values k ∷ [])
unfolding accepts
accepts_value k n small = rw (no_bytes n small, number_back n small) (rw (le-leb 0 n (omega arith), le-leb n greatest small) refl)

reads_end : (k : ℕ) → reads (want.Values k ∷ []) [] ≡ Ok []
unfolding reads
reads_end k = refl

-- ---- lines that are said

install_said : (lane event handler guard : ℕ) (p : Place) → lane ≤ 255 → event ≤ 63 → handler ≤ 1023 → guard ≤ 1023 → CanBeSaid 1 (install_line lane event handler guard p)
install_said lane event handler guard p l e h g = (
  map spell (form (install_line lane event handler guard p)),
  record {
    kind = refl;
    words = reads_number 0 255 lane _ _ _ (omega arith) (omega arith) l
        (reads_step (want.Deed 1) (codes "install") (Fixed (codes "install")) _ [] _ _ accepts_install
        (reads_number 0 63 event _ _ _ (omega arith) (omega arith) e
        (reads_number 0 255 0 _ _ _ (omega arith) (omega arith) (omega arith)
        (reads_number 0 1023 handler _ _ _ (omega arith) (omega arith) h
        (reads_number 0 1023 guard _ _ _ (omega arith) (omega arith) g
        (reads_step want.Spot (place_word p) (Fixed (place_word p)) [] _ _ _ (accepts_spot p)
        (reads_step want.Mode (codes "plain") (Fixed (codes "plain")) [] [] [] [] accepts_plain reads_nothing)))))));
  },
)

raise_said : (lane value : ℕ) → lane ≤ 63 → value ≤ greatest → CanBeSaid 1 (raise_line lane value)
raise_said lane value l v = (
  map spell (form (raise_line lane value)),
  record {
    kind = refl;
    words = reads_number 0 255 lane _ _ _ (omega arith) (omega arith) (omega (arith, l))
        (reads_step (want.Deed 1) (codes "raise") (Fixed (codes "raise")) _ [] _ _ accepts_raise
        (reads_number 0 63 lane _ _ _ (omega arith) (omega arith) l
        (reads_step (want.Values 8) (decimal value) (Numeral value) _ [] [] [] (accepts_value 7 value v) (reads_end 7))));
  },
)

packet_said : (lane : ℕ) → lane ≤ 255 → CanBeSaid 1 (packet_line lane)
packet_said lane l = (
  map spell (form (packet_line lane)),
  record {
    kind = refl;
    words = reads_number 0 255 lane _ _ _ (omega arith) (omega arith) l
        (reads_step (want.Deed 1) (codes "packet") (Fixed (codes "packet")) _ [] _ _ accepts_packet
        (reads_number 0 63 8 _ _ _ (omega arith) (omega arith) (omega arith)
        (reads_number 1 65536 125 [] [] [] (omega arith) (omega arith) (omega arith) reads_nothing)));
  },
)

barrier_said : CanBeSaid 1 Barrier
barrier_said = ([], record { kind = refl; words = reads_nothing })

-- ---- lines that fit

-- the script so far: at most so many commands and deeds, and just the endpoint `out0`
pub record Open (s : ScriptState) (commands deeds : ℕ) : Type 0 where
  pub version : s.version ≡ 1
  pub section : s.section ≤ 8
  pub few : s.commands ≤ commands
  pub short : s.deeds ≤ deeds
  pub endpoints : s.endpoints ≡ codes "out0" ∷ []

not_full : (version commands deeds : ℕ) (w : Work) → version ≡ 1 → commands + command_count w ≤ 1000 → deeds + deed_count w ≤ 65536 → is_work_full version commands deeds w ≡ false
not_full version commands deeds w v few short =
    rw v (rw (le-ltb 1000 (commands + command_count w) few, le-ltb 65536 (deeds + deed_count w) short) refl)

no_lane : (lane : ℕ) → lane < 8 → leb 8 lane ≡ false
no_lane lane below = grind (arith, nat_tests)

lane_fits : (n : NativeData) (s : ScriptState) (lane : ℕ) (t : Task) (c d : ℕ) → Open s c d → CanBeSaid 1 (Lane lane t)
    → lane < 8 → c + command_count (work_of lane t) ≤ 1000 → d + deed_count (work_of lane t) ≤ 65536 → Fits n s (Lane lane t)
lane_fits n s lane t c d o said among few short = record {
  said = subst (λ (v : ℕ). CanBeSaid v (Lane lane t)) (sym o.version) said;
  order = rw (le-ltb 8 s.section o.section) refl;
  good = rw (not_full s.version s.commands s.deeds (work_of lane t) o.version (omega (arith, o.few, few)) (omega (arith, o.short, short)), no_lane lane among) refl;
}

lane_after : (n : NativeData) (s : ScriptState) (k lane : ℕ) (t : Task) (c d : ℕ) → Open s c d → Open (after n s k (Lane lane t)) (c + command_count (work_of lane t)) (d + deed_count (work_of lane t))
lane_after n s k lane t c d o = record {
  version = o.version;
  section = omega arith;
  few = omega (arith, o.few);
  short = omega (arith, o.short);
  endpoints = o.endpoints;
}

-- the line can stand there, and leaves the script so
abbrev pub Goes : NativeData → ScriptState → ℕ → LineMeaning → (commands deeds : ℕ) → Type 0
Goes n s k l commands deeds = Fits n s l × Open (after n s k l) commands deeds

pub barrier_goes : (n : NativeData) (s : ScriptState) (k c d : ℕ) → Open s c d → Goes n s k Barrier (c + 0) (d + 125)
barrier_goes n s k c d o = (
  record {
    said = subst (λ (v : ℕ). CanBeSaid v Barrier) (sym o.version) barrier_said;
    order = rw (le-ltb 8 s.section o.section) refl;
    good = refl;
  },
  record {
    version = o.version;
    section = omega arith;
    few = omega (arith, o.few);
    short = omega (arith, o.short);
    endpoints = o.endpoints;
  },
)

pub install_goes : (n : NativeData) (s : ScriptState) (k lane handler guard : ℕ) (p : Place) (c d : ℕ) → Open s c d → lane < 8
    → handler ≤ 1023 → guard ≤ 1023 → c + 1 ≤ 1000 → d + 1 ≤ 65536 → Goes n s k (install_line lane lane handler guard p) (c + 1) (d + 1)
install_goes n s k lane handler guard p c d o among h g few short =
    let t : Task = task.Install lane 0 handler guard (task.At p) mode.Plain in
    (lane_fits n s lane t c d o (install_said lane lane handler guard p (omega arith) (omega arith) h g) among few short, lane_after n s k lane t c d o)

pub raise_goes : (n : NativeData) (s : ScriptState) (k lane value c d : ℕ) → Open s c d → lane < 8
    → value ≤ greatest → c + 0 ≤ 1000 → d + 1 ≤ 65536 → Goes n s k (raise_line lane value) (c + 0) (d + 1)
raise_goes n s k lane value c d o among v few short =
    let t : Task = task.Raise lane (Word value ∷ []) in
    (lane_fits n s lane t c d o (raise_said lane value (omega arith) v) among few short, lane_after n s k lane t c d o)

pub packet_goes : (n : NativeData) (s : ScriptState) (k lane c d : ℕ) → Open s c d → lane < 8 → c + 0 ≤ 1000 → d + 125 ≤ 65536 → Goes n s k (packet_line lane) (c + 0) (d + 125)
packet_goes n s k lane c d o among few short =
    let t : Task = task.Packet 8 125 in
    (lane_fits n s lane t c d o (packet_said lane (omega arith)) among few short, lane_after n s k lane t c d o)
