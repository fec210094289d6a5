-- All lines of the script, one behind another.
use Rattle.std.proofs.Common.{◌≡◌, ◌∙◌, ◌<◌, ◌≤◌, ◌+◌, ◌*◌, ◌%◌, ◌⊎◌, inl, inr, ℕ, zero, suc, Bool, true, false, eqb, List, [], ◌∷◌, ◌++◌, length, map, Ok, None, codes, refl, sym, ap, subst, arith}
use Rattle.std.specs.Prelude.{if◌then◌else◌}
use Rattle.std.specs.Fmt.{digits}
use Rattle.std.specs.List.{flat_map, range_with_len}
use Rattle.std.proofs.Math.Nat.{le_refl}
use Rattle.std.proofs.lemmas.List.{length-append, append_assoc}
use Rattle.std.proofs.lemmas.List.Concat.{flat_map-append}
use Rattle.std.proofs.lemmas.Fmt.{length-decimal-le}
use Rattle.spin_values.specs.First.{first_of}
use Rattle.spin_word.specs.declared.command.Place.{Place}
use Rattle.spin_word.specs.declared.command.Place.TheVariants as place
use Rattle.spin_grammar.specs.Spelling.{number, signature, guard_signature}
use Rattle.spin_grammar.specs.Grammar.{accepts, reads}
use Rattle.spin_grammar.specs.Canonical.{spell}
use Rattle.spin_grammar.specs.Forms.{place_word}
use Rattle.spin_grammar.specs.Lines.{LineMeaning, Barrier, line_kind, form, wanted}
use Rattle.spin_script.specs.States.{ScriptState, NativeData, start, after}
use Rattle.spin_script.specs.Sections.{is_out_of_order}
use Rattle.spin_script.specs.Checks.{checks}
use Rattle.spin_script.specs.Canonical.{line_text, text_of_lines, version_text}
use Rattle.spin_script.specs.RoundTrip.{Fits, LeadTo}
use Rattle.spin_gen.specs.Numbers.{answer, state_after, drawn}
use Rattle.spin_gen.specs.Drafts.{Draft, Stated, Install, Raise, draws_of, drawn_place, line_of, lines_of, install_line, raise_line}
use Rattle.spin_gen.specs.Drafts.{packet_line, lane_draft, lane_drafts, segment_drafts, segments_drafts, packet_lines, head_lines, drafts}
use Rattle.spin_gen.proofs.LineOrder.{Open, Goes, install_goes, raise_goes, packet_goes, barrier_goes}
use Rattle.spin_gen.proofs.ScriptText.{lines_joined, stated_lines, stated_state}

-- ---- lines that lead from one state to another

-- the state behind the lines, of which the first has that number
abbrev final : NativeData → ScriptState → ℕ → List LineMeaning → ScriptState
final n s k [] = s
final n s k (l ∷ ls) = final n (after n s k l) (k + 1) ls

-- each can stand behind those before it
abbrev AllFit : NativeData → ScriptState → ℕ → List LineMeaning → Type 0
AllFit n s k [] = Unit {0}
AllFit n s k (l ∷ ls) = Fits n s l × AllFit n (after n s k l) (k + 1) ls

lead : (n : NativeData) (s : ScriptState) (k : ℕ) (ls : List LineMeaning) → AllFit n s k ls → LeadTo n s k ls (final n s k ls)
lead n s k [] h = refl
lead n s k (l ∷ ls) h = (h.0, lead n (after n s k l) (k + 1) ls h.1)

lead_on : (n : NativeData) (s : ScriptState) (k m : ℕ) (a b : List LineMeaning) (t u : ScriptState) → k + length a ≡ m → LeadTo n s k a t → LeadTo n t m b u → LeadTo n s k (a ++ b) u
lead_on n s k m [] b t u number first second =
    let same : m ≡ k = omega arith in
    subst (λ (j : ℕ). LeadTo n s j b u) same (subst (λ (x : ScriptState). LeadTo n x m b u) first second)
lead_on n s k m (l ∷ a) b t u number first second =
    (first.0, lead_on n (after n s k l) (k + 1) m a b t u (omega arith) first.1 second)

-- ---- what is said before anything is drawn

fits : {n : NativeData} {s : ScriptState} {l : LineMeaning} → reads (wanted s.version (line_kind l)) (map spell (form l)) ≡ Ok (form l)
    → is_out_of_order (line_kind l) s.section s.begins ≡ false → first_of (checks n s l) ≡ None → Fits n s l
fits {n} {s} {l} words order good = record {
  said = (map spell (form l), record { kind = refl; words = words });
  order = order;
  good = good;
}

-- the script of version 1, of which nothing was read yet
abbrev begun : ScriptState
begun = record start { version = 1 }

head_fits : (n : NativeData) → AllFit n begun 2 head_lines
unfolding head_lines reads accepts number signature guard_signature digits
head_fits n = (
  fits refl refl refl,
  (
    fits refl refl refl,
    (
      fits refl refl refl,
      (
        fits refl refl refl,
        (
          fits refl refl refl,
          (
            fits refl refl refl,
            (
              fits refl refl refl,
              (
                fits refl refl refl,
                (
                  fits refl refl refl,
                  (
                    fits refl refl refl,
                    (
                      fits refl refl refl,
                      (
                        fits refl refl refl,
                        (
                          fits refl refl refl,
                          (
                            fits refl refl refl,
                            (
                              fits refl refl refl,
                              (
                                fits refl refl refl,
                                (
                                  fits refl refl refl,
                                  (
                                    fits refl refl refl,
                                    (
                                      fits refl refl refl,
                                      (
                                        fits refl refl refl,
                                        (
                                          fits refl refl refl,
                                          (
                                            fits refl refl refl,
                                            (
                                              fits refl refl
                                                  refl,
                                              (
                                                fits refl refl refl,
                                                (fits refl refl refl, (fits refl refl refl, (fits refl refl refl, (fits refl refl refl, (fits refl refl refl, (fits refl refl refl, tt)))))),
                                              ),
                                            ),
                                          ),
                                        ),
                                      ),
                                    ),
                                  ),
                                ),
                              ),
                            ),
                          ),
                        ),
                      ),
                    ),
                  ),
                ),
              ),
            ),
          ),
        ),
      ),
    ),
  ),
)

head_open : (n : NativeData) → Open (final n begun 2 head_lines) 3 3
unfolding head_lines
head_open n = record { version = refl; section = le_refl 8; few = le_refl 3; short = le_refl 3; endpoints = refl }

head_count : length head_lines ≡ 30
unfolding head_lines
head_count = refl

-- ---- drawn lines

-- a barrier, a line of packets, or a line of a lane for which is drawn
abbrev IsLate : LineMeaning → Type 0
IsLate l = (l ≡ Barrier) ⊎ ((lane : ℕ) × (lane < 8) × (l ≡ packet_line lane))

abbrev IsDrawn : Draft → Type 0
IsDrawn (Stated l) = IsLate l
IsDrawn (Install lane) = lane < 8
IsDrawn (Raise lane) = lane < 8

-- at most so many commands, deeds and bytes
abbrev commands_of : Draft → ℕ
commands_of (Stated l) = 0
commands_of (Install lane) = 1
commands_of (Raise lane) = 0

abbrev deeds_of : Draft → ℕ
deeds_of (Stated l) = 125
deeds_of (Install lane) = 1
deeds_of (Raise lane) = 1

abbrev width_of : Draft → ℕ
width_of (Stated l) = 30
width_of (Install lane) = 50
width_of (Raise lane) = 30

abbrev total : (Draft → ℕ) → List Draft → ℕ
total f [] = 0
total f (d ∷ ds) = f d + total f ds

total_joined : (f : Draft → ℕ) (a b : List Draft) → total f (a ++ b) ≡ total f a + total f b
total_joined f [] b = omega arith
total_joined f (d ∷ a) b = omega (arith, total_joined f a b)

abbrev AllDrawn : List Draft → Type 0
AllDrawn [] = Unit {0}
AllDrawn (d ∷ ds) = IsDrawn d × AllDrawn ds

drawn_joined : (a b : List Draft) → AllDrawn a → AllDrawn b → AllDrawn (a ++ b)
drawn_joined [] b h k = k
drawn_joined (d ∷ a) b h k = (h.0, drawn_joined a b h.1 k)

below : (range y : ℕ) → 0 < range → answer range y < range
unfolding answer
below range y some = omega arith

late_goes : (n : NativeData) (s : ScriptState) (k c d : ℕ) (l : LineMeaning) → Open s c d → IsLate l → c + 0 ≤ 1000 → d + 125 ≤ 65536 → Goes n s k l (c + 0) (d + 125)
late_goes n s k c d l o (inl is) few short =
    subst (λ (x : LineMeaning). Goes n s k x (c + 0) (d + 125)) (sym is) (barrier_goes n s k c d o)
late_goes n s k c d l o (inr h) few short =
    subst (λ (x : LineMeaning). Goes n s k x (c + 0) (d + 125)) (sym h.2) (packet_goes n s k h.0 c d o h.1 few short)

draft_goes : (n : NativeData) (s : ScriptState) (k c d x : ℕ) (e : Draft) → Open s c d → IsDrawn e
    → c + commands_of e ≤ 1000 → d + deeds_of e ≤ 65536 → Goes n s k (line_of x e) (c + commands_of e) (d + deeds_of e)
draft_goes n s k c d x (Stated l) o h few short = late_goes n s k c d l o h few short
draft_goes n s k c d x (Install lane) o h few short =
    let handler = below 4 (state_after (1 + 1) x) (omega arith) in
    let guard = below 5 (state_after (2 + 1) x) (omega arith) in
    install_goes n s k lane (1 + drawn 4 1 x) (drawn 5 2 x) (drawn_place (drawn 3 0 x)) c d o h (omega (arith, handler)) (omega (arith, guard)) few short
draft_goes n s k c d x (Raise lane) o h few short =
    let value = below 65536 (state_after (0 + 1) x) (omega arith) in
    raise_goes n s k lane (drawn 65536 0 x) c d o h (omega (arith, value)) few short

drafts_go : (n : NativeData) (s : ScriptState) (k c d x : ℕ) (ds : List Draft) → Open s c d → AllDrawn ds → c + total commands_of ds ≤ 1000
    → d + total deeds_of ds ≤ 65536 → (t : ScriptState) × LeadTo n s k (lines_of x ds) t × (t.version ≡ 1) × (t.endpoints ≡ codes "out0" ∷ [])
unfolding lines_of
drafts_go n s k c d x [] o h few short = (s, refl, o.version, o.endpoints)
drafts_go n s k c d x (e ∷ ds) o h few short =
    let one = draft_goes n s k c d x e o h.0 (omega (arith, few)) (omega (arith, short)) in
    let rest = drafts_go n (after n s k (line_of x e)) (k + 1) (c + commands_of e) (d + deeds_of e) (state_after (draws_of e) x) ds one.1 h.1 (omega (arith, few)) (omega (arith, short)) in
    (rest.0, (one.0, rest.1), rest.2, rest.3)

-- ---- how much there is

lane_drawn : (lane : ℕ) (js : List ℕ) → lane < 8 → AllDrawn (map (lane_draft lane) js)
lane_drawn lane [] among = tt
lane_drawn lane (j ∷ js) among = (go (eqb (j % 20) 0), lane_drawn lane js among)
  where
    go : (b : Bool) → IsDrawn (if b then Install lane else Raise lane)
    go true = among
    go false = among

lane_all : (count lane : ℕ) → lane < 8 → AllDrawn (lane_drafts count lane)
unfolding lane_drafts
lane_all count lane among = lane_drawn lane (range_with_len 0 count) among

lanes_all : (a m : ℕ) → a + m ≤ 8 → AllDrawn (flat_map (lane_drafts 500) (range_with_len a m))
lanes_all a zero le = tt
lanes_all a (suc m) le =
    drawn_joined (lane_drafts 500 a) (flat_map (lane_drafts 500) (range_with_len (a + 1) m)) (lane_all 500 a (omega (arith, le))) (lanes_all (a + 1) m (omega (arith, le)))

segment_all : (m : ℕ) → m ≤ 8 → AllDrawn (segment_drafts m)
unfolding segment_drafts
segment_all m le = lanes_all 0 m (omega (arith, le))

segments_all : (m : ℕ) → AllDrawn (segments_drafts m)
unfolding segments_drafts
segments_all zero = tt
segments_all (suc m) =
    drawn_joined (segments_drafts m) (Stated Barrier ∷ segment_drafts 8) (segments_all m) (inl refl, segment_all 8 (le_refl 8))

some_packets : (a m : ℕ) → a + m ≤ 8 → AllDrawn (map Stated (map packet_line (range_with_len a m)))
some_packets a zero le = tt
some_packets a (suc m) le = (inr (a, omega (arith, le), refl), some_packets (a + 1) m (omega (arith, le)))

packets_all : (m : ℕ) → m ≤ 8 → AllDrawn (map Stated (packet_lines m))
unfolding packet_lines
packets_all m le = some_packets 0 m (omega (arith, le))

-- behind the head
abbrev tail : List Draft
tail = segments_drafts 4 ++ (Stated Barrier ∷ map Stated (packet_lines 8))

tail_drawn : AllDrawn tail
tail_drawn = drawn_joined (segments_drafts 4) (Stated Barrier ∷ map Stated (packet_lines 8)) (segments_all 4) (inl refl, packets_all 8 (le_refl 8))

-- the total of a lane in a segment
record EachLane (f : Draft → ℕ) (each : ℕ) : Type 0 where
  is : (lane : ℕ) → total f (lane_drafts 500 lane) ≡ each

segment_total : (f : Draft → ℕ) (each : ℕ) → EachLane f each → total f (segment_drafts 8) ≡ 8 * each
unfolding segment_drafts
segment_total f each h =
    simp (total_joined f) (omega (arith, h.is 0, h.is 1, h.is 2, h.is 3, h.is 4, h.is 5, h.is 6, h.is 7))

segments_total : (f : Draft → ℕ) (each : ℕ) → EachLane f each → total f (segments_drafts 4) ≡ 4 * (f (Stated Barrier) + 8 * each)
unfolding segments_drafts
segments_total f each h = simp (total_joined f) (omega (arith, segment_total f each h))

lane_commands : EachLane commands_of 25
unfolding lane_drafts
lane_commands = record { is = λ lane. refl }

lane_deeds : EachLane deeds_of 500
unfolding lane_drafts
lane_deeds = record { is = λ lane. refl }

lane_width : EachLane width_of 15500
unfolding lane_drafts
lane_width = record { is = λ lane. refl }

last_total : (f : Draft → ℕ) → ((l m : LineMeaning) → f (Stated l) ≡ f (Stated m)) → total f (map Stated (packet_lines 8)) ≡ 8 * f (Stated Barrier)
unfolding packet_lines
last_total f same =
    let e = λ (k : ℕ). same (packet_line k) Barrier in
    omega (arith, e 0, e 1, e 2, e 3, e 4, e 5, e 6, e 7)

tail_total : (f : Draft → ℕ) (each : ℕ) → ((l m : LineMeaning) → f (Stated l) ≡ f (Stated m)) → EachLane f each → total f tail ≡ 4 * (f (Stated Barrier) + 8 * each) + 9 * f (Stated Barrier)
tail_total f each same h =
    total_joined f (segments_drafts 4) (Stated Barrier ∷ map Stated (packet_lines 8))
    ∙ omega (arith, segments_total f each h, last_total f same)

pub tail_commands : total commands_of tail ≡ 800
tail_commands = tail_total commands_of 25 (λ l m. refl) lane_commands

pub tail_deeds : total deeds_of tail ≡ 17625
tail_deeds = tail_total deeds_of 500 (λ l m. refl) lane_deeds

pub tail_width : total width_of tail ≡ 496390
tail_width = tail_total width_of 15500 (λ l m. refl) lane_width

-- ---- how long the text is

place_width : (p : Place) → length (place_word p) ≤ 5
place_width place.Free = omega arith
place_width place.First = omega arith
place_width place.Last = omega arith

install_width : (lane handler guard : ℕ) (p : Place) → lane < 8 → handler < 10 → guard < 10 → length (line_text (install_line lane lane handler guard p)) ≤ 50
install_width lane handler guard p l h g =
    let a = length-decimal-le 1 lane (omega arith) (omega (arith, l)) (omega (arith, l)) in
    let b = length-decimal-le 1 handler (omega arith) (omega (arith, h)) (omega (arith, h)) in
    let c = length-decimal-le 1 guard (omega arith) (omega (arith, g)) (omega (arith, g)) in
    let z = length-decimal-le 1 0 (omega arith) (omega arith) (omega arith) in
    let w = place_width p in
    simp length-append (omega arith)

raise_width : (lane value : ℕ) → lane < 8 → value < 65536 → length (line_text (raise_line lane value)) ≤ 30
raise_width lane value l v =
    let a = length-decimal-le 1 lane (omega arith) (omega (arith, l)) (omega (arith, l)) in
    let b = length-decimal-le 5 value (omega arith) (omega (arith, v)) (omega (arith, v)) in
    simp length-append (omega arith)

packet_width : (lane : ℕ) → lane < 8 → length (line_text (packet_line lane)) ≤ 30
packet_width lane l =
    let a = length-decimal-le 1 lane (omega arith) (omega (arith, l)) (omega (arith, l)) in
    let b = length-decimal-le 1 8 (omega arith) (omega arith) (omega arith) in
    let c = length-decimal-le 3 125 (omega arith) (omega arith) (omega arith) in
    simp length-append (omega arith)

late_width : (l : LineMeaning) → IsLate l → length (line_text l) ≤ 30
late_width l (inl is) = subst (λ (x : LineMeaning). length (line_text x) ≤ 30) (sym is) (omega arith)
late_width l (inr h) = subst (λ (x : LineMeaning). length (line_text x) ≤ 30) (sym h.2) (packet_width h.0 h.1)

draft_width : (x : ℕ) (e : Draft) → IsDrawn e → length (line_text (line_of x e)) ≤ width_of e
draft_width x (Stated l) h = late_width l h
draft_width x (Install lane) h =
    let handler = below 4 (state_after (1 + 1) x) (omega arith) in
    let guard = below 5 (state_after (2 + 1) x) (omega arith) in
    install_width lane (1 + drawn 4 1 x) (drawn 5 2 x) (drawn_place (drawn 3 0 x)) h (omega (arith, handler)) (omega (arith, guard))
draft_width x (Raise lane) h = raise_width lane (drawn 65536 0 x) h (below 65536 (state_after (0 + 1) x) (omega arith))

drafts_width : (x : ℕ) (ds : List Draft) → AllDrawn ds → length (text_of_lines (lines_of x ds)) ≤ total width_of ds
unfolding lines_of
drafts_width x [] h = omega arith
drafts_width x (e ∷ ds) h =
    let one = draft_width x e h.0 in
    let others = drafts_width (state_after (draws_of e) x) ds h.1 in
    omega (arith, length-append (line_text (line_of x e)) (text_of_lines (lines_of (state_after (draws_of e) x) ds)), one, others)

head_width : length (version_text 1 ++ text_of_lines head_lines) ≤ 1000
unfolding head_lines digits
head_width = omega arith

-- ---- the whole

-- what the script says behind its first line
pub lines_from : ℕ → List LineMeaning
lines_from number = head_lines ++ lines_of number tail

pub lines_are : (number : ℕ) → lines_of number drafts ≡ lines_from number
unfolding drafts lines_from
lines_are number =
    lines_joined number (map Stated head_lines) tail
    ∙ (λ i. stated_lines number head_lines i ++ lines_of (stated_state number head_lines i) tail)

pub all_go : (n : NativeData) (number : ℕ) → (t : ScriptState) × LeadTo n begun 2 (lines_from number) t × (t.version ≡ 1) × (t.endpoints ≡ codes "out0" ∷ [])
unfolding lines_from
all_go n number =
    let front = final n begun 2 head_lines in
    let go = drafts_go n front 32 3 3 number tail (head_open n) tail_drawn (omega (arith, tail_commands)) (omega (arith, tail_deeds)) in
    (go.0, lead_on n begun 2 32 head_lines (lines_of number tail) front go.0 (omega (arith, head_count)) (lead n begun 2 head_lines (head_fits n)) go.1, go.2, go.3)

pub all_width : (number : ℕ) → length (version_text 1 ++ text_of_lines (lines_from number)) < 700000
unfolding lines_from
all_width number =
    let joined : version_text 1 ++ text_of_lines (lines_from number) ≡ version_text 1 ++ text_of_lines head_lines ++ text_of_lines (lines_of number tail) =
    ap (λ (t : List ℕ). version_text 1 ++ t) (flat_map-append line_text head_lines (lines_of number tail))
    ∙ sym (append_assoc (version_text 1) (text_of_lines head_lines) (text_of_lines (lines_of number tail))) in
    omega (arith, ap length joined, length-append (version_text 1 ++ text_of_lines head_lines) (text_of_lines (lines_of number tail)), head_width, drafts_width number tail tail_drawn, tail_width)
