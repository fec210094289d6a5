-- Texts that are written one after another.
use Rattle.std.proofs.Common.{decimal, drop_of_length-le, Result, Ok, Err, suc, drop-cons, add-one, slice_index_or, ◌≡◌, ◌<◌, ◌≤◌, ◌+◌, ℕ, Option}
use Rattle.std.proofs.Common.{Some, None, List, [], ◌∷◌, ◌++◌, map, length, take, drop, length-drop, refl, sym, ap, subst, ◌∙◌, arith, append_assoc}
use Rattle.std.proofs.lemmas.List.{append-nil, length-append, take-append-drop, map-append}
use Rattle.std.proofs.lemmas.List.Concat.{flat_map-append}
use Rattle.std.specs.Io.KnownBytes.{Appends}
use Rattle.spin_outside.specs.Counts.{Rose}
use Rattle.spin_outside.specs.Seen.{SinkSeen}
use Rattle.spin_text.specs.Words.{line_of, ended, text_of}
use Rattle.spin_word.specs.declared.work.Deed.{Deed}
use Rattle.spin_proto.specs.declared.reply.Reply.{Reply}
use Rattle.spin_vm.specs.declared.line.TraceLine.{TraceLine}
use Rattle.spin_vm.specs.declared.came.Came.{Came}
use Rattle.spin_vm.specs.declared.writing.Stop.{Stop}
use Rattle.spin_vm.specs.declared.writing.Stop.TheVariants as stop
use Rattle.spin_vm.specs.Spaces.{Space, answered_if, said_came, spaces_after, answers, last_spaces, mapped_pages}
use Rattle.spin_vm.specs.Output.{came_words, answered_line, first_line, end_line, output}
use Rattle.spin_vm.specs.Ends.{WritesFront}
use Rattle.spin_vm.specs.Inner.Lines.{text_if, text_behind, Stops, StopsWithin, Wrote, WroteWithin}

pub Appends-none : (a : Option (List ℕ)) → Appends a a []
Appends-none None = tt
Appends-none (Some a) = sym (append-nil a)

pub Appends-append : (a b c : Option (List ℕ)) (xs ys : List ℕ) → Appends a b xs → Appends b c ys → Appends a c (xs ++ ys)
Appends-append None b c xs ys h k = tt
Appends-append (Some a) None c xs ys h k = absurd h
Appends-append (Some a) (Some b) None xs ys h k = absurd k
Appends-append (Some a) (Some b) (Some c) xs ys h k = k ∙ ap (λ zs. zs ++ ys) h ∙ append_assoc a xs ys

-- a line's answer stands before those of the lines behind it
pub text_more : (reply : Deed → Reply) (spaces : List Space) (line : TraceLine) (lines : List TraceLine)
    → text_behind reply spaces (line ∷ lines) ≡ text_if line (said_came reply spaces line.said) ++ text_behind reply (spaces_after reply spaces line.said) lines
text_more reply spaces line lines =
    let first = answered_if line (said_came reply spaces line.said) in
    let next = spaces_after reply spaces line.said in
    let others = answers reply next lines in
    let last = end_line (mapped_pages (last_spaces reply next lines)) ∷ [] in
    ap (λ xs. text_of (xs ++ last)) (map-append answered_line first others)
    ∙ ap text_of (append_assoc (map answered_line first) (map answered_line others) last)
    ∙ flat_map-append ended (map answered_line first) (map answered_line others ++ last)

-- the first line stands before all
pub output_is : (reply : Deed → Reply) (trace : List TraceLine) → output reply trace ≡ ended first_line ++ text_behind reply [] trace
output_is reply trace = refl

-- a front of a text that is written, by what was written of it
pub front_of : (before after : SinkSeen) (text : List ℕ) (n : ℕ) → n < length text → Appends before.told after.told (take n text) → WritesFront before after text
front_of before after text n lt told =
    let split = take-append-drop n text in
    (take n text, drop n text, sym split, omega (arith, lt, length-drop n text), told)

-- a front of a text, behind another that was written whole
pub front_behind : (a b c : SinkSeen) (xs ys : List ℕ) → Appends a.told b.told xs → WritesFront b c ys → WritesFront a c (xs ++ ys)
front_behind a b c xs ys before (front, behind, is, some, now) =
    (xs ++ front, behind, ap (λ zs. xs ++ zs) is ∙ sym (append_assoc xs front behind), some, Appends-append a.told b.told c.told xs front before now)

-- a front of a text is one of a longer text
pub front_before : (a b : SinkSeen) (xs ys : List ℕ) → WritesFront a b xs → WritesFront a b (xs ++ ys)
front_before a b xs ys (front, behind, is, some, now) =
    (front, behind ++ ys, ap (λ zs. zs ++ ys) is ∙ append_assoc front behind ys, omega (arith, some, length-append behind ys), now)

-- nothing of a text was written
pub front_none : (a b : SinkSeen) (xs : List ℕ) → 0 < length xs → b ≡ a → WritesFront a b xs
front_none a b xs some e = ([], xs, refl, some, subst (λ (s : SinkSeen). Appends a.told s.told []) (sym e) (Appends-none a.told))

-- a text ends with a line
pub some_behind : (reply : Deed → Reply) (spaces : List Space) (lines : List TraceLine) → 0 < length (text_behind reply spaces lines)
some_behind reply spaces [] = omega (arith, length-append (end_line (mapped_pages spaces)) (10 ∷ []), length-append (ended (end_line (mapped_pages spaces))) [])
some_behind reply spaces (line ∷ lines) =
    let more = some_behind reply (spaces_after reply spaces line.said) lines in
    let first = text_if line (said_came reply spaces line.said) in
    rw (text_more reply spaces line lines) (omega (arith, more, length-append first (text_behind reply (spaces_after reply spaces line.said) lines)))

-- a stop in a text, as one in that text and what stands behind it; none, where some text stands before
pub stops_in : (a b c : SinkSeen) (xs ys zs : List ℕ) (why : Stop) → Appends a.told b.told xs → b.faults ≡ a.faults → Stops b c ys why → 0 < length (ys ++ zs) → StopsWithin a c (xs ++ (ys ++ zs)) why
stops_in a b c xs ys zs stop.WriteFault told stood (front, rose) rest =
    (front_behind a b c xs (ys ++ zs) told (front_before b c ys zs front), subst (λ (n : ℕ). Rose n c.faults) stood rose)
stops_in a b c xs ys zs stop.NoMemory told stood same rest =
    (front_behind a b c xs (ys ++ zs) told (front_none b c (ys ++ zs) rest same), ap (λ (s : SinkSeen). s.faults) same ∙ stood)

-- ---- as calls answer

-- a text behind one that was written whole
pub wrote_behind : {A : Type 0} (a b c : SinkSeen) (xs zs : List ℕ) (r : Result A Stop) → Appends a.told b.told xs → b.faults ≡ a.faults → 0 < length zs → Wrote b c zs r → WroteWithin a c (xs ++ zs) r
wrote_behind a b c xs zs (Ok done) told stood some h = Appends-append a.told b.told c.told xs zs told h
wrote_behind a b c xs zs (Err stop.WriteFault) told stood some h =
    (front_behind a b c xs zs told h.0, subst (λ (n : ℕ). Rose n c.faults) stood h.1)
wrote_behind a b c xs zs (Err stop.NoMemory) told stood some h =
    (front_behind a b c xs zs told (front_none b c zs some h), ap (λ (s : SinkSeen). s.faults) h ∙ stood)

-- the same of a text of which a front may stand
pub within_behind : {A : Type 0} (a b c : SinkSeen) (xs zs : List ℕ) (r : Result A Stop) → Appends a.told b.told xs → b.faults ≡ a.faults → WroteWithin b c zs r → WroteWithin a c (xs ++ zs) r
within_behind a b c xs zs (Ok done) told stood h = Appends-append a.told b.told c.told xs zs told h
within_behind a b c xs zs (Err stop.WriteFault) told stood h =
    (front_behind a b c xs zs told h.0, subst (λ (n : ℕ). Rose n c.faults) stood h.1)
within_behind a b c xs zs (Err stop.NoMemory) told stood h =
    (front_behind a b c xs zs told h.0, h.1 ∙ stood)

-- the same, where a default stands for what isn't there
pub next_at : {X : Type 0} (xs : List X) (i : ℕ) (d : X) → i < length xs → drop i xs ≡ slice_index_or xs i d ∷ drop (i + 1) xs
next_at xs i d lt = drop-cons xs i d lt ∙ ap (λ k. slice_index_or xs i d ∷ drop k xs) (sym (add-one i))

-- a line of a list, and the lines behind it
pub next_line : {X : Type 0} (xs : List X) (i : ℕ) (x : X) → i < length xs → x ≡ slice_index_or xs i x → drop i xs ≡ x ∷ drop (i + 1) xs
next_line xs i x lt is = drop-cons xs i x lt ∙ ap (λ y. y ∷ drop (suc i) xs) (sym is) ∙ ap (λ k. x ∷ drop k xs) (sym (add-one i))

-- what stands before the text of the lines that are left, after one line more
pub text_next : (reply : Deed → Reply) (spaces next : List Space) (trace : List TraceLine) (i : ℕ) (line : TraceLine) (whole done : List ℕ)
    → drop i trace ≡ line ∷ drop (i + 1) trace → next ≡ spaces_after reply spaces line.said → whole ≡ done ++ text_behind reply spaces (drop i trace)
    → whole ≡ (done ++ text_if line (said_came reply spaces line.said)) ++ text_behind reply next (drop (i + 1) trace)
text_next reply spaces next trace i line whole done at after is =
    let text = text_if line (said_came reply spaces line.said) in
    let more = drop (i + 1) trace in
    is
    ∙ ap (λ lines. done ++ text_behind reply spaces lines) at
    ∙ ap (λ xs. done ++ xs) (text_more reply spaces line more)
    ∙ ap (λ ss. done ++ (text ++ text_behind reply ss more)) (sym after)
    ∙ sym (append_assoc done text (text_behind reply next more))

-- the same, as a text whose middle is a line's
pub text_here : (reply : Deed → Reply) (spaces : List Space) (trace : List TraceLine) (i : ℕ) (line : TraceLine) (whole done : List ℕ)
    → drop i trace ≡ line ∷ drop (i + 1) trace → whole ≡ done ++ text_behind reply spaces (drop i trace)
    → whole ≡ done ++ (text_if line (said_came reply spaces line.said) ++ text_behind reply (spaces_after reply spaces line.said) (drop (i + 1) trace))
text_here reply spaces trace i line whole done at is =
    is ∙ ap (λ lines. done ++ text_behind reply spaces lines) at ∙ ap (λ xs. done ++ xs) (text_more reply spaces line (drop (i + 1) trace))

-- a stop in a line
pub stopped : (reply : Deed → Reply) (spaces : List Space) (trace : List TraceLine) (i : ℕ) (line : TraceLine) (whole done : List ℕ) (a b c : SinkSeen) (why : Stop)
    → drop i trace ≡ line ∷ drop (i + 1) trace → whole ≡ done ++ text_behind reply spaces (drop i trace)
    → Appends a.told b.told done → b.faults ≡ a.faults → Stops b c (text_if line (said_came reply spaces line.said)) why → StopsWithin a c whole why
stopped reply spaces trace i line whole done a b c why at is told stood stops =
    let text = text_if line (said_came reply spaces line.said) in
    let next = spaces_after reply spaces line.said in
    let more = text_behind reply next (drop (i + 1) trace) in
    let some = some_behind reply next (drop (i + 1) trace) in
    subst (λ (xs : List ℕ). StopsWithin a c xs why) (sym (text_here reply spaces trace i line whole done at is))
    (stops_in a b c done text more why told stood stops (omega (arith, some, length-append text more)))

-- the answer of a line, as a text
pub text_some : (line : TraceLine) (came : Came) → text_if line (Some came) ≡ ended (line_of (decimal line.number ∷ came_words came))
text_some line came = append-nil (ended (line_of (decimal line.number ∷ came_words came)))

pub text_last : (reply : Deed → Reply) (spaces : List Space) → text_behind reply spaces [] ≡ ended (end_line (mapped_pages spaces))
text_last reply spaces = append-nil (ended (end_line (mapped_pages spaces)))

-- no line is left
pub no_more : {X : Type 0} (xs : List X) (i : ℕ) → length xs ≤ i → drop i xs ≡ []
no_more xs i le = drop_of_length-le xs le
