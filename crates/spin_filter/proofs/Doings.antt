-- What is done, one thing after another.
use Rattle.std.proofs.Common.{◌≡◌, ◌+◌, ◌<◌, ℕ, zero, suc, Bool, true, false, cond, not, List, [], ◌∷◌, ◌++◌, map, filter, length, Option, Some, None, Err, refl, sym, ap, subst, ◌∙◌, arith, append_assoc, lit<, get_or, take, drop, ◌≤◌, ◌-◌, ◌==◌, inl, inr, ⊎_elim}
use Rattle.std.specs.Prelude.{bytes_eq, Any, Contains}
use Rattle.std.specs.List.{filter_map}
use Rattle.std.specs.Option.{option_map}
use Rattle.std.specs.Io.KnownBytes.{Appends}
use Rattle.std.proofs.KnownBytes.{Appends-trans}
use Rattle.std.proofs.lemmas.Bool.Decides.{eqb_tells}
use Rattle.std.proofs.lemmas.List.{append-nil, length-append, map-append, take_all, take_rest}
use Rattle.std.proofs.lemmas.List.Elements.{filter-append, filter_map-append, All-append, Contains-append_right, Contains-get_or}
use Rattle.std.proofs.lemmas.Grind.{flat_map-append, take_at_read}
use Rattle.spin_table.specs.Setups.{SetupData}
use Rattle.spin_table.specs.SetupOf.{data_of}
use Rattle.spin_table.specs.States.{State}
use Rattle.spin_filter.specs.declared.passing.Passing.{Passing}
use Rattle.spin_proto.specs.declared.deed.JobCall.{JobCall}
use Rattle.spin_proto.specs.declared.reply.Reply.{Reply}
use Rattle.spin_proto.specs.Parts.{trace_in}
use Rattle.spin_proto.specs.Replies.{IsDeedReply, IsJobReply, calls_left}
use Rattle.spin_values.specs.declared.values.Value.{Value}
use Rattle.spin_values.specs.declared.values.Value.TheVariants as value
use Rattle.spin_word.specs.declared.work.Deed.TheVariants as deed
use Rattle.spin_filter.specs.Passing.{TakenSeen, Passed, raise_with, AreJobReplies, IsPassed}
use Rattle.spin_proto.specs.declared.reply.Step.{Step}
use Rattle.spin_proto.specs.declared.reply.Step.TheVariants as step
use Rattle.spin_endpoint.specs.declared.faults.DeliverFault.{DeliverFault}
use Rattle.spin_endpoint.specs.declared.faults.DeliverFault.TheVariants as fault
use Rattle.spin_endpoint.specs.Endpoints.{EndpointSeen, gained}
use Rattle.spin_outside.specs.Counts.{Rose}
use Rattle.spin_endpoint.specs.Named.{NamedEnd, Delivers, FailsAt, changed_as, with_piece, stands}
use Rattle.spin_endpoint.specs.Sends.{SentSeen, name_of, pieces_for, received, all_received, is_lost}
use Rattle.spin_endpoint.proofs.ReceivedSends.{all_received_none, all_received_more, stands_still, none_stands}
use Rattle.spin_frames.specs.Written.{written_record}
use Rattle.spin_filter.specs.declared.counts.Counts.{Counts}
use Rattle.spin_filter.specs.Counting.{BindingAt, Marked, Happened, Sending, AreCounts, joined, nothing, with_step, with_job, with_outcome, with_losts, just_steps, just_job, just_outcome, sent_by, sends_in, sendings, later_steps, job_steps, steps_of_jobs, happened_in_jobs, happened_at, outcome_of}
use Rattle.spin_filter.specs.Inner.Sends.{IsPut, StopsPut, IsOf, IsHanded, StopsHanding, IsMade}
use Rattle.spin_filter.specs.Sending.{is_writer, handed, lost_of, written_by, IsFrame, AreSent, OutletsAt, IsDone, StopsSending}
use Rattle.spin_filter.specs.Stops.{IsSentIn, IsSentByJob, IsSentAt}
use Rattle.spin_filter.specs.declared.stop.Stop.{Stop}
use Rattle.spin_filter.specs.declared.stop.Stop.TheVariants as stop

-- what records are passed by: the setup and the state, the events of a round, the names of endpoints, and the number of
-- the one that writes a capture
pub record PassedBy : Type 0 where
  pub setup : SetupData
  pub state : State
  pub round : List ℕ
  pub names : List (List ℕ)
  pub capture : Option ℕ

abbrev pub passed_by : {A B C : Type 0} {D : A → Type 0} {E : B → Type 0} {F : C → Type 0} → Passing A B C D E F → PassedBy
passed_by p = record { setup = data_of p.setup.now; state = p.version.now.state; round = p.round.now; names = p.names.now; capture = p.capture }

-- ---- endpoints

gained_twice : (xs ys : List (List ℕ)) (end : EndpointSeen) → gained ys (gained xs end) ≡ gained (xs ++ ys) end
gained_twice xs ys end = ap (λ pieces. record end { pieces = pieces }) (twice end.pieces) where
  twice : (pieces : Option (List (List ℕ))) → option_map (λ told. told ++ ys) (option_map (λ told. told ++ xs) pieces) ≡ option_map (λ told. told ++ (xs ++ ys)) pieces
  twice None = refl
  twice (Some told) = ap Some (append_assoc told xs ys)

pieces-then : (names : List (List ℕ)) (a b : List SentSeen) (name : List ℕ) → pieces_for names (a ++ b) name ≡ pieces_for names a name ++ pieces_for names b name
pieces-then names a b name =
    ap (λ xs. map (λ (s : SentSeen). s.bytes) xs) (filter-append (λ (s : SentSeen). bytes_eq name (name_of names s.endpoint)) a b)
    ∙ map-append (λ (s : SentSeen). s.bytes) (filter (λ (s : SentSeen). bytes_eq name (name_of names s.endpoint)) a) (filter (λ (s : SentSeen). bytes_eq name (name_of names s.endpoint)) b)

received-then : (names : List (List ℕ)) (a b : List SentSeen) (name : List ℕ) (up : Bool) (object : EndpointSeen)
    → received names (a ++ b) (record { name = name; stands = up; object = object }) ≡ received names b (received names a (record { name = name; stands = up; object = object }))
received-then names a b name true object =
    ap (λ (o : EndpointSeen). record { name = name; stands = true; object = o })
    (ap (λ ps. gained ps object) (pieces-then names a b name) ∙ sym (gained_twice (pieces_for names a name) (pieces_for names b name) object))
received-then names a b name false object = refl

pub all_received-then : (names : List (List ℕ)) (a b : List SentSeen) (ends : List NamedEnd) → all_received names (a ++ b) ends ≡ all_received names b (all_received names a ends)
all_received-then names a b [] = refl
all_received-then names a b (end ∷ ends) =
    ap (λ e. e ∷ all_received names (a ++ b) ends) (received-then names a b end.name end.stands end.object)
    ∙ ap (λ es. received names b (received names a end) ∷ es) (all_received-then names a b ends)

-- one send is one delivery
one-received : (names : List (List ℕ)) (sent : SentSeen) (ends : List NamedEnd) → all_received names (sent ∷ []) ends ≡ changed_as (name_of names sent.endpoint) (with_piece sent.bytes) ends
one-received names sent ends =
    all_received_more names (sent ∷ []) 0 sent ends (lit< tt) ∙ ap (λ es. changed_as (name_of names sent.endpoint) (with_piece sent.bytes) es) (all_received_none names ends)

-- a send that is lost
pub hand-lost : (names : List (List ℕ)) (sent : SentSeen) (ends ends' : List NamedEnd) (counts counts' : Counts) (name : List ℕ) (why : DeliverFault)
    → name ≡ name_of names sent.endpoint → why ≡ fault.Unknown → Delivers name sent.bytes (Err why) ends ends'
    → ((listed : List BindingAt) (h : Happened) → AreCounts listed h counts → AreCounts listed (with_losts (sent.endpoint ∷ []) h) counts') → IsHanded names sent ends ends' counts counts'
hand-lost names sent ends ends' counts counts' name fault.Failed is unknown delivers counted = cc
hand-lost names sent ends ends' counts counts' name fault.Unknown is unknown delivers counted =
    let none : stands (name_of names sent.endpoint) ends ≡ false = ap (λ n. stands n ends) (sym is) ∙ delivers.0 in
    record {
      ends_are = delivers.1 ∙ sym (one-received names sent ends ∙ none_stands (name_of names sent.endpoint) (with_piece sent.bytes) ends none);
      counted = λ listed h has. subst (λ (b : Bool). AreCounts listed (with_losts (map (λ (s : SentSeen). s.endpoint) (cond (not b) (sent ∷ []) [])) h) counts') (sym none) (counted listed h has);
    }

-- ---- sends that are lost

lost-still : (names : List (List ℕ)) (sends more : List SentSeen) (ends : List NamedEnd) → filter (is_lost names (all_received names sends ends)) more ≡ filter (is_lost names ends) more
lost-still names sends [] ends = refl
lost-still names sends (sent ∷ more) ends =
    ap (λ b. cond (not b) (sent ∷ filter (is_lost names (all_received names sends ends)) more) (filter (is_lost names (all_received names sends ends)) more))
    (stands_still names sends (name_of names sent.endpoint) ends)
    ∙ ap (λ xs. cond (is_lost names ends sent) (sent ∷ xs) xs) (lost-still names sends more ends)

abbrev goes : Option ℕ → SentSeen → Bool
goes capture s = not (is_writer capture s.endpoint)

handed-then : (capture : Option ℕ) (a b : List Sending) → handed capture (a ++ b) ≡ handed capture a ++ handed capture b
handed-then capture a b =
    ap (λ xs. filter (goes capture) xs) (map-append (λ (s : Sending). s.sent) a b)
    ∙ filter-append (goes capture) (map (λ (s : Sending). s.sent) a) (map (λ (s : Sending). s.sent) b)

lost-then : (names : List (List ℕ)) (capture : Option ℕ) (ends : List NamedEnd) (a b : List Sending) (sends : List SentSeen)
    → lost_of names capture ends (a ++ b) ≡ lost_of names capture ends a ++ lost_of names capture (all_received names sends ends) b
lost-then names capture ends a b sends =
    ap (λ xs. map (λ (s : SentSeen). s.endpoint) (filter (is_lost names ends) xs)) (handed-then capture a b)
    ∙ ap (λ xs. map (λ (s : SentSeen). s.endpoint) xs) (filter-append (is_lost names ends) (handed capture a) (handed capture b))
    ∙ map-append (λ (s : SentSeen). s.endpoint) (filter (is_lost names ends) (handed capture a)) (filter (is_lost names ends) (handed capture b))
    ∙ ap (λ xs. lost_of names capture ends a ++ map (λ (s : SentSeen). s.endpoint) xs) (sym (lost-still names sends (handed capture b) ends))

-- ---- sends, one list behind the other

sent-then : (names : List (List ℕ)) (capture : Option ℕ) (a b : List Sending) (e0 e1 e2 : List NamedEnd) (t0 t1 t2 : Option (List ℕ))
    → AreSent names capture a e0 e1 t0 t1 → AreSent names capture b e1 e2 t1 t2 → AreSent names capture (a ++ b) e0 e2 t0 t2
sent-then names capture a b e0 e1 e2 t0 t1 t2 p q = record {
  ends_are = q.ends_are ∙ ap (λ es. all_received names (handed capture b) es) p.ends_are
      ∙ sym (all_received-then names (handed capture a) (handed capture b) e0)
      ∙ ap (λ xs. all_received names xs e0) (sym (handed-then capture a b));
  written = subst (λ (bs : List ℕ). Appends t0 t2 bs) (sym (flat_map-append (λ (s : Sending). cond (is_writer capture s.sent.endpoint) (written_record s.taken.head s.taken.packet) []) a b))
      (Appends-trans t0 t1 t2 (written_by capture a) (written_by capture b) p.written q.written);
  frames = All-append (IsFrame capture) a b p.frames q.frames;
}

nothing-written : (t : Option (List ℕ)) → Appends t t []
nothing-written None = tt
nothing-written (Some xs) = sym (append-nil xs)

sent-none : (names : List (List ℕ)) (capture : Option ℕ) (ends : List NamedEnd) (t : Option (List ℕ)) → AreSent names capture [] ends ends t t
sent-none names capture ends t = record {
  ends_are = sym (all_received_none names ends);
  written = nothing-written t;
  frames = λ k d lt. absurd (omega (arith, lt));
}

pub one-all : {X : Type 0} (P : X → Type 0) (x : X) → P x → (k : ℕ) (d : X) → k < length (x ∷ []) → P (get_or (x ∷ []) k d)
one-all P x p zero d lt = p
one-all P x p (suc k) d lt = absurd (omega (arith, lt))

-- a record is written
pub made-put : (names : List (List ℕ)) (capture : Option ℕ) (s : Sending) (x y : OutletsAt) → is_writer capture s.sent.endpoint ≡ true
    → IsPut s.taken s.sent.bytes x.sink y.sink → y.ends ≡ x.ends → y.counts ≡ x.counts → IsMade names capture s x y
made-put names capture s x y is put ends counts =
    let none : handed capture (s ∷ []) ≡ [] = ap (λ b. cond (not b) (s.sent ∷ []) []) is in
    record {
      sent = record {
        ends_are = ends ∙ sym (ap (λ xs. all_received names xs x.ends) none ∙ all_received_none names x.ends);
        written = subst (λ (bs : List ℕ). Appends x.sink.told y.sink.told bs)
            (sym (ap (λ b. cond b (written_record s.taken.head s.taken.packet) [] ++ []) is ∙ append-nil (written_record s.taken.head s.taken.packet))) put.written;
        frames = one-all (IsFrame capture) s (λ _. put.frame);
      };
      still = put.still;
      counted = λ listed h has.
          let still : AreCounts listed h y.counts = subst (λ (c : Counts). AreCounts listed h c) (sym counts) has in
          subst (λ (l : List ℕ). AreCounts listed (record h { lost = l }) y.counts)
          (sym (ap (λ xs. h.lost ++ map (λ (z : SentSeen). z.endpoint) (filter (is_lost names x.ends) xs)) none ∙ append-nil h.lost)) still;
    }

-- a send is handed on
pub made-handed : (names : List (List ℕ)) (capture : Option ℕ) (s : Sending) (x y : OutletsAt) → is_writer capture s.sent.endpoint ≡ false
    → IsHanded names s.sent x.ends y.ends x.counts y.counts → y.sink ≡ x.sink → IsMade names capture s x y
made-handed names capture s x y is hand sink =
    let own : handed capture (s ∷ []) ≡ s.sent ∷ [] = ap (λ b. cond (not b) (s.sent ∷ []) []) is in
    record {
      sent = record {
        ends_are = hand.ends_are ∙ ap (λ xs. all_received names xs x.ends) (sym own);
        written = subst (λ (t : Option (List ℕ)). Appends x.sink.told t (written_by capture (s ∷ []))) (sym (ap (λ k. k.told) sink))
            (subst (λ (bs : List ℕ). Appends x.sink.told x.sink.told bs) (sym (ap (λ b. cond b (written_record s.taken.head s.taken.packet) [] ++ []) is)) (nothing-written x.sink.told));
        frames = one-all (IsFrame capture) s (λ yes. absurd (apart (sym yes ∙ is)));
      };
      still = ap (λ k. k.faults) sink;
      counted = λ listed h has. subst (λ (xs : List SentSeen). AreCounts listed (with_losts (map (λ (z : SentSeen). z.endpoint) (filter (is_lost names x.ends) xs)) h) y.counts) (sym own) (hand.counted listed h has);
    } where
      apart : true ≡ false → ⊥
      apart e = cc

-- ---- what happened, one thing behind the other

abbrev happened_by : List ℕ → List Marked → ℕ → List Sending → List ℕ → Happened
happened_by o s j x l = record { outcomes = o; steps = s; jobs = j; sends = x; lost = l }

same_happened : (a a' : List ℕ) (b b' : List Marked) (n n' : ℕ) (c c' : List Sending) (d d' : List ℕ) → a ≡ a' → b ≡ b' → n ≡ n' → c ≡ c' → d ≡ d'
    → happened_by a b n c d ≡ happened_by a' b' n' c' d'
same_happened a a' b b' n n' c c' d d' p q r s t =
    ap (λ x. happened_by x b n c d) p ∙ ap (λ x. happened_by a' x n c d) q ∙ ap (λ x. happened_by a' b' x c d) r ∙ ap (λ x. happened_by a' b' n' x d) s ∙ ap (λ x. happened_by a' b' n' c' x) t

joined-assoc : (h : Happened) (o o' : List ℕ) (s s' : List Marked) (j j' : ℕ) (x x' : List Sending) (l l' l'' : List ℕ) → l'' ≡ l ++ l'
    → joined (joined h (happened_by o s j x l)) (happened_by o' s' j' x' l') ≡ joined h (happened_by (o ++ o') (s ++ s') (j + j') (x ++ x') l'')
joined-assoc h o o' s s' j j' x x' l l' l'' is =
    let jobs : (h.jobs + j) + j' ≡ h.jobs + (j + j') = omega arith in
    let lost : (h.lost ++ l) ++ l' ≡ h.lost ++ l'' = append_assoc h.lost l l' ∙ ap (λ ys. h.lost ++ ys) (sym is) in
    same_happened _ _ _ _ _ _ _ _ _ _ (append_assoc h.outcomes o o') (append_assoc h.steps s s') jobs (append_assoc h.sends x x') lost

pub joined-one : (a b c : Happened) → joined (joined a b) c ≡ joined a (joined b c)
joined-one a b c = joined-assoc a b.outcomes c.outcomes b.steps c.steps b.jobs c.jobs b.sends c.sends b.lost c.lost (b.lost ++ c.lost) refl

pub joined-none : (h : Happened) → joined nothing h ≡ h
joined-none h = same_happened h.outcomes h.outcomes h.steps h.steps (0 + h.jobs) h.jobs h.sends h.sends h.lost h.lost refl refl (omega arith) refl refl

pub joined-end : (h : Happened) → joined h nothing ≡ h
joined-end h =
    same_happened (h.outcomes ++ []) h.outcomes (h.steps ++ []) h.steps (h.jobs + 0) h.jobs (h.sends ++ []) h.sends (h.lost ++ []) h.lost
    (append-nil h.outcomes) (append-nil h.steps) (omega arith) (append-nil h.sends) (append-nil h.lost)

pub done-then : (names : List (List ℕ)) (capture : Option ℕ) (a b : Happened) (x y z : OutletsAt) → IsDone names capture a x y → IsDone names capture b y z → IsDone names capture (joined a b) x z
done-then names capture a b x y z p q =
    let lost : lost_of names capture x.ends (a.sends ++ b.sends) ≡ lost_of names capture x.ends a.sends ++ lost_of names capture y.ends b.sends =
    lost-then names capture x.ends a.sends b.sends (handed capture a.sends)
    ∙ ap (λ es. lost_of names capture x.ends a.sends ++ lost_of names capture es b.sends) (sym p.sent.ends_are) in
    record {
      sent = sent-then names capture a.sends b.sends x.ends y.ends z.ends x.sink.told y.sink.told z.sink.told p.sent q.sent;
      still = q.still ∙ p.still;
      counted = λ listed h is. subst (λ (all : Happened). AreCounts listed all z.counts)
          (joined-assoc h a.outcomes b.outcomes a.steps b.steps a.jobs b.jobs a.sends b.sends _ _ _ lost) (q.counted listed _ (p.counted listed h is));
    }

-- the counts look at no sends
counts-but : (listed : List BindingAt) (h : Happened) (o : List ℕ) (s : List Marked) (j : ℕ) (x : List Sending) (l : List ℕ) (c : Counts) → o ≡ h.outcomes → s ≡ h.steps → j ≡ h.jobs → l ≡ h.lost → AreCounts listed h c
    → AreCounts listed (record { outcomes = o; steps = s; jobs = j; sends = x; lost = l }) c
counts-but listed h o s j x l c p q r t is =
    subst (λ (ys : List ℕ). AreCounts listed (record { outcomes = o; steps = s; jobs = j; sends = x; lost = ys }) c) (sym t)
    (subst (λ (n : ℕ). AreCounts listed (record { outcomes = o; steps = s; jobs = n; sends = x; lost = h.lost }) c) (sym r)
    (subst (λ (ms : List Marked). AreCounts listed (record { outcomes = o; steps = ms; jobs = h.jobs; sends = x; lost = h.lost }) c) (sym q)
    (subst (λ (ys : List ℕ). AreCounts listed (record { outcomes = ys; steps = h.steps; jobs = h.jobs; sends = x; lost = h.lost }) c) (sym p)
    (record {
      records = is.records;
      outcomes = is.outcomes;
      jobs = is.jobs;
      runs = is.runs;
      drops = is.drops;
      sends = is.sends;
      lost = is.lost;
      hits = is.hits;
      listed_are = is.listed_are;
    }))))

-- nothing
pub done-nothing : (names : List (List ℕ)) (capture : Option ℕ) (x : OutletsAt) → IsDone names capture nothing x x
done-nothing names capture x = record {
  sent = sent-none names capture x.ends x.sink.told;
  still = refl;
  counted = λ listed h is. counts-but listed h _ _ _ _ _ x.counts (append-nil h.outcomes) (append-nil h.steps) (omega arith) (append-nil h.lost) is;
}

-- nothing is sent, but something is counted
quiet-sent : (names : List (List ℕ)) (capture : Option ℕ) (x y : OutletsAt) → y.ends ≡ x.ends → y.sink ≡ x.sink → AreSent names capture [] x.ends y.ends x.sink.told y.sink.told
quiet-sent names capture x y ends sink =
    subst (λ (e : List NamedEnd). AreSent names capture [] x.ends e x.sink.told y.sink.told) (sym ends)
    (subst (λ (t : Option (List ℕ)). AreSent names capture [] x.ends x.ends x.sink.told t) (sym (ap (λ k. k.told) sink)) (sent-none names capture x.ends x.sink.told))

pub done-outcome : (names : List (List ℕ)) (capture : Option ℕ) (outcome : ℕ) (x y : OutletsAt) → y.ends ≡ x.ends → y.sink ≡ x.sink
    → ((listed : List BindingAt) (h : Happened) → AreCounts listed h x.counts → AreCounts listed (with_outcome outcome h) y.counts) → IsDone names capture (just_outcome outcome) x y
done-outcome names capture outcome x y ends sink counted = record {
  sent = quiet-sent names capture x y ends sink;
  still = ap (λ k. k.faults) sink;
  counted = λ listed h is. counts-but listed (with_outcome outcome h) _ _ _ _ _ y.counts refl (append-nil h.steps) (omega arith) (append-nil h.lost) (counted listed h is);
}

pub done-job : (names : List (List ℕ)) (capture : Option ℕ) (x y : OutletsAt) → y.ends ≡ x.ends → y.sink ≡ x.sink
    → ((listed : List BindingAt) (h : Happened) → AreCounts listed h x.counts → AreCounts listed (with_job h) y.counts) → IsDone names capture just_job x y
done-job names capture x y ends sink counted = record {
  sent = quiet-sent names capture x y ends sink;
  still = ap (λ k. k.faults) sink;
  counted = λ listed h is. counts-but listed (with_job h) _ _ _ _ _ y.counts (append-nil h.outcomes) (append-nil h.steps) refl (append-nil h.lost) (counted listed h is);
}

abbrev tagged : TakenSeen → SentSeen → Sending
tagged taken s = record { taken = taken; sent = s }

-- a step that sends
pub done-send : (names : List (List ℕ)) (capture : Option ℕ) (taken : TakenSeen) (m : Marked) (sent : SentSeen) (x y z : OutletsAt)
    → sent_by m.taken ≡ Some sent → ((listed : List BindingAt) (h : Happened) → AreCounts listed h x.counts → AreCounts listed (with_step m h) y.counts) → y.ends ≡ x.ends → y.sink ≡ x.sink
    → IsMade names capture (record { taken = taken; sent = sent }) y z → IsDone names capture (just_steps taken (m ∷ [])) x z
done-send names capture taken m sent x y z is counted ends sink made =
    let one : sendings taken (m ∷ []) ≡ tagged taken sent ∷ [] = ap (λ (o : Option SentSeen). map (tagged taken) (filter_map (λ (p : Option SentSeen). p) (o ∷ []))) is in
    record {
      sent = subst (λ (ss : List Sending). AreSent names capture ss x.ends z.ends x.sink.told z.sink.told) (sym one)
          (subst (λ (e : List NamedEnd). AreSent names capture (tagged taken sent ∷ []) e z.ends x.sink.told z.sink.told) ends
          (subst (λ (t : Option (List ℕ)). AreSent names capture (tagged taken sent ∷ []) y.ends z.ends t z.sink.told) (ap (λ k. k.told) sink) made.sent));
      still = made.still ∙ ap (λ k. k.faults) sink;
      counted = λ listed h has.
          counts-but listed (with_losts (lost_of names capture y.ends (tagged taken sent ∷ [])) (with_step m h)) _ _ _ _ _ z.counts
          (append-nil h.outcomes) refl (omega arith) (ap (λ ss. h.lost ++ lost_of names capture x.ends ss) one ∙ ap (λ e. h.lost ++ lost_of names capture e (tagged taken sent ∷ [])) (sym ends))
          (made.counted listed (with_step m h) (counted listed h has));
    }

-- a step that sends nothing
pub done-quiet : (names : List (List ℕ)) (capture : Option ℕ) (taken : TakenSeen) (m : Marked) (x y : OutletsAt)
    → sent_by m.taken ≡ None → ((listed : List BindingAt) (h : Happened) → AreCounts listed h x.counts → AreCounts listed (with_step m h) y.counts) → y.ends ≡ x.ends → y.sink ≡ x.sink
    → IsDone names capture (just_steps taken (m ∷ [])) x y
done-quiet names capture taken m x y is counted ends sink =
    let none : sendings taken (m ∷ []) ≡ [] = ap (λ (o : Option SentSeen). map (tagged taken) (filter_map (λ (p : Option SentSeen). p) (o ∷ []))) is in
    record {
      sent = subst (λ (ss : List Sending). AreSent names capture ss x.ends y.ends x.sink.told y.sink.told) (sym none) (quiet-sent names capture x y ends sink);
      still = ap (λ k. k.faults) sink;
      counted = λ listed h has.
          counts-but listed (with_step m h) _ _ _ _ _ y.counts
          (append-nil h.outcomes) refl (omega arith) (ap (λ ss. h.lost ++ lost_of names capture x.ends ss) none ∙ append-nil h.lost) (counted listed h has);
    }

pub quiet-send : (s : Step) → ((endpoint : ℕ) (bytes : List ℕ) → s ≡ step.Send endpoint bytes → ⊥) → sent_by s ≡ None
quiet-send (step.Run event number) send = refl
quiet-send (step.Result n) send = refl
quiet-send (step.Send endpoint bytes) send = absurd (send endpoint bytes refl)
quiet-send (step.Up event) send = refl
quiet-send (step.Back answer) send = refl
quiet-send (step.Dropped fault) send = refl
quiet-send (step.Job event number) send = refl

sendings-then : (taken : TakenSeen) (a b : List Marked) → sendings taken a ++ sendings taken b ≡ sendings taken (a ++ b)
sendings-then taken a b =
    sym (ap (λ ss. map (tagged taken) ss) (filter_map-append (λ (m : Marked). sent_by m.taken) a b) ∙ map-append (tagged taken) (sends_in a) (sends_in b))

-- steps behind steps
pub steps-then : (taken : TakenSeen) (a b : List Marked) → joined (just_steps taken a) (just_steps taken b) ≡ just_steps taken (a ++ b)
steps-then taken a b = ap (λ (ss : List Sending). happened_by [] (a ++ b) 0 ss []) (sendings-then taken a b)

abbrev later_step : Step → Marked
later_step s = record { first = false; taken = s }

later-more : (steps : List Step) (i : ℕ) (s : Step) → i < length steps → s ≡ get_or steps i s → later_steps (take (i + 1) steps) ≡ later_steps (take i steps) ++ later_step s ∷ []
later-more steps i s lt is =
    ap (λ xs. later_steps xs) ((take_at_read steps i s lt).1)
    ∙ map-append later_step (take i steps) (get_or steps i s ∷ [])
    ∙ ap (λ r. later_steps (take i steps) ++ later_step r ∷ []) (sym is)

-- one step more of a list is done
pub steps-more : (names : List (List ℕ)) (capture : Option ℕ) (taken : TakenSeen) (steps : List Step) (i : ℕ) (s : Step) (x y z : OutletsAt) → i < length steps → s ≡ get_or steps i s
    → IsDone names capture (just_steps taken (later_steps (take i steps))) x y → IsDone names capture (just_steps taken (record { first = false; taken = s } ∷ [])) y z
    → IsDone names capture (just_steps taken (later_steps (take (i + 1) steps))) x z
steps-more names capture taken steps i s x y z lt is p q =
    subst (λ (h : Happened). IsDone names capture h x z)
    (steps-then taken (later_steps (take i steps)) (later_step s ∷ []) ∙ ap (λ ms. just_steps taken ms) (sym (later-more steps i s lt is)))
    (done-then names capture (just_steps taken (later_steps (take i steps))) (just_steps taken (later_step s ∷ [])) x y z p q)

-- all steps of a list are done
pub steps-all : (names : List (List ℕ)) (capture : Option ℕ) (taken : TakenSeen) (steps : List Step) (i : ℕ) (x y : OutletsAt) → length steps ≤ i
    → IsDone names capture (just_steps taken (later_steps (take i steps))) x y → IsDone names capture (just_steps taken (later_steps steps)) x y
steps-all names capture taken steps i x y le p = subst (λ (ss : List Step). IsDone names capture (just_steps taken (later_steps ss)) x y) (take_all i steps le) p

-- the steps of a job: its first, and then the others
pub job-steps : (names : List (List ℕ)) (capture : Option ℕ) (taken : TakenSeen) (steps rest : List Step) (s : Step) (x y z : OutletsAt) → steps ≡ s ∷ rest
    → IsDone names capture (just_steps taken (record { first = true; taken = s } ∷ [])) x y → IsDone names capture (just_steps taken (later_steps rest)) y z
    → IsDone names capture (just_steps taken (job_steps steps)) x z
job-steps names capture taken steps rest s x y z is p q =
    subst (λ (ss : List Step). IsDone names capture (just_steps taken (job_steps ss)) x z) (sym is)
    (subst (λ (h : Happened). IsDone names capture h x z) (steps-then taken (record { first = true; taken = s } ∷ []) (later_steps rest))
    (done-then names capture (just_steps taken (record { first = true; taken = s } ∷ [])) (just_steps taken (later_steps rest)) x y z p q))

pub no-job-steps : (names : List (List ℕ)) (capture : Option ℕ) (taken : TakenSeen) (steps : List Step) (x : OutletsAt) → steps ≡ [] → IsDone names capture (just_steps taken (job_steps steps)) x x
no-job-steps names capture taken steps x is = subst (λ (ss : List Step). IsDone names capture (just_steps taken (job_steps ss)) x x) (sym is) (done-nothing names capture x)

apart : true ≡ false → ⊥
apart e = cc

pub no-steps : (steps : List Step) (r : Bool) → r ≡ (length steps == 0) → r ≡ true → steps ≡ []
no-steps [] r is there = refl
no-steps (s ∷ steps) r is there = ⊎_elim (λ same. absurd (omega (arith, same.1))) (λ other. absurd (apart (sym there ∙ is ∙ other.0))) (eqb_tells (length (s ∷ steps)) 0)

pub some-steps : (steps : List Step) (r : Bool) → r ≡ (length steps == 0) → r ≡ false → 0 < length steps
some-steps [] r is gone = absurd (apart (sym is ∙ gone))
some-steps (s ∷ steps) r is gone = omega arith

pub first-steps : (steps : List Step) (s : Step) (r : Bool) → r ≡ (length steps == 0) → r ≡ false → s ≡ get_or steps 0 s → steps ≡ s ∷ take (length steps - 1) (drop 1 steps)
first-steps [] s r is gone at = absurd (apart (sym is ∙ gone))
first-steps (x ∷ xs) s r is gone at = ap (λ h. h ∷ xs) (sym at) ∙ ap (λ t. s ∷ t) (sym (take_rest (x ∷ xs) 1))

-- ---- jobs, and a whole record

-- jobs behind jobs
jobs-then : (taken : TakenSeen) (replies : List Reply) (r : Reply)
    → joined (happened_in_jobs taken replies) (joined just_job (just_steps taken (job_steps (trace_in r)))) ≡ happened_in_jobs taken (replies ++ r ∷ [])
jobs-then taken replies r =
    let own = λ (x : Reply). job_steps (trace_in x) in
    let steps : steps_of_jobs replies ++ job_steps (trace_in r) ≡ steps_of_jobs (replies ++ r ∷ []) =
    sym (flat_map-append own replies (r ∷ []) ∙ ap (λ ms. steps_of_jobs replies ++ ms) (append-nil (own r))) in
    let jobs : length replies + 1 ≡ length (replies ++ r ∷ []) = sym (length-append replies (r ∷ [])) in
    let sends : sendings taken (steps_of_jobs replies) ++ sendings taken (job_steps (trace_in r)) ≡ sendings taken (steps_of_jobs (replies ++ r ∷ [])) =
    sendings-then taken (steps_of_jobs replies) (job_steps (trace_in r)) ∙ ap (λ ms. sendings taken ms) steps in
    same_happened [] [] _ _ _ _ _ _ [] [] refl steps jobs sends refl

-- These calls of jobs were done, one after another.
abbrev pub DoesJobs : PassedBy → TakenSeen → List JobCall → OutletsAt → OutletsAt → Type 0
DoesJobs by taken calls x y = (replies : List Reply) × AreJobReplies by.setup by.state calls replies × IsDone by.names by.capture (happened_in_jobs taken replies) x y

-- That call of a job was done.
abbrev pub DoesJob : PassedBy → TakenSeen → JobCall → OutletsAt → OutletsAt → Type 0
DoesJob by taken call x y =
    (reply : Reply) × IsJobReply by.setup by.state call reply × IsDone by.names by.capture (joined just_job (just_steps taken (job_steps (trace_in reply)))) x y

-- one job more is done
pub jobs-more : (by : PassedBy) (taken : TakenSeen) (calls : List JobCall) (i : ℕ) (call : JobCall) (x y z : OutletsAt) → i < length calls → call ≡ get_or calls i call
    → DoesJobs by taken (take i calls) x y → DoesJob by taken call y z → DoesJobs by taken (take (i + 1) calls) x z
jobs-more by taken calls i call x y z lt is (replies, answer, done) (reply, own, did) = (
  replies ++ reply ∷ [],
  subst (λ (cs : List JobCall). AreJobReplies by.setup by.state cs (replies ++ reply ∷ []))
      (ap (λ c. take i calls ++ c ∷ []) is ∙ sym ((take_at_read calls i call lt).1)) (replies-more by.setup by.state (take i calls) replies call reply answer own),
  subst (λ (h : Happened). IsDone by.names by.capture h x z) (jobs-then taken replies reply)
      (done-then by.names by.capture (happened_in_jobs taken replies) (joined just_job (just_steps taken (job_steps (trace_in reply)))) x y z done did),
) where
  replies-more : (d : SetupData) (s : State) (calls : List JobCall) (replies : List Reply) (call : JobCall) (reply : Reply) → AreJobReplies d s calls replies → IsJobReply d s call reply
      → AreJobReplies d s (calls ++ call ∷ []) (replies ++ reply ∷ [])
  replies-more d s [] replies call reply none own = (reply, [], own, ap (λ rs. rs ++ reply ∷ []) none, refl)
  replies-more d s (c ∷ calls) replies call reply (r, others, first, are, rest) own =
      (r, others ++ reply ∷ [], first, ap (λ rs. rs ++ reply ∷ []) are, replies-more d s calls others call reply rest own)

pub no-jobs : (by : PassedBy) (taken : TakenSeen) (x : OutletsAt) → DoesJobs by taken [] x x
no-jobs by taken x = ([], refl, done-nothing by.names by.capture x)

pub jobs-all : (by : PassedBy) (taken : TakenSeen) (calls : List JobCall) (i : ℕ) (x y : OutletsAt) → length calls ≤ i → DoesJobs by taken (take i calls) x y → DoesJobs by taken calls x y
jobs-all by taken calls i x y le (replies, answer, done) = (replies, subst (λ (cs : List JobCall). AreJobReplies by.setup by.state cs replies) (take_all i calls le) answer, done)

-- a whole record: its outcome, its steps, its jobs
pub record-done : (names : List (List ℕ)) (capture : Option ℕ) (passed : Passed) (w x y z : OutletsAt) → IsDone names capture (just_outcome (outcome_of passed.reply)) w x
    → IsDone names capture (just_steps passed.taken (later_steps (trace_in passed.reply))) x y → IsDone names capture (happened_in_jobs passed.taken passed.jobs) y z
    → IsDone names capture (happened_at passed) w z
record-done names capture passed w x y z p q r =
    let taken = passed.taken in
    let later = later_steps (trace_in passed.reply) in
    subst (λ (h : Happened). IsDone names capture h w z)
    (same_happened _ _ _ _ (0 + length passed.jobs) (length passed.jobs) _ _ [] [] refl refl (omega arith) (sendings-then taken later (steps_of_jobs passed.jobs)) refl)
    (done-then names capture (joined (just_outcome (outcome_of passed.reply)) (just_steps taken later)) (happened_in_jobs taken passed.jobs) w y z
    (done-then names capture (just_outcome (outcome_of passed.reply)) (just_steps taken later) w x y p q) r)

-- one job
pub job-one : (by : PassedBy) (taken : TakenSeen) (call : JobCall) (reply : Reply) (steps : List Step) (x y z : OutletsAt) → IsJobReply by.setup by.state call reply → steps ≡ trace_in reply
    → IsDone by.names by.capture just_job x y → IsDone by.names by.capture (just_steps taken (job_steps steps)) y z → DoesJob by taken call x z
job-one by taken call reply steps x y z answer is p q = (
  reply,
  answer,
  done-then by.names by.capture just_job (just_steps taken (job_steps (trace_in reply))) x y z p
      (subst (λ (ss : List Step). IsDone by.names by.capture (just_steps taken (job_steps ss)) y z) is q),
)

-- the reply to a raise with these bytes, as it is seen
pub raise-seen : (d : SetupData) (s : State) (event : ℕ) (frame : List ℕ) (args : List Value) (reply seen : Reply) → args ≡ value.Bytes frame ∷ [] → IsDeedReply d s (deed.Raise event args) reply → seen ≡ reply
    → IsDeedReply d s (raise_with event frame) seen
raise-seen d s event frame args reply seen told answer view =
    subst (λ (r : Reply). IsDeedReply d s (raise_with event frame) r) (sym view) (subst (λ (vs : List Value). IsDeedReply d s (deed.Raise event vs) reply) told answer)

pub record-whole : (by : PassedBy) (taken : TakenSeen) (event : ℕ) (reply : Reply) (w x y z : OutletsAt) → IsDeedReply by.setup by.state (raise_with event taken.packet.frame) reply
    → IsDone by.names by.capture (just_outcome (outcome_of reply)) w x → IsDone by.names by.capture (just_steps taken (later_steps (trace_in reply))) x y → DoesJobs by taken (calls_left reply) y z
    → (passed : Passed) × (passed.taken ≡ taken) × IsPassed by.setup by.state event passed × IsDone by.names by.capture (happened_at passed) w z
record-whole by taken event reply w x y z answer p q (replies, answers, r) =
    let passed : Passed = record { taken = taken; reply = reply; jobs = replies } in
    (passed, refl, record { reply = answer; jobs = answers }, record-done by.names by.capture passed w x y z p q r)

-- ---- the kinds of sends that may be refused

-- each send of the one kind is one of the other
abbrev pub Within : (Sending → Type 0) → (Sending → Type 0) → Type 0
Within Kind Other = (s : Sending) → Kind s → Other s

pub of-same : (Kind : Sending → Type 0) → Within Kind Kind
of-same Kind s is = is

-- the send of a step
pub sent-step : (taken : TakenSeen) (one : Step) (sent : SentSeen) → one ≡ step.Send sent.endpoint sent.bytes
    → Within (λ s. s ≡ record { taken = taken; sent = sent }) (IsOf taken (IsSentIn (one ∷ [])))
sent-step taken one sent is s same =
    (ap (λ (z : Sending). z.taken) same, (0, lit< tt, is ∙ sym (ap (λ (z : Sending). step.Send z.sent.endpoint z.sent.bytes) same)))

-- a send of one of the steps is a send of them all
pub sent-one : (taken : TakenSeen) (steps : List Step) (i : ℕ) (one : Step) → i < length steps → one ≡ get_or steps i one
    → Within (IsOf taken (IsSentIn (one ∷ []))) (IsOf taken (IsSentIn steps))
sent-one taken steps i one lt at s (same, is) = (same, among (only (step.Send s.sent.endpoint s.sent.bytes) is)) where
  only : (x : Step) → Contains (one ∷ []) x → one ≡ x
  only x (zero, within, there) = there
  only x (suc k, within, there) = absurd (omega (arith, within))

  among : {x : Step} → one ≡ x → Contains steps x
  among e = subst (λ (y : Step). Contains steps y) (sym at ∙ e) (Contains-get_or steps i one lt)

pub sent-rest : (taken : TakenSeen) (steps rest : List Step) (one : Step) → steps ≡ one ∷ rest → Within (IsOf taken (IsSentIn rest)) (IsOf taken (IsSentIn steps))
sent-rest taken steps rest one is s (same, there) =
    (same, subst (λ (ss : List Step). IsSentIn ss s) (sym is) (Contains-append_right (one ∷ []) rest (step.Send s.sent.endpoint s.sent.bytes) there))

-- a send of a job
pub sent-job : (taken : TakenSeen) (d : SetupData) (st : State) (call : JobCall) (reply : Reply) (steps : List Step) → IsJobReply d st call reply → steps ≡ trace_in reply
    → Within (IsOf taken (IsSentIn steps)) (IsOf taken (λ s. IsSentByJob d st s call))
sent-job taken d st call reply steps answer is s (same, there) = (same, (reply, answer, subst (λ (ss : List Step). IsSentIn ss s) is there))

pub sent-jobs : (taken : TakenSeen) (d : SetupData) (st : State) (calls : List JobCall) (i : ℕ) (call : JobCall) → i < length calls → call ≡ get_or calls i call
    → Within (IsOf taken (λ s. IsSentByJob d st s call)) (IsOf taken (λ s. Any (IsSentByJob d st s) calls))
sent-jobs taken d st calls i call lt at s (same, is) = (same, (i, call, lt, sym at, is))

-- a send of a record: of its raise
pub sent-raise : (taken : TakenSeen) (d : SetupData) (st : State) (event : ℕ) (reply : Reply) (steps : List Step) → IsDeedReply d st (raise_with event taken.packet.frame) reply → steps ≡ trace_in reply
    → Within (IsOf taken (IsSentIn steps)) (IsOf taken (IsSentAt d st event))
sent-raise taken d st event reply steps answer is s (same, there) = (
  same,
  record {
    reply = reply;
    raised = subst (λ (t : TakenSeen). IsDeedReply d st (raise_with event t.packet.frame) reply) (sym same) answer;
    sent = inl (subst (λ (ss : List Step). IsSentIn ss s) is there);
  },
)

-- or of a job that this leaves
pub sent-later : (taken : TakenSeen) (d : SetupData) (st : State) (event : ℕ) (reply : Reply) (calls : List JobCall) → IsDeedReply d st (raise_with event taken.packet.frame) reply → calls ≡ calls_left reply
    → Within (IsOf taken (λ s. Any (IsSentByJob d st s) calls)) (IsOf taken (IsSentAt d st event))
sent-later taken d st event reply calls answer is s (same, there) = (
  same,
  record {
    reply = reply;
    raised = subst (λ (t : TakenSeen). IsDeedReply d st (raise_with event t.packet.frame) reply) (sym same) answer;
    sent = inr (subst (λ (cs : List JobCall). Any (IsSentByJob d st s) cs) is there);
  },
)

-- ---- stops

-- behind sends that were made a stop has the same cause
pub stop-after : (names : List (List ℕ)) (capture : Option ℕ) (Kind Other : Sending → Type 0) (sends : List Sending) (x y z : OutletsAt) (why : Stop) → Within Kind Other
    → AreSent names capture sends x.ends y.ends x.sink.told y.sink.told → y.sink.faults ≡ x.sink.faults → StopsSending names capture Kind y z why → StopsSending names capture Other x z why
stop-after names capture Kind Other sends x y z (stop.Endpoint number) within sent still why = record {
  sends = handed capture sends ++ why.sends;
  standing = sym (stands_still names (handed capture sends) (name_of names number) x.ends) ∙ ap (λ es. stands (name_of names number) es) (sym sent.ends_are) ∙ why.standing;
  fails = subst (λ (es : List NamedEnd). FailsAt (name_of names number) es z.ends)
      (ap (λ es. all_received names why.sends es) sent.ends_are ∙ sym (all_received-then names (handed capture sends) why.sends x.ends)) why.fails;
}
stop-after names capture Kind Other sends x y z (stop.NoFrame number) within sent still why = record {
  sends = sends ++ why.sends;
  sent = sent-then names capture sends why.sends x.ends y.ends z.ends x.sink.told y.sink.told z.sink.told sent why.sent;
  still = why.still ∙ still;
  refused = why.refused;
  kind = within why.refused why.kind;
  endpoint = why.endpoint;
  no_frame = why.no_frame;
}
stop-after names capture Kind Other sends x y z stop.WriteFault within sent still why = subst (λ n. Rose n z.sink.faults) still why
stop-after names capture Kind Other sends x y z stop.NoMemory within sent still why = tt
stop-after names capture Kind Other sends x y z (stop.Capture number wrong) within sent still why = why
stop-after names capture Kind Other sends x y z stop.Unread within sent still why = why
stop-after names capture Kind Other sends x y z stop.Absent within sent still why = why
stop-after names capture Kind Other sends x y z stop.Retires within sent still why = why
stop-after names capture Kind Other sends x y z stop.Segments within sent still why = why
stop-after names capture Kind Other sends x y z (stop.Lane number) within sent still why = why
stop-after names capture Kind Other sends x y z (stop.InTheWay number) within sent still why = why
stop-after names capture Kind Other sends x y z stop.NoRecords within sent still why = why

-- behind what was done
pub stop-behind : (names : List (List ℕ)) (capture : Option ℕ) (Kind Other : Sending → Type 0) (more : Happened) (x y z : OutletsAt) (why : Stop) → Within Kind Other → IsDone names capture more x y
    → StopsSending names capture Kind y z why → StopsSending names capture Other x z why
stop-behind names capture Kind Other more x y z why within done is = stop-after names capture Kind Other more.sends x y z why within done.sent done.still is

-- where nothing was sent before
pub stop-here : (names : List (List ℕ)) (capture : Option ℕ) (Kind Other : Sending → Type 0) (x y z : OutletsAt) (why : Stop) → Within Kind Other → y.ends ≡ x.ends → y.sink ≡ x.sink
    → StopsSending names capture Kind y z why → StopsSending names capture Other x z why
stop-here names capture Kind Other x y z why within ends sink is =
    stop-after names capture Kind Other [] x y z why within (quiet-sent names capture x y ends sink) (ap (λ k. k.faults) sink) is

-- a stop at a send of one kind is one at a send of a wider one
pub stop-wider : (names : List (List ℕ)) (capture : Option ℕ) (Kind Other : Sending → Type 0) (x y : OutletsAt) (why : Stop) → Within Kind Other → StopsSending names capture Kind x y why
    → StopsSending names capture Other x y why
stop-wider names capture Kind Other x y why within is = stop-here names capture Kind Other x x y why within refl refl is

-- a send that isn't written
pub stop-put : (names : List (List ℕ)) (capture : Option ℕ) (s : Sending) (x y : OutletsAt) (why : Stop) → is_writer capture s.sent.endpoint ≡ true → y.ends ≡ x.ends
    → StopsPut s x.sink y.sink why → StopsSending names capture (λ z. z ≡ s) x y why
stop-put names capture s x y (stop.NoFrame number) is ends put = record {
  sends = [];
  sent = quiet-sent names capture x y ends put.still;
  still = ap (λ k. k.faults) put.still;
  refused = s;
  kind = refl;
  endpoint = put.endpoint;
  no_frame = λ frame. put.other (frame is);
}
stop-put names capture s x y stop.WriteFault is ends put = put
stop-put names capture s x y stop.NoMemory is ends put = tt
stop-put names capture s x y (stop.Endpoint number) is ends put = absurd put
stop-put names capture s x y (stop.Capture number wrong) is ends put = absurd put
stop-put names capture s x y stop.Unread is ends put = absurd put
stop-put names capture s x y stop.Absent is ends put = absurd put
stop-put names capture s x y stop.Retires is ends put = absurd put
stop-put names capture s x y stop.Segments is ends put = absurd put
stop-put names capture s x y (stop.Lane number) is ends put = absurd put
stop-put names capture s x y (stop.InTheWay number) is ends put = absurd put
stop-put names capture s x y stop.NoRecords is ends put = absurd put

-- a send that isn't handed on
pub stop-hand : (names : List (List ℕ)) (capture : Option ℕ) (Kind : Sending → Type 0) (endpoint : ℕ) (x y : OutletsAt) (why : Stop) → StopsHanding names endpoint x.ends y.ends why
    → StopsSending names capture Kind x y why
stop-hand names capture Kind endpoint x y (stop.Endpoint number) (same, standing, fails) = record {
  sends = [];
  standing = ap (λ n. stands (name_of names n) x.ends) same ∙ standing;
  fails = subst (λ (n : ℕ). FailsAt (name_of names n) (all_received names [] x.ends) y.ends) (sym same)
      (subst (λ (es : List NamedEnd). FailsAt (name_of names endpoint) es y.ends) (sym (all_received_none names x.ends)) fails);
}
stop-hand names capture Kind endpoint x y (stop.NoFrame number) hand = absurd hand
stop-hand names capture Kind endpoint x y stop.WriteFault hand = absurd hand
stop-hand names capture Kind endpoint x y stop.NoMemory hand = tt
stop-hand names capture Kind endpoint x y (stop.Capture number wrong) hand = absurd hand
stop-hand names capture Kind endpoint x y stop.Unread hand = absurd hand
stop-hand names capture Kind endpoint x y stop.Absent hand = absurd hand
stop-hand names capture Kind endpoint x y stop.Retires hand = absurd hand
stop-hand names capture Kind endpoint x y stop.Segments hand = absurd hand
stop-hand names capture Kind endpoint x y (stop.Lane number) hand = absurd hand
stop-hand names capture Kind endpoint x y (stop.InTheWay number) hand = absurd hand
stop-hand names capture Kind endpoint x y stop.NoRecords hand = absurd hand
