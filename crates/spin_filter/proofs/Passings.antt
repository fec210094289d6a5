-- Records that are passed one after another.
use Rattle.std.proofs.Common.{◌≡◌, ◌+◌, ℕ, List, [], ◌∷◌, ◌++◌, length, drop, map, get_or, Option, IfSome, refl, sym, ap, subst, ◌∙◌, arith, inl, inr}
use Rattle.std.proofs.lemmas.Bool.{cases_lt}
use Rattle.std.proofs.lemmas.List.{length-append, length-map, map-append, get_or_append_left}
use Rattle.std.proofs.lemmas.List.Elements.{All-append}
use Rattle.std.proofs.Math.Seq.{get_or-append_seam}
use Rattle.std.specs.Prelude.{Ok}
use Rattle.spin_pcap.specs.declared.next.Next.TheVariants as next
use Rattle.spin_pcap.specs.Passing.{left_for}
use Rattle.spin_pcap.proofs.CaptureRecords.{told_more}
use Rattle.spin_frames.specs.declared.records.Found.TheVariants as found
use Rattle.spin_frames.specs.Packets.{Packet}
use Rattle.spin_table.specs.Setups.{SetupData}
use Rattle.spin_table.specs.States.{State}
use Rattle.spin_frames.specs.declared.head.Head.{Head}
use Rattle.spin_filter.specs.Counting.{joined, happened_at}
use Rattle.spin_filter.specs.Histories.{happened_in, ArePassed, AreRecords}
use Rattle.spin_filter.specs.Passing.{TakenSeen, Passed, IsPassed}
use Rattle.spin_filter.specs.Rounds.{event_at}
use Rattle.spin_filter.specs.Sending.{OutletsAt, IsDone}
use Rattle.spin_filter.specs.Inner.Sends.{IsOf}
use Rattle.spin_filter.specs.Inner.Stopping.{StandsBehind}
use Rattle.spin_filter.specs.Stops.{StandsAt, IsSentAt, IsSentFrom}
use Rattle.spin_filter.proofs.Doings.{PassedBy, Within, done-nothing, done-then, one-all, joined-one, joined-none, joined-end}
use Rattle.spin_filter.proofs.RecordsRead.{HasRead, FindsAt, read-none, read-more, read-stands, read-end, front}

-- what came of records behind others
pub happened-then : (a b : List Passed) → joined (happened_in a) (happened_in b) ≡ happened_in (a ++ b)
happened-then [] b = joined-none (happened_in b)
happened-then (p ∷ a) b = joined-one (happened_at p) (happened_in a) (happened_in b) ∙ ap (λ h. joined (happened_at p) h) (happened-then a b)

-- one record more
pub happened-more : (passed : List Passed) (p : Passed) → joined (happened_in passed) (happened_at p) ≡ happened_in (passed ++ p ∷ [])
happened-more passed p = ap (λ h. joined (happened_in passed) h) (sym (joined-end (happened_at p))) ∙ happened-then passed (p ∷ [])

pub passed-none : (d : SetupData) (s : State) (round : List ℕ) (head : Head) → ArePassed d s round head []
passed-none d s round head = record { heads = λ k x lt. absurd (omega (arith, lt)); turns = λ n p lt. absurd (omega (arith, lt)) }

pub passed-more : (d : SetupData) (s : State) (round : List ℕ) (head : Head) (passed : List Passed) (p : Passed) → ArePassed d s round head passed → p.taken.head ≡ head
    → IsPassed d s (event_at round (length passed)) p → ArePassed d s round head (passed ++ p ∷ [])
passed-more d s round head passed p are own is = record {
  heads = All-append (λ (q : Passed). q.taken.head ≡ head) passed (p ∷ []) are.heads (one-all (λ (q : Passed). q.taken.head ≡ head) p own);
  turns = λ n q lt. elim (cases_lt n (length passed)) [
    | inl less ↦ subst (λ (x : Passed). IsPassed d s (event_at round n) x) (sym (get_or_append_left passed (p ∷ []) q n less)) (are.turns n q less)
    | inr more ↦
        let same : n ≡ length passed = omega (arith, more, lt, length-append passed (p ∷ [])) in
        subst (λ (m : ℕ). IsPassed d s (event_at round m) (get_or (passed ++ p ∷ []) m q)) (sym same)
        (subst (λ (x : Passed). IsPassed d s (event_at round (length passed)) x) (sym (get_or-append_seam passed p [] q)) is)
  ];
}

-- ---- the records of a capture

-- A record is passed as this event, from outlets to outlets.
abbrev pub PassesOne : PassedBy → TakenSeen → ℕ → OutletsAt → OutletsAt → Type 0
PassesOne by taken event x y =
    (passed : Passed) × (passed.taken ≡ taken) × IsPassed by.setup by.state event passed × IsDone by.names by.capture (happened_at passed) x y

pub one-as : (by : PassedBy) (taken taken' : TakenSeen) (event event' : ℕ) (x y : OutletsAt) → taken ≡ taken' → event ≡ event' → PassesOne by taken event x y → PassesOne by taken' event' x y
one-as by taken taken' event event' x y same turn (passed, own, does, done) =
    (passed, own ∙ same, subst (λ (e : ℕ). IsPassed by.setup by.state e passed) turn does, done)

pub sent-as : (d : SetupData) (s : State) (taken taken' : TakenSeen) (event event' : ℕ) → taken ≡ taken' → event ≡ event' → Within (IsOf taken (IsSentAt d s event)) (IsOf taken' (IsSentAt d s event'))
sent-as d s taken taken' event event' same turn send (at, sent) = (at ∙ same, subst (λ (e : ℕ). IsSentAt d s e send) turn sent)

-- What passing the records of a capture gives, behind which so many bytes are left.
abbrev pub PassesAll : PassedBy → Head → Option (List ℕ) → ℕ → OutletsAt → OutletsAt → Type 0
PassesAll by head start cut x y =
    (passed : List Passed) × ArePassed by.setup by.state by.round head passed × IfSome start (λ bytes. AreRecords head.order bytes passed cut) × IsDone by.names by.capture (happened_in passed) x y

-- a capture whose header says this, of which so much was left behind the header
module _ (by : PassedBy) (head : Head) (start : Option (List ℕ)) where
  -- So many records were passed, and this is left.
  pub record HasPassed (number : ℕ) (left : Option (List ℕ)) (x y : OutletsAt) : Type 0 where
    pub passed : List Passed
    pub size : length passed ≡ number
    pub are : ArePassed by.setup by.state by.round head passed
    pub read : IfSome start (λ bytes. HasRead head.order bytes (map (λ p. p.taken.packet) passed) left)
    pub done : IsDone by.names by.capture (happened_in passed) x y

  pub records-none : (x : OutletsAt) → HasPassed 0 start x x
  records-none x = record {
    passed = [];
    size = refl;
    are = passed-none by.setup by.state by.round head;
    read = read-none head.order start;
    done = done-nothing by.names by.capture x;
  }

  -- one record more
  pub records-more : (number : ℕ) (left behind : Option (List ℕ)) (held : List ℕ) (size : ℕ) (x y z : OutletsAt) → HasPassed number left x y
      → FindsAt head.order left (Ok (found.Record size)) held behind → PassesOne by (record { head = head; packet = front size held }) (event_at by.round number) y z
      → HasPassed (number + 1) (left_for (drop (16 + size) held) behind) x z
  records-more number left behind held size x y z h f (p, same, does, done) =
      let own : p.taken.head ≡ head = ap (λ t. t.head) same in
      let turns : IsPassed by.setup by.state (event_at by.round (length h.passed)) p = subst (λ (n : ℕ). IsPassed by.setup by.state (event_at by.round n) p) (sym h.size) does in
      let packets : map (λ (q : Passed). q.taken.packet) (h.passed ++ p ∷ []) ≡ map (λ (q : Passed). q.taken.packet) h.passed ++ front size held ∷ [] =
      map-append (λ (q : Passed). q.taken.packet) h.passed (p ∷ []) ∙ ap (λ (t : TakenSeen). map (λ (q : Passed). q.taken.packet) h.passed ++ t.packet ∷ []) same in
      record {
        passed = h.passed ++ p ∷ [];
        size = length-append h.passed (p ∷ []) ∙ ap (λ n. n + 1) h.size;
        are = passed-more by.setup by.state by.round head h.passed p h.are own turns;
        read = told_more (λ bytes. HasRead head.order bytes (map (λ q. q.taken.packet) h.passed) left)
            (λ bytes. HasRead head.order bytes (map (λ q. q.taken.packet) (h.passed ++ p ∷ [])) (left_for (drop (16 + size) held) behind)) start h.read
            (λ bytes r. subst (λ (ps : List Packet). HasRead head.order bytes ps (left_for (drop (16 + size) held) behind)) (sym packets)
            (read-more head.order bytes (map (λ q. q.taken.packet) h.passed) left behind held size r f));
        done = subst (λ k. IsDone by.names by.capture k x z) (happened-more h.passed p) (done-then by.names by.capture (happened_in h.passed) (happened_at p) x y z h.done done);
      }

  -- where the record stands that is passed next
  pub record-stands : (number : ℕ) (left behind : Option (List ℕ)) (held : List ℕ) (size : ℕ) (x y : OutletsAt) → HasPassed number left x y → FindsAt head.order left (Ok (found.Record size)) held behind
      → Within (IsOf (record { head = head; packet = front size held }) (IsSentAt by.setup by.state (event_at by.round number))) (IsSentFrom by.setup by.state by.round (StandsBehind head start))
  record-stands number left behind held size x y h f send (at, sent) =
      let packets = map (λ (q : Passed). q.taken.packet) h.passed in
      let count : number ≡ length packets = sym (length-map h.passed (λ (q : Passed). q.taken.packet) ∙ h.size) in
      record {
        number = number;
        stands = record {
          head_is = ap (λ (t : TakenSeen). t.head) at;
          body = told_more (λ bytes. HasRead head.order bytes packets left) (λ bytes. StandsAt head.order bytes number send.taken.packet) start h.read
              (λ bytes r. subst (λ (t : TakenSeen). StandsAt head.order bytes number t.packet) (sym at) (read-stands head.order bytes packets left behind held size number r f count));
        };
        sent = sent;
      }

  -- no record more
  pub records-end : (number : ℕ) (left behind : Option (List ℕ)) (held : List ℕ) (x y : OutletsAt) → HasPassed number left x y → FindsAt head.order left (Ok found.End) held behind
      → PassesAll by head start 0 x y
  records-end number left behind held x y h f = (
    h.passed,
    h.are,
    told_more (λ bytes. HasRead head.order bytes (map (λ q. q.taken.packet) h.passed) left) (λ bytes. AreRecords head.order bytes h.passed 0) start h.read
        (λ bytes r. (next.End, read-end head.order bytes (map (λ q. q.taken.packet) h.passed) left behind held (Ok next.End) r f.kept f.finds.1 f.finds.0, refl)),
    h.done,
  )

  pub records-cut : (number : ℕ) (left behind : Option (List ℕ)) (held : List ℕ) (count : ℕ) (x y : OutletsAt) → HasPassed number left x y
      → FindsAt head.order left (Ok (found.Cut count)) held behind → PassesAll by head start count x y
  records-cut number left behind held count x y h f = (
    h.passed,
    h.are,
    told_more (λ bytes. HasRead head.order bytes (map (λ q. q.taken.packet) h.passed) left) (λ bytes. AreRecords head.order bytes h.passed count) start h.read
        (λ bytes r. (
          next.Cut count,
          read-end head.order bytes (map (λ q. q.taken.packet) h.passed) left behind held (Ok (next.Cut count)) r f.kept f.finds.1
              (record { some = f.finds.2; size = f.finds.0; few = (let short = f.finds.0 in omega arith); begun = f.finds.3 }),
          refl,
        )),
    h.done,
  )
