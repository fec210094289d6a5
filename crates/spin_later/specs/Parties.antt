-- Queues and parties as callers see them.
use Rattle.std.specs.Prelude.{◌≡◌, ℕ, ◌<◌, List, [], ◌∷◌, ◌++◌, All, Any, map, length}
use Rattle.atomic_table.specs.Seated.{TableId}
use Rattle.spin_later.specs.declared.task.Task.{Task}
use Rattle.spin_later.specs.declared.known.Hand.{Hand}
use Rattle.spin_later.specs.History.{Happened}
use Rattle.spin_later.specs.Rule.{hand, new_hands}

-- which queue it is, its number of parties, and how many tasks it holds at most
pub record QueueValue : Type 0 where
  pub id : TableId
  pub parties : ℕ
  pub capacity : ℕ

-- its queue with the number of parties, its number, the tasks that it sent, and those that it took
pub record PartyValue : Type 0 where
  pub queue : TableId
  pub parties : ℕ
  pub number : ℕ
  pub sent : List Task
  pub taken : List Task

abbrev pub party_value : TableId → ℕ → Hand → PartyValue
party_value id parties h = record {
  queue = id;
  parties = parties;
  number = h.number;
  sent = h.sent;
  taken = h.taken;
}

abbrev pub hand_of : PartyValue → Hand
hand_of p = hand p.number p.sent p.taken

-- new parties with the first n numbers
abbrev pub first_parties : TableId → ℕ → ℕ → List PartyValue
first_parties id parties n = map (party_value id parties) (new_hands 0 n)

-- as many parties as asked, the k-th, from 0, having number k, which sent and took nothing
abbrev pub new_parties : TableId → ℕ → List PartyValue
new_parties id parties = first_parties id parties parties

-- the party after it sent a task, or took one
abbrev pub sent : PartyValue → Task → PartyValue
sent p task = record p { sent = p.sent ++ task ∷ [] }

abbrev pub took : PartyValue → Task → PartyValue
took p task = record p { taken = p.taken ++ task ∷ [] }

-- of each sender, this task comes after all that were taken
abbrev pub IsNext : List Task → Task → Type 0
IsNext taken task = All (λ t. t.sender ≡ task.sender → t.number < task.number) taken

-- some history has what this party did, and the queue held so many tasks
abbrev pub WasAt : PartyValue → ℕ → Type 0
WasAt p n =
    (held : List Task) × (length held ≡ n) × Happened p.parties (hand_of p ∷ []) held

-- it is a party of this queue
abbrev pub IsPartyOf : QueueValue → PartyValue → Type 0
IsPartyOf q p = (p.queue ≡ q.id) × (p.parties ≡ q.parties)

-- it is still the party of that number of that queue
abbrev pub IsSameParty : PartyValue → PartyValue → Type 0
IsSameParty old new =
    (new.queue ≡ old.queue) × (new.parties ≡ old.parties) × (new.number ≡ old.number)

-- each party of the queue is among these
abbrev pub AreAll : ℕ → List PartyValue → Type 0
AreAll n parties = (k : ℕ) → k < n → Any (λ p. p.number ≡ k) parties
