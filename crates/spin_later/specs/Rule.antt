-- The fact of a queue that holds between any two of its steps, and what each kind of step does.
use Rattle.std.specs.Prelude.{◌≡◌, ℕ, zero, suc, ◌+◌, ◌<◌, List, [], ◌∷◌, ◌++◌, length, map, take}
use Rattle.std.specs.Prelude.{drop, All, Any}
use mathlib.Core.Option.{some}
use lib.ListN.{get_elem?}
use Rattle.spin_later.specs.declared.task.Task.{Task}
use Rattle.spin_later.specs.declared.known.Hand.{Hand}
use Rattle.spin_later.specs.declared.known.Known.{Known}
use Rattle.spin_later.specs.History.{Take, IsHistory, StandsIn, Happened}

abbrev pub hand : ℕ → List Task → List Task → Hand
hand number sent taken = record { number = number; sent = sent; taken = taken }

abbrev pub known : ℕ → List Hand → List Task → Known
known parties hands left = record { parties = parties; hands = hands; left = left }

-- n parties that did nothing, with the numbers from k on
abbrev pub new_hands : ℕ → ℕ → List Hand
new_hands k zero = []
new_hands k (suc n) = hand k [] [] ∷ new_hands (suc k) n

-- at first there is one party
abbrev pub first : Known
first = known 1 (new_hands 0 1) []

-- what a pass has that stands for no party any more
abbrev pub spent : Known
spent = known 0 [] []

-- what a pass knows: its parties did just what the history has of them, and stand nowhere else, and
-- it knows how many parties there are and what was left
pub record Fits (parties : ℕ) (puts : List Task) (takes : List Take) (left : List Task)
    (owner : ℕ → ℕ) (pass : ℕ) (v : Known) : Type 0 where
  pub stands : All (StandsIn puts takes) v.hands
  pub below : All (λ h. h.number < parties) v.hands
  pub owned : All (λ h. owner h.number ≡ pass) v.hands
  pub parties_is : 0 < length v.hands → v.parties ≡ parties
  pub left_is : 0 < length v.hands → v.left ≡ left

-- there is a history of what the queue holds and of what each pass knows, and each task put is as
-- agreed. What was left when the parties had ended counts as held
pub record Kept (Agreed : Task → Type 0) (items : List Task) (views : List Known) : Type 0 where
  pub parties : ℕ
  pub puts : List Task
  pub takes : List Take
  pub left : List Task
  pub owner : ℕ → ℕ
  pub history : IsHistory parties puts takes (left ++ items)
  pub agreed : All Agreed puts
  pub fits : (pass : ℕ) (v : Known) → get_elem? views pass ≡ some v →
      Fits parties puts takes left owner pass v

-- a put: the task is the last that the party sent
abbrev pub put_by : Known → Task → Known
put_by v x = known v.parties (map (λ h. hand h.number (h.sent ++ x ∷ []) h.taken) v.hands) v.left

-- a take: the task is the last that the party took
abbrev pub taken_into : Known → Task → Known
taken_into v x = known v.parties (map (λ h. hand h.number h.sent (h.taken ++ x ∷ [])) v.hands) v.left

-- a take when the parties have ended: the task is the last that was left
abbrev pub left_over : Known → Task → Known
left_over v x = known v.parties v.hands (v.left ++ x ∷ [])

-- a task taken: its sender is a party, and of this sender it comes after all that the party took
pub record Comes (v : Known) (x : Task) : Type 0 where
  pub below : x.sender < v.parties
  pub rising : All (λ h. All (λ t. t.sender ≡ x.sender → t.number < x.number) h.taken) v.hands

-- a party more, and the two parts of the parties, of which the second has the first one
abbrev pub with_one_more : Known → Known
with_one_more v = known (v.parties + 1) (v.hands ++ hand v.parties [] [] ∷ []) v.left

abbrev pub without_first : Known → Known
without_first v = known v.parties (drop 1 v.hands) v.left

abbrev pub first_alone : Known → Known
first_alone v = known v.parties (take 1 v.hands) v.left

-- the parties of both passes, those of the second first
abbrev pub together : Known → Known → Known
together v w = known v.parties (w.hands ++ v.hands) v.left

-- what a look tells: some history has what the pass's parties did
abbrev pub Learned : Known → List Task → Type 0
Learned v items = Happened v.parties v.hands (v.left ++ items)

-- the pass stands for each party
abbrev pub HasAll : Known → Type 0
HasAll v = (n : ℕ) → n < v.parties → Any (λ h. h.number ≡ n) v.hands
