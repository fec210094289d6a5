-- Each step keeps the rule of a queue.
use Rattle.std.proofs.Common.{◌≡◌, ◌≢◌, ◌==◌, ℕ, ◌+◌, ◌<◌, Bool, cond, List, [], ◌∷◌, ◌++◌, length, set, refl, sym, ap, subst, ◌∙◌, arith, append_assoc, ⊎_elim}
use Rattle.std.specs.Prelude.{All, slice_index_or}
use mathlib.Core.Logic.{dite}
use native.Mathlib.Decide.{ℕ_discrete}
use mathlib.Core.Option.{some, some-ne-none}
use lib.ListN.{get_elem?}
use Rattle.std.proofs.lemmas.List.{map-append}
use Rattle.std.proofs.lemmas.List.Elements.{All-nil, All-cons, All-head, All-tail, All-push}
use Rattle.crossbeam_queue.specs.Fifo.{Pushes, Pops, Forks, Merges, Learns}
use Rattle.crossbeam_queue.proofs.Lists.{at_set}
use Rattle.spin_later.specs.declared.task.Task.{Task}
use Rattle.spin_later.specs.declared.known.Hand.{Hand}
use Rattle.spin_later.specs.declared.known.Known.{Known}
use Rattle.spin_later.specs.History.{Take, sent_by, tasks_of, taken_by, AreNumbered, IsHistory, StandsIn}
use Rattle.spin_later.specs.Rule.{hand, known, first, spent, Fits, Kept, put_by, taken_into, left_over, Comes, with_one_more, Learned, HasAll}
use Rattle.spin_later.proofs.TaskFilters.{at_end, got_end, sent_own, sent_other, taken_own, taken_other, sent_none, taken_none, all_taken, before_last, all_middle, is_same, is_other}

all_one : {X : Type 0} (P : X → Type 0) (x : X) → P x → All P (x ∷ [])
all_one P x p = All-cons P x [] p (All-nil P)

-- one view changes
module _ (F : ℕ → Known → Type 0) where
  each_set : (views : List Known) (pass : ℕ) (w : Known) → F pass w → ((j : ℕ) (u : Known) → j ≢ pass → get_elem? views j ≡ some u → F j u)
      → (j : ℕ) (u : Known) → get_elem? (set views pass w) j ≡ some u → F j u
  each_set views pass w mine others j u e = ⊎_elim (λ (x : (j ≡ pass) × (w ≡ u)). subst (λ (y : ℕ × Known). F y.0 y.1) (λ i. (sym x.0 i, x.1 i)) mine)
      (λ (x : (j ≢ pass) × (get_elem? views j ≡ some u)). others j u x.0 x.1) (at_set views pass j w u e)

-- the history after a put

numbered_push : (ts : List Task) (x : Task) → AreNumbered ts → x.number ≡ length ts → AreNumbered (ts ++ x ∷ [])
numbered_push ts x h e k t there = ⊎_elim (λ l. h k t l) (λ (r : (k ≡ length ts) × (x ≡ t)). ap (λ (u : Task). u.number) (sym r.1) ∙ e ∙ sym r.0) (got_end ts x t k there)

history_put : (parties : ℕ) (puts : List Task) (takes : List Take) (left items : List Task) (x : Task) → IsHistory parties puts takes (left ++ items) → x.sender < parties
    → x.number ≡ length (sent_by x.sender puts) → IsHistory parties (puts ++ x ∷ []) takes (left ++ (items ++ x ∷ []))
history_put parties puts takes left items x h low next =
    record {
      order = ap (λ l. l ++ x ∷ []) h.order ∙ append_assoc (tasks_of takes) (left ++ items) (x ∷ []) ∙ ap (λ l. tasks_of takes ++ l) (append_assoc left items (x ∷ []));
      numbered = λ n. dite (ℕ_discrete x.sender n)
          (λ (same : x.sender ≡ n). subst AreNumbered (sym (sent_own n puts x same)) (numbered_push (sent_by n puts) x (h.numbered n) (next ∙ ap (λ m. length (sent_by m puts)) same)))
          (λ (other : x.sender ≢ n). subst AreNumbered (sym (sent_other n puts x other)) (h.numbered n));
      senders = All-push (λ t. t.sender < parties) puts x h.senders low;
      takers = h.takers;
    }

-- the history after a take

history_take : (parties : ℕ) (puts : List Task) (takes : List Take) (items : List Task) (t : Take)
    → IsHistory parties puts takes (t.task ∷ items) → t.party < parties → IsHistory parties puts (takes ++ t ∷ []) items
history_take parties puts takes items t h low =
    record {
      order = h.order ∙ sym (append_assoc (tasks_of takes) (t.task ∷ []) items) ∙ ap (λ l. l ++ items) (sym (map-append (λ (u : Take). u.task) takes (t ∷ [])));
      numbered = h.numbered;
      senders = h.senders;
      takers = All-push (λ u. u.party < parties) takes t h.takers low;
    }

-- the kinds of step

pub opens : (Agreed : Task → Type 0) → Kept Agreed [] (first ∷ [])
opens Agreed = record {
  parties = 1;
  puts = [];
  takes = [];
  left = [];
  owner = λ n. 0;
  history = record { order = refl; numbered = λ n k t e. absurd (grind arith); senders = All-nil (λ t. t.sender < 1); takers = All-nil (λ t. t.party < 1) };
  agreed = All-nil Agreed;
  fits = λ pass v e. ⊎_elim (λ none. absurd (some-ne-none v (sym none)))
      (λ (is : (pass ≡ 0) × (first ≡ v)). subst (λ (y : ℕ × Known). Fits 1 [] [] [] (λ n. 0) y.0 y.1) (λ i. (sym is.0 i, is.1 i)) (record {
        stands = all_one (StandsIn [] []) (hand 0 [] []) (record { sent = refl; taken = refl });
        below = all_one (λ (h : Hand). h.number < 1) (hand 0 [] []) (omega arith);
        owned = all_one (λ (h : Hand). ◌≡◌ {A = ℕ} 0 0) (hand 0 [] []) refl;
        parties_is = λ has. refl;
        left_is = λ has. refl;
      })) (at_end [] first v pass e);
}

pub puts : (Agreed : Task → Type 0) (n pass P : ℕ) (h : Hand) (x : Task) → x.sender ≡ h.number → x.number ≡ length h.sent → Agreed x
    → Pushes (Kept Agreed) n pass (known P (h ∷ []) []) x (λ w. w ≡ put_by (known P (h ∷ []) []) x)
puts Agreed n pass P h x from next good items views room K at =
    let w = put_by (known P (h ∷ []) []) x in
    let mine = K.fits pass (known P (h ∷ []) []) at in
    let stands = All-head (StandsIn K.puts K.takes) h [] mine.stands in
    let below = All-head (λ (g : Hand). g.number < K.parties) h [] mine.below in
    let owns = All-head (λ (g : Hand). K.owner g.number ≡ pass) h [] mine.owned in
    let h' = hand h.number (h.sent ++ x ∷ []) h.taken in
    let here = sym from in (
      w,
      record {
        parties = K.parties;
        puts = K.puts ++ x ∷ [];
        takes = K.takes;
        left = K.left;
        owner = K.owner;
        history = history_put K.parties K.puts K.takes K.left items x K.history (subst (λ m. m < K.parties) here below) (next ∙ ap length (stands.sent ∙ ap (λ m. sent_by m K.puts) here));
        agreed = All-push Agreed K.puts x K.agreed good;
        fits = each_set (Fits K.parties (K.puts ++ x ∷ []) K.takes K.left K.owner) views pass w
            (record {
              stands = all_one (StandsIn (K.puts ++ x ∷ []) K.takes) h' (record { sent = ap (λ l. l ++ x ∷ []) stands.sent ∙ sym (sent_own h.number K.puts x from); taken = stands.taken });
              below = all_one (λ (g : Hand). g.number < K.parties) h' below;
              owned = all_one (λ (g : Hand). K.owner g.number ≡ pass) h' owns;
              parties_is = λ has. mine.parties_is (omega arith);
              left_is = λ has. mine.left_is (omega arith);
            })
            (λ j u apart e.
            let f = K.fits j u e in
            record {
              stands = λ k d lt.
                  let s = f.stands k d lt in
                  let g = slice_index_or u.hands k d in
                  let ne : x.sender ≢ g.number = λ same. apart (sym (f.owned k d lt) ∙ ap K.owner (sym same ∙ from) ∙ owns) in
                  record { sent = s.sent ∙ sym (sent_other g.number K.puts x ne); taken = s.taken };
              below = f.below;
              owned = f.owned;
              parties_is = f.parties_is;
              left_is = f.left_is;
            });
      },
      refl,
    )

pub takes : (Agreed : Task → Type 0) (pass P : ℕ) (h : Hand)
    → Pops (Kept Agreed) pass (known P (h ∷ []) []) (λ x w. (w ≡ taken_into (known P (h ∷ []) []) x) × Comes (known P (h ∷ []) []) x × Agreed x)
takes Agreed pass P h x items views K at =
    let v = known P (h ∷ []) [] in
    let w = taken_into v x in
    let mine = K.fits pass v at in
    let has : 0 < length v.hands = omega arith in
    let stands = All-head (StandsIn K.puts K.takes) h [] mine.stands in
    let below = All-head (λ (g : Hand). g.number < K.parties) h [] mine.below in
    let owns = All-head (λ (g : Hand). K.owner g.number ≡ pass) h [] mine.owned in
    let h' = hand h.number h.sent (h.taken ++ x ∷ []) in
    let t : Take = record { party = h.number; task = x } in
    let old : IsHistory K.parties K.puts K.takes (x ∷ items) = subst (λ l. IsHistory K.parties K.puts K.takes (l ++ x ∷ items)) (sym (mine.left_is has)) K.history in
    let rising = before_last K.puts (tasks_of K.takes) x items old.order old.numbered in (
      w,
      record {
        parties = K.parties;
        puts = K.puts;
        takes = K.takes ++ t ∷ [];
        left = K.left;
        owner = K.owner;
        history = subst (λ l. IsHistory K.parties K.puts (K.takes ++ t ∷ []) (l ++ items)) (mine.left_is has) (history_take K.parties K.puts K.takes items t old below);
        agreed = K.agreed;
        fits = each_set (Fits K.parties K.puts (K.takes ++ t ∷ []) K.left K.owner) views pass w
            (record {
              stands = all_one (StandsIn K.puts (K.takes ++ t ∷ [])) h' (record { sent = stands.sent; taken = ap (λ l. l ++ x ∷ []) stands.taken ∙ sym (taken_own K.takes t) });
              below = all_one (λ (g : Hand). g.number < K.parties) h' below;
              owned = all_one (λ (g : Hand). K.owner g.number ≡ pass) h' owns;
              parties_is = λ _. mine.parties_is has;
              left_is = λ _. mine.left_is has;
            })
            (λ j u apart e.
            let f = K.fits j u e in
            record {
              stands = λ k d lt.
                  let s = f.stands k d lt in
                  let g = slice_index_or u.hands k d in
                  let ne : h.number ≢ g.number = λ same. apart (sym (f.owned k d lt) ∙ ap K.owner (sym same) ∙ owns) in
                  record { sent = s.sent; taken = s.taken ∙ sym (taken_other g.number K.takes t ne) };
              below = f.below;
              owned = f.owned;
              parties_is = f.parties_is;
              left_is = f.left_is;
            });
      },
      (
        refl,
        record {
          below = subst (λ m. x.sender < m) (sym (mine.parties_is has))
              (let all = subst (All (λ (u : Task). u.sender < K.parties)) old.order old.senders in rising.0 (λ (u : Task). u.sender < K.parties) all);
          rising = all_one (λ (g : Hand). All (λ (u : Task). u.sender ≡ x.sender → u.number < x.number) g.taken) h
              (subst (All (λ (u : Task). u.sender ≡ x.sender → u.number < x.number)) (sym stands.taken)
              (all_taken (λ (u : Task). u.sender ≡ x.sender → u.number < x.number) h.number K.takes rising.1));
        },
        rising.0 Agreed (subst (All Agreed) old.order K.agreed),
      ),
    )

-- where a pass stands for each party, no other pass stands for one
no_other : (parties : ℕ) (ps : List Task) (ts : List Take) (left : List Task) (owner : ℕ → ℕ) (pass j : ℕ) (v u : Known)
    → Fits parties ps ts left owner pass v → HasAll v → 0 < length v.hands → j ≢ pass
    → Fits parties ps ts left owner j u → {X : Type 0} → 0 < length u.hands → X
no_other parties ps ts left owner pass j v u mine all has apart f has' =
    let h = slice_index_or u.hands 0 (hand 0 [] []) in
    let low : h.number < v.parties = subst (λ m. h.number < m) (sym (mine.parties_is has)) (f.below 0 (hand 0 [] []) has') in
    let found = all h.number low in
    let is : owner (slice_index_or v.hands found.0 found.1).number ≡ pass = mine.owned found.0 found.1 found.2 in
    absurd (apart (sym (f.owned 0 (hand 0 [] []) has') ∙ ap owner (sym found.4) ∙ ap (λ (g : Hand). owner g.number) (sym found.3) ∙ is))

pub clears : (Agreed : Task → Type 0) (pass : ℕ) (v : Known) → HasAll v → 0 < length v.hands → Pops (Kept Agreed) pass v (λ x w. (w ≡ left_over v x) × Agreed x)
clears Agreed pass v all has x items views K at =
    let w = left_over v x in
    let mine = K.fits pass v at in (
      w,
      record {
        parties = K.parties;
        puts = K.puts;
        takes = K.takes;
        left = K.left ++ x ∷ [];
        owner = K.owner;
        history = subst (IsHistory K.parties K.puts K.takes) (sym (append_assoc K.left (x ∷ []) items)) K.history;
        agreed = K.agreed;
        fits = each_set (Fits K.parties K.puts K.takes (K.left ++ x ∷ []) K.owner) views pass w
            (record { stands = mine.stands; below = mine.below; owned = mine.owned; parties_is = mine.parties_is; left_is = λ _. ap (λ l. l ++ x ∷ []) (mine.left_is has) })
            (λ j u apart e.
            let f = K.fits j u e in
            record {
              stands = f.stands;
              below = f.below;
              owned = f.owned;
              parties_is = f.parties_is;
              left_is = λ has'. no_other K.parties K.puts K.takes K.left K.owner pass j v u mine all has apart f has';
            });
      },
      (refl, all_middle Agreed (tasks_of K.takes ++ K.left) x items (subst (All Agreed) (K.history.order ∙ sym (append_assoc (tasks_of K.takes) K.left (x ∷ items))) K.agreed)),
    )

fits_spent : (parties : ℕ) (ps : List Task) (ts : List Take) (left : List Task) (owner : ℕ → ℕ) (pass : ℕ) → Fits parties ps ts left owner pass spent
fits_spent parties ps ts left owner pass = record {
  stands = All-nil (StandsIn ps ts);
  below = All-nil (λ (h : Hand). h.number < parties);
  owned = All-nil (λ (h : Hand). owner h.number ≡ pass);
  parties_is = λ none. absurd (omega arith);
  left_is = λ none. absurd (omega arith);
}

-- the owners where one number has another
abbrev changed : (ℕ → ℕ) → ℕ → ℕ → ℕ → ℕ
changed owner n to m = cond (m == n) to (owner m)

changed_here : (owner : ℕ → ℕ) (n to m : ℕ) → m ≡ n → changed owner n to m ≡ to
changed_here owner n to m e = ap (λ (b : Bool). cond b to (owner m)) (is_same m n e)

changed_else : (owner : ℕ → ℕ) (n to m : ℕ) → m ≢ n → changed owner n to m ≡ owner m
changed_else owner n to m ne = ap (λ (b : Bool). cond b to (owner m)) (is_other m n ne)

pub grows : (Agreed : Task → Type 0) (pass : ℕ) (v : Known) → HasAll v → 0 < length v.hands → Forks (Kept Agreed) pass v (with_one_more v) spent
grows Agreed pass v all has items views K at =
    let mine = K.fits pass v at in
    let P = K.parties in
    let owner = changed K.owner P pass in
    let is = mine.parties_is has in
    let new = hand v.parties [] [] in
    let vs = set views pass (with_one_more v) in
    let F = Fits (P + 1) K.puts K.takes K.left owner in
    let fits : (j : ℕ) (u : Known) → get_elem? vs j ≡ some u → F j u = each_set F views pass (with_one_more v)
    (record {
      stands = All-push (StandsIn K.puts K.takes) v.hands new mine.stands (record {
        sent = sym (ap (λ m. sent_by m K.puts) is ∙ sent_none P K.puts K.history.senders);
        taken = sym (ap (λ m. taken_by m K.takes) is ∙ taken_none P K.takes K.history.takers);
      });
      below = All-push (λ (h : Hand). h.number < P + 1) v.hands new (λ k d lt. let low = mine.below k d lt in omega arith) (omega arith);
      owned = All-push (λ (h : Hand). owner h.number ≡ pass) v.hands new
          (λ k d lt. let low = mine.below k d lt in changed_else K.owner P pass (slice_index_or v.hands k d).number (λ e. omega arith) ∙ mine.owned k d lt) (changed_here K.owner P pass v.parties is);
      parties_is = λ _. ap (λ m. m + 1) is;
      left_is = λ _. mine.left_is has;
    })
    (λ j u apart e.
    let f = K.fits j u e in
    record {
      stands = f.stands;
      below = λ k d lt. let low = f.below k d lt in omega arith;
      owned = λ k d lt. no_other K.parties K.puts K.takes K.left K.owner pass j v u mine all has apart f (omega arith);
      parties_is = λ has'. no_other K.parties K.puts K.takes K.left K.owner pass j v u mine all has apart f has';
      left_is = f.left_is;
    }) in
    record {
      parties = P + 1;
      puts = K.puts;
      takes = K.takes;
      left = K.left;
      owner = owner;
      history = record {
        order = K.history.order;
        numbered = K.history.numbered;
        senders = λ k d lt. let low = K.history.senders k d lt in omega arith;
        takers = λ k d lt. let low = K.history.takers k d lt in omega arith;
      };
      agreed = K.agreed;
      fits = λ j u e. ⊎_elim (λ l. fits j u l) (λ (r : (j ≡ length vs) × (spent ≡ u)). subst (λ (x : Known). F j x) r.1 (fits_spent (P + 1) K.puts K.takes K.left owner j)) (at_end vs spent u j e);
    }

pub parts : (Agreed : Task → Type 0) (pass P : ℕ) (h : Hand) (hs : List Hand) (left : List Task) → All (λ g. g.number ≢ h.number) hs
    → Forks (Kept Agreed) pass (known P (h ∷ hs) left) (known P hs left) (known P (h ∷ []) left)
parts Agreed pass P h hs left others items views K at =
    let v = known P (h ∷ hs) left in
    let mine = K.fits pass v at in
    let rest = known P hs left in
    let alone = known P (h ∷ []) left in
    let vs = set views pass rest in
    let owner = changed K.owner h.number (length vs) in
    let owns = All-head (λ (g : Hand). K.owner g.number ≡ pass) h hs mine.owned in
    let F = Fits K.parties K.puts K.takes K.left owner in
    let fits : (j : ℕ) (u : Known) → get_elem? vs j ≡ some u → F j u = each_set F views pass rest
    (record {
      stands = All-tail (StandsIn K.puts K.takes) h hs mine.stands;
      below = All-tail (λ (g : Hand). g.number < K.parties) h hs mine.below;
      owned = λ k d lt.
          changed_else K.owner h.number (length vs) (slice_index_or hs k d).number (others k d lt) ∙ All-tail (λ (g : Hand). K.owner g.number ≡ pass) h hs mine.owned k d lt;
      parties_is = λ _. mine.parties_is (omega arith);
      left_is = λ _. mine.left_is (omega arith);
    })
    (λ j u apart e.
    let f = K.fits j u e in
    record {
      stands = f.stands;
      below = f.below;
      owned = λ k d lt.
          changed_else K.owner h.number (length vs) (slice_index_or u.hands k d).number (λ same. apart (sym (f.owned k d lt) ∙ ap K.owner same ∙ owns)) ∙ f.owned k d lt;
      parties_is = f.parties_is;
      left_is = f.left_is;
    }) in
    record {
      parties = K.parties;
      puts = K.puts;
      takes = K.takes;
      left = K.left;
      owner = owner;
      history = K.history;
      agreed = K.agreed;
      fits = λ j u e. ⊎_elim (λ l. fits j u l) (λ (r : (j ≡ length vs) × (alone ≡ u)). subst (λ (x : Known). F j x) r.1 (record {
        stands = all_one (StandsIn K.puts K.takes) h (All-head (StandsIn K.puts K.takes) h hs mine.stands);
        below = all_one (λ (g : Hand). g.number < K.parties) h (All-head (λ (g : Hand). g.number < K.parties) h hs mine.below);
        owned = all_one (λ (g : Hand). owner g.number ≡ j) h (changed_here K.owner h.number (length vs) h.number refl ∙ sym r.0);
        parties_is = λ _. mine.parties_is (omega arith);
        left_is = λ _. mine.left_is (omega arith);
      })) (at_end vs alone u j e);
    }

pub gathers : (Agreed : Task → Type 0) (pass P : ℕ) (hs : List Hand) (other : ℕ) (h : Hand) → Merges (Kept Agreed) pass (known P hs []) other (known P (h ∷ []) []) (known P (h ∷ hs) []) spent
gathers Agreed pass P hs other h items views K at apart there =
    let v = known P hs [] in
    let w = known P (h ∷ []) [] in
    let both = known P (h ∷ hs) [] in
    let was : get_elem? views other ≡ some w =
    ⊎_elim (λ (x : (other ≡ pass) × (both ≡ w)). absurd (apart x.0)) (λ (x : (other ≢ pass) × (get_elem? views other ≡ some w)). x.1) (at_set views pass other both w there) in
    let mine = K.fits pass v at in
    let theirs = K.fits other w was in
    let owns = All-head (λ (g : Hand). K.owner g.number ≡ other) h [] theirs.owned in
    let owner : ℕ → ℕ = λ n. changed (λ m. K.owner n) other pass (K.owner n) in
    let F = Fits K.parties K.puts K.takes K.left owner in
    let Now : ℕ → Known → Type 0 = λ j u. j ≢ other → F j u in
    let has : 0 < length w.hands = omega arith in
    let now : (j : ℕ) (u : Known) → get_elem? (set views pass both) j ≡ some u → Now j u = each_set Now views pass both
    (λ _. record {
      stands = All-cons (StandsIn K.puts K.takes) h hs (All-head (StandsIn K.puts K.takes) h [] theirs.stands) mine.stands;
      below = All-cons (λ (g : Hand). g.number < K.parties) h hs (All-head (λ (g : Hand). g.number < K.parties) h [] theirs.below) mine.below;
      owned = All-cons (λ (g : Hand). owner g.number ≡ pass) h hs (changed_here (λ m. K.owner h.number) other pass (K.owner h.number) owns)
          (λ k d lt. let o = mine.owned k d lt in let n = (slice_index_or hs k d).number in changed_else (λ m. K.owner n) other pass (K.owner n) (λ e. apart (sym e ∙ o)) ∙ o);
      parties_is = λ _. theirs.parties_is has;
      left_is = λ _. theirs.left_is has;
    })
    (λ j u _ e far.
    let f = K.fits j u e in
    record {
      stands = f.stands;
      below = f.below;
      owned = λ k d lt. let o = f.owned k d lt in let n = (slice_index_or u.hands k d).number in changed_else (λ m. K.owner n) other pass (K.owner n) (λ e. far (sym o ∙ e)) ∙ o;
      parties_is = f.parties_is;
      left_is = f.left_is;
    }) in
    record {
      parties = K.parties;
      puts = K.puts;
      takes = K.takes;
      left = K.left;
      owner = owner;
      history = K.history;
      agreed = K.agreed;
      fits = each_set F (set views pass both) other spent (fits_spent K.parties K.puts K.takes K.left owner other) (λ j u far e. now j u e far);
    }

pub learns : (Agreed : Task → Type 0) (pass : ℕ) (v : Known) → 0 < length v.hands → Learns (Kept Agreed) pass v (Learned v)
learns Agreed pass v has items views K at =
    let mine = K.fits pass v at in
    let history = subst (λ l. IsHistory K.parties K.puts K.takes (l ++ items)) (sym (mine.left_is has)) K.history in
    (K.puts, K.takes, subst (λ m. IsHistory m K.puts K.takes (v.left ++ items)) (sym (mine.parties_is has)) history, mine.stands)
