-- One entry of a lane that asks of its own event of words: what is counted of it, and what it changes.
use Rattle.std.proofs.Common.{◌≡◌, ◌∙◌, ◌⊎◌, ◌<◌, ◌≤◌, ℕ, Bool, true, false, cond, List, [], ◌∷◌, ◌++◌, map, length, refl, sym, ap, subst, inl, inr}
use Rattle.std.specs.Prelude.{nat_le, Option, count_by}
use Rattle.std.proofs.lemmas.Bool.{cases_eq}
use Rattle.spin_values.specs.declared.values.Value.TheVariants.{Word}
use Rattle.spin_word.specs.declared.command.Place.{Place}
use Rattle.spin_word.specs.declared.command.Command.{Command}
use Rattle.spin_word.specs.declared.work.Work.{Work}
use Rattle.spin_word.specs.declared.work.Work.TheVariants as work
use Rattle.spin_word.specs.declared.work.Deed.{Deed}
use Rattle.spin_word.specs.declared.work.Deed.TheVariants as deed
use Rattle.spin_place.specs.declared.binding.Binding.{Binding}
use Rattle.spin_table.specs.declared.refusal.Verdicted.{Verdicted}
use Rattle.spin_table.specs.Setups.{SetupData}
use Rattle.spin_table.specs.States.{State, EventState}
use Rattle.spin_table.specs.Steps.{state_after, bindings_if, IsStep}
use Rattle.spin_proto.specs.Replies.{IsDeedReply}
use Rattle.spin_proto.specs.declared.reply.Reply.{Reply}
use Rattle.spin_report.specs.declared.entry.What.{What}
use Rattle.spin_report.specs.declared.entry.What.TheVariants as what
use Rattle.spin_report.specs.Asked.{asked_by}
use Rattle.spin_report.specs.Legal.{Answers}
use Rattle.spin_report.specs.Segments.{is_accepted}
use Rattle.spin_report.specs.Views.{answer_steps}
use Rattle.spin_run.specs.Summaries.{is_run, is_send, is_refused}
use Rattle.spin_gen_law.proofs.RaiseCounts.{runs_of}
use Rattle.spin_gen_law.proofs.WordSetups.{IsWordEvent, IsWordHandler, IsWordGuard, HasWords}
use Rattle.spin_gen_law.proofs.InstallVerdicts.{install_of}
use Rattle.spin_gen_law.proofs.CalmStates.{IsCalmAt, guards_at, admitted, raise_counts}
use Rattle.spin_gen_law.proofs.InstallStates.{IsCalmState, elsewhere, beyond, calm_elsewhere, calm_after, guards_after, Installs, installs}

-- ---- what is counted of one entry

pub record Tally : Type 0 where
  pub accepted : ℕ
  pub refused : ℕ
  pub runs : ℕ
  pub sends : ℕ

abbrev pub tally_of : What → Tally
tally_of w = record {
  accepted = cond (is_accepted w) 1 0;
  refused = cond (is_refused w) 1 0;
  runs = count_by is_run (answer_steps w);
  sends = count_by is_send (answer_steps w);
}

abbrev tally : ℕ → ℕ → ℕ → Tally
tally accepted refused runs = record { accepted = accepted; refused = refused; runs = runs; sends = 0 }

-- ---- what a lane asks, and what comes of it where its event has bindings with these guards

-- a plain install by one of the handlers 1 to 4 under one of the guards 0 to 4
pub record IsInstall (event : ℕ) (w : Work) : Type 0 where
  pub handler : ℕ
  pub guard : ℕ
  pub where_to : Place
  pub first : 0 < handler
  pub last : handler ≤ 4
  pub greatest : guard ≤ 4
  pub is : w ≡ work.Command (install_of event handler guard where_to)

-- a raise with one word
pub record IsRaise (event : ℕ) (w : Work) : Type 0 where
  pub value : ℕ
  pub is : w ≡ work.Deed (deed.Raise event (Word value ∷ []))

-- a lane asks of the event of its number alone
abbrev pub IsOwn : ℕ → Work → Type 0
IsOwn lane w = (lane < 8) × (IsInstall lane w ⊎ IsRaise lane w)

abbrev pub tally_by : SetupData → List ℕ → Work → Tally
tally_by d guards (work.Command c) = cond (nat_le d.live (length guards)) (tally 0 1 0) (tally 1 0 0)
tally_by d guards (work.Deed (deed.Raise event (Word value ∷ []))) = tally 0 0 (runs_of (admitted d value guards))
tally_by d guards other = tally 0 0 0

abbrev pub guards_by : SetupData → List ℕ → Work → List ℕ
guards_by d guards (work.Command c) = cond (nat_le d.live (length guards)) guards (guards ++ c.guard ∷ [])
guards_by d guards other = guards

-- ---- one entry

-- What was asked of this event is counted so, and has changed the guards of that event's bindings alone.
pub record Moves (d : SetupData) (others : List EventState) (s : State) (event : ℕ) (w : What) (next : State) : Type 0 where
  pub counted : tally_of w ≡ tally_by d (guards_at s event) (asked_by w)
  pub own : guards_at next event ≡ guards_by d (guards_at s event) (asked_by w)
  pub elsewhere : (k : ℕ) → k < 8 → (k ≡ event → ⊥) → guards_at next k ≡ guards_at s k
  pub calm : IsCalmState d others next

module _ (d : SetupData) (others : List EventState) (s : State) (fit : HasWords d) (calm : IsCalmState d others s) (event : ℕ) (among : event < 8) where
  abbrev e : IsWordEvent d event
  e = fit.events event among

  abbrev t : IsCalmAt d s event
  t = calm.each event among

  abbrev is_full : Bool
  is_full = nat_le d.live (length (guards_at s event))

  module _ (handler guard : ℕ) (p : Place) (first : 0 < handler) (last : handler ≤ 4) (greatest : guard ≤ 4) (v : Verdicted) (next : State) where
    abbrev h : IsWordHandler d handler
    h = fit.handlers handler first last

    g : (0 < guard) → IsWordGuard d guard
    g some = fit.guards guard some greatest

    abbrev c : Command
    c = install_of event handler guard p

    calm_next : IsCalmState d others (state_after d c s)
    calm_next = record {
      each = λ k below. elim (cases_eq k event) [
        | inl same ↦ subst (λ n. IsCalmAt d (state_after d c s) n) (sym same) (calm_after d s event handler guard p fit e h first g t)
        | inr other ↦ calm_elsewhere d c s k other (calm.each k below)
      ];
      others_are = beyond d c s 8 among ∙ calm.others_are;
    }

    moves_install : IsStep d s c v next → Moves d others s event (what.Command c v) next
    moves_install step = go is_full refl (installs d s event handler guard p fit e h first g t v next step)
      where
        go : (b : Bool) → is_full ≡ b → Installs d s event handler guard p fit e h first g t b v next → Moves d others s event (what.Command c v) next
        go true full (refused, same) = record {
          counted = ap (λ (x : Verdicted). tally_of (what.Command c x)) refused ∙ ap (λ (x : Bool). cond x (tally 0 1 0) (tally 1 0 0)) (sym full);
          own = ap (λ (x : State). guards_at x event) same ∙ ap (λ (x : Bool). cond x (guards_at s event) (guards_at s event ++ guard ∷ [])) (sym full);
          elsewhere = λ k below other. ap (λ (x : State). guards_at x k) same;
          calm = subst (IsCalmState d others) (sym same) calm;
        }
        go false room (accepted, changed) = record {
          counted = ap (λ (x : Verdicted). tally_of (what.Command c x)) accepted ∙ ap (λ (x : Bool). cond x (tally 0 1 0) (tally 1 0 0)) (sym room);
          own =
              ap (λ (x : State). guards_at x event) changed
              ∙ guards_after d s event handler guard p fit e h first g t
              ∙ ap (λ (x : Bool). cond x (guards_at s event) (guards_at s event ++ guard ∷ [])) (sym room);
          elsewhere = λ k below other.
              ap (λ (x : State). guards_at x k) changed
              ∙ ap (λ (o : Option EventState). map (λ (x : Binding). x.own_guard) (bindings_if o)) (elsewhere d c s k other);
          calm = subst (IsCalmState d others) (sym changed) calm_next;
        }

  moves_raise : (value : ℕ) (r : Reply) (next : State) → IsDeedReply d s (deed.Raise event (Word value ∷ [])) r → next ≡ s
      → Moves d others s event (what.Deed (deed.Raise event (Word value ∷ [])) r) next
  moves_raise value r next reply same =
      let counts = raise_counts d s event value e t r reply in
      record {
        counted = λ i. record { accepted = 0; refused = 0; runs = counts.0 i; sends = counts.1 i };
        own = ap (λ (x : State). guards_at x event) same;
        elsewhere = λ k below other. ap (λ (x : State). guards_at x k) same;
        calm = subst (IsCalmState d others) (sym same) calm;
      }

  -- what one entry comes to that asks of its lane's event
  pub moves : (w : What) (next : State) → IsInstall event (asked_by w) ⊎ IsRaise event (asked_by w) → Answers d s w next → Moves d others s event w next
  moves (what.Command command v) next (inl i) answer =
      let is : command ≡ install_of event i.handler i.guard i.where_to = let both = i.is in cc in
      subst (λ (c : Command). IsStep d s c v next → Moves d others s event (what.Command c v) next) (sym is)
      (moves_install i.handler i.guard i.where_to i.first i.last i.greatest v next) answer
  moves (what.Command command v) next (inr r) answer = absurd (let both = r.is in cc)
  moves (what.Deed asked reply) next (inl i) answer = absurd (let both = i.is in cc)
  moves (what.Deed asked reply) next (inr r) answer =
      let is : asked ≡ deed.Raise event (Word r.value ∷ []) = let both = r.is in cc in
      subst (λ (x : Deed). IsDeedReply d s x reply → Moves d others s event (what.Deed x reply) next) (sym is)
      (λ got. moves_raise r.value reply next got answer.1) answer.0
