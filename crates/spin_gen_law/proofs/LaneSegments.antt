-- Two answers of one segment whose lanes ask of their own events count the same.
use Rattle.std.proofs.Common.{◌≡◌, ◌∙◌, ◌<◌, ℕ, List, [], ◌∷◌, sym}
use Rattle.std.specs.Prelude.{All}
use Rattle.std.specs.List.{AllByRecursion}
use Rattle.std.proofs.lemmas.List.Elements.{All-from_recursion}
use Rattle.spin_table.specs.Setups.{SetupData}
use Rattle.spin_table.specs.States.{State, EventState}
use Rattle.spin_report.specs.declared.entry.Entry.{Entry}
use Rattle.spin_report.specs.Asked.{Numbered, asked_of}
use Rattle.spin_report.specs.Segments.{of_lane}
use Rattle.spin_gen_law.proofs.WordSetups.{HasWords}
use Rattle.spin_gen_law.proofs.CalmStates.{guards_at}
use Rattle.spin_gen_law.proofs.InstallStates.{IsCalmState}
use Rattle.spin_gen_law.proofs.EntryCounts.{IsOwn}
use Rattle.spin_gen_law.proofs.LaneCounts.{lone, left_by, lanes_alone}
use Rattle.spin_gen_law.proofs.CountSums.{HaveSameCounts, counts_by_lanes, counts_of_tallies}
use Rattle.spin_gen_law.proofs.LaneAnswers.{IsAnswered, woven_all, same_works}

-- ---- lanes that ask of their own events

-- two states in which the first eight events are calm and have the same guards, and the others are the same
pub record AreAlike (d : SetupData) (others : List EventState) (s s' : State) : Type 0 where
  pub calm : IsCalmState d others s
  pub calm' : IsCalmState d others s'
  pub guards : (k : ℕ) → k < 8 → guards_at s k ≡ guards_at s' k

abbrev pub AsksOwn : Numbered → Type 0
AsksOwn n = IsOwn n.lane n.asked

own_lanes : (xs : List Entry) → AllByRecursion (λ entry. AsksOwn (asked_of entry)) xs → AllByRecursion (λ entry. entry.lane < 8) xs
own_lanes [] all = tt
own_lanes (x ∷ xs) all = (all.0.0, own_lanes xs all.1)

module _ (d : SetupData) (others : List EventState) (fit : HasWords d) (lanes : ℕ) (asked : List Numbered) (s t s' t' : State) (xs ys : List Entry)
    (woven : IsAnswered d lanes asked s t xs) (woven' : IsAnswered d lanes asked s' t' ys) (own : All AsksOwn asked) (alike : AreAlike d others s s') where
  pub own_segment : AreAlike d others t t' × HaveSameCounts xs ys
  own_segment =
      let owns = woven_all d lanes asked s t xs woven AsksOwn own in
      let owns' = woven_all d lanes asked s' t' ys woven' AsksOwn own in
      let alone = lanes_alone d others fit xs s t alike.calm woven.legal owns in
      let alone' = lanes_alone d others fit ys s' t' alike.calm' woven'.legal owns' in
      let works = same_works d lanes asked s t s' t' xs ys woven woven' in
      let is_lane = λ (entry : Entry). entry.lane < 8 in (
        record {
          calm = alone.0;
          calm' = alone'.0;
          guards = λ k among. (alone.1 k among).left ∙ (λ i. left_by d (alike.guards k among i) (works k i)) ∙ sym (alone'.1 k among).left;
        },
        counts_by_lanes 8 xs ys (All-from_recursion is_lane xs (own_lanes xs owns)) (All-from_recursion is_lane ys (own_lanes ys owns'))
            (λ k among. counts_of_tallies (of_lane k xs) (of_lane k ys) ((alone.1 k among).counted ∙ (λ i. lone d (alike.guards k among i) (works k i)) ∙ sym (alone'.1 k among).counted)),
      )
