-- `begin` hands what both handles own to `begin_maybe`, and takes it back.
use Rattle.std.proofs.Common.{◌≡◌, List, [], ◌∷◌, ◌++◌, refl, sym, ap, ◌∙◌, subst}
use lib.Dec.{T}
use mathlib.Core.Bool.{Bool, true, ◌&&◌}
use mir.Syntax.{ty_ptr}
use mir.Val.{Val, has_ty, WT}
use base.Logic.{SProp, ent, emp, id⊢}
use base.Fml.{ftrue}
use prog.Wp.{WpFn}
use types.Kit.{‵, raw, ◌⊛◌, some, later, ◌$◌, ◌∵◌, !, qed, by, move, keep, drop, split, split3, join, fsplit, fsplit3, fjoin, fpick, fpack, pick, suffices, use0, use1, await, rewrite}
use types.Run.{stop, fld, of_opd, no_more, and_then, returns, enter}
use types.ByLocal.{alloc_all, pass_all, free_all, look_at, get, get_in, sets, lands_as}
use types.Part.{agg, sub, whole}
use contract.Running.{tables}
use contract.Monad.{fact, fact_i}
use denote.Exit.{yes, rest}
use denote.RattleType.{RattleType, owns}
use denote.Signature.{types_at, plain}
use denote.RawPtr.{ptr_val}
use denote.Steps.{nothing, only, heard}
use denote.Param.{layout}
use denote.Param.Table.{Includes-refl}
use denote.Struct.Tuple.{Tuple}
use denote.Triple.Clauses.{Lasts, lasts}
use denote.Triple.Spec.{triple_of}
use denote.Triple.Call.{calls_at}
use denote.Triple.Walked.{Stays, stay_dropped, walk_of, Goes-dropped}
use Rattle.core.proofs.alloc.Calls.{Goes-blank}
use Rattle.core.proofs.atomic.Steps.{Ptr-Good, fm}
use Rattle.core.proofs.cell.Inside.{one}
use Rattle.std.proofs.raw_atomic.Walks.{proved_at, leaves}
use Rattle.std.specs.Prelude.{IfSome}
use Rattle.std.specs.Arc.{arc_value}
use Rattle.spin_objects.specs.Units.{IsSincere}
use Rattle.spin_c.specs.Beginnings.{Begins}
use Rattle.spin_c.specs.Lanes.{row_at, HeldAt, no_first, no_second, no_third}
use Rattle.spin_c.specs.Raisers.{raising_at}
use Rattle.spin_c.specs.Raisings.{IsWellHeld}
use Rattle.spin_c.specs.Waiting.{IfLane, IsWell}
use Rattle.spin_c.proofs.Laws.{row_laws, each_lane}
use Rattle.spin_c.proofs.Openers.{opener_laws}
use Rattle.spin_c.proofs.Raisers.{Raiser, raiser_in, raiser_out}
use Rattle.spin_c.specs.contracts.moves.Begin as begun
use Rattle.spin_c.proofs.moves.Begin.TheLaws as begun_laws
use Rattle.spin_c.specs.contracts.moves.Upshot as upshot
use Rattle.spin_c.proofs.moves.Upshot.TheLaws as upshot_laws
use Rattle.spin_c.proofs.maybe.Maybe.TheLaws as maybe_laws
use Rattle.spin_c.proofs.Values.{both, three, three_tt, three_in, three_out}
use Rattle.spin_c.proofs.Maybes.{Z, Maybe, maybe_in, maybe_out, words_good}
use Rattle.spin_c.proofs.Lanes.{Handle, handle_in, handle_out}
use Rattle.spin_c.specs.contracts.beginning.begin_maybe as callee
use Rattle.spin_c.proofs.beginning.begin_maybe.Met.{met, hidden-dyn-1, hidden-dyn-2, hidden-dyn-3}
use Rattle.spin_c.specs.contracts.handle.SpinLane.begin.{ended, clauses}
use Rattle.spin_c.specs.contracts.handle.SpinLane.begin.Key.{name as #self}
use Rattle.spin_c.proofs.handle.SpinLane.begin.Statement.{statement}
use Rattle.spin_c.proofs.handle.SpinLane.begin.Code as code

abbrev Start : RattleType
Start = begun.the_row

pub begin_spec : {M : Type 1} → statement M
begin_spec 𝓤 𝓛 𝓜 𝓡 wired =
    let H = 𝓛.H in let 𝓣 = tables 𝓤 H 𝓜 𝓡 𝓡.env in let En = ended in let c = clauses 𝓛 𝓜.mem 𝓡.returns in let fn = code.function in
    let C : RattleType = begun.the_row in let O : RattleType = upshot.the_row in let Mb : RattleType = Maybe row_at in let Mr : RattleType = Maybe raising_at in
    let hs : Stays En.signature.params En.kept = (stay_dropped (plain (λ _. Handle)) yes, (stay_dropped (plain (λ _. Raiser)) yes, (stay_dropped (plain (λ _. C)) yes, tt))) in
    proved_at 𝓛 En hs c 𝓜 𝓡 (
      Goes-dropped 𝓛 0 (plain (λ _. Handle)) yes (λ κs x f. refl),
      (Goes-dropped 𝓛 0 (plain (λ _. Raiser)) yes (λ κs x f. refl), (Goes-blank 𝓛 0 (plain (λ _. C)) yes (λ κs x f. tt), tt)),
    ) #self fn (code.unfolded 𝓤 H 𝓜 𝓡 wired) (λ z are.
    let κs = z.0.0 in let Post : Val → SProp 𝓤 = (walk_of 𝓛 En hs c).post z in let Run : List Val → SProp 𝓤 = λ ws. WpFn 𝓤 H 𝓣.C 𝓣.Λ fn ws Post in
    let d = z.0.3.0 in let d₂ = z.0.3.1.0 in let q = z.0.3.1.1.0 in
    let k = one (layout C) z.0.4.1.1.0 (((begun_laws.the_row_laws).lawful 𝓛).typed q z.0.4.1.1.0 are.1.1.0) in
    qed 𝓛 ((‵ ftrue ⊛ ‵ (owns (types_at En.signature.params κs) z.0.3 z.0.4)) ∷ raw (emp 𝓤) ∷ []) ∵ split ! $ move ! (1 ∷ []) $ fsplit3 ! $ move ! (2 ∷ []) $ fsplit ! $
    -- [the pick; true; the handle; the other; the tokens; the requires]
    rewrite ! 0 (λ (us : List Val). ‵ (C.own_val q us)) k.1 refl $ move ! (2 ∷ []) $
    handle_out ! d z.0.4.0 (λ h ws fits. fsplit ! $ move ! (1 ∷ []) $ fpick ! (λ well. drop ! $
    let p = d.at in let w : Val = both (ptr_val p) h in let m : Mb.Denot = record { at = p; alloc = d.alloc; value = d.kept } in
    maybe_in row_at ! p h d.alloc d.kept $ move ! (3 ∷ []) $
    -- [the other; the maybe; the pick; true; the tokens; the requires]
    raiser_out ! d₂ z.0.4.1.0 (λ h₂ ws₂ fits₂. fsplit ! $ move ! (1 ∷ []) $ fpick ! (λ well₂. drop ! $
    let p₂ = d₂.at in let w₂ : Val = both (ptr_val p₂) h₂ in let m₂ : Mr.Denot = record { at = p₂; alloc = d₂.alloc; value = d₂.kept } in
    maybe_in raising_at ! p₂ h₂ d₂.alloc d₂.kept $
    let G = triple_of 𝓛 (callee.signature no_first no_second no_third) (callee.spec no_first no_second no_third 𝓛 𝓜.mem 𝓡.returns) in
    let y : G.Ghost = ((tt, tt, tt, (m, (m₂, (q, tt))), (w ∷ [], (w₂ ∷ [], (k.0 ∷ [], tt)))), tt) in let Triple = Tuple (Mb ∷ Mr ∷ O ∷ []) in
    move ! (2 ∷ 3 ∷ []) $ fjoin ! $ move ! (1 ∷ 0 ∷ []) $ fjoin ! $ move ! (1 ∷ 0 ∷ []) $ fjoin ! $ move ! (1 ∷ 0 ∷ []) $ join ! $
    use0 𝓛 (raw (fact 𝓤 (IsWellHeld d₂.kept))) (fact_i 𝓤 (IsWellHeld d₂.kept) (emp 𝓤) well₂) $ use0 𝓛 (raw (fact 𝓤 (IsWell d.kept))) (fact_i 𝓤 (IsWell d.kept) (emp 𝓤) well) $ join ! $
    let Sincere : Type 0 = IfSome d.kept (λ (h : HeldAt). IfLane h (λ l. IsSincere _ _ _ (arc_value l.party).hub.setup.catalogue.natives)) in
    use0 𝓛 (raw (fact 𝓤 Sincere)) (fact_i 𝓤 Sincere (emp 𝓤) (each_lane (λ l. IsSincere _ _ _ (arc_value l.party).hub.setup.catalogue.natives)
    (λ l. record { handlers = λ k n low. absurd n.object.vtable; guards = λ k n low. absurd n.object.vtable; authorisers = λ k n low. absurd n.object.vtable }) d.kept)) $ join ! $
    move ! (1 ∷ 0 ∷ []) $ join ! $ use1 𝓛 (raw (G.pre y)) (id⊢ 𝓤 _) $
    suffices ! (Run (w ∷ w₂ ∷ k.0 ∷ [])) (subst (λ (us : List Val). ent 𝓤 (Run (w ∷ w₂ ∷ k.0 ∷ [])) (Run us)) (sym (λ i. ws i ++ (ws₂ i ++ (k.1 i ++ [])))) (id⊢ 𝓤 (Run (w ∷ w₂ ∷ k.0 ∷ [])))) $
    enter ! 𝓣.C 𝓣.Λ fn (w ∷ w₂ ∷ k.0 ∷ []) Post $ alloc_all ! (λ l. pass_all ! refl (words_good p h fits, (words_good p₂ h₂ fits₂, (k.2, tt))) $
    sets ! (of_opd ! (get_in ! (fld ! refl (stop !)) (sub ! 0 refl (whole !)))) refl (Ptr-Good p) $ sets ! (of_opd ! (get_in ! (fld ! refl (stop !)) (sub ! 1 refl (whole !)))) refl fits $
    sets ! (of_opd ! (get_in ! (fld ! refl (stop !)) (sub ! 0 refl (whole !)))) refl (Ptr-Good p₂) $ sets ! (of_opd ! (get_in ! (fld ! refl (stop !)) (sub ! 1 refl (whole !)))) refl fits₂ $
    sets ! (of_opd ! (get ! refl)) refl (Ptr-Good p) $ sets ! (agg ! (and_then ! (get ! refl) (and_then ! (get ! refl) (no_more !)))) refl (words_good p h fits) $
    sets ! (of_opd ! (get ! refl)) refl (Ptr-Good p₂) $ sets ! (agg ! (and_then ! (get ! refl) (and_then ! (get ! refl) (no_more !)))) refl (words_good p₂ h₂ fits₂) $ sets ! (of_opd ! (get ! refl)) refl k.2 $
    calls_at ! (fm 𝓛 𝓜 𝓡) G (met 𝓤 𝓛 𝓜 𝓡 (code.calls-spin_c::beginning::begin_maybe 𝓡.env wired) no_first (Includes-refl no_first.0) no_second (Includes-refl no_second.0) no_third
    (Includes-refl no_third.0) (hidden-dyn-1 𝓤 𝓛 𝓜 𝓡 (code.calls-spin_c::beginning::begin_maybe 𝓡.env wired)).0 (hidden-dyn-2 𝓤 𝓛 𝓜 𝓡 (code.calls-spin_c::beginning::begin_maybe 𝓡.env wired)).0
    (hidden-dyn-3 𝓤 𝓛 𝓜 𝓡 (code.calls-spin_c::beginning::begin_maybe 𝓡.env wired)).0) y (and_then ! (get ! refl) (and_then ! (get ! refl) (and_then ! (get ! refl) (no_more !)))) (λ u.
    use1 𝓛 (later (some (λ (r : Mb.Denot × Mr.Denot × O.Denot). (‵ ftrue ⊛ ‵ (Triple.own_val r (u ∷ []))) ⊛ some (λ (ls : Lasts (callee.ended no_first no_second no_third) tt y.0.3). ‵
    (lasts (callee.ended no_first no_second no_third) tt y.0.3 ls) ⊛ (raw (fact 𝓤 (IsWell r.0.value)) ⊛ (raw (fact 𝓤 (IsWellHeld r.1.value))
    ⊛ raw (fact 𝓤 (Begins d.kept d₂.kept q.event q.args r.0.value r.1.value r.2)))))))) (id⊢ 𝓤 _) $
    await ! tt $ pick ! (λ r. split ! $ move ! (1 ∷ []) $ pick !
    (λ ls. split3 ! $ drop ! $ heard ! (IsWell r.0.value) (λ well'. split ! $ heard ! (IsWellHeld r.1.value) (λ well₂'. heard ! (Begins d.kept d₂.kept q.event q.args r.0.value r.1.value r.2) (λ shares.
    split ! $ move ! (1 ∷ []) $
    -- [the triple; the tokens; the requires]
    let lawful = (maybe_laws.the_row_laws row_at row_laws).lawful 𝓛 in let lawful₂ = (maybe_laws.the_row_laws raising_at opener_laws).lawful 𝓛 in
    three_out Mb Mr O r.0 r.1 r.2 ! refl refl refl lawful lawful₂ ((upshot_laws.the_row_laws).lawful 𝓛) (u ∷ []) (λ v v₂ o gv gv₂ go eu.
    maybe_out row_at ! r.0 (v ∷ []) (λ h' ev fits'. let p' = r.0.at in let w' : Val = both (ptr_val p') h' in let after : Handle.Denot = record { at = p'; alloc = r.0.alloc; kept = r.0.value } in
    nothing ! $ fpack ! (IsWell r.0.value) (λ _. ftrue) well' $ move ! (1 ∷ 0 ∷ []) $ fjoin ! $ handle_in ! p' h' r.0.alloc r.0.value $ move ! (1 ∷ []) $
    maybe_out raising_at ! r.1 (v₂ ∷ []) (λ h₂' ev₂ fits₂'. let p₂' = r.1.at in let w₂' : Val = both (ptr_val p₂') h₂' in
    let after₂ : Raiser.Denot = record { at = p₂'; alloc = r.1.alloc; kept = r.1.value } in
    nothing ! $ fpack ! (IsWellHeld r.1.value) (λ _. ftrue) well₂' $ move ! (1 ∷ 0 ∷ []) $ fjoin ! $ raiser_in ! p₂' h₂' r.1.alloc r.1.value $ move ! (1 ∷ 0 ∷ []) $
    three_in Handle Raiser O after after₂ r.2 ! w' w₂' o $
    let told : u ≡ three w' w₂' o = ap only eu ∙ (λ i. three (only (ev i)) (only (ev₂ i)) o) in let good = words_good p' h' fits' in let good₂ = words_good p₂' h₂' fits₂' in
    let Fits : Val → Val → Bool = λ p h. has_ty ty_ptr p && (has_ty (layout Z) h && true) in
    let goods : T (Fits (ptr_val p') h' && (Fits (ptr_val p₂') h₂' && (has_ty (layout O) o && true))) × WT (three w' w₂' o) =
    (three_tt (Fits (ptr_val p') h') (Fits (ptr_val p₂') h₂') (has_ty (layout O) o) good.0 good₂.0 go.0, (good.1, (good₂.1, (go.1, tt)))) in
    lands_as ! told refl goods $ sets ! (of_opd ! (get_in ! (fld ! refl (stop !)) (sub ! 0 refl (whole !)))) refl good $
    sets ! (of_opd ! (get_in ! (fld ! refl (stop !)) (sub ! 1 refl (whole !)))) refl good₂ $ sets ! (of_opd ! (get_in ! (fld ! refl (stop !)) (sub ! 2 refl (whole !)))) refl go $
    sets ! (of_opd ! (get_in ! (fld ! refl (stop !)) (sub ! 0 refl (whole !)))) refl (Ptr-Good p') $ sets ! (of_opd ! (get_in ! (fld ! refl (stop !)) (sub ! 1 refl (whole !)))) refl fits' $
    sets ! (of_opd ! (get_in ! (fld ! refl (stop !)) (sub ! 0 refl (whole !)))) refl (Ptr-Good p₂') $ sets ! (of_opd ! (get_in ! (fld ! refl (stop !)) (sub ! 1 refl (whole !)))) refl fits₂' $
    sets ! (of_opd ! (get ! refl)) refl (Ptr-Good p') $ sets ! (agg ! (and_then ! (get ! refl) (and_then ! (get ! refl) (no_more !)))) refl good $
    sets ! (of_opd ! (get ! refl)) refl (Ptr-Good p₂') $ sets ! (agg ! (and_then ! (get ! refl) (and_then ! (get ! refl) (no_more !)))) refl good₂ $ sets ! (of_opd ! (get ! refl)) refl go $
    sets ! (agg ! (and_then ! (get ! refl) (and_then ! (get ! refl) (and_then ! (get ! refl) (no_more !))))) refl goods $
    let Claim : Type 0 = Begins d.kept d₂.kept q.event q.args r.0.value r.1.value r.2 in
    use0 𝓛 (raw (fact 𝓤 Claim)) (fact_i 𝓤 Claim (emp 𝓤) shares) $
    nothing ! $ nothing ! $ fjoin ! $ nothing ! $ fjoin ! $ nothing ! $ fjoin ! $ returns ! (look_at ! 0 refl) $ free_all ! refl $ keep ! (3 ∷ 0 ∷ 2 ∷ 1 ∷ []) $
    by ! (leaves 𝓛 En hs c z (three w' w₂' o) (after, after₂, r.2) (tt, (tt, (rest (Start.exit yes) q, tt))) (tt, (tt, (tt, tt)))))))))))))))))))
