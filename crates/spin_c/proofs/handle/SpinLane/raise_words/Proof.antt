-- `raise_words` hands what the handle owns to `words_maybe`, beside the words, and takes it back.
use Rattle.std.proofs.Common.{◌≡◌, List, [], ◌∷◌, ◌++◌, ◌^◌, ◌<◌, refl, sym, ap, ◌∙◌, subst}
use lib.Dec.{T}
use lib.ListN.{length}
use mathlib.Core.Bool.{true, ◌&&◌}
use mir.Syntax.{named, ty_ptr, w8}
use mir.Val.{Val, vint, has_ty, WT}
use base.Logic.{SProp, ent, emp, id⊢}
use base.Fml.{ftrue}
use prog.Wp.{WpFn}
use types.Kit.{‵, raw, ◌⊛◌, some, later, ◌$◌, ◌∵◌, !, qed, by, move, keep, drop, split, split3, join, fsplit, fjoin, fpick, fpack, pick, suffices, use0, use1, await, rewrite}
use types.Run.{stop, fld, of_opd, no_more, and_then, returns, enter}
use types.ByLocal.{alloc_all, pass_all, free_all, look_at, get, get_in, sets, lands_as}
use types.Part.{agg, sub, whole}
use contract.Running.{tables}
use contract.Monad.{fact, fact_i}
use denote.Exit.{yes}
use denote.RattleType.{RattleType, owns}
use denote.Signature.{types_at, plain}
use denote.RawPtr.{ptr_val}
use denote.Signature.{shr_slice_of}
use denote.Slice.{ShrSlice, slice_val}
use denote.Builtin.{u8, u64}
use denote.Steps.{nothing, only, heard}
use denote.Param.{layout}
use denote.Param.Table.{none, Includes-refl}
use denote.Struct.Tuple.{Tuple}
use denote.Triple.Clauses.{Lasts, lasts}
use denote.Triple.Entry.{Args, alive}
use denote.Triple.Spec.{triple_of}
use denote.Triple.Call.{calls_at}
use denote.Triple.Walked.{Stays, stay_dropped, walk_of, Goes-dropped}
use Rattle.core.proofs.atomic.Steps.{Ptr-Good, fm}
use Rattle.core.proofs.cell.Inside.{one}
use Rattle.std_heap.proofs.Global.TheLaws as heap_laws
use Rattle.std.proofs.raw_atomic.Walks.{proved_at, leaves}
use Rattle.spin_c.specs.Lanes.{row_at, HeldAt}
use Rattle.std.specs.Prelude.{IfSome, map}
use Rattle.std.specs.Arc.{arc_value}
use Rattle.spin_values.specs.declared.values.Value.TheVariants as value
use Rattle.spin_objects.specs.Units.{IsSincere}
use Rattle.spin_c.specs.Turns.{Turns}
use Rattle.spin_c.specs.Waiting.{IfLane, IsWell}
use Rattle.spin_c.specs.Verdicts.{no_natives}
use Rattle.spin_c.specs.declared.ask.Ask.TheVariants as asked
use Rattle.spin_c.proofs.Laws.{row_laws, each_lane}
use Rattle.spin_c.specs.contracts.ask.Outcome as outcome
use Rattle.spin_c.proofs.ask.Outcome.TheLaws as outcome_laws
use Rattle.spin_c.proofs.maybe.Maybe.TheLaws as maybe_laws
use Rattle.spin_c.proofs.Values.{both, both_tt, two_out, pair_in}
use Rattle.spin_c.proofs.Maybes.{Z, Maybe, maybe_in, maybe_out, words_good}
use Rattle.spin_c.proofs.Lanes.{Handle, handle_in, handle_out}
use Rattle.spin_c.specs.contracts.turn.words_maybe as callee
use Rattle.spin_c.specs.contracts.turn.words_maybe.dyn-1 as first
use Rattle.spin_c.specs.contracts.turn.words_maybe.dyn-2 as second
use Rattle.spin_c.specs.contracts.turn.words_maybe.dyn-3 as third
use Rattle.spin_c.proofs.turn.words_maybe.Met.{met, hidden-dyn-1, hidden-dyn-2, hidden-dyn-3}
use Rattle.spin_c.specs.contracts.handle.SpinLane.raise_words.{ended, clauses}
use Rattle.spin_c.specs.contracts.handle.SpinLane.raise_words.Key.{name as #self}
use Rattle.spin_c.proofs.handle.SpinLane.raise_words.Statement.{statement}
use Rattle.spin_c.proofs.handle.SpinLane.raise_words.Code as code

abbrev no_first : first.Ghosts
no_first = (none, (λ i. absurd i), (λ i. absurd i), (λ i. absurd i))

abbrev no_second : second.Ghosts
no_second = (none, (λ i. absurd i), (λ i. absurd i), (λ i. absurd i))

abbrev no_third : third.Ghosts
no_third = (none, (λ i. absurd i), (λ i. absurd i), (λ i. absurd i))

pub raise_words_spec : {M : Type 1} → statement M
raise_words_spec 𝓤 𝓛 𝓜 𝓡 wired =
    let H = 𝓛.H in let 𝓣 = tables 𝓤 H 𝓜 𝓡 𝓡.env in let En = ended in let c = clauses 𝓛 𝓜.mem 𝓡.returns in let fn = code.function in
    let LZ = heap_laws.the_row_laws in let O : RattleType = outcome.the_row in let Mb : RattleType = Maybe row_at in let W = shr_slice_of (0 ∷ []) tt (plain (λ _. u64)) in
    let hs : Stays En.signature.params En.kept =
    (stay_dropped (plain (λ _. Handle)) yes, (stay_dropped (plain (λ _. Z)) yes, (stay_dropped (plain (λ _. u8)) yes, (stay_dropped W yes, tt)))) in
    proved_at 𝓛 En hs c 𝓜 𝓡 (
      Goes-dropped 𝓛 1 (plain (λ _. Handle)) yes (λ κs x f. refl),
      (
        Goes-dropped 𝓛 1 (plain (λ _. Z)) yes (λ κs x f. refl),
        (Goes-dropped 𝓛 1 (plain (λ _. u8)) yes (λ κs x f. refl), (Goes-dropped 𝓛 1 W yes (λ κs x f. refl), tt)),
      ),
    ) #self fn (code.unfolded 𝓤 H 𝓜 𝓡 wired) (λ z are.
    let κs = z.0.0 in let Post : Val → SProp 𝓤 = (walk_of 𝓛 En hs c).post z in let Run : List Val → SProp 𝓤 = λ ws. WpFn 𝓤 H 𝓣.C 𝓣.Λ fn ws Post in
    let d = z.0.3.0 in let q = z.0.3.1.0 in let n = z.0.3.1.1.0 in let ss = z.0.3.1.1.1.0 in
    let k = one (layout Z) z.0.4.1.0 ((LZ.lawful 𝓛).typed q z.0.4.1.0 are.1.0) in
    let e₂ = are.1.1.0.0 in let few₂ : n < 2 ^ 8 = are.1.1.0.1 in
    let e₃ = are.1.1.1.0.0.0 in let few₃ : length ss.now < 2 ^ 64 = are.1.1.1.0.0.1.0 in
    let w₂ : Val = vint w8 n in let w₃ : Val = slice_val ss.ref_ptr (length ss.now) in let S : RattleType = ShrSlice (named 0) κs.0 u64 in
    let ask = asked.Raise n (map value.Word ss.now) in let Toks : SProp 𝓤 = alive 𝓛 En.signature κs z.0.1 in
    qed 𝓛 ((raw Toks ⊛ ‵ (owns (types_at En.signature.params κs) z.0.3 z.0.4)) ∷ raw (emp 𝓤) ∷ []) ∵ split ! $ move ! (1 ∷ []) $ fsplit ! $ move ! (1 ∷ []) $ fsplit ! $
    rewrite ! 0 (λ (us : List Val). ‵ (Z.own_val q us)) k.1 refl $ move ! (1 ∷ []) $ fsplit ! $
    rewrite ! 0 (λ (us : List Val). ‵ (u8.own_val n us)) e₂ refl $ move ! (1 ∷ []) $ fsplit ! $
    rewrite ! 0 (λ (us : List Val). ‵ (S.own_val ss us)) e₃ refl $
    -- [the words; true; the number; the allocator; the handle; the tokens; the requires]
    move ! (4 ∷ []) $
    handle_out ! d z.0.4.0 (λ h ws fits. fsplit ! $ move ! (1 ∷ []) $ fpick ! (λ well. drop ! $
    let p = d.at in let w : Val = both (ptr_val p) h in let m : Mb.Denot = record { at = p; alloc = d.alloc; value = d.kept } in
    maybe_in row_at ! p h d.alloc d.kept $
    -- [the maybe; the words; true; the number; the allocator; the tokens; the requires]
    let G = triple_of 𝓛 (callee.signature no_first no_second no_third) (callee.spec no_first no_second no_third 𝓛 𝓜.mem 𝓡.returns) in
    let a : Args (callee.signature no_first no_second no_third) κs = (m, (q, (n, (ss, tt)))) in
    let y : G.Ghost = ((κs, z.0.1, tt, a, (w ∷ [], (k.0 ∷ [], (w₂ ∷ [], (w₃ ∷ [], tt))))), tt) in let Pair = Tuple (Mb ∷ O ∷ []) in
    move ! (1 ∷ 2 ∷ []) $ fjoin ! $ move ! (2 ∷ 0 ∷ []) $ fjoin ! $ move ! (2 ∷ 0 ∷ []) $ fjoin ! $ move ! (1 ∷ 0 ∷ []) $ fjoin ! $ move ! (1 ∷ 0 ∷ []) $ join ! $
    let Sincere : Type 0 = IfSome d.kept (λ (h : HeldAt). IfLane h (λ l. IsSincere _ _ _ (arc_value l.party).hub.setup.catalogue.natives)) in
    use0 𝓛 (raw (fact 𝓤 (IsWell d.kept))) (fact_i 𝓤 (IsWell d.kept) (emp 𝓤) well) $
    use0 𝓛 (raw (fact 𝓤 Sincere)) (fact_i 𝓤 Sincere (emp 𝓤) (each_lane (λ l. IsSincere _ _ _ (arc_value l.party).hub.setup.catalogue.natives)
    (λ l. record { handlers = λ k n low. absurd n.object.vtable; guards = λ k n low. absurd n.object.vtable; authorisers = λ k n low. absurd n.object.vtable }) d.kept)) $ join ! $ move ! (1 ∷ 0 ∷ []) $ join ! $ use1 𝓛 (raw (G.pre y)) (id⊢ 𝓤 _) $
    suffices ! (Run (w ∷ k.0 ∷ w₂ ∷ w₃ ∷ [])) (subst (λ (us : List Val). ent 𝓤 (Run (w ∷ k.0 ∷ w₂ ∷ w₃ ∷ [])) (Run us)) (sym (λ i. ws i ++ (k.1 i ++ (e₂ i ++ (e₃ i ++ []))))) (id⊢ 𝓤 (Run (w ∷ k.0 ∷ w₂ ∷ w₃ ∷ [])))) $
    enter ! 𝓣.C 𝓣.Λ fn (w ∷ k.0 ∷ w₂ ∷ w₃ ∷ []) Post $
    alloc_all ! (λ l. pass_all ! refl (words_good p h fits, (k.2, ((tt, record { fits = few₂ }), ((tt, (tt, (record { fits = few₃ }, tt))), tt)))) $
    sets ! (of_opd ! (get_in ! (fld ! refl (stop !)) (sub ! 0 refl (whole !)))) refl (Ptr-Good p) $ sets ! (of_opd ! (get_in ! (fld ! refl (stop !)) (sub ! 1 refl (whole !)))) refl fits $
    sets ! (of_opd ! (get ! refl)) refl (Ptr-Good p) $ sets ! (agg ! (and_then ! (get ! refl) (and_then ! (get ! refl) (no_more !)))) refl (words_good p h fits) $
    calls_at ! (fm 𝓛 𝓜 𝓡) G (met 𝓤 𝓛 𝓜 𝓡 (code.calls-spin_c::turn::words_maybe 𝓡.env wired) no_first (Includes-refl no_first.0) no_second (Includes-refl no_second.0) no_third
    (Includes-refl no_third.0) (hidden-dyn-1 𝓤 𝓛 𝓜 𝓡 (code.calls-spin_c::turn::words_maybe 𝓡.env wired)).0 (hidden-dyn-2 𝓤 𝓛 𝓜 𝓡 (code.calls-spin_c::turn::words_maybe 𝓡.env wired)).0
    (hidden-dyn-3 𝓤 𝓛 𝓜 𝓡 (code.calls-spin_c::turn::words_maybe 𝓡.env wired)).0) y (and_then ! (get ! refl) (and_then ! (get ! refl) (and_then ! (get ! refl) (and_then ! (get ! refl) (no_more !))))) (λ u.
    use1 𝓛 (later (some (λ (r : Mb.Denot × O.Denot). (raw Toks ⊛ ‵ (Pair.own_val r (u ∷ []))) ⊛ some (λ (ls : Lasts (callee.ended no_first no_second no_third) κs a). ‵
    (lasts (callee.ended no_first no_second no_third) κs a ls) ⊛ (raw (fact 𝓤 (IsWell r.0.value)) ⊛ raw (fact 𝓤 (Turns no_natives d.kept ask r.0.value r.1))))))) (id⊢ 𝓤 _) $
    await ! tt $ pick ! (λ r. split ! $ move ! (1 ∷ []) $ pick !
    (λ ls. split3 ! $ drop ! $ heard ! (IsWell r.0.value) (λ well'. heard ! (Turns no_natives d.kept ask r.0.value r.1) (λ raises. split ! $ move ! (1 ∷ []) $
    -- [the pair; the tokens]
    two_out Mb O r.0 r.1 ! refl refl ((maybe_laws.the_row_laws row_at row_laws).lawful 𝓛) ((outcome_laws.the_row_laws).lawful 𝓛) (u ∷ []) (λ v o gv go eu.
    maybe_out row_at ! r.0 (v ∷ []) (λ h' ev fits'. let p' = r.0.at in let w' : Val = both (ptr_val p') h' in let after : Handle.Denot = record { at = p'; alloc = r.0.alloc; kept = r.0.value } in
    nothing ! $ fpack ! (IsWell r.0.value) (λ _. ftrue) well' $ move ! (1 ∷ 0 ∷ []) $ fjoin ! $ handle_in ! p' h' r.0.alloc r.0.value $ pair_in Handle O ! after r.1 w' o $
    let told : u ≡ both w' o = ap only eu ∙ (λ i. both (only (ev i)) o) in let good = words_good p' h' fits' in
    let goods : T (((has_ty ty_ptr (ptr_val p') && (has_ty (layout Z) h' && true)) && (has_ty (layout O) o && true))) × WT (both w' o) =
    (both_tt (has_ty ty_ptr (ptr_val p') && (has_ty (layout Z) h' && true)) (has_ty (layout O) o) good.0 go.0, (good.1, (go.1, tt))) in
    lands_as ! told refl goods $ sets ! (of_opd ! (get_in ! (fld ! refl (stop !)) (sub ! 0 refl (whole !)))) refl good $ sets !
    (of_opd ! (get_in ! (fld ! refl (stop !)) (sub ! 1 refl (whole !)))) refl go $
    sets ! (of_opd ! (get_in ! (fld ! refl (stop !)) (sub ! 0 refl (whole !)))) refl (Ptr-Good p') $ sets ! (of_opd ! (get_in ! (fld ! refl (stop !)) (sub ! 1 refl (whole !)))) refl fits' $
    sets ! (of_opd ! (get ! refl)) refl (Ptr-Good p') $ sets ! (agg ! (and_then ! (get ! refl) (and_then ! (get ! refl) (no_more !)))) refl good $ sets ! (of_opd ! (get ! refl)) refl go $
    sets ! (agg ! (and_then ! (get ! refl) (and_then ! (get ! refl) (no_more !)))) refl goods $
    let Claim : Type 0 = Turns no_natives d.kept ask r.0.value r.1 in
    use0 𝓛 (raw (fact 𝓤 Claim)) (fact_i 𝓤 Claim (emp 𝓤) raises) $
    nothing ! $ nothing ! $ fjoin ! $ nothing ! $ fjoin ! $ nothing ! $ fjoin ! $ nothing ! $ fjoin ! $
    returns ! (look_at ! 0 refl) $ free_all ! refl $ keep ! (3 ∷ 0 ∷ 2 ∷ 1 ∷ []) $
    by ! (leaves 𝓛 En hs c z (both w' o) (after, r.1) (tt, (tt, (tt, (tt, tt)))) (tt, (tt, (tt, (tt, tt))))))))))))))))
