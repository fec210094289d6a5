-- The machine values of a `Maybe`. Assumes `Logic`.
use Rattle.std.proofs.Common.{◌≡◌, ℕ, List, [], ◌∷◌, ◌++◌, refl, subst}
use mathlib.Core.Bool.{◌&&◌, true}
use lib.Dec.{T}
use seplogic.Ra.Ura.{Ura}
use mir.Raw.{raw as bare}
use mir.Val.{Val, vstruct, of_list, has_ty, WT}
use mir.Syntax.{ty_ptr, impl, tnil, dnil}
use base.Fraction.{full_share}
use base.Logic.{never, fst∗, snd∗, via, guard_i}
use types.Logic.{Logic, sem}
use contract.Monad.{fact_use}
use types.Kit.{Item, Goal, Seq, Step, step, ‵, given, ◌$◌, move, drop, fsplit, fjoin, fpick, fpack, feq_i, feq_l, use1, learn}
use denote.RattleType.{RattleType, Valss}
use denote.Builtin.{RawPtr}
use denote.Memory.{lone}
use denote.RawPtr.{Ptr, block_ptr, null_ptr, ptr_val, in_a_block, Testable, lies_at}
use denote.Steps.{nothing}
use denote.Param.{layout}
use denote.Struct.Struct.{within}
use denote.Struct.Owning.{shape, to}
use Rattle.std.specs.Prelude.{Option, None, Some}
use Rattle.std.specs.Global.{Global}
use Rattle.core.proofs.alloc.Calls.{Al, handle_tells}
use Rattle.core.proofs.atomic.Steps.{Ptr-Good}
use Rattle.core.proofs.cell.Inside.{Good}
use Rattle.std_heap.specs.contracts.Global as heap
use Rattle.std_heap.proofs.Global.TheLaws as heap_laws
use Rattle.std_heap.specs.contracts.GlobalAllocator.TheImpl.{ghosts}
use Rattle.std_heap.proofs.GlobalToken.{dealloc_token-Testable}
use Rattle.spin_c.specs.contracts.maybe.Maybe as maybe
use Rattle.spin_c.specs.Owned.{boxed, maybe_owns}
use Rattle.spin_c.proofs.Values.{both, both_tt}

abbrev pub Z : RattleType
Z = heap.the_row

abbrev al : Al
al = record { row = Z; laws = heap_laws.the_row_laws; g = ghosts; d = impl [] tnil dnil; drops = impl [] tnil dnil }

pub words_good : (p : Ptr) (h : Val) → Good (layout Z) h → T (has_ty ty_ptr (ptr_val p) && (has_ty (layout Z) h && true)) × WT (both (ptr_val p) h)
words_good p h fits = (both_tt (has_ty ty_ptr (ptr_val p)) (has_ty (layout Z) h) (Ptr-Good p).0 fits.0, ((Ptr-Good p).1, (fits.1, tt)))

module _ (R : RattleType) where
  abbrev pub Maybe : RattleType
  Maybe = maybe.the_row R

  module _ {M : Type 1} {𝓤 : Ura M} {𝓛 : Logic 𝓤} {K : Type 0} {Γ : List (Item 𝓤)} {G : Goal 𝓤 𝓛.H} where
    -- by value it is [what it owns; the allocator]
    pub maybe_out : K → (d : Maybe.Denot) (vs : List Val)
        → ((h : Val) → vs ≡ both (ptr_val d.at) h ∷ [] → Good (layout Z) h → Seq K 𝓛 (‵ (maybe_owns R d.alloc d.at d.value) ∷ ‵ (Z.own_val d.alloc (h ∷ [])) ∷ Γ) G)
        → Seq K 𝓛 (‵ (Maybe.own_val d vs) ∷ Γ) G
    maybe_out t d vs k =
        fsplit t $ fpick t (λ vss. fsplit t $ feq_l t (λ ev. fsplit t $ feq_l t (λ ep. fsplit t $ handle_tells al t d.alloc vss.1.0 (λ h ea fits. move t (1 ∷ []) $ drop t $ move t (1 ∷ []) $ k h
        (subst (λ (ws : List Val). vs ≡ vstruct (of_list (ptr_val d.at ∷ (ws ++ []))) ∷ []) ea (subst (λ (ps : List Val). vs ≡ vstruct (of_list (ps ++ (vss.1.0 ++ []))) ∷ []) ep ev)) fits))))

    pub maybe_in : K → (p : Ptr) (h : Val) (a : Z.Denot) (x : Option R.Denot)
        → Step K 𝓛 (‵ (Maybe.own_val (record { at = p; alloc = a; value = x }) (both (ptr_val p) h ∷ [])) ∷ Γ) G (‵ (maybe_owns R a p x) ∷ ‵ (Z.own_val a (h ∷ [])) ∷ Γ) G
    maybe_in t p h a x = step (λ s. let v : Val = both (ptr_val p) h in
        nothing t $ move t (2 ∷ 0 ∷ []) $ fjoin t $ feq_i t (List Val) (ptr_val p ∷ []) (ptr_val p ∷ []) refl $ fjoin t $ feq_i t (List Val) (v ∷ []) (v ∷ []) refl $ fjoin t $
        fpack t (Valss (RawPtr ∷ Z ∷ [])) (within (shape (maybe.the_type R)) (to (maybe.the_type R) (record { at = p; alloc = a; value = x })) (v ∷ [])) (ptr_val p ∷ [], (h ∷ [], tt)) $ fjoin t $ s)

    -- either it is null, or it owns a box
    pub either : K → (a : Global) (p : Ptr) (x : Option R.Denot)
        → (x ≡ None → p ≡ null_ptr → Seq K 𝓛 Γ G)
        → ((b o : ℕ) (y : R.Denot) → x ≡ Some y → p ≡ block_ptr b o → Testable (block_ptr b o) → Seq K 𝓛 (‵ (boxed R a (block_ptr b o) y) ∷ Γ) G)
        → Seq K 𝓛 (‵ (maybe_owns R a p x) ∷ Γ) G
    either t a p None none one = feq_l t (λ e. none refl e)
    either t a p (Some y) none one =
        in_a_block t p (λ q. boxed R a q y) (fst∗ 𝓤 (never 𝓤) (sem 𝓛 (ghosts.dealloc_token a (bare (lone R.mir)) null_ptr))) (λ b o e.
        use1 𝓛 (given (Testable (block_ptr b o)) (‵ (boxed R a (block_ptr b o) y)))
        (fact_use 𝓤 (Testable (block_ptr b o)) (via 𝓤 _ (snd∗ 𝓤 (sem 𝓛 (lies_at R full_share (block_ptr b o) y)) (sem 𝓛 (ghosts.dealloc_token a (bare (lone R.mir)) (block_ptr b o))))
        (dealloc_token-Testable 𝓛 a (bare (lone R.mir)) (block_ptr b o))) (guard_i 𝓤 (Testable (block_ptr b o)) (sem 𝓛 (boxed R a (block_ptr b o) y)))) $
        learn t (λ is. one b o y refl e is))
