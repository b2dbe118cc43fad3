-- The machine values of a `Pointed`: taken out of what it owns, and put back. Assumes `Logic`.
use Rattle.std.{proofs.{Common.{◌≡◌, ℕ, List, [], ◌∷◌, ◌++◌, refl, subst}, alloc.Calls.{Al, handle_tells}, cell.Inside.Good}, specs.declared.alloc.Allocator.Ghosts}
use mathlib.{Core.Bool.{true, ◌&&◌}}
use lib.{Dec.T}
use seplogic.{Ra.Ura.Ura}
use mir.{Syntax.{impl, tnil, dnil}, Raw.raw as bare, Val.{Val, vptr, vstruct, vcons, vnil, of_list, has_ty, WT}}
use base.{Logic.{never, fst∗}}
use types.{Logic.{Logic, sem}, Kit.{Item, Goal, Seq, Step, step, ‵, ◌$◌, move, drop, fsplit, fjoin, fpick, fpack, feq_i, feq_l}}
use denote.{RattleType.{RattleType, Valss}, Builtin.RawPtr, Memory.lone, RawPtr.{Ptr, block_ptr, null_ptr, ptr_val, in_a_block}, Steps.nothing, Param.{layout, Laws.Laws}, Struct.{Struct.within, Owning.shape}}
use Rattle.std_alloc.{specs.Box.Ownership.box_owns, proofs.ResultValues.and_tt}
use Rattle.pim_c.specs.contracts.pointed.Pointed as pointed

-- a struct of two machine values
abbrev pub pair : Val → Val → Val
pair v w = vstruct (vcons v (vcons w vnil))

module _ (R Z : RattleType) (L : Laws Z) (g : Ghosts Z.Denot) where
  abbrev pub Row : RattleType
  Row = pointed.the_row R Z g

  abbrev handle : Al
  handle = record { row = Z; laws = L; g = g; d = impl [] tnil dnil; drops = impl [] tnil dnil }

  pub pair_good : (b o : ℕ) (h : Val) → Good (layout Z) h → T (has_ty (layout Z) h && true) × WT (pair (vptr b o) h)
  pair_good b o h fits = (and_tt (has_ty (layout Z) h) fits.0, (tt, (fits.1, tt)))

  module _ {M : Type 1} {𝓤 : Ura M} {𝓛 : Logic 𝓤} {K : Type 0} {Γ : List (Item 𝓤)} {G : Goal 𝓤 𝓛.H} where
    -- [the value with its block; the handle] out of the struct
    pub pointed_out : K → (d : Row.Denot) (vs : List Val)
        → ((b o : ℕ) (h : Val) → d.at ≡ block_ptr b o → vs ≡ pair (vptr b o) h ∷ [] → Good (layout Z) h
        → Seq K 𝓛 (‵ (box_owns (g.dealloc_token d.alloc) R (block_ptr b o) d.value) ∷ ‵ (Z.own_val d.alloc (h ∷ [])) ∷ Γ) G)
        → Seq K 𝓛 (‵ (Row.own_val d vs) ∷ Γ) G
    pointed_out t d vs k =
        fsplit t $ fpick t (λ vss. fsplit t $ feq_l t (λ whole. fsplit t $ feq_l t (λ at. fsplit t $
        handle_tells handle t d.alloc vss.1.0 (λ h is fits. move t (1 ∷ []) $ drop t $ move t (1 ∷ []) $
        in_a_block t d.at (λ p. box_owns (g.dealloc_token d.alloc) R p d.value) (fst∗ 𝓤 (never 𝓤) (sem 𝓛 (g.dealloc_token d.alloc (bare (lone R.mir)) null_ptr))) (λ b o e. k b o h e
        (subst (λ (p : Ptr). vs ≡ vstruct (of_list (ptr_val p ∷ h ∷ [])) ∷ []) e
        (subst (λ (ws : List Val). vs ≡ vstruct (of_list (ptr_val d.at ∷ (ws ++ []))) ∷ []) is
        (subst (λ (ps : List Val). vs ≡ vstruct (of_list (ps ++ (vss.1.0 ++ []))) ∷ []) at whole))) fits)))))

    -- [the value with its block; the handle] back into the struct
    pub pointed_in : K → (b o : ℕ) (h : Val) (a : Z.Denot) (x : R.Denot)
        → Step K 𝓛 (‵ (Row.own_val (record { at = block_ptr b o; alloc = a; value = x }) (pair (vptr b o) h ∷ [])) ∷ Γ) G
        (‵ (box_owns (g.dealloc_token a) R (block_ptr b o) x) ∷ ‵ (Z.own_val a (h ∷ [])) ∷ Γ) G
    pointed_in t b o h a x = step (λ s. let v : Val = pair (vptr b o) h in
        nothing t $ move t (2 ∷ 0 ∷ []) $ fjoin t $ feq_i t (List Val) (vptr b o ∷ []) (vptr b o ∷ []) refl $ fjoin t $
        feq_i t (List Val) (v ∷ []) (v ∷ []) refl $ fjoin t $
        fpack t (Valss (RawPtr ∷ Z ∷ [])) (within (shape (pointed.the_type R Z g)) (block_ptr b o, (a, tt)) (v ∷ [])) (vptr b o ∷ [], (h ∷ [], tt)) $ fjoin t $ s)
