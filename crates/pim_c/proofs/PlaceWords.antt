-- The machine values of a struct of a pointer and of the handle of the allocator, with what stands behind the pointer: taken
-- out of what it owns, and put back. Assumes `Logic`.
use Rattle.std.{proofs.{Common.{◌≡◌, List, [], ◌∷◌, ◌++◌, refl, subst, sym, lit<}, lemmas.Bool.true≢false, alloc.Calls.{Al, handle_tells}, cell.Inside.Good}, specs.{Prelude.{None, Option, Some, is_some}, contracts.impls.GlobalAllocator.TheImpl.ghosts as tokens}}
use mathlib.{Core.Bool.{true, ◌&&◌}}
use lib.{Dec.T}
use seplogic.{Ra.Ura.Ura}
use base.{Fml.{Fml, fsep}}
use mir.{Syntax.{impl, tnil, dnil}, Val.{Val, vstruct, of_list, has_ty, WT}}
use types.{Logic.Logic, Kit.{Item, Goal, Seq, Step, step, ‵, ◌$◌, move, drop, fsplit, fjoin, fpick, fpack, feq_i, feq_l}}
use denote.{RattleType.{RattleType, Valss}, Builtin.RawPtr, RawPtr.{Ptr, null_ptr, ptr_val}, Steps.nothing, Param.{layout, Laws.Laws}, Struct.Struct.{Shape, Struct, within}}
use Rattle.std_alloc.{proofs.ResultValues.and_tt}
use Rattle.pim_c.{proofs.PointedWords.pair}
use Rattle.std.specs.contracts.alloc.Global as heap
use Rattle.std.proofs.alloc.Global.TheLaws as heap_laws

abbrev pub Z : RattleType
Z = heap.the_row

abbrev pub laws : Laws Z
laws = heap_laws.the_row_laws

abbrev pub handle : Al
handle = record { row = Z; laws = laws; g = tokens; d = impl [] tnil dnil; drops = impl [] tnil dnil }

-- a pointer and a handle; what a struct is called isn't said of its values
abbrev pub both : Shape
both = record { name = []; args = []; types = []; fields = RawPtr ∷ Z ∷ [] }

-- what a struct of them owns, with what stands behind the pointer
abbrev pub owned : Ptr → Z.Denot → Fml → List Val → Fml
owned at a behind vs = fsep ((Struct both).own_val (at, (a, tt)) vs) behind

-- what is there
pub value_of : {A : Type 0} → (o : Option A) → is_some o ≡ true → (x : A) × (o ≡ Some x)
value_of (Some x) there = (x, refl)
value_of None there = absurd (true≢false (sym there))

pub null_good : (h : Val) → Good (layout Z) h → T (has_ty (layout Z) h && true) × WT (pair (ptr_val null_ptr) h)
null_good h fits = (and_tt (has_ty (layout Z) h) fits.0, (record { fits = lit< tt }, (fits.1, tt)))

module _ {M : Type 1} {𝓤 : Ura M} {𝓛 : Logic 𝓤} {K : Type 0} {Γ : List (Item 𝓤)} {G : Goal 𝓤 𝓛.H} where
  -- [what stands behind the pointer; the handle] out of the struct
  pub place_out : K → (at : Ptr) (a : Z.Denot) (behind : Fml) (vs : List Val)
      → ((h : Val) → vs ≡ pair (ptr_val at) h ∷ [] → Good (layout Z) h
      → Seq K 𝓛 (‵ behind ∷ ‵ (Z.own_val a (h ∷ [])) ∷ Γ) G)
      → Seq K 𝓛 (‵ (owned at a behind vs) ∷ Γ) G
  place_out t at a behind vs k =
      fsplit t $ fpick t (λ vss. fsplit t $ feq_l t (λ whole. fsplit t $ feq_l t (λ is_at. fsplit t $
      handle_tells handle t a vss.1.0 (λ h is fits. move t (1 ∷ []) $ drop t $ move t (1 ∷ []) $ k h
      (subst (λ (ws : List Val). vs ≡ vstruct (of_list (ptr_val at ∷ (ws ++ []))) ∷ []) is
      (subst (λ (ps : List Val). vs ≡ vstruct (of_list (ps ++ (vss.1.0 ++ []))) ∷ []) is_at whole)) fits))))

  -- [what stands behind the pointer; the handle] back into the struct
  pub place_in : K → (at : Ptr) (a : Z.Denot) (behind : Fml) (h : Val)
      → Step K 𝓛 (‵ (owned at a behind (pair (ptr_val at) h ∷ [])) ∷ Γ) G (‵ behind ∷ ‵ (Z.own_val a (h ∷ [])) ∷ Γ) G
  place_in t at a behind h = step (λ s. let v : Val = pair (ptr_val at) h in
      nothing t $ move t (2 ∷ 0 ∷ []) $ fjoin t $ feq_i t (List Val) (ptr_val at ∷ []) (ptr_val at ∷ []) refl $ fjoin t $
      feq_i t (List Val) (v ∷ []) (v ∷ []) refl $ fjoin t $
      fpack t (Valss (RawPtr ∷ Z ∷ [])) (within both (at, (a, tt)) (v ∷ [])) (ptr_val at ∷ [], (h ∷ [], tt)) $ fjoin t $ s)
