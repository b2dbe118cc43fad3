use Rattle.std.{proofs.Common.{◌≡◌, ℕ, Bool, true, false, not, ◌&&◌, ◌||◌, cond, Some, refl, ◌∙◌}}
use Rattle.pim_ifset.{specs.Members.has}
use Rattle.pim_macros.{specs.Rows.{answers_of, number_of}}
use Rattle.pim_model.{specs.{Sets.Set, Tables.same_option}}
use Rattle.law_plane.{specs.Offload.offload}
use Rattle.pim_mfc.proofs.row.offload.Goals as goal

chosen : (p : Bool) (a b : Set) (i : ℕ) → cond p (a i) (b i) ≡ cond p a b i
chosen true a b i = refl
chosen false a b i = refl

alive_so : (t l h p w : Bool) → ((false || (t && l)) || (h && (not p && w))) ≡ ((t && l) || (h && not p && w))
alive_so t l true p w = refl
alive_so t l false p w = refl

core_so : (x t c m r e p : Bool) → (x || (t && ((c && m && not r) || (e && not p)))) ≡ ((t && c && m && not r) || (t && e && not p) || x)
core_so true true true true true true true = refl
core_so true true true true true true false = refl
core_so true true true true true false p = refl
core_so true true true true false e p = refl
core_so true true true false r true true = refl
core_so true true true false r true false = refl
core_so true true true false r false p = refl
core_so true true false m r true true = refl
core_so true true false m r true false = refl
core_so true true false m r false p = refl
core_so true false c m r e p = refl
core_so false true true true true true true = refl
core_so false true true true true true false = refl
core_so false true true true true false p = refl
core_so false true true true false e p = refl
core_so false true true false r true true = refl
core_so false true true false r true false = refl
core_so false true true false r false p = refl
core_so false true false m r true true = refl
core_so false true false m r true false = refl
core_so false true false m r false p = refl
core_so false false c m r e p = refl

pub returns : goal.returns
unfolding offload answers_of
returns c =
    let row : _ = c.args.row.now in
    record {
      incoming = c.incoming-incoming.ensures;
      outgoing = λ i low. c.outgoing.ensures i ∙ chosen row.spt (has row.inherited) (has row.inherited_rpt) i;
      alive = λ i low.
          c.with_if.ensures i low
          ∙ ((λ j. ((c.with_if-live.ensures i low
          ∙ (λ k. c.new.ensures.interfaces i k || (same_option (number_of row.rpf) (Some i) && c.is_live.ensures k))) j)
          || (same_option (number_of row.rp_rpf) (Some i) && c.is_watched.ensures j))
          ∙ alive_so (same_option (number_of row.rpf) (Some i)) (row.is_connected || (row.is_desired && row.flows))
          (same_option (number_of row.rp_rpf) (Some i)) row.spt row.watches);
      to_core = λ i low.
          c.with_if-2.ensures i low
          ∙ ((λ j. ((c.with_set-strays.ensures i low
          ∙ (λ k. cond (same_option (c.incoming-incoming.ensures k) (Some i)) (c.is_tunnelled.ensures k) (has row.contested i))) j)
          || (same_option (number_of row.rpf) (Some i) && c.opens_or_sets.ensures j))
          ∙ core_so (cond (same_option (cond row.spt (number_of row.rpf) (number_of row.rp_rpf)) (Some i))
          (row.spt && row.inherited.tunnel) (has row.contested i)) (same_option (number_of row.rpf) (Some i)) row.is_connected
          row.may_register row.is_registered row.reaches_spt row.spt);
    }
