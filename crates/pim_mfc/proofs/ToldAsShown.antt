-- A row made of what shows the answers of a state shows the row that is told there.
use Rattle.std.{proofs.Common.{◌≡◌, ℕ, Bool, true, false, not, ◌&&◌, ◌||◌, cond, Option, Some, None, nat_lt, refl, sym, ap, ◌∙◌, arith}}
use Rattle.pim_ifset.{specs.Members.has}
use Rattle.pim_macros.{specs.{Rows.{ShowsAnswers, answers_of, number_of}, declared.rows.SourceAnswers.SourceAnswers}}
use Rattle.pim_model.{specs.{Cache.Answers, Sets.Set, Tables.same_option}}
use Rattle.law_plane.{specs.Offload.offload}
use Rattle.pim_mfc.{specs.Shown.ShownIsTold}

is_it : (o : Option ℕ) (i : ℕ) → same_option o (Some i) ≡ true → o ≡ Some i
is_it None i e = let none : ⊥ = cc in absurd none
is_it (Some m) i e = let same : m ≡ i = grind (arith, e) in ap Some same

below : (b x : Bool) → b ≡ true → (b && x) ≡ x
below true x e = refl
below false x e = let none : ⊥ = cc in absurd none

chosen : (p : Bool) (a b : Set) (i : ℕ) → cond p a b i ≡ cond p (a i) (b i)
chosen true a b i = refl
chosen false a b i = refl

module _ (row : SourceAnswers) (a : Answers) (is : ShowsAnswers row a) where
  pub incoming_same : cond row.spt (number_of row.rpf) (number_of row.rp_rpf) ≡ cond a.spt a.rpf a.rp_rpf
  incoming_same = λ j. cond (is.spt j) (is.rpf j) (is.rp_rpf j)

  module _ (i : ℕ) (low : nat_lt i 120 ≡ true) where
    pub outgoing_same : cond row.spt (has row.inherited) (has row.inherited_rpt) i ≡ cond a.spt a.inherited a.inherited_rpt i
    outgoing_same =
        chosen row.spt (has row.inherited) (has row.inherited_rpt) i
        ∙ ((λ j. cond (is.spt j) ((is.inherited i ∙ below (nat_lt i 120) (a.inherited i) low) j)
        ((is.inherited_rpt i ∙ below (nat_lt i 120) (a.inherited_rpt i) low) j))
        ∙ sym (chosen a.spt a.inherited a.inherited_rpt i))

    pub alive_same : ((same_option (number_of row.rpf) (Some i) && (row.is_connected || (row.is_desired && row.flows)))
        || (same_option (number_of row.rp_rpf) (Some i) && not row.spt && row.watches))
        ≡ ((same_option a.rpf (Some i) && (a.connected || (a.desired && a.flows)))
        || (same_option a.rp_rpf (Some i) && not a.spt && a.watches))
    alive_same = λ j.
        (same_option (is.rpf j) (Some i) && (is.connected j || (is.desired j && is.flows j)))
        || (same_option (is.rp_rpf j) (Some i) && not (is.spt j) && is.watches j)

    sets_same : (same_option (number_of row.rpf) (Some i) && row.reaches_spt && not row.spt)
        ≡ (same_option a.rpf (Some i) && a.reaches && not a.spt)
    sets_same = (λ j. same_option (is.rpf j) (Some i) && row.reaches_spt && not (is.spt j)) ∙ go (same_option a.rpf (Some i)) refl
      where
        go : (b : Bool) → same_option a.rpf (Some i) ≡ b → (b && row.reaches_spt && not a.spt) ≡ (b && a.reaches && not a.spt)
        go true e = ap (λ (r : Bool). r && not a.spt) (is.reaches i low (is_it a.rpf i e))
        go false e = refl

    pub core_same : ((same_option (number_of row.rpf) (Some i) && row.is_connected && row.may_register && not row.is_registered)
        || (same_option (number_of row.rpf) (Some i) && row.reaches_spt && not row.spt)
        || cond (same_option (cond row.spt (number_of row.rpf) (number_of row.rp_rpf)) (Some i))
        (row.spt && row.inherited.tunnel) (has row.contested i))
        ≡ ((same_option a.rpf (Some i) && a.connected && a.may_register && not a.registered)
        || (same_option a.rpf (Some i) && a.reaches && not a.spt)
        || cond (same_option (cond a.spt a.rpf a.rp_rpf) (Some i)) (a.spt && a.has_tunnel) (a.contested i))
    core_same = λ j.
        (same_option (is.rpf j) (Some i) && is.connected j && is.may_register j && not (is.registered j))
        || sets_same j
        || cond (same_option (incoming_same j) (Some i)) (is.spt j && is.inherited_tunnel j)
        ((is.contested i ∙ below (nat_lt i 120) (a.contested i) low) j)

pub shown_is_told : ShownIsTold
unfolding offload answers_of
shown_is_told row a shown is shows = record {
  incoming = shows.incoming ∙ incoming_same row a is;
  outgoing = λ i low. shows.outgoing i low ∙ outgoing_same row a is i low;
  alive = λ i low. shows.alive i low ∙ alive_same row a is i low;
  to_core = λ i low. shows.to_core i low ∙ core_same row a is i low;
}
