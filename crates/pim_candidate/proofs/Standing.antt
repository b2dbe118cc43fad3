-- A router that stands as nothing.
use Rattle.std.{proofs.Common.{◌≡◌, ℕ, List, [], ◌++◌, append-nil, Option, None, sym, ap, ◌∙◌}}
use Rattle.pim_types.{specs.declared.outcome.Emission.Emission}
use Rattle.pim_bsr.{specs.{Hearing.{Around, Hearing, heard_frame}, Table.{Known, at_time}}}
use Rattle.pim_candidate.{specs.{Candidacy.{Candidacy, Left, StandingRp, advertising_by, advertising_passed, and_follows, as_front, bsr_end, bsr_of, candidacy_end, candidacy_heard, elected_by, election_passed, followed, following, heard_by, leaving, left_for_good, quiet, rp_end, set_passed, set_passed_by, sooner, time_passed, Told, told_after, untold}, CandidacyLaws.NotStandingChangesNothing, declared.candidacy.StandingBsr.StandingBsr}}

module _ (s : Around) (c : Candidacy) (k : Known) (no_bsr : c.bsr ≡ None) (no_rp : c.rp ≡ None) where
  follows : (draw now : ℕ) (l : Known) → followed draw now l c ≡ c
  unfolding followed
  follows draw now l =
      ap (λ (r : Option StandingRp). let d : Candidacy = record c { advertising = following r c.advertising l.elected draw now } in d) no_rp

  hears : (i : ℕ) (bytes : List ℕ) (draw : ℕ) → candidacy_heard s c k i bytes draw ≡ as_front c (heard_frame s k i bytes)
  unfolding candidacy_heard
  hears i bytes draw =
      let h : Hearing = heard_frame s k i bytes in
      ap (λ (b : Option StandingBsr). and_follows draw s.present (heard_by b s c k i bytes)) no_bsr
      ∙ ap (λ (d : Candidacy). as_front d h) (follows draw s.present h.known)

  waits_for_nothing : (now : ℕ) → set_passed now c ≡ c
  unfolding set_passed
  waits_for_nothing now = ap (λ (b : Option StandingBsr). set_passed_by b now c) no_bsr

  elects_nothing : (now : ℕ) (l : Known) → election_passed s now c l ≡ quiet c l
  unfolding election_passed
  elects_nothing now l = ap (λ (b : Option StandingBsr). elected_by b s now c l) no_bsr

  tells_nothing : (now draw : ℕ) → advertising_passed now draw c ≡ untold c
  unfolding advertising_passed
  tells_nothing now draw = ap (λ (r : Option StandingRp). advertising_by r c.advertising.bsr now draw c) no_rp

  told_nothing : (now draw : ℕ) (l : Known) → told_after now draw (quiet c l) ≡ quiet c l
  told_nothing now draw l =
      ap (λ (d : Candidacy). told_of (advertising_passed now draw d)) (follows draw now l) ∙ ap told_of (tells_nothing now draw)
    where
      told_of : Told → Left
      told_of t = record { candidacy = t.candidacy; known = l; sent = [] ++ t.sent }

  pub passes : (now draw : ℕ) → time_passed s c k now draw ≡ quiet c (at_time now k)
  unfolding time_passed
  passes now draw =
      ap (λ (d : Candidacy). told_after now draw (election_passed s now d (at_time now k))) (waits_for_nothing now)
      ∙ ap (told_after now draw) (elects_nothing now (at_time now k))
      ∙ told_nothing now draw (at_time now k)

  pub sends_nothing : (out : List Emission) (now draw : ℕ) → out ≡ out ++ (time_passed s c k now draw).sent
  sends_nothing out now draw = sym (append-nil out) ∙ ap (λ (l : Left). out ++ l.sent) (sym (passes now draw))

  waits : candidacy_end c ≡ None
  unfolding candidacy_end
  waits =
      ap (λ (b : Option StandingBsr). sooner (bsr_end b c.rp_set) (rp_end c.rp c.advertising.bsr c.advertising.end)) no_bsr
      ∙ ap (λ (r : Option StandingRp). rp_end r c.advertising.bsr c.advertising.end) no_rp

  leaves : left_for_good c k ≡ []
  unfolding left_for_good
  leaves = ap (λ (r : Option StandingRp). leaving c.bsr r (bsr_of k.elected)) no_rp

pub not_standing : NotStandingChangesNothing
not_standing s c k no_bsr no_rp = record {
  hears = hears s c k no_bsr no_rp;
  passes = passes s c k no_bsr no_rp;
  waits = waits s c k no_bsr no_rp;
  leaves = leaves s c k no_bsr no_rp;
}
