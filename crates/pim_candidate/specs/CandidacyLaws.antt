-- What a program may count on of a candidacy.
use Rattle.std.{specs.Prelude.{◌≡◌, ℕ, List, [], None}}
use Rattle.pim_bsr.{specs.{Hearing.{Around, heard_frame}, Table.{Known, at_time}}}
use Rattle.pim_candidate.{specs.{Candidacy.{Candidacy, as_front, candidacy_end, candidacy_heard, left_for_good, quiet, time_passed, unicast_heard}, Sound.IsSoundSet}}

-- A candidacy hears each packet as the front alone does, and nothing else is sent; time passes as for the front alone; none
-- of its timers runs; and nobody is told when it goes.
pub record IsAsFront (s : Around) (c : Candidacy) (k : Known) : Type 0 where
  pub hears : (i : ℕ) (bytes : List ℕ) (draw : ℕ) → candidacy_heard s c k i bytes draw ≡ as_front c (heard_frame s k i bytes)
  pub passes : (now draw : ℕ) → time_passed s c k now draw ≡ quiet c (at_time now k)
  pub waits : candidacy_end c ≡ None
  pub leaves : left_for_good c k ≡ []

-- Without standing as BSR or RP all is as without a candidacy.
abbrev pub NotStandingChangesNothing : Type 0
NotStandingChangesNothing = (s : Around) (c : Candidacy) (k : Known) → c.bsr ≡ None → c.rp ≡ None → IsAsFront s c k

-- What a candidacy holds of RPs is in order after whatever packet, and however time passes.
pub record HoldsInOrder (c : Candidacy) : Type 0 where
  pub hears : (s : Around) (k : Known) (i : ℕ) (bytes : List ℕ) (draw : ℕ)
      → IsSoundSet (candidacy_heard s c k i bytes draw).left.candidacy.rp_set
  pub takes : (s : Around) (bytes : List ℕ) → IsSoundSet (unicast_heard s c bytes).candidacy.rp_set
  pub passes : (s : Around) (k : Known) (now draw : ℕ) → IsSoundSet (time_passed s c k now draw).candidacy.rp_set

-- So each Bootstrap that it originates says just what all routers then have (`AllLearnTheSet`).
abbrev pub OrderStays : Type 0
OrderStays = (c : Candidacy) → IsSoundSet c.rp_set → HoldsInOrder c
