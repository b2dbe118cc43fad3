-- As what a router of a scenario stands in an election of RFC 5059.
use Rattle.std.{specs.Prelude.{option_map, ℕ}}
use Rattle.pim_candidate.{specs.{Candidacy.{Candidacy, StandingRp, new_candidacy}, declared.candidacy.StandsAsBsr.StandsAsBsr}}
use Rattle.pim_scenario.{specs.declared.scenario.{BsrText.BsrText, RpText.RpText, StandingText.StandingText}}

abbrev pub bsr_of : BsrText → StandsAsBsr
bsr_of b = record {
  bsr = record { address = b.address; priority = b.priority };
  hash_length = b.hash_length;
  limit = b.limit;
}

abbrev pub rp_of : RpText → StandingRp
rp_of r = record { address = r.address; priority = r.priority; ranges = r.ranges }

-- A router that begins to stand so at a timestamp, in ms.
abbrev pub standing_as : StandingText → ℕ → Candidacy
standing_as s moment = new_candidacy (option_map bsr_of s.bsr) (option_map rp_of s.rp) moment
