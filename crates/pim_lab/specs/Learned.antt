-- Routers behind their listeners for Bootstraps (RFC 5059), and what they stand as beside these.
use Rattle.std.{specs.Prelude.{Bool, false}}
use Rattle.pim_candidate.{specs.declared.candidacy.CandidacyHeard.CandidacyHeard}

-- a router is to be given other RPs
abbrev pub is_moved_by : CandidacyHeard → Bool
is_moved_by (CandidacyHeard.Taken moved) = moved
is_moved_by (CandidacyHeard.Answered moved) = moved
is_moved_by _ = false
