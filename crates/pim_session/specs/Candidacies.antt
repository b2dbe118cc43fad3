-- A candidacy (RFC 5059) beside a listener, at the session's router: what it hears, and what it does as time passes.
use Rattle.std.{specs.Prelude.{List, ℕ}}
use Rattle.pim_model.{specs.State.State}
use Rattle.pim_bsr.{specs.{Hearing.around_of, Table.Known}}
use Rattle.pim_candidate.{specs.Candidacy.{Advertised, Candidacy, CandidacyHearing, Left, candidacy_heard, time_passed, unicast_heard}}

-- a packet that it hears on an interface, at a router in a state
abbrev pub stood_at : State → Candidacy → Known → ℕ → List ℕ → ℕ → CandidacyHearing
stood_at s c k i bytes draw = candidacy_heard (around_of s) c k i bytes draw

-- a packet to one of the router's addresses
abbrev pub told_at : State → Candidacy → List ℕ → Advertised
told_at s c bytes = unicast_heard (around_of s) c bytes

-- time passed to a timestamp
abbrev pub passed_at : State → Candidacy → Known → ℕ → ℕ → Left
passed_at s c k moment draw = time_passed (around_of s) c k moment draw
