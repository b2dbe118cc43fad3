-- A packet that a listener for Bootstraps (RFC 5059) hears, beside what it asks of the session's router.
use Rattle.std.{specs.Prelude.{List, Option, ℕ}}
use Rattle.pim_model.{specs.State.State}
use Rattle.pim_router.{specs.Standing.Standing}
use Rattle.pim_bsr.{specs.{Hearing.{Around, Hearing, around_if, around_of, heard_frame}, Table.Known}}

-- what a router answers, if it hasn't failed
abbrev pub around_in : Option Standing → Around
around_in o = around_if (λ (r : Standing). r.state) o

-- a packet that the listener hears at a router in a state
abbrev pub heard_at : State → Known → ℕ → List ℕ → Hearing
heard_at s k i bytes = heard_frame (around_of s) k i bytes
