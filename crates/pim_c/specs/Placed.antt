-- What a reload by a map of places does to a handle and answers.
use Rattle.std.{specs.Prelude.{None, Option, Some, ℕ, ◌≡◌, ◌⊎◌}}
use Rattle.law_states.{specs.{History.Given, Placing.{Places, reload_by}}}
use Rattle.pim_router.{specs.{Asked.places_test, Standing.Standing}}
use Rattle.pim_session.{specs.{Placed.front_reloaded_by, Session.ShownSession, Shared.reload_tested}}
use Rattle.pim_types.{specs.declared.config.Config.Config}
use Rattle.pim_c.{specs.{Called.{AtSession, Refused, lost}, Reloaded.{Put, ReloadedBy}}}

abbrev pub PlacedFrom : Places → ShownSession → Option Standing → Config → ℕ → ℕ → ShownSession → Type 0
PlacedFrom places s None config draw answer left = (answer ≡ 41) × (left ≡ lost s)
PlacedFrom places s (Some r) config draw answer left =
    ReloadedBy (reload_tested s.sets config (places_test r.state places config)) s answer left (
    Put (Given.Placed places config draw) (reload_by r.state places config draw)
    (front_reloaded_by places (reload_by r.state places config draw).0 s.front) s r left)

-- The configuration and the map were copied, and the router was put under it unless it or the map was refused, or an
-- allocation failed for the copy and nothing changed.
abbrev pub PlacedCopy : Places → Option ShownSession → Config → ℕ → ℕ → Option ShownSession → Type 0
PlacedCopy places old config draw answer left =
    AtSession (λ s. PlacedFrom places s s.router.standing config draw) old answer left ⊎ Refused old answer left
