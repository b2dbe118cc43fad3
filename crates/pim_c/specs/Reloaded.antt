-- What a reload does to a handle and answers.
use Rattle.std.{specs.Prelude.{[], Err, IfSome, List, None, Ok, Option, Result, Some, ℕ, ◌≡◌, ◌⊎◌}}
use Rattle.pim_model.{specs.{Limits.config_test, State.State}}
use Rattle.law_states.{specs.{History.Given, Reloading.reload}}
use Rattle.pim_router.{specs.{Asked.LeadsOn, Standing.Standing, Stepped.PutUnder}}
use Rattle.pim_session.{specs.{Front.{Front, emissions_leaving}, Reloaded.front_reloaded, Session.ShownSession, Shared.reload_tested, Untaken.{SettingsStay, has_untaken}, declared.refused.ReloadRefusal.ReloadRefusal}}
use Rattle.pim_types.{specs.declared.{config.Config.Config, outcome.Emission.Emission}}
use Rattle.pim_c.{specs.{Called.{AtSession, Refused, UnlessUntaken, lost}, Returned.reload_number, Written.Untouched}}

-- What a session shows after its router was put under another configuration, by what that makes of the router's state and
-- sends, and by what stands before the router then: all sources with a fact before or after it are listed, all count as
-- disturbed, and no rows are kept. What led to the router's state goes on with the reload.
pub record Put (given : Given) (made : State × List Emission) (before : Option Front) (s : ShownSession) (r : Standing) (left : ShownSession) : Type 0 where
  pub put : PutUnder r.state made.0 left.router
  pub led : IfSome left.router.standing (λ after. LeadsOn r.state given after.state)
  pub front : left.front ≡ before
  pub settings : SettingsStay s left
  pub sent : left.sent ≡ emissions_leaving s.front made.1
  pub rows : left.rows ≡ []
  pub older_rows : left.older_rows ≡ []

-- A configuration or a map of places that is refused, or a configuration that the sets of RPs don't fit, changes nothing.
abbrev pub PutIfOk : Result (Unit {0}) ReloadRefusal → ShownSession → ℕ → ShownSession → Type 0 → Type 0
PutIfOk (Ok _) s answer left put = (answer ≡ 0) × put
PutIfOk (Err refusal) s answer left put = Untouched (reload_number refusal) s answer left

-- The call was refused for untaken packets, or the router was put under the configuration, or this was refused by its
-- tests, or an allocation failed.
abbrev pub ReloadedBy : Result (Unit {0}) ReloadRefusal → ShownSession → ℕ → ShownSession → Type 0 → Type 0
ReloadedBy test s answer left put =
    UnlessUntaken (has_untaken s) s answer left (PutIfOk test s answer left put ⊎ ((answer ≡ 43) × (left ≡ lost s)))

abbrev pub ReloadedFrom : ShownSession → Option Standing → Config → ℕ → ℕ → ShownSession → Type 0
ReloadedFrom s None config draw answer left = (answer ≡ 41) × (left ≡ lost s)
ReloadedFrom s (Some r) config draw answer left =
    ReloadedBy (reload_tested s.sets config (config_test config)) s answer left (
    Put (Given.Reload config draw) (reload r.state config draw) (front_reloaded (reload r.state config draw).0 s.front) s r left)

-- The configuration was copied, and the router was put under it unless it was refused, or an allocation failed for the copy
-- and nothing changed.
abbrev pub ReloadedCopy : Option ShownSession → Config → ℕ → ℕ → Option ShownSession → Type 0
ReloadedCopy old config draw answer left =
    AtSession (λ s. ReloadedFrom s s.router.standing config draw) old answer left ⊎ Refused old answer left
