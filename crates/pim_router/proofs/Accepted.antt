-- A router stays under a configuration that is accepted, and its timers end within their periods.
use Rattle.std.{proofs.{Common.{◌≡◌, ℕ, Err, Ok, Result, true, subst, sym}, lemmas.Result.on_ok_weaker}, specs.Prelude.OnOk}
use Rattle.pim_types.{specs.declared.{config.Config.Config, event.Event.Event}}
use Rattle.law_events.{specs.Rest.IsAtRest}
use Rattle.pim_mfc.{specs.Laws.ShowsRows}
use Rattle.pim_event.{specs.declared.parts.Core.Core}
use Rattle.pim_router.{specs.Stepping.Stands}
use Rattle.pim_model.{specs.{Cache.cached, Limits.config_test, State.{State, opening, settings_of}, Step.step}}
use Rattle.law_plane.{specs.Keeping.{keep, kept_until}}
use Rattle.law_states.{specs.{NearStates.is_near, Reload.config_of}, proofs.{NearStates.near_stays, Accepted.accepted_stays}}

abbrev IsAccepted : State → Type 0
IsAccepted s = config_test (config_of s) ≡ Ok tt

-- the opening is under the configuration that it opens with
pub opening_accepted : (c : Config) (s : State) → config_test c ≡ Ok tt → s ≡ opening c → IsAccepted s
unfolding config_of opening settings_of
opening_accepted c s accepted opens = subst IsAccepted (sym opens) accepted

-- an event that is taken leaves the state under one
pub accepted_next : {A E : Type 0} (s n : State) (e : Event) (r : Result A E) → IsAccepted s
    → OnOk r (n ≡ (step s e).state) → OnOk r (IsAccepted n)
accepted_next s n e r accepted is =
    on_ok_weaker r (λ same. subst IsAccepted (sym same) (accepted_stays s e accepted)) is

-- a later end of KAT(S,G) leaves the configuration as it is
pub kept_accepted : (s : State) (g src end : ℕ) (n : State) → n ≡ kept_until s g src end → IsAccepted s → IsAccepted n
unfolding config_of kept_until
kept_accepted s g src end n is accepted = subst IsAccepted (sym is) accepted

-- ---- near

abbrev IsNear : State → Type 0
IsNear s = is_near s ≡ true

pub opening_near : (c : Config) (s : State) → s ≡ opening c → IsNear s
opening_near c s opens = subst IsNear (sym opens) (near_stays.opening c)

pub near_next : {A E : Type 0} (s n : State) (e : Event) (r : Result A E) → IsAtRest s → IsNear s
    → OnOk r (n ≡ (step s e).state) → OnOk r (IsNear n)
near_next s n e r rest near is =
    on_ok_weaker r (λ same. subst IsNear (sym same) (near_stays.step s e rest near)) is

pub kept_near : (s : State) (g src m : ℕ) (n : State) → n ≡ keep s g src m → IsNear s → IsNear n
kept_near s g src m n is near = subst IsNear (sym is) (near_stays.keep s g src m near)

-- the parts of a router stand where all of this holds after what was taken
pub stands_next : {A E : Type 0} (t : Core) (r : Result A E) → OnOk r (IsAtRest t.world)
    → OnOk r (ShowsRows t.cache.mfc.rows (cached t.world)) → OnOk r (IsAccepted t.world) → OnOk r (IsNear t.world)
    → OnOk r (Stands t)
stands_next t (Ok x) rest shown accepted near = record { rest = rest; shown = shown; accepted = accepted; near = near }
stands_next t (Err e) rest shown accepted near = tt
