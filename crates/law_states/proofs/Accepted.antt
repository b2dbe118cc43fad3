-- Every event leaves a state under a configuration that is accepted.
use Rattle.std.{proofs.Common.{◌≡◌, ℕ, ◌+◌, ◌-◌, Bool, true, false, not, List, [], length, Ok, Err, refl, sym, ap, subst, ◌∙◌}, specs.{List.list_all, Prelude.Result}}
use Rattle.pim_ip.{specs.{Ipv4.is_unicast, Tests.{expect, ◌>>◌}, declared.refusal.Refusal.Refusal}}
use Rattle.pim_types.{specs.{Keys.star_key, declared.{config.{Config.Config, InterfaceConfig.InterfaceConfig, Route.Route, RpRange.RpRange, RpCandidate.RpCandidate}, event.{Event.Event, EventKind.EventKind}, outcome.Stop.Stop}}}
use Rattle.pim_model.{specs.{Clearing.clear, Firing.{fire_all, fire_instant, fire_once, fired, settled}, Full.is_full, Judging.{Judged, judged, refuse_if, routes_judged, candidates_judged, rps_judged, ◌>>◌ as ◌>>>◌}, Limits.{are_apart, are_own_addresses, are_routes, are_rps, config_test, is_between, is_delay_config, is_querier_config, most_ifaces, are_candidates, are_distinct_candidates}, Messages.Message, Reach.own_firing, State.{State, opening, settings_of}, Step.{Answered, advanced, change, concluded, done, step, stopped, taken, taken_unless_full}, Timers.{Ending, next_due, timers}, Upstream.upstream, declared.accepted.Accepted.Accepted, Unicast.{with_candidates, with_ranges}}}
use Rattle.law_settled.{proofs.{TurnLaws.kept_to_the_end, StepLaws.kept_by_run, UnchangedLaws.full_or_taken, Judgements.IsJudged}}
use Rattle.law_events.{specs.{Locality.{AgreesBut, touching}, Scopes.scope}, proofs.{QuietStates.{frame_packets, frame_upstream}, Touches.agrees_then, Configured.{Ground, change_ground, firing_ground, ground, ground_after}, Reached.{Keeps, clearing_keeps}}}
use Rattle.law_states.{specs.{Reload.config_of, Restart.{AcceptedStays, CandidatesStayAccepted, SavedCandidatesAreAccepted, SavedIsAccepted}}, proofs.Others.{IsOther, other_judged}}

-- ---- what follows of a change leaves the ground

agreed_ground : (s t : State) → AgreesBut (touching []) s t → ground t ≡ ground s
unfolding scope touching
agreed_ground s t agree = sym (ap ground (agree (star_key 0 0) refl))

kept_ground : (s t : State) → Keeps s t → ground t ≡ ground s
kept_ground s t k = λ j. record { settings = sym k.settings j; configured = sym k.configured j; routes = sym k.routes j; ranges = sym k.ranges j }

pub settled_ground : (o : State) (change : State × List Message) (w : ℕ) → ground (settled o change w).0 ≡ ground change.0
unfolding settled
settled_ground o change w =
    let after : State = (clear o change.0).0 in
    let told : State = (upstream o after w).0 in
    agreed_ground after (settled o change w).0
    (agrees_then (touching []) after told (settled o change w).0 (frame_upstream o after w) (frame_packets told _))
    ∙ kept_ground change.0 after (clearing_keeps o change.0)

pub fire_ground : (s : State) (w : ℕ) (e : Ending) → ground (fire_once w s e).0 ≡ ground s
unfolding fire_once own_firing
fire_ground s w e =
    settled_ground s (fired (record s { present = e.end }) e.timer.kind e.timer.key) w ∙ firing_ground s e

module _ (s : State) (w : ℕ) where
  abbrev Stays : State → Type 0
  Stays t = ground t ≡ ground s

  instant_stays : (t : State) (e : Ending) → Stays t → Stays (fire_instant w t e).0
  unfolding fire_instant
  instant_stays t e f =
      kept_to_the_end (next_due e.end) (fire_once w) Stays (λ u d g there. fire_ground u w d ∙ g) (length (timers t) + 1) t f

  advanced_stays : (moment : ℕ) → Stays (advanced s w moment).state
  unfolding advanced fire_all
  advanced_stays moment =
      kept_to_the_end (next_due moment) (fire_instant w) Stays (λ u d g there. instant_stays u d g) (moment + 2 - s.present) s refl

-- ---- an event

-- the configuration that a ground says
abbrev pub config_by : Ground → Config
config_by g = record {
  interfaces = g.configured.interfaces;
  limit = g.settings.limit;
  spt = g.settings.spt;
  robustness = g.settings.robustness;
  query_interval = g.settings.query_interval;
  query_response_interval = g.settings.query_response_interval;
  last_member_query_interval = g.settings.last_member_query_interval;
  routes = g.routes;
  rps = g.ranges.static_ranges;
  addresses = g.configured.addresses;
}

abbrev IsFine : Ground → Type 0
IsFine g = config_test (config_by g) ≡ Ok tt

-- the ten tests
abbrev tests : Bool → Bool → Bool → Bool → Bool → Bool → Bool → Bool → Bool → Bool → Result (Unit {0}) Refusal
tests a b c d e f g h i n = expect a Refusal.InterfaceCount >> expect b Refusal.InterfaceAddress >> expect c Refusal.InterfaceLength >> expect d Refusal.Overlap >> expect e Refusal.BadLimit >> expect f Refusal.BadQuerier >> expect g Refusal.BadDelay >> expect h Refusal.ConfiguredRoutes >> expect i Refusal.ConfiguredRps >> expect n Refusal.OwnAddresses

eighth : (a b c d e f g h i n j : Bool) → tests a b c d e f g h i n ≡ Ok tt → j ≡ true → tests a b c d e f g j i n ≡ Ok tt
eighth false b c d e f g h i n j ok t = absurd cc
eighth true false c d e f g h i n j ok t = absurd cc
eighth true true false d e f g h i n j ok t = absurd cc
eighth true true true false e f g h i n j ok t = absurd cc
eighth true true true true false f g h i n j ok t = absurd cc
eighth true true true true true false g h i n j ok t = absurd cc
eighth true true true true true true false h i n j ok t = absurd cc
eighth true true true true true true true false i n j ok t = absurd cc
eighth true true true true true true true true false n j ok t = absurd cc
eighth true true true true true true true true true false j ok t = absurd cc
eighth true true true true true true true true true true j ok t = ap (λ (k : Bool). tests true true true true true true true k true true) t

ninth : (a b c d e f g h i n j : Bool) → tests a b c d e f g h i n ≡ Ok tt → j ≡ true → tests a b c d e f g h j n ≡ Ok tt
ninth false b c d e f g h i n j ok t = absurd cc
ninth true false c d e f g h i n j ok t = absurd cc
ninth true true false d e f g h i n j ok t = absurd cc
ninth true true true false e f g h i n j ok t = absurd cc
ninth true true true true false f g h i n j ok t = absurd cc
ninth true true true true true false g h i n j ok t = absurd cc
ninth true true true true true true false h i n j ok t = absurd cc
ninth true true true true true true true false i n j ok t = absurd cc
ninth true true true true true true true true false n j ok t = absurd cc
ninth true true true true true true true true true false j ok t = absurd cc
ninth true true true true true true true true true true j ok t = ap (λ (k : Bool). tests true true true true true true true true k true) t

other_routes : (g : Ground) (rs : List Route) → IsFine g → are_routes g.configured rs ≡ true → IsFine (record g { routes = rs })
unfolding config_test is_querier_config
other_routes g rs fine e =
    eighth (is_between 1 most_ifaces (length g.configured.interfaces)) (list_all (λ (x : InterfaceConfig). is_unicast x.address.bits) g.configured.interfaces) (list_all (λ (x : InterfaceConfig). is_between 1 31 x.length) g.configured.interfaces) (are_apart g.configured.interfaces) (is_between 1 1000000 g.settings.limit) (is_querier_config (config_by g)) (list_all is_delay_config g.configured.interfaces) (are_routes g.configured g.routes) (are_rps g.ranges.static_ranges) (are_own_addresses g.configured) (are_routes g.configured rs) fine e

other_ranges : (g : Ground) (rs : List RpRange) → IsFine g → are_rps rs ≡ true
    → IsFine (record g { ranges = with_ranges g.ranges rs })
unfolding config_test is_querier_config
other_ranges g rs fine e =
    ninth (is_between 1 most_ifaces (length g.configured.interfaces)) (list_all (λ (x : InterfaceConfig). is_unicast x.address.bits) g.configured.interfaces) (list_all (λ (x : InterfaceConfig). is_between 1 31 x.length) g.configured.interfaces) (are_apart g.configured.interfaces) (is_between 1 1000000 g.settings.limit) (is_querier_config (config_by g)) (list_all is_delay_config g.configured.interfaces) (are_routes g.configured g.routes) (are_rps g.ranges.static_ranges) (are_own_addresses g.configured) (are_rps rs) fine e

-- what each list that is accepted leaves true of a ground, each event does
module _ (P : Ground → Type 0) (s : State) (w : ℕ) (fine : P (ground s))
    (new_routes : (rs : List Route) → are_routes s.configured rs ≡ true → P (record (ground s) { routes = rs }))
    (new_ranges : (rs : List RpRange) → are_rps rs ≡ true → P (record (ground s) { ranges = with_ranges s.ranges rs }))
    (new_candidates : (cs : List RpCandidate) → are_candidates cs ≡ true
    → P (record (ground s) { ranges = with_candidates s.ranges cs })) where
  abbrev Fine : Answered → Type 0
  Fine a = P (ground a.state)

  done_fine : (a : Accepted) → P (ground_after s a) → Fine (done s w (change s w a))
  unfolding done
  done_fine a f =
      subst P (sym (settled_ground s ((change s w a).state, (change s w a).messages) w ∙ change_ground s w a)) f

  taken_fine : (a : Accepted) → P (ground_after s a) → Fine (taken s w a)
  unfolding taken
  taken_fine (Accepted.Advance moment) f = subst P (sym (advanced_stays s w moment)) fine
  taken_fine a f = done_fine a f

  full_fine : (a : Accepted) (b : Bool) → P (ground_after s a) → Fine (full_or_taken s w a b)
  full_fine a true f = fine
  full_fine a false f = taken_fine a f

  other_after : (a : Accepted) → IsOther a → P (ground_after s a)
  other_after (Accepted.Routes routes) f = absurd f
  other_after (Accepted.Rps ranges) f = absurd f
  other_after a f = fine

  others_fine : (j : Judged) → IsJudged IsOther j → Fine (concluded s (taken_unless_full s w) j)
  unfolding taken_unless_full
  others_fine (Err stop) f = stopped_fine stop
    where
      stopped_fine : (stop : Stop) → Fine (stopped s stop)
      stopped_fine (Stop.Refuse refusal) = fine
      stopped_fine (Stop.Ignore reason) = fine
  others_fine (Ok a) f = full_fine a (is_full s a) (other_after a f.accepts)

  routes_fine : (routes : List Route) (b : Bool) → are_routes s.configured routes ≡ b
      → Fine (concluded s (taken_unless_full s w) (refuse_if (not b) Refusal.BadRoutes >>> Ok (Accepted.Routes routes)))
  unfolding taken_unless_full
  routes_fine routes true e = full_fine (Accepted.Routes routes) (is_full s (Accepted.Routes routes)) (new_routes routes e)
  routes_fine routes false e = fine

  ranges_fine : (ranges : List RpRange) (b : Bool) → are_rps ranges ≡ b
      → Fine (concluded s (taken_unless_full s w)
      (refuse_if (not b) Refusal.BadRps >>> Ok (Accepted.Rps (with_ranges s.ranges ranges))))
  unfolding taken_unless_full
  ranges_fine ranges true e =
      full_fine (Accepted.Rps (with_ranges s.ranges ranges)) (is_full s (Accepted.Rps (with_ranges s.ranges ranges)))
      (new_ranges ranges e)
  ranges_fine ranges false e = fine

  candidates_fine : (cs : List RpCandidate) (b : Bool) → are_candidates cs ≡ b
      → Fine (concluded s (taken_unless_full s w)
      (refuse_if (not b) Refusal.BadCandidates >>> Ok (Accepted.Rps (with_candidates s.ranges cs))))
  unfolding taken_unless_full
  candidates_fine cs true e =
      full_fine (Accepted.Rps (with_candidates s.ranges cs)) (is_full s (Accepted.Rps (with_candidates s.ranges cs)))
      (new_candidates cs e)
  candidates_fine cs false e = fine

  kind_fine : (kind : EventKind) → Fine (concluded s (taken_unless_full s w) (judged s kind))
  unfolding judged routes_judged rps_judged candidates_judged
  kind_fine (EventKind.Routes routes) = routes_fine routes (are_routes s.configured routes) refl
  kind_fine (EventKind.Rps ranges) = ranges_fine ranges (are_rps ranges) refl
  kind_fine (EventKind.RpCandidates cs) = candidates_fine cs (are_candidates cs) refl
  kind_fine kind = others_fine (judged s kind) (other_judged s kind tt)

step_is_fine : (s : State) (e : Event) → IsFine (ground s) → IsFine (ground (step s e).state)
unfolding step
step_is_fine s e fine =
    kind_fine IsFine s e.draw fine (λ rs ok. other_routes (ground s) rs fine ok) (λ rs ok. other_ranges (ground s) rs fine ok)
    (λ cs ok. fine) e.kind

pub saved_is_accepted : SavedIsAccepted
unfolding config_of opening settings_of
saved_is_accepted c events e = kept_by_run (λ s. IsFine (ground s)) step_is_fine (opening c) events e

pub accepted_stays : AcceptedStays
unfolding config_of
accepted_stays s e accepted = step_is_fine s e accepted

-- ---- the candidates

abbrev HasAccepted : Ground → Type 0
HasAccepted g = are_candidates g.ranges.candidates ≡ true

pub candidates_stay_accepted : CandidatesStayAccepted
unfolding step
candidates_stay_accepted s e has =
    kind_fine HasAccepted s e.draw has (λ rs ok. has) (λ rs ok. has) (λ cs ok. ok) e.kind

none_accepted : are_candidates [] ≡ true
unfolding are_candidates are_distinct_candidates
none_accepted = refl

pub saved_candidates_are_accepted : SavedCandidatesAreAccepted
unfolding opening
saved_candidates_are_accepted c events =
    kept_by_run (λ s. HasAccepted (ground s)) candidates_stay_accepted (opening c) events none_accepted
