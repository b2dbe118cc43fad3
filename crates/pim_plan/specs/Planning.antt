-- What is planned of an event before its change.
use Rattle.std.{specs.Prelude.{List, [], false, filter, if◌then◌else◌, not, true, ℕ, ◌++◌, ◌∷◌, ◌≡◌}}
use Rattle.pim_types.{specs.{Keys.{is_star, source_key}, declared.config.IfaceId.IfaceId}}
use Rattle.pim_ip.{specs.declared.addr.Addr.Addr}
use Rattle.igmp_wire.{specs.Values.Record}
use Rattle.pim_wire.{specs.{declared.hello.Hello.Hello as HelloValue, RegisterParts.{registered_group, registered_source}, Values.JoinPrune}}
use Rattle.pim_model.{specs.{declared.accepted.Accepted.Accepted, Downstream.{joined_keys, pruned_keys}, Full.{is_full, reported_groups, reported_sources}, State.State, Step.{change, rps_replaced}, Sets.is_kept_alive}}
use Rattle.law_events.{specs.{JoinPrunes.moved_keys, Moved.{keys_by_routes, keys_by_rps}, Adjacent.keys_of_hello, Switched.{is_in_use, may_lead_over}}}
use Rattle.pim_downstream.{specs.declared.named.Named.Named}
use Rattle.pim_neighbours.{specs.Refreshed.is_refreshed}
use Rattle.pim_querier.{specs.Reports.{all_keep_modes, moved_sources}}
use Rattle.pim_state.{specs.declared.touched.Touched.Touched}
use Rattle.pim_fanout.{specs.Contains.Contains}
use Rattle.pim_rerouted.{specs.{Few.few_or_all, OtherRoutes.with_routes}}
use Rattle.pim_plan.{specs.{Repeats.{is_assert_known, keys_of_packet, moved_asserts}, Rejoining.repeats, Renewing.all_renew, Tunnels.keys_of_stop, Acting.{HasKeys, HasRead, act_event}, declared.plan.{Plan.Plan, Planning.Planning}}}

-- What an accepted event touches: the keys that it names, or that it moves. It touches none where it changes only when
-- timers expire. An interface that goes up touches all, or none where nothing with facts may be routed over it, and one that
-- goes down all, or none where it isn't in use.
unfoldable pub touched_of : State → Accepted → Touched
touched_of s (Accepted.Hello i from h) =
    if is_refreshed s.neighbours i.number from.bits h then Touched.Keys []
    else few_or_all (keys_of_hello s i.number from.bits h)
touched_of s (Accepted.JoinPruneToMe i m) = Touched.Keys (moved_keys s i.number m)
touched_of s (Accepted.JoinPruneSeen i m) = Touched.Keys (filter (λ k. not (is_star k)) (pruned_keys i.number m))
touched_of s (Accepted.Assert i from a) =
    Touched.Keys (if is_assert_known s i.number from.bits a then [] else moved_asserts s i.number from.bits a)
touched_of s (Accepted.Query i from q) = Touched.Keys []
touched_of s (Accepted.Report i records) =
    Touched.Keys (if all_keep_modes s i.number records then moved_sources s i.number records
    else reported_groups i.number records ++ reported_sources i.number records)
touched_of s (Accepted.Data i p) = Touched.Keys (keys_of_packet s p.destination p.source i.number)
touched_of s (Accepted.Register p r) =
    Touched.Keys (if is_kept_alive s (registered_group r) (registered_source r) then []
    else source_key 0 (registered_group r) (registered_source r) ∷ [])
touched_of s (Accepted.RegisterStop from stop) = Touched.Keys (keys_of_stop s stop.group.bits stop.source.bits)
touched_of s (Accepted.Routes routes) = Touched.Keys (keys_by_routes s (with_routes s routes))
touched_of s (Accepted.Rps ranges) = Touched.Keys (keys_by_rps s (rps_replaced s ranges))
touched_of s (Accepted.Up i) = if may_lead_over s i.number then Touched.All else Touched.Keys []
touched_of s (Accepted.Down i) = if is_in_use s i.number then Touched.All else Touched.Keys []
touched_of s _ = Touched.All

-- The plan is of the event, with what was read for it. There is room for what the event names. What the plan touches is
-- exactly what the event touches, and covers its change.
pub record Fits (s : State) (a : Accepted) (plan : Plan) : Type 0 where
  pub event : act_event plan.act ≡ a
  pub read : HasRead s plan.act
  pub room : is_full s a ≡ false
  pub touches : plan.touched ≡ touched_of s a
  pub covers : (w : ℕ) → Contains plan.touched s (change s w a).state

-- The event is a Join/Prune with these keys that repeats what is known.
pub record IsAgain (s : State) (a : Accepted) (i : IfaceId) (holdtime : ℕ) (named : Named) : Type 0 where
  pub message : JoinPrune
  pub event : a ≡ Accepted.JoinPruneToMe i message
  pub lasts : holdtime ≡ message.holdtime
  pub keys : HasKeys (joined_keys s i.number message) (pruned_keys i.number message) named
  pub again : repeats s holdtime named.joined.items named.pruned.items ≡ true

-- The event is a Hello of this neighbour, which it changes no more than when the neighbour expires.
pub record IsRefreshing (s : State) (a : Accepted) (i : IfaceId) (from : Addr) (h : HelloValue) : Type 0 where
  pub event : a ≡ Accepted.Hello i from h
  pub refreshes : is_refreshed s.neighbours i.number from.bits h ≡ true

-- The event is a report with these records, which changes no more than when the timers of its groups expire.
pub record IsRenewing (s : State) (a : Accepted) (i : IfaceId) (records : List Record) : Type 0 where
  pub event : a ≡ Accepted.Report i records
  pub room : is_full s a ≡ false
  pub renews : all_renew s i.number records ≡ true

-- Without room there is no plan; an Advance has no plan of its own, and neither has what repeats what is known.
abbrev pub IsPlanned : State → Accepted → Planning → Type 0
IsPlanned s a (Planning.Time moment) = a ≡ Accepted.Advance moment
IsPlanned s a Planning.Full = is_full s a ≡ true
IsPlanned s a (Planning.Again i holdtime named) = IsAgain s a i holdtime named
IsPlanned s a (Planning.Refreshed i from h) = IsRefreshing s a i from h
IsPlanned s a (Planning.Renewed i records) = IsRenewing s a i records
IsPlanned s a (Planning.Change plan) = Fits s a plan
