-- What a reload by places leaves is at rest.
use Rattle.std.{proofs.Common.{◌≡◌, ◌&&◌, ℕ, ◌-◌, Bool, true, false, List, [], length, map, nat_lt, Ok, refl, ap, subst, ◌∙◌}, specs.List.range_with_len}
use Rattle.pim_types.{specs.{declared.{config.{Config.Config, RpTable.RpTable}, event.Event.Event, fact.{Key.Key, QuerierRow.QuerierRow}}, Keys.{group_in, iface_in, iface_key, same_key, source_in, source_key, star_key}}, proofs.Keys.{equal_keys, same_key_same}}
use Rattle.pim_model.{specs.{declared.accepted.Accepted.Accepted, Limits.config_test, State.{addressing_of, State, is_up, settings_of}, Step.{change, ran, rps_replaced, state_after}, Tables.is_among, Unicast.with_ranges}}
use Rattle.law_settled.{specs.{Laws.{is_querier_entry}, Ready.IsSettled}, proofs.{Changes.change_fine, Parts.{Part, Interfaces, Neighbours, Queriers, GroupRecords, SourceRecords, GroupRepeats, SourceRepeats, Sendings, Downstreams, Asserts, JoinTimers, OverrideTimers, Sources, Registers}, FineStates.{Anyhow, FineAt, Good, IsFine, without_rows}, SettledStates.{fine_is_settled, settled_is_fine}, Steps.later_is_late}}
use Rattle.law_events.{specs.Rest.IsAtRest, proofs.Rest.run_is_at_rest}
use Rattle.law_states.{specs.{Reload.{IsSetting, config_of}, Reloading.{asserts_under, down_event, hellos_anew, is_won_before, queriers_under, replaced, under}, PlacedLaws.PlacedReloadLeavesRest, Placing.{gone_on, in_order, placed_key, kept_places, moved, new_order, old_order, placed_under, reload_by, resubnetted, to_order, without_neighbours}}, proofs.{Settings.settled_under, Reloads.{accepted_setting, follows_at_rest}, Queriers.queriers_settled, WonAsserts.asserts_settled, Rows.{fine_placed, has_placed}}}

module _ (s : State) (places : List ℕ) (c : Config) (f : IsSettled s) (setting : IsSetting (settings_of c)) where
  abbrev late : ℕ → Bool
  late = nat_lt s.present

  abbrev there : State
  there = placed_under s places c

  -- an interface that is up is up at its place
  up_there : (k : Key) → is_up s (iface_in k) ≡ true → is_up there (iface_in (placed_key places k)) ≡ true
  unfolding placed_under
  up_there k up = has_placed places (iface_key (iface_in k)) s.interfaces up

  -- keys of a kind stay of that kind
  star_there : (k : Key) → same_key (star_key (iface_in k) (group_in k)) k ≡ true
      → same_key (star_key (iface_in (placed_key places k)) (group_in k)) (placed_key places k) ≡ true
  star_there k e =
      subst (λ (q : Key). same_key (placed_key places (star_key (iface_in k) (group_in k))) (placed_key places q) ≡ true)
      (equal_keys (star_key (iface_in k) (group_in k)) k e) (same_key_same (placed_key places (star_key (iface_in k) (group_in k))))

  source_there : (k : Key) → same_key (source_key (iface_in k) (group_in k) (source_in k)) k ≡ true
      → same_key (source_key (iface_in (placed_key places k)) (group_in k) (source_in k)) (placed_key places k) ≡ true
  source_there k e =
      subst (λ (q : Key). same_key (placed_key places (source_key (iface_in k) (group_in k) (source_in k))) (placed_key places q) ≡ true)
      (equal_keys (source_key (iface_in k) (group_in k) (source_in k)) k e)
      (same_key_same (placed_key places (source_key (iface_in k) (group_in k) (source_in k))))

  querier_there : (e : Key × QuerierRow) → is_querier_entry e ≡ true → is_querier_entry (placed_key places e.0, e.1) ≡ true
  querier_there e is = by (same_key (iface_key (iface_in e.0)) e.0) refl is
    where
      by : (b : Bool) → same_key (iface_key (iface_in e.0)) e.0 ≡ b
          → (b && (nat_lt 0 (e.1).robustness && nat_lt 0 (e.1).query_interval)) ≡ true
          → is_querier_entry (placed_key places e.0, e.1) ≡ true
      by true same rest =
          ap (λ (x : Bool). x && (nat_lt 0 (e.1).robustness && nat_lt 0 (e.1).query_interval))
          (subst (λ (q : Key). same_key (placed_key places (iface_key (iface_in e.0))) (placed_key places q) ≡ true)
          (equal_keys (iface_key (iface_in e.0)) e.0 same) (same_key_same (placed_key places (iface_key (iface_in e.0)))))
          ∙ rest
      by false same rest = cc

  its_tables : (p : Part) → FineAt s.present late (is_up s) p s
  its_tables p = (settled_is_fine s f).tables p

  fine_there : (p : Part) → FineAt s.present late (is_up there) p there
  unfolding placed_under
  fine_there Interfaces = fine_placed places (Good late (is_up s) Interfaces) (Good late (is_up there) Interfaces) (λ e g. g) s.interfaces (its_tables Interfaces)
  fine_there Neighbours = fine_placed places (Good late (is_up s) Neighbours) (Good late (is_up there) Neighbours) (λ e g. (g.0, up_there e.0 g.1)) s.neighbours (its_tables Neighbours)
  fine_there Queriers = fine_placed places (Good late (is_up s) Queriers) (Good late (is_up there) Queriers) (λ e g. record { sound = querier_there e g.sound; next = g.next; other = g.other; here = up_there e.0 g.here }) s.queriers (its_tables Queriers)
  fine_there GroupRecords = fine_placed places (Good late (is_up s) GroupRecords) (Good late (is_up there) GroupRecords) (λ e g. (star_there e.0 g.0, g.1, up_there e.0 g.2)) s.group_records (its_tables GroupRecords)
  fine_there SourceRecords = fine_placed places (Good late (is_up s) SourceRecords) (Good late (is_up there) SourceRecords) (λ e g. (source_there e.0 g.0, g.1, up_there e.0 g.2)) s.source_records (its_tables SourceRecords)
  fine_there GroupRepeats = fine_placed places (Good late (is_up s) GroupRepeats) (Good late (is_up there) GroupRepeats) (λ e g. (star_there e.0 g.0, g.1, up_there e.0 g.2)) s.group_repeats (its_tables GroupRepeats)
  fine_there SourceRepeats = fine_placed places (Good late (is_up s) SourceRepeats) (Good late (is_up there) SourceRepeats) (λ e g. (star_there e.0 g.0, g.1, up_there e.0 g.2)) s.source_repeats (its_tables SourceRepeats)
  fine_there Sendings = fine_placed places (Good late (is_up s) Sendings) (Good late (is_up there) Sendings) (λ e g. up_there e.0 g) s.sendings (its_tables Sendings)
  fine_there Downstreams = fine_placed places (Good late (is_up s) Downstreams) (Good late (is_up there) Downstreams) (λ e g. (g.0, g.1, up_there e.0 g.2)) s.downstream (its_tables Downstreams)
  fine_there Asserts = fine_placed places (Good late (is_up s) Asserts) (Good late (is_up there) Asserts) (λ e g. (g.0, up_there e.0 g.1)) s.asserts (its_tables Asserts)
  fine_there JoinTimers = its_tables JoinTimers
  fine_there OverrideTimers = its_tables OverrideTimers
  fine_there Sources = its_tables Sources
  fine_there Registers = its_tables Registers

  pub placed_fine : IsFine s.present late (is_up there) there
  unfolding placed_under
  placed_fine = record {
    firm = record {
      query_interval = setting.query_interval;
      last_member_query_interval = setting.last_member_query_interval;
      robustness = setting.robustness;
    };
    present = refl;
    ups = λ i. refl;
    tables = fine_there;
  }

  pub parted_settled : (apart : List ℕ) → IsSettled (without_neighbours apart there)
  unfolding without_neighbours
  parted_settled apart =
      fine_is_settled s.present (is_up there) _
      (without_rows s.present late (is_up there) Neighbours tt there placed_fine (λ k. is_among (iface_in k) apart))

pub moved_is_at_rest : (s : State) (places : List ℕ) (c : Config) (apart : List ℕ) (w : ℕ) → IsSetting (settings_of c)
    → IsSettled s → IsAtRest (moved s places c apart w).0
unfolding moved
moved_is_at_rest s places c apart w setting f =
    follows_at_rest (placed_under s places c) (without_neighbours apart (placed_under s places c)) [] w
    (parted_settled s places c f setting apart)

pub ordered_setting : (order : List ℕ) (c : Config) → config_test c ≡ Ok tt → IsSetting (settings_of (in_order order c))
unfolding in_order settings_of
ordered_setting order c e =
    let f : IsSetting (settings_of c) = accepted_setting c e in
    record { robustness = f.robustness; query_interval = f.query_interval; last_member_query_interval = f.last_member_query_interval }

-- other RP ranges leave a settled state settled
ranges_settled : (s : State) (ranges : RpTable) → IsSettled s → IsSettled (rps_replaced s ranges)
unfolding change rps_replaced
ranges_settled s ranges f =
    let after : Anyhow s.present (nat_lt s.present) (rps_replaced s ranges) =
    change_fine s.present (nat_lt s.present) (is_up s) (later_is_late s.present) s (settled_is_fine s f) 0
    (Accepted.Rps ranges) tt in
    fine_is_settled s.present after.ups (rps_replaced s ranges) after.fine

under_settled_by : (s : State) (c : Config) → IsSetting (settings_of c) → IsSettled s → IsSettled (under s c)
unfolding under asserts_under is_won_before
under_settled_by s c setting f =
    let asking : State = record s { queriers = queriers_under s (settings_of c) } in
    let anew : State = record asking { asserts = asserts_under s (addressing_of c) } in
    ranges_settled (record anew { settings = settings_of c; configured = addressing_of c; routes = c.routes })
    (with_ranges s.ranges c.rps)
    (settled_under anew (settings_of c) (addressing_of c) c.routes s.ranges setting
    (asserts_settled asking (addressing_of c) (queriers_settled s (settings_of c) setting f)))

-- a configuration in the place of another leaves rest, where its intervals aren't 0
replaced_rests : (s : State) (c : Config) (w : ℕ) → IsSetting (settings_of c) → IsAtRest s → IsAtRest (replaced s c w).0
unfolding replaced
replaced_rests s c w setting h =
    follows_at_rest s (under s c) (hellos_anew s (addressing_of c)) w (under_settled_by s c setting h.settled)

pub gone_on_rests : (s : State) (kept count : ℕ) (c : Config) (w : ℕ) → IsSetting (settings_of c) → IsAtRest s
    → IsAtRest (gone_on s kept count c w).0
unfolding gone_on state_after
gone_on_rests s kept count c w setting h =
    let events : List Event = map (down_event w) (range_with_len kept (count - kept)) in
    replaced_rests (ran s events).1 c w setting (run_is_at_rest s events h)

pub placed_reload_leaves_rest : PlacedReloadLeavesRest
unfolding reload_by
placed_reload_leaves_rest s m c w was is h =
    let kept : ℕ = length (kept_places m) in
    let order : List ℕ = new_order m (length c.interfaces) in
    let old : Config = in_order (old_order m) (config_of s) in
    let new : Config = in_order order c in
    let apart : List ℕ = resubnetted kept old.interfaces new.interfaces in
    let first : IsAtRest (moved s (to_order m) old apart w).0 =
    moved_is_at_rest s (to_order m) old apart w (ordered_setting (old_order m) (config_of s) was) h.settled in
    let next : IsAtRest (gone_on (moved s (to_order m) old apart w).0 kept (length m) new w).0 =
    gone_on_rests (moved s (to_order m) old apart w).0 kept (length m) new w (ordered_setting order c is) first in
    moved_is_at_rest (gone_on (moved s (to_order m) old apart w).0 kept (length m) new w).0 order c [] w
    (accepted_setting c is) next.settled
