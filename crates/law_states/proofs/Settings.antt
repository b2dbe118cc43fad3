-- No macro of what must go reads the settings.
use Rattle.std.{proofs.Common.{List, refl}}
use Rattle.pim_types.{specs.declared.config.{Route.Route, RpTable.RpTable, Settings.Settings}}
use Rattle.pim_model.{specs.{State.{Addressing, State}, AssertMacros.{could_assert, could_assert_star, forwarding_set, is_tracking_desired, is_tracking_desired_star, my_metric, my_metric_star}, Clearing.assert_must_go, Desires.{is_immediate_empty, is_inherited_empty, join_desired, join_desired_star, rpf_star, rpf_source, rpf_rpt}, Neighbours.{is_dr, nbr}, Receivers.{is_exclude, local_receiver_exclude, local_receiver_include}, Registers.{could_register, has_other_rp}, Sets.{immediate_olist, immediate_olist_star, inherited_olist, inherited_olist_rpt, is_beaten, is_empty, is_kept_alive, joins, joins_star, lost_assert, lost_assert_rpt, lost_assert_star, pim_exclude, pim_include, pim_include_star, prunes, rpt_metric, serves, serves_star, spt_bit, spt_metric, tunnel}, Timers.timers, Unicast.{is_connected, route, rp_of, rp_route, rpf_interface, rpf_interface_rp}}}
use Rattle.law_events.{specs.Locality.IsQuiet}
use Rattle.law_settled.{specs.Ready.IsSettled}
use Rattle.law_states.{specs.Reload.{FreshSettingsKeepRest, IsSetting}}

module _ (s : State) (t : Settings) where
  abbrev other : State
  other = record s { settings = t }

  quiet_other : IsQuiet s → IsQuiet other
  unfolding could_assert could_assert_star forwarding_set is_tracking_desired is_tracking_desired_star my_metric my_metric_star assert_must_go is_immediate_empty is_inherited_empty join_desired join_desired_star is_dr nbr is_exclude local_receiver_exclude local_receiver_include has_other_rp immediate_olist immediate_olist_star inherited_olist inherited_olist_rpt is_beaten is_empty is_kept_alive joins joins_star lost_assert lost_assert_rpt lost_assert_star pim_exclude pim_include pim_include_star prunes rpt_metric serves serves_star spt_bit spt_metric tunnel is_connected route rp_of rp_route rpf_interface rpf_interface_rp rpf_star rpf_source rpf_rpt could_register
  quiet_other q = record {
    clear = record { asserts = q.clear.asserts; sources = q.clear.sources };
    sources_settled = q.sources_settled;
    registers_settled = q.registers_settled;
  }

module _ (s : State) (t : Settings) (cs : Addressing) (rs : List Route) (gs : RpTable) where
  abbrev under : State
  under = record s { settings = t; configured = cs; routes = rs; ranges = gs }

  pub settled_under : IsSetting t → IsSettled s → IsSettled under
  unfolding timers
  settled_under fine h = record {
    ordered = record {
      interfaces = h.ordered.interfaces;
      neighbours = h.ordered.neighbours;
      queriers = h.ordered.queriers;
      group_records = h.ordered.group_records;
      source_records = h.ordered.source_records;
      group_repeats = h.ordered.group_repeats;
      source_repeats = h.ordered.source_repeats;
      sendings = h.ordered.sendings;
      downstream = h.ordered.downstream;
      asserts = h.ordered.asserts;
      join_timers = h.ordered.join_timers;
      override_timers = h.ordered.override_timers;
      sources = h.ordered.sources;
      registers = h.ordered.registers;
    };
    ahead = record {
      firable = record {
        robustness = fine.robustness;
        query_interval = fine.query_interval;
        last_member_query_interval = fine.last_member_query_interval;
        queriers = h.ahead.firable.queriers;
        group_records = h.ahead.firable.group_records;
        source_records = h.ahead.firable.source_records;
        group_repeats = h.ahead.firable.group_repeats;
        source_repeats = h.ahead.firable.source_repeats;
      };
      present = refl;
      ends = h.ahead.ends;
    };
    tidy = record {
      neighbours = h.tidy.neighbours;
      queriers = h.tidy.queriers;
      group_records = h.tidy.group_records;
      source_records = h.tidy.source_records;
      group_repeats = h.tidy.group_repeats;
      source_repeats = h.tidy.source_repeats;
      sendings = h.tidy.sendings;
      downstream = h.tidy.downstream;
      asserts = h.tidy.asserts;
      sources = h.tidy.sources;
    };
  }

pub fresh_settings_keep_rest : FreshSettingsKeepRest
fresh_settings_keep_rest s t fine h =
    record { quiet = quiet_other s t h.quiet; settled = settled_under s t s.configured s.routes s.ranges fine h.settled }
