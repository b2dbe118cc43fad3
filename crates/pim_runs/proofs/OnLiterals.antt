-- One name under which all definitions compute, for the computed runs. Written by dev/bundle_definitions.
use Rattle.std.{specs.Prelude.⊤}
use Rattle.pim_ip.{specs.{Checksum.{ones, sum16, sum_of_words, with_checksum}, Ipv4.{copy_text, header_text, igmp_packet_text, ipv4_reading, packet_of, pim_packet_text}, Prefixes.{contains, is_host_clear, longer, longest_match}, View.{copied_header, lowered_header}}}
use Rattle.pim_types.{specs.{Keys.{addr_cmp, key_cmp, names_source}, Packed.{lower, source_number, upper}, Timers.{rank, timer_cmp}}}
use Rattle.pim_wire.{specs.{Asserts.{assert_of, assert_test, assert_text}, Encoded.{group_test, pim_text, source_test, unicast_test}, Groups.one_group_test, Hellos.{hello_of, hello_test, hello_text, is_option_length, lan_delay_at, option_test, options_test, with_option, with_options}, JoinPruneTexts.join_prune_header_text, JoinPrunes.{entries_at, entry_at, group_at, groups_at, groups_test, join_prune_of, join_prune_test, join_prune_text, kind_of, sources_test}, Messages.{body_reading, is_checksum_right, pim_reading}, Registers.{dummy_text, inner_test, null_inner_test, null_register_text, register_of, register_stop_of, register_stop_test, register_stop_text, register_test, register_text, source_and_group_test}}}
use Rattle.igmp_wire.{specs.{Codes.{code_value, greatest_code, value_code}, Messages.igmp_reading, Parts.{query_reading, record_reading, report_reading}, Queries.{addresses_at, query_of, query_test, query_text}, Reports.{record_at, records_at, records_test, report_of, report_test, report_text, type_of_code}}}
use Rattle.pim_model.{specs.{AssertMacros.{could_assert, could_assert_star, forwarding_set, is_infinite, is_tracking_desired, is_tracking_desired_star, my_metric, my_metric_star}, Asserts.{assert_as_loser, assert_as_winner, assert_at, assert_due, assert_forgotten, assert_in_no_info, assert_message, assert_received, data_seen, loses, loses_first, wins, wins_again, with_spt_bit, without_spt_bit}, Cache.{answers, cached, is_contested, may_register, plain}, Candidates.{chosen, chosen_among, hash_value, is_chosen}, Cause.{asks_for, copies_in, done_as, has_cause, is_join_for, is_record_for, is_report_for, past_after}, Clearing.{assert_cmp, assert_must_go, assert_to_clear, clear, clear_all, clearable_count, cleared, first_by, first_of_both, spt_to_clear, to_clear}, Desires.{is_immediate_empty, is_inherited_empty, join_desired, join_desired_star, prune_desired, rpf_rpt, rpf_source, rpf_star, tree_state}, Downstream.{accepted_joins, accepted_prunes, asserts_after_joins, downstream_expired, holdtime_end_from, is_accepted, is_named, joined_keys, keys_taken, prune_echo, prune_pending_due, prune_pending_end, pruned_keys, row_after, rpt_rows_joined, to_me, touched_keys}, Firing.{fire_all, fire_instant, fire_once, fire_row, fired, keepalive_due, settled}, Forwarding.{forwarded, has_local_receivers, is_spt_reached, list_chosen, register_at_rp, register_received, source_here, source_joined, spt_updated, stray, watched}, Full.{assert_is_full, asserted_keys, counted, distinct, hello_is_full, is_full, join_prune_is_full, keys_are_full, makeable_keys, needed, once_more, passes_limit, report_is_full, reported_groups, reported_sources, source_is_full}, Hellos.{hello_due, hello_received, hello_triggered, hellos_triggered, is_generation_changed, is_generation_changed_among, neighbour_due, neighbour_replaced, neighbour_restarted, neighbours_replaced}, Judging.{advance_judged, assert_judged, candidates_judged, data_judged, down_judged, frame_judged, hello_judged, igmp_judged, igmp_message_judged, join_prune_judged, judged, packet_judged, pim_judged, pim_message_judged, pim_to_me_judged, register_judged, register_stop_judged, routes_judged, rps_judged, unicast_judged, unicast_packet_judged, up_judged}, Limits.{are_apart, are_candidates, are_distinct, are_distinct_candidates, are_once, are_own_addresses, are_routes, are_rps, config_test, is_candidate, is_querier_config, is_route, is_rp_range}, Neighbours.{all_have_lan_delay, all_have_priority, effective_delay, effective_override_interval, effective_propagation_delay, greatest_delay, is_better_dr, is_dr, is_dr_among, is_suppression_among, is_suppression_on, join_prune_override_interval, nbr, nbr_among, override_interval_among, propagation_delay_among, t_override, t_override_among, t_suppressed, t_suppressed_among}, Network.{configs_test, event_of, frame_at, moved, moved_at, network, network_ran, nodes_test, station_at, stepped}, Querier.{each_in_turn, general_query_due, group_membership_interval, group_record_due, group_repeat_due, is_querier, last_member_query_time, lower_group, lower_queried, lower_sources, next_sending, other_querier_gone, other_querier_interval, querier_elected, querier_row, querier_up, queries_of, query_asked, query_group, query_interval, query_seen, query_sent, query_sources, querying, querying_on, record_seen, report_seen, robustness, send_sources, source_record_due, source_repeat_due, sources_sent, sources_to_send, startup_query_interval}, Reach.{agrees_for_source, differs_among, event_reach, keeps_neighbours, own_firing, passes, reach, reach_of, told_all, told_instant, told_once, with_facts}, Receivers.{is_exclude, is_exclude_among, local_receiver_exclude, local_receiver_exclude_among, local_receiver_include, local_receiver_include_among}, Records.{apply_record, from_exclude, from_include, group_expired, members_of, record_of, record_with, source_expired, source_state_in, with_members, with_record, with_repeats_of_rows}, Registers.{could_register, has_other_rp, register_due, register_stop_seen, registers_after_rps, settle_register, settle_registers, settled_register, with_keepalive}, Repeat.{after_next, and_then, until_none}, Rows.same_rows, Seen.{cancel_override_timer, is_unpruned_towards, join_seen, lower_join_timer, lower_override_timer, prune_seen, raise_join_timer, seen, sources_joined_towards, suppressed_end}, Sets.{immediate_olist, immediate_olist_star, inherited_olist, inherited_olist_rpt, is_beaten, is_better, is_empty, is_kept_alive, joins, joins_star, lost_assert, lost_assert_rpt, lost_assert_star, members, pim_exclude, pim_include, pim_include_star, prunes, route_metric, rpt_metric, serves, serves_star, spt_bit, spt_metric, tunnel}, State.{iface_config, is_own_among, opening, settings_of}, Step.{advanced, change, done, iface_down, iface_up, ran, rps_replaced, run, state_after, step, taken, taken_unless_full}, Tables.{ascending, change_row, changed_entry, delay_in, drop_at, drop_where, has_row, insert_number, is_among, keys_in, put, row_at, rows_on, rows_where, set_row}, Timers.{ending_cmp, endings, next_due, next_ending, next_moment, timers}, Unicast.{is_connected, is_on_link_among, link_among, route, route_among, routed_among, rp_among, rp_of, rp_route, rpf_interface, rpf_interface_rp}, Upstream.{becomes_star, fact_keys, group_upstream, groups_of, if_neighbour, is_pruned_with_star, join_prune_to, join_star_to, join_timer_due, moved_join_timer, moved_override_timer, override_timer_due, prune_star_to, pruned_with_star, rpt_told, rpt_told_from, source_stays, source_told, source_upstream, source_view, sources_of, star_stays, star_told, star_view, upstream, with_join_timer, with_override_timer}, Writing.{all_written, copies_of, emission_of, hello_emission, hello_paid, hellos_paid, pim_on_link, pim_to, register_of_packet, tunnel_of, with_owed_hello, write_all, written}}}
use Rattle.pim_rows.{specs.Printed.{active_line, all_rows, rows, tree_lines}}
use Rattle.pim_runs.{specs.Transcript.{emission_lines, from_hex, line_at, moves_lines, outcome_lines, row_line, transcript}}

unfoldable pub machine_on_literals : ⊤
unfolding ones sum16 sum_of_words with_checksum copy_text header_text igmp_packet_text ipv4_reading packet_of pim_packet_text contains is_host_clear longer longest_match copied_header lowered_header addr_cmp key_cmp names_source lower source_number upper rank timer_cmp assert_of assert_test assert_text group_test pim_text source_test unicast_test one_group_test hello_of hello_test hello_text is_option_length lan_delay_at option_test options_test with_option with_options join_prune_header_text entries_at entry_at group_at groups_at groups_test join_prune_of join_prune_test join_prune_text kind_of sources_test body_reading is_checksum_right pim_reading dummy_text inner_test null_inner_test null_register_text register_of register_stop_of register_stop_test register_stop_text register_test register_text source_and_group_test code_value greatest_code value_code igmp_reading query_reading record_reading report_reading addresses_at query_of query_test query_text record_at records_at records_test report_of report_test report_text type_of_code could_assert could_assert_star forwarding_set is_infinite is_tracking_desired is_tracking_desired_star my_metric my_metric_star assert_as_loser assert_as_winner assert_at assert_due assert_forgotten assert_in_no_info assert_message assert_received data_seen loses loses_first wins wins_again with_spt_bit without_spt_bit answers cached is_contested may_register plain chosen chosen_among hash_value is_chosen asks_for copies_in done_as has_cause is_join_for is_record_for is_report_for past_after assert_cmp assert_must_go assert_to_clear clear clear_all clearable_count cleared first_by first_of_both spt_to_clear to_clear is_immediate_empty is_inherited_empty join_desired join_desired_star prune_desired rpf_rpt rpf_source rpf_star tree_state accepted_joins accepted_prunes asserts_after_joins downstream_expired holdtime_end_from is_accepted is_named joined_keys keys_taken prune_echo prune_pending_due prune_pending_end pruned_keys row_after rpt_rows_joined to_me touched_keys fire_all fire_instant fire_once fire_row fired keepalive_due settled forwarded has_local_receivers is_spt_reached list_chosen register_at_rp register_received source_here source_joined spt_updated stray watched assert_is_full asserted_keys counted distinct hello_is_full is_full join_prune_is_full keys_are_full makeable_keys needed once_more passes_limit report_is_full reported_groups reported_sources source_is_full hello_due hello_received hello_triggered hellos_triggered is_generation_changed is_generation_changed_among neighbour_due neighbour_replaced neighbour_restarted neighbours_replaced advance_judged assert_judged candidates_judged data_judged down_judged frame_judged hello_judged igmp_judged igmp_message_judged join_prune_judged judged packet_judged pim_judged pim_message_judged pim_to_me_judged register_judged register_stop_judged routes_judged rps_judged unicast_judged unicast_packet_judged up_judged are_apart are_candidates are_distinct are_distinct_candidates are_once are_own_addresses are_routes are_rps config_test is_candidate is_querier_config is_route is_rp_range all_have_lan_delay all_have_priority effective_delay effective_override_interval effective_propagation_delay greatest_delay is_better_dr is_dr is_dr_among is_suppression_among is_suppression_on join_prune_override_interval nbr nbr_among override_interval_among propagation_delay_among t_override t_override_among t_suppressed t_suppressed_among configs_test event_of frame_at moved moved_at network network_ran nodes_test station_at stepped each_in_turn general_query_due group_membership_interval group_record_due group_repeat_due is_querier last_member_query_time lower_group lower_queried lower_sources next_sending other_querier_gone other_querier_interval querier_elected querier_row querier_up queries_of query_asked query_group query_interval query_seen query_sent query_sources querying querying_on record_seen report_seen robustness send_sources source_record_due source_repeat_due sources_sent sources_to_send startup_query_interval agrees_for_source differs_among event_reach keeps_neighbours own_firing passes reach reach_of told_all told_instant told_once with_facts is_exclude is_exclude_among local_receiver_exclude local_receiver_exclude_among local_receiver_include local_receiver_include_among apply_record from_exclude from_include group_expired members_of record_of record_with source_expired source_state_in with_members with_record with_repeats_of_rows could_register has_other_rp register_due register_stop_seen registers_after_rps settle_register settle_registers settled_register with_keepalive after_next and_then until_none same_rows cancel_override_timer is_unpruned_towards join_seen lower_join_timer lower_override_timer prune_seen raise_join_timer seen sources_joined_towards suppressed_end immediate_olist immediate_olist_star inherited_olist inherited_olist_rpt is_beaten is_better is_empty is_kept_alive joins joins_star lost_assert lost_assert_rpt lost_assert_star members pim_exclude pim_include pim_include_star prunes route_metric rpt_metric serves serves_star spt_bit spt_metric tunnel iface_config is_own_among opening settings_of advanced change done iface_down iface_up ran rps_replaced run state_after step taken taken_unless_full ascending change_row changed_entry delay_in drop_at drop_where has_row insert_number is_among keys_in put row_at rows_on rows_where set_row ending_cmp endings next_due next_ending next_moment timers is_connected is_on_link_among link_among route route_among routed_among rp_among rp_of rp_route rpf_interface rpf_interface_rp becomes_star fact_keys group_upstream groups_of if_neighbour is_pruned_with_star join_prune_to join_star_to join_timer_due moved_join_timer moved_override_timer override_timer_due prune_star_to pruned_with_star rpt_told rpt_told_from source_stays source_told source_upstream source_view sources_of star_stays star_told star_view upstream with_join_timer with_override_timer all_written copies_of emission_of hello_emission hello_paid hellos_paid pim_on_link pim_to register_of_packet tunnel_of with_owed_hello write_all written active_line all_rows rows tree_lines emission_lines from_hex line_at moves_lines outcome_lines row_line transcript
machine_on_literals = tt
