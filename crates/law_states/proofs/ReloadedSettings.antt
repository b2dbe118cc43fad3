-- Other settings move nothing, and the same configuration changes nothing.
use Rattle.std.{proofs.Common.{◌≡◌, ℕ, ◌-◌, ◌&&◌, ◌++◌, cond, not, Bool, true, false, List, Option, Some, None, [], ◌∷◌, map, length, refl, ap, ◌∙◌, arith, eq-eqb}, specs.{List.range_with_len, Prelude.{if◌then◌else◌, slice_get}}}
use Rattle.pim_types.{specs.{declared.{config.{InterfaceConfig.InterfaceConfig, Settings.Settings}, fact.{Key.Key, RegisterRow.RegisterRow, RegisterState.RegisterState}, outcome.{Emission.Emission, Outcome.Outcome}}, Keys.group_in}}
use Rattle.pim_model.{specs.{AssertMacros.{could_assert, could_assert_star, forwarding_set, is_tracking_desired, is_tracking_desired_star, my_metric, my_metric_star}, Clearing.{assert_must_go, assert_to_clear, clear, clear_all, to_clear}, Desires.{is_immediate_empty, is_inherited_empty, join_desired, join_desired_star, prune_desired, rpf_rpt, rpf_source, rpf_star, tree_state}, Firing.settled, Messages.Message, Neighbours.{is_dr, nbr}, Querier.each_in_turn, Receivers.{is_exclude, local_receiver_exclude, local_receiver_include}, Registers.{could_register, has_other_rp, registers_after_rps}, Sets.{immediate_olist, immediate_olist_star, inherited_olist, inherited_olist_rpt, is_beaten, is_empty, is_kept_alive, joins, joins_star, lost_assert, lost_assert_rpt, lost_assert_star, pim_exclude, pim_include, pim_include_star, prunes, rpt_metric, serves, serves_star, spt_bit, spt_metric, tunnel}, State.{State, iface_config, iface_count, is_up, settings_of}, Step.{ran, rps_replaced}, Tables.{below, same_option}, Unicast.{is_connected, route, rp_of, rp_route, rpf_interface, rpf_interface_rp}, Upstream.{fact_keys, group_upstream, source_upstream, source_view, star_view, upstream}, Writing.{all_written, write_all}}}
use Rattle.law_events.{specs.{Locality.IsQuiet, Rest.IsAtRest}, proofs.Differing.{none_left, nothing_follows}}
use Rattle.law_states.{specs.{Reload.config_of, ReloadLaws.{SameReloadChangesNothing, SettingsMoveNothing, with_settings}, Reloading.{down_event, goodbyes, hellos_anew, queriers_under, reload, removals, replaced, says_other, says_same, sent_by, tells_anew, under}}, proofs.{Goodbyes.none_say, Queriers.same_queriers, WonAsserts.own_asserts}}

-- ---- no Hello

same_says_same : (a : InterfaceConfig) → says_same a a ≡ true
unfolding says_same
same_says_same a =
    rw (
      eq-eqb a.address.bits a.address.bits refl,
      eq-eqb a.priority a.priority refl,
      eq-eqb a.propagation_delay a.propagation_delay refl,
      eq-eqb a.override_interval a.override_interval refl,
    ) refl

pub same_is_not_other : (o : Option InterfaceConfig) → says_other o o ≡ false
same_is_not_other None = refl
same_is_not_other (Some a) = ap not (same_says_same a)

pub and_false : (b : Bool) → (b && false) ≡ false
and_false true = refl
and_false false = refl

none_tells : (s : State) (i : ℕ) → tells_anew s s.configured i ≡ false
unfolding tells_anew iface_config
none_tells s i =
    ap (λ (b : Bool). is_up s i && b) (same_is_not_other (slice_get s.configured.interfaces i)) ∙ and_false (is_up s i)

pub no_hello : (s : State) → hellos_anew s s.configured ≡ []
unfolding hellos_anew
no_hello s =
    ap (map Message.Hello) (none_left (tells_anew s s.configured) (none_tells s) (below (length s.configured.interfaces)))

-- ---- no change of registers

same_is_same : (o : Option ℕ) → same_option o o ≡ true
same_is_same None = refl
same_is_same (Some n) = eq-eqb n n refl

module _ (s : State) where
  abbrev taken_over : Key × RegisterRow → Key × RegisterRow
  taken_over e =
      if same_option (rp_of s (group_in e.0)) (rp_of s (group_in e.0)) then e
      else (e.0, record { state = RegisterState.Join })

  all_stay : (rows : List (Key × RegisterRow)) → map taken_over rows ≡ rows
  all_stay [] = refl
  all_stay (e ∷ rows) =
      (λ j. cond (same_is_same (rp_of s (group_in e.0)) j) (let x : Key × RegisterRow = e in x) (e.0, record { state = RegisterState.Join }) ∷ map taken_over rows)
      ∙ ap (λ (rs : List (Key × RegisterRow)). e ∷ rs) (all_stay rows)

  pub same_ranges : rps_replaced s s.ranges ≡ s
  unfolding rps_replaced registers_after_rps rp_of
  same_ranges = ap (λ (rs : List (Key × RegisterRow)). record s { registers = rs }) (all_stay s.registers)

-- ---- nothing is removed

none_between : (n : ℕ) → n - n ≡ 0
none_between n = omega arith

pub none_removed : (s : State) (w : ℕ) → map (down_event w) (range_with_len (iface_count s) (iface_count s - iface_count s)) ≡ []
none_removed s w = ap (λ (m : ℕ). map (down_event w) (range_with_len (iface_count s) m)) (none_between (iface_count s))

-- ---- other settings

module _ (s : State) (t : Settings) where
  abbrev other : State
  other = record s { settings = t; queriers = queriers_under s t }

  -- no macro of what must go reads the settings
  quiet_other : IsQuiet s → IsQuiet other
  unfolding could_assert could_assert_star forwarding_set is_tracking_desired is_tracking_desired_star my_metric my_metric_star assert_must_go is_immediate_empty is_inherited_empty join_desired join_desired_star is_dr nbr is_exclude local_receiver_exclude local_receiver_include immediate_olist immediate_olist_star inherited_olist inherited_olist_rpt is_beaten is_empty is_kept_alive joins joins_star lost_assert lost_assert_rpt lost_assert_star pim_exclude pim_include pim_include_star prunes rpt_metric serves serves_star spt_bit spt_metric tunnel is_connected route rp_of rp_route rpf_interface rpf_interface_rp rpf_star rpf_source rpf_rpt could_register has_other_rp
  quiet_other q = record {
    clear = record { asserts = q.clear.asserts; sources = q.clear.sources };
    sources_settled = q.sources_settled;
    registers_settled = q.registers_settled;
  }

  -- what follows doesn't read the settings at the opening
  same_opening : (w : ℕ) → settled s (other, []) w ≡ settled other (other, []) w
  unfolding settled clear clear_all to_clear assert_to_clear upstream group_upstream source_upstream star_view source_view fact_keys tree_state prune_desired could_assert could_assert_star forwarding_set is_tracking_desired is_tracking_desired_star my_metric my_metric_star assert_must_go is_immediate_empty is_inherited_empty join_desired join_desired_star is_dr nbr is_exclude local_receiver_exclude local_receiver_include immediate_olist immediate_olist_star inherited_olist inherited_olist_rpt is_beaten is_empty is_kept_alive joins joins_star lost_assert lost_assert_rpt lost_assert_star pim_exclude pim_include pim_include_star prunes rpt_metric serves serves_star spt_bit spt_metric tunnel is_connected route rp_of rp_route rpf_interface rpf_interface_rp rpf_star rpf_source rpf_rpt
  same_opening w = refl

  none_follows : (w : ℕ) → IsAtRest s → settled s (other, []) w ≡ (other, [])
  unfolding write_all all_written each_in_turn
  none_follows w h = same_opening w ∙ nothing_follows other (quiet_other h.quiet) (other, []) w (λ k out. refl)

  is_other : under s (with_settings s t) ≡ other
  unfolding under settings_of
  is_other =
      (λ i. rps_replaced (record s { settings = t; queriers = queriers_under s t; asserts = own_asserts s i }) s.ranges)
      ∙ same_ranges other

  none_replaced : (w : ℕ) → IsAtRest s → replaced s (with_settings s t) w ≡ (other, [])
  unfolding replaced
  none_replaced w h =
      (λ j. settled s (is_other j, no_hello s j) w) ∙ none_follows w h

  pub none_moved : (w : ℕ) → IsAtRest s → reload s (with_settings s t) w ≡ (other, [])
  unfolding reload removals ran sent_by
  none_moved w h =
      (λ j. (let gone : List Outcome × State = ran s (none_removed s w j) in
      let after : State × List Emission = replaced gone.1 (with_settings s t) w in
      (after.0, sent_by gone.0 ++ (goodbyes gone.1 s.configured ++ after.1))))
      ∙ (λ j. (let after : State × List Emission = none_replaced w h j in
      (after.0, none_say s s.configured (λ i up. refl) j ++ after.1)))

pub settings_move_nothing : SettingsMoveNothing
settings_move_nothing s t w h = none_moved s t w h

pub same_reload_changes_nothing : SameReloadChangesNothing
unfolding config_of
same_reload_changes_nothing s w h near =
    none_moved s s.settings w h
    ∙ (λ i. (let u : State = record s { queriers = same_queriers s near i } in u, []))
