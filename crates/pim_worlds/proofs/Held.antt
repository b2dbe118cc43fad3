-- A world can have the facts of another at places that lead within its configuration.
use Rattle.std.{proofs.{Common.{◌≡◌, ◌≤◌, ◌^◌, ◌&&◌, ◌==◌, ◌∙◌, ℕ, Bool, true, false, List, not, length, nat_lt, Ok, Option, Some, None, refl, sym, ap, subst}}, specs.{List.list_all, Option.option_map_or, Prelude.{IfSome, is_none, is_some}}}
use Rattle.pim_types.{specs.{Keys.{group_in, iface_in}, declared.{config.Config.Config, fact.Key.Key}}}
use Rattle.pim_model.{specs.{Limits.{config_test, are_candidates}, State.{State, iface_count, settings_of}, Tables.Table}}
use Rattle.pim_ifaces.{specs.Interfaces.is_up_key}
use Rattle.law_settled.{specs.Ready.IsOrdered, proofs.{ListLaws.{each_of_list, list_of_each}, RisingKeys.sorted_of_up}}
use Rattle.law_states.{specs.{Reload.config_of, Placing.{placed_key, number_at, placed, placed_under}}, proofs.Rows.{each_placed, up_placed}}
use Rattle.pim_state.{specs.Lending.membership_tables}
use Rattle.pim_worlds.{specs.{Rows.can_hold, Leading.LeadWithin}, proofs.Taken.taken}
use Rattle.igmp_membership.specs.MembershipTables as membership
use Rattle.pim_store.specs.PimTables as store

both : (a b : Bool) → a ≡ true → b ≡ true → (a && b) ≡ true
both true b f g = g
both false b f g = cc

first : (a b : Bool) → (a && b) ≡ true → a ≡ true
first true b e = refl
first false b e = cc

second : (a b : Bool) → (a && b) ≡ true → b ≡ true
second true b e = e
second false b e = cc

module _ (s : State) (places : List ℕ) (c : Config) where
  abbrev there : State
  there = placed_under s places c

  -- ---- in order

  pub placed_ordered : store.AllRise (store.pim_tables s) → IsOrdered there
  unfolding placed_under
  placed_ordered rise = record {
    interfaces = sorted_of_up (placed places s.interfaces) (up_placed places s.interfaces);
    neighbours = sorted_of_up (placed places s.neighbours) (up_placed places s.neighbours);
    queriers = sorted_of_up (placed places s.queriers) (up_placed places s.queriers);
    group_records = sorted_of_up (placed places s.group_records) (up_placed places s.group_records);
    source_records = sorted_of_up (placed places s.source_records) (up_placed places s.source_records);
    group_repeats = sorted_of_up (placed places s.group_repeats) (up_placed places s.group_repeats);
    source_repeats = sorted_of_up (placed places s.source_repeats) (up_placed places s.source_repeats);
    sendings = sorted_of_up (placed places s.sendings) (up_placed places s.sendings);
    downstream = sorted_of_up (placed places s.downstream) (up_placed places s.downstream);
    asserts = sorted_of_up (placed places s.asserts) (up_placed places s.asserts);
    join_timers = rise.join_timers;
    override_timers = rise.override_timers;
    sources = rise.sources;
    registers = rise.registers;
  }

  -- ---- under keys of their kind

  all_placed : {R : Type 0} (p q : Key × R → Bool) → ((e : Key × R) → p e ≡ true → q (placed_key places e.0, e.1) ≡ true)
      → (t : Table R) → list_all p t ≡ true → list_all q (placed places t) ≡ true
  all_placed p q goes t e =
      list_of_each q (placed places t)
      (each_placed places (λ x. p x ≡ true) (λ x. q x ≡ true) goes t (each_of_list p t e))

  module _ (lead : LeadWithin places (iface_count s) (length c.interfaces)) where
    up_goes : (k : Key) → is_up_key (iface_count s) k ≡ true → is_up_key (length c.interfaces) (placed_key places k) ≡ true
    up_goes k e =
        let later = second (not k.rpt) _ e in
        let last = second (is_none k.source) _ later in
        both (not k.rpt) _ (first (not k.rpt) _ e)
        (both (is_none k.source) _ (first (is_none k.source) _ later)
        (both (group_in k == 0) (nat_lt (number_at places (iface_in k)) (length c.interfaces)) (first (group_in k == 0) _ last)
        (lead.there (iface_in k) (second (group_in k == 0) _ last))))

    pub ups_held : list_all (λ e. is_up_key (iface_count s) e.0) s.interfaces ≡ true
        → list_all (λ e. is_up_key (length there.configured.interfaces) e.0) there.interfaces ≡ true
    unfolding placed_under
    ups_held e =
        all_placed (λ x. is_up_key (iface_count s) x.0) (λ x. is_up_key (length c.interfaces) x.0) (λ x up. up_goes x.0 up)
        s.interfaces e

    low_goes : (k : Key) → nat_lt (iface_in k) 120 ≡ true → nat_lt (iface_in (placed_key places k)) 120 ≡ true
    low_goes k e = lead.low (iface_in k) e

    group_goes : (k : Key) → membership.is_group_key k ≡ true → membership.is_group_key (placed_key places k) ≡ true
    group_goes k e =
        both (membership.is_star_kind k) (nat_lt (number_at places (iface_in k)) 120) (first (membership.is_star_kind k) _ e)
        (low_goes k (second (membership.is_star_kind k) _ e))

    listed_goes : (k : Key) → membership.is_listed_key k ≡ true → membership.is_listed_key (placed_key places k) ≡ true
    listed_goes k e =
        both (membership.is_source_kind k) (nat_lt (number_at places (iface_in k)) 120) (first (membership.is_source_kind k) _ e)
        (low_goes k (second (membership.is_source_kind k) _ e))

    assert_goes : (k : Key) → store.is_assert_key k ≡ true → store.is_assert_key (placed_key places k) ≡ true
    assert_goes k e =
        both (nat_lt (number_at places (iface_in k)) 120) (not k.rpt)
        (low_goes k (first (nat_lt (iface_in k) 120) _ e)) (second (nat_lt (iface_in k) 120) _ e)

    pub records_held : membership.are_of_kind (membership_tables s) ≡ true → membership.are_of_kind (membership_tables there) ≡ true
    unfolding placed_under
    records_held e =
        let a = second _ _ e in
        let b = second _ _ a in
        let d = second _ _ b in
        let f = second _ _ d in
        both _ _ (all_placed (λ x. membership.is_held_querier x) (λ x. membership.is_held_querier x) (λ x held. held) s.queriers (first _ _ e))
        (both _ _ (all_placed (λ x. membership.is_group_key x.0) (λ x. membership.is_group_key x.0) (λ x held. group_goes x.0 held) s.group_records (first _ _ a))
        (both _ _ (all_placed (λ x. membership.is_listed_key x.0) (λ x. membership.is_listed_key x.0) (λ x held. listed_goes x.0 held) s.source_records (first _ _ b))
        (both _ _ (all_placed (λ x. membership.is_star_kind x.0) (λ x. membership.is_star_kind x.0) (λ x held. held) s.group_repeats (first _ _ d))
        (both _ _ (all_placed (λ x. membership.is_star_kind x.0) (λ x. membership.is_star_kind x.0) (λ x held. held) s.source_repeats (first _ _ f))
        (all_placed (λ x. membership.is_source_kind x.0) (λ x. membership.is_source_kind x.0) (λ x held. held) s.sendings (second _ _ f))))))

    pub trees_held : store.are_of_kind (store.pim_tables s) ≡ true → store.are_of_kind (store.pim_tables there) ≡ true
    unfolding placed_under
    trees_held e =
        let a = second _ _ e in
        both _ _ (all_placed (λ x. nat_lt (iface_in x.0) 120) (λ x. nat_lt (iface_in x.0) 120) (λ x held. low_goes x.0 held) s.downstream (first _ _ e))
        (both _ _ (all_placed (λ x. store.is_assert_key x.0) (λ x. store.is_assert_key x.0) (λ x held. assert_goes x.0 held) s.asserts (first _ _ a))
        (second _ _ a))

    pub placed_held : config_test c ≡ Ok tt → are_candidates s.ranges.candidates ≡ true → list_all (λ e. is_up_key (iface_count s) e.0) s.interfaces ≡ true
        → membership.are_of_kind (membership_tables s) ≡ true → store.are_of_kind (store.pim_tables s) ≡ true
        → s.present ≤ 2 ^ 62 → 2 ≤ c.robustness → c.robustness ≤ 7 → c.query_interval ≤ 31744 → can_hold there ≡ true
    unfolding placed_under config_of settings_of
    placed_held accepted candidates up records trees present least most interval =
        taken there accepted candidates (ups_held up) (records_held records) (trees_held trees) present least most interval

-- ---- what is made of them

pub never_none : (o : Option State) (t u : State) → t ≡ u → is_some o ≡ can_hold t → o ≡ None → can_hold u ≡ true → ⊥
never_none o t u same told none held = cc (sym held ∙ ap can_hold (sym same) ∙ sym told ∙ ap is_some none)

pub made_is : (o : Option State) (t u made : State) → t ≡ u → IfSome o (λ w. IsOrdered t → w ≡ t) → o ≡ Some made → IsOrdered u
    → made ≡ u
made_is None t u made same f is ordered = cc
made_is (Some w) t u made same f is ordered =
    ap (λ (o : Option State). option_map_or (λ x. x) o made) (sym is) ∙ f (subst IsOrdered (sym same) ordered) ∙ same
