-- Setting SPTbit takes nothing from the lists of a source, so it stays desired.
use Rattle.std.{proofs.Common.{◌≡◌, ℕ, Bool, true, false, not, ◌&&◌, Option, option_and_then, refl, sym, ap, ◌∙◌, arith}, specs.{List.list_any, Option.option_map_or}}
use Rattle.pim_types.{specs.{declared.fact.{Key.Key, SourceRow.SourceRow}, Keys.{same_key, source_key}}, proofs.Keys.{equal_keys, same_key_same}}
use Rattle.pim_model.{specs.{Asserts.with_spt_bit, Desires.{is_immediate_empty, is_inherited_empty, join_desired}, Neighbours.is_dr, Receivers.{is_exclude, local_receiver_exclude, local_receiver_include}, Registers.{could_register, has_other_rp}, Sets.{Set, immediate_olist, inherited_olist, inherited_olist_rpt, is_beaten, is_empty, is_kept_alive, joins, joins_star, lost_assert, lost_assert_rpt, lost_assert_star, pim_exclude, pim_include, pim_include_star, prunes, serves, serves_star, spt_bit, spt_metric, tunnel, ◌∖◌, ◌∪◌}, State.{State, ifaces}, Tables.row_at, Unicast.{route, rp_of, rp_route, rpf_interface, rpf_interface_rp}}}
use Rattle.law_settled.{proofs.{ListLaws.any_more, RowLaws.{row_put, row_put_away}}}

module _ (g src : ℕ) (s : State) where
  abbrev key : Key
  key = source_key 0 g src

  abbrev pub set : State
  set = with_spt_bit s g src

  abbrev set_row : SourceRow
  set_row = record { keepalive = option_and_then (λ (r : SourceRow). r.keepalive) (row_at s.sources key); spt = true }

  pub now_set : spt_bit set g src ≡ true
  unfolding with_spt_bit spt_bit
  now_set = ap (λ (o : Option SourceRow). option_map_or (λ (r : SourceRow). r.spt) o false) (row_put key set_row s.sources)

  -- the timer runs as before
  pub alive_as_before : is_kept_alive set g src ≡ is_kept_alive s g src
  unfolding with_spt_bit is_kept_alive
  alive_as_before = grind (arith, row_put)

  other_alive : (h x : ℕ) → same_key key (source_key 0 h x) ≡ false → is_kept_alive s h x ≡ is_kept_alive set h x
  unfolding with_spt_bit is_kept_alive
  other_alive h x e = grind (arith, row_put_away, same_key_same)

  -- the lists, but for the asserts of (S,G) that are lost on the shared tree
  spread : Set → Set
  spread lost =
      (joins_star s g ∖ prunes s g src) ∪ (pim_include_star s g ∖ pim_exclude s g src)
      ∖ (lost_assert_star s g ∪ lost) ∪ joins s g src ∪ pim_include s g src ∖ lost_assert s g src

  spread_was : inherited_olist s g src ≡ spread (lost_assert_rpt s g src)
  unfolding inherited_olist inherited_olist_rpt spread
  spread_was = refl

  spread_is : inherited_olist set g src ≡ spread (lost_assert_rpt set g src)
  unfolding inherited_olist inherited_olist_rpt spread with_spt_bit joins_star prunes pim_include_star pim_exclude serves_star lost_assert_star is_dr is_exclude local_receiver_exclude local_receiver_include joins pim_include serves lost_assert is_beaten spt_metric route rp_route rp_of rpf_interface rpf_interface_rp
  spread_is = refl

  fewer_lost : (i : ℕ) → lost_assert_rpt set g src i ≡ true → lost_assert_rpt s g src i ≡ true
  unfolding lost_assert_rpt with_spt_bit route rp_route rp_of rpf_interface rpf_interface_rp
  fewer_lost i e = grind (arith, now_set)

  more_spread : (lost fewer : Set) → ((i : ℕ) → fewer i ≡ true → lost i ≡ true)
      → (i : ℕ) → spread lost i ≡ true → spread fewer i ≡ true
  unfolding spread
  more_spread lost fewer less i e = grind arith

  still_flows : is_inherited_empty s g src ≡ false → is_inherited_empty set g src ≡ false
  unfolding is_inherited_empty is_empty with_spt_bit tunnel
  still_flows e =
      go (list_any (inherited_olist s g src) (ifaces s)) (list_any (inherited_olist set g src) (ifaces s)) (tunnel s g src)
      (any_more (inherited_olist s g src) (inherited_olist set g src)
      (λ i f. ap (λ (a : Set). a i) spread_is
      ∙ more_spread (lost_assert_rpt s g src) (lost_assert_rpt set g src) fewer_lost i
      (ap (λ (a : Set). a i) (sym spread_was) ∙ f)) (ifaces s)) e
    where
      go : (a b t : Bool) → (a ≡ true → b ≡ true) → (not a && not t) ≡ false → (not b && not t) ≡ false
      go true true t f h = refl
      go true false t f h = cc (f refl)
      go false true t f h = refl
      go false false t f h = h

  own_as_before : is_immediate_empty set g src ≡ is_immediate_empty s g src
  unfolding is_immediate_empty immediate_olist is_empty tunnel with_spt_bit is_dr local_receiver_include joins pim_include serves lost_assert is_beaten spt_metric route rpf_interface
  own_as_before = refl

  pub still_desired : join_desired s g src ≡ true → join_desired set g src ≡ true
  unfolding join_desired
  still_desired e = grind (arith, own_as_before, alive_as_before, still_flows)

  -- the timers of all sources run as before
  all_alive : (h x : ℕ) → is_kept_alive s h x ≡ is_kept_alive set h x
  all_alive h x = grind (arith, equal_keys, alive_as_before, other_alive)

  pub could_as_before : (h x : ℕ) → could_register s h x ≡ could_register set h x
  unfolding could_register with_spt_bit route is_dr has_other_rp rp_of
  could_as_before h x = grind (arith, all_alive)
