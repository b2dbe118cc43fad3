-- While a stream passes, each of its packets leaves.
use Rattle.std.{proofs.{Common.{◌≡◌, ◌∙◌, ℕ, ◌<◌, ◌&&◌, ◌||◌, arith, inl, inr, Bool, true, false, not, Option, is_some, refl, sym, ap}, lemmas.Bool.both_ways}, specs.{Cmp.{first_so, second_so, Derive.both_true}, List.Contains, Option.option_map_or}}
use Rattle.pim_ip.{specs.Ipv4.copy_text}
use Rattle.pim_types.{specs.{Keys.{source_key, star_key}, declared.fact.{Key.Key, SourceRow.SourceRow}}}
use Rattle.pim_model.{specs.{Asserts.with_spt_bit, Desires.{is_immediate_empty, is_inherited_empty, join_desired}, Forwarding.{is_spt_reached, source_here, source_joined, spt_updated, when}, Registers.{settle_register, with_keepalive}, Sets.{assert_source, assert_star, inherited_olist, inherited_olist_rpt, is_kept_alive, is_loser, joins_star, lost_assert, lost_assert_rpt, lost_assert_star, prunes, spt_bit}, State.{State, iface_count}, Tables.has_row, Unicast.{is_connected, is_rpf_interface, is_rpf_interface_rp, route, rp_of, rp_route, rpf_interface, rpf_interface_rp}, Writing.on_link}}
use Rattle.law_settled.{proofs.{ListLaws.by_cond, RowLaws.row_put}}
use Rattle.law_streams.{specs.{Copies.copies_at, Served.{OnATree, renewed}, Passing.{AreMatched, IsOn, IsWanted, PassingServes, Receiver, Tree}}, proofs.{ServedData.{member_is_served, served_here, source_is_served}, Taken.not_empty, Tests.is_false}}

module _ (s : State) (g src iif : ℕ) where
  -- what the packet renews leaves SPTbit and the ways as they are, until it sets the bit
  pub record IsAlike (t : State) : Type 0 where
    pub spt : spt_bit t g src ≡ spt_bit s g src
    pub way : is_rpf_interface_rp t g iif ≡ is_rpf_interface_rp s g iif
    pub source : is_rpf_interface t src iif ≡ is_rpf_interface s src iif
    pub connected : is_connected t src ≡ is_connected s src
    pub configured : t.configured ≡ s.configured
    pub downstream : t.downstream ≡ s.downstream
    pub asserts : t.asserts ≡ s.asserts

  keepalive_spt : (t : State) → spt_bit (with_keepalive t g src) g src ≡ spt_bit t g src
  unfolding spt_bit with_keepalive
  keepalive_spt t = ap (λ (o : Option SourceRow). option_map_or (λ (r : SourceRow). r.spt) o false) (row_put (source_key 0 g src) _ t.sources)

  kept_alive : (t : State) → IsAlike t → IsAlike (with_keepalive t g src)
  unfolding with_keepalive rpf_interface_rp rpf_interface rp_route rp_of route is_connected
  kept_alive t f =
      record { spt = keepalive_spt t ∙ f.spt; way = f.way; source = f.source; connected = f.connected; configured = f.configured; downstream = f.downstream; asserts = f.asserts }

  settled_alike : (t : State) (k : Key) → IsAlike t → IsAlike (settle_register t k)
  unfolding settle_register spt_bit rpf_interface_rp rpf_interface rp_route rp_of route is_connected
  settled_alike t k f =
      record { spt = f.spt; way = f.way; source = f.source; connected = f.connected; configured = f.configured; downstream = f.downstream; asserts = f.asserts }

  itself : IsAlike s
  itself = record { spt = refl; way = refl; source = refl; connected = refl; configured = refl; downstream = refl; asserts = refl }

  here_alike : IsAlike (source_here s g src iif)
  unfolding source_here
  here_alike =
      by_cond IsAlike (is_connected s src && is_rpf_interface s src iif) _ s
      (settled_alike (with_keepalive s g src) (source_key 0 g src) (kept_alive s itself)) itself

  abbrev pub met : State
  met = source_joined (source_here s g src iif) g src iif

  when_alike : (b : Bool) (t : State) → IsAlike t → IsAlike (when b (λ u. with_keepalive u g src) t)
  when_alike true t f = kept_alive t f
  when_alike false t f = f

  pub met_alike : IsAlike met
  unfolding source_joined
  met_alike = when_alike _ (source_here s g src iif) here_alike

  is_set : (t : State) → spt_bit (with_spt_bit t g src) g src ≡ true
  unfolding spt_bit with_spt_bit
  is_set t = ap (λ (o : Option SourceRow). option_map_or (λ (r : SourceRow). r.spt) o false) (row_put (source_key 0 g src) _ t.sources)

  same_interface : (t : State) → is_rpf_interface t src iif ≡ true → is_rpf_interface (with_spt_bit t g src) src iif ≡ true
  unfolding with_spt_bit rpf_interface route
  same_interface t e = e

  module _ (on : is_rpf_interface_rp s g iif ≡ true) (too : (spt_bit s g src && not (is_rpf_interface s src iif)) ≡ false) where
    met_tree : OnATree met g src iif
    met_tree = go (spt_bit s g src) refl (is_rpf_interface s src iif) refl too
      where
        go : (b : Bool) → spt_bit s g src ≡ b → (c : Bool) → is_rpf_interface s src iif ≡ c → (b && not c) ≡ false
            → OnATree met g src iif
        go true set true way e = inl (both_true ((met_alike).source ∙ way) ((met_alike).spt ∙ set))
        go true set false off e = cc e
        go false unset c is e = inr ((met_alike).way ∙ on, (met_alike).spt ∙ unset)

    pub on_a_tree : OnATree (renewed s g src iif) g src iif
    unfolding renewed spt_updated is_spt_reached
    on_a_tree = grind (arith, same_interface, is_set, met_tree)

    -- where the packet sets SPTbit, its interface is the way to the source
    pub renewed_too : (spt_bit (renewed s g src iif) g src && not (is_rpf_interface s src iif)) ≡ false
    unfolding renewed spt_updated is_spt_reached
    renewed_too = go (is_spt_reached met g src iif) refl
      where
        drop : (b : Bool) → (b && false) ≡ false
        drop true = refl
        drop false = refl

        reached : is_spt_reached met g src iif ≡ true → is_rpf_interface s src iif ≡ true
        reached e = sym (met_alike).source ∙ first_so _ _ (first_so _ _ e)

        go : (b : Bool) → is_spt_reached met g src iif ≡ b
            → (spt_bit (when b (λ t. with_spt_bit t g src) met) g src && not (is_rpf_interface s src iif)) ≡ false
        go true e = ap (λ c. spt_bit (with_spt_bit met g src) g src && not c) (reached e) ∙ drop _
        go false e = ap (λ b. b && not (is_rpf_interface s src iif)) (met_alike).spt ∙ too

  -- on the source's tree it stays
  module _ (set : (is_rpf_interface s src iif && spt_bit s g src) ≡ true) where
    pub on_the_source : (is_rpf_interface (renewed s g src iif) src iif && spt_bit (renewed s g src iif) g src) ≡ true
    unfolding renewed spt_updated is_spt_reached
    on_the_source = go (is_spt_reached met g src iif)
      where
        way : is_rpf_interface met src iif ≡ true
        way = (met_alike).source ∙ first_so _ _ set

        go : (b : Bool)
            → (is_rpf_interface (when b (λ t. with_spt_bit t g src) met) src iif && spt_bit (when b (λ t. with_spt_bit t g src) met) g src) ≡ true
        go true = both_true (same_interface met way) (is_set met)
        go false = both_true way ((met_alike).spt ∙ second_so _ _ set)

  -- on the link of the source itself SPTbit is set at once
  module _ (connected : is_connected s src ≡ true) (way : is_rpf_interface s src iif ≡ true) where
    pub kept_at : (t : State) → is_kept_alive (with_keepalive t g src) g src ≡ true
    unfolding is_kept_alive with_keepalive
    kept_at t = grind (arith, row_put)

    kept_here : is_kept_alive (source_here s g src iif) g src ≡ true
    unfolding source_here settle_register is_kept_alive
    kept_here = rw (connected, way) (kept_at s)

    kept_met : is_kept_alive met g src ≡ true
    unfolding source_joined
    kept_met = grind (arith, kept_at, kept_here)

    -- an interface on the list of the group is on that of the source
    pub listed : (t : State) (j : ℕ) → has_row t.downstream (star_key j g) ≡ true → prunes t g src j ≡ false
        → is_loser (assert_star t g j) ≡ false → is_loser (assert_source t g src j) ≡ false → inherited_olist t g src j ≡ true
    unfolding inherited_olist inherited_olist_rpt joins_star lost_assert lost_assert_rpt lost_assert_star
    listed t j joined unpruned group source = grind (arith, joined, unpruned, group, source)

    pub desired : (j : ℕ) → j < iface_count met → inherited_olist met g src j ≡ true → join_desired met g src ≡ true
    unfolding join_desired is_inherited_empty
    desired j within e = rw (not_empty met (inherited_olist met g src) j within e, kept_met) (last (is_immediate_empty met g src))
      where
        last : (b : Bool) → (not b || true) ≡ true
        last true = refl
        last false = refl

    pub connected_on_source : join_desired met g src ≡ true
        → (is_rpf_interface (renewed s g src iif) src iif && spt_bit (renewed s g src iif) g src) ≡ true
    unfolding renewed spt_updated is_spt_reached
    connected_on_source want = go (is_spt_reached met g src iif) refl
      where
        go : (b : Bool) → is_spt_reached met g src iif ≡ b
            → (is_rpf_interface (when b (λ t. with_spt_bit t g src) met) src iif && spt_bit (when b (λ t. with_spt_bit t g src) met) g src) ≡ true
        go true e = both_true (same_interface met ((met_alike).source ∙ way)) (is_set met)
        go false e = absurd (both_ways (is_spt_reached met g src iif) e (rw ((met_alike).source ∙ way, want, (met_alike).connected ∙ connected) refl))

pub passing_serves : PassingServes
unfolding has_row
passing_serves tree by s e p up down f came = go tree by f.matched (f.comes_in).on (f.goes_out).wanted
  where
    on_tree : (tr : Tree) → IsOn tr s p.destination p.source up → OnATree (renewed s p.destination p.source up) p.destination p.source up
    on_tree Tree.Shared on = on_a_tree s p.destination p.source up on.on_tree on.source_too
    on_tree Tree.Source on = inl (on_the_source s p.destination p.source up on)

    go : (tr : Tree) (b : Receiver) → AreMatched tr b → IsOn tr s p.destination p.source up
        → IsWanted b s p.destination p.source down → Contains (copies_at s e) (on_link down (copy_text p))
    go tr Receiver.Router match on j =
        served_here s e (record { number = up }) p down came (on_tree tr on)
        (record {
          configured = (f.goes_out).configured;
          joined = ap is_some j.found;
          unpruned = j.none_prunes;
          group = (f.goes_out).group;
          source = (f.goes_out).source;
        }) f.on
    go tr Receiver.Host match on a =
        member_is_served s e (record { number = up }) p down came (on_tree tr on)
        (record {
          configured = (f.goes_out).configured;
          asked = first_so _ _ (first_so _ _ a);
          wanted = is_false _ (second_so _ _ (first_so _ _ a));
          serves = second_so _ _ a;
          group = (f.goes_out).group;
          source = (f.goes_out).source;
        }) f.on
    go Tree.Shared Receiver.SourceRouter match on j = absurd match
    go Tree.Source Receiver.SourceRouter match on j =
        source_is_served s e (record { number = up }) p down came (on_the_source s p.destination p.source up on)
        (inr (record {
          configured = (f.goes_out).configured;
          joined = ap is_some j.found;
          source = (f.goes_out).source;
        })) f.on
