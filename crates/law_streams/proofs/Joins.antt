-- A router that takes a Join(S,G) and sends its own.
use Rattle.std.{proofs.{Common.{◌≡◌, ◌∙◌, ℕ, ◌^◌, ◌<◌, ◌||◌, Bool, true, false, not, cond, [], ◌∷◌, Option, Some, None, Ok, refl, sym, ap, subst, arith}, lemmas.List.Elements.All-nil}, specs.List.Contains}
use Rattle.pim_ip.{specs.Ipv4.is_source_specific}
use Rattle.pim_types.{specs.{Keys.{neighbour_key, source_key}, declared.{config.IfaceId.IfaceId, event.{Event.Event, EventKind.EventKind}, fact.{AssertRow.AssertRow, NeighbourRow.NeighbourRow}, outcome.Emission.Emission, path.{Hop.Hop, Path.Path}}}, proofs.Keys.same_key_same}
use Rattle.pim_wire.{specs.{Values.JoinPrune, declared.join_prune.EntryKind.EntryKind}}
use Rattle.pim_model.{specs.{declared.accepted.Accepted.Accepted, Cause.done_as, Desires.{rpf_source, winner_hop}, Downstream.{accepted_joins, accepted_prunes, is_accepted, is_named, joined_keys, keys_taken, pruned_keys, to_me}, Full.{distinct, is_full, join_prune_is_full, keys_are_full, makeable_keys, needed, once_more, passes_limit}, Judging.judged, Messages.entry, Neighbours.{nbr, nbr_among}, Sets.{assert_source, is_loser}, State.{Addressing, State, address_among, my_address}, Step.{change, done, step}, Tables.{Table, has_row}, Unicast.{route, rpf_interface}, Writing.on_link}}
use Rattle.law_streams.{specs.{Copies.happens, Joins.{ComesToWantSource, JoinsSource, TakesSource, join_packet, join_to, join_value}, Ways.{Place, state_of, up_address, up_iface}, SourceTreeClimbing.{CanGoOnToSource, CanTakeSource, IsSource}}, proofs.{Made.step_taken, Within.none_passes, Leaves.taken_is_done, Passes.done_if, ReadBack.join_is_read, Sources.source_join_leaves, Taken.source_join_is_taken, Changes.{same_ground, still_unlost}, Settles.{NoWorse, settling_no_worse}, Ways.{SameGround, ground_again, same_route}}}
use Rattle.law_settled.{proofs.Unsettled.{Unsettled, settling_leaves}}

-- ---- RPF'(S,G) where no assert is lost

pub winner_none : (o : Option AssertRow) (i : ℕ) → is_loser o ≡ false → winner_hop (Some i) (λ j. o) ≡ None
winner_none None i e = refl
winner_none (Some r) i e = rw e refl

module _ (rows : Table NeighbourRow) (hop : Hop) where
  abbrev made : Path → Hop
  made p = record { iface = p.iface; address = p.next_hop }

  -- the neighbour of a path is the hop that the path names
  hop_of : (p : Path) → nbr_among rows (Some p) ≡ Some hop → made p ≡ hop
  unfolding nbr_among
  hop_of p e = go (has_row rows (neighbour_key (made p).iface.number (made p).address.bits)) e
    where
      go : (b : Bool) → cond b (Some (made p)) None ≡ Some hop → made p ≡ hop
      go true f = cc f
      go false f = cc f

  no_next : nbr_among rows None ≡ Some hop → ⊥
  unfolding nbr_among
  no_next e = cc e

pub goes_to_source : (t : State) (g src : ℕ) (hop : Hop) → nbr t (route t src) ≡ Some hop
    → is_loser (assert_source t g src hop.iface.number) ≡ false → rpf_source t g src ≡ Some hop
unfolding rpf_source rpf_interface nbr
goes_to_source t g src hop next unlost = go (route t src) refl next
  where
    go : (o : Option Path) → route t src ≡ o → nbr_among t.neighbours o ≡ Some hop → rpf_source t g src ≡ Some hop
    go None is e = absurd (no_next t.neighbours hop e)
    go (Some p) is e =
        let same : made t.neighbours hop p ≡ hop = hop_of t.neighbours hop p e in
        let kept : is_loser (assert_source t g src p.iface.number) ≡ false =
        ap (λ (h : Hop). is_loser (assert_source t g src h.iface.number)) same ∙ unlost in
        rw (is, winner_none (assert_source t g src p.iface.number) p.iface.number kept) e

-- ---- a Join(S,G) alone

or_true : (b : Bool) → (b || true) ≡ true
or_true true = refl
or_true false = refl

module _ (s : State) (i g src : ℕ) (isg : IsSource g src) (to : ℕ) where
  abbrev value : JoinPrune
  value = join_value to g (entry EntryKind.Source src) []

  joined_is : joined_keys s i value ≡ source_key i g src ∷ []
  unfolding joined_keys accepted_joins is_accepted
  joined_is = rw (isg.goes_far, or_true (not (is_source_specific g))) refl

  pruned_is : pruned_keys i value ≡ []
  unfolding pruned_keys accepted_prunes
  pruned_is = refl

  pub joins_it : JoinsSource s i g src value
  unfolding is_named
  joins_it = record {
    joined = rw (joined_is, same_key_same (source_key i g src)) refl;
    unpruned = rw pruned_is refl;
    lasts = refl;
  }

  pub has_room : passes_limit s 1 ≡ false → is_full s (Accepted.JoinPruneToMe (record { number = i }) value) ≡ false
  unfolding is_full join_prune_is_full keys_are_full needed makeable_keys distinct once_more is_named
  has_room room = rw (joined_is, pruned_is) (go (has_row s.downstream (source_key i g src)) refl)
    where
      go : (b : Bool) → has_row s.downstream (source_key i g src) ≡ b
          → passes_limit s (needed s.downstream (makeable_keys (source_key i g src ∷ []) [])) ≡ false
      go true e = rw e (none_passes s)
      go false e = rw e room

-- ---- at a place

module _ (g src from to link : ℕ) (p : Place) (isg : IsSource g src) (can : CanTakeSource from to link p) where
  abbrev s : State
  s = state_of p

  abbrev at : IfaceId
  at = record { number = p.down }

  abbrev join_at : JoinPrune
  join_at = join_value (my_address s p.down) g (entry EntryKind.Source src) []

  abbrev pub join_event : Event
  join_event = record { draw = p.draw; kind = EventKind.Frame at (join_packet from to g (entry EntryKind.Source src) []) }

  abbrev a : Accepted
  a = Accepted.JoinPruneToMe at join_at

  judged_so : judged s join_event.kind ≡ Ok a
  judged_so =
      subst (λ (x : ℕ). judged s (EventKind.Frame at (join_packet from x g (entry EntryKind.Source src) [])) ≡ Ok a)
      can.own (join_is_read s p.down from g (entry EntryKind.Source src) [] can.hears (record {
        from_host = can.from_host;
        to_fits = subst (λ (x : ℕ). x < 2 ^ 32) (sym can.own) can.to_fits;
        to_group = isg.multicast;
        of_host = isg.host;
        of_hosts = All-nil _;
        few = omega arith;
      }))

  pub is_done : done_as (happens s join_event) ≡ Some a
  is_done = done_if s join_event a judged_so (has_room s p.down g src isg (my_address s p.down) can.room)

  pub takes : TakesSource s (step s join_event).state p.down g src join_at
  takes =
      source_join_is_taken s join_event at join_at g src is_done (joins_it s p.down g src isg (my_address s p.down))

  abbrev c : State
  c = (change s p.draw a).state

  abbrev t : State
  t = (step s join_event).state

  is_so : t ≡ (done s p.draw (change s p.draw a)).state
  is_so = ap (λ x. x.state) (step_taken s join_event a is_done ∙ taken_is_done s p.draw a refl)

  module _ (on : CanGoOnToSource g src p) where
    follows : NoWorse g src (up_iface p) c t
    unfolding done
    follows =
        subst (λ (x : State). NoWorse g src (up_iface p) c x) (sym is_so)
        (settling_no_worse s (c, (change s p.draw a).messages) p.draw g src (up_iface p))

    ground : SameGround s t
    ground = ground_again s c t (same_ground s p.draw a tt) (follows).ground

    same_neighbours : t.neighbours ≡ s.neighbours
    unfolding done change to_me keys_taken
    same_neighbours =
        ap (λ (x : State). x.neighbours) is_so
        ∙ ap (λ (u : Unsettled). u.neighbours) (settling_leaves s (c, (change s p.draw a).messages) p.draw)

    next_hop : rpf_source t g src ≡ Some p.next
    unfolding nbr
    next_hop =
        goes_to_source t g src p.next
        (ap (λ (rows : Table NeighbourRow). nbr_among rows (route t src)) same_neighbours
        ∙ (ap (nbr_among s.neighbours) (same_route s t ground src) ∙ on.next))
        ((follows).source (still_unlost (source_key (up_iface p) g src) s p.draw a tt on.unlost))

    comes : ComesToWantSource s t g src p.next
    comes = record { unwanted = on.unwanted; wanted = (takes).wanted (can.hears).configured; upstream = next_hop }

    abbrev pub own_join : Emission
    own_join = on_link (up_iface p) (join_packet (up_address p) (p.next).address.bits g (entry EntryKind.Source src) [])

    pub sends : Contains (step s join_event).emissions own_join
    unfolding join_to
    sends =
        subst (λ (cs : Addressing). Contains (step s join_event).emissions
        (on_link (up_iface p) (join_packet (address_among cs (up_iface p)) (p.next).address.bits g (entry EntryKind.Source src) [])))
        (ground).configured (source_join_leaves s join_event a g src p.next is_done refl comes)
