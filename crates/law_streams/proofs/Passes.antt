-- A router that takes a Join(*,G) and sends its own.
use Rattle.std.{proofs.{Common.{◌≡◌, ◌∙◌, ℕ, ◌<◌, ◌≤◌, ◌&&◌, Bool, true, false, not, List, [], ◌∷◌, filter, length, map, Option, Some, None, is_some, Ok, refl, sym, ap, subst, arith, eq-eqb}, lemmas.{Bool.{both_ways, Decides.nat_tests}, List.Elements.All-nil}}, specs.List.{AllByRecursion, Contains}}
use Rattle.pim_ip.{specs.Ipv4.is_source_specific}
use Rattle.pim_types.{specs.{Keys.{iface_key, source_key, star_key}, declared.{config.IfaceId.IfaceId, event.{Event.Event, EventKind.EventKind}, fact.{AssertRow.AssertRow, Key.Key}, outcome.Emission.Emission, path.Hop.Hop}}, proofs.Keys.{equal_keys, same_key_same}}
use Rattle.pim_wire.{specs.{Values.JoinPrune, declared.join_prune.EntryKind.EntryKind}}
use Rattle.pim_model.{specs.{declared.accepted.Accepted.Accepted, Asserts.{assert_forgotten, without_spt_bit}, Cause.done_as, Clearing.clear, Desires.{rpf_rpt, rpf_star, winner_hop}, Downstream.{accepted_joins, accepted_prunes, asserts_after_joins, is_accepted, is_named, joined_keys, keys_taken, pruned_keys, to_me}, Firing.settled, Full.{counted, distinct, is_full, join_prune_is_full, keys_are_full, makeable_keys, needed, once_more, passes_limit}, Judging.judged, Messages.{Message, entry}, Neighbours.nbr, Registers.settle_registers, Sets.{assert_source, assert_star, inherited_olist_rpt, is_loser, joins_star, lost_assert_rpt, lost_assert_star, prunes, spt_bit}, State.{Addressing, State, address_among, iface_count, is_up, my_address}, Step.{change, done, step, taken_unless_full}, Tables.{Table, has_row, row_at}, Unicast.{route, rp_among, rp_of, rp_route}, Upstream.{is_pruned_with_star, upstream}, Writing.{on_link, write_all}}}
use Rattle.law_settled.{proofs.{ListLaws.{each_passes, filter_shorter}, RowLaws.has_row_map, SettlingLaws.kept_by_clearing, TableLaws.row_of_each, UnchangedLaws.{full_or_taken, taken_done}, Unsettled.{Unsettled, Untold, settling_leaves, telling_leaves}}, specs.Ready.IsSettled}
use Rattle.law_events.{specs.Scopes.{only_up, reads, scope}, proofs.{Asserts.stars_read, StarMacros.nbr_rp_local, UntoldKeys.same_by_scope}}
use Rattle.law_streams.{specs.{Copies.happens, Bounded.{AddsAtMost, needed_by, needed_of}, Joins.{ComesToWantStar, JoinsStar, SendsStar, TakesStar, join_packet, join_to, join_value}, Ways.{CanGoOn, CanTake, GoesOnWith, IsGroup, Place, state_of, up_address, up_iface}}, proofs.{Bounded.adds_what_is_needed, Counting.shorter_at, Fewer.{le_both, no_less}, Made.step_taken, Within.none_passes, Leaves.{rest_agrees, star_join_leaves, taken_is_done, untouched}, ReadBack.join_is_read, Taken.{not_empty, source_unlost, star_join_is_taken, star_unlost, still_configured, still_unset}}}

-- ---- what is judged so and has room is done

pub done_if : (s : State) (e : Event) (a : Accepted) → judged s e.kind ≡ Ok a → is_full s a ≡ false
    → done_as (happens s e) ≡ Some a
unfolding done_as step taken_unless_full
done_if s e a is room = grind (arith, full_or_taken, taken_done)

-- ---- what follows of a change leaves the way to the RP

module _ (o : State) (c : State × List Message) (w : ℕ) where
  abbrev end_state : State
  end_state = (settled o c w).0

  pub same_rp : (g rp : ℕ) → rp_of c.0 g ≡ Some rp → rp_of end_state g ≡ Some rp
  unfolding rp_of
  same_rp g rp e = ap (λ (u : Unsettled). rp_among u.ranges g) (settling_leaves o c w) ∙ e

  pub same_next : (g : ℕ) (hop : Hop) → nbr c.0 (rp_route c.0 g) ≡ Some hop → nbr end_state (rp_route end_state g) ≡ Some hop
  unfolding nbr rp_route route rp_of settle_registers assert_forgotten without_spt_bit
  same_next g hop e =
      sym (same_by_scope (star_key 0 g) (λ x. nbr x (rp_route x g))
      (λ x. nbr_rp_local (reads (star_key 0 g)) x g (stars_read (star_key 0 g))) (clear o c.0).0 end_state
      (rest_agrees o c w (star_key 0 g) (untouched o c w (star_key 0 g))))
      ∙ kept_by_clearing (λ t. nbr t (rp_route t g) ≡ Some hop) (λ t k f. f) (λ t k f. f) o c.0 e

  pub same_up : (i : ℕ) → is_up end_state i ≡ is_up c.0 i
  unfolding scope settle_registers assert_forgotten without_spt_bit
  same_up i =
      sym (same_by_scope (star_key 0 0) (λ x. is_up x i)
      (λ x. has_row_map (iface_key i) only_up (λ e. refl) x.interfaces) (clear o c.0).0 end_state
      (rest_agrees o c w (star_key 0 0) (untouched o c w (star_key 0 0))))
      ∙ kept_by_clearing (λ x. is_up x i ≡ is_up c.0 i) (λ x k f. f) (λ x k f. f) o c.0 refl

  told_asserts : ((upstream o (clear o c.0).0 w).0).asserts ≡ ((clear o c.0).0).asserts
  told_asserts = ap (λ (u : Untold). u.asserts) (telling_leaves o (clear o c.0).0 w)

  pub fewer_asserts : length (end_state).asserts ≤ length (c.0).asserts
  unfolding settled write_all settle_registers assert_forgotten without_spt_bit
  fewer_asserts =
      subst (λ (x : Table AssertRow). length x ≤ length (c.0).asserts) (sym told_asserts)
      (kept_by_clearing (λ x. length x.asserts ≤ length (c.0).asserts)
      (λ x k f. le_both _ _ _ (shorter_at x.asserts k) f) (λ x k f. f) o c.0 (no_less _))

-- room for one fact is left where there was room for two and one was added
pub room_left : (s t : State) (n : ℕ) → AddsAtMost n s t → n ≤ 1 → length t.asserts ≤ length s.asserts
    → passes_limit s 2 ≡ false → passes_limit t 1 ≡ false
unfolding passes_limit counted
room_left s t n adds few asserts has = grind (arith, nat_tests)

-- ---- RPF' where no assert is lost

pub winner_none : (i : Option ℕ) (row : ℕ → Option AssertRow) → ((i : ℕ) → is_loser (row i) ≡ false) → winner_hop i row ≡ None
winner_none i row f = grind arith

pub to_the_next : (t : State) (g : ℕ) (hop : Hop) → ((i : ℕ) → is_loser (assert_star t g i) ≡ false)
    → nbr t (rp_route t g) ≡ Some hop → rpf_star t g ≡ Some hop
unfolding rpf_star
to_the_next t g hop unlost next = rw (winner_none _ (assert_star t g) unlost) next

-- ---- no source is pruned off the tree

pub on_group_list : (t : State) (g src i : ℕ) → has_row t.downstream (star_key i g) ≡ true → prunes t g src i ≡ false
    → is_loser (assert_star t g i) ≡ false → is_loser (assert_source t g src i) ≡ false
    → inherited_olist_rpt t g src i ≡ true
unfolding inherited_olist_rpt joins_star lost_assert_star lost_assert_rpt
on_group_list t g src i joined unpruned unlost unlost_source = grind arith

pub none_pruned : (t : State) (g src i : ℕ) (hop : Hop) → i < iface_count t → inherited_olist_rpt t g src i ≡ true
    → spt_bit t g src ≡ false → rpf_star t g ≡ Some hop → ((j : ℕ) → is_loser (assert_source t g src j) ≡ false)
    → is_pruned_with_star t g src ≡ false
unfolding is_pruned_with_star rpf_rpt
none_pruned t g src i hop within listed unset next unlost =
    rw (
      unset,
      not_empty t (inherited_olist_rpt t g src) i within listed,
      winner_none _ (assert_source t g src) unlost,
      next,
      eq-eqb hop.iface.number hop.iface.number refl,
      eq-eqb hop.address.bits hop.address.bits refl,
    )
    refl

-- ---- a Join(*,G) alone

-- a group with an RP is no SSM group
pub general_group : (s : State) (g rp : ℕ) → rp_of s g ≡ Some rp → is_source_specific g ≡ false
unfolding rp_of rp_among
general_group s g rp known = grind arith

module _ (s : State) (i g rp : ℕ) (isg : IsGroup g rp) (known : rp_of s g ≡ Some rp) (to : ℕ) where
  abbrev pub value : JoinPrune
  value = join_value to g (entry EntryKind.Star rp) []

  isnt_specific : is_source_specific g ≡ false
  isnt_specific = general_group s g rp known

  joined_is : joined_keys s i value ≡ star_key i g ∷ []
  unfolding joined_keys accepted_joins is_accepted
  joined_is = rw (isg.goes_far, isnt_specific, known, eq-eqb rp rp refl) refl

  pruned_is : pruned_keys i value ≡ []
  unfolding pruned_keys accepted_prunes
  pruned_is = refl

  pub joins_it : JoinsStar s i g value
  unfolding is_named
  joins_it = grind (arith, joined_is, same_key_same, pruned_is)

  has_room : passes_limit s 1 ≡ false → is_full s (Accepted.JoinPruneToMe (record { number = i }) value) ≡ false
  unfolding is_full join_prune_is_full keys_are_full needed makeable_keys distinct once_more is_named
  has_room room = grind (arith, joined_is, pruned_is, none_passes)

  -- ---- the asserts that it leaves

  module _ (q : Key) (unlost : is_loser (row_at s.asserts q) ≡ false) where
    abbrev stays : Key × AssertRow → Bool
    stays e = not (is_loser (Some e.1) && is_named (joined_keys s i value) e.0)

    filtered_row : ((r : AssertRow) → stays (q, r) ≡ true) → (t : Table AssertRow) → row_at (filter stays t) q ≡ row_at t q
    unfolding row_at
    filtered_row all [] = refl
    filtered_row all (x ∷ xs) = grind (arith, filtered_row all xs, both_ways, equal_keys)

    unlost_after : is_loser (row_at (to_me s i value).asserts q) ≡ false
    unfolding to_me keys_taken asserts_after_joins
    unlost_after = go (is_named (joined_keys s i value) q) refl
      where
        named : is_named (joined_keys s i value) q ≡ true → (o : Option AssertRow) → row_at (filter stays s.asserts) q ≡ o
            → is_loser o ≡ false
        named is None e = refl
        named is (Some r) e =
            unlost_row (is_loser (Some r))
            (ap (λ b. not (is_loser (Some r) && b)) (sym is)
            ∙ row_of_each (λ x. stays x ≡ true) q r (filter stays s.asserts) (each_passes stays s.asserts) e)
          where
            unlost_row : (b : Bool) → not (b && true) ≡ true → b ≡ false
            unlost_row true e = cc
            unlost_row false e = refl

        go : (b : Bool) → is_named (joined_keys s i value) q ≡ b → is_loser (row_at (filter stays s.asserts) q) ≡ false
        go true is = named is (row_at (filter stays s.asserts) q) refl
        go false off = ap is_loser (filtered_row (λ r. rw off (passed (is_loser (Some r)))) s.asserts) ∙ unlost
          where
            passed : (b : Bool) → not (b && false) ≡ true
            passed true = refl
            passed false = refl

-- ---- at a place

module _ (g rp from to link : ℕ) (p : Place) (isg : IsGroup g rp) (can : CanTake g rp from to link p) where
  abbrev s : State
  s = state_of p

  abbrev at : IfaceId
  at = record { number = p.down }

  abbrev join_at : JoinPrune
  join_at = join_value (my_address s p.down) g (entry EntryKind.Star rp) []

  abbrev pub join_event : Event
  join_event = record { draw = p.draw; kind = EventKind.Frame at (join_packet from to g (entry EntryKind.Star rp) []) }

  judged_so : judged s join_event.kind ≡ Ok (Accepted.JoinPruneToMe at join_at)
  judged_so = grind (arith, join_is_read, All-nil)

  pub is_done : done_as (happens s join_event) ≡ Some (Accepted.JoinPruneToMe at join_at)
  is_done =
      done_if s join_event (Accepted.JoinPruneToMe at join_at) judged_so
      (has_room s p.down g rp isg can.rp_known (my_address s p.down) can.room)

  pub takes : TakesStar s (step s join_event).state p.down g join_at
  takes =
      star_join_is_taken s join_event at join_at g is_done
      (joins_it s p.down g rp isg can.rp_known (my_address s p.down))

  abbrev own_change : State × List Message
  own_change = (to_me s p.down join_at, [])

  is_settled : (step s join_event).state ≡ (settled s own_change p.draw).0
  unfolding done change
  is_settled =
      ap (λ a. a.state) (step_taken s join_event (Accepted.JoinPruneToMe at join_at) is_done
      ∙ taken_is_done s p.draw (Accepted.JoinPruneToMe at join_at) refl)

  -- ---- what goes on to hold

  abbrev t : State
  t = (settled s own_change p.draw).0

  kept_configured : t.configured ≡ s.configured
  unfolding to_me keys_taken
  kept_configured = still_configured s own_change p.draw

  kept_up : (i : ℕ) → is_up t i ≡ is_up s i
  unfolding to_me keys_taken
  kept_up i = same_up s own_change p.draw i

  kept_rp : (r : ℕ) → rp_of s g ≡ Some r → rp_of t g ≡ Some r
  unfolding to_me keys_taken rp_of
  kept_rp r e = same_rp s own_change p.draw g r e

  kept_next : (hop : Hop) → nbr s (rp_route s g) ≡ Some hop → nbr t (rp_route t g) ≡ Some hop
  unfolding to_me keys_taken nbr rp_route route rp_of
  kept_next hop e = same_next s own_change p.draw g hop e

  kept_source : (src i : ℕ) → is_loser (assert_source s g src i) ≡ false → is_loser (assert_source t g src i) ≡ false
  kept_source src i e = grind (arith, source_unlost, unlost_after)

  kept_unset : (src : ℕ) → has_row s.sources (source_key 0 g src) ≡ false → spt_bit t g src ≡ false
  unfolding to_me keys_taken
  kept_unset src e = still_unset s own_change p.draw g src e

  -- at most one fact more
  few_asserts : length t.asserts ≤ length s.asserts
  unfolding to_me keys_taken asserts_after_joins
  few_asserts = le_both _ _ _ (fewer_asserts s own_change p.draw) (filter_shorter _ s.asserts)

  few_needed : needed_of s (judged s join_event.kind) ≤ 1
  unfolding needed_by is_named makeable_keys distinct once_more needed
  few_needed = grind (arith, judged_so, joined_is, pruned_is)

  kept_room : IsSettled s → passes_limit s 2 ≡ false → passes_limit t 1 ≡ false
  kept_room rest has = grind (arith, room_left, is_settled, adds_what_is_needed, few_needed, few_asserts)

  pub goes_on_with : GoesOnWith s (step s join_event).state g
  goes_on_with =
      grind (arith, is_settled, kept_configured, kept_up, kept_rp, kept_next, kept_source, kept_unset, kept_room)

  -- ---- where it goes on

  module _ (on : CanGoOn g p) where
    pub kept_star : (i : ℕ) → is_loser (assert_star t g i) ≡ false
    kept_star i = grind (arith, star_unlost, unlost_after)

    own_rp : rp_of own_change.0 g ≡ Some rp
    unfolding to_me keys_taken rp_of
    own_rp = can.rp_known

    pub still_next : nbr t (rp_route t g) ≡ Some p.next
    still_next = kept_next p.next on.next

    next_hop : rpf_star t g ≡ Some p.next
    next_hop = to_the_next t g p.next kept_star still_next

    pub taken : TakesStar s t p.down g join_at
    taken = subst (λ (x : State). TakesStar s x p.down g join_at) is_settled takes

    comes : ComesToWantStar s t g rp p.next
    comes = grind (arith, taken, same_rp, own_rp, next_hop)

    within : p.down < iface_count t
    within = grind (arith, kept_configured)

    none_to_prune : (src : ℕ) → is_pruned_with_star t g src ≡ false
    unfolding has_row is_named
    none_to_prune src =
        none_pruned t g src p.down p.next within
        (on_group_list t g src p.down (ap is_some (taken.holds).found)
        (taken.unpruned src (rw (pruned_is s p.down g rp isg can.rp_known (my_address s p.down)) refl)) (kept_star p.down)
        (kept_source src p.down ((on.new).unlost_source src p.down)))
        (kept_unset src ((on.new).sourceless src)) next_hop (λ j. kept_source src j ((on.new).unlost_source src j))

    no_prunes : (ns : List ℕ) → AllByRecursion (λ src. is_pruned_with_star t g src ≡ true) ns → ns ≡ []
    no_prunes [] f = refl
    no_prunes (n ∷ ns) f = absurd (both_ways (is_pruned_with_star t g n) (none_to_prune n) f.0)

    abbrev pub own_join : Emission
    own_join = on_link (up_iface p) (join_packet (up_address p) (p.next).address.bits g (entry EntryKind.Star rp) [])

    pub sends : Contains (step s join_event).emissions own_join
    unfolding join_to
    sends =
        let f : SendsStar (step s join_event).state g rp p.next (step s join_event).emissions =
        star_join_leaves s join_event (Accepted.JoinPruneToMe at join_at) g rp p.next is_done refl
        (subst (λ (x : State). ComesToWantStar s x g rp p.next) (sym is_settled) comes) in
        let h : SendsStar t g rp p.next (step s join_event).emissions =
        subst (λ (x : State). SendsStar x g rp p.next (step s join_event).emissions) is_settled f in
        let alone : h.pruned ≡ [] = no_prunes h.pruned h.to_prune in
        subst (λ (cs : Addressing). Contains (step s join_event).emissions
        (on_link (up_iface p) (join_packet (address_among cs (up_iface p)) (p.next).address.bits g (entry EntryKind.Star rp) [])))
        kept_configured
        (subst (λ (ns : List ℕ). Contains (step s join_event).emissions (join_to t p.next g (entry EntryKind.Star rp) (map (entry EntryKind.SourceRpt) ns)))
        alone h.is_sent)
