-- What is RPF' once a timer has expired was RPF' before: that of the route, or the winner of an assert. So the Join timer ends no later,
-- or a Join leaves.
use Rattle.std.{proofs.Common.{Bool, List, None, Option, Some, ap, arith, cond, eq-eqb, eqb-true, false, filter, inl, inr, not, option_map, refl, subst, sym, take, true, ℕ, ◌&&◌, ◌+◌, ◌==◌, ◌∙◌, ◌≡◌, ◌≤◌, ◌⊎◌, []}, specs.{List.Contains, Option.{option_map_or, option_or}, Prelude.option_and_then}}
use Rattle.pim_types.{proofs.Keys.equal_keys, specs.{Keys.{same_key, source_key, star_key}, declared.{fact.{AssertRole.AssertRole, AssertRow.AssertRow, Key.Key, NeighbourRow.NeighbourRow}, outcome.Emission.Emission, path.{Hop.Hop, Path.Path}, timer.TimerKind.TimerKind}}}
use Rattle.pim_model.{specs.{Asserts.{assert_due, assert_forgotten, wins_again, without_spt_bit}, Desires.{rpf_source, rpf_star, winner_hop}, Downstream.downstream_expired, Firing.{fire_once, fire_row, fired, keepalive_due, settled}, Hellos.{hello_due, neighbour_due}, Messages.Message, Neighbours.{nbr, nbr_among}, Querier.{general_query_due, group_record_due, group_repeat_due, other_querier_gone, querying_on, source_record_due, source_repeat_due, sources_sent}, Reach.own_firing, Records.{with_members, with_repeats_of_rows}, Registers.{register_due, settle_registers}, Sets.{is_loser, is_winner}, State.{Addressing, State, address_among, my_address}, Tables.{Table, has_row, hop_at, row_at, same_option}, Timers.{Ending, ending}, Unicast.{is_rpf_interface_rp, route, rp_of, rp_route, rpf_interface, rpf_interface_rp}, Upstream.{fact_keys, is_pruned_with_star, join_timer_due, most_pruned, override_timer_due, periodic_end, pruned_with_star, sources_of}, Writing.on_link}}
use Rattle.law_settled.{proofs.{LawfulFiring.one_firing_is_lawful, RowLaws.has_row_without, SettlingLaws.kept_by_clearing, Unsettled.{Untold, cleared_in_the_end, settling_leaves}}, specs.Ready.IsLawful}
use Rattle.law_events.{proofs.{Configured.{firing_ground, ground}, Rest.one_firing_quiets}, specs.Locality.IsQuiet}
use Rattle.law_streams.{proofs.{Fires.{fired_unlost, fired_up}, Firings.{SendsJoin, fired_by, fired_now, hop_key}, InTimeTimers.{EndsBy, Towards, begins_by, goes_on_by, is_after, none_runs, not_after, timer_is, unwanted_by}, Lasting.{assert_lasting, pending_lasting}, Leaves.star_join_leaves_in_time, LiesUnder.row_fires, Rows.{changed_good, dropped_good}, ServedRepeats.{source_join_is_repeated, star_join_is_repeated}, Settles.{NoWorse, settling_no_worse}, Sources.source_join_leaves_in_time, Timed.firing_keeps_timed, Timers.fired_keeps, Ways.{SameGround, ground_again, same_route}}, specs.{InTimeJoins.{IsRp, Join, Source, Star, entry_of, is_lost_at, is_wanted, join_key, prunes_of, rpf_of, way_to}, Joins.{SendsAgain, SendsSourceAgain, SendsStar, join_packet, join_to}, Timed.AreTimed}}
use Rattle.law_converges.{proofs.AssertRows.fired_same}

-- ---- RPF' by its parts

abbrev of_row : ℕ → Option AssertRow → Option Hop → Option Hop
of_row i o n =
    option_or (option_and_then (λ (r : AssertRow). cond (is_loser (Some r)) (Some (hop_at i r.winner.address.bits)) None) o) n

abbrev of_way : Join → (g : ℕ) → Option Path → Table AssertRow → Table NeighbourRow → Option Hop
of_way x g None asserts rows = None
of_way x g (Some p) asserts rows = of_row p.iface.number (row_at asserts (join_key x p.iface.number g)) (nbr_among rows (Some p))

by_way : (x : Join) (g : ℕ) (w : Option Path) (asserts : Table AssertRow) (rows : Table NeighbourRow)
    → option_or (winner_hop (option_map (λ (p : Path). p.iface.number) w) (λ i. row_at asserts (join_key x i g))) (nbr_among rows w)
    ≡ of_way x g w asserts rows
unfolding nbr_among
by_way x g None asserts rows = refl
by_way x g (Some p) asserts rows = refl

rpf_is : (x : Join) (g : ℕ) (s : State) → rpf_of x s g ≡ of_way x g (way_to x s g) s.asserts s.neighbours
unfolding rpf_star rpf_source rpf_interface_rp rpf_interface nbr
rpf_is (Star rp) g s = by_way (Star rp) g (way_to (Star rp) s g) s.asserts s.neighbours
rpf_is (Source src) g s = by_way (Source src) g (way_to (Source src) s g) s.asserts s.neighbours

-- it doesn't depend on the time
pub at_any_time : (x : Join) (g m : ℕ) (s : State) → rpf_of x (record s { present = m }) g ≡ rpf_of x s g
unfolding rpf_star rpf_source rpf_interface rpf_interface_rp nbr rp_route rp_of route
at_any_time (Star rp) g m s = refl
at_any_time (Source src) g m s = refl

module _ (hop : Hop) where
  -- an assert is lost to another router than the next hop
  abbrev pub is_astray : Option AssertRow → Bool
  is_astray o = option_map_or (λ (r : AssertRow). is_loser (Some r) && not (r.winner.address.bits == hop.address.bits)) o false

  free_row : (i : ℕ) (o : Option AssertRow) (n : Option Hop) → is_loser o ≡ false → of_row i o n ≡ n
  free_row i None n e = refl
  free_row i (Some r) n e = rw e refl

  winner_is : (a : ℕ) → not (a == hop.address.bits) ≡ false → a ≡ hop.address.bits
  winner_is a e = eqb-true a hop.address.bits (unless (a == hop.address.bits) e)
    where
      unless : (b : Bool) → not b ≡ false → b ≡ true
      unless true e = refl
      unless false e = cc e

  lost_row : (i : ℕ) (o : Option AssertRow) (n : Option Hop) → is_loser o ≡ true → is_astray o ≡ false → i ≡ hop.iface.number
      → of_row i o n ≡ Some hop
  lost_row i None n lost good at = cc lost
  lost_row i (Some r) n lost good at =
      let same : r.winner.address.bits ≡ hop.address.bits =
      winner_is r.winner.address.bits (ap (λ (b : Bool). b && not (r.winner.address.bits == hop.address.bits)) (sym lost) ∙ good) in
      rw (lost, same, at) refl

  module _ (p : Path) (rows : Table NeighbourRow) where
    next_iface : nbr_among rows (Some p) ≡ Some hop → p.iface.number ≡ hop.iface.number
    unfolding nbr_among
    next_iface e = grind arith

    -- it is over the route's interface
    over_iface : (o : Option AssertRow) → of_row p.iface.number o (nbr_among rows (Some p)) ≡ Some hop → p.iface.number ≡ hop.iface.number
    over_iface None e = next_iface e
    over_iface (Some r) e = go (is_loser (Some r)) e
      where
        go : (b : Bool)
            → option_or (cond b (Some (hop_at p.iface.number r.winner.address.bits)) None) (nbr_among rows (Some p)) ≡ Some hop
            → p.iface.number ≡ hop.iface.number
        go true f = grind (arith, f)
        go false f = next_iface f

    good_row : (o : Option AssertRow) → of_row p.iface.number o (nbr_among rows (Some p)) ≡ Some hop → is_astray o ≡ false
    good_row None e = refl
    good_row (Some r) e = go (is_loser (Some r)) e
      where
        its : Some (hop_at p.iface.number r.winner.address.bits) ≡ Some hop → r.winner.address.bits ≡ hop.address.bits
        its f = grind (arith, f)

        go : (b : Bool)
            → option_or (cond b (Some (hop_at p.iface.number r.winner.address.bits)) None) (nbr_among rows (Some p)) ≡ Some hop
            → (b && not (r.winner.address.bits == hop.address.bits)) ≡ false
        go true f = let same : r.winner.address.bits ≡ hop.address.bits = its f in grind (arith, same)
        go false f = refl

    there_again : (others : Table NeighbourRow) → nbr_among rows (Some p) ≡ Some hop
        → (has_row rows (hop_key hop) ≡ true → has_row others (hop_key hop) ≡ true) → nbr_among others (Some p) ≡ Some hop
    unfolding nbr_among
    there_again others e f = grind (arith, f)

-- RPF' is over the interface of the route
pub record IsOver (o : Option Path) (hop : Hop) : Type 0 where
  pub path : Path
  pub is : o ≡ Some path
  pub over : path.iface.number ≡ hop.iface.number

pub over_rpf : (x : Join) (g : ℕ) (s : State) (hop : Hop) → rpf_of x s g ≡ Some hop → IsOver (way_to x s g) hop
over_rpf x g s hop e = go (way_to x s g) (sym (rpf_is x g s) ∙ e)
  where
    go : (w : Option Path) → of_way x g w s.asserts s.neighbours ≡ Some hop → IsOver w hop
    go None f = cc f
    go (Some p) f = record {
      path = p;
      is = refl;
      over = over_iface hop p s.neighbours (row_at s.asserts (join_key x p.iface.number g)) f;
    }

-- so it is RPF_interface(RP(G))
pub on_tree_so : (rp g : ℕ) (s : State) (hop : Hop) → rpf_of (Star rp) s g ≡ Some hop → is_rpf_interface_rp s g hop.iface.number ≡ true
unfolding rpf_interface_rp
on_tree_so rp g s hop e =
    let f : IsOver (rp_route s g) hop = over_rpf (Star rp) g s hop e in
    ap (λ (o : Option Path). same_option (option_map (λ (p : Path). p.iface.number) o) (Some hop.iface.number)) f.is
    ∙ eq-eqb (f.path.iface.number) hop.iface.number f.over

-- the winner of an assert that is lost there is RPF'
pub rpf_by_assert : (x : Join) (g : ℕ) (s : State) (p : Path) (r : AssertRow) (i : ℕ) → way_to x s g ≡ Some p → p.iface.number ≡ i
    → row_at s.asserts (join_key x i g) ≡ Some r → is_loser (Some r) ≡ true → rpf_of x s g ≡ Some (hop_at i r.winner.address.bits)
rpf_by_assert x g s p r i way at found lost =
    rpf_is x g s
    ∙ (ap (λ (w : Option Path). of_way x g w s.asserts s.neighbours) way
    ∙ (ap (λ (j : ℕ). of_row j (row_at s.asserts (join_key x j g)) (nbr_among s.neighbours (Some p))) at
    ∙ (ap (λ (o : Option AssertRow). of_row i o (nbr_among s.neighbours (Some p))) found ∙ won (nbr_among s.neighbours (Some p)))))
  where
    won : (n : Option Hop) → of_row i (Some r) n ≡ Some (hop_at i r.winner.address.bits)
    won n = rw lost refl

-- ---- the expiry of a timer

module _ (hop : Hop) (q : Key) where
  abbrev pub Good : State → Type 0
  Good s = is_astray hop (row_at s.asserts q) ≡ false

  winner_good : (r : AssertRow) → is_winner (Some r) ≡ true → is_astray hop (Some r) ≡ false
  winner_good r e = go r.role e
    where
      go : (role : AssertRole) → elim role [ AssertRole.Winner ↦ true | AssertRole.Loser ↦ false ] ≡ true
          → (elim role [ AssertRole.Loser ↦ true | AssertRole.Winner ↦ false ] && not (r.winner.address.bits == hop.address.bits)) ≡ false
      go AssertRole.Winner f = refl
      go AssertRole.Loser f = cc f

  due_good : (s : State) (k : Key) (r : AssertRow) → Good s → Good (assert_due s k r).0
  unfolding assert_due wins_again assert_forgotten
  due_good s k r f = go (is_winner (Some r)) refl
    where
      go : (w : Bool) → is_winner (Some r) ≡ w → Good (cond w (wins_again s k r) (assert_forgotten s k, [])).0
      go true is =
          changed_good (is_astray hop) refl (λ (old : AssertRow). Some (record r { end = s.present + 177000 }))
          (λ x y e. subst (λ (o : Option AssertRow). is_astray hop o ≡ false) e (winner_good r is)) k q s.asserts f
      go false is = dropped_good (is_astray hop) refl k q s.asserts f

  fired_good : (s : State) (kind : TimerKind) (k : Key) → Good s → Good (fired s kind k).0
  unfolding fired fire_row
  fired_good s TimerKind.Assert k f = row_fires Good s _ (row_at s.asserts k) f (λ r. due_good s k r f)
  fired_good s kind k f = ap (is_astray hop) (fired_same q s kind k (λ is. other is)) ∙ f
    where
      other : kind ≡ TimerKind.Assert → same_key q k ≡ false
      other is = cc is

  settled_good : (o : State) (c : State × List Message) (w : ℕ) → Good c.0 → Good (settled o c w).0
  unfolding settle_registers assert_forgotten without_spt_bit
  settled_good o c w f =
      ap (λ (u : Untold). is_astray hop (row_at u.asserts q)) (cleared_in_the_end o c w)
      ∙ kept_by_clearing Good (λ t k g. dropped_good (is_astray hop) refl k q t.asserts g) (λ t k g. g) o c.0 f

abbrev is_neighbours : TimerKind → Bool
is_neighbours TimerKind.Neighbour = true
is_neighbours _ = false

neighbour_is : (kind : TimerKind) → is_neighbours kind ≡ true → kind ≡ TimerKind.Neighbour
neighbour_is kind e = grind arith

register_neighbours : (s : State) (k : Key) (r : _) → (register_due s k r).0.neighbours ≡ s.neighbours
unfolding register_due
register_neighbours s k r = grind arith

fired_neighbours : (s : State) (kind : TimerKind) (k : Key) → is_neighbours kind ≡ false → (fired s kind k).0.neighbours ≡ s.neighbours
unfolding fired fire_row downstream_expired neighbour_due keepalive_due override_timer_due join_timer_due
    other_querier_gone querying_on group_repeat_due source_repeat_due sources_sent general_query_due hello_due
    group_record_due source_record_due with_members with_repeats_of_rows
fired_neighbours s kind k e = grind (arith, row_fires, pending_lasting, assert_lasting, register_neighbours)

fired_fewer : (q : Key) (s : State) (k : Key) (kind : TimerKind) → has_row (fired s kind k).0.neighbours q ≡ true → has_row s.neighbours q ≡ true
unfolding fired neighbour_due
fired_fewer q s k kind e = grind (arith, has_row_without, neighbour_is, fired_neighbours)

-- ---- the way to the RP, or to the source

same_rp_route : (s t : State) → SameGround s t → (g : ℕ) → rp_route t g ≡ rp_route s g
unfolding rp_route rp_of
same_rp_route s t f g = grind (arith, same_route)

same_way : (x : Join) (s t : State) → SameGround s t → (g : ℕ) → way_to x t g ≡ way_to x s g
same_way x s t f g = grind (arith, same_rp_route, same_route)

rp_again : (x : Join) (s t : State) → SameGround s t → (g : ℕ) → IsRp x s g → IsRp x t g
unfolding rp_of
rp_again x s t f g known = grind arith

module _ (x : Join) (g : ℕ) (hop : Hop) where
  abbrev pub its_key : Key
  its_key = join_key x hop.iface.number g

  -- what is RPF' later was RPF' before
  module _ (t u : State) (same : way_to x t g ≡ way_to x u g) (good : Good hop its_key t)
      (unlost : is_lost_at x t g hop.iface.number ≡ false → is_lost_at x u g hop.iface.number ≡ false)
      (fewer : has_row u.neighbours (hop_key hop) ≡ true → has_row t.neighbours (hop_key hop) ≡ true) where
    back_over : (w : Option Path) → of_way x g w u.asserts u.neighbours ≡ Some hop → of_way x g w t.asserts t.neighbours ≡ Some hop
    back_over None e = cc e
    back_over (Some p) e = go (is_loser (row_at t.asserts key)) refl
      where
        key : Key
        key = join_key x p.iface.number g

        at : p.iface.number ≡ hop.iface.number
        at = over_iface hop p u.neighbours (row_at u.asserts key) e

        go : (b : Bool) → is_loser (row_at t.asserts key) ≡ b → of_way x g (Some p) t.asserts t.neighbours ≡ Some hop
        go true lost =
            lost_row hop p.iface.number (row_at t.asserts key) (nbr_among t.neighbours (Some p)) lost
            (subst (λ (i : ℕ). is_astray hop (row_at t.asserts (join_key x i g)) ≡ false) (sym at) good) at
        go false off =
            let free : is_lost_at x u g hop.iface.number ≡ false = unlost (subst (λ (i : ℕ). is_lost_at x t g i ≡ false) at off) in
            let next : nbr_among u.neighbours (Some p) ≡ Some hop =
            sym (free_row hop p.iface.number (row_at u.asserts key) (nbr_among u.neighbours (Some p))
            (subst (λ (i : ℕ). is_lost_at x u g i ≡ false) (sym at) free)) ∙ e in
            free_row hop p.iface.number (row_at t.asserts key) (nbr_among t.neighbours (Some p)) off
            ∙ there_again hop p u.neighbours t.neighbours next fewer

    pub back : rpf_of x u g ≡ Some hop → rpf_of x t g ≡ Some hop
    back e =
        rpf_is x g t
        ∙ (ap (λ (w : Option Path). of_way x g w t.asserts t.neighbours) same ∙ back_over (way_to x u g) (sym (rpf_is x g u) ∙ e))

  -- to begin with the assert isn't lost to another
  pub good_at : (s : State) → rpf_of x s g ≡ Some hop → Good hop its_key s
  good_at s e = go (way_to x s g) (sym (rpf_is x g s) ∙ e)
    where
      go : (w : Option Path) → of_way x g w s.asserts s.neighbours ≡ Some hop → Good hop its_key s
      go None f = cc f
      go (Some p) f =
          subst (λ (i : ℕ). is_astray hop (row_at s.asserts (join_key x i g)) ≡ false)
          (over_iface hop p s.neighbours (row_at s.asserts (join_key x p.iface.number g)) f)
          (good_row hop p s.neighbours (row_at s.asserts (join_key x p.iface.number g)) f)

-- ---- it is sent where it comes to be wanted, and again

record IsSentBy (t : State) (join : Join) (g : ℕ) (hop : Hop) (sent : List Emission) : Type 0 where
  pruned : List ℕ
  is_sent : Contains sent (join_to t hop g (entry_of join) (prunes_of pruned))

leaves_so : (join : Join) (w : ℕ) (t : State) (d : Ending) (g : ℕ) (hop : Hop) → is_wanted join t g ≡ false
    → is_wanted join (fire_once w t d).0 g ≡ true → Towards join g hop (fire_once w t d).0
    → IsSentBy (fire_once w t d).0 join g hop (fire_once w t d).1
leaves_so (Star rp) w t d g hop off on to =
    let sends : SendsStar (fire_once w t d).0 g rp hop (fire_once w t d).1 =
    star_join_leaves_in_time w t d g rp hop (record {
      unwanted = off;
      wanted = on;
      rp_known = to.rp_known;
      upstream = to.upstream;
    }) in
    record { pruned = sends.pruned; is_sent = sends.is_sent }
leaves_so (Source src) w t d g hop off on to = grind (arith, source_join_leaves_in_time)

record IsSentAgain (s t : State) (join : Join) (g : ℕ) (hop : Hop) (sent : List Emission) : Type 0 where
  by : IsSentBy s join g hop sent
  timer : row_at t.join_timers (join_key join 0 g) ≡ Some (record { end = periodic_end s })

repeats_so : (join : Join) (w : ℕ) (s : State) (g now : ℕ) (hop : Hop) → IsQuiet s
    → has_row s.join_timers (join_key join 0 g) ≡ true → Towards join g hop (record s { present = now })
    → IsSentAgain (record s { present = now }) (fire_once w s (ending TimerKind.Join (join_key join 0 g) now)).0 join g hop
    (fire_once w s (ending TimerKind.Join (join_key join 0 g) now)).1
unfolding pruned_with_star
repeats_so (Star rp) w s g now hop quiet runs to =
    let opened : State = record s { present = now } in
    let sends : SendsAgain opened (fire_once w s (ending TimerKind.Join (star_key 0 g) now)).0 g rp hop
    (fire_once w s (ending TimerKind.Join (star_key 0 g) now)).1 =
    star_join_is_repeated w s g rp now hop quiet runs to.rp_known to.upstream in
    record {
      by = record {
        pruned = take most_pruned (filter (is_pruned_with_star opened g) (sources_of g (fact_keys opened)));
        is_sent = sends.is_sent;
      };
      timer = sends.timer;
    }
repeats_so (Source src) w s g now hop quiet runs to =
    let opened : State = record s { present = now } in
    let sends : SendsSourceAgain opened (fire_once w s (ending TimerKind.Join (source_key 0 g src) now)).0 g src hop
    (fire_once w s (ending TimerKind.Join (source_key 0 g src) now)).1 =
    source_join_is_repeated w s g src now hop quiet runs to.upstream in
    record { by = record { pruned = []; is_sent = sends.is_sent }; timer = sends.timer }

-- ---- at each firing

abbrev is_join : TimerKind → Bool
is_join TimerKind.Join = true
is_join _ = false

join_is : (kind : TimerKind) → is_join kind ≡ true → kind ≡ TimerKind.Join
join_is kind e = grind arith

unlost_again : (join : Join) (g i : ℕ) (o : State) (c : State × List Message) (w : ℕ) → is_lost_at join c.0 g i ≡ false
    → is_lost_at join (settled o c w).0 g i ≡ false
unlost_again (Star rp) g i o c w e = (settling_no_worse o c w g 0 i).group e
unlost_again (Source src) g i o c w e = (settling_no_worse o c w g src i).source e

module _ (join : Join) (g m from : ℕ) (hop : Hop) (b : State) (own : my_address b hop.iface.number ≡ from) (rp_known : IsRp join b g) where
  pub record Base (t : State) : Type 0 where
    pub ground : SameGround b t
    pub good : Good hop (its_key join g hop) t
    pub lawful : IsLawful t
    pub quiet : IsQuiet t
    pub timed : AreTimed t

  abbrev pub IsThere : State → Type 0
  IsThere t = rpf_of join t g ≡ Some hop

  towards : (t : State) → SameGround b t → IsThere t → Towards join g hop t
  towards t same e = record { rp_known = rp_again join b t same g rp_known; upstream = e }

  abbrev Has : List Emission → Type 0
  Has sent = SendsJoin join g from hop sent

  by_address : (cs : Addressing) (sent : List Emission) (pruned : List ℕ) → cs ≡ b.configured
      → Contains sent (on_link hop.iface.number (join_packet (address_among cs hop.iface.number) hop.address.bits g (entry_of join) (prunes_of pruned)))
      → Has sent
  by_address cs sent pruned same c = grind arith

  module _ (w : ℕ) (t : State) (d : Ending) (f : Base t) where
    abbrev opened : State
    opened = record t { present = d.end }

    abbrev c : State × List Message
    c = fired opened d.timer.kind d.timer.key

    abbrev u : State
    u = (fire_once w t d).0

    worse : NoWorse g 0 hop.iface.number c.0 u
    unfolding fire_once
    worse = settling_no_worse t c w g 0 hop.iface.number

    own_ground : SameGround b c.0
    unfolding own_firing
    own_ground = grind (arith, ground, firing_ground, fired_up)

    pub base_then : Base u
    unfolding fire_once
    base_then = record {
      ground = ground_again b c.0 u own_ground (worse).ground;
      good = settled_good hop (its_key join g hop) t c w (fired_good hop (its_key join g hop) opened d.timer.kind d.timer.key f.good);
      lawful = one_firing_is_lawful w t d f.lawful;
      quiet = one_firing_quiets w t d f.lawful;
      timed = firing_keeps_timed w t d f.timed;
    }

    fewer : has_row (u).neighbours (hop_key hop) ≡ true → has_row t.neighbours (hop_key hop) ≡ true
    unfolding fire_once
    fewer e = grind (arith, fired_fewer, settling_leaves)

    unlost_then : is_lost_at join t g hop.iface.number ≡ false → is_lost_at join u g hop.iface.number ≡ false
    unfolding fire_once
    unlost_then e =
        unlost_again join g hop.iface.number t c w
        (fired_unlost 0 0 0 b (join_key join hop.iface.number g) opened d.timer.kind d.timer.key e)

    same_then : way_to join t g ≡ way_to join u g
    same_then = same_way join b t f.ground g ∙ sym (same_way join b u (base_then).ground g)

    pub was_there : IsThere u → IsThere t
    was_there e = back join g hop t u same_then f.good unlost_then fewer e

    now : (c.0).present ≡ d.end
    now = fired_now opened d.timer.key d.timer.kind

    module _ (low : d.end ≤ m) (is : IsThere u) where
      old : Towards join g hop t
      old = towards t f.ground (was_there is)

      new : Towards join g hop u
      new = towards u (base_then).ground is

      at_end : Towards join g hop opened
      at_end =
          towards opened (record {
            configured = (f.ground).configured;
            routes = (f.ground).routes;
            ranges = (f.ground).ranges;
            up = (f.ground).up;
          }) (at_any_time join g d.end t ∙ was_there is)

      abbrev Either : Type 0
      Either = ((x : ℕ) → EndsBy join g x t → EndsBy join g x u) ⊎ (Has (fire_once w t d).1 × EndsBy join g (m + 60000) u)

      soon : d.end + 60000 ≤ m + 60000
      soon = omega (arith, low)

      -- the group comes to be wanted
      begins : is_wanted join t g ≡ false → is_wanted join u g ≡ true → Either
      unfolding fire_once join_to
      begins off on =
          let sends : IsSentBy u join g hop (fire_once w t d).1 = leaves_so join w t d g hop off on new in
          let none : has_row (c.0).join_timers (join_key join 0 g) ≡ false =
          fired_keeps opened d.timer.kind d.timer.key (join_key join 0 g) ∙ (timer_is join t g f.timed ∙ off) in
          inr (
            by_address u.configured (fire_once w t d).1 sends.pruned ((base_then).ground).configured sends.is_sent,
            begins_by t c w join g (m + 60000) off on (subst (λ (n : ℕ). n + 60000 ≤ m + 60000) (sym now) soon)
                (none_runs join c.0 g (m + 60000) none),
          )

      -- its own Join timer ends
      ends : is_wanted join t g ≡ true → d ≡ ending TimerKind.Join (join_key join 0 g) d.end → Either
      unfolding join_to
      ends on it =
          let sends : IsSentAgain opened (fire_once w t (ending TimerKind.Join (join_key join 0 g) d.end)).0 join g hop
          (fire_once w t (ending TimerKind.Join (join_key join 0 g) d.end)).1 =
          repeats_so join w t g d.end hop f.quiet (timer_is join t g f.timed ∙ on) at_end in
          let there : Has (fire_once w t (ending TimerKind.Join (join_key join 0 g) d.end)).1 =
          by_address t.configured _ (sends.by).pruned (f.ground).configured (sends.by).is_sent in
          let by : EndsBy join g (m + 60000) (fire_once w t (ending TimerKind.Join (join_key join 0 g) d.end)).0 =
          ap (is_after (m + 60000)) sends.timer ∙ not_after (m + 60000) (d.end + 60000) soon in
          inr (subst (λ (e : Ending). Has (fire_once w t e).1 × EndsBy join g (m + 60000) (fire_once w t e).0) (sym it) (there, by))

      -- another timer's does
      others : is_wanted join t g ≡ true → is_wanted join u g ≡ true
          → (is_join d.timer.kind && same_key (join_key join 0 g) d.timer.key) ≡ false → Either
      unfolding fire_once
      others on still off = grind (arith, goes_on_by, old, new, fired_by)

      pub turn : Either
      turn = go (is_wanted join t g) refl (is_wanted join u g) refl
        where
          it_is : (k : TimerKind) → d.timer.kind ≡ k → k ≡ TimerKind.Join → same_key (join_key join 0 g) d.timer.key ≡ true
              → d ≡ ending TimerKind.Join (join_key join 0 g) d.end
          it_is k e h same =
              let key : join_key join 0 g ≡ d.timer.key = equal_keys (join_key join 0 g) d.timer.key same in
              let kind : d.timer.kind ≡ TimerKind.Join = e ∙ h in
              λ j. record { end = d.end; timer = record { kind = kind j; key = (sym key) j } }

          own_or_not : (p q : Bool) → is_join d.timer.kind ≡ p → same_key (join_key join 0 g) d.timer.key ≡ q
              → is_wanted join t g ≡ true → is_wanted join u g ≡ true → Either
          own_or_not true true a e on still = ends on (it_is d.timer.kind refl (join_is d.timer.kind a) e)
          own_or_not true false a e on still = others on still (rw (a, e) refl)
          own_or_not false q a e on still = others on still (rw a refl)

          go : (p : Bool) → is_wanted join t g ≡ p → (q : Bool) → is_wanted join u g ≡ q → Either
          go p on false off = inl (λ x h. unwanted_by join u g x (base_then).timed off)
          go false off true on = begins off on
          go true on true still = own_or_not (is_join d.timer.kind) (same_key (join_key join 0 g) d.timer.key) refl refl on still
