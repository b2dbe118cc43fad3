-- Time at the lower router: its Join timer ends no later, or a Join leaves, and then it ends within 60 s.
use Rattle.std.{proofs.Common.{◌≡◌, ◌∙◌, ℕ, ◌+◌, ◌≤◌, ◌&&◌, Bool, true, false, List, [], ◌⊎◌, inl, inr, take, filter, Option, Some, None, refl, sym, ap, subst, arith}, specs.{List.Contains, Option.option_map_or}}
use Rattle.pim_types.{specs.{Keys.{neighbour_key, same_key, source_key, star_key}, declared.{fact.{JoinTimerRow.JoinTimerRow, Key.Key, NeighbourRow.NeighbourRow}, outcome.Emission.Emission, path.{Hop.Hop, Path.Path}, timer.TimerKind.TimerKind}}, proofs.Keys.equal_keys}
use Rattle.pim_model.{specs.{Desires.rpf_star, Downstream.downstream_expired, Firing.{fire_once, fire_row, fired, keepalive_due, settled}, Hellos.{hello_due, neighbour_due}, Messages.Message, Neighbours.{nbr, nbr_among}, Querier.{general_query_due, group_record_due, group_repeat_due, other_querier_gone, querying_on, source_record_due, source_repeat_due, sources_sent}, Reach.own_firing, Records.{with_members, with_repeats_of_rows}, Registers.register_due, Sets.{assert_star, is_loser}, State.{Addressing, State, address_among, my_address}, Tables.{Table, has_row, row_at}, Timers.{Ending, ending}, Unicast.{rp_of, rp_route, rpf_interface_rp}, Upstream.{fact_keys, is_pruned_with_star, join_timer_due, most_pruned, override_timer_due, periodic_end, pruned_with_star, sources_of}, Writing.on_link}}
use Rattle.law_settled.{proofs.{RowLaws.{has_row_without, row_change_away}, LawfulFiring.one_firing_is_lawful, Unsettled.settling_leaves}, specs.Ready.IsLawful}
use Rattle.law_events.{specs.Locality.IsQuiet, proofs.{Rest.one_firing_quiets, Configured.{firing_ground, ground}}}
use Rattle.law_streams.{specs.{Joins.{SendsAgain, SendsSourceAgain, SendsStar, join_packet, join_to}, Timed.AreTimed, InTimeJoins.{IsRp, Join, Source, Star, entry_of, is_lost_at, is_wanted, join_key, prunes_of, rpf_of, way_to}}, proofs.{Lasting.{assert_lasting, pending_lasting}, Leaves.star_join_leaves_in_time, ServedRepeats.{source_join_is_repeated, star_join_is_repeated}, Sources.source_join_leaves_in_time, Taken.apart_keys, Timed.firing_keeps_timed, Timers.fired_keeps, Fires.{fired_unlost, fired_up}, Settles.{NoWorse, settling_no_worse}, Ways.{SameGround, ground_again, same_route}, Joins.{goes_to_source, winner_none}, InTimeTimers.{EndsBy, Towards, begins_by, goes_on_by, is_after, none_runs, not_after, timer_is, unwanted_by}}}

-- ---- what the expiry of a timer leaves alone

record Parts : Type 0 where
  present : ℕ
  neighbours : Table NeighbourRow
  join_timers : Table JoinTimerRow

abbrev parts : State → Parts
parts s = record { present = s.present; neighbours = s.neighbours; join_timers = s.join_timers }

abbrev is_join : TimerKind → Bool
is_join TimerKind.Join = true
is_join _ = false

abbrev is_neighbours : TimerKind → Bool
is_neighbours TimerKind.Neighbour = true
is_neighbours _ = false

join_is : (kind : TimerKind) → is_join kind ≡ true → kind ≡ TimerKind.Join
join_is kind e = grind arith

row_fires : {R : Type 0} (P : State → Type 0) (s : State) (o : Option R) (fire : R → State × List Message) → P s
    → ((r : R) → P (fire r).0) → P (option_map_or fire o (s, [])).0
row_fires P s o fire f h = grind arith

register_parts : (s : State) (k : Key) (r : _) → parts (register_due s k r).0 ≡ parts s
unfolding register_due
register_parts s k r = grind arith

fired_parts : (s : State) (kind : TimerKind) (k : Key) → is_join kind ≡ false → is_neighbours kind ≡ false
    → parts (fired s kind k).0 ≡ parts s
unfolding fired fire_row downstream_expired neighbour_due keepalive_due override_timer_due join_timer_due
    other_querier_gone querying_on group_repeat_due source_repeat_due sources_sent general_query_due hello_due
    group_record_due source_record_due with_members with_repeats_of_rows
fired_parts s kind k e f = grind (arith, row_fires, pending_lasting, assert_lasting, register_parts)

neighbour_is : (kind : TimerKind) → is_neighbours kind ≡ true → kind ≡ TimerKind.Neighbour
neighbour_is kind e = grind arith

module _ (s : State) (k : Key) where
  join_now : (fired s TimerKind.Join k).0.present ≡ s.present
  unfolding fired join_timer_due
  join_now = refl

  join_neighbours : (fired s TimerKind.Join k).0.neighbours ≡ s.neighbours
  unfolding fired join_timer_due
  join_neighbours = refl

  neighbour_now : (fired s TimerKind.Neighbour k).0.present ≡ s.present
  unfolding fired neighbour_due
  neighbour_now = refl

  neighbour_timers : (fired s TimerKind.Neighbour k).0.join_timers ≡ s.join_timers
  unfolding fired neighbour_due
  neighbour_timers = refl

  neighbour_fewer : (q : Key) → has_row (fired s TimerKind.Neighbour k).0.neighbours q ≡ true → has_row s.neighbours q ≡ true
  unfolding fired neighbour_due
  neighbour_fewer q e = grind (arith, has_row_without)

-- by the kind of the timer
by_kind : (P : TimerKind → Type 0) → P TimerKind.Join → P TimerKind.Neighbour
    → ((kind : TimerKind) → is_join kind ≡ false → is_neighbours kind ≡ false → P kind) → (kind : TimerKind) → P kind
by_kind P j n others kind = grind (arith, others, join_is, neighbour_is)

pub fired_now : (s : State) (k : Key) (kind : TimerKind) → (fired s kind k).0.present ≡ s.present
fired_now s k = grind (arith, by_kind, join_now, neighbour_now, fired_parts)

fired_fewer : (q : Key) (s : State) (k : Key) (kind : TimerKind) → has_row (fired s kind k).0.neighbours q ≡ true
    → has_row s.neighbours q ≡ true
fired_fewer q s k = grind (arith, by_kind, join_neighbours, neighbour_fewer, fired_parts)

-- another timer's end leaves the Join timer of what is joined
joins_away : (join : Join) (g x : ℕ) (s : State) (k : Key) → same_key (join_key join 0 g) k ≡ false → EndsBy join g x s
    → EndsBy join g x (fired s TimerKind.Join k).0
unfolding fired join_timer_due
joins_away join g x s k off f = grind (arith, is_after, row_change_away, apart_keys)

pub fired_by : (join : Join) (g x : ℕ) (s : State) (k : Key) (kind : TimerKind)
    → (is_join kind && same_key (join_key join 0 g) k) ≡ false → EndsBy join g x s → EndsBy join g x (fired s kind k).0
fired_by join g x s k = grind (arith, by_kind, joins_away, is_after, neighbour_timers, fired_parts)

-- ---- the way to the RP, or to the source

same_rp_route : (s t : State) → SameGround s t → (g : ℕ) → rp_route t g ≡ rp_route s g
unfolding rp_route rp_of
same_rp_route s t f g = grind (arith, same_route)

same_way : (join : Join) (s t : State) → SameGround s t → (g : ℕ) → way_to join t g ≡ way_to join s g
same_way join s t f g = grind (arith, same_rp_route, same_route)

rp_again : (join : Join) (s t : State) → SameGround s t → (g : ℕ) → IsRp join s g → IsRp join t g
unfolding rp_of
rp_again join s t f g known = grind arith

abbrev pub hop_key : Hop → Key
hop_key hop = neighbour_key hop.iface.number hop.address.bits

module _ (rows : Table NeighbourRow) (hop : Hop) where
  abbrev made : Path → Hop
  made p = record { iface = p.iface; address = p.next_hop }

  -- the neighbour of the path is there, and is the hop
  hop_of : (p : Path) → nbr_among rows (Some p) ≡ Some hop → (has_row rows (hop_key hop) ≡ true) × (made p ≡ hop)
  unfolding nbr_among
  hop_of p e = grind arith

  pub is_there : (o : Option Path) → nbr_among rows o ≡ Some hop → has_row rows (hop_key hop) ≡ true
  unfolding nbr_among
  is_there o e = grind (arith, hop_of)

  there_again : (others : Table NeighbourRow) (o : Option Path) → nbr_among rows o ≡ Some hop
      → has_row others (hop_key hop) ≡ true → nbr_among others o ≡ Some hop
  unfolding nbr_among
  there_again others o e f = grind (arith, others, hop_of)

no_next : (rows : Table NeighbourRow) (hop : Hop) → nbr_among rows None ≡ Some hop → ⊥
unfolding nbr_among
no_next rows hop e = cc e

goes_there : (t : State) (g : ℕ) (hop : Hop) → nbr t (rp_route t g) ≡ Some hop
    → is_loser (assert_star t g hop.iface.number) ≡ false → rpf_star t g ≡ Some hop
unfolding rpf_star rpf_interface_rp nbr
goes_there t g hop next unlost = go (rp_route t g) refl next
  where
    go : (o : Option Path) → rp_route t g ≡ o → nbr_among t.neighbours o ≡ Some hop → rpf_star t g ≡ Some hop
    go None is e = absurd (no_next t.neighbours hop e)
    go (Some p) is e =
        let same : made t.neighbours hop p ≡ hop = (hop_of t.neighbours hop p e).1 in
        let kept : is_loser (assert_star t g p.iface.number) ≡ false =
        ap (λ (h : Hop). is_loser (assert_star t g h.iface.number)) same ∙ unlost in
        rw (is, winner_none (assert_star t g p.iface.number) p.iface.number kept) e

-- RPF' of what is joined
pub goes_so : (join : Join) (t : State) (g : ℕ) (hop : Hop) → nbr t (way_to join t g) ≡ Some hop
    → is_lost_at join t g hop.iface.number ≡ false → rpf_of join t g ≡ Some hop
goes_so (Star rp) t g hop next unlost = goes_there t g hop next unlost
goes_so (Source src) t g hop next unlost = goes_to_source t g src hop next unlost

-- what follows of a change loses no assert
unlost_again : (join : Join) (g i : ℕ) (o : State) (c : State × List Message) (w : ℕ) → is_lost_at join c.0 g i ≡ false
    → is_lost_at join (settled o c w).0 g i ≡ false
unlost_again (Star rp) g i o c w e = (settling_no_worse o c w g 0 i).group e
unlost_again (Source src) g i o c w e = (settling_no_worse o c w g src i).source e

-- a Join to the next hop is sent
pub record SendsJoin (join : Join) (g from : ℕ) (hop : Hop) (sent : List Emission) : Type 0 where
  pub pruned : List ℕ
  pub is_sent : Contains sent
      (on_link hop.iface.number (join_packet from hop.address.bits g (entry_of join) (prunes_of pruned)))

-- ---- it is sent where it comes to be wanted, and again

record IsSentBy (t : State) (join : Join) (g : ℕ) (hop : Hop) (sent : List Emission) : Type 0 where
  pruned : List ℕ
  is_sent : Contains sent (join_to t hop g (entry_of join) (prunes_of pruned))

leaves_so : (join : Join) (w : ℕ) (t : State) (d : Ending) (g : ℕ) (hop : Hop) → is_wanted join t g ≡ false
    → is_wanted join (fire_once w t d).0 g ≡ true → Towards join g hop (fire_once w t d).0
    → IsSentBy (fire_once w t d).0 join g hop (fire_once w t d).1
leaves_so (Star rp) w t d g hop off on to =
    let sends : SendsStar (fire_once w t d).0 g rp hop (fire_once w t d).1 =
    star_join_leaves_in_time w t d g rp hop (record {
      unwanted = off;
      wanted = on;
      rp_known = to.rp_known;
      upstream = to.upstream;
    }) in
    record { pruned = sends.pruned; is_sent = sends.is_sent }
leaves_so (Source src) w t d g hop off on to = grind (arith, source_join_leaves_in_time)

record IsSentAgain (s t : State) (join : Join) (g : ℕ) (hop : Hop) (sent : List Emission) : Type 0 where
  by : IsSentBy s join g hop sent
  timer : row_at t.join_timers (join_key join 0 g) ≡ Some (record { end = periodic_end s })

repeats_so : (join : Join) (w : ℕ) (s : State) (g now : ℕ) (hop : Hop) → IsQuiet s
    → has_row s.join_timers (join_key join 0 g) ≡ true → Towards join g hop (record s { present = now })
    → IsSentAgain (record s { present = now }) (fire_once w s (ending TimerKind.Join (join_key join 0 g) now)).0 join g hop
    (fire_once w s (ending TimerKind.Join (join_key join 0 g) now)).1
unfolding pruned_with_star
repeats_so (Star rp) w s g now hop quiet runs to =
    let opened : State = record s { present = now } in
    let sends : SendsAgain opened (fire_once w s (ending TimerKind.Join (star_key 0 g) now)).0 g rp hop
    (fire_once w s (ending TimerKind.Join (star_key 0 g) now)).1 =
    star_join_is_repeated w s g rp now hop quiet runs to.rp_known to.upstream in
    record {
      by = record {
        pruned = take most_pruned (filter (is_pruned_with_star opened g) (sources_of g (fact_keys opened)));
        is_sent = sends.is_sent;
      };
      timer = sends.timer;
    }
repeats_so (Source src) w s g now hop quiet runs to =
    let opened : State = record s { present = now } in
    let sends : SendsSourceAgain opened (fire_once w s (ending TimerKind.Join (source_key 0 g src) now)).0 g src hop
    (fire_once w s (ending TimerKind.Join (source_key 0 g src) now)).1 =
    source_join_is_repeated w s g src now hop quiet runs to.upstream in
    record { by = record { pruned = []; is_sent = sends.is_sent }; timer = sends.timer }

-- ---- at each firing

module _ (join : Join) (g m from : ℕ) (hop : Hop) (b : State) (own : my_address b hop.iface.number ≡ from)
    (rp_known : IsRp join b g) (next : nbr b (way_to join b g) ≡ Some hop) where
  pub record Base (t : State) : Type 0 where
    pub ground : SameGround b t
    pub unlost : is_lost_at join t g hop.iface.number ≡ false
    pub lawful : IsLawful t
    pub quiet : IsQuiet t
    pub timed : AreTimed t

  abbrev there : State → Bool
  there t = has_row t.neighbours (hop_key hop)

  towards : (t : State) → SameGround b t → is_lost_at join t g hop.iface.number ≡ false → there t ≡ true
      → Towards join g hop t
  unfolding nbr
  towards t same unlost here = grind (arith, unlost, rp_again, goes_so, same_way, there_again)

  abbrev Has : List Emission → Type 0
  Has sent = SendsJoin join g from hop sent

  by_address : (cs : Addressing) (sent : List Emission) (pruned : List ℕ) → cs ≡ b.configured
      → Contains sent (on_link hop.iface.number (join_packet (address_among cs hop.iface.number) hop.address.bits g (entry_of join) (prunes_of pruned)))
      → Has sent
  by_address cs sent pruned same c = grind arith

  module _ (w : ℕ) (t : State) (d : Ending) (f : Base t) where
    abbrev opened : State
    opened = record t { present = d.end }

    abbrev c : State × List Message
    c = fired opened d.timer.kind d.timer.key

    abbrev u : State
    u = (fire_once w t d).0

    worse : NoWorse g 0 hop.iface.number c.0 u
    unfolding fire_once
    worse = settling_no_worse t c w g 0 hop.iface.number

    own_ground : SameGround b c.0
    unfolding own_firing
    own_ground = grind (arith, ground, firing_ground, fired_up)

    pub base_then : Base u
    unfolding fire_once
    base_then = record {
      ground = ground_again b c.0 u own_ground (worse).ground;
      unlost = unlost_again join g hop.iface.number t c w
          (fired_unlost 0 0 0 b (join_key join hop.iface.number g) opened d.timer.kind d.timer.key f.unlost);
      lawful = one_firing_is_lawful w t d f.lawful;
      quiet = one_firing_quiets w t d f.lawful;
      timed = firing_keeps_timed w t d f.timed;
    }

    pub fewer : there u ≡ true → there t ≡ true
    unfolding fire_once
    fewer e = grind (arith, fired_fewer, settling_leaves)

    now : (c.0).present ≡ d.end
    now = fired_now opened d.timer.key d.timer.kind

    module _ (low : d.end ≤ m) (was : there t ≡ true) (is : there u ≡ true) where
      old : Towards join g hop t
      old = towards t f.ground f.unlost was

      new : Towards join g hop u
      new = towards u (base_then).ground (base_then).unlost is

      at_end : Towards join g hop opened
      at_end = towards opened (record {
        configured = (f.ground).configured;
        routes = (f.ground).routes;
        ranges = (f.ground).ranges;
        up = (f.ground).up;
      }) f.unlost was

      abbrev Either : Type 0
      Either = ((x : ℕ) → EndsBy join g x t → EndsBy join g x u) ⊎ (Has (fire_once w t d).1 × EndsBy join g (m + 60000) u)

      soon : d.end + 60000 ≤ m + 60000
      soon = omega (arith, low)

      -- the group comes to be wanted
      begins : is_wanted join t g ≡ false → is_wanted join u g ≡ true → Either
      unfolding fire_once join_to
      begins off on =
          let sends : IsSentBy u join g hop (fire_once w t d).1 = leaves_so join w t d g hop off on new in
          let none : has_row (c.0).join_timers (join_key join 0 g) ≡ false =
          fired_keeps opened d.timer.kind d.timer.key (join_key join 0 g) ∙ (timer_is join t g f.timed ∙ off) in
          inr (
            by_address u.configured (fire_once w t d).1 sends.pruned ((base_then).ground).configured sends.is_sent,
            begins_by t c w join g (m + 60000) off on (subst (λ (n : ℕ). n + 60000 ≤ m + 60000) (sym now) soon)
                (none_runs join c.0 g (m + 60000) none),
          )

      -- its own Join timer ends
      ends : is_wanted join t g ≡ true → d ≡ ending TimerKind.Join (join_key join 0 g) d.end → Either
      unfolding join_to
      ends on it =
          let sends : IsSentAgain opened (fire_once w t (ending TimerKind.Join (join_key join 0 g) d.end)).0 join g hop
          (fire_once w t (ending TimerKind.Join (join_key join 0 g) d.end)).1 =
          repeats_so join w t g d.end hop f.quiet (timer_is join t g f.timed ∙ on) at_end in
          let there : Has (fire_once w t (ending TimerKind.Join (join_key join 0 g) d.end)).1 =
          by_address t.configured _ (sends.by).pruned (f.ground).configured (sends.by).is_sent in
          let by : EndsBy join g (m + 60000) (fire_once w t (ending TimerKind.Join (join_key join 0 g) d.end)).0 =
          ap (is_after (m + 60000)) sends.timer ∙ not_after (m + 60000) (d.end + 60000) soon in
          inr (subst (λ (e : Ending). Has (fire_once w t e).1 × EndsBy join g (m + 60000) (fire_once w t e).0) (sym it) (there, by))

      -- another timer's does
      others : is_wanted join t g ≡ true → is_wanted join u g ≡ true
          → (is_join d.timer.kind && same_key (join_key join 0 g) d.timer.key) ≡ false → Either
      unfolding fire_once
      others on still off = grind (arith, goes_on_by, old, new, fired_by)

      pub turn : Either
      turn = go (is_wanted join t g) refl (is_wanted join u g) refl
        where
          it_is : (k : TimerKind) → d.timer.kind ≡ k → k ≡ TimerKind.Join → same_key (join_key join 0 g) d.timer.key ≡ true
              → d ≡ ending TimerKind.Join (join_key join 0 g) d.end
          it_is k e h same =
              let key : join_key join 0 g ≡ d.timer.key = equal_keys (join_key join 0 g) d.timer.key same in
              let kind : d.timer.kind ≡ TimerKind.Join = e ∙ h in
              λ j. record { end = d.end; timer = record { kind = kind j; key = (sym key) j } }

          own_or_not : (p q : Bool) → is_join d.timer.kind ≡ p → same_key (join_key join 0 g) d.timer.key ≡ q
              → is_wanted join t g ≡ true → is_wanted join u g ≡ true → Either
          own_or_not true true a e on still = ends on (it_is d.timer.kind refl (join_is d.timer.kind a) e)
          own_or_not true false a e on still = others on still (rw (a, e) refl)
          own_or_not false q a e on still = others on still (rw a refl)

          go : (p : Bool) → is_wanted join t g ≡ p → (q : Bool) → is_wanted join u g ≡ q → Either
          go p on false off = inl (λ x h. unwanted_by join u g x (base_then).timed off)
          go false off true on = begins off on
          go true on true still = own_or_not (is_join d.timer.kind) (same_key (join_key join 0 g) d.timer.key) refl refl on still
