-- No event's own change has the Join timer of what is joined end later, but another router's Join to the same neighbour.
use Rattle.std.{proofs.{Common.{◌≡◌, ◌∙◌, ℕ, ◌==◌, nat_lt, ◌&&◌, ◌||◌, not, min, Bool, true, false, cond, List, [], ◌∷◌, filter, fold, map, Option, Some, None, refl, sym, ap, subst, arith, eq-eqb, eqb-true}, lemmas.Bool.{both_ways, false_from_ne_true, Decides.nat_tests}}, specs.List.list_any}
use Rattle.pim_types.{specs.{Keys.{group_in, rpt_key, same_key, source_in, source_key, star_key}, declared.{config.IfaceId.IfaceId, fact.{JoinTimerRow.JoinTimerRow, Key.Key}, path.Hop.Hop}}, proofs.Keys.{equal_keys, same_key_same}}
use Rattle.pim_wire.{specs.{Values.{Encapsulated, JoinPrune, Null}, declared.{hello.Hello.Hello as HelloValue, join_prune.EntryKind.EntryKind}}}
use Rattle.pim_model.{specs.{declared.accepted.Accepted.Accepted, Asserts.assert_received, Desires.{rpf_source, rpf_star}, Downstream.{Named, accepted_joins, accepted_prunes, is_named, joined_keys, key_by, keys_taken, named_key, to_me}, Forwarding.source_here, Hellos.{hello_received, hello_triggered, neighbour_replaced, neighbour_restarted}, Neighbours.is_neighbour, Querier.{querier_up, query_seen, querying, report_seen}, Registers.{register_stop_seen, settle_register, with_keepalive}, Seen.{cancel_override_timer, is_star_entry, join_seen, lower_join_timer, lower_override_timer, lowered_row, override_end, lower_source_timer, lower_star_timer, lower_tree_timer, prune_seen, raise_join_timer, seen, sources_joined_towards}, State.State, Step.{change, iface_down, iface_up, rps_replaced}, Tables.{Table, hop_at, row_at, same_hop}}}
use Rattle.law_settled.{proofs.{ListLaws.by_cond, TurnLaws.kept_by_fold}}
use Rattle.law_streams.{specs.InTimeJoins.{Join, Source, Star, is_suppressed, join_key, rpf_of}, proofs.{Lasting.{Lasting, Whole, assert_whole, lasting, whole, data_whole, query_lasting, register_whole, report_lasting}, Rows.set_good, Tests.neither, InTimeTimers.{EndsBy, Towards, is_after, no_source, star_is}}}

-- ---- what an entry names

-- a key of the router's names the same next hop
star_hop : (x : Join) (s : State) (g m : ℕ) → same_key (join_key x 0 g) (star_key 0 m) ≡ true → rpf_star s m ≡ rpf_of x s g
star_hop (Star rp) s g m same = ap (rpf_star s) (sym (ap group_in (equal_keys (star_key 0 g) (star_key 0 m) same)))
star_hop (Source src) s g m same = absurd (star_is g m src same)

source_hop : (x : Join) (s : State) (g m a : ℕ) → same_key (join_key x 0 g) (source_key 0 m a) ≡ true
    → rpf_source s m a ≡ rpf_of x s g
source_hop (Star rp) s g m a same = absurd (no_source g m a same)
source_hop (Source src) s g m a same =
    let is : source_key 0 g src ≡ source_key 0 m a = equal_keys (source_key 0 g src) (source_key 0 m a) same in
    ap (λ (y : ℕ). rpf_source s y a) (sym (ap group_in is)) ∙ ap (rpf_source s g) (sym (ap source_in is))

-- an entry that names it on interface 0 names it on each
on_iface : (x : Join) (g i m a : ℕ) (kind : EntryKind) → same_key (join_key x 0 g) (key_by 0 m a kind) ≡ true
    → join_key x i g ≡ key_by i m a kind
on_iface x g i m a EntryKind.Star same =
    ap (λ (k : Key). record k { iface = record { number = i } }) (equal_keys (join_key x 0 g) (star_key 0 m) same)
on_iface x g i m a EntryKind.Source same =
    ap (λ (k : Key). record k { iface = record { number = i } }) (equal_keys (join_key x 0 g) (source_key 0 m a) same)
on_iface x g i m a EntryKind.SourceRpt same =
    ap (λ (k : Key). record k { iface = record { number = i } }) (equal_keys (join_key x 0 g) (rpt_key 0 m a) same)

apart_entry : (x : Join) (g i : ℕ) (n : Named) → same_key (join_key x i g) (named_key i n) ≡ false
    → same_key (join_key x 0 g) (named_key 0 n) ≡ false
apart_entry x g i n off = grind (arith, false_from_ne_true, both_ways, on_iface, same_key_same)

module _ (x : Join) (g b : ℕ) where
  abbrev q : Key
  q = join_key x 0 g

  abbrev By : State → Type 0
  By s = EndsBy x g b s

  pub by_table : (s t : State) → t.join_timers ≡ s.join_timers → By s → By t
  by_table s t e f = ap (λ (rows : Table JoinTimerRow). is_after b (row_at rows q)) e ∙ f

  eq_swapped : (x y : ℕ) → (x == y) ≡ (y == x)
  eq_swapped x y = grind (arith, both_ways, eq-eqb, eqb-true)

  both_swapped : (x y u v : ℕ) → ((x == y) && (u == v)) ≡ ((y == x) && (v == u))
  both_swapped x y u v = grind (arith, eq_swapped)

  -- ---- a timer that is lowered

  lower_is : (e n : ℕ) → nat_lt b e ≡ false → nat_lt b (min e n) ≡ false
  lower_is e n f = grind (arith, nat_tests, f)

  pub lowered_by : (s : State) (k : Key) (end : ℕ) → By s → By (lower_join_timer s k end)
  unfolding lower_join_timer
  lowered_by s k end f =
      set_good (is_after b) refl k q _ s.join_timers
      (λ same. go (row_at s.join_timers k)
      (subst (λ (j : Key). is_after b (row_at s.join_timers j) ≡ false) (equal_keys q k same) f)) f
    where
      go : (o : Option JoinTimerRow) → is_after b o ≡ false → is_after b (lowered_row end o) ≡ false
      go None e = e
      go (Some r) e = lower_is r.end end e

  raised_by : (s : State) (k : Key) (end : ℕ) → (same_key q k ≡ true → ⊥) → By s → By (raise_join_timer s k end)
  unfolding raise_join_timer
  raised_by s k end off f = set_good (is_after b) refl k q _ s.join_timers (λ same. absurd (off same)) f

  pub cancelled_by : (s : State) (k : Key) → By s → By (cancel_override_timer s k)
  unfolding cancel_override_timer
  cancelled_by s k f = f

  -- ---- a Hello

  -- rows that are lowered in their places
  mapped_by : (change : Key × JoinTimerRow → Key × JoinTimerRow) → ((e : Key × JoinTimerRow) → (change e).0 ≡ e.0)
      → ((e : Key × JoinTimerRow) → nat_lt b (e.1).end ≡ false → nat_lt b ((change e).1).end ≡ false)
      → (t : Table JoinTimerRow) → is_after b (row_at t q) ≡ false
      → is_after b (row_at (map change t) q) ≡ false
  unfolding row_at
  mapped_by change keys lowers [] f = f
  mapped_by change keys lowers (y ∷ ys) f = grind (arith, mapped_by change keys lowers ys, is_after)

  restarted_by : (o : State) (i address w : ℕ) (s : State) → By s → By (neighbour_restarted o i address w s)
  unfolding neighbour_restarted
  restarted_by o i address w s f = grind (arith, mapped_by, lower_is)

  module _ (s : State) (i address : ℕ) (h : HelloValue) (w : ℕ) where
    abbrev replaced : Bool → State
    replaced c = neighbour_replaced (cond (c || not (is_neighbour s i address)) (hello_triggered s i w) s) i address h

    replaced_same : (c : Bool) → (replaced c).join_timers ≡ s.join_timers
    unfolding neighbour_replaced hello_triggered
    replaced_same c = grind arith

    hello_by : By s → By (hello_received s i address h w)
    unfolding hello_received
    hello_by f = grind (arith, restarted_by, by_table, replaced_same)

  -- ---- a Join/Prune between other routers

  module _ (s : State) (w : ℕ) (hop : Hop) where
    abbrev towards_hop : Bool
    towards_hop = same_hop (rpf_of x s g) (Some hop)

    -- a Join of it to the next hop
    abbrev raises : Named → Bool
    raises n = same_key q (named_key 0 n) && towards_hop

    raised_if : (t : State) (k : Key) (end : ℕ) (c : Bool) → (same_key q k ≡ true → c ≡ false) → By t
        → By (cond c (raise_join_timer t k end) t)
    raised_if t k end c off f = grind (arith, by_cond, raised_by, both_ways)

    -- where the key is its own the next hop is another
    elsewhere : (k : Key) (o : Option Hop) → (same_key q k ≡ true → o ≡ rpf_of x s g) → (same_key q k && towards_hop) ≡ false
        → same_key q k ≡ true → same_hop o (Some hop) ≡ false
    elsewhere k o is off same = grind arith

    join_by : (holdtime : ℕ) (t : State) (n : Named) → raises n ≡ false → By t → By (join_seen s holdtime w hop t n)
    unfolding join_seen
    join_by holdtime t n off f = grind (arith, raised_if, elsewhere, star_hop, source_hop, by_cond, cancelled_by)

    joins_by : (holdtime : ℕ) (p : Named → Bool) (ns : List Named) (t : State) → list_any raises ns ≡ false → By t
        → By (fold (join_seen s holdtime w hop) t (filter p ns))
    joins_by holdtime p [] t off f = f
    joins_by holdtime p (n ∷ ns) t off f =
        let two = neither (raises n) (list_any raises ns) off in
        go (p n) (join_by holdtime t n two.first f) (λ u. joins_by holdtime p ns u two.second)
      where
        go : (c : Bool) → By (join_seen s holdtime w hop t n)
            → ((u : State) → By u → By (fold (join_seen s holdtime w hop) u (filter p ns)))
            → By (fold (join_seen s holdtime w hop) t (cond c (n ∷ filter p ns) (filter p ns)))
        go true first later = later (join_seen s holdtime w hop t n) first
        go false first later = later t f

  -- which entries would
  or_false : (x y : Bool) → x ≡ false → y ≡ false → (x || y) ≡ false
  or_false x y e f = grind arith

  left_false : (x y : Bool) → x ≡ false → (x && y) ≡ false
  left_false x y e = grind arith

  right_false : (x y : Bool) → y ≡ false → (x && y) ≡ false
  right_false x y e = grind arith

  module _ (s : State) (hop : Hop) (w i : ℕ) where
    abbrev to_the_hop : Bool
    to_the_hop = same_hop (rpf_of x s g) (Some hop)

    none_elsewhere : to_the_hop ≡ false → (ns : List Named) → list_any (raises s w hop) ns ≡ false
    none_elsewhere off [] = refl
    none_elsewhere off (n ∷ ns) = grind (arith, none_elsewhere off ns, or_false, right_false)

    none_named : (ns : List Named) → list_any (same_key (join_key x i g)) (map (named_key i) ns) ≡ false
        → list_any (raises s w hop) ns ≡ false
    none_named [] e = refl
    none_named (n ∷ ns) e =
        let two = neither (same_key (join_key x i g) (named_key i n)) _ e in
        or_false (raises s w hop n) (list_any (raises s w hop) ns)
        (left_false (same_key q (named_key 0 n)) to_the_hop (apart_entry x g i n two.first)) (none_named ns two.second)

    none_raises : (ns : List Named) → (to_the_hop && is_named (map (named_key i) ns) (join_key x i g)) ≡ false
        → list_any (raises s w hop) ns ≡ false
    unfolding is_named
    none_raises ns e = grind (arith, none_named, none_elsewhere)

  -- ---- its prunes

  module _ (s : State) (w : ℕ) (hop : Hop) where
    source_by : (n src : ℕ) (t : State) → By t → By (lower_source_timer s w hop n src t)
    source_by n src t f = by_cond By _ _ t (lowered_by t (source_key 0 n src) (override_end s hop.iface.number w) f) f

    star_by : (n : ℕ) (t : State) → By t → By (lower_star_timer s w hop n t)
    star_by n t f = by_cond By _ _ t (lowered_by t (star_key 0 n) (override_end s hop.iface.number w) f) f

    tree_by : (n src : ℕ) (t : State) → By t → By (lower_tree_timer s w hop n src t)
    unfolding lower_override_timer
    tree_by n src t f = by_cond By _ _ t f f

    pub prune_by : (t : State) (n : Named) → By t → By (prune_seen s w hop t n)
    unfolding prune_seen
    prune_by t n f = go (n.1).kind (n.1).address.bits
      where
        go : (kind : EntryKind) (src : ℕ) → By (elim kind [
          | EntryKind.Star ↦
              fold (λ u x. lower_source_timer s w hop n.0 x u) (lower_star_timer s w hop n.0 t) (sources_joined_towards s hop n.0)
          | EntryKind.Source ↦ lower_tree_timer s w hop n.0 src (lower_source_timer s w hop n.0 src t)
          | EntryKind.SourceRpt ↦ lower_tree_timer s w hop n.0 src (lower_source_timer s w hop n.0 src t)
        ])
        go EntryKind.Star src =
            kept_by_fold (λ u x. lower_source_timer s w hop n.0 x u) By (λ u x h. source_by n.0 x u h)
            (sources_joined_towards s hop n.0) (lower_star_timer s w hop n.0 t) (star_by n.0 t f)
        go EntryKind.Source src = tree_by n.0 src _ (source_by n.0 src t f)
        go EntryKind.SourceRpt src = tree_by n.0 src _ (source_by n.0 src t f)

  pub seen_by : (s : State) (w i : ℕ) (m : JoinPrune)
      → (same_hop (rpf_of x s g) (Some (hop_at i m.upstream)) && is_named (joined_keys s i m) (join_key x i g)) ≡ false
      → By s → By (seen s w i m)
  unfolding seen joined_keys
  seen_by s w i m off f =
      let hop : Hop = hop_at i m.upstream in
      let none : list_any (raises s w hop) (accepted_joins s m) ≡ false = none_raises s hop w i (accepted_joins s m) off in
      kept_by_fold (prune_seen s w hop) By (prune_by s w hop) (accepted_prunes m) _
      (joins_by s w hop m.holdtime (λ n. not (is_star_entry n)) (accepted_joins s m) _ none
      (joins_by s w hop m.holdtime is_star_entry (accepted_joins s m) s none f))

  -- ---- every event

  module _ (s : State) (w : ℕ) (hop : Hop) (towards : Towards x g hop s) (f : By s) where
    seen_if : (i : IfaceId) (m : JoinPrune) → is_suppressed x s g hop (Some (Accepted.JoinPruneSeen i m)) ≡ false
        → By (seen s w i.number m)
    seen_if i m off = seen_by s w i.number m (rw towards.upstream (turned off)) f
      where
        turned : is_suppressed x s g hop (Some (Accepted.JoinPruneSeen i m)) ≡ false
            → (same_hop (Some hop) (Some (hop_at i.number m.upstream)) && is_named (joined_keys s i.number m) (join_key x i.number g)) ≡ false
        turned e =
            ap (λ (c : Bool). c && is_named (joined_keys s i.number m) (join_key x i.number g))
            (both_swapped hop.iface.number i.number hop.address.bits m.upstream) ∙ e

  module _ (s : State) (w : ℕ) (f : By s) where
    by_lasting : (t : State) → lasting t ≡ lasting s → By t
    by_lasting t e = by_table s t (ap (λ (u : Lasting). u.join_timers) e) f

    by_whole : (t : State) → whole t ≡ whole s → By t
    by_whole t e = by_lasting t (ap (λ (u : Whole). u.lasting) e)

    from_here : (n src iif : ℕ) → (source_here s n src iif).join_timers ≡ s.join_timers
    unfolding source_here settle_register with_keepalive
    from_here n src iif = grind arith

    -- a Join/Prune between other routers aside
    pub unless_seen : (a : Accepted) → ((i : IfaceId) (m : JoinPrune) → a ≡ Accepted.JoinPruneSeen i m → By (seen s w i.number m))
        → By (change s w a).state
    unfolding change iface_up querier_up querying iface_down rps_replaced to_me keys_taken register_stop_seen
    unless_seen (Accepted.Advance moment) e = f
    unless_seen (Accepted.Up i) e = f
    unless_seen (Accepted.Down i) e = f
    unless_seen (Accepted.Routes routes) e = f
    unless_seen (Accepted.Rps ranges) e = f
    unless_seen (Accepted.Hello i from h) e = hello_by s i.number from.bits h w f
    unless_seen (Accepted.JoinPruneToMe i m) e = f
    unless_seen (Accepted.JoinPruneSeen i m) e = e i m refl
    unless_seen (Accepted.Assert i from a) e = by_whole (assert_received s i.number from.bits a).0 (assert_whole s i.number from.bits a)
    unless_seen (Accepted.Query i from q) e = by_lasting (query_seen s i.number from.bits q) (query_lasting s i.number from.bits q)
    unless_seen (Accepted.Report i records) e = by_lasting (report_seen s i.number records).0 (report_lasting s i.number records)
    unless_seen (Accepted.Data i p) e = grind (arith, by_table, lasting, data_whole, from_here)
    unless_seen (Accepted.Register p (Encapsulated inner)) e = grind (arith, by_whole, register_whole)
    unless_seen (Accepted.Register p (Null source group)) e = grind (arith, by_whole, register_whole)
    unless_seen (Accepted.RegisterStop from r) e = f

  pub change_by : (s : State) (w : ℕ) (hop : Hop) → Towards x g hop s → By s → (a : Accepted)
      → is_suppressed x s g hop (Some a) ≡ false → By (change s w a).state
  change_by s w hop towards f a e =
      unless_seen s w f a (λ i m is. seen_if s w hop towards f i m (subst (λ (b : Accepted). is_suppressed x s g hop (Some b) ≡ false) is e))
