-- What an event's own change makes of the keys of asserts, of what makes them possible, and of sources: the only new
-- ones are those that it names.
use Rattle.std.{proofs.Common.{arith, ◌≡◌, ℕ, ◌<◌, ◌==◌, Bool, true, false, cond, List, [], Some}, specs.Option.option_map_or}
use Rattle.pim_ip.{specs.Ipv4.Packet}
use Rattle.pim_types.{specs.{Keys.{group_in, is_star, same_key, source_in, source_key, star_key}, declared.fact.{AssertMetric.AssertMetric, AssertRow.AssertRow, GroupRecordRow.GroupRecordRow, Key.Key}}}
use Rattle.pim_wire.{specs.declared.{assert.Assert.Assert as AssertMessage, hello.Hello.Hello as HelloValue}}
use Rattle.igmp_wire.{specs.Values.Query as QueryValue}
use Rattle.pim_model.{specs.{AssertMacros.{could_assert, could_assert_star, is_infinite}, Asserts.{assert_as_loser, assert_as_winner, assert_at, assert_forgotten, assert_in_no_info, assert_received, could_assert_at, data_seen, loses, loses_first, theirs_of, wins, wins_again, with_spt_bit}, Forwarding.{Forwarded, forwarded, list_chosen, register_at_rp, register_received, source_here, source_joined, spt_updated, stray, watched, when}, Hellos.{hello_received, hello_triggered, neighbour_replaced, neighbour_restarted}, Messages.Message, Querier.{lower_group, lower_queried, lower_sources, querier_elected, query_seen}, Receivers.{is_exclude, is_exclude_among}, Registers.{settle_register, with_keepalive}, Sets.{is_winner, joins_star, pim_include_star, spt_bit}, State.State, Step.iface_down, Tables.{Table, has_row, row_at}, Unicast.is_rp}}
use Rattle.law_settled.{proofs.{ListLaws.{by_cond, each_filter, each_map, either}, TableLaws.row_of_each}}
use Rattle.law_streams.{proofs.Keyed.{Kept, Under, kept_asserts, kept_groups, kept_sources, under_at, under_changed, under_put, under_where}}

-- ---- rows that are there

module _ (P : Key → Type 0) {R : Type 0} where
  pub row_under : (t : Table R) (k : Key) → has_row t k ≡ true → Under P t → P k
  unfolding has_row
  row_under t k e f = grind (arith, row_of_each)

  passing_under : (test : R → Bool) (t : Table R) (k : Key) → option_map_or test (row_at t k) false ≡ true → Under P t → P k
  passing_under test t k e f = grind (arith, row_of_each)

module _ (P Q : Key → Type 0) (n : ℕ)
    (spread : (g src : ℕ) → Q (source_key 0 g src) → (i : ℕ) → i < n → P (source_key i g src)) where
  -- where the router could assert, the key is one of these already
  could_source : (s : State) (g src i : ℕ) → i < n → Kept P Q s → could_assert s g src i ≡ true → P (source_key i g src)
  unfolding could_assert spt_bit
  could_source s g src i lt f e = grind (arith, passing_under)

  could_star : (s : State) (g i : ℕ) → Kept P Q s → could_assert_star s g i ≡ true → P (star_key i g)
  unfolding could_assert_star joins_star pim_include_star is_exclude is_exclude_among
  could_star s g i f e = grind (arith, either, row_under, passing_under)

  wins_kept : (s : State) (k : Key) → P k → Kept P Q s → Kept P Q (wins s k).0
  unfolding wins
  wins_kept s k p f = kept_asserts P Q s _ (under_put P s.asserts k _ p f.asserts) f

  -- ---- data

  module _ (g src iif : ℕ) (lt : iif < n) (q : Q (source_key 0 g src)) where
    keepalive_kept : (s : State) → Kept P Q s → Kept P Q (with_keepalive s g src)
    unfolding with_keepalive
    keepalive_kept s f = kept_sources P Q s _ (under_put Q s.sources (source_key 0 g src) _ q f.sources) f

    spt_kept : (s : State) → Kept P Q s → Kept P Q (with_spt_bit s g src)
    unfolding with_spt_bit
    spt_kept s f = kept_sources P Q s _ (under_put Q s.sources (source_key 0 g src) _ q f.sources) f

    when_kept : (b : Bool) (change : State → State) (s : State) → (Kept P Q s → Kept P Q (change s)) → Kept P Q s
        → Kept P Q (when b change s)
    when_kept b change s f h = grind arith

    here_kept : (s : State) → Kept P Q s → Kept P Q (source_here s g src iif)
    unfolding source_here settle_register
    here_kept s f = by_cond (Kept P Q) _ _ s (keepalive_kept s f) f

    joined_kept : (s : State) → Kept P Q s → Kept P Q (source_joined s g src iif)
    unfolding source_joined
    joined_kept s f = when_kept _ (λ u. with_keepalive u g src) s (keepalive_kept s) f

    updated_kept : (s : State) → Kept P Q s → Kept P Q (spt_updated s g src iif)
    unfolding spt_updated
    updated_kept s f = when_kept _ (λ u. with_spt_bit u g src) s (spt_kept s) f

    watched_kept : (s : State) → Kept P Q s → Kept P Q (watched s g src)
    unfolding watched
    watched_kept s f = when_kept _ (λ u. with_keepalive u g src) s (keepalive_kept s) f

    seen_kept : (s : State) (k : Key) → (could_assert_at s k ≡ true → P k) → Kept P Q s → Kept P Q (data_seen s k).0
    unfolding data_seen
    seen_kept s k could f = grind (arith, wins_kept)

    stray_key : (s : State) (b : Bool) → Kept P Q s
        → could_assert_at s (cond b (source_key iif g src) (star_key iif g)) ≡ true
        → P (cond b (source_key iif g src) (star_key iif g))
    stray_key s b f e = grind (arith, could_source, could_star)

    stray_kept : (s : State) → Kept P Q s → Kept P Q (stray s g src iif).state
    unfolding stray
    stray_kept s f = grind (arith, by_cond, seen_kept, stray_key)

    chosen_kept : (s : State) → Kept P Q s → Kept P Q (list_chosen s g src iif).state
    unfolding list_chosen
    chosen_kept s f = grind (arith, by_cond, watched_kept, stray_kept)

    pub forwarded_kept : (s : State) → Kept P Q s → Kept P Q (forwarded s g src iif).state
    unfolding forwarded
    forwarded_kept s f = chosen_kept _ (updated_kept _ (joined_kept _ (here_kept s f)))

  -- ---- an Assert

  loses_kept : (s : State) (k : Key) (theirs : AssertMetric) → P k → Kept P Q s → Kept P Q (loses s k theirs)
  unfolding loses
  loses_kept s k theirs p f = kept_asserts P Q s _ (under_put P s.asserts k _ p f.asserts) f

  moved_kept : (s : State) (g src : ℕ) → Q (source_key 0 g src) → Kept P Q s → Kept P Q (with_spt_bit s g src)
  unfolding with_spt_bit
  moved_kept s g src q f = kept_sources P Q s _ (under_put Q s.sources (source_key 0 g src) _ q f.sources) f

  forgotten_kept : (s : State) (k : Key) → Kept P Q s → Kept P Q (assert_forgotten s k)
  unfolding assert_forgotten
  forgotten_kept s k f = kept_asserts P Q s _ (under_at P k s.asserts f.asserts) f

  again_kept : (s : State) (k : Key) (r : AssertRow) → Kept P Q s → Kept P Q (wins_again s k r).0
  unfolding wins_again
  again_kept s k r f = kept_asserts P Q s _ (under_changed P _ k s.asserts f.asserts) f

  -- what an Assert names at a key: the key where its metric isn't infinite, and its source where there is no assert yet
  record NamesAt (s : State) (k : Key) (theirs : AssertMetric) : Type 0 where
    could : could_assert_at s k ≡ true → P k
    finite : is_infinite theirs ≡ false → P k
    source : is_star k ≡ false → has_row s.asserts k ≡ false → is_infinite theirs ≡ false
        → Q (source_key 0 (group_in k) (source_in k))

  lost_kept : (s : State) (k : Key) (theirs : AssertMetric) → P k
      → (is_star k ≡ false → Q (source_key 0 (group_in k) (source_in k))) → Kept P Q s → Kept P Q (loses_first s k theirs)
  unfolding loses_first
  lost_kept s k theirs p q f = grind (arith, loses_kept, moved_kept)

  no_info_kept : (s : State) (k : Key) (theirs : AssertMetric) → NamesAt s k theirs → has_row s.asserts k ≡ false → Kept P Q s
      → Kept P Q (assert_in_no_info s k theirs).0
  unfolding assert_in_no_info
  no_info_kept s k theirs names none f = grind (arith, wins_kept, lost_kept)

  row_kept : (s : State) (k : Key) (r : AssertRow) (theirs : AssertMetric) → P k → Kept P Q s
      → Kept P Q (let p : State × List Message = cond (is_winner (Some r)) (assert_as_winner s k r theirs) (assert_as_loser s k r theirs, []) in p.0)
  unfolding assert_as_winner assert_as_loser
  row_kept s k r theirs p f = grind (arith, by_cond, loses_kept, again_kept, forgotten_kept)

  at_kept : (s : State) (k : Key) (theirs : AssertMetric) → NamesAt s k theirs → Kept P Q s → Kept P Q (assert_at s k theirs).0
  unfolding assert_at has_row
  at_kept s k theirs names f = grind (arith, no_info_kept, row_kept, row_of_each)

  -- what a whole Assert names
  pub record NamesAssert (s : State) (i : ℕ) (a : AssertMessage) : Type 0 where
    pub here : i < n
    pub source : (a.source.bits == 0) ≡ false → is_infinite (theirs_of a 0) ≡ false → P (source_key i a.group.bits a.source.bits)
    pub moved : (a.source.bits == 0) ≡ false → has_row s.asserts (source_key i a.group.bits a.source.bits) ≡ false
        → is_infinite (theirs_of a 0) ≡ false → Q (source_key 0 a.group.bits a.source.bits)
    pub star : a.rpt ≡ true → is_infinite (theirs_of a 0) ≡ false → P (star_key i a.group.bits)

  pub received_kept : (s : State) (i from : ℕ) (a : AssertMessage) → NamesAssert s i a → Kept P Q s
      → Kept P Q (assert_received s i from a).0
  unfolding assert_received is_infinite
  received_kept s i from a names f = grind (arith, at_kept, could_source, could_star)

-- ---- the other events

module _ (P Q : Key → Type 0) where
  alive_kept : (s : State) (g src : ℕ) → Q (source_key 0 g src) → Kept P Q s → Kept P Q (with_keepalive s g src)
  unfolding with_keepalive
  alive_kept s g src q f = kept_sources P Q s _ (under_put Q s.sources (source_key 0 g src) _ q f.sources) f

  when_alive : (b : Bool) (s : State) (g src : ℕ) → Q (source_key 0 g src) → Kept P Q s
      → Kept P Q (when b (λ t. with_keepalive t g src) s)
  when_alive b s g src q f = grind (arith, alive_kept)

  if_rp : (b : Bool) (x y : Forwarded) → (b ≡ true → Kept P Q x.state) → Kept P Q y.state → Kept P Q (cond b x y).state
  if_rp b x y f g = grind arith

  pub register_kept : (s : State) (p : Packet) (g src : ℕ) (is_null : Bool)
      → (is_rp s g p.destination ≡ true → Q (source_key 0 g src)) → Kept P Q s → Kept P Q (register_received s p g src is_null).state
  unfolding register_received register_at_rp
  register_kept s p g src is_null q f = grind (arith, if_rp, when_alive)

  lowered_kept : (s : State) (i g end : ℕ) → Kept P Q s → Kept P Q (lower_group s i g end)
  unfolding lower_group
  lowered_kept s i g end f =
      kept_groups P Q s _
      (each_map (λ e. P e.0) (λ e. P e.0) _
      (λ e p. by_cond (λ (x : Key × GroupRecordRow). P x.0) (same_key (star_key i g) e.0) _ e p p) s.group_records f.groups) f

  queried_kept : (s : State) (i : ℕ) (q : QueryValue) → Kept P Q s → Kept P Q (lower_queried s i q)
  unfolding lower_queried lower_sources
  queried_kept s i q f = grind (arith, by_cond, lowered_kept)

  pub query_kept : (s : State) (i from : ℕ) (q : QueryValue) → Kept P Q s → Kept P Q (query_seen s i from q)
  unfolding query_seen querier_elected
  query_kept s i from q f = grind (arith, queried_kept)

  pub hello_kept : (s : State) (i address : ℕ) (h : HelloValue) (w : ℕ) → Kept P Q s → Kept P Q (hello_received s i address h w)
  unfolding hello_received hello_triggered neighbour_replaced neighbour_restarted
  hello_kept s i address h w f = grind (arith, kept_asserts, each_filter)

  pub down_kept : (s : State) (i : ℕ) → Kept P Q s → Kept P Q (iface_down s i)
  unfolding iface_down
  down_kept s i f = grind (arith, under_where)
