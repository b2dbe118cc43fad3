-- Join timers are no more than the records, downstream rows and sources that make them wanted; and so all facts are
-- counted.
use Rattle.std.{proofs.{Common.{◌≡◌, ◌∙◌, ℕ, ◌+◌, ◌≤◌, not, ◌&&◌, ◌||◌, Bool, true, false, List, ◌++◌, length, map, Option, is_some, option_map, refl, sym, ap, subst, arith, length-append}, Math.Nat.mul-add, lemmas.List.length-map}, specs.{Cmp.{first_so, second_so}, List.list_any, Option.option_map_or}}
use Rattle.pim_types.{specs.{Keys.{same_key, source_key, star_key}, declared.fact.{GroupRecordRow.GroupRecordRow, Key.Key, RegisterRow.RegisterRow, SourceRow.SourceRow}}, proofs.Keys.{equal_keys, same_key_same}}
use Rattle.pim_model.{specs.{Desires.{is_immediate_empty, join_desired, join_desired_star}, Downstream.is_named, Receivers.{is_exclude, is_exclude_among, local_receiver_include, local_receiver_include_among}, Sets.{immediate_olist, immediate_olist_star, is_empty, is_kept_alive, is_register_join, joins, joins_star, lost_assert, lost_assert_star, pim_include, pim_include_star, serves, serves_star, tunnel}, State.{State, ifaces, opening}, Step.state_after, Tables.{has_row, keys_in, row_at}}}
use Rattle.law_settled.{proofs.{ListLaws.{any_among_all, any_more, each_more, each_of_all, each_of_list, either, list_of_each}, TableLaws.any_of_map, RisingKeys.up_of_sorted}}
use Rattle.law_streams.{specs.{Bounded.counted_beside_asserts, Uncounted.{AllStayBounded, EachJoinIsWanted, JoinTimersStayBounded, LiesUnder}}, proofs.{Bounded.run_stays_within, Counting.in_keys, Covered.{named_left, named_right}, Few.counted_stay_bounded, KeyedEvents.row_under, LiesUnder.{Holds, lies_under, run_holds}, Shorter.{no_more_keys, uncounted_stay_bounded}, Wanted.Wanted, WantedRuns.run_wanted}}

-- ---- the keys that make something wanted

-- of the whole router
abbrev at_zero : Key → Key
at_zero k = record k { iface = record { number = 0 } }

abbrev causes : State → List Key
causes s = map at_zero (keys_in s.group_records ++ (keys_in s.source_records ++ (keys_in s.downstream ++ keys_in s.sources)))

causes_long : (s : State)
    → length (causes s) ≡ length s.group_records + length s.source_records + length s.downstream + length s.sources
unfolding keys_in
causes_long s = grind (arith, length-map, length-append)

module _ (s : State) where
  at_zero_named : (k : Key) (ks : List Key) → is_named ks k ≡ true → is_named (map at_zero ks) (at_zero k) ≡ true
  unfolding is_named
  at_zero_named k ks e =
      any_of_map (same_key (at_zero k)) at_zero ks
      ∙ any_more (same_key k) (λ q. same_key (at_zero k) (at_zero q))
      (λ q h. subst (λ (p : Key). same_key (at_zero k) (at_zero p) ≡ true) (equal_keys k q h) (same_key_same (at_zero k))) ks e

  by_group : (k : Key) → has_row s.group_records k ≡ true → is_named (causes s) (at_zero k) ≡ true
  by_group k e = at_zero_named k _ (named_left (keys_in s.group_records) _ k (sym (in_keys s.group_records k) ∙ e))

  by_member : (k : Key) → has_row s.source_records k ≡ true → is_named (causes s) (at_zero k) ≡ true
  by_member k e = grind (arith, at_zero_named, named_right, named_left, in_keys)

  by_downstream : (k : Key) → has_row s.downstream k ≡ true → is_named (causes s) (at_zero k) ≡ true
  by_downstream k e = grind (arith, at_zero_named, named_right, named_left, in_keys)

  by_source : (k : Key) → has_row s.sources k ≡ true → is_named (causes s) (at_zero k) ≡ true
  by_source k e = grind (arith, at_zero_named, named_right, in_keys)

  -- ---- (*,G)

  mode_there : {R : Type 0} (test : R → Bool) (o : Option R) → option_map_or test o false ≡ true → is_some o ≡ true
  mode_there test o e = grind arith

  listed_star : (g i : ℕ) → immediate_olist_star s g i ≡ true → is_named (causes s) (star_key 0 g) ≡ true
  unfolding immediate_olist_star joins_star pim_include_star is_exclude is_exclude_among has_row
  listed_star g i e =
      either (joins_star s g i) (pim_include_star s g i) (λ h. by_downstream (star_key i g) h)
      (λ h. by_group (star_key i g) (mode_there (λ (r : GroupRecordRow). is_some r.end) (row_at s.group_records (star_key i g)) (second_so (serves_star s g i) _ h)))
      (first_so (joins_star s g i || pim_include_star s g i) (not (lost_assert_star s g i)) e)

  -- where a set isn't empty it has a member
  member_of : {C : Type 0} (p : ℕ → Bool) → ((i : ℕ) → p i ≡ true → C) → not (is_empty s p) ≡ true → C
  unfolding is_empty
  member_of p done e =
      any_among_all (λ i. Unit {0}) p (λ i f h. done i h) (ifaces s) (each_of_all (λ i. Unit {0}) (λ i. tt) (ifaces s)) (twice (list_any p (ifaces s)) e)
    where
      twice : (b : Bool) → not (not b) ≡ true → b ≡ true
      twice true h = refl
      twice false h = cc

  wanted_star : (g : ℕ) → join_desired_star s g ≡ true → is_named (causes s) (star_key 0 g) ≡ true
  unfolding join_desired_star
  wanted_star g e = member_of (immediate_olist_star s g) (listed_star g) e

  -- ---- (S,G)

  listed : (g src i : ℕ) → immediate_olist s g src i ≡ true → is_named (causes s) (source_key 0 g src) ≡ true
  unfolding immediate_olist joins pim_include local_receiver_include local_receiver_include_among has_row
  listed g src i e =
      either (joins s g src i) (pim_include s g src i) (λ h. by_downstream (source_key i g src) h)
      (λ h. by_member (source_key i g src) (second_so _ _ (second_so (serves s g src i) _ h)))
      (first_so (joins s g src i || pim_include s g src i) (not (lost_assert s g src i)) e)

  alive_source : (g src : ℕ) → is_kept_alive s g src ≡ true → is_named (causes s) (source_key 0 g src) ≡ true
  unfolding is_kept_alive has_row
  alive_source g src e =
      by_source (source_key 0 g src) (mode_there (λ (r : SourceRow). is_some r.keepalive) (row_at s.sources (source_key 0 g src)) e)

  module _ (under : LiesUnder s) where
    state_there : (o : Option RegisterRow) → is_register_join (option_map (λ (r : RegisterRow). r.state) o) ≡ true → is_some o ≡ true
    state_there o e = grind arith

    registered : (g src : ℕ) → tunnel s g src ≡ true → is_named (causes s) (source_key 0 g src) ≡ true
    unfolding tunnel has_row
    registered g src e =
        by_source (source_key 0 g src)
        (row_under (λ k. has_row s.sources k ≡ true) s.registers (source_key 0 g src) (state_there (row_at s.registers (source_key 0 g src)) e)
        (each_of_list (λ (x : Key × RegisterRow). has_row s.sources x.0) s.registers under.registers))

    immediate : (g src : ℕ) → not (is_immediate_empty s g src) ≡ true → is_named (causes s) (source_key 0 g src) ≡ true
    unfolding is_immediate_empty
    immediate g src e = go (tunnel s g src) refl (is_empty s (immediate_olist s g src)) refl e
      where
        go : (b : Bool) → tunnel s g src ≡ b → (c : Bool) → is_empty s (immediate_olist s g src) ≡ c → not (c && not b) ≡ true
            → is_named (causes s) (source_key 0 g src) ≡ true
        go true is c empty h = registered g src is
        go false is true empty h = cc
        go false is false empty h = member_of (immediate_olist s g src) (listed g src) (ap not empty)

    wanted_source : (g src : ℕ) → join_desired s g src ≡ true → is_named (causes s) (source_key 0 g src) ≡ true
    unfolding join_desired
    wanted_source g src e = grind (arith, either, immediate, alive_source)

    caused : (k : Key) → Wanted s k → is_named (causes s) k ≡ true
    caused k f = grind (arith, wanted_star, wanted_source)

-- ---- after any events

pub join_timers_stay_bounded : JoinTimersStayBounded
join_timers_stay_bounded c events e =
    let t : State = state_after (opening c) events in
    let holds : Holds (length c.interfaces) t = run_holds c events e in
    let under : LiesUnder t = lies_under (length c.interfaces) t holds in
    let few : length t.join_timers ≤ length (causes t) =
    no_more_keys t.join_timers (causes t) (up_of_sorted t.join_timers holds.settled.ordered.join_timers)
    (each_more (λ x. Wanted t x.0) (λ x. is_named (causes t) x.0 ≡ true) (λ x h. caused t under x.0 h) t.join_timers (run_wanted c events)) in
    let long = causes_long t in
    let le : counted_beside_asserts t ≤ c.limit = run_stays_within c events e in
    omega (arith, few, long, le)

pub each_join_is_wanted : EachJoinIsWanted
each_join_is_wanted c events e = grind (arith, list_of_each, each_more, run_wanted)

pub all_stay_bounded : AllStayBounded
all_stay_bounded c events e =
    grind (arith, counted_stay_bounded, uncounted_stay_bounded, join_timers_stay_bounded, mul-add)
