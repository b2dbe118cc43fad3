-- A Join/Prune to another router makes facts of no source but those that it prunes.
use Rattle.std.{proofs.{Common.{◌≡◌, ℕ, Bool, true, false, cond, List, [], ◌∷◌, ◌&&◌, ◌||◌, ◌==◌, filter, fold, map, min, not, Option, Some, None, is_none, is_some, refl, subst, sym, ◌∙◌}, lemmas.Bool.{or_left, or_right}}, specs.{List.list_any, Option.option_map_or}}
use Rattle.pim_ip.{specs.declared.addr.Addr.Addr}
use Rattle.pim_types.{specs.{declared.{fact.{Key.Key, OverrideTimerRow.OverrideTimerRow}, path.Hop.Hop}, Keys.{group_in, is_star, names_source, rpt_key, source_in, source_key, star_key}}}
use Rattle.pim_wire.{specs.{Values.JoinPrune, declared.join_prune.EntryKind.EntryKind}}
use Rattle.pim_model.{specs.{Desires.{rpf_source, rpf_star}, Downstream.{Named, accepted_joins, accepted_prunes, key_by, named_key, pruned_keys}, Seen.{cancel_override_timer, is_star_entry, is_unpruned_towards, join_seen, lower_join_timer, lower_override_timer, lower_source_timer, lower_star_timer, lower_tree_timer, lowered_row, override_end, prune_seen, raise_join_timer, raised_row, seen, sources_joined_towards, suppressed_end}, State.State, Tables.{Table, hop_at, keys_in, put, row_at, same_hop, set_row}, Upstream.fact_keys}}
use Rattle.law_settled.{proofs.{FewerFacts.{IsFewer, KeysFewer, fewer_both, fewer_so, no_other, row_without, table_fewer}, ListLaws.{any_more, either}, Parts.{JoinTimers, OverrideTimers}, TableLaws.{any_in_filter, any_of_map, row_is_there}}}
use Rattle.pim_views.{specs.Covers.NewAreNamed}
use Rattle.pim_plan.{proofs.Growing.{FactsGrow, facts_grow, fewer_grow, grows_on, one_more, stays}}

-- ---- a row that is changed where there is one

module _ {R : Type 0} (k : Key) (t : Table R) where
  set_there : (r : R) → row_at t k ≡ Some r → (o : Option R) → KeysFewer t (set_row t k o)
  unfolding set_row keys_in
  set_there r is None p e = row_without k t p e
  set_there r is (Some row) p e =
      either (list_any p (keys_in t)) (p k) (λ f. f)
      (λ f. any_of_map p (λ (x : Key × R). x.0) t ∙ row_is_there (λ x. p x.0) k t r f is)
      (one_more p k (Some row) t e)

  changed_there : (f : Option R → Option R) → f None ≡ None → KeysFewer t (set_row t k (f (row_at t k)))
  unfolding set_row
  changed_there f none = go (row_at t k) refl
    where
      go : (o : Option R) → row_at t k ≡ o → KeysFewer t (set_row t k (f o))
      go None is = subst (λ (o : Option R). KeysFewer t (set_row t k o)) (sym none) (row_without k t)
      go (Some r) is = set_there r is (f (Some r))

raised : (s : State) (k : Key) (end : ℕ) → IsFewer s (raise_join_timer s k end)
unfolding raise_join_timer
raised s k end = table_fewer JoinTimers s _ (changed_there k s.join_timers (raised_row end) refl)

lowered : (s : State) (k : Key) (end : ℕ) → IsFewer s (lower_join_timer s k end)
unfolding lower_join_timer
lowered s k end = table_fewer JoinTimers s _ (changed_there k s.join_timers (lowered_row end) refl)

cancelled : (s : State) (k : Key) → IsFewer s (cancel_override_timer s k)
unfolding cancel_override_timer
cancelled s k = table_fewer OverrideTimers s _ (row_without k s.override_timers)

same_facts : (s : State) → IsFewer s s
same_facts s = no_other s s refl

if_fewer : (s : State) (b : Bool) (t : State) → IsFewer s t → IsFewer s (cond b t s)
if_fewer s b t f = fewer_so b s t s f (same_facts s)

each_fewer : {A : Type 0} (change : State → A → State) → ((s : State) (a : A) → IsFewer s (change s a))
    → (xs : List A) (s : State) → IsFewer s (fold change s xs)
each_fewer change f [] s = same_facts s
each_fewer change f (x ∷ xs) s =
    fewer_both s (change s x) (fold change (change s x) xs) (f s x) (each_fewer change f xs (change s x))

module _ (o : State) (w : ℕ) (hop : Hop) where
  -- ---- Joins

  join_fewer : (holdtime : ℕ) (s : State) (n : Named) → IsFewer s (join_seen o holdtime w hop s n)
  unfolding join_seen
  join_fewer holdtime s n = go (n.1).kind
    where
      go : (kind : EntryKind) → (let g : ℕ = n.0 in let address : ℕ = (n.1).address.bits in
          let end : ℕ = suppressed_end o hop.iface.number w holdtime in
          let after : State = elim kind [
            | EntryKind.Star ↦ cond (same_hop (rpf_star o g) (Some hop)) (raise_join_timer s (star_key 0 g) end) s
            | EntryKind.Source ↦ cond (same_hop (rpf_source o g address) (Some hop))
                (raise_join_timer s (source_key 0 g address) end) s
            | EntryKind.SourceRpt ↦ cond (is_unpruned_towards o hop g address)
                (cancel_override_timer s (rpt_key 0 g address)) s
          ] in IsFewer s after)
      go EntryKind.Star = if_fewer s _ _ (raised s (star_key 0 n.0) (suppressed_end o hop.iface.number w holdtime))
      go EntryKind.Source =
          if_fewer s _ _ (raised s (source_key 0 n.0 (n.1).address.bits) (suppressed_end o hop.iface.number w holdtime))
      go EntryKind.SourceRpt = if_fewer s _ _ (cancelled s (rpt_key 0 n.0 (n.1).address.bits))

  -- ---- Prunes

  source_fewer : (g src : ℕ) (s : State) → IsFewer s (lower_source_timer o w hop g src s)
  source_fewer g src s = if_fewer s _ _ (lowered s (source_key 0 g src) (override_end o hop.iface.number w))

  star_fewer : (g : ℕ) (s : State) → IsFewer s (lower_star_timer o w hop g s)
  star_fewer g s = if_fewer s _ _ (lowered s (star_key 0 g) (override_end o hop.iface.number w))

  module _ (p : Key → Bool) where
    override_grows : (s : State) (k : Key) (end : ℕ) → FactsGrow p (p k) s (lower_override_timer s k end)
    unfolding lower_override_timer set_row
    override_grows s k end =
        let row : OverrideTimerRow =
        record { end = option_map_or (λ (r : OverrideTimerRow). min r.end end) (row_at s.override_timers k) end } in
        facts_grow p (p k) s s.downstream s.asserts s.join_timers (put s.override_timers k row) s.sources
        (stays p (p k) (keys_in s.downstream)) (stays p (p k) (keys_in s.asserts))
        (stays p (p k) (keys_in s.join_timers)) (one_more p k (Some row) s.override_timers)
        (stays p (p k) (keys_in s.sources))

    tree_grows : (g src : ℕ) (s : State) → FactsGrow p (p (rpt_key 0 g src)) s (lower_tree_timer o w hop g src s)
    tree_grows g src s = go (is_unpruned_towards o hop g src)
      where
        go : (b : Bool) → FactsGrow p (p (rpt_key 0 g src)) s
            (cond b (lower_override_timer s (rpt_key 0 g src) (override_end o hop.iface.number w)) s)
        go true = override_grows s (rpt_key 0 g src) (override_end o hop.iface.number w)
        go false = stays p (p (rpt_key 0 g src)) (fact_keys s)

    both_grow_by : (g src : ℕ) (s : State)
        → FactsGrow p (p (rpt_key 0 g src)) s (lower_tree_timer o w hop g src (lower_source_timer o w hop g src s))
    both_grow_by g src s =
        let x : Bool = p (rpt_key 0 g src) in
        let lower : State = lower_source_timer o w hop g src s in
        grows_on p x (fact_keys s) (fact_keys lower) (fact_keys (lower_tree_timer o w hop g src lower))
        (fewer_grow p x s lower (source_fewer g src s)) (tree_grows g src lower)

  -- the source that a Prune names
  module _ (g src i : ℕ) where
    abbrev its : Key → Bool
    its = names_source g src

    prune_grows : (s : State) (n : Named) → FactsGrow its (its (named_key i n)) s (prune_seen o w hop s n)
    unfolding prune_seen names_source
    prune_grows s n = go (n.1).kind
      where
        go : (kind : EntryKind) → (let address : ℕ = (n.1).address.bits in
            let after : State = elim kind [
              | EntryKind.Star ↦ fold (λ t src'. lower_source_timer o w hop n.0 src' t) (lower_star_timer o w hop n.0 s)
                  (sources_joined_towards o hop n.0)
              | EntryKind.Source ↦ lower_tree_timer o w hop n.0 address (lower_source_timer o w hop n.0 address s)
              | EntryKind.SourceRpt ↦ lower_tree_timer o w hop n.0 address (lower_source_timer o w hop n.0 address s)
            ] in FactsGrow its (its (key_by i n.0 address kind)) s after)
        go EntryKind.Star =
            fewer_grow its (its (star_key i n.0)) s _
            (fewer_both s (lower_star_timer o w hop n.0 s) _ (star_fewer n.0 s)
            (each_fewer (λ t src'. lower_source_timer o w hop n.0 src' t) (λ t src'. source_fewer n.0 src' t)
            (sources_joined_towards o hop n.0) (lower_star_timer o w hop n.0 s)))
        go EntryKind.Source = both_grow_by its n.0 (n.1).address.bits s
        go EntryKind.SourceRpt = both_grow_by its n.0 (n.1).address.bits s

    prunes_grow : (ns : List Named) (s : State)
        → FactsGrow its (list_any its (map (named_key i) ns)) s (fold (prune_seen o w hop) s ns)
    prunes_grow [] s e = stays its false (fact_keys s) e
    prunes_grow (n ∷ ns) s e =
        let before : Bool = list_any its (fact_keys s) in
        let own : Bool = its (named_key i n) in
        let others : Bool = list_any its (map (named_key i) ns) in
        either (list_any its (fact_keys (prune_seen o w hop s n))) others
        (λ f. either before own (or_left before (own || others)) (λ g. or_right before (own || others) (or_left own others g))
        (prune_grows s n f))
        (λ f. or_right before (own || others) (or_right own others f))
        (prunes_grow ns (prune_seen o w hop s n) e)

-- a key that names a source has one
its_source : (b c : Bool) (source : Option Addr) → (b && is_some source && c) ≡ true
    → (not (is_none source) && (b && is_some source && c)) ≡ true
its_source true c None e = cc
its_source false c None e = cc
its_source b c (Some a) e = e

module _ (g src : ℕ) where
  names_one : (k : Key) → names_source g src k ≡ true → (not (is_star k) && names_source g src k) ≡ true
  unfolding names_source
  names_one k e = its_source (group_in k == g) (source_in k == src) k.source e

  sources_left : (ks : List Key) → list_any (names_source g src) ks ≡ true
      → list_any (names_source g src) (filter (λ k. not (is_star k)) ks) ≡ true
  sources_left ks e =
      any_in_filter (λ k. not (is_star k)) (names_source g src) ks
      ∙ any_more (names_source g src) (λ k. not (is_star k) && names_source g src k) names_one ks e

pub seen_named : (s : State) (w i : ℕ) (m : JoinPrune)
    → NewAreNamed (filter (λ k. not (is_star k)) (pruned_keys i m)) s (seen s w i m)
unfolding seen pruned_keys
seen_named s w i m g src there =
    let hop : Hop = hop_at i m.upstream in
    let joins : List Named = accepted_joins s m in
    let stars : State = fold (join_seen s m.holdtime w hop) s (filter is_star_entry joins) in
    let others : State = fold (join_seen s m.holdtime w hop) stars (filter (λ n. not (is_star_entry n)) joins) in
    let before : Bool = list_any (names_source g src) (fact_keys s) in
    let pruned : List Key = map (named_key i) (accepted_prunes m) in
    let named : Bool = list_any (names_source g src) (filter (λ k. not (is_star k)) pruned) in
    let fewer : IsFewer s others =
    fewer_both s stars others
    (each_fewer (join_seen s m.holdtime w hop) (join_fewer s w hop m.holdtime) (filter is_star_entry joins) s)
    (each_fewer (join_seen s m.holdtime w hop) (join_fewer s w hop m.holdtime)
    (filter (λ n. not (is_star_entry n)) joins) stars) in
    either (list_any (names_source g src) (fact_keys others)) (list_any (names_source g src) pruned)
    (λ f. or_left before named (fewer.passed (names_source g src) f))
    (λ f. or_right before named (sources_left g src pruned f))
    (prunes_grow s w hop g src i (accepted_prunes m) others there)
