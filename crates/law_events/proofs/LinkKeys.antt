-- The keys of what asks whether the router is the DR of an interface take all that a change of the DR there moves.
use Rattle.std.{proofs.{Common.{◌≡◌, ◌==◌, ◌&&◌, ◌||◌, ℕ, Bool, true, false, cond, List, [], ◌∷◌, ◌++◌, filter, Option, Some, is_some, refl, sym, ap, subst, ◌∙◌, eq-eqb, eqb-true, arith}, lemmas.{Bool.{or_left, or_right}, List.Folds.list_any-append}}, specs.{Cmp.{second_so, Derive.both_true}, List.{list_all, list_any}, Option.option_map_or}}
use Rattle.pim_types.{specs.{declared.{fact.{GroupRecordRow.GroupRecordRow, Key.Key, SourceRecordRow.SourceRecordRow}, path.Path.Path}, Keys.{group_in, iface_in, is_on, same_key, source_in, source_key, star_key}}, proofs.Keys.equal_keys}
use Rattle.pim_model.{specs.{Neighbours.is_dr, Receivers.{is_exclude, is_exclude_among, local_receiver_include, local_receiver_include_among}, State.State, Tables.{Table, row_at, same_bool}, Unicast.route, Upstream.{fact_keys, groups_of, sources_of}}}
use Rattle.law_settled.{proofs.{ListLaws.{any_more, each_more, each_of_all, list_of_each}, TableLaws.{any_in_filter, any_of_map}}}
use Rattle.law_events.{specs.{Locality.touching, Scopes.reads, Adjacent.{ServesAlike, dr_keys, has_link_dr, is_linked, is_touched_where_link_differs, keys_of_dr, linked_of_group, linked_sources, receiver_sources, receiver_stars}}, proofs.{Asserts.reads_itself, SameRows.flags_same, FactsThere.{IsThere, each_is_there, group_there, in_each, some_source, source_there, unless_star}, OneRow.{SetsOne, dr_elsewhere, dr_kept}}}

no_matter : (b : Bool) → (b && false) ≡ false
no_matter b = grind arith

-- ---- what is there

module _ (s : State) (i : ℕ) where
  -- a group with receivers
  star_step : (g : ℕ) (e : Key × GroupRecordRow) (t : Table GroupRecordRow) (b : Bool) → same_key (star_key i g) e.0 ≡ b
      → option_map_or (λ (r : GroupRecordRow). is_some r.end) (cond b (Some e.1) (row_at t (star_key i g))) false ≡ true
      → (option_map_or (λ (r : GroupRecordRow). is_some r.end) (row_at t (star_key i g)) false ≡ true
      → list_any (λ (x : Key × GroupRecordRow). (is_on i x.0 && is_some (x.1).end) && reads (star_key 0 g) (star_key 0 (group_in x.0))) t ≡ true)
      → (((is_on i e.0 && is_some (e.1).end) && reads (star_key 0 g) (star_key 0 (group_in e.0)))
      || list_any (λ (x : Key × GroupRecordRow). (is_on i x.0 && is_some (x.1).end) && reads (star_key 0 g) (star_key 0 (group_in x.0))) t) ≡ true
  unfolding reads
  star_step g e t true here some rest =
      let key : star_key i g ≡ e.0 = equal_keys (star_key i g) e.0 here in
      or_left _ _
      (both_true (both_true (eq-eqb (iface_in e.0) i (sym (ap iface_in key))) some)
      (both_true (eq-eqb (group_in e.0) g (sym (ap group_in key))) refl))
  star_step g e t false here some rest = or_right _ _ (rest some)

  star_there : (g : ℕ) (t : Table GroupRecordRow)
      → option_map_or (λ (r : GroupRecordRow). is_some r.end) (row_at t (star_key i g)) false ≡ true
      → list_any (λ (x : Key × GroupRecordRow). (is_on i x.0 && is_some (x.1).end) && reads (star_key 0 g) (star_key 0 (group_in x.0))) t ≡ true
  unfolding row_at
  star_there g [] some = cc
  star_there g (e ∷ t) some = star_step g e t (same_key (star_key i g) e.0) refl some (star_there g t)

  star_touched : (g : ℕ) → is_exclude s g i ≡ true → touching (receiver_stars s i) (star_key 0 g) ≡ true
  unfolding is_exclude is_exclude_among touching receiver_stars
  star_touched g there =
      any_of_map (reads (star_key 0 g)) (λ (x : Key × GroupRecordRow). star_key 0 (group_in x.0))
      (filter (λ x. is_on i x.0 && is_some (x.1).end) s.group_records)
      ∙ any_in_filter (λ (x : Key × GroupRecordRow). is_on i x.0 && is_some (x.1).end)
      (λ x. reads (star_key 0 g) (star_key 0 (group_in x.0))) s.group_records
      ∙ star_there g s.group_records there

  -- a source with receivers
  source_step : (g src : ℕ) (e : Key × SourceRecordRow) (t : Table SourceRecordRow) (b : Bool)
      → same_key (source_key i g src) e.0 ≡ b → is_some (cond b (Some e.1) (row_at t (source_key i g src))) ≡ true
      → (is_some (row_at t (source_key i g src)) ≡ true
      → list_any (λ (x : Key × SourceRecordRow). is_on i x.0 && reads (source_key 0 g src) (source_key 0 (group_in x.0) (source_in x.0))) t ≡ true)
      → ((is_on i e.0 && reads (source_key 0 g src) (source_key 0 (group_in e.0) (source_in e.0)))
      || list_any (λ (x : Key × SourceRecordRow). is_on i x.0 && reads (source_key 0 g src) (source_key 0 (group_in x.0) (source_in x.0))) t) ≡ true
  source_step g src e t true here some rest =
      let key : source_key i g src ≡ e.0 = equal_keys (source_key i g src) e.0 here in
      or_left _ _
      (both_true (eq-eqb (iface_in e.0) i (sym (ap iface_in key)))
      (subst (λ (q : Key). reads (source_key 0 g src) (source_key 0 (group_in q) (source_in q)) ≡ true) key
      (reads_itself (source_key 0 g src))))
  source_step g src e t false here some rest = or_right _ _ (rest some)

  source_there_at : (g src : ℕ) (t : Table SourceRecordRow) → is_some (row_at t (source_key i g src)) ≡ true
      → list_any (λ (x : Key × SourceRecordRow). is_on i x.0 && reads (source_key 0 g src) (source_key 0 (group_in x.0) (source_in x.0))) t ≡ true
  unfolding row_at
  source_there_at g src [] some = cc
  source_there_at g src (e ∷ t) some = grind (arith, source_there_at g src t, source_step)

  source_touched : (g src : ℕ) → local_receiver_include s g src i ≡ true
      → touching (receiver_sources s i) (source_key 0 g src) ≡ true
  unfolding local_receiver_include local_receiver_include_among touching receiver_sources
  source_touched g src there =
      any_of_map (reads (source_key 0 g src)) (λ (x : Key × SourceRecordRow). source_key 0 (group_in x.0) (source_in x.0))
      (filter (λ x. is_on i x.0) s.source_records)
      ∙ any_in_filter (λ (x : Key × SourceRecordRow). is_on i x.0)
      (λ x. reads (source_key 0 g src) (source_key 0 (group_in x.0) (source_in x.0))) s.source_records
      ∙ source_there_at g src s.source_records (second_so _ _ there)

  -- a source of the link
  link_touched : (k : Key) → IsThere (fact_keys s) k → is_some k.source ≡ true → is_linked i (route s (source_in k)) ≡ true
      → touching (linked_sources s i) (source_key 0 (group_in k) (source_in k)) ≡ true
  unfolding touching linked_sources linked_of_group
  link_touched k there some linked =
      let here : Key = source_key 0 (group_in k) (source_in k) in
      let links : ℕ → Bool = λ src. is_linked i (route s src) in
      let all : List ℕ = sources_of (group_in k) (fact_keys s) in
      in_each (reads here) (linked_of_group s i) (group_in k) (groups_of (fact_keys s)) (group_there (fact_keys s) k there)
      (any_of_map (reads here) (source_key 0 (group_in k)) (filter links all)
      ∙ any_in_filter links (λ src. reads here (source_key 0 (group_in k) src)) all
      ∙ any_more (λ m. m == source_in k) (λ m. links m && reads here (source_key 0 (group_in k) m))
      (λ m e. subst (λ n. (links n && reads here (source_key 0 (group_in k) n)) ≡ true)
      (sym (eqb-true m (source_in k) e)) (both_true linked (reads_itself here)))
      all (source_there (fact_keys s) k there some))

  -- all of them among the keys
  star_among : (q : Key) → touching (receiver_stars s i) q ≡ true → touching (keys_of_dr s i) q ≡ true
  unfolding touching keys_of_dr
  star_among q e = grind (arith, list_any-append, or_left)

  source_among : (q : Key) → touching (receiver_sources s i) q ≡ true → touching (keys_of_dr s i) q ≡ true
  unfolding touching keys_of_dr
  source_among q e = grind (arith, list_any-append, or_left, or_right)

  link_among : (q : Key) → touching (linked_sources s i) q ≡ true → touching (keys_of_dr s i) q ≡ true
  unfolding touching keys_of_dr
  link_among q e =
      list_any-append (reads q) (receiver_stars s i ++ receiver_sources s i) (linked_sources s i) ∙ or_right _ _ e

-- ---- any keys that touch these where the DR is another

-- where there are receivers the keys touch, nobody is there or the DR is as it was
by_receivers : (d e x t : Bool) → (x ≡ true → t ≡ true) → t ≡ false → (d && x) ≡ (e && x)
by_receivers d e x t touched out = grind (arith, no_matter)

module _ (s c : State) (k : Key) (sets : SetsOne k s c) (keys : List Key) where
  abbrev at : ℕ
  at = iface_in k

  elsewhere : (i : ℕ) → (at == i) ≡ false → is_dr s i ≡ is_dr c i
  elsewhere = dr_elsewhere s c k sets

  module _ (within : (q : Key) → touching (keys_of_dr s at) q ≡ true → touching keys q ≡ true) where
    stars_alike : (g i : ℕ) (b : Bool) → (at == i) ≡ b → touching keys (star_key 0 g) ≡ false
        → (is_dr s i && is_exclude s g i) ≡ (is_dr c i && is_exclude s g i)
    stars_alike g i b here out = grind (arith, by_receivers, star_among, star_touched, eqb-true, elsewhere)

    sources_alike : (g src i : ℕ) (b : Bool) → (at == i) ≡ b → touching keys (source_key 0 g src) ≡ false
        → (is_dr s i && local_receiver_include s g src i) ≡ (is_dr c i && local_receiver_include s g src i)
    sources_alike g src i b here out = grind (arith, by_receivers, source_among, source_touched, eqb-true, elsewhere)

    serves_by_keys : ServesAlike keys s c
    serves_by_keys = grind (arith, stars_alike, sources_alike)

    same_link : (p : Option Path) → is_linked at p ≡ false → has_link_dr s p ≡ has_link_dr c p
    same_link p un = grind (arith, elsewhere)

    one_linked : (q : Key) → IsThere (fact_keys s) q → is_touched_where_link_differs keys s c q ≡ true
    one_linked q there =
        grind (arith, unless_star, or_left, link_among, link_touched, some_source, or_right, flags_same, same_link)

    linked_by_keys : list_all (is_touched_where_link_differs keys s c) (fact_keys s) ≡ true
    linked_by_keys =
        list_of_each (is_touched_where_link_differs keys s c) (fact_keys s)
        (each_more (IsThere (fact_keys s)) (λ q. is_touched_where_link_differs keys s c q ≡ true) one_linked (fact_keys s)
        (each_is_there (fact_keys s)))

  -- ---- or where it is as it was

  module _ (same : (i : ℕ) → is_dr s i ≡ is_dr c i) where
    serves_by_dr : ServesAlike keys s c
    serves_by_dr = grind arith

    linked_by_dr : list_all (is_touched_where_link_differs keys s c) (fact_keys s) ≡ true
    linked_by_dr = grind (arith, list_of_each, each_of_all, or_right, flags_same)

  -- ---- either way

  abbrev Served : Type 0
  Served = (ServesAlike keys s c) × (list_all (is_touched_where_link_differs keys s c) (fact_keys s) ≡ true)

  pub dr_served : (kept : Bool) → same_bool (is_dr s at) (is_dr c at) ≡ kept
      → ((q : Key) → touching (dr_keys kept s at) q ≡ true → touching keys q ≡ true) → Served
  dr_served true same within =
      let all : (i : ℕ) → is_dr s i ≡ is_dr c i = dr_kept s c k sets same in (serves_by_dr all, linked_by_dr all)
  dr_served false differs within = (serves_by_keys within, linked_by_keys within)
