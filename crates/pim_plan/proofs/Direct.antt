-- A packet that comes by the tree of its source touches its source alone: it makes no assert, since SPTbit is set, or
-- it came on the interface to the RP too, or nobody wants it on the shared tree there.
use Rattle.std.{proofs.{Common.{◌≡◌, ◌<◌, ◌&&◌, ◌||◌, ◌∙◌, ◌∷◌, ℕ, Bool, List, [], None, Option, Some, ap, cond, eqb-true, false, get_or, not, refl, subst, sym, true, zero-add}, lemmas.{Bool.{or_left, or_right}, List.{Folds.list_any_at, FromFn.{get_or-range_with_len, length-range_with_len}}}}, specs.{Cmp.Derive.both_true, List.{list_any, range_with_len}, Option.option_map_or}}
use Rattle.pim_types.{specs.{declared.fact.{Key.Key, RegisterRow.RegisterRow, RegisterState.RegisterState, SourceRow.SourceRow}, Keys.source_key}}
use Rattle.law_settled.{proofs.{ListLaws.by_cond, RowChanges.{dropped_elsewhere, put_elsewhere}, RowLaws.row_put}}
use Rattle.pim_model.{specs.{Asserts.with_spt_bit, Desires.{is_inherited_empty, join_desired}, Forwarding.{Forwarded, forwarded, is_spt_reached, list_chosen, source_here, source_joined, spt_updated, stray, watched, when}, Registers.{could_register, settle_register, settled_register, with_keepalive}, Sets.{inherited_olist, inherited_olist_rpt, is_empty, is_kept_alive, lost_assert, spt_bit}, State.{State, iface_count}, Tables.{Table, drop_at, has_row, put, rows_where, same_option}, Unicast.{is_connected, is_rpf_interface, is_rpf_interface_rp, route, rpf_interface, rpf_interface_rp}}}
use Rattle.law_events.{specs.{Locality.{AgreesBut, touching}, Scopes.reads}, proofs.{KeptAlive.now_kept, Packets.{keepalive_here, when_here}, Touches.{agrees_same, agrees_then, registers_agree, sources_agree, touches_itself, unread_of}}}
use Rattle.pim_plan.{specs.Repeats.is_direct}

-- of no configured interface means not of this one
none_at : (test : ℕ → Bool) (n i : ℕ) → i < n → list_any test (range_with_len 0 n) ≡ false → test i ≡ false
none_at test n i below none = go (test i) refl
  where
    at : {b : Bool} → test i ≡ b → test (get_or (range_with_len 0 n) i 0) ≡ b
    at e = ap test (get_or-range_with_len 0 n i 0 below ∙ zero-add i) ∙ e

    go : (b : Bool) → test i ≡ b → b ≡ false
    go false e = refl
    go true e =
        let some : list_any test (range_with_len 0 n) ≡ true =
        list_any_at test (range_with_len 0 n) i 0 (rw (length-range_with_len 0 n) below) (at e) in
        cc

-- an option that is the same as one that is `Some i` is `Some i` too
same_through : (a b : Option ℕ) (i : ℕ) → same_option a (Some i) ≡ true → same_option a b ≡ true
    → same_option b (Some i) ≡ true
same_through None b i e f = cc
same_through (Some m) None i e f = cc
same_through (Some m) (Some n) i e f = rw (eqb-true m n f) at e

module _ (g src iif : ℕ) where
  abbrev its_key : Key
  its_key = source_key 0 g src

  abbrev keys : List Key
  keys = its_key ∷ []

  there : touching keys its_key ≡ true
  there = touches_itself its_key

  abbrev Here : State → State → Type 0
  Here s t = AgreesBut (touching keys) s t

  -- ---- each step touches the source

  elsewhere : (q : Key) → touching keys q ≡ false → reads q its_key ≡ false
  elsewhere q e = unread_of keys its_key q there e

  bit_touches : (s : State) → Here s (with_spt_bit s g src)
  unfolding with_spt_bit
  bit_touches s =
      sources_agree (touching keys) s _ (λ q e. put_elsewhere (reads q) its_key (elsewhere q e) s.sources _)

  register_rows : (q : Key) → touching keys q ≡ false → (t : Table RegisterRow) (b c : Bool) (row : RegisterRow)
      → rows_where (reads q) (cond b (cond c t (put t its_key row)) (drop_at t its_key)) ≡ rows_where (reads q) t
  register_rows q e t true true row = refl
  register_rows q e t true false row = put_elsewhere (reads q) its_key (elsewhere q e) t row
  register_rows q e t false c row = dropped_elsewhere (reads q) its_key (elsewhere q e) t

  register_touches : (s : State) → Here s (settle_register s its_key)
  unfolding settle_register settled_register
  register_touches s =
      registers_agree (touching keys) s _ (λ q e. register_rows q e s.registers (could_register s g src)
      (has_row s.registers its_key) (record { state = RegisterState.Join }))

  here_touches : (s : State) → Here s (source_here s g src iif)
  unfolding source_here
  here_touches s =
      by_cond (AgreesBut (touching keys) s) (is_connected s src && is_rpf_interface s src iif) _ s
      (agrees_then (touching keys) s (with_keepalive s g src) _ (keepalive_here g src keys there s)
      (register_touches (with_keepalive s g src)))
      (agrees_same (touching keys) s)

  joined_touches : (s : State) → Here s (source_joined s g src iif)
  unfolding source_joined
  joined_touches s = when_here g src keys there _ (λ t. with_keepalive t g src) s (keepalive_here g src keys there)

  reached_touches : (s : State) → Here s (spt_updated s g src iif)
  unfolding spt_updated
  reached_touches s =
      when_here g src keys there (is_spt_reached s g src iif) (λ t. with_spt_bit t g src) s bit_touches

  watched_touches : (s : State) → Here s (watched s g src)
  unfolding watched
  watched_touches s = when_here g src keys there _ (λ t. with_keepalive t g src) s (keepalive_here g src keys there)

  -- ---- what stays on the way: it came on the source's interface, which is configured

  record ByTree (s : State) : Type 0 where
    on : is_rpf_interface s src iif ≡ true
    below : iif < iface_count s

  keepalive_by_tree : (s : State) → ByTree s → ByTree (with_keepalive s g src)
  unfolding with_keepalive rpf_interface route
  keepalive_by_tree s f = record { on = f.on; below = f.below }

  bit_by_tree : (s : State) → ByTree s → ByTree (with_spt_bit s g src)
  unfolding with_spt_bit rpf_interface route
  bit_by_tree s f = record { on = f.on; below = f.below }

  register_by_tree : (s : State) → ByTree s → ByTree (settle_register s its_key)
  unfolding settle_register rpf_interface route
  register_by_tree s f = record { on = f.on; below = f.below }

  here_by_tree : (s : State) → ByTree s → ByTree (source_here s g src iif)
  unfolding source_here
  here_by_tree s f =
      by_cond ByTree (is_connected s src && is_rpf_interface s src iif) _ s
      (register_by_tree (with_keepalive s g src) (keepalive_by_tree s f)) f

  joined_by_tree : (s : State) → ByTree s → ByTree (source_joined s g src iif)
  unfolding source_joined
  joined_by_tree s f = go _
    where
      go : (b : Bool) → ByTree (when b (λ t. with_keepalive t g src) s)
      go true = keepalive_by_tree s f
      go false = f

  -- ---- after the first two steps the source is kept alive, or desired

  abbrev IsHeld : State → Type 0
  IsHeld s = (join_desired s g src || is_kept_alive s g src) ≡ true

  registered_kept : (s : State) → is_kept_alive (settle_register (with_keepalive s g src) its_key) g src ≡ true
  unfolding settle_register is_kept_alive
  registered_kept s = now_kept g src s

  here_held : (s : State) → is_rpf_interface s src iif ≡ true → (is_connected s src || join_desired s g src) ≡ true
      → IsHeld (source_here s g src iif)
  unfolding source_here
  here_held s on direct = go (is_connected s src) (is_rpf_interface s src iif) on direct
    where
      go : (c r : Bool) → r ≡ true → (c || join_desired s g src) ≡ true
          → IsHeld (cond (c && r) (settle_register (with_keepalive s g src) its_key) s)
      go true true e f = or_right (join_desired _ g src) _ (registered_kept s)
      go true false e f = cc
      go false r e f = or_left (join_desired s g src) _ f

  joined_held : (s : State) → IsHeld s → IsHeld (source_joined s g src iif)
  unfolding source_joined
  joined_held s f = go _
    where
      go : (b : Bool) → IsHeld (when b (λ t. with_keepalive t g src) s)
      go true = or_right (join_desired _ g src) _ (now_kept g src s)
      go false = f

  -- ---- then it makes no assert of (*,G)

  module _ (s : State) (f : ByTree s) where
    -- it is desired, but SPTbit isn't reached: the RP is on the same interface
    same_interface : join_desired s g src ≡ true → is_spt_reached s g src iif ≡ false → is_rpf_interface_rp s g iif ≡ true
    unfolding is_spt_reached
    same_interface desired e =
        same_through (rpf_interface s src) (rpf_interface_rp s g) iif f.on
        (go (is_rpf_interface s src iif) (join_desired s g src) (is_connected s src)
        (same_option (rpf_interface s src) (rpf_interface_rp s g)) _ _ _ f.on desired e)
      where
        go : (r d c b x y z : Bool) → r ≡ true → d ≡ true → (r && d && (c || not b || x || y || z)) ≡ false → b ≡ true
        go true true false true x y z is is' e = refl
        go true true false false x y z is is' e = cc
        go true true true b x y z is is' e = cc
        go true false c b x y z is is' e = cc
        go false d c b x y z is is' e = cc

    -- it isn't desired, though kept alive: no interface is in inherited_olist(S,G)
    nowhere : join_desired s g src ≡ false → is_kept_alive s g src ≡ true → inherited_olist s g src iif ≡ false
    unfolding join_desired is_inherited_empty is_empty
    nowhere e kept =
        none_at (inherited_olist s g src) (iface_count s) iif f.below
        (go _ (is_kept_alive s g src) (list_any (inherited_olist s g src) (range_with_len 0 (iface_count s))) _ kept e)
      where
        go : (m k x t : Bool) → k ≡ true → (not m || (k && not (not x && not t))) ≡ false → x ≡ false
        go true true false t is e = refl
        go true true true t is e = cc
        go true false x t is e = cc
        go false k x t is e = cc

    -- the interface isn't in inherited_olist(S,G,rpt) if it isn't in inherited_olist(S,G), since no assert is lost
    -- towards the source
    not_shared : inherited_olist s g src iif ≡ false → inherited_olist_rpt s g src iif ≡ false
    unfolding inherited_olist lost_assert
    not_shared e = go (inherited_olist_rpt s g src iif) _ _ (is_rpf_interface s src iif) _ _ f.on e
      where
        go : (a b c r l m : Bool) → r ≡ true → ((a || b || c) && not (not r && l && m)) ≡ false → a ≡ false
        go false b c r l m is e = refl
        go true b c true l m is e = cc
        go true b c false l m is e = cc

    unwanted : IsHeld s → is_spt_reached s g src iif ≡ false → is_rpf_interface_rp s g iif ≡ false
        → inherited_olist_rpt s g src iif ≡ false
    unwanted held e off = go (join_desired s g src) refl held
      where
        go : (b : Bool) → join_desired s g src ≡ b → (b || is_kept_alive s g src) ≡ true
            → inherited_olist_rpt s g src iif ≡ false
        go true desired h = let on : is_rpf_interface_rp s g iif ≡ true = same_interface desired e in cc
        go false undesired h = not_shared (nowhere undesired h)

    stray_stays : spt_bit s g src ≡ false → inherited_olist_rpt s g src iif ≡ false → (stray s g src iif).state ≡ s
    unfolding stray
    stray_stays bit none = rw (bit, none) refl

    unreached : IsHeld s → is_spt_reached s g src iif ≡ false → Here s (list_chosen s g src iif).state
    unfolding list_chosen
    unreached held e =
        where_else (is_rpf_interface s src iif && spt_bit s g src) _ _ (agrees_same (touching keys) s)
        (λ off. where_else (is_rpf_interface_rp s g iif && not (spt_bit s g src)) _ (stray s g src iif) (watched_touches s)
        (λ away. stray_touches (unset (is_rpf_interface s src iif) (spt_bit s g src) f.on off)
        (other (is_rpf_interface_rp s g iif) (spt_bit s g src)
        (unset (is_rpf_interface s src iif) (spt_bit s g src) f.on off) away)))
      where
        where_else : (b : Bool) (t u : Forwarded) → Here s t.state → (b ≡ false → Here s u.state)
            → Here s (cond b t u).state
        where_else true t u h k = h
        where_else false t u h k = k refl

        unset : (r b : Bool) → r ≡ true → (r && b) ≡ false → b ≡ false
        unset true b is e = e
        unset false b is e = cc

        other : (r b : Bool) → b ≡ false → (r && not b) ≡ false → r ≡ false
        other true true is e = cc
        other true false is e = cc
        other false b is e = refl

        stray_touches : spt_bit s g src ≡ false → is_rpf_interface_rp s g iif ≡ false → Here s (stray s g src iif).state
        stray_touches bit off =
            subst (λ (t : State). Here s t) (sym (stray_stays bit (unwanted held e off))) (agrees_same (touching keys) s)

    -- once SPTbit is set the packet is on its tree
    on_tree : spt_bit s g src ≡ true → Here s (list_chosen s g src iif).state
    unfolding list_chosen
    on_tree bit = first (is_rpf_interface s src iif && spt_bit s g src) _ _ (both_true f.on bit) (agrees_same (touching keys) s)
      where
        first : (b : Bool) (t u : Forwarded) → b ≡ true → Here s t.state → Here s (cond b t u).state
        first true t u e h = h
        first false t u e h = cc

  bit_is_set : (s : State) → spt_bit (with_spt_bit s g src) g src ≡ true
  unfolding with_spt_bit spt_bit
  bit_is_set s =
      ap (λ (o : Option SourceRow). option_map_or (λ (r : SourceRow). r.spt) o false) (row_put its_key _ s.sources)

  chosen_touches : (s : State) → ByTree s → IsHeld s
      → Here (spt_updated s g src iif) (list_chosen (spt_updated s g src iif) g src iif).state
  unfolding spt_updated
  chosen_touches s f held = go (is_spt_reached s g src iif) refl
    where
      go : (b : Bool) → is_spt_reached s g src iif ≡ b
          → (let t : State = when b (λ t. with_spt_bit t g src) s in Here t (list_chosen t g src iif).state)
      go true e = on_tree (with_spt_bit s g src) (bit_by_tree s f) (bit_is_set s)
      go false e = unreached s f held e

  pub direct_touches : (s : State) → iif < iface_count s → is_direct s g src iif ≡ true
      → AgreesBut (touching (source_key 0 g src ∷ [])) s (forwarded s g src iif).state
  unfolding forwarded is_direct
  direct_touches s below direct =
      let on : is_rpf_interface s src iif ≡ true = first_is (is_rpf_interface s src iif) _ direct in
      let wanted : (is_connected s src || join_desired s g src) ≡ true = second_is (is_rpf_interface s src iif) _ direct in
      let by_tree : ByTree s = record { on = on; below = below } in
      let here : State = source_here s g src iif in
      let joined : State = source_joined here g src iif in
      let reached : State = spt_updated joined g src iif in
      agrees_then (touching keys) s here _ (here_touches s)
      (agrees_then (touching keys) here joined _ (joined_touches here)
      (agrees_then (touching keys) joined reached _ (reached_touches joined)
      (chosen_touches joined (joined_by_tree here (here_by_tree s by_tree)) (joined_held here (here_held s on wanted)))))
    where
      first_is : (a b : Bool) → (a && b) ≡ true → a ≡ true
      first_is true b e = refl
      first_is false b e = e

      second_is : (a b : Bool) → (a && b) ≡ true → b ≡ true
      second_is true b e = e
      second_is false b e = cc
