-- A packet touches its source, and its group where it may make an assert of (*,G).
use Rattle.std.{proofs.{Common.{◌≡◌, ◌&&◌, ℕ, Bool, true, false, not, cond, List, [], ◌∷◌, refl, ◌||◌, sym, ◌∙◌, arith, rules}, lemmas.Bool.{or_left, or_right}}, specs.Cmp.Derive.both_true}
use Rattle.law_settled.{proofs.{ListLaws.by_cond, RowLaws.row_put, RowChanges.{dropped_elsewhere, put_elsewhere}}}
use Rattle.pim_types.{specs.{declared.fact.{Key.Key, RegisterRow.RegisterRow}, Keys.{source_key, star_key}}}
use Rattle.pim_model.{specs.{Asserts.{could_assert_at, data_seen, wins, with_spt_bit}, Forwarding.{Forwarded, forwarded, list_chosen, source_here, source_joined, spt_updated, stray, watched, when}, Registers.{settle_register, settled_register, with_keepalive}, Sets.spt_bit, State.State, Tables.{Table, drop_at, has_row, put, rows_where}, Unicast.{is_rpf_interface_rp, route, rp_of, rp_route, rpf_interface_rp}}}
use Rattle.law_events.{specs.{Touches.packet_keys, Locality.{AgreesBut, touching}, Scopes.reads}, proofs.{Asserts.{reads_itself, source_read, stars_read}, Events.{agrees_if, wins_only}, Touches.{agrees_same, agrees_then, unread_of, widened, registers_agree, sources_agree, touching_is_closed}}}

-- ---- a packet

first_false : (b c : Bool) → (b && not c) ≡ false → c ≡ false → b ≡ false
first_false b c e f = grind arith

module _ (g src : ℕ) (keys : List Key) (there : touching keys (source_key 0 g src) ≡ true) where
  abbrev Here : State → State → Type 0
  Here s t = AgreesBut (touching keys) s t

  elsewhere : (q : Key) → touching keys q ≡ false → reads q (source_key 0 g src) ≡ false
  elsewhere q e = unread_of keys (source_key 0 g src) q there e

  -- on whichever interface
  source_there : (iif : ℕ) → touching keys (source_key iif g src) ≡ true
  source_there iif = grind (arith, touching_is_closed, source_read)

  pub keepalive_here : (s : State) → Here s (with_keepalive s g src)
  unfolding with_keepalive
  keepalive_here s = search (rules, sources_agree, put_elsewhere, elsewhere)

  spt_bit_here : (s : State) → Here s (with_spt_bit s g src)
  unfolding with_spt_bit
  spt_bit_here s = search (rules, sources_agree, put_elsewhere, elsewhere)

  register_rows : (q : Key) → touching keys q ≡ false → (t : Table RegisterRow) (b c : Bool) (row : RegisterRow)
      → rows_where (reads q) (cond b (cond c t (put t (source_key 0 g src) row)) (drop_at t (source_key 0 g src)))
      ≡ rows_where (reads q) t
  register_rows q e t b c row = grind (arith, put_elsewhere, elsewhere, dropped_elsewhere)

  register_here : (s : State) → Here s (settle_register s (source_key 0 g src))
  unfolding settle_register settled_register
  register_here s = search (rules, registers_agree, register_rows)

  pub when_here : (b : Bool) (change : State → State) (s : State) → ((t : State) → Here t (change t))
      → Here s (when b change s)
  when_here b change s f = grind arith

  connected_here : (iif : ℕ) (s : State) → Here s (source_here s g src iif)
  unfolding source_here
  connected_here iif s = grind (arith, by_cond, agrees_then, keepalive_here, register_here, agrees_same)

  joined_here : (iif : ℕ) (s : State) → Here s (source_joined s g src iif)
  unfolding source_joined
  joined_here iif s = when_here _ (λ t. with_keepalive t g src) s keepalive_here

  spt_here : (iif : ℕ) (s : State) → Here s (spt_updated s g src iif)
  unfolding spt_updated
  spt_here iif s = grind (arith, when_here, spt_bit_here)

  watched_here : (s : State) → Here s (watched s g src)
  unfolding watched
  watched_here s = when_here _ (λ t. with_keepalive t g src) s keepalive_here

  data_here : (k : Key) → touching keys k ≡ true → (s : State) → Here s (data_seen s k).0
  unfolding data_seen
  data_here k is s =
      agrees_if (touching keys) s (could_assert_at s k && not (has_row s.asserts k)) (wins s k) (s, [])
      (widened (k ∷ []) keys s (wins s k).0 (both_true is refl) (wins_only k s)) (agrees_same (touching keys) s)

  stray_here : (iif : ℕ) (s : State) → (spt_bit s g src ≡ false → touching keys (star_key iif g) ≡ true)
      → Here s (stray s g src iif).state
  unfolding stray
  stray_here iif s star = grind (arith, agrees_if, data_here, source_there, agrees_same)

  pub either_here : (s : State) (b : Bool) (t u : Forwarded) → Here s t.state → Here s u.state
      → Here s (cond b t u).state
  either_here s b t u f h = grind arith

  where_else : (s : State) (b : Bool) (t u : Forwarded) → Here s t.state → (b ≡ false → Here s u.state)
      → Here s (cond b t u).state
  where_else s b t u f h = grind arith

  chosen_here : (iif : ℕ) (s : State)
      → (is_rpf_interface_rp s g iif ≡ false → spt_bit s g src ≡ false → touching keys (star_key iif g) ≡ true)
      → Here s (list_chosen s g src iif).state
  unfolding list_chosen
  chosen_here iif s star = grind (arith, either_here, agrees_same, where_else, watched_here, stray_here, first_false)

-- ---- what chooses between the source and its group goes on

record GoesOn (g src iif : ℕ) (s t : State) : Type 0 where
  rp : is_rpf_interface_rp t g iif ≡ is_rpf_interface_rp s g iif
  spt : spt_bit s g src ≡ true → spt_bit t g src ≡ true

module _ (g src iif : ℕ) where
  goes_then : (s t u : State) → GoesOn g src iif s t → GoesOn g src iif t u → GoesOn g src iif s u
  goes_then s t u f h = record { rp = h.rp ∙ f.rp; spt = λ e. h.spt (f.spt e) }

  keepalive_goes : (s : State) → GoesOn g src iif s (with_keepalive s g src)
  unfolding with_keepalive rpf_interface_rp rp_route route rp_of spt_bit
  keepalive_goes s = grind (arith, row_put)

  spt_bit_goes : (s : State) → GoesOn g src iif s (with_spt_bit s g src)
  unfolding with_spt_bit rpf_interface_rp rp_route route rp_of spt_bit
  spt_bit_goes s = grind (arith, row_put)

  register_goes : (s : State) (k : Key) → GoesOn g src iif s (settle_register s k)
  unfolding settle_register rpf_interface_rp rp_route route rp_of spt_bit
  register_goes s k = record { rp = refl; spt = λ e. e }

  cond_goes : (s : State) (b : Bool) (t : State) → GoesOn g src iif s t → GoesOn g src iif s (cond b t s)
  cond_goes s b t f = grind arith

  when_goes : (b : Bool) (change : State → State) (s : State) → GoesOn g src iif s (change s)
      → GoesOn g src iif s (when b change s)
  when_goes b change s f = grind arith

  reached_goes : (s : State)
      → GoesOn g src iif s (spt_updated (source_joined (source_here s g src iif) g src iif) g src iif)
  unfolding source_here source_joined spt_updated
  reached_goes s =
      let here : State = source_here s g src iif in
      let joined : State = source_joined here g src iif in
      goes_then s here (spt_updated joined g src iif)
      (cond_goes s _ (settle_register (with_keepalive s g src) (source_key 0 g src))
      (goes_then s (with_keepalive s g src) _ (keepalive_goes s)
      (register_goes (with_keepalive s g src) (source_key 0 g src))))
      (goes_then here joined (spt_updated joined g src iif)
      (when_goes _ (λ t. with_keepalive t g src) here (keepalive_goes here))
      (when_goes _ (λ t. with_spt_bit t g src) joined (spt_bit_goes joined)))

  -- off the tree of the group, and with no SPTbit, the group is among the keys
  star_named : (b c : Bool) → b ≡ false → c ≡ false
      → touching (source_key 0 g src ∷ cond (b || c) [] (star_key 0 g ∷ [])) (star_key iif g) ≡ true
  unfolding touching
  star_named true c e f = cc
  star_named false true e f = cc
  star_named false false e f = search (rules, or_right, or_left, stars_read)

  still_false : (b c : Bool) → (b ≡ true → c ≡ true) → c ≡ false → b ≡ false
  still_false b c f e = grind arith

pub packet_touches : (s : State) (g src iif : ℕ)
    → AgreesBut (touching (packet_keys s g src iif)) s (forwarded s g src iif).state
unfolding forwarded touching
packet_touches s g src iif =
    let keys : List Key = packet_keys s g src iif in
    let there : touching keys (source_key 0 g src) ≡ true =
    or_left (reads (source_key 0 g src) (source_key 0 g src)) _ (reads_itself (source_key 0 g src)) in
    let here : State = source_here s g src iif in
    let joined : State = source_joined here g src iif in
    let reached : State = spt_updated joined g src iif in
    let goes : GoesOn g src iif s reached = reached_goes g src iif s in
    agrees_then (touching keys) s here _ (connected_here g src keys there iif s)
    (agrees_then (touching keys) here joined _ (joined_here g src keys there iif here)
    (agrees_then (touching keys) joined reached _ (spt_here g src keys there iif joined)
    (chosen_here g src keys there iif reached
    (λ e f. star_named g src iif (is_rpf_interface_rp s g iif) (spt_bit s g src) (sym goes.rp ∙ e)
    (still_false g src iif (spt_bit s g src) (spt_bit reached g src) goes.spt f)))))
