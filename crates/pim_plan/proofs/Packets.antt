-- A packet of data, or a Register, makes facts of no source but the one that it names.
use Rattle.std.{proofs.{Common.{◌≡◌, ℕ, Bool, true, false, not, cond, List, [], ◌∷◌, ◌&&◌, ◌||◌, Some, None}, lemmas.Bool.{or_left, or_right}}, specs.List.list_any}
use Rattle.pim_ip.{specs.Ipv4.Packet}
use Rattle.law_settled.{proofs.ListLaws.{by_cond, either}}
use Rattle.pim_types.{specs.{declared.fact.{AssertRow.AssertRow, Key.Key, RegisterRow.RegisterRow, RegisterState.RegisterState, SourceRow.SourceRow}, Keys.{names_source, source_key, star_key}}}
use Rattle.pim_model.{specs.{Asserts.{could_assert_at, data_seen, wins, with_spt_bit}, Forwarding.{Forwarded, forwarded, is_spt_reached, list_chosen, register_at_rp, register_received, source_here, source_joined, spt_updated, stray, watched, when}, Messages.Message, Registers.{could_register, is_spt_wanted, settle_register, settled_register, with_keepalive}, Sets.{Set, inherited_olist, inherited_olist_rpt, spt_bit}, State.State, Tables.{Table, drop_at, has_row, keys_in, put, set_row}, Unicast.{is_connected, is_rp, is_rpf_interface, is_rpf_interface_rp}, Upstream.fact_keys}}
use Rattle.law_events.{specs.Touches.packet_keys}
use Rattle.pim_views.{specs.Covers.NewAreNamed}
use Rattle.pim_plan.{proofs.{IgmpFacts.star_names_none, Growing.{FactsGrow, Grows, both_grow, facts_grow, grows_on, grows_so, one_more, stays}}}

module _ (p : Key → Bool) (x : Bool) where
  -- what has this key has what is named
  as_named : (k : Key) (ks : List Key) → (p k ≡ true → x ≡ true) → (list_any p ks || p k) ≡ true
      → (list_any p ks || x) ≡ true
  as_named k ks its e = either (list_any p ks) (p k) (or_left (list_any p ks) x) (λ f. or_right (list_any p ks) x (its f)) e

  then_grow : (s t u : State) → FactsGrow p x s t → FactsGrow p x t u → FactsGrow p x s u
  then_grow s t u f h = grows_on p x (fact_keys s) (fact_keys t) (fact_keys u) f h

  same_facts : (s : State) → FactsGrow p x s s
  same_facts s = stays p x (fact_keys s)

  sources_grow : (k : Key) → (p k ≡ true → x ≡ true) → (s : State) (r : SourceRow)
      → FactsGrow p x s (record s { sources = put s.sources k r })
  unfolding set_row
  sources_grow k its s r =
      facts_grow p x s s.downstream s.asserts s.join_timers s.override_timers (put s.sources k r)
      (stays p x (keys_in s.downstream)) (stays p x (keys_in s.asserts)) (stays p x (keys_in s.join_timers))
      (stays p x (keys_in s.override_timers))
      (λ e. as_named k (keys_in s.sources) its (one_more p k (Some r) s.sources e))

  asserts_grow : (k : Key) → (p k ≡ true → x ≡ true) → (s : State) (r : AssertRow)
      → FactsGrow p x s (record s { asserts = put s.asserts k r })
  unfolding set_row
  asserts_grow k its s r =
      facts_grow p x s s.downstream (put s.asserts k r) s.join_timers s.override_timers s.sources
      (stays p x (keys_in s.downstream)) (λ e. as_named k (keys_in s.asserts) its (one_more p k (Some r) s.asserts e))
      (stays p x (keys_in s.join_timers)) (stays p x (keys_in s.override_timers)) (stays p x (keys_in s.sources))

  register_rows_grow : (k : Key) → (p k ≡ true → x ≡ true) → (t : Table RegisterRow) (b c : Bool) (row : RegisterRow)
      → Grows p x (keys_in t) (keys_in (cond b (cond c t (put t k row)) (drop_at t k)))
  unfolding set_row
  register_rows_grow k its t true true row = stays p x (keys_in t)
  register_rows_grow k its t true false row = λ e. as_named k (keys_in t) its (one_more p k (Some row) t e)
  register_rows_grow k its t false c row = λ e. as_named k (keys_in t) its (one_more p k None t e)

  registers_grow : (s : State) (rows : Table RegisterRow) → Grows p x (keys_in s.registers) (keys_in rows)
      → FactsGrow p x s (record s { registers = rows })
  unfolding fact_keys
  registers_grow s rows f = both_grow p x _ _ (keys_in s.registers) (keys_in rows) (stays p x _) f

  when_grows : (b : Bool) (change : State → State) (s : State) → ((t : State) → FactsGrow p x t (change t))
      → FactsGrow p x s (when b change s)
  when_grows true change s f = f s
  when_grows false change s f = same_facts s

  either_grows : (s : State) (b : Bool) (t u : Forwarded) → FactsGrow p x s t.state → FactsGrow p x s u.state
      → FactsGrow p x s (cond b t u).state
  either_grows s true t u f h = f
  either_grows s false t u f h = h

module _ (p : Key → Bool) (x : Bool) (g src : ℕ) (its : (i : ℕ) → p (source_key i g src) ≡ true → x ≡ true)
    (isnt : (i : ℕ) → p (star_key i g) ≡ true → x ≡ true) where
  abbrev k : Key
  k = source_key 0 g src

  pub keepalive_grows : (s : State) → FactsGrow p x s (with_keepalive s g src)
  unfolding with_keepalive
  keepalive_grows s = sources_grow p x k (its 0) s _

  spt_bit_grows : (s : State) → FactsGrow p x s (with_spt_bit s g src)
  unfolding with_spt_bit
  spt_bit_grows s = sources_grow p x k (its 0) s _

  register_grows : (s : State) → FactsGrow p x s (settle_register s k)
  unfolding settle_register settled_register
  register_grows s =
      registers_grow p x s _ (register_rows_grow p x k (its 0) s.registers (could_register s g src)
      (has_row s.registers k) (record { state = RegisterState.Join }))

  here_grows : (iif : ℕ) (s : State) → FactsGrow p x s (source_here s g src iif)
  unfolding source_here
  here_grows iif s =
      by_cond (FactsGrow p x s) (is_connected s src && is_rpf_interface s src iif) _ s
      (then_grow p x s (with_keepalive s g src) _ (keepalive_grows s) (register_grows (with_keepalive s g src)))
      (same_facts p x s)

  joined_grows : (iif : ℕ) (s : State) → FactsGrow p x s (source_joined s g src iif)
  unfolding source_joined
  joined_grows iif s = when_grows p x _ (λ t. with_keepalive t g src) s keepalive_grows

  reached_grows : (iif : ℕ) (s : State) → FactsGrow p x s (spt_updated s g src iif)
  unfolding spt_updated
  reached_grows iif s = when_grows p x (is_spt_reached s g src iif) (λ t. with_spt_bit t g src) s spt_bit_grows

  watched_grows : (s : State) → FactsGrow p x s (watched s g src)
  unfolding watched
  watched_grows s = when_grows p x _ (λ t. with_keepalive t g src) s keepalive_grows

  wins_grows : (q : Key) → (p q ≡ true → x ≡ true) → (s : State) → FactsGrow p x s (wins s q).0
  unfolding wins
  wins_grows q named s = asserts_grow p x q named s _

  seen_grows : (q : Key) → (p q ≡ true → x ≡ true) → (s : State) → FactsGrow p x s (data_seen s q).0
  unfolding data_seen
  seen_grows q named s =
      grows_so p x s (could_assert_at s q && not (has_row s.asserts q)) (wins s q) (s, []) (wins_grows q named s)
      (same_facts p x s)

  stray_grows : (iif : ℕ) (s : State) → FactsGrow p x s (stray s g src iif).state
  unfolding stray
  stray_grows iif s = go (spt_bit s g src)
    where
      go : (b : Bool)
          → (let list : Set = cond b (inherited_olist s g src) (inherited_olist_rpt s g src) in
          let after : State × List Message =
          cond (list iif) (data_seen s (cond b (source_key iif g src) (star_key iif g))) (s, []) in FactsGrow p x s after.0)
      go true =
          grows_so p x s (inherited_olist s g src iif) (data_seen s (source_key iif g src)) (s, [])
          (seen_grows (source_key iif g src) (its iif) s) (same_facts p x s)
      go false =
          grows_so p x s (inherited_olist_rpt s g src iif) (data_seen s (star_key iif g)) (s, [])
          (seen_grows (star_key iif g) (isnt iif) s) (same_facts p x s)

  chosen_grows : (iif : ℕ) (s : State) → FactsGrow p x s (list_chosen s g src iif).state
  unfolding list_chosen
  chosen_grows iif s =
      either_grows p x s (is_rpf_interface s src iif && spt_bit s g src) _ _ (same_facts p x s)
      (either_grows p x s (is_rpf_interface_rp s g iif && not (spt_bit s g src)) _ (stray s g src iif) (watched_grows s)
      (stray_grows iif s))

  forwarded_grows : (iif : ℕ) (s : State) → FactsGrow p x s (forwarded s g src iif).state
  unfolding forwarded
  forwarded_grows iif s =
      let here : State = source_here s g src iif in
      let joined : State = source_joined here g src iif in
      let reached : State = spt_updated joined g src iif in
      then_grow p x s here _ (here_grows iif s)
      (then_grow p x here joined _ (joined_grows iif here)
      (then_grow p x joined reached _ (reached_grows iif joined) (chosen_grows iif reached)))

  received_grows : (s : State) (packet : Packet) (is_null : Bool)
      → FactsGrow p x s (register_received s packet g src is_null).state
  unfolding register_received register_at_rp
  received_grows s packet is_null =
      either_grows p x s (is_rp s g packet.destination) _ _
      (when_grows p x (spt_bit s g src || is_spt_wanted s) (λ t. with_keepalive t g src) s keepalive_grows)
      (same_facts p x s)

pub packet_named : (s : State) (g src iif : ℕ)
    → NewAreNamed (packet_keys s g src iif) s (forwarded s g src iif).state
unfolding names_source
packet_named s g src iif g' src' there =
    let p : Key → Bool = names_source g' src' in
    forwarded_grows p (list_any p (packet_keys s g src iif)) g src (λ i e. or_left (p (source_key 0 g src)) _ e)
    (λ i e. cc (e, star_names_none g' src' i g)) iif s there

-- whichever its keys, where its source is among them
pub source_named : (s : State) (g src iif : ℕ)
    → NewAreNamed (source_key 0 g src ∷ []) s (forwarded s g src iif).state
unfolding names_source
source_named s g src iif g' src' there =
    let p : Key → Bool = names_source g' src' in
    forwarded_grows p (list_any p (source_key 0 g src ∷ [])) g src (λ i e. or_left (p (source_key 0 g src)) false e)
    (λ i e. cc (e, star_names_none g' src' i g)) iif s there

pub register_named : (s : State) (packet : Packet) (g src : ℕ) (is_null : Bool)
    → NewAreNamed (source_key 0 g src ∷ []) s (register_received s packet g src is_null).state
unfolding names_source
register_named s packet g src is_null g' src' there =
    let p : Key → Bool = names_source g' src' in
    received_grows p (list_any p (source_key 0 g src ∷ [])) g src (λ i e. or_left (p (source_key 0 g src)) false e)
    (λ i e. cc (e, star_names_none g' src' i g)) s packet is_null there
