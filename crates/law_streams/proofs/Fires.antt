-- The expiry of a timer ends no stream, but that of the Join's own holdtime.
use Rattle.std.{proofs.Common.{◌≡◌, ◌∙◌, ℕ, ◌+◌, ◌-◌, Bool, true, false, not, cond, List, [], length, Option, Some, None, is_some, refl, sym, ap, subst, arith}, specs.Option.option_map_or}
use Rattle.pim_types.{specs.{Keys.{iface_key, same_key, source_key, star_key}, declared.{fact.{AssertRole.AssertRole, AssertRow.AssertRow, DownstreamRow.DownstreamRow, Key.Key, SourceRow.SourceRow}, timer.TimerKind.TimerKind}}, proofs.Keys.equal_keys}
use Rattle.law_streams.{proofs.{Taken.apart_keys, Rows.{changed_good, dropped_good}, Settles.{NoWorse, bit_of, settling_no_worse}, Tests.is_true, Ways.SameGround}}
use Rattle.pim_model.{specs.{Asserts.{assert_due, assert_forgotten, wins_again}, Downstream.{downstream_expired, prune_pending_due}, Firing.{fire_all, fire_instant, fire_once, fire_row, fired, keepalive_due, settled}, Hellos.{hello_due, neighbour_due}, Messages.Message, Querier.{general_query_due, group_record_due, group_repeat_due, other_querier_gone, querying_on, source_record_due, source_repeat_due, sources_sent}, Reach.own_firing, Records.{with_members, with_repeats_of_rows}, Registers.register_due, Sets.{assert_source, assert_star, is_loser, is_winner, spt_bit}, State.{State, is_up}, Step.advanced, Tables.{Table, change_row, has_row, row_at}, Timers.{Ending, next_due, timers}, Upstream.{join_timer_due, override_timer_due}}}
use Rattle.law_settled.{proofs.{RowLaws.{has_row_replaced, row_change_away}, TurnLaws.kept_to_the_end}}
use Rattle.law_events.{proofs.Configured.{Ground, firing_ground, ground}}

-- a row that is replaced by one with SPTbit set has it set
abbrev clear_of : Option SourceRow → Bool
clear_of o = option_map_or (λ (r : SourceRow). not r.spt) o false

replaced_on : (n : SourceRow) → n.spt ≡ true → (k q : Key) (t : Table SourceRow) → bit_of (row_at t q) ≡ true
    → bit_of (row_at (change_row (λ old. Some n) k t) q) ≡ true
unfolding has_row
replaced_on n set k q t e =
    set_in (row_at (change_row (λ old. Some n) k t) q)
    (has_row_replaced q n k t ∙ there (row_at t q) e)
    (changed_good clear_of refl (λ old. Some n) (λ x y is. subst (λ (o : Option SourceRow). clear_of o ≡ false) is (ap not set)) k q t
    (unclear (row_at t q) e))
  where
    there : (o : Option SourceRow) → bit_of o ≡ true → is_some o ≡ true
    there None e = cc e
    there (Some r) e = refl

    unclear : (o : Option SourceRow) → bit_of o ≡ true → clear_of o ≡ false
    unclear None e = refl
    unclear (Some r) e = ap not e

    set_in : (o : Option SourceRow) → is_some o ≡ true → clear_of o ≡ false → bit_of o ≡ true
    set_in None e f = cc e
    set_in (Some r) e f = is_true r.spt f

module _ (g src down : ℕ) (b : State) where
  -- what holds at each firing of an Advance, by the state that it found
  pub record Goes (t : State) : Type 0 where
    pub ground : SameGround b t
    pub group : is_loser (assert_star t g down) ≡ false
    pub source : is_loser (assert_source t g src down) ≡ false
    pub spt : spt_bit b g src ≡ false → spt_bit t g src ≡ false

  pub goes_on : (s t : State) → NoWorse g src down s t → Goes s → Goes t
  goes_on s t n f = record {
    ground = record {
      configured = (n.ground).configured ∙ (f.ground).configured;
      routes = (n.ground).routes ∙ (f.ground).routes;
      ranges = (n.ground).ranges ∙ (f.ground).ranges;
      up = λ i. (n.ground).up i ∙ (f.ground).up i;
    };
    group = n.group f.group;
    source = n.source f.source;
    spt = λ e. n.spt (f.spt e);
  }

  -- ---- by its parts

  abbrev AllUp : State → State → Type 0
  AllUp s t = (i : ℕ) → is_up t i ≡ is_up s i

  row_fires : {R : Type 0} (P : State → Type 0) (s : State) (o : Option R) (fire : R → State × List Message) → P s
      → ((r : R) → o ≡ Some r → P (fire r).0) → P (option_map_or fire o (s, [])).0
  row_fires P s o fire f h = grind arith

  assert_due_parts : (s : State) (k : Key) (r : AssertRow) → AllUp s (assert_due s k r).0
  unfolding assert_due wins_again assert_forgotten
  assert_due_parts s k r i = grind arith

  register_due_parts : (s : State) (k : Key) (r : _) → AllUp s (register_due s k r).0
  unfolding register_due
  register_due_parts s k r i = grind arith

  pending_parts : (s : State) (k : Key) (r : DownstreamRow) → AllUp s (prune_pending_due s k r).0
  unfolding prune_pending_due
  pending_parts s k r i = grind arith

  pub fired_up : (s : State) (kind : TimerKind) (k : Key) → AllUp s (fired s kind k).0
  unfolding fired fire_row downstream_expired neighbour_due keepalive_due override_timer_due join_timer_due
      other_querier_gone querying_on group_repeat_due source_repeat_due sources_sent general_query_due hello_due
      group_record_due source_record_due with_members with_repeats_of_rows
  fired_up s TimerKind.PrunePending k i = grind (arith, row_fires, pending_parts)
  fired_up s TimerKind.DownstreamExpiry k i = refl
  fired_up s TimerKind.Assert k i = grind (arith, row_fires, assert_due_parts)
  fired_up s TimerKind.Register k i = grind (arith, row_fires, register_due_parts)
  fired_up s TimerKind.Keepalive k i = row_fires (λ t. is_up t i ≡ is_up s i) s (row_at s.sources k) _ refl (λ r there. refl)
  fired_up s TimerKind.GroupRepeat k i = row_fires (λ t. is_up t i ≡ is_up s i) s (row_at s.group_repeats k) _ refl (λ r there. refl)
  fired_up s TimerKind.GeneralQuery k i = row_fires (λ t. is_up t i ≡ is_up s i) s (row_at s.queriers k) _ refl (λ r there. refl)
  fired_up s TimerKind.Hello k i =
      row_fires (λ t. is_up t i ≡ is_up s i) s (row_at s.interfaces k) _ refl
      (λ r there. has_row_replaced (iface_key i) _ k s.interfaces)
  fired_up s TimerKind.GroupRecord k i = refl
  fired_up s TimerKind.SourceRecord k i = refl
  fired_up s TimerKind.Neighbour k i = refl
  fired_up s TimerKind.Override k i = refl
  fired_up s TimerKind.Join k i = refl
  fired_up s TimerKind.OtherQuerier k i = refl
  fired_up s TimerKind.SourceRepeat k i = refl

  -- ---- asserts

  abbrev Unlost : Key → State → Type 0
  Unlost q t = is_loser (row_at t.asserts q) ≡ false

  assert_unlost : (q : Key) (s : State) (k : Key) (r : AssertRow) → Unlost q s → Unlost q (assert_due s k r).0
  unfolding assert_due wins_again assert_forgotten
  assert_unlost q s k r f = go (is_winner (Some r)) refl
    where
      winner : (role : AssertRole) → elim role [ AssertRole.Winner ↦ true | AssertRole.Loser ↦ false ] ≡ true
          → elim role [ AssertRole.Loser ↦ true | AssertRole.Winner ↦ false ] ≡ false
      winner AssertRole.Winner e = refl
      winner AssertRole.Loser e = cc e

      go : (w : Bool) → is_winner (Some r) ≡ w → Unlost q (cond w (wins_again s k r) (assert_forgotten s k, [])).0
      go true is =
          changed_good is_loser refl (λ (old : AssertRow). Some (record r { end = s.present + 177000 }))
          (λ x y e. subst (λ (o : Option AssertRow). is_loser o ≡ false) e (winner r.role is)) k q s.asserts f
      go false is = dropped_good is_loser refl k q s.asserts f

  register_asserts : (s : State) (k : Key) (r : _) → (register_due s k r).0.asserts ≡ s.asserts
  unfolding register_due
  register_asserts s k r = grind arith

  pending_asserts : (s : State) (k : Key) (r : DownstreamRow) → (prune_pending_due s k r).0.asserts ≡ s.asserts
  unfolding prune_pending_due
  pending_asserts s k r = grind arith

  pub fired_unlost : (q : Key) (s : State) (kind : TimerKind) (k : Key) → Unlost q s → Unlost q (fired s kind k).0
  unfolding fired fire_row downstream_expired neighbour_due keepalive_due override_timer_due join_timer_due
      other_querier_gone querying_on group_repeat_due source_repeat_due sources_sent general_query_due hello_due
      group_record_due source_record_due with_members with_repeats_of_rows
  fired_unlost q s kind k f = grind (arith, row_fires, pending_asserts, assert_unlost, register_asserts)

  -- ---- SPTbit, which only an event sets

  abbrev Off : Key → State → Type 0
  Off q t = bit_of (row_at t.sources q) ≡ false

  keepalive_off : (q : Key) (s : State) (k : Key) (r : SourceRow) → row_at s.sources k ≡ Some r → Off q s
      → Off q (keepalive_due s k r)
  unfolding keepalive_due
  keepalive_off q s k r there f = go (same_key q k) refl
    where
      change : SourceRow → Option SourceRow
      change old = cond r.spt (Some (record r { keepalive = None })) None

      bit_is : same_key q k ≡ true → r.spt ≡ false
      bit_is same = sym (ap bit_of (ap (row_at s.sources) (equal_keys q k same) ∙ there)) ∙ f

      none_left : (b : Bool) → b ≡ false → (y : SourceRow) → cond b (Some (record r { keepalive = None })) None ≡ Some y
          → bit_of (Some y) ≡ false
      none_left true e y h = cc e
      none_left false e y h = cc h

      go : (b : Bool) → same_key q k ≡ b → bit_of (row_at (change_row change k s.sources) q) ≡ false
      go true same = changed_good bit_of refl change (λ x y e. none_left r.spt (bit_is same) y e) k q s.sources f
      go false off = ap bit_of (row_change_away k q (apart_keys k q off) change s.sources) ∙ f

  assert_sources : (s : State) (k : Key) (r : AssertRow) → (assert_due s k r).0.sources ≡ s.sources
  unfolding assert_due wins_again assert_forgotten
  assert_sources s k r = grind arith

  register_sources : (s : State) (k : Key) (r : _) → (register_due s k r).0.sources ≡ s.sources
  unfolding register_due
  register_sources s k r = grind arith

  pending_sources : (s : State) (k : Key) (r : DownstreamRow) → (prune_pending_due s k r).0.sources ≡ s.sources
  unfolding prune_pending_due
  pending_sources s k r = grind arith

  fired_off : (q : Key) (s : State) (kind : TimerKind) (k : Key) → Off q s → Off q (fired s kind k).0
  unfolding fired fire_row downstream_expired neighbour_due override_timer_due join_timer_due
      other_querier_gone querying_on group_repeat_due source_repeat_due sources_sent general_query_due hello_due
      group_record_due source_record_due with_members with_repeats_of_rows
  fired_off q s kind k f =
      grind (arith, row_fires, bit_of, pending_sources, assert_sources, register_sources, keepalive_off)

  -- ---- SPTbit, which no end of a timer clears by itself

  abbrev On : Key → State → Type 0
  On q t = bit_of (row_at t.sources q) ≡ true

  keepalive_on : (q : Key) (s : State) (k : Key) (r : SourceRow) → row_at s.sources k ≡ Some r → On q s
      → On q (keepalive_due s k r)
  unfolding keepalive_due
  keepalive_on q s k r there f = go (same_key q k) refl
    where
      change : SourceRow → Option SourceRow
      change old = cond r.spt (Some (record r { keepalive = None })) None

      bit_is : same_key q k ≡ true → r.spt ≡ true
      bit_is same = sym (ap bit_of (ap (row_at s.sources) (equal_keys q k same) ∙ there)) ∙ f

      go : (b : Bool) → same_key q k ≡ b → bit_of (row_at (change_row change k s.sources) q) ≡ true
      go true same =
          subst (λ (b : Bool). bit_of (row_at (change_row (λ old. cond b (Some (record r { keepalive = None })) None) k s.sources) q) ≡ true)
          (sym (bit_is same)) (replaced_on (record r { keepalive = None }) (bit_is same) k q s.sources f)
      go false off = ap bit_of (row_change_away k q (apart_keys k q off) change s.sources) ∙ f

  pub fired_on : (q : Key) (s : State) (kind : TimerKind) (k : Key) → On q s → On q (fired s kind k).0
  unfolding fired fire_row downstream_expired neighbour_due override_timer_due join_timer_due
      other_querier_gone querying_on group_repeat_due source_repeat_due sources_sent general_query_due hello_due
      group_record_due source_record_due with_members with_repeats_of_rows
  fired_on q s kind k f =
      grind (arith, row_fires, bit_of, pending_sources, assert_sources, register_sources, keepalive_on)

  -- ---- together

  module _ (w : ℕ) where
    pub own_goes : (t : State) (d : Ending) → Goes t
        → Goes (fired (record t { present = d.end }) d.timer.kind d.timer.key).0
    unfolding own_firing spt_bit has_row
    own_goes t d f =
        let opened : State = record t { present = d.end } in
        let same : ground (own_firing t d) ≡ ground t = firing_ground t d in
        record {
          ground = record {
            configured = ap (λ (x : Ground). x.configured) same ∙ (f.ground).configured;
            routes = ap (λ (x : Ground). x.routes) same ∙ (f.ground).routes;
            ranges = ap (λ (x : Ground). x.ranges) same ∙ (f.ground).ranges;
            up = λ i. fired_up opened d.timer.kind d.timer.key i ∙ (f.ground).up i;
          };
          group = fired_unlost (star_key down g) opened d.timer.kind d.timer.key f.group;
          source = fired_unlost (source_key down g src) opened d.timer.kind d.timer.key f.source;
          spt = λ e. fired_off (source_key 0 g src) opened d.timer.kind d.timer.key (f.spt e);
        }

    pub once_goes : (t : State) (d : Ending) → Goes t → Goes (fire_once w t d).0
    unfolding fire_once
    once_goes t d f =
        let c : State × List Message = fired (record t { present = d.end }) d.timer.kind d.timer.key in
        goes_on c.0 (settled t c w).0 (settling_no_worse t c w g src down) (own_goes t d f)

    instant_goes : (t : State) (e : Ending) → Goes t → Goes (fire_instant w t e).0
    unfolding fire_instant
    instant_goes t e f =
        kept_to_the_end (next_due e.end) (fire_once w) Goes (λ u d h there. once_goes u d h) (length (timers t) + 1) t f

    pub time_goes : (m : ℕ) (t : State) → Goes t → Goes (advanced t w m).state
    unfolding advanced fire_all spt_bit
    time_goes m t f =
        let h : Goes (fire_all w m t).0 =
        kept_to_the_end (next_due m) (fire_instant w) Goes (λ u d k there. instant_goes u d k) (m + 2 - t.present) t f in
        record {
          ground = record {
            configured = (h.ground).configured;
            routes = (h.ground).routes;
            ranges = (h.ground).ranges;
            up = (h.ground).up;
          };
          group = h.group;
          source = h.source;
          spt = h.spt;
        }
