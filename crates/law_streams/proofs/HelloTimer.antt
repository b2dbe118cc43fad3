-- A router's Hello timer ends no later, or a Hello leaves, and then it ends within 30 s.
use Rattle.std.{proofs.{Common.{◌≡◌, ◌∙◌, ℕ, ◌+◌, ◌-◌, ◌≤◌, ◌==◌, nat_lt, ◌&&◌, min, Bool, true, false, List, [], ◌∷◌, ◌++◌, ◌⊎◌, inl, inr, map, Option, Some, None, is_some, length, Ok, refl, sym, ap, subst, arith, eq-eqb}, lemmas.{Bool.{both_ways, Decides.nat_tests}, List.Elements.{Contains-append_left, Contains-append_right}}}, specs.{List.Contains, Option.option_map_or}}
use Rattle.pim_ip.{specs.Ipv4.{all_pim_routers, pim_packet_text}}
use Rattle.pim_types.{specs.{Keys.{iface_in, iface_key, is_on, same_key}, declared.{event.Event.Event, fact.{InterfaceRow.InterfaceRow, Key.Key}, outcome.Emission.Emission, timer.TimerKind.TimerKind}}, proofs.Keys.{equal_keys}}
use Rattle.pim_wire.{specs.{Hellos.hello_text, Values.{Encapsulated, Null}, declared.hello.Hello.Hello as HelloValue}}
use Rattle.pim_model.{specs.{declared.accepted.Accepted.Accepted, Asserts.{assert_forgotten, assert_received, without_spt_bit}, Clearing.clear, Downstream.{downstream_expired, to_me}, Firing.{fire_all, fire_instant, fire_once, fire_row, fired, keepalive_due, settled}, Forwarding.{forwarded, source_here}, Hellos.{hello_due, hello_received, hello_triggered, hellos_triggered, neighbour_due, neighbour_replaced, neighbour_restarted}, Messages.Message, Querier.{each_in_turn, general_query_due, group_record_due, group_repeat_due, other_querier_gone, querier_up, query_seen, querying, querying_on, report_seen, source_record_due, source_repeat_due, sources_sent}, Records.{with_members, with_repeats_of_rows}, Registers.{register_due, register_stop_seen, settle_register, settle_registers, with_keepalive}, Reach.own_firing, Seen.seen, State.{Addressing, State, address_among, interfaces_of, is_up, value_among}, Cause.{done_as, if_done}, Judging.{Judged, judged}, Step.{Answered, advanced, change, concluded, done, iface_down, iface_up, rps_replaced, step, taken, taken_unless_full}, Tables.{Table, change_row, changed_entry, has_row, row_at}, Timers.{Ending, next_due, timers}, Upstream.{join_timer_due, moved_join_timer, moved_override_timer, override_timer_due, upstream}, Writing.{all_written, hello_emission, hellos_paid, on_link, pim_on_link, write_all, written}}}
use Rattle.law_settled.{proofs.{RowLaws.{row_change_away, row_kept, row_put_away}, FiringLaws.next_is_due, UnchangedLaws.{full_or_taken, taken_done}, SettlingLaws.{kept_by_clearing, kept_by_telling, kept_by_writing}, Unsettled.{Unsettled, settling_leaves}}}
use Rattle.law_streams.{specs.Copies.happens, proofs.{Turns.to_the_end, Lasting.{Beside, Lasting, Whole, assert_lasting, assert_whole, data_whole, lasting, pending_lasting, query_lasting, register_whole, report_lasting, seen_beside, still, to_me_whole, whole}, Fires.fired_up, Climbs.swapped, Leaves.{ends_configured, told_configured}, Passes.same_up, Taken.apart_keys}}
use Rattle.law_events.{proofs.Configured.{Ground, firing_ground}}

-- a Hello timer ends after a bound
abbrev pub is_late : ℕ → Option InterfaceRow → Bool
is_late b o = option_map_or (λ (r : InterfaceRow). nat_lt b r.hello_end) o false

-- an event that begins or ends the interface
abbrev pub moves_iface : ℕ → Option Accepted → Bool
moves_iface i (Some (Accepted.Up j)) = j.number == i
moves_iface i (Some (Accepted.Down j)) = j.number == i
moves_iface i o = false

module _ (i b : ℕ) where
  abbrev key : Key
  key = iface_key i

  abbrev By : Table InterfaceRow → Type 0
  By t = is_late b (row_at t key) ≡ false

  abbrev pub HelloBy : State → Type 0
  HelloBy s = By s.interfaces

  -- ---- rows that are changed in their places

  mapped_by : (change : Key × InterfaceRow → Key × InterfaceRow) → ((e : Key × InterfaceRow) → (change e).0 ≡ e.0)
      → ((e : Key × InterfaceRow) → nat_lt b (e.1).hello_end ≡ false → nat_lt b ((change e).1).hello_end ≡ false)
      → (t : Table InterfaceRow) → By t → By (map change t)
  unfolding row_at
  mapped_by change keys lowers [] f = f
  mapped_by change keys lowers (y ∷ ys) f = grind (arith, mapped_by change keys lowers ys, is_late)

  lower_is : (e n : ℕ) → nat_lt b e ≡ false → nat_lt b (min e n) ≡ false
  lower_is e n f = grind (arith, nat_tests, f)

  paid_by : (j : ℕ) (t : Table InterfaceRow) → By t → By (hellos_paid j t)
  unfolding hellos_paid
  paid_by j t f = grind (arith, mapped_by)

  triggered_by : (j end : ℕ) (t : Table InterfaceRow) → By t → By (hellos_triggered j end t)
  unfolding hellos_triggered
  triggered_by j end t f = grind (arith, mapped_by, lower_is)

  -- ---- what follows of a change

  written_by : (s : State) (ms : List Message) → HelloBy s → HelloBy (write_all s ms).0
  unfolding write_all
  written_by s ms f = kept_by_writing By paid_by (interfaces_of s) ms f

  cleared_by : (o s : State) → HelloBy s → HelloBy (clear o s).0
  unfolding settle_registers assert_forgotten without_spt_bit
  cleared_by o s f = kept_by_clearing HelloBy (λ u k h. h) (λ u k h. h) o s f

  told_by : (o a : State) (w : ℕ) → HelloBy a → HelloBy (upstream o a w).0
  unfolding moved_join_timer moved_override_timer
  told_by o a w f = kept_by_telling (λ n. Unit {0}) a w (λ d some. tt) HelloBy (λ u k x fair h. h) (λ u k x fair h. h) o f

  pub settled_by : (o : State) (c : State × List Message) (w : ℕ) → HelloBy c.0 → HelloBy (settled o c w).0
  unfolding settled
  settled_by o c w f = written_by _ _ (told_by o (clear o c.0).0 w (cleared_by o c.0 f))

  -- ---- an event's own change

  ifaces_by : (s t : State) → t.interfaces ≡ s.interfaces → HelloBy s → HelloBy t
  ifaces_by s t e f = ap (λ (d : Table InterfaceRow). is_late b (row_at d key)) e ∙ f

  hello_by : (s : State) (j address : ℕ) (h : HelloValue) (w : ℕ) → HelloBy s → HelloBy (hello_received s j address h w)
  unfolding hello_received neighbour_replaced neighbour_restarted hello_triggered
  hello_by s j address h w f = grind (arith, triggered_by)

  here_same : (s : State) (g src iif : ℕ) → (source_here s g src iif).interfaces ≡ s.interfaces
  unfolding source_here settle_register with_keepalive
  here_same s g src iif = grind arith

  key_off : (j : ℕ) → (j == i) ≡ false → same_key key (iface_key j) ≡ false
  key_off j off = go (same_key key (iface_key j)) refl
    where
      go : (c : Bool) → same_key key (iface_key j) ≡ c → c ≡ false
      go false e = refl
      go true e =
          let same : i ≡ j = ap iface_in (equal_keys key (iface_key j) e) in
          absurd (both_ways (j == i) off (eq-eqb j i (sym same)))

  up_by : (s : State) (w j : ℕ) → (j == i) ≡ false → HelloBy s → HelloBy (iface_up s w j).0
  unfolding iface_up querier_up querying
  up_by s w j off f = ap (is_late b) (row_put_away (iface_key j) key (apart_keys (iface_key j) key (key_off j off)) _ s.interfaces) ∙ f

  down_by : (s : State) (j : ℕ) → (j == i) ≡ false → HelloBy s → HelloBy (iface_down s j)
  unfolding iface_down
  down_by s j off f = ap (is_late b) (row_kept (is_on j) key (swapped j i off) s.interfaces) ∙ f

  pub change_by : (s : State) (w : ℕ) (a : Accepted) → moves_iface i (Some a) ≡ false → HelloBy s → HelloBy (change s w a).state
  unfolding change rps_replaced register_stop_seen
  change_by s w (Accepted.Advance moment) off f = f
  change_by s w (Accepted.Up j) off f = up_by s w j.number off f
  change_by s w (Accepted.Down j) off f = down_by s j.number off f
  change_by s w (Accepted.Routes routes) off f = f
  change_by s w (Accepted.Rps ranges) off f = f
  change_by s w (Accepted.Hello j from h) off f = hello_by s j.number from.bits h w f
  change_by s w (Accepted.JoinPruneToMe j m) off f = ifaces_by s (to_me s j.number m) (ap (λ (u : Whole). ((u.lasting).still).interfaces) (to_me_whole s j.number m)) f
  change_by s w (Accepted.JoinPruneSeen j m) off f = ifaces_by s (seen s w j.number m) (ap (λ (u : Beside). (u.still).interfaces) (seen_beside s w j.number m)) f
  change_by s w (Accepted.Assert j from a) off f = ifaces_by s (assert_received s j.number from.bits a).0 (ap (λ (u : Whole). ((u.lasting).still).interfaces) (assert_whole s j.number from.bits a)) f
  change_by s w (Accepted.Query j from q) off f = ifaces_by s (query_seen s j.number from.bits q) (ap (λ (u : Lasting). (u.still).interfaces) (query_lasting s j.number from.bits q)) f
  change_by s w (Accepted.Report j records) off f = ifaces_by s (report_seen s j.number records).0 (ap (λ (u : Lasting). (u.still).interfaces) (report_lasting s j.number records)) f
  change_by s w (Accepted.Data j p) off f =
      ifaces_by s (forwarded s p.destination p.source j.number).state (ap (λ (u : Whole). ((u.lasting).still).interfaces) (data_whole s p.destination p.source j.number)
      ∙ here_same s p.destination p.source j.number) f
  change_by s w (Accepted.Register p (Encapsulated inner)) off f = grind (arith, ifaces_by, whole, lasting, still, register_whole)
  change_by s w (Accepted.Register p (Null source group)) off f = grind (arith, ifaces_by, whole, lasting, still, register_whole)
  change_by s w (Accepted.RegisterStop from r) off f = f

  -- ---- a timer

  row_fires : {R : Type 0} (P : State → Type 0) (s : State) (o : Option R) (fire : R → State × List Message) → P s
      → ((r : R) → P (fire r).0) → P (option_map_or fire o (s, [])).0
  row_fires P s o fire f h = grind arith

  register_same : (s : State) (k : Key) (r : _) → (register_due s k r).0.interfaces ≡ s.interfaces
  unfolding register_due
  register_same s k r = grind arith

  abbrev is_hello : TimerKind → Bool
  is_hello TimerKind.Hello = true
  is_hello _ = false

  others_same : (s : State) (kind : TimerKind) (k : Key) → is_hello kind ≡ false → (fired s kind k).0.interfaces ≡ s.interfaces
  unfolding fired fire_row downstream_expired neighbour_due keepalive_due override_timer_due join_timer_due
      other_querier_gone querying_on group_repeat_due source_repeat_due sources_sent general_query_due
      group_record_due source_record_due with_members with_repeats_of_rows
  others_same s kind k e = grind (arith, row_fires, pending_lasting, assert_lasting, register_same)

  hello_away : (s : State) (k : Key) → same_key key k ≡ false → HelloBy s → HelloBy (fired s TimerKind.Hello k).0
  unfolding fired fire_row hello_due
  hello_away s k off f = grind (arith, is_late, row_change_away, apart_keys)

  all_good : (r : InterfaceRow) → nat_lt b r.hello_end ≡ false → (t : Table InterfaceRow) → is_late b (row_at (change_row (λ (old : InterfaceRow). Some r) key t) key) ≡ false
  unfolding row_at change_row changed_entry
  all_good r low [] = refl
  all_good r low (x ∷ xs) = grind (arith, all_good r low xs)

  own_by : (s : State) (r : InterfaceRow) → row_at s.interfaces key ≡ Some r → s.present + 30000 ≤ b → HelloBy (fired s TimerKind.Hello key).0
  unfolding fired fire_row hello_due
  own_by s r is soon = rw is (all_good (record r { hello_end = s.present + 30000 }) (grind (arith, nat_tests, soon)) s.interfaces)

-- ---- a Hello that leaves

pub record SendsHello (cs : Addressing) (i : ℕ) (sent : List Emission) : Type 0 where
  pub generation : ℕ
  pub is_sent : Contains sent
      (on_link i (pim_packet_text 1 (address_among cs i) all_pim_routers
      (hello_text (value_among (λ c. c.propagation_delay) cs i) (value_among (λ c. c.override_interval) cs i)
      (value_among (λ c. c.priority) cs i) generation)))

head_there : (x : Emission) → Contains (x ∷ []) x
head_there x = (0, omega arith, refl)

first_written : (s : State) (i : ℕ) (rest : List Message) → SendsHello s.configured i (write_all s (Message.Hello i ∷ rest)).1
unfolding write_all all_written each_in_turn written hello_emission pim_on_link
first_written s i rest =
    record {
      generation = option_map_or (λ (r : InterfaceRow). r.generation) (row_at s.interfaces (iface_key i)) 0;
      is_sent = Contains-append_left (_ ∷ []) _ _ (head_there _);
    }

module _ (i m : ℕ) (cs : Addressing) where
  pub record Based (t : State) : Type 0 where
    pub up : is_up t i ≡ true
    pub configured : t.configured ≡ cs

  abbrev Has : List Emission → Type 0
  Has sent = SendsHello cs i sent

  module _ (w : ℕ) (t : State) (d : Ending) (f : Based t) where
    abbrev opened : State
    opened = record t { present = d.end }

    abbrev c : State × List Message
    c = fired opened d.timer.kind d.timer.key

    abbrev u : State
    u = (fire_once w t d).0

    base_then : Based u
    unfolding fire_once own_firing
    base_then = record {
      up = same_up t c w i ∙ (fired_up 0 0 0 t opened d.timer.kind d.timer.key i ∙ f.up);
      configured = ap (λ (x : Unsettled). x.configured) (settling_leaves t c w) ∙ (ap (λ (x : Ground). x.configured) (firing_ground t d) ∙ f.configured);
    }

    own_kind : (kind : TimerKind) → is_hello i 0 kind ≡ true → kind ≡ TimerKind.Hello
    own_kind kind e = grind arith

    others_by : (x : ℕ) → (is_hello i x d.timer.kind && same_key (iface_key i) d.timer.key) ≡ false → HelloBy i x t → HelloBy i x u
    unfolding fire_once
    others_by x off h = settled_by i x t c w (go d.timer.kind refl (is_hello i x d.timer.kind) refl (same_key (iface_key i) d.timer.key) refl)
      where
        go : (kind : TimerKind) → d.timer.kind ≡ kind → (b : Bool) → is_hello i x d.timer.kind ≡ b → (k : Bool)
            → same_key (iface_key i) d.timer.key ≡ k → HelloBy i x c.0
        go kind is false e k same = ifaces_by i x opened c.0 (others_same i x opened d.timer.kind d.timer.key e) h
        go kind is true e true same = absurd (both_ways (is_hello i x d.timer.kind && same_key (iface_key i) d.timer.key) off (rw (e, same) refl))
        go kind is true e false same =
            let k : d.timer.kind ≡ TimerKind.Hello = own_kind d.timer.kind e in
            subst (λ (q : TimerKind). HelloBy i x (fired opened q d.timer.key).0) (sym k) (hello_away i x opened d.timer.key same h)

    -- ---- its own timer

    record HasRow : Type 0 where
      row : InterfaceRow
      is : row_at t.interfaces (iface_key i) ≡ Some row

    row_there : HasRow
    unfolding has_row
    row_there = go (row_at t.interfaces (iface_key i)) refl f.up
      where
        go : (o : Option InterfaceRow) → row_at t.interfaces (iface_key i) ≡ o → is_some o ≡ true → HasRow
        go None is e = cc e
        go (Some r) is e = record { row = r; is = is }

    says_hello : (fired opened TimerKind.Hello (iface_key i)).1 ≡ Message.Hello i ∷ []
    unfolding fired fire_row hello_due
    says_hello = rw (row_there).is refl

    sends_own : c.1 ≡ Message.Hello i ∷ [] → Has (settled t c w).1
    unfolding settled own_firing
    sends_own is =
        subst (λ (ms : List Message). Has (write_all (upstream t (clear t c.0).0 w).0 (ms ++ (clear t c.0).1 ++ (upstream t (clear t c.0).0 w).1)).1) (sym is)
        (subst (λ (x : Addressing). SendsHello x i (write_all (upstream t (clear t c.0).0 w).0 (Message.Hello i ∷ ((clear t c.0).1 ++ (upstream t (clear t c.0).0 w).1))).1)
        (told_configured t c w ∙ (sym (ends_configured t c w) ∙ same_cs)) (first_written (upstream t (clear t c.0).0 w).0 i ((clear t c.0).1 ++ (upstream t (clear t c.0).0 w).1)))
      where
        same_cs : (settled t c w).0.configured ≡ cs
        same_cs = ap (λ (x : Unsettled). x.configured) (settling_leaves t c w) ∙ (ap (λ (x : Ground). x.configured) (firing_ground t d) ∙ f.configured)

    abbrev pub Either : Type 0
    Either = ((x : ℕ) → HelloBy i x t → HelloBy i x u) ⊎ (Has (fire_once w t d).1 × HelloBy i (m + 30000) u)

    module _ (low : d.end ≤ m) where
      soon : d.end + 30000 ≤ m + 30000
      soon = omega (arith, low)

      own_turn : d.timer.kind ≡ TimerKind.Hello → same_key (iface_key i) d.timer.key ≡ true → Either
      unfolding fire_once
      own_turn kind same =
          let key : iface_key i ≡ d.timer.key = equal_keys (iface_key i) d.timer.key same in
          let at : c ≡ fired opened TimerKind.Hello (iface_key i) =
          ap (λ (q : TimerKind). fired opened q d.timer.key) kind ∙ ap (λ (k : Key). fired opened TimerKind.Hello k) (sym key) in
          inr (
            sends_own (ap (λ (x : State × List Message). x.1) at ∙ says_hello),
            settled_by i (m + 30000) t c w
                (subst (λ (x : State × List Message). HelloBy i (m + 30000) x.0) (sym at) (own_by i (m + 30000) opened (row_there).row (row_there).is soon)),
          )

      pub turn : Either
      turn = go (is_hello i 0 d.timer.kind) refl (same_key (iface_key i) d.timer.key) refl
        where
          go : (b : Bool) → is_hello i 0 d.timer.kind ≡ b → (k : Bool) → same_key (iface_key i) d.timer.key ≡ k → Either
          go true e true same = own_turn (own_kind d.timer.kind e) same
          go false e k same = inl (λ x h. others_by x (rw (kind_same x, e) refl) h)
            where
              kind_same : (x : ℕ) → is_hello i x d.timer.kind ≡ is_hello i 0 d.timer.kind
              kind_same x = refl
          go true e false same = inl (λ x h. others_by x (both_false (is_hello i x d.timer.kind) _ same) h)
            where
              both_false : (a b : Bool) → b ≡ false → (a && b) ≡ false
              both_false a b e = grind arith

  -- ---- time

  pub record Ends (x : ℕ) (t : State) : Type 0 where
    pub base : Based t
    pub ends : HelloBy i x t

  abbrev last : ℕ
  last = m + 30000

  abbrev Turned : ℕ → State × List Emission → Type 0
  Turned x p = Ends x p.0 ⊎ (Has p.1 × Ends last p.0)

  module _ (w : ℕ) (t : State) (d : Ending) (low : d.end ≤ m) where
    once_turns : (x : ℕ) → Ends x t → Turned x (fire_once w t d)
    once_turns x f = go (turn w t d f.base low)
      where
        go : (((y : ℕ) → HelloBy i y t → HelloBy i y (fire_once w t d).0) ⊎ (Has (fire_once w t d).1 × HelloBy i (m + 30000) (fire_once w t d).0))
            → Turned x (fire_once w t d)
        go (inl stays) = inl (record { base = base_then w t d f.base; ends = stays x f.ends })
        go (inr (has, by)) = inr (has, record { base = base_then w t d f.base; ends = by })

    once_stays : Ends last t → Ends last (fire_once w t d).0
    once_stays f = go (once_turns last f)
      where
        go : Turned last (fire_once w t d) → Ends last (fire_once w t d).0
        go (inl g) = g
        go (inr (has, g)) = g

  first : (xs ys : List Emission) → Has xs → Has (xs ++ ys)
  first xs ys f = record { generation = f.generation; is_sent = Contains-append_left xs ys _ f.is_sent }

  second : (xs ys : List Emission) → Has ys → Has (xs ++ ys)
  second xs ys f = record { generation = f.generation; is_sent = Contains-append_right xs ys _ f.is_sent }

  in_time : (a c : ℕ) → a ≤ c → c ≤ m → a ≤ m
  in_time a c e f = omega (arith, e, f)

  module _ (w : ℕ) where
    instant_turns : (t : State) (e : Ending) → e.end ≤ m → (x : ℕ) → Ends x t → Turned x (fire_instant w t e)
    unfolding fire_instant
    instant_turns t e low x f =
        to_the_end (next_due e.end) (fire_once w) Has (Ends x) (Ends last) first second
        (λ u d there h. once_turns w u d (in_time d.end e.end (next_is_due e.end u d there) low) x h)
        (λ u d h there. once_stays w u d (in_time d.end e.end (next_is_due e.end u d there) low) h) (length (timers t) + 1) t f

    instant_stays : (t : State) (e : Ending) → e.end ≤ m → Ends last t → Ends last (fire_instant w t e).0
    instant_stays t e low f = go (instant_turns t e low last f)
      where
        go : Turned last (fire_instant w t e) → Ends last (fire_instant w t e).0
        go (inl g) = g
        go (inr (has, g)) = g

    all_turns : (t : State) (x : ℕ) → Ends x t → Turned x (fire_all w m t)
    unfolding fire_all
    all_turns t x f =
        to_the_end (next_due m) (fire_instant w) Has (Ends x) (Ends last) first second
        (λ u d there h. instant_turns u d (next_is_due m u d there) x h)
        (λ u d h there. instant_stays u d (next_is_due m u d there) h) (m + 2 - t.present) t f

    pub time_turns : (t : State) (x : ℕ) → Ends x t → HelloBy i x (advanced t w m).state
        ⊎ (Has (advanced t w m).emissions × HelloBy i (((advanced t w m).state).present + 30000) (advanced t w m).state)
    unfolding advanced
    time_turns t x f = go (all_turns t x f)
      where
        go : Turned x (fire_all w m t) → HelloBy i x (fire_all w m t).0 ⊎ (Has (fire_all w m t).1 × HelloBy i (m + 30000) (fire_all w m t).0)
        go (inl g) = inl g.ends
        go (inr (has, g)) = inr (has, g.ends)

-- ---- any event

module _ (i : ℕ) (s : State) (e : Event) (up : is_up s i ≡ true) (x : ℕ) (by : HelloBy i x s) where
  abbrev pub HelloLasts : Answered → Type 0
  HelloLasts a = HelloBy i x a.state ⊎ (SendsHello s.configured i a.emissions × HelloBy i ((a.state).present + 30000) a.state)

  by_time : (m : ℕ) → HelloLasts (advanced s e.draw m)
  by_time m = time_turns i m s.configured e.draw s x (record { base = record { up = up; configured = refl }; ends = by })

  by_done : (a : Accepted) → moves_iface i (Some a) ≡ false → HelloLasts (done s e.draw (change s e.draw a))
  unfolding done
  by_done a off = inl (settled_by i x s ((change s e.draw a).state, (change s e.draw a).messages) e.draw (change_by i x s e.draw a off by))

  by_taken : (a : Accepted) → moves_iface i (Some a) ≡ false → HelloLasts (taken s e.draw a)
  unfolding taken
  by_taken a off = grind (arith, by_time, by_done)

  by_full : (a : Accepted) (b : Bool) → moves_iface i (if_done (full_or_taken s e.draw a b).answer (Ok a)) ≡ false → HelloLasts (full_or_taken s e.draw a b)
  by_full a b off = grind (arith, by_taken, taken_done)

  by_judged : (j : Judged) → moves_iface i (if_done (concluded s (taken_unless_full s e.draw) j).answer j) ≡ false
      → HelloLasts (concluded s (taken_unless_full s e.draw) j)
  unfolding taken_unless_full
  by_judged j off = grind (arith, by_full)

  -- Whatever event comes, unless the interface comes up or goes down, the Hello timer ends no later, or a Hello leaves
  -- and it ends within 30 s.
  pub each_event_hello : moves_iface i (done_as (happens s e)) ≡ false → HelloLasts (step s e)
  unfolding step done_as
  each_event_hello off = by_judged (judged s e.kind) off
