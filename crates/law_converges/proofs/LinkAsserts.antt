-- An Assert that a router takes: who gives way to it, and who answers it.
use Rattle.std.{proofs.{Common.{◌≡◌, ◌∙◌, ℕ, ◌+◌, ◌≤◌, ◌&&◌, ◌||◌, ◌==◌, not, nat_lt, Bool, true, false, cond, is_some, List, [], ◌∷◌, ◌++◌, ◌⊎◌, inl, inr, length, Option, Some, None, Ok, refl, sym, ap, subst, arith, append-nil}, lemmas.{Bool.Decides.nat_tests, List.Elements.{Contains-append_left}}}, specs.{List.Contains, Option.option_map_or}}
use Rattle.pim_ip.{specs.{declared.addr.Addr.Addr, Addr.addr, Checksum.with_checksum, Ipv4.{Packet, all_pim_routers, frame_limit, header_text, ipv4_reading, is_source, packet_limit, pim_packet_text, protocol_pim}, View.written_packet}, proofs.ViewLemmas.written_reads}
use Rattle.pim_types.{specs.{Keys.{group_in, iface_in, same_key, source_in, source_key, star_key}, declared.{config.IfaceId.IfaceId, event.{Event.Event, EventKind.EventKind}, fact.{AssertMetric.AssertMetric, AssertRow.AssertRow, Key.Key}, outcome.Emission.Emission}}, proofs.Keys.{equal_keys, same_key_same}}
use Rattle.pim_wire.{specs.{Asserts.assert_text, Encoded.pim_text, Messages.pim_reading, declared.{assert.Assert.Assert as AssertMessage, view.PimView.PimView}}, proofs.Laws.assert_reads}
use Rattle.pim_model.{specs.{declared.accepted.Accepted.Accepted, Asserts.{assert_as_loser, assert_as_winner, assert_at, assert_forgotten, assert_in_no_info, assert_message, assert_received, asserted_metric, is_acceptable, is_challenge, is_inferior, is_of_tree, is_tracking_at, loses, loses_first, my_metric_at, theirs_of, wins_again, with_spt_bit, without_spt_bit}, Cause.done_as, Clearing.clear, Firing.settled, Judging.{assert_judged, frame_judged, judged, packet_judged, pim_judged, pim_message_judged}, Messages.Message, Network.{Deliver, Move, Network, Station, frame_at, moved, network_ran, station_at}, Querier.each_in_turn, Registers.settle_registers, Sets.{is_better, is_winner}, State.{Addressing, State, address_among, iface_count, my_address}, Step.{Answered, Change, change, done, step}, Tables.{Table, drop_at, has_row, row_at}, Upstream.upstream, Writing.{all_written, emission_of, on_link, pim_on_link, with_owed_hello, write_all, written}}}
use Rattle.law_settled.{proofs.{RowLaws.{has_row_without, row_drop_away, row_put}, SettlingLaws.kept_by_clearing, Unsettled.{Unsettled, Untold, cleared_in_the_end, settling_leaves}}}
use Rattle.law_streams.{specs.{Adjacent.Adjacent, Copies.happens, Joins.Hears}, proofs.{Deliveries.{IsNewOn, IsStepped, is_delivered, is_stepped}, Leaves.{ends_configured, taken_is_done, told_configured}, Made.step_taken, Climbing.frames_stay, Lasting.{Whole, assert_whole}, Passes.done_if, ReadBack.within_range}}
use Rattle.law_converges.{specs.LinkAsserts.{AnswersBy, CanGiveWay, GivesWayToAssert, HasLost, IsAsserted, IsSayable, LosesTo, OneWinnerIsLeft, WinnerAnswersAssert, assert_packet, gives_way, is_about, key_about, loses_to, lost_to, said}, proofs.{AssertRows.assert_by_row, TakesOver.moved_so}}

-- ---- rows

pub none_there : {X : Type 0} (o : Option X) → is_some o ≡ false → o ≡ None
none_there None e = refl
none_there (Some x) e = absurd cc

gone : (k : Key) (rows : Table AssertRow) → row_at (drop_at rows k) k ≡ None
unfolding has_row
gone k rows =
    none_there (row_at (drop_at rows k) k)
    (has_row_without k k rows ∙ ap (λ (b : Bool). not b && has_row rows k) (same_key_same k))

-- without the row of a key that of another is there, or was the same
pub drop_either : (j k : Key) (rows : Table AssertRow) → (row_at (drop_at rows j) k ≡ None) ⊎ (row_at (drop_at rows j) k ≡ row_at rows k)
drop_either j k rows = go (same_key j k) refl
  where
    differs : same_key j k ≡ false → j ≡ k → ⊥
    differs off e = let same : same_key j k ≡ true = ap (same_key j) (sym e) ∙ same_key_same j in cc

    go : (b : Bool) → same_key j k ≡ b → (row_at (drop_at rows j) k ≡ None) ⊎ (row_at (drop_at rows j) k ≡ row_at rows k)
    go true same = inl (subst (λ (x : Key). row_at (drop_at rows x) k ≡ None) (sym (equal_keys j k same)) (gone k rows))
    go false off = inr (row_drop_away j k (differs off) rows)

module _ (k : Key) (r : AssertRow) where
  -- the row of a key, or none
  abbrev RowOr : State → Type 0
  RowOr s = (row_at s.asserts k ≡ None) ⊎ (row_at s.asserts k ≡ Some r)

  dropped : (s : State) (j : Key) → RowOr s → RowOr (assert_forgotten s j)
  unfolding assert_forgotten
  dropped s j f = go (drop_either j k s.asserts) f
    where
      go : (row_at (drop_at s.asserts j) k ≡ None) ⊎ (row_at (drop_at s.asserts j) k ≡ row_at s.asserts k)
          → (row_at s.asserts k ≡ None) ⊎ (row_at s.asserts k ≡ Some r)
          → (row_at (drop_at s.asserts j) k ≡ None) ⊎ (row_at (drop_at s.asserts j) k ≡ Some r)
      go (inl none) f = inl none
      go (inr same) (inl e) = inl (same ∙ e)
      go (inr same) (inr e) = inr (same ∙ e)

  -- what follows from a change puts no row
  pub settled_row : (o : State) (c : State × List Message) (w : ℕ) → RowOr c.0 → RowOr (settled o c w).0
  unfolding settle_registers without_spt_bit
  settled_row o c w f =
      subst (λ (t : Table AssertRow). (row_at t k ≡ None) ⊎ (row_at t k ≡ Some r))
      (sym (ap (λ (u : Untold). u.asserts) (cleared_in_the_end o c w)))
      (kept_by_clearing RowOr (λ s j g. dropped s j g) (λ s j g. g) o c.0 f)

module _ (i : ℕ) (a : AssertMessage) where
  abbrev its_key : Key
  its_key = key_about i a

  -- the machine's key tells what the Assert is about
  pub its_iface : iface_in its_key ≡ i
  its_iface = grind arith

  pub its_group : group_in its_key ≡ a.group.bits
  its_group = grind arith

  pub its_source : source_in its_key ≡ a.source.bits
  its_source = go (a.source.bits == 0) refl
    where
      zero_is : (n : ℕ) → (n == 0) ≡ true → 0 ≡ n
      zero_is n e = grind (arith, nat_tests, e)

      go : (b : Bool) → (a.source.bits == 0) ≡ b → source_in its_key ≡ a.source.bits
      go true e = ap (λ (c : Bool). source_in (cond c (star_key i a.group.bits) (source_key i a.group.bits a.source.bits))) e ∙ zero_is a.source.bits e
      go false e = ap (λ (c : Bool). source_in (cond c (star_key i a.group.bits) (source_key i a.group.bits a.source.bits))) e

-- ---- an Assert that is written

first_written : (t : State) (j g src : ℕ) (m : AssertMetric) (rest : List Message)
    → Contains (write_all t (Message.Assert j g src m ∷ rest)).1 (on_link j (assert_packet (address_among t.configured j) g src m))
unfolding write_all all_written each_in_turn written with_owed_hello emission_of pim_on_link
first_written t j g src m rest = grind (arith, Contains-append_left)

module _ (o : State) (c : State × List Message) (w : ℕ) where
  abbrev follows : List Message
  follows = (clear o c.0).1 ++ (upstream o (clear o c.0).0 w).1

  -- the Assert of a change leaves with what follows
  pub assert_leaves : (j g src : ℕ) (m : AssertMetric) → c.1 ≡ Message.Assert j g src m ∷ []
      → Contains (settled o c w).1 (on_link j (assert_packet (address_among (c.0).configured j) g src m))
  unfolding settled
  assert_leaves j g src m is =
      subst (λ (ms : List Message). Contains (write_all (upstream o (clear o c.0).0 w).0 (ms ++ (clear o c.0).1 ++ (upstream o (clear o c.0).0 w).1)).1
      (on_link j (assert_packet (address_among (c.0).configured j) g src m))) (sym is)
      (subst (λ (x : Addressing). Contains (write_all (upstream o (clear o c.0).0 w).0 (Message.Assert j g src m ∷ follows)).1
      (on_link j (assert_packet (address_among x j) g src m)))
      (told_configured o c w ∙ (sym (ends_configured o c w) ∙ ap (λ (u : Unsettled). u.configured) (settling_leaves o c w)))
      (first_written (upstream o (clear o c.0).0 w).0 j g src m follows))

pub done_sends : (s : State) (w : ℕ) (c : Change) (x : Emission) → Contains (settled s (c.state, c.messages) w).1 x
    → Contains (done s w c).emissions x
unfolding done
done_sends s w c x has =
    Contains-append_left ((settled s (c.state, c.messages) w).1 ++ c.copies) c.registered x
    (Contains-append_left (settled s (c.state, c.messages) w).1 c.copies x has)

-- ---- an Assert as an event of one machine

module _ (s : State) (i from : ℕ) (a : AssertMessage) (r : AssertRow) (about : is_about a ≡ true) (row : row_at s.asserts (key_about i a) ≡ Some r) where
  abbrev k : Key
  k = key_about i a

  abbrev theirs : AssertMetric
  theirs = theirs_of a from

  at_star : (a.source.bits == 0) ≡ true → (let x : State × List Message = assert_at s k theirs in (assert_received s i from a ≡ (x.0, x.1)))
  unfolding assert_received
  at_star e = grind arith

  at_source : (a.source.bits == 0) ≡ false → (let x : State × List Message = assert_at s k theirs in (assert_received s i from a ≡ (x.0, x.1 ++ [])))
  unfolding assert_received has_row
  at_source e = grind arith

  state_is : (assert_received s i from a).0 ≡ (assert_at s k theirs).0
  state_is = go (a.source.bits == 0) refl
    where
      go : (b : Bool) → (a.source.bits == 0) ≡ b → (assert_received s i from a).0 ≡ (assert_at s k theirs).0
      go true e = ap (λ (x : State × List Message). x.0) (at_star e)
      go false e = ap (λ (x : State × List Message). x.0) (at_source e)

  messages_are : (assert_received s i from a).1 ≡ (assert_at s k theirs).1
  messages_are = go (a.source.bits == 0) refl
    where
      go : (b : Bool) → (a.source.bits == 0) ≡ b → (assert_received s i from a).1 ≡ (assert_at s k theirs).1
      go true e = ap (λ (x : State × List Message). x.1) (at_star e)
      go false e = ap (λ (x : State × List Message). x.1) (at_source e) ∙ append-nil (assert_at s k theirs).1

  gives : gives_way s k r theirs ≡ true → (assert_at s k theirs).0 ≡ loses s k theirs
  unfolding assert_at assert_as_winner assert_as_loser
  gives e = grind arith

  answers_it : is_winner (Some r) ≡ true → is_better theirs r.winner ≡ false → is_inferior s k theirs ≡ true
      → (assert_at s k theirs).1 ≡ Message.Assert (iface_in k) (group_in k) (source_in k) (asserted_metric s k) ∷ []
  unfolding assert_at assert_as_winner wins_again assert_message
  answers_it wins off inferior = grind arith

  pub row_lost : gives_way s k r theirs ≡ true → row_at (assert_received s i from a).0.asserts k ≡ Some (lost_to theirs (s.present + 180000))
  unfolding loses
  row_lost e = ap (λ (x : State). row_at x.asserts k) (state_is ∙ gives e) ∙ row_put k (lost_to theirs (s.present + 180000)) s.asserts

  -- where a winner answers it its timer runs again
  pub again : is_winner (Some r) ≡ true → is_better theirs r.winner ≡ false → is_inferior s k theirs ≡ true
      → (assert_received s i from a).0 ≡ (wins_again s k r).0
  unfolding assert_at assert_as_winner
  again wins off inferior = state_is ∙ is
    where
      is : (assert_at s k theirs).0 ≡ (wins_again s k r).0
      is = grind arith

-- who gives way to it loses to it
pub by_row : (s : State) (k : Key) (theirs : AssertMetric) (r : AssertRow) → row_at s.asserts k ≡ Some r → gives_way s k r theirs ≡ true
    → loses_to s k theirs ≡ true
by_row s k theirs r found gives = rw found gives

-- whoever loses to it has lost, whatever it had
module _ (s : State) (i from : ℕ) (a : AssertMessage) (about : is_about a ≡ true) where
  abbrev its : Key
  its = key_about i a

  abbrev better : AssertMetric
  better = theirs_of a from

  module _ (none : row_at s.asserts its ≡ None) (loses : (is_acceptable s its better && (is_of_tree its better && is_tracking_at s its)) ≡ true) where
    no_worse : (m q : AssertMetric) → is_better m q ≡ true → is_better q m ≡ false
    unfolding is_better
    no_worse m q e = grind (arith, nat_tests, e)

    no_challenge : is_challenge s its better ≡ false
    no_challenge = off _ _ _ _ _ _ _ _ loses (no_worse better (my_metric_at s its))
      where
        off : (could star rpt mine theirs finite bounded tracks : Bool) → ((theirs && finite) && ((star || not rpt) && tracks)) ≡ true
            → (theirs ≡ true → mine ≡ false) → (could && ((rpt && not star) || (mine && not bounded))) ≡ false
        off could star rpt mine theirs finite bounded tracks e lower = grind arith

    loses_it : assert_in_no_info s its better ≡ (loses_first s its better, [])
    unfolding assert_in_no_info
    loses_it = grind (arith, no_challenge)

    first_row : row_at (loses_first s its better).asserts its ≡ Some (lost_to better (s.present + 180000))
    unfolding loses_first loses with_spt_bit
    first_row = grind (arith, row_put)

    at_its : assert_at s its better ≡ (loses_first s its better, [])
    at_its = assert_by_row s its better None none ∙ loses_it

    received_first : (assert_received s i from a).0 ≡ (assert_at s its better).0
    unfolding assert_received
    received_first = go (a.source.bits == 0) refl
      where
        go : (b : Bool) → (a.source.bits == 0) ≡ b → (assert_received s i from a).0 ≡ (assert_at s its better).0
        go true e = grind arith
        go false e = grind arith

    first_lost : row_at (assert_received s i from a).0.asserts its ≡ Some (lost_to better (s.present + 180000))
    first_lost =
        ap (λ (x : State). row_at x.asserts its) received_first ∙ (ap (λ (p : State × List Message). row_at (p.0).asserts its) at_its ∙ first_row)

  pub row_loses : loses_to s its better ≡ true → row_at (assert_received s i from a).0.asserts its ≡ Some (lost_to better (s.present + 180000))
  row_loses e = go (row_at s.asserts its) refl e
    where
      go : (o : Option AssertRow) → row_at s.asserts its ≡ o
          → option_map_or (λ (r : AssertRow). gives_way s its r better) o
          (is_acceptable s its better && (is_of_tree its better && is_tracking_at s its)) ≡ true
          → row_at (assert_received s i from a).0.asserts its ≡ Some (lost_to better (s.present + 180000))
      go None none e = first_lost none e
      go (Some r) found e = row_lost s i from a r about found e

-- ---- the event

loses_by : (i : IfaceId) (from : Addr) (a : AssertMessage) (s : State) (e : Event) → done_as (happens s e) ≡ Some (Accepted.Assert i from a)
    → is_about a ≡ true → loses_to s (key_about i.number a) (theirs_of a from.bits) ≡ true
    → HasLost (key_about i.number a) (theirs_of a from.bits) (s.present + 180000) (step s e).state
unfolding done change
loses_by i from a s e taken about loses =
    subst (λ (x : Answered). HasLost (key_about i.number a) (theirs_of a from.bits) (s.present + 180000) x.state)
    (sym (step_taken s e (Accepted.Assert i from a) taken ∙ taken_is_done s e.draw (Accepted.Assert i from a) refl))
    (settled_row (key_about i.number a) (lost_to (theirs_of a from.bits) (s.present + 180000)) s (assert_received s i.number from.bits a) e.draw
    (inr (row_loses s i.number from.bits a about loses)))

module _ (k : Key) (r : AssertRow) (i : IfaceId) (from : Addr) (a : AssertMessage) (s : State) (e : Event) (f : IsAsserted k r i from a s e) where
  abbrev own : State × List Message
  own = assert_received s i.number from.bits a

  abbrev about_key : Key
  about_key = key_about i.number a

  is_done : step s e ≡ done s e.draw (change s e.draw (Accepted.Assert i from a))
  is_done = step_taken s e (Accepted.Assert i from a) f.taken ∙ taken_is_done s e.draw (Accepted.Assert i from a) refl

  row_here : row_at s.asserts (key_about i.number a) ≡ Some r
  row_here = ap (row_at s.asserts) f.key ∙ f.row

  has_lost : gives_way s k r (theirs_of a from.bits) ≡ true
      → HasLost k (theirs_of a from.bits) (s.present + 180000) (step s e).state
  has_lost gives =
      subst (λ (j : Key). HasLost j (theirs_of a from.bits) (s.present + 180000) (step s e).state) f.key
      (loses_by i from a s e f.taken f.about
      (by_row s about_key (theirs_of a from.bits) r row_here (ap (λ (j : Key). gives_way s j r (theirs_of a from.bits)) f.key ∙ gives)))

  -- ---- the answer

  abbrev answer : ℕ → ℕ → ℕ → Emission
  answer j g src = on_link j (assert_packet (my_address s j) g src (asserted_metric s about_key))

  all_sent : (x : Emission) → Contains (settled s own e.draw).1 x → Contains (step s e).emissions x
  unfolding change
  all_sent x has =
      subst (λ (y : Answered). Contains y.emissions x) (sym is_done) (done_sends s e.draw (change s e.draw (Accepted.Assert i from a)) x has)

  answers_so : is_winner (Some r) ≡ true → is_better (theirs_of a from.bits) r.winner ≡ false
      → is_inferior s about_key (theirs_of a from.bits) ≡ true
      → Contains (step s e).emissions (answer i.number a.group.bits a.source.bits)
  answers_so wins off inferior =
      let is : own.1 ≡ Message.Assert (iface_in about_key) (group_in about_key) (source_in about_key) (asserted_metric s about_key) ∷ [] =
      messages_are s i.number from.bits a r f.about row_here ∙ answers_it s i.number from.bits a r f.about row_here wins off inferior in
      subst (λ (j : ℕ). Contains (step s e).emissions (answer j a.group.bits a.source.bits)) (its_iface i.number a)
      (subst (λ (g : ℕ). Contains (step s e).emissions (answer (iface_in about_key) g a.source.bits)) (its_group i.number a)
      (subst (λ (src : ℕ). Contains (step s e).emissions (answer (iface_in about_key) (group_in about_key) src)) (its_source i.number a)
      (all_sent _ (subst (λ (x : Addressing). Contains (settled s own e.draw).1
      (on_link (iface_in about_key) (assert_packet (address_among x (iface_in about_key)) (group_in about_key) (source_in about_key) (asserted_metric s about_key))))
      (ap (λ (u : Whole). ((u.lasting).still).configured) (assert_whole s i.number from.bits a))
      (assert_leaves s own e.draw (iface_in about_key) (group_in about_key) (source_in about_key) (asserted_metric s about_key) is)))))

pub gives_way_to_assert : GivesWayToAssert
gives_way_to_assert k r i from a s e f gives = has_lost k r i from a s e f gives

pub winner_answers_assert : WinnerAnswersAssert
winner_answers_assert k r i from a s e f wins off inferior =
    subst (λ (j : Key). Contains (step s e).emissions (on_link i.number (assert_packet (my_address s i.number) a.group.bits a.source.bits (asserted_metric s j)))) f.key
    (answers_so k r i from a s e f wins off (ap (λ (j : Key). is_inferior s j (theirs_of a from.bits)) f.key ∙ inferior))

-- ---- an Assert as bytes

module _ (from g src : ℕ) (m : AssertMetric) (f : IsSayable from g src m) where
  abbrev body : List ℕ
  body = assert_text g src m.rpt m.preference m.metric

  abbrev text : List ℕ
  text = assert_packet from g src m

  body_long : length body ≡ 26
  unfolding assert_text pim_text with_checksum
  body_long = refl

  text_long : length text ≡ 46
  unfolding pim_packet_text header_text with_checksum
  text_long = omega (arith, body_long)

  abbrev carried : Packet
  carried = written_packet [] 1 protocol_pim from all_pim_routers body

  from_may : is_source protocol_pim from ≡ true
  from_may = grind (arith, nat_tests, f.from_host)

  packet_read : ipv4_reading text ≡ Ok carried
  unfolding pim_packet_text
  packet_read =
      ap ipv4_reading (sym (append-nil text))
      ∙ (written_reads [] 1 protocol_pim from all_pim_routers body refl (omega (arith, body_long)) (omega (arith, body_long)) from_may).reading []
      (subst (λ (xs : List ℕ). length xs ≤ packet_limit) (sym (append-nil text)) (omega (arith, text_long)))

  message_read : pim_reading body ≡ Ok (PimView.Assert (said g src m))
  message_read = assert_reads g src m.rpt m.preference m.metric f.preference_fits f.metric_fits f.of_group f.of_source

  short_enough : nat_lt frame_limit (length text) ≡ false
  short_enough = grind (arith, text_long, nat_tests)

  pub assert_is_read : (s : State) (i : ℕ) → Hears s i from
      → judged s (EventKind.Frame (record { number = i }) (assert_packet from g src m))
      ≡ Ok (Accepted.Assert (record { number = i }) (addr from) (said g src m))
  unfolding judged frame_judged packet_judged pim_message_judged pim_judged assert_judged
  assert_is_read s i h =
      rw (within_range (iface_count s) i h.configured, h.up, short_enough, packet_read, message_read, h.other, f.goes_far, h.neighbour) refl

-- ---- two routers

-- the delivery of an Assert to a router that gives way to it
module _ (g src : ℕ) (metric : AssertMetric) (c : Adjacent) (sayable : IsSayable c.address g src metric) (about : is_about (said g src metric) ≡ true)
    (number : ℕ) (n : Network) (framed : frame_at n number ≡ Some (record { link = Some c.link; bytes = assert_packet c.address g src metric }))
    (draw : ℕ) (st : Station) (at : station_at n c.upper ≡ Some st) (can : CanGiveWay g src metric c st) where
  abbrev at_iface : IfaceId
  at_iface = record { number = c.down }

  abbrev comes : Event
  comes = record { draw = draw; kind = EventKind.Frame at_iface (assert_packet c.address g src metric) }

  heard : done_as (happens st.state comes) ≡ Some (Accepted.Assert at_iface (addr c.address) (said g src metric))
  heard =
      done_if st.state comes (Accepted.Assert at_iface (addr c.address) (said g src metric))
      (assert_is_read c.address g src metric sayable st.state c.down can.hears) can.room

  taken : IsStepped n c.upper st comes (moved n (Deliver c.upper c.down number draw)).1
  taken = is_delivered n c.upper st c.down number draw c.link (assert_packet c.address g src metric) at can.linked framed

  pub loses_then : LosesTo g src metric c st (moved n (Deliver c.upper c.down number draw)).1
  loses_then = record {
    state = (step st.state comes).state;
    there = (taken).here;
    lost = loses_by at_iface (addr c.address) (said g src metric) st.state comes heard about can.gives;
  }

module _ (g src : ℕ) (metric : AssertMetric) (c : Adjacent) (n : Network) (m : Move) (f : AnswersBy g src metric c n m) where
  abbrev s : State
  s = (f.station).state

  abbrev after : Network
  after = (moved n m).1

  steps : IsStepped n c.lower f.station f.event after
  steps =
      subst (λ (y : Network). IsStepped n c.lower f.station f.event y) (sym (moved_so n m c.lower f.event f.station f.is f.there))
      (is_stepped n c.lower f.station f.event f.there)

  is_sent : Contains (step s f.event).emissions (on_link c.iface (assert_packet c.address g src metric))
  is_sent =
      subst (λ (x : AssertMetric). Contains (step s f.event).emissions (on_link c.iface (assert_packet c.address g src x))) f.sent
      (subst (λ (a : ℕ). Contains (step s f.event).emissions (on_link c.iface (assert_packet a g src (asserted_metric s (key_about c.iface f.message))))) f.own
      (subst (λ (h : ℕ). Contains (step s f.event).emissions (on_link c.iface (assert_packet (my_address s c.iface) h src (asserted_metric s (key_about c.iface f.message))))) f.of_group
      (subst (λ (y : ℕ). Contains (step s f.event).emissions (on_link c.iface (assert_packet (my_address s c.iface) (f.message).group.bits y (asserted_metric s (key_about c.iface f.message))))) f.of_source
      (winner_answers_assert (key_about c.iface f.message) f.row (record { number = c.iface }) f.from f.message s f.event f.asserted f.wins f.no_better f.inferior))))

  new : IsNewOn n after c.link (assert_packet c.address g src metric)
  new = (steps).sent c.iface c.link (assert_packet c.address g src metric) f.linked is_sent

pub one_winner_is_left : OneWinnerIsLeft
one_winner_is_left g src metric c n m sayable about f = record {
  number = ((new g src metric c n m f).on).number;
  later = (new g src metric c n m f).later;
  framed = ((new g src metric c n m f).on).is;
  tells = λ waits draw st at can.
      loses_then g src metric c sayable about ((new g src metric c n m f).on).number (network_ran (moved n m).1 waits).1
      (frames_stay (moved n m).1 waits ((new g src metric c n m f).on).number _ ((new g src metric c n m f).on).is) draw st at can;
}
