-- The Assert Timer of a winner: it ends no later, or an Assert leaves and it ends 177 s later, or the router isn't the winner
-- any more.
use Rattle.std.{proofs.{Common.{◌≡◌, ◌∙◌, ℕ, ◌+◌, ◌-◌, ◌≤◌, ◌&&◌, not, Bool, true, false, cond, List, [], ◌∷◌, ◌++◌, ◌⊎◌, inl, inr, length, Option, Some, None, is_some, option_and_then, refl, sym, ap, subst, arith}, lemmas.{Bool.both_ways, List.Elements.{Contains-append_left, Contains-append_right}}}, specs.{List.Contains, Option.option_map_or}}
use Rattle.pim_types.{specs.{Keys.{group_in, iface_in, is_on, is_star, same_key, source_in, source_key, star_key}, declared.{config.IfaceId.IfaceId, event.Event.Event, fact.{AssertMetric.AssertMetric, AssertRow.AssertRow, InterfaceRow.InterfaceRow, Key.Key}, outcome.Emission.Emission, timer.TimerKind.TimerKind}}, proofs.Keys.{equal_keys}}
use Rattle.pim_ip.{specs.declared.addr.Addr.Addr}
use Rattle.pim_wire.{specs.declared.assert.Assert.Assert as AssertMessage}
use Rattle.pim_model.{specs.{declared.accepted.Accepted.Accepted, Asserts.{assert_as_loser, assert_as_winner, assert_at, assert_due, assert_forgotten, assert_message, assert_received, asserted_metric, loses, theirs_of, wins_again, without_spt_bit}, Clearing.clear, Downstream.{is_named, joined_keys}, Firing.{fire_all, fire_instant, fire_once, fire_row, fired, settled}, Messages.Message, Reach.own_firing, Judging.{Judged, judged}, Registers.settle_registers, Sets.{is_loser, is_winner, route_metric, rpt_metric, spt_metric}, State.{Addressing, State, address_among, is_own, my_address}, Step.{Answered, advanced, change, concluded, done, iface_down, step, taken, taken_unless_full}, Tables.{Table, change_row, changed_entry, drop_at, drop_where, has_row, row_at}, Timers.{Ending, next_due, timers}, Unicast.{route, rp_of, rp_route}, Writing.on_link}}
use Rattle.law_settled.{proofs.{FiringLaws.next_is_due, RowLaws.{has_row_dropped, row_put}, SettlingLaws.kept_by_clearing, UnchangedLaws.full_or_taken, Unsettled.{Unsettled, Untold, cleared_in_the_end, settling_leaves}}}
use Rattle.law_events.{specs.Scopes.{reads, scope}, proofs.{Configured.{Ground, firing_ground, firing_ups, ground, ups}, SharedMacros.{route_cut, route_local, rp_of_local, rp_route_local}, UntoldKeys.same_by_scope}}
use Rattle.law_streams.{specs.Joins.is_time, proofs.{Lasting.{Whole, assert_whole}, Leaves.{rest_agrees, untouched}, Turns.to_the_end}}
use Rattle.law_converges.{specs.{LinkAsserts.{assert_packet, key_about, said}}, proofs.{AssertRows.{assert_by_row, at_another, change_kept, drops, fired_same, received_by}, LinkAsserts.{assert_leaves, done_sends, drop_either, its_group, its_iface, its_source, none_there}}}

pub record SendsAssert (cs : Addressing) (i g src : ℕ) (metric : AssertMetric) (sent : List Emission) : Type 0 where
  pub is_sent : Contains sent (on_link i (assert_packet (address_among cs i) g src metric))

-- ---- the metric that is sent

module _ (k : Key) where
  metric_local : (sees : Key → Bool) (s : State) → asserted_metric (scope sees s) k ≡ asserted_metric s k
  unfolding spt_metric rpt_metric scope
  metric_local sees s = grind (arith, route_local, rp_of_local, rp_route_local)

  settled_metric : (o : State) (c : State × List Message) (w : ℕ) → asserted_metric (settled o c w).0 k ≡ asserted_metric c.0 k
  unfolding settle_registers assert_forgotten without_spt_bit spt_metric rpt_metric rp_route route rp_of
  settled_metric o c w =
      sym (same_by_scope (star_key 0 0) (λ x. asserted_metric x k) (λ x. metric_local (reads (star_key 0 0)) x) (clear o c.0).0 (settled o c w).0
      (rest_agrees o c w (star_key 0 0) (untouched o c w (star_key 0 0))))
      ∙ kept_by_clearing (λ x. asserted_metric x k ≡ asserted_metric c.0 k) (λ x j f. f) (λ x j f. f) o c.0 refl

  -- it is read of what is configured, the routes, and which interfaces are up
  abbrev with_ground : State → Ground → Table InterfaceRow → State
  with_ground s x up = record s { configured = x.configured; routes = x.routes; ranges = x.ranges; interfaces = up }

  grounded_route : (o s : State) (a : ℕ) → route (with_ground o (ground s) (ups s)) a ≡ route s a
  unfolding route
  grounded_route o s a = route_cut s.configured s.interfaces a s.routes

  grounded : (o s : State) → asserted_metric (with_ground o (ground s) (ups s)) k ≡ asserted_metric s k
  unfolding spt_metric rpt_metric rp_route rp_of
  grounded o s =
      λ j. cond (is_star k)
      (route_metric true (my_address s (iface_in k)) (option_map_or (is_own s) (rp_of s (group_in k)) false)
      (option_and_then (λ a. grounded_route o s a j) (rp_of s (group_in k))))
      (route_metric false (my_address s (iface_in k)) (is_own s (source_in k)) (grounded_route o s (source_in k) j))

  by_ground : (s t : State) → ground t ≡ ground s → ups t ≡ ups s → asserted_metric t k ≡ asserted_metric s k
  by_ground s t e f = sym (grounded s t) ∙ ((λ j. asserted_metric (with_ground s (e j) (f j)) k) ∙ grounded s s)

  firing_metric : (s : State) (d : Ending) → asserted_metric (own_firing s d) k ≡ asserted_metric s k
  firing_metric s d = by_ground s (own_firing s d) (firing_ground s d) (firing_ups s d)

-- ---- rows

pub change_is : (k : Key) (r : AssertRow) (rows : Table AssertRow) → has_row rows k ≡ true → row_at (change_row (λ (old : AssertRow). Some r) k rows) k ≡ Some r
unfolding has_row row_at change_row changed_entry
change_is k r [] e = cc e
change_is k r (x ∷ rows) e = grind (arith, change_is k r rows)

abbrev winner_end : ℕ → AssertRow → AssertRow
winner_end p r = record r { end = p + 177000 }

module _ (k : Key) where
  abbrev pub EndsBy : ℕ → State → Type 0
  EndsBy x s = (q : AssertRow) → row_at s.asserts k ≡ Some q → q.end ≤ x

  ends_same : (x : ℕ) (s t : State) → row_at t.asserts k ≡ row_at s.asserts k → EndsBy x s → EndsBy x t
  ends_same x s t same f = λ q is. f q (sym same ∙ is)

  ends_none : (x : ℕ) (t : State) → row_at t.asserts k ≡ None → EndsBy x t
  ends_none x t none = λ q is. cc (sym none ∙ is)

  ends_is : (x : ℕ) (t : State) (r : AssertRow) → row_at t.asserts k ≡ Some r → r.end ≤ x → EndsBy x t
  ends_is x t r found low = λ q is. subst (λ (y : AssertRow). y.end ≤ x) (same_row (sym found ∙ is)) low
    where
      same_row : {a b : AssertRow} → Some a ≡ Some b → a ≡ b
      same_row e = cc e

  forgets_ends : (x : ℕ) (s : State) (j : Key) → EndsBy x s → EndsBy x (assert_forgotten s j)
  unfolding assert_forgotten
  forgets_ends x s j f = go (drop_either j k s.asserts)
    where
      go : (row_at (drop_at s.asserts j) k ≡ None) ⊎ (row_at (drop_at s.asserts j) k ≡ row_at s.asserts k) → EndsBy x (assert_forgotten s j)
      go (inl none) = ends_none x (assert_forgotten s j) none
      go (inr same) = ends_same x s (assert_forgotten s j) same f

  settled_ends : (x : ℕ) (o : State) (c : State × List Message) (w : ℕ) → EndsBy x c.0 → EndsBy x (settled o c w).0
  unfolding settle_registers without_spt_bit
  settled_ends x o c w f =
      ends_same x (clear o c.0).0 (settled o c w).0 (ap (λ (u : Untold). row_at u.asserts k) (cleared_in_the_end o c w))
      (kept_by_clearing (EndsBy x) (λ s j h. forgets_ends x s j h) (λ s j h. h) o c.0 f)

-- ---- the winner's machine

module _ (i g src : ℕ) (metric : AssertMetric) where
  abbrev k : Key
  k = key_about i (said g src metric)

  -- its Assert, alone
  abbrev Says : List Message → Type 0
  Says ms = ms ≡ Message.Assert i g src metric ∷ []

  own_message : (s : State) → asserted_metric s k ≡ metric → Says (assert_message k (asserted_metric s k) ∷ [])
  unfolding assert_message
  own_message s sent =
      λ j. Message.Assert (its_iface i (said g src metric) j) (its_group i (said g src metric) j) (its_source i (said g src metric) j) (sent j) ∷ []

  abbrev Has : Addressing → List Emission → Type 0
  Has cs sent = SendsAssert cs i g src metric sent

  leaves : (o : State) (c : State × List Message) (w : ℕ) → Says c.1 → Has (c.0).configured (settled o c w).1
  leaves o c w says = record { is_sent = assert_leaves o c w i g src metric says }

  -- ---- a timer

  module _ (m : ℕ) (cs : Addressing) where
    abbrev last : ℕ
    last = m + 177000

    record Base (x : ℕ) (t : State) : Type 0 where
      ends : EndsBy k x t
      sent : asserted_metric t k ≡ metric
      configured : t.configured ≡ cs

    abbrev Turned : ℕ → State × List Emission → Type 0
    Turned x p = Base x p.0 ⊎ (Has cs p.1 × Base last p.0)

    module _ (w : ℕ) (t : State) (d : Ending) (x : ℕ) (f : Base x t) where
      abbrev opened : State
      opened = record t { present = d.end }

      abbrev c : State × List Message
      c = fired opened d.timer.kind d.timer.key

      same_cs : (c.0).configured ≡ cs
      unfolding own_firing
      same_cs = ap (λ (y : Ground). y.configured) (firing_ground t d) ∙ f.configured

      based : (y : ℕ) → EndsBy k y c.0 → Base y (fire_once w t d).0
      unfolding fire_once own_firing
      based y ends = record {
        ends = settled_ends k y t c w ends;
        sent = settled_metric k t c w ∙ (firing_metric k t d ∙ f.sent);
        configured = ap (λ (u : Unsettled). u.configured) (settling_leaves t c w) ∙ same_cs;
      }

      module _ (low : d.end ≤ m) where
        within : d.end + 177000 ≤ m + 177000
        within = omega (arith, low)

        present_unread : asserted_metric opened k ≡ asserted_metric t k
        unfolding spt_metric rpt_metric rp_route route rp_of
        present_unread = refl

        again : (r : AssertRow) → row_at t.asserts k ≡ Some r → c ≡ wins_again opened k r → Turned x (fire_once w t d)
        unfolding fire_once wins_again has_row
        again r found is =
            let row : row_at (c.0).asserts k ≡ Some (winner_end d.end r) =
            ap (λ (p : State × List Message). row_at (p.0).asserts k) is
            ∙ change_is k (winner_end d.end r) t.asserts (ap is_some found) in
            inr (
              subst (λ (y : Addressing). Has y (settled t c w).1) same_cs
                  (leaves t c w (ap (λ (p : State × List Message). p.1) is ∙ own_message opened (present_unread ∙ f.sent))),
              based last (ends_is k last c.0 (winner_end d.end r) row within),
            )

        forgotten : c ≡ (assert_forgotten opened k, []) → Turned x (fire_once w t d)
        forgotten is =
            inl (based x (subst (λ (p : State × List Message). EndsBy k x p.0) (sym is) (forgets_ends k x opened k f.ends)))

        own_turn : c ≡ fired opened TimerKind.Assert k → Turned x (fire_once w t d)
        unfolding fired fire_row assert_due
        own_turn is = go (row_at t.asserts k) refl
          where
            by_row : (o : Option AssertRow) → row_at t.asserts k ≡ o → c ≡ option_map_or (assert_due opened k) o (opened, [])
            by_row o found = is ∙ ap (λ (p : Option AssertRow). option_map_or (assert_due opened k) p (opened, [])) found

            by_role : (r : AssertRow) → row_at t.asserts k ≡ Some r → (b : Bool) → is_winner (Some r) ≡ b
                → c ≡ cond b (wins_again opened k r) (assert_forgotten opened k, []) → Turned x (fire_once w t d)
            by_role r found true role same = again r found same
            by_role r found false role same = forgotten same

            go : (o : Option AssertRow) → row_at t.asserts k ≡ o → Turned x (fire_once w t d)
            go None none =
                inl (based x (ends_same k x t c.0 (ap (λ (p : State × List Message). row_at (p.0).asserts k) (by_row None none)) f.ends))
            go (Some r) found = by_role r found (is_winner (Some r)) refl (by_row (Some r) found)

        turn : Turned x (fire_once w t d)
        turn = go (is_assert d.timer.kind) refl (same_key k d.timer.key) refl
          where
            is_assert : TimerKind → Bool
            is_assert TimerKind.Assert = true
            is_assert _ = false

            assert_is : (kind : TimerKind) → is_assert kind ≡ true → kind ≡ TimerKind.Assert
            assert_is kind e = grind arith

            another : (d.timer.kind ≡ TimerKind.Assert → same_key k d.timer.key ≡ false) → Turned x (fire_once w t d)
            another off = inl (based x (ends_same k x t c.0 (fired_same k opened d.timer.kind d.timer.key off) f.ends))

            go : (b : Bool) → is_assert d.timer.kind ≡ b → (e : Bool) → same_key k d.timer.key ≡ e → Turned x (fire_once w t d)
            go true kind true same =
                own_turn (ap (λ (q : TimerKind). fired opened q d.timer.key) (assert_is d.timer.kind kind)
                ∙ ap (λ (q : Key). fired opened TimerKind.Assert q) (sym (equal_keys k d.timer.key same)))
            go b kind false same = another (λ is. same)
            go false kind true same = another (λ is. absurd (both_ways (is_assert d.timer.kind) kind (ap is_assert is)))

    -- ---- time

    first : (xs ys : List Emission) → Has cs xs → Has cs (xs ++ ys)
    first xs ys f = record { is_sent = Contains-append_left xs ys _ f.is_sent }

    second : (xs ys : List Emission) → Has cs ys → Has cs (xs ++ ys)
    second xs ys f = record { is_sent = Contains-append_right xs ys _ f.is_sent }

    stays : (p : State × List Emission) → Turned last p → Base last p.0
    stays p (inl f) = f
    stays p (inr (has, f)) = f

    in_time : (a b : ℕ) → a ≤ b → b ≤ m → a ≤ m
    in_time a b e f = omega (arith, e, f)

    module _ (w : ℕ) where
      instant_turns : (t : State) (e : Ending) → e.end ≤ m → (x : ℕ) → Base x t → Turned x (fire_instant w t e)
      unfolding fire_instant
      instant_turns t e low x f =
          to_the_end (next_due e.end) (fire_once w) (Has cs) (Base x) (Base last) first second
          (λ u d there h. turn w u d x h (in_time d.end e.end (next_is_due e.end u d there) low))
          (λ u d h there. stays (fire_once w u d) (turn w u d last h (in_time d.end e.end (next_is_due e.end u d there) low)))
          (length (timers t) + 1) t f

      all_turns : (t : State) (x : ℕ) → Base x t → Turned x (fire_all w m t)
      unfolding fire_all
      all_turns t x f =
          to_the_end (next_due m) (fire_instant w) (Has cs) (Base x) (Base last) first second
          (λ u d there h. instant_turns u d (next_is_due m u d there) x h)
          (λ u d h there. stays (fire_instant w u d) (instant_turns u d (next_is_due m u d there) last h)) (m + 2 - t.present) t f

  -- ---- any event

  module _ (s : State) (e : Event) (r : AssertRow) (found : row_at s.asserts k ≡ Some r) (wins : is_winner (Some r) ≡ true)
      (sent : asserted_metric s k ≡ metric) where
    abbrev pub AssertLasts : Answered → Type 0
    AssertLasts a = (EndsBy k r.end a.state
        ⊎ (SendsAssert s.configured i g src metric a.emissions × EndsBy k ((a.state).present + 177000) a.state))
        ⊎ (is_winner (row_at (a.state).asserts k) ≡ false)

    same_end : (n : ℕ) → n ≤ n
    same_end n = omega arith

    by_time : (m : ℕ) → AssertLasts (advanced s e.draw m)
    unfolding advanced
    by_time m = go (all_turns m s.configured e.draw s r.end (record { ends = ends_is k r.end s r found (same_end r.end); sent = sent; configured = refl }))
      where
        go : Turned m s.configured r.end (fire_all e.draw m s) → AssertLasts (advanced s e.draw m)
        go (inl f) = inl (inl f.ends)
        go (inr (has, f)) = inl (inr (has, f.ends))

    -- ---- a change

    abbrev Changed : State × List Message → Type 0
    Changed p = (row_at (p.0).asserts k ≡ Some r)
        ⊎ ((Says p.1 × (row_at (p.0).asserts k ≡ Some (winner_end s.present r))) ⊎ (is_winner (row_at (p.0).asserts k) ≡ false))

    lost_row : (theirs : AssertMetric) → is_winner (row_at (loses s k theirs).asserts k) ≡ false
    unfolding loses
    lost_row theirs = rw (row_put k _ s.asserts) refl

    again_row : Changed (wins_again s k r)
    unfolding wins_again has_row
    again_row = inr (inl (own_message s sent, change_is k (winner_end s.present r) s.asserts (ap is_some found)))

    as_winner : (theirs : AssertMetric) → Changed (assert_as_winner s k r theirs)
    unfolding assert_as_winner
    as_winner theirs = grind (arith, lost_row, again_row, found)

    at_own : (theirs : AssertMetric) → Changed (assert_at s k theirs)
    at_own theirs =
        subst Changed
        (sym (assert_by_row s k theirs (Some r) found
        ∙ ap (λ (b : Bool). cond b (assert_as_winner s k r theirs) (assert_as_loser s k r theirs, [])) wins))
        (as_winner theirs)

    stays_so : (p : State × List Message) → row_at (p.0).asserts k ≡ row_at s.asserts k → Changed p
    stays_so p same = inl (same ∙ found)

    at_key : (q : Key) (theirs : AssertMetric) → Changed (assert_at s q theirs)
    at_key q theirs = go (same_key k q) refl
      where
        go : (b : Bool) → same_key k q ≡ b → Changed (assert_at s q theirs)
        go true same = subst (λ (z : Key). Changed (assert_at s z theirs)) (equal_keys k q same) (at_own theirs)
        go false apart = stays_so (assert_at s q theirs) (at_another k s q apart theirs)

    received_so : (j from : ℕ) (a : AssertMessage) → Changed (assert_received s j from a)
    received_so j from a =
        received_by Changed s j from a (inl found) (λ some. at_key (source_key j a.group.bits a.source.bits) (theirs_of a from))
        (λ rpt. at_key (star_key j a.group.bits) (theirs_of a from))

    -- ---- what follows of it

    abbrev gone : Table AssertRow → Type 0
    gone t = is_winner (row_at t k) ≡ false

    gone_still : (t : State) (j : Key) → gone t.asserts → gone (assert_forgotten t j).asserts
    unfolding assert_forgotten
    gone_still t j h = go (drop_either j k t.asserts)
      where
        go : (row_at (drop_at t.asserts j) k ≡ None) ⊎ (row_at (drop_at t.asserts j) k ≡ row_at t.asserts k) → gone (drop_at t.asserts j)
        go (inl none) = ap is_winner none
        go (inr same) = ap is_winner same ∙ h

    still_gone : (o : State) (c : State × List Message) (w : ℕ) → gone (c.0).asserts → gone (settled o c w).0.asserts
    unfolding settle_registers without_spt_bit
    still_gone o c w f =
        ap (λ (u : Untold). is_winner (row_at u.asserts k)) (cleared_in_the_end o c w)
        ∙ kept_by_clearing (λ t. gone t.asserts) (λ t j h. gone_still t j h) (λ t j h. h) o c.0 f

    by_assert : (j : IfaceId) (from : Addr) (a : AssertMessage) → AssertLasts (done s e.draw (change s e.draw (Accepted.Assert j from a)))
    unfolding change done
    by_assert j from a = go (received_so j.number from.bits a)
      where
        own : State × List Message
        own = assert_received s j.number from.bits a

        present_same : (settled s own e.draw).0.present ≡ s.present
        present_same =
            ap (λ (u : Unsettled). u.present) (settling_leaves s own e.draw)
            ∙ ap (λ (u : Whole). ((u.lasting).still).present) (assert_whole s j.number from.bits a)

        same_cs : (own.0).configured ≡ s.configured
        same_cs = ap (λ (u : Whole). ((u.lasting).still).configured) (assert_whole s j.number from.bits a)

        go : Changed own → AssertLasts (done s e.draw (change s e.draw (Accepted.Assert j from a)))
        go (inl same) = inl (inl (settled_ends k r.end s own e.draw (ends_is k r.end own.0 r same (same_end r.end))))
        go (inr (inr f)) = inr (still_gone s own e.draw f)
        go (inr (inl (says, row))) =
            inl (inr (
              record {
                is_sent = done_sends s e.draw (change s e.draw (Accepted.Assert j from a)) _
                    (subst (λ (y : Addressing). Has y (settled s own e.draw).1) same_cs (leaves s own e.draw says)).is_sent;
              },
              subst (λ (p : ℕ). EndsBy k (p + 177000) (settled s own e.draw).0) (sym present_same)
                  (settled_ends k (s.present + 177000) s own e.draw (ends_is k (s.present + 177000) own.0 (winner_end s.present r) row (same_end (s.present + 177000)))),
            ))

    by_others : (a : Accepted) → EndsBy k r.end (change s e.draw a).state → AssertLasts (done s e.draw (change s e.draw a))
    unfolding done
    by_others a f = inl (inl (settled_ends k r.end s ((change s e.draw a).state, (change s e.draw a).messages) e.draw f))

    kept_ends : (a : Accepted) → drops k r s a ≡ false → EndsBy k r.end (change s e.draw a).state
    kept_ends a off = ends_is k r.end (change s e.draw a).state r (change_kept k r s e.draw a found off) (same_end r.end)

    no_loser : (q : AssertRow) → is_winner (Some q) ≡ true → is_loser (Some q) ≡ false
    no_loser q f = grind arith

    down_ends : (j : IfaceId) → EndsBy k r.end (change s e.draw (Accepted.Down j)).state
    unfolding change iface_down has_row
    down_ends j = go (is_on j.number k) refl
      where
        go : (b : Bool) → is_on j.number k ≡ b → EndsBy k r.end (change s e.draw (Accepted.Down j)).state
        go false off = kept_ends (Accepted.Down j) off
        go true on =
            ends_none k r.end (iface_down s j.number)
            (none_there (row_at (drop_where (is_on j.number) s.asserts) k)
            (has_row_dropped k (is_on j.number) s.asserts ∙ ap (λ (b : Bool). not b && has_row s.asserts k) on))

    by_done : (a : Accepted) → is_time a ≡ false → AssertLasts (done s e.draw (change s e.draw a))
    by_done (Accepted.Assert j from b) timeless = by_assert j from b
    by_done (Accepted.Down j) timeless = by_others (Accepted.Down j) (down_ends j)
    by_done (Accepted.Hello j from h) timeless = by_others (Accepted.Hello j from h) (kept_ends (Accepted.Hello j from h) (grind (arith, no_loser, wins)))
    by_done (Accepted.JoinPruneToMe j m) timeless =
        by_others (Accepted.JoinPruneToMe j m)
        (kept_ends (Accepted.JoinPruneToMe j m) (ap (λ (b : Bool). b && is_named (joined_keys s j.number m) k) (no_loser r wins)))
    by_done (Accepted.Advance m) timeless = cc timeless
    by_done a timeless = by_others a (kept_ends a refl)

    by_taken : (a : Accepted) → AssertLasts (taken s e.draw a)
    unfolding taken
    by_taken (Accepted.Advance m) = by_time m
    by_taken a = by_done a refl

    by_full : (a : Accepted) (b : Bool) → AssertLasts (full_or_taken s e.draw a b)
    by_full a true = inl (inl (ends_is k r.end s r found (same_end r.end)))
    by_full a false = by_taken a

    by_judged : (j : Judged) → AssertLasts (concluded s (taken_unless_full s e.draw) j)
    unfolding taken_unless_full
    by_judged j = grind (arith, by_full)

    -- Whatever event comes, the winner's timer ends no later, or its Assert leaves and the timer ends 177 s later, or it is the
    -- winner no longer.
    pub each_event_assert : AssertLasts (step s e)
    unfolding step
    each_event_assert = by_judged (judged s e.kind)
