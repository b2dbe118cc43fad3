-- The row of an assert: what leaves it as it is.
use Rattle.std.{proofs.{Common.{if◌then◌else◌, ◌≡◌, ◌∙◌, ℕ, ◌&&◌, ◌||◌, ◌==◌, not, Bool, true, false, cond, List, [], ◌∷◌, ◌++◌, append-nil, filter, Option, is_some, Some, None, refl, sym, ap, subst, arith}}}
use Rattle.pim_types.{specs.{Keys.{is_on, same_key, source_key, star_key}, declared.{fact.{AssertMetric.AssertMetric, AssertRow.AssertRow, Key.Key}, timer.TimerKind.TimerKind}}, proofs.Keys.{equal_keys}}
use Rattle.pim_wire.{specs.{Values.{Encapsulated, Null}, declared.{assert.Assert.Assert as AssertMessage, hello.Hello.Hello as HelloValue}}}
use Rattle.pim_model.{specs.{declared.accepted.Accepted.Accepted, Asserts.{could_assert_at, assert_as_loser, assert_as_winner, assert_at, assert_due, assert_forgotten, assert_in_no_info, assert_received, data_seen, loses, loses_first, theirs_of, wins, wins_again, with_spt_bit}, Downstream.{asserts_after_joins, is_named, joined_keys, downstream_expired, keys_taken, to_me}, Firing.{fire_row, fired, keepalive_due}, Forwarding.{forwarded, list_chosen, source_here, source_joined, spt_updated, stray}, Hellos.{hello_due, hello_received, hello_triggered, is_generation_changed, is_lost_to, neighbour_due, neighbour_replaced, neighbour_restarted}, Messages.Message, Querier.{general_query_due, group_record_due, group_repeat_due, other_querier_gone, querier_up, querying, querying_on, source_record_due, source_repeat_due, sources_sent}, Records.{with_members, with_repeats_of_rows}, Registers.{register_due, register_stop_seen}, Sets.{is_loser, is_winner}, State.{State}, Step.{change, iface_down, iface_up, rps_replaced}, Tables.{Table, has_row, row_at}, Upstream.{join_timer_due, override_timer_due}}}
use Rattle.law_settled.{proofs.{ListLaws.{by_cond}, RowLaws.{row_change_away, row_drop_away, row_kept, row_put, row_put_away}}}
use Rattle.law_streams.{proofs.{LiesUnder.row_fires, Taken.apart_keys}}
use Rattle.law_states.{proofs.AssertEnds.{Read, here_read, joined_read, pending_read, query_read, read, register_read, report_read, seen_read, updated_read, watched_read}}

-- an Assert as an event of a machine, by its row
abbrev pub assert_of : State → Key → AssertMetric → Option AssertRow → State × List Message
assert_of s k theirs None = assert_in_no_info s k theirs
assert_of s k theirs (Some r) = if is_winner (Some r) then assert_as_winner s k r theirs else (assert_as_loser s k r theirs, [])

pub assert_by_row : (s : State) (k : Key) (theirs : AssertMetric) (o : Option AssertRow) → row_at s.asserts k ≡ o
    → assert_at s k theirs ≡ assert_of s k theirs o
unfolding assert_at
assert_by_row s k theirs o is = ap (assert_of s k theirs) is

-- ---- an Assert that is received

module _ (P : State × List Message → Type 0) (s : State) (theirs : AssertMetric) where
  -- a machine without information before and after is as it was
  no_info : (j : Key) → has_row s.asserts j ≡ false → has_row (assert_at s j theirs).0.asserts j ≡ false → assert_at s j theirs ≡ (s, [])
  unfolding assert_at assert_in_no_info wins loses_first loses with_spt_bit has_row
  no_info j before after = grind (arith, row_put)

  more : (p : State × List Message) → P p → P (p.0, p.1 ++ [])
  more p f = subst (λ (ms : List Message). P (p.0, ms)) (sym (append-nil p.1)) f

  -- one of a source may go on to the group
  module _ (j q : Key) (none : Bool) (unread : P (s, [])) (at_source : none ≡ false → P (assert_at s j theirs)) where
    abbrev then_of : State × List Message → Bool → State × List Message
    then_of p on = let x : State × List Message = cond on (assert_at p.0 q theirs) (p.0, []) in (x.0, p.1 ++ x.1)

    abbrev is_silent : State → Bool
    is_silent t = not (has_row s.asserts j) && not (has_row t.asserts j)

    goes_on : (b : Bool) → is_silent (assert_at s j theirs).0 ≡ b → P (assert_at s j theirs) → P (assert_at s q theirs) → P (then_of (assert_at s j theirs) b)
    goes_on false e first second = more (assert_at s j theirs) first
    goes_on true e first second =
        subst (λ (p : State × List Message). P (then_of p true)) (sym (no_info j (first_false _ _ e) (second_false (has_row s.asserts j) _ e))) second
      where
        first_false : (a b : Bool) → (not a && not b) ≡ true → a ≡ false
        first_false a b h = grind arith

        second_false : (a b : Bool) → (not a && not b) ≡ true → b ≡ false
        second_false a b h = grind arith

    by_parts : (rpt b : Bool) → none ≡ b → (rpt ≡ true → P (assert_at s q theirs))
        → P (then_of (cond b (s, []) (assert_at s j theirs)) (rpt && (b || is_silent (cond b (s, []) (assert_at s j theirs)).0)))
    by_parts true true is at_group = at_group refl
    by_parts false true is at_group = unread
    by_parts false false is at_group = more (assert_at s j theirs) (at_source is)
    by_parts true false is at_group = goes_on (is_silent (assert_at s j theirs).0) refl (at_source is) (at_group refl)

-- what holds if no machine reads an Assert, if that of the source does, and if that of the group does, holds once it is received
pub received_by : (P : State × List Message → Type 0) (s : State) (i from : ℕ) (a : AssertMessage) → P (s, [])
    → ((a.source.bits == 0) ≡ false → P (assert_at s (source_key i a.group.bits a.source.bits) (theirs_of a from)))
    → (a.rpt ≡ true → P (assert_at s (star_key i a.group.bits) (theirs_of a from))) → P (assert_received s i from a)
unfolding assert_received
received_by P s i from a unread at_source at_group =
    by_parts P s (theirs_of a from) (source_key i a.group.bits a.source.bits) (star_key i a.group.bits) (a.source.bits == 0) unread at_source
    a.rpt (a.source.bits == 0) refl at_group

-- ---- rows that pass a filter

module _ (p : Key × AssertRow → Bool) (k : Key) (r : AssertRow) (passes : p (k, r) ≡ true) where
  its_entry : (x : Key × AssertRow) → same_key k x.0 ≡ true → x.1 ≡ r → p x ≡ true
  its_entry x same is =
      subst (λ (q : Key). p (q, x.1) ≡ true) (equal_keys k x.0 same) (subst (λ (y : AssertRow). p (k, y) ≡ true) (sym is) passes)

  filter_step : (x : Key × AssertRow) (xs ys : Table AssertRow) (b c : Bool) → same_key k x.0 ≡ b → p x ≡ c
      → row_at (x ∷ xs) k ≡ Some r → (row_at xs k ≡ Some r → row_at ys k ≡ Some r) → row_at (cond c (x ∷ ys) ys) k ≡ Some r
  unfolding row_at
  filter_step x xs ys b c same is found later = grind (arith, its_entry)

  filter_keeps : (t : Table AssertRow) → row_at t k ≡ Some r → row_at (filter p t) k ≡ Some r
  filter_keeps [] e = e
  filter_keeps (x ∷ xs) e = filter_step x xs (filter p xs) (same_key k x.0) (p x) refl refl e (filter_keeps xs)

-- ---- a row that stays

module _ (k : Key) where
  abbrev pub Same : State → State → Type 0
  Same s t = row_at t.asserts k ≡ row_at s.asserts k

  module _ (s : State) (j : Key) (off : same_key k j ≡ false) where
    abbrev Alike : State × List Message → Type 0
    Alike p = Same s p.0

    wins_same : Alike (wins s j)
    unfolding wins
    wins_same = row_put_away j k (apart_keys j k off) _ s.asserts

    again_same : (r : AssertRow) → Alike (wins_again s j r)
    unfolding wins_again
    again_same r = row_change_away j k (apart_keys j k off) _ s.asserts

    loses_same : (theirs : AssertMetric) → Same s (loses s j theirs)
    unfolding loses
    loses_same theirs = row_put_away j k (apart_keys j k off) _ s.asserts

    first_same : (theirs : AssertMetric) → Same s (loses_first s j theirs)
    unfolding loses_first with_spt_bit
    first_same theirs = by_cond (Same s) _ _ (loses s j theirs) (loses_same theirs) (loses_same theirs)

    forgotten_same : Same s (assert_forgotten s j)
    unfolding assert_forgotten
    forgotten_same = row_drop_away j k (apart_keys j k off) s.asserts

    no_info_same : (theirs : AssertMetric) → Alike (assert_in_no_info s j theirs)
    unfolding assert_in_no_info
    no_info_same theirs = by_cond Alike _ (wins s j) _ wins_same (by_cond Alike _ (loses_first s j theirs, []) (s, []) (first_same theirs) refl)

    winner_same : (r : AssertRow) (theirs : AssertMetric) → Alike (assert_as_winner s j r theirs)
    unfolding assert_as_winner
    winner_same r theirs =
        by_cond Alike _ (loses s j theirs, []) _ (loses_same theirs) (by_cond Alike _ (wins_again s j r) (s, []) (again_same r) refl)

    loser_same : (r : AssertRow) (theirs : AssertMetric) → Same s (assert_as_loser s j r theirs)
    unfolding assert_as_loser
    loser_same r theirs =
        by_cond (Same s) _ (loses s j theirs) _ (loses_same theirs) (by_cond (Same s) _ (assert_forgotten s j) s forgotten_same refl)

    -- the machine of another key
    pub at_another : (theirs : AssertMetric) → Same s (assert_at s j theirs).0
    unfolding assert_at
    at_another theirs = go (row_at s.asserts j)
      where
        go : (o : Option AssertRow) → Alike (assert_of s j theirs o)
        go None = no_info_same theirs
        go (Some r) = by_cond Alike (is_winner (Some r)) (assert_as_winner s j r theirs) (assert_as_loser s j r theirs, []) (winner_same r theirs) (loser_same r theirs)

    due_same : (r : AssertRow) → Alike (assert_due s j r)
    unfolding assert_due
    due_same r = by_cond Alike (is_winner (Some r)) (wins_again s j r) (assert_forgotten s j, []) (again_same r) forgotten_same

  register_same : (s : State) (j : Key) (r : _) → Same s (register_due s j r).0
  unfolding register_due
  register_same s j r = grind arith

  -- another timer
  pub fired_same : (s : State) (kind : TimerKind) (j : Key) → (kind ≡ TimerKind.Assert → same_key k j ≡ false) → Same s (fired s kind j).0
  unfolding fired fire_row downstream_expired neighbour_due keepalive_due override_timer_due join_timer_due
      other_querier_gone querying_on group_repeat_due source_repeat_due sources_sent general_query_due hello_due
      group_record_due source_record_due with_members with_repeats_of_rows
  fired_same s TimerKind.PrunePending j off =
      row_fires (Same s) s _ (row_at s.downstream j) refl (λ r. ap (λ (x : Read). row_at x.asserts k) (pending_read s j r))
  fired_same s TimerKind.Assert j off = row_fires (Same s) s _ (row_at s.asserts j) refl (λ r. due_same s j (off refl) r)
  fired_same s TimerKind.Keepalive j off = row_fires (Same s) s _ (row_at s.sources j) refl (λ r. refl)
  fired_same s TimerKind.Register j off = row_fires (Same s) s _ (row_at s.registers j) refl (λ r. register_same s j r.state)
  fired_same s TimerKind.GroupRepeat j off = row_fires (Same s) s _ (row_at s.group_repeats j) refl (λ r. refl)
  fired_same s TimerKind.GeneralQuery j off = row_fires (Same s) s _ (row_at s.queriers j) refl (λ r. refl)
  fired_same s TimerKind.Hello j off = row_fires (Same s) s _ (row_at s.interfaces j) refl (λ r. refl)
  fired_same s kind j off = refl

-- ---- each event's own change, but an Assert

module _ (k : Key) (row : AssertRow) where
  abbrev pub Stays : State → Type 0
  Stays s = row_at s.asserts k ≡ Some row

  same_read : (s t : State) → read t ≡ read s → Stays s → Stays t
  same_read s t e f = ap (λ (r : Read). row_at r.asserts k) e ∙ f

  -- where there is a row data changes nothing
  own_data : (s : State) → Stays s → Stays (data_seen s k).0
  unfolding data_seen has_row
  own_data s f =
      subst (λ (b : Bool). Stays (cond (could_assert_at s k && not b) (wins s k) (s, [])).0) (sym (ap is_some f)) (unmoved (could_assert_at s k))
    where
      unmoved : (c : Bool) → Stays (cond (c && not true) (wins s k) (s, [])).0
      unmoved true = f
      unmoved false = f

  data_kept : (s : State) (j : Key) → Stays s → Stays (data_seen s j).0
  unfolding data_seen
  data_kept s j f = go (same_key k j) refl
    where
      go : (b : Bool) → same_key k j ≡ b → Stays (data_seen s j).0
      go true same = subst (λ (q : Key). Stays (data_seen s q).0) (equal_keys k j same) (own_data s f)
      go false off = by_cond (λ (p : State × List Message). Stays p.0) _ (wins s j) (s, []) (wins_same k s j off ∙ f) f

  chosen_kept : (s : State) (g src iif : ℕ) → Stays s → Stays (list_chosen s g src iif).state
  unfolding list_chosen stray
  chosen_kept s g src iif f = grind (arith, data_kept, same_read, watched_read)

  forwarded_kept : (s : State) (g src iif : ℕ) → Stays s → Stays (forwarded s g src iif).state
  unfolding forwarded
  forwarded_kept s g src iif f =
      chosen_kept (spt_updated (source_joined (source_here s g src iif) g src iif) g src iif) g src iif
      (same_read s (spt_updated (source_joined (source_here s g src iif) g src iif) g src iif) (updated_read (source_joined (source_here s g src iif) g src iif) g src iif
      ∙ joined_read (source_here s g src iif) g src iif ∙ here_read s g src iif) f)

  hello_rows : (s : State) (i from : ℕ) (h : HelloValue) (w : ℕ) → (hello_received s i from h w).asserts
      ≡ cond (is_generation_changed s i from h) (filter (λ e. not (is_lost_to i from e)) s.asserts) s.asserts
  unfolding hello_received hello_triggered neighbour_replaced neighbour_restarted
  hello_rows s i from h w = grind arith

  hello_kept : (s : State) (i from : ℕ) (h : HelloValue) (w : ℕ) → Stays s
      → (is_lost_to i from (k, row) && is_generation_changed s i from h) ≡ false → Stays (hello_received s i from h w)
  hello_kept s i from h w f off =
      ap (λ (t : Table AssertRow). row_at t k) (hello_rows s i from h w) ∙ go (is_generation_changed s i from h) off
    where
      passes : (a : Bool) → (a && true) ≡ false → not a ≡ true
      passes a e = grind arith

      go : (b : Bool) → (is_lost_to i from (k, row) && b) ≡ false
          → row_at (cond b (filter (λ e. not (is_lost_to i from e)) s.asserts) s.asserts) k ≡ Some row
      go true e = filter_keeps (λ e. not (is_lost_to i from e)) k row (passes _ e) s.asserts f
      go false e = f

  by_read : {a b : Read} → a ≡ b → row_at b.asserts k ≡ Some row → row_at a.asserts k ≡ Some row
  by_read e f = ap (λ (r : Read). row_at r.asserts k) e ∙ f

  -- what may drop the row, or change it
  abbrev pub drops : State → Accepted → Bool
  drops s (Accepted.Down j) = is_on j.number k
  drops s (Accepted.Hello j from h) = is_lost_to j.number from.bits (k, row) && is_generation_changed s j.number from.bits h
  drops s (Accepted.JoinPruneToMe j m) = is_loser (Some row) && is_named (joined_keys s j.number m) k
  drops s (Accepted.Assert j from a) = true
  drops s a = false

  pub change_kept : (s : State) (w : ℕ) (a : Accepted) → Stays s → drops s a ≡ false → Stays (change s w a).state
  unfolding change iface_up querier_up querying rps_replaced register_stop_seen iface_down to_me keys_taken asserts_after_joins
  change_kept s w (Accepted.Advance moment) f off = f
  change_kept s w (Accepted.Up j) f off = f
  change_kept s w (Accepted.Down j) f off = row_kept (is_on j.number) k off s.asserts ∙ f
  change_kept s w (Accepted.Routes routes) f off = f
  change_kept s w (Accepted.Rps ranges) f off = f
  change_kept s w (Accepted.Hello j from h) f off = hello_kept s j.number from.bits h w f off
  change_kept s w (Accepted.JoinPruneToMe j m) f off = filter_keeps _ k row (ap not off) s.asserts f
  change_kept s w (Accepted.JoinPruneSeen j m) f off = by_read (seen_read s w j.number m) f
  change_kept s w (Accepted.Assert j from a) f off = cc off
  change_kept s w (Accepted.Query j from q) f off = by_read (query_read s j.number from.bits q) f
  change_kept s w (Accepted.Report j records) f off = by_read (report_read s j.number records) f
  change_kept s w (Accepted.Data j p) f off = forwarded_kept s p.destination p.source j.number f
  change_kept s w (Accepted.Register p (Encapsulated inner)) f off = by_read (register_read s p inner.destination inner.source false) f
  change_kept s w (Accepted.Register p (Null source group)) f off = by_read (register_read s p group source true) f
  change_kept s w (Accepted.RegisterStop from r) f off = f
