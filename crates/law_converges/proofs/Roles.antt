-- The querier's row of an interface: what leaves it as it is, and what another router's query makes of it.
use Rattle.std.{proofs.{Common.{◌≡◌, ◌∙◌, ℕ, ◌+◌, ◌*◌, ◌-◌, ◌/◌, ◌<◌, ◌≤◌, ◌&&◌, ◌==◌, not, nat_le, nat_lt, Bool, true, false, cond, List, length, Option, Some, Ok, refl, sym, ap, subst, arith, eqb-true, eq-eqb}, lemmas.{Bool.{Decides.nat_tests, false_from_ne_true}}}, specs.{Cmp.first_so, List.list_any, Option.option_map_or}}
use Rattle.pim_types.{specs.{Keys.{iface_in, iface_key, is_on, same_key}, declared.{event.Event.Event, fact.{Key.Key, QuerierRole.QuerierRole, QuerierRow.QuerierRow, RegisterRow.RegisterRow}, timer.TimerKind.TimerKind}}, proofs.Keys.equal_keys}
use Rattle.pim_wire.{specs.Values.{Encapsulated, Null}}
use Rattle.igmp_wire.{specs.{Codes.code_value, Values.Query as QueryValue}}
use Rattle.pim_model.{specs.{declared.accepted.Accepted.Accepted, Asserts.{assert_due, assert_received}, Cause.{done_as, if_done}, Downstream.{downstream_expired, prune_pending_due, to_me}, Firing.{fire_all, fire_instant, fire_once, fire_row, fired, keepalive_due, settled}, Forwarding.{forwarded, register_received}, Hellos.{hello_due, hello_received, neighbour_due}, Judging.{Judged, judged}, Messages.Message, Querier.{general_query_due, given_or, group_record_due, group_repeat_due, is_lower_querier, lower_queried, other_querier_gone, other_querier_interval, querier_elected, querier_on, querier_row, querier_up, query_interval, query_seen, querying, querying_on, report_seen, robustness, source_record_due, source_repeat_due, sources_sent}, Records.{with_members, with_repeats_of_rows}, Registers.{register_due, register_stop_seen}, Seen.seen, State.State, Step.{advanced, change, concluded, done, iface_down, iface_up, rps_replaced, step, taken, taken_unless_full}, Tables.{Table, put, row_at, same_option}, Timers.{Ending, next_due, next_query, other_querier_end, timers}, Upstream.{join_timer_due, override_timer_due}}}
use Rattle.law_settled.{specs.{Laws.is_querier_entry, Ready.{IsLawful, IsSettled}}, proofs.{Ends.{Ends, shows}, LawfulFiring.one_firing_is_lawful, ListLaws.{any_among_all, each_of_list}, RowLaws.{row_change_away, row_kept, row_put, row_put_away}, SettledStates.settled_is_lawful, TimerLaws.{IsNext, is_next}, TurnLaws.kept_to_the_end, UnchangedLaws.{full_or_taken, taken_done}}}
use Rattle.law_streams.{specs.Copies.happens, proofs.{Climbs.swapped, Lasts.only_row, LiesUnder.row_fires}}
use Rattle.law_states.{proofs.{Queriers.{Asked as Read, asked, settled_asked}, NextQueries.{assert_asked, assert_due_asked, data_asked, hello_asked, lowered_asked, pending_asked, register_asked, report_asked, seen_asked, to_me_asked}}}
use Rattle.law_converges.{specs.LinkQuerier.{HoldsBack, ends_holding, present_for}}

-- a querier's row is under its interface's key
pub under_iface : (s : State) (k : Key) (test : QuerierRow → Bool) → IsLawful s
    → list_any (λ (e : Key × QuerierRow). same_key k e.0 && test e.1) s.queriers ≡ true → iface_key (iface_in k) ≡ k
under_iface s k test f shown =
    any_among_all (λ (e : Key × QuerierRow). is_querier_entry e ≡ true) (λ e. same_key k e.0 && test e.1)
    (λ e entry passes.
    let same : k ≡ e.0 = equal_keys k e.0 (first_so (same_key k e.0) (test e.1) passes) in
    let key : iface_key (iface_in e.0) ≡ e.0 =
    equal_keys (iface_key (iface_in e.0)) e.0 (first_so (same_key (iface_key (iface_in e.0)) e.0) (nat_lt 0 (e.1).robustness && nat_lt 0 (e.1).query_interval) entry) in
    subst (λ (x : Key). iface_key (iface_in x) ≡ x) (sym same) key)
    s.queriers (each_of_list is_querier_entry s.queriers (f.firable).queriers) shown

module _ (i : ℕ) where
  pub same_row : (s t : State) → asked t ≡ asked s → querier_on t i ≡ querier_on s i
  same_row s t e = ap (λ (a : Read). row_at a.queriers (iface_key i)) e

  pub settled_row : (o : State) (c : State × List Message) (w : ℕ) → querier_on (settled o c w).0 i ≡ querier_on c.0 i
  settled_row o c w = same_row c.0 (settled o c w).0 (settled_asked o c w)

  apart : (j : ℕ) → (j == i) ≡ false → iface_key j ≡ iface_key i → ⊥
  apart j off e = let is : (j == i) ≡ true = eq-eqb j i (ap iface_in e) in cc

  -- ---- each event's own change, but a query of a lower querier there, and the interface going up or down

  abbrev pub leaves_row : State → Accepted → Bool
  leaves_row s (Accepted.Up j) = not (j.number == i)
  leaves_row s (Accepted.Down j) = not (j.number == i)
  leaves_row s (Accepted.Query j from q) = not ((j.number == i) && is_lower_querier s j.number from.bits)
  leaves_row s a = true

  put_row : (rows : Table QuerierRow) (j : ℕ) (q : QuerierRow) → (j == i) ≡ false
      → row_at (put rows (iface_key j) q) (iface_key i) ≡ row_at rows (iface_key i)
  put_row rows j q off = row_put_away (iface_key j) (iface_key i) (apart j off) q rows

  up_row : (s : State) (w j : ℕ) → (j == i) ≡ false → querier_on (iface_up s w j).0 i ≡ querier_on s i
  unfolding iface_up querier_up querying
  up_row s w j off = put_row s.queriers j _ off

  elected_row : (s : State) (j qrv qqi : ℕ) → (j == i) ≡ false → querier_on (querier_elected s j qrv qqi) i ≡ querier_on s i
  unfolding querier_elected
  elected_row s j qrv qqi off = put_row s.queriers j _ off

  not_both : (a b : Bool) → not (a && b) ≡ true → b ≡ true → a ≡ false
  not_both a b e f = grind arith

  not_false : (a : Bool) → not a ≡ true → a ≡ false
  not_false a e = grind arith

  query_row : (s : State) (j from : ℕ) (q : QueryValue) → not ((j == i) && is_lower_querier s j from) ≡ true
      → querier_on (query_seen s j from q) i ≡ querier_on s i
  unfolding query_seen
  query_row s j from q off = go (is_lower_querier s j from) refl where
    go : (b : Bool) → is_lower_querier s j from ≡ b
        → querier_on (lower_queried (cond b (querier_elected s j q.robustness (code_value q.interval_code)) s) j q) i ≡ querier_on s i
    go true e =
        let elected : State = querier_elected s j q.robustness (code_value q.interval_code) in
        same_row elected (lower_queried elected j q) (lowered_asked elected j q)
        ∙ elected_row s j q.robustness (code_value q.interval_code) (not_both (j == i) (is_lower_querier s j from) off e)
    go false e = same_row s (lower_queried s j q) (lowered_asked s j q)

  down_row : (s : State) (j : ℕ) → (j == i) ≡ false → querier_on (iface_down s j) i ≡ querier_on s i
  unfolding iface_down
  down_row s j off = row_kept (is_on j) (iface_key i) (swapped j i off) s.queriers

  change_row_same : (s : State) (w : ℕ) (a : Accepted) → leaves_row s a ≡ true → querier_on (change s w a).state i ≡ querier_on s i
  unfolding change rps_replaced register_stop_seen
  change_row_same s w (Accepted.Advance moment) off = refl
  change_row_same s w (Accepted.Up j) off = up_row s w j.number (not_false (j.number == i) off)
  change_row_same s w (Accepted.Down j) off = down_row s j.number (not_false (j.number == i) off)
  change_row_same s w (Accepted.Routes routes) off = refl
  change_row_same s w (Accepted.Rps ranges) off = refl
  change_row_same s w (Accepted.Hello j from h) off = same_row s (hello_received s j.number from.bits h w) (hello_asked s j.number from.bits h w)
  change_row_same s w (Accepted.JoinPruneToMe j m) off = same_row s (to_me s j.number m) (to_me_asked s j.number m)
  change_row_same s w (Accepted.JoinPruneSeen j m) off = same_row s (seen s w j.number m) (seen_asked s w j.number m)
  change_row_same s w (Accepted.Assert j from a) off = same_row s (assert_received s j.number from.bits a).0 (assert_asked s j.number from.bits a)
  change_row_same s w (Accepted.Query j from q) off = query_row s j.number from.bits q off
  change_row_same s w (Accepted.Report j records) off = same_row s (report_seen s j.number records).0 (report_asked s j.number records)
  change_row_same s w (Accepted.Data j p) off = same_row s (forwarded s p.destination p.source j.number).state (data_asked s p.destination p.source j.number)
  change_row_same s w (Accepted.Register p (Encapsulated inner)) off =
      same_row s (register_received s p inner.destination inner.source false).state (register_asked s p inner.destination inner.source false)
  change_row_same s w (Accepted.Register p (Null source group)) off = same_row s (register_received s p group source true).state (register_asked s p group source true)
  change_row_same s w (Accepted.RegisterStop from r) off = refl

  pub done_row : (s : State) (w : ℕ) (a : Accepted) → leaves_row s a ≡ true
      → querier_on (done s w (change s w a)).state i ≡ querier_on s i
  unfolding done
  done_row s w a off = settled_row s ((change s w a).state, (change s w a).messages) w ∙ change_row_same s w a off

  -- ---- a timer

  abbrev Alike : State → State → Type 0
  Alike s t = querier_on t i ≡ querier_on s i

  on_away : (s : State) (j x left : ℕ) → (j == i) ≡ false → Alike s (querying_on s j x left)
  unfolding querying_on
  on_away s j x left off = row_change_away (iface_key j) (iface_key i) (apart j off) (λ (old : QuerierRow). Some (querier_row s x left)) s.queriers

  gone_away : (s : State) (j : ℕ) → (j == i) ≡ false → Alike s (other_querier_gone s j).0
  unfolding other_querier_gone
  gone_away s j off = on_away s j _ 0 off

  due_away : (s : State) (j left : ℕ) → (j == i) ≡ false → Alike s (general_query_due s j left).0
  unfolding general_query_due
  due_away s j left off = on_away s j _ (left - 1) off

  register_due_asked : (s : State) (k : Key) (r : _) → asked (register_due s k r).0 ≡ asked s
  unfolding register_due
  register_due_asked s k r = grind arith

  pub fired_row : (s : State) (kind : TimerKind) (k : Key)
      → (kind ≡ TimerKind.GeneralQuery → (iface_in k == i) ≡ false) → (kind ≡ TimerKind.OtherQuerier → (iface_in k == i) ≡ false)
      → Alike s (fired s kind k).0
  unfolding fired fire_row downstream_expired neighbour_due keepalive_due override_timer_due join_timer_due
      hello_due group_repeat_due source_repeat_due sources_sent group_record_due source_record_due with_members
      with_repeats_of_rows
  fired_row s TimerKind.Neighbour k a b = refl
  fired_row s TimerKind.PrunePending k a b = row_fires (Alike s) s _ (row_at s.downstream k) refl (λ r. same_row s (prune_pending_due s k r).0 (pending_asked s k r))
  fired_row s TimerKind.DownstreamExpiry k a b = refl
  fired_row s TimerKind.GroupRecord k a b = refl
  fired_row s TimerKind.SourceRecord k a b = refl
  fired_row s TimerKind.Assert k a b = row_fires (Alike s) s _ (row_at s.asserts k) refl (λ r. same_row s (assert_due s k r).0 (assert_due_asked s k r))
  fired_row s TimerKind.Keepalive k a b = row_fires (Alike s) s _ (row_at s.sources k) refl (λ r. refl)
  fired_row s TimerKind.Register k a b =
      row_fires (Alike s) s _ (row_at s.registers k) refl (λ (r : RegisterRow). same_row s (register_due s k r.state).0 (register_due_asked s k r.state))
  fired_row s TimerKind.Override k a b = refl
  fired_row s TimerKind.Join k a b = refl
  fired_row s TimerKind.OtherQuerier k a b = gone_away s (iface_in k) (b refl)
  fired_row s TimerKind.GroupRepeat k a b = row_fires (Alike s) s _ (row_at s.group_repeats k) refl (λ r. refl)
  fired_row s TimerKind.SourceRepeat k a b = refl
  fired_row s TimerKind.GeneralQuery k a b = row_fires (Alike s) s _ (row_at s.queriers k) refl (λ r. due_away s (iface_in k) _ (a refl))
  fired_row s TimerKind.Hello k a b = row_fires (Alike s) s _ (row_at s.interfaces k) refl (λ r. refl)

  -- a querier's timer that fires at the interface is that of its row
  pub its_end : (s : State) (row : QuerierRow) → IsLawful s → querier_on s i ≡ Some row → (k : Key) (end_of : QuerierRole → Option ℕ) (n : ℕ)
      → list_any (λ (e : Key × QuerierRow). same_key k e.0 && same_option (end_of (e.1).role) (Some n)) s.queriers ≡ true
      → (iface_in k == i) ≡ true → (k ≡ iface_key i) × (same_option (end_of row.role) (Some n) ≡ true)
  its_end s row f found k end_of n shown at =
      let is : k ≡ iface_key i =
      sym (under_iface s k (λ (q : QuerierRow). same_option (end_of q.role) (Some n)) f shown) ∙ ap iface_key (eqb-true (iface_in k) i at) in (
        is,
        only_row (iface_key i) (λ (e : Key × QuerierRow). same_option (end_of (e.1).role) (Some n)) row s.queriers (f.ordered).queriers found
            (subst (λ (x : Key). list_any (λ (e : Key × QuerierRow). same_key x e.0 && same_option (end_of (e.1).role) (Some n)) s.queriers ≡ true) is shown)
            (λ y same key passes. subst (λ (z : QuerierRow). same_option (end_of z.role) (Some n) ≡ true) same passes),
      )

  -- ---- where another router is the querier

  module _ (row : QuerierRow) (until m : ℕ) (role : row.role ≡ QuerierRole.NonQuerier until) (before : m < until) where
    record Kept (s : State) : Type 0 where
      there : querier_on s i ≡ Some row
      lawful : IsLawful s

    never : (end_of : QuerierRole → Option ℕ) (n : ℕ) → (same_option (end_of (QuerierRole.NonQuerier until)) (Some n) ≡ true → ⊥)
        → (s : State) (k : Key) → Kept s
        → list_any (λ (e : Key × QuerierRow). same_key k e.0 && same_option (end_of (e.1).role) (Some n)) s.queriers ≡ true
        → (iface_in k == i) ≡ false
    never end_of n none s k f shown =
        false_from_ne_true (iface_in k == i)
        (λ e. none (subst (λ (r : QuerierRole). same_option (end_of r) (Some n) ≡ true) role
        (its_end s row f.lawful f.there k end_of n shown e).1))

    no_query : (n : ℕ) → same_option (next_query (QuerierRole.NonQuerier until)) (Some n) ≡ true → ⊥
    no_query n e = cc e

    not_yet : (n : ℕ) → n ≤ m → same_option (other_querier_end (QuerierRole.NonQuerier until)) (Some n) ≡ true → ⊥
    not_yet n low e = let is : until ≡ n = eqb-true until n e in absurd (omega (arith, is, low, before))

    module _ (w : ℕ) where
      once_keeps : (s : State) (d : Ending) → Kept s → d.end ≤ m → shows d.timer.kind (Ends d.timer.key d.end) s ≡ true
          → Kept (fire_once w s d).0
      unfolding fire_once
      once_keeps s d f low shown =
          let k : Key = d.timer.key in
          let opened : State = record s { present = d.end } in
          record {
            there = settled_row s (fired opened d.timer.kind k) w ∙ (fired_row opened d.timer.kind k
                (λ is. never next_query d.end (no_query d.end) s k f (subst (λ (kind : TimerKind). shows kind (Ends k d.end) s ≡ true) is shown))
                (λ is. never other_querier_end d.end (not_yet d.end low) s k f (subst (λ (kind : TimerKind). shows kind (Ends k d.end) s ≡ true) is shown))
                ∙ f.there);
            lawful = one_firing_is_lawful w s d f.lawful;
          }

      instant_keeps : (s : State) (e : Ending) → Kept s → e.end ≤ m → Kept (fire_instant w s e).0
      unfolding fire_instant
      instant_keeps s e f low =
          kept_to_the_end (next_due e.end) (fire_once w) Kept
          (λ u d h there.
          let next : IsNext e.end u d = is_next e.end u d there in
          let due : d.end ≤ e.end = next.due in once_keeps u d h (omega (arith, due, low)) next.shown)
          (length (timers s) + 1) s f

      time_keeps : (s : State) → Kept s → querier_on (advanced s w m).state i ≡ Some row
      unfolding advanced fire_all
      time_keeps s f =
          (kept_to_the_end (next_due m) (fire_instant w) Kept
          (λ u d h there. instant_keeps u d h (is_next m u d there).due) (m + 2 - s.present) s f).there

  -- the row that a lower querier's query leaves
  elected_there : (s : State) (q : QueryValue) → querier_on (querier_elected s i q.robustness (code_value q.interval_code)) i
      ≡ Some (record {
        role = QuerierRole.NonQuerier (s.present + present_for s.settings q);
        robustness = given_or q.robustness s.settings.robustness;
        query_interval = given_or (code_value q.interval_code) s.settings.query_interval;
      })
  unfolding querier_elected other_querier_interval robustness query_interval
  elected_there s q =
      let r : ℕ = given_or q.robustness s.settings.robustness in
      let v : ℕ = given_or (code_value q.interval_code) s.settings.query_interval in
      let row : ℕ → QuerierRow = λ end. record { role = QuerierRole.NonQuerier end; robustness = r; query_interval = v } in
      row_put (iface_key i) _ s.queriers
      ∙ ap (λ (o : Option QuerierRow). Some (row (s.present + (option_map_or (λ (x : QuerierRow). x.robustness) o s.settings.robustness
      * (1000 * option_map_or (λ (x : QuerierRow). x.query_interval) o s.settings.query_interval) + 100 * s.settings.query_response_interval / 2))))
      (row_put (iface_key i) (row 0) s.queriers)

  pub query_there : (s : State) (from : ℕ) (q : QueryValue) → is_lower_querier s i from ≡ true
      → querier_on (query_seen s i from q) i
      ≡ Some (record {
        role = QuerierRole.NonQuerier (s.present + present_for s.settings q);
        robustness = given_or q.robustness s.settings.robustness;
        query_interval = given_or (code_value q.interval_code) s.settings.query_interval;
      })
  unfolding query_seen
  query_there s from q lower =
      ap (λ (b : Bool). querier_on (lower_queried (cond b (querier_elected s i q.robustness (code_value q.interval_code)) s) i q) i) lower
      ∙ (same_row (querier_elected s i q.robustness (code_value q.interval_code))
      (lower_queried (querier_elected s i q.robustness (code_value q.interval_code)) i q)
      (lowered_asked (querier_elected s i q.robustness (code_value q.interval_code)) i q)
      ∙ elected_there s q)

  -- ---- an event keeps it held back

  held_so : (end : ℕ) (s t : State) → querier_on t i ≡ querier_on s i → HoldsBack s i end → HoldsBack t i end
  held_so end s t same f = record { row = f.row; found = same ∙ f.found; until = f.until; role = f.role; lasts = f.lasts }

  at_most : (a b : ℕ) → nat_lt b a ≡ false → a ≤ b
  at_most a b e = grind (arith, nat_tests, e)

  less : (a b c : ℕ) → nat_le a b ≡ false → a ≤ c → b < c
  less a b c e f = grind (arith, nat_tests, e, f)

  not_of : (a : Bool) → a ≡ false → not a ≡ true
  not_of a e = grind arith

  module _ (end : ℕ) (s : State) (f : HoldsBack s i end) where
    Held : State → Type 0
    Held t = HoldsBack t i end

    query_holds : (j from : ℕ) (q : QueryValue) → (((j == i) && is_lower_querier s j from) && nat_lt (s.present + present_for s.settings q) end) ≡ false
        → HoldsBack (query_seen s j from q) i end
    query_holds j from q off = go ((j == i) && is_lower_querier s j from) refl off
      where
        both_first : (a b : Bool) → (a && b) ≡ true → a ≡ true
        both_first a b e = grind arith

        both_second : (a b : Bool) → (a && b) ≡ true → b ≡ true
        both_second a b e = grind arith

        go : (c : Bool) → ((j == i) && is_lower_querier s j from) ≡ c → (c && nat_lt (s.present + present_for s.settings q) end) ≡ false
            → HoldsBack (query_seen s j from q) i end
        go true is e =
            let at : j ≡ i = eqb-true j i (both_first (j == i) _ is) in
            let lower : is_lower_querier s i from ≡ true =
            subst (λ (x : ℕ). is_lower_querier s x from ≡ true) at (both_second (j == i) _ is) in
            subst (λ (x : ℕ). HoldsBack (query_seen s x from q) i end) (sym at)
            (record { row = _; found = query_there s from q lower; until = s.present + present_for s.settings q; role = refl; lasts = at_most end (s.present + present_for s.settings q) e })
        go false is e = held_so end s (query_seen s j from q) (query_row s j from q (not_of _ is)) f

    change_holds : (w : ℕ) (a : Accepted) → ends_holding s i end (Some a) ≡ false → HoldsBack (change s w a).state i end
    unfolding change
    change_holds w (Accepted.Advance moment) off = held_so end s (change s w (Accepted.Advance moment)).state (change_row_same s w (Accepted.Advance moment) refl) f
    change_holds w (Accepted.Up j) off = held_so end s (change s w (Accepted.Up j)).state (change_row_same s w (Accepted.Up j) (not_of _ off)) f
    change_holds w (Accepted.Down j) off = held_so end s (change s w (Accepted.Down j)).state (change_row_same s w (Accepted.Down j) (not_of _ off)) f
    change_holds w (Accepted.Routes routes) off = held_so end s (change s w (Accepted.Routes routes)).state (change_row_same s w (Accepted.Routes routes) refl) f
    change_holds w (Accepted.Rps ranges) off = held_so end s (change s w (Accepted.Rps ranges)).state (change_row_same s w (Accepted.Rps ranges) refl) f
    change_holds w (Accepted.Hello j from h) off = held_so end s (change s w (Accepted.Hello j from h)).state (change_row_same s w (Accepted.Hello j from h) refl) f
    change_holds w (Accepted.JoinPruneToMe j m) off = held_so end s (change s w (Accepted.JoinPruneToMe j m)).state (change_row_same s w (Accepted.JoinPruneToMe j m) refl) f
    change_holds w (Accepted.JoinPruneSeen j m) off = held_so end s (change s w (Accepted.JoinPruneSeen j m)).state (change_row_same s w (Accepted.JoinPruneSeen j m) refl) f
    change_holds w (Accepted.Assert j from a) off = held_so end s (change s w (Accepted.Assert j from a)).state (change_row_same s w (Accepted.Assert j from a) refl) f
    change_holds w (Accepted.Query j from q) off = query_holds j.number from.bits q off
    change_holds w (Accepted.Report j records) off = held_so end s (change s w (Accepted.Report j records)).state (change_row_same s w (Accepted.Report j records) refl) f
    change_holds w (Accepted.Data j p) off = held_so end s (change s w (Accepted.Data j p)).state (change_row_same s w (Accepted.Data j p) refl) f
    change_holds w (Accepted.Register p r) off = held_so end s (change s w (Accepted.Register p r)).state (change_row_same s w (Accepted.Register p r) refl) f
    change_holds w (Accepted.RegisterStop from r) off = held_so end s (change s w (Accepted.RegisterStop from r)).state (change_row_same s w (Accepted.RegisterStop from r) refl) f

    module _ (rest : IsSettled s) where
      time_holds : (w m : ℕ) → nat_le end m ≡ false → HoldsBack (advanced s w m).state i end
      time_holds w m off = record {
        row = f.row;
        found = time_keeps f.row f.until m f.role (less end m f.until off f.lasts) w s (record { there = f.found; lawful = settled_is_lawful s rest });
        until = f.until;
        role = f.role;
        lasts = f.lasts;
      }

      done_holds : (w : ℕ) (a : Accepted) → ends_holding s i end (Some a) ≡ false → HoldsBack (done s w (change s w a)).state i end
      unfolding done
      done_holds w a off =
          held_so end (change s w a).state (done s w (change s w a)).state (settled_row s ((change s w a).state, (change s w a).messages) w)
          (change_holds w a off)

      taken_holds : (w : ℕ) (a : Accepted) → ends_holding s i end (Some a) ≡ false → HoldsBack (taken s w a).state i end
      unfolding taken
      taken_holds w (Accepted.Advance moment) off = time_holds w moment off
      taken_holds w a off = done_holds w a off

      full_holds : (w : ℕ) (a : Accepted) (b : Bool) → ends_holding s i end (if_done (full_or_taken s w a b).answer (Ok a)) ≡ false
          → HoldsBack (full_or_taken s w a b).state i end
      full_holds w a b off = grind (arith, taken_holds, taken_done)

      concluded_holds : (w : ℕ) (j : Judged) → ends_holding s i end (if_done (concluded s (taken_unless_full s w) j).answer j) ≡ false
          → HoldsBack (concluded s (taken_unless_full s w) j).state i end
      unfolding taken_unless_full
      concluded_holds w j off = grind (arith, full_holds)

pub event_holds_back : (s : State) (e : Event) (i end : ℕ) → IsSettled s → HoldsBack s i end
    → ends_holding s i end (done_as (happens s e)) ≡ false → HoldsBack (step s e).state i end
unfolding step done_as
event_holds_back s e i end rest f off = concluded_holds i end s f rest e.draw (judged s e.kind) off
