-- The next general query of an interface, which events and time leave until it is due.
use Rattle.std.{proofs.{Common.{◌≡◌, ◌∙◌, ℕ, ◌+◌, ◌-◌, ◌≤◌, ◌&&◌, ◌==◌, not, nat_le, nat_lt, Bool, true, false, cond, is_some, List, [], ◌∷◌, length, Option, Some, None, option_and_then, refl, sym, ap, subst, arith, eqb-true, eq-eqb}, lemmas.{Bool.{Decides.nat_tests, false_from_ne_true}}}, specs.{Cmp.first_so, List.list_any}}
use Rattle.pim_types.{specs.{Keys.{iface_in, iface_key, is_on, same_key}, declared.{fact.{Key.Key, QuerierRole.QuerierRole, QuerierRow.QuerierRow}, timer.TimerKind.TimerKind}}, proofs.Keys.equal_keys}
use Rattle.pim_wire.{specs.Values.{Encapsulated, Null}}
use Rattle.igmp_wire.{specs.{Codes.code_value, Values.Query as QueryValue}}
use Rattle.pim_model.{specs.{declared.accepted.Accepted.Accepted, Downstream.downstream_expired, Firing.{fire_all, fire_instant, fire_once, fire_row, fired, keepalive_due, settled}, Hellos.{hello_due, neighbour_due}, Messages.Message, Querier.{general_query_due, group_record_due, group_repeat_due, is_lower_querier, lower_queried, other_querier_gone, querier_elected, querier_row, querier_up, query_seen, querying, querying_on, source_record_due, source_repeat_due, sources_sent}, Records.{with_members, with_repeats_of_rows}, Registers.{register_due, register_stop_seen}, State.State, Step.{advanced, change, done, iface_down, iface_up, rps_replaced}, Tables.{Table, change_row, changed_entry, has_row, put, row_at, same_option}, Timers.{Ending, next_due, next_query, other_querier_end, timers}, Upstream.{join_timer_due, override_timer_due}}}
use Rattle.law_settled.{specs.{Laws.is_querier_entry, Ready.IsLawful}, proofs.{Ends.{Ends, shows}, LawfulFiring.one_firing_is_lawful, ListLaws.{any_among_all, each_of_list}, RowLaws.{row_change_away, row_kept, row_put_away}, TimerLaws.{IsNext, is_next}, TurnLaws.kept_to_the_end}}
use Rattle.law_streams.{proofs.{EndSoon.no_later, LiesUnder.row_fires, Walks.time_walks, Climbs.swapped, Lasts.only_row}}
use Rattle.law_states.{proofs.{Queriers.{Asked as Read, asked, settled_asked}, NextQueries.{assert_asked, assert_due_asked, data_asked, hello_asked, lowered_asked, pending_asked, register_asked, report_asked, seen_asked, to_me_asked}}}
use Rattle.law_hosts.{specs.Members.next_general}

-- the next general query of a row
abbrev pub next_in : Option QuerierRow → Option ℕ
next_in o = option_and_then (λ (q : QuerierRow). next_query q.role) o

module _ (i : ℕ) where
  abbrev next_among : Table QuerierRow → Option ℕ
  next_among rows = next_in (row_at rows (iface_key i))

  pub same_next : (s t : State) → asked t ≡ asked s → next_general t i ≡ next_general s i
  unfolding next_general
  same_next s t e = ap (λ (a : Read). next_among a.queriers) e

  pub settled_next : (o : State) (c : State × List Message) (w : ℕ) → next_general (settled o c w).0 i ≡ next_general c.0 i
  settled_next o c w = same_next c.0 (settled o c w).0 (settled_asked o c w)

  apart : (j : ℕ) → (j == i) ≡ false → iface_key j ≡ iface_key i → ⊥
  apart j off e = let is : (j == i) ≡ true = eq-eqb j i (ap iface_in e) in cc

  -- ---- each event's own change, but a query of a lower querier there, and the interface going up or down

  abbrev pub leaves_next : State → Accepted → Bool
  leaves_next s (Accepted.Up j) = not (j.number == i)
  leaves_next s (Accepted.Down j) = not (j.number == i)
  leaves_next s (Accepted.Query j from q) = not ((j.number == i) && is_lower_querier s j.number from.bits)
  leaves_next s a = true

  put_next : (rows : Table QuerierRow) (j : ℕ) (q : QuerierRow) → (j == i) ≡ false
      → next_among (put rows (iface_key j) q) ≡ next_among rows
  put_next rows j q off = ap next_in (row_put_away (iface_key j) (iface_key i) (apart j off) q rows)

  up_next : (s : State) (w j : ℕ) → (j == i) ≡ false → next_general (iface_up s w j).0 i ≡ next_general s i
  unfolding iface_up querier_up querying next_general
  up_next s w j off = put_next s.queriers j _ off

  elected_next : (s : State) (j qrv qqi : ℕ) → (j == i) ≡ false → next_general (querier_elected s j qrv qqi) i ≡ next_general s i
  unfolding querier_elected next_general
  elected_next s j qrv qqi off = put_next s.queriers j _ off

  not_both : (a b : Bool) → not (a && b) ≡ true → b ≡ true → a ≡ false
  not_both a b e f = grind arith

  not_false : (a : Bool) → not a ≡ true → a ≡ false
  not_false a e = grind arith

  query_next : (s : State) (j from : ℕ) (q : QueryValue) → not ((j == i) && is_lower_querier s j from) ≡ true
      → next_general (query_seen s j from q) i ≡ next_general s i
  unfolding query_seen
  query_next s j from q off = go (is_lower_querier s j from) refl where
    go : (b : Bool) → is_lower_querier s j from ≡ b
        → next_general (lower_queried (cond b (querier_elected s j q.robustness (code_value q.interval_code)) s) j q) i ≡ next_general s i
    go true e =
        let elected : State = querier_elected s j q.robustness (code_value q.interval_code) in
        same_next elected (lower_queried elected j q) (lowered_asked elected j q)
        ∙ elected_next s j q.robustness (code_value q.interval_code) (not_both (j == i) (is_lower_querier s j from) off e)
    go false e = same_next s (lower_queried s j q) (lowered_asked s j q)

  down_next : (s : State) (j : ℕ) → (j == i) ≡ false → next_general (iface_down s j) i ≡ next_general s i
  unfolding iface_down next_general
  down_next s j off = ap next_in (row_kept (is_on j) (iface_key i) (swapped j i off) s.queriers)

  change_next : (s : State) (w : ℕ) (a : Accepted) → leaves_next s a ≡ true → next_general (change s w a).state i ≡ next_general s i
  unfolding change rps_replaced register_stop_seen
  change_next s w (Accepted.Advance moment) off = refl
  change_next s w (Accepted.Up j) off = up_next s w j.number (not_false (j.number == i) off)
  change_next s w (Accepted.Down j) off = down_next s j.number (not_false (j.number == i) off)
  change_next s w (Accepted.Routes routes) off = same_next s _ refl
  change_next s w (Accepted.Rps ranges) off = same_next s _ refl
  change_next s w (Accepted.Hello j from h) off = same_next s _ (hello_asked s j.number from.bits h w)
  change_next s w (Accepted.JoinPruneToMe j m) off = same_next s _ (to_me_asked s j.number m)
  change_next s w (Accepted.JoinPruneSeen j m) off = same_next s _ (seen_asked s w j.number m)
  change_next s w (Accepted.Assert j from a) off = same_next s _ (assert_asked s j.number from.bits a)
  change_next s w (Accepted.Query j from q) off = query_next s j.number from.bits q off
  change_next s w (Accepted.Report j records) off = same_next s _ (report_asked s j.number records)
  change_next s w (Accepted.Data j p) off = same_next s _ (data_asked s p.destination p.source j.number)
  change_next s w (Accepted.Register p (Encapsulated inner)) off = same_next s _ (register_asked s p inner.destination inner.source false)
  change_next s w (Accepted.Register p (Null source group)) off = same_next s _ (register_asked s p group source true)
  change_next s w (Accepted.RegisterStop from r) off = same_next s _ refl

  pub done_next : (s : State) (w : ℕ) (a : Accepted) → leaves_next s a ≡ true
      → next_general (done s w (change s w a)).state i ≡ next_general s i
  unfolding done
  done_next s w a off = settled_next s ((change s w a).state, (change s w a).messages) w ∙ change_next s w a off

-- a querier's row is under its interface's key
under_iface : (s : State) (k : Key) (test : QuerierRow → Bool) → IsLawful s
    → list_any (λ (e : Key × QuerierRow). same_key k e.0 && test e.1) s.queriers ≡ true → iface_key (iface_in k) ≡ k
under_iface s k test f shown =
    any_among_all (λ (e : Key × QuerierRow). is_querier_entry e ≡ true) (λ e. same_key k e.0 && test e.1)
    (λ e entry passes.
    let same : k ≡ e.0 = equal_keys k e.0 (first_so (same_key k e.0) (test e.1) passes) in
    let key : iface_key (iface_in e.0) ≡ e.0 =
    equal_keys (iface_key (iface_in e.0)) e.0 (first_so (same_key (iface_key (iface_in e.0)) e.0) (nat_lt 0 (e.1).robustness && nat_lt 0 (e.1).query_interval) entry) in
    subst (λ (x : Key). iface_key (iface_in x) ≡ x) (sym same) key)
    s.queriers (each_of_list is_querier_entry s.queriers (f.firable).queriers) shown

-- ---- time that doesn't reach it

module _ (i next m : ℕ) (before : nat_le next m ≡ false) where
  abbrev pub Next : State → Type 0
  Next s = next_general s i ≡ Some next

  next_at : (s : State) (p : ℕ) → Next s → Next (record s { present = p })
  unfolding next_general
  next_at s p f = f

  pub record Kept (s : State) : Type 0 where
    pub there : Next s
    pub lawful : IsLawful s

  -- a timer of queriers that fires is none of the interface's
  module _ (end_of : QuerierRole → Option ℕ) (n : ℕ)
      (never : (role : QuerierRole) → next_query role ≡ Some next → same_option (end_of role) (Some n) ≡ true → ⊥) where
    by_row : (s : State) → IsLawful s → (o : Option QuerierRow) → row_at s.queriers (iface_key i) ≡ o → next_in o ≡ Some next
        → list_any (λ (e : Key × QuerierRow). same_key (iface_key i) e.0 && same_option (end_of (e.1).role) (Some n)) s.queriers ≡ true → ⊥
    by_row s f None is there shown = absurd cc
    by_row s f (Some r) is there shown =
        never r.role there
        (only_row (iface_key i) (λ (e : Key × QuerierRow). same_option (end_of (e.1).role) (Some n)) r s.queriers f.ordered.queriers is shown
        (λ y same key passes. subst (λ (z : QuerierRow). same_option (end_of z.role) (Some n) ≡ true) same passes))

    elsewhere : (s : State) (k : Key) → Kept s
        → list_any (λ (e : Key × QuerierRow). same_key k e.0 && same_option (end_of (e.1).role) (Some n)) s.queriers ≡ true
        → (iface_in k == i) ≡ false
    unfolding next_general
    elsewhere s k f shown =
        false_from_ne_true (iface_in k == i)
        (λ e.
        let is : k ≡ iface_key i =
        sym (under_iface s k (λ (q : QuerierRow). same_option (end_of q.role) (Some n)) f.lawful shown) ∙ ap iface_key (eqb-true (iface_in k) i e) in
        by_row s f.lawful (row_at s.queriers (iface_key i)) refl f.there
        (subst (λ (x : Key). list_any (λ (e : Key × QuerierRow). same_key x e.0 && same_option (end_of (e.1).role) (Some n)) s.queriers ≡ true) is shown))

  -- neither the next query, which is later, nor that of another querier
  not_yet : (n : ℕ) → n ≤ m → (role : QuerierRole) → next_query role ≡ Some next → same_option (next_query role) (Some n) ≡ true → ⊥
  not_yet n low role is same =
      let at : same_option (Some next) (Some n) ≡ true = rw is at same in
      let equal : next ≡ n = eqb-true next n at in
      absurd (grind (arith, nat_tests, before, equal, low))

  not_other : (n : ℕ) (role : QuerierRole) → next_query role ≡ Some next → same_option (other_querier_end role) (Some n) ≡ true → ⊥
  not_other n (QuerierRole.Querier x left) is same = absurd cc
  not_other n (QuerierRole.NonQuerier end) is same = absurd cc

  on_away : (s : State) (j x left : ℕ) → (j == i) ≡ false → Next s → Next (querying_on s j x left)
  unfolding querying_on next_general
  on_away s j x left off f =
      ap next_in (row_change_away (iface_key j) (iface_key i) (apart i j off) (λ (old : QuerierRow). Some (querier_row s x left)) s.queriers) ∙ f

  gone_away : (s : State) (j : ℕ) → (j == i) ≡ false → Next s → Next (other_querier_gone s j).0
  unfolding other_querier_gone
  gone_away s j off f = on_away s j _ 0 off f

  due_away : (s : State) (j left : ℕ) → (j == i) ≡ false → Next s → Next (general_query_due s j left).0
  unfolding general_query_due
  due_away s j left off f = on_away s j _ (left - 1) off f

  same : (s t : State) → asked t ≡ asked s → Next s → Next t
  same s t e f = same_next i s t e ∙ f

  fired_keeps : (s : State) (kind : TimerKind) (k : Key)
      → (kind ≡ TimerKind.GeneralQuery → (iface_in k == i) ≡ false) → (kind ≡ TimerKind.OtherQuerier → (iface_in k == i) ≡ false)
      → Next s → Next (fired s kind k).0
  unfolding fired fire_row downstream_expired neighbour_due keepalive_due override_timer_due join_timer_due
      hello_due register_due group_repeat_due source_repeat_due sources_sent group_record_due source_record_due with_members
      with_repeats_of_rows
  fired_keeps s TimerKind.Neighbour k a b f = same s _ refl f
  fired_keeps s TimerKind.PrunePending k a b f = row_fires Next s _ (row_at s.downstream k) f (λ r. same s _ (pending_asked s k r) f)
  fired_keeps s TimerKind.DownstreamExpiry k a b f = same s _ refl f
  fired_keeps s TimerKind.GroupRecord k a b f = same s _ refl f
  fired_keeps s TimerKind.SourceRecord k a b f = same s _ refl f
  fired_keeps s TimerKind.Assert k a b f = row_fires Next s _ (row_at s.asserts k) f (λ r. same s _ (assert_due_asked s k r) f)
  fired_keeps s TimerKind.Keepalive k a b f = row_fires Next s _ (row_at s.sources k) f (λ r. same s _ refl f)
  fired_keeps s TimerKind.Register k a b f = grind (arith, row_fires, same)
  fired_keeps s TimerKind.Override k a b f = same s _ refl f
  fired_keeps s TimerKind.Join k a b f = same s _ refl f
  fired_keeps s TimerKind.OtherQuerier k a b f = gone_away s (iface_in k) (b refl) f
  fired_keeps s TimerKind.GroupRepeat k a b f = row_fires Next s _ (row_at s.group_repeats k) f (λ r. same s _ refl f)
  fired_keeps s TimerKind.SourceRepeat k a b f = same s _ refl f
  fired_keeps s TimerKind.GeneralQuery k a b f = row_fires Next s _ (row_at s.queriers k) f (λ r. due_away s (iface_in k) _ (a refl) f)
  fired_keeps s TimerKind.Hello k a b f = row_fires Next s _ (row_at s.interfaces k) f (λ r. same s _ refl f)

  module _ (w : ℕ) where
    once_keeps : (s : State) (d : Ending) → Kept s → d.end ≤ m → shows d.timer.kind (Ends d.timer.key d.end) s ≡ true
        → Kept (fire_once w s d).0
    unfolding fire_once
    once_keeps s d f low shown =
        let k : Key = d.timer.key in
        let opened : State = record s { present = d.end } in
        let fires : Next (fired opened d.timer.kind k).0 =
        fired_keeps opened d.timer.kind k
        (λ is. elsewhere next_query d.end (not_yet d.end low) s k f (subst (λ (kind : TimerKind). shows kind (Ends k d.end) s ≡ true) is shown))
        (λ is. elsewhere other_querier_end d.end (not_other d.end) s k f (subst (λ (kind : TimerKind). shows kind (Ends k d.end) s ≡ true) is shown))
        (next_at s d.end f.there) in
        record {
          there = settled_next i s (fired opened d.timer.kind k) w ∙ fires;
          lawful = one_firing_is_lawful w s d f.lawful;
        }

    instant_keeps : (s : State) (e : Ending) → Kept s → e.end ≤ m → Kept (fire_instant w s e).0
    unfolding fire_instant
    instant_keeps s e f low =
        kept_to_the_end (next_due e.end) (fire_once w) Kept
        (λ u d h there.
        let next : IsNext e.end u d = is_next e.end u d there in
        let due : d.end ≤ e.end = next.due in once_keeps u d h (omega (arith, due, low)) next.shown)
        (length (timers s) + 1) s f

    pub time_keeps : (s : State) → Kept s → Next (advanced s w m).state
    unfolding advanced fire_all
    time_keeps s f =
        next_at (fire_all w m s).0 m
        ((kept_to_the_end (next_due m) (fire_instant w) Kept
        (λ u d h there. instant_keeps u d h (is_next m u d there).due) (m + 2 - s.present) s f).there)

-- ---- time leaves the querier of a link its querier

module _ (i : ℕ) where
  abbrev pub Queries : State → Type 0
  Queries s = is_some (next_general s i) ≡ true

  replaced_row : (k : Key) (r : QuerierRow) (rows : Table QuerierRow) → has_row rows k ≡ true
      → row_at (change_row (λ (old : QuerierRow). Some r) k rows) k ≡ Some r
  unfolding has_row row_at change_row changed_entry
  replaced_row k r [] e = cc e
  replaced_row k r (x ∷ rows) e = grind (arith, replaced_row k r rows)

  there : (o : Option QuerierRow) → is_some (next_in o) ≡ true → is_some o ≡ true
  there None e = cc
  there (Some q) e = refl

  on_queries : (s : State) (j x left : ℕ) → Queries s → Queries (querying_on s j x left)
  unfolding querying_on querier_row next_general has_row
  on_queries s j x left f = go (j == i) refl where
    row : QuerierRow
    row = querier_row s x left

    go : (b : Bool) → (j == i) ≡ b → is_some (next_in (row_at (change_row (λ (old : QuerierRow). Some row) (iface_key j) s.queriers) (iface_key i))) ≡ true
    go true e =
        subst (λ (n : ℕ). is_some (next_in (row_at (change_row (λ (old : QuerierRow). Some row) (iface_key n) s.queriers) (iface_key i))) ≡ true)
        (sym (eqb-true j i e))
        (ap (λ (o : Option QuerierRow). is_some (next_in o))
        (replaced_row (iface_key i) row s.queriers (there (row_at s.queriers (iface_key i)) f)))
    go false e =
        ap (λ (o : Option QuerierRow). is_some (next_in o))
        (row_change_away (iface_key j) (iface_key i) (apart i j e) (λ (old : QuerierRow). Some row) s.queriers) ∙ f

  gone_queries : (s : State) (j : ℕ) → Queries s → Queries (other_querier_gone s j).0
  unfolding other_querier_gone
  gone_queries s j f = on_queries s j _ 0 f

  due_queries : (s : State) (j left : ℕ) → Queries s → Queries (general_query_due s j left).0
  unfolding general_query_due
  due_queries s j left f = on_queries s j _ (left - 1) f

  same_queries : (s t : State) → asked t ≡ asked s → Queries s → Queries t
  same_queries s t e f = ap is_some (same_next i s t e) ∙ f

  fired_queries : (s : State) (kind : TimerKind) (k : Key) → Queries s → Queries (fired s kind k).0
  unfolding fired fire_row downstream_expired neighbour_due keepalive_due override_timer_due join_timer_due
      hello_due register_due group_repeat_due source_repeat_due sources_sent group_record_due source_record_due with_members
      with_repeats_of_rows
  fired_queries s TimerKind.Neighbour k f = same_queries s _ refl f
  fired_queries s TimerKind.PrunePending k f = row_fires Queries s _ (row_at s.downstream k) f (λ r. same_queries s _ (pending_asked s k r) f)
  fired_queries s TimerKind.DownstreamExpiry k f = same_queries s _ refl f
  fired_queries s TimerKind.GroupRecord k f = same_queries s _ refl f
  fired_queries s TimerKind.SourceRecord k f = same_queries s _ refl f
  fired_queries s TimerKind.Assert k f = row_fires Queries s _ (row_at s.asserts k) f (λ r. same_queries s _ (assert_due_asked s k r) f)
  fired_queries s TimerKind.Keepalive k f = row_fires Queries s _ (row_at s.sources k) f (λ r. same_queries s _ refl f)
  fired_queries s TimerKind.Register k f = grind (arith, row_fires, same_queries)
  fired_queries s TimerKind.Override k f = same_queries s _ refl f
  fired_queries s TimerKind.Join k f = same_queries s _ refl f
  fired_queries s TimerKind.OtherQuerier k f = gone_queries s (iface_in k) f
  fired_queries s TimerKind.GroupRepeat k f = row_fires Queries s _ (row_at s.group_repeats k) f (λ r. same_queries s _ refl f)
  fired_queries s TimerKind.SourceRepeat k f = same_queries s _ refl f
  fired_queries s TimerKind.GeneralQuery k f = row_fires Queries s _ (row_at s.queriers k) f (λ r. due_queries s (iface_in k) _ f)
  fired_queries s TimerKind.Hello k f = row_fires Queries s _ (row_at s.interfaces k) f (λ r. same_queries s _ refl f)

  pub time_queries : (s : State) (w m : ℕ) → Queries s → Queries (advanced s w m).state
  unfolding next_general
  time_queries s w m f =
      time_walks Queries (λ o t. Queries t) m (λ t x le g. g) (λ t x kind k le g. fired_queries (record t { present = x }) kind k g)
      (λ o c x g h. ap is_some (settled_next i o c x) ∙ h) s w m (no_later m) f
