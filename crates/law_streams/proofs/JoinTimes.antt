-- Time and one row of a downstream machine, up to a timestamp.
use Rattle.std.{proofs.{Common.{◌≡◌, ◌∙◌, ℕ, ◌+◌, ◌-◌, ◌≤◌, ◌||◌, Bool, true, false, List, [], length, Option, Some, None, is_none, refl, sym, ap, subst, arith}, lemmas.{Bool.Decides.nat_tests, Grind.common_steps}}, specs.Option.option_map_or}
use Rattle.pim_types.{specs.{Keys.{rpt_key, same_key}, declared.{fact.{DownstreamRow.DownstreamRow, Key.Key}, timer.TimerKind.TimerKind}}, proofs.Keys.equal_keys}
use Rattle.pim_model.{specs.{Downstream.{downstream_expired, prune_pending_due}, Firing.{fire_all, fire_instant, fire_once, fire_row, fired, keepalive_due}, Hellos.{hello_due, neighbour_due}, Messages.Message, Querier.{general_query_due, group_record_due, group_repeat_due, other_querier_gone, querying_on, source_record_due, source_repeat_due, sources_sent}, Records.{with_members, with_repeats_of_rows}, Sets.prunes, State.State, Step.advanced, Tables.{drop_at, has_row, row_at, same_option}, Timers.{Ending, next_due, timers}, Upstream.{join_timer_due, override_timer_due}}}
use Rattle.law_settled.{proofs.{Ends.{Ends, shows}, ListLaws.by_cond, RowLaws.{has_row_without, row_change_away, row_drop_away}, TimerLaws.{IsNext, is_next}, TurnLaws.kept_to_the_end, LawfulFiring.one_firing_is_lawful}, specs.Ready.IsLawful}
use Rattle.law_events.{proofs.JoinPrunes.none_there}
use Rattle.law_streams.{specs.Passing.{ends_by, has_expired, takes_effect}, proofs.{Same.{Rows, assert_due_same, register_due_same, settled_same}, Lasts.only_row, Taken.apart_keys, Tests.{Two, neither}}}

-- What holds of the row, or of none, goes on to hold where no time to override a Prune is over by the timestamp, and
-- where it holds of none once the holdtime is.
module _ (key : Key) (m : ℕ) (P : Option DownstreamRow → Type 0)
    (unpruned : (r : DownstreamRow) (n : ℕ) → n ≤ m → r.pending ≡ Some n → P (Some r) → ⊥)
    (expires : (r : DownstreamRow) (n : ℕ) → n ≤ m → r.expiry ≡ Some n → P (Some r) → P None) where
  pub record Kept (t : State) : Type 0 where
    pub there : P (row_at t.downstream key)
    pub lawful : IsLawful t

  abbrev pub There : State → Type 0
  There t = P (row_at t.downstream key)

  ends_at : (o : Option ℕ) (n : ℕ) → same_option o (Some n) ≡ true → o ≡ Some n
  ends_at None n e = cc e
  ends_at (Some a) n e = ap Some (grind (arith, common_steps, e))

  -- a timer that fires at the key is that of its row
  pending_is : (t : State) → IsLawful t → (k : Key) (n : ℕ) → shows TimerKind.PrunePending (Ends k n) t ≡ true
      → same_key key k ≡ true → (r : DownstreamRow) → row_at t.downstream key ≡ Some r → r.pending ≡ Some n
  pending_is t f k n shown same r found =
      let here : shows TimerKind.PrunePending (Ends key n) t ≡ true =
      subst (λ (x : Key). shows TimerKind.PrunePending (Ends x n) t ≡ true) (sym (equal_keys key k same)) shown in
      ends_at r.pending n
      (only_row key (λ e. same_option (e.1).pending (Some n)) r t.downstream (f.ordered).downstream found here
      (λ x is at passes. subst (λ (y : DownstreamRow). same_option y.pending (Some n) ≡ true) is passes))

  expiry_is : (t : State) → IsLawful t → (k : Key) (n : ℕ) → shows TimerKind.DownstreamExpiry (Ends k n) t ≡ true
      → same_key key k ≡ true → (r : DownstreamRow) → row_at t.downstream key ≡ Some r → r.expiry ≡ Some n
  expiry_is t f k n shown same r found =
      let here : shows TimerKind.DownstreamExpiry (Ends key n) t ≡ true =
      subst (λ (x : Key). shows TimerKind.DownstreamExpiry (Ends x n) t ≡ true) (sym (equal_keys key k same)) shown in
      ends_at r.expiry n
      (only_row key (λ e. same_option (e.1).expiry (Some n)) r t.downstream (f.ordered).downstream found here
      (λ x is at passes. subst (λ (y : DownstreamRow). same_option y.expiry (Some n) ≡ true) is passes))

  row_fires : {R : Type 0} (s : State) (o : Option R) (fire : R → State × List Message) → There s
      → ((r : R) → o ≡ Some r → There (fire r).0) → There (option_map_or fire o (s, [])).0
  row_fires s o fire f g = grind arith

  pending_away : (s : State) (k : Key) (r : DownstreamRow) → same_key key k ≡ false → There s → There (prune_pending_due s k r).0
  unfolding prune_pending_due
  pending_away s k r off f = grind (arith, by_cond, row_change_away, apart_keys, row_drop_away)

  abbrev pub at_end : State → ℕ → State
  at_end s n = record s { present = n }

  pending_keeps : (s : State) (k : Key) (n : ℕ) → n ≤ m → IsLawful s → shows TimerKind.PrunePending (Ends k n) s ≡ true
      → There s → (r : DownstreamRow) → row_at s.downstream k ≡ Some r → There (prune_pending_due (at_end s n) k r).0
  pending_keeps s k n low lawful shown f r found = grind (arith, lawful, pending_away, equal_keys, pending_is)

  expiry_keeps : (s : State) (k : Key) (n : ℕ) → n ≤ m → IsLawful s → shows TimerKind.DownstreamExpiry (Ends k n) s ≡ true
      → There s → P (row_at (drop_at s.downstream k) key)
  unfolding has_row
  expiry_keeps s k n low lawful shown f = go (same_key key k) refl
    where
      over : (o : Option DownstreamRow) → row_at s.downstream key ≡ o → same_key key k ≡ true → P o → P None
      over None is same g = g
      over (Some r) is same g = expires r n low (expiry_is s lawful k n shown same r is) g

      go : (b : Bool) → same_key key k ≡ b → P (row_at (drop_at s.downstream k) key)
      go false off = subst P (sym (row_drop_away k key (apart_keys k key off) s.downstream)) f
      go true same =
          subst P
          (sym (none_there (row_at (drop_at s.downstream k) key) (has_row_without key k s.downstream ∙ rw same refl)))
          (over (row_at s.downstream key) refl same f)

  pub fired_keeps : (s : State) (kind : TimerKind) (k : Key) (n : ℕ) → n ≤ m → IsLawful s → shows kind (Ends k n) s ≡ true
      → There s → There (fired (at_end s n) kind k).0
  unfolding fired fire_row downstream_expired neighbour_due keepalive_due override_timer_due join_timer_due
      other_querier_gone querying_on group_repeat_due source_repeat_due sources_sent general_query_due hello_due
      group_record_due source_record_due with_members with_repeats_of_rows
  fired_keeps s TimerKind.PrunePending k n low lawful shown f = grind (arith, row_fires, pending_keeps, lawful)
  fired_keeps s TimerKind.DownstreamExpiry k n low lawful shown f = expiry_keeps s k n low lawful shown f
  fired_keeps s TimerKind.Assert k n low lawful shown f = grind (arith, row_fires, assert_due_same)
  fired_keeps s TimerKind.Register k n low lawful shown f = grind (arith, row_fires, register_due_same)
  fired_keeps s TimerKind.Keepalive k n low lawful shown f = row_fires (at_end s n) (row_at s.sources k) _ f (λ r found. f)
  fired_keeps s TimerKind.GroupRepeat k n low lawful shown f = row_fires (at_end s n) (row_at s.group_repeats k) _ f (λ r found. f)
  fired_keeps s TimerKind.GeneralQuery k n low lawful shown f = row_fires (at_end s n) (row_at s.queriers k) _ f (λ r found. f)
  fired_keeps s TimerKind.Hello k n low lawful shown f = row_fires (at_end s n) (row_at s.interfaces k) _ f (λ r found. f)
  fired_keeps s TimerKind.GroupRecord k n low lawful shown f = f
  fired_keeps s TimerKind.SourceRecord k n low lawful shown f = f
  fired_keeps s TimerKind.Neighbour k n low lawful shown f = f
  fired_keeps s TimerKind.Override k n low lawful shown f = f
  fired_keeps s TimerKind.Join k n low lawful shown f = f
  fired_keeps s TimerKind.OtherQuerier k n low lawful shown f = f
  fired_keeps s TimerKind.SourceRepeat k n low lawful shown f = f

  module _ (w : ℕ) where
    pub once_keeps : (t : State) (d : Ending) → Kept t → d.end ≤ m → shows d.timer.kind (Ends d.timer.key d.end) t ≡ true
        → Kept (fire_once w t d).0
    unfolding fire_once
    once_keeps t d f low shown =
        record {
          there =
              subst (λ (x : Rows). P (row_at x.downstream key))
              (sym (settled_same t (fired (at_end t d.end) d.timer.kind d.timer.key) w))
              (fired_keeps t d.timer.kind d.timer.key d.end low f.lawful shown f.there);
          lawful = one_firing_is_lawful w t d f.lawful;
        }

    instant_keeps : (t : State) (e : Ending) → Kept t → e.end ≤ m → Kept (fire_instant w t e).0
    unfolding fire_instant
    instant_keeps t e f low =
        kept_to_the_end (next_due e.end) (fire_once w) Kept
        (λ u d g there.
        let next : IsNext e.end u d = is_next e.end u d there in
        let due : d.end ≤ e.end = next.due in once_keeps u d g (omega (arith, due, low)) next.shown)
        (length (timers t) + 1) t f

    pub time_keeps : (t : State) → P (row_at t.downstream key) → IsLawful t
        → P (row_at (advanced t w m).state.downstream key)
    unfolding advanced fire_all
    time_keeps t f lawful =
        (kept_to_the_end (next_due m) (fire_instant w) Kept
        (λ u d g there. instant_keeps u d g (is_next m u d there).due) (m + 2 - t.present) t
        (record { there = f; lawful = lawful })).there

-- ---- the row of a tree stays as it is

by_option : (m : ℕ) (o : Option ℕ) → ends_by m o ≡ false → (n : ℕ) → n ≤ m → o ≡ Some n → ⊥
by_option m o off n low is = grind (arith, nat_tests)

pending_in : Option DownstreamRow → Option ℕ
pending_in None = None
pending_in (Some r) = r.pending

expiry_in : Option DownstreamRow → Option ℕ
expiry_in None = None
expiry_in (Some r) = r.expiry

-- neither end of the row comes by the timestamp
pub never_pends : (m : ℕ) (row : DownstreamRow) → ends_by m row.pending ≡ false → (r : DownstreamRow) (n : ℕ) → n ≤ m
    → r.pending ≡ Some n → Some r ≡ Some row → ⊥
unfolding pending_in
never_pends m row off r n low is at = by_option m row.pending off n low (sym (ap pending_in at) ∙ is)

pub never_expires : (m : ℕ) (row : DownstreamRow) → ends_by m row.expiry ≡ false → (r : DownstreamRow) (n : ℕ) → n ≤ m
    → r.expiry ≡ Some n → Some r ≡ Some row → None ≡ Some row
unfolding expiry_in
never_expires m row off r n low is at = absurd (by_option m row.expiry off n low (sym (ap expiry_in at) ∙ is))

pub row_ends : (m : ℕ) (s : State) (k : Key) (row : DownstreamRow) → row_at s.downstream k ≡ Some row
    → has_expired s k m ≡ false → Two (ends_by m row.expiry) (ends_by m row.pending)
unfolding has_expired
row_ends m s k row found off = grind (arith, neither)

pub row_lasts : (w m : ℕ) (s : State) (k : Key) (row : DownstreamRow) → IsLawful s → row_at s.downstream k ≡ Some row
    → has_expired s k m ≡ false → row_at (advanced s w m).state.downstream k ≡ Some row
row_lasts w m s k row lawful found off =
    time_keeps k m (λ o. o ≡ Some row) (never_pends m row (ends).second) (never_expires m row (ends).first) w s found lawful
  where
    ends : Two (ends_by m row.expiry) (ends_by m row.pending)
    ends = row_ends m s k row found off

-- ---- no Prune(S,G,rpt) takes effect

abbrev will_prune : ℕ → Option DownstreamRow → Bool
will_prune m o = option_map_or (λ (r : DownstreamRow). is_none r.pending || ends_by m r.pending) o false

pub none_takes_effect : (w m : ℕ) (s : State) (g src i : ℕ) → IsLawful s → prunes s g src i ≡ false
    → takes_effect s (rpt_key i g src) m ≡ false → prunes (advanced s w m).state g src i ≡ false
unfolding prunes takes_effect
none_takes_effect w m s g src i lawful none off =
    after (row_at (advanced s w m).state.downstream (rpt_key i g src))
    (time_keeps (rpt_key i g src) m (λ o. will_prune m o ≡ false) (λ r n low is at. soon r.pending n low is at)
    (λ r n low is at. refl) w s (at_first (row_at s.downstream (rpt_key i g src)) none off) lawful)
  where
    soon : (o : Option ℕ) (n : ℕ) → n ≤ m → o ≡ Some n → (is_none o || ends_by m o) ≡ false → ⊥
    soon o n low is e = by_option m o (neither (is_none o) (ends_by m o) e).second n low is

    at_first : (o : Option DownstreamRow) → option_map_or (λ (r : DownstreamRow). is_none r.pending) o false ≡ false
        → option_map_or (λ (r : DownstreamRow). ends_by m r.pending) o false ≡ false → will_prune m o ≡ false
    at_first None e f = refl
    at_first (Some r) e f = rw (e, f) refl

    after : (o : Option DownstreamRow) → will_prune m o ≡ false
        → option_map_or (λ (r : DownstreamRow). is_none r.pending) o false ≡ false
    after None e = refl
    after (Some r) e = (neither (is_none r.pending) (ends_by m r.pending) e).first
