-- What the expiry of IGMP's timers changes makes no end by the present: the queriers, the repeats of queries, the
-- records.
use Rattle.std.{proofs.Common.{◌≡◌, ℕ, ◌≤◌, ◌+◌, ◌-◌, nat_lt, true, cond, filter_map, refl, sym, subst, arith}, specs.List.list_any}
use Rattle.pim_types.{specs.{declared.{fact.{Key.Key, SendingRow.SendingRow}, timer.TimerKind.TimerKind}, Keys.{iface_key, star_key}}, proofs.Keys.same_key_same}
use Rattle.pim_model.{specs.{Querier.{general_query_due, group_repeat_due, is_sending, next_sending, one_sent, other_querier_gone, querier_row, query_interval, querying_on, source_repeat_due, sources_sent, startup_query_interval, last_member_query_interval}, State.State, Tables.Table}}
use Rattle.law_settled.{specs.Laws.is_querier_entry, proofs.{TableLaws.row_is_there, Ends.{Ends, Faulty, IsLate, shows_row, shows, Keeps, kept_then, replaced_kept, rows_kept}, Intervals.{IsFirm, IsInForce, some_interval, some_startup}, ListLaws.by_cond, Parts.{Queriers, Sendings, end_of}, DueKept.{Gone, Fires, later_than, row_replaced, row_replaced_if}}}

-- the robustness and the intervals aren't 0, and no row is under a key of another kind
pub record IsSound (s : State) : Type 0 where
  pub firm : IsFirm s.settings
  pub faultless : (kind : TimerKind) → shows kind Faulty s ≡ true → ⊥

pub still_sound : (m : ℕ) (s t : State) → Keeps m s t → IsSound s → IsSound t
still_sound m s t f sound = record {
  firm = subst IsFirm (sym f.settings) sound.firm;
  faultless = λ kind e. sound.faultless kind (f.shown kind Faulty refl e);
}

pub still_gone : (m : ℕ) (kind : TimerKind) (k : Key) (s t : State) → Keeps m s t → Gone m kind k s → Gone m kind k t
still_gone m kind k s t f gone = λ x by. (λ e. gone x by (f.shown kind (Ends k x) by e))

-- ---- queriers

in_force : (s : State) → IsFirm s.settings → (shows TimerKind.OtherQuerier Faulty s ≡ true → ⊥) → (i : ℕ)
    → IsInForce s i
in_force s firm faultless i = grind (arith, row_is_there, shows_row, end_of, same_key_same)

module _ (m : ℕ) (s : State) (sound : IsSound s) (now : s.present ≡ m) (i : ℕ) where
  good_querier : (next left : ℕ) → is_querier_entry (iface_key i, querier_row s next left) ≡ true
  unfolding querier_row
  good_querier next left = grind (arith, same_key_same)

  late_querier : (d left : ℕ) → 1 ≤ d → IsLate m Queriers (querier_row s (s.present + d) left)
  unfolding querier_row
  late_querier d left some = (refl, (later_than m s.present d now some, tt))

  anew : IsInForce (querying_on s i 0 0) i
  unfolding querying_on querier_row
  anew =
      in_force (querying_on s i 0 0) sound.firm
      (λ e. sound.faultless TimerKind.OtherQuerier (replaced_kept (end_of TimerKind.OtherQuerier) is_querier_entry m
      (iface_key i) (querier_row s 0 0) s.queriers (good_querier 0 0) refl Faulty refl e)) i

  pub other_querier_fires : Fires m TimerKind.OtherQuerier (iface_key i) s (other_querier_gone s i).0
  unfolding other_querier_gone querying_on
  other_querier_fires =
      let d : ℕ = query_interval (querying_on s i 0 0) i in
      let long : 1000 ≤ d = some_interval (querying_on s i 0 0) i anew in
      row_replaced m s TimerKind.OtherQuerier (iface_key i) (querier_row s (s.present + d) 0)
      (good_querier (s.present + d) 0) (late_querier d 0 (omega arith))

  pub general_query_fires : (left : ℕ) → Fires m TimerKind.GeneralQuery (iface_key i) s (general_query_due s i left).0
  unfolding general_query_due querying_on
  general_query_fires left =
      let force : IsInForce s i = in_force s sound.firm (sound.faultless TimerKind.OtherQuerier) i in
      let long : 1000 ≤ query_interval s i = some_interval s i force in
      let d : ℕ = cond (nat_lt 1 left) (startup_query_interval s i) (query_interval s i) in
      row_replaced m s TimerKind.GeneralQuery (iface_key i) (querier_row s (s.present + d) (left - 1))
      (good_querier (s.present + d) (left - 1))
      (late_querier d (left - 1) (by_cond (λ (d : ℕ). 1 ≤ d) (nat_lt 1 left) (startup_query_interval s i)
      (query_interval s i) (some_startup s i force) (omega arith)))

-- ---- repeats of queries

module _ (m : ℕ) (s : State) (sound : IsSound s) (now : s.present ≡ m) (i g : ℕ) where
  repeats_later : nat_lt m (s.present + last_member_query_interval s) ≡ true
  repeats_later = grind arith

  pub group_repeat_fires : (left : ℕ) → Fires m TimerKind.GroupRepeat (star_key i g) s (group_repeat_due s i g left).0
  unfolding group_repeat_due
  group_repeat_fires left =
      row_replaced_if m s TimerKind.GroupRepeat (star_key i g) (nat_lt 1 left)
      (record { next = s.present + last_member_query_interval s; left = left - 1 }) (same_key_same (star_key i g))
      (repeats_later, tt)

  pub source_repeat_fires : Fires m TimerKind.SourceRepeat (star_key i g) s (source_repeat_due s i g).0
  unfolding source_repeat_due sources_sent next_sending
  source_repeat_fires =
      let sent : Table SendingRow = filter_map (one_sent i g) s.sendings in
      let fires : Fires m TimerKind.SourceRepeat (star_key i g) (record s { sendings = sent }) _ =
      row_replaced_if m (record s { sendings = sent }) TimerKind.SourceRepeat (star_key i g)
      (list_any (is_sending i g) sent) (record { next = s.present + last_member_query_interval s })
      (same_key_same (star_key i g)) (repeats_later, tt) in
      record {
        keeps = kept_then m s (record s { sendings = sent }) _ (rows_kept m s Sendings sent tt) fires.keeps;
        gone = fires.gone;
      }
