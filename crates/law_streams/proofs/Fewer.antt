-- What follows of a change, and each timer's end, adds none of the facts that count beside the asserts.
use Rattle.std.{proofs.{Common.{◌≡◌, ℕ, suc, ◌+◌, ◌-◌, ◌≤◌, nat_lt, Bool, false, cond, not, List, [], ◌∷◌, filter, fold, length, Option, refl, ap, arith}, lemmas.List.length-map}, specs.Option.option_map_or}
use Rattle.pim_types.{specs.{Keys.{group_in, iface_in, source_in, source_key, star_key}, declared.{fact.{AssertRow.AssertRow, DownstreamRow.DownstreamRow, GroupRecordRow.GroupRecordRow, Key.Key, NeighbourRow.NeighbourRow, RegisterState.RegisterState, SourceRecordRow.SourceRecordRow, SourceRow.SourceRow}, config.Settings.Settings, timer.TimerKind.TimerKind}}}
use Rattle.pim_model.{specs.{Asserts.{assert_due, assert_forgotten, wins_again, without_spt, without_spt_bit}, Clearing.clear, Downstream.{downstream_expired, prune_pending_due}, Firing.{fire_all, fire_instant, fire_once, fire_row, fired, keepalive_due, settled}, Hellos.{hello_due, neighbour_due}, Messages.Message, Querier.{general_query_due, group_record_due, group_repeat_due, other_querier_gone, querying_on, source_record_due, source_repeat_due, sources_sent}, Records.{GroupRecord, Member, group_expired, is_at_group, is_no_record, members_of, put_member, record_of, source_expired, with_members, with_repeats_of_rows}, Registers.{register_due, settle_registers}, State.State, Step.advanced, Tables.{Table, change_row, drop_where, row_at}, Timers.{Ending, next_due, timers}, Upstream.{join_timer_due, override_timer_due}}}
use Rattle.law_settled.{proofs.{ListLaws.{by_cond, filter_shorter}, SettlingLaws.kept_by_clearing, TurnLaws.kept_to_the_end, Unsettled.cleared_in_the_end}}
use Rattle.law_streams.{specs.Bounded.{AddsNone, TimeAddsNone}, proofs.Counting.{one_more, shorter_at, shorter_changed}}

-- the tables in question
pub record Facts : Type 0 where
  pub settings : Settings
  pub neighbours : Table NeighbourRow
  pub groups : Table GroupRecordRow
  pub members : Table SourceRecordRow
  pub downstream : Table DownstreamRow
  pub sources : Table SourceRow

abbrev pub facts_of : State → Facts
facts_of s = record {
  settings = s.settings;
  neighbours = s.neighbours;
  groups = s.group_records;
  members = s.source_records;
  downstream = s.downstream;
  sources = s.sources;
}

abbrev pub Same : State → State → Type 0
Same s t = facts_of t ≡ facts_of s

pub no_less : (n : ℕ) → n ≤ n
no_less n = omega arith

pub no_more : (a b : ℕ) → a ≡ b → a ≤ b
no_more a b e = omega arith

same_long : {R : Type 0} (t u : Table R) → u ≡ t → length u ≤ length t
same_long t u e = no_more (length u) (length t) (ap (λ (x : Table _). length x) e)

pub adds_none : (s t : State) → Same s t → AddsNone s t
adds_none s t e = grind (arith, same_long)

pub le_both : (a b c : ℕ) → a ≤ b → b ≤ c → a ≤ c
le_both a b c x y = omega arith

pub then_none : (s t u : State) → AddsNone s t → AddsNone t u → AddsNone s u
then_none s t u f g = grind (arith, le_both)

pub adds_itself : (s : State) → AddsNone s s
adds_itself s = adds_none s s refl

-- one table changed
pub with_neighbours : (s : State) (t : Table NeighbourRow) → length t ≤ length s.neighbours
    → AddsNone s (record s { neighbours = t })
with_neighbours s t le = grind (arith, no_less)

pub with_downstream : (s : State) (t : Table DownstreamRow) → length t ≤ length s.downstream
    → AddsNone s (record s { downstream = t })
with_downstream s t le = grind (arith, no_less)

pub with_sources : (s : State) (t : Table SourceRow) → length t ≤ length s.sources → AddsNone s (record s { sources = t })
with_sources s t le = grind (arith, no_less)

-- ---- what follows from a change

clear_none : (o s : State) → AddsNone s (clear o s).0
unfolding settle_registers assert_forgotten without_spt_bit
clear_none o s =
    kept_by_clearing (AddsNone s) (λ t k f. then_none s t _ f (adds_none t _ refl))
    (λ t k f. then_none s t _ f (with_sources t (change_row without_spt k t.sources) (shorter_changed without_spt k t.sources)))
    o s (adds_none s (settle_registers s) refl)

-- what is told and sent leaves them
told_same : (o : State) (change : State × List Message) (w : ℕ) → Same (clear o change.0).0 (settled o change w).0
told_same o change w = grind (arith, cleared_in_the_end)

pub settled_none : (o : State) (change : State × List Message) (w : ℕ) → AddsNone change.0 (settled o change w).0
settled_none o change w = grind (arith, then_none, clear_none, adds_none, told_same)

-- ---- the ends of rows

module _ (s : State) (i g : ℕ) where
  folded_longer : (ms : List Member) (t : Table SourceRecordRow) → length (fold (put_member i g) t ms) ≤ length t + length ms
  folded_longer [] t = omega arith
  folded_longer (m ∷ ms) t =
      let one : length (put_member i g t m) ≤ length t + 1 = one_more (source_key i g m.0) (record { end = m.1 }) t in
      let more : length (fold (put_member i g) (put_member i g t m) ms) ≤ length (put_member i g t m) + length ms =
      folded_longer ms (put_member i g t m) in
      omega arith

  parted_step : (x : Key × SourceRecordRow) (xs : Table SourceRecordRow) (b : Bool)
      → length (filter (λ e. not (is_at_group i g e.0)) xs) + length (filter (λ e. is_at_group i g e.0) xs) ≡ length xs
      → length (cond (not b) (x ∷ filter (λ e. not (is_at_group i g e.0)) xs) (filter (λ e. not (is_at_group i g e.0)) xs))
      + length (cond b (x ∷ filter (λ e. is_at_group i g e.0) xs) (filter (λ e. is_at_group i g e.0) xs)) ≡ suc (length xs)
  parted_step x xs b e = grind arith

  parted : (t : Table SourceRecordRow)
      → length (filter (λ e. not (is_at_group i g e.0)) t) + length (filter (λ e. is_at_group i g e.0) t) ≡ length t
  parted [] = refl
  parted (x ∷ xs) = parted_step x xs (is_at_group i g x.0) (parted xs)

  members_none : (r : GroupRecord) → length r.members ≤ length (filter (λ e. is_at_group i g e.0) s.source_records)
      → AddsNone s (with_members s i g r)
  unfolding with_members with_repeats_of_rows drop_where
  members_none r le =
      let others : Table SourceRecordRow = filter (λ e. not (is_at_group i g e.0)) s.source_records in
      let long : length (fold (put_member i g) others r.members) ≤ length others + length r.members =
      folded_longer r.members others in
      let whole : length others + length (filter (λ e. is_at_group i g e.0) s.source_records) ≡ length s.source_records =
      parted s.source_records in
      record {
        settings = refl;
        neighbours = no_less _;
        groups = by_cond (λ (t : Table GroupRecordRow). length t ≤ length s.group_records) (is_no_record r) _ s.group_records
            (shorter_at s.group_records (star_key i g)) (no_less _);
        members = omega arith;
        downstream = no_less _;
        sources = no_less _;
      }

  record_long : length (record_of s i g).members ≡ length (filter (λ e. is_at_group i g e.0) s.source_records)
  unfolding record_of members_of
  record_long = length-map (filter (λ (e : Key × SourceRecordRow). is_at_group i g e.0) s.source_records) _

expired_shorter : (now : ℕ) (r : GroupRecord) → length (group_expired now r).members ≤ length r.members
unfolding group_expired
expired_shorter now r = filter_shorter (λ (m : Member). option_map_or (nat_lt now) m.1 false) r.members

source_expired_shorter : (src : ℕ) (r : GroupRecord) → length (source_expired src r).members ≤ length r.members
unfolding source_expired
source_expired_shorter src r = grind (arith, by_cond, no_more, length-map, filter_shorter)

group_due_none : (s : State) (i g : ℕ) → AddsNone s (group_record_due s i g)
unfolding group_record_due
group_due_none s i g =
    grind (arith, no_less, shorter_changed, then_none, members_none, le_both, expired_shorter, no_more, record_long)

source_due_none : (s : State) (i g src : ℕ) → AddsNone s (source_record_due s i g src)
unfolding source_record_due
source_due_none s i g src = grind (arith, members_none, le_both, source_expired_shorter, no_more, record_long)

pending_none : (s : State) (k : Key) (r : DownstreamRow) → AddsNone s (prune_pending_due s k r).0
unfolding prune_pending_due
pending_none s k r = grind (arith, by_cond, with_downstream, shorter_changed, shorter_at)

assert_due_same : (s : State) (k : Key) (r : AssertRow) → Same s (assert_due s k r).0
unfolding assert_due wins_again assert_forgotten
assert_due_same s k r = grind arith

register_due_same : (s : State) (k : Key) (state : RegisterState) → Same s (register_due s k state).0
unfolding register_due
register_due_same s k state = grind arith

row_fires : {R : Type 0} (s : State) (fire : R → State × List Message) (o : Option R)
    → ((r : R) → AddsNone s (fire r).0)
    → AddsNone s (option_map_or fire o (s, [])).0
row_fires s fire o f = grind (arith, adds_itself)

fired_none : (s : State) (kind : TimerKind) (k : Key) → AddsNone s (fired s kind k).0
unfolding fired fire_row downstream_expired neighbour_due keepalive_due override_timer_due join_timer_due
    other_querier_gone querying_on group_repeat_due source_repeat_due sources_sent general_query_due hello_due
fired_none s TimerKind.Neighbour k = with_neighbours s _ (shorter_at s.neighbours k)
fired_none s TimerKind.PrunePending k = row_fires s _ (row_at s.downstream k) (λ r. pending_none s k r)
fired_none s TimerKind.DownstreamExpiry k = with_downstream s _ (shorter_at s.downstream k)
fired_none s TimerKind.GroupRecord k = group_due_none s (iface_in k) (group_in k)
fired_none s TimerKind.SourceRecord k = source_due_none s (iface_in k) (group_in k) (source_in k)
fired_none s TimerKind.Assert k =
    row_fires s _ (row_at s.asserts k) (λ r. adds_none s (assert_due s k r).0 (assert_due_same s k r))
fired_none s TimerKind.Keepalive k =
    row_fires s _ (row_at s.sources k) (λ r. with_sources s _ (shorter_changed _ k s.sources))
fired_none s TimerKind.Register k =
    row_fires s _ (row_at s.registers k) (λ r. adds_none s (register_due s k r.state).0 (register_due_same s k r.state))
fired_none s TimerKind.Override k = adds_none s _ refl
fired_none s TimerKind.Join k = adds_none s _ refl
fired_none s TimerKind.OtherQuerier k = adds_none s _ refl
fired_none s TimerKind.GroupRepeat k = row_fires s _ (row_at s.group_repeats k) (λ r. adds_none s _ refl)
fired_none s TimerKind.SourceRepeat k = adds_none s _ refl
fired_none s TimerKind.GeneralQuery k = row_fires s _ (row_at s.queriers k) (λ r. adds_none s _ refl)
fired_none s TimerKind.Hello k = row_fires s _ (row_at s.interfaces k) (λ r. adds_none s _ refl)

once_none : (w : ℕ) (s : State) (e : Ending) → AddsNone s (fire_once w s e).0
unfolding fire_once
once_none w s e = grind (arith, then_none, adds_none, fired_none, settled_none)

instant_none : (w : ℕ) (s : State) (e : Ending) → AddsNone s (fire_instant w s e).0
unfolding fire_instant
instant_none w s e =
    kept_to_the_end (next_due e.end) (fire_once w) (λ t. AddsNone s t) (λ t d h there. then_none s t _ h (once_none w t d))
    (length (timers s) + 1) s (adds_itself s)

pub time_adds_none : TimeAddsNone
unfolding advanced fire_all
time_adds_none s w moment =
    then_none s (fire_all w moment s).0 _
    (kept_to_the_end (next_due moment) (fire_instant w) (λ t. AddsNone s t)
    (λ t d h there. then_none s t _ h (instant_none w t d)) (moment + 2 - s.present) s (adds_itself s))
    (adds_none (fire_all w moment s).0 (record (fire_all w moment s).0 { present = moment }) refl)
