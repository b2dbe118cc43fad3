-- A neighbour is known until its holdtime is over.
use Rattle.std.{proofs.{Common.{◌≡◌, ◌∙◌, ℕ, ◌+◌, ◌-◌, ◌<◌, ◌≤◌, Bool, true, false, List, [], length, Option, Some, None, refl, sym, ap, subst, arith}, lemmas.{Grind.common_steps}}, specs.{Option.option_map_or}}
use Rattle.pim_types.{specs.{Keys.{same_key}, declared.{fact.{Key.Key, NeighbourRow.NeighbourRow}, timer.TimerKind.TimerKind}}, proofs.Keys.{equal_keys}}
use Rattle.pim_model.{specs.{Downstream.downstream_expired, Firing.{fire_all, fire_instant, fire_once, fire_row, fired, keepalive_due}, Hellos.{hello_due, neighbour_due}, Messages.Message, Querier.{general_query_due, group_record_due, group_repeat_due, other_querier_gone, querying_on, source_record_due, source_repeat_due, sources_sent}, Records.{with_members, with_repeats_of_rows}, Registers.register_due, State.State, Step.advanced, Tables.{row_at, same_option}, Timers.{Ending, next_due, timers}, Upstream.{join_timer_due, override_timer_due}}}
use Rattle.law_settled.{proofs.{Ends.{Ends, shows}, RowLaws.{row_drop_away}, TimerLaws.{IsNext, is_next}, TurnLaws.kept_to_the_end, LawfulFiring.one_firing_is_lawful, Unsettled.{Unsettled, settling_leaves}}, specs.Ready.IsLawful}
use Rattle.law_streams.{proofs.{Lasting.{assert_lasting, pending_lasting}, Lasts.only_row, Taken.apart_keys}}

-- ---- a timer that fires is none of the row's

register_still : (s : State) (k : Key) (r : _) → (register_due s k r).0.neighbours ≡ s.neighbours
unfolding register_due
register_still s k r = grind arith

module _ (key : Key) (row : NeighbourRow) (m : ℕ) (beyond : (end : ℕ) → row.end ≡ Some end → m < end) where
  pub record Kept (t : State) : Type 0 where
    pub there : row_at t.neighbours key ≡ Some row
    pub lawful : IsLawful t

  ends_at : (o : Option ℕ) (n : ℕ) → same_option o (Some n) ≡ true → o ≡ Some n
  ends_at None n e = cc e
  ends_at (Some a) n e = ap Some (grind (arith, common_steps, e))

  isnt_gone : (t : State) → Kept t → (k : Key) (n : ℕ) → n ≤ m → shows TimerKind.Neighbour (Ends k n) t ≡ true
      → same_key key k ≡ true → ⊥
  isnt_gone t f k n low shown same =
      let here : shows TimerKind.Neighbour (Ends key n) t ≡ true =
      subst (λ (x : Key). shows TimerKind.Neighbour (Ends x n) t ≡ true) (sym (equal_keys key k same)) shown in
      let found : same_option row.end (Some n) ≡ true =
      only_row key (λ e. same_option (e.1).end (Some n)) row t.neighbours ((f.lawful).ordered).neighbours f.there here
      (λ x is at passes. subst (λ (r : NeighbourRow). same_option r.end (Some n) ≡ true) is passes) in
      let later : m < n = beyond n (ends_at row.end n found) in
      absurd (omega (arith, low, later))

  away : (k : Key) → (same_key key k ≡ true → ⊥) → same_key key k ≡ false
  away k f = go (same_key key k) refl
    where
      go : (b : Bool) → same_key key k ≡ b → b ≡ false
      go true e = absurd (f e)
      go false e = refl

  abbrev pub There : State → Type 0
  There t = row_at t.neighbours key ≡ Some row

  row_fires : {R : Type 0} (s : State) (o : Option R) (fire : R → State × List Message) → There s
      → ((r : R) → There (fire r).0) → There (option_map_or fire o (s, [])).0
  row_fires s o fire f g = grind arith

  fired_keeps : (s : State) (kind : TimerKind) (k : Key)
      → (kind ≡ TimerKind.Neighbour → same_key key k ≡ false)
      → There s → There (fired s kind k).0
  unfolding fired fire_row downstream_expired neighbour_due keepalive_due override_timer_due join_timer_due
      other_querier_gone querying_on group_repeat_due source_repeat_due sources_sent general_query_due hello_due
      group_record_due source_record_due with_members with_repeats_of_rows
  fired_keeps s kind k b f =
      grind (arith, row_fires, row_drop_away, apart_keys, pending_lasting, assert_lasting, register_still)

  module _ (w : ℕ) where
    once_keeps : (t : State) (d : Ending) → Kept t → d.end ≤ m → shows d.timer.kind (Ends d.timer.key d.end) t ≡ true
        → Kept (fire_once w t d).0
    unfolding fire_once
    once_keeps t d f low shown =
        let opened : State = record t { present = d.end } in
        let fires : There (fired opened d.timer.kind d.timer.key).0 =
        fired_keeps opened d.timer.kind d.timer.key
        (λ is. away d.timer.key (isnt_gone t f d.timer.key d.end low (subst (λ (kind : TimerKind). shows kind (Ends d.timer.key d.end) t ≡ true) is shown)))
        f.there in
        record {
          there = ap (λ (x : Unsettled). row_at x.neighbours key) (settling_leaves t (fired opened d.timer.kind d.timer.key) w) ∙ fires;
          lawful = one_firing_is_lawful w t d f.lawful;
        }

    instant_keeps : (t : State) (e : Ending) → Kept t → e.end ≤ m → Kept (fire_instant w t e).0
    unfolding fire_instant
    instant_keeps t e f low =
        kept_to_the_end (next_due e.end) (fire_once w) Kept
        (λ u d g there.
        let next : IsNext e.end u d = is_next e.end u d there in
        let due : d.end ≤ e.end = next.due in once_keeps u d g (omega (arith, due, low)) next.shown)
        (length (timers t) + 1) t f

    pub time_keeps : (t : State) → Kept t → There (advanced t w m).state
    unfolding advanced fire_all
    time_keeps t f =
        (kept_to_the_end (next_due m) (fire_instant w) Kept
        (λ u d g there. instant_keeps u d g (is_next m u d there).due) (m + 2 - t.present) t f).there
