-- What a reload leaves of the next general query and of a group timer: interfaces go down, and the querier's values are
-- replaced.
use Rattle.std.{proofs.{Common.{◌≡◌, ◌∙◌, ℕ, zero, suc, ◌+◌, ◌*◌, ◌<◌, ◌≤◌, ◌-◌, ◌==◌, min, nat_le, not, Bool, true, false, List, map, length, Option, Some, None, option_and_then, option_map, Ok, Result, refl, sym, ap, subst, arith}, lemmas.{Grind.common_steps}}, specs.List.range_with_len}
use Rattle.pim_ip.{specs.declared.refusal.Refusal.Refusal}
use Rattle.pim_types.{specs.{Keys.{iface_key, star_key}, declared.{config.{Config.Config, Settings.Settings}, fact.{GroupRecordRow.GroupRecordRow, QuerierRole.QuerierRole, QuerierRow.QuerierRow}, outcome.{Ignored.Ignored, Verdict.Verdict}}}}
use Rattle.pim_model.{specs.{declared.accepted.Accepted.Accepted, Cause.{done_as, if_done}, Judging.{down_judged, ignore_if, judged, refuse_if, ◌>>◌}, Messages.Message, Querier.group_end, State.{State, addressing_of, iface_count, is_up, settings_of}, Step.{ran, rps_replaced, step, taken}, Tables.{Table, row_at}, Timers.next_query}}
use Rattle.law_settled.{specs.Ready.IsSettled, proofs.Steps.step_is_settled}
use Rattle.law_events.{proofs.Rows.row_at_cut}
use Rattle.law_streams.{specs.Copies.happens, proofs.Same.{Rows, settled_same}}
use Rattle.law_states.{specs.Reloading.{down_event, hellos_anew, queriers_under, reload, removals, replaced, row_under, under}}
use Rattle.igmp_older.{specs.Open.runs_until}
use Rattle.law_hosts.{specs.{Staying.KeepsTimer, Members.next_general}, proofs.{Stays.event_keeps_timer, Done.after_event, Queries.{done_next, next_in, settled_next}}}

module _ (i g : ℕ) where
  -- what is left: the next general query, and a group timer
  pub record Left (next : ℕ) (s t : State) : Type 0 where
    pub queries : next_general t i ≡ Some next
    pub lasts : group_end t i g ≡ group_end s i g

  -- ---- another interface goes down

  module _ (w j : ℕ) (off : (j == i) ≡ false) where
    -- what is done of it is a Down of that interface, or nothing
    abbrev IsDown : Option Accepted → Type 0
    IsDown None = Unit {0}
    IsDown (Some (Accepted.Down k)) = k.number ≡ j
    IsDown (Some a) = ⊥

    judged_down : (answer : Result Verdict Refusal) (a c : Bool)
        → IsDown (if_done answer (refuse_if a Refusal.NoInterface >> ignore_if c Ignored.Already >> Ok (Accepted.Down (record { number = j }))))
    judged_down answer a c = grind arith

    is_down : (s : State) → IsDown (done_as (happens s (down_event w j)))
    unfolding done_as judged down_judged
    is_down s = judged_down (step s (down_event w j)).answer (nat_le (iface_count s) j) (not (is_up s j))

    away : (t : ℕ) (o : Option Accepted) → IsDown o → KeepsTimer t i g o
    away t None f = tt
    away t (Some (Accepted.Down k)) f = subst (λ (n : ℕ). (n == i) ≡ false) (sym f) off
    away t (Some a) f = absurd f

    down_next : (s : State) (next : ℕ) → next_general s i ≡ Some next → next_general (step s (down_event w j)).state i ≡ Some next
    unfolding taken
    down_next s next is =
        after_event (λ o u. next_general u i ≡ Some next) s (down_event w j) is
        (λ a was. by_down a (subst IsDown was (is_down s)))
      where
        by_down : (a : Accepted) → IsDown (Some a) → next_general (taken s w a).state i ≡ Some next
        by_down (Accepted.Down k) f =
            done_next i s w (Accepted.Down k) (subst (λ (n : ℕ). not (n == i) ≡ true) (sym f) (ap not off)) ∙ is
        by_down a f = absurd f

  first_apart : (n m : ℕ) → i < n → (n == i) ≡ false
  first_apart n m lt = grind (arith, common_steps, lt)

  -- ---- the interfaces that a reload removes

  gone_left : (w t next m n : ℕ) (s : State) → i < n → IsSettled s → next_general s i ≡ Some next
      → runs_until t (group_end s i g) ≡ true → Left next s (ran s (map (down_event w) (range_with_len n m))).1
  unfolding ran
  gone_left w t next zero n s lt rest is runs = record { queries = is; lasts = refl }
  gone_left w t next (suc m) n s lt rest is runs =
      let off : (n == i) ≡ false = first_apart n m lt in
      let u : State = (step s (down_event w n)).state in
      let end : group_end u i g ≡ group_end s i g =
      event_keeps_timer t i g s (down_event w n) rest runs (away w n off t (done_as (happens s (down_event w n))) (is_down w n off s)) in
      let later : Left next u (ran u (map (down_event w) (range_with_len (n + 1) m))).1 =
      gone_left w t next m (n + 1) u (omega (arith, lt)) (step_is_settled s (down_event w n) rest) (down_next w n off s next is)
      (subst (λ (o : Option ℕ). runs_until t o ≡ true) (sym end) runs) in
      record { queries = later.queries; lasts = later.lasts ∙ end }

  -- ---- the values of the querier

  no_later : (a b : ℕ) → min a b ≤ a
  no_later a b = omega arith

  pub record Sooner (next : ℕ) (o : Option ℕ) : Type 0 where
    pub soon : ℕ
    pub is : o ≡ Some soon
    pub no_later : soon ≤ next

  row_sooner : (p next : ℕ) (t : Settings) (q : QuerierRow) (role : QuerierRole) → next_query role ≡ Some next
      → Sooner next (next_query (row_under p t q role).role)
  row_sooner p next t q (QuerierRole.Querier x left) e =
      record { soon = min x (p + 1000 * t.query_interval); is = refl; no_later = less } where
        same : x ≡ next
        same = cc e

        less : min x (p + 1000 * t.query_interval) ≤ next
        less = omega (arith, same)
  row_sooner p next t q (QuerierRole.NonQuerier end) e = absurd cc

  under_sooner : (p next : ℕ) (t : Settings) (o : Option QuerierRow) → next_in o ≡ Some next
      → Sooner next (next_in (option_map (λ (q : QuerierRow). row_under p t q q.role) o))
  under_sooner p next t None e = absurd cc
  under_sooner p next t (Some q) e = row_sooner p next t q q.role e

  rows_sooner : (s : State) (c : Config) (next : ℕ) → next_general s i ≡ Some next → Sooner next (next_general (under s c) i)
  unfolding under queriers_under rps_replaced next_general
  rows_sooner s c next e =
      subst (λ (o : Option QuerierRow). Sooner next (next_in o))
      (sym (row_at_cut (λ (q : QuerierRow). row_under s.present (settings_of c) q q.role) (iface_key i) s.queriers))
      (under_sooner s.present next (settings_of c) (row_at s.queriers (iface_key i)) e)

  -- ---- a reload

  abbrev end_among : Table GroupRecordRow → Option ℕ
  end_among rows = option_and_then (λ (r : GroupRecordRow). r.end) (row_at rows (star_key i g))

  pub record Reloaded (next : ℕ) (s t : State) : Type 0 where
    pub queries : Sooner next (next_general t i)
    pub lasts : group_end t i g ≡ group_end s i g

  under_end : (s : State) (c : Config) → group_end (under s c) i g ≡ group_end s i g
  unfolding under rps_replaced
  under_end s c = refl

  pub reload_leaves : (s : State) (c : Config) (w t next : ℕ) → i < length c.interfaces → IsSettled s → next_general s i ≡ Some next
      → runs_until t (group_end s i g) ≡ true → Reloaded next s (reload s c w).0
  unfolding reload replaced removals
  reload_leaves s c w t next lt rest is runs =
      let after : State = (ran s (removals s c w)).1 in
      let gone : Left next s after = gone_left w t next (iface_count s - length c.interfaces) (length c.interfaces) s lt rest is runs in
      let made : State × List Message = (under after c, hellos_anew after (addressing_of c)) in
      record {
        queries = subst (λ (o : Option ℕ). Sooner next o) (sym (settled_next i after made w)) (rows_sooner after c next gone.queries);
        lasts = ap (λ (x : Rows). end_among x.groups) (settled_same after made w) ∙ (under_end after c ∙ gone.lasts);
      }
