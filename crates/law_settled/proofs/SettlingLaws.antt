-- What follows of a change keeps what its single steps keep: the Join and override timers that are set upstream, each
-- to an end later than the present, what is cleared, and the Hellos that packets pay.
use Rattle.std.{proofs.{Common.{◌≡◌, ◌⊎◌, inl, inr, ⊎_elim, ℕ, ◌<◌, ◌≤◌, ◌+◌, min, Bool, cond, List, Option, Some, option_map, refl, arith, rules}, lemmas.Bool.cases_lt}, specs.Option.option_map_or}
use Rattle.pim_types.{specs.{declared.{config.IfaceId.IfaceId, fact.{InterfaceRow.InterfaceRow, JoinTimerRow.JoinTimerRow, Key.Key, OverrideTimerRow.OverrideTimerRow}, outcome.Emission.Emission, upstream.{SourceView.SourceView, StarView.StarView, TreeState.TreeState}}, Keys.star_key}}
use Rattle.pim_model.{specs.{Asserts.{assert_forgotten, without_spt_bit}, Clearing.{Cleared, clear, clear_all, clearable_count, cleared, to_clear}, Messages.Message, Neighbours.{t_override, t_override_among}, Registers.settle_registers, State.{InterfaceTable, State}, Tables.{Table, delay_in}, Upstream.{Cancel, Keep, LowerTo, SetTo, TimerChange, Told, changed_end, group_upstream, moved_join_timer, moved_override_timer, override_on, periodic_end, rpt_told, rpt_told_from, source_stays, source_told, source_upstream, star_stays, star_told, star_view, upstream, with_join_timer, with_override_timer}, Writing.{all_written, hello_paid, hellos_paid, with_owed_hello, written}}}
use Rattle.law_settled.{proofs.{ListLaws.by_cond, TurnLaws.{kept_in_turn, kept_to_the_end}}}

-- ---- clearing

module _ (P : State → Type 0) (forgets : (s : State) (k : Key) → P s → P (assert_forgotten s k))
    (unsets : (s : State) (k : Key) → P s → P (without_spt_bit s k)) where
  clears_one : (s : State) (c : Cleared) → P s → P (cleared s c).0
  unfolding cleared
  clears_one s c f = grind arith

  pub kept_by_clearing : (o s : State) → P (settle_registers s) → P (clear o s).0
  unfolding clear clear_all
  kept_by_clearing o s f =
      kept_to_the_end (to_clear o) cleared P (λ t c g e. clears_one t c g) (clearable_count (settle_registers s))
      (settle_registers s) f

-- ---- packets

module _ (P : Table InterfaceRow → Type 0) (pays : (i : ℕ) (t : Table InterfaceRow) → P t → P (hellos_paid i t)) where
  abbrev Rows : InterfaceTable → Type 0
  Rows t = P t.rows

  pays_owed : (t : InterfaceTable) (i : ℕ) (emission : Emission) → Rows t → Rows (with_owed_hello t i emission).0
  unfolding with_owed_hello hello_paid
  pays_owed t i emission f = grind (arith, by_cond)

  writes : (t : InterfaceTable) (message : Message) → Rows t → Rows (written t message).0
  unfolding written hello_paid
  writes t message f = grind (arith, pays_owed)

  pub kept_by_writing : (t : InterfaceTable) (messages : List Message) → P t.rows → P ((all_written t messages).0).rows
  unfolding all_written
  kept_by_writing t messages f = kept_in_turn written Rows writes messages t f

-- ---- what is sent upstream

pub lower_of_two : (a b : ℕ) → (min a b ≡ a) ⊎ (min a b ≡ b)
lower_of_two a b = ⊎_elim (λ (h : a < b). inl (omega arith)) (λ (h : b ≤ a). inr (omega arith)) (cases_lt a b)

module _ (Late : ℕ → Type 0) where
  abbrev pub IsFair : TimerChange → Type 0
  IsFair Keep = Unit {0}
  IsFair Cancel = Unit {0}
  IsFair (SetTo e) = Late e
  IsFair (LowerTo e) = Late e

  -- the row that a change leaves is the one that was there, or ends so late
  module _ {R : Type 0} (end_of : R → ℕ) (make : ℕ → R) (of_end : (n : ℕ) → end_of (make n) ≡ n)
      (of_row : (r : R) → make (end_of r) ≡ r) where
    moved_row : (change : TimerChange) (o : Option R) → IsFair change → (q : R)
        → option_map make (changed_end change (option_map end_of o)) ≡ Some q → (o ≡ Some q) ⊎ Late (end_of q)
    moved_row change o fair q e = grind arith

  pub moved_join_row : (change : TimerChange) (o : Option JoinTimerRow) → IsFair change → (q : JoinTimerRow)
      → option_map (λ (e : ℕ). let r : JoinTimerRow = record { end = e } in r)
      (changed_end change (option_map (λ (r : JoinTimerRow). r.end) o)) ≡ Some q → (o ≡ Some q) ⊎ Late q.end
  moved_join_row = moved_row (λ (r : JoinTimerRow). r.end) (λ e. record { end = e }) (λ n. refl) (λ r. refl)

  pub moved_override_row : (change : TimerChange) (o : Option OverrideTimerRow) → IsFair change → (q : OverrideTimerRow)
      → option_map (λ (e : ℕ). let r : OverrideTimerRow = record { end = e } in r)
      (changed_end change (option_map (λ (r : OverrideTimerRow). r.end) o)) ≡ Some q → (o ≡ Some q) ⊎ Late q.end
  moved_override_row = moved_row (λ (r : OverrideTimerRow). r.end) (λ e. record { end = e }) (λ n. refl) (λ r. refl)

  record TellsFairly (t : Told) : Type 0 where
    fair : IsFair t.timer

  module _ (a : State) (w : ℕ) (later : (d : ℕ) → 1 ≤ d → Late (a.present + d)) where
    cancels : (messages : List Message) → TellsFairly (record { timer = Cancel; messages = messages })
    cancels messages = record { fair = tt }

    keeps : (messages : List Message) → TellsFairly (record { timer = Keep; messages = messages })
    keeps messages = record { fair = tt }

    sets : (messages : List Message) → TellsFairly (record { timer = SetTo (periodic_end a); messages = messages })
    sets messages = record { fair = later 60000 (omega arith) }

    some_override : (iface : Option IfaceId) → 1 ≤ option_map_or (λ (i : IfaceId). t_override a i.number w) iface 1
    unfolding t_override t_override_among delay_in
    some_override iface = grind arith

    lowers : (iface : Option IfaceId) (messages : List Message)
        → TellsFairly (record { timer = LowerTo (override_on a w iface); messages = messages })
    lowers iface messages = record { fair = later _ (some_override iface) }

    either : (b : Bool) (t u : Told) → TellsFairly t → TellsFairly u → TellsFairly (cond b t u)
    either b t u f g = by_cond TellsFairly b t u f g

    star_stays_fair : (g : ℕ) (old new : StarView) → TellsFairly (star_stays a w g old new)
    unfolding star_stays
    star_stays_fair g old new = search (rules, either, lowers, sets, keeps)

    star_fair : (g : ℕ) (old new : StarView) → TellsFairly (star_told a w g old new)
    unfolding star_told
    star_fair g old new = grind (arith, either, star_stays_fair, sets, cancels, keeps)

    source_stays_fair : (g src : ℕ) (old new : SourceView) → TellsFairly (source_stays a w g src old new)
    unfolding source_stays
    source_stays_fair g src old new = either _ _ _ (keeps _) (either _ _ _ (lowers new.iface _) (sets _))

    source_fair : (g src : ℕ) (old new : SourceView) → TellsFairly (source_told a w g src old new)
    unfolding source_told
    source_fair g src old new = grind (arith, either, source_stays_fair, sets, cancels, keeps)

    rpt_fair_from : (g src : ℕ) (old new : SourceView) (was is : TreeState)
        → TellsFairly (rpt_told_from a w g src old new was is)
    unfolding rpt_told_from
    rpt_fair_from g src old new TreeState.NotPruned TreeState.Pruned = cancels _
    rpt_fair_from g src old new TreeState.Pruned TreeState.NotPruned = keeps _
    rpt_fair_from g src old new TreeState.NotPruned TreeState.NotPruned = either _ _ _ (lowers _ _) (keeps _)
    rpt_fair_from g src old new TreeState.NotPruned TreeState.NotJoined = cancels _
    rpt_fair_from g src old new TreeState.Pruned TreeState.Pruned = keeps _
    rpt_fair_from g src old new TreeState.Pruned TreeState.NotJoined = keeps _
    rpt_fair_from g src old new TreeState.NotJoined is = keeps _

    rpt_fair : (g src : ℕ) (old new : SourceView) → TellsFairly (rpt_told a w g src old new)
    unfolding rpt_told
    rpt_fair g src old new = rpt_fair_from g src old new _ _

    module _ (P : State → Type 0)
        (joins : (s : State) (k : Key) (change : TimerChange) → IsFair change → P s → P (moved_join_timer s k change))
        (overrides : (s : State) (k : Key) (change : TimerChange) → IsFair change → P s
        → P (moved_override_timer s k change)) (o : State) where
      join_kept : (s : State) (k : Key) (change : TimerChange) → IsFair change → P s → P (with_join_timer s k change)
      unfolding with_join_timer
      join_kept s k change fair f = grind arith

      override_kept : (s : State) (k : Key) (change : TimerChange) → IsFair change → P s
          → P (with_override_timer s k change)
      unfolding with_override_timer
      override_kept s k change fair f = grind arith

      source_kept : (g : ℕ) (s : State) (src : ℕ) → P s → P (source_upstream o a w g s src).0
      unfolding source_upstream
      source_kept g s src f = grind (arith, override_kept, rpt_fair, join_kept, source_fair)

      group_kept : (keys : List Key) (s : State) (g : ℕ) → P s → P (group_upstream o a w keys s g).0
      unfolding group_upstream
      group_kept keys s g f =
          let old : StarView = star_view o g in
          let new : StarView = star_view a g in
          kept_in_turn (source_upstream o a w g) P (source_kept g) _ _
          (join_kept s (star_key 0 g) (star_told a w g old new).timer (star_fair g old new).fair f)

      pub kept_by_telling : P a → P (upstream o a w).0
      unfolding upstream
      kept_by_telling f = kept_in_turn (group_upstream o a w _) P (group_kept _) _ a f
