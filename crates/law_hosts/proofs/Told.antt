-- The front while notes are reported: what it looked at then it could as well have looked at in the end.
use Rattle.std.{proofs.{Common.{◌≡◌, ◌≤◌, ◌∙◌, ℕ, ◌+◌, Bool, true, false, cond, List, [], ◌∷◌, refl, ap, arith}}}
use Rattle.pim_model.{specs.{Judging.last_moment, Registers.keepalive_period, State.State, Step.{Answered, step}, Tables.Table}}
use Rattle.pim_types.{specs.declared.fact.GroupRecordRow.GroupRecordRow}
use Rattle.law_settled.{specs.Laws.ends_after}
use Rattle.law_events.{specs.Rest.IsAtRest}
use Rattle.law_plane.{specs.{Offload.dropped, Split.{Notice, advance_to}}, proofs.{Ends.{AreLate, Ends, set_end}, Passes.{Passed, ahead_before, late_before, time_stepped}}}
use Rattle.law_states.{specs.Kept.{Way, is_kept, told_notes}, proofs.{KeptOrders.ToldEach, NearEnds.EndBy}}
use Rattle.igmp_older.{specs.{Joined.{FrontedRouter}, Presence.{Present, looked}}}
use Rattle.law_hosts.{specs.Behind.{advanced_to, after_notes}, proofs.{Given.time_known, Looks.{looked_once, same_lasts}}}

pub told_state : (w : Way) (ns : List Notice) (b : FrontedRouter) → (after_notes w b ns).state ≡ told_notes w b.state ns
unfolding after_notes told_notes
told_state w [] b = refl
told_state w (n ∷ ns) b = told_state w ns _

module _ (core : State) (quiet : IsAtRest core) (now : ℕ) (w : Way) (early : now ≤ last_moment) (ahead : ends_after now core ≡ true)
    (near : EndBy core.present core.sources) where
  -- what is known in the end
  abbrev AtLast : Present → Present
  AtLast p = looked core.group_records now p

  -- ---- time that passes quietly

  module _ (f : Ends) (b : FrontedRouter) (m at : ℕ) (is : Passed core quiet f at b.state) (within : at ≤ m) (late : AreLate now f) (until : m ≤ now)
    where
      steps : step b.state (advance_to m) ≡ dropped (record b.state { present = m })
      steps =
          time_stepped core quiet f at b.state is 0 m within (omega (arith, until, early)) (ahead_before core m now until ahead)
          (late_before f m now until late)

      records_same : b.state.group_records ≡ core.group_records
      records_same = ap (λ (t : State). t.group_records) is.same

      pub quietly_looked : (advanced_to m b).present ≡ looked core.group_records m b.present
      quietly_looked =
          time_known b 0 m (ap (λ (a : Answered). a.answer) steps)
          ∙ ap (λ (a : Answered). looked a.state.group_records m b.present) steps
          ∙ ap (λ (groups : Table GroupRecordRow). looked groups m b.present) records_same

      pub known_at_last : AtLast (advanced_to m b).present ≡ AtLast b.present
      known_at_last =
          ap AtLast quietly_looked
          ∙ looked_once m now until core.group_records core.group_records (same_lasts now core.group_records) b.present

  -- ---- notes

  pub told_at_last : (ns : List Notice) (f : Ends) (b : FrontedRouter) → ToldEach core quiet now w early ahead near f b.state ns
      → AtLast (after_notes w b ns).present ≡ AtLast b.present
  unfolding after_notes
  told_at_last [] f b each = refl
  told_at_last (n ∷ ns) f b each =
      told_at_last ns (set_end f n.source (n.moment + keepalive_period)) _ each.1 ∙ once (is_kept w b.state n) refl
    where
      once : (kept : Bool) → is_kept w b.state n ≡ kept → AtLast (cond kept b.present (advanced_to n.moment b).present) ≡ AtLast b.present
      once true is = refl
      once false is =
          let by : _ = each.0 is in known_at_last f b n.moment (by.0).at (by.0).is (by.0).within (by.0).late by.1
