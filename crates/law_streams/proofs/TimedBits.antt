-- While a router joins a source no time clears its SPTbit.
use Rattle.std.{proofs.Common.{◌≡◌, ℕ, ◌+◌, ◌-◌, ◌<◌, ◌≤◌, false, true, List, length, Some, is_some, sym, ap, subst, arith}}
use Rattle.pim_types.{specs.{Keys.source_key, declared.{fact.{DownstreamRow.DownstreamRow, Key.Key}}}}
use Rattle.pim_model.{specs.{Firing.{fire_all, fire_instant, fire_once, fired}, Messages.Message, Sets.{assert_source, assert_star, is_loser, spt_bit}, State.{Addressing, State, iface_count}, Step.advanced, Tables.{has_row, row_at}, Timers.{Ending, next_due, timers}}}
use Rattle.law_settled.{proofs.{TimerLaws.{IsNext, is_next}, TurnLaws.kept_to_the_end, Ends.{Ends, shows}}, specs.Ready.IsLawful}
use Rattle.law_streams.{specs.{Bits.FiringKeepsSptBit, Passing.{ends_by, has_expired}}, proofs.{Bits.join_keeps_spt_bit, Fires.{Goes, fired_on, once_goes, own_goes}, JoinTimes.{Kept, fired_keeps, never_expires, never_pends, once_keeps, row_ends}, Tests.Two, Ways.ground_itself}}

pub firing_keeps_spt_bit : FiringKeepsSptBit
unfolding spt_bit
firing_keeps_spt_bit s kind k g src set = fired_on g src 0 s (source_key 0 g src) s kind k set

module _ (g src down w m : ℕ) (b : State) (within : down < iface_count b) (row : DownstreamRow)
    (ends : Two (ends_by m row.expiry) (ends_by m row.pending)) where
  abbrev key : Key
  key = source_key down g src

  -- what holds at each firing
  record Stays (t : State) : Type 0 where
    goes : Goes g src down b t
    kept : Kept key m (λ o. o ≡ Some row) (never_pends m row ends.second) (never_expires m row ends.first) t
    set : spt_bit t g src ≡ true

  once_stays : (t : State) (d : Ending) → Stays t → d.end ≤ m → shows d.timer.kind (Ends d.timer.key d.end) t ≡ true
      → Stays (fire_once w t d).0
  unfolding fire_once has_row spt_bit
  once_stays t d f low shown =
      let opened : State = record t { present = d.end } in
      let c : State × List Message = fired opened d.timer.kind d.timer.key in
      let own : Goes g src down b c.0 = own_goes g src down b w t d f.goes in
      record {
        goes = once_goes g src down b w t d f.goes;
        kept = once_keeps key m (λ o. o ≡ Some row) (never_pends m row ends.second) (never_expires m row ends.first) w t d f.kept low shown;
        set =
            join_keeps_spt_bit t c w g src down
            (record {
              configured = subst (λ (cs : Addressing). down < length cs.interfaces) (sym (own.ground).configured) within;
              joined =
                  ap is_some
                  (fired_keeps key m (λ o. o ≡ Some row) (never_pends m row ends.second) (never_expires m row ends.first) t d.timer.kind d.timer.key d.end low (f.kept).lawful shown (f.kept).there);
              unlost = own.source;
            })
            (firing_keeps_spt_bit opened d.timer.kind d.timer.key g src f.set);
      }

  instant_stays : (t : State) (e : Ending) → Stays t → e.end ≤ m → Stays (fire_instant w t e).0
  unfolding fire_instant
  instant_stays t e f low =
      kept_to_the_end (next_due e.end) (fire_once w) Stays
      (λ u d h there.
      let next : IsNext e.end u d = is_next e.end u d there in
      let due : d.end ≤ e.end = next.due in once_stays u d h (omega (arith, due, low)) next.shown)
      (length (timers t) + 1) t f

  all_stays : (t : State) → Stays t → Stays (fire_all w m t).0
  unfolding fire_all
  all_stays t f =
      kept_to_the_end (next_due m) (fire_instant w) Stays (λ u d h there. instant_stays u d h (is_next m u d there).due)
      (m + 2 - t.present) t f

pub time_keeps_spt_bit : (w m : ℕ) (s : State) (g src down : ℕ) (row : DownstreamRow) → IsLawful s → down < iface_count s
    → is_loser (assert_star s g down) ≡ false → is_loser (assert_source s g src down) ≡ false
    → row_at s.downstream (source_key down g src) ≡ Some row → has_expired s (source_key down g src) m ≡ false
    → spt_bit s g src ≡ true → spt_bit (advanced s w m).state g src ≡ true
unfolding advanced spt_bit
time_keeps_spt_bit w m s g src down row lawful within group source found off set =
    (all_stays g src down w m s within row (row_ends m s (source_key down g src) row found off) s
    (record {
      goes = record { ground = ground_itself s; group = group; source = source; spt = λ e. e };
      kept = record { there = found; lawful = lawful };
      set = set;
    })).set
