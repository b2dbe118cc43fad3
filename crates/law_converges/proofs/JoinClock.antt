-- A Join timer runs for at most 84 s, whatever event comes.
use Rattle.std.{proofs.Common.{List, Some, [], ap, arith, false, refl, subst, sym, ℕ, ◌+◌, ◌∙◌, ◌∷◌, ◌≡◌, ◌≤◌}}
use Rattle.pim_types.{specs.declared.{config.Config.Config, event.Event.Event, fact.{JoinTimerRow.JoinTimerRow, Key.Key}, timer.TimerKind.TimerKind}}
use Rattle.pim_model.{specs.{Firing.{fire_row, fired, settled}, Messages.Message, State.{State, opening}, Step.{advanced, change, ran, state_after, step}, Tables.row_at, Upstream.{join_timer_due, periodic_end}, declared.accepted.Accepted.Accepted}}
use Rattle.law_settled.{proofs.Unsettled.{Unsettled, settling_leaves}}
use Rattle.law_streams.{proofs.{EndSoon.{change_present, no_later, there}, Firings.{fired_by, fired_now}, InTimeTimers.{EndsBy, is_after, not_after, stays_by}, Pairs.{ends_no_later, raised_end}, Raised.change_raised, Rows.changed_good, Timed.{later_timed, run_is_timed, settled_timed, step_keeps_timed}, Timers.{SameTimers, change_keeps, fired_keeps}, Walks.{event_walks, time_walks}}, specs.{InTimeJoins.{Join, join_key}, Timed.AreTimed}}
use Rattle.law_converges.{specs.JoinedWays.JoinTimersAreShort}

plus : (a b : ℕ) → a ≤ b → a + 84000 ≤ b + 84000
plus a b e = omega (arith, e)

longer : (a b : ℕ) → a ≤ b → a + 60000 ≤ b + 84000
longer a b e = omega (arith, e)

equal : (a b : ℕ) → a ≡ b → a ≤ b
equal a b e = omega (arith, e)

module _ (x : Join) (g : ℕ) where
  abbrev pub Near : State → Type 0
  Near s = EndsBy x g (s.present + 84000) s

  -- a change so far, and what its opening had
  record Mid (last : ℕ) (o t : State) : Type 0 where
    same : SameTimers o t
    now : t.present ≤ last
    ends : EndsBy x g (last + 84000) t

  settles : (last : ℕ) (o : State) (c : State × List Message) (w : ℕ) → AreTimed o → Mid last o c.0 → EndsBy x g (last + 84000) (settled o c w).0
  settles last o c w timed f = stays_by x g (last + 84000) o c w timed f.same (longer (c.0).present last f.now) f.ends

  -- ---- time

  module _ (last : ℕ) where
    record Fine (t : State) : Type 0 where
      timed : AreTimed t
      ends : EndsBy x g (last + 84000) t

    due_by : (s : State) (kind : TimerKind) (k : Key) → s.present ≤ last → EndsBy x g (last + 84000) s
        → EndsBy x g (last + 84000) (fired s kind k).0
    unfolding fired fire_row join_timer_due
    due_by s TimerKind.Join k le f =
        changed_good (is_after (last + 84000)) refl (λ (old : JoinTimerRow). Some (record { end = periodic_end s })) new k (join_key x 0 g)
        s.join_timers f
      where
        at_end : (r : JoinTimerRow) → Some (record { end = periodic_end s }) ≡ Some r → periodic_end s ≡ r.end
        at_end r e = cc e

        new : (r q : JoinTimerRow) → Some (record { end = periodic_end s }) ≡ Some q → is_after (last + 84000) (Some q) ≡ false
        new r q e = subst (λ (n : ℕ). is_after (last + 84000) (Some (record { end = n })) ≡ false) (at_end q e) (not_after (last + 84000) (periodic_end s) (longer s.present last le))
    due_by s kind k le f = fired_by x g (last + 84000) s k kind refl f

    fires : (s : State) (m : ℕ) (kind : TimerKind) (k : Key) → m ≤ last → Fine s → Mid last s (fired (record s { present = m }) kind k).0
    fires s m kind k le f = record {
      same = fired_keeps (record s { present = m }) kind k;
      now = subst (λ (p : ℕ). p ≤ last) (sym (fired_now (record s { present = m }) k kind)) le;
      ends = due_by (record s { present = m }) kind k le f.ends;
    }

    follows : (o : State) (c : State × List Message) (w : ℕ) → Fine o → Mid last o c.0 → Fine (settled o c w).0
    follows o c w f h = record { timed = settled_timed o c w f.timed h.same; ends = settles last o c w f.timed h }

    time_fine : (s : State) (w : ℕ) → Fine s → Fine (advanced s w last).state
    time_fine s w f =
        time_walks Fine (Mid last) last (λ t m le h. record { timed = later_timed w t m h.timed; ends = h.ends }) fires follows s w last
        (no_later last) f

  -- ---- any event

  record IsNear (t : State) : Type 0 where
    timed : AreTimed t
    near : Near t

  module _ (s : State) (e : Event) (timed : AreTimed s) (near : Near s) where
    abbrev At : State → State → Type 0
    At o t = (o.present ≡ t.present) × Mid o.present o t

    changes : (a : Accepted) → At s (change s e.draw a).state
    changes a = (
      sym (change_present s e.draw a),
      record {
        same = change_keeps s e.draw a;
        now = equal _ _ (change_present s e.draw a);
        ends = change_raised x g (s.present + 84000) s e.draw (no_later (s.present + 84000)) near a;
      },
    )

    follow : (o : State) (c : State × List Message) (w : ℕ) → IsNear o → At o c.0 → IsNear (settled o c w).0
    follow o c w f h = record {
      timed = settled_timed o c w f.timed (h.1).same;
      near = subst (λ (p : ℕ). EndsBy x g (p + 84000) (settled o c w).0) (h.0 ∙ sym (ap (λ (u : Unsettled). u.present) (settling_leaves o c w)))
          (settles o.present o c w f.timed h.1);
    }

    passes : (m : ℕ) → s.present ≤ m → IsNear (advanced s e.draw m).state
    passes m le = record {
      timed = (fine).timed;
      near = subst (λ (p : ℕ). EndsBy x g (p + 84000) (advanced s e.draw m).state) (sym (there s e.draw m)) (fine).ends;
    }
      where
        fine : Fine m (advanced s e.draw m).state
        fine = time_fine m s e.draw (record { timed = timed; ends = raised_end x g (s.present + 84000) (m + 84000) s (plus s.present m le) near })

    pub step_near : Near (step s e).state
    step_near = (event_walks IsNear At s e (record { timed = timed; near = near }) passes (λ a is. changes a) follow).near

-- ---- any run

opening_near : (x : Join) (g : ℕ) (config : Config) → Near x g (opening config)
unfolding opening row_at
opening_near x g config = refl

run_near : (x : Join) (g : ℕ) (events : List Event) (s : State) → AreTimed s → Near x g s → Near x g (state_after s events)
unfolding state_after ran
run_near x g [] s timed near = near
run_near x g (e ∷ es) s timed near = run_near x g es (step s e).state (step_keeps_timed s e timed) (step_near x g s e timed near)

pub join_timers_are_short : JoinTimersAreShort
unfolding opening state_after ran
join_timers_are_short x g config events row is =
    ends_no_later x g ((state_after (opening config) events).present + 84000) (state_after (opening config) events) row
    (run_near x g events (opening config) (run_is_timed config []) (opening_near x g config)) is
