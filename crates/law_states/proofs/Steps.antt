-- What is kept by every change, by a moment to which time goes on: every event and reload keeps it at its own present.
use Rattle.std.{proofs.Common.{◌≡◌, ℕ, ◌+◌, ◌-◌, ◌≤◌, Bool, true, List, [], ◌∷◌, length, map, refl, sym, ap, subst}, specs.List.range_with_len}
use Rattle.pim_types.{specs.declared.{config.Config.Config, event.Event.Event, fact.Key.Key, timer.TimerKind.TimerKind}}
use Rattle.pim_model.{specs.{declared.accepted.Accepted.Accepted, Firing.{fired, settled}, Messages.Message, Registers.keepalive_period, State.{addressing_of, State, iface_count, opening}, Step.{advanced, change, ran, rps_replaced, step}}}
use Rattle.law_settled.{proofs.Unsettled.{Unsettled, settling_leaves}}
use Rattle.law_streams.{proofs.{Walks.{event_walks, time_walks}, EndSoon.{no_later, change_present, there}}}
use Rattle.law_states.{specs.{Placing.{Places, are_places, gone_on, moved, placed_under, reload_by, resubnetted, to_order, without_neighbours}, Reloading.{down_event, hellos_anew, reload, removals, replaced, under}, Ends.IsKept}, proofs.{Addresses.{KeepsAddresses, new_addresses, old_addresses}, Ups.{begun, gone, kept, new, old, order, renewed}}}
use Rattle.law_plane.{specs.Keeping.{keep, kept_until}, proofs.Keeps.keep_by}

module _ (By : ℕ → State → Type 0)
    (later : (a b : ℕ) → a ≤ b → (s : State) → By a s → By b s)
    (moves : (last m : ℕ) → m ≤ last → (s : State) → By last s → By last (record s { present = m }))
    (fires : (last : ℕ) (s : State) (kind : TimerKind) (k : Key) → By last s → By last (fired s kind k).0)
    (follows : (last : ℕ) (o : State) (c : State × List Message) (w : ℕ) → By last c.0 → By last (settled o c w).0)
    (changes : (last : ℕ) (s : State) (w : ℕ) (a : Accepted) → By last s → By last (change s w a).state)
    (unders : (last : ℕ) (s : State) (c : Config) → By last s → By last (under s c))
    (keeps : (last : ℕ) (s : State) (g src end : ℕ) → By last s → By last (kept_until s g src end))
    (goes : (last : ℕ) (s : State) (places : List ℕ) (c : Config) → KeepsAddresses s places c → By last s
    → By last (placed_under s places c))
    (parts : (last : ℕ) (s : State) (apart : List ℕ) → By last s → By last (without_neighbours apart s)) where
  abbrev pub Now : State → Type 0
  Now s = By s.present s

  time_now : (s : State) (w moment : ℕ) → s.present ≤ moment → Now s → Now (advanced s w moment).state
  time_now s w moment le f =
      subst (λ (n : ℕ). By n (advanced s w moment).state) (sym (there s w moment))
      (time_walks (By moment) (λ o t. By moment t) moment (λ t m le g. moves moment m le t g)
      (λ t m kind k le g. fires moment (record t { present = m }) kind k (moves moment m le t g))
      (λ o c w g h. follows moment o c w h) s w moment (no_later moment) (later s.present moment le s f))

  settled_now : (o : State) (c : State × List Message) (w : ℕ) → Now c.0 → Now (settled o c w).0
  settled_now o c w f =
      subst (λ (n : ℕ). By n (settled o c w).0) (sym (ap (λ (u : Unsettled). u.present) (settling_leaves o c w)))
      (follows (c.0).present o c w f)

  changed_now : (s : State) (w : ℕ) (a : Accepted) → Now s → Now (change s w a).state
  changed_now s w a f =
      subst (λ (n : ℕ). By n (change s w a).state) (sym (change_present s w a)) (changes s.present s w a f)

  pub step_now : (s : State) (e : Event) → Now s → Now (step s e).state
  step_now s e f =
      event_walks Now (λ o t. Now t) s e f (λ moment le. time_now s e.draw moment le f)
      (λ a is. changed_now s e.draw a f) (λ o c w g h. settled_now o c w h)

  ran_now : (events : List Event) (s : State) → Now s → Now (ran s events).1
  unfolding ran
  ran_now [] s f = f
  ran_now (e ∷ es) s f = ran_now es (step s e).state (step_now s e f)

  under_present : (s : State) (c : Config) → (under s c).present ≡ s.present
  unfolding under rps_replaced
  under_present s c = refl

  replaced_now : (s : State) (c : Config) (w : ℕ) → Now s → Now (replaced s c w).0
  unfolding replaced
  replaced_now s c w f =
      settled_now s (under s c, hellos_anew s (addressing_of c)) w
      (subst (λ (n : ℕ). By n (under s c)) (sym (under_present s c)) (unders s.present s c f))

  pub reload_now : (s : State) (c : Config) (w : ℕ) → Now s → Now (reload s c w).0
  unfolding reload
  reload_now s c w f = replaced_now (ran s (removals s c w)).1 c w (ran_now (removals s c w) s f)

  there_present : (s : State) (places : List ℕ) (c : Config) (apart : List ℕ)
      → (without_neighbours apart (placed_under s places c)).present ≡ s.present
  unfolding without_neighbours placed_under
  there_present s places c apart = refl

  moved_now : (s : State) (places : List ℕ) (c : Config) (apart : List ℕ) (w : ℕ) → KeepsAddresses s places c → Now s
      → Now (moved s places c apart w).0
  unfolding moved
  moved_now s places c apart w same f =
      let there : State = placed_under s places c in
      settled_now there (without_neighbours apart there, []) w
      (subst (λ (n : ℕ). By n (without_neighbours apart there)) (sym (there_present s places c apart))
      (parts s.present there apart (goes s.present s places c same f)))

  placed_now : (s : State) (m : Places) (c : Config) (w : ℕ) → are_places (iface_count s) (length c.interfaces) m ≡ true
      → Now s → Now (reload_by s m c w).0
  unfolding reload_by gone_on
  placed_now s m c w are f =
      let first : Now (begun s m c w) =
      moved_now s (to_order m) (old s m c w) (resubnetted (kept s m c w) (old s m c w).interfaces (new s m c w).interfaces) w
      (old_addresses s m c are) f in
      let next : Now (renewed s m c w) =
      replaced_now (gone s m c w) (new s m c w) w
      (ran_now (map (down_event w) (range_with_len (kept s m c w) (length m - kept s m c w))) (begun s m c w) first) in
      moved_now (renewed s m c w) (order s m c w) c [] w (new_addresses s m c w are) next

  kept_now : (s : State) (g src m : ℕ) → Now s → Now (keep s g src m)
  unfolding kept_until
  kept_now s g src m f = keep_by s g src m Now f (λ end e sooner. keeps s.present s g src (m + keepalive_period) f)

  -- a test that says so
  pub kept_test : (test : State → Bool) → ((s : State) → test s ≡ true → Now s) → ((s : State) → Now s → test s ≡ true)
      → ((c : Config) → test (opening c) ≡ true) → IsKept test
  kept_test test tested passes opens = record {
    opening = opens;
    step = λ s e f. passes (step s e).state (step_now s e (tested s f));
    reload = λ s c w f. passes (reload s c w).0 (reload_now s c w (tested s f));
    placed = λ s m c w are f. passes (reload_by s m c w).0 (placed_now s m c w are (tested s f));
    keep = λ s g src m f. passes (keep s g src m) (kept_now s g src m (tested s f));
  }
