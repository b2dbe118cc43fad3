-- Rows that decide as the router's, those that the plane reads and lets go of, and after a reload those that it reads
-- again.
use Rattle.std.{proofs.{Common.{◌≡◌, ◌+◌, ◌≤◌, ℕ, Bool, true, false, ◌||◌, cond, List, [], ◌∷◌, ◌-◌, length, map, Ok, Option, Some, None, nat_le, option_map, refl, sym, ap, subst, ◌∙◌, arith}, lemmas.Bool.{Decides.nat_tests, or_parts}}, specs.{List.range_with_len, Option.option_map_or}}
use Rattle.pim_types.{specs.{declared.{config.Config.Config, event.Event.Event, fact.{Key.Key, SourceRow.SourceRow}}, Keys.source_key}}
use Rattle.pim_model.{specs.{Cache.{answers, cached}, Judging.last_moment, Limits.config_test, Messages.Message, Registers.keepalive_period, State.{State, addressing_of}, Step.{ran, rps_replaced, state_after, step}, Tables.has_row}}
use Rattle.law_settled.{proofs.{ListLaws.{each_more, each_of_list, list_of_each}, Unsettled.{Unsettled, settling_leaves}}}
use Rattle.law_events.{specs.{Rest.IsAtRest, Kept.is_listed}, proofs.Rest.step_is_at_rest}
use Rattle.law_states.{specs.{Reload.config_of, Reloading.{down_event, hellos_anew, reload, removals, replaced, under}, Placing.{Places, gone_on, in_order, kept_places, moved, new_order, old_order, placed_under, reload_by, resubnetted, to_order, without_neighbours}, Anew.{AreSound, DecidesAs, HasBoth, IsFit, ReloadRestoresRows, ReloadStaysFit, read_of, reload_of}, Guests.{AreHeld, HoldsOf, without}, Near.is_near}, proofs.{Ground.reload_is_under, Rest.reload_leaves_rest, Moved.placed_reload_is_under, PlacedRest.{moved_is_at_rest, ordered_setting, placed_reload_leaves_rest}, NearEnds.{EndsNear, IsBy, near_after, settled_at, tested}}}
use Rattle.law_plane.{specs.{Offered.offered, Offload.{Row, decision, handled, handling, offload, told}, ToldLaws.{DecideAlike, PlaneRows, told_anew}}, proofs.{Splits.step_stays_early, ToldRows.{same_itself, same_through}}}

-- ---- rows

pub decides_itself : (o : Option Row) → DecidesAs o o
decides_itself None = tt
decides_itself (Some row) = λ i low. same_itself (decision (handling row i))

pub decides_through : (held its new : Option Row) → DecidesAs held its → DecideAlike its new → DecidesAs held new
decides_through None its new a b = tt
decides_through (Some row) its new a b =
    λ i low. same_through (decision (handling row i)) (decision (handled its i)) (decision (handled new i)) (a i low) (b i low)

pub less_sound : (drops : ℕ → ℕ → Bool) (s : State) (rows : PlaneRows) → AreSound rows s → AreSound (without drops rows) s
less_sound drops s rows f g src = go (drops g src)
  where
    go : (b : Bool) → DecidesAs (cond b None (rows g src)) (told s g src)
    go true = tt
    go false = f g src

pub less_held : (drops : ℕ → ℕ → Bool) (s : State) (guests : PlaneRows) → AreHeld guests s → AreHeld (without drops guests) s
less_held drops s guests f g src = go (drops g src)
  where
    go : (b : Bool) → HoldsOf (cond b None (guests g src)) (offered s g src)
    go true = tt
    go false = f g src

-- some rows are read again, and the others decide alike in both states
pub again_sound : (asks : ℕ → ℕ → Bool) (s t : State) (rows : PlaneRows) → AreSound rows s
    → ((g src : ℕ) → asks g src ≡ false → DecideAlike (told s g src) (told t g src))
    → AreSound (read_of asks t rows) t
again_sound asks s t rows f alike g src = go (asks g src) refl
  where
    go : (b : Bool) → asks g src ≡ b → DecidesAs (cond b (told t g src) (rows g src)) (told t g src)
    go true is = decides_itself (told t g src)
    go false is = decides_through (rows g src) (told s g src) (told t g src) (f g src) (alike g src is)

pub anew_sound : (names : List Key) (s t : State) (rows : PlaneRows) → AreSound rows s
    → ((g src : ℕ) → is_listed names g src ≡ false → DecideAlike (told s g src) (told t g src))
    → AreSound (told_anew names t rows) t
unfolding told_anew
anew_sound names s t rows f alike = again_sound (λ g src. is_listed names g src) s t rows f alike

pub read_sound : (asks : ℕ → ℕ → Bool) (s : State) (rows : PlaneRows) → AreSound rows s → AreSound (read_of asks s rows) s
read_sound asks s rows f =
    again_sound asks s s rows f (λ g src out i low. same_itself (decision (handled (told s g src) i)))

-- ---- a reload

none_told : (s : State) (g src : ℕ) → has_row s.sources (source_key 0 g src) ≡ false → told s g src ≡ None
unfolding cached
none_told s g src out =
    ap (λ (b : Bool). option_map offload (cond b (Some (answers s g src)) None)) out

none_alike : (a b : Option Row) → a ≡ None → b ≡ None → DecideAlike a b
none_alike None None e f = λ i low. tt
none_alike None (Some b) e f = absurd cc
none_alike (Some a) b e f = absurd cc

others_alike : (s t : State) (changed : ℕ → ℕ → Bool) → HasBoth s t changed → (g src : ℕ) → changed g src ≡ false
    → DecideAlike (told s g src) (told t g src)
others_alike s t changed all g src out =
    go (has_row s.sources (source_key 0 g src) || has_row t.sources (source_key 0 g src)) refl
  where
    go : (b : Bool) → (has_row s.sources (source_key 0 g src) || has_row t.sources (source_key 0 g src)) ≡ b
        → DecideAlike (told s g src) (told t g src)
    go true is = let no : false ≡ true = sym out ∙ all g src is in absurd cc
    go false is =
        let parts : _ = or_parts (has_row s.sources (source_key 0 g src)) (has_row t.sources (source_key 0 g src)) is in
        none_alike (told s g src) (told t g src) (none_told s g src parts.0) (none_told t g src parts.1)

pub reload_restores_rows : ReloadRestoresRows
reload_restores_rows places s c w rows changed f all =
    again_sound changed s (reload_of places s c w).0 rows f (others_alike s (reload_of places s c w).0 changed all)

-- ---- a state in which the law goes on

module _ (m : ℕ) where
  untested : (o : Option ℕ) → option_map_or (λ (end : ℕ). nat_le end (m + keepalive_period)) o true ≡ true → IsBy m o
  untested None e = tt
  untested (Some end) e = grind (arith, nat_tests, e)

self : (a : ℕ) → a ≤ a
self a = omega arith

pub ends_near : (s : State) → is_near s ≡ true → EndsNear s
unfolding is_near
ends_near s e = record {
  now = self s.present;
  ends = each_more _ _ (λ (x : Key × SourceRow) h. untested s.present (x.1).keepalive h) s.sources (each_of_list _ s.sources e);
}

pub is_near_then : (s : State) → EndsNear s → is_near s ≡ true
unfolding is_near
is_near_then s f =
    list_of_each _ s.sources (each_more _ _ (λ (x : Key × SourceRow) h. tested s.present (x.1).keepalive h) s.sources f.ends)

ran_early : (events : List Event) (s : State) → IsAtRest s → s.present ≤ last_moment → (ran s events).1.present ≤ last_moment
unfolding ran
ran_early [] s rest early = early
ran_early (e ∷ es) s rest early = ran_early es (step s e).state (step_is_at_rest s e rest) (step_stays_early s e rest early)

under_near : (s : State) (c : Config) → EndsNear s → EndsNear (under s c)
unfolding under rps_replaced
under_near s c f = record { now = f.now; ends = f.ends }

under_present : (s : State) (c : Config) → (under s c).present ≡ s.present
unfolding under rps_replaced
under_present s c = refl

-- the configuration is replaced, and what follows of that is done

replaced_near : (s : State) (c : Config) (w : ℕ) → EndsNear s → EndsNear (replaced s c w).0
unfolding replaced
replaced_near s c w f = settled_at s (under s c, hellos_anew s (addressing_of c)) w (under_near s c f)

replaced_present : (s : State) (c : Config) (w : ℕ) → (replaced s c w).0.present ≡ s.present
unfolding replaced
replaced_present s c w =
    ap (λ (u : Unsettled). u.present) (settling_leaves s (under s c, hellos_anew s (addressing_of c)) w) ∙ under_present s c

-- after some events
module _ (events : List Event) (s : State) (c : Config) (w : ℕ) where
  abbrev gone : State
  gone = (ran s events).1

  then_near : EndsNear s → EndsNear (replaced gone c w).0
  unfolding state_after
  then_near f = replaced_near gone c w (near_after events s f)

  then_early : IsAtRest s → s.present ≤ last_moment → (replaced gone c w).0.present ≤ last_moment
  then_early rest early =
      subst (λ (m : ℕ). m ≤ last_moment) (sym (replaced_present gone c w)) (ran_early events s rest early)

-- facts go to other places

there_near : (s : State) (places : List ℕ) (c : Config) (apart : List ℕ) → EndsNear s
    → EndsNear (without_neighbours apart (placed_under s places c))
unfolding without_neighbours placed_under
there_near s places c apart f = record { now = f.now; ends = f.ends }

there_present : (s : State) (places : List ℕ) (c : Config) (apart : List ℕ)
    → (without_neighbours apart (placed_under s places c)).present ≡ s.present
unfolding without_neighbours placed_under
there_present s places c apart = refl

module _ (s : State) (places : List ℕ) (c : Config) (apart : List ℕ) (w : ℕ) where
  abbrev placed_so : State × List Message
  placed_so = (without_neighbours apart (placed_under s places c), [])

  moved_near : EndsNear s → EndsNear (moved s places c apart w).0
  unfolding moved
  moved_near f = settled_at (placed_under s places c) placed_so w (there_near s places c apart f)

  moved_early : s.present ≤ last_moment → (moved s places c apart w).0.present ≤ last_moment
  unfolding moved
  moved_early early =
      subst (λ (m : ℕ). m ≤ last_moment)
      (sym (ap (λ (u : Unsettled). u.present) (settling_leaves (placed_under s places c) placed_so w) ∙ there_present s places c apart))
      early

-- ---- both

module _ (s : State) (c : Config) (w : ℕ) (e : config_test c ≡ Ok tt) (f : IsFit s) where
  reload_fit : IsFit (reload s c w).0
  unfolding reload
  reload_fit = record {
    rest = reload_leaves_rest s c w e f.rest;
    early = then_early (removals s c w) s c w f.rest f.early;
    accepted = subst (λ (k : Config). config_test k ≡ Ok tt) (sym (reload_is_under s c w)) e;
    near = is_near_then (reload s c w).0 (then_near (removals s c w) s c w (ends_near s f.near));
  }

  module _ (m : Places) where
    abbrev kept : ℕ
    kept = length (kept_places m)

    abbrev order : List ℕ
    order = new_order m (length c.interfaces)

    abbrev old : Config
    old = in_order (old_order m) (config_of s)

    abbrev new : Config
    new = in_order order c

    abbrev apart : List ℕ
    apart = resubnetted kept old.interfaces new.interfaces

    abbrev first : State
    first = (moved s (to_order m) old apart w).0

    abbrev downs : List Event
    downs = map (down_event w) (range_with_len kept (length m - kept))

    abbrev next : State
    next = (gone_on first kept (length m) new w).0

    first_rests : IsAtRest first
    first_rests = moved_is_at_rest s (to_order m) old apart w (ordered_setting (old_order m) (config_of s) f.accepted) (f.rest).settled

    next_near : EndsNear next
    unfolding gone_on
    next_near = then_near downs first new w (moved_near s (to_order m) old apart w (ends_near s f.near))

    next_early : (next).present ≤ last_moment
    unfolding gone_on
    next_early = then_early downs first new w first_rests (moved_early s (to_order m) old apart w f.early)

    last_near : EndsNear (reload_by s m c w).0
    unfolding reload_by
    last_near = moved_near next order c [] w next_near

    last_early : (reload_by s m c w).0.present ≤ last_moment
    unfolding reload_by
    last_early = moved_early next order c [] w next_early

    placed_fit : IsFit (reload_by s m c w).0
    placed_fit = record {
      rest = placed_reload_leaves_rest s m c w f.accepted e f.rest;
      early = last_early;
      accepted = subst (λ (k : Config). config_test k ≡ Ok tt) (sym (placed_reload_is_under s m c w)) e;
      near = is_near_then (reload_by s m c w).0 last_near;
    }

pub reload_stays_fit : ReloadStaysFit
reload_stays_fit None s c w e f = reload_fit s c w e f
reload_stays_fit (Some places) s c w e f = placed_fit s c w e f places
