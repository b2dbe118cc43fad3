-- Which rows of the cache are made anew after a change, and that all rows are those of the state then.
use Rattle.std.{proofs.{Common.{◌≡◌, ◌≤◌, ◌+◌, ◌*◌, ℕ, false, List, Ok, length, refl, ap, subst, sym, ◌∙◌, arith}, lemmas.List.length-map}}
use Rattle.pim_types.{specs.declared.{fact.Key.Key, name.SourceGroup.SourceGroup}}
use Rattle.pim_trie.{specs.Meter.raised}
use Rattle.pim_model.{specs.{Cache.cached, Clearing.clear, declared.accepted.Accepted.Accepted, Firing.fire_once, Full.is_full, Reach.{own_firing, told_all, where_accepted}, State.{InterfaceTable, State, interfaces_of}, Step.{change, done, taken}, Tables.Table, Timers.Ending}}
use Rattle.law_events.{specs.{Locality.IsQuiet, Named.{named_by, named_of}, Kept.refreshed}}
use Rattle.pim_macros.{specs.declared.rows.SourceAnswers.SourceAnswers}
use Rattle.pim_mfc.{specs.Laws.ShowsRows}
use Rattle.pim_views.{specs.{Openings.opening_of, declared.opening.GroupOpening.GroupOpening}}
use Rattle.pim_store.{specs.PimTables.{AreKeyed, pim_tables}}
use Rattle.pim_state.{specs.declared.touched.Touched.Touched}
use Rattle.pim_fanout.{specs.{Before.IsBefore, Contains.Contains, Laws.names_of, Refreshing.{Refreshes, touches_in}, Named.{keys_of, named_among}, declared.before.SourceBefore.SourceBefore}, proofs.{Counts.costs_few, Few.names_are_few, Shown.{event_shows_rows, firing_shows_rows, present_shows_rows}}}
use Rattle.pim_settling.{specs.Settling.{AreNamed, AreNames, cleared_by}, proofs.Settling.cleared_as_opened}
use Rattle.pim_event.{proofs.Taking.taken_is_done}

-- ---- the names

-- what is named where all is cleared by what was opened
pub names_opened : (o changed a : State) (touched : Touched) (opening : List GroupOpening) (before : List SourceBefore)
    (names : List Key) → IsQuiet o → AreKeyed (pim_tables a) → Contains touched o changed → a ≡ changed
    → opening ≡ opening_of o touched → IsBefore o touched before → AreNamed before (cleared_by opening a).0 names
    → AreNames o changed touched names
names_opened o changed a touched opening before names quiet keyed covers is opens befores named = record {
  covers = covers;
  are = named o touched befores
      ∙ ap (λ (vs : List GroupOpening). named_among o (cleared_by vs a).0 touched) opens
      ∙ ap (λ (t : State). named_among o (cleared_by (opening_of o touched) t).0 touched) is
      ∙ ap (λ (t : State). named_among o t touched)
      (sym (cleared_as_opened o changed quiet (subst (λ (t : State). AreKeyed (pim_tables t)) is keyed) touched covers));
}

-- they are few
few_of : (o changed : State) (touched : Touched) (names : List SourceGroup) → AreNames o changed touched (keys_of names)
    → length names ≤ length (named_by o changed)
few_of o changed touched names are =
    let here : length (keys_of names) ≤ length (named_by o changed) =
    subst (λ (ks : List Key). length ks ≤ length (named_by o changed)) (sym are.are)
    (names_are_few o changed touched) in
    let same : length (keys_of names) ≡ length names = length-map names _ in
    omega (arith, here, same)

-- their rows, and no others, are touched
pub touches_named : (o changed t : State) (touched : Touched) (names : List SourceGroup) (old new : ℕ)
    → AreNames o changed touched (keys_of names) → new ≡ raised old (touches_in t (keys_of names))
    → new ≡ raised old (touches_in t (names_of o changed touched))
touches_named o changed t touched names old new are costs =
    costs ∙ ap (λ (ks : List Key). raised old (touches_in t ks)) are.are

-- ---- after an event

pub named_timeless : (s : State) (w : ℕ) (a : Accepted) → ((m : ℕ) → ¬ (a ≡ Accepted.Advance m))
    → named_of s w a ≡ named_by s (change s w a).state
unfolding named_of
named_timeless s w (Accepted.Up i) timeless = refl
named_timeless s w (Accepted.Down i) timeless = refl
named_timeless s w (Accepted.Hello i from h) timeless = refl
named_timeless s w (Accepted.JoinPruneToMe i m) timeless = refl
named_timeless s w (Accepted.Advance moment) timeless = absurd (timeless moment refl)
named_timeless s w a timeless = refl

module _ (s : State) (w : ℕ) (a : Accepted) (timeless : (m : ℕ) → ¬ (a ≡ Accepted.Advance m)) (touched : Touched)
    (names : List SourceGroup) (are : AreNames s (change s w a).state touched (keys_of names)) where
  pub rows_after : (t : State) (old new : Table SourceAnswers) (lent : InterfaceTable)
      → IsQuiet s → lent ≡ interfaces_of s → length lent.configured.interfaces ≤ 120 → t ≡ (taken s w a).state
      → Refreshes (keys_of names) t old new → ShowsRows old (cached s) → ShowsRows new (cached t)
  rows_after t old new lent quiet lends few is refreshes shows =
      let same : t ≡ (done s w (change s w a)).state = is ∙ ap (λ x. x.state) (taken_is_done s w a timeless) in
      let within : length s.configured.interfaces ≤ 120 = subst (λ (x : InterfaceTable). length x.configured.interfaces ≤ 120) lends few in
      subst (λ (u : State). ShowsRows new (cached u)) (sym same)
      (event_shows_rows s quiet within w a touched are.covers new
      (subst (λ (u : State). ShowsRows new (refreshed (named_among s (clear s (change s w a).state).0 touched) u (cached s)))
      same
      (subst (λ (ks : List Key). ShowsRows new (refreshed ks t (cached s))) are.are (refreshes (cached s) shows))))

  pub cost_after : (t : State) (old new : ℕ) → new ≡ raised old (touches_in t (keys_of names))
      → new ≤ old + 2 * length (named_of s w a)
  cost_after t old new costs =
      let most : new ≤ old + 2 * length names = costs_few t names old new costs in
      let few : length names ≤ length (named_by s (change s w a).state) =
      few_of s (change s w a).state touched names are in
      let same : length (named_by s (change s w a).state) ≡ length (named_of s w a) =
      ap (λ (ks : List Key). length ks) (sym (named_timeless s w a timeless)) in
      omega (arith, most, few, same)

-- ---- after the expiry of a timer

module _ (s : State) (w : ℕ) (e : Ending) (touched : Touched) (names : List SourceGroup)
    (are : AreNames s (own_firing s e) touched (keys_of names)) where
  pub rows_fired : (t : State) (old new : Table SourceAnswers) (lent : InterfaceTable)
      → IsQuiet s → lent ≡ interfaces_of s → length lent.configured.interfaces ≤ 120 → t ≡ (fire_once w s e).0
      → Refreshes (keys_of names) t old new → ShowsRows old (cached s) → ShowsRows new (cached t)
  rows_fired t old new lent quiet lends few is refreshes shows =
      let within : length s.configured.interfaces ≤ 120 = subst (λ (x : InterfaceTable). length x.configured.interfaces ≤ 120) lends few in
      subst (λ (u : State). ShowsRows new (cached u)) (sym is)
      (firing_shows_rows s quiet within w e touched are.covers new
      (subst (λ (u : State). ShowsRows new (refreshed (named_among s (clear s (own_firing s e)).0 touched) u (cached s))) is
      (subst (λ (ks : List Key). ShowsRows new (refreshed ks t (cached s))) are.are (refreshes (cached s) shows))))

  pub cost_fired : (t : State) (old new : ℕ) → new ≡ raised old (touches_in t (keys_of names))
      → new ≤ old + 2 * length (named_by s (own_firing s e))
  cost_fired t old new costs =
      let most : new ≤ old + 2 * length names = costs_few t names old new costs in
      let few : length names ≤ length (named_by s (own_firing s e)) = few_of s (own_firing s e) touched names are in
      omega (arith, most, few)

-- where the present alone moves
pub rows_present : (s t : State) (m : ℕ) (rows : Table SourceAnswers) (lent : InterfaceTable)
    → lent ≡ interfaces_of s → length lent.configured.interfaces ≤ 120 → t ≡ record s { present = m }
    → ShowsRows rows (cached s) → ShowsRows rows (cached t)
rows_present s t m rows lent lends few is shows =
    let within : length s.configured.interfaces ≤ 120 = subst (λ (x : InterfaceTable). length x.configured.interfaces ≤ 120) lends few in
    subst (λ (u : State). ShowsRows rows (cached u)) (sym is) (present_shows_rows s m within rows shows)

-- ---- what is named of what was accepted

pub named_in_time : (s : State) (w : ℕ) (a : Accepted) (m : ℕ) → a ≡ Accepted.Advance m
    → (told_all named_by w m s).1 ≡ where_accepted s (named_of s w) (Ok a)
unfolding is_full named_of
named_in_time s w a m is = rw is refl

pub named_with_room : (s : State) (w : ℕ) (a : Accepted) → is_full s a ≡ false
    → named_of s w a ≡ where_accepted s (named_of s w) (Ok a)
named_with_room s w a room = rw room refl
