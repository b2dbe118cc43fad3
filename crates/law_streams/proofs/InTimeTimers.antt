-- The Join timer of what is joined: who wants it, and goes on to the same next hop, has it end no later, or sends the Join.
use Rattle.std.{proofs.{Common.{◌≡◌, ◌∙◌, ℕ, ◌+◌, ◌≤◌, ◌&&◌, min, nat_lt, Bool, true, false, cond, List, [], ◌++◌, Option, option_map, Some, None, is_some, refl, sym, ap, subst, arith, eq-eqb}, lemmas.Bool.Decides.nat_tests}, specs.Option.option_map_or}
use Rattle.pim_ip.{specs.Addr.addr}
use Rattle.pim_types.{specs.{Keys.{group_in, rpt_key, same_key, source_in, source_key, star_key}, declared.{fact.{JoinTimerRow.JoinTimerRow, Key.Key}, path.Hop.Hop, upstream.{SourceView.SourceView, StarView.StarView}}}, proofs.Keys.equal_keys}
use Rattle.pim_model.{specs.{Asserts.{assert_forgotten, without_spt_bit}, Clearing.clear, Firing.settled, Messages.Message, Registers.settle_registers, State.State, Tables.{Table, has_row, row_at, set_row}, Upstream.{Cancel, Keep, LowerTo, SetTo, TimerChange, Told, changed_end, fact_keys, group_upstream, groups_of, join_period, moved_join_timer, moved_override_timer, nothing_told, periodic_end, source_stays, source_told, source_upstream, source_view, sources_of, star_stays, star_told, star_view, upstream, with_join_timer, with_override_timer}, Writing.write_all}}
use Rattle.law_settled.{proofs.{ListLaws.by_cond, RowLaws.{row_drop_away, row_put_away}, SettlingLaws.kept_by_clearing, TurnLaws.kept_in_turn, Unsettled.{Unsettled, clearing_leaves}}}
use Rattle.law_events.{proofs.JoinPrunes.{none_there, set_here}}
use Rattle.law_streams.{specs.{Timed.AreTimed, InTimeJoins.{IsRp, Join, Source, Star, is_wanted, join_key, rpf_of}}, proofs.{Leaves.same_star_view, Sources.same_source_view, Taken.apart_keys, Timers.SameTimers}}

-- a timer ends after a bound
abbrev pub is_after : ℕ → Option JoinTimerRow → Bool
is_after b o = option_map_or (λ (r : JoinTimerRow). nat_lt b r.end) o false

-- the Join timer, where it runs, ends by then
abbrev pub EndsBy : Join → ℕ → ℕ → State → Type 0
EndsBy x g b s = is_after b (row_at s.join_timers (join_key x 0 g)) ≡ false

-- a timer is never set to an end after it; one that runs isn't cancelled, and no other one is lowered
abbrev IsBefore : ℕ → Bool → TimerChange → Type 0
IsBefore b runs Keep = Unit {0}
IsBefore b runs Cancel = runs ≡ false
IsBefore b runs (SetTo e) = e ≤ b
IsBefore b runs (LowerTo e) = runs ≡ true

pub not_after : (b e : ℕ) → e ≤ b → nat_lt b e ≡ false
not_after b e le = grind (arith, nat_tests, le)

-- ---- keys apart

differ : false ≡ true → ⊥
differ e = cc e

pub star_is : (g n src : ℕ) → same_key (source_key 0 g src) (star_key 0 n) ≡ true → ⊥
star_is g n src same =
    differ (sym (ap (λ (k : Key). is_some k.source) (equal_keys (source_key 0 g src) (star_key 0 n) same)))

pub no_source : (g n src : ℕ) → same_key (star_key 0 g) (source_key 0 n src) ≡ true → ⊥
no_source g n src same =
    differ (ap (λ (k : Key). is_some k.source) (equal_keys (star_key 0 g) (source_key 0 n src) same))

-- ---- what is told

set_away : (q k : Key) → same_key q k ≡ false → (t : Table JoinTimerRow) (o : Option JoinTimerRow) → row_at (set_row t k o) q ≡ row_at t q
unfolding set_row
set_away q k off t o = grind (arith, row_drop_away, apart_keys, row_put_away)

module _ (q : Key) (b : ℕ) (runs : Bool) where
  abbrev Good : Option JoinTimerRow → Type 0
  Good o = (is_after b o ≡ false) × (runs ≡ true → is_some o ≡ true)

  abbrev By : State → Type 0
  By s = Good (row_at s.join_timers q)

  abbrev moved_row : TimerChange → Option JoinTimerRow → Option JoinTimerRow
  moved_row change o =
      option_map (λ (e : ℕ). let r : JoinTimerRow = record { end = e } in r) (changed_end change (option_map (λ (r : JoinTimerRow). r.end) o))

  -- a row as it is moved
  moved : (change : TimerChange) (o : Option JoinTimerRow) → IsBefore b runs change → Good o
      → Good (moved_row change o)
  moved Keep None f e = e
  moved Keep (Some r) f e = e
  moved Cancel o f e = (refl, λ on. absurd (differ (sym f ∙ on)))
  moved (SetTo n) o f e = (not_after b n f, λ on. refl)
  moved (LowerTo n) None f e = absurd (differ (e.1 f))
  moved (LowerTo n) (Some r) f e = (lowered r.end n e.0, λ on. refl)
    where
      lowered : (x y : ℕ) → nat_lt b x ≡ false → nat_lt b (min x y) ≡ false
      lowered x y h = grind (arith, nat_tests, h)

  timer_moved : (s : State) (k : Key) (change : TimerChange) → (same_key q k ≡ true → IsBefore b runs change)
      → By s → By (moved_join_timer s k change)
  unfolding moved_join_timer
  timer_moved s k change fair f = go (same_key q k) refl
    where
      go : (c : Bool) → same_key q k ≡ c → By (moved_join_timer s k change)
      go true same =
          subst (λ (j : Key). Good (row_at (set_row s.join_timers k (moved_row change (row_at s.join_timers k))) j)) (sym (equal_keys q k same))
          (subst Good (sym (set_here k s.join_timers (moved_row change (row_at s.join_timers k))))
          (moved change (row_at s.join_timers k) (fair same) (subst (λ (j : Key). Good (row_at s.join_timers j)) (equal_keys q k same) f)))
      go false off = subst Good (sym (set_away q k off s.join_timers (moved_row change (row_at s.join_timers k)))) f

  timer_kept : (s : State) (k : Key) (change : TimerChange) → (same_key q k ≡ true → IsBefore b runs change)
      → By s → By (with_join_timer s k change)
  unfolding with_join_timer
  timer_kept s k Keep fair f = f
  timer_kept s k Cancel fair f = timer_moved s k Cancel fair f
  timer_kept s k (SetTo e) fair f = timer_moved s k (SetTo e) fair f
  timer_kept s k (LowerTo e) fair f = timer_moved s k (LowerTo e) fair f

  override_kept : (s : State) (k : Key) (change : TimerChange) → By s → By (with_override_timer s k change)
  unfolding with_override_timer moved_override_timer
  override_kept s k Keep f = f
  override_kept s k Cancel f = f
  override_kept s k (SetTo e) f = f
  override_kept s k (LowerTo e) f = f

  module _ (o a : State) (w : ℕ)
      (stars : (n : ℕ) → same_key q (star_key 0 n) ≡ true → IsBefore b runs (star_told a w n (star_view o n) (star_view a n)).timer)
      (sources : (n src : ℕ) → same_key q (source_key 0 n src) ≡ true
      → IsBefore b runs (source_told a w n src (source_view o n src) (source_view a n src)).timer) where
    source_kept : (n : ℕ) (s : State) (src : ℕ) → By s → By (source_upstream o a w n s src).0
    unfolding source_upstream
    source_kept n s src f =
        override_kept _ (rpt_key 0 n src) _ (timer_kept s (source_key 0 n src) _ (sources n src) f)

    group_kept : (keys : List Key) (s : State) (n : ℕ) → By s → By (group_upstream o a w keys s n).0
    unfolding group_upstream
    group_kept keys s n f =
        kept_in_turn (source_upstream o a w n) By (source_kept n) (sources_of n keys) _
        (timer_kept s (star_key 0 n) _ (stars n) f)

    pub told_by : By a → By (upstream o a w).0
    unfolding upstream
    told_by f = kept_in_turn (group_upstream o a w _) By (group_kept _) (groups_of (fact_keys o ++ fact_keys a)) a f

-- what is told of it
is_told : Join → ℕ → State → State → ℕ → TimerChange
is_told (Star rp) g o a w = (star_told a w g (star_view o g) (star_view a g)).timer
is_told (Source src) g o a w = (source_told a w g src (source_view o g src) (source_view a g src)).timer

module _ (x : Join) (g b : ℕ) (runs : Bool) (o a : State) (w : ℕ) where
  abbrev GoodAt : State → Type 0
  GoodAt s = Good (join_key x 0 g) b runs (row_at s.join_timers (join_key x 0 g))

  good_so : IsBefore b runs (is_told x g o a w) → GoodAt a → GoodAt (upstream o a w).0
  unfolding is_told
  good_so = go x
    where
      go : (x : Join) → IsBefore b runs (is_told x g o a w) → Good (join_key x 0 g) b runs (row_at a.join_timers (join_key x 0 g))
          → Good (join_key x 0 g) b runs (row_at ((upstream o a w).0).join_timers (join_key x 0 g))
      go (Star rp) fair =
          told_by (star_key 0 g) b runs o a w (λ n same.
          subst (λ (y : ℕ). IsBefore b runs (star_told a w y (star_view o y) (star_view a y)).timer)
          (ap group_in (equal_keys (star_key 0 g) (star_key 0 n) same)) fair) (λ n src same. absurd (no_source g n src same))
      go (Source src) fair =
          told_by (source_key 0 g src) b runs o a w (λ n same. absurd (star_is g n src same)) (λ n y same.
          let is : source_key 0 g src ≡ source_key 0 n y = equal_keys (source_key 0 g src) (source_key 0 n y) same in
          subst (λ (m : ℕ). IsBefore b runs (source_told a w m y (source_view o m y) (source_view a m y)).timer) (ap group_in is)
          (subst (λ (z : ℕ). IsBefore b runs (source_told a w g z (source_view o g z) (source_view a g z)).timer) (ap source_in is) fair))

told_so : (x : Join) (g b : ℕ) (o a : State) (w : ℕ) → IsBefore b false (is_told x g o a w) → EndsBy x g b a
    → EndsBy x g b (upstream o a w).0
told_so x g b o a w fair by = (good_so x g b false o a w fair (by, λ on. absurd (differ on))).0

-- ---- by the views

-- the group's RP, and the next hop
pub record Towards (x : Join) (g : ℕ) (hop : Hop) (s : State) : Type 0 where
  pub rp_known : IsRp x s g
  pub upstream : rpf_of x s g ≡ Some hop

module _ (a : State) (w g rp : ℕ) (hop : Hop) (old new : StarView)
    (rp_was : old.rp ≡ Some (addr rp)) (rp_is : new.rp ≡ Some (addr rp))
    (was : old.upstream ≡ Some hop) (is : new.upstream ≡ Some hop) where
  star_keeps : old.is_desired ≡ true → new.is_desired ≡ true → (star_told a w g old new).timer ≡ Keep
  unfolding star_told star_stays
  star_keeps e f = grind (arith, eq-eqb)

star_begins : (a : State) (w g : ℕ) (old new : StarView) → old.is_desired ≡ false → new.is_desired ≡ true
    → (star_told a w g old new).timer ≡ SetTo (periodic_end a)
unfolding star_told
star_begins a w g old new e f = rw (e, f) refl

source_keeps : (a : State) (w g src : ℕ) (hop : Hop) (old new : SourceView) → old.upstream ≡ Some hop → new.upstream ≡ Some hop
    → old.is_desired ≡ true → new.is_desired ≡ true → (source_told a w g src old new).timer ≡ Keep
unfolding source_told source_stays
source_keeps a w g src hop old new was is e f = grind (arith, eq-eqb)

source_begins : (a : State) (w g src : ℕ) (old new : SourceView) → old.is_desired ≡ false → new.is_desired ≡ true
    → (source_told a w g src old new).timer ≡ SetTo (periodic_end a)
unfolding source_told
source_begins a w g src old new e f = rw (e, f) refl

-- ---- what follows of a change

module _ (o : State) (c : State × List Message) (w : ℕ) where
  abbrev a : State
  a = (clear o c.0).0

  abbrev t : State
  t = (settled o c w).0

  same_present : a.present ≡ (c.0).present
  same_present = ap (λ (u : Unsettled). u.present) (clearing_leaves o c.0)

  -- where it goes on to be wanted nothing is told
  keeps_told : (x : Join) (g : ℕ) (hop : Hop) → Towards x g hop o → Towards x g hop t → is_wanted x o g ≡ true
      → is_wanted x t g ≡ true → is_told x g o a w ≡ Keep
  unfolding is_told star_view source_view
  keeps_told x g hop from to was is = grind (arith, same_star_view, star_keeps, same_source_view, source_keeps)

  -- where it comes to be wanted the timer is set
  sets_told : (x : Join) (g : ℕ) → is_wanted x o g ≡ false → is_wanted x t g ≡ true → is_told x g o a w ≡ SetTo (periodic_end a)
  unfolding is_told star_view source_view
  sets_told x g was is = grind (arith, star_begins, same_star_view, source_begins, same_source_view)

  module _ (x : Join) (g : ℕ) where
    cleared_by : (b : ℕ) → EndsBy x g b c.0 → EndsBy x g b a
    unfolding settle_registers assert_forgotten without_spt_bit
    cleared_by b f = kept_by_clearing (EndsBy x g b) (λ u k h. h) (λ u k h. h) o c.0 f

    written_by : (b : ℕ) → EndsBy x g b (upstream o a w).0 → EndsBy x g b t
    unfolding settled write_all
    written_by b f = f

    pub goes_on_by : (hop : Hop) → Towards x g hop o → Towards x g hop t → (b : ℕ) → is_wanted x o g ≡ true
        → is_wanted x t g ≡ true → EndsBy x g b c.0 → EndsBy x g b t
    goes_on_by hop from to b was is f = grind (arith, written_by, told_so, keeps_told, cleared_by)

    pub begins_by : (b : ℕ) → is_wanted x o g ≡ false → is_wanted x t g ≡ true → (c.0).present + 60000 ≤ b
        → EndsBy x g b c.0 → EndsBy x g b t
    begins_by b was is soon f = grind (arith, written_by, told_so, sets_told, same_present, cleared_by)

-- where it isn't wanted none runs
pub timer_is : (x : Join) (s : State) (g : ℕ) → AreTimed s → has_row s.join_timers (join_key x 0 g) ≡ is_wanted x s g
timer_is x s g timed = grind arith

pub none_runs : (x : Join) (s : State) (g b : ℕ) → has_row s.join_timers (join_key x 0 g) ≡ false → EndsBy x g b s
unfolding has_row
none_runs x s g b off = ap (is_after b) (none_there (row_at s.join_timers (join_key x 0 g)) off)

pub unwanted_by : (x : Join) (s : State) (g b : ℕ) → AreTimed s → is_wanted x s g ≡ false → EndsBy x g b s
unwanted_by x s g b timed off = none_runs x s g b (timer_is x s g timed ∙ off)

-- ---- whatever the next hops are

module _ (b : ℕ) (a : State) (w g : ℕ) (soon : periodic_end a ≤ b) where
  record Tells (runs : Bool) (t : Told) : Type 0 where
    fair : IsBefore b runs t.timer

  sets : (runs : Bool) (messages : List Message) → Tells runs (record { timer = SetTo (periodic_end a); messages = messages })
  sets runs messages = record { fair = soon }

  lowers : (end : ℕ) (messages : List Message) → Tells true (record { timer = LowerTo end; messages = messages })
  lowers end messages = record { fair = refl }

  keeps : (runs : Bool) (messages : List Message) → Tells runs (record { timer = Keep; messages = messages })
  keeps runs messages = record { fair = tt }

  cancels : (messages : List Message) → Tells false (record { timer = Cancel; messages = messages })
  cancels messages = record { fair = refl }

  either : (c : Bool) (t u : Told) → Tells true t → Tells true u → Tells true (cond c t u)
  either c t u f h = by_cond (Tells true) c t u f h

  told_tells : (is was : Bool) (stays joins prunes : Told) → Tells true stays → Tells false joins → Tells false prunes
      → Tells (was && is) (cond is (cond was stays joins) (cond was prunes nothing_told))
  told_tells true true stays joins prunes f h k = f
  told_tells true false stays joins prunes f h k = h
  told_tells false true stays joins prunes f h k = k
  told_tells false false stays joins prunes f h k = keeps false []

  star_stays_tells : (old new : StarView) → Tells true (star_stays a w g old new)
  unfolding star_stays
  star_stays_tells old new = either _ _ _ (either _ _ _ (lowers _ _) (sets true _)) (either _ _ _ (keeps true _) (sets true _))

  star_tells : (old new : StarView) → Tells (old.is_desired && new.is_desired) (star_told a w g old new)
  unfolding star_told
  star_tells old new = told_tells new.is_desired old.is_desired _ _ _ (star_stays_tells old new) (sets false _) (cancels _)

  source_stays_tells : (src : ℕ) (old new : SourceView) → Tells true (source_stays a w g src old new)
  unfolding source_stays
  source_stays_tells src old new = either _ _ _ (keeps true _) (either _ _ _ (lowers _ _) (sets true _))

  source_tells : (src : ℕ) (old new : SourceView) → Tells (old.is_desired && new.is_desired) (source_told a w g src old new)
  unfolding source_told
  source_tells src old new = told_tells new.is_desired old.is_desired _ _ _ (source_stays_tells src old new) (sets false _) (cancels _)

  -- what is told of it
  join_tells : (x : Join) (o : State) → IsBefore b (is_wanted x o g && is_wanted x a g) (is_told x g o a w)
  unfolding is_told star_view source_view
  join_tells (Star rp) o = (star_tells (star_view o g) (star_view a g)).fair
  join_tells (Source src) o = (source_tells src (source_view o g src) (source_view a g src)).fair

first_of_both : (p q : Bool) → (p && q) ≡ true → p ≡ true
first_of_both p q e = grind (arith, e)

-- after an event's change the Join timer ends no later than a period from now, or than it did before
module _ (x : Join) (g b : ℕ) (o : State) (c : State × List Message) (w : ℕ) (timed : AreTimed o) (same : SameTimers o c.0)
    (soon : (c.0).present + join_period ≤ b) (by : EndsBy x g b c.0) where
  abbrev then : State
  then = (clear o c.0).0

  cleared_same : (then).join_timers ≡ (c.0).join_timers
  unfolding settle_registers assert_forgotten without_spt_bit
  cleared_same = kept_by_clearing (λ u. u.join_timers ≡ (c.0).join_timers) (λ u k f. f) (λ u k f. f) o c.0 refl

  runs_then : (is_wanted x o g && is_wanted x then g) ≡ true → is_some (row_at (then).join_timers (join_key x 0 g)) ≡ true
  unfolding has_row
  runs_then on =
      ap (λ (t : Table JoinTimerRow). is_some (row_at t (join_key x 0 g))) cleared_same
      ∙ (same (join_key x 0 g) ∙ (timer_is x o g timed ∙ first_of_both _ _ on))

  soon_then : periodic_end then ≤ b
  soon_then = subst (λ (p : ℕ). p + join_period ≤ b) (sym (same_present o c w)) soon

  pub stays_by : EndsBy x g b (settled o c w).0
  stays_by =
      written_by o c w x g b
      (good_so x g b (is_wanted x o g && is_wanted x then g) o then w (join_tells b then w g soon_then x o)
      (ap (λ (t : Table JoinTimerRow). is_after b (row_at t (join_key x 0 g))) cleared_same ∙ by, runs_then)).0
