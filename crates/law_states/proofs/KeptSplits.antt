-- A split router whose plane tells of sources by `keep`: step by step it is the one that replays their packets.
use Rattle.std.{proofs.Common.{◌≡◌, Bool, cond, List, [], ◌∷◌, ℕ, refl, sym, ap, ◌∙◌, arith}}
use Rattle.pim_ip.{specs.Ipv4.Packet}
use Rattle.pim_types.{specs.declared.{event.{Event.Event, EventKind.EventKind}, outcome.Outcome.Outcome}}
use Rattle.pim_model.{specs.{Judging.Judged, State.{State, opening}, Step.{state_after, step}}}
use Rattle.law_events.{proofs.{Rest.opening_is_at_rest, RowsOfRuns.few_opening}}
use Rattle.law_plane.{specs.{Offload.Handling, Split.{Split, by_core, by_judgement, by_kind, by_plane, caught_up, nothing_sent, passes_quietly, replayed, split_ran, split_step, time_goes, whole, with_notice}, ToldLaws.no_plane_rows}, proofs.{Splits.{Follows, caught, opening_is_early, run_goes, split_router_is_sound, step_goes, whole_follows}, ToldRows.opening_is_told}}
use Rattle.law_states.{specs.Kept.{KeptIsCaughtUp, SplitRouterByKeepIsSound, Way, kept_core, kept_judgement, kept_kind, kept_plane, kept_ran, kept_step, kept_time, kept_up}, proofs.{KeptUp.kept_follows, NearEnds.{EndsNear, near_after, opening_near, step_near}}}

-- ---- a step of either leaves timers that end soon

module _ (x : Split) (e : Event) (near : EndsNear x.core) where
  abbrev LeavesNear : Split × Outcome → Type 0
  LeavesNear u = EndsNear (u.0).core

  core_near : LeavesNear (by_core x e)
  unfolding by_core
  core_near = step_near (caught_up x) e (near_after (replayed x.now x.owed) x.core near)

  notice_near : (p : Packet) (alive : Bool) → EndsNear (with_notice x e p alive).core
  unfolding with_notice
  notice_near p alive = near

  plane_near : (p : Packet) (h : Handling) → LeavesNear (by_plane x e p h)
  plane_near p h = grind (arith, notice_near, core_near)

  judged_near : (j : Judged) → LeavesNear (by_judgement x e j)
  judged_near j = grind (arith, plane_near, core_near)

  time_near : (m : ℕ) (b : Bool) → LeavesNear (cond b (record x { now = m }, nothing_sent) (by_core x e))
  time_near m b = grind (arith, core_near)

  kind_near : (kind : EventKind) → LeavesNear (by_kind x e kind)
  unfolding time_goes
  kind_near kind = grind (arith, time_near, judged_near)

  pub split_near : LeavesNear (split_step x e)
  unfolding split_step
  split_near = kind_near e.kind

-- ---- and is the same

module _ (w : Way) (x : Split) (e : Event) (alike : kept_up w x ≡ caught_up x) where
  core_same : kept_core w x e ≡ by_core x e
  unfolding kept_core by_core
  core_same = grind arith

  plane_same : (p : Packet) (h : Handling) → kept_plane w x e p h ≡ by_plane x e p h
  plane_same p h = grind (arith, core_same)

  judged_same : (j : Judged) → kept_judgement w x e j ≡ by_judgement x e j
  judged_same j = grind (arith, plane_same, core_same)

  time_same : (m : ℕ) → kept_time w x e m ≡ time_goes x e m
  unfolding kept_time time_goes
  time_same m = ap (λ (u : Split × Outcome). cond (passes_quietly x m) (record x { now = m }, nothing_sent) u) core_same

  kind_same : (kind : EventKind) → kept_kind w x e kind ≡ by_kind x e kind
  kind_same kind = grind (arith, time_same, judged_same)

  pub step_same : kept_step w x e ≡ split_step x e
  unfolding kept_step split_step
  step_same = kind_same e.kind

-- ---- events

pub same_up : (w : Way) (x : Split) (r : State) → Follows x r → EndsNear x.core → kept_up w x ≡ caught_up x
same_up w x r f near = kept_follows x r w f near ∙ sym (caught x r f)

pub ran_near : (events : List Event) (x : Split) → EndsNear x.core → EndsNear ((split_ran x events).1).core
unfolding split_ran
ran_near [] x near = near
ran_near (e ∷ es) x near = ran_near es (split_step x e).0 (split_near x e near)

ran_same : (w : Way) (events : List Event) (x : Split) (r : State) → Follows x r → EndsNear x.core
    → kept_ran w x events ≡ split_ran x events
unfolding kept_ran split_ran
ran_same w [] x r f near = refl
ran_same w (e ∷ es) x r f near =
    let first : kept_step w x e ≡ split_step x e = step_same w x e (same_up w x r f near) in
    let after : Split = (split_step x e).0 in
    let later : kept_ran w after es ≡ split_ran after es =
    ran_same w es after (step r e).state (step_goes x r f e).0 (split_near x e near) in
    ap (λ (u : Split × Outcome).
    let more : List Outcome × Split = kept_ran w u.0 es in let all : List Outcome × Split = (u.1 ∷ more.0, more.1) in all) first
    ∙ ap (λ (more : List Outcome × Split).
    let all : List Outcome × Split = ((split_step x e).1 ∷ more.0, more.1) in all) later

pub kept_is_caught_up : KeptIsCaughtUp
kept_is_caught_up c events w e =
    let x : Split = whole (opening c) no_plane_rows in
    let f : Follows x (opening c) =
    whole_follows (opening c) no_plane_rows (opening_is_at_rest c e) (opening_is_early c) (few_opening c e) (opening_is_told c) in
    same_up w (split_ran x events).1 (state_after (opening c) events) (run_goes events x (opening c) f).1
    (ran_near events x (opening_near c))

pub split_router_by_keep_is_sound : SplitRouterByKeepIsSound
split_router_by_keep_is_sound c events w e =
    let x : Split = whole (opening c) no_plane_rows in
    let f : Follows x (opening c) =
    whole_follows (opening c) no_plane_rows (opening_is_at_rest c e) (opening_is_early c) (few_opening c e) (opening_is_told c) in
    let same : kept_ran w x events ≡ split_ran x events = ran_same w events x (opening c) f (opening_near c) in
    let sound : _ = split_router_is_sound c events e in (
      ap (λ (u : List Outcome × Split). u.0) same ∙ sound.0,
      ap (λ (u : List Outcome × Split). kept_up w u.1) same ∙ (kept_is_caught_up c events w e ∙ sound.1),
    )
