-- A plane stays sound over reloads and restores, whatever rows it holds.
use Rattle.std.{proofs.{Common.{◌≡◌, ◌≤◌, ℕ, zero, suc, ◌<◌, nat_lt, Bool, true, false, cond, List, [], ◌∷◌, ◌++◌, Ok, Option, Some, None, is_some, length, refl, sym, ap, subst, ◌∙◌, arith}, lemmas.{Bool.Decides.nat_tests, List.Sorted.IsPermutation-refl}}, specs.{List.AllByRecursion, Prelude.{slice_get, unwrap_or}}}
use Rattle.pim_types.{specs.declared.{config.Config.Config, outcome.Outcome.Outcome}}
use Rattle.pim_model.{specs.{Judging.last_moment, Limits.config_test, State.{State, opening}, Step.{ran, run, state_after}}}
use Rattle.law_events.{proofs.Rest.opening_is_at_rest}
use Rattle.law_settled.{proofs.Accepted.few_interfaces}
use Rattle.law_states.{specs.{Reload.config_of, Anew.{Alone, AreGiven, AreRightStages, AreSound, DocumentedPlaneStaysSound, Given, IsFit, IsRightReload, IsRightStage, PlainStagesAreRight, Reload, SendsAsAlone, SoundPlaneStaysSound, Stage, Standing, after_reload, alone_stage, alone_staged, before_reload, beside, new_beside, plain_stage, plain_stages, put_under, reload_of, reload_outcome, stage, staged, with_less, with_read}, Documented.{AreRight, Doing, IsTelling, acted, up_to_date}, Guests.{AreHeld, HoldsOf, Plane, without}, Kept.Way}, proofs.{Accepted.saved_is_accepted, DocumentedPlanes.{any_way, rise_so}, GuestSplits.{asked_held, held_through, none_held}, KeptUp.kept_follows, Lacking.{Acted, IsBeside, acts, complete, told_is, tells}, NearEnds.opening_near, SoundRows.{ends_near, is_near_then, less_held, less_sound, read_sound, reload_restores_rows, reload_stays_fit}}}
use Rattle.law_plane.{specs.{Offload.{decision, handled, told}, Offered.offered, Split.{Notice, Split, whole}, ToldLaws.{PlaneRows, no_plane_rows}}, proofs.{Splits.{Follows, opening_is_early, whole_follows}, ToldRows.same_itself}}

-- ---- beside a state

whole_beside : (s : State) (rows guests : PlaneRows) → IsFit s → AreSound rows s → AreHeld guests s
    → IsBeside (record { split = whole s rows; guests = guests }) s
unfolding config_of
whole_beside s rows guests fit sound held = record {
  follows = whole_follows s (told s) fit.rest fit.early (few_interfaces (config_of s) fit.accepted) (λ g src i low. same_itself (decision (handled (told s g src) i)));
  near = ends_near s fit.near;
  router_near = ends_near s fit.near;
  apart = tt;
  sound = sound;
  held = held;
  accepted = fit.accepted;
}

none_sound : (s : State) → AreSound no_plane_rows s
none_sound s g src = tt

reads : (asks : ℕ → ℕ → Bool) (y : Plane) (r : State) → IsBeside y r → IsBeside (with_read asks y) r
reads asks y r f = record {
  follows = f.follows;
  near = f.near;
  router_near = f.router_near;
  apart = f.apart;
  sound = read_sound asks (y.split).core (y.split).rows f.sound;
  held = asked_held asks (y.split).core y.guests f.held;
  accepted = f.accepted;
}

drops : (which : ℕ → ℕ → Bool) (y : Plane) (r : State) → IsBeside y r → IsBeside (with_less which y) r
drops which y r f = record {
  follows = f.follows;
  near = f.near;
  router_near = f.router_near;
  apart = f.apart;
  sound = less_sound which (y.split).core (y.split).rows f.sound;
  held = less_held which (y.split).core y.guests f.held;
  accepted = f.accepted;
}

made_beside : (asks : ℕ → ℕ → Bool) (s : State) → IsFit s → IsBeside (beside asks s) s
made_beside asks s fit =
    reads asks (record { split = whole s no_plane_rows; guests = no_plane_rows }) s
    (whole_beside s no_plane_rows no_plane_rows fit (none_sound s) (none_held s))

-- ---- the state in which the plane leaves its router when it has reported its notes

module _ (y : Plane) (r : State) (f : IsBeside y r) (told : List Notice) (w : Way) (is : IsTelling y.split told w) where
  abbrev at : Plane
  at = up_to_date y told w

  told_fit : IsFit r
  told_fit =
      let after : IsBeside at r = tells y r f told w is in
      let g : Follows (complete (at).split) r = after.follows in
      subst IsFit (told_is y r f told w is) (record {
        rest = g.quiet;
        early = less (((at).split).core).present ((at).split).now g.rises g.early;
        accepted = subst (λ (s : State). config_test (config_of s) ≡ Ok tt) (sym (told_is y r f told w is)) f.accepted;
        near = is_near_then ((at).split).core after.near;
      })
    where
      less : (a b : ℕ) → a ≤ b → b ≤ last_moment → a ≤ last_moment
      less a b e f = omega (arith, e, f)

-- ---- another configuration

module _ (y : Plane) (r : State) (f : IsBeside y r) (l : Reload) (right : IsRightReload y l) where
  abbrev until : State
  until = before_reload y l

  until_is : until ≡ r
  until_is = told_is y r f l.told l.way right.telling

  abbrev then : State
  then = after_reload y l

  then_is : then ≡ (reload_of l.places r l.config l.draw).0
  then_is = ap (λ (s : State). (reload_of l.places s l.config l.draw).0) until_is

  then_fit : IsFit then
  then_fit =
      reload_stays_fit l.places until l.config l.draw right.accepted
      (subst IsFit (sym until_is) (told_fit y r f l.told l.way right.telling))

  now_beside : IsBeside (up_to_date y l.told l.way) r
  now_beside = tells y r f l.told l.way right.telling

  denied_held : AreHeld (without l.differs y.guests) then
  denied_held g src = go (l.differs g src) refl
    where
      go : (b : Bool) → l.differs g src ≡ b → HoldsOf (cond b None (y.guests g src)) (offered then g src)
      go true is = tt
      go false is =
          held_through (y.guests g src) (offered until g src) (offered then g src) ((now_beside).held g src) (right.denied g src is)

  reloads : IsBeside (put_under y l) (reload_of l.places r l.config l.draw).0
  reloads =
      subst (λ (s : State). IsBeside (put_under y l) s) then_is
      (whole_beside then _ (without l.differs y.guests) then_fit
      (reload_restores_rows l.places until l.config l.draw (y.split).rows l.changed (now_beside).sound right.all) denied_held)

  sends_same : reload_outcome (reload_of l.places until l.config l.draw).1 ≡ reload_outcome (reload_of l.places r l.config l.draw).1
  sends_same = ap (λ (s : State). reload_outcome (reload_of l.places s l.config l.draw).1) until_is

-- ---- saved states

picked : (xs : List State) (n : ℕ) (s : State) → AllByRecursion IsFit xs → is_some (slice_get xs n) ≡ true
    → IsFit (unwrap_or (slice_get xs n) s)
picked [] n s f there = absurd cc
picked (x ∷ xs) zero s f there = f.0
picked (x ∷ xs) (suc n) s f there = picked xs n s f.1 there

either_way : (o : Option State) (s t : State) → is_some o ≡ true → unwrap_or o s ≡ unwrap_or o t
either_way None s t there = absurd cc
either_way (Some x) s t there = refl

-- ---- stages

record Stands (z : Standing) (r : Alone) : Type 0 where
  beside : IsBeside z.plane r.state
  same : z.saved ≡ r.saved
  fit : AllByRecursion IsFit z.saved

record Stood (u : List Outcome × Standing) (v : List Outcome × Alone) : Type 0 where
  told : u.0 ≡ v.0
  stands : Stands u.1 v.1

does : (z : Standing) (r : Alone) (d : Doing) → Stands z r → AreRight z.plane (d ∷ [])
    → Stood (stage z (Stage.Does d)) (alone_stage r (Stage.Does d))
unfolding stage alone_stage acted run state_after ran
does z r (Doing.Takes d) f right =
    let after : Acted z.plane r.state f.beside d = acts z.plane r.state f.beside d right.0 in
    record {
      told = ap (λ (o : Outcome). o ∷ []) after.told;
      stands = record { beside = after.beside; same = f.same; fit = f.fit };
    }
does z r (Doing.Tells told w) f right = record {
  told = refl;
  stands = record { beside = tells z.plane r.state f.beside told w right.0; same = f.same; fit = f.fit };
}

stands_on : (z : Standing) (r : Alone) (a : Stage) → Stands z r → IsRightStage z a → Stood (stage z a) (alone_stage r a)
unfolding stage alone_stage
stands_on z r (Stage.Does d) f right = does z r d f right
stands_on z r (Stage.Reads asks) f right = record {
  told = refl;
  stands = record { beside = reads asks z.plane r.state f.beside; same = f.same; fit = f.fit };
}
stands_on z r (Stage.Drops which) f right = record {
  told = refl;
  stands = record { beside = drops which z.plane r.state f.beside; same = f.same; fit = f.fit };
}
stands_on z r (Stage.Reloads l) f right = record {
  told = ap (λ (o : Outcome). o ∷ []) (sends_same z.plane r.state f.beside l right);
  stands = record { beside = reloads z.plane r.state f.beside l right; same = f.same; fit = f.fit };
}
stands_on z r (Stage.Saves told w) f right =
    let is : ((up_to_date z.plane told w).split).core ≡ r.state = told_is z.plane r.state f.beside told w right in
    record {
      told = refl;
      stands = record {
        beside = tells z.plane r.state f.beside told w right;
        same = λ j. is j ∷ f.same j;
        fit = (subst IsFit (sym is) (told_fit z.plane r.state f.beside told w right), f.fit);
      };
    }
stands_on z r (Stage.Restores n asks) f right =
    let s : State = unwrap_or (slice_get z.saved n) ((z.plane).split).core in
    let fit : IsFit s = picked z.saved n ((z.plane).split).core f.fit right in
    let same : s ≡ unwrap_or (slice_get r.saved n) r.state =
    either_way (slice_get z.saved n) ((z.plane).split).core r.state right
    ∙ ap (λ (xs : List State). unwrap_or (slice_get xs n) r.state) f.same in
    record {
      told = refl;
      stands = record {
        beside = subst (λ (t : State). IsBeside (beside asks s) t) same (made_beside asks s fit);
        same = f.same;
        fit = f.fit;
      };
    }

all_stand : (stages : List Stage) (z : Standing) (r : Alone) → Stands z r → AreRightStages z stages
    → Stood (staged z stages) (alone_staged r stages)
unfolding staged alone_staged
all_stand [] z r f right = record { told = refl; stands = f }
all_stand (a ∷ later) z r f right =
    let first : Stood (stage z a) (alone_stage r a) = stands_on z r a f right.0 in
    let rest : Stood (staged (stage z a).1 later) (alone_staged (alone_stage r a).1 later) =
    all_stand later (stage z a).1 (alone_stage r a).1 first.stands right.1 in
    record { told = λ j. first.told j ++ rest.told j; stands = rest.stands }

sends : (stages : List Stage) (w : Way) (z : Standing) (r : Alone) → Stands z r → AreRightStages z stages
    → SendsAsAlone z r stages w
sends stages w z r f right =
    let all : Stood (staged z stages) (alone_staged r stages) = all_stand stages z r f right in
    let end : IsBeside (((staged z stages).1).plane) ((alone_staged r stages).1).state = (all.stands).beside in
    (all.told, kept_follows (complete (((staged z stages).1).plane).split) ((alone_staged r stages).1).state w end.follows end.near)

pub sound_plane_stays_sound : SoundPlaneStaysSound
sound_plane_stays_sound s rows guests saved stages w fit sound held all right =
    sends stages w (record { plane = record { split = whole s rows; guests = guests }; saved = saved })
    (record { state = s; saved = saved })
    (record { beside = whole_beside s rows guests fit sound held; same = refl; fit = all }) right

opening_fit : (c : Config) → config_test c ≡ Ok tt → IsFit (opening c)
unfolding state_after ran
opening_fit c e = record {
  rest = opening_is_at_rest c e;
  early = opening_is_early c;
  accepted = saved_is_accepted c [] e;
  near = is_near_then (opening c) (opening_near c);
}

pub documented_plane_stays_sound : DocumentedPlaneStaysSound
documented_plane_stays_sound c stages w e right =
    sound_plane_stays_sound (opening c) no_plane_rows no_plane_rows [] stages w (opening_fit c e) (none_sound (opening c))
    (none_held (opening c)) tt right

-- ---- any course is one of such a plane

self : (a : ℕ) → a ≤ a
self a = omega arith

plain_telling : (y : Plane) (r : State) → IsBeside y r → IsTelling y.split (y.split).owed any_way
plain_telling y r f =
    let x : Split = y.split in
    record {
      all = IsPermutation-refl x.owed;
      once = f.apart;
      rises = rise_so x.core x.now (x.core).present (x.core).present x.owed (self (x.core).present) (f.follows).rises;
    }

there_so : (xs : List State) (n saves : ℕ) → length xs ≡ saves → nat_lt n saves ≡ true → is_some (slice_get xs n) ≡ true
there_so xs n saves long low = go xs n (less (length xs) long)
  where
    less : (k : ℕ) → k ≡ saves → n < k
    less k e = grind (arith, nat_tests, e, low)

    go : (xs : List State) (n : ℕ) → n < length xs → is_some (slice_get xs n) ≡ true
    go [] n lt = absurd (omega (arith, lt))
    go (x ∷ xs) zero lt = refl
    go (x ∷ xs) (suc n) lt = go xs n (omega (arith, lt))

abbrev GoesPlainly : List Given → Type 0
GoesPlainly given = (z : Standing) (r : Alone) (saves : ℕ) → Stands z r → length z.saved ≡ saves → AreGiven saves given
    → AreRightStages z (plain_stages z given)

plain_on : (a : Given) (later : List Given) → GoesPlainly later → (z : Standing) (r : Alone) (saves : ℕ) → Stands z r
    → IsRightStage z (plain_stage z a) → length ((stage z (plain_stage z a)).1).saved ≡ saves → AreGiven saves later
    → AreRightStages z (plain_stages z (a ∷ later))
unfolding plain_stages
plain_on a later next z r saves f right long given =
    let after : Stood (stage z (plain_stage z a)) (alone_stage r (plain_stage z a)) = stands_on z r (plain_stage z a) f right in
    (right, next (stage z (plain_stage z a)).1 (alone_stage r (plain_stage z a)).1 saves after.stands long given)

plain_go : (given : List Given) → GoesPlainly given
unfolding plain_stages stage
plain_go [] z r saves f long given = tt
plain_go (Given.Happening e ∷ later) z r saves f long given =
    plain_on (Given.Happening e) later (plain_go later) z r saves f
    (λ is. record { telling = plain_telling z.plane r.state f.beside; denied = λ g src no. absurd cc }, tt) long given
plain_go (Given.Another places c w ∷ later) z r saves f long given =
    plain_on (Given.Another places c w) later (plain_go later) z r saves f (record {
      accepted = given.0;
      telling = plain_telling z.plane r.state f.beside;
      all = λ g src there. refl;
      denied = λ g src no. absurd cc;
    }) long given.1
plain_go (Given.Saved ∷ later) z r saves f long given =
    plain_on Given.Saved later (plain_go later) z r (suc saves) f (plain_telling z.plane r.state f.beside) (ap suc long) given
plain_go (Given.Again n ∷ later) z r saves f long given =
    plain_on (Given.Again n) later (plain_go later) z r saves f (there_so z.saved n saves long given.0) long given.1

pub plain_stages_are_right : PlainStagesAreRight
plain_stages_are_right c given e are =
    plain_go given (new_beside c) (record { state = opening c; saved = [] }) 0
    (record {
      beside = whole_beside (opening c) no_plane_rows no_plane_rows (opening_fit c e) (none_sound (opening c)) (none_held (opening c));
      same = refl;
      fit = tt;
    }) refl are
