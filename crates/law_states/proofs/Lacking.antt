-- A plane that lacks rows of the router's: what it handles itself it handles as one that lacks none, and all else is the
-- router's.
use Rattle.std.{proofs.Common.{◌≡◌, ◌≤◌, ℕ, Bool, true, false, not, ◌||◌, cond, List, length, Ok, Option, Some, None, nat_lt, option_map, refl, sym, ap, subst, ◌∙◌}}
use Rattle.pim_ip.{specs.Ipv4.Packet}
use Rattle.pim_types.{specs.{declared.{config.IfaceId.IfaceId, event.{Event.Event, EventKind.EventKind}, outcome.Outcome.Outcome}, Keys.source_key}}
use Rattle.pim_model.{specs.{Cache.{Answers, answers, cached}, declared.accepted.Accepted.Accepted, Full.{is_full, source_is_full}, Judging.{Judged, judged}, Limits.{config_test, most_ifaces}, State.State, Step.{outcome_of, step}, Tables.has_row}}
use Rattle.law_events.{specs.{Named.event_named, Kept.{SameDecision, is_listed}}}
use Rattle.law_states.{specs.{Reload.config_of, Anew.{AreSound, DecidesAs}, Documented.{Act, IsRight, IsTelling, act, before, event_of, given, is_for_core, judged_for_core, kind_for_core, known_then, up_to_date}, Guests.{AreHeld, HoldsOf, Plane, guest_handled, guest_judgement, guest_kind, without}, Kept.{Way, kept_core, kept_plane, kept_time}}, proofs.{Accepted.accepted_stays, DocumentedPlanes.{Went, before_few, before_rows, heard_is, tells_goes, tells_held, tells_near, the_cores, to_core_same, went}, GuestSplits.{asked_held, decide_same}, NearEnds.{EndsNear, step_near}, SoundRows.anew_sound}}
use Rattle.law_plane.{specs.{Offered.{offered, unknown_row}, Offload.{Handling, Row, decision, handled, handling, handling_unknown, is_to_core, offload, told, unknown_of}, Split.{Notice, Split, handled_at, nothing_sent, passes_quietly, with_notice}, SplitLaws.NamesEachOnce, ToldLaws.{DecideAlike, PlaneRows, told_anew}}, proofs.{Splits.{Follows, Goes}, ToldRows.{same_itself, same_through, unnamed_row_stays}}}

-- ---- with all rows of the core

abbrev pub complete : Split → Split
complete x = record x { rows = told x.core }

abbrev complete_of : Split × Outcome → Split × Outcome
complete_of u = (complete u.0, u.1)

pub completes : (x : Split) (r : State) → Follows x r → Follows (complete x) r
completes x r f = record {
  quiet = f.quiet;
  is = f.is;
  owed = f.owed;
  rises = f.rises;
  ahead = f.ahead;
  fresh = f.fresh;
  early = f.early;
  told = λ g src i low. same_itself (decision (handled (told x.core g src) i));
  few = f.few;
}

-- a plane beside its router, which is the one that is given all
pub record IsBeside (y : Plane) (r : State) : Type 0 where
  pub follows : Follows (complete y.split) r
  pub near : EndsNear (y.split).core
  pub router_near : EndsNear r
  pub apart : NamesEachOnce (y.split).owed
  pub sound : AreSound (y.split).rows (y.split).core
  pub held : AreHeld y.guests (y.split).core
  pub accepted : config_test (config_of r) ≡ Ok tt

-- ---- a packet

module _ (x : Split) (guests : PlaneRows) (sound : AreSound x.rows x.core) (held : AreHeld guests x.core) (i : IfaceId) (p : Packet) where
  abbrev g : ℕ
  g = p.destination

  abbrev src : ℕ
  src = p.source

  -- without a row of a source with a fact
  abbrev rest : Handling
  rest = handled_at (guests g src) (unknown_of x.core i p) i.number

  known_rest : has_row (x.core).sources (source_key 0 g src) ≡ true → rest ≡ Handling.ToCore
  unfolding unknown_of offered
  known_rest known = go (guests g src) (held g src)
    where
      go : (o : Option Row) → HoldsOf o (offered x.core g src)
          → handled_at o (unknown_of x.core i p) i.number ≡ Handling.ToCore
      go None h =
          ap (λ (b : Bool). cond (b || is_full x.core (Accepted.Data i p)) Handling.ToCore
          (handling_unknown (offload (answers x.core g src)) i.number)) known
      go (Some row) h =
          let same : HoldsOf (Some row) (Some (record { is_known = true; row = offload (answers x.core g src) })) =
          subst (λ (b : Bool). HoldsOf (Some row) (cond b (Some (record { is_known = true; row = offload (answers x.core g src) }))
          (cond (source_is_full x.core g src) None (Some (record { is_known = false; row = unknown_row (offload (answers x.core g src)) })))))
          known h in
          let no : false ≡ true = same.0 in absurd cc

  no_core : (h : Handling) → h ≡ Handling.ToCore → is_to_core h ≡ false → ⊥
  no_core h is out = let no : true ≡ false = sym (ap is_to_core is) ∙ out in cc

  abbrev its : Bool → Option Row
  its b = option_map offload (cond b (Some (answers x.core g src)) None)

  row_alike : nat_lt i.number most_ifaces ≡ true → (o : Option Row) → DecidesAs o (told x.core g src)
      → is_to_core (handled_at o rest i.number) ≡ false
      → SameDecision (decision (handled_at o rest i.number)) (decision (handled_at (told x.core g src) rest i.number))
  unfolding cached
  row_alike low o decides out = go (has_row (x.core).sources (source_key 0 g src)) refl o decides out
    where
      go : (b : Bool) → has_row (x.core).sources (source_key 0 g src) ≡ b → (o : Option Row) → DecidesAs o (its b)
          → is_to_core (handled_at o rest i.number) ≡ false
          → SameDecision (decision (handled_at o rest i.number)) (decision (handled_at (its b) rest i.number))
      go true known None decides out = absurd (no_core rest (known_rest known) out)
      go true known (Some row) decides out = decides i.number low
      go false known None decides out = same_itself (decision rest)
      go false known (Some row) decides out =
          let no : false ≡ true = sym out ∙ to_core_same (handling row i.number) Handling.ToCore (decides i.number low) in absurd cc

  pub packet_alike : is_to_core (guest_handled x guests i p) ≡ false
      → SameDecision (decision (guest_handled x guests i p)) (decision (guest_handled (complete x) guests i p))
  unfolding guest_handled
  packet_alike out = go (nat_lt i.number most_ifaces) refl out
    where
      go : (b : Bool) → nat_lt i.number most_ifaces ≡ b
          → is_to_core (cond b (handled_at (x.rows g src) rest i.number) Handling.ToCore) ≡ false
          → SameDecision (decision (cond b (handled_at (x.rows g src) rest i.number) Handling.ToCore))
          (decision (cond b (handled_at (told x.core g src) rest i.number) Handling.ToCore))
      go true low out = row_alike low (x.rows g src) (sound g src) out
      go false low out = let no : true ≡ false = out in absurd cc

-- ---- what the plane handles itself

module _ (w : Way) (x : Split) (few : length (x.core).configured.interfaces ≤ most_ifaces) (guests : PlaneRows)
    (sound : AreSound x.rows x.core) (held : AreHeld guests x.core) (e : Event) where
  -- as the plane with all rows, and its rows stay
  record Alike (its_own : Bool) (u v : Split × Outcome) : Type 0 where
    whose : its_own ≡ false
    same : complete_of u ≡ complete_of v
    rows : (u.0).rows ≡ x.rows
    core : (u.0).core ≡ x.core

  rows_apart : (p : Packet) (h : Handling) → complete_of (kept_plane w x e p h) ≡ complete_of (kept_plane w (complete x) e p h)
  unfolding with_notice kept_core
  rows_apart p (Handling.Forward alive list) = refl
  rows_apart p Handling.Drop = refl
  rows_apart p Handling.ToCore = refl

  rows_stay : (p : Packet) (h : Handling) → is_to_core h ≡ false
      → (((kept_plane w x e p h).0).rows ≡ x.rows) × (((kept_plane w x e p h).0).core ≡ x.core)
  unfolding with_notice
  rows_stay p (Handling.Forward alive list) out = (refl, refl)
  rows_stay p Handling.Drop out = (refl, refl)
  rows_stay p Handling.ToCore out = absurd cc

  packet_apart : (i : IfaceId) (p : Packet) → is_to_core (guest_handled x guests i p) ≡ false
      → Alike (is_to_core (guest_handled (complete x) guests i p)) (kept_plane w x e p (guest_handled x guests i p))
      (kept_plane w (complete x) e p (guest_handled (complete x) guests i p))
  packet_apart i p out =
      let h : Handling = guest_handled x guests i p in
      let k : Handling = guest_handled (complete x) guests i p in
      let alike : SameDecision (decision h) (decision k) = packet_alike x guests sound held i p out in
      let stay : _ = rows_stay p h out in
      record {
        whose = sym (to_core_same h k alike) ∙ out;
        same = rows_apart p h ∙ ap complete_of (decide_same w (complete x) few e p h k alike);
        rows = stay.0;
        core = stay.1;
      }

  judged_apart : (j : Judged) → judged_for_core x guests j ≡ false
      → Alike (judged_for_core (complete x) guests j) (guest_judgement w x guests e j) (guest_judgement w (complete x) guests e j)
  judged_apart (Ok (Accepted.Data i p)) out = packet_apart i p out
  judged_apart j out = absurd cc

  time_apart : (m : ℕ) → not (passes_quietly x m) ≡ false
      → Alike (not (passes_quietly (complete x) m)) (kept_time w x e m) (kept_time w (complete x) e m)
  unfolding kept_time passes_quietly kept_core
  time_apart m out = go (passes_quietly x m) out
    where
      go : (b : Bool) → not b ≡ false
          → Alike (not b) (cond b (record x { now = m }, nothing_sent) (kept_core w x e))
          (cond b (record (complete x) { now = m }, nothing_sent) (kept_core w (complete x) e))
      go true out = record { whose = refl; same = refl; rows = refl; core = refl }
      go false out = absurd cc

  kind_apart : (kind : EventKind) → kind_for_core x guests kind ≡ false
      → Alike (kind_for_core (complete x) guests kind) (guest_kind w x guests e kind) (guest_kind w (complete x) guests e kind)
  kind_apart (EventKind.Advance m) out = time_apart m out
  kind_apart kind out = judged_apart (judged x.core kind) out

-- ---- an event

module _ (y : Plane) (r : State) (f : IsBeside y r) (d : Act) where
  abbrev x : Split
  x = y.split

  abbrev e : Event
  e = event_of d

  abbrev guests : PlaneRows
  guests = known_then y d

  record WentOn (u : Split × Outcome) : Type 0 where
    goes : Goes r e (complete_of u)
    near : EndsNear (u.0).core
    apart : NamesEachOnce (u.0).owed
    sound : AreSound (u.0).rows (u.0).core
    held : AreHeld (without (d.turn).differs guests) (u.0).core

  held_now : AreHeld guests x.core
  held_now = asked_held (d.turn).asks x.core y.guests f.held

  completed : (v : Split × Outcome) → Goes r e v → Goes r e (complete_of v)
  completed v goes = (completes v.0 (step r e).state goes.0, goes.1)

  -- by what the plane with all rows does
  went_on : (u v : Split × Outcome) → complete_of u ≡ complete_of v → AreSound (u.0).rows (u.0).core → Went r d guests v
      → WentOn u
  went_on u v same sound w = record {
    goes = subst (λ (q : Split × Outcome). Goes r e q) (sym same) (completed v w.goes);
    near = subst (λ (q : Split × Outcome). EndsNear (q.0).core) (sym same) w.near;
    apart = subst (λ (q : Split × Outcome). NamesEachOnce (q.0).owed) (sym same) w.apart;
    sound = sound;
    held = subst (λ (q : Split × Outcome). AreHeld (without (d.turn).differs guests) (q.0).core) (sym same) w.held;
  }

  before_same : before x d ≡ before (complete x) d
  unfolding before
  before_same = refl

  given_same : complete_of (given x d) ≡ complete_of (given (complete x) d)
  unfolding given before
  given_same = refl

  right_so : IsRight x d → IsRight (complete x) d
  unfolding before
  right_so right = record {
    telling = record { all = (right.telling).all; once = (right.telling).once; rises = (right.telling).rises };
    denied = right.denied;
  }

  module _ (right : IsRight x d) where
    abbrev b : State
    b = before (complete x) d

    unnamed_alike : (g src : ℕ) → is_listed (event_named b e) g src ≡ false
        → DecideAlike (told x.core g src) (told (step b e).state g src)
    unnamed_alike g src out i low =
        same_through (decision (handled (told x.core g src) i)) (decision (handled (told b g src) i))
        (decision (handled (told (step b e).state g src) i))
        (subst (λ (o : Option Answers). SameDecision (decision (handled (told x.core g src) i)) (decision (handled (option_map offload o) i)))
        (sym (before_rows (complete x) r f.follows f.near f.apart d (right_so right) g src))
        (same_itself (decision (handled (told x.core g src) i))))
        (unnamed_row_stays b e (before_few (complete x) r f.follows f.near f.apart d (right_so right)) g src out i low)

    anew : (s : State) → before x d ≡ s → AreSound (told_anew (event_named s e) (step s e).state x.rows) (step s e).state
        → AreSound ((given x d).0).rows ((given x d).0).core
    unfolding given
    anew s is sound =
        subst (λ (q : State). AreSound (told_anew (event_named q e) (step q e).state x.rows) (step q e).state) (sym is) sound

    cores : WentOn (given x d)
    cores =
        went_on (given x d) (given (complete x) d) given_same
        (anew b before_same (anew_sound (event_named b e) x.core (step b e).state x.rows f.sound unnamed_alike))
        (the_cores (complete x) r f.follows f.near f.router_near f.apart d guests held_now (right_so right))

  planes : is_for_core x guests e ≡ false → WentOn (guest_kind d.way x guests e e.kind)
  unfolding is_for_core
  planes out =
      let apart : _ = kind_apart d.way x (f.follows).few guests f.sound held_now e e.kind out in
      let u : Split × Outcome = guest_kind d.way x guests e e.kind in
      went_on u (guest_kind d.way (complete x) guests e e.kind) apart.same
      (subst (λ (q : PlaneRows). AreSound q (u.0).core) (sym apart.rows)
      (subst (λ (s : State). AreSound x.rows s) (sym apart.core) f.sound))
      (went (complete x) r f.follows f.near f.router_near f.apart d guests held_now false apart.whose
      (λ is. let no : false ≡ true = sym apart.whose ∙ is in absurd cc))

  chosen : (c : Bool) → is_for_core x guests e ≡ c → (is_for_core x guests e ≡ true → IsRight x d)
      → WentOn (cond c (given x d) (guest_kind d.way x guests e e.kind))
  chosen true is right = cores (right is)
  chosen false is right = planes is

  pub record Acted : Type 0 where
    pub beside : IsBeside (act y d).0 (step r e).state
    pub told : (act y d).1 ≡ outcome_of (step r e)

  pub acts : (is_for_core x guests e ≡ true → IsRight x d) → Acted
  unfolding act
  acts right =
      let after : WentOn (cond (is_for_core x guests e) (given x d) (guest_kind d.way x guests e e.kind)) =
      chosen (is_for_core x guests e) refl right in
      record {
        beside = record {
          follows = (after.goes).0;
          near = after.near;
          router_near = step_near r e f.router_near;
          apart = after.apart;
          sound = after.sound;
          held = after.held;
          accepted = accepted_stays r e f.accepted;
        };
        told = (after.goes).1;
      }

-- ---- notes that are reported

module _ (y : Plane) (r : State) (f : IsBeside y r) (told : List Notice) (w : Way) (is : IsTelling y.split told w) where
  abbrev z : Split
  z = complete y.split

  telling : IsTelling z told w
  telling = record { all = is.all; once = is.once; rises = is.rises }

  pub told_is : ((up_to_date y told w).split).core ≡ r
  told_is = heard_is z r f.follows f.near f.apart told w telling

  sound_router : AreSound (y.split).rows r
  sound_router g src =
      subst (λ (o : Option Answers). DecidesAs ((y.split).rows g src) (option_map offload o))
      (sym (((f.follows).is).rows g src)) (f.sound g src)

  pub tells : IsBeside (up_to_date y told w) r
  tells = record {
    follows = completes _ r (tells_goes z r f.follows f.near f.apart told w telling);
    near = tells_near z r f.follows f.near f.apart told w telling f.router_near;
    router_near = f.router_near;
    apart = tt;
    sound = subst (λ (s : State). AreSound (y.split).rows s) (sym told_is) sound_router;
    held = tells_held z r f.follows f.near f.apart told w telling y.guests f.held;
    accepted = f.accepted;
  }
