-- States that a core is in and would be in: they differ in the ends of keepalive timers and in the present alone.
-- Packets that rows decide, and time that passes with nothing due, lead from one to another.
use Rattle.std.{proofs.{Common.{◌≡◌, ◌+◌, ◌≤◌, ℕ, Bool, true, false, cond, List, [], ◌∷◌, Some, nat_lt, refl, sym, ap, subst, ◌∙◌, arith}, lemmas.Bool.Decides.nat_tests}, specs.{Cmp.{first_so, second_so}, List.{AllByRecursion, list_all}}}
use Rattle.pim_ip.{specs.Ipv4.Packet}
use Rattle.pim_types.{specs.declared.{event.{Event.Event, EventKind.EventKind}, fact.Key.Key}}
use Rattle.pim_model.{specs.{Cache.{Plain, answers, cached}, Judging.last_moment, Plain.fact_key, Registers.keepalive_period, Sets.Set, State.State, Step.{Answered, ran, state_after, step}, Tables.has_row}}
use Rattle.law_settled.{specs.Laws.ends_after, proofs.ListLaws.all_more}
use Rattle.law_events.{specs.{Rest.IsAtRest, Decided.{IsDecided, kept_if, plainly_taken}}, proofs.{Rest.step_is_at_rest, KeptAlive.{no_answer_changed, with_its_row}, PlainPackets.{plain_is_stepped, plain_keeps_cache}}}
use Rattle.law_plane.{specs.{Offload.dropped, Split.{Notice, advance_to, replayed}}, proofs.{Ends.{AreLate, Ends, ends_later, kept_ended, set_end, still_there, with_ends}, Hears.data_alike, Times.{answers_later, passes, rows_later}}}

-- ---- moments

pub later_still : (m n end : ℕ) → m ≤ n → nat_lt n end ≡ true → nat_lt m end ≡ true
later_still m n end le e = grind (arith, nat_tests, le, e)

pub ahead_before : (s : State) (m n : ℕ) → m ≤ n → ends_after n s ≡ true → ends_after m s ≡ true
ahead_before s m n le e = grind (arith, all_more, later_still)

pub late_before : (f : Ends) (m n : ℕ) → m ≤ n → AreLate n f → AreLate m f
late_before f m n le late k end e = later_still m n end le (late k end e)

-- ---- notices

-- the ends that they set, a later one over an earlier one
unfoldable pub ended_by : Ends → List Notice → Ends
ended_by f [] = f
ended_by f (n ∷ ns) = ended_by (set_end f n.source (n.moment + keepalive_period)) ns

-- by moment, from one to another
abbrev pub RisesTo : ℕ → ℕ → List Notice → Type 0
RisesTo m now [] = m ≤ now
RisesTo m now (n ∷ ns) = (m ≤ n.moment) × RisesTo n.moment now ns

pub rises_to : (m now : ℕ) (ns : List Notice) → RisesTo m now ns → m ≤ now
rises_to m now [] e = e
rises_to m now (n ∷ ns) e = let rest : n.moment ≤ now = rises_to n.moment now ns e.1 in omega (arith, e.0, rest)

abbrev pub are_fresh : ℕ → List Notice → Bool
are_fresh m ns = list_all (λ (n : Notice). nat_lt m (n.moment + keepalive_period)) ns

pub late_set : (m : ℕ) (f : Ends) (k : Key) (end : ℕ) → AreLate m f → nat_lt m end ≡ true → AreLate m (set_end f k end)
late_set m f k end late e q x is = grind arith

-- ---- a core

module _ (core : State) (quiet : IsAtRest core) where
  abbrev pub end_if : Bool → Ends → Key → ℕ → Ends
  end_if b f k end = cond b (set_end f k end) f

  -- a packet that the core's rows decide as one that shows its source alive
  pub record IsOwed (n : Notice) : Type 0 where
    pub packet : Packet
    pub list : Set
    pub decides : IsDecided core n.packet packet (record { keeps = true; list = list })
    pub source : n.source ≡ fact_key packet

  -- the core's state with other ends, at another moment, and with the same rows and answers
  pub record Passed (f : Ends) (m : ℕ) (t : State) : Type 0 where
    pub rests : IsAtRest t
    pub same : t ≡ with_ends f core m
    pub rows : (g src : ℕ) → cached t g src ≡ cached core g src
    pub alike : (g src : ℕ) → answers t g src ≡ answers core g src

  module _ (f : Ends) (m : ℕ) (t : State) (is : Passed f m t) where
    -- ---- a packet

    module _ (e : Event) (p : Packet) (how : Plain) (decides : IsDecided core e p how) where
      abbrev its_key : Key
      its_key = fact_key p

      known : has_row t.sources its_key ≡ true
      known = grind (arith, still_there)

      its_row : (u : State) → has_row u.sources its_key ≡ true
          → cached u p.destination p.source ≡ Some (answers u p.destination p.source)
      unfolding cached
      its_row u there = rw there refl

      answered : answers t p.destination p.source ≡ answers core p.destination p.source
      answered = grind (arith, its_row, known)

      pub decided_now : IsDecided t e p how
      decided_now = grind (arith, data_alike, known, answered)

      pub stepped : step t e ≡ plainly_taken t p how
      stepped = plain_is_stepped t e p how is.rests decided_now

      kept_now : (b : Bool) → kept_if b t p.destination p.source
          ≡ with_ends (end_if b f its_key (m + keepalive_period)) core m
      kept_now true =
          ap (λ (u : State). kept_if true u p.destination p.source) is.same
          ∙ with_its_row its_key core.sources decides.known
          (λ r found. kept_ended f core m p.destination p.source r quiet.settled.ordered.sources found)
      kept_now false = is.same

      still_answered : (b : Bool) (h x : ℕ) → answers (kept_if b t p.destination p.source) h x ≡ answers t h x
      still_answered b h x = grind (arith, no_answer_changed, known)

      after : (step t e).state ≡ with_ends (end_if how.keeps f its_key (m + keepalive_period)) core m
      unfolding plainly_taken
      after = ap (λ (a : Answered). a.state) stepped ∙ kept_now how.keeps

      pub packet_passes : Passed (end_if how.keeps f its_key (m + keepalive_period)) m (step t e).state
      unfolding plainly_taken
      packet_passes = record {
        rests = step_is_at_rest t e is.rests;
        same = after;
        rows = λ g src. plain_keeps_cache t e p how is.rests decided_now g src ∙ is.rows g src;
        alike = λ g src.
            ap (λ (a : Answered). answers a.state g src) stepped ∙ (still_answered how.keeps g src ∙ is.alike g src);
      }

    -- ---- time

    module _ (w then : ℕ) (on : m ≤ then) (early : then ≤ last_moment) (ahead : ends_after then core ≡ true)
        (late : AreLate then f) where
      abbrev event : Event
      event = record { draw = w; kind = EventKind.Advance then }

      on_from : t.present ≤ then
      on_from = subst (λ (u : State). u.present ≤ then) (sym is.same) on

      ahead_now : ends_after then t ≡ true
      ahead_now = subst (λ (u : State). ends_after then u ≡ true) (sym is.same) (ends_later then f late core m ahead)

      pub time_stepped : step t event ≡ dropped (record t { present = then })
      time_stepped = passes t w then on_from early ahead_now

      pub time_passes : Passed f then (step t event).state
      time_passes = record {
        rests = step_is_at_rest t event is.rests;
        same = ap (λ (a : Answered). a.state) time_stepped ∙ ap (λ (u : State). record u { present = then }) is.same;
        rows = λ g src. ap (λ (a : Answered). cached a.state g src) time_stepped ∙ (rows_later t then g src ∙ is.rows g src);
        alike = λ g src.
            ap (λ (a : Answered). answers a.state g src) time_stepped ∙ (sym (answers_later t then g src) ∙ is.alike g src);
      }

  -- ---- what is owed is replayed

  module _ (now : ℕ) (early : now ≤ last_moment) (ahead : ends_after now core ≡ true) where
    pub replays : (ns : List Notice) (f : Ends) (m : ℕ) (t : State) → Passed f m t → AllByRecursion IsOwed ns
        → RisesTo m now ns → AreLate now f → are_fresh now ns ≡ true
        → Passed (ended_by f ns) now (state_after t (replayed now ns))
    unfolding state_after ran replayed ended_by
    replays [] f m t is owed rises late fresh = time_passes f m t is 0 now rises early ahead late
    replays (n ∷ ns) f m t is owed rises late fresh =
        let until : n.moment ≤ now = rises_to n.moment now ns rises.1 in
        let its : IsOwed n = owed.0 in
        let then : State = (step t (advance_to n.moment)).state in
        let at_it : Passed f n.moment then =
        time_passes f m t is 0 n.moment rises.0 (omega (arith, until, early))
        (ahead_before core n.moment now until ahead) (late_before f n.moment now until late) in
        let heard : Passed (set_end f (fact_key its.packet) (n.moment + keepalive_period)) n.moment (step then n.packet).state =
        packet_passes f n.moment then at_it n.packet its.packet (record { keeps = true; list = its.list }) its.decides in
        let heard_of : Passed (set_end f n.source (n.moment + keepalive_period)) n.moment (step then n.packet).state =
        subst (λ (k : Key). Passed (set_end f k (n.moment + keepalive_period)) n.moment (step then n.packet).state)
        (sym its.source) heard in
        replays ns (set_end f n.source (n.moment + keepalive_period)) n.moment (step then n.packet).state heard_of owed.1
        rises.1
        (late_set now f n.source (n.moment + keepalive_period) late (first_so (nat_lt now (n.moment + keepalive_period)) _ fresh))
        (second_so (nat_lt now (n.moment + keepalive_period)) _ fresh)
