-- Each event at the lower router has its Join timer end no later, or sends a Join.
use Rattle.std.{proofs.{Common.{◌≡◌, ℕ, ◌+◌, ◌-◌, ◌≤◌, Bool, true, false, List, ◌++◌, ◌⊎◌, inl, inr, length, Ok, Option, Some, refl, subst, arith}, lemmas.{Bool.both_ways, List.Elements.{Contains-append_left, Contains-append_right}}}}
use Rattle.pim_types.{specs.declared.{event.Event.Event, outcome.Emission.Emission, path.Hop.Hop}}
use Rattle.pim_model.{specs.{declared.accepted.Accepted.Accepted, Cause.done_as, Firing.{fire_all, fire_instant, fire_once}, Full.is_full, Judging.{Judged, judged}, Neighbours.nbr, State.{State, my_address}, Step.{Answered, advanced, change, concluded, done, step, taken, taken_unless_full}, Tables.has_row, Timers.{Ending, next_due, timers}}}
use Rattle.law_settled.{proofs.{FiringLaws.next_is_due, UnchangedLaws.full_or_taken, SettledStates.settled_is_lawful}}
use Rattle.law_events.{specs.Rest.IsAtRest}
use Rattle.law_streams.{specs.{Copies.happens, Timed.AreTimed, InTimeJoins.{IsRp, Join, is_lost_at, is_suppressed, is_wanted, way_to}}, proofs.{Passes.done_if, Ways.ground_itself, InTimeChanges.change_by, Raised.change_raised, Firings.{Base, SendsJoin, base_then, fewer, goes_so, hop_key, is_there, turn}, InTimeTimers.{EndsBy, Towards, goes_on_by}, Turns.to_the_end}}

-- ---- time

module _ (join : Join) (g m from : ℕ) (hop : Hop) (b : State) (own : my_address b hop.iface.number ≡ from)
    (rp_known : IsRp join b g) (next : nbr b (way_to join b g) ≡ Some hop) where
  abbrev Based : State → Type 0
  Based t = Base join g m from hop b own rp_known next t

  abbrev Sends : List Emission → Type 0
  Sends es = SendsJoin join g from hop es

  abbrev there : State → Bool
  there t = has_row t.neighbours (hop_key hop)

  -- the next hop is gone, or the timer ends by a timestamp
  pub record Ends (y : ℕ) (t : State) : Type 0 where
    pub base : Based t
    pub ends : (there t ≡ false) ⊎ EndsBy join g y t

  abbrev last : ℕ
  last = m + 60000

  abbrev Turned : ℕ → State × List Emission → Type 0
  Turned x p = Ends x p.0 ⊎ (Sends p.1 × Ends last p.0)

  module _ (w : ℕ) (t : State) (d : Ending) (low : d.end ≤ m) where
    once_turns : (x : ℕ) → Ends x t → Turned x (fire_once w t d)
    once_turns x f = go (there (fire_once w t d).0) refl f.ends
      where
        after : Based (fire_once w t d).0
        after = base_then join g m from hop b own rp_known next w t d f.base

        turned : (((y : ℕ) → EndsBy join g y t → EndsBy join g y (fire_once w t d).0) ⊎ (Sends (fire_once w t d).1 × EndsBy join g last (fire_once w t d).0))
            → EndsBy join g x t → Turned x (fire_once w t d)
        turned (inl stays) by = inl (record { base = after; ends = inr (stays x by) })
        turned (inr (has, by)) old = inr (has, record { base = after; ends = inr by })

        go : (q : Bool) → there (fire_once w t d).0 ≡ q → (there t ≡ false) ⊎ EndsBy join g x t → Turned x (fire_once w t d)
        go false gone e = inl (record { base = after; ends = inl gone })
        go true here (inl gone) =
            absurd (both_ways (there t) gone (fewer join g m from hop b own rp_known next w t d f.base here))
        go true here (inr by) =
            turned (turn join g m from hop b own rp_known next w t d f.base low
            (fewer join g m from hop b own rp_known next w t d f.base here) here) by

    once_stays : Ends last t → Ends last (fire_once w t d).0
    once_stays f = go (once_turns last f)
      where
        go : Turned last (fire_once w t d) → Ends last (fire_once w t d).0
        go (inl g) = g
        go (inr (has, g)) = g

  first : (xs ys : List Emission) → Sends xs → Sends (xs ++ ys)
  first xs ys f = record { pruned = f.pruned; is_sent = Contains-append_left xs ys _ f.is_sent }

  second : (xs ys : List Emission) → Sends ys → Sends (xs ++ ys)
  second xs ys f = record { pruned = f.pruned; is_sent = Contains-append_right xs ys _ f.is_sent }

  in_time : (a c : ℕ) → a ≤ c → c ≤ m → a ≤ m
  in_time a c e f = omega (arith, e, f)

  module _ (w : ℕ) where
    instant_turns : (t : State) (e : Ending) → e.end ≤ m → (x : ℕ) → Ends x t → Turned x (fire_instant w t e)
    unfolding fire_instant
    instant_turns t e low x f =
        to_the_end (next_due e.end) (fire_once w) Sends (Ends x) (Ends last) first second
        (λ u d there h. once_turns w u d (in_time d.end e.end (next_is_due e.end u d there) low) x h)
        (λ u d h there. once_stays w u d (in_time d.end e.end (next_is_due e.end u d there) low) h) (length (timers t) + 1) t f

    instant_stays : (t : State) (e : Ending) → e.end ≤ m → Ends last t → Ends last (fire_instant w t e).0
    instant_stays t e low f = go (instant_turns t e low last f)
      where
        go : Turned last (fire_instant w t e) → Ends last (fire_instant w t e).0
        go (inl g) = g
        go (inr (has, g)) = g

    all_turns : (t : State) (x : ℕ) → Ends x t → Turned x (fire_all w m t)
    unfolding fire_all
    all_turns t x f =
        to_the_end (next_due m) (fire_instant w) Sends (Ends x) (Ends last) first second
        (λ u d there h. instant_turns u d (next_is_due m u d there) x h)
        (λ u d h there. instant_stays u d (next_is_due m u d there) h) (m + 2 - t.present) t f

    module _ (t : State) (here : there (advanced t w m).state ≡ true) where
      abbrev u : State
      u = (advanced t w m).state

      ends_so : (y : ℕ) → Ends y (fire_all w m t).0 → EndsBy join g y u
      unfolding advanced
      ends_so y f = grind (arith, both_ways)

      pub time_turns : (x : ℕ) → Ends x t → EndsBy join g x u ⊎ (Sends (advanced t w m).emissions × EndsBy join g (u.present + 60000) u)
      unfolding advanced
      time_turns x f = grind (arith, all_turns, ends_so)

-- ---- any event

-- the next hop is a neighbour, and it is wanted
pub record Goes (join : Join) (g from : ℕ) (hop : Hop) (s : State) : Type 0 where
  pub wanted : is_wanted join s g ≡ true
  pub rp_known : IsRp join s g
  pub next : nbr s (way_to join s g) ≡ Some hop
  pub unlost : is_lost_at join s g hop.iface.number ≡ false
  pub own : my_address s hop.iface.number ≡ from

pub to_the_hop : (join : Join) (g from : ℕ) (hop : Hop) (s : State) → Goes join g from hop s → Towards join g hop s
to_the_hop join g from hop s f = record { rp_known = f.rp_known; upstream = goes_so join s g hop f.next f.unlost }

module _ (join : Join) (g from : ℕ) (hop : Hop) (s : State) (e : Event) (rests : IsAtRest s) (timed : AreTimed s) (f : Goes join g from hop s) where
  abbrev pub Lasts : ℕ → Answered → Type 0
  Lasts x a = EndsBy join g x a.state ⊎ (SendsJoin join g from hop a.emissions × EndsBy join g ((a.state).present + 60000) a.state)

  begins : (x m : ℕ) → EndsBy join g x s → Ends join g m from hop s f.own f.rp_known f.next x s
  begins x m by = grind (arith, ground_itself, settled_is_lawful)

  -- the event's own change has the timer end no later
  module _ (x : ℕ) (by : EndsBy join g x s)
      (changed : (a : Accepted) → done_as (happens s e) ≡ Some a → EndsBy join g x (change s e.draw a).state) where
    by_time : (m : ℕ) → Goes join g from hop (advanced s e.draw m).state → Lasts x (advanced s e.draw m)
    unfolding nbr
    by_time m to =
        time_turns join g m from hop s f.own f.rp_known f.next e.draw s
        (is_there ((advanced s e.draw m).state).neighbours hop (way_to join (advanced s e.draw m).state g) to.next) x (begins x m by)

    by_change : (a : Accepted) → done_as (happens s e) ≡ Some a
        → Goes join g from hop (done s e.draw (change s e.draw a)).state → Lasts x (done s e.draw (change s e.draw a))
    unfolding done
    by_change a is to = grind (arith, goes_on_by, to_the_hop, changed)

    by_taken : (a : Accepted) → done_as (happens s e) ≡ Some a → Goes join g from hop (taken s e.draw a).state
        → Lasts x (taken s e.draw a)
    unfolding taken
    by_taken a is to = grind (arith, by_time, by_change)

    by_room : (a : Accepted) (full : Bool) → judged s e.kind ≡ Ok a → is_full s a ≡ full
        → Goes join g from hop (full_or_taken s e.draw a full).state → Lasts x (full_or_taken s e.draw a full)
    by_room a full is room to = grind (arith, by_taken, done_if)

    by_judgement : (j : Judged) → judged s e.kind ≡ j → Goes join g from hop (concluded s (taken_unless_full s e.draw) j).state
        → Lasts x (concluded s (taken_unless_full s e.draw) j)
    unfolding taken_unless_full
    by_judgement j is to = grind (arith, by_room)

    pub each_event : Goes join g from hop (step s e).state → Lasts x (step s e)
    unfolding step
    each_event to = by_judgement (judged s e.kind) refl to

  -- where no Join of another router has it hold its own back
  pub each_unsuppressed : (x : ℕ) → EndsBy join g x s → is_suppressed join s g hop (done_as (happens s e)) ≡ false
      → Goes join g from hop (step s e).state → Lasts x (step s e)
  each_unsuppressed x by off to =
      each_event x by
      (λ a is. change_by join g x s e.draw hop (to_the_hop join g from hop s f) by a
      (subst (λ (o : Option Accepted). is_suppressed join s g hop o ≡ false) is off)) to

  -- any event, where the bound is 84 s from its present at least
  pub each_raised : (x : ℕ) → EndsBy join g x s → s.present + 84000 ≤ x → Goes join g from hop (step s e).state → Lasts x (step s e)
  each_raised x by high to = each_event x by (λ a is. change_raised join g x s e.draw high by a) to
