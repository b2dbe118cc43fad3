-- Each event at a router has the Join timer end no later, or sends a Join to RPF', whether that is the route's or an assert's winner.
use Rattle.std.{proofs.{Common.{Bool, List, None, Ok, Option, Some, arith, eq-eqb, eqb-true, false, inl, inr, length, refl, subst, sym, true, ℕ, ◌++◌, ◌+◌, ◌-◌, ◌∙◌, ◌≡◌, ◌≤◌, ◌⊎◌}, lemmas.List.Elements.{Contains-append_left, Contains-append_right}}, specs.Cmp.{first_so, second_so}}
use Rattle.pim_types.{specs.declared.{event.Event.Event, outcome.Emission.Emission, path.Hop.Hop}}
use Rattle.pim_model.{specs.{declared.accepted.Accepted.Accepted, Cause.done_as, Firing.{fire_all, fire_instant, fire_once}, Full.is_full, Judging.{Judged, judged}, State.{State, my_address}, Step.{Answered, advanced, change, concluded, done, step, taken, taken_unless_full}, Tables.same_hop, Timers.{Ending, next_due, timers}}}
use Rattle.law_settled.{proofs.{FiringLaws.next_is_due, SettledStates.settled_is_lawful, UnchangedLaws.full_or_taken}}
use Rattle.law_events.{specs.Rest.IsAtRest}
use Rattle.law_streams.{proofs.{Firings.SendsJoin, InTimeChanges.change_by, InTimeTimers.{EndsBy, Towards, goes_on_by}, Passes.done_if, Raised.change_raised, Turns.to_the_end, Ways.ground_itself}, specs.{Copies.happens, InTimeJoins.{IsRp, Join, is_suppressed, is_wanted, rpf_of}, Timed.AreTimed}}
use Rattle.law_converges.{proofs.RpfStays.{Base, at_any_time, base_then, good_at, turn, was_there}}

hop_so : (o : Option Hop) (h : Hop) → same_hop o (Some h) ≡ true → o ≡ Some h
hop_so None h e = cc e
hop_so (Some k) h e = made (eqb-true _ _ (first_so _ _ e)) (eqb-true _ _ (second_so _ _ e))
  where
    made : k.iface.number ≡ h.iface.number → k.address.bits ≡ h.address.bits → Some k ≡ Some h
    made a b = grind arith

-- ---- time

module _ (join : Join) (g m from : ℕ) (hop : Hop) (b : State) (own : my_address b hop.iface.number ≡ from) (rp_known : IsRp join b g) where
  abbrev Based : State → Type 0
  Based t = Base join g m from hop b own rp_known t

  abbrev Sends : List Emission → Type 0
  Sends es = SendsJoin join g from hop es

  -- where RPF' is the next hop the timer ends by a timestamp
  pub record Ends (y : ℕ) (t : State) : Type 0 where
    pub base : Based t
    pub ends : rpf_of join t g ≡ Some hop → EndsBy join g y t

  abbrev last : ℕ
  last = m + 60000

  abbrev Turned : ℕ → State × List Emission → Type 0
  Turned x p = Ends x p.0 ⊎ (Sends p.1 × Ends last p.0)

  module _ (w : ℕ) (t : State) (d : Ending) (low : d.end ≤ m) where
    once_turns : (x : ℕ) → Ends x t → Turned x (fire_once w t d)
    once_turns x f = go (same_hop (rpf_of join (fire_once w t d).0 g) (Some hop)) refl
      where
        after : Based (fire_once w t d).0
        after = base_then join g m from hop b own rp_known w t d f.base

        elsewhere : same_hop (rpf_of join (fire_once w t d).0 g) (Some hop) ≡ false → rpf_of join (fire_once w t d).0 g ≡ Some hop → ⊥
        elsewhere off is = grind (arith, off, is, eq-eqb)

        turned : (((y : ℕ) → EndsBy join g y t → EndsBy join g y (fire_once w t d).0) ⊎ (Sends (fire_once w t d).1 × EndsBy join g last (fire_once w t d).0))
            → EndsBy join g x t → Turned x (fire_once w t d)
        turned (inl stays) by = inl (record { base = after; ends = λ is. stays x by })
        turned (inr (has, by)) old = inr (has, record { base = after; ends = λ is. by })

        go : (q : Bool) → same_hop (rpf_of join (fire_once w t d).0 g) (Some hop) ≡ q → Turned x (fire_once w t d)
        go false off = inl (record { base = after; ends = λ is. absurd (elsewhere off is) })
        go true same =
            let is : rpf_of join (fire_once w t d).0 g ≡ Some hop = hop_so (rpf_of join (fire_once w t d).0 g) hop same in
            turned (turn join g m from hop b own rp_known w t d f.base low is) (f.ends (was_there join g m from hop b own rp_known w t d f.base is))

    once_stays : Ends last t → Ends last (fire_once w t d).0
    once_stays f = go (once_turns last f)
      where
        go : Turned last (fire_once w t d) → Ends last (fire_once w t d).0
        go (inl g) = g
        go (inr (has, g)) = g

  first : (xs ys : List Emission) → Sends xs → Sends (xs ++ ys)
  first xs ys f = record { pruned = f.pruned; is_sent = Contains-append_left xs ys _ f.is_sent }

  second : (xs ys : List Emission) → Sends ys → Sends (xs ++ ys)
  second xs ys f = record { pruned = f.pruned; is_sent = Contains-append_right xs ys _ f.is_sent }

  in_time : (a c : ℕ) → a ≤ c → c ≤ m → a ≤ m
  in_time a c e f = omega (arith, e, f)

  module _ (w : ℕ) where
    instant_turns : (t : State) (e : Ending) → e.end ≤ m → (x : ℕ) → Ends x t → Turned x (fire_instant w t e)
    unfolding fire_instant
    instant_turns t e low x f =
        to_the_end (next_due e.end) (fire_once w) Sends (Ends x) (Ends last) first second
        (λ u d there h. once_turns w u d (in_time d.end e.end (next_is_due e.end u d there) low) x h)
        (λ u d h there. once_stays w u d (in_time d.end e.end (next_is_due e.end u d there) low) h) (length (timers t) + 1) t f

    instant_stays : (t : State) (e : Ending) → e.end ≤ m → Ends last t → Ends last (fire_instant w t e).0
    instant_stays t e low f = go (instant_turns t e low last f)
      where
        go : Turned last (fire_instant w t e) → Ends last (fire_instant w t e).0
        go (inl g) = g
        go (inr (has, g)) = g

    all_turns : (t : State) (x : ℕ) → Ends x t → Turned x (fire_all w m t)
    unfolding fire_all
    all_turns t x f =
        to_the_end (next_due m) (fire_instant w) Sends (Ends x) (Ends last) first second
        (λ u d there h. instant_turns u d (next_is_due m u d there) x h)
        (λ u d h there. instant_stays u d (next_is_due m u d there) h) (m + 2 - t.present) t f

    module _ (t : State) (here : rpf_of join (advanced t w m).state g ≡ Some hop) where
      abbrev u : State
      u = (advanced t w m).state

      ends_so : (y : ℕ) → Ends y (fire_all w m t).0 → EndsBy join g y u
      unfolding advanced
      ends_so y f = f.ends (sym (at_any_time join g m (fire_all w m t).0) ∙ here)

      pub time_turns : (x : ℕ) → Ends x t → EndsBy join g x u ⊎ (Sends (advanced t w m).emissions × EndsBy join g (u.present + 60000) u)
      unfolding advanced
      time_turns x f = grind (arith, all_turns, ends_so)

-- ---- any event

-- RPF' is the next hop, and it is wanted
pub record Goes (join : Join) (g from : ℕ) (hop : Hop) (s : State) : Type 0 where
  pub wanted : is_wanted join s g ≡ true
  pub to : Towards join g hop s
  pub own : my_address s hop.iface.number ≡ from

module _ (join : Join) (g from : ℕ) (hop : Hop) (s : State) (e : Event) (rests : IsAtRest s) (timed : AreTimed s) (f : Goes join g from hop s) where
  abbrev pub Lasts : ℕ → Answered → Type 0
  Lasts x a = EndsBy join g x a.state ⊎ (SendsJoin join g from hop a.emissions × EndsBy join g ((a.state).present + 60000) a.state)

  begins : (x m : ℕ) → EndsBy join g x s → Ends join g m from hop s f.own (f.to).rp_known x s
  begins x m by = record {
    base = record {
      ground = ground_itself s;
      good = good_at join g hop s (f.to).upstream;
      lawful = settled_is_lawful s (rests.settled);
      quiet = rests.quiet;
      timed = timed;
    };
    ends = λ is. by;
  }

  -- the event's own change has the timer end no later
  module _ (x : ℕ) (by : EndsBy join g x s)
      (changed : (a : Accepted) → done_as (happens s e) ≡ Some a → EndsBy join g x (change s e.draw a).state) where
    by_time : (m : ℕ) → Goes join g from hop (advanced s e.draw m).state → Lasts x (advanced s e.draw m)
    by_time m to = time_turns join g m from hop s f.own (f.to).rp_known e.draw s ((to.to).upstream) x (begins x m by)

    by_change : (a : Accepted) → done_as (happens s e) ≡ Some a
        → Goes join g from hop (done s e.draw (change s e.draw a)).state → Lasts x (done s e.draw (change s e.draw a))
    unfolding done
    by_change a is to = grind (arith, goes_on_by, changed)

    by_taken : (a : Accepted) → done_as (happens s e) ≡ Some a → Goes join g from hop (taken s e.draw a).state
        → Lasts x (taken s e.draw a)
    unfolding taken
    by_taken a is to = grind (arith, by_time, by_change)

    by_room : (a : Accepted) (full : Bool) → judged s e.kind ≡ Ok a → is_full s a ≡ full
        → Goes join g from hop (full_or_taken s e.draw a full).state → Lasts x (full_or_taken s e.draw a full)
    by_room a full is room to = grind (arith, by_taken, done_if)

    by_judgement : (j : Judged) → judged s e.kind ≡ j → Goes join g from hop (concluded s (taken_unless_full s e.draw) j).state
        → Lasts x (concluded s (taken_unless_full s e.draw) j)
    unfolding taken_unless_full
    by_judgement j is to = grind (arith, by_room)

    pub each_event : Goes join g from hop (step s e).state → Lasts x (step s e)
    unfolding step
    each_event to = by_judgement (judged s e.kind) refl to

  -- where no Join of another router has it hold its own back
  pub each_unsuppressed : (x : ℕ) → EndsBy join g x s → is_suppressed join s g hop (done_as (happens s e)) ≡ false
      → Goes join g from hop (step s e).state → Lasts x (step s e)
  each_unsuppressed x by off to =
      each_event x by
      (λ a is. change_by join g x s e.draw hop f.to by a
      (subst (λ (o : Option Accepted). is_suppressed join s g hop o ≡ false) is off)) to

  -- any event, where the bound is 84 s from its present at least
  pub each_raised : (x : ℕ) → EndsBy join g x s → s.present + 84000 ≤ x → Goes join g from hop (step s e).state → Lasts x (step s e)
  each_raised x by high to = each_event x by (λ a is. change_raised join g x s e.draw high by a) to
