-- Plain packets of a moment, in any order and number; and packets of which the core hears late.
use Rattle.std.{proofs.Common.{◌≡◌, ◌+◌, ◌≤◌, ℕ, Bool, true, false, ◌||◌, cond, List, [], ◌∷◌, length, Option, Some, None, nat_lt, refl, sym, ap, subst, ◌∙◌, arith}, specs.{Cmp.{first_so, second_so}, List.{AllByRecursion, list_any}}}
use Rattle.pim_ip.{specs.Ipv4.Packet}
use Rattle.pim_types.{specs.{declared.{event.Event.Event, fact.Key.Key, outcome.Outcome.Outcome}, Keys.same_key}, proofs.Keys.equal_keys}
use Rattle.pim_model.{specs.{Cache.Plain, Judging.last_moment, Plain.fact_key, Registers.keepalive_period, State.State, Step.{Answered, outcome_of, ran, run, state_after, step}}}
use Rattle.law_settled.{specs.Laws.ends_after}
use Rattle.law_events.{specs.{Rest.IsAtRest, Decided.{IsDecided, plainly_taken}}}
use Rattle.law_plane.{specs.{Split.{Notice, Split, advance_to, replayed}, SplitLaws.{CatchesUpInCopies, LateIsOnceMore, PlainInAnyOrder, PlainOnceIsEnough, caught_late, packets_of}}, proofs.{Ends.{AreLate, Ends, no_ends, set_end, with_ends}, Notes.none_late, Passes.{IsOwed, Passed, RisesTo, ahead_before, are_fresh, end_if, ended_by, late_before, late_set, packet_passes, rises_to, stepped, time_passes, time_stepped}, Splits.{Follows, at_first, ran_so}}}

-- ---- two packets of a moment

module _ (s : State) (rests : IsAtRest s) where
  abbrev kept_end : Ends → Packet → Plain → Ends
  kept_end f p how = end_if s rests how.keeps f (fact_key p) (s.present + keepalive_period)

  module _ (e f : Event) (p q : Packet) (how where_to : Plain) (first : IsDecided s e p how) (then : IsDecided s f q where_to) where
    after_one : Passed s rests (kept_end no_ends p how) s.present (step s e).state
    after_one = packet_passes s rests no_ends s.present s (at_first s rests) e p how first

    pub after_two : state_after s (e ∷ f ∷ []) ≡ with_ends (kept_end (kept_end no_ends p how) q where_to) s s.present
    unfolding state_after ran
    after_two =
        (packet_passes s rests (kept_end no_ends p how) s.present (step s e).state after_one f q where_to then).same

-- the ends of two, whichever is first
swapped_at : (a b j k : Bool) (end : Option ℕ) (o : Option ℕ)
    → cond b (cond k end (cond a (cond j end o) o)) (cond a (cond j end o) o)
    ≡ cond a (cond j end (cond b (cond k end o) o)) (cond b (cond k end o) o)
swapped_at a b j k end o = grind arith

end_at : (b : Bool) (f : Ends) (k : Key) (end : ℕ) (q : Key) → cond b (set_end f k end) f q ≡ cond b (cond (same_key k q) (Some end) (f q)) (f q)
end_at b f k end q = grind arith

module _ (a b : Bool) (k l : Key) (end : ℕ) where
  abbrev one : Bool → Key → Ends → Ends
  one c m f = cond c (set_end f m end) f

  both_ends : (q : Key) → one b l (one a k no_ends) q
      ≡ cond b (cond (same_key l q) (Some end) (cond a (cond (same_key k q) (Some end) None) None)) (cond a (cond (same_key k q) (Some end) None) None)
  both_ends q = grind (arith, end_at, no_ends)

same_ends : (a b : Bool) (k l : Key) (end : ℕ) → one a b k l end b l (one a b k l end a k no_ends) ≡ one b a l k end a k (one b a l k end b l no_ends)
same_ends a b k l end = grind (arith, both_ends, swapped_at)

pub plain_in_any_order : PlainInAnyOrder
plain_in_any_order s e f p q how where_to rests first then =
    after_two s rests e f p q how where_to first then
    ∙ (ap (λ (h : Ends). with_ends h s s.present)
    (same_ends how.keeps where_to.keeps (fact_key p) (fact_key q) (s.present + keepalive_period))
    ∙ sym (after_two s rests f e q p where_to how then first))

over : (a : Bool) (k : Key) (end : ℕ) (q : Key) → cond (same_key k q) (Some end) (cond a (set_end no_ends k end) no_ends q) ≡ cond (same_key k q) (Some end) None
over a k end q = grind arith

once_ends : (a b : Bool) (k l : Key) (end : ℕ) → l ≡ k → b ≡ true
    → cond b (set_end (cond a (set_end no_ends k end) no_ends) l end) (cond a (set_end no_ends k end) no_ends)
    ≡ cond b (set_end no_ends l end) no_ends
once_ends a b k l end same keeps = grind (arith, set_end, no_ends, over)

pub plain_once_is_enough : PlainOnceIsEnough
plain_once_is_enough s e f p q how where_to rests first then same keeps =
    after_two s rests e f p q how where_to first then
    ∙ (ap (λ (h : Ends). with_ends h s s.present)
    (once_ends how.keeps where_to.keeps (fact_key p) (fact_key q) (s.present + keepalive_period)
    (equal_keys (fact_key q) (fact_key p) same) keeps)
    ∙ sym (after_one s rests f e q p where_to how then first).same)

-- ---- late

pub ended_at : Ends → ℕ → List Notice → Ends
ended_at f now [] = f
ended_at f now (n ∷ ns) = ended_at (set_end f n.source (now + keepalive_period)) now ns

module _ (core : State) (quiet : IsAtRest core) (now : ℕ) where
  pub heard_at : (ns : List Notice) (f : Ends) (t : State) → Passed core quiet f now t → AllByRecursion (IsOwed core quiet) ns
      → Passed core quiet (ended_at f now ns) now (state_after t (packets_of ns))
  unfolding state_after ran ended_at
  heard_at [] f t is owed = is
  heard_at (n ∷ ns) f t is owed =
      let its : IsOwed core quiet n = owed.0 in
      let heard : Passed core quiet (set_end f (fact_key its.packet) (now + keepalive_period)) now (step t n.packet).state =
      packet_passes core quiet f now t is n.packet its.packet (record { keeps = true; list = its.list }) its.decides in
      heard_at ns (set_end f n.source (now + keepalive_period)) (step t n.packet).state
      (subst (λ (k : Key). Passed core quiet (set_end f k (now + keepalive_period)) now (step t n.packet).state)
      (sym its.source) heard) owed.1

module _ (now : ℕ) (q : Key) where
  abbrev named_in : List Notice → Bool
  named_in ns = list_any (λ (n : Notice). same_key n.source q) ns

  abbrev end : Option ℕ
  end = Some (now + keepalive_period)

  now_step : (a b : Bool) (o : Option ℕ) → cond b end (cond a end o) ≡ cond (a || b) end o
  now_step a b o = grind arith

  ended_now : (ns : List Notice) (f : Ends) → ended_at f now ns q ≡ cond (named_in ns) end (f q)
  unfolding ended_at
  ended_now [] f = refl
  ended_now (n ∷ ns) f =
      ended_now ns (set_end f n.source (now + keepalive_period)) ∙ now_step (same_key n.source q) (named_in ns) (f q)

  unnamed_end : (ns : List Notice) (f : Ends) → named_in ns ≡ false → ended_by f ns q ≡ f q
  unfolding ended_by
  unnamed_end [] f out = refl
  unnamed_end (n ∷ ns) f out =
      grind (arith, unnamed_end ns (set_end f n.source (n.moment + keepalive_period)), set_end, ended_by)

  late_end : (ns : List Notice) (b : Bool) → named_in ns ≡ b
      → ended_at no_ends now ns q ≡ ended_at (ended_by no_ends ns) now ns q
  late_end ns b e = grind (arith, ended_now, no_ends, ended_by, unnamed_end)

pub late_follows : (x : Split) (r : State) → Follows x r → caught_late x ≡ state_after r (packets_of x.owed)
unfolding state_after ran
late_follows x r f =
    let on : (x.core).present ≤ x.now = rises_to (x.core).present x.now x.owed f.rises in
    let then : State = (step x.core (advance_to x.now)).state in
    let passed : Passed x.core f.quiet no_ends x.now then =
    time_passes x.core f.quiet no_ends (x.core).present x.core (at_first x.core f.quiet) 0 x.now on f.early f.ahead
    (none_late x.now) in
    (heard_at x.core f.quiet x.now x.owed no_ends then passed f.owed).same
    ∙ (ap (λ (h : Ends). with_ends h x.core x.now) (λ j q. late_end x.now q x.owed (named_in x.now q x.owed) refl j)
    ∙ sym (heard_at x.core f.quiet x.now x.owed (ended_by no_ends x.owed) r f.is f.owed).same)

pub late_is_once_more : LateIsOnceMore
late_is_once_more s rows events rests early few told = grind (arith, late_follows, ran_so)

-- ---- what leaves as the core catches up

module _ (core : State) (quiet : IsAtRest core) (now : ℕ) (early : now ≤ last_moment) (ahead : ends_after now core ≡ true)
  where
    abbrev AreCopies : Outcome → Type 0
    AreCopies o = o.copies ≡ length o.emissions

    abbrev AnswersCopies : Answered → Type 0
    AnswersCopies a = AreCopies (outcome_of a)

    copies_taken : (t : State) (p : Packet) (how : Plain) → AnswersCopies (plainly_taken t p how)
    unfolding plainly_taken
    copies_taken t p how = refl

    time_copies : (f : Ends) (m : ℕ) (t : State) → Passed core quiet f m t → (then : ℕ) → m ≤ then → then ≤ now
        → AreLate now f → AnswersCopies (step t (advance_to then))
    time_copies f m t is then on until late =
        subst (λ (a : Answered). AnswersCopies a)
        (sym (time_stepped core quiet f m t is 0 then on (omega (arith, until, early)) (ahead_before core then now until ahead)
        (late_before f then now until late))) refl

    replay_copies : (ns : List Notice) (f : Ends) (m : ℕ) (t : State) → Passed core quiet f m t
        → AllByRecursion (IsOwed core quiet) ns → RisesTo m now ns → AreLate now f → are_fresh now ns ≡ true
        → AllByRecursion AreCopies (run t (replayed now ns))
    unfolding run ran replayed
    replay_copies [] f m t is owed rises late fresh = (time_copies f m t is now rises (omega arith) late, tt)
    replay_copies (n ∷ ns) f m t is owed rises late fresh =
        let until : n.moment ≤ now = rises_to n.moment now ns rises.1 in
        let its : IsOwed core quiet n = owed.0 in
        let how : Plain = record { keeps = true; list = its.list } in
        let then : State = (step t (advance_to n.moment)).state in
        let at_it : Passed core quiet f n.moment then =
        time_passes core quiet f m t is 0 n.moment rises.0 (omega (arith, until, early))
        (ahead_before core n.moment now until ahead) (late_before f n.moment now until late) in
        let heard : Passed core quiet (set_end f (fact_key its.packet) (n.moment + keepalive_period)) n.moment
        (step then n.packet).state =
        packet_passes core quiet f n.moment then at_it n.packet its.packet how its.decides in (
          time_copies f m t is n.moment rises.0 until late,
          (
            subst (λ (a : Answered). AnswersCopies a)
                (sym (stepped core quiet f n.moment then at_it n.packet its.packet how its.decides))
                (copies_taken then its.packet how),
            replay_copies ns (set_end f n.source (n.moment + keepalive_period)) n.moment (step then n.packet).state
                (subst (λ (k : Key). Passed core quiet (set_end f k (n.moment + keepalive_period)) n.moment
                (step then n.packet).state) (sym its.source) heard)
                owed.1 rises.1
                (late_set now f n.source (n.moment + keepalive_period) late
                (first_so (nat_lt now (n.moment + keepalive_period)) (are_fresh now ns) fresh))
                (second_so (nat_lt now (n.moment + keepalive_period)) (are_fresh now ns) fresh),
          ),
        )

copies_follow : (x : Split) (r : State) → Follows x r
    → AllByRecursion (λ (o : Outcome). o.copies ≡ length o.emissions) (run x.core (replayed x.now x.owed))
copies_follow x r f =
    replay_copies x.core f.quiet x.now f.early f.ahead x.owed no_ends (x.core).present x.core (at_first x.core f.quiet) f.owed
    f.rises (none_late x.now) f.fresh

pub catches_up_in_copies : CatchesUpInCopies
catches_up_in_copies s rows events rests early few told = grind (arith, copies_follow, ran_so)
