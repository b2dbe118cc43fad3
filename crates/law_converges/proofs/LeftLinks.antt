-- Each copy has a cause among what came to its router, and what came before the bound is over.
use Rattle.std.{proofs.{Common.{Bool, List, None, Option, Some, [], ap, arith, false, inl, inr, not, refl, subst, sym, true, ℕ, ◌&&◌, ◌+◌, ◌<◌, ◌||◌, ◌∙◌, ◌∷◌, ◌≡◌, ◌≤◌, ◌⊎◌}, lemmas.{Bool.Decides.nat_tests, List.Elements.recursion_from_All}}, specs.Prelude.slice_get}
use Rattle.pim_ip.{specs.Ipv4.{copy_text, is_link_local}}
use Rattle.pim_types.{specs.declared.{event.Event.Event, outcome.Emission.Emission}}
use Rattle.pim_model.specs.{declared.accepted.Accepted.Accepted, Cause.{Happened, IsAskedFor, Passed, Past, asks_for, done_as, has_cause, is_down_of, is_join_for, is_report_for}, Network.{Move, Network, Station, event_of, moved, station_at}, State.{State, opening}, Step.{ran, state_after, step}, Writing.on_link}
use Rattle.law_settled.{proofs.Steps.{opening_is_settled, step_is_settled}, specs.Ready.IsSettled}
use Rattle.law_streams.{proofs.{CausesAsks.IsAsked as RowsAsked, Links.each_contained, Pairs.{Steps, one_router, same_station}, Past.CausedBy, Shared.present_later, Steps.{opening_asked, step_asked}}, specs.{Copies.{copies_at, happens}}}
use Rattle.law_converges.{proofs.{Inside.{IsFrom, copied_from}, NothingElse.{IsPut, put}, Past.no_station}, specs.{Carried.EachMove, LeftLinks.{AllLast, AsksExpire, EachIsWanted, EachMoveAfter, HasHeard, IsAsked, IsAskedWithin, IsBroughtTo, IsWanted, LeftLinkIsQuiet, NoneComes, OnlyWantedIsBrought, SomeBefore, lasts_within}, Past.ArePast}}

-- ---- for how long

-- a cause of a moment is one at once, and isn't over yet
pub asks_at_once : (s : State) (i g src now : ℕ) → s.present ≤ now → (o : Option Accepted) → asks_for now i g src s o ≡ true
    → asks_for s.present i g src s o ≡ true
unfolding asks_for is_join_for is_report_for
asks_at_once s i g src now le (Some (Accepted.JoinPruneToMe j m)) e = grind (arith, nat_tests, le, e)
asks_at_once s i g src now le (Some (Accepted.Report j records)) e = grind (arith, nat_tests, le, e)
asks_at_once s i g src now le o e = cc e

pub asks_soon : (s : State) (life i g src now : ℕ) → (o : Option Accepted) → lasts_within life i s o ≡ true → asks_for now i g src s o ≡ true
    → now < s.present + life
unfolding asks_for is_join_for is_report_for
asks_soon s life i g src now (Some (Accepted.JoinPruneToMe j m)) lasts e = grind (arith, nat_tests, lasts, e)
asks_soon s life i g src now (Some (Accepted.Report j records)) lasts e = grind (arith, nat_tests, lasts, e)
asks_soon s life i g src now o lasts e = cc e

link_of : Emission → ℕ
link_of (Emission.Link i bytes) = i.number
link_of (Emission.Unicast to bytes) = 0

text_of : Emission → List ℕ
text_of (Emission.Link i bytes) = bytes
text_of (Emission.Unicast to bytes) = bytes

pub same_link : (i j : ℕ) (a b : List ℕ) → on_link i a ≡ on_link j b → i ≡ j
unfolding link_of
same_link i j a b e = ap link_of e

pub same_text : (i j : ℕ) (a b : List ℕ) → on_link i a ≡ on_link j b → a ≡ b
unfolding text_of
same_text i j a b e = ap text_of e

pub no_later : (a : ℕ) → a ≤ a
no_later a = omega arith

-- ---- at one router

-- by an event something is a cause, or was so before
pub asked_or_before : (past : Past) (h : Happened) (i g src now : ℕ) → has_cause (Passed.Happening h ∷ past) now i g src ≡ true
    → (asks_for now i g src h.before (done_as h) ≡ true) ⊎ (has_cause past now i g src ≡ true)
unfolding has_cause
asked_or_before past h i g src now e =
    go (asks_for now i g src h.before (done_as h)) (not (is_down_of i (done_as h))) (has_cause past now i g src) refl refl e
  where
    go : (a b c : Bool) → asks_for now i g src h.before (done_as h) ≡ a → has_cause past now i g src ≡ c → (a || (b && c)) ≡ true
        → (asks_for now i g src h.before (done_as h) ≡ true) ⊎ (has_cause past now i g src ≡ true)
    go true b c is there e = inl is
    go false true true is there e = inr there
    go false true false is there e = cc e
    go false false c is there e = cc e

module _ (life i g src : ℕ) where
  -- what came by the opening's events is over in time
  record IsOver (past : Past) (s : State) : Type 0 where
    rows : RowsAsked (CausedBy past) s
    settled : IsSettled s
    over : (now : ℕ) → has_cause past now i g src ≡ true → now < s.present + life

  later : (now a b : ℕ) → a ≤ b → now < a + life → now < b + life
  later now a b le lt = omega (arith, le, lt)

  over_then : (past : Past) (s : State) (e : Event) → IsOver past s → lasts_within life i s (done_as (happens s e)) ≡ true
      → IsOver (Passed.Happening (happens s e) ∷ past) (step s e).state
  over_then past s e f lasts = record {
    rows = (step_asked past s e f.rows f.settled).rows;
    settled = step_is_settled s e f.settled;
    over = λ now cause. by now (asked_or_before past (happens s e) i g src now cause);
  }
    where
      by : (now : ℕ) → (asks_for now i g src s (done_as (happens s e)) ≡ true) ⊎ (has_cause past now i g src ≡ true)
          → now < ((step s e).state).present + life
      by now (inl asks) =
          later now s.present ((step s e).state).present (present_later s e)
          (asks_soon s life i g src now (done_as (happens s e)) lasts asks)
      by now (inr cause) = later now s.present ((step s e).state).present (present_later s e) (f.over now cause)

  record Led (s : State) : Type 0 where
    past : Past
    over : IsOver past s

  led : (events : List Event) (past : Past) (s : State) → IsOver past s → AllLast life i s events → Led (state_after s events)
  unfolding state_after ran
  led [] past s f last = record { past = past; over = f }
  led (e ∷ es) past s f last =
      led es (Passed.Happening (happens s e) ∷ past) (step s e).state (over_then past s e f last.0) last.1

  none_yet : (now : ℕ) (bound : ℕ) → has_cause [] now i g src ≡ true → now < bound
  unfolding has_cause
  none_yet now bound e = cc e

  has_led : (s : State) → HasHeard life i s → Led s
  has_led s f =
      subst Led f.led (led f.events [] (opening f.config) (record {
        rows = opening_asked f.config;
        settled = opening_is_settled f.config f.accepted;
        over = λ now cause. none_yet now ((opening f.config).present + life) cause;
      }) f.last)

-- ---- in a network

module _ (g src life bound link : ℕ) (started : ℕ → ℕ) where
  -- what a router has heard on the link is over by then, or came by one of the moves so far
  record Hears (r i : ℕ) (before : List (Network × Move)) (st : Station) : Type 0 where
    past : Past
    rows : RowsAsked (CausedBy past) st.state
    settled : IsSettled st.state
    until : ℕ
    by : until + started r ≤ bound + life
    found : (now : ℕ) → (st.state).present ≤ now → has_cause past now i g src ≡ true
        → (now < until) ⊎ SomeBefore (IsAskedWithin life g src link r i now) before

  abbrev AllHear : List (Network × Move) → Network → Type 0
  AllHear before n = (r i : ℕ) (st : Station) → station_at n r ≡ Some st → slice_get st.links i ≡ Some link → Hears r i before st

  begins : (n : Network) (ms : List Move) → AsksExpire life bound link started n ms → AllHear [] n
  begins n ms f r i st at linked = go (has_led life i g src st.state (f.heard r i st at linked))
    where
      soon : (a b c d : ℕ) → a + b ≤ c → (a + d) + b ≤ c + d
      soon a b c d e = omega (arith, e)

      go : Led life i g src st.state → Hears r i [] st
      go l = record {
        past = l.past;
        rows = (l.over).rows;
        settled = (l.over).settled;
        until = (st.state).present + life;
        by = soon (st.state).present (started r) bound life (f.by r i st at linked);
        found = λ now le cause. inl ((l.over).over now cause);
      }

  abbrev MoveLasts : Network → Move → Type 0
  MoveLasts n m = (r i : ℕ) (e : Event) (st : Station) → event_of n m ≡ Some (r, e) → station_at n r ≡ Some st
      → slice_get st.links i ≡ Some link → lasts_within life i st.state (done_as (happens st.state e)) ≡ true

  module _ (n : Network) (m : Move) (before : List (Network × Move)) where
    -- what was found still is
    still : (r i now until : ℕ) → (now < until) ⊎ SomeBefore (IsAskedWithin life g src link r i now) before
        → (now < until) ⊎ SomeBefore (IsAskedWithin life g src link r i now) ((n, m) ∷ before)
    still r i now until (inl soon) = inl soon
    still r i now until (inr some) = inr (inr some)

    -- another router's move changes nothing here
    hears_beside : (r i : ℕ) (st : Station) → Hears r i before st → Hears r i ((n, m) ∷ before) st
    hears_beside r i st f = record {
      past = f.past;
      rows = f.rows;
      settled = f.settled;
      until = f.until;
      by = f.by;
      found = λ now le cause. still r i now f.until (f.found now le cause);
    }

    hears_then : (r i : ℕ) (st : Station) (e : Event) → event_of n m ≡ Some (r, e) → station_at n r ≡ Some st
        → slice_get st.links i ≡ Some link → lasts_within life i st.state (done_as (happens st.state e)) ≡ true → Hears r i before st
        → Hears r i ((n, m) ∷ before) (record st { state = (step st.state e).state })
    hears_then r i st e is at on lasts f = record {
      past = Passed.Happening (happens st.state e) ∷ f.past;
      rows = (step_asked f.past st.state e f.rows f.settled).rows;
      settled = step_is_settled st.state e f.settled;
      until = f.until;
      by = f.by;
      found = λ now le cause.
          by now (onward (st.state).present ((step st.state e).state).present now (present_later st.state e) le)
          (asked_or_before f.past (happens st.state e) i g src now cause);
    }
      where
        onward : (a b c : ℕ) → a ≤ b → b ≤ c → a ≤ c
        onward a b c d e = omega (arith, d, e)

        by : (now : ℕ) → (st.state).present ≤ now
            → (asks_for now i g src st.state (done_as (happens st.state e)) ≡ true) ⊎ (has_cause f.past now i g src ≡ true)
            → (now < f.until) ⊎ SomeBefore (IsAskedWithin life g src link r i now) ((n, m) ∷ before)
        by now le (inl asks) =
            inr (inl (record {
              asked = record {
                event = e;
                is = is;
                station = st;
                at = at;
                linked = on;
                asks = asks_at_once st.state i g src now le (done_as (happens st.state e)) asks;
              };
              recent = asks_soon st.state life i g src now (done_as (happens st.state e)) lasts asks;
            }))
        by now le (inr cause) = still r i now f.until (f.found now le cause)

    all_hear_then : AllHear before n → MoveLasts n m → AllHear ((n, m) ∷ before) (moved n m).1
    all_hear_then f lasts r i st at linked = go (station_at n r) refl
      where
        here : (old : Station) → station_at n r ≡ Some old → old.links ≡ st.links → slice_get old.links i ≡ Some link
        here old is same = ap (λ (ls : List ℕ). slice_get ls i) same ∙ linked

        moves : (old : Station) → station_at n r ≡ Some old → (station_at (moved n m).1 r ≡ Some old) ⊎ Steps n m r old
            → Hears r i ((n, m) ∷ before) st
        moves old is (inl same) =
            let alike : old ≡ st = same_station same at in
            subst (Hears r i ((n, m) ∷ before)) alike
            (hears_beside r i old (f r i old is (here old is (ap (λ (z : Station). z.links) alike))))
        moves old is (inr w) =
            let alike : record old { state = (step old.state w.event).state } ≡ st = same_station (w.stepped).here at in
            let on : slice_get old.links i ≡ Some link = here old is (ap (λ (z : Station). z.links) alike) in
            subst (Hears r i ((n, m) ∷ before)) alike
            (hears_then r i old w.event w.is is on (lasts r i w.event old w.is is on) (f r i old is on))

        go : (o : Option Station) → station_at n r ≡ o → Hears r i ((n, m) ∷ before) st
        go None none = absurd (no_station n m r st none at)
        go (Some old) is = moves old is (one_router n m r old is)

    -- so each copy was asked for
    copy_is_wanted : is_link_local g ≡ false → AllHear before n → ArePast started (bound + life) n → (number : ℕ) (bytes : List ℕ)
        → IsBroughtTo g src link number bytes n m → IsWanted life g src link bytes before n m
    copy_is_wanted far f past number bytes b = wanted (put g src link number bytes far b.its n m b.later b.framed)
      where
        too_late : (until now start : ℕ) → until + start ≤ bound + life → bound + life < now + start → now < until → ⊥
        too_late until now start e lt soon = omega (arith, e, lt, soon)

        wanted : IsPut link number bytes n m → IsWanted life g src link bytes before n m
        wanted p = by (f p.router p.iface p.station p.at p.linked)
          where
            s : State
            s = (p.station).state

            by : Hears p.router p.iface before p.station → IsWanted life g src link bytes before n m
            by h =
                wants (each_contained (IsAskedFor h.past (happens s p.event)) (copies_at s p.event) (on_link p.iface bytes)
                (recursion_from_All (IsAskedFor h.past (happens s p.event)) (copies_at s p.event)
                ((step_asked h.past s p.event h.rows h.settled).copies).asked) p.copied)
              where
                so : (s.present < h.until) ⊎ SomeBefore (IsAskedWithin life g src link p.router p.iface s.present) before
                    → IsWanted life g src link bytes before n m
                so (inl soon) =
                    absurd (too_late h.until s.present (started p.router) h.by (past p.router p.station p.at) soon)
                so (inr some) = record {
                  router = p.router;
                  event = p.event;
                  is = p.is;
                  station = p.station;
                  at = p.at;
                  iface = p.iface;
                  linked = p.linked;
                  copied = p.copied;
                  asked = some;
                }

                wants : IsAskedFor h.past (happens s p.event) (on_link p.iface bytes) → IsWanted life g src link bytes before n m
                wants c =
                    let from : IsFrom g src c.packet =
                    copied_from g src s p.event c.packet bytes c.brought (same_text p.iface c.link bytes (copy_text c.packet) c.copied) b.its in
                    so (h.found s.present (no_later s.present)
                    (subst (λ (j : ℕ). has_cause h.past s.present j g src ≡ true) (same_link c.link p.iface (copy_text c.packet) bytes (sym c.copied))
                    (subst (λ (d : ℕ). has_cause h.past s.present c.link d src ≡ true) from.group
                    (subst (λ (q : ℕ). has_cause h.past s.present c.link (c.packet).destination q ≡ true) from.source c.cause))))

  all_wanted : is_link_local g ≡ false → (ms : List Move) (before : List (Network × Move)) (n : Network) → AllHear before n
      → EachMove MoveLasts n ms → EachMoveAfter (EachIsWanted g src life (bound + life) link started) before n ms
  all_wanted far [] before n f lasts = tt
  all_wanted far (m ∷ ms) before n f lasts = (
    λ past number bytes b. copy_is_wanted n m before far f past number bytes b,
    all_wanted far ms ((n, m) ∷ before) (moved n m).1 (all_hear_then n m before f lasts.0) lasts.1,
  )

pub only_wanted_is_brought : OnlyWantedIsBrought
only_wanted_is_brought g src life bound link started n ms far f =
    all_wanted g src life bound link started far ms [] n (begins g src life bound link started n ms f) f.hears

-- ---- nobody asks

module _ (g src life bound link : ℕ) (started : ℕ → ℕ) where
  abbrev IsUnasked : Network → Move → Type 0
  IsUnasked n m = (r i : ℕ) → IsAsked g src link r i n m → ⊥

  abbrev NoneAsked : List (Network × Move) → Type 0
  NoneAsked before = (r i now : ℕ) → SomeBefore (IsAskedWithin life g src link r i now) before → ⊥

  none_asked_then : (n : Network) (m : Move) (before : List (Network × Move)) → IsUnasked n m → NoneAsked before
      → NoneAsked ((n, m) ∷ before)
  none_asked_then n m before none f r i now (inl asked) = none r i asked.asked
  none_asked_then n m before none f r i now (inr some) = f r i now some

  quiet : (ms : List Move) (before : List (Network × Move)) (n : Network) → NoneAsked before → EachMove IsUnasked n ms
      → EachMoveAfter (EachIsWanted g src life (bound + life) link started) before n ms
      → EachMove (NoneComes g src (bound + life) link started) n ms
  quiet [] before n f none wanted = tt
  quiet (m ∷ ms) before n f none wanted = (
    λ past number bytes b. unwanted (wanted.0 past number bytes b),
    quiet ms ((n, m) ∷ before) (moved n m).1 (none_asked_then n m before none.0 f) none.1 wanted.1,
  )
    where
      unwanted : {bytes : List ℕ} → IsWanted life g src link bytes before n m → ⊥
      unwanted w = f w.router w.iface ((w.station).state).present w.asked

pub left_link_is_quiet : LeftLinkIsQuiet
left_link_is_quiet g src life bound link started n ms far f none =
    quiet g src life bound link started ms [] n (λ r i now some. some) none
    (only_wanted_is_brought g src life bound link started n ms far f)
