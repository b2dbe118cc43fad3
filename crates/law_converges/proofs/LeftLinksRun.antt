-- The premises, computed by their tests.
use Rattle.std.{proofs.Common.{Bool, List, Ok, Option, Some, [], arith, eq-eqb, false, lit≤, not, refl, suc, sym, true, zero, ℕ, ◌&&◌, ◌+◌, ◌++◌, ◌==◌, ◌||◌, ◌∙◌, ◌∷◌, ◌≡◌, ◌≤◌, ap, append-nil, map, subst}, specs.{Cmp.{first_so, second_so}, Option.option_map_or, Prelude.slice_get}}
use Rattle.pim_types.{specs.declared.{config.Config.Config, event.Event.Event, outcome.Emission.Emission}}
use Rattle.pim_model.{specs.{declared.accepted.Accepted.Accepted, Cause.{asks_for, done_as}, Limits.config_test, Network.{Move, Network, Station, event_of, moved, network_ran, sent_by, station_at}, State.{State, opening}, Step.{state_after, step}}}
use Rattle.law_streams.{specs.Copies.happens, proofs.Computed.{stand, stands_there}}
use Rattle.pim_runs.{specs.{InTime.started, ServedChain.{asked_group, first, sender, sent_packet, station}, Words.frame}, proofs.OnLiterals.machine_on_literals}
use Rattle.law_converges.{specs.{Carried.EachMove, LeftLinks.{AllLast, AsksExpire, HasHeard, IsAsked, lasts_within}, LeftLinksRun.{HostLeaves, HostStays, again_moves, again_until_over, asked_once, comes, copied_there, heard, left_moves, nearly_over, all_over, wanted_for}}, proofs.{CarriedTests.{each_move_so, move_test}, LeftLinks.{left_link_is_quiet, only_wanted_is_brought}, OneSenderRun.frames_after, Tested.{each_found, if_so, off_so}}}

-- ---- tests

module _ (link : ℕ) where
  -- each interface on the link passes
  abbrev all_on : (ℕ → Bool) → List ℕ → Bool
  all_on p [] = true
  all_on p (l ∷ ls) = (not (l == link) || p 0) && all_on (λ i. p (suc i)) ls

  all_on_so : (p : ℕ → Bool) (ls : List ℕ) (i : ℕ) → slice_get ls i ≡ Some link → all_on p ls ≡ true → p i ≡ true
  all_on_so p [] i at e = cc at
  all_on_so p (l ∷ ls) zero at e = if_so (l == link) (p 0) (first_so _ _ e) (eq-eqb l link (same at))
    where
      same : (let o : Option ℕ = Some l in o) ≡ Some link → l ≡ link
      same at = cc at
  all_on_so p (l ∷ ls) (suc i) at e = all_on_so (λ i. p (suc i)) ls i at (second_so _ _ e)

  -- so it is with what a move is to a router
  abbrev hears_so : (State → Option Accepted → ℕ → Bool) → Network → Move → Network → Bool
  hears_so p n m next =
      option_map_or (λ (x : ℕ × Event).
      option_map_or (λ (st : Station). all_on (p st.state (done_as (happens st.state x.1))) st.links) (station_at n x.0) true) (event_of n m) true

  each_hears : (p : State → Option Accepted → ℕ → Bool) (n : Network) (m : Move) → hears_so p n m (moved n m).1 ≡ true → (r i : ℕ) (e : Event)
      (st : Station) → event_of n m ≡ Some (r, e) → station_at n r ≡ Some st → slice_get st.links i ≡ Some link
      → p st.state (done_as (happens st.state e)) i ≡ true
  each_hears p n m f r i e st is at linked =
      all_on_so (p st.state (done_as (happens st.state e))) st.links i linked
      (each_found (λ (st : Station). all_on (p st.state (done_as (happens st.state e))) st.links) (station_at n r) st
      (each_found (λ (x : ℕ × Event).
      option_map_or (λ (st : Station). all_on (p st.state (done_as (happens st.state x.1))) st.links) (station_at n x.0) true) (event_of n m) (r, e) f is) at)

abbrev lasts : State → Option Accepted → ℕ → Bool
lasts s o i = lasts_within wanted_for i s o

abbrev unasked : State → Option Accepted → ℕ → Bool
unasked s o i = not (asks_for s.present i asked_group sender s o)

abbrev all_last : State → List Event → Bool
all_last s [] = true
all_last s (e ∷ es) = lasts_within wanted_for 0 s (done_as (happens s e)) && all_last (step s e).state es

all_last_so : (es : List Event) (s : State) → all_last s es ≡ true → AllLast wanted_for 0 s es
all_last_so [] s e = tt
all_last_so (x ∷ es) s e = (first_so _ _ e, all_last_so es (step s x).state (second_so (lasts_within wanted_for 0 s (done_as (happens s x))) _ e))

-- ---- a router on link 3 and on another one

module _ (c : Config) (events : List Event) (accepted : config_test c ≡ Ok tt) (last : all_last (opening c) events ≡ true) where
  abbrev st0 : Station
  st0 = station (3 ∷ 1 ∷ []) c events

  abbrev n0 : Network
  n0 = record { stations = st0 ∷ []; frames = [] }

  has_heard : HasHeard wanted_for 0 (state_after (opening c) events)
  has_heard = record { config = c; accepted = accepted; events = events; led = refl; last = all_last_so events (opening c) last }

  on_first : (i : ℕ) → slice_get {X = ℕ} (3 ∷ 1 ∷ []) i ≡ Some 3 → i ≡ 0
  on_first zero e = refl
  on_first (suc zero) e = cc e
  on_first (suc (suc i)) e = cc e

  the_one : (r : ℕ) (st : Station) → station_at n0 r ≡ Some st → (r ≡ 0) × (st0 ≡ st)
  unfolding station_at
  the_one zero st e = (refl, same e)
    where
      same : (let o : Option Station = Some st0 in o) ≡ Some st → st0 ≡ st
      same e = cc e
  the_one (suc r) st e = cc e

  expire : (ms : List Move) → (state_after (opening c) events).present ≤ 0 → move_test (hears_so 3 lasts) n0 ms ≡ true
      → AsksExpire wanted_for 0 3 started n0 ms
  expire ms soon passes = record {
    heard = λ r i st at linked.
        let same : st0 ≡ st = (the_one r st at).1 in
        subst (λ (z : Station). HasHeard wanted_for i z.state) same
        (subst (λ (j : ℕ). HasHeard wanted_for j (state_after (opening c) events))
        (sym (on_first i (ap (λ (z : Station). slice_get z.links i) same ∙ linked))) has_heard);
    by = λ r i st at linked. subst (λ (z : Station). (z.state).present + started r ≤ 0) (the_one r st at).1 (no_more soon);
    hears = each_move_so (hears_so 3 lasts) (λ n m. (r i : ℕ) (e : Event) (st : Station) → event_of n m ≡ Some (r, e) → station_at n r ≡ Some st
        → slice_get st.links i ≡ Some 3 → lasts_within wanted_for i st.state (done_as (happens st.state e)) ≡ true) (each_hears 3 lasts) ms n0 passes;
  }
    where
      no_more : {a : ℕ} → a ≤ 0 → a + 0 ≤ 0
      no_more e = omega (arith, e)

  none_asks : (ms : List Move) → move_test (hears_so 3 unasked) n0 ms ≡ true
      → EachMove (λ n m. (r i : ℕ) → IsAsked asked_group sender 3 r i n m → ⊥) n0 ms
  none_asks ms passes =
      each_move_so (hears_so 3 unasked) (λ n m. (r i : ℕ) → IsAsked asked_group sender 3 r i n m → ⊥) (λ n m f r i a. no (a.asks)
      (off_so _ (each_hears 3 unasked n m f r i a.event a.station a.is a.at a.linked))) ms n0 passes
    where
      no : {b : Bool} → b ≡ true → b ≡ false → ⊥
      no e f = let both : true ≡ false = sym e ∙ f in cc both

-- ---- computed

accepted : config_test first ≡ Ok tt
unfolding machine_on_literals
accepted = refl

heard_last : all_last (opening first) heard ≡ true
unfolding machine_on_literals
heard_last = refl

at_first : (state_after (opening first) heard).present ≡ 0
unfolding machine_on_literals
at_first = refl

begins : (state_after (opening first) heard).present ≤ 0
begins = subst (λ (k : ℕ). k ≤ 0) (sym at_first) (lit≤ tt)

left_lasts : move_test (hears_so 3 lasts) asked_once left_moves ≡ true
unfolding machine_on_literals
left_lasts = refl

left_unasked : move_test (hears_so 3 unasked) asked_once left_moves ≡ true
unfolding machine_on_literals
left_unasked = refl

again_lasts : move_test (hears_so 3 lasts) asked_once again_moves ≡ true
unfolding machine_on_literals
again_lasts = refl

copied_first : ((network_ran asked_once (nearly_over ++ comes ∷ [])).1).frames
    ≡ ((network_ran asked_once nearly_over).1).frames ++ copied_there ∷ []
unfolding machine_on_literals
copied_first = refl

abbrev nowhere : Station
nowhere = record { links = []; state = opening first }

abbrev left_alone : Station
left_alone = stand nowhere all_over 0

abbrev arrival : Event
arrival = frame 1 sent_packet

sends_none : (step left_alone.state arrival).emissions ≡ []
unfolding machine_on_literals
sends_none = refl

stands : station_at all_over 0 ≡ Some left_alone
unfolding machine_on_literals
stands = stands_there nowhere all_over 0 refl

copied_no_more : ((moved all_over comes).1).frames ≡ all_over.frames
copied_no_more =
    frames_after all_over 0 left_alone arrival stands
    ∙ (ap (λ (es : List Emission). all_over.frames ++ map (sent_by left_alone.links) es) sends_none ∙ append-nil all_over.frames)

copied_again : ((network_ran asked_once again_moves).1).frames ≡ ((network_ran asked_once again_until_over).1).frames ++ copied_there ∷ []
unfolding machine_on_literals
copied_again = refl

left_expire : AsksExpire wanted_for 0 3 started asked_once left_moves
left_expire = expire first heard accepted heard_last left_moves begins left_lasts

left_by_all : EachMove (λ n m. (r i : ℕ) → IsAsked asked_group sender 3 r i n m → ⊥) asked_once left_moves
left_by_all = none_asks first heard accepted heard_last left_moves left_unasked

again_expire : AsksExpire wanted_for 0 3 started asked_once again_moves
again_expire = expire first heard accepted heard_last again_moves begins again_lasts

pub host_leaves : HostLeaves
host_leaves = (
  left_expire,
  left_by_all,
  copied_first,
  copied_no_more,
  left_link_is_quiet asked_group sender wanted_for 0 3 started asked_once left_moves refl left_expire left_by_all,
)

pub host_stays : HostStays
host_stays = (
  again_expire,
  copied_again,
  only_wanted_is_brought asked_group sender wanted_for 0 3 started asked_once again_moves refl again_expire,
)
