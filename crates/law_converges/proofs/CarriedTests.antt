-- Whether a link carries what is sent on it, in order and soon: tests, and that where they pass it does.
use Rattle.std.{proofs.{Common.{Bool, List, Option, Some, [], arith, eq-eqb, eqb-true, false, length, nat_le, nat_lt, not, refl, subst, suc, sym, true, zero, ℕ, ◌&&◌, ◌+◌, ◌<◌, ◌==◌, ◌||◌, ◌∷◌, ◌≡◌, ◌≤◌}, lemmas.Bool.Decides.nat_tests}, specs.{Cmp.{first_so, second_so}, List.list_all, Option.option_map_or}}
use Rattle.pim_types.{specs.declared.event.Event.Event}
use Rattle.pim_model.{specs.{Network.{At, Deliver, DeliverUnicast, Move, Network, Sent, Station, event_of, frame_at, moved, station_at}, Tables.same_option, Timers.{Ending, timers}}}
use Rattle.law_settled.{proofs.ListLaws.{each_more, each_of_list}}
use Rattle.law_streams.{proofs.Shared.{Got, got_below}, specs.InTimeJoins.{IsBy, time_at}}
use Rattle.law_converges.{proofs.{HelloTests.one_of, Tested.{Found, after_so, by_so, each_after, each_found, each_passes, else_so, found, is_by, le_so, lt_so, moves_so, off_so, or_else, run_test, same_so, then}}, specs.{Carried.{AreSoon, Arrivals, Carries, ComesInTurn, EachMove, IsFor, IsPrompt, IsSentBy, Traffic, arrived}, LinkDr.{IsOne, Member}}}

-- a test of each move
abbrev pub move_test : (Network → Move → Network → Bool) → Network → List Move → Bool
move_test p n ms = run_test (λ n. true) (λ n m next ms. p n m next) n ms

pub each_move_so : (p : Network → Move → Network → Bool) (P : Network → Move → Type 0)
    → ((n : Network) (m : Move) → p n m (moved n m).1 ≡ true → P n m) → (ms : List Move) (n : Network) → move_test p n ms ≡ true
    → EachMove P n ms
each_move_so p P so ms n e =
    moves_so (λ n. true) (λ n m next ms. p n m next) (EachMove P) (λ n. tt) (λ n m ms e f. (so n m e, f)) ms n e

module _ (d late : ℕ) (started : ℕ → ℕ) (t : Traffic) where
  -- ---- who sent what, and when

  abbrev is_told : ℕ → Station → ℕ → Sent → Bool
  is_told r st k f = (t.sent k == time_at started r st) && (t.by k == r)

  abbrev pub sent_by_test : Network → Move → Network → Bool
  sent_by_test n m next =
      option_map_or (λ (x : ℕ × Event). option_map_or (λ (st : Station). each_after (length n.frames) (is_told x.0 st) next.frames)
      (station_at next x.0) true) (event_of n m) true

  pub sent_by_so : (n : Network) (m : Move) → sent_by_test n m (moved n m).1 ≡ true → IsSentBy started t n m
  unfolding frame_at
  sent_by_so n m e r ev st zero at there later le = absurd (omega (arith, later))
  sent_by_so n m e r ev st (suc k) at there later le =
      let f : Got ((moved n m).1).frames k = got_below ((moved n m).1).frames k (omega (arith, le)) in
      then (after_so (length n.frames) (is_told r st) (moved n m).1
      (each_found (λ (st : Station). each_after (length n.frames) (is_told r st) ((moved n m).1).frames) (station_at (moved n m).1 r) st
      (each_found (λ (x : ℕ × Event). option_map_or (λ (st : Station). each_after (length n.frames) (is_told x.0 st) ((moved n m).1).frames)
      (station_at (moved n m).1 x.0) true) (event_of n m) (r, ev) e at) there) (suc k) f.frame later f.is)
      (λ sent by. (eqb-true _ _ sent, eqb-true _ _ by))

  -- ---- timers

  module _ (alike : (q r : ℕ) → started q ≡ started r) where
    abbrev pub prompt_test : Network → Move → Network → Bool
    prompt_test n m next =
        list_all (λ (st : Station). list_all (λ (e : Ending). list_all (λ (u : Station). nat_le (u.state).present (e.end + late))
        next.stations) (timers st.state)) n.stations

    pub prompt_so : (n : Network) (m : Move) → prompt_test n m (moved n m).1 ≡ true → IsPrompt late started n m
    unfolding station_at
    prompt_so n m e r q st at =
        each_more _ _ one (timers st.state) (each_of_list _ (timers st.state) (each_passes (λ (st : Station). list_all (λ (e : Ending).
        list_all (λ (u : Station). nat_le (u.state).present (e.end + late)) ((moved n m).1).stations) (timers st.state)) n.stations e r st at))
      where
        plus : (p a u v : ℕ) → p ≤ a + late → u ≡ v → p + u ≤ a + v + late
        plus p a u v e f = omega (arith, e, f)

        one : (e : Ending) → list_all (λ (u : Station). nat_le (u.state).present (e.end + late)) ((moved n m).1).stations ≡ true
            → IsBy started q (e.end + started r + late) (moved n m).1
        one e passed u there =
            plus (u.state).present e.end (started q) (started r)
            (le_so _ _ (each_passes (λ (u : Station). nat_le (u.state).present (e.end + late)) ((moved n m).1).stations passed q u there))
            (alike q r)

  -- ---- a link

  module _ (link : ℕ) (members : List Member) where
    -- a frame of the link is for another router than who sent it
    abbrev is_for : (r k : ℕ) → Sent → Bool
    is_for r k f = same_option f.link (Some link) && not (t.by k == r)

    same_itself : (k : ℕ) → same_option (Some k) (Some k) ≡ true
    same_itself k = eq-eqb k k refl

    for_passes : (n : Network) (r k : ℕ) (f : IsFor t link r n k) → is_for r k f.frame ≡ true
    for_passes n r k f = go (subst (λ (o : Option ℕ). same_option o (Some link) ≡ true) (sym f.on) (same_itself link)) f.other
      where
        go : same_option (f.frame).link (Some link) ≡ true → (t.by k == r) ≡ false → is_for r k f.frame ≡ true
        go a b = grind (arith, a, b)

    abbrev soon_test : Arrivals → Network → Bool
    soon_test came n =
        list_all (λ (y : Member). each_after (came y.router y.iface) (λ k f. or_else (not (is_for y.router k f))
        (λ u. list_all (λ (z : Member). is_by started z.router (t.sent k + d) n) members)) n.frames) members

    soon_so : (came : Arrivals) (n : Network) → soon_test came n ≡ true → AreSoon d started t link members came n
    soon_so came n e y z k a b lt f =
        by_so started z.router (t.sent k + d) n
        (one_of (λ (z : Member). is_by started z.router (t.sent k + d) n) members z
        (else_so (is_for y.router k f.frame) (λ u. list_all (λ (z : Member). is_by started z.router (t.sent k + d) n) members)
        (after_so (came y.router y.iface) (λ k f. or_else (not (is_for y.router k f))
        (λ u. list_all (λ (z : Member). is_by started z.router (t.sent k + d) n) members)) n
        (one_of (λ (y : Member). each_after (came y.router y.iface) (λ k f. or_else (not (is_for y.router k f))
        (λ u. list_all (λ (z : Member). is_by started z.router (t.sent k + d) n) members)) n.frames) members y e a) k f.frame lt f.is)
        (for_passes n y.router k f)) b)

    -- the next frame for a router
    abbrev in_turn : Arrivals → (y : Member) (k : ℕ) → Network → Bool
    in_turn came y k n =
        option_map_or (is_for y.router k) (frame_at n k) false && (nat_lt (came y.router y.iface) k
        && (each_after (came y.router y.iface) (λ j f. not (nat_lt j k) || not (is_for y.router j f)) n.frames
        && option_map_or (λ (st : Station). nat_le (t.sent k) (time_at started y.router st)) (station_at n y.router) true))

    in_turn_so : (came : Arrivals) (y : Member) (k : ℕ) (n : Network) → in_turn came y k n ≡ true → ComesInTurn started t link y came k n
    in_turn_so came y k n e =
        then e (λ its e. then e (λ later e. then e (λ none after.
        let f : Found Sent (is_for y.router k) (frame_at n k) = found Sent (is_for y.router k) (frame_at n k) its in
        then f.passes (λ on other. record {
          its = record { frame = f.it; is = f.is; on = same_so _ _ on; other = off_so _ other };
          later = lt_so _ _ later;
          none_between = λ j lt less g. never (nat_lt j k) (is_for y.router j g.frame) (less_so j less) (for_passes n y.router j g)
              (after_so (came y.router y.iface) (λ j f. not (nat_lt j k) || not (is_for y.router j f)) n none j g.frame lt g.is);
          after = λ st at. le_so _ _ (each_found (λ (st : Station). nat_le (t.sent k) (time_at started y.router st)) (station_at n y.router) st after at);
        }))))
      where
        less_so : (j : ℕ) → j < k → nat_lt j k ≡ true
        less_so j lt = grind (arith, nat_tests, lt)

        never : (a b : Bool) → a ≡ true → b ≡ true → (not a || not b) ≡ true → ⊥
        never a b e f g = let no : true ≡ false = grind (arith, e, f, g) in cc no

    abbrev turn_test : Arrivals → Network → Move → Bool
    turn_test came n (At r e) = true
    turn_test came n (DeliverUnicast r k draw) = true
    turn_test came n (Deliver r i k draw) =
        list_all (λ (y : Member). or_else (not ((y.router == r) && (y.iface == i))) (λ u. in_turn came y k n)) members

    turn_so : (came : Arrivals) (n : Network) (m : Move) → turn_test came n m ≡ true → (y : Member) (k draw : ℕ) → IsOne members y
        → m ≡ Deliver y.router y.iface k draw → ComesInTurn started t link y came k n
    turn_so came n m e y k draw a is =
        in_turn_so came y k n
        (else_so ((y.router == y.router) && (y.iface == y.iface)) (λ u. in_turn came y k n)
        (one_of (λ (z : Member). or_else (not ((z.router == y.router) && (z.iface == y.iface))) (λ u. in_turn came z k n)) members y
        (subst (λ (m : Move). turn_test came n m ≡ true) is e) a) (itself y.router y.iface))
      where
        itself : (q j : ℕ) → ((q == q) && (j == j)) ≡ true
        itself q j = both (eq-eqb q q refl) (eq-eqb j j refl)
          where
            both : (q == q) ≡ true → (j == j) ≡ true → ((q == q) && (j == j)) ≡ true
            both e f = cc

    abbrev pub carries_test : Arrivals → Network → List Move → Bool
    carries_test came n [] = soon_test came n
    carries_test came n (m ∷ ms) = soon_test came n && (turn_test came n m && carries_test (arrived came m) (moved n m).1 ms)

    pub carries_so : (ms : List Move) (n : Network) (came : Arrivals) → carries_test came n ms ≡ true → Carries d started t link members came n ms
    carries_so [] n came e = soon_so came n e
    carries_so (m ∷ ms) n came e = (
      soon_so came n (first_so (soon_test came n) _ e),
      turn_so came n m (first_so (turn_test came n m) _ (second_so (soon_test came n) _ e)),
      carries_so ms (moved n m).1 (arrived came m) (second_so (turn_test came n m) _ (second_so (soon_test came n) _ e)),
    )
