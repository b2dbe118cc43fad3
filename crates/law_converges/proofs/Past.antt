-- What holds past a bound, together.
use Rattle.std.{proofs.Common.{Bool, List, None, Option, Some, [], ap, arith, eqb-true, false, inl, inr, refl, subst, sym, true, ℕ, ◌+◌, ◌<◌, ◌==◌, ◌∙◌, ◌∷◌, ◌≡◌, ◌≤◌, ◌⊎◌}, specs.{List.AllByRecursion, Option.option_map_or}}
use Rattle.pim_types.{specs.declared.event.Event.Event}
use Rattle.pim_model.{specs.{Network.{Move, Network, Station, bad_move, event_of, moved, moved_at, station_at, stepped}, Step.step}}
use Rattle.law_streams.{proofs.{Deliveries.is_stepped, Pairs.{Steps, one_router, same_station}, Shared.present_later}, specs.InTimeJoins.{Always, time_at}}
use Rattle.law_converges.{proofs.LinkJoins.first_of, specs.Past.{ArePast, HoldsPast, HoldsPastOn}}

-- ---- no router comes in by a move

pub no_station : (n : Network) (m : Move) (r : ℕ) (st : Station) → station_at n r ≡ None → station_at (moved n m).1 r ≡ Some st → ⊥
unfolding moved moved_at
no_station n m r st none at = go (event_of n m) at
  where
    gone : (x : Network) → station_at x r ≡ station_at n r → station_at x r ≡ Some st → ⊥
    gone x same is = contradicts (sym none ∙ (sym same ∙ is))
      where
        contradicts : (let o : Option Station = None in o) ≡ Some st → ⊥
        contradicts e = cc e

    stepped_there : (q : ℕ) (e : Event) (o : Option Station) → station_at n q ≡ o
        → station_at (option_map_or (stepped n q e) o (bad_move, n)).1 r ≡ Some st → ⊥
    stepped_there q e None is h = gone n refl h
    stepped_there q e (Some old) is h = beside (q == r) refl
      where
        beside : (b : Bool) → (q == r) ≡ b → ⊥
        beside false off = gone (stepped n q e old).1 ((is_stepped n q old e is).beside r off) h
        beside true same = contradicts (sym none ∙ (ap (λ (z : ℕ). station_at n z) (sym (eqb-true q r same)) ∙ is))
          where
            contradicts : (let o : Option Station = None in o) ≡ Some old → ⊥
            contradicts e = cc e

    go : (o : Option (ℕ × Event)) → station_at (option_map_or (moved_at n) o (bad_move, n)).1 r ≡ Some st → ⊥
    go None h = gone n refl h
    go (Some e) h = stepped_there e.0 e.1 (station_at n e.0) refl h

-- ---- from a bound on

module _ (started : ℕ → ℕ) (bound : ℕ) where
  pub past_then : (n : Network) (m : Move) → ArePast started bound n → ArePast started bound (moved n m).1
  past_then n m past r st at = go (station_at n r) refl
    where
      further : (a b c : ℕ) → a ≤ b → bound < a + c → bound < b + c
      further a b c e lt = omega (arith, e, lt)

      go : (o : Option Station) → station_at n r ≡ o → bound < time_at started r st
      go None none = absurd (no_station n m r st none at)
      go (Some old) is = by (one_router n m r old is)
        where
          by : (station_at (moved n m).1 r ≡ Some old) ⊎ Steps n m r old → bound < time_at started r st
          by (inl same) = subst (λ (z : Station). bound < time_at started r z) (same_station same at) (past r old is)
          by (inr s) =
              subst (λ (z : Station). bound < time_at started r z) (same_station (s.stepped).here at)
              (further (old.state).present ((step old.state s.event).state).present (started r) (present_later old.state s.event) (past r old is))

  -- what holds past the bound holds from then on always
  pub from_then_on : (P : Network → Type 0) (ms : List Move) (n : Network) → ArePast started bound n → P n → HoldsPast started bound P n ms
      → Always P n ms
  from_then_on P [] n past p f = p
  from_then_on P (m ∷ ms) n past p f =
      (p, from_then_on P ms (moved n m).1 (past_then n m past) (f.0 (past_then n m past)) f.1)

  pub both_past : (P Q R : Network → Type 0) → ((n : Network) → P n → Q n → R n) → (ms : List Move) (n : Network)
      → HoldsPast started bound P n ms → HoldsPast started bound Q n ms → HoldsPast started bound R n ms
  both_past P Q R both [] n f g = tt
  both_past P Q R both (m ∷ ms) n f g =
      (λ past. both (moved n m).1 (f.0 past) (g.0 past), both_past P Q R both ms (moved n m).1 f.1 g.1)

  pub same_past : (P R : Network → Type 0) → ((n : Network) → P n → R n) → (ms : List Move) (n : Network) → HoldsPast started bound P n ms
      → HoldsPast started bound R n ms
  same_past P R so [] n f = tt
  same_past P R so (m ∷ ms) n f = (λ past. so (moved n m).1 (f.0 past), same_past P R so ms (moved n m).1 f.1)

  pub always_past : (P : Network → Type 0) → ((n : Network) → P n) → (ms : List Move) (n : Network) → HoldsPast started bound P n ms
  always_past P f [] n = tt
  always_past P f (m ∷ ms) n = (λ past. f (moved n m).1, always_past P f ms (moved n m).1)

  pub each_past : {X : Type 0} (P : X → Network → Type 0) (xs : List X) (n : Network) (ms : List Move)
      → AllByRecursion (λ x. HoldsPast started bound (P x) n ms) xs
      → HoldsPast started bound (λ n. AllByRecursion (λ x. P x n) xs) n ms
  each_past P [] n ms f = always_past (λ n. AllByRecursion (λ x. P x n) []) (λ n. tt) ms n
  each_past P (x ∷ xs) n ms f =
      both_past (P x) (λ n. AllByRecursion (λ x. P x n) xs) (λ n. AllByRecursion (λ x. P x n) (x ∷ xs)) (λ n a b. (a, b)) ms n f.0
      (each_past P xs n ms f.1)

  pub throughout_past : (P : Network → Type 0) (ms : List Move) (n : Network) → Always P n ms → HoldsPast started bound P n ms
  throughout_past P [] n f = tt
  throughout_past P (m ∷ ms) n f = (λ past. first_of P (moved n m).1 ms f.1, throughout_past P ms (moved n m).1 f.1)

  pub later_past_on : (sooner : ℕ) → sooner ≤ bound → (P : Network → List Move → Type 0) (ms : List Move) (n : Network)
      → HoldsPastOn started sooner P n ms → HoldsPastOn started bound P n ms
  later_past_on sooner le P [] n f = tt
  later_past_on sooner le P (m ∷ ms) n f =
      (λ past. f.0 (λ r st at. further (time_at started r st) (past r st at)), later_past_on sooner le P ms (moved n m).1 f.1)
    where
      further : (t : ℕ) → bound < t → sooner < t
      further t lt = omega (arith, le, lt)

  -- past a later bound
  pub later_past : (sooner : ℕ) → sooner ≤ bound → (P : Network → Type 0) (ms : List Move) (n : Network)
      → HoldsPast started sooner P n ms → HoldsPast started bound P n ms
  later_past sooner le P [] n f = tt
  later_past sooner le P (m ∷ ms) n f =
      (λ past. f.0 (λ r st at. further (time_at started r st) (past r st at)), later_past sooner le P ms (moved n m).1 f.1)
    where
      further : (t : ℕ) → bound < t → sooner < t
      further t lt = omega (arith, le, lt)
