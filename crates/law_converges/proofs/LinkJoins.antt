-- What routers join comes to be held by the next hop of each: what holds of two, for all.
use Rattle.std.{proofs.Common.{ℕ, ◌+◌, ◌*◌, ◌<◌, ◌≤◌, List, [], ◌∷◌, ◌⊎◌, inl, inr, arith}}
use Rattle.pim_model.{specs.Network.{Move, Network, moved}}
use Rattle.law_streams.{specs.InTimeJoins.{Always, IsBy, IsHeld, IsHeldAfter, Join, Pair, time_at}}
use Rattle.law_converges.{proofs.JoinsOverRpf.joins_over_rpf_are_held, specs.{LinkJoins.{AllComeToBeHeld, AllHeldAfter, HopsPast, IsPairOf, JoinsOver}, RpfJoins.IsNextHop}}

pub too_late : (a b : ℕ) → a ≤ b → b < a → ⊥
too_late a b e f = omega (arith, e, f)

no_sooner : (a b c : ℕ) → a ≤ b → b ≤ c → a ≤ c
no_sooner a b c e f = omega (arith, e, f)

pub first_of : (P : Network → Type 0) (n : Network) (ms : List Move) → Always P n ms → P n
first_of P n [] f = f
first_of P n (m ∷ ms) f = f.0

module _ (x : Join) (g : ℕ) (started : ℕ → ℕ) where
  -- a later bound
  pub later : (c : Pair) (a b : ℕ) → a ≤ b → (ms : List Move) (n : Network) → IsHeldAfter x g started c a n ms → IsHeldAfter x g started c b n ms
  later c a b le [] n f = tt
  later c a b le (m ∷ ms) n f = (go f.0, later c a b le ms (moved n m).1 f.1)
    where
      go : IsBy started c.upper a (moved n m).1 ⊎ IsHeld x g c (moved n m).1 → IsBy started c.upper b (moved n m).1 ⊎ IsHeld x g c (moved n m).1
      go (inl by) = inl (λ st at. no_sooner (time_at started c.upper st) a b (by st at) le)
      go (inr held) = inr held

  module _ (cs : List Pair) (bound : ℕ) where
    walk : (ms : List Move) (n : Network) → ((c : Pair) → IsPairOf cs c → Always (IsNextHop x g c) n ms)
        → ((c : Pair) → IsPairOf cs c → IsHeldAfter x g started c bound n ms) → AllHeldAfter x g started cs bound n ms
    walk [] n there held = tt
    walk (m ∷ ms) n there held = (now, walk ms (moved n m).1 (λ c a. (there c a).1) (λ c a. (held c a).1))
      where
        now : HopsPast started cs bound (moved n m).1 → (c : Pair) → IsPairOf cs c → IsHeld x g c (moved n m).1
        now past c a = go (held c a).0
          where
            here : IsNextHop x g c (moved n m).1
            here = first_of (IsNextHop x g c) (moved n m).1 ms (there c a).1

            go : IsBy started c.upper bound (moved n m).1 ⊎ IsHeld x g c (moved n m).1 → IsHeld x g c (moved n m).1
            go (inl by) =
                absurd (too_late (time_at started c.upper here.above) bound (by here.above here.above_is) (past c here.above a here.above_is))
            go (inr f) = f

pub all_come_to_be_held : AllComeToBeHeld
all_come_to_be_held x g d bound started cs n ms isg few joins =
    walk x g started cs bound ms n (λ c a. (joins c a).there) (λ c a. one c (joins c a))
  where
    one : (c : Pair) → JoinsOver x g d bound started n ms c → IsHeldAfter x g started c bound n ms
    one c f =
        later x g started c ((f.row).end + started c.lower + 2 * d) bound f.by ms n
        (joins_over_rpf_are_held x g d started c n ms f.station f.row isg few f.apart f.lower_ready f.upper_ready f.there f.in_time f.wants f.is f.timer)
