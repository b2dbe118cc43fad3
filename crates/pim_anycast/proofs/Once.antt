-- Addresses that are listed once, from one place on.
use Rattle.std.{proofs.{Common.{◌≡◌, ◌==◌, ℕ, suc, ◌+◌, ◌<◌, Bool, true, false, not, ◌&&◌, List, [], ◌∷◌, length, map, get_or, drop, refl, sym, add-one, eq-eqb, eqb-true}, Math.Seq.drop-cons}, specs.List.list_any}
use Rattle.pim_ip.{specs.declared.addr.Addr.Addr}
use Rattle.pim_model.{specs.Limits.are_once}
use Rattle.pim_anycast.{specs.{Sets.is_shared, declared.set.RpSet.RpSet}}

-- equality of addresses, read from either side
either_side : (m n : ℕ) → (m == n) ≡ (n == m)
either_side m n = go (m == n) (n == m) refl refl
  where
    go : (b c : Bool) → (m == n) ≡ b → (n == m) ≡ c → b ≡ c
    go true true e f = refl
    go false false e f = refl
    go true false e f = let is : (n == m) ≡ true = eq-eqb n m (sym (eqb-true m n e)) in cc
    go false true e f = let is : (m == n) ≡ true = eq-eqb m n (sym (eqb-true n m f)) in cc

pub listed_either_side : (n : ℕ) (xs : List Addr)
    → list_any (λ (b : Addr). n == b.bits) xs ≡ list_any (λ (b : Addr). b.bits == n) xs
listed_either_side n [] = refl
listed_either_side n (x ∷ xs) = rw (either_side n x.bits, listed_either_side n xs) refl

pub are_once-drop : (xs : List Addr) (n : ℕ) (d : Addr) → n < length xs
    → are_once (drop n xs)
    ≡ (not (list_any (λ (b : Addr). b.bits == (get_or xs n d).bits) (drop (n + 1) xs)) && are_once (drop (n + 1) xs))
unfolding are_once
are_once-drop xs n d within =
    rw (add-one, drop-cons xs n d within, listed_either_side (get_or xs n d).bits (drop (suc n) xs)) refl

-- ---- shared addresses

abbrev pub shared_addresses : List RpSet → List Addr
shared_addresses sets = map (λ (set : RpSet). set.shared) sets

pub shared_listed : (n : ℕ) (sets : List RpSet)
    → list_any (λ (b : Addr). n == b.bits) (shared_addresses sets) ≡ is_shared sets n
shared_listed n [] = refl
shared_listed n (set ∷ sets) = rw (either_side n set.shared.bits, shared_listed n sets) refl

pub shared_once-drop : (sets : List RpSet) (n : ℕ) (d : RpSet) → n < length sets
    → are_once (shared_addresses (drop n sets))
    ≡ (not (is_shared (drop (n + 1) sets) (get_or sets n d).shared.bits) && are_once (shared_addresses (drop (n + 1) sets)))
unfolding are_once
shared_once-drop sets n d within =
    rw (add-one, drop-cons sets n d within, shared_listed (get_or sets n d).shared.bits (drop (suc n) sets)) refl
