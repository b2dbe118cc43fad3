-- The interfaces of a set, ascending: the first one and the others, and how many there are.
use Rattle.std.{proofs.{Common.{◌≡◌, ◌≢◌, ℕ, zero, suc, ◌+◌, ◌*◌, ◌/◌, ◌%◌, ◌^◌, ◌<◌, ◌≤◌, Bool, true, false, not, ◌&&◌, ◌==◌, refl, ap, sym, ◌∙◌, arith, nat_lt, cond, add-one, List, [], ◌∷◌, filter, map, length, inl, inr, IsTrue, count_ones, bit_and}, lemmas.{List.length-map, Nat.{shr-shr, shr_below, ones_le_self, Bits.{bit_at-trailing_zeros, bit_at_above, bit_at-lt}}, Bool.{cases_order, Decides.nat_tests}}}, specs.{List.{range_with_len, list_all}, Int.{bit_at, bit_not, trailing_zeros, w128}}}
use lib.{Count.{ones_step, ones-le}}
use Rattle.pim_ifset.{proofs.Masks.{and_true, has_empty, has_without, itself}, specs.Members.{Members, has, interfaces, iface_of, passing_below}}
use Rattle.pim_types.{specs.declared.config.IfaceId.IfaceId}

-- p without n
abbrev pub but : (ℕ → Bool) → ℕ → ℕ → Bool
but p n q = p q && not (q == n)

but_other : (p : ℕ → Bool) (n q : ℕ) → q ≢ n → p q ≡ but p n q
but_other p n q other = let e : (q == n) ≡ false = grind (arith, nat_tests) in rw e (and_true (p q))

-- past n the two tests keep the same
past : (p : ℕ → Bool) (n a k : ℕ) → n < a → filter p (range_with_len a k) ≡ filter (but p n) (range_with_len a k)
past p n a zero above = refl
past p n a (suc k) above = grind (arith, past p n (a + 1) k (omega arith), but_other)

-- where n is the first that passes, the numbers that pass are n and those that pass without it
pub least_first : (p : ℕ → Bool) (n a k : ℕ) → p n ≡ true → ((q : ℕ) → a ≤ q → q < n → p q ≡ false) → a ≤ n → n < a + k → filter p (range_with_len a k) ≡ n ∷ filter (but p n) (range_with_len a k)
least_first p n a zero here none from to = absurd (omega arith)
least_first p n a (suc k) here none from to = elim (a == n) as (λ b. (a == n) ≡ b → filter p (range_with_len a (suc k)) ≡ n ∷ filter (but p n) (range_with_len a (suc k))) [
  | true ↦ λ e. let same : a ≡ n = grind (arith, nat_tests) in rw (same, here, itself n) (ap (λ r. n ∷ r) (past p n (n + 1) k (omega arith)))
  | false ↦ λ e.
      let other : a ≢ n = grind (arith, nat_tests) in
      rw (← but_other p n a other, none a (omega arith) (omega arith)) (least_first p n (a + 1) k here (λ q l. none q (omega arith)) (omega arith) (omega arith))
] refl

none_pass : (p : ℕ → Bool) (a k : ℕ) → ((q : ℕ) → p q ≡ false) → filter p (range_with_len a k) ≡ []
none_pass p a zero none = refl
none_pass p a (suc k) none = rw (none a) (none_pass p (a + 1) k none)

no_numbers : (p : ℕ → Bool) (k : ℕ) → ((q : ℕ) → p q ≡ false) → passing_below p k ≡ []
unfolding passing_below
no_numbers p k none = none_pass p 0 k none

first_number : (p r : ℕ → Bool) (n k : ℕ) → p n ≡ true → ((q : ℕ) → q < n → p q ≡ false) → n < k → ((q : ℕ) → r q ≡ but p n q) → passing_below p k ≡ n ∷ passing_below r k
unfolding passing_below
first_number p r n k here none below rest =
    let same : but p n ≡ r = λ i q. sym (rest q) i in
    least_first p n 0 k here (λ q _ l. none q l) (omega arith) (omega arith) ∙ ap (λ f. n ∷ filter f (range_with_len 0 k)) same

-- a set with no bit has no interface
pub interfaces_empty : (t : Bool) → interfaces (record { mask = 0; tunnel = t }) ≡ []
unfolding interfaces
interfaces_empty t = ap (map iface_of) (no_numbers _ 120 (has_empty t))

-- where the lowest bit is
lowest : (m : ℕ) (t : Bool) → 0 < m → m < 2 ^ 120 → (trailing_zeros w128 m < 120) × (has (record { mask = m; tunnel = t }) (trailing_zeros w128 m) ≡ true) × ((q : ℕ) → q < trailing_zeros w128 m → has (record { mask = m; tunnel = t }) q ≡ false)
unfolding has
lowest m t some small =
    let low = bit_at-trailing_zeros w128 m some (omega arith) in
    let within : trailing_zeros w128 m < 120 = elim (cases_order (trailing_zeros w128 m) 120) [
      | inl here ↦ absurd (omega (arith, low.1, bit_at_above m 120 (trailing_zeros w128 m) small (omega arith)))
      | inr (inl below) ↦ below
      | inr (inr above) ↦ absurd (omega (arith, low.1, bit_at_above m 120 (trailing_zeros w128 m) small (omega arith)))
    ] in
    (within, rw low.1, λ q below. rw (low.2 q below))

-- the lowest bit is the first interface, and the others come after it
pub interfaces_first : (m : ℕ) (t : Bool) → 0 < m → m < 2 ^ 120 → interfaces (record { mask = m; tunnel = t }) ≡ iface_of (trailing_zeros w128 m) ∷ interfaces (record { mask = bit_and m (bit_not w128 (1 * 2 ^ trailing_zeros w128 m % 2 ^ 128)); tunnel = t })
unfolding interfaces
interfaces_first m t some small =
    let low = lowest m t some small in
    ap (map iface_of) (first_number _ _ (trailing_zeros w128 m) 120 low.1 low.2 low.0 (λ q. has_without m (trailing_zeros w128 m) t t q small low.0))

first_counted : (d : ℕ) → d < 2 → (a : ℕ) (rest : List ℕ) → length (cond (d == 1) (a ∷ rest) rest) ≡ d + length rest
first_counted d digit a rest = grind arith

-- how many from a on, where no bit is past a + k
ones_from : (m : ℕ) (t : Bool) (a k : ℕ) → m / 2 ^ a < 2 ^ k → length (filter (has (record { mask = m; tunnel = t })) (range_with_len a k)) ≡ count_ones (m / 2 ^ a)
unfolding has
ones_from m t a zero small = omega (arith, ones_le_self (m / 2 ^ a))
ones_from m t a (suc k) small =
    let halved : m / 2 ^ a / 2 ≡ m / 2 ^ (a + 1) = shr-shr m a 1 in
    let small_half : m / 2 ^ (a + 1) < 2 ^ k = rw (← halved) (shr_below (m / 2 ^ a) k 1 (rw (add-one k) small)) in
    rw (ones_step (m / 2 ^ a), halved)
    (first_counted (bit_at m a) (bit_at-lt m a) a (filter (has (record { mask = m; tunnel = t })) (range_with_len (a + 1) k)) ∙ ap (λ n. bit_at m a + n) (ones_from m t (a + 1) k small_half))

ones_below : (m : ℕ) (t : Bool) (k : ℕ) → m < 2 ^ k → length (passing_below (has (record { mask = m; tunnel = t })) k) ≡ count_ones m
unfolding passing_below
ones_below m t k small = let whole : m / 2 ^ 0 ≡ m = omega arith in ones_from m t 0 k (rw whole small) ∙ ap count_ones whole

pub length_interfaces : (m : ℕ) (t : Bool) → m < 2 ^ 120 → length (interfaces (record { mask = m; tunnel = t })) ≡ count_ones m
unfolding interfaces
length_interfaces m t small = rw (length-map (passing_below (has (record { mask = m; tunnel = t })) 120) iface_of) (ones_below m t 120 small)

-- the tunnel says nothing of the interfaces
pub interfaces_tunnel : (m : ℕ) (t u : Bool) → interfaces (record { mask = m; tunnel = t }) ≡ interfaces (record { mask = m; tunnel = u })
unfolding interfaces has
interfaces_tunnel m t u = refl

pub length_interfaces_le : (m : ℕ) (t : Bool) → m < 2 ^ 120 → length (interfaces (record { mask = m; tunnel = t })) ≤ 120
length_interfaces_le m t small = rw (length_interfaces m t small) (ones-le 120 m small)

-- what each interface of s passes
abbrev pub in_set : Members → IfaceId → Bool
in_set s iface = nat_lt iface.number 120 && has s iface.number

each_from : (s : Members) (a k : ℕ) → a + k ≤ 120 → IsTrue (list_all (in_set s) (map iface_of (filter (has s) (range_with_len a k))))
each_from s a zero within = refl
each_from s a (suc k) within = grind (arith, each_from s (a + 1) k (omega arith), nat_tests)

each_below : (s : Members) (k : ℕ) → k ≤ 120 → IsTrue (list_all (in_set s) (map iface_of (passing_below (has s) k)))
unfolding passing_below
each_below s k within = each_from s 0 k (omega arith)

-- each interface that a set lists is in the set, and its number is below 120
pub interfaces_each : (s : Members) → IsTrue (list_all (in_set s) (interfaces s))
unfolding interfaces
interfaces_each s = each_below s 120 (omega arith)
