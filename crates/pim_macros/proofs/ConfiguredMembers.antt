-- The configured interfaces of a set, as the numbers that pass the test that it shows.
use Rattle.std.{proofs.{Common.{◌≡◌, ℕ, zero, suc, ◌+◌, ◌-◌, ◌<◌, ◌≤◌, Bool, true, false, ◌&&◌, nat_lt, List, [], ◌∷◌, filter, map, cond, refl, ap, zero-add, ◌∙◌, arith}, lemmas.Bool.Decides.nat_tests}, specs.List.range_with_len}
use Rattle.pim_ifset.{specs.Members.{Members, has, iface_of, interfaces, passing_below}}
use Rattle.pim_types.{specs.declared.config.IfaceId.IfaceId}

numbers_of_interfaces : (ns : List ℕ) → map (λ (iface : IfaceId). iface.number) (map iface_of ns) ≡ ns
numbers_of_interfaces [] = refl
numbers_of_interfaces (n ∷ ns) = ap (λ ms. n ∷ ms) (numbers_of_interfaces ns)

none_passes : (p : ℕ → Bool) (a k : ℕ) → ((i : ℕ) → a ≤ i → p i ≡ false) → filter p (range_with_len a k) ≡ []
none_passes p a zero none = refl
none_passes p a (suc k) none =
    rw (none a (omega arith)) (none_passes p (a + 1) k (λ i above. none i (omega arith)))

passing_first : (p test : ℕ → Bool) (a k m : ℕ) → ((i : ℕ) → i < a + k → p i ≡ test i)
    → ((i : ℕ) → a + k ≤ i → p i ≡ false) → filter p (range_with_len a (k + m)) ≡ filter test (range_with_len a k)
passing_first p test a zero m same none = rw (zero-add m) (none_passes p a m (λ i above. none i (omega arith)))
passing_first p test a (suc k) m same none =
    let e : suc k + m ≡ suc (k + m) = omega arith in
    let rest = passing_first p test (a + 1) k m (λ i below. same i (omega arith)) (λ i above. none i (omega arith)) in
    rw (e, same a (omega arith)) (ap (λ ns. cond (test a) (a ∷ ns) ns) rest)

pub numbers_of_members : (both : Members) (test : ℕ → Bool) (n : ℕ) → n ≤ 120
    → ((i : ℕ) → has both i ≡ ((nat_lt i 120 && test i) && nat_lt i n))
    → map (λ (iface : IfaceId). iface.number) (interfaces both) ≡ filter test (range_with_len 0 n)
unfolding interfaces passing_below
numbers_of_members both test n within shown =
    let whole : 120 ≡ n + (120 - n) = omega arith in
    numbers_of_interfaces (filter (has both) (range_with_len 0 120))
    ∙ ap (λ m. filter (has both) (range_with_len 0 m)) whole
    ∙ passing_first (has both) test 0 n (120 - n)
    (λ i below. let e : nat_lt i n ≡ true = grind (arith, nat_tests) in
    let f : nat_lt i 120 ≡ true = grind (arith, nat_tests) in rw (shown i, e, f) (grind arith))
    (λ i above. let e : nat_lt i n ≡ false = grind (arith, nat_tests) in rw (shown i, e) (grind arith))
