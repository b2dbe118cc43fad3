-- What a mark that is set, or cleared, makes of the marks of a group, or of a source.
use Rattle.std.{proofs.{Common.{◌≡◌, ◌≢◌, ◌==◌, ◌<◌, ◌≤◌, ◌+◌, ◌%◌, ◌^◌, ◌&&◌, ◌||◌, ℕ, zero, suc, Bool, true, false, cond, max, nat_lt, not, Option, Some, None, refl, sym, ap, ◌∙◌, arith}, lemmas.{Bool.Decides.nat_tests, Nat.Bits.{bit_at-lt, bit_at-pow_other, bit_at-pow_same, bit_at_or, bit_at_xor}}}, specs.Int.{bit_at, Bits.bit_or}}
use Rattle.pim_ifset.{specs.Members.{Members, has}, proofs.{Masks.{has_empty, max_test}, Sets.same_members}}
use Rattle.pim_store.{specs.{Entry.{empty_set, is_plain, no_rare, with_bit, with_iface, with_mark, with_plain, without_either, without_rare}, Said.{is_set_by, seen, tunnel_in}, Telling.is_set_by_either, declared.marks.{Mark.{Mark, TheVariants.{Joined, Branched, Pruned, Lost, Won, HasOverrideTimer, HasSource, HasRegister}}, Marks.Marks}}, proofs.Empty.has_none}

-- ---- one interface of a set

power_test : (k q : ℕ) → (bit_at (2 ^ k) q == 1) ≡ (q == k)
power_test k q = elim (q == k) as (λ b. (q == k) ≡ b → (bit_at (2 ^ k) q == 1) ≡ b) [
  | true ↦ λ e. let same : q ≡ k = grind (arith, nat_tests) in rw (same, bit_at-pow_same k)
  | false ↦ λ e. let other : q ≢ k = grind (arith, nat_tests) in rw (bit_at-pow_other k q other)
] refl

off_test : (x y : ℕ) → x < 2 → y < 2 → ((max x y + y) % 2 == 1) ≡ cond (y == 1) false (x == 1)
off_test zero zero a b = refl
off_test zero (suc zero) a b = refl
off_test (suc zero) zero a b = refl
off_test (suc zero) (suc zero) a b = refl
off_test (suc (suc x)) y a b = absurd (omega (arith, a))
off_test x (suc (suc y)) a b = absurd (omega (arith, b))

turned_on : (a c : Bool) → (a || c) ≡ cond c true a
turned_on true true = refl
turned_on true false = refl
turned_on false true = refl
turned_on false false = refl

pub has_with_bit : (i : ℕ) (b : Bool) (s : Members) (q : ℕ) → has (with_bit i b s) q ≡ cond (q == i) b (has s q)
unfolding has with_bit
has_with_bit i true s q =
    ap (λ (n : ℕ). n == 1) (bit_at_or s.mask (2 ^ i) q)
    ∙ max_test (bit_at s.mask q) (bit_at (2 ^ i) q) (bit_at-lt s.mask q) (bit_at-lt (2 ^ i) q)
    ∙ ap (λ (c : Bool). (bit_at s.mask q == 1) || c) (power_test i q)
    ∙ turned_on (bit_at s.mask q == 1) (q == i)
has_with_bit i false s q =
    ap (λ (n : ℕ). n == 1) (bit_at_xor (bit_or s.mask (2 ^ i)) (2 ^ i) q
    ∙ ap (λ (n : ℕ). (n + bit_at (2 ^ i) q) % 2) (bit_at_or s.mask (2 ^ i) q))
    ∙ off_test (bit_at s.mask q) (bit_at (2 ^ i) q) (bit_at-lt s.mask q) (bit_at-lt (2 ^ i) q)
    ∙ ap (λ (c : Bool). cond c false (bit_at s.mask q == 1)) (power_test i q)

pub tunnel_with_bit : (i : ℕ) (b : Bool) (s : Members) → (with_bit i b s).tunnel ≡ s.tunnel
unfolding with_bit
tunnel_with_bit i true s = refl
tunnel_with_bit i false s = refl

module _ (i : ℕ) (s : Members) where
  pub has_with : (b : Bool) → i < 120 → (q : ℕ) → has (with_iface i b s) q ≡ cond (q == i) b (has s q)
  has_with b below q =
      has_with_bit i (b && nat_lt i 120) s q ∙ ap (λ (c : Bool). cond (q == i) c (has s q)) (within b)
    where
      small : nat_lt i 120 ≡ true
      small = grind (arith, nat_tests)

      within : (b : Bool) → (b && nat_lt i 120) ≡ b
      within true = small
      within false = refl

  -- the set that a call makes
  pub put_in : (t : Members) (b : Bool) → b ≡ true → i < 120 → ((q : ℕ) → has t q ≡ (q == i || has s q))
      → t.tunnel ≡ s.tunnel → t ≡ with_iface i b s
  put_in t b is below all tunnel =
      same_members t (with_iface i b s)
      (λ q. all q ∙ joined (q == i) (has s q) ∙ ap (λ (c : Bool). cond (q == i) c (has s q)) (sym is)
      ∙ sym (has_with b below q))
      (tunnel ∙ sym (tunnel_with_bit i (b && nat_lt i 120) s))
    where
      joined : (a c : Bool) → (a || c) ≡ cond a true c
      joined true c = refl
      joined false c = refl

  pub put_out : (t : Members) (b : Bool) → (b && nat_lt i 120) ≡ false
      → ((q : ℕ) → has t q ≡ (has s q && not (q == i))) → t.tunnel ≡ s.tunnel → t ≡ with_iface i b s
  put_out t b is all tunnel =
      same_members t (with_iface i b s)
      (λ q. all q ∙ left (q == i) (has s q) ∙ ap (λ (c : Bool). cond (q == i) c (has s q)) (sym is)
      ∙ sym (has_with_bit i (b && nat_lt i 120) s q))
      (tunnel ∙ sym (tunnel_with_bit i (b && nat_lt i 120) s))
    where
      left : (a c : Bool) → (c && not a) ≡ cond a false c
      left true true = refl
      left true false = refl
      left false true = refl
      left false false = refl

pub above_limit : (i : ℕ) (b : Bool) → 120 ≤ i → (b && nat_lt i 120) ≡ false
above_limit i true above = grind (arith, nat_tests)
above_limit i false above = refl

-- ---- sets that few have

none_left : (i : ℕ) → empty_set ≡ with_iface i false empty_set
none_left i =
    sym (has_none (with_iface i false empty_set)
    (λ q. has_with_bit i false empty_set q ∙ ap (λ (c : Bool). cond (q == i) false c) (has_empty false q) ∙ no (q == i))
    (tunnel_with_bit i false empty_set))
  where
    no : (b : Bool) → cond b false false ≡ false
    no true = refl
    no false = refl

pub nothing_to_clear : (x : Mark) (i : ℕ) → no_rare ≡ without_rare x i no_rare
nothing_to_clear Branched i = ap (λ (s : Members). record no_rare { branched = s }) (none_left i)
nothing_to_clear Pruned i = ap (λ (s : Members). record no_rare { pruned = s }) (none_left i)
nothing_to_clear Lost i = ap (λ (s : Members). record no_rare { lost = s }) (none_left i)
nothing_to_clear Won i = ap (λ (s : Members). record no_rare { won = s }) (none_left i)
nothing_to_clear _ i = refl

-- ---- marks

pub seen_with : (k : Mark) (n : ℕ) (b : Bool) (m : Marks) → n < 120 → (x : Mark) (i : ℕ)
    → seen x (with_mark k n b m) i ≡ cond (is_set_by k n x i) b (seen x m i)
seen_with Joined n b m below Joined i = has_with n m.joined b below i
seen_with Branched n b m below Branched i = has_with n m.branched b below i
seen_with Pruned n b m below Pruned i = has_with n m.pruned b below i
seen_with Lost n b m below Lost i = has_with n m.lost b below i
seen_with Won n b m below Won i = has_with n m.won b below i
seen_with HasOverrideTimer n b m below HasOverrideTimer i = refl
seen_with HasSource n b m below HasSource i = refl
seen_with HasRegister n b m below HasRegister i = refl
seen_with _ n b m below _ i = refl

pub tunnel_with : (x k : Mark) (n : ℕ) (b : Bool) (m : Marks) → tunnel_in x (with_mark k n b m) ≡ tunnel_in x m
tunnel_with Joined Joined n b m = tunnel_with_bit n (b && nat_lt n 120) m.joined
tunnel_with Branched Branched n b m = tunnel_with_bit n (b && nat_lt n 120) m.branched
tunnel_with Pruned Pruned n b m = tunnel_with_bit n (b && nat_lt n 120) m.pruned
tunnel_with Lost Lost n b m = tunnel_with_bit n (b && nat_lt n 120) m.lost
tunnel_with Won Won n b m = tunnel_with_bit n (b && nat_lt n 120) m.won
tunnel_with _ _ n b m = refl

pub tunnel_with_plain : (k : Mark) (n : ℕ) (b : Bool) (m : Marks) (x : Mark)
    → tunnel_in x (with_plain k n b m) ≡ tunnel_in x m
tunnel_with_plain k n b m x = go (is_plain k)
  where
    go : (c : Bool) → tunnel_in x (cond c (with_mark k n b m) m) ≡ tunnel_in x m
    go true = tunnel_with x k n b m
    go false = refl

pub tunnel_without : (first : Mark) (second : Option Mark) (n : ℕ) (m : Marks) (x : Mark)
    → tunnel_in x (without_either first second n m) ≡ tunnel_in x m
tunnel_without first None n m x = tunnel_with x first n false m
tunnel_without first (Some second) n m x =
    tunnel_with x second n false (with_mark first n false m) ∙ tunnel_with x first n false m

pub seen_without : (first : Mark) (second : Option Mark) (n : ℕ) (m : Marks) → n < 120 → (x : Mark) (i : ℕ)
    → seen x (without_either first second n m) i ≡ cond (is_set_by_either (first, second) n x i) false (seen x m i)
seen_without first None n m below x i = seen_with first n false m below x i ∙ alone (is_set_by first n x i)
  where
    alone : (a : Bool) → cond a false (seen x m i) ≡ cond (a || false) false (seen x m i)
    alone true = refl
    alone false = refl
seen_without first (Some second) n m below x i =
    seen_with second n false (with_mark first n false m) below x i
    ∙ ap (λ (v : Bool). cond (is_set_by second n x i) false v) (seen_with first n false m below x i)
    ∙ joined (is_set_by first n x i) (is_set_by second n x i)
  where
    joined : (a c : Bool) → cond c false (cond a false (seen x m i)) ≡ cond (a || c) false (seen x m i)
    joined true true = refl
    joined true false = refl
    joined false true = refl
    joined false false = refl

-- ---- the Join timer stays

pub timer_with : (k : Mark) (n : ℕ) (b : Bool) (m : Marks) → (with_mark k n b m).join_timer ≡ m.join_timer
timer_with Joined n b m = refl
timer_with Branched n b m = refl
timer_with Pruned n b m = refl
timer_with Lost n b m = refl
timer_with Won n b m = refl
timer_with HasOverrideTimer n b m = refl
timer_with HasSource n b m = refl
timer_with HasRegister n b m = refl

pub timer_with_plain : (k : Mark) (n : ℕ) (b : Bool) (m : Marks) → (with_plain k n b m).join_timer ≡ m.join_timer
timer_with_plain k n b m = go (is_plain k)
  where
    go : (c : Bool) → (cond c (with_mark k n b m) m).join_timer ≡ m.join_timer
    go true = timer_with k n b m
    go false = refl

pub timer_without : (first : Mark) (second : Option Mark) (n : ℕ) (m : Marks)
    → (without_either first second n m).join_timer ≡ m.join_timer
timer_without first None n m = timer_with first n false m
timer_without first (Some second) n m =
    timer_with second n false (with_mark first n false m) ∙ timer_with first n false m
