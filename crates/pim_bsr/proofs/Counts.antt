-- Which messages count, and where they are sent on.
use Rattle.std.{proofs.{Common.{◌≡◌, ℕ, zero, suc, ◌+◌, ◌<◌, ◌≤◌, Bool, true, false, not, cond, nat_lt, ◌&&◌, ◌==◌, List, ◌∷◌, filter, Option, Some, None, refl, sym, ap, ◌∙◌, arith, inl, inr}, lemmas.Bool.{cases_lt, Decides.nat_tests}}, specs.{List.range_with_len, Prelude.if◌then◌else◌}}
use Rattle.pim_bootstrap.{specs.Bootstraps.Bootstrap}
use Rattle.pim_bsr.{specs.{Hearing.{Around, has_room, heard, heard_if, is_repeated, is_sent_on, room_or, sent_on, takes_memory, why_checked, why_not, why_sender}, Laws.{CameFromRpf, SentOnOnce, WasPreferred, is_taken, times_in}, Table.{Known}, declared.{heard.Why.Why}}}

-- a message counts where no test fails
pub counts : (s : Around) (k : Known) (i src : ℕ) (b : List ℕ) (m : Bootstrap) → is_taken (heard s k i src b m).answer ≡ true
    → why_not s k i src m ≡ None
unfolding heard
counts s k i src b m h = go (why_not s k i src m) h
  where
    go : (w : Option Why) → is_taken (heard_if s k i b m w).answer ≡ true → w ≡ None
    go None h = refl
    go (Some w) h = cc

from_sender : (s : Around) (k : Known) (i src : ℕ) (b : List ℕ) (m : Bootstrap) → is_taken (heard s k i src b m).answer ≡ true
    → why_sender s k i src m ≡ None
unfolding why_not
from_sender s k i src b m h = go (why_sender s k i src m) (has_room s k m) (counts s k i src b m h)
  where
    go : (o : Option Why) (b : Bool) → room_or b o ≡ None → o ≡ None
    go None b e = refl
    go (Some why) b e = cc

-- memory is taken where a message isn't ignored by its sender and its BSR
pub memory_taken : (s : Around) (k : Known) (i src : ℕ) (b : List ℕ) (m : Bootstrap) → why_sender s k i src m ≡ None
    → takes_memory (heard s k i src b m).answer ≡ true
unfolding heard why_not
memory_taken s k i src b m none = go (why_sender s k i src m) none (has_room s k m)
  where
    go : (o : Option Why) → o ≡ None → (room : Bool) → takes_memory (heard_if s k i b m (room_or room o)).answer ≡ true
    go None e true = refl
    go None e false = refl
    go (Some why) e room = cc

pub came_from_rpf : CameFromRpf
unfolding why_checked why_sender
came_from_rpf s k i src b m h forward =
    let none = from_sender s k i src b m h in grind (arith, none, forward)

pub was_preferred : WasPreferred
unfolding why_checked why_sender
was_preferred s k i src b m e h elected =
    let none = from_sender s k i src b m h in grind (arith, none, elected)

-- ---- how often a number stands among those that pass

module _ (test : ℕ → Bool) (j : ℕ) where
  -- not below the first
  absent : (n k : ℕ) → j < k → times_in j (filter test (range_with_len k n)) ≡ 0
  absent zero k h = refl
  absent (suc n) k h = go (test k) refl (absent n (k + 1) (omega (arith, h)))
    where
      other : (k == j) ≡ false
      other = grind (arith, nat_tests, h)

      go : (b : Bool) → test k ≡ b → times_in j (filter test (range_with_len (k + 1) n)) ≡ 0
          → times_in j (cond b (k ∷ filter test (range_with_len (k + 1) n)) (filter test (range_with_len (k + 1) n))) ≡ 0
      go true is later = rw other later
      go false is later = later

  -- not past the last
  beyond : (n k : ℕ) → k + n ≤ j → times_in j (filter test (range_with_len k n)) ≡ 0
  beyond zero k h = refl
  beyond (suc n) k h = go (test k) (beyond n (k + 1) (omega (arith, h)))
    where
      other : (k == j) ≡ false
      other = let less : k < j = omega (arith, h) in grind (arith, nat_tests, less)

      go : (b : Bool) → times_in j (filter test (range_with_len (k + 1) n)) ≡ 0
          → times_in j (cond b (k ∷ filter test (range_with_len (k + 1) n)) (filter test (range_with_len (k + 1) n))) ≡ 0
      go true later = rw other later
      go false later = later

  -- once between
  once : (n k : ℕ) → k ≤ j → j < k + n → times_in j (filter test (range_with_len k n)) ≡ cond (test j) 1 0
  once zero k low high = absurd (omega (arith, low, high))
  once (suc n) k low high = elim (cases_lt k j) [
    | inl less ↦ passed less (test k) (once n (k + 1) (omega (arith, less)) (omega (arith, high)))
    | inr there ↦ here (omega (arith, low, there)) (test k) refl
  ]
    where
      passed : k < j → (b : Bool) → times_in j (filter test (range_with_len (k + 1) n)) ≡ cond (test j) 1 0
          → times_in j (cond b (k ∷ filter test (range_with_len (k + 1) n)) (filter test (range_with_len (k + 1) n))) ≡ cond (test j) 1 0
      passed less true later = let other : (k == j) ≡ false = grind (arith, nat_tests, less) in rw other later
      passed less false later = later

      here : k ≡ j → (b : Bool) → test k ≡ b
          → times_in j (cond b (k ∷ filter test (range_with_len (k + 1) n)) (filter test (range_with_len (k + 1) n))) ≡ cond (test j) 1 0
      here same true is =
          let equal : (k == j) ≡ true = grind (arith, nat_tests, same) in
          let passes : test j ≡ true = ap test (sym same) ∙ is in
          rw (equal, absent n (k + 1) (omega (arith, same)), passes) refl
      here same false is =
          let fails : test j ≡ false = ap test (sym same) ∙ is in
          rw (absent n (k + 1) (omega (arith, same)), fails) refl

among_ifaces : (test : ℕ → Bool) (j n : ℕ) → times_in j (filter test (range_with_len 0 n)) ≡ (if nat_lt j n && test j then 1 else 0)
among_ifaces test j n = elim (cases_lt j n) [
  | inl there ↦
      let is : nat_lt j n ≡ true = grind (arith, nat_tests, there) in
      rw is (once test j n 0 (omega arith) (omega (arith, there)))
  | inr past ↦
      let is : nat_lt j n ≡ false = grind (arith, nat_tests, past) in
      rw is (beyond test j n 0 (omega (arith, past)))
]

pub sent_on_once : SentOnOnce
unfolding sent_on is_sent_on
sent_on_once s k i b m j forward =
    rw forward
    (among_ifaces (is_sent_on s k i b) j s.count
    ∙ regrouped (nat_lt j s.count) (s.linked j) (not ((j == i) && is_repeated s k b)))
  where
    regrouped : (a b c : Bool) → ◌≡◌ {A = ℕ} (if a && (b && c) then 1 else 0) (if (a && b) && c then 1 else 0)
    regrouped true b c = refl
    regrouped false b c = refl
