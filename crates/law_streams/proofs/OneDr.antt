-- Of two routers that know each other at most one is the DR.
use Rattle.std.{proofs.{Common.{◌≡◌, ◌∙◌, ℕ, ◌==◌, nat_lt, ◌&&◌, ◌||◌, not, Bool, true, false, cond, List, [], ◌∷◌, ◌⊎◌, inl, inr, filter, Option, Some, refl, sym, ap, subst, arith, eq-eqb, if◌then◌else◌}, lemmas.{Bool.{Decides.nat_tests}}}, specs.{List.{AllByRecursion, list_any}, Prelude.unwrap_or}}
use Rattle.pim_types.{specs.{Keys.{is_on, neighbour_key, same_key, source_in}, declared.fact.{Key.Key, NeighbourRow.NeighbourRow}}, proofs.Keys.{equal_keys}}
use Rattle.pim_model.{specs.{Neighbours.{all_have_priority, is_better_dr, is_dr, is_dr_among, neighbours_on}, State.{State, my_address, my_priority}, Tables.{Table, row_at, rows_on}}}
use Rattle.law_streams.{specs.OneDr.{Among, AtLeastOneDr, AtMostOneDr, IsOf, Knows, KnowsOnly, Seat}}

own_on : (i a : ℕ) → is_on i (neighbour_key i a) ≡ true
own_on i a = eq-eqb i i refl

-- where a row is, at the first place or later
first_row : (k : Key) (x : Key × NeighbourRow) (xs : Table NeighbourRow) (row : NeighbourRow) → row_at (x ∷ xs) k ≡ Some row
    → same_key k x.0 ≡ true → x.1 ≡ row
unfolding row_at
first_row k x xs row found same = grind arith

later_row : (k : Key) (x : Key × NeighbourRow) (xs : Table NeighbourRow) (row : NeighbourRow) → row_at (x ∷ xs) k ≡ Some row
    → same_key k x.0 ≡ false → row_at xs k ≡ Some row
unfolding row_at
later_row k x xs row found off = grind arith

no_row : (k : Key) (row : NeighbourRow) → row_at [] k ≡ Some row → ⊥
unfolding row_at
no_row k row e = cc e

module _ (p : Key × NeighbourRow → Bool) (q : Key × NeighbourRow → Bool) where
  or_left : (b c : Bool) → (b || c) ≡ false → b ≡ false
  or_left b c e = grind arith

  or_right : (b c : Bool) → (b || c) ≡ false → c ≡ false
  or_right b c e = grind arith

  differ : false ≡ true → ⊥
  differ e = cc e

  none_of : (x : Key × NeighbourRow) (xs : Table NeighbourRow) → list_any p (filter q (x ∷ xs)) ≡ false
      → (q x ≡ true → p x ≡ false) × (list_any p (filter q xs) ≡ false)
  none_of x xs e = go (q x) e
    where
      go : (b : Bool) → list_any p (cond b (x ∷ filter q xs) (filter q xs)) ≡ false → (b ≡ true → p x ≡ false) × (list_any p (filter q xs) ≡ false)
      go true e = (λ on. or_left (p x) (list_any p (filter q xs)) e, or_right (p x) (list_any p (filter q xs)) e)
      go false e = (λ on. absurd (differ on), e)

module _ (p : Key × NeighbourRow → Bool) (i a : ℕ) (row : NeighbourRow) where
  -- what no row on the interface passes, the neighbour's doesn't
  none_passes : (t : Table NeighbourRow) → row_at t (neighbour_key i a) ≡ Some row → list_any p (rows_on i t) ≡ false
      → p (neighbour_key i a, row) ≡ false
  unfolding rows_on
  none_passes [] found none = absurd (no_row (neighbour_key i a) row found)
  none_passes (x ∷ xs) found none =
      let two = none_of p (λ (e : Key × NeighbourRow). is_on i e.0) x xs none in
      go (same_key (neighbour_key i a) x.0) refl two.0 (λ later. none_passes xs later two.1)
    where
      go : (b : Bool) → same_key (neighbour_key i a) x.0 ≡ b → (is_on i x.0 ≡ true → p x ≡ false)
          → (row_at xs (neighbour_key i a) ≡ Some row → p (neighbour_key i a, row) ≡ false)
          → p (neighbour_key i a, row) ≡ false
      go true same here later =
          let key : neighbour_key i a ≡ x.0 = equal_keys (neighbour_key i a) x.0 same in
          let is : x.1 ≡ row = first_row (neighbour_key i a) x xs row found same in
          let there : is_on i x.0 ≡ true = ap (is_on i) (sym key) ∙ own_on i a in
          subst (λ (k : Key). p (k, row) ≡ false) (sym key) (subst (λ (r : NeighbourRow). p (x.0, r) ≡ false) is (here there))
      go false off here later = later (later_row (neighbour_key i a) x xs row found off)

-- mine is beaten by theirs
abbrev better : Bool → (mine at theirs from : ℕ) → Bool
better b mine at theirs from = if b && not (theirs == mine) then nat_lt mine theirs else nat_lt at from

not_true : (b : Bool) → not b ≡ true → b ≡ false
not_true b e = grind arith

no_better : (s : State) (i a q : ℕ) → Knows s i a q → is_dr s i ≡ true
    → better (all_have_priority (neighbours_on s i)) (my_priority s i) (my_address s i) q a ≡ false
unfolding is_dr is_dr_among is_better_dr
no_better s i a q k dr =
    let none : is_better_dr (all_have_priority (neighbours_on s i)) (my_priority s i) (my_address s i) (neighbour_key i a, k.row) ≡ false =
    none_passes (is_better_dr (all_have_priority (neighbours_on s i)) (my_priority s i) (my_address s i)) i a k.row s.neighbours k.found (not_true _ dr) in
    ap (λ (o : Option ℕ). better (all_have_priority (neighbours_on s i)) (my_priority s i) (my_address s i) (unwrap_or o 0) a) (sym k.announced) ∙ none

one_wins : (b : Bool) (p a q c : ℕ) → (a == c) ≡ false → better b p a q c ≡ false → better b q c p a ≡ false → ⊥
one_wins b p a q c apart e f = go b (p == q) refl (q == p) refl e f
  where
    both_equal : nat_lt a c ≡ false → nat_lt c a ≡ false → ⊥
    both_equal e f = grind (arith, nat_tests, apart, e, f)

    go : (b u : Bool) → (p == q) ≡ u → (v : Bool) → (q == p) ≡ v → better b p a q c ≡ false → better b q c p a ≡ false → ⊥
    go false u is v at e f = both_equal e f
    go true u is v at e f = grind (arith, nat_tests, apart, is, at, e, f)

pub at_most_one_dr : AtMostOneDr
at_most_one_dr s t i j f dr = go (is_dr t j) refl
  where
    go : (b : Bool) → is_dr t j ≡ b → b ≡ false
    go false is = refl
    go true is =
        absurd (one_wins (all_have_priority (neighbours_on s i)) (my_priority s i) (my_address s i) (my_priority t j) (my_address t j) f.apart
        (no_better s i (my_address t j) (my_priority t j) f.there dr)
        (ap (λ (b : Bool). better b (my_priority t j) (my_address t j) (my_priority s i) (my_address s i)) f.alike
        ∙ no_better t j (my_address s i) (my_priority s i) f.here is))

-- ---- at least one

abbrev prio : Seat → ℕ
prio x = my_priority x.state x.iface

abbrev addr_of : Seat → ℕ
addr_of x = my_address x.state x.iface

-- y is a better DR than x
abbrev beats : Seat → Seat → Bool
beats x y = better true (prio x) (addr_of x) (prio y) (addr_of y)

itself : (p a : ℕ) → better true p a p a ≡ false
itself p a = grind (arith, nat_tests)

not_then : (p a q c r d : ℕ) → better true p a q c ≡ false → better true p a r d ≡ true → better true r d q c ≡ false
not_then p a q c r d e f = go (q == p) refl (r == p) refl (q == r) refl e f
  where
    go : (u : Bool) → (q == p) ≡ u → (v : Bool) → (r == p) ≡ v → (w : Bool) → (q == r) ≡ w → better true p a q c ≡ false
        → better true p a r d ≡ true → better true r d q c ≡ false
    go u is v at w on e f = grind (arith, nat_tests, is, at, on, e, f)

record Best (seats : List Seat) : Type 0 where
  seat : Seat
  among : Among seats seat
  best : (y : Seat) → Among seats y → beats seat y ≡ false

best_of : (z : Seat) (zs : List Seat) → Best (z ∷ zs)
best_of z [] = record { seat = z; among = inl refl; best = λ y a. only y a }
  where
    only : (y : Seat) → (z ≡ y) ⊎ ⊥ → beats z y ≡ false
    only y (inl same) = subst (λ (x : Seat). beats z x ≡ false) same (itself (prio z) (addr_of z))
    only y (inr none) = absurd none
best_of z (w ∷ ws) = go (best_of w ws)
  where
    go : Best (w ∷ ws) → Best (z ∷ w ∷ ws)
    go r = by (beats r.seat z) refl
      where
        by : (b : Bool) → beats r.seat z ≡ b → Best (z ∷ w ∷ ws)
        by true is = record { seat = z; among = inl refl; best = λ y a. it y a }
          where
            it : (y : Seat) → (z ≡ y) ⊎ Among (w ∷ ws) y → beats z y ≡ false
            it y (inl same) = subst (λ (x : Seat). beats z x ≡ false) same (itself (prio z) (addr_of z))
            it y (inr a) = not_then (prio r.seat) (addr_of r.seat) (prio y) (addr_of y) (prio z) (addr_of z) (r.best y a) is
        by false is = record { seat = r.seat; among = inr r.among; best = λ y a. it y a }
          where
            it : (y : Seat) → (z ≡ y) ⊎ Among (w ∷ ws) y → beats r.seat y ≡ false
            it y (inl same) = subst (λ (x : Seat). beats r.seat x ≡ false) same is
            it y (inr a) = r.best y a

module _ (seats : List Seat) (x : Seat) (best : (y : Seat) → Among seats y → beats x y ≡ false) where
  row_no_better : (e : Key × NeighbourRow) → IsOf seats e → is_better_dr true (prio x) (addr_of x) e ≡ false
  unfolding is_better_dr
  row_no_better e f =
      ap (λ (o : Option ℕ). better true (prio x) (addr_of x) (unwrap_or o 0) (source_in e.0)) f.priority
      ∙ (ap (λ (n : ℕ). better true (prio x) (addr_of x) (prio f.seat) n) f.address ∙ best f.seat f.among)

  none_better : (t : Table NeighbourRow) → AllByRecursion (IsOf seats) t → list_any (is_better_dr true (prio x) (addr_of x)) t ≡ false
  none_better [] f = refl
  none_better (e ∷ es) f = rw (row_no_better e f.0, none_better es f.1) refl

  is_the_dr : KnowsOnly seats x → is_dr x.state x.iface ≡ true
  unfolding is_dr is_dr_among
  is_the_dr f = rw (f.priorities, none_better (neighbours_on x.state x.iface) f.only) refl

pub at_least_one_dr : AtLeastOneDr
at_least_one_dr first others f =
    let b : Best (first ∷ others) = best_of first others in
    record { seat = b.seat; among = b.among; is = is_the_dr (first ∷ others) b.seat b.best (f b.seat b.among) }
