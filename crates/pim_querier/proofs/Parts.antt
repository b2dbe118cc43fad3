-- The queries of many sources, in parts that a frame holds.
use Rattle.std.{proofs.{Common.{◌≡◌, ◌≤◌, ◌==◌, ℕ, zero, suc, Bool, true, false, List, [], ◌∷◌, ◌++◌, length, take, drop, min, nat_le, refl, sym, ap, ◌∙◌, arith, append_assoc, append-nil, length-drop}, lemmas.{List.{drop_all, take_all}, Bool.Decides.nat_tests}}, specs.List.{drop-map, take-map}}
use Rattle.pim_ip.{specs.declared.addr.Addr.Addr}
use Rattle.igmp_wire.{specs.{declared.write.QueryHeader.QueryHeader, Written.{query_with, bits_of}}}
use Rattle.pim_model.{specs.{Messages.Message, Querier.queries_of, Tables.is_empty_list}}
use Rattle.pim_querier.{specs.Queries.{all_queries, asking}}

module _ (message : List ℕ → Message) where
  -- however many messages there may be, as long as there may be enough
  same_queries : (n m : ℕ) (xs : List ℕ) → length xs ≤ n → length xs ≤ m
      → queries_of message n xs ≡ queries_of message m xs
  unfolding queries_of
  same_queries zero zero xs a b = refl
  same_queries zero (suc m) [] a b = refl
  same_queries zero (suc m) (x ∷ xs) a b = absurd (omega arith)
  same_queries (suc n) zero [] a b = refl
  same_queries (suc n) zero (x ∷ xs) a b = absurd (omega arith)
  same_queries (suc n) (suc m) [] a b = refl
  same_queries (suc n) (suc m) (x ∷ xs) a b =
      ap (λ (ms : List Message). message (take 366 (x ∷ xs)) ∷ ms)
      (same_queries n m (drop 366 (x ∷ xs)) (shorter n a) (shorter m b))
    where
      shorter : (k : ℕ) → length (x ∷ xs) ≤ suc k → length (drop 366 (x ∷ xs)) ≤ k
      shorter k h = omega (arith, length-drop 366 (x ∷ xs))

  next_queries : (xs : List ℕ) → is_empty_list xs ≡ false
      → all_queries message xs ≡ message (take 366 xs) ∷ all_queries message (drop 366 xs)
  unfolding queries_of
  next_queries [] e = cc
  next_queries (x ∷ xs) e =
      ap (λ (ms : List Message). message (take 366 (x ∷ xs)) ∷ ms)
      (same_queries (length xs) (length (drop 366 (x ∷ xs))) (drop 366 (x ∷ xs))
      (omega (arith, length-drop 366 (x ∷ xs))) (omega arith))

-- the first part of a list, and what is left of it
part_by : (n : ℕ) (xs : List Addr) → n ≡ min (length xs) 366 → (take n xs ≡ take 366 xs) × (drop n xs ≡ drop 366 xs)
part_by n xs is = go (nat_le (length xs) 366) refl
  where
    go : (b : Bool) → nat_le (length xs) 366 ≡ b → (take n xs ≡ take 366 xs) × (drop n xs ≡ drop 366 xs)
    go true e =
        let few : length xs ≤ 366 = grind (arith, nat_tests, e) in
        let whole : n ≡ length xs = omega (arith, is) in (
          take_all n xs (omega arith) ∙ sym (take_all 366 xs few),
          drop_all n xs (omega arith) ∙ sym (drop_all 366 xs few),
        )
    go false e =
        let many : 366 ≤ length xs = grind (arith, nat_tests, e) in
        let all : n ≡ 366 = omega (arith, is) in (
          ap (λ (k : ℕ). take k xs) all,
          ap (λ (k : ℕ). drop k xs) all,
        )

pub is_some : (xs : List Addr) → (length xs == 0) ≡ false → length xs ≡ 0 → ⊥
is_some xs e none = grind (arith, nat_tests, e)

pub is_none : (xs : List Addr) → (length xs == 0) ≡ true → length xs ≡ 0
is_none xs e = grind (arith, nat_tests, e)

pub not_empty : (xs : List Addr) → (length xs ≡ 0 → ⊥) → is_empty_list (bits_of xs) ≡ false
not_empty [] some = absurd (some refl)
not_empty (x ∷ xs) some = refl

module _ (i : ℕ) (h : QueryHeader) where
  abbrev message : List ℕ → Message
  message = asking i h

  -- the queries that were put and those of the sources that are left
  abbrev pub Puts : List Message → List Message → List Addr → Type 0
  Puts whole out left = out ++ all_queries message (bits_of left) ≡ whole

  pub one_more_put : (whole out after : List Message) (n : ℕ) (left first later : List Addr) → n ≡ min (length left) 366
      → first ≡ take n left → later ≡ drop n left → (length left ≡ 0 → ⊥)
      → after ≡ out ++ Message.Query i (query_with h first) ∷ [] → Puts whole out left → Puts whole after later
  one_more_put whole out after n left first later is begins ends some added puts =
      let part = part_by n left is in
      let here : bits_of first ≡ take 366 (bits_of left) =
      ap (λ (xs : List Addr). bits_of xs) (begins ∙ part.0) ∙ sym (take-map (λ (a : Addr). a.bits) 366 left) in
      let there : bits_of later ≡ drop 366 (bits_of left) =
      ap (λ (xs : List Addr). bits_of xs) (ends ∙ part.1) ∙ sym (drop-map (λ (a : Addr). a.bits) 366 left) in
      ap (λ (ms : List Message). ms ++ all_queries message (bits_of later)) added
      ∙ append_assoc out (message (bits_of first) ∷ []) (all_queries message (bits_of later))
      ∙ ap (λ (xs : List ℕ). out ++ (message xs ∷ all_queries message (bits_of later))) here
      ∙ ap (λ (xs : List ℕ). out ++ (message (take 366 (bits_of left)) ∷ all_queries message xs)) there
      ∙ ap (λ (ms : List Message). out ++ ms) (sym (next_queries message (bits_of left) (not_empty left some)))
      ∙ puts

  pub all_put : (whole out : List Message) (left : List Addr) → length left ≡ 0 → Puts whole out left → out ≡ whole
  unfolding queries_of
  all_put whole out [] none puts = sym (append-nil out) ∙ puts
  all_put whole out (x ∷ xs) none puts = absurd (omega arith)
