-- What is said of each interface that passes a test.
use Rattle.std.{proofs.Common.{◌≡◌, ℕ, zero, suc, ◌+◌, ◌++◌, Bool, true, false, cond, List, [], ◌∷◌, filter, map, append-nil, append_assoc, refl, ap, sym, ◌∙◌, arith}, specs.List.range_with_len}

module _ {M : Type 0} (say : ℕ → M) (test : ℕ → Bool) where
  abbrev said : List ℕ → List M
  said is = map say (filter test is)

  abbrev one : ℕ → Bool → List M
  one i b = cond b (say i ∷ []) []

  said_first : (i : ℕ) (xs ys : List ℕ) (later : List M) (b : Bool) → said xs ≡ said ys ++ later
      → map say (cond b (i ∷ filter test xs) (filter test xs))
      ≡ map say (cond b (i ∷ filter test ys) (filter test ys)) ++ later
  said_first i xs ys later true e = ap (λ (ms : List M). say i ∷ ms) e
  said_first i xs ys later false e = e

  said_last : (i : ℕ) (b : Bool) → map say (cond b (i ∷ []) []) ≡ one i b
  said_last i true = refl
  said_last i false = refl

  said_more : (n a total j : ℕ) → total ≡ n + 1 → a + n ≡ j
      → said (range_with_len a total) ≡ said (range_with_len a n) ++ one j (test j)
  said_more n a zero j whole e = absurd (omega (arith, whole))
  said_more zero a (suc total) j whole e =
      let here : a ≡ j = omega (arith, e) in
      let none : total ≡ 0 = omega (arith, whole) in
      (λ k. map say (cond (test a) (a ∷ filter test (range_with_len (a + 1) (none k))) (filter test (range_with_len (a + 1) (none k)))))
      ∙ (said_last a (test a) ∙ ap (λ (i : ℕ). one i (test i)) here)
  said_more (suc n) a (suc total) j whole e =
      said_first a (range_with_len (a + 1) total) (range_with_len (a + 1) n) (one j (test j)) (test a)
      (said_more n (a + 1) total j (omega (arith, whole)) (omega (arith, e)))

  pub said_one : (n : ℕ) (b : Bool) → test n ≡ b
      → said (range_with_len 0 (n + 1)) ≡ said (range_with_len 0 n) ++ one n b
  said_one n b e =
      said_more n 0 (n + 1) n refl (omega arith) ∙ ap (λ (c : Bool). said (range_with_len 0 n) ++ one n c) e

  pub told_then : (start out now next : List M) (n : ℕ) → out ≡ start ++ said (range_with_len 0 n)
      → now ≡ out ++ say n ∷ [] → next ≡ now → test n ≡ true
      → next ≡ start ++ said (range_with_len 0 (n + 1))
  told_then start out now next n before pushed is e =
      is ∙ (pushed ∙ (ap (λ (ms : List M). ms ++ say n ∷ []) before
      ∙ (append_assoc start (said (range_with_len 0 n)) (say n ∷ [])
      ∙ ap (λ (ms : List M). start ++ ms) (sym (said_one n true e)))))

  pub told_else : (start out next : List M) (n : ℕ) → out ≡ start ++ said (range_with_len 0 n) → next ≡ out
      → test n ≡ false → next ≡ start ++ said (range_with_len 0 (n + 1))
  told_else start out next n before is e =
      is ∙ (before ∙ ap (λ (ms : List M). start ++ ms)
      (sym (said_one n false e ∙ append-nil (said (range_with_len 0 n)))))
