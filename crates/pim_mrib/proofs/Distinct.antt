-- Ranges of which no RP is listed twice for a prefix, the last first.
use Rattle.std.{proofs.{Common.{◌≡◌, ℕ, zero, suc, ◌+◌, ◌-◌, ◌<◌, Bool, true, false, not, ◌&&◌, List, [], ◌∷◌, length, get_or, drop, take, refl, sym, ap, ◌∙◌, arith, add-one}, Math.Seq.drop-cons, lemmas.List.{length-drop, take_all}}, specs.List.list_any}
use Rattle.pim_types.{specs.declared.config.RpCandidate.RpCandidate}
use Rattle.pim_model.{specs.Limits.{are_distinct_candidates, same_candidate}}

and_false : (a : Bool) → (a && false) ≡ false
and_false true = refl
and_false false = refl

drop_whole : {X : Type 0} (xs : List X) → drop (length xs) xs ≡ []
drop_whole [] = refl
drop_whole (x ∷ xs) = drop_whole xs

pub none_twice : (candidates : List RpCandidate) → are_distinct_candidates (drop (length candidates) candidates) ≡ true
unfolding are_distinct_candidates
none_twice candidates = rw (drop_whole candidates) refl

one_more : (r : RpCandidate) (rs : List RpCandidate) (b : Bool) → list_any (same_candidate r) rs ≡ b
    → are_distinct_candidates (r ∷ rs) ≡ (not b && are_distinct_candidates rs)
unfolding are_distinct_candidates
one_more r rs b is = rw is refl

distinct_drop : (candidates : List RpCandidate) (n : ℕ) → are_distinct_candidates (drop n candidates) ≡ false
    → are_distinct_candidates candidates ≡ false
unfolding are_distinct_candidates
distinct_drop candidates zero h = h
distinct_drop [] (suc n) h = h
distinct_drop (r ∷ rs) (suc n) h = let rest : are_distinct_candidates rs ≡ false = distinct_drop rs n h in rw rest (and_false _)

-- a slice to the end is what is left
to_the_end : (candidates : List RpCandidate) (m : ℕ) → take (length candidates - m) (drop m candidates) ≡ drop m candidates
to_the_end candidates m = take_all (length candidates - m) (drop m candidates) (omega (arith, length-drop m candidates))

module _ (candidates : List RpCandidate) (n m : ℕ) (d r : RpCandidate) (is_next : m ≡ n + 1) (inside : n < length candidates)
    (has : r ≡ get_or candidates n d) where
  from_here : drop n candidates ≡ r ∷ drop m candidates
  from_here = rw (is_next, add-one, drop-cons candidates n d inside) (ap (λ (x : RpCandidate). x ∷ drop (suc n) candidates) (sym has))

  abbrev left : List RpCandidate
  left = take (length candidates - m) (drop m candidates)

  listed : (b : Bool) → list_any (same_candidate r) left ≡ b → list_any (same_candidate r) (drop m candidates) ≡ b
  listed b is = ap (list_any (same_candidate r)) (sym (to_the_end candidates m)) ∙ is

  pub still : list_any (same_candidate r) left ≡ false → are_distinct_candidates (drop m candidates) ≡ true
      → are_distinct_candidates (drop n candidates) ≡ true
  still none others = rw (from_here, one_more r (drop m candidates) false (listed false none)) others

  pub twice : list_any (same_candidate r) left ≡ true → are_distinct_candidates candidates ≡ false
  twice found =
      distinct_drop candidates n (ap are_distinct_candidates from_here ∙ one_more r (drop m candidates) true (listed true found))
