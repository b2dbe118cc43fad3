-- What is heard of a message, change by change, is what its entries do.
use Rattle.std.{proofs.{Common.{◌≡◌, Bool, true, false, cond, List, [], ◌∷◌, ◌++◌, map, refl, ap, ◌∙◌, fold}, lemmas.List.Sums.fold-append}, specs.{List.{filter, flat_map}, Prelude.if◌then◌else◌}}

-- changes, list after list
module _ {S M : Type 0} (step : S → M → S) where
  module _ {N K : Type 0} (entry : S → N → S) (key : N → K) (changes : K → List M)
      (agree : (s : S) (n : N) → fold step s (changes (key n)) ≡ entry s n) where
    one_entry : (b : Bool) (n : N) (ms : List M) (ns : List N) (s : S)
        → ((t : S) → fold step t ms ≡ fold entry t ns)
        → fold step s ((if b then changes (key n) else []) ++ ms) ≡ fold entry s (cond b (n ∷ ns) ns)
    one_entry true n ms ns s rest =
        fold-append step s (changes (key n)) ms ∙ ap (λ (t : S). fold step t ms) (agree s n) ∙ rest (entry s n)
    one_entry false n ms ns s rest = rest s

    -- of those that pass a test
    pub passing_entries : (of_key : K → Bool) (of_entry : N → Bool) → ((n : N) → of_key (key n) ≡ of_entry n)
        → (ns : List N) (s : S)
        → fold step s (flat_map (λ k. if of_key k then changes k else []) (map key ns))
        ≡ fold entry s (filter of_entry ns)
    passing_entries of_key of_entry same [] s = refl
    passing_entries of_key of_entry same (n ∷ ns) s =
        ap (λ (b : Bool). fold step s ((if b then changes (key n) else [])
        ++ flat_map (λ k. if of_key k then changes k else []) (map key ns))) (same n)
        ∙ one_entry (of_entry n) n (flat_map (λ k. if of_key k then changes k else []) (map key ns))
        (filter of_entry ns) s (passing_entries of_key of_entry same ns)

    pub all_entries : (ns : List N) (s : S) → fold step s (flat_map changes (map key ns)) ≡ fold entry s ns
    all_entries [] s = refl
    all_entries (n ∷ ns) s =
        fold-append step s (changes (key n)) (flat_map changes (map key ns))
        ∙ ap (λ (t : S). fold step t (flat_map changes (map key ns))) (agree s n)
        ∙ all_entries ns (entry s n)
