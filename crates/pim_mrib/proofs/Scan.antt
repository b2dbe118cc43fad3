-- The candidates one after the other, the last first.
use Rattle.std.proofs.{Common.{◌≡◌, ℕ, suc, ◌+◌, ◌<◌, Bool, true, false, cond, List, [], ◌∷◌, length, get_or, drop, Option, Some, None, refl, sym, ap, add-one}, Math.Seq.drop-cons}
use Rattle.pim_ip.{specs.Prefixes.contains}
use Rattle.pim_types.{specs.declared.config.RpCandidate.RpCandidate}
use Rattle.pim_model.{specs.Candidates.{chosen, chosen_among}}

drop_whole : {X : Type 0} (xs : List X) → drop (length xs) xs ≡ []
drop_whole [] = refl
drop_whole (x ∷ xs) = drop_whole xs

pub none_yet : (candidates : List RpCandidate) (g : ℕ) → None ≡ chosen_among (drop (length candidates) candidates) g
unfolding chosen_among
none_yet candidates g = rw (drop_whole candidates) refl

one_more : (r : RpCandidate) (rs : List RpCandidate) (g : ℕ) (b : Bool) → contains r.prefix g ≡ b
    → chosen_among (r ∷ rs) g ≡ cond b (Some (chosen g r (chosen_among rs g))) (chosen_among rs g)
unfolding chosen_among
one_more r rs g true is = rw is refl
one_more r rs g false is = rw is refl

module _ (candidates : List RpCandidate) (g n m : ℕ) (d r : RpCandidate) (best : Option RpCandidate) (is_next : m ≡ n + 1)
    (inside : n < length candidates) (has : r ≡ get_or candidates n d) (so_far : best ≡ chosen_among (drop m candidates) g) where
  from_here : drop n candidates ≡ r ∷ drop m candidates
  from_here = rw (is_next, add-one, drop-cons candidates n d inside) (ap (λ (x : RpCandidate). x ∷ drop (suc n) candidates) (sym has))

  pub taken : contains r.prefix g ≡ true → Some (chosen g r best) ≡ chosen_among (drop n candidates) g
  taken is = rw (from_here, one_more r (drop m candidates) g true is) (ap (λ (b : Option RpCandidate). Some (chosen g r b)) so_far)

  pub passed : contains r.prefix g ≡ false → best ≡ chosen_among (drop n candidates) g
  passed is = rw (from_here, one_more r (drop m candidates) g false is) so_far
