-- Notices: one more of a source, in place of an earlier one.
use Rattle.std.{proofs.{Common.{◌≡◌, ◌+◌, ◌≤◌, ℕ, Bool, true, false, not, cond, List, [], ◌∷◌, ◌++◌, Some, nat_lt, refl, ◌∙◌, arith}, lemmas.Bool.Decides.nat_tests}, specs.{Cmp.{first_so, second_so, Derive.both_true}, List.{AllByRecursion, filter}}}
use Rattle.pim_types.{specs.{declared.fact.Key.Key, Keys.same_key}, proofs.Keys.equal_keys}
use Rattle.pim_model.{specs.Registers.keepalive_period}
use Rattle.law_settled.{proofs.ListLaws.{all_of_filter, each_append, each_filter}}
use Rattle.law_plane.{specs.Split.{Notice, noted}, proofs.{Ends.{AreLate, Ends, no_ends, set_end}, Passes.{RisesTo, are_fresh, ended_by, late_set}}}

abbrev end_of : Notice → ℕ
end_of n = n.moment + keepalive_period

-- ---- which ends they set

last_ends : (n : Notice) (ns : List Notice) (f : Ends)
    → ended_by f (ns ++ n ∷ []) ≡ set_end (ended_by f ns) n.source (end_of n)
unfolding ended_by
last_ends n [] f = refl
last_ends n (o ∷ ns) f = last_ends n ns (set_end f o.source (end_of o))

module _ (n : Notice) where
  abbrev others : Notice → Bool
  others o = not (same_key n.source o.source)

  module _ (q : Key) (away : same_key n.source q ≡ false) where
    others_step : (o : Notice) (ns : List Notice) (b : Bool) (f h : Ends) → same_key n.source o.source ≡ b → f q ≡ h q
        → ((f h : Ends) → f q ≡ h q → ended_by f (filter others ns) q ≡ ended_by h ns q)
        → ended_by f (cond (not b) (o ∷ filter others ns) (filter others ns)) q
        ≡ ended_by (set_end h o.source (end_of o)) ns q
    unfolding ended_by
    others_step o ns b f h e same ih = grind (arith, set_end, equal_keys)

    others_end : (ns : List Notice) (f h : Ends) → f q ≡ h q → ended_by f (filter others ns) q ≡ ended_by h ns q
    unfolding ended_by
    others_end [] f h same = same
    others_end (o ∷ ns) f h same = others_step o ns (same_key n.source o.source) f h refl same (others_end ns)

  noted_end : (ns : List Notice) (f : Ends) (q : Key) (b : Bool) → same_key n.source q ≡ b
      → cond b (Some (end_of n)) (ended_by f (filter others ns) q) ≡ cond b (Some (end_of n)) (ended_by f ns q)
  noted_end ns f q b e = grind (arith, others_end)

  pub noted_ends : (ns : List Notice) (f : Ends) → ended_by f (noted n ns) ≡ set_end (ended_by f ns) n.source (end_of n)
  unfolding noted
  noted_ends ns f =
      last_ends n (filter others ns) f ∙ (λ j q. noted_end ns f q (same_key n.source q) refl j)

-- ---- their moments

pub rises_from : (m k now : ℕ) (ns : List Notice) → k ≤ m → RisesTo m now ns → RisesTo k now ns
rises_from m k now [] le e = omega (arith, le, e)
rises_from m k now (n ∷ ns) le e = (omega (arith, le, e.0), e.1)

pub rises_later : (m now then : ℕ) (ns : List Notice) → now ≤ then → RisesTo m now ns → RisesTo m then ns
rises_later m now then [] le e = omega (arith, le, e)
rises_later m now then (n ∷ ns) le e = (e.0, rises_later n.moment now then ns le e.1)

rises_to_last : (m : ℕ) (n : Notice) (ns : List Notice) → RisesTo m n.moment ns → RisesTo m n.moment (ns ++ n ∷ [])
rises_to_last m n [] e = (e, omega arith)
rises_to_last m n (o ∷ ns) e = (e.0, rises_to_last o.moment n ns e.1)

module _ (test : Notice → Bool) (now : ℕ) where
  some_rise : (m : ℕ) (ns : List Notice) → RisesTo m now ns → RisesTo m now (filter test ns)
  some_rise m [] e = e
  some_rise m (n ∷ ns) e = grind (arith, some_rise n.moment ns e.1, rises_from)

pub noted_rises : (m : ℕ) (n : Notice) (ns : List Notice) → RisesTo m n.moment ns → RisesTo m n.moment (noted n ns)
unfolding noted
noted_rises m n ns e = rises_to_last m n (filter (others n) ns) (some_rise (others n) n.moment m ns e)

-- ---- and what holds of each

pub noted_each : (P : Notice → Type 0) (n : Notice) (ns : List Notice) → P n → AllByRecursion P ns → AllByRecursion P (noted n ns)
unfolding noted
noted_each P n ns new e = each_append P (filter (others n) ns) (n ∷ []) (each_filter P (others n) ns e) (new, tt)

fresh_to_last : (m : ℕ) (n : Notice) (ns : List Notice) → are_fresh m ns ≡ true → nat_lt m (end_of n) ≡ true
    → are_fresh m (ns ++ n ∷ []) ≡ true
fresh_to_last m n [] e new = both_true new refl
fresh_to_last m n (o ∷ ns) e new =
    grind (arith, fresh_to_last m n ns (second_so (nat_lt m (end_of o)) (are_fresh m ns) e) new, are_fresh)

pub noted_fresh : (n : Notice) (ns : List Notice) → are_fresh n.moment ns ≡ true → are_fresh n.moment (noted n ns) ≡ true
unfolding noted
noted_fresh n ns e = grind (arith, fresh_to_last, all_of_filter, nat_tests)

pub late_by : (m : ℕ) (f : Ends) (ns : List Notice) → AreLate m f → are_fresh m ns ≡ true → AreLate m (ended_by f ns)
unfolding ended_by
late_by m f [] late fresh = late
late_by m f (n ∷ ns) late fresh =
    late_by m (set_end f n.source (end_of n)) ns
    (late_set m f n.source (end_of n) late (first_so (nat_lt m (end_of n)) (are_fresh m ns) fresh))
    (second_so (nat_lt m (end_of n)) (are_fresh m ns) fresh)

pub none_late : (m : ℕ) → AreLate m no_ends
none_late m k end e = let none : ⊥ = cc in absurd none
