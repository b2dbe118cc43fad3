-- The sources that a record of a report names, as a set.
use Rattle.std.{proofs.{Common.{◌≡◌, ◌<◌, ◌+◌, ℕ, Bool, true, false, cond, ◌||◌, ◌==◌, List, [], ◌∷◌, get_or, length, take, refl, sym, ap, ◌∙◌, arith}, lemmas.{Bool.Decides.nat_tests, List.Folds.list_any_more}}, specs.{List.{AllByRecursion, list_any, Sorted.IsStrictlySortedBy}, Ordering.{is_eq, nat_cmp}, declared.cmp.Ordering.TheVariants.Less}}
use Rattle.pim_filters.{specs.Members.is_named_source, proofs.Orders.{Rises-ascending, Rises-from_sorted, is_among-ascending, same_rising}}
use Rattle.pim_ip.{specs.declared.addr.Addr.Addr}
use Rattle.pim_types.{specs.Keys.addr_cmp}
use Rattle.pim_model.{specs.Tables.{ascending, is_among}}
use Rattle.igmp_wire.{specs.Written.bits_of}

-- ---- the sources as a set

ties : (m n : ℕ) → is_eq (nat_cmp n m) ≡ (m == n)
ties m n = grind (arith, nat_tests)

abbrev holds : ℕ → List Addr → Bool
holds src set = list_any (λ (a : Addr). is_eq (nat_cmp src a.bits)) set

pub held_is_named : (src : ℕ) (set : List Addr) → holds src set ≡ is_named_source src set
held_is_named src [] = refl
held_is_named src (a ∷ set) = λ j. ties a.bits src j || held_is_named src set j

module _ (src : ℕ) (a : Addr) (set more : List Addr)
    (put : (b : Addr) → holds b.bits more ≡ cond (is_eq (nat_cmp a.bits b.bits)) true (holds b.bits set)) where
  put_by : (b c : Bool) → cond b true c ≡ (c || b)
  put_by true true = refl
  put_by true false = refl
  put_by false true = refl
  put_by false false = refl

  pub one_more_named : (sources : List Addr) (k : ℕ) (d : Addr) → k < length sources → a ≡ get_or sources k d
      → is_named_source src set ≡ is_named_source src (take k sources) → is_named_source src more ≡ is_named_source src (take (k + 1) sources)
  one_more_named sources k d inside is so_far =
      sym (held_is_named src more) ∙ put (record { bits = src })
      ∙ put_by (is_eq (nat_cmp a.bits src)) (holds src set)
      ∙ (λ j. (held_is_named src set ∙ so_far) j || (ties src a.bits ∙ turned src a.bits) j)
      ∙ ap (λ (x : Addr). is_named_source src (take k sources) || (x.bits == src)) is
      ∙ sym (list_any_more (λ (x : Addr). x.bits == src) sources k d inside)
    where
      turned : (m n : ℕ) → (m == n) ≡ (n == m)
      turned m n = grind (arith, nat_tests)

pub named_by_bits : (src : ℕ) (sources : List Addr) → is_named_source src sources ≡ is_among src (bits_of sources)
unfolding is_among
named_by_bits src [] = refl
named_by_bits src (a ∷ sources) = ap (λ (b : Bool). (a.bits == src) || b) (named_by_bits src sources)

-- a set names what the sources name
pub set_among : (set sources : List Addr) → ((n : ℕ) → is_named_source n set ≡ is_named_source n sources) → (n : ℕ)
    → is_among n (bits_of set) ≡ is_among n (bits_of sources)
set_among set sources same n = sym (named_by_bits n set) ∙ same n ∙ named_by_bits n sources

below_bits : (a : Addr) (set : List Addr) → AllByRecursion (λ (b : Addr). addr_cmp a b ≡ Less) set
    → AllByRecursion (λ n. nat_cmp a.bits n ≡ Less) (bits_of set)
unfolding addr_cmp
below_bits a [] below = tt
below_bits a (b ∷ set) below = (below.0, below_bits a set below.1)

-- where addresses rise their numbers do
pub bits_rise : (set : List Addr) → IsStrictlySortedBy addr_cmp set → IsStrictlySortedBy nat_cmp (bits_of set)
unfolding IsStrictlySortedBy
bits_rise [] sorted = tt
bits_rise (a ∷ set) sorted = (below_bits a set sorted.0, bits_rise set sorted.1)

-- the set has the sources in order, each once
pub set_ascends : (set sources : List Addr) → IsStrictlySortedBy addr_cmp set
    → ((n : ℕ) → is_named_source n set ≡ is_named_source n sources) → bits_of set ≡ ascending (bits_of sources)
set_ascends set sources rise same =
    same_rising (bits_of set) (ascending (bits_of sources)) (Rises-from_sorted (bits_of set) (bits_rise set rise))
    (Rises-ascending (bits_of sources))
    (λ n. set_among set sources same n ∙ sym (is_among-ascending n (bits_of sources)))
