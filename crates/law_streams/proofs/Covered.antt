-- The asserts are few: their keys are among those of sources on each interface, of downstream rows and of group
-- records.
use Rattle.std.{proofs.{Common.{◌≡◌, ◌∙◌, ℕ, zero, suc, ◌+◌, ◌*◌, ◌<◌, ◌≤◌, ◌==◌, not, Bool, true, false, cond, List, [], ◌∷◌, ◌++◌, filter, length, map, refl, sym, ap, subst, arith, length-append}, Math.Nat.{mul-add, mul-one, mul-zero}, lemmas.{Bool.{or_left, or_right, Decides.nat_tests}, List.{length-map, FromFn.length-range_with_len, Folds.list_any-append}}}, specs.List.{AllByRecursion, list_any, range_with_len}}
use Rattle.pim_types.{specs.{Keys.{group_in, is_star, same_key, source_in, source_key, star_key}, declared.fact.Key.Key}, proofs.Keys.{equal_keys, same_key_same}}
use Rattle.pim_model.{specs.{Downstream.is_named, Full.{distinct, needed}, State.State, Tables.{Table, has_row, keys_in}}}
use Rattle.law_settled.{proofs.{ListLaws.{each_more, either}, TableLaws.any_of_map}}
use Rattle.law_streams.{proofs.Counting.{named_distinct, named_passing, needed_some}}

-- ---- lists of keys

-- named by either part
pub named_left : (xs ys : List Key) (k : Key) → is_named xs k ≡ true → is_named (xs ++ ys) k ≡ true
unfolding is_named
named_left xs ys k e = list_any-append (same_key k) xs ys ∙ or_left (list_any (same_key k) xs) (list_any (same_key k) ys) e

pub named_right : (xs ys : List Key) (k : Key) → is_named ys k ≡ true → is_named (xs ++ ys) k ≡ true
unfolding is_named
named_right xs ys k e = list_any-append (same_key k) xs ys ∙ or_right (list_any (same_key k) xs) (list_any (same_key k) ys) e

-- those without a row
abbrev pub missing : {R : Type 0} → Table R → List Key → List Key
missing t ks = filter (λ k. not (has_row t k)) (distinct ks)

pub missing_long : {R : Type 0} (t : Table R) (ks : List Key) → length (missing t ks) ≡ needed t ks
unfolding needed
missing_long t ks = refl

pub missing_named : {R : Type 0} (t : Table R) (ks : List Key) (k : Key) → has_row t k ≡ false → is_named ks k ≡ true
    → is_named (missing t ks) k ≡ true
missing_named t ks k none e = named_passing (λ q. not (has_row t q)) k (distinct ks) (rw none refl) (named_distinct ks k e)

-- where none is needed, each has a row
pub none_missing : {R : Type 0} (t : Table R) (ks : List Key) (k : Key) → needed t ks ≡ 0 → is_named ks k ≡ true → has_row t k ≡ true
none_missing t ks k none e = grind (arith, needed_some)

own_named : (ks : List Key) → AllByRecursion (λ k. is_named ks k ≡ true) ks
unfolding is_named
own_named [] = tt
own_named (k ∷ ks) = (
  or_left (same_key k k) (list_any (same_key k) ks) (same_key_same k),
  each_more _ _ (λ q f. or_right (same_key q k) (list_any (same_key q) ks) f) ks (own_named ks),
)

pub each_named : (P : Key → Type 0) (ks : List Key) → ((k : Key) → is_named ks k ≡ true → P k) → AllByRecursion P ks
each_named P ks f = each_more (λ k. is_named ks k ≡ true) P f ks (own_named ks)

pub of_named : (P : Key → Type 0) (ks : List Key) (k : Key) → AllByRecursion P ks → is_named ks k ≡ true → P k
unfolding is_named
of_named P [] k f e = cc
of_named P (q ∷ qs) k f e =
    either (same_key k q) (list_any (same_key k) qs) (λ g. subst P (sym (equal_keys k q g)) f.0) (λ g. of_named P qs k f.1 g) e

-- ---- a source on each interface

pub any_in_range : (p : ℕ → Bool) (a n i : ℕ) → a ≤ i → i < a + n → p i ≡ true → list_any p (range_with_len a n) ≡ true
any_in_range p a zero i le lt e = absurd (omega (arith, le, lt))
any_in_range p a (suc n) i le lt e = go (a == i) refl (any_in_range p (a + 1) n i)
  where
    later : (a i : ℕ) → a ≤ i → (a == i) ≡ false → a + 1 ≤ i
    later a i le f = grind (arith, nat_tests, le, f)

    here : (a i : ℕ) → (a == i) ≡ true → i ≡ a
    here a i f = grind (arith, nat_tests, f)

    go : (b : Bool) → (a == i) ≡ b
        → (a + 1 ≤ i → i < a + 1 + n → p i ≡ true → list_any p (range_with_len (a + 1) n) ≡ true)
        → list_any p (range_with_len a (suc n)) ≡ true
    go true f ih = or_left (p a) _ (ap p (sym (here a i f)) ∙ e)
    go false f ih = or_right (p a) _ (ih (later a i le f) (omega (arith, lt)) e)

module _ (n : ℕ) where
  abbrev pub spread_of : Key → List Key
  spread_of k = map (λ i. source_key i (group_in k) (source_in k)) (range_with_len 0 n)

  spread_long : (k : Key) → length (spread_of k) ≡ n
  spread_long k = length-map (range_with_len 0 n) _ ∙ length-range_with_len 0 n

  spread_named : (k : Key) (i : ℕ) → i < n → is_named (spread_of k) (source_key i (group_in k) (source_in k)) ≡ true
  unfolding is_named
  spread_named k i lt =
      any_of_map (same_key (source_key i (group_in k) (source_in k))) (λ j. source_key j (group_in k) (source_in k)) (range_with_len 0 n)
      ∙ any_in_range (λ j. same_key (source_key i (group_in k) (source_in k)) (source_key j (group_in k) (source_in k))) 0 n i
      (omega arith) (omega (arith, lt)) (same_key_same (source_key i (group_in k) (source_in k)))

  -- (*,G) as it is, a source on each interface
  abbrev pub widened : Key → List Key
  widened k = cond (is_star k) (k ∷ []) (spread_of k)

  widened_long : 1 ≤ n → (k : Key) → length (widened k) ≤ n
  widened_long le k = grind (arith, spread_long)

  abbrev pub all_widened : List Key → List Key
  all_widened [] = []
  all_widened (k ∷ ks) = widened k ++ all_widened ks

  step_long : (m w l all : ℕ) → w ≤ n → l ≤ n * m → all ≡ w + l → n * (m + 1) ≡ n * m + n * 1 → n * 1 ≡ n → all ≤ n * (m + 1)
  step_long m w l all a b c d e = omega (arith, a, b, c, d, e)

  pub all_widened_long : 1 ≤ n → (ks : List Key) → length (all_widened ks) ≤ n * length ks
  all_widened_long le [] = omega (arith, mul-zero n)
  all_widened_long le (k ∷ ks) =
      subst (λ (m : ℕ). length (widened k ++ all_widened ks) ≤ n * m) (grind arith)
      (step_long (length ks) (length (widened k)) (length (all_widened ks)) (length (widened k ++ all_widened ks))
      (widened_long le k) (all_widened_long le ks) (length-append (widened k) (all_widened ks)) (mul-add n (length ks) 1) (mul-one n))

  pub star_widened : (ks : List Key) (i g : ℕ) → is_named ks (star_key i g) ≡ true → is_named (all_widened ks) (star_key i g) ≡ true
  unfolding is_named
  star_widened [] i g e = cc
  star_widened (k ∷ ks) i g e =
      either (same_key (star_key i g) k) (list_any (same_key (star_key i g)) ks)
      (λ f. named_left (widened k) (all_widened ks) (star_key i g)
      (subst (λ (q : Key). is_named (widened q) (star_key i g) ≡ true) (equal_keys (star_key i g) k f)
      (or_left (same_key (star_key i g) (star_key i g)) false (same_key_same (star_key i g)))))
      (λ f. named_right (widened k) (all_widened ks) (star_key i g) (star_widened ks i g f)) e

  pub source_widened : (ks : List Key) (j g src i : ℕ) → is_named ks (source_key j g src) ≡ true → i < n
      → is_named (all_widened ks) (source_key i g src) ≡ true
  unfolding is_named
  source_widened [] j g src i e lt = cc
  source_widened (k ∷ ks) j g src i e lt =
      either (same_key (source_key j g src) k) (list_any (same_key (source_key j g src)) ks)
      (λ f. named_left (widened k) (all_widened ks) (source_key i g src)
      (subst (λ (q : Key). is_named (widened q) (source_key i g src) ≡ true) (equal_keys (source_key j g src) k f)
      (spread_named (source_key j g src) i lt)))
      (λ f. named_right (widened k) (all_widened ks) (source_key i g src) (source_widened ks j g src i f lt)) e

  -- ---- the keys of a state

  abbrev pub spreads : {R : Type 0} → Table R → List Key
  spreads [] = []
  spreads (e ∷ es) = spread_of e.0 ++ spreads es

  pub spreads_long : {R : Type 0} (t : Table R) → length (spreads t) ≤ n * length t
  spreads_long [] = omega (arith, mul-zero n)
  spreads_long (e ∷ es) =
      subst (λ (m : ℕ). length (spread_of e.0 ++ spreads es) ≤ n * m) (grind arith)
      (step_long (length es) (length (spread_of e.0)) (length (spreads es)) (length (spread_of e.0 ++ spreads es))
      (omega (arith, spread_long e.0)) (spreads_long es) (length-append (spread_of e.0) (spreads es)) (mul-add n (length es) 1) (mul-one n))

  pub spreads_named : {R : Type 0} (t : Table R)
      → AllByRecursion (λ (e : Key × R). (i : ℕ) → i < n → is_named (spreads t) (source_key i (group_in e.0) (source_in e.0)) ≡ true) t
  spreads_named [] = tt
  spreads_named (e ∷ es) = (
    λ i lt. named_left (spread_of e.0) (spreads es) _ (spread_named e.0 i lt),
    each_more _ _ (λ x f i lt. named_right (spread_of e.0) (spreads es) _ (f i lt)) es (spreads_named es),
  )

  abbrev pub keys_of : State → List Key
  keys_of s = keys_in s.asserts ++ (keys_in s.downstream ++ (keys_in s.group_records ++ spreads s.sources))

  pub keys_long : {R : Type 0} (t : Table R) → length (keys_in t) ≡ length t
  unfolding keys_in
  keys_long t = length-map t (λ e. e.0)
