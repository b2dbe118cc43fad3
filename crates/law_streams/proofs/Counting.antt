-- How long tables become.
use Rattle.std.{proofs.{Common.{◌≡◌, ◌∙◌, ℕ, suc, ◌+◌, ◌<◌, ◌≤◌, not, ◌&&◌, ◌||◌, Bool, true, false, List, [], ◌∷◌, ◌++◌, filter, fold, length, Option, refl, sym, ap, arith, length-append}, lemmas.{Bool.{or_left, or_right}, List.{length-map, Folds.list_any-append}}}, specs.{List.{AllByRecursion, cons_option, filter_map, list_any}, BTreeMap.insert_entry, Ordering.{is_eq, match_ordering}, declared.cmp.Ordering.Ordering}}
use Rattle.pim_types.{specs.{declared.fact.Key.Key, Keys.{key_cmp, same_key}}, proofs.Keys.{equal_keys, same_key_same}}
use Rattle.pim_model.{specs.{Downstream.is_named, Full.{distinct, needed, once_more}, Tables.{Table, change_row, changed_entry, drop_at, drop_where, has_row, keys_in, put}}}
use Rattle.law_settled.{proofs.{ListLaws.{each_both, each_map, each_more, either, filter_shorter, filter_stricter}, RowLaws.{each_put, has_row_any}, TableLaws.{any_in_filter, any_of_map}, RisingKeys.{IsBelow, Up, up_put}}}
use Rattle.law_events.{proofs.Differing.passing_named}

-- ---- by what changes a table

shorter_option : {Y : Type 0} (o : Option Y) (ys : List Y) (n : ℕ) → length ys ≤ n → length (cons_option o ys) ≤ suc n
shorter_option o ys n le = grind arith

module _ {R : Type 0} where
  pub shorter_without : (test : Key → Bool) (t : Table R) → length (drop_where test t) ≤ length t
  unfolding drop_where
  shorter_without test t = filter_shorter (λ e. not (test e.0)) t

  pub shorter_at : (t : Table R) (k : Key) → length (drop_at t k) ≤ length t
  unfolding drop_at
  shorter_at t k = shorter_without (same_key k) t

  pub shorter_mapped : {Y : Type 0} (h : Key × R → Option Y) (t : Table R) → length (filter_map h t) ≤ length t
  shorter_mapped h [] = omega arith
  shorter_mapped h (x ∷ xs) = shorter_option (h x) (filter_map h xs) (length xs) (shorter_mapped h xs)

  pub shorter_changed : (change : R → Option R) (k : Key) (t : Table R) → length (change_row change k t) ≤ length t
  unfolding change_row
  shorter_changed change k t = shorter_mapped (changed_entry change k) t

  put_step : (k : Key) (r : R) (x : Key × R) (xs : Table R) (o : Ordering) → length (insert_entry key_cmp xs k r) ≤ suc (length xs)
      → length (match_ordering o ((k, r) ∷ x ∷ xs) ((x.0, r) ∷ xs) (x ∷ insert_entry key_cmp xs k r)) ≤ suc (suc (length xs))
  put_step k r x xs o le = grind arith

  pub one_more : (k : Key) (r : R) (t : Table R) → length (put t k r) ≤ length t + 1
  unfolding put
  one_more k r [] = omega arith
  one_more k r (x ∷ xs) =
      let le : length (insert_entry key_cmp xs k r) ≤ length xs + 1 = one_more k r xs in
      let step : length (match_ordering (key_cmp k x.0) ((k, r) ∷ x ∷ xs) ((x.0, r) ∷ xs) (x ∷ insert_entry key_cmp xs k r)) ≤ suc (suc (length xs)) =
      put_step k r x xs (key_cmp k x.0) (omega arith) in omega arith

-- ---- by their keys

-- all different
abbrev pub AreApart : List Key → Type 0
AreApart [] = Unit {0}
AreApart (k ∷ ks) = AllByRecursion (λ q. same_key k q ≡ false) ks × AreApart ks

never : (b : Bool) → (b && false) ≡ false
never b = grind arith

named_apart : (k q x : Key) → same_key k q ≡ false → (b : Bool) → same_key q x ≡ b → (not (same_key k x) && b) ≡ b
named_apart k q x apart b e = grind (arith, equal_keys, never)

any_apart : (k q : Key) → same_key k q ≡ false → (xs : List Key)
    → list_any (λ x. not (same_key k x) && same_key q x) xs ≡ list_any (same_key q) xs
any_apart k q apart xs = grind (arith, named_apart)

still_named : (k q : Key) (ks : List Key) → same_key k q ≡ false → is_named ks q ≡ true
    → is_named (filter (λ x. not (same_key k x)) ks) q ≡ true
unfolding is_named
still_named k q ks apart named =
    any_in_filter (λ x. not (same_key k x)) (same_key q) ks ∙ (any_apart k q apart ks ∙ named)

pub no_longer : (xs ys : List Key) → AreApart xs → AllByRecursion (λ k. is_named ys k ≡ true) xs → length xs ≤ length ys
unfolding is_named
no_longer [] ys apart named = omega arith
no_longer (k ∷ ks) ys apart named =
    let rest : List Key = filter (λ x. not (same_key k x)) ys in
    let fewer : length rest < length ys =
    filter_stricter (λ x. not (same_key k x)) (same_key k) (λ x e. rw e refl) ys named.0 in
    let later : length ks ≤ length rest =
    no_longer ks rest apart.1
    (each_both (λ q. same_key k q ≡ false) (λ q. is_named ys q ≡ true) (λ q. is_named rest q ≡ true)
    (λ q f g. still_named k q ys f g) ks apart.0 named.1) in
    omega arith

-- what rises is apart
less_apart : (a b : Key) → key_cmp a b ≡ Ordering.Less → same_key a b ≡ false
less_apart a b less = ap is_eq less

above_apart : {R : Type 0} (k : Key) (t : Table R) → AllByRecursion (IsBelow k) t
    → AllByRecursion (λ q. same_key k q ≡ false) (keys_in t)
unfolding keys_in
above_apart k [] f = tt
above_apart k (x ∷ xs) f = (less_apart k x.0 f.0, above_apart k xs f.1)

pub rising_apart : {R : Type 0} (t : Table R) → Up t → AreApart (keys_in t)
unfolding keys_in
rising_apart [] f = tt
rising_apart (x ∷ xs) f = (above_apart x.0 xs f.0, rising_apart xs f.1)

-- ---- keys that are needed

named_in : (ks : List Key) (k q : Key) → is_named ks q ≡ true → is_named (once_more ks k) q ≡ true
unfolding once_more is_named
named_in ks k q e = grind (arith, list_any-append, or_left)

named_new : (ks : List Key) (k q : Key) → same_key q k ≡ true → is_named (once_more ks k) q ≡ true
unfolding once_more is_named
named_new ks k q e = grind (arith, equal_keys, list_any-append, or_right, or_left)

folded : (more found : List Key) (q : Key) → (is_named found q || is_named more q) ≡ true
    → is_named (fold once_more found more) q ≡ true
unfolding is_named
folded [] found q e = either (list_any (same_key q) found) false (λ f. f) (λ f. cc) e
folded (k ∷ ks) found q e =
    folded ks (once_more found k) q
    (either (is_named found q) (same_key q k || is_named ks q)
    (λ f. or_left (is_named (once_more found k) q) (is_named ks q) (named_in found k q f))
    (λ f. either (same_key q k) (is_named ks q)
    (λ g. or_left (is_named (once_more found k) q) (is_named ks q) (named_new found k q g))
    (λ g. or_right (is_named (once_more found k) q) (is_named ks q) g) f) e)

-- an entry is under a key of the table, or under a named one
abbrev pub Within : {R : Type 0} → Table R → List Key → Key × R → Type 0
Within t ks e = (is_named (keys_in t) e.0 || is_named ks e.0) ≡ true

pub in_keys : {R : Type 0} (t : Table R) (q : Key) → has_row t q ≡ is_named (keys_in t) q
unfolding is_named keys_in
in_keys t q = has_row_any q t ∙ sym (any_of_map (same_key q) (λ e. e.0) t)

new_named : {R : Type 0} (t : Table R) (q : Key) → has_row t q ≡ false → (xs : List Key)
    → list_any (λ k. not (has_row t k) && same_key q k) xs ≡ list_any (same_key q) xs
new_named t q there xs = grind (arith, equal_keys, never)

pub own : {R : Type 0} (t : Table R) → AllByRecursion (λ (e : Key × R). is_named (keys_in t) e.0 ≡ true) t
unfolding is_named keys_in
own [] = tt
own (x ∷ xs) = (
  or_left (same_key x.0 x.0) (is_named (keys_in xs) x.0) (same_key_same x.0),
  each_more (λ e. is_named (keys_in xs) e.0 ≡ true) (λ e. is_named (keys_in (x ∷ xs)) e.0 ≡ true)
      (λ e f. or_right (same_key e.0 x.0) (is_named (keys_in xs) e.0) f) xs (own xs),
)

-- the rows of a table are under its keys
pub own_rows : {R : Type 0} (t : Table R) (ks : List Key) → AllByRecursion (Within t ks) t
unfolding is_named keys_in
own_rows t ks =
    each_more (λ e. is_named (keys_in t) e.0 ≡ true) (Within t ks) (λ e f. or_left (is_named (keys_in t) e.0) (is_named ks e.0) f) t (own t)

module _ {R : Type 0} (t : Table R) (ks : List Key) where
  abbrev all_keys : List Key
  all_keys = keys_in t ++ filter (λ k. not (has_row t k)) (distinct ks)

  among_all : (q : Key) → (is_named (keys_in t) q || is_named ks q) ≡ true → is_named all_keys q ≡ true
  unfolding is_named distinct
  among_all q e =
      list_any-append (same_key q) (keys_in t) (filter (λ k. not (has_row t k)) (distinct ks))
      ∙ either (is_named (keys_in t) q) (is_named ks q)
      (λ f. or_left (is_named (keys_in t) q) _ f)
      (λ f. go (has_row t q) refl (folded ks [] q f)) e
    where
      go : (b : Bool) → has_row t q ≡ b → is_named (distinct ks) q ≡ true
          → (is_named (keys_in t) q || is_named (filter (λ k. not (has_row t k)) (distinct ks)) q) ≡ true
      go true there f = or_left (is_named (keys_in t) q) _ (sym (in_keys t q) ∙ there)
      go false there f = or_right (is_named (keys_in t) q) _ (any_in_filter (λ k. not (has_row t k)) (same_key q) (distinct ks) ∙ (new_named t q there (distinct ks) ∙ f))

  -- a table with rising keys, each of the table or named, is longer by what is needed at most
  pub longer_by_needed : (u : Table R) → Up u → AllByRecursion (Within t ks) u → length u ≤ length t + needed t ks
  unfolding needed keys_in
  longer_by_needed u up within =
      let bound : length (keys_in u) ≤ length all_keys =
      no_longer (keys_in u) all_keys (rising_apart u up)
      (each_map (Within t ks) (λ q. is_named all_keys q ≡ true) (λ e. e.0) (λ e f. among_all e.0 f) u within) in
      omega (arith, bound, length-append (keys_in t) (filter (λ k. not (has_row t k)) (distinct ks)), length-map u (λ (e : Key × R). e.0), length-map t (λ (e : Key × R). e.0))

-- ---- rows that are put

pub none_needed : {R : Type 0} (t : Table R) → needed t [] ≡ 0
unfolding needed distinct
none_needed t = refl

module _ {R : Type 0} (t : Table R) (k : Key) (r : R) where
  pub put_there : Up t → has_row t k ≡ true → length (put t k r) ≤ length t
  put_there up there =
      let bound : length (put t k r) ≤ length t + needed t [] =
      longer_by_needed t [] (put t k r) (up_put k r t up)
      (each_put k r (Within t []) (or_left (is_named (keys_in t) k) (is_named [] k) (sym (in_keys t k) ∙ there)) t (own_rows t [])) in
      let none : needed t [] ≡ 0 = none_needed t in
      omega arith

-- a named key that passes is named among those that pass
pub named_passing : (p : Key → Bool) (k : Key) (ks : List Key) → p k ≡ true → is_named ks k ≡ true
    → is_named (filter p ks) k ≡ true
unfolding is_named
named_passing p k ks passes e = any_in_filter p (same_key k) ks ∙ (passing_named p k passes ks ∙ e)

some_pass : (p : Key → Bool) (ks : List Key) → list_any p ks ≡ true → 1 ≤ length ks
some_pass p [] e = cc
some_pass p (k ∷ ks) e = omega arith

pub named_distinct : (ks : List Key) (k : Key) → is_named ks k ≡ true → is_named (distinct ks) k ≡ true
unfolding distinct is_named
named_distinct ks k e = folded ks [] k (or_right false (is_named ks k) e)

-- a named key without a row is needed
pub needed_some : {R : Type 0} (t : Table R) (ks : List Key) (k : Key) → has_row t k ≡ false → is_named ks k ≡ true
    → 1 ≤ needed t ks
unfolding needed is_named
needed_some t ks k none e =
    some_pass (same_key k) (filter (λ q. not (has_row t q)) (distinct ks))
    (named_passing (λ q. not (has_row t q)) k (distinct ks) (rw none refl) (named_distinct ks k e))
