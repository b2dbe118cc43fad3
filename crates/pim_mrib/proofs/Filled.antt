-- A trie filled with the values of a list, the last first.
use Rattle.std.{proofs.{Common.{◌≡◌, ℕ, zero, suc, ◌+◌, ◌<◌, ◌≤◌, Bool, true, false, cond, eqb, not, ◌&&◌, ◌||◌, List, [], ◌∷◌, length, get_or, drop, map, Option, Some, None, option_map, is_some, refl, sym, ap, subst, ◌∙◌, arith, add-one}, Math.Seq.drop-cons, lemmas.Grind.common_steps}, specs.{List.{list_all, list_any}, Map.lookup, BTreeMap.{insert_entry, is_at}, declared.cmp.Ordering.{Ordering, TheVariants.{Less, Equal, Greater}}, Ordering.{is_eq, match_ordering, nat_cmp, ordering_then}, Prelude.nat_lt}}
use Rattle.pim_model.{specs.Limits.{are_distinct, same_prefix}}
use Rattle.pim_ip.{specs.{declared.addr.Prefix.Prefix, Prefixes.{contains, longer, longest_match}}}
use Rattle.pim_trie.{specs.Entries.{is_canonical, nodes_along, prefix_cmp}, proofs.Counts.along_same}
use Rattle.pim_mrib.{specs.Index.{IsIndexOf, prefix_entry, nodes_visited}, proofs.{Inserted.{any-insert, is_some-lookup}, Longest.{candidates_swap, ties_are_equal, with_candidate}}}

or_first : (a b : Bool) → (a || b) ≡ false → a ≡ false
or_first true b e = cc
or_first false b e = refl

or_second : (a b : Bool) → (a || b) ≡ false → b ≡ false
or_second true b e = cc
or_second false b e = e

and_second : (a b : Bool) → (a && b) ≡ true → b ≡ true
and_second true b e = e
and_second false b e = cc

and_first : (a b : Bool) → (a && b) ≡ true → a ≡ true
and_first true b e = refl
and_first false b e = cc

and_false : (a : Bool) → (a && false) ≡ false
and_false true = refl
and_false false = refl

not_not : (a : Bool) → not a ≡ false → a ≡ true
not_not true e = refl
not_not false e = cc

-- ---- the longest match of a trie with one more entry

module _ {V : Type 0} where
  abbrev longest : List (Prefix × V) → ℕ → Option (Prefix × V)
  longest = longest_match (λ (e : Prefix × V). e.0)

  abbrev added : ℕ → Prefix × V → Option (Prefix × V) → Option (Prefix × V)
  added address e best = with_candidate (λ (x : Prefix × V). x.0) e (contains e.0 address) best

  longest-cons : (e : Prefix × V) (es : List (Prefix × V)) (address : ℕ)
      → longest (e ∷ es) address ≡ added address e (longest es address)
  unfolding longest_match
  longest-cons e es address = go (contains e.0 address)
    where
      go : (b : Bool) → cond b (Some (longer (λ (x : Prefix × V). x.0) e (longest es address))) (longest es address)
          ≡ with_candidate (λ (x : Prefix × V). x.0) e b (longest es address)
      go true = refl
      go false = refl

  longest_step : (address : ℕ) (p : Prefix) (v : V) (e : Prefix × V) (es more : List (Prefix × V)) (o : Ordering)
      → prefix_cmp p e.0 ≡ o → is_canonical p ≡ true → is_canonical e.0 ≡ true
      → cond (is_eq o) (Some e.1) (lookup (is_at (prefix_cmp p)) es) ≡ None
      → (lookup (is_at (prefix_cmp p)) es ≡ None → longest more address ≡ added address (p, v) (longest es address))
      → longest (match_ordering o ((p, v) ∷ e ∷ es) ((e.0, v) ∷ es) (e ∷ more)) address
      ≡ added address (p, v) (longest (e ∷ es) address)
  longest_step address p v e es more Less was pc ec absent rest = longest-cons (p, v) (e ∷ es) address
  longest_step address p v e es more Equal was pc ec absent rest = cc
  longest_step address p v e es more Greater was pc ec absent rest =
      let apart : contains e.0 address ≡ true → contains p address ≡ true → e.0.length ≡ p.length → ⊥ =
      λ inside here lengths. let same : is_eq (prefix_cmp p e.0)
      ≡ true = ties_are_equal p e.0 address pc ec here inside (sym lengths) in
      absurd (cc) in
      longest-cons e more address ∙ ap (added address e) (rest absent)
      ∙ candidates_swap (λ (x : Prefix × V). x.0) e (p, v) (contains e.0 address) (contains p address)
      (longest es address) apart
      ∙ ap (added address (p, v)) (sym (longest-cons e es address))

  pub longest-insert : (address : ℕ) (p : Prefix) (v : V) (es : List (Prefix × V)) → is_canonical p ≡ true
      → list_any (λ e. not (is_canonical e.0)) es ≡ false → lookup (is_at (prefix_cmp p)) es ≡ None
      → longest (insert_entry prefix_cmp es p v) address ≡ added address (p, v) (longest es address)
  longest-insert address p v [] pc canonical absent = longest-cons (p, v) [] address
  longest-insert address p v (e ∷ es) pc canonical absent =
      longest_step address p v e es _ (prefix_cmp p e.0) refl pc
      (not_not (is_canonical e.0) (or_first _ _ canonical)) absent
      (longest-insert address p v es pc (or_second (not (is_canonical e.0)) _ canonical))

-- ---- prefixes that are the same

equal_order : (m n : ℕ) (o : Ordering) → nat_cmp m n ≡ o → eqb m n ≡ is_eq o
equal_order m n Less was = grind (arith, common_steps, was)
equal_order m n Equal was = grind (arith, common_steps, was)
equal_order m n Greater was = grind (arith, common_steps, was)

both_equal : (a b : Ordering) → (is_eq a && is_eq b) ≡ is_eq (ordering_then a b)
both_equal Less b = refl
both_equal Equal b = refl
both_equal Greater b = refl

same_prefix_order : (p q : Prefix) → same_prefix p q ≡ is_at (prefix_cmp p) q
unfolding prefix_cmp
same_prefix_order p q =
    ap (λ (b : Bool). b && eqb p.length q.length) (equal_order p.address.bits q.address.bits _ refl)
    ∙ ap (λ (b : Bool). is_eq (nat_cmp p.address.bits q.address.bits) && b) (equal_order p.length q.length _ refl)
    ∙ both_equal (nat_cmp p.address.bits q.address.bits) (nat_cmp p.length q.length)

-- ---- a trie that answers as a list does

module _ {T : Type 0} (prefix_of : T → Prefix) where
  abbrev pub canonical : T → Bool
  canonical value = is_canonical (prefix_of value)

  -- what is canonical as entries
  pub none_uncanonical : (values : List T) → list_all canonical values ≡ true
      → list_any (λ (e : Prefix × T). not (is_canonical e.0)) (map (prefix_entry prefix_of) values) ≡ false
  none_uncanonical [] h = refl
  none_uncanonical (value ∷ values) h = go (canonical value) h (none_uncanonical values)
    where
      go : (b : Bool) → (b && list_all canonical values) ≡ true
          → (list_all canonical values ≡ true
          → list_any (λ (e : Prefix × T). not (is_canonical e.0)) (map (prefix_entry prefix_of) values) ≡ false)
          → (not b || list_any (λ (e : Prefix × T). not (is_canonical e.0)) (map (prefix_entry prefix_of) values)) ≡ false
      go true e rest = rest e
      go false e rest = cc

  -- the longest match of the values, as entries
  entry-longer : (value : T) (best : Option T)
      → longer (λ (e : Prefix × T). e.0) (prefix_entry prefix_of value) (option_map (prefix_entry prefix_of) best)
      ≡ prefix_entry prefix_of (longer prefix_of value best)
  unfolding longer
  entry-longer value None = refl
  entry-longer value (Some other) = go (nat_lt (prefix_of other).length (prefix_of value).length)
    where
      go : (b : Bool) → cond b (prefix_entry prefix_of value) (prefix_entry prefix_of other)
          ≡ prefix_entry prefix_of (cond b value other)
      go true = refl
      go false = refl

  pub match-entry : (value : T) (values : List T) (address : ℕ)
      → added address (prefix_entry prefix_of value)
      (option_map (prefix_entry prefix_of) (longest_match prefix_of values address))
      ≡ option_map (prefix_entry prefix_of) (longest_match prefix_of (value ∷ values) address)
  unfolding longest_match
  match-entry value values address = go (contains (prefix_of value) address)
    where
      go : (b : Bool) → with_candidate (λ (e : Prefix × T). e.0) (prefix_entry prefix_of value) b
          (option_map (prefix_entry prefix_of) (longest_match prefix_of values address))
          ≡ option_map (prefix_entry prefix_of)
          (cond b (Some (longer prefix_of value (longest_match prefix_of values address)))
          (longest_match prefix_of values address))
      go true = ap (λ (e : Prefix × T). Some e) (entry-longer value (longest_match prefix_of values address))
      go false = refl

  -- one value more
  pub indexed_more : (value : T) (values : List T) (es : List (Prefix × T)) → canonical value ≡ true
      → list_all canonical values ≡ true
      → IsIndexOf prefix_of values es → lookup (is_at (prefix_cmp (prefix_of value))) es ≡ None
      → IsIndexOf prefix_of (value ∷ values) (insert_entry prefix_cmp es (prefix_of value) value)
  indexed_more value values es here others index absent = record {
    holds =
        λ test. any-insert test (prefix_of value) value es absent
        ∙ ap (λ (b : Bool). test (prefix_entry prefix_of value) || b) (index.holds test);
    finds = λ address.
        longest-insert address (prefix_of value) value es here
        (index.holds (λ (e : Prefix × T). not (is_canonical e.0)) ∙ none_uncanonical values others) absent
        ∙ ap (added address (prefix_entry prefix_of value)) (index.finds address) ∙ match-entry value values address;
  }

  -- a look-up of a value's prefix finds something where another value has the same
  any_same : (p : Prefix) (values : List T)
      → list_any (λ (e : Prefix × T). is_at (prefix_cmp p) e.0) (map (prefix_entry prefix_of) values)
      ≡ list_any (same_prefix p) (map prefix_of values)
  any_same p [] = refl
  any_same p (value ∷ values) =
      ap (λ (b : Bool). b || list_any (λ (e : Prefix × T). is_at (prefix_cmp p) e.0) (map (prefix_entry prefix_of) values))
      (sym (same_prefix_order p (prefix_of value)))
      ∙ ap (λ (b : Bool). same_prefix p (prefix_of value) || b) (any_same p values)

  pub is_there : (p : Prefix) (values : List T) (es : List (Prefix × T)) → IsIndexOf prefix_of values es
      → is_some (lookup (is_at (prefix_cmp p)) es) ≡ list_any (same_prefix p) (map prefix_of values)
  is_there p values es index =
      is_some-lookup (is_at (prefix_cmp p)) es ∙ index.holds (λ (e : Prefix × T). is_at (prefix_cmp p) e.0)
      ∙ any_same p values

  -- ---- the values from a place on

  from_place : (values : List T) (n : ℕ) (value : T) → n < length values → value ≡ get_or values n value
      → drop n values ≡ value ∷ drop (n + 1) values
  from_place values n value within is =
      rw (add-one, drop-cons values n value within) (ap (λ (x : T). x ∷ drop (suc n) values) (sym is))

  all-drop : (values : List T) (n : ℕ) → list_all canonical values ≡ true → list_all canonical (drop n values) ≡ true
  all-drop values zero h = h
  all-drop [] (suc n) h = h
  all-drop (value ∷ values) (suc n) h = all-drop values n (and_second (canonical value) _ h)

  distinct-drop : (values : List T) (n : ℕ) → are_distinct (map prefix_of (drop n values)) ≡ false
      → are_distinct (map prefix_of values) ≡ false
  unfolding are_distinct
  distinct-drop values zero h = h
  distinct-drop [] (suc n) h = h
  distinct-drop (value ∷ values) (suc n) h =
      let rest : are_distinct (map prefix_of values) ≡ false = distinct-drop values n h in
      rw rest (and_false _)

  -- what holds of the trie when the values from a place on are in it
  pub record HasFrom (values : List T) (place : ℕ) (es : List (Prefix × T)) : Type 0 where
    pub within : place ≤ length values
    pub index : IsIndexOf prefix_of (drop place values) es
    pub distinct : are_distinct (map prefix_of (drop place values)) ≡ true

  drop-all : (values : List T) → drop (length values) values ≡ []
  drop-all [] = refl
  drop-all (value ∷ values) = drop-all values

  pub index_of_none : IsIndexOf prefix_of [] []
  unfolding longest_match
  index_of_none = record { holds = λ test. refl; finds = λ address. refl }

  none_distinct : are_distinct (map prefix_of []) ≡ true
  unfolding are_distinct
  none_distinct = refl

  pub has_none : (values : List T) → HasFrom values (length values) []
  has_none values = record {
    within = omega arith;
    index = subst (λ (xs : List T). IsIndexOf prefix_of xs []) (sym (drop-all values)) index_of_none;
    distinct = ap (λ (xs : List T). are_distinct (map prefix_of xs)) (drop-all values) ∙ none_distinct;
  }

  -- the first of the values has a prefix of its own, or one that another has
  first_distinct : (value : T) (values : List T) (es : List (Prefix × T)) → IsIndexOf prefix_of values es
      → are_distinct (map prefix_of values) ≡ true
      → lookup (is_at (prefix_cmp (prefix_of value))) es ≡ None → are_distinct (map prefix_of (value ∷ values)) ≡ true
  unfolding are_distinct
  first_distinct value values es index rest absent =
      let others : list_any (same_prefix (prefix_of value)) (map prefix_of values) ≡ false =
      sym (is_there (prefix_of value) values es index) ∙ ap is_some absent in
      rw (others, rest) refl

  first_repeated : (value : T) (values : List T) (es : List (Prefix × T)) → IsIndexOf prefix_of values es
      → is_some (lookup (is_at (prefix_cmp (prefix_of value))) es) ≡ true
      → are_distinct (map prefix_of (value ∷ values)) ≡ false
  unfolding are_distinct
  first_repeated value values es index found =
      let others : list_any (same_prefix (prefix_of value)) (map prefix_of values) ≡ true =
      sym (is_there (prefix_of value) values es index) ∙ found in
      rw others refl

  pub has_more : (values : List T) (place : ℕ) (value : T) (es : List (Prefix × T)) → list_all canonical values ≡ true
      → place < length values → value ≡ get_or values place value → HasFrom values (place + 1) es
      → lookup (is_at (prefix_cmp (prefix_of value))) es ≡ None
      → HasFrom values place (insert_entry prefix_cmp es (prefix_of value) value)
  has_more values place value es all within is has absent =
      let here : drop place values ≡ value ∷ drop (place + 1) values = from_place values place value within is in
      let both : (canonical value && list_all canonical (drop (place + 1) values)) ≡ true =
      sym (ap (list_all canonical) here) ∙ all-drop values place all in
      record {
        within = omega arith;
        index =
            subst (λ (xs : List T). IsIndexOf prefix_of xs (insert_entry prefix_cmp es (prefix_of value) value))
            (sym here)
            (indexed_more value (drop (place + 1) values) es (and_first (canonical value) _ both)
            (and_second (canonical value) _ both) has.index absent);
        distinct = ap (λ (xs : List T). are_distinct (map prefix_of xs)) here
            ∙ first_distinct value (drop (place + 1) values) es has.index has.distinct absent;
      }

  pub has_two : (values : List T) (place : ℕ) (value : T) (es : List (Prefix × T))
      → place < length values → value ≡ get_or values place value → HasFrom values (place + 1) es
      → is_some (lookup (is_at (prefix_cmp (prefix_of value))) es) ≡ true
      → are_distinct (map prefix_of values) ≡ false
  has_two values place value es within is has found =
      distinct-drop values place
      (ap (λ (xs : List T). are_distinct (map prefix_of xs)) (from_place values place value within is)
      ∙ first_repeated value (drop (place + 1) values) es has.index found)

  -- ---- what the look-up visits

  pub index_nodes : (values : List T) (es : List (Prefix × T)) (address : ℕ) → IsIndexOf prefix_of values es
      → nodes_along es address 32 ≡ nodes_visited prefix_of values address
  unfolding nodes_visited
  index_nodes values es address index =
      along_same es (map (prefix_entry prefix_of) values) (λ test. index.holds (λ (e : Prefix × T). test e.0)) address 32

  -- what it finds is what the list has

  pub found_none : (values : List T) (es : List (Prefix × T)) (address : ℕ) → IsIndexOf prefix_of values es
      → None ≡ longest es address
      → None ≡ longest_match prefix_of values address
  found_none values es address index missing =
      go (longest_match prefix_of values address) (missing ∙ index.finds address)
    where
      go : (best : Option T) → None ≡ option_map (prefix_entry prefix_of) best → None ≡ best
      go None e = refl
      go (Some value) e = cc

  pub found_some : (values : List T) (es : List (Prefix × T)) (address : ℕ) (e : Prefix × T)
      → IsIndexOf prefix_of values es
      → Some e ≡ longest es address → Some e.1 ≡ longest_match prefix_of values address
  found_some values es address e index found = go (longest_match prefix_of values address) (found ∙ index.finds address)
    where
      go : (best : Option T) → Some e ≡ option_map (prefix_entry prefix_of) best → Some e.1 ≡ best
      go None same = cc
      go (Some value) same =
          let whole : e ≡ prefix_entry prefix_of value = cc in
          ap (λ (x : Prefix × T). Some x.1) whole

-- a test of what a look-up found
pub found_true : {V : Type 0} (found was : Option V) (b : Bool) → b ≡ is_some found → b ≡ true → found ≡ was
    → is_some was ≡ true
found_true found was b e f g = sym (ap is_some g) ∙ sym e ∙ f

pub found_false : {V : Type 0} (found was : Option V) (b : Bool) → b ≡ is_some found → b ≡ false → found ≡ was
    → was ≡ None
found_false None was b e f g = sym g
found_false (Some x) was b e f g = cc
