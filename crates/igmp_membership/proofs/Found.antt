-- The sources of a group, gathered interface by interface.
use Rattle.std.{proofs.{Common.{◌≡◌, ◌<◌, ◌≤◌, ◌==◌, ◌&&◌, ◌||◌, ◌+◌, ℕ, suc, Bool, true, false, cond, List, [], ◌∷◌, ◌++◌, map, Option, Some, None, is_none, is_some, nat_lt, refl, sym, ap, subst, ◌∙◌, arith}, Math.Bool.{or-false, or_assoc, or_self, or_self_left}, lemmas.{Bool.Decides.nat_tests, List.Folds.list_any-append}}, specs.{BTreeMap.insert_entry, List.{AllByRecursion, filter, list_any, Sorted.IsStrictlySortedBy}, Option.option_map_or, Ordering.{match_ordering, nat_cmp, ordering_then}, declared.cmp.Ordering.{Ordering, TheVariants.{Less, Equal, Greater}}}}
use Rattle.pim_ip.{specs.declared.addr.Addr.Addr}
use Rattle.pim_types.{specs.{declared.fact.Key.Key, Keys.{iface_in, is_of_group, is_on, key_cmp, names_source, source_in}}}
use Rattle.pim_model.{specs.{Records.is_at_group, Tables.{Table, keys_in}, Upstream.sources_of}}
use Rattle.law_settled.{proofs.{ListLaws.{each_more, or_swapped}, Numbers.{RisesFrom, any_ascending, rises_ascending, same_numbers}, TableLaws.{any_in_filter, any_of_map}}}
use Rattle.igmp_membership.{specs.{MembershipTables.{MembershipTables, membership_keys}, Sources.{Gathers, NameNone, has_number, is_of_source}}}

-- ---- the interfaces of rows whose keys rise

not_above : (m n : ℕ) (rest : Ordering) → ordering_then (nat_cmp m n) rest ≡ Less → m ≤ n
not_above m n rest less = go (nat_cmp m n) refl less
  where
    go : (o : Ordering) → nat_cmp m n ≡ o → ordering_then o rest ≡ Less → m ≤ n
    go Less is less = grind (arith, nat_tests, is)
    go Equal is less = grind (arith, nat_tests, is)
    go Greater is less = cc

module _ {R : Type 0} where
  pub last_highest : (t : Table R) (e : Key × R) → IsStrictlySortedBy key_cmp (keys_in (t ++ e ∷ []))
      → AllByRecursion (λ (x : Key × R). iface_in x.0 < iface_in e.0 + 1) (t ++ e ∷ [])
  unfolding IsStrictlySortedBy keys_in key_cmp
  last_highest [] e sorted = (omega arith, tt)
  last_highest (x ∷ t) e sorted =
      let least : iface_in x.0 ≤ iface_in e.0 = not_above _ _ _ (key_below t e x.0 sorted.0) in
      (omega arith, last_highest t e sorted.1)
    where
      key_below : (t : Table R) (e : Key × R) (k : Key)
          → AllByRecursion (λ q. key_cmp k q ≡ Less) (keys_in (t ++ e ∷ [])) → key_cmp k e.0 ≡ Less
      key_below [] e k all = all.0
      key_below (y ∷ t) e k all = key_below t e k all.1

-- ---- an address put into a set

same_number : (n l m : ℕ) → (l == m) ≡ true → (l == n) ≡ (m == n)
same_number n l m same = let is : l ≡ m = grind (arith, nat_tests, same) in ap (λ (x : ℕ). x == n) is

module _ {U : Type 0} (n : ℕ) where
  placed : (a : Addr) (u : U) (e : Addr × U) (t rest : List (Addr × U)) (less same : Bool)
      → (a.bits == (e.0).bits) ≡ same → has_number n rest ≡ ((a.bits == n) || has_number n t)
      → has_number n (match_ordering (cond less Less (cond same Equal Greater)) ((a, u) ∷ e ∷ t) ((e.0, u) ∷ t)
      (e ∷ rest))
      ≡ ((a.bits == n) || (((e.0).bits == n) || has_number n t))
  placed a u e t rest true same is put = refl
  placed a u e t rest false true is put =
      sym (ap (λ (b : Bool). b || (((e.0).bits == n) || has_number n t)) (same_number n a.bits (e.0).bits is)
      ∙ or_self_left ((e.0).bits == n) (has_number n t))
  placed a u e t rest false false is put =
      ap (λ (b : Bool). ((e.0).bits == n) || b) put
      ∙ or_swapped ((e.0).bits == n) (a.bits == n) (has_number n t)

  pub number_put : (a : Addr) (u : U) (t : List (Addr × U))
      → has_number n (insert_entry (λ (x : Addr) (y : Addr). nat_cmp x.bits y.bits) t a u)
      ≡ ((a.bits == n) || has_number n t)
  number_put a u [] = refl
  number_put a u (e ∷ t) =
      placed a u e t (insert_entry (λ (x : Addr) (y : Addr). nat_cmp x.bits y.bits) t a u)
      (nat_lt a.bits (e.0).bits) (a.bits == (e.0).bits) refl (number_put a u t)

pub above_all : {R : Type 0} (facts rest : Table R) (e : Key × R) (n : ℕ) → facts ≡ rest ++ e ∷ []
    → IsStrictlySortedBy key_cmp (keys_in facts) → n ≡ iface_in e.0 + 1
    → AllByRecursion (λ (x : Key × R). iface_in x.0 < n) facts
above_all {R} facts rest e n is sorted next =
    subst (λ (m : ℕ). AllByRecursion (λ (x : Key × R). iface_in x.0 < m) facts) (sym next)
    (subst (λ (t : Table R). AllByRecursion (λ (x : Key × R). iface_in x.0 < iface_in e.0 + 1) t) (sym is)
    (last_highest rest e (subst (λ (t : Table R). IsStrictlySortedBy key_cmp (keys_in t)) is sorted)))

-- ---- the sources of one interface, and of those before it

regroup : (a b c : Bool) → ((a || b) || c) ≡ (b || (a || c))
regroup true true c = refl
regroup true false c = refl
regroup false b c = refl

crossed : (a b c d : Bool) → ((a || b) || (c || d)) ≡ ((a || c) || (b || d))
crossed true b c d = refl
crossed false true true d = refl
crossed false true false d = refl
crossed false false c d = refl

any_or : {X : Type 0} (p q : X → Bool) (xs : List X) → list_any (λ x. p x || q x) xs ≡ (list_any p xs || list_any q xs)
any_or p q [] = refl
any_or p q (x ∷ xs) = ap (λ (b : Bool). (p x || q x) || b) (any_or p q xs) ∙ crossed (p x) (q x) (list_any p xs) (list_any q xs)

pub any_alike : {X : Type 0} (p q : X → Bool) → ((x : X) → p x ≡ q x) → (xs : List X) → list_any p xs ≡ list_any q xs
any_alike p q same [] = refl
any_alike p q same (x ∷ xs) = λ j. same x j || any_alike p q same xs j

abbrev any_source : {R : Type 0} → ℕ → Table R → Bool
any_source n t = list_any (λ e. is_of_source n e.0) t

module _ {R U : Type 0} (n : ℕ) where
  pub next_source : (xs t : Table R) (e : Key × R) (source : Addr) (u : U) (before after : List (Addr × U)) → xs ≡ e ∷ t
      → (e.0).source ≡ Some source
      → after ≡ insert_entry (λ (x : Addr) (y : Addr). nat_cmp x.bits y.bits) before source u
      → (has_number n after || any_source n t) ≡ (has_number n before || any_source n xs)
  next_source xs t e source u before after is of put =
      ap (λ (b : Bool). b || any_source n t) (ap (λ (es : List (Addr × U)). has_number n es) put ∙ number_put n source u before)
      ∙ regroup (source.bits == n) (has_number n before) (any_source n t)
      ∙ sym (ap (λ (ys : Table R). has_number n before || any_source n ys) is
      ∙ ap (λ (o : Option Addr). has_number n before || ((is_some o && (option_map_or (λ (a : Addr). a.bits) o 0 == n))
      || any_source n t)) of)

-- of the facts on the interfaces before one, whether one is of the source
abbrev pub any_before : {R : Type 0} → ℕ → ℕ → ℕ → Table R → Bool
any_before k g n t = list_any (λ e. nat_lt (iface_in e.0) k && names_source g n e.0) t

module _ (g n : ℕ) where
  next_lt : (i k : ℕ) → nat_lt i (k + 1) ≡ (nat_lt i k || (i == k))
  next_lt i k = grind (arith, nat_tests)

  either_way : (a b o s x : Bool) → ((a || b) && ((o && s) && x)) ≡ ((a && ((o && s) && x)) || ((b && o) && (s && x)))
  either_way true true true true x = sym (or_self x)
  either_way true true true false x = refl
  either_way true true false s x = refl
  either_way true false o s x = sym (or-false ((o && s) && x))
  either_way false true true true x = refl
  either_way false true true false x = refl
  either_way false true false s x = refl
  either_way false false o s x = refl

  module _ {R : Type 0} where
    pub none_before : (t : Table R) → any_before 0 g n t ≡ false
    none_before [] = refl
    none_before (e ∷ t) =
        let off : nat_lt (iface_in e.0) 0 ≡ false = grind (arith, nat_tests) in
        λ j. (off j && names_source g n e.0) || none_before t j

    one_interface : (k : ℕ) (t : Table R)
        → any_before (k + 1) g n t
        ≡ (any_before k g n t || list_any (λ e. is_of_source n e.0) (filter (λ e. is_at_group k g e.0) t))
    unfolding names_source
    one_interface k t =
        any_alike _ (λ (e : Key × R). (nat_lt (iface_in e.0) k && names_source g n e.0)
        || (is_at_group k g e.0 && is_of_source n e.0)) (λ e.
        ap (λ (b : Bool). b && names_source g n e.0) (next_lt (iface_in e.0) k)
        ∙ either_way (nat_lt (iface_in e.0) k) (is_on k e.0) (is_of_group g e.0) (is_some (e.0).source)
        (source_in e.0 == n)) t
        ∙ any_or _ _ t
        ∙ ap (λ (b : Bool). any_before k g n t || b)
        (sym (any_in_filter (λ (e : Key × R). is_at_group k g e.0) (λ e. is_of_source n e.0) t))

    all_before : (k : ℕ) (t : Table R) → AllByRecursion (λ (e : Key × R). iface_in e.0 < k) t
        → any_before k g n t ≡ list_any (names_source g n) (keys_in t)
    unfolding keys_in
    all_before k [] near = refl
    all_before k (e ∷ t) near =
        let here : nat_lt (iface_in e.0) k ≡ true = grind (arith, nat_tests, near.0) in
        λ j. (here j && names_source g n e.0) || all_before k t near.1 j

    pub nothing_named : (t : Table R) → NameNone t → list_any (names_source g n) (keys_in t) ≡ false
    unfolding keys_in names_source
    nothing_named [] none = refl
    nothing_named (e ∷ t) none =
        λ j. unnamed (is_of_group g e.0) (e.0).source (source_in e.0 == n) none.0 j || nothing_named t none.1 j
      where
        unnamed : (o : Bool) (s : Option Addr) (x : Bool) → is_none s ≡ true → ((o && is_some s) && x) ≡ false
        unnamed o (Some a) x none = cc
        unnamed true None x none = refl
        unnamed false None x none = refl

    pub near_all : (t t' : Table R) (k l : ℕ) → AllByRecursion (λ (e : Key × R). iface_in e.0 < k) t → t ≡ t' → k ≤ l
        → any_before l g n t' ≡ list_any (names_source g n) (keys_in t')
    near_all t t' k l near same more =
        all_before l t' (each_more (λ (e : Key × R). iface_in e.0 < k) _ (λ e below. omega (arith, below, more)) t'
        (subst (λ (u : Table R). AllByRecursion (λ (e : Key × R). iface_in e.0 < k) u) same near))

    -- the sources of one more interface
    pub next_interface : (k : ℕ) (t : Table R) (first before after : Bool) → before ≡ (first || any_before k g n t)
        → after ≡ (before || list_any (λ e. is_of_source n e.0) (filter (λ e. is_at_group k g e.0) t))
        → after ≡ (first || any_before (k + 1) g n t)
    next_interface k t first before after is one =
        let more : Bool = list_any (λ (e : Key × R). is_of_source n e.0) (filter (λ e. is_at_group k g e.0) t) in
        one ∙ ap (λ (b : Bool). b || more) is ∙ or_assoc first (any_before k g n t) more
        ∙ ap (λ (b : Bool). first || b) (sym (one_interface k t))

-- ---- all of them, in order

less_of : (m n : ℕ) → nat_cmp m n ≡ Less → m < n
less_of m n e = grind (arith, nat_tests)

-- what passes among the keys of each kind of fact
pub any_of_five : (p : Key → Bool) (a b c d e : List Key)
    → list_any p (a ++ b ++ c ++ d ++ e)
    ≡ (list_any p a || (list_any p b || (list_any p c || (list_any p d || list_any p e))))
any_of_five p a b c d e = simp (list_any-append, or_assoc)

-- facts of sources are source records and sendings
pub any_member : (g n : ℕ) (m : MembershipTables) → NameNone m.group_records → NameNone m.group_repeats
    → NameNone m.source_repeats
    → list_any (names_source g n) (membership_keys m)
    ≡ (list_any (names_source g n) (keys_in m.source_records) || list_any (names_source g n) (keys_in m.sendings))
unfolding membership_keys
any_member g n m groups repeats more =
    any_of_five (names_source g n) (keys_in m.group_records) (keys_in m.source_records) (keys_in m.group_repeats)
    (keys_in m.source_repeats) (keys_in m.sendings)
    ∙ rw (
      nothing_named g n m.group_records groups,
      nothing_named g n m.group_repeats repeats,
      nothing_named g n m.source_repeats more,
    )
    refl

module _ {U : Type 0} where
  abbrev numbers : List (Addr × U) → List ℕ
  numbers es = map (λ e. (e.0).bits) es

  rises_on : (es : List (Addr × U)) (b : ℕ)
      → IsStrictlySortedBy (λ (x : Addr) (y : Addr). nat_cmp x.bits y.bits) (map (λ e. e.0) es)
      → AllByRecursion (λ (e : Addr × U). b ≤ (e.0).bits) es → RisesFrom b (numbers es)
  unfolding IsStrictlySortedBy
  rises_on [] b sorted above = tt
  rises_on (e ∷ es) b sorted above = (above.0, rises_on es _ sorted.1 (all_above e es sorted.0))
    where
      all_above : (e : Addr × U) (es : List (Addr × U))
          → AllByRecursion (λ (y : Addr). nat_cmp (e.0).bits y.bits ≡ Less) (map (λ e. e.0) es)
          → AllByRecursion (λ (x : Addr × U). suc ((e.0).bits) ≤ (x.0).bits) es
      all_above e [] all = tt
      all_above e (x ∷ es) all = (less_of (e.0).bits (x.0).bits all.0, all_above e es all.1)

  at_least_none : (es : List (Addr × U)) → AllByRecursion (λ (e : Addr × U). 0 ≤ (e.0).bits) es
  at_least_none [] = tt
  at_least_none (e ∷ es) = (omega arith, at_least_none es)

  pub numbers_rise : (es : List (Addr × U))
      → IsStrictlySortedBy (λ (x : Addr) (y : Addr). nat_cmp x.bits y.bits) (map (λ e. e.0) es)
      → RisesFrom 0 (numbers es)
  numbers_rise es sorted = rises_on es 0 sorted (at_least_none es)

  pub all_sources : (g : ℕ) (m : MembershipTables) (found : List (Addr × U)) → NameNone m.group_records
      → NameNone m.group_repeats → NameNone m.source_repeats
      → IsStrictlySortedBy (λ (x : Addr) (y : Addr). nat_cmp x.bits y.bits) (map (λ e. e.0) found)
      → ((n : ℕ) → has_number n found
      ≡ (list_any (names_source g n) (keys_in m.source_records) || list_any (names_source g n) (keys_in m.sendings)))
      → numbers found ≡ sources_of g (membership_keys m)
  unfolding sources_of names_source
  all_sources g m found groups repeats more sorted shown =
      same_numbers 0 0 (numbers found) _ (numbers_rise found sorted) (rises_ascending _) (λ n.
      any_of_map (λ m. m == n) (λ (e : Addr × U). (e.0).bits) found
      ∙ shown n ∙ sym (any_member g n m groups repeats more)
      ∙ sym (any_ascending (λ m. m == n) _
      ∙ any_of_map (λ m. m == n) source_in _
      ∙ any_in_filter (λ (k : Key). is_of_group g k && is_some k.source) (λ k. source_in k == n) (membership_keys m)))

-- the sources of two tables put into an empty set
pub both_gathered : {R S U : Type 0} (g : ℕ) (records : Table R) (sendings : Table S) (empty first second : List (Addr × U))
    → empty ≡ [] → Gathers empty first g records → Gathers first second g sendings → (n : ℕ)
    → has_number n second ≡ (list_any (names_source g n) (keys_in records) || list_any (names_source g n) (keys_in sendings))
both_gathered g records sendings empty first second none one two n =
    two n
    ∙ ap (λ (b : Bool). b || list_any (names_source g n) (keys_in sendings))
    (one n ∙ ap (λ es. has_number n es || list_any (names_source g n) (keys_in records)) none)

-- of two that tell whether there is any, the first that says so, or else the second
pub first_tells : (r a b whole : Bool) → r ≡ a → r ≡ true → whole ≡ (a || b) → r ≡ whole
first_tells r a b whole is there all = there ∙ sym (all ∙ ap (λ (x : Bool). x || b) (sym is ∙ there))

pub second_tells : (first r a b whole : Bool) → first ≡ a → first ≡ false → r ≡ b → whole ≡ (a || b) → r ≡ whole
second_tells first r a b whole is none other all = other ∙ sym (all ∙ ap (λ (x : Bool). x || b) (sym is ∙ none))
