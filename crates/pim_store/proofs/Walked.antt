-- Which groups and sources have marks: those that have facts.
use Rattle.std.{proofs.{Common.{◌≡◌, ◌<◌, ◌≤◌, ◌==◌, ◌&&◌, ◌||◌, ℕ, suc, Bool, true, false, cond, not, List, [], ◌∷◌, ◌++◌, map, nat_lt, Option, Some, None, is_some, refl, sym, ap, ◌∙◌, arith}, lemmas.{Bool.{true≢false, Decides.nat_tests}, List.Folds.list_any-append}}, specs.{Cmp.first_so, List.{AllByRecursion, filter, list_any, Sorted.IsStrictlySortedBy}, Option.{option_cmp, option_map_or}, Ordering.{bool_cmp, nat_cmp, ordering_then}, declared.cmp.Ordering.{Ordering, TheVariants.{Less, Equal, Greater}}}}
use Rattle.pim_ip.{specs.declared.addr.Addr.Addr}
use Rattle.pim_types.{specs.{declared.fact.{AssertRole.{AssertRole, TheVariants.{Loser, Winner}}, AssertRow.AssertRow, DownstreamRow.DownstreamRow, Key.Key}, Keys.{addr_cmp, group_in, iface_in, is_of_group, key_cmp, names_source, same_key, source_in}}, proofs.Keys.{equal_keys, nat_cmp_same, same_key_same}}
use Rattle.pim_model.{specs.{Sets.{is_loser, is_winner}, Tables.{Table, ascending, has_row, is_among, keys_in, row_at}, Upstream.{groups_of, sources_of}}}
use Rattle.law_settled.{proofs.{TableLaws.{any_in_filter, any_of_map, row_is_there}, Numbers.{RisesFrom, any_ascending, members_tell, rises_ascending, same_numbers}}}
use Rattle.pim_tables.{proofs.{Firsts.all_found, RowsIn.{no_row_in, none_in}}}
use Rattle.pim_source_trie.{specs.Entries.entry_key}
use Rattle.pim_store.{specs.{PimTables.{PimTables, stored_keys}, Said.{AreEntries, IsTold, is_about, is_plain_of_iface, is_rpt_of_router, is_source_of_router, mark_key, place, row_says, said, seen_in, source_bits, timers_in}, Sources.sources_in, Stored.IsIndexed, Telling.{assert_says, downstream_says, is_told_by}, declared.marks.{Mark.{Mark, TheVariants.{Joined, Branched, Pruned, Lost, Won, HasOverrideTimer, HasSource, HasRegister}}, Marks.Marks}}, proofs.Places.{place_is, source_again}}

-- ---- tests

both_false : (a b : Bool) → (a ≡ false → b ≡ false) → (b ≡ false → a ≡ false) → a ≡ b
both_false true true f g = refl
both_false true false f g = g refl
both_false false true f g = sym (f refl)
both_false false false f g = refl

left_false : (a b : Bool) → (a || b) ≡ false → a ≡ false
left_false true b e = cc
left_false false b e = refl

right_false : (a b : Bool) → (a || b) ≡ false → b ≡ false
right_false true b e = cc
right_false false b e = e

refuted : (b : Bool) → (b ≡ true → ⊥) → b ≡ false
refuted true never = absurd (never refl)
refuted false never = refl

-- ---- keys of a table

module _ {R : Type 0} (p : Key → Bool) where
  -- where no key passes, no row is under a key that passes
  pub none_under : (t : Table R) (k : Key) → list_any p (keys_in t) ≡ false → p k ≡ true → row_at t k ≡ None
  unfolding keys_in
  none_under t k none passes = go (row_at t k) refl
    where
      go : (o : Option R) → row_at t k ≡ o → o ≡ None
      go None is = refl
      go (Some r) is = absurd (true≢false
          (sym (any_of_map p (λ (e : Key × R). e.0) t ∙ row_is_there (λ e. p e.0) k t r passes is) ∙ none))

  none_step : (e : Key × R) (t : Table R) → ((k : Key) → p k ≡ true → has_row (e ∷ t) k ≡ false)
      → (((k : Key) → p k ≡ true → has_row t k ≡ false) → list_any p (keys_in t) ≡ false)
      → list_any p (keys_in (e ∷ t)) ≡ false
  unfolding has_row row_at keys_in
  none_step e t none later = both (p e.0) (list_any p (keys_in t)) (refuted (p e.0) here) (later rest)
    where
      both : (a b : Bool) → a ≡ false → b ≡ false → (a || b) ≡ false
      both true b e f = cc
      both false b e f = f

      found : (b : Bool) (o : Option R) → b ≡ true → is_some (cond b (Some e.1) o) ≡ true
      found true o is = refl
      found false o is = cc

      here : p e.0 ≡ true → ⊥
      here passes = true≢false
          (sym (found (same_key e.0 e.0) (row_at t e.0) (same_key_same e.0)) ∙ none e.0 passes)

      past : (b : Bool) (o : Option R) → is_some (cond b (Some e.1) o) ≡ false → is_some o ≡ false
      past true o is = cc
      past false o is = is

      rest : (k : Key) → p k ≡ true → has_row t k ≡ false
      rest k passes = past (same_key k e.0) (row_at t k) (none k passes)

  none_among : (t : Table R) → ((k : Key) → p k ≡ true → has_row t k ≡ false) → list_any p (keys_in t) ≡ false
  unfolding keys_in
  none_among [] none = refl
  none_among (e ∷ t) none = none_step e t none (none_among t)

-- ---- marks and rows

-- a key with a mark about it is where the mark says
at_place : (x : Mark) (k : Key) → is_about x (iface_in k) k ≡ true
    → place x (iface_in k) (group_in k) (source_bits k.source) ≡ k
at_place x k about =
    equal_keys (place x (iface_in k) (group_in k) (source_bits k.source)) k
    (place_is x (iface_in k) (group_in k) (source_bits k.source) k
    ∙ (λ i. same_key_same (entry_key k.group k.source) i && about i))

-- a row says something of a mark that is about its key
pub record Speaks {R : Type 0} (tells : Mark → Bool) (says : Mark → R → Bool) (k : Key) (r : R) : Type 0 where
  pub mark : Mark
  pub tell : tells mark ≡ true
  pub about : is_about mark (iface_in k) k ≡ true
  pub yes_said : says mark r ≡ true

-- where nothing is marked of a key there is no row under it
no_row : {R : Type 0} {tells : Mark → Bool} {says : Mark → R → Bool} {fits : Key → Bool} {marks : Table Marks}
    {t : Table R} (k : Key) → IsTold tells says fits marks t
    → ((r : R) → fits k ≡ true → Speaks tells says k r)
    → row_at marks (mark_key (group_in k) (source_bits k.source)) ≡ None → has_row t k ≡ false
unfolding has_row
no_row {R} {tells} {says} {fits} {marks} {t} k is speaks none = go (row_at t k) refl
  where
    go : (o : Option R) → row_at t k ≡ o → is_some o ≡ false
    go None found = refl
    go (Some r) found =
        let word : Speaks tells says k r = speaks r (is.fit k (ap is_some found)) in
        absurd (true≢false (sym word.yes_said
        ∙ ap (λ (o : Option R). row_says tells says word.mark o) (sym found)
        ∙ ap (λ (q : Key). row_says tells says word.mark (row_at t q)) (sym (at_place word.mark k word.about))
        ∙ sym (is.told word.mark word.tell (iface_in k) (group_in k) (source_bits k.source))
        ∙ ap (seen_in word.mark (iface_in k)) none))

same_number : (n : ℕ) → (n == n) ≡ true
same_number n = grind (arith, nat_tests)

both_true : (a b : Bool) → a ≡ true → b ≡ true → (a && b) ≡ true
both_true true b e f = f
both_true false b e f = cc

second_true : (a b : Bool) → (a && b) ≡ true → b ≡ true
second_true true b e = e
second_true false b e = cc

number_of : (m n : ℕ) → (m == n) ≡ true → m ≡ n
number_of m n e = grind (arith, nat_tests)

first_true : (a b : Bool) → (a && b) ≡ true → a ≡ true
first_true true b e = refl
first_true false b e = cc

downstream_speaks : (k : Key) (r : DownstreamRow) → Speaks (is_told_by 0) downstream_says k r
downstream_speaks k r = go k.rpt refl
  where
    go : (b : Bool) → k.rpt ≡ b → Speaks (is_told_by 0) downstream_says k r
    go true is = record {
      mark = Branched;
      tell = refl;
      about = both_true _ _ (same_number (iface_in k)) is;
      yes_said = refl;
    }
    go false is = record {
      mark = Joined;
      tell = refl;
      about = both_true _ _ (same_number (iface_in k)) (ap not is);
      yes_said = refl;
    }

one_role : (role : AssertRole) → elim role [ Loser ↦ true | Winner ↦ false ] ≡ false
    → elim role [ Winner ↦ true | Loser ↦ false ] ≡ false → ⊥
one_role Loser lost won = cc
one_role Winner lost won = cc

assert_speaks : (k : Key) (r : AssertRow) → is_plain_of_iface k ≡ true → Speaks (is_told_by 1) assert_says k r
assert_speaks k r fit = go (is_loser (Some r)) refl (is_winner (Some r)) refl
  where
    about : (iface_in k == iface_in k) && not k.rpt ≡ true
    about =
        both_true (iface_in k == iface_in k) (not k.rpt) (same_number (iface_in k))
        (second_true (nat_lt (iface_in k) 120) (not k.rpt) fit)

    go : (b : Bool) → is_loser (Some r) ≡ b → (c : Bool) → is_winner (Some r) ≡ c → Speaks (is_told_by 1) assert_says k r
    go true is c f = record { mark = Lost; tell = refl; about = about; yes_said = is }
    go false is true f = record { mark = Won; tell = refl; about = about; yes_said = f }
    go false is false f = absurd (one_role r.role is f)

-- ---- the marks and the facts have the same groups and sources

module _ (marks : Table Marks) (f : PimTables) (entries : AreEntries marks) (is : IsIndexed marks f) (p : Key → Bool)
    (same : (k : Key) → p (mark_key (group_in k) (source_bits k.source)) ≡ p k) where
  pub record NoKey : Type 0 where
    pub downstream : list_any p (keys_in f.downstream) ≡ false
    pub asserts : list_any p (keys_in f.asserts) ≡ false
    pub join_timers : list_any p (keys_in f.join_timers) ≡ false
    pub override_timers : list_any p (keys_in f.override_timers) ≡ false
    pub sources : list_any p (keys_in f.sources) ≡ false
    pub registers : list_any p (keys_in f.registers) ≡ false

  split : (a b c d e g : List Key) → list_any p (a ++ b ++ c ++ d ++ e ++ g)
      ≡ (list_any p a || list_any p b || list_any p c || list_any p d || list_any p e || list_any p g)
  split a b c d e g = simp list_any-append

  none_stored : list_any p (stored_keys f) ≡ false → NoKey
  unfolding stored_keys
  none_stored none =
      let six = sym (split (keys_in f.downstream) (keys_in f.asserts) (keys_in f.join_timers)
      (keys_in f.override_timers) (keys_in f.sources) (keys_in f.registers)) ∙ none in
      let five = left_false _ _ six in
      let four = left_false _ _ five in
      let three = left_false _ _ four in
      let two = left_false _ _ three in record {
        downstream = left_false _ _ two;
        asserts = right_false _ _ two;
        join_timers = right_false _ _ three;
        override_timers = right_false _ _ four;
        sources = right_false _ _ five;
        registers = right_false _ _ six;
      }

  all_stored : NoKey → list_any p (stored_keys f) ≡ false
  unfolding stored_keys
  all_stored none =
      split (keys_in f.downstream) (keys_in f.asserts) (keys_in f.join_timers) (keys_in f.override_timers)
      (keys_in f.sources) (keys_in f.registers)
      ∙ rw (none.downstream, none.asserts, none.join_timers, none.override_timers, none.sources, none.registers) refl

  -- where no mark is under a key that passes, no fact is
  none_marked : list_any p (keys_in marks) ≡ false → NoKey
  unfolding timers_in
  none_marked none = record {
    downstream = none_among p f.downstream (λ k passes. no_row k is.downstream (λ r fit. downstream_speaks k r) (at k passes));
    asserts = none_among p f.asserts (λ k passes. no_row k is.asserts (assert_speaks k) (at k passes));
    join_timers = ap (λ t. list_any p (keys_in t)) is.join_timers ∙ no_timer;
    override_timers = none_among p f.override_timers (λ k passes.
        no_row k is.override_timers
        (λ r fit. record { mark = HasOverrideTimer; tell = refl; about = of_rpt k fit; yes_said = refl }) (at k passes));
    sources = none_among p f.sources (λ k passes.
        no_row k is.sources (λ r fit. record { mark = HasSource; tell = refl; about = plain k fit; yes_said = refl })
        (at k passes));
    registers = none_among p f.registers (λ k passes.
        no_row k is.registers (λ r fit. record { mark = HasRegister; tell = refl; about = plain k fit; yes_said = refl })
        (at k passes));
  }
    where
      no_timer : list_any p (keys_in (timers_in marks)) ≡ false
      no_timer = none_in (λ (m : Marks). m.join_timer) p marks none

      of_rpt : (k : Key) → is_rpt_of_router k ≡ true → ((iface_in k == 0) && k.rpt) ≡ true
      of_rpt k fit = first_so ((iface_in k == 0) && k.rpt) (is_some k.source) fit

      plain : (k : Key) → is_source_of_router k ≡ true → ((iface_in k == 0) && not k.rpt) ≡ true
      plain k fit = first_so ((iface_in k == 0) && not k.rpt) (is_some k.source) fit

      at : (k : Key) → p k ≡ true → row_at marks (mark_key (group_in k) (source_bits k.source)) ≡ None
      at k passes = none_under p marks (mark_key (group_in k) (source_bits k.source)) none (same k ∙ passes)

  -- where no fact is under a key that passes, no mark is
  module _ (none : NoKey) (k : Key) (passes : p k ≡ true) where
    passes_at : (x : Mark) (i : ℕ) → p (place x i (group_in k) (source_bits k.source)) ≡ true
    passes_at x i =
        sym (same (place x i (group_in k) (source_bits k.source)))
        ∙ ap (λ (o : Option Addr). p (mark_key (group_in k) (source_bits o))) (source_again k.source)
        ∙ same k ∙ passes

    no_word : {R : Type 0} {tells : Mark → Bool} {says : Mark → R → Bool} {fits : Key → Bool} {t : Table R}
        → IsTold tells says fits marks t → list_any p (keys_in t) ≡ false → (x : Mark) → tells x ≡ true → (i : ℕ)
        → said marks x i (group_in k) (source_bits k.source) ≡ false
    no_word {R} {tells} {says} {fits} {t} told empty x tell i =
        told.told x tell i (group_in k) (source_bits k.source)
        ∙ ap (λ (o : Option R). row_says tells says x o)
        (none_under p t (place x i (group_in k) (source_bits k.source)) empty (passes_at x i))

    all_silent : (x : Mark) (i : ℕ) → said marks x i (group_in k) (source_bits k.source) ≡ false
    all_silent Joined = no_word is.downstream none.downstream Joined refl
    all_silent Branched = no_word is.downstream none.downstream Branched refl
    all_silent Pruned = no_word is.downstream none.downstream Pruned refl
    all_silent Lost = no_word is.asserts none.asserts Lost refl
    all_silent Won = no_word is.asserts none.asserts Won refl
    all_silent HasOverrideTimer = no_word is.override_timers none.override_timers HasOverrideTimer refl
    all_silent HasSource = no_word is.sources none.sources HasSource refl
    all_silent HasRegister = no_word is.registers none.registers HasRegister refl

    no_timer_there : (m : Marks) → row_at marks k ≡ Some m → m.join_timer ≡ None
    unfolding timers_in
    no_timer_there m found =
        no_row_in (λ (m : Marks). m.join_timer) p marks k m
        (ap (λ t. list_any p (keys_in t)) (sym is.join_timers) ∙ none.join_timers) found passes

    no_entry : has_row marks k ≡ false
    unfolding has_row
    no_entry = go (row_at marks k) refl
      where
        go : (o : Option Marks) → row_at marks k ≡ o → is_some o ≡ false
        go None found = refl
        go (Some m) found =
            let entry = entries k m found in
            absurd (entry.speaks
            (λ x i.
            ap (seen_in x i) (sym found) ∙ ap (λ (q : Key). seen_in x i (row_at marks q)) entry.placed
            ∙ all_silent x i)
            (no_timer_there m found))

  pub any_marked : list_any p (keys_in marks) ≡ list_any p (stored_keys f)
  any_marked =
      both_false (list_any p (keys_in marks)) (list_any p (stored_keys f)) (λ none. all_stored (none_marked none))
      (λ none. none_among p marks (no_entry (none_stored none)))

-- ---- the facts of one source

module _ (marks : Table Marks) (f : PimTables) (entries : AreEntries marks) (is : IsIndexed marks f) (group source : Addr) where
  abbrev names : Key → Bool
  names = names_source group.bits source.bits

  same_names : (k : Key) → names (mark_key (group_in k) (source_bits k.source)) ≡ names k
  unfolding names_source
  same_names k =
      ap (λ (o : Option Addr). (group_in k == group.bits) && is_some o
      && (option_map_or (λ (a : Addr). a.bits) o 0 == source.bits)) (source_again k.source)

  entry_named : names (entry_key group (Some source)) ≡ true
  unfolding names_source
  entry_named = rw (same_number group.bits, same_number source.bits) refl

  is_entry : (g h : Addr) (o : Option Addr) → ((g.bits == group.bits) && is_some o
      && (option_map_or (λ (a : Addr). a.bits) o 0 == source.bits)) ≡ true
      → entry_key g o ≡ entry_key group (Some source)
  is_entry g h None e = absurd (true≢false (sym (second_true _ _ (first_true _ _ e))))
  is_entry g h (Some s) e =
      (λ i. entry_key (record { bits = number_of g.bits group.bits (first_true _ _ (first_true _ _ e)) i })
      (Some (record { bits = number_of s.bits source.bits (second_true _ _ e) i })))

  no_other : has_row marks (entry_key group (Some source)) ≡ false → (k : Key) → names k ≡ true → has_row marks k ≡ false
  unfolding has_row names_source
  no_other none k named = go (row_at marks k) refl
    where
      go : (o : Option Marks) → row_at marks k ≡ o → is_some o ≡ false
      go None found = refl
      go (Some m) found =
          absurd (true≢false (sym (ap is_some found) ∙ ap (λ q. is_some (row_at marks q))
          ((entries k m found).placed ∙ is_entry k.group k.group k.source named) ∙ none))

  pub source_marked : has_row marks (entry_key group (Some source)) ≡ list_any names (stored_keys f)
  unfolding has_row
  source_marked =
      both_false (has_row marks (entry_key group (Some source))) (list_any names (keys_in marks))
      (λ none. none_among names marks (no_other none))
      (λ none. ap is_some (none_under names marks (entry_key group (Some source)) none entry_named))
      ∙ any_marked marks f entries is names same_names

-- ---- walks

module _ (marks : Table Marks) (f : PimTables) (entries : AreEntries marks) (is : IsIndexed marks f) where
  pub same_groups : ascending (map group_in (keys_in marks)) ≡ groups_of (stored_keys f)
  unfolding groups_of is_among
  same_groups = members_tell (map group_in (keys_in marks)) (map group_in (stored_keys f)) (λ n.
      any_ascending (λ m. m == n) (map group_in (keys_in marks))
      ∙ any_of_map (λ m. m == n) group_in (keys_in marks)
      ∙ any_marked marks f entries is (λ k. group_in k == n) (λ k. refl)
      ∙ sym (any_ascending (λ m. m == n) (map group_in (stored_keys f))
      ∙ any_of_map (λ m. m == n) group_in (stored_keys f)))

-- the sources of one group rise with the keys
abbrev IsPlaced : Key → Type 0
IsPlaced k = k ≡ entry_key k.group k.source

less_of : (m n : ℕ) → nat_cmp m n ≡ Less → m < n
less_of m n e = grind (arith, nat_tests)

third : (a b c d : Ordering) → a ≡ Equal → b ≡ Equal → d ≡ Equal
    → ordering_then a (ordering_then b (ordering_then c d)) ≡ Less → c ≡ Less
third a b c d e f h less = go c (rw (e, f, h) at less)
  where
    go : (c : Ordering) → ordering_then c Equal ≡ Less → c ≡ Less
    go Less less = refl
    go Equal less = less
    go Greater less = cc

less_source : (o u : Option Addr) → is_some o ≡ true → is_some u ≡ true → option_cmp addr_cmp o u ≡ Less
    → option_map_or (λ (x : Addr). x.bits) o 0 < option_map_or (λ (x : Addr). x.bits) u 0
unfolding addr_cmp
less_source None u some some' less = cc
less_source (Some a) None some some' less = cc
less_source (Some a) (Some b) some some' less = less_of a.bits b.bits less

module _ (g : ℕ) where
  abbrev is_source_of : Key → Bool
  is_source_of k = is_of_group g k && is_some k.source

  sources_less : (k q : Key) → IsPlaced k → IsPlaced q → is_source_of k ≡ true → is_source_of q ≡ true
      → key_cmp k q ≡ Less → source_in k < source_in q
  unfolding key_cmp addr_cmp
  sources_less k q placed placed' of of' less =
      less_source k.source q.source (second_true _ _ of) (second_true _ _ of')
      (third (nat_cmp k.iface.number q.iface.number) (addr_cmp k.group q.group)
      (option_cmp addr_cmp k.source q.source) (bool_cmp k.rpt q.rpt)
      ((λ i. nat_cmp (iface_in (placed i)) (iface_in (placed' i))) ∙ nat_cmp_same 0)
      ((λ i. nat_cmp (number_of (group_in k) g (first_true _ _ of) i) (number_of (group_in q) g (first_true _ _ of') i))
      ∙ nat_cmp_same g)
      (λ i. bool_cmp (placed i).rpt (placed' i).rpt) less)

  all_above : (k : Key) → IsPlaced k → is_source_of k ≡ true → (ks : List Key)
      → AllByRecursion (λ q. key_cmp k q ≡ Less) ks → AllByRecursion IsPlaced ks
      → AllByRecursion (λ q. is_source_of q ≡ true → suc (source_in k) ≤ source_in q) ks
  all_above k placed of [] less all = tt
  all_above k placed of (q ∷ ks) less all =
      ((λ of'. sources_less k q placed all.0 of of' less.0), all_above k placed of ks less.1 all.1)

  rises_on : (ks : List Key) (b : ℕ) → IsStrictlySortedBy key_cmp ks → AllByRecursion IsPlaced ks
      → AllByRecursion (λ q. is_source_of q ≡ true → b ≤ source_in q) ks
      → RisesFrom b (map source_in (filter is_source_of ks))
  unfolding IsStrictlySortedBy
  rises_on [] b sorted placed above = tt
  rises_on (k ∷ ks) b sorted placed above =
      go (is_source_of k) refl (rises_on ks b sorted.1 placed.1 above.1)
      (λ of. rises_on ks (suc (source_in k)) sorted.1 placed.1 (all_above k placed.0 of ks sorted.0 placed.1))
    where
      go : (c : Bool) → is_source_of k ≡ c → RisesFrom b (map source_in (filter is_source_of ks))
          → (is_source_of k ≡ true → RisesFrom (suc (source_in k)) (map source_in (filter is_source_of ks)))
          → RisesFrom b (map source_in (cond c (k ∷ filter is_source_of ks) (filter is_source_of ks)))
      go true of rest later = (above.0 of, later of)
      go false other rest later = rest

  none_below : (ks : List Key) → AllByRecursion (λ q. is_source_of q ≡ true → 0 ≤ source_in q) ks
  none_below [] = tt
  none_below (k ∷ ks) = ((λ of. omega arith), none_below ks)

-- ---- one filter after the other

module _ {X : Type 0} (p q : X → Bool) where
  filter_step : (x : X) (xs : List X) (b : Bool) → filter q (filter p xs) ≡ filter (λ x. p x && q x) xs
      → filter q (cond b (x ∷ filter p xs) (filter p xs))
      ≡ cond (b && q x) (x ∷ filter (λ x. p x && q x) xs) (filter (λ x. p x && q x) xs)
  filter_step x xs true rest = ap (λ ys. cond (q x) (x ∷ ys) ys) rest
  filter_step x xs false rest = rest

  both_filters : (xs : List X) → filter q (filter p xs) ≡ filter (λ x. p x && q x) xs
  both_filters [] = refl
  both_filters (x ∷ xs) = filter_step x xs (p x) (both_filters xs)

module _ {R : Type 0} (p : Key → Bool) where
  key_step : (e : Key × R) (t : Table R) (b : Bool) → keys_in (filter (λ e. p e.0) t) ≡ filter p (keys_in t)
      → keys_in (cond b (e ∷ filter (λ e. p e.0) t) (filter (λ e. p e.0) t))
      ≡ cond b (e.0 ∷ filter p (keys_in t)) (filter p (keys_in t))
  unfolding keys_in
  key_step e t true rest = ap (λ ks. e.0 ∷ ks) rest
  key_step e t false rest = rest

  keys_filtered : (t : Table R) → keys_in (filter (λ e. p e.0) t) ≡ filter p (keys_in t)
  unfolding keys_in
  keys_filtered [] = refl
  keys_filtered (e ∷ t) = key_step e t (p e.0) (keys_filtered t)

module _ (g : ℕ) (marks : Table Marks) (f : PimTables) (entries : AreEntries marks) (is : IsIndexed marks f)
    (sorted : IsStrictlySortedBy key_cmp (keys_in marks)) where
  placed_in : (t : Table Marks) → AllByRecursion (λ x. row_at marks x.0 ≡ Some x.1) t
      → AllByRecursion IsPlaced (keys_in t)
  unfolding keys_in
  placed_in [] found = tt
  placed_in (e ∷ t) found = ((entries e.0 e.1 found.0).placed, placed_in t found.1)

  is_source : ℕ → Key → Bool
  is_source n k = is_source_of g k && (source_in k == n)

  same_source : (n : ℕ) (k : Key) → is_source n (mark_key (group_in k) (source_bits k.source)) ≡ is_source n k
  unfolding is_source
  same_source n k =
      ap (λ (o : Option Addr). (is_of_group g k && is_some o) && (option_map_or (λ (a : Addr). a.bits) o 0 == n))
      (source_again k.source)

  any_source : (n : ℕ) (ks : List Key)
      → list_any (λ m. m == n) (map source_in (filter (is_source_of g) ks)) ≡ list_any (is_source n) ks
  unfolding is_source
  any_source n ks =
      any_of_map (λ m. m == n) source_in (filter (is_source_of g) ks)
      ∙ any_in_filter (is_source_of g) (λ k. source_in k == n) ks

  all_sources : map source_in (filter (is_source_of g) (keys_in marks)) ≡ sources_of g (stored_keys f)
  unfolding sources_of
  all_sources =
      same_numbers 0 0 (map source_in (filter (is_source_of g) (keys_in marks)))
      (ascending (map source_in (filter (is_source_of g) (stored_keys f))))
      (rises_on g (keys_in marks) 0 sorted (placed_in marks (all_found marks sorted)) (none_below g (keys_in marks)))
      (rises_ascending (map source_in (filter (is_source_of g) (stored_keys f))))
      (λ n. any_source n (keys_in marks) ∙ any_marked marks f entries is (is_source n) (same_source n)
      ∙ sym (any_ascending (λ m. m == n) (map source_in (filter (is_source_of g) (stored_keys f)))
      ∙ any_source n (stored_keys f)))

  pub same_sources : (walked : Table Marks) → walked ≡ filter (λ e. is_of_group g e.0) marks
      → sources_in walked ≡ sources_of g (stored_keys f)
  unfolding sources_in
  same_sources walked are =
      ap (λ (t : Table Marks). map source_in (filter (λ (k : Key). is_some k.source) (keys_in t))) are
      ∙ ap (λ ks. map source_in (filter (λ (k : Key). is_some k.source) ks)) (keys_filtered (is_of_group g) marks)
      ∙ ap (λ ks. map source_in ks) (both_filters (is_of_group g) (λ (k : Key). is_some k.source) (keys_in marks))
      ∙ all_sources

-- what passes among the keys of two kinds of facts
pub any_of_both : (p : Key → Bool) (a b : List Key) → list_any p (a ++ b) ≡ (list_any p a || list_any p b)
any_of_both p a b = list_any-append p a b
