-- An entry that is changed in its place, or taken away there.
use Rattle.std.{proofs.Common.{◌≡◌, Bool, true, false, not, cond, [], ◌∷◌, map, Option, Some, None, is_some, option_map, refl, sym, ap, subst, ◌∙◌, ℕ}, specs.{Prelude.if◌then◌else◌, declared.cmp.Ordering.TheVariants.Less, List.{AllByRecursion, cons_option, Sorted.IsStrictlySortedBy}, Option.IfSome}}
use Rattle.pim_ip.{specs.declared.addr.Addr.Addr}
use Rattle.pim_types.{specs.{declared.fact.{Key.Key, JoinTimerRow.JoinTimerRow}, Keys.{key_cmp, same_key}}, proofs.Keys.equal_keys}
use Rattle.law_settled.{proofs.RemovalLaws.moved_above}
use Rattle.pim_model.{specs.Tables.{Table, change_row, drop_at, drop_where, has_row, keys_in, row_at}}
use Rattle.pim_tables.{proofs.{Lookups.{none_goes, put_is_changed, row_at-drop_at, row_at-put}, Rows.{absent_is_unchanged, change_first}}, specs.RowsIn.rows_in}
use Rattle.pim_source_trie.{specs.Entries.entry_key}
use Rattle.pim_store.{specs.{Entry.{are_none, kept}, Said.{AreEntries, IsEntry, Writes, mark_key, said, seen, seen_in, timers_in}, declared.marks.{Mark.Mark, Marks.Marks}}, proofs.{Empty.{AreBare, no_timer_when_none, silent_when_none}, Writes.{dropped, entry_of, written}}}

-- ---- a row that its change takes away

module _ {V : Type 0} (k : Key) where
  none_at_lower : (t : Table V) → AllByRecursion (λ y. key_cmp k y ≡ Less) (map (λ e. e.0) t) → row_at t k ≡ None
  unfolding row_at
  none_at_lower [] above = refl
  none_at_lower (y ∷ t) above = rw above.0 (none_at_lower t above.1)

  module _ (change : V → Option V) where
    taken_first : (e : Key × V) (t : Table V) (b : Bool) → same_key k e.0 ≡ b
        → AllByRecursion (λ y. key_cmp e.0 y ≡ Less) (map (λ e. e.0) t)
        → IfSome (cond b (Some e.1) (row_at t k)) (λ m. change m ≡ None)
        → (IfSome (row_at t k) (λ m. change m ≡ None) → drop_at t k ≡ change_row change k t)
        → cond (not b) (e ∷ drop_at t k) (drop_at t k)
        ≡ (if b then cons_option (option_map (λ row. (e.0, row)) (change e.1)) (change_row change k t)
        else e ∷ change_row change k t)
    unfolding row_at
    taken_first e t true h above is rest =
        let none : row_at t k ≡ None = none_at_lower t (moved_above {R = V} k e.0 h t above) in
        rw is (none_goes k t none ∙ absent_is_unchanged k change t none)
    taken_first e t false h above is rest = ap (λ u. e ∷ u) (rest is)

    taken : (t : Table V) → IsStrictlySortedBy key_cmp (map (λ e. e.0) t)
        → IfSome (row_at t k) (λ m. change m ≡ None) → drop_at t k ≡ change_row change k t
    unfolding IsStrictlySortedBy row_at drop_at drop_where change_row
    taken [] sorted is = refl
    taken (e ∷ t) sorted is =
        taken_first e t (same_key k e.0) refl sorted.0 is (taken t sorted.1)
        ∙ sym (change_first k change e t (same_key k e.0) refl)

    module _ (t : Table V) (m : V) (found : row_at t k ≡ Some m) where
      at_found : (p : Option V) → change m ≡ p → (o : Option V) → o ≡ Some m → IfSome o (λ n. change n ≡ p)
      at_found p is None there = cc
      at_found p is (Some n) there = let same : n ≡ m = cc in ap change same ∙ is

      pub altered : IsStrictlySortedBy key_cmp (keys_in t) → (p : Option V) → change m ≡ p → (q : Key)
          → row_at (change_row change k t) q ≡ cond (same_key q k) p (row_at t q)
      unfolding keys_in has_row
      altered sorted (Some n) is q =
          ap (λ (u : Table V). row_at u q)
          (sym (put_is_changed k n change t sorted (ap is_some found) (at_found (Some n) is (row_at t k) found)))
          ∙ row_at-put k q t n
      altered sorted None is q =
          ap (λ (u : Table V). row_at u q) (sym (taken t sorted (at_found None is (row_at t k) found)))
          ∙ row_at-drop_at k q t

-- ---- marks that are changed

seen_in_kept : (n : Marks) (x : Mark) (i : ℕ) → seen_in x i (kept n) ≡ seen x n i
seen_in_kept n x i = go (are_none n) refl
  where
    go : (b : Bool) → are_none n ≡ b → seen_in x i (cond b None (Some n)) ≡ seen x n i
    go true is = sym (silent_when_none n is x i)
    go false is = refl

module _ (group : Addr) (source : Option Addr) (after : Marks → Marks) (t t' : Table Marks)
    (is : t' ≡ change_row (λ m. kept (after m)) (entry_key group source) t) where
  abbrev k : Key
  k = entry_key group source

  pub unaltered : has_row t k ≡ false → t' ≡ t
  unfolding has_row row_at
  unaltered none = is ∙ go (row_at t k) refl none
    where
      go : (o : Option Marks) → row_at t k ≡ o → is_some o ≡ false
          → change_row (λ m. kept (after m)) k t ≡ t
      go None found none = sym (absent_is_unchanged k (λ m. kept (after m)) t found)
      go (Some m) found none = cc

  module _ (sorted : IsStrictlySortedBy key_cmp (keys_in t)) where
    found_after : (m : Marks) → row_at t k ≡ Some m → (q : Key)
        → row_at t' q ≡ cond (same_key q k) (kept (after m)) (row_at t q)
    found_after m found q =
        ap (λ (u : Table Marks). row_at u q) is
        ∙ altered k (λ m. kept (after m)) t m found sorted (kept (after m)) refl q

    pub altered_writes : (m : Marks) → row_at t k ≡ Some m → Writes t t' k (after m)
    altered_writes m found x i g s =
        ap (seen_in x i) (found_after m found (mark_key g s)) ∙ go (same_key (mark_key g s) k)
      where
        go : (b : Bool) → seen_in x i (cond b (kept (after m)) (row_at t (mark_key g s)))
            ≡ cond b (seen x (after m) i) (said t x i g s)
        go true = seen_in_kept (after m) x i
        go false = refl

    pub entries_altered : ((m : Marks) → AreBare m → AreBare (after m)) → AreEntries t → AreEntries t'
    unfolding has_row
    entries_altered bare all = go (row_at t k) refl
      where
        at : (m : Marks) → AreBare (after m) → (b : Bool) → are_none (after m) ≡ b → (q : Key)
            → row_at t' q ≡ cond (same_key q k) (cond b None (Some (after m))) (row_at t q)
            → (n : Marks) → row_at t' q ≡ Some n → IsEntry q n
        at m bare true none q u = dropped t k (after m) q (same_key q k) (row_at t q) (row_at t' q) u (all q)
        at m bare false none q u =
            written t k (after m) q (same_key q k)
            (λ same. subst (λ (x : Key). IsEntry x (after m)) (sym (equal_keys q k same)) (entry_of group source (after m) none bare))
            (row_at t q) (row_at t' q) u (all q)

        go : (o : Option Marks) → row_at t k ≡ o → AreEntries t'
        go None found = subst AreEntries (sym (unaltered (ap is_some found))) all
        go (Some m) found = λ q.
            at m (bare m (all k m found).bare) (are_none (after m)) refl q (found_after m found q)

-- ---- Join timers

-- a change that leaves each Join timer leaves all
module _ (k : Key) (after : Marks → Marks) (same : (m : Marks) → (after m).join_timer ≡ m.join_timer) where
  abbrev changed : Table Marks → Table Marks
  changed t = change_row (λ m. kept (after m)) k t

  timer_step : (e : Key × Marks) (t : Table Marks) (b : Bool) → same_key k e.0 ≡ b
      → timers_in (changed t) ≡ timers_in t → timers_in (changed (e ∷ t)) ≡ timers_in (e ∷ t)
  unfolding timers_in rows_in
  timer_step e t false other rest =
      ap timers_in (change_first k (λ m. kept (after m)) e t false other)
      ∙ ap (λ u. cons_option (option_map (λ (r : JoinTimerRow). (e.0, r)) (e.1).join_timer) u) rest
  timer_step e t true own rest =
      ap timers_in (change_first k (λ m. kept (after m)) e t true own)
      ∙ go (are_none (after e.1)) refl
      ∙ ap (λ u. cons_option (option_map (λ (r : JoinTimerRow). (e.0, r)) (e.1).join_timer) u) rest
    where
      go : (c : Bool) → are_none (after e.1) ≡ c
          → timers_in (cons_option (option_map (λ row. (e.0, row)) (cond c None (Some (after e.1)))) (changed t))
          ≡ cons_option (option_map (λ (r : JoinTimerRow). (e.0, r)) (e.1).join_timer) (timers_in (changed t))
      go true none =
          ap (λ (o : Option JoinTimerRow). cons_option (option_map (λ (r : JoinTimerRow). (e.0, r)) o) (timers_in (changed t)))
          (sym (sym (same e.1) ∙ no_timer_when_none (after e.1) none))
      go false some =
          ap (λ (o : Option JoinTimerRow). cons_option (option_map (λ (r : JoinTimerRow). (e.0, r)) o) (timers_in (changed t)))
          (same e.1)

  pub timers_stay : (t : Table Marks) → timers_in (changed t) ≡ timers_in t
  unfolding timers_in rows_in change_row
  timers_stay [] = refl
  timers_stay (e ∷ t) = timer_step e t (same_key k e.0) refl (timers_stay t)
