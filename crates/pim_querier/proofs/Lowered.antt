-- Source records that are lowered one after the other, and all at once.
use Rattle.std.{proofs.{Common.{◌≡◌, ℕ, Bool, true, false, cond, ◌&&◌, ◌||◌, ◌==◌, List, [], ◌∷◌, fold, map, min, Option, Some, None, option_map, refl, sym, subst, ap, ◌∙◌, arith}, lemmas.Bool.Decides.nat_tests}, specs.{List.{AllByRecursion, cons_option, Sorted.IsStrictlySortedBy}, Ordering.is_eq, Prelude.if◌then◌else◌, declared.cmp.Ordering.TheVariants.Less}}
use Rattle.pim_ip.{specs.declared.addr.Addr.Addr}
use Rattle.pim_types.{specs.{declared.fact.{Key.Key, SourceRecordRow.SourceRecordRow}, Keys.{key_cmp, same_key, source_in, source_key}}, proofs.Keys.equal_keys}
use Rattle.pim_model.{specs.{Querier.{lower_sources, lowered}, Records.is_at_group, State.State, Tables.{Table, change_row, changed_entry, is_among, keys_in, row_at}}}
use Rattle.law_settled.{specs.Laws.is_under_source, proofs.ListLaws.each_map}
use Rattle.pim_querier.{specs.Changes.{each_lowered, one_lowered, source_lowered}, proofs.OneSource.{AreSources, same_source}}
use Rattle.igmp_wire.{specs.Written.bits_of}

-- ---- a row that is read, and written where it was

above_of : {R : Type 0} (k : Key) (t : Table R) → AllByRecursion (λ q. key_cmp k q ≡ Less) (map (λ e. e.0) t)
    → AllByRecursion (λ (e : Key × R). same_key k e.0 ≡ false) t
above_of k [] below = tt
above_of k (e ∷ t) below = (ap is_eq below.0, above_of k t below.1)

module _ {R : Type 0} (k : Key) where
  abbrev Apart : Table R → Type 0
  Apart t = AllByRecursion (λ (e : Key × R). same_key k e.0 ≡ false) t

  unchanged : (c : R → Option R) (t : Table R) → Apart t → change_row c k t ≡ t
  unfolding change_row changed_entry
  unchanged c [] apart = refl
  unchanged c (e ∷ t) apart = rw apart.0 (ap (λ (u : Table R). e ∷ u) (unchanged c t apart.1))

  none_step : (c : R → Option R) (e : Key × R) (t : Table R) (b : Bool) → cond b (Some e.1) (row_at t k) ≡ None
      → (row_at t k ≡ None → change_row c k t ≡ t)
      → cons_option (cond b (option_map (λ (r : R). let p : Key × R = (e.0, r) in p) (c e.1)) (Some e)) (change_row c k t)
      ≡ e ∷ t
  none_step c e t true none rest = cc
  none_step c e t false none rest = ap (λ (u : Table R). e ∷ u) (rest none)

  -- where there is none, nothing changes
  pub none_changed : (c : R → Option R) (t : Table R) → row_at t k ≡ None → change_row c k t ≡ t
  unfolding change_row changed_entry row_at
  none_changed c [] none = refl
  none_changed c (e ∷ t) none = none_step c e t (same_key k e.0) none (none_changed c t)

  module _ (f : R → R) (r : R) where
    some_step : (e : Key × R) (t : Table R) (b : Bool) → cond b (Some e.1) (row_at t k) ≡ Some r
        → (b ≡ true → Apart t)
        → (row_at t k ≡ Some r → change_row (λ _. Some (f r)) k t ≡ change_row (λ x. Some (f x)) k t)
        → cons_option (cond b (Some (let p : Key × R = (e.0, f r) in p)) (Some e)) (change_row (λ _. Some (f r)) k t)
        ≡ cons_option (cond b (Some (let p : Key × R = (e.0, f e.1) in p)) (Some e)) (change_row (λ x. Some (f x)) k t)
    some_step e t true is apart rest =
        let same : r ≡ e.1 = cc in
        ap (λ (x : R). let p : Key × R = (e.0, f x) in p ∷ change_row (λ _. Some (f r)) k t) same
        ∙ ap (λ (u : Table R). (e.0, f e.1) ∷ u)
        (unchanged (λ _. Some (f r)) t (apart refl) ∙ sym (unchanged (λ x. Some (f x)) t (apart refl)))
    some_step e t false is apart rest = ap (λ (u : Table R). e ∷ u) (rest is)

    -- a row that is written as it was read
    pub read_changed : (t : Table R) → IsStrictlySortedBy key_cmp (map (λ e. e.0) t) → row_at t k ≡ Some r
        → change_row (λ _. Some (f r)) k t ≡ change_row (λ x. Some (f x)) k t
    unfolding change_row changed_entry row_at IsStrictlySortedBy
    read_changed [] rise is = refl
    read_changed (e ∷ t) rise is =
        some_step e t (same_key k e.0) is
        (λ same. subst (λ (q : Key). AllByRecursion (λ (x : Key × R). same_key q x.0 ≡ false) t)
        (sym (equal_keys k e.0 same)) (above_of e.0 t rise.0)) (read_changed t rise.1)

module _ (i g end : ℕ) where
  abbrev Entry : Type 0
  Entry = Key × SourceRecordRow

  abbrev low : SourceRecordRow → SourceRecordRow
  low r = record { end = lowered end r.end }

  abbrev lower_at : Table SourceRecordRow → ℕ → Table SourceRecordRow
  lower_at t n = change_row (source_lowered end) (source_key i g n) t

  abbrev low_one : ℕ → Entry → Entry
  low_one n e = if is_at_group i g e.0 && (source_in e.0 == n) then (e.0, low e.1) else e

  abbrev low_all : List ℕ → Entry → Entry
  low_all ns e = if is_at_group i g e.0 && is_among (source_in e.0) ns then (e.0, low e.1) else e

  one_step : (e : Entry) (t : Table SourceRecordRow) (b c : Bool) → b ≡ c
      → cons_option (cond b (Some (let p : Entry = (e.0, low e.1) in p)) (Some e)) t
      ≡ (if c then (e.0, low e.1) else e) ∷ t
  one_step e t b true is = rw is refl
  one_step e t b false is = rw is refl

  one_mapped : (n : ℕ) (t : Table SourceRecordRow) → AreSources t → lower_at t n ≡ map (low_one n) t
  unfolding change_row changed_entry
  one_mapped n [] under = refl
  one_mapped n (e ∷ t) under =
      one_step e (lower_at t n) (same_key (source_key i g n) e.0) (is_at_group i g e.0 && (source_in e.0 == n))
      (same_source i g n e under.0)
      ∙ ap (λ (u : Table SourceRecordRow). low_one n e ∷ u) (one_mapped n t under.1)

  twice : (o : Option ℕ) → lowered end (lowered end o) ≡ lowered end o
  twice None = refl
  twice (Some n) = ap Some (least n)
    where
      least : (m : ℕ) → min (min m end) end ≡ min m end
      least m = omega arith

  kept_key : (n : ℕ) (e : Entry) (b : Bool) → (if b then (e.0, low e.1) else e).0 ≡ e.0
  kept_key n e true = refl
  kept_key n e false = refl

  both_step : (ns : List ℕ) (e : Entry) (a b c : Bool)
      → (let x : Entry = if a && b then (e.0, low e.1) else e in if a && c then (let y : Entry = (x.0, low x.1) in y) else x)
      ≡ (if a && (b || c) then (e.0, low e.1) else e)
  both_step ns e true true true = ap (λ (o : Option ℕ). let x : Entry = (e.0, record { end = o }) in x) (twice (e.1).end)
  both_step ns e true true false = refl
  both_step ns e true false c = refl
  both_step ns e false b c = refl

  turned : (m n : ℕ) → (m == n) ≡ (n == m)
  turned m n = grind (arith, nat_tests)

  both_lowered : (n : ℕ) (ns : List ℕ) (e : Entry) → low_all ns (low_one n e) ≡ low_all (n ∷ ns) e
  unfolding is_among
  both_lowered n ns e =
      ap (λ (k : Key). if is_at_group i g k && is_among (source_in k) ns then (let y : Entry = ((low_one n e).0, low (low_one n e).1) in y) else low_one n e)
      (kept_key n e (is_at_group i g e.0 && (source_in e.0 == n)))
      ∙ both_step ns e (is_at_group i g e.0) (source_in e.0 == n) (is_among (source_in e.0) ns)
      ∙ ap (λ (b : Bool). if is_at_group i g e.0 && (b || is_among (source_in e.0) ns) then (let y : Entry = (e.0, low e.1) in y) else e)
      (turned (source_in e.0) n)

  all_both : (n : ℕ) (ns : List ℕ) (t : Table SourceRecordRow) → map (low_all ns) (map (low_one n) t) ≡ map (low_all (n ∷ ns)) t
  all_both n ns [] = refl
  all_both n ns (e ∷ t) = λ j. both_lowered n ns e j ∷ all_both n ns t j

  still_sources : (n : ℕ) (t : Table SourceRecordRow) → AreSources t → AreSources (map (low_one n) t)
  still_sources n t under =
      each_map (λ (e : Entry). is_under_source e ≡ true) (λ (e : Entry). is_under_source e ≡ true) (low_one n)
      (λ e is. subst (λ (k : Key). is_under_source (k, (low_one n e).1) ≡ true)
      (sym (kept_key n e (is_at_group i g e.0 && (source_in e.0 == n)))) is) t under

  none_low : (e : Entry) (a : Bool) → e ≡ (if a && false then (e.0, low e.1) else e)
  none_low e true = refl
  none_low e false = refl

  none_mapped : (t : Table SourceRecordRow) → t ≡ map (low_all []) t
  unfolding is_among
  none_mapped [] = refl
  none_mapped (e ∷ t) = λ j. none_low e (is_at_group i g e.0) j ∷ none_mapped t j

  all_lowered : (ns : List ℕ) (t : Table SourceRecordRow) → AreSources t → fold lower_at t ns ≡ map (low_all ns) t
  all_lowered [] t under = none_mapped t
  all_lowered (n ∷ ns) t under =
      ap (λ (u : Table SourceRecordRow). fold lower_at u ns) (one_mapped n t under)
      ∙ all_lowered ns (map (low_one n) t) (still_sources n t under) ∙ all_both n ns t

  in_table : (s : State) (sources : List Addr)
      → each_lowered i g end s sources ≡ record s { source_records = fold lower_at s.source_records (bits_of sources) }
  unfolding each_lowered one_lowered
  in_table s [] = refl
  in_table s (a ∷ sources) = in_table (one_lowered i g end s a) sources

  pub sources_lowered : (s : State) (sources : List Addr) → AreSources s.source_records
      → each_lowered i g end s sources ≡ lower_sources s i g (bits_of sources) end
  unfolding lower_sources
  sources_lowered s sources under =
      in_table s sources
      ∙ ap (λ (t : Table SourceRecordRow). let u : State = record s { source_records = t } in u)
      (all_lowered (bits_of sources) s.source_records under)

  -- the timer of one source, read and written
  pub lowered_as_read : (s after : State) (a : Addr) (k : Key) (r : SourceRecordRow) (low_end : Option ℕ)
      → IsStrictlySortedBy key_cmp (keys_in s.source_records)
      → Some r ≡ row_at s.source_records (source_key i g a.bits) → k ≡ source_key i g a.bits
      → low_end ≡ lowered end r.end
      → after ≡ (let t : State = record s {
        source_records = change_row (λ _. Some (record { end = low_end })) k s.source_records;
      } in t) → after ≡ one_lowered i g end s a
  unfolding one_lowered keys_in
  lowered_as_read s after a k r low_end rise found own less is =
      let with_rows : Table SourceRecordRow → State = λ t. record s { source_records = t } in
      is
      ∙ ap (λ (q : Key). with_rows (change_row (λ _. Some (record { end = low_end })) q s.source_records)) own
      ∙ ap (λ (o : Option ℕ). with_rows (change_row (λ _. Some (record { end = o })) (source_key i g a.bits) s.source_records))
      less
      ∙ ap with_rows (read_changed (source_key i g a.bits) low r s.source_records rise (sym found))

  pub none_lowered : (s : State) (a : Addr) → None ≡ row_at s.source_records (source_key i g a.bits)
      → s ≡ one_lowered i g end s a
  unfolding one_lowered
  none_lowered s a none =
      ap (λ (t : Table SourceRecordRow). let u : State = record s { source_records = t } in u)
      (sym (none_changed (source_key i g a.bits) (source_lowered end) s.source_records (sym none)))
