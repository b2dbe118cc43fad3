-- A record of a report that deletes no source changes the sources that it names, and no other: what is known of the
-- others need not be gathered, and isn't written anew.
use Rattle.std.{proofs.Common.{◌≡◌, ℕ, ◌==◌, ◌&&◌, ◌||◌, Bool, true, false, not, cond, List, [], ◌∷◌, fold, Option, Some, None, is_some, eqb-true, eq-eqb, refl, ap, sym, subst, ◌∙◌}, specs.{List.{cons_option, filter, filter_map}, Option.{option_map_or, option_or}}}
use Rattle.pim_types.{specs.{declared.fact.{Key.Key, SourceRecordRow.SourceRecordRow}, Keys.{same_key, source_in, source_key}}, proofs.Keys.{equal_keys, same_key_same}}
use Rattle.pim_model.{specs.{Records.{SourceState, Absent, Excluded, Included, Member, is_at_group, member_of, members_of, put_member}, Tables.{Table, drop_where, has_row, is_among, row_at}}}
use Rattle.pim_filters.{proofs.Merging.source_state_among}
use Rattle.law_settled.{specs.Laws.is_under_source, proofs.{RecordsKept.equal_forms, RowLaws.{has_row_dropped, row_kept, row_put, row_put_away}}}
use Rattle.pim_querier.{proofs.OneSource.{AreSources, same_source}}
use Rattle.pim_tables.{proofs.RisingRows.{Up, same_rows, up_filtered, up_put}}

-- ---- rows and states of sources

-- the row of a source that fares so
abbrev pub row_of : SourceState → Option SourceRecordRow
row_of Absent = None
row_of Excluded = Some (record { end = None })
row_of (Included end) = Some (record { end = Some end })

-- the members of these sources, each as it fares
abbrev pub made : (ℕ → SourceState) → List ℕ → List Member
made source_state srcs = filter_map (λ src. member_of src (source_state src)) srcs

abbrev Rows : Type 0
Rows = Table SourceRecordRow

abbrev Entry : Type 0
Entry = Key × SourceRecordRow

module _ (i g : ℕ) where
  abbrev at_group : Entry → Bool
  at_group e = is_at_group i g e.0

  abbrev key_of : ℕ → Key
  key_of src = source_key i g src

  apart : (m n : ℕ) → (m == n) ≡ false → key_of m ≡ key_of n → ⊥
  apart m n e same =
      let number : m ≡ n = ap (λ (k : Key). source_in k) same in
      let yes : (m == n) ≡ true = eq-eqb m n number in cc

  module _ (source_state : ℕ → SourceState) where
    abbrev put_one : Rows → ℕ → SourceState → Rows
    put_one t n f = option_map_or (λ (m : Member). put_member i g t m) (member_of n f) t

    made_step : (n : ℕ) (ns : List ℕ) (t : Rows) (f : SourceState)
        → fold (put_member i g) t (cons_option (member_of n f) (made source_state ns))
        ≡ fold (put_member i g) (put_one t n f) (made source_state ns)
    made_step n ns t Absent = refl
    made_step n ns t Excluded = refl
    made_step n ns t (Included end) = refl

    -- the row of the source that is put, and of another
    own_row : (n : ℕ) (t : Rows) (f : SourceState) → row_at (put_one t n f) (key_of n) ≡ option_or (row_of f) (row_at t (key_of n))
    own_row n t Absent = refl
    own_row n t Excluded = row_put (key_of n) (record { end = None }) t
    own_row n t (Included end) = row_put (key_of n) (record { end = Some end }) t

    other_row : (n : ℕ) (k : Key) (t : Rows) (f : SourceState) → (key_of n ≡ k → ⊥) → row_at (put_one t n f) k ≡ row_at t k
    other_row n k t Absent other = refl
    other_row n k t Excluded other = row_put_away (key_of n) k other (record { end = None }) t
    other_row n k t (Included end) other = row_put_away (key_of n) k other (record { end = Some end }) t

    one_row : (n src : ℕ) (t : Rows) (b : Bool) → (n == src) ≡ b
        → row_at (put_one t n (source_state n)) (key_of src)
        ≡ cond b (option_or (row_of (source_state src)) (row_at t (key_of src))) (row_at t (key_of src))
    one_row n src t true is =
        subst (λ (m : ℕ). row_at (put_one t n (source_state n)) (key_of m)
        ≡ option_or (row_of (source_state m)) (row_at t (key_of m))) (eqb-true n src is) (own_row n t (source_state n))
    one_row n src t false is = other_row n (key_of src) t (source_state n) (apart n src is)

    twice : (f : SourceState) (o : Option SourceRecordRow) (b c : Bool)
        → cond c (option_or (row_of f) (cond b (option_or (row_of f) o) o)) (cond b (option_or (row_of f) o) o)
        ≡ cond (b || c) (option_or (row_of f) o) o
    twice Absent o true true = refl
    twice Absent o true false = refl
    twice Absent o false true = refl
    twice Absent o false false = refl
    twice Excluded o true true = refl
    twice Excluded o true false = refl
    twice Excluded o false true = refl
    twice Excluded o false false = refl
    twice (Included end) o true true = refl
    twice (Included end) o true false = refl
    twice (Included end) o false true = refl
    twice (Included end) o false false = refl

    -- the row of a source after all are put
    pub made_row : (src : ℕ) (ns : List ℕ) (t : Rows) → row_at (fold (put_member i g) t (made source_state ns)) (key_of src)
        ≡ cond (is_among src ns) (option_or (row_of (source_state src)) (row_at t (key_of src))) (row_at t (key_of src))
    unfolding is_among
    made_row src [] t = refl
    made_row src (n ∷ ns) t =
        ap (λ (u : Rows). row_at u (key_of src)) (made_step n ns t (source_state n))
        ∙ made_row src ns (put_one t n (source_state n))
        ∙ ap (λ (o : Option SourceRecordRow). cond (is_among src ns) (option_or (row_of (source_state src)) o) o)
        (one_row n src t (n == src) refl)
        ∙ twice (source_state src) (row_at t (key_of src)) (n == src) (is_among src ns)

    -- the row under a key of no source
    pub other_made : (k : Key) → ((src : ℕ) → key_of src ≡ k → ⊥) → (ns : List ℕ) (t : Rows)
        → row_at (fold (put_member i g) t (made source_state ns)) k ≡ row_at t k
    other_made k other [] t = refl
    other_made k other (n ∷ ns) t =
        ap (λ (u : Rows). row_at u k) (made_step n ns t (source_state n))
        ∙ other_made k other ns (put_one t n (source_state n)) ∙ other_row n k t (source_state n) (other n)

    up_one : (n : ℕ) (t : Rows) (f : SourceState) → Up t → Up (put_one t n f)
    up_one n t Absent up = up
    up_one n t Excluded up = up_put (key_of n) (record { end = None }) t up
    up_one n t (Included end) up = up_put (key_of n) (record { end = Some end }) t up

    up_made : (ns : List ℕ) (t : Rows) → Up t → Up (fold (put_member i g) t (made source_state ns))
    up_made [] t up = up
    up_made (n ∷ ns) t up =
        subst Up (sym (made_step n ns t (source_state n))) (up_made ns (put_one t n (source_state n)) (up_one n t (source_state n) up))

  -- ---- what is known of the group

  abbrev pub known : Rows → List Member
  known t = members_of (filter at_group t)

  known_step : (src : ℕ) (e : Entry) (t : Rows) (a b c : Bool) → c ≡ (a && b) → at_group e ≡ a → (source_in e.0 == src) ≡ b
      → row_at t (key_of src) ≡ row_of (source_state_among (known t) src)
      → cond c (Some e.1) (row_at t (key_of src))
      ≡ row_of (source_state_among (members_of (cond a (e ∷ filter at_group t) (filter at_group t))) src)
  unfolding members_of
  known_step src e t true true c is here own rest = rw (is, own) (by_end (e.1).end)
    where
      by_end : (o : Option ℕ) → Some (let r : SourceRecordRow = record { end = o } in r) ≡ row_of (option_map_or Included o Excluded)
      by_end None = refl
      by_end (Some n) = refl
  known_step src e t true false c is here own rest = rw (is, own) rest
  known_step src e t false b c is here own rest = rw is rest

  -- the row of a source is what its record says of it
  pub known_row : (src : ℕ) (t : Rows) → AreSources t → row_at t (key_of src) ≡ row_of (source_state_among (known t) src)
  unfolding row_at members_of
  known_row src [] under = refl
  known_row src (e ∷ t) under =
      known_step src e t (at_group e) (source_in e.0 == src) (same_key (key_of src) e.0) (same_source i g src e under.0)
      refl refl (known_row src t under.1)

  -- ---- the rows of others

  none_at_group : (k : Key) (t : Rows) → is_at_group i g k ≡ true → row_at (drop_where (is_at_group i g) t) k ≡ None
  unfolding has_row
  none_at_group k t here =
      no_row (row_at (drop_where (is_at_group i g) t) k)
      (has_row_dropped k (is_at_group i g) t ∙ ap (λ (b : Bool). not b && has_row t k) here)
    where
      no_row : (o : Option SourceRecordRow) → is_some o ≡ false → o ≡ None
      no_row None e = refl
      no_row (Some r) e = cc

  own_at_group : (src : ℕ) → is_at_group i g (key_of src) ≡ true
  own_at_group src = rw (eq-eqb i i refl, eq-eqb g g refl) refl

  form_step : (k : Key) (e : Entry) (t : Rows) (b : Bool) → same_key k e.0 ≡ b → is_at_group i g k ≡ true
      → same_key (key_of (source_in k)) k ≡ false → is_under_source e ≡ true → row_at t k ≡ None
      → cond b (Some e.1) (row_at t k) ≡ None
  form_step k e t true is here other under rest =
      let key : k ≡ e.0 = equal_keys k e.0 is in
      let own : key_of (source_in k) ≡ k =
      ap (λ (q : Key). key_of (source_in q)) key
      ∙ equal_forms i g e (ap (is_at_group i g) (sym key) ∙ here) under ∙ sym key in
      let yes : same_key (key_of (source_in k)) k ≡ true =
      subst (λ (q : Key). same_key q k ≡ true) (sym own) (same_key_same k) in cc
  form_step k e t false is here other under rest = rest

  -- no row of the group is under a key of another form
  none_of_form : (k : Key) (t : Rows) → is_at_group i g k ≡ true → same_key (key_of (source_in k)) k ≡ false
      → AreSources t → row_at t k ≡ None
  unfolding row_at
  none_of_form k [] here other under = refl
  none_of_form k (e ∷ t) here other under =
      form_step k e t (same_key k e.0) refl here other under.0 (none_of_form k t here other under.1)

  -- ---- what is written of all

  module _ (t : Rows) (up : Up t) (under : AreSources t) (source_state : ℕ → SourceState) (all : List ℕ)
      (all_told : (src : ℕ) → is_among src all ≡ false → source_state src ≡ Absent) where
    abbrev others : Rows
    others = drop_where (is_at_group i g) t

    abbrev pub anew : Rows
    anew = fold (put_member i g) others (made source_state all)

    or_none : (f : SourceState) → option_or (row_of f) None ≡ row_of f
    or_none Absent = refl
    or_none Excluded = refl
    or_none (Included end) = refl

    anew_by : (src : ℕ) (b : Bool) → is_among src all ≡ b → cond b (row_of (source_state src)) None ≡ row_of (source_state src)
    anew_by src true is = refl
    anew_by src false is = sym (ap row_of (all_told src is))

    pub anew_row : (src : ℕ) → row_at anew (key_of src) ≡ row_of (source_state src)
    anew_row src =
        made_row source_state src all others
        ∙ ap (λ (o : Option SourceRecordRow). cond (is_among src all) (option_or (row_of (source_state src)) o) o)
        (none_at_group (key_of src) t (own_at_group src))
        ∙ ap (λ (o : Option SourceRecordRow). cond (is_among src all) o None) (or_none (source_state src))
        ∙ anew_by src (is_among src all) refl

    not_own : (k : Key) → same_key (key_of (source_in k)) k ≡ false → (src : ℕ) → key_of src ≡ k → ⊥
    not_own k other src same =
        let number : src ≡ source_in k = ap (λ (q : Key). source_in q) same in
        let yes : same_key (key_of (source_in k)) k ≡ true =
        subst (λ (q : Key). same_key q k ≡ true) (sym same ∙ ap key_of number) (same_key_same k) in cc

    elsewhere : (k : Key) (b : Bool) → is_at_group i g k ≡ b → same_key (key_of (source_in k)) k ≡ false
        → row_at others k ≡ row_at t k
    elsewhere k true here other = none_at_group k t here ∙ sym (none_of_form k t here other under)
    elsewhere k false here other = row_kept (is_at_group i g) k here t

    -- the row under a key of no source of the group
    pub anew_elsewhere : (k : Key) → same_key (key_of (source_in k)) k ≡ false → row_at anew k ≡ row_at t k
    anew_elsewhere k is = other_made source_state k (not_own k is) all others ∙ elsewhere k (is_at_group i g k) refl is

    up_others : Up others
    unfolding drop_where
    up_others = up_filtered (λ (e : Entry). not (is_at_group i g e.0)) t up

    pub up_anew : Up anew
    up_anew = up_made source_state all others up_others

  -- ---- and of the named ones alone

  module _ (t : Rows) (up : Up t) (under : AreSources t) (named : List ℕ) (source_state few : ℕ → SourceState) (all some : List ℕ)
      (named_so : (src : ℕ) → is_among src named ≡ true → few src ≡ source_state src)
      (others_stay : (src : ℕ) → is_among src named ≡ false → source_state src ≡ source_state_among (known t) src)
      (some_named : (src : ℕ) → is_among src some ≡ is_among src named)
      (all_told : (src : ℕ) → is_among src all ≡ false → source_state src ≡ Absent)
      (none_goes : (src : ℕ) → is_among src named ≡ true → source_state src ≡ Absent → source_state_among (known t) src ≡ Absent) where
    abbrev beside : Rows
    beside = fold (put_member i g) t (made few some)

    or_gone : (f : SourceState) (o : Option SourceRecordRow) → (f ≡ Absent → o ≡ None) → option_or (row_of f) o ≡ row_of f
    or_gone Absent o none = none refl
    or_gone Excluded o none = refl
    or_gone (Included end) o none = refl

    beside_by : (src : ℕ) (b : Bool) → is_among src named ≡ b
        → cond b (option_or (row_of (few src)) (row_at t (key_of src))) (row_at t (key_of src)) ≡ row_of (source_state src)
    beside_by src true is =
        ap (λ (f : SourceState). option_or (row_of f) (row_at t (key_of src))) (named_so src is)
        ∙ or_gone (source_state src) (row_at t (key_of src))
        (λ gone. known_row src t under ∙ ap row_of (none_goes src is gone))
    beside_by src false is = known_row src t under ∙ ap row_of (sym (others_stay src is))

    beside_row : (src : ℕ) → row_at beside (key_of src) ≡ row_of (source_state src)
    beside_row src =
        made_row few src some t
        ∙ ap (λ (b : Bool). cond b (option_or (row_of (few src)) (row_at t (key_of src))) (row_at t (key_of src)))
        (some_named src)
        ∙ beside_by src (is_among src named) refl

    each_row : (k : Key) (b : Bool) → same_key (key_of (source_in k)) k ≡ b
        → row_at (anew t up under source_state all all_told) k ≡ row_at beside k
    each_row k true is =
        let own : key_of (source_in k) ≡ k = equal_keys (key_of (source_in k)) k is in
        subst (λ (q : Key). row_at (anew t up under source_state all all_told) q ≡ row_at beside q) own
        (anew_row t up under source_state all all_told (source_in k) ∙ sym (beside_row (source_in k)))
    each_row k false is =
        anew_elsewhere t up under source_state all all_told k is
        ∙ sym (other_made few k (not_own t up under source_state all all_told k is) some t)

    pub same_written : anew t up under source_state all all_told ≡ beside
    same_written =
        same_rows (anew t up under source_state all all_told) beside (up_anew t up under source_state all all_told) (up_made few some t up)
        (λ k. each_row k (same_key (key_of (source_in k)) k) refl)
