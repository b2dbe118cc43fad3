-- The rows of a group's record that are changed one by one, and the whole record written anew: they are the same.
use Rattle.std.{proofs.Common.{◌≡◌, ℕ, ◌==◌, ◌&&◌, Bool, true, false, not, cond, List, [], ◌∷◌, map, fold, Option, Some, None, is_none, is_some, option_map, eqb-true, eq-eqb, refl, ap, sym, subst, ◌∙◌}, specs.{Cmp.{first_so, second_so}, List.{AllByRecursion, cons_option, filter, filter_map, list_any, Sorted.IsStrictlySortedBy}, Ordering.ordering_reverse, Prelude.if◌then◌else◌, declared.cmp.Ordering.TheVariants.{Less, Greater}}}
use Rattle.pim_types.{specs.{declared.fact.{GroupRecordRow.GroupRecordRow, Key.Key, SourceRecordRow.SourceRecordRow}, Keys.{key_cmp, same_key, source_in, source_key, star_key}}, proofs.Keys.{equal_keys, key_cmp_total, same_key_same}}
use Rattle.pim_model.{specs.{Records.{GroupRecord, Member, is_at_group, is_no_record, members_of, put_member, record_of, source_expired, with_members, with_repeats_of_rows}, Querier.{group_end, source_record_due}, State.State, Tables.{Table, change_row, changed_entry, drop_at, drop_where, is_empty_list, keys_in, put}}}
use Rattle.law_settled.{specs.Laws.is_under_source, proofs.{ListLaws.each_filter, RecordsKept.equal_forms}}
use Rattle.pim_querier.{specs.Changes.{without_empty, without_source_record}}

abbrev Rows : Type 0
Rows = Table SourceRecordRow

abbrev Entry : Type 0
Entry = Key × SourceRecordRow

-- each is under the key of a source
abbrev pub AreSources : Rows → Type 0
AreSources t = AllByRecursion (λ (e : Entry). is_under_source e ≡ true) t

-- ---- rows that are put in front, or behind a first one

-- all keys are above this one
abbrev Above : Key → Rows → Type 0
Above k t = AllByRecursion (λ (e : Entry). key_cmp k e.0 ≡ Less) t

entries_above : (k : Key) (t : Rows) → AllByRecursion (λ q. key_cmp k q ≡ Less) (map (λ e. e.0) t) → Above k t
entries_above k [] above = tt
entries_above k (e ∷ t) above = (above.0, entries_above k t above.1)

put_first : (k : Key) (r : SourceRecordRow) (t : Rows) → Above k t → put t k r ≡ (k, r) ∷ t
unfolding put
put_first k r [] above = refl
put_first k r (e ∷ t) above = rw above.0 refl

put_behind : (k : Key) (r : SourceRecordRow) (e : Entry) (t : Rows) → key_cmp k e.0 ≡ Greater
    → put (e ∷ t) k r ≡ e ∷ put t k r
unfolding put
put_behind k r e t behind = rw behind refl

reversed : (k q : Key) → key_cmp k q ≡ Less → key_cmp q k ≡ Greater
reversed k q less = key_cmp_total.antisymm q k ∙ ap ordering_reverse less

module _ (i g : ℕ) where
  -- the keys of all these members are above
  abbrev Behind : Key → List Member → Type 0
  Behind k ms = AllByRecursion (λ (m : Member). key_cmp (source_key i g m.0) k ≡ Greater) ms

  puts_behind : (e : Entry) (ms : List Member) (t : Rows) → Behind e.0 ms
      → fold (put_member i g) (e ∷ t) ms ≡ e ∷ fold (put_member i g) t ms
  puts_behind e [] t behind = refl
  puts_behind e (m ∷ ms) t behind =
      ap (λ (u : Rows). fold (put_member i g) u ms)
      (put_behind (source_key i g m.0) (record { end = m.1 }) e t behind.0)
      ∙ puts_behind e ms (put_member i g t m) behind.1

  abbrev at_group : Entry → Bool
  at_group e = is_at_group i g e.0

  -- ---- what becomes of each row of the group: another row, or none

  module _ (source_state : Entry → Option SourceRecordRow) where
    abbrev pub member_after : Entry → Option Member
    member_after e = option_map (λ (r : SourceRecordRow). let m : Member = (source_in e.0, r.end) in m) (source_state e)

    abbrev pub row_after : Entry → Option Entry
    row_after e =
        if at_group e then option_map (λ (r : SourceRecordRow). let x : Entry = (e.0, r) in x) (source_state e) else Some e

    abbrev members : Rows → List Member
    members t = filter_map member_after (filter at_group t)

    cons_behind : (k : Key) (src : ℕ) (o : Option SourceRecordRow) (ms : List Member)
        → key_cmp (source_key i g src) k ≡ Greater → Behind k ms
        → Behind k (cons_option (option_map (λ (r : SourceRecordRow). let m : Member = (src, r.end) in m) o) ms)
    cons_behind k src None ms first rest = rest
    cons_behind k src (Some r) ms first rest = (first, rest)

    behind_step : (k : Key) (e : Entry) (t : Rows) (b : Bool) → at_group e ≡ b → key_cmp k e.0 ≡ Less
        → is_under_source e ≡ true → Behind k (members t)
        → Behind k (filter_map member_after (cond b (e ∷ filter at_group t) (filter at_group t)))
    behind_step k e t true here above under rest =
        cons_behind k (source_in e.0) (source_state e) (members t)
        (ap (λ (q : Key). key_cmp q k) (equal_forms i g e here under) ∙ reversed k e.0 above) rest
    behind_step k e t false here above under rest = rest

    members_behind : (k : Key) (t : Rows) → Above k t → AreSources t → Behind k (members t)
    members_behind k [] above under = tt
    members_behind k (e ∷ t) above under =
        behind_step k e t (at_group e) refl above.0 under.0 (members_behind k t above.1 under.1)

    abbrev others : Rows → Rows
    others t = filter (λ e. not (is_at_group i g e.0)) t

    step : (e : Entry) (t : Rows) (b : Bool) → at_group e ≡ b → (o : Option SourceRecordRow) → source_state e ≡ o → Above e.0 t
        → AreSources t → is_under_source e ≡ true
        → fold (put_member i g) (others t) (members t) ≡ filter_map row_after t
        → fold (put_member i g) (cond (not b) (e ∷ others t) (others t))
        (filter_map member_after (cond b (e ∷ filter at_group t) (filter at_group t)))
        ≡ cons_option
        (if b then option_map (λ (r : SourceRecordRow). let x : Entry = (e.0, r) in x) (source_state e) else Some e)
        (filter_map row_after t)
    step e t true here None is above under own rest = rw is rest
    step e t true here (Some r) is above under own rest =
        rw is
        (ap (λ (k : Key). fold (put_member i g) (put (others t) k r) (members t)) (equal_forms i g e here own)
        ∙ ap (λ (u : Rows). fold (put_member i g) u (members t))
        (put_first e.0 r (others t)
        (each_filter (λ (x : Entry). key_cmp e.0 x.0 ≡ Less) (λ (x : Entry). not (is_at_group i g x.0)) t above))
        ∙ puts_behind (e.0, r) (members t) (others t) (members_behind e.0 t above under)
        ∙ ap (λ (u : Rows). (e.0, r) ∷ u) rest)
    step e t false here o is above under own rest =
        puts_behind e (members t) (others t) (members_behind e.0 t above under) ∙ ap (λ (u : Rows). e ∷ u) rest

    all_rebuilt : (t : Rows) → IsStrictlySortedBy key_cmp (map (λ e. e.0) t) → AreSources t
        → fold (put_member i g) (others t) (members t) ≡ filter_map row_after t
    unfolding IsStrictlySortedBy
    all_rebuilt [] rise under = refl
    all_rebuilt (e ∷ t) rise under =
        step e t (at_group e) refl (source_state e) refl (entries_above e.0 t rise.0) under.1 under.0
        (all_rebuilt t rise.1 under.1)

    -- a record that is written anew, of what becomes of each of its rows
    pub rebuilt : (t : Rows) → IsStrictlySortedBy key_cmp (keys_in t) → AreSources t
        → fold (put_member i g) (drop_where (is_at_group i g) t) (members t) ≡ filter_map row_after t
    unfolding drop_where keys_in
    rebuilt t rise under = all_rebuilt t rise under

    empty_step : (e : Entry) (t : Rows) (b : Bool) → at_group e ≡ b → (o : Option SourceRecordRow)
        → is_empty_list (members t) ≡ not (list_any at_group (filter_map row_after t))
        → is_empty_list (cond b (cons_option (option_map (λ (r : SourceRecordRow). let m : Member = (source_in e.0, r.end) in m) o) (members t)) (members t))
        ≡ not (list_any at_group (cons_option (if b then option_map (λ (r : SourceRecordRow). let x : Entry = (e.0, r) in x) o else Some e) (filter_map row_after t)))
    empty_step e t true here None rest = rest
    empty_step e t true here (Some r) rest = rw here refl
    empty_step e t false here o rest = rw here rest

    members_cons : (e : Entry) (t : Rows) (b : Bool)
        → filter_map member_after (cond b (e ∷ filter at_group t) (filter at_group t))
        ≡ cond b (cons_option (member_after e) (members t)) (members t)
    members_cons e t true = refl
    members_cons e t false = refl

    pub none_left : (t : Rows) → is_empty_list (members t) ≡ not (list_any at_group (filter_map row_after t))
    none_left [] = refl
    none_left (e ∷ t) =
        ap (λ (ms : List Member). is_empty_list ms) (members_cons e t (at_group e))
        ∙ empty_step e t (at_group e) refl (source_state e) (none_left t)

  module _ (src : ℕ) where
    abbrev pub own_key : Key
    own_key = source_key i g src

    own_there : (is_at_group i g own_key && (source_in own_key == src)) ≡ true
    own_there = rw (eq-eqb i i refl, eq-eqb g g refl, eq-eqb src src refl) refl

    pub same_source : (e : Entry) → is_under_source e ≡ true
        → same_key own_key e.0 ≡ (at_group e && (source_in e.0 == src))
    same_source e under = go (same_key own_key e.0) (at_group e && (source_in e.0 == src)) refl refl
      where
        go : (b c : Bool) → same_key own_key e.0 ≡ b → (at_group e && (source_in e.0 == src)) ≡ c → b ≡ c
        go true c is there =
            sym own_there
            ∙ ap (λ (q : Key). is_at_group i g q && (source_in q == src)) (equal_keys own_key e.0 is) ∙ there
        go false true is there =
            let key : source_key i g src ≡ e.0 =
            ap (source_key i g) (sym (eqb-true (source_in e.0) src (second_so (at_group e) (source_in e.0 == src) there)))
            ∙ equal_forms i g e (first_so (at_group e) (source_in e.0 == src) there) under in
            sym is ∙ subst (λ (q : Key). same_key own_key q ≡ true) key (same_key_same own_key)
        go false false is there = refl

    -- ---- a source that is excluded from now on

    abbrev pub endless : SourceRecordRow
    endless = record { end = None }

    abbrev excluded : Entry → Option SourceRecordRow
    excluded e = Some (if source_in e.0 == src then endless else e.1)

    excluded_step : (e : Entry) (b : Bool) → (source_in e.0 == src) ≡ b
        → (let m : Member = (source_in e.0, (e.1).end) in let none : Member = (src, None) in if b then none else m)
        ≡ (let r : SourceRecordRow = if b then endless else e.1 in let m : Member = (source_in e.0, r.end) in m)
    excluded_step e true is = ap (λ (n : ℕ). let m : Member = (n, None) in m) (sym (eqb-true (source_in e.0) src is))
    excluded_step e false is = refl

    excluded_members : (t : Rows)
        → map (λ (m : Member). if m.0 == src then (src, None) else m) (members_of t) ≡ filter_map (member_after excluded) t
    unfolding members_of
    excluded_members [] = refl
    excluded_members (e ∷ t) =
        ap (λ (m : Member). m ∷ map (λ (x : Member). if x.0 == src then (src, None) else x) (members_of t))
        (excluded_step e (source_in e.0 == src) refl)
        ∙ ap (λ (ms : List Member). (source_in e.0, (if source_in e.0 == src then endless else e.1).end) ∷ ms)
        (excluded_members t)

    excluded_entry : (e : Entry) (a b c : Bool) → c ≡ (a && b)
        → (if a then Some (let x : Entry = (e.0, if b then endless else e.1) in x) else Some e)
        ≡ cond c (Some (let x : Entry = (e.0, endless) in x)) (Some e)
    excluded_entry e true true c is = rw is refl
    excluded_entry e true false c is = rw is refl
    excluded_entry e false b c is = rw is refl

    excluded_rows : (t : Rows) → AreSources t → filter_map (row_after excluded) t ≡ change_row (λ _. Some endless) own_key t
    unfolding change_row changed_entry
    excluded_rows [] under = refl
    excluded_rows (e ∷ t) under =
        (λ j. cons_option (excluded_entry e (at_group e) (source_in e.0 == src) (same_key own_key e.0)
        (same_source e under.0) j) (excluded_rows t under.1 j))

    -- ---- a source that goes

    abbrev gone : Entry → Option SourceRecordRow
    gone e = if source_in e.0 == src then None else Some e.1

    gone_step : (e : Entry) (b : Bool) (ms : List Member)
        → cond (not b) ((source_in e.0, (e.1).end) ∷ ms) ms
        ≡ cons_option (option_map (λ (r : SourceRecordRow). let m : Member = (source_in e.0, r.end) in m) (if b then None else Some e.1)) ms
    gone_step e true ms = refl
    gone_step e false ms = refl

    gone_members : (t : Rows) → filter (λ (m : Member). not (m.0 == src)) (members_of t) ≡ filter_map (member_after gone) t
    unfolding members_of
    gone_members [] = refl
    gone_members (e ∷ t) =
        gone_step e (source_in e.0 == src) (filter (λ (m : Member). not (m.0 == src)) (members_of t))
        ∙ ap (λ (ms : List Member). cons_option (member_after gone e) ms) (gone_members t)

    gone_entry : (e : Entry) (t : Rows) (a b c : Bool) → c ≡ (a && b)
        → cons_option (if a then option_map (λ (r : SourceRecordRow). let x : Entry = (e.0, r) in x) (if b then None else Some e.1) else Some e) t
        ≡ cond (not c) (e ∷ t) t
    gone_entry e t true true c is = rw is refl
    gone_entry e t true false c is = rw is refl
    gone_entry e t false b c is = rw is refl

    gone_rows : (t : Rows) → AreSources t → filter_map (row_after gone) t ≡ drop_at t own_key
    unfolding drop_at drop_where
    gone_rows [] under = refl
    gone_rows (e ∷ t) under =
        gone_entry e (filter_map (row_after gone) t) (at_group e) (source_in e.0 == src) (same_key own_key e.0)
        (same_source e under.0)
        ∙ ap (λ (u : Rows). cond (not (same_key own_key e.0)) (e ∷ u) u) (gone_rows t under.1)

    -- ---- a source's timer ends

    module _ (s : State) (rise : IsStrictlySortedBy key_cmp (keys_in s.source_records)) (under : AreSources s.source_records) where
      abbrev pub after : Table GroupRecordRow → Rows → State
      after groups rows = with_repeats_of_rows (record s { group_records = groups; source_records = rows }) i g

      written : (r : GroupRecord) (is_none : Bool) (ms : List Member) (rows : Rows) → is_no_record r ≡ is_none
          → r.members ≡ ms → fold (put_member i g) (drop_where (is_at_group i g) s.source_records) ms ≡ rows
          → with_members s i g r
          ≡ after (if is_none then drop_at s.group_records (star_key i g) else s.group_records) rows
      unfolding with_members
      written r is_none ms rows none are those =
          let puts : List Member → Rows = λ xs. fold (put_member i g) (drop_where (is_at_group i g) s.source_records) xs in
          let groups : Bool → Table GroupRecordRow =
          λ b. if b then drop_at s.group_records (star_key i g) else s.group_records in
          ap (λ (b : Bool). after (groups b) (puts r.members)) none
          ∙ ap (λ (u : Rows). after (groups is_none) u) (ap puts are ∙ those)

      some_is_not_none : (o : Option ℕ) → is_some o ≡ true → (b : Bool) → (is_none o && b) ≡ false
      some_is_not_none None e b = cc
      some_is_not_none (Some n) e b = refl

      none_is_none : (o : Option ℕ) → is_some o ≡ false → (b : Bool) → (is_none o && b) ≡ b
      none_is_none None e b = refl
      none_is_none (Some n) e b = cc

      here : Rows
      here = filter at_group s.source_records

      -- in EXCLUDE its row has no end, and no other row of the record changes
      pub end_excludes : is_some (group_end s i g) ≡ true
          → after s.group_records (change_row (λ _. Some endless) own_key s.source_records)
          ≡ source_record_due s i g src
      unfolding source_record_due record_of source_expired here
      end_excludes is =
          let r : GroupRecord = source_expired src (record_of s i g) in
          rw is
          (sym (written (record { timer = group_end s i g; members = map (λ (m : Member). if m.0 == src then (src, None) else m) (members_of here) }) false (members excluded s.source_records) (change_row (λ _. Some endless) own_key s.source_records)
          (some_is_not_none (group_end s i g) is _) (excluded_members here)
          (rebuilt excluded s.source_records rise under ∙ excluded_rows s.source_records under)))

      -- in INCLUDE its row goes, and that of the group with the last of them
      pub end_includes : is_some (group_end s i g) ≡ false
          → after
          (if not (list_any at_group (drop_at s.source_records own_key)) then drop_at s.group_records (star_key i g)
          else s.group_records)
          (drop_at s.source_records own_key)
          ≡ source_record_due s i g src
      unfolding source_record_due record_of source_expired here
      end_includes is =
          rw is
          (sym (written (record { timer = group_end s i g; members = filter (λ (m : Member). not (m.0 == src)) (members_of here) }) (not (list_any at_group (drop_at s.source_records own_key))) (members gone s.source_records) (drop_at s.source_records own_key)
          (none_is_none (group_end s i g) is _
          ∙ ap (λ (ms : List Member). is_empty_list ms) (gone_members here)
          ∙ none_left gone s.source_records
          ∙ ap (λ (u : Rows). not (list_any at_group u)) (gone_rows s.source_records under))
          (gone_members here)
          (rebuilt gone s.source_records rise under ∙ gone_rows s.source_records under)))

-- the rows after the source's went, and the group's with the last of them
pub source_dropped : (i g src : ℕ) (s mid after : State) (b : Bool)
    → mid ≡ (let t : State = record s { source_records = drop_at s.source_records (source_key i g src) } in t)
    → b ≡ list_any (λ (e : Entry). is_at_group i g e.0) mid.source_records → after ≡ without_empty (not b) i g mid
    → after ≡ without_source_record i g src s
source_dropped i g src s mid after b gone some is =
    is
    ∙ ap (λ (c : Bool). without_empty (not c) i g mid) some
    ∙ ap (λ (w : State). without_empty (not (list_any (λ (e : Entry). is_at_group i g e.0) w.source_records)) i g w) gone
