-- A host's membership lasts until its ends.
use Rattle.std.{proofs.{Common.{◌≡◌, ◌∙◌, ℕ, ◌+◌, ◌-◌, ◌<◌, ◌≤◌, ◌==◌, nat_le, nat_lt, ◌&&◌, ◌||◌, Bool, true, false, not, cond, List, [], ◌∷◌, filter, fold, length, map, Option, Some, None, is_none, is_some, refl, sym, ap, subst, arith, eq-eqb, eqb-true}, lemmas.{Bool.{both_ways, false_from_ne_true, or_left, or_right, Decides.nat_tests}, Grind.common_steps}}, specs.{Cmp.{first_so, second_so, Derive.both_true}, List.{list_all, list_any}, Option.{option_and_then, option_map_or}}}
use Rattle.pim_types.{specs.{Keys.{group_in, iface_in, same_key, source_in, source_key, star_key}, declared.{fact.{GroupRecordRow.GroupRecordRow, Key.Key, SourceRecordRow.SourceRecordRow}, timer.TimerKind.TimerKind}}, proofs.Keys.{equal_keys, same_key_same}}
use Rattle.pim_model.{specs.{Querier.{group_record_due, source_record_due, general_query_due, group_repeat_due, other_querier_gone, querying_on, source_repeat_due, sources_sent}, Records.{GroupRecord, Member, is_at_group, is_no_record, members_of, put_member, record_of, source_expired, with_members, with_repeats_of_rows}, State.State, Tables.{Table, drop_at, drop_where, has_row, row_at, same_option}, Downstream.{downstream_expired, prune_pending_due}, Firing.{fire_all, fire_instant, fire_once, fire_row, fired, keepalive_due, settled}, Hellos.{hello_due, neighbour_due}, Messages.Message, Step.advanced, Timers.{Ending, next_due, timers}, Upstream.{join_timer_due, override_timer_due}, Receivers.{is_exclude, is_exclude_among, local_receiver_exclude, local_receiver_exclude_among}}}
use Rattle.law_settled.{specs.{Laws.{is_under_source, is_under_star}, Ready.IsLawful}, proofs.{Ends.{Ends, shows}, ListLaws.{by_cond, either}, RowLaws.{has_row_dropped, row_change_away, row_drop_away, row_kept, row_put_away}, TimerLaws.{IsNext, is_next}, TurnLaws.kept_to_the_end, LawfulFiring.one_firing_is_lawful}}
use Rattle.law_events.{proofs.JoinPrunes.none_there}
use Rattle.law_streams.{specs.Passing.{asks, membership_ends}, proofs.{Lasts.only_row, Taken.apart_keys, Rows.put_good, Same.{Same, assert_due_same, register_due_same, settled_same}}}

-- ---- what is so of some entry and of all

any_all : {X : Type 0} (R : Type 0) (p u : X → Bool) → ((x : X) → p x ≡ true → u x ≡ true → R) → (xs : List X)
    → list_any p xs ≡ true → list_all u xs ≡ true → R
any_all R p u both [] e f = cc e
any_all R p u both (x ∷ xs) e f =
    either (p x) (list_any p xs) (λ is. both x is (first_so (u x) (list_all u xs) f))
    (λ h. any_all R p u both xs h (second_so (u x) (list_all u xs) f)) e

any_with_all : {X : Type 0} (p u q : X → Bool) → ((x : X) → p x ≡ true → u x ≡ true → q x ≡ true) → (xs : List X)
    → list_any p xs ≡ true → list_all u xs ≡ true → list_any q xs ≡ true
any_with_all p u q both [] e f = e
any_with_all p u q both (x ∷ xs) e f =
    either (p x) (list_any p xs)
    (λ is. or_left (q x) (list_any q xs) (both x is (first_so (u x) (list_all u xs) f)))
    (λ h. or_right (q x) (list_any q xs) (any_with_all p u q both xs h (second_so (u x) (list_all u xs) f))) e

no_entry : {R : Type 0} (k : Key) (q : Key × R → Bool) (t : Table R) → row_at t k ≡ None
    → list_any (λ e. same_key k e.0 && q e) t ≡ true → ⊥
unfolding row_at
no_entry k q [] none any = cc any
no_entry k q (x ∷ xs) none any = grind (arith, no_entry k q xs)

ends_at : (o : Option ℕ) (n : ℕ) → same_option o (Some n) ≡ true → o ≡ Some n
ends_at None n e = cc e
ends_at (Some a) n e = ap Some (grind (arith, common_steps, e))

module _ (g src i m : ℕ) where
  abbrev pub star : Key
  star = star_key i g

  abbrev pub sk : Key
  sk = source_key i g src

  abbrev is_after : Option ℕ → Bool
  is_after None = false
  is_after (Some x) = nat_lt m x

  -- S is excluded, or its timer ends by the timestamp
  abbrev pub ended : Option SourceRecordRow → Bool
  ended None = false
  ended (Some r) = not (is_after r.end)

  -- ---- records of other groups, or of other interfaces

  pub at_apart : (j h : ℕ) → is_at_group j h sk ≡ false → (i ≡ j) × (g ≡ h) → ⊥
  at_apart j h out same = grind (arith, eq-eqb, both_ways)

  pub star_apart : (j h : ℕ) → is_at_group j h sk ≡ false → star_key j h ≡ star → ⊥
  star_apart j h out e = at_apart j h out (sym (ap (λ (q : Key). iface_in q) e), sym (ap (λ (q : Key). group_in q) e))

  source_apart : (j h x : ℕ) → is_at_group j h sk ≡ false → source_key j h x ≡ sk → ⊥
  source_apart j h x out e = at_apart j h out (sym (ap (λ (q : Key). iface_in q) e), sym (ap (λ (q : Key). group_in q) e))

  puts_away : (j h : ℕ) → is_at_group j h sk ≡ false → (ms : List Member) (t : Table SourceRecordRow)
      → row_at (fold (put_member j h) t ms) sk ≡ row_at t sk
  puts_away j h out [] t = refl
  puts_away j h out (x ∷ xs) t =
      puts_away j h out xs (put_member j h t x) ∙ row_put_away (source_key j h x.0) sk (source_apart j h x.0 out) _ t

  pub group_away : (s : State) (j h : ℕ) (r : GroupRecord) → is_at_group j h sk ≡ false
      → row_at (with_members s j h r).group_records star ≡ row_at s.group_records star
  unfolding with_members with_repeats_of_rows
  group_away s j h r out = grind (arith, row_drop_away, star_apart)

  pub source_away : (s : State) (j h : ℕ) (r : GroupRecord) → is_at_group j h sk ≡ false
      → row_at (with_members s j h r).source_records sk ≡ row_at s.source_records sk
  unfolding with_members with_repeats_of_rows
  source_away s j h r out = grind (arith, puts_away, row_kept)

  -- ---- the group's own record, where another source's timer ends

  members_fine : (rows : Table SourceRecordRow) → list_any (λ (e : Key × SourceRecordRow). (is_at_group i g e.0 && (source_in e.0 == src)) && not (is_after (e.1).end)) rows ≡ false
      → list_any (λ (x : Member). (x.0 == src) && not (is_after x.1)) (members_of (filter (λ e. is_at_group i g e.0) rows)) ≡ false
  unfolding members_of
  members_fine [] e = refl
  members_fine (x ∷ xs) e = grind (arith, members_fine xs)

  puts_fine : (ms : List Member) → list_any (λ (x : Member). (x.0 == src) && not (is_after x.1)) ms ≡ false → (t : Table SourceRecordRow)
      → ended (row_at t sk) ≡ false → ended (row_at (fold (put_member i g) t ms) sk) ≡ false
  puts_fine [] e t f = f
  puts_fine (x ∷ xs) e t f = go (x.0 == src) refl (not (is_after x.1)) refl e (puts_fine xs)
    where
      key_is : same_key sk (source_key i g x.0) ≡ true → x.0 ≡ src
      key_is same = sym (ap (λ (q : Key). source_in q) (equal_keys sk (source_key i g x.0) same))

      new : SourceRecordRow
      new = record { end = x.1 }

      step : (b : Bool) → same_key sk (source_key i g x.0) ≡ b → (b ≡ true → not (is_after x.1) ≡ false)
          → ended (row_at (put_member i g t x) sk) ≡ false
      step true same fine = put_good ended refl (source_key i g x.0) sk new t (fine refl) f
      step false off fine = ap ended (row_put_away (source_key i g x.0) sk (apart_keys (source_key i g x.0) sk off) new t) ∙ f

      go : (b : Bool) → (x.0 == src) ≡ b → (c : Bool) → not (is_after x.1) ≡ c
          → ((b && c) || list_any (λ (y : Member). (y.0 == src) && not (is_after y.1)) xs) ≡ false
          → (list_any (λ (y : Member). (y.0 == src) && not (is_after y.1)) xs ≡ false → (u : Table SourceRecordRow)
          → ended (row_at u sk) ≡ false → ended (row_at (fold (put_member i g) u xs) sk) ≡ false)
          → ended (row_at (fold (put_member i g) (put_member i g t x) xs) sk) ≡ false
      go true is true bad h later = cc h
      go true is false good h later =
          later h (put_member i g t x) (step (same_key sk (source_key i g x.0)) refl (λ same. good))
      go false off c q h later =
          later h (put_member i g t x)
          (step (same_key sk (source_key i g x.0)) refl
          (λ same. absurd (both_ways (x.0 == src) off (eq-eqb x.0 src (key_is same)))))

  expired_fine : (x : ℕ) (r : GroupRecord) → (x == src) ≡ false
      → list_any (λ (y : Member). (y.0 == src) && not (is_after y.1)) r.members ≡ false
      → list_any (λ (y : Member). (y.0 == src) && not (is_after y.1)) (source_expired x r).members ≡ false
  unfolding source_expired
  expired_fine x r other e =
      by_cond (λ (q : GroupRecord). list_any (λ (y : Member). (y.0 == src) && not (is_after y.1)) q.members ≡ false)
      (is_some r.timer) _ _ (mapped r.members e) (left r.members e)
    where
      mapped : (ms : List Member) → list_any (λ (y : Member). (y.0 == src) && not (is_after y.1)) ms ≡ false
          → list_any (λ (y : Member). (y.0 == src) && not (is_after y.1))
          (map (λ (y : Member). cond (y.0 == x) (let z : Member = (x, None) in z) y) ms) ≡ false
      mapped [] h = refl
      mapped (y ∷ ys) h = one (y.0 == x) (y.0 == src) (not (is_after y.1)) refl refl h (mapped ys)
        where
          one : (a b c : Bool) → (y.0 == src) ≡ b → not (is_after y.1) ≡ c
              → ((b && c) || list_any (λ (z : Member). (z.0 == src) && not (is_after z.1)) ys) ≡ false
              → (list_any (λ (z : Member). (z.0 == src) && not (is_after z.1)) ys ≡ false
              → list_any (λ (z : Member). (z.0 == src) && not (is_after z.1))
              (map (λ (y : Member). cond (y.0 == x) (let z : Member = (x, None) in z) y) ys) ≡ false)
              → list_any (λ (z : Member). (z.0 == src) && not (is_after z.1))
              (cond a (let z : Member = (x, None) in z) y ∷ map (λ (y : Member). cond (y.0 == x) (let z : Member = (x, None) in z) y) ys) ≡ false
          one true b true p q h later = rw other (later (rest_of b true h))
            where
              rest_of : (b c : Bool) → ((b && c) || list_any (λ (z : Member). (z.0 == src) && not (is_after z.1)) ys) ≡ false
                  → list_any (λ (z : Member). (z.0 == src) && not (is_after z.1)) ys ≡ false
              rest_of true true k = cc k
              rest_of true false k = k
              rest_of false c k = k
          one true b false p q h later = rw other (later (rest_of b h))
            where
              rest_of : (b : Bool) → ((b && false) || list_any (λ (z : Member). (z.0 == src) && not (is_after z.1)) ys) ≡ false
                  → list_any (λ (z : Member). (z.0 == src) && not (is_after z.1)) ys ≡ false
              rest_of true k = k
              rest_of false k = k
          one false true true p q h later = cc h
          one false true false p q h later = rw (p, q) (later h)
          one false false c p q h later = rw p (later h)

      left : (ms : List Member) → list_any (λ (y : Member). (y.0 == src) && not (is_after y.1)) ms ≡ false
          → list_any (λ (y : Member). (y.0 == src) && not (is_after y.1)) (filter (λ (y : Member). not (y.0 == x)) ms) ≡ false
      left [] h = refl
      left (y ∷ ys) h = one (not (y.0 == x)) ((y.0 == src) && not (is_after y.1)) refl h (left ys)
        where
          one : (a b : Bool) → ((y.0 == src) && not (is_after y.1)) ≡ b
              → (b || list_any (λ (z : Member). (z.0 == src) && not (is_after z.1)) ys) ≡ false
              → (list_any (λ (z : Member). (z.0 == src) && not (is_after z.1)) ys ≡ false
              → list_any (λ (z : Member). (z.0 == src) && not (is_after z.1)) (filter (λ (y : Member). not (y.0 == x)) ys) ≡ false)
              → list_any (λ (z : Member). (z.0 == src) && not (is_after z.1))
              (cond a (y ∷ filter (λ (y : Member). not (y.0 == x)) ys) (filter (λ (y : Member). not (y.0 == x)) ys)) ≡ false
          one a true p h later = cc h
          one true false p h later = rw p (later h)
          one false false p h later = later h

  timer_stays : (x : ℕ) (r : GroupRecord) → (source_expired x r).timer ≡ r.timer
  unfolding source_expired
  timer_stays x r = grind arith

  module _ (row : GroupRecordRow) (end : ℕ) (is : row.end ≡ Some end) (beyond : m < end) where
    pub record Kept (t : State) : Type 0 where
      pub there : row_at t.group_records star ≡ Some row
      pub runs_on : ended (row_at t.source_records sk) ≡ false
      pub lawful : IsLawful t

    abbrev pub Stays : State → State → Type 0
    Stays s t = (row_at t.group_records star ≡ Some row) × (ended (row_at t.source_records sk) ≡ false)

    -- ---- whose timers end

    still_lawful : (t : State) (n : ℕ) → IsLawful t → IsLawful (record t { present = n })
    still_lawful t n f = grind arith

    not_group : (t : State) → Kept t → (k : Key) (n : ℕ) → n ≤ m → shows TimerKind.GroupRecord (Ends k n) t ≡ true
        → star_key (iface_in k) (group_in k) ≡ star → ⊥
    not_group t f k n low shown same =
        let kind : star_key (iface_in k) (group_in k) ≡ k =
        any_all (star_key (iface_in k) (group_in k) ≡ k)
        (λ (e : Key × GroupRecordRow). same_key k e.0 && same_option (e.1).end (Some n)) is_under_star
        (λ e h u. subst (λ (q : Key). star_key (iface_in q) (group_in q) ≡ q) (sym (equal_keys k e.0 (first_so _ _ h)))
        (equal_keys (star_key (iface_in e.0) (group_in e.0)) e.0 u)) t.group_records shown ((f.lawful).firable).group_records in
        let here : shows TimerKind.GroupRecord (Ends star n) t ≡ true =
        subst (λ (x : Key). shows TimerKind.GroupRecord (Ends x n) t ≡ true) (sym kind ∙ same) shown in
        let found : same_option row.end (Some n) ≡ true =
        only_row star (λ e. same_option (e.1).end (Some n)) row t.group_records ((f.lawful).ordered).group_records f.there here
        (λ x same at passes. subst (λ (r : GroupRecordRow). same_option r.end (Some n) ≡ true) same passes) in
        let when : Some end ≡ Some n = sym is ∙ ends_at row.end n found in
        let equal : end ≡ n = cc when in
        absurd (omega (arith, low, beyond, equal))

    stale_row : (t : State) → Kept t → list_any (λ (e : Key × SourceRecordRow). same_key sk e.0 && not (is_after (e.1).end)) t.source_records ≡ true → ⊥
    stale_row t f any = go (row_at t.source_records sk) refl
      where
        go : (o : Option SourceRecordRow) → row_at t.source_records sk ≡ o → ⊥
        go None none = no_entry sk (λ e. not (is_after (e.1).end)) t.source_records none any
        go (Some r) found =
            both_ways (ended (Some r)) (ap ended (sym found) ∙ f.runs_on)
            (only_row sk (λ e. not (is_after (e.1).end)) r t.source_records ((f.lawful).ordered).source_records found any
            (λ x same at passes. subst (λ (q : SourceRecordRow). not (is_after q.end) ≡ true) same passes))

    not_source : (t : State) → Kept t → (k : Key) (n : ℕ) → n ≤ m → shows TimerKind.SourceRecord (Ends k n) t ≡ true
        → source_key (iface_in k) (group_in k) (source_in k) ≡ sk → ⊥
    not_source t f k n low shown same =
        let any : list_any (λ (e : Key × SourceRecordRow). same_key sk e.0 && not (is_after (e.1).end)) t.source_records ≡ true =
        any_with_all (λ (e : Key × SourceRecordRow). same_key k e.0 && same_option (e.1).end (Some n)) is_under_source
        (λ e. same_key sk e.0 && not (is_after (e.1).end))
        (λ e h u.
        let at : k ≡ e.0 = equal_keys k e.0 (first_so _ _ h) in
        let own : source_key (iface_in e.0) (group_in e.0) (source_in e.0) ≡ e.0 =
        equal_keys (source_key (iface_in e.0) (group_in e.0) (source_in e.0)) e.0 u in
        let here : sk ≡ e.0 = sym same ∙ (ap (λ (q : Key). source_key (iface_in q) (group_in q) (source_in q)) at ∙ own) in
        both_true (ap (same_key sk) (sym here) ∙ same_key_same sk) (is_late (e.1).end (ends_at (e.1).end n (second_so _ _ h))))
        t.source_records shown ((f.lawful).firable).source_records in
        stale_row t f any
      where
        is_late : (o : Option ℕ) → o ≡ Some n → not (is_after o) ≡ true
        is_late o at = subst (λ (x : Option ℕ). not (is_after x) ≡ true) (sym at) (grind (arith, nat_tests, low))

    none_stale : (t : State) → Kept t
        → list_any (λ (e : Key × SourceRecordRow). (is_at_group i g e.0 && (source_in e.0 == src)) && not (is_after (e.1).end)) t.source_records ≡ false
    none_stale t f =
        false_from_ne_true (list_any (λ (e : Key × SourceRecordRow). (is_at_group i g e.0 && (source_in e.0 == src)) && not (is_after (e.1).end)) t.source_records)
        (λ any. stale_row t f
        (any_with_all (λ (e : Key × SourceRecordRow). (is_at_group i g e.0 && (source_in e.0 == src)) && not (is_after (e.1).end)) is_under_source
        (λ e. same_key sk e.0 && not (is_after (e.1).end))
        (λ e h u.
        let at : is_at_group i g e.0 ≡ true = first_so _ _ (first_so _ _ h) in
        let iface : iface_in e.0 ≡ i = eqb-true _ _ (first_so _ _ at) in
        let group : group_in e.0 ≡ g = eqb-true _ _ (second_so _ _ at) in
        let source : source_in e.0 ≡ src = eqb-true _ _ (second_so _ _ (first_so _ _ h)) in
        let own : source_key (iface_in e.0) (group_in e.0) (source_in e.0) ≡ e.0 =
        equal_keys (source_key (iface_in e.0) (group_in e.0) (source_in e.0)) e.0 u in
        let here : sk ≡ e.0 = (λ j. source_key (sym iface j) (sym group j) (sym source j)) ∙ own in
        both_true (ap (same_key sk) (sym here) ∙ same_key_same sk) (second_so _ _ h))
        t.source_records any ((f.lawful).firable).source_records))

    -- ---- the ends themselves

    group_elsewhere : (t : State) → Kept t → (j h : ℕ) → is_at_group j h sk ≡ false → Stays t (group_record_due t j h)
    unfolding group_record_due
    group_elsewhere t f j h out = (
      group_away _ j h _ out ∙ (row_change_away (star_key j h) star (star_apart j h out) _ t.group_records ∙ f.there),
      ap ended (source_away _ j h _ out) ∙ f.runs_on,
    )

    source_elsewhere : (t : State) → Kept t → (j h x : ℕ) → is_at_group j h sk ≡ false → Stays t (source_record_due t j h x)
    unfolding source_record_due
    source_elsewhere t f j h x out = (group_away t j h _ out ∙ f.there, ap ended (source_away t j h _ out) ∙ f.runs_on)

    own_timer : (t : State) → Kept t → (record_of t i g).timer ≡ Some end
    unfolding record_of
    own_timer t f = ap (λ (o : Option GroupRecordRow). option_and_then (λ (r : GroupRecordRow). r.end) o) f.there ∙ is

    own_fine : (t : State) → Kept t → list_any (λ (y : Member). (y.0 == src) && not (is_after y.1)) (record_of t i g).members ≡ false
    unfolding record_of
    own_fine t f = members_fine t.source_records (none_stale t f)

    source_own : (t : State) → Kept t → (x : ℕ) → (x == src) ≡ false → Stays t (source_record_due t i g x)
    unfolding source_record_due with_members with_repeats_of_rows has_row
    source_own t f x other = (
      by_no (is_no_record (source_expired x (record_of t i g))) (no_record_is (source_expired x (record_of t i g)) timer),
      puts_fine (source_expired x (record_of t i g)).members (expired_fine x (record_of t i g) other (own_fine t f))
          (drop_where (is_at_group i g) t.source_records)
          (ap ended (none_there (row_at (drop_where (is_at_group i g) t.source_records) sk)
          (has_row_dropped sk (is_at_group i g) t.source_records ∙ ap (λ b. not b && has_row t.source_records sk) at_own))),
    )
      where
        timer : (source_expired x (record_of t i g)).timer ≡ Some end
        timer = timer_stays x (record_of t i g) ∙ own_timer t f

        no_record_is : (r : GroupRecord) → r.timer ≡ Some end → is_no_record r ≡ false
        no_record_is r e = rw e refl

        by_no : (b : Bool) → b ≡ false → row_at (cond b (drop_at t.group_records star) t.group_records) star ≡ Some row
        by_no true e = cc e
        by_no false e = f.there

        at_own : is_at_group i g sk ≡ true
        at_own = both_true (eq-eqb i i refl) (eq-eqb g g refl)

    -- ---- any firing

    group_fires : (t : State) → Kept t → (j h : ℕ) → (star_key j h ≡ star → ⊥) → Stays t (group_record_due t j h)
    group_fires t f j h never = go (is_at_group j h sk) refl
      where
        go : (b : Bool) → is_at_group j h sk ≡ b → Stays t (group_record_due t j h)
        go true at =
            let iface : i ≡ j = eqb-true _ _ (first_so _ _ at) in
            let group : g ≡ h = eqb-true _ _ (second_so _ _ at) in
            absurd (never (λ x. star_key (sym iface x) (sym group x)))
        go false out = group_elsewhere t f j h out

    source_fires : (t : State) → Kept t → (j h x : ℕ) → (source_key j h x ≡ sk → ⊥) → Stays t (source_record_due t j h x)
    source_fires t f j h x never = go (is_at_group j h sk) refl
      where
        go : (b : Bool) → is_at_group j h sk ≡ b → Stays t (source_record_due t j h x)
        go true at =
            let iface : i ≡ j = eqb-true _ _ (first_so _ _ at) in
            let group : g ≡ h = eqb-true _ _ (second_so _ _ at) in
            subst (λ (p : ℕ × ℕ). Stays t (source_record_due t p.0 p.1 x)) (λ y. let p : ℕ × ℕ = (iface y, group y) in p)
            (source_own t f x (false_from_ne_true (x == src)
            (λ same. never (λ y. source_key (sym iface y) (sym group y) (eqb-true x src same y)))))
        go false out = source_elsewhere t f j h x out

    row_fires : {R : Type 0} (P : State → Type 0) (s : State) (o : Option R) (fire : R → State × List Message) → P s
        → ((r : R) → P (fire r).0) → P (option_map_or fire o (s, [])).0
    row_fires P s o fire f h = grind arith

    abbrev pub Both : State → Type 0
    Both t = (row_at t.group_records star ≡ Some row) × (ended (row_at t.source_records sk) ≡ false)

    by_same : (s t : State) → Same s t → Both s → Both t
    by_same s t e f = grind arith

    pending_both : (s : State) (k : Key) (r : _) → Both s → Both (prune_pending_due s k r).0
    unfolding prune_pending_due
    pending_both s k r f = by_cond (λ (p : State × List Message). Both p.0) k.rpt _ _ f f

    fired_both : (s : State) (kind : TimerKind) (k : Key)
        → (kind ≡ TimerKind.GroupRecord → Both (group_record_due s (iface_in k) (group_in k)))
        → (kind ≡ TimerKind.SourceRecord → Both (source_record_due s (iface_in k) (group_in k) (source_in k)))
        → Both s → Both (fired s kind k).0
    unfolding fired fire_row downstream_expired neighbour_due keepalive_due override_timer_due join_timer_due
        other_querier_gone querying_on group_repeat_due source_repeat_due sources_sent general_query_due hello_due
    fired_both s TimerKind.PrunePending k a b f = row_fires Both s (row_at s.downstream k) _ f (λ r. pending_both s k r f)
    fired_both s TimerKind.GroupRecord k a b f = a refl
    fired_both s TimerKind.SourceRecord k a b f = b refl
    fired_both s TimerKind.Assert k a b f = grind (arith, row_fires, by_same, assert_due_same)
    fired_both s TimerKind.Register k a b f = grind (arith, row_fires, by_same, register_due_same)
    fired_both s TimerKind.Keepalive k a b f = row_fires Both s (row_at s.sources k) _ f (λ r. f)
    fired_both s TimerKind.GroupRepeat k a b f = row_fires Both s (row_at s.group_repeats k) _ f (λ r. f)
    fired_both s TimerKind.GeneralQuery k a b f = row_fires Both s (row_at s.queriers k) _ f (λ r. f)
    fired_both s TimerKind.Hello k a b f = row_fires Both s (row_at s.interfaces k) _ f (λ r. f)
    fired_both s TimerKind.DownstreamExpiry k a b f = f
    fired_both s TimerKind.Neighbour k a b f = f
    fired_both s TimerKind.Override k a b f = f
    fired_both s TimerKind.Join k a b f = f
    fired_both s TimerKind.OtherQuerier k a b f = f
    fired_both s TimerKind.SourceRepeat k a b f = f

    module _ (w : ℕ) where
      once_kept : (t : State) (d : Ending) → Kept t → d.end ≤ m → shows d.timer.kind (Ends d.timer.key d.end) t ≡ true
          → Kept (fire_once w t d).0
      unfolding fire_once
      once_kept t d f low shown =
          let opened : State = record t { present = d.end } in
          let at : Kept opened → Both (fired opened d.timer.kind d.timer.key).0 = λ h.
          fired_both opened d.timer.kind d.timer.key
          (λ kind. group_fires opened h (iface_in d.timer.key) (group_in d.timer.key)
          (not_group t f d.timer.key d.end low (subst (λ (x : TimerKind). shows x (Ends d.timer.key d.end) t ≡ true) kind shown)))
          (λ kind. source_fires opened h (iface_in d.timer.key) (group_in d.timer.key) (source_in d.timer.key)
          (not_source t f d.timer.key d.end low (subst (λ (x : TimerKind). shows x (Ends d.timer.key d.end) t ≡ true) kind shown)))
          (f.there, f.runs_on) in
          let fires : Both (fired opened d.timer.kind d.timer.key).0 =
          at (record { there = f.there; runs_on = f.runs_on; lawful = still_lawful t d.end f.lawful }) in
          let both : Both (settled t (fired opened d.timer.kind d.timer.key) w).0 =
          by_same (fired opened d.timer.kind d.timer.key).0 (settled t (fired opened d.timer.kind d.timer.key) w).0 (settled_same t (fired opened d.timer.kind d.timer.key) w) fires in
          record { there = both.0; runs_on = both.1; lawful = one_firing_is_lawful w t d f.lawful }

      instant_kept : (t : State) (e : Ending) → Kept t → e.end ≤ m → Kept (fire_instant w t e).0
      unfolding fire_instant
      instant_kept t e f low =
          kept_to_the_end (next_due e.end) (fire_once w) Kept
          (λ u d h there.
          let next : IsNext e.end u d = is_next e.end u d there in
          let due : d.end ≤ e.end = next.due in once_kept u d h (omega (arith, due, low)) next.shown)
          (length (timers t) + 1) t f

      pub time_kept : (t : State) → Kept t → Both (advanced t w m).state
      unfolding advanced fire_all
      time_kept t f =
          let h : Kept (fire_all w m t).0 =
          kept_to_the_end (next_due m) (fire_instant w) Kept (λ u d h there. instant_kept u d h (is_next m u d there).due)
          (m + 2 - t.present) t f in
          (h.there, h.runs_on)

-- ---- whether a host asks

module _ (s : State) (g src i w m : ℕ) (lawful : IsLawful s) where
  excluded_of : (o : Option SourceRecordRow) → ended g src i m o ≡ false → option_map_or (λ (r : SourceRecordRow). is_none r.end) o false ≡ false
  excluded_of o e = grind arith

  open_of : (o : Option SourceRecordRow) → option_map_or (λ (r : SourceRecordRow). is_none r.end) o false ≡ false
      → option_map_or (λ (r : SourceRecordRow). option_map_or (λ x. nat_le x m) r.end false) o false ≡ false → ended g src i m o ≡ false
  open_of o e f = grind (arith, nat_tests)

  and_false : (b : Bool) → not (true && b) ≡ true → b ≡ false
  and_false b e = grind arith

  abbrev later : State
  later = (advanced s w m).state

  by_row : (row : GroupRecordRow) → row_at s.group_records (star_key i g) ≡ Some row → (o : Option ℕ) → row.end ≡ o
      → (is_some o && not (is_some o && option_map_or (λ (r : SourceRecordRow). is_none r.end) (row_at s.source_records (source_key i g src)) false)) ≡ true
      → option_map_or (λ x. nat_le x m) o false ≡ false
      → option_map_or (λ (r : SourceRecordRow). option_map_or (λ x. nat_le x m) r.end false) (row_at s.source_records (source_key i g src)) false ≡ false
      → asks later g src i ≡ true
  unfolding is_exclude is_exclude_among local_receiver_exclude local_receiver_exclude_among
  by_row row there None is e f h = cc e
  by_row row there (Some end) is e f h =
      let beyond : m < end = grind (arith, nat_tests, f) in
      let both = time_kept g src i m row end is beyond w s (record {
        there = there;
        runs_on = open_of (row_at s.source_records (source_key i g src)) (and_false _ e) h;
        lawful = lawful;
      }) in
      rw (both.0, is, excluded_of (row_at later.source_records (source_key i g src)) both.1) refl

  pub time_asks : asks s g src i ≡ true → membership_ends s g src i m ≡ false → asks later g src i ≡ true
  unfolding is_exclude is_exclude_among local_receiver_exclude local_receiver_exclude_among membership_ends
  time_asks e f = go (row_at s.group_records (star_key i g)) refl e f
    where
      two : (a b : Bool) → (a || b) ≡ false → (a ≡ false) × (b ≡ false)
      two true b h = cc h
      two false b h = (refl, h)

      go : (o : Option GroupRecordRow) → row_at s.group_records (star_key i g) ≡ o
          → (option_map_or (λ (r : GroupRecordRow). is_some r.end) o false
          && not (option_map_or (λ (r : GroupRecordRow). is_some r.end) o false && option_map_or (λ (r : SourceRecordRow). is_none r.end) (row_at s.source_records (source_key i g src)) false)) ≡ true
          → (option_map_or (λ (r : GroupRecordRow). option_map_or (λ x. nat_le x m) r.end false) o false
          || option_map_or (λ (r : SourceRecordRow). option_map_or (λ x. nat_le x m) r.end false) (row_at s.source_records (source_key i g src)) false) ≡ false
          → asks later g src i ≡ true
      go None there h k = cc h
      go (Some row) there h k =
          by_row row there row.end refl h (two (option_map_or (λ x. nat_le x m) row.end false) _ k).0
          (two (option_map_or (λ x. nat_le x m) row.end false) _ k).1
