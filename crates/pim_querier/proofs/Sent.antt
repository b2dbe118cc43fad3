-- Sendings and records that are changed one after the other, and all at once.
use Rattle.std.{proofs.Common.{◌≡◌, ◌<◌, ◌+◌, ℕ, add-one, drop, drop-cons, get_or, is_none, length, Bool, true, false, not, ◌&&◌, List, [], ◌∷◌, Option, Some, None, option_map, refl, sym, ap, ◌∙◌, nat_lt, ◌-◌}, specs.{List.{filter, filter_map, list_any, Sorted.IsStrictlySortedBy}, Prelude.{fold, if◌then◌else◌}}}
use Rattle.pim_filters.{specs.{Members.member_entries, declared.member.Member.Member}}
use Rattle.pim_types.{specs.{declared.fact.{Key.Key, SendingRow.SendingRow, SourceRepeatRow.SourceRepeatRow}, Keys.{key_cmp, star_key}}}
use Rattle.pim_model.{specs.{Querier.{exceeds, is_sending, next_sending, one_sent, query_end, source_end, source_repeat_due, sources_sent, sources_to_send, specific_queries}, Records.{GroupRecord, is_at_group, is_no_record, put_member, with_members, with_repeats_of_rows}, State.State, Tables.{Table, change_row, drop_where, has_row, keys_in, put, same_bool}}}
use Rattle.pim_state.{specs.Turns.{Taking, saying}}
use Rattle.pim_querier.{specs.Changes.{beside, each_changed, member_put, members_put, one_less, sending_changed, sendings_changed, row_sources, without_empty, without_group_repeat, without_source_repeat}, proofs.{Starting.said_twice, EachOnce.{each_is_changed_once, left_of}}}

-- they change the one table
sendings_in_table : (change : SendingRow → Option SendingRow) (es : Table SendingRow) (s : State)
    → sendings_changed change s es ≡ record s { sendings = each_changed change s.sendings es }
unfolding sendings_changed sending_changed each_changed
sendings_in_table change [] s = refl
sendings_in_table change (e ∷ es) s = sendings_in_table change es (sending_changed change s e)

-- one sending further
pub one_more_less : (es : Table SendingRow) (k : ℕ) (e d : Key × SendingRow) (s after whole : State)
    (row : Option SendingRow) → k < length es → e ≡ get_or es k d → row ≡ one_less e.1
    → after ≡ record s { sendings = change_row (λ _. row) e.0 s.sendings }
    → fold (sending_changed one_less) s (drop k es) ≡ whole
    → fold (sending_changed one_less) after (drop (k + 1) es) ≡ whole
unfolding sending_changed
one_more_less es k e d s after whole row inside is less changed so_far =
    let split : drop k es ≡ e ∷ drop (k + 1) es =
    drop-cons es k d inside ∙ ap (λ (n : ℕ). get_or es k d ∷ drop n es) (sym (add-one k))
    ∙ ap (λ (x : Key × SendingRow). x ∷ drop (k + 1) es) (sym is) in
    ap (λ (t : State). fold (sending_changed one_less) t (drop (k + 1) es))
    (changed
    ∙ ap (λ (o : Option SendingRow). let t : State = record s {
      sendings = change_row (λ _. o) e.0 s.sendings;
    } in t) less)
    ∙ ap (λ (xs : Table SendingRow). fold (sending_changed one_less) s xs) (sym split) ∙ so_far

pub members_in_table : (i g : ℕ) (ms : List Member) (s : State)
    → members_put i g s ms ≡ record s { source_records = fold (put_member i g) s.source_records (member_entries ms) }
unfolding members_put member_put
members_in_table i g [] s = refl
members_in_table i g (m ∷ ms) s = members_in_table i g ms (member_put i g s m)

-- ---- a sending less of each source

module _ (i g : ℕ) where
  less_by : (e : Key × SendingRow) (b c : Bool)
      → (if b then option_map (λ row. (e.0, row)) (if c then Some (record { left = (e.1).left - 1 }) else None)
      else Some e)
      ≡ (if not b then Some e else (if c then Some (e.0, record { left = (e.1).left - 1 }) else None))
  less_by e true true = refl
  less_by e true false = refl
  less_by e false c = refl

  less : (e : Key × SendingRow) → left_of one_less (is_sending i g) e ≡ one_sent i g e
  less e = less_by e (is_sending i g e) (nat_lt 1 (e.1).left)

  pub all_sent : (s : State) (es : Table SendingRow) → es ≡ filter (is_sending i g) s.sendings
      → IsStrictlySortedBy key_cmp (keys_in s.sendings)
      → sendings_changed one_less s es ≡ record s { sendings = filter_map (one_sent i g) s.sendings }
  all_sent s es are rise =
      let with_sendings : Table SendingRow → State = λ t. record s { sendings = t } in
      sendings_in_table one_less es s
      ∙ ap with_sendings
      (ap (λ (xs : Table SendingRow). each_changed one_less s.sendings xs) are
      ∙ each_is_changed_once one_less (is_sending i g) s.sendings rise
      ∙ ap (λ (h : Key × SendingRow → Option (Key × SendingRow)). filter_map h s.sendings) (λ j e. less e j))

  -- all that is said of a sending, in two parts
  pub both_said : (s : State) (es : Table SendingRow) (running others : List ℕ) (end : ℕ) (t t1 t2 : Taking)
      → es ≡ filter (is_sending i g) s.sendings → end ≡ query_end s i
      → running ≡ filter (λ src. same_bool true (exceeds end (source_end s i g src))) (row_sources es)
      → others ≡ filter (λ src. same_bool false (exceeds end (source_end s i g src))) (row_sources es)
      → t1 ≡ saying t (specific_queries s i g true running) → t2 ≡ saying t1 (specific_queries s i g false others)
      → t2 ≡ saying t (sources_sent s i g).1
  unfolding sources_sent sources_to_send
  both_said s es running others end t t1 t2 are ends runs rest first second =
      let chosen : Bool → ℕ → Table SendingRow → List ℕ = λ b n xs.
      filter (λ src. same_bool b (exceeds n (source_end s i g src))) (row_sources xs) in
      let now : Bool → List ℕ = λ b. chosen b (query_end s i) (filter (is_sending i g) s.sendings) in
      let same : (b : Bool) → chosen b end es ≡ now b = λ b j. chosen b (ends j) (are j) in
      second
      ∙ ap (λ (xs : List ℕ). saying t1 (specific_queries s i g false xs)) (rest ∙ same false)
      ∙ ap (λ (u : Taking). saying u (specific_queries s i g false (now false)))
      (first ∙ ap (λ (xs : List ℕ). saying t (specific_queries s i g true xs)) (runs ∙ same true))
      ∙ said_twice t (specific_queries s i g true (now true)) (specific_queries s i g false (now false))

  pub sent_of : (s after : State) → after ≡ record s { sendings = filter_map (one_sent i g) s.sendings }
      → after ≡ (sources_sent s i g).0
  unfolding sources_sent
  sent_of s after is = is

  pub repeated : (s w1 w2 : State) (next : Option SourceRepeatRow) → w1 ≡ (sources_sent s i g).0
      → next ≡ next_sending w1 i g
      → w2 ≡ record w1 { source_repeats = change_row (λ _. next) (star_key i g) w1.source_repeats }
      → w2 ≡ (source_repeat_due s i g).0
  unfolding source_repeat_due sources_sent
  repeated s w1 w2 next sent is changed =
      let with_next : State → Option SourceRepeatRow → State = λ w o.
      record w { source_repeats = change_row (λ _. o) (star_key i g) w.source_repeats } in
      changed ∙ ap (with_next w1) is ∙ ap (λ (w : State). with_next w (next_sending w i g)) sent

  -- ---- those without a record end

  abbrev is_orphan : State → Key → Bool
  is_orphan s k = is_at_group i g k && not (has_row s.source_records k)

  pub repeats_left : (s s1 s2 s3 : State) → s1 ≡ record s { sendings = drop_where (is_orphan s) s.sendings }
      → s2 ≡ without_source_repeat i g s1 → s3 ≡ without_group_repeat i g s2 → s3 ≡ with_repeats_of_rows s i g
  unfolding with_repeats_of_rows
  repeats_left s s1 s2 s3 first second third =
      third ∙ ap (without_group_repeat i g) (second ∙ ap (without_source_repeat i g) first)

  -- ---- the rows of a record

  pub members_set : (s s1 s2 s3 s4 : State) (r : GroupRecord) (is_none : Bool) (ms : List Member)
      → member_entries ms ≡ r.members → is_none ≡ is_no_record r → s1 ≡ without_empty is_none i g s
      → s2 ≡ record s1 { source_records = drop_where (is_at_group i g) s1.source_records }
      → s3 ≡ members_put i g s2 ms → s4 ≡ with_repeats_of_rows s3 i g → s4 ≡ with_members s i g r
  unfolding with_members
  members_set s s1 s2 s3 s4 r is_none ms are none first second third fourth =
      let dropped : State → State = λ t. record t { source_records = drop_where (is_at_group i g) t.source_records } in
      let put : List (ℕ × Option ℕ) → State → State = λ es t.
      record t { source_records = fold (put_member i g) t.source_records es } in
      fourth
      ∙ ap (λ (t : State). with_repeats_of_rows t i g)
      (third ∙ members_in_table i g ms s2 ∙ ap (λ (es : List (ℕ × Option ℕ)). put es s2) are
      ∙ ap (put r.members) (second ∙ ap dropped (first ∙ ap (λ (b : Bool). without_empty b i g s) none)))

  -- the records of some sources are added to those that are there, and the group's gets a timer
  pub put_beside : (s s1 s2 s3 s4 : State) (r : GroupRecord) (end : Option ℕ) (ms : List Member) (is_left_none : Bool)
      → member_entries ms ≡ r.members → end ≡ r.timer
      → s1 ≡ (let t : State = record s { group_records = put s.group_records (star_key i g) (record { end = end }) } in t)
      → s2 ≡ members_put i g s1 ms
      → is_left_none ≡ (is_none end && not (list_any (λ e. is_at_group i g e.0) s2.source_records))
      → s3 ≡ without_empty is_left_none i g s2 → s4 ≡ with_repeats_of_rows s3 i g → s4 ≡ beside i g s r
  unfolding beside
  put_beside s s1 s2 s3 s4 r end ms is_left_none are ends first second none third fourth =
      let timed : Option ℕ → State = λ o.
      record s { group_records = put s.group_records (star_key i g) (record { end = o }) } in
      let rows : List (ℕ × Option ℕ) → State → State = λ es t.
      record t { source_records = fold (put_member i g) t.source_records es } in
      let left : Option ℕ → State → State = λ o t.
      without_empty (is_none o && not (list_any (λ e. is_at_group i g e.0) t.source_records)) i g t in
      fourth
      ∙ ap (λ (t : State). with_repeats_of_rows t i g)
      (third ∙ ap (λ (b : Bool). without_empty b i g s2) none ∙ ap (λ (o : Option ℕ). left o s2) ends
      ∙ ap (left r.timer)
      (second ∙ members_in_table i g ms s1 ∙ ap (λ (es : List (ℕ × Option ℕ)). rows es s1) are
      ∙ ap (rows r.members) (first ∙ ap timed ends)))
