-- What a querier is still to send lies under the records of what it asks about: what changes them keeps it so.
use Rattle.std.{proofs.{Common.{arith, ◌≡◌, ◌∙◌, ℕ, nat_lt, not, ◌&&◌, Bool, true, false, cond, List, [], ◌∷◌, filter, filter_map, fold, Some, None, refl, sym, ap, subst, eqb-true}, lemmas.Bool.{not-true, or_left, or_right}}, specs.{BTreeMap.insert_entry, List.{AllByRecursion, list_any}, Ordering.match_ordering, declared.cmp.Ordering.Ordering}}
use Rattle.pim_types.{specs.{Keys.{group_in, iface_in, key_cmp, same_key, source_key, star_key}, declared.fact.{GroupRecordRow.GroupRecordRow, GroupRepeatRow.GroupRepeatRow, Key.Key, SendingRow.SendingRow, SourceRecordRow.SourceRecordRow, SourceRepeatRow.SourceRepeatRow}}, proofs.Keys.{equal_keys, same_key_same}}
use Rattle.pim_model.{specs.{Messages.Message, Querier.{exceeds, group_repeat_due, is_sending, lower_group, lower_sources, next_sending, one_sent, query_end, query_group, query_sources, robustness, send_sources, source_end, source_repeat_due, sources_sent}, Records.{GroupRecord, Member, is_at_group, put_member, with_members, with_record, with_repeats_of_rows}, State.State, Tables.{Table, change_row, changed_entry, drop_at, drop_where, has_row, is_empty_list, put, set_row}}}
use Rattle.law_settled.{proofs.{ListLaws.{any_more, by_cond, each_filter_map, each_more, each_passes, each_passing, either}, RowLaws.{has_row_dropped, has_row_map, has_row_put, has_row_without, same_key_swap}, TableLaws.{any_in_filter, any_of_filter_map}, TurnLaws.kept_by_fold}}
use Rattle.law_streams.{proofs.Keyed.{Under, under_changed, under_put}}

-- the tables in question
pub record Asking : Type 0 where
  pub groups : Table GroupRecordRow
  pub members : Table SourceRecordRow
  pub group_repeats : Table GroupRepeatRow
  pub source_repeats : Table SourceRepeatRow
  pub sendings : Table SendingRow

abbrev pub asking : State → Asking
asking s = record {
  groups = s.group_records;
  members = s.source_records;
  group_repeats = s.group_repeats;
  source_repeats = s.source_repeats;
  sendings = s.sendings;
}

-- a sending is left of the group on the interface
abbrev pub is_left : Table SendingRow → ℕ → ℕ → Bool
is_left t i g = list_any (is_sending i g) t

-- under a key of (*,G), with a sending left
pub record IsRepeat (sendings : Table SendingRow) (k : Key) : Type 0 where
  pub star : same_key (star_key (iface_in k) (group_in k)) k ≡ true
  pub left : is_left sendings (iface_in k) (group_in k) ≡ true

pub record FitsIn (a : Asking) : Type 0 where
  pub groups : Under (λ k. has_row a.groups k ≡ true) a.group_repeats
  pub sendings : Under (λ k. has_row a.members k ≡ true) a.sendings
  pub sources : Under (IsRepeat a.sendings) a.source_repeats

abbrev pub Fits : State → Type 0
Fits s = FitsIn (asking s)

-- ---- tables

module _ {R : Type 0} (P Q : Key → Type 0) where
  pub under_more : ((k : Key) → P k → Q k) → (t : Table R) → Under P t → Under Q t
  under_more more t f = each_more (λ e. P e.0) (λ e. Q e.0) (λ e h. more e.0 h) t f

  pub under_rest : (test : Key → Bool) → ((k : Key) → P k → test k ≡ false → Q k) → (t : Table R) → Under P t
      → Under Q (drop_where test t)
  unfolding drop_where
  under_rest test more t f = grind (arith, each_more, not-true, each_passing)

  -- the rows that are left where that at a key goes
  gone_step : (k : Key) (x y : Key × R) (b : Bool) → same_key k x.0 ≡ b → ((q : Key) → P q → same_key k q ≡ false → Q q)
      → cond b None (Some x) ≡ Some y → P x.0 → Q y.0
  gone_step k x y b e more is p = grind arith

  pub under_gone : (k : Key) → ((q : Key) → P q → same_key k q ≡ false → Q q) → (t : Table R) → Under P t
      → Under Q (change_row (λ old. None) k t)
  unfolding change_row changed_entry
  under_gone k more t f =
      each_filter_map (λ e. P e.0) (λ e. Q e.0) _ (λ x y e p. gone_step k x y (same_key k x.0) refl more e p) t f

-- a key of another group, or of another interface
pub apart_groups : (i g : ℕ) (k q : Key) → same_key (star_key (iface_in k) (group_in k)) k ≡ true → same_key (star_key i g) k ≡ false
    → is_at_group (iface_in k) (group_in k) q ≡ true → is_at_group i g q ≡ false
apart_groups i g k q star apart here = grind (arith, eqb-true)

-- ---- the sendings that are left

pub left_where : (test : Key → Bool) (t : Table SendingRow) (i g : ℕ) → ((k : Key) → is_at_group i g k ≡ true → test k ≡ false)
    → is_left t i g ≡ true → is_left (drop_where test t) i g ≡ true
unfolding drop_where
left_where test t i g apart e = grind (arith, any_in_filter, any_more)

put_step : (k : Key) (r : SendingRow) (i g : ℕ) (x : Key × SendingRow) (xs ys : Table SendingRow) (o : Ordering)
    → is_left (x ∷ xs) i g ≡ true → (is_left xs i g ≡ true → is_left ys i g ≡ true)
    → is_left (match_ordering o ((k, r) ∷ x ∷ xs) ((x.0, r) ∷ xs) (x ∷ ys)) i g ≡ true
put_step k r i g x xs ys o e ih = grind (arith, or_right, either, or_left)

left_put : (k : Key) (r : SendingRow) (i g : ℕ) (t : Table SendingRow) → is_left t i g ≡ true → is_left (put t k r) i g ≡ true
unfolding put
left_put k r i g [] e = cc
left_put k r i g (x ∷ xs) e = put_step k r i g x xs (insert_entry key_cmp xs k r) (key_cmp k x.0) e (left_put k r i g xs)

-- a sending of another group stays
module _ (i g : ℕ) where
  other_stays : (x : Key × SendingRow) (b c : Bool) (y : Key × SendingRow) → is_at_group i g x.0 ≡ b → b ≡ false
      → cond (not b) (Some x) (cond c (Some y) None) ≡ Some x
  other_stays x b c y e f = grind arith

  left_sent : (j h : ℕ) (t : Table SendingRow) → ((k : Key) → is_at_group j h k ≡ true → is_at_group i g k ≡ false)
      → is_left t j h ≡ true → is_left (filter_map (one_sent i g) t) j h ≡ true
  left_sent j h t apart e = grind (arith, any_of_filter_map, any_more, other_stays)

  sent_key : (x y : Key × SendingRow) (b c : Bool) (r : SendingRow) → cond (not b) (Some x) (cond c (Some (x.0, r)) None) ≡ Some y
      → y.0 ≡ x.0
  sent_key x y b c r e = grind arith

  under_sent : (P : Key → Type 0) (t : Table SendingRow) → Under P t → Under P (filter_map (one_sent i g) t)
  under_sent P t f =
      each_filter_map (λ e. P e.0) (λ e. P e.0) (one_sent i g)
      (λ x y e p. subst P (sym (sent_key x y (is_at_group i g x.0) (nat_lt 1 (x.1).left) _ e)) p) t f

-- ---- what goes with rows that are gone

-- the rows of another group lie under theirs
record FitsBeside (i g : ℕ) (u : State) : Type 0 where
  groups : Under (λ k. same_key (star_key i g) k ≡ false → has_row u.group_records k ≡ true) u.group_repeats
  sendings : Under (λ k. is_at_group i g k ≡ false → has_row u.source_records k ≡ true) u.sendings
  sources : Under (IsRepeat u.sendings) u.source_repeats

module _ (i g : ℕ) (u : State) (f : FitsBeside i g u) where
  abbrev is_gone : Key → Bool
  is_gone k = is_at_group i g k && not (has_row u.source_records k)

  abbrev rest : Table SendingRow
  rest = drop_where is_gone u.sendings

  rest_fits : (b c : Bool) → (b && not c) ≡ false → (b ≡ false → c ≡ true) → c ≡ true
  rest_fits b c e h = grind arith

  not_gone : (k q : Key) → IsRepeat u.sendings k → same_key (star_key i g) k ≡ false
      → is_at_group (iface_in k) (group_in k) q ≡ true → is_gone q ≡ false
  not_gone k q h apart e = ap (λ b. b && not (has_row u.source_records q)) (apart_groups i g k q h.star apart e)

  apart_left : (k : Key) → IsRepeat u.sendings k → same_key (star_key i g) k ≡ false → IsRepeat rest k
  apart_left k h apart = grind (arith, left_where, not_gone)

  still_left : (k : Key) → is_left rest i g ≡ true → IsRepeat u.sendings k → (b : Bool) → same_key (star_key i g) k ≡ b → IsRepeat rest k
  still_left k some h b e = grind (arith, apart_left, equal_keys, same_key_same)

  groups_fit : (b : Bool) → has_row u.group_records (star_key i g) ≡ b
      → Under (λ k. has_row u.group_records k ≡ true) (cond b u.group_repeats (drop_at u.group_repeats (star_key i g)))
  unfolding drop_at
  groups_fit true e =
      under_more _ _ (λ k h. there k h (same_key (star_key i g) k) refl) u.group_repeats f.groups
    where
      there : (k : Key) → (same_key (star_key i g) k ≡ false → has_row u.group_records k ≡ true) → (b : Bool)
          → same_key (star_key i g) k ≡ b → has_row u.group_records k ≡ true
      there k h true same = ap (λ (q : Key). has_row u.group_records q) (sym (equal_keys (star_key i g) k same)) ∙ e
      there k h false same = h same
  groups_fit false e = under_rest _ _ (same_key (star_key i g)) (λ k h out. h out) u.group_repeats f.groups

  sources_fit : (b : Bool) → is_left rest i g ≡ b
      → Under (IsRepeat rest) (cond b u.source_repeats (drop_at u.source_repeats (star_key i g)))
  unfolding drop_at
  sources_fit true e =
      under_more (IsRepeat u.sendings) (IsRepeat rest) (λ k h. still_left k e h (same_key (star_key i g) k) refl) u.source_repeats f.sources
  sources_fit false e =
      under_rest (IsRepeat u.sendings) (IsRepeat rest) (same_key (star_key i g)) apart_left u.source_repeats f.sources

  repeats_fit : Fits (with_repeats_of_rows u i g)
  unfolding with_repeats_of_rows
  repeats_fit = record {
    groups = groups_fit (has_row u.group_records (star_key i g)) refl;
    sendings = under_rest _ (λ k. has_row u.source_records k ≡ true) is_gone
        (λ k h out. rest_fits (is_at_group i g k) (has_row u.source_records k) out h) u.sendings f.sendings;
    sources = sources_fit (is_left rest i g) refl;
  }

-- ---- a record

put_members : (i g : ℕ) (k : Key) (ms : List Member) (t : Table SourceRecordRow) → has_row t k ≡ true
    → has_row (fold (put_member i g) t ms) k ≡ true
put_members i g k ms t e =
    kept_by_fold (put_member i g) (λ u. has_row u k ≡ true)
    (λ u m f. has_row_put k (source_key i g m.0) (record { end = m.1 }) u ∙ or_right (same_key k (source_key i g m.0)) (has_row u k) f) ms t e

pub members_fit : (s : State) (i g : ℕ) (r : GroupRecord) → Fits s → Fits (with_members s i g r)
unfolding with_members
members_fit s i g r f =
    grind (arith, repeats_fit, under_more, by_cond, has_row_without, same_key_swap, put_members, has_row_dropped)

pub record_fits : (s : State) (i g : ℕ) (r : GroupRecord) → Fits s → Fits (with_record s i g r)
unfolding with_record
record_fits s i g r f = grind (arith, members_fit, under_more, has_row_put, or_right)

-- ---- queries

pub lowered_there : (s : State) (i g end : ℕ) (k : Key) → has_row (lower_group s i g end).group_records k ≡ has_row s.group_records k
unfolding lower_group
lowered_there s i g end k = grind (arith, has_row_map, by_cond)

pub group_lowered : (s : State) (i g end : ℕ) → Fits s → Fits (lower_group s i g end)
unfolding lower_group
group_lowered s i g end f = record {
  groups = under_more (λ k. has_row s.group_records k ≡ true) (λ k. has_row (lower_group s i g end).group_records k ≡ true)
      (λ k h. lowered_there s i g end k ∙ h) s.group_repeats f.groups;
  sendings = f.sendings;
  sources = f.sources;
}

members_there : (s : State) (i g : ℕ) (sources : List ℕ) (end : ℕ) (k : Key)
    → has_row (lower_sources s i g sources end).source_records k ≡ has_row s.source_records k
unfolding lower_sources
members_there s i g sources end k = grind (arith, has_row_map, by_cond)

pub sources_lowered : (s : State) (i g : ℕ) (sources : List ℕ) (end : ℕ) → Fits s → Fits (lower_sources s i g sources end)
unfolding lower_sources
sources_lowered s i g sources end f = record {
  groups = f.groups;
  sendings = under_more (λ k. has_row s.source_records k ≡ true) (λ k. has_row (lower_sources s i g sources end).source_records k ≡ true)
      (λ k h. members_there s i g sources end k ∙ h) s.sendings f.sendings;
  sources = f.sources;
}

pub group_asked : (s : State) (i g : ℕ) → has_row s.group_records (star_key i g) ≡ true → Fits s → Fits (query_group s i g).0
unfolding query_group
group_asked s i g there f = grind (arith, group_lowered, under_put, lowered_there, under_more)

pub group_repeated : (s : State) (i g left : ℕ) → Fits s → Fits (group_repeat_due s i g left).0
unfolding group_repeat_due
group_repeated s i g left f = grind (arith, under_changed)

-- ---- sendings

module _ (s : State) (i g : ℕ) (f : Fits s) where
  abbrev after : Table SendingRow
  after = filter_map (one_sent i g) s.sendings

  apart_after : (k : Key) → IsRepeat s.sendings k → same_key (star_key i g) k ≡ false → IsRepeat after k
  apart_after k h apart = grind (arith, left_sent, apart_groups)

  own_repeat : is_left after i g ≡ true → IsRepeat after (star_key i g)
  own_repeat e = record { star = same_key_same (star_key i g); left = e }

  any_after : (k : Key) → is_left after i g ≡ true → IsRepeat s.sendings k → (b : Bool) → same_key (star_key i g) k ≡ b → IsRepeat after k
  any_after k some h b e = grind (arith, apart_after, equal_keys, own_repeat)

  all_after : is_left after i g ≡ true → Under (IsRepeat after) s.source_repeats
  all_after some = grind (arith, under_more, any_after)

  set_after : (b : Bool) (r : SourceRepeatRow) → is_left after i g ≡ b
      → Under (IsRepeat after) (set_row s.source_repeats (star_key i g) (cond b (Some r) None))
  unfolding set_row drop_at
  set_after true r e = under_put (IsRepeat after) s.source_repeats (star_key i g) r (own_repeat e) (all_after e)
  set_after false r e =
      under_rest (IsRepeat s.sendings) (IsRepeat after) (same_key (star_key i g)) apart_after s.source_repeats f.sources

  changed_after : (b : Bool) (r : SourceRepeatRow) → is_left after i g ≡ b
      → Under (IsRepeat after) (change_row (λ (old : SourceRepeatRow). cond b (Some r) None) (star_key i g) s.source_repeats)
  changed_after true r e = under_changed (IsRepeat after) _ (star_key i g) s.source_repeats (all_after e)
  changed_after false r e = under_gone (IsRepeat s.sendings) (IsRepeat after) (star_key i g) apart_after s.source_repeats f.sources

  pub sources_repeated : Fits (source_repeat_due s i g).0
  unfolding source_repeat_due sources_sent next_sending
  sources_repeated = record {
    groups = f.groups;
    sendings = under_sent i g (λ k. has_row s.source_records k ≡ true) s.sendings f.sendings;
    sources = changed_after (is_left after i g) _ refl;
  }

  sending_fits : Fits (send_sources s i g).0
  unfolding send_sources sources_sent next_sending
  sending_fits = record {
    groups = f.groups;
    sendings = under_sent i g (λ k. has_row s.source_records k ≡ true) s.sendings f.sendings;
    sources = set_after (is_left after i g) _ refl;
  }

-- a source whose timer runs has a record
runs_there : (s : State) (i g end src : ℕ) → exceeds end (source_end s i g src) ≡ true
    → has_row s.source_records (source_key i g src) ≡ true
unfolding has_row
runs_there s i g end src e = grind arith

module _ (i g : ℕ) (row : SendingRow) where
  abbrev counted_in : Table SendingRow → ℕ → Table SendingRow
  counted_in t src = put t (source_key i g src) row

  put_each : (P : Key → Type 0) (ns : List ℕ) (t : Table SendingRow) → AllByRecursion (λ src. P (source_key i g src)) ns → Under P t
      → Under P (fold counted_in t ns)
  put_each P [] t f h = h
  put_each P (n ∷ ns) t f h = put_each P ns (counted_in t n) f.1 (under_put P t (source_key i g n) row f.0 h)

  left_by_puts : (j h : ℕ) (ns : List ℕ) (t : Table SendingRow) → is_left t j h ≡ true → is_left (fold counted_in t ns) j h ≡ true
  left_by_puts j h ns t e =
      kept_by_fold counted_in (λ u. is_left u j h ≡ true) (λ u src f. left_put (source_key i g src) row j h u f) ns t e

pub sources_asked : (s : State) (i g : ℕ) (asked : List ℕ) → Fits s → Fits (query_sources s i g asked).0
unfolding query_sources lower_sources
sources_asked s i g asked f =
    either_way (is_empty_list ns) _ (sending_fits _ i g
    (record {
      groups = f.groups;
      sendings = put_each i g (record { left = robustness s i }) (λ k. has_row low.source_records k ≡ true) ns s.sendings
          (each_more _ _ (λ src h. members_there s i g ns (query_end s i) (source_key i g src) ∙ runs_there s i g (query_end s i) src h) ns
          (each_passes (λ src. exceeds (query_end s i) (source_end s i g src)) asked)) (sources_lowered s i g ns (query_end s i) f).sendings;
      sources = under_more (IsRepeat s.sendings) _
          (λ k h. record {
            star = h.star;
            left = left_by_puts i g (record { left = robustness s i }) (iface_in k) (group_in k) ns s.sendings h.left;
          }) s.source_repeats f.sources;
    }))
  where
    ns : List ℕ
    ns = filter (λ src. exceeds (query_end s i) (source_end s i g src)) asked

    low : State
    low = lower_sources s i g ns (query_end s i)

    either_way : (b : Bool) (x : State × List Message) → Fits x.0
        → Fits (let p : State × List Message = elim b [ true ↦ (s, []) | false ↦ x ] in p.0)
    either_way true x h = f
    either_way false x h = h
