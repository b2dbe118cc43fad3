-- A report whose groups keep their modes: no machine sees it but those of the sources that it moves.
use Rattle.std.{specs.{Option.option_map_or, Prelude.◌⊎◌, Cmp.{first_so, second_so}, List.{AllByRecursion, flat_map, list_all, list_any, Sorted.IsStrictlySortedBy}, declared.cmp.Ordering.TheVariants.Less}, proofs.{Common.{inl, inr, ◌≡◌, ℕ, ◌==◌, ◌&&◌, ◌||◌, Bool, true, false, not, cond, List, [], ◌∷◌, fold, map, filter, Option, Some, None, is_some, option_and_then, option_map, refl, ap, sym, subst, ◌∙◌, ◌+◌, eqb-true}, lemmas.{Bool.{or_left, or_right}, List.Folds.list_any-append}}}
use Rattle.igmp_wire.{specs.{Values.Record, declared.report.RecordType.RecordType}}
use Rattle.pim_types.{specs.{declared.fact.{GroupRecordRow.GroupRecordRow, GroupRepeatRow.GroupRepeatRow, Key.Key, SendingRow.SendingRow, SourceRecordRow.SourceRecordRow, SourceRepeatRow.SourceRepeatRow}, Keys.{group_in, iface_in, is_of_group, is_on, key_cmp, same_key, source_in, source_key, star_key}}, proofs.Keys.{equal_keys, same_key_same}}
use Rattle.pim_model.{specs.{Downstream.is_named, Full.reported_sources, Messages.Message, Querier.{each_in_turn, exceeds, group_end, group_membership_interval, is_querier, is_skipped, lower_group, lower_sources, lowered, query_asked, query_end, query_group, query_sources, record_seen, report_seen, robustness, send_sources, source_end, sources_sent}, Records.{AskGroup, AskSources, Asked, GroupRecord, Member, apply_record, is_at_group, is_no_record, put_member, record_of, with_members, with_record, with_repeats_of_rows}, Rows.{same_both, same_source_record}, State.State, Tables.{Table, drop_at, drop_where, has_row, is_among, is_empty_list, keys_in, put, row_at, rows_where}, Upstream.fact_keys, Cause.is_including}}
use Rattle.law_settled.{proofs.{ListLaws.{any_more, by_cond, each_filter, either}, RowLaws.{each_put, has_row_without, row_drop_away, row_put, row_put_away}, TableLaws.{any_in_filter, any_of_map}, TurnLaws.{kept_by_fold, kept_in_turn}}, specs.Laws.is_under_source}
use Rattle.law_events.{specs.{Locality.{AgreesBut, touching}, Scopes.{is_mode_read, modes_read, only_mode, only_running, only_side, reads, scope}}, proofs.{Differing.{passing_named, row_named}, Rows.{cut_entry, row_at_cut, row_in_scope, row_out_of_scope}, SameRows.of_source_records, SameTables.seen_found_alike, SourceMacros.cut_source, StarMacros.{cut_group, some_cut}}}
use Rattle.pim_querier.{specs.Reports.{all_keep_modes, keeps_mode, keeps_others, moved_by, moved_named, moved_others, moved_sources, stays}, proofs.OneSource.AreSources}
use Rattle.pim_tables.{proofs.RisingRows.{Above, Up, same_rows, sorted_of_up, up_filtered, up_of_sorted, up_put}}
use Rattle.pim_plan.{proofs.{Growing.{any_left, any_right, row_among}, MovedEnds.{Fares, IsMoved, any_kept, applied_moved, is_left, keys_alike, own_here, row_alike, side, up_cut}}}

-- ---- tables that are alike, of the rows of some keys and changed in their places

module _ {R : Type 0} (cut : R → R) where
  module _ (test : Key → Bool) (change : Key × R → R) (alike : (e : Key × R) → cut (change e) ≡ cut e.1) where
    place_step : (x : Key × R) (xs ys : Table R) (b : Bool) → map (cut_entry cut) ys ≡ map (cut_entry cut) xs
        → map (cut_entry cut) (cond b (x.0, change x) x ∷ ys) ≡ map (cut_entry cut) (x ∷ xs)
    place_step x xs ys true ih = λ j. (x.0, alike x j) ∷ ih j
    place_step x xs ys false ih = ap (λ (t : Table R). cut_entry cut x ∷ t) ih

    in_place_alike : (t : Table R)
        → map (cut_entry cut) (map (λ (e : Key × R). cond (test e.0) (e.0, change e) e) t) ≡ map (cut_entry cut) t
    in_place_alike [] = refl
    in_place_alike (x ∷ xs) =
        place_step x xs (map (λ (e : Key × R). cond (test e.0) (e.0, change e) e) xs) (test x.0) (in_place_alike xs)

under_cut : (t : Table SourceRecordRow) → AreSources t → AreSources (map (cut_entry cut_source) t)
under_cut [] under = tt
under_cut (e ∷ t) under = (under.0, under_cut t under.1)

under_uncut : (t : Table SourceRecordRow) → AreSources (map (cut_entry cut_source) t) → AreSources t
under_uncut [] under = tt
under_uncut (e ∷ t) under = (under.0, under_uncut t under.1)

-- ---- what no report changes

abbrev others : State → State
others s = record s { group_records = []; source_records = []; group_repeats = []; source_repeats = []; sendings = [] }

-- ---- states that are alike but for ends, and for what queriers repeat

pub record Fades (s t : State) : Type 0 where
  pub groups : map only_mode s.group_records ≡ map only_mode t.group_records
  pub sources : map only_side s.source_records ≡ map only_side t.source_records
  pub rest : others s ≡ others t

fades_itself : (s : State) → Fades s s
fades_itself s = record { groups = refl; sources = refl; rest = refl }

fades_then : (s t u : State) → Fades s t → Fades t u → Fades s u
fades_then s t u f g = record {
  groups = f.groups ∙ g.groups;
  sources = f.sources ∙ g.sources;
  rest = f.rest ∙ g.rest;
}

fade_step : (s : State) (groups : Table GroupRecordRow) (sources : Table SourceRecordRow)
    (repeats : Table GroupRepeatRow) (again : Table SourceRepeatRow) (sendings : Table SendingRow)
    → map only_mode groups ≡ map only_mode s.group_records → map only_side sources ≡ map only_side s.source_records
    → Fades s (record s {
      group_records = groups;
      source_records = sources;
      group_repeats = repeats;
      source_repeats = again;
      sendings = sendings;
    })
fade_step s groups sources repeats again sendings g r = record { groups = sym g; sources = sym r; rest = refl }

-- what it takes that rows are told by their keys
pub record IsOrdered (s : State) : Type 0 where
  pub groups : IsStrictlySortedBy key_cmp (keys_in s.group_records)
  pub sources : IsStrictlySortedBy key_cmp (keys_in s.source_records)
  pub under : AreSources s.source_records

-- ---- what is queried

lowered_runs : (end : ℕ) (o : Option ℕ) → only_running (lowered end o) ≡ only_running o
lowered_runs end None = refl
lowered_runs end (Some moment) = refl

module _ (i g : ℕ) where
  group_lowered : (s : State) (end : ℕ) → map only_mode (lower_group s i g end).group_records ≡ map only_mode s.group_records
  unfolding lower_group
  group_lowered s end =
      in_place_alike cut_group (same_key (star_key i g)) (λ x. record { end = lowered end (x.1).end })
      (λ x. ap (λ (o : Option ℕ). let r : GroupRecordRow = record { end = o } in r) (lowered_runs end (x.1).end))
      s.group_records

  sources_lowered : (s : State) (sources : List ℕ) (end : ℕ)
      → map only_side (lower_sources s i g sources end).source_records ≡ map only_side s.source_records
  unfolding lower_sources
  sources_lowered s sources end =
      in_place_alike cut_source (λ k. is_at_group i g k && is_among (source_in k) sources)
      (λ x. record { end = lowered end (x.1).end })
      (λ x. ap (λ (o : Option ℕ). let r : SourceRecordRow = record { end = o } in r) (lowered_runs end (x.1).end))
      s.source_records

  group_queried : (s : State) → Fades s (query_group s i g).0
  unfolding query_group lower_group
  group_queried s = fade_step s _ s.source_records _ s.source_repeats s.sendings (group_lowered s (query_end s i)) refl

  sources_queried : (s : State) (asked : List ℕ) → Fades s (query_sources s i g asked).0
  unfolding query_sources send_sources sources_sent lower_sources
  sources_queried s asked = go (is_empty_list (filter (λ src. exceeds (query_end s i) (source_end s i g src)) asked))
    where
      go : (b : Bool) → (let sources : List ℕ = filter (λ src. exceeds (query_end s i) (source_end s i g src)) asked in
          let counted : Table SendingRow =
          fold (λ t src. put t (source_key i g src) (record { left = robustness s i })) s.sendings sources in
          let lower : State = record (lower_sources s i g sources (query_end s i)) { sendings = counted } in
          let after : State × List Message =
          elim b [ true ↦ (s, []) | false ↦ send_sources lower i g ] in Fades s after.0)
      go true = fades_itself s
      go false =
          fade_step s s.group_records _ s.group_repeats _ _ refl
          (sources_lowered s (filter (λ src. exceeds (query_end s i) (source_end s i g src)) asked) (query_end s i))

  one_asked : (s : State) (a : Asked) → Fades s (query_asked i g s a).0
  unfolding query_asked
  one_asked s AskGroup = group_queried s
  one_asked s (AskSources sources) = sources_queried s sources

  all_asked : (s : State) (asked : List Asked) → Fades s (each_in_turn (query_asked i g) s asked).0
  all_asked s asked =
      kept_in_turn (query_asked i g) (Fades s) (λ t a f. fades_then s t (query_asked i g t a).0 f (one_asked t a)) asked s
      (fades_itself s)

-- ---- tables in order

sorted_above : (k : Key) (t : Table SourceRecordRow) → Above k t
    → AllByRecursion (λ q. key_cmp k q ≡ Less) (keys_in t)
unfolding keys_in
sorted_above k [] above = tt
sorted_above k (e ∷ t) above = (above.0, sorted_above k t above.1)

sorted : (t : Table SourceRecordRow) → Up t → IsStrictlySortedBy key_cmp (keys_in t)
unfolding keys_in IsStrictlySortedBy
sorted [] up = tt
sorted (e ∷ t) up = (sorted_above e.0 t up.0, sorted t up.1)

put_under : (i g : ℕ) (ms : List Member) (t : Table SourceRecordRow) → AreSources t
    → AreSources (fold (put_member i g) t ms)
put_under i g ms t under =
    kept_by_fold (put_member i g) (λ (u : Table SourceRecordRow). AreSources u)
    (λ u m kept. each_put (source_key i g m.0) (record { end = m.1 })
    (λ (e : Key × SourceRecordRow). is_under_source e ≡ true) (same_key_same (source_key i g m.0)) u kept)
    ms t under

written_under : (i g : ℕ) (ms : List Member) (t : Table SourceRecordRow) → AreSources t
    → AreSources (fold (put_member i g) (drop_where (is_at_group i g) t) ms)
unfolding drop_where
written_under i g ms t under =
    put_under i g ms (filter (λ e. not (is_at_group i g e.0)) t)
    (each_filter (λ (e : Key × SourceRecordRow). is_under_source e ≡ true) (λ e. not (is_at_group i g e.0)) t under)

-- ---- rows on the same side

some_cut_row : {R : Type 0} (cut : R → R) (o : Option R) → is_some (option_map cut o) ≡ is_some o
some_cut_row cut None = refl
some_cut_row cut (Some x) = refl

runs_cut : (o : Option GroupRecordRow)
    → is_some (option_and_then (λ (x : GroupRecordRow). x.end) (option_map cut_group o))
    ≡ is_some (option_and_then (λ (x : GroupRecordRow). x.end) o)
runs_cut None = refl
runs_cut (Some x) = some_cut x.end

stays_cut : (type : RecordType) (o : Option SourceRecordRow) → stays type (side o) ≡ stays type o
stays_cut type None = refl
stays_cut type (Some x) = ap (λ (b : Bool). not (is_including type) || b) (some_cut x.end)

none_side : (o : Option SourceRecordRow) → side o ≡ None → o ≡ None
none_side None e = refl
none_side (Some x) e = cc

same_side : (a b : Option SourceRecordRow) → side a ≡ side b → same_both same_source_record a b ≡ true
same_side None None e = refl
same_side None (Some y) e = cc
same_side (Some x) None e = cc
same_side (Some x) (Some y) e = let inner : cut_source x ≡ cut_source y = cc in of_source_records.back x y inner

-- ---- records of groups, of which those in INCLUDE with no source aren't read

-- its timer runs
abbrev ends : Table GroupRecordRow → Key → Bool
ends u k = is_some (option_and_then (λ (x : GroupRecordRow). x.end) (row_at u k))

-- a source of its group has a record on its interface
abbrev is_listed : Table SourceRecordRow → Key → Bool
is_listed t k = list_any (λ (e : Key × SourceRecordRow). is_at_group (iface_in k) (group_in k) e.0) t

-- the record is the same but for its end, or none reads it
abbrev IsMode : Table SourceRecordRow → Table GroupRecordRow → Table GroupRecordRow → Key → Type 0
IsMode t u v k =
    (option_map cut_group (row_at u k) ≡ option_map cut_group (row_at v k))
    ⊎ ((ends u k ≡ false) × (ends v k ≡ false) × (is_listed t k ≡ false))

ends_alike : (u v : Table GroupRecordRow) (k : Key) → option_map cut_group (row_at u k) ≡ option_map cut_group (row_at v k)
    → ends u k ≡ ends v k
ends_alike u v k e =
    sym (runs_cut (row_at u k))
    ∙ ap (λ (o : Option GroupRecordRow). is_some (option_and_then (λ (x : GroupRecordRow). x.end) o)) e
    ∙ runs_cut (row_at v k)

no_row : (u : Table GroupRecordRow) (k : Key) → option_map cut_group (row_at u k) ≡ None → has_row u k ≡ false
unfolding has_row
no_row u k e =
    sym (some_cut_row cut_group (row_at u k)) ∙ ap (λ (o : Option GroupRecordRow). is_some o) e

-- where the rows behind are alike
mode_then : (t : Table SourceRecordRow) (u v w : Table GroupRecordRow) (k : Key) → IsMode t u v k
    → option_map cut_group (row_at v k) ≡ option_map cut_group (row_at w k) → IsMode t u w k
mode_then t u v w k (inl e) same = inl (e ∙ same)
mode_then t u v w k (inr (a, b, c)) same = inr (a, sym (ends_alike v w k same) ∙ b, c)

none_beneath : (p : Key → Bool) (test : Key → Bool) (t : Table SourceRecordRow)
    → list_any (λ (e : Key × SourceRecordRow). p e.0) t ≡ false
    → list_any (λ (e : Key × SourceRecordRow). p e.0) (map only_side (rows_where test t)) ≡ false
unfolding rows_where
none_beneath p test [] none = refl
none_beneath p test (x ∷ xs) none = go (p x.0) (test x.0) none (none_beneath p test xs) refl
  where
    go : (a b : Bool) → (a || list_any (λ (e : Key × SourceRecordRow). p e.0) xs) ≡ false
        → (list_any (λ (e : Key × SourceRecordRow). p e.0) xs ≡ false
        → list_any (λ (e : Key × SourceRecordRow). p e.0) (map only_side (rows_where test xs)) ≡ false)
        → p x.0 ≡ a
        → list_any (λ (e : Key × SourceRecordRow). p e.0) (map only_side (cond b (x ∷ rows_where test xs) (rows_where test xs))) ≡ false
    go true b e ih is = cc
    go false true e ih is = rw is (ih e)
    go false false e ih is = ih e

-- what is read of two tables of groups' records is the same
module _ (sees : Key → Bool) (t : Table SourceRecordRow) (u v : Table GroupRecordRow)
    (rise : IsStrictlySortedBy key_cmp (keys_in u)) (rise' : IsStrictlySortedBy key_cmp (keys_in v))
    (modes : (k : Key) → IsMode t u v k) where
  abbrev seen_of : Table GroupRecordRow → Table GroupRecordRow
  seen_of w = map only_mode (rows_where sees w)

  abbrev beside : Table SourceRecordRow
  beside = map only_side (rows_where sees t)

  read_up : (w : Table GroupRecordRow) → IsStrictlySortedBy key_cmp (keys_in w) → Up (modes_read (seen_of w) beside)
  unfolding rows_where
  read_up w up =
      up_filtered (λ e. is_mode_read (seen_of w) beside e.0) (seen_of w)
      (up_cut cut_group (rows_where sees w) (up_filtered (λ e. sees e.0) w (up_of_sorted w up)))

  -- by whether it is read, and seen
  row_read : (w : Table GroupRecordRow) (k : Key) (b : Bool) → is_mode_read (seen_of w) beside k ≡ b
      → row_at (modes_read (seen_of w) beside) k ≡ cond b (row_at (seen_of w) k) None
  row_read w k true e = row_in_scope (is_mode_read (seen_of w) beside) k e (seen_of w)
  row_read w k false e = row_out_of_scope (is_mode_read (seen_of w) beside) k e (seen_of w)

  row_seen : (w : Table GroupRecordRow) (k : Key) (b : Bool) → sees k ≡ b
      → row_at (seen_of w) k ≡ cond b (option_map cut_group (row_at w k)) None
  row_seen w k true e = row_at_cut cut_group k (rows_where sees w) ∙ ap (option_map cut_group) (row_in_scope sees k e w)
  row_seen w k false e =
      row_at_cut cut_group k (rows_where sees w) ∙ ap (option_map cut_group) (row_out_of_scope sees k e w)

  cut_ends : (w : Table GroupRecordRow) (k : Key)
      → option_map_or (λ (r : GroupRecordRow). is_some r.end) (option_map cut_group (row_at w k)) false ≡ ends w k
  cut_ends w k = go (row_at w k)
    where
      go : (o : Option GroupRecordRow)
          → option_map_or (λ (r : GroupRecordRow). is_some r.end) (option_map cut_group o) false
          ≡ is_some (option_and_then (λ (x : GroupRecordRow). x.end) o)
      go None = refl
      go (Some x) = some_cut x.end

  -- with the row that is seen, the same is read
  same_read : (k : Key) → row_at (seen_of u) k ≡ row_at (seen_of v) k
      → row_at (modes_read (seen_of u) beside) k ≡ row_at (modes_read (seen_of v) beside) k
  unfolding is_mode_read
  same_read k e =
      let same : is_mode_read (seen_of u) beside k ≡ is_mode_read (seen_of v) beside k =
      ap (λ (o : Option GroupRecordRow). option_map_or (λ (r : GroupRecordRow). is_some r.end) o false
      || list_any (λ (x : Key × SourceRecordRow). is_at_group (iface_in k) (group_in k) x.0) beside) e in
      row_read u k _ refl ∙ (λ j. cond (same j) (e j) None) ∙ sym (row_read v k _ refl)

  -- what is in INCLUDE with no source is not read
  unread_mode : (w : Table GroupRecordRow) (k : Key) → sees k ≡ true → ends w k ≡ false → is_listed t k ≡ false
      → row_at (modes_read (seen_of w) beside) k ≡ None
  unfolding is_mode_read
  unread_mode w k see ended none =
      let off : is_mode_read (seen_of w) beside k ≡ false =
      (λ j. option_map_or (λ (r : GroupRecordRow). is_some r.end) (row_seen w k true see j) false
      || none_beneath (is_at_group (iface_in k) (group_in k)) sees t none j)
      ∙ or_none _ (cut_ends w k ∙ ended) in
      row_read w k false off
    where
      or_none : (b : Bool) → b ≡ false → (b || false) ≡ false
      or_none true e = cc
      or_none false e = refl

  found : (k : Key) → row_at (modes_read (seen_of u) beside) k ≡ row_at (modes_read (seen_of v) beside) k
  found k = go (sees k) refl (modes k)
    where
      go : (b : Bool) → sees k ≡ b → IsMode t u v k
          → row_at (modes_read (seen_of u) beside) k ≡ row_at (modes_read (seen_of v) beside) k
      go false out mode = same_read k (row_seen u k false out ∙ sym (row_seen v k false out))
      go true see (inl e) = same_read k (row_seen u k true see ∙ e ∙ sym (row_seen v k true see))
      go true see (inr (a, b, c)) = unread_mode u k see a c ∙ sym (unread_mode v k see b c)

  modes_alike : modes_read (seen_of u) beside ≡ modes_read (seen_of v) beside
  modes_alike = same_rows (modes_read (seen_of u) beside) (modes_read (seen_of v) beside) (read_up u rise) (read_up v rise') found

-- ---- states in which the sources that aren't moved are on the same side

module _ (s : State) (ordered : IsOrdered s) (i : ℕ) (moved : Key → Bool) where
  pub record Moves (t : State) : Type 0 where
    pub groups : (k : Key) → IsMode s.source_records s.group_records t.group_records k
    pub groups_rise : IsStrictlySortedBy key_cmp (keys_in t.group_records)
    pub sources : (k : Key) → moved k ≡ false → side (row_at s.source_records k) ≡ side (row_at t.source_records k)
    -- of a group in INCLUDE none went
    pub stay : (g : ℕ) → is_some (group_end s i g) ≡ false → (k : Key) → is_at_group i g k ≡ true
        → has_row s.source_records k ≡ true → has_row t.source_records k ≡ true
    pub rise : IsStrictlySortedBy key_cmp (keys_in t.source_records)
    pub under : AreSources t.source_records
    pub rest : others s ≡ others t

  moves_none : Moves s
  moves_none = record {
    groups = λ k. inl refl;
    groups_rise = ordered.groups;
    sources = λ k off. refl;
    stay = λ g include k here there. there;
    rise = ordered.sources;
    under = ordered.under;
    rest = refl;
  }

  moves_fade : (t u : State) → Moves t → Fades t u → Moves u
  unfolding has_row
  moves_fade t u f g = record {
    groups = λ k. mode_then s.source_records s.group_records t.group_records u.group_records k (f.groups k)
        (row_alike cut_group k t.group_records u.group_records g.groups);
    groups_rise = subst (IsStrictlySortedBy key_cmp) (keys_alike cut_group t.group_records u.group_records g.groups) f.groups_rise;
    sources = λ k off. f.sources k off ∙ row_alike cut_source k t.source_records u.source_records g.sources;
    stay = λ h include k here there.
        sym (some_cut_row cut_source (row_at u.source_records k))
        ∙ sym (ap (λ (o : Option SourceRecordRow). is_some o)
        (row_alike cut_source k t.source_records u.source_records g.sources))
        ∙ some_cut_row cut_source (row_at t.source_records k) ∙ f.stay h include k here there;
    rise = subst (IsStrictlySortedBy key_cmp) (keys_alike cut_source t.source_records u.source_records g.sources) f.rise;
    under = under_uncut u.source_records (subst AreSources g.sources (under_cut t.source_records f.under));
    rest = f.rest ∙ g.rest;
  }

  -- ---- a record of a group

  module _ (t : State) (f : Moves t) (g : ℕ) where
    abbrev star : Key
    star = star_key i g

    runs_alike : is_some (group_end s i g) ≡ is_some (group_end t i g)
    runs_alike = go (f.groups star)
      where
        go : IsMode s.source_records s.group_records t.group_records star
            → is_some (group_end s i g) ≡ is_some (group_end t i g)
        go (inl e) = ends_alike s.group_records t.group_records star e
        go (inr (a, b, c)) = a ∙ sym b

    fares_now : (type : RecordType) (names : List ℕ) → Fares i g s.source_records moved type names
        → Fares i g t.source_records moved type names
    fares_now type names fare = record {
      stay = λ src off is.
          let k : Key = source_key i g src in
          sym (stays_cut type (row_at t.source_records k))
          ∙ sym (ap (stays type) (f.sources k off)) ∙ stays_cut type (row_at s.source_records k) ∙ fare.stay src off is;
      none = λ src off deletes is.
          none_side (row_at t.source_records (source_key i g src))
          (sym (f.sources (source_key i g src) off) ∙ ap side (fare.none src off deletes is));
    }

    -- a group in INCLUDE has a source still
    any_still : (b : Bool) → is_some (group_end s i g) ≡ b
        → (b || list_any (λ (e : Key × SourceRecordRow). is_at_group i g e.0) s.source_records) ≡ true
        → (b || list_any (λ (e : Key × SourceRecordRow). is_at_group i g e.0) t.source_records) ≡ true
    any_still true is any = refl
    any_still false is any =
        any_kept (is_at_group i g) t.source_records s.source_records (λ k here there. f.stay g is k here there) any

    two_groups : (h : ℕ) (k : Key) → is_at_group i h k ≡ true → is_at_group i g k ≡ true → h ≡ g
    two_groups h k first second =
        sym (eqb-true (group_in k) h (second_so (is_on i k) (is_of_group h k) first))
        ∙ eqb-true (group_in k) g (second_so (is_on i k) (is_of_group g k) second)

    abbrev timed : GroupRecord → Table GroupRecordRow
    timed a = put t.group_records star (record { end = a.timer })

    abbrev kept_groups : GroupRecord → Bool → Table GroupRecordRow
    kept_groups a b = cond b (drop_at (timed a) star) (timed a)

    -- another group's record is as it was
    elsewhere : (a : GroupRecord) (b : Bool) (k : Key) → same_key star k ≡ false
        → row_at (kept_groups a b) k ≡ row_at t.group_records k
    elsewhere a true k is =
        row_drop_away star k other (timed a) ∙ row_put_away star k other (record { end = a.timer }) t.group_records
      where
        other : star ≡ k → ⊥
        other same = let yes : same_key star k ≡ true = subst (λ (x : Key). same_key star x ≡ true) same (same_key_same star) in cc
    elsewhere a false k is = row_put_away star k other (record { end = a.timer }) t.group_records
      where
        other : star ≡ k → ⊥
        other same = let yes : same_key star k ≡ true = subst (λ (x : Key). same_key star x ≡ true) same (same_key_same star) in cc

    groups_up : (a : GroupRecord) (b : Bool) → Up (kept_groups a b)
    unfolding drop_at drop_where
    groups_up a true =
        up_filtered (λ e. not (same_key star e.0)) (timed a)
        (up_put star (record { end = a.timer }) t.group_records (up_of_sorted t.group_records f.groups_rise))
    groups_up a false = up_put star (record { end = a.timer }) t.group_records (up_of_sorted t.group_records f.groups_rise)

    record_written : (a : GroupRecord)
        → IsMoved i g t.source_records f.rise f.under moved (group_end t i g) a
        → IsMode s.source_records s.group_records (kept_groups a (is_no_record a)) star
        → Moves (with_record t i g a)
    unfolding with_record with_members with_repeats_of_rows
    record_written a is at =
        record {
          groups = λ k. each k (same_key star k) refl;
          groups_rise = sorted_of_up (kept_groups a (is_no_record a)) (groups_up a (is_no_record a));
          sources = λ k off. f.sources k off ∙ sym (is.rows k off);
          stay = λ h include k here had.
              is.keeps k
              (λ own. sym runs_alike ∙ ap (λ (n : ℕ). is_some (group_end s i n)) (sym (two_groups h k here own)) ∙ include)
              (f.stay h include k here had);
          rise = sorted _ is.rising;
          under = written_under i g a.members t.source_records f.under;
          rest = f.rest;
        }
      where
        each : (k : Key) (b : Bool) → same_key star k ≡ b
            → IsMode s.source_records s.group_records (kept_groups a (is_no_record a)) k
        each k true e =
            subst (IsMode s.source_records s.group_records (kept_groups a (is_no_record a))) (equal_keys star k e) at
        each k false e =
            mode_then s.source_records s.group_records t.group_records (kept_groups a (is_no_record a)) k (f.groups k)
            (ap (option_map cut_group) (sym (elsewhere a (is_no_record a) k e)))

  module _ (t : State) (f : Moves t) (r : Record) (keeps : keeps_mode s i r ≡ true)
      (fare : Fares i r.group s.source_records moved r.type r.sources) where
    abbrev g : ℕ
    g = r.group

    abbrev full : ℕ
    full = t.present + group_membership_interval t i

    abbrev made : GroupRecord × List Asked
    made = apply_record full (record_of t i g) r.type r.sources

    abbrev any : Table SourceRecordRow → Bool
    any u = list_any (λ (e : Key × SourceRecordRow). is_at_group i g e.0) u

    abbrev star_here : Key
    star_here = star_key i g

    mode : (is_some (group_end s i g) || (keeps_others r.type
        && cond (has_row s.group_records star_here) (any s.source_records) (not (any s.source_records)))) ≡ true
    unfolding keeps_mode
    mode = keeps

    or_first : (a b c : Bool) → (a || (b && c)) ≡ true → (a || b) ≡ true
    or_first true b c e = refl
    or_first false true c e = refl
    or_first false false c e = cc

    is : IsMoved i g t.source_records f.rise f.under moved (group_end t i g) made.0
    unfolding record_of
    is =
        applied_moved i g t.source_records f.rise f.under full r.sources moved (group_end t i g) r.type
        (ap (λ (b : Bool). b || keeps_others r.type) (sym (runs_alike t f g)) ∙ or_first (is_some (group_end s i g)) (keeps_others r.type) _ mode)
        (fares_now t f g r.type r.sources fare)

    timer_runs : is_some (made.0).timer ≡ is_some (group_end t i g)
    timer_runs =
        sym (some_cut (made.0).timer) ∙ ap (λ (o : Option ℕ). is_some o) is.runs ∙ some_cut (group_end t i g)

    -- a group in EXCLUDE, or with sources, has the record that it had
    had : (is_some (group_end s i g) || any s.source_records) ≡ true
        → IsMode s.source_records s.group_records (kept_groups t f g made.0 (is_no_record made.0)) star_here
    had some =
        let left : is_no_record made.0 ≡ false =
        is_left i g t.source_records f.rise f.under moved (group_end t i g) made.0 is
        (ap (λ (b : Bool). b || any t.source_records) (sym (runs_alike t f g))
        ∙ any_still t f g (is_some (group_end s i g)) refl some) in
        subst (λ (b : Bool). IsMode s.source_records s.group_records (kept_groups t f g made.0 b) star_here) (sym left)
        (by_mode (f.groups star_here))
      where
        both_none : (a b : Bool) → (a || b) ≡ true → a ≡ false → b ≡ false → ⊥
        both_none true b e h k = cc
        both_none false b e h k = cc

        -- with sources there is a record
        has_none : (a b c h : Bool) → (a || (b && cond h c (not c))) ≡ true → (a || c) ≡ true → a ≡ false → h ≡ false → ⊥
        has_none true b c h e k off out = cc
        has_none false true true true e k off out = cc
        has_none false true true false e k off out = cc
        has_none false true false h e k off out = cc
        has_none false false c h e k off out = cc

        by_row : (o : Option GroupRecordRow) → row_at t.group_records star_here ≡ o
            → option_map cut_group (row_at s.group_records star_here) ≡ option_map cut_group (row_at t.group_records star_here)
            → option_map cut_group (row_at s.group_records star_here)
            ≡ Some (cut_group (record { end = (made.0).timer }))
        by_row None there e =
            absurd (has_none (is_some (group_end s i g)) (keeps_others r.type) (any s.source_records)
            (has_row s.group_records star_here) mode some
            (runs_alike t f g ∙ ap (λ (o : Option GroupRecordRow). is_some (option_and_then (λ (x : GroupRecordRow). x.end) o)) there)
            (no_row s.group_records star_here (e ∙ ap (option_map cut_group) there)))
        by_row (Some old) there e =
            e ∙ ap (option_map cut_group) there
            ∙ ap (λ (n : Option ℕ). Some (let x : GroupRecordRow = record { end = n } in x))
            (ap (λ (o : Option GroupRecordRow). only_running (option_and_then (λ (x : GroupRecordRow). x.end) o)) (sym there)
            ∙ sym is.runs)

        by_mode : IsMode s.source_records s.group_records t.group_records star_here
            → IsMode s.source_records s.group_records (kept_groups t f g made.0 false) star_here
        by_mode (inl e) =
            inl (by_row (row_at t.group_records star_here) refl e
            ∙ sym (ap (option_map cut_group) (row_put star_here (record { end = (made.0).timer }) t.group_records)))
        by_mode (inr (a, b, c)) = absurd (both_none (is_some (group_end s i g)) (any s.source_records) some a c)

    no_end : (b : Bool) → is_some (made.0).timer ≡ false → ends (kept_groups t f g made.0 b) star_here ≡ false
    unfolding has_row
    no_end true ended = dropped (row_at (drop_at (timed t f g made.0) star_here) star_here) (gone (timed t f g made.0))
      where
        gone : (u : Table GroupRecordRow) → has_row (drop_at u star_here) star_here ≡ false
        gone u =
            has_row_without star_here star_here u
            ∙ ap (λ (b : Bool). not b && has_row u star_here) (same_key_same star_here)

        dropped : (o : Option GroupRecordRow) → is_some o ≡ false
            → is_some (option_and_then (λ (x : GroupRecordRow). x.end) o) ≡ false
        dropped None e = refl
        dropped (Some x) e = cc
    no_end false ended =
        ap (λ (o : Option GroupRecordRow). is_some (option_and_then (λ (x : GroupRecordRow). x.end) o))
        (row_put star_here (record { end = (made.0).timer }) t.group_records) ∙ ended

    -- one in INCLUDE with no sources may come, or go again: none reads it
    hadnt : (is_some (group_end s i g) || any s.source_records) ≡ false
        → IsMode s.source_records s.group_records (kept_groups t f g made.0 (is_no_record made.0)) star_here
    hadnt none =
        let off : is_some (group_end s i g) ≡ false = (two_none (is_some (group_end s i g)) (any s.source_records) none).0 in
        inr (
          off,
          no_end (is_no_record made.0) (timer_runs ∙ sym (runs_alike t f g) ∙ off),
          (two_none (is_some (group_end s i g)) (any s.source_records) none).1,
        )
      where
        two_none : (a b : Bool) → (a || b) ≡ false → (a ≡ false) × (b ≡ false)
        two_none true b e = cc
        two_none false b e = (refl, e)

    written_now : Moves (with_record t i g made.0)
    written_now = record_written t f g made.0 is (go (is_some (group_end s i g) || any s.source_records) refl)
      where
        go : (b : Bool) → (is_some (group_end s i g) || any s.source_records) ≡ b
            → IsMode s.source_records s.group_records (kept_groups t f g made.0 (is_no_record made.0)) star_here
        go true e = had e
        go false e = hadnt e

    record_moves : Moves (record_seen i t r).0
    unfolding record_seen
    record_moves =
        let after : State = with_record t i g made.0 in
        let now : Moves after = written_now in
        by_cond (λ (p : State × List Message). Moves p.0) (is_querier t i)
        (each_in_turn (query_asked i g) after made.1) (after, [])
        (moves_fade after (each_in_turn (query_asked i g) after made.1).0 now (all_asked i g after made.1)) now

  -- ---- all records of a report

  abbrev AllFare : List Record → Type 0
  AllFare rs = AllByRecursion (λ (r : Record). Fares i r.group s.source_records moved r.type r.sources) rs

  report_moves : (rs : List Record) (t : State) → Moves t → list_all (keeps_mode s i) rs ≡ true → AllFare rs
      → Moves (each_in_turn (record_seen i) t rs).0
  unfolding each_in_turn
  report_moves [] t f all fare = f
  report_moves (r ∷ rs) t f all fare =
      report_moves rs (record_seen i t r).0
      (record_moves t f r (first_so (keeps_mode s i r) (list_all (keeps_mode s i) rs) all) fare.0)
      (second_so (keeps_mode s i r) (list_all (keeps_mode s i) rs) all) fare.1

-- ---- the sources that aren't moved fare so

module _ (s : State) (i : ℕ) where
  neither_so : (b c : Bool) → (b || c) ≡ false → (b ≡ false) × (c ≡ false)
  neither_so true c e = cc
  neither_so false c e = (refl, e)

  module _ (r : Record) (moved : Key → Bool)
      (so : (k : Key) → moved k ≡ false → is_named (moved_by s.source_records i r) k ≡ false) where
    abbrev stay_now : ℕ → Bool
    stay_now src = stays r.type (row_at s.source_records (source_key i r.group src))

    abbrev parts : Key → Type 0
    parts k = (is_named (moved_named s.source_records i r) k ≡ false) × (is_named (moved_others s.source_records i r) k ≡ false)

    both_parts : (k : Key) → moved k ≡ false → parts k
    unfolding is_named
    both_parts k off =
        neither_so (list_any (same_key k) (moved_named s.source_records i r)) (list_any (same_key k) (moved_others s.source_records i r))
        (sym (list_any-append (same_key k) (moved_named s.source_records i r) (moved_others s.source_records i r)) ∙ so k off)

    -- a named source that doesn't stay is among the moved ones
    named_moved : (src : ℕ) → is_among src r.sources ≡ true → stay_now src ≡ false
        → is_named (moved_named s.source_records i r) (source_key i r.group src) ≡ true
    unfolding is_named is_among
    named_moved src is goes =
        let k : Key = source_key i r.group src in
        any_of_map (same_key k) (source_key i r.group) (filter (λ n. not (stay_now n)) r.sources)
        ∙ any_in_filter (λ n. not (stay_now n)) (λ n. same_key k (source_key i r.group n)) r.sources
        ∙ any_more (λ n. n == src) (λ n. not (stay_now n) && same_key k (source_key i r.group n))
        (λ n same. subst (λ (m : ℕ). (not (stay_now m) && same_key k (source_key i r.group m)) ≡ true)
        (sym (eqb-true n src same)) (ap (λ (b : Bool). not b && same_key k k) goes ∙ same_key_same k)) r.sources is

    named_stays : (src : ℕ) → moved (source_key i r.group src) ≡ false → is_among src r.sources ≡ true
        → stay_now src ≡ true
    named_stays src off is = go (stay_now src) refl
      where
        go : (b : Bool) → stay_now src ≡ b → stay_now src ≡ true
        go true e = e
        go false e =
            let no : false ≡ true = sym (both_parts (source_key i r.group src) off).0 ∙ named_moved src is e in cc

    others_named : (k : Key) → is_at_group i r.group k ≡ true → keeps_others r.type ≡ false
        → has_row s.source_records k ≡ true → is_named (moved_others s.source_records i r) k ≡ true
    unfolding is_named keys_in
    others_named k here deletes there =
        ap (λ (b : Bool). list_any (same_key k) (cond b [] (map (λ e. e.0) (filter (λ e. is_at_group i r.group e.0) s.source_records)))) deletes
        ∙ any_of_map (same_key k) (λ e. e.0) (filter (λ e. is_at_group i r.group e.0) s.source_records)
        ∙ any_in_filter (λ e. is_at_group i r.group e.0) (λ e. same_key k e.0) s.source_records
        ∙ sym (any_of_map (λ (q : Key). is_at_group i r.group q && same_key k q) (λ e. e.0) s.source_records)
        ∙ passing_named (is_at_group i r.group) k here (map (λ e. e.0) s.source_records)
        ∙ row_named k s.source_records ∙ there

    none_there : (src : ℕ) → moved (source_key i r.group src) ≡ false → keeps_others r.type ≡ false
        → row_at s.source_records (source_key i r.group src) ≡ None
    unfolding has_row
    none_there src off deletes = go (row_at s.source_records (source_key i r.group src)) refl
      where
        go : (o : Option SourceRecordRow) → row_at s.source_records (source_key i r.group src) ≡ o
            → row_at s.source_records (source_key i r.group src) ≡ None
        go None e = e
        go (Some x) e =
            let no : false ≡ true =
            sym (both_parts (source_key i r.group src) off).1
            ∙ others_named (source_key i r.group src) (own_here i r.group src) deletes
            (ap (λ (o : Option SourceRecordRow). is_some o) e) in cc

    one_fares : Fares i r.group s.source_records moved r.type r.sources
    one_fares = record {
      stay = λ src off is. named_stays src off is;
      none = λ src off deletes is. none_there src off deletes;
    }

  all_fare : (rs : List Record) (moved : Key → Bool)
      → ((k : Key) → moved k ≡ false → is_named (flat_map (moved_by s.source_records i) rs) k ≡ false)
      → AllByRecursion (λ (r : Record). Fares i r.group s.source_records moved r.type r.sources) rs
  unfolding is_named
  all_fare [] moved so = tt
  all_fare (r ∷ rs) moved so =
      let both : (k : Key) → moved k ≡ false
      → (list_any (same_key k) (moved_by s.source_records i r) ≡ false)
      × (list_any (same_key k) (flat_map (moved_by s.source_records i) rs) ≡ false) =
      λ k off. neither_so (list_any (same_key k) (moved_by s.source_records i r))
      (list_any (same_key k) (flat_map (moved_by s.source_records i) rs))
      (sym (list_any-append (same_key k) (moved_by s.source_records i r) (flat_map (moved_by s.source_records i) rs)) ∙ so k off) in
      (one_fares r moved (λ k off. (both k off).0), all_fare rs moved (λ k off. (both k off).1))

-- ---- such a report touches the sources that it moves

module _ (s : State) (ordered : IsOrdered s) (i : ℕ) (keys : List Key) (t : State)
    (f : Moves s ordered i (is_named keys) t) where
  unnamed : (q k : Key) → touching keys q ≡ false → reads q k ≡ true → is_named keys k ≡ false
  unfolding touching is_named
  unnamed q k out is = go (list_any (same_key k) keys) refl
    where
      go : (b : Bool) → list_any (same_key k) keys ≡ b → list_any (same_key k) keys ≡ false
      go false e = e
      go true e =
          let no : false ≡ true =
          sym out
          ∙ any_more (same_key k) (reads q) (λ x same. subst (λ (y : Key). reads q y ≡ true) (equal_keys k x same) is) keys e in cc

  moves_agree : AgreesBut (touching keys) s t
  unfolding scope
  moves_agree q out =
      let seen : map only_side (rows_where (reads q) s.source_records) ≡ map only_side (rows_where (reads q) t.source_records) =
      seen_found_alike same_source_record cut_source of_source_records (reads q) s.source_records
      t.source_records ordered.sources f.rise
      (λ k is. same_side (row_at s.source_records k) (row_at t.source_records k) (f.sources k (unnamed q k out is))) in
      let groups : modes_read (map only_mode (rows_where (reads q) s.group_records)) (map only_side (rows_where (reads q) s.source_records))
      ≡ modes_read (map only_mode (rows_where (reads q) t.group_records)) (map only_side (rows_where (reads q) t.source_records)) =
      modes_alike (reads q) s.source_records s.group_records t.group_records ordered.groups f.groups_rise f.groups
      ∙ ap (modes_read (map only_mode (rows_where (reads q) t.group_records))) seen in
      λ j. record (scope (reads q) (f.rest j)) { group_records = groups j; source_records = seen j }

pub report_touches_moved : (s : State) (i : ℕ) (records : List Record) → IsOrdered s
    → all_keep_modes s i records ≡ true → AgreesBut (touching (moved_sources s i records)) s (report_seen s i records).0
unfolding report_seen all_keep_modes moved_sources
report_touches_moved s i records ordered all =
    let rs : List Record = filter (λ r. not (is_skipped r)) records in
    let keys : List Key = flat_map (moved_by s.source_records i) rs in
    moves_agree s ordered i keys (each_in_turn (record_seen i) s rs).0
    (report_moves s ordered i (is_named keys) rs s (moves_none s ordered i (is_named keys)) all
    (all_fare s i rs (is_named keys) (λ k off. off)))

-- ---- its facts

module _ (p : Key → Bool) (s : State) (i : ℕ) where
  abbrev there : Bool
  there = list_any p (keys_in s.source_records)

  stays_there : (type : RecordType) (o : Option SourceRecordRow) → stays type o ≡ true → is_some o ≡ true
  stays_there type None e = cc
  stays_there type (Some r) e = refl

  module _ (r : Record) where
    abbrev moves : ℕ → Bool
    moves n = not (stays r.type (row_at s.source_records (source_key i r.group n)))

    abbrev of_moved : List ℕ → Bool
    of_moved ns = list_any p (map (source_key i r.group) (filter moves ns))

    step : (n : ℕ) (ns : List ℕ) (b : Bool)
        → stays r.type (row_at s.source_records (source_key i r.group n)) ≡ b
        → (p (source_key i r.group n) || list_any p (map (source_key i r.group) ns)) ≡ true
        → (list_any p (map (source_key i r.group) ns) ≡ true → (there || of_moved ns) ≡ true)
        → (there || list_any p (map (source_key i r.group) (cond (not b) (n ∷ filter moves ns) (filter moves ns)))) ≡ true
    unfolding has_row
    step n ns true is any rest =
        either (p (source_key i r.group n)) (list_any p (map (source_key i r.group) ns))
        (λ passes. or_left there (of_moved ns)
        (row_among p (source_key i r.group n) s.source_records
        (stays_there r.type (row_at s.source_records (source_key i r.group n)) is) passes)) rest any
    step n ns false is any rest =
        either (p (source_key i r.group n)) (list_any p (map (source_key i r.group) ns))
        (λ passes. or_right there (p (source_key i r.group n) || of_moved ns)
        (or_left (p (source_key i r.group n)) (of_moved ns) passes))
        (λ passes. either there (of_moved ns) (or_left there (p (source_key i r.group n) || of_moved ns))
        (λ h. or_right there (p (source_key i r.group n) || of_moved ns) (or_right (p (source_key i r.group n)) (of_moved ns) h))
        (rest passes)) any

    one_known : (ns : List ℕ) → list_any p (map (source_key i r.group) ns) ≡ true → (there || of_moved ns) ≡ true
    one_known [] any = cc
    one_known (n ∷ ns) any =
        step n ns (stays r.type (row_at s.source_records (source_key i r.group n))) refl any (one_known ns)

  abbrev named_in : List Record → List Key
  named_in rs = flat_map (λ (r : Record). map (source_key i r.group) r.sources) rs

  abbrev moved_in : List Record → List Key
  moved_in rs = flat_map (moved_by s.source_records i) rs

  all_known : (rs : List Record) → list_any p (named_in rs) ≡ true → (there || list_any p (moved_in rs)) ≡ true
  all_known [] any = cc
  all_known (r ∷ rs) any =
      let own : List Key = moved_by s.source_records i r in
      either (list_any p (map (source_key i r.group) r.sources)) (list_any p (named_in rs))
      (λ passes. either there (list_any p (moved_named s.source_records i r)) (or_left there (list_any p (moved_in (r ∷ rs))))
      (λ h. or_right there (list_any p (moved_in (r ∷ rs)))
      (any_left p own (moved_in rs)
      (any_left p (moved_named s.source_records i r) (moved_others s.source_records i r) h)))
      (one_known r r.sources passes))
      (λ passes. either there (list_any p (moved_in rs)) (or_left there (list_any p (moved_in (r ∷ rs))))
      (λ h. or_right there (list_any p (moved_in (r ∷ rs))) (any_right p own (moved_in rs) h))
      (all_known rs passes))
      (sym (list_any-append p (map (source_key i r.group) r.sources) (named_in rs)) ∙ any)

-- the sources that it names have facts, or it moves them
pub reported_known : (s : State) (i : ℕ) (records : List Record) (p : Key → Bool)
    → list_any p (reported_sources i records) ≡ true
    → (list_any p (fact_keys s) || list_any p (moved_sources s i records)) ≡ true
unfolding reported_sources moved_sources fact_keys
reported_known s i records p named =
    let rs : List Record = filter (λ r. not (is_skipped r)) records in
    let keys : List Key = flat_map (moved_by s.source_records i) rs in
    either (list_any p (keys_in s.source_records)) (list_any p keys)
    (λ here. or_left (list_any p (fact_keys s)) (list_any p keys)
    (any_left p _ (keys_in s.registers) (any_left p _ (keys_in s.sources) (any_left p _ (keys_in s.override_timers)
    (any_left p _ (keys_in s.join_timers) (any_left p _ (keys_in s.asserts) (any_left p _ (keys_in s.downstream)
    (any_left p _ (keys_in s.sendings) (any_left p _ (keys_in s.source_repeats) (any_left p _ (keys_in s.group_repeats)
    (any_right p (keys_in s.group_records) (keys_in s.source_records) here)))))))))))
    (λ here. or_right (list_any p (fact_keys s)) (list_any p keys) here)
    (all_known p s i rs named)
