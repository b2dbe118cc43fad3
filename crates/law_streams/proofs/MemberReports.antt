-- A report ends a host's asking only by excluding the source.
use Rattle.std.{proofs.Common.{◌≡◌, ◌∙◌, ℕ, ◌+◌, ◌==◌, ◌&&◌, Bool, true, false, not, List, [], filter, fold, Option, Some, is_some, refl, ap, subst, eqb-true, arith}, specs.{Cmp.{first_so, second_so, Derive.both_true}, Option.{option_and_then, option_map_or}}}
use Rattle.pim_types.{specs.{Keys.{source_key, star_key}, declared.fact.{GroupRecordRow.GroupRecordRow, Key.Key, SendingRow.SendingRow}}}
use Rattle.igmp_wire.{specs.{Values.Record, declared.report.RecordType.RecordType}}
use Rattle.pim_model.{specs.{Messages.Message, Querier.{exceeds, group_membership_interval, robustness, source_end, is_querier, is_skipped, lower_group, lower_sources, query_asked, query_end, query_group, query_sources, record_seen, report_seen, send_sources, sources_sent}, Receivers.{is_exclude, is_exclude_among, local_receiver_exclude}, Records.{AskGroup, AskSources, Asked, GroupRecord, apply_record, from_exclude, is_at_group, record_of, record_with, with_members, with_record, with_repeats_of_rows}, State.State, Tables.{Table, is_empty_list, put, row_at}}}
use Rattle.law_settled.{proofs.{ListLaws.by_cond, RowLaws.{row_put, row_put_away}, TurnLaws.kept_in_turn}}
use Rattle.law_streams.{specs.Passing.asks, proofs.{Same.Same, Climbs.swapped, StreamMembers.{SameBits, asks_so, by_rows, bits_again, excludes, group_lowered, runs, same_bits, sources_lowered}, MemberTimes.{group_away, source_away, star_apart}}}

module _ (g src i : ℕ) where
  abbrev star : Key
  star = star_key i g

  abbrev sk : Key
  sk = source_key i g src

  -- ---- the queries that a report asks for

  group_asked : (s : State) (j h : ℕ) → SameBits g src i s (query_group s j h).0
  unfolding query_group
  group_asked s j h =
      let f : SameBits g src i s (lower_group s j h (query_end s j)) = group_lowered g src i s j h (query_end s j) in
      record { group = f.group; source = f.source }

  sources_asked : (s : State) (j h : ℕ) (asked : List ℕ) → SameBits g src i s (query_sources s j h asked).0
  unfolding query_sources send_sources sources_sent
  sources_asked s j h asked =
      let xs : List ℕ = filter (λ x. exceeds (query_end s j) (source_end s j h x)) asked in
      let count : SendingRow = record { left = robustness s j } in
      let counted : Table SendingRow = fold (λ t x. put t (source_key j h x) count) s.sendings xs in
      let lower : State = record (lower_sources s j h xs (query_end s j)) { sendings = counted } in
      go (is_empty_list xs) (send_sources lower j h) (record { group = (lowers xs).group; source = (lowers xs).source })
    where
      lowers : (xs : List ℕ) → SameBits g src i s (lower_sources s j h xs (query_end s j))
      lowers xs = sources_lowered g src i s j h xs (query_end s j)

      go : (b : Bool) (x : State × List Message) → SameBits g src i s x.0
          → (let y : State × List Message = elim b [ true ↦ (s, []) | false ↦ x ] in SameBits g src i s y.0)
      go true x f = same_bits g src i s
      go false x f = f

  asked_bits : (j h : ℕ) (s : State) (a : Asked) → SameBits g src i s (query_asked j h s a).0
  unfolding query_asked
  asked_bits j h s AskGroup = group_asked s j h
  asked_bits j h s (AskSources sources) = sources_asked s j h sources

  -- ---- a record of another group, or on another interface

  record_away : (s : State) (j h : ℕ) (r : GroupRecord) → is_at_group j h sk ≡ false → SameBits g src i s (with_record s j h r)
  unfolding with_record
  record_away s j h r out = record {
    group =
        ap (λ (o : Option GroupRecordRow). option_map_or runs o false)
        (group_away g src i 0 _ j h r out
        ∙ row_put_away (star_key j h) star (star_apart g src i 0 j h out) _ s.group_records);
    source = ap (λ o. option_map_or excludes o false) (source_away g src i 0 _ j h r out);
  }

  -- ---- the group's own

  type_runs : (full end : ℕ) (r : GroupRecord) (type : RecordType) (named : ℕ → Bool) (all : List ℕ)
      → is_some (from_exclude full end r type named all).0.timer ≡ true
  unfolding from_exclude record_with
  type_runs full end r type named all = grind arith

  applied_runs : (full end : ℕ) (r : GroupRecord) (type : RecordType) (sources : List ℕ) → r.timer ≡ Some end
      → is_some (apply_record full r type sources).0.timer ≡ true
  unfolding apply_record
  applied_runs full end r type sources e = rw e (type_runs full end (record { timer = Some end; members = r.members }) type _ _)

  abbrev On : State → Type 0
  On t = option_map_or runs (row_at t.group_records star) false ≡ true

  written_on : (s : State) (r : GroupRecord) → is_some r.timer ≡ true → On (with_record s i g r)
  unfolding with_record with_members with_repeats_of_rows
  written_on s r e = grind (arith, runs, row_put)

  on_timer : (s : State) (o : Option GroupRecordRow) → row_at s.group_records star ≡ o → option_map_or runs o false ≡ true
      → is_some (option_and_then (λ (r : GroupRecordRow). r.end) o) ≡ true
  on_timer s o there e = grind arith

  timer_on : (s : State) → On s → is_some (record_of s i g).timer ≡ true
  unfolding record_of
  timer_on s f = on_timer s (row_at s.group_records star) refl f

  own_on : (s : State) (full : ℕ) (type : RecordType) (sources : List ℕ) → On s
      → On (with_record s i g (apply_record full (record_of s i g) type sources).0)
  own_on s full type sources f = grind (arith, written_on, timer_on, applied_runs)

  -- ---- a report

  bits_on : (s t : State) → SameBits g src i s t → On s → On t
  bits_on s t f e = f.group ∙ e

  seen_on : (j : ℕ) (s : State) (r : Record) → On s → On (record_seen j s r).0
  unfolding record_seen
  seen_on j s r f =
      by_cond (λ (p : State × List Message). On p.0) (is_querier s j) _ _
      (kept_in_turn (query_asked j r.group) On (λ t a h. bits_on t _ (asked_bits j r.group t a) h) _ _ written) written
    where
      written : On (with_record s j r.group (apply_record (s.present + group_membership_interval s j) (record_of s j r.group) r.type r.sources).0)
      written = go (is_at_group j r.group sk) refl
        where
          go : (b : Bool) → is_at_group j r.group sk ≡ b → On (with_record s j r.group (apply_record (s.present + group_membership_interval s j) (record_of s j r.group) r.type r.sources).0)
          go true at =
              let iface : i ≡ j = eqb-true _ _ (first_so _ _ at) in
              let group : g ≡ r.group = eqb-true _ _ (second_so _ _ at) in
              subst (λ (p : ℕ × ℕ). On (with_record s p.0 p.1 (apply_record (s.present + group_membership_interval s j) (record_of s p.0 p.1) r.type r.sources).0))
              (λ y. let p : ℕ × ℕ = (iface y, group y) in p) (own_on s _ r.type r.sources f)
          go false out = bits_on s _ (record_away s j r.group _ out) f

  report_on : (s : State) (j : ℕ) (records : List Record) → On s → On (report_seen s j records).0
  unfolding report_seen
  report_on s j records f =
      kept_in_turn (record_seen j) On (λ t r h. seen_on j t r h) (filter (λ r. not (is_skipped r)) records) s f

  module _ (j : ℕ) (off : (j == i) ≡ false) where
    out : (h : ℕ) → is_at_group j h sk ≡ false
    out h = ap (λ b. b && (g == h)) (swapped j i off)

    seen_away : (s : State) (r : Record) → SameBits g src i s (record_seen j s r).0
    unfolding record_seen
    seen_away s r =
        by_cond (λ (p : State × List Message). SameBits g src i s p.0) (is_querier s j) _ _
        (kept_in_turn (query_asked j r.group) (λ t. SameBits g src i s t)
        (λ t a f. bits_again g src i s t _ f (asked_bits j r.group t a)) _ _ written) written
      where
        written : SameBits g src i s (with_record s j r.group (apply_record (s.present + group_membership_interval s j) (record_of s j r.group) r.type r.sources).0)
        written = record_away s j r.group _ (out r.group)

    report_away : (s : State) (records : List Record) → SameBits g src i s (report_seen s j records).0
    unfolding report_seen
    report_away s records =
        kept_in_turn (record_seen j) (λ t. SameBits g src i s t) (λ t r f. bits_again g src i s t _ f (seen_away t r))
        (filter (λ r. not (is_skipped r)) records) s (same_bits g src i s)

-- a report leaves the host asking, but where it comes on the link and the source is excluded after it
pub report_asks : (s t : State) (g src i j : ℕ) (records : List Record) → asks s g src i ≡ true
    → Same (report_seen s j records).0 t
    → ((j == i) && local_receiver_exclude t g src i) ≡ false → asks t g src i ≡ true
unfolding is_exclude is_exclude_among
report_asks s t g src i j records e same off = go (j == i) refl off
  where
    bits : SameBits g src i (report_seen s j records).0 t
    bits = by_rows g src i (report_seen s j records).0 t same

    go : (b : Bool) → (j == i) ≡ b → (b && local_receiver_exclude t g src i) ≡ false → asks t g src i ≡ true
    go false is h =
        asks_so g src i (report_seen s j records).0 t bits
        (asks_so g src i s (report_seen s j records).0 (report_away g src i j is s records) e)
    go true is h =
        both_true (bits_on g src i (report_seen s j records).0 t bits (report_on g src i s j records (first_so _ _ e)))
        (ap not h)
