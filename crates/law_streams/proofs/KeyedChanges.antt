-- What each event's own change makes of the keys of asserts, of what makes them possible, and of sources.
use Rattle.std.{proofs.Common.{◌≡◌, ◌∙◌, ℕ, ◌<◌, ◌==◌, nat_lt, not, true, false, cond, List, [], filter, refl, arith}, specs.List.AllByRecursion}
use Rattle.pim_types.{specs.{Keys.source_key, declared.fact.Key.Key}}
use Rattle.pim_wire.{specs.{RegisterParts.{registered_group, registered_source}, Values.{Encapsulated, JoinPrune, Null}}}
use Rattle.igmp_wire.{specs.Values.Record}
use Rattle.pim_model.{specs.{declared.accepted.Accepted.Accepted, Downstream.{asserts_after_joins, is_named, joined_keys, keys_taken, pruned_keys, to_me}, Full.{makeable_keys, reported_groups}, Messages.Message, Querier.{is_querier, is_skipped, lower_group, lower_sources, querier_up, query_asked, query_group, query_sources, querying, record_seen, report_seen, send_sources, sources_sent}, Records.{Asked, GroupRecord, with_members, with_record, with_repeats_of_rows}, Registers.register_stop_seen, Seen.seen, State.State, Step.{change, done, iface_up, rps_replaced, taken}, Tables.{Table, keys_in}, Unicast.is_rp}}
use Rattle.law_settled.{proofs.{ListLaws.{by_cond, each_filter, each_more, either}, TurnLaws.kept_in_turn, RisingKeys.{Up, up_of_sorted}}, specs.Ready.IsSettled}
use Rattle.law_streams.{proofs.{Counting.{Within, in_keys}, Covered.of_named, Keyed.{Kept, Under, kept_same, settled_kept, time_keeps}, KeyedEvents.{NamesAssert, down_kept, forwarded_kept, hello_kept, query_kept, received_kept, register_kept, row_under}, Others.seen_alike, Reports.{groups_within, others_stay}, Within.{after_zero, isnt_zero, makeable, taken_fine}}}

-- ---- a Join/Prune

module _ (P : Key → Type 0) {R : Type 0} where
  -- what is under a key of the table, or under a named one
  pub within_under : (t : Table R) (ks : List Key) → Under P t → AllByRecursion P ks → (e : Key × R) → Within t ks e → P e.0
  within_under t ks f g e h =
      either (is_named (keys_in t) e.0) (is_named ks e.0) (λ x. row_under P t e.0 (in_keys t e.0 ∙ x) f)
      (λ x. of_named P ks e.0 g x) h

if_lasting : (P : Key → Type 0) (ks : List Key) (n : ℕ) → ((n == 0) ≡ false → AllByRecursion P ks)
    → AllByRecursion P (cond (nat_lt 0 n) ks [])
if_lasting P ks n f = grind (arith, after_zero, isnt_zero)

module _ (P Q : Key → Type 0) where
  keys_kept : (s : State) (i hold : ℕ) (joined pruned : List Key) → Up s.downstream
      → ((hold == 0) ≡ false → AllByRecursion P (makeable_keys joined pruned)) → Kept P Q s → Kept P Q (keys_taken s i hold joined pruned)
  unfolding keys_taken asserts_after_joins
  keys_kept s i hold joined pruned up names f =
      let fine = taken_fine s i hold joined pruned up in
      record {
        asserts = each_filter (λ e. P e.0) _ s.asserts f.asserts;
        downstream = each_more _ (λ e. P e.0)
            (within_under P s.downstream (makeable s i hold joined pruned) f.downstream (if_lasting P (makeable_keys joined pruned) hold names))
            _ fine.each;
        groups = f.groups;
        sources = f.sources;
      }

  to_me_kept : (s : State) (i : ℕ) (m : JoinPrune) → Up s.downstream
      → ((m.holdtime == 0) ≡ false → AllByRecursion P (makeable_keys (joined_keys s i m) (pruned_keys i m))) → Kept P Q s
      → Kept P Q (to_me s i m)
  unfolding to_me
  to_me_kept s i m up names f = keys_kept s i m.holdtime (joined_keys s i m) (pruned_keys i m) up names f

  seen_kept : (s : State) (w i : ℕ) (m : JoinPrune) → Kept P Q s → Kept P Q (seen s w i m)
  seen_kept s w i m f = grind (arith, kept_same, seen_alike)

-- ---- a report leaves the asserts

asked_asserts : (i g : ℕ) (s : State) (a : Asked) → (query_asked i g s a).0.asserts ≡ s.asserts
unfolding query_asked query_group lower_group query_sources lower_sources send_sources sources_sent
asked_asserts i g s a = grind arith

record_asserts : (s : State) (i g : ℕ) (r : GroupRecord) → (with_record s i g r).asserts ≡ s.asserts
unfolding with_record with_members with_repeats_of_rows
record_asserts s i g r = refl

seen_asserts : (i : ℕ) (s : State) (r : Record) → (record_seen i s r).0.asserts ≡ s.asserts
unfolding record_seen
seen_asserts i s r =
    by_cond (λ (p : State × List Message). (p.0).asserts ≡ s.asserts) (is_querier s i) _ _
    (kept_in_turn (query_asked i r.group) (λ t. t.asserts ≡ s.asserts) (λ t a f. asked_asserts i r.group t a ∙ f) _ _ (record_asserts s i r.group _))
    (record_asserts s i r.group _)

report_asserts : (s : State) (i : ℕ) (records : List Record) → (report_seen s i records).0.asserts ≡ s.asserts
unfolding report_seen
report_asserts s i records =
    kept_in_turn (record_seen i) (λ t. t.asserts ≡ s.asserts) (λ t r f. seen_asserts i t r ∙ f)
    (filter (λ (r : Record). not (is_skipped r)) records) s refl

module _ (P Q : Key → Type 0) where
  report_kept : (s : State) → IsSettled s → (i : ℕ) (records : List Record) → AllByRecursion P (reported_groups i records) → Kept P Q s
      → Kept P Q (report_seen s i records).0
  report_kept s settled i records names f =
      grind (arith, others_stay, report_asserts, each_more, within_under, groups_within)

-- ---- every event

module _ (P Q : Key → Type 0) (n : ℕ) (spread : (g src : ℕ) → Q (source_key 0 g src) → (i : ℕ) → i < n → P (source_key i g src)) where
  -- what it names is among these keys
  abbrev pub Names : State → Accepted → Type 0
  Names s (Accepted.JoinPruneToMe i m) =
      (m.holdtime == 0) ≡ false → AllByRecursion P (makeable_keys (joined_keys s i.number m) (pruned_keys i.number m))
  Names s (Accepted.Assert i from a) = NamesAssert P Q n spread s i.number a
  Names s (Accepted.Report i records) = AllByRecursion P (reported_groups i.number records)
  Names s (Accepted.Data i p) = (i.number < n) × Q (source_key 0 p.destination p.source)
  Names s (Accepted.Register p r) =
      is_rp s (registered_group r) p.destination ≡ true → Q (source_key 0 (registered_group r) (registered_source r))
  Names s a = Unit {0}

  pub change_kept : (s : State) → IsSettled s → (w : ℕ) (a : Accepted) → Names s a → Kept P Q s → Kept P Q (change s w a).state
  unfolding change iface_up querier_up querying rps_replaced register_stop_seen
  change_kept s settled w (Accepted.Advance moment) names f = f
  change_kept s settled w (Accepted.Up i) names f = f
  change_kept s settled w (Accepted.Down i) names f = down_kept P Q s i.number f
  change_kept s settled w (Accepted.Routes routes) names f = f
  change_kept s settled w (Accepted.Rps ranges) names f = f
  change_kept s settled w (Accepted.Hello i from h) names f = hello_kept P Q s i.number from.bits h w f
  change_kept s settled w (Accepted.JoinPruneToMe i m) names f =
      to_me_kept P Q s i.number m (up_of_sorted s.downstream settled.ordered.downstream) names f
  change_kept s settled w (Accepted.JoinPruneSeen i m) names f = seen_kept P Q s w i.number m f
  change_kept s settled w (Accepted.Assert i from a) names f = received_kept P Q n spread s i.number from.bits a names f
  change_kept s settled w (Accepted.Query i from q) names f = query_kept P Q s i.number from.bits q f
  change_kept s settled w (Accepted.Report i records) names f = report_kept P Q s settled i.number records names f
  change_kept s settled w (Accepted.Data i p) names f =
      forwarded_kept P Q n spread p.destination p.source i.number names.0 names.1 s f
  change_kept s settled w (Accepted.Register p (Encapsulated inner)) names f =
      register_kept P Q s p inner.destination inner.source false names f
  change_kept s settled w (Accepted.Register p (Null source group)) names f = register_kept P Q s p group source true names f
  change_kept s settled w (Accepted.RegisterStop from r) names f = f

  done_kept : (s : State) → IsSettled s → (w : ℕ) (a : Accepted) → Names s a → Kept P Q s → Kept P Q (done s w (change s w a)).state
  unfolding done
  done_kept s settled w a names f = settled_kept P Q s _ w (change_kept s settled w a names f)

  pub taken_kept : (s : State) → IsSettled s → (w : ℕ) (a : Accepted) → Names s a → Kept P Q s → Kept P Q (taken s w a).state
  unfolding taken
  taken_kept s settled w (Accepted.Advance moment) names f = time_keeps P Q s w moment f
  taken_kept s settled w a names f = done_kept s settled w a names f
