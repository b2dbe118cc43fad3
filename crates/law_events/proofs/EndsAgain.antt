-- What machines do that moves an end alone touches nothing.
use Rattle.std.{proofs.Common.{◌≡◌, ℕ, Bool, true, false, [], Option, Some, None, is_some, refl, ap, ◌∙◌, arith, rules}, specs.{Cmp.Derive.both_true, Option.option_map_or}}
use Rattle.pim_types.{specs.{declared.fact.{AssertMetric.AssertMetric, AssertRole.AssertRole, AssertRow.AssertRow, Key.Key, SourceRow.SourceRow}, Keys.source_key}, proofs.Keys.equal_keys}
use Rattle.pim_model.{specs.{Asserts.loses, Registers.with_keepalive, Rows.{same_assert, same_downstream, same_group_record, same_metric, same_register, same_source, same_source_record}, Sets.{is_kept_alive, is_loser, spt_bit}, State.State, Tables.{Table, put, row_at, same_bool}}}
use Rattle.law_settled.{proofs.{RowLaws.{row_put, row_put_away}, RisingKeys.{sorted_of_up, up_put, up_of_sorted}}, specs.Ready.{IsOrdered, Rises}}
use Rattle.law_events.{specs.{Differing.{is_same_at, same_at}, Locality.{AgreesBut, touching}}, proofs.{Differing.{all_six, named_keys_cover}, JoinPrunes.{as_before, itself, unequal}, SameRows.{IsOfCut, of_asserts, of_downstream, of_group_records, of_registers, of_source_records, of_sources}, SourceMacros.{cut_kept, cut_kind, cut_register, cut_source}, StarMacros.{cut_assert, cut_group}}}

module _ {R : Type 0} (same : R → R → Bool) (cut : R → R) (is : IsOfCut same cut) (q : Key) (old row : R)
    (alike : same old row ≡ true) where
  -- a row put in place of one that is the same but for ends
  put_alike : (t : Table R) → row_at t q ≡ Some old → (k : Key) → same_at same k t (put t q row) ≡ true
  put_alike t there k = grind (arith, equal_keys, row_put, as_before, row_put_away, unequal)

  put_rises : (t : Table R) → Rises t → Rises (put t q row)
  put_rises t e = sorted_of_up _ (up_put q row t (up_of_sorted t e))

module _ (s : State) (ordered : IsOrdered s) where
  never : (t : State) (k : Key) → is_same_at s t k ≡ true → is_same_at s t k ≡ false → touching [] k ≡ true
  never t k e f = cc (e, f)

  -- tables of asserts and of sources whose rows are the same but for ends
  ends_alike : (asserts : Table AssertRow) (sources : Table SourceRow) → Rises asserts → Rises sources
      → ((k : Key) → same_at same_assert k s.asserts asserts ≡ true)
      → ((k : Key) → same_at same_source k s.sources sources ≡ true)
      → AgreesBut (touching []) s (record s { asserts = asserts; sources = sources })
  unfolding is_same_at
  ends_alike asserts sources asserts_rise sources_rise same_asserts same_sources =
      let t : State = record s { asserts = asserts; sources = sources } in
      named_keys_cover [] s t ordered
      (record {
        interfaces = ordered.interfaces;
        neighbours = ordered.neighbours;
        queriers = ordered.queriers;
        group_records = ordered.group_records;
        source_records = ordered.source_records;
        group_repeats = ordered.group_repeats;
        source_repeats = ordered.source_repeats;
        sendings = ordered.sendings;
        downstream = ordered.downstream;
        asserts = asserts_rise;
        join_timers = ordered.join_timers;
        override_timers = ordered.override_timers;
        sources = sources_rise;
        registers = ordered.registers;
      })
      (record {
        settings = refl;
        configured = refl;
        routes = refl;
        ranges = refl;
        interfaces = refl;
        neighbours = refl;
      })
      (λ k. never t k (all_six _ _ _ _ _ _ (record {
        first = itself same_group_record cut_group of_group_records (row_at s.group_records k);
        second = itself same_source_record cut_source of_source_records (row_at s.source_records k);
        third = itself same_downstream cut_kind of_downstream (row_at s.downstream k);
        fourth = same_asserts k;
        fifth = same_sources k;
        sixth = itself same_register cut_register of_registers (row_at s.registers k);
      })))

  asserts_alike : (q : Key) (old row : AssertRow) → row_at s.asserts q ≡ Some old → same_assert old row ≡ true
      → AgreesBut (touching []) s (record s { asserts = put s.asserts q row })
  asserts_alike q old row there alike =
      ends_alike (put s.asserts q row) s.sources
      (put_rises same_assert cut_assert of_asserts q old row alike s.asserts ordered.asserts) ordered.sources
      (put_alike same_assert cut_assert of_asserts q old row alike s.asserts there)
      (λ k. itself same_source cut_kept of_sources (row_at s.sources k))

  sources_alike : (q : Key) (old row : SourceRow) → row_at s.sources q ≡ Some old → same_source old row ≡ true
      → AgreesBut (touching []) s (record s { sources = put s.sources q row })
  sources_alike q old row there alike =
      ends_alike s.asserts (put s.sources q row) ordered.asserts
      (put_rises same_source cut_kept of_sources q old row alike s.sources ordered.sources)
      (λ k. itself same_assert cut_assert of_asserts (row_at s.asserts k))
      (put_alike same_source cut_kept of_sources q old row alike s.sources there)

lost_alike : (r : AssertRow) (theirs : AssertMetric) (end : ℕ) → is_loser (Some r) ≡ true
    → same_metric r.winner theirs ≡ true
    → same_assert r (record { role = AssertRole.Loser; winner = theirs; end = end }) ≡ true
lost_alike r theirs end lost same = grind arith

pub loses_again : (s : State) → IsOrdered s → (k : Key) (r : AssertRow) (theirs : AssertMetric)
    → row_at s.asserts k ≡ Some r → is_loser (Some r) ≡ true → same_metric r.winner theirs ≡ true
    → AgreesBut (touching []) s (loses s k theirs)
unfolding loses
loses_again s ordered k r theirs there lost same = search (rules, asserts_alike, lost_alike)

pub keepalive_again : (s : State) → IsOrdered s → (g src : ℕ) → is_kept_alive s g src ≡ true
    → AgreesBut (touching []) s (with_keepalive s g src)
unfolding with_keepalive is_kept_alive spt_bit
keepalive_again s ordered g src kept = go (row_at s.sources (source_key 0 g src)) refl kept
  where
    go : (o : Option SourceRow) → row_at s.sources (source_key 0 g src) ≡ o
        → option_map_or (λ (r : SourceRow). is_some r.keepalive) o false ≡ true
        → AgreesBut (touching []) s (with_keepalive s g src)
    go None there alive = cc
    go (Some r) there alive =
        sources_alike s ordered (source_key 0 g src) r _ there
        (both_true (ap (λ (b : Bool). same_bool b true) alive)
        (ap (λ (o : Option SourceRow). same_bool r.spt (option_map_or (λ (x : SourceRow). x.spt) o false)) there
        ∙ bool_itself r.spt))
      where
        bool_itself : (b : Bool) → same_bool b b ≡ true
        bool_itself true = refl
        bool_itself false = refl
