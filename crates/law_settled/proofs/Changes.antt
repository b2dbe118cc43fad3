-- An event's own change leaves a fine state, and so does what follows from it.
use Rattle.std.proofs.{Common.{ℕ, ◌+◌, ◌==◌, Bool, true, false, arith, ◌∙◌, ◌≡◌, refl, ap, not, ◌&&◌}, lemmas.Bool.{or_left, or_right}}
use Rattle.pim_types.{proofs.Keys.same_key_same, specs.{declared.{config.RpTable.RpTable, fact.InterfaceRow.InterfaceRow}, Keys.{iface_key, is_on, iface_in, same_key}}}
use Rattle.pim_wire.{specs.{RegisterParts.{is_null, registered_group, registered_source}, Values.Register}}
use Rattle.pim_model.{specs.{declared.accepted.Accepted.Accepted, Forwarding.{Forwarded, register_received}, State.{State, is_up}, Step.{Change, change, decapsulated, done, iface_down, iface_up, rps_replaced}, Tables.{delay_in, drop_where, put, has_row}}}
use Rattle.law_settled.{proofs.{RowLaws.{has_row_put, has_row_dropped}, Parts.{Interfaces, JoinTimers, OverrideTimers, Part, Registers, Sources, rows}, Asserts.assert_fine, Forwarding.{after_rps_fine, forwarded_fine, register_received_fine, register_stop_fine}, FineTables.{fine_put, fine_dropped, fine_more}, Hellos.{hello_fine, some_delay}, Downstream.to_me_fine, Judgements.IsHere, LateEnds.late_by, Querier.{querier_up_fine, query_fine, report_fine}, FineStates.{Lateness, Good, IsFine, with_ranges, rows_fine, with_routes, Anyhow, FineAt, good_if}, Upstream.settled_fine, SeenMessages.seen_fine}}

module _ (m : ℕ) (late up : ℕ → Bool) (lateness : Lateness m late) (s : State) (f : IsFine m late up s) (w : ℕ) where
  -- ---- interfaces

  abbrev with_iface : ℕ → InterfaceRow → State
  with_iface i row = record s { interfaces = put s.interfaces (iface_key i) row }

  still_up : (i : ℕ) (row : InterfaceRow) (j : ℕ) → up j ≡ true → is_up (with_iface i row) j ≡ true
  still_up i row j e = grind (arith, has_row_put, or_right)

  up_row_fine : (i : ℕ) (row : InterfaceRow) → late row.hello_end ≡ true
      → IsFine m late (is_up (with_iface i row)) (with_iface i row)
  up_row_fine i row h = record { firm = f.firm; present = f.present; ups = λ j. refl; tables = go }
    where
      go : (p : Part) → FineAt m late (is_up (with_iface i row)) p (with_iface i row)
      go Interfaces = fine_put (Good late up Interfaces) s.interfaces (iface_key i) row h (f.tables Interfaces)
      go p =
          fine_more (Good late up p) (Good late (is_up (with_iface i row)) p)
          (λ e. good_if late late up (is_up (with_iface i row)) (λ x h. h) p e (still_up i row (iface_in e.0)))
          (rows p s) (f.tables p)

  up_fine : (i : ℕ) → Anyhow m late (iface_up s w i).0
  unfolding iface_up
  up_fine i =
      let row : InterfaceRow =
      record { generation = w; hello_end = s.present + delay_in 1 5000 w; is_hello_owed = true } in
      record {
        ups = is_up (with_iface i row);
        fine = querier_up_fine m late (is_up (with_iface i row)) lateness (with_iface i row) i
            (has_row_put (iface_key i) (iface_key i) row s.interfaces
            ∙ or_left (same_key (iface_key i) (iface_key i)) (is_up s i) (same_key_same (iface_key i)))
            (up_row_fine i row (late_by m late lateness s.present (delay_in 1 5000 w) f.present
            (some_delay m late up lateness 1 5000 w (omega arith))));
      }

  abbrev Left : ℕ → ℕ → Bool
  Left i = is_up (record s { interfaces = drop_where (is_on i) s.interfaces })

  left : (i j : ℕ) → up j ≡ true → (j == i) ≡ false → Left i j ≡ true
  left i j e off =
      has_row_dropped (iface_key j) (is_on i) s.interfaces
      ∙ (ap (λ b. not b && has_row s.interfaces (iface_key j)) off ∙ (f.ups j ∙ e))

  down_fine : (i : ℕ) → Anyhow m late (iface_down s i)
  unfolding iface_down
  down_fine i =
      record { ups = Left i; fine = record { firm = f.firm; present = f.present; ups = λ j. refl; tables = go } }
    where
      go : (part : Part) → FineAt m late (Left i) part (record s {
        interfaces = drop_where (is_on i) s.interfaces;
        neighbours = drop_where (is_on i) s.neighbours;
        queriers = drop_where (is_on i) s.queriers;
        group_records = drop_where (is_on i) s.group_records;
        source_records = drop_where (is_on i) s.source_records;
        group_repeats = drop_where (is_on i) s.group_repeats;
        source_repeats = drop_where (is_on i) s.source_repeats;
        sendings = drop_where (is_on i) s.sendings;
        downstream = drop_where (is_on i) s.downstream;
        asserts = drop_where (is_on i) s.asserts;
      })
      go JoinTimers = f.tables JoinTimers
      go OverrideTimers = f.tables OverrideTimers
      go Sources = f.tables Sources
      go Registers = f.tables Registers
      go p =
          fine_dropped (Good late up p) (Good late (Left i) p) (is_on i)
          (λ e g off. good_if late late up (Left i) (λ x h. h) p e (λ h. left i (iface_in e.0) h off) g) (rows p s)
          (f.tables p)

  -- ---- RP ranges and Registers

  rps_fine : (rps : RpTable) → IsFine m late up (rps_replaced s rps)
  unfolding rps_replaced
  rps_fine rps =
      let after : State = record s { ranges = rps } in
      let g : IsFine m late up after = with_ranges m late up s f rps in
      rows_fine m late up Registers tt after g _ (after_rps_fine m late up lateness s after g)

  decapsulated_fine : (r : Register) (p : Forwarded) → IsFine m late up p.state
      → IsFine m late up (decapsulated r p).state
  decapsulated_fine r p g = grind arith

  -- ---- what was accepted

  as_up : (t : State) → IsFine m late up t → Anyhow m late t
  as_up t g = record { ups = up; fine = g }

  pub change_fine : (a : Accepted) → IsHere up a → Anyhow m late (change s w a).state
  unfolding change
  change_fine (Accepted.Advance moment) none = absurd none
  change_fine (Accepted.Up i) here = up_fine i.number
  change_fine (Accepted.Down i) here = down_fine i.number
  change_fine (Accepted.Routes routes) here = as_up _ (with_routes m late up s f routes)
  change_fine (Accepted.Rps ranges) here = as_up _ (rps_fine ranges)
  change_fine (Accepted.Hello i from h) here = as_up _ (hello_fine m late up lateness s i.number from.bits h w here f)
  change_fine (Accepted.JoinPruneToMe i message) here =
      as_up _ (to_me_fine m late up lateness s f i.number message here)
  change_fine (Accepted.JoinPruneSeen i message) here = as_up _ (seen_fine m late up lateness s w i.number message f)
  change_fine (Accepted.Assert i from a) here = as_up _ (assert_fine m late up lateness s i.number from.bits a here f)
  change_fine (Accepted.Query i from q) here = as_up _ (query_fine m late up lateness s i.number from.bits q here f)
  change_fine (Accepted.Report i records) here = as_up _ (report_fine m late up lateness s i.number records here f)
  change_fine (Accepted.Data i p) here =
      as_up _ (forwarded_fine m late up lateness s p.destination p.source i.number here f)
  change_fine (Accepted.Register p r) here =
      as_up _
      (decapsulated_fine r (register_received s p (registered_group r) (registered_source r) (is_null r))
      (register_received_fine m late up lateness s p (registered_group r) (registered_source r) (is_null r) f))
  change_fine (Accepted.RegisterStop from r) here =
      as_up _ (register_stop_fine m late up lateness s w r.group.bits r.source.bits f)

  -- with what follows
  pub done_fine : (c : Change) → Anyhow m late c.state → Anyhow m late (done s w c).state
  unfolding done
  done_fine c g = record { ups = g.ups; fine = settled_fine m late g.ups lateness s (c.state, c.messages) w g.fine }
