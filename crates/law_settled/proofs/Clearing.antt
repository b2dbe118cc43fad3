-- What follows from a change leaves a fine state: the registers, what is cleared, the packets.
use Rattle.std.{proofs.{Common.{◌≡◌, ℕ, Bool, true, false, cond, List, ◌++◌, fold, Some, refl, arith}, lemmas.Bool.or_left}}
use Rattle.pim_types.{specs.{declared.fact.{InterfaceRow.InterfaceRow, Key.Key, RegisterRow.RegisterRow, SourceRow.SourceRow}, Keys.is_on}}
use Rattle.pim_model.{specs.{Asserts.{assert_forgotten, without_spt, without_spt_bit}, Clearing.clear, Messages.Message, Registers.{settle_register, settle_registers, settled_register}, State.{State, interfaces_of}, Tables.{Table, change_row, has_row, keys_in}, Writing.{all_written, hellos_paid, write_all}}}
use Rattle.law_settled.{proofs.{RowLaws.has_row_map, SettlingLaws.{kept_by_clearing, kept_by_writing}, ListLaws.by_cond, TurnLaws.kept_by_fold, Parts.{Asserts, Interfaces, Registers, Sources}, FineTables.{Fine, fine_put, fine_drop_at, fine_change_row, fine_map}, FineStates.{Runs, Good, IsFine, is_caused, rows_fine, with_interfaces, without_row}}}

module _ (m : ℕ) (late up : ℕ → Bool) where
  -- ---- the registers

  register_fine : (s : State) (k : Key) (t : Table RegisterRow) → Fine (Good late up Registers) t
      → Fine (Good late up Registers) (settled_register s k t)
  unfolding settled_register
  register_fine s k t f = grind (arith, by_cond, fine_put, fine_drop_at)

  pub settle_register_fine : (s : State) (k : Key) → IsFine m late up s → IsFine m late up (settle_register s k)
  unfolding settle_register
  settle_register_fine s k f =
      rows_fine m late up Registers tt s f (settled_register s k s.registers)
      (register_fine s k s.registers (f.tables Registers))

  pub settle_registers_fine : (s : State) → IsFine m late up s → IsFine m late up (settle_registers s)
  unfolding settle_registers
  settle_registers_fine s f =
      rows_fine m late up Registers tt s f (fold (λ t k. settled_register s k t) s.registers
      (keys_in s.sources ++ keys_in s.registers))
      (kept_by_fold (λ t k. settled_register s k t) (Fine (Good late up Registers)) (λ t k g. register_fine s k t g)
      (keys_in s.sources ++ keys_in s.registers) s.registers (f.tables Registers))

  -- ---- clearing

  spt_row : (r r' : SourceRow) → without_spt r ≡ Some r' → Runs late r.keepalive
      → Runs late r'.keepalive × (is_caused r' ≡ true)
  spt_row r r' e f = grind (arith, is_caused, or_left)

  pub assert_forgotten_fine : (s : State) (k : Key) → IsFine m late up s → IsFine m late up (assert_forgotten s k)
  unfolding assert_forgotten
  assert_forgotten_fine s k f =
      without_row m late up Asserts tt s f k

  without_spt_fine : (s : State) (k : Key) → IsFine m late up s → IsFine m late up (without_spt_bit s k)
  unfolding without_spt_bit
  without_spt_fine s k f =
      rows_fine m late up Sources tt s f (change_row without_spt k s.sources)
      (fine_change_row (Good late up Sources) without_spt k (λ q r r' same e g. spt_row r r' e g.0) s.sources
      (f.tables Sources))

  pub clear_fine : (o s : State) → IsFine m late up s → IsFine m late up (clear o s).0
  clear_fine o s f =
      kept_by_clearing (IsFine m late up) assert_forgotten_fine without_spt_fine o s (settle_registers_fine s f)

  -- ---- the packets

  paid : ℕ → Key × InterfaceRow → Key × InterfaceRow
  paid i e = cond (is_on i e.0) (let p : Key × InterfaceRow = (e.0, record (e.1) { is_hello_owed = false }) in p) e

  paid_key : (i : ℕ) (e : Key × InterfaceRow) → (paid i e).0 ≡ e.0
  unfolding paid
  paid_key i e = by_cond (λ (p : Key × InterfaceRow). p.0 ≡ e.0) (is_on i e.0) _ e refl refl

  paid_good : (i : ℕ) (e : Key × InterfaceRow) → Good late up Interfaces e → Good late up Interfaces (paid i e)
  unfolding paid
  paid_good i e g = by_cond (Good late up Interfaces) (is_on i e.0) (e.0, record (e.1) { is_hello_owed = false }) e g g

  -- the rows of the same interfaces, as fine
  record AreFine (old rows : Table InterfaceRow) : Type 0 where
    same : (k : Key) → has_row rows k ≡ has_row old k
    fine : Fine (Good late up Interfaces) rows

  paid_fine : (old : Table InterfaceRow) (i : ℕ) (rows : Table InterfaceRow) → AreFine old rows
      → AreFine old (hellos_paid i rows)
  unfolding hellos_paid paid
  paid_fine old i rows f = grind (arith, has_row_map, paid, paid_key, fine_map, paid_good)

  pub writing_fine : (s : State) (messages : List Message) → IsFine m late up s
      → IsFine m late up (write_all s messages).0
  unfolding write_all
  writing_fine s messages f =
      let g : AreFine s.interfaces (all_written (interfaces_of s) messages).0.rows =
      kept_by_writing (AreFine s.interfaces) (paid_fine s.interfaces) (interfaces_of s) messages
      (record { same = λ k. refl; fine = f.tables Interfaces }) in
      with_interfaces m late up s f _ g.same g.fine
