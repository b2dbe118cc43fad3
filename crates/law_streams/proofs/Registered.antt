-- A register lies under its source once all that follows of a change is done; interfaces stay those that are
-- configured.
use Rattle.std.{proofs.{Common.{arith, ◌≡◌, ◌∙◌, ℕ, nat_lt, ◌&&◌, ◌||◌, Bool, true, false, cond, List, [], ◌∷◌, ◌++◌, fold, Some, None, is_some, option_map, refl, ap}, lemmas.Bool.{or_left, or_right}}, specs.{List.{AllByRecursion, list_any}, Option.option_map_or}}
use Rattle.pim_types.{specs.{Keys.{group_in, iface_in, iface_key, is_on, same_key, source_in, source_key}, declared.fact.{InterfaceRow.InterfaceRow, Key.Key, RegisterRow.RegisterRow, RegisterState.RegisterState, SourceRow.SourceRow}}, proofs.Keys.{equal_keys, same_key_same}}
use Rattle.pim_model.{specs.{Asserts.{assert_forgotten, without_spt, without_spt_bit}, Clearing.clear, Downstream.is_named, Firing.settled, Messages.Message, Registers.{could_register, settle_registers, settled_register}, Sets.is_kept_alive, State.{State, interfaces_of}, Tables.{Table, change_row, changed_entry, drop_at, has_row, keys_in, put}, Upstream.{TimerChange, moved_join_timer, moved_override_timer, upstream}, Writing.{hellos_paid, write_all}}}
use Rattle.law_settled.{proofs.{ListLaws.{any_more, by_cond, each_append, each_map, each_more}, RowLaws.same_key_swap, SettlingLaws.{kept_by_clearing, kept_by_telling, kept_by_writing}, TableLaws.{any_of_filter_map, row_is_there}}}
use Rattle.law_streams.{proofs.{Counting.own, Covered.named_right, Keyed.{Under, under_at, under_put}, Repeats.{under_more, under_rest}}}

-- the key of a source of the whole router
abbrev pub Own : Key → Type 0
Own k = same_key (source_key 0 (group_in k) (source_in k)) k ≡ true

-- the key of one of so many interfaces
abbrev pub OfIface : ℕ → Key → Type 0
OfIface n k = (same_key (iface_key (iface_in k)) k && nat_lt (iface_in k) n) ≡ true

-- the keepalive timer of its source runs
abbrev pub is_kept : Table SourceRow → Key → Bool
is_kept t k = list_any (λ (e : Key × SourceRow). same_key (source_key 0 (group_in k) (source_in k)) e.0 && is_some (e.1).keepalive) t

-- ---- each register is settled

pub register_own : (s : State) (k : Key) (t : Table RegisterRow) → Own k → Under Own t → Under Own (settled_register s k t)
unfolding settled_register
register_own s k t o f = grind (arith, by_cond, under_put, under_at)

registers_own : (s : State) (ks : List Key) (t : Table RegisterRow) → AllByRecursion Own ks → Under Own t
    → Under Own (fold (λ t k. settled_register s k t) t ks)
registers_own s [] t os f = f
registers_own s (k ∷ ks) t os f = registers_own s ks (settled_register s k t) os.1 (register_own s k t os.0 f)

under_keys : {R : Type 0} (P : Key → Type 0) (t : Table R) → Under P t → AllByRecursion P (keys_in t)
unfolding keys_in
under_keys P t f = each_map (λ e. P e.0) P (λ e. e.0) (λ e h. h) t f

module _ (s : State) where
  abbrev could : Key → Bool
  could k = could_register s (group_in k) (source_in k)

  -- still to be settled, or it could register
  abbrev Waits : List Key → Key → Type 0
  Waits ks k = (is_named ks k || could k) ≡ true

  still_waits : (k : Key) (ks : List Key) (q : Key) (b : Bool) → same_key q k ≡ b → (could k ≡ true) → ((b || is_named ks q) || could q) ≡ true
      → Waits ks q
  still_waits k ks q true e h f = or_right (is_named ks q) (could q) (ap could (equal_keys q k e) ∙ h)
  still_waits k ks q false e h f = f

  left_waits : (k : Key) (ks : List Key) (q : Key) (b : Bool) → b ≡ false → ((b || is_named ks q) || could q) ≡ true → Waits ks q
  left_waits k ks q b e f = grind arith

  one_waits : (k : Key) (ks : List Key) (t : Table RegisterRow) → Under (Waits (k ∷ ks)) t → Under (Waits ks) (settled_register s k t)
  unfolding settled_register drop_at is_named
  one_waits k ks t f = go (could k) refl
    where
      row : RegisterRow
      row = record { state = RegisterState.Join }

      go : (b : Bool) → could k ≡ b → Under (Waits ks) (cond b (cond (has_row t k) t (put t k row)) (drop_at t k))
      go true e =
          let rest : Under (Waits ks) t =
          under_more (Waits (k ∷ ks)) (Waits ks) (λ q h. still_waits k ks q (same_key q k) refl e h) t f in
          by_cond (Under (Waits ks)) (has_row t k) t (put t k row) rest (under_put (Waits ks) t k row (or_right (is_named ks k) (could k) e) rest)
      go false e =
          under_rest (Waits (k ∷ ks)) (Waits ks) (same_key k)
          (λ q h out. left_waits k ks q (same_key q k) (same_key_swap q k ∙ out) h) t f

  all_wait : (ks : List Key) (t : Table RegisterRow) → Under (Waits ks) t → Under (Waits []) (fold (λ t k. settled_register s k t) t ks)
  all_wait [] t f = f
  all_wait (k ∷ ks) t f = all_wait ks (settled_register s k t) (one_waits k ks t f)

  second_of : (a b c : Bool) → (a && b && c) ≡ true → b ≡ true
  second_of a b c e = grind arith

  alive_row : (k : Key) → is_kept_alive s (group_in k) (source_in k) ≡ true → is_kept s.sources k ≡ true
  unfolding is_kept_alive
  alive_row k e = grind (arith, row_is_there, same_key_same)

  could_kept : (k : Key) → Waits [] k → is_kept s.sources k ≡ true
  unfolding is_named could_register
  could_kept k e = alive_row k (second_of _ _ _ e)

  pub registers_kept : Under (λ k. is_kept s.sources k ≡ true) (settle_registers s).registers
  unfolding settle_registers
  registers_kept =
      let ks : List Key = keys_in s.sources ++ keys_in s.registers in
      under_more (Waits []) (λ k. is_kept s.sources k ≡ true) could_kept _
      (all_wait ks s.registers
      (each_more (λ e. is_named (keys_in s.registers) e.0 ≡ true) (λ e. Waits ks e.0)
      (λ e h. or_left (is_named ks e.0) (could e.0) (named_right (keys_in s.sources) (keys_in s.registers) e.0 h)) s.registers
      (own s.registers)))

-- ---- a source whose keepalive timer runs stays without SPTbit

unset_stays : (q k : Key) (x : Key × SourceRow) (b c : Bool) → is_some (x.1).keepalive ≡ c → (same_key q x.0 && c) ≡ true
    → option_map_or (λ (e : Key × SourceRow). same_key q e.0 && is_some (e.1).keepalive)
    (cond b (option_map (λ (r : SourceRow). let p : Key × SourceRow = (x.0, r) in p)
    (cond c (Some (record (x.1) { spt = false })) None)) (Some x)) false ≡ true
unset_stays q k x b c e h = grind arith

still_kept : (k q : Key) (t : Table SourceRow) → is_kept t q ≡ true → is_kept (change_row without_spt k t) q ≡ true
unfolding change_row changed_entry
still_kept k q t e = grind (arith, any_of_filter_map, any_more, unset_stays)

-- ---- all that follows

-- the registers and the sources, and the interfaces
pub record Rests (n : ℕ) (registers : Table RegisterRow) (sources : Table SourceRow) (interfaces : Table InterfaceRow) : Type 0 where
  pub own : Under Own registers
  pub kept : Under (λ k. is_kept sources k ≡ true) registers
  pub of_iface : Under (OfIface n) interfaces

module _ (n : ℕ) where
  abbrev pub IsAtRest : State → Type 0
  IsAtRest s = Rests n s.registers s.sources s.interfaces

  pub paid_of_iface : (i : ℕ) (t : Table InterfaceRow) → Under (OfIface n) t → Under (OfIface n) (hellos_paid i t)
  unfolding hellos_paid
  paid_of_iface i t f =
      each_map (λ e. OfIface n e.0) (λ e. OfIface n e.0) _
      (λ e h. by_cond (λ (p : Key × InterfaceRow). OfIface n p.0) (is_on i e.0) (e.0, record e.1 { is_hello_owed = false }) e h h) t f

  registers_rest : (s : State) → Under Own s.sources → Under Own s.registers → Under (OfIface n) s.interfaces → IsAtRest (settle_registers s)
  unfolding settle_registers
  registers_rest s sources registers f = grind (arith, own, registers_own, each_append, under_keys, registers_kept)

  forgets : (s : State) (k : Key) → IsAtRest s → IsAtRest (assert_forgotten s k)
  unfolding assert_forgotten
  forgets s k f = f

  unsets : (s : State) (k : Key) → IsAtRest s → IsAtRest (without_spt_bit s k)
  unfolding without_spt_bit
  unsets s k f = grind (arith, own, under_more, still_kept)

  joined : (s : State) (k : Key) (change : TimerChange) → IsAtRest s → IsAtRest (moved_join_timer s k change)
  unfolding moved_join_timer
  joined s k change h = h

  overridden : (s : State) (k : Key) (change : TimerChange) → IsAtRest s → IsAtRest (moved_override_timer s k change)
  unfolding moved_override_timer
  overridden s k change h = h

  told : (o a : State) (w : ℕ) → IsAtRest a → IsAtRest (upstream o a w).0
  told o a w f =
      kept_by_telling (λ m. Unit {0}) a w (λ d some. tt) IsAtRest (λ s k change fair h. joined s k change h)
      (λ s k change fair h. overridden s k change h) o f

  writes : (s : State) (messages : List Message) → IsAtRest s → IsAtRest (write_all s messages).0
  unfolding write_all
  writes s messages f = record {
    own = f.own;
    kept = f.kept;
    of_iface = kept_by_writing (Under (OfIface n)) paid_of_iface (interfaces_of s) messages f.of_iface;
  }

  pub settled_rests : (o : State) (change : State × List Message) (w : ℕ) → Under Own (change.0).sources → Under Own (change.0).registers
      → Under (OfIface n) (change.0).interfaces → IsAtRest (settled o change w).0
  unfolding settled
  settled_rests o change w sources registers f =
      let after : State × List Message = clear o change.0 in
      writes (upstream o after.0 w).0 _
      (told o after.0 w (kept_by_clearing IsAtRest forgets unsets o change.0 (registers_rest change.0 sources registers f)))
