-- Where all registers were settled at the opening, those of touched sources alone are to be settled.
use Rattle.std.{proofs.{Common.{◌≡◌, ◌||◌, Bool, true, false, not, cond, List, [], ◌∷◌, ◌++◌, fold, map, Option, Some, is_some, refl, sym, ap, ◌∙◌, arith}, lemmas.List.Folds.{list_all-append, list_all-map}}, specs.{Cmp.{first_so, second_so, Derive.both_true}, List.{filter, list_all}}}
use Rattle.pim_types.{specs.{declared.fact.{Key.Key, RegisterRow.RegisterRow}, Keys.{group_in, source_in}}}
use Rattle.pim_model.{specs.{Registers.{could_register, settle_registers, settled_register}, State.State, Tables.{Table, drop_at, drop_where, has_row, keys_in, put, row_at, rows_where, same_bool}}}
use Rattle.law_events.{specs.{Locality.{AgreesBut, IsClosed, IsQuiet, is_register_settled, touched_registers}, Scopes.{only_registered, reads, scope}}, proofs.{Asserts.{could_register_here, reads_itself}, TouchedClearing.unread, Clearing.all_agreed, Rows.has_row_in_scope, SourceMacros.{cut_kept, cut_register}, UntoldKeys.same_by_scope}}
use Rattle.law_settled.{proofs.{RowChanges.{dropped_elsewhere, put_elsewhere}, RowLaws.has_row_map}}

-- ---- lists

pub all_keys : {R : Type 0} (q : Key → Bool) (t : Table R) → list_all q (keys_in t) ≡ list_all (λ e. q e.0) t
unfolding keys_in
all_keys q t = list_all-map q (λ e. e.0) t

-- nothing goes where nothing is
nothing_step : {R : Type 0} (x : Key × R) (xs ys : Table R) (b : Bool) (o : Option R)
    → is_some (cond b (Some x.1) o) ≡ false
    → (is_some o ≡ false → ys ≡ xs) → cond (not b) (x ∷ ys) ys ≡ x ∷ xs
nothing_step x xs ys b o e ih = grind arith

pub nothing_dropped : {R : Type 0} (k : Key) (t : Table R) → has_row t k ≡ false → drop_at t k ≡ t
unfolding has_row row_at drop_at drop_where
nothing_dropped k [] e = refl
nothing_dropped k (x ∷ xs) e = grind (arith, nothing_dropped k xs, nothing_step)

bools_same : (b c : Bool) → same_bool b c ≡ true → b ≡ c
bools_same b c e = grind arith

-- whether there is a row, in the rows that are seen, cut down
pub has_registered : (k : Key) (sees : Key → Bool) → sees k ≡ true → (t : Table RegisterRow)
    → has_row (map only_registered (rows_where sees t)) k ≡ has_row t k
has_registered k sees seen t = grind (arith, has_row_map, has_row_in_scope)

module _ (touches : Key → Bool) (closed : IsClosed touches) (o s : State) (agree : AgreesBut touches o s) where
  -- the rows that untouched keys read are those of the opening
  abbrev Stays : Table RegisterRow → Type 0
  Stays t = (q : Key) → touches q ≡ false
      → map only_registered (rows_where (reads q) t) ≡ map only_registered (rows_where (reads q) o.registers)

  settled_if : (k : Key) (t : Table RegisterRow) (b c : Bool) → could_register s (group_in k) (source_in k) ≡ b
      → has_row t k ≡ c → b ≡ c
      → settled_register s k t ≡ t
  unfolding settled_register
  settled_if k t b c e f same = grind (arith, nothing_dropped)

  idle : (k : Key) (t : Table RegisterRow) → Stays t → touches k ≡ false
      → is_register_settled o k ≡ true
      → settled_register s k t ≡ t
  idle k t stays untouched held =
      settled_if k t (could_register s (group_in k) (source_in k)) (has_row t k) refl refl
      (sym (same_by_scope k (λ x. could_register x (group_in k) (source_in k)) (λ x. could_register_here k x) o s
      (agree k untouched))
      ∙ (bools_same _ _ held
      ∙ (sym (has_registered k (reads k) (reads_itself k) o.registers)
      ∙ (ap (λ u. has_row u k) (sym (stays k untouched)) ∙ has_registered k (reads k) (reads_itself k) t))))

  goes_elsewhere : (k : Key) (t : Table RegisterRow) (sees : Key → Bool) → sees k ≡ false
      → (b c : Bool) (row : RegisterRow)
      → rows_where sees (cond b (cond c t (put t k row)) (drop_at t k)) ≡ rows_where sees t
  goes_elsewhere k t sees e b c row = grind (arith, put_elsewhere, dropped_elsewhere)

  goes_on : (k : Key) (t : Table RegisterRow) → touches k ≡ true → Stays t
      → Stays (settled_register s k t)
  unfolding settled_register
  goes_on k t is stays q e = grind (arith, goes_elsewhere, unread)

  abbrev all_settled : Table RegisterRow → List Key → Table RegisterRow
  all_settled t ks = fold (λ t k. settled_register s k t) t ks

  abbrev is_touched : Key → Bool
  is_touched k = touches k

  fold_step : (k : Key) (ks : List Key) (t : Table RegisterRow) (b : Bool) → is_touched k ≡ b
      → (b || is_register_settled o k) ≡ true → Stays t
      → ((u : Table RegisterRow) → Stays u → all_settled u ks ≡ all_settled u (filter is_touched ks))
      → all_settled (settled_register s k t) ks ≡ all_settled t
      (cond b (k ∷ filter is_touched ks) (filter is_touched ks))
  fold_step k ks t b e f stays ih = grind (arith, goes_on, idle)

  settled_of_touched : (ks : List Key) (t : Table RegisterRow) → Stays t
      → list_all (λ k. is_touched k || is_register_settled o k) ks ≡ true
      → all_settled t ks ≡ all_settled t (filter is_touched ks)
  settled_of_touched [] t stays e = refl
  settled_of_touched (k ∷ ks) t stays e =
      fold_step k ks t (is_touched k) refl
      (first_so (is_touched k || is_register_settled o k) (list_all (λ k. is_touched k || is_register_settled o k) ks)
      e) stays
      (λ u stays. settled_of_touched ks u stays
      (second_so (is_touched k || is_register_settled o k) (list_all (λ k. is_touched k || is_register_settled o k) ks)
      e))

  stays_step : (k : Key) (ks : List Key) (t : Table RegisterRow) (b : Bool) → is_touched k ≡ b → Stays t
      → ((u : Table RegisterRow) → Stays u → Stays (all_settled u (filter is_touched ks)))
      → Stays (all_settled t (cond b (k ∷ filter is_touched ks) (filter is_touched ks)))
  stays_step k ks t b e stays ih = grind (arith, goes_on)

  stays_all : (ks : List Key) (t : Table RegisterRow) → Stays t → Stays (all_settled t (filter is_touched ks))
  stays_all [] t stays = stays
  stays_all (k ∷ ks) t stays = stays_step k ks t (is_touched k) refl stays (stays_all ks)

  same_registers : Stays s.registers
  unfolding scope
  same_registers h e = sym (ap (λ (t : State). t.registers) (agree h e))

  -- the state after settling agrees as well
  pub registers_agree : AgreesBut touches o (touched_registers touches s)
  unfolding touched_registers scope
  registers_agree h e =
      agree h e
      ∙ (λ j. record (scope (reads h) s) {
        registers = (same_registers h e ∙ sym
            (stays_all (keys_in s.sources ++ keys_in s.registers) s.registers same_registers h e)) j;
      })

pub registers_of_touched : (touches : Key → Bool) → IsClosed touches → (o : State) → IsQuiet o → (s : State)
    → AgreesBut touches o s → settle_registers s ≡ touched_registers touches s
unfolding settle_registers touched_registers scope
registers_of_touched touches closed o quiet s agree = λ j. record s {
  registers = settled_of_touched touches closed o s agree (keys_in s.sources ++ keys_in s.registers) s.registers
      (same_registers touches closed o s agree)
      (list_all-append (λ k. touches k || is_register_settled o k) (keys_in s.sources) (keys_in s.registers)
      ∙ both_true
      (all_keys (λ k. touches k || is_register_settled o k) s.sources
      ∙ all_agreed touches cut_kept (λ e. is_register_settled o e.0) (λ e. is_register_settled o e.0) (λ e. refl)
      (λ e f g. g) o.sources s.sources
      (λ h e. ap (λ (t : State). t.sources) (agree h e)) quiet.sources_settled)
      (all_keys (λ k. touches k || is_register_settled o k) s.registers
      ∙ all_agreed touches cut_register (λ e. is_register_settled o e.0) (λ e. is_register_settled o e.0) (λ e. refl)
      (λ e f g. g) o.registers s.registers (λ h e. ap (λ (t : State). t.registers) (agree h e)) quiet.registers_settled)) j;
}
