-- Registers that are settled after a change: those of sources that aren't touched are settled already.
use Rattle.std.{proofs.Common.{◌≡◌, ◌&&◌, ◌||◌, Bool, true, false, cond, List, [], ◌∷◌, fold, map, filter, refl, sym, ap, ◌∙◌, arith}, specs.{Cmp.{first_so, second_so}, List.list_all}}
use Rattle.pim_types.{specs.{declared.fact.{Key.Key, RegisterRow.RegisterRow}, Keys.{group_in, source_in}}}
use Rattle.pim_model.{specs.{Registers.{could_register, settled_register}, State.State, Tables.{Table, drop_at, has_row, put, rows_where, same_bool}}}
use Rattle.law_settled.{proofs.RowChanges.{dropped_elsewhere, put_elsewhere}}
use Rattle.law_events.{specs.{Locality.{is_register_settled, touching}, Scopes.{only_registered, reads}}, proofs.{Asserts.reads_itself, Registers.{has_registered, nothing_dropped}, SameRows.flags, Touches.touching_is_closed, TouchedClearing.unread}}

module _ (keys : List Key) (o s : State) where
  abbrev touched : Key → Bool
  touched = touching keys

  -- the rows that untouched keys read are those of the opening
  abbrev pub Stays : Table RegisterRow → Type 0
  Stays t = (q : Key) → touched q ≡ false
      → map only_registered (rows_where (reads q) t) ≡ map only_registered (rows_where (reads q) o.registers)

  settled_if : (k : Key) (t : Table RegisterRow) (b c : Bool) → could_register s (group_in k) (source_in k) ≡ b
      → has_row t k ≡ c → b ≡ c → settled_register s k t ≡ t
  unfolding settled_register
  settled_if k t b c e f same = grind (arith, nothing_dropped)

  idle : (k : Key) (t : Table RegisterRow) → Stays t → touched k ≡ false → is_register_settled o k ≡ true
      → could_register s (group_in k) (source_in k) ≡ could_register o (group_in k) (source_in k)
      → settled_register s k t ≡ t
  idle k t stays untouched held same =
      settled_if k t (could_register s (group_in k) (source_in k)) (has_row t k) refl refl
      (same ∙ flags _ _ held
      ∙ sym (has_registered k (reads k) (reads_itself k) o.registers)
      ∙ ap (λ u. has_row u k) (sym (stays k untouched)) ∙ has_registered k (reads k) (reads_itself k) t)

  goes_elsewhere : (k : Key) (t : Table RegisterRow) (sees : Key → Bool) → sees k ≡ false
      → (b c : Bool) (row : RegisterRow)
      → rows_where sees (cond b (cond c t (put t k row)) (drop_at t k)) ≡ rows_where sees t
  goes_elsewhere k t sees e b c row = grind (arith, put_elsewhere, dropped_elsewhere)

  goes_on : (k : Key) (t : Table RegisterRow) → touched k ≡ true → Stays t → Stays (settled_register s k t)
  unfolding settled_register
  goes_on k t is stays q e = grind (arith, goes_elsewhere, unread, touching_is_closed)

  abbrev all_settled : Table RegisterRow → List Key → Table RegisterRow
  all_settled t ks = fold (λ t k. settled_register s k t) t ks

  -- a source that is touched, or is settled at the opening and asked as then
  abbrev pub idles : Key → Bool
  idles k =
      touched k || (is_register_settled o k
      && same_bool (could_register s (group_in k) (source_in k)) (could_register o (group_in k) (source_in k)))

  fold_step : (k : Key) (ks : List Key) (t : Table RegisterRow) (b : Bool) → touched k ≡ b
      → (b || (is_register_settled o k
      && same_bool (could_register s (group_in k) (source_in k)) (could_register o (group_in k) (source_in k)))) ≡ true
      → Stays t → ((u : Table RegisterRow) → Stays u → all_settled u ks ≡ all_settled u (filter touched ks))
      → all_settled (settled_register s k t) ks ≡ all_settled t (cond b (k ∷ filter touched ks) (filter touched ks))
  fold_step k ks t b e f stays ih = grind (arith, goes_on, idle, flags)

  pub settled_of_touched : (ks : List Key) (t : Table RegisterRow) → Stays t → list_all idles ks ≡ true
      → all_settled t ks ≡ all_settled t (filter touched ks)
  settled_of_touched [] t stays e = refl
  settled_of_touched (k ∷ ks) t stays e =
      fold_step k ks t (touched k) refl (first_so (idles k) (list_all idles ks) e) stays
      (λ u stays. settled_of_touched ks u stays (second_so (idles k) (list_all idles ks) e))

  stays_step : (k : Key) (ks : List Key) (t : Table RegisterRow) (b : Bool) → touched k ≡ b → Stays t
      → ((u : Table RegisterRow) → Stays u → Stays (all_settled u (filter touched ks)))
      → Stays (all_settled t (cond b (k ∷ filter touched ks) (filter touched ks)))
  stays_step k ks t b e stays ih = grind (arith, goes_on)

  pub stays_all : (ks : List Key) (t : Table RegisterRow) → Stays t → Stays (all_settled t (filter touched ks))
  stays_all [] t stays = stays
  stays_all (k ∷ ks) t stays = stays_step k ks t (touched k) refl stays (stays_all ks)
