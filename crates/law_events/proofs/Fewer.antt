-- What clearing leaves makes facts of no group and no source that had none.
use Rattle.std.{proofs.{Common.{◌≡◌, ◌||◌, Bool, true, not, cond, List, [], ◌∷◌, ◌++◌, fold, sym, ap, ◌∙◌, arith}, lemmas.{Bool.{or_left, or_right}, List.Folds.list_any-append}}, specs.List.{list_all, list_any}}
use Rattle.pim_types.{specs.declared.fact.{Key.Key, RegisterRow.RegisterRow}}
use Rattle.pim_model.{specs.{Asserts.{assert_forgotten, without_spt, without_spt_bit}, Clearing.{ClearAssert, ClearSptBit, Cleared, clear, clear_all, clearable_count, cleared, to_clear}, Registers.{settle_registers, settled_register}, State.State, Tables.{Table, change_row, drop_at, keys_in, put}, Upstream.fact_keys}}
use Rattle.law_settled.{proofs.{FewerFacts.{IsFewer, fewer_both, row_changed, row_without, table_fewer}, ListLaws.either, Parts.{Asserts, Sources}, RowLaws.any_of_put, TableLaws.any_of_map, TurnLaws.kept_to_the_end}}
use Rattle.law_events.{proofs.{Reached.all_of_none, Told.none_fails}}

-- where no more fails, all pass
pub all_stay : {X : Type 0} (p : X → Bool) (xs ys : List X)
    → (list_any (λ x. not (p x)) ys ≡ true → list_any (λ x. not (p x)) xs ≡ true) → list_all p xs ≡ true
    → list_all p ys ≡ true
all_stay p xs ys less all = grind (arith, all_of_none, none_fails)

-- ---- registers

module _ (s : State) (p : Key → Bool) where
  abbrev some : List Key → Bool
  some ks = list_any p ks

  put_key : (k : Key) (row : RegisterRow) (u : Table RegisterRow) → some (keys_in (put u k row)) ≡ true
      → (p k || some (keys_in u)) ≡ true
  unfolding keys_in
  put_key k row u e =
      ap (λ b. p k || b) (any_of_map p (λ x. x.0) u)
      ∙ any_of_put k row (λ x. p x.0) u (sym (any_of_map p (λ x. x.0) (put u k row)) ∙ e)

  one_settled : (k : Key) (u : Table RegisterRow) (b d : Bool) (row : RegisterRow)
      → some (keys_in (cond b (cond d u (put u k row)) (drop_at u k))) ≡ true → (p k || some (keys_in u)) ≡ true
  one_settled k u b d row e = grind (arith, or_right, put_key, row_without)

  all_settled : (ks : List Key) (u : Table RegisterRow)
      → some (keys_in (fold (λ t k. settled_register s k t) u ks)) ≡ true → (some ks || some (keys_in u)) ≡ true
  unfolding settled_register
  all_settled [] u e = e
  all_settled (k ∷ ks) u e = grind (arith, all_settled ks (settled_register s k u) e, one_settled)

  -- the facts but sources and registers
  abbrev pub others : List Key
  others =
      keys_in s.group_records ++ keys_in s.source_records ++ keys_in s.group_repeats ++ keys_in s.source_repeats
      ++ keys_in s.sendings ++ keys_in s.downstream ++ keys_in s.asserts ++ keys_in s.join_timers
      ++ keys_in s.override_timers

  of_three : (xs ss rs us : List Key) → ((some ss || some rs) ≡ true → some us ≡ true)
      → some (xs ++ ss ++ rs) ≡ true → (some xs ≡ true → some us ≡ true) → some us ≡ true
  of_three xs ss rs us later e first = grind (arith, either, or_left, list_any-append, or_right)

  pub in_three : (xs ss rs : List Key) → (some ss || some rs) ≡ true → some (xs ++ ss ++ rs) ≡ true
  in_three xs ss rs e = grind (arith, list_any-append, either, or_left, or_right)

  in_first : (xs ss rs : List Key) → some xs ≡ true → some (xs ++ ss ++ rs) ≡ true
  in_first xs ss rs e = grind (arith, list_any-append, or_left)

  registers_passed : some (fact_keys (settle_registers s)) ≡ true → some (fact_keys s) ≡ true
  unfolding fact_keys settle_registers
  registers_passed e =
      let ss : List Key = keys_in s.sources in
      let rs : List Key = keys_in s.registers in
      let ks : List Key = keys_in (fold (λ t k. settled_register s k t) s.registers (ss ++ rs)) in
      of_three others ss ks (others ++ ss ++ rs)
      (λ f. in_three others ss rs
      (either (some ss) (some ks) (or_left (some ss) (some rs))
      (λ h. either (some (ss ++ rs)) (some rs) (λ x. sym (list_any-append p ss rs) ∙ x)
      (or_right (some ss) (some rs)) (all_settled (ss ++ rs) s.registers h)) f))
      e (in_first others ss rs)

registers_fewer : (s : State) → IsFewer s (settle_registers s)
registers_fewer s = record { passed = registers_passed s }

-- ---- what goes

one_gone : (s : State) (d : Cleared) → IsFewer s (cleared s d).0
unfolding cleared assert_forgotten without_spt_bit
one_gone s (ClearAssert k r) = table_fewer Asserts s (drop_at s.asserts k) (row_without k s.asserts)
one_gone s (ClearSptBit k) =
    table_fewer Sources s (change_row without_spt k s.sources) (row_changed without_spt k s.sources)

pub clearing_fewer : (o s : State) → IsFewer s (clear o s).0
unfolding clear clear_all
clearing_fewer o s =
    kept_to_the_end (to_clear o) cleared (IsFewer s)
    (λ t d kept e. fewer_both s t (cleared t d).0 kept (one_gone t d))
    (clearable_count (settle_registers s)) (settle_registers s) (registers_fewer s)
