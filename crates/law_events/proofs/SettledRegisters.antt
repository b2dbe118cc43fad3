-- After settling all registers are settled.
use Rattle.std.{proofs.{Common.{◌≡◌, ◌||◌, ◌&&◌, ℕ, Bool, true, false, cond, List, [], ◌∷◌, ◌++◌, fold, Option, Some, None, option_map, is_some, refl, sym, ap, ◌∙◌, arith}, lemmas.{List.Folds.list_all-append, Bool.{or_left, or_right}, Grind.common_steps}}, specs.{Cmp.{first_so, second_so, Derive.both_true}, List.{cons_option, list_all, list_any}, Map.lookup, Option.option_map_or, BTreeMap.is_at}}
use Rattle.pim_types.{specs.{declared.fact.{Key.Key, RegisterRow.RegisterRow, RegisterState.RegisterState, SourceRow.SourceRow}, Keys.{group_in, key_cmp, same_key, source_in, source_key}}, proofs.Keys.{equal_keys, same_key_same}}
use Rattle.pim_model.{specs.{Asserts.{assert_forgotten, without_spt, without_spt_bit}, Clearing.{Cleared, ClearAssert, ClearSptBit, clear, clear_all, clearable_count, cleared, to_clear}, Firing.settled, Messages.Message, Neighbours.is_dr, Registers.{could_register, has_other_rp, settle_registers, settled_register}, Sets.is_kept_alive, State.State, Tables.{Table, change_row, changed_entry, drop_at, drop_where, has_row, keys_in, put, row_at, same_bool}, Unicast.{route, rp_of}, Upstream.upstream}}
use Rattle.law_settled.{proofs.{ListLaws.{all_more, all_of_filter, each_filter_map, each_of_list, list_of_each}, RowLaws.{has_row_put, has_row_without, each_put, still_absent, changed_key}, ClearingLaws.nothing_to_clear, TurnLaws.kept_to_the_end}}
use Rattle.law_events.{specs.Locality.{touching, AreOnce, IsQuiet, is_register_settled}, proofs.{Registers.all_keys, QuietStates.{cleared_is_clear, frame_packets, frame_upstream, quiet_goes_on}, Touches.agrees_then}}

-- ---- a register settled is where it can be, and the others stay

module _ (s : State) where
  abbrev could : Key → Bool
  could k = could_register s (group_in k) (source_in k)

  settled_step : (k q : Key) (t : Table RegisterRow) (row : RegisterRow) (b c d : Bool) → has_row t k ≡ c
      → same_key q k ≡ d
      → has_row (cond b (cond c t (put t k row)) (drop_at t k)) q ≡ cond d b (has_row t q)
  settled_step k q t row b c d e f = grind (arith, equal_keys, has_row_put, has_row_without)

  settled_has : (k q : Key) (t : Table RegisterRow)
      → has_row (settled_register s k t) q ≡ cond (same_key q k) (could k) (has_row t q)
  unfolding settled_register
  settled_has k q t = grind (arith, settled_step)

  abbrev IsRight : Table RegisterRow → Key → Type 0
  IsRight t q = has_row t q ≡ could q

  stays_right : (k q : Key) (t : Table RegisterRow) (d : Bool) → same_key q k ≡ d → (d ≡ false → IsRight t q)
      → IsRight (settled_register s k t) q
  stays_right k q t true f right =
      settled_has k q t ∙ (rw f (sym (ap could (equal_keys q k f))))
  stays_right k q t false f right = settled_has k q t ∙ (rw f (right refl))

  abbrev all_settled : Table RegisterRow → List Key → Table RegisterRow
  all_settled t ks = fold (λ t k. settled_register s k t) t ks

  right_to_the_end : (ks : List Key) (q : Key) (t : Table RegisterRow) → IsRight t q → IsRight (all_settled t ks) q
  right_to_the_end [] q t r = r
  right_to_the_end (k ∷ ks) q t r =
      cc (right_to_the_end ks q (settled_register s k t) (stays_right k q t (same_key q k) refl (λ e. r)))

  named_step : (k : Key) (ks : List Key) (q : Key) (t : Table RegisterRow) (d : Bool) → same_key q k ≡ d
      → (d || list_any (λ x. same_key q x) ks) ≡ true
      → (list_any (λ x. same_key q x) ks ≡ true → IsRight (all_settled (settled_register s k t) ks) q)
      → IsRight (all_settled (settled_register s k t) ks) q
  named_step k ks q t d f e ih = grind (arith, right_to_the_end, stays_right)

  named_is_right : (ks : List Key) (q : Key) (t : Table RegisterRow) → list_any (λ x. same_key q x) ks ≡ true
      → IsRight (all_settled t ks) q
  named_is_right [] q t e = cc
  named_is_right (k ∷ ks) q t e = grind (arith, named_is_right ks q (settled_register s k t), named_step)

-- ---- all keys of the table are named

all_members : (good : Key → Bool) (ks : List Key) → ((k : Key) → list_any (λ x. same_key k x) ks ≡ true → good k ≡ true)
    → list_all good ks ≡ true
all_members good [] f = refl
all_members good (k ∷ ks) f =
    both_true (f k (or_left (same_key k k) (list_any (λ x. same_key k x) ks) (same_key_same k)))
    (all_members good ks (λ q e. f q (or_right (same_key q k) (list_any (λ x. same_key q x) ks) e)))

module _ (good : Key → Bool) where
  all_put : {R : Type 0} (k : Key) (r : R) (t : Table R) → good k ≡ true → list_all (λ e. good e.0) t ≡ true
      → list_all (λ e. good e.0) (put t k r) ≡ true
  all_put k r t here e = grind (arith, list_of_each, each_put, each_of_list)

  all_one : (s : State) (k : Key) (t : Table RegisterRow) (b c : Bool) (row : RegisterRow) → good k ≡ true
      → list_all (λ e. good e.0) t ≡ true
      → list_all (λ e. good e.0) (cond b (cond c t (put t k row)) (drop_at t k)) ≡ true
  unfolding drop_at drop_where
  all_one s k t b c row g e = grind (arith, all_put, all_of_filter)

  all_in_fold : (s : State) (ks : List Key) (t : Table RegisterRow) → list_all good ks ≡ true
      → list_all (λ e. good e.0) t ≡ true
      → list_all (λ e. good e.0) (fold (λ t k. settled_register s k t) t ks) ≡ true
  unfolding settled_register
  all_in_fold s [] t g e = e
  all_in_fold s (k ∷ ks) t g e =
      all_in_fold s ks (settled_register s k t) (second_so (good k) (list_all good ks) g)
      (all_one s k t (could_register s (group_in k) (source_in k)) (has_row t k) (record { state = RegisterState.Join })
      (first_so (good k) (list_all good ks) g) e)

record AreSettled (s : State) : Type 0 where
  sources : list_all (λ e. is_register_settled s e.0) s.sources ≡ true
  registers : list_all (λ e. is_register_settled s e.0) s.registers ≡ true
  once : AreOnce s.sources

same_bools : (b c : Bool) → c ≡ b → same_bool b c ≡ true
same_bools b c e = grind arith

registers_are_settled : (s : State) → AreOnce s.sources → AreSettled (settle_registers s)
unfolding settle_registers could_register route rp_of has_other_rp is_kept_alive is_dr
registers_are_settled s once =
    let ks : List Key = keys_in s.sources ++ keys_in s.registers in
    let all : Table RegisterRow = fold (λ t k. settled_register s k t) s.registers ks in
    let right : Key → Bool = λ k. same_bool (could_register s (group_in k) (source_in k)) (has_row all k) in
    let good : list_all right ks ≡ true =
    all_members right ks (λ k e. same_bools (could_register s (group_in k) (source_in k)) (has_row all k)
    (named_is_right s ks k s.registers e)) in
    let parts : (list_all right (keys_in s.sources) && list_all right (keys_in s.registers)) ≡ true =
    sym (list_all-append right (keys_in s.sources) (keys_in s.registers)) ∙ good in
    record {
      sources = sym (all_keys right s.sources) ∙ first_so (list_all right (keys_in s.sources)) _ parts;
      registers = all_in_fold right s ks s.registers good
          (sym (all_keys right s.registers) ∙ second_so (list_all right (keys_in s.sources)) _ parts);
      once = once;
    }

-- ---- clearing keeps them settled

abbrev changes : Key → Table SourceRow → Table SourceRow
changes k t = change_row without_spt k t

module _ (k : Key) where
  once_step : (x : Key × SourceRow) (ys : Table SourceRow) (o : Option SourceRow) (b : Bool) → has_row ys x.0 ≡ false
      → AreOnce ys
      → AreOnce (cons_option (cond b (option_map (λ (r : SourceRow). let p : Key × SourceRow = (x.0, r) in p) o)
      (Some x)) ys)
  once_step x ys o b e once = grind arith

  still_once : (t : Table SourceRow) → AreOnce t → AreOnce (changes k t)
  unfolding change_row changed_entry
  still_once [] once = tt
  still_once (x ∷ xs) once = grind (arith, still_once xs once.1, once_step, still_absent)

  -- a keepalive timer runs as before
  abbrev keeps_alive : Option SourceRow → Bool
  keeps_alive o = option_map_or (λ (r : SourceRow). is_some r.keepalive) o false

  none_alive : (o : Option SourceRow) → is_some o ≡ false → keeps_alive o ≡ false
  none_alive o e = grind arith

  alive_step : (q : Key) (x : Key × SourceRow) (ys xs : Table SourceRow) (b c d : Bool) → same_key q x.0 ≡ c
      → is_some (x.1).keepalive ≡ d
      → has_row ys x.0 ≡ false → keeps_alive (row_at ys q) ≡ keeps_alive (row_at xs q)
      → keeps_alive (lookup (is_at (key_cmp q))
      (cons_option (cond b (option_map (λ (r : SourceRow). let p : Key × SourceRow = (x.0, r) in p)
      (cond d (Some (record (x.1) { spt = false })) None)) (Some x)) ys))
      ≡ keeps_alive (cond c (Some x.1) (lookup (is_at (key_cmp q)) xs))
  unfolding row_at has_row
  alive_step q x ys xs b c d f e gone ih = grind (arith, equal_keys, none_alive)

  still_alive : (q : Key) (t : Table SourceRow) → AreOnce t
      → keeps_alive (row_at (changes k t) q) ≡ keeps_alive (row_at t q)
  unfolding row_at change_row changed_entry
  still_alive q [] once = refl
  still_alive q (x ∷ xs) once =
      alive_step q x (changes k xs) xs (same_key k x.0) (same_key q x.0) (is_some (x.1).keepalive) refl refl
      (still_absent x.0 without_spt k xs once.0) (still_alive q xs once.1)

  -- a test of keys that all rows pass
  still_tested : (good : Key → Bool) (t : Table SourceRow) → list_all (λ e. good e.0) t ≡ true
      → list_all (λ e. good e.0) (changes k t) ≡ true
  unfolding change_row
  still_tested good t e =
      list_of_each (λ e. good e.0) (changes k t)
      (each_filter_map (λ e. good e.0 ≡ true) (λ e. good e.0 ≡ true) (changed_entry without_spt k)
      (λ x y f h. ap good (changed_key without_spt k x y f) ∙ h) t (each_of_list (λ e. good e.0) t e))

  could_as_before : (s : State) → AreOnce s.sources → (g src : ℕ)
      → could_register (without_spt_bit s k) g src ≡ could_register s g src
  unfolding without_spt_bit could_register route rp_of has_other_rp is_kept_alive is_dr
  could_as_before s once g src = rw (still_alive (source_key 0 g src) s.sources once) refl

spt_bit_are_settled : (s : State) (k : Key) → AreSettled s → AreSettled (without_spt_bit s k)
unfolding without_spt_bit
spt_bit_are_settled s k are =
    let after : State = without_spt_bit s k in
    let same : (q : Key) → is_register_settled s q ≡ is_register_settled after q =
    λ q. ap (λ b. same_bool b (has_row s.registers q))
    (sym (could_as_before k s are.once (group_in q) (source_in q))) in
    record {
      sources = all_more (λ e. is_register_settled s e.0) _ (λ e h. sym (same e.0) ∙ h) (changes k s.sources)
          (still_tested k (is_register_settled s) s.sources are.sources);
      registers = all_more (λ e. is_register_settled s e.0) _ (λ e h. sym (same e.0) ∙ h) s.registers are.registers;
      once = still_once k s.sources are.once;
    }

cleared_are_settled : (s : State) (c : Cleared) → AreSettled s → AreSettled (cleared s c).0
unfolding cleared assert_forgotten could_register route rp_of has_other_rp is_kept_alive is_dr
cleared_are_settled s (ClearAssert k r) are = grind (arith, common_steps)
cleared_are_settled s (ClearSptBit k) are = spt_bit_are_settled s k are

pub settling_quiets : (o : State) (change : State × List Message) (w : ℕ) → AreOnce (change.0).sources
    → IsQuiet (settled o change w).0
unfolding settled clear clear_all
settling_quiets o change w once =
    let after : State = (clear o change.0).0 in
    let told : State = (upstream o after w).0 in
    let are : AreSettled after =
    kept_to_the_end (to_clear o) cleared AreSettled (λ t c are e. cleared_are_settled t c are)
    (clearable_count (settle_registers change.0))
    (settle_registers change.0) (registers_are_settled change.0 once) in
    quiet_goes_on after (settled o change w).0
    (agrees_then (touching []) after told _ (frame_upstream o after w) (frame_packets told _))
    (record {
      clear = cleared_is_clear o after (nothing_to_clear o (settle_registers change.0));
      sources_settled = are.sources;
      registers_settled = are.registers;
    })
