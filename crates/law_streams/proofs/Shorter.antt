-- What lies under other facts is no more than they are.
use Rattle.std.{proofs.{Common.{◌≡◌, ◌∙◌, ℕ, ◌<◌, ◌≤◌, nat_lt, ◌&&◌, true, List, map, length, sym, subst, arith, eqb-true, ltb-true}, lemmas.List.{length-map, FromFn.length-range_with_len}}, specs.{Cmp.{first_so, second_so}, List.{list_any, range_with_len}}}
use Rattle.pim_types.{specs.{Keys.{group_in, iface_in, iface_key, same_key, star_key}, declared.fact.{Key.Key, SendingRow.SendingRow}}, proofs.Keys.{equal_keys, same_key_same}}
use Rattle.pim_model.{specs.{Downstream.is_named, State.{State, iface_count, opening}, Step.state_after, Tables.{Table, has_row, keys_in}}}
use Rattle.law_settled.{proofs.{ListLaws.{any_more, each_map, each_more, each_of_list}, TableLaws.any_of_map, RisingKeys.{Up, up_of_sorted}}, specs.Ready.IsOrdered}
use Rattle.law_streams.{specs.{Bounded.counted_beside_asserts, Uncounted.{EachIsShorter, IsShorter, LiesUnder, UncountedStayBounded, is_of_interface}}, proofs.{Bounded.run_stays_within, Counting.{in_keys, no_longer, rising_apart}, Covered.any_in_range, Keyed.Under, LiesUnder.{Holds, lies_under, run_holds}, Repeats.IsRepeat}}

-- ---- a table whose keys rise, each key one of a list

pub no_more_keys : {R : Type 0} (t : Table R) (ks : List Key) → Up t → Under (λ k. is_named ks k ≡ true) t → length t ≤ length ks
unfolding keys_in
no_more_keys t ks up f =
    let le : length (keys_in t) ≤ length ks =
    no_longer (keys_in t) ks (rising_apart t up) (each_map (λ e. is_named ks e.0 ≡ true) (λ k. is_named ks k ≡ true) (λ e. e.0) (λ e h. h) t f) in
    let long : length (keys_in t) ≡ length t = length-map t (λ e. e.0) in
    omega (arith, le, long)

pub no_more_rows : {R X : Type 0} (t : Table R) (u : Table X) → Up t → Under (λ k. has_row u k ≡ true) t → length t ≤ length u
unfolding keys_in
no_more_rows t u up f =
    let le : length t ≤ length (keys_in u) =
    no_more_keys t (keys_in u) up
    (each_more (λ e. has_row u e.0 ≡ true) (λ e. is_named (keys_in u) e.0 ≡ true) (λ e h. sym (in_keys u e.0) ∙ h) t f) in
    let long : length (keys_in u) ≡ length u = length-map u (λ e. e.0) in
    omega (arith, le, long)

-- ---- the interfaces, and the groups of sendings

abbrev iface_keys : ℕ → List Key
iface_keys n = map (λ i. iface_key i) (range_with_len 0 n)

iface_named : (n : ℕ) (k : Key) → (same_key (iface_key (iface_in k)) k && nat_lt (iface_in k) n) ≡ true → is_named (iface_keys n) k ≡ true
unfolding is_named
iface_named n k e =
    let i : ℕ = iface_in k in
    let lt : i < n = ltb-true i n (second_so (same_key (iface_key i) k) (nat_lt i n) e) in
    subst (λ (q : Key). list_any (same_key q) (iface_keys n) ≡ true) (equal_keys (iface_key i) k (first_so (same_key (iface_key i) k) (nat_lt i n) e))
    (any_of_map (same_key (iface_key i)) (λ j. iface_key j) (range_with_len 0 n)
    ∙ any_in_range (λ j. same_key (iface_key i) (iface_key j)) 0 n i (omega arith) (omega (arith, lt)) (same_key_same (iface_key i)))

abbrev group_key : Key × SendingRow → Key
group_key e = star_key (iface_in e.0) (group_in e.0)

group_named : (t : Table SendingRow) (k : Key) → IsRepeat t k → is_named (map group_key t) k ≡ true
unfolding is_named
group_named t k f = grind (arith, any_of_map, any_more, eqb-true, equal_keys, same_key_same)

-- ---- each table

is_shorter : (n : ℕ) (s : State) → Holds n s → IsShorter s
is_shorter n s f =
    let under : LiesUnder s = lies_under n s f in
    let order : IsOrdered s = f.settled.ordered in
    let faces = length-map (range_with_len 0 (iface_count s)) (λ i. iface_key i) in
    let range = length-range_with_len 0 (iface_count s) in
    let few : length s.interfaces ≤ length (iface_keys (iface_count s)) =
    no_more_keys s.interfaces (iface_keys (iface_count s)) (up_of_sorted s.interfaces order.interfaces)
    (each_more (λ e. is_of_interface s e.0 ≡ true) _ (λ e h. iface_named (iface_count s) e.0 h) s.interfaces
    (each_of_list (λ e. is_of_interface s e.0) s.interfaces under.interfaces)) in
    let sent : length s.source_repeats ≤ length (map group_key s.sendings) =
    no_more_keys s.source_repeats (map group_key s.sendings) (up_of_sorted s.source_repeats order.source_repeats)
    (each_more (λ e. IsRepeat s.sendings e.0) _ (λ e h. group_named s.sendings e.0 h) s.source_repeats f.between.fits.sources) in
    let groups = length-map s.sendings group_key in
    record {
      interfaces = omega (arith, few, faces, range);
      queriers = no_more_rows s.queriers s.interfaces (up_of_sorted s.queriers order.queriers)
          (each_of_list (λ e. has_row s.interfaces e.0) s.queriers under.queriers);
      group_repeats = no_more_rows s.group_repeats s.group_records (up_of_sorted s.group_repeats order.group_repeats)
          (each_of_list (λ e. has_row s.group_records e.0) s.group_repeats under.group_repeats);
      sendings = no_more_rows s.sendings s.source_records (up_of_sorted s.sendings order.sendings)
          (each_of_list (λ e. has_row s.source_records e.0) s.sendings under.sendings);
      source_repeats = omega (arith, sent, groups);
      registers = no_more_rows s.registers s.sources (up_of_sorted s.registers order.registers)
          (each_of_list (λ e. has_row s.sources e.0) s.registers under.registers);
    }

pub each_is_shorter : EachIsShorter
each_is_shorter c events e = is_shorter (length c.interfaces) (state_after (opening c) events) (run_holds c events e)

pub uncounted_stay_bounded : UncountedStayBounded
uncounted_stay_bounded c events e =
    let t : State = state_after (opening c) events in
    let f : IsShorter t = each_is_shorter c events e in
    let links : iface_count t ≡ length c.interfaces = (run_holds c events e).links in
    let le : counted_beside_asserts t ≤ c.limit = run_stays_within c events e in
    let i : length t.interfaces ≤ iface_count t = f.interfaces in
    let q : length t.queriers ≤ length t.interfaces = f.queriers in
    let g : length t.group_repeats ≤ length t.group_records = f.group_repeats in
    let s : length t.sendings ≤ length t.source_records = f.sendings in
    let r : length t.source_repeats ≤ length t.sendings = f.source_repeats in
    let x : length t.registers ≤ length t.sources = f.registers in
    omega (arith, links, le, i, q, g, s, r, x)
