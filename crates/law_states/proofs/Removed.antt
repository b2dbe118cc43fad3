-- Which interfaces are up after a reload, and that no fact of an interface stays that is removed.
use Rattle.std.{proofs.{Common.{◌≡◌, ◌==◌, ℕ, zero, suc, ◌<◌, ◌≤◌, ◌+◌, ◌-◌, ◌⊎◌, inl, inr, ⊎_elim, nat_le, nat_lt, ◌&&◌, not, cond, Bool, true, false, List, [], length, map, Ok, refl, sym, ap, ◌∙◌, arith, lt-ltb, ltb-true}, lemmas.Bool.{cases_lt, eqb-false, eqb-true, Decides.nat_tests}}, specs.List.{list_all, range_with_len}}
use Rattle.pim_ip.{specs.declared.refusal.Refusal.Refusal}
use Rattle.pim_types.{specs.{declared.{config.Config.Config, fact.{InterfaceRow.InterfaceRow, Key.Key}, outcome.Ignored.Ignored}, Keys.{iface_in, iface_key, is_on}}}
use Rattle.pim_model.{specs.{declared.accepted.Accepted.Accepted, Asserts.{assert_forgotten, without_spt_bit}, Clearing.clear, Firing.settled, Full.is_full, Judging.{down_judged, ignore_if, judged, refuse_if, ◌>>◌}, Messages.Message, Registers.settle_registers, State.{addressing_of, State, iface_count, interfaces_of, is_up}, Step.{Answered, change, concluded, done, iface_down, ran, rps_replaced, step, taken, taken_unless_full}, Tables.{Table, has_row}, Upstream.{moved_join_timer, moved_override_timer, upstream}, Writing.{hellos_paid, write_all}}}
use Rattle.law_settled.{proofs.{ListLaws.all_more, RowLaws.{has_row_dropped, has_row_map}, SettlingLaws.{kept_by_clearing, kept_by_telling, kept_by_writing}}, specs.Ready.IsTidy}
use Rattle.law_events.{proofs.Configured.Ground}
use Rattle.law_states.{specs.{Reload.config_of, ReloadLaws.{AreConfigured, AreOfFirst, KeptStayUp, NoneOfRemoved, ReloadKeepsConfigured}, Reloading.{down_event, hellos_anew, reload, removals, replaced, under}}, proofs.{Accepted.settled_ground, Ground.reload_is_under, Rest.reload_leaves_rest}}

-- ---- what follows of a change brings no interface up or down

same_under : (i : ℕ) (e : Key × InterfaceRow) (b : Bool)
    → (cond b (let p : Key × InterfaceRow = (e.0, record e.1 { is_hello_owed = false }) in p) e).0 ≡ e.0
same_under i e true = refl
same_under i e false = refl

paid_up : (k : Key) (i : ℕ) (t : Table InterfaceRow) → has_row (hellos_paid i t) k ≡ has_row t k
unfolding hellos_paid
paid_up k i t =
    has_row_map k
    (λ (e : Key × InterfaceRow). cond (is_on i e.0) (let p : Key × InterfaceRow = (e.0, record e.1 { is_hello_owed = false }) in p) e)
    (λ e. same_under i e (is_on i e.0)) t

pub settled_up : (o : State) (change : State × List Message) (w j : ℕ) → is_up (settled o change w).0 j ≡ is_up change.0 j
unfolding settled write_all settle_registers assert_forgotten without_spt_bit moved_join_timer moved_override_timer
settled_up o change w j =
    let after : State = (clear o change.0).0 in
    let clears : is_up after j ≡ is_up change.0 j =
    kept_by_clearing (λ t. is_up t j ≡ is_up change.0 j) (λ s k f. f) (λ s k f. f) o change.0 refl in
    let told : State = (upstream o after w).0 in
    let tells : is_up told j ≡ is_up change.0 j =
    kept_by_telling (λ n. Unit {0}) after w (λ d some. tt) (λ t. is_up t j ≡ is_up change.0 j) (λ s k c fair f. f)
    (λ s k c fair f. f) o clears in
    kept_by_writing (λ (t : Table InterfaceRow). has_row t (iface_key j) ≡ is_up change.0 j)
    (λ i t f. paid_up (iface_key j) i t ∙ f) (interfaces_of told) _ tells

-- ---- one interface goes down

down_up : (s : State) (w i j : ℕ) → is_up (settled s (iface_down s i, []) w).0 j ≡ (not (j == i) && is_up s j)
unfolding iface_down
down_up s w i j = settled_up s (iface_down s i, []) w j ∙ has_row_dropped (iface_key j) (is_on i) s.interfaces

module _ (s : State) (w i : ℕ) where
  abbrev Downs : Answered → Type 0
  Downs a = (iface_count a.state ≡ iface_count s) × ((j : ℕ) → is_up a.state j ≡ (not (j == i) && is_up s j))

  stays : (c : Bool) → is_up s i ≡ c → c ≡ false → (j : ℕ) (b : Bool) → (j == i) ≡ b → is_up s j ≡ (not b && is_up s j)
  stays true e f j b is = absurd cc
  stays false e f j true is = ap (is_up s) (eqb-true j i is) ∙ e
  stays false e f j false is = refl

  taken_downs : Downs (taken s w (Accepted.Down (record { number = i })))
  unfolding taken done change iface_down
  taken_downs =
      (ap (λ (g : Ground). length g.configured.interfaces) (settled_ground s (iface_down s i, []) w), down_up s w i)

  full_downs : Downs (taken_unless_full s w (Accepted.Down (record { number = i })))
  unfolding taken_unless_full is_full
  full_downs = taken_downs

  judged_downs : (a c : Bool) → a ≡ false → is_up s i ≡ c
      → Downs (concluded s (taken_unless_full s w) (refuse_if a Refusal.NoInterface >> ignore_if (not c) Ignored.Already
      >> Ok (Accepted.Down (record { number = i }))))
  judged_downs true c below e = absurd cc
  judged_downs false true below e = full_downs
  judged_downs false false below e = (refl, λ j. stays false e refl j (j == i) refl)

  not_past : (b : Bool) → nat_le (iface_count s) i ≡ b → i < iface_count s → b ≡ false
  not_past true e below = grind (arith, nat_tests, e, below)
  not_past false e below = refl

  pub step_downs : i < iface_count s → Downs (step s (down_event w i))
  unfolding step judged down_judged
  step_downs below =
      judged_downs (nat_le (iface_count s) i) (is_up s i) (not_past (nat_le (iface_count s) i) refl below) refl

-- ---- one after the other

module _ (w : ℕ) where
  abbrev gone : State → ℕ → ℕ → State
  gone s n m = (ran s (map (down_event w) (range_with_len n m))).1

  still : (j i : ℕ) (b : Bool) → (j == i) ≡ b → (j ≡ i → ⊥) → (u : Bool) → (not b && u) ≡ u
  still j i true e other u = absurd (other (eqb-true j i e))
  still j i false e other u = refl

  -- those past the range, and those before it, stay as they are
  pub gone_keeps : (m n : ℕ) (s : State) → n + m ≤ iface_count s → (j : ℕ) → (j < n) ⊎ (n + m ≤ j)
      → is_up (gone s n m) j ≡ is_up s j
  unfolding ran
  gone_keeps zero n s fit j out = refl
  gone_keeps (suc m) n s fit j out =
      let first = step_downs s w n (omega (arith, fit)) in
      let further : (j < n + 1) ⊎ (n + 1 + m ≤ j) =
      ⊎_elim (λ (h : j < n). inl (omega (arith, h))) (λ (h : n + suc m ≤ j). inr (omega (arith, h))) out in
      let other : j ≡ n → ⊥ =
      λ (e : j ≡ n). ⊎_elim (λ (h : j < n). omega (arith, e, h)) (λ (h : n + suc m ≤ j). omega (arith, e, h)) out in
      gone_keeps m (n + 1) (step s (down_event w n)).state (rw first.0 (omega (arith, fit))) j further
      ∙ (first.1 j ∙ still j n (j == n) refl other (is_up s j))

  none_comes : (b u : Bool) → u ≡ false → (not b && u) ≡ false
  none_comes true u e = refl
  none_comes false u e = e

  -- what is down stays down
  gone_brings_none : (m n : ℕ) (s : State) → n + m ≤ iface_count s → (j : ℕ) → is_up s j ≡ false
      → is_up (gone s n m) j ≡ false
  unfolding ran
  gone_brings_none zero n s fit j e = e
  gone_brings_none (suc m) n s fit j e =
      let first = step_downs s w n (omega (arith, fit)) in
      gone_brings_none m (n + 1) (step s (down_event w n)).state (rw first.0 (omega (arith, fit))) j
      (first.1 j ∙ none_comes (j == n) (is_up s j) e)

  here_or_later : (n j : ℕ) (up b : Bool) → (j == n) ≡ b → ((j == n) ≡ true → up ≡ false) → ((j == n) ≡ false → up ≡ false) → up ≡ false
  here_or_later n j up true e this later = this e
  here_or_later n j up false e this later = later e

  next_one : (j n : ℕ) → n ≤ j → (j ≡ n → ⊥) → n + 1 ≤ j
  next_one j n low other =
      ⊎_elim (λ (h : n < j). omega (arith, h)) (λ (h : j ≤ n). absurd (other (omega (arith, low, h)))) (cases_lt n j)

  -- those in the range are down
  pub gone_are_down : (m n : ℕ) (s : State) → n + m ≤ iface_count s → (j : ℕ) → n ≤ j → j < n + m
      → is_up (gone s n m) j ≡ false
  unfolding ran
  gone_are_down zero n s fit j low high = absurd (omega (arith, low, high))
  gone_are_down (suc m) n s fit j low high =
      let first = step_downs s w n (omega (arith, fit)) in
      let next : State = (step s (down_event w n)).state in
      let room : n + 1 + m ≤ iface_count next = rw first.0 (omega (arith, fit)) in
      here_or_later n j (is_up (gone next (n + 1) m) j) (j == n) refl
      (λ e. gone_brings_none m (n + 1) next room j (first.1 j ∙ ap (λ (b : Bool). not b && is_up s j) e))
      (λ e. gone_are_down m (n + 1) next room j (next_one j n low (eqb-false j n e)) (omega (arith, high)))

-- ---- a reload

module _ (s : State) (c : Config) (w : ℕ) where
  abbrev after : State
  after = (ran s (removals s c w)).1

  replaced_up : (j : ℕ) → is_up (reload s c w).0 j ≡ is_up after j
  unfolding reload replaced under rps_replaced
  replaced_up j = settled_up after (under after c, hellos_anew after (addressing_of c)) w j

  none_left : iface_count s ≤ length c.interfaces → iface_count s - length c.interfaces ≡ 0
  none_left h = omega (arith, h)

  kept_up : (j : ℕ) → j < length c.interfaces → is_up after j ≡ is_up s j
  unfolding removals ran
  kept_up j low = ⊎_elim
      (λ (h : length c.interfaces < iface_count s).
      gone_keeps w (iface_count s - length c.interfaces) (length c.interfaces) s (omega (arith, h)) j (inl low))
      (λ (h : iface_count s ≤ length c.interfaces).
      ap (λ (m : ℕ). is_up (gone w s (length c.interfaces) m) j) (none_left h))
      (cases_lt (length c.interfaces) (iface_count s))

  abbrev count : ℕ
  count = iface_count s

  abbrev first : ℕ
  first = length c.interfaces

  not_up : AreConfigured s → (i : ℕ) → count ≤ i → (b : Bool) → is_up s i ≡ b → b ≡ false
  not_up are i past true e = let low : i < count = ltb-true i count (are i e) in absurd (omega (arith, past, low))
  not_up are i past false e = refl

  after_down : AreConfigured s → (i : ℕ) → first ≤ i → is_up after i ≡ false
  unfolding removals ran
  after_down are i past = ⊎_elim
      (λ (h : first < count).
      ⊎_elim
      (λ (low : i < count).
      gone_are_down w (count - first) first s (omega (arith, h)) i past (omega (arith, h, low)))
      (λ (high : count ≤ i).
      gone_keeps w (count - first) first s (omega (arith, h)) i (inr (omega (arith, h, high)))
      ∙ not_up are i high (is_up s i) refl) (cases_lt i count))
      (λ (h : count ≤ first).
      ap (λ (m : ℕ). is_up (gone w s first m) i) (none_left h)
      ∙ not_up are i (omega (arith, h, past)) (is_up s i) refl)
      (cases_lt first count)

  none : {X : Type 0} → false ≡ true → X
  none e = absurd cc

  -- what is still up after the removals is configured by the other configuration
  pub left_low : AreConfigured s → (i : ℕ) → is_up after i ≡ true → nat_lt i first ≡ true
  left_low are i up = ⊎_elim (λ (low : i < first). lt-ltb i first low)
      (λ (past : first ≤ i). none (sym (after_down are i past) ∙ up)) (cases_lt i first)

  low_or_down : AreConfigured s → (i : ℕ) → is_up (reload s c w).0 i ≡ true → nat_lt i first ≡ true
  low_or_down are i up = left_low are i (sym (replaced_up i) ∙ up)

pub kept_stay_up : KeptStayUp
kept_stay_up s c w i low = replaced_up s c w i ∙ kept_up s c w i (ltb-true i (length c.interfaces) low)

pub reload_keeps_configured : ReloadKeepsConfigured
unfolding config_of
reload_keeps_configured s c w are i up =
    ap (λ (d : Config). nat_lt i (length d.interfaces)) (reload_is_under s c w) ∙ low_or_down s c w are i up

-- ---- facts of interfaces

module _ (n : ℕ) (t : State) (tidy : IsTidy t) (low : (i : ℕ) → is_up t i ≡ true → nat_lt i n ≡ true) where
  all_low : {R : Type 0} (rows : Table R) → list_all (λ (e : Key × R). is_up t (iface_in e.0)) rows ≡ true
      → list_all (λ (e : Key × R). nat_lt (iface_in e.0) n) rows ≡ true
  all_low {R} rows up =
      all_more (λ (e : Key × R). is_up t (iface_in e.0)) (λ (e : Key × R). nat_lt (iface_in e.0) n)
      (λ e is. low (iface_in e.0) is) rows up

  of_first : AreOfFirst n t
  of_first = record {
    neighbours = all_low t.neighbours tidy.neighbours;
    queriers = all_low t.queriers tidy.queriers;
    group_records = all_low t.group_records tidy.group_records;
    source_records = all_low t.source_records tidy.source_records;
    group_repeats = all_low t.group_repeats tidy.group_repeats;
    source_repeats = all_low t.source_repeats tidy.source_repeats;
    sendings = all_low t.sendings tidy.sendings;
    downstream = all_low t.downstream tidy.downstream;
    asserts = all_low t.asserts tidy.asserts;
  }

pub none_of_removed : NoneOfRemoved
none_of_removed s c w e h are =
    of_first (length c.interfaces) (reload s c w).0 (reload_leaves_rest s c w e h).settled.tidy (low_or_down s c w are)
