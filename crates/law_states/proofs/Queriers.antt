-- Queriers under other settings: the table stays settled, and under the same settings it is the same.
use Rattle.std.{proofs.{Common.{◌≡◌, ◌==◌, ◌&&◌, ◌∙◌, ℕ, ◌+◌, ◌*◌, ◌<◌, ◌≤◌, min, nat_le, nat_lt, Bool, true, false, List, [], ◌∷◌, map, refl, sym, ap, subst, arith, eqb-true, eq-eqb, lt-ltb, ltb-true}, lemmas.Bool.Decides.nat_tests}, specs.{Cmp.{first_so, second_so}, List.list_all}}
use Rattle.pim_types.{specs.{declared.{config.{Config.Config, Settings.Settings}, fact.{Key.Key, QuerierRole.QuerierRole, QuerierRow.QuerierRow}}, Keys.{iface_in, iface_key, same_key}}}
use Rattle.pim_model.{specs.{Asserts.{assert_forgotten, without_spt_bit}, Clearing.clear, Firing.settled, Messages.Message, Registers.settle_registers, State.{State, addressing_of, is_up, settings_of}, Step.{ran, rps_replaced}, Tables.Table, Timers.next_query, Upstream.{moved_join_timer, moved_override_timer}, Writing.write_all}}
use Rattle.law_settled.{specs.{Laws.is_querier_entry, Ready.IsSettled}, proofs.{FineStates.{Good, GoodQuerier, Runs, rows_fine}, FineTables.{fine_map}, Parts.Queriers, SettledStates.{fine_is_settled, settled_is_fine}, SettlingLaws.{kept_by_clearing, kept_by_telling}}}
use Rattle.law_states.{specs.{Reload.IsSetting, ReloadLaws.{NextQueryIsNearAnew, is_near_by, next_query_is_near}, Reloading.{hellos_anew, queriers_under, reload, removals, replaced, row_under, under}}}

-- ---- a settled state

both_so : (a b : Bool) → a ≡ true → b ≡ true → (a && b) ≡ true
both_so true b e f = f
both_so false b e f = absurd cc

sooner : (p next n : ℕ) → p < next → 0 < n → p < min next (p + 1000 * n)
sooner p next n lt pos = omega (arith, lt, pos)

module _ (s : State) (t : Settings) (fine : IsSetting t) where
  entry_sound : (k : Key) (q u : QuerierRow) → u.robustness ≡ t.robustness → u.query_interval ≡ t.query_interval
      → is_querier_entry (k, q) ≡ true → is_querier_entry (k, u) ≡ true
  entry_sound k q u er ei e =
      both_so (same_key (iface_key (iface_in k)) k) (nat_lt 0 u.robustness && nat_lt 0 u.query_interval)
      (first_so (same_key (iface_key (iface_in k)) k) (nat_lt 0 q.robustness && nat_lt 0 q.query_interval) e)
      (both_so (nat_lt 0 u.robustness) (nat_lt 0 u.query_interval) (ap (nat_lt 0) er ∙ fine.robustness) (ap (nat_lt 0) ei ∙ fine.query_interval))

  row_good : (k : Key) (q : QuerierRow) (role : QuerierRole) → q.role ≡ role
      → GoodQuerier (nat_lt s.present) (is_up s) (k, q) → GoodQuerier (nat_lt s.present) (is_up s) (k, row_under s.present t q role)
  row_good k q (QuerierRole.NonQuerier end) e g = g
  row_good k q (QuerierRole.Querier next left) e g =
      let row : QuerierRow = row_under s.present t q (QuerierRole.Querier next left) in
      let old : nat_lt s.present next ≡ true =
      subst (λ (r : QuerierRole). Runs (nat_lt s.present) (next_query r)) e g.next in
      record {
        sound = entry_sound k q row refl refl g.sound;
        next = lt-ltb s.present (min next (s.present + 1000 * t.query_interval)) (sooner s.present next t.query_interval (ltb-true s.present next old) (ltb-true 0 t.query_interval fine.query_interval));
        other = tt;
        here = g.here;
      }

  pub queriers_settled : IsSettled s → IsSettled (record s { queriers = queriers_under s t })
  unfolding queriers_under
  queriers_settled h =
      let f = settled_is_fine s h in
      fine_is_settled s.present (is_up s) (record s { queriers = queriers_under s t })
      (rows_fine s.present (nat_lt s.present) (is_up s) Queriers tt s f (queriers_under s t)
      (fine_map (Good (nat_lt s.present) (is_up s) Queriers) (λ (e : Key × QuerierRow). (e.0, row_under s.present t e.1 (e.1).role))
      (λ e. refl) (λ e g. row_good e.0 e.1 (e.1).role refl g) s.queriers (f.tables Queriers)))

-- ---- the same settings

min_first : (a b : ℕ) → a ≤ b → min a b ≡ a
min_first a b le = omega (arith, le)

at_most : (a b : ℕ) → nat_le a b ≡ true → a ≤ b
at_most a b e = grind (arith, nat_tests, e)

module _ (s : State) where
  row_same : (q : QuerierRow) (role : QuerierRole) → q.role ≡ role → is_near_by s.present s.settings q role ≡ true
      → row_under s.present s.settings q role ≡ q
  row_same q (QuerierRole.NonQuerier end) e near = refl
  row_same q (QuerierRole.Querier next left) e near =
      let robust : q.robustness ≡ s.settings.robustness = eqb-true _ _ (first_so (q.robustness == s.settings.robustness) _ near) in
      let later = second_so (q.robustness == s.settings.robustness) _ near in
      let interval : q.query_interval ≡ s.settings.query_interval = eqb-true _ _ (first_so (q.query_interval == s.settings.query_interval) _ later) in
      let ends = second_so (q.query_interval == s.settings.query_interval) _ later in
      let soon : next ≤ s.present + 1000 * s.settings.query_interval =
      (let le = at_most next (s.present + 1000 * q.query_interval) (first_so (nat_le next (s.present + 1000 * q.query_interval)) _ ends) in omega (arith, le, interval)) in
      let few : left ≤ s.settings.robustness =
      (let le = at_most left q.robustness (second_so (nat_le next (s.present + 1000 * q.query_interval)) _ ends) in omega (arith, le, robust)) in
      (λ i. record {
        role = QuerierRole.Querier (min_first next (s.present + 1000 * s.settings.query_interval) soon i) (min_first left s.settings.robustness few i);
        robustness = sym robust i;
        query_interval = sym interval i;
      })
      ∙ (λ i. record { role = sym e i; robustness = q.robustness; query_interval = q.query_interval })

  all_same : (t : Table QuerierRow) → list_all (λ (e : Key × QuerierRow). is_near_by s.present s.settings e.1 (e.1).role) t ≡ true
      → map (λ (e : Key × QuerierRow). (e.0, row_under s.present s.settings e.1 (e.1).role)) t ≡ t
  all_same [] near = refl
  all_same (e ∷ t) near =
      let first : is_near_by s.present s.settings e.1 (e.1).role ≡ true = first_so (is_near_by s.present s.settings e.1 (e.1).role) _ near in
      (λ i. (e.0, row_same e.1 (e.1).role refl first i) ∷ all_same t (second_so (is_near_by s.present s.settings e.1 (e.1).role) _ near) i)

  pub same_queriers : next_query_is_near s ≡ true → queriers_under s s.settings ≡ s.queriers
  unfolding queriers_under next_query_is_near
  same_queriers near = all_same s.queriers near

-- ---- near after a reload

min_below : (a b : ℕ) → min a b ≤ b
min_below a b = omega arith

le_so : (a b : ℕ) → a ≤ b → nat_le a b ≡ true
le_so a b le = grind (arith, nat_tests, le)

module _ (present : ℕ) (t : Settings) where
  row_near : (q : QuerierRow) (role : QuerierRole) → q.role ≡ role
      → is_near_by present t (row_under present t q role) (row_under present t q role).role ≡ true
  row_near q (QuerierRole.NonQuerier end) e = ap (is_near_by present t q) e
  row_near q (QuerierRole.Querier next left) e =
      let ends = both_so (nat_le (min next (present + 1000 * t.query_interval)) (present + 1000 * t.query_interval)) (nat_le (min left t.robustness) t.robustness)
      (le_so _ _ (min_below next (present + 1000 * t.query_interval))) (le_so _ _ (min_below left t.robustness)) in
      both_so (t.robustness == t.robustness) _ (eq-eqb t.robustness t.robustness refl)
      (both_so (t.query_interval == t.query_interval) _ (eq-eqb t.query_interval t.query_interval refl) ends)

  all_near : (rows : Table QuerierRow)
      → list_all (λ (e : Key × QuerierRow). is_near_by present t e.1 (e.1).role) (map (λ (e : Key × QuerierRow). (e.0, row_under present t e.1 (e.1).role)) rows) ≡ true
  all_near [] = refl
  all_near (e ∷ rows) = both_so (is_near_by present t (row_under present t e.1 (e.1).role) (row_under present t e.1 (e.1).role).role) _ (row_near e.1 (e.1).role refl) (all_near rows)

-- what is read of a state
pub record Asked : Type 0 where
  pub present : ℕ
  pub settings : Settings
  pub queriers : Table QuerierRow

abbrev pub asked : State → Asked
asked s = record { present = s.present; settings = s.settings; queriers = s.queriers }

pub settled_asked : (o : State) (change : State × List Message) (w : ℕ) → asked (settled o change w).0 ≡ asked change.0
unfolding settled write_all settle_registers assert_forgotten without_spt_bit moved_join_timer moved_override_timer
settled_asked o change w =
    let after : State = (clear o change.0).0 in
    let clears : asked after ≡ asked change.0 = kept_by_clearing (λ t. asked t ≡ asked change.0) (λ s k f. f) (λ s k f. f) o change.0 refl in
    kept_by_telling (λ n. Unit {0}) after w (λ d some. tt) (λ t. asked t ≡ asked change.0) (λ s k c fair f. f) (λ s k c fair f. f) o clears

abbrev near_of : Asked → Bool
near_of a = list_all (λ (e : Key × QuerierRow). is_near_by a.present a.settings e.1 (e.1).role) a.queriers

under_near : (s : State) (c : Config) → near_of (asked (under s c)) ≡ true
unfolding under queriers_under rps_replaced settings_of
under_near s c = all_near s.present (settings_of c) s.queriers

pub replaced_near : (s : State) (c : Config) (w : ℕ) → next_query_is_near (replaced s c w).0 ≡ true
unfolding next_query_is_near replaced
replaced_near s c w = ap near_of (settled_asked s (under s c, hellos_anew s (addressing_of c)) w) ∙ under_near s c

pub next_query_is_near_anew : NextQueryIsNearAnew
unfolding reload
next_query_is_near_anew s c w = replaced_near (ran s (removals s c w)).1 c w
