-- Rows of interfaces that are up are of interfaces that the next configuration has.
use Rattle.std.{proofs.{Common.{◌≡◌, ◌==◌, ℕ, ◌&&◌, ◌||◌, nat_lt, not, Bool, true, false, ◌-◌, List, [], ◌∷◌, map, Option, Some, None, length, refl, sym, ap, subst, ◌∙◌, eqb-true}, lemmas.Bool.or_right}, specs.{List.{AllByRecursion, list_all, list_any, range_with_len}, Prelude.is_none}}
use Rattle.pim_ip.{specs.declared.addr.Addr.Addr}
use Rattle.pim_types.{proofs.Keys.{equal_keys, same_key_same}, specs.{declared.{event.Event.Event, outcome.Emission.Emission, fact.{InterfaceRow.InterfaceRow, Key.Key}}, Keys.{group_in, iface_in, iface_key, same_key}}}
use Rattle.pim_model.{specs.{State.{State, iface_count, is_up}, Step.{run, state_after}, Tables.{Table, has_row}}}
use Rattle.law_settled.{proofs.{ListLaws.{any_among_all, each_both, each_more, each_of_list, list_of_each}, RowLaws.has_row_any}}
use Rattle.pim_ifaces.{specs.Interfaces.is_up_key}
use Rattle.law_states.{specs.{ReloadLaws.AreConfigured, Reloading.{down_event, removals, sent_by}, Reload.config_of}, proofs.Removed.left_low}

both : (a b : Bool) → (a && b) ≡ true → (a ≡ true) × (b ≡ true)
both true b e = (refl, e)
both false b e = cc

abbrev Kinds : State → Type 0
Kinds s = list_all (λ (e : Key × InterfaceRow). is_up_key (iface_count s) e.0) s.interfaces ≡ true

-- ---- the key of an interface

module _ (n : ℕ) (k : Key) (is : is_up_key n k ≡ true) where
  abbrev later : (is_none k.source && ((group_in k == 0) && nat_lt (iface_in k) n)) ≡ true
  later = (both (not k.rpt) _ is).1

  no_rpt : (b : Bool) → not b ≡ true → b ≡ false
  no_rpt true e = cc
  no_rpt false e = refl

  no_source : (o : Option Addr) → is_none o ≡ true → o ≡ None
  no_source None e = refl
  no_source (Some a) e = cc

  key_is : k ≡ iface_key (iface_in k)
  key_is =
      let rpt : k.rpt ≡ false = no_rpt k.rpt (both (not k.rpt) _ is).0 in
      let source : k.source ≡ None = no_source k.source (both (is_none k.source) _ later).0 in
      let group : group_in k ≡ 0 = eqb-true (group_in k) 0 (both (group_in k == 0) _ (both (is_none k.source) _ later).1).0 in
      λ j. record { iface = k.iface; group = record { bits = group j }; source = source j; rpt = rpt j }

  low_key : nat_lt (iface_in k) n ≡ true
  low_key = (both (group_in k == 0) _ (both (is_none k.source) _ later).1).1

-- ---- interfaces that are up are configured

pub are_configured : (s : State) → Kinds s → AreConfigured s
are_configured s kinds i up =
    any_among_all (λ (e : Key × InterfaceRow). is_up_key (iface_count s) e.0 ≡ true)
    (λ (e : Key × InterfaceRow). same_key (iface_key i) e.0)
    (λ e is same. low_key (iface_count s) (iface_key i)
    (subst (λ (k : Key). is_up_key (iface_count s) k ≡ true) (sym (equal_keys (iface_key i) e.0 same)) is)) s.interfaces
    (each_of_list (λ (e : Key × InterfaceRow). is_up_key (iface_count s) e.0) s.interfaces kinds)
    (sym (has_row_any (iface_key i) s.interfaces) ∙ up)

-- each row of a table is there under its key
each_there : {R : Type 0} (t : Table R) → AllByRecursion (λ (e : Key × R). list_any (λ (x : Key × R). same_key e.0 x.0) t ≡ true) t
each_there [] = tt
each_there {R} (y ∷ t) = (
  ap (λ (b : Bool). b || list_any (λ (x : Key × R). same_key y.0 x.0) t) (same_key_same y.0),
  each_more (λ (e : Key × R). list_any (λ (x : Key × R). same_key e.0 x.0) t ≡ true)
      (λ (e : Key × R). list_any (λ (x : Key × R). same_key e.0 x.0) (y ∷ t) ≡ true)
      (λ e there. or_right (same_key e.0 y.0) (list_any (λ (x : Key × R). same_key e.0 x.0) t) there) t (each_there t),
)

module _ (n : ℕ) (t : State) (kinds : Kinds t) (low : (i : ℕ) → is_up t i ≡ true → nat_lt i n ≡ true) where
  row_low : (e : Key × InterfaceRow) → is_up_key (iface_count t) e.0 ≡ true
      → list_any (λ (x : Key × InterfaceRow). same_key e.0 x.0) t.interfaces ≡ true → nat_lt (iface_in e.0) n ≡ true
  row_low e is there =
      low (iface_in e.0)
      (subst (λ (k : Key). has_row t.interfaces k ≡ true) (key_is (iface_count t) e.0 is)
      (has_row_any e.0 t.interfaces ∙ there))

  pub rows_low : list_all (λ (e : Key × InterfaceRow). nat_lt (iface_in e.0) n) t.interfaces ≡ true
  rows_low =
      list_of_each (λ (e : Key × InterfaceRow). nat_lt (iface_in e.0) n) t.interfaces
      (each_both (λ (e : Key × InterfaceRow). is_up_key (iface_count t) e.0 ≡ true)
      (λ (e : Key × InterfaceRow). list_any (λ (x : Key × InterfaceRow). same_key e.0 x.0) t.interfaces ≡ true)
      (λ (e : Key × InterfaceRow). nat_lt (iface_in e.0) n ≡ true) row_low t.interfaces
      (each_of_list (λ (e : Key × InterfaceRow). is_up_key (iface_count t) e.0) t.interfaces kinds)
      (each_there t.interfaces))

-- ---- after the removals

pub left_below : (s t next : State) (w : ℕ) → Kinds s → Kinds t → t ≡ state_after s (removals s (config_of next) w)
    → list_all (λ (e : Key × InterfaceRow). nat_lt (iface_in e.0) (length next.configured.interfaces)) t.interfaces ≡ true
unfolding state_after config_of
left_below s t next w before after is =
    rows_low (length next.configured.interfaces) t after
    (λ i up. left_low s (config_of next) w (are_configured s before) i (ap (λ (x : State). is_up x i) (sym is) ∙ up))

-- the removals, by how many interfaces both have
module _ (s t next : State) (w first count : ℕ) (of_first : first ≡ iface_count next) (of_count : count ≡ iface_count s) where
  events_are : map (down_event w) (range_with_len first (count - first)) ≡ removals s (config_of next) w
  unfolding removals config_of
  events_are = λ j. map (down_event w) (range_with_len (of_first j) (of_count j - of_first j))

  pub removed_is : t ≡ state_after s (map (down_event w) (range_with_len first (count - first)))
      → t ≡ state_after s (removals s (config_of next) w)
  removed_is is = is ∙ ap (λ (es : List Event). state_after s es) events_are

  pub removed_sent : (sent : List Emission) → sent ≡ sent_by (run s (map (down_event w) (range_with_len first (count - first))))
      → sent ≡ sent_by (run s (removals s (config_of next) w))
  removed_sent sent is = is ∙ ap (λ (es : List Event). sent_by (run s es)) events_are
