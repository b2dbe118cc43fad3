-- Queriers under other settings, one after the other and all at once.
use Rattle.std.{proofs.{Common.{◌≡◌, ◌&&◌, ◌+◌, ◌*◌, ◌<◌, ℕ, min, not, Bool, true, false, List, [], ◌∷◌, filter, get_or, length, Ok, Err, OnOk, Result, Option, Some, None, refl, sym, ap, ◌∙◌, eqb-true, arith}, lemmas.List.Folds.list_all_at}, specs.{Cmp.{first_so, second_so}, List.{Sorted.IsStrictlySortedBy, list_all}, Option.IfSome, Prelude.is_none}}
use Rattle.pim_ip.{specs.declared.addr.Addr.Addr}
use Rattle.pim_types.{specs.{declared.{config.Settings.Settings, fact.{Key.Key, QuerierRole.QuerierRole, QuerierRow.QuerierRow}}, Keys.{group_in, iface_in, iface_key, key_cmp}}}
use Rattle.pim_model.{specs.{State.State, Tables.{Table, change_row, keys_in, row_at}}}
use Rattle.law_settled.{specs.Rows.all_changed, proofs.ChosenRows.{chosen_changed}}
use Rattle.igmp_membership.{specs.MembershipTables.{MembershipTables, are_of_kind, is_held_querier, is_querier_key, is_star_kind}}
use Rattle.pim_tables.{proofs.Rows.{absent_is_unchanged, always, written_is_changed}}
use Rattle.pim_state.{specs.Lending.{membership_tables, with_membership}}
use Rattle.law_states.{specs.Reloading.{queriers_under, row_under}}
use Rattle.pim_reloader.{specs.Asking.asking}

-- ---- the key of a querier

no_rpt : (b : Bool) → not b ≡ true → b ≡ false
no_rpt true e = cc
no_rpt false e = refl

no_source : (o : Option Addr) → is_none o ≡ true → o ≡ None
no_source None e = refl
no_source (Some a) e = cc

pub querier_key_is : (k : Key) → is_querier_key k ≡ true → iface_key (iface_in k) ≡ k
querier_key_is k is =
    let star = first_so (is_star_kind k) _ is in
    let rpt : k.rpt ≡ false = no_rpt k.rpt (first_so (not k.rpt) _ star) in
    let source : k.source ≡ None = no_source k.source (second_so (not k.rpt) _ star) in
    let group : group_in k ≡ 0 = eqb-true (group_in k) 0 (second_so (is_star_kind k) _ is) in
    sym (λ j. record { iface = k.iface; group = record { bits = group j }; source = source j; rpt = rpt j })

at_index : (p : Key → Bool) (keys : List Key) (i : ℕ) (d : Key) → list_all p keys ≡ true → i < length keys
    → p (get_or keys i d) ≡ true
at_index p keys i d all less = by (p (get_or keys i d)) refl
  where
    by : (b : Bool) → p (get_or keys i d) ≡ b → b ≡ true
    by true e = refl
    by false e = sym (sym all ∙ list_all_at p keys i d less e)

pub key_at : (keys : List Key) (i : ℕ) (d : Key) → list_all is_querier_key keys ≡ true → i < length keys
    → is_querier_key (get_or keys i d) ≡ true
key_at keys i d all less = at_index is_querier_key keys i d all less

-- the keys of a table of queriers
keyed : (t : Table QuerierRow) → list_all is_held_querier t ≡ true → list_all is_querier_key (keys_in t) ≡ true
unfolding keys_in
keyed [] held = refl
keyed (e ∷ t) held =
    both (is_querier_key e.0) _ (first_so (is_querier_key e.0) _ (first_so (is_held_querier e) _ held))
    (keyed t (second_so (is_held_querier e) _ held))
  where
    both : (a b : Bool) → a ≡ true → b ≡ true → (a && b) ≡ true
    both true b e f = f
    both false b e f = cc

pub keys_are : (s : State) (m : MembershipTables) (keys : List Key) → m ≡ membership_tables s → are_of_kind m ≡ true
    → keys ≡ keys_in s.queriers → list_all is_querier_key keys ≡ true
keys_are s m keys same kind gathered =
    ap (λ (ks : List Key). list_all is_querier_key ks) gathered
    ∙ keyed s.queriers
    (first_so (list_all is_held_querier s.queriers) _ (sym (ap are_of_kind same) ∙ kind))

-- ---- one querier

module _ {R : Type 0} (change : R → Option R) (k : Key) (t : Table R) where
  found_changed : (before after : R) → IsStrictlySortedBy key_cmp (keys_in t) → row_at t k ≡ Some before
      → change before ≡ Some after → change_row (λ old. Some after) k t ≡ change_row change k t
  unfolding keys_in
  found_changed before after rises found is =
      sym (written_is_changed k (λ old. Some after) after t rises (always (row_at t k) after))
      ∙ written_is_changed k change after t rises (at (row_at t k) found)
    where
      at : (o : Option R) → o ≡ Some before → IfSome o (λ r. change r ≡ Some after)
      at None e = cc
      at (Some r) e = let same : r ≡ before = cc in ap change same ∙ is

  none_changed : row_at t k ≡ None → t ≡ change_row change k t
  unfolding row_at
  none_changed none = absent_is_unchanged k change t none

abbrev with_queriers : State → Table QuerierRow → State
with_queriers s t = record s { queriers = t }

module _ (s : State) (k : Key) (is : is_querier_key k ≡ true) where
  pub none_there : (found : Option QuerierRow) → found ≡ row_at s.queriers (iface_key (iface_in k)) → found ≡ None
      → s ≡ with_queriers s (change_row (asking s) k s.queriers)
  none_there found read none =
      ap (with_queriers s)
      (none_changed (asking s) k s.queriers
      (ap (row_at s.queriers) (sym (querier_key_is k is)) ∙ sym read ∙ none))

  pub one_there : {T E : Type 0} (r : Result T E) (lent left : MembershipTables) (found : Option QuerierRow)
      (row after : QuerierRow) → IsStrictlySortedBy key_cmp (keys_in s.queriers)
      → found ≡ row_at s.queriers (iface_key (iface_in k)) → found ≡ Some row
      → after ≡ row_under s.present s.settings row row.role → lent ≡ membership_tables s
      → OnOk r (left ≡ record lent { queriers = change_row (λ old. Some after) (iface_key (iface_in k)) lent.queriers })
      → OnOk r (with_membership s left ≡ with_queriers s (change_row (asking s) k s.queriers))
  one_there (Err e) lent left found row after rises read some made same changed = tt
  one_there (Ok x) lent left found row after rises read some made same changed =
      ap (with_membership s) (changed ∙ ap (λ (m : MembershipTables). let n : MembershipTables = record m {
        queriers = change_row (λ old. Some after) (iface_key (iface_in k)) m.queriers;
      } in n) same)
      ∙ ap (with_queriers s)
      (ap (λ (q : Key). change_row (λ old. Some after) q s.queriers) (querier_key_is k is)
      ∙ found_changed (asking s) k s.queriers row after rises
      (ap (row_at s.queriers) (sym (querier_key_is k is)) ∙ sym read ∙ some) (ap Some (sym made)))

-- ---- all queriers

min_again : (a b : ℕ) → min (min a b) b ≡ min a b
min_again a b = omega arith

module _ (p : ℕ) (t : Settings) where
  under_twice : (q : QuerierRow) (role : QuerierRole) → q.role ≡ role
      → row_under p t (row_under p t q role) (row_under p t q role).role ≡ row_under p t q role
  under_twice q (QuerierRole.Querier next left) e = λ j. record {
    role = QuerierRole.Querier (min_again next (p + 1000 * t.query_interval) j) (min_again left t.robustness j);
    robustness = t.robustness;
    query_interval = t.query_interval;
  }
  under_twice q (QuerierRole.NonQuerier end) e = ap (row_under p t q) e

all_pass : (keys : List Key) → filter (λ k. true) keys ≡ keys
all_pass [] = refl
all_pass (k ∷ keys) = ap (λ (ks : List Key). k ∷ ks) (all_pass keys)

pub all_under : (s : State) (keys : List Key) → keys ≡ keys_in s.queriers
    → with_queriers s (all_changed (asking s) s.queriers keys) ≡ with_queriers s (queriers_under s s.settings)
unfolding queriers_under
all_under s keys gathered =
    ap (with_queriers s)
    (ap (λ (ks : List Key). all_changed (asking s) s.queriers ks) (gathered ∙ sym (all_pass (keys_in s.queriers)))
    ∙ chosen_changed (λ q. row_under s.present s.settings q q.role)
    (λ q. under_twice s.present s.settings q q.role refl) (λ k. true) s.queriers)

-- the rest of the state stays
pub kept : (a s n : State) (t : Table QuerierRow) → s ≡ with_queriers a s.queriers → n ≡ with_queriers s t
    → n ≡ with_queriers a n.queriers
kept a s n t but is =
    is ∙ ap (λ (x : State). with_queriers x t) but ∙ ap (with_queriers a) (sym (ap (λ (x : State). x.queriers) is))

-- the change of a querier goes by what stays
pub same_asking : (a s : State) → s ≡ with_queriers a s.queriers → asking s ≡ asking a
same_asking a s but = ap asking but
