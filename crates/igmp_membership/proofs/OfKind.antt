-- Of which kind the keys of a table are.
use Rattle.std.{proofs.Common.{◌≡◌, ◌&&◌, Bool, true, false, not, Option, Some, None, is_none, is_some, nat_lt, refl}, specs.List.{AllByRecursion, list_all}}
use Rattle.pim_ip.{specs.declared.addr.Addr.Addr}
use Rattle.pim_types.{specs.{declared.fact.Key.Key, Keys.iface_in}}
use Rattle.law_settled.{proofs.ListLaws.{each_both, each_more, list_of_each}}
use Rattle.pim_model.{specs.Tables.Table}
use Rattle.igmp_membership.{specs.{Listing.is_record_key, MembershipTables.{AreHeld, MembershipTables, are_of_kind, is_group_key, is_held_querier, is_listed_key, is_source_kind, is_star_kind}, Sources.{ArePlain, AreSourceKind, AreStarKind, NameNone}}}

second : (a b : Bool) → (a && b) ≡ true → b ≡ true
second true b e = e
second false b e = cc

not_rpt : (a b : Bool) → (not a && b) ≡ true → a ≡ false
not_rpt true b e = cc
not_rpt false b e = refl

both : (a b : Bool) → a ≡ true → b ≡ true → (a && b) ≡ true
both true b f g = g
both false b f g = cc

module _ {R : Type 0} where
  pub none_named : (t : Table R) → AreStarKind t → NameNone t
  none_named t all =
      each_more (λ (e : Key × R). is_star_kind e.0 ≡ true) (λ (e : Key × R). is_none (e.0).source ≡ true)
      (λ e is. second (not (e.0).rpt) (is_none (e.0).source) is) t all

  pub plain : (t : Table R) → AreSourceKind t → ArePlain t
  plain t all =
      each_more (λ (e : Key × R). is_source_kind e.0 ≡ true) (λ (e : Key × R). (e.0).rpt ≡ false)
      (λ e is. not_rpt (e.0).rpt (is_some (e.0).source) is) t all

group_kind : (near rpt : Bool) (source : Option Addr) → (near && not rpt) ≡ true → is_some source ≡ false
    → ((not rpt && is_none source) && near) ≡ true
group_kind true false None fit none = refl
group_kind true false (Some a) fit none = cc
group_kind true true source fit none = cc
group_kind false rpt source fit none = cc

listed_kind : (near rpt : Bool) (source : Option Addr) → (near && not rpt) ≡ true → is_some source ≡ true
    → ((not rpt && is_some source) && near) ≡ true
listed_kind true false (Some a) fit some = refl
listed_kind true false None fit some = cc
listed_kind true true source fit some = cc
listed_kind false rpt source fit some = cc

module _ {R : Type 0} (t : Table R) (fit : AllByRecursion (λ (e : Key × R). is_record_key e.0 ≡ true) t) where
  pub groups : AllByRecursion (λ (e : Key × R). is_some (e.0).source ≡ false) t → list_all (λ e. is_group_key e.0) t ≡ true
  groups none =
      list_of_each (λ e. is_group_key e.0) t
      (each_both (λ (e : Key × R). is_record_key e.0 ≡ true) (λ (e : Key × R). is_some (e.0).source ≡ false)
      (λ (e : Key × R). is_group_key e.0 ≡ true)
      (λ e f g. group_kind (nat_lt (iface_in e.0) 120) (e.0).rpt (e.0).source f g) t fit none)

  pub listed : AllByRecursion (λ (e : Key × R). is_some (e.0).source ≡ true) t → list_all (λ e. is_listed_key e.0) t ≡ true
  listed some =
      list_of_each (λ e. is_listed_key e.0) t
      (each_both (λ (e : Key × R). is_record_key e.0 ≡ true) (λ (e : Key × R). is_some (e.0).source ≡ true)
      (λ (e : Key × R). is_listed_key e.0 ≡ true)
      (λ e f g. listed_kind (nat_lt (iface_in e.0) 120) (e.0).rpt (e.0).source f g) t fit some)

-- all tables, each by itself
pub each_of_kind : (m : MembershipTables) → AreHeld m.queriers → list_all (λ e. is_group_key e.0) m.group_records ≡ true
    → list_all (λ e. is_listed_key e.0) m.source_records ≡ true → AreStarKind m.group_repeats → AreStarKind m.source_repeats
    → AreSourceKind m.sendings → are_of_kind m ≡ true
each_of_kind m queriers group_records source_records group_repeats source_repeats sendings =
    both _ _ (list_of_each (λ e. is_held_querier e) m.queriers queriers) (both _ _ group_records (both _ _ source_records
    (both _ _ (list_of_each (λ e. is_star_kind e.0) m.group_repeats group_repeats)
    (both _ _ (list_of_each (λ e. is_star_kind e.0) m.source_repeats source_repeats)
    (list_of_each (λ e. is_source_kind e.0) m.sendings sendings)))))
