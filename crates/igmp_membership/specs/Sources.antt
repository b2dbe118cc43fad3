-- The sources of groups, as numbers in a set of addresses.
use Rattle.std.{specs.{List.{AllByRecursion, list_any}, Prelude.{Bool, List, false, is_none, is_some, true, ℕ, ◌&&◌, ◌==◌, ◌||◌, ◌≡◌}}}
use Rattle.pim_ip.{specs.declared.addr.Addr.Addr}
use Rattle.pim_types.{specs.{declared.fact.Key.Key, Keys.{names_source, source_in}}}
use Rattle.pim_model.{specs.Tables.{Table, keys_in}}
use Rattle.igmp_membership.{specs.MembershipTables.{is_source_kind, is_star_kind}}

-- the number is among the addresses
abbrev pub has_number : {U : Type 0} → ℕ → List (Addr × U) → Bool
has_number n entries = list_any (λ e. (e.0).bits == n) entries

-- The key is of the source.
abbrev pub is_of_source : ℕ → Key → Bool
is_of_source n k = is_some k.source && (source_in k == n)

-- The key names no source.
abbrev pub NamesNone : Key → Type 0
NamesNone k = is_none k.source ≡ true

-- The key isn't of (S,G,rpt).
abbrev pub IsPlain : Key → Type 0
IsPlain k = k.rpt ≡ false

-- the key of a group, and of a source of a group
abbrev pub IsStarKind : Key → Type 0
IsStarKind k = is_star_kind k ≡ true

abbrev pub IsSourceKind : Key → Type 0
IsSourceKind k = is_source_kind k ≡ true

module _ {R : Type 0} where
  abbrev pub NameNone : Table R → Type 0
  NameNone t = AllByRecursion (λ (e : Key × R). NamesNone e.0) t

  abbrev pub ArePlain : Table R → Type 0
  ArePlain t = AllByRecursion (λ (e : Key × R). IsPlain e.0) t

  abbrev pub AreStarKind : Table R → Type 0
  AreStarKind t = AllByRecursion (λ (e : Key × R). IsStarKind e.0) t

  abbrev pub AreSourceKind : Table R → Type 0
  AreSourceKind t = AllByRecursion (λ (e : Key × R). IsSourceKind e.0) t

  -- The group's sources among the facts were added to a set of addresses.
  abbrev pub Gathers : {U : Type 0} → (before after : List (Addr × U)) → ℕ → Table R → Type 0
  Gathers before after g t =
      (n : ℕ) → has_number n after ≡ (has_number n before || list_any (names_source g n) (keys_in t))
