-- The sources of a record and those that a message names, in one ascending list.
use Rattle.std.{specs.Prelude.{Bool, List, [], false, if◌then◌else◌, map, nat_lt, true, ℕ, ◌==◌, ◌∷◌}}
use Rattle.pim_filters.{specs.{Members.{source_state_at, source_state_of}, declared.{case.Case.Case, member.{SourceState.TheVariants.Absent, Member.Member}}}}
use Rattle.pim_model.specs.Records as records

-- a named source that is no member, and a member
abbrev pub new_case : ℕ → Case
new_case n = record { source = record { bits = n }; before = Absent; named = true }

abbrev pub member_case : Bool → Member → Case
member_case named m = record { source = m.source; before = source_state_at m.end; named = named }

-- the cases from a member on, where `rest` has those of the later members
abbrev pub cases_with : Member → (List ℕ → List Case) → List ℕ → List Case
cases_with m rest [] = member_case false m ∷ rest []
cases_with m rest (n ∷ ns) =
    if nat_lt n m.source.bits then new_case n ∷ cases_with m rest ns
    else (if n == m.source.bits then member_case true m ∷ rest ns else member_case false m ∷ rest (n ∷ ns))

-- the cases of members and named sources, both ascending
abbrev pub cases_in : List Member → List ℕ → List Case
cases_in [] ns = map new_case ns
cases_in (m ∷ ms) ns = cases_with m (cases_in ms) ns

-- a source, what it was, and whether it is named
abbrev pub CaseValue : Type 0
CaseValue = ℕ × records.SourceState × Bool

abbrev pub case_value : Case → CaseValue
case_value c = (c.source.bits, source_state_of c.before, c.named)
