-- Which RP a group has, of RP ranges and candidates (RFC 7761, sections 4.7.1 and 4.7.2).
use Rattle.std.specs.{List.{list_all, list_any}, Prelude.{Bool, List, None, Some, [], false, if◌then◌else◌, not, option_map, true, ℕ, ◌&&◌, ◌≡◌}}
use Rattle.pim_ip.{specs.{Ipv4.is_source_specific, Prefixes.{contains, longest_match}}}
use Rattle.pim_types.{specs.declared.config.{RpCandidate.RpCandidate, RpRange.RpRange, RpTable.RpTable}}
use Rattle.pim_model.{specs.{Candidates.{chosen_among, hash_value, is_chosen}, Unicast.rp_among}}

-- Where there is no candidate, the RP of a group is that of the range with the longest prefix: no priority and no hash
-- counts.
abbrev pub LongestMatchDecides : Type 0
LongestMatchDecides = (ranges : RpTable) (g : ℕ) → ranges.candidates ≡ []
    → rp_among ranges g
    ≡ (if is_source_specific g then None
    else option_map (λ (r : RpRange). r.rp.bits) (longest_match (λ (r : RpRange). r.prefix) ranges.static_ranges g))

-- a candidate is chosen for the group before this one
abbrev pub is_before : ℕ → RpCandidate → RpCandidate → Bool
is_before g c d = contains d.prefix g && is_chosen g d c

-- The candidate's prefix contains the group, and no candidate of the list is chosen before it.
pub record IsFirst (cs : List RpCandidate) (g : ℕ) (c : RpCandidate) : Type 0 where
  pub inside : contains c.prefix g ≡ true
  pub first : list_all (λ d. not (is_before g c d)) cs ≡ true

-- Of the candidates whose prefixes contain a group the first is chosen: that of the longest prefix, of these that of the
-- highest priority, of these that of the greatest value of the hash function, and of these that of the highest address.
abbrev pub FirstIsChosen : Type 0
FirstIsChosen = (cs : List RpCandidate) (g : ℕ) (c : RpCandidate) → chosen_among cs g ≡ Some c → IsFirst cs g c

-- None is chosen only where no prefix contains the group.
abbrev pub NoneIsChosen : Type 0
NoneIsChosen = (cs : List RpCandidate) (g : ℕ) → chosen_among cs g ≡ None
    → list_any (λ (c : RpCandidate). contains c.prefix g) cs ≡ false

-- Values of the hash function that another program printed: FRR 8.4.4, `show ip pim bsrp-info`, for 239.0.0.0/8 with a
-- mask of 30 bits and the RPs 10.99.0.1, 10.88.0.9 and 10.77.0.2.
abbrev pub ValuesAsPrinted : Type 0
ValuesAsPrinted =
    (hash_value 30 0xEF00_0000 0x0A63_0001 ≡ 2067580945) × (hash_value 30 0xEF00_0000 0x0A58_0009 ≡ 240866473)
    × (hash_value 30 0xEF00_0000 0x0A4D_0002 ≡ 53588824)
