-- One group of a Join/Prune, and what its views keep.
use Rattle.std.{specs.Prelude.{◌≡◌, ℕ, ◌+◌, ◌*◌, ◌≤◌, List, length, Result, Ok}}
use Rattle.pim_ip.{specs.{declared.refusal.Refusal.Refusal, Tests.◌>>◌}}
use Rattle.pim_wire.{specs.{Values.Group, Encoded.{field_test, group_test, address_at}, JoinPrunes.{sources_test, groups_test, entries_at, join_count_at, prune_count_at, after_group}}}

-- the tests of the group at place p
unfoldable pub one_group_test : List ℕ → ℕ → Result (Unit {0}) Refusal
one_group_test b p =
    group_test b p
    >> field_test b (p + 8) 4
    >> sources_test b (p + 12) (join_count_at b p + prune_count_at b p)

-- the group at place p, also one that is skipped
abbrev pub group_value : List ℕ → ℕ → Group
group_value b p = record {
  group = address_at b p;
  joins = entries_at b (p + 12) (join_count_at b p);
  prunes = entries_at b (p + 12 + 8 * join_count_at b p) (prune_count_at b p);
}

-- a Join/Prune has a whole group, with its sources, at place p
pub record HasGroup (b : List ℕ) (p : ℕ) : Type 0 where
  pub there : after_group b p ≤ length b

-- a Join/Prune has n whole sources from place p on
pub record HasSources (b : List ℕ) (p n : ℕ) : Type 0 where
  pub there : p + 8 * n ≤ length b

-- a Join/Prune has n groups from place p on that pass their tests
pub record HasGroups (b : List ℕ) (p n : ℕ) : Type 0 where
  pub there : p ≤ length b
  pub tested : groups_test b p n ≡ Ok tt
