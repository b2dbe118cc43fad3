-- A list of values under prefixes, and a trie of the same values.
use Rattle.std.{specs.{Prelude.{◌≡◌, ℕ, Bool, List, map, option_map}, List.list_any}}
use Rattle.pim_ip.{specs.{declared.addr.Prefix.Prefix, Prefixes.longest_match}}
use Rattle.pim_trie.{specs.Entries.nodes_along}

module _ {T : Type 0} (prefix_of : T → Prefix) where
  -- the value under its prefix
  abbrev pub prefix_entry : T → Prefix × T
  prefix_entry value = (prefix_of value, value)

  -- the trie answers as the list does
  pub record IsIndexOf (values : List T) (entries : List (Prefix × T)) : Type 0 where
    pub holds : (test : Prefix × T → Bool) → list_any test entries ≡ list_any test (map prefix_entry values)
    pub finds : (address : ℕ) → longest_match (λ e. e.0) entries address ≡ option_map prefix_entry (longest_match prefix_of values address)

  -- how many nodes of the trie a look-up of an address visits
  unfoldable pub nodes_visited : List T → ℕ → ℕ
  nodes_visited values address = nodes_along (map prefix_entry values) address 32
