-- Facts as rows of tables, each under its key, in the order of the keys. One key serves every fact and
-- every timer.
use Rattle.std.{specs.{BTreeMap.{insert_entry, is_at}, List.{list_any, range_with_len}, Map.lookup, Prelude.{Bool, List, None, Option, Some, [], false, filter, filter_map, fold, if◌then◌else◌, is_some, map, max, nat_lt, not, option_map, true, ℕ, ◌%◌, ◌&&◌, ◌+◌, ◌-◌, ◌==◌, ◌∷◌}}}
use Rattle.pim_ip.{specs.{Addr.addr, declared.addr.Addr.Addr}}
use Rattle.pim_types.{specs.{Keys.{is_on, key_cmp, same_key}, declared.{config.IfaceId.IfaceId, fact.Key.Key, path.Hop.Hop}}}

-- a list of rows, each under its key, ascending
abbrev pub Table : Type 0 → Type 0
Table R = List (Key × R)

module _ {R : Type 0} where
  -- the row at a key
  unfoldable pub row_at : Table R → Key → Option R
  row_at t k = lookup (is_at (key_cmp k)) t

  -- a table has a row at a key
  unfoldable pub has_row : Table R → Key → Bool
  has_row t k = is_some (row_at t k)

  -- the table with this row at a key
  unfoldable pub put : Table R → Key → R → Table R
  put t k row = insert_entry key_cmp t k row

  -- the table without the rows whose key passes
  unfoldable pub drop_where : (Key → Bool) → Table R → Table R
  drop_where test t = filter (λ e. not (test e.0)) t

  -- the table without the row at a key
  unfoldable pub drop_at : Table R → Key → Table R
  drop_at t k = drop_where (same_key k) t

  -- the entry at a key after a change of its row, which may remove it
  unfoldable pub changed_entry : (R → Option R) → Key → Key × R → Option (Key × R)
  changed_entry change k e = if same_key k e.0 then option_map (λ row. (e.0, row)) (change e.1) else Some e

  -- the table after a change of the row at a key, in its place
  unfoldable pub change_row : (R → Option R) → Key → Table R → Table R
  change_row change k t = filter_map (changed_entry change k) t

  -- the table with this row at a key, or without one
  unfoldable pub set_row : Table R → Key → Option R → Table R
  set_row t k None = drop_at t k
  set_row t k (Some row) = put t k row

  -- the rows whose key passes
  unfoldable pub rows_where : (Key → Bool) → Table R → Table R
  rows_where test t = filter (λ e. test e.0) t

  -- the rows of an interface
  unfoldable pub rows_on : ℕ → Table R → Table R
  rows_on i t = filter (λ e. is_on i e.0) t

  -- the keys of a table
  unfoldable pub keys_in : Table R → List Key
  keys_in t = map (λ e. e.0) t

-- the whole numbers below n
abbrev pub below : ℕ → List ℕ
below n = range_with_len 0 n

-- an ascending list without repeats, with a number added in its place
unfoldable pub insert_number : ℕ → List ℕ → List ℕ
insert_number n [] = n ∷ []
insert_number n (m ∷ ms) =
    let later : List ℕ = insert_number n ms in
    if nat_lt n m then n ∷ m ∷ ms else (if n == m then m ∷ ms else m ∷ later)

-- the numbers of a list, ascending and without repeats
unfoldable pub ascending : List ℕ → List ℕ
ascending ns = fold (λ sorted n. insert_number n sorted) [] ns

-- a number is in a list
unfoldable pub is_among : ℕ → List ℕ → Bool
is_among n ns = list_any (λ m. m == n) ns

-- two Booleans are the same
abbrev pub same_bool : Bool → Bool → Bool
same_bool true b = b
same_bool false b = not b

-- a list has no item
abbrev pub is_empty_list : {X : Type 0} → List X → Bool
is_empty_list [] = true
is_empty_list (x ∷ xs) = false

-- two options of numbers, or of pairs of an interface and an address, are equal
abbrev pub same_option : Option ℕ → Option ℕ → Bool
same_option None None = true
same_option None (Some n) = false
same_option (Some m) None = false
same_option (Some m) (Some n) = m == n

-- an interface and a neighbour on it
abbrev pub hop_at : ℕ → ℕ → Hop
hop_at i address = record { iface = record { number = i }; address = addr address }

-- two neighbours are equal, or both none
abbrev pub same_hop : Option Hop → Option Hop → Bool
same_hop None None = true
same_hop None (Some h) = false
same_hop (Some h) None = false
same_hop (Some h) (Some k) = (h.iface.number == k.iface.number) && (h.address.bits == k.address.bits)

-- two addresses are equal, or both none
abbrev pub same_address : Option Addr → Option Addr → Bool
same_address a b = same_option (option_map (λ (x : Addr). x.bits) a) (option_map (λ (x : Addr). x.bits) b)

-- two interfaces are equal, or both none
abbrev pub same_iface : Option IfaceId → Option IfaceId → Bool
same_iface a b = same_option (option_map (λ (x : IfaceId). x.number) a) (option_map (λ (x : IfaceId). x.number) b)

-- the later of two timestamps, where `None` is never
abbrev pub later_end : Option ℕ → Option ℕ → Option ℕ
later_end (Some a) (Some b) = Some (max a b)
later_end _ _ = None

-- rand(low, high); here: the number w, which an event carries, says which
unfoldable pub delay_in : ℕ → ℕ → ℕ → ℕ
delay_in low high w = low + w % (high - low + 1)
