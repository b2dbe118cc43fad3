-- The values at the keys of a table of a scenario.
use Rattle.std.{specs.{Prelude.{ℕ, ℤ, pos, negsuc, ◌^◌, Bool, List, [], ◌∷◌, Option, Some, None, option_map, option_and_then, if◌then◌else◌, nat_le, nat_lt, ◌&&◌}, List.{list_all, list_any}, Str.bytes_eq}}
use Rattle.toml.{specs.Data.{Data, Items, no_items, item, Members, no_members, member, get_member, as_bool, as_str, as_integer, as_array, as_table}}

-- A number from 0 and below 2^32.
abbrev pub number_of_integer : ℤ → Option ℕ
number_of_integer (pos n) = if nat_lt n (2 ^ 32) then Some n else None
number_of_integer (negsuc n) = None

abbrev pub number_in : Data → Option ℕ
number_in d = option_and_then number_of_integer (as_integer d)

-- A timestamp, in ms.
abbrev pub moment_of_integer : ℤ → Option ℕ
moment_of_integer (pos n) = Some n
moment_of_integer (negsuc n) = None

abbrev pub moment_of : Data → Option ℕ
moment_of d = option_and_then moment_of_integer (as_integer d)

-- The values of a list.
abbrev pub values_of : Items → List Data
values_of no_items = []
values_of (item d ds) = d ∷ values_of ds

abbrev pub list_of : Data → Option (List Data)
list_of d = option_map values_of (as_array d)

-- The value at a key that is required.
abbrev pub text_at : List ℕ → Members → Option (List ℕ)
text_at key ms = option_and_then as_str (get_member key ms)

abbrev pub table_at : List ℕ → Members → Option Members
table_at key ms = option_and_then as_table (get_member key ms)

abbrev pub number_at : List ℕ → Members → Option ℕ
number_at key ms = option_and_then number_in (get_member key ms)

abbrev pub moment_at : List ℕ → Members → Option ℕ
moment_at key ms = option_and_then moment_of (get_member key ms)

abbrev pub list_at : List ℕ → Members → Option (List Data)
list_at key ms = option_and_then list_of (get_member key ms)

-- The value at a key that may be missing.
abbrev pub read_or : {X : Type 0} → (Data → Option X) → X → Option Data → Option X
read_or read default None = Some default
read_or read default (Some d) = read d

abbrev pub number_or : ℕ → List ℕ → Members → Option ℕ
number_or default key ms = read_or number_in default (get_member key ms)

-- a number, if it lies between two others
abbrev pub between : ℕ → ℕ → ℕ → Option ℕ
between least most n = if nat_le least n && nat_le n most then Some n else None

abbrev pub number_between : ℕ → ℕ → ℕ → List ℕ → Members → Option ℕ
number_between least most default key ms = option_and_then (between least most) (number_or default key ms)

abbrev pub flag_or : Bool → List ℕ → Members → Option Bool
flag_or default key ms = read_or as_bool default (get_member key ms)

abbrev pub list_or_empty : List ℕ → Members → Option (List Data)
list_or_empty key ms = read_or list_of [] (get_member key ms)

abbrev pub optional_text : List ℕ → Members → Option (Option (List ℕ))
optional_text key ms = read_or (λ d. option_map (λ t. Some t) (as_str d)) None (get_member key ms)

abbrev pub optional_table : List ℕ → Members → Option (Option Members)
optional_table key ms = read_or (λ d. option_map (λ t. Some t) (as_table d)) None (get_member key ms)

-- The keys, in their order.
abbrev pub member_names : Members → List (List ℕ)
member_names no_members = []
member_names (member key d ms) = key ∷ member_names ms

abbrev pub is_known : List (List ℕ) → List ℕ → Bool
is_known known key = list_any (λ k. bytes_eq k key) known

-- The table has no other keys than these.
abbrev pub has_only : List (List ℕ) → Members → Bool
has_only known ms = list_all (is_known known) (member_names ms)
