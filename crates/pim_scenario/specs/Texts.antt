-- The texts in which a scenario writes bytes and numbers.
use Rattle.std.{specs.{Prelude.{◌≡◌, ⊤, ℕ, ◌+◌, ◌-◌, ◌*◌, ◌^◌, ◌&&◌, List, [], ◌∷◌, Option, Some, None, option_map, option_and_then, Result, Ok, Err, if◌then◌else◌, nat_le, ◌==◌, ◌<◌, length}, List.{before_first, after_first, position_or_len}, Str.Parse.{IsNumeral, digits_value}}}
use Rattle.pim_ip.{specs.{Addr.dotted_text, declared.addr.{Addr.Addr, Prefix.Prefix}}}
use Rattle.pim_scenario.{specs.declared.scenario.Unread.{Unread, TheVariants.{Wrong, NoMemory}}}

-- what was read is what there is, and nothing was wrong that is there; memory may have run out
abbrev pub Reads : {X V : Type 0} → (X → V) → Result X Unread → Option V → Type 0
Reads view (Ok x) there = there ≡ Some (view x)
Reads view (Err Wrong) there = there ≡ None
Reads view (Err NoMemory) there = ⊤

-- what was read is what is said, and where something was wrong nothing can be said; memory may have
-- run out
abbrev pub ReadsExactly : {X : Type 0} → (X → Type 0) → Result X Unread → Type 0
ReadsExactly Says (Ok x) = Says x
ReadsExactly {X} Says (Err Wrong) = (x : X) → Says x → ⊥
ReadsExactly Says (Err NoMemory) = ⊤

-- a hexadecimal digit, in either case
abbrev pub digit_of : ℕ → Option ℕ
digit_of c =
    if nat_le 48 c && nat_le c 57 then Some (c - 48)
    else (if nat_le 97 c && nat_le c 102 then Some (c - 97 + 10)
    else (if nat_le 65 c && nat_le c 70 then Some (c - 65 + 10) else None))

abbrev pub pair_before : Option ℕ → Option ℕ → Option (List ℕ) → Option (List ℕ)
pair_before high low rest =
    option_and_then (λ h. option_and_then (λ l. option_map (λ bytes. (h * 16 + l) ∷ bytes) rest) low) high

-- bytes of two hexadecimal digits each
abbrev pub hex_of : List ℕ → Option (List ℕ)
hex_of [] = Some []
hex_of (high ∷ []) = None
hex_of (high ∷ low ∷ rest) = pair_before (digit_of high) (digit_of low) (hex_of rest)

-- decimal digits that write n, without a sign
pub record IsNumberText (text : List ℕ) (n : ℕ) : Type 0 where
  pub numeral : IsNumeral 10 text
  pub value : n ≡ digits_value 10 text
  pub below : n < 2 ^ 32

-- what is printed of the address
abbrev pub IsAddressText : List ℕ → Addr → Type 0
IsAddressText text a = (a.bits < 2 ^ 32) × (text ≡ dotted_text a.bits)

-- an address, a slash (47) and a length
abbrev pub IsPrefixText : List ℕ → Prefix → Type 0
IsPrefixText text p =
    IsAddressText (before_first (λ c. c == 47) text) p.address
    × IsNumberText (after_first (λ c. c == 47) text) p.length
    × (position_or_len (λ c. c == 47) text < length text)
