-- As what a router of a scenario stands in an election of RFC 5059: its tables at `candidate_bsr` and `candidate_rp`.
use Rattle.std.{specs.{Prelude.{◌≡◌, ◌≤◌, ◌&&◌, ◌||◌, nat_le, nat_lt, ⊤, ℕ, Bool, false, true, List, [], ◌∷◌, codes, length, Option, Some, None, option_and_then, option_map, ◌==◌}, List.{AllZip, before_first, list_any, position_or_len}, Option.option_map_or, Str.bytes_eq}}
use Rattle.toml.{specs.Data.{Data, Members, as_str, as_table}}
use Rattle.pim_ip.{specs.{Ipv4.is_multicast, declared.addr.{Addr.Addr, Prefix.Prefix}}}
use Rattle.pim_scenario.{specs.{declared.scenario.{BsrText.BsrText, RpText.RpText, StandingText.StandingText}, Fields.{flag_or, has_only, list_at, list_or_empty, number_between, optional_table, text_at}, Texts.{IsAddressText, IsPrefixText}}}

-- ---- one of the router's own addresses

-- the text stands before a slash (47) of another
abbrev pub is_before_slash : List ℕ → List ℕ → Bool
is_before_slash text subnet =
    nat_lt (position_or_len (λ c. c == 47) subnet) (length subnet)
    && bytes_eq (before_first (λ c. c == 47) subnet) text

-- an interface has the address that the text writes
abbrev pub has_address : List ℕ → Data → Bool
has_address text d =
    option_map_or (is_before_slash text) (option_and_then (text_at (codes "address")) (as_table d)) false

-- the value is the text
abbrev pub writes : List ℕ → Data → Bool
writes text d = option_map_or (λ written. bytes_eq written text) (as_str d) false

-- The text writes an address of an interface, or one of no interface.
abbrev pub owns : Members → List ℕ → Option Bool
owns router text =
    option_and_then (λ interfaces.
    option_map (λ addresses. list_any (has_address text) interfaces || list_any (writes text) addresses)
    (list_or_empty (codes "addresses") router)) (list_at (codes "iface") router)

-- The address of a candidate is one of the router's own, and the router hears Bootstraps.
pub record IsOwnAddress (router ms : Members) (a : Addr) : Type 0 where
  pub text : List ℕ
  pub there : text_at (codes "address") ms ≡ Some text
  pub heard : flag_or false (codes "bsr") router ≡ Some true
  pub own : owns router text ≡ Some true
  pub address : IsAddressText text a

-- ---- the candidate BSR (3.1), whose priority is 64 where none is set (4.1)

abbrev pub bsr_keys : List (List ℕ)
bsr_keys = codes "address" ∷ codes "priority" ∷ codes "hash_length" ∷ codes "limit" ∷ []

-- A table `candidate_bsr` of a router's table is a candidate BSR.
pub record IsBsr (router ms : Members) (b : BsrText) : Type 0 where
  pub keys : has_only bsr_keys ms ≡ true
  pub address : IsOwnAddress router ms b.address
  pub priority : number_between 0 255 64 (codes "priority") ms ≡ Some b.priority
  pub hash_length : number_between 0 32 30 (codes "hash_length") ms ≡ Some b.hash_length
  pub limit : number_between 1 255 255 (codes "limit") ms ≡ Some b.limit

-- ---- the candidate RP (3.2)

abbrev pub rp_keys : List (List ℕ)
rp_keys = codes "address" ∷ codes "priority" ∷ codes "ranges" ∷ []

-- the prefix is of groups, with a mask as an advertisement has it (4.2)
abbrev pub is_range : Prefix → Bool
is_range p = is_multicast p.address.bits && (nat_le 4 p.length && nat_le p.length 32)

-- a text writes a range of groups
abbrev pub IsRangeText : List ℕ → Prefix → Type 0
IsRangeText text p = IsPrefixText text p × (is_range p ≡ true)

-- the value is a text, which writes the range
abbrev pub WritesRange : Data → Prefix → Type 0
WritesRange d p = (text : List ℕ) × (as_str d ≡ Some text) × IsRangeText text p

-- The values write ranges, at least one, and no more than a packet of 1,500 bytes holds.
pub record AreRanges (ds : List Data) (ranges : List Prefix) : Type 0 where
  pub some : 1 ≤ length ds
  pub most : length ds ≤ 183
  pub each : AllZip WritesRange ds ranges

-- A table `candidate_rp` of a router's table is a candidate RP.
pub record IsRp (router ms : Members) (r : RpText) : Type 0 where
  pub keys : has_only rp_keys ms ≡ true
  pub address : IsOwnAddress router ms r.address
  pub priority : number_between 0 255 192 (codes "priority") ms ≡ Some r.priority
  pub values : List Data
  pub listed : list_at (codes "ranges") ms ≡ Some values
  pub ranges : AreRanges values r.ranges

-- ---- both

-- what the table at a key is, if the key is there
abbrev pub IsThatOf : {X : Type 0} → (Members → X → Type 0) → Option (Option Members) → Option X → Type 0
IsThatOf Is (Some None) None = ⊤
IsThatOf Is (Some (Some ms)) (Some x) = Is ms x
IsThatOf Is table x = ⊥

-- As what the router of a table stands.
pub record IsStanding (router : Members) (s : StandingText) : Type 0 where
  pub bsr : IsThatOf (IsBsr router) (optional_table (codes "candidate_bsr") router) s.bsr
  pub rp : IsThatOf (IsRp router) (optional_table (codes "candidate_rp") router) s.rp
