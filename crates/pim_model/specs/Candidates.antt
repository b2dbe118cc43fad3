-- Which of several candidate RPs a group has (RFC 7761, sections 4.7.1 and 4.7.2). Sections are those of RFC 7761. A line
-- `here:` says where this profile decides what the RFC leaves open, or does otherwise.
use Rattle.std.{specs.Prelude.{Bool, List, None, Option, Some, [], bit_xor, if◌then◌else◌, nat_lt, ℕ, ◌%◌, ◌*◌, ◌+◌, ◌-◌, ◌/◌, ◌==◌, ◌^◌, ◌∷◌}}
use Rattle.pim_ip.{specs.Prefixes.contains}
use Rattle.pim_types.{specs.declared.config.RpCandidate.RpCandidate}

-- ---- the hash function (4.7.2)

-- G & M: the first so many bits of a group; the rest are 0
abbrev pub masked : ℕ → ℕ → ℕ
masked length g = g / 2 ^ (32 - length) * 2 ^ (32 - length)

-- Value(G,M,C(i)) = (1103515245 * ((1103515245 * (G & M) + 12345) XOR C(i)) + 12345) mod 2^31, with a mask M of so many
-- bits and the address C(i) of an RP
unfoldable pub hash_value : ℕ → ℕ → ℕ → ℕ
hash_value length g c =
    (1103515245 * bit_xor (1103515245 * masked length g + 12345) c + 12345) % 2 ^ 31

-- the value of a candidate for a group
abbrev pub candidate_value : ℕ → RpCandidate → ℕ
candidate_value g c = hash_value c.hash_length g c.rp.bits

-- ---- the choice (4.7.1)

-- the first number is the lower one; where both are equal, the next test decides
abbrev pub or_else : ℕ → ℕ → Bool → Bool
or_else a b next = if a == b then next else nat_lt a b

-- Of two candidates whose prefixes contain a group the first is chosen: that of the longer prefix (step 1); of one prefix
-- that of the higher priority, which is the lower number (step 2); then that of the greater value of the hash function
-- (step 4), and where they are equal the higher address (4.7.2).
unfoldable pub is_chosen : ℕ → RpCandidate → RpCandidate → Bool
is_chosen g a b =
    or_else b.prefix.length a.prefix.length
    (or_else a.priority b.priority
    (or_else (candidate_value g b) (candidate_value g a) (nat_lt b.rp.bits a.rp.bits)))

-- of a candidate and another, if there is one, the one that is chosen
unfoldable pub chosen : ℕ → RpCandidate → Option RpCandidate → RpCandidate
chosen g c None = c
chosen g c (Some best) = if is_chosen g best c then best else c

-- of the candidates whose prefixes contain a group the one that is chosen
unfoldable pub chosen_among : List RpCandidate → ℕ → Option RpCandidate
chosen_among [] g = None
chosen_among (c ∷ cs) g =
    let best : Option RpCandidate = chosen_among cs g in
    if contains c.prefix g then Some (chosen g c best) else best
