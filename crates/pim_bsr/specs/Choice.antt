-- Which RP of a range is chosen, one for the whole range: that of the highest priority, then the one with the greatest
-- value of the hash function at the range's address, then the highest address (RFC 7761, section 4.7.1, steps 2 to 4).
-- here: the RFC takes the function at each group, so that groups of a range may have different RPs; FRR takes it once
-- a range, as is done here.
use Rattle.std.{specs.{List.list_any, Prelude.{ℕ, Bool, not, ◌&&◌, nat_lt, List}}}
use Rattle.pim_model.{specs.{Candidates.{hash_value, or_else}, Limits.same_prefix}}
use Rattle.pim_bsr.{specs.declared.learned.Learned.Learned}

-- the value of an RP at the address of its range
unfoldable pub range_value : Learned → ℕ
range_value l = hash_value l.hash_length l.prefix.address.bits l.rp.bits

-- of two RPs of a range the first is better; the lower number is the higher priority
unfoldable pub is_better : Learned → Learned → Bool
is_better a b =
    or_else a.priority b.priority (or_else (range_value b) (range_value a) (nat_lt b.rp.bits a.rp.bits))

-- an RP of the same range is better
abbrev pub is_beaten_by : Learned → Learned → Bool
is_beaten_by l q = same_prefix l.prefix q.prefix && is_better q l

-- of the RPs of its range none is better
unfoldable pub is_chosen : List Learned → Learned → Bool
is_chosen rps l = not (list_any (is_beaten_by l) rps)
