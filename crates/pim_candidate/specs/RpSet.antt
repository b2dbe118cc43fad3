-- The candidate RPs that an elected BSR knows by their advertisements, and the ranges that it says for them (RFC 5059,
-- section 3.3). Times are in ms.
use Rattle.std.{specs.{List.{list_all, list_any}, Prelude.{ℕ, ◌+◌, ◌*◌, ◌^◌, ◌<◌, Bool, ◌&&◌, ◌==◌, max, min, not, nat_lt, if◌then◌else◌, List, [], ◌∷◌, ◌++◌, filter, fold, length, map, Option, Some, None}}}
use Rattle.pim_ip.{specs.{Addr.addr, declared.addr.Prefix.Prefix}}
use Rattle.pim_model.{specs.Limits.same_prefix}
use Rattle.pim_bootstrap.{specs.{Advertisements.{Advertisement, advertised_prefix}, Fragments.RangeRps, declared.{advertisement.AdvertisedRange.AdvertisedRange, bootstrap.CandidateRp.CandidateRp}}}
use Rattle.pim_bsr.{specs.Table.bs_timeout}
use Rattle.pim_candidate.{specs.declared.rp_set.{Gone.Gone, Held.Held, Said.Said}}

-- The RPs of ranges, with the ends of their Group-to-C-RP mapping Expiry Timers, and the ranges of which the last RP went: they
-- are said without RPs until all routers know it (4.1.1).
pub record RpSet : Type 0 where
  pub held : List Held
  pub gone : List Gone

abbrev pub empty : RpSet
empty = record { held = []; gone = [] }

-- the range of an RP, and of one that went
abbrev pub held_prefix : Held → Prefix
held_prefix h = record { address = h.group; length = h.length }

abbrev pub gone_prefix : Gone → Prefix
gone_prefix g = record { address = g.group; length = g.length }

-- the RP is of the range
abbrev pub is_of : Prefix → Held → Bool
is_of p h = same_prefix p (held_prefix h)

-- two RPs are the same of the same range
abbrev pub is_mapping : Held → Held → Bool
is_mapping a b = is_of (held_prefix a) b && (a.rp.address.bits == b.rp.address.bits)

-- ---- advertisements

-- the RP of a range until its holdtime is over
abbrev pub held_from : ℕ → CandidateRp → AdvertisedRange → Held
held_from now c r = record {
  group = (advertised_prefix r).address;
  length = r.length;
  rp = c;
  end = now + 1000 * c.holdtime;
}

-- without an RP of a range
abbrev pub without : Held → List Held → List Held
without h held = filter (λ old. not (is_mapping h old)) held

-- an RP of a range: one of holdtime 0 goes, and a new one comes where there are less than `limit` others
abbrev pub with_rp : ℕ → Held → List Held → List Held
with_rp limit h others =
    if h.rp.holdtime == 0 then others else (if nat_lt (length others) limit then others ++ h ∷ [] else others)

-- a range of an advertisement; one for BIDIR (B) isn't taken
unfoldable pub with_range : ℕ → ℕ → CandidateRp → List Held → AdvertisedRange → List Held
with_range now limit c held r =
    if r.bidir then held else with_rp limit (held_from now c r) (without (held_from now c r) held)

-- the RP of an advertisement
abbrev pub advertised_rp : Advertisement → CandidateRp
advertised_rp a = record { address = addr a.rp; holdtime = a.holdtime; priority = a.priority }

-- the RPs after an advertisement that came at a timestamp
abbrev pub held_after : ℕ → ℕ → List Held → Advertisement → List Held
held_after now limit held a = fold (with_range now limit (advertised_rp a)) held a.ranges

-- ---- ranges that go

-- the range has an RP
abbrev pub has_rp : List Held → Prefix → Bool
has_rp held p = list_any (is_of p) held

-- the first RP of a range
abbrev pub with_first : List Held → Held → List Held
with_first firsts h = if has_rp firsts (held_prefix h) then firsts else firsts ++ h ∷ []

-- the first RP of each range
unfoldable pub firsts : List Held → List Held
firsts held = fold with_first [] held

-- a range whose last RP went
abbrev pub gone_from : ℕ → Held → Gone
gone_from now h = record { group = h.group; length = h.length; until = now + bs_timeout }

-- a range that is said without RPs still is so
abbrev pub stays_gone : ℕ → List Held → Gone → Bool
stays_gone now held g = nat_lt now g.until && not (has_rp held (gone_prefix g))

-- the range of the RP has none
abbrev pub is_lost : List Held → Held → Bool
is_lost after h = not (has_rp after (held_prefix h))

-- the ranges that are said without RPs, after others were held
unfoldable pub gone_after : ℕ → List Gone → List Held → List Held → List Gone
gone_after now gone before after =
    filter (stays_gone now after) gone ++ map (gone_from now) (filter (is_lost after) (firsts before))

-- other RPs in the place of those that were there
abbrev pub replaced : ℕ → RpSet → List Held → RpSet
replaced now s held = record { held = held; gone = gone_after now s.gone s.held held }

-- ---- events

-- an advertisement that came at a timestamp
abbrev pub advertised : ℕ → ℕ → RpSet → Advertisement → RpSet
advertised now limit s a = replaced now s (held_after now limit s.held a)

-- the RP's timer runs
abbrev pub runs : ℕ → Held → Bool
runs now h = nat_lt now h.end

-- time passed to a timestamp
abbrev pub passed : ℕ → RpSet → RpSet
passed now s = replaced now s (filter (runs now) s.held)

-- of two timestamps, if there are any, the earlier
abbrev pub earlier : Option ℕ → Held → Option ℕ
earlier None h = Some h.end
earlier (Some end) h = Some (min end h.end)

-- when the first timer expires
unfoldable pub first_end : List Held → Option ℕ
first_end held = fold earlier None held

-- ---- what is said

-- The holdtime that is said is more than BS_Period, and no less than two and a half times that: it is 150 s at least.
abbrev pub said_rp : Held → CandidateRp
said_rp h = record { address = h.rp.address; holdtime = max h.rp.holdtime 150; priority = h.rp.priority }

-- a range with its RPs
abbrev pub said_range : List Held → Held → RangeRps
said_range held h = record { prefix = held_prefix h; rps = map said_rp (filter (is_of (held_prefix h)) held) }

-- a range that goes
abbrev pub said_gone : Gone → RangeRps
said_gone g = record { prefix = gone_prefix g; rps = [] }

-- the ranges that Bootstraps say
unfoldable pub said : RpSet → List RangeRps
said s = map (said_range s.held) (firsts s.held) ++ map said_gone s.gone

-- ---- whether routers are to be told

-- the RPs differ in their ends alone
abbrev pub same_held : Held → Held → Bool
same_held a b = is_mapping a b && ((a.rp.holdtime == b.rp.holdtime) && (a.rp.priority == b.rp.priority))

unfoldable pub has_held : List Held → Held → Bool
has_held held h = list_any (same_held h) held

-- as many RPs, and each was there before
unfoldable pub same_rps : List Held → List Held → Bool
same_rps before after = (length before == length after) && list_all (has_held before) after

-- ---- how it is written

-- a range with its RPs
abbrev pub said_value : Said → RangeRps
said_value r = record { prefix = record { address = r.group; length = r.length }; rps = r.rps.items }

-- its RPs are counted in a byte
abbrev pub IsShort : Said → Type 0
IsShort r = length r.rps.items < 2 ^ 8
