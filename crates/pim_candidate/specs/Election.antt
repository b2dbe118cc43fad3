-- The machine of a candidate BSR (RFC 5059, section 3.1.1), without zones: which BSRs it yields to, and when it is one itself.
-- Times are in ms.
use Rattle.std.{specs.{Prelude.{ℕ, zero, suc, ◌+◌, ◌-◌, ◌*◌, ◌/◌, ◌^◌, max, min, Bool, ◌||◌, ◌&&◌, ◌==◌, nat_le, nat_lt, false, true, if◌then◌else◌, Option, Some, None}}}
use Rattle.pim_bsr.{specs.Table.bs_timeout}
use Rattle.pim_candidate.{specs.{declared.election.{Action.Action, Bsr.Bsr, Election.Election, Outcome.Outcome, Role.Role}}}

-- ---- weights and delays (sections 3.1.4 and 5)

-- a BSR has the weight of another one or more: its priority decides, and then its address
unfoldable pub is_at_least : Bsr → Bsr → Bool
is_at_least a b = nat_lt b.priority a.priority || ((a.priority == b.priority) && nat_le b.address.bits a.address.bits)

-- BS_Period
abbrev pub bs_period : ℕ
bs_period = 60000

-- BS_Min_Interval
abbrev pub bs_min_interval : ℕ
bs_min_interval = 10000

-- the whole part of the logarithm to base 2, of a number for which it is no more than `most`
unfoldable pub whole_log : ℕ → ℕ → ℕ
whole_log zero n = 0
whole_log (suc most) n =
    let less : ℕ = whole_log most n in
    if nat_le (2 ^ (suc most)) n then suc most else less

-- 1000 log_2 of a number up to 2^32; here: between powers of two it rises in a line, which is at most 87 less
unfoldable pub milli_log : ℕ → ℕ
milli_log n = let k = whole_log 32 n in 1000 * k + 1000 * (n - 2 ^ k) / 2 ^ k

-- the priority and the address of a BSR that was elected, where they are higher than a candidate's own
abbrev pub best_priority : Bsr → Option Bsr → ℕ
best_priority own None = own.priority
best_priority own (Some b) = max b.priority own.priority

abbrev pub best_address : Bsr → Option Bsr → ℕ
best_address own None = own.address.bits
best_address own (Some b) = max b.address.bits own.address.bits

-- priorityDelay
abbrev pub priority_delay : Bsr → Option Bsr → ℕ
priority_delay own stored = 2 * milli_log (1 + best_priority own stored - own.priority)

-- addrDelay
abbrev pub address_delay : Bsr → Option Bsr → ℕ
address_delay own stored =
    if best_priority own stored == own.priority
    then milli_log (1 + best_address own stored - own.address.bits) / 16
    else 2000 - 1000 * own.address.bits / 2 ^ 31

-- BS_Rand_Override: 5 to 23 s, less for a candidate of more weight
unfoldable pub override_delay : Bsr → Option Bsr → ℕ
override_delay own stored = 5000 + priority_delay own stored + address_delay own stored

-- ---- states

-- the candidate is the BSR
abbrev pub is_elected : Role → Bool
is_elected Role.Candidate = false
is_elected Role.Pending = false
is_elected Role.Elected = true

-- It may become the BSR, but not sooner than BS_Min_Interval after its last message (3.3).
abbrev pub pending : Bsr → Option Bsr → ℕ → ℕ → Election
pending own stored quiet now = record {
  own = own;
  role = Role.Pending;
  stored = stored;
  end = max (now + override_delay own stored) quiet;
  quiet = quiet;
}

-- a candidate BSR that begins at a timestamp
abbrev pub begun : Bsr → ℕ → Election
begun own now = pending own None now now

-- it hears another BSR
abbrev pub yielded : Election → Bsr → ℕ → Election
yielded e b now = record e { role = Role.Candidate; stored = Some b; end = now + bs_timeout }

-- it originates a Bootstrap
abbrev pub originated : Election → ℕ → Election
originated e now =
    record e { role = Role.Elected; stored = None; end = now + bs_period; quiet = now + bs_min_interval }

-- the machine after an event, and what is to be done
abbrev pub does : Action → Election → Outcome
does action e = record { left = e; action = action }

-- ---- a Bootstrap that may count, by its BSR (the checks of 3.1.3 are done)

-- A message of a BSR with less weight, in each state: an elected BSR says at once that it is one, but not sooner than
-- BS_Min_Interval after its last message; one that may become it passes the message on; another ignores it.
abbrev pub less_heard : Role → Election → ℕ → Outcome
less_heard Role.Candidate e now = does Action.Nothing e
less_heard Role.Pending e now = does Action.PassOn e
less_heard Role.Elected e now =
    if nat_le e.quiet now then does Action.Originate (originated e now) else does Action.Nothing (record e { end = min e.end e.quiet })

-- A message of the BSR that it yields to, whose weight may have changed: while it isn't less than its own it yields; else it
-- may become the BSR itself, after a delay by the weight that the BSR had.
abbrev pub elected_heard : Election → Bsr → ℕ → Outcome
elected_heard e b now =
    if is_at_least b e.own then does Action.Take (yielded e b now) else does Action.PassOn (pending e.own e.stored e.quiet now)

-- a message of a BSR beside one of some weight
abbrev pub other_heard : Election → Bsr → Bsr → ℕ → Outcome
other_heard e current b now =
    if is_at_least b current then does Action.Take (yielded e b now) else less_heard e.role e now

-- A candidate compares a message with the BSR that it yields to; one that yields to none compares with itself.
abbrev pub weighed : Role → Option Bsr → Election → Bsr → ℕ → Outcome
weighed Role.Candidate None e b now = other_heard e e.own b now
weighed Role.Candidate (Some current) e b now =
    if b.address.bits == current.address.bits then elected_heard e b now else other_heard e current b now
weighed Role.Pending stored e b now = other_heard e e.own b now
weighed Role.Elected stored e b now = other_heard e e.own b now

-- A message; one of its own changes nothing.
unfoldable pub heard : Election → Bsr → ℕ → Outcome
heard e b now =
    if b.address.bits == e.own.address.bits then does Action.Nothing e else weighed e.role e.stored e b now

-- ---- its timer, at its end

abbrev pub expired_in : Role → Election → Outcome
expired_in Role.Candidate e = does Action.Nothing (pending e.own e.stored e.quiet e.end)
expired_in Role.Pending e = does Action.Originate (originated e e.end)
expired_in Role.Elected e = does Action.Originate (originated e e.end)

unfoldable pub expired : Election → Outcome
expired e = expired_in e.role e

-- ---- other RPs

-- An elected BSR whose RPs are others says them as soon as it may (3.3).
abbrev pub hastened_in : Role → Election → ℕ → Election
hastened_in Role.Candidate e now = e
hastened_in Role.Pending e now = e
hastened_in Role.Elected e now = record e { end = min e.end (max now e.quiet) }

unfoldable pub hastened : Election → ℕ → Election
hastened e now = hastened_in e.role e now
