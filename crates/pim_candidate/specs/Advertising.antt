-- When a candidate RP advertises itself to the BSR (RFC 5059, section 3.2). Times are in ms.
use Rattle.std.{specs.{Prelude.{ℕ, ◌+◌, ◌-◌, ◌%◌, Bool, true, false, ◌==◌, if◌then◌else◌, Option, Some, None}}}
use Rattle.pim_ip.{specs.declared.addr.Addr.Addr}
use Rattle.pim_candidate.{specs.{declared.advertising.Advertising.Advertising}}

-- C_RP_Adv_Period
abbrev pub period : ℕ
period = 60000

-- how often a new BSR is told after a random delay each, before the first period
abbrev pub first_times : ℕ
first_times = 3

-- C_RP_Adv_Backoff, of the draw of a call: 0 to 3 s
abbrev pub backoff : ℕ → ℕ
backoff draw = draw % 3001

-- no BSR is known
abbrev pub silent : Advertising
silent = record { bsr = None; left = 0; end = 0 }

-- two BSRs are the same, or none both times
abbrev pub same_bsr : Option Addr → Option Addr → Bool
same_bsr None None = true
same_bsr None (Some b) = false
same_bsr (Some a) None = false
same_bsr (Some a) (Some b) = a.bits == b.bits

-- another BSR is elected: it is told soon
abbrev pub told_soon : Option Addr → ℕ → ℕ → Advertising
told_soon None draw now = silent
told_soon (Some b) draw now = record { bsr = Some b; left = first_times; end = now + backoff draw }

-- The elected BSR, which may be another one than before.
unfoldable pub with_bsr : Advertising → Option Addr → ℕ → ℕ → Advertising
with_bsr a bsr draw now = if same_bsr a.bsr bsr then a else told_soon bsr draw now

-- after an advertisement with so many more to come soon, at the timer's end
abbrev pub sent_with : ℕ → Advertising → ℕ → Advertising
sent_with left a draw = record a { left = left; end = a.end + (if left == 0 then period else backoff draw) }

-- An advertisement is sent, at the timer's end.
unfoldable pub sent : Advertising → ℕ → Advertising
sent a draw = sent_with (a.left - 1) a draw
