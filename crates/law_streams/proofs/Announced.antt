-- A Hello that is read from bytes announces an override interval of two bytes.
use Rattle.std.{proofs.Common.{ℕ, zero, suc, ◌+◌, ◌*◌, ◌<◌, ◌≤◌, nat_le, Bool, true, false, cond, List, [], ◌∷◌, length, Option, Some, Ok, Err, Result, arith}, specs.{Prelude.{drop, slice_index, take}, List.AllByRecursion}}
use Rattle.pim_ip.{specs.{Ipv4.{Packet, ipv4_reading, packet_of}, Tests.{expect, ◌>>◌}, declared.{lan.LanDelay.LanDelay, refusal.Refusal.Refusal}}}
use Rattle.pim_wire.{specs.{Hellos.{hello_of, lan_delay_at, with_option, with_options}, Messages.{body_reading, pim_reading}, declared.{hello.Hello.Hello as HelloValue, view.PimView.PimView}}}
use Rattle.law_settled.{proofs.ListLaws.by_cond}
use Rattle.law_streams.{specs.Uncounted.longest_override, proofs.OverrideEnds.IsShort}

-- ---- bytes

abbrev pub AreSmall : List ℕ → Type 0
AreSmall b = AllByRecursion (λ x. x < 256) b

small_at : (b : List ℕ) (i : ℕ) → AreSmall b → slice_index b i < 256
small_at [] i f = omega arith
small_at (x ∷ xs) zero f = f.0
small_at (x ∷ xs) (suc i) f = small_at xs i f.1

small_drop : (i : ℕ) (b : List ℕ) → AreSmall b → AreSmall (drop i b)
small_drop zero b f = f
small_drop (suc i) [] f = tt
small_drop (suc i) (x ∷ xs) f = small_drop i xs f.1

small_take : (i : ℕ) (b : List ℕ) → AreSmall b → AreSmall (take i b)
small_take zero b f = tt
small_take (suc i) [] f = tt
small_take (suc i) (x ∷ xs) f = (f.0, small_take i xs f.1)

two_bytes : (x y : ℕ) → x < 256 → y < 256 → x * 256 + (y * 1 + 0) ≤ longest_override
two_bytes x y a b = omega (arith, a, b)

-- ---- a Hello

at_short : (b : List ℕ) (p : ℕ) → AreSmall b → (lan_delay_at b p).override_interval ≤ longest_override
unfolding lan_delay_at
at_short b p f = two_bytes (slice_index b (p + 2)) (slice_index b (suc (p + 2))) (small_at b (p + 2) f) (small_at b (suc (p + 2)) f)

record IsSaidShort (h : HelloValue) : Type 0 where
  short : IsShort h.lan_delay

-- an option of each kind, or none that is known
chosen_short : (holds lan prior born : Bool) (holdtime priority generation : Option ℕ) (d : LanDelay) (h : HelloValue)
    → d.override_interval ≤ longest_override → IsSaidShort h
    → IsSaidShort (cond holds (record h { holdtime = holdtime }) (cond lan (record h { lan_delay = Some d })
    (cond prior (record h { priority = priority }) (cond born (record h { generation = generation }) h))))
chosen_short holds lan prior born holdtime priority generation d h le f = grind arith

option_short : (b : List ℕ) (p : ℕ) (h : HelloValue) → AreSmall b → IsSaidShort h → IsSaidShort (with_option b p h)
unfolding with_option
option_short b p h small f = grind (arith, chosen_short, at_short)

options_short : (b : List ℕ) (most p : ℕ) (h : HelloValue) → AreSmall b → IsSaidShort h → IsSaidShort (with_options b p most h)
unfolding with_options
options_short b zero p h small f = f
options_short b (suc most) p h small f = go (nat_le (length b) p) _ (options_short b most _ (with_option b p h) small (option_short b p h small f))
  where
    go : (e : Bool) (later : HelloValue) → IsSaidShort later → IsSaidShort (elim e [ true ↦ h | false ↦ later ])
    go true later g = f
    go false later g = g

hello_short : (b : List ℕ) → AreSmall b → IsSaidShort (hello_of b)
unfolding hello_of
hello_short b small = options_short b (length b) 4 _ small (record { short = tt })

-- ---- a message

abbrev pub IsGood : PimView → Type 0
IsGood (PimView.Hello h) = IsShort h.lan_delay
IsGood view = Unit {0}

abbrev pub ReadsGood : Result PimView Refusal → Type 0
ReadsGood (Ok view) = IsGood view
ReadsGood (Err refusal) = Unit {0}

pub record ReadsShort (r : Result PimView Refusal) : Type 0 where
  pub reads : ReadsGood r

so_reads : (view : PimView) → IsGood view → ReadsShort (Ok view)
so_reads view f = record { reads = f }

tested : (r : Result (Unit {0}) Refusal) (next : Result PimView Refusal) → ReadsShort next → ReadsShort (r >> next)
tested r next f = grind arith

body_short : (type : ℕ) (b : List ℕ) → AreSmall b → ReadsShort (body_reading type b)
unfolding body_reading
body_short type b small = grind (arith, by_cond, tested, so_reads, hello_short)

and_so : (c : Bool) (refusal : Refusal) (next : Result PimView Refusal) → ReadsShort next → ReadsShort (expect c refusal >> next)
and_so c refusal next f = grind arith

pub message_short : (b : List ℕ) → AreSmall b → ReadsShort (pim_reading b)
unfolding pim_reading
message_short b small = grind (arith, and_so, body_short)

-- ---- the payload of a packet

abbrev pub ReadsBytes : Result Packet Refusal → Type 0
ReadsBytes (Ok p) = AreSmall p.payload
ReadsBytes (Err refusal) = Unit {0}

pub record ReadsSmall (r : Result Packet Refusal) : Type 0 where
  pub reads : ReadsBytes r

and_tested : (c : Bool) (refusal : Refusal) (next : Result Packet Refusal) → ReadsSmall next → ReadsSmall (expect c refusal >> next)
and_tested c refusal next f = grind arith

payload_small : (b : List ℕ) → AreSmall b → ReadsSmall (Ok (packet_of b))
unfolding packet_of
payload_small b small = record { reads = small_take _ _ (small_drop _ b small) }

pub packet_small : (b : List ℕ) → AreSmall b → ReadsSmall (ipv4_reading b)
unfolding ipv4_reading
packet_small b small = grind (arith, and_tested, payload_small)
