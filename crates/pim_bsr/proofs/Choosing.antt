-- What an RP is chosen for doesn't change by what is heard.
use Rattle.std.{proofs.Common.{◌≡◌, ℕ, Bool, true, false, List, Option, Some, None, Result, Ok, Err, refl}, specs.Prelude.if◌then◌else◌}
use Rattle.pim_ip.{specs.{Ipv4.{Packet, ipv4_reading}, declared.refusal.Refusal.Refusal}}
use Rattle.pim_bootstrap.{specs.Bootstraps.{Bootstrap, bootstrap_reading}}
use Rattle.pim_bsr.{specs.{Hearing.{Around, after_message, heard, heard_frame, heard_if, heard_packet, heard_read, heard_reading, is_bootstrap, unheard, why_not}, Table.Known, declared.heard.{Heard.Heard, Why.Why}}}

pub heard_choice : (s : Around) (k : Known) (i src : ℕ) (b : List ℕ) (m : Bootstrap) → (heard s k i src b m).known.choice ≡ k.choice
unfolding heard after_message
heard_choice s k i src b m = go (why_not s k i src m)
  where
    go : (w : Option Why) → (heard_if s k i b m w).known.choice ≡ k.choice
    go None = refl
    go (Some w) = refl

pub frame_choice : (s : Around) (k : Known) (i : ℕ) (bytes : List ℕ) → (heard_frame s k i bytes).known.choice ≡ k.choice
unfolding heard_frame heard_packet
frame_choice s k i bytes = of_read (ipv4_reading bytes)
  where
    of_message : (p : Packet) (r : Result Bootstrap Refusal) → (heard_read s k i p.source p.payload r).known.choice ≡ k.choice
    of_message p (Ok m) = heard_choice s k i p.source p.payload m
    of_message p (Err refusal) = refl

    of_packet : (p : Packet) (b : Bool)
        → (if b then heard_read s k i p.source p.payload (bootstrap_reading p.payload) else unheard k Heard.Other).known.choice ≡ k.choice
    of_packet p true = of_message p (bootstrap_reading p.payload)
    of_packet p false = refl

    of_read : (r : Result Packet Refusal) → (heard_reading s k i r).known.choice ≡ k.choice
    of_read (Ok p) = of_packet p (is_bootstrap p)
    of_read (Err refusal) = refl
