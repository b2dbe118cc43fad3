-- A packet that an event brings was read of some bytes: those of a link, or those in a Register.
use Rattle.std.{proofs.Common.{List, Ok, Result, Some, ap, arith, drop, sym, ℕ, ◌∙◌, ◌≡◌}}
use Rattle.pim_ip.{specs.{Ipv4.{Packet, copy_text, ipv4_reading}, View.copied, declared.refusal.Refusal.Refusal}}
use Rattle.pim_types.{specs.declared.event.Event.Event}
use Rattle.pim_model.{specs.{Cause.{done_as, packet_in}, State.State}}
use Rattle.law_streams.{proofs.{Brought.packet_comes_from_event, Forwards.copy_reads_lower, Hops.of_reading}, specs.{Brought.{BringsPacket, InRegister, OnLink}, Copies.happens}}
use Rattle.law_converges.{specs.ComesOnce.IsOfSource}

pub record WasReadOf (p : Packet) : Type 0 where
  pub bytes : List ℕ
  pub reads : ipv4_reading bytes ≡ Ok p

pub brought_is_read : (s : State) (e : Event) (p : Packet) → packet_in (done_as (happens s e)) ≡ Some p → WasReadOf p
brought_is_read s e p brought = go (packet_comes_from_event s e p brought)
  where
    go : BringsPacket e p → WasReadOf p
    go (OnLink i bytes kind reads) = record { bytes = bytes; reads = reads }
    go (InRegister bytes outer kind reads inside) = record { bytes = drop 8 outer.payload; reads = of_reading outer.payload p inside }

pub record IsFrom (g src : ℕ) (p : Packet) : Type 0 where
  pub group : p.destination ≡ g
  pub source : p.source ≡ src

-- of the source a copy's packet is that the copy is of
pub copied_from : (g src : ℕ) (s : State) (e : Event) (p : Packet) (text : List ℕ) → packet_in (done_as (happens s e)) ≡ Some p
    → text ≡ copy_text p → IsOfSource g src text → IsFrom g src p
copied_from g src s e p text brought is its =
    let r : WasReadOf p = brought_is_read s e p brought in
    let same : its.packet ≡ copied p = same_read its.reads (ap ipv4_reading is ∙ copy_reads_lower r.bytes p r.reads) in
    record {
      group = ap (λ (x : Packet). x.destination) (sym same) ∙ its.group;
      source = ap (λ (x : Packet). x.source) (sym same) ∙ its.source;
    }
  where
    same_read : {r : Result Packet Refusal} {x y : Packet} → r ≡ Ok x → r ≡ Ok y → x ≡ y
    same_read a b = grind (arith, a, b)
