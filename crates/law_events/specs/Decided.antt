-- What a source's answers decide of a packet, and all that is done with a packet that is plain by them.
use Rattle.std.{specs.Prelude.{Bool, List, Ok, Option, Some, if◌then◌else◌, length, true, ℕ, ◌≡◌}}
use Rattle.pim_ip.{specs.Ipv4.Packet}
use Rattle.pim_types.{specs.declared.{config.IfaceId.IfaceId, event.Event.Event, outcome.{Emission.Emission, Verdict.Verdict}}}
use Rattle.pim_model.{specs.{Cache.{Plain, answers, plain}, declared.accepted.Accepted.Accepted, Judging.judged, Plain.fact_key, Registers.with_keepalive, State.State, Step.Answered, Tables.has_row, Writing.copies_of}}

-- What the answers of its source decide of a packet that came on an interface.
abbrev pub decided_by_answers : State → IfaceId → Packet → Option Plain
decided_by_answers s i p = plain (answers s p.destination p.source) i.number p.time_to_live

-- The state with the keepalive timer of a source set, or unchanged.
abbrev pub kept_if : Bool → State → ℕ → ℕ → State
kept_if keeps s g src = if keeps then with_keepalive s g src else s

-- A packet taken as its answers decide: KAT(S,G) is set or not, and copies leave on the list.
unfoldable pub plainly_taken : State → Packet → Plain → Answered
plainly_taken s p how =
    let copies : List Emission = copies_of s p how.list in
    record {
      answer = Ok Verdict.Done;
      emissions = copies;
      copies = length copies;
      state = kept_if how.keeps s p.destination p.source;
    }

-- The event brings a packet of a source with a fact, and the answers of that source decide it.
pub record IsDecided (s : State) (e : Event) (p : Packet) (how : Plain) : Type 0 where
  pub iif : IfaceId
  pub heard : judged s e.kind ≡ Ok (Accepted.Data iif p)
  pub known : has_row s.sources (fact_key p) ≡ true
  pub answered : decided_by_answers s iif p ≡ Some how
