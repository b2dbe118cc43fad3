-- What the RP of a group reads of a source whose Register comes (RFC 7761, section 4.4.2).
use Rattle.std.{specs.Prelude.{false, not, true, ℕ, ◌≡◌}}
use Rattle.pim_ip.{specs.Ipv4.Packet}
use Rattle.pim_wire.{specs.{RegisterParts.{registered_group, registered_source}, Values.Register}}
use Rattle.pim_model.{specs.{Desires.is_inherited_empty, Registers.is_spt_wanted, Sets.{inherited_olist_rpt, spt_bit}, State.State, Unicast.is_rp, declared.accepted.Accepted.Accepted}}
use Rattle.pim_state.{specs.Shown.Shows}
use Rattle.pim_event.{specs.declared.rendezvous.SourceAtRp.SourceAtRp}

-- It is what the macros of (S,G) say in the state.
pub record IsRead (s : State) (g src : ℕ) (x : SourceAtRp) : Type 0 where
  pub spt : x.spt ≡ spt_bit s g src
  pub wanted : x.is_spt_wanted ≡ is_spt_wanted s
  pub flows : x.flows ≡ not (is_inherited_empty s g src)
  pub list : Shows x.inherited_rpt (inherited_olist_rpt s g src)
  pub bare : x.inherited_rpt.tunnel ≡ false

-- The Register came to the RP of its group, and it is read of its source.
pub record IsKnown (s : State) (p : Packet) (r : Register) (x : SourceAtRp) : Type 0 where
  pub here : is_rp s (registered_group r) p.destination ≡ true
  pub read : IsRead s (registered_group r) (registered_source r) x

-- It is known of an event's source, if the event is a Register.
abbrev pub IsKnownIn : State → Accepted → SourceAtRp → Type 0
IsKnownIn s (Accepted.Register p r) x = IsKnown s p r x
IsKnownIn s _ x = Unit {0}
