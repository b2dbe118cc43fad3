-- What a change leaves to be sent.
use Rattle.std.{proofs.Common.{◌≡◌, ℕ, Box, Global, [], Result, IfOk, length, refl, arith, ap, sym, subst, ◌∙◌}}
use Rattle.pim_ip.{specs.Ipv4.Packet}
use Rattle.pim_types.{specs.declared.config.IfaceId.IfaceId}
use Rattle.pim_wire.{specs.{RegisterParts.{is_null, registered_group, registered_source}, Values.Register}}
use Rattle.pim_data.{specs.declared.leaving.Leaving.Leaving}
use Rattle.pim_state.{specs.Turns.{Taking, saying}}
use Rattle.pim_model.{specs.{Forwarding.{forwarded, register_received}, State.State, Step.{Change, change, decapsulated, packet_forwarded}}}
use Rattle.pim_macros.{specs.declared.sight.SourceSight.SourceSight}
use Rattle.pim_plan.{specs.{Acting.{control_event, act_event}, declared.act.{Act.Act, Control.Control}}}
use Rattle.pim_event.{specs.Sending.Sends}

-- a packet, and a Register
pub data_sends : {E : Type 0} (s : State) (w : ℕ) (act : Act) (i : IfaceId) (p : Packet) (sight : Box SourceSight Global)
    → act ≡ Act.Data i p sight → (state : State) (before after : Taking) (r : Result Leaving E)
    → IfOk r (λ l. Sends l state before after (packet_forwarded p (forwarded s p.destination p.source i.number)))
    → IfOk r (λ l. Sends l state before after (change s w (act_event act)))
unfolding change
data_sends s w act i p sight is state before after r sends =
    subst (λ (x : Act). IfOk r (λ l. Sends l state before after (change s w (act_event x)))) (sym is) sends

pub register_sends : {E : Type 0} (s : State) (w : ℕ) (act : Act) (p : Packet) (register : Register)
    → act ≡ Act.Register p register → (state : State) (before after : Taking) (r : Result Leaving E)
    → IfOk r (λ l. Sends l state before after (decapsulated register
    (register_received s p (registered_group register) (registered_source register) (is_null register))))
    → IfOk r (λ l. Sends l state before after (change s w (act_event act)))
unfolding change
register_sends s w act p register is state before after r sends =
    subst (λ (x : Act). IfOk r (λ l. Sends l state before after (change s w (act_event x)))) (sym is) sends

-- what has no packet leaves none
record SendsNone (c : Change) : Type 0 where
  copies : c.copies ≡ []
  registered : c.registered ≡ []

without_packet : (s : State) (w : ℕ) (control : Control) → SendsNone (change s w (control_event control))
unfolding change
without_packet s w (Control.Up i) = record { copies = refl; registered = refl }
without_packet s w (Control.Down i) = record { copies = refl; registered = refl }
without_packet s w (Control.Routes table) = record { copies = refl; registered = refl }
without_packet s w (Control.Ranges table) = record { copies = refl; registered = refl }
without_packet s w (Control.Hello i from h) = record { copies = refl; registered = refl }
without_packet s w (Control.JoinPruneToMe i m named changes) = record { copies = refl; registered = refl }
without_packet s w (Control.JoinPruneSeen i m named) = record { copies = refl; registered = refl }
without_packet s w (Control.Assert i from a) = record { copies = refl; registered = refl }
without_packet s w (Control.Query i from q) = record { copies = refl; registered = refl }
without_packet s w (Control.Report i records) = record { copies = refl; registered = refl }
without_packet s w (Control.RegisterStop from stop) = record { copies = refl; registered = refl }

pub nothing_sends : (s : State) (w : ℕ) (act : Act) (control : Control) → act ≡ Act.Control control → (state : State)
    (before after : Taking) (l : Leaving) → state ≡ (change s w (control_event control)).state
    → after ≡ saying before (change s w (control_event control)).messages → l.copies.items ≡ []
    → l.registered.items ≡ [] → Sends l state before after (change s w (act_event act))
nothing_sends s w act control of state before after l is says copied registered =
    let none : SendsNone (change s w (control_event control)) = without_packet s w control in
    subst (λ (x : Act). Sends l state before after (change s w (act_event x))) (sym of)
    (record {
      state_is = is;
      messages = says;
      copies = copied ∙ sym none.copies;
      registered = registered ∙ sym none.registered;
      limit = omega (arith, ap length copied);
    })
