-- What a packet on a link is heard to be.
use Rattle.std.{specs.Prelude.{List, None, Ok, Some, false, true, ℕ, ◌≡◌}}
use Rattle.pim_ip.{specs.Ipv4.Packet}
use Rattle.pim_types.{specs.declared.{config.IfaceId.IfaceId, event.Event.Event}}
use Rattle.pim_model.{specs.{Judging.{Judged, frame_judged, judged}, Plain.{IsPlainEvent, fact_key}, State.State, Tables.has_row, declared.accepted.Accepted.Accepted}}
use Rattle.pim_mfc.{specs.{Kept.{ForwardsAs, Kept, decided}, declared.forward.Forward.Forward}}
use Rattle.pim_event.{specs.{Costs.IsWithinPath, Disturbing.goes_by_answers, declared.hear.Heard.Heard}}

-- The row of its source decides a packet of data, and was looked up once.
pub record IsPlain (s : State) (rows : Kept) (i : IfaceId) (bytes : List ℕ) (packet : Packet) (forward : Forward)
    (before probes : ℕ) : Type 0 where
  pub iface : IfaceId
  pub heard : frame_judged s i bytes ≡ Ok (Accepted.Data iface packet)
  pub decides : ForwardsAs (Some forward) (decided rows packet.destination packet.source iface.number packet.time_to_live)
  pub cost : before ≡ 0 → has_row rows.rows (fact_key packet) ≡ true → IsWithinPath probes

-- It is what it is judged to be. Where that is data no row decides it.
pub record IsOther (s : State) (rows : Kept) (i : IfaceId) (bytes : List ℕ) (j : Judged) : Type 0 where
  pub heard : frame_judged s i bytes ≡ j
  pub undecided : (d : IfaceId) (p : Packet) → j ≡ Ok (Accepted.Data d p)
      → ForwardsAs None (decided rows p.destination p.source d.number p.time_to_live)

abbrev pub Hears : State → Kept → IfaceId → List ℕ → Heard → ℕ → ℕ → Type 0
Hears s rows i bytes (Heard.Plain packet forward) before probes = IsPlain s rows i bytes packet forward before probes
Hears s rows i bytes (Heard.Other j) before probes = IsOther s rows i bytes j

-- No row decides an event: it isn't plain, and the answers of no source decide it.
pub record IsUndecided (s : State) (e : Event) : Type 0 where
  pub other : IsPlainEvent s e → ⊥
  pub answers : goes_by_answers s (judged s e.kind) ≡ false
