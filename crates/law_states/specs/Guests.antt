-- A plane that keeps what it was offered of sources without a fact, past events of the router's own by which that can't
-- differ.
use Rattle.std.{specs.Prelude.{Bool, List, None, Ok, Option, Some, [], false, if◌then◌else◌, map, nat_lt, option_and_then, true, ℕ, ◌∷◌, ◌≡◌}}
use Rattle.pim_ip.{specs.Ipv4.Packet}
use Rattle.pim_types.{specs.declared.{config.{Config.Config, IfaceId.IfaceId}, event.{Event.Event, EventKind.EventKind}, outcome.Outcome.Outcome}}
use Rattle.pim_model.{specs.{declared.accepted.Accepted.Accepted, Judging.{Judged, judged}, Limits.{config_test, most_ifaces}, State.{State, opening}, Step.{run, state_after, step}}}
use Rattle.law_plane.{specs.{Late.is_the_cores, Offered.{Offered, offered}, Offload.{Handling, Row, unknown_of}, Split.{Split, handled_at, split_step, whole}, Staying.OffersAlike, ToldLaws.{PlaneRows, no_plane_rows}}}
use Rattle.law_states.{specs.Kept.{Way, kept_core, kept_plane, kept_time, kept_up}}

-- what is offered of a source without a fact
unfoldable pub guest_of : State → ℕ → ℕ → Option Row
guest_of s g src = option_and_then (λ (o : Offered). if o.is_known then None else Some o.row) (offered s g src)

-- A split router whose plane also keeps rows of sources without a fact.
pub record Plane : Type 0 where
  pub split : Split
  pub guests : PlaneRows

-- An event, before which the plane reads the offers of some sources, and after which it drops those that may differ.
pub record Turn : Type 0 where
  pub asks : ℕ → ℕ → Bool
  pub event : Event
  pub differs : ℕ → ℕ → Bool

-- The rows of sources without a fact, with those that the plane reads of the router.
abbrev pub asked : (ℕ → ℕ → Bool) → State → PlaneRows → PlaneRows
asked asks s guests g src = if asks g src then guest_of s g src else guests g src

-- The rows of sources without a fact but for those that may differ.
abbrev pub without : (ℕ → ℕ → Bool) → PlaneRows → PlaneRows
without differs guests g src = if differs g src then None else guests g src

-- ---- that they decide as what is offered

-- The offer of a source without a fact.
abbrev pub as_guest : Row → Option Offered
as_guest row = Some (record { is_known = false; row = row })

-- There is no row, or it decides as what is offered.
abbrev pub HoldsOf : Option Row → Option Offered → Type 0
HoldsOf None o = Unit {0}
HoldsOf (Some row) o = OffersAlike (as_guest row) o

-- Each row of a source without a fact that the plane holds decides as what the router offers.
abbrev pub AreHeld : PlaneRows → State → Type 0
AreHeld guests s = (g src : ℕ) → HoldsOf (guests g src) (offered s g src)

-- ---- a packet

-- How a packet is handled: by the row of a source with a fact, by the offer that the plane keeps of one without, or by
-- the core's present offer.
unfoldable pub guest_handled : Split → PlaneRows → IfaceId → Packet → Handling
guest_handled x guests i p =
    if nat_lt i.number most_ifaces
    then handled_at (x.rows p.destination p.source)
    (handled_at (guests p.destination p.source) (unknown_of x.core i p) i.number) i.number else Handling.ToCore

-- An event as it was judged: a packet goes by the plane with such rows, all else to the router.
abbrev pub guest_judgement : Way → Split → PlaneRows → Event → Judged → Split × Outcome
guest_judgement w x guests e (Ok (Accepted.Data i p)) = kept_plane w x e p (guest_handled x guests i p)
guest_judgement w x guests e _ = kept_core w x e

-- An event of some kind: time, or what is judged.
abbrev pub guest_kind : Way → Split → PlaneRows → Event → EventKind → Split × Outcome
guest_kind w x guests e (EventKind.Advance m) = kept_time w x e m
guest_kind w x guests e kind = guest_judgement w x guests e (judged x.core kind)

unfoldable pub guest_step : Way → Plane → Turn → Plane × Outcome
guest_step w y t =
    let guests : PlaneRows = asked t.asks (y.split).core y.guests in
    let next : Split × Outcome = guest_kind w y.split guests t.event (t.event).kind in
    (record { split = next.0; guests = without t.differs guests }, next.1)

unfoldable pub guest_ran : Way → Plane → List Turn → List Outcome × Plane
guest_ran w y [] = ([], y)
guest_ran w y (t ∷ ts) =
    let first : Plane × Outcome = guest_step w y t in
    let later : List Outcome × Plane = guest_ran w first.0 ts in
    (first.1 ∷ later.0, later.1)

-- After each event that the core gets, each offer that it says can't differ is the same.
abbrev pub DeniesRightly : Split → State → List Turn → Type 0
DeniesRightly x r [] = Unit {0}
DeniesRightly x r (t ∷ ts) =
    (is_the_cores x t.event ≡ true → (g src : ℕ) → t.differs g src ≡ false
    → OffersAlike (offered r g src) (offered (step r t.event).state g src))
    × DeniesRightly (split_step x t.event).0 (step r t.event).state ts

abbrev pub events_of : List Turn → List Event
events_of ts = map (λ (t : Turn). t.event) ts

-- A split router at the opening, without rows.
abbrev pub at_opening : Config → Split
at_opening c = whole (opening c) no_plane_rows

-- A split router whose plane reports by `keep`, and keeps what it was offered, is sound.
abbrev pub SplitRouterByOffersIsSound : Type 0
SplitRouterByOffersIsSound = (c : Config) (turns : List Turn) (w : Way) → config_test c ≡ Ok tt
    → DeniesRightly (at_opening c) (opening c) turns
    → (let ran : List Outcome × Plane = guest_ran w (record { split = at_opening c; guests = no_plane_rows }) turns in
    (ran.0 ≡ run (opening c) (events_of turns)) × (kept_up w (ran.1).split ≡ state_after (opening c) (events_of turns)))
