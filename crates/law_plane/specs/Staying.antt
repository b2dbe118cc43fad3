-- What is offered of a source, with a fact or without one, is unchanged where its fact and its answers are, and where
-- there is room for one more fact in both states or in neither.
use Rattle.std.{specs.Prelude.{Bool, None, Option, Some, false, length, true, ℕ, ◌≡◌, ◌≤◌}}
use Rattle.pim_ip.{specs.Ipv4.Packet}
use Rattle.pim_types.{specs.{declared.event.Event.Event, Keys.source_key}}
use Rattle.pim_model.{specs.{Cache.{Plain, answers}, Clearing.clear, declared.accepted.Accepted.Accepted, Firing.fire_once, Full.passes_limit, Limits.most_ifaces, Reach.own_firing, State.State, Step.{change, done, step}, Tables.has_row, Timers.Ending}}
use Rattle.law_events.{specs.{Named.is_source_named, Rest.IsAtRest, Decided.IsDecided, Kept.SameAnswers}}
use Rattle.law_plane.{specs.{Keeping.keep, Offered.{Offered, offered}, ToldLaws.DecideAlike}}

-- Nothing is offered in both, or rows that decide a packet alike on each interface that can be configured, both of a
-- source with a fact or both of one without.
abbrev pub OffersAlike : Option Offered → Option Offered → Type 0
OffersAlike None None = Unit {0}
OffersAlike (Some a) (Some b) = (a.is_known ≡ b.is_known) × DecideAlike (Some a.row) (Some b.row)
OffersAlike _ _ = ⊥

pub record SourceStays (g src : ℕ) (s t : State) : Type 0 where
  pub fact : has_row s.sources (source_key 0 g src) ≡ has_row t.sources (source_key 0 g src)
  pub answers_are : SameAnswers (answers s g src) (answers t g src)

-- ---- laws

abbrev pub OfferStays : Type 0
OfferStays = (s t : State) (g src : ℕ) → SourceStays g src s t → passes_limit s 1 ≡ passes_limit t 1
    → OffersAlike (offered s g src) (offered t g src)

-- The fact and the answers of any source that isn't named are unchanged: by an event, by the expiry of a timer, and by
-- the present time alone.
abbrev pub UnnamedSourceStays : Type 0
UnnamedSourceStays = (s : State) (w : ℕ) (a : Accepted) → length s.configured.interfaces ≤ most_ifaces → (g src : ℕ)
    → is_source_named g src s (clear s (change s w a).state).0 ≡ false → SourceStays g src s (done s w (change s w a)).state

abbrev pub FiringSourceStays : Type 0
FiringSourceStays = (s : State) (w : ℕ) (e : Ending) → length s.configured.interfaces ≤ most_ifaces → (g src : ℕ)
    → is_source_named g src s (clear s (own_firing s e)).0 ≡ false → SourceStays g src s (fire_once w s e).0

abbrev pub TimeSourceStays : Type 0
TimeSourceStays = (s : State) (m g src : ℕ) → SourceStays g src s (record s { present = m })

-- A plain packet, and `keep`, leave what is offered of all sources unchanged.
abbrev pub PlainOfferStays : Type 0
PlainOfferStays = (s : State) (e : Event) (p : Packet) (how : Plain) → IsAtRest s → IsDecided s e p how → (g src : ℕ)
    → OffersAlike (offered s g src) (offered (step s e).state g src)

abbrev pub KeepOfferStays : Type 0
KeepOfferStays = (s : State) (g src m : ℕ) → IsAtRest s → (h x : ℕ)
    → OffersAlike (offered s h x) (offered (keep s g src m) h x)

-- The event changes routes or RP ranges.
abbrev pub is_rerouting : Accepted → Bool
is_rerouting (Accepted.Routes routes) = true
is_rerouting (Accepted.Rps ranges) = true
is_rerouting _ = false

-- The routes and the RP ranges are unchanged.
pub record KeepsRoutes (s t : State) : Type 0 where
  pub routes : s.routes ≡ t.routes
  pub ranges : s.ranges ≡ t.ranges

-- No event but new routes and RP ranges, and no expiry of a timer, changes routes or RP ranges.
abbrev pub EventKeepsRoutes : Type 0
EventKeepsRoutes = (s : State) (w : ℕ) (a : Accepted) → is_rerouting a ≡ false → KeepsRoutes s (change s w a).state

abbrev pub FiringKeepsRoutes : Type 0
FiringKeepsRoutes = (s : State) (e : Ending) → KeepsRoutes s (own_firing s e)

-- What is unchanged from one state to a second, and from that to a third, is unchanged from the first to the third.
abbrev pub StaysInTurn : Type 0
StaysInTurn = (s t u : State) (g src : ℕ) → SourceStays g src s t → SourceStays g src t u → SourceStays g src s u
