-- SPTbit(S,G) isn't cleared while a router on a link joins the source, nor by an event's own change.
use Rattle.std.{specs.Prelude.{List, false, true, ℕ, ◌<◌, ◌≡◌}}
use Rattle.pim_types.{specs.{Keys.source_key, declared.{fact.Key.Key, timer.TimerKind.TimerKind}}}
use Rattle.pim_model.{specs.{declared.accepted.Accepted.Accepted, Firing.{fired, settled}, Messages.Message, Sets.{assert_source, is_loser, spt_bit}, State.{State, iface_count}, Step.change, Tables.has_row}}

-- A router joined (S,G) on an interface, and no assert of it is lost there.
pub record HasJoined (s : State) (g src i : ℕ) : Type 0 where
  pub configured : i < iface_count s
  pub joined : has_row s.downstream (source_key i g src) ≡ true
  pub unlost : is_loser (assert_source s g src i) ≡ false

-- What follows of a change, of an event or of the expiry of a timer, leaves SPTbit(S,G) set where `HasJoined` holds,
-- whatever the change is; o is the state before it.
abbrev pub JoinKeepsSptBit : Type 0
JoinKeepsSptBit = (o : State) (change : State × List Message) (w g src i : ℕ) → HasJoined change.0 g src i
    → spt_bit change.0 g src ≡ true → spt_bit (settled o change w).0 g src ≡ true

-- No event's own change clears an SPTbit, whether the source is joined or not.
abbrev pub ChangeKeepsSptBit : Type 0
ChangeKeepsSptBit = (s : State) (w : ℕ) (a : Accepted) (g src : ℕ) → spt_bit s g src ≡ true
    → spt_bit (change s w a).state g src ≡ true

-- The expiry of a timer clears no SPTbit by itself.
abbrev pub FiringKeepsSptBit : Type 0
FiringKeepsSptBit = (s : State) (kind : TimerKind) (k : Key) (g src : ℕ) → spt_bit s g src ≡ true
    → spt_bit (fired s kind k).0 g src ≡ true
