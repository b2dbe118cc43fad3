-- Which routers send none of a source's packets on an interface: who isn't asked for them there, and who takes them from it (RFC
-- 7761, 4.1.5 and 4.2).
use Rattle.std.{specs.{List.Contains, Prelude.{Bool, List, Some, false, not, true, ℕ, ◌&&◌, ◌||◌, ◌≡◌, ◌⊎◌}}}
use Rattle.pim_ip.{specs.Ipv4.Packet}
use Rattle.pim_types.{specs.declared.event.Event.Event}
use Rattle.pim_model.{specs.{declared.accepted.Accepted.Accepted, Cause.{done_as, packet_in}, Desires.join_desired, Sets.{joins, joins_star, lost_assert_star, pim_include, pim_include_star, spt_bit}, State.State, Unicast.{is_connected, is_rpf_interface, is_rpf_interface_rp}, Writing.on_link}}
use Rattle.law_streams.{specs.Copies.{copies_at, happens}}

-- A router is asked for a source's packets on an interface: another one joined the source over it there, or it serves hosts there
-- that ask for it; or so it is with the group, and it has not lost the group's assert there.
abbrev pub is_asked_on : State → ℕ → ℕ → ℕ → Bool
is_asked_on s g src i =
    (joins s g src i || pim_include s g src i) || ((joins_star s g i || pim_include_star s g i) && not (lost_assert_star s g i))

-- Who isn't asked for a source's packets on an interface sends none there, whether they come on a link or in a Register.
abbrev pub UnaskedSendsNone : Type 0
UnaskedSendsNone = (s : State) (e : Event) (p : Packet) (j : ℕ) (text : List ℕ) → packet_in (done_as (happens s e)) ≡ Some p
    → is_asked_on s p.destination p.source j ≡ false → Contains (copies_at s e) (on_link j text) → ⊥

-- A router isn't on a source's own tree: the source isn't on a link of it, and it neither wants the source nor has SPTbit set.
pub record IsOffSourceTree (g src : ℕ) (s : State) : Type 0 where
  pub far : is_connected s src ≡ false
  pub unwanted : join_desired s g src ≡ false
  pub unset : spt_bit s g src ≡ false

-- An interface is a router's way to the RP, and no other one is its way to the source, if the router is on that one's own tree.
pub record IsOnlyWayIn (g src up : ℕ) (s : State) : Type 0 where
  pub to_rp : is_rpf_interface_rp s g up ≡ true
  pub to_source : ((i : ℕ) → is_rpf_interface s src i ≡ true → i ≡ up) ⊎ IsOffSourceTree g src s

-- What a router sends of a source's packets came in there.
abbrev pub OnlyWayInIsTaken : Type 0
OnlyWayInIsTaken = (s : State) (e : Event) (p : Packet) (up j : ℕ) (text : List ℕ) → packet_in (done_as (happens s e)) ≡ Some p
    → IsOnlyWayIn p.destination p.source up s → Contains (copies_at s e) (on_link j text)
    → done_as (happens s e) ≡ Some (Accepted.Data (record { number = up }) p)
