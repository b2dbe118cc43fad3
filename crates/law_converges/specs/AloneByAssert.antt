-- The winner of an assert is the only router that sends on the link what the assert is about (RFC 7761, 4.2 and 4.6).
use Rattle.std.{specs.Prelude.{Some, slice_get, true, ℕ, ◌≡◌, ◌⊎◌}}
use Rattle.pim_ip.{specs.Ipv4.{Packet, copy_text}}
use Rattle.pim_types.{specs.declared.{config.IfaceId.IfaceId, event.Event.Event}}
use Rattle.pim_model.{specs.{declared.accepted.Accepted.Accepted, Cause.{done_as, packet_in}, Network.{Move, Network, Station, event_of, station_at}}}
use Rattle.law_streams.{specs.Copies.happens}
use Rattle.law_converges.{specs.{ComesOnce.{IsAlone, IsOfSource}, LinkDr.{IsOne, Member}, OneSender.is_about_packet, Settles.{Contest, HasOneSender}}}

-- a router has lost an assert on an interface
pub record IsLoserOn (a : Contest) (q j : ℕ) : Type 0 where
  pub loser : Member
  pub among : IsOne a.losers loser
  pub router : q ≡ loser.router
  pub iface : j ≡ loser.iface

-- whoever is on the link is the winner, or has lost there
abbrev pub AreOfContest : Contest → Network → Type 0
AreOfContest a n = (q j : ℕ) (st : Station) → station_at n q ≡ Some st → slice_get st.links j ≡ Some a.link
    → (q ≡ (a.winner).router) ⊎ IsLoserOn a q j

-- a packet came on a link, and the assert is about it
pub record IsAboutIt (a : Contest) (st : Station) (e : Event) (p : Packet) : Type 0 where
  pub iface : IfaceId
  pub data_came : done_as (happens st.state e) ≡ Some (Accepted.Data iface p)
  pub about : is_about_packet st.state a.group a.source iface.number p ≡ true

-- so it is with each packet of the source that the move brings to a loser
abbrev pub BringsWhatIsLost : (g src : ℕ) → Contest → Network → Move → Type 0
BringsWhatIsLost g src a n m = (y : Member) (e : Event) (st : Station) (p : Packet) → IsOne a.losers y → event_of n m ≡ Some (y.router, e)
    → station_at n y.router ≡ Some st → packet_in (done_as (happens st.state e)) ≡ Some p → IsOfSource g src (copy_text p) → IsAboutIt a st e p

-- Where the losers send none of what an assert is about, as when a network has settled, the winner alone sends it.
abbrev pub WinnerIsAlone : Type 0
WinnerIsAlone = (g src : ℕ) (a : Contest) (n : Network) (m : Move) → HasOneSender n a → AreOfContest a n → BringsWhatIsLost g src a n m
    → IsAlone g src (a.winner).router a.link n m
