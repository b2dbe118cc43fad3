-- Where no better Assert comes, no assert is lost any more, and where no Prune(S,G,rpt) comes the source is pruned no more: a known time
-- later (RFC 7761, 4.5.3, 4.6.1, 4.6.2, 4.6.3 and 4.11).
use Rattle.std.{specs.{Option.option_map_or, Prelude.{Bool, List, Option, Some, [], false, nat_le, not, true, ℕ, ◌&&◌, ◌+◌, ◌||◌, ◌∷◌, ◌≡◌, ◌≤◌}}}
use Rattle.pim_types.{specs.{Keys.rpt_key, declared.{event.Event.Event, fact.{AssertRow.AssertRow, DownstreamRow.DownstreamRow, Key.Key}}}}
use Rattle.pim_model.{specs.{Asserts.theirs_of, Cause.done_as, Network.{Move, Network, Station, event_of, station_at}, Sets.{is_loser, prunes}, State.State, Step.{state_after, step}, Tables.row_at, declared.accepted.Accepted.Accepted}}
use Rattle.law_settled.{specs.Ready.IsSettled}
use Rattle.law_streams.{specs.Copies.happens}
use Rattle.law_converges.{specs.{Carried.EachMove, LinkAsserts.loses_to, LinkDr.Member, LinkLosers.reads_assert, LinkRpt.is_pruned_by}}

-- ---- at one router

-- no event is of a kind, at the state to which it comes
abbrev pub AreNone : (State → Option Accepted → Bool) → State → List Event → Type 0
AreNone test s [] = Unit {0}
AreNone test s (e ∷ es) = (test s (done_as (happens s e)) ≡ false) × AreNone test (step s e).state es

-- an Assert by which the machine of a key loses
abbrev pub hears_better : Key → State → Option Accepted → Bool
hears_better k s (Some (Accepted.Assert j from a)) = reads_assert k j.number a && loses_to s k (theirs_of a from.bits)
hears_better k s o = false

-- no assert is lost, or it is over by a timestamp
abbrev pub is_over : ℕ → Option AssertRow → Bool
is_over bound o = option_map_or (λ (r : AssertRow). not (is_loser (Some r)) || nat_le r.end bound) o true

-- From its end on a lost assert is over, while the machine hears no Assert by which it loses.
abbrev pub LostAssertEnds : Type 0
LostAssertEnds = (s : State) (events : List Event) (k : Key) (bound : ℕ) → IsSettled s → is_over bound (row_at s.asserts k) ≡ true
    → AreNone (hears_better k) s events → bound ≤ (state_after s events).present → is_loser (row_at (state_after s events).asserts k) ≡ false

-- a source isn't pruned, or its Prune expires by a timestamp
abbrev pub is_gone : ℕ → Option DownstreamRow → Bool
is_gone bound o = option_map_or (λ (r : DownstreamRow). option_map_or (λ end. nat_le end bound) r.expiry false) o true

-- From when a Prune(S,G,rpt) has expired on the source isn't pruned, while no message prunes it.
abbrev pub PruneEnds : Type 0
PruneEnds = (s : State) (events : List Event) (i g src bound : ℕ) → IsSettled s → is_gone bound (row_at s.downstream (rpt_key i g src)) ≡ true
    → AreNone (λ u. is_pruned_by i g src) s events → bound ≤ (state_after s events).present → prunes (state_after s events) g src i ≡ false

-- ---- in a network

-- no event of a kind comes to a router, and what an earlier one left is over by a bound
pub record ComesNone (test : State → Option Accepted → Bool) (ended : ℕ → State → Bool) (bound : ℕ) (started : ℕ → ℕ) (r : ℕ) (n : Network)
    (ms : List Move) : Type 0 where
  pub none : EachMove (λ n m. (e : Event) (st : Station) → event_of n m ≡ Some (r, e) → station_at n r ≡ Some st
      → test st.state (done_as (happens st.state e)) ≡ false) n ms
  pub station : Station
  pub there : station_at n r ≡ Some station
  pub until : ℕ
  pub over : ended until station.state ≡ true
  pub by : until + started r ≤ bound

-- a router hears no Assert by which a machine loses
abbrev pub HearsNoBetter : Key → (bound : ℕ) → (ℕ → ℕ) → (r : ℕ) → Network → List Move → Type 0
HearsNoBetter k bound started r n ms = ComesNone (hears_better k) (λ until s. is_over until (row_at s.asserts k)) bound started r n ms

-- nobody prunes a source off the group's tree at a router of a link
abbrev pub HearsNoPrune : (g src bound : ℕ) → (ℕ → ℕ) → Member → Network → List Move → Type 0
HearsNoPrune g src bound started y n ms =
    ComesNone (λ u. is_pruned_by y.iface g src) (λ until s. is_gone until (row_at s.downstream (rpt_key y.iface g src))) bound started y.router n ms
