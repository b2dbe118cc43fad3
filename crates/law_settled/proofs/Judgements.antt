-- What is accepted of a frame came on a configured interface that is up, and time moves by Advance alone.
use Rattle.std.{proofs.{Common.{ℕ, ◌<◌, Bool, true, false, nat_le, not, List, Ok, Err, Result, ◌≡◌, subst, arith}, lemmas.Bool.Decides.nat_tests}}
use Rattle.pim_ip.{specs.{declared.{addr.Addr.Addr, refusal.Refusal.Refusal}, Ipv4.Packet}}
use Rattle.pim_types.{specs.declared.{config.{IfaceId.IfaceId, Route.Route, RpCandidate.RpCandidate, RpRange.RpRange}, event.EventKind.EventKind, outcome.{Ignored.Ignored, Stop.Stop}}}
use Rattle.pim_wire.{specs.{Values.{JoinPrune, Register}, declared.{assert.Assert.Assert as AssertMessage, hello.Hello.Hello as HelloValue, register.RegisterStop.RegisterStop, view.PimView.PimView}}}
use Rattle.igmp_wire.{specs.{Values.{Query, Record}, declared.view.IgmpView.IgmpView}}
use Rattle.pim_model.{specs.{declared.accepted.Accepted.Accepted, Judging.{Judged, advance_judged, assert_judged, candidates_judged, data_judged, down_judged, frame_judged, hello_judged, igmp_accepted, igmp_judged, igmp_message_judged, ignore_if, join_prune_judged, judged, of_read, packet_judged, pim_judged, pim_message_judged, pim_to_me_judged, refuse_if, register_judged, register_stop_judged, routes_judged, rps_judged, unicast_judged, unicast_packet_judged, up_judged, ◌>>◌}, State.{State, iface_count, is_up}, Unicast.{with_candidates, with_ranges}}}
use Rattle.law_settled.{proofs.ListLaws.by_cond, specs.Ready.IsTimeless}

-- what is accepted passes a test that each kind of message passes
module _ (P : Accepted → Type 0) where
  abbrev Accepts : Judged → Type 0
  Accepts (Err stop) = Unit {0}
  Accepts (Ok a) = P a

  pub record IsJudged (r : Judged) : Type 0 where
    pub accepts : Accepts r

  accepted : (a : Accepted) → P a → IsJudged (Ok a)
  accepted a passes = record { accepts = passes }

  stops : (stop : Stop) → IsJudged (Err stop)
  stops stop = record { accepts = tt }

  -- ---- tests in their order

  refuse_then : (b : Bool) (refusal : Refusal) (next : Judged) → IsJudged next → IsJudged (refuse_if b refusal >> next)
  refuse_then b refusal next f = grind (arith, stops)

  held_then : (b : Bool) (refusal : Refusal) (next : Judged) → (b ≡ false → IsJudged next)
      → IsJudged (refuse_if b refusal >> next)
  held_then b refusal next f = grind (arith, stops)

  up_then : (b : Bool) (refusal : Refusal) (next : Judged) → (b ≡ true → IsJudged next)
      → IsJudged (refuse_if (not b) refusal >> next)
  up_then b refusal next f = grind (arith, stops)

  ignore_then : (b : Bool) (reason : Ignored) (next : Judged) → IsJudged next → IsJudged (ignore_if b reason >> next)
  ignore_then b reason next f = grind (arith, stops)

  read_then : {A : Type 0} (r : Result A Refusal) (next : A → Judged) → ((a : A) → IsJudged (next a))
      → IsJudged (of_read r next)
  read_then r next f = grind (arith, stops)

  -- ---- a frame

  -- each message on an interface
  pub record OnFrame (i : IfaceId) : Type 0 where
    pub hellos : (from : Addr) (h : HelloValue) → P (Accepted.Hello i from h)
    pub joins_to_me : (m : JoinPrune) → P (Accepted.JoinPruneToMe i m)
    pub joins_seen : (m : JoinPrune) → P (Accepted.JoinPruneSeen i m)
    pub asserts : (from : Addr) (a : AssertMessage) → P (Accepted.Assert i from a)
    pub queries : (from : Addr) (q : Query) → P (Accepted.Query i from q)
    pub reports : (records : List Record) → P (Accepted.Report i records)
    pub packets : (p : Packet) → P (Accepted.Data i p)

  module _ (s : State) (i : IfaceId) (on : OnFrame i) where
    hello_is_judged : (from : ℕ) (h : HelloValue) → IsJudged (hello_judged s i from h)
    unfolding hello_judged
    hello_is_judged from h = ignore_then _ Ignored.NoNeighbour _ (accepted _ (on.hellos _ h))

    join_prune_is_judged : (from : ℕ) (m : JoinPrune) → IsJudged (join_prune_judged s i from m)
    unfolding join_prune_judged
    join_prune_is_judged from m = grind (arith, ignore_then, accepted, by_cond)

    assert_is_judged : (from : ℕ) (a : AssertMessage) → IsJudged (assert_judged s i from a)
    unfolding assert_judged
    assert_is_judged from a = grind (arith, ignore_then, accepted)

    pim_is_judged : (from : ℕ) (view : PimView) → IsJudged (pim_judged s i from view)
    unfolding pim_judged
    pim_is_judged from view = grind (arith, hello_is_judged, join_prune_is_judged, assert_is_judged, stops)

    pim_message_is_judged : (p : Packet) → IsJudged (pim_message_judged s i p)
    unfolding pim_message_judged
    pim_message_is_judged p = grind (arith, read_then, ignore_then, pim_is_judged)

    igmp_is_judged : (from : ℕ) (view : IgmpView) → P (igmp_accepted i from view)
    igmp_is_judged from view = grind arith

    igmp_message_is_judged : (p : Packet) → IsJudged (igmp_message_judged s i p)
    unfolding igmp_message_judged igmp_judged
    igmp_message_is_judged p = grind (arith, read_then, ignore_then, accepted, igmp_is_judged)

    data_is_judged : (p : Packet) → IsJudged (data_judged s i p)
    unfolding data_judged
    data_is_judged p = grind (arith, ignore_then, accepted)

    packet_is_judged : (p : Packet) → IsJudged (packet_judged s i p)
    unfolding packet_judged
    packet_is_judged p = grind (arith, by_cond, pim_message_is_judged, igmp_message_is_judged, data_is_judged)

  -- ---- a packet to the router's own address

  module _ (s : State) (registers : (p : Packet) (r : Register) → P (Accepted.Register p r))
      (register_stops : (from : Addr) (r : RegisterStop) → P (Accepted.RegisterStop from r)) where
    pim_to_me_is_judged : (p : Packet) (view : PimView) → IsJudged (pim_to_me_judged s p view)
    unfolding pim_to_me_judged register_judged register_stop_judged
    pim_to_me_is_judged p view = grind (arith, ignore_then, accepted, stops)

    unicast_packet_is_judged : (p : Packet) → IsJudged (unicast_packet_judged s p)
    unfolding unicast_packet_judged
    unicast_packet_is_judged p = grind (arith, by_cond, read_then, ignore_then, pim_to_me_is_judged, stops)

  -- ---- every kind of event

  pub record Admits (s : State) (kind : EventKind) : Type 0 where
    pub frames : (i : IfaceId) → i.number < iface_count s → is_up s i.number ≡ true → OnFrame i
    pub registers : (p : Packet) (r : Register) → P (Accepted.Register p r)
    pub register_stops : (from : Addr) (r : RegisterStop) → P (Accepted.RegisterStop from r)
    pub ups : (i : IfaceId) → i.number < iface_count s → P (Accepted.Up i)
    pub downs : (i : IfaceId) → P (Accepted.Down i)
    pub moments : (m : ℕ) → kind ≡ EventKind.Advance m → P (Accepted.Advance m)
    pub routes : (routes : List Route) → kind ≡ EventKind.Routes routes → P (Accepted.Routes routes)
    pub ranges : (ranges : List RpRange) → kind ≡ EventKind.Rps ranges → P (Accepted.Rps (with_ranges s.ranges ranges))
    pub candidates : (candidates : List RpCandidate) → kind ≡ EventKind.RpCandidates candidates
        → P (Accepted.Rps (with_candidates s.ranges candidates))

  within : (n i : ℕ) → nat_le n i ≡ false → i < n
  within n i e = grind (arith, nat_tests, e)

  pub kind_by : (s : State) (kind : EventKind) → Admits s kind → IsJudged (judged s kind)
  unfolding judged frame_judged unicast_judged up_judged down_judged routes_judged rps_judged candidates_judged advance_judged
  kind_by s kind f =
      grind (arith, refuse_then, accepted, held_then, up_then, read_then, packet_is_judged, within, unicast_packet_is_judged, ignore_then)

-- ---- it came on an interface that is up

abbrev pub IsHere : (ℕ → Bool) → Accepted → Type 0
IsHere up (Accepted.Advance moment) = ⊥
IsHere up (Accepted.Hello i from h) = up i.number ≡ true
IsHere up (Accepted.JoinPruneToMe i m) = up i.number ≡ true
IsHere up (Accepted.JoinPruneSeen i m) = up i.number ≡ true
IsHere up (Accepted.Assert i from a) = up i.number ≡ true
IsHere up (Accepted.Query i from q) = up i.number ≡ true
IsHere up (Accepted.Report i records) = up i.number ≡ true
IsHere up (Accepted.Data i p) = up i.number ≡ true
IsHere up _ = Unit {0}

pub kind_is_judged : (s : State) (kind : EventKind) → IsTimeless kind → IsJudged (IsHere (is_up s)) (judged s kind)
kind_is_judged s kind timeless =
    kind_by (IsHere (is_up s)) s kind (record {
      frames = λ i within here. record {
        hellos = λ from h. here;
        joins_to_me = λ m. here;
        joins_seen = λ m. here;
        asserts = λ from a. here;
        queries = λ from q. here;
        reports = λ records. here;
        packets = λ p. here;
      };
      registers = λ p r. tt;
      register_stops = λ from r. tt;
      ups = λ i within. tt;
      downs = λ i. tt;
      moments = λ m e. subst IsTimeless e timeless;
      routes = λ routes e. tt;
      ranges = λ ranges e. tt;
      candidates = λ candidates e. tt;
    })
