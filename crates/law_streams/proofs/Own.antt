-- What an event answers itself, in numbers.
use Rattle.std.{proofs.{Common.{◌≡◌, ℕ, ◌≤◌, ◌==◌, not, ◌&&◌, ◌||◌, ◌⊎◌, inl, inr, Bool, true, false, cond, List, [], ◌++◌, length, Option, is_some, refl, ap, arith, length-append}, lemmas.List.{length-map, FromFn.length-range_with_len}}, specs.List.range_with_len}
use Rattle.pim_ip.{specs.Ipv4.Packet}
use Rattle.pim_types.{specs.declared.{fact.{AssertMetric.AssertMetric, AssertRow.AssertRow, Key.Key}, outcome.Emission.Emission}}
use Rattle.pim_wire.{specs.{Values.{Encapsulated, Null}, declared.assert.Assert.Assert as AssertMessage}}
use Rattle.pim_model.{specs.{Asserts.{assert_as_winner, assert_at, assert_in_no_info, assert_received, data_seen, wins, wins_again}, Forwarding.{Forwarded, forwarded, list_chosen, register_at_rp, register_received, source_here, source_joined, spt_updated, stray, watched}, Messages.Message, Sets.{Set, inherited_olist, inherited_olist_rpt, members, spt_bit, tunnel}, State.{Addressing, State, iface_count}, Step.{change, packet_forwarded}, Tables.has_row, Unicast.{is_rpf_interface, is_rpf_interface_rp}, Writing.{copies_of, leaves, register_of_packet, tunnel_of}}}
use Rattle.law_settled.{proofs.{ListLaws.{by_cond, filter_shorter}, RowLaws.row_put}}
use Rattle.law_events.{proofs.Differing.none_left}
use Rattle.law_streams.{specs.Answers.{AssertGivesOne, CopiesOrAssert, DataGivesCopiesOrAssert, OthersGiveNone, RegisterGivesCopiesAndStop}, proofs.Made.{Configured, forwarded_configured, register_configured}}

-- ---- packets

module _ (s : State) (p : Packet) (list : Set) where
  copies_few : length (copies_of s p list) ≤ iface_count s
  unfolding copies_of members
  copies_few = grind (arith, filter_shorter, length-range_with_len, length-map, by_cond)

  no_copies : ((i : ℕ) → list i ≡ false) → copies_of s p list ≡ []
  unfolding copies_of members
  no_copies never = rw (none_left list never (range_with_len 0 (iface_count s))) (by_cond (λ (es : List Emission). es ≡ []) (leaves p) _ _ refl refl)

tunnel_one : (s : State) (p : Packet) (to_tunnel : Bool) → length (tunnel_of s p to_tunnel) ≤ 1
unfolding tunnel_of register_of_packet
tunnel_one s p to_tunnel = grind (arith, by_cond)

no_tunnel : (s : State) (p : Packet) (to_tunnel : Bool) → to_tunnel ≡ false → tunnel_of s p to_tunnel ≡ []
unfolding tunnel_of
no_tunnel s p to_tunnel e = rw e refl

same_count : (s t : State) → Configured s t → iface_count t ≡ iface_count s
same_count s t e = ap (λ (cs : Addressing). length cs.interfaces) e

few_of_same : (n m k : ℕ) → m ≡ k → n ≤ m → n ≤ k
few_of_same n m k e le = omega (arith, e, le)

-- ---- data

-- an Assert goes with no list
record Either (f : Forwarded) : Type 0 where
  one : length f.messages ≤ 1
  either : (f.messages ≡ []) ⊎ (((i : ℕ) → f.list i ≡ false) × (f.to_tunnel ≡ false))

none_either : (t : State) (list : Set) (to_tunnel : Bool)
    → Either (record { state = t; messages = []; list = list; to_tunnel = to_tunnel })
none_either t list to_tunnel = record { one = omega arith; either = inl refl }

abbrev One : State × List Message → Type 0
One p = length p.1 ≤ 1

wins_one : (s : State) (k : Key) → One (wins s k)
unfolding wins
wins_one s k = omega arith

seen_one : (s : State) (k : Key) → One (data_seen s k)
unfolding data_seen
seen_one s k = by_cond One _ (wins s k) (s, []) (wins_one s k) (omega arith)

stray_either : (s : State) (g src iif : ℕ) → Either (stray s g src iif)
unfolding stray
stray_either s g src iif = grind (arith, by_cond, seen_one)

chosen_either : (s : State) (g src iif : ℕ) → Either (list_chosen s g src iif)
unfolding list_chosen
chosen_either s g src iif =
    by_cond Either (is_rpf_interface s src iif && spt_bit s g src)
    (record { state = s; messages = []; list = inherited_olist s g src; to_tunnel = tunnel s g src }) _
    (none_either s (inherited_olist s g src) (tunnel s g src))
    (by_cond Either (is_rpf_interface_rp s g iif && not (spt_bit s g src))
    (record { state = watched s g src; messages = []; list = inherited_olist_rpt s g src; to_tunnel = false })
    (stray s g src iif) (none_either (watched s g src) (inherited_olist_rpt s g src) false) (stray_either s g src iif))

and_false : (b c : Bool) → b ≡ false → (b && c) ≡ false
and_false b c e = rw e refl

forwarded_either : (s : State) (g src iif : ℕ) → Either (forwarded s g src iif)
unfolding forwarded
forwarded_either s g src iif =
    let f : Forwarded = list_chosen (spt_updated (source_joined (source_here s g src iif) g src iif) g src iif) g src iif in
    let h : Either f = chosen_either (spt_updated (source_joined (source_here s g src iif) g src iif) g src iif) g src iif in
    record { one = h.one; either = still f h.either }
  where
    still : (f : Forwarded) → (f.messages ≡ []) ⊎ (((i : ℕ) → f.list i ≡ false) × (f.to_tunnel ≡ false))
        → (f.messages ≡ []) ⊎ (((i : ℕ) → (f.list i && not (i == iif)) ≡ false) × (f.to_tunnel ≡ false))
    still f (inl e) = inl e
    still f (inr e) = inr (λ i. and_false (f.list i) (not (i == iif)) (e.0 i), e.1)

copies_or_assert : (s : State) (p : Packet) (f : Forwarded) → Configured s f.state → Either f → CopiesOrAssert s (packet_forwarded p f)
copies_or_assert s p f same h = grind (arith, few_of_same, same_count, copies_few, tunnel_one, no_copies, no_tunnel)

pub data_gives_copies_or_assert : DataGivesCopiesOrAssert
unfolding change
data_gives_copies_or_assert s w i p =
    copies_or_assert s p (forwarded s p.destination p.source i.number)
    (forwarded_configured s p.destination p.source i.number) (forwarded_either s p.destination p.source i.number)

-- ---- Registers

record Stops (f : Forwarded) : Type 0 where
  one : length f.messages ≤ 1
  none : f.to_tunnel ≡ false

register_stops : (s : State) (p : Packet) (g src : ℕ) (is_null : Bool) → Stops (register_received s p g src is_null)
unfolding register_received register_at_rp
register_stops s p g src is_null = grind (arith, by_cond)

pub register_gives_copies_and_stop : RegisterGivesCopiesAndStop
unfolding change
register_gives_copies_and_stop s w p (Encapsulated inner) =
    let f : Forwarded = register_received s p inner.destination inner.source false in
    let h : Stops f = register_stops s p inner.destination inner.source false in
    record {
      stops = h.one;
      copies = few_of_same _ _ _ (same_count s f.state (register_configured s p inner.destination inner.source false))
          (copies_few f.state inner f.list);
      registers = no_tunnel f.state inner f.to_tunnel h.none;
    }
register_gives_copies_and_stop s w p (Null source group) =
    record { stops = (register_stops s p group source true).one; copies = omega arith; registers = refl }

-- ---- an Assert

again_one : (s : State) (k : Key) (r : AssertRow) → One (wins_again s k r)
unfolding wins_again
again_one s k r = omega arith

winner_again_one : (s : State) (k : Key) (r : AssertRow) (theirs : AssertMetric) → One (assert_as_winner s k r theirs)
unfolding assert_as_winner
winner_again_one s k r theirs = grind (arith, by_cond, again_one)

no_info_one : (s : State) (k : Key) (theirs : AssertMetric) → One (assert_in_no_info s k theirs)
unfolding assert_in_no_info
no_info_one s k theirs = grind (arith, by_cond, wins_one)

at_one : (s : State) (k : Key) (theirs : AssertMetric) → One (assert_at s k theirs)
unfolding assert_at
at_one s k theirs = grind (arith, no_info_one, by_cond, winner_again_one)

-- what stays without an assert asserts nothing
wins_there : (s : State) (k : Key) → has_row ((wins s k).0).asserts k ≡ true
unfolding wins has_row
wins_there s k = ap (λ (o : Option AssertRow). is_some o) (row_put k _ s.asserts)

silent_if : (k : Key) (b : Bool) (x y : State × List Message) → y.1 ≡ [] → has_row (x.0).asserts k ≡ true
    → has_row ((cond b x y).0).asserts k ≡ false → (cond b x y).1 ≡ []
silent_if k b x y none there e = grind arith

no_info_silent : (s : State) (k : Key) (theirs : AssertMetric) → has_row ((assert_in_no_info s k theirs).0).asserts k ≡ false
    → (assert_in_no_info s k theirs).1 ≡ []
unfolding assert_in_no_info
no_info_silent s k theirs e = grind (arith, silent_if, by_cond, wins_there)

at_silent : (s : State) (k : Key) (theirs : AssertMetric) → has_row s.asserts k ≡ false
    → has_row ((assert_at s k theirs).0).asserts k ≡ false → (assert_at s k theirs).1 ≡ []
unfolding assert_at has_row
at_silent s k theirs none e = grind (arith, no_info_silent)

goes_on_silent : (rpt here after : Bool) → (rpt && (false || (not here && not after))) ≡ true → (here ≡ false) × (after ≡ false)
goes_on_silent rpt here after e = grind arith

second_one : (b : Bool) (s : State) (k : Key) (theirs : AssertMetric)
    → length (let p : State × List Message = cond b (assert_at s k theirs) (s, []) in p.1) ≤ 1
second_one b s k theirs = grind (arith, at_one)

both_one : (goes_on : Bool) (first : State × List Message) (k : Key) (theirs : AssertMetric) → length first.1 ≤ 1
    → (goes_on ≡ true → first.1 ≡ [])
    → length (first.1 ++ (let p : State × List Message = cond goes_on (assert_at first.0 k theirs) (first.0, []) in p.1)) ≤ 1
both_one goes_on first k theirs one none = grind (arith, at_one, length-append)

received_one : (s : State) (i from : ℕ) (a : AssertMessage) → length (assert_received s i from a).1 ≤ 1
unfolding assert_received
received_one s i from a = grind (arith, second_one, both_one, at_one, goes_on_silent, at_silent)

pub assert_gives_one : AssertGivesOne
unfolding change
assert_gives_one s w i from a = omega (arith, received_one s i.number from.bits a)

-- ---- the others

pub others_give_none : OthersGiveNone
unfolding change
others_give_none s w a e = grind arith
