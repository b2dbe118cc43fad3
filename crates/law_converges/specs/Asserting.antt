-- How a router comes to be the winner of an assert: by a packet on a link on which it sends the source's packets itself, and by an Assert that is
-- worse than its own (RFC 7761, 4.2, 4.6.1 and 4.6.2).
use Rattle.std.{specs.{List.Contains, Prelude.{None, Some, false, if◌then◌else◌, not, true, ℕ, ◌&&◌, ◌+◌, ◌≡◌, ◌⊎◌}}}
use Rattle.pim_ip.{specs.{Ipv4.Packet, declared.addr.Addr.Addr}}
use Rattle.pim_types.{specs.{Keys.{source_in, source_key, star_key}, declared.{config.IfaceId.IfaceId, event.Event.Event, fact.{AssertRole.AssertRole, AssertRow.AssertRow, Key.Key}}}}
use Rattle.pim_wire.{specs.declared.assert.Assert.Assert as AssertMessage}
use Rattle.pim_model.{specs.{Asserts.{asserted_metric, could_assert_at, is_inferior, my_metric_at, theirs_of}, Cause.done_as, Sets.{inherited_olist, inherited_olist_rpt, spt_bit}, State.{State, my_address}, Step.step, Tables.row_at, Unicast.{is_rpf_interface, is_rpf_interface_rp}, Writing.on_link, declared.accepted.Accepted.Accepted}}
use Rattle.law_streams.{specs.{Copies.happens, Served.renewed}}
use Rattle.law_converges.{specs.LinkAsserts.{assert_packet, is_about, key_about}}

-- the machine of which a packet is an event where its RPF check fails: that of (S,G) if SPTbit(S,G) is set, else that of (*,G)
abbrev pub key_by : State → (g src i : ℕ) → Key
key_by s g src i = if spt_bit s g src then source_key i g src else star_key i g

-- A packet of the source that comes on an interface is on neither tree, and the interface is on the source's list; the router could assert
-- there, and has no assert.
pub record IsDuplicate (s : State) (g src i : ℕ) : Type 0 where
  pub off_source : (is_rpf_interface s src i && spt_bit s g src) ≡ false
  pub off_group : (is_rpf_interface_rp s g i && not (spt_bit s g src)) ≡ false
  pub listed : (if spt_bit s g src then inherited_olist s g src i else inherited_olist_rpt s g src i) ≡ true
  pub could : could_assert_at s (key_by s g src i) ≡ true
  pub none : row_at s.asserts (key_by s g src i) ≡ None

-- the row of who won with its own metric, until a timestamp
abbrev pub won_by : State → Key → AssertRow
won_by u k = record { role = AssertRole.Winner; winner = my_metric_at u k; end = u.present + 177000 }

-- The router sends its Assert on an interface in the event, and is the winner for 177 s, or has no assert, where that must go. s is the state
-- before, u that whose metrics it asserts.
pub record Asserts (k : Key) (i g src : ℕ) (s u : State) (e : Event) : Type 0 where
  pub sends : Contains (step s e).emissions (on_link i (assert_packet (my_address s i) g src (asserted_metric u k)))
  pub wins : (row_at ((step s e).state).asserts k ≡ None) ⊎ (row_at ((step s e).state).asserts k ≡ Some (won_by u k))

-- A packet that comes so is answered. u is the state in which the packet's facts are renewed.
abbrev pub DuplicateIsAnswered : Type 0
DuplicateIsAnswered = (s : State) (e : Event) (i : IfaceId) (p : Packet) → done_as (happens s e) ≡ Some (Accepted.Data i p)
    → (let u : State = renewed s p.destination p.source i.number in IsDuplicate u p.destination p.source i.number
    → Asserts (key_by u p.destination p.source i.number) i.number p.destination (source_in (key_by u p.destination p.source i.number)) s u e)

-- An Assert that is worse than the router's own, where it could assert and has no assert, is answered by that.
pub record IsChallenged (i : IfaceId) (from : Addr) (a : AssertMessage) (s : State) (e : Event) : Type 0 where
  pub taken : done_as (happens s e) ≡ Some (Accepted.Assert i from a)
  pub about : is_about a ≡ true
  pub none : row_at s.asserts (key_about i.number a) ≡ None
  pub could : could_assert_at s (key_about i.number a) ≡ true
  pub inferior : is_inferior s (key_about i.number a) (theirs_of a from.bits) ≡ true

abbrev pub InferiorIsAnswered : Type 0
InferiorIsAnswered = (s : State) (e : Event) (i : IfaceId) (from : Addr) (a : AssertMessage) → IsChallenged i from a s e
    → Asserts (key_about i.number a) i.number a.group.bits a.source.bits s s e
