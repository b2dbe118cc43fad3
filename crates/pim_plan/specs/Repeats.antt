-- Which events repeat what the router knows: they change no more than when a running timer expires.
use Rattle.std.{specs.{Option.option_map_or, Prelude.{Bool, List, Option, Some, [], false, filter, if◌then◌else◌, not, ℕ, ◌&&◌, ◌==◌, ◌||◌, ◌∷◌}}}
use Rattle.pim_types.{specs.{declared.fact.{AssertMetric.AssertMetric, AssertRow.AssertRow, Key.Key}, Keys.{is_star, source_key, star_key}}}
use Rattle.pim_wire.{specs.declared.assert.Assert.Assert as AssertMessage}
use Rattle.pim_model.{specs.{AssertMacros.is_infinite, Asserts.theirs_of, Desires.join_desired, Forwarding.has_local_receivers, Full.asserted_keys, Registers.is_spt_wanted, Rows.same_metric, Sets.{inherited_olist, inherited_olist_rpt, is_better, is_kept_alive, is_loser, is_winner, spt_bit}, State.State, Tables.{has_row, row_at}, Unicast.{is_connected, is_rpf_interface, is_rpf_interface_rp}}}
use Rattle.law_events.{specs.Touches.packet_keys}

-- ---- an Assert

-- The key of the assert machine that an Assert is for first.
abbrev pub asserted_key : ℕ → AssertMessage → Key
asserted_key i a = if a.source.bits == 0 then star_key i a.group.bits else source_key i a.group.bits a.source.bits

-- The assert is one that the router lost to this metric.
unfoldable pub is_lost_to_metric : Option AssertRow → AssertMetric → Bool
is_lost_to_metric row theirs =
    is_loser row && option_map_or (λ (r : AssertRow). same_metric r.winner theirs) row false

-- The assert is one that the router won, and stays the winner of: the metric isn't better than that with which it won.
unfoldable pub is_won_against : Option AssertRow → AssertMetric → Bool
is_won_against row theirs =
    option_map_or (λ (r : AssertRow). is_winner (Some r) && not (is_better theirs r.winner)) row false

-- The metric repeats that of the winner that the router lost to, and isn't infinite; or the router is the winner, and
-- stays it.
unfoldable pub is_unmoved : Option AssertRow → AssertMetric → Bool
is_unmoved row theirs = (is_lost_to_metric row theirs && not (is_infinite theirs)) || is_won_against row theirs

-- The Assert moves at most when the timer of the machine expires that it is for first.
unfoldable pub is_assert_known : State → ℕ → ℕ → AssertMessage → Bool
is_assert_known s i from a = is_unmoved (row_at s.asserts (asserted_key i a)) (theirs_of a from)

-- The keys that it names of machines that it may move: not (*,G) where that stays as it is, since an Assert that a source
-- has none of goes on to it.
unfoldable pub moved_asserts : State → ℕ → ℕ → AssertMessage → List Key
moved_asserts s i from a =
    filter (λ k. not (is_star k && is_unmoved (row_at s.asserts k) (theirs_of a from))) (asserted_keys i a)

-- ---- a packet of data

-- The packet comes on RPF_interface(S), where S is connected or JoinDesired(S,G) holds.
unfoldable pub is_direct : State → ℕ → ℕ → ℕ → Bool
is_direct s g src iif = is_rpf_interface s src iif && (is_connected s src || join_desired s g src)

-- The source has local receivers, and the router is to switch to shortest path trees.
unfoldable pub is_watched : State → ℕ → ℕ → Bool
is_watched s g src = has_local_receivers s g src && is_spt_wanted s

-- The router forwards to the interface on which the packet came, and has no assert there.
unfoldable pub asserts_anew : State → ℕ → ℕ → ℕ → Bool
asserts_anew s g src iif =
    (if spt_bit s g src then inherited_olist s g src else inherited_olist_rpt s g src) iif
    && not (has_row s.asserts (if spt_bit s g src then source_key iif g src else star_key iif g))

-- The packet changes at most when the keepalive timer of its source expires.
unfoldable pub moves_at_most_the_keepalive_end : State → ℕ → ℕ → ℕ → Bool
moves_at_most_the_keepalive_end s g src iif =
    if is_direct s g src iif then is_kept_alive s g src && spt_bit s g src
    else (if is_rpf_interface_rp s g iif && not (spt_bit s g src)
    then is_kept_alive s g src || not (is_watched s g src) else not (asserts_anew s g src iif))

-- The keys that a packet of data touches: none where it changes at most when the keepalive timer expires. A packet that
-- comes by the tree of its source makes no assert of (*,G), and touches its source alone.
abbrev pub keys_of_packet : State → ℕ → ℕ → ℕ → List Key
keys_of_packet s g src iif =
    if moves_at_most_the_keepalive_end s g src iif then []
    else (if is_direct s g src iif then source_key 0 g src ∷ [] else packet_keys s g src iif)
