-- Which sources are named after an event or the expiry of a timer, so that their rows are evaluated again: those whose
-- fact is in only one of the states, and those of which something differs that the macros read.
use Rattle.std.{specs.{Int.bit_at, List.list_all, Prelude.{Bool, List, filter, nat_lt, not, ℕ, ◌&&◌, ◌==◌, ◌≡◌}}}
use Rattle.pim_types.{specs.{declared.{event.Event.Event, fact.Key.Key}, Keys.{group_in, source_in, source_key}}}
use Rattle.pim_model.{specs.{Cache.may_register, Clearing.clear, declared.accepted.Accepted.Accepted, Desires.{join_desired, winner_hop}, Judging.judged, Limits.most_ifaces, Neighbours.{is_dr, nbr}, Reach.{told_all, where_accepted, with_facts}, Receivers.{is_exclude, local_receiver_exclude, local_receiver_include}, Registers.could_register, Rows.{same_both, same_path, same_register_state}, Sets.{Set, assert_source, assert_star, is_beaten, is_loser, is_winner, joins, joins_star, prunes, register_state, spt_bit}, State.State, Step.change, Tables.{below, has_row, same_bool, same_hop, same_option}, Unicast.{route, rp_of, rp_route, rpf_interface, rpf_interface_rp}}}

-- ---- sights

-- Two sets are the same among the interfaces that can be configured.
unfoldable pub same_set : Set → Set → Bool
same_set a b = list_all (λ i. same_bool (a i) (b i)) (below most_ifaces)

-- The set bits of a number are those of the interfaces that can be configured and are in the set.
abbrev pub IsMask : ℕ → Set → Type 0
IsMask mask test = (i : ℕ) → (bit_at mask i == 1) ≡ (nat_lt i most_ifaces && test i)

-- The macros of (*,G) read the same in both states. Whether the router is the DR they read where a receiver of (*,G) is.
unfoldable pub is_same_star : ℕ → State → State → Bool
is_same_star g o a =
    same_option (rp_of o g) (rp_of a g)
    && same_both same_path (rp_route o g) (rp_route a g)
    && same_hop (nbr o (rp_route o g)) (nbr a (rp_route a g))
    && same_hop (winner_hop (rpf_interface_rp o g) (assert_star o g))
    (winner_hop (rpf_interface_rp a g) (assert_star a g))
    && same_set (joins_star o g) (joins_star a g)
    && same_set (λ i. is_loser (assert_star o g i)) (λ i. is_loser (assert_star a g i))
    && same_set (λ i. is_winner (assert_star o g i)) (λ i. is_winner (assert_star a g i))
    && same_set (is_exclude o g) (is_exclude a g)
    && same_set (λ i. is_dr o i && is_exclude o g i) (λ i. is_dr a i && is_exclude a g i)

-- The macros of (S,G) and of (S,G,rpt) read the same in both states, but for the keepalive timer and the register
-- tunnel. Whether the router is the DR they read where a receiver of (*,G) or of S is.
unfoldable pub is_same_sight : ℕ → ℕ → State → State → Bool
is_same_sight g src o a =
    is_same_star g o a
    && same_both same_path (route o src) (route a src)
    && same_hop (nbr o (route o src)) (nbr a (route a src))
    && same_hop (winner_hop (rpf_interface o src) (assert_source o g src))
    (winner_hop (rpf_interface a src) (assert_source a g src))
    && same_hop (winner_hop (rpf_interface_rp o g) (assert_source o g src))
    (winner_hop (rpf_interface_rp a g) (assert_source a g src))
    && same_set (joins o g src) (joins a g src)
    && same_set (prunes o g src) (prunes a g src)
    && same_set (λ i. is_loser (assert_source o g src i)) (λ i. is_loser (assert_source a g src i))
    && same_set (λ i. is_winner (assert_source o g src i)) (λ i. is_winner (assert_source a g src i))
    && same_set (is_beaten o g src) (is_beaten a g src)
    && same_set (local_receiver_include o g src) (local_receiver_include a g src)
    && same_set (local_receiver_exclude o g src) (local_receiver_exclude a g src)
    && same_set (λ i. is_dr o i && local_receiver_include o g src i) (λ i. is_dr a i && local_receiver_include a g src i)
    && same_bool (spt_bit o g src) (spt_bit a g src)

-- ---- named sources

-- CouldRegister, the state of the register fact and JoinDesired, which are compared together with the sight, are the
-- same.
unfoldable pub is_same_beside : ℕ → ℕ → State → State → Bool
is_same_beside g src o a =
    same_bool (may_register o g src) (may_register a g src)
    && same_bool (could_register o g src) (could_register a g src)
    && same_both same_register_state (register_state o g src) (register_state a g src)
    && same_bool (join_desired o g src) (join_desired a g src)

-- (S,G) has a source fact in both states, or in neither.
abbrev pub is_same_fact : ℕ → ℕ → State → State → Bool
is_same_fact g src o a = same_bool (has_row o.sources (source_key 0 g src)) (has_row a.sources (source_key 0 g src))

-- (S,G) is named by a change: its fact is in only one of the states, or something that is compared differs.
unfoldable pub is_source_named : ℕ → ℕ → State → State → Bool
is_source_named g src o a = not (is_same_fact g src o a && is_same_sight g src o a && is_same_beside g src o a)

-- The sources that a change names, among those with a fact in either state.
unfoldable pub named : State → State → List Key
named o a = filter (λ k. is_source_named (group_in k) (source_in k) o a) (with_facts o a)

-- The sources that an event or the expiry of a timer names, by the opening and the own change: the opening is compared
-- with the state after clearing.
unfoldable pub named_by : State → State → List Key
named_by o changed = named o (clear o changed).0

-- The sources that a change names, among those with a fact in either state that pass a test.
unfoldable pub named_where : (Key → Bool) → State → State → List Key
named_where asked o changed =
    let after : State = (clear o changed).0 in
    filter (λ k. is_source_named (group_in k) (source_in k) o after) (filter asked (with_facts o after))

-- The sources that an accepted event names; for an Advance those of its timers, one after the other.
unfoldable pub named_of : State → ℕ → Accepted → List Key
named_of s w (Accepted.Advance moment) = (told_all named_by w moment s).1
named_of s w a = named_by s (change s w a).state

-- The sources that an event names; an event that isn't accepted names none.
unfoldable pub event_named : State → Event → List Key
event_named s e = where_accepted s (named_of s e.draw) (judged s e.kind)

-- ---- routes and RP ranges

-- RP(G) and the route to it are the same, and the route to S.
unfoldable pub has_same_rp : ℕ → State → State → Bool
has_same_rp g s t = same_option (rp_of s g) (rp_of t g) && same_both same_path (rp_route s g) (rp_route t g)

-- RP(G), the route to it and the route to S are the same in two states.
unfoldable pub has_same_routes : ℕ → ℕ → State → State → Bool
has_same_routes g src s t = has_same_rp g s t && same_both same_path (route s src) (route t src)

abbrev pub is_rerouted : State → State → Key → Bool
is_rerouted s t k = not (has_same_routes (group_in k) (source_in k) s t)
