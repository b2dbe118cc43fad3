-- What must go after a change: asserts whose state doesn't hold any more (RFC 7761, sections 4.6.1 and 4.6.2), and
-- SPTbits (4.5.5). Here: the registers are settled first; then one fact goes after the other, and all macros are
-- evaluated anew after each.
use Rattle.std.{specs.{Option.{option_cmp, option_or}, Ordering.{is_lt, nat_cmp, ordering_then}, Prelude.{Bool, List, None, Option, Some, [], filter, find, if◌then◌else◌, length, not, option_map, ℕ, ◌&&◌, ◌+◌, ◌||◌, ◌∷◌}, declared.cmp.Ordering.Ordering}}
use Rattle.pim_types.{specs.{Keys.{addr_cmp, group_in, iface_in, is_star, source_in}, declared.fact.{AssertRow.AssertRow, Key.Key, SourceRow.SourceRow}}}
use Rattle.pim_model.{specs.{Asserts.{assert_cancel, assert_forgotten, could_assert_at, is_tracking_at, my_metric_at, without_spt_bit}, Desires.join_desired, Messages.Message, Neighbours.is_neighbour, Registers.settle_registers, Repeat.until_none, Sets.{is_better, is_winner}, State.State, Unicast.{is_rpf_interface, is_rpf_interface_rp}}}

-- here: the order in which asserts are cleared: by group, (*,G) before its sources, source, interface
unfoldable pub assert_cmp : Key → Key → Ordering
assert_cmp a b =
    ordering_then (addr_cmp a.group b.group)
    (ordering_then (option_cmp addr_cmp a.source b.source) (nat_cmp a.iface.number b.iface.number))

-- I is RPF_interface(RP(G)), for an assert of (*,G), or RPF_interface(S)
abbrev pub is_rpf_at : State → Key → Bool
is_rpf_at s k =
    if is_star k then is_rpf_interface_rp s (group_in k) (iface_in k)
    else is_rpf_interface s (source_in k) (iface_in k)

-- In I Am Assert Loser, -> NI by A5: Current Winner's NLT Expires; AssertTrackingDesired -> FALSE; my_metric -> better
-- than winner's metric; RPF_interface stops being I. o is the opening
abbrev pub loser_must_go : State → State → Key → AssertRow → Bool
loser_must_go o s k r =
    not (is_neighbour s (iface_in k) r.winner.address.bits)
    || not (is_tracking_at s k)
    || is_better (my_metric_at s k) r.winner
    || (is_rpf_at o k && not (is_rpf_at s k))

-- In I Am Assert Winner, CouldAssert -> FALSE: -> NI by A4. A loser must go by `loser_must_go`. o is the opening
unfoldable pub assert_must_go : State → State → Key × AssertRow → Bool
assert_must_go o s e =
    if is_winner (Some e.1) then not (could_assert_at s e.0) else loser_must_go o s e.0 e.1

module _ {X : Type 0} (is_first : X → X → Bool) where
  -- the first of a list by an order
  unfoldable pub first_of_both : X → Option X → X
  first_of_both x None = x
  first_of_both x (Some y) = if is_first y x then y else x

  unfoldable pub first_by : List X → Option X
  first_by [] = None
  first_by (x ∷ xs) = Some (first_of_both x (first_by xs))

-- of two asserts the first is cleared before the second
abbrev pub is_assert_first : Key × AssertRow → Key × AssertRow → Bool
is_assert_first a b = is_lt (assert_cmp a.0 b.0)

-- a fact that must go
pub data Cleared : Type 0 where
  ClearAssert : Key → AssertRow → Cleared
  ClearSptBit : Key → Cleared

-- the first assert that must go; o is the opening
unfoldable pub assert_to_clear : State → State → Option Cleared
assert_to_clear o s =
    option_map (λ e. ClearAssert e.0 e.1) (first_by is_assert_first (filter (assert_must_go o s) s.asserts))

-- JoinDesired(S,G) ->False: set SPTbit(S,G) to FALSE (4.5.5)
abbrev pub spt_must_go : State → Key × SourceRow → Bool
spt_must_go s e = (e.1).spt && not (join_desired s (group_in e.0) (source_in e.0))

-- the first SPTbit that must go
unfoldable pub spt_to_clear : State → Option Cleared
spt_to_clear s = option_map (λ e. ClearSptBit e.0) (find (spt_must_go s) s.sources)

-- the first assert that must go, or, without one, the first SPTbit; o is the opening
unfoldable pub to_clear : State → State → Option Cleared
to_clear o s =
    let spt : Option Cleared = spt_to_clear s in
    option_or (assert_to_clear o s) spt

-- the change by which a fact goes: A4 of a winner, with an AssertCancel; A5 of a loser; SPTbit(S,G) set to FALSE
unfoldable pub cleared : State → Cleared → State × List Message
cleared s (ClearAssert k r) =
    (assert_forgotten s k, (if is_winner (Some r) then assert_cancel k ∷ [] else []))
cleared s (ClearSptBit k) = (without_spt_bit s k, [])

-- the number of asserts and set SPTbits, which only falls
unfoldable pub clearable_count : State → ℕ
clearable_count s = length s.asserts + length (filter (λ e. (e.1).spt) s.sources)

-- the state after all that must go has gone, with the messages; o is the opening
unfoldable pub clear_all : State → State → State × List Message
clear_all o s = until_none (to_clear o) cleared (clearable_count s) s

-- the state after the registers are settled and all that must go has gone, with the messages; o is the opening
unfoldable pub clear : State → State → State × List Message
clear o s = clear_all o (settle_registers s)
