-- The forwarding cache: what is read of a source of a group when its data comes (RFC 7761, section 4.2), and which
-- packets these answers decide alone.
use Rattle.std.{specs.{Option.option_map_or, Prelude.{Bool, None, Option, Some, false, if◌then◌else◌, nat_lt, not, ℕ, ◌&&◌, ◌==◌, ◌||◌}}}
use Rattle.pim_types.{specs.Keys.{source_key, star_key}}
use Rattle.pim_model.{specs.{AssertMacros.{could_assert, could_assert_star}, Desires.{is_inherited_empty, join_desired}, Forwarding.{has_local_receivers, is_spt_reached, no_interface}, Registers.{has_other_rp, is_dr_of_path, is_spt_wanted}, Sets.{Set, immediate_olist, inherited_olist, inherited_olist_rpt, spt_bit, tunnel}, State.State, Tables.{has_row, same_option}, Unicast.{is_connected, route, rpf_interface, rpf_interface_rp}}}

-- ---- what is read of a source

-- what a row of the forwarding cache says of (S,G): outgoing lists, RPF interfaces, and what a packet changes
pub record Answers : Type 0 where
  -- immediate_olist(S,G), inherited_olist(S,G), inherited_olist(S,G,rpt)
  pub immediate : Set
  pub inherited : Set
  pub inherited_rpt : Set
  -- the register tunnel is in immediate_olist(S,G) and inherited_olist(S,G)
  pub has_tunnel : Bool
  -- RPF_interface(S), RPF_interface(RP(G))
  pub rpf : Option ℕ
  pub rp_rpf : Option ℕ
  -- SPTbit(S,G)
  pub spt : Bool
  -- S is on a link of the router
  pub connected : Bool
  -- CouldRegister(S,G) without regard to KAT(S,G)
  pub may_register : Bool
  -- (S,G) is registered: its register state isn't NoInfo
  pub registered : Bool
  -- JoinDesired(S,G)
  pub desired : Bool
  -- inherited_olist(S,G) isn't empty
  pub flows : Bool
  -- Update_SPTbit(S,G) sets SPTbit for a packet on RPF_interface(S)
  pub reaches : Bool
  -- a packet on the shared tree sets KAT(S,G): it has receivers on links of the router, and SwitchToSptDesired(S,G)
  -- holds
  pub watches : Bool
  -- the interfaces on which a packet that is off its tree makes the router the winner of an assert
  pub contested : Set

-- CouldRegister(S,G) without regard to KAT(S,G) (4.4.1)
-- reads: the route to S, I_am_DR of its interface, the RP ranges, the own addresses
unfoldable pub may_register : State → ℕ → ℕ → Bool
may_register s g src = option_map_or (is_dr_of_path s) (route s src) false && has_other_rp s g

-- the assert of (S,G), or without SPTbit of (*,G), is in NoInfo, CouldAssert holds, and the router forwards on the
-- interface
-- reads: what CouldAssert and the inherited lists read, and the assert of (S,G) or of (*,G) on the interface
unfoldable pub is_contested : State → ℕ → ℕ → Set
is_contested s g src i =
    if spt_bit s g src
    then inherited_olist s g src i && could_assert s g src i && not (has_row s.asserts (source_key i g src))
    else inherited_olist_rpt s g src i && could_assert_star s g i && not (has_row s.asserts (star_key i g))

-- the answers about (S,G) in a state, each macro evaluated anew
unfoldable pub answers : State → ℕ → ℕ → Answers
answers s g src = record {
  immediate = immediate_olist s g src;
  inherited = inherited_olist s g src;
  inherited_rpt = inherited_olist_rpt s g src;
  has_tunnel = tunnel s g src;
  rpf = rpf_interface s src;
  rp_rpf = rpf_interface_rp s g;
  spt = spt_bit s g src;
  connected = is_connected s src;
  may_register = may_register s g src;
  registered = has_row s.registers (source_key 0 g src);
  desired = join_desired s g src;
  flows = not (is_inherited_empty s g src);
  reaches = option_map_or (is_spt_reached s g src) (rpf_interface s src) false;
  watches = has_local_receivers s g src && is_spt_wanted s;
  contested = is_contested s g src;
}

-- the cache: a row for each source with a fact, and for no other
unfoldable pub cached : State → ℕ → ℕ → Option Answers
cached s g src = if has_row s.sources (source_key 0 g src) then Some (answers s g src) else None

-- ---- what the answers of a row decide of a packet

-- how a plain packet is forwarded: whether it sets KAT(S,G), and on which interfaces copies leave
pub record Plain : Type 0 where
  pub keeps : Bool
  pub list : Set

-- a packet's interface is RPF_interface(S): it came on the source's tree
abbrev pub is_on_tree : Answers → ℕ → Bool
is_on_tree r iif = same_option r.rpf (Some iif)

-- a packet's interface is RPF_interface(RP(G)): it came on the shared tree
abbrev pub is_on_shared_tree : Answers → ℕ → Bool
is_on_shared_tree r iif = same_option r.rp_rpf (Some iif)

-- a packet sets KAT(S,G) by coming on RPF_interface(S), where S is connected, or (S,G) is joined and forwarded
abbrev pub keeps_alive : Answers → ℕ → Bool
keeps_alive r iif = is_on_tree r iif && (r.connected || (r.desired && r.flows))

-- a packet opens the register tunnel
abbrev pub opens_tunnel : Answers → ℕ → Bool
opens_tunnel r iif = is_on_tree r iif && r.connected && r.may_register && not r.registered

-- a packet sets SPTbit(S,G)
abbrev pub sets_spt : Answers → ℕ → Bool
sets_spt r iif = is_on_tree r iif && r.reaches && not r.spt

-- a set without the interface on which the packet came
abbrev pub away_from : ℕ → Set → Set
away_from iif list i = list i && not (i == iif)

-- How the answers decide a packet. They don't where it opens the tunnel, sets SPTbit, leaves by the tunnel, or makes
-- the router the winner of an assert.
unfoldable pub plain : Answers → ℕ → ℕ → Option Plain
plain r iif time_to_live =
    if opens_tunnel r iif || sets_spt r iif then None
    else (if is_on_tree r iif && r.spt
    then (if r.has_tunnel && nat_lt 1 time_to_live then None
    else Some (record { keeps = keeps_alive r iif; list = away_from iif r.inherited }))
    else (if is_on_shared_tree r iif && not r.spt
    then Some (record { keeps = keeps_alive r iif || r.watches; list = away_from iif r.inherited_rpt })
    else (if r.contested iif then None else Some (record { keeps = keeps_alive r iif; list = no_interface }))))
