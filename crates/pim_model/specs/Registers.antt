-- Registering with the RP. Sections are those of RFC 7761. Where there is no register row the state is NoInfo.
use Rattle.std.{specs.{Option.option_map_or, Prelude.{Bool, List, Some, [], false, fold, if◌then◌else◌, map, not, true, unwrap_or, ℕ, ◌&&◌, ◌++◌, ◌+◌, ◌==◌, ◌||◌, ◌∷◌}}}
use Rattle.pim_types.{specs.{Keys.{group_in, source_in, source_key}, declared.{config.SptSwitch.SptSwitch, fact.{Key.Key, RegisterRow.RegisterRow, RegisterState.RegisterState}, path.Path.Path}}}
use Rattle.pim_model.{specs.{Messages.Message, Neighbours.is_dr, Sets.{is_kept_alive, spt_bit}, State.{State, is_own, my_address}, Tables.{Table, change_row, delay_in, drop_at, has_row, keys_in, put, same_option}, Unicast.{route, rp_of, rpf_interface}}}

-- Keepalive_Period, and at the RP max(Keepalive_Period, RP_Keepalive_Period) = max(210 s, 185 s) (4.11), in ms
abbrev pub keepalive_period : ℕ
keepalive_period = 210000

-- Register_Probe_Time (4.11), in ms
abbrev pub register_probe_time : ℕ
register_probe_time = 5000

-- set KeepaliveTimer(S,G) to Keepalive_Period (4.2)
unfoldable pub with_keepalive : State → ℕ → ℕ → State
with_keepalive s g src =
    record s {
      sources = put s.sources (source_key 0 g src)
          (record { keepalive = Some (s.present + keepalive_period); spt = spt_bit s g src });
    }

-- RP(G) is known, and is another router
unfoldable pub has_other_rp : State → ℕ → Bool
has_other_rp s g = option_map_or (λ rp. not (is_own s rp)) (rp_of s g) false

-- I_am_DR(RPF_interface(S)) AND DirectlyConnected(S)
abbrev pub is_dr_of_path : State → Path → Bool
is_dr_of_path s p = p.is_connected && is_dr s p.iface.number

-- CouldRegister(S,G) = I_am_DR(RPF_interface(S)) AND KeepaliveTimer(S,G) is running AND DirectlyConnected(S) (4.4.1)
-- here: AND RP(G) is known, and another router
-- reads: the route to S, I_am_DR of its interface, the source row of (S,G), the RP ranges, the own addresses
unfoldable pub could_register : State → ℕ → ℕ → Bool
could_register s g src =
    option_map_or (is_dr_of_path s) (route s src) false && is_kept_alive s g src && has_other_rp s g

-- CouldRegister(S,G) ->True: NI -> J; CouldRegister(S,G) ->False: any state -> NI (4.4.1), by the key of a source
unfoldable pub settled_register : State → Key → Table RegisterRow → Table RegisterRow
settled_register s k t =
    if could_register s (group_in k) (source_in k)
    then (if has_row t k then t else put t k (record { state = RegisterState.Join }))
    else drop_at t k

-- the state in which the register of one source is settled (4.4.1)
unfoldable pub settle_register : State → Key → State
settle_register s k = record s { registers = settled_register s k s.registers }

-- the state in which the registers of all sources are settled (4.4.1); here: at the end of a change
unfoldable pub settle_registers : State → State
settle_registers s =
    record s { registers = fold (λ t k. settled_register s k t) s.registers (keys_in s.sources ++ keys_in s.registers) }

-- a Register-Stop is for this register row; one with source 0.0.0.0 is for all sources of the group (4.4.1)
abbrev pub is_meant : ℕ → ℕ → Key × RegisterRow → Bool
is_meant g src e = (group_in e.0 == g) && ((src == 0) || (source_in e.0 == src))

-- Register-Stop received (4.4.1): J, JP -> P; P is unchanged
abbrev pub state_after_stop : ℕ → RegisterState → RegisterState
state_after_stop end (RegisterState.Prune old) = RegisterState.Prune old
state_after_stop end _ = RegisterState.Prune end

-- a Register-Stop is received: Register-Stop Timer = rand(0.5, 1.5) * Register_Suppression_Time - Register_Probe_Time
-- (4.4.1)
unfoldable pub register_stop_seen : State → ℕ → ℕ → ℕ → State
register_stop_seen s w g src =
    let end : ℕ = s.present + delay_in 25000 85000 w in
    record s {
      registers = map (λ (e : Key × RegisterRow).
          if is_meant g src e then (e.0, record { state = state_after_stop end (e.1).state }) else e) s.registers;
    }

-- the address from which the router registers; here: its own on RPF_interface(S)
abbrev pub registering_address : State → ℕ → ℕ
registering_address s src = option_map_or (my_address s) (rpf_interface s src) 0

-- the state with another register state of (S,G)
abbrev pub with_register_state : State → Key → RegisterState → State
with_register_state s k state =
    record s { registers = change_row (λ (old : RegisterRow). Some (record { state = state })) k s.registers }

-- Register-Stop Timer expires (4.4.1): P -> JP with a Null-Register, timer to Register_Probe_Time; JP -> J
unfoldable pub register_due : State → Key → RegisterState → State × List Message
register_due s k (RegisterState.Prune end) = (
  with_register_state s k (RegisterState.JoinPending (s.present + register_probe_time)),
  Message.NullRegister (registering_address s (source_in k)) (unwrap_or (rp_of s (group_in k)) 0)
      (source_in k) (group_in k) ∷ [],
)
register_due s k _ = (with_register_state s k RegisterState.Join, [])

-- RP changed (4.4.1): J, JP, P -> J
unfoldable pub registers_after_rps : State → State → Table RegisterRow
registers_after_rps before after =
    map (λ (e : Key × RegisterRow).
    if same_option (rp_of before (group_in e.0)) (rp_of after (group_in e.0)) then e
    else (e.0, record { state = RegisterState.Join })) after.registers

-- SwitchToSptDesired(S,G) (4.2.1); here: as configured, always or never
abbrev pub is_spt_wanted : State → Bool
is_spt_wanted s = elim (s.settings.spt) [ SptSwitch.Always ↦ true | SptSwitch.Never ↦ false ]
