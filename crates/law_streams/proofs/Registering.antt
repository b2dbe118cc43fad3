-- The DR of a source's link registers its packets.
use Rattle.std.{proofs.{Common.{◌≡◌, ◌∙◌, ℕ, ◌&&◌, Bool, true, false, not, cond, List, [], ◌∷◌, Option, Some, option_map, refl, sym, ap, subst, arith, lt-ltb, ◌⊎◌, inl, inr}, lemmas.{Bool.both_ways, List.Elements.Contains-append_right}}, specs.{List.Contains, Option.option_map_or}}
use Rattle.pim_ip.{specs.Ipv4.{Packet, copy_text}}
use Rattle.pim_types.{specs.{Keys.source_key, declared.{fact.{Key.Key, RegisterRow.RegisterRow, RegisterState.RegisterState}, outcome.Emission.Emission, path.Path.Path}}}
use Rattle.pim_wire.{specs.Registers.register_text}
use Rattle.pim_model.{specs.{declared.accepted.Accepted.Accepted, Asserts.with_spt_bit, Desires.{is_immediate_empty, join_desired}, Forwarding.{Forwarded, forwarded, list_chosen, source_here, source_joined, spt_updated}, Neighbours.is_dr, Registers.{could_register, has_other_rp, is_dr_of_path, registering_address, settle_register, settled_register, with_keepalive}, Sets.{is_register_join, spt_bit, tunnel}, State.{State, is_own}, Step.{Answered, change, done, taken}, Tables.{has_row, put, row_at, same_option}, Unicast.{is_connected, is_rpf_interface, route, rp_of, rpf_interface}, Writing.{leaves, pim_to, register_of_packet, tunnel_of}}}
use Rattle.law_settled.{proofs.RowLaws.row_put}
use Rattle.law_streams.{specs.{Served.renewed, Sources.{DrRegisters, Registers}}, proofs.{Made.step_taken, Changes.data_ground, Serving.{connected_on_source, kept_at, met}, Ways.{SameGround, same_route}}}

all_three : (a b c : Bool) → a ≡ true → b ≡ true → c ≡ true → (a && b && c) ≡ true
all_three a b c e f h = rw (e, f, h) refl

dr_of : (s : State) (up : ℕ) (o : Option Path) → option_map_or (λ (p : Path). p.is_connected) o false ≡ true
    → same_option (option_map (λ (p : Path). p.iface.number) o) (Some up) ≡ true → is_dr s up ≡ true
    → option_map_or (is_dr_of_path s) o false ≡ true
dr_of s up o c w d = grind arith

module _ (s : State) (g src up rp : ℕ) (r : Registers s g src up rp) where
  abbrev key : Key
  key = source_key 0 g src

  abbrev alive : State
  alive = with_keepalive s g src

  could : could_register alive g src ≡ true
  unfolding could_register with_keepalive route is_dr has_other_rp rp_of is_connected rpf_interface
  could =
      all_three _ _ _ (dr_of s up (route s src) (r.at).connected (r.at).way r.dr)
      (kept_at s g src up (r.at).connected (r.at).way s)
      (ap (λ (o : Option ℕ). option_map_or (λ rp. not (is_own s rp)) o false) r.rp_known ∙ ap not r.other)

  joined : tunnel (settle_register alive key) g src ≡ true
  unfolding settle_register settled_register tunnel with_keepalive
  joined = rw could (go (has_row s.registers key) refl r.unstopped)
    where
      go : (b : Bool) → has_row s.registers key ≡ b → (has_row s.registers key ≡ false) ⊎ (tunnel s g src ≡ true)
          → is_register_join (option_map (λ (x : RegisterRow). x.state)
          (row_at (cond b s.registers (put s.registers key (record { state = RegisterState.Join }))) key)) ≡ true
      go true e (inl none) = absurd (both_ways _ none e)
      go true e (inr set) = set
      go false e u = ap (λ (o : Option RegisterRow). is_register_join (option_map (λ (x : RegisterRow). x.state) o)) (row_put key _ s.registers)

  here_tunnel : tunnel (source_here s g src up) g src ≡ true
  unfolding source_here
  here_tunnel = rw ((r.at).connected, (r.at).way) joined

  met_registers : (met s g src up).registers ≡ (source_here s g src up).registers
  unfolding source_joined with_keepalive
  met_registers = grind arith

  renewed_registers : (renewed s g src up).registers ≡ (met s g src up).registers
  unfolding renewed spt_updated with_spt_bit
  renewed_registers = grind arith

  met_tunnel : tunnel (met s g src up) g src ≡ true
  unfolding tunnel
  met_tunnel = grind (arith, met_registers, here_tunnel)

  renewed_tunnel : tunnel (renewed s g src up) g src ≡ true
  unfolding tunnel
  renewed_tunnel = grind (arith, renewed_registers, met_tunnel)

  wanted : join_desired (met s g src up) g src ≡ true
  unfolding join_desired is_immediate_empty
  wanted = grind (arith, met_tunnel, met)

  on_source : (is_rpf_interface (renewed s g src up) src up && spt_bit (renewed s g src up) g src) ≡ true
  on_source = connected_on_source s g src up (r.at).connected (r.at).way wanted

  to_tunnel : (forwarded s g src up).to_tunnel ≡ true
  unfolding forwarded renewed list_chosen
  to_tunnel = rw on_source renewed_tunnel

module _ (s : State) (w up rp : ℕ) (p : Packet) (r : Registers s p.destination p.source up rp) (lives : leaves p ≡ true) where
  abbrev f : Forwarded
  f = forwarded s p.destination p.source up

  abbrev register : Emission
  register = pim_to (registering_address s p.source) rp (register_text (copy_text p))

  ground : SameGround s f.state
  unfolding change
  ground = data_ground s w (record { number = up }) p

  same_rp : rp_of f.state p.destination ≡ Some rp
  unfolding rp_of
  same_rp = ap (λ rs. rp_of (record s { ranges = rs }) p.destination) ground.ranges ∙ r.rp_known

  same_address : registering_address f.state p.source ≡ registering_address s p.source
  unfolding rpf_interface
  same_address = grind (arith, same_route, ground)

  made : tunnel_of f.state p f.to_tunnel ≡ register ∷ []
  unfolding tunnel_of register_of_packet
  made = rw (to_tunnel s p.destination p.source up rp r, lives, same_rp, same_address) refl

pub dr_registers : DrRegisters
unfolding taken change done
dr_registers s e p up rp r came =
    let lives : leaves p ≡ true = lt-ltb 1 p.time_to_live came.lives in
    subst (λ (a : Answered). Contains a.emissions (register s e.draw up rp p r lives))
    (sym (step_taken s e (Accepted.Data (record { number = up }) p) came.done))
    (Contains-append_right _ _ (register s e.draw up rp p r lives)
    (subst (λ (es : List Emission). Contains es (register s e.draw up rp p r lives)) (sym (made s e.draw up rp p r lives)) (0, omega arith, refl)))
