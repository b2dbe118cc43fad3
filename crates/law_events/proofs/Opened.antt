-- A packet that opens the register tunnel leaves its register behind.
use Rattle.std.{proofs.{Common.{◌≡◌, ℕ, Bool, true, false, not, ◌&&◌, ◌++◌, cond, List, [], refl, sym, ap, ◌∙◌, arith}, lemmas.Bool.or_left}}
use Rattle.pim_types.{specs.{declared.fact.{Key.Key, RegisterRow.RegisterRow, RegisterState.RegisterState}, Keys.{group_in, same_key, source_in, source_key, star_key}}, proofs.Keys.{equal_keys, same_key_same}}
use Rattle.pim_model.{specs.{Asserts.{could_assert_at, data_seen, wins, with_spt_bit}, Cache.may_register, Forwarding.{Forwarded, forwarded, has_local_receivers, list_chosen, source_here, source_joined, spt_updated, stray, watched, when}, Messages.Message, Neighbours.is_dr, Registers.{could_register, has_other_rp, is_spt_wanted, settle_register, settle_registers, settled_register, with_keepalive}, Sets.{Set, inherited_olist, inherited_olist_rpt, is_kept_alive, spt_bit, tunnel}, State.State, Tables.{Table, drop_at, has_row, keys_in, put}, Unicast.{is_connected, is_rpf_interface, is_rpf_interface_rp, route, rp_of}}}
use Rattle.law_settled.{proofs.{RowLaws.{has_row_put, has_row_without}, TurnLaws.kept_by_fold}}
use Rattle.law_events.{proofs.{KeptAlive.now_kept, SptSets.alive_as_before}}

module _ (g src : ℕ) where
  abbrev key : Key
  key = source_key 0 g src

  -- the tunnel stands, and may stand
  record IsOpen (s : State) : Type 0 where
    row : has_row s.registers key ≡ true
    may : may_register s g src ≡ true
    alive : is_kept_alive s g src ≡ true

  could_open : (s : State) → IsOpen s → could_register s g src ≡ true
  unfolding could_register may_register
  could_open s is = grind arith

  -- ---- what keeps it open

  keepalive_open : (s : State) → IsOpen s → IsOpen (with_keepalive s g src)
  unfolding with_keepalive may_register route is_dr has_other_rp rp_of
  keepalive_open s is = record { row = is.row; may = is.may; alive = now_kept g src s }

  spt_open : (s : State) → IsOpen s → IsOpen (with_spt_bit s g src)
  unfolding with_spt_bit may_register route is_dr has_other_rp rp_of is_kept_alive
  spt_open s is = record {
    row = is.row;
    may = is.may;
    alive = alive_as_before g src s ∙ is.alive;
  }

  wins_open : (s : State) (k : Key) → IsOpen s → IsOpen (wins s k).0
  unfolding wins may_register route is_dr has_other_rp rp_of is_kept_alive
  wins_open s k is = record { row = is.row; may = is.may; alive = is.alive }

  when_open : (b : Bool) (change : State → State) (s : State) → ((t : State) → IsOpen t → IsOpen (change t)) → IsOpen s
      → IsOpen (when b change s)
  when_open b change s keeps is = grind arith

  pair_open : (b : Bool) (x y : State × List Message) → IsOpen x.0 → IsOpen y.0 → IsOpen (cond b x y).0
  pair_open b x y f h = grind arith

  either_open : (b : Bool) (x y : Forwarded) → IsOpen x.state → IsOpen y.state → IsOpen (cond b x y).state
  either_open b x y f h = grind arith

  stray_open : (s : State) (i : ℕ) → IsOpen s → IsOpen (stray s g src i).state
  unfolding stray data_seen
  stray_open s i is =
      let k : Key = cond (spt_bit s g src) (source_key i g src) (star_key i g) in
      let list : Set = cond (spt_bit s g src) (inherited_olist s g src) (inherited_olist_rpt s g src) in
      pair_open (list i) (data_seen s k) (s, [])
      (pair_open (could_assert_at s k && not (has_row s.asserts k)) (wins s k) (s, []) (wins_open s k is) is) is

  chosen_open : (s : State) (i : ℕ) → IsOpen s → IsOpen (list_chosen s g src i).state
  unfolding list_chosen watched
  chosen_open s i is =
      let tree : Forwarded =
      record { state = s; messages = []; list = inherited_olist s g src; to_tunnel = tunnel s g src } in
      let shared : Forwarded =
      record { state = watched s g src; messages = []; list = inherited_olist_rpt s g src; to_tunnel = false } in
      let is_shared : Bool = is_rpf_interface_rp s g i && not (spt_bit s g src) in
      either_open (is_rpf_interface s src i && spt_bit s g src) tree (cond is_shared shared (stray s g src i)) is
      (either_open is_shared shared (stray s g src i)
      (when_open (has_local_receivers s g src && is_spt_wanted s) (λ t. with_keepalive t g src) s keepalive_open is)
      (stray_open s i is))

  -- ---- the packet

  module _ (s : State) (i : ℕ) (here : (is_connected s src && is_rpf_interface s src i) ≡ true)
      (may : may_register s g src ≡ true) (none : has_row s.registers key ≡ false) where
    could_kept : could_register (with_keepalive s g src) g src ≡ true
    unfolding with_keepalive could_register may_register route is_dr has_other_rp rp_of
    could_kept = grind (arith, now_kept)

    put_there : has_row (settled_register (with_keepalive s g src) key s.registers) key ≡ true
    unfolding settled_register
    put_there = grind (arith, could_kept, has_row_put, or_left, same_key_same)

    here_open : IsOpen (source_here s g src i)
    unfolding source_here settle_register with_keepalive may_register route is_dr has_other_rp rp_of is_kept_alive
    here_open = grind (arith, put_there, now_kept)

    forwarded_open : IsOpen (forwarded s g src i).state
    unfolding forwarded source_joined spt_updated
    forwarded_open =
        chosen_open _ i
        (when_open _ (λ t. with_spt_bit t g src) _ spt_open
        (when_open _ (λ t. with_keepalive t g src) (source_here s g src i) keepalive_open here_open))

  -- ---- it stays while registers are settled

  module _ (s : State) (could : could_register s g src ≡ true) where
    stays_step : (q : Key) (t : Table RegisterRow) (c h b : Bool) (row : RegisterRow)
        → could_register s (group_in q) (source_in q) ≡ c → same_key key q ≡ b → has_row t key ≡ true
        → has_row (cond c (cond h t (put t q row)) (drop_at t q)) key ≡ true
    stays_step q t true true b row e f is = is
    stays_step q t true false b row e f is = grind (arith, has_row_put)
    stays_step q t false h true row e f is =
        let same : key ≡ q = equal_keys key q f in
        let both : true ≡ false =
        sym could ∙ ap (λ (k : Key). could_register s (group_in k) (source_in k)) same ∙ e in cc
    stays_step q t false h false row e f is = has_row_without key q t ∙ rw f is

    pub stays_open : has_row s.registers key ≡ true → has_row (settle_registers s).registers key ≡ true
    unfolding settle_registers settled_register
    stays_open is =
        kept_by_fold (λ t k. settled_register s k t) (λ t. has_row t key ≡ true)
        (λ t q f. stays_step q t (could_register s (group_in q) (source_in q)) (has_row t q) (same_key key q)
        (record { state = RegisterState.Join }) refl refl f)
        (keys_in s.sources ++ keys_in s.registers) s.registers is

  pub opened : (s : State) (i : ℕ) → (is_connected s src && is_rpf_interface s src i) ≡ true
      → may_register s g src ≡ true → has_row s.registers key ≡ false
      → has_row (settle_registers (forwarded s g src i).state).registers key ≡ true
  opened s i here may none =
      let is : IsOpen (forwarded s g src i).state = forwarded_open s i here may none in
      stays_open (forwarded s g src i).state (could_open (forwarded s g src i).state is) is.row
