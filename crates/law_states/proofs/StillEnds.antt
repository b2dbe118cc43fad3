-- The next Hello of each interface leaves within Hello_Period, each Register-Stop Timer expires within the longest time that
-- is drawn for it, and neighbours stand under keys of their kind. Each of the three is kept by itself.
use Rattle.std.{proofs.{Common.{◌≡◌, ℕ, ◌+◌, ◌-◌, ◌≤◌, ◌||◌, ◌++◌, not, min, Bool, true, false, cond, List, Option, None, Some, refl, sym, subst, arith}, lemmas.Nat.mod_below}, specs.{List.{AllByRecursion}}}
use Rattle.pim_types.{specs.{Keys.{group_in, iface_in, iface_key, is_on, neighbour_key, same_key, source_in, source_key}, declared.{config.Config.Config, fact.{InterfaceRow.InterfaceRow, Key.Key, NeighbourRow.NeighbourRow, RegisterRow.RegisterRow, RegisterState.RegisterState}, timer.TimerKind.TimerKind}}, proofs.Keys.{equal_keys, same_key_same}}
use Rattle.pim_wire.{specs.{declared.hello.Hello.Hello as HelloValue, Values.{Encapsulated, Null}}}
use Rattle.pim_model.{specs.{declared.accepted.Accepted.Accepted, Asserts.{assert_forgotten, without_spt_bit}, Clearing.clear, Downstream.downstream_expired, Firing.{fire_row, fired, keepalive_due, settled}, Forwarding.source_here, Hellos.{hello_due, hello_period, hello_received, hello_triggered, hellos_triggered, is_generation_changed, neighbour_due, neighbour_replaced, neighbour_restarted, neighbours_replaced, triggered_hello_delay}, Neighbours.is_neighbour, Messages.Message, Querier.{general_query_due, group_record_due, group_repeat_due, other_querier_gone, querier_up, querying, querying_on, source_record_due, source_repeat_due, sources_sent}, Records.{with_members, with_repeats_of_rows}, Registers.{could_register, register_due, register_probe_time, register_stop_seen, registers_after_rps, settle_register, settle_registers, settled_register, state_after_stop, with_keepalive}, State.{State, interfaces_of, opening}, Step.{change, iface_down, iface_up, rps_replaced}, Tables.{Table, change_row, delay_in, drop_at, drop_where, has_row, is_among, keys_in, put, row_at, set_row}, Timers.register_end, Upstream.{join_timer_due, moved_join_timer, moved_override_timer, override_timer_due, upstream}, Writing.{hellos_paid, write_all}}}
use Rattle.law_settled.{proofs.{ListLaws.{by_cond, each_filter, each_map, each_more, each_of_list, list_of_each}, RowLaws.each_put, SettlingLaws.{kept_by_clearing, kept_by_telling, kept_by_writing}, TurnLaws.kept_by_fold}}
use Rattle.law_streams.{proofs.{LiesUnder.row_fires, EndSoon.no_later, Lasting.{Beside, Lasting, Still, Whole, assert_lasting, assert_whole, data_whole, pending_lasting, query_lasting, register_whole, report_lasting, seen_beside, still, to_me_whole}}}
use Rattle.law_states.{specs.{Placing.{placed_key, placed_under, without_neighbours}, Reloading.under, Ends.{HellosStayNear, IsKept, RegistersStayNear, ends_by, hellos_are_near, longest_stop, registers_are_near}, Kinds.{NeighboursStayKeyed, is_of_neighbour, neighbours_are_keyed}}, proofs.{Addresses.KeepsAddresses, Rows.each_placed, Bounds.{at_most, by_each, each_by, each_replaced, le_so, never}, Steps.kept_test}}
use Rattle.law_plane.{specs.Keeping.kept_until}

-- an end, if there is one, by a timestamp
abbrev pub EndsBy : ℕ → Option ℕ → Type 0
EndsBy last None = Unit {0}
EndsBy last (Some end) = end ≤ last

abbrev IsKeyed : Key × NeighbourRow → Type 0
IsKeyed e = is_of_neighbour e ≡ true

-- which of the three are asked for, and the moment
module _ (of_hellos of_registers of_neighbours : Bool) (last : ℕ) where
  abbrev EndBy : Table InterfaceRow → Type 0
  EndBy t = AllByRecursion (λ e. (e.1).hello_end ≤ last + hello_period) t

  abbrev IsStopped : Key × RegisterRow → Type 0
  IsStopped e = EndsBy (last + longest_stop) (register_end (e.1).state)

  abbrev AreStopped : Table RegisterRow → Type 0
  AreStopped t = AllByRecursion IsStopped t

  pub record By (u : Still) : Type 0 where
    pub now : u.present ≤ last
    pub hellos : of_hellos ≡ true → EndBy u.interfaces
    pub registers : of_registers ≡ true → AreStopped u.registers
    pub neighbours : of_neighbours ≡ true → AllByRecursion IsKeyed u.neighbours

  abbrev pub IsBy : State → Type 0
  IsBy s = By (still s)

  -- ---- tables

  due_by : (p : ℕ) → p ≤ last → p + hello_period ≤ last + hello_period
  due_by p le = omega (arith, le)

  triggered_by : (p w : ℕ) → p ≤ last → p + delay_in 1 triggered_hello_delay w ≤ last + hello_period
  unfolding delay_in
  triggered_by p w le = let low = mod_below w (triggered_hello_delay - 1 + 1) (omega arith) in omega (arith, le, low)

  row_changed : (r : InterfaceRow) (k : Key) (t : Table InterfaceRow) → r.hello_end ≤ last + hello_period → EndBy t
      → EndBy (change_row (λ (old : InterfaceRow). Some r) k t)
  row_changed r k t by f = each_replaced k r (λ e. (e.1).hello_end ≤ last + hello_period) (λ q e. by) t f

  lower : (a b n : ℕ) → a ≤ n → min a b ≤ n
  lower a b n le = omega (arith, le)

  lowered : (e : Key × InterfaceRow) (end : ℕ) (b : Bool) → (e.1).hello_end ≤ last + hello_period
      → ((cond b (let x : Key × InterfaceRow = (e.0, record e.1 { hello_end = min (e.1).hello_end end; is_hello_owed = true }) in x) e).1).hello_end ≤ last + hello_period
  lowered e end true f = lower (e.1).hello_end end (last + hello_period) f
  lowered e end false f = f

  triggers : (i end : ℕ) (t : Table InterfaceRow) → EndBy t → EndBy (hellos_triggered i end t)
  unfolding hellos_triggered
  triggers i end t f =
      each_map (λ e. (e.1).hello_end ≤ last + hello_period) (λ e. (e.1).hello_end ≤ last + hello_period) _
      (λ e h. lowered e end (is_on i e.0) h) t f

  paid : (e : Key × InterfaceRow) (b : Bool) → (e.1).hello_end ≤ last + hello_period
      → ((cond b (let x : Key × InterfaceRow = (e.0, record e.1 { is_hello_owed = false }) in x) e).1).hello_end ≤ last + hello_period
  paid e true f = f
  paid e false f = f

  pays : (i : ℕ) (t : Table InterfaceRow) → EndBy t → EndBy (hellos_paid i t)
  unfolding hellos_paid
  pays i t f =
      each_map (λ e. (e.1).hello_end ≤ last + hello_period) (λ e. (e.1).hello_end ≤ last + hello_period) _
      (λ e h. paid e (is_on i e.0) h) t f

  -- ---- registers and neighbours

  settled_rows : (s : State) (k : Key) (t : Table RegisterRow) → AreStopped t → AreStopped (settled_register s k t)
  unfolding settled_register drop_at drop_where
  settled_rows s k t f =
      let joined : RegisterRow = record { state = RegisterState.Join } in
      by_cond AreStopped (could_register s (group_in k) (source_in k)) (cond (has_row t k) t (put t k joined)) (drop_at t k)
      (by_cond AreStopped (has_row t k) t (put t k joined) f (each_put k joined IsStopped tt t f))
      (each_filter IsStopped (λ e. not (same_key k e.0)) t f)

  stop_changed : (k : Key) (state : RegisterState) (t : Table RegisterRow) → EndsBy (last + longest_stop) (register_end state)
      → AreStopped t → AreStopped (change_row (λ (old : RegisterRow). Some (record { state = state })) k t)
  stop_changed k state t by f = each_replaced k (record { state = state }) IsStopped (λ q e. by) t f

  after_rps : (s o : State) → AreStopped o.registers → AreStopped (registers_after_rps s o)
  unfolding registers_after_rps
  after_rps s o f =
      each_map IsStopped IsStopped _
      (λ e h. by_cond (λ (x : Key × RegisterRow). IsStopped x) _ e (e.0, record { state = RegisterState.Join }) h tt) o.registers f

  drawn_by : (p w : ℕ) → p ≤ last → p + delay_in 25000 85000 w ≤ last + longest_stop
  unfolding delay_in
  drawn_by p w le = let low = mod_below w (85000 - 25000 + 1) (omega arith) in omega (arith, le, low)

  probed_by : (p : ℕ) → p ≤ last → p + register_probe_time ≤ last + longest_stop
  probed_by p le = omega (arith, le)

  stopped_by : (end : ℕ) (state : RegisterState) → end ≤ last + longest_stop → EndsBy (last + longest_stop) (register_end state)
      → EndsBy (last + longest_stop) (register_end (state_after_stop end state))
  stopped_by end RegisterState.Join by f = by
  stopped_by end (RegisterState.JoinPending old) by f = by
  stopped_by end (RegisterState.Prune old) by f = f

  register_by : (s : State) (k : Key) (state : RegisterState) → IsBy s → IsBy (register_due s k state).0
  unfolding register_due
  register_by s k (RegisterState.Prune end) f = record {
    now = f.now;
    hellos = f.hellos;
    registers = λ on. stop_changed k (RegisterState.JoinPending (s.present + register_probe_time)) s.registers (probed_by s.present f.now) (f.registers on);
    neighbours = f.neighbours;
  }
  register_by s k RegisterState.Join f = record {
    now = f.now;
    hellos = f.hellos;
    registers = λ on. stop_changed k RegisterState.Join s.registers tt (f.registers on);
    neighbours = f.neighbours;
  }
  register_by s k (RegisterState.JoinPending end) f = record {
    now = f.now;
    hellos = f.hellos;
    registers = λ on. stop_changed k RegisterState.Join s.registers tt (f.registers on);
    neighbours = f.neighbours;
  }

  own_key : (i address : ℕ) (r : NeighbourRow) → IsKeyed (neighbour_key i address, r)
  unfolding is_of_neighbour
  own_key i address r = same_key_same (neighbour_key i address)

  set_keyed : (i address : ℕ) (o : Option NeighbourRow) (t : Table NeighbourRow) → AllByRecursion IsKeyed t
      → AllByRecursion IsKeyed (set_row t (neighbour_key i address) o)
  unfolding set_row drop_at drop_where
  set_keyed i address None t f = each_filter IsKeyed (λ e. not (same_key (neighbour_key i address) e.0)) t f
  set_keyed i address (Some r) t f = each_put (neighbour_key i address) r IsKeyed (own_key i address r) t f

  -- ---- what follows

  follows : (o : State) (c : State × List Message) (w : ℕ) → IsBy c.0 → IsBy (settled o c w).0
  unfolding settled write_all settle_registers assert_forgotten without_spt_bit moved_join_timer moved_override_timer
  follows o c w f =
      let after : State = (clear o c.0).0 in
      let clears : IsBy after = kept_by_clearing IsBy (λ s k e. e) (λ s k e. e) o c.0 (record {
        now = f.now;
        hellos = f.hellos;
        registers = λ on. kept_by_fold (λ t k. settled_register c.0 k t) AreStopped (λ t k g. settled_rows c.0 k t g)
            (keys_in (c.0).sources ++ keys_in (c.0).registers) (c.0).registers (f.registers on);
        neighbours = f.neighbours;
      }) in
      let told : State = (upstream o after w).0 in
      let by : IsBy told =
      kept_by_telling (λ n. Unit {0}) after w (λ d some. tt) IsBy (λ s k d fair e. e) (λ s k d fair e. e) o clears in
      record {
        now = by.now;
        hellos = λ on. kept_by_writing EndBy pays (interfaces_of told) _ (by.hellos on);
        registers = by.registers;
        neighbours = by.neighbours;
      }

  -- ---- a timer that expires

  fires : (s : State) (kind : TimerKind) (k : Key) → IsBy s → IsBy (fired s kind k).0
  unfolding fired fire_row downstream_expired neighbour_due keepalive_due override_timer_due join_timer_due
      other_querier_gone querying_on general_query_due hello_due register_due group_repeat_due source_repeat_due sources_sent
      group_record_due source_record_due with_members with_repeats_of_rows drop_at drop_where
  fires s TimerKind.Neighbour k f = record {
    now = f.now;
    hellos = f.hellos;
    registers = f.registers;
    neighbours = λ on. each_filter IsKeyed (λ e. not (same_key k e.0)) s.neighbours (f.neighbours on);
  }
  fires s TimerKind.PrunePending k f = grind (arith, row_fires, pending_lasting)
  fires s TimerKind.DownstreamExpiry k f = grind arith
  fires s TimerKind.GroupRecord k f = grind arith
  fires s TimerKind.SourceRecord k f = grind arith
  fires s TimerKind.Assert k f = grind (arith, row_fires, assert_lasting)
  fires s TimerKind.Keepalive k f = grind (arith, row_fires)
  fires s TimerKind.Register k f = row_fires IsBy s _ (row_at s.registers k) f (λ r. register_by s k r.state f)
  fires s TimerKind.Override k f = grind arith
  fires s TimerKind.Join k f = grind arith
  fires s TimerKind.OtherQuerier k f = grind arith
  fires s TimerKind.GroupRepeat k f = grind (arith, row_fires)
  fires s TimerKind.SourceRepeat k f = grind arith
  fires s TimerKind.GeneralQuery k f = grind (arith, row_fires)
  fires s TimerKind.Hello k f =
      row_fires IsBy s (hello_due s k) (row_at s.interfaces k) f
      (λ r. record {
        now = f.now;
        hellos = λ on. row_changed (record r { hello_end = s.present + hello_period }) k s.interfaces (due_by s.present f.now) (f.hellos on);
        registers = f.registers;
        neighbours = f.neighbours;
      })

  -- ---- each event's own change

  here_by : (s : State) (g src iif : ℕ) → IsBy s → IsBy (source_here s g src iif)
  unfolding source_here settle_register with_keepalive
  here_by s g src iif f =
      by_cond IsBy _ (settle_register (with_keepalive s g src) _) s
      (record {
        now = f.now;
        hellos = f.hellos;
        registers = λ on. settled_rows (with_keepalive s g src) (source_key 0 g src) s.registers (f.registers on);
        neighbours = f.neighbours;
      }) f

  replaced_by : (s : State) (i address : ℕ) (h : HelloValue) → IsBy s → IsBy (neighbour_replaced s i address h)
  unfolding neighbour_replaced neighbours_replaced
  replaced_by s i address h f = record {
    now = f.now;
    hellos = f.hellos;
    registers = f.registers;
    neighbours = λ on. set_keyed i address _ s.neighbours (f.neighbours on);
  }

  hello_by : (s : State) (i address : ℕ) (h : HelloValue) (w : ℕ) → IsBy s → IsBy (hello_received s i address h w)
  unfolding hello_received hello_triggered neighbour_restarted
  hello_by s i address h w f =
      let triggered : IsBy (hello_triggered s i w) =
      record { now = f.now; hellos = λ on. triggers i _ s.interfaces (f.hellos on); registers = f.registers; neighbours = f.neighbours } in
      let g = by_cond IsBy (is_generation_changed s i address h || not (is_neighbour s i address)) (hello_triggered s i w) s triggered f in
      let replaced = replaced_by _ i address h g in
      by_cond IsBy (is_generation_changed s i address h) _ _ replaced replaced

  abbrev OfLasting : Lasting → Type 0
  OfLasting l = By l.still

  abbrev OfWhole : Whole → Type 0
  OfWhole u = OfLasting u.lasting

  abbrev OfBeside : Beside → Type 0
  OfBeside u = By u.still

  changes : (s : State) (w : ℕ) (a : Accepted) → IsBy s → IsBy (change s w a).state
  unfolding change iface_up querier_up querying rps_replaced register_stop_seen iface_down drop_where
  changes s w (Accepted.Advance moment) f = f
  changes s w (Accepted.Up i) f = record {
    now = f.now;
    hellos = λ on. each_put (iface_key i.number) _ (λ e. (e.1).hello_end ≤ last + hello_period) (triggered_by s.present w f.now) s.interfaces (f.hellos on);
    registers = f.registers;
    neighbours = f.neighbours;
  }
  changes s w (Accepted.Down i) f = record {
    now = f.now;
    hellos = λ on. each_filter (λ e. (e.1).hello_end ≤ last + hello_period) (λ e. not (is_on i.number e.0)) s.interfaces (f.hellos on);
    registers = f.registers;
    neighbours = λ on. each_filter IsKeyed (λ e. not (is_on i.number e.0)) s.neighbours (f.neighbours on);
  }
  changes s w (Accepted.Routes routes) f = f
  changes s w (Accepted.Rps ranges) f = record {
    now = f.now;
    hellos = f.hellos;
    registers = λ on. after_rps s (record s { ranges = ranges }) (f.registers on);
    neighbours = f.neighbours;
  }
  changes s w (Accepted.Hello i from h) f = hello_by s i.number from.bits h w f
  changes s w (Accepted.JoinPruneToMe i m) f = subst OfWhole (sym (to_me_whole s i.number m)) f
  changes s w (Accepted.JoinPruneSeen i m) f = subst OfBeside (sym (seen_beside s w i.number m)) f
  changes s w (Accepted.Assert i from a) f = subst OfWhole (sym (assert_whole s i.number from.bits a)) f
  changes s w (Accepted.Query i from q) f = subst OfLasting (sym (query_lasting s i.number from.bits q)) f
  changes s w (Accepted.Report i records) f = subst OfLasting (sym (report_lasting s i.number records)) f
  changes s w (Accepted.Data i p) f =
      subst OfWhole (sym (data_whole s p.destination p.source i.number)) (here_by s p.destination p.source i.number f)
  changes s w (Accepted.Register p (Encapsulated inner)) f = subst OfWhole (sym (register_whole s p inner.destination inner.source false)) f
  changes s w (Accepted.Register p (Null source group)) f = subst OfWhole (sym (register_whole s p group source true)) f
  changes s w (Accepted.RegisterStop from r) f = record {
    now = f.now;
    hellos = f.hellos;
    registers = λ on. each_map IsStopped IsStopped _
        (λ e h. by_cond (λ (x : Key × RegisterRow). IsStopped x) _ _ e
        (stopped_by (s.present + delay_in 25000 85000 w) (e.1).state (drawn_by s.present w f.now) h) h) s.registers (f.registers on);
    neighbours = f.neighbours;
  }

  moves : (m : ℕ) → m ≤ last → (s : State) → IsBy s → IsBy (record s { present = m })
  moves m le s f = record { now = le; hellos = f.hellos; registers = f.registers; neighbours = f.neighbours }

  unders : (s : State) (c : Config) → IsBy s → IsBy (under s c)
  unfolding under rps_replaced
  unders s c f = record {
    now = f.now;
    hellos = f.hellos;
    registers = λ on. after_rps _ _ (f.registers on);
    neighbours = f.neighbours;
  }

  keeps : (s : State) (g src end : ℕ) → IsBy s → IsBy (kept_until s g src end)
  unfolding kept_until
  keeps s g src end f = f

  keyed_there : (places : List ℕ) (e : Key × NeighbourRow) → IsKeyed e → IsKeyed (placed_key places e.0, e.1)
  unfolding is_of_neighbour
  keyed_there places e is =
      subst (λ (k : Key). same_key (placed_key places (neighbour_key (iface_in e.0) (source_in e.0))) (placed_key places k) ≡ true)
      (equal_keys (neighbour_key (iface_in e.0) (source_in e.0)) e.0 is)
      (same_key_same (placed_key places (neighbour_key (iface_in e.0) (source_in e.0))))

  goes : (s : State) (places : List ℕ) (c : Config) → KeepsAddresses s places c → IsBy s → IsBy (placed_under s places c)
  unfolding placed_under
  goes s places c same f = record {
    now = f.now;
    hellos = λ on. each_placed places (λ e. (e.1).hello_end ≤ last + hello_period) (λ e. (e.1).hello_end ≤ last + hello_period)
        (λ e h. h) s.interfaces (f.hellos on);
    registers = f.registers;
    neighbours = λ on. each_placed places IsKeyed IsKeyed (keyed_there places) s.neighbours (f.neighbours on);
  }

  parts : (s : State) (apart : List ℕ) → IsBy s → IsBy (without_neighbours apart s)
  unfolding without_neighbours drop_where
  parts s apart f = record {
    now = f.now;
    hellos = f.hellos;
    registers = f.registers;
    neighbours = λ on. each_filter IsKeyed (λ e. not (is_among (iface_in e.0) apart)) s.neighbours (f.neighbours on);
  }

further : (a b n d : ℕ) → a ≤ b → n ≤ a + d → n ≤ b + d
further a b n d le f = omega (arith, le, f)

ends_later : (a b d : ℕ) → a ≤ b → (o : Option ℕ) → EndsBy (a + d) o → EndsBy (b + d) o
ends_later a b d le None f = tt
ends_later a b d le (Some end) f = further a b end d le f

later : (hs rs ns : Bool) (a b : ℕ) → a ≤ b → (s : State) → IsBy hs rs ns a s → IsBy hs rs ns b s
later hs rs ns a b le s f = record {
  now = earlier f.now;
  hellos = λ on. each_more (λ e. (e.1).hello_end ≤ a + hello_period) (λ e. (e.1).hello_end ≤ b + hello_period)
      (λ e h. further a b (e.1).hello_end hello_period le h) s.interfaces (f.hellos on);
  registers = λ on. each_more _ _ (λ e h. ends_later a b longest_stop le (register_end (e.1).state) h) s.registers (f.registers on);
  neighbours = f.neighbours;
}
  where
    earlier : s.present ≤ a → s.present ≤ b
    earlier g = omega (arith, le, g)

-- ---- the three tests

module _ (s : State) where
  -- one of them, the others not asked for
  hellos_tested : hellos_are_near s ≡ true → IsBy true false false s.present s
  unfolding hellos_are_near
  hellos_tested e = record {
    now = no_later s.present;
    hellos = λ on. each_by (λ (x : Key × InterfaceRow). (x.1).hello_end) (s.present + hello_period) s.interfaces e;
    registers = λ on. never on;
    neighbours = λ on. never on;
  }

  hellos_pass : IsBy true false false s.present s → hellos_are_near s ≡ true
  unfolding hellos_are_near
  hellos_pass f = by_each (λ (x : Key × InterfaceRow). (x.1).hello_end) (s.present + hello_period) s.interfaces (f.hellos refl)

  ends_is : (n : ℕ) (o : Option ℕ) → ends_by n o ≡ true → EndsBy n o
  ends_is n None e = tt
  ends_is n (Some end) e = at_most end n e

  ends_so : (n : ℕ) (o : Option ℕ) → EndsBy n o → ends_by n o ≡ true
  ends_so n None f = refl
  ends_so n (Some end) f = le_so end n f

  registers_tested : registers_are_near s ≡ true → IsBy false true false s.present s
  unfolding registers_are_near
  registers_tested e = record {
    now = no_later s.present;
    hellos = λ on. never on;
    registers = λ on. each_more _ _ (λ x h. ends_is (s.present + longest_stop) (register_end (x.1).state) h) s.registers
        (each_of_list (λ (x : Key × RegisterRow). ends_by (s.present + longest_stop) (register_end (x.1).state)) s.registers e);
    neighbours = λ on. never on;
  }

  registers_pass : IsBy false true false s.present s → registers_are_near s ≡ true
  unfolding registers_are_near
  registers_pass f =
      list_of_each (λ (x : Key × RegisterRow). ends_by (s.present + longest_stop) (register_end (x.1).state)) s.registers
      (each_more _ _ (λ x h. ends_so (s.present + longest_stop) (register_end (x.1).state) h) s.registers (f.registers refl))

  neighbours_tested : neighbours_are_keyed s ≡ true → IsBy false false true s.present s
  unfolding neighbours_are_keyed
  neighbours_tested e = record {
    now = no_later s.present;
    hellos = λ on. never on;
    registers = λ on. never on;
    neighbours = λ on. each_of_list is_of_neighbour s.neighbours e;
  }

  neighbours_pass : IsBy false false true s.present s → neighbours_are_keyed s ≡ true
  unfolding neighbours_are_keyed
  neighbours_pass f = list_of_each is_of_neighbour s.neighbours (f.neighbours refl)

-- a test of the three that one of the readings says
module _ (hs rs ns : Bool) where
  pub still_test : (test : State → Bool) → ((s : State) → test s ≡ true → IsBy hs rs ns s.present s)
      → ((s : State) → IsBy hs rs ns s.present s → test s ≡ true) → ((c : Config) → test (opening c) ≡ true) → IsKept test
  still_test =
      kept_test (IsBy hs rs ns) (later hs rs ns) (moves hs rs ns) (fires hs rs ns) (follows hs rs ns) (changes hs rs ns)
      (unders hs rs ns) (keeps hs rs ns) (goes hs rs ns) (parts hs rs ns)

hellos_open : (c : Config) → hellos_are_near (opening c) ≡ true
unfolding opening hellos_are_near
hellos_open c = refl

registers_open : (c : Config) → registers_are_near (opening c) ≡ true
unfolding opening registers_are_near
registers_open c = refl

neighbours_open : (c : Config) → neighbours_are_keyed (opening c) ≡ true
unfolding opening neighbours_are_keyed
neighbours_open c = refl

pub hellos_stay_near : HellosStayNear
hellos_stay_near = still_test true false false hellos_are_near hellos_tested hellos_pass hellos_open

pub registers_stay_near : RegistersStayNear
registers_stay_near = still_test false true false registers_are_near registers_tested registers_pass registers_open

pub neighbours_stay_keyed : NeighboursStayKeyed
neighbours_stay_keyed = still_test false false true neighbours_are_keyed neighbours_tested neighbours_pass neighbours_open
