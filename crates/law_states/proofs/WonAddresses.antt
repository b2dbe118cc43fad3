-- Each assert that the router won names the address of its interface.
use Rattle.std.{proofs.{Common.{◌≡◌, ◌==◌, ◌&&◌, ◌||◌, ◌∙◌, ℕ, ◌+◌, ◌≤◌, not, Bool, true, false, cond, List, [], filter, Option, Some, None, refl, sym, ap, subst, arith, eqb-true, eq-eqb}}, specs.{Cmp.first_so, List.{AllByRecursion}, Option.option_map_or}}
use Rattle.pim_types.{specs.{Keys.{group_in, iface_in, is_on, is_star, same_key, source_in}, declared.{config.{Config.Config}, fact.{AssertMetric.AssertMetric, AssertRole.AssertRole, AssertRow.AssertRow, Key.Key}, path.Path.Path, timer.TimerKind.TimerKind}}, proofs.Keys.equal_keys}
use Rattle.pim_wire.{specs.{declared.{assert.Assert.Assert as AssertMessage, hello.Hello.Hello as HelloValue}, Values.{Encapsulated, JoinPrune, Null}}}
use Rattle.pim_model.{specs.{declared.accepted.Accepted.Accepted, AssertMacros.{could_assert, could_assert_star, my_metric, my_metric_star}, Asserts.{assert_as_loser, assert_as_winner, assert_at, assert_due, assert_forgotten, assert_in_no_info, assert_received, could_assert_at, data_seen, is_acceptable, is_challenge, is_inferior, is_of_tree, is_tracking_at, loses, loses_first, my_metric_at, winner_time, wins, wins_again, with_spt_bit, without_spt_bit}, Clearing.clear, Downstream.{asserts_after_joins, downstream_expired, keys_taken, prune_pending_due, to_me}, Firing.{fire_row, fired, keepalive_due, settled}, Forwarding.{forwarded, list_chosen, source_here, source_joined, stray}, Hellos.{hello_due, hello_received, hello_triggered, neighbour_due, neighbour_replaced, neighbour_restarted}, Messages.Message, Querier.{general_query_due, group_record_due, group_repeat_due, other_querier_gone, querier_up, querying, querying_on, source_record_due, source_repeat_due, sources_sent}, Records.{with_members, with_repeats_of_rows}, Registers.{register_due, register_stop_seen, settle_registers}, Sets.{is_better, is_winner, route_metric, rpt_metric, spt_metric}, State.{Addressing, addressing_of, State, address_among, is_own, my_address, opening}, Step.{change, iface_down, iface_up, rps_replaced}, Tables.{drop_at, drop_where, has_row, put, row_at}, Upstream.{join_timer_due, moved_join_timer, moved_override_timer, override_timer_due, upstream}, Unicast.{route, rp_route}, Writing.write_all}}
use Rattle.law_settled.{proofs.{ListLaws.{by_cond, each_filter, each_more, each_of_list, each_passing, list_of_each}, RowLaws.each_put, SettlingLaws.{kept_by_clearing, kept_by_telling}, TableLaws.row_of_each}}
use Rattle.law_streams.{proofs.LiesUnder.row_fires}
use Rattle.law_states.{specs.{Placing.{placed_key, placed_under, without_neighbours}, Reloading.{asserts_under, is_won_before, under}, Own.{WonStayOwn, names_own, won_are_own}}, proofs.{Addresses.KeepsAddresses, Rows.each_placed, AssertEnds.{Read, here_read, joined_read, pending_read, query_read, read, register_read, report_read, seen_read, updated_read, watched_read}, Bounds.each_replaced, Steps.kept_test}}
use Rattle.law_plane.{specs.Keeping.kept_until}

-- ---- the address of a metric

metric_address : (rpt own : Bool) (address : ℕ) (path : Option Path) → (route_metric rpt address own path).address.bits ≡ address
unfolding route_metric
metric_address rpt true address None = refl
metric_address rpt false address None = refl
metric_address rpt own address (Some p) = refl

star_address : (s : State) (g i : ℕ) → could_assert_star s g i ≡ true → (my_metric_star s g i).address.bits ≡ my_address s i
unfolding my_metric_star rpt_metric
star_address s g i e = rw e (metric_address true _ (my_address s i) (rp_route s g))

source_address : (s : State) (g src i : ℕ) → could_assert s g src i ≡ true → (my_metric s g src i).address.bits ≡ my_address s i
unfolding my_metric spt_metric
source_address s g src i e = rw e (metric_address false (is_own s src) (my_address s i) (route s src))

own_metric : (s : State) (k : Key) → could_assert_at s k ≡ true → (my_metric_at s k).address.bits ≡ my_address s (iface_in k)
own_metric s k e = by_kind (is_star k) e where
  by_kind : (b : Bool)
      → cond b (could_assert_star s (group_in k) (iface_in k)) (could_assert s (group_in k) (source_in k) (iface_in k)) ≡ true
      → (let m : AssertMetric = cond b (my_metric_star s (group_in k) (iface_in k)) (my_metric s (group_in k) (source_in k) (iface_in k)) in m.address.bits) ≡ my_address s (iface_in k)
  by_kind true can = star_address s (group_in k) (iface_in k) can
  by_kind false can = source_address s (group_in k) (source_in k) (iface_in k) can

module _ (last : ℕ) where
  -- a row that was won names the address
  abbrev pub FitsAt : Addressing → Key → AssertRole → AssertRow → Type 0
  FitsAt configured k AssertRole.Winner r = r.winner.address.bits ≡ address_among configured (iface_in k)
  FitsAt configured k AssertRole.Loser r = Unit {0}

  abbrev pub Fits : Addressing → Key × AssertRow → Type 0
  Fits configured e = FitsAt configured e.0 (e.1).role e.1

  pub record By (r : Read) : Type 0 where
    pub ends : AllByRecursion (Fits r.configured) r.asserts

  abbrev pub IsBy : State → Type 0
  IsBy s = By (read s)

  same : (s t : State) → read t ≡ read s → IsBy s → IsBy t
  same s t e f = subst By (sym e) f

  -- ---- single changes

  put_by : (s : State) (k : Key) (r : AssertRow) → Fits s.configured (k, r) → IsBy s → IsBy (record s { asserts = put s.asserts k r })
  put_by s k r by f = record { ends = each_put k r (Fits s.configured) by s.asserts f.ends }

  -- the same winner, with another end
  later_fits : (cs : Addressing) (q k : Key) (r : AssertRow) (end : ℕ) (role : AssertRole) → r.role ≡ role → q ≡ k
      → FitsAt cs k role r → Fits cs (q, record r { end = end })
  later_fits cs q k r end role e key f =
      subst (λ (x : AssertRole). FitsAt cs q x (record r { end = end })) (sym e)
      (subst (λ (z : Key). FitsAt cs z role (record r { end = end })) (sym key) (of_role role f)) where
        of_role : (x : AssertRole) → FitsAt cs k x r → FitsAt cs k x (record r { end = end })
        of_role AssertRole.Winner g = g
        of_role AssertRole.Loser g = g

  again_by : (s : State) (k : Key) (r : AssertRow) → Fits s.configured (k, r) → IsBy s → IsBy (wins_again s k r).0
  unfolding wins_again
  again_by s k r by f = record {
    ends = each_replaced k (record r { end = s.present + winner_time }) (Fits s.configured)
        (λ q same. later_fits s.configured q k r (s.present + winner_time) r.role refl (sym (equal_keys k q same)) by) s.asserts f.ends;
  }

  forgotten_by : (s : State) (k : Key) → IsBy s → IsBy (assert_forgotten s k)
  unfolding assert_forgotten drop_at drop_where
  forgotten_by s k f = record { ends = each_filter (Fits s.configured) (λ e. not (same_key k e.0)) s.asserts f.ends }

  wins_by : (s : State) (k : Key) → could_assert_at s k ≡ true → IsBy s → IsBy (wins s k).0
  unfolding wins
  wins_by s k can f = put_by s k _ (own_metric s k can) f

  loses_by : (s : State) (k : Key) (theirs : AssertMetric) → IsBy s → IsBy (loses s k theirs)
  unfolding loses
  loses_by s k theirs f = put_by s k _ tt f

  first_by : (s : State) (k : Key) (theirs : AssertMetric) → IsBy s → IsBy (loses_first s k theirs)
  unfolding loses_first with_spt_bit
  first_by s k theirs f = grind (arith, loses_by, by_cond)

  by_case : (b : Bool) (x y : State × List Message) → (b ≡ true → IsBy x.0) → (b ≡ false → IsBy y.0) → IsBy (cond b x y).0
  by_case true x y f g = f refl
  by_case false x y f g = g refl

  no_info_by : (s : State) (k : Key) (theirs : AssertMetric) → IsBy s → IsBy (assert_in_no_info s k theirs).0
  unfolding assert_in_no_info
  no_info_by s k theirs f =
      let taken : Bool = is_acceptable s k theirs && is_of_tree k theirs && is_tracking_at s k in
      by_case (is_challenge s k theirs) (wins s k) (cond taken (loses_first s k theirs, []) (s, []))
      (λ e. wins_by s k (first_so (could_assert_at s k) ((theirs.rpt && not (is_star k)) || is_inferior s k theirs) e) f)
      (λ e. by_case taken (loses_first s k theirs, []) (s, []) (λ h. first_by s k theirs f) (λ h. f))

  its_row : (s : State) (k : Key) (r : AssertRow) → row_at s.asserts k ≡ Some r → IsBy s → Fits s.configured (k, r)
  its_row s k r e f = row_of_each (Fits s.configured) k r s.asserts f.ends e

  winner_by : (s : State) (k : Key) (r : AssertRow) (theirs : AssertMetric) → Fits s.configured (k, r) → IsBy s → IsBy (assert_as_winner s k r theirs).0
  unfolding assert_as_winner
  winner_by s k r theirs by f =
      by_case (is_better theirs r.winner) (loses s k theirs, []) (cond (is_inferior s k theirs) (wins_again s k r) (s, []))
      (λ e. loses_by s k theirs f)
      (λ e. by_case (is_inferior s k theirs) (wins_again s k r) (s, []) (λ h. again_by s k r by f) (λ h. f))

  loser_by : (s : State) (k : Key) (r : AssertRow) (theirs : AssertMetric) → IsBy s → IsBy (assert_as_loser s k r theirs)
  unfolding assert_as_loser
  loser_by s k r theirs f = grind (arith, loses_by, forgotten_by)

  found_by : (s : State) (k : Key) (theirs : AssertMetric) → IsBy s → (o : Option AssertRow) → row_at s.asserts k ≡ o
      → IsBy (let p : State × List Message = elim o [
        | None ↦ assert_in_no_info s k theirs
        | Some r ↦ cond (is_winner (Some r)) (assert_as_winner s k r theirs) (assert_as_loser s k r theirs, [])
      ] in p.0)
  found_by s k theirs f None e = no_info_by s k theirs f
  found_by s k theirs f (Some r) e =
      by_case (is_winner (Some r)) (assert_as_winner s k r theirs) (assert_as_loser s k r theirs, [])
      (λ h. winner_by s k r theirs (its_row s k r e f) f) (λ h. loser_by s k r theirs f)

  at_by : (s : State) (k : Key) (theirs : AssertMetric) → IsBy s → IsBy (assert_at s k theirs).0
  unfolding assert_at
  at_by s k theirs f = found_by s k theirs f (row_at s.asserts k) refl

  received_by : (s : State) (i from : ℕ) (a : AssertMessage) → IsBy s → IsBy (assert_received s i from a).0
  unfolding assert_received
  received_by s i from a f = grind (arith, at_by)

  seen_by : (s : State) (k : Key) → IsBy s → IsBy (data_seen s k).0
  unfolding data_seen
  seen_by s k f = by_case (could_assert_at s k && not (has_row s.asserts k)) (wins s k) (s, []) (λ e. wins_by s k (first_so (could_assert_at s k) (not (has_row s.asserts k)) e) f) (λ e. f)

  chosen_by : (s : State) (g src iif : ℕ) → IsBy s → IsBy (list_chosen s g src iif).state
  unfolding list_chosen stray
  chosen_by s g src iif f = grind (arith, seen_by, same, watched_read)

  forwarded_by : (s : State) (g src iif : ℕ) → IsBy s → IsBy (forwarded s g src iif).state
  unfolding forwarded
  forwarded_by s g src iif f =
      chosen_by _ g src iif
      (subst By (sym (updated_read (source_joined (source_here s g src iif) g src iif) g src iif
      ∙ joined_read (source_here s g src iif) g src iif ∙ here_read s g src iif)) f)

  hello_by : (s : State) (i address : ℕ) (h : HelloValue) (w : ℕ) → IsBy s → IsBy (hello_received s i address h w)
  unfolding hello_received hello_triggered neighbour_replaced neighbour_restarted
  hello_by s i address h w f = grind (arith, each_filter)

  to_me_by : (s : State) (i : ℕ) (m : JoinPrune) → IsBy s → IsBy (to_me s i m)
  unfolding to_me keys_taken asserts_after_joins
  to_me_by s i m f = record { ends = each_filter (Fits s.configured) _ s.asserts f.ends }

  due_by : (s : State) (k : Key) (r : AssertRow) → row_at s.asserts k ≡ Some r → IsBy s → IsBy (assert_due s k r).0
  unfolding assert_due
  due_by s k r e f =
      by_case (is_winner (Some r)) (wins_again s k r) (assert_forgotten s k, []) (λ h. again_by s k r (its_row s k r e f) f) (λ h. forgotten_by s k f)

  due_at : (s : State) (k : Key) → IsBy s → (o : Option AssertRow) → row_at s.asserts k ≡ o → IsBy (option_map_or (assert_due s k) o (s, [])).0
  due_at s k f None e = f
  due_at s k f (Some r) e = due_by s k r e f

  -- ---- what follows

  follows : (o : State) (c : State × List Message) (w : ℕ) → IsBy c.0 → IsBy (settled o c w).0
  unfolding settled write_all settle_registers without_spt_bit moved_join_timer moved_override_timer
  follows o c w f =
      let after : State = (clear o c.0).0 in
      let clears : IsBy after = kept_by_clearing IsBy forgotten_by (λ s k e. record { ends = e.ends }) o c.0 (record { ends = f.ends }) in
      let told : State = (upstream o after w).0 in
      let tells : read told ≡ read after =
      kept_by_telling (λ n. Unit {0}) after w (λ d some. tt) (λ t. read t ≡ read after) (λ s k d fair e. e) (λ s k d fair e. e) o refl in
      let by : IsBy told = subst By (sym tells) clears in
      record { ends = by.ends }

  -- ---- a timer that expires

  fires : (s : State) (kind : TimerKind) (k : Key) → IsBy s → IsBy (fired s kind k).0
  unfolding fired fire_row downstream_expired neighbour_due keepalive_due override_timer_due join_timer_due
      other_querier_gone querying_on general_query_due hello_due register_due group_repeat_due source_repeat_due sources_sent
      group_record_due source_record_due with_members with_repeats_of_rows
  fires s TimerKind.Neighbour k f = grind arith
  fires s TimerKind.PrunePending k f = row_fires IsBy s (prune_pending_due s k) (row_at s.downstream k) f (λ r. subst By (sym (pending_read s k r)) f)
  fires s TimerKind.DownstreamExpiry k f = grind arith
  fires s TimerKind.GroupRecord k f = grind arith
  fires s TimerKind.SourceRecord k f = grind arith
  fires s TimerKind.Assert k f = due_at s k f (row_at s.asserts k) refl
  fires s TimerKind.Keepalive k f = grind (arith, row_fires)
  fires s TimerKind.Register k f = grind (arith, row_fires)
  fires s TimerKind.Override k f = grind arith
  fires s TimerKind.Join k f = grind arith
  fires s TimerKind.OtherQuerier k f = grind arith
  fires s TimerKind.GroupRepeat k f = grind (arith, row_fires)
  fires s TimerKind.SourceRepeat k f = grind arith
  fires s TimerKind.GeneralQuery k f = grind (arith, row_fires)
  fires s TimerKind.Hello k f = grind (arith, row_fires)

  -- ---- each event's own change

  changes : (s : State) (w : ℕ) (a : Accepted) → IsBy s → IsBy (change s w a).state
  unfolding change iface_up querier_up querying rps_replaced register_stop_seen iface_down drop_where
  changes s w (Accepted.Advance moment) f = f
  changes s w (Accepted.Up i) f = record { ends = f.ends }
  changes s w (Accepted.Down i) f = record { ends = each_filter (Fits s.configured) (λ e. not (is_on i.number e.0)) s.asserts f.ends }
  changes s w (Accepted.Routes routes) f = record { ends = f.ends }
  changes s w (Accepted.Rps ranges) f = record { ends = f.ends }
  changes s w (Accepted.Hello i from h) f = hello_by s i.number from.bits h w f
  changes s w (Accepted.JoinPruneToMe i m) f = to_me_by s i.number m f
  changes s w (Accepted.JoinPruneSeen i m) f = subst By (sym (seen_read s w i.number m)) f
  changes s w (Accepted.Assert i from a) f = received_by s i.number from.bits a f
  changes s w (Accepted.Query i from q) f = subst By (sym (query_read s i.number from.bits q)) f
  changes s w (Accepted.Report i records) f = subst By (sym (report_read s i.number records)) f
  changes s w (Accepted.Data i p) f = forwarded_by s p.destination p.source i.number f
  changes s w (Accepted.Register p (Encapsulated inner)) f = subst By (sym (register_read s p inner.destination inner.source false)) f
  changes s w (Accepted.Register p (Null source group)) f = subst By (sym (register_read s p group source true)) f
  changes s w (Accepted.RegisterStop from r) f = record { ends = f.ends }

  moves : (m : ℕ) → m ≤ last → (s : State) → IsBy s → IsBy (record s { present = m })
  moves m le s f = record { ends = f.ends }

  -- where a row stays, the address of its interface is the same, or the router lost
  stays_won : (s : State) (cs : Addressing) (e : Key × AssertRow) (role : AssertRole) → (e.1).role ≡ role
      → not (is_won_before s cs e) ≡ true → FitsAt s.configured e.0 role e.1 → FitsAt cs e.0 role e.1
  unfolding is_won_before
  stays_won s cs e AssertRole.Loser is stays f = tt
  stays_won s cs e AssertRole.Winner is stays f =
      let same_address : (address_among s.configured (iface_in e.0) == address_among cs (iface_in e.0)) ≡ true =
      kept (address_among s.configured (iface_in e.0) == address_among cs (iface_in e.0))
      (subst (λ (x : AssertRole). not (elim x [ AssertRole.Winner ↦ true | AssertRole.Loser ↦ false ] && not (address_among s.configured (iface_in e.0) == address_among cs (iface_in e.0))) ≡ true) is stays) in
      f ∙ eqb-true _ _ same_address
    where
      kept : (b : Bool) → not (true && not b) ≡ true → b ≡ true
      kept true h = refl
      kept false h = absurd cc

  unders : (s : State) (c : Config) → IsBy s → IsBy (under s c)
  unfolding under rps_replaced asserts_under
  unders s c f = record {
    ends = each_more (λ e. Fits s.configured e × (not (is_won_before s (addressing_of c) e) ≡ true)) (Fits (addressing_of c))
        (λ e g. stays_won s (addressing_of c) e (e.1).role refl g.1 g.0) (filter (λ e. not (is_won_before s (addressing_of c) e)) s.asserts)
        (each_passing (Fits s.configured) (λ e. not (is_won_before s (addressing_of c) e)) s.asserts f.ends);
  }

  keeps : (s : State) (g src end : ℕ) → IsBy s → IsBy (kept_until s g src end)
  unfolding kept_until
  keeps s g src end f = record { ends = f.ends }

  goes_on : (s : State) (places : List ℕ) (c : Config) → KeepsAddresses s places c → (k : Key) (role : AssertRole) (r : AssertRow)
      → FitsAt s.configured k role r → FitsAt (addressing_of c) (placed_key places k) role r
  goes_on s places c same k AssertRole.Winner r f = f ∙ sym (same (iface_in k))
  goes_on s places c same k AssertRole.Loser r f = tt

  goes : (s : State) (places : List ℕ) (c : Config) → KeepsAddresses s places c → IsBy s → IsBy (placed_under s places c)
  unfolding placed_under
  goes s places c same f = record {
    ends = each_placed places (Fits s.configured) (Fits (addressing_of c))
        (λ e h. goes_on s places c same e.0 (e.1).role e.1 h) s.asserts f.ends;
  }

  parts : (s : State) (apart : List ℕ) → IsBy s → IsBy (without_neighbours apart s)
  unfolding without_neighbours
  parts s apart f = record { ends = f.ends }

later : (a b : ℕ) → a ≤ b → (s : State) → IsBy a s → IsBy b s
later a b le s f = record { ends = each_more (Fits a s.configured) (Fits b s.configured) (λ e h. again e.0 (e.1).role e.1 h) s.asserts f.ends } where
  again : (k : Key) (role : AssertRole) (r : AssertRow) → FitsAt a s.configured k role r → FitsAt b s.configured k role r
  again k AssertRole.Winner r h = h
  again k AssertRole.Loser r h = tt

module _ (s : State) where
  test_in : (k : Key) (r : AssertRow) (role : AssertRole) → r.role ≡ role → names_own s (k, r) ≡ true → FitsAt s.present s.configured k role r
  unfolding names_own
  test_in k r AssertRole.Loser e h = tt
  test_in k r AssertRole.Winner e h = eqb-true _ _ (subst (λ (x : AssertRole). (elim x [ AssertRole.Winner ↦ false | AssertRole.Loser ↦ true ] || (r.winner.address.bits == address_among s.configured (iface_in k))) ≡ true) e h)

  test_out : (k : Key) (r : AssertRow) (role : AssertRole) → r.role ≡ role → FitsAt s.present s.configured k role r → names_own s (k, r) ≡ true
  unfolding names_own
  test_out k r AssertRole.Loser e f = ap (λ (x : AssertRole). elim x [ AssertRole.Winner ↦ false | AssertRole.Loser ↦ true ] || (r.winner.address.bits == address_among s.configured (iface_in k))) e
  test_out k r AssertRole.Winner e f =
      ap (λ (x : AssertRole). elim x [ AssertRole.Winner ↦ false | AssertRole.Loser ↦ true ] || (r.winner.address.bits == address_among s.configured (iface_in k))) e
      ∙ eq-eqb _ _ f

  tested : won_are_own s ≡ true → IsBy s.present s
  unfolding won_are_own
  tested e = record {
    ends = each_more (λ x. names_own s x ≡ true) (Fits s.present s.configured) (λ x g. test_in x.0 x.1 (x.1).role refl g) s.asserts
        (each_of_list (names_own s) s.asserts e);
  }

  passes : IsBy s.present s → won_are_own s ≡ true
  unfolding won_are_own
  passes f =
      list_of_each (names_own s) s.asserts
      (each_more (Fits s.present s.configured) (λ x. names_own s x ≡ true) (λ x g. test_out x.0 x.1 (x.1).role refl g) s.asserts f.ends)

opening_own : (c : Config) → won_are_own (opening c) ≡ true
unfolding opening won_are_own
opening_own c = refl

pub won_stay_own : WonStayOwn
won_stay_own =
    kept_test IsBy later moves fires follows changes unders keeps goes parts won_are_own tested passes opening_own
