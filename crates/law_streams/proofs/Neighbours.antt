-- Which events leave a neighbour known.
use Rattle.std.{proofs.{Common.{◌≡◌, ◌∙◌, ℕ, ◌+◌, ◌*◌, ◌<◌, ◌==◌, nat_le, nat_lt, max, ◌&&◌, ◌||◌, Bool, true, false, Option, Some, Ok, refl, sym, ap, subst, arith, eq-eqb}, lemmas.{Bool.{Decides.nat_tests}}}}
use Rattle.pim_types.{specs.{Keys.{iface_in, is_on, neighbour_key, same_key, source_in}, declared.{fact.{Key.Key, NeighbourRow.NeighbourRow}}}, proofs.Keys.{equal_keys}}
use Rattle.pim_wire.{specs.{Values.{Encapsulated, Null}, declared.hello.Hello.Hello as HelloValue}}
use Rattle.pim_model.{specs.{declared.accepted.Accepted.Accepted, Cause.{done_as, if_done}, Downstream.{holdtime_end_from}, Forwarding.source_here, Hellos.{hello_holdtime_of, hello_received, hello_triggered, neighbour_replaced, neighbour_restarted, neighbours_replaced}, Judging.{Judged, judged}, Querier.{querier_up, querying}, Registers.{register_stop_seen, settle_register, with_keepalive}, State.State, Step.{advanced, change, concluded, done, iface_down, iface_up, rps_replaced, step, taken, taken_unless_full}, Tables.{Table, later_end, put, row_at, set_row}}}
use Rattle.law_settled.{proofs.{RowLaws.{row_drop_away, row_kept, row_put, row_put_away}, UnchangedLaws.{full_or_taken, taken_done}, SettledStates.settled_is_lawful, Unsettled.{Unsettled, settling_leaves}}, specs.Ready.IsSettled}
use Rattle.law_streams.{specs.Neighbours.{EventKeepsNeighbour, HoldsNeighbour, ends_neighbour}, proofs.{Lasting.{Lasting, Whole, Beside, assert_whole, lasting, still, whole, data_whole, query_lasting, register_whole, report_lasting, seen_beside, to_me_whole}, Climbs.swapped, Taken.apart_keys, NeighbourLasts.time_keeps}}

module _ (i address : ℕ) where
  abbrev key : Key
  key = neighbour_key i address

  module _ (end : ℕ) where
    abbrev Held : State → Type 0
    Held s = HoldsNeighbour s i address end

    held_so : (s t : State) → row_at t.neighbours key ≡ row_at s.neighbours key → Held s → Held t
    held_so s t same f = record { row = f.row; found = same ∙ f.found; lasts = f.lasts }

    pub held_by : (s t : State) → t.neighbours ≡ s.neighbours → Held s → Held t
    held_by s t same f = held_so s t (ap (λ (d : Table NeighbourRow). row_at d key) same) f

    -- ---- a Hello

    pub hello_rows : (s : State) (j from : ℕ) (h : HelloValue) (w : ℕ)
        → (hello_received s j from h w).neighbours ≡ neighbours_replaced s.present j from h s.neighbours
    unfolding hello_received neighbour_replaced hello_triggered neighbour_restarted
    hello_rows s j from h w = grind arith

    long_end : (p n : ℕ) → nat_lt (p + 1000 * n) end ≡ false → later_end (holdtime_end_from p n) (Some end) ≡ holdtime_end_from p n
    unfolding holdtime_end_from
    long_end p n e = grind (arith, nat_tests, e)

    pub own_hello : (s : State) (h : HelloValue) (t : State) → t.neighbours ≡ neighbours_replaced s.present i address h s.neighbours
        → (hello_holdtime_of h == 0) ≡ false → nat_lt (s.present + 1000 * hello_holdtime_of h) end ≡ false → Held t
    unfolding neighbours_replaced set_row
    own_hello s h t is some long =
        let made : neighbours_replaced s.present i address h s.neighbours ≡ put s.neighbours key (record {
          end = holdtime_end_from s.present (hello_holdtime_of h);
          lan_delay = h.lan_delay;
          priority = h.priority;
          generation = h.generation;
        }) = rw some refl in
        record {
          row = record {
            end = holdtime_end_from s.present (hello_holdtime_of h);
            lan_delay = h.lan_delay;
            priority = h.priority;
            generation = h.generation;
          };
          found = ap (λ (d : Table NeighbourRow). row_at d key) (is ∙ made) ∙ row_put key _ s.neighbours;
          lasts = long_end s.present (hello_holdtime_of h) long;
        }

    other_rows : (s : State) (j from : ℕ) (h : HelloValue) → same_key key (neighbour_key j from) ≡ false
        → row_at (neighbours_replaced s.present j from h s.neighbours) key ≡ row_at s.neighbours key
    unfolding neighbours_replaced set_row
    other_rows s j from h off = grind (arith, row_put_away, row_drop_away, apart_keys)

    abbrev too_short : State → HelloValue → Bool
    too_short s h = (hello_holdtime_of h == 0) || nat_lt (s.present + 1000 * hello_holdtime_of h) end

    or_left : (b c : Bool) → (b || c) ≡ false → b ≡ false
    or_left b c e = grind arith

    or_right : (b c : Bool) → (b || c) ≡ false → c ≡ false
    or_right b c e = grind arith

    hello_holds : (s : State) (j from : ℕ) (h : HelloValue) (w : ℕ) → Held s
        → (((j == i) && (from == address)) && too_short s h) ≡ false → Held (hello_received s j from h w)
    hello_holds s j from h w f off = go (same_key key (neighbour_key j from)) refl
      where
        go : (b : Bool) → same_key key (neighbour_key j from) ≡ b → Held (hello_received s j from h w)
        go false apart =
            held_so s (hello_received s j from h w)
            (ap (λ (d : Table NeighbourRow). row_at d key) (hello_rows s j from h w) ∙ other_rows s j from h apart) f
        go true same =
            let is : key ≡ neighbour_key j from = equal_keys key (neighbour_key j from) same in
            let at : i ≡ j = ap iface_in is in
            let by : address ≡ from = ap source_in is in
            let long : too_short s h ≡ false = rw (eq-eqb j i (sym at), eq-eqb from address (sym by)) at off in
            own_hello s h (hello_received s j from h w)
            (hello_rows s j from h w ∙ (ap (λ (x : ℕ). neighbours_replaced s.present x from h s.neighbours) (sym at)
            ∙ ap (λ (x : ℕ). neighbours_replaced s.present i x h s.neighbours) (sym by)))
            (or_left (hello_holdtime_of h == 0) _ long) (or_right (hello_holdtime_of h == 0) _ long)

    down_holds : (s : State) (j : ℕ) → (j == i) ≡ false → Held s → Held (iface_down s j)
    unfolding iface_down
    down_holds s j off f = held_so s (iface_down s j) (row_kept (is_on j) key (swapped j i off) s.neighbours) f

    here_rows : (s : State) (g src iif : ℕ) → (source_here s g src iif).neighbours ≡ s.neighbours
    unfolding source_here settle_register with_keepalive
    here_rows s g src iif = grind arith

    change_holds : (s : State) (w : ℕ) (a : Accepted) → Held s → ends_neighbour s i address end (Some a) ≡ false → Held (change s w a).state
    unfolding change iface_up querier_up querying rps_replaced register_stop_seen
    change_holds s w (Accepted.Advance moment) f off = f
    change_holds s w (Accepted.Up j) f off = held_by s _ refl f
    change_holds s w (Accepted.Down j) f off = down_holds s j.number off f
    change_holds s w (Accepted.Routes routes) f off = held_by s _ refl f
    change_holds s w (Accepted.Rps ranges) f off = held_by s _ refl f
    change_holds s w (Accepted.Hello j from h) f off = hello_holds s j.number from.bits h w f off
    change_holds s w (Accepted.JoinPruneToMe j m) f off = held_by s _ (ap (λ (u : Whole). ((u.lasting).still).neighbours) (to_me_whole s j.number m)) f
    change_holds s w (Accepted.JoinPruneSeen j m) f off = held_by s _ (ap (λ (u : Beside). (u.still).neighbours) (seen_beside s w j.number m)) f
    change_holds s w (Accepted.Assert j from a) f off = held_by s _ (ap (λ (u : Whole). ((u.lasting).still).neighbours) (assert_whole s j.number from.bits a)) f
    change_holds s w (Accepted.Query j from q) f off = held_by s _ (ap (λ (u : Lasting). (u.still).neighbours) (query_lasting s j.number from.bits q)) f
    change_holds s w (Accepted.Report j records) f off = held_by s _ (ap (λ (u : Lasting). (u.still).neighbours) (report_lasting s j.number records)) f
    change_holds s w (Accepted.Data j p) f off =
        held_by s _ (ap (λ (u : Whole). ((u.lasting).still).neighbours) (data_whole s p.destination p.source j.number)
        ∙ here_rows s p.destination p.source j.number) f
    change_holds s w (Accepted.Register p (Encapsulated inner)) f off = grind (arith, held_by, whole, lasting, still, register_whole)
    change_holds s w (Accepted.Register p (Null source group)) f off = grind (arith, held_by, whole, lasting, still, register_whole)
    change_holds s w (Accepted.RegisterStop from r) f off = held_by s _ refl f

    module _ (s : State) (rest : IsSettled s) (f : Held s) where
      beyond : (m : ℕ) → nat_le end m ≡ false → (x : ℕ) → (f.row).end ≡ Some x → m < x
      beyond m off x is =
          let later : later_end (Some x) (Some end) ≡ Some x = subst (λ (o : Option ℕ). later_end o (Some end) ≡ o) is f.lasts in
          let same : max x end ≡ x = cc later in
          grind (arith, nat_tests, same, off)

      time_holds : (w m : ℕ) → nat_le end m ≡ false → Held (advanced s w m).state
      time_holds w m off = record {
        row = f.row;
        found = time_keeps key f.row m (beyond m off) w s (record { there = f.found; lawful = settled_is_lawful s rest });
        lasts = f.lasts;
      }

      done_holds : (w : ℕ) (a : Accepted) → ends_neighbour s i address end (Some a) ≡ false → Held (done s w (change s w a)).state
      unfolding done
      done_holds w a off =
          held_by (change s w a).state (done s w (change s w a)).state
          (ap (λ (u : Unsettled). u.neighbours) (settling_leaves s ((change s w a).state, (change s w a).messages) w))
          (change_holds s w a f off)

      taken_holds : (w : ℕ) (a : Accepted) → ends_neighbour s i address end (Some a) ≡ false → Held (taken s w a).state
      unfolding taken
      taken_holds w (Accepted.Advance moment) off = time_holds w moment off
      taken_holds w a off = done_holds w a off

      full_holds : (w : ℕ) (a : Accepted) (b : Bool) → ends_neighbour s i address end (if_done (full_or_taken s w a b).answer (Ok a)) ≡ false
          → Held (full_or_taken s w a b).state
      full_holds w a b off = grind (arith, taken_holds, taken_done)

      concluded_holds : (w : ℕ) (j : Judged) → ends_neighbour s i address end (if_done (concluded s (taken_unless_full s w) j).answer j) ≡ false
          → Held (concluded s (taken_unless_full s w) j).state
      unfolding taken_unless_full
      concluded_holds w j off = grind (arith, full_holds)

pub event_keeps_neighbour : EventKeepsNeighbour
unfolding step done_as
event_keeps_neighbour s e i address end rest f off = concluded_holds i address end s rest f e.draw (judged s e.kind) off
