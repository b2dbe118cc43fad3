-- A stream goes on to pass at one router.
use Rattle.std.{proofs.{Common.{◌≡◌, ◌∙◌, ℕ, ◌<◌, ◌==◌, ◌&&◌, Bool, true, false, not, List, [], ◌∷◌, length, Option, Some, is_some, refl, sym, ap, subst, arith}, lemmas.Grind.common_steps}, specs.Cmp.{first_so, second_so, Derive.both_true}}
use Rattle.pim_ip.{specs.Ipv4.Packet}
use Rattle.pim_types.{specs.{Keys.{group_in, rpt_key, same_key, source_in, source_key, star_key}, declared.{config.{RpTable.RpTable, IfaceId.IfaceId}, event.Event.Event}}, proofs.Keys.equal_keys}
use Rattle.pim_model.{specs.{declared.accepted.Accepted.Accepted, Cause.done_as, Sets.{assert_source, assert_star, is_loser, prunes, spt_bit}, State.{Addressing, State, is_own_among}, Step.{advanced, change, done, ran, rps_replaced, state_after, step, taken}, Tables.{has_row, row_at}, Unicast.{is_rpf_interface, route, rpf_interface}, Forwarding.forwarded}}
use Rattle.law_settled.{proofs.{SettledStates.settled_is_lawful, Steps.step_is_settled}, specs.Ready.IsSettled}
use Rattle.law_streams.{specs.{Copies.happens, Served.renewed, Passing.{ComesIn, EventKeepsPassing, GoesOut, IsJoinedThere, IsOn, IsOnShared, IsSourceJoinedThere, IsWanted, NoneEndsPassing, Receiver, RunKeepsPassing, Tree, serves_it, any_ends_passing, ends_passing, has_expired, has_moved, is_asked, is_lost, is_on_source, lacks_room, leaves_source, leaves_tree, membership_ends, takes_effect, takes_from, takes_link}}, proofs.{JoinTimes.{none_takes_effect, row_lasts}, Changes.{IsNoAssert, IsNotDown, IsQuietFor, chosen_spt, data_ground, other_data_off, same_ground, still_off, still_unlost, still_up}, Bits.join_keeps_spt_bit, ChangedBits.change_keeps_spt_bit, TimedBits.time_keeps_spt_bit, Fires.{Goes, time_goes}, MemberTimes.time_asks, MemberReports.report_asks, StreamMembers.{IsNoReport, settled_asks, still_asks}, Rejoins.{prunes_by, rejoined, source_rejoined}, Serving.renewed_too, Settles.{NoWorse, settling_no_worse}, Ways.{SameGround, ground_itself, same_interface, same_interface_rp}, Tests.{Four, Two, is_true, less_set, neither, none_of_four}, ByEvent.event_holds, Same.settled_same as settled_rows}}
use Rattle.law_events.{proofs.Configured.change_configured}

-- other RP ranges leave the way to a source
ranges_way : (s : State) (w : ℕ) (ranges : RpTable) (address i : ℕ) → is_rpf_interface s address i ≡ true
    → is_rpf_interface (change s w (Accepted.Rps ranges)).state address i ≡ true
unfolding change rps_replaced rpf_interface route
ranges_way s w ranges address i e = e

module _ (tree : Tree) (by : Receiver) (g src up down : ℕ) where
  -- what is asked of the state but that it is settled, and has room
  record Holds (t : State) : Type 0 where
    comes_in : ComesIn tree t g src up
    goes_out : GoesOut by t g src down

  module _ (s : State) (f : Holds s) where
    -- ---- an event other than time

    module _ (w : ℕ) (a : Accepted) where
      abbrev c : State
      c = (change s w a).state

      abbrev t : State
      t = (done s w (change s w a)).state

      follows : NoWorse g src down c t
      unfolding done
      follows = settling_no_worse s ((change s w a).state, (change s w a).messages) w g src down

      same_configured : t.configured ≡ s.configured
      same_configured = ((follows).ground).configured ∙ sym (change_configured s w a).configured

      unmoved : has_moved t g src up ≡ false → IsOnShared t g src up
      unfolding has_moved
      unmoved e = grind (arith, neither, is_true)

      quiet_tree : IsOnShared s g src up → IsQuietFor a → IsOnShared t g src up
      unfolding spt_bit
      quiet_tree on quiet = grind (arith, same_ground, same_interface_rp, follows, same_interface, less_set, still_off)

    -- ---- data: of another source; or the stream's own, on its way; or the stream's own, elsewhere

    module _ (on : IsOnShared s g src up) (w : ℕ) (j : IfaceId) (p : Packet) where
      abbrev a : Accepted
      a = Accepted.Data j p

      ground_of : SameGround s (c w a)
      ground_of = data_ground s w j p

      by_bit : (spt_bit (c w a) g src && not (is_rpf_interface s src up)) ≡ false → IsOnShared (t w a) g src up
      by_bit e = grind (arith, same_interface_rp, follows, ground_of, same_interface, less_set)

      of_others : same_key (source_key 0 g src) (source_key 0 p.destination p.source) ≡ false → IsOnShared (t w a) g src up
      unfolding change spt_bit
      of_others apart = grind (arith, by_bit, less_set, other_data_off)

      own : p.destination ≡ g → p.source ≡ src → j.number ≡ up → IsOnShared (t w a) g src up
      unfolding change forwarded renewed
      own same_g same_src same_up = grind (arith, by_bit, chosen_spt, renewed_too)

      data_tree : leaves_tree Tree.Shared by (t w a) g src up (Some a) ≡ false → IsOnShared (t w a) g src up
      data_tree off = go (p.destination == g) refl (p.source == src) refl (j.number == up) refl off
        where
          apart_by : same_key (source_key 0 g src) (source_key 0 p.destination p.source) ≡ true
              → (p.destination ≡ g) × (p.source ≡ src)
          apart_by e =
              let same : source_key 0 g src ≡ source_key 0 p.destination p.source =
              equal_keys (source_key 0 g src) (source_key 0 p.destination p.source) e in
              (sym (ap group_in same), sym (ap source_in same))

          isnt : (x y : ℕ) → (x == y) ≡ false → x ≡ y → ⊥
          isnt x y e same = grind (arith, common_steps, e, same)

          is : (x y : ℕ) → (x == y) ≡ true → x ≡ y
          is x y e = grind (arith, common_steps, e)

          others : ((p.destination ≡ g) × (p.source ≡ src) → ⊥) → IsOnShared (t w a) g src up
          others never = split (same_key (source_key 0 g src) (source_key 0 p.destination p.source)) refl
            where
              split : (b : Bool) → same_key (source_key 0 g src) (source_key 0 p.destination p.source) ≡ b → IsOnShared (t w a) g src up
              split true e = absurd (never (apart_by e))
              split false e = of_others e

          go : (b : Bool) → (p.destination == g) ≡ b → (d : Bool) → (p.source == src) ≡ d → (h : Bool) → (j.number == up) ≡ h
              → ((b && d && not h) && has_moved (t w a) g src up) ≡ false → IsOnShared (t w a) g src up
          go false e d k h u x = others (λ same. isnt p.destination g e same.0)
          go true e false k h u x = others (λ same. isnt p.source src k same.1)
          go true e true k true u x = own (is p.destination g e) (is p.source src k) (is j.number up u)
          go true e true k false u x = unmoved w a x

    tree_after : IsOnShared s g src up → (w : ℕ) (a : Accepted)
        → leaves_tree Tree.Shared by (t w a) g src up (Some a) ≡ false → IsOnShared (t w a) g src up
    tree_after on w (Accepted.Advance moment) off = quiet_tree w (Accepted.Advance moment) on tt
    tree_after on w (Accepted.Hello j from h) off = quiet_tree w (Accepted.Hello j from h) on tt
    tree_after on w (Accepted.JoinPruneToMe j m) off = quiet_tree w (Accepted.JoinPruneToMe j m) on tt
    tree_after on w (Accepted.JoinPruneSeen j m) off = quiet_tree w (Accepted.JoinPruneSeen j m) on tt
    tree_after on w (Accepted.Query j from q) off = quiet_tree w (Accepted.Query j from q) on tt
    tree_after on w (Accepted.Report j records) off = quiet_tree w (Accepted.Report j records) on tt
    tree_after on w (Accepted.Register p r) off = quiet_tree w (Accepted.Register p r) on tt
    tree_after on w (Accepted.RegisterStop from r) off = quiet_tree w (Accepted.RegisterStop from r) on tt
    tree_after on w (Accepted.Up j) off = unmoved w (Accepted.Up j) off
    tree_after on w (Accepted.Down j) off = unmoved w (Accepted.Down j) off
    tree_after on w (Accepted.Routes routes) off = unmoved w (Accepted.Routes routes) off
    tree_after on w (Accepted.Rps ranges) off = unmoved w (Accepted.Rps ranges) off
    tree_after on w (Accepted.Assert j from m) off = unmoved w (Accepted.Assert j from m) off
    tree_after on w (Accepted.Data j p) off = data_tree on w j p off

    isnt_down : (x : State) (a : Accepted) → takes_link x g src up down (Some a) ≡ false → IsNotDown up a
    isnt_down x (Accepted.Down j) off = (neither (j.number == down) (j.number == up) off).second
    isnt_down x a off = tt

    isnt_below : (x : State) (a : Accepted) → takes_link x g src up down (Some a) ≡ false → IsNotDown down a
    isnt_below x a off = grind (arith, neither)

    record Unlost (x : State) : Type 0 where
      group : is_loser (assert_star x g down) ≡ false
      source : is_loser (assert_source x g src down) ≡ false

    by_others : (w : ℕ) (a : Accepted) → IsNoAssert a → Unlost (t w a)
    by_others w a other = record {
      group = (follows w a).group (still_unlost (star_key down g) s w a other (f.goes_out).group);
      source = (follows w a).source (still_unlost (source_key down g src) s w a other (f.goes_out).source);
    }

    unlost_after : (w : ℕ) (a : Accepted) → takes_link (t w a) g src up down (Some a) ≡ false → Unlost (t w a)
    unfolding is_lost
    unlost_after w (Accepted.Assert j from m) off =
        let h : Two (is_loser (assert_star (t w (Accepted.Assert j from m)) g down)) (is_loser (assert_source (t w (Accepted.Assert j from m)) g src down)) =
        neither _ _ off in
        record { group = h.first; source = h.second }
    unlost_after w a off = by_others w a tt

    -- ---- who wants it

    host_by : is_asked s g src down ≡ true → (w : ℕ) (a : Accepted) → IsNoReport a → IsNotDown down a
        → not (serves_it (t w a) g down) ≡ false → is_asked (t w a) g src down ≡ true
    unfolding done
    host_by e w a quiet up off = grind (arith, settled_asks, still_asks, is_true)

    host_after : is_asked s g src down ≡ true → (w : ℕ) (a : Accepted)
        → takes_link (t w a) g src up down (Some a) ≡ false → takes_from Receiver.Host s (t w a) g src down (Some a) ≡ false
        → is_asked (t w a) g src down ≡ true
    unfolding done change
    host_after e w (Accepted.Advance moment) off other =
        both_true
        (settled_asks s (s, []) w g src down (first_so _ _ e))
        (is_true (serves_it (t w (Accepted.Advance moment)) g down) (neither _ _ other).second)
    host_after e w (Accepted.Report j records) off other =
        both_true
        (report_asks s (t w (Accepted.Report j records)) g src down j.number records (first_so _ _ e)
        (settled_rows s ((c w (Accepted.Report j records)), (change s w (Accepted.Report j records)).messages) w)
        (neither _ _ other).first)
        (is_true (serves_it (t w (Accepted.Report j records)) g down) (neither _ _ other).second)
    host_after e w (Accepted.Up j) off other = host_by e w (Accepted.Up j) tt tt other
    host_after e w (Accepted.Down j) off other =
        host_by e w (Accepted.Down j) tt (neither (j.number == down) (j.number == up) off).first other
    host_after e w (Accepted.Routes routes) off other = host_by e w (Accepted.Routes routes) tt tt other
    host_after e w (Accepted.Rps ranges) off other = host_by e w (Accepted.Rps ranges) tt tt other
    host_after e w (Accepted.Hello j from h) off other = host_by e w (Accepted.Hello j from h) tt tt other
    host_after e w (Accepted.JoinPruneToMe j m) off other = host_by e w (Accepted.JoinPruneToMe j m) tt tt other
    host_after e w (Accepted.JoinPruneSeen j m) off other = host_by e w (Accepted.JoinPruneSeen j m) tt tt other
    host_after e w (Accepted.Assert j from m) off other = host_by e w (Accepted.Assert j from m) tt tt other
    host_after e w (Accepted.Query j from q) off other = host_by e w (Accepted.Query j from q) tt tt other
    host_after e w (Accepted.Data j p) off other = host_by e w (Accepted.Data j p) tt tt other
    host_after e w (Accepted.Register p r) off other = host_by e w (Accepted.Register p r) tt tt other
    host_after e w (Accepted.RegisterStop from r) off other = host_by e w (Accepted.RegisterStop from r) tt tt other

    wanted_after : (b : Receiver) → IsWanted b s g src down → (w : ℕ) (a : Accepted)
        → takes_link (t w a) g src up down (Some a) ≡ false → takes_from b s (t w a) g src down (Some a) ≡ false
        → IsWanted b (t w a) g src down
    unfolding prunes
    wanted_after Receiver.Host e w a off other = host_after e w a off other
    wanted_after Receiver.Router j w a off other =
        let h : IsJoinedThere (c w a) g src down = rejoined s g src down j w (t w a) a (follows w a).downstream (isnt_below (t w a) a off) other in
        let same : (t w a).downstream ≡ (c w a).downstream = (follows w a).downstream in
        record {
          row = h.row;
          found = ap (λ d. row_at d (star_key down g)) same ∙ h.found;
          none_prunes = ap (λ d. prunes_by (row_at d (rpt_key down g src))) same ∙ h.none_prunes;
        }
    wanted_after Receiver.SourceRouter j w a off other =
        let h : IsSourceJoinedThere (c w a) g src down =
        source_rejoined s g src down j w (t w a) a (follows w a).downstream (isnt_below (t w a) a off) other in
        record {
          row = h.row;
          found = ap (λ d. row_at d (source_key down g src)) (follows w a).downstream ∙ h.found;
        }

    -- ---- the tree, if it is the source's

    bit_after : IsSourceJoinedThere s g src down → spt_bit s g src ≡ true → (w : ℕ) (a : Accepted) → IsNoAssert a
        → IsNotDown down a → takes_from Receiver.SourceRouter s (t w a) g src down (Some a) ≡ false → spt_bit (t w a) g src ≡ true
    unfolding done has_row
    bit_after j set w a other up off =
        join_keeps_spt_bit s ((change s w a).state, (change s w a).messages) w g src down
        (record {
          configured =
              subst (λ (cs : Addressing). down < length cs.interfaces) (change_configured s w a).configured (f.goes_out).configured;
          joined = ap is_some (source_rejoined s g src down j w (t w a) a (follows w a).downstream up off).found;
          unlost = still_unlost (source_key down g src) s w a other (f.goes_out).source;
        })
        (change_keeps_spt_bit s w a g src set)

    way_by : (w : ℕ) (a : Accepted) → is_rpf_interface (c w a) src up ≡ true → is_rpf_interface (t w a) src up ≡ true
    way_by w a e = same_interface (c w a) (t w a) (follows w a).ground src up ∙ e

    source_after : IsSourceJoinedThere s g src down → is_on_source s g src up ≡ true → (w : ℕ) (a : Accepted)
        → takes_link (t w a) g src up down (Some a) ≡ false → leaves_source Receiver.SourceRouter (t w a) g src up (Some a) ≡ false
        → takes_from Receiver.SourceRouter s (t w a) g src down (Some a) ≡ false → is_on_source (t w a) g src up ≡ true
    source_after j on w (Accepted.Up i) off left other =
        both_true (is_true _ left) (bit_after j (second_so _ _ on) w (Accepted.Up i) tt tt other)
    source_after j on w (Accepted.Down i) off left other =
        both_true (is_true _ left)
        (bit_after j (second_so _ _ on) w (Accepted.Down i) tt (neither (i.number == down) (i.number == up) off).first other)
    source_after j on w (Accepted.Routes routes) off left other =
        both_true (is_true _ left) (bit_after j (second_so _ _ on) w (Accepted.Routes routes) tt tt other)
    source_after j on w (Accepted.Assert i from m) off left other =
        is_true (is_on_source (t w (Accepted.Assert i from m)) g src up) left
    source_after j on w (Accepted.Rps ranges) off left other =
        both_true (way_by w (Accepted.Rps ranges) (ranges_way s w ranges src up (first_so _ _ on)))
        (bit_after j (second_so _ _ on) w (Accepted.Rps ranges) tt tt other)
    source_after j on w (Accepted.Data i p) off left other =
        both_true
        (way_by w (Accepted.Data i p) (same_interface s (c w (Accepted.Data i p)) (data_ground s w i p) src up ∙ first_so _ _ on))
        (bit_after j (second_so _ _ on) w (Accepted.Data i p) tt tt other)
    source_after j on w a off left other =
        both_true (way_by w a (same_interface s (c w a) (same_ground s w a tt) src up ∙ first_so _ _ on))
        (bit_after j (second_so _ _ on) w a tt tt other)

    on_after : (tr : Tree) (b : Receiver) → IsOn tr s g src up → IsWanted b s g src down → (w : ℕ) (a : Accepted)
        → takes_link (t w a) g src up down (Some a) ≡ false → leaves_tree tr b (t w a) g src up (Some a) ≡ false
        → takes_from b s (t w a) g src down (Some a) ≡ false → IsOn tr (t w a) g src up
    on_after tr b on j w a off left other = grind (arith, tree_after, source_after, is_true)

    done_holds : (w : ℕ) (a : Accepted) → leaves_tree tree by (t w a) g src up (Some a) ≡ false → takes_link (t w a) g src up down (Some a) ≡ false
        → takes_from by s (t w a) g src down (Some a) ≡ false → Holds (t w a)
    done_holds w a left off other =
        let unlost : Unlost (t w a) = unlost_after w a off in
        let configured : (t w a).configured ≡ s.configured = same_configured w a in
        record {
          comes_in = record {
            configured = subst (λ (cs : Addressing). up < length cs.interfaces) (sym configured) (f.comes_in).configured;
            is_up = ((follows w a).ground).up up ∙ still_up s w up a (isnt_down (t w a) a off) (f.comes_in).is_up;
            foreign = ap (λ cs. is_own_among cs src) configured ∙ (f.comes_in).foreign;
            on = on_after tree by (f.comes_in).on (f.goes_out).wanted w a off left other;
          };
          goes_out = record {
            configured = subst (λ (cs : Addressing). down < length cs.interfaces) (sym configured) (f.goes_out).configured;
            group = unlost.group;
            source = unlost.source;
            wanted = wanted_after by (f.goes_out).wanted w a off other;
          };
        }

    -- ---- time

    module _ (rest : IsSettled s) (w m : ℕ) where
      abbrev later : State
      later = (advanced s w m).state

      goes : Goes g src down s later
      goes =
          time_goes g src down s w m s (record {
            ground = ground_itself s;
            group = (f.goes_out).group;
            source = (f.goes_out).source;
            spt = λ e. e;
          })

      time_wanted : (b : Receiver) → IsWanted b s g src down
          → takes_from b s later g src down (Some (Accepted.Advance m)) ≡ false → IsWanted b later g src down
      time_wanted Receiver.Host e other =
          let h : Two (membership_ends s g src down m) (not (serves_it later g down)) = neither _ _ other in
          both_true (time_asks s g src down w m (settled_is_lawful s rest) (first_so _ _ e) h.first)
          (is_true (serves_it later g down) h.second)
      time_wanted Receiver.Router j other =
          let h : Two (has_expired s (star_key down g) m) (takes_effect s (rpt_key down g src) m) = neither _ _ other in
          record {
            row = j.row;
            found = row_lasts w m s (star_key down g) j.row (settled_is_lawful s rest) j.found h.first;
            none_prunes = none_takes_effect w m s g src down (settled_is_lawful s rest) j.none_prunes h.second;
          }
      time_wanted Receiver.SourceRouter j other = record {
        row = j.row;
        found = row_lasts w m s (source_key down g src) j.row (settled_is_lawful s rest) j.found other;
      }

      time_on : (tr : Tree) (b : Receiver) → IsOn tr s g src up → IsWanted b s g src down
          → leaves_tree tr b later g src up (Some (Accepted.Advance m)) ≡ false
          → takes_from b s later g src down (Some (Accepted.Advance m)) ≡ false → IsOn tr later g src up
      time_on Tree.Shared b on j left other = grind (arith, goes, same_interface_rp, same_interface, less_set)
      time_on Tree.Source Receiver.SourceRouter on j left other =
          both_true (same_interface s later (goes).ground src up ∙ first_so _ _ on)
          (time_keeps_spt_bit w m s g src down j.row (settled_is_lawful s rest) (f.goes_out).configured (f.goes_out).group
          (f.goes_out).source j.found other (second_so _ _ on))
      time_on Tree.Source Receiver.Router on j left other = is_true (is_on_source later g src up) left
      time_on Tree.Source Receiver.Host on j left other = is_true (is_on_source later g src up) left

      time_holds : leaves_tree tree by later g src up (Some (Accepted.Advance m)) ≡ false → takes_from by s later g src down (Some (Accepted.Advance m)) ≡ false → Holds later
      time_holds left other =
          let h : Goes g src down s later = goes in
          record {
            comes_in = record {
              configured = subst (λ (cs : Addressing). up < length cs.interfaces) (sym (h.ground).configured) (f.comes_in).configured;
              is_up = (h.ground).up up ∙ (f.comes_in).is_up;
              foreign = ap (λ cs. is_own_among cs src) (h.ground).configured ∙ (f.comes_in).foreign;
              on = time_on tree by (f.comes_in).on (f.goes_out).wanted left other;
            };
            goes_out = record {
              configured = subst (λ (cs : Addressing). down < length cs.interfaces) (sym (h.ground).configured) (f.goes_out).configured;
              group = h.group;
              source = h.source;
              wanted = time_wanted by (f.goes_out).wanted other;
            };
          }

    -- ---- any event

    module _ (rest : IsSettled s) where
      abbrev Off : State → Option Accepted → Type 0
      Off x o =
          (takes_link x g src up down o ≡ false) × (leaves_tree tree by x g src up o ≡ false)
          × (takes_from by s x g src down o ≡ false)

      taken_holds : (w : ℕ) (a : Accepted) → Off (taken s w a).state (Some a) → Holds (taken s w a).state
      unfolding taken
      taken_holds w (Accepted.Advance moment) off = time_holds rest w moment off.1 off.2
      taken_holds w a off = done_holds w a off.1 off.0 off.2

      passing_after : (e : Event) → Off (step s e).state (done_as (happens s e)) → Holds (step s e).state
      passing_after = event_holds s Holds Off f taken_holds

pub event_keeps_passing : EventKeepsPassing
unfolding ends_passing
event_keeps_passing tree by s e g src up down f off =
    let h : Four (takes_link (step s e).state g src up down (done_as (happens s e)))
    (leaves_tree tree by (step s e).state g src up (done_as (happens s e)))
    (takes_from by s (step s e).state g src down (done_as (happens s e))) (lacks_room tree (step s e).state g src) =
    none_of_four _ _ _ _ off in
    let held : Holds tree by g src up down (step s e).state =
    passing_after tree by g src up down s (record { comes_in = f.comes_in; goes_out = f.goes_out }) f.settled e
    (h.first, h.second, h.third) in
    record {
      settled = step_is_settled s e f.settled;
      matched = f.matched;
      comes_in = held.comes_in;
      goes_out = held.goes_out;
      room = h.fourth;
      on = f.on;
    }

pub run_keeps_passing : RunKeepsPassing
unfolding state_after ran
run_keeps_passing tree by s [] g src up down f none = f
run_keeps_passing tree by s (e ∷ es) g src up down f none =
    run_keeps_passing tree by (step s e).state es g src up down (event_keeps_passing tree by s e g src up down f none.0) none.1

-- the test decides
pub none_ends : (tree : Tree) (by : Receiver) (s : State) (events : List Event) (g src up down : ℕ)
    → any_ends_passing tree by s events g src up down ≡ false → NoneEndsPassing tree by s events g src up down
unfolding any_ends_passing
none_ends tree by s [] g src up down e = tt
none_ends tree by s (x ∷ xs) g src up down e =
    let h : Two (ends_passing tree by s x g src up down) (any_ends_passing tree by (step s x).state xs g src up down) = neither _ _ e in
    (h.first, none_ends tree by (step s x).state xs g src up down h.second)

-- events leave a settled state settled
pub stays_settled : (s : State) (events : List Event) → IsSettled s → IsSettled (state_after s events)
unfolding state_after ran
stays_settled s [] f = f
stays_settled s (e ∷ es) f = stays_settled (step s e).state es (step_is_settled s e f)
