-- The last hop sets SPTbit, and keeps it while its keepalive timer runs and it serves who is there.
use Rattle.std.{proofs.{Common.{◌≡◌, ◌∙◌, ℕ, ◌<◌, ◌&&◌, ◌||◌, Bool, true, false, not, length, Option, Some, inl, inr, is_some, None, refl, sym, ap, subst, arith}, lemmas.Bool.{both_ways, or_left}}, specs.{Cmp.{first_so, second_so, Derive.both_true}, List.Contains, Option.option_map_or, Prelude.option_and_then}}
use Rattle.pim_ip.{specs.Ipv4.{Packet, copy_text}}
use Rattle.pim_types.{specs.{Keys.{group_in, rpt_key, same_key, source_in, source_key, star_key}, declared.{event.Event.Event, fact.{AssertRow.AssertRow, DownstreamRow.DownstreamRow, Key.Key, NeighbourRow.NeighbourRow, RegisterRow.RegisterRow, SourceRow.SourceRow}}}, proofs.Keys.equal_keys}
use Rattle.pim_model.{specs.{declared.accepted.Accepted.Accepted, Asserts.{assert_forgotten, with_spt_bit, without_spt, without_spt_bit}, Clearing.{ClearAssert, ClearSptBit, Cleared, clear, clear_all, clearable_count, cleared, to_clear}, Desires.{is_immediate_empty, is_inherited_empty, join_desired}, Forwarding.{forwarded, list_chosen, source_here, source_joined, when}, Neighbours.is_dr, Receivers.{is_exclude, local_receiver_exclude}, Registers.{settle_register, settle_registers, with_keepalive}, Sets.{assert_source, assert_star, inherited_olist, inherited_olist_rpt, is_kept_alive, is_loser, joins, joins_star, lost_assert, lost_assert_rpt, lost_assert_star, pim_exclude, pim_include_star, prunes, serves_star, spt_bit}, State.{Addressing, State, iface_count, is_own_among}, Step.{change, done, step}, Tables.{Table, change_row, has_row, row_at}, Unicast.is_rpf_interface, Writing.on_link}}
use Rattle.law_settled.{proofs.{ListLaws.by_cond, RowLaws.{row_change_away, row_put}, TurnLaws.kept_to_the_end, Steps.step_is_settled, Unsettled.{Unsettled, Untold, cleared_in_the_end, settling_leaves}}}
use Rattle.law_streams.{specs.{Copies.copies_at, Served.{Came, renewed}, Passing.{AreMatched, GoesOut, IsWanted, Passes, Receiver, Tree, asks}, LastHop.{CanChange, IsServing, LastHopSetsSptBit}}, proofs.{Made.step_taken, ServedData.{member_is_served, served_here, source_is_served}, Leaves.taken_is_done, Taken.{apart_keys, not_empty}, Bits.unwanted, Changes.{data_ground, same_rows, still_unlost}, StreamMembers.{settled_asks, still_asks}, Rejoins.prunes_by, Rows.dropped_good, Serving.{met, met_alike}, Settles.{NoWorse, settling_no_worse}, Tests.is_false, Ways.{SameGround, ground_again, same_interface}, Turning.{met_with, on_source_then, renewed_is}}}

-- ---- who is served there

unfoldable served : Receiver → State → ℕ → ℕ → ℕ → Bool
served Receiver.Router s g src j = has_row s.downstream (star_key j g) && not (prunes s g src j)
served Receiver.Host s g src j = (is_exclude s g j && not (local_receiver_exclude s g src j)) && is_dr s j
served Receiver.SourceRouter s g src j = has_row s.downstream (source_key j g src)

-- it asks no row of a source, a register or an assert
served_with : (by : Receiver) (s : State) (x : Table SourceRow) (y : Table RegisterRow) (z : Table AssertRow) (g src j : ℕ)
    → served by (record s { sources = x; registers = y; asserts = z }) g src j ≡ served by s g src j
unfolding served prunes is_exclude local_receiver_exclude is_dr
served_with Receiver.Router s x y z g src j = refl
served_with Receiver.Host s x y z g src j = refl
served_with Receiver.SourceRouter s x y z g src j = refl

is_listed : (by : Receiver) (u : State) (g src j : ℕ) → served by u g src j ≡ true → is_loser (assert_star u g j) ≡ false
    → is_loser (assert_source u g src j) ≡ false → inherited_olist u g src j ≡ true
unfolding served inherited_olist inherited_olist_rpt joins joins_star lost_assert lost_assert_rpt lost_assert_star pim_include_star
    pim_exclude serves_star
is_listed Receiver.Router u g src j e group source =
    let a : has_row u.downstream (star_key j g) ≡ true = first_so _ _ e in
    let b : prunes u g src j ≡ false = is_false (prunes u g src j) (second_so (has_row u.downstream (star_key j g)) (not (prunes u g src j)) e) in grind (arith, a, b, group, source)
is_listed Receiver.Host u g src j e group source =
    let both : (is_exclude u g j && not (local_receiver_exclude u g src j)) ≡ true =
    first_so (is_exclude u g j && not (local_receiver_exclude u g src j)) (is_dr u j) e in
    let a : is_exclude u g j ≡ true = first_so (is_exclude u g j) (not (local_receiver_exclude u g src j)) both in
    let b : local_receiver_exclude u g src j ≡ false =
    is_false (local_receiver_exclude u g src j) (second_so (is_exclude u g j) (not (local_receiver_exclude u g src j)) both) in
    let d : is_dr u j ≡ true =
    second_so (is_exclude u g j && not (local_receiver_exclude u g src j)) (is_dr u j) e in grind (arith, a, b, d, group, source)
is_listed Receiver.SourceRouter u g src j e group source = grind (arith, e, group, source)

is_desired : (u : State) (g src j : ℕ) → j < iface_count u → inherited_olist u g src j ≡ true → is_kept_alive u g src ≡ true
    → join_desired u g src ≡ true
unfolding join_desired is_inherited_empty
is_desired u g src j within e alive =
    rw (not_empty u (inherited_olist u g src) j within e, alive) (last (is_immediate_empty u g src))
  where
    last : (b : Bool) → (not b || true) ≡ true
    last true = refl
    last false = refl

served_so : (by : Receiver) (s : State) (g src j : ℕ) → GoesOut by s g src j → IsServing by s j → served by s g src j ≡ true
unfolding served has_row
served_so Receiver.Router s g src j f serving =
    both_true (ap is_some (f.wanted).found) (ap not (f.wanted).none_prunes)
served_so Receiver.Host s g src j f serving = both_true (first_so _ _ f.wanted) serving
served_so Receiver.SourceRouter s g src j f serving = ap is_some (f.wanted).found

-- ---- a source row with SPTbit, whose keepalive timer runs

abbrev alive_of : Option SourceRow → Bool
alive_of o = option_map_or (λ (r : SourceRow). is_some r.keepalive) o false

abbrev both_of : Option SourceRow → Bool
both_of o = option_map_or (λ (r : SourceRow). r.spt && is_some r.keepalive) o false

module _ (s : State) (g src up : ℕ) where
  kept_alive : (t : State) → is_kept_alive (with_keepalive t g src) g src ≡ true
  unfolding is_kept_alive with_keepalive
  kept_alive t = ap alive_of (row_put (source_key 0 g src) _ t.sources)

  when_alive : (b : Bool) (t : State) → is_kept_alive t g src ≡ true → is_kept_alive (when b (λ u. with_keepalive u g src) t) g src ≡ true
  when_alive true t e = kept_alive t
  when_alive false t e = e

  here_alive : is_kept_alive s g src ≡ true → is_kept_alive (source_here s g src up) g src ≡ true
  unfolding source_here settle_register is_kept_alive
  here_alive e = by_cond (λ (t : State). is_kept_alive t g src ≡ true) _ _ s (kept_alive s) e

  met_alive : is_kept_alive s g src ≡ true → is_kept_alive (met s g src up) g src ≡ true
  unfolding source_joined
  met_alive e = when_alive _ (source_here s g src up) (here_alive e)

both_set : (t : State) (g src : ℕ) → is_kept_alive t g src ≡ true
    → both_of (row_at (with_spt_bit t g src).sources (source_key 0 g src)) ≡ true
unfolding with_spt_bit is_kept_alive
both_set t g src e = ap both_of (row_put (source_key 0 g src) _ t.sources) ∙ go (row_at t.sources (source_key 0 g src)) e
  where
    go : (o : Option SourceRow) → alive_of o ≡ true
        → both_of (Some (record { keepalive = option_and_then (λ (r : SourceRow). r.keepalive) o; spt = true })) ≡ true
    go None f = cc f
    go (Some r) f = f

bit_of_both : (o : Option SourceRow) → both_of o ≡ true → option_map_or (λ (r : SourceRow). r.spt) o false ≡ true
bit_of_both None e = cc e
bit_of_both (Some r) e = first_so _ _ e

alive_of_both : (o : Option SourceRow) → both_of o ≡ true → alive_of o ≡ true
alive_of_both None e = cc e
alive_of_both (Some r) e = second_so _ _ e

-- ---- nothing that follows clears it

module _ (by : Receiver) (c : State) (g src i : ℕ) (within : i < iface_count c) (asked : served by c g src i ≡ true) where
  record Kept (u : State) : Type 0 where
    is_with : u ≡ record c { sources = u.sources; registers = u.registers; asserts = u.asserts }
    group : is_loser (assert_star u g i) ≡ false
    source : is_loser (assert_source u g src i) ≡ false
    both : both_of (row_at u.sources (source_key 0 g src)) ≡ true

  wanted : (u : State) → Kept u → join_desired u g src ≡ true
  unfolding is_kept_alive
  wanted u f =
      is_desired u g src i
      (subst (λ (cs : Addressing). i < length cs.interfaces) (sym (ap (λ (v : State). v.configured) f.is_with)) within)
      (is_listed by u g src i
      (ap (λ (v : State). served by v g src i) f.is_with ∙ (served_with by c u.sources u.registers u.asserts g src i ∙ asked)) f.group f.source)
      (alive_of_both (row_at u.sources (source_key 0 g src)) f.both)

  one_cleared : (o u : State) (x : Cleared) → Kept u → to_clear o u ≡ Some x → Kept (cleared u x).0
  unfolding cleared assert_forgotten without_spt_bit
  one_cleared o u (ClearAssert k r) f next = record {
    is_with = ap (λ (v : State). record v { asserts = (cleared u (ClearAssert k r)).0.asserts }) f.is_with;
    group = dropped_good is_loser refl k (star_key i g) u.asserts f.group;
    source = dropped_good is_loser refl k (source_key i g src) u.asserts f.source;
    both = f.both;
  }
  one_cleared o u (ClearSptBit k) f next = record {
    is_with = ap (λ (v : State). record v { sources = (cleared u (ClearSptBit k)).0.sources }) f.is_with;
    group = f.group;
    source = f.source;
    both = go (same_key (source_key 0 g src) k) refl;
  }
    where
      go : (b : Bool) → same_key (source_key 0 g src) k ≡ b
          → both_of (row_at (change_row without_spt k u.sources) (source_key 0 g src)) ≡ true
      go true same =
          let is : source_key 0 g src ≡ k = equal_keys (source_key 0 g src) k same in
          absurd (both_ways (join_desired u g src)
          (subst (λ (q : Key). join_desired u (group_in q) (source_in q) ≡ false) (sym is) (unwanted o u k next)) (wanted u f))
      go false off =
          ap both_of (row_change_away k (source_key 0 g src) (apart_keys k (source_key 0 g src) off) without_spt u.sources) ∙ f.both

  all_cleared : (o u : State) → Kept u → Kept (clear o u).0
  unfolding clear clear_all settle_registers
  all_cleared o u f =
      kept_to_the_end (to_clear o) cleared Kept (λ v x h next. one_cleared o v x h next) (clearable_count (settle_registers u))
      (settle_registers u) (record {
        is_with = ap (λ (v : State). record v { registers = (settle_registers u).registers }) f.is_with;
        group = f.group;
        source = f.source;
        both = f.both;
      })

-- ---- the packet

chosen_is : (x : State) (g src up : ℕ) → (is_rpf_interface x src up && spt_bit x g src) ≡ true → (list_chosen x g src up).state ≡ x
unfolding list_chosen
chosen_is x g src up e = rw e refl

-- the DR is told by the interfaces' configuration and the neighbours
dr_by : (x y : State) (j : ℕ) → x.configured ≡ y.configured → x.neighbours ≡ y.neighbours → is_dr x j ≡ is_dr y j
unfolding is_dr
dr_by x y j same rows =
    ap (λ (cs : Addressing). is_dr (record x { configured = cs }) j) same
    ∙ ap (λ (ns : Table NeighbourRow). is_dr (record y { neighbours = ns }) j) rows

matched_so : (by : Receiver) → AreMatched Tree.Source by
matched_so Receiver.Router = tt
matched_so Receiver.Host = tt
matched_so Receiver.SourceRouter = tt

module _ (by : Receiver) (s : State) (g src up down : ℕ) (f : CanChange by s g src up down) where
  asked_met : served by (met s g src up) g src down ≡ true
  asked_met =
      ap (λ (t : State). served by t g src down) (met_with s g src up)
      ∙ (served_with by s (met s g src up).sources (met s g src up).registers s.asserts g src down
      ∙ served_so by s g src down f.goes_out f.serving)

  wanted_met : join_desired (met s g src up) g src ≡ true
  wanted_met =
      is_desired (met s g src up) g src down
      (subst (λ (cs : Addressing). down < length cs.interfaces) (sym (met_alike s g src up).configured) (f.goes_out).configured)
      (is_listed by (met s g src up) g src down asked_met
      (ap (λ (t : Table AssertRow). is_loser (row_at t (star_key down g))) (met_alike s g src up).asserts ∙ (f.goes_out).group)
      (ap (λ (t : Table AssertRow). is_loser (row_at t (source_key down g src))) (met_alike s g src up).asserts ∙ (f.goes_out).source))
      (met_alive s g src up f.alive)

  pub on_source_last : (is_rpf_interface (renewed s g src up) src up && spt_bit (renewed s g src up) g src) ≡ true
  on_source_last = on_source_then s g src up f.way f.may wanted_met

  -- the state after the packet's own change
  pub own_is : (forwarded s g src up).state ≡ with_spt_bit (met s g src up) g src
  unfolding forwarded renewed
  own_is = chosen_is (renewed s g src up) g src up on_source_last ∙ renewed_is s g src up f.way f.may wanted_met

-- ---- after the event

module _ (by : Receiver) (s : State) (e : Event) (p : Packet) (up down : ℕ) (f : CanChange by s p.destination p.source up down)
    (came : Came s e (record { number = up }) p) where
  abbrev g : ℕ
  g = p.destination

  abbrev src : ℕ
  src = p.source

  abbrev a : Accepted
  a = Accepted.Data (record { number = up }) p

  abbrev c : State
  c = (change s e.draw a).state

  abbrev t : State
  t = (step s e).state

  is_so : t ≡ (done s e.draw (change s e.draw a)).state
  is_so = ap (λ x. x.state) (step_taken s e a came.done ∙ taken_is_done s e.draw a refl)

  follows : NoWorse g src down c t
  unfolding done
  follows =
      subst (λ (x : State). NoWorse g src down c x) (sym is_so)
      (settling_no_worse s (c, (change s e.draw a).messages) e.draw g src down)

  first : SameGround s c
  first = data_ground s e.draw (record { number = up }) p

  ground : SameGround s t
  ground = ground_again s c t first (follows).ground

  change_is : c ≡ with_spt_bit (met s g src up) g src
  unfolding change
  change_is = own_is by s g src up down f

  set_asked : (x : State) → served by x g src down ≡ true → served by (with_spt_bit x g src) g src down ≡ true
  unfolding with_spt_bit
  set_asked x h = served_with by x (with_spt_bit x g src).sources x.registers x.asserts g src down ∙ h

  asked : served by c g src down ≡ true
  asked =
      ap (λ (x : State). served by x g src down) change_is
      ∙ set_asked (met s g src up) (asked_met by s g src up down f)

  group_then : is_loser (assert_star c g down) ≡ false
  group_then = still_unlost (star_key down g) s e.draw a tt (f.goes_out).group

  source_then : is_loser (assert_source c g src down) ≡ false
  source_then = still_unlost (source_key down g src) s e.draw a tt (f.goes_out).source

  within : down < iface_count c
  within = subst (λ (cs : Addressing). down < length cs.interfaces) (sym (first).configured) (f.goes_out).configured

  set_now : spt_bit t g src ≡ true
  unfolding done spt_bit
  set_now =
      ap (λ (x : State). spt_bit x g src) is_so
      ∙ (ap (λ (u : Untold). option_map_or (λ (r : SourceRow). r.spt) (row_at u.sources (source_key 0 g src)) false)
      (cleared_in_the_end s (c, (change s e.draw a).messages) e.draw)
      ∙ bit_of_both _ (all_cleared by c g src down within asked s c (record {
        is_with = refl;
        group = group_then;
        source = source_then;
        both =
            ap (λ (x : State). both_of (row_at x.sources (source_key 0 g src))) change_is
            ∙ both_set (met s g src up) g src (met_alive s g src up f.alive);
      })).both)

  set_neighbours : (x : State) → (with_spt_bit x g src).neighbours ≡ x.neighbours
  unfolding with_spt_bit
  set_neighbours x = refl

  same_dr : is_dr t down ≡ is_dr s down
  unfolding done
  same_dr =
      dr_by t s down (ground).configured
      (ap (λ (x : State). x.neighbours) is_so
      ∙ (ap (λ (u : Unsettled). u.neighbours) (settling_leaves s (c, (change s e.draw a).messages) e.draw)
      ∙ (ap (λ (x : State). x.neighbours) change_is ∙ set_neighbours (met s g src up)
      ∙ ap (λ (x : State). x.neighbours) (met_with s g src up))))

  wanted_then : (b : Receiver) → IsWanted b s g src down → IsServing b s down → IsWanted b t g src down
  unfolding prunes done
  wanted_then Receiver.Router j serving = record {
    row = j.row;
    found =
        ap (λ (d : Table DownstreamRow). row_at d (star_key down g)) ((follows).downstream ∙ same_rows s e.draw a tt) ∙ j.found;
    none_prunes =
        ap (λ (d : Table DownstreamRow). prunes_by (row_at d (rpt_key down g src))) ((follows).downstream ∙ same_rows s e.draw a tt)
        ∙ j.none_prunes;
  }
  wanted_then Receiver.Host j serving =
      both_true
      (ap (λ (x : State). asks x g src down) is_so
      ∙ settled_asks s (c, (change s e.draw a).messages) e.draw g src down (still_asks s e.draw a g src down tt tt (first_so _ _ j)))
      (or_left _ _ (same_dr ∙ serving))
  wanted_then Receiver.SourceRouter j serving = record {
    row = j.row;
    found =
        ap (λ (d : Table DownstreamRow). row_at d (source_key down g src)) ((follows).downstream ∙ same_rows s e.draw a tt)
        ∙ j.found;
  }

  passes_then : Passes Tree.Source by t g src up down
  passes_then = record {
    settled = step_is_settled s e f.settled;
    matched = matched_so by;
    comes_in = record {
      configured = subst (λ (cs : Addressing). up < length cs.interfaces) (sym (ground).configured) f.configured;
      is_up = (ground).up up ∙ f.is_up;
      foreign = ap (λ (cs : Addressing). is_own_among cs src) (ground).configured ∙ f.foreign;
      on = both_true (same_interface s t ground src up ∙ f.way) set_now;
    };
    goes_out = record {
      configured = subst (λ (cs : Addressing). down < length cs.interfaces) (sym (ground).configured) (f.goes_out).configured;
      group = (follows).group group_then;
      source = (follows).source source_then;
      wanted = wanted_then by (f.goes_out).wanted f.serving;
    };
    room = refl;
    on = f.on;
  }

leaves_then : (by : Receiver) (s : State) (e : Event) (p : Packet) (up down : ℕ) (f : CanChange by s p.destination p.source up down)
    → Came s e (record { number = up }) p → Contains (copies_at s e) (on_link down (copy_text p))
unfolding has_row
leaves_then Receiver.Router s e p up down f came =
    served_here s e (record { number = up }) p down came (inl (on_source_last Receiver.Router s p.destination p.source up down f))
    (record {
      configured = (f.goes_out).configured;
      joined = ap is_some ((f.goes_out).wanted).found;
      unpruned = ((f.goes_out).wanted).none_prunes;
      group = (f.goes_out).group;
      source = (f.goes_out).source;
    }) f.on
leaves_then Receiver.Host s e p up down f came =
    member_is_served s e (record { number = up }) p down came (inl (on_source_last Receiver.Host s p.destination p.source up down f))
    (record {
      configured = (f.goes_out).configured;
      asked = first_so _ _ (first_so _ _ (f.goes_out).wanted);
      wanted = is_false _ (second_so _ _ (first_so _ _ (f.goes_out).wanted));
      serves = second_so _ _ (f.goes_out).wanted;
      group = (f.goes_out).group;
      source = (f.goes_out).source;
    }) f.on
leaves_then Receiver.SourceRouter s e p up down f came =
    source_is_served s e (record { number = up }) p down came (on_source_last Receiver.SourceRouter s p.destination p.source up down f)
    (inr (record {
      configured = (f.goes_out).configured;
      joined = ap is_some ((f.goes_out).wanted).found;
      source = (f.goes_out).source;
    })) f.on

pub last_hop_sets_spt_bit : LastHopSetsSptBit
last_hop_sets_spt_bit by s e p up down f came =
    record { leaves = leaves_then by s e p up down f came; passes = passes_then by s e p up down f came }
