-- A packet on the way to its source sets SPTbit, and the router passes the stream on the source's tree from then on.
use Rattle.std.{proofs.Common.{◌≡◌, ◌∙◌, ℕ, ◌<◌, ◌&&◌, ◌||◌, Bool, true, false, not, Option, Some, inr, is_some, length, refl, sym, ap, subst}, specs.{Cmp.{second_so, Derive.both_true}, List.{Contains, list_any}, Option.option_map_or}}
use Rattle.pim_ip.{specs.Ipv4.{Packet, copy_text}}
use Rattle.pim_types.{specs.{Keys.{source_key, star_key}, declared.{event.Event.Event, fact.{DownstreamRow.DownstreamRow, Key.Key, RegisterRow.RegisterRow, SourceRow.SourceRow}}}}
use Rattle.pim_model.{specs.{declared.accepted.Accepted.Accepted, Asserts.with_spt_bit, Desires.{join_desired, rpf_source, rpf_star}, Forwarding.{forwarded, is_spt_reached, source_here, source_joined, spt_updated, when}, Neighbours.{is_dr, nbr}, Receivers.{is_exclude, local_receiver_exclude}, Registers.{settle_register, with_keepalive}, Sets.{Set, assert_source, inherited_olist_rpt, is_empty, is_loser, joins_star, lost_assert_rpt, lost_assert_star, pim_exclude, pim_include_star, prunes, serves_star, spt_bit}, State.{Addressing, State, ifaces, is_own_among}, Step.{change, done, step}, Tables.{Table, has_row, row_at, same_hop, same_option}, Unicast.{is_connected, is_rpf_interface, is_rpf_interface_rp, route, rp_of, rp_route, rpf_interface, rpf_interface_rp}, Writing.on_link}}
use Rattle.law_settled.{proofs.{ListLaws.by_cond, RowLaws.row_put, Steps.step_is_settled}}
use Rattle.law_streams.{specs.{Copies.copies_at, Served.{Came, renewed}, Passing.{Passes, Receiver, Tree}, Turning.{CanTurn, PacketSetsSptBit, may_turn}}, proofs.{Made.step_taken, ServedData.source_is_served, Leaves.taken_is_done, Taken.{listed_source, wanted_source}, Bits.join_keeps_spt_bit, Changes.{chosen_spt, data_ground, same_rows, still_unlost}, Serving.{IsAlike, met, met_alike}, Settles.{NoWorse, settling_no_worse}, Ways.{SameGround, ground_again, same_interface}}}

-- ---- what the packet renews before it asks for SPTbit

module _ (s : State) (g src up : ℕ) where
  -- other rows of sources and of registers, and the same SPTbit
  abbrev with_rows : Table SourceRow → Table RegisterRow → State
  with_rows x y = record s { sources = x; registers = y }

  abbrev pub IsWith : State → Type 0
  IsWith t = t ≡ record s { sources = t.sources; registers = t.registers }

  pub kept_with : (t : State) → IsWith t → IsWith (with_keepalive t g src)
  unfolding with_keepalive
  kept_with t e = ap (λ (u : State). record u { sources = (with_keepalive t g src).sources }) e

  settled_with : (t : State) (k : Key) → IsWith t → IsWith (settle_register t k)
  unfolding settle_register
  settled_with t k e = ap (λ (u : State). record u { registers = (settle_register t k).registers }) e

  here_with : IsWith (source_here s g src up)
  unfolding source_here
  here_with = by_cond IsWith _ _ s (settled_with (with_keepalive s g src) (source_key 0 g src) (kept_with s refl)) refl

  pub when_with : (b : Bool) (t : State) → IsWith t → IsWith (when b (λ u. with_keepalive u g src) t)
  when_with true t e = kept_with t e
  when_with false t e = e

  pub met_with : IsWith (met s g src up)
  unfolding source_joined
  met_with = when_with _ (source_here s g src up) here_with

  module _ (x : Table SourceRow) (y : Table RegisterRow) (same : spt_bit (with_rows x y) g src ≡ spt_bit s g src) where
    lost_with : (i : ℕ) → lost_assert_rpt (with_rows x y) g src i ≡ lost_assert_rpt s g src i
    unfolding lost_assert_rpt rpf_interface rpf_interface_rp route rp_route rp_of
    lost_with i =
        ap (λ (b : Bool). not (is_rpf_interface_rp s g i || (is_rpf_interface s src i && b)) && is_loser (assert_source s g src i)) same

    listed_with : (i : ℕ) → inherited_olist_rpt (with_rows x y) g src i ≡ inherited_olist_rpt s g src i
    unfolding inherited_olist_rpt joins_star prunes pim_include_star pim_exclude serves_star is_dr is_exclude local_receiver_exclude
        lost_assert_star rpf_interface_rp route rp_route rp_of
    listed_with i =
        ap (λ (b : Bool). ((joins_star s g i && not (prunes s g src i)) || (pim_include_star s g i && not (pim_exclude s g src i)))
        && not (lost_assert_star s g i || b)) (lost_with i)

    empty_with : is_empty (with_rows x y) (inherited_olist_rpt (with_rows x y) g src) ≡ is_empty s (inherited_olist_rpt s g src)
    unfolding is_empty
    empty_with = ap (λ (a : Set). not (list_any a (ifaces s))) (λ j i. listed_with i j)

    may_with : may_turn (with_rows x y) g src up ≡ may_turn s g src up
    unfolding may_turn is_connected rpf_interface rpf_interface_rp route rp_route rp_of rpf_source rpf_star nbr
    may_with =
        ap (λ (b : Bool). is_connected s src || not (same_option (rpf_interface s src) (rpf_interface_rp s g)) || b
        || (is_some (rpf_source s g src) && same_hop (rpf_source s g src) (rpf_star s g)) || is_loser (assert_source s g src up)) empty_with

  may_met : may_turn (met s g src up) g src up ≡ may_turn s g src up
  may_met =
      ap (λ (t : State). may_turn t g src up) met_with
      ∙ may_with (met s g src up).sources (met s g src up).registers
      (ap (λ (t : State). spt_bit t g src) (sym met_with) ∙ (met_alike s g src up).spt)

-- ---- what sets SPTbit leaves the way

bit_is_set : (t : State) (g src : ℕ) → spt_bit (with_spt_bit t g src) g src ≡ true
unfolding spt_bit with_spt_bit
bit_is_set t g src = ap (λ (o : Option SourceRow). option_map_or (λ (r : SourceRow). r.spt) o false) (row_put (source_key 0 g src) _ t.sources)

same_way : (t : State) (g src up : ℕ) → is_rpf_interface t src up ≡ true → is_rpf_interface (with_spt_bit t g src) src up ≡ true
unfolding with_spt_bit rpf_interface route
same_way t g src up e = e

-- ---- the packet

module _ (s : State) (g src up : ℕ) (way : is_rpf_interface s src up ≡ true) (may : may_turn s g src up ≡ true)
    (wanted : join_desired (met s g src up) g src ≡ true) where
  way_met : is_rpf_interface (met s g src up) src up ≡ true
  way_met = (met_alike s g src up).source ∙ way

  reached : is_spt_reached (met s g src up) g src up ≡ true
  unfolding is_spt_reached may_turn
  reached = both_true (both_true way_met wanted) (may_met s g src up ∙ may)

  pub on_source_then : (is_rpf_interface (renewed s g src up) src up && spt_bit (renewed s g src up) g src) ≡ true
  unfolding renewed spt_updated
  on_source_then = rw reached (both_true (same_way (met s g src up) g src up way_met) (bit_is_set (met s g src up) g src))

  pub renewed_is : renewed s g src up ≡ with_spt_bit (met s g src up) g src
  unfolding renewed spt_updated
  renewed_is = rw reached refl

module _ (s : State) (g src up down : ℕ) (f : CanTurn s g src up down) where
  abbrev alike : IsAlike s g src up (met s g src up)
  alike = met_alike s g src up

  there : has_row (met s g src up).downstream (source_key down g src) ≡ true
  unfolding has_row
  there =
      ap (λ (t : Table DownstreamRow). is_some (row_at t (source_key down g src))) (alike).downstream
      ∙ ap is_some ((f.goes_out).wanted).found

  wanted : join_desired (met s g src up) g src ≡ true
  wanted =
      wanted_source (met s g src up) g src down
      (subst (λ (cs : Addressing). down < length cs.interfaces) (sym (alike).configured) (f.goes_out).configured)
      (listed_source (met s g src up) g src down there
      (ap (λ x. is_loser (row_at x (source_key down g src))) (alike).asserts ∙ (f.goes_out).source))

  pub on_source : (is_rpf_interface (renewed s g src up) src up && spt_bit (renewed s g src up) g src) ≡ true
  on_source = on_source_then s g src up f.way f.may wanted

-- ---- after the event

module _ (s : State) (e : Event) (p : Packet) (up down : ℕ) (f : CanTurn s p.destination p.source up down)
    (came : Came s e (record { number = up }) p) where
  abbrev g : ℕ
  g = p.destination

  abbrev src : ℕ
  src = p.source

  abbrev a : Accepted
  a = Accepted.Data (record { number = up }) p

  abbrev c : State
  c = (change s e.draw a).state

  abbrev t : State
  t = (step s e).state

  is_so : t ≡ (done s e.draw (change s e.draw a)).state
  is_so = ap (λ x. x.state) (step_taken s e a came.done ∙ taken_is_done s e.draw a refl)

  follows : NoWorse g src down c t
  unfolding done
  follows =
      subst (λ (x : State). NoWorse g src down c x) (sym is_so)
      (settling_no_worse s (c, (change s e.draw a).messages) e.draw g src down)

  first : SameGround s c
  first = data_ground s e.draw (record { number = up }) p

  ground : SameGround s t
  ground = ground_again s c t first (follows).ground

  set_then : spt_bit c g src ≡ true
  unfolding change forwarded renewed
  set_then = chosen_spt g src up (renewed s g src up) ∙ second_so _ _ (on_source s g src up down f)

  unlost : is_loser (assert_source c g src down) ≡ false
  unlost = still_unlost (source_key down g src) s e.draw a tt (f.goes_out).source

  row_then : row_at c.downstream (source_key down g src) ≡ Some ((f.goes_out).wanted).row
  row_then =
      ap (λ (d : Table DownstreamRow). row_at d (source_key down g src)) (same_rows s e.draw a tt) ∙ ((f.goes_out).wanted).found

  set_now : spt_bit t g src ≡ true
  unfolding done has_row
  set_now =
      ap (λ (x : State). spt_bit x g src) is_so
      ∙ join_keeps_spt_bit s (c, (change s e.draw a).messages) e.draw g src down (record {
        configured = subst (λ (cs : Addressing). down < length cs.interfaces) (sym (first).configured) (f.goes_out).configured;
        joined = ap is_some row_then;
        unlost = unlost;
      }) set_then

  passes_then : Passes Tree.Source Receiver.SourceRouter t g src up down
  passes_then = record {
    settled = step_is_settled s e f.settled;
    matched = tt;
    comes_in = record {
      configured = subst (λ (cs : Addressing). up < length cs.interfaces) (sym (ground).configured) f.configured;
      is_up = (ground).up up ∙ f.is_up;
      foreign = ap (λ (cs : Addressing). is_own_among cs src) (ground).configured ∙ f.foreign;
      on = both_true (same_interface s t ground src up ∙ f.way) set_now;
    };
    goes_out = record {
      configured = subst (λ (cs : Addressing). down < length cs.interfaces) (sym (ground).configured) (f.goes_out).configured;
      group = (follows).group (still_unlost (star_key down g) s e.draw a tt (f.goes_out).group);
      source = (follows).source unlost;
      wanted = record {
        row = ((f.goes_out).wanted).row;
        found = ap (λ (d : Table DownstreamRow). row_at d (source_key down g src)) (follows).downstream ∙ row_then;
      };
    };
    room = refl;
    on = f.on;
  }

  leaves_then : Contains (copies_at s e) (on_link down (copy_text p))
  unfolding has_row
  leaves_then =
      source_is_served s e (record { number = up }) p down came (on_source s g src up down f) (inr (record {
        configured = (f.goes_out).configured;
        joined = ap is_some ((f.goes_out).wanted).found;
        source = (f.goes_out).source;
      })) f.on

pub packet_sets_spt_bit : PacketSetsSptBit
packet_sets_spt_bit s e p up down f came =
    record { leaves = leaves_then s e p up down f came; passes = passes_then s e p up down f came }
