-- A Join(*,G) begins a stream.
use Rattle.std.{proofs.Common.{◌≡◌, ◌∙◌, ℕ, ◌<◌, ◌&&◌, false, not, [], length, Option, Some, None, refl, sym, ap, subst, arith}}
use Rattle.pim_types.{specs.{Keys.{rpt_key, source_key}, declared.{config.IfaceId.IfaceId, event.Event.Event}}}
use Rattle.pim_wire.{specs.{Values.JoinPrune, declared.join_prune.EntryKind.EntryKind}}
use Rattle.pim_model.{specs.{declared.accepted.Accepted.Accepted, Downstream.{accepted_prunes, is_named, pruned_keys}, Messages.entry, Network.Station, Sets.{assert_source, is_loser, prunes, spt_bit}, State.{Addressing, State, is_own_among, my_address}, Step.{change, done, step}, Unicast.is_rpf_interface}}
use Rattle.law_settled.{proofs.Steps.step_is_settled, specs.Ready.IsSettled}
use Rattle.law_streams.{specs.{Joins.{JoinsStar, TakesStar, join_value}, HostsServed.became, Ways.{CanTake, IsGroup, Place, state_of, up_iface}, Climbing.{CanStream, JoinBeginsStream, delivered}, Passing.{GoesOut, Passes, Receiver, Tree}, StreamRoots.Sends}, proofs.{Made.step_taken, Deliveries.IsStepped, Leaves.taken_is_done, Passes.{goes_on_with, is_done, join_event, joins_it, takes}, Serves.has_room, Taken.tree_gone, Changes.{same_ground, still_off, still_unlost}, Climbing.stepped_so, Rejoins.prunes_by, Settles.{NoWorse, settling_no_worse}, Ways.{SameGround, same_interface, same_interface_rp}, Tests.less_set}}

-- ---- the Join names the group and prunes nothing

unpruned : (s : State) (i g rp src to : ℕ)
    → is_named (pruned_keys i (join_value to g (entry EntryKind.Star rp) [])) (rpt_key i g src) ≡ false
unfolding is_named pruned_keys accepted_prunes
unpruned s i g rp src to = refl

module _ (g rp from to link src : ℕ) (p : Place) (isg : IsGroup g rp) (can : CanTake g rp from to link p) where
  abbrev s : State
  s = state_of p

  abbrev at : IfaceId
  at = record { number = p.down }

  abbrev its_join : JoinPrune
  its_join = join_value (my_address s p.down) g (entry EntryKind.Star rp) []

  abbrev e : Event
  e = join_event g rp from to link p isg can

  abbrev a : Accepted
  a = Accepted.JoinPruneToMe at its_join

  abbrev c : State
  c = (change s p.draw a).state

  abbrev t : State
  t = (step s e).state

  is_so : t ≡ (done s p.draw (change s p.draw a)).state
  is_so =
      ap (λ x. x.state) (step_taken s e a (is_done g rp from to link p isg can) ∙ taken_is_done s p.draw a refl)

  follows : NoWorse g src p.down c t
  unfolding done
  follows =
      subst (λ (x : State). NoWorse g src p.down c x) (sym is_so)
      (settling_no_worse s ((change s p.draw a).state, (change s p.draw a).messages) p.draw g src p.down)

  took : TakesStar s t p.down g its_join
  took = takes g rp from to link p isg can

  first : SameGround s c
  first = same_ground s p.draw a tt

  same_configured : t.configured ≡ s.configured
  same_configured = ((follows).ground).configured ∙ (first).configured

  joins : JoinsStar s p.down g its_join
  joins = joins_it s p.down g rp isg can.rp_known (my_address s p.down)

  none_prunes : prunes t g src p.down ≡ false
  unfolding prunes change
  none_prunes = grind (arith, prunes_by, follows, tree_gone, joins, unpruned)

  pub goes_out : is_loser (assert_source s g src p.down) ≡ false → GoesOut Receiver.Router t g src p.down
  goes_out unlost = grind (arith, same_configured, took, follows, still_unlost, none_prunes)

  pub begins_sending : IsSettled s → is_loser (assert_source s g src p.down) ≡ false → Sends t g src p.down
  begins_sending settled unlost = record { settled = step_is_settled s e settled; goes_out = goes_out unlost }

  pub begins : CanStream g src p → Passes Tree.Shared Receiver.Router t g src (up_iface p) p.down
  unfolding spt_bit
  begins on = record {
    settled = step_is_settled s e on.settled;
    matched = tt;
    comes_in = record {
      configured = subst (λ (cs : Addressing). up_iface p < length cs.interfaces) (sym same_configured) on.configured;
      is_up = ((follows).ground).up (up_iface p) ∙ ((first).up (up_iface p) ∙ on.is_up);
      foreign = ap (λ cs. is_own_among cs src) same_configured ∙ on.foreign;
      on = record {
        on_tree =
            same_interface_rp c t (follows).ground g (up_iface p)
            ∙ (same_interface_rp s c first g (up_iface p) ∙ on.on_tree);
        source_too =
            ap (λ b. spt_bit t g src && not b)
            (same_interface c t (follows).ground src (up_iface p) ∙ same_interface s c first src (up_iface p))
            ∙ less_set (spt_bit s g src) (spt_bit t g src) (is_rpf_interface s src (up_iface p)) on.source_too
            (λ off. (follows).spt (still_off (source_key 0 g src) s p.draw a tt off));
      };
    };
    goes_out = goes_out on.unlost;
    room = has_room t g src ((goes_on_with g rp from to link p isg can).room on.settled on.room);
    on = on.on;
  }

pub join_begins_stream : JoinBeginsStream
join_begins_stream g rp from to link src k p m isg can on at there state is =
    let did : IsStepped m p.router p.station (join_event g rp from to link p isg can) (delivered m p k) =
    stepped_so g rp isg from to link k p can m at there in
    let same : (step (state_of p) (join_event g rp from to link p isg can)).state ≡ state = alike (sym did.here ∙ is) in
    subst (λ (x : State). Passes Tree.Shared Receiver.Router x g src (up_iface p) p.down) same
    (begins g rp from to link src p isg can on)
  where
    state_in : Option Station → State
    state_in None = state
    state_in (Some st) = st.state

    alike : {x y : State} → Some (became p x).station ≡ Some (became p y).station → x ≡ y
    alike h = ap state_in h
