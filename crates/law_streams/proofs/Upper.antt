-- What an event leaves of the Join that the upper router holds, and the Join that it takes.
use Rattle.std.{proofs.{Common.{◌≡◌, ◌∙◌, ℕ, ◌+◌, ◌<◌, ◌==◌, ◌||◌, nat_le, Bool, true, false, List, [], ◌∷◌, filter, map, Option, Some, None, Ok, refl, sym, ap, subst, arith, append-nil, eq-eqb}, lemmas.{Bool.{both_ways, false_from_ne_true, Decides.nat_tests}, Grind.common_steps}}}
use Rattle.pim_types.{specs.{Keys.{rpt_key, same_key}, declared.{config.IfaceId.IfaceId, event.{Event.Event, EventKind.EventKind}, fact.Key.Key}}, proofs.Keys.{equal_keys, same_key_same}}
use Rattle.pim_wire.{specs.{Values.JoinPrune, declared.join_prune.Entry.Entry}}
use Rattle.pim_model.{specs.{declared.accepted.Accepted.Accepted, Cause.done_as, Downstream.{Named, accepted_joins, accepted_prunes, holdtime_end, holdtime_end_from, is_accepted, is_named, is_used, joined_keys, keys_taken, named_key, pruned_keys, to_me}, Firing.settled, Full.is_full, Judging.judged, Messages.Message, State.{State, is_up, my_address}, Step.{Answered, advanced, change, done, iface_down, step, taken}}}
use Rattle.law_settled.{proofs.{RowLaws.has_row_dropped, Unsettled.settling_leaves}, specs.Ready.IsSettled}
use Rattle.law_streams.{specs.{Copies.happens, Joins.{Hears, HoldsTree, IsWritable, JoinsTree, join_packet, join_value}, Lasts.takes_back, InTimeJoins.{IsJoin, IsRp, Join, entry_of, join_key, prunes_it, prunes_of}}, proofs.{Made.step_taken, Keeps.{event_keeps_source, event_keeps_star}, Leaves.taken_is_done, Passes.{done_if, general_group, same_up}, ReadBack.join_is_read, Taken.{source_join_is_taken, star_join_is_taken}}}

module _ (s : State) (e : Event) where
  abbrev t : State
  t = (step s e).state

  -- the present after an Advance
  pub moves_on : (m : ℕ) → done_as (happens s e) ≡ Some (Accepted.Advance m) → (t).present ≡ m
  unfolding taken advanced
  moves_on m is = ap (λ (a : Answered). (a.state).present) (step_taken s e (Accepted.Advance m) is)

  abbrev without : IfaceId → State × List Message
  without j = ((change s e.draw (Accepted.Down j)).state, (change s e.draw (Accepted.Down j)).messages)

  is_gone : (j : IfaceId) → is_up (without j).0 j.number ≡ false
  unfolding change iface_down
  is_gone j = grind (arith, has_row_dropped, eq-eqb)

  -- an interface that went down isn't up
  goes_down : (j : IfaceId) → done_as (happens s e) ≡ Some (Accepted.Down j) → is_up t j.number ≡ false
  unfolding done
  goes_down j is =
      ap (λ (a : Answered). is_up a.state j.number)
      (step_taken s e (Accepted.Down j) is ∙ taken_is_done s e.draw (Accepted.Down j) refl)
      ∙ (same_up s (without j) e.draw j.number ∙ is_gone j)

  module _ (x : Join) (g down end : ℕ) (up : is_up t down ≡ true) (early : (t).present < end)
      (unpruned : prunes_it x g down (done_as (happens s e)) ≡ false) where
    isnt_back : (o : Option Accepted) → done_as (happens s e) ≡ o → takes_back (join_key x down g) end o ≡ false
    isnt_back None is = refl
    isnt_back (Some (Accepted.Advance m)) is =
        before end m (subst (λ (n : ℕ). n < end) (moves_on m is) early)
      where
        before : (a b : ℕ) → b < a → nat_le a b ≡ false
        before a b lt = grind (arith, nat_tests, lt)
    isnt_back (Some (Accepted.Down j)) is = go (j.number == down) refl
      where
        go : (b : Bool) → (j.number == down) ≡ b → b ≡ false
        go true at =
            let same : j.number ≡ down = grind (arith, common_steps, at) in
            absurd (both_ways (is_up t down) (ap (is_up t) (sym same) ∙ goes_down j is) up)
        go false at = refl
    isnt_back (Some (Accepted.JoinPruneToMe j m)) is = ap (prunes_it x g down) (sym is) ∙ unpruned
    isnt_back (Some a) is = refl

-- an event keeps what is held
keeps_it : (x : Join) (s : State) (e : Event) (down g end : ℕ) → IsSettled s → HoldsTree s (join_key x down g) (Some end)
    → takes_back (join_key x down g) end (done_as (happens s e)) ≡ false → HoldsTree (step s e).state (join_key x down g) (Some end)
keeps_it x s e down g end = grind (arith, event_keeps_star, event_keeps_source)

pub still_held : (x : Join) (s : State) (e : Event) (g down end : ℕ) → IsSettled s → HoldsTree s (join_key x down g) (Some end)
    → is_up (step s e).state down ≡ true → ((step s e).state).present < end
    → prunes_it x g down (done_as (happens s e)) ≡ false → HoldsTree (step s e).state (join_key x down g) (Some end)
still_held x s e g down end rests holds up early unpruned = grind (arith, keeps_it, isnt_back)

-- ---- a Join with the sources that it prunes

differ : false ≡ true → ⊥
differ e = cc e

-- no key of (S,G,rpt) is its own
no_tree : (x : Join) (i g n : ℕ) → same_key (join_key x i g) (rpt_key i g n) ≡ false
no_tree x i g n =
    false_from_ne_true (same_key (join_key x i g) (rpt_key i g n))
    (λ same. differ (ap (λ (k : Key). k.rpt) (equal_keys (join_key x i g) (rpt_key i g n) same)))

module _ (x : Join) (g i : ℕ) where
  abbrev named : List ℕ → List Named
  named ns = map (λ (y : Entry). (g, y)) (prunes_of ns)

  none_of_it : (ns : List ℕ) → is_named (map (named_key i) (filter is_used (named ns))) (join_key x i g) ≡ false
  unfolding is_named
  none_of_it [] = refl
  none_of_it (n ∷ ns) = grind (arith, none_of_it ns, no_tree)

-- ---- it is joined

or_true : (b : Bool) → (b || true) ≡ true
or_true b = grind arith

pub joined_so : (x : Join) (g : ℕ) → IsJoin x g → (s : State) (to down : ℕ) (prunes : List Entry) → IsRp x s g
    → joined_keys s down (join_value to g (entry_of x) prunes) ≡ join_key x down g ∷ []
unfolding joined_keys accepted_joins is_accepted
joined_so x g isg s to down prunes known = grind (arith, general_group, eq-eqb, or_true)

taken_so : (x : Join) (s : State) (e : Event) (i : IfaceId) (m : JoinPrune) (g : ℕ)
    → done_as (happens s e) ≡ Some (Accepted.JoinPruneToMe i m) → JoinsTree s (join_key x i.number g) m
    → HoldsTree (step s e).state (join_key x i.number g) (holdtime_end s m.holdtime)
taken_so x s e i m g is joins = grind (arith, star_join_is_taken, source_join_is_taken)

module _ (x : Join) (g : ℕ) (isg : IsJoin x g) (s : State) (from to down draw : ℕ) (pruned : List ℕ) (known : IsRp x s g)
    (hears : Hears s down from) (own : my_address s down ≡ to)
    (writable : IsWritable from to g (entry_of x) (prunes_of pruned)) where
  abbrev at : IfaceId
  at = record { number = down }

  abbrev value : JoinPrune
  value = join_value to g (entry_of x) (prunes_of pruned)

  abbrev pub join_event : Event
  join_event = record { draw = draw; kind = EventKind.Frame at (join_packet from to g (entry_of x) (prunes_of pruned)) }

  judged_so : judged s join_event.kind ≡ Ok (Accepted.JoinPruneToMe at value)
  judged_so = grind (arith, join_is_read)

  pruned_is : pruned_keys down value ≡ map (named_key down) (filter is_used (named x g down pruned))
  unfolding pruned_keys accepted_prunes
  pruned_is = ap (λ (ns : List Named). map (named_key down) (filter is_used ns)) (append-nil (named x g down pruned))

  joins_it : JoinsTree s (join_key x down g) value
  unfolding is_named
  joins_it = grind (arith, joined_so, same_key_same, pruned_is, none_of_it)

  module _ (room : is_full s (Accepted.JoinPruneToMe at value) ≡ false) where
    is_done : done_as (happens s join_event) ≡ Some (Accepted.JoinPruneToMe at value)
    is_done = done_if s join_event (Accepted.JoinPruneToMe at value) judged_so room

    ends_then : holdtime_end s (value).holdtime ≡ Some (s.present + 210000)
    unfolding holdtime_end_from
    ends_then = refl

    pub now_held : HoldsTree (step s join_event).state (join_key x down g) (Some (s.present + 210000))
    now_held =
        subst (λ (o : Option ℕ). HoldsTree (step s join_event).state (join_key x down g) o) ends_then
        (taken_so x s join_event at value g is_done joins_it)

    own_present : (to_me s down value).present ≡ s.present
    unfolding to_me keys_taken
    own_present = refl

    is_settled : (step s join_event).state ≡ (settled s (to_me s down value, []) draw).0
    unfolding done change
    is_settled =
        ap (λ (a : Answered). a.state)
        (step_taken s join_event (Accepted.JoinPruneToMe at value) is_done
        ∙ taken_is_done s draw (Accepted.JoinPruneToMe at value) refl)

    pub same_now : ((step s join_event).state).present ≡ s.present
    same_now = grind (arith, is_settled, settling_leaves, own_present)
