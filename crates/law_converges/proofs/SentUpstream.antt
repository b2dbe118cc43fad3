-- The machines say upstream what is due by the states before and after a change; a Join Timer and a Prune-Pending Timer by what they find.
use Rattle.std.{proofs.{Common.{Bool, List, None, Option, Some, [], ap, arith, cond, false, inl, inr, option_map, refl, subst, sym, true, ℕ, ◌++◌, ◌∙◌, ◌∷◌, ◌≡◌, ◌⊎◌}}, specs.{List.AllByRecursion, Option.option_map_or}}
use Rattle.pim_ip.{specs.{Addr.addr, declared.addr.Addr.Addr}}
use Rattle.pim_types.{specs.{Keys.{group_in, iface_in, is_star, source_in}, declared.{event.Event.Event, outcome.Emission.Emission, path.Hop.Hop, timer.TimerKind.TimerKind, upstream.{SourceView.SourceView, StarView.StarView}}}}
use Rattle.pim_wire.{specs.declared.join_prune.{Entry.Entry, EntryKind.EntryKind}}
use Rattle.pim_model.{specs.{Cause.done_as, Clearing.clear, Desires.{join_desired, join_desired_star, rpf_source, rpf_star}, Downstream.{entry_kind, prune_echo}, Firing.{fire_once, fired, settled}, Messages.{Message, entry}, Neighbours.{nbr}, State.{State, my_address}, Step.{Answered, Change, change, done, step}, Tables.{same_hop}, Timers.Ending, Unicast.{route, rp_of, rp_route, rpf_interface, rpf_interface_rp}, Upstream.{pruned_with_star, source_view, star_view}, Writing.emission_of, declared.accepted.Accepted.Accepted}}
use Rattle.law_settled.{proofs.ListLaws.{each_append, each_map, each_more, each_of_all}}
use Rattle.law_streams.{proofs.{Leaves.{same_star_view, taken_is_done}, Made.step_taken, Sources.same_source_view}, specs.{Copies.{IsLower, IsLowerInside, happens}, InTimeJoins.{Source, Star}, Joins.is_time, Uncounted.is_wanted}}
use Rattle.law_converges.{proofs.{SentJoins.of_kind, SentMessages.{HasOthers, IsGood, change_good, fired_good, is_plain, join_due_good, others, settled_says, source_good, star_good, to_hop, upstream_good}}, specs.SentUpstream.{EachMessageIsDue, EachMessageIsDueInTime, IsDue, IsDueMessage, IsDueToPrune, IsEcho, IsJoinDue, IsPruneDue}}

-- ---- entries

pruned_rpt : (s t u : State) (g : ℕ) (hop : Hop)
    → AllByRecursion (λ (x : Entry). IsDueToPrune s t g hop x.kind (x.address).bits) (pruned_with_star u g)
unfolding pruned_with_star
pruned_rpt s t u g hop =
    each_map (λ (src : ℕ). Unit {0}) (λ (x : Entry). IsDueToPrune s t g hop x.kind (x.address).bits) (entry EntryKind.SourceRpt) (λ src f. tt) _
    (each_of_all (λ (src : ℕ). Unit {0}) (λ src. tt) _)

rp_is : (o : Option ℕ) (rp : Addr) → option_map addr o ≡ Some rp → o ≡ Some rp.bits
rp_is None rp e = cc e
rp_is (Some n) rp e = rp_from (addr n) rp e
  where
    rp_from : (a b : Addr) → (let o : Option Addr = Some a in o) ≡ Some b → (let o : Option ℕ = Some a.bits in o) ≡ Some b.bits
    rp_from a b e = cc e

-- ---- by the views before and after a change

module _ (s t : State) (g : ℕ) where
  star_due : (v : StarView) → v ≡ star_view t g → (rp : Addr) (h : Hop) → v.is_desired ≡ true → v.rp ≡ Some rp → v.upstream ≡ Some h
      → IsJoinDue (Star rp.bits) t g h
  unfolding star_view
  star_due v is rp h on known up = record {
    wanted = sym (ap (λ (x : StarView). x.is_desired) is) ∙ on;
    rp_known = rp_is (rp_of t g) rp (sym (ap (λ (x : StarView). x.rp) is) ∙ known);
    upstream = sym (ap (λ (x : StarView). x.upstream) is) ∙ up;
  }

  star_gone : (v : StarView) → v ≡ star_view t g → (address : ℕ) (h : Hop) → (star_view s g).is_desired ≡ true → (star_view s g).upstream ≡ Some h
      → (v.is_desired ≡ false) ⊎ (same_hop (star_view s g).upstream v.upstream ≡ false) → IsPruneDue (Star address) s t g h
  unfolding star_view
  star_gone v is address h was up gone = record {
    wanted = was;
    upstream = up;
    gone = subst (λ (x : StarView). (x.is_desired ≡ false) ⊎ (same_hop (rpf_star s g) x.upstream ≡ false)) is gone;
  }

  source_due : (src : ℕ) (v : SourceView) → v ≡ source_view t g src → (h : Hop) → v.is_desired ≡ true → v.upstream ≡ Some h
      → IsJoinDue (Source src) t g h
  unfolding source_view
  source_due src v is h on up = record {
    wanted = sym (ap (λ (x : SourceView). x.is_desired) is) ∙ on;
    rp_known = tt;
    upstream = sym (ap (λ (x : SourceView). x.upstream) is) ∙ up;
  }

  source_gone : (src : ℕ) (v : SourceView) → v ≡ source_view t g src → (h : Hop) → (source_view s g src).is_desired ≡ true
      → (source_view s g src).upstream ≡ Some h
      → (v.is_desired ≡ false) ⊎ (same_hop (source_view s g src).upstream v.upstream ≡ false) → IsPruneDue (Source src) s t g h
  unfolding source_view
  source_gone src v is h was up gone = record {
    wanted = was;
    upstream = up;
    gone = subst (λ (x : SourceView). (x.is_desired ≡ false) ⊎ (same_hop (rpf_source s g src) x.upstream ≡ false)) is gone;
  }

-- ---- a change with what follows, where its own messages are good, and what is due is

module _ (Good : Message → Type 0) (plain : (m : Message) → is_plain m ≡ true → Good m) (s : State) (c : State × List Message) (w : ℕ)
    (due : (m : Message) → IsDue s (settled s c w).0 m → Good m) (own : AllByRecursion Good c.1) where
  abbrev a : State
  a = (clear s c.0).0

  abbrev t : State
  t = (settled s c w).0

  rpt_join : (h : Hop) (g src : ℕ) → Good (to_hop h g (entry EntryKind.SourceRpt src ∷ []) [])
  rpt_join h g src = due _ ((tt, tt), tt)

  rpt_prune : (h : Hop) (g src : ℕ) → Good (to_hop h g [] (entry EntryKind.SourceRpt src ∷ []))
  rpt_prune h g src = due _ (tt, (tt, tt))

  all_good : AllByRecursion (IsGood Good plain) (settled s c w).1
  all_good =
      settled_says Good plain s c w own
      (upstream_good Good plain rpt_join rpt_prune s a w
      (λ g. star_good Good plain a w g (star_view s g) (star_view a g)
      (λ rp h on is up. due _ ((star_due s t g (star_view a g) (same_star_view s c w g) rp h on is up, tt), pruned_rpt s t a g h))
      (λ rp h was up gone. due _ (tt, (star_gone s t g (star_view a g) (same_star_view s c w g) rp.bits h was up gone, tt))))
      (λ g src. source_good Good plain a w g src (source_view s g src) (source_view a g src)
      (λ h on up. due _ ((source_due s t g src (source_view a g src) (same_source_view g src s c w) h on up, tt), tt))
      (λ h was up gone. due _ (tt, (source_gone s t g src (source_view a g src) (same_source_view g src s c w) h was up gone, tt)))))

plain_due : (s t : State) (m : Message) → is_plain m ≡ true → IsDue s t m
plain_due s t m e = grind (arith, e)

-- ---- by an event

module _ (s : State) (e : Event) (a : Accepted) (was : done_as (happens s e) ≡ Some a) (timeless : is_time a ≡ false) where
  abbrev changed_so : State × List Message
  changed_so = ((change s e.draw a).state, (change s e.draw a).messages)

  abbrev Sent : State → Emission → Type 0
  Sent t x = IsDueMessage s t x ⊎ (IsLower s e x ⊎ IsLowerInside s e x)

  is_done : step s e ≡ done s e.draw (change s e.draw a)
  is_done = step_taken s e a was ∙ taken_is_done s e.draw a timeless

  messages : AllByRecursion (Sent (settled s changed_so e.draw).0) (settled s changed_so e.draw).1
  messages =
      let t : State = (settled s changed_so e.draw).0 in
      each_more (IsGood (IsDue s t) (plain_due s t)) (Sent t) (λ x f. inl (record { table = f.table; message = f.message; is = f.is; due = f.good }))
      (settled s changed_so e.draw).1
      (all_good (IsDue s t) (plain_due s t) s changed_so e.draw (λ m f. f) (change_good (IsDue s t) (plain_due s t) s e.draw a))

  others_too : (t : State) → HasOthers s e (change s e.draw a)
      → AllByRecursion (Sent t) (change s e.draw a).copies × AllByRecursion (Sent t) (change s e.draw a).registered
  others_too t f = (
    each_more (λ x. IsLower s e x ⊎ IsLowerInside s e x) (Sent t) (λ x h. inr h) (change s e.draw a).copies f.copies,
    each_more (λ x. IsLower s e x ⊎ IsLowerInside s e x) (Sent t) (λ x h. inr h) (change s e.draw a).registered f.registered,
  )

  event_sends : AllByRecursion (Sent (step s e).state) (step s e).emissions
  unfolding done
  event_sends =
      let t : State = (settled s changed_so e.draw).0 in
      let c : Change = change s e.draw a in
      let rest : AllByRecursion (Sent t) c.copies × AllByRecursion (Sent t) c.registered = others_too t (others s e a was) in
      subst (λ (x : Answered). AllByRecursion (Sent x.state) x.emissions) (sym is_done)
      (each_append (Sent t) ((settled s changed_so e.draw).1 ++ c.copies) c.registered
      (each_append (Sent t) (settled s changed_so e.draw).1 c.copies messages rest.0) rest.1)

pub each_message_is_due : EachMessageIsDue
each_message_is_due s e a was timeless = event_sends s e a was timeless

-- ---- by a timer

module _ (w : ℕ) (s : State) (e : Ending) (wanted : e.timer.kind ≡ TimerKind.Join → is_wanted s e.timer.key ≡ true) where
  abbrev opened : State
  opened = record s { present = e.end }

  abbrev fires : State × List Message
  fires = fired opened e.timer.kind e.timer.key

  abbrev after : State
  after = (settled s fires w).0

  record Echo (m : Message) : Type 0 where
    prunes : List Entry
    is : m ≡ Message.JoinPrune (iface_in e.timer.key) (my_address s (iface_in e.timer.key)) (group_in e.timer.key) [] prunes

  abbrev Due : Message → Type 0
  Due m = IsDue s after m ⊎ (IsDue s s m ⊎ ((e.timer.kind ≡ TimerKind.PrunePending) × Echo m))

  plain_so : (m : Message) → is_plain m ≡ true → Due m
  plain_so m f = inl (plain_due s after m f)

  same_star : (g : ℕ) → rpf_star opened g ≡ rpf_star s g
  unfolding rpf_star rpf_interface_rp rp_route route rp_of nbr
  same_star g = refl

  same_source : (g src : ℕ) → rpf_source opened g src ≡ rpf_source s g src
  unfolding rpf_source rpf_interface route nbr
  same_source g src = refl

  star_timer : (g : ℕ) → join_desired_star s g ≡ true → (rp : Addr) (h : Hop) → option_map addr (rp_of opened g) ≡ Some rp
      → rpf_star opened g ≡ Some h → IsJoinDue (Star rp.bits) s g h
  unfolding rp_of
  star_timer g on rp h is up = record { wanted = on; rp_known = rp_is _ rp is; upstream = sym (same_star g) ∙ up }

  source_timer : (g src : ℕ) → join_desired s g src ≡ true → (h : Hop) → rpf_source opened g src ≡ Some h → IsJoinDue (Source src) s g h
  source_timer g src on h up = record { wanted = on; rp_known = tt; upstream = sym (same_source g src) ∙ up }

  echoes : e.timer.kind ≡ TimerKind.PrunePending → AllByRecursion Due (prune_echo opened e.timer.key)
  unfolding prune_echo
  echoes pending =
      both (is_star e.timer.key) (rp_of opened (group_in e.timer.key)) echo
      (λ address. (inr (inr (pending, record { prunes = _; is = refl })), tt))
    where
      echo : ℕ → List Message
      echo address =
          Message.JoinPrune (iface_in e.timer.key) (my_address s (iface_in e.timer.key)) (group_in e.timer.key) []
          (entry (entry_kind e.timer.key) address ∷ []) ∷ []

      both : (b : Bool) (o : Option ℕ) (f : ℕ → List Message) → ((address : ℕ) → AllByRecursion Due (f address))
          → AllByRecursion Due (cond b (option_map_or f o []) (f (source_in e.timer.key)))
      both b o f g = grind arith

  own_due : AllByRecursion Due (fires).1
  own_due =
      fired_good Due plain_so (λ h g src. inl ((tt, tt), tt)) (λ h g src. inl (tt, (tt, tt))) opened e.timer.kind e.timer.key
      (λ join. join_due_good Due plain_so opened e.timer.key
      (λ star rp h is up. inr (inl (
        (star_timer (group_in e.timer.key) (of_kind s e.timer.key (wanted join) true star) rp h is up, tt),
        pruned_rpt s s opened (group_in e.timer.key) h,
      )))
      (λ source h up.
      inr (inl ((source_timer (group_in e.timer.key) (source_in e.timer.key) (of_kind s e.timer.key (wanted join) false source) h up, tt), tt))))
      echoes

  abbrev Says : Emission → Type 0
  Says x = IsDueMessage s after x ⊎ (IsDueMessage s s x ⊎ ((e.timer.kind ≡ TimerKind.PrunePending) × IsEcho s e.timer.key x))

  says : (x : Emission) → IsGood Due plain_so x → Says x
  says x f = go f.good
    where
      go : Due f.message → Says x
      go (inl d) = inl (record { table = f.table; message = f.message; is = f.is; due = d })
      go (inr (inl d)) = inr (inl (record { table = f.table; message = f.message; is = f.is; due = d }))
      go (inr (inr d)) =
          inr (inr (d.0, record { table = f.table; prunes = (d.1).prunes; is = f.is ∙ ap (λ m. emission_of f.table m) (d.1).is }))

  timer_sends : AllByRecursion Says (settled s fires w).1
  timer_sends =
      each_more (IsGood Due plain_so) Says says (settled s fires w).1
      (all_good Due plain_so s fires w (λ m f. inl f) own_due)

pub each_message_is_due_in_time : EachMessageIsDueInTime
unfolding fire_once
each_message_is_due_in_time w s e wanted = timer_sends w s e wanted
