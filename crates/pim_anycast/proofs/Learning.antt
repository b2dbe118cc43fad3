-- A router that is sent a Register by another of its set knows the source then.
use Rattle.std.{proofs.Common.{◌≡◌, ◌∙◌, ℕ, ◌+◌, ◌&&◌, ◌==◌, Bool, true, false, cond, List, [], ◌∷◌, Option, Some, None, option_and_then, Ok, refl, sym, ap, subst, eqb-true, eq-eqb}, specs.List.find}
use Rattle.pim_ip.{specs.Ipv4.{Packet, is_link_local}}
use Rattle.pim_types.{specs.declared.{event.{Event.Event, EventKind.EventKind}, outcome.Ignored.Ignored}}
use Rattle.pim_wire.{specs.RegisterParts.{registered_group, registered_source}}
use Rattle.pim_model.{specs.{declared.accepted.Accepted.Accepted, Cause.done_as, Full.{is_full, source_is_full}, Judging.{Judged, ignore_if, judged, register_judged, ◌>>◌}, Registers.keepalive_period, State.State, Step.step, Tables.same_option, Unicast.{is_rp, rp_among, rp_of}}}
use Rattle.law_streams.{specs.Copies.happens, proofs.Passes.done_if}
use Rattle.pim_anycast.{specs.{Joined.{event_given, joined_step, kind_given}, Laws.{counted_packet, sent_text}, Members.{CanLearn, IsRegisterOf, KnowsUntil, MemberLearns}, Sets.{set_for, set_sharing}, declared.set.RpSet.RpSet}, proofs.{Alive.register_is_known, Taken.copy_is_taken}}

-- the set that is found shares the address that was looked for
found : (sets : List RpSet) (rp : ℕ) (to : RpSet) → find (λ (set : RpSet). set.shared.bits == rp) sets ≡ Some to
    → (rp == to.shared.bits) ≡ true
found [] rp to e = cc e
found (set ∷ sets) rp to e = go (set.shared.bits == rp) refl (found sets rp to) e
  where
    go : (b : Bool) → (set.shared.bits == rp) ≡ b
        → (find (λ (set : RpSet). set.shared.bits == rp) sets ≡ Some to → (rp == to.shared.bits) ≡ true)
        → cond b (Some set) (find (λ (set : RpSet). set.shared.bits == rp) sets) ≡ Some to → (rp == to.shared.bits) ≡ true
    go true is later e =
        let same : set ≡ to = cc in
        eq-eqb rp to.shared.bits (sym (eqb-true set.shared.bits rp is) ∙ ap (λ (x : RpSet). x.shared.bits) same)
    go false is later e = later e

rp_shared : (sets : List RpSet) (s : State) (g : ℕ) (to : RpSet) → set_for sets s.ranges g ≡ Some to → is_rp s g to.shared.bits ≡ true
unfolding set_for set_sharing rp_of
rp_shared sets s g to e = go (rp_among s.ranges g) e
  where
    go : (o : Option ℕ) → option_and_then (λ (rp : ℕ). find (λ (set : RpSet). set.shared.bits == rp) sets) o ≡ Some to
        → same_option o (Some to.shared.bits) ≡ true
    go None e = cc e
    go (Some rp) e = found sets rp to e

module _ (sets : List RpSet) (t : State) (from to : RpSet) (g src time_to_live draw : ℕ) (message : List ℕ)
    (f : CanLearn sets t from to g src) (m : IsRegisterOf message g src) where
  abbrev e : Event
  e = record { draw = draw; kind = EventKind.Unicast (sent_text from to time_to_live message) }

  abbrev p : Packet
  p = counted_packet from to time_to_live message

  abbrev told : Event
  told = event_given sets t e

  abbrev a : Accepted
  a = Accepted.Register p m.register

  for_it : set_for sets t.ranges (registered_group m.register) ≡ Some to
  for_it = ap (set_for sets t.ranges) m.group ∙ f.for_it

  passes : (b : Bool) → b ≡ false → (let j : Judged = ignore_if b Ignored.LinkLocal >> Ok a in j) ≡ Ok a
  passes true e = cc e
  passes false e = refl

  judged_is : judged t (told).kind ≡ Ok a
  unfolding judged event_given kind_given register_judged
  judged_is =
      copy_is_taken sets t from to time_to_live message m.register f.together m.reads for_it m.fits
      ∙ passes (is_link_local (registered_group m.register)) (ap is_link_local m.group ∙ f.forwarded)

  has_room : is_full t a ≡ false
  unfolding is_full
  has_room =
      let room : source_is_full t (registered_group m.register) (registered_source m.register) ≡ false =
      rw (m.group, m.source) f.room in
      both (is_rp t (registered_group m.register) to.shared.bits) _ room
    where
      both : (b c : Bool) → c ≡ false → (b && c) ≡ false
      both true c e = e
      both false c e = refl

  came : done_as (happens t told) ≡ Some a
  came = done_if t told a judged_is has_room

  known : KnowsUntil (t.present + keepalive_period) (step t told).state (registered_group m.register) (registered_source m.register)
  known = register_is_known t told p m.register came (rp_shared sets t (registered_group m.register) to for_it) f.wanted

  pub learns : KnowsUntil (t.present + keepalive_period) (joined_step sets t e).1 g src
  unfolding joined_step
  learns =
      subst (λ (h : ℕ). KnowsUntil (t.present + keepalive_period) (step t told).state h src) m.group
      (subst (λ (x : ℕ). KnowsUntil (t.present + keepalive_period) (step t told).state (registered_group m.register) x) m.source known)

pub member_learns : MemberLearns
member_learns sets t from to g src time_to_live draw message f m = learns sets t from to g src time_to_live draw message f m
