-- Who isn't asked sends none, and what is sent came in on the one way in.
use Rattle.std.{proofs.Common.{◌≡◌, ◌∙◌, ℕ, ◌&&◌, ◌||◌, ◌==◌, not, Bool, true, false, cond, if◌then◌else◌, List, [], ◌⊎◌, inl, inr, Option, Some, None, Result, Ok, Err, length, nat_le, nat_lt, refl, sym, ap, subst, arith, eqb-true, eq-eqb}, specs.{List.Contains, Prelude.{option_and_then, option_map}}}
use Rattle.pim_ip.{specs.{Ipv4.{Packet, frame_limit, ipv4_reading, is_link_local, is_multicast, protocol_igmp, protocol_pim, all_pim_routers}, declared.refusal.Refusal.Refusal}}
use Rattle.pim_types.{specs.{Keys.source_key, declared.{config.IfaceId.IfaceId, event.{Event.Event, EventKind.EventKind}, outcome.{Ignored.Ignored, Verdict.Verdict}, path.Path.Path}}}
use Rattle.pim_wire.{specs.{Messages.pim_reading, Values.{Encapsulated, Register}, declared.view.PimView.PimView}}
use Rattle.igmp_wire.{specs.{Messages.igmp_reading, declared.view.IgmpView.IgmpView}}
use Rattle.pim_model.{specs.{declared.accepted.Accepted.Accepted, Cause.{done_as, if_done, packet_in}, Desires.join_desired, Forwarding.{Forwarded, forwarded, is_spt_reached, list_chosen, no_interface, register_at_rp, register_received, register_stop_to, source_here, source_joined, spt_updated, stray, watched}, Judging.{Judged, advance_judged, assert_judged, candidates_judged, data_judged, down_judged, frame_judged, hello_judged, igmp_judged, igmp_message_judged, ignore_if, join_prune_judged, judged, of_read, packet_judged, pim_judged, pim_message_judged, pim_to_me_judged, refuse_if, register_judged, register_stop_judged, routes_judged, rps_judged, unicast_judged, unicast_packet_judged, up_judged, ◌>>◌}, Neighbours.is_dr, Receivers.{is_exclude, local_receiver_include}, Registers.{settle_register, with_keepalive}, Sets.{inherited_olist, inherited_olist_rpt, is_beaten, joins, joins_star, lost_assert, lost_assert_rpt, lost_assert_star, pim_exclude, pim_include, pim_include_star, prunes, serves, serves_star, spt_bit, spt_metric, tunnel}, State.{State, iface_count, is_own, is_up}, Step.{change, step}, Tables.same_option, Unicast.{is_connected, is_rp, is_rpf_interface, is_rpf_interface_rp, route, route_among, rp_of, rp_route, rpf_interface, rpf_interface_rp}, Writing.on_link}}
use Rattle.law_settled.{proofs.ListLaws.by_cond}
use Rattle.law_streams.{specs.{Copies.{copies_at, happens}, Served.renewed}, proofs.Made.{forwarded_configured, register_configured}}
use Rattle.law_converges.{specs.SilentRouters.{IsOffSourceTree, IsOnlyWayIn, OnlyWayInIsTaken, UnaskedSendsNone, is_asked_on}, proofs.NoCopy.{kept, no_copy, renewed_kept, with_kept}}

-- ---- what brings a packet

-- data, or a Register
record IsData (o : Option Accepted) (p : Packet) : Type 0 where
  iface : IfaceId
  is : o ≡ Some (Accepted.Data iface p)

record IsInside (o : Option Accepted) (p : Packet) : Type 0 where
  outer : Packet
  is : o ≡ Some (Accepted.Register outer (Encapsulated p))

some_same : (q p : Packet) → (let o : Option Packet = Some q in o) ≡ Some p → q ≡ p
some_same q p e = cc e

comes_so : (o : Option Accepted) (p : Packet) → packet_in o ≡ Some p → IsData o p ⊎ IsInside o p
comes_so None p e = absurd (cc e)
comes_so (Some (Accepted.Data i q)) p e =
    inl (record { iface = i; is = ap (λ (x : Packet). Some (Accepted.Data i x)) (some_same q p e) })
comes_so (Some (Accepted.Register outer (Encapsulated q))) p e =
    inr (record { outer = outer; is = ap (λ (x : Packet). Some (Accepted.Register outer (Encapsulated x))) (some_same q p e) })
comes_so (Some a) p e = absurd (grind (arith, e))

-- ---- the facts that a packet renews leave who is asked

module _ (s t : State) (same : kept t ≡ kept s) (g src j : ℕ) where
  asked_same : is_asked_on t g src j ≡ is_asked_on s g src j
  unfolding joins_star joins pim_include_star pim_include serves_star serves is_dr lost_assert_star lost_assert rpf_interface rpf_interface_rp rp_route rp_of route is_beaten spt_metric is_exclude local_receiver_include
  asked_same = λ x. is_asked_on (with_kept s (same x)) g src j

-- ---- the lists

module _ (t : State) (g src j : ℕ) (unasked : is_asked_on t g src j ≡ false) where
  off_rpt : (js is j i p q l k : Bool) → ((js || is) || ((j || i) && not l)) ≡ false → (((j && not p) || (i && not q)) && not (l || k)) ≡ false
  off_rpt js is j i p q l k e = grind (arith, e)

  off_all : (js is x y l : Bool) → ((js || is) || y) ≡ false → x ≡ false → (((x || js) || is) && not l) ≡ false
  off_all js is x y l e f = grind (arith, e, f)

  rpt_off : inherited_olist_rpt t g src j ≡ false
  unfolding inherited_olist_rpt
  rpt_off =
      off_rpt (joins t g src j) (pim_include t g src j) (joins_star t g j) (pim_include_star t g j) (prunes t g src j) (pim_exclude t g src j)
      (lost_assert_star t g j) (lost_assert_rpt t g src j) unasked

  source_off : inherited_olist t g src j ≡ false
  unfolding inherited_olist
  source_off =
      off_all (joins t g src j) (pim_include t g src j) (inherited_olist_rpt t g src j)
      ((joins_star t g j || pim_include_star t g j) && not (lost_assert_star t g j)) (lost_assert t g src j) unasked rpt_off

  abbrev Without : Forwarded → Type 0
  Without f = f.list j ≡ false

  chosen_off : (iif : ℕ) → Without (list_chosen t g src iif)
  unfolding list_chosen stray
  chosen_off iif =
      by_cond Without (is_rpf_interface t src iif && spt_bit t g src) _ _ source_off
      (by_cond Without (is_rpf_interface_rp t g iif && not (spt_bit t g src)) _ _ rpt_off refl)

  register_off : (p : Packet) (null : Bool) → Without (register_received t p g src null)
  unfolding register_received register_at_rp
  register_off p null =
      by_cond Without (is_rp t g p.destination) _ _
      (by_cond (λ (l : ℕ → Bool). l j ≡ false) (spt_bit t g src || null) no_interface (inherited_olist_rpt t g src) refl rpt_off) refl

module _ (s : State) (e : Event) (p : Packet) (j : ℕ) (text : List ℕ) (unasked : is_asked_on s p.destination p.source j ≡ false)
    (c : Contains (copies_at s e) (on_link j text)) where
  no_data : IsData (done_as (happens s e)) p → ⊥
  unfolding change forwarded renewed
  no_data d =
      let iif : ℕ = (d.iface).number in
      no_copy s e (Accepted.Data d.iface p) p (forwarded s p.destination p.source iif) j d.is refl refl
      (forwarded_configured s p.destination p.source iif)
      (ap (λ (b : Bool). b && not (j == iif))
      (chosen_off (renewed s p.destination p.source iif) p.destination p.source j
      (asked_same s (renewed s p.destination p.source iif) (renewed_kept s p.destination p.source iif) p.destination p.source j ∙ unasked) iif))
      text c

  no_register : IsInside (done_as (happens s e)) p → ⊥
  unfolding change
  no_register d =
      no_copy s e (Accepted.Register d.outer (Encapsulated p)) p (register_received s d.outer p.destination p.source false) j d.is refl refl
      (register_configured s d.outer p.destination p.source false)
      (register_off s p.destination p.source j unasked d.outer false) text c

pub unasked_sends_none : UnaskedSendsNone
unasked_sends_none s e p j text brought unasked c = go (comes_so (done_as (happens s e)) p brought)
  where
    go : IsData (done_as (happens s e)) p ⊎ IsInside (done_as (happens s e)) p → ⊥
    go (inl d) = no_data s e p j text unasked c d
    go (inr d) = no_register s e p j text unasked c d

-- ---- another way in

same_number : (o : Option ℕ) (a b : ℕ) → same_option o (Some a) ≡ true → same_option o (Some b) ≡ true → a ≡ b
same_number None a b e f = cc e
same_number (Some x) a b e f = sym (eqb-true x a e) ∙ eqb-true x b f

another_off : (o : Option ℕ) (a b : ℕ) → same_option o (Some a) ≡ true → (b == a) ≡ false → same_option o (Some b) ≡ false
another_off o a b e off = go (same_option o (Some b)) refl
  where
    contradicts : (x : Bool) → x ≡ true → x ≡ false → ⊥
    contradicts x f h = cc (sym f ∙ h)

    go : (x : Bool) → same_option o (Some b) ≡ x → x ≡ false
    go false is = refl
    go true is = absurd (contradicts (b == a) (eq-eqb b a (same_number o b a is e)) off)

-- a packet that came on another interface
module _ (s : State) (g src up iif : ℕ) (only : IsOnlyWayIn g src up s) (off : (iif == up) ≡ false) where
  abbrev t : State
  t = renewed s g src iif

  abbrev same : kept t ≡ kept s
  same = renewed_kept s g src iif

  to_rp_same : is_rpf_interface_rp t g iif ≡ is_rpf_interface_rp s g iif
  unfolding rpf_interface_rp rp_route rp_of route
  to_rp_same =
      λ x. is_rpf_interface_rp (with_kept s (same x)) g iif

  to_source_same : is_rpf_interface t src iif ≡ is_rpf_interface s src iif
  unfolding rpf_interface route
  to_source_same =
      λ x. is_rpf_interface (with_kept s (same x)) src iif

  rp_off : is_rpf_interface_rp t g iif ≡ false
  rp_off = to_rp_same ∙ another_off (rpf_interface_rp s g) up iif only.to_rp off

  and_off : (a b : Bool) → a ≡ false → (a && b) ≡ false
  and_off a b e = grind arith

  and_off_last : (a b : Bool) → b ≡ false → (a && b) ≡ false
  and_off_last a b e = grind arith

  here_same : is_connected s src ≡ false → source_here s g src iif ≡ s
  unfolding source_here
  here_same e = ap (λ (b : Bool). if b && is_rpf_interface s src iif then settle_register (with_keepalive s g src) (source_key 0 g src) else s) e

  joined_same : join_desired s g src ≡ false → source_joined s g src iif ≡ s
  unfolding source_joined
  joined_same e = grind (arith, e)

  updated_same : join_desired s g src ≡ false → spt_updated s g src iif ≡ s
  unfolding spt_updated is_spt_reached
  updated_same e = grind (arith, e)

  renewed_same : IsOffSourceTree g src s → renewed s g src iif ≡ s
  unfolding renewed
  renewed_same f =
      ap (λ (u : State). spt_updated (source_joined u g src iif) g src iif) (here_same f.far)
      ∙ (ap (λ (u : State). spt_updated u g src iif) (joined_same f.unwanted) ∙ updated_same f.unwanted)

  way_off : ((i : ℕ) → is_rpf_interface s src i ≡ true → i ≡ up) → is_rpf_interface s src iif ≡ false
  way_off none = go (is_rpf_interface s src iif) refl
    where
      contradicts : (b : Bool) → b ≡ true → b ≡ false → ⊥
      contradicts b e f = cc (sym e ∙ f)

      go : (b : Bool) → is_rpf_interface s src iif ≡ b → b ≡ false
      go false is = refl
      go true is = absurd (contradicts (iif == up) (eq-eqb iif up (none iif is)) off)

  source_unset : (is_rpf_interface t src iif && spt_bit t g src) ≡ false
  source_unset = go only.to_source
    where
      go : ((i : ℕ) → is_rpf_interface s src i ≡ true → i ≡ up) ⊎ IsOffSourceTree g src s
          → (is_rpf_interface t src iif && spt_bit t g src) ≡ false
      go (inl none) = and_off _ (spt_bit t g src) (to_source_same ∙ way_off none)
      go (inr f) = and_off_last (is_rpf_interface t src iif) _ (ap (λ (u : State). spt_bit u g src) (renewed_same f) ∙ f.unset)

  not_chosen : (j : ℕ) → (list_chosen t g src iif).list j ≡ false
  unfolding list_chosen stray
  not_chosen j =
      subst (λ (b : Bool). (cond b (record { state = t; messages = []; list = inherited_olist t g src; to_tunnel = tunnel t g src })
      (cond (is_rpf_interface_rp t g iif && not (spt_bit t g src))
      (record { state = watched t g src; messages = []; list = inherited_olist_rpt t g src; to_tunnel = false }) (stray t g src iif))).list j ≡ false)
      (sym source_unset)
      (subst (λ (b : Bool). (cond b
      (record { state = watched t g src; messages = []; list = inherited_olist_rpt t g src; to_tunnel = false }) (stray t g src iif)).list j ≡ false)
      (sym (and_off _ (not (spt_bit t g src)) rp_off)) refl)

-- ---- where data comes, and a Register

-- a frame on the interface
abbrev pub is_frame_on : ℕ → EventKind → Bool
is_frame_on i (EventKind.Frame j bytes) = j.number == i
is_frame_on i kind = false

module _ (s : State) (kind : EventKind) where
  -- data of another interface, or a Register to another address
  abbrev is_astray : Judged → Bool
  is_astray (Ok (Accepted.Data i p)) = not (is_frame_on i.number kind)
  is_astray (Ok (Accepted.Register q r)) = not (is_own s q.destination)
  is_astray o = false

  ignored : (b : Bool) (reason : Ignored) (next : Judged) → is_astray next ≡ false → is_astray (ignore_if b reason >> next) ≡ false
  ignored true reason next e = refl
  ignored false reason next e = e

  refused : (b : Bool) (refusal : Refusal) (next : Judged) → is_astray next ≡ false → is_astray (refuse_if b refusal >> next) ≡ false
  refused true refusal next e = refl
  refused false refusal next e = e

  read_so : {A : Type 0} (r : Result A Refusal) (next : A → Judged) → ((a : A) → is_astray (next a) ≡ false)
      → is_astray (of_read r next) ≡ false
  read_so (Ok a) next f = f a
  read_so (Err refusal) next f = refl

  chosen : (b : Bool) (x y : Judged) → is_astray x ≡ false → is_astray y ≡ false → is_astray (cond b x y) ≡ false
  chosen true x y e f = e
  chosen false x y e f = f

  pim_so : (i : IfaceId) (from : ℕ) (m : PimView) → is_astray (pim_judged s i from m) ≡ false
  unfolding pim_judged hello_judged join_prune_judged assert_judged
  pim_so i from m = grind (arith, ignored)

  igmp_so : (i : IfaceId) (p : Packet) (m : IgmpView) → is_astray (igmp_judged s i p m) ≡ false
  unfolding igmp_judged
  igmp_so i p m = grind (arith, ignored)

  packet_so : (i : IfaceId) (p : Packet) → is_frame_on i.number kind ≡ true → is_astray (packet_judged s i p) ≡ false
  unfolding packet_judged pim_message_judged igmp_message_judged data_judged
  packet_so i p here =
      chosen ((p.protocol == protocol_pim) && (p.destination == all_pim_routers)) _ _
      (read_so (pim_reading p.payload) _ (λ m. ignored (is_own s p.source) Ignored.Own (pim_judged s i p.source m) (pim_so i p.source m)))
      (chosen (p.protocol == protocol_igmp) _ _ (read_so (igmp_reading p.payload) (igmp_judged s i p) (igmp_so i p))
      (ignored (is_own s p.source) Ignored.Own
      (ignore_if (not (is_multicast p.destination)) Ignored.NotForMe
      >> (ignore_if (is_link_local p.destination) Ignored.LinkLocal >> Ok (Accepted.Data i p)))
      (ignored (not (is_multicast p.destination)) Ignored.NotForMe
      (ignore_if (is_link_local p.destination) Ignored.LinkLocal >> Ok (Accepted.Data i p))
      (ignored (is_link_local p.destination) Ignored.LinkLocal (Ok (Accepted.Data i p)) (ap not here)))))

  to_me_so : (p : Packet) (m : PimView) (b : Bool) → not (is_own s p.destination) ≡ b
      → is_astray (ignore_if b Ignored.NotForMe >> pim_to_me_judged s p m) ≡ false
  unfolding pim_to_me_judged register_judged register_stop_judged
  to_me_so p m true is = refl
  to_me_so p m false is = grind (arith, is, ignored)

  unicast_so : (p : Packet) → is_astray (unicast_packet_judged s p) ≡ false
  unfolding unicast_packet_judged
  unicast_so p =
      chosen (p.protocol == protocol_pim) _ _ (read_so (pim_reading p.payload) _ (λ m. to_me_so p m (not (is_own s p.destination)) refl)) refl

none_astray : (s : State) (kind : EventKind) → is_astray s kind (judged s kind) ≡ false
unfolding judged frame_judged unicast_judged advance_judged up_judged down_judged routes_judged rps_judged candidates_judged
none_astray s (EventKind.Frame i bytes) =
    refused s (EventKind.Frame i bytes) (nat_le (iface_count s) i.number) Refusal.NoInterface
    (refuse_if (not (is_up s i.number)) Refusal.InterfaceDown
    >> (refuse_if (nat_lt frame_limit (length bytes)) Refusal.BadLength >> of_read (ipv4_reading bytes) (packet_judged s i)))
    (refused s (EventKind.Frame i bytes) (not (is_up s i.number)) Refusal.InterfaceDown
    (refuse_if (nat_lt frame_limit (length bytes)) Refusal.BadLength >> of_read (ipv4_reading bytes) (packet_judged s i))
    (refused s (EventKind.Frame i bytes) (nat_lt frame_limit (length bytes)) Refusal.BadLength (of_read (ipv4_reading bytes) (packet_judged s i))
    (read_so s (EventKind.Frame i bytes) (ipv4_reading bytes) (packet_judged s i)
    (λ p. packet_so s (EventKind.Frame i bytes) i p (eq-eqb i.number i.number refl)))))
none_astray s (EventKind.Unicast bytes) =
    read_so s (EventKind.Unicast bytes) (ipv4_reading bytes) (unicast_packet_judged s) (unicast_so s (EventKind.Unicast bytes))
none_astray s kind = grind (arith, ignored, refused)

was_judged : (answer : Result Verdict Refusal) (j : Judged) (a : Accepted) → if_done answer j ≡ Some a → j ≡ Ok a
was_judged answer j a e = grind arith

module _ (s : State) where
  not_not : (b : Bool) → not b ≡ false → b ≡ true
  not_not b f = grind arith

  done_so : (e : Event) (a : Accepted) → done_as (happens s e) ≡ Some a → is_astray s e.kind (Ok a) ≡ false
  unfolding done_as
  done_so e a was =
      ap (is_astray s e.kind) (sym (was_judged (step s e).answer (judged s e.kind) a was)) ∙ none_astray s e.kind

  own_so : (e : Event) (q : Packet) (r : Register) → done_as (happens s e) ≡ Some (Accepted.Register q r) → is_own s q.destination ≡ true
  own_so e q r was = not_not (is_own s q.destination) (done_so e (Accepted.Register q r) was)

  -- data came in a frame on its interface
  pub frame_so : (e : Event) (i : IfaceId) (p : Packet) → done_as (happens s e) ≡ Some (Accepted.Data i p) → is_frame_on i.number e.kind ≡ true
  frame_so e i p was = not_not (is_frame_on i.number e.kind) (done_so e (Accepted.Data i p) was)

  -- the RP has no way to itself
  not_at_rp : (g up rp : ℕ) → is_rpf_interface_rp s g up ≡ true → is_rp s g rp ≡ true → is_own s rp ≡ true → ⊥
  unfolding rpf_interface_rp rp_route route route_among
  not_at_rp g up rp to_rp is own = go (rp_of s g) refl is
    where
      none : is_own s rp ≡ true → same_option (option_map (λ (p : Path). p.iface.number) (route s rp)) (Some up) ≡ true → ⊥
      none own f = grind (arith, own, f)

      go : (o : Option ℕ) → rp_of s g ≡ o → same_option o (Some rp) ≡ true → ⊥
      go None known e = cc e
      go (Some a) known e =
          none own (subst (λ (x : ℕ). same_option (option_map (λ (p : Path). p.iface.number) (route s x)) (Some up) ≡ true) (eqb-true a rp e)
          (subst (λ (o : Option ℕ). same_option (option_map (λ (p : Path). p.iface.number) (option_and_then (route s) o)) (Some up) ≡ true) known to_rp))

-- ---- what is sent came in there

module _ (s : State) (e : Event) (p : Packet) (up j : ℕ) (text : List ℕ) (only : IsOnlyWayIn p.destination p.source up s)
    (c : Contains (copies_at s e) (on_link j text)) where
  abbrev Came : Type 0
  Came = done_as (happens s e) ≡ Some (Accepted.Data (record { number = up }) p)

  none_elsewhere : (d : IsData (done_as (happens s e)) p) → ((d.iface).number == up) ≡ false → ⊥
  unfolding change forwarded renewed
  none_elsewhere d off =
      let iif : ℕ = (d.iface).number in
      no_copy s e (Accepted.Data d.iface p) p (forwarded s p.destination p.source iif) j d.is refl refl
      (forwarded_configured s p.destination p.source iif)
      (ap (λ (b : Bool). b && not (j == iif)) (not_chosen s p.destination p.source up iif only off j)) text c

  by_data : IsData (done_as (happens s e)) p → Came
  by_data d = go ((d.iface).number == up) refl
    where
      go : (b : Bool) → ((d.iface).number == up) ≡ b → Came
      go true same =
          d.is ∙ ap (λ (k : ℕ). Some (Accepted.Data (record { number = k }) p)) (eqb-true (d.iface).number up same)
      go false off = absurd (none_elsewhere d off)

  none_inside : IsInside (done_as (happens s e)) p → ⊥
  unfolding change register_received
  none_inside d = go (is_rp s p.destination (d.outer).destination) refl
    where
      go : (b : Bool) → is_rp s p.destination (d.outer).destination ≡ b → ⊥
      go true is =
          not_at_rp s p.destination up (d.outer).destination only.to_rp is (own_so s e d.outer (Encapsulated p) d.is)
      go false is =
          no_copy s e (Accepted.Register d.outer (Encapsulated p)) p (register_received s d.outer p.destination p.source false) j d.is refl refl
          (register_configured s d.outer p.destination p.source false)
          (ap (λ (b : Bool). (cond b (register_at_rp s d.outer p.destination p.source false) (record {
            state = s;
            messages = register_stop_to d.outer p.destination p.source;
            list = no_interface;
            to_tunnel = false;
          })).list j) is) text c

pub only_way_in_is_taken : OnlyWayInIsTaken
only_way_in_is_taken s e p up j text brought only c = go (comes_so (done_as (happens s e)) p brought)
  where
    go : IsData (done_as (happens s e)) p ⊎ IsInside (done_as (happens s e)) p → done_as (happens s e) ≡ Some (Accepted.Data (record { number = up }) p)
    go (inl d) = by_data s e p up j text only c d
    go (inr d) = absurd (none_inside s e p up j text only c d)
