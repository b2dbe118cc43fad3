-- An event puts at most one copy of a packet on a link on which its router has one interface.
use Rattle.std.{proofs.{Common.{◌≡◌, ◌∙◌, ℕ, zero, suc, ◌+◌, ◌<◌, ◌≤◌, ◌==◌, true, false, List, [], ◌∷◌, ◌++◌, length, map, Option, Some, None, Ok, refl, sym, ap, subst, arith}}, specs.{List.{AllByRecursion, Sorted.IsStrictlySortedBy}, Ordering.nat_cmp, Prelude.slice_get, declared.cmp.Ordering.Ordering}}
use Rattle.pim_ip.{specs.{Ipv4.{Packet, all_pim_routers, copy_text, header_text, igmp_packet_text, ipv4_reading, is_link_local, packet_of, pim_packet_text, protocol_igmp}, Checksum.with_checksum, View.copied}}
use Rattle.pim_types.{specs.declared.{event.Event.Event, outcome.Emission.Emission}}
use Rattle.pim_model.{specs.{Cause.{done_as, packet_in}, Messages.Message, Network.{Move, Network, Sent, Station, event_of, frame_at, moved, sent_by, station_at, stepped}, State.{InterfaceTable}, Step.step, Writing.{emission_of, hello_emission, on_link, pim_on_link, pim_to}}}
use Rattle.law_settled.{proofs.{ListLaws.{each_append, each_more}, ReadPackets.packet_is}}
use Rattle.law_streams.{specs.{Copies.happens, Data.IsMessage}, proofs.{Forwards.copy_reads_lower, Links.on_each, Made.{IsRegister, Made, step_made}, Pairs.same_station}}
use Rattle.law_converges.{specs.ComesOnce.{HasOneOn, IsCopied}, proofs.TakesOver.moved_so}

-- ---- lists

some_same : {A : Type 0} {x y : A} → (let o : Option A = Some x in o) ≡ Some y → x ≡ y
some_same e = cc e

-- what is behind a list's first part
pub record Behind {A : Type 0} (xs ys : List A) (i : ℕ) (x : A) : Type 0 where
  pub place : ℕ
  pub is : i ≡ length xs + place
  pub got : slice_get ys place ≡ Some x

pub behind : {A : Type 0} (xs ys : List A) (i : ℕ) (x : A) → length xs ≤ i → slice_get (xs ++ ys) i ≡ Some x → Behind xs ys i x
behind [] ys i x le got = record { place = i; is = omega arith; got = got }
behind (z ∷ zs) ys zero x le got = absurd (omega (arith, le))
behind (z ∷ zs) ys (suc i) x le got =
    let b : Behind zs ys i x = behind zs ys i x (omega (arith, le)) got in
    record { place = b.place; is = (let e = b.is in omega (arith, e)); got = b.got }

module _ (links : List ℕ) (f : Sent) where
  -- none of these is sent as the frame
  abbrev Others : List Emission → Type 0
  Others xs = AllByRecursion (λ (x : Emission). sent_by links x ≡ f → ⊥) xs

  abbrev Got : List Emission → ℕ → Type 0
  Got xs i = slice_get (map (sent_by links) xs) i ≡ Some f

  none_there : (xs : List Emission) → Others xs → (i : ℕ) → Got xs i → ⊥
  none_there [] o i e = cc e
  none_there (x ∷ xs) o zero e = o.0 (some_same e)
  none_there (x ∷ xs) o (suc i) e = none_there xs o.1 i e

  abbrev AtMostOne : List Emission → Type 0
  AtMostOne xs = (i j : ℕ) → Got xs i → Got xs j → i ≡ j

  after_others : (xs ys : List Emission) → Others xs → AtMostOne ys → AtMostOne (xs ++ ys)
  after_others [] ys o one i j e g = one i j e g
  after_others (x ∷ xs) ys o one zero j e g = absurd (o.0 (some_same e))
  after_others (x ∷ xs) ys o one (suc i) zero e g = absurd (o.0 (some_same g))
  after_others (x ∷ xs) ys o one (suc i) (suc j) e g = ap suc (after_others xs ys o.1 one i j e g)

  module _ (text : List ℕ) (down : ℕ) (single : (i : ℕ) → slice_get links i ≡ f.link → i ≡ down) where
    its_link : (k : ℕ) → sent_by links (on_link k text) ≡ f → k ≡ down
    its_link k e = single k (ap (λ (x : Sent). x.link) e)

    rises : (k : ℕ) → nat_cmp k k ≡ Ordering.Less → ⊥
    rises k e = grind (arith, nat_cmp, e)

    -- greater numbers aren't of the link
    greater : (k : ℕ) → k ≡ down → (is : List ℕ) → AllByRecursion (λ y. nat_cmp k y ≡ Ordering.Less) is → Others (on_each text is)
    greater k at [] rise = tt
    greater k at (y ∷ is) rise = (
      λ e. rises k (subst (λ (z : ℕ). nat_cmp k z ≡ Ordering.Less) (its_link y e ∙ sym at) rise.0),
      greater k at is rise.1,
    )

    one_of_each : (is : List ℕ) (zs : List Emission) → IsStrictlySortedBy nat_cmp is → Others zs → AtMostOne (on_each text is ++ zs)
    unfolding IsStrictlySortedBy
    one_of_each [] zs rise o i j e g = absurd (none_there zs o i e)
    one_of_each (k ∷ is) zs rise o zero zero e g = refl
    one_of_each (k ∷ is) zs rise o zero (suc j) e g =
        absurd (none_there (on_each text is ++ zs)
        (each_append (λ (x : Emission). sent_by links x ≡ f → ⊥) (on_each text is) zs (greater k (its_link k (some_same e)) is rise.0) o) j g)
    one_of_each (k ∷ is) zs rise o (suc i) zero e g =
        absurd (none_there (on_each text is ++ zs)
        (each_append (λ (x : Emission). sent_by links x ≡ f → ⊥) (on_each text is) zs (greater k (its_link k (some_same g)) is rise.0) o) i e)
    one_of_each (k ∷ is) zs rise o (suc i) (suc j) e g = ap suc (one_of_each is zs rise.1 o i j e g)

-- ---- what isn't data

pim_destination : (live from : ℕ) (text : List ℕ) → (packet_of (pim_packet_text live from all_pim_routers text)).destination ≡ all_pim_routers
unfolding packet_of pim_packet_text header_text with_checksum
pim_destination live from text = refl

igmp_protocol : (from to : ℕ) (text : List ℕ) → (packet_of (igmp_packet_text from to text)).protocol ≡ protocol_igmp
unfolding packet_of igmp_packet_text header_text with_checksum
igmp_protocol from to text = refl

module _ (q : Packet) (bytes : List ℕ) (reads : ipv4_reading bytes ≡ Ok q) (plain : (q.protocol == protocol_igmp) ≡ false)
    (far : is_link_local q.destination ≡ false) where
  contradicts : true ≡ false → ⊥
  contradicts e = cc e

  no_pim : (live from : ℕ) (text : List ℕ) → pim_packet_text live from all_pim_routers text ≡ bytes → ⊥
  no_pim live from text e =
      contradicts (sym (ap (λ (d : ℕ). is_link_local d)
      (ap (λ (x : Packet). x.destination) (packet_is bytes q reads) ∙ ap (λ (b : List ℕ). (packet_of b).destination) (sym e)
      ∙ pim_destination live from text)) ∙ far)

  no_igmp : (from to : ℕ) (text : List ℕ) → igmp_packet_text from to text ≡ bytes → ⊥
  no_igmp from to text e =
      contradicts (sym (ap (λ (d : ℕ). d == protocol_igmp)
      (ap (λ (x : Packet). x.protocol) (packet_is bytes q reads) ∙ ap (λ (b : List ℕ). (packet_of b).protocol) (sym e)
      ∙ igmp_protocol from to text)) ∙ plain)

  module _ (links : List ℕ) (link : ℕ) where
    abbrev f : Sent
    f = record { link = Some link; bytes = bytes }

    by_unicast : (x : List ℕ) → (let s : Sent = record { link = None; bytes = x } in s) ≡ f → ⊥
    by_unicast x e = none (ap (λ (s : Sent). s.link) e)
      where
        none : (let o : Option ℕ = None in o) ≡ Some link → ⊥
        none e = cc e

    abbrev text_of : Sent → List ℕ
    text_of s = s.bytes

    no_message : (t : InterfaceTable) (m : Message) → sent_by links (emission_of t m) ≡ f → ⊥
    unfolding emission_of hello_emission pim_on_link pim_to
    no_message t (Message.Hello i) e = no_pim _ _ _ (ap text_of e)
    no_message t (Message.JoinPrune i u g j p) e = no_pim _ _ _ (ap text_of e)
    no_message t (Message.Assert i g src m) e = no_pim _ _ _ (ap text_of e)
    no_message t (Message.Query i q) e = no_igmp _ _ _ (ap text_of e)
    no_message t (Message.RegisterStop from to g src) e = by_unicast _ e
    no_message t (Message.NullRegister from to src g) e = by_unicast _ e

    pub isnt_message : (x : Emission) → IsMessage x → sent_by links x ≡ f → ⊥
    isnt_message x m e = no_message m.table m.message (ap (sent_by links) (sym m.is) ∙ e)

    pub isnt_register : (from rp : ℕ) (text : List ℕ) → sent_by links (pim_to from rp text) ≡ f → ⊥
    unfolding pim_to
    isnt_register from rp text e = by_unicast _ e

-- ---- what an event sends

append_again : {A : Type 0} (xs ys zs : List A) → (xs ++ ys) ++ zs ≡ xs ++ (ys ++ zs)
append_again [] ys zs = refl
append_again {A} (x ∷ xs) ys zs = ap (λ (l : List A). x ∷ l) (append_again xs ys zs)

module _ (n : Network) (m : Move) (r : ℕ) (e : Event) (st : Station) (is : event_of n m ≡ Some (r, e)) (at : station_at n r ≡ Some st)
    (link down : ℕ) (on : HasOneOn down link st) (p : Packet) (b : List ℕ) (reads : ipv4_reading b ≡ Ok p)
    (plain : (p.protocol == protocol_igmp) ≡ false) (far : is_link_local p.destination ≡ false) where
  abbrev copy : Sent
  copy = record { link = Some link; bytes = copy_text p }

  one_sent : AtMostOne st.links copy (step st.state e).emissions
  one_sent =
      let made : Made st.state (done_as (happens st.state e)) (step st.state e) = step_made st.state e in
      let again : ipv4_reading (copy_text p) ≡ Ok (copied p) = copy_reads_lower b p reads in
      subst (AtMostOne st.links copy)
      (sym (made.emissions ∙ append_again made.messages (on_each made.text made.links) made.registered))
      (after_others st.links copy made.messages (on_each made.text made.links ++ made.registered)
      (each_more IsMessage (λ (x : Emission). sent_by st.links x ≡ copy → ⊥)
      (λ x own. isnt_message (copied p) (copy_text p) again plain far st.links link x own) made.messages made.own)
      (one_of_each st.links copy made.text down on.single made.links made.registered made.rise
      (each_more (IsRegister (done_as (happens st.state e))) (λ (x : Emission). sent_by st.links x ≡ copy → ⊥)
      (λ x g s. isnt_register (copied p) (copy_text p) again plain far st.links link g.from g.rp _ (ap (sent_by st.links) (sym g.is) ∙ s))
      made.registered made.round)))

  sent_there : (k : ℕ) → frame_at (moved n m).1 (suc k) ≡ Some copy
      → slice_get (n.frames ++ map (sent_by st.links) (step st.state e).emissions) k ≡ Some copy
  unfolding frame_at stepped
  sent_there k got = ap (λ (x : Network). slice_get x.frames k) (sym (moved_so n m r e st is at)) ∙ got

  one_new : (j k : ℕ) → length n.frames < j → length n.frames < k → frame_at (moved n m).1 j ≡ Some copy → frame_at (moved n m).1 k ≡ Some copy
      → j ≡ k
  one_new zero k lt lt' got got' = absurd (omega (arith, lt))
  one_new (suc j) zero lt lt' got got' = absurd (omega (arith, lt'))
  one_new (suc j) (suc k) lt lt' got got' = same (one_sent first.place second.place first.got second.got)
    where
      first : Behind n.frames (map (sent_by st.links) (step st.state e).emissions) j copy
      first = behind n.frames (map (sent_by st.links) (step st.state e).emissions) j copy (omega (arith, lt)) (sent_there j got)

      second : Behind n.frames (map (sent_by st.links) (step st.state e).emissions) k copy
      second = behind n.frames (map (sent_by st.links) (step st.state e).emissions) k copy (omega (arith, lt')) (sent_there k got')

      same : first.place ≡ second.place → suc j ≡ suc k
      same x = ap suc (first.is ∙ (ap (λ (i : ℕ). length n.frames + i) x ∙ sym second.is))

  module _ (brought : packet_in (done_as (happens st.state e)) ≡ Some p) where
    same_packet : (k : ℕ) (c : IsCopied r link k n m) → c.packet ≡ p
    same_packet k c =
        some_same (sym c.brought
        ∙ (ap (λ (x : Event). packet_in (done_as (happens (c.station).state x))) (the_event c.is)
        ∙ (ap (λ (x : Station). packet_in (done_as (happens x.state e))) (same_station c.at at) ∙ brought)))
      where
        the_event : event_of n m ≡ Some (r, c.event) → c.event ≡ e
        the_event h = its (sym h ∙ is)
          where
            its : (let o : Option (ℕ × Event) = Some (r, c.event) in o) ≡ Some (r, e) → c.event ≡ e
            its h = let same : (r, c.event) ≡ (r, e) = cc h in ap (λ (x : ℕ × Event). x.1) same

    pub one_copy : (j k : ℕ) → IsCopied r link j n m → IsCopied r link k n m → j ≡ k
    one_copy j k c f =
        one_new j k c.later f.later (c.framed ∙ ap (λ (q : Packet). framed q) (same_packet j c))
        (f.framed ∙ ap (λ (q : Packet). framed q) (same_packet k f))
      where
        framed : Packet → Option Sent
        framed q = Some (record { link = Some link; bytes = copy_text q })
