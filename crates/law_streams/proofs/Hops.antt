-- The TTL falls from hop to hop.
use Rattle.std.{proofs.{Common.{◌≡◌, ◌∙◌, ℕ, suc, ◌-◌, ◌<◌, ◌≤◌, ◌==◌, nat_le, nat_lt, not, ◌||◌, Bool, true, false, cond, List, [], ◌∷◌, ◌++◌, length, take, drop, get_or, min, slice_index, Option, Some, Result, Ok, Err, refl, sym, ap, subst, arith, length-append, ltb-true}, lemmas.List.{get_or-drop, get_or-take, get_or_append_left, length-drop, length-take, length-take-le}, Math.{Nat.min-le_left, Seq.get_or-append_seam}}, specs.List.{AllByRecursion, Contains}}
use Rattle.pim_ip.{specs.{Checksum.with_checksum, Ipv4.{Packet, copy_text, header_length_of, header_text, ipv4_reading, packet_of, pim_packet_text, total_length_of}, Tests.{expect, ◌>>◌}, declared.refusal.Refusal.Refusal}}
use Rattle.pim_types.{specs.declared.{outcome.Emission.Emission, event.Event.Event}}
use Rattle.pim_wire.{specs.{Encoded.{pim_type_of, pim_version_of}, Asserts.{assert_of, assert_test}, Hellos.{hello_of, hello_test}, JoinPrunes.{join_prune_of, join_prune_test}, Messages.{body_reading, is_checksum_right, is_register, pim_reading}, Registers.{inner_of, inner_test, is_null_register, register_of, register_stop_of, register_stop_test, register_test, register_text, source_and_group_test}, Values.{Encapsulated, Null, Register as RegisterValue}, declared.view.PimView.TheVariants.{Assert, Hello, JoinPrune, Other, Register, RegisterStop}}}
use Rattle.pim_model.{specs.{declared.accepted.Accepted.Accepted, Cause.{done_as, packet_in}, Forwarding.{Forwarded, forwarded, register_received}, State.State, Step.change, Writing.{leaves, on_link, pim_to}}}
use Rattle.law_settled.{proofs.{ListLaws.each_map, ReadPackets.{packet_is, passed}}}
use Rattle.law_streams.{specs.{Brought.{BringsPacket, InRegister, OnLink}, Copies.happens, Hops.{AsACopy, Comes, GoesOn, Hop, HopsEnd, InTheTunnel, OnALink, ToARouter}}, proofs.{Brought.packet_comes_from_event, Links.{each_contained, on_each}, Made.{IsOf, IsRegister, registers_of, step_made}, Read.read_is}}

-- ---- what is read

read_ttl : (b : List ℕ) (p : Packet) → ipv4_reading b ≡ Ok p → p.time_to_live ≡ slice_index b 8
read_ttl b p e = grind (arith, passed, read_is, get_or-take)

-- its header has 20 bytes and more
read_header : (b : List ℕ) (p : Packet) → ipv4_reading b ≡ Ok p → 20 ≤ length p.header
read_header b p e = grind (arith, passed, read_is, length-take-le)

-- ---- a copy

eight : (xs : List ℕ) → 20 ≤ length xs → length (take 8 xs) ≡ 8
eight xs le = length-take-le 8 xs (omega (arith, le))

at_eight : (xs : List ℕ) (n m : ℕ) (b d e : List ℕ) → length xs ≡ 8 → get_or ((((xs ++ n ∷ m ∷ []) ++ b) ++ d) ++ e) 8 0 ≡ n
at_eight xs n m b d e is = grind (arith, length-append, get_or_append_left, get_or-append_seam)

copy_ttl : (p : Packet) → 20 ≤ length p.header → slice_index (copy_text p) 8 ≡ p.time_to_live - 1
unfolding copy_text with_checksum
copy_ttl p le = at_eight (take 8 p.header) (p.time_to_live - 1) p.protocol _ (drop 12 p.header) p.payload (eight p.header le)

-- ---- what a Register holds

past : {A : Type 0} (b : Bool) (refusal : Refusal) (next : Result A Refusal) (x : A) → (expect b refusal >> next) ≡ Ok x → next ≡ Ok x
past b refusal next x e = grind arith

record Yields {A : Type 0} (t : Result (Unit {0}) Refusal) (x y : A) : Type 0 where
  passes : t ≡ Ok tt
  same : x ≡ y

yields : {A : Type 0} (t : Result (Unit {0}) Refusal) (x y : A) → (t >> Ok x) ≡ Ok y → Yields t x y
yields t x y e = grind arith

-- a test that reads on with what was read
was_read : (r : Result Packet Refusal) → source_and_group_test r ≡ Ok tt → (q : Packet) → ((p : Packet) → r ≡ Ok p → p ≡ q) → r ≡ Ok q
unfolding source_and_group_test
was_read (Ok p) e q f = ap (λ (x : Packet). Ok x) (f p refl)
was_read (Err refusal) e q f = cc

module _ (m : List ℕ) (q : Packet) where
  of_inner : inner_test (inner_of m) ≡ Ok tt → packet_of (inner_of m) ≡ q → ipv4_reading (drop 8 m) ≡ Ok q
  unfolding inner_test
  of_inner e f =
      was_read (ipv4_reading (drop 8 m)) (past _ _ _ tt e) q (λ p is. packet_is (drop 8 m) p is ∙ f)

  -- a Register that has a packet, and no Null-Register
  by_kind : (b : Bool) (t u : Result (Unit {0}) Refusal) (g src : ℕ) (p : Packet)
      → ((let v : Result (Unit {0}) Refusal = elim b [ true ↦ t | false ↦ u ] in v)
      >> Ok (Register (let r : RegisterValue = elim b [ true ↦ Null g src | false ↦ Encapsulated p ] in r)))
      ≡ Ok (Register (Encapsulated q)) → (u ≡ Ok tt) × (p ≡ q)
  by_kind b t u g src p e = grind (arith, yields)

  of_register : (register_test m >> Ok (Register (register_of m))) ≡ Ok (Register (Encapsulated q)) → ipv4_reading (drop 8 m) ≡ Ok q
  unfolding register_test register_of
  of_register e = let f = by_kind (is_null_register m) _ _ _ _ _ e in of_inner f.0 f.1

  -- what was read as a Register has it inside
  pub of_reading : pim_reading m ≡ Ok (Register (Encapsulated q)) → ipv4_reading (drop 8 m) ≡ Ok q
  unfolding pim_reading body_reading
  of_reading e =
      by_type (pim_type_of m == 0) (pim_type_of m == 1) (pim_type_of m == 2) (pim_type_of m == 3) (pim_type_of m == 5)
      (past (is_checksum_right m) Refusal.BadChecksum _ _ (past (not (is_register m) || nat_le 8 (length m)) Refusal.Short _ _
      (past (pim_version_of m == 2) Refusal.BadVersion _ _ (past (nat_le 4 (length m)) Refusal.Short _ _ e))))
    where
      by_type : (a b c d f : Bool)
          → (cond a (hello_test m >> Ok (Hello (hello_of m)))
          (cond b (register_test m >> Ok (Register (register_of m)))
          (cond c (register_stop_test m >> Ok (RegisterStop (register_stop_of m)))
          (cond d (join_prune_test m >> Ok (JoinPrune (join_prune_of m)))
          (cond f (assert_test m >> Ok (Assert (assert_of m))) (Ok Other))))))
          ≡ Ok (Register (Encapsulated q)) → ipv4_reading (drop 8 m) ≡ Ok q
      by_type true b c d f g = let y = yields (hello_test m) _ _ g in let wrong = y.same in cc
      by_type false true c d f g = of_register g
      by_type false false true d f g = let y = yields (register_stop_test m) _ _ g in let wrong = y.same in cc
      by_type false false false true f g = let y = yields (join_prune_test m) _ _ g in let wrong = y.same in cc
      by_type false false false false true g = let y = yields (assert_test m) _ _ g in let wrong = y.same in cc
      by_type false false false false false g = cc

-- ---- a Register as it is written

twenty_eighth : (xs : List ℕ) (n : ℕ) → 20 ≤ length (drop 8 (take n xs)) → get_or (drop 8 (take n xs)) 8 0 ≡ get_or xs 16 0
twenty_eighth xs n le =
    let a : length (drop 8 (take n xs)) ≡ length (take n xs) - 8 = length-drop 8 (take n xs) in
    let c : length (take n xs) ≡ min n (length xs) = length-take n xs in
    let d : min n (length xs) ≤ n = min-le_left n (length xs) in
    get_or-drop 8 (take n xs) 8 0 ∙ get_or-take n xs 16 0 (omega (arith, le, a, c, d))

-- the TTL of the packet in it
module _ (from to : ℕ) (t : List ℕ) where
  abbrev text : List ℕ
  text = pim_packet_text 64 from to (register_text t)

  header_long : header_length_of text ≡ 20
  unfolding pim_packet_text header_text with_checksum
  header_long = omega arith

  message_is : drop 20 text ≡ register_text t
  unfolding pim_packet_text header_text with_checksum
  message_is = refl

  behind_eight : get_or (register_text t) 16 0 ≡ get_or t 8 0
  unfolding register_text with_checksum
  behind_eight = refl

  inside_ttl : (outer q : Packet) → ipv4_reading text ≡ Ok outer → pim_reading outer.payload ≡ Ok (Register (Encapsulated q))
      → q.time_to_live ≡ slice_index t 8
  inside_ttl outer q e f =
      let n : ℕ = total_length_of text - 20 in
      let payload : take (total_length_of text - header_length_of text) (drop (header_length_of text) text) ≡ outer.payload =
      ap (λ (p : Packet). p.payload) (read_is text outer e) in
      let as_written : take n (register_text t) ≡ outer.payload =
      sym (ap (λ k. take (total_length_of text - k) (drop k text)) header_long ∙ ap (λ xs. take n xs) message_is) ∙ payload in
      let i : ipv4_reading (drop 8 outer.payload) ≡ Ok q = of_reading outer.payload q f in
      let long : 20 ≤ length (drop 8 outer.payload) = (passed (drop 8 outer.payload) q i).measured.long_enough in
      let long' : 20 ≤ length (drop 8 (take n (register_text t))) = subst (λ xs. 20 ≤ length (drop 8 xs)) (sym as_written) long in
      read_ttl (drop 8 outer.payload) q i
      ∙ (ap (λ xs. get_or (drop 8 xs) 8 0) (sym as_written)
      ∙ (twenty_eighth (register_text t) n long' ∙ behind_eight))

-- ---- hops

-- what was brought has a header of 20 bytes and more
pub brought_header : (e : Event) (p : Packet) → BringsPacket e p → 20 ≤ length p.header
brought_header e p x = grind (arith, read_header, of_reading)

-- as what it goes on
pub data SentAs (p : Packet) (y : Emission) : Type 0 where
  Copied : (link : ℕ) → y ≡ on_link link (copy_text p) → SentAs p y
  Wrapped : (from rp : ℕ) → y ≡ pim_to from rp (register_text (copy_text p)) → SentAs p y

pub record Sent (p : Packet) (y : Emission) : Type 0 where
  pub lives : leaves p ≡ true
  pub form : SentAs p y

record IsCopy (o : Option Accepted) (text : List ℕ) (y : Emission) : Type 0 where
  link : ℕ
  is : y ≡ on_link link text
  of : IsOf o text

same_packet : (o : Option Accepted) (p q : Packet) → packet_in o ≡ Some p → packet_in o ≡ Some q → p ≡ q
same_packet o p q e f = let same : Some p ≡ Some q = sym e ∙ f in cc same

copy_sent : (o : Option Accepted) (text : List ℕ) (p : Packet) (y : Emission) → packet_in o ≡ Some p → IsCopy o text y → Sent p y
copy_sent o text p y brought f =
    let same : f.of.packet ≡ p = same_packet o f.of.packet p f.of.brought brought in
    record {
      lives = subst (λ (q : Packet). leaves q ≡ true) same f.of.lives;
      form = Copied f.link (f.is ∙ ap (λ t. on_link f.link t) (f.of.is ∙ ap copy_text same));
    }

register_sent : (o : Option Accepted) (p : Packet) (y : Emission) → packet_in o ≡ Some p → IsRegister o y → Sent p y
register_sent o p y brought f =
    let same : f.of.packet ≡ p = same_packet o f.of.packet p f.of.brought brought in
    record {
      lives = subst (λ (q : Packet). leaves q ≡ true) same f.of.lives;
      form = Wrapped f.from f.rp (f.is ∙ ap (λ t. pim_to f.from f.rp (register_text t)) (f.of.is ∙ ap copy_text same));
    }

pub round : (s : State) (w : ℕ) (a : Accepted) → AllByRecursion (IsRegister (Some a)) (change s w a).registered
unfolding change
round s w (Accepted.Data i p) =
    let f : Forwarded = forwarded s p.destination p.source i.number in
    registers_of s w (Some (Accepted.Data i p)) p refl f.state f.to_tunnel
round s w (Accepted.Register p (Encapsulated inner)) =
    let f : Forwarded = register_received s p inner.destination inner.source false in
    registers_of s w (Some (Accepted.Register p (Encapsulated inner))) inner refl f.state f.to_tunnel
round s w (Accepted.Register p (Null source group)) = tt
round s w a = tt

pub sent_as : (s : State) (e : Event) (y : Emission) (p : Packet) → packet_in (done_as (happens s e)) ≡ Some p → GoesOn s e y → Sent p y
sent_as s e y p brought (AsACopy there) =
    let made = step_made s e in
    copy_sent (done_as (happens s e)) made.text p y brought
    (each_contained (IsCopy (done_as (happens s e)) made.text) (on_each made.text made.links) y
    (each_map (λ i. IsOf (done_as (happens s e)) made.text) (IsCopy (done_as (happens s e)) made.text) (λ i. on_link i made.text)
    (λ i f. record { link = i; is = refl; of = f }) made.links made.of)
    (subst (λ (es : List Emission). Contains es y) made.copies there))
sent_as s e y p brought (InTheTunnel a done there) =
    register_sent (Some a) p y (ap packet_in (sym done) ∙ brought)
    (each_contained (IsRegister (Some a)) (change s e.draw a).registered y (round s e.draw a) there)

-- the next router that it comes to brings a packet whose TTL is one lower
pub falls : (p q : Packet) (y : Emission) (e : Event) → 20 ≤ length p.header → SentAs p y → Comes y e → BringsPacket e q
    → q.time_to_live ≡ p.time_to_live - 1
unfolding pim_to
falls p q y e long (Copied link is) (OnALink i j bytes of kind) (OnLink k read kind' reads) =
    let same : read ≡ copy_text p = cc (is, of, kind, kind') in
    read_ttl read q reads ∙ (ap (λ b. slice_index b 8) same ∙ copy_ttl p long)
falls p q y e long (Copied link is) (OnALink i j bytes of kind) (InRegister read outer kind' reads inside) = cc (kind, kind')
falls p q y e long (Copied link is) (ToARouter to bytes of kind) brings = cc (is, of)
falls p q y e long (Wrapped from rp is) (OnALink i j bytes of kind) brings = cc (is, of)
falls p q y e long (Wrapped from rp is) (ToARouter to bytes of kind) (OnLink k read kind' reads) = cc (kind, kind')
falls p q y e long (Wrapped from rp is) (ToARouter to bytes of kind) (InRegister read outer kind' reads inside) =
    let same : read ≡ pim_packet_text 64 from rp (register_text (copy_text p)) = cc (is, of, kind, kind') in
    inside_ttl from rp (copy_text p) outer q (subst (λ b. ipv4_reading b ≡ Ok outer) same reads) inside ∙ copy_ttl p long

pub one_more : (n t u : ℕ) → nat_lt 1 t ≡ true → u ≡ t - 1 → n < u → suc n < t
one_more n t u lives e lt = let low : 1 < t = ltb-true 1 t lives in omega (arith, low, e, lt)

pub hops_end : HopsEnd
hops_end x y [] first later =
    ltb-true 1 first.packet.time_to_live (sent_as first.state first.event y first.packet first.brought first.goes_on).lives
hops_end x y (z ∷ zs) first later =
    let sent : Sent first.packet y = sent_as first.state first.event y first.packet first.brought first.goes_on in
    let next : Hop y z = later.0 in
    one_more (length (z ∷ zs)) first.packet.time_to_live next.packet.time_to_live sent.lives
    (falls first.packet next.packet y next.event
    (brought_header first.event first.packet (packet_comes_from_event first.state first.event first.packet first.brought))
    sent.form next.comes (packet_comes_from_event next.state next.event next.packet next.brought))
    (hops_end y z zs next later.1)
