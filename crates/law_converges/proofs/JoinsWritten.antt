-- What comes as a Join on a link was sent as one: of what a router sends there only a Join/Prune of its own is read so, and its entries as it
-- wrote them.
use Rattle.std.{proofs.{Common.{Bool, List, None, Ok, Option, Result, Some, [], ap, append-nil, append_assoc, arith, cond, drop, eqb-true, false, get_or, length, length-append, map, nat_lt, refl, subst, suc, sym, take, true, zero, ℕ, ◌&&◌, ◌*◌, ◌++◌, ◌+◌, ◌-◌, ◌<◌, ◌==◌, ◌^◌, ◌∙◌, ◌∷◌, ◌≡◌, ◌≤◌}, lemmas.{Bool.{Decides.nat_tests, false≢true}, List.{Elements.{Contains-append_left, Contains-append_right, Contains-push}, Folds.list_any-append, get_or-drop, take_all}}}, specs.{Cmp.{first_so, second_so}, List.{AllByRecursion, Contains, flat_map, list_any}}}
use Rattle.byteorder.{specs.{Endian.big_from, Numbers.big_number-reads_back}}
use Rattle.pim_ip.{specs.{Checksum.with_checksum, Ipv4.{Packet, all_pim_routers, copy_text, frame_limit, header_length_of, header_text, igmp_packet_text, ipv4_reading, is_link_local, is_unicast, packet_of, pim_packet_text, protocol_pim, total_length_of}, View.copied, declared.{addr.Addr.Addr, refusal.Refusal.Refusal}}}
use Rattle.pim_types.{specs.declared.{event.{Event.Event, EventKind.EventKind}, outcome.Emission.Emission}}
use Rattle.pim_wire.{specs.{Asserts.assert_text, Encoded.{address_at, flags_at, mask_length_at, pim_text, pim_type_of}, Hellos.hello_text, JoinPrunes.{entries_at, entry_at, entry_of, entry_text, flags_of, group_at, group_count_of, groups_at, join_count_at, join_prune_of, join_prune_text, kind_of}, Messages.pim_reading, Values.{Encapsulated, JoinPrune}, declared.{join_prune.{Entry.Entry, EntryKind.EntryKind}, view.PimView.PimView}}, proofs.WrittenEntries.others}
use Rattle.pim_model.{specs.{declared.accepted.Accepted.Accepted, Cause.{done_as, packet_in}, Downstream.{Named, is_kind, joins_in}, Messages.Message, State.{InterfaceTable, State}, Writing.{emission_of, hello_emission, on_link, pim_on_link, pim_to}}}
use Rattle.law_settled.{proofs.{ListLaws.{any_among_all, any_more, each_map, each_of_all, either}, ReadPackets.packet_is, TableLaws.any_of_map}}
use Rattle.law_streams.{proofs.Forwards.copy_reads_lower, specs.Copies.happens}
use Rattle.law_converges.{proofs.{Inside.{WasReadOf, brought_is_read}, JoinsRead.{IsJoinText, IsReadJoin, is_join_of, names_it, says_so, was_shown}}, specs.AskedByMembers.Sources}

-- ---- entries

-- a number at a place, in what stands from there on
from_there : (n p i j : ℕ) (b : List ℕ) → j ≡ p + i → big_from j n b ≡ big_from i n (drop p b)
from_there zero p i j b e = refl
from_there (suc n) p i j b e =
    let byte : get_or b j 0 ≡ get_or (drop p b) i 0 = ap (λ (k : ℕ). get_or b k 0) e ∙ sym (get_or-drop p b i 0) in
    let rest = from_there n p (suc i) (suc j) b (omega arith) in
    rw (byte, rest) refl

its_kind : (k : EntryKind) → kind_of (flags_of k) ≡ Some k
unfolding kind_of
its_kind EntryKind.Star = refl
its_kind EntryKind.Source = refl
its_kind EntryKind.SourceRpt = refl

-- a Join is among entries: of (*,G), or of (S,G), with the source where that is an address
abbrev pub kind_of_join : Sources → EntryKind
kind_of_join None = EntryKind.Star
kind_of_join (Some src) = EntryKind.Source

pub record IsSaid (x : Sources) (es : List Entry) : Type 0 where
  pub entry : Entry
  pub among : Contains es entry
  pub kind : entry.kind ≡ kind_of_join x
  pub same : (src : ℕ) → x ≡ Some src → (entry.address).bits < 2 ^ 32 → (entry.address).bits ≡ src

said_later : (x : Sources) (e : Entry) (es : List Entry) → IsSaid x es → IsSaid x (e ∷ es)
said_later x e es f = record {
  entry = f.entry;
  among = Contains-append_right (e ∷ []) es f.entry f.among;
  kind = f.kind;
  same = f.same;
}

star_kind : (k : EntryKind) → is_kind k EntryKind.Star ≡ true → k ≡ EntryKind.Star
star_kind k e = grind (arith, e)

source_kind : (k : EntryKind) → is_kind k EntryKind.Source ≡ true → k ≡ EntryKind.Source
source_kind k e = grind (arith, e)

said_here : (x : Sources) (e : Entry) (es : List Entry) (address : ℕ) → ((e.address).bits < 2 ^ 32 → address ≡ (e.address).bits)
    → is_join_of x (record { kind = e.kind; address = record { bits = address } }) ≡ true → IsSaid x (e ∷ es)
said_here None e es address reads f = record {
  entry = e;
  among = Contains-append_left (e ∷ []) es e (Contains-push [] e);
  kind = star_kind e.kind f;
  same = λ src none lt. no none;
}
  where
    no : {A : Type 0} {src : ℕ} → (let o : Option ℕ = None in o) ≡ Some src → A
    no e = cc e
said_here (Some src) e es address reads f = record {
  entry = e;
  among = Contains-append_left (e ∷ []) es e (Contains-push [] e);
  kind = source_kind e.kind (first_so (is_kind e.kind EntryKind.Source) _ f);
  same = λ other is lt.
      sym (reads lt) ∙ (eqb-true address src (second_so (is_kind e.kind EntryKind.Source) _ f) ∙ alike is);
}
  where
    alike : {other : ℕ} → (let o : Option ℕ = Some src in o) ≡ Some other → src ≡ other
    alike e = cc e

module _ (b : List ℕ) (p : ℕ) (e : Entry) (more : List ℕ) (stands : drop p b ≡ entry_text e ++ more) where
  byte : (i : ℕ) → get_or b (p + i) 0 ≡ get_or (entry_text e ++ more) i 0
  byte i = sym (get_or-drop p b i 0) ∙ ap (λ (xs : List ℕ). get_or xs i 0) stands

  its_flags : kind_of (flags_at b p) ≡ Some e.kind
  its_flags = ap kind_of (byte 2) ∙ its_kind e.kind

  its_address : (e.address).bits < 2 ^ 32 → address_at b p ≡ (e.address).bits
  its_address lt =
      from_there 4 p 4 (p + 4) b refl ∙ (ap (big_from 4 4) stands ∙ big_number-reads_back 4 (e.address).bits more lt)

  said_at : (x : Sources) (es : List Entry) → list_any (is_join_of x) (entry_at b p) ≡ true → IsSaid x (e ∷ es)
  unfolding entry_at
  said_at x es f = go ((mask_length_at b p == 32) && is_unicast (address_at b p)) f
    where
      go : (c : Bool) → list_any (is_join_of x) (cond c (entry_of (address_at b p) (kind_of (flags_at b p))) []) ≡ true → IsSaid x (e ∷ es)
      go false f = absurd (false≢true f)
      go true f =
          said_here x e es (address_at b p) its_address
          (either (is_join_of x (record { kind = e.kind; address = record { bits = address_at b p } })) false (λ g. g) (λ g. absurd (false≢true g))
          (subst (λ (o : Option EntryKind). list_any (is_join_of x) (entry_of (address_at b p) o) ≡ true) its_flags f))

entries_said : (x : Sources) (es : List Entry) (b : List ℕ) (p : ℕ) (rest : List ℕ) → drop p b ≡ flat_map entry_text es ++ rest
    → list_any (is_join_of x) (entries_at b p (length es)) ≡ true → IsSaid x es
unfolding entries_at
entries_said x [] b p rest stands f = absurd (false≢true f)
entries_said x (e ∷ es) b p rest stands f =
    let first : drop p b ≡ entry_text e ++ (flat_map entry_text es ++ rest) = stands ∙ append_assoc (entry_text e) (flat_map entry_text es) rest in
    either (list_any (is_join_of x) (entry_at b p)) (list_any (is_join_of x) (entries_at b (p + 8) (length es)))
    (said_at b p e (flat_map entry_text es ++ rest) first x es)
    (λ later. said_later x e es (entries_said x es b (p + 8) rest (others b p e (flat_map entry_text es ++ rest) first) later))
    (sym (list_any-append (is_join_of x) (entry_at b p) (entries_at b (p + 8) (length es))) ∙ f)

-- ---- a Join/Prune

module _ (up group : ℕ) (joins prunes : List Entry) where
  abbrev text : List ℕ
  text = join_prune_text up group joins prunes

  entries_long : (es : List Entry) → length (flat_map entry_text es) ≡ 8 * length es
  entries_long [] = refl
  entries_long (e ∷ es) = omega (arith, entries_long es, length-append (entry_text e) (flat_map entry_text es))

  text_long : length text ≡ 26 + 8 * (length joins + length prunes)
  unfolding join_prune_text pim_text with_checksum
  text_long =
      omega (arith, entries_long joins, entries_long prunes, length-append (flat_map entry_text joins) (flat_map entry_text prunes))

  stands : drop 26 text ≡ flat_map entry_text joins ++ flat_map entry_text prunes
  unfolding join_prune_text pim_text with_checksum
  stands = refl

  its_count : length joins < 2 ^ 16 → join_count_at text 14 ≡ length joins
  unfolding join_prune_text pim_text with_checksum
  its_count few = big_number-reads_back 2 (length joins) [] few

  its_group : group < 2 ^ 32 → address_at text 14 ≡ group
  unfolding join_prune_text pim_text with_checksum
  its_group lt = big_number-reads_back 4 group [] lt

  one : group_count_of text ≡ 1
  unfolding join_prune_text pim_text with_checksum
  one = refl

  mask : mask_length_at text 14 ≡ 32
  unfolding join_prune_text pim_text with_checksum
  mask = refl

  its_joins : length joins < 2 ^ 16 → joins_in (join_prune_of text)
      ≡ map (λ (e : Entry). (address_at text 14, e)) (entries_at text 26 (length joins)) ++ []
  unfolding join_prune_of groups_at group_at join_prune_text entries_at pim_text with_checksum
  its_joins few = rw (one, mask, its_count few) refl

  pub record IsSaidOf (g : ℕ) (x : Sources) : Type 0 where
    pub group_is : group < 2 ^ 32 → group ≡ g
    pub said : IsSaid x joins

  said_so : (g : ℕ) (x : Sources) → length joins < 2 ^ 16 → list_any (names_it g x) (joins_in (join_prune_of text)) ≡ true → IsSaidOf g x
  said_so g x few f = record {
    group_is = λ lt. sym (its_group lt)
        ∙ any_among_all (λ (n : Named). n.0 ≡ address_at text 14) (names_it g x)
        (λ n same named. sym same ∙ eqb-true n.0 g (first_so (n.0 == g) _ named)) its_names all_of_group found;
    said = entries_said x joins text 26 (flat_map entry_text prunes) stands
        (any_more (λ (e : Entry). names_it g x (address_at text 14, e)) (is_join_of x) (λ e both. second_so (address_at text 14 == g) _ both)
        (entries_at text 26 (length joins))
        (sym (any_of_map (names_it g x) (λ (e : Entry). (address_at text 14, e)) (entries_at text 26 (length joins))) ∙ found));
  }
    where
      its_names : List Named
      its_names = map (λ (e : Entry). (address_at text 14, e)) (entries_at text 26 (length joins))

      found : list_any (names_it g x) its_names ≡ true
      found = ap (list_any (names_it g x)) (sym (append-nil its_names) ∙ sym (its_joins few)) ∙ f

      all_of_group : AllByRecursion (λ (n : Named). n.0 ≡ address_at text 14) its_names
      all_of_group =
          each_map (λ (e : Entry). Unit {0}) (λ (n : Named). n.0 ≡ address_at text 14) (λ (e : Entry). (address_at text 14, e)) (λ e f. refl)
          (entries_at text 26 (length joins)) (each_of_all (λ (e : Entry). Unit {0}) (λ e. tt) (entries_at text 26 (length joins)))

-- ---- a packet

module _ (live from to : ℕ) (body : List ℕ) where
  abbrev whole : List ℕ
  whole = pim_packet_text live from to body

  whole_long : length whole ≡ 20 + length body
  unfolding pim_packet_text header_text with_checksum
  whole_long = omega arith

  its_header : header_length_of whole ≡ 20
  unfolding pim_packet_text header_text with_checksum
  its_header = refl

  its_total : 20 + length body < 2 ^ 16 → total_length_of whole ≡ 20 + length body
  unfolding pim_packet_text header_text with_checksum
  its_total lt = big_number-reads_back 2 (20 + 0 + length body) [] (omega (arith, lt)) ∙ omega arith

  behind_header : drop 20 whole ≡ body
  unfolding pim_packet_text header_text with_checksum
  behind_header = refl

  its_payload : nat_lt frame_limit (length whole) ≡ false → (packet_of whole).payload ≡ body
  unfolding packet_of
  its_payload short =
      rw (its_header, its_total (few (length body) (short_so (length whole) short) whole_long), behind_header)
      (ap (λ (k : ℕ). take k body) (minus (length body)) ∙ whole_body body)
    where
      whole_body : (xs : List ℕ) → take (length xs) xs ≡ xs
      whole_body xs = take_all (length xs) xs (omega arith)

      short_so : (n : ℕ) → nat_lt frame_limit n ≡ false → n ≤ 1500
      short_so n e = grind (arith, nat_tests, e)

      few : (n : ℕ) → length whole ≤ 1500 → length whole ≡ 20 + n → 20 + n < 2 ^ 16
      few n le is = omega (arith, le, is)

      minus : (n : ℕ) → (20 + n) - 20 ≡ n
      minus n = omega arith

-- ---- who sent it

abbrev text_of : Emission → List ℕ
text_of (Emission.Link i bytes) = bytes
text_of (Emission.Unicast to bytes) = []

by_unicast : {to : Addr} {text : List ℕ} {i : ℕ} {bytes : List ℕ} → Emission.Unicast to text ≡ on_link i bytes → ⊥
by_unicast e = cc e

no_hello : (body : List ℕ) → (pim_type_of (pim_text 0 body) == 3) ≡ false
unfolding pim_text with_checksum
no_hello body = refl

no_assert : (body : List ℕ) → (pim_type_of (pim_text 5 body) == 3) ≡ false
unfolding pim_text with_checksum
no_assert body = refl

pub record WasWritten (g : ℕ) (x : Sources) (m : Message) : Type 0 where
  pub iface : ℕ
  pub up : ℕ
  pub group : ℕ
  pub joins : List Entry
  pub prunes : List Entry
  pub is : m ≡ Message.JoinPrune iface up group joins prunes
  pub said : IsSaidOf up group joins prunes g x

module _ (kind : EventKind) (m : JoinPrune) (f : IsReadJoin kind m) where
  -- the message in a packet of PIM
  in_packet : (live from to : ℕ) (body : List ℕ) → pim_packet_text live from to body ≡ f.bytes → IsJoinText body m
  in_packet live from to body is =
      says_so body m (subst (λ (b : List ℕ). pim_reading b ≡ Ok (PimView.JoinPrune m)) (carried ∙ its_payload live from to body fits) f.says)
    where
      fits : nat_lt frame_limit (length (pim_packet_text live from to body)) ≡ false
      fits = ap (λ (b : List ℕ). nat_lt frame_limit (length b)) is ∙ f.short

      carried : (f.packet).payload ≡ (packet_of (pim_packet_text live from to body)).payload
      carried =
          ap (λ (p : Packet). p.payload) (packet_is f.bytes f.packet f.reads) ∙ ap (λ (b : List ℕ). (packet_of b).payload) (sym is)

  not_of_type : (type live from to : ℕ) (body : List ℕ) → (pim_type_of (pim_text type body) == 3) ≡ false
      → pim_packet_text live from to (pim_text type body) ≡ f.bytes → ⊥
  not_of_type type live from to body off is =
      false≢true (sym off ∙ (in_packet live from to (pim_text type body) is).type)

  no_igmp : (from to : ℕ) (body : List ℕ) → igmp_packet_text from to body ≡ f.bytes → ⊥
  unfolding igmp_packet_text header_text with_checksum packet_of
  no_igmp from to body is =
      false≢true (ap (λ (b : List ℕ). (packet_of b).protocol == protocol_pim) is
      ∙ (ap (λ (p : Packet). p.protocol == protocol_pim) (sym (packet_is f.bytes f.packet f.reads)) ∙ f.protocol))

  few_joins : (live from to up group : ℕ) (joins prunes : List Entry)
      → pim_packet_text live from to (join_prune_text up group joins prunes) ≡ f.bytes → length joins < 2 ^ 16
  few_joins live from to up group joins prunes is =
      let long : length f.bytes ≡ 20 + length (join_prune_text up group joins prunes) =
      ap length (sym is) ∙ whole_long live from to (join_prune_text up group joins prunes) in
      few (length f.bytes) (length (join_prune_text up group joins prunes)) (length joins) (length prunes) long
      (text_long up group joins prunes) (short_so (length f.bytes) f.short)
    where
      short_so : (n : ℕ) → nat_lt frame_limit n ≡ false → n ≤ 1500
      short_so n e = grind (arith, nat_tests, e)

      few : (a b c d : ℕ) → a ≡ 20 + b → b ≡ 26 + 8 * (c + d) → a ≤ 1500 → c < 2 ^ 16
      few a b c d e h le = omega (arith, e, h, le)

  -- a copy of a packet isn't one
  pub no_copy : (s : State) (e : Event) (p : Packet) → packet_in (done_as (happens s e)) ≡ Some p → f.bytes ≡ copy_text p → ⊥
  no_copy s e p brought is =
      let r : WasReadOf p = brought_is_read s e p brought in
      let same : f.packet ≡ copied p = same_read f.reads (ap ipv4_reading is ∙ copy_reads_lower r.bytes p r.reads) in
      let to : p.destination ≡ all_pim_routers =
      sym (ap (λ (x : Packet). x.destination) same) ∙ eqb-true (f.packet).destination all_pim_routers f.to_routers in
      false≢true (sym (goes_far (done_as (happens s e)) refl brought) ∙ ap is_link_local to)
    where
      same_read : {r : Result Packet Refusal} {x y : Packet} → r ≡ Ok x → r ≡ Ok y → x ≡ y
      same_read a b = grind (arith, a, b)

      goes_far : (o : Option Accepted) → done_as (happens s e) ≡ o → packet_in o ≡ Some p → is_link_local p.destination ≡ false
      goes_far (Some (Accepted.Data i q)) was here =
          subst (λ (x : Packet). is_link_local x.destination ≡ false) (one here) (was_shown s e (Accepted.Data i q) was)
        where
          one : (let o : Option Packet = Some q in o) ≡ Some p → q ≡ p
          one e = cc e
      goes_far (Some (Accepted.Register q (Encapsulated inner))) was here =
          subst (λ (x : Packet). is_link_local x.destination ≡ false) (one here) (was_shown s e (Accepted.Register q (Encapsulated inner)) was)
        where
          one : (let o : Option Packet = Some inner in o) ≡ Some p → inner ≡ p
          one e = cc e
      goes_far o was here = cc here

  module _ (g : ℕ) (x : Sources) (named : list_any (names_it g x) (joins_in m) ≡ true) where
    pub by_message : (t : InterfaceTable) (message : Message) (out : ℕ) → emission_of t message ≡ on_link out f.bytes → WasWritten g x message
    unfolding emission_of hello_emission pim_on_link pim_to hello_text assert_text
    by_message t (Message.Hello i) out e = absurd (not_of_type 0 1 _ all_pim_routers _ (no_hello _) (ap text_of e))
    by_message t (Message.JoinPrune i up group joins prunes) out e =
        let b : IsJoinText (join_prune_text up group joins prunes) m = in_packet 1 _ all_pim_routers _ (ap text_of e) in
        record {
          iface = i;
          up = up;
          group = group;
          joins = joins;
          prunes = prunes;
          is = refl;
          said = said_so up group joins prunes g x (few_joins 1 _ all_pim_routers up group joins prunes (ap text_of e))
              (subst (λ (y : JoinPrune). list_any (names_it g x) (joins_in y) ≡ true) (sym b.is) named);
        }
    by_message t (Message.Assert i group source a) out e = absurd (not_of_type 5 1 _ all_pim_routers _ (no_assert _) (ap text_of e))
    by_message t (Message.Query i q) out e = absurd (no_igmp _ _ _ (ap text_of e))
    by_message t (Message.RegisterStop from to group source) out e = absurd (by_unicast e)
    by_message t (Message.NullRegister from to source group) out e = absurd (by_unicast e)
