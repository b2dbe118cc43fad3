-- What holds of each station, event and frame of a network, from what is computed of one: for whoever shows the
-- premises of the laws for a network of their own.
use Rattle.std.{proofs.{Common.{◌≡◌, ◌∙◌, ℕ, zero, suc, ◌+◌, ◌*◌, ◌/◌, ◌<◌, ◌≤◌, ◌==◌, Bool, true, false, List, [], ◌∷◌, ◌++◌, drop, length, map, Option, Some, None, is_some, refl, sym, ap, subst, arith, ◌^◌, length-append}, lemmas.{Bool.Decides.nat_tests, List.length-map}}, specs.{Int.byte_at, List.flat_map, Prelude.{slice_get, unwrap_or}, Option.option_map_or}}
use Rattle.pim_types.{specs.declared.{event.{Event.Event, EventKind.EventKind}, fact.JoinTimerRow.JoinTimerRow}}
use Rattle.pim_wire.{specs.{Encoded.{group_text, pim_text, unicast_text}, JoinPrunes.{entry_text, join_prune_holdtime, join_prune_text}, declared.join_prune.{Entry.Entry, EntryKind.EntryKind}}}
use Rattle.pim_ip.{specs.{Checksum.with_checksum, Ipv4.{header_text, is_unicast, pim_packet_text}}, proofs.WritingLemmas.length-with_checksum}
use Rattle.byteorder.{specs.Endian.big_bytes}
use Rattle.pim_model.{specs.{Cause.done_as, Messages.entry, Network.{Deliver, Move, Network, Sent, Station, event_of, frame_at, moved, station_at}, State.State, Tables.row_at}}
use Rattle.law_streams.{specs.{Copies.happens, Joins.{IsWritable, join_packet}, InTimeJoins.{ComesBy, ComesToBoth, IsBy, Join, Pair, entry_of, frame_of, is_suppressed, join_key, prunes_it, prunes_of, time_at}, Shared.{ComesFrom, frame_from}}}

-- ---- stations and events

-- a network's stations, where there is another to stand in for one that isn't there
module _ (nowhere : Station) where
  abbrev pub stand : Network → ℕ → Station
  stand n r = unwrap_or (station_at n r) nowhere

  pub stands_there : (n : Network) (r : ℕ) → is_some (station_at n r) ≡ true → station_at n r ≡ Some (stand n r)
  stands_there n r there = go (station_at n r) there
    where
      go : (o : Option Station) → is_some o ≡ true → o ≡ Some (unwrap_or o nowhere)
      go None e = cc
      go (Some st) e = refl

  pub with_station : (n : Network) (r : ℕ) (P : Station → Type 0) → P (stand n r) → (st : Station)
      → station_at n r ≡ Some st → P st
  with_station n r P f st is = subst P (ap (λ (o : Option Station). unwrap_or o nowhere) is) f

abbrev nothing : Event
nothing = record { draw = 0; kind = EventKind.Advance 0 }

abbrev pub event_in : Network → Move → Event
event_in n m = option_map_or (λ (x : ℕ × Event). x.1) (event_of n m) nothing

pub with_event : (n : Network) (m : Move) (r : ℕ) (P : Event → Type 0) → P (event_in n m) → (e : Event)
    → event_of n m ≡ Some (r, e) → P e
with_event n m r P f e is =
    subst P (ap (λ (o : Option (ℕ × Event)). option_map_or (λ (x : ℕ × Event). x.1) o nothing) is) f

-- the event is at another router
abbrev pub is_event_at : ℕ → Option (ℕ × Event) → Bool
is_event_at r None = false
is_event_at r (Some x) = x.0 == r

same_itself : (r : ℕ) → (r == r) ≡ true
same_itself r = grind arith

pub at_another : (n : Network) (m : Move) (r : ℕ) → is_event_at r (event_of n m) ≡ false → (e : Event)
    → event_of n m ≡ Some (r, e) → ⊥
at_another n m r off e is =
    let b : false ≡ true = sym off ∙ ap (is_event_at r) is ∙ same_itself r in cc

-- ---- a frame by its number

-- a delivery is the same by any number of the same frame
pub alike_delivered : (n : Network) (r i draw k j : ℕ) → frame_at n k ≡ frame_at n j
    → (moved n (Deliver r i k draw)).1 ≡ (moved n (Deliver r i j draw)).1
unfolding moved event_of
alike_delivered n r i draw k j same = rw same refl

-- ---- frames that are new

pub record IsFirst (k n : ℕ) (f y : Sent) : Type 0 where
  pub number : k ≡ n
  pub frame : f ≡ y

one_got : (y f : Sent) (k : ℕ) → slice_get (y ∷ []) k ≡ Some f → IsFirst k 0 f y
one_got y f zero got = record { number = refl; frame = cc }
one_got y f (suc k) got = cc

one_new : (n : ℕ) (xs : List Sent) (y f : Sent) (k : ℕ) → drop n xs ≡ y ∷ [] → n ≤ k → slice_get xs k ≡ Some f
    → IsFirst k n f y
one_new zero xs y f k is le got = one_got y f k (sym (ap (λ (l : List Sent). slice_get l k) is) ∙ got)
one_new (suc n) [] y f k is le got = cc
one_new (suc n) (x ∷ xs) y f zero is le got = absurd (omega (arith, le))
one_new (suc n) (x ∷ xs) y f (suc k) is le got =
    let first : IsFirst k n f y = one_new n xs y f k is (omega (arith, le)) got in
    record { number = ap suc first.number; frame = first.frame }

pub only_new : (n n' : Network) (y f : Sent) (number : ℕ) → drop (length n.frames) n'.frames ≡ y ∷ []
    → length n.frames < number → frame_at n' number ≡ Some f → IsFirst number (suc (length n.frames)) f y
unfolding frame_at
only_new n n' y f zero is later got = absurd (omega (arith, later))
only_new n n' y f (suc k) is later got =
    let first : IsFirst k (length n.frames) f y = one_new (length n.frames) n'.frames y f k is (omega (arith, later)) got in
    record { number = ap suc first.number; frame = first.frame }

no_more : (n : ℕ) (xs : List Sent) (k : ℕ) (f : Sent) → drop n xs ≡ [] → n ≤ k → slice_get xs k ≡ Some f → ⊥
no_more zero xs k f is le got = let no : None ≡ Some f = sym (ap (λ (l : List Sent). slice_get l k) is) ∙ got in cc
no_more (suc n) [] k f is le got = cc
no_more (suc n) (x ∷ xs) zero f is le got = absurd (omega (arith, le))
no_more (suc n) (x ∷ xs) (suc k) f is le got = no_more n xs k f is (omega (arith, le)) got

pub none_new : (n n' : Network) (f : Sent) (number : ℕ) → drop (length n.frames) n'.frames ≡ []
    → length n.frames < number → frame_at n' number ≡ Some f → ⊥
unfolding frame_at
none_new n n' f zero is later got = absurd (omega (arith, later))
none_new n n' f (suc k) is later got = no_more (length n.frames) n'.frames k f is (omega (arith, later)) got

-- ---- the bytes of a Join

length-entries : (entries : List Entry) → length (flat_map entry_text entries) ≡ 8 * length entries
length-entries [] = refl
length-entries (e ∷ es) = omega (arith, length-append (entry_text e) (flat_map entry_text es), length-entries es)

length-pim : (type : ℕ) (body : List ℕ) → length (pim_text type body) ≡ 4 + length body
unfolding pim_text
length-pim type body = omega (arith, length-with_checksum ((0x20 + type) ∷ 0 ∷ []) body)

length-join : (to g : ℕ) (joined : Entry) (prunes : List Entry)
    → length (join_prune_text to g (joined ∷ []) prunes) ≡ 34 + 8 * length prunes
unfolding join_prune_text
length-join to g joined prunes =
    let front : List ℕ = unicast_text to ++ 0 ∷ 1 ∷ big_bytes 2 join_prune_holdtime
    ++ group_text g ++ big_bytes 2 1 ++ big_bytes 2 (length prunes) in
    let ones : List ℕ = flat_map entry_text (joined ∷ []) in
    let pruned : List ℕ = flat_map entry_text prunes in
    omega (
      arith,
      length-pim 3 (front ++ ones ++ pruned),
      length-append (front ++ ones) pruned,
      length-append front ones,
      length-entries (joined ∷ []),
      length-entries prunes,
    )

pub length-packet : (from to g : ℕ) (joined : Entry) (prunes : List Entry)
    → length (join_packet from to g joined prunes) ≡ 54 + 8 * length prunes
unfolding join_packet pim_packet_text header_text
length-packet from to g joined prunes =
    let text : List ℕ = join_prune_text to g (joined ∷ []) prunes in
    omega (
      arith,
      length-join to g joined prunes,
      length-append (header_text [] 1 103 from 0xE000000D (length text)) text,
      length-with_checksum ((0x45 + 0 / 4) ∷ 0xC0 ∷ big_bytes 2 (20 + 0 + length text) ++ (0 ∷ 0 ∷ 0 ∷ 0 ∷ 1 ∷ 103 ∷ []))
          (big_bytes 4 from ++ big_bytes 4 0xE000000D ++ []),
    )

none_left : {X : Type 0} (xs : List X) → length xs ≡ 0 → xs ≡ []
none_left [] e = refl
none_left (x ∷ xs) e = absurd (omega (arith, e))

-- a Join of 54 bytes prunes nothing
pub prunes_nothing : (from to g : ℕ) (joined : Entry) (pruned : List ℕ)
    → length (join_packet from to g joined (map (entry EntryKind.SourceRpt) pruned)) ≡ 54 → pruned ≡ []
prunes_nothing from to g joined pruned e =
    none_left pruned (omega (
      arith,
      e,
      length-packet from to g joined (map (entry EntryKind.SourceRpt) pruned),
      length-map pruned (entry EntryKind.SourceRpt),
    ))

-- ---- the sender of a Join, by its bytes

module _ (to g : ℕ) (joined : Entry) (prunes : List Entry) where
  first_byte : (from : ℕ) → slice_get (join_packet from to g joined prunes) 12 ≡ Some (byte_at 3 from)
  unfolding join_packet pim_packet_text header_text with_checksum
  first_byte from = refl

  second_byte : (from : ℕ) → slice_get (join_packet from to g joined prunes) 13 ≡ Some (byte_at 2 from)
  unfolding join_packet pim_packet_text header_text with_checksum
  second_byte from = refl

  third_byte : (from : ℕ) → slice_get (join_packet from to g joined prunes) 14 ≡ Some (byte_at 1 from)
  unfolding join_packet pim_packet_text header_text with_checksum
  third_byte from = refl

  fourth_byte : (from : ℕ) → slice_get (join_packet from to g joined prunes) 15 ≡ Some (byte_at 0 from)
  unfolding join_packet pim_packet_text header_text with_checksum
  fourth_byte from = refl

same_some : (o q : Option ℕ) (a b : ℕ) → o ≡ q → o ≡ Some a → q ≡ Some b → a ≡ b
same_some o q a b e f h = cc

same_word : (a b : ℕ) → a < 2 ^ 32 → b < 2 ^ 32 → byte_at 3 a ≡ byte_at 3 b → byte_at 2 a ≡ byte_at 2 b → byte_at 1 a ≡ byte_at 1 b
    → byte_at 0 a ≡ byte_at 0 b → a ≡ b
same_word a b la lb e3 e2 e1 e0 = omega (arith, la, lb, e3, e2, e1, e0)

unicast_fits : (a : ℕ) → is_unicast a ≡ true → a < 2 ^ 32
unicast_fits a h = grind (arith, nat_tests, h)

same_sender : (a b to g : ℕ) (joined : Entry) (p q : List Entry) → join_packet a to g joined p ≡ join_packet b to g joined q
    → is_unicast a ≡ true → is_unicast b ≡ true → a ≡ b
same_sender a b to g joined p q e la lb =
    let at : (k x y : ℕ) → slice_get (join_packet a to g joined p) k ≡ Some x → slice_get (join_packet b to g joined q) k ≡ Some y → x ≡ y =
    λ k x y f h. same_some (slice_get (join_packet a to g joined p) k) (slice_get (join_packet b to g joined q) k) x y
    (ap (λ (l : List ℕ). slice_get l k) e) f h in
    same_word a b (unicast_fits a la) (unicast_fits b lb)
    (at 12 (byte_at 3 a) (byte_at 3 b) (first_byte to g joined p a) (first_byte to g joined q b))
    (at 13 (byte_at 2 a) (byte_at 2 b) (second_byte to g joined p a) (second_byte to g joined q b))
    (at 14 (byte_at 1 a) (byte_at 1 b) (third_byte to g joined p a) (third_byte to g joined q b))
    (at 15 (byte_at 0 a) (byte_at 0 b) (fourth_byte to g joined p a) (fourth_byte to g joined q b))

-- ---- what is asked of each move

module _ (nowhere : Station) (x : Join) (g d : ℕ) (started : ℕ → ℕ) (c : Pair) where
  abbrev no_timer : JoinTimerRow
  no_timer = record { end = 0 }

  -- the lower router's Join timer, and the states of both routers
  abbrev pub timer_in : Network → JoinTimerRow
  timer_in n = unwrap_or (row_at (stand nowhere n c.lower).state.join_timers (join_key x 0 g)) no_timer

  abbrev pub lower_in : Network → State
  lower_in n = (stand nowhere n c.lower).state

  abbrev pub upper_in : Network → State
  upper_in n = (stand nowhere n c.upper).state

  pub with_timer : (n : Network) (P : JoinTimerRow → Type 0) → P (timer_in n) → (row : JoinTimerRow)
      → row_at (lower_in n).join_timers (join_key x 0 g) ≡ Some row → P row
  with_timer n P f row is = subst P (ap (λ (o : Option JoinTimerRow). unwrap_or o no_timer) is) f

  pub timely : (n n' : Network)
      → time_at started c.lower (stand nowhere n' c.lower) ≤ (timer_in n).end + started c.lower + d
      → time_at started c.upper (stand nowhere n' c.upper) ≤ (timer_in n).end + started c.lower + d
      → (st : Station) (row : JoinTimerRow) → station_at n c.lower ≡ Some st
      → row_at (st.state).join_timers (join_key x 0 g) ≡ Some row
      → IsBy started c.lower (row.end + started c.lower + d) n' × IsBy started c.upper (row.end + started c.lower + d) n'
  timely n n' low up st row at is =
      with_station nowhere n c.lower
      (λ st. row_at (st.state).join_timers (join_key x 0 g) ≡ Some row
      → IsBy started c.lower (row.end + started c.lower + d) n' × IsBy started c.upper (row.end + started c.lower + d) n')
      (with_timer n
      (λ (r : JoinTimerRow). IsBy started c.lower (r.end + started c.lower + d) n' × IsBy started c.upper (r.end + started c.lower + d) n') (
        with_station nowhere n' c.lower (λ st. time_at started c.lower st ≤ (timer_in n).end + started c.lower + d) low,
        with_station nowhere n' c.upper (λ st. time_at started c.upper st ≤ (timer_in n).end + started c.lower + d) up,
      ) row)
      st at is

  -- the lower router sees no Join of another
  pub none_shared : (n : Network) (m : Move) (ms : List Move)
      → is_suppressed x (lower_in n) g c.hop (done_as (happens (lower_in n) (event_in n m))) ≡ false
      → (e : Event) (st : Station) → event_of n m ≡ Some (c.lower, e) → station_at n c.lower ≡ Some st
      → is_suppressed x st.state g c.hop (done_as (happens st.state e)) ≡ true → ComesToBoth x g d started c n m ms
  none_shared n m ms f e st ev at is =
      let off : is_suppressed x st.state g c.hop (done_as (happens st.state e)) ≡ false =
      with_station nowhere n c.lower (λ st. is_suppressed x st.state g c.hop (done_as (happens st.state e)) ≡ false)
      (with_event n m c.lower (λ e. is_suppressed x (lower_in n) g c.hop (done_as (happens (lower_in n) e)) ≡ false) f e ev) st at in
      let no : false ≡ true = sym off ∙ is in cc

  -- nobody prunes it at the upper router
  pub none_pruned : (n : Network) (m : Move) → prunes_it x g c.down (done_as (happens (upper_in n) (event_in n m))) ≡ false
      → (e : Event) (st : Station) → event_of n m ≡ Some (c.upper, e) → station_at n c.upper ≡ Some st
      → prunes_it x g c.down (done_as (happens st.state e)) ≡ false
  none_pruned n m f e st ev at =
      with_station nowhere n c.upper (λ st. prunes_it x g c.down (done_as (happens st.state e)) ≡ false)
      (with_event n m c.upper (λ e. prunes_it x g c.down (done_as (happens (upper_in n) e)) ≡ false) f e ev) st at

  -- the one frame that leaves is the Join, which prunes nothing
  pub join_alone : (n n' : Network) (number : ℕ) (pruned : List ℕ) → drop (length n.frames) n'.frames ≡ frame_of x g c [] ∷ []
      → length n.frames < number → frame_at n' number ≡ Some (frame_of x g c pruned)
      → (number ≡ suc (length n.frames)) × (pruned ≡ [])
  join_alone n n' number pruned told later got =
      let first : IsFirst number (suc (length n.frames)) (frame_of x g c pruned) (frame_of x g c []) =
      only_new n n' (frame_of x g c []) (frame_of x g c pruned) number told later got in
      let whole : length (frame_of x g c []).bytes ≡ 54 = length-packet c.from (c.hop).address.bits g (entry_of x) [] in (
        first.number,
        prunes_nothing c.from (c.hop).address.bits g (entry_of x) pruned (ap (λ (f : Sent). length f.bytes) first.frame ∙ whole),
      )

  -- so it comes in time, whichever of the frames with its bytes is meant
  pub joins_told : (n n' : Network) (ms : List Move) → drop (length n.frames) n'.frames ≡ frame_of x g c [] ∷ []
      → IsWritable c.from (c.hop).address.bits g (entry_of x) (prunes_of [])
      → ComesBy x g d started c [] (suc (length n.frames)) (time_at started c.lower (stand nowhere n' c.lower)) n' ms
      → (st : Station) (number : ℕ) (pruned : List ℕ) → station_at n' c.lower ≡ Some st → length n.frames < number
      → frame_at n' number ≡ Some (frame_of x g c pruned)
      → IsWritable c.from (c.hop).address.bits g (entry_of x) (prunes_of pruned)
      × ComesBy x g d started c pruned number (time_at started c.lower st) n' ms
  joins_told n n' ms told writable comes st number pruned at later got =
      let same : (number ≡ suc (length n.frames)) × (pruned ≡ []) = join_alone n n' number pruned told later got in
      subst (λ (ps : List ℕ). IsWritable c.from (c.hop).address.bits g (entry_of x) (prunes_of ps)
      × ComesBy x g d started c ps number (time_at started c.lower st) n' ms) (sym same.1) (
        writable,
        subst (λ (k : ℕ). ComesBy x g d started c [] k (time_at started c.lower st) n' ms) (sym same.0)
            (with_station nowhere n' c.lower
            (λ st. ComesBy x g d started c [] (suc (length n.frames)) (time_at started c.lower st) n' ms) comes st at),
      )

  -- ---- Joins of others, on the link

  module _ (sent : ℕ → ℕ) (n n' : Network) (ms : List Move) where
    abbrev EachComes : Type 0
    EachComes = (number from : ℕ) (pruned : List ℕ) → length n.frames < number
        → frame_at n' number ≡ Some (frame_from x g c from pruned)
        → IsWritable from (c.hop).address.bits g (entry_of x) (prunes_of pruned)
        → ComesFrom x g d started c from pruned number (sent number) n' ms

    -- none leaves
    pub no_others : drop (length n.frames) n'.frames ≡ [] → EachComes
    no_others told number from pruned later got writable = absurd (none_new n n' (frame_from x g c from pruned) number told later got)

    -- the one frame that leaves is such a Join, which prunes nothing, and comes
    pub one_other : (from : ℕ) → drop (length n.frames) n'.frames ≡ frame_from x g c from [] ∷ [] → is_unicast from ≡ true
        → ComesFrom x g d started c from [] (suc (length n.frames)) (sent (suc (length n.frames))) n' ms → EachComes
    one_other own told host comes number from pruned later got writable =
        let first : IsFirst number (suc (length n.frames)) (frame_from x g c from pruned) (frame_from x g c own []) =
        only_new n n' (frame_from x g c own []) (frame_from x g c from pruned) number told later got in
        let whole : length (frame_from x g c own []).bytes ≡ 54 = length-packet own (c.hop).address.bits g (entry_of x) [] in
        let bytes : (frame_from x g c from pruned).bytes ≡ (frame_from x g c own []).bytes = ap (λ (f : Sent). f.bytes) first.frame in
        let none : pruned ≡ [] =
        prunes_nothing from (c.hop).address.bits g (entry_of x) pruned (ap (λ (b : List ℕ). length b) bytes ∙ whole) in
        let same : from ≡ own =
        same_sender from own (c.hop).address.bits g (entry_of x) (prunes_of pruned) (prunes_of []) bytes writable.from_host host in
        subst (λ (k : ℕ). ComesFrom x g d started c from pruned k (sent k) n' ms) (sym first.number)
        (subst (λ (ps : List ℕ). ComesFrom x g d started c from ps (suc (length n.frames)) (sent (suc (length n.frames))) n' ms) (sym none)
        (subst (λ (a : ℕ). ComesFrom x g d started c a [] (suc (length n.frames)) (sent (suc (length n.frames))) n' ms) (sym same) comes))
