-- Whether routers of a way forward a source's packets past a bound, and no others send them: tests, and that where they pass it is so.
use Rattle.std.{proofs.{Common.{◌≡◌, ◌∙◌, ℕ, zero, suc, ◌+◌, ◌<◌, ◌≤◌, ◌==◌, nat_le, nat_lt, not, ◌&&◌, ◌||◌, Bool, true, false, List, [], ◌∷◌, length, Option, Some, None, is_some, refl, sym, ap, subst, arith, eqb-true, eq-eqb}}, specs.{List.Contains, Option.option_map_or, Prelude.slice_get}}
use Rattle.byteorder.{specs.Endian.big_from}
use Rattle.pim_ip.{specs.{Ipv4.{Packet, packet_of}}}
use Rattle.pim_types.{specs.{Keys.star_key, declared.{event.Event.Event, fact.DownstreamRow.DownstreamRow}}}
use Rattle.pim_model.{specs.{Full.source_is_full, Network.{At, Deliver, DeliverUnicast, Move, Network, Sent, Station, event_of, moved, station_at}, Sets.{assert_source, assert_star, is_loser, prunes, spt_bit}, State.{iface_count, is_own, is_up}, Tables.{row_at, same_option}, Unicast.{is_rpf_interface, is_rpf_interface_rp}, Writing.on_link}}
use Rattle.law_settled.{proofs.ReadPackets.packet_is}
use Rattle.law_events.{specs.Rest.IsAtRest}
use Rattle.law_streams.{specs.{Copies.copies_at, InTimeJoins.{IsReady, Pair, time_at}, Passing.{AreMatched, GoesOut, IsJoinedThere, IsWanted, Receiver, Tree, is_asked}}, proofs.{Deliveries.{IsNewOn, IsStepped, is_stepped}, Forwards.from_copies, Pairs.same_station}}
use Rattle.law_converges.{specs.{CarriedWays.IsClear, ComesOnce.{Forwarder, Forwards, HasOneOn, IsAlone, IsFromAbove, IsOfSource, Root, SendsDown, SendsOn, Stream, TakesFromAbove}, Past.{ArePast, HoldsPast}}, proofs.{TakesOver.moved_so, Tested.{Found, after_so, each_found, each_new, else_so, found, le_so, lt_so, moves_so, off_so, or_else, run_test, same_so, then}}}

-- ---- past a bound

module _ (started : ℕ → ℕ) (bound r : ℕ) where
  -- the time at one router isn't past it yet
  abbrev pub early : Network → Bool
  early n = option_map_or (λ (st : Station). nat_le (time_at started r st) bound) (station_at n r) false

  pub isnt_past : (n : Network) → early n ≡ true → ArePast started bound n → ⊥
  isnt_past n e past =
      let f : Found Station (λ (st : Station). nat_le (time_at started r st) bound) (station_at n r) = found Station _ (station_at n r) e in
      over (time_at started r f.it) (le_so _ _ f.passes) (past r f.it f.is)
    where
      over : (a : ℕ) → a ≤ bound → bound < a → ⊥
      over a le lt = omega (arith, le, lt)

  abbrev pub past_run : (Network → Bool) → Network → List Move → Bool
  past_run p n ms = run_test (λ n. true) (λ n m next ms. or_else (early next) (λ u. p next)) n ms

  pub past_run_so : (p : Network → Bool) (P : Network → Type 0) → ((n : Network) → p n ≡ true → P n) → (ms : List Move) (n : Network)
      → past_run p n ms ≡ true → HoldsPast started bound P n ms
  past_run_so p P so ms n e =
      moves_so (λ n. true) (λ n m next ms. or_else (early next) (λ u. p next)) (HoldsPast started bound P) (λ n. tt)
      (λ n m ms e f. (λ past. one (moved n m).1 past (early (moved n m).1) refl e, f)) ms n e
    where
      one : (x : Network) → ArePast started bound x → (b : Bool) → early x ≡ b → or_else b (λ u. p x) ≡ true → P x
      one x past true is e = absurd (isnt_past x is past)
      one x past false is e = so x e

-- ---- links

abbrev pub only_on : (link down k : ℕ) → List ℕ → Bool
only_on link down k [] = true
only_on link down k (l ∷ ls) = (not (l == link) || (k == down)) && only_on link down (suc k) ls

only_so : (link down k i : ℕ) (ls : List ℕ) → only_on link down k ls ≡ true → slice_get ls i ≡ Some link → i + k ≡ down
only_so link down k i [] e got = cc got
only_so link down k zero (l ∷ ls) e got = then e (λ first rest. its (l == link) refl first)
  where
    same : (let o : Option ℕ = Some l in o) ≡ Some link → l ≡ link
    same h = cc h

    contradicts : (b : Bool) → b ≡ false → b ≡ true → ⊥
    contradicts b f h = cc (sym f ∙ h)

    its : (b : Bool) → (l == link) ≡ b → (not b || (k == down)) ≡ true → 0 + k ≡ down
    its true is h = let same : k ≡ down = eqb-true k down h in omega (arith, same)
    its false is h = absurd (contradicts (l == link) is (eq-eqb l link (same got)))
only_so link down k (suc i) (l ∷ ls) e got = then e (λ first rest. moved_on (only_so link down (suc k) i ls rest got))
  where
    moved_on : i + suc k ≡ down → suc i + k ≡ down
    moved_on h = omega (arith, h)

abbrev pub one_on : (down link : ℕ) → Station → Bool
one_on down link st = same_option (slice_get st.links down) (Some link) && only_on link down 0 st.links

pub one_on_so : (down link : ℕ) (st : Station) → one_on down link st ≡ true → HasOneOn down link st
one_on_so down link st e =
    then e (λ linked single. record {
      linked = same_so _ _ linked;
      single = λ i got. plain i (only_so link down 0 i st.links single got);
    })
  where
    plain : (i : ℕ) → i + 0 ≡ down → i ≡ down
    plain i h = omega (arith, h)

-- ---- a router of a way

module _ (g src : ℕ) where
  -- a router or a host wants the packets on an interface
  abbrev wanted_test : Receiver → Station → ℕ → Bool
  wanted_test Receiver.Router st j = is_some (row_at (st.state).downstream (star_key j g)) && not (prunes st.state g src j)
  wanted_test Receiver.Host st j = is_asked st.state g src j
  wanted_test Receiver.SourceRouter st j = false

  joined_so : (st : Station) (j : ℕ) → wanted_test Receiver.Router st j ≡ true → IsJoinedThere st.state g src j
  joined_so st j e = then e (λ there unpruned. go (row_at (st.state).downstream (star_key j g)) refl there (off_so _ unpruned))
    where
      go : (o : Option DownstreamRow) → row_at (st.state).downstream (star_key j g) ≡ o → is_some o ≡ true → prunes st.state g src j ≡ false
          → IsJoinedThere st.state g src j
      go None is e unpruned = cc e
      go (Some row) is e unpruned = record { row = row; found = is; none_prunes = unpruned }

  wanted_so : (receiver : Receiver) (st : Station) (j : ℕ) → wanted_test receiver st j ≡ true → IsWanted receiver st.state g src j
  wanted_so Receiver.Router st j e = joined_so st j e
  wanted_so Receiver.Host st j e = e
  wanted_so Receiver.SourceRouter st j e = cc e

  -- what comes on the shared tree is for a router that joined the group, or for a host
  abbrev is_matched : Receiver → Bool
  is_matched Receiver.SourceRouter = false
  is_matched receiver = true

  matched_so : (receiver : Receiver) → is_matched receiver ≡ true → AreMatched Tree.Shared receiver
  matched_so Receiver.Router e = tt
  matched_so Receiver.Host e = tt
  matched_so Receiver.SourceRouter e = cc e

  -- the packets go out there
  abbrev out_test : Receiver → (down : ℕ) → Station → Bool
  out_test receiver down st =
      nat_lt down (iface_count st.state) && (not (is_loser (assert_star st.state g down))
      && (not (is_loser (assert_source st.state g src down)) && wanted_test receiver st down))

  out_so : (receiver : Receiver) (down : ℕ) (st : Station) → out_test receiver down st ≡ true → GoesOut receiver st.state g src down
  out_so receiver down st e =
      then e (λ configured e. then e (λ group e. then e (λ source wanted. record {
        configured = lt_so _ _ configured;
        group = off_so _ group;
        source = off_so _ source;
        wanted = wanted_so receiver st down wanted;
      })))

  module _ (f : Forwarder) (receiver : Receiver) where
    -- its interfaces are on these links
    abbrev linked_test : Station → Bool
    linked_test st = same_option (slice_get st.links (f.self).iface) (Some f.above) && one_on f.down f.below st

    abbrev forwards_station : Station → Bool
    forwards_station st =
        nat_lt (f.self).iface (iface_count st.state) && (is_up st.state (f.self).iface && (not (is_own st.state src)
        && (is_rpf_interface_rp st.state g (f.self).iface
        && (not (spt_bit st.state g src && not (is_rpf_interface st.state src (f.self).iface))
        && (is_matched receiver && (out_test receiver f.down st && (not (source_is_full st.state g src)
        && (not (f.down == (f.self).iface) && linked_test st))))))))

    abbrev pub forwards_at : Network → Bool
    forwards_at n = option_map_or forwards_station (station_at n (f.self).router) false

    pub forwards_so : (n : Network) → IsReady (f.self).router n → forwards_at n ≡ true → Forwards g src f n
    forwards_so n ready e =
        let i : Found Station forwards_station (station_at n (f.self).router) = found Station forwards_station (station_at n (f.self).router) e in
        then i.passes (λ up e. then e (λ is_up e. then e (λ foreign e. then e (λ on e. then e (λ too e. then e (λ matched e. then e (λ out e. then e (λ room e.
        then e (λ apart e. then e (λ linked one. record {
          station = i.it;
          there = i.is;
          passes = Stream Tree.Shared receiver (record {
            settled = (subst (λ (z : Station). IsAtRest z.state) (same_station ready.there i.is) ready.at_rest).settled;
            matched = matched_so receiver matched;
            comes_in = record {
              configured = lt_so _ _ up;
              is_up = is_up;
              foreign = off_so _ foreign;
              on = record { on_tree = on; source_too = off_so _ too };
            };
            goes_out = out_so receiver f.down i.it out;
            room = off_so _ room;
            on = off_so _ apart;
          });
          above = same_so _ _ linked;
          below = one_on_so f.down f.below i.it one;
        }))))))))))

  -- ---- the root

  module _ (root : Root) where
    abbrev sends_station : Station → Bool
    sends_station st = out_test Receiver.Router root.down st && one_on root.down root.below st

    abbrev pub sends_at : Network → Bool
    sends_at n = option_map_or sends_station (station_at n root.router) false

    pub sends_so : root.tree ≡ Tree.Shared → (n : Network) → IsReady root.router n → sends_at n ≡ true → SendsDown g src root n
    sends_so shared n ready e =
        let i : Found Station sends_station (station_at n root.router) = found Station sends_station (station_at n root.router) e in
        then i.passes (λ out one. record {
          station = i.it;
          there = i.is;
          sends = subst (λ (t : Tree). SendsOn t (i.it).state g src root.down) (sym shared) (record {
            settled = (subst (λ (z : Station). IsAtRest z.state) (same_station ready.there i.is) ready.at_rest).settled;
            goes_out = out_so Receiver.Router root.down i.it out;
          });
          below = one_on_so root.down root.below i.it one;
        })

  -- ---- a next hop

  module _ (c : Pair) where
    abbrev clear_station : Station → Bool
    clear_station st =
        nat_lt c.down (iface_count st.state) && (not (is_loser (assert_star st.state g c.down))
        && (not (is_loser (assert_source st.state g src c.down)) && (not (prunes st.state g src c.down) && one_on c.down c.link st)))

    abbrev pub clear_at : Network → Bool
    clear_at n = option_map_or clear_station (station_at n c.upper) false

    pub clear_so : (n : Network) → clear_at n ≡ true → IsClear g src c n
    clear_so n e =
        let f : Found Station clear_station (station_at n c.upper) = found Station clear_station (station_at n c.upper) e in
        then f.passes (λ configured e. then e (λ group e. then e (λ source e. then e (λ unpruned one. record {
          station = f.it;
          there = f.is;
          configured = lt_so _ _ configured;
          group = off_so _ group;
          source = off_so _ source;
          unpruned = off_so _ unpruned;
          one = one_on_so c.down c.link f.it one;
        }))))

  -- ---- who sends the packets

  -- a frame on a link to the group
  abbrev is_data_on : (link : ℕ) → Sent → Bool
  is_data_on link f = same_option f.link (Some link) && (big_from 16 4 f.bytes == g)

  module _ (link : ℕ) (text : List ℕ) (its : IsOfSource g src text) where
    its_destination : big_from 16 4 text ≡ g
    unfolding packet_of
    its_destination = ap (λ (p : Packet). p.destination) (sym (packet_is text its.packet its.reads)) ∙ its.group

    data_there : is_data_on link (record { link = Some link; bytes = text }) ≡ true
    data_there = two (eq-eqb link link refl) (eq-eqb (big_from 16 4 text) g (its_destination))
      where
        two : {a b : Bool} → a ≡ true → b ≡ true → (a && b) ≡ true
        two e f = cc

    -- none is new there
    abbrev NoneNew : Network → Network → Bool
    NoneNew n next = each_new (λ k f. not (is_data_on link f)) n next

    none_sent : (n : Network) (m : Move) (q j : ℕ) (e : Event) (st : Station) → event_of n m ≡ Some (q, e) → station_at n q ≡ Some st
        → slice_get st.links j ≡ Some link → Contains (copies_at st.state e) (on_link j text) → NoneNew n (moved n m).1 ≡ true → ⊥
    none_sent n m q j e st is at linked copied none =
        contradicts (is_data_on link (record { link = Some link; bytes = text })) (data_there)
        (off_so _ (after_so (length n.frames) (λ k f. not (is_data_on link f)) (moved n m).1 none (new.on).number _ new.later (new.on).is))
      where
        contradicts : (b : Bool) → b ≡ true → b ≡ false → ⊥
        contradicts b f h = cc (sym f ∙ h)

        stepped_so : IsStepped n q st e (moved n m).1
        stepped_so = subst (λ (x : Network). IsStepped n q st e x) (sym (moved_so n m q e st is at)) (is_stepped n q st e at)

        new : IsNewOn n (moved n m).1 link text
        new = (stepped_so).sent j link text linked (from_copies st.state e (on_link j text) copied)

  abbrev none_new : (link : ℕ) → Network → Network → Bool
  none_new link n next = each_new (λ k f. not (is_data_on link f)) n next

  -- only one router sends them on a link by the move
  abbrev pub alone_test : (r link : ℕ) → Network → Move → Network → Bool
  alone_test r link n m next = option_map_or (λ (x : ℕ × Event). or_else (x.0 == r) (λ u. none_new link n next)) (event_of n m) true

  pub alone_so : (r link : ℕ) (n : Network) (m : Move) → alone_test r link n m (moved n m).1 ≡ true → IsAlone g src r link n m
  alone_so r link n m passed q j e st text is at linked its copied =
      go (q == r) refl (each_found (λ (x : ℕ × Event). or_else (x.0 == r) (λ u. none_new link n (moved n m).1)) (event_of n m) (q, e) passed is)
    where
      go : (b : Bool) → (q == r) ≡ b → or_else b (λ u. none_new link n (moved n m).1) ≡ true → q ≡ r
      go true same h = eqb-true q r same
      go false off h = absurd (none_sent link text its n m q j e st is at linked copied h)

  -- what a router sends on the link below comes from the link above
  abbrev is_from_above : Forwarder → Move → Bool
  is_from_above f (At q e) = false
  is_from_above f (DeliverUnicast q k draw) = false
  is_from_above f (Deliver q i k draw) = (q == (f.self).router) && (i == (f.self).iface)

  from_above_so : (f : Forwarder) (m : Move) → is_from_above f m ≡ true → IsFromAbove f m
  from_above_so f (At q e) h = cc h
  from_above_so f (DeliverUnicast q k draw) h = cc h
  from_above_so f (Deliver q i k draw) h =
      then h (λ router iface. record { frame = k; draw = draw; is = same (eqb-true q _ router) (eqb-true i _ iface) })
    where
      same : q ≡ (f.self).router → i ≡ (f.self).iface → Deliver q i k draw ≡ Deliver (f.self).router (f.self).iface k draw
      same a b = rw (a, b) refl

  abbrev pub takes_test : Forwarder → Network → Move → Network → Bool
  takes_test f n m next = or_else (is_from_above f m) (λ u. option_map_or (λ (x : ℕ × Event). or_else (not (x.0 == (f.self).router))
      (λ v. option_map_or (λ (st : Station). same_option (slice_get st.links f.down) (Some f.below)) (station_at n (f.self).router) true
      && none_new f.below n next)) (event_of n m) true)

  pub takes_so : (f : Forwarder) (n : Network) (m : Move) → takes_test f n m (moved n m).1 ≡ true → TakesFromAbove g src n m f
  takes_so f n m passed e st text is at its copied = go (is_from_above f m) refl passed
    where
      Other : Bool
      Other = option_map_or (λ (x : ℕ × Event). or_else (not (x.0 == (f.self).router))
          (λ v. option_map_or (λ (st : Station). same_option (slice_get st.links f.down) (Some f.below)) (station_at n (f.self).router) true
          && none_new f.below n (moved n m).1)) (event_of n m) true

      go : (b : Bool) → is_from_above f m ≡ b → or_else b (λ u. Other) ≡ true → IsFromAbove f m
      go true same h = from_above_so f m same
      go false off h =
          then (else_so ((f.self).router == (f.self).router)
          (λ v. option_map_or (λ (st : Station). same_option (slice_get st.links f.down) (Some f.below)) (station_at n (f.self).router) true
          && none_new f.below n (moved n m).1)
          (each_found (λ (x : ℕ × Event). or_else (not (x.0 == (f.self).router))
          (λ v. option_map_or (λ (st : Station). same_option (slice_get st.links f.down) (Some f.below)) (station_at n (f.self).router) true
          && none_new f.below n (moved n m).1)) (event_of n m) ((f.self).router, e) h is)
          (eq-eqb (f.self).router (f.self).router refl))
          (λ linked none. absurd (none_sent f.below text its n m (f.self).router f.down e st is at
          (same_so _ _ (each_found (λ (st : Station). same_option (slice_get st.links f.down) (Some f.below)) (station_at n (f.self).router) st linked at))
          copied none))
