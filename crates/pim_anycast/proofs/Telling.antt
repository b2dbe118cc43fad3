-- A router of a set that hears of a source tells each of the others.
use Rattle.std.{proofs.{Common.{◌≡◌, ◌∙◌, ℕ, zero, suc, ◌+◌, ◌-◌, ◌<◌, ◌≤◌, ◌==◌, Bool, true, false, cond, min, is_some, List, [], ◌∷◌, ◌++◌, drop, flat_map, get_or, length, take, Option, Some, None, Result, Ok, Err, refl, sym, ap, subst, arith}, lemmas.{List.{Elements.{Contains-append_left, Contains-append_right}, length-drop, length-take}}}, specs.{Cmp.second_so, List.Contains, Option.option_map_or}}
use Rattle.pim_ip.{specs.{Ipv4.{Packet, header_length_of, ipv4_reading, packet_limit, packet_of, protocol_pim, total_length_of}, declared.{addr.Addr.Addr, refusal.Refusal.Refusal}}}
use Rattle.pim_types.{specs.{Keys.{group_in, same_key, source_in, source_key}, declared.{event.Event.Event, fact.{Key.Key, SourceRow.SourceRow}, outcome.Emission.Emission}}, proofs.Keys.equal_keys}
use Rattle.pim_wire.{specs.{Messages.pim_reading, RegisterParts.registered_group, Registers.null_register_text, Values.{Null, Register}, declared.view.PimView.PimView}, proofs.Laws.null_register_reads}
use Rattle.pim_model.{specs.{Registers.is_dr_of_path, Sets.is_kept_alive, State.State, Step.{Answered, step}, Tables.{Table, keys_in, row_at}, Unicast.route, Writing.unicast_time_to_live}}
use Rattle.law_settled.{proofs.ReadPackets.{packet_is, passed}}
use Rattle.law_streams.{proofs.Links.{contains_later, contains_mapped, contains_passing}}
use Rattle.pim_anycast.{specs.{Announced.{announced, announced_all, announced_due, announced_new, is_announced, is_local, local_keys}, Joined.{event_given, joined_step, outcome_with, packet_announced, sent_after, sent_before}, Members.{HasLocal, HeardIsTold, Hears, HearsPacket, HearsRegister, HearsStill, IsRegisterOf, TellsOthers}, Passed.{copies_of, packet_passed, passed as passed_bytes, passed_by, register_in, register_of}, Sets.{sent_to, set_for, to_others}, declared.{front.Passed.Passed, set.RpSet.RpSet}}, proofs.NullLength.null_long}

-- ---- what a packet brings

-- a Register in a packet is read from its payload
brings_register : (p : Packet) (r : Register) → register_in p ≡ Some r → pim_reading p.payload ≡ Ok (PimView.Register r)
unfolding register_in
brings_register p r e = go (p.protocol == protocol_pim) (pim_reading p.payload) e
  where
    of_read : (x : Result PimView Refusal) → register_of x ≡ Some r → x ≡ Ok (PimView.Register r)
    of_read (Ok (PimView.Register q)) e = let same : q ≡ r = cc in ap (λ (z : Register). Ok (PimView.Register z)) same
    of_read (Ok (PimView.RegisterStop m)) e = cc e
    of_read (Ok (PimView.Hello m)) e = cc e
    of_read (Ok (PimView.JoinPrune m)) e = cc e
    of_read (Ok (PimView.Assert m)) e = cc e
    of_read (Ok PimView.Other) e = cc e
    of_read (Err refusal) e = cc e

    go : (b : Bool) (x : Result PimView Refusal) → cond b (register_of x) None ≡ Some r → x ≡ Ok (PimView.Register r)
    go true x e = of_read x e
    go false x e = cc e

payload_fits : (b : List ℕ) (p : Packet) → ipv4_reading b ≡ Ok p → 20 + length p.payload ≤ packet_limit
unfolding packet_of
payload_fits b p e =
    let m = (passed b p e).measured in
    let lo : ℕ = header_length_of b in
    let hi : ℕ = total_length_of b in
    let same : length p.payload ≡ length (take (hi - lo) (drop lo b)) = ap (λ (q : Packet). length q.payload) (packet_is b p e) in
    let long : length (take (hi - lo) (drop lo b)) ≡ min (hi - lo) (length (drop lo b)) = length-take (hi - lo) (drop lo b) in
    let within = m.within_limit in
    let least = m.header_length in
    let whole = m.whole in
    omega (arith, same, long, length-drop lo b, within, least, whole)

-- ---- what leaves

module _ (sets : List RpSet) (s : State) (e : Event) where
  abbrev after : State
  after = (joined_step sets s e).1

  abbrev ended : Answered
  ended = step s (event_given sets s e)

  abbrev sent_first : List Emission
  sent_first = sent_before sets s e.kind ++ (ended).emissions

  emissions_are : (joined_step sets s e).0.emissions ≡ sent_first ++ sent_after sets s (ended).state e.kind
  unfolding joined_step outcome_with
  emissions_are = refl

  after_is : after ≡ (ended).state
  unfolding joined_step
  after_is = refl

  sends_before : (x : Emission) → Contains (sent_before sets s e.kind) x → Contains (joined_step sets s e).0.emissions x
  sends_before x c =
      subst (λ (xs : List Emission). Contains xs x) (sym emissions_are)
      (Contains-append_left sent_first (sent_after sets s (ended).state e.kind) x
      (Contains-append_left (sent_before sets s e.kind) (ended).emissions x c))

  sends_after : (x : Emission) → Contains (sent_after sets s after e.kind) x → Contains (joined_step sets s e).0.emissions x
  sends_after x c =
      subst (λ (xs : List Emission). Contains xs x) (sym emissions_are)
      (Contains-append_right sent_first (sent_after sets s (ended).state e.kind) x
      (subst (λ (t : State). Contains (sent_after sets s t e.kind) x) after_is c))

to_each : (set : RpSet) (time_to_live : ℕ) (message : List ℕ) (other : Addr) → Contains set.others other
    → Contains (to_others set time_to_live message) (sent_to set time_to_live message other)
unfolding to_others
to_each set time_to_live message other c = contains_mapped (sent_to set time_to_live message) set.others other c

-- ---- a Register from outside the set

module _ (sets : List RpSet) (s : State) (e : Event) (set : RpSet) (g src : ℕ) (h : HearsRegister sets s e set g src) where
  abbrev p : Packet
  p = h.packet

  for_it : set_for sets s.ranges (registered_group h.register) ≡ Some set
  for_it = ap (set_for sets s.ranges) h.group ∙ h.for_it

  copied : packet_passed sets s.ranges p ≡ Passed.Copied (to_others set (p.time_to_live - 1) p.payload)
  unfolding packet_passed passed_by
  copied = rw (h.brings, for_it, h.copied) refl

  bytes_copied : copies_of (passed_bytes sets s.ranges h.bytes) ≡ to_others set (p.time_to_live - 1) p.payload
  unfolding passed_bytes
  bytes_copied = rw h.reads (ap copies_of copied)

  before_is : sent_before sets s e.kind ≡ to_others set (p.time_to_live - 1) p.payload
  before_is = ap (sent_before sets s) h.is ∙ bytes_copied

  by_register : TellsOthers sets s e set g src
  by_register = record {
    time_to_live = p.time_to_live - 1;
    message = p.payload;
    is = record {
      register = h.register;
      reads = brings_register p h.register h.brings;
      group = h.group;
      source = h.source;
      fits = payload_fits h.bytes p h.reads;
    };
    leaves = λ other c.
        sends_before sets s e (sent_to set (p.time_to_live - 1) p.payload other)
        (subst (λ (xs : List Emission). Contains xs (sent_to set (p.time_to_live - 1) p.payload other)) (sym before_is)
        (to_each set (p.time_to_live - 1) p.payload other c));
  }

-- ---- a source of the router's own link

module _ (sets : List RpSet) (s : State) (e : Event) (set : RpSet) (g src : ℕ)
    (has : HasLocal sets (joined_step sets s e).1 set g src) where
  abbrev reached : State
  reached = (joined_step sets s e).1

  announced_is : announced sets (reached).ranges g src ≡ to_others set unicast_time_to_live (null_register_text src g)
  unfolding announced
  announced_is = rw has.for_it refl

  is_null : IsRegisterOf (null_register_text src g) g src
  is_null =
      let long = null_long src g in
      record {
        register = Null src g;
        reads = null_register_reads src g has.host has.multicast;
        group = refl;
        source = refl;
        fits = omega (arith, long);
      }

  told_after : (xs : List Emission) → sent_after sets s reached e.kind ≡ xs
      → ((x : Emission) → Contains (announced sets (reached).ranges g src) x → Contains xs x) → TellsOthers sets s e set g src
  told_after xs is there = record {
    time_to_live = unicast_time_to_live;
    message = null_register_text src g;
    is = is_null;
    leaves = λ other c.
        let x : Emission = sent_to set unicast_time_to_live (null_register_text src g) other in
        sends_after sets s e x
        (subst (λ (ys : List Emission). Contains ys x) (sym is)
        (there x (subst (λ (ys : List Emission). Contains ys x) (sym announced_is)
        (to_each set unicast_time_to_live (null_register_text src g) other c))));
  }

module _ (sets : List RpSet) (s : State) (e : Event) (set : RpSet) (g src : ℕ) (h : HearsPacket sets s e set g src) where
  new_is : sent_after sets s (joined_step sets s e).1 e.kind ≡ announced sets (joined_step sets s e).1.ranges g src
  unfolding announced_new
  new_is =
      let t : State = (joined_step sets s e).1 in
      let new : (group source : ℕ) → List Emission = λ group source.
      announced_new sets t.ranges (is_announced sets s.ranges (is_local s group source) group) (is_local t group source) group source in
      let is : new g src ≡ announced sets t.ranges g src = rw (h.new, h.has.here) refl in
      ap (sent_after sets s t) h.is
      ∙ (ap (packet_announced sets s t) h.reads
      ∙ (ap (λ (n : ℕ). new n (h.packet).source) h.group ∙ (ap (new g) h.source ∙ is)))

  by_packet : TellsOthers sets s e set g src
  by_packet = told_after sets s e set g src h.has _ new_is (λ x c. c)

-- ---- time

module _ {X Y : Type 0} (f : X → List Y) (y : Y) where
  in_flat_map : (xs : List X) (x : X) → Contains xs x → Contains (f x) y → Contains (flat_map f xs) y
  in_flat_map [] x c d = absurd (omega (arith, c.1))
  in_flat_map (z ∷ zs) x c d = go (λ later. in_flat_map zs x later d) c.0 c.1 c.2
    where
      go : (Contains zs x → Contains (flat_map f zs) y) → (k : ℕ) → k < length (z ∷ zs) → get_or (z ∷ zs) k x ≡ x
          → Contains (flat_map f (z ∷ zs)) y
      go later zero l is =
          Contains-append_left (f z) (flat_map f zs) y (subst (λ (w : X). Contains (f w) y) (sym is) d)
      go later (suc k) l is = Contains-append_right (f z) (flat_map f zs) y (later (k, omega arith, is))

-- the key of a row that is there
key_there : {R : Type 0} (k : Key) (t : Table R) → is_some (row_at t k) ≡ true → Contains (keys_in t) k
unfolding row_at keys_in
key_there k [] e = cc e
key_there k (x ∷ t) e = go (same_key k x.0) refl (key_there k t) e
  where
    go : (b : Bool) → same_key k x.0 ≡ b → (is_some (row_at t k) ≡ true → Contains (keys_in t) k)
        → is_some (cond b (Some x.1) (row_at t k)) ≡ true → Contains (x.0 ∷ keys_in t) k
    go true same later e = (0, omega arith, sym (equal_keys k x.0 same))
    go false off later e = contains_later x.0 k (keys_in t) (later e)

-- a source whose keepalive timer runs has a row
alive_there : (o : Option SourceRow) → option_map_or (λ (r : SourceRow). is_some r.keepalive) o false ≡ true → is_some o ≡ true
alive_there None e = cc e
alive_there (Some r) e = refl

local_there : (t : State) (g src : ℕ) → is_local t g src ≡ true → Contains (local_keys t) (source_key 0 g src)
unfolding local_keys is_local is_kept_alive
local_there t g src here =
    contains_passing (λ (k : Key). is_local t (group_in k) (source_in k)) (keys_in t.sources) (source_key 0 g src)
    (key_there (source_key 0 g src) t.sources
    (alive_there (row_at t.sources (source_key 0 g src)) (second_so (option_map_or (is_dr_of_path t) (route t src) false) _ here))) here

module _ (sets : List RpSet) (s : State) (e : Event) (set : RpSet) (g src : ℕ) (h : HearsStill sets s e set g src) where
  due_is : sent_after sets s (joined_step sets s e).1 e.kind ≡ announced_all sets (joined_step sets s e).1.ranges (local_keys (joined_step sets s e).1)
  unfolding announced_due
  due_is =
      let t : State = (joined_step sets s e).1 in
      let is : announced_due sets t.ranges (local_keys t) s.present t.present ≡ announced_all sets t.ranges (local_keys t) = rw h.due refl in
      ap (sent_after sets s t) h.is ∙ is

  among_all : (x : Emission) → Contains (announced sets (joined_step sets s e).1.ranges g src) x
      → Contains (announced_all sets (joined_step sets s e).1.ranges (local_keys (joined_step sets s e).1)) x
  unfolding announced_all
  among_all x c =
      let t : State = (joined_step sets s e).1 in
      in_flat_map (λ (k : Key). announced sets t.ranges (group_in k) (source_in k)) x (local_keys t) (source_key 0 g src)
      (local_there t g src h.has.here) c

  by_time : TellsOthers sets s e set g src
  by_time = told_after sets s e set g src h.has _ due_is among_all

pub heard_is_told : HeardIsTold
heard_is_told sets s e set g src (Hears.ByRegister h) = by_register sets s e set g src h
heard_is_told sets s e set g src (Hears.ByPacket h) = by_packet sets s e set g src h
heard_is_told sets s e set g src (Hears.ByTime h) = by_time sets s e set g src h
