-- Each cause at a router is a host's report, or a Join that came; and a Join that came was sent by a router that had a cause itself, earlier.
use Rattle.std.{proofs.{Common.{Bool, List, None, Ok, Option, Some, [], ap, arith, cond, div-lt_iff_lt-mul, eqb-true, false, inl, inr, is_some, length, mul-le-mul_right, mul_right_comm, nat_lt, one-mul, option_and_then, pow-suc, refl, subst, suc, suc-add, suc-mul, sym, true, zero, zero-add, zero-mul, ℕ, ◌*◌, ◌++◌, ◌+◌, ◌-◌, ◌/◌, ◌<◌, ◌==◌, ◌^◌, ◌||◌, ◌∙◌, ◌∷◌, ◌≡◌, ◌≤◌, ◌⊎◌}, lemmas.{Bool.{Decides.nat_tests, false≢true, or_left}, List.Elements.recursion_from_All}}, specs.{Cmp.{Derive.both_true, first_so, second_so}, List.{AllByRecursion, list_all, list_any}, Option.option_map_or, Prelude.slice_get}}
use Rattle.pim_ip.{specs.{Ipv4.{copy_text, first_multicast, is_link_local, is_multicast, is_unicast}, Prefixes.contains, Tests.{expect, ◌>>◌}, declared.refusal.Refusal.Refusal}}
use Rattle.pim_types.{specs.{Keys.{key_of, source_key, star_key}, declared.{config.{Config.Config, IfaceId.IfaceId, InterfaceConfig.InterfaceConfig}, event.{Event.Event, EventKind.EventKind}, fact.Key.Key, outcome.Emission.Emission}}}
use Rattle.pim_wire.{specs.{Values.JoinPrune, declared.join_prune.{Entry.Entry, EntryKind.EntryKind}}}
use Rattle.pim_model.{specs.{declared.accepted.Accepted.Accepted, Cause.{IsAskedFor as IsCopyAsked, Passed, Past, asks_for, done_as, happened, has_cause, is_join_for, past_after}, Downstream.{is_named, joined_keys, joins_in}, Limits.{config_test, is_in_subnet}, Network.{Deliver, Move, Network, Sent, Station, event_of, frame_at, frame_event, is_on_frame_link, moved, sent_by, station_at}, State.{Addressing, State, addressing_of, iface_count, opening}, Step.{ran, state_after, step}, Tables.same_option, Unicast.subnet, Writing.{on_link, pim_to}}}
use Rattle.law_settled.{proofs.{ListLaws.{any_among_all, each_of_list, either}, StepLaws.kept_by_run, Steps.{opening_is_settled, run_is_settled, step_is_settled}}, specs.Ready.IsSettled}
use Rattle.law_streams.{proofs.{CausesAsks.IsAsked as RowsAsked, Deliveries.is_stepped, Links.each_contained, Pairs.{Steps, one_router, same_station}, Past.CausedBy, Settings.step_configured, Shared.{none_behind, present_later, there_before}, Steps.{opening_asked, step_asked}}, specs.{Copies.{IsLower, IsLowerInside, copies_at, happens}, InTimeJoins.time_at}}
use Rattle.law_converges.{proofs.{Inside.{IsFrom, copied_from}, JoinsAsked.each_join_is_asked, JoinsRead.{IsAskedWell, IsReadJoin, asks_well, caused_well, named_is_host, names_it, names_of, was_shown}, JoinsWritten.{IsSaid, WasWritten, by_message, kind_of_join, no_copy}, LeftLinks.{asked_or_before, asks_at_once, asks_soon, no_later, same_link, same_text}, LinkRptOrder.there_is, NothingElse.{GotOne, IsPut, IsSentIn, got_one, le_so, lt_so, put, sent_in}, Past.no_station, TakesOver.moved_so}, specs.{AskedByMembers.{AsksFor, ComesSoon, EachIsOnWay, EachLinkLeadsToHosts, EachWayIsShort, LinksComeToLeadToHosts, HasSource, HostAsked, IsAskedByHost, IsAskedByRouter, IsAskedFor, IsAskedOn, IsForHost, IsJoinedAs, IsLed, IsOnWay, IsOverBy, IsSentBecause, JoinsAreSent, SomeAfter, SourceJoined, Sources, is_report, way_time}, Carried.{EachMove, Traffic}, JoinsAsked.{IsAskedAs, IsAskedMessage, JoinsAreAsked, SendsAsked}, LeftLinks.{EachMoveAfter, IsBroughtTo, SomeBefore, lasts_within}}}

-- ---- moves of before

abbrev Moves : Type 0
Moves = List (Network × Move)

-- what each of them shows is shown by all of them
some_shows : (P : Moves → Network → Move → Type 0) (C : Moves → Type 0) → ((x : Network × Move) (xs : Moves) → C xs → C (x ∷ xs))
    → ((x : Network × Move) (xs : Moves) → P xs x.0 x.1 → C (x ∷ xs)) → (before : Moves) → SomeAfter P before → C before
some_shows P C on here [] f = absurd f
some_shows P C on here (x ∷ xs) (inl f) = here x xs f
some_shows P C on here (x ∷ xs) (inr f) = on x xs (some_shows P C on here xs f)

-- ---- events, one more

state_then : (es : List Event) (s : State) (e : Event) → state_after s (es ++ e ∷ []) ≡ (step (state_after s es) e).state
unfolding state_after ran
state_then [] s e = refl
state_then (x ∷ es) s e = state_then es (step s x).state e

past_then : (es : List Event) (past : Past) (s : State) (e : Event)
    → past_after past s (es ++ e ∷ []) ≡ happened (state_after s es) e ∷ past_after past s es
unfolding past_after state_after ran
past_then [] past s e = refl
past_then (x ∷ es) past s e = past_then es (happened s x ∷ past) (step s x).state e

rows_then : (es : List Event) (past : Past) (s : State) → RowsAsked (CausedBy past) s → IsSettled s
    → RowsAsked (CausedBy (past_after past s es)) (state_after s es)
unfolding state_after ran past_after
rows_then [] past s f settled = f
rows_then (x ∷ es) past s f settled =
    rows_then es (happened s x ∷ past) (step s x).state (step_asked past s x f settled).rows (step_is_settled s x settled)

-- ---- what is asked for

-- a source for which nobody but those ask who ask for all
abbrev probe : Sources → ℕ
probe None = first_multicast
probe (Some src) = src

no_host : is_unicast first_multicast ≡ false
no_host = refl

asks_of : (s : State) (e : Event) (i g : ℕ) (x : Sources) → asks_for s.present i g (probe x) s (done_as (happens s e)) ≡ true
    → AsksFor g x i s (done_as (happens s e))
asks_of s e i g (Some src) f = f
asks_of s e i g None f = go (asks_well (happens s e) s.present i g first_multicast f).1
  where
    go : (is_unicast first_multicast ≡ true) ⊎ ((a : ℕ) → asks_for s.present i g a s (done_as (happens s e)) ≡ true)
        → (a : ℕ) → asks_for s.present i g a s (done_as (happens s e)) ≡ true
    go (inl host) a = absurd (false≢true (sym no_host ∙ host))
    go (inr all) a = all a

-- a Join that asks for them is of (*,G), or of (S,G)
record IsNamedAs (g i : ℕ) (x : Sources) (s : State) (m : JoinPrune) (o : Option Accepted) : Type 0 where
  join : Sources
  joined : IsJoinedAs x join
  named : is_named (joined_keys s i m) (key_of i g join false) ≡ true
  asks : AsksFor g join i s o

module _ (s : State) (e : Event) (i g : ℕ) (j : IfaceId) (m : JoinPrune) (was : done_as (happens s e) ≡ Some (Accepted.JoinPruneToMe j m)) where
  abbrev keys : List Key
  keys = joined_keys s i m

  named_as : (x : Sources) → asks_for s.present i g (probe x) s (Some (Accepted.JoinPruneToMe j m)) ≡ true
      → (j.number ≡ i) × IsNamedAs g i x s m (Some (Accepted.JoinPruneToMe j m))
  unfolding asks_for is_join_for
  named_as x f =
      let both = second_so (j.number == i) _ f in (
        eqb-true j.number i (first_so (j.number == i) _ f),
        either (is_named keys (star_key i g)) (is_named keys (source_key i g (probe x))) star (one x f)
            (first_so (is_named keys (star_key i g) || is_named keys (source_key i g (probe x))) _ both),
      )
    where
      star : is_named keys (star_key i g) ≡ true → IsNamedAs g i x s m (Some (Accepted.JoinPruneToMe j m))
      star named = record {
        join = None;
        joined = inl refl;
        named = named;
        asks = λ src. both_true (first_so (j.number == i) _ f)
            (both_true (or_left (is_named keys (star_key i g)) (is_named keys (source_key i g src)) named)
            (second_so (is_named keys (star_key i g) || is_named keys (source_key i g (probe x))) _ (second_so (j.number == i) _ f)));
      }

      one : (x : Sources) → asks_for s.present i g (probe x) s (Some (Accepted.JoinPruneToMe j m)) ≡ true
          → is_named keys (source_key i g (probe x)) ≡ true → IsNamedAs g i x s m (Some (Accepted.JoinPruneToMe j m))
      one None f named = absurd (false≢true (sym no_host ∙ named_is_host s e j m i g first_multicast was named))
      one (Some src) f named = record { join = Some src; joined = inr refl; named = named; asks = f }

-- ---- a frame that comes

record IsFrameOf (n : Network) (i number draw link : ℕ) (e : Event) : Type 0 where
  frame : Sent
  there : frame_at n number ≡ Some frame
  is : e ≡ frame_event i draw frame
  on : frame.link ≡ Some link

frame_of : (n : Network) (r q i number draw link : ℕ) (e : Event) (st : Station) → event_of n (Deliver r i number draw) ≡ Some (q, e)
    → station_at n r ≡ Some st → slice_get st.links i ≡ Some link → IsFrameOf n i number draw link e
unfolding event_of
frame_of n r q i number draw link e st is here linked = by_frame (frame_at n number) refl (rw here at is)
  where
    came : (f : Sent) → frame_at n number ≡ Some f → (c : Bool) → is_on_frame_link st i f ≡ c
        → cond c (let o : Option (ℕ × Event) = Some (r, frame_event i draw f) in o) None ≡ Some (q, e) → IsFrameOf n i number draw link e
    came f there true on e2 = record { frame = f; there = there; is = event_is e2; on = its_link f.link (ap (λ o. same_option o f.link) (sym linked) ∙ second_so (is_some f.link) _ on) }
      where
        event_is : (let o : Option (ℕ × Event) = Some (r, frame_event i draw f) in o) ≡ Some (q, e) → e ≡ frame_event i draw f
        event_is same = sym (ap (λ (o : Option (ℕ × Event)). option_map_or (λ (x : ℕ × Event). x.1) o e) same)

        its_link : (o : Option ℕ) → same_option (Some link) o ≡ true → o ≡ Some link
        its_link o e = grind (arith, e, eqb-true)
    came f there false on e2 = cc e2

    by_frame : (o : Option Sent) → frame_at n number ≡ o
        → option_and_then (λ (f : Sent). cond (is_on_frame_link st i f) (let x : Option (ℕ × Event) = Some (r, frame_event i draw f) in x) None) o ≡ Some (q, e)
        → IsFrameOf n i number draw link e
    by_frame None there e2 = cc e2
    by_frame (Some f) there e2 = came f there (is_on_frame_link st i f) refl e2

-- a link for each interface
record IsLinked (links : List ℕ) (i : ℕ) : Type 0 where
  link : ℕ
  is : slice_get links i ≡ Some link

linked_below : (links : List ℕ) (i : ℕ) → i < length links → IsLinked links i
linked_below [] i lt = absurd (omega (arith, lt))
linked_below (l ∷ ls) zero lt = record { link = l; is = refl }
linked_below (l ∷ ls) (suc i) lt = let later : IsLinked ls i = linked_below ls i (omega (arith, lt)) in record { link = later.link; is = later.is }

-- an address in the subnet of an interface is one
power_of_two : (a b : ℕ) → 2 ^ (a + b) ≡ 2 ^ a * 2 ^ b
power_of_two zero b = ap (λ (k : ℕ). 2 ^ k) (zero-add b) ∙ sym (one-mul (2 ^ b))
power_of_two (suc a) b =
    ap (λ (k : ℕ). 2 ^ k) (suc-add a b) ∙ pow-suc 2 (a + b)
    ∙ (ap (λ (k : ℕ). k * 2) (power_of_two a b) ∙ (mul_right_comm (2 ^ a) (2 ^ b) 2 ∙ ap (λ (k : ℕ). k * 2 ^ b) (sym (pow-suc 2 a))))

is_positive : (n : ℕ) → 0 < 2 ^ n
is_positive zero = omega arith
is_positive (suc n) = let more : 0 < 2 ^ n = is_positive n in omega (arith, more, pow-suc 2 n)

below_word : (a base n : ℕ) → n ≤ 32 → base < 2 ^ 32 → (a / 2 ^ n == (base / 2 ^ n)) ≡ true → a < 2 ^ 32
below_word a base n few lt same =
    let whole : 2 ^ 32 ≡ 2 ^ (32 - n) * 2 ^ n = ap (λ (k : ℕ). 2 ^ k) (sum n few) ∙ power_of_two (32 - n) n in
    let less : base / 2 ^ n < 2 ^ (32 - n) = (div-lt_iff_lt-mul (is_positive n)).1 (subst (λ (k : ℕ). base < k) whole lt) in
    subst (λ (k : ℕ). a < k) (sym whole)
    ((div-lt_iff_lt-mul (is_positive n)).0 (subst (λ (k : ℕ). k < 2 ^ (32 - n)) (sym (eqb-true (a / 2 ^ n) (base / 2 ^ n) same)) less))
  where
    sum : (n : ℕ) → n ≤ 32 → 32 ≡ (32 - n) + n
    sum n e = omega (arith, e)

below_all : (group : ℕ) → is_multicast group ≡ true → group < 2 ^ 32
below_all group e = grind (arith, nat_tests, e)

below_hosts : (address : ℕ) → is_unicast address ≡ true → address < 2 ^ 32
below_hosts address e = grind (arith, nat_tests, e)

run_configured : (c : Config) (events : List Event) → (state_after (opening c) events).configured ≡ addressing_of c
unfolding opening
run_configured c events =
    kept_by_run (λ (s : State). s.configured ≡ addressing_of c) (λ s e f. sym (step_configured s e).configured ∙ f) (opening c) events refl

addresses_tested : (links addresses lengths apart limit querier delays routes ranges own : Bool)
    → (expect links Refusal.InterfaceCount >> expect addresses Refusal.InterfaceAddress >> expect lengths Refusal.InterfaceLength
    >> expect apart Refusal.Overlap >> expect limit Refusal.BadLimit >> expect querier Refusal.BadQuerier
    >> expect delays Refusal.BadDelay >> expect routes Refusal.ConfiguredRoutes >> expect ranges Refusal.ConfiguredRps
    >> expect own Refusal.OwnAddresses) ≡ Ok tt → addresses ≡ true
addresses_tested links addresses lengths apart limit querier delays routes ranges own e = grind arith

config_addresses : (c : Config) → config_test c ≡ Ok tt → list_all (λ (i : InterfaceConfig). is_unicast i.address.bits) c.interfaces ≡ true
unfolding config_test
config_addresses c e = grind (arith, addresses_tested)

in_subnet_fits : (c : Config) (events : List Event) → config_test c ≡ Ok tt → (s : State) → state_after (opening c) events ≡ s → (a : ℕ)
    → is_in_subnet (s.configured).interfaces a ≡ true → a < 2 ^ 32
unfolding contains
in_subnet_fits c events accepted s led a e =
    any_among_all (λ (i : InterfaceConfig). is_unicast i.address.bits ≡ true) (λ (i : InterfaceConfig). contains (subnet i) a)
    (λ i fine inside. below_word a i.address.bits (32 - i.length) (no_more i.length) (below_hosts i.address.bits fine) inside) c.interfaces
    (each_of_list (λ (i : InterfaceConfig). is_unicast i.address.bits) c.interfaces (config_addresses c accepted))
    (subst (λ (is : List InterfaceConfig). is_in_subnet is a ≡ true)
    (ap (λ (z : State). (z.configured).interfaces) (sym led) ∙ ap (λ (cs : Addressing). cs.interfaces) (run_configured c events)) e)
  where
    no_more : (n : ℕ) → 32 - n ≤ 32
    no_more n = omega arith

-- ---- the network

abbrev bytes_of : EventKind → List ℕ
bytes_of (EventKind.Frame i bytes) = bytes
bytes_of kind = []

ours_of : (src : ℕ) (x y : Sources) → IsJoinedAs (Some src) x → IsJoinedAs x y → IsJoinedAs (Some src) y
ours_of src x y ours (inl none) = inl none
ours_of src x y ours (inr same) = subst (IsJoinedAs (Some src)) (sym same) ours

by_address : (from to : ℕ) (text bytes : List ℕ) (out : ℕ) → pim_to from to text ≡ on_link out bytes → ⊥
unfolding pim_to
by_address from to text bytes out e = cc e

-- what is sent on a link
record IsOnLink (links : List ℕ) (x : Emission) (f : Sent) (link : ℕ) : Type 0 where
  out : ℕ
  is : x ≡ on_link out f.bytes
  linked : slice_get links out ≡ Some link

on_its_link : (links : List ℕ) (x : Emission) (f : Sent) (link : ℕ) → sent_by links x ≡ f → f.link ≡ Some link → IsOnLink links x f link
on_its_link links (Emission.Link i bytes) f link sent on = record {
  out = i.number;
  is = ap (λ (b : List ℕ). Emission.Link i b) (ap (λ (y : Sent). y.bytes) sent);
  linked = ap (λ (y : Sent). y.link) sent ∙ on;
}
on_its_link links (Emission.Unicast to bytes) f link sent on = absurd (none (ap (λ (y : Sent). y.link) sent ∙ on))
  where
    none : (let o : Option ℕ = None in o) ≡ Some link → ⊥
    none e = cc e

module _ (g src life d tick first limit : ℕ) (started : ℕ → ℕ) (t : Traffic) (Early : Type 0) (Fits : Sources → ℕ → ℕ → Type 0)
    (Climb : Sources → ℕ → ℕ → Type 0) (host : (x : Sources) (r : ℕ) → IsJoinedAs (Some src) x → Fits x r 0)
    (hop : (x y : Sources) (r q k : ℕ) → IsJoinedAs (Some src) x → IsJoinedAs x y → Climb y r q → Fits y q k → Fits x r (suc k))
    (leaf : (x y : Sources) (r q : ℕ) → IsJoinedAs (Some src) x → IsJoinedAs x y → Climb y r q → Fits x r 1) where
  abbrev late : ℕ
  late = d + tick

  abbrev Ours : Sources → Type 0
  Ours x = IsJoinedAs (Some src) x

  -- a way leads on, or to before the moves
  record IsLedOn (x : Sources) (link r i now : ℕ) (before : Moves) : Type 0 where
    joins : ℕ
    fits : Fits x r joins
    way : IsForHost life late g started joins x link r i now before ⊎ (Early × (now + started r < limit + joins * (life + late)))

  record IsSentFor (x : Sources) (link number time : ℕ) (before : Moves) : Type 0 where
    joins : ℕ
    fits : (y : Sources) (r : ℕ) → Ours y → IsJoinedAs y x → Climb x r (t.by number) → Fits y r (suc joins)
    way : SomeAfter (IsSentBecause late started (IsForHost life late g started joins x) x link number time) before
        ⊎ (Early × (time < limit + joins * (life + late) + late))

  way_still : (y : Network × Move) (k : ℕ) (x : Sources) (link r i now : ℕ) (before : Moves) → IsForHost life late g started k x link r i now before
      → IsForHost life late g started k x link r i now (y ∷ before)
  way_still y zero x link r i now before f = inr f
  way_still y (suc k) x link r i now before f = inr f

  led_still : (y : Network × Move) (x : Sources) (link r i now : ℕ) (before : Moves) → IsLedOn x link r i now before
      → IsLedOn x link r i now (y ∷ before)
  led_still y x link r i now before f = record { joins = f.joins; fits = f.fits; way = go f.way }
    where
      go : IsForHost life late g started f.joins x link r i now before ⊎ (Early × (now + started r < limit + f.joins * (life + late)))
          → IsForHost life late g started f.joins x link r i now (y ∷ before) ⊎ (Early × (now + started r < limit + f.joins * (life + late)))
      go (inl way) = inl (way_still y f.joins x link r i now before way)
      go (inr early) = inr early

  sent_still : (y : Network × Move) (x : Sources) (link number time : ℕ) (before : Moves) → IsSentFor x link number time before
      → IsSentFor x link number time (y ∷ before)
  sent_still y x link number time before f = record { joins = f.joins; fits = f.fits; way = go f.way }
    where
      go : SomeAfter (IsSentBecause late started (IsForHost life late g started f.joins x) x link number time) before
          ⊎ (Early × (time < limit + f.joins * (life + late) + late))
          → SomeAfter (IsSentBecause late started (IsForHost life late g started f.joins x) x link number time) (y ∷ before)
          ⊎ (Early × (time < limit + f.joins * (life + late) + late))
      go (inl way) = inl (inr way)
      go (inr early) = inr early

  -- each Join that is there was sent so
  abbrev HasFrames : Moves → Network → Type 0
  HasFrames before n = (number : ℕ) (f : Sent) (link : ℕ) (x : Sources) (kind : EventKind) (m : JoinPrune) → Ours x → first < number
      → frame_at n number ≡ Some f → f.link ≡ Some link → (read : IsReadJoin kind m) → read.bytes ≡ f.bytes
      → list_any (names_it g x) (joins_in m) ≡ true → (time : ℕ) → time ≤ t.sent number + d → IsSentFor x link number time before

  record Hears (r : ℕ) (before : Moves) (st : Station) : Type 0 where
    events : List Event
    led : IsLed events st
    found : (x : Sources) (i now link : ℕ) → Ours x → slice_get st.links i ≡ Some link → (st.state).present ≤ now
        → has_cause (past_after [] (opening led.config) events) now i g (probe x) ≡ true → IsLedOn x link r i now before

  abbrev AllHear : Moves → Network → Type 0
  AllHear before n = (r : ℕ) (st : Station) → station_at n r ≡ Some st → Hears r before st

  abbrev MoveClimbs : Network → Move → Type 0
  MoveClimbs n m = (r number draw : ℕ) (e : Event) (st : Station) (i : IfaceId) (joins : JoinPrune) (x : Sources)
      → m ≡ Deliver r i.number number draw → event_of n m ≡ Some (r, e) → station_at n r ≡ Some st
      → done_as (happens st.state e) ≡ Some (Accepted.JoinPruneToMe i joins) → Ours x
      → is_named (joined_keys st.state i.number joins) (key_of i.number g x false) ≡ true → Climb x r (t.by number)

  module _ (n : Network) (m : Move) (before : Moves) (goes : JoinsAreSent life d tick first started t n m) (climbs : MoveClimbs n m)
      (frames : HasFrames before n) where
    abbrev then_before : Moves
    then_before = (n, m) ∷ before

    module _ (r : ℕ) (e : Event) (st : Station) (is : event_of n m ≡ Some (r, e)) (at : station_at n r ≡ Some st) where
      abbrev s : State
      s = st.state

      asked_by : (x : Sources) (i now link : ℕ) → Ours x → slice_get st.links i ≡ Some link → s.present ≤ now → (o : Option Accepted)
          → done_as (happens s e) ≡ o → asks_for now i g (probe x) s o ≡ true → IsLedOn x link r i now then_before
      unfolding asks_for
      asked_by x i now link ours linked le (Some (Accepted.Report j records)) was f =
          let o : Option Accepted = Some (Accepted.Report j records) in
          let asks : asks_for s.present i g (probe x) s o ≡ true = asks_at_once s i g (probe x) now le o f in
          let lasts : lasts_within life i s o ≡ true = subst (λ (o : Option Accepted). lasts_within life i s o ≡ true) was (goes.lasts r i e st is at) in
          record {
            joins = 0;
            fits = host x r ours;
            way = inl (inl (record {
              asked = record {
                event = e;
                is = is;
                station = st;
                at = at;
                linked = linked;
                asks = asks_of s e i g x (subst (λ (o : Option Accepted). asks_for s.present i g (probe x) s o ≡ true) (sym was) asks);
              };
              report = ap is_report was;
              recent = asks_soon s life i g (probe x) now o lasts f;
            }));
          }
      asked_by x i now link ours linked le (Some (Accepted.JoinPruneToMe j joins)) was f =
          let o : Option Accepted = Some (Accepted.JoinPruneToMe j joins) in
          let asks : asks_for s.present i g (probe x) s o ≡ true = asks_at_once s i g (probe x) now le o f in
          let lasts : lasts_within life i s o ≡ true = subst (λ (o : Option Accepted). lasts_within life i s o ≡ true) was (goes.lasts r i e st is at) in
          let named : (j.number ≡ i) × IsNamedAs g i x s joins o = named_as s e i g j joins was x asks in
          let comes : ComesSoon d first started t r j.number st m = goes.joins r e st j joins is at was in
          let its : Ours (named.1).join = ours_of src x (named.1).join ours (named.1).joined in
          let to_there : m ≡ Deliver r i comes.number comes.draw =
          comes.comes ∙ ap (λ (k : ℕ). Deliver r k comes.number comes.draw) named.0 in
          let frame : IsFrameOf n i comes.number comes.draw link e =
          frame_of n r r i comes.number comes.draw link e st (subst (λ (y : Move). event_of n y ≡ Some (r, e)) to_there is) at linked in
          let read : IsReadJoin e.kind joins = was_shown s e (Accepted.JoinPruneToMe j joins) was in
          let sent : IsSentFor (named.1).join link comes.number (time_at started r st) before =
          frames comes.number frame.frame link (named.1).join e.kind joins its comes.new frame.there frame.on read
          (ap bytes_of (sym read.is ∙ ap (λ (y : Event). y.kind) frame.is)) (names_of s i g (named.1).join joins (named.1).named)
          (time_at started r st) comes.soon in
          let climb : Climb (named.1).join r (t.by comes.number) =
          climbs r comes.number comes.draw e st j joins (named.1).join comes.comes is at was its
          (subst (λ (k : ℕ). is_named (joined_keys s k joins) (key_of k g (named.1).join false) ≡ true) (sym named.0) (named.1).named) in
          let recent : now < s.present + life = asks_soon s life i g (probe x) now o lasts f in
          record {
            joins = suc sent.joins;
            fits = sent.fits x r ours (named.1).joined climb;
            way = go (named.1).join (named.1).joined sent.joins comes.number comes.draw to_there recent
                (record {
                  event = e;
                  is = is;
                  station = st;
                  at = at;
                  linked = linked;
                  asks = subst (AsksFor g (named.1).join i s) (sym was) (named.1).asks;
                }) refl sent.way;
          }
        where
          onward : (a b c lm p : ℕ) → a < b + life → b + c < lm + p + late → a + c < lm + ((life + late) + p)
          onward a b c lm p e f = omega (arith, e, f)

          go : (y : Sources) → IsJoinedAs x y → (k number draw : ℕ) → m ≡ Deliver r i number draw → now < s.present + life
              → (asked : IsAskedFor g y link r i n m) → asked.station ≡ st
              → SomeAfter (IsSentBecause late started (IsForHost life late g started k y) y link number (time_at started r st)) before
              ⊎ (Early × (time_at started r st < limit + k * (life + late) + late))
              → IsForHost life late g started (suc k) x link r i now then_before
              ⊎ (Early × (now + started r < limit + suc k * (life + late)))
          go y joined k number draw delivered recent asked same (inl some) =
              inl (inl (record {
                join = y;
                joined = joined;
                asked = asked;
                recent = subst (λ (z : Station). now < (z.state).present + life) (sym same) recent;
                number = number;
                draw = draw;
                comes = delivered;
                sent = subst
                    (λ (z : Station). SomeAfter (IsSentBecause late started (IsForHost life late g started k y) y link number (time_at started r z)) before)
                    (sym same) some;
              }))
          go y joined k number draw delivered recent asked same (inr (early, lt)) =
              inr (
                early,
                subst (λ (p : ℕ). now + started r < limit + p) (sym (suc-mul k (life + late)) ∙ refl)
                    (swapped (now + started r) (onward now s.present (started r) limit (k * (life + late)) recent lt)),
              )
            where
              swapped : (a : ℕ) → a < limit + ((life + late) + k * (life + late)) → a < limit + (k * (life + late) + (life + late))
              swapped a e = omega (arith, e)
      asked_by x i now link ours linked le o was f = cc f

      found_then : Hears r before st → (x : Sources) (i now link : ℕ) → Ours x → slice_get st.links i ≡ Some link → s.present ≤ now
          → (past : Past) → ((x : Sources) (i now link : ℕ) → Ours x → slice_get st.links i ≡ Some link → s.present ≤ now
          → has_cause past now i g (probe x) ≡ true → IsLedOn x link r i now before)
          → has_cause (Passed.Happening (happens s e) ∷ past) now i g (probe x) ≡ true → IsLedOn x link r i now then_before
      found_then h x i now link ours linked le past found f = by (asked_or_before past (happens s e) i g (probe x) now f)
        where
          by : (asks_for now i g (probe x) s (done_as (happens s e)) ≡ true) ⊎ (has_cause past now i g (probe x) ≡ true)
              → IsLedOn x link r i now then_before
          by (inl asks) = asked_by x i now link ours linked le (done_as (happens s e)) refl asks
          by (inr cause) = led_still (n, m) x link r i now before (found x i now link ours linked le cause)

      -- ---- what it sends

      -- why it joins
      record IsWhy (x : Sources) : Type 0 where
        joins : ℕ
        fits : (y : Sources) (q : ℕ) → Ours y → IsJoinedAs y x → Climb x q r → Fits y q (suc joins)
        because : (IsAskedOn (IsForHost life late g started joins x) r s.present then_before ⊎ HasSource x s)
            ⊎ (Early × (s.present + started r < limit + joins * (life + late)))

      by_led : (x : Sources) (i link : ℕ) → IsLedOn x link r i s.present then_before → IsWhy x
      by_led x i link f = record {
        joins = f.joins;
        fits = λ y q ours joined climb. hop y x q r f.joins ours joined climb f.fits;
        because = go f.way;
      }
        where
          go : IsForHost life late g started f.joins x link r i s.present then_before ⊎ (Early × (s.present + started r < limit + f.joins * (life + late)))
              → (IsAskedOn (IsForHost life late g started f.joins x) r s.present then_before ⊎ HasSource x s)
              ⊎ (Early × (s.present + started r < limit + f.joins * (life + late)))
          go (inl way) = inl (inl (record { link = link; iface = i; way = way }))
          go (inr early) = inr early

      module _ (h : Hears r before st) where
        abbrev past : Past
        past = past_after [] (opening (h.led).config) h.events

        abbrev with_it : Past
        with_it = happened s e ∷ past

        abbrev Sending : Emission → Type 0
        Sending em = IsAskedMessage with_it s em ⊎ (IsLower s e em ⊎ IsLowerInside s e em)

        its_sends : SendsAsked past s e
        its_sends =
            subst (λ (z : State). SendsAsked past z e) (h.led).led (each_join_is_asked (h.led).config h.events e (h.led).accepted)

        its_count : iface_count s ≡ length st.links
        its_count =
            ap (λ (z : State). iface_count z) (sym (h.led).led)
            ∙ (ap (λ (cs : Addressing). length cs.interfaces) (run_configured (h.led).config h.events) ∙ sym (h.led).linked)

        found_here : (x : Sources) (i : ℕ) → Ours x → i < iface_count s → has_cause with_it s.present i g (probe x) ≡ true → IsWhy x
        found_here x i ours lt cause =
            let l : IsLinked st.links i = linked_below st.links i (subst (λ (k : ℕ). i < k) its_count lt) in
            by_led x i l.link (found_then h x i s.present l.link ours l.is (no_later s.present) past h.found cause)

        why : (x : Sources) (group address : ℕ) → Ours x → (group < 2 ^ 32 → group ≡ g)
            → ((src : ℕ) → x ≡ Some src → address < 2 ^ 32 → address ≡ src) → IsAskedAs with_it s group (kind_of_join x) address → IsWhy x
        why None group address ours same_group same_source asked =
            let is_group : group ≡ g = same_group (below_all group (caused_well with_it s.present asked.iface group 0 (asked.cause 0)).0) in
            found_here None asked.iface ours asked.configured
            (subst (λ (k : ℕ). has_cause with_it s.present asked.iface k first_multicast ≡ true) is_group (asked.cause first_multicast))
        why (Some src) group address ours same_group same_source (inl asked) =
            go (caused_well with_it s.present asked.iface group address asked.cause)
          where
            of_source : (group ≡ g) → has_cause with_it s.present asked.iface group src ≡ true → IsWhy (Some src)
            of_source same cause =
                found_here (Some src) asked.iface ours asked.configured
                (subst (λ (k : ℕ). has_cause with_it s.present asked.iface k src ≡ true) same cause)

            go : IsAskedWell group address (λ a. has_cause with_it s.present asked.iface group a ≡ true) → IsWhy (Some src)
            go (is_group, inl is_host) =
                of_source (same_group (below_all group is_group))
                (subst (λ (a : ℕ). has_cause with_it s.present asked.iface group a ≡ true) (same_source src refl (below_hosts address is_host)) asked.cause)
            go (is_group, inr all) = of_source (same_group (below_all group is_group)) (all src)
        why (Some src) group address ours same_group same_source (inr there) = record {
          joins = 0;
          fits = λ y q others joined climb. leaf y (Some src) q r others joined climb;
          because = inl (inr (subst (λ (a : ℕ). is_in_subnet (s.configured).interfaces a ≡ true)
              (same_source src refl (in_subnet_fits (h.led).config h.events (h.led).accepted s (h.led).led address there)) there));
        }

        -- a Join on a link was sent by a message of its own
        module _ (x : Sources) (kind : EventKind) (joins : JoinPrune) (read : IsReadJoin kind joins) (ours : Ours x)
            (named : list_any (names_it g x) (joins_in joins) ≡ true) where
          by_emission : (em : Emission) (out : ℕ) → em ≡ on_link out read.bytes
              → Sending em → IsWhy x
          by_emission em out is_out (inl sent) =
              let w : WasWritten g x sent.message =
              by_message kind joins read g x named sent.table sent.message out (sym sent.is ∙ is_out) in
              let asked : AllByRecursion (λ (y : Entry). IsAskedAs with_it s w.group y.kind (y.address).bits) w.joins =
              subst (JoinsAreAsked with_it s) w.is sent.asked in
              let said : IsSaid x w.joins = (w.said).said in
              why x w.group ((said.entry).address).bits ours (w.said).group_is said.same
              (subst (λ (k : EntryKind). IsAskedAs with_it s w.group k ((said.entry).address).bits) said.kind
              (each_contained (λ (y : Entry). IsAskedAs with_it s w.group y.kind (y.address).bits) w.joins said.entry asked said.among))
          by_emission em out is_out (inr (inl copy)) =
              absurd (no_copy kind joins read s e copy.packet copy.brought
              (same_text out copy.link read.bytes (copy_text copy.packet) (sym is_out ∙ copy.is)))
          by_emission em out is_out (inr (inr register)) = absurd (by_address register.from register.rp _ read.bytes out (sym register.is ∙ is_out))

    -- ---- each router, and each frame, after the move

    module _ (hear : AllHear before n) where
      all_hear_then : AllHear then_before (moved n m).1
      all_hear_then r st at = go (station_at n r) refl
        where
          one_more : (old : Station) (e : Event) → event_of n m ≡ Some (r, e) → station_at n r ≡ Some old → Hears r before old
              → Hears r then_before (record old { state = (step old.state e).state })
          one_more old e is here h = record {
            events = h.events ++ e ∷ [];
            led = record {
              config = (h.led).config;
              accepted = (h.led).accepted;
              led = state_then h.events (opening (h.led).config) e ∙ ap (λ (z : State). (step z e).state) (h.led).led;
              linked = (h.led).linked;
            };
            found = λ x i now link ours linked le cause.
                found_then r e old is here h x i now link ours linked
                (earlier (old.state).present ((step old.state e).state).present now (present_later old.state e) le)
                (past_after [] (opening (h.led).config) h.events) h.found
                (subst (λ (p : Past). has_cause p now i g (probe x) ≡ true)
                (past_then h.events [] (opening (h.led).config) e
                ∙ ap (λ (z : State). happened z e ∷ past_after [] (opening (h.led).config) h.events) (h.led).led) cause);
          }
            where
              earlier : (a b c : ℕ) → a ≤ b → b ≤ c → a ≤ c
              earlier a b c d e = omega (arith, d, e)

          moves : (old : Station) → station_at n r ≡ Some old → (station_at (moved n m).1 r ≡ Some old) ⊎ Steps n m r old → Hears r then_before st
          moves old here (inl same) =
              let h : Hears r before old = hear r old here in
              subst (Hears r then_before) (same_station same at) (record {
                events = h.events;
                led = h.led;
                found = λ x i now link ours linked le cause. led_still (n, m) x link r i now before (h.found x i now link ours linked le cause);
              })
          moves old here (inr w) =
              subst (Hears r then_before) (same_station (w.stepped).here at) (one_more old w.event w.is here (hear r old here))

          go : (o : Option Station) → station_at n r ≡ o → Hears r then_before st
          go None none = absurd (no_station n m r st none at)
          go (Some old) here = moves old here (one_router n m r old here)

      has_frames_then : HasFrames then_before (moved n m).1
      has_frames_then number f link x kind joins ours after there on read same named time by = go (nat_lt (length n.frames) number) refl
        where
          new : length n.frames < number → IsSentFor x link number time then_before
          new lt =
              let w : IsSentIn number f n m = sent_in number f n m lt there in
              let h : Hears w.router before w.station = hear w.router w.station w.at in
              let one : GotOne (Sending w.router w.event w.station w.is w.at h) (w.station).links f =
              got_one (Sending w.router w.event w.station w.is w.at h) (w.station).links f (step (w.station).state w.event).emissions w.place
              (its_sends w.router w.event w.station w.is w.at h) w.got in
              let out : IsOnLink (w.station).links one.emission f link = on_its_link (w.station).links one.emission f link one.sent on in
              let why : IsWhy w.router w.event w.station w.is w.at x =
              by_emission w.router w.event w.station w.is w.at h x kind joins read ours named one.emission out.out
              (out.is ∙ ap (λ (b : List ℕ). on_link out.out b) (sym same)) one.has in
              let here : station_at (moved n m).1 w.router ≡ Some (record w.station { state = (step (w.station).state w.event).state }) =
              subst (λ (y : Network). station_at y w.router ≡ Some (record w.station { state = (step (w.station).state w.event).state }))
              (sym (moved_so n m w.router w.event w.station w.is w.at)) (is_stepped n w.router w.station w.event w.at).here in
              let by_it = goes.sent w.router w.event (record w.station { state = (step (w.station).state w.event).state }) number w.is here lt
              (there_is (moved n m).1 number f there) in
              let soon : time ≤ ((w.station).state).present + started w.router + (d + tick) =
              in_time time (t.sent number) ((step (w.station).state w.event).state).present ((w.station).state).present (started w.router) by by_it.0
              (goes.ticks w.router w.event w.station w.is w.at) in
              record {
                joins = why.joins;
                fits = λ y q others joined climb. why.fits y q others joined (subst (Climb x q) by_it.1 climb);
                way = because w why.joins out.out out.linked lt (there_is (moved n m).1 number f there) soon why.because;
              }
            where
              in_time : (a b c p s : ℕ) → a ≤ b + d → b ≡ c + s → c ≤ p + tick → a ≤ p + s + (d + tick)
              in_time a b c p s e f h = omega (arith, e, f, h)

              early_time : (a p k : ℕ) → a ≤ p + (d + tick) → p < limit + k → a < limit + k + (d + tick)
              early_time a p k e f = omega (arith, e, f)

              because : (w : IsSentIn number f n m) (k out : ℕ) → slice_get (w.station).links out ≡ Some link → length n.frames < number
                  → number ≤ length ((moved n m).1).frames → time ≤ ((w.station).state).present + started w.router + (d + tick)
                  → (IsAskedOn (IsForHost life late g started k x) w.router ((w.station).state).present then_before ⊎ HasSource x (w.station).state)
                  ⊎ (Early × (((w.station).state).present + started w.router < limit + k * (life + late)))
                  → SomeAfter (IsSentBecause late started (IsForHost life late g started k x) x link number time) then_before
                  ⊎ (Early × (time < limit + k * (life + late) + late))
              because w k out linked lt le soon (inl asked) =
                  inl (inl (record {
                    router = w.router;
                    event = w.event;
                    is = w.is;
                    station = w.station;
                    at = w.at;
                    iface = out;
                    linked = linked;
                    new = lt;
                    sent = le;
                    soon = soon;
                    because = asked;
                  }))
              because w k out linked lt le soon (inr (early, before_limit)) =
                  inr (early, early_time time (((w.station).state).present + started w.router) (k * (life + late)) soon before_limit)

          go : (b : Bool) → nat_lt (length n.frames) number ≡ b → IsSentFor x link number time then_before
          go true lt = new (lt_so (length n.frames) number lt)
          go false le =
              sent_still (n, m) x link number time before (frames number f link x kind joins ours after
              (there_before n m number f (le_so (length n.frames) number le) there) on read same named time by)

  -- ---- so each copy is on a way

  abbrev Given : (Moves → Network → Move → Type 0) → Type 0
  Given Claim = (before : Moves) (n : Network) (m : Move) → AllHear before n → Claim before n m

  all_moves : (Claim : Moves → Network → Move → Type 0) → Given Claim → (ms : List Move) (before : Moves) (n : Network) → AllHear before n
      → HasFrames before n → EachMove (JoinsAreSent life d tick first started t) n ms → EachMove MoveClimbs n ms → EachMoveAfter Claim before n ms
  all_moves Claim claim [] before n hear frames goes climbs = tt
  all_moves Claim claim (m ∷ ms) before n hear frames goes climbs = (
    claim before n m hear,
    all_moves Claim claim ms ((n, m) ∷ before) (moved n m).1 (all_hear_then n m before goes.0 climbs.0 frames hear)
        (has_frames_then n m before goes.0 climbs.0 frames hear) goes.1 climbs.1,
  )

  -- the end of a way
  abbrev Ends : (time within : ℕ) → Moves → Type 0
  Ends time within before =
      SomeBefore (λ n m. HostAsked g src started time within n m ⊎ SourceJoined src started time within n m) before

  its_source : (x : Sources) (i : ℕ) (s : State) (o : Option Accepted) → Ours x → AsksFor g x i s o → AsksFor g (Some src) i s o
  its_source None i s o ours f = f src
  its_source (Some a) i s o (inl none) f = absurd (off none)
    where
      off : (let y : Option ℕ = Some a in y) ≡ None → ⊥
      off e = cc e
  its_source (Some a) i s o (inr same) f = subst (λ (y : Sources). AsksFor g y i s o) same f

  its_own : (x : Sources) (s : State) → Ours x → HasSource x s → HasSource (Some src) s
  its_own None s ours f = absurd f
  its_own (Some a) s (inl none) f = absurd (off none)
    where
      off : (let y : Option ℕ = Some a in y) ≡ None → ⊥
      off e = cc e
  its_own (Some a) s (inr same) f = subst (λ (y : Sources). HasSource y s) same f

  abbrev EndsFor : ℕ → Type 0
  EndsFor k = (x : Sources) → Ours x → (link r i now : ℕ) (before : Moves) → IsForHost life late g started k x link r i now before
      → (time within : ℕ) → time + way_time life late k ≤ now + started r + within → Ends time within before

  by_host : EndsFor zero
  by_host x ours link r i now before f time within le =
      some_shows (λ earlier n m. IsAskedByHost life g x link r i now n m) (Ends time within) (λ y ys later. inr later) here before f
    where
      by : (a b c w p : ℕ) → a + (life + 0 * (life + late)) ≤ b + c + w → b < p + life → a < p + c + w
      by a b c w p e f = omega (arith, zero-mul (life + late), e, f)

      here : (y : Network × Move) (ys : Moves) → IsAskedByHost life g x link r i now y.0 y.1 → Ends time within (y ∷ ys)
      here y ys a = inl (inl (record {
        link = link;
        router = r;
        iface = i;
        asked = record {
          event = (a.asked).event;
          is = (a.asked).is;
          station = (a.asked).station;
          at = (a.asked).at;
          linked = (a.asked).linked;
          asks = its_source x i ((a.asked).station).state (done_as (happens ((a.asked).station).state (a.asked).event)) ours (a.asked).asks;
        };
        report = a.report;
        recent = by time now (started r) within (((a.asked).station).state).present le a.recent;
      }))

  by_sender : (k : ℕ) → EndsFor k → (x : Sources) → Ours x → (link number then_at time within : ℕ)
      → ((q : ℕ) → then_at ≤ q + late → time + way_time life late k < q + within) → (before : Moves)
      → SomeAfter (IsSentBecause late started (IsForHost life late g started k x) x link number then_at) before → Ends time within before
  by_sender k ih x ours link number then_at time within soon before f =
      some_shows (IsSentBecause late started (IsForHost life late g started k x) x link number then_at) (Ends time within)
      (λ y ys later. inr later) (λ y ys b. here y ys b b.because) before f
    where
      less : (a b c : ℕ) → a + b < c → a < c
      less a b c e = omega (arith, e)

      no_more : (a b : ℕ) → a < b → a ≤ b
      no_more a b e = omega (arith, e)

      here : (y : Network × Move) (ys : Moves) (b : IsSentBecause late started (IsForHost life late g started k x) x link number then_at ys y.0 y.1)
          → IsAskedOn (IsForHost life late g started k x) b.router ((b.station).state).present (y ∷ ys) ⊎ HasSource x (b.station).state
          → Ends time within (y ∷ ys)
      here y ys b (inl asked) =
          ih x ours asked.link b.router asked.iface ((b.station).state).present (y ∷ ys) asked.way time within
          (no_more (time + way_time life late k) (time_at started b.router b.station + within) (soon (time_at started b.router b.station) b.soon))
      here y ys b (inr has) =
          inl (inr (record {
            router = b.router;
            event = b.event;
            is = b.is;
            station = b.station;
            at = b.at;
            has = its_own x (b.station).state ours has;
            recent = less time (way_time life late k) (time_at started b.router b.station + within) (soon (time_at started b.router b.station) b.soon);
          }))

  by_router : (k : ℕ) → EndsFor k → EndsFor (suc k)
  by_router k ih x ours link r i now before f time within le =
      some_shows (IsAskedByRouter life late g started (λ y. IsForHost life late g started k y) x link r i now) (Ends time within)
      (λ y ys later. inr later) here before f
    where
      until : (u v w p c q : ℕ) → u + (life + suc k * (life + late)) ≤ v + c + w → v < p + life → p + c ≤ q + late
          → u + (life + k * (life + late)) < q + w
      until u v w p c q e f h = omega (arith, suc-mul k (life + late), e, f, h)

      here : (y : Network × Move) (ys : Moves) → IsAskedByRouter life late g started (λ y. IsForHost life late g started k y) x link r i now ys y.0 y.1
          → Ends time within (y ∷ ys)
      here y ys a =
          inr (by_sender k ih a.join (ours_of src x a.join ours a.joined) link a.number (time_at started r (a.asked).station) time within
          (λ q e. until time now within (((a.asked).station).state).present (started r) q le a.recent e) ys a.sent)

  ends : (k : ℕ) → EndsFor k
  ends zero = by_host
  ends (suc k) = by_router k (ends k)

  -- a copy has a cause, which leads on
  module _ (Few : ℕ → Type 0) (few : (r k : ℕ) → Fits (Some src) r k → Few k) (far : is_link_local g ≡ false) (before : Moves) (n : Network) (m : Move)
      (no_early : (r : ℕ) (st : Station) (k : ℕ) → Early → station_at n r ≡ Some st → Fits (Some src) r k
      → (st.state).present + started r < limit + k * (life + late) → ⊥) (hear : AllHear before n) where
    on_way : (link number : ℕ) (bytes : List ℕ) → IsBroughtTo g src link number bytes n m → IsOnWay life late g src started Few link bytes before n m
    on_way link number bytes b = by (hear p.router p.station p.at)
      where
        p : IsPut link number bytes n m
        p = put g src link number bytes far b.its n m b.later b.framed

        by : Hears p.router before p.station → IsOnWay life late g src started Few link bytes before n m
        by h = led (h.found (Some src) p.iface s.present link (inr refl) p.linked (no_later s.present) cause)
          where
            s : State
            s = (p.station).state

            past : Past
            past = past_after [] (opening (h.led).config) h.events

            settled : IsSettled s
            settled = subst IsSettled (h.led).led (run_is_settled (h.led).config h.events (h.led).accepted)

            rows : RowsAsked (CausedBy past) s
            rows =
                subst (RowsAsked (CausedBy past)) (h.led).led
                (rows_then h.events [] (opening (h.led).config) (opening_asked (h.led).config) (opening_is_settled (h.led).config (h.led).accepted))

            asked : IsCopyAsked past (happens s p.event) (on_link p.iface bytes)
            asked =
                each_contained (IsCopyAsked past (happens s p.event)) (copies_at s p.event) (on_link p.iface bytes)
                (recursion_from_All (IsCopyAsked past (happens s p.event)) (copies_at s p.event)
                ((step_asked past s p.event rows settled).copies).asked) p.copied

            from : IsFrom g src asked.packet
            from =
                copied_from g src s p.event asked.packet bytes asked.brought
                (same_text p.iface asked.link bytes (copy_text asked.packet) asked.copied) b.its

            cause : has_cause past s.present p.iface g src ≡ true
            cause =
                subst (λ (j : ℕ). has_cause past s.present j g src ≡ true) (same_link asked.link p.iface (copy_text asked.packet) bytes (sym asked.copied))
                (subst (λ (d : ℕ). has_cause past s.present asked.link d src ≡ true) from.group
                (subst (λ (q : ℕ). has_cause past s.present asked.link (asked.packet).destination q ≡ true) from.source asked.cause))

            led : IsLedOn (Some src) link p.router p.iface s.present before → IsOnWay life late g src started Few link bytes before n m
            led l = go l.way
              where
                go : IsForHost life late g started l.joins (Some src) link p.router p.iface s.present before
                    ⊎ (Early × (s.present + started p.router < limit + l.joins * (life + late))) → IsOnWay life late g src started Few link bytes before n m
                go (inr (early, lt)) = absurd (no_early p.router p.station l.joins early p.at l.fits lt)
                go (inl way) = record {
                  router = p.router;
                  event = p.event;
                  is = p.is;
                  station = p.station;
                  at = p.at;
                  iface = p.iface;
                  linked = p.linked;
                  copied = p.copied;
                  joins = l.joins;
                  few = few p.router l.joins l.fits;
                  way = way;
                  host = ends l.joins (Some src) (inr refl) link p.router p.iface s.present before way (time_at started p.router p.station)
                      (way_time life late l.joins) (no_later (s.present + started p.router + way_time life late l.joins));
                }

-- ---- in any network

each_move_of : (P : Network → Move → Type 0) → ((n : Network) (m : Move) → P n m) → (ms : List Move) (n : Network) → EachMove P n ms
each_move_of P f [] n = tt
each_move_of P f (m ∷ ms) n = (f n m, each_move_of P f ms (moved n m).1)

pub each_link_leads_to_hosts : EachLinkLeadsToHosts
unfolding past_after has_cause
each_link_leads_to_hosts g src life d tick started t n ms far new goes =
    all_moves g src life d tick 0 0 started t ⊥ (λ x r k. Unit {0}) (λ x r q. Unit {0}) (λ x r ours. tt) (λ x y r q k ours joined climb fits. tt)
    (λ x y r q ours joined climb. tt)
    (λ before n m. (link number : ℕ) (bytes : List ℕ) → IsBroughtTo g src link number bytes n m
    → IsOnWay life (d + tick) g src started (λ joins. Unit {0}) link bytes before n m)
    (λ before n m hear. on_way g src life d tick 0 0 started t ⊥ (λ x r k. Unit {0}) (λ x r q. Unit {0}) (λ x r ours. tt)
    (λ x y r q k ours joined climb fits. tt) (λ x y r q ours joined climb. tt) (λ joins. Unit {0}) (λ r k f. tt) far before n m
    (λ r st k early at fits lt. early) hear)
    ms [] n (λ r st at. record {
      events = [];
      led = new.opened r st at;
      found = λ x i now link ours linked le cause. absurd (false≢true cause);
    }) (λ number f link x kind m ours after there on read same named time by. absurd (none_behind n number f
    (subst (λ (fs : List Sent). length fs < number) (sym new.silent) after) there)) goes
    (each_move_of (λ n m. MoveClimbs g src life d tick 0 0 started t ⊥ (λ x r k. Unit {0}) (λ x r q. Unit {0}) (λ x r ours. tt)
    (λ x y r q k ours joined climb fits. tt) (λ x y r q ours joined climb. tt) n m)
    (λ n m r number draw e st i joins x comes is at was ours named. tt) ms n)

module _ (src from_rp from_source : ℕ) (distance : Sources → ℕ → ℕ) (near : (r : ℕ) → distance None r ≤ from_rp)
    (near_source : (r : ℕ) → distance (Some src) r ≤ from_source) where
  abbrev most : Sources → ℕ
  most None = from_rp
  most (Some a) = from_rp + from_source + 1

  abbrev Fits : Sources → ℕ → ℕ → Type 0
  Fits x r k = k + distance x r ≤ most x

  abbrev Climb : Sources → ℕ → ℕ → Type 0
  Climb x r q = distance x r < distance x q

  at_most : (a : ℕ) (r : ℕ) → IsJoinedAs (Some src) (Some a) → distance (Some a) r ≤ from_source
  at_most a r (inl none) = absurd (off none)
    where
      off : (let y : Option ℕ = Some a in y) ≡ None → ⊥
      off e = cc e
  at_most a r (inr same) = subst (λ (x : Sources). distance x r ≤ from_source) (sym same) (near_source r)

  host : (x : Sources) (r : ℕ) → IsJoinedAs (Some src) x → Fits x r 0
  host None r ours = let le : distance None r ≤ from_rp = near r in omega (arith, le)
  host (Some a) r ours = by (distance (Some a) r) (at_most a r ours)
    where
      by : (z : ℕ) → z ≤ from_source → 0 + z ≤ from_rp + from_source + 1
      by z e = omega (arith, e)

  hop : (x y : Sources) (r q k : ℕ) → IsJoinedAs (Some src) x → IsJoinedAs x y → Climb y r q → Fits y q k → Fits x r (suc k)
  hop x y r q k ours (inr same) climb fits =
      by (distance y r) (distance y q) (most y) climb fits (ap (λ (z : Sources). distance z r) same) (ap most same)
    where
      by : (u v w : ℕ) → u < v → k + v ≤ w → u ≡ distance x r → w ≡ most x → suc k + distance x r ≤ most x
      by u v w e f g h = omega (arith, e, f, g, h)
  hop None y r q k ours (inl none) climb fits =
      by (distance y r) (distance y q) (most y) climb fits (ap (λ (z : Sources). distance z r) none) (ap most none)
    where
      by : (u v w : ℕ) → u < v → k + v ≤ w → u ≡ distance None r → w ≡ from_rp → suc k + distance None r ≤ from_rp
      by u v w e f g h = omega (arith, e, f, g, h)
  hop (Some a) y r q k ours (inl none) climb fits = by (distance y q) (most y) (distance (Some a) r) fits (ap most none) (at_most a r ours)
    where
      by : (v w z : ℕ) → k + v ≤ w → w ≡ from_rp → z ≤ from_source → suc k + z ≤ from_rp + from_source + 1
      by v w z e f g = omega (arith, e, f, g)

  leaf : (x y : Sources) (r q : ℕ) → IsJoinedAs (Some src) x → IsJoinedAs x y → Climb y r q → Fits x r 1
  leaf x y r q ours joined climb = hop x y r q 0 ours joined climb (host y q (ours_of src x y ours joined))

less_far : (limit k most each now : ℕ) → k ≤ most → limit + most * each < now → now < limit + k * each → ⊥
less_far limit k most each now le past lt = by (k * each) (most * each) (mul-le-mul_right each le) past lt
  where
    by : (a b : ℕ) → a ≤ b → limit + b < now → now < limit + a → ⊥
    by a b e f g = omega (arith, e, f, g)

few_joins : (from_rp from_source k z : ℕ) → k + z ≤ from_rp + from_source + 1 → k ≤ from_rp + from_source + 1
few_joins from_rp from_source k z e = omega (arith, e)

pub each_way_is_short : EachWayIsShort
unfolding past_after has_cause
each_way_is_short g src life d tick from_rp from_source distance started t n ms far new goes leads near near_source =
    all_moves g src life d tick 0 0 started t ⊥ (Fits src from_rp from_source distance near near_source)
    (Climb src from_rp from_source distance near near_source) (host src from_rp from_source distance near near_source)
    (hop src from_rp from_source distance near near_source) (leaf src from_rp from_source distance near near_source)
    (λ before n m. (link number : ℕ) (bytes : List ℕ) → IsBroughtTo g src link number bytes n m
    → IsOnWay life (d + tick) g src started (λ joins. joins ≤ from_rp + from_source + 1) link bytes before n m)
    (λ before n m hear. on_way g src life d tick 0 0 started t ⊥ (Fits src from_rp from_source distance near near_source)
    (Climb src from_rp from_source distance near near_source) (host src from_rp from_source distance near near_source)
    (hop src from_rp from_source distance near near_source) (leaf src from_rp from_source distance near near_source)
    (λ joins. joins ≤ from_rp + from_source + 1) (λ r k f. few_joins from_rp from_source k (distance (Some src) r) f) far before n m
    (λ r st k early at fits lt. early) hear)
    ms [] n (λ r st at. record {
      events = [];
      led = new.opened r st at;
      found = λ x i now link ours linked le cause. absurd (false≢true cause);
    }) (λ number f link x kind m ours after there on read same named time by. absurd (none_behind n number f
    (subst (λ (fs : List Sent). length fs < number) (sym new.silent) after) there)) goes leads

pub links_come_to_lead_to_hosts : LinksComeToLeadToHosts
links_come_to_lead_to_hosts g src life d tick limit from_rp from_source distance started t n ms far over goes leads near near_source =
    all_moves g src life d tick (length n.frames) limit started t (Unit {0}) (Fits src from_rp from_source distance near near_source)
    (Climb src from_rp from_source distance near near_source) its_host its_hop its_leaf
    (EachIsOnWay life (d + tick) g src (limit + (from_rp + from_source + 1) * (life + (d + tick))) started (λ joins. joins ≤ from_rp + from_source + 1))
    (λ before n m hear past. on_way g src life d tick first limit started t (Unit {0}) (Fits src from_rp from_source distance near near_source)
    (Climb src from_rp from_source distance near near_source) its_host its_hop its_leaf (λ joins. joins ≤ from_rp + from_source + 1) few far before n m
    (λ r st k early at fits lt. less_far limit k (from_rp + from_source + 1) (life + (d + tick)) ((st.state).present + started r) (few r k fits)
    (past r st at) lt) hear)
    ms [] n (λ r st at. let f : IsOverBy g limit started r st = over r st at in record {
      events = f.events;
      led = f.led;
      found = λ x i now link ours linked le cause. record {
        joins = 0;
        fits = its_host x r ours;
        way = inr (tt, none_yet (now + started r) (f.over i (probe x) now cause));
      };
    }) (λ number f link x kind m ours after there on read same named time by. absurd (none_behind n number f after there)) goes leads
  where
    first : ℕ
    first = length n.frames

    its_host : (x : Sources) (r : ℕ) → IsJoinedAs (Some src) x → Fits src from_rp from_source distance near near_source x r 0
    its_host = host src from_rp from_source distance near near_source

    its_hop : (x y : Sources) (r q k : ℕ) → IsJoinedAs (Some src) x → IsJoinedAs x y → Climb src from_rp from_source distance near near_source y r q
        → Fits src from_rp from_source distance near near_source y q k → Fits src from_rp from_source distance near near_source x r (suc k)
    its_hop = hop src from_rp from_source distance near near_source

    its_leaf : (x y : Sources) (r q : ℕ) → IsJoinedAs (Some src) x → IsJoinedAs x y → Climb src from_rp from_source distance near near_source y r q
        → Fits src from_rp from_source distance near near_source x r 1
    its_leaf = leaf src from_rp from_source distance near near_source

    few : (r k : ℕ) → Fits src from_rp from_source distance near near_source (Some src) r k → k ≤ from_rp + from_source + 1
    few r k f = few_joins from_rp from_source k (distance (Some src) r) f

    none_yet : (now : ℕ) → now < limit → now < limit + 0 * (life + (d + tick))
    none_yet now lt = omega (arith, zero-mul (life + (d + tick)), lt)
