-- What a router makes of an event behind all that stands before it.
use Rattle.std.{specs.{Option.option_map_or, Prelude.option_and_then}, proofs.{Common.{◌≡◌, ◌∙◌, ◌++◌, ◌&&◌, ◌||◌, ◌⊎◌, ◌/◌, inl, inr, ap, refl, sym, subst, ℕ, Bool, true, false, is_some, nat_lt, not, List, [], ◌∷◌, Option, Some, None, Result, Ok, Err, IfSome, IsTrue, if◌then◌else◌, arith}, lemmas.{Bool.Decides.nat_tests, List.append-nil}}}
use Rattle.pim_ip.{specs.{Ipv4.{Packet, ipv4_reading, is_source_specific}, Prefixes.longest_match, declared.refusal.Refusal.Refusal}}
use Rattle.pim_types.{specs.declared.{config.RpTable.RpTable, event.{Event.Event, EventKind.EventKind}, fact.Key.Key, outcome.{Emission.Emission, Verdict.Verdict}}}
use Rattle.pim_model.specs.{State.{State, is_own, is_own_among}, Step.step, Sure.needs_no_memory, Tables.is_empty_list, Unicast.{rp_among, rp_of, no_ranges}, Writing.unicast_time_to_live, Candidates.chosen_among}
use Rattle.pim_wire.{specs.Registers.null_register_text}
use Rattle.law_settled.{proofs.UnchangedLaws.{ignored_unchanged, refused_unchanged}}
use Rattle.pim_router.{specs.{Standing.{Shown as RouterShown, Standing}, Stepped.Stepped}}
use Rattle.pim_anycast.{specs.{Announced.{announced, announced_all, announced_due, announced_new, is_announced, is_due, is_local, local_keys, announcement_interval}, Joined.{event_given, kind_given, packet_announced, sent_after, sent_before}, Passed.{bytes_given, copies_of, passed}, Sets.{are_rp_sets, set_for, to_others}, declared.{front.Passed.Passed, set.RpSet.RpSet}}, proofs.{JoinedLaws.{kind_same, none_after, none_before}, Unset.none_new}}
use Rattle.pim_session.specs.{Behind.SteppedBehind, Front.{Front, emissions_leaving, given, is_sure}, Shared.{Beside, BringsFrame, Reached, Saw, front_behind, given_behind, is_advance, is_as_it_came, is_sure_behind, is_unshared, left_behind, name_announced, unicast_event}}

-- ---- what the router is asked

abbrev pub ranges_in : Option Standing → RpTable
ranges_in o = option_map_or (λ r. r.state.ranges) o no_ranges

abbrev pub local_in : Option Standing → ℕ → ℕ → Bool
local_in o g src = option_map_or (λ r. is_local r.state g src) o false

abbrev pub present_in : Option Standing → ℕ
present_in o = option_map_or (λ r. r.state.present) o 0

abbrev pub local_keys_in : Option Standing → List Key
local_keys_in o = option_map_or (λ r. local_keys r.state) o []

pub own_of : (o : Option Standing) (a : ℕ)
    → option_map_or (λ r. is_own r.state a) o false
    ≡ is_own_among (option_map_or (λ r. r.state.configured) o (record { interfaces = []; addresses = [] })) a
unfolding is_own_among
own_of None a = refl
own_of (Some r) a = refl

abbrev no_address : Option ℕ
no_address = None

none_either : (b : Bool) → no_address ≡ (if b then no_address else no_address)
none_either true = refl
none_either false = refl

pub rp_told : (o : Option Standing) (g : ℕ) → option_and_then (λ r. rp_of r.state g) o ≡ rp_among (ranges_in o) g
unfolding rp_of rp_among longest_match chosen_among
rp_told None g = none_either (is_source_specific g)
rp_told (Some r) g = refl

pub fits_told : (o : Option Standing) (sets : List RpSet) (b : Bool)
    → are_rp_sets (option_map_or (λ r. r.state.configured) o (record { interfaces = []; addresses = [] })) sets ≡ b
    → IfSome o (λ r. are_rp_sets r.state.configured sets ≡ b)
fits_told None sets b is = tt
fits_told (Some r) sets b is = is

-- ---- what leaves beside what leaves behind the front for older hosts

reached : (sets : List RpSet) (front : Option Front) (s : State) (e : Event) (answered : Result Verdict Refusal)
    (left : RouterShown) (sent leaving : List Emission) (after : Option Front)
    → SteppedBehind front s (event_given sets s e) answered left sent after
    → leaving ≡ sent_before sets s e.kind ++ sent ++ sent_after sets s (step s (given_behind sets front s e)).state e.kind
    → Reached sets front s e answered left leaving after
unfolding given_behind front_behind left_behind
reached sets front s e answered left sent leaving after stepped leaves = record {
  took = stepped.took;
  sent = leaves
      ∙ ap (λ (xs : List Emission). sent_before sets s e.kind ++ xs
      ++ sent_after sets s (step s (given front s (event_given sets s e))).state e.kind) stepped.sent;
  known = stepped.known;
}

-- a packet by unicast
unicast_reached : (sets : List RpSet) (front : Option Front) (s : State) (draw : ℕ) (bytes packet : List ℕ) (told : Passed)
    (answered : Result Verdict Refusal) (left : RouterShown) (sent leaving : List Emission) (after : Option Front)
    → told ≡ passed sets s.ranges bytes → packet ≡ bytes_given told bytes → leaving ≡ copies_of told ++ sent
    → SteppedBehind front s (unicast_event draw packet) answered left sent after
    → Reached sets front s (unicast_event draw bytes) answered left leaving after
unfolding event_given kind_given
unicast_reached sets front s draw bytes packet told answered left sent leaving after is gives leaves stepped =
    reached sets front s (unicast_event draw bytes) answered left sent leaving after
    (subst (λ (xs : List ℕ). SteppedBehind front s (unicast_event draw xs) answered left sent after)
    (gives ∙ ap (λ (x : Passed). bytes_given x bytes) is) stepped)
    (leaves ∙ ap (λ (x : Passed). copies_of x ++ sent) is ∙ sym (append-nil (copies_of (passed sets s.ranges bytes) ++ sent)))

pub unicast_took : (o : Option Standing) (sets : List RpSet) (front : Option Front) (draw : ℕ) (bytes packet : List ℕ) (told : Passed)
    (event : Event) (answered : Result Verdict Refusal) (left : RouterShown) (sent leaving : List Emission) (after : Option Front)
    → told ≡ passed sets (ranges_in o) bytes → packet ≡ bytes_given told bytes → event ≡ unicast_event draw packet
    → leaving ≡ copies_of told ++ sent
    → IfSome o (λ r. SteppedBehind front r.state event answered left sent after)
    → IfSome o (λ r. Reached sets front r.state (unicast_event draw bytes) answered left leaving after)
unicast_took None sets front draw bytes packet told event answered left sent leaving after is gives brings leaves stepped = tt
unicast_took (Some r) sets front draw bytes packet told event answered left sent leaving after is gives brings leaves stepped =
    unicast_reached sets front r.state draw bytes packet told answered left sent leaving after is gives leaves
    (subst (λ (e : Event). SteppedBehind front r.state e answered left sent after) brings stepped)

-- a packet of a source on an interface
pub named_took : (o : Option Standing) (sets : List RpSet) (front : Option Front) (e : Event) (g src : ℕ) (before : Bool)
    (answered : Result Verdict Refusal) (left : RouterShown) (sent more leaving : List Emission) (after : Option Front)
    → before ≡ is_announced sets (ranges_in o) (local_in o g src) g
    → more ≡ announced_new sets (ranges_in left.standing) before (local_in left.standing g src) g src
    → leaving ≡ sent ++ more
    → IfSome o (λ r. SteppedBehind front r.state e answered left sent after)
    → IfSome o (λ r. Beside [] (name_announced sets r.state (step r.state (given front r.state e)).state g src) front r.state e
    answered left leaving after)
unfolding name_announced
named_took None sets front e g src before answered left sent more leaving after was is leaves stepped = tt
named_took (Some r) sets front e g src before answered left sent more leaving after was is leaves stepped = record {
  sent = sent;
  stepped = stepped;
  leaves = leaves ∙ ap (λ (xs : List Emission). sent ++ xs)
      (is ∙ ap (λ (o : Option Standing). announced_new sets (ranges_in o) before (local_in o g src) g src) stepped.took.state
      ∙ ap (λ (b : Bool). announced_new sets (step r.state (given front r.state e)).state.ranges b
      (is_local (step r.state (given front r.state e)).state g src) g src) was);
}

-- a packet on an interface that was read
frame_reached : (sets : List RpSet) (front : Option Front) (s : State) (draw : ℕ) (kind : EventKind) (bytes : List ℕ)
    (answered : Result Verdict Refusal) (left : RouterShown) (sent leaving : List Emission) (after : Option Front)
    → BringsFrame bytes kind
    → (let e : Event = record { draw = draw; kind = kind } in SteppedBehind front s e answered left sent after
    → leaving ≡ sent ++ packet_announced sets s (step s (given front s e)).state (ipv4_reading bytes)
    → Reached sets front s e answered left leaving after)
unfolding event_given kind_given given_behind
frame_reached sets front s draw (EventKind.Frame i brought) bytes answered left sent leaving after brings stepped leaves =
    let e : Event = record { draw = draw; kind = EventKind.Frame i brought } in
    reached sets front s e answered left sent leaving after stepped
    (leaves ∙ ap (λ (xs : List ℕ). sent ++ packet_announced sets s (step s (given front s e)).state (ipv4_reading xs)) (sym brings))
frame_reached sets front s draw (EventKind.Advance moment) bytes answered left sent leaving after brings stepped leaves = absurd brings
frame_reached sets front s draw (EventKind.Unicast b) bytes answered left sent leaving after brings stepped leaves = absurd brings
frame_reached sets front s draw (EventKind.Up i) bytes answered left sent leaving after brings stepped leaves = absurd brings
frame_reached sets front s draw (EventKind.Down i) bytes answered left sent leaving after brings stepped leaves = absurd brings
frame_reached sets front s draw (EventKind.Routes routes) bytes answered left sent leaving after brings stepped leaves = absurd brings
frame_reached sets front s draw (EventKind.Rps rps) bytes answered left sent leaving after brings stepped leaves = absurd brings
frame_reached sets front s draw (EventKind.RpCandidates candidates) bytes answered left sent leaving after brings stepped leaves = absurd brings

pub frame_took : (o : Option Standing) (sets : List RpSet) (front : Option Front) (e : Event) (bytes : List ℕ) (p : Packet)
    (answered : Result Verdict Refusal) (left : RouterShown) (leaving : List Emission) (after : Option Front)
    → BringsFrame bytes e.kind → ipv4_reading bytes ≡ Ok p
    → IfSome o (λ r. Beside [] (name_announced sets r.state (step r.state (given front r.state e)).state p.destination p.source)
    front r.state e answered left leaving after)
    → IfSome o (λ r. Reached sets front r.state e answered left leaving after)
unfolding name_announced
frame_took None sets front e bytes p answered left leaving after brings reads beside = tt
frame_took (Some r) sets front e bytes p answered left leaving after brings reads beside =
    frame_reached sets front r.state e.draw e.kind bytes answered left beside.sent leaving after brings beside.stepped
    (beside.leaves
    ∙ ap (λ (x : Result Packet Refusal). beside.sent ++ packet_announced sets r.state (step r.state (given front r.state e)).state x) (sym reads))

-- a packet on an interface that can't be read
pub unread_took : (o : Option Standing) (sets : List RpSet) (front : Option Front) (e : Event) (bytes : List ℕ) (refusal : Refusal)
    (answered : Result Verdict Refusal) (left : RouterShown) (sent : List Emission) (after : Option Front)
    → BringsFrame bytes e.kind → ipv4_reading bytes ≡ Err refusal
    → IfSome o (λ r. SteppedBehind front r.state e answered left sent after)
    → IfSome o (λ r. Reached sets front r.state e answered left sent after)
unread_took None sets front e bytes refusal answered left sent after brings reads stepped = tt
unread_took (Some r) sets front e bytes refusal answered left sent after brings reads stepped =
    frame_reached sets front r.state e.draw e.kind bytes answered left sent sent after brings stepped
    (sym (append-nil sent)
    ∙ ap (λ (x : Result Packet Refusal). sent ++ packet_announced sets r.state (step r.state (given front r.state e)).state x) (sym reads))

-- time passed
advance_reached : (sets : List RpSet) (front : Option Front) (s : State) (draw : ℕ) (kind : EventKind)
    (answered : Result Verdict Refusal) (left : RouterShown) (sent leaving : List Emission) (after : Option Front)
    → is_advance kind ≡ true
    → (let e : Event = record { draw = draw; kind = kind } in let t : State = (step s (given front s e)).state in
    SteppedBehind front s e answered left sent after
    → leaving ≡ sent ++ announced_due sets t.ranges (local_keys t) s.present t.present
    → Reached sets front s e answered left leaving after)
unfolding event_given kind_given given_behind
advance_reached sets front s draw (EventKind.Advance moment) answered left sent leaving after is stepped leaves =
    let e : Event = record { draw = draw; kind = EventKind.Advance moment } in
    reached sets front s e answered left sent leaving after stepped leaves
advance_reached sets front s draw (EventKind.Frame i bytes) answered left sent leaving after is stepped leaves = cc
advance_reached sets front s draw (EventKind.Unicast b) answered left sent leaving after is stepped leaves = cc
advance_reached sets front s draw (EventKind.Up i) answered left sent leaving after is stepped leaves = cc
advance_reached sets front s draw (EventKind.Down i) answered left sent leaving after is stepped leaves = cc
advance_reached sets front s draw (EventKind.Routes routes) answered left sent leaving after is stepped leaves = cc
advance_reached sets front s draw (EventKind.Rps rps) answered left sent leaving after is stepped leaves = cc
advance_reached sets front s draw (EventKind.RpCandidates candidates) answered left sent leaving after is stepped leaves = cc

pub advance_took : (o : Option Standing) (sets : List RpSet) (front : Option Front) (e : Event) (before : ℕ)
    (answered : Result Verdict Refusal) (left : RouterShown) (sent more leaving : List Emission) (after : Option Front)
    → is_advance e.kind ≡ true → before ≡ present_in o
    → more ≡ announced_due sets (ranges_in left.standing) (local_keys_in left.standing) before (present_in left.standing)
    → leaving ≡ sent ++ more
    → IfSome o (λ r. SteppedBehind front r.state e answered left sent after)
    → IfSome o (λ r. Reached sets front r.state e answered left leaving after)
advance_took None sets front e before answered left sent more leaving after kind was is leaves stepped = tt
advance_took (Some r) sets front e before answered left sent more leaving after kind was is leaves stepped =
    let t : State = (step r.state (given front r.state e)).state in
    advance_reached sets front r.state e.draw e.kind answered left sent leaving after kind stepped
    (leaves ∙ ap (λ (xs : List Emission). sent ++ xs)
    (is ∙ ap (λ (o : Option Standing). announced_due sets (ranges_in o) (local_keys_in o) before (present_in o)) stepped.took.state
    ∙ ap (λ (n : ℕ). announced_due sets t.ranges (local_keys t) n t.present) was))

-- an event about which the sets change nothing
pass_reached : (sets : List RpSet) (front : Option Front) (s : State) (draw : ℕ) (kind : EventKind)
    (answered : Result Verdict Refusal) (left : RouterShown) (sent : List Emission) (after : Option Front)
    → (is_empty_list sets || is_unshared kind) ≡ true
    → (let e : Event = record { draw = draw; kind = kind } in
    SteppedBehind front s e answered left sent after → Reached sets front s e answered left sent after)
unfolding event_given kind_given given_behind
pass_reached [] front s draw kind answered left sent after is stepped =
    let e : Event = record { draw = draw; kind = kind } in
    let same : event_given [] s e ≡ e = ap (λ (k : EventKind). let x : Event = record { draw = draw; kind = k } in x) (kind_same s kind) in
    reached [] front s e answered left sent sent after
    (subst (λ (x : Event). SteppedBehind front s x answered left sent after) (sym same) stepped)
    (sym (rw (none_before s kind, none_after s (step s (given front s (event_given [] s e))).state kind) (append-nil sent)))
pass_reached (set ∷ sets) front s draw (EventKind.Up i) answered left sent after is stepped =
    let e : Event = record { draw = draw; kind = EventKind.Up i } in
    reached (set ∷ sets) front s e answered left sent sent after stepped (sym (append-nil sent))
pass_reached (set ∷ sets) front s draw (EventKind.Down i) answered left sent after is stepped =
    let e : Event = record { draw = draw; kind = EventKind.Down i } in
    reached (set ∷ sets) front s e answered left sent sent after stepped (sym (append-nil sent))
pass_reached (set ∷ sets) front s draw (EventKind.Routes routes) answered left sent after is stepped =
    let e : Event = record { draw = draw; kind = EventKind.Routes routes } in
    reached (set ∷ sets) front s e answered left sent sent after stepped (sym (append-nil sent))
pass_reached (set ∷ sets) front s draw (EventKind.Rps rps) answered left sent after is stepped =
    let e : Event = record { draw = draw; kind = EventKind.Rps rps } in
    reached (set ∷ sets) front s e answered left sent sent after stepped (sym (append-nil sent))
pass_reached (set ∷ sets) front s draw (EventKind.RpCandidates candidates) answered left sent after is stepped =
    let e : Event = record { draw = draw; kind = EventKind.RpCandidates candidates } in
    reached (set ∷ sets) front s e answered left sent sent after stepped (sym (append-nil sent))
pass_reached (set ∷ sets) front s draw (EventKind.Frame i bytes) answered left sent after is stepped = cc
pass_reached (set ∷ sets) front s draw (EventKind.Advance moment) answered left sent after is stepped = cc
pass_reached (set ∷ sets) front s draw (EventKind.Unicast bytes) answered left sent after is stepped = cc

pub pass_took : (o : Option Standing) (sets : List RpSet) (front : Option Front) (e : Event)
    (answered : Result Verdict Refusal) (left : RouterShown) (sent : List Emission) (after : Option Front)
    → (is_empty_list sets || is_unshared e.kind) ≡ true
    → IfSome o (λ r. SteppedBehind front r.state e answered left sent after)
    → IfSome o (λ r. Reached sets front r.state e answered left sent after)
pass_took None sets front e answered left sent after is stepped = tt
pass_took (Some r) sets front e answered left sent after is stepped =
    pass_reached sets front r.state e.draw e.kind answered left sent after is stepped

-- ---- a packet that a data plane saw

pub none_settled : (o : Option Standing) (b : Bool) (sets : List RpSet) (g src : ℕ) → is_empty_list sets ≡ true
    → IfSome o (λ r. (b ≡ is_announced sets r.state.ranges (is_local r.state g src) g) ⊎ (is_empty_list sets ≡ true))
none_settled None b sets g src none = tt
none_settled (Some r) b sets g src none = inr none

pub announced_settled : (o : Option Standing) (b : Bool) (sets : List RpSet) (g src : ℕ)
    → b ≡ is_announced sets (ranges_in o) (local_in o g src) g
    → IfSome o (λ r. (b ≡ is_announced sets r.state.ranges (is_local r.state g src) g) ⊎ (is_empty_list sets ≡ true))
announced_settled None b sets g src is = tt
announced_settled (Some r) b sets g src is = inl is

pub saw_all : (o : Option Standing) (sets : List RpSet) (e : Event) (g src : ℕ) (before : Bool) (answered : Result Verdict Refusal)
    (left : RouterShown) (sent more leaving : List Emission)
    → IfSome o (λ r. (before ≡ is_announced sets r.state.ranges (is_local r.state g src) g) ⊎ (is_empty_list sets ≡ true))
    → more ≡ announced_new sets (ranges_in left.standing) before (local_in left.standing g src) g src
    → leaving ≡ sent ++ more
    → IfSome o (λ r. Stepped r.state e [] answered left sent)
    → IfSome o (λ r. Saw sets r.state e g src answered left leaving)
unfolding name_announced
saw_all None sets e g src before answered left sent more leaving was is leaves stepped = tt
saw_all (Some r) sets e g src before answered left sent more leaving was is leaves stepped =
    let t : State = (step r.state e).state in
    let here : more ≡ announced_new sets t.ranges before (is_local t g src) g src =
    is ∙ ap (λ (o : Option Standing). announced_new sets (ranges_in o) before (local_in o g src) g src)
    stepped.took.state in
    record {
      took = stepped.took;
      sent = leaves ∙ ap (λ (xs : List Emission). xs ++ more) stepped.sent
          ∙ ap (λ (xs : List Emission). (step r.state e).emissions ++ xs) (here ∙ told sets t r.state before was);
    }
  where
    by_empty : (sets : List RpSet) (t s : State) (b c : Bool) → is_empty_list sets ≡ true
        → announced_new sets t.ranges b (is_local t g src) g src ≡ announced_new sets t.ranges c (is_local t g src) g src
    by_empty [] t s b c e = none_new t.ranges b (is_local t g src) g src ∙ sym (none_new t.ranges c (is_local t g src) g src)
    by_empty (set ∷ sets) t s b c e = cc

    told : (sets : List RpSet) (t s : State) (b : Bool)
        → (b ≡ is_announced sets s.ranges (is_local s g src) g) ⊎ (is_empty_list sets ≡ true)
        → announced_new sets t.ranges b (is_local t g src) g src
        ≡ announced_new sets t.ranges (is_announced sets s.ranges (is_local s g src) g) (is_local t g src) g src
    told sets t s b (inl is) = ap (λ (c : Bool). announced_new sets t.ranges c (is_local t g src) g src) is
    told sets t s b (inr none) = by_empty sets t s b (is_announced sets s.ranges (is_local s g src) g) none

-- ---- events for which no memory is taken

and_left : (a b : Bool) → (a && b) ≡ true → a ≡ true
and_left true b e = refl
and_left false b e = cc

and_right : (a b : Bool) → (a && b) ≡ true → b ≡ true
and_right true b e = e
and_right false b e = cc

-- the router needs none behind the front for older hosts either
needs_none : (front : Option Front) (s : State) (e : Event) → is_sure front s e ≡ true
    → needs_no_memory (step s (given front s e)).answer ≡ true
unfolding is_sure given
needs_none None s e sure = sure
needs_none (Some f) s e sure = and_right _ _ sure

-- the router stays in its state, and sends nothing
still_by : (s : State) (e : Event) (x : Result Verdict Refusal) → (step s e).answer ≡ x → needs_no_memory x ≡ true
    → ((step s e).state ≡ s) × ((step s e).emissions ≡ [])
still_by s e (Ok Verdict.Done) is sure = cc
still_by s e (Ok (Verdict.Ignored reason)) is sure = ((ignored_unchanged s e reason is).0, (ignored_unchanged s e reason is).1)
still_by s e (Err refusal) is sure = ((refused_unchanged s e refusal is).0, (refused_unchanged s e refusal is).1)

stays_by : (front : Option Front) (s : State) (e : Event) → is_sure front s e ≡ true
    → ((step s (given front s e)).state ≡ s) × ((step s (given front s e)).emissions ≡ [])
stays_by front s e sure = still_by s (given front s e) _ refl (needs_none front s e sure)

none_leave : (front : Option Front) → emissions_leaving front [] ≡ []
unfolding emissions_leaving
none_leave None = refl
none_leave (Some f) = refl

silent : (front : Option Front) (s : State) (e : Event) (answered : Result Verdict Refusal) (left : RouterShown)
    (sent : List Emission) (after : Option Front) → SteppedBehind front s e answered left sent after → is_sure front s e ≡ true → sent ≡ []
silent front s e answered left sent after stepped sure =
    stepped.sent ∙ ap (emissions_leaving front) (stays_by front s e sure).1 ∙ none_leave front

-- a source of which a packet changes nothing isn't announced anew
none_anew : (sets : List RpSet) (ranges : RpTable) (here : Bool) (g : ℕ)
    → (is_announced sets ranges here g || not (is_announced sets ranges here g)) ≡ true
none_anew sets ranges here g = go (is_announced sets ranges here g)
  where
    go : (b : Bool) → (b || not b) ≡ true
    go true = refl
    go false = refl

none_sent : (sets : List RpSet) (ranges : RpTable) (here : Bool) (g src : ℕ)
    → announced_new sets ranges (is_announced sets ranges here g) here g src ≡ []
unfolding announced_new is_announced announced
none_sent sets ranges here g src = go here (set_for sets ranges g)
  where
    go : (here : Bool) (o : Option RpSet)
        → (if here && is_some o then [] else (if here then option_map_or (λ set. to_others set unicast_time_to_live (null_register_text src g)) o [] else [])) ≡ []
    go true (Some set) = refl
    go true None = refl
    go false o = refl

-- ---- for each kind of event

pub unicast_surely : (o : Option Standing) (sets : List RpSet) (front : Option Front) (draw : ℕ) (bytes : List ℕ) (B : Type 0)
    → (passed sets (ranges_in o) bytes ≡ Passed.AsItCame → B)
    → IfSome o (λ r. IsTrue (is_sure_behind sets front r.state (unicast_event draw bytes)) → B)
unfolding is_sure_behind
unicast_surely None sets front draw bytes B h = tt
unicast_surely (Some r) sets front draw bytes B h = λ sure. h (came (passed sets r.state.ranges bytes) (and_left _ _ sure))
  where
    came : (x : Passed) → is_as_it_came x ≡ true → x ≡ Passed.AsItCame
    came Passed.AsItCame e = refl
    came (Passed.Copied copies) e = cc
    came (Passed.Counted text) e = cc

-- the packet that was given is the one that came, and the router takes it surely
pub given_surely : (o : Option Standing) (sets : List RpSet) (front : Option Front) (draw : ℕ) (bytes packet : List ℕ) (told : Passed)
    (event : Event) (B : Type 0)
    → told ≡ passed sets (ranges_in o) bytes → packet ≡ bytes_given told bytes → event ≡ unicast_event draw packet
    → IfSome o (λ r. IsTrue (is_sure front r.state event) → B)
    → IfSome o (λ r. IsTrue (is_sure_behind sets front r.state (unicast_event draw bytes)) → B)
unfolding is_sure_behind event_given kind_given
given_surely None sets front draw bytes packet told event B is gives brings h = tt
given_surely (Some r) sets front draw bytes packet told event B is gives brings h = λ sure.
    h (subst (λ (e : Event). is_sure front r.state e ≡ true)
    (sym (brings ∙ ap (unicast_event draw) (gives ∙ ap (λ (x : Passed). bytes_given x bytes) is))) (and_right _ _ sure))

-- nothing was sent
pub silent_surely : (o : Option Standing) (sets : List RpSet) (front : Option Front) (draw : ℕ) (bytes packet : List ℕ) (told : Passed)
    (event : Event) (answered : Result Verdict Refusal) (left : RouterShown) (sent : List Emission) (after : Option Front) (B : Type 0)
    → told ≡ passed sets (ranges_in o) bytes → packet ≡ bytes_given told bytes → event ≡ unicast_event draw packet
    → IfSome o (λ r. SteppedBehind front r.state event answered left sent after) → (sent ≡ [] → B)
    → IfSome o (λ r. IsTrue (is_sure_behind sets front r.state (unicast_event draw bytes)) → B)
silent_surely None sets front draw bytes packet told event answered left sent after B is gives brings stepped h = tt
silent_surely (Some r) sets front draw bytes packet told event answered left sent after B is gives brings stepped h =
    given_surely (Some r) sets front draw bytes packet told event B is gives brings
    (λ sure. h (silent front r.state event answered left sent after stepped sure))

-- a packet of a source: it is announced no more than before
pub named_surely : (o : Option Standing) (sets : List RpSet) (front : Option Front) (e : Event) (g src : ℕ) (before : Bool)
    (answered : Result Verdict Refusal) (left : RouterShown) (sent : List Emission) (after : Option Front) (B : Type 0)
    → before ≡ is_announced sets (ranges_in o) (local_in o g src) g
    → IfSome o (λ r. SteppedBehind front r.state e answered left sent after)
    → ((before || not (is_announced sets (ranges_in left.standing) (local_in left.standing g src) g)) ≡ true → B)
    → IfSome o (λ r. IsTrue (is_sure front r.state e) → B)
named_surely None sets front e g src before answered left sent after B was stepped h = tt
named_surely (Some r) sets front e g src before answered left sent after B was stepped h = λ sure.
    let same : (before || not (is_announced sets (ranges_in left.standing) (local_in left.standing g src) g))
    ≡ (is_announced sets r.state.ranges (is_local r.state g src) g || not (is_announced sets r.state.ranges (is_local r.state g src) g)) =
    ap (λ (b : Bool). b || not (is_announced sets (ranges_in left.standing) (local_in left.standing g src) g)) was
    ∙ ap (λ (o : Option Standing). is_announced sets r.state.ranges (is_local r.state g src) g
    || not (is_announced sets (ranges_in o) (local_in o g src) g)) stepped.took.state
    ∙ ap (λ (t : State). is_announced sets r.state.ranges (is_local r.state g src) g
    || not (is_announced sets t.ranges (is_local t g src) g)) (stays_by front r.state e sure).0 in
    h (same ∙ none_anew sets r.state.ranges (is_local r.state g src) g)

pub none_named : (o : Option Standing) (sets : List RpSet) (front : Option Front) (e : Event) (g src : ℕ) (before : Bool)
    (answered : Result Verdict Refusal) (left : RouterShown) (sent more : List Emission) (after : Option Front) (B : Type 0)
    → before ≡ is_announced sets (ranges_in o) (local_in o g src) g
    → more ≡ announced_new sets (ranges_in left.standing) before (local_in left.standing g src) g src
    → IfSome o (λ r. SteppedBehind front r.state e answered left sent after) → (more ≡ [] → B)
    → IfSome o (λ r. IsTrue (is_sure front r.state e) → B)
none_named None sets front e g src before answered left sent more after B was is stepped h = tt
none_named (Some r) sets front e g src before answered left sent more after B was is stepped h = λ sure.
    h (is ∙ ap (λ (b : Bool). announced_new sets (ranges_in left.standing) b (local_in left.standing g src) g src) was
    ∙ ap (λ (o : Option Standing). announced_new sets (ranges_in o) (is_announced sets r.state.ranges (is_local r.state g src) g)
    (local_in o g src) g src) stepped.took.state
    ∙ ap (λ (t : State). announced_new sets t.ranges (is_announced sets r.state.ranges (is_local r.state g src) g)
    (is_local t g src) g src) (stays_by front r.state e sure).0
    ∙ none_sent sets r.state.ranges (is_local r.state g src) g src)

-- no other event than a packet by unicast comes otherwise than it is
abbrev is_by_unicast : EventKind → Bool
is_by_unicast (EventKind.Unicast bytes) = true
is_by_unicast _ = false

same_kind : (sets : List RpSet) (s : State) (kind : EventKind) → is_by_unicast kind ≡ false → kind_given sets s kind ≡ kind
unfolding kind_given
same_kind sets s (EventKind.Unicast bytes) e = cc
same_kind sets s (EventKind.Frame i bytes) e = refl
same_kind sets s (EventKind.Advance moment) e = refl
same_kind sets s (EventKind.Up i) e = refl
same_kind sets s (EventKind.Down i) e = refl
same_kind sets s (EventKind.Routes routes) e = refl
same_kind sets s (EventKind.Rps rps) e = refl
same_kind sets s (EventKind.RpCandidates candidates) e = refl

abbrev with_kind : ℕ → EventKind → Event
with_kind draw kind = record { draw = draw; kind = kind }

-- what is sure behind both is sure behind the one
other_surely : (o : Option Standing) (sets : List RpSet) (front : Option Front) (e : Event) (B : Type 0)
    → ((s : State) → kind_given sets s e.kind ≡ e.kind)
    → IfSome o (λ r. IsTrue (is_sure front r.state e) → B) → IfSome o (λ r. IsTrue (is_sure_behind sets front r.state e) → B)
unfolding is_sure_behind event_given
other_surely None sets front e B same h = tt
other_surely (Some r) sets front e B same h = λ sure.
    h (subst (λ (k : EventKind). is_sure front r.state (with_kind e.draw k) ≡ true) (same r.state) (and_right _ _ sure))

frame_other : (bytes : List ℕ) (kind : EventKind) → BringsFrame bytes kind → is_by_unicast kind ≡ false
frame_other bytes (EventKind.Frame i brought) e = refl
frame_other bytes (EventKind.Unicast b) e = absurd e
frame_other bytes (EventKind.Advance moment) e = absurd e
frame_other bytes (EventKind.Up i) e = absurd e
frame_other bytes (EventKind.Down i) e = absurd e
frame_other bytes (EventKind.Routes routes) e = absurd e
frame_other bytes (EventKind.Rps rps) e = absurd e
frame_other bytes (EventKind.RpCandidates candidates) e = absurd e

pub frame_surely : (o : Option Standing) (sets : List RpSet) (front : Option Front) (e : Event) (bytes : List ℕ) (B : Type 0)
    → BringsFrame bytes e.kind
    → IfSome o (λ r. IsTrue (is_sure front r.state e) → B) → IfSome o (λ r. IsTrue (is_sure_behind sets front r.state e) → B)
frame_surely o sets front e bytes B brings h =
    other_surely o sets front e B (λ s. same_kind sets s e.kind (frame_other bytes e.kind brings)) h

advance_other : (kind : EventKind) → is_advance kind ≡ true → is_by_unicast kind ≡ false
advance_other (EventKind.Advance moment) e = refl
advance_other (EventKind.Frame i brought) e = cc
advance_other (EventKind.Unicast b) e = cc
advance_other (EventKind.Up i) e = cc
advance_other (EventKind.Down i) e = cc
advance_other (EventKind.Routes routes) e = cc
advance_other (EventKind.Rps rps) e = cc
advance_other (EventKind.RpCandidates candidates) e = cc

pub advance_surely : (o : Option Standing) (sets : List RpSet) (front : Option Front) (e : Event) (B : Type 0)
    → is_advance e.kind ≡ true
    → IfSome o (λ r. IsTrue (is_sure front r.state e) → B) → IfSome o (λ r. IsTrue (is_sure_behind sets front r.state e) → B)
advance_surely o sets front e B kind h =
    other_surely o sets front e B (λ s. same_kind sets s e.kind (advance_other e.kind kind)) h

-- time that doesn't pass makes no announcement due
not_due : (n : ℕ) → is_due n n ≡ false
not_due n = go (n / announcement_interval)
  where
    go : (m : ℕ) → nat_lt m m ≡ false
    go m = grind (arith, nat_tests)

pub still_surely : (o : Option Standing) (sets : List RpSet) (front : Option Front) (e : Event) (before : ℕ)
    (answered : Result Verdict Refusal) (left : RouterShown) (sent : List Emission) (after : Option Front) (B : Type 0)
    → is_advance e.kind ≡ true → before ≡ present_in o
    → IfSome o (λ r. SteppedBehind front r.state e answered left sent after)
    → (is_due before (present_in left.standing) ≡ false → B)
    → IfSome o (λ r. IsTrue (is_sure_behind sets front r.state e) → B)
still_surely None sets front e before answered left sent after B kind was stepped h = tt
still_surely (Some r) sets front e before answered left sent after B kind was stepped h =
    advance_surely (Some r) sets front e B kind (λ sure.
    h (ap (λ (n : ℕ). is_due n (present_in left.standing)) was
    ∙ ap (λ (o : Option Standing). is_due r.state.present (present_in o)) stepped.took.state
    ∙ ap (λ (t : State). is_due r.state.present t.present) (stays_by front r.state e sure).0 ∙ not_due r.state.present))

pub none_due_so : (sets : List RpSet) (ranges : RpTable) (keys : List Key) (before present : ℕ) (more : List Emission)
    → more ≡ announced_due sets ranges keys before present → is_due before present ≡ false → more ≡ []
unfolding announced_due
none_due_so sets ranges keys before present more is due =
    is ∙ ap (λ (b : Bool). if b then announced_all sets ranges keys else []) due

passed_same : (sets : List RpSet) (s : State) (kind : EventKind) → (is_empty_list sets || is_unshared kind) ≡ true
    → kind_given sets s kind ≡ kind
passed_same [] s kind e = kind_same s kind
passed_same (set ∷ sets) s (EventKind.Unicast bytes) e = cc
passed_same (set ∷ sets) s (EventKind.Frame i bytes) e = cc
passed_same (set ∷ sets) s (EventKind.Advance moment) e = cc
passed_same (set ∷ sets) s (EventKind.Up i) e = same_kind (set ∷ sets) s (EventKind.Up i) refl
passed_same (set ∷ sets) s (EventKind.Down i) e = same_kind (set ∷ sets) s (EventKind.Down i) refl
passed_same (set ∷ sets) s (EventKind.Routes routes) e = same_kind (set ∷ sets) s (EventKind.Routes routes) refl
passed_same (set ∷ sets) s (EventKind.Rps rps) e = same_kind (set ∷ sets) s (EventKind.Rps rps) refl
passed_same (set ∷ sets) s (EventKind.RpCandidates candidates) e = same_kind (set ∷ sets) s (EventKind.RpCandidates candidates) refl

pub pass_surely : (o : Option Standing) (sets : List RpSet) (front : Option Front) (e : Event) (B : Type 0)
    → (is_empty_list sets || is_unshared e.kind) ≡ true
    → IfSome o (λ r. IsTrue (is_sure front r.state e) → B) → IfSome o (λ r. IsTrue (is_sure_behind sets front r.state e) → B)
pass_surely o sets front e B is h = other_surely o sets front e B (λ s. passed_same sets s e.kind is) h

-- what can't fail
pub no_fault : (o : Option Standing) (P : Standing → Type 0) (B : Type 0) → IfSome o (λ r. P r → false ≡ true) → IfSome o (λ r. P r → B)
no_fault None P B h = tt
no_fault (Some r) P B h = λ p. let no : false ≡ true = h p in cc
