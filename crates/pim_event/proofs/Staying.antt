-- Which sources stay as they were, whether they have a fact or not: after an event, after the expiry of a timer, and
-- over firings and events in turn.
use Rattle.std.{proofs.{Common.{◌≡◌, ◌≤◌, ◌<◌, ◌+◌, ℕ, Bool, true, false, ◌&&◌, ◌||◌, ◌⊎◌, inl, inr, cond, List, [], ◌∷◌, ◌++◌, Result, Ok, Err, OnOk, length, take, take_all, get_or, add-one, refl, ap, subst, sym, ◌∙◌, arith}, Math.Seq.take-suc, lemmas.{Bool.or_parts, List.Folds.list_any-append}}, specs.Prelude.if◌then◌else◌}
use Rattle.pim_ip.{specs.Ipv4.Packet}
use Rattle.pim_types.{specs.{declared.{event.Event.Event, fact.Key.Key}, Keys.source_key}}
use Rattle.pim_model.{specs.{Cache.{Answers, Plain, answers}, declared.accepted.Accepted.Accepted, Firing.{fire_once, fired, settled}, Messages.Message, Full.passes_limit, Reach.own_firing, State.{InterfaceTable, State, interfaces_of}, Step.{change, done, ran, state_after, step, taken}, Tables.has_row, Timers.Ending, Neighbours.is_dr}}
use Rattle.law_events.{specs.{Locality.{IsQuiet, touching}, Rest.IsAtRest, Scopes.reads, Keeps.KeepsAnswers, Named.{is_source_named, is_same_beside, is_same_fact, is_same_sight}, Adjacent.{AdjoinsAlone, with_neighbour_rows}, Decided.IsDecided, Kept.SameAnswers, Switched.is_switch}, proofs.{SameRows.flags, Configured.{change_ups, configured_beside, firing_ups}, KeptSources.unnamed_keeps, Reached.IsConfigured, NamedSameRows.{both_of, not_false}, Settled.settled_configured, NeighbourStays.adjoins_stays, CacheSameRows.kept_is_same}}
use Rattle.pim_state.{specs.declared.touched.Touched.Touched}
use Rattle.pim_fanout.{specs.{Contains.{Adjoins, Contains}, Disturbed.{is_disturbed, joined}}, proofs.Untouched.{switched_is_unnamed, untouched_is_unnamed}}
use Rattle.law_plane.{specs.{Offered.offered, Staying.{KeepsRoutes, OffersAlike, SourceStays, is_rerouting}}, proofs.{Routed.{event_keeps_routes, firing_keeps_routes}, Staying.{firing_source_stays, offer_stays, plain_offer_stays, stays_in_turn, stays_itself, time_source_stays, unnamed_source_stays}}}
use Rattle.pim_event.{specs.{Ends.end_moves_dr, Staying.{LastOffersStay, OffersStay, UntouchedOffersStay, StaysBeside, disturbed_by, moves_all, moves_dr}, Replacing.Disturbance}, proofs.{Serving.{event_dr, firing_dr}, Taking.taken_is_done}}

-- ---- what is disturbed

joined_disturbs : (t u : Touched) (g src : ℕ)
    → is_disturbed (joined t u) g src ≡ (is_disturbed t g src || is_disturbed u g src)
unfolding joined is_disturbed touching
joined_disturbs Touched.All u g src = refl
joined_disturbs (Touched.Keys before) Touched.All g src = or_all (touching before (source_key 0 g src))
  where
    or_all : (b : Bool) → true ≡ (b || true)
    or_all true = refl
    or_all false = refl
joined_disturbs (Touched.Keys before) (Touched.Keys keys) g src = list_any-append (reads (source_key 0 g src)) before keys

not_joined : (t u : Touched) (g src : ℕ) → is_disturbed (joined t u) g src ≡ false
    → (is_disturbed t g src ≡ false) × (is_disturbed u g src ≡ false)
not_joined t u g src out =
    or_parts (is_disturbed t g src) (is_disturbed u g src) (sym (joined_disturbs t u g src) ∙ out)

not_disturbed : (all : Bool) (touched : Touched) (g src : ℕ)
    → is_disturbed (if all then Touched.All else touched) g src ≡ false
    → (all ≡ false) × (is_disturbed touched g src ≡ false)
unfolding is_disturbed
not_disturbed all touched g src out = go all out
  where
    go : (b : Bool) → is_disturbed (cond b Touched.All touched) g src ≡ false
        → (b ≡ false) × (is_disturbed touched g src ≡ false)
    go true e = cc
    go false e = (refl, e)

-- ---- an event, the expiry of a timer, and the present alone

pub few_of : (s : State) (lent : InterfaceTable) → lent ≡ interfaces_of s → length lent.configured.interfaces ≤ 120
    → length s.configured.interfaces ≤ 120
few_of s lent lends few = subst (λ (x : InterfaceTable). length x.configured.interfaces ≤ 120) lends few

either_way : {A B C : Type 0} → A ⊎ B → (A → C) → (B → C) → C
either_way (inl a) first second = first a
either_way (inr b) first second = second b

-- a change of neighbours
module _ (s c : State) (quiet : IsQuiet s) (few : length s.configured.interfaces ≤ 120) (keys : List Key)
    (adjoins : AdjoinsAlone keys s c) (same_dr : (i : ℕ) → is_dr s i ≡ is_dr c i) (messages : List Message) (w g src : ℕ)
    (out : touching keys (source_key 0 g src) ≡ false) where
  abbrev last : State
  last = (settled s (c, messages) w).0

  abbrev before : State
  before = with_neighbour_rows last s.neighbours

  stays_there : (is_source_named g src s before ≡ false) × (answers before g src ≡ answers last g src)
  stays_there = adjoins_stays keys s c quiet adjoins same_dr messages w g src out

  before_configured : IsConfigured s before
  before_configured =
      let changed : IsConfigured s (with_neighbour_rows c s.neighbours) =
      configured_beside keys s (with_neighbour_rows c s.neighbours) adjoins.agrees in
      let all : IsConfigured s last =
      settled_configured s (c, messages) w (record { settings = changed.settings; configured = changed.configured }) in
      record { settings = all.settings; configured = all.configured }

  before_keeps : KeepsAnswers g src s before
  before_keeps =
      unnamed_keeps g src s before before_configured.settings before_configured.configured few stays_there.0

  same_fact : is_source_named g src s before ≡ false
      → has_row s.sources (source_key 0 g src) ≡ has_row last.sources (source_key 0 g src)
  unfolding is_source_named
  same_fact e =
      let all : _ = both_of (is_same_fact g src s before && is_same_sight g src s before) (is_same_beside g src s before)
      (not_false _ e) in
      flags _ _ (both_of (is_same_fact g src s before) (is_same_sight g src s before) all.0).0

  adjoined_stays : SourceStays g src s last
  adjoined_stays = record {
    fact = same_fact stays_there.0;
    answers_are = subst (λ (r : Answers). SameAnswers (answers s g src) r) stays_there.1
        (kept_is_same g src s before before_configured few before_keeps);
  }

adjoined_event_stays : (s : State) (w : ℕ) (a : Accepted) → IsQuiet s → length s.configured.interfaces ≤ 120 → (touched : Touched)
    → Adjoins touched s (change s w a).state → ((i : ℕ) → is_dr s i ≡ is_dr (change s w a).state i) → (g src : ℕ)
    → is_disturbed touched g src ≡ false
    → SourceStays g src s (done s w (change s w a)).state
unfolding done is_disturbed
adjoined_event_stays s w a quiet few Touched.All none same_dr g src out = absurd none
adjoined_event_stays s w a quiet few (Touched.Keys keys) adjoins same_dr g src out =
    adjoined_stays s (change s w a).state quiet few keys adjoins same_dr (change s w a).messages w g src out

adjoined_firing_stays : (s : State) (w : ℕ) (e : Ending) → IsQuiet s → length s.configured.interfaces ≤ 120 → (touched : Touched)
    → Adjoins touched s (own_firing s e) → ((i : ℕ) → is_dr s i ≡ is_dr (own_firing s e) i) → (g src : ℕ)
    → is_disturbed touched g src ≡ false
    → SourceStays g src s (fire_once w s e).0
unfolding fire_once own_firing is_disturbed
adjoined_firing_stays s w e quiet few Touched.All none same_dr g src out = absurd none
adjoined_firing_stays s w e quiet few (Touched.Keys keys) adjoins same_dr g src out =
    let changed : State × List Message = fired (record s { present = e.end }) e.timer.kind e.timer.key in
    adjoined_stays s changed.0 quiet few keys adjoins same_dr changed.1 w g src out

-- an event that changes no DR is no interface that goes up or down
no_switch : (s : State) (a : Accepted) → moves_dr s a ≡ false → is_switch a ≡ false
unfolding moves_dr
no_switch s a still = grind arith

pub stays_after : (o s t : State) (w : ℕ) (a : Accepted) → ((m : ℕ) → ¬ (a ≡ Accepted.Advance m)) → (touched : Touched)
    → Contains touched s (change s w a).state → IsQuiet s → (lent : InterfaceTable) → lent ≡ interfaces_of s
    → length lent.configured.interfaces ≤ 120 → t ≡ (taken s w a).state → (before after : Touched)
    → after ≡ joined before (disturbed_by s a touched) → StaysBeside before o s → StaysBeside after o t
stays_after o s t w a timeless touched covers quiet lent lends few is before after joins stays g src out =
    let parts = not_joined before (disturbed_by s a touched) g src
    (ap (λ (d : Touched). is_disturbed d g src) (sym joins) ∙ out) in
    let calm = not_disturbed (moves_all s a) touched g src parts.1 in
    let still = or_parts (is_rerouting a) (moves_dr s a) calm.0 in
    let routed : KeepsRoutes s (change s w a).state = event_keeps_routes s w a still.0 in
    let same : t ≡ (done s w (change s w a)).state = is ∙ ap (λ x. x.state) (taken_is_done s w a timeless) in
    subst (λ (u : State). SourceStays g src o u) (sym same)
    (stays_in_turn o s (done s w (change s w a)).state g src (stays g src parts.0)
    (either_way covers
    (λ known. unnamed_source_stays s w a (few_of s lent lends few) g src
    (untouched_is_unnamed s (change s w a).state quiet touched known g src routed.routes routed.ranges calm.1))
    (λ beside. either_way beside
    (λ adjoins. adjoined_event_stays s w a quiet (few_of s lent lends few) touched adjoins (event_dr s w a still.1) g src
    calm.1)
    (λ switches. unnamed_source_stays s w a (few_of s lent lends few) g src
    (switched_is_unnamed s (change s w a).state quiet touched switches routed.routes routed.ranges
    (change_ups s w a (no_switch s a still.1)) g src)))))

pub stays_fired : (o s t : State) (w : ℕ) (e : Ending) (touched : Touched) → Contains touched s (own_firing s e)
    → IsQuiet s → (lent : InterfaceTable) → lent ≡ interfaces_of s → length lent.configured.interfaces ≤ 120
    → t ≡ (fire_once w s e).0 → (moves : Bool) → moves ≡ end_moves_dr s e.timer.kind e.timer.key
    → (before after : Touched) → after ≡ joined before (if moves then Touched.All else touched)
    → StaysBeside before o s → StaysBeside after o t
stays_fired o s t w e touched covers quiet lent lends few is moves moving before after joins stays g src out =
    let all : Touched = (if moves then Touched.All else touched) in
    let parts = not_joined before all g src (ap (λ (d : Touched). is_disturbed d g src) (sym joins) ∙ out) in
    let calm = not_disturbed moves touched g src parts.1 in
    let routed : KeepsRoutes s (own_firing s e) = firing_keeps_routes s e in
    subst (λ (u : State). SourceStays g src o u) (sym is)
    (stays_in_turn o s (fire_once w s e).0 g src (stays g src parts.0)
    (either_way covers
    (λ known. firing_source_stays s w e (few_of s lent lends few) g src
    (untouched_is_unnamed s (own_firing s e) quiet touched known g src routed.routes routed.ranges calm.1))
    (λ beside. either_way beside
    (λ adjoins. adjoined_firing_stays s w e quiet (few_of s lent lends few) touched adjoins
    (firing_dr s e (sym moving ∙ calm.0)) g src calm.1)
    (λ switches. firing_source_stays s w e (few_of s lent lends few) g src
    (switched_is_unnamed s (own_firing s e) quiet touched switches routed.routes routed.ranges (firing_ups s e) g src)))))

pub stays_present : (o s t : State) (m : ℕ) (disturbed : Touched) → t ≡ record s { present = m }
    → StaysBeside disturbed o s → StaysBeside disturbed o t
stays_present o s t m disturbed is stays g src out =
    subst (λ (u : State). SourceStays g src o u) (sym is)
    (stays_in_turn o s (record s { present = m }) g src (stays g src out) (time_source_stays s m g src))

pub stays_the_same : (s t : State) (disturbed : Touched) → t ≡ s → StaysBeside disturbed s t
stays_the_same s t disturbed is g src out = subst (λ (u : State). SourceStays g src s u) (sym is) (stays_itself s g src)

-- ---- what is offered

-- all are disturbed where there is no more room, or room again
pub offers_with_room : (s t : State) (disturbed after : Touched) (differs : Bool)
    → after ≡ cond differs Touched.All disturbed → (differs ≡ false → passes_limit s 1 ≡ passes_limit t 1)
    → StaysBeside disturbed s t → UntouchedOffersStay after s t
unfolding is_disturbed
offers_with_room s t disturbed after true is room stays g src out =
    let all : is_disturbed Touched.All g src ≡ false = ap (λ (d : Touched). is_disturbed d g src) (sym is) ∙ out in
    let none : ⊥ = cc in absurd none
offers_with_room s t disturbed after false is room stays g src out =
    offer_stays s t g src (stays g src (ap (λ (d : Touched). is_disturbed d g src) (sym is) ∙ out)) (room refl)

pub offers_the_same : (s t : State) (disturbed : Touched) → t ≡ s → UntouchedOffersStay disturbed s t
offers_the_same s t disturbed is g src out =
    subst (λ (u : State). OffersAlike (offered s g src) (offered u g src)) (sym is)
    (offer_stays s s g src (stays_itself s g src) refl)

pub plain_offers_stay : {A E : Type 0} (r : Result A E) (s t : State) (e : Event) (p : Packet) (how : Plain)
    → IsAtRest s → IsDecided s e p how → OnOk r (t ≡ (step s e).state) → (disturbed : Touched)
    → OnOk r (UntouchedOffersStay disturbed s t)
plain_offers_stay (Ok x) s t e p how rest is after disturbed =
    λ g src out. subst (λ (u : State). OffersAlike (offered s g src) (offered u g src)) (sym after)
    (plain_offer_stays s e p how rest is g src)
plain_offers_stay (Err x) s t e p how rest is after disturbed = tt

-- ---- the last of some events

last_stays : (s : State) (es : List Event) (e : Event) (disturbed : Disturbance)
    → OffersStay disturbed (state_after s es) (step (state_after s es) e).state → LastOffersStay s (es ++ e ∷ []) disturbed
unfolding state_after ran
last_stays s [] e disturbed stays = stays
last_stays s (x ∷ []) e disturbed stays = stays
last_stays s (x ∷ y ∷ es) e disturbed stays = last_stays (step s x).state (y ∷ es) e disturbed stays

module _ (first : State) (events : List Event) where
  pub stays_next : (i : ℕ) (s t : State) (e : Event) (disturbed : Disturbance) → i < length events → e ≡ get_or events i e
      → s ≡ state_after first (take i events) → t ≡ (step s e).state → OffersStay disturbed s t
      → LastOffersStay first (take (i + 1) events) disturbed
  stays_next i s t e disturbed lt is state after stays =
      let next : take (i + 1) events ≡ take i events ++ e ∷ [] =
      ap (λ (k : ℕ). take k events) (add-one i) ∙ take-suc events i e lt
      ∙ ap (λ (x : Event). take i events ++ x ∷ []) (sym is) in
      subst (λ (es : List Event). LastOffersStay first es disturbed) (sym next)
      (last_stays first (take i events) e disturbed
      (subst (λ (x : State). OffersStay disturbed x (step x e).state) state
      (subst (λ (u : State). OffersStay disturbed s u) after stays)))

  pub stays_all : (i : ℕ) (disturbed : Disturbance) → length events ≤ i → LastOffersStay first (take i events) disturbed
      → LastOffersStay first events disturbed
  stays_all i disturbed le stays =
      subst (λ (es : List Event). LastOffersStay first es disturbed) (take_all i events le) stays
