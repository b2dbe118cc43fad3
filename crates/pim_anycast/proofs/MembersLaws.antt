-- Each router of a set knows the sources that another of them hears.
use Rattle.std.{proofs.{Common.{◌≡◌, ◌≢◌, ◌∙◌, ℕ, suc, zero, ◌+◌, ◌<◌, ◌≤◌, ◌==◌, nat_le, ◌⊎◌, inl, inr, Bool, true, false, is_some, List, [], ◌∷◌, ◌++◌, length, map, Option, Some, None, refl, sym, ap, subst, arith, eqb-true}, lemmas.{Grind.common_steps, Option.slice_get-get_or}}, specs.{List.{Contains, slice_get}, Option.option_map_or}}
use Rattle.pim_types.{specs.{Keys.source_key, declared.{event.{Event.Event, EventKind.EventKind}, fact.SourceRow.SourceRow}}}
use Rattle.pim_model.{specs.{Network.{At, DeliverUnicast, Move, Network, Sent, Station, event_of, frame_at, sent_by, station_at, unicast_event}, Registers.keepalive_period, Sets.is_kept_alive, State.State, Tables.row_at}}
use Rattle.law_settled.{specs.Ready.IsSettled, proofs.Steps.step_is_settled}
use Rattle.law_streams.{specs.InTimeJoins.time_at, proofs.{Links.contains_mapped, Networks.{get_beside, get_written}}}
use Rattle.pim_anycast.{specs.{Joined.{event_given, joined_step}, Laws.sent_text, Members.{AlwaysBehind, ComesBehind, IsBetween, IsTakenBy, KnowsBetween, KnowsUntil, MembersKnow, TellsOthers, behind_at, knows_until, lasts_until, moved_behind, stepped_behind}, Sets.sent_to, declared.set.RpSet.RpSet}, proofs.{Alive.known_stays, Learning.member_learns, Telling.heard_is_told}}

-- ---- lists

get_first : {A : Type 0} (xs ys : List A) (i : ℕ) (x : A) → slice_get xs i ≡ Some x → slice_get (xs ++ ys) i ≡ Some x
get_first [] ys i x e = cc e
get_first (z ∷ zs) ys zero x e = e
get_first (z ∷ zs) ys (suc i) x e = get_first zs ys i x e

get_contained : {A : Type 0} (xs : List A) (x : A) (c : Contains xs x) → slice_get xs c.0 ≡ Some x
get_contained xs x c = slice_get-get_or xs c.0 x c.1 ∙ ap Some c.2

get_last : {A : Type 0} (xs ys : List A) (i : ℕ) → slice_get (xs ++ ys) (length xs + i) ≡ slice_get ys i
get_last [] ys i = ap (λ (k : ℕ). slice_get ys k) (omega arith)
get_last (z ∷ zs) ys i =
    let next : length (z ∷ zs) + i ≡ suc (length zs + i) = omega arith in
    ap (λ (k : ℕ). slice_get (z ∷ zs ++ ys) k) next ∙ get_last zs ys i

module _ (sets : ℕ → List RpSet) where
  -- ---- an event at a router behind its front

  module _ (n : Network) (r : ℕ) (e : Event) (st : Station) (at : station_at n r ≡ Some st) where
    abbrev stepped : Network
    stepped = stepped_behind sets n r e st

    here : station_at stepped r ≡ Some (record st { state = (joined_step (sets r) st.state e).1 })
    unfolding station_at stepped_behind
    here = get_written n.stations r st (record st { state = (joined_step (sets r) st.state e).1 }) at

    apart : (q : ℕ) → (r == q) ≡ false → r ≢ q
    apart q off same = grind (arith, common_steps, off, same)

    beside : (q : ℕ) → (r == q) ≡ false → station_at stepped q ≡ station_at n q
    unfolding station_at stepped_behind
    beside q off = get_beside n.stations r q (record st { state = (joined_step (sets r) st.state e).1 }) (apart q off)

  frame_kept : (n : Network) (r : ℕ) (e : Event) (st : Station) (k : ℕ) (f : Sent) → frame_at n k ≡ Some f
      → frame_at (stepped_behind sets n r e st) k ≡ Some f
  unfolding frame_at stepped_behind
  frame_kept n r e st k f is = grind (arith, get_first)

  -- a frame that is sent
  record IsNew (n m : Network) (bytes : List ℕ) : Type 0 where
    number : ℕ
    is : frame_at m number ≡ Some (record { link = None; bytes = bytes })
    later : length n.frames < number

  is_new : (n : Network) (r : ℕ) (e : Event) (st : Station) (set : RpSet) (time_to_live : ℕ) (message : List ℕ) (to : RpSet)
      → Contains (joined_step (sets r) st.state e).0.emissions (sent_to set time_to_live message to.own)
      → IsNew n (stepped_behind sets n r e st) (sent_text set to time_to_live message)
  unfolding frame_at stepped_behind
  is_new n r e st set time_to_live message to c =
      let sent : List Sent = map (sent_by st.links) (joined_step (sets r) st.state e).0.emissions in
      let f : Sent = record { link = None; bytes = sent_text set to time_to_live message } in
      let there : Contains sent f =
      contains_mapped (sent_by st.links) (joined_step (sets r) st.state e).0.emissions (sent_to set time_to_live message to.own) c in
      record {
        number = suc (length n.frames + there.0);
        is = get_last n.frames sent there.0 ∙ get_contained sent f there;
        later = omega arith;
      }

  -- ---- a move

  moved_so : (n : Network) (m : Move) (r : ℕ) (e : Event) (st : Station) → event_of n m ≡ Some (r, e) → station_at n r ≡ Some st
      → moved_behind sets n m ≡ stepped_behind sets n r e st
  unfolding moved_behind
  moved_so n m r e st is at = rw (is, at) refl

  frame_stays : (n : Network) (m : Move) (k : ℕ) (f : Sent) → frame_at n k ≡ Some f → frame_at (moved_behind sets n m) k ≡ Some f
  unfolding moved_behind
  frame_stays n m k f is = by_event (event_of n m)
    where
      by_router : (r : ℕ) (e : Event) (o : Option Station) → frame_at (option_map_or (stepped_behind sets n r e) o n) k ≡ Some f
      by_router r e None = is
      by_router r e (Some st) = frame_kept n r e st k f is

      by_event : (o : Option (ℕ × Event)) → frame_at (option_map_or (behind_at sets n) o n) k ≡ Some f
      by_event None = is
      by_event (Some (r, e)) = by_router r e (station_at n r)

  -- a router has the state after an event
  record Steps (b : ℕ) (st : Station) (m : Network) : Type 0 where
    event : Event
    there : station_at m b ≡ Some (record st { state = (joined_step (sets b) st.state event).1 })

  module _ (n : Network) (b : ℕ) (st : Station) (at : station_at n b ≡ Some st) where
    abbrev Either : Network → Type 0
    Either m = (station_at m b ≡ Some st) ⊎ Steps b st m

    by_number : (r : ℕ) (e : Event) (other : Station) → station_at n r ≡ Some other → (c : Bool) → (r == b) ≡ c
        → Either (stepped_behind sets n r e other)
    by_number r e other is true same =
        let alike : r ≡ b = eqb-true r b same in
        let one : other ≡ st = cc (sym is ∙ (ap (station_at n) alike ∙ at)) in
        inr (record {
          event = e;
          there =
              subst (λ (q : ℕ). station_at (stepped_behind sets n q e other) b ≡ Some (record st { state = (joined_step (sets b) st.state e).1 })) (sym alike)
              (subst (λ (x : Station). station_at (stepped_behind sets n b e x) b ≡ Some (record st { state = (joined_step (sets b) st.state e).1 })) (sym one)
              (here n b e st at));
        })
    by_number r e other is false off = inl (beside n r e other is b off ∙ at)

    by_router : (r : ℕ) (e : Event) (o : Option Station) → station_at n r ≡ o
        → Either (option_map_or (stepped_behind sets n r e) o n)
    by_router r e None is = inl at
    by_router r e (Some other) is = by_number r e other is (r == b) refl

    by_event : (o : Option (ℕ × Event)) → Either (option_map_or (behind_at sets n) o n)
    by_event None = inl at
    by_event (Some (r, e)) = by_router r e (station_at n r) refl

    one_move : (m : Move) → Either (moved_behind sets n m)
    unfolding moved_behind
    one_move m = by_event (event_of n m)

  stays_settled : (b : ℕ) (s : State) (e : Event) → IsSettled s → IsSettled (joined_step (sets b) s e).1
  unfolding joined_step
  stays_settled b s e rest = step_is_settled s (event_given (sets b) s e) rest

  stays_known : (b : ℕ) (s : State) (e : Event) (end g src : ℕ) → IsSettled s → KnowsUntil end s g src
      → KnowsUntil end (joined_step (sets b) s e).1 g src
  unfolding joined_step
  stays_known b s e end g src rest known = known_stays s (event_given (sets b) s e) end g src rest known

  module _ (started : ℕ → ℕ) (b g src heard d : ℕ) where
    abbrev Knows : Network → Type 0
    Knows = KnowsBetween started b g src (heard + d) (heard + keepalive_period)

    -- ---- once the router knows the source

    module _ (end : ℕ) (far : heard + keepalive_period ≤ end + started b) where
      record Holds (n : Network) : Type 0 where
        station : Station
        there : station_at n b ≡ Some station
        rest : IsSettled station.state
        known : KnowsUntil end station.state g src

      holds_then : (n : Network) (m : Move) → Holds n → Holds (moved_behind sets n m)
      holds_then n m f = go (one_move n b f.station f.there m)
        where
          go : (station_at (moved_behind sets n m) b ≡ Some f.station) ⊎ Steps b f.station (moved_behind sets n m) → Holds (moved_behind sets n m)
          go (inl same) = record { station = f.station; there = same; rest = f.rest; known = f.known }
          go (inr s) = record {
            station = record f.station { state = (joined_step (sets b) (f.station).state s.event).1 };
            there = s.there;
            rest = stays_settled b (f.station).state s.event f.rest;
            known = stays_known b (f.station).state s.event end g src f.rest f.known;
          }

      runs : (o : Option SourceRow) → lasts_until end o ≡ true → option_map_or (λ (r : SourceRow). is_some r.keepalive) o false ≡ true
      runs None e = cc e
      runs (Some r) e = timer r.keepalive e
        where
          timer : (k : Option ℕ) → option_map_or (nat_le end) k false ≡ true → is_some k ≡ true
          timer None e = cc e
          timer (Some k) e = refl

      alive : (s : State) → KnowsUntil end s g src → s.present + started b < heard + keepalive_period → is_kept_alive s g src ≡ true
      unfolding is_kept_alive
      alive s f before = go f.known
        where
          go : (knows_until end s g src ≡ true) ⊎ (end ≤ s.present) → option_map_or (λ (r : SourceRow). is_some r.keepalive) (row_at s.sources (source_key 0 g src)) false ≡ true
          go (inl on) = runs (row_at s.sources (source_key 0 g src)) on
          go (inr over) = absurd (omega (arith, over, before, far))

      holds_knows : (n : Network) → Holds n → Knows n
      holds_knows n f st at after before =
          let same : f.station ≡ st = cc (sym f.there ∙ at) in
          subst (λ (x : Station). is_kept_alive x.state g src ≡ true) same
          (alive (f.station).state f.known
          (subst (λ (x : Station). time_at started b x < heard + keepalive_period) (sym same) before))

      always_holds : (ms : List Move) (n : Network) → Holds n → AlwaysBehind sets Knows n ms
      always_holds [] n f = holds_knows n f
      always_holds (m ∷ ms) n f = (holds_knows n f, always_holds ms (moved_behind sets n m) (holds_then n m f))

    -- ---- until the frame comes

    module _ (from to : RpSet) (number : ℕ) (f : Sent) (between : IsBetween from to g src f) where
      record Waits (n : Network) : Type 0 where
        station : Station
        there : station_at n b ≡ Some station
        rest : IsSettled station.state
        soon : time_at started b station ≤ heard + d
        framed : frame_at n number ≡ Some f

      waits_knows : (n : Network) → Waits n → Knows n
      waits_knows n w st at after before =
          let same : w.station ≡ st = cc (sym w.there ∙ at) in
          let soon : time_at started b st ≤ heard + d = subst (λ (x : Station). time_at started b x ≤ heard + d) same w.soon in
          absurd (omega (arith, after, soon))

      waits_then : (n : Network) (m : Move) → Waits n
          → ((st : Station) → station_at (moved_behind sets n m) b ≡ Some st → time_at started b st ≤ heard + d)
          → Waits (moved_behind sets n m)
      waits_then n m w by = go (one_move n b w.station w.there m)
        where
          go : (station_at (moved_behind sets n m) b ≡ Some w.station) ⊎ Steps b w.station (moved_behind sets n m) → Waits (moved_behind sets n m)
          go (inl same) = record {
            station = w.station;
            there = same;
            rest = w.rest;
            soon = by w.station same;
            framed = frame_stays n m number f w.framed;
          }
          go (inr s) = record {
            station = record w.station { state = (joined_step (sets b) (w.station).state s.event).1 };
            there = s.there;
            rest = stays_settled b (w.station).state s.event w.rest;
            soon = by _ s.there;
            framed = frame_stays n m number f w.framed;
          }

      module _ (n : Network) (m : Move) (w : Waits n) (t : IsTakenBy sets started b from to g src heard number n m) where
        abbrev e : Event
        e = record { draw = t.draw; kind = EventKind.Unicast (sent_text from to between.time_to_live between.message) }

        abbrev s : State
        s = (w.station).state

        is_event : event_of n (DeliverUnicast b number t.draw) ≡ Some (b, e)
        unfolding event_of
        is_event = rw (w.there, w.framed) (ap (λ (x : Sent). let p : Option (ℕ × Event) = Some (b, unicast_event t.draw x) in p) between.is)

        is_moved : moved_behind sets n m ≡ stepped_behind sets n b e w.station
        is_moved = ap (moved_behind sets n) t.is ∙ moved_so n (DeliverUnicast b number t.draw) b e w.station is_event w.there

        far : heard + keepalive_period ≤ s.present + keepalive_period + started b
        far = let later = t.later w.station w.there in omega (arith, later)

        delivered : Holds (s.present + keepalive_period) far (moved_behind sets n m)
        delivered = record {
          station = record w.station { state = (joined_step (sets b) s e).1 };
          there = ap (λ (x : Network). station_at x b) is_moved ∙ here n b e w.station w.there;
          rest = stays_settled b s e w.rest;
          known =
              member_learns (sets b) s from to g src between.time_to_live t.draw between.message
              (t.learns w.station w.there) between.register;
        }

        then_holds : (ms : List Move) → AlwaysBehind sets Knows (moved_behind sets n m) ms
        then_holds ms = always_holds (s.present + keepalive_period) far ms (moved_behind sets n m) delivered

      always_waits : (ms : List Move) (n : Network) → Waits n
          → ComesBehind sets started b from to g src heard (heard + d) number n ms → AlwaysBehind sets Knows n ms
      always_waits [] n w comes = waits_knows n w
      always_waits (m ∷ ms) n w (inl taken) = (waits_knows n w, then_holds n m w taken ms)
      always_waits (m ∷ ms) n w (inr later) =
          (waits_knows n w, always_waits ms (moved_behind sets n m) (waits_then n m w later.0) later.1)

pub members_know : MembersKnow
unfolding event_of
members_know sets started n a b st other e from to g src d ms at hears among there rest soon comes =
    let told : TellsOthers (sets a) st.state e from g src = heard_is_told (sets a) st.state e from g src hears in
    let after : Network = moved_behind sets n (At a e) in
    let heard : ℕ = (joined_step (sets a) st.state e).1.present + started a in
    let is_so : after ≡ stepped_behind sets n a e st = moved_so sets n (At a e) a e st (rw at refl) at in
    let new : IsNew sets n after (sent_text from to told.time_to_live told.message) =
    subst (λ (m : Network). IsNew sets n m (sent_text from to told.time_to_live told.message)) (sym is_so)
    (is_new sets n a e st from told.time_to_live told.message to (told.leaves to.own among)) in
    let f : Sent = record { link = None; bytes = sent_text from to told.time_to_live told.message } in
    let between : IsBetween from to g src f =
    record { time_to_live = told.time_to_live; message = told.message; register = told.is; is = refl } in
    always_waits sets started b g src heard d from to new.number f between ms after
    (record { station = other; there = there; rest = rest; soon = soon; framed = new.is })
    (comes new.number f new.later new.is between)
