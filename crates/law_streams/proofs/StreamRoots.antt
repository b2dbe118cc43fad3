-- What comes to the last router of a way leaves, and comes down.
use Rattle.std.{proofs.Common.{◌≡◌, ◌∙◌, ℕ, ◌+◌, ◌<◌, true, false, List, [], ◌∷◌, length, map, Option, Some, Ok, refl, sym, ap, subst, arith, eq-eqb}, specs.Prelude.slice_get}
use Rattle.pim_ip.{specs.{Ipv4.{copy_text, is_link_local}, View.copied}}
use Rattle.pim_types.{specs.{Keys.{rpt_key, star_key}, declared.{event.{Event.Event, EventKind.EventKind}}}}
use Rattle.pim_wire.{specs.Values.Encapsulated}
use Rattle.pim_model.{specs.{declared.accepted.Accepted.Accepted, Cause.done_as, Full.{is_full, source_is_full}, Judging.{judged, pim_to_me_judged, register_judged, unicast_judged, unicast_packet_judged}, Network.{At, Network, moved, network_ran, station_at}, Sets.{assert_source, assert_star, is_loser, prunes, spt_bit}, State.{Addressing, State, is_own}, Step.{advanced, change, done, ran, state_after, step, taken}, Tables.{has_row, row_at}, Unicast.{is_rp, rp_of}}}
use Rattle.law_streams.{specs.{Networks.events_in, Copies.happens, Served.IsServed, Flows.{IsCarried, top_link}, Roots.{InRegister, IsBrought, IsRegister}, Ways.{Place, state_of}, Passing.{GoesOut, IsJoinedThere, Receiver, is_lost, takes_from}, StreamRoots.{EachOfStreamIsServed, EachRegisterIsBrought, EventKeepsSending, NoneEndsSending, RunKeepsSending, Sends, any_ends_sending, ends_sending, takes_out}, Streams.later_place}, proofs.{Networks.runs_alone, Climbs.still_stand, Deliveries.{IsStepped, is_moved}, Forwards.{copy_fits, copy_reads_lower}, Passes.done_if, Roots.leaves_root, JoinTimes.{none_takes_effect, row_lasts}, Changes.{IsNoAssert, IsNotDown, still_unlost}, Fires.{Goes, time_goes}, Rejoins.{prunes_by, rejoined}, Settles.{NoWorse, settling_no_worse}, Streams.{streams, flowed_so, later_apart, later_not_among, later_stand, later_streamed, same_length, same_top}, Ways.ground_itself, Tests.{Two, neither}, ByEvent.event_holds}}
use Rattle.law_settled.{proofs.{SettledStates.settled_is_lawful, Steps.step_is_settled}, specs.Ready.IsSettled}
use Rattle.law_events.{proofs.Configured.change_configured}

module _ (g src down : ℕ) where
  abbrev Out : State → Type 0
  Out t = GoesOut Receiver.Router t g src down

  module _ (s : State) (f : Out s) where
    module _ (w : ℕ) (a : Accepted) where
      abbrev c : State
      c = (change s w a).state

      abbrev t : State
      t = (done s w (change s w a)).state

      follows : NoWorse g src down c t
      unfolding done
      follows = settling_no_worse s ((change s w a).state, (change s w a).messages) w g src down

    isnt_below : (x : State) (a : Accepted) → takes_out x g src down (Some a) ≡ false → IsNotDown down a
    isnt_below x a off = grind arith

    record Unlost (x : State) : Type 0 where
      group : is_loser (assert_star x g down) ≡ false
      source : is_loser (assert_source x g src down) ≡ false

    by_others : (w : ℕ) (a : Accepted) → IsNoAssert a → Unlost (t w a)
    by_others w a other = grind (arith, follows, still_unlost)

    unlost_after : (w : ℕ) (a : Accepted) → takes_out (t w a) g src down (Some a) ≡ false → Unlost (t w a)
    unfolding is_lost
    unlost_after w (Accepted.Assert j from m) off =
        let h : Two (is_loser (assert_star (t w (Accepted.Assert j from m)) g down)) (is_loser (assert_source (t w (Accepted.Assert j from m)) g src down)) =
        neither _ _ off in
        record { group = h.first; source = h.second }
    unlost_after w a off = by_others w a tt

    done_out : (w : ℕ) (a : Accepted) → takes_out (t w a) g src down (Some a) ≡ false
        → takes_from Receiver.Router s (t w a) g src down (Some a) ≡ false → Out (t w a)
    unfolding prunes
    done_out w a off other =
        let unlost : Unlost (t w a) = unlost_after w a off in
        let h : IsJoinedThere (c w a) g src down = rejoined s g src down f.wanted w (t w a) a (follows w a).downstream (isnt_below (t w a) a off) other in
        let same : (t w a).downstream ≡ (c w a).downstream = (follows w a).downstream in
        record {
          configured =
              subst (λ (cs : Addressing). down < length cs.interfaces)
              (sym (((follows w a).ground).configured ∙ sym (change_configured s w a).configured)) f.configured;
          group = unlost.group;
          source = unlost.source;
          wanted = record {
            row = h.row;
            found = ap (λ d. row_at d (star_key down g)) same ∙ h.found;
            none_prunes = ap (λ d. prunes_by (row_at d (rpt_key down g src))) same ∙ h.none_prunes;
          };
        }

    module _ (rest : IsSettled s) where
      time_out : (w m : ℕ) → takes_from Receiver.Router s (advanced s w m).state g src down (Some (Accepted.Advance m)) ≡ false
          → Out (advanced s w m).state
      time_out w m other =
          let h : Goes g src down s (advanced s w m).state =
          time_goes g src down s w m s
          (record { ground = ground_itself s; group = f.group; source = f.source; spt = λ e. e }) in
          record {
            configured = subst (λ (cs : Addressing). down < length cs.interfaces) (sym (h.ground).configured) f.configured;
            group = h.group;
            source = h.source;
            wanted = record {
              row = (f.wanted).row;
              found =
                  row_lasts w m s (star_key down g) (f.wanted).row (settled_is_lawful s rest) (f.wanted).found
                  (neither _ _ other).first;
              none_prunes =
                  none_takes_effect w m s g src down (settled_is_lawful s rest) (f.wanted).none_prunes (neither _ _ other).second;
            };
          }

      abbrev Off : State → Option Accepted → Type 0
      Off x o = (takes_out x g src down o ≡ false) × (takes_from Receiver.Router s x g src down o ≡ false)

      taken_out : (w : ℕ) (a : Accepted) → Off (taken s w a).state (Some a) → Out (taken s w a).state
      unfolding taken
      taken_out w (Accepted.Advance moment) off = time_out w moment off.1
      taken_out w a off = done_out w a off.0 off.1

      out_after : (e : Event) → Off (step s e).state (done_as (happens s e)) → Out (step s e).state
      out_after = event_holds s Out Off f taken_out

pub event_keeps_sending : EventKeepsSending
unfolding ends_sending
event_keeps_sending s e g src down f off =
    let h : Two (takes_out (step s e).state g src down (done_as (happens s e)))
    (takes_from Receiver.Router s (step s e).state g src down (done_as (happens s e))) =
    neither _ _ off in
    record {
      settled = step_is_settled s e f.settled;
      goes_out = out_after g src down s f.goes_out f.settled e (h.first, h.second);
    }

pub run_keeps_sending : RunKeepsSending
unfolding state_after ran
run_keeps_sending s [] g src down f none = f
run_keeps_sending s (e ∷ es) g src down f none =
    run_keeps_sending (step s e).state es g src down (event_keeps_sending s e g src down f none.0) none.1

-- the test decides
pub none_ends_sending : (s : State) (events : List Event) (g src down : ℕ) → any_ends_sending s events g src down ≡ false
    → NoneEndsSending s events g src down
unfolding any_ends_sending
none_ends_sending s [] g src down e = tt
none_ends_sending s (x ∷ xs) g src down e =
    let h : Two (ends_sending s x g src down) (any_ends_sending (step s x).state xs g src down) = neither _ _ e in
    (h.first, none_ends_sending (step s x).state xs g src down h.second)

-- ---- a Register, the first or a later one

module _ (t : State) (g rp src draw down lives : ℕ) (bytes payload : List ℕ) (far : is_link_local g ≡ false)
    (own : is_own t rp ≡ true) (known : rp_of t g ≡ Some rp) (unset : spt_bit t g src ≡ false)
    (space : source_is_full t g src ≡ false) (r : IsRegister g src rp bytes payload lives) where
  abbrev event : Event
  event = record { draw = draw; kind = EventKind.Unicast bytes }

  abbrev register : Accepted
  register = Accepted.Register r.outer (Encapsulated r.packet)

  own_there : is_own t (r.outer).destination ≡ true
  own_there = ap (is_own t) r.destination ∙ own

  far_there : is_link_local (r.packet).destination ≡ false
  far_there = ap is_link_local r.group ∙ far

  judged_so : judged t event.kind ≡ Ok register
  unfolding judged unicast_judged unicast_packet_judged pim_to_me_judged register_judged
  judged_so = rw (r.reads, r.of_pim, r.is, own_there, far_there) refl

  is_rp_there : is_rp t (r.packet).destination (r.outer).destination ≡ true
  is_rp_there = rw (r.group, r.destination, known, eq-eqb rp rp refl) refl

  room : is_full t register ≡ false
  unfolding is_full
  room = grind (arith, is_rp_there)

  unset_there : spt_bit t (r.packet).destination (r.packet).source ≡ false
  unset_there = rw (r.group, r.source) unset

  brought : IsBrought t event g src down payload lives
  brought = record {
    bytes = r.inner;
    packet = r.packet;
    reads = r.inner_reads;
    fits = r.fits;
    group = r.group;
    source = r.source;
    is_data = r.is_data;
    same = r.same;
    time_to_live = r.time_to_live;
    comes = InRegister r.outer (done_if t event register judged_so room) is_rp_there unset_there;
  }

pub each_register_is_brought : EachRegisterIsBrought
each_register_is_brought t g rp src draw down lives bytes payload far own known unset space r = grind (arith, brought)

-- ---- it is put on the link

module _ (g src : ℕ) where
  served_there : (s : State) (down : ℕ) → Sends s g src down → IsServed s g src down
  unfolding has_row
  served_there s down f = grind arith

module _ (n : Network) (g src link lives : ℕ) (payload : List ℕ) (p : Place) (e : Event) (at : station_at n p.router ≡ Some p.station)
    (f : Sends (state_of p) g src p.down) (linked : slice_get (p.station).links p.down ≡ Some link) (some : 0 < lives)
    (b : IsBrought (state_of p) e g src p.down payload lives) where
  pub did : IsStepped n p.router p.station e (moved n (At p.router e)).1
  did = is_moved n p.router p.station e at

  pub put_on : IsCarried (moved n (At p.router e)).1 g src link payload lives
  put_on =
      let long = b.time_to_live in
      record {
        bytes = copy_text b.packet;
        packet = copied b.packet;
        on_link = ((did).sent p.down link (copy_text b.packet) linked
            (leaves_root (state_of p) e b.packet p.down (omega (arith, some, long))
            (subst (λ (d : ℕ). IsServed (state_of p) d (b.packet).source p.down) (sym b.group)
            (subst (λ (a : ℕ). IsServed (state_of p) g a p.down) (sym b.source) (served_there g src (state_of p) p.down f))) b.comes)).on;
        reads = copy_reads_lower b.bytes b.packet b.reads;
        fits = let a = copy_fits b.bytes b.packet b.reads in let c = b.fits in omega (arith, a, c);
        group = b.group;
        source = b.source;
        is_data = b.is_data;
        same = b.same;
        time_to_live = omega (arith, long);
      }

pub each_of_stream_is_served : EachOfStreamIsServed
each_of_stream_is_served tree by n ms g src link lives payload root ps d group far some f linked way stand apart none none_below b =
    let m : Network = (network_ran n ms).1 in
    let last : Place = later_place n ms root in
    let at : station_at m root.router ≡ Some last.station = (runs_alone root.router ms n).stands root.station stand.0 in
    let sends : Sends (state_of last) g src root.down =
    run_keeps_sending (state_of root) (events_in root.router n ms) g src root.down f none in
    let x : Network = (moved m (At root.router d)).1 in
    let carried : IsCarried x g src (top_link link ps) payload (lives + length ps) =
    put_on m g src (top_link link ps) (lives + length ps) payload last d at sends linked (omega (arith, some)) b in
    let lower : List Place = map (later_place n ms) ps in
    flowed_so n ms x g src link payload lives ps
    (streams g src payload group far tree by link lives lower x some
    (later_streamed n ms tree by g src link ps way none_below)
    (still_stand m x root.router (did m g src (top_link link ps) (lives + length ps) payload last d at sends linked (omega (arith, some)) b).beside
    lower (later_not_among n ms root.router ps apart.0) (later_stand n ms ps stand.1))
    (later_apart n ms ps apart.1)
    (subst (λ (l : ℕ). IsCarried x g src l payload (lives + length lower)) (sym (same_top n ms link ps))
    (subst (λ (k : ℕ). IsCarried x g src (top_link link ps) payload (lives + k)) (sym (same_length n ms ps)) carried)))
