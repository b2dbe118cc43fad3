-- An event at a station of a network.
use Rattle.std.{proofs.{Common.{◌≡◌, ◌∙◌, ◌≤◌, ◌++◌, ℕ, true, List, length, map, Option, Some, None, Result, Ok, Err, refl, sym, ap}, lemmas.Option.slice_get_past}, specs.{List.slice_get, Prelude.{IfOk, IfSome, IsOkUnless, OnOk, is_some, set}}}
use Rattle.pim_ip.{specs.declared.fault.Fault.Fault}
use Rattle.pim_types.{specs.declared.{event.Event.Event, outcome.Outcome.Outcome}}
use Rattle.pim_model.{specs.{Network.{Network, Sent, Station, bad_move, moved_at, sent_by, station_at, stepped}, Step.{outcome_of, step}}}
use Rattle.pim_net.{specs.Showing.all_of, proofs.{Lookups.{Shows, shown}, Stations.{none_there, of_some, one_replaced, one_there}}}

module _ (stations : List (Option Station)) (frames : List Sent) (net : Network) (is : Shows stations frames net) (r : ℕ)
    (e : Event) where
  pub nowhere : length stations ≤ r → moved_at net (r, e) ≡ (bad_move, net)
  unfolding moved_at station_at
  nowhere past = rw (none_there stations net.stations r is.stations_are (slice_get_past stations r past)) refl

  here : (st : Station) → Some st ≡ station_at net r → moved_at net (r, e) ≡ stepped net r e st
  unfolding moved_at
  here st found = rw (← found) refl

  module _ (s : Option Station) (at : slice_get stations r ≡ Some s) where
    found : (s ≡ station_at net r) × (is_some s ≡ true)
    unfolding station_at
    found = one_there stations net.stations r s is.stations_are at

    pub outcome_is : (o : Result Outcome Fault) → IfSome s (λ st. IfOk o (λ x. x ≡ outcome_of (step st.state e)))
        → IfOk o (λ x. x ≡ (moved_at net (r, e)).0)
    unfolding stepped
    outcome_is o f = go s found.0 found.1 o f
      where
        go : (s : Option Station) → s ≡ station_at net r → is_some s ≡ true → (o : Result Outcome Fault)
            → IfSome s (λ st. IfOk o (λ x. x ≡ outcome_of (step st.state e))) → IfOk o (λ x. x ≡ (moved_at net (r, e)).0)
        go None there some o f = cc some
        go (Some st) there some (Err fault) f = tt
        go (Some st) there some (Ok x) f = f ∙ ap (λ (m : Outcome × Network). m.0) (sym (here st there))

    pub fault_is : (o : Result Outcome Fault) → IfSome s (λ st. IsOkUnless o Fault.Memory) → IsOkUnless o Fault.Memory
    fault_is o f = go s found.1 f
      where
        go : (s : Option Station) → is_some s ≡ true → IfSome s (λ st. IsOkUnless o Fault.Memory)
            → IsOkUnless o Fault.Memory
        go None some f = cc some
        go (Some st) some f = f

    -- with what the station was left as, and the frames
    pub network_is : (o : Result Outcome Fault) (left : Option Station) (more : List Sent)
        → IfSome s (λ st. OnOk o (left ≡ Some (record st { state = (step st.state e).state })))
        → IfSome s (λ st. OnOk o (more ≡ frames ++ map (sent_by st.links) (step st.state e).emissions))
        → OnOk o (shown (set stations r left) more ≡ Some (moved_at net (r, e)).1)
    unfolding stepped
    network_is o left more f g = go s found.0 found.1 o f g
      where
        go : (s : Option Station) → s ≡ station_at net r → is_some s ≡ true → (o : Result Outcome Fault)
            → IfSome s (λ st. OnOk o (left ≡ Some (record st { state = (step st.state e).state })))
            → IfSome s (λ st. OnOk o (more ≡ frames ++ map (sent_by st.links) (step st.state e).emissions))
            → OnOk o (shown (set stations r left) more ≡ Some (moved_at net (r, e)).1)
        go None there some o f g = cc some
        go (Some st) there some (Err fault) f g = tt
        go (Some st) there some (Ok x) f g =
            let after : Station = record st { state = (step st.state e).state } in
            let stations_are : all_of (set stations r left) ≡ Some (set net.stations r after) =
            ap (λ (l : Option Station). all_of (set stations r l)) f ∙ one_replaced stations net.stations r after is.stations_are in
            let frames_are : more ≡ net.frames ++ map (sent_by st.links) (step st.state e).emissions =
            g ∙ ap (λ (fs : List Sent). fs ++ map (sent_by st.links) (step st.state e).emissions) is.frames_are in
            rw (stations_are, frames_are) (ap (λ (m : Outcome × Network). Some m.1) (sym (here st there)))

-- what a station sends is kept by its links, which an event leaves
pub frames_are : (before after : Option Station) (e : Event) (o : Outcome) (more frames : List Sent)
    → IfSome before (λ st. o ≡ outcome_of (step st.state e))
    → IfSome before (λ st. after ≡ Some (record st { state = (step st.state e).state }))
    → IfSome after (λ st. more ≡ frames ++ map (sent_by st.links) o.emissions)
    → IfSome before (λ st. more ≡ frames ++ map (sent_by st.links) (step st.state e).emissions)
frames_are None after e o more frames f g h = tt
frames_are (Some st) after e o more frames f g h =
    of_some after (λ (s : Station). more ≡ frames ++ map (sent_by s.links) o.emissions)
    (record st { state = (step st.state e).state }) g h
    ∙ ap (λ (x : Outcome). frames ++ map (sent_by st.links) x.emissions) f
