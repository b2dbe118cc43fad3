-- What comes to a router in a network is a run of that router, so each of its copies has a cause.
use Rattle.std.{proofs.{Common.{◌≡◌, ◌≢◌, ◌∙◌, ℕ, suc, zero, ◌==◌, Bool, true, false, List, [], ◌∷◌, map, Option, Some, None, Result, Ok, Err, refl, sym, ap, subst, arith}, lemmas.{Grind.common_steps, Option.slice_get-map}}, specs.{List.slice_get, Prelude.{option_map, set}}}
use Rattle.pim_ip.{specs.{Tests.◌>>◌, declared.refusal.Refusal.Refusal}}
use Rattle.pim_types.{specs.declared.{config.Config.Config, event.Event.Event}}
use Rattle.pim_model.{specs.{Cause.OutcomesAreAsked, Limits.config_test, Network.{Move, Network, Station, configs_test, event_of, moved, moved_at, network, network_ran, nodes_test, station_at, station_of, stepped}, State.opening, Step.{outcome_of, ran, run, state_after, step}}}
use Rattle.law_streams.{specs.Networks.{NetworkIsAsked, events_in, outcomes_in}, proofs.Steps.run_is_asked}

-- ---- what a write in a list leaves

pub get_written : {A : Type 0} (xs : List A) (i : ℕ) (x y : A) → slice_get xs i ≡ Some x → slice_get (set xs i y) i ≡ Some y
get_written [] i x y e = cc e
get_written (z ∷ zs) zero x y e = refl
get_written (z ∷ zs) (suc i) x y e = get_written zs i x y e

pub get_beside : {A : Type 0} (xs : List A) (i j : ℕ) (y : A) → i ≢ j → slice_get (set xs i y) j ≡ slice_get xs j
get_beside [] i j y off = refl
get_beside (z ∷ zs) zero zero y off = absurd (off refl)
get_beside (z ∷ zs) zero (suc j) y off = refl
get_beside (z ∷ zs) (suc i) zero y off = refl
get_beside (z ∷ zs) (suc i) (suc j) y off = get_beside zs i j y (λ e. off (ap suc e))

-- ---- a router among the others

-- from a network on the outcomes at a router are those of its run, and it is where its events lead
pub record IsRun (r : ℕ) (n : Network) (moves : List Move) : Type 0 where
  pub is : (st : Station) → station_at n r ≡ Some st
      → outcomes_in r n moves (network_ran n moves).0 ≡ run st.state (events_in r n moves)
  pub stands : (st : Station) → station_at n r ≡ Some st
      → station_at (network_ran n moves).1 r ≡ Some (record st { state = state_after st.state (events_in r n moves) })

module _ (r : ℕ) (n : Network) (m : Move) (ms : List Move) where
  -- the move is refused
  not_here : event_of n m ≡ None → IsRun r n ms → IsRun r n (m ∷ ms)
  unfolding events_in outcomes_in network_ran moved
  not_here e later =
      record { is = λ st there. rw e (later.is st there); stands = λ st there. rw e (later.stands st there) }

  -- it is an event at another router
  elsewhere : (at : ℕ) (event : Event) (other : Station) → event_of n m ≡ Some (at, event)
      → station_at n at ≡ Some other → (at == r) ≡ false → IsRun r (stepped n at event other).1 ms → IsRun r n (m ∷ ms)
  unfolding events_in outcomes_in network_ran moved moved_at stepped station_at
  elsewhere at event other e found off later =
      let there2 : (st : Station) → station_at n r ≡ Some st → station_at (stepped n at event other).1 r ≡ Some st =
      λ st there. get_beside n.stations at r (record other { state = (step other.state event).state })
      (λ (same : at ≡ r). grind (arith, common_steps, off, same)) ∙ there in
      record {
        is = λ st there. rw e (rw found (rw off (later.is st (there2 st there))));
        stands = λ st there. rw e (rw found (rw off (later.stands st (there2 st there))));
      }

  -- it is one at this router
  here : (event : Event) (own : Station) → event_of n m ≡ Some (r, event)
      → station_at n r ≡ Some own → (r == r) ≡ true → IsRun r (stepped n r event own).1 ms → IsRun r n (m ∷ ms)
  unfolding events_in outcomes_in network_ran moved moved_at stepped station_at state_after run ran
  here event own e found on later = record {
    is = λ st there.
        let alike : own ≡ st = cc (sym found ∙ there) in
        let after : Station = record own { state = (step own.state event).state } in
        let there2 : station_at (stepped n r event own).1 r ≡ Some after = get_written n.stations r own after found in
        let rest = later.is after there2 in
        rw e (rw found (rw on (rw (← alike) (ap (λ os. outcome_of (step own.state event) ∷ os) rest))));
    stands = λ st there.
        let alike : own ≡ st = cc (sym found ∙ there) in
        let after : Station = record own { state = (step own.state event).state } in
        let there2 : station_at (stepped n r event own).1 r ≡ Some after = get_written n.stations r own after found in
        let rest = later.stands after there2 in
        rw e (rw found (rw on (rw (← alike) rest)));
  }

  -- there is no router where it would be
  nowhere : (at : ℕ) (event : Event) → event_of n m ≡ Some (at, event) → station_at n at ≡ None → (b : Bool)
      → (at == r) ≡ b → IsRun r n ms → IsRun r n (m ∷ ms)
  unfolding events_in outcomes_in network_ran moved moved_at
  nowhere at event e none true same later =
      let alike : at ≡ r = grind (arith, common_steps, same) in
      record {
        is = λ st there. cc (sym there ∙ ap (station_at n) (sym alike) ∙ none);
        stands = λ st there. cc (sym there ∙ ap (station_at n) (sym alike) ∙ none);
      }
  nowhere at event e none false off later = record {
    is = λ st there. rw e (rw none (rw off (later.is st there)));
    stands = λ st there. rw e (rw none (rw off (later.stands st there)));
  }

  some_event : (at : ℕ) (event : Event) (found : Option Station) → event_of n m ≡ Some (at, event)
      → station_at n at ≡ found → (b : Bool) → (at == r) ≡ b → ((later : Network) → IsRun r later ms) → IsRun r n (m ∷ ms)
  some_event at event None e is b same later = nowhere at event e is b same (later n)
  some_event at event (Some st) e is false off later =
      elsewhere at event st e is off (later (stepped n at event st).1)
  some_event at event (Some st) e is true same later =
      let alike : at ≡ r = grind (arith, common_steps, same) in
      here event st (e ∙ ap (λ (i : ℕ). Some (i, event)) alike) (ap (station_at n) (sym alike) ∙ is)
      (ap (λ (i : ℕ). i == r) (sym alike) ∙ same) (later (stepped n r event st).1)

  one_move : (event : Option (ℕ × Event)) → event_of n m ≡ event → ((later : Network) → IsRun r later ms)
      → IsRun r n (m ∷ ms)
  one_move None e later = not_here e (later n)
  one_move (Some (at, event)) e later = some_event at event (station_at n at) e refl (at == r) refl later

pub runs_alone : (r : ℕ) (moves : List Move) (n : Network) → IsRun r n moves
unfolding outcomes_in events_in network_ran state_after run ran
runs_alone r [] n = record { is = λ st there. refl; stands = λ st there. there }
runs_alone r (m ∷ ms) n = one_move r n m ms (event_of n m) refl (λ later. runs_alone r ms later)

-- ---- the configurations of a network that was accepted

both : (a b : Result (Unit {0}) Refusal) → (a >> b) ≡ Ok tt → (a ≡ Ok tt) × (b ≡ Ok tt)
both (Ok u) b e = (refl, e)
both (Err x) b e = cc e

accepted_at : (nodes : List (Config × List ℕ)) (r : ℕ) (node : Config × List ℕ)
    → configs_test (map (λ n. n.0) nodes) ≡ Ok tt → slice_get nodes r ≡ Some node → config_test node.0 ≡ Ok tt
unfolding configs_test
accepted_at [] r node passed is = cc is
accepted_at (x ∷ xs) zero node passed is =
    let alike : x ≡ node = cc is in
    ap (λ (n : Config × List ℕ). config_test n.0) (sym alike) ∙ (both (config_test x.0) _ passed).0
accepted_at (x ∷ xs) (suc r) node passed is = accepted_at xs r node (both (config_test x.0) _ passed).1 is

pub network_is_asked : NetworkIsAsked
unfolding nodes_test network station_at
network_is_asked nodes moves passed r node is =
    let accepted : config_test node.0 ≡ Ok tt = accepted_at nodes r node (both _ _ passed).1 is in
    let there : station_at (network nodes) r ≡ Some (station_of node) =
    slice_get-map station_of nodes r ∙ ap (option_map station_of) is in
    subst (λ os. OutcomesAreAsked [] (opening node.0) (events_in r (network nodes) moves) os)
    (sym ((runs_alone r moves (network nodes)).is (station_of node) there))
    (run_is_asked node.0 (events_in r (network nodes) moves) accepted)
