-- A router of a network that gets another configuration.
use Rattle.std.{proofs.{Common.{◌≡◌, ◌∙◌, ◌≤◌, ◌++◌, ℕ, true, false, List, length, map, Option, Some, None, Result, Ok, Err, refl, sym, ap, arith}, lemmas.{Bool.Decides.nat_tests, List.set-get_or, Option.{get_or_from_slice_get, slice_get_past}}}, specs.{List.slice_get, Prelude.{IfOk, IfSome, IsOkUnless, OnOk, is_some, set}}}
use Rattle.pim_ip.{specs.declared.{fault.Fault.Fault, refusal.Refusal.Refusal}}
use Rattle.pim_types.{specs.declared.{config.Config.Config, outcome.{Emission.Emission, Outcome.Outcome}}}
use Rattle.pim_model.{specs.{Limits.config_test, Network.{Network, Sent, Station, bad_move, is_node, sent_by, station_at}, State.State}}
use Rattle.law_states.{specs.Placing.Places}
use Rattle.pim_net.{specs.{Reloading.{done_with, node_test, put_by, put_test, refused_as, reloaded, reloaded_at, reloaded_if}, Showing.all_of}, proofs.{Lookups.{Shows, shown}, Stations.{none_there, of_some, one_replaced, one_there}}}
use Rattle.law_settled.{proofs.Accepted.few_interfaces}

abbrev Test : Type 0
Test = Result (Unit {0}) Refusal

-- a test that passes isn't one that fails
pub not_both : (t : Test) (refusal : Refusal) (P : Type 0) → t ≡ Ok tt → t ≡ Err refusal → P
not_both (Ok x) refusal P passes fails = cc fails
not_both (Err x) refusal P passes fails = cc passes

pub same_refusal : (t : Test) (a b : Refusal) → t ≡ Err a → t ≡ Err b → a ≡ b
same_refusal t a b first second = cc (sym first ∙ second)

-- the test of a configuration without a link for each interface, and with one
pub unlinked : (places : Places) (s : State) (node : Config × List ℕ) → is_node node ≡ false
    → node_test places s node ≡ Err Refusal.BadScenario
unfolding node_test
unlinked places s node fails = rw fails refl

pub linked : (places : Places) (s : State) (node : Config × List ℕ) → is_node node ≡ true
    → node_test places s node ≡ put_test places s node.0
unfolding node_test
linked places s node passes = rw passes refl

pub few_links : (node : Config × List ℕ) → is_node node ≡ true → config_test node.0 ≡ Ok tt → length node.1 ≤ 120
few_links node links passes =
    let as_many : length node.1 ≡ length (node.0).interfaces = grind (arith, nat_tests, links) in
    omega (arith, as_many, few_interfaces node.0 passes)

-- what is kept by the links of a station after its reload is kept by those before it
pub kept_by : (old new : Option Station) (places : Places) (c : Config) (draw : ℕ) (sent written : List Emission)
    (frames more : List Sent) → IfSome old (λ s. new ≡ Some (record s { state = (put_by places s.state c draw).0 }))
    → IfSome old (λ s. sent ≡ (put_by places s.state c draw).1) → written ≡ sent
    → IfSome new (λ s. more ≡ frames ++ map (sent_by s.links) written)
    → IfSome old (λ s. more ≡ frames ++ map (sent_by s.links) (put_by places s.state c draw).1)
kept_by None new places c draw sent written frames more f g same h = tt
kept_by (Some s) new places c draw sent written frames more f g same h =
    of_some new (λ (st : Station). more ≡ frames ++ map (sent_by st.links) written)
    (record s { state = (put_by places s.state c draw).0 }) f h
    ∙ ap (λ (es : List Emission). frames ++ map (sent_by s.links) es) (same ∙ g)

pub tested_some : {A : Type 0} (o : Option A) (T P : A → Type 0) → IfSome o P → IfSome o (λ x. T x → P x)
tested_some None T P p = tt
tested_some (Some x) T P p = λ t. p

-- what was there is put there
same_put : {A : Type 0} (xs : List A) (i : ℕ) (x : A) → slice_get xs i ≡ Some x → set xs i x ≡ xs
same_put xs i x at = ap (set xs i) (sym (get_or_from_slice_get xs i x x at)) ∙ set-get_or xs i x

module _ (places : Places) (node : Config × List ℕ) (draw : ℕ) where
  -- what is said of a station whose reload isn't refused
  abbrev pub Done : Result Outcome Fault → Station → Type 0
  Done o st = IfOk o (λ x. node_test places st.state node ≡ Ok tt → x ≡ done_with (put_by places st.state node.0 draw).1)

  abbrev pub Left : Option Station → Result Outcome Fault → Station → Type 0
  Left left o st = OnOk o (node_test places st.state node ≡ Ok tt
      → left ≡ Some (record { links = node.1; state = (put_by places st.state node.0 draw).0 }))

  abbrev pub Kept : List Sent → List Sent → Result Outcome Fault → Station → Type 0
  Kept frames more o st = OnOk o (node_test places st.state node ≡ Ok tt
      → more ≡ frames ++ map (sent_by st.links) (put_by places st.state node.0 draw).1)

  abbrev pub Refused : Option Station → Option Station → List Sent → List Sent → Result Outcome Fault → Station → Type 0
  Refused old left frames more o st = IfOk o (λ x. (refusal : Refusal) → node_test places st.state node ≡ Err refusal
      → (x ≡ refused_as refusal) × (left ≡ old) × (more ≡ frames))

  module _ (stations : List (Option Station)) (frames : List Sent) (net : Network) (is : Shows stations frames net) (r : ℕ) where
    pub nowhere : length stations ≤ r → reloaded_at net r draw places node ≡ (bad_move, net)
    unfolding reloaded_at station_at
    nowhere past = rw (none_there stations net.stations r is.stations_are (slice_get_past stations r past)) refl

    here : (st : Station) → Some st ≡ station_at net r → (t : Test) → node_test places st.state node ≡ t
        → reloaded_at net r draw places node ≡ reloaded_if t net r draw places node st
    unfolding reloaded_at
    here st found t tested = rw (← found, tested) refl

    module _ (s : Option Station) (at : slice_get stations r ≡ Some s) where
      found : (s ≡ station_at net r) × (is_some s ≡ true)
      unfolding station_at
      found = one_there stations net.stations r s is.stations_are at

      outcome_at : (left : Option Station) (more : List Sent) (st : Station) → Some st ≡ station_at net r → (t : Test)
          → node_test places st.state node ≡ t → (o : Result Outcome Fault) → Done o st → Refused s left frames more o st
          → IfOk o (λ x. x ≡ (reloaded_at net r draw places node).0)
      unfolding reloaded
      outcome_at left more st there t tested (Err fault) d f = tt
      outcome_at left more st there (Ok done) tested (Ok x) d f =
          d tested ∙ ap (λ (m : Outcome × Network). m.0) (sym (here st there (Ok done) tested))
      outcome_at left more st there (Err refusal) tested (Ok x) d f =
          (f refusal tested).0 ∙ ap (λ (m : Outcome × Network). m.0) (sym (here st there (Err refusal) tested))

      outcome_of : (left : Option Station) (more : List Sent) (o' : Option Station) → o' ≡ s → is_some o' ≡ true
          → (o : Result Outcome Fault) → IfSome o' (Done o) → IfSome o' (Refused s left frames more o)
          → IfOk o (λ x. x ≡ (reloaded_at net r draw places node).0)
      outcome_of left more None whole some o d f = cc some
      outcome_of left more (Some st) whole some o d f =
          outcome_at left more st (whole ∙ found.0) (node_test places st.state node) refl o d f

      pub outcome_is : (left : Option Station) (more : List Sent) (o : Result Outcome Fault) → IfSome s (Done o)
          → IfSome s (Refused s left frames more o) → IfOk o (λ x. x ≡ (reloaded_at net r draw places node).0)
      outcome_is left more o d f = outcome_of left more s refl found.1 o d f

      put_of : (left : Option Station) (more : List Sent) (st : Station) → Some st ≡ station_at net r
          → node_test places st.state node ≡ Ok tt
          → left ≡ Some (record { links = node.1; state = (put_by places st.state node.0 draw).0 })
          → more ≡ frames ++ map (sent_by st.links) (put_by places st.state node.0 draw).1
          → shown (set stations r left) more ≡ Some (reloaded_at net r draw places node).1
      unfolding reloaded
      put_of left more st there tested f g =
          let after : Station = record { links = node.1; state = (put_by places st.state node.0 draw).0 } in
          let stations_are : all_of (set stations r left) ≡ Some (set net.stations r after) =
          ap (λ (l : Option Station). all_of (set stations r l)) f ∙ one_replaced stations net.stations r after is.stations_are in
          let frames_are : more ≡ net.frames ++ map (sent_by st.links) (put_by places st.state node.0 draw).1 =
          g
          ∙ ap (λ (fs : List Sent). fs ++ map (sent_by st.links) (put_by places st.state node.0 draw).1) is.frames_are in
          rw (stations_are, frames_are) (ap (λ (m : Outcome × Network). Some m.1) (sym (here st there (Ok tt) tested)))

      same_of : (left : Option Station) (more : List Sent) (st : Station) → Some st ≡ station_at net r → (refusal : Refusal)
          → node_test places st.state node ≡ Err refusal → left ≡ s → more ≡ frames
          → shown (set stations r left) more ≡ Some (reloaded_at net r draw places node).1
      same_of left more st there refusal tested f g =
          let stations_are : set stations r left ≡ stations = ap (set stations r) f ∙ same_put stations r s at in
          rw (stations_are, g, is.stations_are, is.frames_are)
          (ap (λ (m : Outcome × Network). Some m.1) (sym (here st there (Err refusal) tested)))

      network_at : (left : Option Station) (more : List Sent) (st : Station) → Some st ≡ station_at net r → (t : Test)
          → node_test places st.state node ≡ t → (o : Result Outcome Fault) → Left left o st → Kept frames more o st
          → Refused s left frames more o st
          → OnOk o (shown (set stations r left) more ≡ Some (reloaded_at net r draw places node).1)
      network_at left more st there t tested (Err fault) f g h = tt
      network_at left more st there (Ok done) tested (Ok x) f g h = put_of left more st there tested (f tested) (g tested)
      network_at left more st there (Err refusal) tested (Ok x) f g h =
          let same = h refusal tested in same_of left more st there refusal tested same.1 same.2

      network_of : (left : Option Station) (more : List Sent) (o' : Option Station) → o' ≡ s → is_some o' ≡ true
          → (o : Result Outcome Fault) → IfSome o' (Left left o) → IfSome o' (Kept frames more o)
          → IfSome o' (Refused s left frames more o)
          → OnOk o (shown (set stations r left) more ≡ Some (reloaded_at net r draw places node).1)
      network_of left more None whole some o f g h = cc some
      network_of left more (Some st) whole some o f g h =
          network_at left more st (whole ∙ found.0) (node_test places st.state node) refl o f g h

      pub network_is : (left : Option Station) (more : List Sent) (o : Result Outcome Fault) → IfSome s (Left left o)
          → IfSome s (Kept frames more o) → IfSome s (Refused s left frames more o)
          → OnOk o (shown (set stations r left) more ≡ Some (reloaded_at net r draw places node).1)
      network_is left more o f g h = network_of left more s refl found.1 o f g h

      pub fault_is : (o : Result Outcome Fault) → IfSome s (λ st. IsOkUnless o Fault.Memory) → IsOkUnless o Fault.Memory
      fault_is o f = fault_of s found.1 f
        where
          fault_of : (s : Option Station) → is_some s ≡ true → IfSome s (λ st. IsOkUnless o Fault.Memory)
              → IsOkUnless o Fault.Memory
          fault_of None some f = cc some
          fault_of (Some st) some f = f
