-- A router that is put into a saved state.
use Rattle.std.{proofs.Common.{◌≡◌, ◌∙◌, ℕ, Bool, true, false, List, Option, Some, None, Result, Ok, Err, ap, refl}, specs.{List.slice_get, Prelude.{IfOk, IfSome, OnErr, OnOk, if◌then◌else◌, is_some, set}}}
use Rattle.pim_ip.{specs.declared.fault.Fault.Fault}
use Rattle.pim_model.{specs.{Network.{Network, Sent, Station, station_at}, State.State}}
use Rattle.pim_worlds.{specs.Resuming.{read_test, restore_test}}
use Rattle.pim_saved.{specs.{Reading.reading, declared.refusal.SavedRefusal.SavedRefusal}}
use Rattle.pim_net.{specs.{Showing.{Wired, all_of, with_state_at}, declared.unrestored.Unrestored.Unrestored}, proofs.{Lookups.{Shows, shown, shows}, Stations.{if_some, one_replaced, one_there}}}

-- bytes that pass all tests say a state
pub read_as : (bytes : List ℕ) → restore_test bytes ≡ Ok tt → (s : State) × (reading bytes ≡ Ok s)
read_as bytes passes = go (reading bytes) refl passes
  where
    go : (r : Result State SavedRefusal) → reading bytes ≡ r → read_test r ≡ Ok tt → (s : State) × (reading bytes ≡ Ok s)
    go (Ok s) is passes = (s, is)
    go (Err refusal) is passes = absurd cc

module _ (stations : List (Option Station)) (frames : List Sent) (net : Network) (is : Shows stations frames net) (r : ℕ)
    (state : State) where
  placed : (left : Option Station) (s : Option Station) → s ≡ station_at net r → is_some s ≡ true
      → IfSome s (λ st. left ≡ Some (record st { state = state }))
      → shown (set stations r left) frames ≡ Some (with_state_at net r state)
  placed left None there some to = cc some
  placed left (Some st) there some to =
      let after : Station = record st { state = state } in
      let stations_are : all_of (set stations r left) ≡ Some (set net.stations r after) =
      ap (λ (l : Option Station). all_of (set stations r l)) to ∙ one_replaced stations net.stations r after is.stations_are in
      rw (stations_are, is.frames_are, ← there) refl

  pub put_into : (left s : Option Station) → slice_get stations r ≡ Some s
      → IfSome s (λ st. left ≡ Some (record st { state = state }))
      → shown (set stations r left) frames ≡ Some (with_state_at net r state)
  unfolding station_at
  put_into left s at to =
      let found = one_there stations net.stations r s is.stations_are at in placed left s found.0 found.1 to

abbrev Made : Type 0
Made = Result (Result (Unit {0}) Unrestored) Fault

-- what was said of a station, of its network
pub network_put : (stations : List (Option Station)) (frames : List Sent) (r : ℕ) (bytes : List ℕ)
    (left s : Option Station) → slice_get stations r ≡ Some s → (made : Made)
    → IfOk made (λ m. OnOk m ((state : State) × (reading bytes ≡ Ok state)
    × IfSome s (λ st. left ≡ Some (record st { state = state }))))
    → IfOk made (λ m. OnOk m ((state : State) × (reading bytes ≡ Ok state)
    × IfSome (shown stations frames) (λ net. shown (set stations r left) frames ≡ Some (with_state_at net r state))))
network_put stations frames r bytes left s at (Ok (Ok done)) to = (
  to.0,
  to.1,
  if_some (shown stations frames) _
      (λ net is. put_into stations frames net (shows stations frames net is) r to.0 left s at to.2),
)
network_put stations frames r bytes left s at (Ok (Err why)) to = tt
network_put stations frames r bytes left s at (Err fault) to = tt

-- a network that works goes on
pub works_on : (old new : Option Network) (r : ℕ) (bytes : List ℕ) (made : Made) → is_some old ≡ true
    → IfOk made (λ m. OnOk m ((state : State) × (reading bytes ≡ Ok state)
    × IfSome old (λ net. new ≡ Some (with_state_at net r state))))
    → IfOk made (λ m. OnErr m (new ≡ old)) → OnErr made (new ≡ old) → is_some new ≡ true
works_on None new r bytes made works to same fails = cc works
works_on (Some net) new r bytes (Ok (Ok done)) works to same fails = rw to.2 refl
works_on (Some net) new r bytes (Ok (Err why)) works to same fails = rw same refl
works_on (Some net) new r bytes (Err fault) works to same fails = rw fails refl

-- what was said of a network, of its net
module _ {W : Type 0} (ports : List ℕ) (wire : W) where
  abbrev wired : Option Network → Wired W
  wired network = record { network = network; ports = ports; wire = wire }

  put_there : (old new : Option Network) (r : ℕ) (state : State)
      → IfSome old (λ net. new ≡ Some (with_state_at net r state))
      → IfSome old (λ net. wired new ≡ record (wired old) { network = Some (with_state_at net r state) })
  put_there None new r state to = tt
  put_there (Some net) new r state to = ap wired to

  pub net_put : (failed : Bool) → failed ≡ false → (old new : Option Network) (r : ℕ) (bytes : List ℕ) (made : Made)
      → IfOk made (λ m. OnOk m ((state : State) × (reading bytes ≡ Ok state)
      × IfSome old (λ net. new ≡ Some (with_state_at net r state))))
      → IfOk made (λ m. OnOk m ((state : State) × (reading bytes ≡ Ok state)
      × IfSome (if failed then None else old) (λ net. wired (if failed then None else new)
      ≡ record (wired (if failed then None else old)) { network = Some (with_state_at net r state) })))
  net_put true works old new r bytes made to = cc works
  net_put false works old new r bytes (Ok (Ok done)) to = (to.0, to.1, put_there old new r to.0 to.2)
  net_put false works old new r bytes (Ok (Err why)) to = tt
  net_put false works old new r bytes (Err fault) to = tt
