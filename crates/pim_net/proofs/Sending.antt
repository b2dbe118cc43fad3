-- Packets of a router that are added to the frames.
use Rattle.std.{proofs.Common.{◌≡◌, ◌∙◌, ◌++◌, ℕ, true, List, map, Option, Some, None, Bor, Result, Ok, Err, refl, sym, ap}, specs.{Prelude.{IfSome, OnOk, is_some}, Slice.IsItemAt}}
use Rattle.pim_ip.{specs.declared.fault.Fault.Fault}
use Rattle.pim_types.{specs.declared.outcome.Emission.Emission}
use Rattle.pim_model.{specs.Network.{Network, Sent, Station, sent_by, station_at}}
use Rattle.pim_net.{specs.Showing.{with_sent_at}, proofs.{Lookups.{Shows, item_is, shown, station_found}, Stations.none_there}}

module _ (stations : List (Option Station)) (frames : List Sent) (net : Network) (is : Shows stations frames net) (r : ℕ)
    (sent : List Emission) where
  pub sent_nowhere : (o : Option Network) → o ≡ Some net → IsItemAt stations r None → o ≡ Some (with_sent_at net r sent)
  unfolding station_at
  sent_nowhere o shows f =
      shows
      ∙ ap Some (sym (rw (none_there stations net.stations r is.stations_are (sym (item_is stations r None f))) refl))

  pub sent_there : (s : Bor (Option Station)) (o : Result (Unit {0}) Fault) (more : List Sent) → IsItemAt stations r (Some s)
      → IfSome s.now (λ st. OnOk o (more ≡ frames ++ map (sent_by st.links) sent))
      → OnOk o (shown stations more ≡ Some (with_sent_at net r sent))
  sent_there s o more f kept =
      let there = station_found stations frames net is r (Some s) f in go s.now there.0 there.1 o kept
    where
      go : (x : Option Station) → x ≡ station_at net r → is_some x ≡ true → (o : Result (Unit {0}) Fault)
          → IfSome x (λ st. OnOk o (more ≡ frames ++ map (sent_by st.links) sent))
          → OnOk o (shown stations more ≡ Some (with_sent_at net r sent))
      go None at some o kept = cc some
      go (Some st) at some (Err fault) kept = tt
      go (Some st) at some (Ok done) kept =
          let frames_are : more ≡ net.frames ++ map (sent_by st.links) sent =
          kept ∙ ap (λ (fs : List Sent). fs ++ map (sent_by st.links) sent) is.frames_are in
          rw (is.stations_are, frames_are, ← at) refl
