-- Stations and frames by their numbers.
use Rattle.std.{proofs.{Common.{◌≡◌, ◌∙◌, ◌≤◌, ◌-◌, ℕ, suc, zero, List, Option, Some, None, refl, sym, ap, Bor, arith}, lemmas.Option.{slice_get_past, slice_get_read}}, specs.{List.slice_get, Option.option_copied, Prelude.{IfNone, IfSome, IsSome, option_map}, Slice.IsItemAt}}
use Rattle.pim_model.{specs.Network.{Network, Sent, Station, frame_at, station_at}}
use Rattle.pim_net.{specs.Showing.all_of, proofs.Stations.{none_there, one_there}}

abbrev pub shown : List (Option Station) → List Sent → Option Network
shown stations frames = option_map (λ ss. record { stations = ss; frames = frames }) (all_of stations)

pub record Shows (stations : List (Option Station)) (frames : List Sent) (net : Network) : Type 0 where
  pub stations_are : all_of stations ≡ Some net.stations
  pub frames_are : frames ≡ net.frames

shows_of : (stations : List (Option Station)) (frames : List Sent) (net : Network) (o : Option (List Station))
    → all_of stations ≡ o → option_map (λ ss. record { stations = ss; frames = frames }) o ≡ Some net
    → Shows stations frames net
shows_of stations frames net None is e = cc e
shows_of stations frames net (Some ss) is e =
    let whole : record { stations = ss; frames = frames } ≡ net = cc e in
    record { stations_are = is ∙ ap (λ (n : Network). Some n.stations) whole; frames_are = ap (λ (n : Network). n.frames) whole }

pub shows : (stations : List (Option Station)) (frames : List Sent) (net : Network) → shown stations frames ≡ Some net
    → Shows stations frames net
shows stations frames net e = shows_of stations frames net (all_of stations) refl e

-- what a look-up answers
pub item_is : {A : Type 0} (xs : List A) (i : ℕ) (r : Option (Bor A)) → IsItemAt xs i r → option_copied r ≡ slice_get xs i
item_is xs i None f = sym (slice_get_past xs i f.3)
item_is xs i (Some x) f = sym (slice_get_read xs _ i x.now refl (f.3).0 f.1)

module _ (stations : List (Option Station)) (frames : List Sent) (net : Network) (is : Shows stations frames net) (i : ℕ) where
  pub station_found : (r : Option (Bor (Option Station))) → IsItemAt stations i r
      → IfSome r (λ s. (s.now ≡ station_at net i) × IsSome s.now)
  unfolding station_at
  station_found None f = tt
  station_found (Some s) f = one_there stations net.stations i s.now is.stations_are (sym (item_is stations i (Some s) f))

  pub station_missing : (r : Option (Bor (Option Station))) → IsItemAt stations i r
      → IfNone r (station_at net i ≡ None)
  unfolding station_at
  station_missing None f = none_there stations net.stations i is.stations_are (sym (item_is stations i None f))
  station_missing (Some s) f = tt

  pub frame_found : (k : ℕ) → 1 ≤ k → i ≡ k - 1 → (r : Option (Bor Sent)) → IsItemAt frames i r
      → option_copied r ≡ frame_at net k
  unfolding frame_at
  frame_found zero above before r f = absurd (omega (arith, above))
  frame_found (suc k) above before r f =
      item_is frames i r f ∙ ap (λ fs. slice_get fs i) is.frames_are
      ∙ ap (slice_get net.frames) (omega (arith, before))

pub no_frame_zero : (net : Network) (k : ℕ) → (1 ≤ k → ⊥) → None ≡ frame_at net k
unfolding frame_at
no_frame_zero net zero not_above = refl
no_frame_zero net (suc k) not_above = absurd (not_above (omega arith))
