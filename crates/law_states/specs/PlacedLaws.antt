-- What a user expects of a reload by places.
use Rattle.std.{specs.{List.list_all, Prelude.{List, None, Ok, Some, [], if◌then◌else◌, length, min, nat_lt, slice_get, true, ℕ, ◌≡◌, ◌≤◌}}}
use Rattle.pim_types.{specs.{Keys.iface_in, declared.{config.Config.Config, fact.Key.Key}}}
use Rattle.pim_model.{specs.{Limits.config_test, State.{State, address_among, addressing_of, iface_count}, Tables.{is_among, row_at}}}
use Rattle.law_events.{specs.Rest.IsAtRest}
use Rattle.law_settled.{specs.Ready.IsOrdered}
use Rattle.law_states.{specs.{Reload.config_of, ReloadLaws.AreConfigured, Reloading.reload, Placing.{Places, are_places, each_to_itself, in_order, placed_key, kept_places, moved, new_order, number_at, old_order, placed_under, reload_by, resubnetted, to_order}}}

-- whatever the other configuration and the map are, what it leaves is at rest
abbrev pub PlacedReloadLeavesRest : Type 0
PlacedReloadLeavesRest = (s : State) (m : Places) (c : Config) (w : ℕ) → config_test (config_of s) ≡ Ok tt
    → config_test c ≡ Ok tt → IsAtRest s → IsAtRest (reload_by s m c w).0

-- No two places are one.
abbrev pub AreApart : List ℕ → Type 0
AreApart places = (i j : ℕ) → number_at places i ≡ number_at places j → i ≡ j

-- The row of a state at a key is found in another state at the key of its other place, whatever it is; where there is none,
-- none is found there.
pub record IsFoundThere (places : List ℕ) (k : Key) (s t : State) : Type 0 where
  pub interfaces : row_at t.interfaces (placed_key places k) ≡ row_at s.interfaces k
  pub neighbours : row_at t.neighbours (placed_key places k) ≡ row_at s.neighbours k
  pub queriers : row_at t.queriers (placed_key places k) ≡ row_at s.queriers k
  pub group_records : row_at t.group_records (placed_key places k) ≡ row_at s.group_records k
  pub source_records : row_at t.source_records (placed_key places k) ≡ row_at s.source_records k
  pub group_repeats : row_at t.group_repeats (placed_key places k) ≡ row_at s.group_repeats k
  pub source_repeats : row_at t.source_repeats (placed_key places k) ≡ row_at s.source_repeats k
  pub sendings : row_at t.sendings (placed_key places k) ≡ row_at s.sendings k
  pub downstream : row_at t.downstream (placed_key places k) ≡ row_at s.downstream k
  pub asserts : row_at t.asserts (placed_key places k) ≡ row_at s.asserts k

-- Where no two places are one, each fact of an interface is the fact of its other place, and no other fact is.
abbrev pub FactsGoWithTheirLink : Type 0
FactsGoWithTheirLink = (s : State) (places : List ℕ) (c : Config) (k : Key) → AreApart places → IsOrdered s
    → IsFoundThere places k s (placed_under s places c)

-- Each old place goes to an interface of the old configuration in the order between, and each interface of the new
-- configuration in that order to a place that the new configuration has.
pub record GoSomewhere (s : State) (m : Places) (c : Config) : Type 0 where
  pub each : length (to_order m) ≡ iface_count s
  pub there : list_all (λ j. nat_lt j (length (in_order (old_order m) (config_of s)).interfaces)) (to_order m) ≡ true
  pub again : length (in_order (new_order m (length c.interfaces)) c).interfaces ≤ length (new_order m (length c.interfaces))
  pub back : list_all (λ j. nat_lt j (length c.interfaces)) (new_order m (length c.interfaces)) ≡ true

abbrev pub PlacesAreThere : Type 0
PlacesAreThere = (s : State) (m : Places) (c : Config) → are_places (iface_count s) (length c.interfaces) m ≡ true
    → GoSomewhere s m c

-- A neighbour stays with its link, unless it is of one of the places whose neighbours go.
abbrev pub NeighboursStayOrGo : Type 0
NeighboursStayOrGo = (s : State) (places : List ℕ) (c : Config) (apart : List ℕ) (w : ℕ) (k : Key) → AreApart places
    → IsOrdered s
    → row_at (moved s places c apart w).0.neighbours (placed_key places k)
    ≡ (if is_among (iface_in (placed_key places k)) apart then None else row_at s.neighbours k)

-- the state is under the configuration of the reload, and no other
abbrev pub PlacedReloadIsUnder : Type 0
PlacedReloadIsUnder = (s : State) (m : Places) (c : Config) (w : ℕ) → config_of (reload_by s m c w).0 ≡ c

-- In the order between each interface has the address that it had, and in the new order the one that it has between.
abbrev pub AddressesGoAlong : Type 0
AddressesGoAlong = (s : State) (m : Places) (c : Config) → are_places (iface_count s) (length c.interfaces) m ≡ true
    → ((i : ℕ) → address_among (addressing_of (in_order (old_order m) (config_of s))) (number_at (to_order m) i)
    ≡ address_among s.configured i)
    × ((p : ℕ) → address_among (addressing_of c) (number_at (new_order m (length c.interfaces)) p)
    ≡ address_among (addressing_of (in_order (new_order m (length c.interfaces)) c)) p)

-- After a reload by places only interfaces of the new configuration are up.
abbrev pub PlacedAreConfigured : Type 0
PlacedAreConfigured = (s : State) (m : Places) (c : Config) (w : ℕ) → are_places (iface_count s) (length c.interfaces) m ≡ true
    → AreConfigured s → AreConfigured (reload_by s m c w).0

-- Where each place stays at its number, and each interface that both configurations have keeps its address and the length of
-- its subnet, a reload by places is the reload without a map.
abbrev pub IdentityPlacesAreReload : Type 0
IdentityPlacesAreReload = (s : State) (c : Config) (w : ℕ) → config_test c ≡ Ok tt
    → resubnetted (min (iface_count s) (length c.interfaces)) s.configured.interfaces c.interfaces ≡ [] → IsAtRest s
    → reload_by s (each_to_itself (iface_count s) (length c.interfaces)) c w ≡ reload s c w

-- By a map that has passed its tests no two old places go to one place of the order between, and no two of those to one new
-- place.
abbrev pub PlacesAreApart : Type 0
PlacesAreApart = (old new : ℕ) (m : Places) → are_places old new m ≡ true
    → AreApart (to_order m) × AreApart (new_order m new)

-- By both moves together each old place that stays goes where the map says; by the first those that it leaves out go past
-- all that stay.
abbrev pub PlacesGoByTheMap : Type 0
PlacesGoByTheMap = (m : Places) (new : ℕ)
    → ((i j : ℕ) → slice_get m i ≡ Some (Some j) → number_at (new_order m new) (number_at (to_order m) i) ≡ j)
    × ((i : ℕ) → slice_get m i ≡ Some None → length (kept_places m) ≤ number_at (to_order m) i)

-- Configurations that are accepted are accepted in the order between.
abbrev pub OrdersAreAccepted : Type 0
OrdersAreAccepted = (s : State) (m : Places) (c : Config) → are_places (iface_count s) (length c.interfaces) m ≡ true
    → config_test (config_of s) ≡ Ok tt → config_test c ≡ Ok tt
    → (config_test (in_order (old_order m) (config_of s)) ≡ Ok tt)
    × (config_test (in_order (new_order m (length c.interfaces)) c) ≡ Ok tt)
