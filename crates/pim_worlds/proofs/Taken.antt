-- A world under an accepted configuration can be made again of its rows.
use Rattle.std.{proofs.{Common.{◌≡◌, ◌≤◌, ◌&&◌, ◌^◌, ◌∙◌, ℕ, Bool, true, false, Ok, Err, ap, arith, length, nat_le, refl, sym}, lemmas.Bool.Decides.nat_tests}, specs.{List.list_all, Prelude.{Result, is_ok}}}
use Rattle.pim_ip.{specs.{Tests.{expect, ◌>>◌}, declared.refusal.Refusal.Refusal}}
use Rattle.pim_ifaces.{specs.Interfaces.is_up_key}
use Rattle.pim_model.{specs.{Limits.{are_candidates, are_own_addresses, are_routes, are_rps, config_test}, State.State}}
use Rattle.law_states.{specs.Reload.config_of}
use Rattle.pim_state.{proofs.Accepted.{in_two_parts, interfaces_tested}, specs.{Configurations.settings_test, Lending.membership_tables}}
use Rattle.pim_worlds.{specs.Rows.can_hold}
use Rattle.igmp_membership.specs.MembershipTables as membership
use Rattle.pim_store.specs.PimTables as store

first : (a b : Result (Unit {0}) Refusal) → (a >> b) ≡ Ok tt → a ≡ Ok tt
first (Ok done) b e = refl
first (Err refusal) b e = cc

second : (a b : Result (Unit {0}) Refusal) → (a >> b) ≡ Ok tt → b ≡ Ok tt
second (Ok done) b e = e
second (Err refusal) b e = cc

passed : (b : Bool) (refusal : Refusal) → expect b refusal ≡ Ok tt → b ≡ true
passed true refusal e = refl
passed false refusal e = cc

both : (a b : Bool) → a ≡ true → b ≡ true → (a && b) ≡ true
both true b f g = g
both false b f g = cc

at_most : (m n : ℕ) → m ≤ n → nat_le m n ≡ true
at_most m n h = grind (arith, nat_tests, h)

module _ (s : State) where
  abbrev routes_passed : Bool
  routes_passed = are_routes s.configured s.routes

  abbrev ranges_passed : Bool
  ranges_passed = are_rps s.ranges.static_ranges

  abbrev addresses_passed : Bool
  addresses_passed = are_own_addresses s.configured

  abbrev later : Result (Unit {0}) Refusal
  later = expect ranges_passed Refusal.ConfiguredRps >> expect addresses_passed Refusal.OwnAddresses

  pub taken : config_test (config_of s) ≡ Ok tt
      → are_candidates s.ranges.candidates ≡ true
      → list_all (λ e. is_up_key (length s.configured.interfaces) e.0) s.interfaces ≡ true
      → membership.are_of_kind (membership_tables s) ≡ true → store.are_of_kind (store.pim_tables s) ≡ true
      → s.present ≤ 2 ^ 62 → 2 ≤ s.settings.robustness → s.settings.robustness ≤ 7 → s.settings.query_interval ≤ 31744
      → can_hold s ≡ true
  unfolding config_of
  taken accepted candidates up records trees present least most interval =
      let parts = sym (in_two_parts (config_of s)) ∙ accepted in
      let settings : settings_test (config_of s) ≡ Ok tt =
      first (settings_test (config_of s))
      (expect routes_passed Refusal.ConfiguredRoutes >> later) parts in
      let tables =
      second (settings_test (config_of s))
      (expect routes_passed Refusal.ConfiguredRoutes >> later) parts in
      let after_routes = second (expect routes_passed Refusal.ConfiguredRoutes) later tables in
      both _ _
      (both _ _
      (both _ _ (ap is_ok (interfaces_tested (config_of s) settings))
      (passed addresses_passed Refusal.OwnAddresses
      (second (expect ranges_passed Refusal.ConfiguredRps) (expect addresses_passed Refusal.OwnAddresses) after_routes)))
      up)
      (both _ _
      (both _ _
      (passed routes_passed Refusal.ConfiguredRoutes
      (first (expect routes_passed Refusal.ConfiguredRoutes) later tables))
      (both _ _ (passed ranges_passed Refusal.ConfiguredRps
      (first (expect ranges_passed Refusal.ConfiguredRps) (expect addresses_passed Refusal.OwnAddresses) after_routes))
      candidates))
      (both _ _ records (both _ _ trees
      (both _ _ (at_most s.present (2 ^ 62) present) (both _ _ (at_most 2 s.settings.robustness least)
      (both _ _ (at_most s.settings.robustness 7 most) (at_most s.settings.query_interval 31744 interval)))))))
