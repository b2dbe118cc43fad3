-- Asserts under other interfaces: the table stays settled, and where no address changes it is the same.
use Rattle.std.{proofs.Common.{◌≡◌, ◌==◌, ◌&&◌, not, nat_lt, Bool, true, false, [], ◌∷◌, Some, filter, refl, ap, eq-eqb}, specs.List.{AllByRecursion}}
use Rattle.pim_types.{specs.{declared.{fact.{AssertRow.AssertRow, Key.Key}}, Keys.iface_in}}
use Rattle.pim_model.{specs.{Sets.is_winner, State.{Addressing, State, address_among, is_up}, Tables.Table}}
use Rattle.law_settled.{specs.Ready.IsSettled, proofs.{FineStates.{Good, rows_fine}, FineTables.{fine_filter}, Parts.Asserts, SettledStates.{fine_is_settled, settled_is_fine}}}
use Rattle.law_states.{specs.Reloading.{asserts_under, is_won_before}}

pub asserts_settled : (s : State) (configured : Addressing) → IsSettled s
    → IsSettled (record s { asserts = asserts_under s configured })
unfolding asserts_under
asserts_settled s configured h =
    let f = settled_is_fine s h in
    fine_is_settled s.present (is_up s) (record s { asserts = asserts_under s configured })
    (rows_fine s.present (nat_lt s.present) (is_up s) Asserts tt s f (asserts_under s configured)
    (fine_filter (Good (nat_lt s.present) (is_up s) Asserts) (λ e. not (is_won_before s configured e)) s.asserts (f.tables Asserts)))

-- the address of each assert's interface is the same
abbrev pub SameAt : State → Addressing → Key × AssertRow → Type 0
SameAt s configured e = address_among s.configured (iface_in e.0) ≡ address_among configured (iface_in e.0)

none_won : (w b : Bool) → b ≡ true → not (w && not b) ≡ true
none_won true b e = ap (λ (x : Bool). not (not x)) e
none_won false b e = refl

module _ (s : State) (configured : Addressing) where
  stays : (e : Key × AssertRow) → SameAt s configured e → not (is_won_before s configured e) ≡ true
  unfolding is_won_before
  stays e same =
      none_won (is_winner (Some e.1)) (address_among s.configured (iface_in e.0) == address_among configured (iface_in e.0))
      (eq-eqb _ _ same)

  all_stay : (t : Table AssertRow) → AllByRecursion (SameAt s configured) t → filter (λ e. not (is_won_before s configured e)) t ≡ t
  all_stay [] same = refl
  all_stay (e ∷ t) same = rw (stays e same.0) (ap (λ (r : Table AssertRow). e ∷ r) (all_stay t same.1))

  pub same_asserts : AllByRecursion (SameAt s configured) s.asserts → asserts_under s configured ≡ s.asserts
  unfolding asserts_under
  same_asserts same = all_stay s.asserts same

each_same : (s : State) (t : Table AssertRow) → AllByRecursion (SameAt s s.configured) t
each_same s [] = tt
each_same s (e ∷ t) = (refl, each_same s t)

-- with the same interfaces
pub own_asserts : (s : State) → asserts_under s s.configured ≡ s.asserts
own_asserts s = same_asserts s s.configured (each_same s s.asserts)
