-- The keys of the rows of interfaces that are up.
use Rattle.std.{proofs.{Common.{◌≡◌, ◌+◌, ◌<◌, ◌&&◌, ℕ, Bool, true, false, [], ◌∷◌, refl, subst, sym, arith}, lemmas.Bool.Decides.nat_tests}, specs.List.list_all}
use Rattle.pim_model.{specs.Tables.Table}
use Rattle.pim_types.{specs.{Keys.{iface_in, iface_key}, declared.fact.{InterfaceRow.InterfaceRow, Key.Key}}}
use Rattle.pim_ifaces.{specs.Interfaces.{InterfacesRise, is_up_key}}

both : (a b : Bool) → a ≡ true → b ≡ true → (a && b) ≡ true
both true b f g = g
both false b f g = cc

at : (i count : ℕ) → i < count → is_up_key count (iface_key i) ≡ true
at i count below = grind (arith, nat_tests, below)

pub up_keys : (low count : ℕ) (rows : Table InterfaceRow) → InterfacesRise low count rows
    → list_all (λ e. is_up_key count e.0) rows ≡ true
up_keys low count [] rise = refl
up_keys low count (e ∷ es) rise =
    both (is_up_key count e.0) (list_all (λ e. is_up_key count e.0) es)
    (subst (λ (k : Key). is_up_key count k ≡ true) (sym rise.0) (at (iface_in e.0) count rise.2))
    (up_keys (iface_in e.0 + 1) count es rise.3)
