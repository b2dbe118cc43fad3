-- Rows of interfaces that other interfaces have too.
use Rattle.std.{proofs.Common.{◌≡◌, ℕ, ◌+◌, ◌&&◌, nat_lt, Bool, true, false, List, [], ◌∷◌, length, refl, ltb-true}, specs.List.list_all}
use Rattle.pim_types.{specs.{declared.{config.InterfaceConfig.InterfaceConfig, fact.InterfaceRow.InterfaceRow}, Keys.iface_in}}
use Rattle.pim_model.{specs.Tables.Table}
use Rattle.pim_ifaces.{specs.Interfaces.{InterfacesRise, IsHeld}}

first_and : (a b : Bool) → (a && b) ≡ true → (a ≡ true) × (b ≡ true)
first_and true b e = (refl, e)
first_and false b e = cc

rise_below : (low count other : ℕ) (rows : Table InterfaceRow)
    → list_all (λ e. nat_lt (iface_in e.0) other) rows ≡ true → InterfacesRise low count rows
    → InterfacesRise low other rows
rise_below low count other [] below h = tt
rise_below low count other (e ∷ es) below h =
    let p = first_and (nat_lt (iface_in e.0) other) (list_all (λ x. nat_lt (iface_in x.0) other) es) below in
    (h.0, h.1, ltb-true (iface_in e.0) other p.0, rise_below (iface_in e.0 + 1) count other es p.1 h.3)

pub held_under : (before after : List InterfaceConfig) (rows old : Table InterfaceRow) → IsHeld before rows
    → IsHeld after old → list_all (λ e. nat_lt (iface_in e.0) (length after)) rows ≡ true → IsHeld after rows
held_under before after rows old here there below =
    record { within = there.within; rise = rise_below 0 (length before) (length after) rows below here.rise }
