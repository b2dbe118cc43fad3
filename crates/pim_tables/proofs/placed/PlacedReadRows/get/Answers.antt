use Rattle.std.{proofs.Common.{ap, option_copied, option_map, sym, ◌∙◌}}
use Rattle.pim_tables.{proofs.Standing.{found_at, none_found}}
use Rattle.pim_tables.proofs.placed.PlacedReadRows.get.Goals as goal

pub returns-in_err-place : goal.returns-in_err-place
returns-in_err-place g c =
    rw (← c.self.view_is) (c.from_residual.ensures
    ∙ sym (none_found _ _ c.self.invariant c.args.key (sym c.get.ensures ∙ c.in_err-place.was)))

pub returns-in_err-row : goal.returns-in_err-row
returns-in_err-row g c =
    rw (← c.self.view_is) (c.from_residual-in_err-row.ensures
    ∙ sym (found_at _ _ c.self.invariant c.args.key c.in_ok-place.place (sym c.get.ensures ∙ c.in_ok-place.was)
    ∙ ap (λ o. option_map (λ x. x.1) o) (sym c.get-2.ensures ∙ ap (λ r. option_copied r) c.in_err-row.was)))

pub returns : goal.returns
returns g c =
    rw (← c.self.view_is) (sym (
    found_at _ _ c.self.invariant c.args.key c.in_ok-place.place (sym c.get.ensures ∙ c.in_ok-place.was)
    ∙ ap (λ o. option_map (λ x. x.1) o) (sym c.get-2.ensures ∙ ap (λ r. option_copied r) c.in_ok-row.was)))
