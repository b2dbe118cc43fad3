use Rattle.std.{proofs.Common.{List, ap, sym, ◌∙◌}}
use Rattle.pim_types.{specs.declared.fact.Key.Key}
use Rattle.pim_state.{specs.declared.touched.Touched.{Touched, TheVariants.Keys}}
use Rattle.pim_views.{specs.Openings.touched_sources}
use Rattle.pim_views.proofs.sources.touched_sources.Goals as goal

pub returns-in_ok-found-in-All : goal.returns-in_ok-found-in-All
unfolding touched_sources
returns-in_ok-found-in-All c =
    c.in_ok-found-in-All.ensures
    ∙ ap (λ (t : Touched). touched_sources c.args.world.now t c.args.group.bits) (sym c.in-All.is)

pub returns-in_ok-found-in-Keys : goal.returns-in_ok-found-in-Keys
returns-in_ok-found-in-Keys c =
    let g = c.args.group.bits in
    let s = c.args.world.now in
    c.in_ok-found-in-Keys.ensures
    ∙ ap (λ (ks : List Key). touched_sources s (Keys ks) g) c.as_slice.ensures
    ∙ ap (λ (t : Touched). touched_sources s t g) (sym c.in-Keys.is)
