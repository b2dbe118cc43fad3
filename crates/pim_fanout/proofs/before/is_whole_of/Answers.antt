use Rattle.std.{proofs.Common.{List, ap, sym, ◌∙◌}}
use Rattle.pim_types.{specs.declared.fact.Key.Key}
use Rattle.pim_state.{specs.declared.touched.Touched.{Touched, TheVariants.Keys}}
use Rattle.pim_views.{specs.Openings.is_whole}
use Rattle.pim_fanout.{proofs.Grouping.is_whole_alike}
use Rattle.pim_fanout.proofs.before.is_whole_of.Goals as goal

pub returns-in-Keys : goal.returns-in-Keys
unfolding is_whole
returns-in-Keys c =
    let g = c.args.group.bits in
    c.is_whole-in-Keys.ensures
    ∙ is_whole_alike g _ _ c.keys_of.ensures
    ∙ ap (λ (ks : List Key). is_whole (Keys ks) g) c.as_slice.ensures
    ∙ ap (λ (t : Touched). is_whole t g) (sym c.in-Keys.is)
