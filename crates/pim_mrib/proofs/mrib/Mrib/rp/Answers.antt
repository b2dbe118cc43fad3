use Rattle.std.{proofs.Common.{List, Option, ap, sym, ◌∙◌}}
use Rattle.pim_types.{specs.declared.config.RpCandidate.RpCandidate}
use Rattle.pim_model.{specs.{Candidates.chosen_among, Unicast.nearer_rp}}
use Rattle.pim_mrib.{specs.Routes.table_of, proofs.Routed.rp_found}
use Rattle.pim_mrib.proofs.mrib.Mrib.rp.Goals as goal

pub returns-clause-value : goal.returns-clause-value
returns-clause-value c =
    rw (← c.self.view_is)
    (c.nearer_rp.ensures
    ∙ ap (λ (best : Option RpCandidate). nearer_rp c.longest-range.result best)
    (c.chosen_among.ensures ∙ ap (λ (cs : List RpCandidate). chosen_among cs c.args.group.bits) c.as_slice.ensures.value)
    ∙ sym (rp_found (table_of c.self.inside.static_ranges c.self.inside.candidates.items) c.args.group.bits
    c.longest-range.result (sym c.is_source_specific.ensures ∙ c.if-is_source_specific.false)
    (sym c.longest-range.ensures.value)))
