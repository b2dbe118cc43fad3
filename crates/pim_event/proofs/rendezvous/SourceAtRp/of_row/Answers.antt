use Rattle.pim_model.{specs.Cache.answers}
use Rattle.pim_event.proofs.rendezvous.SourceAtRp.of_row.Goals as goal

pub returns : goal.returns
unfolding answers
returns c g src h = record {
  spt = h.spt;
  wanted = c.is_spt_wanted.ensures;
  flows = h.flows;
  list = h.inherited_rpt;
  bare = h.rpt_tunnel;
}
