use Rattle.std.{proofs.Common.{ap, not, ◌∙◌}}
use Rattle.pim_event.proofs.rendezvous.SourceAtRp.of_sight.Goals as goal

pub returns : goal.returns
returns c s h = record {
  spt = h.spt;
  wanted = h.is_spt_wanted;
  flows = ap not (c.is_inherited_empty.ensures s h);
  list = λ i. c.without_tunnel.ensures.interfaces i ∙ c.inherited_olist_rpt.ensures s h i;
  bare = c.without_tunnel.ensures.tunnel;
}
