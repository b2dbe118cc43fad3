use Rattle.std.{proofs.Common.{◌||◌, refl, ◌∙◌}}
use Rattle.law_plane.{specs.Offered.unknown_row}
use Rattle.pim_mfc.proofs.offered.Offered.unknown.Goals as goal

pub returns : goal.returns
unfolding unknown_row
returns c = record {
  known = refl;
  row = record {
    incoming = c.offload-known.ensures.incoming;
    outgoing = c.offload-known.ensures.outgoing;
    alive = λ i low. c.new.ensures.interfaces i;
    to_core = λ i low. c.union.ensures.interfaces i
        ∙ (λ j. c.offload-known.ensures.to_core i low j || c.offload-known.ensures.alive i low j);
  };
}
