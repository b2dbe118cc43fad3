-- What is made of what shows the answers of a state shows what is offered there, of a source with a fact and of
-- another.
use Rattle.std.{proofs.Common.{◌||◌, ◌∙◌}}
use Rattle.pim_macros.{specs.Rows.answers_of}
use Rattle.law_plane.{specs.{Offload.offload, Offered.unknown_row}}
use Rattle.pim_mfc.{specs.Shown.{KnownOfferIsShown, UnknownOfferIsShown}, proofs.ToldAsShown.{alive_same, core_same, incoming_same, outgoing_same, shown_is_told}}

pub shown_is_known : KnownOfferIsShown
shown_is_known row a shown is shows =
    record { known = shows.known; row = shown_is_told row a shown.row is shows.row }

pub shown_is_unknown : UnknownOfferIsShown
unfolding unknown_row offload answers_of
shown_is_unknown row a shown is shows = record {
  known = shows.known;
  row = record {
    incoming = (shows.row).incoming ∙ incoming_same row a is;
    outgoing = λ i low. (shows.row).outgoing i low ∙ outgoing_same row a is i low;
    alive = λ i low. (shows.row).alive i low;
    to_core = λ i low.
        (shows.row).to_core i low ∙ (λ j. core_same row a is i low j || alive_same row a is i low j);
  };
}
