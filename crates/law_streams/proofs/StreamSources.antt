-- A source on a link of the router itself.
use Rattle.std.{proofs.Common.{◌≡◌, ◌∙◌, ℕ, true, is_some, sym, ap, subst, arith}}
use Rattle.pim_types.{specs.Keys.{rpt_key, source_key, star_key}}
use Rattle.pim_model.{specs.{Sets.{inherited_olist, is_loser, prunes}, State.State, Tables.{has_row, row_at}}}
use Rattle.law_streams.{specs.{Served.{OnATree, renewed}, Roots.OnTree, Passing.{GoesOut, Receiver}, Sources.{ConnectedIsBrought, IsConnectedAt}}, proofs.{Rejoins.prunes_by, Serving.{IsAlike, connected_on_source, desired, listed, met, met_alike}}}

-- what comes on the source's own link is on its tree
module _ (s : State) (g src up down : ℕ) (at : IsConnectedAt s src up) (f : GoesOut Receiver.Router s g src down) where
  abbrev t : State
  t = met s g src up

  alike : IsAlike s g src up t
  alike = met_alike s g src up

  on_list : inherited_olist t g src down ≡ true
  unfolding has_row prunes
  on_list =
      listed s g src up at.connected at.way t down (ap (λ d. is_some (row_at d (star_key down g))) alike.downstream ∙ ap is_some (f.wanted).found)
      (ap (λ d. prunes_by (row_at d (rpt_key down g src))) alike.downstream ∙ (f.wanted).none_prunes)
      (ap (λ a. is_loser (row_at a (star_key down g))) alike.asserts ∙ f.group)
      (ap (λ a. is_loser (row_at a (source_key down g src))) alike.asserts ∙ f.source)

  on_its_tree : OnATree (renewed s g src up) g src up
  on_its_tree = grind (arith, connected_on_source, desired, alike, on_list)

pub connected_is_brought : ConnectedIsBrought
connected_is_brought s e g src up down lives payload at sends off c = record {
  bytes = c.bytes;
  packet = c.packet;
  reads = c.reads;
  fits = c.fits;
  group = c.group;
  source = c.source;
  is_data = c.is_data;
  same = c.same;
  time_to_live = c.time_to_live;
  comes =
      OnTree (record { number = up }) c.done
      (subst (λ (d : ℕ). OnATree (renewed s d (c.packet).source up) d (c.packet).source up) (sym c.group)
      (subst (λ (a : ℕ). OnATree (renewed s g a up) g a up) (sym c.source) (on_its_tree s g src up down at sends.goes_out)))
      off;
}
