-- The macros of a group and of a source read the same in a state that differs in the present, and in asserts and
-- sources other than theirs.
use Rattle.std.{proofs.Common.{◌≡◌, ℕ, Some, option_map, refl, ap}}
use Rattle.pim_types.{specs.{declared.fact.{AssertRow.AssertRow, SourceRow.SourceRow}, Keys.{source_key, star_key}}}
use Rattle.pim_model.{specs.{Desires.winner_hop, Neighbours.{is_dr, nbr}, Receivers.{is_exclude, local_receiver_include, local_receiver_include_among}, Sets.{is_loser, is_winner, joins, joins_star, prunes, spt_bit, tunnel}, State.State, Tables.{Table, row_at}, Unicast.{route, rp_of, rp_route}}}
use Rattle.law_events.{specs.Sees.{SeesSource, SeesStar}}

module _ (s : State) (m : ℕ) (asserts : Table AssertRow) (sources : Table SourceRow) (g : ℕ)
    (stars : (i : ℕ) → row_at s.asserts (star_key i g) ≡ row_at asserts (star_key i g)) where
  abbrev changed : State
  changed = record s { present = m; asserts = asserts; sources = sources }

  pub star_beside : SeesStar g s changed
  unfolding is_dr rp_of rp_route route joins_star is_exclude nbr
  star_beside = record {
    settings = refl;
    configured = refl;
    dr = refl;
    neighbour = refl;
    rp = refl;
    rp_path = refl;
    joined = refl;
    losers = λ i. ap is_loser (stars i);
    winners = λ i. ap is_winner (stars i);
    won_by = λ i j. winner_hop (Some i) (λ n. stars n j);
    excluding = refl;
    rp_nbr = refl;
  }

  module _ (src : ℕ) (rows : (i : ℕ) → row_at s.asserts (source_key i g src) ≡ row_at asserts (source_key i g src))
      (bit : spt_bit s g src ≡ spt_bit changed g src) where
    pub source_beside : SeesSource g src s changed
    unfolding route joins prunes nbr tunnel is_exclude local_receiver_include local_receiver_include_among
    source_beside = record {
      star = star_beside;
      path = refl;
      nbr = refl;
      joined = refl;
      pruned = refl;
      losers = λ i. ap is_loser (rows i);
      winners = λ i. ap is_winner (rows i);
      won_by = λ i j. winner_hop (Some i) (λ n. rows n j);
      metrics = λ i. ap (option_map (λ (r : AssertRow). r.winner)) (rows i);
      included = refl;
      excluded = λ i. refl;
      spt = bit;
      to_rp = refl;
    }

-- where the asserts are the same
pub source_at : (s : State) (m : ℕ) (sources : Table SourceRow) (g src : ℕ)
    → spt_bit s g src ≡ spt_bit (record s { present = m; sources = sources }) g src
    → SeesSource g src s (record s { present = m; sources = sources })
source_at s m sources g src bit = source_beside s m s.asserts sources g (λ i. refl) src (λ i. refl) bit
