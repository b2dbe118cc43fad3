-- What the macros of a source of a group read: two states in which they read the same.
use Rattle.std.{specs.{Option.option_map_or, Prelude.{Bool, Option, Some, false, is_none, option_map, ℕ, ◌≡◌}}}
use Rattle.pim_types.{specs.declared.fact.{AssertRow.AssertRow, SourceRecordRow.SourceRecordRow}}
use Rattle.pim_model.{specs.{Desires.winner_hop, Neighbours.{is_dr, is_neighbour, nbr}, Receivers.{is_exclude, local_receiver_include, source_record}, Sets.{assert_source, assert_star, is_loser, is_winner, joins, joins_star, prunes, spt_bit, tunnel}, State.State, Unicast.{route, rp_of, rp_route}}}

-- The source record has no running timer, so the source is excluded.
abbrev pub is_excluded_row : Option SourceRecordRow → Bool
is_excluded_row o = option_map_or (λ (r : SourceRecordRow). is_none r.end) o false

-- The macros of (*,G) read the same in both states, but for the neighbours.
pub record SeesStar (g : ℕ) (s t : State) : Type 0 where
  pub settings : s.settings ≡ t.settings
  pub configured : s.configured ≡ t.configured
  pub dr : is_dr s ≡ is_dr t
  pub neighbour : is_neighbour s ≡ is_neighbour t
  pub rp : rp_of s g ≡ rp_of t g
  pub rp_path : rp_route s g ≡ rp_route t g
  pub joined : joins_star s g ≡ joins_star t g
  pub losers : (i : ℕ) → is_loser (assert_star s g i) ≡ is_loser (assert_star t g i)
  pub winners : (i : ℕ) → is_winner (assert_star s g i) ≡ is_winner (assert_star t g i)
  pub won_by : (i : ℕ) → winner_hop (Some i) (assert_star s g) ≡ winner_hop (Some i) (assert_star t g)
  pub excluding : is_exclude s g ≡ is_exclude t g
  pub rp_nbr : nbr s (rp_route s g) ≡ nbr t (rp_route t g)

-- The macros of (S,G) and (S,G,rpt) read the same in both states.
pub record SeesSource (g src : ℕ) (s t : State) : Type 0 where
  pub star : SeesStar g s t
  pub path : route s src ≡ route t src
  pub nbr : nbr s (route s src) ≡ nbr t (route t src)
  pub joined : joins s g src ≡ joins t g src
  pub pruned : prunes s g src ≡ prunes t g src
  pub losers : (i : ℕ) → is_loser (assert_source s g src i) ≡ is_loser (assert_source t g src i)
  pub winners : (i : ℕ) → is_winner (assert_source s g src i) ≡ is_winner (assert_source t g src i)
  pub won_by : (i : ℕ) → winner_hop (Some i) (assert_source s g src) ≡ winner_hop (Some i) (assert_source t g src)
  pub metrics : (i : ℕ) → option_map (λ (r : AssertRow). r.winner) (assert_source s g src i) ≡ option_map
      (λ (r : AssertRow). r.winner) (assert_source t g src i)
  pub included : local_receiver_include s g src ≡ local_receiver_include t g src
  pub excluded : (i : ℕ) → is_excluded_row (source_record s g src i) ≡ is_excluded_row (source_record t g src i)
  pub spt : spt_bit s g src ≡ spt_bit t g src
  pub to_rp : tunnel s g src ≡ tunnel t g src
