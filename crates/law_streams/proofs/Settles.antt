-- What follows of a change ends no stream by itself.
use Rattle.std.{proofs.Common.{◌≡◌, ◌∙◌, ℕ, Bool, false, List, Option, Some, refl, ap, arith}, specs.Option.option_map_or}
use Rattle.pim_types.{specs.{Keys.source_key, declared.fact.SourceRow.SourceRow}}
use Rattle.pim_model.{specs.{Asserts.{assert_forgotten, without_spt, without_spt_bit}, Firing.settled, Messages.Message, Registers.settle_registers, Sets.{assert_source, assert_star, is_loser, spt_bit}, State.State, Tables.row_at}}
use Rattle.law_settled.{proofs.{Unsettled.{Untold, cleared_in_the_end, settling_leaves}, SettlingLaws.kept_by_clearing}}
use Rattle.law_streams.{proofs.{Passes.same_up, Taken.{source_unlost, star_unlost}, Rows.changed_good, Ways.SameGround}}

-- the facts of the stream that a change may only better
pub record NoWorse (g src down : ℕ) (s t : State) : Type 0 where
  pub ground : SameGround s t
  pub downstream : t.downstream ≡ s.downstream
  pub group : is_loser (assert_star s g down) ≡ false → is_loser (assert_star t g down) ≡ false
  pub source : is_loser (assert_source s g src down) ≡ false → is_loser (assert_source t g src down) ≡ false
  pub spt : spt_bit s g src ≡ false → spt_bit t g src ≡ false

-- ---- a cleared SPTbit

abbrev pub bit_of : Option SourceRow → Bool
bit_of o = option_map_or (λ (r : SourceRow). r.spt) o false

pub unset_is_off : (r q : SourceRow) → without_spt r ≡ Some q → bit_of (Some q) ≡ false
unset_is_off r q f = grind arith

module _ (o : State) (c : State × List Message) (w g src down : ℕ) where
  abbrev end_state : State
  end_state = (settled o c w).0

  still_off : spt_bit c.0 g src ≡ false → spt_bit end_state g src ≡ false
  unfolding spt_bit settle_registers assert_forgotten without_spt_bit
  still_off e =
      ap (λ (u : Untold). bit_of (row_at u.sources (source_key 0 g src))) (cleared_in_the_end o c w)
      ∙ kept_by_clearing (λ t. bit_of (row_at t.sources (source_key 0 g src)) ≡ false) (λ t k f. f)
      (λ t k f. changed_good bit_of refl without_spt unset_is_off k (source_key 0 g src) t.sources f) o c.0 e

  pub settling_no_worse : NoWorse g src down c.0 end_state
  settling_no_worse = grind (arith, settling_leaves, same_up, star_unlost, source_unlost, still_off)
