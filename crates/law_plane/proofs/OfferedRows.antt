-- What is offered of a source handles its packets as its row does, or as is decided of a source without a fact.
use Rattle.std.{proofs.Common.{◌≡◌, ℕ, Bool, true, false, ◌||◌, cond, Option, Some, None, option_map, refl, arith}}
use Rattle.pim_types.{specs.Keys.source_key}
use Rattle.pim_model.{specs.{Cache.{Answers, answers, cached}, Full.{is_full, source_is_full}, Tables.has_row}}
use Rattle.law_plane.{specs.{Offload.{Handling, handled, handling, handling_unknown, offload, unknown_of}, Offered.{KnownIsTold, Offered, OfferedIsHandled, UnknownRowDecides, offered, unknown_row}, Split.handled_at}}

pub unknown_row_decides : UnknownRowDecides
unfolding unknown_row handling handling_unknown
unknown_row_decides row i = grind arith

module _ (a : Answers) (i : ℕ) where
  abbrev known : Option Offered
  known = Some (record { is_known = true; row = offload a })

  abbrev unknown : Option Offered
  unknown = Some (record { is_known = false; row = unknown_row (offload a) })

  by_fact : (b f : Bool) → handled (option_map (λ (o : Offered). o.row) (cond b known (cond f None unknown))) i
      ≡ handled_at (option_map offload (cond b (Some a) None))
      (cond (b || f) Handling.ToCore (handling_unknown (offload a) i)) i
  by_fact b f = grind (arith, unknown_row_decides)

pub offered_is_handled : OfferedIsHandled
unfolding offered cached unknown_of is_full
offered_is_handled s i p =
    by_fact (answers s p.destination p.source) i.number (has_row s.sources (source_key 0 p.destination p.source))
    (source_is_full s p.destination p.source)

pub known_is_told : KnownIsTold
unfolding offered cached
known_is_told s g src there = rw there refl
