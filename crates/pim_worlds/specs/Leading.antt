-- Where places lead, and what is written of a state whose facts go there.
use Rattle.std.{specs.Prelude.{List, nat_lt, true, ℕ, ◌≡◌}}
use Rattle.law_states.{specs.Placing.{number_at, placed}}
use Rattle.pim_model.{specs.State.State}
use Rattle.pim_saved.{specs.Parts.{GroundParts, LinkParts, RecordParts, TreeParts}}

-- Places of so many interfaces lead below another number, and none that a set of interfaces can have leads past what one can
-- have.
pub record LeadWithin (places : List ℕ) (old new : ℕ) : Type 0 where
  pub there : (i : ℕ) → nat_lt i old ≡ true → nat_lt (number_at places i) new ≡ true
  pub low : (i : ℕ) → nat_lt i 120 ≡ true → nat_lt (number_at places i) 120 ≡ true

-- the present of a state, with what another is configured with
abbrev pub with_ground : State → State → GroundParts
with_ground s next = (next.settings, (next.configured.interfaces, (s.present, (next.routes, next.ranges.static_ranges))))

-- the facts of a state's interfaces at their places
abbrev pub placed_links : State → List ℕ → LinkParts
placed_links s places = (placed places s.interfaces, (placed places s.neighbours, placed places s.queriers))

-- IGMP's
abbrev pub placed_records : State → List ℕ → RecordParts
placed_records s places = (
  placed places s.group_records,
  (
    placed places s.source_records,
    (
      placed places s.group_repeats,
      (placed places s.source_repeats, placed places s.sendings),
    ),
  ),
)

-- PIM's, of which only those of interfaces go
abbrev pub placed_trees : State → List ℕ → TreeParts
placed_trees s places = (
  placed places s.downstream,
  (
    placed places s.asserts,
    (
      s.join_timers,
      (
        s.override_timers,
        (s.sources, s.registers),
      ),
    ),
  ),
)
