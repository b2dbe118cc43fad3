-- The messages upstream, by what was opened: the touched groups and sources as they were before the change.
use Rattle.std.{specs.Prelude.{List, [], if◌then◌else◌, ℕ, ◌++◌, ◌||◌}}
use Rattle.pim_types.{specs.{Keys.{rpt_key, source_key, star_key}, declared.upstream.{SourceView.SourceView, StarView.StarView}}}
use Rattle.pim_model.{specs.{Messages.Message, Querier.each_in_turn, State.State, Upstream.{Told, rpt_told, source_told, source_view, star_told, star_view, with_join_timer, with_override_timer}}}
use Rattle.pim_views.{specs.{Openings.has_facts, declared.opening.{GroupOpening.GroupOpening, SourceOpening.SourceOpening}}}

-- (*,G)
abbrev pub star_changed : State → ℕ → ℕ → StarView → Told
star_changed a w g old = star_told a w g old (star_view a g)

-- (S,G) and (S,G,rpt); a is the state after the change, and the timers move in s
unfoldable pub source_moved : State → ℕ → ℕ → State → ℕ → SourceView → State × List Message
source_moved a w g s src old =
    let new : SourceView = source_view a g src in
    let joins : Told = source_told a w g src old new in
    let prunes : Told = rpt_told a w g src old new in (
      with_override_timer (with_join_timer s (source_key 0 g src) joins.timer) (rpt_key 0 g src) prunes.timer,
      joins.messages ++ prunes.messages,
    )

-- The messages upstream of a source; there are none where it has no facts before and after.
unfoldable pub source_step : State → ℕ → ℕ → State → SourceOpening → State × List Message
source_step a w g s before =
    if before.has_facts || has_facts a g before.source.bits
    then source_moved a w g s before.source.bits before.view else (s, [])

-- what is sent upstream of an opened group and its opened sources, and what becomes of their timers
unfoldable pub group_step : State → ℕ → State → GroupOpening → State × List Message
group_step a w s before =
    let g : ℕ = before.group.bits in
    let star : Told = star_changed a w g before.star in
    let first : State = with_join_timer s (star_key 0 g) star.timer in
    let later : State × List Message = each_in_turn (source_step a w g) first before.sources in
    (later.0, star.messages ++ later.1)

-- what is sent upstream of all opened groups, one after the other
unfoldable pub upstream_by : List GroupOpening → State → ℕ → State × List Message
upstream_by opening a w = each_in_turn (group_step a w) a opening
