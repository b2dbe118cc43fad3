use Rattle.std.{proofs.Common.{◌++◌, List, ap, map, ◌∙◌}, specs.List.flat_map}
use Rattle.pim_types.{specs.Keys.{group_in, source_key}}
use Rattle.pim_model.{specs.{Tables.ascending, Upstream.groups_of}}
use Rattle.pim_state.{specs.{Groups.{gathered, numbers_of}, Touches.concerned_keys}}
use Rattle.pim_views.{specs.Openings.{group_opening, opening_of, touched_sources}}
use Rattle.pim_fanout.{specs.{Before.{key_before, opened_sources}, declared.before.SourceBefore.SourceBefore}}
use Rattle.pim_fanout.proofs.before.gather_grouped.Goals as goal

pub returns-clause-opening : goal.returns-clause-opening
unfolding opening_of gathered groups_of ascending
returns-clause-opening c =
    let s = c.args.world.now in
    let touched = c.args.touched.now in
    c.new.ensures ∙ c.in_ok-groups.ensures.opened
    ∙ ap (map (group_opening s touched)) (c.in_ok-gather_touched.ensures
    ∙ ap (λ es. gathered (map group_in (concerned_keys s touched)) (numbers_of es)) c.new-groups.ensures.empty)

pub returns-clause-before : goal.returns-clause-before
unfolding opened_sources gathered groups_of ascending
returns-clause-before c =
    let s = c.args.world.now in
    let touched = c.args.touched.now in
    let all = flat_map (λ g. map (source_key 0 g) (touched_sources s touched g)) in
    rw c.from_vec.ensures (record {
      keys = c.in_ok-groups.ensures.keys
          ∙ ap (λ (xs : List SourceBefore). map key_before xs ++ all (numbers_of c.gather_touched.new.found.entries))
          c.new-before.ensures.items
          ∙ ap all (c.in_ok-gather_touched.ensures
          ∙ ap (λ es. gathered (map group_in (concerned_keys s touched)) (numbers_of es)) c.new-groups.ensures.empty);
      each = c.in_ok-groups.ensures.each;
    })
