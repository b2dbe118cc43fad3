use Rattle.std.{proofs.Common.{ap, map, sym, ◌∙◌}}
use Rattle.pim_model.{specs.Upstream.groups_of}
use Rattle.pim_types.{specs.Keys.group_in}
use Rattle.pim_store.{specs.PimTables.stored_keys}
use Rattle.pim_state.{specs.Groups.{gathered, numbers_of}, proofs.{Gathered.put_in_order, GatheredSources.{next_number, no_number}, Gathering.numbers_inserted}}
use Rattle.igmp_membership.{proofs.Found.numbers_rise}
use Rattle.pim_state.proofs.groups.gather_stored.Goals as goal

pub loop-group-init : goal.loop-group-init
loop-group-init c =
    ap (λ ns. gathered ns (numbers_of c.args.found.now.entries))
    (c.into_iter-group-iterator.ensures.into_iter_gives ∙ c.groups-group-items.ensures)

pub loop-group-preserved : goal.loop-group-preserved
loop-group-preserved c =
    next_number c.loop-group.group-iterator c.next.new.self c.in-Some.group.bits _ _ c.in-Some.ensures.steps
    (ap (λ es. numbers_of es) c.in_ok-insert.ensures.entries
    ∙ numbers_inserted c.in-Some.group _ c.loop-group.found.entries)
    ∙ c.loop-group.invariant

pub returns : goal.returns
unfolding groups_of
returns c =
    sym (no_number c.loop-group.group-iterator _ c.in-None.ensures.steps.0) ∙ c.loop-group.invariant
    ∙ put_in_order (map group_in (stored_keys c.args.store.now)) (numbers_of c.args.found.now.entries)
    (numbers_rise c.args.found.now.entries c.len.ensures.ordered)
