use Rattle.pim_model.{specs.Downstream.{accepted_joins, accepted_prunes, is_used, joined_keys, pruned_keys}}
use Rattle.pim_downstream.{specs.Naming.is_counted, proofs.GroupKeys.{group_added, groups_made}}
use Rattle.pim_downstream.proofs.named.Named.of.Goals as goal

pub loop-group-preserved : goal.loop-group-preserved
loop-group-preserved c =
    let l = c.loop-group in record {
      joined =
          group_added (is_counted c.args.world.now) (λ g. g.joins) c.args.iface.number
          l.joined.items c.push_joined.new.keys.items _ c.in-Some.group l.group-iterator c.next.new.self
          c.in-Some.ensures.steps c.in_ok-push_joined.ensures l.invariant.joined;
      pruned =
          group_added is_used (λ g. g.prunes) c.args.iface.number
          l.pruned.items c.push_pruned.new.keys.items _ c.in-Some.group l.group-iterator c.next.new.self
          c.in-Some.ensures.steps c.in_ok-push_pruned.ensures l.invariant.pruned;
    }

pub returns-clause-joined : goal.returns-clause-joined
unfolding joined_keys accepted_joins
returns-clause-joined c =
    let l = c.loop-group in
    groups_made (is_counted c.args.world.now) (λ g. g.joins) c.args.iface.number l.joined.items _ l.group-iterator
    c.in-None.ensures.steps.0 l.invariant.joined

pub returns-clause-pruned : goal.returns-clause-pruned
unfolding pruned_keys accepted_prunes
returns-clause-pruned c =
    let l = c.loop-group in
    groups_made is_used (λ g. g.prunes) c.args.iface.number l.pruned.items _ l.group-iterator
    c.in-None.ensures.steps.0 l.invariant.pruned
