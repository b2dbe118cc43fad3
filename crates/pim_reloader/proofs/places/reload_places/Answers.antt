use Rattle.std.proofs.Common.{List, [], ap, map, rules, ◌++◌, ◌∙◌, ℕ}
use Rattle.law_states.{specs.{Placing.{index_of, leaving_on, moved, number_at}, Reload.config_of}}
use Rattle.pim_types.{specs.declared.name.SourceGroup.SourceGroup}
use Rattle.pim_fanout.{specs.Named.keys_of}
use Rattle.pim_reloader.{specs.Listing.sources_in, proofs.{ByPlaces.{are_ready, comes, few_interfaces, few_new_order, few_places, halfway_is_under, orders_are, sent_by_places, whole_by_places, written_over}, Renewed.lists_facts}}
use Rattle.pim_reloader.proofs.places.reload_places.Goals as goal

pub of-requires : goal.of-requires
of-requires c = few_places c.args.core.now.world _ c.args.places.now c.requires.places (rw c.interfaces.ensures at c.proof_few.ensures)

pub go_between-requires-clause-ready : goal.go_between-requires-clause-ready
go_between-requires-clause-ready c =
    are_ready c.args.core.now.world c.args.next.now c.args.places.now c.in_ok-orders.orders (orders_are c.args.places.now c.count.result c.args.next.now c.interfaces-2.result.now c.in_ok-orders.orders c.interfaces-2.ensures c.count.ensures.count c.in_ok-orders.ensures)
    c.requires.places c.requires.accepted c.requires.next_accepted (rw c.interfaces.ensures at c.proof_few.ensures) (few_interfaces c.count.result c.args.next.now c.interfaces-2.result.now c.interfaces-2.ensures c.count.ensures.count c.count.ensures.within)

pub move_facts-requires-clause-lead : goal.move_facts-requires-clause-lead
move_facts-requires-clause-lead c =
    rw c.as_slice-order.ensures.value
    (comes c.args.core.now.world c.args.next.now c.args.places.now c.in_ok-orders.orders (orders_are c.args.places.now c.count.result c.args.next.now c.interfaces-2.result.now c.in_ok-orders.orders c.interfaces-2.ensures c.count.ensures.count c.in_ok-orders.ensures)
    c.requires.places c.requires.accepted c.requires.next_accepted (rw c.interfaces.ensures at c.proof_few.ensures) (few_interfaces c.count.result c.args.next.now c.interfaces-2.result.now c.interfaces-2.ensures c.count.ensures.count c.count.ensures.within)
    c.go_between.new.core.world
    (halfway_is_under c.args.core.now.world c.args.next.now c.args.places.now c.in_ok-orders.orders (orders_are c.args.places.now c.count.result c.args.next.now c.interfaces-2.result.now c.in_ok-orders.orders c.interfaces-2.ensures c.count.ensures.count c.in_ok-orders.ensures)
    c.requires.places c.requires.accepted c.requires.next_accepted (rw c.interfaces.ensures at c.proof_few.ensures) (few_interfaces c.count.result c.args.next.now c.interfaces-2.result.now c.interfaces-2.ensures c.count.ensures.count c.count.ensures.within)
    c.args.draw c.go_between.new.core.world c.in_ok-sent.ensures.state))

pub leave_by_indices-requires : goal.leave_by_indices-requires
leave_by_indices-requires c =
    rw c.as_slice-order.ensures.value
    (few_new_order c.args.core.now.world c.args.next.now c.args.places.now c.in_ok-orders.orders (orders_are c.args.places.now c.count.result c.args.next.now c.interfaces-2.result.now c.in_ok-orders.orders c.interfaces-2.ensures c.count.ensures.count c.in_ok-orders.ensures)
    c.requires.places c.requires.accepted c.requires.next_accepted (rw c.interfaces.ensures at c.proof_few.ensures) (few_interfaces c.count.result c.args.next.now c.interfaces-2.result.now c.interfaces-2.ensures c.count.ensures.count c.count.ensures.within))

pub returns : goal.returns
returns c = record {
  state = whole_by_places c.args.core.now.world c.args.next.now c.args.places.now c.in_ok-orders.orders (orders_are c.args.places.now c.count.result c.args.next.now c.interfaces-2.result.now c.in_ok-orders.orders c.interfaces-2.ensures c.count.ensures.count c.in_ok-orders.ensures)
      c.requires.places c.requires.accepted c.requires.next_accepted (rw c.interfaces.ensures at c.proof_few.ensures) (few_interfaces c.count.result c.args.next.now c.interfaces-2.result.now c.interfaces-2.ensures c.count.ensures.count c.count.ensures.within)
      c.args.draw c.go_between.new.core.world c.move_facts.new.core.world c.in_ok-sent.ensures.state
      (c.in_ok-last.ensures.leads.state
      ∙ ap (λ (ns : List ℕ). (moved c.go_between.new.core.world ns (config_of c.args.next.now) [] c.args.draw).0) c.as_slice-order.ensures.value);
  sent = sent_by_places c.args.core.now.world c.args.next.now c.args.places.now c.in_ok-orders.orders (orders_are c.args.places.now c.count.result c.args.next.now c.interfaces-2.result.now c.in_ok-orders.orders c.interfaces-2.ensures c.count.ensures.count c.in_ok-orders.ensures)
      c.requires.places c.requires.accepted c.requires.next_accepted (rw c.interfaces.ensures at c.proof_few.ensures) (few_interfaces c.count.result c.args.next.now c.interfaces-2.result.now c.interfaces-2.ensures c.count.ensures.count c.count.ensures.within)
      c.args.draw c.go_between.new.core.world c.move_facts.new.core.world c.in_ok-sent.ensures.state c.in_ok-sent.sent.items
      c.in_ok-last.last.items _ c.append.new.self.items _ c.in_ok-sent.ensures.sent
      (c.in_ok-last.ensures.leads.sent
      ∙ ap (λ (ns : List ℕ). (moved c.go_between.new.core.world ns (config_of c.args.next.now) [] c.args.draw).1) c.as_slice-order.ensures.value)
      (written_over c.in_ok-last.last.len c.in_ok-last.last.items c.as_mut_slice.result.now c.leave_by_indices.new.sent
      (leaving_on (index_of c.as_slice-order.result.now)) c.as_mut_slice.ensures.value (search rules) c.leave_by_indices.ensures
      ∙ ap (λ (ns : List ℕ). map (leaving_on (index_of ns)) c.in_ok-last.last.items) c.as_slice-order.ensures.value)
      c.in_ok-append.ensures.items
      (written_over c.append.new.self.len c.append.new.self.items c.as_mut_slice-2.result.now c.leave_by_numbers.new.sent
      (leaving_on (number_at c.as_slice.result.now)) c.as_mut_slice-2.ensures.value (search rules) c.leave_by_numbers.ensures
      ∙ ap (λ (ns : List ℕ). map (leaving_on (number_at ns)) c.append.new.self.items) c.as_slice.ensures.value);
  shown = c.in_ok-last.ensures.leads.shown;
  listed = lists_facts c.args.core.now.world c.go_between.new.core.world c.move_facts.new.core.world
      (keys_of c.add_sources.new.names.items) [] c.move_facts.new.core.cache.changed
      (c.in_ok-add_sources.ensures
      ∙ ap (λ (ns : List SourceGroup). keys_of ns ++ sources_in c.args.core.now.world) c.new-names.ensures.items)
      c.in_ok-last.ensures.listed;
  once = c.in_ok-last.ensures.once;
  disturbed = c.in_ok-last.ensures.disturbed;
  replaced = c.in_ok-last.ensures.replaced;
  fault = tt;
}
