use Rattle.std.proofs.Common.{List, ap, ◌∙◌, ℕ}
use Rattle.pim_model.{specs.State.opening}
use Rattle.law_states.{specs.{Placing.{in_order, resubnetted}, Reload.config_of}}
use Rattle.pim_reloader.{proofs.ByPlaces.{begun_few, begun_rests, configured_is, half_sent, halved, next_few, old_lead, opened_accepted}}
use Rattle.pim_reloader.proofs.places.go_between.Goals as goal

pub world_in_order-requires-clause-few : goal.world_in_order-requires-clause-few
world_in_order-requires-clause-few c = rw c.as_slice.ensures.value c.requires.ready.few_old

pub world_in_order-requires-clause-accepted : goal.world_in_order-requires-clause-accepted
world_in_order-requires-clause-accepted c = rw c.as_slice.ensures.value c.requires.ready.old

pub world_in_order-requires-2-clause-few : goal.world_in_order-requires-2-clause-few
world_in_order-requires-2-clause-few c = rw c.as_slice-2.ensures.value c.requires.ready.few_new

pub world_in_order-requires-2-clause-accepted : goal.world_in_order-requires-2-clause-accepted
world_in_order-requires-2-clause-accepted c = rw c.as_slice-2.ensures.value c.requires.ready.new

pub move_facts-requires-clause-accepted : goal.move_facts-requires-clause-accepted
move_facts-requires-clause-accepted c =
    opened_accepted _ c.in_ok-old.old c.in_ok-old.ensures.opens (rw c.as_slice.ensures.value c.requires.ready.old)

pub move_facts-requires-clause-lead : goal.move_facts-requires-clause-lead
move_facts-requires-clause-lead c =
    old_lead c.args.core.now.world c.in_ok-old.old c.in_ok-new.new c.args.orders.now (config_of c.args.next.now) c.args.draw
    c.as_slice-places.result.now c.as_slice-3.result.now
    (c.in_ok-old.ensures.opens ∙ ap (λ (ns : List ℕ). opening (in_order ns (config_of c.args.core.now.world))) c.as_slice.ensures.value)
    (c.in_ok-new.ensures.opens ∙ ap (λ (ns : List ℕ). opening (in_order ns (config_of c.args.next.now))) c.as_slice-2.ensures.value)
    c.as_slice-places.ensures.value
    (c.as_slice-3.ensures.value ∙ c.in_ok-apart.ensures
    ∙ (λ j. resubnetted c.args.orders.now.kept (configured_is c.in_ok-old.old _ _ c.interfaces.ensures c.configured.ensures j)
    (configured_is c.in_ok-new.new _ _ c.interfaces-2.ensures c.configured-2.ensures j)))
    c.requires.ready.lead

pub go_on-requires-clause-rest : goal.go_on-requires-clause-rest
go_on-requires-clause-rest c = record {
  rest = begun_rests c.args.core.now.world c.in_ok-old.old c.in_ok-new.new c.args.orders.now (config_of c.args.next.now) c.args.draw
      c.as_slice-places.result.now c.as_slice-3.result.now
      (c.in_ok-old.ensures.opens ∙ ap (λ (ns : List ℕ). opening (in_order ns (config_of c.args.core.now.world))) c.as_slice.ensures.value)
      (c.in_ok-new.ensures.opens ∙ ap (λ (ns : List ℕ). opening (in_order ns (config_of c.args.next.now))) c.as_slice-2.ensures.value)
      c.as_slice-places.ensures.value
      (c.as_slice-3.ensures.value ∙ c.in_ok-apart.ensures
      ∙ (λ j. resubnetted c.args.orders.now.kept (configured_is c.in_ok-old.old _ _ c.interfaces.ensures c.configured.ensures j)
      (configured_is c.in_ok-new.new _ _ c.interfaces-2.ensures c.configured-2.ensures j)))
      c.move_facts.new.core.world c.move_facts.new.core.world c.in_ok-sent.ensures.leads.state c.requires.ready.old
      c.requires.rest.rest.settled;
  shown = c.in_ok-sent.ensures.leads.shown;
}

pub go_on-requires-clause-few : goal.go_on-requires-clause-few
go_on-requires-clause-few c =
    begun_few c.args.core.now.world c.in_ok-old.old c.in_ok-new.new c.args.orders.now (config_of c.args.next.now) c.args.draw
    c.as_slice-places.result.now c.as_slice-3.result.now
    (c.in_ok-old.ensures.opens ∙ ap (λ (ns : List ℕ). opening (in_order ns (config_of c.args.core.now.world))) c.as_slice.ensures.value)
    (c.in_ok-new.ensures.opens ∙ ap (λ (ns : List ℕ). opening (in_order ns (config_of c.args.next.now))) c.as_slice-2.ensures.value)
    c.as_slice-places.ensures.value
    (c.as_slice-3.ensures.value ∙ c.in_ok-apart.ensures
    ∙ (λ j. resubnetted c.args.orders.now.kept (configured_is c.in_ok-old.old _ _ c.interfaces.ensures c.configured.ensures j)
    (configured_is c.in_ok-new.new _ _ c.interfaces-2.ensures c.configured-2.ensures j)))
    c.move_facts.new.core.world c.move_facts.new.core.world c.in_ok-sent.ensures.leads.state c.requires.ready.few

pub go_on-requires-clause-within : goal.go_on-requires-clause-within
go_on-requires-clause-within c =
    next_few c.args.core.now.world c.in_ok-old.old c.in_ok-new.new c.args.orders.now (config_of c.args.next.now) c.args.draw
    c.as_slice-places.result.now c.as_slice-3.result.now
    (c.in_ok-old.ensures.opens ∙ ap (λ (ns : List ℕ). opening (in_order ns (config_of c.args.core.now.world))) c.as_slice.ensures.value)
    (c.in_ok-new.ensures.opens ∙ ap (λ (ns : List ℕ). opening (in_order ns (config_of c.args.next.now))) c.as_slice-2.ensures.value)
    c.as_slice-places.ensures.value
    (c.as_slice-3.ensures.value ∙ c.in_ok-apart.ensures
    ∙ (λ j. resubnetted c.args.orders.now.kept (configured_is c.in_ok-old.old _ _ c.interfaces.ensures c.configured.ensures j)
    (configured_is c.in_ok-new.new _ _ c.interfaces-2.ensures c.configured-2.ensures j)))
    c.requires.ready.kept

pub returns : goal.returns
returns c = record {
  state = halved c.args.core.now.world c.in_ok-old.old c.in_ok-new.new c.args.orders.now (config_of c.args.next.now) c.args.draw
      c.as_slice-places.result.now c.as_slice-3.result.now
      (c.in_ok-old.ensures.opens ∙ ap (λ (ns : List ℕ). opening (in_order ns (config_of c.args.core.now.world))) c.as_slice.ensures.value)
      (c.in_ok-new.ensures.opens ∙ ap (λ (ns : List ℕ). opening (in_order ns (config_of c.args.next.now))) c.as_slice-2.ensures.value)
      c.as_slice-places.ensures.value
      (c.as_slice-3.ensures.value ∙ c.in_ok-apart.ensures
      ∙ (λ j. resubnetted c.args.orders.now.kept (configured_is c.in_ok-old.old _ _ c.interfaces.ensures c.configured.ensures j)
      (configured_is c.in_ok-new.new _ _ c.interfaces-2.ensures c.configured-2.ensures j)))
      c.move_facts.new.core.world c.go_on.new.core.world c.in_ok-sent.ensures.leads.state c.in_ok-more.ensures.state;
  sent = half_sent c.args.core.now.world c.in_ok-old.old c.in_ok-new.new c.args.orders.now (config_of c.args.next.now) c.args.draw
      c.as_slice-places.result.now c.as_slice-3.result.now
      (c.in_ok-old.ensures.opens ∙ ap (λ (ns : List ℕ). opening (in_order ns (config_of c.args.core.now.world))) c.as_slice.ensures.value)
      (c.in_ok-new.ensures.opens ∙ ap (λ (ns : List ℕ). opening (in_order ns (config_of c.args.next.now))) c.as_slice-2.ensures.value)
      c.as_slice-places.ensures.value
      (c.as_slice-3.ensures.value ∙ c.in_ok-apart.ensures
      ∙ (λ j. resubnetted c.args.orders.now.kept (configured_is c.in_ok-old.old _ _ c.interfaces.ensures c.configured.ensures j)
      (configured_is c.in_ok-new.new _ _ c.interfaces-2.ensures c.configured-2.ensures j)))
      c.move_facts.new.core.world c.go_on.new.core.world c.in_ok-sent.ensures.leads.state c.in_ok-sent.sent.items
      c.in_ok-more.more.items c.append.new.self.items c.in_ok-sent.ensures.leads.sent c.in_ok-more.ensures.sent
      c.in_ok-append.ensures.items;
  shown = c.in_ok-more.ensures.shown;
  fault = tt;
}
