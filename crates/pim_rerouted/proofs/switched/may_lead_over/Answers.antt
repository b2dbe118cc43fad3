use Rattle.std.{proofs.Common.{Bool, ap, sym, ◌||◌, ◌∙◌}, specs.{List.list_any, Prelude.slice_get}}
use Rattle.pim_ip.{specs.declared.addr.Prefix.Prefix}
use Rattle.pim_model.{specs.{State.InterfaceTable, Upstream.fact_keys}}
use Rattle.pim_state.{specs.Sources.is_within}
use Rattle.pim_rerouted.{proofs.InUse.with_config}
use Rattle.pim_rerouted.proofs.switched.may_lead_over.Goals as goal

pub returns-then-has_rp_in : goal.returns-then-has_rp_in
returns-then-has_rp_in c =
    let s = c.args.world.now in
    let subnet : Prefix = record { address = c.in-Some.config.address; length = c.in-Some.config.length } in
    c.if-has_rp_in.true
    ∙ sym (ap (λ (b : Bool). b || list_any (is_within subnet) (fact_keys s)) (sym c.has_rp_in.ensures ∙ c.if-has_rp_in.true))
    ∙ with_config s c.args.iface.number (sym c.has_route_over.ensures ∙ c.if-has_route_over.false) c.in-Some.config
    (ap (λ (t : InterfaceTable). slice_get t.configured.interfaces c.args.iface.number) (sym c.interfaces.ensures)
    ∙ sym c.config.ensures ∙ c.in-Some.is)

pub returns-else-has_rp_in : goal.returns-else-has_rp_in
returns-else-has_rp_in c =
    let s = c.args.world.now in
    let subnet : Prefix = record { address = c.in-Some.config.address; length = c.in-Some.config.length } in
    c.has_source_in.ensures
    ∙ sym (ap (λ (b : Bool). b || list_any (is_within subnet) (fact_keys s)) (sym c.has_rp_in.ensures ∙ c.if-has_rp_in.false))
    ∙ with_config s c.args.iface.number (sym c.has_route_over.ensures ∙ c.if-has_route_over.false) c.in-Some.config
    (ap (λ (t : InterfaceTable). slice_get t.configured.interfaces c.args.iface.number) (sym c.interfaces.ensures)
    ∙ sym c.config.ensures ∙ c.in-Some.is)
