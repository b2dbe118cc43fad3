use Rattle.std.{proofs.Common.{◌<◌, ap, length, refl, subst, sym, ◌∙◌}}
use Rattle.pim_model.{specs.{Records.is_at_group, Tables.{drop_at, drop_where}}}
use Rattle.pim_tables.{proofs.Gone.{fewer, goes_anyhow, none_goes}}
use Rattle.igmp_membership.{proofs.Told.key_again}
use Rattle.igmp_membership.proofs.records.Records.drop_group.Goals as goal

pub loop-key-init : goal.loop-key-init
loop-key-init g c = refl

pub loop-key-smaller : goal.loop-key-smaller
loop-key-smaller g c =
    subst (λ t. length t < length c.loop-key.self)
    (sym (c.remove.ensures ∙ ap (drop_at c.loop-key.self) (key_again c.in-Some.key c.in-Some.ensures.kind)))
    (fewer (is_at_group c.args.iface.number c.args.group.bits) c.in-Some.key c.loop-key.self (sym c.in-Some.ensures.first))

pub loop-key-preserved : goal.loop-key-preserved
loop-key-preserved g c =
    let gone =
    c.remove.ensures ∙ ap (drop_at c.loop-key.self) (key_again c.in-Some.key c.in-Some.ensures.kind) in
    ap (drop_where (is_at_group c.args.iface.number c.args.group.bits)) gone
    ∙ goes_anyhow (is_at_group c.args.iface.number c.args.group.bits) c.in-Some.key c.loop-key.self (sym c.in-Some.ensures.first)
    ∙ c.loop-key.invariant

pub returns : goal.returns
returns g c =
    sym (none_goes (is_at_group c.args.iface.number c.args.group.bits) c.loop-key.self (sym c.in_default.ensures.first))
    ∙ c.loop-key.invariant
