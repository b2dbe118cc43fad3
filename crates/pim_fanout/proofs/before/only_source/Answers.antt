use Rattle.std.{proofs.Common.{◌==◌, ap, sym, ℕ, ◌∙◌}}
use Rattle.pim_fanout.{proofs.Alone.names_alone}
use Rattle.pim_fanout.proofs.before.only_source.Goals as goal

pub returns-else-eq : goal.returns-else-eq
returns-else-eq c =
    names_alone c.in_ok-key.key (ap (λ (n : ℕ). n == 0) (sym c.address.ensures) ∙ sym c.eq.ensures ∙ c.if-eq.false)
    c.args.touched.now c.name.result c.in_ok-key.ensures c.name.ensures.group c.name.ensures.source
