use Rattle.std.{proofs.Common.{sym, ◌∙◌}}
use Rattle.pim_mrib.{proofs.{Hops.replaced_are_hops, Preferences.{accepted_are_preferred, replaced_are_preferred}}}
use Rattle.pim_mrib.proofs.mrib.Mrib.replace.Goals as goal

pub invariant_of-self-2 : goal.invariant_of-self-2
invariant_of-self-2 c = (
  replaced_are_preferred c.in_ok-replace.field-0 c.args.routes.now c.self.inside.routes c.replace.new.self
      c.in_ok-replace.ensures.new
      (accepted_are_preferred c.args.interfaces.now.configured c.args.routes.now
      (sym c.each_is_route.ensures ∙ c.if-not-each_is_route.false))
      c.self.invariant.0,
  replaced_are_hops c.in_ok-replace.field-0 c.args.routes.now c.self.inside.routes c.replace.new.self
      c.in_ok-hops.hops.keys c.in_ok-replace.ensures.new c.if-not-branch.false c.in_ok-hops.ensures,
  c.self.invariant.2,
)
