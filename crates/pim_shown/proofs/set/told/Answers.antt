use Rattle.std.{proofs.Common.{sym, ◌∙◌}}
use Rattle.pim_ifset.{proofs.Sets.{has_set_of, same_members}, specs.Members.set_of}
use Rattle.pim_shown.proofs.set.told.Goals as goal

pub returns : goal.returns
unfolding set_of
returns c test shown =
    same_members c.set_tunnel.new.self (set_of test c.args.tunnel)
    (λ q. c.set_tunnel.ensures.interfaces q ∙ c.without_tunnel-whole.ensures.interfaces q ∙ shown q
    ∙ sym (has_set_of test c.args.tunnel q)) c.set_tunnel.ensures.tunnel
