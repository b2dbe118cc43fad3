use Rattle.std.proofs.Common.{◌∙◌, ap}
use Rattle.pim_session.{proofs.Sourcing.{connected_told, is_tree_connected}}
use Rattle.pim_session.proofs.sources.is_connected.Goals as goal

pub returns : goal.returns
returns c =
    c.has_connected_path.ensures
    ∙ (ap is_tree_connected c.source_tree.ensures
    ∙ connected_told c.args.router.now.standing c.args.name.group.bits c.args.name.source.bits)
