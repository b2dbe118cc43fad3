use Rattle.pim_saved.{specs.Text.{ground_text, interface_text, list_text, moment_text, range_text, route_text, settings_text}}
use Rattle.pim_saver.{proofs.Parts.five_parts}
use Rattle.pim_worlds.proofs.written.write_ground.Goals as goal

pub returns-clause-ok : goal.returns-clause-ok
unfolding ground_text
returns-clause-ok c =
    five_parts c.args.out.now.items (settings_text c.args.world.now.settings)
    (list_text interface_text c.args.world.now.configured.interfaces) (moment_text c.args.world.now.present)
    (list_text route_text c.args.world.now.routes) (list_text range_text c.args.world.now.ranges.static_ranges)
    c.write.new.out.items c.write_list.new.out.items c.write-2.new.out.items c.write_list-2.new.out.items
    c.write_list-3.new.out.items (rw c.settings.ensures.value at c.in_ok-write.ensures.ok)
    (rw (rw c.interfaces.ensures at c.configured.ensures) at c.in_ok-write_list.ensures.ok)
    (rw c.present.ensures.present at c.in_ok-write-2.ensures.ok)
    (rw c.routes.ensures at c.in_ok-write_list-2.ensures.ok) (rw c.static_ranges.ensures at c.in_ok-write_list-3.ensures.ok)
