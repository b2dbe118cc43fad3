use Rattle.std.{proofs.Common.ap}
use Rattle.pim_saved.{specs.Text.{address_text, interface_text, list_text, range_text, route_text, settings_text}}
use Rattle.pim_saver.{proofs.RecordedParts.{seven_fields, with_same}}
use Rattle.pim_saver.proofs.recorded_writing.write_placed.Goals as goal

pub returns-clause-ok : goal.returns-clause-ok
returns-clause-ok c =
    seven_fields _ _ _ _ _ _ _ _ _ _ _ _ _ _ _ _ _ _ _ c.in_ok-push.ensures.items c.in_ok-write.ensures.ok
    (with_same _ _ _ _ c.in_ok-write-2.ensures.ok (ap settings_text c.settings_in.ensures))
    (with_same _ _ _ _ c.in_ok-write_list.ensures.ok (ap (list_text interface_text) c.as_slice.ensures))
    (with_same _ _ _ _ c.in_ok-write_list-2.ensures.ok (ap (list_text address_text) c.as_slice-2.ensures))
    (with_same _ _ _ _ c.in_ok-write_list-3.ensures.ok (ap (list_text route_text) c.as_slice-3.ensures))
    (with_same _ _ _ _ c.in_ok-write_list-4.ensures.ok (ap (list_text range_text) c.as_slice-4.ensures))
    c.in_ok-write_list-5.ensures.ok c.in_ok-write-3.ensures.ok
