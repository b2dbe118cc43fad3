use Rattle.std.{proofs.{Common.{◌≡◌, ◌≤◌, nat_le, true, subst, sym, ap, ◌∙◌, arith}, lemmas.Bool.Decides.nat_tests}}
use Rattle.pim_bootstrap.{specs.Bootstraps.Bootstrap}
use Rattle.pim_bsr.{specs.{Hearing.after_message, Sound.IsSoundTable, Table.{Table, kept_count, room, room_beside, with_message}}, proofs.Sounder.learned_sound}
use Rattle.pim_bsr.proofs.listener.Listener.take.Goals as goal

pub accept-requires-clause-learned : goal.accept-requires-clause-learned
unfolding after_message
accept-requires-clause-learned g c = c.in_ok-table.ensures

pub accept-requires-clause-sound : goal.accept-requires-clause-sound
accept-requires-clause-sound g c =
    let now = (g.S.Surroundings.around c.args.around.now).present in
    let known = c.args.self.now in
    let m = c.args.arrived.now.message in
    let is : c.in_ok-table.table ≡ with_message now known.table m =
    c.in_ok-table.ensures ∙ ap (λ (n : Bootstrap). with_message now known.table n) c.message-message.ensures in
    let tested : nat_le (kept_count (with_message now known.table m)) (room known) ≡ true =
    ap (λ (t : Table). nat_le (kept_count t) (room known)) (sym is) ∙ sym c.has_room.ensures.room ∙ c.if-has_room.true in
    let fits : kept_count (with_message now known.table m) ≤ room_beside known.limit known.static =
    grind (arith, nat_tests, tested) in
    subst (λ (t : Table). IsSoundTable known.static known.limit t) (sym is)
    (learned_sound now known.static known.limit known.table c.args.arrived.now.bytes m c.bytes-bytes.ensures.read c.has_room.ensures.sound fits)
