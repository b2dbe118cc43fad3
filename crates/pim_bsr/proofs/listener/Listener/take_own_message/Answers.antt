use Rattle.std.{proofs.{Common.{◌≡◌, ◌≤◌, nat_le, true, subst, sym, ap, ◌∙◌, arith}, lemmas.Bool.Decides.nat_tests}}
use Rattle.pim_bsr.{specs.{Sound.IsSoundTable, Table.{Table, kept_count, room, room_beside, with_message}}, proofs.Sounder.learned_sound}
use Rattle.pim_bsr.proofs.listener.Listener.take_own_message.Goals as goal

pub invariant_of-self : goal.invariant_of-self
invariant_of-self c =
    let now = c.args.moment in
    let known = c.args.self.now in
    let m = c.args.message.now in
    let tested : nat_le (kept_count (with_message now known.table m)) (room known) ≡ true =
    ap (λ (t : Table). nat_le (kept_count t) (room known)) (sym c.in_ok-table.ensures) ∙ sym c.has_room.ensures.room ∙ c.if-has_room.true in
    let fits : kept_count (with_message now known.table m) ≤ room_beside known.limit known.static =
    grind (arith, nat_tests, tested) in
    let all : IsSoundTable known.static known.limit c.in_ok-table.table =
    subst (λ (t : Table). IsSoundTable known.static known.limit t) (sym c.in_ok-table.ensures)
    (learned_sound now known.static known.limit known.table c.args.bytes.now m c.requires.read c.has_room.ensures.sound fits) in
    rw (← c.self.view_is) at all
