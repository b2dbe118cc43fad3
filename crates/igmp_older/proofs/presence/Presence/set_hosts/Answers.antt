use Rattle.std.{proofs.{Common.{◌≤◌, List, ap, length, slice_set, sym, ◌∙◌, arith}, lemmas.List.set_past}}
use Rattle.igmp_older.{specs.{Presence.{Present, set_on, with_hosts}, declared.setting.OlderHosts.OlderHosts}, proofs.SetHosts.settings_stay}
use Rattle.igmp_older.proofs.presence.Presence.set_hosts.Goals as goal

pub returns-then-place-len : goal.returns-then-place-len
unfolding with_hosts
returns-then-place-len c =
    ap (λ (p : Present). let q : Present = record p { hosts = slice_set p.hosts c.args.iface.number c.args.hosts } in q)
    (c.self.view_is ∙ c.clear.ensures)
    ∙ ap (λ (hosts : List OlderHosts). let q : Present = record (set_on c.args.iface.number c.args.hosts c.args.self.now) { hosts = slice_set hosts c.args.iface.number c.args.hosts } in q)
    (settings_stay c.args.iface.number c.args.hosts c.args.self.now)

pub returns-else-place-len : goal.returns-else-place-len
unfolding with_hosts
returns-else-place-len c =
    let same = settings_stay c.args.iface.number c.args.hosts c.args.self.now in
    let past : length c.args.self.now.hosts ≤ c.args.iface.number = omega (arith, c.len.ensures, c.if-place-len.false, ap (λ (p : Present). length p.hosts) (c.self.view_is ∙ c.clear.ensures), ap (λ (hosts : List OlderHosts). length hosts) same) in
    c.clear.ensures ∙ ap (λ (hosts : List OlderHosts). let p : Present = record (set_on c.args.iface.number c.args.hosts c.args.self.now) { hosts = hosts } in p)
    (same ∙ sym (set_past c.args.self.now.hosts c.args.iface.number c.args.hosts past))
