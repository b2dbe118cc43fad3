-- What is saved of a session, and what stands before the router of a session that is made of it.
use Rattle.std.{specs.Prelude.{[], ◌∷◌, Option, None, Some}}
use Rattle.pim_model.{specs.{State.State, Tables.Table}}
use Rattle.igmp_older.{specs.Presence.with_rows}
use Rattle.igmp_older_saved.{specs.{Hosts.{resumed_rows, saved_hosts}, Text.Held, declared.host.HostRow.HostRow}}
use Rattle.pim_session.{specs.Front.{Front, unset}}

-- the rows of older hosts that are saved
abbrev pub hosts_of : State → Option Front → Table HostRow
hosts_of s None = []
hosts_of s (Some f) = saved_hosts s.group_records s.present (f.present).rows

-- what is saved: the router's state, and the rows of older hosts
abbrev pub saved_parts : State → Option Front → Held
saved_parts s front = record { hosts = hosts_of s front; state = s }

-- What stands before a router that was saved with these rows of older hosts: nothing where there are none; else they are
-- known, and nothing is set.
abbrev pub front_resumed : State → Table HostRow → Option Front
front_resumed s [] = None
front_resumed s (e ∷ more) =
    let f : Front = unset s in Some (record f { present = with_rows s.settings.limit (resumed_rows (e ∷ more)) f.present })
