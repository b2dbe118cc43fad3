-- What stands before a router when the router is put under another configuration by a map of places.
use Rattle.std.{specs.Prelude.{Option, None, Some, ℕ}}
use Rattle.igmp_older.{specs.{Placed.{NewPlaces, placed, placed_list}, declared.{router.ResponseTimes.ResponseTimes, setting.QueryVersion.QueryVersion}}}
use Rattle.pim_model.{specs.State.{State, iface_count}}
use Rattle.pim_session.{specs.Front.{Front, times_in}}

-- The settings of the old interfaces, with what was heard there, go where these go, of so many, and the times are other
-- ones; an interface to which none goes hears nobody, and queries in version 3.
abbrev pub front_placed : ℕ → ℕ → NewPlaces → ResponseTimes → Front → Front
front_placed limit count places times f = record {
  present = placed limit count places f.present;
  versions = placed_list count places QueryVersion.Three f.versions;
  times = times;
}

-- What stands before a router after a reload by a map of places, by the state that this leaves.
unfoldable pub front_reloaded_by : NewPlaces → State → Option Front → Option Front
front_reloaded_by places t None = None
front_reloaded_by places t (Some f) = Some (front_placed t.settings.limit (iface_count t) places (times_in t) f)
