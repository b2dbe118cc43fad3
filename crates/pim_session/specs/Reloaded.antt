-- What stands before a router when the router is put under another configuration.
use Rattle.std.{specs.Prelude.{ℕ, Option, None, Some}}
use Rattle.igmp_older.{specs.{Resized.{resized, resized_list}, declared.{router.ResponseTimes.ResponseTimes, setting.QueryVersion.QueryVersion}}}
use Rattle.pim_model.{specs.State.{State, iface_count}}
use Rattle.pim_session.{specs.Front.{Front, times_in}}

-- The settings of the first so many interfaces, with what was heard there, and other times; an interface that is added
-- hears nobody, and queries in version 3.
abbrev pub front_resized : ℕ → ℕ → ResponseTimes → Front → Front
front_resized limit count times f = record {
  present = resized limit count f.present;
  versions = resized_list count QueryVersion.Three f.versions;
  times = times;
}

-- What stands before a router after it was put under another configuration, by the state that this leaves.
unfoldable pub front_reloaded : State → Option Front → Option Front
front_reloaded t None = None
front_reloaded t (Some f) = Some (front_resized t.settings.limit (iface_count t) (times_in t) f)
