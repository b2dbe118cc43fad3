-- What a new setting of an interface leaves of the settings.
use Rattle.std.{proofs.Common.{◌≡◌, ℕ, Bool, true, false, cond, refl}}
use Rattle.igmp_older.{specs.{Presence.{Present, heard_on, hosts_on, is_nobody, left, set_on}, declared.setting.OlderHosts.OlderHosts}}

either : (b : Bool) (i : ℕ) (hosts : OlderHosts) (p : Present) → (cond b (heard_on i hosts p) (left i p)).hosts ≡ p.hosts
unfolding heard_on left
either true i hosts p = refl
either false i hosts p = refl

pub settings_stay : (i : ℕ) (hosts : OlderHosts) (p : Present) → (set_on i hosts p).hosts ≡ p.hosts
unfolding set_on
settings_stay i hosts p = either (is_nobody (hosts_on p i)) i hosts p
