-- Null-Registers for sources on a router's own links. The DR of such a source registers it with the RP, and where it is the
-- RP itself no Register exists that could go to the others of the set.
use Rattle.std.{specs.{Option.option_map_or, Prelude.{Bool, List, None, Option, Some, [], ◌∷◌, false, filter, flat_map, if◌then◌else◌, is_some, map, nat_le, nat_lt, ℕ, ◌&&◌, ◌*◌, ◌+◌, ◌/◌}}}
use Rattle.pim_types.{specs.{Keys.{group_in, source_in, source_key}, declared.{config.RpTable.RpTable, fact.Key.Key, name.SourceGroup.SourceGroup, outcome.Emission.Emission}}}
use Rattle.pim_wire.{specs.Registers.null_register_text}
use Rattle.pim_model.{specs.{Judging.last_moment, Registers.is_dr_of_path, Sets.is_kept_alive, State.State, Tables.keys_in, Unicast.route, Writing.unicast_time_to_live}}
use Rattle.pim_anycast.{specs.{Sets.{set_for, to_others}, declared.set.RpSet.RpSet}}

-- I_am_DR(RPF_interface(S)) AND KeepaliveTimer(S,G) is running AND DirectlyConnected(S), as CouldRegister(S,G) (RFC 7761,
-- 4.4.1), whoever the RP is
unfoldable pub is_local : State → ℕ → ℕ → Bool
is_local s g src = option_map_or (is_dr_of_path s) (route s src) false && is_kept_alive s g src

-- the sources that are local, by the keys of their facts in their order
unfoldable pub local_keys : State → List Key
local_keys s = filter (λ k. is_local s (group_in k) (source_in k)) (keys_in s.sources)

-- the keys of named sources
abbrev pub keys_named : List SourceGroup → List Key
keys_named names = map (λ (n : SourceGroup). source_key 0 n.group.bits n.source.bits) names

-- the Null-Registers of a source, to the others of the set that shares RP(G)
unfoldable pub announced : List RpSet → RpTable → ℕ → ℕ → List Emission
announced sets ranges g src =
    option_map_or (λ set. to_others set unicast_time_to_live (null_register_text src g)) (set_for sets ranges g) []

-- a source of the group is announced, where it is local
unfoldable pub is_announced : List RpSet → RpTable → Bool → ℕ → Bool
is_announced sets ranges here g = here && is_some (set_for sets ranges g)

-- after a packet of a source, which was announced before it or wasn't, and is local then or isn't: at once, where it is
-- announced from then on
unfoldable pub announced_new : List RpSet → RpTable → (before here : Bool) → ℕ → ℕ → List Emission
announced_new sets ranges before here g src =
    if before then [] else (if here then announced sets ranges g src else [])

-- how often local sources are announced, in ms
-- here: as often as a DR sends Null-Registers, Register_Suppression_Time (RFC 7761, 4.11), well within Keepalive_Period
abbrev pub announcement_interval : ℕ
announcement_interval = 60000

-- an announcement is due where time passes from one timestamp to another: a multiple of the interval lies between them, or
-- is the later one
abbrev pub is_due : ℕ → ℕ → Bool
is_due before after = nat_lt (before / announcement_interval) (after / announcement_interval)

-- all sources of a list are announced
unfoldable pub announced_all : List RpSet → RpTable → List Key → List Emission
announced_all sets ranges keys = flat_map (λ k. announced sets ranges (group_in k) (source_in k)) keys

-- what leaves after time passed from one timestamp to another, where these sources are local then
unfoldable pub announced_due : List RpSet → RpTable → List Key → (before present : ℕ) → List Emission
announced_due sets ranges keys before present = if is_due before present then announced_all sets ranges keys else []

-- a timestamp, if it isn't too late for an event
abbrev pub if_possible : ℕ → Option ℕ
if_possible moment = if nat_le moment last_moment then Some moment else None

-- when announcements are due next: never without a set, else at the next multiple of the interval
unfoldable pub next_announcement : List RpSet → ℕ → Option ℕ
next_announcement [] present = None
next_announcement (set ∷ sets) present =
    if nat_lt last_moment present then None
    else if_possible ((present / announcement_interval + 1) * announcement_interval)
