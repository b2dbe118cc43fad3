-- A record read from the front of bytes.
use Rattle.std.{specs.Prelude.{Err, List, Ok, [], drop, if◌then◌else◌, length, nat_lt, take, ℕ, ◌==◌, ◌∷◌}}
use Rattle.pim_ip.{specs.declared.addr.Addr.Addr}
use Rattle.pim_types.{specs.declared.{config.{IfaceId.IfaceId, InterfaceConfig.InterfaceConfig, Route.Route, RpCandidate.RpCandidate, RpRange.RpRange, Settings.Settings}, event.EventKind.EventKind}}
use Rattle.pim_saved.{specs.{Crc.crc32, Reading.{Reader, address_at, candidate_at, iface_at, in_turn, interface_at, list_at, made, moment_at, range_at, route_at, settings_at, word_at, ◌>>=◌}, declared.refusal.SavedRefusal.SavedRefusal}}
use Rattle.pim_anycast.{specs.declared.set.RpSet.RpSet}
use Rattle.pim_saver.{specs.{Records.{Call, Guard, Happened, Hosts, Kept, Placed, Record, Reloaded, Seen, Sets, Version, front_text}, declared.answered.Answered.Answered}}

abbrev pub bytes_of_length : ℕ → Reader (List ℕ)
bytes_of_length n bytes = if nat_lt (length bytes) n then Err SavedRefusal.CutShort else Ok (take n bytes, drop n bytes)

abbrev pub bytes_at : Reader (List ℕ)
bytes_at bytes = moment_at bytes >>= λ n. bytes_of_length n.0 n.1

-- an event of a draw and of what it brings
abbrev pub drawn : {A : Type 0} → (A → EventKind) → ℕ × A → Call
drawn kind p = Happened (record { draw = p.0; kind = kind p.1 })

abbrev pub event_at : {A : Type 0} → (A → EventKind) → Reader A → Reader Call
event_at kind what bytes = made (drawn kind) (in_turn word_at what) bytes

-- a draw and a configuration
abbrev pub Configured : Type 0
Configured = ℕ × (Settings × (List InterfaceConfig × (List Addr × (List Route × List RpRange))))

-- a draw, a configuration and places
abbrev pub PlacedConfigured : Type 0
PlacedConfigured = ℕ × (Settings × (List InterfaceConfig × (List Addr × (List Route × (List RpRange × List ℕ)))))

-- a set of RPs that share an address
abbrev pub rp_set_at : Reader RpSet
rp_set_at bytes =
    made (λ (p : Addr × (Addr × List Addr)). record { shared = p.0; own = p.1.0; others = p.1.1 })
    (in_turn address_at (in_turn address_at (list_at address_at))) bytes

-- each kind of call: its letter, and what is behind it
abbrev pub kinds : List (ℕ × Reader Call)
kinds =
    (97, event_at (λ (n : ℕ). EventKind.Advance n) moment_at)
    ∷ (102, event_at (λ (p : IfaceId × List ℕ). EventKind.Frame p.0 p.1) (in_turn iface_at bytes_at))
    ∷ (117, event_at (λ (bytes : List ℕ). EventKind.Unicast bytes) bytes_at)
    ∷ (43, event_at (λ (i : IfaceId). EventKind.Up i) iface_at)
    ∷ (45, event_at (λ (i : IfaceId). EventKind.Down i) iface_at)
    ∷ (114, event_at (λ (routes : List Route). EventKind.Routes routes) (list_at route_at))
    ∷ (103, event_at (λ (ranges : List RpRange). EventKind.Rps ranges) (list_at range_at))
    ∷ (104, event_at (λ (candidates : List RpCandidate). EventKind.RpCandidates candidates) (list_at candidate_at))
    ∷ (99, made (λ (p : Configured). Reloaded p.0 p.1.0 p.1.1.0 p.1.1.1.0 p.1.1.1.1.0 p.1.1.1.1.1) (in_turn word_at (in_turn settings_at (in_turn (list_at interface_at) (in_turn (list_at address_at) (in_turn (list_at route_at) (list_at range_at)))))))
    ∷ (109, made (λ (p : PlacedConfigured). Placed p.0 p.1.0 p.1.1.0 p.1.1.1.0 p.1.1.1.1.0 p.1.1.1.1.1.0 p.1.1.1.1.1.1) (in_turn word_at (in_turn settings_at (in_turn (list_at interface_at) (in_turn (list_at address_at) (in_turn (list_at route_at) (in_turn (list_at range_at) (list_at word_at))))))))
    ∷ (115, made (λ (p : ℕ × (IfaceId × (Addr × Addr))). Seen p.0 p.1.0 p.1.1.0 p.1.1.1) (in_turn word_at (in_turn iface_at (in_turn address_at address_at))))
    ∷ (107, made (λ (p : Addr × (Addr × ℕ)). Kept p.0 p.1.0 p.1.1) (in_turn address_at (in_turn address_at moment_at)))
    ∷ (111, made (λ (p : IfaceId × ℕ). Hosts p.0 p.1) (in_turn iface_at word_at))
    ∷ (113, made (λ (p : IfaceId × ℕ). Version p.0 p.1) (in_turn iface_at word_at))
    ∷ (100, made (λ (n : ℕ). Guard n) word_at)
    ∷ (121, made (λ (sets : List RpSet). Sets sets) (list_at rp_set_at))
    ∷ []

abbrev pub by_letter : List (ℕ × Reader Call) → ℕ → Reader Call
by_letter [] letter bytes = Err SavedRefusal.OutOfRange
by_letter (kind ∷ rest) letter bytes = if letter == kind.0 then kind.1 bytes else by_letter rest letter bytes

abbrev pub call_at : Reader Call
call_at [] = Err SavedRefusal.CutShort
call_at (letter ∷ bytes) = by_letter kinds letter bytes

abbrev pub answered_at : Reader Answered
answered_at bytes = made (λ (p : ℕ × ℕ). record { answer = p.0; sum = p.1 }) (in_turn word_at word_at) bytes

-- a record without its sum
unfoldable pub front_at : Reader Record
front_at bytes = made (λ (p : Call × Answered). record { call = p.0; answered = p.1 }) (in_turn call_at answered_at) bytes

-- behind a record is its sum
abbrev pub summed_at : Record → Reader Record
summed_at r bytes =
    word_at bytes >>= λ w. if w.0 == crc32 (front_text r) then Ok (r, w.1) else Err SavedRefusal.Damaged

unfoldable pub record_at : Reader Record
record_at bytes = front_at bytes >>= λ r. summed_at r.0 r.1
