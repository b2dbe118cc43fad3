-- Bytes read as a state from left to right, with the first fault that is met.
use Rattle.std.{specs.{Int.{Width, byte_len, from_be_bytes, w16, w32, w64}, Option.option_map_or, Ordering.is_lt, Prelude.{Bool, Err, List, None, Ok, Option, Result, Some, [], drop, false, if◌then◌else◌, length, nat_lt, suc, take, true, zero, ℕ, ◌&&◌, ◌-◌, ◌==◌, ◌||◌, ◌∷◌}}}
use Rattle.pim_ip.{specs.declared.{addr.{Addr.Addr, Prefix.Prefix}, lan.LanDelay.LanDelay}}
use Rattle.pim_types.{specs.{Keys.key_cmp, declared.{config.{IfaceId.IfaceId, InterfaceConfig.InterfaceConfig, Route.Route, RpCandidate.RpCandidate, RpRange.RpRange, Settings.Settings, SptSwitch.SptSwitch}, fact.{AssertMetric.AssertMetric, AssertRole.AssertRole, AssertRow.AssertRow, DownstreamRow.DownstreamRow, GroupRecordRow.GroupRecordRow, GroupRepeatRow.GroupRepeatRow, InterfaceRow.InterfaceRow, JoinTimerRow.JoinTimerRow, Key.Key, NeighbourRow.NeighbourRow, OverrideTimerRow.OverrideTimerRow, QuerierRole.QuerierRole, QuerierRow.QuerierRow, RegisterRow.RegisterRow, RegisterState.RegisterState, SendingRow.SendingRow, SourceRecordRow.SourceRecordRow, SourceRepeatRow.SourceRepeatRow, SourceRow.SourceRow}}}}
use Rattle.pim_model.{specs.{State.State, Tables.{Table, keys_in}}}
use Rattle.pim_saved.{specs.{Crc.crc32, Parts.{GroundParts, HeadParts, LinkParts, RecordParts, StateParts, TreeParts, state_of}, Text.{magic, version, version_with_addresses, version_with_candidates}, declared.refusal.SavedRefusal.SavedRefusal}}

infixl 10 ◌>>=◌
abbrev pub ◌>>=◌ : {A B : Type 0} → Result A SavedRefusal → (A → Result B SavedRefusal) → Result B SavedRefusal
(Ok x) >>= f = f x
(Err e) >>= f = Err e

-- a value, and the bytes after it
abbrev pub Reader : Type 0 → Type 0
Reader A = List ℕ → Result (A × List ℕ) SavedRefusal

-- ---- words

abbrev pub byte_at : Reader ℕ
byte_at [] = Err SavedRefusal.CutShort
byte_at (b ∷ rest) = Ok (b, rest)

abbrev pub number_at : Width → Reader ℕ
number_at w bytes =
    if nat_lt (length bytes) (byte_len w) then Err SavedRefusal.CutShort
    else Ok (from_be_bytes w (take (byte_len w) bytes), drop (byte_len w) bytes)

abbrev pub half_at : Reader ℕ
half_at bytes = number_at w16 bytes

abbrev pub word_at : Reader ℕ
word_at bytes = number_at w32 bytes

abbrev pub moment_at : Reader ℕ
moment_at bytes = number_at w64 bytes

abbrev pub flag_at : Reader Bool
flag_at [] = Err SavedRefusal.CutShort
flag_at (zero ∷ rest) = Ok (false, rest)
flag_at (suc zero ∷ rest) = Ok (true, rest)
flag_at (suc (suc b) ∷ rest) = Err SavedRefusal.OutOfRange

-- two readers, the second behind what the first read
abbrev pub in_turn : {A B : Type 0} → Reader A → Reader B → Reader (A × B)
in_turn first second bytes = first bytes >>= λ a. second a.1 >>= λ b. Ok ((a.0, b.0), b.1)

-- what is made of what was read
abbrev pub made : {A B : Type 0} → (A → B) → Reader A → Reader B
made make part bytes = part bytes >>= λ a. Ok (make a.0, a.1)

abbrev pub option_at : {A : Type 0} → Reader A → Reader (Option A)
option_at item [] = Err SavedRefusal.CutShort
option_at item (zero ∷ rest) = Ok (None, rest)
option_at item (suc zero ∷ rest) = item rest >>= λ a. Ok (Some a.0, a.1)
option_at item (suc (suc b) ∷ rest) = Err SavedRefusal.OutOfRange

unfoldable pub items_at : {A : Type 0} → Reader A → ℕ → Reader (List A)
items_at item zero bytes = Ok ([], bytes)
items_at item (suc n) bytes =
    item bytes >>= λ first. items_at item n first.1 >>= λ others. Ok (first.0 ∷ others.0, others.1)

abbrev pub list_at : {A : Type 0} → Reader A → Reader (List A)
list_at item bytes = moment_at bytes >>= λ n. items_at item n.0 n.1

abbrev pub address_at : Reader Addr
address_at bytes = made (λ (n : ℕ). record { bits = n }) word_at bytes

abbrev pub iface_at : Reader IfaceId
iface_at bytes = made (λ (n : ℕ). record { number = n }) word_at bytes

abbrev pub end_at : Reader (Option ℕ)
end_at bytes = option_at moment_at bytes

-- ---- the configuration

abbrev pub spt_of : Bool → SptSwitch
spt_of false = SptSwitch.Always
spt_of true = SptSwitch.Never

unfoldable pub settings_at : Reader Settings
settings_at bytes =
    made
    (λ (p : ℕ × (SptSwitch × (ℕ × (ℕ × (ℕ × ℕ))))). record {
      limit = p.0;
      spt = p.1.0;
      robustness = p.1.1.0;
      query_interval = p.1.1.1.0;
      query_response_interval = p.1.1.1.1.0;
      last_member_query_interval = p.1.1.1.1.1;
    })
    (in_turn word_at (in_turn (made spt_of flag_at) (in_turn word_at (in_turn word_at (in_turn word_at word_at)))))
    bytes

unfoldable pub interface_at : Reader InterfaceConfig
interface_at bytes =
    made
    (λ (p : Addr × (ℕ × (ℕ × (ℕ × ℕ)))). record {
      address = p.0;
      length = p.1.0;
      priority = p.1.1.0;
      propagation_delay = p.1.1.1.0;
      override_interval = p.1.1.1.1;
    })
    (in_turn address_at (in_turn word_at (in_turn word_at (in_turn word_at word_at))))
    bytes

unfoldable pub prefix_at : Reader Prefix
prefix_at bytes =
    made (λ (p : Addr × ℕ). record { address = p.0; length = p.1 }) (in_turn address_at word_at) bytes

unfoldable pub route_at : Reader Route
route_at bytes =
    made
    (λ (p : Prefix × (Addr × (IfaceId × (ℕ × ℕ)))). record {
      prefix = p.0;
      next_hop = p.1.0;
      iface = p.1.1.0;
      preference = p.1.1.1.0;
      metric = p.1.1.1.1;
    })
    (in_turn prefix_at (in_turn address_at (in_turn iface_at (in_turn word_at word_at))))
    bytes

unfoldable pub range_at : Reader RpRange
range_at bytes =
    made (λ (p : Prefix × Addr). record { prefix = p.0; rp = p.1 }) (in_turn prefix_at address_at) bytes

unfoldable pub candidate_at : Reader RpCandidate
candidate_at bytes =
    made
    (λ (p : Prefix × (Addr × (ℕ × ℕ))). record {
      prefix = p.0;
      rp = p.1.0;
      priority = p.1.1.0;
      hash_length = p.1.1.1;
    })
    (in_turn prefix_at (in_turn address_at (in_turn word_at word_at)))
    bytes

-- ---- rows

unfoldable pub key_at : Reader Key
key_at bytes =
    made
    (λ (p : IfaceId × (Addr × (Option Addr × Bool))). record {
      iface = p.0;
      group = p.1.0;
      source = p.1.1.0;
      rpt = p.1.1.1;
    })
    (in_turn iface_at (in_turn address_at (in_turn (option_at address_at) flag_at)))
    bytes

unfoldable pub up_at : Reader InterfaceRow
up_at bytes =
    made
    (λ (p : ℕ × (ℕ × Bool)). record { generation = p.0; hello_end = p.1.0; is_hello_owed = p.1.1 })
    (in_turn word_at (in_turn moment_at flag_at))
    bytes

unfoldable pub lan_delay_at : Reader LanDelay
lan_delay_at bytes =
    made
    (λ (p : Bool × (ℕ × ℕ)). record { can_track = p.0; propagation_delay = p.1.0; override_interval = p.1.1 })
    (in_turn flag_at (in_turn half_at half_at))
    bytes

unfoldable pub neighbour_at : Reader NeighbourRow
neighbour_at bytes =
    made
    (λ (p : Option ℕ × (Option LanDelay × (Option ℕ × Option ℕ))). record {
      end = p.0;
      lan_delay = p.1.0;
      priority = p.1.1.0;
      generation = p.1.1.1;
    })
    (in_turn end_at (in_turn (option_at lan_delay_at) (in_turn (option_at word_at) (option_at word_at))))
    bytes

abbrev pub querier_role_at : Reader QuerierRole
querier_role_at [] = Err SavedRefusal.CutShort
querier_role_at (zero ∷ rest) = made (λ (p : ℕ × ℕ). QuerierRole.Querier p.0 p.1) (in_turn moment_at byte_at) rest
querier_role_at (suc zero ∷ rest) = made (λ (n : ℕ). QuerierRole.NonQuerier n) moment_at rest
querier_role_at (suc (suc b) ∷ rest) = Err SavedRefusal.OutOfRange

unfoldable pub querier_at : Reader QuerierRow
querier_at bytes =
    made
    (λ (p : QuerierRole × (ℕ × ℕ)). record { role = p.0; robustness = p.1.0; query_interval = p.1.1 })
    (in_turn querier_role_at (in_turn byte_at half_at))
    bytes

abbrev pub group_record_at : Reader GroupRecordRow
group_record_at bytes = made (λ (e : Option ℕ). record { end = e }) end_at bytes

abbrev pub source_record_at : Reader SourceRecordRow
source_record_at bytes = made (λ (e : Option ℕ). record { end = e }) end_at bytes

unfoldable pub group_repeat_at : Reader GroupRepeatRow
group_repeat_at bytes = made (λ (p : ℕ × ℕ). record { next = p.0; left = p.1 }) (in_turn moment_at word_at) bytes

abbrev pub source_repeat_at : Reader SourceRepeatRow
source_repeat_at bytes = made (λ (n : ℕ). record { next = n }) moment_at bytes

abbrev pub sending_at : Reader SendingRow
sending_at bytes = made (λ (n : ℕ). record { left = n }) word_at bytes

unfoldable pub downstream_at : Reader DownstreamRow
downstream_at bytes =
    made (λ (p : Option ℕ × Option ℕ). record { expiry = p.0; pending = p.1 }) (in_turn end_at end_at) bytes

unfoldable pub metric_at : Reader AssertMetric
metric_at bytes =
    made
    (λ (p : Bool × (ℕ × (ℕ × Addr))). record { rpt = p.0; preference = p.1.0; metric = p.1.1.0; address = p.1.1.1 })
    (in_turn flag_at (in_turn word_at (in_turn word_at address_at)))
    bytes

abbrev pub assert_role_of : Bool → AssertRole
assert_role_of false = AssertRole.Winner
assert_role_of true = AssertRole.Loser

unfoldable pub assert_at : Reader AssertRow
assert_at bytes =
    made
    (λ (p : AssertRole × (AssertMetric × ℕ)). record { role = p.0; winner = p.1.0; end = p.1.1 })
    (in_turn (made assert_role_of flag_at) (in_turn metric_at moment_at))
    bytes

abbrev pub join_timer_at : Reader JoinTimerRow
join_timer_at bytes = made (λ (n : ℕ). record { end = n }) moment_at bytes

abbrev pub override_timer_at : Reader OverrideTimerRow
override_timer_at bytes = made (λ (n : ℕ). record { end = n }) moment_at bytes

unfoldable pub source_at : Reader SourceRow
source_at bytes =
    made (λ (p : Option ℕ × Bool). record { keepalive = p.0; spt = p.1 }) (in_turn end_at flag_at) bytes

abbrev pub register_state_at : Reader RegisterState
register_state_at [] = Err SavedRefusal.CutShort
register_state_at (zero ∷ rest) = Ok (RegisterState.Join, rest)
register_state_at (suc zero ∷ rest) = made (λ (n : ℕ). RegisterState.JoinPending n) moment_at rest
register_state_at (suc (suc zero) ∷ rest) = made (λ (n : ℕ). RegisterState.Prune n) moment_at rest
register_state_at (suc (suc (suc b)) ∷ rest) = Err SavedRefusal.OutOfRange

abbrev pub register_at : Reader RegisterRow
register_at bytes = made (λ (r : RegisterState). record { state = r }) register_state_at bytes

-- ---- tables

-- each key comes behind the one before
unfoldable pub rise_after : Option Key → List Key → Bool
rise_after before [] = true
rise_after before (k ∷ ks) = option_map_or (λ q. is_lt (key_cmp q k)) before true && rise_after (Some k) ks

abbrev pub rise : List Key → Bool
rise ks = rise_after None ks

abbrev pub in_order : {R : Type 0} → Table R → List ℕ → Result (Table R × List ℕ) SavedRefusal
in_order rows rest = if rise (keys_in rows) then Ok (rows, rest) else Err SavedRefusal.KeysDontRise

unfoldable pub table_at : {R : Type 0} → Reader R → Reader (Table R)
table_at row bytes = list_at (in_turn key_at row) bytes >>= λ t. in_order t.0 t.1

-- ---- the state

abbrev pub magic_at : Reader ℕ
magic_at bytes = word_at bytes >>= λ m. if m.0 == magic then Ok m else Err SavedRefusal.NotOurs

-- a version that is read
abbrev pub is_version : ℕ → Bool
is_version n = ((n == version) || (n == version_with_addresses)) || (n == version_with_candidates)

unfoldable pub version_at : Reader ℕ
version_at bytes = half_at bytes >>= λ v. if is_version v.0 then Ok v else Err SavedRefusal.OtherVersion

-- version 3 has at least one
abbrev pub some_listed : List Addr → List ℕ → Result (List Addr × List ℕ) SavedRefusal
some_listed [] rest = Err SavedRefusal.OutOfRange
some_listed (a ∷ more) rest = Ok (a ∷ more, rest)

-- the own addresses of no interface, by the version
abbrev pub addresses_by : Bool → Reader (List Addr)
addresses_by true bytes = Ok ([], bytes)
addresses_by false bytes = list_at address_at bytes >>= λ a. some_listed a.0 a.1

-- version 4 has at least one candidate
abbrev pub some_candidates : List Addr → List RpCandidate → List ℕ → Result (HeadParts × List ℕ) SavedRefusal
some_candidates addresses [] rest = Err SavedRefusal.OutOfRange
some_candidates addresses (c ∷ cs) rest = Ok ((c ∷ cs, addresses), rest)

-- behind version 4 the own addresses and the candidates
abbrev pub candidates_behind : Reader HeadParts
candidates_behind bytes =
    list_at address_at bytes >>= λ a. list_at candidate_at a.1 >>= λ c. some_candidates a.0 c.0 c.1

-- what stands behind a version
abbrev pub head_by : Bool → ℕ → Reader HeadParts
head_by true n bytes = candidates_behind bytes
head_by false n bytes = addresses_by (n == version) bytes >>= λ a. Ok (([], a.0), a.1)

unfoldable pub head_at : Reader HeadParts
head_at bytes = version_at bytes >>= λ v. head_by (v.0 == version_with_candidates) v.0 v.1

unfoldable pub ground_at : Reader GroundParts
ground_at bytes =
    in_turn settings_at (in_turn (list_at interface_at) (in_turn moment_at
    (in_turn (list_at route_at) (list_at range_at)))) bytes

unfoldable pub links_at : Reader LinkParts
links_at bytes =
    in_turn (table_at up_at) (in_turn (table_at neighbour_at) (table_at querier_at)) bytes

unfoldable pub records_at : Reader RecordParts
records_at bytes =
    in_turn (table_at group_record_at) (in_turn (table_at source_record_at) (in_turn (table_at group_repeat_at)
    (in_turn (table_at source_repeat_at) (table_at sending_at)))) bytes

unfoldable pub trees_at : Reader TreeParts
trees_at bytes =
    in_turn (table_at downstream_at) (in_turn (table_at assert_at) (in_turn (table_at join_timer_at) (in_turn
    (table_at override_timer_at) (in_turn (table_at source_at) (table_at register_at))))) bytes

unfoldable pub parts_at : Reader StateParts
parts_at bytes = in_turn head_at (in_turn ground_at (in_turn links_at (in_turn records_at trees_at))) bytes

abbrev pub at_end : State → List ℕ → Result State SavedRefusal
at_end s [] = Ok s
at_end s (b ∷ rest) = Err SavedRefusal.LeftOver

-- The last four bytes are the CRC-32 of those before them.
unfoldable pub undamaged : List ℕ → Result (Unit {0}) SavedRefusal
undamaged bytes =
    word_at (drop (length bytes - 4) bytes)
    >>= λ w. if w.0 == crc32 (take (length bytes - 4) bytes) then Ok tt else Err SavedRefusal.Damaged

-- The magic number and the version come first, so that bytes of another version are told as such. Then the sum of all
-- bytes is compared, before anything else is read.
unfoldable pub reading : List ℕ → Result State SavedRefusal
reading bytes =
    magic_at bytes >>= λ m. version_at m.1 >>= λ v. undamaged bytes
    >>= λ u. in_turn (made state_of parts_at) word_at m.1 >>= λ x. at_end x.0.0 x.1
