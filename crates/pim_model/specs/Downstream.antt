-- A Join/Prune to the router, and the downstream machines of (*,G), (S,G) and (S,G,rpt). Sections are those of RFC
-- 7761. A message is judged as a whole: what becomes of each key depends on all of the message, and on the state that
-- it finds.
use Rattle.std.{specs.{List.list_any, Option.option_map_or, Prelude.{Bool, List, None, Option, Some, [], false, filter, flat_map, fold, if◌then◌else◌, map, max, nat_lt, not, suc, true, zero, ℕ, ◌&&◌, ◌*◌, ◌++◌, ◌+◌, ◌==◌, ◌||◌, ◌∷◌}}}
use Rattle.pim_ip.{specs.Ipv4.{is_link_local, is_source_specific}}
use Rattle.pim_types.{specs.{Keys.{group_in, iface_in, is_on, is_star, rpt_key, same_key, source_in, source_key, star_key}, declared.fact.{AssertRow.AssertRow, DownstreamRow.DownstreamRow, Key.Key}}}
use Rattle.pim_wire.{specs.{Values.{Group, JoinPrune}, declared.join_prune.{Entry.Entry, EntryKind.EntryKind}}}
use Rattle.pim_model.{specs.{Messages.{Message, entry}, Neighbours.{join_prune_override_interval, neighbour_count}, Sets.is_loser, State.{State, my_address}, Tables.{Table, change_row, drop_at, keys_in, later_end, row_at, set_row}, Unicast.{is_rp, rp_of}}}

-- the holdtime that never expires (4.9.2, 4.9.5)
abbrev pub holdtime_forever : ℕ
holdtime_forever = 0xFFFF

-- when a holdtime in seconds expires that begins at a given time, in ms; a holdtime of 0xFFFF never does
unfoldable pub holdtime_end_from : ℕ → ℕ → Option ℕ
holdtime_end_from present holdtime = if holdtime == holdtime_forever then None else Some (present + 1000 * holdtime)

-- when a holdtime in seconds expires that begins at the present time, in ms
abbrev pub holdtime_end : State → ℕ → Option ℕ
holdtime_end s holdtime = holdtime_end_from s.present holdtime

-- two kinds of entries are the same: (*,G), (S,G) or (S,G,rpt) (4.9.5.1)
abbrev pub is_kind : EntryKind → EntryKind → Bool
is_kind EntryKind.Star EntryKind.Star = true
is_kind EntryKind.Source EntryKind.Source = true
is_kind EntryKind.SourceRpt EntryKind.SourceRpt = true
is_kind _ _ = false

-- an entry of a Join/Prune with its group
abbrev pub Named : Type 0
Named = ℕ × Entry

-- here: the entries that count: groups of 224.0.0.0/24 are skipped; of an SSM group only the entries of (S,G) count
-- (4.8.1)
abbrev pub is_used : Named → Bool
is_used n = not (is_link_local n.0) && (not (is_source_specific n.0) || is_kind (n.1).kind EntryKind.Source)

-- a Join(*,G) whose RP isn't RP(G) is dropped, and the other entries of the message count (4.5.1); here: also without
-- an RP(G)
unfoldable pub is_accepted : State → Named → Bool
is_accepted s n = not (is_kind (n.1).kind EntryKind.Star) || is_rp s n.0 (n.1).address.bits

-- the joins of a message, group by group
abbrev pub joins_in : JoinPrune → List Named
joins_in m = flat_map (λ (g : Group). map (λ e. (g.group, e)) g.joins) m.groups

-- the prunes of a message, group by group
abbrev pub prunes_in : JoinPrune → List Named
prunes_in m = flat_map (λ (g : Group). map (λ e. (g.group, e)) g.prunes) m.groups

-- the joins of a message that count, in their order
unfoldable pub accepted_joins : State → JoinPrune → List Named
accepted_joins s m = filter (λ n. is_used n && is_accepted s n) (joins_in m)

-- the prunes of a message that count; a Prune(*,G) counts whatever its RP is (4.5.1)
unfoldable pub accepted_prunes : JoinPrune → List Named
accepted_prunes m = filter is_used (prunes_in m)

-- the key of an entry on an interface
abbrev pub key_by : ℕ → ℕ → ℕ → EntryKind → Key
key_by i g address EntryKind.Star = star_key i g
key_by i g address EntryKind.Source = source_key i g address
key_by i g address EntryKind.SourceRpt = rpt_key i g address

-- the key that an entry names on an interface
abbrev pub named_key : ℕ → Named → Key
named_key i n = key_by i n.0 (n.1).address.bits (n.1).kind

-- the keys that a message joins, in its order
unfoldable pub joined_keys : State → ℕ → JoinPrune → List Key
joined_keys s i m = map (named_key i) (accepted_joins s m)

-- the keys that a message prunes, in its order
unfoldable pub pruned_keys : ℕ → JoinPrune → List Key
pruned_keys i m = map (named_key i) (accepted_prunes m)

-- a key is in a list
unfoldable pub is_named : List Key → Key → Bool
is_named keys k = list_any (same_key k) keys

-- when the Prune-Pending Timer expires: J/P_Override_Interval(I) from the present time if the router has more than one
-- neighbour on I; else there is none, and the prune holds at once (4.5.1 to 4.5.3)
unfoldable pub prune_pending_end : State → ℕ → Option ℕ
prune_pending_end s i =
    if nat_lt 1 (neighbour_count s i) then Some (s.present + max 1 (join_prune_override_interval s i)) else None

-- Receive Join of (*,G) (4.5.1) or (S,G) (4.5.2): NI, J, PP -> J; the Expiry Timer is set to the later of its value
-- and the holdtime; here: with holdtime 0 no row is made
abbrev pub joined_row : Option ℕ → ℕ → Option DownstreamRow → Option DownstreamRow
joined_row end zero None = None
joined_row end (suc n) None = Some (record { expiry = end; pending = None })
joined_row end _ (Some r) = Some (record { expiry = later_end r.expiry end; pending = None })

-- Receive Prune of (*,G) (4.5.1) or (S,G) (4.5.2): J -> PP, or NI at once; NI and PP are unchanged
abbrev pub pruned_row : Option ℕ → Option DownstreamRow → Option DownstreamRow
pruned_row pending None = None
pruned_row pending (Some r) =
    elim (r.pending) [
      | Some e ↦ Some r
      | None ↦ elim pending [ None ↦ None | Some e ↦ Some (record r { pending = Some e }) ]
    ]

-- Receive Prune of (S,G,rpt) (4.5.3): NI -> PP, or P at once; in P the later expiry counts
-- here: PP takes the later expiry too, and its Prune-Pending Timer is unchanged; with holdtime 0 no row is made
abbrev pub pruned_rpt_row : Option ℕ → ℕ → Option ℕ → Option DownstreamRow → Option DownstreamRow
pruned_rpt_row end zero pending None = None
pruned_rpt_row end (suc n) pending None = Some (record { expiry = end; pending = pending })
pruned_rpt_row end _ pending (Some r) = Some (record r { expiry = later_end r.expiry end })

-- the row of a key after a message that joins and prunes these keys. A Join(S,G,rpt) gives NI (4.5.3), and so does a
-- Join(*,G) of its group, unless the message prunes the source too, which the RFC says by PruneTmp and
-- Prune-Pending-Tmp
unfoldable pub row_after : State → ℕ → ℕ → List Key → List Key → Key → Option DownstreamRow
row_after s i holdtime joined pruned k =
    let row : Option DownstreamRow = row_at s.downstream k in
    let end : Option ℕ = holdtime_end s holdtime in
    let pending : Option ℕ = prune_pending_end s i in
    let is_joined : Bool = is_named joined k in
    let is_pruned : Bool = is_named pruned k in
    let group_joined : Bool = is_named joined (star_key i (group_in k)) in
    if k.rpt
    then (let left : Option DownstreamRow = (if is_joined then None else row) in
    if is_pruned then pruned_rpt_row end holdtime pending left
    else (if group_joined then None else left))
    else (let after_join : Option DownstreamRow = (if is_joined then joined_row end holdtime row else row) in
    if is_pruned then pruned_row pending after_join else after_join)

-- the (S,G,rpt) rows of the joined groups, which a Join(*,G) may end
unfoldable pub rpt_rows_joined : State → ℕ → List Key → List Key
rpt_rows_joined s i joined =
    filter (λ k. is_on i k && k.rpt && is_named joined (star_key i (group_in k))) (keys_in s.downstream)

-- the keys whose rows the message can change
unfoldable pub touched_keys : State → ℕ → List Key → List Key → List Key
touched_keys s i joined pruned = joined ++ pruned ++ rpt_rows_joined s i joined

-- I Am Assert Loser, Receive Join(S,G) on I (4.6.1), or an accepted Join(*,G) (4.6.2): -> NI, action A5
unfoldable pub asserts_after_joins : State → List Key → Table AssertRow
asserts_after_joins s joined = filter (λ e. not (is_loser (Some e.1) && is_named joined e.0)) s.asserts

-- a message that joins and prunes these keys: what becomes of each key depends on the whole message
unfoldable pub keys_taken : State → ℕ → ℕ → List Key → List Key → State
keys_taken s i holdtime joined pruned = record s {
  downstream =
      fold (λ t k. set_row t k (row_after s i holdtime joined pruned k)) s.downstream (touched_keys s i joined pruned);
  asserts = asserts_after_joins s joined;
}

-- a Join/Prune whose upstream neighbour address is the router's on the interface
unfoldable pub to_me : State → ℕ → JoinPrune → State
to_me s i m = keys_taken s i m.holdtime (joined_keys s i m) (pruned_keys i m)

-- ---- the ends of a row

-- the kind of the entry that has a key
abbrev pub entry_kind : Key → EntryKind
entry_kind k = if is_star k then EntryKind.Star else (if k.rpt then EntryKind.SourceRpt else EntryKind.Source)

-- Send PruneEcho (4.5.1, 4.5.2): a Prune to the router's own address; here: none of (*,G) without an RP
unfoldable pub prune_echo : State → Key → List Message
prune_echo s k =
    let echo : ℕ → List Message = λ address.
    Message.JoinPrune (iface_in k) (my_address s (iface_in k)) (group_in k) []
    (entry (entry_kind k) address ∷ []) ∷ [] in
    if is_star k then option_map_or echo (rp_of s (group_in k)) [] else echo (source_in k)

-- Prune-Pending Timer expires: (*,G) and (S,G) PP -> NI with a PruneEcho (4.5.1, 4.5.2), (S,G,rpt) PP -> P (4.5.3)
-- here: the echo leaves whatever number of neighbours there is then
unfoldable pub prune_pending_due : State → Key → DownstreamRow → State × List Message
prune_pending_due s k r =
    if k.rpt
    then (record s { downstream = change_row (λ (old : DownstreamRow). Some (record r { pending = None })) k s.downstream }, [])
    else (record s { downstream = drop_at s.downstream k }, prune_echo s k)

-- Expiry Timer expires: -> NI (4.5.1 to 4.5.3); here: (S,G,rpt) also in Prune-Pending
unfoldable pub downstream_expired : State → Key → State
downstream_expired s k = record s { downstream = drop_at s.downstream k }
