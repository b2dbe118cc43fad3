-- The upstream machines of (*,G) (4.5.4), (S,G) (4.5.5) and (S,G,rpt) (4.5.6, 4.5.7). Sections are those of RFC 7761.
-- The messages follow from the desires and the upstream neighbours at the opening of an event, compared with those
-- after its change. The macros read the state after the change, in which none of these timers has moved yet.
use Rattle.std.{specs.{Option.option_map_or, Prelude.{Bool, List, None, Option, Some, [], filter, if◌then◌else◌, is_none, is_some, map, min, not, option_map, take, ℕ, ◌&&◌, ◌++◌, ◌+◌, ◌||◌, ◌∷◌}}}
use Rattle.pim_ip.{specs.{Addr.addr, declared.addr.Addr.Addr}}
use Rattle.pim_types.{specs.{Keys.{group_in, is_of_group, is_star, rpt_key, source_in, source_key, star_key}, declared.{config.IfaceId.IfaceId, fact.{JoinTimerRow.JoinTimerRow, Key.Key, OverrideTimerRow.OverrideTimerRow}, path.{Hop.Hop, Path.Path}, upstream.{SourceView.SourceView, StarView.StarView, TreeState.TreeState}}}}
use Rattle.pim_wire.{specs.declared.join_prune.{Entry.Entry, EntryKind.EntryKind}}
use Rattle.pim_model.{specs.{Desires.{join_desired, join_desired_star, rpf_rpt, rpf_source, rpf_star, tree_state}, Messages.{Message, entry}, Neighbours.{is_neighbour, nbr, t_override}, Querier.each_in_turn, Sets.{inherited_olist_rpt, is_empty, joins, prunes, spt_bit}, State.State, Tables.{ascending, change_row, drop_at, keys_in, row_at, same_address, same_hop, same_iface, set_row}, Unicast.{route, rp_of, rp_route}}}

-- t_periodic (4.11), in ms
abbrev pub join_period : ℕ
join_period = 60000

-- t_periodic (4.11) from the present time, in ms
abbrev pub periodic_end : State → ℕ
periodic_end s = s.present + join_period

-- ---- messages

-- a Join/Prune to a neighbour (4.9.5); none where the neighbour is NULL
unfoldable pub join_prune_to : Option Hop → ℕ → List Entry → List Entry → List Message
join_prune_to None g joins prunes = []
join_prune_to (Some hop) g joins prunes = Message.JoinPrune hop.iface.number hop.address.bits g joins prunes ∷ []

-- here: a Prune to an old upstream neighbour leaves only if it still is a neighbour
unfoldable pub if_neighbour : State → Option Hop → Option Hop
if_neighbour s None = None
if_neighbour s (Some hop) = if is_neighbour s hop.iface.number hop.address.bits then Some hop else None

-- the keys of all facts of groups
unfoldable pub fact_keys : State → List Key
fact_keys s =
    keys_in s.group_records ++ keys_in s.source_records ++ keys_in s.group_repeats ++ keys_in s.source_repeats
    ++ keys_in s.sendings ++ keys_in s.downstream ++ keys_in s.asserts ++ keys_in s.join_timers
    ++ keys_in s.override_timers ++ keys_in s.sources ++ keys_in s.registers

-- the groups that have any fact
unfoldable pub groups_of : List Key → List ℕ
groups_of keys = ascending (map group_in keys)

-- the sources of a group that have any fact
unfoldable pub sources_of : ℕ → List Key → List ℕ
sources_of g keys = ascending (map source_in (filter (λ k. is_of_group g k && is_some k.source) keys))

-- a Join(*,G) carries Prune(S,G,rpt) (4.5.6): if SPTbit(S,G), where RPF'(*,G) != RPF'(S,G);
-- else where inherited_olist(S,G,rpt) == NULL OR RPF'(*,G) != RPF'(S,G,rpt)
unfoldable pub is_pruned_with_star : State → ℕ → ℕ → Bool
is_pruned_with_star s g src =
    if spt_bit s g src then not (same_hop (rpf_star s g) (rpf_source s g src))
    else (is_empty s (inherited_olist_rpt s g src) || not (same_hop (rpf_star s g) (rpf_rpt s g src)))

-- here: the most sources that a Join(*,G) prunes, of which the RFC takes the lowest too (4.9.5.2)
abbrev pub most_pruned : ℕ
most_pruned = 160

-- the prunes in a Join(*,G), by all sources of the group with a fact
unfoldable pub pruned_with_star : State → ℕ → List Entry
pruned_with_star s g =
    map (entry EntryKind.SourceRpt) (take most_pruned (filter (is_pruned_with_star s g) (sources_of g (fact_keys s))))

-- Send Join(*,G), with its prunes; here: none without an RP
unfoldable pub join_star_to : State → Option Addr → Option Hop → ℕ → List Message
join_star_to s rp hop g =
    option_map_or (λ (a : Addr). join_prune_to hop g (entry EntryKind.Star a.bits ∷ []) (pruned_with_star s g)) rp []

-- Send Prune(*,G); here: none without an RP
unfoldable pub prune_star_to : State → Option Addr → Option Hop → ℕ → List Message
prune_star_to s rp hop g =
    option_map_or (λ (a : Addr). join_prune_to (if_neighbour s hop) g [] (entry EntryKind.Star a.bits ∷ [])) rp []

-- Send Join(S,G)
abbrev pub join_source_to : Option Hop → ℕ → ℕ → List Message
join_source_to hop g src = join_prune_to hop g (entry EntryKind.Source src ∷ []) []

-- Send Prune(S,G)
abbrev pub prune_source_to : State → Option Hop → ℕ → ℕ → List Message
prune_source_to s hop g src = join_prune_to (if_neighbour s hop) g [] (entry EntryKind.Source src ∷ [])

-- Send Join(S,G,rpt)
abbrev pub join_rpt_to : Option Hop → ℕ → ℕ → List Message
join_rpt_to hop g src = join_prune_to hop g (entry EntryKind.SourceRpt src ∷ []) []

-- Send Prune(S,G,rpt)
abbrev pub prune_rpt_to : Option Hop → ℕ → ℕ → List Message
prune_rpt_to hop g src = join_prune_to hop g [] (entry EntryKind.SourceRpt src ∷ [])

-- ---- what an upstream state does

-- what becomes of a Join Timer or an Override Timer
pub data TimerChange : Type 0 where
  Keep : TimerChange
  Cancel : TimerChange
  SetTo : ℕ → TimerChange
  LowerTo : ℕ → TimerChange

-- what an upstream machine does: messages, and a change of its timer
pub record Told : Type 0 where
  pub timer : TimerChange
  pub messages : List Message

-- an upstream machine that makes no transition does nothing
abbrev pub nothing_told : Told
nothing_told = record { timer = Keep; messages = [] }

-- what the machine of (*,G) compares before and after a change (4.5.4)
unfoldable pub star_view : State → ℕ → StarView
star_view s g = record {
  is_desired = join_desired_star s g;
  rp = option_map addr (rp_of s g);
  iface = option_map (λ (p : Path). p.iface) (rp_route s g);
  next_hop = nbr s (rp_route s g);
  upstream = rpf_star s g;
}

-- what the machines of (S,G) and (S,G,rpt) compare before and after a change (4.5.5, 4.5.7)
unfoldable pub source_view : State → ℕ → ℕ → SourceView
source_view s g src = record {
  is_desired = join_desired s g src;
  iface = option_map (λ (p : Path). p.iface) (route s src);
  next_hop = nbr s (route s src);
  upstream = rpf_source s g src;
  star_upstream = rpf_star s g;
  tree_upstream = rpf_rpt s g src;
  tree = tree_state s g src;
}

-- RPF' changes due to an Assert (4.5.4, 4.5.5): the RPF interface and its next hop are unchanged
abbrev pub is_due_to_assert : Option IfaceId → Option IfaceId → Option Hop → Option Hop → Bool
is_due_to_assert old_iface new_iface old_hop new_hop = same_iface old_iface new_iface && same_hop old_hop new_hop

-- t_override (4.11) from the present time, on the interface of the route
abbrev pub override_on : State → ℕ → Option IfaceId → ℕ
override_on s w iface = s.present + option_map_or (λ (i : IfaceId). t_override s i.number w) iface 1

-- In Joined State (4.5.4): RPF'(*,G) changes due to an Assert, or not; a is the state after the change
-- here: another RP with the same RPF'(*,G) sends a Join(*,G)
unfoldable pub star_stays : State → ℕ → ℕ → StarView → StarView → Told
star_stays a w g old new =
    let joins : List Message = join_star_to a new.rp new.upstream g in
    if not (same_hop old.upstream new.upstream)
    then (if is_due_to_assert old.iface new.iface old.next_hop new.next_hop
    then record { timer = LowerTo (override_on a w new.iface); messages = [] }
    else record { timer = SetTo (periodic_end a); messages = joins ++ prune_star_to a new.rp old.upstream g })
    else (if same_address old.rp new.rp then nothing_told
    else record { timer = SetTo (periodic_end a); messages = joins })

-- JoinDesired(*,G) (4.5.4) ->True: Send Join(*,G), set JT to t_periodic; ->False: Send Prune(*,G), cancel JT
-- here: no message of (*,G) is written without an RP after the change
unfoldable pub star_told : State → ℕ → ℕ → StarView → StarView → Told
star_told a w g old new =
    if new.is_desired
    then (if old.is_desired then star_stays a w g old new
    else record { timer = SetTo (periodic_end a); messages = join_star_to a new.rp new.upstream g })
    else (if old.is_desired
    then record { timer = Cancel; messages = (if is_none new.rp then [] else prune_star_to a old.rp old.upstream g) }
    else nothing_told)

-- In Joined State (4.5.5): RPF'(S,G) changes due to an Assert, or not
unfoldable pub source_stays : State → ℕ → ℕ → ℕ → SourceView → SourceView → Told
source_stays a w g src old new =
    if same_hop old.upstream new.upstream then nothing_told
    else (if is_due_to_assert old.iface new.iface old.next_hop new.next_hop
    then record { timer = LowerTo (override_on a w new.iface); messages = [] }
    else record {
      timer = SetTo (periodic_end a);
      messages = join_source_to new.upstream g src ++ prune_source_to a old.upstream g src;
    })

-- JoinDesired(S,G) (4.5.5) ->True: Send Join(S,G), set JT to t_periodic; ->False: Send Prune(S,G), cancel JT
unfoldable pub source_told : State → ℕ → ℕ → ℕ → SourceView → SourceView → Told
source_told a w g src old new =
    if new.is_desired
    then (if old.is_desired then source_stays a w g src old new
    else record { timer = SetTo (periodic_end a); messages = join_source_to new.upstream g src })
    else (if old.is_desired then record { timer = Cancel; messages = prune_source_to a old.upstream g src }
    else nothing_told)

-- RPF'(S,G,rpt) -> RPF'(*,G); here: not where it is NULL
unfoldable pub becomes_star : SourceView → SourceView → Bool
becomes_star old new =
    is_some new.tree_upstream && same_hop new.tree_upstream new.star_upstream
    && not (same_hop old.tree_upstream old.star_upstream)

-- from one state of (S,G,rpt) to another (4.5.7): NP -> P sends Prune(S,G,rpt) and cancels OT, P -> NP sends
-- Join(S,G,rpt), NP -> NJ cancels OT; in NP RPF'(S,G,rpt) -> RPF'(*,G) lowers OT to t_override
unfoldable pub rpt_told_from : State → ℕ → ℕ → ℕ → SourceView → SourceView → TreeState → TreeState → Told
rpt_told_from a w g src old new TreeState.NotPruned TreeState.Pruned =
    record { timer = Cancel; messages = prune_rpt_to new.tree_upstream g src }
rpt_told_from a w g src old new TreeState.Pruned TreeState.NotPruned =
    record { timer = Keep; messages = join_rpt_to new.tree_upstream g src }
rpt_told_from a w g src old new TreeState.NotPruned TreeState.NotPruned =
    if becomes_star old new
    then record { timer = LowerTo (override_on a w (option_map (λ (p : Path). p.iface) (rp_route a g))); messages = [] }
    else nothing_told
rpt_told_from a w g src old new TreeState.NotPruned TreeState.NotJoined = record { timer = Cancel; messages = [] }
rpt_told_from a w g src old new _ _ = nothing_told

-- from one state of (S,G,rpt) to another (4.5.7), by the views before and after a change
unfoldable pub rpt_told : State → ℕ → ℕ → ℕ → SourceView → SourceView → Told
rpt_told a w g src old new = rpt_told_from a w g src old new old.tree new.tree

-- ---- what all groups and sources send upstream

-- when a timer expires after a change of it
abbrev pub changed_end : TimerChange → Option ℕ → Option ℕ
changed_end Keep end = end
changed_end Cancel end = None
changed_end (SetTo e) end = Some e
changed_end (LowerTo e) None = Some e
changed_end (LowerTo e) (Some old) = Some (min old e)

-- the state after a change of the Join Timer of a key
unfoldable pub moved_join_timer : State → Key → TimerChange → State
moved_join_timer s k change =
    let end : Option ℕ = changed_end change (option_map (λ (r : JoinTimerRow). r.end) (row_at s.join_timers k)) in
    record s { join_timers = set_row s.join_timers k (option_map (λ e. record { end = e }) end) }

-- the state after an upstream machine changed the Join Timer of a key
unfoldable pub with_join_timer : State → Key → TimerChange → State
with_join_timer s k Keep = s
with_join_timer s k Cancel = moved_join_timer s k Cancel
with_join_timer s k (SetTo e) = moved_join_timer s k (SetTo e)
with_join_timer s k (LowerTo e) = moved_join_timer s k (LowerTo e)

-- the state after a change of the Override Timer of a key
unfoldable pub moved_override_timer : State → Key → TimerChange → State
moved_override_timer s k change =
    let end : Option ℕ =
    changed_end change (option_map (λ (r : OverrideTimerRow). r.end) (row_at s.override_timers k)) in
    record s { override_timers = set_row s.override_timers k (option_map (λ e. record { end = e }) end) }

-- the state after an upstream machine changed the Override Timer of a key
unfoldable pub with_override_timer : State → Key → TimerChange → State
with_override_timer s k Keep = s
with_override_timer s k Cancel = moved_override_timer s k Cancel
with_override_timer s k (SetTo e) = moved_override_timer s k (SetTo e)
with_override_timer s k (LowerTo e) = moved_override_timer s k (LowerTo e)

-- the upstream machines of a source: (S,G), then (S,G,rpt); o is the opening and a the state after the change; the
-- timers move in s
unfoldable pub source_upstream : State → State → ℕ → ℕ → State → ℕ → State × List Message
source_upstream o a w g s src =
    let old : SourceView = source_view o g src in
    let new : SourceView = source_view a g src in
    let joins : Told = source_told a w g src old new in
    let prunes : Told = rpt_told a w g src old new in (
      with_override_timer (with_join_timer s (source_key 0 g src) joins.timer) (rpt_key 0 g src) prunes.timer,
      joins.messages ++ prunes.messages,
    )

-- the upstream machines of a group: (*,G), then its sources; o is the opening and a the state after the change
unfoldable pub group_upstream : State → State → ℕ → List Key → State → ℕ → State × List Message
group_upstream o a w keys s g =
    let star : Told = star_told a w g (star_view o g) (star_view a g) in
    let first : State = with_join_timer s (star_key 0 g) star.timer in
    let later : State × List Message = each_in_turn (source_upstream o a w g) first (sources_of g keys) in
    (later.0, star.messages ++ later.1)

-- the upstream machines of all groups; here: for each group (*,G), then for each of its sources (S,G) and (S,G,rpt),
-- ascending
unfoldable pub upstream : State → State → ℕ → State × List Message
upstream o a w =
    let keys : List Key = fact_keys o ++ fact_keys a in
    each_in_turn (group_upstream o a w keys) a (groups_of keys)

-- ---- the timers' ends

-- Join Timer expires: Send Join(*,G), or Join(S,G), to RPF'; Join Timer to t_periodic (4.5.4, 4.5.5)
unfoldable pub join_timer_due : State → Key → State × List Message
join_timer_due s k =
    let g : ℕ = group_in k in
    let src : ℕ = source_in k in
    let messages : List Message =
    (if is_star k then join_star_to s (option_map addr (rp_of s g)) (rpf_star s g) g
    else join_source_to (rpf_source s g src) g src) in
    (record s { join_timers = change_row (λ (old : JoinTimerRow). Some (record { end = periodic_end s })) k s.join_timers }, messages)

-- Override Timer expires: Send Join(S,G,rpt) to RPF'(S,G,rpt), leave OT unset (4.5.7)
-- here: also where RPF'(S,G,rpt) isn't RPF'(*,G), where the RFC sends none
unfoldable pub override_timer_due : State → Key → State × List Message
override_timer_due s k = (
  record s { override_timers = drop_at s.override_timers k },
  join_rpt_to (rpf_rpt s (group_in k) (source_in k)) (group_in k) (source_in k),
)
