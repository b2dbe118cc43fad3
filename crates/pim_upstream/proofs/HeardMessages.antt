-- What is heard of a message, key by key, is what its entries do to the timers.
use Rattle.std.{proofs.{Common.{◌≡◌, ℕ, Bool, true, false, cond, List, [], ◌∷◌, ◌++◌, map, Option, Some, None, refl, ap, sym, ◌∙◌, fold, not, ◌&&◌}, lemmas.List.Sums.fold-append}, specs.{List.filter, Option.option_map_or, Prelude.{if◌then◌else◌, min, option_map}}}
use Rattle.pim_ip.{specs.{Addr.addr, declared.addr.Addr.Addr}}
use Rattle.pim_types.{specs.{declared.{config.IfaceId.IfaceId, fact.{JoinTimerRow.JoinTimerRow, Key.Key, OverrideTimerRow.OverrideTimerRow}, path.Hop.Hop}, Keys.{is_of_group, is_star, source_in, source_key}}}
use Rattle.pim_wire.{specs.{Values.JoinPrune, declared.join_prune.EntryKind.{EntryKind, TheVariants.{Star, Source, SourceRpt}}}}
use Rattle.pim_model.{specs.{Desires.rpf_source, Downstream.{Named, accepted_joins, accepted_prunes, joined_keys, key_by, named_key, pruned_keys}, Messages.entry, Seen.{is_star_entry, is_unpruned_towards, join_seen, cancel_override_timer, lower_join_timer, lower_override_timer, lower_source_timer, lower_tree_timer, override_end, prune_seen, seen, sources_joined_towards, suppressed_end}, State.State, Tables.{Table, hop_at, keys_in, row_at, same_bool, same_hop, set_row}, Upstream.{LowerTo, changed_end, moved_override_timer, with_override_timer}}}
use Rattle.pim_upstream.{specs.{Hearing.{heard_if, heard_in_join, heard_in_joins, heard_in_prunes, heard_of_join, heard_of_prune, heard_of_source, heard_of_timer, heard_of_timers, is_source_towards, is_star_towards, timers_of}, Timers.{after_move, after_moves}, declared.timer.TimerMove.TimerMove}, proofs.EntryChanges.{all_entries, passing_entries}}
use Rattle.pim_rpt.{specs.{Changes.change_of, declared.change.Change.Change}}

-- an override timer that ends at this timestamp at the latest
abbrev overriding : ℕ → OverrideTimerRow
overriding end = record { end = end }

lowered_anew : (end : ℕ) (row : Option OverrideTimerRow)
    → option_map (λ e. overriding e) (changed_end (LowerTo end) (option_map (λ (r : OverrideTimerRow). r.end) row))
    ≡ Some (overriding (option_map_or (λ (r : OverrideTimerRow). min r.end end) row end))
lowered_anew end None = refl
lowered_anew end (Some r) = refl

pub overrides : (s : State) (k : Key) (end : ℕ) → with_override_timer s k (LowerTo end) ≡ lower_override_timer s k end
unfolding with_override_timer moved_override_timer lower_override_timer set_row
overrides s k end =
    ap (λ row. record s { override_timers = set_row s.override_timers k row })
    (lowered_anew end (row_at s.override_timers k))

overrides_if : (b : Bool) (s : State) (k : Key) (end : ℕ)
    → (if b then with_override_timer s k (LowerTo end) else s) ≡ (if b then lower_override_timer s k end else s)
overrides_if b s k end = ap (λ (t : State). if b then t else s) (overrides s k end)

if_heard : (b : Bool) (change : TimerMove) (s : State)
    → fold after_move s (heard_if b change) ≡ (if b then after_move s change else s)
if_heard true change s = refl
if_heard false change s = refl

module _ (o : State) (hop : Hop) (i w : ℕ) where
  -- ---- Joins

  join_of_kind : (holdtime g address : ℕ) (kind : EntryKind) (s : State)
      → fold after_move s
      (heard_in_join o hop (suppressed_end o hop.iface.number w holdtime) (key_by i g address kind))
      ≡ join_seen o holdtime w hop s (g, entry kind address)
  unfolding heard_of_join after_move change_of with_override_timer moved_override_timer cancel_override_timer set_row join_seen
  join_of_kind holdtime g address Star s = if_heard (is_star_towards o hop g) _ s
  join_of_kind holdtime g address Source s = if_heard (is_source_towards o hop g address) _ s
  join_of_kind holdtime g address SourceRpt s = if_heard (is_unpruned_towards o hop g address) _ s

  join_heard : (holdtime : ℕ) (s : State) (n : Named)
      → fold after_move s (heard_in_join o hop (suppressed_end o hop.iface.number w holdtime) (named_key i n))
      ≡ join_seen o holdtime w hop s n
  join_heard holdtime s n = join_of_kind holdtime n.0 (n.1).address.bits (n.1).kind s

  -- ---- Prunes

  abbrev end : ℕ
  end = override_end o hop.iface.number w

  source_heard : (g : ℕ) (source : Addr) (s : State)
      → fold after_move s (heard_of_source o hop end (addr g) source) ≡ lower_source_timer o w hop g source.bits s
  unfolding heard_of_source after_move
  source_heard g source s = if_heard (is_source_towards o hop g source.bits) _ s

  module _ (g : ℕ) where
    abbrev lowered : State → ℕ → State
    lowered t src = lower_source_timer o w hop g src t

    abbrev towards : ℕ → Bool
    towards src = same_hop (rpf_source o g src) (Some hop)

    abbrev key_with : IfaceId → Addr → Bool → Option Addr → Key
    key_with iface group rpt source = record { iface = iface; group = group; source = source; rpt = rpt }

    lowered_by : (src : ℕ) (s : State) (c : Bool) → towards src ≡ c
        → (if c then lower_join_timer s (source_key 0 g src) end else s) ≡ lowered s src
    lowered_by src s c is = ap (λ (b : Bool). if b then lower_join_timer s (source_key 0 g src) end else s) (sym is)

    one_source : (source : Addr) (left : List TimerMove) (sources : List ℕ) (s : State)
        → ((t : State) → fold after_move t left ≡ fold lowered t (filter towards sources)) → (c : Bool)
        → towards source.bits ≡ c
        → fold after_move s (heard_of_source o hop end (addr g) source ++ left)
        ≡ fold lowered s (cond (towards source.bits) (source.bits ∷ filter towards sources) (filter towards sources))
    unfolding heard_of_source after_move
    one_source source left sources s rest true is =
        rw is
        (rest (lower_join_timer s (source_key 0 g source.bits) end)
        ∙ ap (λ (t : State). fold lowered t (filter towards sources)) (lowered_by source.bits s true is))
    one_source source left sources s rest false is = rw is (rest s)

    one_timer : (iface : IfaceId) (group : Addr) (rpt : Bool) (row : JoinTimerRow) (t : Table JoinTimerRow)
        (keys : List Key) → ((s : State) → fold after_move s (heard_of_timers o hop end (addr g) t)
        ≡ fold lowered s (filter towards (map source_in keys))) → (b : Bool) (source : Option Addr) (s : State)
        → fold after_move s (heard_of_timers o hop end (addr g)
        (cond b ((key_with iface group rpt source, row) ∷ t) t))
        ≡ fold lowered s (filter towards (map source_in
        (cond (b && not (is_star (key_with iface group rpt source))) (key_with iface group rpt source ∷ keys) keys)))
    unfolding heard_of_timers heard_of_timer
    one_timer iface group rpt row t keys rest false source s = rest s
    one_timer iface group rpt row t keys rest true None s = rest s
    one_timer iface group rpt row t keys rest true (Some source) s =
        one_source source (heard_of_timers o hop end (addr g) t) (map source_in keys) s rest (towards source.bits) refl

    timers_heard : (t : Table JoinTimerRow) (s : State)
        → fold after_move s (heard_of_timers o hop end (addr g) (filter (λ e. is_of_group g e.0) t))
        ≡ fold lowered s
        (filter towards (map source_in (filter (λ k. is_of_group g k && not (is_star k)) (keys_in t))))
    unfolding heard_of_timers keys_in
    timers_heard [] s = refl
    timers_heard (e ∷ t) s =
        one_timer (e.0).iface (e.0).group (e.0).rpt e.1 (filter (λ e. is_of_group g e.0) t)
        (filter (λ k. is_of_group g k && not (is_star k)) (keys_in t)) (timers_heard t) (is_of_group g e.0) (e.0).source
        s

    star_pruned : (s : State)
        → fold after_move s (heard_of_prune o hop end (addr g) None) ≡ prune_seen o w hop s (g, entry Star 0)
    unfolding heard_of_prune after_move prune_seen sources_joined_towards
    star_pruned s =
        fold-append after_move s (heard_if (is_star_towards o hop g) (TimerMove.LowerJoin (addr g) None end))
        (heard_of_timers o hop end (addr g) (timers_of o g))
        ∙ ap (λ t. fold after_move t (heard_of_timers o hop end (addr g) (timers_of o g)))
        (if_heard (is_star_towards o hop g) (TimerMove.LowerJoin (addr g) None end) s)
        ∙ timers_heard o.join_timers _

    source_pruned : (source : Addr) (s : State)
        → fold after_move s (heard_of_prune o hop end (addr g) (Some source))
        ≡ lower_tree_timer o w hop g source.bits (lower_source_timer o w hop g source.bits s)
    unfolding heard_of_prune after_move change_of
    source_pruned source s =
        fold-append after_move s (heard_of_source o hop end (addr g) source)
        (heard_if (is_unpruned_towards o hop g source.bits) (TimerMove.Override (record { source = source; group = addr g }) (Change.LowerTo end)))
        ∙ ap (λ t. fold after_move t
        (heard_if (is_unpruned_towards o hop g source.bits) (TimerMove.Override (record { source = source; group = addr g }) (Change.LowerTo end))))
        (source_heard g source s)
        ∙ if_heard (is_unpruned_towards o hop g source.bits) (TimerMove.Override (record { source = source; group = addr g }) (Change.LowerTo end)) _
        ∙ overrides_if (is_unpruned_towards o hop g source.bits) _ _ _

    prune_of_kind : (address : ℕ) (kind : EntryKind) (s : State)
        → fold after_move s
        (heard_of_prune o hop end (key_by i g address kind).group (key_by i g address kind).source)
        ≡ prune_seen o w hop s (g, entry kind address)
    unfolding prune_seen
    prune_of_kind address Star s = star_pruned s
    prune_of_kind address Source s = source_pruned (addr address) s
    prune_of_kind address SourceRpt s = source_pruned (addr address) s

  prune_heard : (s : State) (n : Named)
      → fold after_move s (heard_of_prune o hop end (named_key i n).group (named_key i n).source)
      ≡ prune_seen o w hop s n
  prune_heard s n = prune_of_kind n.0 (n.1).address.bits (n.1).kind s

-- ---- the message

is_star_kind : (i g address : ℕ) (kind : EntryKind)
    → same_bool true (is_star (key_by i g address kind)) ≡ is_star_entry (g, entry kind address)
is_star_kind i g address Star = refl
is_star_kind i g address Source = refl
is_star_kind i g address SourceRpt = refl

is_other_kind : (i g address : ℕ) (kind : EntryKind)
    → same_bool false (is_star (key_by i g address kind)) ≡ not (is_star_entry (g, entry kind address))
is_other_kind i g address Star = refl
is_other_kind i g address Source = refl
is_other_kind i g address SourceRpt = refl

module _ (s : State) (w i : ℕ) (m : JoinPrune) where
  abbrev hop : Hop
  hop = hop_at i m.upstream

  abbrev in_joins : Bool → List TimerMove
  in_joins star = heard_in_joins s hop (suppressed_end s i w m.holdtime) star (joined_keys s i m)

  abbrev in_prunes : List TimerMove
  in_prunes = heard_in_prunes s hop (override_end s i w) (pruned_keys i m)

  stars_heard : (t : State)
      → fold after_move t (in_joins true)
      ≡ fold (join_seen s m.holdtime w hop) t (filter is_star_entry (accepted_joins s m))
  unfolding heard_in_joins joined_keys
  stars_heard t =
      passing_entries after_move (join_seen s m.holdtime w hop) (named_key i)
      (heard_in_join s hop (suppressed_end s i w m.holdtime)) (join_heard s hop i w m.holdtime)
      (λ k. same_bool true (is_star k)) is_star_entry
      (λ n. is_star_kind i n.0 (n.1).address.bits (n.1).kind) (accepted_joins s m) t

  others_heard : (t : State)
      → fold after_move t (in_joins false)
      ≡ fold (join_seen s m.holdtime w hop) t (filter (λ n. not (is_star_entry n)) (accepted_joins s m))
  unfolding heard_in_joins joined_keys
  others_heard t =
      passing_entries after_move (join_seen s m.holdtime w hop) (named_key i)
      (heard_in_join s hop (suppressed_end s i w m.holdtime)) (join_heard s hop i w m.holdtime)
      (λ k. same_bool false (is_star k)) (λ n. not (is_star_entry n))
      (λ n. is_other_kind i n.0 (n.1).address.bits (n.1).kind) (accepted_joins s m) t

  prunes_heard : (t : State)
      → fold after_move t in_prunes ≡ fold (prune_seen s w hop) t (accepted_prunes m)
  unfolding heard_in_prunes pruned_keys
  prunes_heard t =
      all_entries after_move (prune_seen s w hop) (named_key i)
      (λ (k : Key). heard_of_prune s hop (override_end s i w) k.group k.source) (prune_heard s hop i w)
      (accepted_prunes m) t

  pub all_heard : (changes : List TimerMove) → changes ≡ (in_joins true ++ in_joins false) ++ in_prunes
      → after_moves s changes ≡ seen s w i m
  unfolding after_moves seen
  all_heard changes are =
      ap (λ xs. fold after_move s xs) are
      ∙ fold-append after_move s (in_joins true ++ in_joins false) in_prunes
      ∙ ap (λ t. fold after_move t in_prunes)
      (fold-append after_move s (in_joins true) (in_joins false)
      ∙ ap (λ t. fold after_move t (in_joins false)) (stars_heard s)
      ∙ others_heard _)
      ∙ prunes_heard _

  -- as one loop after the other gathers them
  pub gathered : {v early late holdtime : ℕ} {to : Hop} {stars others pruned : List Key}
      {first second third fourth last : List TimerMove} → v ≡ w → to ≡ hop → holdtime ≡ m.holdtime
      → early ≡ suppressed_end s i v holdtime → late ≡ override_end s i v → stars ≡ joined_keys s i m
      → others ≡ joined_keys s i m → pruned ≡ pruned_keys i m → first ≡ []
      → second ≡ first ++ heard_in_joins s to early true stars
      → third ≡ second ++ heard_in_joins s to early false others
      → after_moves s fourth ≡ after_moves s (third ++ heard_in_prunes s to late pruned) → last ≡ fourth
      → after_moves s last ≡ seen s w i m
  gathered {late = late} {to = to} {pruned = pruned} {third = third} {last = last} drawn is_hop is_holdtime is_early
      is_late are_stars are_others are_pruned none one two three four =
      let nothing : [] ++ in_joins true ≡ in_joins true = refl in
      ap (after_moves s) four ∙ three ∙ all_heard (third ++ heard_in_prunes s to late pruned) (cc)
