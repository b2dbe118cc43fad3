-- What an event's own change leaves of a stream.
use Rattle.std.{proofs.Common.{◌≡◌, ◌∙◌, ℕ, ◌==◌, ◌&&◌, ◌||◌, Bool, true, false, not, List, filter, Some, refl, ap, subst, arith}}
use Rattle.pim_ip.{specs.Ipv4.Packet}
use Rattle.pim_types.{specs.{Keys.{iface_key, is_on, same_key, source_key}, declared.{config.IfaceId.IfaceId, fact.{AssertMetric.AssertMetric, AssertRow.AssertRow, DownstreamRow.DownstreamRow, InterfaceRow.InterfaceRow, Key.Key, SourceRow.SourceRow}}}, proofs.Keys.equal_keys}
use Rattle.pim_wire.{specs.{declared.{assert.Assert.Assert as AssertMessage, hello.Hello.Hello as HelloValue}, Values.{Encapsulated, JoinPrune, Null}}}
use Rattle.igmp_wire.{specs.Values.{Query as QueryValue, Record}}
use Rattle.pim_model.{specs.{declared.accepted.Accepted.Accepted, Asserts.{assert_as_loser, assert_as_winner, assert_at, assert_forgotten, assert_in_no_info, assert_received, data_seen, loses, loses_first, wins, wins_again, with_spt_bit}, Downstream.{asserts_after_joins, keys_taken, to_me}, Forwarding.{forwarded, list_chosen, register_at_rp, register_received, source_here, source_joined, spt_updated, stray, watched, when}, Hellos.{hello_received, hello_triggered, hellos_triggered, is_lost_to, neighbour_replaced, neighbour_restarted}, Messages.Message, Querier.{is_querier, is_skipped, lower_group, lower_queried, lower_sources, querier_elected, querier_up, query_asked, query_group, query_seen, query_sources, querying, record_seen, report_seen, send_sources, sources_sent}, Records.{Asked, with_members, with_record, with_repeats_of_rows}, Registers.{register_stop_seen, settle_register, with_keepalive}, Seen.{cancel_override_timer, lower_join_timer, lower_override_timer, raise_join_timer, seen}, Sets.{is_loser, spt_bit}, State.{State, is_up}, Step.{change, iface_down, iface_up, rps_replaced}, Tables.{Table, drop_where, has_row, row_at}}}
use Rattle.law_settled.{proofs.{ListLaws.by_cond, RowLaws.{has_row_dropped, has_row_map, has_row_put, row_kept, row_put, row_put_away}, TurnLaws.kept_in_turn, SeenLaws.kept_by_seen}}
use Rattle.law_streams.{proofs.{Climbs.swapped, Taken.apart_keys, Rows.{filtered_good, put_good}, Settles.bit_of, Ways.SameGround}}
use Rattle.law_events.{proofs.{Configured.{change_ground, ground}, JoinPrunes.none_there}}

-- ---- changes that touch none of these tables

record Facts : Type 0 where
  interfaces : Table InterfaceRow
  downstream : Table DownstreamRow
  asserts : Table AssertRow
  sources : Table SourceRow

abbrev facts : State → Facts
facts s = record { interfaces = s.interfaces; downstream = s.downstream; asserts = s.asserts; sources = s.sources }

abbrev SameFacts : State → State → Type 0
SameFacts s t = facts t ≡ facts s

asked_facts : (i g : ℕ) (s : State) (a : Asked) → SameFacts s (query_asked i g s a).0
unfolding query_asked query_group lower_group query_sources lower_sources send_sources sources_sent
asked_facts i g s a = grind arith

record_facts : (i : ℕ) (s : State) (r : Record) → SameFacts s (record_seen i s r).0
unfolding record_seen with_record with_members with_repeats_of_rows
record_facts i s r =
    by_cond (λ (p : State × List Message). SameFacts s p.0) (is_querier s i) _ _
    (kept_in_turn (query_asked i r.group) (λ t. SameFacts s t) (λ t a f. asked_facts i r.group t a ∙ f) _ _ refl) refl

report_facts : (s : State) (i : ℕ) (records : List Record) → SameFacts s (report_seen s i records).0
unfolding report_seen
report_facts s i records =
    kept_in_turn (record_seen i) (λ t. SameFacts s t) (λ t r f. record_facts i t r ∙ f)
    (filter (λ r. not (is_skipped r)) records) s refl

query_facts : (s : State) (i from : ℕ) (q : QueryValue) → SameFacts s (query_seen s i from q)
unfolding query_seen lower_queried querier_elected lower_group lower_sources
query_facts s i from q = grind arith

seen_facts : (s : State) (w i : ℕ) (m : JoinPrune) → SameFacts s (seen s w i m)
unfolding raise_join_timer lower_join_timer cancel_override_timer lower_override_timer
seen_facts s w i m = kept_by_seen (λ t. SameFacts s t) s w i m (λ t k end f. f) (λ t k f. f) (λ t k f. f) (λ t k f. f) refl

stop_facts : (s : State) (w g src : ℕ) → SameFacts s (register_stop_seen s w g src)
unfolding register_stop_seen
stop_facts s w g src = refl

-- ---- a Register may begin a source's fact

record Plain : Type 0 where
  interfaces : Table InterfaceRow
  downstream : Table DownstreamRow
  asserts : Table AssertRow

abbrev plain : State → Plain
plain s = record { interfaces = s.interfaces; downstream = s.downstream; asserts = s.asserts }

register_plain : (s : State) (p : Packet) (g src : ℕ) (is_null : Bool) → plain (register_received s p g src is_null).state ≡ plain s
unfolding register_received register_at_rp with_keepalive
register_plain s p g src is_null = grind arith

abbrev Off : Key → State → Type 0
Off q t = bit_of (row_at t.sources q) ≡ false

keepalive_off : (q : Key) (s : State) (g src : ℕ) → Off q s → Off q (with_keepalive s g src)
unfolding with_keepalive spt_bit
keepalive_off q s g src f = go (same_key q (source_key 0 g src)) refl
  where
    go : (b : Bool) → same_key q (source_key 0 g src) ≡ b → Off q (with_keepalive s g src)
    go true same =
        put_good bit_of refl (source_key 0 g src) q _ s.sources
        (subst (λ (x : Key). bit_of (row_at s.sources x) ≡ false) (equal_keys q (source_key 0 g src) same) f) f
    go false off = ap bit_of (row_put_away (source_key 0 g src) q (apart_keys (source_key 0 g src) q off) _ s.sources) ∙ f

when_off : (q : Key) (b : Bool) (s : State) (g src : ℕ) → Off q s → Off q (when b (λ t. with_keepalive t g src) s)
when_off q b s g src f = grind (arith, keepalive_off)

register_off : (q : Key) (s : State) (p : Packet) (g src : ℕ) (is_null : Bool) → Off q s
    → Off q (register_received s p g src is_null).state
unfolding register_received register_at_rp
register_off q s p g src is_null f = grind (arith, by_cond, when_off)

-- ---- data

chosen_plain : (s : State) (g src iif : ℕ) → (list_chosen s g src iif).state.downstream ≡ s.downstream
unfolding list_chosen stray watched with_keepalive data_seen wins
chosen_plain s g src iif = grind arith

chosen_interfaces : (s : State) (g src iif : ℕ) → (list_chosen s g src iif).state.interfaces ≡ s.interfaces
unfolding list_chosen stray watched with_keepalive data_seen wins
chosen_interfaces s g src iif = grind arith

here_plain : (s : State) (g src iif : ℕ) → plain (source_here s g src iif) ≡ plain s
unfolding source_here settle_register with_keepalive
here_plain s g src iif = grind arith

joined_plain : (s : State) (g src iif : ℕ) → plain (source_joined s g src iif) ≡ plain s
unfolding source_joined with_keepalive
joined_plain s g src iif = grind arith

spt_plain : (s : State) (g src iif : ℕ) → plain (spt_updated s g src iif) ≡ plain s
unfolding spt_updated with_spt_bit
spt_plain s g src iif = grind arith

renewed_plain : (s : State) (g src iif : ℕ)
    → plain (spt_updated (source_joined (source_here s g src iif) g src iif) g src iif) ≡ plain s
renewed_plain s g src iif = grind (arith, spt_plain, joined_plain, here_plain)

data_downstream : (s : State) (g src iif : ℕ) → (forwarded s g src iif).state.downstream ≡ s.downstream
unfolding forwarded
data_downstream s g src iif = chosen_plain _ g src iif ∙ ap (λ (x : Plain). x.downstream) (renewed_plain s g src iif)

data_interfaces : (s : State) (g src iif : ℕ) → (forwarded s g src iif).state.interfaces ≡ s.interfaces
unfolding forwarded
data_interfaces s g src iif = chosen_interfaces _ g src iif ∙ ap (λ (x : Plain). x.interfaces) (renewed_plain s g src iif)

abbrev Unlost : Key → State → Type 0
Unlost q t = is_loser (row_at t.asserts q) ≡ false

seen_unlost : (q : Key) (s : State) (k : Key) → Unlost q s → Unlost q (data_seen s k).0
unfolding data_seen wins
seen_unlost q s k f =
    by_cond (λ (p : State × List Message). Unlost q p.0) _ _ _ (put_good is_loser refl k q _ s.asserts refl f) f

watched_unlost : (q : Key) (s : State) (g src : ℕ) → Unlost q s → Unlost q (watched s g src)
unfolding watched with_keepalive
watched_unlost q s g src f = grind (arith, f)

stray_unlost : (q : Key) (s : State) (g src iif : ℕ) → Unlost q s → Unlost q (stray s g src iif).state
unfolding stray
stray_unlost q s g src iif f = grind (arith, seen_unlost)

chosen_unlost : (q : Key) (s : State) (g src iif : ℕ) → Unlost q s → Unlost q (list_chosen s g src iif).state
unfolding list_chosen
chosen_unlost q s g src iif f = grind (arith, watched_unlost, stray_unlost)

data_unlost : (q : Key) (s : State) (g src iif : ℕ) → Unlost q s → Unlost q (forwarded s g src iif).state
unfolding forwarded
data_unlost q s g src iif f = grind (arith, chosen_unlost, renewed_plain)

-- ---- a Hello

middle_false : (a b c : Bool) → b ≡ false → not (a && b && c) ≡ true
middle_false a b c e = grind arith

restarted_unlost : (q : Key) (o s : State) (i address w : ℕ) → Unlost q s → Unlost q (neighbour_restarted o i address w s)
unfolding neighbour_restarted
restarted_unlost q o s i address w f =
    filtered_good is_loser refl (λ e. not (is_lost_to i address e))
    (λ e good. middle_false (is_on i e.0) (is_loser (Some e.1)) _ good) q s.asserts f

hello_unlost : (q : Key) (s : State) (i address : ℕ) (h : HelloValue) (w : ℕ) → Unlost q s → Unlost q (hello_received s i address h w)
unfolding hello_received hello_triggered neighbour_replaced
hello_unlost q s i address h w f = grind (arith, by_cond, restarted_unlost)

hello_rest : (s : State) (i address : ℕ) (h : HelloValue) (w : ℕ)
    → (hello_received s i address h w).downstream ≡ s.downstream
unfolding hello_received hello_triggered neighbour_replaced neighbour_restarted
hello_rest s i address h w = grind arith

hello_sources : (s : State) (i address : ℕ) (h : HelloValue) (w : ℕ) → (hello_received s i address h w).sources ≡ s.sources
unfolding hello_received hello_triggered neighbour_replaced neighbour_restarted
hello_sources s i address h w = grind arith

hello_up : (s : State) (i address : ℕ) (h : HelloValue) (w : ℕ) (j : ℕ) → is_up (hello_received s i address h w) j ≡ is_up s j
unfolding hello_received hello_triggered neighbour_replaced neighbour_restarted hellos_triggered
hello_up s i address h w j = grind (arith, by_cond, has_row_map)

-- ---- a Join/Prune to the router

joined_unlost : (q : Key) (s : State) (i : ℕ) (m : JoinPrune) → Unlost q s → Unlost q (to_me s i m)
unfolding to_me keys_taken asserts_after_joins
joined_unlost q s i m f = filtered_good is_loser refl _ (λ e good. first_false (is_loser (Some e.1)) _ good) q s.asserts f
  where
    first_false : (a b : Bool) → a ≡ false → not (a && b) ≡ true
    first_false true b e = cc e
    first_false false b e = refl

joined_rest : (s : State) (i : ℕ) (m : JoinPrune) → (to_me s i m).sources ≡ s.sources
unfolding to_me keys_taken
joined_rest s i m = refl

-- ---- an Assert

assert_at_same : (s : State) (k : Key) (theirs : AssertMetric) → (assert_at s k theirs).0.interfaces ≡ s.interfaces
unfolding assert_at assert_in_no_info assert_as_winner assert_as_loser wins wins_again loses loses_first with_spt_bit
    assert_forgotten
assert_at_same s k theirs = grind arith

assert_interfaces : (s : State) (i from : ℕ) (a : AssertMessage) → (assert_received s i from a).0.interfaces ≡ s.interfaces
unfolding assert_received
assert_interfaces s i from a = grind (arith, assert_at_same)

-- ---- any change

-- which interfaces are up changes with Up and Down alone
abbrev pub IsStill : Accepted → Type 0
IsStill (Accepted.Up i) = ⊥
IsStill (Accepted.Down i) = ⊥
IsStill a = Unit {0}

up_by : (s t : Table InterfaceRow) (j : ℕ) → t ≡ s → has_row t (iface_key j) ≡ has_row s (iface_key j)
up_by s t j same = ap (λ (x : Table InterfaceRow). has_row x (iface_key j)) same

pub up_same : (s : State) (w : ℕ) (a : Accepted) → IsStill a → (j : ℕ) → is_up (change s w a).state j ≡ is_up s j
unfolding change rps_replaced to_me keys_taken register_stop_seen
up_same s w a still j =
    grind (arith, hello_up, up_by, seen_facts, assert_interfaces, query_facts, report_facts, data_interfaces, register_plain)

or_true : (b : Bool) → (b || true) ≡ true
or_true b = grind arith

-- an interface stays up but for its own Down
abbrev pub IsNotDown : ℕ → Accepted → Type 0
IsNotDown j (Accepted.Down i) = (i.number == j) ≡ false
IsNotDown j a = Unit {0}

pub still_up : (s : State) (w j : ℕ) (a : Accepted) → IsNotDown j a → is_up s j ≡ true → is_up (change s w a).state j ≡ true
unfolding change iface_up querier_up querying iface_down
still_up s w j a off e = grind (arith, has_row_put, or_true, has_row_dropped, swapped, up_same)

-- asserts are lost by Asserts alone
abbrev pub IsNoAssert : Accepted → Type 0
IsNoAssert (Accepted.Assert i from a) = ⊥
IsNoAssert a = Unit {0}

unlost_by : (q : Key) (s t : Table AssertRow) → t ≡ s → is_loser (row_at s q) ≡ false → is_loser (row_at t q) ≡ false
unlost_by q s t same f = ap (λ (x : Table AssertRow). is_loser (row_at x q)) same ∙ f

down_unlost : (q : Key) (s : State) (i : ℕ) → Unlost q s → Unlost q (iface_down s i)
unfolding iface_down has_row
down_unlost q s i f = go (is_on i q) refl
  where
    go : (b : Bool) → is_on i q ≡ b → is_loser (row_at (drop_where (is_on i) s.asserts) q) ≡ false
    go true on =
        ap is_loser (none_there (row_at (drop_where (is_on i) s.asserts) q)
        (has_row_dropped q (is_on i) s.asserts ∙ ap (λ b. not b && has_row s.asserts q) on))
    go false off = ap is_loser (row_kept (is_on i) q off s.asserts) ∙ f

pub still_unlost : (q : Key) (s : State) (w : ℕ) (a : Accepted) → IsNoAssert a → Unlost q s → Unlost q (change s w a).state
unfolding change rps_replaced iface_up querier_up querying register_stop_seen
still_unlost q s w a other f =
    grind (arith, down_unlost, hello_unlost, joined_unlost, unlost_by, seen_facts, query_facts, report_facts, data_unlost, register_plain)

-- SPTbit is set by data and by Asserts alone; and the routes and the RP ranges, and which interfaces are up, are the
-- same
abbrev pub IsQuietFor : Accepted → Type 0
IsQuietFor (Accepted.Up i) = ⊥
IsQuietFor (Accepted.Down i) = ⊥
IsQuietFor (Accepted.Routes routes) = ⊥
IsQuietFor (Accepted.Rps ranges) = ⊥
IsQuietFor (Accepted.Assert i from a) = ⊥
IsQuietFor (Accepted.Data i p) = ⊥
IsQuietFor a = Unit {0}

off_by : (q : Key) (s t : Table SourceRow) → t ≡ s → bit_of (row_at s q) ≡ false → bit_of (row_at t q) ≡ false
off_by q s t same f = ap (λ (x : Table SourceRow). bit_of (row_at x q)) same ∙ f

-- the facts of sources change with Asserts, data and Registers alone
abbrev pub IsNoSource : Accepted → Type 0
IsNoSource (Accepted.Assert i from a) = ⊥
IsNoSource (Accepted.Data i p) = ⊥
IsNoSource (Accepted.Register p r) = ⊥
IsNoSource a = Unit {0}

pub same_sources : (s : State) (w : ℕ) (a : Accepted) → IsNoSource a → (change s w a).state.sources ≡ s.sources
unfolding change rps_replaced iface_up querier_up querying iface_down
same_sources s w a none = grind (arith, hello_sources, joined_rest, seen_facts, query_facts, report_facts, stop_facts)

pub still_off : (q : Key) (s : State) (w : ℕ) (a : Accepted) → IsQuietFor a → Off q s → Off q (change s w a).state
unfolding change
still_off q s w a quiet f = grind (arith, register_off, off_by, same_sources)

pub still_ground : (s : State) (w : ℕ) (a : Accepted) → IsQuietFor a → ground (change s w a).state ≡ ground s
still_ground s w a quiet = grind (arith, change_ground)

pub quiet_still : (a : Accepted) → IsQuietFor a → IsStill a
quiet_still a quiet = grind arith

pub same_ground : (s : State) (w : ℕ) (a : Accepted) → IsQuietFor a → SameGround s (change s w a).state
same_ground s w a quiet = grind (arith, ground, still_ground, up_same, quiet_still)

-- ---- which rows of Joins change

abbrev pub IsNoJoin : Accepted → Type 0
IsNoJoin (Accepted.Down i) = ⊥
IsNoJoin (Accepted.JoinPruneToMe i m) = ⊥
IsNoJoin a = Unit {0}

assert_at_rows : (s : State) (k : Key) (theirs : AssertMetric) → (assert_at s k theirs).0.downstream ≡ s.downstream
unfolding assert_at assert_in_no_info assert_as_winner assert_as_loser wins wins_again loses loses_first with_spt_bit
    assert_forgotten
assert_at_rows s k theirs = grind arith

assert_rows : (s : State) (i from : ℕ) (a : AssertMessage) → (assert_received s i from a).0.downstream ≡ s.downstream
unfolding assert_received
assert_rows s i from a = grind (arith, assert_at_rows)

pub same_rows : (s : State) (w : ℕ) (a : Accepted) → IsNoJoin a → (change s w a).state.downstream ≡ s.downstream
unfolding change rps_replaced iface_up querier_up querying register_stop_seen
same_rows s w (Accepted.Advance moment) other = refl
same_rows s w (Accepted.Up i) other = refl
same_rows s w (Accepted.Down i) other = absurd other
same_rows s w (Accepted.Routes routes) other = refl
same_rows s w (Accepted.Rps ranges) other = refl
same_rows s w (Accepted.Hello i from h) other = hello_rest s i.number from.bits h w
same_rows s w (Accepted.JoinPruneToMe i m) other = absurd other
same_rows s w (Accepted.JoinPruneSeen i m) other = ap (λ (x : Facts). x.downstream) (seen_facts s w i.number m)
same_rows s w (Accepted.Assert i from a) other = assert_rows s i.number from.bits a
same_rows s w (Accepted.Query i from r) other = ap (λ (x : Facts). x.downstream) (query_facts s i.number from.bits r)
same_rows s w (Accepted.Report i records) other = ap (λ (x : Facts). x.downstream) (report_facts s i.number records)
same_rows s w (Accepted.Data i p) other = data_downstream s p.destination p.source i.number
same_rows s w (Accepted.Register p (Encapsulated inner)) other =
    ap (λ (x : Plain). x.downstream) (register_plain s p inner.destination inner.source false)
same_rows s w (Accepted.Register p (Null source group)) other =
    ap (λ (x : Plain). x.downstream) (register_plain s p group source true)
same_rows s w (Accepted.RegisterStop from r) other = refl

-- ---- a packet of another source, or of another group

sources_so : (s t : Table SourceRow) (q : Key) → t ≡ s → bit_of (row_at s q) ≡ false → bit_of (row_at t q) ≡ false
sources_so s t q same f = ap (λ x. bit_of (row_at x q)) same ∙ f

module _ (q : Key) (g src iif : ℕ) where
  here_off : (s : State) → Off q s → Off q (source_here s g src iif)
  unfolding source_here settle_register
  here_off s f = by_cond (Off q) _ _ _ (keepalive_off q s g src f) f

  joined_off : (s : State) → Off q s → Off q (source_joined s g src iif)
  unfolding source_joined
  joined_off s f = when_off q _ s g src f

  watched_off : (s : State) → Off q s → Off q (watched s g src)
  unfolding watched
  watched_off s f = when_off q _ s g src f

  seen_sources : (s : State) (k : Key) → (data_seen s k).0.sources ≡ s.sources
  unfolding data_seen wins
  seen_sources s k = grind arith

  pub stray_sources : (s : State) → (stray s g src iif).state.sources ≡ s.sources
  unfolding stray
  stray_sources s = grind (arith, seen_sources)

  chosen_off : (s : State) → Off q s → Off q (list_chosen s g src iif).state
  unfolding list_chosen
  chosen_off s f = grind (arith, watched_off, sources_so, stray_sources)

  module _ (apart : same_key q (source_key 0 g src) ≡ false) where
    updated_off : (s : State) → Off q s → Off q (spt_updated s g src iif)
    unfolding spt_updated with_spt_bit
    updated_off s f = grind (arith, bit_of, row_put_away, apart_keys)

    pub other_data_off : (s : State) → Off q s → Off q (forwarded s g src iif).state
    unfolding forwarded
    other_data_off s f = chosen_off _ (updated_off _ (joined_off _ (here_off s f)))

pub data_ground : (s : State) (w : ℕ) (i : IfaceId) (p : Packet) → SameGround s (change s w (Accepted.Data i p)).state
data_ground s w i p = grind (arith, ground, change_ground, up_same)

-- what is chosen leaves SPTbit
module _ (g src iif : ℕ) where
  spt_kept : (s : State) → spt_bit (watched s g src) g src ≡ spt_bit s g src
  unfolding watched with_keepalive spt_bit
  spt_kept s = grind (arith, row_put)

  stray_spt : (s : State) → spt_bit (stray s g src iif).state g src ≡ spt_bit s g src
  unfolding spt_bit
  stray_spt s = ap (λ x. bit_of (row_at x (source_key 0 g src))) (stray_sources (source_key 0 g src) g src iif s)

  pub chosen_spt : (s : State) → spt_bit (list_chosen s g src iif).state g src ≡ spt_bit s g src
  unfolding list_chosen
  chosen_spt s = let a = spt_kept s in let b = stray_spt s in grind (arith, a, b)
