-- A packet on the shared tree makes the fact of its source, or adds nothing.
use Rattle.std.{proofs.{Common.{◌≡◌, ◌∙◌, ℕ, ◌+◌, ◌≤◌, ◌&&◌, not, Bool, true, false, List, [], length, inl, inr, Some, refl, sym, ap, subst, arith}, lemmas.Bool.{both_ways, or_left, Decides.nat_tests}}, specs.{Cmp.Derive.both_true, List.AllByRecursion}}
use Rattle.pim_ip.{specs.Ipv4.Packet}
use Rattle.pim_types.{specs.{Keys.{same_key, source_key}, declared.{event.Event.Event, fact.{AssertRow.AssertRow, DownstreamRow.DownstreamRow, GroupRecordRow.GroupRecordRow, Key.Key, NeighbourRow.NeighbourRow, SourceRecordRow.SourceRecordRow, SourceRow.SourceRow}}}, proofs.Keys.equal_keys}
use Rattle.pim_model.{specs.{declared.accepted.Accepted.Accepted, Asserts.{assert_forgotten, with_spt_bit, without_spt, without_spt_bit}, Cause.done_as, Downstream.is_named, Forwarding.{forwarded, list_chosen, source_here, source_joined, spt_updated, stray, watched, when}, Firing.settled, Full.{counted, distinct, needed, once_more, passes_limit, source_is_full}, Messages.Message, Registers.{settle_register, settle_registers, with_keepalive}, Sets.spt_bit, State.State, Step.{change, done, step}, Tables.{Table, has_row, keys_in, put}, Unicast.{is_rpf_interface, is_rpf_interface_rp}}}
use Rattle.law_settled.{proofs.{ListLaws.{by_cond, each_more}, RowLaws.{has_row_put, still_absent}, SettlingLaws.kept_by_clearing, RisingKeys.up_of_sorted, Steps.step_is_settled, Unsettled.{Untold, cleared_in_the_end}}, specs.Ready.IsSettled}
use Rattle.law_streams.{specs.{Bounded.AddsNone, Copies.happens, Served.{OnATree, renewed}, Passing.IsOnShared, Room.OwnPacketKeepsRoom}, proofs.{Counting.{Within, in_keys, longer_by_needed, none_needed, own}, Fewer.settled_none, Made.step_taken, Leaves.taken_is_done, Passes.fewer_asserts, Changes.stray_sources, Room.known_is_not_full, Serving.{met, on_a_tree}, Turning.{IsWith, met_with, when_with}}}

-- ---- what the packet changes

module _ (s : State) (g src up : ℕ) where
  abbrev Same : State → Type 0
  Same t = IsWith s g src up t

  bit_with : (t : State) → Same t → Same (with_spt_bit t g src)
  unfolding with_spt_bit
  bit_with t e = ap (λ (u : State). record u { sources = (with_spt_bit t g src).sources }) e

  renewed_with : Same (renewed s g src up)
  unfolding renewed spt_updated
  renewed_with = go _
    where
      go : (b : Bool) → Same (when b (λ t. with_spt_bit t g src) (met s g src up))
      go true = bit_with (met s g src up) (met_with s g src up)
      go false = met_with s g src up

  -- on a tree it makes no assert
  abbrev x : State
  x = renewed s g src up

  neither_tree : (is_rpf_interface x src up && spt_bit x g src) ≡ false → (is_rpf_interface_rp x g up && not (spt_bit x g src)) ≡ false
      → OnATree x g src up → ⊥
  neither_tree off other (inl e) = both_ways _ off e
  neither_tree off other (inr e) = both_ways _ other (both_true e.0 (ap not e.1))

  chosen_with : (a : Bool) → (is_rpf_interface x src up && spt_bit x g src) ≡ a → (b : Bool)
      → (is_rpf_interface_rp x g up && not (spt_bit x g src)) ≡ b → OnATree x g src up → Same (list_chosen x g src up).state
  unfolding list_chosen watched
  chosen_with true is b f on = rw is renewed_with
  chosen_with false is true f on = rw (is, f) (when_with s g src up _ x renewed_with)
  chosen_with false is false f on = absurd (neither_tree is f on)

  own_with : OnATree x g src up → Same (forwarded s g src up).state
  unfolding forwarded renewed
  own_with on = chosen_with (is_rpf_interface x src up && spt_bit x g src) refl (is_rpf_interface_rp x g up && not (spt_bit x g src)) refl on

-- ---- which sources have rows

module _ (g src : ℕ) (q : Key) (apart : same_key q (source_key 0 g src) ≡ false) where
  abbrev Absent : State → Type 0
  Absent t = has_row t.sources q ≡ false

  put_none : (r : SourceRow) (t : Table SourceRow) → has_row t q ≡ false → has_row (put t (source_key 0 g src) r) q ≡ false
  put_none r t e = has_row_put q (source_key 0 g src) r t ∙ rw (apart, e) refl

  kept_none : (t : State) → Absent t → Absent (with_keepalive t g src)
  unfolding with_keepalive
  kept_none t e = put_none _ t.sources e

  when_none : (b : Bool) (t : State) → Absent t → Absent (when b (λ u. with_keepalive u g src) t)
  when_none true t e = kept_none t e
  when_none false t e = e

  here_none : (up : ℕ) (s : State) → Absent s → Absent (source_here s g src up)
  unfolding source_here settle_register
  here_none up s e = by_cond Absent _ _ s (kept_none s e) e

  met_none : (up : ℕ) (s : State) → Absent s → Absent (met s g src up)
  unfolding source_joined
  met_none up s e = when_none _ (source_here s g src up) (here_none up s e)

  set_none : (b : Bool) (t : State) → Absent t → Absent (when b (λ u. with_spt_bit u g src) t)
  unfolding with_spt_bit
  set_none true t e = put_none _ t.sources e
  set_none false t e = e

  renewed_none : (up : ℕ) (s : State) → Absent s → Absent (renewed s g src up)
  unfolding renewed spt_updated
  renewed_none up s e = set_none _ (met s g src up) (met_none up s e)

  chosen_none : (up : ℕ) (t : State) → Absent t → Absent (list_chosen t g src up).state
  unfolding list_chosen watched
  chosen_none up t e =
      let a : Absent (watched t g src) = when_none _ t e in
      let b : Absent (stray t g src up).state = ap (λ (rows : Table SourceRow). has_row rows q) (stray_sources q g src up t) ∙ e in
      grind (arith, a, b, e)

  own_none : (up : ℕ) (s : State) → Absent s → Absent (forwarded s g src up).state
  unfolding forwarded renewed
  own_none up s e = chosen_none up (renewed s g src up) (renewed_none up s e)

  settled_none_so : (o : State) (c : State × List Message) (w : ℕ) → Absent c.0 → Absent (settled o c w).0
  unfolding settle_registers assert_forgotten without_spt_bit
  settled_none_so o c w e =
      ap (λ (u : Untold). has_row u.sources q) (cleared_in_the_end o c w)
      ∙ kept_by_clearing Absent (λ t k f. f) (λ t k f. still_absent q without_spt k t.sources f) o c.0 e

-- ---- the counts

no_room_for_less : (s t : State) → t.settings ≡ s.settings → counted t ≤ counted s → passes_limit s 1 ≡ false
    → passes_limit t 1 ≡ false
unfolding passes_limit
no_room_for_less s t same few has = rw same (grind (arith, nat_tests, few, has))

unknown_room : (s : State) (g src : ℕ) → has_row s.sources (source_key 0 g src) ≡ false → source_is_full s g src ≡ passes_limit s 1
unfolding source_is_full passes_limit needed distinct once_more is_named
unknown_room s g src none = rw none refl

module _ (s : State) (e : Event) (p : Packet) (up : ℕ) (rests : IsSettled s) (on : IsOnShared s p.destination p.source up)
    (none : has_row s.sources (source_key 0 p.destination p.source) ≡ false)
    (was : done_as (happens s e) ≡ Some (Accepted.Data (record { number = up }) p)) where
  abbrev g : ℕ
  g = p.destination

  abbrev src : ℕ
  src = p.source

  abbrev key : Key
  key = source_key 0 g src

  abbrev a : Accepted
  a = Accepted.Data (record { number = up }) p

  abbrev c : State
  c = (change s e.draw a).state

  abbrev told : State × List Message
  told = (c, (change s e.draw a).messages)

  abbrev t : State
  t = (step s e).state

  is_so : t ≡ (settled s told e.draw).0
  unfolding done
  is_so = ap (λ x. x.state) (step_taken s e a was ∙ taken_is_done s e.draw a refl)

  change_with : IsWith s g src up c
  unfolding change
  change_with = own_with s g src up (on_a_tree s g src up on.on_tree on.source_too)

  module _ (gone : has_row t.sources key ≡ false) where
    still_none : (q : Key) → has_row s.sources q ≡ false → same_key q key ≡ false → has_row t.sources q ≡ false
    unfolding change
    still_none q off apart =
        ap (λ (x : State). has_row x.sources q) is_so
        ∙ settled_none_so g src q apart s told e.draw (own_none g src q apart up s off)

    only_old : (q : Key) → has_row t.sources q ≡ true → has_row s.sources q ≡ true
    only_old q there = go (has_row s.sources q) refl (same_key q key) refl
      where
        go : (b : Bool) → has_row s.sources q ≡ b → (d : Bool) → same_key q key ≡ d → b ≡ true
        go true is d same = refl
        go false off true same =
            absurd (both_ways (has_row t.sources q) (ap (has_row t.sources) (equal_keys q key same) ∙ gone) there)
        go false off false apart = absurd (both_ways (has_row t.sources q) (still_none q off apart) there)

    within : AllByRecursion (Within s.sources []) t.sources
    within =
        each_more (λ (x : Key × SourceRow). is_named (keys_in t.sources) x.0 ≡ true) (Within s.sources [])
        (λ x f. or_left (is_named (keys_in s.sources) x.0) (is_named [] x.0)
        (sym (in_keys s.sources x.0) ∙ only_old x.0 (in_keys t.sources x.0 ∙ f))) t.sources (own t.sources)

    fewer_sources : length t.sources ≤ length s.sources
    fewer_sources =
        let bound : length t.sources ≤ length s.sources + needed s.sources [] =
        longer_by_needed s.sources [] t.sources (up_of_sorted t.sources (step_is_settled s e rests).ordered.sources) within in
        let no : needed s.sources [] ≡ 0 = none_needed s.sources in omega (arith, bound, no)

    adds : AddsNone c (settled s told e.draw).0
    adds = settled_none s told e.draw

    asserts_fewer : length ((settled s told e.draw).0).asserts ≤ length c.asserts
    asserts_fewer = fewer_asserts s told e.draw

    same_asserts : c.asserts ≡ s.asserts
    same_asserts = ap (λ (x : State). x.asserts) change_with

    fewer : counted t ≤ counted s
    unfolding counted
    fewer =
        let sources = fewer_sources in
        let f = adds in
        let other = asserts_fewer in
        let asserts : length ((settled s told e.draw).0).asserts ≤ length s.asserts = subst (λ (x : Table AssertRow). length ((settled s told e.draw).0).asserts ≤ length x) same_asserts other in
        let neighbours : length ((settled s told e.draw).0).neighbours ≤ length s.neighbours = subst (λ (x : Table NeighbourRow). length ((settled s told e.draw).0).neighbours ≤ length x) (ap (λ (x : State). x.neighbours) change_with) f.neighbours in
        let groups : length ((settled s told e.draw).0).group_records ≤ length s.group_records = subst (λ (x : Table GroupRecordRow). length ((settled s told e.draw).0).group_records ≤ length x) (ap (λ (x : State). x.group_records) change_with) f.groups in
        let members : length ((settled s told e.draw).0).source_records ≤ length s.source_records = subst (λ (x : Table SourceRecordRow). length ((settled s told e.draw).0).source_records ≤ length x) (ap (λ (x : State). x.source_records) change_with) f.members in
        let downstream : length ((settled s told e.draw).0).downstream ≤ length s.downstream = subst (λ (x : Table DownstreamRow). length ((settled s told e.draw).0).downstream ≤ length x) (ap (λ (x : State). x.downstream) change_with) f.downstream in
        sums (settled s told e.draw).0 t is_so neighbours groups members downstream asserts sources
      where
        sums : (u v : State) → v ≡ u → length u.neighbours ≤ length s.neighbours → length u.group_records ≤ length s.group_records
            → length u.source_records ≤ length s.source_records → length u.downstream ≤ length s.downstream
            → length u.asserts ≤ length s.asserts → length v.sources ≤ length s.sources
            → counted v ≤ counted s
        sums u v is a b d f h k =
            subst (λ (x : State). counted x ≤ counted s) (sym is)
            (let k2 : length u.sources ≤ length s.sources = subst (λ (x : State). length x.sources ≤ length s.sources) is k in
            omega (arith, a, b, d, f, h, k2))

    same_settings : t.settings ≡ s.settings
    same_settings = ap (λ (x : State). x.settings) is_so ∙ ((adds).settings ∙ ap (λ (x : State). x.settings) change_with)

pub own_packet_keeps_room : OwnPacketKeepsRoom
own_packet_keeps_room s e p up rests on none room was =
    go (has_row ((step s e).state).sources (source_key 0 p.destination p.source)) refl
  where
    go : (b : Bool) → has_row ((step s e).state).sources (source_key 0 p.destination p.source) ≡ b
        → source_is_full (step s e).state p.destination p.source ≡ false
    go true there = known_is_not_full (step s e).state p.destination p.source there
    go false gone =
        unknown_room (step s e).state p.destination p.source gone
        ∙ no_room_for_less s (step s e).state (same_settings s e p up rests on none was gone) (fewer s e p up rests on none was gone)
        (sym (unknown_room s p.destination p.source none) ∙ room)
