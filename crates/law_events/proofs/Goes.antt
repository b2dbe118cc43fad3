-- What goes after a change of neighbours, and which registers are settled, is of the touched keys. With the neighbours
-- that there were each state on the way agrees with the opening on all other keys.
use Rattle.std.{proofs.{Common.{◌≡◌, ◌&&◌, ◌||◌, ℕ, Bool, true, false, not, cond, List, ◌++◌, Some, refl, sym, ap, ◌∙◌, eq-eqb, arith}, lemmas.List.Folds.{list_all-append, list_any-append}}, specs.{Cmp.{first_so, second_so, Derive.both_true}, List.list_all, Option.option_map_or}}
use Rattle.pim_types.{specs.{declared.{fact.{AssertRow.AssertRow, Key.Key, NeighbourRow.NeighbourRow, SourceRow.SourceRow}, path.Path.Path}, Keys.{group_in, iface_in, is_star, source_in, source_key, star_key}}}
use Rattle.pim_model.{specs.{Asserts.{assert_forgotten, without_spt_bit}, Clearing.{ClearAssert, ClearSptBit, Cleared, assert_must_go, assert_to_clear, clear, clear_all, clearable_count, cleared, spt_must_go, spt_to_clear, to_clear}, Neighbours.{is_dr, is_dr_among, is_neighbour}, Receivers.{is_exclude, local_receiver_include}, Registers.{could_register, settle_registers}, Sets.is_winner, State.{Addressing, State, address_among, value_among}, Tables.{Table, keys_in, rows_on}, Unicast.route, Upstream.fact_keys}}
use Rattle.law_settled.{proofs.{ListLaws.{each_both, each_of_list, list_of_each}, TurnLaws.kept_to_the_end}}
use Rattle.law_events.{specs.{Locality.{AgreesBut, IsQuiet, is_register_settled, touched_assert, touched_clear, touched_registers, touched_spt, touched_to_clear, touching}, Scopes.{reads, scope}, Adjacent.{AdjoinsAlone, has_link_dr, is_touched_where_link_differs, keeps_winner, with_neighbour_rows}}, proofs.{Asserts.{assert_must_go_local, could_register_here, place_read, spt_must_go_local, stars_read}, Clearing.{all_agreed, found_narrowed, narrowed}, Registers.all_keys, SharedMacros.route_local, SourceMacros.{cut_kept, cut_register, local_include_local}, StarMacros.{cut_assert, is_exclude_local}, TouchedUpstream.reads_star, TouchedClearing.{chosen_is_touched, cleared_agrees}, Touches.touching_is_closed, Turns.same_repetition, UntoldKeys.same_by_scope, SameRows.{flags, flags_same}, Configured.configured_beside, Fewer.{all_stay, in_three, others}, OtherNeighbours.{SameLinkDr, SameSourceDr, SameStarDr, could_at_so, could_register_so, desired_so, exclude_as, local_include_as, metric_at_so, route_as, rpf_at_so, tracking_at_so}, Registered.{Stays, idles, settled_of_touched, stays_all}}}

-- ---- a lost assert

lost_same : (b : Bool) (x y x' y' : Bool) → x ≡ x' → (b ≡ false → y ≡ y') → cond b x y ≡ cond b x' y'
lost_same b x y x' y' e f = grind arith

pub third_of : (a b c : Bool) → (a || b || c) ≡ true → a ≡ false → b ≡ false → c ≡ true
third_of a b c e f g = grind arith

-- what isn't touched is of no touched group
pub star_out : (keys : List Key) (k : Key) → touching keys k ≡ false → touching keys (star_key 0 (group_in k)) ≡ false
star_out keys k out = grind (arith, touching_is_closed, reads_star, eq-eqb)

pub own_out : (keys : List Key) (k : Key) → touching keys k ≡ false
    → touching keys (source_key 0 (group_in k) (source_in k)) ≡ false
unfolding touching reads
own_out keys k out = out

module _ (keys : List Key) (o c : State) (quiet : IsQuiet o) (adjoins : AdjoinsAlone keys o c) where
  abbrev touched : Key → Bool
  touched = touching keys

  -- with the neighbours that there were
  abbrev pub before : State → State
  before t = with_neighbour_rows t o.neighbours

  -- of the states on the way
  pub record OnTheWay (t : State) : Type 0 where
    pub agrees : AgreesBut (touching keys) o (before t)
    pub configured : c.configured ≡ t.configured
    pub neighbours : c.neighbours ≡ t.neighbours

  configured_as : o.configured ≡ c.configured
  configured_as = (configured_beside keys o (before c) adjoins.agrees).configured

  module _ (t : State) (way : OnTheWay t) where
    abbrev dr_of : Addressing → Table NeighbourRow → ℕ → Bool
    dr_of configs rows i =
        is_dr_among (value_among (λ c. c.priority) configs i) (address_among configs i) (rows_on i rows)

    dr_there : (i : ℕ) → is_dr t i ≡ is_dr c i
    unfolding is_dr
    dr_there i = λ j. dr_of (sym way.configured j) (sym way.neighbours j) i

    dr_back : (i : ℕ) → is_dr (before t) i ≡ is_dr o i
    unfolding is_dr
    dr_back i = λ j. dr_of (sym (configured_as ∙ way.configured) j) o.neighbours i

    -- where the router is the DR of the same interfaces
    pub dr_now : ((i : ℕ) → is_dr o i ≡ is_dr c i) → (i : ℕ) → is_dr t i ≡ is_dr (before t) i
    dr_now same i = dr_there i ∙ sym (same i) ∙ sym (dr_back i)

    -- and else of the interfaces that what isn't touched asks for
    pub star_now : (g : ℕ) → touching keys (star_key 0 g) ≡ false → SameStarDr t o.neighbours g
    star_now g out i =
        let k : Key = star_key 0 g in
        let there : is_exclude o g i ≡ is_exclude t g i =
        ap (λ (f : ℕ → Bool). f i)
        (same_by_scope k (λ s. is_exclude s g) (λ s. is_exclude_local (reads k) s g (stars_read k)) o (before t) (way.agrees k out)
        ∙ sym (exclude_as t o.neighbours g)) in
        (λ j. dr_there i j && sym there j) ∙ sym (adjoins.serves.stars g i out) ∙ (λ j. sym (dr_back i) j && there j)

    pub source_now : (g src : ℕ) → touching keys (source_key 0 g src) ≡ false → SameSourceDr t o.neighbours g src
    source_now g src out i =
        let k : Key = source_key 0 g src in
        let there : local_receiver_include o g src i ≡ local_receiver_include t g src i =
        ap (λ (f : ℕ → Bool). f i)
        (same_by_scope k (λ s. local_receiver_include s g src) (λ s. local_include_local (reads k) s g src (place_read k)) o
        (before t) (way.agrees k out)
        ∙ sym (local_include_as t o.neighbours g src)) in
        (λ j. dr_there i j && sym there j) ∙ sym (adjoins.serves.sources g src i out)
        ∙ (λ j. sym (dr_back i) j && there j)

    pub link_now : (src : ℕ) (k : Key) → touching keys k ≡ false
        → has_link_dr o (route o src) ≡ has_link_dr c (route o src) → SameLinkDr t o.neighbours src
    link_now src k out same =
        let there : route o src ≡ route t src =
        same_by_scope k (λ s. route s src) (λ s. route_local (reads k) s src) o (before t) (way.agrees k out)
        ∙ sym (route_as t o.neighbours src) in
        (λ j. option_map_or (λ (p : Path). p.is_connected && dr_there p.iface.number j) (sym there j) false)
        ∙ sym same
        ∙ (λ j. option_map_or (λ (p : Path). p.is_connected && sym (dr_back p.iface.number) j) (there j) false)

    pub link_by_dr : ((i : ℕ) → is_dr o i ≡ is_dr c i) → (src : ℕ) → SameLinkDr t o.neighbours src
    link_by_dr same src = grind (arith, dr_now)

    neighbour_now : (i address : ℕ) → is_neighbour t i address ≡ is_neighbour c i address
    neighbour_now i address = grind arith

    -- ---- what must go of keys that aren't touched

    must_go_as : (e : Key × AssertRow) → touched e.0 ≡ false
        → (is_winner (Some e.1) ≡ false
        → is_neighbour t (iface_in e.0) (e.1).winner.address.bits ≡ is_neighbour o (iface_in e.0) (e.1).winner.address.bits)
        → assert_must_go o t e ≡ assert_must_go o (before t) e
    unfolding assert_must_go
    must_go_as e out same =
        grind (arith, star_now, star_out, source_now, own_out, lost_same, could_at_so, tracking_at_so, metric_at_so, rpf_at_so)

    -- an assert that doesn't go at the opening, and whose winner is a neighbour as before
    abbrev stays : Key × AssertRow → Bool
    stays e = not (assert_must_go o o e) && keeps_winner keys o c e

    still_stays : (e : Key × AssertRow) → touched e.0 ≡ false → stays e ≡ true → not (assert_must_go o t e) ≡ true
    still_stays e out f =
        ap not
        (must_go_as e out (λ lost. neighbour_now (iface_in e.0) (e.1).winner.address.bits
        ∙ sym (flags _ _ (third_of (touched e.0) (is_winner (Some e.1)) _
        (second_so (not (assert_must_go o o e)) (keeps_winner keys o c e) f) out lost)))
        ∙ sym (same_by_scope e.0 (λ s. assert_must_go o s e) (λ s. assert_must_go_local o s e) o (before t)
        (way.agrees e.0 out)))
        ∙ first_so (not (assert_must_go o o e)) (keeps_winner keys o c e) f

    asserts_narrow : list_all (λ e. touched e.0 || not (assert_must_go o t e)) t.asserts ≡ true
    unfolding scope assert_must_go
    asserts_narrow =
        all_agreed touched cut_assert stays (λ e. not (assert_must_go o t e)) (λ e. refl) still_stays o.asserts t.asserts
        (λ k out. ap (λ (s : State). s.asserts) (way.agrees k out))
        (list_of_each stays o.asserts
        (each_both _ _ (λ e. stays e ≡ true) (λ e f h. both_true f h) o.asserts
        (each_of_list (λ e. not (assert_must_go o o e)) o.asserts quiet.clear.asserts)
        (each_of_list (keeps_winner keys o c) o.asserts adjoins.winners)))

    spt_as : (e : Key × SourceRow) → touched e.0 ≡ false → spt_must_go t e ≡ spt_must_go (before t) e
    spt_as e out = grind (arith, star_now, star_out, source_now, own_out, desired_so)

    spts_narrow : list_all (λ e. touched e.0 || not (spt_must_go t e)) t.sources ≡ true
    unfolding scope
    spts_narrow =
        all_agreed touched cut_kept (λ e. not (spt_must_go o e)) (λ e. not (spt_must_go t e)) (λ e. refl)
        (λ e out f. ap not (spt_as e out ∙ sym (same_by_scope e.0 (λ s. spt_must_go s e) (λ s. spt_must_go_local s e) o
        (before t) (way.agrees e.0 out))) ∙ f)
        o.sources t.sources (λ k out. ap (λ (s : State). s.sources) (way.agrees k out)) quiet.clear.sources

    next_is_touched : to_clear o t ≡ touched_to_clear touched o t
    unfolding to_clear touched_to_clear assert_to_clear spt_to_clear touched_assert touched_spt
    next_is_touched = grind (arith, narrowed, asserts_narrow, found_narrowed, spts_narrow)

    still_on_the_way : (d : Cleared) → touched_to_clear touched o t ≡ Some d → OnTheWay (cleared t d).0
    unfolding cleared assert_forgotten without_spt_bit
    still_on_the_way (ClearAssert k r) e = record {
      agrees = cleared_agrees touched o (touching_is_closed keys) (before t) (ClearAssert k r)
          (chosen_is_touched touched o t (ClearAssert k r) e) way.agrees;
      configured = way.configured;
      neighbours = way.neighbours;
    }
    still_on_the_way (ClearSptBit k) e = record {
      agrees = cleared_agrees touched o (touching_is_closed keys) (before t) (ClearSptBit k)
          (chosen_is_touched touched o t (ClearSptBit k) e) way.agrees;
      configured = way.configured;
      neighbours = way.neighbours;
    }

    goes_on : (d : Cleared) → to_clear o t ≡ Some d → OnTheWay (cleared t d).0
    goes_on d e = still_on_the_way d (sym next_is_touched ∙ e)

  goes_of_touched : (t : State) → OnTheWay t → clear_all o t ≡ touched_clear touched o t
  unfolding clear_all touched_clear
  goes_of_touched t way =
      same_repetition (to_clear o) (touched_to_clear touched o) cleared OnTheWay next_is_touched
      (λ u d way e. goes_on u way d e) (clearable_count t) t way

  -- ---- registers

  begun : OnTheWay c
  begun = record { agrees = adjoins.agrees; configured = refl; neighbours = refl }

  -- whether a source that isn't touched can be registered is as it was
  could_as : (k : Key) → is_touched_where_link_differs keys o c k ≡ true → not (is_star k) ≡ true → touched k ≡ false
      → could_register c (group_in k) (source_in k) ≡ could_register o (group_in k) (source_in k)
  could_as k is own out =
      could_register_so c o.neighbours (group_in k) (source_in k)
      (link_now c begun (source_in k) k out
      (flags _ _ (third_of (is_star k) (touching keys (source_key 0 (group_in k) (source_in k))) _ is (not_so (is_star k) own)
      (own_out keys k out))))
      ∙ sym (same_by_scope k (λ s. could_register s (group_in k) (source_in k)) (λ s. could_register_here k s) o (before c)
      (adjoins.agrees k out))
    where
      not_so : (b : Bool) → not b ≡ true → b ≡ false
      not_so true e = cc
      not_so false e = refl

  stays_registered : Stays keys o c c.registers
  unfolding scope
  stays_registered q out = sym (ap (λ (s : State). s.registers) (adjoins.agrees q out))

  abbrev idle : Key → Bool
  idle = idles keys o c

  one_idle : (k : Key) → (touched k || is_register_settled o k) ≡ true → is_touched_where_link_differs keys o c k ≡ true
      → not (is_star k) ≡ true → idle k ≡ true
  one_idle k held is own = grind (arith, flags_same, could_as)

  abbrev sources_now : List Key
  sources_now = keys_in c.sources ++ keys_in c.registers

  abbrev held : Key → Bool
  held k = touched k || is_register_settled o k

  all_held : list_all held sources_now ≡ true
  unfolding scope
  all_held =
      list_all-append held (keys_in c.sources) (keys_in c.registers)
      ∙ both_true
      (all_keys held c.sources
      ∙ all_agreed touched cut_kept (λ e. is_register_settled o e.0) (λ e. is_register_settled o e.0) (λ e. refl)
      (λ e f g. g) o.sources c.sources
      (λ k out. ap (λ (s : State). s.sources) (adjoins.agrees k out)) quiet.sources_settled)
      (all_keys held c.registers
      ∙ all_agreed touched cut_register (λ e. is_register_settled o e.0) (λ e. is_register_settled o e.0) (λ e. refl)
      (λ e f g. g) o.registers c.registers
      (λ k out. ap (λ (s : State). s.registers) (adjoins.agrees k out)) quiet.registers_settled)

  abbrev link : Key → Bool
  link = is_touched_where_link_differs keys o c

  all_linked : list_all link sources_now ≡ true
  unfolding fact_keys
  all_linked =
      all_stay link (fact_keys c) sources_now
      (λ e. in_three c (λ k. not (link k)) (others c (λ k. not (link k))) (keys_in c.sources) (keys_in c.registers)
      (sym (list_any-append (λ k. not (link k)) (keys_in c.sources) (keys_in c.registers)) ∙ e))
      (all_stay link (fact_keys o) (fact_keys c) (adjoins.facts (λ k. not (link k))) adjoins.linked)

  all_idle : list_all idle sources_now ≡ true
  all_idle =
      list_of_each idle sources_now
      (each_both (λ k. (held k ≡ true) × (link k ≡ true)) (λ k. not (is_star k) ≡ true) (λ k. idle k ≡ true)
      (λ k both own. one_idle k both.0 both.1 own) sources_now
      (each_both (λ k. held k ≡ true) (λ k. link k ≡ true) (λ k. (held k ≡ true) × (link k ≡ true)) (λ k f h. (f, h)) sources_now
      (each_of_list held sources_now all_held) (each_of_list link sources_now all_linked))
      (each_of_list (λ k. not (is_star k)) sources_now adjoins.sourced))

  registers_so : settle_registers c ≡ touched_registers touched c
  unfolding settle_registers touched_registers
  registers_so = grind (arith, settled_of_touched, stays_registered, all_idle)

  pub after_registers : OnTheWay (settle_registers c)
  unfolding settle_registers touched_registers scope
  after_registers = grind (arith, stays_registered, stays_all, registers_so)

  pub end_is_on_the_way : OnTheWay (clear o c).0
  unfolding clear clear_all
  end_is_on_the_way =
      kept_to_the_end (to_clear o) cleared OnTheWay (λ t d way e. goes_on t way d e)
      (clearable_count (settle_registers c)) (settle_registers c) after_registers

  pub adjoins_goes : clear o c ≡ touched_clear touched o (touched_registers touched c)
  unfolding clear
  adjoins_goes = grind (arith, goes_of_touched, after_registers, registers_so)
