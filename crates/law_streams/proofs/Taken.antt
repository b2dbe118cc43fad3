-- A Join(*,G) that comes: its row, the assert that it ends, the prunes that it takes back.
use Rattle.std.{proofs.{Common.{◌≡◌, ◌∙◌, ℕ, ◌<◌, ◌==◌, ◌&&◌, ◌||◌, Bool, true, false, not, List, [], ◌∷◌, ◌++◌, fold, length, Option, Some, None, is_some, is_none, option_map, refl, sym, ap, subst, arith, eq-eqb}, lemmas.{Bool.{or_left, or_right, both_ways}, List.Folds.list_any-append}}, specs.{List.{Contains, list_any}, Option.option_map_or}}
use Rattle.pim_types.{specs.{Keys.{group_in, iface_in, is_on, rpt_key, same_key, source_key, star_key}, declared.{fact.{DownstreamRow.DownstreamRow, Key.Key, SourceRow.SourceRow}}}, proofs.Keys.{equal_keys, same_key_same}}
use Rattle.pim_wire.{specs.Values.JoinPrune}
use Rattle.pim_model.{specs.{declared.accepted.Accepted.Accepted, Asserts.{assert_forgotten, without_spt, without_spt_bit}, Clearing.clear, Desires.{is_immediate_empty, join_desired, join_desired_star}, Downstream.{asserts_after_joins, holdtime_end, is_named, joined_keys, joined_row, keys_taken, pruned_keys, row_after, rpt_rows_joined, to_me, touched_keys}, Firing.settled, Messages.Message, Registers.settle_registers, Sets.{Set, assert_source, assert_star, immediate_olist, immediate_olist_star, is_empty, is_loser, joins, joins_star, lost_assert, lost_assert_star, prunes, spt_bit}, State.{Addressing, State, iface_count, ifaces}, Step.{change, done}, Tables.{Table, drop_at, has_row, keys_in, later_end, row_at, rows_where, set_row}}}
use Rattle.law_settled.{proofs.{ListLaws.each_passes, RowLaws.{has_row_any, has_row_without, row_drop_away, row_put_away, still_absent}, SettlingLaws.kept_by_clearing, TableLaws.{any_in_filter, any_of_map, row_of_each}, TurnLaws.kept_by_fold, Unsettled.{Unsettled, settling_leaves}}}
use Rattle.law_events.{specs.Scopes.{reads, scope}, proofs.{Asserts.{place_read, stars_read}, Rows.{row_at_cut, row_in_scope}, SourceMacros.spt_bit_local, StarMacros.{cut_assert, loser_cut}, UntoldKeys.same_by_scope, JoinPrunes.{none_there, set_here}}}
use Rattle.law_streams.{specs.Joins.{JoinsSource, JoinsStar, JoinsTree, SourceJoinIsTaken, StarJoinIsTaken, TakesSource, TakesStar}, proofs.{Same.{Rows, settled_same}, Links.is_below, Made.step_taken, Leaves.{rest_agrees, taken_is_done, untouched}}}

-- ---- the row of a key that is set

pub apart_keys : (k q : Key) → same_key q k ≡ false → k ≡ q → ⊥
apart_keys k q e same = both_ways (same_key q k) e (ap (same_key q) same ∙ same_key_same q)

module _ {R : Type 0} where
  row_gone : (k : Key) (t : Table R) → row_at (drop_at t k) k ≡ None
  unfolding has_row
  row_gone k t = none_there _ (has_row_without k k t ∙ rw (same_key_same k) refl)

  row_set_away : (k q : Key) → same_key q k ≡ false → (t : Table R) (o : Option R)
      → row_at (set_row t k o) q ≡ row_at t q
  unfolding set_row
  row_set_away k q off t o = grind (arith, row_drop_away, apart_keys, row_put_away)

  -- ---- keys that are all set, each to what a rule says of it

  module _ (rule : Key → Option R) (q : Key) where
    abbrev sets : Table R → Key → Table R
    sets t k = set_row t k (rule k)

    set_once : (t : Table R) (k : Key) → row_at t q ≡ rule q → row_at (sets t k) q ≡ rule q
    set_once t k is = grind (arith, row_set_away, equal_keys, set_here)

    -- where it was as the rule says it stays so
    pub stays_set : (ks : List Key) (t : Table R) → row_at t q ≡ rule q → row_at (fold sets t ks) q ≡ rule q
    stays_set ks t is = kept_by_fold sets (λ u. row_at u q ≡ rule q) (λ u k f. set_once u k f) ks t is

    -- where it is named it becomes so
    pub becomes_set : (ks : List Key) (t : Table R) → is_named ks q ≡ true → row_at (fold sets t ks) q ≡ rule q
    unfolding is_named
    becomes_set [] t e = cc
    becomes_set (k ∷ ks) t e = grind (arith, becomes_set ks (sets t k), stays_set, equal_keys, set_here)

-- ---- the rows after a Join/Prune

pub named_first : (xs ys : List Key) (k : Key) → is_named xs k ≡ true → is_named (xs ++ ys) k ≡ true
unfolding is_named
named_first xs ys k e = list_any-append (same_key k) xs ys ∙ or_left _ _ e

named_last : (xs ys : List Key) (k : Key) → is_named ys k ≡ true → is_named (xs ++ ys) k ≡ true
unfolding is_named
named_last xs ys k e = list_any-append (same_key k) xs ys ∙ or_right _ _ e

end_again : (a b : Option ℕ) → later_end (later_end a b) b ≡ later_end a b
end_again a b = grind arith

end_itself : (a : Option ℕ) → later_end a a ≡ a
end_itself a = grind arith

-- the row that a Join leaves
record IsJoined (end : Option ℕ) (o : Option DownstreamRow) : Type 0 where
  row : DownstreamRow
  is : o ≡ Some row
  pending : row.pending ≡ None
  lasts : later_end row.expiry end ≡ row.expiry

joined_is : (end : Option ℕ) (holdtime : ℕ) (o : Option DownstreamRow) → (holdtime == 0) ≡ false
    → IsJoined end (joined_row end holdtime o)
joined_is end holdtime o e = grind (arith, end_itself, end_again)

module _ (s : State) (k : Key) (tree : k.rpt ≡ false) (m : JoinPrune) (f : JoinsTree s k m) where
  abbrev rule_of : Key → Option DownstreamRow
  rule_of q = row_after s (iface_in k) m.holdtime (joined_keys s (iface_in k) m) (pruned_keys (iface_in k) m) q

  tree_rule_is : rule_of k ≡ joined_row (holdtime_end s m.holdtime) m.holdtime (row_at s.downstream k)
  unfolding row_after
  tree_rule_is = rw (f.joined, f.unpruned, tree) refl

  tree_row : row_at (to_me s (iface_in k) m).downstream k ≡ rule_of k
  unfolding to_me keys_taken touched_keys
  tree_row =
      becomes_set rule_of k
      (touched_keys s (iface_in k) (joined_keys s (iface_in k) m) (pruned_keys (iface_in k) m)) s.downstream
      (named_first (joined_keys s (iface_in k) m ++ pruned_keys (iface_in k) m) (rpt_rows_joined s (iface_in k) (joined_keys s (iface_in k) m)) k
      (named_first (joined_keys s (iface_in k) m) (pruned_keys (iface_in k) m) k f.joined))

  tree_joined : IsJoined (holdtime_end s m.holdtime) (row_at (to_me s (iface_in k) m).downstream k)
  tree_joined = grind (arith, tree_row, tree_rule_is, joined_is)

  -- ---- the assert

  no_loser_left : is_loser (row_at (to_me s (iface_in k) m).asserts k) ≡ false
  unfolding to_me keys_taken asserts_after_joins
  no_loser_left = grind (arith, row_of_each, each_passes)

module _ (s : State) (i g : ℕ) (m : JoinPrune) (f : JoinsStar s i g m) where
  abbrev joined : List Key
  joined = joined_keys s i m

  abbrev pruned : List Key
  pruned = pruned_keys i m

  abbrev rule : Key → Option DownstreamRow
  rule k = row_after s i m.holdtime joined pruned k

  -- ---- (S,G,rpt), which the message doesn't prune

  module _ (src : ℕ) (unpruned : is_named pruned (rpt_key i g src) ≡ false) where
    abbrev tree : Key
    tree = rpt_key i g src

    tree_rule : rule tree ≡ None
    unfolding row_after
    tree_rule = rw (unpruned, f.joined) refl

    tree_is_touched : has_row s.downstream tree ≡ true → is_named (touched_keys s i joined pruned) tree ≡ true
    unfolding touched_keys rpt_rows_joined keys_in is_named
    tree_is_touched there =
        named_last (joined ++ pruned) (rpt_rows_joined s i joined) tree
        (any_in_filter (λ (k : Key). is_on i k && k.rpt && is_named joined (star_key i (group_in k))) (same_key tree)
        (keys_in s.downstream) ∙ passes (keys_in s.downstream) (in_keys there))
      where
        in_keys : has_row s.downstream tree ≡ true → list_any (same_key tree) (keys_in s.downstream) ≡ true
        in_keys e = any_of_map (same_key tree) (λ x. x.0) s.downstream ∙ (sym (has_row_any tree s.downstream) ∙ e)

        passes : (ks : List Key) → list_any (same_key tree) ks ≡ true
            → list_any (λ (k : Key). (is_on i k && k.rpt && is_named joined (star_key i (group_in k))) && same_key tree k) ks ≡ true
        passes [] e = e
        passes (k ∷ ks) e = go (same_key tree k) refl e (passes ks)
          where
            go : (b : Bool) → same_key tree k ≡ b → (b || list_any (same_key tree) ks) ≡ true
                → (list_any (same_key tree) ks ≡ true → list_any (λ (k : Key). (is_on i k && k.rpt && is_named joined (star_key i (group_in k))) && same_key tree k) ks ≡ true)
                → (((is_on i k && k.rpt && is_named joined (star_key i (group_in k))) && same_key tree k)
                || list_any (λ (k : Key). (is_on i k && k.rpt && is_named joined (star_key i (group_in k))) && same_key tree k) ks) ≡ true
            go false off h later = or_right _ _ (later h)
            go true same h later =
                or_left _ _
                (subst (λ (x : Key). ((is_on i x && x.rpt && is_named joined (star_key i (group_in x))) && same_key tree x) ≡ true)
                (equal_keys tree k same) (rw (eq-eqb i i refl, f.joined, same_key_same tree) refl))

    pub tree_gone : row_at (to_me s i m).downstream tree ≡ None
    unfolding to_me keys_taken has_row
    tree_gone = go (has_row s.downstream tree) refl
      where
        go : (b : Bool) → has_row s.downstream tree ≡ b → row_at (fold (λ t k. set_row t k (rule k)) s.downstream (touched_keys s i joined pruned)) tree ≡ None
        go true there = becomes_set rule tree (touched_keys s i joined pruned) s.downstream (tree_is_touched there) ∙ tree_rule
        go false none =
            stays_set rule tree (touched_keys s i joined pruned) s.downstream
            (none_there (row_at s.downstream tree) none ∙ sym tree_rule) ∙ tree_rule

-- ---- what clearing leaves

module _ {R : Type 0} (q : Key) where
  dropped_row : (P : Option R → Type 0) → P None → (k : Key) (t : Table R) → P (row_at t q) → P (row_at (drop_at t k) q)
  dropped_row P none k t f = grind (arith, equal_keys, row_gone, row_drop_away, apart_keys)

module _ (o : State) (c : State × List Message) (w : ℕ) where
  abbrev cleared_state : State
  cleared_state = (clear o c.0).0

  abbrev end_state : State
  end_state = (settled o c w).0

  unlost_cleared : (q : Key) → is_loser (row_at (c.0).asserts q) ≡ false
      → is_loser (row_at (cleared_state).asserts q) ≡ false
  unfolding settle_registers assert_forgotten without_spt_bit
  unlost_cleared q e =
      kept_by_clearing (λ t. is_loser (row_at t.asserts q) ≡ false)
      (λ t k f. dropped_row q (λ x. is_loser x ≡ false) refl k t.asserts f) (λ t k f. f) o c.0 e

  -- whether an assert is lost is seen in a scope with its row
  loser_local : (k q : Key) → reads k q ≡ true → (x : State)
      → is_loser (row_at (scope (reads k) x).asserts q) ≡ is_loser (row_at x.asserts q)
  unfolding scope
  loser_local k q seen x =
      ap is_loser (row_at_cut cut_assert q (rows_where (reads k) x.asserts)
      ∙ ap (option_map cut_assert) (row_in_scope (reads k) q seen x.asserts))
      ∙ loser_cut (row_at x.asserts q)

  still_unlost : (k q : Key) → reads k q ≡ true → is_loser (row_at (c.0).asserts q) ≡ false
      → is_loser (row_at (end_state).asserts q) ≡ false
  still_unlost k q seen e =
      sym (same_by_scope k (λ x. is_loser (row_at x.asserts q)) (loser_local k q seen) cleared_state end_state
      (rest_agrees o c w k (untouched o c w k)))
      ∙ unlost_cleared q e

  pub star_unlost : (g i : ℕ) → is_loser (assert_star c.0 g i) ≡ false → is_loser (assert_star end_state g i) ≡ false
  star_unlost g i = still_unlost (star_key 0 g) (star_key i g) (stars_read (star_key 0 g) i)

  pub source_unlost : (g src i : ℕ) → is_loser (assert_source c.0 g src i) ≡ false
      → is_loser (assert_source end_state g src i) ≡ false
  source_unlost g src i =
      still_unlost (source_key 0 g src) (source_key i g src) ((place_read (source_key 0 g src)).sources i)

  -- a source without a fact has none after it
  pub still_unset : (g src : ℕ) → has_row (c.0).sources (source_key 0 g src) ≡ false → spt_bit end_state g src ≡ false
  unfolding settle_registers assert_forgotten without_spt_bit spt_bit has_row
  still_unset g src none =
      sym (same_by_scope (source_key 0 g src) (λ x. spt_bit x g src)
      (λ x. spt_bit_local (reads (source_key 0 g src)) x g src (place_read (source_key 0 g src))) cleared_state end_state
      (rest_agrees o c w (source_key 0 g src) (untouched o c w (source_key 0 g src))))
      ∙ ap (λ (x : Option SourceRow). option_map_or (λ (r : SourceRow). r.spt) x false)
      (none_there (row_at (cleared_state).sources (source_key 0 g src))
      (kept_by_clearing (λ t. has_row t.sources (source_key 0 g src) ≡ false) (λ t k f. f)
      (λ t k f. still_absent (source_key 0 g src) without_spt k t.sources f) o c.0 none))

  pub still_configured : (end_state).configured ≡ (c.0).configured
  still_configured = ap (λ (u : Unsettled). u.configured) (settling_leaves o c w)

  pub same_downstream : (end_state).downstream ≡ (c.0).downstream
  same_downstream = ap (λ (r : Rows). r.downstream) (settled_same o c w)

-- ---- the lists

pub any_contained : {X : Type 0} (p : X → Bool) (xs : List X) (x : X) → Contains xs x → p x ≡ true → list_any p xs ≡ true
any_contained p [] x c e = absurd (omega (arith, c.1))
any_contained p (y ∷ ys) x c e = grind (arith, any_contained p ys x, or_left, or_right)

pub not_empty : (s : State) (a : Set) (i : ℕ) → i < iface_count s → a i ≡ true → is_empty s a ≡ false
unfolding is_empty
not_empty s a i within e = ap not (any_contained a (ifaces s) i (is_below (iface_count s) i within) e)

pub listed_star : (t : State) (g i : ℕ) → has_row t.downstream (star_key i g) ≡ true
    → is_loser (assert_star t g i) ≡ false → immediate_olist_star t g i ≡ true
unfolding immediate_olist_star joins_star lost_assert_star
listed_star t g i joined unlost = grind arith

pub wanted_star : (t : State) (g i : ℕ) → i < iface_count t → immediate_olist_star t g i ≡ true
    → join_desired_star t g ≡ true
unfolding join_desired_star
wanted_star t g i within e = ap not (not_empty t (immediate_olist_star t g) i within e)

pub listed_source : (t : State) (g src i : ℕ) → has_row t.downstream (source_key i g src) ≡ true
    → is_loser (assert_source t g src i) ≡ false → immediate_olist t g src i ≡ true
unfolding immediate_olist joins lost_assert
listed_source t g src i there unlost = grind arith

pub wanted_source : (t : State) (g src i : ℕ) → i < iface_count t → immediate_olist t g src i ≡ true
    → join_desired t g src ≡ true
unfolding join_desired is_immediate_empty
wanted_source t g src i within e = rw (not_empty t (immediate_olist t g src) i within e) refl

-- ---- the law

pub takes_star : (s : State) (w i g : ℕ) (m : JoinPrune) → JoinsStar s i g m
    → TakesStar s (settled s (to_me s i m, []) w).0 i g m
unfolding prunes has_row to_me keys_taken
takes_star s w i g m f =
    let c : State × List Message = (to_me s i m, []) in
    let t : State = (settled s c w).0 in
    let row : IsJoined (holdtime_end s m.holdtime) (row_at t.downstream (star_key i g)) =
    subst (λ (d : Table DownstreamRow). IsJoined (holdtime_end s m.holdtime) (row_at d (star_key i g)))
    (sym (same_downstream s c w)) (tree_joined s (star_key i g) refl m f) in
    let unlost : is_loser (assert_star t g i) ≡ false = star_unlost s c w g i (no_loser_left s (star_key i g) refl m f) in
    let listed : immediate_olist_star t g i ≡ true =
    listed_star t g i (ap is_some row.is) unlost in
    record {
      holds = record { row = row.row; found = row.is; unpruned = row.pending; lasts = row.lasts };
      unlost = unlost;
      unpruned = λ src e.
          ap (λ (o : Option DownstreamRow). option_map_or (λ (r : DownstreamRow). is_none r.pending) o false)
          (ap (λ (d : Table DownstreamRow). row_at d (rpt_key i g src)) (same_downstream s c w) ∙ tree_gone s i g m f src e);
      listed = listed;
      wanted = λ within.
          wanted_star t g i
          (subst (λ (cs : Addressing). i < length cs.interfaces) (sym (still_configured s c w ∙ to_me_configured)) within) listed;
    }
  where
    to_me_configured : (to_me s i m).configured ≡ s.configured
    to_me_configured = refl

pub star_join_is_taken : StarJoinIsTaken
unfolding done change
star_join_is_taken s e i m g was f =
    subst (λ (t : State). TakesStar s t i.number g m)
    (sym (ap (λ a. a.state) (step_taken s e (Accepted.JoinPruneToMe i m) was ∙ taken_is_done s e.draw (Accepted.JoinPruneToMe i m) refl)))
    (takes_star s e.draw i.number g m f)

takes_source : (s : State) (w i g src : ℕ) (m : JoinPrune) → JoinsSource s i g src m
    → TakesSource s (settled s (to_me s i m, []) w).0 i g src m
unfolding has_row to_me keys_taken
takes_source s w i g src m f =
    let c : State × List Message = (to_me s i m, []) in
    let t : State = (settled s c w).0 in
    let row : IsJoined (holdtime_end s m.holdtime) (row_at t.downstream (source_key i g src)) =
    subst (λ (d : Table DownstreamRow). IsJoined (holdtime_end s m.holdtime) (row_at d (source_key i g src)))
    (sym (same_downstream s c w)) (tree_joined s (source_key i g src) refl m f) in
    let unlost : is_loser (assert_source t g src i) ≡ false =
    source_unlost s c w g src i (no_loser_left s (source_key i g src) refl m f) in
    let listed : immediate_olist t g src i ≡ true = listed_source t g src i (ap is_some row.is) unlost in
    record {
      holds = record { row = row.row; found = row.is; unpruned = row.pending; lasts = row.lasts };
      unlost = unlost;
      listed = listed;
      wanted = λ within.
          wanted_source t g src i
          (subst (λ (cs : Addressing). i < length cs.interfaces) (sym (still_configured s c w ∙ to_me_configured)) within) listed;
    }
  where
    to_me_configured : (to_me s i m).configured ≡ s.configured
    to_me_configured = refl

pub source_join_is_taken : SourceJoinIsTaken
unfolding done change
source_join_is_taken s e i m g src was f =
    subst (λ (t : State). TakesSource s t i.number g src m)
    (sym (ap (λ a. a.state) (step_taken s e (Accepted.JoinPruneToMe i m) was ∙ taken_is_done s e.draw (Accepted.JoinPruneToMe i m) refl)))
    (takes_source s e.draw i.number g src m f)
