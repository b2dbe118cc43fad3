-- The Hellos that leave in a reload.
use Rattle.std.{proofs.{Common.{◌≡◌, ℕ, zero, suc, ◌&&◌, not, cond, Bool, true, false, List, [], ◌∷◌, ◌++◌, Option, Some, None, length, map, refl, sym, ap, ◌∙◌, eqb-true}, Math.Seq.take-append_seam, lemmas.List.{append_assoc, Folds.list_all-append}}, specs.{List.list_all, Option.{is_none, option_map_or}, Prelude.{slice_get, take}}}
use Rattle.pim_ip.{specs.declared.addr.Addr.Addr}
use Rattle.pim_types.{specs.{declared.{config.InterfaceConfig.InterfaceConfig, fact.{InterfaceRow.InterfaceRow, Key.Key}, outcome.Emission.Emission, path.Hop.Hop, upstream.{SourceView.SourceView, StarView.StarView, TreeState.TreeState}}, Keys.{iface_key, is_on, same_key}}}
use Rattle.pim_wire.{specs.declared.join_prune.Entry.Entry}
use Rattle.pim_model.{specs.{Asserts.{assert_cancel, assert_forgotten, assert_message, without_spt_bit}, Clearing.{ClearAssert, ClearSptBit, Cleared, clear, clear_all, clearable_count, cleared, to_clear}, Firing.settled, Messages.Message, Querier.each_in_turn, Registers.settle_registers, Repeat.{after_next, and_then, until_none}, Sets.is_winner, State.{Addressing, InterfaceTable, State, iface_config, interfaces_of, is_up}, Tables.{Table, row_at, same_address, same_hop}, Upstream.{TimerChange, Told, becomes_star, group_upstream, if_neighbour, is_due_to_assert, join_prune_to, join_star_to, moved_join_timer, moved_override_timer, prune_star_to, rpt_told, rpt_told_from, source_stays, source_told, source_upstream, source_view, sources_of, star_stays, star_told, star_view, upstream}, Writing.{all_written, hello_emission, hello_paid, hellos_paid, pim_on_link, write_all, written}}}
use Rattle.law_settled.{proofs.{ListLaws.by_cond, SettlingLaws.{kept_by_clearing, kept_by_telling}}}
use Rattle.law_states.{specs.{ReloadLaws.{HellosLeaveFirst, NoOtherHello, UntoldSaysSame, is_hello, told_anew}, Reloading.{hellos_anew, replaced, says_other, says_same, tells_anew, under}}}

-- ---- paying a Hello changes none

abbrev generation_at : Key → Table InterfaceRow → ℕ
generation_at k t = option_map_or (λ (r : InterfaceRow). r.generation) (row_at t k) 0

abbrev paid : Bool → Key × InterfaceRow → Key × InterfaceRow
paid b e = cond b (let p : Key × InterfaceRow = (e.0, record e.1 { is_hello_owed = false }) in p) e

same_generation : (k : Key) (i : ℕ) (t : Table InterfaceRow) → generation_at k (hellos_paid i t) ≡ generation_at k t
unfolding hellos_paid row_at
same_generation k i [] = refl
same_generation k i (x ∷ xs) = go (is_on i x.0) (same_generation k i xs)
  where
    found : (b : Bool) (r q : InterfaceRow) (ys zs : Table InterfaceRow) → r.generation ≡ q.generation
        → generation_at k ys ≡ generation_at k zs
        → option_map_or (λ (o : InterfaceRow). o.generation) (cond b (Some r) (row_at ys k)) 0
        ≡ option_map_or (λ (o : InterfaceRow). o.generation) (cond b (Some q) (row_at zs k)) 0
    found true r q ys zs e later = e
    found false r q ys zs e later = later

    go : (b : Bool) → generation_at k (hellos_paid i xs) ≡ generation_at k xs
        → generation_at k (paid b x ∷ hellos_paid i xs) ≡ generation_at k (x ∷ xs)
    go true later = found (same_key k x.0) (record (x.1) { is_hello_owed = false }) x.1 (hellos_paid i xs) xs refl later
    go false later = found (same_key k x.0) x.1 x.1 (hellos_paid i xs) xs refl later

same_emission : (t : InterfaceTable) (i j : ℕ) → hello_emission (hello_paid t j) i ≡ hello_emission t i
unfolding hello_emission hello_paid pim_on_link
same_emission t i j = rw (same_generation (iface_key i) j t.rows) refl

same_emissions : (t : InterfaceTable) (j : ℕ) (is : List ℕ)
    → map (hello_emission (hello_paid t j)) is ≡ map (hello_emission t) is
same_emissions t j [] = refl
same_emissions t j (i ∷ is) =
    (λ k. same_emission t i j k ∷ map (hello_emission (hello_paid t j)) is)
    ∙ ap (λ (es : List Emission). hello_emission t i ∷ es) (same_emissions t j is)

-- ---- Hellos leave first

rest_of : List ℕ → InterfaceTable → List Message → List Emission
rest_of [] t messages = (all_written t messages).1
rest_of (i ∷ is) t messages = rest_of is (hello_paid t i) messages

first_written : (is : List ℕ) (t : InterfaceTable) (messages : List Message)
    → (all_written t (map Message.Hello is ++ messages)).1 ≡ map (hello_emission t) is ++ rest_of is t messages
unfolding all_written each_in_turn written rest_of
first_written [] t messages = refl
first_written (i ∷ is) t messages =
    ap (λ (es : List Emission). hello_emission t i ∷ es) (first_written is (hello_paid t i) messages)
    ∙ (λ k. hello_emission t i ∷ (same_emissions t i is k ++ rest_of is (hello_paid t i) messages))

same_table : (o a : State) (w : ℕ) → interfaces_of (upstream o (clear o a).0 w).0 ≡ interfaces_of a
unfolding settle_registers assert_forgotten without_spt_bit moved_join_timer moved_override_timer
same_table o a w =
    let clears : interfaces_of (clear o a).0 ≡ interfaces_of a =
    kept_by_clearing (λ t. interfaces_of t ≡ interfaces_of a) (λ s k f. f) (λ s k f. f) o a refl in
    kept_by_telling (λ n. Unit {0}) (clear o a).0 w (λ d some. tt) (λ t. interfaces_of t ≡ interfaces_of a)
    (λ s k c fair f. f) (λ s k c fair f. f) o clears

same_length : (is : List ℕ) (t : InterfaceTable) → length (map (hello_emission t) is) ≡ length is
same_length [] t = refl
same_length (i ∷ is) t = ap suc (same_length is t)

front : (is : List ℕ) (t : InterfaceTable) (later : List Emission)
    → take (length is) (map (hello_emission t) is ++ later) ≡ map (hello_emission t) is
front is t later =
    ap (λ (n : ℕ). take n (map (hello_emission t) is ++ later)) (sym (same_length is t))
    ∙ take-append_seam (map (hello_emission t) is) later

pub hellos_leave_first : HellosLeaveFirst
unfolding replaced settled write_all hellos_anew
hellos_leave_first s c w =
    let after : State = (clear s (under s c)).0 in
    let messages : List Message = (clear s (under s c)).1 ++ (upstream s after w).1 in
    (λ k. take (length (told_anew s c)) ((all_written (same_table s (under s c) w k)
    (append_assoc (map Message.Hello (told_anew s c)) (clear s (under s c)).1 (upstream s after w).1 k)).1))
    ∙ (ap (take (length (told_anew s c))) (first_written (told_anew s c) (interfaces_of (under s c)) messages)
    ∙ front (told_anew s c) (interfaces_of (under s c)) (rest_of (told_anew s c) (interfaces_of (under s c)) messages))

-- ---- no other message is a Hello

record Others (ms : List Message) : Type 0 where
  pub none : list_all (λ m. not (is_hello m)) ms ≡ true

nothing : Others []
nothing = record { none = refl }

both : (xs ys : List Message) → Others xs → Others ys → Others (xs ++ ys)
both xs ys f g = record { none = list_all-append (λ m. not (is_hello m)) xs ys ∙ (λ k. f.none k && g.none k) }

cleared_others : (s : State) (c : Cleared) → Others (cleared s c).1
unfolding cleared assert_message is_hello
cleared_others s (ClearAssert k r) =
    by_cond Others (is_winner (Some r)) (assert_cancel k ∷ []) [] (record { none = refl }) nothing
cleared_others s (ClearSptBit k) = nothing

clear_others : (o : State) (n : ℕ) (s : State) → Others (until_none (to_clear o) cleared n s).1
unfolding until_none after_next and_then
clear_others o zero s = nothing
clear_others o (suc n) s = go (to_clear o s) (clear_others o n)
  where
    go : (d : Option Cleared) → ((t : State) → Others (until_none (to_clear o) cleared n t).1)
        → Others (after_next (to_clear o) cleared (λ t. until_none (to_clear o) cleared n t) s d).1
    go None later = nothing
    go (Some d) later = both (cleared s d).1 _ (cleared_others s d) (later (cleared s d).0)

module _ (a : State) (w : ℕ) where
  to_others : (hop : Option Hop) (g : ℕ) (joins prunes : List Entry) → Others (join_prune_to hop g joins prunes)
  unfolding join_prune_to is_hello
  to_others None g joins prunes = nothing
  to_others (Some hop) g joins prunes = record { none = refl }

  join_star_others : (rp : Option Addr) (hop : Option Hop) (g : ℕ) → Others (join_star_to a rp hop g)
  unfolding join_star_to
  join_star_others None hop g = nothing
  join_star_others (Some x) hop g = to_others hop g _ _

  prune_star_others : (rp : Option Addr) (hop : Option Hop) (g : ℕ) → Others (prune_star_to a rp hop g)
  unfolding prune_star_to
  prune_star_others None hop g = nothing
  prune_star_others (Some x) hop g = to_others (if_neighbour a hop) g _ _

  record Tells (t : Told) : Type 0 where
    pub others : Others t.messages

  says : (t : TimerChange) (ms : List Message) → Others ms → Tells (record { timer = t; messages = ms })
  says t ms f = record { others = f }

  either : (b : Bool) (t u : Told) → Tells t → Tells u → Tells (cond b t u)
  either b t u f g = by_cond Tells b t u f g

  stays_others : (g : ℕ) (old new : StarView) → Tells (star_stays a w g old new)
  unfolding star_stays
  stays_others g old new =
      either (not (same_hop old.upstream new.upstream)) _ _
      (either (is_due_to_assert old.iface new.iface old.next_hop new.next_hop) _ _ (says _ [] nothing)
      (says _ _ (both _ _ (join_star_others new.rp new.upstream g) (prune_star_others new.rp old.upstream g))))
      (either (same_address old.rp new.rp) _ _ (says _ [] nothing) (says _ _ (join_star_others new.rp new.upstream g)))

  star_others : (g : ℕ) (old new : StarView) → Tells (star_told a w g old new)
  unfolding star_told
  star_others g old new =
      either new.is_desired _ _
      (either old.is_desired _ _ (stays_others g old new) (says _ _ (join_star_others new.rp new.upstream g)))
      (either old.is_desired _ _
      (says _ _ (by_cond Others (is_none new.rp) _ _ nothing (prune_star_others old.rp old.upstream g)))
      (says _ [] nothing))

  source_stays_others : (g src : ℕ) (old new : SourceView) → Tells (source_stays a w g src old new)
  unfolding source_stays
  source_stays_others g src old new =
      either (same_hop old.upstream new.upstream) _ _ (says _ [] nothing)
      (either (is_due_to_assert old.iface new.iface old.next_hop new.next_hop) _ _ (says _ [] nothing)
      (says _ _ (both _ _ (to_others new.upstream g _ _) (to_others (if_neighbour a old.upstream) g _ _))))

  source_others : (g src : ℕ) (old new : SourceView) → Tells (source_told a w g src old new)
  unfolding source_told
  source_others g src old new =
      either new.is_desired _ _
      (either old.is_desired _ _ (source_stays_others g src old new) (says _ _ (to_others new.upstream g _ _)))
      (either old.is_desired _ _ (says _ _ (to_others (if_neighbour a old.upstream) g _ _)) (says _ [] nothing))

  rpt_others_from : (g src : ℕ) (old new : SourceView) (was is : TreeState)
      → Tells (rpt_told_from a w g src old new was is)
  unfolding rpt_told_from
  rpt_others_from g src old new TreeState.NotPruned TreeState.Pruned = says _ _ (to_others new.tree_upstream g _ _)
  rpt_others_from g src old new TreeState.Pruned TreeState.NotPruned = says _ _ (to_others new.tree_upstream g _ _)
  rpt_others_from g src old new TreeState.NotPruned TreeState.NotPruned =
      either (becomes_star old new) _ _ (says _ [] nothing) (says _ [] nothing)
  rpt_others_from g src old new TreeState.NotPruned TreeState.NotJoined = says _ [] nothing
  rpt_others_from g src old new TreeState.Pruned TreeState.Pruned = says _ [] nothing
  rpt_others_from g src old new TreeState.Pruned TreeState.NotJoined = says _ [] nothing
  rpt_others_from g src old new TreeState.NotJoined is = says _ [] nothing

  -- what each turn says each of them says
  turns_others : {S A : Type 0} (change : S → A → S × List Message) → ((s : S) (x : A) → Others (change s x).1)
      → (xs : List A) (s : S) → Others (each_in_turn change s xs).1
  unfolding each_in_turn
  turns_others change each [] s = nothing
  turns_others change each (x ∷ xs) s =
      both (change s x).1 (each_in_turn change (change s x).0 xs).1 (each s x) (turns_others change each xs (change s x).0)

  module _ (o : State) where
    of_source : (g : ℕ) (s : State) (src : ℕ) → Others (source_upstream o a w g s src).1
    unfolding source_upstream rpt_told
    of_source g s src =
        let old : SourceView = source_view o g src in
        let new : SourceView = source_view a g src in
        both _ _ (source_others g src old new).others (rpt_others_from g src old new old.tree new.tree).others

    of_group : (keys : List Key) (s : State) (g : ℕ) → Others (group_upstream o a w keys s g).1
    unfolding group_upstream
    of_group keys s g =
        both _ _ (star_others g (star_view o g) (star_view a g)).others
        (turns_others (source_upstream o a w g) (of_source g) (sources_of g keys) _)

    of_all : Others (upstream o a w).1
    unfolding upstream
    of_all = turns_others (group_upstream o a w _) (of_group _) _ a

clearing_others : (o a : State) → Others (clear o a).1
unfolding clear clear_all
clearing_others o a = clear_others o (clearable_count (settle_registers a)) (settle_registers a)

pub no_other_hello : NoOtherHello
no_other_hello o a w = (both (clear o a).1 (upstream o a w).1 (clearing_others o a) (of_all a w o)).none

-- ---- where none leaves

both_are : (x y : Bool) → (x && y) ≡ true → (x ≡ true) × (y ≡ true)
both_are true true e = (refl, refl)
both_are true false e = cc
both_are false y e = cc

not_false : (b : Bool) → not b ≡ false → b ≡ true
not_false true e = refl
not_false false e = cc

as_same : (s : State) (configured : Addressing) (i : ℕ) (a b : InterfaceConfig) → iface_config s i ≡ Some a
    → slice_get configured.interfaces i ≡ Some b → is_up s i ≡ true → tells_anew s configured i ≡ false → says_same a b ≡ true
unfolding tells_anew
as_same s configured i a b of_a of_b up e =
    not_false (says_same a b)
    ((λ k. sym up k && says_other (sym of_a k) (sym of_b k)) ∙ e)

pub untold_says_same : UntoldSaysSame
unfolding hello_emission iface_config says_same pim_on_link
untold_says_same s configured i a b of_a of_b up e =
    let p = both_are _ _ (as_same s configured i a b of_a of_b up e) in
    let q = both_are _ _ p.0 in
    let r = both_are _ _ q.0 in
    let address : a.address.bits ≡ b.address.bits = eqb-true a.address.bits b.address.bits r.0 in
    let priority : a.priority ≡ b.priority = eqb-true a.priority b.priority r.1 in
    let propagation : a.propagation_delay ≡ b.propagation_delay = eqb-true a.propagation_delay b.propagation_delay q.1 in
    let override : a.override_interval ≡ b.override_interval = eqb-true a.override_interval b.override_interval p.1 in
    rw (of_a, of_b, address, priority, propagation, override) refl
