-- What is sent upstream is told by what was opened.
use Rattle.std.{proofs.{Common.{◌≡◌, ◌==◌, ◌||◌, if◌then◌else◌, ℕ, Bool, true, false, List, [], ◌++◌, map, refl, sym, ap, ◌∙◌}, lemmas.List.Folds.list_any-append}, specs.List.{filter, list_any}}
use Rattle.pim_types.{specs.{declared.fact.Key.Key, Keys.{group_in, is_of_group, star_key}}}
use Rattle.pim_model.{specs.{Messages.Message, Querier.each_in_turn, State.State, Upstream.{Told, fact_keys, group_upstream, groups_of, source_upstream, sources_of, star_told, star_view, upstream, with_join_timer}, Tables.is_among}}
use Rattle.law_events.{specs.Locality.{own_keys, own_upstream, touching}, proofs.OwnKeys.{own_touched, upstream_is_own}}
use Rattle.law_settled.{proofs.{Numbers.{any_ascending, members_tell}, TableLaws.any_of_map}}
use Rattle.pim_state.{specs.declared.touched.Touched.Touched}
use Rattle.pim_views.{specs.{Openings.{group_opening, opening_of, source_opening, touched_sources}, Covers.{Covers, IsWithin, NewAreNamed}}}
use Rattle.pim_upstream.{specs.Told.{group_step, source_moved, source_step, upstream_by}, proofs.{Members.{is_told, told_of_all, told_of_keys}, Steps.{of_values, passing, same_steps}}}

module _ (o a : State) (w : ℕ) where
  moved : (g : ℕ) (s : State) (src : ℕ) → source_step a w g s (source_opening o g src)
      ≡ (if is_told g o a src then source_upstream o a w g s src else (s, []))
  unfolding source_step source_moved source_upstream
  moved g s src = refl

  sources_told : (touched : Touched) (g : ℕ) (ks : List Key)
      → sources_of g ks ≡ filter (is_told g o a) (touched_sources o touched g) → (s : State)
      → each_in_turn (source_upstream o a w g) s (sources_of g ks)
      ≡ each_in_turn (source_step a w g) s (map (source_opening o g) (touched_sources o touched g))
  sources_told touched g ks are s =
      ap (λ ns. each_in_turn (source_upstream o a w g) s ns) are
      ∙ sym (passing (source_upstream o a w g) (is_told g o a) (touched_sources o touched g) s)
      ∙ sym (of_values (source_step a w g) (source_opening o g) (touched_sources o touched g) s
      ∙ same_steps _ _ (moved g) (touched_sources o touched g) s)

  group_is : (touched : Touched) (g : ℕ) (ks : List Key)
      → sources_of g ks ≡ filter (is_told g o a) (touched_sources o touched g) → (s : State)
      → group_upstream o a w ks s g ≡ group_step a w s (group_opening o touched g)
  unfolding group_upstream group_step
  group_is touched g ks are s =
      let told : Told = star_told a w g (star_view o g) (star_view a g) in
      let first : State = with_join_timer s (star_key 0 g) told.timer in
      ap (λ (later : State × List Message).
      let both : State × List Message = (later.0, told.messages ++ later.1) in both)
      (sources_told touched g ks are first)

pub upstream_of_keys : (keys : List Key) (o a : State) (w : ℕ) → NewAreNamed keys o a
    → own_upstream keys o a w ≡ upstream_by (opening_of o (Touched.Keys keys)) a w
unfolding own_upstream upstream_by opening_of
upstream_of_keys keys o a w new =
    same_steps _ _ (λ s g. group_is o a w (Touched.Keys keys) g (filter (touching keys) (own_keys g o ++ own_keys g a))
    (own_touched g (touching keys) o a ∙ told_of_keys g o a keys new) s) (groups_of keys) a
    ∙ sym (of_values (group_step a w) (group_opening o (Touched.Keys keys)) (groups_of keys) a)

-- ---- all of them

absorbed : (b c : Bool) → (c ≡ true → b ≡ true) → (b || c) ≡ b
absorbed true c e = refl
absorbed false true e = sym (e refl)
absorbed false false e = refl

-- no more groups than there were
groups_within : (ks ls : List Key) → ((g : ℕ) → list_any (is_of_group g) ls ≡ true → list_any (is_of_group g) ks ≡ true)
    → groups_of (ks ++ ls) ≡ groups_of ks
unfolding groups_of is_among
groups_within ks ls within =
    members_tell (map group_in (ks ++ ls)) (map group_in ks) (λ n.
    any_ascending (λ m. m == n) (map group_in (ks ++ ls))
    ∙ any_of_map (λ m. m == n) group_in (ks ++ ls)
    ∙ list_any-append (is_of_group n) ks ls
    ∙ absorbed (list_any (is_of_group n) ks) (list_any (is_of_group n) ls) (within n)
    ∙ sym (any_ascending (λ m. m == n) (map group_in ks) ∙ any_of_map (λ m. m == n) group_in ks))

pub upstream_of_all : (o a : State) (w : ℕ) → IsWithin o a → upstream o a w ≡ upstream_by (opening_of o Touched.All) a w
unfolding upstream upstream_by opening_of
upstream_of_all o a w within =
    ap (λ gs. each_in_turn (group_upstream o a w (fact_keys o ++ fact_keys a)) a gs)
    (groups_within (fact_keys o) (fact_keys a) within.groups)
    ∙ same_steps _ _ (λ s g. group_is o a w Touched.All g (fact_keys o ++ fact_keys a)
    (told_of_all g o a (within.sources g)) s)
    (groups_of (fact_keys o)) a
    ∙ sym (of_values (group_step a w) (group_opening o Touched.All) (groups_of (fact_keys o)) a)

-- ---- what was opened

pub upstream_of_opened : (touched : Touched) (o a : State) (w : ℕ) → Covers touched o a
    → upstream o a w ≡ upstream_by (opening_of o touched) a w
upstream_of_opened Touched.All o a w within = upstream_of_all o a w within
upstream_of_opened (Touched.Keys keys) o a w concerns =
    upstream_is_own keys o a w concerns.agrees ∙ upstream_of_keys keys o a w concerns.named
