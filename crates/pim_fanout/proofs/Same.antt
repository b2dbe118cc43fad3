-- What is compared of two sights of a source is what is compared of the states of which they are true.
use Rattle.std.{proofs.{Common.{◌≡◌, ◌&&◌, ◌+◌, ◌≤◌, ◌<◌, ℕ, zero, suc, Bool, true, false, not, nat_lt, refl, sym, ap, subst, ◌∙◌, arith}, lemmas.Bool.Decides.nat_tests}, specs.List.{list_all, range_with_len}}
use Rattle.pim_ifset.{specs.Members.{Members, has}}
use Rattle.pim_types.{specs.Keys.{group_in, source_in, source_key}}
use Rattle.pim_model.{specs.{Rows.{same_both, same_path, same_register_state}, Limits.most_ifaces, Sets.Set, State.State, Tables.{has_row, same_bool, same_hop, same_option}}}
use Rattle.law_events.{specs.Named.{IsMask, is_source_named, is_same_beside, is_same_sight, is_same_star, same_set}, proofs.{KeptSources.Low, Masks.same_masks}}
use Rattle.pim_macros.{specs.{Sights.{ShowsSource, ShowsStar}, declared.sight.{SourceSight.SourceSight, StarSight.StarSight}}}
use Rattle.pim_fanout.{specs.{Before.{IsKnown, KnownAs, seen_key}, Named.{is_changed, is_same_source}, Same.{same_asserts, same_beside, same_common, same_members, same_routes, same_sight, same_source, same_star, same_star_routes}, declared.before.KnownSource.KnownSource}}

-- ---- what two sets have in common

-- the set with those below the limit of what is in both
module _ (s t both whole : Members) (common : (q : ℕ) → has both q ≡ (has s q && has t q))
    (limit : (q : ℕ) → has whole q ≡ (nat_lt q most_ifaces && has both q)) where
  common_mask : IsMask whole.mask (λ q. has s q && has t q)
  unfolding has
  common_mask q = limit q ∙ ap (λ (b : Bool). nat_lt q most_ifaces && b) (common q)

pub common_alike : (s t u v both later whole whole' : Members) → ((q : ℕ) → has both q ≡ (has s q && has t q))
    → ((q : ℕ) → has later q ≡ (has u q && has v q))
    → ((q : ℕ) → has whole q ≡ (nat_lt q most_ifaces && has both q))
    → ((q : ℕ) → has whole' q ≡ (nat_lt q most_ifaces && has later q))
    → same_members whole whole' ≡ same_common s t u v
common_alike s t u v both later whole whole' common common' limit limit' =
    same_masks whole.mask whole'.mask (λ q. has s q && has t q) (λ q. has u q && has v q)
    (common_mask s t both whole common limit) (common_mask u v later whole' common' limit')

-- a set of those that pass a test has where it may what passes
passes : (s : Members) (f : Set) → IsMask s.mask f → (i : ℕ) → Low i → has s i ≡ f i
unfolding has
passes s f mask i low = mask i ∙ ap (λ (b : Bool). b && f i) low

all_alike : (p q : ℕ → Bool) (a n : ℕ) → ((i : ℕ) → a ≤ i → i < a + n → p i ≡ q i)
    → list_all p (range_with_len a n) ≡ list_all q (range_with_len a n)
all_alike p q a zero same = refl
all_alike p q a (suc n) same = λ j.
    same a (omega arith) (omega arith) j && all_alike p q (a + 1) n (λ i low high. same i (omega arith) (omega arith)) j

sets_alike : (f h f' h' : Set) → ((i : ℕ) → Low i → f i ≡ f' i) → ((i : ℕ) → Low i → h i ≡ h' i)
    → same_set f h ≡ same_set f' h'
unfolding same_set
sets_alike f h f' h' first second =
    all_alike (λ i. same_bool (f i) (h i)) (λ i. same_bool (f' i) (h' i)) 0 most_ifaces
    (λ i low high. λ j. same_bool (first i (grind (arith, nat_tests, high)) j) (second i (grind (arith, nat_tests, high)) j))

common_shown : (s t u v : Members) (f k h l : Set) → IsMask s.mask f → IsMask t.mask k → IsMask u.mask h → IsMask v.mask l
    → same_common s t u v ≡ same_set (λ i. f i && k i) (λ i. h i && l i)
common_shown s t u v f k h l first second third fourth =
    sets_alike (λ q. has s q && has t q) (λ q. has u q && has v q) (λ i. f i && k i) (λ i. h i && l i)
    (λ i low j. passes s f first i low j && passes t k second i low j)
    (λ i low j. passes u h third i low j && passes v l fourth i low j)

module _ (g src : ℕ) (o a : State) where
  stars : (x y : StarSight) → ShowsStar o g x → ShowsStar a g y → same_star x y ≡ is_same_star g o a
  unfolding same_star same_star_routes is_same_star has
  stars x y p q = λ j.
      same_option (p.rp j) (q.rp j) && same_both same_path (p.rp_path j) (q.rp_path j)
      && same_hop (p.next_hop j) (q.next_hop j) && same_hop (p.winner j) (q.winner j)
      && same_masks (x.joined).mask (y.joined).mask _ _ p.joined q.joined j
      && same_masks (x.lost).mask (y.lost).mask _ _ p.lost q.lost j
      && same_masks (x.won).mask (y.won).mask _ _ p.won q.won j
      && same_masks (x.receivers).mask (y.receivers).mask _ _ p.receivers q.receivers j
      && common_shown x.dr x.receivers y.dr y.receivers _ _ _ _ p.dr p.receivers q.dr q.receivers j

  sights : (x y : SourceSight) → ShowsSource o g src x → ShowsSource a g src y
      → same_sight x y ≡ is_same_sight g src o a
  unfolding same_sight same_asserts same_routes is_same_sight has
  sights x y p q = λ j.
      stars x.star y.star p.star q.star j && same_both same_path (p.path j) (q.path j)
      && same_hop (p.next_hop j) (q.next_hop j) && same_hop (p.winner j) (q.winner j)
      && same_hop (p.tree_winner j) (q.tree_winner j)
      && same_masks (x.joined).mask (y.joined).mask _ _ p.joined q.joined j
      && same_masks (x.pruned).mask (y.pruned).mask _ _ p.pruned q.pruned j
      && same_masks (x.lost).mask (y.lost).mask _ _ p.lost q.lost j
      && same_masks (x.won).mask (y.won).mask _ _ p.won q.won j
      && same_masks (x.beaten).mask (y.beaten).mask _ _ p.beaten q.beaten j
      && same_masks (x.included).mask (y.included).mask _ _ p.included q.included j
      && same_masks (x.excluded).mask (y.excluded).mask _ _ p.excluded q.excluded j
      && common_shown x.star.dr x.included y.star.dr y.included _ _ _ _ p.star.dr p.included q.star.dr q.included j
      && same_bool (p.spt j) (q.spt j)

  besides : (x y : KnownSource) → KnownAs o g src x → KnownAs a g src y → same_beside x y ≡ is_same_beside g src o a
  unfolding same_beside is_same_beside
  besides x y p q = λ j.
      same_bool (p.may_register j) (q.may_register j) && same_bool (p.could_register j) (q.could_register j)
      && same_both same_register_state (p.register j) (q.register j) && same_bool (p.is_desired j) (q.is_desired j)

  known_alike : (x y : KnownSource) → KnownAs o g src x → KnownAs a g src y → same_source x y ≡ is_same_source g src o a
  unfolding same_source
  known_alike x y p q = λ j. sights x.sight y.sight p.sight q.sight j && besides x y p q j

-- ---- who is named

module _ (o a : State) (g src : ℕ) where
  new_step : (h s b : Bool) → (h && not ((not h && s) && b)) ≡ h
  new_step true s b = refl
  new_step false s b = refl

  -- a source that had no fact is changed where it has one
  pub new_is_changed : has_row o.sources (source_key 0 g src) ≡ false
      → is_changed o a (source_key 0 g src) ≡ has_row a.sources (source_key 0 g src)
  unfolding is_changed is_source_named
  new_is_changed none =
      rw none (new_step (has_row a.sources (source_key 0 g src)) (is_same_sight g src o a) (is_same_beside g src o a))

  -- a source that had a fact and has none is changed
  pub gone_is_changed : has_row o.sources (source_key 0 g src) ≡ true → has_row a.sources (source_key 0 g src) ≡ false
      → is_changed o a (source_key 0 g src) ≡ true
  unfolding is_changed is_source_named
  gone_is_changed there none = rw (there, none) refl

  pub kept_is_changed : has_row o.sources (source_key 0 g src) ≡ true → has_row a.sources (source_key 0 g src) ≡ true
      → is_changed o a (source_key 0 g src) ≡ not (is_same_source g src o a)
  unfolding is_changed is_source_named
  kept_is_changed there still = rw (there, still) refl

-- two of one key
pub known_is_changed : (o a : State) (x y : KnownSource) → IsKnown o x → IsKnown a y
    → seen_key y.sight ≡ seen_key x.sight → not (same_source x y) ≡ is_changed o a (seen_key x.sight)
known_is_changed o a x y p q same =
    let g : ℕ = x.sight.star.group.bits in
    let src : ℕ = x.sight.source.bits in
    let alike : KnownAs a g src y =
    subst (λ k. KnownAs a (group_in k) (source_in k) y) same q in
    ap not (known_alike g src o a x y p alike) ∙ sym (kept_is_changed o a g src p.fact alike.fact)
