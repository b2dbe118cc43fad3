-- An ordered set of dues, in the order of dues.
use Rattle.std.{proofs.{Common.{◌≡◌, ◌<◌, ◌&&◌, ◌||◌, Bool, true, false, not, cond, List, [], ◌∷◌, length, Option, Some, None, refl, sym, ap, ◌∙◌, arith, Bor}, lemmas.Bool.true≢false}, specs.{Prelude.{IsTrue, IsSome, IfSome, ◌↔◌, option_copied}, List.list_any, Ordering.{is_eq, is_lt, is_gt, nat_cmp, ordering_then, ordering_reverse}, Cmp.eq_by_cmp_equiv, declared.cmp.Ordering.{Ordering, TheVariants.{Less, Equal, Greater}}}}
use Rattle.pim_timers.{specs.{Order.due_cmp, Dues.{Due, is_among, same_due, IsFirst}}, proofs.{Total.due_cmp_total, Ranks.due_order}}
use Rattle.pim_types.specs.contracts.timer.TimerOrd.TheImpl as timer_ord

-- the order of the set
abbrev pub set_cmp : Due → Due → Ordering
set_cmp a b = ordering_then (nat_cmp a.0 b.0) ((timer_ord.ghosts).cmp a.1 b.1)

abbrev pub has : List Due → Due → Bool
has ds d = list_any (λ e. is_eq (set_cmp d e)) ds

has_is : (ds : List Due) (d : Due) → has ds d ≡ is_among ds d
unfolding is_among same_due
has_is ds d = ap (λ (c : Due → Due → Ordering). list_any (λ e. is_eq (c d e)) ds) (λ i a b. due_order a b i)

tie_is : (d e : Due) → is_eq (set_cmp d e) ≡ same_due e d
unfolding same_due
tie_is d e = ap is_eq (due_order d e) ∙ (eq_by_cmp_equiv due_cmp_total).symm d e

either : (a b : Bool) → cond a true b ≡ (a || b)
either true b = refl
either false b = refl

without : (a b : Bool) → cond a false b ≡ (not a && b)
without true b = refl
without false b = refl

module _ (old new : List Due) (due : Due) where
  pub inserted : ((d : Due) → has new d ≡ cond (is_eq (set_cmp due d)) true (has old d)) → (d : Due)
      → is_among new d ≡ (same_due d due || is_among old d)
  inserted is d = sym (has_is new d) ∙ is d ∙ either (is_eq (set_cmp due d)) (has old d)
      ∙ (λ i. tie_is due d i || has_is old d i)

  pub removed : ((d : Due) → has new d ≡ cond (is_eq (set_cmp due d)) false (has old d)) → (d : Due)
      → is_among new d ≡ (not (same_due d due) && is_among old d)
  removed is d = sym (has_is new d) ∙ is d ∙ without (is_eq (set_cmp due d)) (has old d)
      ∙ (λ i. not (tie_is due d i) && has_is old d i)

not_gt : (o : Ordering) → is_gt o ≡ false → is_lt (ordering_reverse o) ≡ false
not_gt Less e = refl
not_gt Equal e = refl
not_gt Greater e = cc

-- what the set tells of its first
some_first : (ds : List Due) (due : Due) → IsTrue (has ds due)
    → ((q : Due) → IsTrue (has ds q) → is_gt (set_cmp due q) ≡ false) → IsFirst (is_among ds) (Some due)
some_first ds due member least = (
  sym (has_is ds due) ∙ member,
  λ d is. ap is_lt (due_cmp_total.antisymm d due)
      ∙ not_gt (due_cmp due d) (ap is_gt (sym (due_order due d)) ∙ least d (has_is ds d ∙ is)),
)

no_first : (ds : List Due) → (0 < length ds → ⊥) → IsFirst (is_among ds) None
unfolding is_among
no_first [] empty d = refl
no_first (x ∷ ds) empty d = absurd (empty (omega arith))

pub first_copied : (ds : List Due) (r : Option (Bor Due)) → (IsSome r ↔ (0 < length ds))
    → IfSome r (λ k. IsTrue (has ds k.now))
    → IfSome r (λ k. (q : Due) → IsTrue (has ds q) → is_gt (set_cmp k.now q) ≡ false)
    → IsFirst (is_among ds) (option_copied r)
first_copied ds None variant member least = no_first ds (λ less. true≢false (sym (variant.1 less)))
first_copied ds (Some k) variant member least = some_first ds k.now member least
