-- The entries of an ordered map of timers as a finite map.
use Rattle.std.{proofs.{Common.{◌≡◌, ℕ, ◌+◌, Bool, false, cond, refl, sym, ap, ◌∙◌, Option, Some, None, is_some, List, [], ◌∷◌, length, arith}, lemmas.Map.Keys.IsDistinct-from_sorted}, specs.{List.{AllByRecursion, IsDistinct, Sorted.IsStrictlySortedBy}, Map.{keys_of, lookup}, Ordering.{eq_by_cmp, is_eq}}}
use Rattle.pim_types.{specs.{declared.timer.Timer.Timer, Timers.timer_cmp}, proofs.Timers.{timer_cmp_total, timer_exact}}
use Rattle.pim_timers.{specs.{Schedule.Contents, Ends.same_timer}, proofs.{Ranks.timer_order, Lookups.{same_symm, get_removed, get_inserted}}}
use Rattle.std.specs.FinMap as map
use Rattle.pim_types.specs.contracts.timer.TimerOrd.TheImpl as timer_ord

-- the map finds a timer where the two tie
abbrev pub tied : Timer → Timer → Bool
tied t u = is_eq ((timer_ord.ghosts).cmp t u)

pub tied_is : (t u : Timer) → tied t u ≡ same_timer t u
unfolding same_timer
tied_is t u = ap is_eq (timer_order t u)

abbrev pub contents_of : List (Timer × ℕ) → Contents
contents_of es = map.from_entries es

found : (q : Timer) (es : List (Timer × ℕ)) → map.find timer_cmp q es ≡ lookup (tied q) es
unfolding same_timer
found q [] = refl
found q (e ∷ es) =
    let ties : eq_by_cmp timer_cmp q e.0 ≡ tied q e.0 = sym (tied_is q e.0) in
    let rest = found q es in
    λ i. cond (ties i) (Some e.1) (rest i)

pub get_contents : (es : List (Timer × ℕ)) (q : Timer) → map.get (contents_of es) q ≡ lookup (tied q) es
get_contents es q = map.get-from_entries timer_cmp_total es q ∙ found q es

turned : (t q : Timer) → tied t q ≡ same_timer q t
turned t q = tied_is t q ∙ same_symm t q

module _ (es fs : List (Timer × ℕ)) (t : Timer) where
  pub inserted : (m : ℕ) → ((q : Timer) → lookup (tied q) fs ≡ cond (tied t q) (Some m) (lookup (tied q) es))
      → contents_of fs ≡ map.insert (contents_of es) t m
  inserted m is = map.same_map timer_cmp_total timer_exact _ _ (λ q.
      get_contents fs q ∙ is q ∙ ap (λ b. cond b (Some m) (lookup (tied q) es)) (turned t q)
      ∙ sym (get_inserted (contents_of es) t m q ∙ ap (cond (same_timer q t) (Some m)) (get_contents es q)))

  pub removed : ((q : Timer) → lookup (tied q) fs ≡ cond (tied t q) None (lookup (tied q) es))
      → contents_of fs ≡ map.remove (contents_of es) t
  removed is = map.same_map timer_cmp_total timer_exact _ _ (λ q.
      get_contents fs q ∙ is q ∙ ap (λ b. cond b None (lookup (tied q) es)) (turned t q)
      ∙ sym (get_removed (contents_of es) t q ∙ ap (cond (same_timer q t) None) (get_contents es q)))

absent : (t : Timer) (es : List (Timer × ℕ)) → AllByRecursion (λ u. tied t u ≡ false) (keys_of es)
    → lookup (tied t) es ≡ None
absent t [] apart = refl
absent t (e ∷ es) apart = rw apart.0 (absent t es apart.1)

len_distinct : (es : List (Timer × ℕ)) → IsDistinct tied (keys_of es) → map.len (contents_of es) ≡ length es
unfolding IsDistinct
len_distinct [] distinct = map.len-empty timer_cmp ℕ
len_distinct (e ∷ es) distinct =
    map.len-insert timer_cmp_total (contents_of es) e.0 e.1
    ∙ ap (λ (o : Option ℕ). cond (is_some o) (map.len (contents_of es)) (map.len (contents_of es) + 1))
    (get_contents es e.0 ∙ absent e.0 es distinct.0)
    ∙ let rest = len_distinct es distinct.1 in omega (arith, rest)

pub len_contents : (es : List (Timer × ℕ)) → IsStrictlySortedBy (timer_ord.ghosts).cmp (keys_of es)
    → map.len (contents_of es) ≡ length es
len_contents es sorted = len_distinct es (IsDistinct-from_sorted (timer_ord.ghosts).cmp (keys_of es) sorted)
