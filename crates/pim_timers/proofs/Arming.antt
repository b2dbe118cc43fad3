-- The moments of a map, armed one after the other.
use Rattle.std.{proofs.Common.{◌≡◌, ℕ, ◌||◌, Bool, true, cond, Option, Some, List, [], ◌∷◌, sym, ap, subst, ◌∙◌}, specs.Map.lookup}
use Rattle.pim_types.{specs.declared.timer.Timer.Timer}
use Rattle.pim_timers.{specs.{Armed.{AreArmed, IsArmed}, Dues.{Due, same_due}}, proofs.{Armed.{Owes, all_owed, none_owed, now_armed, owed_less, put_grows, put_held}, Entries.{contents_of, get_contents, tied, tied_is}, Lookups.same_is}}
use Rattle.std.specs.FinMap as map

abbrev pub left_of : List (Timer × ℕ) → Timer → Option ℕ
left_of es t = lookup (tied t) es

pub moments_owed : (es fs : List (Timer × ℕ)) (h : Due → Bool) → fs ≡ es → Owes (map.get (contents_of es)) (left_of fs) h
moments_owed es fs h same =
    all_owed (map.get (contents_of es)) (left_of fs) h
    (λ t. ap (λ xs. left_of xs t) same ∙ sym (get_contents es t))

pub moment_armed : (f : Timer → Option ℕ) (e : Timer × ℕ) (es fs : List (Timer × ℕ)) (h k : Due → Bool) → fs ≡ e ∷ es
    → ((d : Due) → k d ≡ (same_due d (e.1, e.0) || h d)) → Owes f (left_of fs) h → Owes f (left_of es) k
moment_armed f e es fs h k same put owes =
    owed_less f (left_of fs) (left_of es) (λ t. tied t e.0) h k
    (λ t other. ap (λ xs. left_of xs t) same ∙ ap (λ (b : Bool). cond b (Some e.1) (left_of es t)) other)
    (put_grows h k (e.1, e.0) put) armed owes
  where
    armed : (t : Timer) → tied t e.0 ≡ true → IsArmed k t (left_of fs t)
    armed t own =
        let one : e.0 ≡ t = sym (same_is t e.0 (sym (tied_is t e.0) ∙ own)) in
        now_armed k t (left_of fs t) e.1
        (ap (λ xs. left_of xs t) same ∙ ap (λ (b : Bool). cond b (Some e.1) (left_of es t)) own)
        (subst (λ (q : Timer). k (e.1, q) ≡ true) one (put_held h k (e.1, e.0) put))

pub moments_armed : (f : Timer → Option ℕ) (es : List (Timer × ℕ)) (h : Due → Bool) → es ≡ [] → Owes f (left_of es) h
    → AreArmed f h
moments_armed f es h none owes = none_owed f (left_of es) h (λ t. ap (λ xs. left_of xs t) none) owes
