-- A timer that is set, moved or taken out, beside a queue of ends.
use Rattle.std.{proofs.Common.{◌≡◌, ℕ, Bool, true, false, cond, Option, Some, None, length, refl, sym, ap, subst, ◌∙◌, arith}}
use Rattle.pim_types.{specs.declared.timer.Timer.Timer, proofs.Timers.{timer_cmp_total, timer_exact}}
use Rattle.pim_timers.{specs.{Armed.{AreArmed, Entries, Grows, IsArmed, IsReal, IsSettled, holds}, Dues.{Due, IsFirst}, Ends.same_timer, Schedule.Contents}, proofs.{Armed.{armed_after, right_after, same_held}, Lookups.{get_removed, same_is}, Together.{other_inserted, other_removed, own_inserted, own_removed}}}
use Rattle.std.specs.FinMap as map

-- the entries stayed
pub settled_kept : (f : Timer → Option ℕ) (most : ℕ) (q r : Entries) → r.dues ≡ q.dues → IsSettled f most q
    → IsSettled f most r
settled_kept f most q r kept settled = record {
  armed = λ t m is. let w = settled.armed t m is in (w.0, w.1, same (w.0, t) ∙ w.2);
  real = λ due first. settled.real due (sym (same due) ∙ first.0, λ d is. first.1 d (same d ∙ is));
  few = let len = ap (λ ds. length ds) kept in omega (arith, len, settled.few);
}
  where
    same : (d : Due) → holds r d ≡ holds q d
    same = same_held r q kept

module _ (c d : Contents) (x : Timer) (h k : Due → Bool) where
  abbrev own : Timer → Bool
  own t = same_timer t x

  module _ (n : ℕ) (set : d ≡ map.insert c x n) (grows : Grows h k) where
    others_stay : (t : Timer) → own t ≡ false → map.get d t ≡ map.get c t
    others_stay t apart = ap (λ (s : Contents). map.get s t) set ∙ other_inserted c x t n apart

    pub set_armed : AreArmed (map.get c) h → IsArmed k x (Some n) → AreArmed (map.get d) k
    set_armed armed here =
        armed_after own (map.get c) (map.get d) h k others_stay grows armed
        (λ t is. subst (λ (o : Option ℕ). IsArmed k t o)
        (sym (ap (map.get d) (same_is t x is) ∙ ap (λ (s : Contents). map.get s x) set ∙ own_inserted c x n))
        (subst (λ (q : Timer). IsArmed k q (Some n)) (sym (same_is t x is)) here))

    pub set_right : IsReal (map.get c) h → ((e : Due) → own e.1 ≡ false → k e ≡ h e) → (due : Due) → IsFirst k (Some due)
        → own due.1 ≡ false → map.get d due.1 ≡ Some due.0
    set_right = right_after own (map.get c) (map.get d) h k others_stay grows

  module _ (gone : d ≡ map.remove c x) where
    others_left : (t : Timer) → own t ≡ false → map.get d t ≡ map.get c t
    others_left t apart = ap (λ (s : Contents). map.get s t) gone ∙ other_removed c x t apart

    pub gone_armed : AreArmed (map.get c) h → AreArmed (map.get d) h
    gone_armed armed =
        armed_after own (map.get c) (map.get d) h h others_left (λ e is. is) armed
        (λ t is m end. absurd_end (sym (ap (map.get d) (same_is t x is) ∙ ap (λ (s : Contents). map.get s x) gone
        ∙ own_removed c x) ∙ end))
      where
        absurd_end : {P : Type 0} {m : ℕ} → None ≡ Some m → P
        absurd_end e = cc

    pub gone_right : IsReal (map.get c) h → (due : Due) → IsFirst h (Some due) → own due.1 ≡ false
        → map.get d due.1 ≡ Some due.0
    gone_right real =
        right_after own (map.get c) (map.get d) h h others_left (λ e is. is) real (λ e apart. refl)

-- what wasn't there doesn't go
pub none_gone : (c : Contents) (x : Timer) → map.get c x ≡ None → map.remove c x ≡ c
none_gone c x none = map.same_map timer_cmp_total timer_exact _ _ (λ q. get_removed c x q ∙ go q (same_timer q x) refl)
  where
    go : (q : Timer) (b : Bool) → same_timer q x ≡ b → cond b None (map.get c q) ≡ map.get c q
    go q true same = sym (ap (map.get c) (same_is q x same) ∙ none)
    go q false apart = refl

-- what was there is put back
pub restored : (c d e : Contents) (x : Timer) (n : ℕ) (before : Option ℕ) → before ≡ map.get c x → d ≡ map.insert c x n
    → ((q : Timer) → map.get e q ≡ cond (same_timer q x) before (map.get d q)) → e ≡ c
restored c d e x n before was set back =
    map.same_map timer_cmp_total timer_exact _ _ (λ q. back q ∙ go q (same_timer q x) refl)
  where
    go : (q : Timer) (b : Bool) → same_timer q x ≡ b → cond b before (map.get d q) ≡ map.get c q
    go q true same = was ∙ sym (ap (map.get c) (same_is q x same))
    go q false apart = ap (λ (s : Contents). map.get s q) set ∙ other_inserted c x q n apart
