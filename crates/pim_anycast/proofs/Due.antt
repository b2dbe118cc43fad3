-- When announcements are due.
use Rattle.std.{proofs.{Common.{◌≡◌, ℕ, ◌+◌, ◌*◌, ◌/◌, ◌<◌, ◌≤◌, nat_le, nat_lt, Bool, true, false, cond, [], ◌∷◌, Some, None, refl, subst, arith}, lemmas.Bool.Decides.nat_tests}}
use Rattle.pim_model.{specs.Judging.last_moment}
use Rattle.pim_anycast.{specs.{Announced.{announcement_interval, is_due, next_announcement}, Laws.NextIsDue}}

-- the next multiple of the interval after a timestamp
abbrev next_of : ℕ → ℕ
next_of present = (present / announcement_interval + 1) * announcement_interval

due_at : (present moment : ℕ) → is_due present moment ≡ nat_le (next_of present) moment
due_at present moment = go (is_due present moment) (nat_le (next_of present) moment) refl refl
  where
    go : (b c : Bool) → is_due present moment ≡ b → nat_le (next_of present) moment ≡ c → b ≡ c
    go true true e f = refl
    go false false e f = refl
    go true false e f =
        let sooner : present / 60000 < moment / 60000 = grind (arith, nat_tests, e) in
        let over : moment < (present / 60000 + 1) * 60000 = grind (arith, nat_tests, f) in
        absurd (omega (arith, sooner, over))
    go false true e f =
        let later : moment / 60000 ≤ present / 60000 = grind (arith, nat_tests, e) in
        let within : (present / 60000 + 1) * 60000 ≤ moment = grind (arith, nat_tests, f) in
        absurd (omega (arith, later, within))

pub next_is_due : NextIsDue
unfolding next_announcement
next_is_due [] present next moment e = cc e
next_is_due (set ∷ sets) present next moment e = go (nat_lt last_moment present) (nat_le (next_of present) last_moment) e
  where
    go : (b c : Bool) → cond b None (cond c (Some (next_of present)) None) ≡ Some next → is_due present moment ≡ nat_le next moment
    go false true e =
        let same : next_of present ≡ next = cc in
        subst (λ (n : ℕ). is_due present moment ≡ nat_le n moment) same (due_at present moment)
    go false false e = cc e
    go true c e = cc e
