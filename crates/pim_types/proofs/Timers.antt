-- The order of timers is total, and timers that compare equal are equal.
use Rattle.std.{proofs.Common.{◌≡◌, ℕ, refl, sym, ap, ◌∙◌, [], ◌∷◌, get_or, ◌-◌}, specs.{Ordering.nat_cmp, Cmp.{IsTotalOrder, nat_cmp_total, on_total, then_total}, FinMap.{IsAntisymmetric, nat_cmp-IsAntisymmetric}}}
use Rattle.pim_types.{specs.{declared.timer.{Timer.Timer, TimerKind.{TimerKind, TheVariants.{Neighbour, PrunePending, DownstreamExpiry, GroupRecord, SourceRecord, Assert, Keepalive, Register, Override, Join, OtherQuerier, GroupRepeat, SourceRepeat, GeneralQuery, Hello}}}, Timers.{rank, timer_cmp}}, proofs.Keys.{both_tied, key_cmp_total, key_exact}}

pub timer_cmp_total : IsTotalOrder timer_cmp
unfolding timer_cmp
timer_cmp_total =
    then_total (on_total (λ (t : Timer). rank t.kind) nat_cmp_total) (on_total (λ (t : Timer). t.key) key_cmp_total)

-- the kind of a rank
kind_at : ℕ → TimerKind
kind_at n =
    get_or
    (Neighbour ∷ PrunePending ∷ DownstreamExpiry ∷ GroupRecord ∷ SourceRecord ∷ Assert ∷ Keepalive ∷ Register
    ∷ Override ∷ Join ∷ OtherQuerier ∷ GroupRepeat ∷ SourceRepeat ∷ GeneralQuery ∷ Hello ∷ [])
    (n - 1) Neighbour

kind_at_rank : (k : TimerKind) → kind_at (rank k) ≡ k
unfolding kind_at rank
kind_at_rank = elim [ Neighbour ↦ refl | _ ↦ refl ]

kind_exact : (a b : TimerKind) → rank a ≡ rank b → a ≡ b
kind_exact a b e = sym (kind_at_rank a) ∙ ap kind_at e ∙ kind_at_rank b

pub timer_exact : IsAntisymmetric timer_cmp
unfolding timer_cmp
timer_exact a b e =
    let both = both_tied (nat_cmp (rank a.kind) (rank b.kind)) _ e in
    let kind = kind_exact a.kind b.kind (nat_cmp-IsAntisymmetric _ _ both.0) in
    let key = key_exact a.key b.key both.1 in
    λ i. record { kind = kind i; key = key i }
