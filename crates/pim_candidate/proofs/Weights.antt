-- Weights of BSRs.
use Rattle.std.{proofs.{Common.{◌≡◌, ℕ, Bool, true, false, cond, min, not, nat_le, ◌==◌, refl, sym, ap, ◌∙◌, arith}, lemmas.Bool.Decides.nat_tests}}
use Rattle.pim_candidate.{specs.{Election.{does, heard, is_at_least, is_elected, less_heard, originated, weighed, yielded}, Laws.{OneOfTwoStays, OwnIsNotHeard}, declared.election.{Action.Action, Bsr.Bsr, Election.Election, Role.Role}}}

pub own_is_not_heard : OwnIsNotHeard
unfolding heard
own_is_not_heard e b now own =
    ap (λ (t : Bool). cond t (does Action.Nothing e) (weighed e.role e.stored e b now)) own

-- of two BSRs one has more weight
heavier : (a b : Bsr) → (a.address.bits == b.address.bits) ≡ false → is_at_least b a ≡ not (is_at_least a b)
unfolding is_at_least
heavier a b differ = grind (arith, nat_tests)

turned : (m n : ℕ) → (m == n) ≡ false → (n == m) ≡ false
turned m n e = grind (arith, nat_tests)

-- an elected BSR stays it where the other one has less weight
stays : (e : Election) (b : Bsr) (now : ℕ) → (b.address.bits == e.own.address.bits) ≡ false → e.role ≡ Role.Elected
    → is_elected (heard e b now).left.role ≡ not (is_at_least b e.own)
unfolding heard
stays e b now other role =
    ap (λ (t : Bool). is_elected (cond t (does Action.Nothing e) (weighed e.role e.stored e b now)).left.role) other
    ∙ ap (λ (r : Role). is_elected (weighed r e.stored e b now).left.role) role
    ∙ go (is_at_least b e.own) (nat_le e.quiet now)
  where
    less : (c : Bool) → is_elected (cond c (does Action.Originate (originated e now)) (does Action.Nothing (record e { end = min e.end e.quiet }))).left.role ≡ true
    less true = refl
    less false = ap is_elected role

    go : (b' c : Bool) → is_elected (cond b' (does Action.Take (yielded e b now)) (less_heard e.role e now)).left.role ≡ not b'
    go true c = refl
    go false c = ap (λ (r : Role). is_elected (less_heard r e now).left.role) role ∙ less (nat_le e.quiet now)

pub one_of_two_stays : OneOfTwoStays
one_of_two_stays e f now later differ first second =
    stays e f.own now (turned e.own.address.bits f.own.address.bits differ) first
    ∙ ap not (heavier e.own f.own differ)
    ∙ ap not (sym (stays f e.own later differ second))
