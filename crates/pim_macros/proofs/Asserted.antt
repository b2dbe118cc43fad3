-- Asserts by the sets of the interfaces on which the router lost or won one.
use Rattle.std.{proofs.Common.{◌≡◌, ℕ, Bool, true, false, ◌&&◌, ◌||◌, nat_lt, Option, Some, None, is_some, refl, ap, sym, ◌∙◌}, specs.Option.option_map_or}
use Rattle.pim_ifset.{specs.Members.{Members, has}}
use Rattle.pim_types.{specs.{declared.fact.{AssertMetric.AssertMetric, AssertRole.AssertRole, AssertRow.AssertRow}, Keys.source_key}}
use Rattle.pim_model.{specs.{Sets.{Set, is_beaten, is_better, is_loser, is_winner, spt_metric}, State.State, Tables.{has_row, row_at}}}
use Rattle.pim_state.{specs.Shown.Shows}

some_row : (test : AssertRow → Bool) (o : Option AssertRow)
    → (is_some o && option_map_or test o false) ≡ option_map_or test o false
some_row test None = refl
some_row test (Some r) = refl

-- where there is no assert, no winner is better
pub beaten_where_asserted : (s : State) (g src i : ℕ) (asserted : Bool)
    → asserted ≡ has_row s.asserts (source_key i g src)
    → (asserted && is_beaten s g src i) ≡ is_beaten s g src i
unfolding is_beaten has_row
beaten_where_asserted s g src i asserted e =
    ap (λ b. b && is_beaten s g src i) e
    ∙ some_row (λ r. is_better r.winner (spt_metric s src i)) (row_at s.asserts (source_key i g src))

limit_none : (limit : Bool) → (limit && false) ≡ false
limit_none true = refl
limit_none false = refl

-- where there is no assert at all, an empty set shows where a winner is better
pub beaten_nowhere : (s : State) (g src : ℕ) (asserted set : Members)
    → ((i : ℕ) → has asserted i ≡ has_row s.asserts (source_key i g src)) → ((i : ℕ) → has asserted i ≡ false)
    → ((i : ℕ) → has set i ≡ false) → Shows set (is_beaten s g src)
beaten_nowhere s g src asserted set tells none empty i =
    let e : is_beaten s g src i ≡ false =
    sym (beaten_where_asserted s g src i (has asserted i) (tells i)) ∙ ap (λ b. b && is_beaten s g src i) (none i) in
    empty i ∙ sym (ap (λ b. nat_lt i 120 && b) e ∙ limit_none (nat_lt i 120))

either_role : (role : AssertRole) (winner : AssertMetric) (end : ℕ)
    → let row : Option AssertRow = Some (record { role = role; winner = winner; end = end }) in
    (is_loser row || is_winner row) ≡ true
either_role AssertRole.Loser winner end = refl
either_role AssertRole.Winner winner end = refl

lost_or_won : (o : Option AssertRow) → (is_loser o || is_winner o) ≡ is_some o
lost_or_won None = refl
lost_or_won (Some r) = either_role r.role r.winner r.end

-- an assert is lost or won
pub asserted_where_either : (lost won either : Members) (row : ℕ → Option AssertRow)
    → ((i : ℕ) → has lost i ≡ is_loser (row i))
    → ((i : ℕ) → has won i ≡ is_winner (row i)) → ((i : ℕ) → has either i ≡ (has lost i || has won i)) → (i : ℕ)
    → has either i ≡ is_some (row i)
asserted_where_either lost won either row l w e i = e i ∙ (λ j. l i j || w i j) ∙ lost_or_won (row i)

-- a set that tells of each interface shows of those below the limit
pub shown_of_all : (all set : Members) (test : Set) → ((i : ℕ) → has all i ≡ test i)
    → ((i : ℕ) → has set i ≡ (nat_lt i 120 && has all i)) → Shows set test
shown_of_all all set test tells limited i = limited i ∙ ap (λ b. nat_lt i 120 && b) (tells i)

limited_either : (limit a b : Bool) → ((limit && a) || (limit && b)) ≡ (limit && (a || b))
limited_either true a b = refl
limited_either false a b = refl

-- where an assert is lost or won there is one
pub asserted_shown : (lost won either : Members) (row : ℕ → Option AssertRow) → Shows lost (λ i. is_loser (row i))
    → Shows won (λ i. is_winner (row i)) → ((i : ℕ) → has either i ≡ (has lost i || has won i))
    → Shows either (λ i. is_some (row i))
asserted_shown lost won either row l w e i =
    e i ∙ (λ j. l i j || w i j) ∙ limited_either (nat_lt i 120) (is_loser (row i)) (is_winner (row i))
    ∙ ap (λ b. nat_lt i 120 && b) (lost_or_won (row i))
