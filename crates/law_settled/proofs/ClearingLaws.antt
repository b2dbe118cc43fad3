-- Clearing ends: each fact that goes makes the asserts and the set SPTbits fewer.
use Rattle.std.{proofs.Common.{◌≡◌, ℕ, ◌<◌, ◌≤◌, Bool, true, false, not, cond, ◌&&◌, ◌||◌, List, [], ◌∷◌, ◌++◌, length, Option, Some, None, refl, ap, ◌∙◌, arith}, specs.{List.{filter, cons_option, find, list_any}, Option.{option_map, option_or}}}
use Rattle.pim_types.{specs.{declared.fact.{Key.Key, AssertRow.AssertRow, SourceRow.SourceRow}, Keys.same_key}, proofs.Keys.same_key_same}
use Rattle.pim_model.{specs.{Tables.{changed_entry, change_row, drop_at, drop_where, Table}, State.State, Messages.Message, Asserts.{assert_forgotten, without_spt, without_spt_bit}, Clearing.{Cleared, ClearAssert, ClearSptBit, assert_to_clear, spt_to_clear, spt_must_go, to_clear, cleared, clearable_count, clear_all, assert_must_go, is_assert_first, first_by}, Repeat.{and_then, until_none}}}
use Rattle.law_settled.{proofs.{ListLaws.{filter_stricter, any_more, any_of_filter, first_by_member, find_member}, RepeatLaws.{none_is_next, same_with_more_fuel, unrolls}}}

abbrev in_turn : State × List Message → State × List Message → State × List Message
in_turn p rest = (rest.0, p.1 ++ rest.1)

-- ---- asserts

abbrev is_at_key : {R : Type 0} → Key → Key × R → Bool
is_at_key k e = same_key k e.0

drop_fewer : {R : Type 0} (k : Key) (t : Table R) → list_any (is_at_key k) t ≡ true → length (drop_at t k) < length t
unfolding drop_at drop_where
drop_fewer k t e = filter_stricter (λ e. not (same_key k e.0)) (is_at_key k) (λ x here. grind (arith, here)) t e

assert_member : (o s : State) (k : Key) (r : AssertRow) → assert_to_clear o s ≡ Some (ClearAssert k r)
    → list_any (is_at_key k) s.asserts ≡ true
unfolding assert_to_clear
assert_member o s k r e = go (first_by is_assert_first (filter (assert_must_go o s) s.asserts)) refl e
  where
    go : (p : Option (Key × AssertRow)) → first_by is_assert_first (filter (assert_must_go o s) s.asserts) ≡ p
        → option_map (λ e. ClearAssert e.0 e.1) p ≡ Some (ClearAssert k r) → list_any (is_at_key k) s.asserts ≡ true
    go None was f = cc
    go (Some d) was f =
        let same : d.0 ≡ k = cc in
        let here : is_at_key k d ≡ true = ap (λ q. same_key k q) same ∙ same_key_same k in
        any_of_filter (assert_must_go o s) (is_at_key k) s.asserts
        (first_by_member is_assert_first (is_at_key k) (filter (assert_must_go o s) s.asserts) d here was)

-- ---- SPTbits

abbrev pub is_spt : Key × SourceRow → Bool
is_spt e = (e.1).spt

abbrev pub spt_count : Table SourceRow → ℕ
spt_count t = length (filter is_spt t)

-- what becomes of an entry: b says that it is the one, c that its keepalive timer runs
abbrev entry_after : Bool → Bool → Key × SourceRow → Option (Key × SourceRow)
entry_after b c x =
    cond b (option_map (λ row. (x.0, row)) (cond c (Some (record (x.1) { spt = false })) None)) (Some x)

no_more : (b c d : Bool) (x : Key × SourceRow) (ys xs : Table SourceRow) → is_spt x ≡ d → spt_count ys ≤ spt_count xs
    → spt_count (cons_option (entry_after b c x) ys) ≤ length (cond d (x ∷ filter is_spt xs) (filter is_spt xs))
no_more b c d x ys xs e h = grind arith

no_more_in : (k : Key) (t : Table SourceRow) → spt_count (change_row without_spt k t) ≤ spt_count t
unfolding change_row changed_entry
no_more_in k [] = omega arith
no_more_in k (x ∷ xs) = grind (arith, no_more_in k xs, no_more)

abbrev pub is_set_at : Key → Key × SourceRow → Bool
is_set_at k e = same_key k e.0 && is_spt e

fewer_step : (k : Key) (x : Key × SourceRow) (ys xs : Table SourceRow) (b c d : Bool) → is_spt x ≡ d
    → ((b && d) || list_any (is_set_at k) xs) ≡ true
    → spt_count ys ≤ spt_count xs → (list_any (is_set_at k) xs ≡ true → spt_count ys < spt_count xs)
    → spt_count (cons_option (entry_after b c x) ys) < length (cond d (x ∷ filter is_spt xs) (filter is_spt xs))
fewer_step k x ys xs b c d e any h less = grind arith

-- where it is set, one goes
pub fewer_in : (k : Key) (t : Table SourceRow) → list_any (is_set_at k) t ≡ true
    → spt_count (change_row without_spt k t) < spt_count t
unfolding change_row changed_entry
fewer_in k [] e = cc
fewer_in k (x ∷ xs) e = grind (arith, fewer_in k xs, fewer_step, no_more_in)

set_and_named : (s : State) (k : Key) (x : Key × SourceRow) → (spt_must_go s x && same_key k x.0) ≡ true
    → is_set_at k x ≡ true
set_and_named s k x e = grind (arith, e)

spt_member : (s : State) (k : Key) → spt_to_clear s ≡ Some (ClearSptBit k) → list_any (is_set_at k) s.sources ≡ true
unfolding spt_to_clear
spt_member s k e = go (find (spt_must_go s) s.sources) refl e
  where
    go : (p : Option (Key × SourceRow)) → find (spt_must_go s) s.sources ≡ p
        → option_map (λ e. ClearSptBit e.0) p ≡ Some (ClearSptBit k) → list_any (is_set_at k) s.sources ≡ true
    go None was f = cc
    go (Some d) was f =
        let same : d.0 ≡ k = cc in
        let here : same_key k d.0 ≡ true = ap (λ q. same_key k q) same ∙ same_key_same k in
        any_more (λ (x : Key × SourceRow). spt_must_go s x && same_key k x.0) (is_set_at k)
        (set_and_named s k) s.sources
        (find_member (spt_must_go s) (λ (x : Key × SourceRow). same_key k x.0) s.sources d here was)

-- ---- clearing ends

assert_fewer : (o s : State) (c : Cleared) → assert_to_clear o s ≡ Some c
    → clearable_count (cleared s c).0 < clearable_count s
unfolding cleared clearable_count assert_forgotten assert_to_clear
assert_fewer o s c e = grind (arith, drop_fewer, assert_member)

spt_fewer : (s : State) (c : Cleared) → spt_to_clear s ≡ Some c → clearable_count (cleared s c).0 < clearable_count s
unfolding cleared clearable_count without_spt_bit spt_to_clear
spt_fewer s c e = grind (arith, fewer_in, spt_member)

clear_step : (o s : State) (c : Cleared) (a : Option Cleared) → assert_to_clear o s ≡ a
    → option_or a (spt_to_clear s) ≡ Some c → clearable_count (cleared s c).0 < clearable_count s
clear_step o s c a was e = grind (arith, spt_fewer, assert_fewer)

pub clears_fewer : (o s : State) (c : Cleared) → to_clear o s ≡ Some c
    → clearable_count (cleared s c).0 < clearable_count s
unfolding to_clear
clears_fewer o s c e = clear_step o s c (assert_to_clear o s) refl e

-- after clearing nothing must go any more
pub nothing_to_clear : (o s : State) → to_clear o (clear_all o s).0 ≡ None
unfolding clear_all
nothing_to_clear o s =
    none_is_next (to_clear o) cleared (λ t. Unit {0}) clearable_count (λ t c k e. tt) (λ t c k e. clears_fewer o t c e)
    (clearable_count s) s tt (omega arith)

joined : (p q r : State × List Message) → q ≡ r → in_turn p q ≡ in_turn p r
joined p q r e = ap (in_turn p) e

-- the first fact that must go goes, and then the rest
pub clear_unrolls : (o s : State) (c : Cleared) → to_clear o s ≡ Some c
    → clear_all o s ≡ and_then (to_clear o) cleared (clear_all o) (cleared s c)
unfolding clear_all and_then
clear_unrolls o s c e =
    let once : until_none (to_clear o) cleared (clearable_count s) s
    ≡ and_then (to_clear o) cleared (λ t. until_none (to_clear o) cleared (clearable_count s) t) (cleared s c) =
    unrolls (to_clear o) cleared (λ t. Unit {0}) clearable_count (λ t d k f. tt) (λ t d k f. clears_fewer o t d f)
    (clearable_count s) s c tt (omega arith) e in
    let fewer : clearable_count (cleared s c).0 < clearable_count s = clears_fewer o s c e in
    let rest : until_none (to_clear o) cleared (clearable_count s) (cleared s c).0
    ≡ until_none (to_clear o) cleared (clearable_count (cleared s c).0) (cleared s c).0 =
    same_with_more_fuel (to_clear o) cleared (λ t. Unit {0}) clearable_count (λ t d k f. tt)
    (λ t d k f. clears_fewer o t d f)
    (clearable_count s) (clearable_count (cleared s c).0) (cleared s c).0 tt (omega arith) (omega arith) in
    once ∙ joined (cleared s c) _ _ rest
