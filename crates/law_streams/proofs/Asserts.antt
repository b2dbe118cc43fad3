-- An Assert adds at most a source, and then needs room for an assert.
use Rattle.std.{proofs.{Common.{◌≡◌, ℕ, ◌+◌, ◌≤◌, ◌==◌, not, ◌&&◌, Bool, true, false, cond, List, [], length, Some, refl, sym, subst, arith}, lemmas.Bool.{not-true, or_left}}}
use Rattle.pim_types.{specs.{Keys.{is_star, source_key, star_key}, declared.fact.{AssertMetric.AssertMetric, AssertRow.AssertRow, Key.Key}}, proofs.Keys.same_key_same}
use Rattle.pim_wire.{specs.declared.assert.Assert.Assert as AssertMessage}
use Rattle.pim_model.{specs.{AssertMacros.is_infinite, Asserts.{assert_as_loser, assert_as_winner, assert_at, assert_forgotten, assert_in_no_info, assert_received, loses, loses_first, theirs_of, wins, wins_again, with_spt_bit}, Downstream.is_named, Full.{asserted_keys, needed}, Messages.Message, Sets.is_winner, State.State, Tables.has_row}}
use Rattle.law_streams.{specs.Bounded.AddsAtMost, proofs.{Counting.{needed_some, one_more}, Fewer.{Same, no_more}, Within.{and_none, at_most}}}

-- at most a source is added, and none unless
pub record MayAdd (b : Bool) (s t : State) : Type 0 where
  pub same : Same s (record t { sources = s.sources })
  pub long : length t.sources ≤ length s.sources + cond b 1 0

-- none
abbrev Keeps : State → State → Type 0
Keeps s t = MayAdd false s t

may : (b : Bool) (s t : State) → Same s t → MayAdd b s t
may b s t e = grind arith

may_either : (b c : Bool) (s x y : State) → (c ≡ true → MayAdd b s x) → (c ≡ false → MayAdd b s y) → MayAdd b s (cond c x y)
may_either b c s x y f g = grind arith

pair_either : (b c : Bool) (s : State) (x y : State × List Message) → (c ≡ true → MayAdd b s x.0) → (c ≡ false → MayAdd b s y.0)
    → MayAdd b s (cond c x y).0
pair_either b c s x y f g = grind arith

if_true : (b : Bool) (s t : State) → MayAdd true s t → b ≡ true → MayAdd b s t
if_true b s t f e = subst (λ (c : Bool). MayAdd c s t) (sym e) f

spt_adds : (s : State) (k : Key) (theirs : AssertMetric) (g src : ℕ) → MayAdd true s (with_spt_bit (loses s k theirs) g src)
unfolding with_spt_bit loses
spt_adds s k theirs g src = record { same = refl; long = one_more (source_key 0 g src) _ s.sources }

loses_same : (s : State) (k : Key) (theirs : AssertMetric) → Same s (loses s k theirs)
unfolding loses
loses_same s k theirs = refl

lost_adds : (s : State) (k : Key) (theirs : AssertMetric) → MayAdd (not (is_star k)) s (loses_first s k theirs)
unfolding loses_first
lost_adds s k theirs = grind (arith, may_either, if_true, spt_adds, may, loses_same)

wins_same : (s : State) (k : Key) → Same s (wins s k).0
unfolding wins
wins_same s k = refl

and_both : (s t : State) (a b : Bool) → MayAdd a s t → b ≡ true → MayAdd (a && b) s t
and_both s t a b f e = grind arith

no_info_adds : (s : State) (k : Key) (theirs : AssertMetric)
    → MayAdd (not (is_star k) && not (is_infinite theirs)) s (assert_in_no_info s k theirs).0
unfolding assert_in_no_info
no_info_adds s k theirs = grind (arith, pair_either, may, wins_same, and_both, lost_adds)

row_same : (s : State) (k : Key) (r : AssertRow) (theirs : AssertMetric)
    → Same s (let p : State × List Message = cond (is_winner (Some r)) (assert_as_winner s k r theirs) (assert_as_loser s k r theirs, []) in p.0)
unfolding assert_as_winner assert_as_loser wins_again loses assert_forgotten
row_same s k r theirs = grind arith

-- may a source be added
abbrev pub may_add : State → Key → AssertMetric → Bool
may_add s k theirs = not (has_row s.asserts k) && (not (is_star k) && not (is_infinite theirs))

at_adds : (s : State) (k : Key) (theirs : AssertMetric) → MayAdd (may_add s k theirs) s (assert_at s k theirs).0
unfolding assert_at has_row
at_adds s k theirs = grind (arith, no_info_adds, may, row_same)

none_of_star : (b c : Bool) → (b && (false && c)) ≡ false
none_of_star b c = grind arith

star_keeps : (s : State) (i g : ℕ) (theirs : AssertMetric) → Keeps s (assert_at s (star_key i g) theirs).0
star_keeps s i g theirs = grind (arith, none_of_star, at_adds)

then_keeps : (b : Bool) (s t u : State) → MayAdd b s t → Keeps t u → MayAdd b s u
then_keeps b s t u f g = grind arith

abbrev pub source_may : State → ℕ → AssertMessage → ℕ → Bool
source_may s i a from =
    not (a.source.bits == 0) && may_add s (source_key i a.group.bits a.source.bits) (theirs_of a from)

first_adds : (s : State) (i from : ℕ) (a : AssertMessage) (x : State × List Message) (b c : Bool)
    → MayAdd c s x.0 → MayAdd (not b && c) s (cond b (s, []) x).0
first_adds s i from a x b c f = grind (arith, may)

pub received_adds : (s : State) (i from : ℕ) (a : AssertMessage) → MayAdd (source_may s i a from) s (assert_received s i from a).0
unfolding assert_received
received_adds s i from a = grind (arith, first_adds, at_adds, pair_either, then_keeps, star_keeps)

-- ---- what it needs

pub asserted : (i : ℕ) (a : AssertMessage) → not (a.source.bits == 0) ≡ true
    → is_named (asserted_keys i a) (source_key i a.group.bits a.source.bits) ≡ true
unfolding asserted_keys is_named
asserted i a e = grind (arith, or_left, same_key_same)

adds_at_most : (b : Bool) (n : ℕ) (s t : State) → MayAdd b s t → cond b 1 0 ≤ n → AddsAtMost n s t
adds_at_most b n s t f le = grind (arith, at_most, and_none, no_more)

record Adding (s : State) (i from : ℕ) (a : AssertMessage) : Type 0 where
  source : not (a.source.bits == 0) ≡ true
  absent : has_row s.asserts (source_key i a.group.bits a.source.bits) ≡ false
  finite : is_infinite (theirs_of a from) ≡ false

adding : (s : State) (i from : ℕ) (a : AssertMessage) → source_may s i a from ≡ true → Adding s i from a
adding s i from a e = grind (arith, not-true)

-- an Assert needs room for its assert
pub assert_adds : (s : State) (i from : ℕ) (a : AssertMessage)
    → AddsAtMost (cond (is_infinite (theirs_of a 0)) 0 (needed s.asserts (asserted_keys i a))) s (assert_received s i from a).0
unfolding is_infinite
assert_adds s i from a = grind (arith, received_adds, adds_at_most, adding, needed_some, asserted)
