-- The sources and groups of a Join/Prune one after the other.
use Rattle.std.{proofs.{Common.{◌≡◌, ℕ, zero, suc, ◌+◌, ◌*◌, ◌-◌, ◌<◌, ◌≤◌, List, [], ◌++◌, length, Result, Ok, Err, refl, sym, ap, ◌∙◌, arith}, lemmas.Bool.Decides.nat_tests}}
use Rattle.pim_ip.{specs.{declared.refusal.Refusal.Refusal, Tests.◌>>◌}}
use Rattle.pim_wire.{specs.{Encoded.{source_test, group_test, field_test}, JoinPrunes.{sources_test, groups_test, entry_at, entries_at, group_at, groups_at, after_group, join_count_at, prune_count_at}, Groups.{one_group_test, HasGroups}}}

pub sources_none : (b : List ℕ) (p : ℕ) → sources_test b p 0 ≡ Ok tt
unfolding sources_test
sources_none b p = refl

-- the source at place p, and those after it
pub sources_more : (b : List ℕ) (p n : ℕ) → 0 < n → sources_test b p n ≡ (source_test b p >> sources_test b (p + 8) (n - 1))
unfolding sources_test
sources_more b p zero h = absurd (omega arith)
sources_more b p (suc n) h = let e : suc n - 1 ≡ n = omega arith in rw e refl

pub sources_right : (b : List ℕ) (p n q m : ℕ) → 0 < n → source_test b p ≡ Ok tt → q ≡ p + 8 → m ≡ n - 1
    → sources_test b q m ≡ sources_test b p n
sources_right b p n q m h ok eq em =
    rw (eq, em) (sym (sources_more b p n h ∙ ap (λ (r : Result (Unit {0}) Refusal). r >> sources_test b (p + 8) (n - 1)) ok))

pub sources_wrong : (b : List ℕ) (p n : ℕ) (e : Refusal) → 0 < n → source_test b p ≡ Err e → sources_test b p n ≡ Err e
sources_wrong b p n e h wrong = sources_more b p n h ∙ ap (λ (r : Result (Unit {0}) Refusal). r >> sources_test b (p + 8) (n - 1)) wrong

pub groups_none : (b : List ℕ) (p : ℕ) → groups_test b p 0 ≡ Ok tt
unfolding groups_test
groups_none b p = refl

-- tests in their order
pub then_assoc : (f g h later : Result (Unit {0}) Refusal) → (f >> g >> h >> later) ≡ ((f >> g >> h) >> later)
then_assoc (Ok _) (Ok _) h later = refl
then_assoc (Ok _) (Err e) h later = refl
then_assoc (Err e) g h later = refl

-- the group at place p, and those after it
pub groups_more : (b : List ℕ) (p n : ℕ) → 0 < n → groups_test b p n ≡ (one_group_test b p >> groups_test b (after_group b p) (n - 1))
unfolding groups_test one_group_test
groups_more b p zero h = absurd (omega arith)
groups_more b p (suc n) h =
    let e : suc n - 1 ≡ n = omega arith in
    rw e (then_assoc (group_test b p) (field_test b (p + 8) 4) (sources_test b (p + 12) (join_count_at b p + prune_count_at b p)) (groups_test b (after_group b p) n))

pub groups_right : (b : List ℕ) (p n q m : ℕ) → 0 < n → one_group_test b p ≡ Ok tt → q ≡ after_group b p → m ≡ n - 1
    → groups_test b q m ≡ groups_test b p n
groups_right b p n q m h ok eq em =
    rw (eq, em) (sym (groups_more b p n h ∙ ap (λ (r : Result (Unit {0}) Refusal). r >> groups_test b (after_group b p) (n - 1)) ok))

pub groups_wrong : (b : List ℕ) (p n : ℕ) (e : Refusal) → 0 < n → one_group_test b p ≡ Err e → groups_test b p n ≡ Err e
groups_wrong b p n e h wrong = groups_more b p n h ∙ ap (λ (r : Result (Unit {0}) Refusal). r >> groups_test b (after_group b p) (n - 1)) wrong

-- the entry at place p, and those after it
pub entries_none : (b : List ℕ) (p : ℕ) → entries_at b p 0 ≡ []
unfolding entries_at
entries_none b p = refl

pub entries_more : (b : List ℕ) (p n : ℕ) → 0 < n → entries_at b p n ≡ entry_at b p ++ entries_at b (p + 8) (n - 1)
unfolding entries_at
entries_more b p zero h = absurd (omega arith)
entries_more b p (suc n) h = let e : suc n - 1 ≡ n = omega arith in rw e refl

-- the group at place p, and those after it
pub groups_at_none : (b : List ℕ) (p : ℕ) → groups_at b p 0 ≡ []
unfolding groups_at
groups_at_none b p = refl

pub groups_at_more : (b : List ℕ) (p n : ℕ) → 0 < n → groups_at b p n ≡ group_at b p ++ groups_at b (after_group b p) (n - 1)
unfolding groups_at
groups_at_more b p zero h = absurd (omega arith)
groups_at_more b p (suc n) h = let e : suc n - 1 ≡ n = omega arith in rw e refl

-- what an accepted test before another, and the other, say
pub then_first : {A : Type 0} (f : Result (Unit {0}) Refusal) (next : Result A Refusal) (x : A) → (f >> next) ≡ Ok x → f ≡ Ok tt
then_first (Ok _) next x h = refl
then_first (Err e) next x h = absurd (cc)

pub then_next : {A : Type 0} (f : Result (Unit {0}) Refusal) (next : Result A Refusal) (x : A) → (f >> next) ≡ Ok x → next ≡ Ok x
then_next (Ok _) next x h = h
then_next (Err e) next x h = absurd (cc)

field_there : (b : List ℕ) (p n : ℕ) → field_test b p n ≡ Ok tt → p + n ≤ length b
field_there b p n h = grind (arith, nat_tests)

source_there : (b : List ℕ) (p : ℕ) → source_test b p ≡ Ok tt → p + 8 ≤ length b
unfolding source_test
source_there b p h = field_there b p 8 (then_first (field_test b p 8) _ tt h)

sources_there : (b : List ℕ) (p n : ℕ) → p ≤ length b → sources_test b p n ≡ Ok tt → p + 8 * n ≤ length b
unfolding sources_test
sources_there b p zero h e = omega arith
sources_there b p (suc n) h e =
    let later : Result (Unit {0}) Refusal = sources_test b (p + 8) n in
    let first = source_there b p (then_first (source_test b p) later tt e) in
    let rest = sources_there b (p + 8) n first (then_next (source_test b p) later tt e) in
    omega arith

one_group_there : (b : List ℕ) (p : ℕ) → one_group_test b p ≡ Ok tt → after_group b p ≤ length b
unfolding one_group_test
one_group_there b p h =
    let n : ℕ = join_count_at b p + prune_count_at b p in
    let rest = then_next (group_test b p) (field_test b (p + 8) 4 >> sources_test b (p + 12) n) tt h in
    let counts = field_there b (p + 8) 4 (then_first (field_test b (p + 8) 4) (sources_test b (p + 12) n) tt rest) in
    sources_there b (p + 12) n (omega arith) (then_next (field_test b (p + 8) 4) (sources_test b (p + 12) n) tt rest)

-- the first of the groups that there are, and the others
pub has_first : (b : List ℕ) (p n : ℕ) → 0 < n → HasGroups b p n → after_group b p ≤ length b
has_first b p n h groups =
    one_group_there b p (then_first (one_group_test b p) (groups_test b (after_group b p) (n - 1)) tt (sym (groups_more b p n h) ∙ groups.tested))

pub has_others : (b : List ℕ) (p n q m : ℕ) → 0 < n → q ≡ after_group b p → m ≡ n - 1 → HasGroups b p n → HasGroups b q m
has_others b p n q m h eq em groups = rw (eq, em) (record {
  there = has_first b p n h groups;
  tested = then_next (one_group_test b p) (groups_test b (after_group b p) (n - 1)) tt (sym (groups_more b p n h) ∙ groups.tested);
})
