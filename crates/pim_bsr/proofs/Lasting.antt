-- How long RPs last.
use Rattle.std.{proofs.{Common.{◌≡◌, ℕ, ◌<◌, ◌≤◌, Bool, true, false, not, nat_le, nat_lt, ◌&&◌, ◌||◌, List, [], ◌∷◌, ◌++◌, filter, map, Option, Some, None, refl, sym, ap, ◌∙◌, arith}, lemmas.Bool.Decides.nat_tests}, specs.{List.{list_all, list_any}, Prelude.if◌then◌else◌}}
use Rattle.pim_ip.{specs.declared.addr.Prefix.Prefix}
use Rattle.pim_types.{specs.declared.config.{RpCandidate.RpCandidate, RpRange.RpRange}}
use Rattle.pim_model.{specs.Limits.same_prefix}
use Rattle.pim_bootstrap.{specs.Bootstraps.Bootstrap}
use Rattle.pim_bsr.{specs.{Choice.{is_beaten_by, is_chosen}, Hearing.{Around, after_message, heard, heard_if, why_not}, Laws.{AllLeave, Happening, LastsItsTime, Leaves, TimeInSteps, after, all_after, have_mask, is_candidate_at, is_named, is_range_at, is_taken}, Table.{Known, at_time, candidate_of, candidates_by, configured, elected_at, given_of, has_prefix, is_configured, is_given, range_of, ranges_by, room_beside, runs, waits}, declared.{choice.Choice.Choice, heard.Why.Why, learned.{Elected.Elected, Learned.Learned, Part.Part}}}, proofs.{Choosing.heard_choice, Lists.{all_first, all_left, and_first, and_second, filter_both, in_turn, none_left, or_first, or_second}, Others.same_ranges_stay}}

-- ---- time in steps

module _ (a b : ℕ) (h : a ≤ b) where
  later_rps : (ls : List Learned) → filter (runs b) (filter (runs a) ls) ≡ filter (runs b) ls
  later_rps [] = refl
  later_rps (l ∷ ls) = go (nat_lt a l.end) (nat_lt b l.end) refl refl (later_rps ls)
    where
      go : (x y : Bool) → nat_lt a l.end ≡ x → nat_lt b l.end ≡ y → filter (runs b) (filter (runs a) ls) ≡ filter (runs b) ls
          → filter (runs b) (filter (runs a) (l ∷ ls)) ≡ filter (runs b) (l ∷ ls)
      go true true x y rest = rw (x, y) (ap (λ (rs : List Learned). l ∷ rs) rest)
      go true false x y rest = rw (x, y) rest
      go false false x y rest = rw (x, y) rest
      go false true x y rest = absurd (grind (arith, nat_tests, x, y, h))

  later_parts : (qs : List Part) → filter (waits b) (filter (waits a) qs) ≡ filter (waits b) qs
  later_parts [] = refl
  later_parts (q ∷ qs) = go (nat_lt a q.until) (nat_lt b q.until) refl refl (later_parts qs)
    where
      go : (x y : Bool) → nat_lt a q.until ≡ x → nat_lt b q.until ≡ y → filter (waits b) (filter (waits a) qs) ≡ filter (waits b) qs
          → filter (waits b) (filter (waits a) (q ∷ qs)) ≡ filter (waits b) (q ∷ qs)
      go true true x y rest = rw (x, y) (ap (λ (rs : List Part). q ∷ rs) rest)
      go true false x y rest = rw (x, y) rest
      go false false x y rest = rw (x, y) rest
      go false true x y rest = absurd (grind (arith, nat_tests, x, y, h))

  later_elected : (o : Option Elected) → elected_at b (elected_at a o) ≡ elected_at b o
  later_elected None = refl
  later_elected (Some e) = go (nat_lt a e.end) (nat_lt b e.end) refl refl
    where
      go : (x y : Bool) → nat_lt a e.end ≡ x → nat_lt b e.end ≡ y
          → elected_at b (if nat_lt a e.end then Some e else None) ≡ (if nat_lt b e.end then Some e else None)
      go true y x s = rw x refl
      go false false x y = rw (x, y) refl
      go false true x y = absurd (grind (arith, nat_tests, x, y, h))

pub time_in_steps : TimeInSteps
unfolding at_time
time_in_steps k a b h =
    ap (λ (o : Option Elected). let known : Known = record k { elected = o; table = record { rps = filter (runs b) (filter (runs a) k.table.rps); parts = filter (waits b) (filter (waits a) k.table.parts) } } in known)
    (later_elected a b h k.elected)
    ∙ ap (λ (rps : List Learned). let known : Known = record k { elected = elected_at b k.elected; table = record { rps = rps; parts = filter (waits b) (filter (waits a) k.table.parts) } } in known)
    (later_rps a b h k.table.rps)
    ∙ ap (λ (parts : List Part). let known : Known = record k { elected = elected_at b k.elected; table = record { rps = filter (runs b) k.table.rps; parts = parts } } in known)
    (later_parts a b h k.table.parts)

-- ---- what is given of a range, by its RPs alone

module _ (p : Prefix) where
  -- the RPs that are given of a range with these RPs
  abbrev picked : List Learned → List RpRange
  picked ls = map range_of (filter (is_chosen ls) ls)

  same_test : (l q : Learned) → has_prefix p l ≡ true → has_prefix p q ≡ false → is_beaten_by l q ≡ false
  same_test l q here other =
      let differ : same_prefix l.prefix q.prefix ≡ false = apart_by p l.prefix q.prefix here other in rw differ refl
    where
      apart_by : (p q t : Prefix) → same_prefix p q ≡ true → same_prefix p t ≡ false → same_prefix q t ≡ false
      apart_by p q t is differ = grind (arith, nat_tests)

  -- an RP is beaten by those of its range alone
  beaten_alone : (l : Learned) → has_prefix p l ≡ true → (ls : List Learned)
      → list_any (is_beaten_by l) ls ≡ list_any (is_beaten_by l) (filter (has_prefix p) ls)
  beaten_alone l here [] = refl
  beaten_alone l here (q ∷ ls) = go (has_prefix p q) refl (beaten_alone l here ls)
    where
      go : (b : Bool) → has_prefix p q ≡ b → list_any (is_beaten_by l) ls ≡ list_any (is_beaten_by l) (filter (has_prefix p) ls)
          → list_any (is_beaten_by l) (q ∷ ls) ≡ list_any (is_beaten_by l) (filter (has_prefix p) (q ∷ ls))
      go true is rest = rw is (ap (λ (b : Bool). is_beaten_by l q || b) rest)
      go false is rest = rw (is, same_test l q here is) rest

  none_configured : (l : Learned) → has_prefix p l ≡ true → (rs : List RpRange) → list_any (is_range_at p) rs ≡ false
      → list_any (λ (r : RpRange). same_prefix l.prefix r.prefix) rs ≡ false
  none_configured l here [] e = refl
  none_configured l here (r ∷ rs) e =
      let differ : same_prefix l.prefix r.prefix ≡ false = apart_by p l.prefix r.prefix here (or_first (is_range_at p r) _ e) in
      rw differ (none_configured l here rs (or_second (is_range_at p r) _ e))
    where
      apart_by : (p q t : Prefix) → same_prefix p q ≡ true → same_prefix p t ≡ false → same_prefix q t ≡ false
      apart_by p q t is differ = grind (arith, nat_tests)

  module _ (static : List RpRange) (all : List Learned) (free : list_any (is_range_at p) static ≡ false) where
    given_alone : (l : Learned) → has_prefix p l ≡ true → is_given static all l ≡ is_chosen (filter (has_prefix p) all) l
    unfolding is_configured is_chosen
    given_alone l here = rw (none_configured l here static free) (ap not (beaten_alone l here all))

    picked_of : (ls : List Learned) → filter (is_range_at p) (map range_of (filter (is_given static all) ls))
        ≡ map range_of (filter (is_chosen (filter (has_prefix p) all)) (filter (has_prefix p) ls))
    picked_of [] = refl
    picked_of (l ∷ ls) = go (has_prefix p l) refl (is_given static all l) refl (picked_of ls)
      where
        go : (b : Bool) → has_prefix p l ≡ b → (c : Bool) → is_given static all l ≡ c
            → filter (is_range_at p) (map range_of (filter (is_given static all) ls))
            ≡ map range_of (filter (is_chosen (filter (has_prefix p) all)) (filter (has_prefix p) ls))
            → filter (is_range_at p) (map range_of (filter (is_given static all) (l ∷ ls)))
            ≡ map range_of (filter (is_chosen (filter (has_prefix p) all)) (filter (has_prefix p) (l ∷ ls)))
        go true here true is rest =
            rw (is, here, sym (given_alone l here) ∙ is) (ap (λ (rs : List RpRange). range_of l ∷ rs) rest)
        go true here false is rest = rw (is, here, sym (given_alone l here) ∙ is) rest
        go false other true is rest = rw (is, other) rest
        go false other false is rest = rw (is, other) rest

    given_at : filter (is_range_at p) (given_of static all) ≡ picked (filter (has_prefix p) all)
    unfolding given_of
    given_at =
        filter_both (is_range_at p) static (map range_of (filter (is_given static all) all))
        ∙ ap (λ (rs : List RpRange). rs ++ filter (is_range_at p) (map range_of (filter (is_given static all) all))) (none_left (is_range_at p) static free)
        ∙ picked_of all

-- ---- what leaves a range

module _ (p : Prefix) (moment : ℕ) where
  -- the RPs of the range last to the moment
  abbrev last : List Learned → Bool
  last ls = list_all (λ (l : Learned). nat_le moment l.end) (filter (has_prefix p) ls)

  all_run : (now : ℕ) → now < moment → (ls : List Learned) → list_all (λ (l : Learned). nat_le moment l.end) ls ≡ true → list_all (runs now) ls ≡ true
  all_run now h [] e = refl
  all_run now h (l ∷ ls) e =
      let mine : nat_le moment l.end ≡ true = and_first (nat_le moment l.end) _ e in
      let runs_on : nat_lt now l.end ≡ true = grind (arith, nat_tests, mine, h) in
      rw runs_on (all_run now h ls (and_second (nat_le moment l.end) _ e))

  record Stays (before later : Known) : Type 0 where
    rps : filter (has_prefix p) later.table.rps ≡ filter (has_prefix p) before.table.rps
    free : list_any (is_range_at p) later.static ≡ false
    choice : later.choice ≡ before.choice

  static_stays : (s : Around) (k : Known) (i src : ℕ) (b : List ℕ) (m : Bootstrap) → list_any (is_range_at p) k.static ≡ false
      → list_any (is_range_at p) (heard s k i src b m).known.static ≡ false
  unfolding heard after_message
  static_stays s k i src b m free = go (why_not s k i src m)
    where
      go : (w : Option Why) → list_any (is_range_at p) (heard_if s k i b m w).known.static ≡ false
      go None = free
      go (Some w) = free

  untaken : (s : Around) (k : Known) (i src : ℕ) (b : List ℕ) (m : Bootstrap) → is_taken (heard s k i src b m).answer ≡ false
      → filter (has_prefix p) (heard s k i src b m).known.table.rps ≡ filter (has_prefix p) k.table.rps
  unfolding heard
  untaken s k i src b m e = go (why_not s k i src m) e
    where
      go : (w : Option Why) → is_taken (heard_if s k i b m w).answer ≡ false
          → filter (has_prefix p) (heard_if s k i b m w).known.table.rps ≡ filter (has_prefix p) k.table.rps
      go None e = cc
      go (Some w) e = refl

  unnamed : (s : Around) (k : Known) (i src : ℕ) (b : List ℕ) (m : Bootstrap) (t : Bool) → is_taken (heard s k i src b m).answer ≡ t
      → (t && (list_any (is_named p) m.ranges || not (have_mask p m.hash_length k.table.rps))) ≡ false
      → filter (has_prefix p) (heard s k i src b m).known.table.rps ≡ filter (has_prefix p) k.table.rps
  unnamed s k i src b m true is e =
      same_ranges_stay s k i src b m p (or_first (list_any (is_named p) m.ranges) _ e)
      (is_true (have_mask p m.hash_length k.table.rps) (or_second (list_any (is_named p) m.ranges) _ e))
    where
      is_true : (b : Bool) → not b ≡ false → b ≡ true
      is_true true e = refl
      is_true false e = cc
  unnamed s k i src b m false is e = untaken s k i src b m is

  one_leaves : (k : Known) (h : Happening) → list_any (is_range_at p) k.static ≡ false → last k.table.rps ≡ true
      → Leaves p moment k h → Stays k (after k h)
  unfolding at_time configured
  one_leaves k (Happening.Message s i src b m) free ends leaves = record {
    rps = unnamed s k i src b m (is_taken (heard s k i src b m).answer) refl leaves;
    free = static_stays s k i src b m free;
    choice = heard_choice s k i src b m;
  }
  one_leaves k (Happening.Time now) free ends leaves = record {
    rps = in_turn (has_prefix p) (runs now) k.table.rps
        ∙ all_left (runs now) (filter (has_prefix p) k.table.rps) (all_run now leaves (filter (has_prefix p) k.table.rps) ends);
    free = free;
    choice = refl;
  }
  one_leaves k (Happening.Ranges limit static) free ends leaves = record {
    rps = ap (filter (has_prefix p)) (all_first (room_beside limit static) k.table.rps leaves.1);
    free = leaves.0;
    choice = refl;
  }

  all_leave : (hs : List Happening) (k : Known) → list_any (is_range_at p) k.static ≡ false → last k.table.rps ≡ true
      → AllLeave p moment k hs → Stays k (all_after k hs)
  unfolding all_after AllLeave
  all_leave [] k free ends leave = record { rps = refl; free = free; choice = refl }
  all_leave (h ∷ hs) k free ends leave =
      let one : Stays k (after k h) = one_leaves k h free ends leave.0 in
      let kept : last (after k h).table.rps ≡ true = ap (list_all (λ (l : Learned). nat_le moment l.end)) one.rps ∙ ends in
      let more : Stays (after k h) (all_after (after k h) hs) = all_leave hs (after k h) one.free kept leave.1 in
      record { rps = more.rps ∙ one.rps; free = more.free; choice = more.choice ∙ one.choice }

-- what is given of a range stays where its RPs do, and what an RP is chosen for
ranges_stay : (choice : Choice) (p : Prefix) (static others : List RpRange) (rps ls : List Learned)
    → list_any (is_range_at p) static ≡ false → list_any (is_range_at p) others ≡ false
    → filter (has_prefix p) rps ≡ filter (has_prefix p) ls
    → filter (is_range_at p) (ranges_by choice static rps) ≡ filter (is_range_at p) (ranges_by choice others ls)
ranges_stay Choice.Range p static others rps ls e f same =
    given_at p static rps e ∙ ap (λ (ls : List Learned). map range_of (filter (is_chosen ls) ls)) same ∙ sym (given_at p others ls f)
ranges_stay Choice.Group p static others rps ls e f same =
    none_left (is_range_at p) static e ∙ sym (none_left (is_range_at p) others f)

offered_at : (p : Prefix) (ls : List Learned)
    → filter (is_candidate_at p) (map candidate_of ls) ≡ map candidate_of (filter (has_prefix p) ls)
offered_at p [] = refl
offered_at p (l ∷ ls) = go (has_prefix p l) refl (offered_at p ls)
  where
    go : (b : Bool) → has_prefix p l ≡ b
        → filter (is_candidate_at p) (map candidate_of ls) ≡ map candidate_of (filter (has_prefix p) ls)
        → filter (is_candidate_at p) (map candidate_of (l ∷ ls)) ≡ map candidate_of (filter (has_prefix p) (l ∷ ls))
    go true is rest = rw is (ap (λ (cs : List RpCandidate). candidate_of l ∷ cs) rest)
    go false is rest = rw is rest

candidates_stay : (choice : Choice) (p : Prefix) (rps ls : List Learned) → filter (has_prefix p) rps ≡ filter (has_prefix p) ls
    → filter (is_candidate_at p) (candidates_by choice rps) ≡ filter (is_candidate_at p) (candidates_by choice ls)
candidates_stay Choice.Range p rps ls same = refl
candidates_stay Choice.Group p rps ls same = offered_at p rps ∙ ap (map candidate_of) same ∙ sym (offered_at p ls)

pub lasts_its_time : LastsItsTime
lasts_its_time k p moment hs free ends leave =
    let last : Known = all_after k hs in
    let end : Stays p moment k last = all_leave p moment hs k free ends leave in (
      ap (λ (choice : Choice). filter (is_range_at p) (ranges_by choice last.static last.table.rps)) end.choice
          ∙ ranges_stay k.choice p last.static k.static last.table.rps k.table.rps end.free free end.rps,
      ap (λ (choice : Choice). filter (is_candidate_at p) (candidates_by choice last.table.rps)) end.choice
          ∙ candidates_stay k.choice p last.table.rps k.table.rps end.rps,
    )
