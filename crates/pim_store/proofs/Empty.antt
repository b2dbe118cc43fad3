-- Sets that are empty, and marks of which none is set.
use Rattle.std.{proofs.{Common.{◌≡◌, ◌==◌, ℕ, Bool, true, false, not, ◌&&◌, ◌||◌, ◌↔◌, Option, Some, None, is_some, refl, sym, ap, ◌∙◌, arith}, lemmas.Bool.Decides.nat_tests}, specs.Prelude.IsTrue}
use Rattle.pim_types.{specs.declared.fact.JoinTimerRow.JoinTimerRow}
use Rattle.pim_ifset.{specs.Members.{Members, has}, proofs.{Masks.has_empty, Sets.same_members}}
use Rattle.pim_store.{specs.{Entry.{are_none, empty_set, is_empty_set, is_no_rare, no_rare, rare_in}, Said.{seen, tunnel_in}, declared.{marks.{Mark.{Mark, TheVariants.{Joined, Branched, Pruned, Lost, Won, HasOverrideTimer, HasSource, HasRegister}}, Marks.Marks}, rare.Rare.Rare}}}

-- ---- tests

both : (a b : Bool) → (a && b) ≡ true → (a ≡ true) × (b ≡ true)
both true b is = (refl, is)
both false b is = cc

neither : (a b : Bool) → not (a || b) ≡ true → (not a ≡ true) × (b ≡ false)
neither true b is = cc
neither false true is = cc
neither false false is = (refl, refl)

denied : (a : Bool) → not a ≡ true → a ≡ false
denied true is = cc
denied false is = refl

is_zero : (n : ℕ) → (n == 0) ≡ true → n ≡ 0
is_zero n is = grind (arith, nat_tests)

-- ---- sets

pub empty_is : (s : Members) → is_empty_set s ≡ true → s ≡ empty_set
empty_is s is =
    let parts = both (s.mask == 0) (not s.tunnel) is in
    λ i. record { mask = is_zero s.mask parts.0 i; tunnel = denied s.tunnel parts.1 i }

pub none_in_empty : (s : Members) → is_empty_set s ≡ true → (q : ℕ) → has s q ≡ false
none_in_empty s is q = ap (λ (t : Members). has t q) (empty_is s is) ∙ has_empty false q

pub no_tunnel_in_empty : (s : Members) → is_empty_set s ≡ true → s.tunnel ≡ false
no_tunnel_in_empty s is = ap (λ (t : Members). t.tunnel) (empty_is s is)

pub has_none : (s : Members) → ((q : ℕ) → has s q ≡ false) → s.tunnel ≡ false → s ≡ empty_set
has_none s none bare = same_members s empty_set (λ q. none q ∙ sym (has_empty false q)) bare

pub is_empty_when : (s : Members) → ((q : ℕ) → has s q ≡ false) → s.tunnel ≡ false → is_empty_set s ≡ true
is_empty_when s none bare = ap is_empty_set (has_none s none bare)

pub emptiness : (s : Members) (b : Bool) → IsTrue b ↔ (((q : ℕ) → has s q ≡ false) × (s.tunnel ≡ false))
    → b ≡ is_empty_set s
emptiness s true is = sym (is_empty_when s (is.0 refl).0 (is.0 refl).1)
emptiness s false is = go (is_empty_set s) refl
  where
    go : (b : Bool) → is_empty_set s ≡ b → false ≡ b
    go true e = is.1 (none_in_empty s e, no_tunnel_in_empty s e)
    go false e = refl

-- ---- sets that few have

pub no_rare_is : (r : Rare) → is_no_rare r ≡ true → r ≡ no_rare
no_rare_is r is =
    let one = both (is_empty_set r.branched && is_empty_set r.pruned && is_empty_set r.lost) (is_empty_set r.won) is in
    let two = both (is_empty_set r.branched && is_empty_set r.pruned) (is_empty_set r.lost) one.0 in
    let three = both (is_empty_set r.branched) (is_empty_set r.pruned) two.0 in
    λ i. record {
      branched = empty_is r.branched three.0 i;
      pruned = empty_is r.pruned three.1 i;
      lost = empty_is r.lost two.1 i;
      won = empty_is r.won one.1 i;
    }

-- ---- marks

module _ (m : Marks) where
  abbrev pub AreSilent : Type 0
  AreSilent = (x : Mark) (i : ℕ) → seen x m i ≡ false

  abbrev pub AreBare : Type 0
  AreBare = (x : Mark) → tunnel_in x m ≡ false

  abbrev flags : Bool
  flags = is_some m.join_timer || m.has_override_timer || m.has_source || m.has_register

  pub silent_when_none : are_none m ≡ true → AreSilent
  silent_when_none is =
      let all = both (is_empty_set m.joined && is_no_rare (rare_in m)) (not flags) is in
      let sets = both (is_empty_set m.joined) (is_no_rare (rare_in m)) all.0 in
      let one = neither (is_some m.join_timer || m.has_override_timer || m.has_source) m.has_register all.1 in
      let two = neither (is_some m.join_timer || m.has_override_timer) m.has_source one.0 in
      let three = neither (is_some m.join_timer) m.has_override_timer two.0 in
      go (no_rare_is (rare_in m) sets.1) sets.0 three.1 two.1 one.1
    where
      go : rare_in m ≡ no_rare → is_empty_set m.joined ≡ true → m.has_override_timer ≡ false
          → m.has_source ≡ false → m.has_register ≡ false → AreSilent
      go rare joined b c d Joined i = none_in_empty m.joined joined i
      go rare joined b c d Branched i = ap (λ (r : Rare). has r.branched i) rare ∙ has_empty false i
      go rare joined b c d Pruned i = ap (λ (r : Rare). has r.pruned i) rare ∙ has_empty false i
      go rare joined b c d Lost i = ap (λ (r : Rare). has r.lost i) rare ∙ has_empty false i
      go rare joined b c d Won i = ap (λ (r : Rare). has r.won i) rare ∙ has_empty false i
      go rare joined b c d HasOverrideTimer i = b
      go rare joined b c d HasSource i = c
      go rare joined b c d HasRegister i = d

  pub no_timer_when_none : are_none m ≡ true → m.join_timer ≡ None
  no_timer_when_none is =
      let all = both (is_empty_set m.joined && is_no_rare (rare_in m)) (not flags) is in
      let one = neither (is_some m.join_timer || m.has_override_timer || m.has_source) m.has_register all.1 in
      let two = neither (is_some m.join_timer || m.has_override_timer) m.has_source one.0 in
      let three = neither (is_some m.join_timer) m.has_override_timer two.0 in
      gone m.join_timer three.0
    where
      gone : (o : Option JoinTimerRow) → not (is_some o) ≡ true → o ≡ None
      gone None e = refl
      gone (Some row) e = cc

  pub none_when_silent : AreSilent → AreBare → m.join_timer ≡ None → are_none m ≡ true
  none_when_silent silent bare none =
      rw (
        is_empty_when m.joined (silent Joined) (bare Joined),
        is_empty_when m.branched (silent Branched) (bare Branched),
        is_empty_when m.pruned (silent Pruned) (bare Pruned),
        is_empty_when m.lost (silent Lost) (bare Lost),
        is_empty_when m.won (silent Won) (bare Won),
        none,
        silent HasOverrideTimer 0,
        silent HasSource 0,
        silent HasRegister 0,
      ) refl
