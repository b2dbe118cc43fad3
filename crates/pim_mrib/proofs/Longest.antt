-- The longest match does not depend on the order of its candidates where no two of them tie.
use Rattle.std.{proofs.{Common.{◌≡◌, ℕ, ◌-◌, ◌*◌, ◌/◌, ◌%◌, ◌^◌, ◌<◌, Bool, true, false, cond, eqb, ltb, leb, Option, Some, None, refl, sym, ap, subst, ◌∙◌, arith}, lemmas.{Nat.pow_pos, Grind.common_steps, Bool.Decides.nat_tests}}, specs.{Cmp.second_so, declared.cmp.Ordering.{Ordering, TheVariants.Equal}, Ordering.{is_eq, nat_cmp, ordering_then}, BTreeMap.is_at}}
use Rattle.pim_ip.{specs.{declared.addr.Prefix.Prefix, Prefixes.{contains, is_host_clear, longer}}}
use Rattle.pim_trie.{specs.Entries.{is_canonical, prefix_cmp}}

-- ---- two candidates change places

module _ {X : Type 0} (prefix_of : X → Prefix) where
  -- the best of the candidates, with one more that contains the address or doesn't
  abbrev pub with_candidate : X → Bool → Option X → Option X
  with_candidate x true best = Some (longer prefix_of x best)
  with_candidate x false best = best

  -- of three different choices the longest is the same in either order
  longer_pair : (x y : X) (b c : Bool) → ltb (prefix_of y).length (prefix_of x).length ≡ b
      → ltb (prefix_of x).length (prefix_of y).length ≡ c
      → ((prefix_of x).length ≡ (prefix_of y).length → ⊥) → cond b x y ≡ cond c y x
  longer_pair x y true true p q apart = absurd (grind (arith, nat_tests, p, q))
  longer_pair x y true false p q apart = refl
  longer_pair x y false true p q apart = refl
  longer_pair x y false false p q apart = absurd (apart (grind (arith, nat_tests, p, q)))

  longer_third : (x y z : X) (b c : Bool) → ltb (prefix_of z).length (prefix_of y).length ≡ b
      → ltb (prefix_of z).length (prefix_of x).length ≡ c → ((prefix_of x).length ≡ (prefix_of y).length → ⊥)
      → cond (ltb (prefix_of (cond b y z)).length (prefix_of x).length) x (cond b y z)
      ≡ cond (ltb (prefix_of (cond c x z)).length (prefix_of y).length) y (cond c x z)
  longer_third x y z true true p q apart = longer_pair x y _ _ refl refl apart
  longer_third x y z true false p q apart =
      let below : ltb (prefix_of y).length (prefix_of x).length ≡ false = grind (arith, nat_tests, p, q) in
      rw (below, p) refl
  longer_third x y z false true p q apart =
      let below : ltb (prefix_of x).length (prefix_of y).length ≡ false = grind (arith, nat_tests, p, q) in
      rw (below, q) refl
  longer_third x y z false false p q apart = rw (p, q) refl

  longer-swap : (x y : X) (best : Option X) → ((prefix_of x).length ≡ (prefix_of y).length → ⊥)
      → longer prefix_of x (Some (longer prefix_of y best)) ≡ longer prefix_of y (Some (longer prefix_of x best))
  unfolding longer
  longer-swap x y None apart = longer_pair x y _ _ refl refl apart
  longer-swap x y (Some z) apart = longer_third x y z _ _ refl refl apart

  pub candidates_swap : (x y : X) (b c : Bool) (best : Option X)
      → (b ≡ true → c ≡ true → (prefix_of x).length ≡ (prefix_of y).length → ⊥)
      → with_candidate x b (with_candidate y c best) ≡ with_candidate y c (with_candidate x b best)
  candidates_swap x y true true best apart = ap (λ (z : X). Some z) (longer-swap x y best (apart refl refl))
  candidates_swap x y true false best apart = refl
  candidates_swap x y false true best apart = refl
  candidates_swap x y false false best apart = refl

-- ---- prefixes that tie are one

same_blocks : (a p q d : ℕ) → eqb (a / d) (p / d) ≡ true → eqb (a / d) (q / d) ≡ true → eqb (p % d) 0 ≡ true
    → eqb (q % d) 0 ≡ true
    → 0 < d → p ≡ q
same_blocks a p q d e f g h above =
    let pd : a / d ≡ p / d = grind (arith, nat_tests, e) in
    let qd : a / d ≡ q / d = grind (arith, nat_tests, f) in
    let pm : p % d ≡ 0 = grind (arith, nat_tests, g) in
    let qm : q % d ≡ 0 = grind (arith, nat_tests, h) in
    let same : p / d ≡ q / d = sym pd ∙ qd in
    let products : d * (p / d) ≡ d * (q / d) = ap (λ (n : ℕ). d * n) same in
    omega arith

same_numbers : {m n : ℕ} → m ≡ n → nat_cmp m n ≡ Equal
same_numbers {m} {n} e = grind (arith, common_steps, e)

equal_then : {a b : Ordering} → a ≡ Equal → b ≡ Equal → ordering_then a b ≡ Equal
equal_then {a} {b} e f = rw (e, f) refl

pub ties_are_equal : (p q : Prefix) (a : ℕ) → is_canonical p ≡ true → is_canonical q ≡ true → contains p a ≡ true
    → contains q a ≡ true
    → p.length ≡ q.length → is_at (prefix_cmp p) q ≡ true
unfolding is_canonical is_host_clear contains prefix_cmp
ties_are_equal p q a pc qc pa qa lengths =
    let d : ℕ = 2 ^ (32 - p.length) in
    let q_contains : eqb (a / d) (q.address.bits / d) ≡ true =
    subst (λ (n : ℕ). eqb (a / 2 ^ (32 - n)) (q.address.bits / 2 ^ (32 - n)) ≡ true) (sym lengths) qa in
    let q_clear : eqb (q.address.bits % d) 0 ≡ true =
    subst (λ (n : ℕ). eqb (q.address.bits % 2 ^ (32 - n)) 0 ≡ true) (sym lengths) (second_so (leb q.length 32) _ qc) in
    let bits : p.address.bits ≡ q.address.bits =
    same_blocks a p.address.bits q.address.bits d pa q_contains (second_so (leb p.length 32) _ pc) q_clear
    (pow_pos (32 - p.length)) in
    ap is_eq (equal_then (same_numbers bits) (same_numbers lengths))
