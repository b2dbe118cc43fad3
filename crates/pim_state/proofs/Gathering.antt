-- Groups in a set of addresses, as in a list of numbers.
use Rattle.std.{proofs.Common.{◌≡◌, ℕ, Bool, true, false, List, [], ◌∷◌, cond, refl, ap, sym, map, nat_lt, ◌==◌, subst}, specs.{Prelude.if◌then◌else◌, declared.cmp.Ordering.TheVariants.{Less, Equal, Greater}, BTreeMap.insert_entry, Ordering.{match_ordering, nat_cmp}}}
use Rattle.pim_ip.{specs.declared.addr.Addr.Addr}
use Rattle.pim_types.{specs.{declared.fact.Key.Key, Keys.group_in}}
use Rattle.pim_model.{specs.Tables.{Table, insert_number, keys_in}}
use Rattle.pim_state.{specs.Groups.{gathered, numbers_of}}

module _ {U : Type 0} where
  placed : (n : ℕ) (a : Addr) (u : U) (e : Addr × U) (t rest : List (Addr × U)) (less same : Bool) (ns : List ℕ)
      → numbers_of rest ≡ ns
      → numbers_of (match_ordering (cond less Less (cond same Equal Greater)) ((a, u) ∷ e ∷ t) ((e.0, u) ∷ t)
      (e ∷ rest))
      ≡ (if less then a.bits ∷ (e.0).bits ∷ numbers_of t else
      (if same then (e.0).bits ∷ numbers_of t else (e.0).bits ∷ ns))
  placed n a u e t rest true same ns is = refl
  placed n a u e t rest false true ns is = refl
  placed n a u e t rest false false ns is = ap (λ m. (e.0).bits ∷ m) is

  pub numbers_inserted : (a : Addr) (u : U) (t : List (Addr × U))
      → numbers_of (insert_entry (λ (x : Addr) (y : Addr). nat_cmp x.bits y.bits) t a u)
      ≡ insert_number a.bits (numbers_of t)
  unfolding insert_number
  numbers_inserted a u [] = refl
  numbers_inserted a u (e ∷ t) =
      placed a.bits a u e t (insert_entry (λ (x : Addr) (y : Addr). nat_cmp x.bits y.bits) t a u)
      (nat_lt a.bits (e.0).bits) (a.bits == (e.0).bits)
      (insert_number a.bits (numbers_of t)) (numbers_inserted a u t)

module _ {R : Type 0} where
  pub gathered_next : (xs t : Table R) (e : Key × R) (ns : List ℕ) → xs ≡ e ∷ t
      → gathered (map group_in (keys_in xs)) ns ≡ gathered (map group_in (keys_in t)) (insert_number (group_in e.0) ns)
  unfolding gathered keys_in
  gathered_next xs t e ns is =
      subst (λ ys. gathered (map group_in (keys_in ys)) ns
      ≡ gathered (map group_in (keys_in t)) (insert_number (group_in e.0) ns)) (sym is) refl

  pub gathered_none : (xs : Table R) (ns : List ℕ) → xs ≡ [] → gathered (map group_in (keys_in xs)) ns ≡ ns
  unfolding gathered keys_in
  gathered_none xs ns is = subst (λ ys. gathered (map group_in (keys_in ys)) ns ≡ ns) (sym is) refl
