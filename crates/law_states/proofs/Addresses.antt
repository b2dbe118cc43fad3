-- In each move of a reload by a map of places an interface has the address at its other place that it had before.
use Rattle.std.{proofs.{Common.{◌≡◌, ◌≤◌, ◌+◌, ◌||◌, ◌==◌, ◌∙◌, ℕ, zero, suc, nat_lt, Bool, true, false, cond, List, [], ◌∷◌, length, Option, Some, None, refl, sym, ap, arith, eqb-true}, lemmas.{Bool.{Decides.nat_tests}, Option.slice_get_past}}, specs.{List.{cons_option, list_all, list_any, slice_get}, Option.option_map_or}}
use Rattle.pim_types.{specs.declared.config.{Config.Config, InterfaceConfig.InterfaceConfig}}
use Rattle.pim_model.{specs.State.{State, address_among, addressing_of, iface_count}}
use Rattle.law_states.{specs.{Reload.config_of, PlacedLaws.AddressesGoAlong, Placing.{Places, are_places, in_order, index_from, index_of, interfaces_at, new_order, number_at, old_order, to_order}}, proofs.{Ground.replaced_is_under, Apart.{first, new_count, second, to_at}, Mapped.none_got, Orders.{all_found, each_among, new_low, old_low as low_orders}, Ups.{as_many, each_low, each_once, gone, new, old_many, order, renewed}}}

-- ---- interfaces in an order

module _ (cs : List InterfaceConfig) where
  -- where a number stands first, and that its interface stands there
  record Found (i k : ℕ) (ns : List ℕ) : Type 0 where
    place : ℕ
    index : index_from k i ns ≡ k + place
    value : slice_get (interfaces_at cs ns) place ≡ slice_get cs i

  shift : (a r : ℕ) → (a + 1) + r ≡ a + suc r
  shift a r = omega arith

  plus_none : (a : ℕ) → a ≡ a + 0
  plus_none a = omega arith

  never_past : (x : ℕ) → nat_lt x (length cs) ≡ true → slice_get cs x ≡ None → ⊥
  never_past x less e = let past : nat_lt x (length cs) ≡ false = none_got cs x e in cc (less, past)

  found : (i k : ℕ) (ns : List ℕ) → list_all (λ x. nat_lt x (length cs)) ns ≡ true → list_any (λ x. x == i) ns ≡ true → Found i k ns
  found i k [] all e = cc
  found i k (x ∷ ns) all e =
      by (slice_get cs x) refl (x == i) refl e (λ later. found i (k + 1) ns (second (nat_lt x (length cs)) _ all) later)
    where
      by : (o : Option InterfaceConfig) → slice_get cs x ≡ o → (b : Bool) → (x == i) ≡ b → (b || list_any (λ y. y == i) ns) ≡ true
          → (list_any (λ y. y == i) ns ≡ true → Found i (k + 1) ns) → Found i k (x ∷ ns)
      by None is b same e later = absurd (never_past x (first (nat_lt x (length cs)) _ all) is)
      by (Some c) is true same e later = record {
        place = 0;
        index = ap (λ (b : Bool). cond b k (index_from (k + 1) i ns)) same ∙ plus_none k;
        value = ap (λ (o : Option InterfaceConfig). slice_get (cons_option o (interfaces_at cs ns)) 0) is ∙ sym is
            ∙ ap (slice_get cs) (eqb-true x i same);
      }
      by (Some c) is false same e later = let r : Found i (k + 1) ns = later e in record {
        place = suc r.place;
        index = ap (λ (b : Bool). cond b k (index_from (k + 1) i ns)) same ∙ r.index ∙ shift k r.place;
        value = ap (λ (o : Option InterfaceConfig). slice_get (cons_option o (interfaces_at cs ns)) (suc r.place)) is ∙ r.value;
      }

  at_place : (p x : ℕ) (ns : List ℕ) → list_all (λ x. nat_lt x (length cs)) ns ≡ true → slice_get ns p ≡ Some x
      → slice_get (interfaces_at cs ns) p ≡ slice_get cs x
  at_place p x [] all e = cc
  at_place p x (n ∷ ns) all e = by p e (slice_get cs n) refl (λ q f. at_place q x ns (second (nat_lt n (length cs)) _ all) f)
    where
      by : (p : ℕ) → slice_get (n ∷ ns) p ≡ Some x → (o : Option InterfaceConfig) → slice_get cs n ≡ o
          → ((q : ℕ) → slice_get ns q ≡ Some x → slice_get (interfaces_at cs ns) q ≡ slice_get cs x)
          → slice_get (cons_option (slice_get cs n) (interfaces_at cs ns)) p ≡ slice_get cs x
      by p e None is later = absurd (never_past n (first (nat_lt n (length cs)) _ all) is)
      by zero e (Some c) is later =
          let same : n ≡ x = cc e in
          ap (λ (o : Option InterfaceConfig). slice_get (cons_option o (interfaces_at cs ns)) 0) is ∙ sym is ∙ ap (slice_get cs) same
      by (suc q) e (Some c) is later =
          ap (λ (o : Option InterfaceConfig). slice_get (cons_option o (interfaces_at cs ns)) (suc q)) is ∙ later q e

-- ---- addresses

-- each interface has at its other place the address that it has in the state
abbrev pub KeepsAddresses : State → List ℕ → Config → Type 0
KeepsAddresses s places c =
    (i : ℕ) → address_among (addressing_of c) (number_at places i) ≡ address_among s.configured i

abbrev address_in : List InterfaceConfig → ℕ → ℕ
address_in cs i = option_map_or (λ (c : InterfaceConfig). c.address.bits) (slice_get cs i) 0

module _ (s : State) (m : Places) (c : Config) (are : are_places (iface_count s) (length c.interfaces) m ≡ true) where
  abbrev given_order : List ℕ
  given_order = new_order m (length c.interfaces)

  past : (i n : ℕ) → nat_lt i n ≡ false → n ≤ i
  past i n e = grind (arith, nat_tests, e)

  from_zero : (i : ℕ) → 0 + i ≡ i
  from_zero i = omega arith

  old_low : list_all (λ x. nat_lt x (length s.configured.interfaces)) (old_order m) ≡ true
  old_low =
      ap (λ (n : ℕ). list_all (λ x. nat_lt x n) (old_order m)) (sym (as_many (iface_count s) (length c.interfaces) m are))
      ∙ low_orders m

  pub old_addresses : KeepsAddresses s (to_order m) (in_order (old_order m) (config_of s))
  unfolding in_order index_of config_of
  old_addresses i = by (nat_lt i (length m)) refl
    where
      cs : List InterfaceConfig
      cs = s.configured.interfaces

      by : (b : Bool) → nat_lt i (length m) ≡ b
          → address_in (interfaces_at cs (old_order m)) (number_at (to_order m) i) ≡ address_in cs i
      by true e =
          let r : Found cs i 0 (old_order m) = found cs i 0 (old_order m) old_low (each_among m i e) in
          let at : number_at (to_order m) i ≡ r.place =
          to_at m i ∙ ap (λ (b : Bool). cond b (index_from 0 (0 + i) (old_order m)) i) e
          ∙ ap (λ (n : ℕ). index_from 0 n (old_order m)) (from_zero i) ∙ r.index ∙ from_zero r.place in
          ap (address_in (interfaces_at cs (old_order m))) at
          ∙ ap (λ (o : Option InterfaceConfig). option_map_or (λ (c : InterfaceConfig). c.address.bits) o 0) r.value
      by false e =
          let stays : number_at (to_order m) i ≡ i =
          to_at m i ∙ ap (λ (b : Bool). cond b (index_from 0 (0 + i) (old_order m)) i) e in
          let count : length m ≡ length cs = as_many (iface_count s) (length c.interfaces) m are in
          let many : length (interfaces_at cs (old_order m)) ≡ length m = old_many s m c 0 are in
          let le : length m ≤ i = past i (length m) e in
          ap (address_in (interfaces_at cs (old_order m))) stays
          ∙ ap (λ (o : Option InterfaceConfig). option_map_or (λ (c : InterfaceConfig). c.address.bits) o 0)
          (slice_get_past (interfaces_at cs (old_order m)) i (omega (arith, many, le))
          ∙ sym (slice_get_past cs i (omega (arith, count, le))))

  new_all_low : list_all (λ x. nat_lt x (length c.interfaces)) given_order ≡ true
  new_all_low = new_low m (length c.interfaces) (each_low (iface_count s) (length c.interfaces) m are)

  many_new : length given_order ≡ length c.interfaces
  many_new =
      new_count m (length c.interfaces) (each_once (iface_count s) (length c.interfaces) m are)
      (each_low (iface_count s) (length c.interfaces) m are)

  at_new : (p : ℕ) → address_in c.interfaces (number_at given_order p) ≡ address_in (interfaces_at c.interfaces given_order) p
  unfolding number_at
  at_new p = by (slice_get given_order p) refl
    where
      by : (o : Option ℕ) → slice_get given_order p ≡ o
          → address_in c.interfaces (option_map_or (λ n. n) (slice_get given_order p) p)
          ≡ address_in (interfaces_at c.interfaces given_order) p
      by (Some x) e =
          ap (λ (o : Option ℕ). address_in c.interfaces (option_map_or (λ n. n) o p)) e
          ∙ ap (λ (o : Option InterfaceConfig). option_map_or (λ (c : InterfaceConfig). c.address.bits) o 0)
          (sym (at_place c.interfaces p x given_order new_all_low e))
      by None e =
          let le : length given_order ≤ p = past p (length given_order) (none_got given_order p e) in
          let same : length given_order ≡ length c.interfaces = many_new in
          let all : length (interfaces_at c.interfaces given_order) ≡ length given_order =
          all_found c.interfaces given_order new_all_low in
          ap (λ (o : Option ℕ). address_in c.interfaces (option_map_or (λ n. n) o p)) e
          ∙ ap (λ (o : Option InterfaceConfig). option_map_or (λ (c : InterfaceConfig). c.address.bits) o 0)
          (slice_get_past c.interfaces p (omega (arith, le, same))
          ∙ sym (slice_get_past (interfaces_at c.interfaces given_order) p (omega (arith, le, all))))

pub addresses_go_along : AddressesGoAlong
unfolding in_order
addresses_go_along s m c are = (λ i. old_addresses s m c are i, λ p. at_new s m c are p)

-- under the new configuration, before the second move
pub new_addresses : (s : State) (m : Places) (c : Config) (w : ℕ) → are_places (iface_count s) (length c.interfaces) m ≡ true
    → KeepsAddresses (renewed s m c w) (order s m c w) c
unfolding config_of in_order
new_addresses s m c w are p =
    at_new s m c are p
    ∙ ap (λ (d : Config). address_in d.interfaces p) (sym (replaced_is_under (gone s m c w) (new s m c w) w))
