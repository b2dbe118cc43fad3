-- The copies on the interfaces of a list, and that there are no more than interfaces.
use Rattle.std.{proofs.{Common.{◌≡◌, ℕ, ◌≤◌, ◌&&◌, Bool, true, List, [], ◌∷◌, Result, Ok, Err, IfOk, length, map, nat_lt, arith, refl, ap, sym, ◌∙◌}, lemmas.List.{length-map, FromFn.length-range_with_len, Sums.{count_by-le-length, length-filter}}}, specs.Prelude.if◌then◌else◌}
use Rattle.pim_ip.{specs.Ipv4.{Packet, copy_text}}
use Rattle.pim_ifset.{specs.Members.{Members, has}}
use Rattle.pim_state.{specs.Shown.Shows}
use Rattle.pim_types.{specs.declared.{config.IfaceId.IfaceId, outcome.Emission.Emission}}
use Rattle.pim_model.{specs.{Sets.{Set, members}, State.{State, iface_count, ifaces}, Writing.{copies_of, leaves, on_link}}}

members_few : (s : State) (test : Set) → length (members s test) ≤ iface_count s
unfolding members
members_few s test =
    omega (
      arith,
      length-filter test (ifaces s),
      count_by-le-length test (ifaces s),
      length-range_with_len 0 (iface_count s),
    )

by_numbers : (f : ℕ → Emission) (on : List IfaceId)
    → map (λ (i : IfaceId). f i.number) on ≡ map f (map (λ (i : IfaceId). i.number) on)
by_numbers f [] = refl
by_numbers f (i ∷ on) = ap (λ (es : List Emission). f i.number ∷ es) (by_numbers f on)

module _ (count : ℕ) (p : Packet) (list plain : Members) (on : List IfaceId)
    (shown : (s : State) (test : Set) → count ≡ iface_count s → Shows plain test
    → map (λ (i : IfaceId). i.number) on ≡ members s test) where
  copied : (s : State) → count ≡ iface_count s → (b : Bool) → b ≡ leaves p → b ≡ true
      → ((q : ℕ) → has plain q ≡ has list q) → (test : Set) → Shows list test
      → map (λ (i : IfaceId). on_link i.number (copy_text p)) on ≡ copies_of s p test
  unfolding copies_of
  copied s counted b is leaves same test shows =
      by_numbers (λ i. on_link i (copy_text p)) on
      ∙ ap (λ (is : List ℕ). map (λ i. on_link i (copy_text p)) is) (shown s test counted (λ i. same i ∙ shows i))
      ∙ ap (λ (x : Bool). if x then map (λ i. on_link i (copy_text p)) (members s test) else []) (sym leaves ∙ is)

  pub all_copied : {V E : Type 0} (items : V → List Emission) (r : Result V E) (b : Bool) → b ≡ leaves p → b ≡ true
      → ((q : ℕ) → has plain q ≡ has list q)
      → IfOk r (λ v. items v ≡ map (λ (i : IfaceId). on_link i.number (copy_text p)) on)
      → IfOk r (λ v. (s : State) → count ≡ iface_count s → (test : Set) → Shows list test
      → items v ≡ copies_of s p test)
  all_copied items (Ok v) b is leaves same are =
      λ s counted test shows. are ∙ copied s counted b is leaves same test shows
  all_copied items (Err e) b is leaves same are = tt

  pub copies_few : {V E : Type 0} (items : V → List Emission) (r : Result V E)
      → ((q : ℕ) → has plain q ≡ (nat_lt q 120 && has plain q)) → count ≤ 120
      → IfOk r (λ v. items v ≡ map (λ (i : IfaceId). on_link i.number (copy_text p)) on)
      → IfOk r (λ v. (s : State) → count ≡ iface_count s → length (items v) ≤ 120)
  copies_few items (Err e) limit few are = tt
  copies_few items (Ok v) limit few are = λ s counted.
      omega (
        arith,
        few,
        counted,
        ap length are,
        length-map on (λ (i : IfaceId). on_link i.number (copy_text p)),
        length-map on (λ (i : IfaceId). i.number),
        ap length (shown s (has plain) counted limit),
        members_few s (has plain),
      )
