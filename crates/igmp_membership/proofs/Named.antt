-- Rows of which a source of a group is found by its keys, interface by interface.
use Rattle.std.{proofs.{Common.{◌≡◌, ◌<◌, ◌==◌, ℕ, Bool, true, false, not, Option, Some, None, is_some, refl, sym, ap, ◌∙◌, arith, IsTrue, ◌↔◌, eq-eqb}, lemmas.Bool.{true≢false, Decides.nat_tests}}, specs.{Cmp.{first_so, second_so}, List.{AllByRecursion, list_any, Sorted.IsStrictlySortedBy}, Option.option_map_or}}
use Rattle.pim_ip.{specs.{declared.addr.Addr.Addr, Addr.addr}}
use Rattle.pim_types.{specs.{declared.fact.Key.Key, Keys.{group_in, iface_in, key_cmp, names_source, source_key}}}
use Rattle.pim_model.{specs.Tables.{Table, has_row, keys_in, row_at}}
use Rattle.law_settled.{proofs.{ListLaws.{any_among_all, each_both}, TableLaws.{any_of_map, row_is_there}}}
use Rattle.pim_tables.{proofs.Firsts.all_found}
use Rattle.igmp_membership.{specs.Sources.ArePlain}

refuted : (b : Bool) → (b ≡ true → ⊥) → b ≡ false
refuted true never = absurd (never refl)
refuted false never = refl

pub number_of : (m n : ℕ) → (m == n) ≡ true → m ≡ n
number_of m n same = grind (arith, nat_tests)

source_is : (o : Option Addr) (n : ℕ) → is_some o ≡ true → (option_map_or (λ (a : Addr). a.bits) o 0 == n) ≡ true
    → o ≡ Some (addr n)
source_is None n some same = cc
source_is (Some a) n some same = λ j. Some (record { bits = number_of a.bits n same j })

module _ (g src : ℕ) where
  key_named : (k : Key) → names_source g src k ≡ true → k.rpt ≡ false → k ≡ source_key (iface_in k) g src
  unfolding names_source
  key_named k named plain =
      λ j. record {
        iface = k.iface;
        group = record { bits = number_of (group_in k) g (first_so _ _ (first_so _ _ named)) j };
        source = source_is k.source src (second_so _ _ (first_so _ _ named)) (second_so _ _ named) j;
        rpt = plain j;
      }

  named_itself : (i : ℕ) → names_source g src (source_key i g src) ≡ true
  unfolding names_source
  named_itself i = rw (eq-eqb g g refl, eq-eqb src src refl) refl

  module _ {R : Type 0} where
    -- the first interfaces have no row of the source
    abbrev pub NoneBelow : ℕ → Table R → Type 0
    NoneBelow n t = (i : ℕ) → i < n → has_row t (source_key i g src) ≡ false

    pub none_at : (t : Table R) → list_any (names_source g src) (keys_in t) ≡ false → (i : ℕ)
        → has_row t (source_key i g src) ≡ false
    unfolding has_row keys_in
    none_at t none i = go (row_at t (source_key i g src)) refl
      where
        go : (o : Option R) → row_at t (source_key i g src) ≡ o → is_some o ≡ false
        go None is = refl
        go (Some r) is =
            absurd (true≢false (sym (any_of_map (names_source g src) (λ (e : Key × R). e.0) t
            ∙ row_is_there (λ e. names_source g src e.0) (source_key i g src) t r (named_itself i) is) ∙ none))

    pub none_named : (n : ℕ) (t : Table R) → IsStrictlySortedBy key_cmp (keys_in t) → ArePlain t
        → AllByRecursion (λ (e : Key × R). iface_in e.0 < n) t → NoneBelow n t
        → list_any (names_source g src) (keys_in t) ≡ false
    unfolding has_row keys_in
    none_named n t sorted plain near none = refuted _ (λ named.
        any_among_all (λ (e : Key × R). ((e.0).rpt ≡ false) × ((iface_in e.0 < n) × (row_at t e.0 ≡ Some e.1)))
        (λ e. names_source g src e.0) (λ e is here. true≢false
        (sym (ap is_some is.1.1) ∙ ap (λ (k : Key). is_some (row_at t k)) (key_named e.0 here is.0)
        ∙ none (iface_in e.0) is.1.0))
        t
        (each_both (λ (e : Key × R). (e.0).rpt ≡ false) _ _ (λ e p q. (p, q)) t plain
        (each_both (λ (e : Key × R). iface_in e.0 < n) _ _ (λ e p q. (p, q)) t near (all_found t sorted)))
        (sym (any_of_map (names_source g src) (λ (e : Key × R). e.0) t) ∙ named))

    pub one_named : (t : Table R) (i : ℕ) → has_row t (source_key i g src) ≡ true
        → true ≡ list_any (names_source g src) (keys_in t)
    one_named t i there = go (list_any (names_source g src) (keys_in t)) refl
      where
        go : (b : Bool) → list_any (names_source g src) (keys_in t) ≡ b → true ≡ b
        go true is = refl
        go false is = absurd (true≢false (sym there ∙ none_at t is i))

    -- a set of the interfaces that have one tells whether there is any
    pub told_by_set : (n : ℕ) (t : Table R) → IsStrictlySortedBy key_cmp (keys_in t) → ArePlain t
        → AllByRecursion (λ (e : Key × R). iface_in e.0 < n) t → (empty tunnel : Bool) (there : ℕ → Bool)
        → (IsTrue empty ↔ (((i : ℕ) → there i ≡ false) × (tunnel ≡ false))) → tunnel ≡ false
        → ((i : ℕ) → there i ≡ has_row t (source_key i g src))
        → not empty ≡ list_any (names_source g src) (keys_in t)
    told_by_set n t sorted plain near true tunnel there told out shown =
        sym (none_named n t sorted plain near (λ i below. sym (shown i) ∙ (told.0 refl).0 i))
    told_by_set n t sorted plain near false tunnel there told out shown =
        go (list_any (names_source g src) (keys_in t)) refl
      where
        go : (b : Bool) → list_any (names_source g src) (keys_in t) ≡ b → true ≡ b
        go true is = refl
        go false is = absurd (true≢false (sym (told.1 ((λ i. shown i ∙ none_at t is i), out))))
