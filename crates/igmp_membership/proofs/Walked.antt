-- The sources of a group among what is listed, of which each that has a record is gathered.
use Rattle.std.{proofs.{Common.{◌≡◌, ◌<◌, ◌==◌, ◌&&◌, ◌||◌, ℕ, Bool, true, false, List, ◌∷◌, Option, Some, None, is_some, refl, sym, ap, subst, ◌∙◌}, Math.Bool.or-true, lemmas.List.Elements.recursion_from_All}, specs.{BTreeMap.insert_entry, Cmp.{first_so, second_so}, List.{All, AllByRecursion, filter, list_any, Sorted.IsStrictlySortedBy}, Option.option_map_or, Ordering.nat_cmp, Prelude.option_map}}
use Rattle.pim_ip.{specs.declared.addr.Addr.Addr}
use Rattle.pim_types.{specs.{declared.fact.Key.Key, Keys.{group_in, iface_in, is_of_group, key_cmp, key_of, names_source, source_in, source_key}}}
use Rattle.pim_model.{specs.Tables.{Table, has_row, keys_in, row_at}}
use Rattle.pim_ifset.{specs.Members.has}
use Rattle.pim_source_trie.{specs.Entries.{address_bits, entry_key}}
use Rattle.pim_tables.{proofs.Firsts.all_found}
use Rattle.law_settled.{proofs.{ListLaws.{each_both, each_more, each_passing}, TableLaws.{any_in_filter, any_of_map}}}
use Rattle.igmp_membership.{specs.{Listing.{IsListed, in_entry, is_record_key, There}, Sources.{ArePlain, has_number, is_of_source}, declared.listed.Listed.Listed}, proofs.{Found.{any_alike, number_put}, Named.{none_at, none_named, number_of}, Told.{Fits, limit_below, not_rpt, there_told}}}

-- ---- the keys of records

module _ {R : Type 0} (t : Table R) (fit : Fits t) where
  pub plain_records : ArePlain t
  plain_records =
      each_more (λ (e : Key × R). is_record_key e.0 ≡ true) (λ e. (e.0).rpt ≡ false)
      (λ e fit. not_rpt (e.0).rpt (second_so _ _ fit)) t fit

  pub near_records : AllByRecursion (λ (e : Key × R). iface_in e.0 < 120) t
  near_records =
      each_more (λ (e : Key × R). is_record_key e.0 ≡ true) (λ e. iface_in e.0 < 120)
      (λ e fit. limit_below (iface_in e.0) (first_so _ _ fit)) t fit

-- ---- what is walked

module _ {R : Type 0} (g n : ℕ) (rows : Table R) where
  abbrev pub has_any : Bool
  has_any = list_any (names_source g n) (keys_in rows)

  -- whether the source has a record and is among the entries
  abbrev pub any_listed : Table Listed → Bool
  any_listed entries = has_any && list_any (λ e. is_of_source n e.0) entries

  module _ (runs : R → Bool) (of_sources : Bool) (marks : Table Listed) (listed : IsListed runs of_sources marks rows)
      (sorted : IsStrictlySortedBy key_cmp (keys_in rows)) where
    not_listed : list_any (names_source g n) (keys_in marks) ≡ false → (i : ℕ) → has_row rows (source_key i g n) ≡ false
    unfolding has_row
    not_listed none i =
        sym (there_told runs (row_at rows (source_key i g n))) ∙ sym (listed.told There i g (Some n))
        ∙ go (row_at marks (source_key 0 g n)) (none_at g n marks none 0)
      where
        go : (o : Option Listed) → is_some o ≡ false → in_entry There o i ≡ false
        go None is = refl
        go (Some l) is = cc

    pub all_listed : (walked : Table Listed) → walked ≡ filter (λ e. is_of_group g e.0) marks
        → any_listed walked ≡ has_any
    unfolding keys_in names_source
    all_listed walked is =
        ap (λ (b : Bool). has_any && b)
        (ap (λ (t : Table Listed). list_any (λ e. is_of_source n e.0) t) is
        ∙ any_in_filter (λ (e : Key × Listed). is_of_group g e.0) (λ e. is_of_source n e.0) marks
        ∙ any_alike _ (λ (e : Key × Listed). names_source g n e.0)
        (λ e. grouped (is_of_group g e.0) (is_some (e.0).source) (source_in e.0 == n)) marks
        ∙ sym (any_of_map (names_source g n) (λ (e : Key × Listed). e.0) marks))
        ∙ go (list_any (names_source g n) (keys_in marks)) refl
      where
        grouped : (a b c : Bool) → (a && (b && c)) ≡ ((a && b) && c)
        grouped true b c = refl
        grouped false b c = refl

        both : (a : Bool) → (a && true) ≡ a
        both true = refl
        both false = refl

        neither : (a : Bool) → a ≡ false → (a && false) ≡ a
        neither true e = sym e
        neither false e = refl

        go : (b : Bool) → list_any (names_source g n) (keys_in marks) ≡ b → (has_any && b) ≡ has_any
        go true there = both has_any
        go false none =
            neither has_any (none_named g n 120 rows sorted (plain_records rows listed.fit) (near_records rows listed.fit)
            (λ i below. not_listed none i))

  module _ {U : Type 0} (xs t : Table Listed) (e : Key × Listed) (is : xs ≡ e ∷ t) (before : List (Addr × U)) where
    pub put_there : (source : Addr) (u : U) (after : List (Addr × U)) → (e.0).source ≡ Some source
        → after ≡ insert_entry (λ (x : Addr) (y : Addr). nat_cmp x.bits y.bits) before source u
        → true ≡ list_any (names_source g source.bits) (keys_in rows)
        → (has_number n after || any_listed t) ≡ (has_number n before || any_listed xs)
    put_there source u after of put there =
        ap (λ (b : Bool). b || any_listed t)
        (ap (λ (es : List (Addr × U)). has_number n es) put ∙ number_put n source u before)
        ∙ go (source.bits == n) refl (has_number n before) (list_any (λ x. is_of_source n x.0) t)
        ∙ sym (ap (λ (ys : Table Listed). has_number n before || any_listed ys) is
        ∙ ap (λ (o : Option Addr). has_number n before || (has_any
        && ((is_some o && (option_map_or (λ (a : Addr). a.bits) o 0 == n)) || list_any (λ x. is_of_source n x.0) t))) of)
      where
        yes_so : (a b : Bool) → true ≡ a → true ≡ (b || (a && true))
        yes_so true b e = sym (or-true b)
        yes_so false b e = cc

        go : (b : Bool) → (source.bits == n) ≡ b → (f c : Bool) → ((b || f) || (has_any && c)) ≡ (f || (has_any && (b || c)))
        go true same f c =
            yes_so has_any f
            (there ∙ ap (λ (m : ℕ). list_any (names_source g m) (keys_in rows)) (number_of source.bits n same))
        go false other f c = refl

    pub no_source : (e.0).source ≡ None → (has_number n before || any_listed t) ≡ (has_number n before || any_listed xs)
    no_source none =
        sym (ap (λ (ys : Table Listed). has_number n before || any_listed ys) is
        ∙ ap (λ (o : Option Addr). has_number n before || (has_any
        && ((is_some o && (option_map_or (λ (a : Addr). a.bits) o 0 == n)) || list_any (λ x. is_of_source n x.0) t))) none)

    pub not_there : (source : Addr) → (e.0).source ≡ Some source
        → false ≡ list_any (names_source g source.bits) (keys_in rows)
        → (has_number n before || any_listed t) ≡ (has_number n before || any_listed xs)
    not_there source of absent =
        go (source.bits == n) refl (has_number n before) (list_any (λ x. is_of_source n x.0) t)
        ∙ sym (ap (λ (ys : Table Listed). has_number n before || any_listed ys) is
        ∙ ap (λ (o : Option Addr). has_number n before || (has_any
        && ((is_some o && (option_map_or (λ (a : Addr). a.bits) o 0 == n)) || list_any (λ x. is_of_source n x.0) t))) of)
      where
        go : (b : Bool) → (source.bits == n) ≡ b → (f c : Bool) → (f || (has_any && c)) ≡ (f || (has_any && (b || c)))
        go true same f c =
            let off : has_any ≡ false =
            sym (absent ∙ ap (λ (m : ℕ). list_any (names_source g m) (keys_in rows)) (number_of source.bits n same)) in
            (λ j. f || (off j && c)) ∙ sym (λ j. f || (off j && true))
        go false other f c = refl

-- ---- what a walked entry lists

module _ {R : Type 0} (g : ℕ) (rows : Table R) where
  -- the entry of a source lists the interfaces with a record of it
  abbrev pub Shows : Key × Listed → Type 0
  Shows e = (source : Addr) → (e.0).source ≡ Some source
      → (i : ℕ) → has (e.1).there i ≡ has_row rows (source_key i g source.bits)

  module _ (runs : R → Bool) (of_sources : Bool) (marks : Table Listed) (listed : IsListed runs of_sources marks rows) where
    key_is : (k : Key) (source : Addr) → k ≡ entry_key k.group k.source → is_of_group g k ≡ true → k.source ≡ Some source
        → k ≡ source_key 0 g source.bits
    key_is k source whole of is =
        whole
        ∙ (λ j. key_of 0 (number_of (group_in k) g of j) (option_map address_bits (is j)) false)

    shows : (e : Key × Listed) → row_at marks e.0 ≡ Some e.1 → e.0 ≡ entry_key (e.0).group (e.0).source
        → is_of_group g e.0 ≡ true → Shows e
    unfolding has_row
    shows e found whole of source is i =
        ap (λ (o : Option Listed). in_entry There o i)
        (sym found ∙ ap (λ (k : Key). row_at marks k) (key_is e.0 source whole of is))
        ∙ (listed.told There i g (Some source.bits) ∙ there_told runs (row_at rows (source_key i g source.bits)))

    pub all_shown : IsStrictlySortedBy key_cmp (keys_in marks)
        → All (λ e. e.0 ≡ entry_key (e.0).group (e.0).source) marks
        → (walked : Table Listed) → walked ≡ filter (λ e. is_of_group g e.0) marks → AllByRecursion Shows walked
    all_shown sorted keys walked is =
        subst (λ (t : Table Listed). AllByRecursion Shows t) (sym is)
        (each_more (λ (e : Key × Listed). ((row_at marks e.0 ≡ Some e.1) × (e.0 ≡ entry_key (e.0).group (e.0).source))
        × (is_of_group g e.0 ≡ true)) Shows (λ e has. shows e (has.0).0 (has.0).1 has.1)
        (filter (λ e. is_of_group g e.0) marks)
        (each_passing (λ (e : Key × Listed). (row_at marks e.0 ≡ Some e.1) × (e.0 ≡ entry_key (e.0).group (e.0).source))
        (λ e. is_of_group g e.0) marks
        (each_both (λ (e : Key × Listed). row_at marks e.0 ≡ Some e.1) (λ e. e.0 ≡ entry_key (e.0).group (e.0).source) _
        (λ e found whole. (found, whole)) marks (all_found marks sorted)
        (recursion_from_All (λ (e : Key × Listed). e.0 ≡ entry_key (e.0).group (e.0).source) marks keys))))
