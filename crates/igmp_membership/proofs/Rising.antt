-- The records of sources of a group on an interface rise by their sources, where their keys rise.
use Rattle.std.{proofs.{Common.{◌≡◌, ◌==◌, ℕ, Bool, true, false, cond, not, List, [], ◌∷◌, map, Option, Some, None, is_some, refl, sym, ap, ◌∙◌, arith}, lemmas.Bool.Decides.nat_tests}, specs.{Cmp.{first_so, second_so}, List.{AllByRecursion, filter, Sorted.IsStrictlySortedBy}, Option.{option_cmp, option_map_or}, Ordering.{bool_cmp, nat_cmp, ordering_then}, declared.cmp.Ordering.{Ordering, TheVariants.{Less, Equal, Greater}}}}
use Rattle.pim_ip.{specs.declared.addr.Addr.Addr}
use Rattle.pim_types.{specs.{declared.{fact.Key.Key, config.IfaceId.IfaceId}, Keys.{addr_cmp, group_in, iface_in, key_cmp, same_key, source_in, source_key}}, proofs.Keys.{nat_cmp_same, same_key_same}}
use Rattle.pim_model.{specs.{Records.is_at_group, Tables.{Table, keys_in}}}
use Rattle.law_settled.{specs.Laws.is_under_source, proofs.ListLaws.each_both}
use Rattle.igmp_membership.{specs.Listing.is_record_key, proofs.Told.{AreOfKind, Fits}}

-- a comparison of which the first part ties, and of which the second does
after_tie : (a b c : Ordering) → a ≡ Equal → b ≡ Equal → ordering_then a (ordering_then b c) ≡ c
after_tie a b c one two = rw (one, two) refl

before_tie : (a : Ordering) → ordering_then a Equal ≡ Less → a ≡ Less
before_tie Less e = refl
before_tie Equal e = cc
before_tie Greater e = cc

tied : (m n i : ℕ) → (m == i) ≡ true → (n == i) ≡ true → nat_cmp m n ≡ Equal
tied m n i a b =
    let same : n ≡ m = grind (arith, nat_tests, a, b) in ap (nat_cmp m) same ∙ nat_cmp_same m

by_source : (s t : Option Addr) (p q : Bool) → is_some s ≡ true → is_some t ≡ true → not p ≡ true → not q ≡ true
    → ordering_then (option_cmp addr_cmp s t) (bool_cmp p q) ≡ Less
    → nat_cmp (option_map_or (λ (a : Addr). a.bits) s 0) (option_map_or (λ (a : Addr). a.bits) t 0) ≡ Less
unfolding addr_cmp
by_source None t p q a b c d e = cc
by_source (Some x) None p q a b c d e = cc
by_source (Some x) (Some y) true q a b c d e = cc
by_source (Some x) (Some y) false true a b c d e = cc
by_source (Some x) (Some y) false false a b c d e = before_tie (nat_cmp x.bits y.bits) e

module _ (i g : ℕ) where
  source_below : (k q : Key) → is_at_group i g k ≡ true → is_at_group i g q ≡ true → is_record_key k ≡ true
      → is_record_key q ≡ true → is_some k.source ≡ true → is_some q.source ≡ true → key_cmp k q ≡ Less
      → nat_cmp (source_in k) (source_in q) ≡ Less
  unfolding key_cmp addr_cmp
  source_below k q here there fit fits of also less =
      by_source k.source q.source k.rpt q.rpt of also (second_so _ _ fit) (second_so _ _ fits)
      (sym (after_tie (nat_cmp (iface_in k) (iface_in q)) (nat_cmp (group_in k) (group_in q)) _
      (tied (iface_in k) (iface_in q) i (first_so _ _ here) (first_so _ _ there))
      (tied (group_in k) (group_in q) g (second_so _ _ here) (second_so _ _ there)))
      ∙ less)

  module _ {R : Type 0} where
    abbrev sources_at : Table R → List ℕ
    sources_at t = map (λ e. source_in e.0) (filter (λ e. is_at_group i g e.0) t)

    below_step : (k : Key) (e : Key × R) (t : Table R) (b : Bool) → is_at_group i g e.0 ≡ b
        → (is_at_group i g e.0 ≡ true → nat_cmp (source_in k) (source_in e.0) ≡ Less)
        → AllByRecursion (λ n. nat_cmp (source_in k) n ≡ Less) (sources_at t)
        → AllByRecursion (λ n. nat_cmp (source_in k) n ≡ Less) (map (λ x. source_in x.0)
        (cond b (e ∷ filter (λ x. is_at_group i g x.0) t) (filter (λ x. is_at_group i g x.0) t)))
    below_step k e t true is first later = (first is, later)
    below_step k e t false is first later = later

    all_below : (k : Key) (t : Table R) → is_at_group i g k ≡ true → is_record_key k ≡ true → is_some k.source ≡ true
        → Fits t → AreOfKind true t → AllByRecursion (λ q. key_cmp k q ≡ Less) (map (λ e. e.0) t)
        → AllByRecursion (λ n. nat_cmp (source_in k) n ≡ Less) (sources_at t)
    all_below k [] here fit of fits kinds below = tt
    all_below k (e ∷ t) here fit of fits kinds below =
        below_step k e t (is_at_group i g e.0) refl
        (λ there. source_below k e.0 here there fit fits.0 of kinds.0 below.0)
        (all_below k t here fit of fits.1 kinds.1 below.1)

    rising_step : (e : Key × R) (t : Table R) (b : Bool) → is_at_group i g e.0 ≡ b
        → (is_at_group i g e.0 ≡ true → AllByRecursion (λ n. nat_cmp (source_in e.0) n ≡ Less) (sources_at t))
        → IsStrictlySortedBy nat_cmp (sources_at t)
        → IsStrictlySortedBy nat_cmp (map (λ x. source_in x.0)
        (cond b (e ∷ filter (λ x. is_at_group i g x.0) t) (filter (λ x. is_at_group i g x.0) t)))
    unfolding IsStrictlySortedBy
    rising_step e t true is first later = (first is, later)
    rising_step e t false is first later = later

    pub sources_rise : (t : Table R) → Fits t → AreOfKind true t → IsStrictlySortedBy key_cmp (keys_in t)
        → IsStrictlySortedBy nat_cmp (sources_at t)
    unfolding IsStrictlySortedBy keys_in
    sources_rise [] fits kinds rise = tt
    sources_rise (e ∷ t) fits kinds rise =
        rising_step e t (is_at_group i g e.0) refl
        (λ here. all_below e.0 t here fits.0 kinds.0 fits.1 kinds.1 rise.0)
        (sources_rise t fits.1 kinds.1 rise.1)

-- ---- the keys of sources

keyed_by : (iface : IfaceId) (group : Addr) (source : Option Addr) (rpt : Bool) → is_some source ≡ true
    → not rpt ≡ true
    → (let k : Key = record { iface = iface; group = group; source = source; rpt = rpt } in
    same_key (source_key iface.number group.bits (source_in k)) k ≡ true)
keyed_by iface group None rpt of fit = cc
keyed_by iface group (Some a) true of fit = cc
keyed_by iface group (Some a) false of fit =
    same_key_same (record { iface = iface; group = group; source = Some a; rpt = false })

-- each is under the key of its source
pub are_under_sources : {R : Type 0} (t : Table R) → Fits t → AreOfKind true t
    → AllByRecursion (λ (e : Key × R). is_under_source e ≡ true) t
are_under_sources {R} t fits kinds =
    each_both (λ (e : Key × R). is_record_key e.0 ≡ true) (λ (e : Key × R). is_some (e.0).source ≡ true)
    (λ (e : Key × R). is_under_source e ≡ true)
    (λ e fit of. keyed_by (e.0).iface (e.0).group (e.0).source (e.0).rpt of (second_so _ _ fit)) t fits kinds
