-- The order of keys is total, and keys that compare equal are equal.
use Rattle.std.{proofs.{Common.{◌≡◌, ℕ, Bool, true, false, Option, Some, None, refl, ap, arith}, lemmas.Grind.common_steps}, specs.{declared.cmp.Ordering.{Ordering, TheVariants.{Less, Equal, Greater}}, Option.option_cmp, Ordering.{nat_cmp, bool_cmp, is_eq, ordering_then}, Cmp.{IsTotalOrder, nat_cmp_total, bool_cmp_total, on_total, then_total, Lexicographic.options_total}, FinMap.{IsAntisymmetric, nat_cmp-IsAntisymmetric}}}
use Rattle.pim_ip.{specs.declared.addr.Addr.Addr}
use Rattle.pim_types.{specs.{declared.fact.Key.Key, Keys.{addr_cmp, key_cmp, same_key}}}

-- ---- total

pub addr_cmp_total : IsTotalOrder addr_cmp
unfolding addr_cmp
addr_cmp_total = on_total (λ (a : Addr). a.bits) nat_cmp_total

pub key_cmp_total : IsTotalOrder key_cmp
unfolding key_cmp
key_cmp_total =
    then_total (on_total (λ (k : Key). k.iface.number) nat_cmp_total)
    (then_total (on_total (λ (k : Key). k.group) addr_cmp_total)
    (then_total (on_total (λ (k : Key). k.source) (options_total addr_cmp_total))
    (on_total (λ (k : Key). k.rpt) bool_cmp_total)))

-- ---- what compares equal is equal

-- a comparison by two parts ties where both tie
pub both_tied : (a b : Ordering) → ordering_then a b ≡ Equal → (a ≡ Equal) × (b ≡ Equal)
both_tied Less b e = cc
both_tied Equal b e = (refl, e)
both_tied Greater b e = cc

pub addr_exact : IsAntisymmetric addr_cmp
unfolding addr_cmp
addr_exact a b e = let bits = nat_cmp-IsAntisymmetric a.bits b.bits e in λ i. record { bits = bits i }

source_exact : IsAntisymmetric (option_cmp addr_cmp)
source_exact None None e = refl
source_exact None (Some b) e = cc
source_exact (Some a) None e = cc
source_exact (Some a) (Some b) e = ap Some (addr_exact a b e)

bool_exact : IsAntisymmetric bool_cmp
bool_exact false false e = refl
bool_exact false true e = cc
bool_exact true false e = cc
bool_exact true true e = refl

pub key_exact : IsAntisymmetric key_cmp
unfolding key_cmp
key_exact a b e =
    let first = both_tied (nat_cmp a.iface.number b.iface.number) _ e in
    let second = both_tied (addr_cmp a.group b.group) _ first.1 in
    let third = both_tied (option_cmp addr_cmp a.source b.source) _ second.1 in
    let number = nat_cmp-IsAntisymmetric a.iface.number b.iface.number first.0 in
    let group = addr_exact a.group b.group second.0 in
    let source = source_exact a.source b.source third.0 in
    let rpt = bool_exact a.rpt b.rpt third.1 in
    λ i. record { iface = record { number = number i }; group = group i; source = source i; rpt = rpt i }

tied : (o : Ordering) → is_eq o ≡ true → o ≡ Equal
tied Less e = cc
tied Equal e = refl
tied Greater e = cc

pub equal_keys : (k q : Key) → same_key k q ≡ true → k ≡ q
equal_keys k q e = key_exact k q (tied (key_cmp k q) e)

pub equal_numbers : (a b : ℕ) → nat_cmp a b ≡ Equal → a ≡ b
equal_numbers a b e = nat_cmp-IsAntisymmetric a b e

-- ---- what is equal compares equal

pub nat_cmp_same : (n : ℕ) → nat_cmp n n ≡ Equal
nat_cmp_same n = grind (arith, common_steps)

pub bool_cmp_same : (b : Bool) → bool_cmp b b ≡ Equal
bool_cmp_same true = refl
bool_cmp_same false = refl

pub source_cmp_same : (o : Option Addr) → option_cmp addr_cmp o o ≡ Equal
unfolding addr_cmp
source_cmp_same None = refl
source_cmp_same (Some a) = nat_cmp_same a.bits

equal_parts : (a b c d : Ordering) → a ≡ Equal → b ≡ Equal → c ≡ Equal → d ≡ Equal
    → is_eq (ordering_then a (ordering_then b (ordering_then c d))) ≡ true
equal_parts a b c d e f g h = rw (e, f, g, h) refl

group_same : (k : Key) → addr_cmp k.group k.group ≡ Equal
unfolding addr_cmp
group_same k = nat_cmp_same k.group.bits

pub same_key_same : (k : Key) → same_key k k ≡ true
unfolding key_cmp
same_key_same k =
    equal_parts _ _ _ _ (nat_cmp_same k.iface.number) (group_same k) (source_cmp_same k.source) (bool_cmp_same k.rpt)
