-- The two numbers of a key compare as its fields do.
use Rattle.std.{proofs.{Common.{◌≡◌, ◌≢◌, ℕ, ◌+◌, ◌*◌, ◌^◌, ◌<◌, ◌%◌, bit_or, Bool, true, false, Option, Some, None, refl, ap, sym, ◌∙◌, arith, inl, inr}, lemmas.{Bool.cases_order, Nat.or_shifted}}, specs.{Cmp.nat_cmp_is, declared.cmp.Ordering.{Ordering, TheVariants.{Less, Equal, Greater}}, Int.from_bool, Option.option_cmp, Ordering.{bool_cmp, nat_cmp, ordering_then}}}
use Rattle.pim_ip.{specs.declared.addr.Addr.Addr}
use Rattle.pim_types.{specs.{declared.fact.Key.Key, FieldOrder.{bits_cmp, fields_cmp}, Packed.{lower, source_number, upper}}}

less : (x y : ℕ) → x < y → nat_cmp x y ≡ Less
less x y below = sym (nat_cmp_is x y Less below)

same : (x y : ℕ) → x ≡ y → nat_cmp x y ≡ Equal
same x y equal = sym (nat_cmp_is x y Equal equal)

more : (x y : ℕ) → y < x → nat_cmp x y ≡ Greater
more x y above = sym (nat_cmp_is x y Greater above)

-- two numbers compare as two others
as_others : (x y b d : ℕ) → (b < d → x < y) → (b ≡ d → x ≡ y) → (d < b → y < x) → nat_cmp x y ≡ nat_cmp b d
as_others x y b d below equal above = elim (cases_order b d) [
  | inl e ↦ same x y (equal e) ∙ sym (same b d e)
  | inr (inl l) ↦ less x y (below l) ∙ sym (less b d l)
  | inr (inr m) ↦ more x y (above m) ∙ sym (more b d m)
]

-- two parts in one number, the higher first
by_halves : (a b c d : ℕ) → b < 2 ^ 32 → d < 2 ^ 32
    → nat_cmp (a * 2 ^ 32 + b) (c * 2 ^ 32 + d) ≡ ordering_then (nat_cmp a c) (nat_cmp b d)
by_halves a b c d small_b small_d = elim (cases_order a c) [
  | inl e ↦ as_others (a * 2 ^ 32 + b) (c * 2 ^ 32 + d) b d (λ l. omega (arith, e, l)) (λ l. omega (arith, e, l)) (λ l. omega (arith, e, l)) ∙ sym (ap (λ o. ordering_then o (nat_cmp b d)) (same a c e))
  | inr (inl l) ↦ less (a * 2 ^ 32 + b) (c * 2 ^ 32 + d) (omega arith) ∙ sym (ap (λ o. ordering_then o (nat_cmp b d)) (less a c l))
  | inr (inr m) ↦ more (a * 2 ^ 32 + b) (c * 2 ^ 32 + d) (omega arith) ∙ sym (ap (λ o. ordering_then o (nat_cmp b d)) (more a c m))
]

by_last_bit : (a b c d : ℕ) → b < 2 → d < 2
    → nat_cmp (a * 2 + b) (c * 2 + d) ≡ ordering_then (nat_cmp a c) (nat_cmp b d)
by_last_bit a b c d small_b small_d = elim (cases_order a c) [
  | inl e ↦ as_others (a * 2 + b) (c * 2 + d) b d (λ l. omega (arith, e, l)) (λ l. omega (arith, e, l)) (λ l. omega (arith, e, l)) ∙ sym (ap (λ o. ordering_then o (nat_cmp b d)) (same a c e))
  | inr (inl l) ↦ less (a * 2 + b) (c * 2 + d) (omega arith) ∙ sym (ap (λ o. ordering_then o (nat_cmp b d)) (less a c l))
  | inr (inr m) ↦ more (a * 2 + b) (c * 2 + d) (omega arith) ∙ sym (ap (λ o. ordering_then o (nat_cmp b d)) (more a c m))
]

source_order : (s t : Option Addr) → nat_cmp (source_number s) (source_number t) ≡ option_cmp bits_cmp s t
unfolding source_number
source_order None None = refl
source_order None (Some b) = less 0 (2 ^ 32 + b.bits) (omega arith)
source_order (Some a) None = more (2 ^ 32 + a.bits) 0 (omega arith)
source_order (Some a) (Some b) = as_others (2 ^ 32 + a.bits) (2 ^ 32 + b.bits) a.bits b.bits (λ l. omega (arith, l)) (λ e. omega (arith, e)) (λ l. omega (arith, l))

bit_order : (a b : Bool) → nat_cmp (from_bool a) (from_bool b) ≡ bool_cmp a b
bit_order false false = refl
bit_order false true = refl
bit_order true false = refl
bit_order true true = refl

flag_lt : (b : Bool) → from_bool b < 2
flag_lt true = omega arith
flag_lt false = omega arith

lower_order : (k q : Key) → nat_cmp (lower k) (lower q) ≡ ordering_then (option_cmp bits_cmp k.source q.source) (bool_cmp k.rpt q.rpt)
unfolding lower
lower_order k q =
    by_last_bit (source_number k.source) (from_bool k.rpt) (source_number q.source) (from_bool q.rpt) (flag_lt k.rpt) (flag_lt q.rpt)
    ∙ (λ i. ordering_then (source_order k.source q.source i) (bit_order k.rpt q.rpt i))

upper_order : (k q : Key) → k.group.bits < 2 ^ 32 → q.group.bits < 2 ^ 32
    → nat_cmp (upper k) (upper q) ≡ ordering_then (nat_cmp k.iface.number q.iface.number) (bits_cmp k.group q.group)
unfolding upper
upper_order k q small_k small_q = by_halves k.iface.number k.group.bits q.iface.number q.group.bits small_k small_q

in_turn : (a b c : Ordering) → ordering_then (ordering_then a b) c ≡ ordering_then a (ordering_then b c)
in_turn Less b c = refl
in_turn Equal b c = refl
in_turn Greater b c = refl

both : (k q : Key) → k.group.bits < 2 ^ 32 → q.group.bits < 2 ^ 32 → ordering_then (nat_cmp (upper k) (upper q)) (nat_cmp (lower k) (lower q)) ≡ fields_cmp k q
both k q small_k small_q =
    (λ i. ordering_then (upper_order k q small_k small_q i) (lower_order k q i))
    ∙ in_turn (nat_cmp k.iface.number q.iface.number) (bits_cmp k.group q.group) (ordering_then (option_cmp bits_cmp k.source q.source) (bool_cmp k.rpt q.rpt))

decided : (x y : ℕ) (o : Ordering) → x ≢ y → ordering_then (nat_cmp x y) o ≡ nat_cmp x y
decided x y o differ = elim (cases_order x y) [
  | inl e ↦ absurd (differ e)
  | inr (inl l) ↦ rw (less x y l) refl
  | inr (inr m) ↦ rw (more x y m) refl
]

-- where the upper numbers differ, they tell
pub by_upper : (k q : Key) (x y : ℕ) → k.group.bits < 2 ^ 32 → q.group.bits < 2 ^ 32 → x ≡ upper k → y ≡ upper q → x ≢ y → nat_cmp x y ≡ fields_cmp k q
by_upper k q x y small_k small_q is_x is_y differ =
    (λ i. nat_cmp (is_x i) (is_y i))
    ∙ sym (decided (upper k) (upper q) (nat_cmp (lower k) (lower q)) (λ e. differ (is_x ∙ e ∙ sym is_y)))
    ∙ both k q small_k small_q

-- where they are the same, the lower ones do
pub by_lower : (k q : Key) (x y v w : ℕ) → k.group.bits < 2 ^ 32 → q.group.bits < 2 ^ 32 → x ≡ upper k → y ≡ upper q → x ≡ y → v ≡ lower k → w ≡ lower q
    → nat_cmp v w ≡ fields_cmp k q
by_lower k q x y v w small_k small_q is_x is_y equal is_v is_w =
    (λ i. nat_cmp (is_v i) (is_w i))
    ∙ sym (ap (λ o. ordering_then o (nat_cmp (lower k) (lower q))) (same (upper k) (upper q) (sym is_x ∙ equal ∙ is_y)))
    ∙ both k q small_k small_q

-- the numbers as they are put together
pub upper_joined : (k : Key) → k.iface.number < 2 ^ 32 → k.group.bits < 2 ^ 32 → bit_or (k.iface.number * 2 ^ 32 % 2 ^ 64) k.group.bits ≡ upper k
unfolding upper
upper_joined k small_number small =
    let whole : k.iface.number * 2 ^ 32 % 2 ^ 64 ≡ k.iface.number * 2 ^ 32 = omega arith in
    rw whole (or_shifted k.iface.number 32 k.group.bits small)

pub lower_joined : (k : Key) (source flag : ℕ) → source ≡ source_number k.source → source < 2 ^ 33 → flag ≡ from_bool k.rpt → bit_or (source * 2 % 2 ^ 64) flag ≡ lower k
unfolding lower
lower_joined k source flag is small set =
    let whole : source * 2 % 2 ^ 64 ≡ source * 2 = omega arith in
    rw (whole, set) (or_shifted source 1 (from_bool k.rpt) (flag_lt k.rpt) ∙ ap (λ n. n * 2 + from_bool k.rpt) is)

pub some_source : (a : Addr) → a.bits < 2 ^ 32 → bit_or (2 ^ 32) a.bits ≡ source_number (Some a)
unfolding source_number
some_source a small = or_shifted 1 32 a.bits small
