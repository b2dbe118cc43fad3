-- The order of keys by their fields in turn: it is total, and ties where the fields are the same.
use Rattle.std.{proofs.{Common.{◌≡◌, ℕ, Bool, true, false, Option, Some, None, ◌==◌, ◌&&◌, refl, sym, ap, ◌∙◌, arith}, lemmas.Bool.Decides.nat_tests}, specs.{Bool.beq, Cmp.{IsTotalOrder, bool_cmp_total, nat_cmp_total, on_total, then_total, Lexicographic.options_total}, Option.{option_cmp, option_eq}, Ordering.{bool_cmp, is_eq, nat_cmp, ordering_then}, declared.cmp.Ordering.{Ordering, TheVariants.{Equal, Greater, Less}}}}
use Rattle.pim_ip.{specs.declared.addr.Addr.Addr}
use Rattle.pim_types.{specs.declared.fact.Key.Key}

-- two addresses in the order of their bits
abbrev pub bits_cmp : Addr → Addr → Ordering
bits_cmp a b = nat_cmp a.bits b.bits

-- by interface, group, source, where none comes first, and rpt
abbrev pub fields_cmp : Key → Key → Ordering
fields_cmp k q =
    ordering_then (nat_cmp k.iface.number q.iface.number)
    (ordering_then (bits_cmp k.group q.group)
    (ordering_then (option_cmp bits_cmp k.source q.source) (bool_cmp k.rpt q.rpt)))

pub fields_total : IsTotalOrder fields_cmp
fields_total =
    then_total (on_total (λ (k : Key). k.iface.number) nat_cmp_total)
    (then_total (on_total (λ (k : Key). k.group.bits) nat_cmp_total)
    (then_total (on_total (λ (k : Key). k.source) (options_total (on_total (λ (a : Addr). a.bits) nat_cmp_total)))
    (on_total (λ (k : Key). k.rpt) bool_cmp_total)))

tied_then : (a b : Ordering) → is_eq (ordering_then a b) ≡ (is_eq a && is_eq b)
tied_then Less b = refl
tied_then Equal b = refl
tied_then Greater b = refl

numbers_tied : (x y : ℕ) → (x == y) ≡ is_eq (nat_cmp x y)
numbers_tied x y = grind (arith, nat_tests)

flags_tied : (a b : Bool) → beq a b ≡ is_eq (bool_cmp a b)
flags_tied true true = refl
flags_tied true false = refl
flags_tied false true = refl
flags_tied false false = refl

abbrev same_bits : Addr → Addr → Bool
same_bits a b = a.bits == b.bits

sources_tied : (s t : Option Addr) → option_eq same_bits s t ≡ is_eq (option_cmp bits_cmp s t)
sources_tied None None = refl
sources_tied None (Some b) = refl
sources_tied (Some a) None = refl
sources_tied (Some a) (Some b) = numbers_tied a.bits b.bits

pub fields_tied : (k q : Key)
    → (k.iface.number == q.iface.number && (k.group.bits == q.group.bits && (option_eq same_bits k.source q.source && beq k.rpt q.rpt))) ≡ is_eq
    (fields_cmp k q)
fields_tied k q =
    (λ i. numbers_tied k.iface.number q.iface.number i && (numbers_tied k.group.bits q.group.bits i && (sources_tied k.source q.source i && flags_tied k.rpt q.rpt i)))
    ∙ sym (tied_then (nat_cmp k.iface.number q.iface.number) _
    ∙ ap (λ x. is_eq (nat_cmp k.iface.number q.iface.number) && x)
    (tied_then (bits_cmp k.group q.group) _
    ∙ ap (λ x. is_eq (bits_cmp k.group q.group) && x)
    (tied_then (option_cmp bits_cmp k.source q.source) (bool_cmp k.rpt q.rpt))))
