-- A candidate's address and its ranges.
use Rattle.std.{proofs.{Common.{◌≡◌, ◌∙◌, ◌∷◌, ◌<◌, ◌^◌, [], List, ℕ, Option, Some, None, ap, arith, get_or, refl, subst, sym}, NetLemmas.Theorems.IsIpv4Text_unique}, specs.{Int.byte_at, Net.Grammar.IsIpv4Text, Prelude.{false, true}, declared.net.ipv4_addr.Ipv4Addr.Ipv4Addr}}
use Rattle.toml.{specs.Data.{Data, Members, as_str}}
use Rattle.pim_ip.{specs.{Addr.dotted_text, declared.addr.Prefix.Prefix}}
use Rattle.pim_scenario.{specs.{Standing.{IsRangeText, IsThatOf, WritesRange, is_range}, Texts.IsPrefixText}, proofs.ReadLemmas.{not_both, the_same}}

-- a value that is no text writes no range
pub no_range_text : (d : Data) → None ≡ as_str d → (p : Prefix) → WritesRange d p → ⊥
no_range_text d none p is = not_both (as_str d) is.0 none is.1

-- nor does a text that is none of a range
pub no_range : (d : Data) (text : List ℕ) → Some text ≡ as_str d → ((p : Prefix) → IsRangeText text p → ⊥) → (p : Prefix)
    → WritesRange d p → ⊥
no_range d text there none p is = none p (rw (the_same (as_str d) text is.0 there is.1) is.2)

-- what the table at a key is
pub said_of : {X : Type 0} (Is : Members → X → Type 0) (o : Option (Option Members)) (ms : Members) → Some (Some ms) ≡ o
    → (x : Option X) → IsThatOf Is o x → (y : X) × Is ms y
said_of Is o ms there None is = absurd (subst (λ (t : Option (Option Members)). IsThatOf Is t None) (sym there) is)
said_of Is o ms there (Some x) is = (x, subst (λ (t : Option (Option Members)). IsThatOf Is t (Some x)) (sym there) is)

-- ---- a text writes one prefix

octets : ℕ → List ℕ
octets n = byte_at 3 n ∷ byte_at 2 n ∷ byte_at 1 n ∷ byte_at 0 n ∷ []

written : (text : List ℕ) (n : ℕ) → n < 2 ^ 32 → text ≡ dotted_text n → IsIpv4Text text (record { octets = octets n })
unfolding octets
written text n small printed = record {
  a = byte_at 3 n;
  b = byte_at 2 n;
  c = byte_at 1 n;
  d = byte_at 0 n;
  fit = (omega arith, omega arith, omega arith, omega arith);
  value = refl;
  spelled = printed;
}

one_address : (text : List ℕ) (m n : ℕ) → m < 2 ^ 32 → n < 2 ^ 32 → text ≡ dotted_text m → text ≡ dotted_text n → m ≡ n
unfolding octets
one_address text m n small other one two =
    let same = IsIpv4Text_unique text _ _ (written text m small one) (written text n other two) in
    let a : byte_at 3 m ≡ byte_at 3 n = ap (λ (i : Ipv4Addr). get_or i.octets 0 0) same in
    let b : byte_at 2 m ≡ byte_at 2 n = ap (λ (i : Ipv4Addr). get_or i.octets 1 0) same in
    let c : byte_at 1 m ≡ byte_at 1 n = ap (λ (i : Ipv4Addr). get_or i.octets 2 0) same in
    let d : byte_at 0 m ≡ byte_at 0 n = ap (λ (i : Ipv4Addr). get_or i.octets 3 0) same in
    omega arith

range_once : (text : List ℕ) (p q : Prefix) → IsPrefixText text p → IsPrefixText text q → is_range p ≡ is_range q
range_once text p q one two =
    let address : p.address.bits ≡ q.address.bits =
    one_address _ p.address.bits q.address.bits one.0.0 two.0.0 one.0.1 two.0.1 in
    let length : p.length ≡ q.length = one.1.value ∙ sym two.1.value in
    rw (address, length) refl

-- where one prefix that a text writes is no range, none is
pub not_range : (text : List ℕ) (p q : Prefix) → IsPrefixText text p → is_range p ≡ false → IsRangeText text q → ⊥
not_range text p q read not is =
    let same : is_range p ≡ is_range q = range_once text p q read is.0 in
    let holds : is_range q ≡ true = is.1 in
    cc
