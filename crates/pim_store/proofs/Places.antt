-- The keys of the facts that the marks of a group, or of a source, are about.
use Rattle.std.{proofs.{Common.{◌≡◌, ◌==◌, ◌&&◌, ℕ, Bool, true, false, Option, Some, None, option_map, refl, sym, ap, ◌∙◌, arith}, lemmas.Bool.Decides.nat_tests}, specs.{declared.cmp.Ordering.{Ordering, TheVariants.{Less, Equal, Greater}}, Option.option_cmp, Ordering.{bool_cmp, is_eq, nat_cmp, ordering_then}}}
use Rattle.pim_ip.{specs.{declared.addr.Addr.Addr, Addr.addr}}
use Rattle.pim_types.{specs.{declared.fact.Key.Key, Keys.{addr_cmp, iface_in, key_cmp, key_of, same_key}}}
use Rattle.pim_model.{specs.Tables.same_bool}
use Rattle.pim_source_trie.{specs.Entries.entry_key}
use Rattle.pim_store.{specs.{PimTables.fact_key, Said.{iface_at, is_about, is_here, is_rpt, mark_key, place, source_bits}, declared.marks.Mark.{Mark, TheVariants.{Joined, Branched, Pruned, Lost, Won}}}}

-- ---- a comparison by parts

both_equal : (a b : Ordering) → is_eq (ordering_then a b) ≡ (is_eq a && is_eq b)
both_equal Less b = refl
both_equal Equal b = refl
both_equal Greater b = refl

numbers_tie : (m n : ℕ) → is_eq (nat_cmp m n) ≡ (m == n)
numbers_tie m n = grind (arith, nat_tests)

tests_tie : (a b : Bool) → is_eq (bool_cmp a b) ≡ same_bool a b
tests_tie true true = refl
tests_tie true false = refl
tests_tie false true = refl
tests_tie false false = refl

-- the key is of this group and this source, if of any
abbrev pub is_of : ℕ → Option ℕ → Key → Bool
is_of g s k = is_eq (addr_cmp (addr g) k.group) && is_eq (option_cmp addr_cmp (option_map addr s) k.source)

ordered : (a b c d : Bool) → (a && (b && (c && d))) ≡ (a && ((b && c) && d))
ordered true true c d = refl
ordered true false c d = refl
ordered false b c d = refl

by_parts : (a b c d : Ordering) → is_eq (ordering_then a (ordering_then b (ordering_then c d)))
    ≡ (is_eq a && ((is_eq b && is_eq c) && is_eq d))
by_parts a b c d =
    both_equal a _
    ∙ ap (λ (x : Bool). is_eq a && x) (both_equal b _ ∙ ap (λ (x : Bool). is_eq b && x) (both_equal c d))
    ∙ ordered (is_eq a) (is_eq b) (is_eq c) (is_eq d)

pub key_parts : (i g : ℕ) (s : Option ℕ) (r : Bool) (k : Key)
    → same_key (key_of i g s r) k ≡ ((i == iface_in k) && (is_of g s k && same_bool r k.rpt))
unfolding key_cmp
key_parts i g s r k =
    by_parts (nat_cmp i k.iface.number) (addr_cmp (addr g) k.group) (option_cmp addr_cmp (option_map addr s) k.source)
    (bool_cmp r k.rpt)
    ∙ (λ j. numbers_tie i k.iface.number j && (is_of g s k && tests_tie r k.rpt j))

-- ---- places

-- the source of a key, read and written again
pub source_again : (o : Option Addr) → option_map addr (source_bits o) ≡ o
source_again None = refl
source_again (Some a) = refl

only_middle : (b : Bool) → (true && (b && true)) ≡ b
only_middle true = refl
only_middle false = refl

pub of_place : (g : ℕ) (s : Option ℕ) (k : Key) → same_key (mark_key g s) (entry_key k.group k.source) ≡ is_of g s k
unfolding addr_cmp
of_place g s k =
    key_parts 0 g s false (entry_key k.group k.source)
    ∙ only_middle (is_of g s (entry_key k.group k.source))
    ∙ ap (λ (o : Option Addr). is_eq (nat_cmp g k.group.bits) && is_eq (option_cmp addr_cmp (option_map addr s) o))
    (source_again k.source)

turned : (m n : ℕ) → (m == n) ≡ (n == m)
turned m n = grind (arith, nat_tests)

here : (x : Mark) (i n : ℕ) → (iface_at x i == n) ≡ is_here x i n
here Joined i n = refl
here Branched i n = refl
here Pruned i n = refl
here Lost i n = refl
here Won i n = refl
here _ i n = turned 0 n

moved : (a b c : Bool) → (a && (b && c)) ≡ (b && (a && c))
moved true true c = refl
moved true false c = refl
moved false true c = refl
moved false false c = refl

-- the fact under a key is the one that a mark is about where the mark is of its group and its source
pub place_is : (x : Mark) (i g : ℕ) (s : Option ℕ) (k : Key)
    → same_key (place x i g s) k ≡ (same_key (mark_key g s) (entry_key k.group k.source) && is_about x i k)
place_is x i g s k =
    key_parts (iface_at x i) g s (is_rpt x) k
    ∙ moved (iface_at x i == iface_in k) (is_of g s k) (same_bool (is_rpt x) k.rpt)
    ∙ (λ j. sym (of_place g s k) j && (here x i (iface_in k) j && same_bool (is_rpt x) k.rpt))

-- ---- the keys of facts of the whole router

-- the key with its fields as they are
pub fact_named : (i : ℕ) (group : Addr) (source : Option Addr) (rpt : Bool)
    → (let k : Key = record { iface = record { number = i }; group = group; source = source; rpt = rpt } in k)
    ≡ fact_key i group source rpt
fact_named i group source rpt = λ j. record {
  iface = record { number = i };
  group = group;
  source = sym (source_again source) j;
  rpt = rpt;
}

-- the entry of a fact of the whole router
pub entry_named : (key : Key) (group : Addr) (source : Option Addr) → key ≡ fact_key 0 group source false
    → entry_key key.group key.source ≡ fact_key 0 group source false
entry_named key group source is =
    ap (λ (k : Key). entry_key k.group k.source) is ∙ ap (entry_key group) (source_again source)
