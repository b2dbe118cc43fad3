-- A source's fact is under the key of its name.
use Rattle.std.{proofs.Common.{◌≡◌, ◌==◌, ◌&&◌, ap, refl, sym, ◌∙◌, ℕ, Bool, true, false, not, is_some, List, [], ◌∷◌, Option, Some, None, map, eqb-true}, specs.{Cmp.{first_so, second_so}, List.list_all}}
use Rattle.pim_ip.{specs.declared.addr.Addr.Addr}
use Rattle.pim_types.{specs.{Keys.{group_in, source_in, source_key}, declared.fact.Key.Key}}
use Rattle.pim_model.{specs.Tables.{Table, keys_in}}
use Rattle.pim_store.{specs.PimTables.is_source_key}

-- a key by its fields
abbrev key_with : ℕ → Addr → Option Addr → Bool → Key
key_with i group source rpt = record { iface = record { number = i }; group = group; source = source; rpt = rpt }

by_fields : (i : ℕ) (group : Addr) (source : Option Addr) (rpt : Bool)
    → ((i == 0) && not rpt && is_some source) ≡ true
    → source_key 0 (group_in (key_with i group source rpt)) (source_in (key_with i group source rpt)) ≡ key_with i group source rpt
by_fields i group (Some a) false e =
    let first : i ≡ 0 = eqb-true i 0 (first_so (i == 0) true (first_so ((i == 0) && true) true e)) in
    ap (λ (n : ℕ). key_with n group (Some a) false) (sym first)
by_fields i group (Some a) true e = let no : false ≡ true = second_so (i == 0) false (first_so ((i == 0) && false) true e) in cc
by_fields i group None rpt e = let no : false ≡ true = second_so ((i == 0) && not rpt) false e in cc

key_is : (k : Key) → is_source_key k ≡ true → source_key 0 (group_in k) (source_in k) ≡ k
key_is k e = by_fields k.iface.number k.group k.source k.rpt e

pub keys_are : {R : Type 0} (t : Table R) → list_all (λ e. is_source_key e.0) t ≡ true
    → map (λ e. source_key 0 (group_in e.0) (source_in e.0)) t ≡ keys_in t
unfolding keys_in
keys_are [] e = refl
keys_are (x ∷ xs) e =
    ap (λ (k : Key). k ∷ map (λ e. source_key 0 (group_in e.0) (source_in e.0)) xs)
    (key_is x.0 (first_so (is_source_key x.0) (list_all (λ e. is_source_key e.0) xs) e))
    ∙ ap (λ (ks : List Key). x.0 ∷ ks) (keys_are xs (second_so (is_source_key x.0) (list_all (λ e. is_source_key e.0) xs) e))
