-- Sources and registers are under keys of sources.
use Rattle.std.{proofs.{Common.{◌≡◌, true, not, is_none, is_some, refl, ◌∙◌}, lemmas.List.Folds.list_all-append}, specs.{Cmp.{second_so, Derive.both_true}, List.list_all, Prelude.{Option, Some, None}}}
use Rattle.pim_ip.{specs.declared.addr.Addr.Addr}
use Rattle.pim_types.{specs.Keys.is_star}
use Rattle.pim_model.{specs.{State.State, Tables.{Table, keys_in}}}
use Rattle.law_settled.{proofs.ListLaws.{each_more, each_of_list, list_of_each}}
use Rattle.law_events.{specs.Adjacent.AreSourced, proofs.Registers.all_keys}
use Rattle.pim_store.{specs.PimTables.{AreKeyed, is_source_key, pim_tables}}

not_star : (o : Option Addr) → is_some o ≡ true → not (is_none o) ≡ true
not_star None e = cc
not_star (Some a) e = refl

sourced : {R : Type 0} (t : Table R) → list_all (λ e. is_source_key e.0) t ≡ true
    → list_all (λ k. not (is_star k)) (keys_in t) ≡ true
sourced t keyed =
    all_keys (λ k. not (is_star k)) t
    ∙ list_of_each (λ e. not (is_star e.0)) t
    (each_more (λ e. is_source_key e.0 ≡ true) (λ e. not (is_star e.0) ≡ true)
    (λ e is. not_star (e.0).source (second_so _ (is_some (e.0).source) is)) t
    (each_of_list (λ e. is_source_key e.0) t keyed))

pub keyed_sourced : (s : State) → AreKeyed (pim_tables s) → AreSourced s
keyed_sourced s keyed =
    list_all-append (λ k. not (is_star k)) (keys_in s.sources) (keys_in s.registers)
    ∙ both_true (sourced s.sources keyed.sources) (sourced s.registers keyed.registers)
