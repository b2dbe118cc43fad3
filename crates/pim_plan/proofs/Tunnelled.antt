-- Registers that change make no facts.
use Rattle.std.{proofs.Common.{◌≡◌, ℕ, Bool, true, false, List, ◌∷◌, [], map, refl, ap, sym, ◌∙◌}, specs.{List.list_any, Prelude.if◌then◌else◌}}
use Rattle.pim_types.{specs.declared.{config.{RpTable.RpTable, Route.Route}, fact.{Key.Key, RegisterRow.RegisterRow}}}
use Rattle.pim_model.{specs.{Registers.{register_stop_seen, registers_after_rps}, State.State, Step.rps_replaced, Tables.{Table, keys_in}, Upstream.fact_keys}}
use Rattle.law_settled.{proofs.{FewerFacts.{IsFewer, fewer_both, no_other, table_fewer}, Parts.Registers}}

keys_kept : {R : Type 0} (f : Key × R → Key × R) → ((e : Key × R) → (f e).0 ≡ e.0) → (t : Table R)
    → keys_in (map f t) ≡ keys_in t
unfolding keys_in
keys_kept f same [] = refl
keys_kept f same (e ∷ t) =
    ap (λ (k : Key). k ∷ keys_in (map f t)) (same e) ∙ ap (λ (ks : List Key). e.0 ∷ ks) (keys_kept f same t)

first_kept : {R : Type 0} (b : Bool) (k : Key) (r x : R) → (if◌then◌else◌ {A = Key × R} b (k, x) (k, r)).0 ≡ k
first_kept true k r x = refl
first_kept false k r x = refl

other_kept : {R : Type 0} (b : Bool) (k : Key) (r x : R) → (if◌then◌else◌ {A = Key × R} b (k, r) (k, x)).0 ≡ k
other_kept true k r x = refl
other_kept false k r x = refl

registers_leave_facts : (s : State) (f : Key × RegisterRow → Key × RegisterRow)
    → ((e : Key × RegisterRow) → (f e).0 ≡ e.0) → IsFewer s (record s { registers = map f s.registers })
registers_leave_facts s f same =
    table_fewer Registers s (map f s.registers)
    (λ p e. sym (ap (λ (ks : List Key). list_any p ks) (keys_kept f same s.registers)) ∙ e)

pub routes_leave_facts : (s : State) (routes : List Route) → IsFewer s (record s { routes = routes })
unfolding fact_keys
routes_leave_facts s routes = no_other s (record s { routes = routes }) refl

pub stop_leaves_facts : (s : State) (w g src : ℕ) → IsFewer s (register_stop_seen s w g src)
unfolding register_stop_seen
stop_leaves_facts s w g src = registers_leave_facts s _ (λ e. first_kept _ e.0 e.1 _)

pub rps_leave_facts : (s : State) (ranges : RpTable) → IsFewer s (rps_replaced s ranges)
unfolding rps_replaced registers_after_rps fact_keys
rps_leave_facts s ranges =
    let after : State = record s { ranges = ranges } in
    fewer_both s after (rps_replaced s ranges) (no_other s after refl)
    (registers_leave_facts after _ (λ e. other_kept _ e.0 e.1 _))
