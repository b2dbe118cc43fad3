use Rattle.std.{proofs.Common.{List, [], ap, append-nil, append_assoc, sym, ◌∷◌, ◌++◌, ◌∙◌}}
use Rattle.pim_types.{specs.declared.fact.{Key.Key, QuerierRow.QuerierRow}}
use Rattle.pim_model.{specs.Tables.{Table, keys_in}}
use Rattle.pim_reloader.proofs.queriers.keys_of.Goals as goal

pub loop-key-preserved : goal.loop-key-preserved
unfolding keys_in
loop-key-preserved c =
    let l = c.loop-key in
    ap (λ (ks : List Key). ks ++ keys_in c.next.new.self) c.in_ok-push.ensures.items
    ∙ append_assoc l.keys.items (c.in-Some.key.now ∷ []) (keys_in c.next.new.self)
    ∙ ap (λ (t : Table QuerierRow). l.keys.items ++ keys_in t) (sym c.in-Some.ensures.steps)
    ∙ l.invariant

pub returns : goal.returns
unfolding keys_in
returns c =
    let l = c.loop-key in
    sym (append-nil l.keys.items)
    ∙ ap (λ (t : Table QuerierRow). l.keys.items ++ keys_in t) (sym c.in-None.ensures.steps.0)
    ∙ l.invariant
