use Rattle.std.{proofs.Common.◌∙◌}
use Rattle.pim_types.{specs.{FieldOrder.fields_tied, Keys.{addr_cmp, key_cmp, same_key}}}
use Rattle.pim_fanout.proofs.once.are_same.Goals as goal

pub returns : goal.returns
unfolding key_cmp addr_cmp
returns c =
    c.eq.ensures
    ∙ (fields_tied c.key.result c.key-2.result ∙ (λ j. same_key (c.key.ensures j) (c.key-2.ensures j)))
