use Rattle.std.{proofs.{Common.{◌+◌, ap, drop, map, sym, ◌∙◌}, lemmas.List.{drop_all, drop_more}}}
use Rattle.pim_types.{specs.Keys.{group_in, star_key}}
use Rattle.pim_state.{specs.Groups.{gathered, numbers_of}, proofs.Gathering.numbers_inserted}
use Rattle.pim_state.proofs.groups.gather_named.Goals as goal

pub loop-key-preserved : goal.loop-key-preserved
unfolding gathered
loop-key-preserved c =
    ap (λ ns. gathered (map group_in (drop (c.loop-key.key-index + 1) c.args.keys.now)) ns)
    (ap (λ es. numbers_of es) c.in_ok-insert.ensures.entries ∙ numbers_inserted _ _ c.loop-key.found.entries)
    ∙ sym (ap (λ ks. gathered (map group_in ks) (numbers_of c.loop-key.found.entries))
    (drop_more c.args.keys.now c.loop-key.key-index (star_key 0 0) c.loop-key-test.true))
    ∙ c.loop-key.invariant

pub returns : goal.returns
unfolding gathered
returns c =
    sym (ap (λ ks. gathered (map group_in ks) (numbers_of c.loop-key.found.entries))
    (drop_all c.loop-key.key-index c.args.keys.now c.loop-key-test.false))
    ∙ c.loop-key.invariant
