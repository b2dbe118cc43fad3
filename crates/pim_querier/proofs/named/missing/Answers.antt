use Rattle.std.{proofs.{Common.{[], ◌+◌, fold, refl, subst, sym, take}, lemmas.List.take_all}}
use Rattle.pim_types.{specs.Keys.{addr_cmp, key_cmp}}
use Rattle.pim_model.{specs.{Downstream.is_named, Full.{distinct, once_more}}}
use Rattle.pim_querier.{proofs.{Missing.{Counts, all_counted, next_once, passed, put_once}, named.missing.Goals.{then-not-is_there+in_ok-insert, else-not-is_there}}}
use Rattle.pim_querier.proofs.named.missing.Goals as goal

pub loop-key-preserved : goal.loop-key-preserved
unfolding key_cmp addr_cmp is_named
loop-key-preserved g c =
    let rows = g.R.Made.rows c.args.world.now in
    let keys = c.args.keys.now in
    let n = c.loop-key.key-index in
    elim c.if-not-is_there.branch [
      | then-not-is_there+in_ok-insert w ↦
          subst (λ set. Counts rows (fold once_more [] (take (n + 1) keys)) set.keys) (sym w.missing-is)
          (subst (λ found. Counts rows found w.insert.new.self.keys) (next_once rows keys n _ _ c.loop-key-test.true refl)
          (put_once rows (fold once_more [] (take n keys)) c.loop-key.missing.keys c.loop-key.invariant _
          w.insert.new.self.keys _ (sym w.if-not-is_there.ensures) w.in_ok-insert.ensures.added
          w.in_ok-insert.ensures.updates.0 w.in_ok-insert.ensures.len))
      | else-not-is_there w ↦
          subst (λ set. Counts rows (fold once_more [] (take (n + 1) keys)) set.keys) (sym w.missing-is)
          (subst (λ found. Counts rows found c.loop-key.missing.keys) (next_once rows keys n _ _ c.loop-key-test.true refl)
          (passed rows (fold once_more [] (take n keys)) c.loop-key.missing.keys c.loop-key.invariant _
          (sym w.if-not-is_there.ensures)))
    ]

pub returns-clause-missing : goal.returns-clause-missing
unfolding distinct
returns-clause-missing g c =
    all_counted (g.R.Made.rows c.args.world.now) c.args.keys.now c.loop-key.missing.keys c.len.result c.len.ensures.len
    (subst (λ ks. Counts (g.R.Made.rows c.args.world.now) (fold once_more [] ks) c.loop-key.missing.keys)
    (take_all c.loop-key.key-index c.args.keys.now c.loop-key-test.false) c.loop-key.invariant)
