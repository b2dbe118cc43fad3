use Rattle.pim_event.{proofs.{Hearing.{brings_where, elsewhere_undecided}, Taking.fails_unsurely}}
use Rattle.pim_event.proofs.event.judge_event.Goals as goal

pub returns-in_err-judgement-clause-sure : goal.returns-in_err-judgement-clause-sure
returns-in_err-judgement-clause-sure c =
    fails_unsurely c.args.core.now.world c.args.event.now c.judge.result c.from_residual.result c.in_err-judgement.field-0.0
    c.judge.ensures.sure c.in_err-judgement.was

pub act_on_judgement-requires-clause-table : goal.act_on_judgement-requires-clause-table
act_on_judgement-requires-clause-table c =
    brings_where c.args.core.now.world c.args.event.now.kind c.judge.new.brought c.in_ok-judgement.judgement
    c.in_ok-judgement.ensures.value c.in_ok-judgement.ensures.table

pub act_on_judgement-requires-clause-undecided : goal.act_on_judgement-requires-clause-undecided
act_on_judgement-requires-clause-undecided c =
    elsewhere_undecided c.args.core.now.world c.args.event.now c.requires.begun.rest c.in_ok-judgement.judgement
    c.requires.other c.in_ok-judgement.ensures.value
