use Rattle.std.{proofs.Common.{sym, ◌∙◌}}
use Rattle.pim_fanout.{proofs.Alone.{opened_alone, sources_alone}}
use Rattle.pim_fanout.proofs.before.Gathered.of.Goals as goal

pub returns-in_ok-gathered-in-Some-clause-opening : goal.returns-in_ok-gathered-in-Some-clause-opening
returns-in_ok-gathered-in-Some-clause-opening c =
    c.in_ok-gathered-in-Some.ensures.opening
    ∙ sym (opened_alone c.args.world.now c.args.touched.now c.in-Some.name c.in-Some.ensures)

pub returns-in_ok-gathered-in-Some-clause-before : goal.returns-in_ok-gathered-in-Some-clause-before
returns-in_ok-gathered-in-Some-clause-before c = record {
  keys = c.in_ok-gathered-in-Some.ensures.keys
      ∙ sym (sources_alone c.args.world.now c.args.touched.now c.in-Some.name c.in-Some.ensures);
  each = c.in_ok-gathered-in-Some.ensures.each;
}
