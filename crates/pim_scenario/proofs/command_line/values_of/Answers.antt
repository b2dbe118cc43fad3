-- The values are those of the argument's row.
use Rattle.std.{proofs.Common.{◌∙◌, ◌++◌, ap, map}}
use Rattle.clap.{specs.Words.found_of, proofs.WalkLemmas.raw_values-rows}
use Rattle.pim_scenario.{proofs.CommandLineLemmas.{no_values, some_values}}
use Rattle.pim_scenario.proofs.command_line.values_of.Goals as goal

pub returns-in_default : goal.returns-in_default
returns-in_default c =
    ap (map (λ v. v.now)) c.new-values.ensures.items
    ∙ no_values c.get_strs.result _ c.in_default.is (c.get_strs.ensures ∙ raw_values-rows (found_of c.args.matches.now) c.args.id.now)

pub returns : goal.returns
returns c =
    ap (map (λ v. v.now)) (c.in_ok-extend_from_slice.ensures.items
    ∙ ap (λ xs. xs ++ c.in-Some.given.now) c.new-values.ensures.items)
    ∙ some_values c.get_strs.result c.in-Some.given _ c.in-Some.is
    (c.get_strs.ensures ∙ raw_values-rows (found_of c.args.matches.now) c.args.id.now)
