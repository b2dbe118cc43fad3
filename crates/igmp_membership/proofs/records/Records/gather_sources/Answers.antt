use Rattle.std.{proofs.Common.{◌||◌, ap, not, subst, sym, ◌∙◌}, specs.List.AllByRecursion}
use Rattle.igmp_membership.{proofs.{Named.told_by_set, Walked.{Shows, all_listed, all_shown, near_records, no_source, not_there, plain_records, put_there}}, specs.{Listing.IsListed, Sources.has_number}}
use Rattle.igmp_membership.proofs.records.Records.gather_sources.Goals as goal

pub loop-key-init : goal.loop-key-init
loop-key-init g c =
    let listed =
    subst (λ t. IsListed g.R.Record.runs g.R.Record.of_sources c.self.inside.index t) c.self.view_is c.self.invariant in
    let walked = c.into_iter-key-iterator.ensures.into_iter_gives ∙ c.walk-key-items.ensures in
    record {
      found = λ n.
          ap (λ b. has_number n c.args.found.now.entries || b)
          (all_listed c.args.group.bits n c.args.self.now g.R.Record.runs g.R.Record.of_sources c.self.inside.index listed
          c.proof_rising.ensures _ walked);
      shown = all_shown c.args.group.bits c.args.self.now g.R.Record.runs g.R.Record.of_sources c.self.inside.index listed
          c.proof_keyed.ensures.rising c.proof_keyed.ensures.keys _ walked;
    }

pub loop-key-preserved-in_ok-insert : goal.loop-key-preserved-in_ok-insert
loop-key-preserved-in_ok-insert g c =
    let shown =
    subst (λ xs. AllByRecursion (Shows c.args.group.bits c.args.self.now) xs) c.in-Some.ensures.steps
    c.loop-key.invariant.shown in
    let there =
    told_by_set c.args.group.bits c.in-Some-source.source.bits 120 c.args.self.now c.proof_rising.ensures
    (plain_records c.args.self.now c.proof_kind.ensures.fit) (near_records c.args.self.now c.proof_kind.ensures.fit)
    c.is_empty.result _ _ c.is_empty.ensures c.without_tunnel.ensures.tunnel
    (λ i. c.without_tunnel.ensures.interfaces i ∙ shown.0 c.in-Some-source.source c.in-Some-source.is i) in
    record {
      found = λ n.
          put_there c.args.group.bits n c.args.self.now c.loop-key.key-iterator c.next.new.self
          (c.in-Some.key, c.in-Some.marked.now) c.in-Some.ensures.steps c.loop-key.found.entries c.in-Some-source.source _
          _ c.in-Some-source.is c.in_ok-insert.ensures.entries (ap not (sym c.if-not-is_empty.true) ∙ there)
          ∙ c.loop-key.invariant.found n;
      shown = shown.1;
    }

pub loop-key-preserved : goal.loop-key-preserved
loop-key-preserved g c =
    let shown =
    subst (λ xs. AllByRecursion (Shows c.args.group.bits c.args.self.now) xs) c.in-Some.ensures.steps
    c.loop-key.invariant.shown in
    let there =
    told_by_set c.args.group.bits c.in-Some-source.source.bits 120 c.args.self.now c.proof_rising.ensures
    (plain_records c.args.self.now c.proof_kind.ensures.fit) (near_records c.args.self.now c.proof_kind.ensures.fit)
    c.is_empty.result _ _ c.is_empty.ensures c.without_tunnel.ensures.tunnel
    (λ i. c.without_tunnel.ensures.interfaces i ∙ shown.0 c.in-Some-source.source c.in-Some-source.is i) in
    record {
      found = λ n.
          not_there c.args.group.bits n c.args.self.now c.loop-key.key-iterator c.next.new.self
          (c.in-Some.key, c.in-Some.marked.now) c.in-Some.ensures.steps c.loop-key.found.entries c.in-Some-source.source
          c.in-Some-source.is (ap not (sym c.if-not-is_empty.false) ∙ there)
          ∙ c.loop-key.invariant.found n;
      shown = shown.1;
    }

pub loop-key-preserved-in_default : goal.loop-key-preserved-in_default
loop-key-preserved-in_default g c = record {
  found = λ n.
      no_source c.args.group.bits n c.args.self.now c.loop-key.key-iterator c.next.new.self
      (c.in-Some.key, c.in-Some.marked.now) c.in-Some.ensures.steps c.loop-key.found.entries c.in_default.is
      ∙ c.loop-key.invariant.found n;
  shown = (subst (λ xs. AllByRecursion (Shows c.args.group.bits c.args.self.now) xs) c.in-Some.ensures.steps
      c.loop-key.invariant.shown).1;
}
