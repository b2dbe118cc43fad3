use Rattle.std.{proofs.{Common.{arith, ap, length, rules, suc, sym, ℕ, List, ◌++◌, ◌+◌, ◌-◌, ◌≡◌, ◌∙◌}, lemmas.List.length_push}}
use Rattle.pim_state.{specs.Groups.numbers_of}
use Rattle.pim_model.{specs.{Messages.entry, Upstream.{fact_keys, is_pruned_with_star, pruned_with_star, sources_of}}}
use Rattle.pim_wire.{specs.declared.join_prune.{Entry.Entry, EntryKind.EntryKind}}
use Rattle.pim_upstream.{proofs.Pruned.{first_of, passed_over, taken}}
use Rattle.pim_upstream.proofs.compound.pruned_with_star.Goals as goal

pub loop-source-init : goal.loop-source-init
unfolding pruned_with_star
loop-source-init c =
    let a = c.args.world.now in
    let g = c.args.star.now.group.bits in
    let first : ℕ → List ℕ → List Entry = first_of (entry EntryKind.SourceRpt) (is_pruned_with_star a g) in
    let all : numbers_of c.into_iter-source-iterator.result ≡ sources_of g (fact_keys a) = search rules in
    record {
      pruned = ap (λ es. es ++ first 160 (numbers_of c.into_iter-source-iterator.result)) c.new-pruned.ensures.items
          ∙ ap (first 160) all;
      counted = ap (λ (es : List Entry). length es + 160) c.new-pruned.ensures.items;
    }

pub loop-source-preserved-then-is_pruned : goal.loop-source-preserved-then-is_pruned
loop-source-preserved-then-is_pruned c =
    let a = c.args.world.now in
    let g = c.args.star.now.group.bits in
    let found = c.loop-source.pruned.items in
    let room = c.loop-source.room in
    let first : ℕ → List ℕ → List Entry = first_of (entry EntryKind.SourceRpt) (is_pruned_with_star a g) in
    let pruned : Entry = entry EntryKind.SourceRpt c.in-Some.source.now.bits in
    let ns = numbers_of c.loop-source.source-iterator in
    let left = numbers_of c.next.new.self in
    let one : suc (room - 1) ≡ room = omega (arith, c.if-room-eq0.false) in
    record {
      pruned = ap (λ es. es ++ first (room - 1) left) c.in_ok-push.ensures.items
          ∙ taken (entry EntryKind.SourceRpt) (is_pruned_with_star a g) (room - 1) ns left c.in-Some.source.now.bits
          (ap numbers_of c.in-Some.ensures.steps) (sym c.if-is_pruned.ensures) found
          ∙ ap (λ r. found ++ first r ns) one
          ∙ c.loop-source.invariant.pruned;
      counted = omega (
        arith,
        one,
        ap length c.in_ok-push.ensures.items,
        length_push found pruned,
        c.loop-source.invariant.counted,
      );
    }

pub loop-source-preserved : goal.loop-source-preserved
loop-source-preserved c =
    let a = c.args.world.now in
    let g = c.args.star.now.group.bits in
    let room = c.loop-source.room in
    let ns = numbers_of c.loop-source.source-iterator in
    let left = numbers_of c.next.new.self in
    let one : suc (room - 1) ≡ room = omega (arith, c.if-room-eq0.false) in
    record {
      pruned = ap (λ es. c.loop-source.pruned.items ++ es)
          (passed_over (entry EntryKind.SourceRpt) (is_pruned_with_star a g) room ns left c.in-Some.source.now.bits
          (ap numbers_of c.in-Some.ensures.steps) (sym c.if-is_pruned.ensures))
          ∙ c.loop-source.invariant.pruned;
      counted = c.loop-source.invariant.counted;
    }
