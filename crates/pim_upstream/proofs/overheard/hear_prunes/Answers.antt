use Rattle.std.{proofs.{Common.{[], ap, refl, subst, sym, ◌≡◌, ◌∙◌, not, ◌++◌, ◌+◌, take, Bool, true, false}, lemmas.List.take_all}, specs.Prelude.List}
use Rattle.pim_types.{specs.{declared.fact.Key.Key, Keys.{addr_cmp, key_cmp}}}
use Rattle.pim_model.{specs.Downstream.is_named}
use Rattle.pim_upstream.{specs.{Hearing.heard_in_prunes, Timers.after_moves}, proofs.{Absorbed.{HeardOnce, heard_again, heard_first, none_heard}, overheard.hear_prunes.Goals.{then-branch+in_ok-hear_prune, else-branch}}}
use Rattle.pim_downstream.{proofs.NamedSets.next_named}
use Rattle.pim_upstream.proofs.overheard.hear_prunes.Goals as goal

-- what isn't added was there
was_there : (added there : Bool) → added ≡ not there → added ≡ false → there ≡ true
was_there added true is e = refl
was_there added false is e = cc

pub loop-key-init : goal.loop-key-init
loop-key-init c = record {
  heard =
      subst (λ (set : List Key). HeardOnce c.args.world.now c.args.hop c.args.end c.args.world.now c.args.moves.now.items [] set
      c.args.moves.now.items) (sym c.new-heard.ensures.empty)
      (none_heard c.args.world.now c.args.hop c.args.end c.args.world.now c.args.moves.now.items c.args.moves.now.items refl);
  named = λ q. ap (λ (set : List Key). is_named set q) c.new-heard.ensures.empty;
}

pub loop-key-preserved : goal.loop-key-preserved
unfolding key_cmp addr_cmp is_named
loop-key-preserved c =
    let o = c.args.world.now in
    let keys = c.args.keys.now in
    let n = c.loop-key.key-index in
    elim c.if-branch.branch [
      | then-branch+in_ok-hear_prune w ↦ record {
        heard =
            heard_first o c.args.hop c.args.end o c.args.moves.now.items keys c.loop-key.heard.keys
            c.insert.new.self.keys c.loop-key.moves.items n _ _ c.loop-key-test.true refl c.loop-key.invariant.heard
            c.in_ok-insert.ensures.updates.0 c.if-branch.moves.items
            (ap (λ m. m.items) w.moves-is ∙ w.in_ok-hear_prune.ensures);
        named = next_named keys c.loop-key.heard.keys c.insert.new.self.keys n _ _ c.loop-key-test.true refl
            c.in_ok-insert.ensures.updates.0 c.loop-key.invariant.named;
      }
      | else-branch w ↦ record {
        heard =
            subst (λ ms. HeardOnce o c.args.hop c.args.end o c.args.moves.now.items (take (n + 1) keys)
            c.insert.new.self.keys ms) (sym (ap (λ m. m.items) w.moves-is))
            (heard_again o c.args.hop c.args.end o c.args.moves.now.items keys c.loop-key.heard.keys
            c.insert.new.self.keys c.loop-key.moves.items n _ _ c.loop-key-test.true refl c.loop-key.invariant.heard
            c.in_ok-insert.ensures.updates.0
            (was_there _ _ c.in_ok-insert.ensures.added w.if-branch.false));
        named = next_named keys c.loop-key.heard.keys c.insert.new.self.keys n _ _ c.loop-key-test.true refl
            c.in_ok-insert.ensures.updates.0 c.loop-key.invariant.named;
      }
    ]

pub returns-clause-heard : goal.returns-clause-heard
returns-clause-heard c =
    c.loop-key.invariant.heard.same
    ∙ ap (λ keys. after_moves c.args.world.now (c.args.moves.now.items ++ heard_in_prunes c.args.world.now c.args.hop c.args.end keys))
    (take_all c.loop-key.key-index c.args.keys.now c.loop-key-test.false)
