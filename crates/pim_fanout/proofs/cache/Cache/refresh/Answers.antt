use Rattle.std.{proofs.{Common.{◌≡◌, List, ap, ◌∙◌}, lemmas.Result.on_ok_weaker}}
use Rattle.pim_trie.{specs.Meter.raised}
use Rattle.pim_fanout.{specs.{Named.keys_of, Refreshing.{touches, touches_in}}, proofs.Counts.none_counted}
use Rattle.pim_types.{specs.declared.name.SourceGroup.SourceGroup}
use Rattle.pim_fanout.proofs.cache.Cache.refresh.Goals as goal

pub list-requires : goal.list-requires
list-requires g c = λ none.
    c.into_vec.ensures
    ∙ none_counted (g.W.Evaluates.state c.args.world.now) c.args.names (touches c.args.self.now) (touches c.refresh_rows.new.self) none
    (c.in_ok-refresh_rows.ensures.few
    ∙ ap (λ (ns : List SourceGroup). raised (touches c.args.self.now) (touches_in (g.W.Evaluates.state c.args.world.now) (keys_of ns)))
    c.as_slice.ensures)

pub returns-clause-few : goal.returns-clause-few
unfolding touches
returns-clause-few g c =
    let same : touches c.list.new.self ≡ touches c.refresh_rows.new.self =
    λ j. raised (c.list.ensures.kept.0 j).changes (c.list.ensures.kept.1 j) in
    on_ok_weaker c.list.result
    (λ e. same ∙ (c.in_ok-refresh_rows.ensures.few
    ∙ ap (λ (ns : List SourceGroup). raised (touches c.args.self.now) (touches_in (g.W.Evaluates.state c.args.world.now) (keys_of ns)))
    c.as_slice.ensures)) c.list.ensures.changed
