use Rattle.std.{proofs.{Common.{◌≡◌, ◌+◌, ◌++◌, [], ◌∷◌, ap, get_or, refl, subst, sym, take, ◌∙◌}, lemmas.List.{map-append, take_all, take_more}}}
use Rattle.pim_ip.{specs.Addr.addr}
use Rattle.pim_trie.{specs.Meter.raised}
use Rattle.law_events.{specs.Kept.{is_listed, refreshed}}
use Rattle.pim_mfc.{specs.Laws.ShowsRows}
use Rattle.pim_fanout.{specs.{Before.name_key, Named.keys_of, Refreshing.{touches, touches_in, touches_of}}, proofs.Counts.one_more}
use Rattle.pim_types.{specs.declared.name.SourceGroup.SourceGroup}
use Rattle.pim_state.{proofs.Visits.raised_by_none}
use Rattle.pim_fanout.proofs.cache.Cache.refresh_rows.Goals as goal

pub loop-name-init : goal.loop-name-init
unfolding refreshed is_listed
loop-name-init g c = record {
  shown = λ cache shows. shows;
  few = sym (raised_by_none (touches c.args.self.now));
  listed = (refl, refl);
}

pub loop-name-preserved : goal.loop-name-preserved
loop-name-preserved g c =
    let s = g.W.Evaluates.state c.args.world.now in
    let names = c.args.names.now in
    let i = c.loop-name.name-index in
    let none : SourceGroup = record { group = addr 0; source = addr 0 } in
    let more : keys_of (take (i + 1) names) ≡ keys_of (take i names) ++ name_key (get_or names i none) ∷ [] =
    ap keys_of (take_more names i none c.loop-name-test.true) ∙ map-append name_key (take i names) (get_or names i none ∷ []) in
    record {
      shown = λ cache shows.
          subst (λ ks. ShowsRows (c.refresh_one.new.self.mfc).rows (refreshed ks s cache))
          (sym more)
          (c.in_ok-refresh_one.ensures.shown (keys_of (take i names)) cache (c.loop-name.invariant.shown cache shows));
      few = one_more (touches_of s) (keys_of (take i names)) _ (name_key (get_or names i none)) (touches c.args.self.now)
          (touches c.loop-name.self) (touches c.refresh_one.new.self) more c.loop-name.invariant.few
          c.in_ok-refresh_one.ensures.few;
      listed = (
        c.in_ok-refresh_one.ensures.listed.0 ∙ c.loop-name.invariant.listed.0,
        c.in_ok-refresh_one.ensures.listed.1 ∙ c.loop-name.invariant.listed.1,
      );
    }

pub returns-clause-few : goal.returns-clause-few
returns-clause-few g c =
    subst (λ ns. touches c.loop-name.self ≡ raised (touches c.args.self.now) (touches_in (g.W.Evaluates.state c.args.world.now) (keys_of ns)))
    (take_all c.loop-name.name-index c.args.names.now c.loop-name-test.false) c.loop-name.invariant.few
