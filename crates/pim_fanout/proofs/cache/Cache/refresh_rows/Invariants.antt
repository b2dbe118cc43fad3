use Rattle.std.{proofs.Common.{◌≡◌, take}}
use Rattle.pim_trie.{specs.Meter.raised}
use Rattle.pim_fanout.{specs.{Refreshing.{Refreshes, touches, touches_in}, Named.keys_of}}
use Rattle.pim_fanout.proofs.cache.Cache.refresh_rows.Given as goal

abbrev pub invariant-loop-name : goal.invariant-loop-name
invariant-loop-name g l = record {
  shown : Refreshes (keys_of (take l.name-index l.names)) (g.W.Evaluates.state l.world) (l.fn.self.mfc).rows (l.self.mfc).rows;
  few : touches l.self ≡ raised (touches l.fn.self) (touches_in (g.W.Evaluates.state l.world) (keys_of (take l.name-index l.names)));
  listed : (l.self.changed ≡ l.fn.self.changed) × (l.self.disturbed ≡ l.fn.self.disturbed);
}
