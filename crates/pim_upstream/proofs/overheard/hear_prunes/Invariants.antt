use Rattle.std.{proofs.Common.{◌≡◌, take}}
use Rattle.pim_types.{specs.declared.fact.Key.Key}
use Rattle.pim_model.{specs.Downstream.is_named}
use Rattle.pim_upstream.{proofs.Absorbed.HeardOnce}
use Rattle.pim_upstream.proofs.overheard.hear_prunes.Given as goal

abbrev pub invariant-loop-key : goal.invariant-loop-key
invariant-loop-key l = record {
  heard : HeardOnce l.world l.hop l.end l.world l.fn.moves.items (take l.key-index l.keys) l.heard.keys l.moves.items;
  named : (q : Key) → is_named l.heard.keys q ≡ is_named (take l.key-index l.keys) q;
}
