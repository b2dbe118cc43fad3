use Rattle.std.{specs.Prelude.IfSome, proofs.Common.{Option, subst, sym, true, ◌≡◌}}
use Rattle.pim_wire.{specs.RegisterParts.{registered_group, registered_source}}
use Rattle.pim_model.{specs.{Cache.cached, Sets.is_kept_alive}}
use Rattle.pim_mfc.{specs.{Kept.Kept, Laws.ShowsRows}}
use Rattle.pim_event.{specs.{AtRp.IsKnown, declared.rendezvous.SourceAtRp.SourceAtRp}}
use Rattle.pim_event.proofs.event.act_on_register.Goals as goal

pub known_source-requires : goal.known_source-requires
known_source-requires c =
    subst (λ (k : Kept). ShowsRows k.rows (cached c.args.core.now.world)) (sym c.mfc.ensures) c.requires.shown

pub act_on_known_source-requires-clause-known : goal.act_on_known_source-requires-clause-known
act_on_known_source-requires-clause-known c =
    subst (λ (o : Option SourceAtRp). IfSome o (IsKnown c.args.core.now.world c.args.packet c.args.register)) c.in-Some.is
    c.known_source.ensures.known

pub act_on_known_source-requires-clause-kept : goal.act_on_known_source-requires-clause-kept
act_on_known_source-requires-clause-kept c =
    subst (λ (o : Option SourceAtRp). IfSome o (λ source. is_kept_alive c.args.core.now.world
    (registered_group c.args.register) (registered_source c.args.register) ≡ true)) c.in-Some.is c.known_source.ensures.kept
