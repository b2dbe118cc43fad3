use Rattle.std.{specs.Box.box_value, proofs.Common.{◌≡◌, Box, Global, subst, sym}}
use Rattle.pim_ip.{specs.Ipv4.Packet}
use Rattle.pim_types.{specs.declared.config.IfaceId.IfaceId}
use Rattle.pim_macros.{specs.{Sights.IsSourceSight, declared.sight.SourceSight.SourceSight}}
use Rattle.pim_model.{specs.State.State}
use Rattle.pim_plan.{specs.{Acting.{HasRead, IsSightOf}, declared.act.Act.Act}}
use Rattle.pim_event.proofs.event.planned_sight.Goals as goal

sight_read : (s : State) (act : Act) (i : IfaceId) (p : Packet) (sight : Box SourceSight Global)
    → act ≡ Act.Data i p sight → HasRead s act → IsSourceSight s (box_value sight)
sight_read s act i p sight is read =
    let known : IsSightOf s p.destination p.source (box_value sight) = subst (λ (a : Act). HasRead s a) is read in known.shown

pub returns-in-Data : goal.returns-in-Data
returns-in-Data c s read =
    subst (λ (x : SourceSight). IsSourceSight s x) (sym c.deref.ensures) (sight_read s c.args.act.now _ _ _ c.in-Data.is read)
