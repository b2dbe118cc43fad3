use Rattle.std.{proofs.{Common.{arith, nat_lt, rules}, lemmas.Map.Made.filter_same_pairs}}
use Rattle.pim_types.{specs.{Keys.iface_in, declared.fact.Key.Key}}
use Rattle.igmp_older.{specs.{Resized.resized, declared.mode.PresentRow.PresentRow}, proofs.{LeftRows.left_same, Quieted.quiet_filter}}
use Rattle.igmp_older.proofs.presence.Presence.resize.Goals as goal

pub invariant_of-self-2 : goal.invariant_of-self-2
invariant_of-self-2 c = (
  omega (arith, c.len.ensures.len, c.max-self-inside.ensures),
  quiet_filter c.self.inside.quiet (λ (e : Key × PresentRow). nat_lt (iface_in e.0) c.args.count) c.self.inside.rows.entries _
      (filter_same_pairs _ (λ (e : Key × PresentRow). nat_lt (iface_in e.0) c.args.count) _ (λ k v b w f' t. search rules) _ _ c.retain.ensures.filtered)
      (c.self.invariant).1,
)

pub returns : goal.returns
unfolding resized
returns c = rw (← c.self.view_is)
    (left_same _ _ c.args.limit _ _ _ _
    (filter_same_pairs _ (λ (e : Key × PresentRow). nat_lt (iface_in e.0) c.args.count) _ (λ k v b w f' t. search rules) _ _ c.retain.ensures.filtered)
    c.max-self-inside.ensures c.len.ensures.len c.in_ok-resize_settings.ensures)
