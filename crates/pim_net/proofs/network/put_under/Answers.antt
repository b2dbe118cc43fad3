use Rattle.std.{proofs.Common.{◌≡◌, ◌∙◌, Some, ap, refl, subst, sym}, specs.Prelude.{IfOk, IfSome, OnOk}}
use Rattle.pim_net.{specs.{Reloading.{put_by, refused_as}, Showing.node_of}, proofs.{Reloads.{few_links, kept_by, linked, not_both, same_refusal, tested_some, unlinked}, Stations.{if_some, of_err, of_ok, of_some}}}
use Rattle.pim_net.proofs.network.put_under.Goals as goal

pub returns-then-not-is_linked-clause-done : goal.returns-then-not-is_linked-clause-done
returns-then-not-is_linked-clause-done c =
    if_some c.args.station.now _ (λ s is tested. not_both _ _ _ tested
    (unlinked c.args.renewal.places s.state (node_of c.args.renewal.node) (sym c.if-not-is_linked.ensures)))

pub returns-then-not-is_linked-clause-state : goal.returns-then-not-is_linked-clause-state
returns-then-not-is_linked-clause-state c =
    if_some c.args.station.now _ (λ s is tested. not_both _ _ _ tested
    (unlinked c.args.renewal.places s.state (node_of c.args.renewal.node) (sym c.if-not-is_linked.ensures)))

pub returns-then-not-is_linked-clause-frames : goal.returns-then-not-is_linked-clause-frames
returns-then-not-is_linked-clause-frames c =
    if_some c.args.station.now _ (λ s is tested. not_both _ _ _ tested
    (unlinked c.args.renewal.places s.state (node_of c.args.renewal.node) (sym c.if-not-is_linked.ensures)))

pub returns-then-not-is_linked-clause-refused : goal.returns-then-not-is_linked-clause-refused
returns-then-not-is_linked-clause-refused c = if_some c.args.station.now _ (λ s is refusal tested. (
  c.refused.ensures
      ∙ ap refused_as (same_refusal _ _ _ (unlinked c.args.renewal.places s.state (node_of c.args.renewal.node) (sym c.if-not-is_linked.ensures)) tested),
  refl,
  refl,
))

pub relink-requires : goal.relink-requires
relink-requires c =
    let passes = of_ok c.in_ok-sent.field-0 _ c.in-Ok.sent c.in-Ok.is c.in_ok-sent.ensures.accepted in
    record { few = few_links (node_of c.args.renewal.node) (sym c.if-not-is_linked.ensures) passes }

pub returns-in-Ok-clause-frames : goal.returns-in-Ok-clause-frames
returns-in-Ok-clause-frames c =
    tested_some c.args.station.now _ _
    (kept_by c.args.station.now c.reload.new.self c.args.renewal.places c.args.renewal.node.config c.args.draw c.in-Ok.sent.items c.deref.result.now
    c.args.frames.now.items c.keep.new.frames.items
    (subst (λ r. IfSome c.args.station.now (λ s. OnOk r (c.reload.new.self
    ≡ Some (record s { state = (put_by c.args.renewal.places s.state c.args.renewal.node.config c.args.draw).0 })))) c.in-Ok.is
    (rw c.as_slice.ensures at c.in_ok-sent.ensures.state))
    (subst (λ r. IfSome c.args.station.now (λ s. IfOk r (λ sent. sent.items
    ≡ (put_by c.args.renewal.places s.state c.args.renewal.node.config c.args.draw).1))) c.in-Ok.is
    (rw c.as_slice.ensures at c.in_ok-sent.ensures.sent))
    c.deref.ensures.value c.in_ok-keep-in-Ok.ensures.kept)

pub returns-in-Ok-clause-refused : goal.returns-in-Ok-clause-refused
returns-in-Ok-clause-refused c = if_some c.args.station.now _ (λ s is refusal tested.
    let told = of_some c.args.station.now _ s is (rw c.as_slice.ensures at c.in_ok-sent.ensures.tested) in
    let passes = of_ok c.in_ok-sent.field-0 _ c.in-Ok.sent c.in-Ok.is told in
    not_both _ refusal _ (linked c.args.renewal.places s.state (node_of c.args.renewal.node) (sym c.if-not-is_linked.ensures) ∙ passes) tested)

pub returns-clause-done : goal.returns-clause-done
returns-clause-done c = if_some c.args.station.now _ (λ s is tested.
    let told = of_some c.args.station.now _ s is (rw c.as_slice.ensures at c.in_ok-sent.ensures.refused) in
    let refused = of_err c.in_ok-sent.field-0 _ c.in-Err.refusal c.in-Err.is told in
    not_both _ _ _ tested (linked c.args.renewal.places s.state (node_of c.args.renewal.node) (sym c.if-not-is_linked.ensures) ∙ refused.0))

pub returns-clause-state : goal.returns-clause-state
returns-clause-state c = if_some c.args.station.now _ (λ s is tested.
    let told = of_some c.args.station.now _ s is (rw c.as_slice.ensures at c.in_ok-sent.ensures.refused) in
    let refused = of_err c.in_ok-sent.field-0 _ c.in-Err.refusal c.in-Err.is told in
    not_both _ _ _ tested (linked c.args.renewal.places s.state (node_of c.args.renewal.node) (sym c.if-not-is_linked.ensures) ∙ refused.0))

pub returns-clause-frames : goal.returns-clause-frames
returns-clause-frames c = if_some c.args.station.now _ (λ s is tested.
    let told = of_some c.args.station.now _ s is (rw c.as_slice.ensures at c.in_ok-sent.ensures.refused) in
    let refused = of_err c.in_ok-sent.field-0 _ c.in-Err.refusal c.in-Err.is told in
    not_both _ _ _ tested (linked c.args.renewal.places s.state (node_of c.args.renewal.node) (sym c.if-not-is_linked.ensures) ∙ refused.0))

pub returns-clause-refused : goal.returns-clause-refused
returns-clause-refused c = if_some c.args.station.now _ (λ s is refusal tested.
    let told = of_some c.args.station.now _ s is (rw c.as_slice.ensures at c.in_ok-sent.ensures.refused) in
    let refused = of_err c.in_ok-sent.field-0 _ c.in-Err.refusal c.in-Err.is told in
    let fails = linked c.args.renewal.places s.state (node_of c.args.renewal.node) (sym c.if-not-is_linked.ensures) ∙ refused.0 in
    (c.refused-in-Err.ensures ∙ ap refused_as (same_refusal _ _ _ fails tested), refused.1, refl))
