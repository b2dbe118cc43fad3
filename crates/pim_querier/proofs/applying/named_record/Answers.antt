use Rattle.std.{proofs.Common.{◌≡◌, ℕ, ap, subst, sym, ◌∙◌}, specs.Prelude.if◌then◌else◌}
use Rattle.pim_filters.{specs.Members.{IsAscending, member_entries}}
use Rattle.pim_model.{specs.{Querier.group_end, Records.{Absent, source_state_in, record_of}, Tables.is_among}}
use Rattle.pim_types.{specs.Keys.addr_cmp}
use Rattle.igmp_wire.{specs.Written.bits_of}
use Rattle.pim_querier.{specs.Reports.{known_members, record_named}, proofs.{NamedRecords.{gathered_fares, made_so}, NamedSet.{set_among, set_ascends}}}
use Rattle.pim_querier.proofs.applying.named_record.Goals as goal

pub returns-clause-timer : goal.returns-clause-timer
returns-clause-timer c =
    made_so (λ known. known.timer ≡ group_end c.args.world.now c.args.place.iface.number c.args.place.group.bits) c.with.result _
    c.with.ensures c.group_end.ensures

pub returns-clause-ascending : goal.returns-clause-ascending
returns-clause-ascending c =
    made_so (λ known. IsAscending known.members) c.with.result _ c.with.ensures
    (subst (λ ms. IsAscending (member_entries ms)) (sym c.deref.ensures.value) c.in_ok-members.ensures.ascending)

pub returns-clause-source_states : goal.returns-clause-source_states
returns-clause-source_states c =
    made_so (λ known. (src : ℕ) → source_state_in known src ≡ (if is_among src (bits_of c.args.sources.now)
    then source_state_in (record_of c.args.world.now c.args.place.iface.number c.args.place.group.bits) src else Absent))
    c.with.result _ c.with.ensures
    (gathered_fares c.args.world.now c.args.place.iface.number c.args.place.group.bits (bits_of c.in_ok-named.named.keys)
    (bits_of c.args.sources.now) _ (rw c.membership.ensures at c.proof_keyed_source_records.ensures)
    (set_among c.in_ok-named.named.keys c.args.sources.now c.in_ok-named.ensures)
    (ap (λ ms. member_entries ms) c.deref.ensures.value ∙ c.in_ok-members.ensures.members))

pub returns-clause-named : goal.returns-clause-named
unfolding record_named addr_cmp
returns-clause-named c =
    let s = c.args.world.now in
    let i = c.args.place.iface.number in
    let g = c.args.place.group.bits in
    made_so (λ known. known ≡ record_named s i g (bits_of c.args.sources.now)) c.with.result _ c.with.ensures
    (λ j. record {
      timer = c.group_end.ensures j;
      members = (ap (λ ms. member_entries ms) c.deref.ensures.value ∙ c.in_ok-members.ensures.members
          ∙ ap (known_members i g s.source_records)
          (set_ascends c.in_ok-named.named.keys c.args.sources.now c.len.ensures.ordered c.in_ok-named.ensures)) j;
    })
