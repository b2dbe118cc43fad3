use Rattle.std.{proofs.Common.{Ok, ap, refl, sym, ◌≡◌, ◌<◌, ◌∙◌}}
use Rattle.pim_fanout.{specs.Refreshing.touches}
use Rattle.pim_model.{specs.{Judging.judged, State.interfaces_of, declared.accepted.Accepted.Accepted}}
use Rattle.pim_event.{proofs.{Caching.cache_after, Configured.data_below, Costs.{plain_cheap, untouched}, Hearing.{frame_brings, framed, heard_undecided, other_heard, plain_heard}, Instants.on_ok, Staying.plain_offers_stay, Disturbing.plain_disturbs_none, Listing.{once_alone, plain_event_names_none, unlisted}, Replacing.none_replaced, Plainly.{answered_by_row, plain_outcome, plain_rows, plain_state}, Taking.accepted_unsurely}, specs.Replacing.replaced_where}
use Rattle.pim_event.proofs.event.hear_packet.Goals as goal

pub returns-in-Plain-clause-steps : goal.returns-in-Plain-clause-steps
returns-in-Plain-clause-steps c =
    let s = c.args.core.now.world in
    let e = c.args.event.now in
    let k = c.args.core.now.cache in
    let p = c.in-Plain.packet in
    let f = c.in-Plain.forward in
    let r = c.take_plain.result in
    let is = plain_heard s k.mfc c.mfc-rows.result.now c.args.iface c.args.bytes.now c.args.meter.now c.hear.new.meter
    c.hear.result c.mfc-rows.ensures p f c.in-Plain.is c.hear.ensures in
    let heard : judged s e.kind ≡ Ok (Accepted.Data is.iface p) =
    framed s e.kind c.args.iface c.args.bytes.now c.requires.frame ∙ is.heard in
    let below : is.iface.number < 120 = data_below s e.kind is.iface p heard (interfaces_of s) refl c.requires.few in
    let answered = answered_by_row k.mfc s is.iface p c.requires.begun.shown below f _ refl is.decides in
    let stays = plain_state k.mfc s e is.iface p f c.requires.begun.rest heard answered r c.take_plain.new.world
    c.take_plain.ensures.state in
    record {
      outcome = plain_outcome k.mfc s e is.iface p f c.requires.begun.rest heard answered r c.take_plain.ensures.outcome;
      state = stays;
      cache = cache_after r s e c.take_plain.new.world k c.take_plain.new.meter
          (plain_rows k.mfc s e is.iface p f c.requires.begun.rest heard answered r c.take_plain.new.world k.mfc.rows
          c.take_plain.ensures.state c.requires.begun.shown)
          (plain_cheap r s c.requires.begun.rest e c.hear.new.meter c.take_plain.new.meter (touches k)
          c.take_plain.ensures.kept answered.known (is.cost c.requires.unvisited answered.row)
          (untouched (touches k) s e c.requires.begun.uncounted))
          (on_ok r
          (unlisted k.changed s e c.requires.begun.unlisted
          (plain_event_names_none s e is.iface p answered.how c.requires.begun.rest heard answered.known answered.answered)))
          (once_alone k.changed c.requires.begun.unlisted)
          (plain_disturbs_none s e is.iface p answered.how k.disturbed heard answered.known answered.answered
          c.requires.begun.undisturbed)
          (plain_offers_stay r s c.take_plain.new.world e p answered.how c.requires.begun.rest
          (record { iif = is.iface; heard = heard; known = answered.known; answered = answered.answered }) stays k.disturbed);
      replaced = on_ok r
          (none_replaced s e c.args.core.now.replaced (ap (replaced_where s) heard) c.requires.begun.unreplaced);
      fault = c.take_plain.ensures.fault;
    }

pub returns-in-Plain-clause-sure : goal.returns-in-Plain-clause-sure
returns-in-Plain-clause-sure c =
    let s = c.args.core.now.world in
    let kind = c.args.event.now.kind in
    let is = plain_heard s c.args.core.now.cache.mfc c.mfc-rows.result.now c.args.iface c.args.bytes.now c.args.meter.now
    c.hear.new.meter c.hear.result c.mfc-rows.ensures c.in-Plain.packet c.in-Plain.forward c.in-Plain.is c.hear.ensures in
    accepted_unsurely s c.args.event.now (judged s kind) (Accepted.Data is.iface c.in-Plain.packet) c.take_plain.result refl
    (framed s kind c.args.iface c.args.bytes.now c.requires.frame ∙ is.heard)

pub act_on_judgement-requires-clause-heard : goal.act_on_judgement-requires-clause-heard
act_on_judgement-requires-clause-heard c =
    let s = c.args.core.now.world in
    let is = other_heard s c.args.core.now.cache.mfc c.mfc-rows.result.now c.args.iface c.args.bytes.now c.args.meter.now
    c.hear.new.meter c.hear.result c.mfc-rows.ensures c.in-Other.judgement c.in-Other.is c.hear.ensures in
    sym (framed s c.args.event.now.kind c.args.iface c.args.bytes.now c.requires.frame ∙ is.heard)

pub act_on_judgement-requires-clause-table : goal.act_on_judgement-requires-clause-table
act_on_judgement-requires-clause-table c =
    let s = c.args.core.now.world in
    let is = other_heard s c.args.core.now.cache.mfc c.mfc-rows.result.now c.args.iface c.args.bytes.now c.args.meter.now
    c.hear.new.meter c.hear.result c.mfc-rows.ensures c.in-Other.judgement c.in-Other.is c.hear.ensures in
    frame_brings s c.args.event.now.kind c.args.iface c.args.bytes.now c.in-Other.judgement c.requires.frame
    (sym (framed s c.args.event.now.kind c.args.iface c.args.bytes.now c.requires.frame ∙ is.heard))

pub act_on_judgement-requires-clause-undecided : goal.act_on_judgement-requires-clause-undecided
act_on_judgement-requires-clause-undecided c =
    let s = c.args.core.now.world in
    let k = c.args.core.now.cache.mfc in
    let is = other_heard s k c.mfc-rows.result.now c.args.iface c.args.bytes.now c.args.meter.now c.hear.new.meter
    c.hear.result c.mfc-rows.ensures c.in-Other.judgement c.in-Other.is c.hear.ensures in
    heard_undecided s c.args.event.now c.requires.begun.rest k c.requires.begun.shown c.requires.few c.in-Other.judgement
    (sym (framed s c.args.event.now.kind c.args.iface c.args.bytes.now c.requires.frame ∙ is.heard)) is.undecided
