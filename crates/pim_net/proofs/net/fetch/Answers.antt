-- What the wire gives is the frame, where the wire gives what was sent.
use Rattle.std.{proofs.Common.{◌∙◌, Some, ap, sym}}
use Rattle.pim_net.{specs.declared.moves.Move.Move, proofs.{Carries.{no_packet, packet_on}, Stations.{if_some, of_some}}}
use Rattle.pim_net.proofs.net.fetch.Goals as goal

pub returns-in_default : goal.returns-in_default
returns-in_default g c = λ faithful. if_some c.args.network.now _ (λ n is.
    sym (no_packet n (Move.Deliver c.args.place.0 c.args.place.1 c.args.place.2 0)
    (of_some c.args.network.now _ n is c.in_default.ensures.none 0)))

pub returns : goal.returns
returns g c = λ faithful. if_some c.args.network.now _ (λ n is.
    ap (λ bytes. Some bytes) (c.in_ok-bytes.ensures.carried.is_same faithful)
    ∙ sym (packet_on n c.args.place.0 c.args.place.1 c.args.place.2 0 _
    (of_some c.args.network.now _ n is c.in-Some.ensures.some 0)))
