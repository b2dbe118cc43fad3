use Rattle.std.{proofs.Common.{◌≡◌, ◌++◌, drop, map}, specs.List.flat_map}
use Rattle.pim_bsr.{specs.Standing.own_sent}
use Rattle.pim_candidate.proofs.candidacy.hear.send_all.Given as goal

-- with the messages that are left all is sent
abbrev pub invariant-loop-message : goal.invariant-loop-message
invariant-loop-message g l =
    l.out.items ++ flat_map (own_sent (g.S.Surroundings.around l.around)) (map (λ bytes. bytes.items) (drop l.message-index l.messages))
    ≡ l.fn.out.items ++ flat_map (own_sent (g.S.Surroundings.around l.around)) (map (λ bytes. bytes.items) l.messages)
