use Rattle.std.{proofs.Common.{◌≡◌, drop, fold, map}}
use Rattle.pim_bsr.{specs.Standing.own_taken}
use Rattle.pim_candidate.proofs.candidacy.hear.take_all.Given as goal

-- with the messages that are left all is taken
abbrev pub invariant-loop-message : goal.invariant-loop-message
invariant-loop-message l =
    fold (own_taken l.moment) l.listener (map (λ bytes. bytes.items) (drop l.message-index l.messages))
    ≡ fold (own_taken l.moment) l.fn.listener (map (λ bytes. bytes.items) l.messages)
