use Rattle.std.{proofs.Common.{◌≡◌, ◌+◌, ◌∙◌}}
use Rattle.pim_ifset.{specs.Members.mask_of}
use Rattle.pim_c.{proofs.Bits.{low_agreed, high_agreed, shown_agrees}}
use Rattle.pim_c.proofs.returned.words.Goals as goal

pub returns-clause-below : goal.returns-clause-below
returns-clause-below c p agrees =
    let low : c.word.result ≡ mask_of p 64 = c.word.ensures ∙ low_agreed c.args.set p agrees in
    let high : c.word-2.result ≡ mask_of (λ q. p (64 + q)) 56 = c.word-2.ensures ∙ high_agreed c.args.set p agrees in
    λ i. record { low = low i; high = high i }

pub returns-clause-shown : goal.returns-clause-shown
returns-clause-shown c p shows = returns-clause-below c p (shown_agrees c.args.set p shows)
