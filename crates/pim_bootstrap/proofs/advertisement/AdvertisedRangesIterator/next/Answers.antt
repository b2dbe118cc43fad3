use Rattle.std.{proofs.Common.{◌≡◌, ◌<◌, ℕ, Bool, ◌+◌, ◌-◌, List, ◌∷◌, length, sym, ap, ◌∙◌, arith, rules}}
use Rattle.pim_bootstrap.{specs.{declared.advertisement.AdvertisedRange.AdvertisedRange, Advertisements.{advertised_at, all_advertised_at, all_before}}, proofs.Advertised.{advertised_at_more, advertised_at_none}}
use Rattle.pim_bootstrap.proofs.advertisement.AdvertisedRangesIterator.next.Goals as goal

pub returns-then-self-eq0-clause-steps : goal.returns-then-self-eq0-clause-steps
returns-then-self-eq0-clause-steps c =
    let s = c.self.inside in
    let none : s.left ≡ 0 = omega arith in
    let empty =
    sym c.self.view_is ∙ ap (λ (b : Bool). all_before b (all_advertised_at s.message.now s.place s.left)) c.if-self.false
    ∙ ap (λ (n : ℕ). all_advertised_at s.message.now s.place n) none
    ∙ advertised_at_none s.message.now s.place in
    (empty, empty)

pub returns-clause-steps : goal.returns-clause-steps
returns-clause-steps c =
    let s = c.self.inside in
    let rest : List AdvertisedRange = all_advertised_at s.message.now (s.place + 8) (s.left - 1) in
    sym c.self.view_is ∙ ap (λ (b : Bool). all_before b (all_advertised_at s.message.now s.place s.left)) c.if-self.false
    ∙ advertised_at_more s.message.now s.place s.left (omega arith)
    ∙ ap (λ (x : AdvertisedRange). x ∷ rest) (sym c.advertised_at-range.ensures)
    ∙ ap (λ (b : Bool). c.advertised_at-range.result ∷ all_before b rest) (sym c.if-self.false)

pub returns-clause-goes : goal.returns-clause-goes
returns-clause-goes c =
    let s = c.self.inside in
    let rest : List AdvertisedRange = all_advertised_at s.message.now (s.place + 8) (s.left - 1) in
    let is =
    sym c.self.view_is ∙ ap (λ (b : Bool). all_before b (all_advertised_at s.message.now s.place s.left)) c.if-self.false
    ∙ advertised_at_more s.message.now s.place s.left (omega arith)
    ∙ ap (λ (b : Bool). advertised_at s.message.now s.place ∷ all_before b rest) (sym c.if-self.false) in
    let shorter : length (all_before s.all rest) < length c.args.self.now = rw is (omega arith) in
    search (rules, shorter)
