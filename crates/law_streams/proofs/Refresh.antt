-- What is refreshed in time never ends: one lives by a holdtime, the other's timer sends again before it is over.
use Rattle.std.{proofs.Common.{ℕ, ◌+◌, ◌*◌, ◌<◌, ◌≤◌, List, [], ◌∷◌, ◌⊎◌, inl, inr, arith}}

-- `By` says that the receiver's time isn't past a timestamp, `Timer` that the sender's timer ends by it, `Holds` that
-- what was sent is held until it at least, and `Outlasts` that what is held so isn't over after a move.
module _ {N M : Type 0} (next : N → M → N) (hold d : ℕ) (By Timer Holds : ℕ → N → Type 0) (Outlasts : ℕ → N → M → Type 0) where
  -- what was sent at a time comes, and is held for the holdtime from then on, before the receiver's time is past d beyond
  abbrev pub Soon : ℕ → N → List M → Type 0
  Soon q n [] = Unit {0}
  Soon q n (m ∷ ms) =
      (Holds (q + hold) (next n m) × ((l : ℕ) → q + d < l → Outlasts l n m)) ⊎ (By (q + d) (next n m) × Soon q (next n m) ms)

  -- it was sent, by whomever, and the timer ends a rest later
  pub record Sent (x : ℕ) (n : N) (ms : List M) : Type 0 where
    pub at : ℕ
    pub rest : ℕ
    pub low : at ≤ x + d
    pub few : rest + 2 * d < hold
    pub comes : Holds (at + hold) n ⊎ Soon at n ms
    pub timer : Timer (at + rest) n

  pub record Turned (x : ℕ) (n : N) (ms : List M) : Type 0 where
    pub by : By (x + d) n
    pub turn : Timer x n ⊎ Sent x n ms

  -- at each move the timer, which is at most d late, stays, or it is sent
  abbrev pub Turns : N → List M → Type 0
  Turns n [] = Unit {0}
  Turns n (m ∷ ms) = ((x : ℕ) → Timer x n → Turned x (next n m) ms) × Turns (next n m) ms

  -- at each move what is held outlasts it, and is kept, while its end isn't reached
  abbrev pub Keeps : N → List M → Type 0
  Keeps n [] = Unit {0}
  Keeps n (m ∷ ms) =
      ((l y : ℕ) → y < l → By y (next n m) → Outlasts l n m × (Holds l n → Holds l (next n m))) × Keeps (next n m) ms

  pub record Held (n : N) : Type 0 where
    pub limit : ℕ
    pub holds : Holds limit n

  -- what is held isn't over after the move
  pub record Stays (n : N) (m : M) : Type 0 where
    pub held : Held n
    pub outlasts : Outlasts held.limit n m

  abbrev pub Ever : N → List M → Type 0
  Ever n [] = Held n
  Ever n (m ∷ ms) = Stays n m × Ever (next n m) ms

  pub ever_first : (ms : List M) (n : N) → Ever n ms → Held n
  ever_first [] n f = f
  ever_first (m ∷ ms) n f = (f.0).held

  -- ---- the proof

  pub record Last (limit : ℕ) (n : N) : Type 0 where
    pub end : ℕ
    pub timer : Timer end n
    pub soon : end + 2 * d < limit

  -- each that was sent comes before the one before it is over
  abbrev pub Chain : ℕ → N → List M → List ℕ → Type 0
  Chain limit n ms [] = Last limit n
  Chain limit n ms (q ∷ qs) = (q + d < limit) × Soon q n ms × Chain (q + hold) n ms qs

  module _ (n : N) (m : M) (ms : List M) (turns : (x : ℕ) → Timer x n → Turned x (next n m) ms) where
    abbrev after : N
    after = next n m

    record Passed (limit : ℕ) : Type 0 where
      outs : List ℕ
      chain : Chain limit after ms outs
      time : ℕ
      early : time < limit
      by : By time after

    record Jump : Type 0 where
      limit : ℕ
      holds : Holds limit after
      outs : List ℕ
      chain : Chain limit after ms outs

    less : (a b l : ℕ) → a ≤ b + d → b + 2 * d < l → a + d < l
    less a b l e f = omega (arith, e, f)

    under : (b l : ℕ) → b + 2 * d < l → b + d < l
    under b l f = omega (arith, f)

    again : (a r : ℕ) → r + 2 * d < hold → (a + r) + 2 * d < a + hold
    again a r f = omega (arith, f)

    last : (limit : ℕ) → Last limit n → Passed limit ⊎ Jump
    last limit f = go (turns f.end f.timer)
      where
        sent : By (f.end + d) after → (s : Sent f.end after ms) → Holds (s.at + hold) after ⊎ Soon s.at after ms → Passed limit ⊎ Jump
        sent by s (inl held) = inr (record {
          limit = s.at + hold;
          holds = held;
          outs = [];
          chain = record { end = s.at + s.rest; timer = s.timer; soon = again s.at s.rest s.few };
        })
        sent by s (inr soon) = inl (record {
          outs = s.at ∷ [];
          chain = (less s.at f.end limit s.low f.soon, soon, record { end = s.at + s.rest; timer = s.timer; soon = again s.at s.rest s.few });
          time = f.end + d;
          early = under f.end limit f.soon;
          by = by;
        })

        go : Turned f.end after ms → Passed limit ⊎ Jump
        go t = by_turn t.turn
          where
            by_turn : Timer f.end after ⊎ Sent f.end after ms → Passed limit ⊎ Jump
            by_turn (inl stays) = inl (record {
              outs = [];
              chain = record { end = f.end; timer = stays; soon = f.soon };
              time = f.end + d;
              early = under f.end limit f.soon;
              by = t.by;
            })
            by_turn (inr s) = sent t.by s s.comes

    pass : (limit : ℕ) (qs : List ℕ) → Chain limit n (m ∷ ms) qs → Passed limit ⊎ Jump
    pass limit [] f = last limit f
    pass limit (q ∷ qs) f = go f.1 (pass (q + hold) qs f.2)
      where
        go : (Holds (q + hold) after × ((l : ℕ) → q + d < l → Outlasts l n m)) ⊎ (By (q + d) after × Soon q after ms)
            → Passed (q + hold) ⊎ Jump → Passed limit ⊎ Jump
        go x (inr j) = inr j
        go (inl (held, outlasts)) (inl p) = inr (record { limit = q + hold; holds = held; outs = p.outs; chain = p.chain })
        go (inr (by, soon)) (inl p) = inl (record { outs = q ∷ p.outs; chain = (f.0, soon, p.chain); time = q + d; early = f.0; by = by })

    -- what is held to the limit outlasts the move
    module _ (by_time : (l y : ℕ) → y < l → By y after → Outlasts l n m × (Holds l n → Holds l after)) where
      outlasts : (limit : ℕ) (qs : List ℕ) → Chain limit n (m ∷ ms) qs → Outlasts limit n m
      outlasts limit [] f = (by_time limit (f.end + d) (under f.end limit f.soon) (turns f.end f.timer).by).0
      outlasts limit (q ∷ qs) f = go f.1
        where
          go : (Holds (q + hold) after × ((l : ℕ) → q + d < l → Outlasts l n m)) ⊎ (By (q + d) after × Soon q after ms)
              → Outlasts limit n m
          go (inl (held, so)) = so limit f.0
          go (inr (by, soon)) = (by_time limit (q + d) f.0 by).0

  pub all_moves : (ms : List M) (n : N) (limit : ℕ) → Holds limit n → (qs : List ℕ) → Chain limit n ms qs → Turns n ms → Keeps n ms
      → Ever n ms
  all_moves [] n limit holds qs chain turns keeps = record { limit = limit; holds = holds }
  all_moves (m ∷ ms) n limit holds qs chain turns keeps = (
    record { held = record { limit = limit; holds = holds }; outlasts = outlasts n m ms turns.0 keeps.0 limit qs chain },
    go (λ l h os c. all_moves ms (next n m) l h os c turns.1 keeps.1) (pass n m ms turns.0 limit qs chain),
  )
    where
      go : ((l : ℕ) → Holds l (next n m) → (os : List ℕ) → Chain l (next n m) ms os → Ever (next n m) ms)
          → Passed n m ms turns.0 limit ⊎ Jump n m ms turns.0 → Ever (next n m) ms
      go later (inl p) = later limit ((keeps.0 limit p.time p.early p.by).1 holds) p.outs p.chain
      go later (inr j) = later j.limit j.holds j.outs j.chain

  -- ---- it comes to be held

  -- the receiver's time isn't past a bound yet, or it holds it
  abbrev pub ByOrHeld : (bound : ℕ) → N → Type 0
  ByOrHeld bound n = By bound n ⊎ Held n

  abbrev pub EverAfter : (bound : ℕ) → N → List M → Type 0
  EverAfter bound n [] = Unit {0}
  EverAfter bound n (m ∷ ms) = ByOrHeld bound (next n m) × EverAfter bound (next n m) ms

  held_after : (bound : ℕ) (ms : List M) (n : N) → Ever n ms → EverAfter bound n ms
  held_after bound [] n f = tt
  held_after bound (m ∷ ms) n f = (inr (ever_first ms (next n m) f.1), held_after bound ms (next n m) f.1)

  module _ (bound : ℕ) (up : (n : N) (a : ℕ) → a ≤ bound → By a n → By bound n) where
    below : (x : ℕ) → x + 2 * d ≤ bound → x + d ≤ bound
    below x e = omega (arith, e)

    late_too : (q x : ℕ) → q ≤ x + d → x + 2 * d ≤ bound → q + d ≤ bound
    late_too q x e f = omega (arith, e, f)

    -- one was sent, and is under way
    waits : (ms : List M) (n : N) (q : ℕ) → q + d ≤ bound → Soon q n ms → (qs : List ℕ) → Chain (q + hold) n ms qs → Turns n ms → Keeps n ms
        → EverAfter bound n ms
    waits [] n q low soon qs chain turns keeps = tt
    waits (m ∷ ms) n q low soon qs chain turns keeps =
        go soon (pass n m ms turns.0 (q + hold) qs chain)
        (λ s os c. waits ms (next n m) q low s os c turns.1 keeps.1)
        (λ l h os c. all_moves ms (next n m) l h os c turns.1 keeps.1)
      where
        then_held : (l : ℕ) → Holds l (next n m) → Ever (next n m) ms → EverAfter bound n (m ∷ ms)
        then_held l h f = (inr (record { limit = l; holds = h }), held_after bound ms (next n m) f)

        go : (Holds (q + hold) (next n m) × ((l : ℕ) → q + d < l → Outlasts l n m)) ⊎ (By (q + d) (next n m) × Soon q (next n m) ms)
            → Passed n m ms turns.0 (q + hold) ⊎ Jump n m ms turns.0
            → (Soon q (next n m) ms → (os : List ℕ) → Chain (q + hold) (next n m) ms os → EverAfter bound (next n m) ms)
            → ((l : ℕ) → Holds l (next n m) → (os : List ℕ) → Chain l (next n m) ms os → Ever (next n m) ms)
            → EverAfter bound n (m ∷ ms)
        go x (inr j) more ever = then_held j.limit j.holds (ever j.limit j.holds j.outs j.chain)
        go (inl (held, so)) (inl p) more ever = then_held (q + hold) held (ever (q + hold) held p.outs p.chain)
        go (inr (by, s)) (inl p) more ever = (inl (up (next n m) (q + d) low by), more s p.outs p.chain)

    -- nothing was sent yet
    pub comes_to_hold : (ms : List M) (n : N) (x : ℕ) → x + 2 * d ≤ bound → Timer x n → Turns n ms → Keeps n ms → EverAfter bound n ms
    comes_to_hold [] n x low timer turns keeps = tt
    comes_to_hold (m ∷ ms) n x low timer turns keeps =
        go (turns.0 x timer) (λ t. comes_to_hold ms (next n m) x low t turns.1 keeps.1)
        (λ q l s os c. waits ms (next n m) q l s os c turns.1 keeps.1)
        (λ l h os c. all_moves ms (next n m) l h os c turns.1 keeps.1)
      where
        then_so : EverAfter bound (next n m) ms → By (x + d) (next n m) → EverAfter bound n (m ∷ ms)
        then_so f by = (inl (up (next n m) (x + d) (below x low) by), f)

        again_so : (a r : ℕ) → r + 2 * d < hold → (a + r) + 2 * d < a + hold
        again_so a r f = omega (arith, f)

        go : Turned x (next n m) ms → (Timer x (next n m) → EverAfter bound (next n m) ms)
            → ((q : ℕ) → q + d ≤ bound → Soon q (next n m) ms → (os : List ℕ) → Chain (q + hold) (next n m) ms os → EverAfter bound (next n m) ms)
            → ((l : ℕ) → Holds l (next n m) → (os : List ℕ) → Chain l (next n m) ms os → Ever (next n m) ms)
            → EverAfter bound n (m ∷ ms)
        go t stays sent held = by_turn t.turn
          where
            by_comes : (s : Sent x (next n m) ms) → Holds (s.at + hold) (next n m) ⊎ Soon s.at (next n m) ms → EverAfter bound n (m ∷ ms)
            by_comes s (inl h) = (
              inr (record { limit = s.at + hold; holds = h }),
              held_after bound ms (next n m) (held (s.at + hold) h []
                  (record { end = s.at + s.rest; timer = s.timer; soon = again_so s.at s.rest s.few })),
            )
            by_comes s (inr soon) =
                then_so (sent s.at (late_too s.at x s.low low) soon []
                (record { end = s.at + s.rest; timer = s.timer; soon = again_so s.at s.rest s.few })) t.by

            by_turn : Timer x (next n m) ⊎ Sent x (next n m) ms → EverAfter bound n (m ∷ ms)
            by_turn (inl e) = then_so (stays e) t.by
            by_turn (inr s) = by_comes s s.comes
