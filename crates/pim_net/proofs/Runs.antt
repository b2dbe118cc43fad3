-- Moves, one after the other.
use Rattle.std.{proofs.{Common.{◌≡◌, ◌∙◌, ◌≤◌, ◌<◌, ◌+◌, ℕ, suc, zero, Bool, true, List, [], ◌∷◌, ◌++◌, length, map, take, Option, Some, refl, sym, subst, ap, arith, get_or, add-one}, Math.Seq.take-suc, lemmas.Option.slice_get_read}, specs.Prelude.{IfSome, IsSome, option_and_then}}
use Rattle.pim_types.{specs.declared.outcome.Outcome.Outcome}
use Rattle.pim_model.{specs.Network.{Network, network_ran}}
use Rattle.pim_net.{specs.{Carried.{AreMoves, HasMoved, IsMove, IsPartWay, MovesTo, carried_packet}, Showing.move_of, declared.moves.Move.Move}, proofs.{Carries.is_written, Stations.of_some}}

taken : (ms : List Move) (i : ℕ) (m : Move) → i < length ms → m ≡ get_or ms i m → take (i + 1) ms ≡ take i ms ++ m ∷ []
taken ms i m lt is =
    ap (λ (n : ℕ). take n ms) (add-one i) ∙ take-suc ms i m lt
    ∙ ap (λ (x : Move). take i ms ++ x ∷ []) (sym is)

take_all : (ms : List Move) (i : ℕ) → length ms ≤ i → take i ms ≡ ms
take_all [] zero le = refl
take_all [] (suc i) le = refl
take_all (x ∷ ms) zero le = absurd (omega (arith, le))
take_all (x ∷ ms) (suc i) le = ap (λ l. x ∷ l) (take_all ms i (omega (arith, le)))

module _ {W : Type 0} (is_faithful : Bool) (sends : W → ℕ → List ℕ → W → Type 0) (gives : W → ℕ → ℕ → List ℕ → W → Type 0)
    (ports : List ℕ) where
  -- over a wire that gives what was sent the moves are the written ones
  are_written : (n : Network) (before : W) (ms : List Move) (os : List Outcome) (last : Network) (after : W)
      → is_faithful ≡ true → AreMoves is_faithful sends gives ports n before ms os last after
      → (os, last) ≡ network_ran n (map move_of ms)
  unfolding AreMoves network_ran
  are_written n before [] [] last after f done = ap (λ (x : Network). ([], x)) done.0
  are_written n before [] (o ∷ os) last after f done = absurd done
  are_written n before (m ∷ ms) [] last after f done = absurd done
  are_written n before (m ∷ ms) (o ∷ os) last after f done =
      ap (λ (r : List Outcome × Network). (o ∷ r.0, r.1)) (are_written done.network done.wire ms os last after f done.later)
      ∙ ap (λ (p : Outcome × Network). (p.0 ∷ (network_ran p.1 (map move_of ms)).0, (network_ran p.1 (map move_of ms)).1))
      (is_written is_faithful sends gives ports n before m o done.network done.wire f done.first)

  -- one move more
  snoc : (n : Network) (before : W) (ms : List Move) (os : List Outcome) (mid : Network) (between : W) (m : Move) (o : Outcome)
      (last : Network) (after : W) → AreMoves is_faithful sends gives ports n before ms os mid between
      → IsMove is_faithful sends gives ports mid between m o last after
      → AreMoves is_faithful sends gives ports n before (ms ++ m ∷ []) (os ++ o ∷ []) last after
  unfolding AreMoves
  snoc n before [] [] mid between m o last after done move =
      record {
        network = last;
        wire = after;
        first = subst (λ (x : Network). IsMove is_faithful sends gives ports x before m o last after) done.0
            (subst (λ (x : W). IsMove is_faithful sends gives ports mid x m o last after) done.1 move);
        later = (refl, refl);
      }
  snoc n before [] (x ∷ os) mid between m o last after done move = absurd done
  snoc n before (y ∷ ms) [] mid between m o last after done move = absurd done
  snoc n before (y ∷ ms) (x ∷ os) mid between m o last after done move =
      record {
        network = done.network;
        wire = done.wire;
        first = done.first;
        later = snoc done.network done.wire ms os mid between m o last after done.later move;
      }

  pub runs_first : (n : Network) (wire : W) (ms : List Move) (now : Option Network) (told : List Outcome)
      → now ≡ Some n → told ≡ [] → HasMoved is_faithful sends gives ports n wire (take 0 ms) told now wire
  unfolding AreMoves
  runs_first n wire ms now told is none =
      record {
        network = n;
        is = is;
        moves = subst (λ (os : List Outcome). AreMoves is_faithful sends gives ports n wire [] os n wire) (sym none) (refl, refl);
      }

  ran_is : (n : Network) (before : W) (ms : List Move) (os : List Outcome) (last : Option Network) (after : W)
      → is_faithful ≡ true → HasMoved is_faithful sends gives ports n before ms os last after
      → (os ≡ (network_ran n (map move_of ms)).0) × (last ≡ Some (network_ran n (map move_of ms)).1)
  ran_is n before ms os last after f has =
      let same : (os, has.network) ≡ network_ran n (map move_of ms) =
      are_written n before ms os has.network after f has.moves in (
        ap (λ (r : List Outcome × Network). r.0) same,
        has.is ∙ ap (λ (r : List Outcome × Network). Some r.1) same,
      )

  module _ (first : Network) (before : W) (moves : List Move) (i : ℕ) (now : Option Network) (told : List Outcome) (wire : W)
      (runs : HasMoved is_faithful sends gives ports first before (take i moves) told now wire) where
    pub runs_next : (m : Move) (o : Outcome) (next : Option Network) (more : List Outcome) (after : W) → i < length moves
        → m ≡ get_or moves i m → IfSome now (λ n. MovesTo is_faithful sends gives ports n wire m o next after)
        → more ≡ told ++ o ∷ [] → HasMoved is_faithful sends gives ports first before (take (i + 1) moves) more next after
    runs_next m o next more after lt is done pushed =
        let move : MovesTo is_faithful sends gives ports runs.network wire m o next after =
        of_some now (λ n. MovesTo is_faithful sends gives ports n wire m o next after) runs.network runs.is done in
        record {
          network = move.network;
          is = move.is;
          moves = subst (λ (ms : List Move). AreMoves is_faithful sends gives ports first before ms more move.network after)
              (sym (taken moves i m lt is))
              (subst (λ (os : List Outcome). AreMoves is_faithful sends gives ports first before (take i moves ++ m ∷ []) os move.network after)
              (sym pushed)
              (snoc first before (take i moves) told runs.network wire m o move.network after runs.moves move.move));
        }

    pub runs_end : length moves ≤ i → HasMoved is_faithful sends gives ports first before moves told now wire
    runs_end le =
        subst (λ (ms : List Move). HasMoved is_faithful sends gives ports first before ms told now wire)
        (take_all moves i le) runs

    pub runs_written : length moves ≤ i → is_faithful ≡ true
        → (told ≡ (network_ran first (map move_of moves)).0) × (now ≡ Some (network_ran first (map move_of moves)).1)
    runs_written le f = ran_is first before moves told now wire f (runs_end le)

    pub stops_part_way : (m : Move) (after : Option Network) → i < length moves → m ≡ get_or moves i m
        → IfSome now (λ n. (after ≡ Some n) × IsSome (carried_packet n m))
        → IsPartWay is_faithful sends gives ports first before moves after
    stops_part_way m after lt is kept =
        let left : (after ≡ Some runs.network) × IsSome (carried_packet runs.network m) =
        of_some now (λ n. (after ≡ Some n) × IsSome (carried_packet n m)) runs.network runs.is kept in
        record {
          count = i;
          below = lt;
          outcomes = told;
          wire = wire;
          done = record { network = runs.network; is = left.0; moves = runs.moves };
          next = subst (λ (x : Option Move). IsSome (option_and_then (carried_packet runs.network) x))
              (sym (slice_get_read moves _ i m refl lt is)) left.1;
        }
