-- What a next hop holds it passes on, once.
use Rattle.std.{proofs.Common.{◌≡◌, ℕ, List, [], ◌∷◌, Some, sym, subst}}
use Rattle.pim_types.{specs.{Keys.star_key}}
use Rattle.pim_model.{specs.{Network.{Move, Network, Station, moved, station_at}, Tables.row_at}}
use Rattle.law_events.{specs.Rest.IsAtRest}
use Rattle.law_streams.{specs.{InTimeJoins.{Always, IsHeld, IsReady, Pair, Star}, Passing.{Passes, Receiver, Tree}}, proofs.{Copies.never_twice, Pairs.{ready_then, same_station}, Serving.passing_serves}}
use Rattle.law_converges.{specs.{PassedOnce.{HeldIsPassedOnce, IsOnTree, IsPassedOnce}, Past.HoldsPast}, proofs.LinkJoins.first_of}

module _ (rp g src up : ℕ) (c : Pair) where
  pub passes : (n : Network) (st : Station) → station_at n c.upper ≡ Some st → IsReady c.upper n → IsOnTree g src up c n
      → IsHeld (Star rp) g c n → Passes Tree.Shared Receiver.Router st.state g src up c.down
  passes n st at ready tree held =
      subst (λ (z : Station). Passes Tree.Shared Receiver.Router z.state g src up c.down) (same_station tree.there at) (record {
        settled = (subst (λ (z : Station). IsAtRest z.state) (same_station ready.there tree.there) ready.at_rest).settled;
        matched = tt;
        comes_in = tree.comes_in;
        goes_out = record {
          configured = tree.configured;
          group = tree.group;
          source = tree.source;
          wanted = record {
            row = (held.holds).row;
            found = subst (λ (z : Station). row_at (z.state).downstream (star_key c.down g) ≡ Some (held.holds).row)
                (same_station held.there tree.there) (held.holds).found;
            none_prunes = tree.unpruned;
          };
        };
        room = tree.room;
        on = tree.apart;
      })

  passed_once : (n : Network) → IsReady c.upper n → IsOnTree g src up c n → IsHeld (Star rp) g c n → IsPassedOnce g src up c n
  passed_once n ready tree held = record {
    passed = λ e st p at of_group of_source came.
        passing_serves Tree.Shared Receiver.Router st.state e p up c.down
        (subst (λ (s : ℕ). Passes Tree.Shared Receiver.Router st.state p.destination s up c.down) (sym of_source)
        (subst (λ (d : ℕ). Passes Tree.Shared Receiver.Router st.state d src up c.down) (sym of_group) (passes n st at ready tree held))) came;
    once = λ e st at. never_twice st.state e;
  }

  past : (started : ℕ → ℕ) (bound : ℕ) (ms : List Move) (n : Network) → IsReady c.upper n → Always (IsOnTree g src up c) n ms
      → HoldsPast started bound (IsHeld (Star rp) g c) n ms → HoldsPast started bound (IsPassedOnce g src up c) n ms
  past started bound [] n ready tree held = tt
  past started bound (m ∷ ms) n ready tree held = (
    λ over. passed_once (moved n m).1 (ready_then c.upper n m ready) (first_of (IsOnTree g src up c) (moved n m).1 ms tree.1) (held.0 over),
    past started bound ms (moved n m).1 (ready_then c.upper n m ready) tree.1 held.1,
  )

pub held_is_passed_once : HeldIsPassedOnce
held_is_passed_once rp g src up c started bound n ms ready tree held = past rp g src up c started bound ms n ready tree held
