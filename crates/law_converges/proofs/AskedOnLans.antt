-- What comes on a LAN in order comes later than what came before, and soon.
use Rattle.std.{proofs.Common.{Bool, List, Some, [], arith, cond, eqb-true, false, inl, inr, refl, subst, sym, true, ℕ, ◌&&◌, ◌+◌, ◌<◌, ◌==◌, ◌∷◌, ◌≡◌, ◌≤◌}, specs.{Cmp.{first_so, second_so}, List.AllByRecursion}}
use Rattle.pim_model.{specs.Network.{At, Deliver, DeliverUnicast, Move, Network, Station, moved, station_at}}
use Rattle.law_settled.{proofs.ListLaws.each_more}
use Rattle.law_streams.{specs.InTimeJoins.{IsBy}}
use Rattle.law_converges.{specs.{AskedByMembers.{CarriedJoinsAreSent, ComesOnLan, ComesSoon, JoinsAreSent, JoinsComeOnLans}, Carried.{Arrivals, Carries, ComesInTurn, EachMove, IsCarried, IsSentBy, Traffic, arrived}, CarriedNetwork.{IsOneLan, Lan, number_of}, LinkDr.{IsOne, Member}, Settles.routers}}

one_lan : (P : Lan → Type 0) (lans : List Lan) (a : Lan) → AllByRecursion P lans → IsOneLan lans a → P a
one_lan P [] a f is = absurd is
one_lan P (b ∷ bs) a f (inl same) = subst P same f.0
one_lan P (b ∷ bs) a f (inr later) = one_lan P bs a f.1 later

module _ (life d tick first : ℕ) (started : ℕ → ℕ) (t : Traffic) where
  -- what a LAN carries from a move on, where none of the first frames comes any more
  abbrev IsOn : Arrivals → Network → List Move → Lan → Type 0
  IsOn came n ms a =
      Carries d started t (number_of a) (routers a.link) came n ms × ((y : Member) → IsOne (routers a.link) y → first ≤ came y.router y.iface)

  no_sooner : (a b : ℕ) → first ≤ a → a < b → first ≤ b
  no_sooner a b e f = omega (arith, e, f)

  since_then : (came : Arrivals) (n : Network) (m : Move) (ms : List Move) (a : Lan) → IsOn came n (m ∷ ms) a → (y : Member)
      → IsOne (routers a.link) y → first ≤ arrived came m y.router y.iface
  since_then came n (At r e) ms a f y is = f.1 y is
  since_then came n (DeliverUnicast r k draw) ms a f y is = f.1 y is
  since_then came n (Deliver r i k draw) ms a f y is = go ((y.router == r) && (y.iface == i)) refl
    where
      go : (b : Bool) → ((y.router == r) && (y.iface == i)) ≡ b → first ≤ cond b k (came y.router y.iface)
      go false off = f.1 y is
      go true same =
          let router : y.router ≡ r = eqb-true y.router r (first_so (y.router == r) _ same) in
          let iface : y.iface ≡ i = eqb-true y.iface i (second_so (y.router == r) _ same) in
          no_sooner (came y.router y.iface) k (f.1 y is)
          ((f.0).1 y k draw is (λ x. Deliver (sym router x) (sym iface x) k draw)).later

  on_then : (came : Arrivals) (n : Network) (m : Move) (ms : List Move) (a : Lan) → IsOn came n (m ∷ ms) a → IsOn (arrived came m) (moved n m).1 ms a
  on_then came n m ms a f = ((f.0).2, since_then came n m ms a f)

  comes_soon : (came : Arrivals) (n : Network) (m : Move) (ms : List Move) (lans : List Lan) (r i : ℕ) (st : Station)
      → AllByRecursion (IsOn came n (m ∷ ms)) lans → station_at n r ≡ Some st → ComesOnLan lans r i m → ComesSoon d first started t r i st m
  comes_soon came n m ms lans r i st on at c =
      let f : IsOn came n (m ∷ ms) c.lan = one_lan (IsOn came n (m ∷ ms)) lans c.lan on c.among in
      let turn : ComesInTurn started t (number_of c.lan) c.member came c.number n = (f.0).1 c.member c.number c.draw c.its c.comes in
      record {
        number = c.number;
        draw = c.draw;
        comes = subst (λ (q : ℕ). m ≡ Deliver q i c.number c.draw) c.router
            (subst (λ (j : ℕ). m ≡ Deliver (c.member).router j c.number c.draw) c.iface c.comes);
        new = after first (came (c.member).router (c.member).iface) c.number (f.1 c.member c.its) turn.later;
        soon = subst (λ (q : ℕ). IsBy started q (t.sent c.number + d) n) c.router
            ((f.0).0 c.member c.member c.number c.its c.its turn.later turn.its) st at;
      }
    where
      after : (a b c : ℕ) → a ≤ b → b < c → a < c
      after a b c e f = omega (arith, e, f)

  all_sent : (lans : List Lan) (ms : List Move) (came : Arrivals) (n : Network) → EachMove (IsSentBy started t) n ms
      → AllByRecursion (IsOn came n ms) lans → EachMove (JoinsComeOnLans life tick lans) n ms → EachMove (JoinsAreSent life d tick first started t) n ms
  all_sent lans [] came n sent on f = tt
  all_sent lans (m ∷ ms) came n sent on f = (
    record {
      lasts = (f.0).lasts;
      sent = sent.0;
      ticks = (f.0).ticks;
      joins = λ r e st i joins is at was. comes_soon came n m ms lans r i.number st on at ((f.0).joins r e st i joins is at was);
    },
    all_sent lans ms (arrived came m) (moved n m).1 sent.1
        (each_more (IsOn came n (m ∷ ms)) (IsOn (arrived came m) (moved n m).1 ms) (on_then came n m ms) lans on) f.1,
  )

pub carried_joins_are_sent : CarriedJoinsAreSent
carried_joins_are_sent life d late tick first started t came lans n ms sent carried f =
    all_sent life d tick first started t lans ms came n sent
    (each_more (λ (a : Lan). IsCarried d late started t came (number_of a) (routers a.link) first n ms) (IsOn life d tick first started t came n ms)
    (λ a c. (c.carries, c.since)) lans carried) f
