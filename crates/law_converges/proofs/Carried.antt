-- Where a link carries what is sent on it, each frame comes in time.
use Rattle.std.{proofs.{Common.{Bool, List, Some, [], ap, arith, cond, eq-eqb, eqb-true, false, inl, inr, length, nat_lt, refl, subst, sym, true, ℕ, ◌&&◌, ◌+◌, ◌<◌, ◌==◌, ◌∙◌, ◌∷◌, ◌≡◌, ◌≤◌, ◌⊎◌}, lemmas.Bool.Decides.nat_tests}, specs.Cmp.{first_so, second_so}}
use Rattle.pim_types.{specs.declared.event.Event.Event}
use Rattle.pim_model.{specs.Network.{At, Deliver, DeliverUnicast, Move, Network, Station, event_of, frame_at, moved, station_at}}
use Rattle.law_streams.{proofs.Pairs.frame_stays, specs.InTimeJoins.{IsBy, time_at}}
use Rattle.law_converges.{proofs.LinkRptOrder.{frames_grow, there_is}, specs.{Carried.{AreSoon, Arrivals, Carries, ComesInTurn, IsCarried, IsFor, IsPrompt, IsSentBy, Traffic, arrived}, LinkDr.{IsOne, Member}}}

-- ---- what a move brings to an interface

pub record Brought (y : Member) (m : Move) : Type 0 where
  pub number : ℕ
  pub draw : ℕ
  pub is : m ≡ Deliver y.router y.iface number draw

itself : (q j : ℕ) → ((q == q) && (j == j)) ≡ true
itself q j = go (eq-eqb q q refl) (eq-eqb j j refl)
  where
    go : (q == q) ≡ true → (j == j) ≡ true → ((q == q) && (j == j)) ≡ true
    go e f = cc

pub came_here : (came : Arrivals) (y : Member) (k draw : ℕ) → arrived came (Deliver y.router y.iface k draw) y.router y.iface ≡ k
came_here came y k draw = ap (λ (b : Bool). cond b k (came y.router y.iface)) (itself y.router y.iface)

-- a move brings something, or leaves what came
pub brings : (came : Arrivals) (y : Member) (m : Move) → Brought y m ⊎ (arrived came m y.router y.iface ≡ came y.router y.iface)
brings came y (At r e) = inr refl
brings came y (DeliverUnicast r k draw) = inr refl
brings came y (Deliver r i k draw) = go ((y.router == r) && (y.iface == i)) refl
  where
    go : (b : Bool) → ((y.router == r) && (y.iface == i)) ≡ b
        → Brought y (Deliver r i k draw) ⊎ (arrived came (Deliver r i k draw) y.router y.iface ≡ came y.router y.iface)
    go true is = inl (record { number = k; draw = draw; is = same (eqb-true _ _ (first_so _ _ is)) (eqb-true _ _ (second_so (y.router == r) _ is)) })
      where
        same : y.router ≡ r → y.iface ≡ i → Deliver r i k draw ≡ Deliver y.router y.iface k draw
        same e f = rw (e, f) refl
    go false is = inr (ap (λ (b : Bool). cond b k (came y.router y.iface)) is)

-- ---- a frame

pub for_then : (t : Traffic) (link r : ℕ) (n : Network) (m : Move) (k : ℕ) → IsFor t link r n k → IsFor t link r (moved n m).1 k
for_then t link r n m k f = record { frame = f.frame; is = frame_stays n m k f.frame f.is; on = f.on; other = f.other }

module _ (d : ℕ) (started : ℕ → ℕ) (t : Traffic) (link : ℕ) (members : List Member) where
  abbrev Carried : Arrivals → Network → List Move → Type 0
  Carried came n ms = Carries d started t link members came n ms

  pub soon_first : (came : Arrivals) (n : Network) (ms : List Move) → Carried came n ms → AreSoon d started t link members came n
  soon_first came n [] f = f
  soon_first came n (m ∷ ms) f = f.0

  module _ (y : Member) (among : IsOne members y) (number : ℕ) where
    -- a frame that hasn't come yet hasn't by the next move, or comes by it
    pub waits : (came : Arrivals) (n : Network) (m : Move) (ms : List Move) → Carried came n (m ∷ ms) → came y.router y.iface < number
        → IsFor t link y.router n number → Brought y m ⊎ (arrived came m y.router y.iface < number)
        → ((f : Brought y m) → f.number ≡ number → ⊥) → arrived came m y.router y.iface < number
    waits came n m ms f lt its (inr later) other = later
    waits came n m ms f lt its (inl b) other =
        subst (λ (k : Move). arrived came k y.router y.iface < number) (sym b.is)
        (subst (λ (k : ℕ). k < number) (sym (came_here came y b.number b.draw)) (go (nat_lt number b.number) refl))
      where
        turn : ComesInTurn started t link y came b.number n
        turn = f.1 y b.number b.draw among b.is

        lt_so : (a b : ℕ) → nat_lt a b ≡ true → a < b
        lt_so a b e = grind (arith, nat_tests, e)

        less : (a b : ℕ) → nat_lt a b ≡ false → (b ≡ a → ⊥) → b < a
        less a b e off = below (nat_lt b a) refl
          where
            same : nat_lt b a ≡ false → b ≡ a
            same f = grind (arith, nat_tests, e, f)

            below : (c : Bool) → nat_lt b a ≡ c → b < a
            below true is = lt_so b a is
            below false is = absurd (off (same is))

        go : (c : Bool) → nat_lt number b.number ≡ c → b.number < number
        go true is = absurd (turn.none_between number lt (lt_so number b.number is) its)
        go false is = less number b.number is (other b)

    -- What of each network and of the moves that come next makes it come: by a move that delivers it, or while the router's
    -- time isn't past d after it was sent.
    module _ (Q T : Network → List Move → Type 0) (next : (n : Network) (m : Move) (ms : List Move) → Q n (m ∷ ms) → Q (moved n m).1 ms)
        (none : (n : Network) → T n [])
        (here : (n : Network) (m : Move) (ms : List Move) (draw : ℕ) → Q n (m ∷ ms) → m ≡ Deliver y.router y.iface number draw
        → IsFor t link y.router n number → ((st : Station) → station_at n y.router ≡ Some st → t.sent number ≤ time_at started y.router st)
        → T n (m ∷ ms))
        (later : (n : Network) (m : Move) (ms : List Move) → IsBy started y.router (t.sent number + d) (moved n m).1 → T (moved n m).1 ms
        → T n (m ∷ ms)) where
      pub comes : (ms : List Move) (n : Network) (came : Arrivals) → Carried came n ms → came y.router y.iface < number
          → IsFor t link y.router n number → Q n ms → T n ms
      comes [] n came f lt its q = none n
      comes (m ∷ ms) n came f lt its q = go (λ lt' its'. comes ms (moved n m).1 (arrived came m) f.2 lt' its' (next n m ms q)) (brings came y m)
        where
          Rest : Type 0
          Rest = arrived came m y.router y.iface < number → IsFor t link y.router (moved n m).1 number → T (moved n m).1 ms

          same : (a b : ℕ) → a ≡ b → b < number → a < number
          same a b e h = omega (arith, e, h)

          on : Rest → arrived came m y.router y.iface < number → T n (m ∷ ms)
          on rest lt' =
              later n m ms
              (soon_first (arrived came m) (moved n m).1 ms f.2 y y number among among lt' (for_then t link y.router n m number its))
              (rest lt' (for_then t link y.router n m number its))

          at : Rest → (b : Brought y m) → (c : Bool) → (b.number == number) ≡ c → T n (m ∷ ms)
          at rest b true is =
              here n m ms b.draw q (b.is ∙ ap (λ (k : ℕ). Deliver y.router y.iface k b.draw) (eqb-true b.number number is)) its
              (subst (λ (k : ℕ). (st : Station) → station_at n y.router ≡ Some st → t.sent k ≤ time_at started y.router st)
              (eqb-true b.number number is) (f.1 y b.number b.draw among b.is).after)
          at rest b false is = on rest (waits came n m ms f lt its (inl b) not_it)
            where
              contradicts : (c : Bool) → c ≡ false → c ≡ true → ⊥
              contradicts c e g = cc (sym e ∙ g)

              number_of : (u v : Brought y m) → u.number ≡ v.number
              number_of u v = same_number (sym u.is ∙ v.is)
                where
                  same_number : Deliver y.router y.iface u.number u.draw ≡ Deliver y.router y.iface v.number v.draw → u.number ≡ v.number
                  same_number e = cc e

              not_it : (u : Brought y m) → u.number ≡ number → ⊥
              not_it u same = contradicts (b.number == number) is (eq-eqb b.number number (number_of b u ∙ same))

          go : Rest → Brought y m ⊎ (arrived came m y.router y.iface ≡ came y.router y.iface) → T n (m ∷ ms)
          go rest (inl b) = at rest b (b.number == number) refl
          go rest (inr left) = on rest (same (arrived came m y.router y.iface) (came y.router y.iface) left lt)

-- ---- what is sent by a move

pub record IsCarriedOn (d late : ℕ) (started : ℕ → ℕ) (t : Traffic) (came : Arrivals) (link : ℕ) (members : List Member) (first : ℕ)
    (n : Network) (m : Move) (ms : List Move) : Type 0 where
  pub sent : IsSentBy started t n m
  pub prompt : IsPrompt late started n m
  pub carries : Carries d started t link members came n (m ∷ ms)
  pub rest : IsCarried d late started t (arrived came m) link members first (moved n m).1 ms
  pub since : (y : Member) → IsOne members y → first ≤ came y.router y.iface
  pub behind : (y : Member) → IsOne members y → came y.router y.iface ≤ length n.frames

module _ (d late : ℕ) (started : ℕ → ℕ) (t : Traffic) (link : ℕ) (members : List Member) (first : ℕ) where
  pub carried_on : (came : Arrivals) (n : Network) (m : Move) (ms : List Move) → IsCarried d late started t came link members first n (m ∷ ms)
      → IsCarriedOn d late started t came link members first n m ms
  carried_on came n m ms f = record {
    sent = (f.sent).0;
    prompt = (f.prompt).0;
    carries = f.carries;
    rest = record { timely = f.timely; sent = (f.sent).1; prompt = (f.prompt).1; carries = (f.carries).2; since = since_then; behind = then };
    since = f.since;
    behind = f.behind;
  }
    where
      le : (a b c : ℕ) → a ≤ b → b ≤ c → a ≤ c
      le a b c e g = omega (arith, e, g)

      equal : (a b c : ℕ) → a ≡ b → b ≤ c → a ≤ c
      equal a b c e g = omega (arith, e, g)

      since_then : (y : Member) → IsOne members y → first ≤ arrived came m y.router y.iface
      since_then y among = go (brings came y m)
        where
          same : (a b : ℕ) → a ≡ b → first ≤ b → first ≤ a
          same a b e g = omega (arith, e, g)

          less : (a b : ℕ) → first ≤ a → a < b → first ≤ b
          less a b e g = omega (arith, e, g)

          go : Brought y m ⊎ (arrived came m y.router y.iface ≡ came y.router y.iface) → first ≤ arrived came m y.router y.iface
          go (inr left) = same _ (came y.router y.iface) left (f.since y among)
          go (inl b) =
              same _ b.number (subst (λ (k : Move). arrived came k y.router y.iface ≡ b.number) (sym b.is) (came_here came y b.number b.draw))
              (less (came y.router y.iface) b.number (f.since y among) ((f.carries).1 y b.number b.draw among b.is).later)

      then : (y : Member) → IsOne members y → arrived came m y.router y.iface ≤ length ((moved n m).1).frames
      then y among = go (brings came y m)
        where
          go : Brought y m ⊎ (arrived came m y.router y.iface ≡ came y.router y.iface) → arrived came m y.router y.iface ≤ length ((moved n m).1).frames
          go (inr left) = equal _ (came y.router y.iface) _ left (le _ (length n.frames) _ (f.behind y among) (frames_grow n m))
          go (inl b) =
              let turn : ComesInTurn started t link y came b.number n = (f.carries).1 y b.number b.draw among b.is in
              equal _ b.number _
              (subst (λ (k : Move). arrived came k y.router y.iface ≡ b.number) (sym b.is) (came_here came y b.number b.draw))
              (le _ (length n.frames) _ (there_is n b.number (turn.its).frame (turn.its).is) (frames_grow n m))

  module _ (came : Arrivals) (n : Network) (m : Move) (ms : List Move) (f : IsCarriedOn d late started t came link members first n m ms)
      (y : Member) (among : IsOne members y) (number : ℕ) (new : length n.frames < number) where
    -- a frame that is sent by a move hasn't come by it
    pub not_yet : arrived came m y.router y.iface < number
    not_yet = go (brings came y m)
      where
        less : (a b c d : ℕ) → a ≡ b → b ≤ c → c < d → a < d
        less a b c d e g h = omega (arith, e, g, h)

        go : Brought y m ⊎ (arrived came m y.router y.iface ≡ came y.router y.iface) → arrived came m y.router y.iface < number
        go (inr left) = less _ (came y.router y.iface) (length n.frames) number left (f.behind y among) new
        go (inl b) =
            let turn : ComesInTurn started t link y came b.number n = (f.carries).1 y b.number b.draw among b.is in
            less _ b.number (length n.frames) number
            (subst (λ (k : Move). arrived came k y.router y.iface ≡ b.number) (sym b.is) (came_here came y b.number b.draw))
            (there_is n b.number (turn.its).frame (turn.its).is) new

    module _ (bytes : List ℕ) (got : frame_at (moved n m).1 number ≡ Some (record { link = Some link; bytes = bytes }))
        (other : (t.by number == y.router) ≡ false) (Q T : Network → List Move → Type 0)
        (next : (n : Network) (m : Move) (ms : List Move) → Q n (m ∷ ms) → Q (moved n m).1 ms) (none : (n : Network) → T n [])
        (here : (n : Network) (m : Move) (ms : List Move) (draw : ℕ) → Q n (m ∷ ms) → m ≡ Deliver y.router y.iface number draw
        → frame_at n number ≡ Some (record { link = Some link; bytes = bytes })
        → ((st : Station) → station_at n y.router ≡ Some st → t.sent number ≤ time_at started y.router st) → T n (m ∷ ms))
        (later : (n : Network) (m : Move) (ms : List Move) → IsBy started y.router (t.sent number + d) (moved n m).1 → T (moved n m).1 ms
        → T n (m ∷ ms)) where
      abbrev Known : Network → List Move → Type 0
      Known n ms = (frame_at n number ≡ Some (record { link = Some link; bytes = bytes })) × Q n ms

      known_next : (n : Network) (m : Move) (ms : List Move) → Known n (m ∷ ms) → Known (moved n m).1 ms
      known_next n m ms k = (frame_stays n m number (record { link = Some link; bytes = bytes }) k.0, next n m ms k.1)

      -- a frame that is sent by it makes something come to a router, by what holds of the moves that follow
      pub frame_comes : Q (moved n m).1 ms → T (moved n m).1 ms
      frame_comes q =
          comes d started t link members y among number Known T known_next none (λ n m ms draw k is its after. here n m ms draw k.1 is k.0 after)
          later ms (moved n m).1 (arrived came m) (f.carries).2 not_yet
          (record { frame = record { link = Some link; bytes = bytes }; is = got; on = refl; other = other }) (got, q)

    -- so does one of another router of the link, of which it is known when it was sent
    module _ (x : Member) (apart : (x.router == y.router) ≡ false) (e : Event) (st : Station) (bytes : List ℕ)
        (ev : event_of n m ≡ Some (x.router, e)) (at : station_at (moved n m).1 x.router ≡ Some st)
        (got : frame_at (moved n m).1 number ≡ Some (record { link = Some link; bytes = bytes })) where
      told : (t.sent number ≡ time_at started x.router st) × (t.by number ≡ x.router)
      told = f.sent x.router e st number ev at new (there_is (moved n m).1 number (record { link = Some link; bytes = bytes }) got)

      pub sent_comes : (Q : Network → List Move → Type 0) (T : ℕ → Network → List Move → Type 0)
          → ((n : Network) (m : Move) (ms : List Move) → Q n (m ∷ ms) → Q (moved n m).1 ms) → ((n : Network) → T (t.sent number) n [])
          → ((n : Network) (m : Move) (ms : List Move) (draw : ℕ) → Q n (m ∷ ms) → m ≡ Deliver y.router y.iface number draw
          → frame_at n number ≡ Some (record { link = Some link; bytes = bytes })
          → ((st : Station) → station_at n y.router ≡ Some st → t.sent number ≤ time_at started y.router st) → T (t.sent number) n (m ∷ ms))
          → ((n : Network) (m : Move) (ms : List Move) → IsBy started y.router (t.sent number + d) (moved n m).1
          → T (t.sent number) (moved n m).1 ms → T (t.sent number) n (m ∷ ms))
          → Q (moved n m).1 ms → T (time_at started x.router st) (moved n m).1 ms
      sent_comes Q T next none here later q =
          subst (λ (s : ℕ). T s (moved n m).1 ms) (told).0
          (frame_comes bytes got (subst (λ (r : ℕ). (r == y.router) ≡ false) (sym (told).1) apart) Q (T (t.sent number)) next none here later q)
