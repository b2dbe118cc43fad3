-- A frame that is delivered, and an event at a router of a network.
use Rattle.std.{proofs.{Common.{◌≡◌, ◌≢◌, ◌∙◌, ℕ, suc, zero, ◌+◌, ◌<◌, ◌≤◌, ◌==◌, false, List, [], ◌∷◌, ◌++◌, length, length-append, map, Some, refl, sym, ap, subst, arith, eq-eqb}, lemmas.{Grind.common_steps, Option.slice_get-get_or}}, specs.List.{Contains, slice_get}}
use Rattle.pim_types.{specs.declared.event.{Event.Event, EventKind.EventKind}}
use Rattle.pim_model.{specs.{Network.{At, Deliver, Move, Network, Sent, Station, event_of, frame_at, moved, moved_at, sent_by, station_at, stepped}, Step.step, Writing.on_link}}
use Rattle.law_streams.{specs.Ways.IsOnLink, proofs.{Links.contains_mapped, Networks.{get_written, get_beside}}}

-- ---- lists

get_first : {A : Type 0} (xs ys : List A) (i : ℕ) (x : A) → slice_get xs i ≡ Some x → slice_get (xs ++ ys) i ≡ Some x
get_first [] ys i x e = cc e
get_first (z ∷ zs) ys zero x e = e
get_first (z ∷ zs) ys (suc i) x e = get_first zs ys i x e

get_contained : {A : Type 0} (xs : List A) (x : A) (c : Contains xs x) → slice_get xs c.0 ≡ Some x
get_contained xs x c = slice_get-get_or xs c.0 x c.1 ∙ ap Some c.2

get_last : {A : Type 0} (xs ys : List A) (i : ℕ) → slice_get (xs ++ ys) (length xs + i) ≡ slice_get ys i
get_last [] ys i = ap (λ (k : ℕ). slice_get ys k) (omega arith)
get_last (z ∷ zs) ys i =
    let next : length (z ∷ zs) + i ≡ suc (length zs + i) = omega arith in
    ap (λ (k : ℕ). slice_get (z ∷ zs ++ ys) k) next ∙ get_last zs ys i

-- ---- what a router did

-- a frame on a link that wasn't there before
pub record IsNewOn (n m : Network) (link : ℕ) (bytes : List ℕ) : Type 0 where
  pub on : IsOnLink m link bytes
  pub later : length n.frames < on.number

pub record IsStepped (n : Network) (r : ℕ) (st : Station) (e : Event) (m : Network) : Type 0 where
  pub here : station_at m r ≡ Some (record st { state = (step st.state e).state })
  pub beside : (q : ℕ) → (r == q) ≡ false → station_at m q ≡ station_at n q
  pub kept : (k : ℕ) (f : Sent) → frame_at n k ≡ Some f → frame_at m k ≡ Some f
  pub sent : (j l : ℕ) (text : List ℕ) → slice_get st.links j ≡ Some l
      → Contains (step st.state e).emissions (on_link j text) → IsNewOn n m l text
  pub grows : length n.frames ≤ length m.frames

module _ (n : Network) (r : ℕ) (st : Station) (e : Event) (at : station_at n r ≡ Some st) where
  abbrev after : Network
  after = (stepped n r e st).1

  one_here : station_at after r ≡ Some (record st { state = (step st.state e).state })
  unfolding station_at stepped
  one_here = get_written n.stations r st (record st { state = (step st.state e).state }) at

  apart : (q : ℕ) → (r == q) ≡ false → r ≢ q
  apart q off same = grind (arith, common_steps, off, same)

  one_beside : (q : ℕ) → (r == q) ≡ false → station_at after q ≡ station_at n q
  unfolding station_at stepped
  one_beside q off = get_beside n.stations r q (record st { state = (step st.state e).state }) (apart q off)

  frame_kept : (k : ℕ) (f : Sent) → frame_at n k ≡ Some f → frame_at after k ≡ Some f
  unfolding frame_at stepped
  frame_kept k f is = grind (arith, get_first)

  frame_sent : (j l : ℕ) (text : List ℕ) → slice_get st.links j ≡ Some l
      → Contains (step st.state e).emissions (on_link j text) → IsNewOn n after l text
  unfolding frame_at stepped
  frame_sent j l text linked c =
      let f : Sent = record { link = Some l; bytes = text } in
      let is : sent_by st.links (on_link j text) ≡ f =
      λ x. record { link = linked x; bytes = text } in
      let there : Contains (map (sent_by st.links) (step st.state e).emissions) f =
      subst (λ (g : Sent). Contains (map (sent_by st.links) (step st.state e).emissions) g) is
      (contains_mapped (sent_by st.links) (step st.state e).emissions (on_link j text) c) in
      record {
        on = record {
          number = suc (length n.frames + there.0);
          is = get_last n.frames (map (sent_by st.links) (step st.state e).emissions) there.0 ∙ get_contained _ f there;
        };
        later = omega arith;
      }

  more_frames : length n.frames ≤ length (after).frames
  unfolding stepped
  more_frames = grind (arith, length-append)

  pub is_stepped : IsStepped n r st e after
  is_stepped = record { here = one_here; beside = one_beside; kept = frame_kept; sent = frame_sent; grows = more_frames }

-- the move that is an event at a router
moved_so : (n : Network) (m : Move) (r : ℕ) (e : Event) (st : Station) → event_of n m ≡ Some (r, e)
    → station_at n r ≡ Some st → moved n m ≡ stepped n r e st
unfolding moved moved_at
moved_so n m r e st is at = grind arith

pub is_moved : (n : Network) (r : ℕ) (st : Station) (e : Event) → station_at n r ≡ Some st
    → IsStepped n r st e (moved n (At r e)).1
unfolding event_of
is_moved n r st e at =
    subst (IsStepped n r st e) (sym (ap (λ p. p.1) (moved_so n (At r e) r e st (rw at refl) at))) (is_stepped n r st e at)

-- a frame that is delivered on its link
pub is_delivered : (n : Network) (r : ℕ) (st : Station) (i k draw link : ℕ) (bytes : List ℕ) → station_at n r ≡ Some st
    → slice_get st.links i ≡ Some link → frame_at n k ≡ Some (record { link = Some link; bytes = bytes })
    → IsStepped n r st (record { draw = draw; kind = EventKind.Frame (record { number = i }) bytes })
    (moved n (Deliver r i k draw)).1
unfolding event_of
is_delivered n r st i k draw link bytes at linked there =
    let e : Event = record { draw = draw; kind = EventKind.Frame (record { number = i }) bytes } in
    let is : event_of n (Deliver r i k draw) ≡ Some (r, e) = rw (at, there, linked, eq-eqb link link refl) refl in
    subst (IsStepped n r st e) (sym (ap (λ p. p.1) (moved_so n (Deliver r i k draw) r e st is at))) (is_stepped n r st e at)
