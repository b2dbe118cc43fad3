-- On the source's own tree a router passes on each packet, also the one by which SPTbit is set.
use Rattle.std.{proofs.Common.{arith, inl, inr, subst, sym, true, false, ℕ, ◌<◌, ◌≡◌, ◌⊎◌}, specs.{Cmp.Derive.both_true, List.Contains}}
use Rattle.pim_ip.{specs.Ipv4.{Packet, copy_text}}
use Rattle.pim_types.{specs.declared.{event.Event.Event, fact.{RegisterRow.RegisterRow, SourceRow.SourceRow}}}
use Rattle.pim_model.{specs.{Desires.join_desired, Full.source_is_full, Neighbours.is_dr, Receivers.local_receiver_include, Sets.{assert_source, immediate_olist, is_loser, joins, lost_assert, pim_include, serves, spt_bit}, State.{State, iface_count, is_own, is_up}, Step.step, Tables.{Table, has_row}, Unicast.is_rpf_interface, Writing.on_link}}
use Rattle.law_streams.{proofs.{Forwards.from_copies, Room.has_room, Roots.leaves_root, ServedData.source_is_served, Serving.{met, on_the_source, passing_serves}, Taken.wanted_source, Turning.{met_with, on_source_then}}, specs.{Copies.copies_at, Passing.{Tree}, Roots.{ArrivesFor, InRegister, OnTree}, Served.{Came, IsServed, IsSourceJoined, IsSourceMember, OnShortestPath, renewed}, StreamRoots.Sends, Turning.may_turn}}
use Rattle.law_converges.{specs.ComesOnce.{IsOfTree, OfSource, PassesOn, SendsOn, Stream}}

-- ---- who wants the source is on its list

abbrev pub WantsIt : State → (g src j : ℕ) → Type 0
WantsIt s g src j = IsSourceMember s g src j ⊎ IsSourceJoined s g src j

module _ (t : State) (g src j : ℕ) where
  source_kept : is_loser (assert_source t g src j) ≡ false → lost_assert t g src j ≡ false
  unfolding lost_assert
  source_kept e = grind (arith, e)

  member_listed : IsSourceMember t g src j → immediate_olist t g src j ≡ true
  unfolding immediate_olist pim_include serves
  member_listed f = grind (arith, source_kept)

  joined_listed : IsSourceJoined t g src j → immediate_olist t g src j ≡ true
  unfolding immediate_olist joins
  joined_listed f = grind (arith, source_kept)

  pub wants_source : WantsIt t g src j → join_desired t g src ≡ true
  wants_source (inl f) = wanted_source t g src j f.configured (member_listed f)
  wants_source (inr f) = wanted_source t g src j f.configured (joined_listed f)

-- so it is when the packet has renewed its facts
module _ (s : State) (g src j : ℕ) where
  rows_member : (x : Table SourceRow) (y : Table RegisterRow) → WantsIt s g src j → WantsIt (record s { sources = x; registers = y }) g src j
  unfolding local_receiver_include is_dr
  rows_member x y (inl f) = inl (record { configured = f.configured; asked = f.asked; serves = f.serves; source = f.source })
  rows_member x y (inr f) = inr (record { configured = f.configured; joined = f.joined; source = f.source })

  still_wanted : (up : ℕ) → WantsIt s g src j → WantsIt (met s g src up) g src j
  still_wanted up f =
      subst (λ t. WantsIt t g src j) (sym (met_with s g src up)) (rows_member (met s g src up).sources (met s g src up).registers f)

-- ---- a packet

pub on_path : (s : State) (g src up down : ℕ) → is_rpf_interface s src up ≡ true → (spt_bit s g src ≡ true) ⊎ (may_turn s g src up ≡ true)
    → WantsIt s g src down → OnShortestPath (renewed s g src up) g src up
on_path s g src up down way (inl set) wanted = on_the_source s g src up (both_true way set)
on_path s g src up down way (inr may) wanted =
    on_source_then s g src up way may (wants_source (met s g src up) g src down (still_wanted s g src down up wanted))

-- what is asked of the interface on which the packets come
pub record TakesOn (s : State) (g src up : ℕ) : Type 0 where
  pub configured : up < iface_count s
  pub is_up : is_up s up ≡ true
  pub foreign : is_own s src ≡ false
  pub room : source_is_full s g src ≡ false

pub takes_on : (s : State) (g src up down : ℕ) → PassesOn s g src up down → TakesOn s g src up
takes_on s g src up down (Stream tree by f) = record {
  configured = (f.comes_in).configured;
  is_up = (f.comes_in).is_up;
  foreign = (f.comes_in).foreign;
  room = has_room tree s g src up (f.comes_in).on f.room;
}
takes_on s g src up down (OfSource f) = record { configured = f.configured; is_up = f.is_up; foreign = f.foreign; room = f.room }

pub passes_it : (s : State) (e : Event) (p : Packet) (up down : ℕ) → PassesOn s p.destination p.source up down → Came s e (record { number = up }) p
    → Contains (copies_at s e) (on_link down (copy_text p))
passes_it s e p up down (Stream tree by f) came = passing_serves tree by s e p up down f came
passes_it s e p up down (OfSource f) came =
    source_is_served s e (record { number = up }) p down came (on_path s p.destination p.source up down f.way f.turns f.wanted) f.wanted f.on

-- ---- at the root

served_so : (s : State) (g src down : ℕ) → Sends s g src down → IsServed s g src down
unfolding has_row
served_so s g src down f = grind arith

pub root_sends : (tree : Tree) (s : State) (e : Event) (p : Packet) (j : ℕ) → 1 < p.time_to_live → SendsOn tree s p.destination p.source j
    → (a : ArrivesFor s e p j) → IsOfTree tree s e p j a → Contains (step s e).emissions (on_link j (copy_text p))
root_sends Tree.Shared s e p j lives f a of = leaves_root s e p j lives (served_so s p.destination p.source j f) a
root_sends Tree.Source s e p j lives f (OnTree i is on off) path =
    from_copies s e (on_link j (copy_text p)) (source_is_served s e i p j (record { done = is; lives = lives }) path (inr f) off)
root_sends Tree.Source s e p j lives f (InRegister outer is rp unset) of = absurd of
