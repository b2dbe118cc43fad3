-- On which interfaces a data packet on its tree leaves.
use Rattle.std.{specs.{List.Contains, Prelude.{Some, false, true, ℕ, ◌&&◌, ◌<◌, ◌==◌, ◌||◌, ◌≡◌, ◌⊎◌}}}
use Rattle.pim_ip.{specs.Ipv4.{Packet, copy_text}}
use Rattle.pim_types.{specs.{Keys.{source_key, star_key}, declared.{config.IfaceId.IfaceId, event.Event.Event}}}
use Rattle.pim_model.{specs.{declared.accepted.Accepted.Accepted, Cause.done_as, Forwarding.{source_here, source_joined, spt_updated}, Neighbours.is_dr, Receivers.{is_exclude, local_receiver_exclude, local_receiver_include}, Sets.{Set, assert_source, assert_star, inherited_olist, inherited_olist_rpt, is_loser, is_winner, prunes, spt_bit}, State.{State, iface_count}, Tables.has_row, Unicast.{is_rpf_interface, is_rpf_interface_rp}, Writing.on_link}}
use Rattle.law_streams.{specs.Copies.{copies_at, happens}}

-- The facts after the packet renewed them: its keepalive timer, its register, its SPTbit.
unfoldable pub renewed : State → ℕ → ℕ → ℕ → State
renewed s g src iif = spt_updated (source_joined (source_here s g src iif) g src iif) g src iif

-- The packet is on the shortest path tree: it came on RPF_interface(S), and SPTbit is set.
abbrev pub OnShortestPath : State → ℕ → ℕ → ℕ → Type 0
OnShortestPath s g src iif = (is_rpf_interface s src iif && spt_bit s g src) ≡ true

-- The packet is on the shared tree: it came on RPF_interface(RP), and SPTbit isn't set.
abbrev pub OnSharedTree : State → ℕ → ℕ → ℕ → Type 0
OnSharedTree s g src iif = (is_rpf_interface_rp s g iif ≡ true) × (spt_bit s g src ≡ false)

-- the tree on which a packet came, and the outgoing list of that tree
pub data IsListOf (s : State) (g src iif : ℕ) : Set → Type 0 where
  OfSource : OnShortestPath s g src iif → IsListOf s g src iif (inherited_olist s g src)
  OfGroup : OnSharedTree s g src iif → IsListOf s g src iif (inherited_olist_rpt s g src)

-- a data packet with a TTL above 1 that was answered Done
pub record Came (s : State) (e : Event) (i : IfaceId) (p : Packet) : Type 0 where
  pub done : done_as (happens s e) ≡ Some (Accepted.Data i p)
  pub lives : 1 < p.time_to_live

-- A data packet on its tree leaves on every other interface of the tree's list.
abbrev pub ListIsServed : Type 0
ListIsServed = (s : State) (e : Event) (i : IfaceId) (p : Packet) (list : Set) (j : ℕ)
    → Came s e i p
    → IsListOf (renewed s p.destination p.source i.number) p.destination p.source i.number list
    → j < iface_count s → list j ≡ true → (j == i.number) ≡ false
    → Contains (copies_at s e) (on_link j (copy_text p))

-- a router on the link joined the group, nobody there pruned the source, and this router lost no assert there
pub record IsServed (s : State) (g src j : ℕ) : Type 0 where
  pub configured : j < iface_count s
  pub joined : has_row s.downstream (star_key j g) ≡ true
  pub unpruned : prunes s g src j ≡ false
  pub group : is_loser (assert_star s g j) ≡ false
  pub source : is_loser (assert_source s g src j) ≡ false

-- A packet came on the source's tree or on the shared tree.
abbrev pub OnATree : State → ℕ → ℕ → ℕ → Type 0
OnATree s g src iif = OnShortestPath s g src iif ⊎ OnSharedTree s g src iif

-- A data packet on its tree leaves where the group was joined, the source isn't pruned, and no assert was lost.
abbrev pub ServedHere : Type 0
ServedHere = (s : State) (e : Event) (i : IfaceId) (p : Packet) (j : ℕ)
    → Came s e i p → OnATree (renewed s p.destination p.source i.number) p.destination p.source i.number
    → IsServed s p.destination p.source j → (j == i.number) ≡ false
    → Contains (copies_at s e) (on_link j (copy_text p))

-- A host on the link requested the group and didn't exclude the source, and this router serves the link: it is the DR
-- or the winner of the group's assert, and lost no assert there.
pub record IsMember (s : State) (g src j : ℕ) : Type 0 where
  pub configured : j < iface_count s
  pub asked : is_exclude s g j ≡ true
  pub wanted : local_receiver_exclude s g src j ≡ false
  pub serves : (is_dr s j || is_winner (assert_star s g j)) ≡ true
  pub group : is_loser (assert_star s g j) ≡ false
  pub source : is_loser (assert_source s g src j) ≡ false

-- A data packet on its tree leaves where a host requested the group and didn't exclude the source, the router serves
-- the link, and no assert was lost.
abbrev pub MemberIsServed : Type 0
MemberIsServed = (s : State) (e : Event) (i : IfaceId) (p : Packet) (j : ℕ)
    → Came s e i p → OnATree (renewed s p.destination p.source i.number) p.destination p.source i.number
    → IsMember s p.destination p.source j → (j == i.number) ≡ false
    → Contains (copies_at s e) (on_link j (copy_text p))

-- A host on the link requested that source of the group, and this router serves the link for it.
pub record IsSourceMember (s : State) (g src j : ℕ) : Type 0 where
  pub configured : j < iface_count s
  pub asked : local_receiver_include s g src j ≡ true
  pub serves : (is_dr s j || is_winner (assert_source s g src j)) ≡ true
  pub source : is_loser (assert_source s g src j) ≡ false

-- a router on the link joined that source
pub record IsSourceJoined (s : State) (g src j : ℕ) : Type 0 where
  pub configured : j < iface_count s
  pub joined : has_row s.downstream (source_key j g src) ≡ true
  pub source : is_loser (assert_source s g src j) ≡ false

-- A packet on the shortest path tree leaves where a router joined the source or a host requested it; the shared tree is
-- the group's, so this isn't so there.
abbrev pub SourceIsServed : Type 0
SourceIsServed = (s : State) (e : Event) (i : IfaceId) (p : Packet) (j : ℕ)
    → Came s e i p → OnShortestPath (renewed s p.destination p.source i.number) p.destination p.source i.number
    → IsSourceMember s p.destination p.source j ⊎ IsSourceJoined s p.destination p.source j → (j == i.number) ≡ false
    → Contains (copies_at s e) (on_link j (copy_text p))
