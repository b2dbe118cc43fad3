-- Who is served.
use Rattle.std.{proofs.Common.{◌≡◌, ◌∙◌, ℕ, ◌==◌, ◌<◌, ◌||◌, Bool, true, false, List, length, refl, sym, ap, subst, arith, lt-ltb, inl, inr}, specs.List.Contains}
use Rattle.pim_ip.{specs.Ipv4.{Packet, copy_text}}
use Rattle.pim_types.{specs.declared.{config.IfaceId.IfaceId, event.Event.Event, outcome.Emission.Emission}}
use Rattle.pim_model.{specs.{declared.accepted.Accepted.Accepted, Asserts.with_spt_bit, Cause.copies_in, Forwarding.{Forwarded, forwarded, list_chosen, source_here, source_joined, spt_updated}, Neighbours.is_dr, Receivers.{is_exclude, local_receiver_exclude, local_receiver_include}, Registers.{settle_register, with_keepalive}, Sets.{Set, assert_source, assert_star, inherited_olist, inherited_olist_rpt, is_loser, is_winner, joins, joins_star, lost_assert, lost_assert_rpt, lost_assert_star, members, pim_exclude, pim_include, pim_include_star, prunes, serves, serves_star}, State.{Addressing, State, iface_count}, Step.outcome_of, Tables.below, Writing.on_link}}
use Rattle.law_streams.{specs.{Copies.copies_at, Served.{Came, IsListOf, IsMember, IsServed, IsSourceJoined, IsSourceMember, ListIsServed, MemberIsServed, OfGroup, OfSource, OnATree, OnSharedTree, OnShortestPath, ServedHere, SourceIsServed, renewed}}, proofs.{Links.{contains_mapped, contains_passing, is_below}, Made.{data_copies, forwarded_configured, step_taken}}}

-- ---- the list that is chosen

module _ (s : State) (g src iif : ℕ) where
  chosen_source : OnShortestPath s g src iif → (list_chosen s g src iif).list ≡ inherited_olist s g src
  unfolding list_chosen
  chosen_source e = rw e refl

  chosen_group : OnSharedTree s g src iif → (list_chosen s g src iif).list ≡ inherited_olist_rpt s g src
  unfolding list_chosen
  chosen_group e = grind arith

  chosen_list : (list : Set) → IsListOf s g src iif list → (list_chosen s g src iif).list ≡ list
  chosen_list list x = grind (arith, chosen_source, chosen_group)

forwarded_list : (s : State) (g src iif : ℕ) (list : Set) (j : ℕ) → IsListOf (renewed s g src iif) g src iif list
    → list j ≡ true → (j == iif) ≡ false → (forwarded s g src iif).list j ≡ true
unfolding forwarded renewed
forwarded_list s g src iif list j of on off = grind (arith, chosen_list)

pub list_is_served : ListIsServed
unfolding members
list_is_served s e i p list j came of within on off =
    let f : Forwarded = forwarded s p.destination p.source i.number in
    let same : iface_count f.state ≡ iface_count s =
    ap (λ (cs : Addressing). length cs.interfaces) (forwarded_configured s p.destination p.source i.number) in
    let there : Contains (below (iface_count f.state)) j =
    subst (λ (n : ℕ). Contains (below n) j) (sym same) (is_below (iface_count s) j within) in
    subst (λ (es : List Emission). Contains es (on_link j (copy_text p)))
    (sym (data_copies s e.draw i p (lt-ltb 1 p.time_to_live came.lives)) ∙ ap (λ a. copies_in (outcome_of a)) (sym (step_taken s e (Accepted.Data i p) came.done)))
    (contains_mapped (λ k. on_link k (copy_text p)) (members f.state f.list) j
    (contains_passing f.list (below (iface_count f.state)) j there
    (forwarded_list s p.destination p.source i.number list j of on off)))

-- ---- the facts

-- what the packet renews leaves the facts of others, and what is known of the links
record SameFacts (s t : State) : Type 0 where
  configured : t.configured ≡ s.configured
  neighbours : t.neighbours ≡ s.neighbours
  groups : t.group_records ≡ s.group_records
  sources : t.source_records ≡ s.source_records
  downstream : t.downstream ≡ s.downstream
  asserts : t.asserts ≡ s.asserts

renewed_same : (s : State) (g src iif : ℕ) → SameFacts s (renewed s g src iif)
unfolding renewed source_here source_joined spt_updated settle_register with_keepalive with_spt_bit
renewed_same s g src iif = grind arith

-- who is served before is served after
module _ (s t : State) (g src j : ℕ) (same : SameFacts s t) where
  configured_after : j < iface_count s → j < iface_count t
  configured_after within = subst (λ (cs : Addressing). j < length cs.interfaces) (sym same.configured) within

  served_after : IsServed s g src j → IsServed t g src j
  unfolding prunes
  served_after f = grind (arith, configured_after)

  member_after : IsMember s g src j → IsMember t g src j
  unfolding is_exclude local_receiver_exclude is_dr
  member_after f = grind (arith, configured_after)

  source_member_after : IsSourceMember s g src j → IsSourceMember t g src j
  unfolding local_receiver_include is_dr
  source_member_after f = grind (arith, configured_after)

  source_joined_after : IsSourceJoined s g src j → IsSourceJoined t g src j
  source_joined_after f = grind (arith, configured_after)

-- ---- the lists

module _ (t : State) (g src j : ℕ) (group : is_loser (assert_star t g j) ≡ false) where
  star_kept : lost_assert_star t g j ≡ false
  unfolding lost_assert_star
  star_kept = grind (arith, group)

  included : is_exclude t g j ≡ true → (is_dr t j || is_winner (assert_star t g j)) ≡ true → pim_include_star t g j ≡ true
  unfolding pim_include_star serves_star
  included asked serving = grind (arith, star_kept)

  not_excluded : local_receiver_exclude t g src j ≡ false → pim_exclude t g src j ≡ false
  unfolding pim_exclude
  not_excluded wanted = grind arith

module _ (t : State) (g src j : ℕ) (source : is_loser (assert_source t g src j) ≡ false) where
  rpt_kept : lost_assert_rpt t g src j ≡ false
  unfolding lost_assert_rpt
  rpt_kept = grind (arith, source)

  source_kept : lost_assert t g src j ≡ false
  unfolding lost_assert
  source_kept = grind (arith, source)

  source_included : local_receiver_include t g src j ≡ true → (is_dr t j || is_winner (assert_source t g src j)) ≡ true
      → pim_include t g src j ≡ true
  unfolding pim_include serves
  source_included asked serving = grind (arith, source_kept)

  in_source_list : (inherited_olist_rpt t g src j || joins t g src j || pim_include t g src j) ≡ true
      → inherited_olist t g src j ≡ true
  unfolding inherited_olist
  in_source_list any = grind (arith, source_kept)

-- a router that joined the group
in_group_list : (t : State) (g src j : ℕ) → IsServed t g src j → inherited_olist_rpt t g src j ≡ true
unfolding inherited_olist_rpt joins_star
in_group_list t g src j f = rw (f.joined, f.unpruned, star_kept t g src j f.group, rpt_kept t g src j f.source) refl

-- a host that asked for it
member_in_list : (t : State) (g src j : ℕ) → IsMember t g src j → inherited_olist_rpt t g src j ≡ true
unfolding inherited_olist_rpt
member_in_list t g src j f = grind (arith, included, not_excluded, star_kept, rpt_kept)

first_of : (a b : Bool) → a ≡ true → (a || b) ≡ true
first_of a b e = grind arith

-- ---- who is served

-- who is on the group's list is served on either tree
served_on_tree : (s : State) (e : Event) (i : IfaceId) (p : Packet) (j : ℕ) → Came s e i p
    → OnATree (renewed s p.destination p.source i.number) p.destination p.source i.number
    → j < iface_count s → inherited_olist_rpt (renewed s p.destination p.source i.number) p.destination p.source j ≡ true
    → is_loser (assert_source (renewed s p.destination p.source i.number) p.destination p.source j) ≡ false
    → (j == i.number) ≡ false → Contains (copies_at s e) (on_link j (copy_text p))
served_on_tree s e i p j came on within listed source off = go on
  where
    g : ℕ
    g = p.destination

    src : ℕ
    src = p.source

    t : State
    t = renewed s p.destination p.source i.number

    go : OnATree t g src i.number → Contains (copies_at s e) (on_link j (copy_text p))
    go (inl path) =
        list_is_served s e i p (inherited_olist t g src) j came (OfSource path) within
        (in_source_list t g src j source
        (first_of (inherited_olist_rpt t g src j || joins t g src j) (pim_include t g src j)
        (first_of (inherited_olist_rpt t g src j) (joins t g src j) listed))) off
    go (inr tree) = list_is_served s e i p (inherited_olist_rpt t g src) j came (OfGroup tree) within listed off

pub served_here : ServedHere
served_here s e i p j came on f off =
    let t : State = renewed s p.destination p.source i.number in
    let after : IsServed t p.destination p.source j =
    served_after s t p.destination p.source j (renewed_same s p.destination p.source i.number) f in
    served_on_tree s e i p j came on f.configured (in_group_list t p.destination p.source j after) after.source off

pub member_is_served : MemberIsServed
member_is_served s e i p j came on f off =
    let t : State = renewed s p.destination p.source i.number in
    let after : IsMember t p.destination p.source j =
    member_after s t p.destination p.source j (renewed_same s p.destination p.source i.number) f in
    served_on_tree s e i p j came on f.configured (member_in_list t p.destination p.source j after) after.source off

-- on the source's list by a join, or by a host
joined_row : (t : State) (g src j : ℕ) → IsSourceJoined t g src j → joins t g src j ≡ true
unfolding joins
joined_row t g src j f = f.joined

by_join : (t : State) (g src j : ℕ) → IsSourceJoined t g src j → inherited_olist t g src j ≡ true
by_join t g src j f = grind (arith, in_source_list, joined_row)

by_member : (t : State) (g src j : ℕ) → IsSourceMember t g src j → inherited_olist t g src j ≡ true
by_member t g src j f = grind (arith, in_source_list, source_included)

pub source_is_served : SourceIsServed
source_is_served s e i p j came on (inl f) off =
    let t : State = renewed s p.destination p.source i.number in
    list_is_served s e i p (inherited_olist t p.destination p.source) j came (OfSource on) f.configured
    (by_member t p.destination p.source j
    (source_member_after s t p.destination p.source j (renewed_same s p.destination p.source i.number) f)) off
source_is_served s e i p j came on (inr f) off =
    let t : State = renewed s p.destination p.source i.number in
    list_is_served s e i p (inherited_olist t p.destination p.source) j came (OfSource on) f.configured
    (by_join t p.destination p.source j
    (source_joined_after s t p.destination p.source j (renewed_same s p.destination p.source i.number) f)) off
