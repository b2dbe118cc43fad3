-- The copies that an event makes, as links and a text.
use Rattle.std.{proofs.{Common.{◌≡◌, ◌∙◌, ℕ, ◌+◌, ◌-◌, ◌<◌, ◌==◌, Bool, true, false, cond, List, [], ◌++◌, length, Option, Some, Result, Ok, refl, sym, ap, subst, arith, length-append}, Math.{Nat.sub-zero, Seq.{drop-append_seam, drop-length}}, lemmas.{Bool.not-true, List.{append-nil, Elements.filter-append}}}, specs.{Cmp.second_so, List.{AllByRecursion, Sorted.IsStrictlySortedBy}, Ordering.nat_cmp}}
use Rattle.pim_ip.{specs.{Ipv4.{Packet, copy_text}, declared.refusal.Refusal.Refusal}}
use Rattle.pim_types.{specs.declared.{config.IfaceId.IfaceId, event.Event.Event, outcome.{Emission.Emission, Stop.Stop, Verdict.Verdict}}}
use Rattle.pim_wire.{specs.{Registers.register_text, Values.Encapsulated}}
use Rattle.pim_model.{specs.{declared.accepted.Accepted.Accepted, Asserts.{data_seen, wins, with_spt_bit}, Cause.{copies_in, done_as, if_done, is_on_link, packet_in}, Firing.settled, Forwarding.{Forwarded, forwarded, list_chosen, register_at_rp, register_received, source_here, source_joined, spt_updated, stray, watched}, Judging.{Judged, judged}, Registers.{settle_register, with_keepalive}, Sets.{Set, members}, State.{Addressing, State, iface_count}, Step.{Answered, Change, advanced, change, concluded, done, outcome_of, packet_forwarded, step, stopped, taken, taken_unless_full}, Tables.below, Writing.{copies_of, leaves, pim_to, register_of_packet, tunnel_of}}}
use Rattle.law_settled.{proofs.{ListLaws.{each_filter, each_more, each_passes}, UnchangedLaws.{full_or_taken, taken_done}}}
use Rattle.law_streams.{specs.Copies.happens, proofs.{Messages.{Own, own_all, own_settled}, Links.{all_below, each_on_link, none_on_link, on_each, rising_below}}}

-- ---- the interfaces of a packet's state are those of the state that it found

abbrev pub Configured : State → State → Type 0
Configured s t = t.configured ≡ s.configured

module _ (s : State) (g src iif : ℕ) where
  here_configured : Configured s (source_here s g src iif)
  unfolding source_here settle_register with_keepalive
  here_configured = grind arith

  joined_configured : Configured s (source_joined s g src iif)
  unfolding source_joined with_keepalive
  joined_configured = grind arith

  updated_configured : Configured s (spt_updated s g src iif)
  unfolding spt_updated with_spt_bit
  updated_configured = grind arith

  chosen_configured : Configured s (list_chosen s g src iif).state
  unfolding list_chosen stray watched with_keepalive data_seen wins
  chosen_configured = grind arith

pub forwarded_configured : (s : State) (g src iif : ℕ) → Configured s (forwarded s g src iif).state
unfolding forwarded
forwarded_configured s g src iif =
    grind (arith, chosen_configured, updated_configured, joined_configured, here_configured)

pub register_configured : (s : State) (p : Packet) (g src : ℕ) (is_null : Bool)
    → Configured s (register_received s p g src is_null).state
unfolding register_received register_at_rp with_keepalive
register_configured s p g src is_null = grind arith

-- ---- what is made

-- the packet that was brought, with a TTL above 1, in a text
pub record IsOf (o : Option Accepted) (text : List ℕ) : Type 0 where
  pub packet : Packet
  pub brought : packet_in o ≡ Some packet
  pub lives : leaves packet ≡ true
  pub is : text ≡ copy_text packet

-- none of the links is the one on which data came
abbrev pub NotBack : Option Accepted → List ℕ → Type 0
NotBack (Some (Accepted.Data i p)) links = AllByRecursion (λ j. (j == i.number) ≡ false) links
NotBack o links = Unit {0}

-- a Register round the text
pub record IsRegister (o : Option Accepted) (e : Emission) : Type 0 where
  pub from : ℕ
  pub rp : ℕ
  pub inside : List ℕ
  pub of : IsOf o inside
  pub is : e ≡ pim_to from rp (register_text inside)

pub record Made (s : State) (o : Option Accepted) (a : Answered) : Type 0 where
  pub links : List ℕ
  pub text : List ℕ
  pub messages : List Emission
  pub own : Own messages
  pub registered : List Emission
  pub emissions : a.emissions ≡ messages ++ on_each text links ++ registered
  pub copies : copies_in (outcome_of a) ≡ on_each text links
  pub rise : IsStrictlySortedBy nat_cmp links
  pub configured : AllByRecursion (λ i. i < iface_count s) links
  pub not_back : NotBack o links
  pub of : AllByRecursion (λ i. IsOf o text) links
  pub round : AllByRecursion (IsRegister o) registered

nothing_rises : IsStrictlySortedBy nat_cmp []
unfolding IsStrictlySortedBy
nothing_rises = tt

last_of : (a b : ℕ) → a + b - b ≡ a
last_of a b = omega arith

-- the copies are the last of what goes on links
copies_found : (answer : Result Verdict Refusal) (text : List ℕ) (messages registered : List Emission) (links : List ℕ)
    → AllByRecursion (λ e. is_on_link e ≡ false) registered
    → copies_in (record { answer = answer; emissions = messages ++ on_each text links ++ registered; copies = length (on_each text links) })
    ≡ on_each text links
unfolding copies_in
copies_found answer text messages registered links f =
    grind (arith, on_each, each_on_link, none_on_link, filter-append, append-nil, length-append, last_of, drop-append_seam)

-- without copies
none_found : (a : Answered) → a.copies ≡ 0 → copies_in (outcome_of a) ≡ []
unfolding copies_in
none_found a e = rw (e, sub-zero, drop-length)

-- ---- of a packet

abbrev links_of : State → Packet → Set → List ℕ
links_of t p list = cond (leaves p) (members t list) []

copies_of_links : (t : State) (p : Packet) (list : Set) → copies_of t p list ≡ on_each (copy_text p) (links_of t p list)
unfolding copies_of
copies_of_links t p list = grind (arith, on_each)

module _ (s t : State) (same : Configured s t) (p : Packet) (list : Set) where
  members_rise : IsStrictlySortedBy nat_cmp (members t list)
  unfolding members
  members_rise = rising_below list (iface_count t)

  members_configured : AllByRecursion (λ i. i < iface_count s) (members t list)
  unfolding members
  members_configured =
      each_filter (λ i. i < iface_count s) list (below (iface_count t))
      (subst (λ (n : ℕ). AllByRecursion (λ i. i < iface_count s) (below n))
      (ap (λ (cs : Addressing). length cs.interfaces) (sym same)) (all_below (iface_count s)))

  members_pass : AllByRecursion (λ i. list i ≡ true) (members t list)
  unfolding members
  members_pass = each_passes list (below (iface_count t))

  -- where the packet leaves
  by_leaving : (P : List ℕ → Type 0) → P [] → (leaves p ≡ true → P (members t list)) → P (links_of t p list)
  by_leaving P none some = grind arith

module _ (s : State) (w : ℕ) (o : Option Accepted) (p : Packet) (brought : packet_in o ≡ Some p) where
  of_text : leaves p ≡ true → IsOf o (copy_text p)
  of_text e = record { packet = p; brought = brought; lives = e; is = refl }

  pub registers_of : (t : State) (to_tunnel : Bool) → AllByRecursion (IsRegister o) (tunnel_of t p to_tunnel)
  unfolding tunnel_of register_of_packet
  registers_of t to_tunnel = grind (arith, of_text)

  to_rp : (t : State) (to_tunnel : Bool) → AllByRecursion (λ e. is_on_link e ≡ false) (tunnel_of t p to_tunnel)
  unfolding pim_to
  to_rp t to_tunnel = grind (arith, each_more, registers_of)

  pub packet_made : (f : Forwarded) → Configured s f.state
      → ((links : List ℕ) → AllByRecursion (λ i. f.list i ≡ true) links → NotBack o links)
      → Made s o (done s w (packet_forwarded p f))
  unfolding done
  packet_made f same back =
      let links : List ℕ = links_of f.state p f.list in
      let text : List ℕ = copy_text p in
      let sent : List Emission = (settled s (f.state, f.messages) w).1 in
      let registered : List Emission = tunnel_of f.state p f.to_tunnel in
      record {
        links = links;
        text = text;
        messages = sent;
        own = own_settled s (f.state, f.messages) w;
        registered = registered;
        emissions = ap (λ (c : List Emission). sent ++ c ++ registered) (copies_of_links f.state p f.list);
        copies = subst (λ (c : List Emission). copies_in (record { answer = Ok Verdict.Done; emissions = sent ++ c ++ registered; copies = length c }) ≡ on_each text links)
            (sym (copies_of_links f.state p f.list))
            (copies_found (Ok Verdict.Done) text sent registered links (to_rp f.state f.to_tunnel));
        rise = by_leaving s f.state same p f.list (λ ls. IsStrictlySortedBy nat_cmp ls) nothing_rises (λ e. members_rise s f.state same p f.list);
        configured = by_leaving s f.state same p f.list (λ ls. AllByRecursion (λ i. i < iface_count s) ls) tt (λ e. members_configured s f.state same p f.list);
        not_back = back links (by_leaving s f.state same p f.list (λ ls. AllByRecursion (λ i. f.list i ≡ true) ls) tt (λ e. members_pass s f.state same p f.list));
        of = by_leaving s f.state same p f.list (λ ls. AllByRecursion (λ i. IsOf o text) ls) tt
            (λ e. each_more (λ i. f.list i ≡ true) (λ i. IsOf o text) (λ i h. of_text e) (members f.state f.list) (members_pass s f.state same p f.list));
        round = registers_of f.state f.to_tunnel;
      }

-- ---- of what has no packet

no_links_back : (o : Option Accepted) → NotBack o []
no_links_back o = grind arith

none_made : (s : State) (o : Option Accepted) (a : Answered) → Own a.emissions → a.copies ≡ 0 → Made s o a
none_made s o a own e = record {
  links = [];
  text = [];
  messages = a.emissions;
  own = own;
  registered = [];
  emissions = sym (append-nil (a.emissions ++ []) ∙ append-nil a.emissions);
  copies = none_found a e;
  rise = nothing_rises;
  configured = tt;
  not_back = no_links_back o;
  of = tt;
  round = tt;
}

advanced_made : (s : State) (w moment : ℕ) (o : Option Accepted) → Made s o (advanced s w moment)
unfolding advanced
advanced_made s w moment o = none_made s o (advanced s w moment) (own_all w moment s) refl

silent_made : (s : State) (w : ℕ) (o : Option Accepted) (c : Change) → c.copies ≡ [] → c.registered ≡ []
    → Made s o (done s w c)
unfolding done
silent_made s w o c copies registered =
    none_made s o (done s w c) (rw (copies, registered, append-nil, append-nil) (own_settled s (c.state, c.messages) w))
    (ap (λ (es : List Emission). length es) copies)

-- ---- every event

never_back : (s : State) (g src iif j : ℕ) → (forwarded s g src iif).list j ≡ true → (j == iif) ≡ false
unfolding forwarded
never_back s g src iif j e = not-true (j == iif) (second_so _ _ e)

taken_made : (s : State) (w : ℕ) (a : Accepted) → Made s (Some a) (taken s w a)
unfolding taken change
taken_made s w a =
    grind (arith, packet_made, forwarded_configured, each_more, never_back, register_configured, silent_made, advanced_made)

stopped_made : (s : State) (o : Option Accepted) (stop : Stop) → Made s o (stopped s stop)
stopped_made s o stop = grind (arith, none_made)

module _ (s : State) (e : Event) where
  abbrev brought_by : Option Accepted
  brought_by = done_as (happens s e)

  done_is : (j : Judged) → judged s e.kind ≡ j
      → brought_by ≡ if_done (concluded s (taken_unless_full s e.draw) j).answer j
  unfolding done_as step
  done_is j is = rw is refl

  full_made : (a : Accepted) (b : Bool) → brought_by ≡ if_done (full_or_taken s e.draw a b).answer (Ok a)
      → Made s brought_by (full_or_taken s e.draw a b)
  full_made a true was = stopped_made s _ (Stop.Refuse Refusal.Full)
  full_made a false was =
      subst (λ (o : Option Accepted). Made s o (taken s e.draw a))
      (sym (was ∙ ap (λ (answer : Result Verdict Refusal). if_done answer (Ok a)) (taken_done s e.draw a)))
      (taken_made s e.draw a)

  concluded_made : (j : Judged) → brought_by ≡ if_done (concluded s (taken_unless_full s e.draw) j).answer j
      → Made s brought_by (concluded s (taken_unless_full s e.draw) j)
  unfolding taken_unless_full
  concluded_made j was = grind (arith, stopped_made, full_made)

  pub step_made : Made s brought_by (step s e)
  unfolding step
  step_made = concluded_made (judged s e.kind) (done_is (judged s e.kind) refl)

  -- what is done is taken
  full_taken : (a b : Accepted) (full : Bool) → if_done (full_or_taken s e.draw a full).answer (Ok a) ≡ Some b
      → full_or_taken s e.draw a full ≡ taken s e.draw b
  full_taken a b full was = grind (arith, taken_done)

  concluded_taken : (b : Accepted) (j : Judged) → if_done (concluded s (taken_unless_full s e.draw) j).answer j ≡ Some b
      → concluded s (taken_unless_full s e.draw) j ≡ taken s e.draw b
  unfolding taken_unless_full
  concluded_taken b j was = grind (arith, full_taken)

  pub step_taken : (b : Accepted) → brought_by ≡ Some b → step s e ≡ taken s e.draw b
  unfolding step
  step_taken b was = concluded_taken b (judged s e.kind) (sym (done_is (judged s e.kind) refl) ∙ was)

-- the copies of data with a TTL above 1
pub data_copies : (s : State) (w : ℕ) (i : IfaceId) (p : Packet) → leaves p ≡ true
    → copies_in (outcome_of (taken s w (Accepted.Data i p)))
    ≡ on_each (copy_text p) (members (forwarded s p.destination p.source i.number).state (forwarded s p.destination p.source i.number).list)
unfolding taken change done packet_made
data_copies s w i p lives =
    let f : Forwarded = forwarded s p.destination p.source i.number in
    (packet_made s w (Some (Accepted.Register p (Encapsulated p))) p refl f (forwarded_configured s p.destination p.source i.number) (λ links h. tt)).copies
    ∙ ap (λ (b : Bool). on_each (copy_text p) (cond b (members f.state f.list) [])) lives
