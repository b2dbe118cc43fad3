-- A packet of a source without a fact, where no timer is to be set: it goes the whole way, and nothing changes.
use Rattle.std.{proofs.{Common.{◌≡◌, ℕ, Bool, true, false, not, ◌&&◌, ◌||◌, cond, [], Option, Some, None, refl, sym, ap, ◌∙◌, append-nil, arith}, lemmas.Bool.or_parts}}
use Rattle.pim_ip.{specs.Ipv4.Packet}
use Rattle.pim_types.{specs.{declared.{config.IfaceId.IfaceId, event.Event.Event}, Keys.source_key}}
use Rattle.pim_model.{specs.{Asserts.{data_seen, with_spt_bit}, Cache.{Answers, Plain, answers, away_from, is_contested, is_on_shared_tree, keeps_alive, opens_tunnel, plain, sets_spt}, declared.accepted.Accepted.Accepted, Desires.{is_inherited_empty, join_desired}, Downstream.is_named, Firing.settled, Forwarding.{Forwarded, forwarded, is_spt_reached, list_chosen, no_interface, source_here, source_joined, spt_updated, stray, watched, when}, Full.{distinct, is_full, needed, once_more, passes_limit, source_is_full}, Judging.Judged, Plain.fact_key, Querier.each_in_turn, Registers.{settle_register, with_keepalive}, Sets.{Set, inherited_olist_rpt, spt_bit}, State.State, Step.{Answered, change, concluded, done, packet_forwarded, step, taken, taken_unless_full}, Tables.has_row, Unicast.{is_connected, is_rpf_interface, is_rpf_interface_rp}, Writing.{all_written, tunnel_of, write_all}}}
use Rattle.law_settled.{proofs.UnchangedLaws.full_or_taken}
use Rattle.law_events.{specs.{Rest.IsAtRest, Decided.{kept_if, plainly_taken}}, proofs.{Differing.nothing_follows, PlainSteps.reached_on_link}}
use Rattle.law_plane.{specs.{Offload.{Handling, Row, decision, dropped, handling, handling_unknown, offload, taken_by_plane}, OffloadLaws.{BringsData, UnknownIsRefused, UnknownIsStepped, UnknownNeedsRoom}}, proofs.{Decides.row_decides_any, Planes.plainly_dropped}}

-- ---- of no change nothing follows

pub nothing_follows_of_none : (s : State) → IsAtRest s → (w : ℕ) → settled s (s, []) w ≡ (s, [])
unfolding write_all all_written each_in_turn
nothing_follows_of_none s rests w = nothing_follows s rests.quiet (s, []) w (λ k out. refl)

-- ---- how it is forwarded

module _ (s : State) (g src i : ℕ) (none : has_row s.sources (source_key 0 g src) ≡ false) where
  abbrev its_answers : Answers
  its_answers = answers s g src

  pub no_spt_bit : spt_bit s g src ≡ false
  unfolding spt_bit has_row
  no_spt_bit = grind arith

  abbrev pub is_watched : Bool
  is_watched = is_on_shared_tree its_answers i && not its_answers.spt && its_answers.watches

  module _ (no_keep : keeps_alive its_answers i ≡ false) where
    pub unkept : (t c d : Bool) → (t && (c || d)) ≡ false → (c && t) ≡ false
    unkept t c d e = grind arith

    unjoined : (t c d f : Bool) → (t && (c || (d && f))) ≡ false → (t && d && f) ≡ false
    unjoined t c d f e = grind arith

    pub here : source_here s g src i ≡ s
    unfolding source_here answers
    here =
        ap (λ (b : Bool). cond b (settle_register (with_keepalive s g src) (source_key 0 g src)) s)
        (unkept (is_rpf_interface s src i) (is_connected s src) (join_desired s g src && not (is_inherited_empty s g src)) no_keep)

    pub joined : source_joined s g src i ≡ s
    unfolding source_joined answers
    joined =
        ap (λ (b : Bool). when b (λ t. with_keepalive t g src) s)
        (unjoined (is_rpf_interface s src i) (is_connected s src) (join_desired s g src) (not (is_inherited_empty s g src))
        no_keep)

    module _ (unset : sets_spt its_answers i ≡ false) where
      not_reached : is_spt_reached s g src i ≡ false
      unfolding answers
      not_reached = grind (arith, no_spt_bit, reached_on_link)

      updated : spt_updated s g src i ≡ s
      unfolding spt_updated
      updated = ap (λ (b : Bool). when b (λ t. with_spt_bit t g src) s) not_reached

      abbrev pub away : Forwarded → Forwarded
      away f = record f { list = away_from i f.list }

      pub forwarded_by : forwarded s g src i ≡ away (list_chosen s g src i)
      unfolding forwarded
      forwarded_by = grind (arith, here, joined, updated)

      abbrev as_it_is : Set → Forwarded
      as_it_is list = record { state = s; messages = []; list = list; to_tunnel = false }

      off_tree : (t p : Bool) → p ≡ false → (t && p) ≡ false
      off_tree t p e = grind arith

      abbrev shared : Bool
      shared = is_rpf_interface_rp s g i && not (spt_bit s g src)

      unwatched : is_watched ≡ false → (b : Bool) → shared ≡ b → b ≡ true → watched s g src ≡ s
      unfolding watched answers
      unwatched still b e f = grind arith

      on_shared : is_watched ≡ false → shared ≡ true → forwarded s g src i ≡ as_it_is (away_from i (inherited_olist_rpt s g src))
      unfolding list_chosen
      on_shared still e = grind (arith, forwarded_by, off_tree, no_spt_bit, unwatched)

      strays : is_contested s g src i ≡ false → stray s g src i ≡ as_it_is no_interface
      unfolding stray is_contested data_seen
      strays e = grind (arith, no_spt_bit)

      on_neither : shared ≡ false → is_contested s g src i ≡ false → forwarded s g src i ≡ as_it_is no_interface
      unfolding list_chosen
      on_neither e f = grind (arith, forwarded_by, off_tree, no_spt_bit, strays)

module _ (s : State) (g src i ttl : ℕ) (none : has_row s.sources (source_key 0 g src) ≡ false)
    (still : (offload (answers s g src)).alive i ≡ false) where
  both_still : (keeps_alive (answers s g src) i ≡ false) × (is_watched s g src i none ≡ false)
  unfolding offload
  both_still = or_parts (keeps_alive (answers s g src) i) (is_watched s g src i none) still

  abbrev acts : Bool
  acts = opens_tunnel (answers s g src) i || sets_spt (answers s g src) i

  abbrev goes_as : Plain → Type 0
  goes_as how = forwarded s g src i ≡ record { state = s; messages = []; list = how.list; to_tunnel = false }

  cases : (a b d c : Bool) → acts ≡ a → (is_rpf_interface s src i && spt_bit s g src) ≡ b
      → (is_rpf_interface_rp s g i && not (spt_bit s g src)) ≡ d → is_contested s g src i ≡ c
      → (x : Option Plain) (k w : Bool) (how : Plain)
      → cond a None (cond b x (cond d (Some (record { keeps = k; list = away_from i (inherited_olist_rpt s g src) }))
      (cond c None (Some (record { keeps = w; list = no_interface }))))) ≡ Some how
      → goes_as how
  cases a b d c fa fb fd fc x k w how is =
      grind (arith, off_tree, both_still, or_parts, no_spt_bit, on_shared, on_neither)

  pub goes : (how : Plain) → plain (answers s g src) i ttl ≡ Some how → goes_as how
  unfolding plain answers
  goes how is =
      cases acts (is_rpf_interface s src i && spt_bit s g src) (is_rpf_interface_rp s g i && not (spt_bit s g src))
      (is_contested s g src i) refl refl refl refl _ _ _ how is

-- ---- the whole step

module _ (s : State) (e : Event) (i : IfaceId) (p : Packet) (rests : IsAtRest s) (heard : BringsData s e i p) where
  no_register : tunnel_of s p false ≡ []
  unfolding tunnel_of
  no_register = refl

  leaves_only : (list : Set) → done s e.draw
      (packet_forwarded p (record { state = s; messages = []; list = list; to_tunnel = false }))
      ≡ plainly_taken s p (record { keeps = false; list = list })
  unfolding done plainly_taken
  leaves_only list = grind (arith, nothing_follows_of_none, no_register, append-nil)

  module _ (none : has_row s.sources (fact_key p) ≡ false) (room : is_full s (Accepted.Data i p) ≡ false)
      (still : (offload (answers s p.destination p.source)).alive i.number ≡ false) where
    abbrev its_row : Row
    its_row = offload (answers s p.destination p.source)

    taken_as : (list : Set) (keeps : Bool)
        → decision (handling its_row i.number) ≡ Some (record { keeps = keeps; list = list })
        → step s e ≡ plainly_taken s p (record { keeps = false; list = list })
    unfolding step taken_unless_full taken change
    taken_as list keeps is =
        ap (λ (j : Judged). concluded s (taken_unless_full s e.draw) j) heard
        ∙ (ap (λ (b : Bool). full_or_taken s e.draw (Accepted.Data i p) b) room
        ∙ (ap (λ (f : Forwarded). done s e.draw (packet_forwarded p f))
        (goes s p.destination p.source i.number p.time_to_live none still (record { keeps = keeps; list = list })
        (row_decides_any (answers s p.destination p.source) i.number p.time_to_live _ is))
        ∙ leaves_only list))

    -- on the incoming interface too the source isn't shown alive
    not_alive : (alive : Bool) (list : Set) → handling its_row i.number ≡ Handling.Forward alive list → alive ≡ false
    unfolding handling
    not_alive alive list is = grind arith

    stepped_as : (h : Handling) (a : Answered) → handling its_row i.number ≡ h → taken_by_plane s p h ≡ Some a
        → (step s e ≡ a) × (a.state ≡ s)
    unfolding plainly_taken
    stepped_as (Handling.Forward alive list) a is f =
        let same : plainly_taken s p (record { keeps = alive; list = list }) ≡ a = cc in
        let silent : alive ≡ false = not_alive alive list is in (
          taken_as list alive (ap decision is)
              ∙ ((λ j. plainly_taken s p (record { keeps = sym silent j; list = list })) ∙ same),
          ap (λ (b : Answered). b.state) (sym same) ∙ (λ j. kept_if (silent j) s p.destination p.source),
        )
    stepped_as Handling.Drop a is f =
        let same : dropped s ≡ a = cc in (
          taken_as no_interface false (ap decision is) ∙ (plainly_dropped s p ∙ same),
          ap (λ (b : Answered). b.state) (sym same),
        )
    stepped_as Handling.ToCore a is f = let no : ⊥ = cc in absurd no

  module _ (none : has_row s.sources (fact_key p) ≡ false) (room : is_full s (Accepted.Data i p) ≡ false) (a : Answered) where
    abbrev row : Row
    row = offload (answers s p.destination p.source)

    by_alive : (b : Bool) → row.alive i.number ≡ b
        → taken_by_plane s p (cond b Handling.ToCore (handling row i.number)) ≡ Some a → (step s e ≡ a) × (a.state ≡ s)
    by_alive b f is = grind (arith, stepped_as)

    pub unknown_stepped : taken_by_plane s p (handling_unknown row i.number) ≡ Some a → (step s e ≡ a) × (a.state ≡ s)
    unfolding handling_unknown
    unknown_stepped is = by_alive (row.alive i.number) refl is

-- what isn't the core's doesn't show its source alive
pub never_alive : (row : Row) (i : ℕ) (alive : Bool) (list : Set) → handling_unknown row i ≡ Handling.Forward alive list
    → alive ≡ false
unfolding handling_unknown handling
never_alive row i alive list is = grind arith

pub unknown_is_stepped : UnknownIsStepped
unknown_is_stepped s e i p a rests heard none room is = unknown_stepped s e i p rests heard none room a is

pub unknown_needs_room : UnknownNeedsRoom
unfolding is_full source_is_full passes_limit needed distinct once_more is_named
unknown_needs_room s i p none = rw none refl

pub unknown_is_refused : UnknownIsRefused
unfolding step taken_unless_full
unknown_is_refused s e i p heard full = grind (arith, full_or_taken)
