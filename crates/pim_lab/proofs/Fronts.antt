-- Routers behind their fronts: what the front gives, and what one event then is.
use Rattle.std.{proofs.Common.{◌≡◌, ◌∙◌, ℕ, suc, zero, Bool, false, true, if◌then◌else◌, List, [], ◌∷◌, Option, Some, None, Ok, Err, refl, sym, ap, subst}, specs.{List.slice_get, Option.option_map_or, Prelude.{IfSome, option_and_then, set}}}
use Rattle.pim_ip.{specs.{Ipv4.is_source_specific, Prefixes.longest_match}}
use Rattle.pim_types.{specs.{Keys.star_key, declared.{config.IfaceId.IfaceId, event.{Event.Event, EventKind.EventKind}, outcome.{Outcome.Outcome, Verdict.Verdict}}}}
use Rattle.pim_model.{specs.{Network.{At, Network, Station, event_of, moved, moved_at, station_at, stepped}, State.{State, is_own, is_own_among}, Step.step, Tables.{has_row, row_at}, Unicast.{rp_among, rp_of, no_ranges}, Candidates.chosen_among}}
use Rattle.pim_net.{specs.{Carried.{AreMoves, HasMoved, carried_packet}, declared.moves.Move.Move, Showing.{Standing, shown_state}}}
use Rattle.igmp_older.{specs.{Joined.{FrontedRouter, bytes_given, event_given, joined_step, kind_given, known_after, known_if, older_in, older_of, present_end, rows_of}, Presence.{Present, hosts_on}, Translation.{Gives, Translation, packet_given, translation}, declared.{front.Given.Given, older.Older.Older}}}
use Rattle.pim_lab.{specs.{Fronts.{IsMarkOf, Stands, behind, marked}, declared.front.Mark.Mark}}

-- ---- what is asked of a router

-- a value that is read of the state of a router that stands
pub asked_of : {A : Type 0} (f : State → A) (d : A) (standing : Option Standing) (s : State) → Stands standing s
    → option_map_or (λ (r : Standing). f r.state) standing d ≡ f s
asked_of f d None s is = cc is
asked_of f d (Some r) s is = ap (λ (o : Option State). option_map_or f o d) is

pub asked_records : (standing : Option Standing) (s : State) → Stands standing s
    → option_map_or (λ (r : Standing). r.state.group_records) standing [] ≡ s.group_records
asked_records standing s is = asked_of (λ (t : State). t.group_records) [] standing s is

-- a router that doesn't stand has no record
pub asked_record : (standing : Option Standing) (i g : ℕ)
    → option_map_or (λ (r : Standing). has_row r.state.group_records (star_key i g)) standing false
    ≡ has_row (option_map_or (λ (r : Standing). r.state.group_records) standing []) (star_key i g)
unfolding has_row row_at
asked_record None i g = refl
asked_record (Some r) i g = refl

pub asked_row : (standing : Option Standing) (i g : ℕ)
    → option_and_then (λ (r : Standing). row_at r.state.group_records (star_key i g)) standing
    ≡ row_at (option_map_or (λ (r : Standing). r.state.group_records) standing []) (star_key i g)
unfolding row_at
asked_row None i g = refl
asked_row (Some r) i g = refl

-- nor an address
pub own_of : (standing : Option Standing) (a : ℕ)
    → option_map_or (λ (r : Standing). is_own r.state a) standing false
    ≡ is_own_among (option_map_or (λ (r : Standing). r.state.configured) standing (record { interfaces = []; addresses = [] })) a
unfolding is_own_among
own_of None a = refl
own_of (Some r) a = refl

abbrev no_address : Option ℕ
no_address = None

none_either : (b : Bool) → no_address ≡ (if b then no_address else no_address)
none_either true = refl
none_either false = refl

-- nor an RP of a group
pub rp_told : (standing : Option Standing) (g : ℕ)
    → option_and_then (λ (r : Standing). rp_of r.state g) standing
    ≡ rp_among (option_map_or (λ (r : Standing). r.state.ranges) standing no_ranges) g
unfolding rp_of rp_among longest_match chosen_among
rp_told None g = none_either (is_source_specific g)
rp_told (Some r) g = refl

pub of_some : {A : Type 0} (o : Option A) (P : A → Type 0) (x : A) → o ≡ Some x → IfSome o P → P x
of_some None P x e p = cc e
of_some (Some y) P x e p = subst P (cc e) p

-- ---- what the front gives

given_same : (t : Option Translation) (bytes out : List ℕ) → Gives Given.Same t [] out
    → option_map_or packet_given t bytes ≡ bytes
given_same None bytes out gives = refl
given_same (Some t) bytes out gives = absurd gives

given_rewritten : (t : Option Translation) (older : Option Older) (bytes out : List ℕ) → Gives (Given.Rewritten older) t [] out
    → option_map_or packet_given t bytes ≡ out
given_rewritten None older bytes out gives = absurd gives
given_rewritten (Some t) older bytes out gives = sym gives.1

given_older : (given : Given) (t : Option Translation) (out : List ℕ) → Gives given t [] out → older_in given ≡ older_of t
given_older Given.Same None out gives = refl
given_older Given.Same (Some t) out gives = absurd gives
given_older (Given.Rewritten older) None out gives = absurd gives
given_older (Given.Rewritten older) (Some t) out gives = gives.0

module _ (b : FrontedRouter) (draw : ℕ) (i : IfaceId) (bytes : List ℕ) where
  abbrev pub given_of : Option Translation
  given_of = translation (rows_of b) b.state.present i.number (hosts_on b.present i.number) bytes

  abbrev pub on_link : List ℕ → Event
  on_link content = record { draw = draw; kind = EventKind.Frame i content }

  pub gives_of : (given : Given) (slice before out : List ℕ) → slice ≡ bytes → before ≡ []
      → Gives given (translation (rows_of b) b.state.present i.number (hosts_on b.present i.number) slice) before out
      → Gives given given_of [] out
  gives_of given slice before out same none gives = rw (← same, ← none) gives

  pub packet_same : (given : Given) (out : List ℕ) → given ≡ Given.Same → Gives given given_of [] out
      → on_link bytes ≡ event_given b (on_link bytes)
  unfolding event_given kind_given bytes_given
  packet_same Given.Same out is gives = ap on_link (sym (given_same given_of bytes out gives))
  packet_same (Given.Rewritten older) out is gives = cc is

  pub packet_rewritten : (given : Given) (older : Option Older) (out : List ℕ) → given ≡ Given.Rewritten older
      → Gives given given_of [] out → on_link out ≡ event_given b (on_link bytes)
  unfolding event_given kind_given bytes_given
  packet_rewritten Given.Same older out is gives = cc is
  packet_rewritten (Given.Rewritten o) older out is gives = ap on_link (sym (given_rewritten given_of o bytes out gives))

  -- the bytes that the router is given
  abbrev pub content : List ℕ
  content = bytes_given (rows_of b) b.state.present i.number (hosts_on b.present i.number) bytes

  pub content_same : (given : Given) (out : List ℕ) → given ≡ Given.Same → Gives given given_of [] out → bytes ≡ content
  unfolding bytes_given
  content_same Given.Same out is gives = sym (given_same given_of bytes out gives)
  content_same (Given.Rewritten older) out is gives = cc is

  pub content_rewritten : (given : Given) (older : Option Older) (out : List ℕ) → given ≡ Given.Rewritten older
      → Gives given given_of [] out → out ≡ content
  unfolding bytes_given
  content_rewritten Given.Same older out is gives = cc is
  content_rewritten (Given.Rewritten o) older out is gives = sym (given_rewritten given_of o bytes out gives)

  -- with the end of a membership that begins at the present time, the packet's mark
  pub packet_mark : (given : Given) (end : ℕ) (out packet : List ℕ) → end ≡ present_end b.state i.number → packet ≡ content
      → Gives given given_of [] out
      → IsMarkOf b (EventKind.Frame i bytes) (Mark.Note i given end) packet
  unfolding marked known_if known_after
  packet_mark given end out packet ends told gives after (Ok Verdict.Done) =
      rw (given_older given given_of out gives, ends, told) refl
  packet_mark given end out packet ends told gives after (Ok (Verdict.Ignored reason)) = refl
  packet_mark given end out packet ends told gives after (Err refusal) = refl

-- ---- one event of a network

written : {A : Type 0} (xs : List A) (i : ℕ) (x y : A) → slice_get xs i ≡ Some x → slice_get (set xs i y) i ≡ Some y
written [] i x y is = cc is
written (z ∷ zs) zero x y is = refl
written (z ∷ zs) (suc i) x y is = written zs i x y is

pub shown : (o : Option Network) (n : Network) (r : ℕ) (st : Station) → o ≡ Some n → station_at n r ≡ Some st
    → shown_state o r ≡ Some st.state
shown o n r st is here = rw (is, here) refl

module _ (n : Network) (r : ℕ) (st : Station) (here : station_at n r ≡ Some st) where
  pub moved_at_is : (e : Event) → moved_at n (r, e) ≡ stepped n r e st
  unfolding moved_at
  moved_at_is e = rw here refl

  moved_is : (e : Event) → moved n (At r e) ≡ stepped n r e st
  unfolding moved event_of
  moved_is e = rw here (moved_at_is e)

  pub station_after : (e : Event)
      → station_at (stepped n r e st).1 r ≡ Some (record st { state = (step st.state e).state })
  unfolding stepped station_at
  station_after e = written n.stations r st (record st { state = (step st.state e).state }) here

  module _ {W : Type 0} (is_faithful : Bool) (sends : W → ℕ → List ℕ → W → Type 0)
      (gives : W → ℕ → ℕ → List ℕ → W → Type 0) (ports : List ℕ) (e : Event) where
    one_move : (before after : W) (os : List Outcome) (last : Network)
        → AreMoves is_faithful sends gives ports n before (Move.Event r e ∷ []) os last after
        → (os ≡ (stepped n r e st).0 ∷ []) × (last ≡ (stepped n r e st).1)
    unfolding AreMoves carried_packet
    one_move before after [] last done = absurd done
    one_move before after (o ∷ []) last done =
        let same : (o, done.network) ≡ stepped n r e st = done.first.0 ∙ moved_is e in
        (ap (λ (m : Outcome × Network). m.0 ∷ []) same, done.later.0 ∙ ap (λ (m : Outcome × Network). m.1) same)
    one_move before after (o ∷ p ∷ os) last done = absurd done.later

    pub one_event : (before after : W) (os : List Outcome) (last : Option Network)
        → HasMoved is_faithful sends gives ports n before (Move.Event r e ∷ []) os last after
        → (os ≡ (stepped n r e st).0 ∷ []) × (last ≡ Some (stepped n r e st).1)
    one_event before after os last has =
        let done = one_move before after os has.network has.moves in
        (done.0, has.is ∙ ap Some done.1)

  -- the event is given by the front
  module _ (p : Present) (came e : Event) (given : e ≡ event_given (behind p st.state) came) where
    pub outcome_behind : (stepped n r e st).0 ≡ (joined_step (behind p st.state) came).0
    unfolding stepped joined_step
    outcome_behind = rw given refl

    pub known_behind : (mark : Mark) (packet : List ℕ) → IsMarkOf (behind p st.state) came.kind mark packet
        → marked p (step st.state e).state.group_records mark packet ((stepped n r e st).0).answer
        ≡ (joined_step (behind p st.state) came).1.present
    unfolding stepped joined_step
    known_behind mark packet is = rw given (is _ _)
