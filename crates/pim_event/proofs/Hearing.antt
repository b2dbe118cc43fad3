-- What a packet on a link is heard to be, and when no row decides an event.
use Rattle.std.{proofs.{Common.{Err, IfOk, List, None, Ok, Option, ap, false, length, refl, subst, sym, ℕ, ◌≡◌, ◌≤◌, ◌<◌, ◌∙◌}, Common.Global}, specs.Prelude.Box}
use Rattle.pim_ip.{specs.Ipv4.Packet}
use Rattle.pim_types.{specs.declared.{config.IfaceId.IfaceId, event.{Event.Event, EventKind.EventKind}, outcome.Stop.Stop}}
use Rattle.pim_mrib.{specs.Routes.RouteTable}
use Rattle.pim_model.{specs.{Cache.cached, Judging.{Judged, frame_judged, judged}, State.{State, interfaces_of}, declared.accepted.Accepted.Accepted}}
use Rattle.law_events.{specs.Rest.IsAtRest}
use Rattle.pim_mfc.{specs.{Kept.{ForwardsAs, Kept, decided}, Laws.ShowsRows, declared.forward.Forward.Forward}}
use Rattle.pim_intake.{specs.{Brought.IsTableOf, Memory.is_frame}}
use Rattle.pim_plan.{specs.Naming.Brings}
use Rattle.pim_event.{specs.{Disturbing.goes_by_answers, Hearing.{Hears, IsOther, IsPlain, IsUndecided}, declared.hear.Heard.Heard}, proofs.{Configured.{brings, data_below}, Disturbing.{data_in_turn, other_in_turn}, Frames.data_is_frame, Plainly.{its_packet, isnt_plain, not_plain, stop_isnt_plain}}}

module _ (s : State) (k lent : Kept) (i : IfaceId) (bytes : List ℕ) (before probes : ℕ) (heard : Heard) (lends : lent ≡ k) where
  pub plain_heard : (p : Packet) (f : Forward) → heard ≡ Heard.Plain p f → Hears s lent i bytes heard before probes
      → IsPlain s k i bytes p f before probes
  plain_heard p f is hears =
      subst (λ (rows : Kept). IsPlain s rows i bytes p f before probes) lends
      (subst (λ (h : Heard). Hears s lent i bytes h before probes) is hears)

  pub other_heard : (j : Judged) → heard ≡ Heard.Other j → Hears s lent i bytes heard before probes
      → IsOther s k i bytes j
  other_heard j is hears =
      subst (λ (rows : Kept). IsOther s rows i bytes j) lends
      (subst (λ (h : Heard). Hears s lent i bytes h before probes) is hears)

-- an event that is a packet on a link is judged as that
pub framed : (s : State) (kind : EventKind) (i : IfaceId) (bytes : List ℕ) → kind ≡ EventKind.Frame i bytes
    → judged s kind ≡ frame_judged s i bytes
unfolding judged
framed s kind i bytes is = ap (judged s) is

-- it brings no table
pub frame_brings : (s : State) (kind : EventKind) (i : IfaceId) (bytes : List ℕ) (j : Judged)
    → kind ≡ EventKind.Frame i bytes → j ≡ judged s kind
    → IfOk j (λ a. let none : Option (Box RouteTable Global) = None in Brings a none)
frame_brings s kind i bytes (Ok a) is heard =
    let none : Option (Box RouteTable Global) = None in
    brings s kind a none (sym heard) (subst (λ (x : EventKind). IsTableOf s x none) (sym is) tt)
frame_brings s kind i bytes (Err stop) is heard = tt

-- what was accepted brings its table
pub brings_where : (s : State) (kind : EventKind) (table : Option (Box RouteTable Global)) (j : Judged) → j ≡ judged s kind
    → IfOk j (λ a. IsTableOf s kind table) → IfOk j (λ a. Brings a table)
brings_where s kind table (Ok a) heard of = brings s kind a table (sym heard) of
brings_where s kind table (Err stop) heard of = tt

module _ (s : State) (e : Event) (rest : IsAtRest s) where
  stopped : (stop : Stop) → judged s e.kind ≡ Err stop → IsUndecided s e
  stopped stop heard = record {
    other = stop_isnt_plain s e rest stop heard;
    answers = ap (goes_by_answers s) heard;
  }

  no_data : (a : Accepted) → judged s e.kind ≡ Ok a → ((i : IfaceId) (p : Packet) → ¬ (a ≡ Accepted.Data i p))
      → IsUndecided s e
  no_data a heard other = record {
    other = isnt_plain s e rest a heard other;
    answers = other_in_turn s e a heard other;
  }

  -- an event that is no packet on a link
  pub elsewhere_undecided : (j : Judged) → is_frame e.kind ≡ false → j ≡ judged s e.kind → IsUndecided s e
  elsewhere_undecided (Err stop) none heard = stopped stop (sym heard)
  elsewhere_undecided (Ok a) none heard =
      no_data a (sym heard) (λ i p is. cc (none, data_is_frame s e.kind i p (sym heard ∙ ap Ok is)))

  -- one whose row doesn't decide it, or that is no data
  pub heard_undecided : (k : Kept) → ShowsRows k.rows (cached s) → length s.configured.interfaces ≤ 120
      → (j : Judged) → j ≡ judged s e.kind
      → ((d : IfaceId) (p : Packet) → j ≡ Ok (Accepted.Data d p)
      → ForwardsAs None (decided k p.destination p.source d.number p.time_to_live)) → IsUndecided s e
  heard_undecided k shows few (Err stop) heard undecided = stopped stop (sym heard)
  heard_undecided k shows few (Ok (Accepted.Data d p)) heard undecided =
      let below : d.number < 120 = data_below s e.kind d p (sym heard) (interfaces_of s) refl few in
      let not_so = not_plain k s d p shows below None refl (undecided d p refl) in
      record {
        other = λ plain. let packet = its_packet s e rest d p (sym heard) plain in not_so packet.0 packet.1;
        answers = data_in_turn s e d p (sym heard) not_so;
      }
  heard_undecided k shows few (Ok a) heard undecided = no_data a (sym heard) (λ i p is. cc is)
