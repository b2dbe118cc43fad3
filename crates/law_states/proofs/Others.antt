-- What is accepted of any event but one that brings routes, RP ranges or candidates is none of them.
use Rattle.std.{proofs.Common.subst}
use Rattle.pim_types.{specs.declared.event.EventKind.EventKind}
use Rattle.pim_model.{specs.{declared.accepted.Accepted.Accepted, Judging.judged, State.State}}
use Rattle.law_settled.{proofs.Judgements.{IsJudged, kind_by}}

-- neither routes nor RP ranges and candidates
abbrev pub IsOther : Accepted → Type 0
IsOther (Accepted.Routes routes) = ⊥
IsOther (Accepted.Rps ranges) = ⊥
IsOther _ = Unit {0}

abbrev pub IsOtherKind : EventKind → Type 0
IsOtherKind (EventKind.Routes routes) = ⊥
IsOtherKind (EventKind.Rps ranges) = ⊥
IsOtherKind (EventKind.RpCandidates candidates) = ⊥
IsOtherKind _ = Unit {0}

pub other_judged : (s : State) (kind : EventKind) → IsOtherKind kind → IsJudged IsOther (judged s kind)
other_judged s kind other =
    kind_by IsOther s kind (record {
      frames = λ i within here. record {
        hellos = λ from h. tt;
        joins_to_me = λ m. tt;
        joins_seen = λ m. tt;
        asserts = λ from a. tt;
        queries = λ from q. tt;
        reports = λ records. tt;
        packets = λ p. tt;
      };
      registers = λ p r. tt;
      register_stops = λ from r. tt;
      ups = λ i within. tt;
      downs = λ i. tt;
      moments = λ m e. tt;
      routes = λ routes e. subst IsOtherKind e other;
      ranges = λ ranges e. subst IsOtherKind e other;
      candidates = λ candidates e. subst IsOtherKind e other;
    })
