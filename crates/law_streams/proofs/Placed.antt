-- An Assert, and data, that is accepted came on a configured interface, and so an interface that comes up is
-- configured. At most so many are.
use Rattle.std.{proofs.Common.{ℕ, ◌<◌, ◌≤◌, arith}}
use Rattle.pim_types.{specs.declared.event.EventKind.EventKind}
use Rattle.pim_model.{specs.{declared.accepted.Accepted.Accepted, Judging.{Judged, judged}, State.{State, iface_count}}}
use Rattle.law_settled.{proofs.Judgements.{IsJudged, kind_by}}

abbrev pub IsIn : ℕ → Accepted → Type 0
IsIn n (Accepted.Assert i from a) = i.number < n
IsIn n (Accepted.Data i p) = i.number < n
IsIn n (Accepted.Up i) = i.number < n
IsIn n _ = Unit {0}

abbrev pub IsPlaced : ℕ → Judged → Type 0
IsPlaced n j = IsJudged (IsIn n) j

pub kind_is_placed : (s : State) (n : ℕ) → iface_count s ≤ n → (kind : EventKind) → IsPlaced n (judged s kind)
kind_is_placed s n among kind =
    kind_by (IsIn n) s kind (record {
      frames = λ i within here. record {
        hellos = λ from h. tt;
        joins_to_me = λ m. tt;
        joins_seen = λ m. tt;
        asserts = λ from a. omega (arith, within, among);
        queries = λ from q. tt;
        reports = λ records. tt;
        packets = λ p. omega (arith, within, among);
      };
      registers = λ p r. tt;
      register_stops = λ from r. tt;
      ups = λ i within. omega (arith, within, among);
      downs = λ i. tt;
      moments = λ m e. tt;
      routes = λ routes e. tt;
      ranges = λ ranges e. tt;
      candidates = λ candidates e. tt;
    })
