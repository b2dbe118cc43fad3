-- A row as sets of the interfaces below 120 shows a row.
use Rattle.std.{specs.Prelude.{None, Option, Some, false, nat_lt, true, ℕ, ◌≡◌}}
use Rattle.pim_ifset.{specs.Members.has}
use Rattle.pim_macros.{specs.{Rows.{ShowsAnswers, answers_of, number_of}, declared.rows.SourceAnswers.SourceAnswers}}
use Rattle.pim_model.{specs.Cache.Answers}
use Rattle.law_plane.{specs.{Offload.{Row, offload}, Offered.{Offered as OfferedValue, unknown_row}}}
use Rattle.pim_mfc.{specs.declared.{offered.Offered.Offered, row.OffloadRow.OffloadRow}}

-- a data plane's row in the code is one of the specification
pub record ShowsOffload (shown : OffloadRow) (row : Row) : Type 0 where
  pub incoming : number_of shown.incoming ≡ row.incoming
  pub outgoing : (i : ℕ) → nat_lt i 120 ≡ true → has shown.outgoing i ≡ row.outgoing i
  pub alive : (i : ℕ) → nat_lt i 120 ≡ true → has shown.alive i ≡ row.alive i
  pub to_core : (i : ℕ) → nat_lt i 120 ≡ true → has shown.to_core i ≡ row.to_core i

-- Where the cache's row shows the answers of a state, what is made of it shows the row that a plane gets in that state.
abbrev pub ShownIsTold : Type 0
ShownIsTold = (row : SourceAnswers) (a : Answers) (shown : OffloadRow) → ShowsAnswers row a
    → ShowsOffload shown (offload (answers_of row)) → ShowsOffload shown (offload a)

-- ---- what is offered of any source

-- what is offered of a source with a fact, by its answers
abbrev pub known_offer : Answers → OfferedValue
known_offer a = record { is_known = true; row = offload a }

-- what is offered of a source without a fact, by its answers
abbrev pub unknown_offer : Answers → OfferedValue
unknown_offer a = record { is_known = false; row = unknown_row (offload a) }

-- an offer in the code is one of the specification
pub record ShowsOffered (shown : Offered) (o : OfferedValue) : Type 0 where
  pub known : shown.is_known ≡ o.is_known
  pub row : ShowsOffload shown.row o.row

-- an offer in the code is one of the specification, or neither is there
abbrev pub TellsOffload : Option Offered → Option OfferedValue → Type 0
TellsOffload None None = Unit {0}
TellsOffload (Some shown) (Some o) = ShowsOffered shown o
TellsOffload _ _ = ⊥

abbrev pub KnownOfferIsShown : Type 0
KnownOfferIsShown = (row : SourceAnswers) (a : Answers) (shown : Offered) → ShowsAnswers row a
    → ShowsOffered shown (known_offer (answers_of row)) → ShowsOffered shown (known_offer a)

abbrev pub UnknownOfferIsShown : Type 0
UnknownOfferIsShown = (row : SourceAnswers) (a : Answers) (shown : Offered) → ShowsAnswers row a
    → ShowsOffered shown (unknown_offer (answers_of row)) → ShowsOffered shown (unknown_offer a)
