-- A set of groups as their numbers.
use Rattle.std.{specs.Prelude.{List, fold, map, ℕ}}
use Rattle.pim_ip.{specs.declared.addr.Addr.Addr}
use Rattle.pim_model.{specs.Tables.insert_number}

-- the bits of the addresses of a list's entries
abbrev pub numbers_of : {U : Type 0} → List (Addr × U) → List ℕ
numbers_of entries = map (λ e. (e.0).bits) entries

-- Numbers added to ascending ones, in order.
unfoldable pub gathered : List ℕ → List ℕ → List ℕ
gathered more numbers = fold (λ sorted n. insert_number n sorted) numbers more
