-- Who is the DR: the router itself where no neighbour is better, else a neighbour.
use Rattle.std.{proofs.{Common.{◌≡◌, ℕ, Bool, true, false, ◌==◌, ◌||◌, [], ◌∷◌, arith, fold, if◌then◌else◌, not, refl, sym}, lemmas.Bool.Decides.nat_tests}, specs.List.list_any}
use Rattle.pim_types.{specs.{Keys.source_in, declared.fact.NeighbourRow.NeighbourRow}}
use Rattle.pim_model.{specs.{Neighbours.is_better_dr, Tables.Table}}
use Rattle.pim_shown.{specs.{Links.better_of, declared.link.Candidate.Candidate}}

-- some neighbour is a better DR
abbrev any_better : Bool → Candidate → Table NeighbourRow → Bool
any_better b dr rows = list_any (is_better_dr b dr.priority dr.address.bits) rows

-- some neighbour has the address
abbrev pub any_at : ℕ → Table NeighbourRow → Bool
any_at address rows = list_any (λ e. source_in e.0 == address) rows

abbrev elected : Bool → Candidate → Table NeighbourRow → Candidate
elected b dr rows = fold (better_of b) dr rows

stays_next : (t b : Bool) (me other : Candidate) (es : Table NeighbourRow) → (t || any_better b me es) ≡ false
    → (any_better b me es ≡ false → elected b me es ≡ me) → elected b (if t then other else me) es ≡ me
stays_next true b me other es none rest = grind arith
stays_next false b me other es none rest = rest none

pub stays : (b : Bool) (me : Candidate) (rows : Table NeighbourRow) → any_better b me rows ≡ false → elected b me rows ≡ me
unfolding better_of
stays b me [] none = refl
stays b me (e ∷ es) none =
    stays_next (is_better_dr b me.priority me.address.bits e) b me _ es none (stays b me es)

-- the address of the DR is that of the one at the beginning, or of a neighbour
start_next : (t b : Bool) (me other : Candidate) (address : ℕ) (es : Table NeighbourRow) → other.address.bits ≡ address
    → ((dr : Candidate) → ((elected b dr es).address.bits == dr.address.bits || any_at (elected b dr es).address.bits es) ≡ true)
    → let dr : Candidate = elected b (if t then other else me) es in
    (dr.address.bits == me.address.bits || (address == dr.address.bits || any_at dr.address.bits es)) ≡ true
start_next true b me other address es at rest = let e = rest other in grind (arith, nat_tests)
start_next false b me other address es at rest = let e = rest me in grind (arith, nat_tests)

start : (b : Bool) (rows : Table NeighbourRow) (me : Candidate)
    → ((elected b me rows).address.bits == me.address.bits || any_at (elected b me rows).address.bits rows) ≡ true
unfolding better_of
start b [] me = grind (arith, nat_tests)
start b (e ∷ es) me =
    start_next (is_better_dr b me.priority me.address.bits e) b me _ (source_in e.0) es refl (start b es)

found_next : (t b : Bool) (me other : Candidate) (address : ℕ) (es : Table NeighbourRow) → other.address.bits ≡ address
    → (t || any_better b me es) ≡ true → (any_better b me es ≡ true → any_at (elected b me es).address.bits es ≡ true)
    → let dr : Candidate = elected b (if t then other else me) es in
    (address == dr.address.bits || any_at dr.address.bits es) ≡ true
found_next true b me other address es at some rest = let e = start b es other in grind (arith, nat_tests)
found_next false b me other address es at some rest = let e = rest some in grind (arith, nat_tests)

pub found : (b : Bool) (me : Candidate) (rows : Table NeighbourRow) → any_better b me rows ≡ true
    → any_at (elected b me rows).address.bits rows ≡ true
unfolding better_of
found b me [] some = grind arith
found b me (e ∷ es) some =
    found_next (is_better_dr b me.priority me.address.bits e) b me _ (source_in e.0) es refl some (found b me es)

pub not_true : (b : Bool) → not b ≡ true → b ≡ false
not_true true is = sym is
not_true false is = refl

pub not_false : (b : Bool) → not b ≡ false → b ≡ true
not_false true is = refl
not_false false is = sym is
