-- Bytes read as a router's state with its groups of older hosts, and which of them a router goes on from.
use Rattle.std.{specs.Prelude.{ℕ, Bool, true, false, ◌-◌, ◌==◌, if◌then◌else◌, length, take, List, [], ◌∷◌, Option, Result, Ok, Err}}
use Rattle.pim_model.{specs.{State.State, Tables.Table}}
use Rattle.pim_saved.{specs.{Reading.{◌>>=◌, Reader, end_at, in_turn, made, reading, table_at, undamaged, word_at}, declared.refusal.SavedRefusal.SavedRefusal}}
use Rattle.pim_worlds.{specs.{Resuming.resume_test, declared.refusal.RestoreRefusal.RestoreRefusal}}
use Rattle.igmp_older_saved.{specs.{Hosts.are_held, Text.{Held, tag}, declared.{host.HostRow.HostRow, refusal.HeldRefusal.HeldRefusal}}}

unfoldable pub host_at : Reader HostRow
host_at bytes =
    made (λ (p : Option ℕ × Option ℕ). record { one_end = p.0; two_end = p.1 }) (in_turn end_at end_at) bytes

abbrev pub is_tag : Result (ℕ × List ℕ) SavedRefusal → Bool
is_tag (Ok w) = w.0 == tag
is_tag (Err refusal) = false

-- rows of older hosts stand in front of the router's bytes
abbrev pub is_tagged : List ℕ → Bool
is_tagged bytes = is_tag (word_at bytes)

-- the bytes before the sum, which is theirs
unfoldable pub before_sum : List ℕ → Result (List ℕ) SavedRefusal
before_sum bytes = undamaged bytes >>= λ u. Ok (take (length bytes - 4) bytes)

-- there is at least one row
abbrev pub some_hosts : Table HostRow → List ℕ → Result (Table HostRow × List ℕ) SavedRefusal
some_hosts [] rest = Err SavedRefusal.OutOfRange
some_hosts (e ∷ more) rest = Ok (e ∷ more, rest)

-- the rows behind their tag, and the router's bytes
unfoldable pub hosts_at : List ℕ → Result (Table HostRow × List ℕ) SavedRefusal
hosts_at bytes = word_at bytes >>= λ w. table_at host_at w.1 >>= λ t. some_hosts t.0 t.1

-- The rows of older hosts, and the router's bytes. The sum is compared before a row is read.
unfoldable pub opened : List ℕ → Result (Table HostRow × List ℕ) SavedRefusal
opened bytes = if is_tagged bytes then (before_sum bytes >>= λ front. hosts_at front) else Ok ([], bytes)

abbrev pub state_behind : Table HostRow → Result State SavedRefusal → Result Held HeldRefusal
state_behind hosts (Ok s) = Ok (record { hosts = hosts; state = s })
state_behind hosts (Err refusal) = Err (HeldRefusal.Router (RestoreRefusal.Bytes refusal))

abbrev pub held_in : Result (Table HostRow × List ℕ) SavedRefusal → Result Held HeldRefusal
held_in (Ok p) = state_behind p.0 (reading p.1)
held_in (Err refusal) = Err HeldRefusal.HostsNotHeld

-- The bytes as a router's state with rows of older hosts.
abbrev pub held_reading : List ℕ → Result Held HeldRefusal
held_reading bytes = held_in (opened bytes)

-- ---- tests

abbrev pub test_behind : Result (Unit {0}) RestoreRefusal → Bool → Result (Unit {0}) HeldRefusal
test_behind (Ok u) true = Ok tt
test_behind (Ok u) false = Err HeldRefusal.HostsNotHeld
test_behind (Err refusal) held = Err (HeldRefusal.Router refusal)

-- a router goes on from the state, and has these rows
abbrev pub held_test : Held → Result (Unit {0}) HeldRefusal
held_test h = test_behind (resume_test h.state) (are_held h.state h.hosts)

abbrev pub held_read_test : Result Held HeldRefusal → Result (Unit {0}) HeldRefusal
held_read_test (Ok h) = held_test h
held_read_test (Err refusal) = Err refusal

-- the tests of bytes
abbrev pub held_restore_test : List ℕ → Result (Unit {0}) HeldRefusal
held_restore_test bytes = held_read_test (held_reading bytes)
