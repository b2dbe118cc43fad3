-- A router and the rows of older hosts before it, made of bytes, by what is read of these.
use Rattle.std.{proofs.Common.{◌≡◌, ◌∙◌, ℕ, Bool, List, [], Option, Result, Ok, Err, refl, sym, ap, subst}, specs.{List.list_all, Option.option_map_or, Prelude.{IfOk, IfSome, IsSome}}}
use Rattle.pim_ip.{specs.declared.fault.Fault.Fault}
use Rattle.pim_model.{specs.{State.State, Tables.Table}}
use Rattle.pim_saved.{specs.{declared.refusal.SavedRefusal.SavedRefusal, Reading.reading}}
use Rattle.pim_worlds.{specs.{Resuming.{read_test, restore_test}, declared.refusal.RestoreRefusal.RestoreRefusal}}
use Rattle.pim_router.{specs.Standing.{Shown, begun}}
use Rattle.igmp_older_saved.{specs.{declared.{host.HostRow.HostRow, refusal.HeldRefusal.HeldRefusal}, Hosts.{are_held, is_held}, Reading.{held_in, held_read_test, held_reading, held_restore_test, opened, state_behind, test_behind}, Text.Held}}
use Rattle.pim_session.{specs.{Front.Front, Saved.front_resumed}}

-- the rows of a router that is made of a state
pub front_by : (shown : Shown) (s : State) (hosts : Table HostRow) (front : Option Front) → shown ≡ begun s
    → IfSome shown.standing (λ r. front ≡ front_resumed r.state hosts) → front ≡ front_resumed s hosts
front_by shown s hosts front is made = subst (λ (x : Shown). IfSome x.standing (λ r. front ≡ front_resumed r.state hosts)) is made

module _ (hosts : Table HostRow) (bytes : List ℕ) where
  abbrev pub test : Result (Unit {0}) HeldRefusal
  test = held_read_test (held_in (Ok (hosts, bytes)))

  -- the rows are tested by the state of the router that was made
  abbrev pub test_of : Shown → Bool
  test_of shown =
      list_all (is_held (option_map_or (λ r. r.state.group_records) shown.standing []) (option_map_or (λ r. r.state.present) shown.standing 0)) hosts

  pass : (shown : Shown) (b : Bool) (r : Result State SavedRefusal) → reading bytes ≡ r → ((s : State) → reading bytes ≡ Ok s → shown ≡ begun s)
      → read_test r ≡ Ok tt → test_of shown ≡ b → held_read_test (state_behind hosts r) ≡ test_behind (Ok tt) b
  pass shown b (Err e) is made passes held = absurd cc
  pass shown b (Ok s) is made passes held =
      ap (λ (t : Result (Unit {0}) RestoreRefusal). test_behind t (are_held s hosts)) passes
      ∙ ap (test_behind (Ok tt)) (subst (λ (x : Shown). test_of x ≡ b) (made s is) held)

  pub tested_by : (shown : Shown) (b : Bool) → ((s : State) → reading bytes ≡ Ok s → shown ≡ begun s) → restore_test bytes ≡ Ok tt
      → test_of shown ≡ b → test ≡ test_behind (Ok tt) b
  tested_by shown b made passes held = pass shown b (reading bytes) refl made passes held

held_at : (hosts : Table HostRow) (r : Result State SavedRefusal) (h : Held) → state_behind hosts r ≡ Ok h
    → (r ≡ Ok h.state) × (hosts ≡ h.hosts)
held_at hosts (Err e) h is = absurd cc
held_at hosts (Ok s) h is =
    let same : record { hosts = hosts; state = s } ≡ h = cc in
    (ap (λ (x : Held). Ok x.state) same, ap (λ (x : Held). x.hosts) same)

-- what is made of the rows and of the router's bytes is made of all bytes
pub restored_behind : (bytes : List ℕ) (hosts : Table HostRow) (rest : List ℕ) → opened bytes ≡ Ok (hosts, rest)
    → (r : Result (Result (Shown × Option Front) HeldRefusal) Fault)
    → IfOk r (λ made. IfOk made (λ x. (s : State) → reading rest ≡ Ok s → (x.0 ≡ begun s) × (x.1 ≡ front_resumed s hosts)))
    → IfOk r (λ made. IfOk made (λ x. (h : Held) → held_reading bytes ≡ Ok h
    → (x.0 ≡ begun h.state) × (x.1 ≡ front_resumed h.state h.hosts)))
restored_behind bytes hosts rest is (Err fault) made = tt
restored_behind bytes hosts rest is (Ok (Err refusal)) made = tt
restored_behind bytes hosts rest is (Ok (Ok x)) made = λ h read.
    let found = held_at hosts (reading rest) h (sym (ap held_in is) ∙ read) in
    let both = made h.state found.0 in
    (both.0, both.1 ∙ ap (front_resumed h.state) found.1)

-- a router that is made of bytes that pass their tests stands
stands_of : (r : Result Held HeldRefusal) (shown : Shown) → held_read_test r ≡ Ok tt
    → ((h : Held) → r ≡ Ok h → shown ≡ begun h.state) → IsSome shown.standing
stands_of (Err e) shown passes made = absurd cc
stands_of (Ok h) shown passes made = subst (λ (x : Shown). IsSome x.standing) (sym (made h refl)) refl

pub stands_by : (bytes : List ℕ) (shown : Shown) → held_restore_test bytes ≡ Ok tt
    → ((h : Held) → held_reading bytes ≡ Ok h → shown ≡ begun h.state) → IsSome shown.standing
stands_by bytes shown passes made = stands_of (held_reading bytes) shown passes made
