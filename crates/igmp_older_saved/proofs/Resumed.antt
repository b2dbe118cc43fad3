-- What is saved of older hosts passes all tests, and is resumed.
use Rattle.std.{proofs.{Common.{◌≡◌, ◌∙◌, ℕ, ◌-◌, Bool, true, false, nat_le, nat_lt, ◌&&◌, List, [], ◌∷◌, filter, map, Option, Some, None, unwrap_or, Result, Ok, Err, IfOk, refl, sym, ap, subst, arith}, lemmas.Bool.Decides.nat_tests}, specs.{Cmp.{first_so, second_so}, List.{AllByRecursion, list_all, Sorted.IsStrictlySortedBy}}}
use Rattle.pim_types.specs.{Keys.key_cmp, declared.fact.{GroupRecordRow.GroupRecordRow, Key.Key}}
use Rattle.pim_model.specs.Tables.{Table, keys_in}
use Rattle.law_settled.{specs.Ready.Rises, proofs.{ListLaws.{each_passes, list_of_each}, RisingKeys.{sorted_of_up, up_filter, up_of_sorted}}}
use Rattle.pim_worlds.{specs.{Resuming.resume_test, declared.refusal.RestoreRefusal.RestoreRefusal}, proofs.RestedTests.resumable_is_decided}
use Rattle.igmp_older.{specs.{Modes.running, declared.mode.PresentRow.PresentRow}, proofs.Put.put_rising}
use Rattle.igmp_older_saved.specs.{declared.host.HostRow.HostRow, Hosts.{entry_resumed, entry_told, host_told, is_ahead, is_held, is_running, longest_interval, resumed_row, resumed_rows, saved_hosts}, Laws.{HostsAreResumed, SavedHostsAreHeld}, Reading.test_behind}

all_held : (groups : Table GroupRecordRow) (now : ℕ) (rows : Table PresentRow)
    → list_all (is_held groups now) (saved_hosts groups now rows) ≡ true
unfolding saved_hosts
all_held groups now rows =
    list_of_each (is_held groups now) (filter (is_held groups now) (map (entry_told now) rows))
    (each_passes (is_held groups now) (map (entry_told now) rows))

pub saved_hosts_are_held : SavedHostsAreHeld
saved_hosts_are_held s rows h =
    ap (test_behind (resume_test s)) (all_held s.group_records s.present rows)
    ∙ ap (λ (r : Result (Unit {0}) RestoreRefusal). test_behind r true) ((resumable_is_decided s h.rest.settled.ordered).1 h)

-- ---- a row that is saved, resumed, and saved

never : (now : ℕ) → running now 0 ≡ None
never now =
    let not : nat_lt now 0 ≡ false = grind (arith, nat_tests) in
    rw not refl

end_again : (now : ℕ) (end : Option ℕ) → is_ahead now end ≡ true → running now (unwrap_or end 0) ≡ end
end_again now None e = never now
end_again now (Some end) e =
    let ahead : nat_lt now end ≡ true = first_so (nat_lt now end) (nat_le (end - now) longest_interval) e in
    rw ahead refl

row_again : (now : ℕ) (row : HostRow) → is_running now row ≡ true → host_told now (resumed_row row) ≡ row
unfolding is_running
row_again now row e =
    let both = second_so _ (is_ahead now row.one_end && is_ahead now row.two_end) e in
    let one = end_again now row.one_end (first_so (is_ahead now row.one_end) (is_ahead now row.two_end) both) in
    let two = end_again now row.two_end (second_so (is_ahead now row.one_end) (is_ahead now row.two_end) both) in
    λ j. record { one_end = one j; two_end = two j }

module _ (groups : Table GroupRecordRow) (now : ℕ) where
  abbrev held : Key × HostRow → Bool
  held e = is_held groups now e

  entry_again : (e : Key × HostRow) → held e ≡ true → entry_told now (entry_resumed e) ≡ e
  unfolding is_held
  entry_again e h =
      let running = first_so (is_running now e.1) _ (second_so _ _ h) in
      λ j. (e.0, row_again now e.1 running j)

  each_again : (es : Table HostRow) → AllByRecursion (λ (e : Key × HostRow). held e ≡ true) es
      → filter held (map (entry_told now) (map entry_resumed es)) ≡ es
  each_again [] all = refl
  each_again (e ∷ es) all =
      let same = entry_again e all.0 in
      let passes : held (entry_told now (entry_resumed e)) ≡ true = ap held same ∙ all.0 in
      rw passes (λ j. same j ∷ each_again es all.1 j)

module _ {R S : Type 0} (f : Key × R → Key × S) (keys : (e : Key × R) → (f e).0 ≡ e.0) where
  same_keys : (t : Table R) → keys_in (map f t) ≡ keys_in t
  unfolding keys_in
  same_keys [] = refl
  same_keys (e ∷ t) = λ j. keys e j ∷ same_keys t j

  map_rises : (t : Table R) → Rises t → Rises (map f t)
  map_rises t h = subst (λ (ks : List Key). IsStrictlySortedBy key_cmp ks) (sym (same_keys t)) h

pub saved_rise : (groups : Table GroupRecordRow) (now : ℕ) (rows : Table PresentRow) → Rises rows → Rises (saved_hosts groups now rows)
unfolding saved_hosts
saved_rise groups now rows h =
    sorted_of_up _ (up_filter (is_held groups now) _ (up_of_sorted _ (map_rises (entry_told now) (λ e. refl) rows h)))

-- the rows of a list that was gathered
pub rise_if : {V E : Type 0} (r : Result V E) (items : V → Table HostRow) (groups : Table GroupRecordRow) (now : ℕ) (rows : Table PresentRow)
    → Rises rows → IfOk r (λ v. items v ≡ saved_hosts groups now rows) → IfOk r (λ v. Rises (items v))
rise_if (Err e) items groups now rows h is = tt
rise_if (Ok v) items groups now rows h is = subst (λ (t : Table HostRow). Rises t) (sym is) (saved_rise groups now rows h)

again : (groups : Table GroupRecordRow) (now : ℕ) (rows : Table PresentRow)
    → saved_hosts groups now (map entry_resumed (saved_hosts groups now rows)) ≡ saved_hosts groups now rows
unfolding saved_hosts
again groups now rows =
    each_again groups now (filter (is_held groups now) (map (entry_told now) rows)) (each_passes (is_held groups now) (map (entry_told now) rows))

pub hosts_are_resumed : HostsAreResumed
unfolding resumed_rows
hosts_are_resumed groups now rows h =
    let saved : Table HostRow = saved_hosts groups now rows in
    let rise : Rises (map entry_resumed saved) = map_rises entry_resumed (λ e. refl) saved (saved_rise groups now rows h) in
    ap (saved_hosts groups now) (put_rising (map entry_resumed saved) rise) ∙ again groups now rows
