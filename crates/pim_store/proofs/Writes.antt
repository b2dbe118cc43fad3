-- What is written for a group or a source.
use Rattle.std.{proofs.{Common.{◌≡◌, Bool, true, false, cond, [], Option, Some, None, refl, sym, ap, ◌∙◌, subst}, lemmas.Bool.true≢false}, specs.Prelude.{OnErr, OnOk, Result, Ok, Err}}
use Rattle.pim_ip.{specs.declared.addr.Addr.Addr}
use Rattle.pim_types.{specs.{declared.fact.Key.Key, Keys.same_key}, proofs.Keys.equal_keys}
use Rattle.pim_model.{specs.Tables.{Table, drop_at, put, row_at}}
use Rattle.pim_tables.{proofs.Lookups.{row_at-drop_at, row_at-put}}
use Rattle.pim_source_trie.{specs.Entries.entry_key}
use Rattle.pim_store.{specs.{Entry.are_none, Said.{AreEntries, IsEntry, Writes, WritesTimer, mark_key, said, seen, seen_in, timer_in}, declared.marks.Marks.Marks}, proofs.{Empty.{AreBare, AreSilent, none_when_silent}, Places.source_again}}

pub no_entries : (t : Table Marks) → t ≡ [] → AreEntries t
unfolding row_at
no_entries t is k m found =
    let none : row_at t k ≡ None = ap (λ (u : Table Marks). row_at u k) is in cc

module _ (t : Table Marks) (k : Key) (m : Marks) where
  pub dropped : (q : Key) (b : Bool) (o u : Option Marks) → u ≡ cond b None o
      → ((m : Marks) → o ≡ Some m → IsEntry q m) → (m : Marks) → u ≡ Some m → IsEntry q m
  dropped q true o u is all m found = let none : None ≡ Some m = sym is ∙ found in cc
  dropped q false o u is all m found = all m (sym is ∙ found)

  pub entries_dropped : (t' : Table Marks) → t' ≡ drop_at t k → AreEntries t → AreEntries t'
  entries_dropped t' is all q =
      dropped q (same_key q k) (row_at t q) (row_at t' q)
      (ap (λ (u : Table Marks). row_at u q) is ∙ row_at-drop_at k q t) (all q)

  pub drop_writes : (t' : Table Marks) → t' ≡ drop_at t k → AreSilent m → Writes t t' k m
  drop_writes t' is silent x i g s =
      ap (seen_in x i) (ap (λ (u : Table Marks). row_at u (mark_key g s)) is ∙ row_at-drop_at k (mark_key g s) t)
      ∙ go (same_key (mark_key g s) k)
    where
      go : (b : Bool) → seen_in x i (cond b None (row_at t (mark_key g s))) ≡ cond b (seen x m i) (said t x i g s)
      go true = sym (silent x i)
      go false = refl

  pub drop_timer : (t' : Table Marks) → t' ≡ drop_at t k → m.join_timer ≡ None → WritesTimer t t' k m.join_timer
  drop_timer t' is none q =
      ap timer_in (ap (λ (u : Table Marks). row_at u q) is ∙ row_at-drop_at k q t) ∙ go (same_key q k)
    where
      go : (b : Bool) → timer_in (cond b None (row_at t q)) ≡ cond b m.join_timer (timer_in (row_at t q))
      go true = sym none
      go false = refl

  pub written : (q : Key) (b : Bool) → (b ≡ true → IsEntry q m) → (o u : Option Marks) → u ≡ cond b (Some m) o
      → ((m : Marks) → o ≡ Some m → IsEntry q m) → (m : Marks) → u ≡ Some m → IsEntry q m
  written q true entry o u is all n found =
      let same : m ≡ n = cc (sym is ∙ found) in subst (IsEntry q) same (entry refl)
  written q false entry o u is all n found = all n (sym is ∙ found)

  entries_put : (t' : Table Marks) → t' ≡ put t k m → IsEntry k m → AreEntries t → AreEntries t'
  entries_put t' is entry all q =
      written q (same_key q k) (λ same. subst (λ (x : Key). IsEntry x m) (sym (equal_keys q k same)) entry)
      (row_at t q) (row_at t' q)
      (ap (λ (u : Table Marks). row_at u q) is ∙ row_at-put k q t m) (all q)

  put_writes : (t' : Table Marks) → t' ≡ put t k m → Writes t t' k m
  put_writes t' is x i g s =
      ap (seen_in x i) (ap (λ (u : Table Marks). row_at u (mark_key g s)) is ∙ row_at-put k (mark_key g s) t m)
      ∙ go (same_key (mark_key g s) k)
    where
      go : (b : Bool) → seen_in x i (cond b (Some m) (row_at t (mark_key g s))) ≡ cond b (seen x m i) (said t x i g s)
      go true = refl
      go false = refl

  put_timer : (t' : Table Marks) → t' ≡ put t k m → WritesTimer t t' k m.join_timer
  put_timer t' is q =
      ap timer_in (ap (λ (u : Table Marks). row_at u q) is ∙ row_at-put k q t m) ∙ go (same_key q k)
    where
      go : (b : Bool) → timer_in (cond b (Some m) (row_at t q)) ≡ cond b m.join_timer (timer_in (row_at t q))
      go true = refl
      go false = refl

  module _ {T E : Type 0} (t' : Table Marks) where
    pub timer_after : (r : Result T E) → OnOk r (t' ≡ put t k m) → OnOk r (WritesTimer t t' k m.join_timer)
    timer_after (Ok x) put = put_timer t' put
    timer_after (Err e) put = tt

    pub entries_after : (r : Result T E) → OnOk r (t' ≡ put t k m) → OnErr r (t' ≡ t) → IsEntry k m → AreEntries t
        → AreEntries t'
    entries_after (Ok x) put kept entry all = entries_put t' put entry all
    entries_after (Err e) put kept entry all = subst AreEntries (sym kept) all

    pub writes_as : (n : Marks) → m ≡ n → (r : Result T E) → OnOk r (t' ≡ put t k m) → OnOk r (Writes t t' k n)
    writes_as n same (Ok x) put = subst (λ (u : Marks). Writes t t' k u) same (put_writes t' put)
    writes_as n same (Err e) put = tt

-- where some mark is set, or a Join timer runs, and no set has the tunnel
pub entry_of : (group : Addr) (source : Option Addr) (m : Marks) → are_none m ≡ false → AreBare m
    → IsEntry (entry_key group source) m
entry_of group source m is bare = record {
  placed = ap (entry_key group) (sym (source_again source));
  speaks = λ silent none. true≢false (sym (none_when_silent m silent bare none) ∙ is);
  bare = bare;
}
